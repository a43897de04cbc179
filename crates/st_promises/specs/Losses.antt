-- Losses: the pages that were dirty when a lease was lost, of which a client's applications must still be told.
use Rattle.std.specs.Prelude.{ℕ, Bool, true, false, ◌&&◌, ◌==◌, nat_lt, not, if◌then◌else◌, List, [], ◌∷◌, ◌++◌, drop, filter, filter_map, find, map, take, Option, Some, None, ◌≡◌, ⊤}
use Rattle.std.specs.List.{list_any}
use Rattle.st_base.specs.declared.ids.ClientId.{ClientId}
use Rattle.st_base.specs.declared.ids.ServerId.{ServerId}
use Rattle.st_base.specs.declared.rows.LostRow.{LostRow}
use Rattle.st_messages.specs.declared.ask.Ask.{Ask}
use Rattle.st_messages.specs.declared.ask.Ask.TheVariants as asks
use Rattle.st_messages.specs.declared.answer.AppAnswer.{AppAnswer}
use Rattle.st_messages.specs.declared.answer.AppAnswer.TheVariants as answers
use Rattle.st_rules.specs.declared.client.IoKind.{IoKind}
use Rattle.st_rules.specs.declared.client.IoKind.TheVariants as io
use Rattle.st_rules.specs.declared.client.LostPage.{LostPage}
use Rattle.st_rules.specs.declared.client.PageCommand.{PageCommand}
use Rattle.st_rules.specs.declared.observation.Observation.{Observation}
use Rattle.st_rules.specs.declared.observation.Observation.TheVariants as seen
use Rattle.st_rules.specs.declared.pages.DirtyPage.{DirtyPage}
use Rattle.st_rules.specs.Keys.{same_client, same_server}
use Rattle.st_rules.specs.ClientState.{Association}
use Rattle.st_rules.specs.History.{association_of}
use Rattle.st_rules.specs.Safety.{Promise, Step, ask_of, is_crash_of}
use Rattle.st_rules.specs.World.{World}

-- What is owed has its own definitions, apart from the rules of a client.

-- a command that writes
abbrev pub is_to_write : IoKind → Bool
is_to_write io.Read = false
is_to_write (io.Write version) = true

-- a command that writes this page
abbrev pub writes_page : DirtyPage → PageCommand → Bool
writes_page d k = is_to_write k.kind && ((k.ino == d.ino) && (k.page.0 == d.page.0))

-- the failed command, or else the outstanding one, or else 0
abbrev pub writer : Option ℕ → Option PageCommand → ℕ
writer None None = 0
writer None (Some k) = k.number
writer (Some failed) k = failed

-- a page that was dirty, with the command that should have written it
abbrev pub owed_page : List PageCommand → DirtyPage → LostPage
owed_page ks d = record { ino = d.ino; page = d.page; command = writer d.failed (find (writes_page d) ks) }

-- a row of the same page
abbrev pub is_of_page : LostPage → LostPage → Bool
is_of_page r x = (x.ino == r.ino) && (x.page.0 == r.page.0)

-- with one more row, in place of one of the same page
abbrev pub owing : LostPage → List LostPage → List LostPage
owing r rows = filter (λ x. not (is_of_page r x)) rows ++ r ∷ []

-- with each of these pages that were dirty
unfoldable pub owing_all : List PageCommand → List DirtyPage → List LostPage → List LostPage
owing_all ks [] rows = rows
owing_all ks (d ∷ ds) rows = owing_all ks ds (owing (owed_page ks d) rows)

-- with the dirty pages of a client at a server
abbrev pub with_dirty : Option Association → List LostPage → List LostPage
with_dirty None rows = rows
with_dirty (Some a) rows = owing_all a.store.commands a.store.pages.dirty rows

-- a number among greater ones, or the same
unfoldable pub joined : ℕ → ℕ → List ℕ → List ℕ → List ℕ
joined k n ns rest = if k == n then n ∷ ns else n ∷ rest

-- one more number among rising ones, each once
unfoldable pub among : ℕ → List ℕ → List ℕ
among k [] = k ∷ []
among k (n ∷ ns) = if nat_lt k n then k ∷ (n ∷ ns) else joined k n ns (among k ns)

-- these numbers, each once, in rising order
unfoldable pub in_order : List ℕ → List ℕ
in_order [] = []
in_order (k ∷ ks) = among k (in_order ks)

-- a row of the file
abbrev pub is_of_file : ℕ → LostPage → Bool
is_of_file ino r = r.ino == ino

-- rows of the file are owed
abbrev pub owes : List LostPage → ℕ → Bool
owes rows ino = list_any (is_of_file ino) rows

-- the number of a row's page
abbrev pub page_number : LostPage → ℕ
page_number r = r.page.0

-- the row of a page of the file
abbrev pub row_of_page : List LostPage → ℕ → ℕ → Option LostPage
row_of_page rows ino p = find (λ r. (r.ino == ino) && (r.page.0 == p)) rows

-- the rows of a file, by rising page
unfoldable pub rows_of_file : List LostPage → ℕ → List LostPage
rows_of_file rows ino = filter_map (row_of_page rows ino) (in_order (map page_number (filter (is_of_file ino) rows)))

-- a row, as it is reported
abbrev pub as_told : LostPage → LostRow
as_told r = record { page = r.page; command = r.command }

-- what a sync of the file reports: at most 1,024 rows
unfoldable pub owed_of_file : List LostPage → ℕ → List LostRow
owed_of_file rows ino = map as_told (take 1024 (rows_of_file rows ino))

-- what is owed then
unfoldable pub still_owed : List LostPage → ℕ → List LostPage
still_owed rows ino = filter (λ r. not (is_of_file ino r)) rows ++ drop 1024 (rows_of_file rows ino)

-- the pages of a sync's file were told
abbrev pub told_by : Option Ask → ServerId → List LostPage → List LostPage
told_by (Some (asks.Sync f)) s rows = if same_server f.server s then still_owed rows f.ino else rows
told_by ask s rows = rows

-- What a client must still report of a server after one more line of an event, by what it was asked and the world before the event: if its lease is lost, the
-- pages that were dirty join; and what a sync was told is no longer owed.
abbrev pub owed_behind : (ℕ → Option Ask) → World → ClientId → ServerId → List LostPage → Observation → List LostPage
owed_behind asked w c s rows (seen.Lost d t life) = if same_client d c && same_server t s then with_dirty (association_of w c s) rows else rows
owed_behind asked w c s rows (seen.Answered d op (answers.Lost told)) = if same_client d c then told_by (asked op) s rows else rows
owed_behind asked w c s rows o = rows

-- after these lines, in order
unfoldable pub owed_along : (ℕ → Option Ask) → World → ClientId → ServerId → List LostPage → List Observation → List LostPage
owed_along asked w c s rows [] = rows
owed_along asked w c s rows (o ∷ os) = owed_along asked w c s (owed_behind asked w c s rows o) os

-- an answer to a sync: if pages of its file are owed it tells exactly these, by rising page, at most 1,024 at once, or it is refused since 16 operations are
-- pending; and if none are owed it reports none
abbrev pub IsToldBy : Bool → List LostRow → AppAnswer → Type 0
IsToldBy true rows (answers.Lost told) = told ≡ rows
IsToldBy true rows answers.OpsFull = ⊤
IsToldBy true rows answer = ⊥
IsToldBy false rows (answers.Lost told) = ⊥
IsToldBy false rows answer = ⊤

-- an answer to an ask, by what is owed of each server
abbrev pub IsToldTo : Option Ask → (ServerId → List LostPage) → AppAnswer → Type 0
IsToldTo (Some (asks.Sync f)) rows answer = IsToldBy (owes (rows f.server) f.ino) (owed_of_file (rows f.server) f.ino) answer
IsToldTo ask rows (answers.Lost told) = ⊥
IsToldTo ask rows answer = ⊤

-- Losses are reported: the pages that were dirty when a client's lease at a server was lost are owed to its applications. While pages of a file are owed, a
-- sync of the file is answered `lost` with exactly these and the command that should have written each, at most 1,024 at once by rising page. Those are then no
-- longer owed. Or it is refused with `opsfull`; "Faults have a cause" says when that may be. While none are owed, no sync is answered so, and nothing else ever
-- is. A client that crashes owes nothing.
abbrev pub owed_after : List Step → Step → ClientId → ServerId → List LostPage → List LostPage
owed_after past x c s rows = if is_crash_of c x.event then [] else owed_along (ask_of past x c) x.before.world c s rows x.seen

-- what is owed after more steps
unfoldable pub owed_from : ClientId → ServerId → List Step → List LostPage → List Step → List LostPage
owed_from c s past rows [] = rows
owed_from c s past rows (x ∷ xs) = owed_from c s (past ++ x ∷ []) (owed_after past x c s rows) xs

-- what a client owes of a server after these steps
abbrev pub owed : List Step → ClientId → ServerId → List LostPage
owed past c s = owed_from c s [] [] past

-- and after lines of the next step
abbrev pub owed_at : List Step → Step → List Observation → ClientId → ServerId → List LostPage
owed_at past x os c s = owed_along (ask_of past x c) x.before.world c s (owed past c s) os

-- an observation that isn't an answer owes nothing
abbrev pub IsLossTold : List Step → Step → List Observation → Observation → Type 0
IsLossTold past x os (seen.Answered c op answer) = IsToldTo (ask_of past x c op) (owed_at past x os c) answer
IsLossTold past x os o = ⊤

-- each of these observations, after those before it
unfoldable pub AreLossesTold : List Step → Step → List Observation → List Observation → Type 0
AreLossesTold past x os [] = ⊤
AreLossesTold past x os (o ∷ rest) = IsLossTold past x os o × AreLossesTold past x (os ++ o ∷ []) rest

-- Losses are reported
abbrev pub LossesAreTold : Promise
LossesAreTold past x = AreLossesTold past x [] x.seen

-- opens all of this file
unfoldable pub losses_open : ⊤
unfolding owing_all joined among in_order rows_of_file owed_of_file still_owed owed_along owed_from AreLossesTold
losses_open = tt
