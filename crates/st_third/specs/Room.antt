-- Make room: a change that finds as many other pages dirty as may be waits, and as many of the
-- oldest dirty pages are written out as changes wait.
use Rattle.std.specs.Prelude.{ℕ, ◌+◌, Bool, ◌&&◌, ◌||◌, not, ◌==◌, nat_lt, if◌then◌else◌, List, [], ◌∷◌, length, filter, map, take, Option, Some, None, ⊤}
use Rattle.std.specs.List.{list_any}
use Rattle.st_base.specs.declared.ids.FileId.{FileId}
use Rattle.st_base.specs.declared.ids.PageNo.{PageNo}
use Rattle.st_base.specs.declared.ids.Stamp.{Stamp}
use Rattle.st_messages.specs.declared.ask.Ask.{Ask}
use Rattle.st_messages.specs.declared.ask.Ask.TheVariants as asks
use Rattle.st_messages.specs.declared.answer.AppAnswer.TheVariants as answers
use Rattle.st_messages.specs.declared.output.Note.{Note}
use Rattle.st_messages.specs.declared.output.Note.TheVariants as notes
use Rattle.st_rules.specs.declared.client.Operation.{Operation}
use Rattle.st_rules.specs.declared.client.PageCommand.{PageCommand}
use Rattle.st_rules.specs.declared.pages.DirtyPage.{DirtyPage}
use Rattle.st_rules.specs.Keys.{rising}
use Rattle.st_rules.specs.FlatLog.{overlay}
use Rattle.st_rules.specs.ClientLease as lease
use Rattle.st_rules.specs.ClientPages as pages
use Rattle.st_rules.specs.ClientPages.{Store}
use Rattle.st_rules.specs.ClientPasses as passes
use Rattle.st_rules.specs.ClientPasses.{is_unfailed, may_write}
use Rattle.st_rules.specs.ClientState.{ClientSession, Turn, keep}
use Rattle.st_third.specs.Limits.{is_dirty_full}
use Rattle.st_third.specs.State.{ThirdTurn, is_leaving, plainly, session}

-- The oldest dirty pages, by their versions. A page whose write failed doesn't count, unless it is
-- being written again.
abbrev pub is_hopeful : List PageCommand → DirtyPage → Bool
is_hopeful cs d = is_unfailed d || pages.is_being_written cs d.ino d.page

-- the versions of the dirty pages that count, rising
abbrev pub hopeful : Store → List ℕ
hopeful st = rising (map pages.version_of_dirty (filter (is_hopeful st.commands) st.pages.dirty))

-- the versions of the oldest of them
unfoldable pub oldest : ℕ → Store → List ℕ
oldest count st = take count (hopeful st)

-- Changing a page: it waits for room at the limit, and is refused there if no page may be written
-- out.
abbrev pub waiting_for_room : Operation → ThirdTurn → ThirdTurn
waiting_for_room o t = record (plainly (keep o) t) { room = t.room + 1 }

-- there is no hope of room
abbrev pub is_hopeless : Store → Bool
is_hopeless st = not (nat_lt 0 (length (hopeful st)))

-- at the limit
unfoldable pub without_room : ThirdTurn → Operation → ThirdTurn
without_room t o = if is_hopeless t.plain.here.store then plainly (passes.answer o answers.DirtyFull) t else waiting_for_room o t

-- the page has these bytes now
abbrev pub changed : Operation → FileId → PageNo → List ℕ → Note → Turn → Turn
changed o f p bytes n t = passes.change t o f p n (pages.written t.here.store.pages f.ino p bytes)

-- a page is changed to these bytes
unfoldable pub change_page : ThirdTurn → Operation → FileId → PageNo → List ℕ → Note → ThirdTurn
change_page t o f p bytes n =
    if is_dirty_full t.limits.dirty t.plain.here.store.pages f.ino p then without_room t o else plainly (changed o f p bytes n) t

-- Writing
unfoldable pub write : ThirdTurn → ClientSession → Operation → FileId → PageNo → List ℕ → ThirdTurn
write t s o f p bytes = if may_write t.plain s f p then change_page t o f p bytes (notes.Accepted f p bytes) else plainly (keep o) t

-- a page is fetched
abbrev pub fetched : Operation → FileId → PageNo → Turn → Turn
fetched o f p t = passes.fetch t o f p

-- the page's bytes are cached, or are fetched
unfoldable pub patch_at : ThirdTurn → Operation → FileId → PageNo → ℕ → List ℕ → Option (List ℕ) → ThirdTurn
patch_at t o f p at bytes None = plainly (fetched o f p) t
patch_at t o f p at bytes (Some old) = change_page t o f p (overlay at bytes old) (notes.Patched f p at bytes)

-- Patching
unfoldable pub patch : ThirdTurn → ClientSession → Operation → FileId → PageNo → ℕ → List ℕ → ThirdTurn
patch t s o f p at bytes =
    if may_write t.plain s f p then patch_at t o f p at bytes (pages.cached t.plain.here.store.pages f.ino p) else plainly (keep o) t

-- a read, as in the other forms
abbrev pub read : ClientSession → Operation → FileId → PageNo → Turn → Turn
read s o f p t = passes.read t s o f p

-- Serving an operation to which its file is open
unfoldable pub serve_open : ThirdTurn → ClientSession → Operation → Ask → ThirdTurn
serve_open t s o (asks.Write f p bytes) = write t s o f p bytes
serve_open t s o (asks.Patch f p at bytes) = patch t s o f p at bytes
serve_open t s o (asks.Read f p) = plainly (read s o f p) t
serve_open t s o ask = plainly (keep o) t

-- Writes: when the server is being left, every dirty page is wanted; and the oldest pages are due
-- that make room.
abbrev pub is_wanted : ThirdTurn → ClientSession → ℕ → Bool
is_wanted t s ino = is_leaving t || passes.is_wanted t.plain s ino

-- the page makes room
abbrev pub makes_room : List ℕ → DirtyPage → Bool
makes_room room d = list_any (λ v. v == d.version) room

-- in other phases than flush
abbrev pub is_due_by_need : List ℕ → ThirdTurn → ClientSession → Bool → DirtyPage → Bool
is_due_by_need room t s tick d = (is_wanted t s d.ino && (is_unfailed d || tick)) || makes_room room d

-- by the phase
unfoldable pub is_due : List ℕ → ThirdTurn → ClientSession → Stamp → Bool → DirtyPage → Bool
is_due room t s now tick d =
    if lease.may_drain (lease.standing_of t.plain.config s.lease now) then is_unfailed d else is_due_by_need room t s tick d

-- the page must be written now
abbrev pub is_writable : List ℕ → ThirdTurn → ClientSession → Stamp → Bool → DirtyPage → Bool
is_writable room t s now tick d = not (pages.is_being_written t.plain.here.store.commands d.ino d.page) && is_due room t s now tick d

-- the page is written
abbrev pub written_out : DirtyPage → Turn → Turn
written_out d t = passes.write_out t d

-- a dirty page
unfoldable pub write_due : List ℕ → ThirdTurn → ClientSession → Stamp → Bool → DirtyPage → ThirdTurn
write_due room t s now tick d = if is_writable room t s now tick d then plainly (written_out d) t else t

-- if the page is dirty
unfoldable pub write_page : List ℕ → ThirdTurn → ClientSession → Stamp → Bool → Option DirtyPage → ThirdTurn
write_page room t s now tick None = t
write_page room t s now tick (Some d) = write_due room t s now tick d

-- these pages, in order
unfoldable pub write_each : List ℕ → ClientSession → Stamp → Bool → List (ℕ × PageNo) → ThirdTurn → ThirdTurn
write_each room s now tick [] t = t
write_each room s now tick (x ∷ xs) t =
    write_each room s now tick xs (write_page room t s now tick (pages.dirty_of t.plain.here.store.pages x.0 x.1))

-- with a session
unfoldable pub writes_by : ThirdTurn → Stamp → Bool → Option ClientSession → ThirdTurn
writes_by t now tick None = t
writes_by t now tick (Some s) = write_each (oldest t.room t.plain.here.store) s now tick (pages.dirty_places t.plain.here.store.pages) t

-- Writes
unfoldable pub writes : Stamp → Bool → ThirdTurn → ThirdTurn
writes now tick t = writes_by t now tick (session t)

-- opens all of this file and of those below it
unfoldable pub room_open : ⊤
unfolding oldest without_room change_page write patch_at patch serve_open is_due write_due write_page write_each writes_by writes
room_open = tt
