-- Losses are reported, in every run.
use Rattle.st_lemmas.proofs.Words
use Words.{◌≡◌, ℕ, ◌+◌, ◌⊎◌, Bool, true, false, ◌&&◌, ◌==◌, List, [], ◌∷◌, ◌++◌, Option, Some, None, Ok, Err, refl, sym, ap, ◌∙◌, subst, inl, inr, arith}
use Words.{append_assoc, length-append, if◌then◌else◌, cons_option, Result, find, length, map, not, suc, eq-eqb, eqb-true, ClientId, NodeId, ServerId, Stamp}
use Words.{AppAnswer, Ask, Event, Message, Note, Output, ClientInput, LostPage, Operation, ServerInput, Phase, Fate, LogEntry, Observation, WorldRefusal}
use Words.{IssuedCommand, SentMessage}
use Words.nodes
use Words.answers
use Words.asks
use Words.events
use Words.notes
use Words.outputs
use Words.inputs
use Words.phases
use Words.fates
use Words.seen
use Words.refusals
use Words.Admissible as adm
use Words.Client as cl
use Words.ClientPages as pages
use Words.ClientState as cs
use Words.ClientState.{Association, ClientState, client_turn}
use Words.Disks as disks
use Words.Events as ev
use Words.Events.{WorldTurn, world_step}
use Words.Extents as extents
use Words.History.{Traced, association_of, traced, traced_after}
use Words.Keys.{same_client, same_server}
use Words.Safety.{Step, ask_in, ask_of, ask_of_client, is_crash_of, step}
use Words.Server as server
use Words.Server.{ServerNode}
use Words.World as world
use Words.World.{World, WorldClient, clock_of, fresh_world, is_running, issued_of, node_of, numbered, site_of}
use Words.Lists.{Has}
use Words.Numbers.{get_last, numbered_has, numbered_old}
use Words.Tables.{has_append, has_map}
use Words.Truth.{or_second}
use Rattle.std.specs.Option.{option_or}
use Rattle.st_rules.specs.declared.node.StepRefusal.TheVariants.{Crashed}
use Rattle.st_promises.specs.Losses.{AreLossesTold, IsLossTold, LossesAreTold, owed, owed_after, owed_along, owed_behind, owed_from, with_dirty}
use Rattle.st_lemmas.proofs.Steps.{step_happens, throughout}
use Rattle.st_laws_pages.specs.Disks.Obligations.{FatesHold}
use Rattle.st_laws_pages.specs.Asks.Law.{InEveryRun}
use Rattle.st_laws_pages.proofs.Asks.Says.{client_leaves}
use Rattle.st_laws_pages.proofs.Asks.World.{asks_more, asks_of, asks_same, site_case}
use Rattle.st_laws_pages.proofs.Disks.Steps.{fates_law}
use Rattle.st_laws_pages.proofs.Disks.Whole.{fresh_fates}
use Rattle.st_laws_steps.specs.Lives.Lives.{Once, server_number}
use Rattle.st_laws_reports.proofs.Telling.{Fine, FineAt, OpOk, Rows, SyncOk, along, behind, told_same}
use Rattle.st_laws_reports.proofs.Owing.{NoneOf, Onces, onces, Stands, stepped}

clash : {b : Bool} → b ≡ true → b ≡ false → ⊥
clash x y = cc

-- What is owed after one more step.
from_last : (c : ClientId) (s : ServerId) (past xs : List Step) (x : Step) (rows : List LostPage) → owed_from c s past rows (xs ++ x ∷ []) ≡ owed_after (past ++ xs) x c s (owed_from c s past rows xs)
unfolding owed_from
from_last c s past [] x rows = ap (λ p. owed_after p x c s rows) (none past)
  where
    none : (p : List Step) → p ≡ p ++ []
    none [] = refl
    none (y ∷ p) = ap (λ z. y ∷ z) (none p)
from_last c s past (y ∷ xs) x rows =
    from_last c s (past ++ y ∷ []) xs x (owed_after past y c s rows) ∙ ap (λ p. owed_after p x c s (owed_from c s (past ++ y ∷ []) (owed_after past y c s rows) xs)) (append_assoc past (y ∷ []) xs)

owed_last : (past : List Step) (x : Step) (c : ClientId) (s : ServerId) → owed (past ++ x ∷ []) c s ≡ owed_after past x c s (owed past c s)
owed_last past x c s = from_last c s [] past x []

-- Whose lines these are: a fact of the client of each answer and of each loss.
abbrev LineOf : (ClientId → Type 0) → Observation → Type 0
LineOf P (seen.Lost d s life) = P d
LineOf P (seen.Answered d op a) = P d
LineOf P o = Unit {0}

abbrev LinesOf : (ClientId → Type 0) → List Observation → Type 0
LinesOf P os = (o : Observation) → Has o os → LineOf P o

abbrev NoClient : ClientId → Type 0
NoClient d = ⊥

-- lines of other clients change nothing
along_others : (asked : ℕ → Option Ask) (w : World) (c : ClientId) (s : ServerId) (P : ClientId → Type 0) → ((d : ClientId) → P d → same_client d c ≡ false) → (os : List Observation) → LinesOf P os → (rows : List LostPage) → owed_along asked w c s rows os ≡ rows
unfolding owed_along
along_others asked w c s P f [] h rows = refl
along_others asked w c s P f (o ∷ os) h rows = ap (λ z. owed_along asked w c s z os) (one o (h o (inl refl))) ∙ along_others asked w c s P f os (λ x i. h x (inr i)) rows
  where
    one : (o : Observation) → LineOf P o → owed_behind asked w c s rows o ≡ rows
    one (seen.Lost d t life) p = ap (λ b. if b && same_server t s then with_dirty (association_of w c s) rows else rows) (f d p)
    one (seen.Answered d op (answers.Lost told)) p = ap (λ b. if b then Rattle.st_promises.specs.Losses.told_by (asked op) s rows else rows) (f d p)
    one (seen.Answered d op a) p = refl
    one o p = refl

told_none : (past : List Step) (x : Step) (os lines : List Observation) → LinesOf NoClient lines → AreLossesTold past x os lines
unfolding AreLossesTold
told_none past x os [] h = tt
told_none past x os (o ∷ lines) h = (one o (h o (inl refl)), told_none past x (os ++ o ∷ []) lines (λ y i. h y (inr i)))
  where
    one : (o : Observation) → LineOf NoClient o → IsLossTold past x os o
    one (seen.Answered c op a) p = absurd p
    one o p = tt

along_then : (asked : ℕ → Option Ask) (w : World) (c : ClientId) (s : ServerId) (xs ys : List Observation) (rows : List LostPage) → owed_along asked w c s rows (xs ++ ys) ≡ owed_along asked w c s (owed_along asked w c s rows xs) ys
unfolding owed_along
along_then asked w c s [] ys rows = refl
along_then asked w c s (x ∷ xs) ys rows = along_then asked w c s xs ys (owed_behind asked w c s rows x)

told_then : (past : List Step) (x : Step) (os xs ys : List Observation) → AreLossesTold past x os xs → AreLossesTold past x (os ++ xs) ys → AreLossesTold past x os (xs ++ ys)
unfolding AreLossesTold
told_then past x os [] ys a b = subst (λ z. AreLossesTold past x z ys) (none os) b
  where
    none : (p : List Observation) → p ++ [] ≡ p
    none [] = refl
    none (y ∷ p) = ap (λ z. y ∷ z) (none p)
told_then past x os (o ∷ xs) ys a b = (a.0, told_then past x (os ++ o ∷ []) xs ys a.1 (subst (λ z. AreLossesTold past x z ys) (sym (append_assoc os (o ∷ []) xs)) b))

more_of : (P : ClientId → Type 0) (os : List Observation) (o : Observation) → LineOf P o → LinesOf P os → LinesOf P (os ++ o ∷ [])
more_of P os o f w x h = go (has_append os (o ∷ []) x h)
  where
    go : Has x os ⊎ Has x (o ∷ []) → LineOf P x
    go (inl i) = w x i
    go (inr (inl e)) = subst (LineOf P) (sym e) f
    go (inr (inr i)) = absurd i

-- The lines of a server, and of fates, aren't a client's.
server_one : (s : ServerId) (o : Output) (sc : WorldTurn) → LinesOf NoClient sc.seen → LinesOf NoClient (ev.server_says sc s o).seen
unfolding ev.server_says ev.server_notes ev.cuts ev.sends
server_one s (outputs.Send m) sc h = more_of NoClient sc.seen _ tt h
server_one s (outputs.Note n) sc h = note n
  where
    note : (n : Note) → LinesOf NoClient (ev.server_notes sc s n).seen
    note (notes.Suspected c t) = more_of NoClient sc.seen _ tt h
    note (notes.Stolen c l) = more_of NoClient sc.seen _ tt h
    note (notes.CutDone f p) = more_of NoClient sc.seen _ tt h
    note n = h
server_one s o sc h = h

server_all : (s : ServerId) (os : List Output) (sc : WorldTurn) → LinesOf NoClient sc.seen → LinesOf NoClient (ev.server_says_all s os sc).seen
unfolding ev.server_says_all
server_all s [] sc h = h
server_all s (o ∷ os) sc h = server_all s os (ev.server_says sc s o) (server_one s o sc h)

none_of : (P : ClientId → Type 0) → LinesOf P []
none_of P o h = absurd h

fates_of : (n : ℕ) (es fs : List LogEntry) → LinesOf NoClient (ev.fates_from n es fs)
unfolding ev.fates_from
fates_of n [] fs = none_of NoClient
fates_of n (e ∷ es) [] = none_of NoClient
fates_of n (e ∷ es) (f ∷ fs) = go e.fate f.fate (fates_of (n + 1) es fs)
  where
    first : (o : Observation) (os : List Observation) → LineOf NoClient o → LinesOf NoClient os → LinesOf NoClient (o ∷ os)
    first o os g w x (inl e) = subst (LineOf NoClient) (sym e) g
    first o os g w x (inr h) = w x h

    go : (a b : Fate) → LinesOf NoClient (ev.fates_from (n + 1) es fs) → LinesOf NoClient (ev.fate_seen n a b ++ ev.fates_from (n + 1) es fs)
    go fates.Pending fates.Pending h = h
    go fates.Pending fates.Hard h = first _ _ tt h
    go fates.Pending (fates.Gone c) h = first _ _ tt h
    go fates.Hard b h = h
    go (fates.Gone c) b h = h

-- The lines of a client tell what its outputs do.
module _ (past : List Step) (x : Step) (c : ClientId) where
  abbrev asked : ℕ → Option Ask
  asked op = ask_of past x c op

  abbrev had : ServerId → Option Association
  had s = association_of x.before.world c s

  abbrev Mine : ClientId → Type 0
  Mine d = d ≡ c

  record Tells (now : Rows) (os : List Observation) : Type 0 where
    pub rows : (r : ServerId) → owed_along asked x.before.world c r (owed past c r) os ≡ now r
    pub told : AreLossesTold past x [] os
    pub mine : LinesOf Mine os

  self : same_client c c ≡ true
  self = eq-eqb c.0 c.0 refl

  line : (now : Rows) (o : Output) (os : List Observation) (ob : Observation) → ((r : ServerId) (rows : List LostPage) → owed_behind asked x.before.world c r rows ob ≡ behind asked had r rows o) → IsLossTold past x os ob → LineOf Mine ob → Tells now os → Tells (λ r. behind asked had r (now r) o) (os ++ ob ∷ [])
  unfolding owed_along AreLossesTold
  line now o os ob same told mine k =
      record {
        rows = λ r. along_then asked x.before.world c r os (ob ∷ []) (owed past c r) ∙ same r _ ∙ ap (λ z. behind asked had r z o) (k.rows r);
        told = told_then past x [] os (ob ∷ []) k.told (told, tt);
        mine = more_of Mine os ob mine k.mine;
      }

  client_one : (before : ClientState) (now : Rows) (o : Output) (sc : WorldTurn) → FineAt asked had now o → Tells now sc.seen → Tells (λ r. behind asked had r (now r) o) (ev.client_says sc c before o).seen
  unfolding ev.client_says ev.client_notes ev.sends ev.submits ev.answers_with ev.accepts ev.patches ev.loses
  client_one before now (outputs.Send m) sc f k = line now (outputs.Send m) sc.seen _ (λ r rows. refl) tt tt k
  client_one before now (outputs.Answer op a) sc f k = line now (outputs.Answer op a) sc.seen (seen.Answered c op a) (same a) (told_same (asked op) now _ a k.rows f) refl k
    where
      same : (a : AppAnswer) (r : ServerId) (rows : List LostPage) → owed_behind asked x.before.world c r rows (seen.Answered c op a) ≡ behind asked had r rows (outputs.Answer op a)
      same (answers.Lost told) r rows = ap (λ b. if b then Rattle.st_promises.specs.Losses.told_by (asked op) r rows else rows) self
      same a r rows = refl
  client_one before now (outputs.Submit number at what) sc f k = go (site_of sc.world c)
    where
      go : (o : Option WorldClient) → Tells (λ r. behind asked had r (now r) (outputs.Submit number at what)) (ev.submits sc c o number at what).seen
      go None = k
      go (Some site) = line now (outputs.Submit number at what) sc.seen _ (λ r rows. refl) tt tt k
  client_one before now (outputs.Note n) sc f k = note n
    where
      note : (n : Note) → Tells (λ r. behind asked had r (now r) (outputs.Note n)) (ev.client_notes sc c before n).seen
      note (notes.Leased s e) = line now (outputs.Note (notes.Leased s e)) sc.seen _ (λ r rows. refl) tt tt k
      note (notes.Lost s l) = line now (outputs.Note (notes.Lost s l)) sc.seen (seen.Lost c s l) (λ r rows. ap (λ b. if b && same_server s r then with_dirty (had r) rows else rows) self) tt refl k
      note (notes.Accepted g p bytes) = line now (outputs.Note (notes.Accepted g p bytes)) sc.seen _ (λ r rows. refl) tt tt k
      note (notes.Patched g p at bytes) = line now (outputs.Note (notes.Patched g p at bytes)) sc.seen _ (λ r rows. refl) tt tt k
      note n = k

  client_all : (before : ClientState) (os : List Output) (now : Rows) (sc : WorldTurn) → Fine asked had now os → Tells now sc.seen → Tells (λ r. along asked had r (now r) os) (ev.client_says_all c before os sc).seen
  unfolding ev.client_says_all
  client_all before [] now sc f k = k
  client_all before (o ∷ os) now sc f k = client_all before os (λ r. behind asked had r (now r) o) (ev.client_says sc c before o) f.rest (client_one before now o sc f.one k)

-- What holds of a client: what is owed of each server is what it has of its lost pages, a pending sync has none, and each pending operation is what it was
-- asked under its number.
record SiteOk (owes : Rows) (asks : List Ask) (site : WorldClient) : Type 0 where
  pub at : (a : Association) → Has a site.node.state.associations → owes a.server ≡ a.lost
  pub none : (r : ServerId) → NoneOf r site.node.state.associations → owes r ≡ []
  pub ops : (o : Operation) → Has o site.node.state.operations → SyncOk owes o.ask o
  pub stopped : site.node.running ≡ false → (r : ServerId) → owes r ≡ []
  pub known : (o : Operation) → Has o site.node.state.operations → numbered asks o.op ≡ Some o.ask
  pub count : length asks ≡ site.asks

abbrev AllOk : List Step → World → Type 0
AllOk past w = (c : ClientId) (site : WorldClient) → site_of w c ≡ Some site → SiteOk (λ r. owed past c r) (asks_of past c) site

sync_same : (R S : Rows) → ((r : ServerId) → S r ≡ R r) → (a : Ask) (o : Operation) → SyncOk R a o → SyncOk S a o
sync_same R S e (asks.Sync f) o k = record { unsent = k.unsent; none = ap (λ (z : List LostPage). pages.has_lost z f.ino) (e f.server) ∙ k.none }
sync_same R S e a o k = tt

site_same : (R S : Rows) (xs ys : List Ask) (site : WorldClient) → ((r : ServerId) → S r ≡ R r) → ys ≡ xs → SiteOk R xs site → SiteOk S ys site
site_same R S xs ys site e q k =
    record {
      at = λ a h. e a.server ∙ k.at a h;
      none = λ r f. e r ∙ k.none r f;
      ops = λ o h. sync_same R S e o.ask o (k.ops o h);
      stopped = λ f r. e r ∙ k.stopped f r;
      known = λ o h. ap (λ (z : List Ask). numbered z o.op) q ∙ k.known o h;
      count = ap (λ (z : List Ask). length z) q ∙ k.count;
    }

record Done (past : List Step) (x : Step) : Type 0 where
  pub sites : AllOk (past ++ x ∷ []) x.after.world
  pub told : LossesAreTold past x

-- lines of nobody, or of another client, owe this client nothing
same_owed : (past : List Step) (x : Step) (c : ClientId) (P : ClientId → Type 0) → ((d : ClientId) → P d → same_client d c ≡ false) → LinesOf P x.seen → is_crash_of c x.event ≡ false → (r : ServerId) → owed (past ++ x ∷ []) c r ≡ owed past c r
same_owed past x c P f h e r =
    owed_last past x c r ∙ ap (λ b. if b then [] else owed_along (ask_of past x c) x.before.world c r (owed past c r) x.seen) e
    ∙ along_others (ask_of past x c) x.before.world c r P f x.seen h (owed past c r)

-- An event in which no client takes a step, crashes or starts.
silent : (past : List Step) (t : Traced) (e : Event) (sc : WorldTurn) → LinesOf NoClient sc.seen → ((c : ClientId) → is_crash_of c e ≡ false) → ((c : ClientId) (site : WorldClient) → site_of t.world c ≡ Some site → ask_in c e ≡ None) → sc.world.clients ≡ t.world.clients → AllOk past t.world → Done past (step t e sc)
silent past t e sc h crash unasked same ok =
    record {
      sites = λ c site i. let j = sym (ap (λ z. numbered z c.0) same) ∙ i in
          site_same _ _ _ _ site (same_owed past (step t e sc) c NoClient (λ d p. none d p) h (crash c)) (asks_same past (step t e sc) c (unasked c site j)) (ok c site j);
      told = told_none past (step t e sc) [] sc.seen h;
    }
  where
    none : (d : ClientId) → NoClient d → {A : Type 0} → A
    none d p = absurd p

-- A client takes a step.
flush_clients : (c : ClientId) (s : ClientState) (ss : List ServerId) (w : World) → (ev.flushes c s ss w).clients ≡ w.clients
unfolding ev.flushes
flush_clients c s [] w = refl
flush_clients c s (y ∷ ss) w = flush_clients c s ss (ev.flushed_at w c y s) ∙ in_phase (cl.lease_end_with s y) (cl.phase_with s y (clock_of w (nodes.Client c)))
  where
    under : (o : Option Stamp) → (ev.flushed_under w c y o).clients ≡ w.clients
    under None = refl
    under (Some e) = refl

    in_phase : (o : Option Stamp) (p : Option Phase) → (ev.flushed_in w c y o p).clients ≡ w.clients
    in_phase o (Some phases.Flush) = under o
    in_phase o p = refl

-- the association of a server is found among those of servers that differ
found_own : (al : List Association) → Onces al → (a : Association) → Has a al → find (cs.is_at a.server) al ≡ Some a
found_own [] o a h = absurd h
found_own (b ∷ al) o a (inl e) = ap (λ (z : Association). if cs.is_at a.server z then Some z else find (cs.is_at a.server) al) (sym e) ∙ ap (λ y. if y then Some a else find (cs.is_at a.server) al) (eq-eqb a.server.0 a.server.0 refl)
found_own (b ∷ al) o a (inr h) = go (cs.is_at a.server b) refl (found_own al o.rest a h)
  where
    go : (y : Bool) → cs.is_at a.server b ≡ y → find (cs.is_at a.server) al ≡ Some a → (if y then Some b else find (cs.is_at a.server) al) ≡ Some a
    go true e r = absurd (o.first a h (eqb-true b.server.0 a.server.0 e))
    go false e r = r

-- What a client was asked, in one more step.
asked_old : (past : List Step) (x : Step) (c : ClientId) (op : ℕ) (ask : Ask) → numbered (asks_of past c) op ≡ Some ask → ask_of past x c op ≡ Some ask
asked_old past x c op ask e = ap (λ z. numbered z op) (asks_more past x c) ∙ go (ask_in c x.event)
  where
    none : (xs : List Ask) → xs ++ [] ≡ xs
    none [] = refl
    none (y ∷ xs) = ap (λ z. y ∷ z) (none xs)

    go : (o : Option Ask) → numbered (asks_of past c ++ cons_option o []) op ≡ Some ask
    go None = ap (λ z. numbered z op) (none (asks_of past c)) ∙ e
    go (Some a) = numbered_old (asks_of past c) a op ask e

asked_new : (past : List Step) (x : Step) (c : ClientId) (n : ℕ) (ask : Ask) → length (asks_of past c) ≡ n → x.event ≡ events.App c ask → ask_of past x c (n + 1) ≡ Some ask
unfolding ask_of_client
asked_new past x c n ask k e =
    ap (λ z. numbered z (n + 1)) (asks_more past x c ∙ ap (λ o. asks_of past c ++ cons_option o []) (ap (ask_in c) e ∙ ap (λ b. if b then Some ask else None) (eq-eqb c.0 c.0 refl)))
    ∙ ap (λ m. numbered (asks_of past c ++ ask ∷ []) m) (let y : n + 1 ≡ suc (length (asks_of past c)) = omega (arith, k) in y) ∙ get_last (asks_of past c) ask

asked_one_more : (past : List Step) (x : Step) (c : ClientId) (n : ℕ) (ask : Ask) → length (asks_of past c) ≡ n → x.event ≡ events.App c ask → length (asks_of (past ++ x ∷ []) c) ≡ n + 1
unfolding ask_of_client
asked_one_more past x c n ask k e =
    ap (λ (z : List Ask). length z)
    (asks_more past x c ∙ ap (λ o. asks_of past c ++ cons_option o []) (ap (ask_in c) e ∙ ap (λ b. if b then Some ask else None) (eq-eqb c.0 c.0 refl)))
    ∙ length-append (asks_of past c) (ask ∷ []) ∙ ap (λ m. m + 1) k

other_unasked : (c d : ClientId) (ask : Ask) → same_client d c ≡ false → ask_in d (events.App c ask) ≡ None
unfolding ask_of_client
other_unasked c d ask e = ap (λ b. if b then Some ask else None) e

-- clients that differ, the other way round
other_client : (c d : ClientId) → (c.0 == d.0) ≡ false → same_client d c ≡ false
other_client c d z = far (same_client d c) refl
  where
    far : (b : Bool) → same_client d c ≡ b → b ≡ false
    far false y = refl
    far true y = absurd (clash (eq-eqb c.0 d.0 (sym (eqb-true d.0 c.0 y))) z)

-- a client that is there is not one that is not
there_apart : (w : World) (c d : ClientId) (y : WorldClient) → site_of w c ≡ None → site_of w d ≡ Some y → same_client d c ≡ false
there_apart w c d y j k = far (same_client d c) refl
  where
    gone : ◌≡◌ {A = Option WorldClient} None (Some y) → ⊥
    gone v = cc

    far : (b : Bool) → same_client d c ≡ b → b ≡ false
    far false z = refl
    far true z = absurd (gone (sym (ap (λ n. numbered w.clients n) (eqb-true d.0 c.0 z) ∙ j) ∙ k))

takes : (past : List Step) (t : Traced) (e : Event) (w : World) (c : ClientId) (input : ClientInput) (old site : WorldClient) → w.clients ≡ t.world.clients → w.clocks ≡ t.world.clocks → site_of t.world c ≡ Some old → site.node ≡ old.node → ((d : ClientId) → is_crash_of d e ≡ false) →
    (site.node.running ≡ false → (d : ClientId) → ask_in d e ≡ None) → ((d : ClientId) → (c.0 == d.0) ≡ false → ask_in d e ≡ None) → ((sc : WorldTurn) → length (asks_of (past ++ step t e sc ∷ []) c) ≡ site.asks) →
    ((sc : WorldTurn) → Rattle.st_laws_reports.proofs.Owing.InputOk (λ op. ask_of past (step t e sc) c op) (λ s. association_of t.world c s) (λ r. owed past c r) input) →
    Once (map server_number old.node.state.associations) → AllOk past t.world → Done past (step t e (ev.client_takes w c input site))
unfolding ev.client_takes ev.client_took cl.node_step owed_along
takes past t e w c input old site clients clocks there same crash idle others count input_ok once ok = go site.node.running refl
  where
    now : Stamp
    now = clock_of w (nodes.Client c)

    n : cl.NodeTurn
    n = cl.node_turn site.node (cl.client_step site.node.state now input)

    turn : Bool → WorldTurn
    turn b = ev.client_took w c site (if b then Ok n else Err Crashed)

    here : site_of w c ≡ Some old
    here = ap (λ z. numbered z c.0) clients ∙ there

    mine : SiteOk (λ r. owed past c r) (asks_of past c) old
    mine = ok c old there

    runs : site.node.running ≡ true → Done past (step t e (turn true))
    runs run =
        record {
          sites = λ d y i. one d y (site_case w c old (ev.at_node n.node site) sc.world.clients here left d y i);
          told = tells.told;
        }
      where
        sc : WorldTurn
        sc = turn true

        x : Step
        x = step t e sc

        quiet : WorldTurn
        quiet = ev.quiet (ev.with_site c (ev.at_node n.node site) w)

        left : sc.world.clients ≡ Rattle.st_rules.specs.World.with_numbered c.0 (ev.at_node n.node site) w.clients
        left = flush_clients c n.node.state (world.all_servers (ev.client_says_all c site.node.state n.out quiet).world) (ev.client_says_all c site.node.state n.out quiet).world ∙ (client_leaves c site.node.state n.out quiet).clients

        is_old : (Q : ClientState → Type 0) → Q old.node.state → Q site.node.state
        is_old Q q = subst (λ (m : cl.ClientNode). Q m.state) (sym same) q

        apart : Onces site.node.state.associations
        apart = is_old (λ s. Onces s.associations) (onces old.node.state.associations once)

        own : (a : Association) → Has a site.node.state.associations → association_of t.world c a.server ≡ Some a
        own a h =
            ap (λ (o : Option WorldClient). Rattle.st_rules.specs.History.association_at a.server o) there
            ∙ ap (λ (m : cl.ClientNode). find (cs.is_at a.server) m.state.associations) (sym same) ∙ found_own site.node.state.associations apart a h

        begun : Stands (λ op. ask_of past x c op) (λ s. association_of t.world c s) (λ r. owed past c r) (client_turn site.node.state [])
        begun =
            record {
              now = λ r. owed past c r;
              held = record {
                rows = λ r. refl;
                fine = tt;
                ops = is_old (λ s. (o : Operation) → Has o s.operations → OpOk (λ op. ask_of past x c op) (λ s. association_of t.world c s) (λ r. owed past c r) o) (λ o h. record { known = asked_old past x c o.op o.ask (mine.known o h); sync = mine.ops o h });
                done = is_old (λ s. (a : Association) → Has a s.associations → owed past c a.server ≡ a.lost) mine.at;
                todo = λ a h. absurd h;
                none = λ r f g. is_old (λ s. NoneOf r s.associations → owed past c r ≡ []) (mine.none r) f;
                once_done = apart;
                once_todo = tt;
                apart = λ a b h i q. absurd i;
              };
            }

        ends : Stands (λ op. ask_of past x c op) (λ s. association_of t.world c s) (λ r. owed past c r) (cl.client_step site.node.state now input)
        ends = stepped (λ op. ask_of past x c op) (λ s. association_of t.world c s) (λ r. owed past c r) site.node.state now input (input_ok sc) own begun

        tells : Tells past x c (λ r. along (λ op. ask_of past x c op) (λ s. association_of t.world c s) r (owed past c r) n.out) sc.seen
        tells = client_all past x c site.node.state n.out (λ r. owed past c r) quiet ends.held.fine (record { rows = λ r. start r; told = told_none past x [] [] (none_of NoClient); mine = none_of (λ d. d ≡ c) })
          where
            start : (r : ServerId) → owed_along (λ op. ask_of past x c op) t.world c r (owed past c r) [] ≡ owed past c r
            start r = refl

        owes : (r : ServerId) → owed (past ++ x ∷ []) c r ≡ ends.now r
        owes r =
            owed_last past x c r ∙ ap (λ b. if b then [] else owed_along (ask_of past x c) t.world c r (owed past c r) sc.seen) (crash c)
            ∙ tells.rows r ∙ ends.held.rows r

        new : SiteOk (λ r. owed (past ++ x ∷ []) c r) (asks_of (past ++ x ∷ []) c) (ev.at_node n.node site)
        new =
            record {
              at = λ a h. owes a.server ∙ ends.held.done a h;
              none = λ r f. owes r ∙ ends.held.none r f (λ a h q. h);
              ops = λ o h. sync_same ends.now _ owes o.ask o (ends.held.ops o h).sync;
              stopped = λ f r. absurd (clash run f);
              known = λ o h. (ends.held.ops o h).known;
              count = count sc;
            }

        one : (d : ClientId) (y : WorldClient) → ((c ≡ d) × (y ≡ ev.at_node n.node site)) ⊎ (((c.0 == d.0) ≡ false) × (site_of w d ≡ Some y)) → SiteOk (λ r. owed (past ++ x ∷ []) d r) (asks_of (past ++ x ∷ []) d) y
        one d y (inl q) = subst (λ d. SiteOk (λ r. owed (past ++ x ∷ []) d r) (asks_of (past ++ x ∷ []) d) y) q.0 (subst (SiteOk (λ r. owed (past ++ x ∷ []) c r) (asks_of (past ++ x ∷ []) c)) (sym q.1) new)
        one d y (inr q) =
            site_same _ _ _ _ y (same_owed past x d (λ z. z ≡ c) (λ z p. ap (λ (v : ClientId). v.0 == d.0) p ∙ q.0) tells.mine (crash d)) (asks_same past x d (others d q.0))
            (ok d y (sym (ap (λ z. numbered z d.0) clients) ∙ q.1))

    go : (b : Bool) → site.node.running ≡ b → Done past (step t e (turn b))
    go true q = runs q
    go false q = silent past t e (ev.quiet w) (none_of NoClient) crash (λ d y k. idle q d) clients ok

-- a client that has nothing pending, nothing lost, and owes nothing
record Bare (site : WorldClient) : Type 0 where
  pub lost : (a : Association) → Has a site.node.state.associations → a.lost ≡ []
  pub ops : site.node.state.operations ≡ []

bare_ok : (owes : Rows) (asks : List Ask) (site : WorldClient) → ((r : ServerId) → owes r ≡ []) → length asks ≡ site.asks → Bare site → SiteOk owes asks site
bare_ok owes asks site e q b =
    record {
      at = λ a h. e a.server ∙ sym (b.lost a h);
      none = λ r f. e r;
      ops = λ o h. absurd (subst (Has o) b.ops h);
      stopped = λ f r. e r;
      known = λ o h. absurd (subst (Has o) b.ops h);
      count = q;
    }

bare_map : (f : Association → Association) → ((a : Association) → (f a).lost ≡ []) → (al : List Association) (a : Association) → Has a (map f al) → a.lost ≡ []
bare_map f e al a h = let z = has_map f al a h in ap (λ (y : Association). y.lost) z.2 ∙ e z.0

crash_bare : (site : WorldClient) → Bare (ev.stopped_site site)
unfolding cl.crash
crash_bare site = record { lost = bare_map cl.crashed_association (λ a. refl) site.node.state.associations; ops = refl }

start_bare : (site : WorldClient) → Bare (ev.started_site site)
unfolding cl.start
start_bare site = record { lost = bare_map cl.started_association (λ a. refl) site.node.state.associations; ops = refl }

-- a client that takes an ask runs
ask_runs : (w : World) (c : ClientId) (site : WorldClient) → site_of w c ≡ Some site → adm.cannot_step w (nodes.Client c) ≡ None → site.node.running ≡ true
unfolding adm.stands
ask_runs w c site i e = sym (ap world.site_runs i) ∙ go (is_running w (nodes.Client c)) e
  where
    go : (b : Bool) → option_or (adm.stands (not b) (refusals.NotRunning (nodes.Client c))) (adm.net_full w) ≡ None → b ≡ true
    go true e = refl
    go false e = cc

-- a client that starts did not run
start_stopped : (w : World) (c : ClientId) (site : WorldClient) → site_of w c ≡ Some site → adm.still_running w (nodes.Client c) ≡ None → site.node.running ≡ false
unfolding adm.stands
start_stopped w c site i e = go site.node.running refl
  where
    go : (b : Bool) → site.node.running ≡ b → b ≡ false
    go false q = refl
    go true q = absurd (no (ap (λ o. if o then Some (refusals.Running (nodes.Client c)) else None) (sym (ap world.site_runs i ∙ q)) ∙ e))
      where
        no : ◌≡◌ {A = Option WorldRefusal} (Some (refusals.Running (nodes.Client c))) None → ⊥
        no z = cc

happens_done : (past : List Step) (t : Traced) (e : Event) → adm.refusal t.world e ≡ None → ((c : ClientId) (site : WorldClient) → site_of t.world c ≡ Some site → Once (map server_number site.node.state.associations)) → AllOk past t.world → Done past (step t e (ev.happens (ev.counted t.world) e))
unfolding ev.happens ev.ticks ev.at_client ev.at_server ev.server_takes ev.server_took ev.asks_at ev.delivers ev.delivers_to ev.loses_message ev.marks ev.effects ev.reports_of ev.tells ev.tells_client ev.tells_site ev.advances ev.crashes ev.crashes_client ev.crashes_server ev.starts ev.starts_client ev.starts_server adm.refusal
happens_done past t e q once ok = event e q
  where
    -- a client takes an input that isn't an ask
    client : (e : Event) → ((d : ClientId) → is_crash_of d e ≡ false) → ((d : ClientId) → ask_in d e ≡ None) → (w : World) → w.clients ≡ t.world.clients → w.clocks ≡ t.world.clocks → (c : ClientId) (input : ClientInput) →
        ((asked : ℕ → Option Ask) (had : ServerId → Option Association) (rows : Rows) → Rattle.st_laws_reports.proofs.Owing.InputOk asked had rows input) → (o : Option WorldClient) → site_of t.world c ≡ o → Done past (step t e (ev.at_client w c input o))
    client e crash na w cs ts c input g None i = silent past t e (ev.quiet w) (none_of NoClient) crash (λ d y k. na d) cs ok
    client e crash na w cs ts c input g (Some site) i =
        takes past t e w c input site site cs ts i refl crash (λ f d. na d) (λ d z. na d) (λ sc. ap (λ (z : List Ask). length z) (asks_same past (step t e sc) c (na c)) ∙ (ok c site i).count) (λ sc. g (λ op. ask_of past (step t e sc) c op) (λ s. association_of t.world c s) (λ r. owed past c r)) (once c site i) ok

    from_server : (e : Event) → ((d : ClientId) → is_crash_of d e ≡ false) → ((d : ClientId) → ask_in d e ≡ None) → (s : ServerId) (input : ServerInput) (o : Option ServerNode) → Done past (step t e (ev.at_server (ev.counted t.world) s input o))
    from_server e crash na s input None = silent past t e (ev.quiet (ev.counted t.world)) (none_of NoClient) crash (λ d y k. na d) refl ok
    from_server e crash na s input (Some node) = took (server.node_step node (clock_of (ev.counted t.world) (nodes.Server s)) input)
      where
        leaves : (os : List Output) (sc : WorldTurn) → (ev.server_says_all s os sc).world.clients ≡ sc.world.clients
        leaves os sc = (Rattle.st_laws_pages.proofs.Asks.Says.server_leaves s os sc).clients

        took : (r : Result server.NodeTurn _) → Done past (step t e (ev.server_took (ev.counted t.world) s r))
        took (Err r) = silent past t e (ev.quiet (ev.counted t.world)) (none_of NoClient) crash (λ d y k. na d) refl ok
        took (Ok n) = silent past t e (ev.server_says_all s n.out (ev.quiet (ev.with_node s n.node (ev.counted t.world)))) (server_all s n.out (ev.quiet (ev.with_node s n.node (ev.counted t.world))) (none_of NoClient)) crash (λ d y k. na d) (leaves n.out (ev.quiet (ev.with_node s n.node (ev.counted t.world)))) ok

    nothing : (e : Event) → ((d : ClientId) → is_crash_of d e ≡ false) → ((d : ClientId) → ask_in d e ≡ None) → (w : World) → w.clients ≡ t.world.clients → Done past (step t e (ev.quiet w))
    nothing e crash na w cs = silent past t e (ev.quiet w) (none_of NoClient) crash (λ d y k. na d) cs ok

    marked : (e : Event) → ((d : ClientId) → is_crash_of d e ≡ false) → ((d : ClientId) → ask_in d e ≡ None) → (w : World) (es : List LogEntry) → w.clients ≡ t.world.clients → Done past (step t e (ev.marks w es))
    marked e crash na w es cs = silent past t e (ev.marks w es) (fates_of 1 w.log es) crash (λ d y k. na d) cs ok

    -- a client crashes or starts
    replaced : (e : Event) (sc : WorldTurn) (c : ClientId) (old site : WorldClient) → LinesOf NoClient sc.seen → site_of t.world c ≡ Some old → sc.world.clients ≡ Rattle.st_rules.specs.World.with_numbered c.0 site t.world.clients → Bare site → site.asks ≡ old.asks → ((d : ClientId) → ask_in d e ≡ None) →
        ((r : ServerId) → owed (past ++ step t e sc ∷ []) c r ≡ []) → ((d : ClientId) → (c.0 == d.0) ≡ false → is_crash_of d e ≡ false) → Done past (step t e sc)
    replaced e sc c old site h there left bare counts na owes crash =
        record {
          sites = λ d y i. one d y (site_case t.world c old site sc.world.clients there left d y i);
          told = told_none past (step t e sc) [] sc.seen h;
        }
      where
        one : (d : ClientId) (y : WorldClient) → ((c ≡ d) × (y ≡ site)) ⊎ (((c.0 == d.0) ≡ false) × (site_of t.world d ≡ Some y)) → SiteOk (λ r. owed (past ++ step t e sc ∷ []) d r) (asks_of (past ++ step t e sc ∷ []) d) y
        one d y (inl z) =
            subst (λ d. SiteOk (λ r. owed (past ++ step t e sc ∷ []) d r) (asks_of (past ++ step t e sc ∷ []) d) y) z.0
            (subst (SiteOk (λ r. owed (past ++ step t e sc ∷ []) c r) (asks_of (past ++ step t e sc ∷ []) c)) (sym z.1)
            (bare_ok _ _ site owes (ap (λ (v : List Ask). length v) (asks_same past (step t e sc) c (na c)) ∙ (ok c old there).count ∙ sym counts) bare))
        one d y (inr z) = site_same _ _ _ _ y (same_owed past (step t e sc) d NoClient (λ v p. no v d p) h (crash d z.0)) (asks_same past (step t e sc) d (na d)) (ok d y z.1)
          where
            no : (v d : ClientId) → NoClient v → same_client v d ≡ false
            no v d p = absurd p

    event : (e : Event) → adm.refusal t.world e ≡ None → Done past (step t e (ev.happens (ev.counted t.world) e))
    event (events.Tick (nodes.Client c)) q = client (events.Tick (nodes.Client c)) (λ d. refl) (λ d. refl) (ev.counted t.world) refl refl c inputs.Tick (λ a h r. tt) (site_of t.world c) refl
    event (events.Tick (nodes.Server s)) q = from_server (events.Tick (nodes.Server s)) (λ d. refl) (λ d. refl) s _ (node_of t.world s)
    event (events.App c ask) q = go (site_of t.world c) refl
      where
        go : (o : Option WorldClient) → site_of t.world c ≡ o → Done past (step t (events.App c ask) (ev.asks_at (ev.counted t.world) c ask o))
        go None j = silent past t (events.App c ask) (ev.quiet (ev.counted t.world)) (none_of NoClient) (λ d. refl) (λ d y k. other_unasked c d ask (there_apart t.world c d y j k)) refl ok
        go (Some site) j =
            takes past t (events.App c ask) (ev.counted t.world) c (inputs.App (site.asks + 1) ask) site (ev.asked_once_more site) refl refl j refl (λ d. refl)
            (λ f. absurd (clash (ask_runs t.world c site j (or_second (adm.no_node t.world (nodes.Client c)) _ q)) f)) (λ d z. other_unasked c d ask (other_client c d z)) (λ sc. asked_one_more past (step t (events.App c ask) sc) c site.asks ask (ok c site j).count refl)
            (λ sc. asked_new past (step t (events.App c ask) sc) c site.asks ask (ok c site j).count refl) (once c site j) ok
    event (events.Deliver k) q = go (world.message_of t.world k)
      where
        to : (m : Message) (n : NodeId) → Done past (step t (events.Deliver k) (ev.delivers_to (ev.counted t.world) m n))
        to m (nodes.Client c) = client (events.Deliver k) (λ d. refl) (λ d. refl) (ev.counted t.world) refl refl c (inputs.Control m) (λ a h r. tt) (site_of t.world c) refl
        to m (nodes.Server s) = from_server (events.Deliver k) (λ d. refl) (λ d. refl) s _ (node_of t.world s)

        go : (m : Option SentMessage) → Done past (step t (events.Deliver k) (ev.delivers (ev.counted t.world) m))
        go None = nothing (events.Deliver k) (λ d. refl) (λ d. refl) (ev.counted t.world) refl
        go (Some m) = to m.message (world.receiver_of m)
    event (events.Lose k) q = go (world.message_of t.world k)
      where
        go : (m : Option SentMessage) → Done past (step t (events.Lose k) (ev.quiet (ev.loses_message (ev.counted t.world) k m)))
        go None = nothing (events.Lose k) (λ d. refl) (λ d. refl) (ev.counted t.world) refl
        go (Some m) = nothing (events.Lose k) (λ d. refl) (λ d. refl) _ refl
    event (events.Cut from to) q = nothing (events.Cut from to) (λ d. refl) (λ d. refl) _ refl
    event (events.Heal from to) q = nothing (events.Heal from to) (λ d. refl) (λ d. refl) _ refl
    event (events.Advance ns) q = marked (events.Advance ns) (λ d. refl) (λ d. refl) _ _ refl
    event (events.Effect k) q = marked (events.Effect k) (λ d. refl) (λ d. refl) _ _ refl
    event (events.Report k good) q = go (issued_of t.world k)
      where
        v : World
        v = ev.with_disks (ev.disks_after t.world.disks (disks.done t.world.disks k good)) (ev.counted t.world)

        same : (x : IssuedCommand) (b : Bool) (site : WorldClient) → Done past (step t (events.Report k good) (ev.at_client v x.client (ev.end_told v k good x) (Some site))) → Done past (step t (events.Report k good) (if b then ev.client_takes v x.client (ev.end_told v k good x) site else ev.quiet v))
        same x true site d = d
        same x false site d = nothing (events.Report k good) (λ d. refl) (λ d. refl) v refl

        told : (x : IssuedCommand) (o : Option WorldClient) → site_of t.world x.client ≡ o → Done past (step t (events.Report k good) (ev.tells_client v k good x o))
        told x None j = nothing (events.Report k good) (λ d. refl) (λ d. refl) v refl
        told x (Some site) j = same x (ev.is_same_instance x site) site (client (events.Report k good) (λ d. refl) (λ d. refl) v refl refl x.client (ev.end_told v k good x) (λ a h r. tt) (Some site) j)

        go : (o : Option IssuedCommand) → Done past (step t (events.Report k good) (ev.tells v k good o))
        go None = nothing (events.Report k good) (λ d. refl) (λ d. refl) v refl
        go (Some x) = told x (site_of t.world x.client) refl
    event (events.Crash (nodes.Client c)) q = go (site_of t.world c) refl
      where
        go : (o : Option WorldClient) → site_of t.world c ≡ o → Done past (step t (events.Crash (nodes.Client c)) (ev.crashes_client (ev.counted t.world) c o))
        go None j =
            record {
              sites = λ d y k. site_same _ _ _ _ y (λ r. other d y k r) (asks_same past x d refl) (ok d y k);
              told = told_none past (step t (events.Crash (nodes.Client c)) (ev.quiet (ev.counted t.world))) [] [] (none_of NoClient);
            }
          where
            x : Step
            x = step t (events.Crash (nodes.Client c)) (ev.quiet (ev.counted t.world))

            no : (v d : ClientId) → NoClient v → same_client v d ≡ false
            no v d p = absurd p

            other : (d : ClientId) (y : WorldClient) → site_of t.world d ≡ Some y → (r : ServerId) → owed (past ++ x ∷ []) d r ≡ owed past d r
            other d y k r = same_owed past x d NoClient (λ v p. no v d p) (none_of NoClient) (there_apart t.world c d y j k) r
        go (Some site) j = replaced (events.Crash (nodes.Client c)) sc c site (ev.stopped_site site) (fates_of 1 _ _) j refl (crash_bare site) refl (λ d. refl) owes (other_client c)
          where
            sc : WorldTurn
            sc = ev.crashes_client (ev.counted t.world) c (Some site)

            owes : (r : ServerId) → owed (past ++ step t (events.Crash (nodes.Client c)) sc ∷ []) c r ≡ []
            owes r = owed_last past (step t (events.Crash (nodes.Client c)) sc) c r ∙ ap (λ b. if b then [] else owed_along (ask_of past (step t (events.Crash (nodes.Client c)) sc) c) t.world c r (owed past c r) sc.seen) (eq-eqb c.0 c.0 refl)
    event (events.Crash (nodes.Server s)) q = go (node_of t.world s)
      where
        go : (o : Option ServerNode) → Done past (step t (events.Crash (nodes.Server s)) (ev.quiet (ev.crashes_server (ev.counted t.world) s o)))
        go None = nothing (events.Crash (nodes.Server s)) (λ d. refl) (λ d. refl) _ refl
        go (Some node) = nothing (events.Crash (nodes.Server s)) (λ d. refl) (λ d. refl) _ refl
    event (events.Start (nodes.Client c)) q = go (site_of t.world c) refl
      where
        go : (o : Option WorldClient) → site_of t.world c ≡ o → Done past (step t (events.Start (nodes.Client c)) (ev.quiet (ev.starts_client (ev.counted t.world) c o)))
        go None j = nothing (events.Start (nodes.Client c)) (λ d. refl) (λ d. refl) _ refl
        go (Some site) j = replaced (events.Start (nodes.Client c)) sc c site (ev.started_site site) (none_of NoClient) j refl (start_bare site) refl (λ d. refl) owes (λ d z. refl)
          where
            sc : WorldTurn
            sc = ev.quiet (ev.starts_client (ev.counted t.world) c (Some site))

            no : (v : ClientId) → NoClient v → same_client v c ≡ false
            no v p = absurd p

            owes : (r : ServerId) → owed (past ++ step t (events.Start (nodes.Client c)) sc ∷ []) c r ≡ []
            owes r = same_owed past (step t (events.Start (nodes.Client c)) sc) c NoClient (λ v p. no v p) (none_of NoClient) refl r ∙ (ok c site j).stopped (start_stopped t.world c site j (or_second (adm.no_node t.world (nodes.Client c)) (adm.still_running t.world (nodes.Client c)) q)) r
    event (events.Start (nodes.Server s)) q = go (node_of t.world s)
      where
        go : (o : Option ServerNode) → Done past (step t (events.Start (nodes.Server s)) (ev.quiet (ev.starts_server (ev.counted t.world) s o)))
        go None = nothing (events.Start (nodes.Server s)) (λ d. refl) (λ d. refl) _ refl
        go (Some node) = nothing (events.Start (nodes.Server s)) (λ d. refl) (λ d. refl) _ refl

-- Over whole runs.
Holds : List Step → Traced → Type 0
Holds past t = FatesHold t.world × AllOk past t.world

next : (past : List Step) (t : Traced) (e : Event) (sc : WorldTurn) → Holds past t → world_step t.world e ≡ Ok sc → LossesAreTold past (step t e sc) × Holds (past ++ step t e sc ∷ []) (traced_after e t sc)
unfolding Holds
next past t e sc h q = let d = done in (d.told, (fates_law t.world e sc q h.0, d.sites))
  where
    done : Done past (step t e sc)
    done =
        let z = step_happens t.world e sc q in
        subst (λ y. Done past (step t e y)) (sym z.1) (happens_done past t e z.0 (λ c site i. (h.0.lives.lives.sites c site i).once) h.1)

fresh_ok : (k : _) (clients servers d b form : ℕ) → AllOk [] (fresh_world k clients servers d b form)
unfolding fresh_world owed_from cl.fresh_client
fresh_ok k clients servers d b form c site i = let z = all (extents.numbers 1 clients) site (numbered_has _ c.0 site i) in bare_ok _ _ site (λ r. refl) (sym z.1) z.0
  where
    one : (n : ℕ) → Bare (world.fresh_site k servers n)
    one n = record { lost = bare_none (extents.numbers 1 servers); ops = refl }
      where
        bare_none : (ns : List ℕ) (a : Association) → Has a (map cl.fresh_association ns) → a.lost ≡ []
        bare_none ns a h = let z = has_map cl.fresh_association ns a h in ap (λ (y : Association). y.lost) z.2

    all : (ns : List ℕ) (y : WorldClient) → Has y (map (world.fresh_site k servers) ns) → Bare y × (y.asks ≡ 0)
    all ns y h = let z = has_map (world.fresh_site k servers) ns y h in subst (λ (v : WorldClient). Bare v × (v.asks ≡ 0)) (sym z.2) (one z.0, refl)

pub losses_law : InEveryRun LossesAreTold
unfolding Holds
losses_law k clients servers disks blocks form es head =
    throughout LossesAreTold Holds next es [] (traced (fresh_world k clients servers disks blocks form))
    (fresh_fates k clients servers disks blocks form, fresh_ok k clients servers disks blocks form)
