-- In every run of the third form, no reassertion is of more locks than a client may have.
use Rattle.st_lemmas.proofs.Words
use Words.{◌≡◌, ◌≤◌, ◌+◌, ◌==◌, ℕ, Bool, true, false, List, [], ◌∷◌, length, filter_map, map, cons_option, Option, Some, None, refl, sym, ap, subst, arith, if◌then◌else◌, le-leb, length-map, nat_lt}
use Words.{Body, ClientId, Config, DemandedFile, HeldLock, Message, Observation, Output, Request, ServerId, Stamp}
use Words.bodies
use Words.nodes
use Words.outputs
use Words.Client as plain
use Words.ClientLocks as locks
use Words.ClientLocks.{LockCache}
use Words.ClientPages as pages
use Words.ClientPages.{Store}
use Words.ClientPasses as passes
use Words.ClientState.{Association, ClientSession, Requests, Turn, asking}
use Words.Keys.{past, placed, rising, with_key}
use Words.World.{clock_of}
use Rattle.st_rules.specs.declared.observation.Observation.TheVariants as plain_seen
use Rattle.st_laws_steps.specs.Client.Client as client
use Rattle.st_laws_steps.specs.Client.Losses.{Ends, Unknown, Passes, Hardens, Fails}
use Rattle.st_laws_steps.specs.Client.Session.{SessionChange, Keeps, DropsLock, IsReasserted, EndsRequest, NewEpoch, AsksNew, AsksAgain}
use Rattle.st_third.specs.declared.event.ThirdEvent.{ThirdEvent}
use Rattle.st_third.specs.declared.limits.Limits.{Limits}
use Rattle.st_third.specs.declared.observation.ThirdObservation.{ThirdObservation}
use Rattle.st_third.specs.declared.observation.ThirdObservation.TheVariants as seen
use Rattle.st_third.specs.declared.output.ThirdOutput.{ThirdOutput}
use Rattle.st_third.specs.declared.output.ThirdOutput.TheVariants as says
use Rattle.st_third.specs.Events as every
use Rattle.st_third.specs.Events.{third_counted}
use Rattle.st_third.specs.Limits.{limited_association, most_clients}
use Rattle.st_third.specs.State.{Beside, ThirdTurn, session}
use Rattle.st_third.specs.Steps as steps
use Rattle.st_third.specs.Steps.{ThirdStep, ThirdTraced}
use Rattle.st_third.specs.UsedOnce.{reduced}
use Rattle.st_third.specs.World as worlds
use Rattle.st_third.specs.World.{ThirdWorld, third_world}
use Rattle.st_laws_third.specs.Changes.{AsksRight, Bounds, Continues, IsWhole, Sends, Greets, Sees, Asks}
use Rattle.st_laws_third.specs.Changes.{Heard, ThirdChange, Plainly, Says, Leaves, IsBeside, WaitsForRoom, Begins, GivesBack, Reduces, bounds}
use Rattle.st_laws_third.specs.FewRows.{EveryReassertionIsFew, ReassertionsAreFew, has_few_rows, is_few}
use Rattle.st_laws_third.proofs.AllClients.{AllGood, good_after, good_first, good_said}
use Rattle.st_laws_third.proofs.DemandsSeen.{People, mail_throughout, mailed_first, people_first, within_most}
use Rattle.st_laws_third.proofs.Facts.{WordRight}
use Rattle.st_laws_third.proofs.FewLocks.{FewIn, change_few, reduced_few}
use Rattle.st_laws_third.proofs.Folds as folds
use Rattle.st_laws_third.proofs.Mail.{Mailed}
use Rattle.st_laws_third.proofs.Moves.{Moved}
use Rattle.st_laws_third.proofs.ServerWords as words
use Rattle.st_laws_third.proofs.ServerWords.{server_fine}
use Rattle.st_laws_third.proofs.ShortRuns.{all_true}
use Rattle.st_laws_third.proofs.Sound.{Sound, sound_first}
use Rattle.st_laws_third.proofs.Told.{Told, ByClient, ByServer, ByFate, IsFate, SeenOf, ServerSeen, happens_told}
use Rattle.st_laws_third.proofs.Told as told

-- All locks of a cache are no more than it has rows.

length_mapped : {A B : Type 0} (f : A → Option B) (xs : List A) → length (filter_map f xs) ≤ length xs
length_mapped f [] = omega arith
length_mapped {A} {B} f (x ∷ xs) = go (f x) (length_mapped f xs)
  where
    go : (o : Option B) → length (filter_map f xs) ≤ length xs → length (cons_option o (filter_map f xs)) ≤ length (x ∷ xs)
    go None h = omega (arith, h)
    go (Some y) h = omega (arith, h)

length_key : (k : ℕ) (xs : List ℕ) → length (with_key k xs) ≤ 1 + length xs
unfolding with_key placed past
length_key k [] = omega arith
length_key k (x ∷ xs) = go (nat_lt k x) (k == x) (length_key k xs)
  where
    go : (a b : Bool) → length (with_key k xs) ≤ 1 + length xs →
        length (if a then k ∷ (x ∷ xs) else (if b then x ∷ xs else x ∷ with_key k xs)) ≤ 1 + length (x ∷ xs)
    go true b h = omega arith
    go false true h = omega arith
    go false false h = omega (arith, h)

length_rising : (xs : List ℕ) → length (rising xs) ≤ length xs
unfolding rising
length_rising [] = omega arith
length_rising (x ∷ xs) = let a = length_key x (rising xs) in let b = length_rising xs in omega (arith, a, b)

locks_length : (c : LockCache) → length (locks.all_locks c) ≤ length c.rows
unfolding locks.all_locks
locks_length c =
    let a = length_mapped (locks.lock_row_at c) (rising (map locks.ino_of_lock c.rows)) in
    let b = length_rising (map locks.ino_of_lock c.rows) in
    let d = length-map c.rows locks.ino_of_lock in omega (arith, a, b, d)

-- At one server.

abbrev pub RowsIn : Limits → Body → Type 0
RowsIn m (bodies.Reassert rows) = length rows ≤ m.locks
RowsIn m b = Unit {0}

abbrev pub AskedRows : Limits → Option Request → Type 0
AskedRows m None = Unit {0}
AskedRows m (Some q) = RowsIn m q.body

-- the locks of a session are few, and so are the rows that it reasserts
abbrev pub RowsFew : Limits → Option ClientSession → Type 0
RowsFew m None = Unit {0}
RowsFew m (Some s) = (FewIn m (Some s)) × (AskedRows m s.requests.asked)

whole_rows : (m : Limits) (s : ClientSession) (b : Body) → FewIn m (Some s) → IsWhole s.locks b → RowsIn m b
whole_rows m s (bodies.Reassert rows) f w =
    let a = locks_length s.locks in
    let e : length rows ≡ length (locks.all_locks s.locks) = ap (λ xs. length xs) w in
    let x = f.0 in let y = f.1 in omega (arith, a, e, x, y)
whole_rows m s b f w = tt

change_rows : (m : Limits) (run : ℕ) (st : Store) (s u : ClientSession) (c : SessionChange st s u) → AsksRight run st s u c → RowsFew m (Some s) →
    RowsFew m (Some u)
unfolding asking
change_rows m run st s u (Keeps _ _ a) r f =
    (change_few m st s u (Keeps s u a) f.0, subst (λ (q : Requests). AskedRows m q.asked) (sym a.requests) f.1)
change_rows m run st s _ (DropsLock _ ino x) r f = (change_few m st s _ (DropsLock s ino x) f.0, f.1)
change_rows m run st s _ (IsReasserted _) r f = f
change_rows m run st s _ (EndsRequest _ stamp) r f = (f.0, tt)
change_rows m run st s _ (NewEpoch _ epoch n) r f = (change_few m st s _ (NewEpoch s epoch n) f.0, tt)
change_rows m run st s _ (AsksNew _ x now body cutting a c i) r f =
    let z = change_few m st s x (Keeps s x a) f.0 in (z, whole_rows m x body z r.1)
change_rows m run st s _ (AsksAgain _ now q e) r f = (f.0, subst (AskedRows m) e f.1)

plain_rows : (m : Limits) (within : Bounds) (now : Stamp) (t u : Turn) (c : client.Change now t u) → Continues within now t u c → RowsFew m t.here.session →
    RowsFew m u.here.session
unfolding passes.submit_read passes.submit_write passes.submit_command
plain_rows m within now t _ (client.Says _ o p) n f = f
plain_rows m within now t _ (client.Operates _ os) n f = f
plain_rows m within now t _ (client.Answers _ os ops a) n f = f
plain_rows m within now t _ (client.Greets _ g) n f = f
plain_rows m within now t _ (client.TellsLost _ lost) n f = f
plain_rows m within now t _ (client.Begins _ s a b c) n f = absurd n
plain_rows m within now t _ (client.Follows _ s u e g) n f = change_rows m within.run t.here.store s u g.how n.0 (subst (RowsFew m) e f)
plain_rows m within now t _ (client.Learns _ e u h) n f = f
plain_rows m within now t _ (client.Forgets _ ino p i) n f = f
plain_rows m within now t _ (client.Caches _ clean) n f = f
plain_rows m within now t _ (client.Writes _ s g p bytes x sv own y h i) n f = f
plain_rows m within now t _ (client.Reads _ ino p b i clean) n f = f
plain_rows m within now t _ (client.Submits _ s ino p d b e i k w) n f = f

-- a reduction asks nothing
reduced_rows : (m : Limits) (t : ThirdTurn) (s : ClientSession) (d : DemandedFile) (ino : ℕ) → session t ≡ Some s → RowsFew m (session t) →
    RowsFew m (reduced s (Some d) ino t.plain).here.session
unfolding passes.reduce_by passes.reduce_given passes.reduce_to locks.reduce_at locks.reduce_lock
reduced_rows m t s d ino e f = held (locks.lock_of s.locks d.ino) refl
  where
    old : RowsFew m (Some s)
    old = subst (RowsFew m) e f

    few : FewIn m (session t)
    few = subst (FewIn m) (sym e) old.0

    held : (l : Option HeldLock) → locks.lock_of s.locks d.ino ≡ l →
        RowsFew m (passes.reduce_by t.plain s ino (locks.reduce_lock s.locks d l)).here.session
    held None q = f
    held (Some l) q =
        (subst (λ o. FewIn m (passes.reduce_by t.plain s ino (locks.reduce_lock s.locks d o)).here.session) q (reduced_few m t s d ino e few), old.1)

turn_rows : {got : Heard} (now : Stamp) (m : Limits) (t u : ThirdTurn) → ThirdChange got now t u → t.limits ≡ m → RowsFew m (session t) → RowsFew m (session u)
unfolding Rattle.st_third.specs.State.say Rattle.st_third.specs.State.plainly
turn_rows {got} now m t _ (Plainly _ u c p) l f = plain_rows m (bounds got t) now t.plain u c p f
turn_rows {got} now m t _ (Says _ o w) l f = f
turn_rows {got} now m t _ (Leaves _ ls k) l f = f
turn_rows {got} now m t _ (IsBeside _ b x) l f = f
turn_rows {got} now m t _ (WaitsForRoom _ n) l f = f
turn_rows {got} now m t _ (Begins _ epoch stamp e x w) l f = ((ap (λ (z : Limits). z.locks) l, omega arith), tt)
turn_rows {got} now m t _ (GivesBack _ s x e h) l f = subst (RowsFew m) e f
turn_rows {got} now m t _ (Reduces _ s d ino e q i) l f = reduced_rows m t s d ino e f

ends_rows : (m : Limits) (t : Turn) (number : ℕ) (ok : Bool) (v : Turn) → Ends number ok t v → RowsFew m t.here.session → RowsFew m v.here.session
unfolding plain.hardened
ends_rows m t number ok _ Unknown f = f
ends_rows m t number ok _ (Passes x e o) f = f
ends_rows m t number ok _ (Hardens x v e o w q) f = f
ends_rows m t number ok _ (Fails x v e o w q) f = f

-- no word reasserts more
abbrev pub WordRows : Limits → ThirdOutput → Type 0
WordRows m (says.Plain (outputs.Send x)) = RowsIn m x.body
WordRows m o = Unit {0}

sent_rows : (m : Limits) (t : Turn) (x : Message) → Sends t x → RowsFew m t.here.session → RowsIn m x.body
sent_rows m t _ (Greets stamp) f = tt
sent_rows m t _ (Sees s ino g e) f = tt
sent_rows m t _ (Asks s q stamp e p) f =
    let old : RowsFew m (Some s) = subst (RowsFew m) e f in subst (AskedRows m) p old.1

word_rows : (m : Limits) (t : Turn) (o : ThirdOutput) → WordRight t o → RowsFew m t.here.session → WordRows m o
word_rows m t (says.Plain (outputs.Send x)) r f = sent_rows m t x r f
word_rows m t (says.Plain (outputs.Submit number at what)) r f = tt
word_rows m t (says.Plain (outputs.Answer op a)) r f = tt
word_rows m t (says.Plain (outputs.Note n)) r f = tt
word_rows m t (says.Left op) r f = tt
word_rows m t (says.Unsynced op ino) r f = tt
word_rows m t (says.Ended s life end) r f = tt

abbrev pub Rows : Config → Limits → Association → Beside → Type 0
Rows k m a b = RowsFew m a.session

pub rows_law : (k : Config) (m : Limits) (now : Stamp) → folds.Keeps k m now (Rows k m) (WordRows m)
rows_law k m now =
    record {
      change = λ t u c e l i f. turn_rows now m t u c l f;
      word = λ t f o r. word_rows m t.plain o r f;
      ends = λ t b number ok v x f. ends_rows m t number ok v x f;
      noted = λ t b f. f;
      emptied = λ a. tt;
      lost = λ s life. tt;
      ended = λ s life end. tt;
      at_once = λ op a. tt;
    }

pub rows_begun : (k : Config) (m : Limits) (a : Association) → a.session ≡ None → a.store ≡ pages.empty_store → RowsFew m (limited_association m a).session
rows_begun k m a n e = subst (RowsFew m) (sym n) tt

abbrev pub AllRows : ThirdWorld → Type 0
AllRows w = AllGood Rows WordRows rows_law rows_begun w

-- What is observed.

body_rows : (m : Limits) (b : Body) → RowsIn m b → has_few_rows m b ≡ true
body_rows m (bodies.Reassert rows) f = le-leb (length rows) m.locks f
body_rows m b f = refl

no_rows : (m : Limits) (b : Body) → words.NoRun b → has_few_rows m b ≡ true
no_rows m (bodies.Reassert rows) f = absurd f
no_rows m b f = refl

seen_rows : (m : Limits) (c : ClientId) (x : ThirdOutput) (o : ThirdObservation) → SeenOf c x o → WordRows m x → is_few m o ≡ true
seen_rows m c _ _ (told.Sends y k) w = body_rows m y.body w
seen_rows m c _ _ (told.Submits number at what k) w = refl
seen_rows m c _ _ (told.Answers op a) w = refl
seen_rows m c _ _ (told.Leases s end) w = refl
seen_rows m c _ _ (told.Loses s life) w = refl
seen_rows m c _ _ (told.Writes f p bytes k) w = refl
seen_rows m c _ _ (told.Patches f p at bytes k) w = refl
seen_rows m c _ _ (told.Leaves op) w = refl
seen_rows m c _ _ (told.IsUnsynced op ino) w = refl
seen_rows m c _ _ (told.Ends s life end) w = refl

server_rows : (m : Limits) (s : ServerId) (x : Output) (o : Observation) → ServerSeen s x o → words.WordFine x → is_few m (seen.Plain o) ≡ true
server_rows m s _ _ (told.ServerSends y k) w = no_rows m y.body w.1
server_rows m s _ _ (told.Suspects c start) w = refl
server_rows m s _ _ (told.Steals c life) w = refl
server_rows m s _ _ (told.Cuts f p k) w = refl

fate_rows : (m : Limits) (o : Observation) → IsFate o → is_few m (seen.Plain o) ≡ true
fate_rows m (plain_seen.Sent k x) i = absurd i
fate_rows m o i = refl

step_rows : (past : List ThirdStep) (t : ThirdTraced) (e : ThirdEvent) → Sound t.third → Mailed t.third → People t.third → AllRows t.third →
    worlds.refusal t.third e ≡ None → Moved t.third (every.happens (third_counted t.third) e).third →
    ReassertionsAreFew past (steps.third_step t e (every.happens (third_counted t.third) e))
step_rows past t e so ma p f q mv = all_true (is_few t.third.limits) _ (λ o h. one o (happens_told w e so.form o h))
  where
    w : ThirdWorld
    w = third_counted t.third

    counted_sound : Sound w
    counted_sound = record { fits = record { sites = so.fits.sites; there = so.fits.there; pairs = so.fits.pairs }; form = so.form }

    one : (o : ThirdObservation) → Told w o → is_few t.third.limits o ≡ true
    one _ (ByClient c site b input x o there i h s) =
        seen_rows t.third.limits c x o s (good_said Rows WordRows rows_law rows_begun w counted_sound f c site b input there i x h)
    one _ (ByServer s node input x o there h y) =
        server_rows t.third.limits s x o y
        ((server_fine w.world.form node.state (clock_of w.world (nodes.Server s)) input (ma.kept s.0 node there)).said x h)
    one _ (ByFate o i) = fate_rows t.third.limits o i

pub every_reassertion_is_few : EveryReassertionIsFew
unfolding most_clients
every_reassertion_is_few k m clients servers disks blocks es h =
    mail_throughout AllRows (λ w v so g mv. good_after Rows WordRows rows_law rows_begun w v so g mv) ReassertionsAreFew step_rows es []
    (steps.third_traced (third_world k m clients servers disks blocks 3)) (sound_first k m clients servers disks blocks)
    (mailed_first k m clients servers disks blocks) (people_first k m clients servers disks blocks (within_most 1 64 clients h.some_clients))
    (good_first Rows WordRows rows_law rows_begun k m clients servers disks blocks)
