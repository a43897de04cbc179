-- What an event does at one server, and so to all.
use Rattle.st_lemmas.proofs.Words
use Words.{◌≡◌, ◌≢◌, ℕ, suc, ◌+◌, ◌≤◌, ◌<◌, ◌^◌, Bool, true, false, List, [], ◌∷◌, ◌++◌, length, map, Option, Some, None, refl, sym, ap, ◌∙◌, subst}
use Words.{arith, append_assoc, length-append, zero, set, slice_get, if◌then◌else◌, ◌==◌, is_some, IfOk, OnOk, Result, Ok, Err, GrantNo, ServerId}
use Words.{Mode, LockRow, Verdict}
use Words.modes
use Words.Locks.{Acquired, Locks, Released, acquire, is_under, release, release_to, released, released_at, row_of}
use Words.World.{numbered, with_numbered}
use Words.Lookups.{if_true, if_false, some_is}
use Words.Tables.{and_both}
use Words.Lengths.{map_last, set_same}
use Words.Truth.{eqb_self}
use Rattle.st_locks.specs.Calls as locks
use Rattle.st_lock_tables.specs.declared.refusal.LockRefusal.{LockRefusal}
use Rattle.st_lock_tables.specs.declared.refusal.LockRefusal.TheVariants as lock_refusals
use Rattle.st_move.specs.declared.record.ContainerRecord.{ContainerRecord}
use Rattle.st_move.specs.declared.record.MoveMessage.{MoveMessage}
use Rattle.st_move.specs.declared.record.ContainerState.{ContainerState}
use Rattle.st_move.specs.declared.record.ContainerState.TheVariants.{Holding, Leaving, Sent, Gone}
use Rattle.st_move.specs.declared.refusal.MoveRefusal.{MoveRefusal}
use Rattle.st_move.specs.declared.refusal.MoveRefusal.TheVariants as refusals
use Rattle.st_move.specs.declared.site.MoveSite.{MoveSite}
use Rattle.st_move.specs.declared.world.MoveAnswer.{MoveAnswer}
use Rattle.st_move.specs.declared.world.MoveAnswer.TheVariants.{Done, Listed, Refused, NoServer, NoLock, NoMessage, LostMessage, Sends}
use Rattle.st_move.specs.declared.world.MoveEvent.{MoveEvent}
use Rattle.st_move.specs.declared.world.SentMove.{SentMove}
use Rattle.st_move.specs.Calls.{Answers, Counts, count_at}
use Rattle.st_move.specs.Conditions.{CanGoOn, CanLock}
use Rattle.st_move.specs.Containers.{Containers, after_order, after_put, after_take, after_tick, answer_to, changeable, container_of, found, held, images}
use Rattle.st_move.specs.Containers.{is_holding, listed, serves, serves_by, unless_leaving, unless_sent}
use Rattle.st_move.specs.Law.{MoveHistory, fresh_history, noted, run_moves}
use Rattle.st_move.specs.Network.{AreKept, CanHappen, DoesAt, IsReached, MoveNetwork, Refuses, addressed, turned, with_containers}
use Rattle.st_move.specs.World.{MoveTurn, MoveWorld, answer_sent, deliver_at, first, happens, has_lock, list_at, list_told, lock_at, lock_told, locked, lose_at}
use Rattle.st_move.specs.World.{lost_move, one, order_at, order_for, order_told, put_at, put_told, sends_behind, sent_move, taken_by, tick_at, ticked, told}
use Rattle.st_move.specs.World.{unlock_at, unlocked, with_site}
use Rattle.st_move.proofs.Bounds.{moves_go_on}
use Rattle.st_move.proofs.Runs.{no_update_is_lost}

numbered_same : {A : Type 0} (xs : List A) (n : ℕ) (x : A) → numbered xs n ≡ Some x → with_numbered n x xs ≡ xs
numbered_same xs zero x e = cc
numbered_same xs (suc n) x e = set_same xs n x e

pub numbered_at : {A : Type 0} (xs : List A) (n p : ℕ) (x : A) → n ≡ p + 1 → slice_get xs p ≡ Some x → numbered xs n ≡ Some x
numbered_at xs n p x e f = let g : n ≡ suc p = e ∙ omega arith in ap (numbered xs) g ∙ f

pub with_numbered_at : {A : Type 0} (xs : List A) (n p : ℕ) (x : A) → n ≡ p + 1 → with_numbered n x xs ≡ set xs p x
with_numbered_at xs n p x e = let g : n ≡ suc p = e ∙ omega arith in ap (λ k. with_numbered k x xs) g

-- only an answer, in a world in which nothing changed
told_same : (w : MoveWorld) (s : ServerId) (x : MoveSite) (a : MoveAnswer) → numbered w.sites s.0 ≡ Some x → told w a ≡ told (with_site s x w) a
told_same w s x a e = ap (λ xs. told (record { sites = xs; sent = w.sent }) a) (sym (numbered_same w.sites s.0 x e))

-- refusals other than lack of memory
counts_refused : {S : Type 0} (count : S → ℕ) (old new : S) (e : MoveRefusal) (rule : Result S MoveRefusal) → e ≢ refusals.Memory → Counts count old new (Err e) rule → (rule ≡ Err e) × (new ≡ old)
counts_refused count old new refusals.Memory rule n h = absurd (n refl)
counts_refused count old new (refusals.NoContainer c) rule n h = h
counts_refused count old new refusals.Absent rule n h = h
counts_refused count old new (refusals.Leaving to) rule n h = h
counts_refused count old new (refusals.Redirect to version) rule n h = h
counts_refused count old new (refusals.Full bytes) rule n h = h
counts_refused count old new refusals.Same rule n h = h

answers_refused : {S : Type 0} (old new : S) (e : MoveRefusal) (rule : Result S MoveRefusal) → e ≢ refusals.Memory → Answers old new (Err e) rule → (rule ≡ Err e) × (new ≡ old)
answers_refused old new refusals.Memory rule n h = absurd (n refl)
answers_refused old new (refusals.NoContainer c) rule n h = h
answers_refused old new refusals.Absent rule n h = h
answers_refused old new (refusals.Leaving to) rule n h = h
answers_refused old new (refusals.Redirect to version) rule n h = h
answers_refused old new (refusals.Full bytes) rule n h = h
answers_refused old new refusals.Same rule n h = h

-- a refusal is answered, and the server is as it was
refused_does : (old : MoveSite) (new : Containers) (e : MoveRefusal) (a : MoveAnswer) (w : MoveWorld) (s : ServerId) → new ≡ old.containers → Refuses e a → numbered w.sites s.0 ≡ Some old
    → told w (Refused e) ≡ told (with_site s (with_containers old new) w) a
refused_does old new e a w s n r i =
    told_same w s old (Refused e) i ∙ ap (λ m. told (with_site s (with_containers old m) w) (Refused e)) (sym n) ∙ ap (told (with_site s (with_containers old new) w)) (sym r.0)

pub put_err : (old : MoveSite) (new : Containers) (c : ℕ) (u : List ℕ) (e : MoveRefusal) (a : MoveAnswer) → Counts (count_at c) old.containers new (Err e) (after_put old.containers c u) → Refuses e a
    → DoesAt old (with_containers old new) a (λ w s. put_at w s c u (Some old))
unfolding put_at put_told
put_err old new c u e a h r w s i =
    let k : (after_put old.containers c u ≡ Err e) × (new ≡ old.containers) = counts_refused (count_at c) old.containers new e (after_put old.containers c u) r.1 h in
    ap (put_told w s old c) k.0 ∙ refused_does old new e a w s k.1 r i

pub list_ok : (old : MoveSite) (c : ℕ) (us : List (List ℕ)) → listed old.containers c ≡ Ok us → DoesAt old old (Listed us) (λ w s. list_at w s c (Some old))
unfolding list_at list_told
list_ok old c us h w s i = ap (list_told w) h ∙ told_same w s old (Listed us) i

pub list_err : (old : MoveSite) (c : ℕ) (e : MoveRefusal) (a : MoveAnswer) → listed old.containers c ≡ Err e → Refuses e a → DoesAt old old a (λ w s. list_at w s c (Some old))
unfolding list_at list_told
list_err old c e a h r w s i = ap (list_told w) h ∙ refused_does old old.containers e a w s refl r i

serves_held : (m : Containers) (c : ℕ) → serves m c ≡ true → (r : ContainerRecord) × (held m c ≡ Ok r)
unfolding changeable unless_leaving unless_sent
serves_held m c h = go (found m.records c) h
  where
    by : (r : ContainerRecord) (st : ContainerState) → is_holding st ≡ true → unless_leaving r st ≡ Ok r
    by r Holding e = refl
    by r (Leaving to) e = cc
    by r (Sent to) e = cc
    by r (Gone to) e = cc

    go : (f : Result ContainerRecord MoveRefusal) → serves_by f ≡ true → (r : ContainerRecord) × (changeable f ≡ Ok r)
    go (Ok r) e = (r, by r r.state e)
    go (Err g) e = cc

pub lock_ok : (old : MoveSite) (new : Locks) (c : ℕ) → serves old.containers c ≡ true → new ≡ locked old.locks c
    → DoesAt old (record { containers = old.containers; locks = new }) Done (λ w s. lock_at w s c (Some old))
unfolding lock_at lock_told
lock_ok old new c h n w s i =
    let k : (r : ContainerRecord) × (held old.containers c ≡ Ok r) = serves_held old.containers c h in
    ap (lock_told w s old c) k.1 ∙ ap (λ l. told (with_site s (record { containers = old.containers; locks = l }) w) Done) (sym n)

pub lock_err : (old : MoveSite) (c : ℕ) (e : MoveRefusal) (a : MoveAnswer) → held old.containers c ≡ Err e → Refuses e a → DoesAt old old a (λ w s. lock_at w s c (Some old))
unfolding lock_at lock_told
lock_err old c e a h r w s i = ap (lock_told w s old c) h ∙ refused_does old old.containers e a w s refl r i

pub unlock_does : (old : MoveSite) (new : Locks) (c : ℕ) (b : Bool) → b ≡ has_lock old.locks c → new ≡ (if b then unlocked old.locks c else old.locks)
    → DoesAt old (record { containers = old.containers; locks = new }) (if b then Done else NoLock) (λ w s. unlock_at w s c (Some old))
unfolding unlock_at
unlock_does old new c true e n w s i =
    if_true (has_lock old.locks c) _ _ (sym e) ∙ ap (λ l. told (with_site s (record { containers = old.containers; locks = l }) w) Done) (sym n)
unlock_does old new c false e n w s i =
    if_false (has_lock old.locks c) _ _ (sym e) ∙ told_same w s old NoLock i ∙ ap (λ l. told (with_site s (record { containers = old.containers; locks = l }) w) NoLock) (sym n)

pub order_ok : (old : MoveSite) (new : Containers) (c : ℕ) (to : ServerId) (u : Unit) → Answers old.containers new (Ok u) (after_order old.containers c to)
    → DoesAt old (with_containers old new) Done (λ w s. order_told w s old (after_order old.containers c to))
unfolding order_told
order_ok old new c to u h w s i = ap (order_told w s old) h

pub order_err : (old : MoveSite) (new : Containers) (c : ℕ) (to : ServerId) (e : MoveRefusal) (a : MoveAnswer) → Answers old.containers new (Err e) (after_order old.containers c to) → Refuses e a
    → DoesAt old (with_containers old new) a (λ w s. order_told w s old (after_order old.containers c to))
unfolding order_told
order_err old new c to e a h r w s i =
    let k : (after_order old.containers c to ≡ Err e) × (new ≡ old.containers) = answers_refused old.containers new e (after_order old.containers c to) r.1 h in
    ap (order_told w s old) k.0 ∙ refused_does old new e a w s k.1 r i

-- Lock rows.

row_told : (o : Option LockRow) (g : GrantNo) (m : Mode) → Some (g, m) ≡ locks.told o → (r : LockRow) × ((o ≡ Some r) × (g ≡ r.g))
row_told None g m e = cc
row_told (Some r) g m e = (r, (refl, ap (λ p. p.0) (some_is e)))

pub release_some : (l new : Locks) (c : ℕ) (g : GrantNo) (m : Mode) (b : Bool) → CanLock l → Some (g, m) ≡ locks.told (row_of l one c) → released l one first c g modes.None ≡ record { locks = new; found = b }
    → (has_lock l c ≡ true) × (new ≡ unlocked l c)
unfolding released released_at release release_to unlocked
release_some l new c g m b can e f =
    let k : (r : LockRow) × ((row_of l one c ≡ Some r) × (g ≡ r.g)) = row_told (row_of l one c) g m e in
    let u : is_under first g k.0 ≡ true = and_both (k.0.life.0 == 1) (k.0.g.0 == g.0) (ap (λ z. z.0 == 1) (can.releases c k.0 k.1.0))
    (ap (λ z. k.0.g.0 == z.0) k.1.1 ∙ eqb_self k.0.g.0) in
    let p : released l one first c g modes.None ≡ release l one c modes.None = ap (released_at l one first c g modes.None) k.1.0 ∙ if_true (is_under first g k.0) _ _ u in
    (ap is_some k.1.0, ap (λ (z : Released). z.locks) (sym f ∙ p))

-- From one server to all.
pub each_ok : {A E : Type 0} (P Q : A → Type 0) (r : Result A E) → ((a : A) → P a → Q a) → IfOk r P → IfOk r Q
each_ok P Q (Ok a) f h = f a h
each_ok P Q (Err e) f h = h

-- the world with another server at this place
abbrev pub placed : MoveWorld → ℕ → MoveSite → MoveWorld
placed w p x = record { sites = set w.sites p x; sent = w.sent }

pub at_server : (rule : MoveWorld → ServerId → Option MoveSite → MoveTurn) (w : MoveWorld) (s : ServerId) (p : ℕ) (old new : MoveSite) (a : MoveAnswer) → s.0 ≡ p + 1 → slice_get w.sites p ≡ Some old
    → DoesAt old new a (λ v t. rule v t (Some old)) → rule w s (numbered w.sites s.0) ≡ told (placed w p new) a
at_server rule w s p old new a e f d =
    ap (rule w s) (numbered_at w.sites s.0 p old e f) ∙ d w s (numbered_at w.sites s.0 p old e f) ∙ ap (λ xs. told (record { sites = xs; sent = w.sent }) a) (with_numbered_at w.sites s.0 p new e)

pub put_nowhere : (w : MoveWorld) (s : ServerId) (c : ℕ) (u : List ℕ) → numbered w.sites s.0 ≡ None → put_at w s c u (numbered w.sites s.0) ≡ told w (NoServer s)
unfolding put_at
put_nowhere w s c u e = ap (put_at w s c u) e

pub list_nowhere : (w : MoveWorld) (s : ServerId) (c : ℕ) → numbered w.sites s.0 ≡ None → list_at w s c (numbered w.sites s.0) ≡ told w (NoServer s)
unfolding list_at
list_nowhere w s c e = ap (list_at w s c) e

pub lock_nowhere : (w : MoveWorld) (s : ServerId) (c : ℕ) → numbered w.sites s.0 ≡ None → lock_at w s c (numbered w.sites s.0) ≡ told w (NoServer s)
unfolding lock_at
lock_nowhere w s c e = ap (lock_at w s c) e

pub unlock_nowhere : (w : MoveWorld) (s : ServerId) (c : ℕ) → numbered w.sites s.0 ≡ None → unlock_at w s c (numbered w.sites s.0) ≡ told w (NoServer s)
unfolding unlock_at
unlock_nowhere w s c e = ap (unlock_at w s c) e

pub order_nowhere : (w : MoveWorld) (s : ServerId) (c : ℕ) (to : ServerId) → numbered w.sites s.0 ≡ None → order_at w s c to (numbered w.sites s.0) ≡ told w (NoServer s)
unfolding order_at
order_nowhere w s c to e = ap (order_at w s c to) e

pub order_to_nowhere : (w : MoveWorld) (s : ServerId) (x : MoveSite) (c : ℕ) (to : ServerId) → numbered w.sites to.0 ≡ None → order_for w s x c to (numbered w.sites to.0) ≡ told w (NoServer to)
unfolding order_for
order_to_nowhere w s x c to e = ap (order_for w s x c to) e

-- an order for a server that is there
pub order_there : (w : MoveWorld) (s : ServerId) (p q : ℕ) (old new y : MoveSite) (c : ℕ) (to : ServerId) (a : MoveAnswer) → s.0 ≡ p + 1 → slice_get w.sites p ≡ Some old → to.0 ≡ q + 1 → slice_get w.sites q ≡ Some y
    → DoesAt old new a (λ v t. order_told v t old (after_order old.containers c to)) → order_for w s old c to (numbered w.sites to.0) ≡ told (placed w p new) a
unfolding order_for
order_there w s p q old new y c to a e f g h d =
    ap (order_for w s old c to) (numbered_at w.sites to.0 q y g h) ∙ d w s (numbered_at w.sites s.0 p old e f) ∙ ap (λ xs. told (record { sites = xs; sent = w.sent }) a) (with_numbered_at w.sites s.0 p new e)

pub tick_nowhere : (w : MoveWorld) (s : ServerId) → numbered w.sites s.0 ≡ None → tick_at w s (numbered w.sites s.0) ≡ told w (NoServer s)
unfolding tick_at
tick_nowhere w s e = ap (tick_at w s) e

-- what a tick sends
pub tick_there : (w : MoveWorld) (s : ServerId) (p : ℕ) (old new : MoveSite) (sent : List SentMove) (answers : List MoveAnswer) → s.0 ≡ p + 1 → slice_get w.sites p ≡ Some old
    → new ≡ with_containers old (after_tick old.containers old.locks)
    → sent ≡ w.sent ++ map (sent_move s) (images (after_tick old.containers old.locks))
    → answers ≡ sends_behind (length w.sent) (map (sent_move s) (images (after_tick old.containers old.locks)))
    → tick_at w s (numbered w.sites s.0) ≡ turned (record { sites = set w.sites p new; sent = sent }) answers
unfolding tick_at ticked
tick_there w s p old new sent answers e f n m a =
    ap (tick_at w s) (numbered_at w.sites s.0 p old e f)
    ∙ ap (λ xs. turned (record { sites = xs; sent = w.sent ++ map (sent_move s) (images (after_tick old.containers old.locks)) }) (sends_behind (length w.sent) (map (sent_move s) (images (after_tick old.containers old.locks)))))
    (with_numbered_at w.sites s.0 p (with_containers old (after_tick old.containers old.locks)) e ∙ ap (set w.sites p) (sym n))
    ∙ ap (λ ms. turned (record { sites = set w.sites p new; sent = ms }) (sends_behind (length w.sent) (map (sent_move s) (images (after_tick old.containers old.locks))))) (sym m)
    ∙ ap (turned (record { sites = set w.sites p new; sent = sent })) (sym a)

pub take_nowhere : (w : MoveWorld) (m : SentMove) → numbered w.sites m.to.0 ≡ None → taken_by w m (numbered w.sites m.to.0) ≡ told w (NoServer m.to)
unfolding taken_by
take_nowhere w m e = ap (taken_by w m) e

answered_by : (m : SentMove) (o : Option MoveMessage) → map (sent_move m.to) (addressed m.from o) ≡ answer_sent m o
unfolding answer_sent
answered_by m None = refl
answered_by m (Some answer) = refl

-- a message that is taken, and its answer
pub take_there : (w : MoveWorld) (m : SentMove) (p : ℕ) (old new : MoveSite) (messages : List (ServerId × MoveMessage)) (sent : List SentMove) (answers : List MoveAnswer) → m.to.0 ≡ p + 1 → slice_get w.sites p ≡ Some old
    → new ≡ with_containers old (after_take old.containers m.message)
    → messages ≡ addressed m.from (answer_to m.message)
    → sent ≡ w.sent ++ map (sent_move m.to) messages
    → answers ≡ sends_behind (length w.sent) (map (sent_move m.to) messages)
    → taken_by w m (numbered w.sites m.to.0) ≡ turned (record { sites = set w.sites p new; sent = sent }) answers
unfolding taken_by
take_there w m p old new messages sent answers e f n i k a =
    let b : map (sent_move m.to) messages ≡ answer_sent m (answer_to m.message) = ap (map (sent_move m.to)) i ∙ answered_by m (answer_to m.message) in
    ap (taken_by w m) (numbered_at w.sites m.to.0 p old e f)
    ∙ ap (λ xs. turned (record { sites = xs; sent = w.sent ++ answer_sent m (answer_to m.message) }) (sends_behind (length w.sent) (answer_sent m (answer_to m.message))))
    (with_numbered_at w.sites m.to.0 p (with_containers old (after_take old.containers m.message)) e ∙ ap (set w.sites p) (sym n))
    ∙ ap (λ ms. turned (record { sites = set w.sites p new; sent = w.sent ++ ms }) (sends_behind (length w.sent) ms)) (sym b)
    ∙ ap (λ ms. turned (record { sites = set w.sites p new; sent = ms }) (sends_behind (length w.sent) (map (sent_move m.to) messages))) (sym k)
    ∙ ap (turned (record { sites = set w.sites p new; sent = sent })) (sym a)

pub deliver_none : (w : MoveWorld) (k : ℕ) → numbered w.sent k ≡ None → deliver_at w k (numbered w.sent k) ≡ told w (NoMessage k)
unfolding deliver_at
deliver_none w k e = ap (deliver_at w k) e

pub lose_none : (w : MoveWorld) (k : ℕ) → numbered w.sent k ≡ None → lose_at w k (numbered w.sent k) ≡ told w (NoMessage k)
unfolding lose_at
lose_none w k e = ap (lose_at w k) e

pub lose_lost : (w : MoveWorld) (k p : ℕ) (m : SentMove) → k ≡ p + 1 → slice_get w.sent p ≡ Some m → m.lost ≡ true → lose_at w k (numbered w.sent k) ≡ told w (LostMessage k)
unfolding lose_at
lose_lost w k p m e f l = ap (lose_at w k) (numbered_at w.sent k p m e f) ∙ if_true m.lost _ _ l

pub lose_sent : (w : MoveWorld) (k p : ℕ) (m : SentMove) → k ≡ p + 1 → slice_get w.sent p ≡ Some m → m.lost ≡ false
    → lose_at w k (numbered w.sent k) ≡ turned (record { sites = w.sites; sent = set w.sent p (lost_move m) }) []
unfolding lose_at
lose_sent w k p m e f l =
    ap (lose_at w k) (numbered_at w.sent k p m e f) ∙ if_false m.lost _ _ l ∙ ap (λ ms. turned (record { sites = w.sites; sent = ms }) []) (with_numbered_at w.sent k p (lost_move m) e)

-- One more message is reported.
pub sends_more : (k : ℕ) (ms : List SentMove) (m : SentMove) → sends_behind k (ms ++ m ∷ []) ≡ sends_behind k ms ++ Sends (k + length ms + 1) m ∷ []
unfolding sends_behind
sends_more k [] m = let e : k + 1 ≡ k + 0 + 1 = omega arith in ap (λ n. Sends n m ∷ []) e
sends_more k (x ∷ ms) m =
    let e : k + 1 + length ms + 1 ≡ k + suc (length ms) + 1 = omega arith in
    ap (λ more. Sends (k + 1) x ∷ more) (sends_more (k + 1) ms m ∙ ap (λ n. sends_behind (k + 1) ms ++ Sends n m ∷ []) e)

-- Runs.
run_more : (h : MoveHistory) (es : List MoveEvent) (e : MoveEvent) → (run_moves h (es ++ e ∷ [])).world ≡ (happens (run_moves h es).world e).world
run_more h [] e = refl
run_more h (x ∷ es) e = run_more (noted h x (happens h.world x)) es e

pub reached_next : (r : MoveNetwork) (e : MoveEvent) (w : MoveWorld) (answers : List MoveAnswer) → IsReached r → happens r.world e ≡ turned w answers → IsReached (record { world = w; events = r.events + 1 })
reached_next r e w answers h f = record {
  servers = h.servers;
  containers = h.containers;
  events = h.events ++ e ∷ [];
  by = record {
    some = h.by.some;
    few = h.by.few;
    count = length-append h.events (e ∷ []) ∙ ap (λ n. n + 1) h.by.count;
    world = run_more (fresh_history h.servers h.containers) h.events e ∙ ap (λ v. (happens v e).world) h.by.world ∙ ap (λ (t : MoveTurn). t.world) f;
  };
}

pub reached_fresh : (servers containers : ℕ) → 1 ≤ servers → containers < 1024 → IsReached (record { world = (fresh_history servers containers).world; events = 0 })
reached_fresh servers containers some few = record { servers = servers; containers = containers; events = []; by = record { some = some; few = few; count = refl; world = refl } }

pub are_kept : (r : MoveNetwork) → AreKept r
are_kept r servers containers es i = no_update_is_lost servers containers es i.some

pub can_happen : (r : MoveNetwork) → IsReached r → r.events < 2 ^ 31 → CanHappen r.world
can_happen r h l = subst CanHappen h.by.world (record {
  ticks = λ s x e. on.ticks s x e (omega (arith, c));
  locks = λ s x e. on.locks s x e h.by.few (omega (arith, c));
  some = λ k m e. (on.known k m e).0;
  known = λ k m e s x f. subst (λ n. container_of m.message ≤ n) (sym (on.whole s x f)) (on.known k m e).1;
})
  where
    on : CanGoOn h.servers h.containers (length h.events) (run_moves (fresh_history h.servers h.containers) h.events).world
    on = moves_go_on h.servers h.containers h.events

    c : length h.events ≡ r.events
    c = h.by.count

-- A lock that client 1 asks for.
ok_is : {A E : Type 0} (r : Result A E) (x y : A) → r ≡ Ok x → r ≡ Ok y → x ≡ y
ok_is r x y e f = cc

pub acquire_ok : (l new : Locks) (c : ℕ) (v : Verdict) → CanLock l → locks.Answers l new (Ok v) (acquire l one first c modes.X true) → new ≡ locked l c
acquire_ok l new c v can h =
    let e : locks.acquired new v ≡ locks.acquired (locked l c) (can.acquires c).0 = ok_is (acquire l one first c modes.X true) (locks.acquired new v) (locks.acquired (locked l c) (can.acquires c).0) h (can.acquires c).1 in
    ap (λ (a : Acquired). a.locks) e

pub acquire_never : (l new : Locks) (c : ℕ) → CanLock l → locks.Answers l new (Err lock_refusals.TooManyLocks) (acquire l one first c modes.X true) → ⊥
acquire_never l new c can h = let e : acquire l one first c modes.X true ≡ Ok (locks.acquired (locked l c) (can.acquires c).0) = (can.acquires c).1 in cc

pub both_ok : {A E : Type 0} (P : Type 0) (Q R : A → Type 0) (r : Result A E) → ((a : A) → P → Q a → R a) → OnOk r P → IfOk r Q → IfOk r R
both_ok P Q R (Ok a) f p q = f a p q
both_ok P Q R (Err e) f p q = q

pub list_there : (w : MoveWorld) (s : ServerId) (p c : ℕ) (x : MoveSite) (a : MoveAnswer) → s.0 ≡ p + 1 → slice_get w.sites p ≡ Some x → DoesAt x x a (λ v t. list_at v t c (Some x)) → list_at w s c (numbered w.sites s.0) ≡ told w a
list_there w s p c x a e f d = at_server (λ v t o. list_at v t c o) w s p x x a e f d ∙ ap (λ xs. told (record { sites = xs; sent = w.sent }) a) (set_same w.sites p x f)

pub order_some : (w : MoveWorld) (s : ServerId) (p c : ℕ) (to : ServerId) (x : MoveSite) → s.0 ≡ p + 1 → slice_get w.sites p ≡ Some x → order_at w s c to (numbered w.sites s.0) ≡ order_for w s x c to (numbered w.sites to.0)
unfolding order_at
order_some w s p c to x e f = ap (order_at w s c to) (numbered_at w.sites s.0 p x e f)

-- One more message is sent.

pub send_turn : (from : ServerId) (before sent new : List SentMove) (ys : List (ServerId × MoveMessage)) (p : ServerId × MoveMessage) (answers next : List MoveAnswer) → sent ≡ before ++ map (sent_move from) ys
    → answers ≡ sends_behind (length before) (map (sent_move from) ys) → new ≡ sent ++ sent_move from p ∷ [] → next ≡ answers ++ Sends (length sent + 1) (sent_move from p) ∷ []
    → (new ≡ before ++ map (sent_move from) (ys ++ p ∷ [])) × (next ≡ sends_behind (length before) (map (sent_move from) (ys ++ p ∷ [])))
send_turn from before sent new ys p answers next e f g h = (
  g ∙ ap (λ xs. xs ++ sent_move from p ∷ []) e ∙ append_assoc before (map (sent_move from) ys) (sent_move from p ∷ []) ∙
      ap (λ xs. before ++ xs) (sym (map_last (sent_move from) ys p)),
  h ∙ ap (λ xs. xs ++ Sends (length sent + 1) (sent_move from p) ∷ []) f
      ∙ ap (λ n. sends_behind (length before) (map (sent_move from) ys) ++ Sends (n + 1) (sent_move from p) ∷ []) (ap length e ∙ length-append before (map (sent_move from) ys))
      ∙ sym (sends_more (length before) (map (sent_move from) ys) (sent_move from p)) ∙
      ap (sends_behind (length before)) (sym (map_last (sent_move from) ys p)),
)

pub on_ok : {A E : Type 0} (P Q : Type 0) (r : Result A E) → (P → Q) → OnOk r P → OnOk r Q
on_ok P Q (Ok a) f h = f h
on_ok P Q (Err e) f h = h

pub acquire_refused : (l new : Locks) (c : ℕ) (e : LockRefusal) → CanLock l → e ≢ lock_refusals.Memory → locks.Answers l new (Err e) (acquire l one first c modes.X true) → new ≡ locked l c
acquire_refused l new c lock_refusals.Memory can n h = absurd (n refl)
acquire_refused l new c lock_refusals.TooManyLocks can n h = absurd (acquire_never l new c can h)
acquire_refused l new c (lock_refusals.Conflict ino holder) can n h = absurd h
