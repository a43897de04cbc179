-- How many locks a server granted in its epoch, and how many wait: in a step at most one more, and then a message is sent.
use Rattle.st_lemmas.proofs.Words
use Words.{◌≡◌, ℕ, ◌+◌, ◌^◌, ◌<◌, ◌≤◌, ◌⊎◌, Bool, true, false, List, [], ◌∷◌, ◌++◌, if◌then◌else◌, refl, sym, ap, subst, inl, inr, arith, not, filter}
use Words.{length, Option, Some, None, ClientId, GrantNo, Life, ServerId, Stamp, Mode, Message, Output, ServerInput, Waiter, Session, eq-eqb}
use Words.modes
use Words.notes
use Words.outputs
use Words.Locks as locks
use Words.Locks.{Locks, is_wait_of, wait_of, grant, queue, queue_at, raise, release_to, with_rows}
use Words.Sessions as sessions
use Words.Authority as authority
use Words.Server.{ServerState, ServerTurn, turn, sender, life_in, reply, tell, steal_at, steal_from, steal, steal_each, thefts, suspect_client, keep_and_reply}
use Words.Server.{server_step, crash, start, begin_epoch, fresh_server}
use Words.Events.{WorldTurn, sends, cuts, server_notes, server_says, server_says_all}
use Words.Lists.{Has}
use Words.Numbers.{length_more}
use Words.Tables.{and_both}
use Words.Lengths.{length_map}
use Words.Tests.{filtered_no_longer}
use Rattle.st_base.specs.declared.config.Config as base
use Rattle.st_messages.specs.Sizes.{size_of}
use Rattle.st_laws_refine.specs.Server.Edits.{WishInput, Acquired, AtOnce, InTurn, Edit, TakesTimers, Steals, Suspects, Begins, DropsWaits, Keeps, Reasserts}
use Rattle.st_laws_refine.specs.Server.Edits.{Sees, Acquires, Releases, DropsFile, Grants, Demands, NamesChange, ExtentsChange, Cuts, Replies, Repeats, Refuses}
use Rattle.st_laws_refine.specs.Server.Edits.{TellsGrant, TellsDemand}
use Rattle.st_laws_refine.specs.Server.Invariants.{taken_locks, Few}
use Rattle.st_laws_refine.proofs.Server.Walk.{walk}

one_less : {A : Type 0} (p : A → Bool) (xs : List A) (x : A) → Has x xs → p x ≡ true → length (filter (λ x. not (p x)) xs) < length xs
one_less p [] x h e = elim h [ ]
one_less {A} p (y ∷ ys) x h e = go (p y) refl h (filtered_no_longer (λ x. not (p x)) ys) (λ i. one_less p ys x i e)
  where
    go : (b : Bool) → p y ≡ b → (x ≡ y) ⊎ Has x ys → length (filter (λ x. not (p x)) ys) ≤ length ys → (Has x ys → length (filter (λ x. not (p x)) ys) < length ys) →
        length (if not b then y ∷ filter (λ x. not (p x)) ys else filter (λ x. not (p x)) ys) < length (y ∷ ys)
    go true f h l k = omega arith
    go false f (inl i) l k = let z = ap p i in cc
    go false f (inr i) l k = let z = k i in omega arith

-- how many messages are sent
abbrev pub sent : List Output → ℕ
sent [] = 0
sent (outputs.Send m ∷ os) = 1 + sent os
sent (o ∷ os) = sent os

sent_more : (os : List Output) (o : Output) → sent (os ++ o ∷ []) ≡ sent os + sent (o ∷ [])
sent_more [] o = omega arith
sent_more (outputs.Send m ∷ os) o = let z = sent_more os o in omega arith
sent_more (outputs.Note n ∷ os) o = sent_more os o
sent_more (outputs.Answer x y ∷ os) o = sent_more os o
sent_more (outputs.Submit x y z ∷ os) o = sent_more os o

-- the changes of the table
taken_after_forget : (l : Locks) (c : ClientId) → taken_locks (locks.forget l c) ≤ taken_locks l
unfolding locks.forget
taken_after_forget l c = let z = filtered_no_longer (λ w. not (locks.is_wait_by c w)) l.waiters in omega arith

taken_after_drop : (l : Locks) (c : ClientId) → taken_locks (locks.drop_waits l c) ≤ taken_locks l
unfolding locks.drop_waits
taken_after_drop l c = let z = filtered_no_longer (λ w. not (locks.is_wait_by c w)) l.waiters in omega arith

taken_after_file : (l : Locks) (ino : ℕ) → taken_locks (locks.drop_file_waits l ino) ≤ taken_locks l
unfolding locks.drop_file_waits
taken_after_file l ino = let z = filtered_no_longer (λ w. not (locks.is_wait_on ino w)) l.waiters in omega arith

taken_after_grant : (l : Locks) (c : ClientId) (life : Life) (ino : ℕ) (mode : Mode) → taken_locks (grant l c life ino mode) ≤ taken_locks l + 1
unfolding grant
taken_after_grant l c life ino mode = let z = filtered_no_longer (λ w. not (is_wait_of c ino w)) l.waiters in omega arith

taken_after_waiter : (l : Locks) (w : Waiter) → Has w l.waiters → taken_locks (grant l w.client w.life w.ino w.mode) ≤ taken_locks l
unfolding grant
taken_after_waiter l w h = let z = one_less (is_wait_of w.client w.ino) l.waiters w h (and_both _ _ (eq-eqb w.client.0 w.client.0 refl) (eq-eqb w.ino w.ino refl)) in omega arith

taken_after_queue : (l : Locks) (c : ClientId) (life : Life) (ino : ℕ) (mode : Mode) → taken_locks (queue l c life ino mode) ≤ taken_locks l + 1
unfolding queue queue_at
taken_after_queue l c life ino mode = go (wait_of l c ino)
  where
    go : (o : Option Waiter) → taken_locks (queue_at l c life ino mode o) ≤ taken_locks l + 1
    go None = let z = length_more l.waiters (locks.new_wait c life ino mode) in omega arith
    go (Some w) = let z = length_map (raise c ino mode) l.waiters in omega arith

taken_after_release : (l : Locks) (c : ClientId) (ino : ℕ) (to : Mode) → taken_locks (release_to l c ino to) ≡ taken_locks l
unfolding release_to
taken_after_release l c ino modes.None = refl
taken_after_release l c ino modes.S = refl
taken_after_release l c ino modes.X = refl

taken_after_seen : (l : Locks) (c : ClientId) (ino : ℕ) (g : GrantNo) → taken_locks (locks.demand_seen l c ino g) ≡ taken_locks l
unfolding locks.demand_seen
taken_after_seen l c ino g = refl

taken_after_rows : (l : Locks) (c : ClientId) (life : Life) (rows : List (ℕ × GrantNo × Mode)) → taken_locks (with_rows l c life rows) ≡ taken_locks l
unfolding with_rows
taken_after_rows l c life rows = refl

taken_after_acquired : (g : Bool) (l : Locks) (c : ClientId) (life : Life) (ino : ℕ) (mode : Mode) (v : Locks) → Acquired g l c life ino mode v → taken_locks v ≤ taken_locks l + 1
taken_after_acquired g l c life ino mode v (AtOnce off w f nobody) = taken_after_grant l c life ino mode
taken_after_acquired g l c life ino mode v (InTurn w) = taken_after_queue l c life ino mode

-- thefts take none
steal_taken : (t : ServerTurn) (c : ClientId) (o : Option Session) → taken_locks (steal_at t c o).state.locks ≤ taken_locks t.state.locks
unfolding steal_at steal_from
steal_taken t c None = omega arith
steal_taken t c (Some s) = taken_after_forget t.state.locks c

steals_taken : (cs : List ClientId) (t : ServerTurn) → taken_locks (steal_each cs t).state.locks ≤ taken_locks t.state.locks
unfolding steal_each steal
steals_taken [] t = omega arith
steals_taken (c ∷ cs) t = let a = steals_taken cs (steal t c) in let b = steal_taken t c (sessions.session_of t.state.sessions c) in omega arith

thefts_taken : (n : ServerState) (now : Stamp) → taken_locks (thefts (turn n []) now).state.locks ≤ taken_locks n.locks
unfolding thefts
thefts_taken n now = steals_taken (authority.over n.authority now) _

sent_send : (os : List Output) (m : Message) → sent (os ++ outputs.Send m ∷ []) ≡ sent os + 1
sent_send os m = sent_more os (outputs.Send m)

within_one : (a b c : ℕ) → a ≤ b + 1 → b ≤ c → a ≤ c + 1
within_one a b c h k = omega arith

paid_more : (a c d e : ℕ) → a ≤ c + d → e ≡ d + 1 → a ≤ c + e
paid_more a c d e h k = omega arith

paid_for : (a b c d e : ℕ) → a ≤ b + 1 → b ≤ c + d → e ≡ d + 1 → a ≤ c + e
paid_for a b c d e h k l = omega arith

-- what a step takes
pub record TakenTurn (n : ServerState) (t : ServerTurn) : Type 0 where
  pub one : taken_locks t.state.locks ≤ taken_locks n.locks + 1
  pub paid : taken_locks t.state.locks ≤ taken_locks n.locks + sent t.out

taken_edit : (n : ServerState) (now : Stamp) (i : ServerInput) (t u : ServerTurn) → Edit n now i t u → TakenTurn n t → TakenTurn n u
unfolding steal_from suspect_client keep_and_reply reply tell
taken_edit n now i t u (TakesTimers _ first) o = record { one = o.one; paid = o.paid }
taken_edit n now i t u (Steals _ c s h e) o = let z = taken_after_forget t.state.locks c in let y = sent_more t.out (outputs.Note (notes.Stolen c s.life)) in record { one = let a = o.one in omega arith; paid = let a = o.paid in omega arith }
taken_edit n now i t u (Suspects _ c s f q) o = let z = taken_after_drop t.state.locks c in let y = sent_more t.out (outputs.Note (notes.Suspected c now)) in record { one = let a = o.one in omega arith; paid = let a = o.paid in omega arith }
taken_edit n now i t u (Begins _ c life) o = record { one = o.one; paid = o.paid }
taken_edit n now i t u (DropsWaits _ m s is b e lower) o = let z = taken_after_drop t.state.locks (sender m.header) in record { one = let a = o.one in omega arith; paid = let a = o.paid in omega arith }
taken_edit n now i t u (Keeps _ c number b e) o = record { one = o.one; paid = o.paid }
taken_edit n now i t u (Reasserts _ m rows is w g f) o = let z = taken_after_rows t.state.locks (sender m.header) (life_in m.header) rows in record { one = let a = o.one in omega arith; paid = let a = o.paid in omega arith }
taken_edit n now i t u (Sees _ m ino g is fi b) o = let z = taken_after_seen t.state.locks (sender m.header) ino g in record { one = let a = o.one in omega arith; paid = let a = o.paid in omega arith }
taken_edit n now i t u (Acquires _ m ino mode l b s is fi eb es el ok k a) o =
    let z = taken_after_acquired _ t.state.locks (sender m.header) (life_in m.header) ino mode l a in
    let f = subst (λ (t : ServerTurn). taken_locks t.state.locks ≤ taken_locks n.locks) (sym fi) (thefts_taken n now) in
    record { one = within_one _ _ _ z f; paid = paid_for _ _ _ _ _ z o.paid (sent_send t.out _) }
taken_edit n now i t u (Releases _ m ino g to r is fi b er eu) o = let z = taken_after_release t.state.locks (sender m.header) ino to in record { one = let a = o.one in omega arith; paid = let a = o.paid in omega arith }
taken_edit n now i t u (DropsFile _ m dir name g ino is b e) o = let z = taken_after_file t.state.locks ino in record { one = let a = o.one in omega arith; paid = let a = o.paid in omega arith }
taken_edit n now i t u (Grants _ w off h first f) o = let z = taken_after_waiter t.state.locks w h in record { one = let a = o.one in omega arith; paid = let a = o.paid in omega arith }
taken_edit n now i t u (Demands _ r x to er ed) o = record { one = o.one; paid = o.paid }
taken_edit n now i t u (NamesChange _ v) o = record { one = o.one; paid = o.paid }
taken_edit n now i t u (ExtentsChange _ v) o = record { one = o.one; paid = o.paid }
taken_edit n now i t u (Cuts _ f p) o = let y = sent_more t.out (outputs.Note (notes.CutDone f p)) in record { one = o.one; paid = let a = o.paid in omega arith }
taken_edit n now i t u (Replies _ m b is ok) o = record { one = o.one; paid = paid_more _ _ _ _ o.paid (sent_send t.out _) }
taken_edit n now i t u (Repeats _ m s last b is r f e g) o = record { one = o.one; paid = paid_more _ _ _ _ o.paid (sent_send t.out _) }
taken_edit n now i t u (Refuses _ m rows r is f g e) o = record { one = o.one; paid = paid_more _ _ _ _ o.paid (sent_send t.out _) }
taken_edit n now i t u (TellsGrant _ c life ino g mode) o = record { one = o.one; paid = paid_more _ _ _ _ o.paid (sent_send t.out _) }
taken_edit n now i t u (TellsDemand _ c life ino g mode) o = record { one = o.one; paid = paid_more _ _ _ _ o.paid (sent_send t.out _) }

pub taken_step : (n : ServerState) (now : Stamp) (i : ServerInput) → WishInput i → TakenTurn n (server_step n now i)
taken_step n now i w = walk n now i (TakenTurn n) (taken_edit n now i) w (record { one = omega arith; paid = omega arith })

-- each message that is sent has bytes
says_bytes : (s : ServerId) (o : Output) (sc : WorldTurn) → sc.world.net.bytes + sent (o ∷ []) ≤ (server_says sc s o).world.net.bytes
unfolding server_says server_notes sends cuts size_of
says_bytes s (outputs.Send m) sc = omega arith
says_bytes s (outputs.Note (notes.Suspected c start)) sc = omega arith
says_bytes s (outputs.Note (notes.Stolen c life)) sc = omega arith
says_bytes s (outputs.Note (notes.CutDone f p)) sc = omega arith
says_bytes s (outputs.Note n) sc = omega arith
says_bytes s (outputs.Answer x y) sc = omega arith
says_bytes s (outputs.Submit x y z) sc = omega arith

sent_first : (o : Output) (os : List Output) → sent (o ∷ os) ≡ sent (o ∷ []) + sent os
sent_first (outputs.Send m) os = omega arith
sent_first (outputs.Note n) os = omega arith
sent_first (outputs.Answer x y) os = omega arith
sent_first (outputs.Submit x y z) os = omega arith

pub all_bytes : (s : ServerId) (os : List Output) (sc : WorldTurn) → sc.world.net.bytes + sent os ≤ (server_says_all s os sc).world.net.bytes
unfolding server_says_all
all_bytes s [] sc = omega arith
all_bytes s (o ∷ os) sc = let a = says_bytes s o sc in let b = all_bytes s os (server_says sc s o) in let c = sent_first o os in omega arith

-- more bytes, a crash and a start leave it so, and a fresh server begins so
pub few_more : (a b : ℕ) (n : ServerState) → a ≤ b → Few a n → Few b n
few_more a b n h f = record { paid = let p = f.paid in omega arith; few = f.few }

pub few_crash : (bytes : ℕ) (n : ServerState) → Few bytes (crash n)
unfolding crash
few_crash bytes n = record { paid = omega arith; few = omega arith }

pub few_start : (bytes : ℕ) (n : ServerState) (now : Stamp) → Few bytes (start n now)
unfolding start begin_epoch
few_start bytes n now = record { paid = omega arith; few = omega arith }

pub few_fresh : (bytes : ℕ) (id : ServerId) (kb : base.Config) (servers disks blocks : ℕ) → Few bytes (fresh_server id kb servers disks blocks)
unfolding fresh_server
few_fresh bytes id kb servers disks blocks = record { paid = omega arith; few = omega arith }

-- so the grant numbers of an epoch stay below those of the next one
pub few_grants : (bytes : ℕ) (n : ServerState) → Few bytes n → n.locks.grants < 2 ^ 32
few_grants bytes n f = let p = f.few in omega arith
