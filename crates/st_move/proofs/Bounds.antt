-- What the calls of a server need holds after every list of events.
use Rattle.st_lemmas.proofs.Words
use Words.{◌≡◌, ◌≢◌, ℕ, suc, ◌+◌, ◌≤◌, ◌<◌, ◌⊎◌, Bool, true, false, List, [], ◌∷◌, ◌++◌, length, map, Option, Some, None, refl, sym, ap, ◌∙◌, subst, inl, inr}
use Words.{arith, lt-ltb, zero, pred, if◌then◌else◌, ◌==◌, Result, Ok, Err, list_all, ServerId}
use Words.Locks.{Locks}
use Words.World.{numbered, with_numbered}
use Words.Lists.{Has}
use Words.Numbers.{get_below, get_has, numbered_below, numbered_has, set_length}
use Words.Tables.{and_both, has_append, has_map}
use Rattle.st_move.specs.declared.record.ContainerRecord.{ContainerRecord}
use Rattle.st_move.specs.declared.record.MoveMessage.{MoveMessage}
use Rattle.st_move.specs.declared.record.MoveMessage.TheVariants.{Image, Taken}
use Rattle.st_move.specs.declared.record.ContainerState.{ContainerState}
use Rattle.st_move.specs.declared.record.ContainerState.TheVariants.{Holding, Leaving, Sent, Gone}
use Rattle.st_move.specs.declared.refusal.MoveRefusal.{MoveRefusal}
use Rattle.st_move.specs.declared.world.MoveEvent.{MoveEvent}
use Rattle.st_move.specs.declared.world.MoveEvent.TheVariants as events
use Rattle.st_move.specs.declared.world.SentMove.{SentMove}
use Rattle.st_move.specs.declared.site.MoveSite.{MoveSite}
use Rattle.st_move.specs.declared.world.MoveAnswer.TheVariants.{Done, LostMessage, NoLock}
use Rattle.st_move.specs.Containers.{after_order, after_put, after_take, after_tick, answer_to, answered, beginning, beginnings, begins_at, container_of}
use Rattle.st_move.specs.Containers.{gone_by, has_next, held, images, is_below, leaves, listed, recorded, sent_from, sent_if, sent_on, taken_at, taken_in}
use Rattle.st_move.specs.Containers.{with_image, with_records, with_state, with_updates}
use Rattle.st_move.specs.Conditions.{CanGoOn, MovesGoOn}
use Rattle.st_move.specs.Law.{MoveHistory, fresh_history, known, noted, record_at, record_in, run_moves}
use Rattle.st_move.specs.World.{MoveWorld, answer_sent, deliver_at, fresh_world, happens, has_lock, list_at, list_told, lock_at, lock_told, locked, lose_at}
use Rattle.st_move.specs.World.{lost_move, order_at, order_for, order_told, put_at, put_told, sent_move, server, sites_behind, taken_by, tick_at, ticked, told}
use Rattle.st_move.specs.World.{unlock_at, unlocked, with_locks, with_lost}
use Rattle.st_move.proofs.Loops.{beginnings_length}
use Rattle.st_move.proofs.Ones.{AreOnes, ones_can, ones_fresh, ones_later, ones_locked, ones_unlocked}
use Rattle.st_move.proofs.CallAnswers.{IsHeldAt, IsImageAt, held_says, images_at, numbered_set_has, order_says, put_says, sent_length, with_changed}
use Rattle.st_move.proofs.Stands.{IsContainer, site_locked, site_with}

-- the server is there
record IsThere (servers : ℕ) (s : ServerId) : Type 0 where
  some : 1 ≤ s.0
  within : s.0 ≤ servers

-- a record that leaves or was sent goes to a server that is there
abbrev GoesThere : ℕ → ContainerState → Type 0
GoesThere servers Holding = Unit {0}
GoesThere servers (Leaving to) = IsThere servers to
GoesThere servers (Sent to) = IsThere servers to
GoesThere servers (Gone to) = Unit {0}

-- its version is one more than the number of events, or less
abbrev IsFine : ℕ → ℕ → Option ContainerRecord → Type 0
IsFine servers n None = Unit {0}
IsFine servers n (Some r) = (r.version ≤ n + 1) × GoesThere servers r.state

abbrev AreFine : ℕ → ℕ → List (Option ContainerRecord) → Type 0
AreFine servers n rs = (o : Option ContainerRecord) → Has o rs → IsFine servers n o

abbrev IsFineMessage : ℕ → ℕ → MoveMessage → Type 0
IsFineMessage containers n (Image c v us) = IsContainer containers c × (v ≤ n + 1)
IsFineMessage containers n (Taken c v) = IsContainer containers c

record IsFineSite (servers containers n : ℕ) (x : MoveSite) : Type 0 where
  whole : length x.containers.records ≡ containers
  records : AreFine servers n x.containers.records
  locks : AreOnes containers n x.locks

record IsFineSent (servers containers n : ℕ) (m : SentMove) : Type 0 where
  from : IsThere servers m.from
  to : IsThere servers m.to
  message : IsFineMessage containers n m.message

record Fine (servers containers n : ℕ) (w : MoveWorld) : Type 0 where
  count : length w.sites ≡ servers
  sites : (x : MoveSite) → Has x w.sites → IsFineSite servers containers n x
  sent : (m : SentMove) → Has m w.sent → IsFineSent servers containers n m

-- one event later
record_later : (servers n : ℕ) (o : Option ContainerRecord) → IsFine servers n o → IsFine servers (n + 1) o
record_later servers n None f = f
record_later servers n (Some r) f = let a : r.version ≤ n + 1 = f.0 in let b : r.version ≤ n + 1 + 1 = omega arith in (b, f.1)

message_later : (containers n : ℕ) (message : MoveMessage) → IsFineMessage containers n message → IsFineMessage containers (n + 1) message
message_later containers n (Image c v us) f = let a : v ≤ n + 1 = f.1 in let b : v ≤ n + 1 + 1 = omega arith in (f.0, b)
message_later containers n (Taken c v) f = f

site_later : (servers containers n : ℕ) (x : MoveSite) → IsFineSite servers containers n x → IsFineSite servers containers (n + 1) x
site_later servers containers n x f = record { whole = f.whole; records = λ o i. record_later servers n o (f.records o i); locks = ones_later containers n x.locks f.locks }

sent_later : (servers containers n : ℕ) (m : SentMove) → IsFineSent servers containers n m → IsFineSent servers containers (n + 1) m
sent_later servers containers n m f = record { from = f.from; to = f.to; message = message_later containers n m.message f.message }

-- records after a tick
sent_one : (servers n : ℕ) (b : Bool) (o : Option ContainerRecord) → IsFine servers n o → IsFine servers (n + 1) (sent_if b o)
unfolding sent_if sent_on
sent_one servers n b None f = f
sent_one servers n false (Some r) f = record_later servers n (Some r) f
sent_one servers n true (Some r) f = go r.state f.1
  where
    go : (st : ContainerState) → GoesThere servers st → IsFine servers (n + 1) (Some (sent_on r st))
    go Holding g = record_later servers n (Some r) f
    go (Leaving to) g = let a : r.version ≤ n + 1 = f.0 in let b : r.version + 1 ≤ n + 1 + 1 = omega arith in (b, g)
    go (Sent to) g = record_later servers n (Some r) f
    go (Gone to) g = record_later servers n (Some r) f

sent_fine : (servers n : ℕ) (l : Locks) (p : ℕ) (rs : List (Option ContainerRecord)) → AreFine servers n rs → AreFine servers (n + 1) (sent_from l p rs)
unfolding sent_from
sent_fine servers n l p [] g o h = absurd h
sent_fine servers n l p (r ∷ rs) g o (inl e) = subst (IsFine servers (n + 1)) (sym e) (sent_one servers n (leaves l (p + 1) r) r (g r (inl refl)))
sent_fine servers n l p (r ∷ rs) g o (inr h) = sent_fine servers n l (p + 1) rs (λ q i. g q (inr i)) o h

-- images of such records
image_to : (servers n : ℕ) (rs : List (Option ContainerRecord)) → AreFine servers n rs → (to : ServerId) (message : MoveMessage) → IsImageAt 0 rs to message → IsThere servers to
image_to servers n rs g to (Taken d v) h = absurd h
image_to servers n rs g to (Image d v us) h =
    let q : IsFine servers n (Some h.2) = g (Some h.2) (get_has rs h.0 (Some h.2) h.3) in
    subst (GoesThere servers) h.4 q.1

image_message : (servers containers n : ℕ) (rs : List (Option ContainerRecord)) → length rs ≡ containers → AreFine servers n rs → (to : ServerId) (message : MoveMessage) → IsImageAt 0 rs to message → IsFineMessage containers n message
image_message servers containers n rs l g to (Taken d v) h = absurd h
image_message servers containers n rs l g to (Image d v us) h =
    let q : IsFine servers n (Some h.2) = g (Some h.2) (get_has rs h.0 (Some h.2) h.3) in
    let k : h.0 < length rs = get_below rs h.0 (Some h.2) h.3 in
    let e : d ≡ 0 + suc h.0 = h.1 in
    let b : 1 ≤ d = omega arith in
    let c : d ≤ containers = omega arith in
    (record { some = b; known = c }, subst (λ z. z ≤ n + 1) (sym h.5) q.0)

-- a record after a message
image_fine : (servers containers n c v : ℕ) (us : List (List ℕ)) → IsFineMessage containers n (Image c v us) → (o : Option ContainerRecord) → IsFine servers n o → IsFine servers (n + 1) (with_image v us o)
unfolding with_image
image_fine servers containers n c v us g o h = go (is_below v o)
  where
    go : (b : Bool) → IsFine servers (n + 1) (if b then Some (recorded v Holding us) else o)
    go true = let a : v ≤ n + 1 = g.1 in let b : v ≤ n + 1 + 1 = omega arith in (b, tt)
    go false = record_later servers n o h

answered_fine : (servers n v : ℕ) (o : Option ContainerRecord) → IsFine servers n o → IsFine servers (n + 1) (answered v o)
unfolding answered gone_by
answered_fine servers n v None h = h
answered_fine servers n v (Some r) h = go (r.version == v) r.state
  where
    go : (b : Bool) (st : ContainerState) → IsFine servers (n + 1) (Some (if b then gone_by r st else r))
    go false st = record_later servers n (Some r) h
    go true Holding = record_later servers n (Some r) h
    go true (Leaving to) = record_later servers n (Some r) h
    go true (Gone to) = record_later servers n (Some r) h
    go true (Sent to) = let a : r.version ≤ n + 1 = h.0 in let b : r.version ≤ n + 1 + 1 = omega arith in (b, tt)

taken_fine : (servers containers n : ℕ) (message : MoveMessage) → IsFineMessage containers n message → (o : Option ContainerRecord) → IsFine servers n o → IsFine servers (n + 1) (taken_in message o)
taken_fine servers containers n (Image c v us) g o h = image_fine servers containers n c v us g o h
taken_fine servers containers n (Taken c v) g o h = answered_fine servers n v o h

answer_fine : (servers containers n : ℕ) (m : SentMove) → IsFineSent servers containers n m → (z : SentMove) → Has z (answer_sent m (answer_to m.message)) → IsFineSent servers containers (n + 1) z
unfolding answer_sent
answer_fine servers containers n m g z i = go m.message g.message i
  where
    go : (message : MoveMessage) → IsFineMessage containers n message → Has z (answer_sent m (answer_to message)) → IsFineSent servers containers (n + 1) z
    go (Taken c v) k h = absurd h
    go (Image c v us) k (inr h) = absurd h
    go (Image c v us) k (inl e) = subst (IsFineSent servers containers (n + 1)) (sym e) (record { from = g.to; to = g.from; message = k.0 })

-- The events.
module _ (servers containers n : ℕ) (w : MoveWorld) (f : Fine servers containers n w) where
  later : Fine servers containers (n + 1) w
  later = record { count = f.count; sites = λ x i. site_later servers containers n x (f.sites x i); sent = λ m i. sent_later servers containers n m (f.sent m i) }

  sent_still : (m : SentMove) → Has m w.sent → IsFineSent servers containers (n + 1) m
  sent_still m i = sent_later servers containers n m (f.sent m i)

  -- a server that is found is there
  found_there : (s : ServerId) (x : MoveSite) → numbered w.sites s.0 ≡ Some x → IsThere servers s
  found_there s x e =
      let b : (1 ≤ s.0) × (s.0 ≤ length w.sites) = numbered_below w.sites s.0 x e in
      record { some = b.0; within = subst (λ k. s.0 ≤ k) f.count b.1 }

  found_fine : (s : ℕ) (x : MoveSite) → numbered w.sites s ≡ Some x → IsFineSite servers containers n x
  found_fine s x e = f.sites x (numbered_has w.sites s x e)

  -- one server changes
  changed_fine : (s : ℕ) (y : MoveSite) (sent : List SentMove) → IsFineSite servers containers (n + 1) y → ((m : SentMove) → Has m sent → IsFineSent servers containers (n + 1) m)
      → Fine servers containers (n + 1) (record { sites = with_numbered s y w.sites; sent = sent })
  changed_fine s y sent g h = record { count = set_length w.sites (pred s) y ∙ f.count; sites = λ x i. go x (numbered_set_has w.sites s y x i); sent = h }
    where
      go : (x : MoveSite) → (x ≡ y) ⊎ Has x w.sites → IsFineSite servers containers (n + 1) x
      go x (inl e) = subst (IsFineSite servers containers (n + 1)) (sym e) g
      go x (inr i) = site_later servers containers n x (f.sites x i)

  -- one record of a server changes
  replaced_fine : (x : MoveSite) → IsFineSite servers containers n x → (c : ℕ) (q : Option ContainerRecord) → IsFine servers (n + 1) q
      → IsFineSite servers containers (n + 1) (site_with x (with_records x.containers (with_numbered c q x.containers.records)))
  replaced_fine x i c q g =
      record { whole = set_length x.containers.records (pred c) q ∙ i.whole; records = λ o j. go o (numbered_set_has x.containers.records c q o j); locks = ones_later containers n x.locks i.locks }
    where
      go : (o : Option ContainerRecord) → (o ≡ q) ⊎ Has o x.containers.records → IsFine servers (n + 1) o
      go o (inl e) = subst (IsFine servers (n + 1)) (sym e) g
      go o (inr j) = record_later servers n o (i.records o j)

  put_event : (s : ServerId) (c : ℕ) (u : List ℕ) (o : Option MoveSite) → numbered w.sites s.0 ≡ o → Fine servers containers (n + 1) (put_at w s c u o).world
  unfolding put_at put_told
  put_event s c u None e = later
  put_event s c u (Some x) e = go (put_says x.containers c u)
    where
      go : ((r : ContainerRecord) × IsHeldAt x.containers.records c r × (after_put x.containers c u ≡ Ok (with_changed x.containers c (with_updates r (r.updates ++ u ∷ []))))) ⊎ ((g : MoveRefusal) × (after_put x.containers c u ≡ Err g))
          → Fine servers containers (n + 1) (put_told w s x c (after_put x.containers c u)).world
      go (inr g) = subst (λ z. Fine servers containers (n + 1) (put_told w s x c z).world) (sym g.1) later
      go (inl g) =
          let r : IsFine servers n (Some g.0) = (found_fine s.0 x e).records (Some g.0) (numbered_has x.containers.records c (Some g.0) g.1.0) in
          subst (λ z. Fine servers containers (n + 1) (put_told w s x c z).world) (sym g.2)
          (changed_fine s.0 (site_with x (with_changed x.containers c (with_updates g.0 (g.0.updates ++ u ∷ [])))) w.sent
          (replaced_fine x (found_fine s.0 x e) c (Some (with_updates g.0 (g.0.updates ++ u ∷ []))) (record_later servers n (Some g.0) r)) sent_still)

  order_event : (s : ServerId) (c : ℕ) (to : ServerId) (x : MoveSite) → numbered w.sites s.0 ≡ Some x → (o : Option MoveSite) → numbered w.sites to.0 ≡ o → Fine servers containers (n + 1) (order_for w s x c to o).world
  unfolding order_for order_told
  order_event s c to x e None k = later
  order_event s c to x e (Some y) k = go (order_says x.containers c to)
    where
      go : ((r : ContainerRecord) × IsHeldAt x.containers.records c r × (to.0 ≢ x.containers.server.0) × (after_order x.containers c to ≡ Ok (with_changed x.containers c (with_state r (Leaving to))))) ⊎ ((g : MoveRefusal) × (after_order x.containers c to ≡ Err g))
          → Fine servers containers (n + 1) (order_told w s x (after_order x.containers c to)).world
      go (inr g) = subst (λ z. Fine servers containers (n + 1) (order_told w s x z).world) (sym g.1) later
      go (inl g) =
          let r : IsFine servers n (Some g.0) = (found_fine s.0 x e).records (Some g.0) (numbered_has x.containers.records c (Some g.0) g.1.0) in
          let a : g.0.version ≤ n + 1 = r.0 in
          let b : g.0.version ≤ n + 1 + 1 = omega arith in
          subst (λ z. Fine servers containers (n + 1) (order_told w s x z).world) (sym g.3)
          (changed_fine s.0 (site_with x (with_changed x.containers c (with_state g.0 (Leaving to)))) w.sent
          (replaced_fine x (found_fine s.0 x e) c (Some (with_state g.0 (Leaving to))) (b, found_there to y k)) sent_still)

  list_event : (s : ServerId) (c : ℕ) (o : Option MoveSite) → Fine servers containers (n + 1) (list_at w s c o).world
  unfolding list_at list_told
  list_event s c None = later
  list_event s c (Some x) = go (listed x.containers c)
    where
      go : (r : Result (List (List ℕ)) MoveRefusal) → Fine servers containers (n + 1) (list_told w r).world
      go (Ok us) = later
      go (Err g) = later

  locks_fine : (s : ServerId) (x : MoveSite) → numbered w.sites s.0 ≡ Some x → (l : Locks) → AreOnes containers (n + 1) l → Fine servers containers (n + 1) (with_locks s x l w)
  locks_fine s x e l a =
      changed_fine s.0 (site_locked x l) w.sent (record { whole = (found_fine s.0 x e).whole; records = λ o i. record_later servers n o ((found_fine s.0 x e).records o i); locks = a }) sent_still

  lock_event : (s : ServerId) (c : ℕ) (o : Option MoveSite) → numbered w.sites s.0 ≡ o → Fine servers containers (n + 1) (lock_at w s c o).world
  unfolding lock_at lock_told
  lock_event s c None e = later
  lock_event s c (Some x) e = go (held_says x.containers c)
    where
      by : (r : ContainerRecord) → IsHeldAt x.containers.records c r → Fine servers containers (n + 1) (with_locks s x (locked x.locks c) w)
      by r h =
          let b : (1 ≤ c) × (c ≤ length x.containers.records) = numbered_below x.containers.records c (Some r) h.0 in
          locks_fine s x e (locked x.locks c) (ones_locked containers n x.locks c b.0 (subst (λ k. c ≤ k) (found_fine s.0 x e).whole b.1) (found_fine s.0 x e).locks)

      go : ((r : ContainerRecord) × IsHeldAt x.containers.records c r × (held x.containers c ≡ Ok r)) ⊎ ((g : MoveRefusal) × (held x.containers c ≡ Err g)) → Fine servers containers (n + 1) (lock_told w s x c (held x.containers c)).world
      go (inl h) = subst (λ r. Fine servers containers (n + 1) (lock_told w s x c r).world) (sym h.2) (by h.0 h.1)
      go (inr g) = subst (λ r. Fine servers containers (n + 1) (lock_told w s x c r).world) (sym g.1) later

  unlock_event : (s : ServerId) (c : ℕ) (o : Option MoveSite) → numbered w.sites s.0 ≡ o → Fine servers containers (n + 1) (unlock_at w s c o).world
  unfolding unlock_at
  unlock_event s c None e = later
  unlock_event s c (Some x) e = go (has_lock x.locks c)
    where
      go : (b : Bool) → Fine servers containers (n + 1) (if b then told (with_locks s x (unlocked x.locks c) w) Done else told w NoLock).world
      go true = locks_fine s x e (unlocked x.locks c) (ones_unlocked containers n x.locks c (found_fine s.0 x e).locks)
      go false = later

  tick_event : (s : ServerId) (o : Option MoveSite) → numbered w.sites s.0 ≡ o → Fine servers containers (n + 1) (tick_at w s o).world
  unfolding tick_at ticked
  tick_event s None e = later
  tick_event s (Some x) e = changed_fine s.0 (site_with x (after_tick x.containers x.locks)) (w.sent ++ map (sent_move s) (images (after_tick x.containers x.locks)))
      (record { whole = whole; records = records; locks = ones_later containers n x.locks (found_fine s.0 x e).locks }) (λ m i. go m (has_append w.sent (map (sent_move s) (images (after_tick x.containers x.locks))) m i))
    where
      whole : length (after_tick x.containers x.locks).records ≡ containers
      whole = sent_length x.locks 0 x.containers.records ∙ (found_fine s.0 x e).whole

      records : AreFine servers (n + 1) (after_tick x.containers x.locks).records
      records = sent_fine servers n x.locks 0 x.containers.records (found_fine s.0 x e).records

      by : (m : SentMove) → (z : ServerId × MoveMessage) × Has z (images (after_tick x.containers x.locks)) × (m ≡ sent_move s z) → IsFineSent servers containers (n + 1) m
      by m g =
          let i : IsImageAt 0 (after_tick x.containers x.locks).records g.0.0 g.0.1 = images_at 0 (after_tick x.containers x.locks).records g.0 g.1 in
          subst (IsFineSent servers containers (n + 1)) (sym g.2) (record {
            from = found_there s x e;
            to = image_to servers (n + 1) (after_tick x.containers x.locks).records records g.0.0 g.0.1 i;
            message = image_message servers containers (n + 1) (after_tick x.containers x.locks).records whole records g.0.0 g.0.1 i;
          })

      go : (m : SentMove) → Has m w.sent ⊎ Has m (map (sent_move s) (images (after_tick x.containers x.locks))) → IsFineSent servers containers (n + 1) m
      go m (inl i) = sent_still m i
      go m (inr i) = by m (has_map (sent_move s) (images (after_tick x.containers x.locks)) m i)

  take_event : (m : SentMove) → Has m w.sent → (o : Option MoveSite) → numbered w.sites m.to.0 ≡ o → Fine servers containers (n + 1) (taken_by w m o).world
  unfolding taken_by taken_at
  take_event m i None e = later
  take_event m i (Some x) e = changed_fine m.to.0 (site_with x (after_take x.containers m.message)) (w.sent ++ answer_sent m (answer_to m.message))
      (at (numbered x.containers.records (container_of m.message)) refl) (λ z j. go z (has_append w.sent (answer_sent m (answer_to m.message)) z j))
    where
      at : (o : Option (Option ContainerRecord)) → numbered x.containers.records (container_of m.message) ≡ o → IsFineSite servers containers (n + 1) (site_with x (with_records x.containers (taken_at m.message o x.containers.records)))
      at None g = record {
        whole = (found_fine m.to.0 x e).whole;
        records = λ o j. record_later servers n o ((found_fine m.to.0 x e).records o j);
        locks = ones_later containers n x.locks (found_fine m.to.0 x e).locks;
      }
      at (Some r) g = replaced_fine x (found_fine m.to.0 x e) (container_of m.message) (taken_in m.message r)
          (taken_fine servers containers n m.message (f.sent m i).message r ((found_fine m.to.0 x e).records r (numbered_has x.containers.records (container_of m.message) r g)))

      go : (z : SentMove) → Has z w.sent ⊎ Has z (answer_sent m (answer_to m.message)) → IsFineSent servers containers (n + 1) z
      go z (inl j) = sent_still z j
      go z (inr j) = answer_fine servers containers n m (f.sent m i) z j

  deliver_event : (k : ℕ) (o : Option SentMove) → numbered w.sent k ≡ o → Fine servers containers (n + 1) (deliver_at w k o).world
  unfolding deliver_at
  deliver_event k None e = later
  deliver_event k (Some m) e = go m.lost
    where
      go : (b : Bool) → Fine servers containers (n + 1) (if b then told w (LostMessage k) else taken_by w m (numbered w.sites m.to.0)).world
      go true = later
      go false = take_event m (numbered_has w.sent k m e) (numbered w.sites m.to.0) refl

  lose_event : (k : ℕ) (o : Option SentMove) → numbered w.sent k ≡ o → Fine servers containers (n + 1) (lose_at w k o).world
  unfolding lose_at
  lose_event k None e = later
  lose_event k (Some m) e = go m.lost
    where
      old : IsFineSent servers containers (n + 1) m
      old = sent_still m (numbered_has w.sent k m e)

      by : (z : SentMove) → (z ≡ lost_move m) ⊎ Has z w.sent → IsFineSent servers containers (n + 1) z
      by z (inl j) = subst (IsFineSent servers containers (n + 1)) (sym j) (record { from = old.from; to = old.to; message = old.message })
      by z (inr j) = sent_still z j

      go : (b : Bool) → Fine servers containers (n + 1) (if b then told w (LostMessage k) else record { world = with_lost k m w; answers = [] }).world
      go true = later
      go false = record { count = f.count; sites = later.sites; sent = λ z i. by z (numbered_set_has w.sent k (lost_move m) z i) }

  event_fine : (e : MoveEvent) → Fine servers containers (n + 1) (happens w e).world
  unfolding happens order_at
  event_fine (events.Put s c u) = put_event s c u (numbered w.sites s.0) refl
  event_fine (events.List s c) = list_event s c (numbered w.sites s.0)
  event_fine (events.Lock s c) = lock_event s c (numbered w.sites s.0) refl
  event_fine (events.Unlock s c) = unlock_event s c (numbered w.sites s.0) refl
  event_fine (events.Tick s) = tick_event s (numbered w.sites s.0) refl
  event_fine (events.Deliver k) = deliver_event k (numbered w.sent k) refl
  event_fine (events.Lose k) = lose_event k (numbered w.sent k) refl
  event_fine (events.Order s c to) = go (numbered w.sites s.0) refl
    where
      go : (o : Option MoveSite) → numbered w.sites s.0 ≡ o → Fine servers containers (n + 1) (order_at w s c to o).world
      go None e = later
      go (Some x) e = order_event s c to x e (numbered w.sites to.0) refl

run_fine : (servers containers n : ℕ) (es : List MoveEvent) (h : MoveHistory) → Fine servers containers n h.world → Fine servers containers (n + length es) (run_moves h es).world
run_fine servers containers n [] h f = let e : n ≡ n + 0 = omega arith in subst (λ k. Fine servers containers k h.world) e f
run_fine servers containers n (x ∷ es) h f =
    let e : n + 1 + length es ≡ n + suc (length es) = omega arith in
    subst (λ k. Fine servers containers k (run_moves (noted h x (happens h.world x)) es).world) e
    (run_fine servers containers (n + 1) es (noted h x (happens h.world x)) (event_fine servers containers n h.world f x))

-- The beginning.
fresh_one : (s : ServerId) (servers place : ℕ) → IsFine servers 0 (beginning s servers place)
unfolding beginning
fresh_one s servers place = go (begins_at s servers place)
  where
    go : (b : Bool) → IsFine servers 0 (if b then Some (recorded 1 Holding []) else None)
    go true = let a : 1 ≤ 0 + 1 = omega arith in (a, tt)
    go false = tt

fresh_records : (s : ServerId) (servers place n : ℕ) → AreFine servers 0 (beginnings s servers place n)
unfolding beginnings
fresh_records s servers place zero o h = absurd h
fresh_records s servers place (suc n) o (inl e) = subst (IsFine servers 0) (sym e) (fresh_one s servers place)
fresh_records s servers place (suc n) o (inr h) = fresh_records s servers (place + 1) n o h

fresh_sites : (servers containers s n : ℕ) (x : MoveSite) → Has x (sites_behind servers containers s n) → IsFineSite servers containers 0 x
unfolding sites_behind
fresh_sites servers containers s zero x h = absurd h
fresh_sites servers containers s (suc n) x (inl e) =
    subst (IsFineSite servers containers 0) (sym e)
    (record { whole = beginnings_length (server (s + 1)) servers 0 containers; records = fresh_records (server (s + 1)) servers 0 containers; locks = ones_fresh containers (record { 0 = 1 }) })
fresh_sites servers containers s (suc n) x (inr h) = fresh_sites servers containers (s + 1) n x h

sites_count : (servers containers s n : ℕ) → length (sites_behind servers containers s n) ≡ n
unfolding sites_behind
sites_count servers containers s zero = refl
sites_count servers containers s (suc n) = ap suc (sites_count servers containers (s + 1) n)

fresh_fine : (servers containers : ℕ) → Fine servers containers 0 (fresh_world servers containers)
fresh_fine servers containers = record { count = sites_count servers containers 0 servers; sites = fresh_sites servers containers 0 servers; sent = λ m i. absurd i }

-- From this the law follows.
all_next : (servers n : ℕ) (rs : List (Option ContainerRecord)) → AreFine servers n rs → n + 2 < 18446744073709551616 → list_all has_next rs ≡ true
all_next servers n [] g l = refl
all_next servers n (o ∷ rs) g l = and_both (has_next o) (list_all has_next rs) (one o (g o (inl refl))) (all_next servers n rs (λ q i. g q (inr i)) l)
  where
    one : (o : Option ContainerRecord) → IsFine servers n o → has_next o ≡ true
    one None h = refl
    one (Some r) h = let a : r.version ≤ n + 1 = h.0 in lt-ltb (r.version + 1) 18446744073709551616 (omega arith)

module _ (servers containers n : ℕ) (w : MoveWorld) (f : Fine servers containers n w) where
  version_at : (c s : ℕ) (r : ContainerRecord) → record_at w c s ≡ Some r → r.version ≤ n + 1
  version_at c s r e = go (numbered w.sites s) refl e
    where
      by : (x : MoveSite) → Has x w.sites → (o : Option (Option ContainerRecord)) → numbered x.containers.records c ≡ o → known o ≡ Some r → r.version ≤ n + 1
      by x i None g k = cc
      by x i (Some o) g k = let q : IsFine servers n (Some r) = subst (IsFine servers n) k ((f.sites x i).records o (numbered_has x.containers.records c o g)) in q.0

      go : (o : Option MoveSite) → numbered w.sites s ≡ o → record_in o c ≡ Some r → r.version ≤ n + 1
      go None g k = cc
      go (Some x) g k = by x (numbered_has w.sites s x g) (numbered x.containers.records c) refl k

  container_is : (message : MoveMessage) → IsFineMessage containers n message → (1 ≤ container_of message) × (container_of message ≤ containers)
  container_is (Image c v us) g = (g.0.some, g.0.known)
  container_is (Taken c v) g = (g.some, g.known)

  can_go_on : CanGoOn servers containers n w
  can_go_on = record {
    servers_are = f.count;
    whole = λ s x e. (f.sites x (numbered_has w.sites s x e)).whole;
    versions = version_at;
    ticks = λ s x e l. all_next servers n x.containers.records (f.sites x (numbered_has w.sites s x e)).records l;
    locks = λ s x e k l. ones_can containers n x.locks k (f.sites x (numbered_has w.sites s x e)).locks l;
    known = λ k m e. container_is m.message (f.sent m (numbered_has w.sent k m e)).message;
    there = λ k m e. let t : IsThere servers m.to = (f.sent m (numbered_has w.sent k m e)).to in (t.some, t.within);
  }

pub moves_go_on : MovesGoOn
moves_go_on servers containers es =
    let e : 0 + length es ≡ length es = omega arith in
    can_go_on servers containers (length es) (run_moves (fresh_history servers containers) es).world
    (subst (λ k. Fine servers containers k (run_moves (fresh_history servers containers) es).world) e
    (run_fine servers containers 0 es (fresh_history servers containers) (fresh_fine servers containers)))
