-- What the changes of a lock table keep of its rows and waits.
use Rattle.st_lemmas.proofs.Words
use Words.{◌≡◌, ℕ, ◌+◌, ◌*◌, ◌^◌, ◌<◌, ◌≤◌, Bool, true, false, ◌&&◌, ◌==◌, not, cond, List, [], ◌∷◌, ◌++◌, length, Option, Some, None, refl, sym, ap}
use Words.{subst, ◌∙◌, arith, length-append, filter, find, map, option_map, Result, Ok, Err, list_all, and_parts, and_from, lt-ltb, ClientId, Epoch, GrantNo}
use Words.{Life, Mode, LockRow, RowDemand, Waiter, Verdict, AcquireRefusal}
use Words.modes
use Words.Ranges.{is_grant, is_mode}
use Words.verdicts
use Words.Locks as locks
use Words.Locks.{Locks, Acquired, Released}
use Words.Sessions.{Sessions, session_of}
use Words.Tables.{cond_either}
use Words.Lengths.{length_map}
use Words.Tests.{filtered_no_longer}
use Rattle.st_base.specs.Mode.{covers, number_of}
use Rattle.st_server.specs.RuleConditions.{is_lived}
use Rattle.st_server.specs.Invariants.{AreHeld, is_good_row, is_good_wait, is_told, is_told_lock, is_told_demand}
use Rattle.st_server.proofs.Every.{every_filter, every_last, every_put, every_found, every_map}

first_gone : {A : Type 0} (q : A → Bool) (y : A) (ys : List A) (b : Bool) → b ≡ false → length (cond b (y ∷ filter q ys) (filter q ys)) + 1 ≤ length (y ∷ ys)
first_gone q y ys true g = cc
first_gone q y ys false g = let keep : length (filter q ys) ≤ length ys = filtered_no_longer q ys in omega (arith, keep)

later_gone : {A : Type 0} (q : A → Bool) (y : A) (ys : List A) (b : Bool) → length (filter q ys) + 1 ≤ length ys → length (cond b (y ∷ filter q ys) (filter q ys)) + 1 ≤ length (y ∷ ys)
later_gone q y ys true h = omega (arith, h)
later_gone q y ys false h = omega (arith, h)

some_gone : {A : Type 0} (p q : A → Bool) (y x : A) (ys : List A) (b : Bool) → cond b (Some y) (find p ys) ≡ Some x → q x ≡ false →
    (find p ys ≡ Some x → length (filter q ys) + 1 ≤ length ys) → length (cond (q y) (y ∷ filter q ys) (filter q ys)) + 1 ≤ length (y ∷ ys)
some_gone p q y x ys true e f k = let same : y ≡ x = cc in first_gone q y ys (q y) (ap q same ∙ f)
some_gone p q y x ys false e f k = later_gone q y ys (q y) (k e)

-- a filter leaves fewer if it takes away what was found
pub length_gone : {A : Type 0} (p q : A → Bool) (xs : List A) (x : A) → find p xs ≡ Some x → q x ≡ false → length (filter q xs) + 1 ≤ length xs
length_gone p q [] x e f = cc
length_gone p q (y ∷ ys) x e f = some_gone p q y x ys (p y) e f (λ g. length_gone p q ys x g f)

-- a client in a life that its session has, and a file, that can be told
pub record IsFrom (t : Sessions) (c : ClientId) (life : Life) (ino : ℕ) : Type 0 where
  pub lived : is_lived life (session_of t c) ≡ true
  pub told : is_told c life ino ≡ true

-- a verdict that can be told
abbrev pub is_good_verdict : Verdict → Bool
is_good_verdict (verdicts.Granted g m) = is_grant g && is_mode 1 2 m
is_good_verdict (verdicts.Queued cs) = true

-- a grant, or a demand, that can be told
abbrev pub is_good_sent : ℕ → ℕ → ClientId × Life × ℕ × GrantNo × Mode → Bool
is_good_sent least most x = is_told x.0 x.1 x.2 && (is_grant x.3 && is_mode least most x.4)

greater_mode : (m k : Mode) → is_mode 1 2 m ≡ true → is_mode 1 2 k ≡ true → is_mode 1 2 (locks.greater m k) ≡ true
greater_mode m k e f = cond_either (λ (x : Mode). is_mode 1 2 x ≡ true) (covers m k) m k (λ q. e) (λ q. f)

-- more may be taken
pub held_more : (n m : ℕ) (ep : Epoch) (t : Sessions) (l : Locks) → n ≤ m → AreHeld n ep t l → AreHeld m ep t l
held_more n m ep t l b h = record { rows = h.rows; waits = h.waits; few = omega (arith, b, h.few); epoch = h.epoch; limit = h.limit }

module _ (ep : Epoch) (t : Sessions) where
  pub row_of_good : (r : LockRow) → is_good_row t r ≡ true → IsFrom t r.client r.life r.ino × (is_told_lock r.g r.mode r.demand ≡ true)
  row_of_good r e =
      let p = and_parts (is_lived r.life (session_of t r.client)) (is_told r.client r.life r.ino && is_told_lock r.g r.mode r.demand) e in
      let q = and_parts (is_told r.client r.life r.ino) (is_told_lock r.g r.mode r.demand) p.1 in
      (record { lived = p.0; told = q.0 }, q.1)

  pub good_row : (r : LockRow) → IsFrom t r.client r.life r.ino → is_told_lock r.g r.mode r.demand ≡ true → is_good_row t r ≡ true
  good_row r f e = and_from (is_lived r.life (session_of t r.client)) _ f.lived (and_from (is_told r.client r.life r.ino) _ f.told e)

  pub told_lock : (g : GrantNo) (m : Mode) (d : Option RowDemand) → is_grant g ≡ true → is_mode 1 2 m ≡ true → is_told_demand d ≡ true → is_told_lock g m d ≡ true
  told_lock g m d e f h = and_from (is_grant g) _ e (and_from (is_mode 1 2 m) (is_told_demand d) f h)

  pub lock_parts : (g : GrantNo) (m : Mode) (d : Option RowDemand) → is_told_lock g m d ≡ true → (is_grant g ≡ true) × (is_mode 1 2 m ≡ true) × (is_told_demand d ≡ true)
  lock_parts g m d e = let p = and_parts (is_grant g) (is_mode 1 2 m && is_told_demand d) e in let q = and_parts (is_mode 1 2 m) (is_told_demand d) p.1 in (p.0, q.0, q.1)

  pub wait_of_good : (w : Waiter) → is_good_wait t w ≡ true → IsFrom t w.client w.life w.ino × (is_mode 1 2 w.mode ≡ true)
  wait_of_good w e =
      let p = and_parts (is_lived w.life (session_of t w.client)) (is_told w.client w.life w.ino && is_mode 1 2 w.mode) e in
      let q = and_parts (is_told w.client w.life w.ino) (is_mode 1 2 w.mode) p.1 in
      (record { lived = p.0; told = q.0 }, q.1)

  good_wait : (w : Waiter) → IsFrom t w.client w.life w.ino → is_mode 1 2 w.mode ≡ true → is_good_wait t w ≡ true
  good_wait w f e = and_from (is_lived w.life (session_of t w.client)) _ f.lived (and_from (is_told w.client w.life w.ino) _ f.told e)

  -- the next grant's number fits
  pub next_grant_fits : (l : Locks) → l.epoch ≡ ep → ep.0 < 2 ^ 32 → l.grants + 1 < 2 ^ 32 → is_grant (locks.next_grant l) ≡ true
  next_grant_fits l e b r =
      let f : l.epoch.0 < 2 ^ 32 = subst (λ (x : Epoch). x.0 < 2 ^ 32) (sym e) b in
      lt-ltb (l.epoch.0 * 4294967296 + l.grants + 1) (2 ^ 64) (omega (arith, f, r))

  pub grant_rows : (l : Locks) (c : ClientId) (life : Life) (ino : ℕ) (mode : Mode) → IsFrom t c life ino → is_mode 1 2 mode ≡ true → is_grant (locks.next_grant l) ≡ true →
      list_all (is_good_row t) l.rows ≡ true → list_all (is_good_row t) (locks.grant l c life ino mode).rows ≡ true
  unfolding locks.grant
  grant_rows l c life ino mode f m g h =
      every_put (is_good_row t) (locks.is_row_of c ino) (locks.new_row l c life ino mode) l.rows
      (good_row (locks.new_row l c life ino mode) f (told_lock (locks.next_grant l) mode None g m refl)) h

  pub grant_waits : (l : Locks) (c : ClientId) (life : Life) (ino : ℕ) (mode : Mode) → list_all (is_good_wait t) l.waiters ≡ true →
      list_all (is_good_wait t) (locks.grant l c life ino mode).waiters ≡ true
  unfolding locks.grant
  grant_waits l c life ino mode h = every_filter (is_good_wait t) (λ w. not (locks.is_wait_of c ino w)) l.waiters h

  -- A grant of what is asked for.
  pub grant_held : (n : ℕ) (l : Locks) (c : ClientId) (life : Life) (ino : ℕ) (mode : Mode) → IsFrom t c life ino → is_mode 1 2 mode ≡ true →
      is_grant (locks.next_grant l) ≡ true → AreHeld n ep t l → AreHeld (n + 1) ep t (locks.grant l c life ino mode)
  unfolding locks.grant
  grant_held n l c life ino mode f m g h =
      record {
        rows = grant_rows l c life ino mode f m g h.rows;
        waits = grant_waits l c life ino mode h.waits;
        few = let less : length (locks.without_wait c ino l.waiters) ≤ length l.waiters = filtered_no_longer _ l.waiters in omega (arith, less, h.few);
        epoch = h.epoch;
        limit = h.limit;
      }

  raise_good : (c : ClientId) (ino : ℕ) (mode : Mode) → is_mode 1 2 mode ≡ true → (w : Waiter) → is_good_wait t w ≡ true → is_good_wait t (locks.raise c ino mode w) ≡ true
  unfolding locks.wait_for
  raise_good c ino mode m w e =
      cond_either (λ (x : Waiter). is_good_wait t x ≡ true) (locks.is_wait_of c ino w) (locks.wait_for mode w) w
      (λ q. let p = wait_of_good w e in good_wait (locks.wait_for mode w) (record { lived = p.0.lived; told = p.0.told }) (greater_mode w.mode mode p.1 m))
      (λ q. e)

  queue_at_held : (n : ℕ) (l : Locks) (c : ClientId) (life : Life) (ino : ℕ) (mode : Mode) (o : Option Waiter) → IsFrom t c life ino → is_mode 1 2 mode ≡ true →
      AreHeld n ep t l → AreHeld (n + 1) ep t (locks.queue_at l c life ino mode o)
  unfolding locks.queue_at
  queue_at_held n l c life ino mode None f m h =
      record {
        rows = h.rows;
        waits = every_last (is_good_wait t) l.waiters (locks.new_wait c life ino mode) h.waits (good_wait (locks.new_wait c life ino mode) f m);
        few = let long : length (l.waiters ++ locks.new_wait c life ino mode ∷ []) ≡ length l.waiters + 1 = length-append l.waiters (locks.new_wait c life ino mode ∷ []) in omega (arith, long, h.few);
        epoch = h.epoch;
        limit = h.limit;
      }
  queue_at_held n l c life ino mode (Some w) f m h =
      record {
        rows = h.rows;
        waits = every_map (is_good_wait t) (is_good_wait t) (locks.raise c ino mode) (raise_good c ino mode m) l.waiters h.waits;
        few = let long : length (map (locks.raise c ino mode) l.waiters) ≡ length l.waiters = length_map (locks.raise c ino mode) l.waiters in omega (arith, long, h.few);
        epoch = h.epoch;
        limit = h.limit;
      }

  queue_held : (n : ℕ) (l : Locks) (c : ClientId) (life : Life) (ino : ℕ) (mode : Mode) → IsFrom t c life ino → is_mode 1 2 mode ≡ true →
      AreHeld n ep t l → AreHeld (n + 1) ep t (locks.queue l c life ino mode)
  unfolding locks.queue
  queue_held n l c life ino mode f m h = queue_at_held n l c life ino mode (locks.wait_of l c ino) f m h

  -- Acquiring.
  pub record Acquires (n : ℕ) (a : Acquired) : Type 0 where
    pub held : AreHeld n ep t a.locks
    pub verdict : is_good_verdict a.verdict ≡ true

  abbrev pub AcquiresBy : ℕ → Result Acquired AcquireRefusal → Type 0
  AcquiresBy n (Ok a) = Acquires n a
  AcquiresBy n (Err r) = Unit {0}

  module _ (n : ℕ) (l : Locks) (c : ClientId) (life : Life) (ino : ℕ) (mode : Mode) (from : IsFrom t c life ino) (m : is_mode 1 2 mode ≡ true) (g : is_grant (locks.next_grant l) ≡ true) (h : AreHeld n ep t l) where
    more_held : (grants : Bool) → Acquires (n + 1) (locks.acquire_more l c life ino mode grants)
    unfolding locks.acquire_more locks.acquire_granted locks.acquire_queued
    more_held grants =
        cond_either (Acquires (n + 1)) (locks.may_grant l c ino mode grants) (locks.acquire_granted l c life ino mode) (locks.acquire_queued l c life ino mode)
        (λ e. record { held = grant_held n l c life ino mode from m g h; verdict = and_from (is_grant (locks.next_grant l)) (is_mode 1 2 mode) g m })
        (λ e. record { held = queue_held n l c life ino mode from m h; verdict = refl })

    over_held : (grants : Bool) (r : LockRow) → is_good_row t r ≡ true → Acquires (n + 1) (locks.acquire_over l c life ino mode grants r)
    unfolding locks.acquire_over locks.acquire_held
    over_held grants r e =
        cond_either (Acquires (n + 1)) (covers r.mode mode) (locks.acquire_held l r) (locks.acquire_more l c life ino mode grants)
        (λ q. let p = lock_parts r.g r.mode r.demand (row_of_good r e).1 in record { held = held_more n (n + 1) ep t l (omega arith) h; verdict = and_from (is_grant r.g) (is_mode 1 2 r.mode) p.0 p.1 })
        (λ q. more_held grants)

    at_held : (grants : Bool) (o : Option LockRow) → locks.row_of l c ino ≡ o → AcquiresBy (n + 1) (locks.acquire_at l c life ino mode grants o)
    unfolding locks.acquire_at locks.acquire_new
    at_held grants None e =
        cond_either (AcquiresBy (n + 1)) (locks.has_place l c ino) (Ok (locks.acquire_more l c life ino mode grants)) _ (λ q. more_held grants) (λ q. tt)
    at_held grants (Some r) e = over_held grants r (every_found (is_good_row t) (locks.is_row_of c ino) l.rows r h.rows e)

    pub acquire_held : (grants : Bool) → AcquiresBy (n + 1) (locks.acquire l c life ino mode grants)
    unfolding locks.acquire
    acquire_held grants = at_held grants (locks.row_of l c ino) refl

  -- Changes that add nothing.
  same_told : (r x : LockRow) → x.client ≡ r.client → x.life ≡ r.life → x.ino ≡ r.ino → IsFrom t r.client r.life r.ino → IsFrom t x.client x.life x.ino
  same_told r x p q s f =
      record {
        lived = (λ i. is_lived (q i) (session_of t (p i))) ∙ f.lived;
        told = (λ i. is_told (p i) (q i) (s i)) ∙ f.told;
      }

  lower_demand : (d : Option RowDemand) → is_told_demand d ≡ true → is_told_demand (locks.demand_lowered d) ≡ true
  unfolding locks.unless_met
  lower_demand None e = refl
  lower_demand (Some d) e = cond_either (λ (x : Option RowDemand). is_told_demand x ≡ true) (number_of d.to == 1) None (Some (locks.answered_demand d)) (λ q. refl) (λ q. e)

  lower_good : (c : ClientId) (ino : ℕ) (r : LockRow) → is_good_row t r ≡ true → is_good_row t (locks.lower c ino r) ≡ true
  unfolding locks.lowered
  lower_good c ino r e =
      cond_either (λ (x : LockRow). is_good_row t x ≡ true) (locks.is_row_of c ino r) (locks.lowered r) r
      (λ q. let p = row_of_good r e in let s = lock_parts r.g r.mode r.demand p.1 in
      good_row (locks.lowered r) (record { lived = p.0.lived; told = p.0.told }) (told_lock r.g modes.S (locks.demand_lowered r.demand) s.0 refl (lower_demand r.demand s.2)))
      (λ q. e)

  pub rows_changed : (n : ℕ) (l : Locks) (rows : List LockRow) → list_all (is_good_row t) rows ≡ true → AreHeld n ep t l → AreHeld n ep t (record l { rows = rows })
  rows_changed n l rows e h = record { rows = e; waits = h.waits; few = h.few; epoch = h.epoch; limit = h.limit }

  waits_dropped : (n : ℕ) (l : Locks) (q : Waiter → Bool) → AreHeld n ep t l → AreHeld n ep t (record l { waiters = filter q l.waiters })
  waits_dropped n l q h =
      record {
        rows = h.rows;
        waits = every_filter (is_good_wait t) q l.waiters h.waits;
        few = let less : length (filter q l.waiters) ≤ length l.waiters = filtered_no_longer q l.waiters in omega (arith, less, h.few);
        epoch = h.epoch;
        limit = h.limit;
      }

  release_to_held : (n : ℕ) (l : Locks) (c : ClientId) (ino : ℕ) (to : Mode) → AreHeld n ep t l → AreHeld n ep t (locks.release_to l c ino to)
  unfolding locks.release_to
  release_to_held n l c ino modes.None h = rows_changed n l _ (every_filter (is_good_row t) (λ r. not (locks.is_row_of c ino r)) l.rows h.rows) h
  release_to_held n l c ino modes.S h = rows_changed n l _ (every_map (is_good_row t) (is_good_row t) (locks.lower c ino) (lower_good c ino) l.rows h.rows) h
  release_to_held n l c ino modes.X h = rows_changed n l _ (every_map (is_good_row t) (is_good_row t) (locks.lower c ino) (lower_good c ino) l.rows h.rows) h

  released_at_held : (n : ℕ) (l : Locks) (c : ClientId) (life : Life) (ino : ℕ) (g : GrantNo) (to : Mode) (o : Option LockRow) → AreHeld n ep t l →
      AreHeld n ep t (locks.released_at l c life ino g to o).locks
  unfolding locks.released_at locks.release locks.not_released
  released_at_held n l c life ino g to None h = h
  released_at_held n l c life ino g to (Some r) h =
      cond_either (λ (x : Released). AreHeld n ep t x.locks) (locks.is_under life g r) (locks.release l c ino to) (locks.not_released l) (λ q. release_to_held n l c ino to h) (λ q. h)

  pub released_held : (n : ℕ) (l : Locks) (c : ClientId) (life : Life) (ino : ℕ) (g : GrantNo) (to : Mode) → AreHeld n ep t l →
      AreHeld n ep t (locks.released l c life ino g to).locks
  unfolding locks.released
  released_held n l c life ino g to h = released_at_held n l c life ino g to (locks.row_of l c ino) h

  pub drop_waits_held : (n : ℕ) (l : Locks) (c : ClientId) → AreHeld n ep t l → AreHeld n ep t (locks.drop_waits l c)
  unfolding locks.drop_waits
  drop_waits_held n l c h = waits_dropped n l (λ w. not (locks.is_wait_by c w)) h

  pub drop_file_held : (n : ℕ) (l : Locks) (ino : ℕ) → AreHeld n ep t l → AreHeld n ep t (locks.drop_file_waits l ino)
  unfolding locks.drop_file_waits
  drop_file_held n l ino h = waits_dropped n l (λ w. not (locks.is_wait_on ino w)) h

  answered_told : (d : Option RowDemand) → is_told_demand d ≡ true → is_told_demand (option_map locks.answered_demand d) ≡ true
  answered_told None q = refl
  answered_told (Some d) q = q

  answered_good : (r : LockRow) → is_good_row t r ≡ true → is_good_row t (locks.answered_row r) ≡ true
  unfolding locks.answered_row
  answered_good r e =
      let p = row_of_good r e in
      let s = lock_parts r.g r.mode r.demand p.1 in
      good_row (locks.answered_row r) (record { lived = p.0.lived; told = p.0.told }) (told_lock r.g r.mode (option_map locks.answered_demand r.demand) s.0 s.1 (answered_told r.demand s.2))

  pub seen_held : (n : ℕ) (l : Locks) (c : ClientId) (ino : ℕ) (g : GrantNo) → AreHeld n ep t l → AreHeld n ep t (locks.demand_seen l c ino g)
  unfolding locks.demand_seen
  seen_held n l c ino g h =
      rows_changed n l _ (every_map (is_good_row t) (is_good_row t) (locks.observe c ino g)
      (λ r e. cond_either (λ (x : LockRow). is_good_row t x ≡ true) (locks.is_row_of c ino r && (r.g.0 == g.0)) (locks.answered_row r) r (λ q. answered_good r e) (λ q. e)) l.rows h.rows) h
