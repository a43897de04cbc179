-- What the granting and the demanding pass keep of a lock table, and that what they tell can be told.
use Rattle.st_lemmas.proofs.Words
use Words.{◌≡◌, ℕ, zero, suc, ◌+◌, ◌^◌, ◌<◌, ◌≤◌, Bool, true, ◌&&◌, not, List, [], ◌∷◌, length, Option, Some, None, refl, arith, find, nat_le, list_all}
use Words.{list_any, and_from, ClientId, Epoch, Stamp, Config, Mode, LockRow, RowDemand, Waiter}
use Words.modes
use Words.Ranges.{is_grant, is_mode}
use Words.Locks as locks
use Words.Locks.{Locks, Granting, Demanding}
use Words.Sessions.{Sessions}
use Words.Tables.{cond_either}
use Words.Serving.{own_wait}
use Rattle.std.proofs.lemmas.Bool.{not_from_true}
use Rattle.st_server.specs.Invariants.{AreHeld, is_good_row, is_good_wait, is_told, is_told_demand}
use Rattle.st_server.proofs.Every.{every_last, every_found, every_map}
use Rattle.st_server.proofs.Holding.{length_gone, is_good_sent, row_of_good, good_row, told_lock, lock_parts, wait_of_good, next_grant_fits, grant_rows}
use Rattle.st_server.proofs.Holding.{grant_waits, rows_changed}

module _ (n : ℕ) (ep : Epoch) (t : Sessions) (below : ep.0 < 2 ^ 32) (small : n < 2 ^ 32) where
  -- Granting.
  pub record Grants (p : Granting) : Type 0 where
    pub held : AreHeld n ep t p.locks
    pub told : list_all (is_good_sent 1 2) p.granted ≡ true

  shorter_without_wait : (l : Locks) (w : Waiter) (ino : ℕ) → find (locks.is_wait_on ino) l.waiters ≡ Some w →
      length (locks.without_wait w.client w.ino l.waiters) + 1 ≤ length l.waiters
  shorter_without_wait l w ino e = length_gone (locks.is_wait_on ino) (λ x. not (locks.is_wait_of w.client w.ino x)) l.waiters w e
      (not_from_true (locks.is_wait_of w.client w.ino w) (own_wait w))

  waiter_granted : (p : Granting) (w : Waiter) (ino : ℕ) → find (locks.is_wait_on ino) p.locks.waiters ≡ Some w → Grants p → Grants (locks.grant_waiter p w)
  unfolding locks.grant_waiter locks.grant
  waiter_granted p w ino e g =
      let less = shorter_without_wait p.locks w ino e in
      let good = wait_of_good ep t w (every_found (is_good_wait t) (locks.is_wait_on ino) p.locks.waiters w g.held.waits e) in
      let room : p.locks.grants + 1 < 2 ^ 32 = omega (arith, less, g.held.few, small) in
      let fits = next_grant_fits ep t p.locks g.held.epoch below room in
      record {
        held = record {
          rows = grant_rows ep t p.locks w.client w.life w.ino w.mode good.0 good.1 fits g.held.rows;
          waits = grant_waits ep t p.locks w.client w.life w.ino w.mode g.held.waits;
          few = omega (arith, less, g.held.few);
          epoch = g.held.epoch;
          limit = g.held.limit;
        };
        told =
            every_last (is_good_sent 1 2) p.granted _ g.told
            (and_from (is_told w.client w.life w.ino) _ good.0.told (and_from (is_grant (locks.next_grant p.locks)) _ fits good.1));
      }

  and_granted : (go_on : Granting → Granting) → ((q : Granting) → Grants q → Grants (go_on q)) → (p : Granting) (ino : ℕ) (o : Option Waiter) →
      find (locks.is_wait_on ino) p.locks.waiters ≡ o → Grants p → Grants (locks.grant_and go_on p (locks.grantable p.locks o))
  and_granted go_on k p ino None e g = g
  and_granted go_on k p ino (Some w) e g =
      cond_either (λ (x : Option Waiter). Grants (locks.grant_and go_on p x)) (list_any (locks.stands_against w.client w.ino w.mode) p.locks.rows) None (Some w)
      (λ q. g) (λ q. k (locks.grant_waiter p w) (waiter_granted p w ino e g))

  file_granted : (ino m : ℕ) (p : Granting) → Grants p → Grants (locks.grant_file ino m p)
  unfolding locks.grant_file
  file_granted ino zero p g = g
  file_granted ino (suc m) p g = and_granted (locks.grant_file ino m) (λ q h. file_granted ino m q h) p ino (find (locks.is_wait_on ino) p.locks.waiters) refl g

  files_granted : (inos : List ℕ) (p : Granting) → Grants p → Grants (locks.grant_files inos p)
  unfolding locks.grant_files
  files_granted [] p g = g
  files_granted (ino ∷ inos) p g = files_granted inos (locks.grant_file ino (length p.locks.waiters) p) (file_granted ino (length p.locks.waiters) p g)

  pub next_granted : (l : Locks) → AreHeld n ep t l → Grants (locks.next_grants l)
  unfolding locks.next_grants
  next_granted l h = files_granted (locks.waited_files l) (locks.nothing_granted l) (record { held = h; told = refl })

module _ (n : ℕ) (ep : Epoch) (t : Sessions) where
  -- Demanding.
  pub record Demands (p : Demanding) : Type 0 where
    pub held : AreHeld n ep t p.locks
    pub told : list_all (is_good_sent 0 1) p.due ≡ true

  demanded_good : (r x : LockRow) (d : RowDemand) → is_mode 0 1 d.to ≡ true → is_good_row t x ≡ true → is_good_row t (locks.demand_of r.client r.ino d x) ≡ true
  unfolding locks.demanded
  demanded_good r x d m e =
      cond_either (λ (y : LockRow). is_good_row t y ≡ true) (locks.is_row_of r.client r.ino x) (locks.demanded d x) x
      (λ q. let p = row_of_good ep t x e in let s = lock_parts ep t x.g x.mode x.demand p.1 in
      good_row ep t (locks.demanded d x) (record { lived = p.0.lived; told = p.0.told }) (told_lock ep t x.g x.mode (Some d) s.0 s.1 m))
      (λ q. e)

  with_demanded : (p : Demanding) (r : LockRow) (o : Option RowDemand) → is_good_row t r ≡ true → is_told_demand o ≡ true → Demands p → Demands (locks.demand_with p r o)
  unfolding locks.demand_with
  with_demanded p r None e m g = g
  with_demanded p r (Some d) e m g =
      let q = row_of_good ep t r e in
      let s = lock_parts ep t r.g r.mode r.demand q.1 in
      record {
        held = rows_changed ep t n p.locks _ (every_map (is_good_row t) (is_good_row t) (locks.demand_of r.client r.ino d) (λ x f. demanded_good r x d m f) p.locks.rows g.held.rows) g.held;
        told = every_last (is_good_sent 0 1) p.due _ g.told (and_from (is_told r.client r.life r.ino) _ q.0.told (and_from (is_grant r.g) _ s.0 m));
      }

  now_told : (k : Config) (now : Stamp) (tick : Bool) (to : Mode) (o : Option RowDemand) → is_mode 0 1 to ≡ true → is_told_demand o ≡ true → is_told_demand (locks.demand_now k now tick to o) ≡ true
  unfolding locks.demand_now locks.demand_lower locks.demand_again
  now_told k now tick to None m e = m
  now_told k now tick to (Some d) m e =
      cond_either (λ (x : Option RowDemand). is_told_demand x ≡ true) (locks.is_below to d.to) (Some (locks.sent_again now to d)) (locks.demand_again k now tick d) (λ q. m)
      (λ q. cond_either (λ (x : Option RowDemand). is_told_demand x ≡ true) (tick && nat_le (d.sent.0 + k.retry) now.0) (Some (locks.sent_again now d.to d)) None (λ z. e) (λ z. refl))

  row_demanded : (k : Config) (now : Stamp) (tick : Bool) (to : Mode) (o : Option LockRow) (p : Demanding) → is_mode 0 1 to ≡ true →
      ((r : LockRow) → o ≡ Some r → is_good_row t r ≡ true) → Demands p → Demands (locks.demand_row k now tick to o p)
  unfolding locks.demand_row
  row_demanded k now tick to None p m good g = g
  row_demanded k now tick to (Some r) p m good g =
      let e = good r refl in
      let s = lock_parts ep t r.g r.mode r.demand (row_of_good ep t r e).1 in
      with_demanded p r (locks.demand_now k now tick to r.demand) e (now_told k now tick to r.demand m s.2) g

  clients_demanded : (k : Config) (now : Stamp) (tick : Bool) (ino : ℕ) (to : Mode) (cs : List ClientId) (p : Demanding) → is_mode 0 1 to ≡ true → Demands p →
      Demands (locks.demand_clients k now tick ino to cs p)
  unfolding locks.demand_clients
  clients_demanded k now tick ino to [] p m g = g
  clients_demanded k now tick ino to (c ∷ cs) p m g =
      clients_demanded k now tick ino to cs (locks.demand_row k now tick to (locks.row_of p.locks c ino) p) m
      (row_demanded k now tick to (locks.row_of p.locks c ino) p m (λ r e. every_found (is_good_row t) (locks.is_row_of c ino) p.locks.rows r g.held.rows e) g)

  wish_told : (m : Mode) → is_mode 0 1 (locks.wish m) ≡ true
  wish_told modes.X = refl
  wish_told modes.S = refl
  wish_told modes.None = refl

  for_demanded : (k : Config) (now : Stamp) (tick : Bool) (suspects : List ClientId) (o : Option Waiter) (p : Demanding) → Demands p →
      Demands (locks.demand_for k now tick suspects o p)
  unfolding locks.demand_for
  for_demanded k now tick suspects None p g = g
  for_demanded k now tick suspects (Some w) p g = clients_demanded k now tick w.ino (locks.wish w.mode) (locks.to_demand p.locks suspects w) p (wish_told w.mode) g

  files_demanded : (k : Config) (now : Stamp) (tick : Bool) (suspects : List ClientId) (inos : List ℕ) (p : Demanding) → Demands p →
      Demands (locks.demand_files k now tick suspects inos p)
  unfolding locks.demand_files
  files_demanded k now tick suspects [] p g = g
  files_demanded k now tick suspects (ino ∷ inos) p g =
      files_demanded k now tick suspects inos (locks.demand_for k now tick suspects (find (locks.is_wait_on ino) p.locks.waiters) p)
      (for_demanded k now tick suspects (find (locks.is_wait_on ino) p.locks.waiters) p g)

  pub due_demanded : (l : Locks) (now : Stamp) (tick : Bool) (suspects : List ClientId) (k : Config) → AreHeld n ep t l → Demands (locks.demands_due l now tick suspects k)
  unfolding locks.demands_due
  due_demanded l now tick suspects k h = files_demanded k now tick suspects (locks.waited_files l) (locks.nothing_demanded l) (record { held = h; told = refl })
