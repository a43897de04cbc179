-- Grants and demands are made exactly if one is due.
use Rattle.st_lemmas.proofs.Words
use Words.{◌≡◌, ℕ, zero, suc, ◌+◌, ◌≤◌, Bool, true, false, ◌&&◌, List, [], ◌∷◌, refl, sym, ◌∙◌, subst, arith, cond, true≢false, find, length, Option, Some, None, is_some, nat_le, list_any}
use Words.{le-leb, ClientId, Config, Mode, Stamp, LockRow, RowDemand, Waiter}
use Words.Locks.{Demanding, Granting, Locks, demand_again, demand_clients, demand_files, demand_for, demand_lower, demand_now, demand_row, demand_with, demands_due, grant_and}
use Words.Locks.{grant_file, grant_files, grant_waiter, grantable, is_below, is_wait_on, next_grants, next_waiter, nothing_demanded, nothing_granted, row_of, sent_again, to_demand, waited_files, wish}
use Rattle.st_due.specs.Moments.{has_come, is_due}
use Rattle.st_due.specs.ServerDue.{demand_at, demand_of_client, demand_of_row, demands_at, demands_for, demands_on, may_grant_on}
use Rattle.st_due.proofs.EarliestFound.{any_filtered, comes}
use Rattle.st_laws_due.proofs.Moments.{any_flat}
use Rattle.st_laws_due.proofs.Passes.{IsBy, fold_steps, one_longer, steps_by}

-- Grants.

abbrev pub granted_size : Granting → ℕ
granted_size p = length p.granted

one_granted : (p : Granting) (w : Waiter) → granted_size (grant_waiter p w) ≡ granted_size p + 1
unfolding grant_waiter
one_granted p w = one_longer p.granted _

grown : (ino n : ℕ) (p : Granting) → granted_size p ≤ granted_size (grant_file ino n p)
unfolding grant_file
grown ino zero p = omega arith
grown ino (suc n) p = go (next_waiter p.locks ino) (λ w. grown ino n (grant_waiter p w))
  where
    go : (o : Option Waiter) → ((w : Waiter) → granted_size (grant_waiter p w) ≤ granted_size (grant_file ino n (grant_waiter p w))) →
        granted_size p ≤ granted_size (grant_and (grant_file ino n) p o)
    go None h = omega arith
    go (Some w) h =
        let a = h w in
        let b = one_granted p w in
        omega (arith, a, b)

none_left : (l : Locks) (ino : ℕ) (ws : List Waiter) → length ws ≡ 0 → is_some (grantable l (find (is_wait_on ino) ws)) ≡ false
none_left l ino [] e = refl
none_left l ino (w ∷ ws) e = absurd (omega (arith, e))

-- the grants of one file
abbrev pub grant_step : ℕ → Granting → Granting
grant_step ino p = grant_file ino (length p.locks.waiters) p

-- a waiter that is granted, or none
waiter_by : (ino n : ℕ) (p : Granting) (o : Option Waiter) → IsBy granted_size (is_some o) p (grant_and (grant_file ino n) p o)
waiter_by ino n p None = record { same = λ e. refl; more = λ e. cc }
waiter_by ino n p (Some w) = record {
  same = λ e. cc;
  more = λ e.
      let a = grown ino n (grant_waiter p w) in
      let b = one_granted p w in
      omega (arith, a, b);
}

fuel_by : (ino n : ℕ) (p : Granting) → (n ≡ 0 → may_grant_on p.locks ino ≡ false) → IsBy granted_size (may_grant_on p.locks ino) p (grant_file ino n p)
unfolding grant_file
fuel_by ino zero p h = record { same = λ e. refl; more = λ e. absurd (true≢false (sym e ∙ h refl)) }
fuel_by ino (suc n) p h = waiter_by ino n p (next_waiter p.locks ino)

file_by : (ino : ℕ) (p : Granting) → IsBy granted_size (may_grant_on p.locks ino) p (grant_step ino p)
file_by ino p = fuel_by ino (length p.locks.waiters) p (none_left p.locks ino p.locks.waiters)

files_fold : (inos : List ℕ) (p : Granting) → fold_steps grant_step inos p ≡ grant_files inos p
unfolding grant_files
files_fold [] p = refl
files_fold (ino ∷ inos) p = files_fold inos (grant_step ino p)

pub grants_by : (l : Locks) → IsBy granted_size (list_any (may_grant_on l) (waited_files l)) (nothing_granted l) (next_grants l)
unfolding next_grants
grants_by l =
    subst (IsBy granted_size (list_any (may_grant_on l) (waited_files l)) (nothing_granted l)) (files_fold (waited_files l) (nothing_granted l))
    (steps_by granted_size grant_step (λ (ino : ℕ) (p : Granting). may_grant_on p.locks ino) file_by (waited_files l) (nothing_granted l))

-- Demands.

abbrev pub demanded_size : Demanding → ℕ
demanded_size p = length p.due

module _ (k : Config) (now : Stamp) where
  some_if : {A : Type 0} (b : Bool) (x : A) → is_some (cond b (Some x) None) ≡ b
  some_if true x = refl
  some_if false x = refl

  from_start : true ≡ has_come now 0
  from_start = sym (le-leb 0 now.0 (omega arith))

  now_by : (to : Mode) (o : Option RowDemand) → is_some (demand_now k now true to o) ≡ has_come now (demand_at k to o)
  unfolding demand_now demand_lower demand_again
  now_by to None = from_start
  now_by to (Some d) = go (is_below to d.to)
    where
      go : (b : Bool) → is_some (cond b (Some (sent_again now to d)) (cond (true && nat_le (d.sent.0 + k.retry) now.0) (Some (sent_again now d.to d)) None)) ≡
          has_come now (cond b 0 (d.sent.0 + k.retry))
      go true = from_start
      go false = some_if (nat_le (d.sent.0 + k.retry) now.0) (sent_again now d.to d)

  with_by : (p : Demanding) (r : LockRow) (o : Option RowDemand) → IsBy demanded_size (is_some o) p (demand_with p r o)
  unfolding demand_with
  with_by p r None = record { same = λ e. refl; more = λ e. cc }
  with_by p r (Some d) = record {
    same = λ e. cc;
    more = λ e. let a = one_longer p.due (r.client, r.life, r.ino, r.g, d.to) in omega (arith, a);
  }

  row_by : (to : Mode) (o : Option LockRow) (p : Demanding) → IsBy demanded_size (is_due (demand_of_row k to o) now) p (demand_row k now true to o p)
  unfolding demand_row
  row_by to None p = record { same = λ e. refl; more = λ e. cc }
  row_by to (Some r) p =
      subst (λ b. IsBy demanded_size b p (demand_with p r (demand_now k now true to r.demand))) (now_by to r.demand)
      (with_by p r (demand_now k now true to r.demand))

  -- the demand on a client's row of a file
  abbrev pub demand_step : ℕ → Mode → ClientId → Demanding → Demanding
  demand_step ino to c p = demand_row k now true to (row_of p.locks c ino) p

  clients_fold : (ino : ℕ) (to : Mode) (cs : List ClientId) (p : Demanding) → fold_steps (demand_step ino to) cs p ≡ demand_clients k now true ino to cs p
  unfolding demand_clients
  clients_fold ino to [] p = refl
  clients_fold ino to (c ∷ cs) p = clients_fold ino to cs (demand_step ino to c p)

  clients_by : (ino : ℕ) (to : Mode) (cs : List ClientId) (p : Demanding) →
      IsBy demanded_size (list_any (comes now (demand_of_client k p.locks ino to)) cs) p (demand_clients k now true ino to cs p)
  clients_by ino to cs p =
      subst (IsBy demanded_size (list_any (comes now (demand_of_client k p.locks ino to)) cs) p) (clients_fold ino to cs p)
      (steps_by demanded_size (demand_step ino to) (λ (c : ClientId) (q : Demanding). is_due (demand_of_client k q.locks ino to c) now)
      (λ c q. row_by to (row_of q.locks c ino) q) cs p)

  for_by : (suspects : List ClientId) (o : Option Waiter) (p : Demanding) →
      IsBy demanded_size (list_any (has_come now) (demands_for k p.locks suspects o)) p (demand_for k now true suspects o p)
  unfolding demand_for
  for_by suspects None p = record { same = λ e. refl; more = λ e. cc }
  for_by suspects (Some w) p =
      subst (λ b. IsBy demanded_size b p (demand_clients k now true w.ino (wish w.mode) (to_demand p.locks suspects w) p))
      (sym (any_filtered (demand_of_client k p.locks w.ino (wish w.mode)) now (to_demand p.locks suspects w)))
      (clients_by w.ino (wish w.mode) (to_demand p.locks suspects w) p)

  -- the demands on the rows of a file
  abbrev pub file_step : List ClientId → ℕ → Demanding → Demanding
  file_step suspects ino p = demand_for k now true suspects (find (is_wait_on ino) p.locks.waiters) p

  demands_fold : (suspects : List ClientId) (inos : List ℕ) (p : Demanding) → fold_steps (file_step suspects) inos p ≡ demand_files k now true suspects inos p
  unfolding demand_files
  demands_fold suspects [] p = refl
  demands_fold suspects (ino ∷ inos) p = demands_fold suspects inos (file_step suspects ino p)

  pub demands_by : (suspects : List ClientId) (l : Locks) →
      IsBy demanded_size (list_any (has_come now) (demands_at k l suspects)) (nothing_demanded l) (demands_due l now true suspects k)
  unfolding demands_due
  demands_by suspects l =
      subst (λ b. IsBy demanded_size b (nothing_demanded l) (demand_files k now true suspects (waited_files l) (nothing_demanded l)))
      (sym (any_flat (demands_on k l suspects) now (waited_files l)))
      (subst (IsBy demanded_size (list_any (λ ino. list_any (has_come now) (demands_on k l suspects ino)) (waited_files l)) (nothing_demanded l))
      (demands_fold suspects (waited_files l) (nothing_demanded l))
      (steps_by demanded_size (file_step suspects) (λ (ino : ℕ) (p : Demanding). list_any (has_come now) (demands_on k p.locks suspects ino))
      (λ ino p. for_by suspects (find (is_wait_on ino) p.locks.waiters) p) (waited_files l) (nothing_demanded l)))
