-- A server that gets its ticks when they are due keeps its times: each of them ends at a moment of the server.
use Rattle.st_lemmas.proofs.Words
use Words.{◌≡◌, ℕ, ◌+◌, ◌≤◌, Bool, true, false, ◌&&◌, ◌||◌, not, List, [], ◌∷◌, ◌++◌, refl, sym, ap, ◌∙◌, subst, arith, cond, filter, find, list_any, map, Option, Some, None, nat_le}
use Words.{le-leb, leb-true, ClientId, Config, LockRow, Mode, RowDemand, Stamp, Suspect, Waiter}
use Words.Authority.{is_over, may_ack, suspects_of}
use Words.Keys.{client, rising}
use Words.Lists.{Has}
use Words.Locks.{client_of_row, ino_of_wait, is_among, is_below, is_wait_on, row_of, stands_against, to_demand, waited_files, wish}
use Words.Server.{ServerState, turn}
use Words.Tables.{some_passes}
use Rattle.st_due.specs.Moments.{has_come, is_due}
use Rattle.st_due.specs.ServerDue.{demand_at, demand_of_client, demand_of_row, demands_for, demands_on, grace_end, may_grant_on, overdue_demand, overdue_since, server_due, suspicion_at}
use Rattle.st_due.proofs.EarliestFound.{any_filtered, comes}
use Rattle.st_laws_due.specs.DueServers.{DueServersKeepTime, IsTickedWhenDue}
use Rattle.st_laws_due.proofs.Moments.{any_flat, any_over, any_picked, any_rising}
use Rattle.st_laws_due.proofs.SpanMoments.{or_true}
use Rattle.st_laws_due.proofs.Ticks.{demands_are_due, grants_due, is_later_due, is_theft_due, moments_come, suspicions_due}

-- a reading of the clock
abbrev pub moment : ℕ → Stamp
moment m = record { 0 = m }

has_come_at : (m n : ℕ) → n ≤ m → has_come (moment m) n ≡ true
has_come_at m n l = le-leb n m l

left_one : (a b : Bool) → a ≡ true → (a || b) ≡ true
left_one a b e = ap (λ x. x || b) e

right_one : (a b : Bool) → b ≡ true → (a || b) ≡ true
right_one a b e = ap (λ x. a || x) e ∙ or_true a

-- if something is due at a moment, the clock is no later than the gap after it
in_time : (s : ServerState) (clock gap m : ℕ) → IsTickedWhenDue s clock gap → is_due (server_due s) (moment m) ≡ true → clock ≤ m + gap
in_time s clock gap m h e = by (server_due s) refl e
  where
    by : (o : Option ℕ) → server_due s ≡ o → is_due o (moment m) ≡ true → clock ≤ m + gap
    by None f g = cc
    by (Some n) f g = let a = h n f in let b = leb-true n m g in omega (arith, a, b)

module _ (s : ServerState) (clock gap : ℕ) (ticked : IsTickedWhenDue s clock gap) where
  later : (m : ℕ) → is_later_due (turn s []) (moment m) ≡ true → clock ≤ m + gap
  later m e = in_time s clock gap m ticked (moments_come s (moment m) ∙ right_one (is_theft_due s (moment m)) (is_later_due (turn s []) (moment m)) e)

  robbed : (x : Suspect) → Has x s.authority.suspects → clock ≤ x.start.0 + s.authority.wait + gap
  robbed x h =
      let m = x.start.0 + s.authority.wait in
      in_time s clock gap m ticked
      (moments_come s (moment m)
      ∙ left_one (is_theft_due s (moment m)) (is_later_due (turn s []) (moment m))
      (some_passes (is_over s.authority.wait (moment m)) s.authority.suspects x h (has_come_at m m (omega arith))))

  answered : (r : LockRow) (d : RowDemand) (t : Stamp) → Has r s.locks.rows → r.demand ≡ Some d → d.since ≡ Some t → may_ack s.authority r.client ≡ true →
      clock ≤ t.0 + s.config.demand + gap
  answered r d t h e f g =
      let m = t.0 + s.config.demand in
      let k = s.config in
      let a = s.authority in
      let due : comes (moment m) (suspicion_at k a) r ≡ true =
      ap (λ b. is_due (cond b (overdue_demand k r.demand) None) (moment m)) g
      ∙ ap (λ o. is_due (overdue_demand k o) (moment m)) e
      ∙ ap (λ o. is_due (overdue_since k o) (moment m)) f
      ∙ has_come_at m m (omega arith) in
      later m (left_one (suspicions_due (turn s []) (moment m)) (grants_due (turn s []) (moment m) || demands_are_due (turn s []) (moment m))
      (any_filtered (suspicion_at k a) (moment m) s.locks.rows ∙ some_passes (comes (moment m) (suspicion_at k a)) s.locks.rows r h due))

  -- the file of a wait passes a test if one for which somebody waits does
  waited : (p : ℕ → Bool) (w : Waiter) → Has w s.locks.waiters → p w.ino ≡ true → list_any p (waited_files s.locks) ≡ true
  waited p w h e =
      any_rising p (map ino_of_wait s.locks.waiters) ∙ any_over p ino_of_wait s.locks.waiters ∙ some_passes (λ (x : Waiter). p x.ino) s.locks.waiters w h e

  granted : (w : Waiter) → Has w s.locks.waiters → may_grant_on s.locks w.ino ≡ true → clock ≤ grace_end s.grace + gap
  granted w h e =
      let m = grace_end s.grace in
      let due : grants_due (turn s []) (moment m) ≡ true =
      ap (λ b. list_any (has_come (moment m)) (cond b (m ∷ []) [])) (waited (may_grant_on s.locks) w h e)
      ∙ left_one (has_come (moment m) m) false (has_come_at m m (omega arith)) in
      later m (right_one (suspicions_due (turn s []) (moment m)) (grants_due (turn s []) (moment m) || demands_are_due (turn s []) (moment m))
      (left_one (grants_due (turn s []) (moment m)) (demands_are_due (turn s []) (moment m)) due))

  repeated : (w : Waiter) (r : LockRow) (d : RowDemand) → Has w s.locks.waiters → find (is_wait_on w.ino) s.locks.waiters ≡ Some w → Has r s.locks.rows →
      stands_against w.client w.ino w.mode r ≡ true → is_among (suspects_of s.authority) r.client ≡ false → row_of s.locks r.client w.ino ≡ Some r →
      r.demand ≡ Some d → clock ≤ d.sent.0 + s.config.retry + gap
  repeated w r d h first at against free row e =
      later m (right_one (suspicions_due (turn s []) now) (grants_due (turn s []) now || demands_are_due (turn s []) now)
      (right_one (grants_due (turn s []) now) (demands_are_due (turn s []) now)
      (any_flat (demands_on k l suspects) now (waited_files l) ∙ waited (λ ino. list_any (has_come now) (demands_on k l suspects ino)) w h on_file)))
    where
      k : Config
      k = s.config

      l : Words.Locks.Locks
      l = s.locks

      m : ℕ
      m = d.sent.0 + k.retry

      now : Stamp
      now = moment m

      suspects : List ClientId
      suspects = suspects_of s.authority

      asked : ClientId → Option ℕ
      asked = demand_of_client k l w.ino (wish w.mode)

      again : (b : Bool) → has_come now (cond b 0 m) ≡ true
      again true = has_come_at m 0 (omega arith)
      again false = has_come_at m m (omega arith)

      come : comes now asked r.client ≡ true
      come =
          ap (λ o. is_due (demand_of_row k (wish w.mode) o) now) row
          ∙ ap (λ o. has_come now (demand_at k (wish w.mode) o)) e
          ∙ again (is_below (wish w.mode) d.to)

      among : list_any (comes now asked) (to_demand l suspects w) ≡ true
      among =
          any_picked (comes now asked) (λ c. not (is_among suspects c))
          (map client (rising (map client_of_row (filter (stands_against w.client w.ino w.mode) l.rows))))
          ∙ any_over (λ c. not (is_among suspects c) && comes now asked c) client
          (rising (map client_of_row (filter (stands_against w.client w.ino w.mode) l.rows)))
          ∙ any_rising (λ n. not (is_among suspects (client n)) && comes now asked (client n))
          (map client_of_row (filter (stands_against w.client w.ino w.mode) l.rows))
          ∙ any_over (λ n. not (is_among suspects (client n)) && comes now asked (client n)) client_of_row
          (filter (stands_against w.client w.ino w.mode) l.rows)
          ∙ any_picked (λ (x : LockRow). not (is_among suspects x.client) && comes now asked x.client) (stands_against w.client w.ino w.mode) l.rows
          ∙ some_passes (λ (x : LockRow). stands_against w.client w.ino w.mode x && (not (is_among suspects x.client) && comes now asked x.client)) l.rows r at
          (ap (λ b. b && (not (is_among suspects r.client) && comes now asked r.client)) against ∙ ap (λ b. not b && comes now asked r.client) free ∙ come)

      on_file : list_any (has_come now) (demands_on k l suspects w.ino) ≡ true
      on_file =
          ap (λ o. list_any (has_come now) (demands_for k l suspects o)) first
          ∙ any_filtered asked now (to_demand l suspects w) ∙ among

pub time_kept : DueServersKeepTime
time_kept s clock gap h =
    record {
      robbed = robbed s clock gap h;
      answered = answered s clock gap h;
      granted = granted s clock gap h;
      repeated = repeated s clock gap h;
    }
