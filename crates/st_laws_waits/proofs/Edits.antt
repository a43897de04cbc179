-- Each change of a step keeps the bounds on demands and timers: a demand that is sent counts from now, a timer that starts does so now, and no change
-- makes a suspect free.
use Rattle.st_lemmas.proofs.Words
use Words.{◌≡◌, ℕ, ◌+◌, ◌≤◌, ◌<◌, ◌⊎◌, Bool, true, false, not, ◌&&◌, List, ◌==◌, refl, sym, ap, ◌∙◌, subst, inl, inr, arith, map, nat_le, Option, Some, None}
use Words.{is_some, option_map, eqb-true, eq-eqb, leb-true, Config, ClientId, GrantNo, Life, Stamp, Mode, Suspect, ServerInput, LockRow, RowDemand}
use Words.modes
use Words.Authority as authority
use Words.Authority.{Authority, is_over, is_suspect, may_ack, suspect_of}
use Words.Grace.{Grace}
use Words.Keys.{client}
use Words.Locks as locks
use Words.Locks.{Locks, answered_demand, answered_row, demand_again, demand_lower, demand_lowered, demand_now, demand_of, demanded, grant, installed, is_row_of}
use Words.Locks.{lower, lowered, new_row, queue, release_to, observe, unless_met, wait_of, with_demand, with_rows}
use Words.Server.{ServerState, ServerTurn, is_tick, keep_and_reply, life_in, reply, sender, steal_from, suspect_client, tell}
use Words.Lists.{Has}
use Words.Tables.{and_true, cond_either, find_kept_in, found_at, has_append, has_filter, has_map}
use Words.Serving.{has_suspect, suspect_wait}
use Words.Truth.{not_both}
use Rattle.st_base.specs.Mode.{number_of}
use Rattle.st_lemmas.proofs.Puts.{has_put}
use Rattle.st_laws_refine.specs.Server.Edits.{Acquired, AtOnce, InTurn, Edit, TakesTimers, Steals, Suspects, Begins, DropsWaits, Keeps, Reasserts, Sees}
use Rattle.st_laws_refine.specs.Server.Edits.{Acquires, Releases, DropsFile, Grants, Demands, NamesChange, ExtentsChange, Cuts, Replies, Repeats, Refuses}
use Rattle.st_laws_refine.specs.Server.Edits.{TellsGrant, TellsDemand}
use Rattle.st_laws_refine.proofs.Server.Changes.{suspect_other}
use Rattle.st_laws_refine.proofs.Server.Locking.{queue_rows}
use Rattle.st_laws_waits.specs.Bounds.{DemandInTime, RowsInTime, SinceInTime}
use Rattle.st_laws_waits.specs.WithinStep.{WithinStep, TimersRun}

-- bounds on the rows of a table
module _ (last now demand : ℕ) where
  -- more clients are suspects
  since_less : (a b : Bool) → (b ≡ true → a ≡ true) → (o : Option Stamp) → SinceInTime last now demand a o → SinceInTime last now demand b o
  since_less a b h None s = s
  since_less a b h (Some t) s = (s.0, λ e. s.1 (h e))

  pub demand_less : (a b : Bool) → (b ≡ true → a ≡ true) → (o : Option RowDemand) → DemandInTime last now demand a o → DemandInTime last now demand b o
  demand_less a b h None s = s
  demand_less a b h (Some d) s = (s.0, since_less a b h d.since s.1)

  pub rows_less : (a b : Authority) → ((c : ClientId) → may_ack b c ≡ true → may_ack a c ≡ true) → (l : Locks) → RowsInTime last now demand a l →
      RowsInTime last now demand b l
  rows_less a b h l k r i = demand_less (may_ack a r.client) (may_ack b r.client) (h r.client) r.demand (k r i)

  -- the table's changes
  module _ (a : Authority) where
    pub rows_part : (l v : Locks) → ((r : LockRow) → Has r v.rows → Has r l.rows) → RowsInTime last now demand a l → RowsInTime last now demand a v
    rows_part l v h k r i = k r (h r i)

    rows_are : (l v : Locks) → v.rows ≡ l.rows → RowsInTime last now demand a l → RowsInTime last now demand a v
    rows_are l v e k = rows_part l v (λ r i. subst (Has r) e i) k

    -- each row in place of one of the same client, whose demand is in bounds if the old one is
    rows_map : (f : LockRow → LockRow) (l v : Locks) → v.rows ≡ map f l.rows →
        ((r : LockRow) → Has r l.rows → DemandInTime last now demand (may_ack a r.client) r.demand →
        DemandInTime last now demand (may_ack a (f r).client) (f r).demand) →
        RowsInTime last now demand a l → RowsInTime last now demand a v
    rows_map f l v e h k r i = let m = has_map f l.rows r (subst (Has r) e i) in
        subst (λ (y : LockRow). DemandInTime last now demand (may_ack a y.client) y.demand) (sym m.2) (h m.0 m.1 (k m.0 m.1))

    answered : (free : Bool) (o : Option RowDemand) → DemandInTime last now demand free o → DemandInTime last now demand free (option_map answered_demand o)
    answered free None b = b
    answered free (Some d) b = (b.0, tt)

    met : (free : Bool) (d : RowDemand) → DemandInTime last now demand free (Some d) → DemandInTime last now demand free (unless_met d)
    unfolding unless_met
    met free d b = cond_either (DemandInTime last now demand free) (number_of d.to == 1) None (Some (answered_demand d)) (λ e. tt) (λ e. (b.0, tt))

    lowers : (free : Bool) (o : Option RowDemand) → DemandInTime last now demand free o → DemandInTime last now demand free (demand_lowered o)
    lowers free None b = b
    lowers free (Some d) b = met free d b

    pub in_time_after_seen : (l : Locks) (c : ClientId) (ino : ℕ) (g : GrantNo) → RowsInTime last now demand a l →
        RowsInTime last now demand a (locks.demand_seen l c ino g)
    unfolding locks.demand_seen answered_row
    in_time_after_seen l c ino g k =
        rows_map (observe c ino g) l (locks.demand_seen l c ino g) refl
        (λ r i b. cond_either (λ (y : LockRow). DemandInTime last now demand (may_ack a y.client) y.demand) (is_row_of c ino r && (r.g.0 == g.0))
        (answered_row r) r (λ e. answered (may_ack a r.client) r.demand b) (λ e. b)) k

    lower_bound : (c : ClientId) (ino : ℕ) (r : LockRow) → DemandInTime last now demand (may_ack a r.client) r.demand →
        DemandInTime last now demand (may_ack a (lower c ino r).client) (lower c ino r).demand
    unfolding lowered
    lower_bound c ino r b = cond_either (λ (y : LockRow). DemandInTime last now demand (may_ack a y.client) y.demand) (is_row_of c ino r) (lowered r) r
        (λ e. lowers (may_ack a r.client) r.demand b) (λ e. b)

    pub in_time_after_released : (l : Locks) (c : ClientId) (ino : ℕ) (to : Mode) → RowsInTime last now demand a l →
        RowsInTime last now demand a (release_to l c ino to)
    unfolding release_to
    in_time_after_released l c ino modes.None k = rows_part l (release_to l c ino modes.None) (λ r i. (has_filter (λ r. not (is_row_of c ino r)) l.rows r i).0)
        k
    in_time_after_released l c ino modes.S k = rows_map (lower c ino) l (release_to l c ino modes.S) refl (λ r i b. lower_bound c ino r b) k
    in_time_after_released l c ino modes.X k = rows_map (lower c ino) l (release_to l c ino modes.X) refl (λ r i b. lower_bound c ino r b) k

    pub in_time_after_granted : (l : Locks) (c : ClientId) (life : Life) (ino : ℕ) (mode : Mode) → RowsInTime last now demand a l →
        RowsInTime last now demand a (grant l c life ino mode)
    unfolding grant
    in_time_after_granted l c life ino mode k r i = go (has_put (is_row_of c ino) (new_row l c life ino mode) l.rows r i)
      where
        go : (r ≡ new_row l c life ino mode) ⊎ Has r l.rows → DemandInTime last now demand (may_ack a r.client) r.demand
        go (inl e) = subst (λ (y : LockRow). DemandInTime last now demand (may_ack a y.client) y.demand) (sym e) tt
        go (inr j) = k r j

    pub in_time_after_queued : (l : Locks) (c : ClientId) (life : Life) (ino : ℕ) (mode : Mode) → RowsInTime last now demand a l →
        RowsInTime last now demand a (queue l c life ino mode)
    unfolding queue
    in_time_after_queued l c life ino mode k = rows_are l (queue l c life ino mode) (queue_rows l c life ino mode (wait_of l c ino)) k

    in_time_after_acquired : (g : Bool) (l : Locks) (c : ClientId) (life : Life) (ino : ℕ) (mode : Mode) (v : Locks) → Acquired g l c life ino mode v →
        RowsInTime last now demand a l → RowsInTime last now demand a v
    in_time_after_acquired g l c life ino mode v (AtOnce off w f q) k = in_time_after_granted l c life ino mode k
    in_time_after_acquired g l c life ino mode v (InTurn w) k = in_time_after_queued l c life ino mode k

    in_time_after_installed : (l : Locks) (c : ClientId) (life : Life) (rs : List (ℕ × GrantNo × Mode)) → RowsInTime last now demand a l →
        RowsInTime last now demand a (with_rows l c life rs)
    unfolding with_rows
    in_time_after_installed l c life rs k r i = go (has_append l.rows (map (installed c life) rs) r i)
      where
        go : Has r l.rows ⊎ Has r (map (installed c life) rs) → DemandInTime last now demand (may_ack a r.client) r.demand
        go (inl j) = k r j
        go (inr j) = let m = has_map (installed c life) rs r j in
            subst (λ (y : LockRow). DemandInTime last now demand (may_ack a y.client) y.demand) (sym m.2) tt

    -- a demand that is sent now is in bounds, if the one before it is
    fresh : (free : Bool) → last ≤ now → 1 ≤ demand → (at : Stamp) → at.0 ≡ now → (to : Mode) →
        DemandInTime last now demand free (Some (locks.first_demand at to))
    fresh free l p at e to = (omega (arith, e), (omega (arith, e), λ f. omega (arith, l, p, e)))

    again : (free : Bool) → last ≤ now → 1 ≤ demand → (at : Stamp) → at.0 ≡ now → (to : Mode) (d : RowDemand) → DemandInTime last now demand free (Some d) →
        DemandInTime last now demand free (Some (locks.sent_again at to d))
    again free l p at e to d b = (omega (arith, e), go d.since b.1)
      where
        go : (o : Option Stamp) → SinceInTime last now demand free o → SinceInTime last now demand free (locks.waiting_since at o)
        go None s = (omega (arith, e), λ f. omega (arith, l, p, e))
        go (Some t) s = s

    sent : (kb : Config) (free : Bool) → last ≤ now → 1 ≤ demand → (at : Stamp) → at.0 ≡ now →
        (tick : Bool) (to : Mode) (o : Option RowDemand) (x : RowDemand) → demand_now kb at tick to o ≡ Some x → DemandInTime last now demand free o →
        DemandInTime last now demand free (Some x)
    unfolding demand_now demand_lower demand_again
    sent kb free l p at e tick to None x q b = subst (DemandInTime last now demand free) q (fresh free l p at e to)
    sent kb free l p at e tick to (Some d) x q b =
        subst (DemandInTime last now demand free) q
        (cond_either (DemandInTime last now demand free) (locks.is_below to d.to) (Some (locks.sent_again at to d)) (demand_again kb at tick d)
        (λ f. again free l p at e to d b)
        (λ f. cond_either (DemandInTime last now demand free) (tick && nat_le (d.sent.0 + kb.retry) at.0) (Some (locks.sent_again at d.to d)) None
        (λ g. again free l p at e d.to d b) (λ g. tt)))

-- the timers' changes

-- those that are over are none
pub taken_out : (wait : ℕ) (now : Stamp) (a : Authority) → a.wait ≡ wait → TimersRun now.0 a → (c : ClientId) →
    suspect_of (authority.still_running a now) c ≡ suspect_of a c
unfolding authority.still_running
taken_out wait now a e run c = find_kept_in (is_suspect c) (λ s. not (is_over a.wait now s)) a.suspects
    (λ x i q. ap not (not_over x (run x i).1 (is_over a.wait now x) refl))
  where
    not_over : (x : Suspect) → now.0 < x.start.0 + a.wait → (b : Bool) → is_over a.wait now x ≡ b → b ≡ false
    not_over x l false q = refl
    not_over x l true q = let z = leb-true (x.start.0 + a.wait) now.0 q in absurd (omega (arith, l, z))

-- a suspicion makes no suspect free
pub more_suspects : (a : Authority) (c : ClientId) (now : Stamp) (d : ClientId) → may_ack (authority.suspect a c now) d ≡ true → may_ack a d ≡ true
unfolding authority.suspect authority.start_timer
more_suspects a c now d = cond_either (λ (z : Authority). may_ack z d ≡ true → may_ack a d ≡ true) (may_ack a c)
    (record a { suspects = authority.with_suspect (authority.new_suspect c now) a.suspects }) a (λ e h. by (c.0 == d.0) refl e h) (λ e h. h)
  where
    by : (b : Bool) → (c.0 == d.0) ≡ b → may_ack a c ≡ true →
        may_ack (record a { suspects = authority.with_suspect (authority.new_suspect c now) a.suspects }) d ≡ true → may_ack a d ≡ true
    by true q e h = subst (λ n. may_ack a (client n) ≡ true) (eqb-true c.0 d.0 q) e
    by false q e h =
        ap (λ o. not (is_some o))
        (sym (suspect_other (authority.new_suspect c now) d.0 (λ z. let y = eq-eqb c.0 d.0 z in not_both (c.0 == d.0) y q) a.suspects)) ∙
        h

suspect_runs : (a : Authority) (c : ClientId) (now : Stamp) → 1 ≤ a.wait → TimersRun now.0 a → TimersRun now.0 (authority.suspect a c now)
unfolding authority.suspect authority.start_timer
suspect_runs a c now p run = cond_either (TimersRun now.0) (may_ack a c)
    (record a { suspects = authority.with_suspect (authority.new_suspect c now) a.suspects }) a
    (λ e x i. go x (has_suspect (authority.new_suspect c now) a.suspects x i)) (λ e. run)
  where
    go : (x : Suspect) → (x ≡ authority.new_suspect c now) ⊎ Has x a.suspects → (x.start.0 ≤ now.0) × (now.0 < x.start.0 + a.wait)
    go x (inl e) = subst (λ (y : Suspect). (y.start.0 ≤ now.0) × (now.0 < y.start.0 + a.wait)) (sym e) (omega arith, omega (arith, p))
    go x (inr j) = run x j

timers_taken : (now : Stamp) (a : Authority) → TimersRun now.0 a → TimersRun now.0 (authority.still_running a now)
unfolding authority.still_running
timers_taken now a run x i = run x (has_filter _ a.suspects x i).0

pub taken_wait : (now : Stamp) (a : Authority) → (authority.still_running a now).wait ≡ a.wait
unfolding authority.still_running
taken_wait now a = refl

-- with other rows, or others
module _ (k : Config) (wait last : ℕ) (now : Stamp) (g : Option Grace) (n : ServerState) (i : ServerInput) where
  abbrev B : Locks → Authority → Type 0
  B l a = RowsInTime last now.0 k.demand a l

  demands : (a : Authority) (kb : Config) (v : Locks) (r : LockRow) (x : RowDemand) (to : Mode) → 1 ≤ k.demand → last ≤ now.0 →
      locks.row_of v r.client r.ino ≡ Some r → demand_now kb now (is_tick i) to r.demand ≡ Some x → B v a → B (with_demand r x v) a
  unfolding demanded
  demands a kb v r x to p l e d b y j =
      let m = has_map (demand_of r.client r.ino x) v.rows y j in
      let h = (found_at (is_row_of r.client r.ino) v.rows r e).1 in
      subst (λ (y : LockRow). DemandInTime last now.0 k.demand (may_ack a y.client) y.demand) (sym m.2)
      (cond_either (λ (y : LockRow). DemandInTime last now.0 k.demand (may_ack a y.client) y.demand) (is_row_of r.client r.ino m.0) (demanded x m.0) m.0
      (λ f. let c = eqb-true m.0.client.0 r.client.0 (and_true (m.0.client.0 == r.client.0) (m.0.ino == r.ino) f).0 in
      subst (λ n. DemandInTime last now.0 k.demand (may_ack a (client n)) (Some x)) (sym c)
      (sent last now.0 k.demand a kb (may_ack a r.client) l p now refl (is_tick i) to r.demand x d (b r h)))
      (λ f. b m.0 m.1))

  pub edit : (t u : ServerTurn) → 1 ≤ k.demand → 1 ≤ wait → last ≤ now.0 → Edit n now i t u → WithinStep k wait last now g t → WithinStep k wait last now g u
  unfolding steal_from suspect_client keep_and_reply reply tell locks.forget locks.drop_waits locks.drop_file_waits
  edit t u p q l (TakesTimers _ z) o =
      record {
        config = o.config;
        wait_is = taken_wait now t.state.authority ∙ o.wait_is;
        grace = o.grace;
        rows = rows_less last now.0 k.demand t.state.authority (authority.still_running t.state.authority now)
            (λ c h. ap (λ x. not (is_some x)) (sym (taken_out wait now t.state.authority o.wait_is o.timers c)) ∙ h) t.state.locks o.rows;
        timers = timers_taken now t.state.authority o.timers;
      }
  edit t u p q l (Steals _ c s h e) o =
      record { config = o.config; wait_is = o.wait_is; grace = o.grace; rows = λ r j. o.rows r (has_filter _ t.state.locks.rows r j).0; timers = o.timers }
  edit t u p q l (Suspects _ c z f y) o =
      record {
        config = o.config;
        wait_is = suspect_wait t.state.authority c now ∙ o.wait_is;
        grace = o.grace;
        rows = rows_less last now.0 k.demand t.state.authority (authority.suspect t.state.authority c now) (more_suspects t.state.authority c now) t.state.locks
            o.rows;
        timers = suspect_runs t.state.authority c now (let e = o.wait_is in omega (arith, q, e)) o.timers;
      }
  edit t u p q l (Begins _ c life) o = record { config = o.config; wait_is = o.wait_is; grace = o.grace; rows = o.rows; timers = o.timers }
  edit t u p q l (DropsWaits _ m s is b e f) o = record { config = o.config; wait_is = o.wait_is; grace = o.grace; rows = o.rows; timers = o.timers }
  edit t u p q l (Keeps _ c number b e) o = record { config = o.config; wait_is = o.wait_is; grace = o.grace; rows = o.rows; timers = o.timers }
  edit t u p q l (Reasserts _ m rows is w x f) o =
      record {
        config = o.config;
        wait_is = o.wait_is;
        grace = o.grace;
        rows =
            in_time_after_installed last now.0 k.demand t.state.authority t.state.locks (sender m.header) (life_in m.header) rows o.rows;
        timers = o.timers;
      }
  edit t u p q l (Sees _ m ino gr is fi b) o =
      record {
        config = o.config;
        wait_is = o.wait_is;
        grace = o.grace;
        rows =
            in_time_after_seen last now.0 k.demand t.state.authority t.state.locks (sender m.header) ino gr o.rows;
        timers = o.timers;
      }
  edit t u p q l (Acquires _ m ino mode v b y is fi by hs hl ok kb a) o =
      record {
        config = o.config;
        wait_is = o.wait_is;
        grace = o.grace;
        rows =
            in_time_after_acquired last now.0 k.demand t.state.authority _ t.state.locks (sender m.header) (life_in m.header) ino mode v a o.rows;
        timers =
            o.timers;
      }
  edit t u p q l (Releases _ m ino gr to r is fi b e f) o =
      record {
        config = o.config;
        wait_is = o.wait_is;
        grace = o.grace;
        rows =
            in_time_after_released last now.0 k.demand t.state.authority t.state.locks (sender m.header) ino to o.rows;
        timers = o.timers;
      }
  edit t u p q l (DropsFile _ m dir nm gr ino is b e) o = record { config = o.config; wait_is = o.wait_is; grace = o.grace; rows = o.rows; timers = o.timers }
  edit t u p q l (Grants _ w off h e f) o =
      record {
        config = o.config;
        wait_is = o.wait_is;
        grace = o.grace;
        rows =
            in_time_after_granted last now.0 k.demand t.state.authority t.state.locks w.client w.life w.ino w.mode o.rows;
        timers = o.timers;
      }
  edit t u p q l (Demands _ r x to e d) o =
      record {
        config = o.config;
        wait_is = o.wait_is;
        grace = o.grace;
        rows = demands t.state.authority t.state.config t.state.locks r x to p l e d o.rows;
        timers =
            o.timers;
      }
  edit t u p q l (NamesChange _ v) o = record { config = o.config; wait_is = o.wait_is; grace = o.grace; rows = o.rows; timers = o.timers }
  edit t u p q l (ExtentsChange _ v) o = record { config = o.config; wait_is = o.wait_is; grace = o.grace; rows = o.rows; timers = o.timers }
  edit t u p q l (Cuts _ f y) o = record { config = o.config; wait_is = o.wait_is; grace = o.grace; rows = o.rows; timers = o.timers }
  edit t u p q l (Replies _ m b is ok) o = record { config = o.config; wait_is = o.wait_is; grace = o.grace; rows = o.rows; timers = o.timers }
  edit t u p q l (Repeats _ m s z b is r f e y) o = record { config = o.config; wait_is = o.wait_is; grace = o.grace; rows = o.rows; timers = o.timers }
  edit t u p q l (Refuses _ m rows r is f y e) o = record { config = o.config; wait_is = o.wait_is; grace = o.grace; rows = o.rows; timers = o.timers }
  edit t u p q l (TellsGrant _ c life ino gr mode) o = record { config = o.config; wait_is = o.wait_is; grace = o.grace; rows = o.rows; timers = o.timers }
  edit t u p q l (TellsDemand _ c life ino gr mode) o = record { config = o.config; wait_is = o.wait_is; grace = o.grace; rows = o.rows; timers = o.timers }
