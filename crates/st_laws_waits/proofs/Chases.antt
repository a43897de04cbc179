-- Through a whole step while one wait is the first of its file: the demands on the rows in its way are sent again, since a tick looks at each; and if
-- no other client answers for the file each of these rows is chased, since only an answer or a theft ends a demand.
use Rattle.st_lemmas.proofs.Words
use Words.{◌≡◌, ◌≢◌, ℕ, ◌+◌, ◌*◌, ◌≤◌, ◌<◌, ◌⊎◌, Bool, true, false, not, ◌&&◌, [], ◌==◌, refl, sym, ap, ◌∙◌, subst, inl, inr, arith, find, nat_le, Option, Some}
use Words.{None, is_some, option_map, eq-eqb, ne_eqb, Config, ClientId, Stamp, Mode, Message, Suspect, ServerInput, LockRow, RowDemand, Waiter}
use Words.modes
use Words.serving.{Tick, Control}
use Words.Authority as authority
use Words.Authority.{Authority, is_suspect, may_ack, suspect_of}
use Words.Grace as grace
use Words.Keys.{client}
use Words.Leases.{steal_wait}
use Words.Locks as locks
use Words.Locks.{Locks, answered_row, demand_again, demand_lower, demand_lowered, demand_now, demanded, lowered, row_of, stands_against, unless_met}
use Words.Server.{ServerState, ServerTurn, demanding, granting, is_tick, server_step, suspecting, suspecting_on, take_input, thefts, turn}
use Words.Lists.{Has}
use Words.Tables.{and_both, cond_either, same_or_not}
use Words.Truth.{none_there}
use Rattle.st_base.specs.Mode.{conflicts, number_of}
use Rattle.st_laws_refine.specs.Server.Edits.{WishInput}
use Rattle.st_laws_refine.proofs.Server.Changes.{suspect_other, suspect_own}
use Rattle.st_laws_refine.proofs.Server.OneRow.{row_found}
use Rattle.st_laws_refine.proofs.Server.Thefts.{over_has}
use Rattle.st_laws_refine.proofs.Server.Walk.{kept_by_demands, kept_by_grants, kept_by_message, kept_by_suspicions}
use Rattle.st_trace.proofs.Server.Input.{thefts_begun}
use Rattle.st_laws_waits.specs.Bounds.{DemandInTime, InTime, RowsHaveSessions, SinceInTime}
use Rattle.st_laws_waits.specs.Chase.{ChasedBy, ChasedDemand, ChasedRow, ChasedSince, IsFirst, Others, Repeated, RepeatedRow, Silent, answers_for}
use Rattle.st_laws_waits.proofs.Chasing.{Chasing, Kept, Waits, chase_edit, not_gone}
use Rattle.st_laws_waits.proofs.Demanding.{IsDue, pass_due, sent_is}
use Rattle.st_laws_waits.proofs.Edits.{more_suspects}
use Rattle.st_laws_waits.proofs.Robbing.{left, same_timer}
use Rattle.st_laws_waits.proofs.Steps.{robbed}

-- a row in the way
pub against : (w : Waiter) (r : LockRow) → r.ino ≡ w.ino → r.client.0 ≢ w.client.0 → conflicts r.mode w.mode ≡ true →
    stands_against w.client w.ino w.mode r ≡ true
against w r f o c = and_both _ _ (eq-eqb r.ino w.ino f) (and_both _ _ (ap not (ne_eqb r.client.0 w.client.0 o)) c)

-- Any fact of the rows of others that the changes of a step keep.
module _ (k : Config) (last : ℕ) (now : Stamp) (w : Waiter) (n : ServerState) (p : 1 ≤ k.demand) (q : 1 ≤ steal_wait k) (rp : 1 ≤ k.retry)
    (known : RowsHaveSessions n) (s : InTime k last now.0 n) (off : grace.is_on n.grace now ≡ false) (free : (x : Suspect) → Has x n.authority.suspects →
    x.client.0 ≡ w.client.0 → ⊥)
    (R : Authority → LockRow → Type 0) where
  module _ (i : ServerInput) (kept : Kept w R k last now i) (waits : Waits w R n.authority n.locks) where
    -- after the thefts
    behind : Waits w R (thefts (turn n []) now).state.authority (thefts (turn n []) now).state.locks
    behind =
        let l = left k (steal_wait k) last now n known in
        record {
          once = l.once waits.once;
          first = l.first w (λ c h e. let z = over_has n.authority now c h in free z.0 z.1 (sym (ap (λ (y : ClientId). y.0) z.3) ∙ sym e)) waits.first;
          rows = λ r h f o. kept.timers n.authority (thefts (turn n []) now).state.authority r (same_timer k (steal_wait k) last now n known r.client (l.rows r h).1) (waits.rows r (l.rows r h).0 f o);
        }

    abbrev C : ServerTurn → Type 0
    C t = Chasing w R k last now i kept (steal_wait k) n.grace n off p q s.past behind t

    robbed_of : C (thefts (turn n []) now)
    robbed_of = record { going = robbed k last now n p q rp known s; either = inr behind }

    granted : (t : ServerTurn) → C t → C (granting t now)
    granted t c = kept_by_grants n now i C (chase_edit w R k last now i kept (steal_wait k) n.grace n off p q s.past behind) t c

    passes : (t : ServerTurn) → C t → C (demanding (granting t now) now i)
    passes t c = kept_by_demands n now i C (chase_edit w R k last now i kept (steal_wait k) n.grace n off p q s.past behind) (granting t now) (granted t c)

  pub message_waits : (m : Message) → WishInput (Control m) → Kept w R k last now (Control m) → Waits w R n.authority n.locks →
      IsFirst w (server_step n now (Control m)).state.locks →
      Waits w R (server_step n now (Control m)).state.authority (server_step n now (Control m)).state.locks
  unfolding server_step suspecting_on
  message_waits m wish kept x f =
      let t = take_input (thefts (turn n []) now) now (Control m) in
      not_gone w R _ _
      (passes (Control m) kept x t (kept_by_message n now m (C (Control m) kept x) (chase_edit w R k last now (Control m) kept (steal_wait k) n.grace n off p q s.past (behind (Control m) kept x)) wish (robbed_of (Control m) kept x))).either f

  -- on a tick no demand on a row in the way is old
  abbrev pub AllDue : Authority → Locks → Type 0
  AllDue a l = Others w (λ r. conflicts r.mode w.mode ≡ true → may_ack a r.client ≡ true → IsDue k now true r.demand) l

  pub tick_waits : Kept w R k last now Tick → Waits w R n.authority n.locks → IsFirst w (server_step n now Tick).state.locks →
      Waits w R (server_step n now Tick).state.authority (server_step n now Tick).state.locks × AllDue (server_step n now Tick).state.authority (server_step n now Tick).state.locks
  unfolding server_step suspecting_on take_input
  tick_waits kept x f = (after, due)
    where
      t : ServerTurn
      t = suspecting (thefts (turn n []) now) now

      suspected : C Tick kept x t
      suspected = kept_by_suspicions n now (C Tick kept x) (chase_edit w R k last now Tick kept (steal_wait k) n.grace n off p q s.past (behind Tick kept x)) (thefts (turn n []) now) (thefts_begun n now).quiet (robbed_of Tick kept x)

      u : ServerTurn
      u = demanding (granting t now) now Tick

      config : (granting t now).state.config ≡ k
      config = (granted Tick kept x t suspected).going.config

      after : Waits w R u.state.authority u.state.locks
      after = not_gone w R u.state.authority u.state.locks (passes Tick kept x t suspected).either f

      due : AllDue u.state.authority u.state.locks
      due r h g o c e =
          subst (λ (kb : Config). IsDue kb now true r.demand) config
          (pass_due (granting t now) now Tick (subst (λ (kb : Config). 1 ≤ kb.retry) (sym config) rp) w.ino w r.client r f (ap (row_of u.state.locks r.client) (sym g) ∙ row_found u.state.locks after.once r h) (against w r g o c) e)

-- Rows that are chased, if no other client answers for the file.
module _ (from : ℕ) (k : Config) (gap last : ℕ) (now : Stamp) (w : Waiter) (i : ServerInput) (dp : 1 ≤ k.demand) (near : now.0 ≤ last + gap) where
  abbrev pub ChasedSilent : Authority → LockRow → Type 0
  ChasedSilent a r = Silent i w.ino r.g r.client × ChasedRow from k gap last w a r

  since_now : (t : Option Stamp) (sent : ℕ) → ChasedSince from k gap last sent t → (y : RowDemand) → y.since ≡ locks.waiting_since now t →
      ChasedSince from k gap last y.sent.0 y.since
  since_now None sent c y e = subst (ChasedSince from k gap last y.sent.0) (sym e) (let z = c.1 in omega (arith, near, z))
  since_now (Some t) sent c y e = subst (ChasedSince from k gap last y.sent.0) (sym e) c

  sent_demand : (kb : Config) (tick : Bool) (to : Mode) (o : Option RowDemand) (y : RowDemand) → demand_now kb now tick to o ≡ Some y →
      ChasedDemand from k gap last o → ChasedDemand from k gap last (Some y)
  unfolding demand_now demand_lower demand_again
  sent_demand kb tick to None y e c = elim c [ ]
  sent_demand kb tick to (Some d) y e c =
      subst Sent e
      (cond_either Sent (locks.is_below to d.to) (Some (locks.sent_again now to d)) (demand_again kb now tick d) (λ f. since_now d.since d.sent.0 c (locks.sent_again now to d) refl)
      (λ f. cond_either Sent (tick && nat_le (d.sent.0 + kb.retry) now.0) (Some (locks.sent_again now d.to d)) None (λ g. since_now d.since d.sent.0 c (locks.sent_again now d.to d) refl) (λ g. tt)))
    where
      Sent : Option RowDemand → Type 0
      Sent None = Unit {0}
      Sent (Some z) = ChasedDemand from k gap last (Some z)

  -- a suspicion now: of a client whose demand was chased
  suspected_by : (a : Authority) (c : ClientId) → may_ack a c ≡ true → (r : LockRow) →
      (free : may_ack a r.client ≡ true → DemandInTime last now.0 k.demand true r.demand) →
      ChasedBy from k gap last r.demand (suspect_of a r.client) → ChasedBy from k gap last r.demand (suspect_of (authority.suspect a c now) r.client)
  unfolding authority.suspect authority.start_timer
  suspected_by a c e r b h =
      cond_either (λ (z : Authority). ChasedBy from k gap last r.demand (suspect_of z r.client)) (may_ack a c) (record a { suspects = authority.with_suspect (authority.new_suspect c now) a.suspects }) a
      (λ f. go (same_or_not c.0 r.client.0)) (λ f. h)
    where
      start_soon : (d : Option RowDemand) → DemandInTime last now.0 k.demand true d → ChasedDemand from k gap last d →
          now.0 + 1 < from + k.retry + k.demand + 2 * gap
      start_soon None b c = elim c [ ]
      start_soon (Some d) b c = by d.since b.1 c
        where
          by : (o : Option Stamp) → SinceInTime last now.0 k.demand true o → ChasedSince from k gap last d.sent.0 o →
              now.0 + 1 < from + k.retry + k.demand + 2 * gap
          by None b c = let z = c.1 in omega (arith, near, z, dp)
          by (Some t) b c = let z = b.1 refl in omega (arith, near, z, c)

      go : (c.0 ≡ r.client.0) ⊎ (c.0 ≢ r.client.0) →
          ChasedBy from k gap last r.demand (find (is_suspect r.client) (authority.with_suspect (authority.new_suspect c now) a.suspects))
      go (inl q) =
          let ec : may_ack a r.client ≡ true = subst (λ n. may_ack a (client n) ≡ true) q e in
          let nn : suspect_of a r.client ≡ None = none_there (suspect_of a r.client) ec in
          subst (ChasedBy from k gap last r.demand) (sym (suspect_own (authority.new_suspect c now) r.client.0 q a.suspects nn))
          (start_soon r.demand (b ec) (subst (ChasedBy from k gap last r.demand) nn h))
      go (inr ne) = subst (ChasedBy from k gap last r.demand) (sym (suspect_other (authority.new_suspect c now) r.client.0 ne a.suspects)) h

  not_silent : (r : LockRow) (m : Message) → i ≡ Control m → answers_for w.ino r.g m.body ≡ true → m.header.from ≡ r.client.0 → Silent i w.ino r.g r.client → ⊥
  not_silent r m is a c s = (subst (λ i. Silent i w.ino r.g r.client) is s) c a

  bound_free : (a : Authority) (r : LockRow) → DemandInTime last now.0 k.demand (may_ack a r.client) r.demand → may_ack a r.client ≡ true →
      DemandInTime last now.0 k.demand true r.demand
  bound_free a r b e = subst (λ z. DemandInTime last now.0 k.demand z r.demand) e b

  sent_row : (a : Authority) (r : LockRow) (to : Mode) (y : RowDemand) → demand_now k now (is_tick i) to r.demand ≡ Some y → ChasedSilent a r →
      ChasedSilent a (demanded y r)
  unfolding demanded
  sent_row a r to y e v = (v.0, λ c. by (suspect_of a r.client) (v.1 c))
    where
      by : (o : Option Suspect) → ChasedBy from k gap last r.demand o → ChasedBy from k gap last (Some y) o
      by None b = sent_demand k (is_tick i) to r.demand y e b
      by (Some s) b = b

  pub chased_kept : Kept w ChasedSilent k last now i
  chased_kept =
      record {
        seen = λ a r m g is b fr ge v. absurd (not_silent r m is (ap (answers_for w.ino r.g) b ∙ and_both (w.ino == w.ino) (g.0 == r.g.0) (eq-eqb w.ino w.ino refl) (eq-eqb g.0 r.g.0 ge)) fr v.0);
        lowers = λ a r m g to is b fr ge v. absurd (not_silent r m is (ap (answers_for w.ino r.g) b ∙ and_both (w.ino == w.ino) (g.0 == r.g.0) (eq-eqb w.ino w.ino refl) (eq-eqb g.0 r.g.0 ge)) fr v.0);
        demands = sent_row;
        suspects = λ a c r e b v. (v.0, λ q. suspected_by a c e r (bound_free a r b) (v.1 q));
        timers = λ a b r e v. (v.0, λ q. subst (ChasedBy from k gap last r.demand) (sym e) (v.1 q));
      }

-- Demands that are sent again.
module _ (from : ℕ) (k : Config) (last : ℕ) (now : Stamp) (w : Waiter) (i : ServerInput) (rp : 1 ≤ k.retry) (late : last ≤ now.0) where
  abbrev pub RepeatedSome : Authority → LockRow → Type 0
  RepeatedSome a r = (1 ≤ number_of r.mode) × RepeatedRow from k last w a r

  seen_again : (o : Option RowDemand) → Repeated from k last o → Repeated from k last (option_map locks.answered_demand o)
  seen_again None b = b
  seen_again (Some d) b = b

  lowered_again : (o : Option RowDemand) → Repeated from k last o → Repeated from k last (demand_lowered o)
  unfolding unless_met
  lowered_again None b = b
  lowered_again (Some d) b = cond_either (Repeated from k last) (number_of d.to == 1) None (Some (locks.answered_demand d)) (λ e. tt) (λ e. b)

  -- what conflicts with a shared lock conflicts with any lock that has a mode
  both_conflict : (m v : Mode) → 1 ≤ number_of m → conflicts modes.S v ≡ true → conflicts m v ≡ true
  both_conflict m modes.None l e = cc
  both_conflict m modes.S l e = cc
  both_conflict modes.None modes.X l e = absurd (omega (arith, l))
  both_conflict modes.S modes.X l e = refl
  both_conflict modes.X modes.X l e = refl

  answered_repeated : (a : Authority) (r : LockRow) → RepeatedSome a r → RepeatedSome a (answered_row r)
  unfolding answered_row
  answered_repeated a r v = (v.0, λ c e. seen_again r.demand (v.1 c e))

  lowered_repeated : (a : Authority) (r : LockRow) → RepeatedSome a r → RepeatedSome a (lowered r)
  unfolding lowered
  lowered_repeated a r v = (omega arith, λ c e. lowered_again r.demand (v.1 (both_conflict r.mode w.mode v.0 c) e))

  sent_again : (a : Authority) (r : LockRow) (to : Mode) (y : RowDemand) → demand_now k now (is_tick i) to r.demand ≡ Some y → RepeatedSome a r →
      RepeatedSome a (demanded y r)
  unfolding demanded
  sent_again a r to y d v = (v.0, λ c e. inl (let z = ap (λ (t : Stamp). t.0) (sent_is k now (is_tick i) rp to r.demand y d) in omega (arith, z, rp, late)))

  pub repeated_kept : Kept w RepeatedSome k last now i
  repeated_kept =
      record {
        seen = λ a r m g is b fr ge v. answered_repeated a r v;
        lowers = λ a r m g to is b fr ge v. lowered_repeated a r v;
        demands = sent_again;
        suspects = λ a c r e b v. (v.0, λ q f. v.1 q (more_suspects a c now r.client f));
        timers = λ a b r e v. (v.0, λ q f. v.1 q (ap (λ o. not (is_some o)) (sym e) ∙ f));
      }

-- Both through a step.
module _ (from : ℕ) (k : Config) (gap last : ℕ) (now : Stamp) (w : Waiter) (n : ServerState) (p : 1 ≤ k.demand) (q : 1 ≤ steal_wait k) (rp : 1 ≤ k.retry)
    (known : RowsHaveSessions n) (s : InTime k last now.0 n) (off : grace.is_on n.grace now ≡ false) (free : (x : Suspect) → Has x n.authority.suspects →
    x.client.0 ≡ w.client.0 → ⊥) where
  -- from these rows of others on the file
  abbrev pub From : (Authority → LockRow → Type 0) → Type 0
  From R = Waits w R n.authority n.locks

  module _ (near : now.0 ≤ last + gap) where
    pub chase_message : (m : Message) → WishInput (Control m) → From (ChasedSilent from k gap last now w (Control m) p near) →
        IsFirst w (server_step n now (Control m)).state.locks →
        Others w (ChasedRow from k gap last w (server_step n now (Control m)).state.authority) (server_step n now (Control m)).state.locks
    chase_message m wish x f = λ r h g o. ((message_waits k last now w n p q rp known s off free (ChasedSilent from k gap last now w (Control m) p near) m wish (chased_kept from k gap last now w (Control m) p near) x f).rows r h g o).1

    pub chase_tick : From (ChasedSilent from k gap last now w Tick p near) → IsFirst w (server_step n now Tick).state.locks →
        Others w (ChasedRow from k gap now.0 w (server_step n now Tick).state.authority) (server_step n now Tick).state.locks
    chase_tick x f = λ r h g o c. by r (suspect_of (server_step n now Tick).state.authority r.client) (λ e. z.1 r h g o c (ap (λ y. not (is_some y)) e)) refl ((z.0.rows r h g o).1 c)
      where
        z : Waits w (ChasedSilent from k gap last now w Tick p near) (server_step n now Tick).state.authority (server_step n now Tick).state.locks × AllDue k last now w n p q rp known s off free (ChasedSilent from k gap last now w Tick p near) (server_step n now Tick).state.authority (server_step n now Tick).state.locks
        z = tick_waits k last now w n p q rp known s off free (ChasedSilent from k gap last now w Tick p near) (chased_kept from k gap last now w Tick p near) x f

        demand : (d : Option RowDemand) → IsDue k now true d → ChasedDemand from k gap last d → ChasedDemand from k gap now.0 d
        demand None y b = elim b [ ]
        demand (Some d) y b = since d.since b
          where
            since : (m : Option Stamp) → ChasedSince from k gap last d.sent.0 m → ChasedSince from k gap now.0 d.sent.0 m
            since None b = let z = y refl in let v = b.0 in (b.0, omega (arith, z, v))
            since (Some m) b = b

        by : (r : LockRow) (o : Option Suspect) → (suspect_of (server_step n now Tick).state.authority r.client ≡ None → IsDue k now true r.demand) →
            suspect_of (server_step n now Tick).state.authority r.client ≡ o → ChasedBy from k gap last r.demand o → ChasedBy from k gap now.0 r.demand o
        by r (Some y) d e b = b
        by r None d e b = demand r.demand (d e) b

  pub repeat_message : (m : Message) → WishInput (Control m) → From (RepeatedSome from k last now w (Control m) rp s.past) →
      IsFirst w (server_step n now (Control m)).state.locks →
      Others w (RepeatedRow from k last w (server_step n now (Control m)).state.authority) (server_step n now (Control m)).state.locks
  repeat_message m wish x f = λ r h g o. ((message_waits k last now w n p q rp known s off free (RepeatedSome from k last now w (Control m) rp s.past) m wish (repeated_kept from k last now w (Control m) rp s.past) x f).rows r h g o).1

  pub repeat_tick : From (RepeatedSome from k last now w Tick rp s.past) → IsFirst w (server_step n now Tick).state.locks →
      Others w (RepeatedRow from k now.0 w (server_step n now Tick).state.authority) (server_step n now Tick).state.locks
  repeat_tick x f = λ r h g o c e. due r.demand (z.1 r h g o c e)
    where
      z : Waits w (RepeatedSome from k last now w Tick rp s.past) (server_step n now Tick).state.authority (server_step n now Tick).state.locks × AllDue k last now w n p q rp known s off free (RepeatedSome from k last now w Tick rp s.past) (server_step n now Tick).state.authority (server_step n now Tick).state.locks
      z = tick_waits k last now w n p q rp known s off free (RepeatedSome from k last now w Tick rp s.past) (repeated_kept from k last now w Tick rp s.past) x f

      due : (d : Option RowDemand) → IsDue k now true d → Repeated from k now.0 d
      due None y = tt
      due (Some d) y = inl (y refl)
