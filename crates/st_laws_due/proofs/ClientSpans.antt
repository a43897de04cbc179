-- What is due at a client is what its spans say: each pass is due exactly within its spans, as long as no lease is over.
use Rattle.st_lemmas.proofs.Words
use Words.{◌≡◌, ℕ, ◌+◌, ◌≤◌, ◌<◌, Bool, true, false, ◌&&◌, ◌||◌, not, List, [], ◌∷◌, ◌++◌, refl, sym, ap, ◌∙◌, subst, arith, cond, flat_map, list_any, max, min, nat_le, nat_lt, Option, Some, None, is_some}
use Words.{◌⊎◌, inl, inr, cases_lt, le-ltb, lt-ltb, Ask, Config, DirtyPage, HeldLock, Mode, Operation, PageNo, Phase, Release, Request, Stamp}
use Words.asks
use Words.modes
use Words.phases
use Rattle.st_base.specs.Mode.{covers}
use Rattle.std.proofs.Math.Nat.{min-eq_left, min-eq_right}
use Words.ClientLease.{ClientLease, is_renewing, may_drain, may_use, must_discard, phase_of, standing_by, standing_of}
use Words.ClientLocks as locks
use Words.ClientPages as pages
use Words.ClientPasses as passing
use Words.ClientPasses.{Asking, Wanted, asked_by, asks_or, files_demanded, first_asking, is_due_by_need, is_greeting_due, is_unfailed, is_wait_old, is_wanted, may_ask, need, want, want_at, want_by, want_held, want_lock}
use Words.ClientPasses.{want_name, want_on, want_under}
use Words.ClientState.{Association, ClientSession, ClientState, Turn, client_turn, enter, file_of, is_of, is_sent, is_serving, wait_of}
use Words.Leases.{phase, phase_living, phase_serving, phase_young}
use Words.Tests.{any_same}
use Rattle.st_rules.specs.declared.client.LockWait.{LockWait}
use Rattle.st_client_due.specs.Spans.{from_on, if_so, is_within, until}
use Rattle.st_client_due.specs.ClientDue.{answered_during, asked_during, busy_during, due_during, during_at, during_here, flush_at, greeting_at, greeting_during, has_release, is_reduced, is_served, is_writable}
use Rattle.st_client_due.specs.ClientDue.{kept_alive, lease_end_at, lock_during, operation_during, operations_during, page_during, place_during, quiesce_at, reductions_during, request_during}
use Rattle.st_client_due.specs.ClientDue.{requests_during, served_during, session_during, wait_end, wanted_at, wanted_by, wanted_during, wanted_under, writes_during}
use Rattle.st_laws_due.proofs.SpanMoments.{and_true, before_or_come, come_or_before, from_zero, if_ever, if_on, if_until, one_on, or_false, or_true, within_both, within_cond, within_each, within_on}
use Rattle.st_laws_due.proofs.ClientOperations.{is_answered, is_ended, is_operated, operations_due}
use Rattle.st_laws_due.proofs.ClientWorks.{greeting_in, is_kept_alive, next_due, page_written, passes_due, place_written, reduced_in, request_due, requests_in, writes_in}
use Rattle.st_laws_due.proofs.ClientTicks.{any_due, any_over, over_at, over_in}

-- The phase of a lease, by which of its moments have come: end, flush, quiesce, renewal; and whether it is condemned.
abbrev pub phase_by : Bool → Bool → Bool → Bool → Bool → Phase
phase_by x f q r c = cond x phases.Expired (cond f phases.Flush (cond (q || c) phases.Quiesce (cond r phases.Renewal phases.Valid)))

discards_by : (x f q r c : Bool) → must_discard (standing_by (phase_by x f q r c)) ≡ x
discards_by true f q r c = refl
discards_by false true q r c = refl
discards_by false false true r c = refl
discards_by false false false r true = refl
discards_by false false false true false = refl
discards_by false false false false false = refl

uses_by : (f q r c : Bool) → may_use (standing_by (phase_by false f q r c)) ≡ (not f && not (q || c))
uses_by true q r c = refl
uses_by false true r c = refl
uses_by false false r true = refl
uses_by false false true false = refl
uses_by false false false false = refl

drains_by : (f q r c : Bool) → may_drain (standing_by (phase_by false f q r c)) ≡ f
drains_by true q r c = refl
drains_by false true r c = refl
drains_by false false r true = refl
drains_by false false true false = refl
drains_by false false false false = refl

renews_by : (f q r : Bool) → is_renewing (phase_by false f q r false) ≡ (r || (q || f))
renews_by true true r = sym (or_true r)
renews_by true false r = sym (or_true r)
renews_by false true r = sym (or_true r)
renews_by false false true = refl
renews_by false false false = refl

before_min : (now a b : ℕ) → nat_lt now (min a b) ≡ (nat_lt now a && nat_lt now b)
before_min now a b = by (cases_lt a b)
  where
    left : (p q : Bool) → (p ≡ true → q ≡ true) → p ≡ (p && q)
    left true q h = sym (h refl)
    left false q h = refl

    right : (p q : Bool) → (q ≡ true → p ≡ true) → q ≡ (p && q)
    right true q h = refl
    right false true h = sym (h refl)
    right false false h = refl

    by : (a < b) ⊎ (b ≤ a) → nat_lt now (min a b) ≡ (nat_lt now a && nat_lt now b)
    by (inl l) =
        let i : a ≤ b = omega (arith, l) in
        ap (nat_lt now) (min-eq_left i) ∙ left (nat_lt now a) (nat_lt now b) (λ e. let k = Words.ltb-true now a e in lt-ltb now b (omega (arith, k, l)))
    by (inr l) =
        ap (nat_lt now) (min-eq_right l) ∙ right (nat_lt now a) (nat_lt now b) (λ e. let k = Words.ltb-true now b e in lt-ltb now a (omega (arith, k, l)))

-- A lease at a moment.
module _ (k : Config) (l : ClientLease) (now : Stamp) where
  is_end : must_discard (standing_of k l now) ≡ nat_le (lease_end_at k l) now.0
  unfolding phase phase_living phase_serving phase_young
  is_end =
      discards_by (nat_le (l.date.0 + k.lease) now.0) (nat_le (l.date.0 + k.flush) now.0) (nat_le (l.date.0 + k.quiesce) now.0)
      (nat_le (l.date.0 + k.renew) now.0) l.condemned

  -- operations are served before quiesce
  served_before : (c : Bool) → (not (nat_le (l.date.0 + k.flush) now.0) && not (nat_le (l.date.0 + k.quiesce) now.0 || c)) ≡
      nat_lt now.0 (cond c 0 (min (l.date.0 + k.quiesce) (l.date.0 + k.flush)))
  served_before true = by (nat_le (l.date.0 + k.flush) now.0) (nat_le (l.date.0 + k.quiesce) now.0) ∙ sym (le-ltb now.0 0 (omega arith))
    where
      by : (f q : Bool) → (not f && not (q || true)) ≡ false
      by true q = refl
      by false true = refl
      by false false = refl
  served_before false =
      by (nat_le (l.date.0 + k.flush) now.0) (nat_le (l.date.0 + k.quiesce) now.0)
      ∙ sym (before_min now.0 (l.date.0 + k.quiesce) (l.date.0 + k.flush)
      ∙ (λ i. before_or_come now.0 (l.date.0 + k.quiesce) i && before_or_come now.0 (l.date.0 + k.flush) i))
    where
      by : (f q : Bool) → (not f && not (q || false)) ≡ (not q && not f)
      by true true = refl
      by true false = refl
      by false true = refl
      by false false = refl

  module _ (lasts : must_discard (standing_of k l now) ≡ false) where
    not_over : nat_le (l.date.0 + k.lease) now.0 ≡ false
    not_over = sym is_end ∙ lasts

    phase_is : phase_of k l now ≡
        phase_by false (nat_le (l.date.0 + k.flush) now.0) (nat_le (l.date.0 + k.quiesce) now.0) (nat_le (l.date.0 + k.renew) now.0) l.condemned
    unfolding phase phase_living phase_serving phase_young
    phase_is =
        ap (λ x. phase_by x (nat_le (l.date.0 + k.flush) now.0) (nat_le (l.date.0 + k.quiesce) now.0) (nat_le (l.date.0 + k.renew) now.0) l.condemned) not_over

    serves : may_use (standing_of k l now) ≡ nat_lt now.0 (quiesce_at k l)
    serves =
        ap (λ p. may_use (standing_by p)) phase_is
        ∙ uses_by (nat_le (l.date.0 + k.flush) now.0) (nat_le (l.date.0 + k.quiesce) now.0) (nat_le (l.date.0 + k.renew) now.0) l.condemned
        ∙ served_before l.condemned

    drains : may_drain (standing_of k l now) ≡ nat_le (flush_at k l) now.0
    drains =
        ap (λ p. may_drain (standing_by p)) phase_is
        ∙ drains_by (nat_le (l.date.0 + k.flush) now.0) (nat_le (l.date.0 + k.quiesce) now.0) (nat_le (l.date.0 + k.renew) now.0) l.condemned

    renews : l.condemned ≡ false → is_renewing (phase_of k l now) ≡
        (nat_le (l.date.0 + k.renew) now.0 || (nat_le (l.date.0 + k.quiesce) now.0 || nat_le (l.date.0 + k.flush) now.0))
    renews e =
        ap is_renewing phase_is
        ∙ ap (λ c. is_renewing (phase_by false (nat_le (l.date.0 + k.flush) now.0) (nat_le (l.date.0 + k.quiesce) now.0) (nat_le (l.date.0 + k.renew) now.0) c))
        e
        ∙ renews_by (nat_le (l.date.0 + k.flush) now.0) (nat_le (l.date.0 + k.quiesce) now.0) (nat_le (l.date.0 + k.renew) now.0)

    -- a lease that isn't served and isn't condemned is renewed
    serves_or_renews : l.condemned ≡ false → may_use (standing_of k l now) ≡ false → is_renewing (phase_of k l now) ≡ true
    serves_or_renews e g =
        renews e
        ∙ by (nat_le (l.date.0 + k.flush) now.0) (nat_le (l.date.0 + k.quiesce) now.0) (nat_le (l.date.0 + k.renew) now.0)
        (ap (λ c. not (nat_le (l.date.0 + k.flush) now.0) && not (nat_le (l.date.0 + k.quiesce) now.0 || c)) (sym e)
        ∙ sym (ap (λ p. may_use (standing_by p)) phase_is
        ∙ uses_by (nat_le (l.date.0 + k.flush) now.0) (nat_le (l.date.0 + k.quiesce) now.0) (nat_le (l.date.0 + k.renew) now.0) l.condemned) ∙ g)
      where
        by : (f q r : Bool) → (not f && not (q || false)) ≡ false → (r || (q || f)) ≡ true
        by true true r h = or_true r
        by true false r h = or_true r
        by false true r h = or_true r
        by false false r h = cc

-- A server at a moment.
module _ (now : Stamp) (t : Turn) where
  -- Operations.

  by_phase : (v a b : Bool) → ((a && v) || (b && not v)) ≡ cond v a b
  by_phase true true b = refl
  by_phase true false true = refl
  by_phase true false false = refl
  by_phase false true b = and_true b
  by_phase false false b = and_true b

  served_is : (all : List Operation) (o : Operation) (s : Option ClientSession) → over_in t now s ≡ false →
      list_any (is_within now.0) (served_during all t o s) ≡ is_answered all t now o s
  served_is all o None e = refl
  served_is all o (Some s) e =
      let q = quiesce_at t.config s.lease in
      let a = is_served all t s o.ask in
      let b = not (is_sent o) in
      within_both now.0 (if_so a (until q)) (if_so b (from_on q))
      ∙ (λ i. if_until now.0 a q i || if_on now.0 b q i)
      ∙ ap (λ c. (a && nat_lt now.0 q) || (b && c)) (come_or_before now.0 q)
      ∙ by_phase (nat_lt now.0 q) a b
      ∙ ap (λ v. cond v a b) (sym (serves t.config s.lease now e))

  module _ (lasts : over_at now t ≡ false) where
    answered_is : (all : List Operation) (o : Operation) (ask : Ask) → list_any (is_within now.0) (answered_during all t o ask) ≡ is_ended all t now o ask
    answered_is all o (asks.Sync f) = if_ever now.0 (pages.is_hard t.here.store f.ino)
    answered_is all o (asks.Write f p bytes) = served_is all o t.here.session lasts
    answered_is all o (asks.Patch f p at bytes) = served_is all o t.here.session lasts
    answered_is all o (asks.Read f p) = served_is all o t.here.session lasts
    answered_is all o (asks.Cut f p) = served_is all o t.here.session lasts
    answered_is all o (asks.Name server ask) = served_is all o t.here.session lasts

    operation_is : (all : List Operation) (o : Operation) → list_any (is_within now.0) (operation_during all t o) ≡ is_operated all now o t
    operation_is all o =
        within_cond now.0 (is_of t.here.server o) (answered_during all t o o.ask) ∙ ap (λ b. is_of t.here.server o && b) (answered_is all o o.ask)

    operations_are : list_any (is_within now.0) (operations_during t) ≡ operations_due now t
    operations_are =
        within_each now.0 (operation_during t.operations t) t.operations
        ∙ any_same (λ o. list_any (is_within now.0) (operation_during t.operations t o)) (λ o. is_operated t.operations now o t) t.operations
        (operation_is t.operations)

  -- Writes.

  by_need : (v w u : Bool) → ((w && not v) || (u && v)) ≡ cond v u (w && (u || true))
  by_need true true u = and_true u
  by_need true false u = and_true u
  by_need false true true = refl
  by_need false true false = refl
  by_need false false true = refl
  by_need false false false = refl

  turned : (a m x : Bool) → ((a && m) && x) ≡ ((a && x) && m)
  turned true true x = sym (and_true x)
  turned true false true = refl
  turned true false false = refl
  turned false m x = refl

  module _ (s : ClientSession) (lasts : over_in t now (Some s) ≡ false) where
    due_is : (d : DirtyPage) → list_any (is_within now.0) (due_during t s d) ≡ passing.is_due t s now true d
    unfolding passing.is_due
    due_is d =
        let f = flush_at t.config s.lease in
        let w = is_wanted t s d.ino in
        let u = is_unfailed d in
        within_both now.0 (if_so w (until f)) (if_so u (from_on f))
        ∙ (λ i. if_until now.0 w f i || if_on now.0 u f i)
        ∙ ap (λ c. (w && c) || (u && nat_le f now.0)) (before_or_come now.0 f)
        ∙ by_need (nat_le f now.0) w u
        ∙ ap (λ v. cond v u (w && (u || true))) (sym (drains t.config s.lease now lasts))

    page_is : (o : Option DirtyPage) → list_any (is_within now.0) (page_during t s o) ≡ page_written t s now o
    page_is None = refl
    page_is (Some d) =
        let a = not (pages.is_being_written t.here.store.commands d.ino d.page) in
        let m = pages.is_mapped t.here.store.extents d.ino d.page in
        within_cond now.0 (is_writable t d) (due_during t s d) ∙ ap (λ b. (a && m) && b) (due_is d) ∙ turned a m (passing.is_due t s now true d)

    writes_are : list_any (is_within now.0) (writes_during t s) ≡ writes_in t now (Some s)
    writes_are =
        let xs = pages.dirty_places t.here.store.pages in
        within_each now.0 (place_during t s) xs
        ∙ any_same (λ x. list_any (is_within now.0) (place_during t s x)) (λ x. place_written s now x t) xs
        (λ (x : ℕ × PageNo). page_is (pages.dirty_of t.here.store.pages x.0 x.1))

  -- Greeting.

  greeting_is : list_any (is_within now.0) (greeting_during t) ≡ greeting_in t now None
  greeting_is = if_on now.0 b (greeting_at t.config t.here.greeting) ∙ ap (λ c. b && c) (by t.here.greeting)
    where
      b : Bool
      b = list_any (is_of t.here.server) t.operations

      by : (o : Option Stamp) → nat_le (greeting_at t.config o) now.0 ≡ is_greeting_due t.config now true o
      by None = from_zero now.0
      by (Some at) = refl

  -- Requests.

  lock_is : (s : ClientSession) (ino : ℕ) (mode : Mode) → list_any (is_within now.0) (lock_during t s ino mode) ≡ is_some (want_lock t s now ino mode)
  unfolding want_lock
  lock_is s ino mode = one_on now.0 (wait_end t.config mode (wait_of s.waits ino)) ∙ by (wait_of s.waits ino) ∙
      known (is_wait_old t.config now mode (wait_of s.waits ino))
    where
      old : (b : Bool) (m : ℕ) → nat_le (cond b m 0) now.0 ≡ (not b || nat_le m now.0)
      old true m = refl
      old false m = from_zero now.0

      by : (o : Option LockWait) → nat_le (wait_end t.config mode o) now.0 ≡ is_wait_old t.config now mode o
      by None = from_zero now.0
      by (Some w) = old (covers w.mode mode) (w.at.0 + t.config.retry)

      known : (b : Bool) → b ≡ is_some (cond b (passing.wanted (Words.bodies.Acquire ino mode)) None)
      known true = refl
      known false = refl

  under_is : (s : ClientSession) (ask : Ask) (ino : ℕ) (l : HeldLock) →
      list_any (is_within now.0) (wanted_under t s ask ino l) ≡ is_some (want_under t s now ask ino l)
  unfolding want_under
  under_is s ask ino l = by (covers l.mode (need ask))
    where
      by : (b : Bool) → list_any (is_within now.0) (cond b (if_so (is_some (want_held t ask ino l.g)) (from_on 0)) (lock_during t s ino (need ask))) ≡
          is_some (cond b (want_held t ask ino l.g) (want_lock t s now ino (need ask)))
      by true = if_ever now.0 (is_some (want_held t ask ino l.g))
      by false = lock_is s ino (need ask)

  wanted_is : (s : ClientSession) (ask : Ask) (o : Option ℕ) → list_any (is_within now.0) (wanted_at t s ask o) ≡ is_some (want_at t s now ask o)
  unfolding want_at want_on want_by
  wanted_is s ask None = if_ever now.0 (is_some (want_name ask))
  wanted_is s ask (Some ino) = by (locks.lock_of s.locks ino)
    where
      by : (o : Option HeldLock) → list_any (is_within now.0) (wanted_by t s ask ino o) ≡ is_some (want_by t s now ask ino o)
      by None = lock_is s ino (need ask)
      by (Some l) = under_is s ask ino l

  ask_is : (s : ClientSession) (ask : Ask) → list_any (is_within now.0) (wanted_during t s ask) ≡ is_some (want t s now ask)
  unfolding want
  ask_is s (asks.Sync f) = refl
  ask_is s (asks.Write f p bytes) = wanted_is s (asks.Write f p bytes) (Some f.ino)
  ask_is s (asks.Patch f p at bytes) = wanted_is s (asks.Patch f p at bytes) (Some f.ino)
  ask_is s (asks.Read f p) = wanted_is s (asks.Read f p) (Some f.ino)
  ask_is s (asks.Cut f p) = wanted_is s (asks.Cut f p) (Some f.ino)
  ask_is s (asks.Name server ask) = wanted_is s (asks.Name server ask) (file_of (asks.Name server ask))

  asked_is : (s : ClientSession) (o : Operation) → list_any (is_within now.0) (asked_during t s o) ≡ is_some (asked_by t s now o)
  unfolding asked_by
  asked_is s o = within_cond now.0 (may_ask t s o) (wanted_during t s o.ask) ∙ ap (λ b. may_ask t s o && b) (ask_is s o.ask) ∙ by (may_ask t s o)
    where
      by : (b : Bool) → (b && is_some (want t s now o.ask)) ≡ is_some (cond b (want t s now o.ask) None)
      by true = refl
      by false = refl

  -- an operation asks something
  some_asks : (s : ClientSession) (os : List Operation) → list_any (λ o. is_some (asked_by t s now o)) os ≡ is_some (first_asking t s now os)
  unfolding first_asking asks_or
  some_asks s [] = refl
  some_asks s (o ∷ os) = by (asked_by t s now o) (first_asking t s now os) (some_asks s os)
    where
      later : (a : Option Asking) → is_some a ≡ is_some (passing.behind o a)
      later None = refl
      later (Some a) = refl

      by : (w : Option Wanted) (a : Option Asking) → list_any (λ x. is_some (asked_by t s now x)) os ≡ is_some a →
          (is_some w || list_any (λ x. is_some (asked_by t s now x)) os) ≡ is_some (asks_or o os a w)
      by None a e = e ∙ later a
      by (Some w) a e = refl

  asks_are : (s : ClientSession) → list_any (is_within now.0) (flat_map (asked_during t s) t.operations) ≡ is_some (first_asking t s now t.operations)
  asks_are s =
      within_each now.0 (asked_during t s) t.operations
      ∙ any_same (λ o. list_any (is_within now.0) (asked_during t s o)) (λ o. is_some (asked_by t s now o)) t.operations (asked_is s)
      ∙ some_asks s t.operations

  module _ (s : ClientSession) (lasts : over_in t now (Some s) ≡ false) (free : s.lease.condemned ≡ false) where
    alive_is : list_any (is_within now.0) (kept_alive t.config s.lease) ≡ is_kept_alive t s now
    alive_is =
        let d = s.lease.date.0 in
        (λ i. within_on now.0 (d + t.config.renew) i || (within_on now.0 (d + t.config.quiesce) i || one_on now.0 (d + t.config.flush) i))
        ∙ sym (renews t.config s.lease now lasts free)

    next_is : list_any (is_within now.0) (flat_map (asked_during t s) t.operations ++ kept_alive t.config s.lease) ≡ next_due t s now
    next_is =
        within_both now.0 (flat_map (asked_during t s) t.operations) (kept_alive t.config s.lease)
        ∙ (λ i. asks_are s i || alive_is i)
        ∙ by (is_serving t.config s now) (is_some (first_asking t s now t.operations)) (is_kept_alive t s now)
        (serves_or_renews t.config s.lease now lasts free)
      where
        by : (v a k : Bool) → (v ≡ false → k ≡ true) → (a || k) ≡ cond v (a || k) k
        by true a k h = refl
        by false a k h = ap (λ x. a || x) (h refl) ∙ or_true a ∙ sym (h refl)

    request_is : (o : Option Request) → list_any (is_within now.0) (request_during t s o) ≡ request_due t s now o
    request_is None =
        within_both now.0 (if_so (s.due || has_release s.releases) (from_on 0)) (flat_map (asked_during t s) t.operations ++ kept_alive t.config s.lease)
        ∙ (λ i. if_ever now.0 (s.due || has_release s.releases) i || next_is i)
        ∙ by s.due (has_release s.releases)
      where
        by : (a b : Bool) → ((a || b) || next_due t s now) ≡ (a || (b || next_due t s now))
        by true b = refl
        by false b = refl
    request_is (Some q) = one_on now.0 (q.sent.0 + t.config.retry)

  requests_are : (s : ClientSession) → over_in t now (Some s) ≡ false → list_any (is_within now.0) (requests_during t s) ≡ requests_in t now (Some s)
  requests_are s e = by s.lease.condemned (request_is s e)
    where
      by : (b : Bool) → (b ≡ false → (o : Option Request) → list_any (is_within now.0) (request_during t s o) ≡ request_due t s now o) →
          list_any (is_within now.0) (cond b [] (request_during t s s.requests.asked)) ≡ (not b && request_due t s now s.requests.asked)
      by true h = refl
      by false h = h refl s.requests.asked

  -- All passes.

  -- what is due after the operations, with a session or without
  abbrev pub later_due : Option ClientSession → Bool
  later_due o = list_any (λ ino. reduced_in t ino o) (files_demanded o) || (writes_in t now o || (greeting_in t now o || requests_in t now o))

  later_is : (o : Option ClientSession) → over_in t now o ≡ false → list_any (is_within now.0) (session_during t o) ≡ later_due o
  later_is None e = greeting_is ∙ sym (or_false (greeting_in t now None))
  later_is (Some s) e =
      let l = lease_end_at t.config s.lease in
      let a = reductions_during t s in
      let b = writes_during t s in
      let c = requests_during t s in
      (λ i. ended i || within_both now.0 a (b ++ c) i)
      ∙ (λ i. if_ever now.0 (list_any (is_reduced t s) (locks.demanded_files s.locks)) i || within_both now.0 b c i)
      ∙ (λ i. list_any (is_reduced t s) (locks.demanded_files s.locks) || (writes_are s e i || requests_are s e i))
    where
      ended : is_within now.0 (from_on (lease_end_at t.config s.lease)) ≡ false
      ended = within_on now.0 (lease_end_at t.config s.lease) ∙ sym (is_end t.config s.lease now) ∙ e

  -- a lease that is over is within a span
  over_is : (o : Option ClientSession) → over_in t now o ≡ true → list_any (is_within now.0) (session_during t o) ≡ true
  over_is None e = cc
  over_is (Some s) e =
      ap (λ b. b || list_any (is_within now.0) (reductions_during t s ++ (writes_during t s ++ requests_during t s)))
      (within_on now.0 (lease_end_at t.config s.lease) ∙ sym (is_end t.config s.lease now) ∙ e)

  pub here_is : list_any (is_within now.0) (during_at t) ≡ (over_at now t || passes_due now t)
  here_is = within_both now.0 (operations_during t) (session_during t t.here.session) ∙ by (over_at now t) refl
    where
      by : (b : Bool) → over_at now t ≡ b → (list_any (is_within now.0) (operations_during t) || list_any (is_within now.0) (session_during t t.here.session)) ≡
          (b || passes_due now t)
      by true e = ap (λ x. list_any (is_within now.0) (operations_during t) || x) (over_is t.here.session e) ∙
          or_true (list_any (is_within now.0) (operations_during t))
      by false e = λ i. operations_are e i || later_is t.here.session e i

-- at all servers
any_either : {A : Type 0} (p q : A → Bool) (xs : List A) → list_any (λ x. p x || q x) xs ≡ (list_any p xs || list_any q xs)
any_either p q [] = refl
any_either p q (x ∷ xs) = ap (λ b. (p x || q x) || b) (any_either p q xs) ∙ by (p x) (q x) (list_any p xs) (list_any q xs)
  where
    by : (a b c d : Bool) → ((a || b) || (c || d)) ≡ ((a || c) || (b || d))
    by true b c d = refl
    by false true true d = refl
    by false true false d = refl
    by false false c d = refl

pub busy_is : (s : ClientState) (now : Stamp) → list_any (is_within now.0) (busy_during s) ≡ (any_over now (client_turn s []) || any_due now (client_turn s []))
busy_is s now =
    within_each now.0 (during_here s) s.associations
    ∙ any_same (λ a. list_any (is_within now.0) (during_here s a))
    (λ a. over_at now (enter (client_turn s []) a) || passes_due now (enter (client_turn s []) a)) s.associations
    (λ a. here_is now (enter (client_turn s []) a))
    ∙ any_either (λ (a : Association). over_at now (enter (client_turn s []) a)) (λ (a : Association). passes_due now (enter (client_turn s []) a))
    s.associations
