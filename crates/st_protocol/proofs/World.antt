-- Both layers and the claims, over all clients and whole runs.
use Rattle.std.proofs.Common.{◌≡◌, ◌≢◌, ℕ, zero, suc, ◌+◌, ◌≤◌, ◌⊎◌, true, false, List, [], refl, sym, ap, ◌∙◌, subst, inl, inr, arith}
use Rattle.st_protocol.specs.Assoc.{Config, ConfigOk, Lock, Msg, Row, Server, Assoc, In, Move, Claim, Frozen, World, Shared, InService, RowsCompat, Step, BeginsAt, Reached, Exclusive, Alone, Exactly, OneLife, NoConflict, TheftIsLate, ByRow, ByHeld, ByReassert, AtFirst, Then, Works, Work, Moves, Stays, GoesOn, steady, Stops, Starts, GraceEnds}
use Rattle.st_protocol.proofs.Timing.{late}
use Rattle.st_protocol.proofs.Invariant.{Invariant, kept_one}
use Rattle.st_protocol.proofs.Exact.{held_exact, lands_on_less}
use Rattle.st_protocol.proofs.Claims.{Before, shrinks, stopped, in_service}
use Rattle.std.proofs.lemmas.Bool.{cases_Bool}

abbrev ClaimsCompat : Config → World → Type 0
ClaimsCompat k w = (c d i m n : ℕ) → c ≢ d → 1 ≤ m → 1 ≤ n → Claim k (w.at c) i m → Claim k (w.at d) i n → m + n ≤ 2

pub record All (k : Config) (w : World) : Type 0 where
  pub own : (c : ℕ) → Invariant k (w.at c)
  pub shared : Shared w
  pub rows : InService (w.at 0).s → RowsCompat w
  pub claims : Frozen (w.at 0).s → ClaimsCompat k w

pub frozen_or_not : (s : Server) → Frozen s ⊎ InService s
frozen_or_not s = go (cases_Bool s.up) (cases_Bool s.grace)
  where
    go : (s.up ≡ true) ⊎ (s.up ≡ false) → (s.grace ≡ true) ⊎ (s.grace ≡ false) → Frozen s ⊎ InService s
    go (inr u) g = inl (inl u)
    go (inl u) (inl g) = inl (inr g)
    go (inl u) (inr g) = inr (record { up = u; grace = g })

module _ (k : Config) where
  frozen_at : (w : World) → Shared w → (c d : ℕ) → Frozen (w.at c).s → Frozen (w.at d).s
  frozen_at w s c d (inl u) = inl ((s d c).up ∙ u)
  frozen_at w s c d (inr g) = inr ((s d c).grace ∙ g)

  own : (a b : Assoc) → ConfigOk k → Invariant k a → Move k a b ⊎ (b ≡ a) → Invariant k b
  own a b ok o (inl m) = kept_one k ok m o
  own a b ok o (inr e) = subst (Invariant k) (sym e) o

  back : (a b : Assoc) → Invariant k a → Frozen a.s → Move k a b ⊎ (b ≡ a) → (i m : ℕ) → 1 ≤ m → Claim k b i m → Before k a i m
  back a b o f (inl mv) i m p c = shrinks k mv o.timing_ o.locks_ o.asked f i m p c
  back a b o f (inr e) i m p c = record { greater = m; least = omega arith; claim = subst (λ x. Claim k x i m) e c }

  fall : (a b : Assoc) → Invariant k a → InService a.s → Frozen b.s → Move k a b ⊎ (b ≡ a) → (i m : ℕ) → 1 ≤ m → Claim k b i m → m ≤ (a.s.row i).mode
  fall a b o s f (inl mv) i m p c = stopped k mv o.timing_ o.locks_ s.up s.grace f i m p c
  fall a b o s f (inr e) i m p c = absurd (no_both a.s s (subst (λ (x : Assoc). Frozen x.s) e f))
    where
      no_both : (s : Server) → InService s → Frozen s → ⊥
      no_both s h (inl u) = cc (h.up)
      no_both s h (inr g) = cc (h.grace)

  step : (w v : World) → ConfigOk k → Step k w v → All k w → All k v
  step w v ok s a =
      record {
        own = λ c. own (w.at c) (v.at c) ok (a.own c) (s.each c);
        shared = s.shared;
        rows = by_rows (frozen_or_not (w.at 0).s);
        claims = by_claims (frozen_or_not (w.at 0).s);
      }
    where
      was : Frozen (w.at 0).s → (c i m : ℕ) → 1 ≤ m → Claim k (v.at c) i m → Before k (w.at c) i m
      was f c i m p x = back (w.at c) (v.at c) (a.own c) (frozen_at w a.shared 0 c f) (s.each c) i m p x

      shrunk : Frozen (w.at 0).s → ClaimsCompat k v
      shrunk f c d i m n ne p q x y =
          let g = was f c i m p x in let h = was f d i n q y in
          let g1 : m ≤ g.greater = g.least in let h1 : n ≤ h.greater = h.least in
          let z = a.claims f c d i g.greater h.greater ne (omega arith) (omega arith) g.claim h.claim in omega arith

      by_rows : Frozen (w.at 0).s ⊎ InService (w.at 0).s → InService (v.at 0).s → RowsCompat v
      by_rows (inl f) z = λ c d i ne p q.
          shrunk f c d i ((v.at c).s.row i).mode ((v.at d).s.row i).mode ne p q (ByRow ((s.shared c 0).up ∙ z.up) refl) (ByRow ((s.shared d 0).up ∙ z.up) refl)
      by_rows (inr t) z = s.table t z (a.rows t)

      served : InService (w.at 0).s → (c : ℕ) → InService (w.at c).s
      served t c = record { up = (a.shared c 0).up ∙ t.up; grace = (a.shared c 0).grace ∙ t.grace }

      by_claims : Frozen (w.at 0).s ⊎ InService (w.at 0).s → Frozen (v.at 0).s → ClaimsCompat k v
      by_claims (inl f) z = shrunk f
      by_claims (inr t) z = λ c d i m n ne p q x y.
          let g = fall (w.at c) (v.at c) (a.own c) (served t c) (frozen_at v s.shared 0 c z) (s.each c) i m p x in
          let h = fall (w.at d) (v.at d) (a.own d) (served t d) (frozen_at v s.shared 0 d z) (s.each d) i n q y in
          let r = a.rows t c d i ne (omega arith) (omega arith) in omega arith

  -- a list of moves
  same_server : {a b : Assoc} → (m : Move k a b) → steady m ≡ true → (b.s.up ≡ a.s.up) × (b.s.grace ≡ a.s.grace)
  same_server (Stops a u) e = cc
  same_server (Starts a u) e = cc
  same_server (GraceEnds a u g h) e = cc
  same_server m e = (refl, refl)

  pub same_all : {a b : Assoc} → Moves k a b → (b.s.up ≡ a.s.up) × (b.s.grace ≡ a.s.grace)
  same_all (Stays a) = (refl, refl)
  same_all (GoesOn m e r) = let p = same_server m e in let q = same_all r in (q.0 ∙ p.0, q.1 ∙ p.1)

  own_all : {a b : Assoc} → ConfigOk k → Moves k a b → Invariant k a → Invariant k b
  own_all ok (Stays a) o = o
  own_all ok (GoesOn {a} {b} m e r) o = own_all ok r (own a b ok o (inl m))

  frozen_on : {a b : Assoc} → (m : Move k a b) → steady m ≡ true → Frozen a.s → Frozen b.s
  frozen_on m e (inl u) = inl ((same_server m e).0 ∙ u)
  frozen_on m e (inr g) = inr ((same_server m e).1 ∙ g)

  back_all : {a b : Assoc} → ConfigOk k → Moves k a b → Invariant k a → Frozen a.s → (i m : ℕ) → 1 ≤ m → Claim k b i m → Before k a i m
  back_all ok (Stays a) o f i m p c = record { greater = m; least = omega arith; claim = c }
  back_all ok (GoesOn {a} {b} mv e r) o f i m p c =
      let q = back_all ok r (own a b ok o (inl mv)) (frozen_on mv e f) i m p c in
      let l : m ≤ q.greater = q.least in
      let z = shrinks k mv o.timing_ o.locks_ o.asked f i q.greater (omega arith) q.claim in
      let l2 : q.greater ≤ z.greater = z.least in
      record { greater = z.greater; least = omega arith; claim = z.claim }

  work : (w v : World) → ConfigOk k → Work k w v → All k w → All k v
  work w v ok s a =
      record {
        own = λ c. own_all ok (s.each c) (a.own c);
        shared = λ c d. record { up = (up c).0 ∙ (a.shared c d).up ∙ sym (up d).0; grace = (up c).1 ∙ (a.shared c d).grace ∙ sym (up d).1 };
        rows = λ z. by_rows (frozen_or_not (w.at 0).s) z;
        claims = λ z. by_claims (frozen_or_not (w.at 0).s) z;
      }
    where
      up : (c : ℕ) → ((v.at c).s.up ≡ (w.at c).s.up) × ((v.at c).s.grace ≡ (w.at c).s.grace)
      up c = same_all (s.each c)

      shrunk : Frozen (w.at 0).s → ClaimsCompat k v
      shrunk f c d i m n ne p q x y =
          let g = back_all ok (s.each c) (a.own c) (frozen_at w a.shared 0 c f) i m p x in let h = back_all ok (s.each d) (a.own d) (frozen_at w a.shared 0 d f) i n q y in
          let g1 : m ≤ g.greater = g.least in let h1 : n ≤ h.greater = h.least in
          let z = a.claims f c d i g.greater h.greater ne (omega arith) (omega arith) g.claim h.claim in omega arith

      served : InService (v.at 0).s → InService (w.at 0).s
      served z = record { up = sym (up 0).0 ∙ z.up; grace = sym (up 0).1 ∙ z.grace }

      by_rows : Frozen (w.at 0).s ⊎ InService (w.at 0).s → InService (v.at 0).s → RowsCompat v
      by_rows (inl f) z = absurd (no_frozen (w.at 0).s (served z) f)
        where
          no_frozen : (s : Server) → InService s → Frozen s → ⊥
          no_frozen s h (inl u) = cc (h.up)
          no_frozen s h (inr g) = cc (h.grace)
      by_rows (inr t) z = s.table t z (a.rows t)

      by_claims : Frozen (w.at 0).s ⊎ InService (w.at 0).s → Frozen (v.at 0).s → ClaimsCompat k v
      by_claims (inl f) z = shrunk f
      by_claims (inr t) z = absurd (thaw z)
        where
          thaw : Frozen (v.at 0).s → ⊥
          thaw (inl u) = let x = (up 0).0 in cc (t.up)
          thaw (inr g) = let x = (up 0).1 in cc (t.grace)

  none_in : (m : Msg) (net : List Msg) → net ≡ [] → In m net → ⊥
  none_in m net e i = subst (In m) e i

  first : (a : Assoc) → BeginsAt a → Invariant k a
  first a h =
      record {
        timing_ = record {
          limit = let e = h.drift in omega arith;
          ends = λ l. inl (h.ended l);
          lives = omega (arith, h.session);
          ahead = omega (arith, h.epoch);
          rows = λ i. let e = ap (λ (r : Row). r.life) (h.row i) in omega arith;
          sent = λ m i. absurd (none_in m a.net h.net i);
          dated = λ e. cc (h.leased);
          timer = λ e. cc (h.timed);
          stamps = λ e. cc (h.timed);
          grace = λ u e. cc (h.grace);
          old = λ u m i. absurd (none_in m a.net h.net i);
          past = λ u g m i. absurd (none_in m a.net h.net i);
        };
        locks_ = record {
          born = h.born;
          begun = omega (arith, h.first);
          down = λ u. cc (h.up);
          new = λ e. (h.epoch, λ i. ap (λ (l : Lock). l.mode) (h.held i), h.seen);
          seen = λ i o. let e = ap (λ (l : Lock). l.mode) (h.held i) in absurd (omega arith);
          below = λ i. let e = ap (λ (l : Lock). l.g) (h.held i) in omega arith;
          low = λ m i. absurd (none_in m a.net h.net i);
          rows = λ i o. let e = ap (λ (r : Row). r.mode) (h.row i) in absurd (omega arith);
          joined = λ u e l. cc (h.leased);
          graced = λ u g. cc (h.grace);
          held = λ u e s i o. let z = ap (λ (l : Lock). l.mode) (h.held i) in absurd (omega arith);
          msgs = λ u m i. absurd (none_in m a.net h.net i);
        };
        lives_ = record { since = λ u. let e = h.glife in omega arith; former = λ u m i. absurd (none_in m a.net h.net i); due = λ u e. cc (h.leased); asserts = λ u m i. absurd (none_in m a.net h.net i); graced = λ u g. cc (h.grace) };
        exact_ = record { last = λ al. cc (h.leased, al.leased); exact = λ s al. cc (h.leased, al.leased); said = λ u al. cc (h.leased, al.leased); busy = λ i e. let f = h.busy i in cc };
        fits = λ m i. absurd (none_in m a.net h.net i);
        born_ = record { client = h.born; sent = λ m i. absurd (none_in m a.net h.net i); session = λ e. cc (h.live); rows = λ i o. let e = ap (λ (r : Row). r.mode) (h.row i) in absurd (omega arith) };
        asked = record { msgs = λ m i. absurd (none_in m a.net h.net i); rows = λ i o. let e = ap (λ (r : Row). r.mode) (h.row i) in absurd (omega arith) };
      }

  first_all : (w : World) → Shared w → ((c : ℕ) → BeginsAt (w.at c)) → All k w
  first_all w s b =
      record {
        own = λ c. first (w.at c) (b c);
        shared = s;
        rows = λ z c d i ne p q. let e = ap (λ (r : Row). r.mode) ((b c).row i) in absurd (omega arith);
        claims = by;
      }
    where
      by : Frozen (w.at 0).s → ClaimsCompat k w
      by (inl u) = cc ((b 0).up)
      by (inr g) = cc ((b 0).grace)

  pub all : {w : World} → ConfigOk k → Reached k w → All k w
  all ok (AtFirst w s b) = first_all w s b
  all ok (Then {w} {v} r s) = step w v ok s (all ok r)
  all ok (Works {w} {v} r s) = work w v ok s (all ok r)

  pub invariant : (w : World) → ConfigOk k → Reached k w → (c : ℕ) → Invariant k (w.at c)
  invariant w ok r c = (all ok r).own c

  pub exclusive : (w : World) → ConfigOk k → Reached k w → Exclusive k w
  exclusive w ok r c d i ne hc hd oc od = go (frozen_or_not (w.at 0).s)
    where
      a : All k w
      a = all ok r

      go : Frozen (w.at 0).s ⊎ InService (w.at 0).s → ((w.at c).c.held i).mode + ((w.at d).c.held i).mode ≤ 2
      go (inl f) = a.claims f c d i _ _ ne oc od (ByHeld hc refl) (ByHeld hd refl)
      go (inr t) =
          let x = in_service k (w.at c) (a.own c).timing_ (a.own c).locks_ ((a.shared c 0).up ∙ t.up) ((a.shared c 0).grace ∙ t.grace) hc i oc in
          let y = in_service k (w.at d) (a.own d).timing_ (a.own d).locks_ ((a.shared d 0).up ∙ t.up) ((a.shared d 0).grace ∙ t.grace) hd i od in
          let z = a.rows t c d i ne (omega arith) (omega arith) in omega arith

  pub no_conflict : (w : World) → ConfigOk k → Reached k w → NoConflict w
  no_conflict w ok r c d i life stamp l ne u g m p q =
      let a = all ok r in
      a.claims (frozen_at w a.shared c 0 (inr g)) c d i _ _ ne p q (ByReassert u life stamp l m refl) (ByRow ((a.shared d c).up ∙ u) refl)

  pub theft_is_late : (w : World) → ConfigOk k → Reached k w → (c : ℕ) → TheftIsLate k (w.at c)
  theft_is_late w ok r c = late k (w.at c) ok ((all ok r).own c).timing_

  pub alone : (w : World) → ConfigOk k → Reached k w → Alone k w
  alone w ok r c d i ne hc two u = go (frozen_or_not (w.at 0).s) ((w.at d).s.row i).mode refl
    where
      a : All k w
      a = all ok r

      some : Frozen (w.at 0).s ⊎ InService (w.at 0).s → (n : ℕ) → ((w.at d).s.row i).mode ≡ n → 1 ≤ n → ⊥
      some (inl f) n e o = let z = a.claims f c d i ((w.at c).c.held i).mode n ne (omega arith) o (ByHeld hc refl) (ByRow u e) in omega arith
      some (inr t) n e o =
          let x = in_service k (w.at c) (a.own c).timing_ (a.own c).locks_ ((a.shared c 0).up ∙ t.up) ((a.shared c 0).grace ∙ t.grace) hc i (omega arith) in
          let z = a.rows t c d i ne (omega arith) (omega arith) in omega arith

      go : Frozen (w.at 0).s ⊎ InService (w.at 0).s → (n : ℕ) → ((w.at d).s.row i).mode ≡ n → ((w.at d).s.row i).mode ≡ 0
      go f zero e = e
      go f (suc n) e = absurd (some f (suc n) e (omega arith))

  pub exactly : (w : World) → ConfigOk k → Reached k w → (c : ℕ) → Exactly k (w.at c)
  exactly w ok r c =
      let o = (all ok r).own c in
      record {
        row = λ u e s al i two. held_exact k (w.at c) o.timing_ o.locks_ o.exact_ (record { up = u; epoch = e; session = s }) al i two;
        lands = λ al stamp i g mode m lt. lands_on_less k (w.at c) o.exact_ al stamp i g mode m lt;
        busy = o.exact_.busy;
      }

  pub one_life : (w : World) → ConfigOk k → Reached k w → (c : ℕ) → OneLife (w.at c)
  one_life w ok r c m u = ((all ok r).own c).lives_.asserts u m
