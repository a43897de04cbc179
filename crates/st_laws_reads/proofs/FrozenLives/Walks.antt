-- A life that a crash ended is frozen along the machine's paths; it begins at the crash; and no lock is beside it.
use Rattle.st_lemmas.proofs.Words
use Words.{◌≡◌, ◌≢◌, ℕ, zero, suc, ◌+◌, ◌<◌, ◌≤◌, ◌⊎◌, true, List, refl, sym, ap, ◌∙◌, subst, inl, inr, arith}
use Rattle.st_protocol.specs.Assoc.{Alive, Config, ConfigOk, Msg, Row, upd, Client, Assoc, Move, Moves, Stays, GoesOn, steady, World, Shared, InService}
use Rattle.st_protocol.specs.Assoc.{RowsCompat, Step, Work, Reached, Then, Works}
use Rattle.st_protocol.proofs.Lists.{upd_all, upd_both, upd-same, upd-other}
use Rattle.st_protocol.proofs.Invariant.{Invariant}
use Rattle.st_protocol.proofs.World.{invariant, exclusive}
use Rattle.st_laws_refine.specs.Server.Paths.{Path, Here, SteppedOn, WorkedOn}
use Rattle.st_laws_reads.specs.FrozenLives.Frozen.{stood, Unserved, replaced, FrozenLife, IsOver, LockedHalf, PathsKeepLives, CrashesLeaveLives}
use Rattle.st_laws_reads.specs.FrozenLives.Frozen.{LivesStandAlone}
use Rattle.st_laws_reads.proofs.FrozenLives.Frozen.{one, all, no_less}
use Rattle.std.proofs.lemmas.Bool.{both_ways}

-- What the server has is the same, also when an association is replaced.
module _ (W : World) (c : ℕ) (A : Assoc) (row : A.s.row ≡ (W.at c).s.row) (up : A.s.up ≡ (W.at c).s.up) (grace : A.s.grace ≡ (W.at c).s.grace) where
  pub row_same : (d : ℕ) → (upd W.at c A d).s.row ≡ (W.at d).s.row
  row_same d = upd_all (λ d (a : Assoc). a.s.row ≡ (W.at d).s.row) W.at c A row (λ d n. refl) d

  pub up_same : (d : ℕ) → (upd W.at c A d).s.up ≡ (W.at d).s.up
  up_same d = upd_all (λ d (a : Assoc). a.s.up ≡ (W.at d).s.up) W.at c A up (λ d n. refl) d

  pub grace_same : (d : ℕ) → (upd W.at c A d).s.grace ≡ (W.at d).s.grace
  grace_same d = upd_all (λ d (a : Assoc). a.s.grace ≡ (W.at d).s.grace) W.at c A grace (λ d n. refl) d

  mode_same : (d i : ℕ) → ((upd W.at c A d).s.row i).mode ≡ ((W.at d).s.row i).mode
  mode_same d i = ap (λ (f : ℕ → Row). (f i).mode) (row_same d)

  pub in_service_back : InService (upd W.at c A 0).s → InService (W.at 0).s
  in_service_back z = record { up = sym (up_same 0) ∙ z.up; grace = sym (grace_same 0) ∙ z.grace }

  pub rows_back : RowsCompat (replaced W c A) → RowsCompat W
  rows_back h x y i ne p q =
      let e = mode_same x i in let f = mode_same y i in
      let r = h x y i ne (omega (arith, p, e)) (omega (arith, q, f)) in omega (arith, r, e, f)

  pub rows_on : RowsCompat W → RowsCompat (replaced W c A)
  rows_on h x y i ne p q =
      let e = mode_same x i in let f = mode_same y i in
      let r = h x y i ne (omega (arith, p, e)) (omega (arith, q, f)) in omega (arith, r, e, f)

  pub shared_on : Shared W → Shared (replaced W c A)
  shared_on h x y = record { up = up_same x ∙ (h x y).up ∙ sym (up_same y); grace = grace_same x ∙ (h x y).grace ∙ sym (grace_same y) }

module _ (k : Config) (ok : ConfigOk k) (c i : ℕ) (C : Client) (locked : LockedHalf C i) where
  some : 1 ≤ (C.held i).mode
  some = let z = locked.exclusive in omega (arith, z)

  life_inv : (W : World) (f : FrozenLife k c C.life C W) → Invariant k (stood C f.begun f.messages (W.at c))
  life_inv W f = subst (Invariant k) (upd-same W.at c _) (invariant k _ ok f.reached c)

  -- many moves in one step of a node
  worked : (W V : World) → (W.at c).c.clock < C.date + k.lease → FrozenLife k c C.life C W → Work k W V → FrozenLife k c C.life C V
  worked W V t f x =
      let z = all k C i locked.leased some f.begun f.messages ok (x.each c) t (life_inv W f) f.unserved in
      record {
        begun = z.begun;
        messages = z.messages;
        unserved = z.unserved;
        reached = Works f.reached (record {
          each = λ d. upd_both (λ d a b. Moves k a b) W.at V.at c (stood C f.begun f.messages (W.at c)) (stood C z.begun z.messages (V.at c)) z.moves (λ d n. x.each d) d;
          table = λ u v h. rows_on V c (stood C z.begun z.messages (V.at c)) refl refl refl
              (x.table (in_service_back W c (stood C f.begun f.messages (W.at c)) refl refl refl u) (in_service_back V c (stood C z.begun z.messages (V.at c)) refl refl refl v)
              (rows_back W c (stood C f.begun f.messages (W.at c)) refl refl refl h));
        });
      }

  -- one move, or none
  record Placed (a b : Assoc) (y : ℕ) (N : List Msg) : Type 0 where
    begun : ℕ
    messages : List Msg
    unserved : Unserved C.life messages b
    move : Move k (stood C y N a) (stood C begun messages b) ⊎ (stood C begun messages b ≡ stood C y N a)

  placed : (a b : Assoc) (y : ℕ) (N : List Msg) → a.c.clock < C.date + k.lease → Invariant k (stood C y N a) → Unserved C.life N a → Move k a b ⊎ (b ≡ a) → Placed a b y N
  placed a b y N t v o (inl m) =
      let z = one k C i locked.leased some y N m t v o in record { begun = z.begun; messages = z.messages; unserved = z.unserved; move = go z.begun z.messages z.go }
    where
      go : (y2 : ℕ) (N2 : List Msg) → ((m2 : Move k (stood C y N a) (stood C y2 N2 b)) × (steady m2 ≡ steady m)) ⊎ (stood C y2 N2 b ≡ stood C y N a) → Move k (stood C y N a) (stood C y2 N2 b) ⊎ (stood C y2 N2 b ≡ stood C y N a)
      go y2 N2 (inl z) = inl z.0
      go y2 N2 (inr q) = inr q
  placed a b y N t v o (inr e) = record { begun = y; messages = N; unserved = subst (Unserved C.life N) (sym e) o; move = inr (ap (stood C y N) e) }

  stepped : (W V : World) → (W.at c).c.clock < C.date + k.lease → FrozenLife k c C.life C W → Step k W V → FrozenLife k c C.life C V
  stepped W V t f x =
      let z = placed (W.at c) (V.at c) f.begun f.messages t (life_inv W f) f.unserved (x.each c) in
      record {
        begun = z.begun;
        messages = z.messages;
        unserved = z.unserved;
        reached = Then f.reached (record {
          each = λ d. upd_both (λ d a b. Move k a b ⊎ (b ≡ a)) W.at V.at c (stood C f.begun f.messages (W.at c)) (stood C z.begun z.messages (V.at c)) z.move (λ d n. x.each d) d;
          shared = shared_on V c (stood C z.begun z.messages (V.at c)) refl refl refl x.shared;
          table = λ u v h. rows_on V c (stood C z.begun z.messages (V.at c)) refl refl refl
              (x.table (in_service_back W c (stood C f.begun f.messages (W.at c)) refl refl refl u) (in_service_back V c (stood C z.begun z.messages (V.at c)) refl refl refl v)
              (rows_back W c (stood C f.begun f.messages (W.at c)) refl refl refl h));
        });
      }

  -- no clock goes back
  later_all : {a b : Assoc} → Moves k a b → a.c.clock ≤ b.c.clock
  later_all (Stays a) = omega arith
  later_all (GoesOn m e r) = let x = no_less m in let y = later_all r in omega (arith, x, y)

  later_one : {a b : Assoc} → Move k a b ⊎ (b ≡ a) → a.c.clock ≤ b.c.clock
  later_one (inl m) = no_less m
  later_one (inr e) = let x = ap (λ (a : Assoc). a.c.clock) e in omega (arith, x)

  before_or_after : (t u : ℕ) → (t < u) ⊎ (u ≤ t)
  before_or_after t zero = inr (omega arith)
  before_or_after zero (suc u) = inl (omega arith)
  before_or_after (suc t) (suc u) = go (before_or_after t u)
    where
      go : (t < u) ⊎ (u ≤ t) → (suc t < suc u) ⊎ (suc u ≤ suc t)
      go (inl x) = inl (omega (arith, x))
      go (inr x) = inr (omega (arith, x))

  Stands : World → Type 0
  Stands W = IsOver k C (W.at c) ⊎ FrozenLife k c C.life C W

  after : (W V : World) → (W.at c).c.clock ≤ (V.at c).c.clock → ((W.at c).c.clock < C.date + k.lease → FrozenLife k c C.life C W → FrozenLife k c C.life C V) → Stands W → Stands V
  unfolding Stands
  after W V le f (inl o) = inl (omega (arith, o, le))
  after W V le f (inr z) = go (before_or_after (W.at c).c.clock (C.date + k.lease))
    where
      go : ((W.at c).c.clock < C.date + k.lease) ⊎ (C.date + k.lease ≤ (W.at c).c.clock) → IsOver k C (V.at c) ⊎ FrozenLife k c C.life C V
      go (inl t) = inr (f t z)
      go (inr t) = inl (omega (arith, t, le))

  walked : {W V : World} → Path k W V → Stands W → Stands V
  walked (Here W) z = z
  walked (SteppedOn {u} {v} {w} p x) z = after v w (later_one (x.each c)) (λ t f. stepped v w t f x) (walked p z)
  walked (WorkedOn {u} {v} {w} p x) z = after v w (later_all (x.each c)) (λ t f. worked v w t f x) (walked p z)

  -- no lock is beside it
  alone : (d : ℕ) (W : World) → (W.at c).c.clock < C.date + k.lease → FrozenLife k c C.life C W → Alive k (W.at d).c → ((W.at d).c.held i).mode ≡ 0
  alone d W t f h = own_or_other (before_or_after c d) (before_or_after d c)
    where
      X : Assoc
      X = stood C f.begun f.messages (W.at c)

      none : d ≢ c → (n : ℕ) → ((W.at d).c.held i).mode ≡ n → n ≡ 0
      none ne zero e = refl
      none ne (suc n) e =
          let p : upd W.at c X c ≡ X = upd-same W.at c X in
          let q : upd W.at c X d ≡ W.at d = upd-other W.at c X d ne in
          let r = exclusive k (replaced W c X) ok f.reached c d i (λ (e : c ≡ d). ne (sym e))
          (subst (λ (a : Assoc). Alive k a.c) (sym p) (record { leased = locked.leased; lasts = t }))
          (subst (λ (a : Assoc). Alive k a.c) (sym q) h)
          (subst (λ (a : Assoc). 1 ≤ (a.c.held i).mode) (sym p) some)
          (subst (λ (a : Assoc). 1 ≤ (a.c.held i).mode) (sym q) (omega (arith, e))) in
          let u = ap (λ (a : Assoc). (a.c.held i).mode) p in let v = ap (λ (a : Assoc). (a.c.held i).mode) q in let two = locked.exclusive in
          absurd (omega (arith, r, u, v, two, e))

      own_or_other : (c < d) ⊎ (d ≤ c) → (d < c) ⊎ (c ≤ d) → ((W.at d).c.held i).mode ≡ 0
      own_or_other (inl x) y = none (λ e. absurd (omega (arith, e, x))) _ refl
      own_or_other (inr x) (inl y) = none (λ e. absurd (omega (arith, e, y))) _ refl
      own_or_other (inr x) (inr y) = let e : d ≡ c = omega (arith, x, y) in
          absurd (both_ways (W.at c).c.leased f.unserved.unleased (subst (λ d. (W.at d).c.leased ≡ true) e h.leased))

pub paths_keep : PathsKeepLives
unfolding Stands
paths_keep k c i C W V ok locked p z = walked k ok c i C locked p z

pub stand_alone : LivesStandAlone
stand_alone k c i d C W ok locked t f h = alone k ok c i C locked d W t f h

-- at the crash
pub begins : CrashesLeaveLives
begins k c A B ok r x =
    record {
      begun = (A.at c).s.glife;
      messages = (A.at c).net;
      unserved = subst (Unserved (A.at c).c.life (A.at c).net) (sym x.own) (record { later = omega arith; unleased = refl; served = v.timing_.lives; messages = λ m h. inl ((v.timing_.sent m h).of_life, h) });
      reached = subst (Reached k) (λ j. record { at = λ d. sym (same d) j }) r;
    }
  where
    v : Invariant k (A.at c)
    v = invariant k A ok r c

    own : stood (A.at c).c (A.at c).s.glife (A.at c).net (B.at c) ≡ A.at c
    own = ap (stood (A.at c).c (A.at c).s.glife (A.at c).net) x.own

    same : (d : ℕ) → upd B.at c (stood (A.at c).c (A.at c).s.glife (A.at c).net (B.at c)) d ≡ A.at d
    same d = upd_all (λ d a. a ≡ A.at d) B.at c _ own x.others d
