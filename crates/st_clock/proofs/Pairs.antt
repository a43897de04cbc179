-- The number of a pair is the greatest that the one gained above the other over the last advances.
use Rattle.std.proofs.Common.{◌≡◌, ℕ, zero, suc, ◌+◌, ◌*◌, ◌<◌, ◌≤◌, List, [], ◌∷◌, ◌++◌, length, arith, subst, refl, sym, ap, inl, inr}
use Rattle.std.specs.Prelude.{slice_index, fold, ◌⊎◌}
use Rattle.st_base.specs.declared.config.Config.{Config}
use Rattle.st_rules.specs.Leases.{AllFull, drift_after, gain, no_drift, raised}
use Rattle.st_rules.proofs.Drift.{IsSquare, covers_step, pair_after, pair_at, pair_first, square_after, square_first}
use Rattle.st_clock.specs.Drifts.{IsExcess, drift_over}

-- lists
gain_more : (m a : ℕ) (q : List (List ℕ)) (s : List ℕ) → fold (λ x steps. x + slice_index steps m) a (q ++ (s ∷ [])) ≡ fold (λ x steps. x + slice_index steps m) a q + slice_index s m
gain_more m a [] s = refl
gain_more m a (x ∷ q) s = gain_more m (a + slice_index x m) q s

append_one : {A : Type 0} (p q : List A) (s : A) → (p ++ q) ++ (s ∷ []) ≡ p ++ (q ++ (s ∷ []))
append_one [] q s = refl
append_one (x ∷ p) q s = ap (λ l. x ∷ l) (append_one p q s)

pub append_nothing : {A : Type 0} (p : List A) → p ≡ p ++ []
append_nothing [] = refl
append_nothing (x ∷ p) = ap (λ l. x ∷ l) (append_nothing p)

pub append_cons : {A : Type 0} (p q : List A) (s : A) → (p ++ (s ∷ [])) ++ q ≡ p ++ (s ∷ q)
append_cons [] q s = refl
append_cons (x ∷ p) q s = ap (λ l. x ∷ l) (append_cons p q s)

-- the end of a list with one more is nothing, or ends with that one
record EndsWith (done before during : List (List ℕ)) (s : List ℕ) : Type 0 where
  front : List (List ℕ)
  whole : during ≡ front ++ (s ∷ [])
  split : done ≡ before ++ front

head_is : (x y : List ℕ) (p q : List (List ℕ)) → x ∷ p ≡ y ∷ q → x ≡ y
head_is x y p q e = grind arith

tail_is : (x y : List ℕ) (p q : List (List ℕ)) → x ∷ p ≡ y ∷ q → p ≡ q
tail_is x y p q e = grind arith

no_more : (p q : List (List ℕ)) (x : List ℕ) → [] ≡ p ++ (x ∷ q) → ⊥
no_more [] q x e = absurd (cc)
no_more (y ∷ p) q x e = absurd (cc)

ends : (done before during : List (List ℕ)) (s : List ℕ) → done ++ (s ∷ []) ≡ before ++ during → (during ≡ []) ⊎ EndsWith done before during s
ends done [] during s e = inr (record { front = done; whole = sym e; split = refl })
ends [] (b ∷ before) [] s e = inl refl
ends [] (b ∷ before) (x ∷ during) s e = absurd (no_more before during x (tail_is _ _ _ _ e))
ends (d ∷ done) (b ∷ before) during s e = go (ends done before during s (tail_is _ _ _ _ e))
  where
    go : (during ≡ []) ⊎ EndsWith done before during s → (during ≡ []) ⊎ EndsWith (d ∷ done) (b ∷ before) during s
    go (inl z) = inl z
    go (inr w) = inr (record { front = w.front; whole = w.whole; split = rw (head_is _ _ _ _ e, w.split) refl })

exact_or_zero : (num den e sm sn : ℕ) → (raised num den e sm sn + num * sn ≡ e + den * sm) ⊎ (raised num den e sm sn ≡ 0)
exact_or_zero num den e sm sn = grind arith

-- the numbers that stand for a pair are the same number
pub one_excess : (k : Config) (advances : List (List ℕ)) (m n d e : ℕ) → IsExcess k advances m n d → IsExcess k advances m n e → d ≤ e
one_excess k advances m n d e a b = let q = b.most a.before a.during a.split in omega (arith, q, a.reached)

none_yet : (k : Config) (m n : ℕ) → IsExcess k [] m n 0
none_yet k m n = record { most = nothing; before = []; during = []; split = refl; reached = omega arith }
  where
    nothing : (before during : List (List ℕ)) → [] ≡ before ++ during → k.den * gain m during ≤ k.num * gain n during + 0
    nothing before [] e = omega arith
    nothing before (x ∷ during) e = absurd (no_more before during x e)

one_more : (k : Config) (done : List (List ℕ)) (s : List ℕ) (m n e : ℕ) → IsExcess k done m n e → IsExcess k (done ++ (s ∷ [])) m n (raised k.num k.den e (slice_index s m) (slice_index s n))
one_more k done s m n e x = go (exact_or_zero k.num k.den e sm sn)
  where
    sm : ℕ
    sm = slice_index s m

    sn : ℕ
    sn = slice_index s n

    r : ℕ
    r = raised k.num k.den e sm sn

    most_of : (before during : List (List ℕ)) → (during ≡ []) ⊎ EndsWith done before during s → k.den * gain m during ≤ k.num * gain n during + r
    most_of before during (inl z) = rw z (omega arith)
    most_of before during (inr w) =
        let gm : gain m (w.front ++ (s ∷ [])) ≡ gain m w.front + slice_index s m = gain_more m 0 w.front s in
        let gn : gain n (w.front ++ (s ∷ [])) ≡ gain n w.front + slice_index s n = gain_more n 0 w.front s in
        let q = x.most before w.front w.split in
        let c = covers_step k.num k.den e sm sn in
        rw (w.whole, gm, gn) (omega (arith, q, c))

    most : (before during : List (List ℕ)) → done ++ (s ∷ []) ≡ before ++ during → k.den * gain m during ≤ k.num * gain n during + r
    most before during split = most_of before during (ends done before during s split)

    go : (r + k.num * sn ≡ e + k.den * sm) ⊎ (r ≡ 0) → IsExcess k (done ++ (s ∷ [])) m n r
    go (inl z) = record {
      most = most;
      before = x.before;
      during = x.during ++ (s ∷ []);
      split = rw x.split (append_one x.before x.during s);
      reached =
          let gm : gain m (x.during ++ (s ∷ [])) ≡ gain m x.during + slice_index s m = gain_more m 0 x.during s in
          let gn : gain n (x.during ++ (s ∷ [])) ≡ gain n x.during + slice_index s n = gain_more n 0 x.during s in
          rw (gm, gn) (omega (arith, z, x.reached));
    }
    go (inr z) = record { most = most; before = done ++ (s ∷ []); during = []; split = append_nothing (done ++ (s ∷ [])); reached = omega (arith, z) }

-- what stands for all pairs of this number of nodes
pub record Stands (k : Config) (nodes : ℕ) (done drift : List (List ℕ)) : Type 0 where
  pub square : IsSquare drift nodes
  pub pairs : (m n : ℕ) → m < nodes → n < nodes → IsExcess k done m n (pair_at drift m n)

pub stands_after : (k : Config) (nodes : ℕ) (done drift : List (List ℕ)) (s : List ℕ) → length s ≡ nodes → Stands k nodes done drift → Stands k nodes (done ++ (s ∷ [])) (drift_after drift s k.num k.den)
stands_after k nodes done drift s full st = record {
  square = square_after drift s k.num k.den nodes full st.square;
  pairs = λ m n i j. rw (pair_after drift s k.num k.den nodes m n full st.square i j) (one_more k done s m n _ (st.pairs m n i j));
}

stands_over : (k : Config) (nodes : ℕ) (done drift rest : List (List ℕ)) → AllFull nodes rest → Stands k nodes done drift → Stands k nodes (done ++ rest) (drift_over k drift rest)
stands_over k nodes done drift [] full st = rw (sym (append_nothing done)) st
stands_over k nodes done drift (s ∷ rest) full st = subst (λ l. Stands k nodes l (drift_over k (drift_after drift s k.num k.den) rest)) (append_cons done rest s) (stands_over k nodes (done ++ (s ∷ [])) (drift_after drift s k.num k.den) rest full.1 (stands_after k nodes done drift s full.0 st))

pub stands_accepted : (k : Config) (nodes : ℕ) (advances : List (List ℕ)) → AllFull nodes advances → Stands k nodes advances (drift_over k (no_drift nodes) advances)
stands_accepted k nodes advances full = stands_over k nodes [] (no_drift nodes) advances full (record { square = square_first nodes; pairs = λ m n i j. rw (pair_first nodes m n i j) (none_yet k m n) })
