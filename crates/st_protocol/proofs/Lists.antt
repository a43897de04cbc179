-- Updates of a function, and members of a list.
use Rattle.std.proofs.Common.{◌≡◌, ◌≢◌, ℕ, ◌≤◌, ◌⊎◌, Bool, true, false, List, ◌∷◌, ◌==◌, refl, sym, subst, inl, inr, arith, eqb}
use Rattle.std.specs.Prelude.{if◌then◌else◌}
use Rattle.std.proofs.lemmas.Bool.Decides.{eqb_tells}
use Rattle.st_protocol.specs.Assoc.{upd, In, Msg, Row, no_row}

upd_if : {A : Type 0} (P : A → Type 0) (x y : A) (b : Bool) → (b ≡ true → P x) → (b ≡ false → P y) → P (if b then x else y)
upd_if P x y true p q = p refl
upd_if P x y false p q = q refl

-- what holds of the new value at its place, and of the others at theirs, holds after the update
pub upd_all : {A : Type 0} (P : ℕ → A → Type 0) (f : ℕ → A) (c : ℕ) (v : A) → P c v → ((d : ℕ) → d ≢ c → P d (f d)) → (d : ℕ) → P d (upd f c v d)
unfolding upd
upd_all P f c v p q d =
    ⊎_case (eqb_tells d c)
  where
    ⊎_case : ((eqb d c ≡ true) × (d ≡ c)) ⊎ ((eqb d c ≡ false) × (d ≢ c)) → P d (if d == c then v else f d)
    ⊎_case (inl h) = upd_if (P d) v (f d) (d == c) (λ e. subst (λ x. P x v) (sym h.1) p) (λ e. cc)
    ⊎_case (inr h) = upd_if (P d) v (f d) (d == c) (λ e. cc) (λ e. q d h.1)

pub upd-same : {A : Type 0} (f : ℕ → A) (c : ℕ) (v : A) → upd f c v c ≡ v
upd-same f c v = upd_all (λ d x. d ≡ c → x ≡ v) f c v (λ e. refl) (λ d ne e. absurd (ne e)) c refl

pub upd-other : {A : Type 0} (f : ℕ → A) (c : ℕ) (v : A) (d : ℕ) → d ≢ c → upd f c v d ≡ f d
upd-other f c v d ne = upd_all (λ d x. d ≢ c → x ≡ f d) f c v (λ n. absurd (n refl)) (λ d n m. refl) d ne

-- for `grind`
pub upd_tells : {A : Type 0} (f : ℕ → A) (c : ℕ) (v : A) (d : ℕ) → ((d ≡ c) × (upd f c v d ≡ v)) ⊎ ((d ≢ c) × (upd f c v d ≡ f d))
upd_tells f c v d = upd_all (λ d x. ((d ≡ c) × (x ≡ v)) ⊎ ((d ≢ c) × (x ≡ f d))) f c v (inl (refl, refl)) (λ d n. inr (n, refl)) d

pub in_cons : (P : Msg → Type 0) (n : Msg) (net : List Msg) → P n → ((m : Msg) → In m net → P m) → (m : Msg) → In m (n ∷ net) → P m
in_cons P n net p q m (inl e) = subst P (sym e) p
in_cons P n net p q m (inr i) = q m i

-- two functions that change at one place
pub upd_both : {A B : Type 0} (P : ℕ → A → B → Type 0) (f : ℕ → A) (g : ℕ → B) (c : ℕ) (v : A) (w : B) → P c v w → ((d : ℕ) → d ≢ c → P d (f d) (g d)) → (d : ℕ) → P d (upd f c v d) (upd g c w d)
upd_both P f g c v w p q d =
    upd_all (λ e x. P e x (upd g c w e)) f c v (rw upd-same p) (λ e n. rw (upd-other g c w e n) (q e n)) d

pub upd_up : (f : ℕ → ℕ) (c v : ℕ) → f c ≤ v → (d : ℕ) → f d ≤ upd f c v d
upd_up f c v h d = upd_all (λ d x. f d ≤ x) f c v h (λ d n. omega arith) d

pub swept : (P : Row → Type 0) (x y : Row) → ((x ≡ y) ⊎ ((y.mode ≡ 0) × (x ≡ no_row))) → P y → (y.mode ≡ 0 → P no_row) → P x
swept P x y (inl e) p q = subst P (sym e) p
swept P x y (inr e) p q = subst P (sym e.1) (q e.0)
