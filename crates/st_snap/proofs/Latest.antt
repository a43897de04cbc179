-- The last version of a page before a take.
use Rattle.st_lemmas.proofs.Words
use Words.{◌≡◌, ℕ, zero, suc, ◌<◌, Bool, true, false, Some, None, arith, refl, sym, ap, ◌∙◌, ⊎_elim, if◌then◌else◌, cases_Bool, cases_lt}
use Rattle.std.proofs.lemmas.Bool.{cases_eq}
use Rattle.std.proofs.lemmas.Option.{same_Some, none-some}
use Rattle.st_snap.specs.declared.versions.VersionKey.{VersionKey}
use Rattle.st_snap.specs.Versions.{key_of, latest}

-- it began before the take, and no later one did
pub record IsLatest (has : VersionKey → Bool) (f p n t : ℕ) : Type 0 where
  pub below : t < n
  pub there : has (key_of f p t) ≡ true
  pub none : (u : ℕ) → t < u → u < n → has (key_of f p u) ≡ false

pub latest_some : (has : VersionKey → Bool) (f p n t : ℕ) → latest has f p n ≡ Some t → IsLatest has f p n t
latest_some has f p zero t e = cc
latest_some has f p (suc n) t e = ⊎_elim
    (λ q. let s : n ≡ t = same_Some n t (sym (ap (λ b. if b then Some n else latest has f p n) q) ∙ e) in
    record { below = omega (arith, s); there = ap (λ m. has (key_of f p m)) (sym s) ∙ q; none = λ u l m. absurd (omega (arith, s, l, m)) })
    (λ q. let r = latest_some has f p n t (sym (ap (λ b. if b then Some n else latest has f p n) q) ∙ e) in
    record {
      below = omega (arith, r.below);
      there = r.there;
      none = λ u l m. ⊎_elim (λ k. r.none u l k) (λ k. let z : u ≡ n = omega (arith, k, m) in ap (λ m. has (key_of f p m)) z ∙ q) (cases_lt u n);
    })
    (cases_Bool (has (key_of f p n)))

pub latest_none : (has : VersionKey → Bool) (f p n : ℕ) → latest has f p n ≡ None → (u : ℕ) → u < n → has (key_of f p u) ≡ false
latest_none has f p zero e u l = let no : ⊥ = omega (arith, l) in absurd no
latest_none has f p (suc n) e u l = ⊎_elim
    (λ q. absurd (none-some n (sym (sym (ap (λ b. if b then Some n else latest has f p n) q) ∙ e))))
    (λ q. ⊎_elim
    (λ k. latest_none has f p n (sym (ap (λ b. if b then Some n else latest has f p n) q) ∙ e) u k)
    (λ k. let z : u ≡ n = omega (arith, k, l) in ap (λ m. has (key_of f p m)) z ∙ q)
    (cases_lt u n))
    (cases_Bool (has (key_of f p n)))

pub latest_is : (has : VersionKey → Bool) (f p n t : ℕ) → IsLatest has f p n t → latest has f p n ≡ Some t
latest_is has f p zero t r = let no : ⊥ = omega (arith, r.below) in absurd no
latest_is has f p (suc n) t r = ⊎_elim
    (λ (z : n ≡ t).
    let q : has (key_of f p n) ≡ true = ap (λ m. has (key_of f p m)) z ∙ r.there in
    ap (λ b. if b then Some n else latest has f p n) q ∙ ap Some z)
    (λ z.
    let l : t < n = omega (arith, r.below, z) in
    let q : has (key_of f p n) ≡ false = r.none n l (omega arith) in
    ap (λ b. if b then Some n else latest has f p n) q ∙ latest_is has f p n t (record { below = l; there = r.there; none = λ u a b. r.none u a (omega (arith, b)) }))
    (cases_eq n t)

pub none_is : (has : VersionKey → Bool) (f p n : ℕ) → ((u : ℕ) → u < n → has (key_of f p u) ≡ false) → latest has f p n ≡ None
none_is has f p zero h = refl
none_is has f p (suc n) h = ap (λ b. if b then Some n else latest has f p n) (h n (omega arith)) ∙ none_is has f p n (λ u l. h u (omega (arith, l)))

pub latest_same : (has has2 : VersionKey → Bool) (f p n : ℕ) → ((u : ℕ) → u < n → has (key_of f p u) ≡ has2 (key_of f p u)) → latest has f p n ≡ latest has2 f p n
latest_same has has2 f p zero h = refl
latest_same has has2 f p (suc n) h =
    let here = h n (omega arith) in
    let rest = latest_same has has2 f p n (λ u l. h u (omega (arith, l))) in
    (λ i. if here i then Some n else rest i)
