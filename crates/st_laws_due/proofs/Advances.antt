-- What a step adds and takes away: it leaves what it is given as it is, or adds more than it takes away, by a test.
use Rattle.st_lemmas.proofs.Words
use Words.{◌≡◌, ℕ, ◌+◌, ◌≤◌, ◌<◌, Bool, true, false, ◌&&◌, ◌||◌, not, List, [], ◌∷◌, refl, sym, subst, arith, cond, list_any}
use Words.Tests.{any_same}
use Rattle.st_laws_due.proofs.Passes.{fold_steps}

-- more was added than taken away
abbrev pub IsAhead : {P : Type 0} → (P → ℕ) → (P → ℕ) → P → P → Type 0
IsAhead up down p q = up p + down q < up q + down p

-- if the test fails nothing changes, and if it passes more is added than taken away
pub record DoesIf {P : Type 0} (up down : P → ℕ) (passes : Bool) (old new : P) : Type 0 where
  pub same : passes ≡ false → new ≡ old
  pub more : passes ≡ true → up old + down new < up new + down old

module _ {P : Type 0} (up down : P → ℕ) where
  pub not_behind : (b : Bool) (old new : P) → DoesIf up down b old new → up old + down new ≤ up new + down old
  not_behind true old new h = let m = h.more refl in omega (arith, m)
  not_behind false old new h = subst (λ p. up old + down p ≤ up p + down old) (sym (h.same refl)) (omega arith)

  -- one step and another, whose test is that of what the first was given
  pub and_then : (a b : Bool) (x y z : P) → DoesIf up down a x y → ((y ≡ x) → DoesIf up down b x z) → up y + down z ≤ up z + down y →
      DoesIf up down (a || b) x z
  and_then true b x y z f g l = record {
    same = λ e. cc;
    more = λ e. let m = f.more refl in omega (arith, m, l);
  }
  and_then false b x y z f g l = g (f.same refl)

  pub composed : (f g : P → P) (a b : P → Bool) → ((p : P) → DoesIf up down (a p) p (f p)) → ((p : P) → DoesIf up down (b p) p (g p)) → (p : P) →
      DoesIf up down (a p || b p) p (g (f p))
  composed f g a b h k p =
      and_then (a p) (b p) p (f p) (g (f p)) (h p) (λ e. subst (λ x. DoesIf up down (b x) x (g (f p))) e (k (f p)))
      (not_behind (b (f p)) (f p) (g (f p)) (k (f p)))

  -- a step that is done if a test passes
  pub if_does : (b : Bool) (old new : P) → up old + down new < up new + down old → DoesIf up down b old (cond b new old)
  if_does true old new l = record { same = λ e. cc; more = λ e. l }
  if_does false old new l = record { same = λ e. refl; more = λ e. cc }

  pub unless_does : (b : Bool) (old new : P) → up old + down new < up new + down old → DoesIf up down (not b) old (cond b old new)
  unless_does true old new l = record { same = λ e. refl; more = λ e. cc }
  unless_does false old new l = record { same = λ e. cc; more = λ e. l }

  pub and_does : (a b : Bool) (old new : P) → DoesIf up down b old new → DoesIf up down (a && b) old (cond a new old)
  and_does true b old new h = h
  and_does false b old new h = record { same = λ e. refl; more = λ e. cc }

  pub either_does : (c a b : Bool) (old p q : P) → DoesIf up down a old p → DoesIf up down b old q → DoesIf up down (cond c a b) old (cond c p q)
  either_does true a b old p q h k = h
  either_does false a b old p q h k = k

  pub always : (old new : P) → up old + down new < up new + down old → DoesIf up down true old new
  always old new l = record { same = λ e. cc; more = λ e. l }

  pub never : (old : P) → DoesIf up down false old old
  never old = record { same = λ e. refl; more = λ e. cc }

-- A pass over a list does what its steps without their tests do, or more than that.
module _ {A P : Type 0} (up down : P → ℕ) (step base : A → P → P) (test : A → P → Bool)
    (each : (x : A) (p : P) → DoesIf up down (test x p) (base x p) (step x p))
    (level : (x : A) (p q : P) → up p + down q < up q + down p → up (base x p) + down (base x q) < up (base x q) + down (base x p))
    (still : (x y : A) (p : P) → test y (base x p) ≡ test y p) where
  ahead : (xs : List A) (p q : P) → up p + down q < up q + down p →
      up (fold_steps base xs p) + down (fold_steps step xs q) < up (fold_steps step xs q) + down (fold_steps base xs p)
  ahead [] p q l = l
  ahead (x ∷ xs) p q l =
      let a = level x p q l in
      let b = not_behind up down (test x q) (base x q) (step x q) (each x q) in
      ahead xs (base x p) (step x q) (omega (arith, a, b))

  pub folds_by : (xs : List A) (p : P) → DoesIf up down (list_any (λ x. test x p) xs) (fold_steps base xs p) (fold_steps step xs p)
  folds_by [] p = never up down p
  folds_by (x ∷ xs) p = by (test x p) (each x p)
      (subst (λ b. DoesIf up down b (fold_steps base xs (base x p)) (fold_steps step xs (base x p)))
      (any_same (λ y. test y (base x p)) (λ y. test y p) xs (λ y. still x y p)) (folds_by xs (base x p)))
    where
      by : (b : Bool) → DoesIf up down b (base x p) (step x p) →
          DoesIf up down (list_any (λ y. test y p) xs) (fold_steps base xs (base x p)) (fold_steps step xs (base x p)) →
          DoesIf up down (b || list_any (λ y. test y p) xs) (fold_steps base xs (base x p)) (fold_steps step xs (step x p))
      by true h rest = record { same = λ e. cc; more = λ e. ahead xs (base x p) (step x p) (h.more refl) }
      by false h rest =
          subst (λ q. DoesIf up down (list_any (λ y. test y p) xs) (fold_steps base xs (base x p)) (fold_steps step xs q)) (sym (h.same refl)) rest

-- A pass whose steps without their tests do nothing.
abbrev pub nothing : {A P : Type 0} → A → P → P
nothing x p = p

nothing_done : {A P : Type 0} (xs : List A) (p : P) → fold_steps nothing xs p ≡ p
nothing_done [] p = refl
nothing_done (x ∷ xs) p = nothing_done xs p

pub pass_does : {A P : Type 0} (up down : P → ℕ) (step : A → P → P) (test : A → P → Bool) → ((x : A) (p : P) → DoesIf up down (test x p) p (step x p))
    → (xs : List A) (p : P) → DoesIf up down (list_any (λ x. test x p) xs) p (fold_steps step xs p)
pass_does up down step test each xs p =
    subst (λ q. DoesIf up down (list_any (λ x. test x p) xs) q (fold_steps step xs p)) (nothing_done xs p)
    (folds_by up down step nothing test each (λ x p q l. l) (λ x y p. refl) xs p)
