-- What the first of some steps gives.
use Rattle.std.proofs.Common.{◌≡◌, ℕ, Bool, true, false, cond, leb, List, [], ◌∷◌, Option, Some, None, refl, sym, ap, ◌∙◌}
use Rattle.st_held_steps.specs.Held.{first_ready, is_ready, others}
use Rattle.st_held_steps.specs.declared.held.Marked.{Marked}

pub gives_none : {T : Type 0} (kept : ℕ) (ss : List (Marked T)) → is_ready kept ss ≡ false → first_ready kept ss ≡ None
gives_none kept [] e = refl
gives_none kept (m ∷ ms) e = ap (λ b. cond b (Some m.what) None) e

pub leaves_all : {T : Type 0} (kept : ℕ) (ss : List (Marked T)) → is_ready kept ss ≡ false → others kept ss ≡ ss
leaves_all kept [] e = refl
leaves_all kept (m ∷ ms) e = ap (λ b. cond b ms (m ∷ ms)) e

pub gives_first : {T : Type 0} (kept : ℕ) (ss ms : List (Marked T)) (m : Marked T) → ss ≡ m ∷ ms → is_ready kept ss ≡ true → first_ready kept ss ≡ Some m.what
gives_first {T = T} kept ss ms m e r =
    ap (λ (xs : List (Marked T)). first_ready kept xs) e ∙ ap (λ b. cond b (Some m.what) None) (sym (ap (λ (xs : List (Marked T)). is_ready kept xs) e) ∙ r)

pub leaves_others : {T : Type 0} (kept : ℕ) (ss ms : List (Marked T)) (m : Marked T) → ss ≡ m ∷ ms → is_ready kept ss ≡ true → others kept ss ≡ ms
leaves_others {T = T} kept ss ms m e r =
    ap (λ (xs : List (Marked T)). others kept xs) e ∙ ap (λ b. cond b ms (m ∷ ms)) (sym (ap (λ (xs : List (Marked T)). is_ready kept xs) e) ∙ r)
