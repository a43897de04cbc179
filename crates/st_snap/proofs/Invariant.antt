-- What always holds of a volume stays.
use Rattle.st_lemmas.proofs.Words
use Words.{◌≡◌, ℕ, ◌+◌, ◌<◌, ◌≤◌, ◌^◌, Bool, true, false, List, [], ◌∷◌, ◌++◌, filter, length, arith, ap, sym, ◌∙◌, if◌then◌else◌, is_some}
use Rattle.st_snap.specs.declared.versions.VersionKey.{VersionKey}
use Rattle.st_snap.specs.Versions.{Versions, has_version, version}
use Rattle.st_snap.specs.Volumes.{Volume, IsHeld, IsTaken}
use Rattle.st_snap.proofs.Lists.{all_filter, all_more, all_push, rising_filter, rising_push}

one_longer : (xs : List ℕ) (y : ℕ) → length (xs ++ y ∷ []) ≡ length xs + 1
one_longer [] y = omega arith
one_longer (x ∷ xs) y = let n = one_longer xs y in omega (arith, n)

-- an image is taken
pub held_taken : (h : Volume) → IsHeld h → length h.kept < 64 → h.next + 1 < 2 ^ 32 → IsHeld (record { versions = h.versions; kept = h.kept ++ h.next ∷ []; next = h.next + 1 })
held_taken h k few fits = record {
  rising = rising_push h.kept h.next k.rising (all_more (IsTaken h.next) (λ i. i < h.next) (λ i t. t.below) h.kept k.taken);
  taken = all_push (IsTaken (h.next + 1)) h.kept h.next (all_more (IsTaken h.next) (IsTaken (h.next + 1)) (λ i t. record { some = t.some; below = let l = t.below in omega (arith, l) }) h.kept k.taken) (record { some = k.some; below = omega arith });
  few = let n = one_longer h.kept h.next in omega (arith, n, few);
  some = omega arith;
  fits = fits;
  begun = λ q t. let l = k.begun q t in omega (arith, l);
}

filter_short : (q : ℕ → Bool) (xs : List ℕ) → length (filter q xs) ≤ length xs
filter_short q [] = omega arith
filter_short q (x ∷ xs) = choose (q x) (filter_short q xs)
  where
    choose : (b : Bool) → length (filter q xs) ≤ length xs → length (if b then x ∷ filter q xs else filter q xs) ≤ length (x ∷ xs)
    choose true r = omega (arith, r)
    choose false r = omega (arith, r)

-- images are forgotten, and versions are given up
pub held_left : (h : Volume) → IsHeld h → (q : ℕ → Bool) (v : Versions) → ((k : VersionKey) → has_version v k ≡ true → version v k ≡ version h.versions k) → IsHeld (record { versions = v; kept = filter q h.kept; next = h.next })
held_left h k q v left = record {
  rising = rising_filter q h.kept k.rising;
  taken = all_filter (IsTaken h.next) q h.kept k.taken;
  few = let n = filter_short q h.kept in omega (arith, n, k.few);
  some = k.some;
  fits = k.fits;
  begun = λ x t. k.begun x (ap is_some (sym (left x t)) ∙ t);
}
