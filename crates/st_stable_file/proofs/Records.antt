-- A record of a change that applies, and one of no such change.
use Rattle.std.proofs.Common.{◌≡◌, ℕ, ◌+◌, ◌^◌, ◌<◌, ◌≤◌, true, List, ◌++◌, length, Option, Some, None, refl, sym, ap, ◌∙◌, subst, arith}
use Rattle.std.specs.Prelude.{IfErr, IfOk, Result, Ok, Err}
use Rattle.st_journal.specs.Changes.{Spells, bytes_of, fits}
use Rattle.st_journal.specs.declared.change.Change.{Change}
use Rattle.st_journal_bytes.specs.Moments.{dated_bytes}
use Rattle.st_rules.specs.Server.{Stable}
use Rattle.st_stable_file.specs.Stables.{changed}
use Rattle.st_stable_file.specs.Opened.{IsChange, IsNoChange, IsRefusedAt}
use Rattle.st_stable_file.specs.declared.fault.StableFault.{StableFault}
use Rattle.st_stable_file.specs.declared.fault.StableFault.TheVariants as faults
use Rattle.st_stable_file.proofs.Once.{change_once, dated_once, long_enough}

none_is : {A : Type 0} (x : A) → None ≡ Some x → ⊥
none_is x e = cc

module _ (t : Stable) (last at : ℕ) (bytes : List ℕ) where
  pub no_short : length bytes < 8 → IsNoChange t last bytes at (faults.Damaged at)
  no_short l = (refl, λ u m i. long_enough m (bytes_of i.change) (subst (λ (b : List ℕ). length b < 8) i.parts l))

  module _ (moment : ℕ) (rest : List ℕ) (parts : bytes ≡ dated_bytes moment rest) (small : moment < 2 ^ 64) where
    pub no_early : moment < last → IsNoChange t last bytes at (faults.Damaged at)
    no_early l = (refl, λ u m i. let one = dated_once moment m rest (bytes_of i.change) small i.small (sym parts ∙ i.parts) in omega (arith, l, i.later, one.0))

    pub no_spelling : ((x : Change) → Spells rest x → None ≡ Some x) → IsNoChange t last bytes at (faults.Damaged at)
    no_spelling none = (
      refl,
      λ u m i. let one = dated_once moment m rest (bytes_of i.change) small i.small (sym parts ∙ i.parts) in
          none_is i.change (none i.change (record { text = one.1; ranges = i.ranges })),
    )

    -- the change that is spelled is one
    spelled_once : (x : Change) → Spells rest x → (u : Stable) (m : ℕ) → (i : IsChange t last bytes u m) → x ≡ i.change
    spelled_once x s u m i =
        let one = dated_once moment m rest (bytes_of i.change) small i.small (sym parts ∙ i.parts) in
        change_once x i.change s.ranges i.ranges (sym s.text ∙ one.1)

    pub no_applied : (x : Change) (f : StableFault) → Spells rest x → IsRefusedAt t x at f → IsNoChange t last bytes at f
    no_applied x (faults.Damaged place) s h = (h.0, λ u m i. none_is u (sym h.1 ∙ (ap (λ y. changed t y) (spelled_once x s u m i) ∙ i.applied)))
    no_applied x (faults.Snapshot g) s h = absurd h
    no_applied x faults.Memory s h = tt

    pub is_change : (x : Change) (u : Stable) → Spells rest x → last ≤ moment → changed t x ≡ Some u → IsChange t last bytes u moment
    is_change x u s l a = record {
      change = x;
      parts = parts ∙ ap (λ (b : List ℕ). dated_bytes moment b) s.text;
      ranges = s.ranges;
      small = small;
      later = l;
      applied = a;
    }
