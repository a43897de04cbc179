use Rattle.std.proofs.Common.{◌∙◌, rules, sym}
use Rattle.st_clock.proofs.Numbers.{low_after, wide_after}
use Rattle.st_clock.proofs.drift.Drift.advance.Goals as goal

pub raise_rows-requires-clause-low : goal.raise_rows-requires-clause-low
raise_rows-requires-clause-low c = rw (← c.deref.ensures.value) (low_after _ _ _ c.requires.rate c.requires.grain (sym c.first_excess.ensures ∙ c.in-None.is))

pub invariant_of-self : goal.invariant_of-self
invariant_of-self c = rw c.raise_rows.ensures.exact (wide_after _ _ _ _ (search rules) c.self.invariant)
