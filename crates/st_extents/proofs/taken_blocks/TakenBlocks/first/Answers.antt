use Rattle.std.proofs.Common.{◌≡◌, ◌<◌, true, false, ap, arith, ◌∙◌}
use Rattle.std.specs.Prelude.{not}
use Rattle.st_extents.specs.FreeRuns.{first_of, is_free}
use Rattle.st_extents.proofs.FreeRuns.{first_before, first_there, first_within, taken_long, told_place}
use Rattle.st_extents.proofs.taken_blocks.TakenBlocks.first.Goals as goal

pub returns-clause-before : goal.returns-clause-before
returns-clause-before c = λ j l.
    let rs = c.self.inside.runs.items in
    let n = c.self.inside.places in
    let e : c.first_free.result ≡ first_of n rs = c.first_free.ensures in
    rw (← c.self.view_is)
    (told_place rs n j false (omega (arith, l, e, first_within n rs c.self.invariant.below)) ∙ ap not (first_before n rs j c.self.invariant.below (omega (arith, l, e))))

pub returns-clause-within : goal.returns-clause-within
returns-clause-within c =
    let rs = c.self.inside.runs.items in
    let n = c.self.inside.places in
    let e : c.first_free.result ≡ first_of n rs = c.first_free.ensures in
    rw (← c.self.view_is) (omega (arith, e, first_within n rs c.self.invariant.below, taken_long rs 0 n))

pub returns-clause-open : goal.returns-clause-open
returns-clause-open c = λ l.
    let rs = c.self.inside.runs.items in
    let n = c.self.inside.places in
    let e : c.first_free.result ≡ first_of n rs = c.first_free.ensures in
    let within : c.first_free.result < n = omega (arith, (rw (← c.self.view_is) at l), taken_long rs 0 n) in
    rw (← c.self.view_is)
    (told_place rs n c.first_free.result true within ∙ ap (λ p. not (is_free rs p)) e ∙ ap not (first_there n rs c.self.invariant.below (omega (arith, within, e))))
