use Rattle.std.proofs.Common.{ap, ◌∙◌}
use Rattle.std.specs.List.{flat_map}
use Rattle.st_extents.specs.Runs.{pages_of}
use Rattle.st_extents.proofs.RunsInOrder.{born_in_order, low_in_order, pages_in_order, words_in_order}
use Rattle.st_extents.proofs.runs.Runs.rows.Goals as goal

pub rows_of-requires : goal.rows_of-requires
rows_of-requires c = rw c.as_slice.ensures.value (words_in_order c.self.inside.map.entries c.self.invariant.ordered c.self.inside.births c.self.invariant.kept c.self.invariant.few c.in_ok-order.order.items c.in_ok-order.ensures.same)

pub returns-clause-rows : goal.returns-clause-rows
returns-clause-rows c =
    rw (← c.self.view_is)
    (c.in_ok-rows.ensures ∙ ap (flat_map pages_of) c.as_slice.ensures.value
    ∙ pages_in_order c.self.inside.map.entries c.self.invariant.ordered c.self.inside.births c.self.invariant.kept c.in_ok-order.order.items c.in_ok-order.ensures.same c.in_ok-order.ensures.rising)

pub returns-clause-rise : goal.returns-clause-rise
returns-clause-rise c =
    rw (← c.self.view_is)
    (born_in_order c.self.inside.map.entries c.self.invariant.ordered c.self.inside.births c.self.invariant.kept c.in_ok-order.order.items c.in_ok-order.ensures.same c.in_ok-order.ensures.rising)

pub returns-clause-few : goal.returns-clause-few
returns-clause-few c = rw (← c.self.view_is) c.self.invariant.few

pub returns-clause-low : goal.returns-clause-low
returns-clause-low c =
    rw (← c.self.view_is)
    (low_in_order c.self.inside.map.entries c.self.invariant.ordered c.self.inside.births c.self.invariant.kept c.in_ok-order.order.items c.in_ok-order.ensures.same c.in_ok-order.ensures.rising)
