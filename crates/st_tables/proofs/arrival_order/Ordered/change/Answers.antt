use Rattle.std.proofs.Common.{◌<◌, ◌≤◌, ◌∙◌, length, ap, subst, arith}
use Rattle.std.specs.Prelude.{is_some}
use Rattle.std.specs.Option.{option_map}
use Rattle.slab.specs.Slab.{Updates, get}
use Rattle.st_tables.proofs.InOrder.{changed_past, order_change, same_length, some_at, values_change}
use Rattle.st_tables.proofs.arrival_order.Ordered.change.Goals as goal

pub change_value-requires : goal.change_value-requires
change_value-requires g c =
    let l : c.args.place < length c.self.inside.order.items = omega (arith, c.if-place-len.true, c.len.ensures, c.self.inside.order.ok.0) in
    ap (λ k. is_some (get c.self.inside.slab k)) c.index-key.ensures ∙
    some_at c.self.inside.slab c.self.inside.order.items c.args.place c.index-key.result.now c.self.invariant.filled l

pub invariant_of-self : goal.invariant_of-self
invariant_of-self g c =
    let f = g.C.Change.changed c.args.change.now in
    let l : c.args.place < length c.self.inside.order.items = omega (arith, c.if-place-len.true, c.len.ensures, c.self.inside.order.ok.0) in
    order_change c.self.inside.slab c.change_value.new.slab f c.index-key.result.now c.self.inside.order.items c.args.place l c.self.invariant
    (subst (λ k. Updates c.self.inside.slab c.change_value.new.slab k (option_map f (get c.self.inside.slab k))) c.index-key.ensures c.change_value.ensures)

pub returns-then-place-len : goal.returns-then-place-len
returns-then-place-len g c =
    let f = g.C.Change.changed c.args.change.now in
    let l : c.args.place < length c.self.inside.order.items = omega (arith, c.if-place-len.true, c.len.ensures, c.self.inside.order.ok.0) in
    rw (← c.self.view_is)
    (values_change c.self.inside.slab c.change_value.new.slab f c.index-key.result.now c.self.inside.order.items c.args.place l c.self.invariant
    (subst (λ k. Updates c.self.inside.slab c.change_value.new.slab k (option_map f (get c.self.inside.slab k))) c.index-key.ensures c.change_value.ensures))

pub returns-else-place-len : goal.returns-else-place-len
returns-else-place-len g c =
    let f = g.C.Change.changed c.args.change.now in
    let l : length c.self.inside.order.items ≤ c.args.place = omega (arith, c.if-place-len.false, c.len.ensures, c.self.inside.order.ok.0) in
    changed_past f c.args.self.now c.args.place
    (subst (λ xs. length xs ≤ c.args.place) c.self.view_is
    (omega (arith, l, same_length c.self.inside.slab c.self.inside.order.items c.self.invariant.filled)))
