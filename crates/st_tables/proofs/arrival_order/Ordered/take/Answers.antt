use Rattle.std.proofs.Common.{◌<◌, ◌∙◌, length, sym, ap, subst, arith}
use Rattle.std.specs.Prelude.{None, is_some}
use Rattle.slab.specs.Slab.{Updates, get}
use Rattle.st_tables.proofs.InOrder.{order_take, values_take, value_at, same_length, some_at}
use Rattle.st_tables.proofs.arrival_order.Ordered.take.Goals as goal

pub remove-key-requires : goal.remove-key-requires
remove-key-requires g c =
    omega
    (arith, (rw (← c.self.view_is) at c.requires), same_length c.self.inside.slab c.self.inside.order.items c.self.invariant.filled, c.self.inside.order.ok.0)

pub remove-requires : goal.remove-requires
remove-requires g c =
    let l : c.args.place < length c.self.inside.order.items =
    omega (arith, (rw (← c.self.view_is) at c.requires), same_length c.self.inside.slab c.self.inside.order.items c.self.invariant.filled) in
    ap (λ k. is_some (get c.self.inside.slab k)) c.remove-key.ensures.value ∙
    some_at c.self.inside.slab c.self.inside.order.items c.args.place c.remove-key.result c.self.invariant.filled l

pub invariant_of-self : goal.invariant_of-self
invariant_of-self g c =
    let l : c.args.place < length c.self.inside.order.items =
    omega (arith, (rw (← c.self.view_is) at c.requires), same_length c.self.inside.slab c.self.inside.order.items c.self.invariant.filled) in
    rw c.remove-key.ensures.items
    (order_take c.self.inside.slab c.remove.new.self c.self.inside.order.items c.args.place c.remove-key.result l
    (subst (λ k. Updates c.self.inside.slab c.remove.new.self k None) c.remove-key.ensures.value c.remove.ensures.updates) c.self.invariant)

pub returns-clause-left : goal.returns-clause-left
returns-clause-left g c =
    let l : c.args.place < length c.self.inside.order.items =
    omega (arith, (rw (← c.self.view_is) at c.requires), same_length c.self.inside.slab c.self.inside.order.items c.self.invariant.filled) in
    rw (← c.self.view_is, c.remove-key.ensures.items)
    (values_take c.self.inside.slab c.remove.new.self c.self.inside.order.items c.args.place c.remove-key.result l
    (subst (λ k. Updates c.self.inside.slab c.remove.new.self k None) c.remove-key.ensures.value c.remove.ensures.updates) c.self.invariant)

pub returns-clause-taken : goal.returns-clause-taken
returns-clause-taken g c =
    let l : c.args.place < length c.self.inside.order.items =
    omega (arith, (rw (← c.self.view_is) at c.requires), same_length c.self.inside.slab c.self.inside.order.items c.self.invariant.filled) in
    rw (← c.self.view_is)
    (sym c.remove.ensures.value ∙ ap (get c.self.inside.slab) c.remove-key.ensures.value ∙
    value_at c.self.inside.slab c.self.inside.order.items c.args.place c.remove-key.result c.self.invariant.filled l)
