use Rattle.std.proofs.Common.{◌≡◌, ◌≤◌, ◌<◌, ◌∙◌, ap, subst, length, arith}
use Rattle.std.specs.Prelude.{None, slice_get}
use Rattle.std.specs.Option.{option_copied}
use Rattle.slab.specs.Slab.{get}
use Rattle.st_tables.proofs.InOrder.{none_at, value_at}
use Rattle.st_tables.proofs.arrival_order.Ordered.get.Goals as goal

pub returns-then-place-len : goal.returns-then-place-len
returns-then-place-len g c =
    let l : c.args.place < length c.self.inside.order.items = omega (arith, c.if-place-len.true, c.len.ensures, c.self.inside.order.ok.0) in
    record {
      found =
          subst (λ xs. option_copied c.get.result ≡ slice_get xs c.args.place) c.self.view_is
          (c.get.ensures ∙ ap (get c.self.inside.slab) c.index.ensures ∙ value_at c.self.inside.slab c.self.inside.order.items c.args.place c.index.result.now c.self.invariant.filled l);
    }

pub returns-else-place-len : goal.returns-else-place-len
returns-else-place-len g c =
    let l : length c.self.inside.order.items ≤ c.args.place = omega (arith, c.if-place-len.false, c.len.ensures, c.self.inside.order.ok.0) in
    record {
      found = subst (λ xs. None ≡ slice_get xs c.args.place) c.self.view_is (none_at c.self.inside.slab c.self.inside.order.items c.args.place c.self.invariant.filled l);
    }
