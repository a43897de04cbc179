use Rattle.std.proofs.Common.{◌≡◌, ◌++◌, ◌∷◌, [], ◌∙◌, sym, ap, subst}
use Rattle.st_tables.specs.Orders.{IsOrder, in_order}
use Rattle.st_tables.proofs.InOrder.{order_push, values_push}
use Rattle.st_tables.proofs.arrival_order.Ordered.push.Goals as goal

pub invariant_of-self-2 : goal.invariant_of-self-2
invariant_of-self-2 g c =
    let entries : c.push.new.self.items ≡ c.self.inside.order.items ++ c.insert_reserved-key.result ∷ [] =
    (rw c.unwrap.ensures at c.push.ensures.items) ∙ ap (λ l. l ++ c.insert_reserved-key.result ∷ []) c.in_ok-reserve-2.ensures.items in
    let before : IsOrder c.reserve.new.self c.self.inside.order.items =
    subst (λ s. IsOrder s c.self.inside.order.items) (sym c.in_ok-reserve.ensures.rest_kept) (record { filled = c.self.invariant.filled; distinct = c.self.invariant.distinct }) in
    rw entries (order_push c.reserve.new.self c.insert_reserved-key.new.self c.insert_reserved-key.result c.args.value c.insert_reserved-key.ensures.updates c.insert_reserved-key.ensures.was_vacant c.self.inside.order.items before)

pub returns-clause-ok : goal.returns-clause-ok
returns-clause-ok g c =
    let entries : c.push.new.self.items ≡ c.self.inside.order.items ++ c.insert_reserved-key.result ∷ [] =
    (rw c.unwrap.ensures at c.push.ensures.items) ∙ ap (λ l. l ++ c.insert_reserved-key.result ∷ []) c.in_ok-reserve-2.ensures.items in
    let before : IsOrder c.reserve.new.self c.self.inside.order.items =
    subst (λ s. IsOrder s c.self.inside.order.items) (sym c.in_ok-reserve.ensures.rest_kept) (record { filled = c.self.invariant.filled; distinct = c.self.invariant.distinct }) in
    rw (← c.self.view_is, entries)
    (values_push c.reserve.new.self c.insert_reserved-key.new.self c.insert_reserved-key.result c.args.value c.insert_reserved-key.ensures.updates c.insert_reserved-key.ensures.was_vacant c.self.inside.order.items before
    ∙ ap (λ s. in_order s c.self.inside.order.items ++ c.args.value ∷ []) c.in_ok-reserve.ensures.rest_kept)
