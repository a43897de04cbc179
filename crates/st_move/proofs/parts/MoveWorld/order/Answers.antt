use Rattle.st_lemmas.proofs.Words
use Words.{◌≡◌, ◌∙◌, Some, slice_get}
use Words.Numbers.{get_there}
use Rattle.st_move.specs.declared.site.MoveSite.{MoveSite}
use Rattle.st_move.proofs.Networks.{each_ok, order_nowhere, order_some}
use Rattle.st_move.proofs.parts.MoveWorld.order.Goals as goal

pub returns-in-None : goal.returns-in-None
returns-in-None c = order_nowhere c.args.self.now c.args.s c.args.c c.args.to c.in-None.ensures

pub returns-in-Some : goal.returns-in-Some
returns-in-Some c =
    let x : (v : MoveSite) × (slice_get c.args.self.now.sites c.in-Some.at ≡ Some v) = get_there c.args.self.now.sites c.in-Some.at c.in-Some.ensures.1 in
    each_ok _ _ c.order_at.result (λ a d. order_some c.args.self.now c.args.s c.in-Some.at c.args.c c.args.to x.0 c.in-Some.ensures.0 x.1 ∙ d c.args.s x.0 c.in-Some.ensures.0 x.1) c.order_at.ensures
