use Rattle.st_move.specs.Network.{Refuses}
use Rattle.st_move.proofs.Networks.{each_ok, order_err, order_ok}
use Rattle.st_move.proofs.site.MoveSite.order.Goals as goal

pub returns-in-Ok : goal.returns-in-Ok
returns-in-Ok c = order_ok c.args.self.now c.order.new.self c.args.c c.args.to c.in-Ok.field-0 c.in-Ok.ensures

pub returns-in-Err : goal.returns-in-Err
returns-in-Err c =
    each_ok (Refuses c.in-Err.refusal) _ c.refused.result (λ a r. order_err c.args.self.now c.order.new.self c.args.c c.args.to c.in-Err.refusal a c.in-Err.ensures r) c.refused.ensures
