use Rattle.st_move.specs.Network.{Refuses}
use Rattle.st_move.proofs.Networks.{each_ok, lock_err, lock_ok}
use Rattle.st_move.proofs.site.MoveSite.lock.Goals as goal

pub returns-in_ok-acquire-in-Ok : goal.returns-in_ok-acquire-in-Ok
returns-in_ok-acquire-in-Ok c = lock_ok c.args.self.now c.acquire.new.locks c.args.c c.in-Ok.ensures.ok c.in_ok-acquire-in-Ok.ensures

pub returns-in-Err : goal.returns-in-Err
returns-in-Err c = each_ok (Refuses c.in-Err.refusal) _ c.refused.result (λ a r. lock_err c.args.self.now c.args.c c.in-Err.refusal a c.in-Err.ensures.err r) c.refused.ensures
