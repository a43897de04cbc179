use Rattle.std.proofs.Common.{◌≡◌, sym, subst}
use Rattle.std.specs.Prelude.{IfOk}
use Rattle.st_client_passes.specs.PassConditions.{put_back}
use Rattle.st_client_passes.proofs.Sessions.{operate_with}
use Rattle.st_client_passes.proofs.operations.operate_by.Goals as goal

pub returns-clause-stays : goal.returns-clause-stays
returns-clause-stays c =
    subst (λ u. IfOk c.operate_under.result (λ stays. put_back c.args.o.now stays c.operate_under.new.t ≡ u))
    (sym (operate_with c.args.all.now c.args.t.now c.args.now c.args.o.now c.operate_under.ensures.held)) c.operate_under.ensures.stays
