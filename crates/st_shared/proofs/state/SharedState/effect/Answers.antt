use Rattle.st_shared.proofs.Refusing.{effect_refused}
use Rattle.st_shared.proofs.state.SharedState.effect.Goals as goal

pub returns-in-Err : goal.returns-in-Err
returns-in-Err c = effect_refused c.args.self.now c.args.n c.in-Err.refusal c.check_effect.result c.in-Err.is c.check_effect.ensures
