use Rattle.std.proofs.Common.{◌∙◌, ap, is_some}
use Rattle.st_client_moments.proofs.Given.{given_demanded, given_undemanded}
use Rattle.st_client_moments.proofs.reductions.is_given.Goals as goal

pub returns-then-is_demanded : goal.returns-then-is_demanded
returns-then-is_demanded c =
    c.is_some.ensures ∙ ap is_some c.lock.ensures
    ∙ given_demanded c.args.session.now.session.locks c.args.ino c.is_demanded.result c.is_demanded.ensures c.if-is_demanded.true

pub returns-else-is_demanded : goal.returns-else-is_demanded
returns-else-is_demanded c = given_undemanded c.args.session.now.session.locks c.args.ino c.is_demanded.result c.is_demanded.ensures c.if-is_demanded.false
