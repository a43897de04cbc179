use Rattle.std.proofs.Common.{◌∙◌, ap, sym}
use Rattle.st_rules.specs.Client.{is_any}
use Rattle.st_client_session.specs.Sessions.{ServerSession}
use Rattle.st_client_passes.proofs.Sessions.{reductions_none}
use Rattle.st_client_passes.proofs.reductions.reductions.Goals as goal

pub returns-else-has_demands : goal.returns-else-has_demands
returns-else-has_demands c = sym (reductions_none c.args.t.now c.session.ensures.held (sym (c.has_demands.ensures ∙ ap (λ (s : ServerSession). is_any s.session.locks.demanded) c.session.ensures.is) ∙ c.if-has_demands.false))
