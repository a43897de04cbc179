use Rattle.std.proofs.Common.{◌≡◌, subst, sym}
use Rattle.std.specs.Prelude.{OnOk}
use Rattle.st_rules.specs.ClientState.{Turn}
use Rattle.st_client_association.specs.Turns.{session_of}
use Rattle.st_client_session.specs.Sessions.{ServerSession}
use Rattle.st_client_passes.specs.PassConditions.{MayRest}
use Rattle.st_client_passes.proofs.Idle.{writes_idle}
use Rattle.st_client_passes.proofs.Sessions.{session_is, writes_with}
use Rattle.st_client_passes.proofs.writes.write_wanted.Goals as goal

pub returns-then-wants : goal.returns-then-wants
returns-then-wants c = subst (λ u. OnOk c.write_all.result (c.write_all.new.t ≡ u)) (sym (writes_with c.args.now c.args.tick c.args.t.now c.session.ensures.held)) c.write_all.ensures

pub returns-else-wants : goal.returns-else-wants
returns-else-wants c =
    let t = c.args.t.now in
    let here = subst (λ (u : Turn). MayRest u c.session.result.now.session) c.turn.ensures (c.wants.ensures c.if-wants.false) in
    let rest = subst (λ (s : ServerSession). MayRest t s.session) c.session.ensures.is here in
    sym (writes_idle (session_of t) c.args.now c.args.tick t (session_is t c.session.ensures.held) c.requires.other rest.demanded rest.waiting)
