use Rattle.std.proofs.Common.{◌≡◌, sym, subst}
use Rattle.std.specs.Prelude.{OnOk}
use Rattle.st_client_passes.proofs.Sessions.{writes_with}
use Rattle.st_client_passes.proofs.writes.writes.Goals as goal

pub returns-then-drains : goal.returns-then-drains
returns-then-drains c = subst (λ u. OnOk c.write_all.result (c.write_all.new.t ≡ u)) (sym (writes_with c.args.now c.args.tick c.args.t.now c.session.ensures.held)) c.write_all.ensures
