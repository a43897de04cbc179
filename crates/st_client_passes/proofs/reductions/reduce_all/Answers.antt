use Rattle.std.proofs.Common.{◌≡◌, ◌∙◌, sym, subst}
use Rattle.std.specs.Prelude.{OnOk}
use Rattle.std.proofs.Common.{ap}
use Rattle.st_rules.specs.ClientLocks.{demanded_files}
use Rattle.st_rules.specs.ClientPasses.{reduce_each}
use Rattle.st_client_session.specs.Sessions.{ServerSession}
use Rattle.st_client_passes.proofs.Sessions.{reductions_with}
use Rattle.st_client_passes.proofs.reductions.reduce_all.Goals as goal

pub returns : goal.returns
returns c =
    subst (λ u. OnOk c.reduce_each.result (c.reduce_each.new.t ≡ u))
    (ap (λ files. reduce_each files c.args.t.now) (c.as_slice.ensures.value ∙ c.in_ok-files.ensures ∙ ap (λ (s : ServerSession). demanded_files s.session.locks) c.session.ensures.is) ∙ sym (reductions_with c.args.t.now c.session.ensures.held)) c.reduce_each.ensures
