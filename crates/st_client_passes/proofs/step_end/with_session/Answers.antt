use Rattle.std.proofs.Common.{◌≡◌, ◌∙◌, ap}
use Rattle.st_client_passes.specs.PassConditions.{lease_frame}
use Rattle.st_client_passes.proofs.Frames.{operations_keep, reductions_keep, still_lasts}
use Rattle.st_client_passes.proofs.step_end.with_session.Goals as goal

pub writes-requires : goal.writes-requires
writes-requires c =
    let kept : lease_frame c.reductions.new.t ≡ lease_frame c.args.t.now =
    ap lease_frame c.in_ok-reductions.ensures ∙ reductions_keep c.operations.new.t ∙ ap lease_frame c.in_ok-operations.ensures ∙ operations_keep c.args.now c.args.t.now in
    record { lasting = still_lasts c.args.now c.args.t.now c.reductions.new.t kept c.requires }
