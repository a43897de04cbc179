use Rattle.std.proofs.Common.{◌≡◌, Err}
use Rattle.st_rules.specs.Events.{world_step}
use Rattle.st_generate_run.proofs.Turning.{not_refused}
use Rattle.st_generate_run.proofs.turn.run_event.Goals as goal

pub unreachable-requires : goal.unreachable-requires
unreachable-requires c =
    let m : (world_step c.args.world.now c.args.event.now ≡ Err c.in-Err-Refused.field-0-0) ×
    (c.run.new.self ≡ c.args.world.now) = rw c.in-Err-Refused.field-0-is at c.in-Err-Refused.ensures.machine in
    not_refused c.args.world.now c.args.event.now c.in-Err-Refused.field-0-0 c.requires.admissible m.0
