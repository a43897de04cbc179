use Rattle.std.proofs.Common.{List, ℕ, OnOk, OnErr, arith, subst}
use Rattle.std.specs.Io.KnownBytes.{Appends}
use Rattle.st_link.specs.Prefixes.{AppendsPrefix}
use Rattle.st_generate_run.proofs.Turning.{first_events, generated_is, ready_first}
use Rattle.st_generate_run.proofs.schedule.generate.Goals as goal

pub write_schedule-requires-clause-ready : goal.write_schedule-requires-clause-ready
write_schedule-requires-clause-ready g c = ready_first c.in_ok-world.world c.in_ok-world.ensures

pub write_schedule-requires-clause-room : goal.write_schedule-requires-clause-room
write_schedule-requires-clause-room g c = let z = first_events c.in_ok-world.world c.in_ok-world.ensures in let n = c.requires in omega (arith, z, n)

pub returns-clause-text : goal.returns-clause-text
returns-clause-text g c =
    subst (λ (t : List ℕ). OnOk c.write_schedule.result (Appends (g.O.Sink.written c.args.out.now) (g.O.Sink.written c.write_schedule.new.out) t))
    (generated_is c.args.n c.args.seed c.in_ok-world.world c.new-draws.result c.in_ok-world.ensures c.new-draws.ensures) c.write_schedule.ensures.text

pub returns-clause-front : goal.returns-clause-front
returns-clause-front g c =
    subst (λ (t : List ℕ). OnErr c.write_schedule.result (AppendsPrefix (g.O.Sink.written c.args.out.now) (g.O.Sink.written c.write_schedule.new.out) t))
    (generated_is c.args.n c.args.seed c.in_ok-world.world c.new-draws.result c.in_ok-world.ensures c.new-draws.ensures) c.write_schedule.ensures.front
