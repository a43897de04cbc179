use Rattle.std.proofs.Common.{◌≡◌, subst}
use Rattle.std.specs.Prelude.{OnOk}
use Rattle.st_client_association.specs.Turns.{session_of}
use Rattle.st_client_passes.proofs.Repeating.{off_tick, on_tick}
use Rattle.st_client_passes.proofs.requests.repeat.Goals as goal

pub returns-then-tick : goal.returns-then-tick
returns-then-tick c =
    subst (λ u. OnOk c.ask_again.result (c.ask_again.new.self ≡ u))
    (on_tick c.args.t.now (session_of c.args.t.now) c.args.now c.args.tick (session_of c.args.t.now).requests.asked c.if-tick.true c.requires.waiting) c.ask_again.ensures

pub returns-else-tick : goal.returns-else-tick
returns-else-tick c = off_tick c.args.t.now (session_of c.args.t.now) c.args.now c.args.tick (session_of c.args.t.now).requests.asked c.if-tick.false c.requires.waiting
