use Rattle.st_lemmas.proofs.Words
use Words.{◌∙◌, ap}
use Rattle.st_flush.specs.Calls.{ServerCommands}
use Rattle.st_flush.proofs.Begun.{here_new, step_begun, step_may}
use Rattle.st_flush.proofs.flusher.Flusher.begin_all.Goals as goal

pub begin-requires-clause-number : goal.begin-requires-clause-number
begin-requires-clause-number c = here_new c.loop-i.self.commands c.args.writes.now c.args.first c.loop-i.i (0, record { 0 = 0 }, 0) c.loop-i-test.true c.loop-i.invariant.may

pub loop-i-preserved : goal.loop-i-preserved
loop-i-preserved c = record {
  server = ap (λ (v : ServerCommands). v.server) c.in_ok-begin.ensures.ok ∙ c.loop-i.invariant.server;
  begun = step_begun c.loop-i.self.commands c.begin.new.self.commands _ c.args.writes.now c.args.first c.loop-i.i _ c.loop-i-test.true (ap (λ (v : ServerCommands). v.commands) c.in_ok-begin.ensures.ok) c.loop-i.invariant.begun;
  may = step_may c.loop-i.self.commands c.begin.new.self.commands c.args.writes.now c.args.first c.loop-i.i _ c.loop-i-test.true (ap (λ (v : ServerCommands). v.commands) c.in_ok-begin.ensures.ok) c.loop-i.invariant.may;
}
