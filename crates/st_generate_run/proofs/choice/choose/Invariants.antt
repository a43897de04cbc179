use Rattle.std.proofs.Common.{◌≡◌, ◌-◌}
use Rattle.st_rules.specs.Generator.{choice}
use Rattle.st_generate_run.proofs.choice.choose.Given as goal

abbrev pub invariant-loop-i : goal.invariant-loop-i
invariant-loop-i g l = choice (16 - l._i) (g.J.Judge.world l.fn.judge) l.draws ≡ choice 16 (g.J.Judge.world l.fn.judge) l.fn.draws
