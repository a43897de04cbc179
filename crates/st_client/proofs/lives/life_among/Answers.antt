use Rattle.st_lemmas.proofs.Words
use Words.{sym, ◌∙◌}
use Rattle.st_client.proofs.Crashing.{life_next}
use Rattle.st_client.proofs.lives.life_among.Goals as goal

pub loop-i-preserved : goal.loop-i-preserved
loop-i-preserved c =
    sym (life_next c.args.servers.now c.args.lives.now c.loop-i.i (record { 0 = 0 }) c.args.server (record { 0 = 0 }) c.loop-i-test.true c.requires c.if-servers-i.false) ∙ c.loop-i.invariant
