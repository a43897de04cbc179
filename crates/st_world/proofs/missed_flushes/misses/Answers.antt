use Rattle.st_lemmas.proofs.Words
use Words.{◌^◌, ◌≤◌, subst, sym, Stamp}
use Rattle.st_world_parts.proofs.Later.{clock_low}
use Rattle.st_world.proofs.missed_flushes.misses.Goals as goal

pub reaches-requires-clause-clock : goal.reaches-requires-clause-clock
reaches-requires-clause-clock c =
    subst (λ (t : Stamp). t.0 ≤ 2 ^ 62) (sym c.clock_of.ensures) (clock_low c.args.client.0 (2 ^ 62) c.args.machine.now.world.clocks c.requires.clocks)
