use Rattle.st_lemmas.proofs.Words
use Words.{subst, sym}
use Rattle.st_shared.specs.History.{IsLedTo}
use Rattle.st_shared.proofs.Led.{fresh_led}
use Rattle.st_shared.proofs.file.SharedFile.new.Goals as goal

pub invariant_of-file : goal.invariant_of-file
invariant_of-file c = subst IsLedTo (sym c.new.ensures) (fresh_led c.args.blocks)
