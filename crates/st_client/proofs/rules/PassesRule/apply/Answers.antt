use Rattle.st_lemmas.proofs.Words
use Words.{◌≡◌}
use Words.ClientPasses.{passes}
use Rattle.st_client.specs.Machines.{Advances}
use Rattle.st_client.proofs.PassesGrow.{passes_grow}
use Rattle.st_client.proofs.Advancing.{advances_to, ok_by}
use Rattle.st_client.proofs.rules.PassesRule.apply.Goals as goal

pub returns-clause-advances : goal.returns-clause-advances
returns-clause-advances c =
    let run = passes c.args.self.now.now c.args.self.now.tick in
    ok_by c.passes.result (λ u. u ≡ run c.args.turn) (λ u. Advances c.args.turn u) (λ u h. advances_to run (passes_grow c.args.self.now.now c.args.self.now.tick) c.args.turn u h) c.passes.ensures
