use Rattle.st_lemmas.proofs.Words
use Words.{◌∙◌, sym, option_map}
use Words.ClientPages.{command_of}
use Rattle.st_flush.specs.Calls.{told}
use Rattle.st_client_association.proofs.Done.{some_told}
use Rattle.st_client_association.proofs.turn.Turn.command.Goals as goal

pub returns-in-Some-clause-command : goal.returns-in-Some-clause-command
returns-in-Some-clause-command c =
    let lent = c.deref-3.ensures in
    let found = sym c.in-Some.is ∙ c.command.ensures ∙ (λ j. option_map told (command_of (lent j).store.store.commands c.args.number)) in
    rw (← c.self.view_is) (some_told c.self.inside.here.value.store.store.commands c.args.number c.in-Some.ino c.in-Some.page c.in-Some.kind found)
