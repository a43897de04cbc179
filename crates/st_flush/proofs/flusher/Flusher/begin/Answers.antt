use Rattle.st_lemmas.proofs.Words
use Words.{◌≡◌, None}
use Words.ClientPages.{command_of, command_on}
use Rattle.st_flush.proofs.Begun.{more_apart}
use Rattle.st_flush.proofs.flusher.Flusher.begin.Goals as goal

pub invariant_of-self-2 : goal.invariant_of-self-2
invariant_of-self-2 c =
    let page : command_on c.self.inside.commands c.args.command.ino c.args.command.page ≡ None = rw (← c.self.view_is) at c.requires.page in
    let number : command_of c.self.inside.commands c.args.command.number ≡ None = rw (← c.self.view_is) at c.requires.number in
    rw c.in_ok-push.ensures.ok (more_apart c.self.inside.commands c.args.command page number c.self.invariant)
