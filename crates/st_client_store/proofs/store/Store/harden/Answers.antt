use Rattle.st_lemmas.proofs.Words
use Words.{◌≡◌, None}
use Words.ClientPages.{command_on}
use Rattle.st_client_store.proofs.Matching.{matched_hardened}
use Rattle.st_client_store.proofs.store.Store.harden.Goals as goal

pub invariant_of-self-2 : goal.invariant_of-self-2
invariant_of-self-2 c =
    let none : command_on c.self.inside.commands.commands c.args.ino c.args.page ≡ None = rw (← c.self.view_is) at c.requires in
    rw c.in_ok-harden.ensures.ok (c.self.invariant.0, matched_hardened c.self.inside.pages.pages c.args.ino c.args.page c.self.inside.commands.commands none c.self.invariant.1)
