use Rattle.st_lemmas.proofs.Words
use Words.{◌≡◌, true, false, is_some}
use Words.ClientPages.{dirty_of, is_being_written}
use Words.io.{Write}
use Rattle.st_client_store.proofs.Matching.{matched_more, none_written}
use Rattle.st_client_store.proofs.store.Store.begin_write.Goals as goal

pub submit-requires-clause-page : goal.submit-requires-clause-page
submit-requires-clause-page c =
    let dirty : is_some (dirty_of c.self.inside.pages.pages c.args.ino c.args.page) ≡ true = rw (← c.self.view_is) at c.requires.dirty in
    let page : is_being_written c.self.inside.commands.commands c.args.ino c.args.page ≡ false = rw (← c.self.view_is) at c.requires.page in
    none_written c.self.inside.pages.pages.dirty c.args.ino c.args.page c.self.inside.commands.commands dirty page c.self.invariant.1

pub invariant_of-self-2 : goal.invariant_of-self-2
invariant_of-self-2 c =
    let dirty : is_some (dirty_of c.self.inside.pages.pages c.args.ino c.args.page) ≡ true = rw (← c.self.view_is) at c.requires.dirty in
    rw c.in_ok-submit.ensures.ok (
      c.self.invariant.0,
      matched_more c.self.inside.pages.pages.dirty c.self.inside.commands.commands c.args.number c.args.ino c.args.page (Write c.args.version) dirty c.self.invariant.1,
    )
