use Rattle.st_lemmas.proofs.Words
use Words.{◌≡◌, None, false, refl}
use Words.ClientPages.{dirty_of, is_being_read}
use Words.io.{Read}
use Rattle.st_client_store.proofs.Matching.{matched_more, none_read}
use Rattle.st_client_store.proofs.store.Store.begin_read.Goals as goal

pub submit-requires-clause-page : goal.submit-requires-clause-page
submit-requires-clause-page c =
    let clean : dirty_of c.self.inside.pages.pages c.args.ino c.args.page ≡ None = rw (← c.self.view_is) at c.requires.clean in
    let page : is_being_read c.self.inside.commands.commands c.args.ino c.args.page ≡ false = rw (← c.self.view_is) at c.requires.page in
    none_read c.self.inside.pages.pages.dirty c.args.ino c.args.page c.self.inside.commands.commands clean page c.self.invariant.1

pub invariant_of-self-2 : goal.invariant_of-self-2
invariant_of-self-2 c =
    let clean : dirty_of c.self.inside.pages.pages c.args.ino c.args.page ≡ None = rw (← c.self.view_is) at c.requires.clean in
    rw c.in_ok-submit.ensures.ok (
      c.self.invariant.0,
      matched_more c.self.inside.pages.pages.dirty c.self.inside.commands.commands c.args.number c.args.ino c.args.page Read (rw clean refl) c.self.invariant.1,
    )
