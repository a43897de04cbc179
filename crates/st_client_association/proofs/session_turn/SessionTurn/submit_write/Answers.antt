use Rattle.st_lemmas.proofs.Words
use Words.{◌≡◌, ap, sym, ◌∙◌, Some, is_some}
use Words.ClientPages.{dirty_of, is_being_written}
use Words.ClientState.{Turn}
use Rattle.st_client_association.proofs.Sending.{place_found}
use Rattle.st_client_association.proofs.session_turn.SessionTurn.submit_write.Goals as goal

pub submit_dirty-requires-clause-dirty : goal.submit_dirty-requires-clause-dirty
submit_dirty-requires-clause-dirty c =
    let t = c.args.self.now in
    let inside = sym c.self-inside.view_is in
    let lent = sym c.deref.ensures in
    let found : dirty_of t.here.store.pages c.args.ino c.args.page ≡ Some c.in-Some.dirty.now =
    ap (λ (z : Turn). dirty_of z.here.store.pages c.args.ino c.args.page) (sym c.self.view_is)
    ∙ (λ j. dirty_of (inside j).turn.here.store.pages c.args.ino c.args.page)
    ∙ (λ j. dirty_of (lent j).store.store.pages c.args.ino c.args.page)
    ∙ sym c.in-Some.ensures in
    let k = place_found t.here.store.pages.dirty c.args.ino c.args.page c.in-Some.dirty.now found in
    rw c.in_ok-dirty.ensures ((λ i. is_some (dirty_of t.here.store.pages (k.0 i) (k.1 i))) ∙ ap is_some found)

pub submit_dirty-requires-clause-unwritten : goal.submit_dirty-requires-clause-unwritten
submit_dirty-requires-clause-unwritten c =
    let t = c.args.self.now in
    let inside = sym c.self-inside.view_is in
    let lent = sym c.deref.ensures in
    let found : dirty_of t.here.store.pages c.args.ino c.args.page ≡ Some c.in-Some.dirty.now =
    ap (λ (z : Turn). dirty_of z.here.store.pages c.args.ino c.args.page) (sym c.self.view_is)
    ∙ (λ j. dirty_of (inside j).turn.here.store.pages c.args.ino c.args.page)
    ∙ (λ j. dirty_of (lent j).store.store.pages c.args.ino c.args.page)
    ∙ sym c.in-Some.ensures in
    let k = place_found t.here.store.pages.dirty c.args.ino c.args.page c.in-Some.dirty.now found in
    rw c.in_ok-dirty.ensures ((λ i. is_being_written t.here.store.commands (k.0 i) (k.1 i)) ∙ c.requires.unwritten)
