use Rattle.st_lemmas.proofs.Words
use Words.{Some, sym, ◌∙◌}
use Rattle.st_snap.proofs.Slotted.{on_ok}
use Rattle.st_snap.proofs.Shelved.{slot_changed}
use Rattle.st_snap.proofs.versions.Versions.set.Goals as goal

pub returns-clause-written : goal.returns-clause-written
returns-clause-written c =
    rw (← c.self.view_is)
    (on_ok c.put.result _ _ c.put.ensures.written
    (λ w q. slot_changed _ c.self.invariant c.args.key c.in-Some.slot (Some c.args.bytes.now) c.put.new.self.pages (sym c.slot_under.ensures ∙ c.in-Some.is) w q))
