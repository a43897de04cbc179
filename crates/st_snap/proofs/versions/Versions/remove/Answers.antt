use Rattle.st_lemmas.proofs.Words
use Words.{ap, sym, ◌∙◌, is_some}
use Rattle.st_snap.proofs.Shelved.{remove_kept, version_gone}
use Rattle.st_snap.proofs.versions.Versions.remove.Goals as goal

pub invariant_of-self : goal.invariant_of-self
invariant_of-self c =
    let r = remove_kept _ c.self.invariant c.args.key c.in-Some.slot c.take_slot.new.map.entries c.release.new.self.pages (sym c.take_slot.ensures.slot ∙ c.in-Some.is) c.take_slot.ensures.gone c.release.ensures.gone
    c.take_slot.ensures.ordered (c.take_slot.ensures.length (ap is_some c.in-Some.is)) c.release.ensures.length in
    record { ordered = r.ordered; held = r.held; apart = r.apart; counted = r.counted }

pub returns-clause-gone : goal.returns-clause-gone
returns-clause-gone c =
    rw (← c.self.view_is)
    (version_gone _ c.self.invariant c.args.key c.in-Some.slot c.take_slot.new.map.entries c.release.new.self.pages (sym c.take_slot.ensures.slot ∙ c.in-Some.is) c.take_slot.ensures.gone c.release.ensures.gone)
