use Rattle.st_lemmas.proofs.Words
use Words.{List, ap, subst, sym, is_some}
use Rattle.st_snap.specs.Versions.{page_in, slot_under}
use Rattle.st_snap.specs.Volumes.{IsAfter}
use Rattle.st_snap.proofs.KeptViews.{started}
use Rattle.st_snap.proofs.volume.Volume.new.Goals as goal

pub returns : goal.returns
returns c =
    let v = c.in_ok-new.field-0 in
    subst (λ (l : List _). IsAfter c.args.blocks _ (record { versions = v; kept = l; next = 1 })) (sym c.new-2.ensures.items)
    (started v c.args.blocks c.in_ok-new.ensures.blocks (λ k. ap (λ es. is_some (page_in v.pages (slot_under es k))) c.in_ok-new.ensures.none))
