use Rattle.st_lemmas.proofs.Words
use Words.{◌∙◌}
use Words.ClientPages.{with_lost}
use Rattle.st_client_association.proofs.LostRows.{lost_more}
use Rattle.st_client_association.proofs.lease_loss.put_lost.Goals as goal

pub loop-i-preserved : goal.loop-i-preserved
loop-i-preserved c =
    let cs = c.args.store.now.store.commands in
    c.in_ok-put.ensures.ok
    ∙ (λ j. with_lost (c.lost_page.ensures j) (c.loop-i.invariant j))
    ∙ lost_more cs c.args.store.now.store.pages.dirty c.loop-i.i c.dirty_at.result.now c.args.lost.now c.dirty_at.ensures
