use Rattle.st_lemmas.proofs.Words
use Words.{◌≡◌, ap, ◌∙◌, subst, sym, true, false}
use Words.Tables.{not_true}
use Words.ClientLease.{condemned, must_discard, standing_of}
use Rattle.st_lease_client.specs.Standings.{kind_of}
use Rattle.st_client_session.specs.Sessions.{ServerSession, lasts, lease_of}
use Rattle.st_client_session.proofs.Lasting.{kind_settled, condemned_lasts}
use Rattle.st_client_session.proofs.session.Session.condemn.Goals as goal

pub close-requires-clause-lasting : goal.close-requires-clause-lasting
close-requires-clause-lasting c =
    let l = lease_of c.self.inside.date c.self.inside.condemned in
    let old : lasts c.settle-standing.new.self c.args.now ≡ true = rw c.settle-standing.ensures.stays c.requires.lasting in
    let lasting : must_discard (standing_of c.self.inside.lease.config l c.args.now) ≡ false = not_true _ (subst (λ (x : ServerSession). lasts x c.args.now ≡ true) (sym c.self.view_is) old) in
    ap (λ s. must_discard (kind_of s)) c.condemn-standing.ensures.standing
    ∙ rw (c.condemn-standing.ensures.lease, c.self.invariant.held, c.settle-standing.ensures.moment)
    (ap must_discard (kind_settled (standing_of c.self.inside.lease.config (condemned l) c.args.now) _) ∙ condemned_lasts c.self.inside.lease.config l c.args.now lasting)
