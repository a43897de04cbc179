use Rattle.st_lemmas.proofs.Words
use Words.{ap, ◌∙◌}
use Words.ClientLease.{must_discard}
use Rattle.st_lease_client.specs.Standings.{kind_of}
use Rattle.st_lease_client.specs.ServerLease.{begun, kind, settled_at}
use Rattle.st_client_session.proofs.Lasting.{kind_settled, new_lasts}
use Rattle.st_client_session.proofs.permits.begun.Goals as goal

pub close-requires-clause-lasting : goal.close-requires-clause-lasting
close-requires-clause-lasting c =
    let l = begun c.args.stamp c.settle.new.self in
    ap (λ s. must_discard (kind_of s)) c.begin-standing.ensures.standing
    ∙ rw c.begin-standing.ensures.lease (ap must_discard (kind_settled (kind l c.args.now) (settled_at l c.args.now)) ∙ rw (c.settle.ensures.stays, c.none-lease.ensures) (new_lasts c.args.config.now c.args.stamp c.args.now c.requires.living))
