use Rattle.st_client_store.proofs.Matching.{matched_ended}
use Rattle.st_client_store.proofs.store.Store.done.Goals as goal

pub invariant_of-self : goal.invariant_of-self
invariant_of-self c =
    rw c.done.ensures.1 (c.self.invariant.0, matched_ended c.self.inside.pages.pages.dirty c.args.number c.args.ok c.args.version c.self.inside.commands.commands c.self.invariant.1)
