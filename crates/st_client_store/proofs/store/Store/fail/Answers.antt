use Rattle.st_client_store.proofs.Matching.{matched_failed}
use Rattle.st_client_store.proofs.store.Store.fail.Goals as goal

pub invariant_of-self : goal.invariant_of-self
invariant_of-self c = rw c.fail.ensures (c.self.invariant.0, matched_failed c.self.inside.pages.pages c.args.ino c.args.page c.args.command c.self.inside.commands.commands c.self.invariant.1)
