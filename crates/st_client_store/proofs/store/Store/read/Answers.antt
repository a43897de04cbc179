use Rattle.st_client_store.proofs.store.Store.read.Goals as goal
use Rattle.st_client_store.proofs.store.Store.read.Goals.{in-Miss, in-Hit+in_ok-copy-in-Hit}
use Rattle.st_lemmas.proofs.Versions.{dirty_used}

pub invariant_of-self : goal.invariant_of-self
invariant_of-self c = rw c.read.follows.holds-at-none (c.self.invariant.0, rw (dirty_used c.self.inside.pages.pages c.args.ino c.args.page) c.self.invariant.1)

pub invariant_of-self-2 : goal.invariant_of-self-2
invariant_of-self-2 c = elim c.match-read.branch [
  | in-Miss w ↦ rw w.self-inside-is
      (rw c.read.follows.holds-at-none (c.self.invariant.0, rw (dirty_used c.self.inside.pages.pages c.args.ino c.args.page) c.self.invariant.1))
  | in-Hit+in_ok-copy-in-Hit w ↦ rw w.self-inside-is
      (rw c.read.follows.holds-at-none (c.self.invariant.0, rw (dirty_used c.self.inside.pages.pages c.args.ino c.args.page) c.self.invariant.1))
]
