use Rattle.std.proofs.Common.{◌≡◌, ◌∙◌, sym, subst}
use Rattle.std.specs.Prelude.{OnOk}
use Rattle.st_client_passes.proofs.Reducing.{reduced_none, reduced_some}
use Rattle.st_client_passes.proofs.reductions.reduce_by.Goals as goal

pub returns-in-None : goal.returns-in-None
returns-in-None c = reduced_none c.args.t.now c.reduce_lock.new.self c.args.ino c.reduce_lock.ensures.reduced.is c.reduce_lock.ensures.held (sym c.in-None.is ∙ c.reduce_lock.ensures.reduced.given)

pub returns-in-Some : goal.returns-in-Some
returns-in-Some c =
    subst (λ u. OnOk c.reduce_to.result (c.reduce_to.new.t ≡ u))
    (reduced_some c.args.t.now c.reduce_lock.new.self c.args.ino c.reduce_lock.ensures.reduced.is c.in-Some.g c.in-Some.to (sym c.in-Some.is ∙ c.reduce_lock.ensures.reduced.given)) c.reduce_to.ensures
