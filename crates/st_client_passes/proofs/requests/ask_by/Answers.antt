use Rattle.std.proofs.Common.{◌≡◌, subst}
use Rattle.std.specs.Prelude.{OnOk}
use Rattle.st_client_association.specs.Turns.{session_of}
use Rattle.st_client_passes.proofs.Repeating.{first_release, no_release}
use Rattle.st_client_passes.proofs.requests.ask_by.Goals as goal

pub returns-in-None : goal.returns-in-None
returns-in-None c =
    subst (λ u. OnOk c.ask_next.result (c.ask_next.new.t ≡ u)) (no_release c.args.t.now c.take_release.new.self c.args.now c.in-None.ensures.none c.in-None.ensures.same) c.ask_next.ensures

pub returns-in-Some : goal.returns-in-Some
returns-in-Some c =
    subst (λ u. OnOk c.ask.result (c.ask.new.self ≡ u))
    (first_release c.args.t.now c.take_release.new.self c.args.now c.in-Some.release (session_of c.take_release.new.self).releases c.in-Some.ensures.first c.in-Some.ensures.is) c.ask.ensures
