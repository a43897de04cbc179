use Rattle.std.proofs.Common.{◌≡◌, ◌∙◌, Bool, true, false, refl, sym}
use Rattle.std.specs.Bool.{OnTrue}
use Rattle.std.specs.Prelude.{not}
use Rattle.st_lease_server.proofs.Starts.{first_young, no_first, no_starts}
use Rattle.st_lease_server.proofs.authority.Authority.none_over.Goals as goal

unless : (b : Bool) (P : Type 0) → (b ≡ false → P) → OnTrue (not b) P
unless true P h = tt
unless false P h = h refl

pub returns-in-None : goal.returns-in-None
returns-in-None c =
    rw (← c.self.view_is)
    (no_starts c.self.inside.wait c.args.now c.self.inside.timers.items c.self.inside.starts c.self.invariant.2 (no_first c.first.result c.self.inside.starts.keys c.first.ensures.variant c.in-None.is))

pub returns-in-Some : goal.returns-in-Some
returns-in-Some c =
    rw (← c.self.view_is)
    (unless c.is_past.result _
    (λ q. first_young c.self.inside.wait c.args.now c.self.inside.timers.items c.self.inside.starts c.in-Some.first.now c.self.invariant.2 c.in-Some.ensures.all_from (sym c.is_past.ensures ∙ q)))
