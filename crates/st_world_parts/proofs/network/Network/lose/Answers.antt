use Rattle.std.proofs.Common.{ap, sym, subst, ◌∙◌, length}
use Rattle.st_world_parts.specs.Pieces.{ArePlaces, messages_at}
use Rattle.st_world_parts.proofs.Stays.{places_lost, messages_lost}
use Rattle.st_world_parts.proofs.network.Network.lose.Goals as goal

pub invariant_of-self : goal.invariant_of-self
invariant_of-self c = subst (ArePlaces c.self.inside.bytes.items) (sym c.lose.ensures) (places_lost c.self.inside.bytes.items c.self.inside.places.items c.args.k c.self.invariant)

pub returns : goal.returns
returns c =
    let bytes = c.self.inside.bytes.items in
    let all = ap (messages_at bytes) c.lose.ensures ∙ messages_lost bytes c.self.inside.places.items c.args.k in
    rw (← c.self.view_is) (λ i. record { messages = all i; cuts = c.self.inside.cuts.items; bytes = length bytes })
