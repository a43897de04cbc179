use Rattle.std.proofs.Common.{ap, ◌∙◌}
use Rattle.std.specs.Prelude.{option_map}
use Rattle.st_rules.specs.World.{numbered}
use Rattle.st_world_parts.specs.Pieces.{head_at, head_of}
use Rattle.st_world_parts.proofs.Stays.{heads_are}
use Rattle.st_world_parts.proofs.network.Network.head.Goals as goal

pub returns : goal.returns
returns c =
    c.head_of.ensures
    ∙ ap (option_map head_at) (c.place_of.ensures ∙ ap (λ ps. numbered ps c.args.k) c.deref.ensures.value)
    ∙ heads_are c.self.inside.bytes.items c.self.inside.places.items c.args.k c.self.invariant
    ∙ ap (λ n. option_map head_of (numbered n.messages c.args.k)) c.self.view_is
