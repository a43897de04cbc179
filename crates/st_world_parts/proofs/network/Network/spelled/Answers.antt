use Rattle.std.proofs.Common.{Some, ap, sym, ◌∙◌}
use Rattle.std.specs.Prelude.{option_map}
use Rattle.st_rules.specs.World.{numbered}
use Rattle.st_world_parts.specs.Pieces.{spelling_sent, piece}
use Rattle.st_world_parts.proofs.Stays.{place_known, seen_through}
use Rattle.st_world_parts.proofs.network.Network.spelled.Goals as goal

pub slice_at-requires : goal.slice_at-requires
slice_at-requires c = rw c.deref-in-Some.ensures.value (place_known c.self.inside.bytes.items c.self.inside.places.items c.args.k c.in-Some.place c.self.invariant (sym (c.in-Some.ensures ∙ ap (λ ps. numbered ps c.args.k) c.deref.ensures.value))).within

pub returns-in-None : goal.returns-in-None
returns-in-None c =
    seen_through spelling_sent c.self.inside.bytes.items c.self.inside.places.items c.args.k _ (c.in-None.ensures ∙ ap (λ ps. numbered ps c.args.k) c.deref.ensures.value)
    ∙ ap (λ n. option_map spelling_sent (numbered n.messages c.args.k)) c.self.view_is

pub returns-in-Some : goal.returns-in-Some
returns-in-Some c =
    ap (λ b. Some b) (c.slice_at.ensures ∙ ap (λ b. piece b c.in-Some.place) c.deref-in-Some.ensures.value ∙ (place_known c.self.inside.bytes.items c.self.inside.places.items c.args.k c.in-Some.place c.self.invariant (sym (c.in-Some.ensures ∙ ap (λ ps. numbered ps c.args.k) c.deref.ensures.value))).spells.text)
    ∙ seen_through spelling_sent c.self.inside.bytes.items c.self.inside.places.items c.args.k (Some c.in-Some.place) (c.in-Some.ensures ∙ ap (λ ps. numbered ps c.args.k) c.deref.ensures.value)
    ∙ ap (λ n. option_map spelling_sent (numbered n.messages c.args.k)) c.self.view_is
