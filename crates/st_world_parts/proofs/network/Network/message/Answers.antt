use Rattle.std.proofs.Common.{Some, ap, sym, subst, ◌∙◌}
use Rattle.std.specs.Prelude.{option_map}
use Rattle.st_rules.specs.World.{numbered}
use Rattle.st_world_parts.specs.Pieces.{IsSpelled, message_in, message_sent, piece}
use Rattle.st_world_parts.proofs.Stays.{place_known, seen_through}
use Rattle.st_world_parts.proofs.network.Network.message.Goals as goal

pub slice_at-requires : goal.slice_at-requires
slice_at-requires c = rw c.deref-in-Some.ensures.value (place_known c.self.inside.bytes.items c.self.inside.places.items c.args.k c.in-Some.place c.self.invariant (sym (c.in-Some.ensures ∙ ap (λ ps. numbered ps c.args.k) c.deref.ensures.value))).within

pub read-requires : goal.read-requires
read-requires c = subst IsSpelled (sym (c.slice_at.ensures ∙ ap (λ b. piece b c.in-Some.place) c.deref-in-Some.ensures.value)) (place_known c.self.inside.bytes.items c.self.inside.places.items c.args.k c.in-Some.place c.self.invariant (sym (c.in-Some.ensures ∙ ap (λ ps. numbered ps c.args.k) c.deref.ensures.value))).spells

pub returns-in-None-clause-message : goal.returns-in-None-clause-message
returns-in-None-clause-message c =
    seen_through message_sent c.self.inside.bytes.items c.self.inside.places.items c.args.k _ (c.in-None.ensures ∙ ap (λ ps. numbered ps c.args.k) c.deref.ensures.value)
    ∙ ap (λ n. option_map message_sent (numbered n.messages c.args.k)) c.self.view_is

pub returns-in_ok-message-in-Some-clause-message : goal.returns-in_ok-message-in-Some-clause-message
returns-in_ok-message-in-Some-clause-message c =
    ap (λ m. Some m) (c.in_ok-message-in-Some.ensures.message ∙ ap message_in (c.slice_at.ensures ∙ ap (λ b. piece b c.in-Some.place) c.deref-in-Some.ensures.value))
    ∙ seen_through message_sent c.self.inside.bytes.items c.self.inside.places.items c.args.k (Some c.in-Some.place) (c.in-Some.ensures ∙ ap (λ ps. numbered ps c.args.k) c.deref.ensures.value)
    ∙ ap (λ n. option_map message_sent (numbered n.messages c.args.k)) c.self.view_is
