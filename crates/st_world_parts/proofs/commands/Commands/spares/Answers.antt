use Rattle.std.proofs.Common.{ap, ◌∙◌, [], length, refl, arith, Result, Ok, Err}
use Rattle.std.specs.Prelude.{IfOk}
use Rattle.std.specs.List.{list_all, list_any, zip}
use Rattle.st_model.specs.Walks as walks
use Rattle.st_rules.specs.Events.{spares}
use Rattle.st_world_parts.specs.OutstandingCommands.{is_below, spares_at}
use Rattle.st_world_parts.proofs.Opens.{open_below, spared}
use Rattle.st_world_parts.proofs.commands.Commands.spares.Goals as goal

map_ok : {A E : Type 0} (r : Result A E) (P Q : A → Type 0) → ((x : A) → P x → Q x) → IfOk r P → IfOk r Q
map_ok (Ok x) P Q f h = f x h
map_ok (Err e) P Q f h = tt

pub spares_of-requires : goal.spares_of-requires
spares_of-requires c =
    (λ i. list_all (is_below (length (c.deref.ensures.value i))) ((c.deref-2.ensures.value ∙ c.self.invariant.unreported) i))
    ∙ open_below 0 (length c.self.inside.issued.items) c.self.inside.disks.commands (omega (arith, c.self.invariant.each))

pub returns : goal.returns
returns c =
    map_ok c.spares_of.result _ _ (λ v e number o.
    ap (list_any (walks.spares number o)) (e ∙ (λ i. spares_at (c.deref.ensures.value i) ((c.deref-2.ensures.value ∙ c.self.invariant.unreported) i)))
    ∙ spared number o [] c.self.inside.issued.items 0 c.self.inside.disks.commands refl c.self.invariant.each
    ∙ ap (λ s. list_any (spares number o) (zip s.commands s.disks.commands)) c.self.view_is) c.spares_of.ensures
