use Rattle.std.proofs.Common.{ap, ◌∙◌, [], length, refl, arith, ◌≡◌, Bool, true, false}
use Rattle.std.specs.Prelude.{◌&&◌, is_some}
use Rattle.std.specs.List.{list_all, list_any, zip}
use Rattle.st_rules.specs.declared.disks.DiskCommand.{DiskCommand}
use Rattle.st_rules.specs.declared.world.IssuedCommand.{IssuedCommand}
use Rattle.st_rules.specs.Admissible.{is_command_of, is_open, is_write_out}
use Rattle.st_world_parts.specs.OutstandingCommands.{is_below, is_write_of}
use Rattle.st_world_parts.proofs.Opens.{any_open, open_below}
use Rattle.st_world_parts.proofs.commands.Commands.has_write_out.Goals as goal

pub any_write_of-requires : goal.any_write_of-requires
any_write_of-requires c =
    (λ i. list_all (is_below (length (c.deref.ensures.value i))) ((c.deref-2.ensures.value ∙ c.self.invariant.unreported) i))
    ∙ open_below 0 (length c.self.inside.issued.items) c.self.inside.disks.commands (omega (arith, c.self.invariant.each))

pub returns : goal.returns
returns c =
    c.any_write_of.ensures
    ∙ (λ i. list_any (is_write_of c.args.client c.args.server c.args.starts c.args.life (c.deref.ensures.value i)) ((c.deref-2.ensures.value ∙ c.self.invariant.unreported) i))
    ∙ any_open (λ x. is_command_of c.args.client c.args.server c.args.starts c.args.life x && is_some x.carries)
    (is_write_out c.args.client c.args.server c.args.starts c.args.life) (λ x d. same x d) [] c.self.inside.issued.items 0 c.self.inside.disks.commands refl c.self.invariant.each
    ∙ ap (λ s. list_any (is_write_out c.args.client c.args.server c.args.starts c.args.life) (zip s.commands s.disks.commands)) c.self.view_is
  where
    turned : (a b d : Bool) → (d && (a && b)) ≡ (a && (b && d))
    turned true true true = refl
    turned true true false = refl
    turned true false true = refl
    turned true false false = refl
    turned false true true = refl
    turned false true false = refl
    turned false false true = refl
    turned false false false = refl

    same : (x : IssuedCommand) (d : DiskCommand) →
        (is_open d.report && (is_command_of c.args.client c.args.server c.args.starts c.args.life x && is_some x.carries)) ≡
        is_write_out c.args.client c.args.server c.args.starts c.args.life (x, d)
    same x d = turned (is_command_of c.args.client c.args.server c.args.starts c.args.life x) (is_some x.carries) (is_open d.report)
