-- A command that is submitted, if there is such a client.
use Rattle.std.proofs.Common.{◌≡◌, ℕ, ◌+◌, length, refl, ap}
use Rattle.std.specs.Prelude.{Option, Some, None}
use Rattle.st_base.specs.declared.disk.BlockAt.{BlockAt}
use Rattle.st_base.specs.declared.disk.Command.{Command}
use Rattle.st_base.specs.declared.ids.ClientId.{ClientId}
use Rattle.st_rules.specs.declared.observation.Observation.TheVariants as seen
use Rattle.st_rules.specs.declared.world.IssuedCommand.{IssuedCommand}
use Rattle.st_rules.specs.Events.{WorldTurn, issued, observe, submits, with_command}
use Rattle.st_rules.specs.World.{WorldClient}
use Rattle.st_world_events.specs.Shapes.{issued_at}

-- nothing is submitted by a client that is not there
pub submits_none : (sc : WorldTurn) (c : ClientId) (o : Option WorldClient) (number : ℕ) (at : BlockAt) (what : Command) → None ≡ issued_at sc.world c number at what o → submits sc c o number at what ≡ sc
unfolding submits
submits_none sc c None number at what h = refl
submits_none sc c (Some site) number at what h = absurd (cc)

-- a command is submitted by a client that is there
pub submits_some : (sc : WorldTurn) (c : ClientId) (o : Option WorldClient) (number : ℕ) (at : BlockAt) (what : Command) (command : IssuedCommand) → Some command ≡ issued_at sc.world c number at what o →
    submits sc c o number at what ≡ observe (with_command command what sc.world) sc (seen.Submitted (length sc.world.commands + 1) c number what)
unfolding submits
submits_some sc c None number at what command h = absurd (cc)
submits_some sc c (Some site) number at what command h =
    let e : issued sc.world c site number at what ≡ command = cc in
    ap (λ x. observe (with_command x what sc.world) sc (seen.Submitted (length sc.world.commands + 1) c number what)) e
