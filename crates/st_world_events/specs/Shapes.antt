-- What the calls of a world need, and what they tell.
use Rattle.std.specs.Prelude.{◌≡◌, ℕ, ◌+◌, List, length, slice_get, Option, Some, None}
use Rattle.st_base.specs.declared.disk.BlockAt.{BlockAt}
use Rattle.st_base.specs.declared.disk.Command.{Command}
use Rattle.st_base.specs.declared.ids.ClientId.{ClientId}
use Rattle.st_client.specs.declared.ends.LeaseEnds.{LeaseEnds}
use Rattle.st_messages.specs.declared.ask.Ask.{Ask}
use Rattle.st_messages.specs.declared.output.Output.{Output}
use Rattle.st_rules.specs.declared.client.ClientInput.TheVariants as inputs
use Rattle.st_rules.specs.declared.observation.Observation.TheVariants as seen
use Rattle.st_rules.specs.declared.world.IssuedCommand.{IssuedCommand}
use Rattle.st_rules.specs.ClientState.{ClientState}
use Rattle.st_rules.specs.Events.{WorldTurn, asked_once_more, client_says_all, client_takes, issued, observe, with_command, with_flushes}
use Rattle.st_rules.specs.World.{World, WorldClient}
use Rattle.st_world_events.specs.Ends.{HasEnds}

-- the command that a client issues, if there is such a client
abbrev pub issued_at : World → ClientId → ℕ → BlockAt → Command → Option WorldClient → Option IssuedCommand
issued_at w c number at what None = None
issued_at w c number at what (Some site) = Some (issued w c site number at what)

-- a command is issued: it is the last one, and is observed
abbrev pub issues : WorldTurn → ClientId → ℕ → IssuedCommand → Command → WorldTurn
issues sc c number x what = observe (with_command x what sc.world) sc (seen.Submitted (length sc.world.commands + 1) c number what)

-- what a client said, from one state to another, and its flush steps
abbrev pub says_and_flushes : ClientId → ClientState → ClientState → List Output → WorldTurn → WorldTurn
says_and_flushes c before after out sc = with_flushes c after (client_says_all c before out sc)

-- what holds of the scene after the client at a place, whose leases had these ends before, said this and its flush steps were noted
abbrev pub AfterSaid : ClientId → ℕ → LeaseEnds → List Output → WorldTurn → (WorldTurn → Type 0) → Type 0
AfterSaid c i ends out sc P =
    (before : ClientState) (site : WorldClient)
    → HasEnds before ends
    → slice_get sc.world.clients i ≡ Some site
    → P (says_and_flushes c before site.node.state out sc)

-- a client takes an ask, which is counted
abbrev pub takes_ask : World → ClientId → Ask → WorldClient → WorldTurn
takes_ask w c ask site = client_takes w c (inputs.App (site.asks + 1) ask) (asked_once_more site)
