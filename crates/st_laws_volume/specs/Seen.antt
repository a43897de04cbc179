-- What users see of an event of the world: the steps of the volume that the schedule and its report
-- tell.
use Rattle.std.specs.Prelude.{ℕ, Bool, true, false, List, [], ◌∷◌, ◌++◌, Option, Some, None}
use Rattle.std.specs.Prelude.{if◌then◌else◌, option_map, unwrap_or, ⊤}
use Rattle.std.specs.List.{flat_map}
use Rattle.st_base.specs.declared.ids.NodeId.TheVariants as nodes
use Rattle.st_messages.specs.declared.ask.Ask.TheVariants as asks
use Rattle.st_messages.specs.declared.event.Event.{Event}
use Rattle.st_messages.specs.declared.event.Event.TheVariants as events
use Rattle.st_rules.specs.declared.log.Cause.{Cause}
use Rattle.st_rules.specs.declared.log.Cause.TheVariants as causes
use Rattle.st_rules.specs.declared.observation.Observation.{Observation}
use Rattle.st_rules.specs.declared.observation.Observation.TheVariants as seen
use Rattle.st_rules.specs.declared.world.Carried.{Carried}
use Rattle.st_rules.specs.declared.world.IssuedCommand.{IssuedCommand}
use Rattle.st_rules.specs.Events.{is_same_instance}
use Rattle.st_rules.specs.World.{World, WorldClient, site_of, issued_of}
use Rattle.st_rules.specs.Safety.{Step}
use Rattle.st_volume.specs.declared.step.VolumeStep.{VolumeStep}
use Rattle.st_volume.specs.declared.step.VolumeStep.TheVariants as steps

-- The event: an ask, a crash of a client, a start of a server, or a failed command of which a client
-- is told that has not crashed since it submitted the command.
abbrev pub failure : IssuedCommand → Option Carried → VolumeStep
failure k None = steps.ReadFailed k.client k.server k.number
failure k (Some x) = steps.WriteFailed k.client k.number x.index

abbrev pub failure_told : IssuedCommand → Option WorldClient → List VolumeStep
failure_told k None = []
failure_told k (Some site) = if is_same_instance k site then failure k k.carries ∷ [] else []

abbrev pub failure_of : World → Option IssuedCommand → List VolumeStep
failure_of w None = []
failure_of w (Some k) = failure_told k (site_of w k.client)

unfoldable pub of_event : World → Event → List VolumeStep
of_event w (events.App c ask) = steps.Asked c ask ∷ []
of_event w (events.Crash (nodes.Client c)) = steps.Crashed c ∷ []
of_event w (events.Start (nodes.Server s)) = steps.Restarted s ∷ []
of_event w (events.Report k false) = failure_of w (issued_of w k)
of_event w e = []

-- The lines of its report: entries that join the log, fates and answers. A line of a drop names a command by the world's number of it; the client's own number
-- is given, or 0 if there is no such command.
abbrev pub number_of : IssuedCommand → ℕ
number_of k = k.number

abbrev pub cause_of : World → Cause → Option ℕ
cause_of w causes.Crash = None
cause_of w (causes.Failed k) = Some (unwrap_or (option_map number_of (issued_of w k)) 0)

unfoldable pub of_line : World → Observation → List VolumeStep
of_line w (seen.Wrote i c f p bytes) = steps.Joined i (Some c) (asks.Write f p bytes) ∷ []
of_line w (seen.Patched i c f p at bytes) = steps.Joined i (Some c) (asks.Patch f p at bytes) ∷ []
of_line w (seen.CutAt i f p) = steps.Joined i None (asks.Cut f p) ∷ []
of_line w (seen.Hardened i) = steps.Hardened i ∷ []
of_line w (seen.Dropped i cause) = steps.Dropped i (cause_of w cause) ∷ []
of_line w (seen.Answered c op answer) = steps.Answered c op answer ∷ []
of_line w o = []

-- what is seen of a step of the world, in order
abbrev pub seen_of : Step → List VolumeStep
seen_of x = of_event x.before.world x.event ++ flat_map (of_line x.before.world) x.seen

-- what is seen of a step of the volume: all but that an ask takes effect
abbrev pub is_seen : VolumeStep → Bool
is_seen (steps.TakesEffect c op) = false
is_seen it = true

-- opens all of this file
unfoldable pub seen_open : ⊤
unfolding of_event of_line
seen_open = tt
