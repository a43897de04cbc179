-- Places and asks over whole runs, from the world of any head.
use Rattle.std.specs.Prelude.{◌≡◌, ℕ, Bool, true, ◌||◌, not, List, [], ◌∷◌, Option, Some, None, ⊤}
use Rattle.std.specs.List.{list_all, list_any}
use Rattle.st_base.specs.declared.config.Config.{Config}
use Rattle.st_base.specs.declared.ids.ClientId.{ClientId}
use Rattle.st_base.specs.declared.ids.ServerId.{ServerId}
use Rattle.st_messages.specs.declared.answer.AppAnswer.TheVariants as answers
use Rattle.st_messages.specs.declared.event.Event.{Event}
use Rattle.st_rules.specs.declared.observation.Observation.{Observation}
use Rattle.st_rules.specs.declared.observation.Observation.TheVariants as seen
use Rattle.st_rules.specs.World.{World, all_clients, all_servers, fresh_world}
use Rattle.st_rules.specs.History.{traced}
use Rattle.st_rules.specs.Safety.{Step, Promise, Throughout, IsHead, IsLoggedAfter, ask_of, steps, steps_expired, uses_server}
use Rattle.st_rules.specs.WorldInvariants.{maps_own, tells_own, knows_own}

-- Under an expired lease nothing is used: if a client takes a step while its lease at a server is over, nothing is submitted to that
-- server's disks in the step, and no read or write of its files is answered.
abbrev pub is_unused : List Step → Step → ClientId → ServerId → Bool
is_unused past x c s = not (steps_expired x c s) || not (list_any (uses_server past x s) x.seen)

-- at each server
abbrev pub all_unused : List Step → Step → ClientId → Bool
all_unused past x c = list_all (is_unused past x c) (all_servers x.before.world)

-- Under an expired lease nothing is used
abbrev pub ExpiredLeasesUseNothing : Promise
ExpiredLeasesUseNothing past x = list_all (all_unused past x) (all_clients x.before.world) ≡ true

-- The half of "answers are logged" that a client keeps: `written` follows directly the line of the change that was asked.
abbrev pub IsWrittenLogged : List Step → Step → Option Observation → Observation → Type 0
IsWrittenLogged past x line (seen.Answered c op answers.Written) = IsLoggedAfter c (ask_of past x c op) line
IsWrittenLogged past x line o = ⊤

-- each of these observations, after the line before it
abbrev pub AreWrittenLogged : List Step → Step → Option Observation → List Observation → Type 0
AreWrittenLogged past x line [] = Unit {0}
AreWrittenLogged past x line (o ∷ os) = record { one : IsWrittenLogged past x line o; rest : AreWrittenLogged past x (Some o) os }

-- `written` follows the line of its change
abbrev pub WrittenIsLogged : Promise
WrittenIsLogged past x = AreWrittenLogged past x None x.seen

-- A server's pages lie on its own disks, it tells nothing else, and clients know nothing else.
pub record PlacesHold (w : World) : Type 0 where
  pub maps : list_all (maps_own w) w.servers ≡ true
  pub told : list_all (tells_own w) w.net.messages ≡ true
  pub known : list_all (knows_own w) w.clients ≡ true

-- after a step
abbrev pub PlacesAfter : Promise
PlacesAfter past x = PlacesHold x.after.world

-- a promise is kept at every step of every run from the world of a head
abbrev pub InEveryRun : Promise → Type 0
InEveryRun promise =
    (k : Config) (clients servers disks blocks form : ℕ) (es : List Event) → IsHead k clients servers disks blocks form →
    Throughout promise [] (steps es (traced (fresh_world k clients servers disks blocks form)))
