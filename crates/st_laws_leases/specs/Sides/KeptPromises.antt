-- What of safety is proved, of every run at once.
use Rattle.std.specs.Prelude.{◌≡◌, ◌+◌, true, ℕ, List, []}
use Rattle.std.specs.List.{list_all}
use Rattle.st_base.specs.declared.config.Config.{Config}
use Rattle.st_messages.specs.declared.event.Event.{Event}
use Rattle.st_rules.specs.World.{fresh_world}
use Rattle.st_rules.specs.History.{traced}
use Rattle.st_rules.specs.Safety.{AsksAreAnsweredOnce, ChangesAreLocked, DirtyPagesStandAlone, DropsHaveACause, ExpiredLeasesEmptyClients, GraceWaits, HardIsHard, HardStaysHard, IsHead, LeasesAreDatedFromRequests, NoConflictIsSent, OldMessagesChangeNoClient, OldMessagesChangeNoServer, Step, TheHistoryIsTheWorlds, TheReportTellsTheLog, TheftsComeLate, Throughout, is_event, steps}

-- These of the promises that make a run safe are kept at each of its steps. Missing here are reads, logged and order.
pub record IsKept (xs : List Step) : Type 0 where
  pub alone : Throughout DirtyPagesStandAlone [] xs
  pub causes : Throughout DropsHaveACause [] xs
  pub stays : Throughout HardStaysHard [] xs
  pub hard : Throughout HardIsHard [] xs
  pub thefts : Throughout TheftsComeLate [] xs
  pub dates : Throughout LeasesAreDatedFromRequests [] xs
  pub waits : Throughout GraceWaits [] xs
  pub conflicts : Throughout NoConflictIsSent [] xs
  pub told : Throughout TheReportTellsTheLog [] xs
  pub once : Throughout AsksAreAnsweredOnce [] xs
  pub locked : Throughout ChangesAreLocked [] xs
  pub emptied : Throughout ExpiredLeasesEmptyClients [] xs
  pub history : Throughout TheHistoryIsTheWorlds [] xs

-- They are kept in every run, from the world of every head and over every list of events, up to the first that is refused.
abbrev pub EveryRunIsKept : Type 0
EveryRunIsKept =
    (k : Config) (clients servers disks blocks form : ℕ) (es : List Event) → IsHead k clients servers disks blocks form →
    list_all (is_event (clients + servers)) es ≡ true →
    IsKept (steps es (traced (fresh_world k clients servers disks blocks form)))

-- So they are, and old messages change nothing.
pub record IsMostPromised : Type 0 where
  pub runs : EveryRunIsKept
  pub clients : OldMessagesChangeNoClient
  pub servers : OldMessagesChangeNoServer
