-- Safe: all that is promised about a run, in one record, and that every run is safe.
use Rattle.std.specs.Prelude.{◌≡◌, ℕ, ◌+◌, true, List, [], ⊤}
use Rattle.std.specs.List.{list_all}
use Rattle.st_base.specs.declared.config.Config.{Config}
use Rattle.st_messages.specs.declared.event.Event.{Event}
use Rattle.st_rules.specs.Safety.{
  Step,
  Throughout,
  steps,
  is_event,
  IsHead,
  DirtyPagesStandAlone,
  ReadsReturnLastWrites,
  DropsHaveACause,
  HardStaysHard,
  HardIsHard,
  TheftsComeLate,
  LeasesAreDatedFromRequests,
  GraceWaits,
  NoConflictIsSent,
  TheReportTellsTheLog,
  AnswersAreLogged,
  AsksAreAnsweredOnce,
  ChangesAreLocked,
  ChangesGoInTheOrderOfLocks,
  ExpiredLeasesEmptyClients,
  TheHistoryIsTheWorlds,
  OldMessagesChangeNoClient,
  OldMessagesChangeNoServer,
}
use Rattle.st_rules.specs.History.{traced}
use Rattle.st_rules.specs.World.{World, fresh_world}
use Rattle.st_promises.specs.Acknowledgements.{CutsAreAcknowledged}
use Rattle.st_promises.specs.Counts.{TheCountsAreTrue, counts_open}
use Rattle.st_promises.specs.CutAsks.{CutsAreAsked}
use Rattle.st_promises.specs.Faults.{FaultsHaveACause}
use Rattle.st_promises.specs.Given.{given_open}
use Rattle.st_promises.specs.Grants.{GrantNumbersAreGivenOnce, GrantNumbersRise}
use Rattle.st_promises.specs.Held.{DisksHoldWhatIsHard, held_open}
use Rattle.st_promises.specs.Losses.{LossesAreTold, losses_open}
use Rattle.st_promises.specs.NameAnswers.{NamesAnswerTruly, name_answers_open}
use Rattle.st_promises.specs.NameChanges.{NamesChangeAsAsked}
use Rattle.st_promises.specs.NamesOnce.{NamesChangeOnce, names_once_open}
use Rattle.st_promises.specs.Refusals.{RefusalsChangeNothing}

-- Safe: every promise is kept at every step of the run.
pub record IsSafe (xs : List Step) : Type 0 where
  pub alone : Throughout DirtyPagesStandAlone [] xs
  pub reads : Throughout ReadsReturnLastWrites [] xs
  pub causes : Throughout DropsHaveACause [] xs
  pub stays : Throughout HardStaysHard [] xs
  pub hard : Throughout HardIsHard [] xs
  pub thefts : Throughout TheftsComeLate [] xs
  pub dates : Throughout LeasesAreDatedFromRequests [] xs
  pub waits : Throughout GraceWaits [] xs
  pub conflicts : Throughout NoConflictIsSent [] xs
  pub told : Throughout TheReportTellsTheLog [] xs
  pub logged : Throughout AnswersAreLogged [] xs
  pub once : Throughout AsksAreAnsweredOnce [] xs
  pub locked : Throughout ChangesAreLocked [] xs
  pub order : Throughout ChangesGoInTheOrderOfLocks [] xs
  pub emptied : Throughout ExpiredLeasesEmptyClients [] xs
  pub history : Throughout TheHistoryIsTheWorlds [] xs
  pub losses : Throughout LossesAreTold [] xs
  pub held : Throughout DisksHoldWhatIsHard [] xs
  pub faults : Throughout FaultsHaveACause [] xs
  pub counts : Throughout TheCountsAreTrue [] xs
  pub cuts : Throughout CutsAreAsked [] xs
  pub given : Throughout GrantNumbersAreGivenOnce [] xs
  pub rising : Throughout GrantNumbersRise [] xs
  pub acknowledged : Throughout CutsAreAcknowledged [] xs
  pub named : Throughout NamesAnswerTruly [] xs
  pub renamed : Throughout NamesChangeAsAsked [] xs
  pub changed : Throughout NamesChangeOnce [] xs
  pub refused : Throughout RefusalsChangeNothing [] xs

-- a run from the world of a head
abbrev pub IsSafeRun : World → List Event → Type 0
IsSafeRun w es = IsSafe (steps es (traced w))

-- Every run is safe, from the world of every head and over every list of events, up to the first that is refused
abbrev pub EveryRunIsSafe : Type 0
EveryRunIsSafe =
    (k : Config) (clients servers disks blocks form : ℕ) (es : List Event)
    → IsHead k clients servers disks blocks form
    → list_all (is_event (clients + servers)) es ≡ true
    → IsSafeRun (fresh_world k clients servers disks blocks form) es

-- All that is promised: every run is safe, and old messages change nothing.
pub record IsAllPromised : Type 0 where
  pub runs : EveryRunIsSafe
  pub clients : OldMessagesChangeNoClient
  pub servers : OldMessagesChangeNoServer

-- opens all that the promises of this crate are made of
unfoldable pub promises_open : ⊤
unfolding counts_open given_open held_open losses_open name_answers_open names_once_open
promises_open = tt
