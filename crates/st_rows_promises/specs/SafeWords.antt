-- What rows compute of a run: every promise, and the words that open all that they are made of.
use Rattle.std.specs.Prelude.{List, [], ⊤}
use Rattle.st_messages.specs.declared.event.Event.{Event}
use Rattle.st_rules.specs.History.{traced}
use Rattle.st_rules.specs.Safety.{
  Step,
  Throughout,
  steps,
  DirtyPagesStandAlone,
  ReadsReturnLastWrites,
  DropsHaveACause,
  HardStaysHard,
  HardIsHard,
  TheftsComeLate,
  LeasesAreDatedFromRequests,
  GraceWaits,
  NoConflictIsSent,
  TheReportTellsTheLog,
  AnswersAreLogged,
  AsksAreAnsweredOnce,
  ChangesAreLocked,
  ChangesGoInTheOrderOfLocks,
  ExpiredLeasesEmptyClients,
  TheHistoryIsTheWorlds,
}
use Rattle.st_rules.specs.World.{World}
use Rattle.st_promises.specs.Acknowledgements.{CutsAreAcknowledged}
use Rattle.st_promises.specs.CutAsks.{CutsAreAsked}
use Rattle.st_promises.specs.Faults.{FaultsHaveACause}
use Rattle.st_promises.specs.Grants.{GrantNumbersAreGivenOnce, GrantNumbersRise}
use Rattle.st_promises.specs.Held.{DisksHoldWhatIsHard}
use Rattle.st_promises.specs.Losses.{LossesAreTold}
use Rattle.st_promises.specs.NameAnswers.{NamesAnswerTruly}
use Rattle.st_promises.specs.NameChanges.{NamesChangeAsAsked}
use Rattle.st_promises.specs.NamesOnce.{NamesChangeOnce}
use Rattle.st_promises.specs.Numbers.{LinesGiveTheNextNumbers, numbers_open}
use Rattle.st_promises.specs.Refusals.{RefusalsChangeNothing}
use Rattle.st_promises.specs.Safe.{promises_open}
use Rattle.st_rows_world.specs.WorldWords.{world_words_open}

-- Every promise is kept at every step. The counts are given as numbers: to compare all messages whole at each step takes too much memory.
pub record AreKept (xs : List Step) : Type 0 where
  pub alone : Throughout DirtyPagesStandAlone [] xs
  pub reads : Throughout ReadsReturnLastWrites [] xs
  pub causes : Throughout DropsHaveACause [] xs
  pub stays : Throughout HardStaysHard [] xs
  pub hard : Throughout HardIsHard [] xs
  pub thefts : Throughout TheftsComeLate [] xs
  pub dates : Throughout LeasesAreDatedFromRequests [] xs
  pub waits : Throughout GraceWaits [] xs
  pub conflicts : Throughout NoConflictIsSent [] xs
  pub told : Throughout TheReportTellsTheLog [] xs
  pub logged : Throughout AnswersAreLogged [] xs
  pub once : Throughout AsksAreAnsweredOnce [] xs
  pub locked : Throughout ChangesAreLocked [] xs
  pub order : Throughout ChangesGoInTheOrderOfLocks [] xs
  pub emptied : Throughout ExpiredLeasesEmptyClients [] xs
  pub history : Throughout TheHistoryIsTheWorlds [] xs
  pub losses : Throughout LossesAreTold [] xs
  pub held : Throughout DisksHoldWhatIsHard [] xs
  pub faults : Throughout FaultsHaveACause [] xs
  pub numbers : Throughout LinesGiveTheNextNumbers [] xs
  pub cuts : Throughout CutsAreAsked [] xs
  pub given : Throughout GrantNumbersAreGivenOnce [] xs
  pub rising : Throughout GrantNumbersRise [] xs
  pub acknowledged : Throughout CutsAreAcknowledged [] xs
  pub named : Throughout NamesAnswerTruly [] xs
  pub renamed : Throughout NamesChangeAsAsked [] xs
  pub changed : Throughout NamesChangeOnce [] xs
  pub refused : Throughout RefusalsChangeNothing [] xs

-- a run from a world
abbrev pub IsKeptRun : World → List Event → Type 0
IsKeptRun w es = AreKept (steps es (traced w))

unfoldable pub safe_words_open : ⊤
unfolding world_words_open promises_open numbers_open
safe_words_open = tt
