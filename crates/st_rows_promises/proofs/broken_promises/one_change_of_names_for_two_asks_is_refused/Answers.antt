use Rattle.std.proofs.Common.{[], ◌∷◌, refl}
use Rattle.st_base.specs.Page.{filled}
use Rattle.st_rules.specs.declared.log.Fate.TheVariants as fates
use Rattle.st_rows_promises.specs.BrokenPromises.{broken_open}
use Rattle.st_rows_promises.proofs.WorldLogs.{through, written}
use Rattle.st_rows_promises.proofs.broken_promises.one_change_of_names_for_two_asks_is_refused.Goals as goal

pub returns-clause-kept : goal.returns-clause-kept
unfolding broken_open
returns-clause-kept c = record { alone = refl; reads = (tt, tt); causes = refl; stays = refl; hard = (refl, tt); thefts = refl; dates = refl; waits = refl; conflicts = refl; told = record { entries = through ((written 1 1 1 2 0 (filled 77) fates.Pending) ∷ []) refl refl; numbers = refl }; logged = (tt, tt); once = refl; locked = refl; order = refl; emptied = refl; history = record { timers = refl; started = refl; graces = refl; begun = refl; dates = refl; grants = refl }; losses = (tt, tt); held = (through (filled 0) refl refl, (through (filled 0) refl refl, tt)); faults = refl; numbers = record { messages = refl; commands = refl; told = refl; counts = refl }; cuts = refl; given = refl; rising = refl; acknowledged = refl; named = refl; renamed = refl; changed = tt; refused = refl }

pub returns-clause-before : goal.returns-clause-before
unfolding broken_open
returns-clause-before c = record { alone = refl; reads = (tt, tt); causes = refl; stays = refl; hard = (refl, tt); thefts = refl; dates = refl; waits = refl; conflicts = refl; told = record { entries = through ((written 1 1 1 2 0 (filled 77) fates.Pending) ∷ []) refl refl; numbers = refl }; logged = (tt, tt); once = refl; locked = refl; order = refl; emptied = refl; history = record { timers = refl; started = refl; graces = refl; begun = refl; dates = refl; grants = refl }; losses = (tt, tt); held = (through (filled 0) refl refl, (through (filled 0) refl refl, tt)); faults = refl; numbers = record { messages = refl; commands = refl; told = refl; counts = refl }; cuts = refl; given = refl; rising = refl; acknowledged = refl; named = refl; renamed = refl; changed = refl; refused = refl }
