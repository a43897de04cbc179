-- Written by tools/rows/world_rows.py.
use Rattle.std.proofs.Common.{[], ◌∷◌, refl}
use Rattle.st_base.specs.Page.{filled}
use Rattle.st_rules.specs.declared.log.Cause.TheVariants as causes
use Rattle.st_rules.specs.declared.log.Fate.TheVariants as fates
use Rattle.st_rows.specs.ClientWords.{lost_row}
use Rattle.st_rows_promises.specs.SafeWords.{safe_words_open}
use Rattle.st_rows_promises.proofs.WorldLogs.{through, written}
use Rattle.st_rows_promises.proofs.world_safety.failed_flush_is_safe.Goals as goal

pub returns : goal.returns
unfolding safe_words_open
returns c =
    record {
      alone = (refl, (refl, (refl, (refl, (refl, (refl, (refl, (refl, (refl, (refl, (refl, (refl, (refl, (refl, (refl, (refl, (refl, (refl, (refl, (refl, (refl, (refl, (refl, (refl, (refl, (refl, (refl, (refl, (refl, tt)))))))))))))))))))))))))))));
      reads = ((tt, tt), ((tt, tt), ((tt, (tt, tt)), ((tt, tt), ((tt, tt), ((tt, tt), ((tt, (tt, tt)), (tt, ((tt, (tt, tt)), (tt, ((tt, tt), ((tt, (tt, tt)), ((tt, tt), ((tt, tt), ((tt, (tt, tt)), ((tt, (tt, tt)), (tt, ((tt, tt), (tt, ((tt, tt), ((tt, tt), ((tt, tt), (tt, ((tt, (tt, tt)), ((tt, tt), ((tt, tt), ((tt, (tt, tt)), (tt, ((refl, tt), tt)))))))))))))))))))))))))))));
      causes = (refl, (refl, (refl, (refl, (refl, (refl, (refl, (refl, (refl, (refl, (refl, (refl, (refl, (refl, (refl, (refl, (refl, (refl, (refl, (refl, (refl, (refl, (refl, (refl, (refl, (refl, (refl, (refl, (refl, tt)))))))))))))))))))))))))))));
      stays = (refl, (refl, (refl, (refl, (refl, (refl, (refl, (refl, (refl, (refl, (refl, (refl, (refl, (refl, (refl, (refl, (refl, (refl, (refl, (refl, (refl, (refl, (refl, (refl, (refl, (refl, (refl, (refl, (refl, tt)))))))))))))))))))))))))))));
      hard = ((refl, tt), ((refl, tt), ((refl, (refl, tt)), ((refl, tt), ((refl, tt), ((refl, tt), ((refl, (refl, tt)), (tt, ((refl, (refl, tt)), (tt, ((refl, tt), ((refl, (refl, tt)), ((refl, tt), ((refl, tt), ((refl, (refl, tt)), ((refl, (refl, tt)), (tt, ((refl, tt), (tt, ((refl, tt), ((refl, tt), ((refl, tt), (tt, ((refl, (refl, tt)), ((refl, tt), ((refl, tt), ((refl, (refl, tt)), (tt, ((refl, tt), tt)))))))))))))))))))))))))))));
      thefts = (refl, (refl, (refl, (refl, (refl, (refl, (refl, (refl, (refl, (refl, (refl, (refl, (refl, (refl, (refl, (refl, (refl, (refl, (refl, (refl, (refl, (refl, (refl, (refl, (refl, (refl, (refl, (refl, (refl, tt)))))))))))))))))))))))))))));
      dates = (refl, (refl, (refl, (refl, (refl, (refl, (refl, (refl, (refl, (refl, (refl, (refl, (refl, (refl, (refl, (refl, (refl, (refl, (refl, (refl, (refl, (refl, (refl, (refl, (refl, (refl, (refl, (refl, (refl, tt)))))))))))))))))))))))))))));
      waits = (refl, (refl, (refl, (refl, (refl, (refl, (refl, (refl, (refl, (refl, (refl, (refl, (refl, (refl, (refl, (refl, (refl, (refl, (refl, (refl, (refl, (refl, (refl, (refl, (refl, (refl, (refl, (refl, (refl, tt)))))))))))))))))))))))))))));
      conflicts = (refl, (refl, (refl, (refl, (refl, (refl, (refl, (refl, (refl, (refl, (refl, (refl, (refl, (refl, (refl, (refl, (refl, (refl, (refl, (refl, (refl, (refl, (refl, (refl, (refl, (refl, (refl, (refl, (refl, tt)))))))))))))))))))))))))))));
      told = (record { entries = through ([]) refl refl; numbers = refl }, (record { entries = through ([]) refl refl; numbers = refl }, (record { entries = through ([]) refl refl; numbers = refl }, (record { entries = through ([]) refl refl; numbers = refl }, (record { entries = through ([]) refl refl; numbers = refl }, (record { entries = through ([]) refl refl; numbers = refl }, (record { entries = through (((written 1 1 1 2 0 (filled 77) fates.Pending) ∷ [])) refl refl; numbers = refl }, (record { entries = through (((written 1 1 1 2 0 (filled 77) fates.Pending) ∷ [])) refl refl; numbers = refl }, (record { entries = through (((written 1 1 1 2 0 (filled 77) fates.Pending) ∷ [])) refl refl; numbers = refl }, (record { entries = through (((written 1 1 1 2 0 (filled 77) fates.Pending) ∷ [])) refl refl; numbers = refl }, (record { entries = through (((written 1 1 1 2 0 (filled 77) (fates.Gone (causes.Failed 1))) ∷ [])) refl refl; numbers = refl }, (record { entries = through (((written 1 1 1 2 0 (filled 77) (fates.Gone (causes.Failed 1))) ∷ [])) refl refl; numbers = refl }, (record { entries = through (((written 1 1 1 2 0 (filled 77) (fates.Gone (causes.Failed 1))) ∷ [])) refl refl; numbers = refl }, (record { entries = through (((written 1 1 1 2 0 (filled 77) (fates.Gone (causes.Failed 1))) ∷ [])) refl refl; numbers = refl }, (record { entries = through (((written 1 1 1 2 0 (filled 77) (fates.Gone (causes.Failed 1))) ∷ [])) refl refl; numbers = refl }, (record { entries = through (((written 1 1 1 2 0 (filled 77) (fates.Gone (causes.Failed 1))) ∷ [])) refl refl; numbers = refl }, (record { entries = through (((written 1 1 1 2 0 (filled 77) (fates.Gone (causes.Failed 1))) ∷ [])) refl refl; numbers = refl }, (record { entries = through (((written 1 1 1 2 0 (filled 77) (fates.Gone (causes.Failed 1))) ∷ [])) refl refl; numbers = refl }, (record { entries = through (((written 1 1 1 2 0 (filled 77) (fates.Gone (causes.Failed 1))) ∷ [])) refl refl; numbers = refl }, (record { entries = through (((written 1 1 1 2 0 (filled 77) (fates.Gone (causes.Failed 1))) ∷ [])) refl refl; numbers = refl }, (record { entries = through (((written 1 1 1 2 0 (filled 77) (fates.Gone (causes.Failed 1))) ∷ [])) refl refl; numbers = refl }, (record { entries = through (((written 1 1 1 2 0 (filled 77) (fates.Gone (causes.Failed 1))) ∷ [])) refl refl; numbers = refl }, (record { entries = through (((written 1 1 1 2 0 (filled 77) (fates.Gone (causes.Failed 1))) ∷ [])) refl refl; numbers = refl }, (record { entries = through (((written 1 1 1 2 0 (filled 77) (fates.Gone (causes.Failed 1))) ∷ [])) refl refl; numbers = refl }, (record { entries = through (((written 1 1 1 2 0 (filled 77) (fates.Gone (causes.Failed 1))) ∷ [])) refl refl; numbers = refl }, (record { entries = through (((written 1 1 1 2 0 (filled 77) (fates.Gone (causes.Failed 1))) ∷ [])) refl refl; numbers = refl }, (record { entries = through (((written 1 1 1 2 0 (filled 77) (fates.Gone (causes.Failed 1))) ∷ [])) refl refl; numbers = refl }, (record { entries = through (((written 1 1 1 2 0 (filled 77) (fates.Gone (causes.Failed 1))) ∷ [])) refl refl; numbers = refl }, (record { entries = through (((written 1 1 1 2 0 (filled 77) (fates.Gone (causes.Failed 1))) ∷ [])) refl refl; numbers = refl }, tt)))))))))))))))))))))))))))));
      logged = ((tt, tt), ((tt, tt), ((tt, (tt, tt)), ((tt, tt), ((tt, tt), ((tt, tt), ((tt, (refl, tt)), (tt, ((tt, (tt, tt)), (tt, ((tt, tt), ((tt, (tt, tt)), ((tt, tt), ((tt, tt), ((tt, (tt, tt)), ((tt, (tt, tt)), (tt, ((tt, tt), (tt, ((tt, tt), ((tt, tt), ((tt, tt), (tt, ((tt, (tt, tt)), ((tt, tt), ((tt, tt), ((tt, (tt, tt)), (tt, ((tt, tt), tt)))))))))))))))))))))))))))));
      once = (refl, (refl, (refl, (refl, (refl, (refl, (refl, (refl, (refl, (refl, (refl, (refl, (refl, (refl, (refl, (refl, (refl, (refl, (refl, (refl, (refl, (refl, (refl, (refl, (refl, (refl, (refl, (refl, (refl, tt)))))))))))))))))))))))))))));
      locked = (refl, (refl, (refl, (refl, (refl, (refl, (refl, (refl, (refl, (refl, (refl, (refl, (refl, (refl, (refl, (refl, (refl, (refl, (refl, (refl, (refl, (refl, (refl, (refl, (refl, (refl, (refl, (refl, (refl, tt)))))))))))))))))))))))))))));
      order = (refl, (refl, (refl, (refl, (refl, (refl, (refl, (refl, (refl, (refl, (refl, (refl, (refl, (refl, (refl, (refl, (refl, (refl, (refl, (refl, (refl, (refl, (refl, (refl, (refl, (refl, (refl, (refl, (refl, tt)))))))))))))))))))))))))))));
      emptied = (refl, (refl, (refl, (refl, (refl, (refl, (refl, (refl, (refl, (refl, (refl, (refl, (refl, (refl, (refl, (refl, (refl, (refl, (refl, (refl, (refl, (refl, (refl, (refl, (refl, (refl, (refl, (refl, (refl, tt)))))))))))))))))))))))))))));
      history = (record { timers = refl; started = refl; graces = refl; begun = refl; dates = refl; grants = refl }, (record { timers = refl; started = refl; graces = refl; begun = refl; dates = refl; grants = refl }, (record { timers = refl; started = refl; graces = refl; begun = refl; dates = refl; grants = refl }, (record { timers = refl; started = refl; graces = refl; begun = refl; dates = refl; grants = refl }, (record { timers = refl; started = refl; graces = refl; begun = refl; dates = refl; grants = refl }, (record { timers = refl; started = refl; graces = refl; begun = refl; dates = refl; grants = refl }, (record { timers = refl; started = refl; graces = refl; begun = refl; dates = refl; grants = refl }, (record { timers = refl; started = refl; graces = refl; begun = refl; dates = refl; grants = refl }, (record { timers = refl; started = refl; graces = refl; begun = refl; dates = refl; grants = refl }, (record { timers = refl; started = refl; graces = refl; begun = refl; dates = refl; grants = refl }, (record { timers = refl; started = refl; graces = refl; begun = refl; dates = refl; grants = refl }, (record { timers = refl; started = refl; graces = refl; begun = refl; dates = refl; grants = refl }, (record { timers = refl; started = refl; graces = refl; begun = refl; dates = refl; grants = refl }, (record { timers = refl; started = refl; graces = refl; begun = refl; dates = refl; grants = refl }, (record { timers = refl; started = refl; graces = refl; begun = refl; dates = refl; grants = refl }, (record { timers = refl; started = refl; graces = refl; begun = refl; dates = refl; grants = refl }, (record { timers = refl; started = refl; graces = refl; begun = refl; dates = refl; grants = refl }, (record { timers = refl; started = refl; graces = refl; begun = refl; dates = refl; grants = refl }, (record { timers = refl; started = refl; graces = refl; begun = refl; dates = refl; grants = refl }, (record { timers = refl; started = refl; graces = refl; begun = refl; dates = refl; grants = refl }, (record { timers = refl; started = refl; graces = refl; begun = refl; dates = refl; grants = refl }, (record { timers = refl; started = refl; graces = refl; begun = refl; dates = refl; grants = refl }, (record { timers = refl; started = refl; graces = refl; begun = refl; dates = refl; grants = refl }, (record { timers = refl; started = refl; graces = refl; begun = refl; dates = refl; grants = refl }, (record { timers = refl; started = refl; graces = refl; begun = refl; dates = refl; grants = refl }, (record { timers = refl; started = refl; graces = refl; begun = refl; dates = refl; grants = refl }, (record { timers = refl; started = refl; graces = refl; begun = refl; dates = refl; grants = refl }, (record { timers = refl; started = refl; graces = refl; begun = refl; dates = refl; grants = refl }, (record { timers = refl; started = refl; graces = refl; begun = refl; dates = refl; grants = refl }, tt)))))))))))))))))))))))))))));
      losses = ((tt, tt), ((tt, tt), ((tt, (tt, tt)), ((tt, tt), ((tt, tt), ((tt, tt), ((tt, (tt, tt)), (tt, ((tt, (tt, tt)), (tt, ((tt, tt), ((tt, (through ((lost_row 0 1 ∷ [])) refl refl, tt)), ((tt, tt), ((tt, tt), ((tt, (tt, tt)), ((tt, (tt, tt)), (tt, ((tt, tt), (tt, ((tt, tt), ((tt, tt), ((tt, tt), (tt, ((tt, (tt, tt)), ((tt, tt), ((tt, tt), ((tt, (tt, tt)), (tt, ((tt, tt), tt)))))))))))))))))))))))))))));
      held = (tt, (tt, (tt, (tt, (tt, ((through (filled 0) refl refl, tt), ((through (filled 0) refl refl, (through (filled 0) refl refl, tt)), ((through (filled 0) refl refl, (through (filled 0) refl refl, tt)), ((through (filled 0) refl refl, (through (filled 0) refl refl, tt)), ((through (filled 0) refl refl, (through (filled 0) refl refl, tt)), ((through (filled 0) refl refl, (through (filled 0) refl refl, tt)), ((through (filled 0) refl refl, (through (filled 0) refl refl, tt)), ((through (filled 0) refl refl, (through (filled 0) refl refl, tt)), ((through (filled 0) refl refl, (through (filled 0) refl refl, tt)), ((through (filled 0) refl refl, (through (filled 0) refl refl, tt)), ((through (filled 0) refl refl, (through (filled 0) refl refl, tt)), ((through (filled 0) refl refl, (through (filled 0) refl refl, tt)), ((through (filled 0) refl refl, (through (filled 0) refl refl, tt)), ((through (filled 0) refl refl, (through (filled 0) refl refl, tt)), ((through (filled 0) refl refl, (through (filled 0) refl refl, tt)), ((through (filled 0) refl refl, (through (filled 0) refl refl, tt)), ((through (filled 0) refl refl, (through (filled 0) refl refl, tt)), ((through (filled 0) refl refl, (through (filled 0) refl refl, tt)), ((through (filled 0) refl refl, (through (filled 0) refl refl, tt)), ((through (filled 0) refl refl, (through (filled 0) refl refl, tt)), ((through (filled 0) refl refl, (through (filled 0) refl refl, tt)), ((through (filled 0) refl refl, (through (filled 0) refl refl, tt)), ((through (filled 0) refl refl, (through (filled 0) refl refl, tt)), ((through (filled 0) refl refl, (through (filled 0) refl refl, tt)), tt)))))))))))))))))))))))))))));
      faults = (refl, (refl, (refl, (refl, (refl, (refl, (refl, (refl, (refl, (refl, (refl, (refl, (refl, (refl, (refl, (refl, (refl, (refl, (refl, (refl, (refl, (refl, (refl, (refl, (refl, (refl, (refl, (refl, (refl, tt)))))))))))))))))))))))))))));
      numbers = (record { messages = refl; commands = refl; told = refl; counts = refl }, (record { messages = refl; commands = refl; told = refl; counts = refl }, (record { messages = refl; commands = refl; told = refl; counts = refl }, (record { messages = refl; commands = refl; told = refl; counts = refl }, (record { messages = refl; commands = refl; told = refl; counts = refl }, (record { messages = refl; commands = refl; told = refl; counts = refl }, (record { messages = refl; commands = refl; told = refl; counts = refl }, (record { messages = refl; commands = refl; told = refl; counts = refl }, (record { messages = refl; commands = refl; told = refl; counts = refl }, (record { messages = refl; commands = refl; told = refl; counts = refl }, (record { messages = refl; commands = refl; told = refl; counts = refl }, (record { messages = refl; commands = refl; told = refl; counts = refl }, (record { messages = refl; commands = refl; told = refl; counts = refl }, (record { messages = refl; commands = refl; told = refl; counts = refl }, (record { messages = refl; commands = refl; told = refl; counts = refl }, (record { messages = refl; commands = refl; told = refl; counts = refl }, (record { messages = refl; commands = refl; told = refl; counts = refl }, (record { messages = refl; commands = refl; told = refl; counts = refl }, (record { messages = refl; commands = refl; told = refl; counts = refl }, (record { messages = refl; commands = refl; told = refl; counts = refl }, (record { messages = refl; commands = refl; told = refl; counts = refl }, (record { messages = refl; commands = refl; told = refl; counts = refl }, (record { messages = refl; commands = refl; told = refl; counts = refl }, (record { messages = refl; commands = refl; told = refl; counts = refl }, (record { messages = refl; commands = refl; told = refl; counts = refl }, (record { messages = refl; commands = refl; told = refl; counts = refl }, (record { messages = refl; commands = refl; told = refl; counts = refl }, (record { messages = refl; commands = refl; told = refl; counts = refl }, (record { messages = refl; commands = refl; told = refl; counts = refl }, tt)))))))))))))))))))))))))))));
      cuts = (refl, (refl, (refl, (refl, (refl, (refl, (refl, (refl, (refl, (refl, (refl, (refl, (refl, (refl, (refl, (refl, (refl, (refl, (refl, (refl, (refl, (refl, (refl, (refl, (refl, (refl, (refl, (refl, (refl, tt)))))))))))))))))))))))))))));
      given = (refl, (refl, (refl, (refl, (refl, (refl, (refl, (refl, (refl, (refl, (refl, (refl, (refl, (refl, (refl, (refl, (refl, (refl, (refl, (refl, (refl, (refl, (refl, (refl, (refl, (refl, (refl, (refl, (refl, tt)))))))))))))))))))))))))))));
      rising = (refl, (refl, (refl, (refl, (refl, (refl, (refl, (refl, (refl, (refl, (refl, (refl, (refl, (refl, (refl, (refl, (refl, (refl, (refl, (refl, (refl, (refl, (refl, (refl, (refl, (refl, (refl, (refl, (refl, tt)))))))))))))))))))))))))))));
      acknowledged = (refl, (refl, (refl, (refl, (refl, (refl, (refl, (refl, (refl, (refl, (refl, (refl, (refl, (refl, (refl, (refl, (refl, (refl, (refl, (refl, (refl, (refl, (refl, (refl, (refl, (refl, (refl, (refl, (refl, tt)))))))))))))))))))))))))))));
      named = (refl, (refl, (refl, (refl, (refl, (refl, (refl, (refl, (refl, (refl, (refl, (refl, (refl, (refl, (refl, (refl, (refl, (refl, (refl, (refl, (refl, (refl, (refl, (refl, (refl, (refl, (refl, (refl, (refl, tt)))))))))))))))))))))))))))));
      renamed = (refl, (refl, (refl, (refl, (refl, (refl, (refl, (refl, (refl, (refl, (refl, (refl, (refl, (refl, (refl, (refl, (refl, (refl, (refl, (refl, (refl, (refl, (refl, (refl, (refl, (refl, (refl, (refl, (refl, tt)))))))))))))))))))))))))))));
      changed = (refl, (refl, (refl, (refl, (refl, (refl, (refl, (refl, (refl, (refl, (refl, (refl, (refl, (refl, (refl, (refl, (refl, (refl, (refl, (refl, (refl, (refl, (refl, (refl, (refl, (refl, (refl, (refl, (refl, tt)))))))))))))))))))))))))))));
      refused = (refl, (refl, (refl, (refl, (refl, (refl, (refl, (refl, (refl, (refl, (refl, (refl, (refl, (refl, (refl, (refl, (refl, (refl, (refl, (refl, (refl, (refl, (refl, (refl, (refl, (refl, (refl, (refl, (refl, tt)))))))))))))))))))))))))))));
    }
