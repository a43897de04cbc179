use Rattle.std.proofs.Common.{◌++◌, ◌∷◌, [], refl}
use Rattle.st_journal.specs.Journal.{framed}
use Rattle.st_journal.proofs.Appends.{torn_append, done_append}
use Rattle.st_journal.proofs.laws.appends_survive_crashes.Goals as goal

pub returns-clause-any_moment : goal.returns-clause-any_moment
returns-clause-any_moment c = λ bytes xs x gate left j at f room torn. torn_append bytes xs x (framed x ++ 0 ∷ []) gate j at refl f room left torn

pub returns-clause-done : goal.returns-clause-done
returns-clause-done c = λ bytes xs x gate j at f room. done_append bytes xs x (framed x ++ 0 ∷ []) gate j at refl f room
