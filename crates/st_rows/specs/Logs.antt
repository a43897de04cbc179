-- Logs of one page: a write of 77, a patch over its last two bytes, and what becomes of them.
use Rattle.std.specs.Prelude.{ℕ, ◌∷◌, [], List, Bool, ◌&&◌, not, nat_le, ⊤}
use Rattle.st_base.specs.declared.ids.FileId.{FileId}
use Rattle.st_base.specs.declared.ids.PageNo.{PageNo}
use Rattle.st_base.specs.Page.{filled}
use Rattle.st_rules.specs.declared.log.Cause.{Cause}
use Rattle.st_rules.specs.declared.log.Cause.TheVariants.{Crash, Failed}
use Rattle.st_rules.specs.declared.log.Fate.{Fate}
use Rattle.st_rules.specs.declared.log.Change.TheVariants.{Write, Patch}
use Rattle.st_rules.specs.declared.log.LogEntry.{LogEntry}
use Rattle.st_rules.specs.declared.log.LogOwner.{LogOwner}
use Rattle.st_rules.specs.FlatLog.{accept, patch, owner, is_of_client, is_of_life}
use Rattle.st_rules.specs.Rules.{rules_open}
use Rattle.st_rows.specs.Words.{c, life, file, page}

-- the two entries of the first client's first life
unfoldable pub patched : List LogEntry
patched = patch (accept [] (c 1) (life 1) (file 2) (page 0) (filled 77)) (c 1) (life 1) (file 2) (page 0) 4094 (5 ∷ 5 ∷ [])

abbrev pub the_write : Fate → LogEntry
the_write fate = record { of = owner (c 1) (life 1) (file 2) (page 0); change = Write (filled 77); fate = fate }

abbrev pub the_patch : Fate → LogEntry
the_patch fate = record { of = owner (c 1) (life 1) (file 2) (page 0); change = Patch 4094 (5 ∷ 5 ∷ []); fate = fate }

-- and a write of another page, and one of another client
abbrev pub other_page : Fate → LogEntry
other_page fate = record { of = owner (c 1) (life 1) (file 2) (page 1); change = Write (filled 6); fate = fate }

abbrev pub other_client : Fate → LogEntry
other_client fate = record { of = owner (c 2) (life 1) (file 2) (page 0); change = Write (filled 7); fate = fate }

abbrev pub crashed : FileId → PageNo → Cause
crashed f p = Crash

-- the entries of a client, except for those of a page up to a number
abbrev pub of_first_but : ℕ → ℕ → LogOwner → Bool
of_first_but kept number o = is_of_client (c 1) o && not (nat_le number kept)

-- a write of a later life, and one of another server's file
abbrev pub later_life : Fate → LogEntry
later_life fate = record { of = owner (c 1) (life 2) (file 2) (page 0); change = Write (filled 8); fate = fate }

abbrev pub other_server : Fate → LogEntry
other_server fate = record { of = owner (c 1) (life 1) (record { server = record { 0 = 2 }; ino = 2 }) (page 0); change = Write (filled 9); fate = fate }

-- the entries of the first life at the first server, and their cause
abbrev pub of_one_life : ℕ → LogOwner → Bool
of_one_life number o = is_of_life (c 1) (record { 0 = 1 }) (life 1) o

abbrev pub failed : FileId → PageNo → Cause
failed f p = Failed 4

unfoldable pub log_rows_open : ⊤
unfolding rules_open patched
log_rows_open = tt
