-- Names with a directory in a directory.
use Rattle.std.specs.Prelude.{ℕ, Bool, true, false, List, [], ◌∷◌, ◌++◌, map, codes, ⊤}
use Rattle.st_rules.specs.declared.names.NameEntry.{NameEntry}
use Rattle.st_rules.specs.Names.{Names, fresh_names}
use Rattle.st_rules.specs.Extents.{numbers}
use Rattle.st_rules.specs.Rules.{rules_open}

abbrev pub entry_in : ℕ → List ℕ → ℕ → Bool → NameEntry
entry_in dir name ino directory = record { dir = dir; name = name; ino = ino; directory = directory }

abbrev pub named : List NameEntry → ℕ → Names
named entries next = record { entries = entries; next = next; limit = 4096 }

-- the root has the fresh files and the directory 10; that has a directory and two files
unfoldable pub deep : Names
deep =
    named
    (fresh_names.entries
    ++ (entry_in 1 (codes "d") 10 true ∷ entry_in 10 (codes "e") 11 true ∷ entry_in 10 (codes "ee") 12 false ∷ entry_in 10 (codes "Z") 13 false ∷ []))
    14

-- this number of files in the root
abbrev pub crowd : ℕ → NameEntry
crowd ino = entry_in 1 (100 ∷ ino ∷ []) ino false

unfoldable pub crowded : ℕ → Names
crowded count = named (map crowd (numbers 10 count)) 5000

unfoldable pub directories_open : ⊤
unfolding rules_open deep crowded
directories_open = tt
