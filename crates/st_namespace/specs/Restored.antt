-- What a call that restores names from a list of entries answers.
use Rattle.std.specs.Prelude.{ℕ, ◌≡◌, ◌≤◌, ◌<◌, ◌+◌, true, false, All, List, [], ◌∷◌, length, ⊤}
use Rattle.std.specs.List.{AllByRecursion, IsDistinct, list_any}
use Rattle.st_rules.specs.declared.names.NameEntry.{NameEntry}
use Rattle.st_rules.specs.Names.{Names, is_entry_at}
use Rattle.st_namespace.specs.Order.{IsRising, of_one_name}
use Rattle.st_namespace.specs.declared.restored.RestoreRefusal.{RestoreRefusal}
use Rattle.st_namespace.specs.declared.restored.RestoreRefusal.TheVariants.{NotRising, NotYetGiven, NameTwice, TooMany, Memory}

-- names of these entries
abbrev pub names_of : List NameEntry → ℕ → ℕ → Names
names_of es next limit = record { entries = es; next = next; limit = limit }

-- Each refusal says what does not hold of the names, though it holds of every server's; or that memory ran out.
abbrev pub IsRefused : RestoreRefusal → Names → Type 0
IsRefused NotRising n = IsRising n.entries → ⊥
IsRefused NotYetGiven n = All (λ e. e.ino < n.next) n.entries → ⊥
IsRefused NameTwice n = IsDistinct of_one_name n.entries → ⊥
IsRefused TooMany n = length n.entries < n.limit → ⊥
IsRefused Memory n = ⊤

-- the least inode that an entry after these may have
abbrev pub low_after : ℕ → List NameEntry → ℕ
low_after low [] = low
low_after low (e ∷ es) = low_after (e.ino + 1) es

-- an entry may come after these
pub record ComesAfter (low next : ℕ) (es : List NameEntry) (e : NameEntry) : Type 0 where
  pub rising : low ≤ e.ino
  pub given : e.ino < next
  pub fresh : list_any (is_entry_at e.dir e.name) es ≡ false

-- why an entry does not come after these, or that memory ran out
abbrev pub IsAgainst : RestoreRefusal → ℕ → ℕ → List NameEntry → NameEntry → Type 0
IsAgainst NotRising low next es e = e.ino < low
IsAgainst NotYetGiven low next es e = next ≤ e.ino
IsAgainst NameTwice low next es e = list_any (is_entry_at e.dir e.name) es ≡ true
IsAgainst TooMany low next es e = ⊥
IsAgainst Memory low next es e = ⊤

-- what holds of entries that were put in one after another
pub record AreRestored (low next : ℕ) (es : List NameEntry) : Type 0 where
  pub last : low ≡ low_after 0 es
  pub below : All (λ e. e.ino < low) es
  pub rising : IsRising es
  pub given : All (λ e. e.ino < next) es
  pub names : IsDistinct of_one_name es
