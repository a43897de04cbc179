-- How a journal's file spells a server's stable part and the changes to it, and what a change makes of the stable part.
use Rattle.std.specs.Prelude.{ℕ, ◌-◌, ◌^◌, nat_lt, if◌then◌else◌, Bool, true, Option, None}
use Rattle.st_crc32c.specs.Crc.{crc32c}
use Rattle.st_journal.specs.Changes.{bytes_of}
use Rattle.st_journal.specs.Stable.{apply, kept}
use Rattle.st_journal.specs.declared.change.Change.{Change}
use Rattle.st_journal.specs.declared.change.Change.TheVariants as kinds
use Rattle.st_journal_file.specs.Layout.{Format}
use Rattle.st_rules.specs.Server.{Stable}
use Rattle.st_snapshot.specs.Snapshots.{snapshot}

-- the counter that the change raises is not at its end
abbrev pub has_room : Stable → Change → Bool
has_room t kinds.Epoch = nat_lt t.epoch.0 (2 ^ 64 - 1)
has_room t (kinds.Allocate ino page count) = nat_lt t.extents.births (2 ^ 62)
has_room t (kinds.Create dir n) = nat_lt t.names.next (2 ^ 32 - 1)
has_room t (kinds.Mkdir dir n) = nat_lt t.names.next (2 ^ 32 - 1)
has_room t x = true

-- what a change makes of a stable part that has room for it, if it is not refused
abbrev pub changed : Stable → Change → Option Stable
changed t x = if has_room t x then kept (apply t x) else None

-- stable parts are spelled as snapshots, and changes as in a journal; the sum is CRC-32C
abbrev pub stables : Format Stable Change
stables = record { snapshot = snapshot; spelled = bytes_of; apply = changed; sum = crc32c }
