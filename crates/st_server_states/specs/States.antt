-- The stable parts that a server may have, as the states of a journal's file.
use Rattle.std.specs.Prelude.{◌≡◌, true, Option, Some, None, refl}
use Rattle.st_crc32c.specs.Crc.{crc32c}
use Rattle.st_extents.specs.Layout.{IsWithinLimits, Shape}
use Rattle.st_journal.specs.Changes.{bytes_of, fits}
use Rattle.st_journal.specs.declared.change.Change.{Change}
use Rattle.st_journal_file.specs.Layout.{Format}
use Rattle.st_rules.specs.Server.{Stable}
use Rattle.st_server.specs.Invariants.{AreMapped, AreNamed}
use Rattle.st_snapshot.specs.Snapshots.{CanBe, Fits, HasShape, snapshot}
use Rattle.st_stable_file.specs.Stables.{changed}

-- What always holds of the stable part of a server in a world of this shape: its numbers have their widths; its names are in order, its pages are owned, and
-- both can be told in messages.
pub record MayHave (s : Shape) (t : Stable) : Type 0 where
  pub limits : IsWithinLimits s.server.0 s.servers s.disks s.blocks
  pub shape : HasShape s t
  pub fits : Fits t
  pub can : CanBe t
  pub named : AreNamed t.names
  pub mapped : AreMapped t.extents

-- a change whose numbers are in their ranges
pub record RangedChange : Type 0 where
  pub change : Change
  pub ranges : fits change ≡ true

-- Changes keep what always holds.
abbrev pub Keeps : Shape → Type 0
Keeps s = (t u : Stable) (x : Change) → MayHave s t → fits x ≡ true → changed t x ≡ Some u → MayHave s u

-- a stable part that a server may have
pub record State (s : Shape) : Type 0 where
  pub stable : Stable
  pub may : MayHave s stable

-- what a change makes of a state, by what it makes of the stable part
abbrev pub state_by : (s : Shape) → Keeps s → (t : State s) (x : RangedChange) (o : Option Stable) → changed t.stable x.change ≡ o → Option (State s)
state_by s k t x None e = None
state_by s k t x (Some u) e = Some (record { stable = u; may = k t.stable u x.change t.may x.ranges e })

-- The format of a server's journal: its states are the stable parts that a server may have.
abbrev pub states : (s : Shape) → Keeps s → Format (State s) RangedChange
states s k =
    record {
      snapshot = λ t. snapshot t.stable;
      spelled = λ x. bytes_of x.change;
      apply = λ t x. state_by s k t x (changed t.stable x.change) refl;
      sum = crc32c;
    }
