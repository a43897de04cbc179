-- What is pending belongs to a life before its lease end.
use Rattle.std.specs.Prelude.{◌≡◌, ◌≤◌, ◌<◌, ◌⊎◌, true, false, List, [], ◌∷◌, ◌++◌, Some}
use Rattle.st_base.specs.declared.ids.Stamp.{Stamp}
use Rattle.st_base.specs.declared.ids.NodeId.TheVariants as nodes
use Rattle.st_rules.specs.declared.log.LogEntry.{LogEntry}
use Rattle.st_rules.specs.declared.log.LogOwner.{LogOwner}
use Rattle.st_rules.specs.declared.world.LeaseLife.{LeaseLife}
use Rattle.st_rules.specs.FlatLog as log
use Rattle.st_rules.specs.World.{World, clock_of, numbered, ended_of, lease_end_of}
use Rattle.st_rules.specs.Events as ev

-- a fact of the owner of each entry that is pending
abbrev pub PendingAll : (LogOwner → Type 0) → List LogEntry → Type 0
PendingAll P [] = Unit {0}
PendingAll P (e ∷ es) = record { one : log.is_pending e.fate ≡ true → P e.of; rest : PendingAll P es }

-- the life of an owner has a lease, and its client's clock is below the end
pub record BeforeEnd (w : World) (o : LogOwner) : Type 0 where
  pub end : Stamp
  pub is : lease_end_of w o.client o.file.server o.life ≡ Some end
  pub before : (clock_of w (nodes.Client o.client)).0 < end.0

-- What is pending belongs to a life before its lease end.
abbrev pub FatesAreKept : World → Type 0
FatesAreKept w = PendingAll (BeforeEnd w) w.log

-- a life among others
abbrev pub Has : LeaseLife → List LeaseLife → Type 0
Has l [] = ⊥
Has l (x ∷ xs) = (l ≡ x) ⊎ Has l xs

-- owed at an advance: the life of what is pending is among those whose ends are looked at, with its end, and its client has a clock
pub record RowOf (w : World) (o : LogOwner) : Type 0 where
  pub row : LeaseLife
  pub there : Has row (ev.present_lives w.clients ++ w.ended)
  pub its : ev.is_of_life_over row 0 o ≡ true
  pub end_is : row.end ≡ lease_end_of w o.client o.file.server o.life
  pub clock : Stamp
  pub ticks : numbered w.clocks o.client.0 ≡ Some clock

-- a fact of the owner of each entry that is gone
abbrev pub GoneAll : (LogOwner → Type 0) → List LogEntry → Type 0
GoneAll P [] = Unit {0}
GoneAll P (e ∷ es) = record { one : log.counts e.fate ≡ false → P e.of; rest : GoneAll P es }

-- a crash ended the life of an owner
pub record IsCrashed (w : World) (o : LogOwner) : Type 0 where
  pub row : LeaseLife
  pub is : ended_of w o.client o.file.server o.life ≡ Some row
  pub crashed : row.crashed ≡ true

-- the clock of the owner's client has reached the end of its lease
pub record IsLate (w : World) (o : LogOwner) : Type 0 where
  pub end : Stamp
  pub is : lease_end_of w o.client o.file.server o.life ≡ Some end
  pub late : end.0 ≤ (clock_of w (nodes.Client o.client)).0

-- What is gone belongs to a life that a crash ended, or whose lease is over.
abbrev pub GoneHold : World → Type 0
GoneHold w = GoneAll (λ o. IsCrashed w o ⊎ IsLate w o) w.log
