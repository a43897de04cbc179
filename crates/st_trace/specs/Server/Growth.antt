-- How far one step lets the part of a server grow that a crash keeps.
use Rattle.std.specs.Prelude.{◌≡◌, ◌≤◌, ◌+◌, ℕ, length}
use Rattle.st_messages.specs.declared.message.Body.{Body}
use Rattle.st_messages.specs.declared.message.Body.TheVariants as bodies
use Rattle.st_rules.specs.declared.input.ServerInput.{ServerInput}
use Rattle.st_rules.specs.declared.input.ServerInput.TheVariants.{Tick, Control}
use Rattle.st_rules.specs.Extents as extents
use Rattle.st_rules.specs.Server.{Stable}

-- how many pages a request asks for
abbrev pub pages_asked : Body → ℕ
pages_asked (bodies.Allocate ino g page count) = count
pages_asked body = 0

-- how many pages an input asks for
abbrev pub pages_in : ServerInput → ℕ
pages_in Tick = 0
pages_in (Control m) = pages_asked m.body

-- The epoch and the blocks are the same, at most one inode more has a number, and each birth is of a page that was asked for, and of a block.
pub record GrowsLittle (asked : ℕ) (old new : Stable) : Type 0 where
  pub epoch : new.epoch ≡ old.epoch
  pub inodes : new.names.next ≤ old.names.next + 1
  pub births : new.extents.births ≤ old.extents.births + asked
  pub placed : new.extents.births ≤ old.extents.births + length (extents.own_blocks old.extents)
  pub blocks : extents.own_blocks new.extents ≡ extents.own_blocks old.extents
