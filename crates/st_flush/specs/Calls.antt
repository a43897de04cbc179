-- The outstanding disk commands of a client for one server's files: what always holds of them, and what their calls answer.
use Rattle.std.specs.Prelude.{◌≡◌, ℕ, ◌+◌, ◌==◌, ◌&&◌, not, nat_le, nat_lt, Bool, true, List, [], is_some, length}
use Rattle.std.specs.List.{list_any}
use Rattle.st_base.specs.declared.ids.PageNo.{PageNo}
use Rattle.st_base.specs.declared.ids.ServerId.{ServerId}
use Rattle.st_rules.specs.declared.client.Ended.{Ended}
use Rattle.st_rules.specs.declared.client.IoKind.{IoKind}
use Rattle.st_rules.specs.declared.client.PageCommand.{PageCommand}
use Rattle.st_rules.specs.ClientPages.{CommandEnd, begin_command, command_on}
use Rattle.st_rules.specs.Keys.{same_page}
use Rattle.st_rules.specs.ClientInvariants.{same_page_command, same_command_number}
use Rattle.st_rules.specs.ServerInvariants.{are_once}

-- the outstanding commands for a server's files
pub record ServerCommands : Type 0 where
  pub server : ServerId
  pub commands : List PageCommand

-- nothing is outstanding
abbrev pub no_commands_of : ServerId → ServerCommands
no_commands_of s = record { server = s; commands = [] }

-- other commands of the same server
abbrev pub with_commands : List PageCommand → ServerCommands → ServerCommands
with_commands cs s = record s { commands = cs }

-- a command of a page is outstanding
abbrev pub with_begun : ℕ → ℕ → PageNo → IoKind → ServerCommands → ServerCommands
with_begun number ino page kind s = with_commands (begin_command s.commands number ino page kind) s

-- What always holds: a page has at most one command, and each number is that of one command.
pub record AreApart (cs : List PageCommand) : Type 0 where
  pub one_command : are_once same_page_command cs ≡ true
  pub numbers_once : are_once same_command_number cs ≡ true

-- two writes of one page
abbrev pub same_page_write : ℕ × PageNo × ℕ → ℕ × PageNo × ℕ → Bool
same_page_write w v = (v.0 == w.0) && same_page v.1 w.1

-- the page of a write has an outstanding command
abbrev pub is_taken_in : List PageCommand → ℕ × PageNo × ℕ → Bool
is_taken_in cs w = is_some (command_on cs w.0 w.1)

-- the command has one of this many numbers from the first one on
abbrev pub is_in_range : ℕ → ℕ → PageCommand → Bool
is_in_range first many c = nat_le first c.number && nat_lt c.number (first + many)

-- Writes that may begin, numbered from the first one on: their pages differ and have no outstanding command, and no
-- outstanding command has one of their numbers.
abbrev pub may_begin : List PageCommand → List (ℕ × PageNo × ℕ) → ℕ → Bool
may_begin cs ws first = are_once same_page_write ws && (not (list_any (is_taken_in cs) ws) && not (list_any (is_in_range first (length ws)) cs))

-- a command, as its number tells it
abbrev pub told : PageCommand → ℕ × PageNo × IoKind
told c = (c.ino, c.page, c.kind)

-- a command, as its page tells it
abbrev pub told_on : PageCommand → ℕ × IoKind
told_on c = (c.number, c.kind)

-- the end of a command leaves and answers what its definition says
abbrev pub Ends : ServerCommands → ServerCommands → Ended → CommandEnd → Type 0
Ends old new ended e = (ended ≡ e.ended) × (new ≡ with_commands e.commands old)
