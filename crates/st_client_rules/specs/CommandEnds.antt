-- The page of a command that ended: it is not dirty, or no other command for it is outstanding.
use Rattle.std.specs.Prelude.{Bool, not, is_some}
use Rattle.st_rules.specs.declared.client.PageCommand.{PageCommand}
use Rattle.st_rules.specs.ClientPages as pages
use Rattle.st_rules.specs.ClientState.{Turn}

-- the page is not dirty
abbrev pub is_clean : Turn → PageCommand → Bool
is_clean t c = not (is_some (pages.dirty_of t.here.store.pages c.ino c.page))

-- no command for the page is outstanding
abbrev pub is_free : Turn → PageCommand → Bool
is_free t c = not (is_some (pages.command_on t.here.store.commands c.ino c.page))
