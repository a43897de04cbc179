-- What a client does with an ask of an application, and with the end of a disk command, at one server.
use Rattle.std.specs.Prelude.{◌≡◌, ℕ, ◌==◌, true, false, List, Option, Some, None}
use Rattle.st_base.specs.declared.disk.Tag.{Tag}
use Rattle.st_base.specs.declared.ids.FileId.{FileId}
use Rattle.st_messages.specs.declared.answer.AppAnswer.TheVariants as answers
use Rattle.st_messages.specs.declared.ask.Ask.{Ask}
use Rattle.st_messages.specs.declared.ask.Ask.TheVariants as asks
use Rattle.st_rules.specs.declared.client.IoKind.TheVariants as io
use Rattle.st_rules.specs.declared.client.PageCommand.{PageCommand}
use Rattle.st_rules.specs.Client as cl
use Rattle.st_rules.specs.ClientPages as pages
use Rattle.st_rules.specs.ClientState.{Turn, answer_each, is_sync, keep, new_operation, with_store}
use Rattle.st_trace.specs.Client.Losses.{tells_lost}

-- An ask is taken at its server: it waits, or it is a sync that is answered with lost pages at once.
pub data Takes (op : ℕ) (ask : Ask) (t : Turn) : Turn → Type 0 where
  TellsLost : (f : FileId) → ask ≡ asks.Sync f → pages.has_lost t.here.lost f.ino ≡ true → Takes op ask t (tells_lost t op f.ino)
  WaitsForSync : (f : FileId) → ask ≡ asks.Sync f → pages.has_lost t.here.lost f.ino ≡ false → Takes op ask t (keep (new_operation op ask) t)
  Waits : is_sync ask ≡ false → Takes op ask t (keep (new_operation op ask) t)

-- a command is no longer outstanding
abbrev pub without : PageCommand → Turn → Turn
without c t = cl.with_commands (pages.without_command c.number t.here.store.commands) t

-- the pages change
abbrev pub with_pages : pages.Pages → Turn → Turn
with_pages ps t = with_store (record t.here.store { pages = ps }) t

-- the command of this number is outstanding
pub record IsOutstanding (number : ℕ) (t : Turn) (c : PageCommand) : Type 0 where
  pub there : pages.command_of t.here.store.commands number ≡ Some c
  pub numbered : c.number ≡ number

-- How the end of a command is taken: with what was read, or none, or as a failure.
pub data Finishes (number : ℕ) (result : Option (Option (Tag × List ℕ))) (t : Turn) : Turn → Type 0 where
  IsUnknown : pages.command_of t.here.store.commands number ≡ None → Finishes number result t t
  -- a result whose kind is not that of the command
  IsOfOtherKind : (c : PageCommand) (block : Option (Tag × List ℕ)) → IsOutstanding number t c → result ≡ Some block → cl.is_result_of c.kind block ≡ false →
      Finishes number result t t
  Fills : (c : PageCommand) (block : Tag × List ℕ) → IsOutstanding number t c → c.kind ≡ io.Read → result ≡ Some (Some block) →
      Finishes number result t
      (cl.with_filled c (pages.found t.here.store.extents (cl.file_of_command t c) c.page block.0 block.1) (without c t))
  -- a write is done, of the page as it is now, or of an older version of it
  Hardens : (c : PageCommand) (v : ℕ) → IsOutstanding number t c → c.kind ≡ io.Write v → result ≡ Some None →
      pages.version_of t.here.store.pages c.ino c.page ≡ v →
      Finishes number result t (with_pages (pages.harden t.here.store.pages c.ino c.page) (without c t))
  WroteOlder : (c : PageCommand) (v : ℕ) → IsOutstanding number t c → c.kind ≡ io.Write v → result ≡ Some None →
      (v == pages.version_of t.here.store.pages c.ino c.page) ≡ false → Finishes number result t (without c t)
  -- a read failed, a write of the page as it is now, and a write of an older version of it
  FailsToRead : (c : PageCommand) → IsOutstanding number t c → c.kind ≡ io.Read → result ≡ None →
      Finishes number result t (answer_each (cl.waits_for_read t c) (answers.DiskFault c.number) (without c t))
  FailsToWrite : (c : PageCommand) (v : ℕ) → IsOutstanding number t c → c.kind ≡ io.Write v → result ≡ None → cl.is_present t c v ≡ true →
      Finishes number result t
      (answer_each (cl.waits_for_write t c) (answers.DiskFault c.number) (with_pages (pages.fail t.here.store.pages c.ino c.page c.number) (without c t)))
  FailsToWriteOlder : (c : PageCommand) (v : ℕ) → IsOutstanding number t c → c.kind ≡ io.Write v → result ≡ None → cl.is_present t c v ≡ false →
      Finishes number result t (answer_each (cl.waits_for_write t c) (answers.DiskFault c.number) (without c t))
