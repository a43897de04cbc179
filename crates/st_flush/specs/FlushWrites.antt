-- The writes of the flush phase: all dirty pages without an outstanding write, without a failed command and with a known block
-- go out at once.
use Rattle.std.specs.Prelude.{ℕ, ◌+◌, Bool, ◌&&◌, not, if◌then◌else◌, List, [], ◌∷◌, ◌++◌, Option, Some, None, filter_map, length, map}
use Rattle.st_base.specs.declared.disk.Command.{Command}
use Rattle.st_base.specs.declared.disk.Command.TheVariants as commands
use Rattle.st_base.specs.declared.ids.FileId.{FileId}
use Rattle.st_base.specs.declared.ids.PageNo.{PageNo}
use Rattle.st_base.specs.declared.ids.ServerId.{ServerId}
use Rattle.st_messages.specs.declared.output.Output.{Output}
use Rattle.st_messages.specs.declared.output.Output.TheVariants as outputs
use Rattle.st_rules.specs.declared.client.MappedBlock.{MappedBlock}
use Rattle.st_rules.specs.declared.pages.DirtyPage.{DirtyPage}
use Rattle.st_rules.specs.ClientPages as pages
use Rattle.st_rules.specs.ClientPages.{Store}
use Rattle.st_rules.specs.ClientPasses.{is_unfailed}
use Rattle.st_rules.specs.ClientState.{Turn}

-- a dirty page that goes out, and where it lies
pub record Draining : Type 0 where
  pub page : DirtyPage
  pub mapping : MappedBlock

-- the page has no outstanding write and no failed command
abbrev pub is_drained : Store → DirtyPage → Bool
is_drained st d = not (pages.is_being_written st.commands d.ino d.page) && is_unfailed d

-- the page and its block, if that is known
abbrev pub drained_to : DirtyPage → Option MappedBlock → Option Draining
drained_to d None = None
drained_to d (Some m) = Some (record { page = d; mapping = m })

-- a dirty page that goes out
abbrev pub drained_by : Store → DirtyPage → Option Draining
drained_by st d = if is_drained st d then drained_to d (pages.mapping_of st.extents d.ino d.page) else None

-- if the page is dirty
abbrev pub drained_of : Store → Option DirtyPage → Option Draining
drained_of st None = None
drained_of st (Some d) = drained_by st d

-- the page of a place, if it goes out
abbrev pub drained_at : Store → ℕ × PageNo → Option Draining
drained_at st x = drained_of st (pages.dirty_of st.pages x.0 x.1)

-- the pages that go out, by rising file and page
unfoldable pub drained : Store → List Draining
drained st = filter_map (drained_at st) (pages.dirty_places st.pages)

-- a page that goes out, as its command is begun
abbrev pub version_of : Draining → ℕ × PageNo × ℕ
version_of w = (w.page.ino, w.page.page, w.page.version)

-- a file of the server
abbrev pub file_of : ServerId → ℕ → FileId
file_of server ino = record { server = server; ino = ino }

-- what is written
abbrev pub command_of : ServerId → Draining → Command
command_of server w = commands.Write w.mapping.at (record { file = file_of server w.page.ino; page = w.page.page; birth = w.mapping.birth }) w.page.bytes

-- the command of a number is submitted
abbrev pub submit_of : ServerId → ℕ → Draining → Output
submit_of server number w = outputs.Submit number w.mapping.at (command_of server w)

-- commands are submitted, numbered one after another
unfoldable pub submits : ServerId → ℕ → List Draining → List Output
submits server first [] = []
submits server first (w ∷ ws) = submit_of server first w ∷ submits server (first + 1) ws

-- the store with these writes outstanding
abbrev pub with_writes : List Draining → ℕ → Store → Store
with_writes ws first st = record st { commands = pages.begin_writes st.commands (map version_of ws) first }

-- these pages go out
unfoldable pub drain_out : List Draining → Turn → Turn
drain_out ws t =
    record t {
      here = record t.here { store = with_writes ws t.next_command t.here.store };
      next_command = t.next_command + length ws;
      out = t.out ++ submits t.here.server t.next_command ws;
    }

-- All that is due in the flush phase goes out.
unfoldable pub drain : Turn → Turn
drain t = drain_out (drained t.here.store) t
