-- What a client does at a server at the end of a step: a pass over its operations, reductions, writes, a greeting and a request.
use Rattle.std.specs.Prelude.{◌≡◌, ℕ, Bool, true, List, [], Option, Some, None}
use Rattle.st_base.specs.declared.disk.Command.TheVariants as commands
use Rattle.st_base.specs.declared.ids.GrantNo.{GrantNo}
use Rattle.st_base.specs.declared.ids.PageNo.{PageNo}
use Rattle.st_base.specs.declared.ids.Stamp.{Stamp}
use Rattle.st_base.specs.declared.mode.Mode.{Mode}
use Rattle.st_messages.specs.declared.output.Output.TheVariants as outputs
use Rattle.st_rules.specs.declared.pages.DirtyPage.{DirtyPage}
use Rattle.st_rules.specs.declared.client.IoKind.TheVariants as io
use Rattle.st_rules.specs.declared.client.MappedBlock.{MappedBlock}
use Rattle.st_rules.specs.ClientLocks as locks
use Rattle.st_rules.specs.ClientPages as pages
use Rattle.st_rules.specs.ClientPages.{Pages}
use Rattle.st_rules.specs.ClientPasses as passes
use Rattle.st_rules.specs.ClientState.{ClientSession, Turn, say, with_cache, with_operations, with_session, with_store}
use Rattle.st_trace.specs.Client.Each.{Each}
use Rattle.st_trace.specs.Client.Operations.{Operated}
use Rattle.st_trace.specs.Client.Requests.{Greets, Requests}

-- What becomes of a demanded file: it stays, or its lock is reduced to what is demanded, if it is idle and not busy.
pub data Reduced (ino : ℕ) (t : Turn) : Turn → Type 0 where
  StaysHeld : Reduced ino t t
  IsReduced : (s : ClientSession) (g : GrantNo) (to : Mode) → t.here.session ≡ Some s → passes.may_reduce t s ino ≡ true →
      (locks.reduce s.locks ino).given ≡ Some (g, to) →
      Reduced ino t (with_store (passes.forgotten_at ino to t.here.store)
      (with_session (passes.released (with_cache (locks.reduce s.locks ino).locks s) ino g to) t))

-- a write of a dirty page is submitted
abbrev pub submits_write : Turn → DirtyPage → MappedBlock → Turn
submits_write t d m =
    say (passes.with_command d.ino d.page (io.Write d.version) t)
    (outputs.Submit t.next_command m.at (commands.Write m.at (record { file = passes.file t d.ino; page = d.page; birth = m.birth }) d.bytes))

-- What becomes of a dirty page: it stays, or it is written out if that is due.
pub data WritesOut (now : Stamp) (tick : Bool) (place : ℕ × PageNo) (t : Turn) : Turn → Type 0 where
  StaysDirty : WritesOut now tick place t t
  IsWritten : (s : ClientSession) (d : DirtyPage) (m : MappedBlock) → t.here.session ≡ Some s → pages.dirty_of t.here.store.pages place.0 place.1 ≡ Some d →
      passes.is_writable t s now tick d ≡ true → pages.mapping_of t.here.store.extents d.ino d.page ≡ Some m → WritesOut now tick place t (submits_write t d m)

-- the dirty pages that are looked at: all of them, if there is a session
abbrev pub places_of : Option ClientSession → Pages → List (ℕ × PageNo)
places_of None ps = []
places_of (Some s) ps = pages.dirty_places ps

-- All passes, one after another, with the turns between them.
pub record Passed (now : Stamp) (tick : Bool) (t u : Turn) : Type 0 where
  pub operated : Turn
  pub reduced : Turn
  pub written : Turn
  pub greeted : Turn
  pub operations : Each (Operated now t.operations) t.operations (with_operations [] t) operated
  pub reductions : Each Reduced (passes.files_demanded operated.here.session) operated reduced
  pub writes : Each (WritesOut now tick) (places_of reduced.here.session reduced.here.store.pages) reduced written
  pub greeting : Greets now tick written greeted
  pub requests : Requests now tick greeted u
