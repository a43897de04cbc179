-- What becomes of a pending operation in a client's pass over its operations, with the cause.
use Rattle.std.specs.Prelude.{◌≡◌, ℕ, true, false, List, Some, None}
use Rattle.st_base.specs.declared.disk.Command.TheVariants as commands
use Rattle.st_base.specs.declared.ids.FileId.{FileId}
use Rattle.st_base.specs.declared.ids.PageNo.{PageNo}
use Rattle.st_base.specs.declared.ids.Stamp.{Stamp}
use Rattle.st_base.specs.declared.mode.Mode.TheVariants as modes
use Rattle.st_base.specs.Page.{filled}
use Rattle.st_messages.specs.declared.answer.AppAnswer.TheVariants as answers
use Rattle.st_messages.specs.declared.ask.Ask.{Ask}
use Rattle.st_messages.specs.declared.ask.Ask.TheVariants as asks
use Rattle.st_messages.specs.declared.output.Note.{Note}
use Rattle.st_messages.specs.declared.output.Note.TheVariants as notes
use Rattle.st_messages.specs.declared.output.Output.TheVariants as outputs
use Rattle.st_rules.specs.declared.client.IoKind.TheVariants as io
use Rattle.st_rules.specs.declared.client.KnownExtent.{KnownExtent}
use Rattle.st_rules.specs.declared.client.MappedBlock.{MappedBlock}
use Rattle.st_rules.specs.declared.client.Operation.{Operation}
use Rattle.st_rules.specs.FlatLog.{overlay}
use Rattle.st_rules.specs.ClientPages as pages
use Rattle.st_rules.specs.ClientPasses as passes
use Rattle.st_rules.specs.ClientState.{ClientSession, Turn, answered, file_of, is_of, is_open_file, is_sent, is_serving, is_sync, keep, note, say, with_store}

-- A session serves the operation: its lease lasts, and the operation's file is neither demanded nor busy with those that were pending before the pass.
pub record Served (now : Stamp) (all : List Operation) (o : Operation) (t : Turn) (s : ClientSession) : Type 0 where
  pub own : is_of t.here.server o ≡ true
  pub session : t.here.session ≡ Some s
  pub serving : is_serving t.config s now ≡ true
  pub free : is_open_file all t.here.server s (file_of o.ask) ≡ true

-- What a page becomes by a write or a patch, and its note.
pub data Changed (ask : Ask) (t : Turn) : FileId → PageNo → List ℕ → Note → Type 0 where
  IsWritten : (f : FileId) (p : PageNo) (bytes : List ℕ) → ask ≡ asks.Write f p bytes → Changed ask t f p bytes (notes.Accepted f p bytes)
  IsPatched : (f : FileId) (p : PageNo) (at : ℕ) (bytes old : List ℕ) → ask ≡ asks.Patch f p at bytes → pages.cached t.here.store.pages f.ino p ≡ Some old →
      Changed ask t f p (overlay at bytes old) (notes.Patched f p at bytes)

-- Why a page is read from its disk: under a shared lock for a read, and under an exclusive one for a patch.
pub data Needs (ask : Ask) (t : Turn) (s : ClientSession) : FileId → PageNo → Type 0 where
  ToRead : (f : FileId) (p : PageNo) → ask ≡ asks.Read f p → passes.holds s modes.S f ≡ true → Needs ask t s f p
  ToPatch : (f : FileId) (p : PageNo) (at : ℕ) (bytes : List ℕ) → ask ≡ asks.Patch f p at bytes → passes.may_write t s f p ≡ true → Needs ask t s f p

-- What becomes of one operation: it waits, after those that wait, or it is answered. The ones after it in the pass are untouched.
pub data Operated (now : Stamp) (all : List Operation) (o : Operation) (t : Turn) : Turn → Type 0 where
  Waits : Operated now all o t (keep o t)
  IsHard : (f : FileId) → is_of t.here.server o ≡ true → o.ask ≡ asks.Sync f → pages.is_hard t.here.store f.ino ≡ true → Operated now all o t
      (answered t o.op answers.Hard)
  IsQuiesced : (s : ClientSession) → is_of t.here.server o ≡ true → is_sync o.ask ≡ false → t.here.session ≡ Some s → is_serving t.config s now ≡ false →
      is_sent o ≡ false →
      Operated now all o t (answered t o.op answers.Quiesced)
  ChangesPage : (s : ClientSession) (f : FileId) (p : PageNo) (bytes : List ℕ) (n : Note) → Served now all o t s → Changed o.ask t f p bytes n →
      passes.may_write t s f p ≡ true → pages.is_full_for t.here.store.pages f.ino p ≡ false →
      Operated now all o t (answered (passes.with_pages_changed (pages.written t.here.store.pages f.ino p bytes) f.ino p (note t n)) o.op answers.Written)
  IsDirtyFull : (s : ClientSession) (f : FileId) (p : PageNo) (bytes : List ℕ) (n : Note) → Served now all o t s → Changed o.ask t f p bytes n →
      passes.may_write t s f p ≡ true → pages.is_full_for t.here.store.pages f.ino p ≡ true → Operated now all o t (answered t o.op answers.DirtyFull)
  Fetches : (s : ClientSession) (f : FileId) (p : PageNo) (m : MappedBlock) → Served now all o t s → Needs o.ask t s f p →
      pages.cached t.here.store.pages f.ino p ≡ None → pages.mapping_of t.here.store.extents f.ino p ≡ Some m →
      pages.is_being_read t.here.store.commands f.ino p ≡ false →
      Operated now all o t (keep o (say (passes.with_command f.ino p io.Read t) (outputs.Submit t.next_command m.at (commands.Read m.at))))
  ReadsCached : (s : ClientSession) (f : FileId) (p : PageNo) (bytes : List ℕ) → Served now all o t s → o.ask ≡ asks.Read f p →
      passes.holds s modes.S f ≡ true →
      pages.cached t.here.store.pages f.ino p ≡ Some bytes →
      Operated now all o t (answered (with_store (record t.here.store { pages = pages.use_page t.here.store.pages f.ino p }) t) o.op (answers.Read bytes))
  ReadsZeros : (s : ClientSession) (f : FileId) (p : PageNo) (e : KnownExtent) → Served now all o t s → o.ask ≡ asks.Read f p →
      passes.holds s modes.S f ≡ true →
      pages.cached t.here.store.pages f.ino p ≡ None → pages.known_of t.here.store.extents f.ino p ≡ Some e → e.mapping ≡ None →
      Operated now all o t (answered t o.op (answers.Read (filled 0)))
