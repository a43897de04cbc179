-- What a client does if the lease of its session is over: everything of the server is lost, and each pending operation is answered.
use Rattle.std.specs.Prelude.{◌≡◌, ℕ, true, false, [], Some, None}
use Rattle.st_base.specs.declared.ids.FileId.{FileId}
use Rattle.st_base.specs.declared.ids.Stamp.{Stamp}
use Rattle.st_messages.specs.declared.answer.AppAnswer.TheVariants as answers
use Rattle.st_messages.specs.declared.ask.Ask.TheVariants as asks
use Rattle.st_messages.specs.declared.output.Note.TheVariants as notes
use Rattle.st_rules.specs.declared.client.Operation.{Operation}
use Rattle.st_rules.specs.Client as cl
use Rattle.st_rules.specs.ClientPages as pages
use Rattle.st_rules.specs.ClientState.{ClientSession, Turn, answered, is_of, is_sent, is_sync, keep, note, with_lost_rows, with_operations}
use Rattle.st_trace.specs.Client.Each.{Each}

-- the lost pages of a file are reported, and forgotten
abbrev pub tells_lost : Turn → ℕ → ℕ → Turn
tells_lost t op ino = answered (with_lost_rows (pages.untold t.here.lost ino) t) op (answers.Lost (pages.told_rows t.here.lost ino))

-- What becomes of one pending operation when a session is lost. One of another server stays pending, after those that stay.
pub data Ended (s : ClientSession) (o : Operation) (t : Turn) : Turn → Type 0 where
  IsElsewhere : is_of t.here.server o ≡ false → Ended s o t (keep o t)
  IsUncertain : is_of t.here.server o ≡ true → is_sent o ≡ true → Ended s o t (answered t o.op (answers.Uncertain s.epoch.0 0))
  IsToldLost : (f : FileId) → is_of t.here.server o ≡ true → is_sent o ≡ false → o.ask ≡ asks.Sync f → pages.has_lost t.here.lost f.ino ≡ true →
      Ended s o t (tells_lost t o.op f.ino)
  LostNothing : (f : FileId) → is_of t.here.server o ≡ true → is_sent o ≡ false → o.ask ≡ asks.Sync f → pages.has_lost t.here.lost f.ino ≡ false →
      Ended s o t (answered t o.op answers.Quiesced)
  IsQuiesced : is_of t.here.server o ≡ true → is_sent o ≡ false → is_sync o.ask ≡ false → Ended s o t (answered t o.op answers.Quiesced)

-- the loss is noted, and the dirty pages join the lost ones
abbrev pub loss_noted : Turn → Turn
loss_noted t = cl.with_lost_pages t.here.store (note t (notes.Lost t.here.server t.here.life))

-- A session is lost if its lease is over.
pub data Loses (now : Stamp) (t : Turn) : Turn → Type 0 where
  HasNoSession : t.here.session ≡ None → Loses now t t
  Lasts : (s : ClientSession) → t.here.session ≡ Some s → cl.is_over t s now ≡ false → Loses now t t
  IsLost : (s : ClientSession) (u : Turn) → t.here.session ≡ Some s → cl.is_over t s now ≡ true →
      Each (Ended s) t.operations (with_operations [] (loss_noted t)) u → Loses now t (cl.empty_here u)
