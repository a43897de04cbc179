-- Asks, ends of commands and losses don't read what was said before.
use Rattle.st_lemmas.proofs.Words
use Words.{◌≡◌, ℕ, List, Option, Some, None, refl, Output, Tag, FileId, Ask, Ended, IoKind, Operation, PageCommand}
use Words.answers
use Words.asks
use Words.ends.{Unknown, Filled, Hard, Redirty, Failed}
use Words.io.{Read, Write}
use Words.Client as rules
use Words.Client.{filled_by, hardened, mark_failed, failed_as, finish_as, tell_lost, end_sync, end_unsent, end_operation, enqueue, take_sync, take_by, take_ask}
use Words.ClientPages as pages
use Words.ClientState.{ClientSession, Turn, is_sent}
use Rattle.st_client_frames.proofs.Framing.{either, says, told}
use Rattle.st_client_frames.specs.Frames.{after}

-- Ends of commands.

frame_filled : (xs : List Output) (t : Turn) (c : PageCommand) (block : Option (Tag × List ℕ)) → filled_by (after xs t) c block ≡ after xs (filled_by t c block)
unfolding filled_by
frame_filled xs t c None = refl
frame_filled xs t c (Some block) = refl

pub frame_mark_failed : (xs : List Output) (t : Turn) (c : PageCommand) (version : ℕ) → mark_failed (after xs t) c version ≡ after xs (mark_failed t c version)
unfolding mark_failed
frame_mark_failed xs t c version = either (rules.is_present t c version) xs _ _ _ _ refl refl

frame_failed_as : (xs : List Output) (t : Turn) (c : PageCommand) (kind : IoKind) → failed_as (after xs t) c kind ≡ after xs (failed_as t c kind)
unfolding failed_as
frame_failed_as xs t c Read = told _ (answers.DiskFault c.number) xs t
frame_failed_as xs t c (Write version) =
    rw (frame_mark_failed xs t c version) (told (rules.waits_for_write t c) (answers.DiskFault c.number) xs (mark_failed t c version))

pub frame_finish_as : (xs : List Output) (t : Turn) (c : PageCommand) (block : Option (Tag × List ℕ)) (ended : Ended) →
    finish_as (after xs t) c block ended ≡ after xs (finish_as t c block ended)
unfolding finish_as hardened
frame_finish_as xs t c block Unknown = refl
frame_finish_as xs t c block Filled = frame_filled xs t c block
frame_finish_as xs t c block Hard = refl
frame_finish_as xs t c block Redirty = refl
frame_finish_as xs t c block Failed = frame_failed_as xs t c c.kind

-- Asks.

frame_tell_lost : (xs : List Output) (t : Turn) (op ino : ℕ) → tell_lost (after xs t) op ino ≡ after xs (tell_lost t op ino)
unfolding tell_lost
frame_tell_lost xs t op ino = says xs (record t { here = record t.here { lost = pages.untold t.here.lost ino } }) _

frame_take_sync : (xs : List Output) (t : Turn) (op : ℕ) (ask : Ask) (f : FileId) → take_sync (after xs t) op ask f ≡ after xs (take_sync t op ask f)
unfolding take_sync enqueue
frame_take_sync xs t op ask f = either (pages.has_lost t.here.lost f.ino) xs _ _ _ _ (frame_tell_lost xs t op f.ino) refl

frame_take_by : (xs : List Output) (t : Turn) (op : ℕ) (ask other : Ask) → take_by (after xs t) op ask other ≡ after xs (take_by t op ask other)
unfolding take_by enqueue
frame_take_by xs t op ask (asks.Sync f) = frame_take_sync xs t op ask f
frame_take_by xs t op ask (asks.Write f p bytes) = refl
frame_take_by xs t op ask (asks.Read f p) = refl
frame_take_by xs t op ask (asks.Cut f p) = refl
frame_take_by xs t op ask (asks.Name s name) = refl
frame_take_by xs t op ask (asks.Patch f p at bytes) = refl

pub frame_take_ask : (xs : List Output) (t : Turn) (op : ℕ) (ask : Ask) → take_ask op ask (after xs t) ≡ after xs (take_ask op ask t)
unfolding take_ask
frame_take_ask xs t op ask = frame_take_by xs t op ask ask

-- Losses.

frame_end_sync : (xs : List Output) (t : Turn) (o : Operation) (f : FileId) → end_sync (after xs t) o f ≡ after xs (end_sync t o f)
unfolding end_sync
frame_end_sync xs t o f = either (pages.has_lost t.here.lost f.ino) xs _ _ _ _ (frame_tell_lost xs t o.op f.ino) (says xs t _)

frame_end_unsent : (xs : List Output) (t : Turn) (o : Operation) (ask : Ask) → end_unsent (after xs t) o ask ≡ after xs (end_unsent t o ask)
unfolding end_unsent
frame_end_unsent xs t o (asks.Sync f) = frame_end_sync xs t o f
frame_end_unsent xs t o (asks.Write f p bytes) = says xs t _
frame_end_unsent xs t o (asks.Read f p) = says xs t _
frame_end_unsent xs t o (asks.Cut f p) = says xs t _
frame_end_unsent xs t o (asks.Name s name) = says xs t _
frame_end_unsent xs t o (asks.Patch f p at bytes) = says xs t _

pub frame_end_operation : (xs : List Output) (t : Turn) (s : ClientSession) (o : Operation) → end_operation (after xs t) s o ≡ after xs (end_operation t s o)
unfolding end_operation
frame_end_operation xs t s o = either (is_sent o) xs _ _ _ _ (says xs t _) (frame_end_unsent xs t o o.ask)
