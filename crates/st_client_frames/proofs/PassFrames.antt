-- Operations, reductions, writes and greetings don't read what was said before.
use Rattle.st_lemmas.proofs.Words
use Words.{◌≡◌, ℕ, List, Option, Some, None, refl, Output, FileId, GrantNo, PageNo, Stamp, Mode, Note, KnownExtent, MappedBlock, Operation, DirtyPage}
use Words.modes
use Words.ClientLocks as locks
use Words.ClientPages as pages
use Words.ClientPages.{Pages}
use Words.ClientPasses as passes
use Words.ClientPasses.{submit_command, submit_read, submit_write, sync, quiesce, change, fetch_mapped, fetch_at, fetch, read_cached, read_known, read_uncached}
use Words.ClientPasses.{read_at, read, reduce_to, reduce_given, reduce_by, write_out_at, write_out, hello}
use Words.ClientState.{ClientSession, Turn, is_sent, send}
use Rattle.st_client_frames.proofs.Framing.{either, says, says_both}
use Rattle.st_client_frames.specs.Frames.{after}

pub frame_sync : (xs : List Output) (t : Turn) (o : Operation) (f : FileId) → sync (after xs t) o f ≡ after xs (sync t o f)
unfolding sync
frame_sync xs t o f = either (pages.is_hard t.here.store f.ino) xs _ _ _ _ (says xs t _) refl

pub frame_quiesce : (xs : List Output) (t : Turn) (o : Operation) → quiesce (after xs t) o ≡ after xs (quiesce t o)
unfolding quiesce
frame_quiesce xs t o = either (is_sent o) xs _ _ _ _ refl (says xs t _)

pub frame_change : (xs : List Output) (t : Turn) (o : Operation) (f : FileId) (p : PageNo) (n : Note) (ps : Pages) →
    change (after xs t) o f p n ps ≡ after xs (change t o f p n ps)
unfolding change
frame_change xs t o f p n ps = says_both xs (passes.with_pages_changed ps f.ino p t) _ _

frame_fetch_at : (xs : List Output) (t : Turn) (f : FileId) (p : PageNo) (m : Option MappedBlock) → fetch_at (after xs t) f p m ≡ after xs (fetch_at t f p m)
unfolding fetch_at fetch_mapped submit_read submit_command
frame_fetch_at xs t f p None = refl
frame_fetch_at xs t f p (Some m) = either (pages.is_being_read t.here.store.commands f.ino p) xs _ _ _ _ refl (says xs (passes.with_command f.ino p _ t) _)

pub frame_fetch : (xs : List Output) (t : Turn) (o : Operation) (f : FileId) (p : PageNo) → fetch (after xs t) o f p ≡ after xs (fetch t o f p)
unfolding fetch
frame_fetch xs t o f p = rw (frame_fetch_at xs t f p (pages.mapping_of t.here.store.extents f.ino p)) refl

frame_read_known : (xs : List Output) (t : Turn) (o : Operation) (f : FileId) (p : PageNo) (e : KnownExtent) (m : Option MappedBlock) →
    read_known (after xs t) o f p e m ≡ after xs (read_known t o f p e m)
unfolding read_known
frame_read_known xs t o f p e None = says xs t _
frame_read_known xs t o f p e (Some m) = frame_fetch xs t o f p

frame_read_uncached : (xs : List Output) (t : Turn) (o : Operation) (f : FileId) (p : PageNo) (e : Option KnownExtent) →
    read_uncached (after xs t) o f p e ≡ after xs (read_uncached t o f p e)
unfolding read_uncached
frame_read_uncached xs t o f p None = refl
frame_read_uncached xs t o f p (Some e) = frame_read_known xs t o f p e e.mapping

frame_read_at : (xs : List Output) (t : Turn) (o : Operation) (f : FileId) (p : PageNo) (bytes : Option (List ℕ)) →
    read_at (after xs t) o f p bytes ≡ after xs (read_at t o f p bytes)
unfolding read_at read_cached
frame_read_at xs t o f p None = frame_read_uncached xs t o f p (pages.known_of t.here.store.extents f.ino p)
frame_read_at xs t o f p (Some bytes) =
    says xs (record t { here = record t.here { store = record t.here.store { pages = pages.use_page t.here.store.pages f.ino p } } }) _

pub frame_read : (xs : List Output) (t : Turn) (s : ClientSession) (o : Operation) (f : FileId) (p : PageNo) →
    read (after xs t) s o f p ≡ after xs (read t s o f p)
unfolding read
frame_read xs t s o f p = either (passes.holds s modes.S f) xs _ _ _ _ (frame_read_at xs t o f p (pages.cached t.here.store.pages f.ino p)) refl

-- Reductions.

frame_given : (xs : List Output) (t : Turn) (s : ClientSession) (ino : ℕ) (g : Option (GrantNo × Mode)) →
    reduce_given (after xs t) s ino g ≡ after xs (reduce_given t s ino g)
unfolding reduce_given reduce_to
frame_given xs t s ino None = refl
frame_given xs t s ino (Some g) = refl

pub frame_reduce : (xs : List Output) (t : Turn) (s : ClientSession) (ino : ℕ) (r : locks.Reduced) →
    reduce_by (after xs t) s ino r ≡ after xs (reduce_by t s ino r)
unfolding reduce_by
frame_reduce xs t s ino r = frame_given xs t _ ino r.given

-- Writes.

frame_out_at : (xs : List Output) (t : Turn) (d : DirtyPage) (m : Option MappedBlock) → write_out_at (after xs t) d m ≡ after xs (write_out_at t d m)
unfolding write_out_at submit_write submit_command
frame_out_at xs t d None = refl
frame_out_at xs t d (Some m) = says xs (passes.with_command d.ino d.page _ t) _

pub frame_write_out : (xs : List Output) (t : Turn) (d : DirtyPage) → write_out (after xs t) d ≡ after xs (write_out t d)
unfolding write_out
frame_write_out xs t d = frame_out_at xs t d (pages.mapping_of t.here.store.extents d.ino d.page)

-- Greeting.

pub frame_hello : (xs : List Output) (t : Turn) (now : Stamp) → hello (after xs t) now ≡ after xs (hello t now)
unfolding hello send
frame_hello xs t now = says xs (passes.with_greeting now t) _
