-- Operations that stayed pending so far come before those that a pass keeps, and change nothing in it.
use Rattle.std.proofs.Common.{◌≡◌, ℕ, Bool, true, false, if◌then◌else◌, List, [], ◌∷◌, ◌++◌, Option, Some, None, Ok, Err, refl, ap, ◌∙◌, append_assoc}
use Rattle.std.specs.Prelude.{Result}
use Rattle.st_base.specs.declared.ids.FileId.{FileId}
use Rattle.st_base.specs.declared.ids.PageNo.{PageNo}
use Rattle.st_base.specs.declared.ids.Stamp.{Stamp}
use Rattle.st_base.specs.declared.mode.Mode.TheVariants as modes
use Rattle.st_messages.specs.declared.ask.Ask.{Ask}
use Rattle.st_messages.specs.declared.ask.Ask.TheVariants as asks
use Rattle.st_messages.specs.declared.output.Note.{Note}
use Rattle.st_messages.specs.declared.output.Note.TheVariants as notes
use Rattle.st_rules.specs.declared.client.KnownExtent.{KnownExtent}
use Rattle.st_rules.specs.declared.client.MappedBlock.{MappedBlock}
use Rattle.st_rules.specs.declared.client.Operation.{Operation}
use Rattle.st_rules.specs.declared.client.WriteRefusal.{WriteRefusal}
use Rattle.st_rules.specs.FlatLog.{overlay}
use Rattle.st_rules.specs.ClientPages as pages
use Rattle.st_rules.specs.ClientPages.{Pages}
use Rattle.st_rules.specs.ClientPasses as passes
use Rattle.st_rules.specs.ClientPasses.{submit_command, submit_read, sync, quiesce, change, change_by, change_page, write, fetch_mapped, fetch_at, fetch, patch_bytes, patch_at, patch, read_cached, read_known, read_uncached, read_at, read, serve_open, serve, operate_under, operate_by, operate_on, operate}
use Rattle.st_rules.specs.ClientState.{ClientSession, Turn, is_of, is_open_file, is_sent, is_serving, file_of, keep, with_operations}

-- these operations come before the pending ones
abbrev pub behind : List Operation → Turn → Turn
behind ks t = with_operations (ks ++ t.operations) t

module _ (ks : List Operation) where
  -- one of two
  behind_either : (b : Bool) (x y u v : Turn) → u ≡ behind ks x → v ≡ behind ks y → (if b then u else v) ≡ behind ks (if b then x else y)
  behind_either true x y u v p q = p
  behind_either false x y u v p q = q

  behind_keep : (o : Operation) (t : Turn) → keep o (behind ks t) ≡ behind ks (keep o t)
  behind_keep o t = λ i. with_operations (append_assoc ks t.operations (o ∷ []) i) t

  behind_sync : (t : Turn) (o : Operation) (f : FileId) → sync (behind ks t) o f ≡ behind ks (sync t o f)
  unfolding sync
  behind_sync t o f = behind_either (pages.is_hard t.here.store f.ino) _ _ _ _ refl (behind_keep o t)

  behind_quiesce : (t : Turn) (o : Operation) → quiesce (behind ks t) o ≡ behind ks (quiesce t o)
  unfolding quiesce
  behind_quiesce t o = behind_either (is_sent o) _ _ _ _ (behind_keep o t) refl

  behind_change : (t : Turn) (o : Operation) (f : FileId) (p : PageNo) (n : Note) (r : Result Pages WriteRefusal) → change_by (behind ks t) o f p n r ≡ behind ks (change_by t o f p n r)
  unfolding change_by change
  behind_change t o f p n (Ok ps) = refl
  behind_change t o f p n (Err r) = refl

  behind_write : (t : Turn) (s : ClientSession) (o : Operation) (f : FileId) (p : PageNo) (bytes : List ℕ) → write (behind ks t) s o f p bytes ≡ behind ks (write t s o f p bytes)
  unfolding write change_page
  behind_write t s o f p bytes =
      behind_either (passes.may_write t s f p) _ _ _ _ (behind_change t o f p (notes.Accepted f p bytes) (pages.write t.here.store.pages f.ino p bytes)) (behind_keep o t)

  behind_fetch_at : (t : Turn) (f : FileId) (p : PageNo) (m : Option MappedBlock) → fetch_at (behind ks t) f p m ≡ behind ks (fetch_at t f p m)
  unfolding fetch_at fetch_mapped submit_read submit_command
  behind_fetch_at t f p None = refl
  behind_fetch_at t f p (Some m) = behind_either (pages.is_being_read t.here.store.commands f.ino p) _ _ _ _ refl refl

  behind_fetch : (t : Turn) (o : Operation) (f : FileId) (p : PageNo) → fetch (behind ks t) o f p ≡ behind ks (fetch t o f p)
  unfolding fetch
  behind_fetch t o f p =
      ap (keep o) (behind_fetch_at t f p (pages.mapping_of t.here.store.extents f.ino p)) ∙ behind_keep o (fetch_at t f p (pages.mapping_of t.here.store.extents f.ino p))

  behind_patch_at : (t : Turn) (o : Operation) (f : FileId) (p : PageNo) (at : ℕ) (bytes : List ℕ) (old : Option (List ℕ)) →
      patch_at (behind ks t) o f p at bytes old ≡ behind ks (patch_at t o f p at bytes old)
  unfolding patch_at patch_bytes change_page
  behind_patch_at t o f p at bytes None = behind_fetch t o f p
  behind_patch_at t o f p at bytes (Some old) = behind_change t o f p (notes.Patched f p at bytes) (pages.write t.here.store.pages f.ino p (overlay at bytes old))

  behind_patch : (t : Turn) (s : ClientSession) (o : Operation) (f : FileId) (p : PageNo) (at : ℕ) (bytes : List ℕ) →
      patch (behind ks t) s o f p at bytes ≡ behind ks (patch t s o f p at bytes)
  unfolding patch
  behind_patch t s o f p at bytes =
      behind_either (passes.may_write t s f p) _ _ _ _ (behind_patch_at t o f p at bytes (pages.cached t.here.store.pages f.ino p)) (behind_keep o t)

  behind_known : (t : Turn) (o : Operation) (f : FileId) (p : PageNo) (e : KnownExtent) (m : Option MappedBlock) → read_known (behind ks t) o f p e m ≡ behind ks (read_known t o f p e m)
  unfolding read_known
  behind_known t o f p e None = refl
  behind_known t o f p e (Some m) = behind_fetch t o f p

  behind_uncached : (t : Turn) (o : Operation) (f : FileId) (p : PageNo) (e : Option KnownExtent) → read_uncached (behind ks t) o f p e ≡ behind ks (read_uncached t o f p e)
  unfolding read_uncached
  behind_uncached t o f p None = behind_keep o t
  behind_uncached t o f p (Some e) = behind_known t o f p e e.mapping

  behind_read_at : (t : Turn) (o : Operation) (f : FileId) (p : PageNo) (bytes : Option (List ℕ)) → read_at (behind ks t) o f p bytes ≡ behind ks (read_at t o f p bytes)
  unfolding read_at read_cached
  behind_read_at t o f p None = behind_uncached t o f p (pages.known_of t.here.store.extents f.ino p)
  behind_read_at t o f p (Some bytes) = refl

  behind_read : (t : Turn) (s : ClientSession) (o : Operation) (f : FileId) (p : PageNo) → read (behind ks t) s o f p ≡ behind ks (read t s o f p)
  unfolding read
  behind_read t s o f p = behind_either (passes.holds s modes.S f) _ _ _ _ (behind_read_at t o f p (pages.cached t.here.store.pages f.ino p)) (behind_keep o t)

  behind_open : (t : Turn) (s : ClientSession) (o : Operation) (ask : Ask) → serve_open (behind ks t) s o ask ≡ behind ks (serve_open t s o ask)
  unfolding serve_open
  behind_open t s o (asks.Write f p bytes) = behind_write t s o f p bytes
  behind_open t s o (asks.Patch f p at bytes) = behind_patch t s o f p at bytes
  behind_open t s o (asks.Read f p) = behind_read t s o f p
  behind_open t s o (asks.Sync f) = behind_keep o t
  behind_open t s o (asks.Cut f p) = behind_keep o t
  behind_open t s o (asks.Name server ask) = behind_keep o t

  behind_serve : (all : List Operation) (t : Turn) (s : ClientSession) (o : Operation) → serve all (behind ks t) s o ≡ behind ks (serve all t s o)
  unfolding serve
  behind_serve all t s o = behind_either (is_open_file all t.here.server s (file_of o.ask)) _ _ _ _ (behind_open t s o o.ask) (behind_keep o t)

  behind_by : (all : List Operation) (t : Turn) (now : Stamp) (o : Operation) (s : Option ClientSession) → operate_by all (behind ks t) now o s ≡ behind ks (operate_by all t now o s)
  unfolding operate_by operate_under
  behind_by all t now o None = behind_keep o t
  behind_by all t now o (Some s) = behind_either (is_serving t.config s now) _ _ _ _ (behind_serve all t s o) (behind_quiesce t o)

  behind_on : (all : List Operation) (t : Turn) (now : Stamp) (o : Operation) (ask : Ask) → operate_on all (behind ks t) now o ask ≡ behind ks (operate_on all t now o ask)
  unfolding operate_on
  behind_on all t now o (asks.Sync f) = behind_sync t o f
  behind_on all t now o (asks.Write f p bytes) = behind_by all t now o t.here.session
  behind_on all t now o (asks.Patch f p at bytes) = behind_by all t now o t.here.session
  behind_on all t now o (asks.Read f p) = behind_by all t now o t.here.session
  behind_on all t now o (asks.Cut f p) = behind_by all t now o t.here.session
  behind_on all t now o (asks.Name server ask) = behind_by all t now o t.here.session

  -- an operation goes through the pass after those that stayed as it does without them
  pub behind_operate : (all : List Operation) (t : Turn) (now : Stamp) (o : Operation) → operate all (behind ks t) now o ≡ behind ks (operate all t now o)
  unfolding operate
  behind_operate all t now o = behind_either (is_of t.here.server o) _ _ _ _ (behind_on all t now o o.ask) (behind_keep o t)
