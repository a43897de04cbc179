-- A client's pass over its operations, walked.
use Rattle.st_lemmas.proofs.Words
use Words.{◌≡◌, ℕ, Bool, true, false, List, [], ◌∷◌, Option, Some, None, Ok, Err, refl, ap, if◌then◌else◌, FileId, PageNo, Stamp, Ask, Note, KnownExtent}
use Words.{MappedBlock, Operation}
use Words.modes
use Words.asks
use Words.notes
use Words.writing as refusals
use Words.FlatLog.{overlay}
use Words.ClientPages as pages
use Words.ClientPasses as cp
use Words.ClientState.{ClientSession, Turn, file_of, is_of, is_open_file, is_sent, is_serving, is_sync, keep}
use Words.Tables.{cond_either}
use Rattle.st_trace.specs.Client.Each.{Each, Ends, Next}
use Rattle.st_trace.specs.Client.Operations.{Served, Changed, IsWritten, IsPatched, Needs, ToRead, ToPatch, Operated, Waits, IsHard, IsQuiesced, ChangesPage}
use Rattle.st_trace.specs.Client.Operations.{IsDirtyFull, Fetches, ReadsCached, ReadsZeros}

module _ (now : Stamp) (all : List Operation) (o : Operation) (t : Turn) where
  abbrev O : Turn → Type 0
  O u = Operated now all o t u

  module _ (s : ClientSession) (v : Served now all o t s) where
    -- a write or a patch
    changes : (f : FileId) (p : PageNo) (bytes : List ℕ) (n : Note) → Changed o.ask t f p bytes n → cp.may_write t s f p ≡ true → O
        (cp.change_page t o f p bytes n)
    unfolding cp.change_page cp.change_by cp.change pages.write
    changes f p bytes n c m = go (pages.is_full_for t.here.store.pages f.ino p) refl
      where
        go : (b : Bool) → pages.is_full_for t.here.store.pages f.ino p ≡ b → O
            (cp.change_by t o f p n (if b then Err refusals.DirtyFull else Ok (pages.written t.here.store.pages f.ino p bytes)))
        go true e = IsDirtyFull s f p bytes n v c m e
        go false e = ChangesPage s f p bytes n v c m e

    -- a page that isn't cached
    fetches : (f : FileId) (p : PageNo) → Needs o.ask t s f p → pages.cached t.here.store.pages f.ino p ≡ None → O (cp.fetch t o f p)
    unfolding cp.fetch cp.fetch_at cp.fetch_mapped cp.submit_read cp.submit_command
    fetches f p n c = go (pages.mapping_of t.here.store.extents f.ino p) refl
      where
        go : (m : Option MappedBlock) → pages.mapping_of t.here.store.extents f.ino p ≡ m → O (keep o (cp.fetch_at t f p m))
        go None e = Waits
        go (Some m) e =
            cond_either (λ u. O (keep o u)) (pages.is_being_read t.here.store.commands f.ino p) t (cp.submit_read t f.ino p m) (λ r. Waits)
            (λ r. Fetches s f p m v n c e r)

    writes : (f : FileId) (p : PageNo) (bytes : List ℕ) → o.ask ≡ asks.Write f p bytes → O (cp.write t s o f p bytes)
    unfolding cp.write
    writes f p bytes e = cond_either O (cp.may_write t s f p) _ _ (λ m. changes f p bytes (notes.Accepted f p bytes) (IsWritten f p bytes e) m) (λ m. Waits)

    patches : (f : FileId) (p : PageNo) (at : ℕ) (bytes : List ℕ) → o.ask ≡ asks.Patch f p at bytes → O (cp.patch t s o f p at bytes)
    unfolding cp.patch cp.patch_at cp.patch_bytes
    patches f p at bytes e = cond_either O (cp.may_write t s f p) _ _ (λ m. go m (pages.cached t.here.store.pages f.ino p) refl) (λ m. Waits)
      where
        go : cp.may_write t s f p ≡ true → (c : Option (List ℕ)) → pages.cached t.here.store.pages f.ino p ≡ c → O (cp.patch_at t o f p at bytes c)
        go m None q = fetches f p (ToPatch f p at bytes e m) q
        go m (Some old) q = changes f p (overlay at bytes old) (notes.Patched f p at bytes) (IsPatched f p at bytes old e q) m

    reads : (f : FileId) (p : PageNo) → o.ask ≡ asks.Read f p → O (cp.read t s o f p)
    unfolding cp.read cp.read_at cp.read_cached cp.read_uncached cp.read_known
    reads f p e = cond_either O (cp.holds s modes.S f) _ _ (λ h. cached h (pages.cached t.here.store.pages f.ino p) refl) (λ h. Waits)
      where
        known : cp.holds s modes.S f ≡ true → pages.cached t.here.store.pages f.ino p ≡ None → (x : Option KnownExtent) →
            pages.known_of t.here.store.extents f.ino p ≡ x →
            O (cp.read_uncached t o f p x)
        known h c None q = Waits
        known h c (Some x) q = mapped x.mapping refl
          where
            mapped : (m : Option MappedBlock) → x.mapping ≡ m → O (cp.read_known t o f p x m)
            mapped None k = ReadsZeros s f p x v e h c q k
            mapped (Some m) k = fetches f p (ToRead f p e h) c

        cached : cp.holds s modes.S f ≡ true → (c : Option (List ℕ)) → pages.cached t.here.store.pages f.ino p ≡ c → O (cp.read_at t o f p c)
        cached h None q = known h q (pages.known_of t.here.store.extents f.ino p) refl
        cached h (Some bytes) q = ReadsCached s f p bytes v e h q

    served : (a : Ask) → o.ask ≡ a → O (cp.serve_open t s o a)
    unfolding cp.serve_open
    served (asks.Write f p bytes) e = writes f p bytes e
    served (asks.Patch f p at bytes) e = patches f p at bytes e
    served (asks.Read f p) e = reads f p e
    served a e = Waits

  -- One operation
  operates : O (cp.operate all t now o)
  unfolding cp.operate cp.operate_on cp.operate_by cp.operate_under cp.serve cp.quiesce cp.sync
  operates = cond_either O (is_of t.here.server o) _ _ (λ own. on own o.ask refl) (λ own. Waits)
    where
      by : is_of t.here.server o ≡ true → is_sync o.ask ≡ false → (x : Option ClientSession) → t.here.session ≡ x → O (cp.operate_by all t now o x)
      by own n None e = Waits
      by own n (Some s) e =
          cond_either O (is_serving t.config s now) _ _
          (λ sv. cond_either O (is_open_file all t.here.server s (file_of o.ask)) _ _
          (λ f. served s (record { own = own; session = e; serving = sv; free = f }) o.ask refl) (λ f. Waits))
          (λ sv. cond_either O (is_sent o) _ _ (λ q. Waits) (λ q. IsQuiesced s own n e sv q))

      on : is_of t.here.server o ≡ true → (a : Ask) → o.ask ≡ a → O (cp.operate_on all t now o a)
      on own (asks.Sync f) q = cond_either O (pages.is_hard t.here.store f.ino) _ _ (λ h. IsHard f own q h) (λ h. Waits)
      on own a q = by own (ap is_sync q) t.here.session refl

operates_each : (now : Stamp) (all os : List Operation) (t : Turn) → Each (Operated now all) os t (cp.operate_each all now os t)
unfolding cp.operate_each
operates_each now all [] t = Ends t
operates_each now all (o ∷ os) t = let u = cp.operate all t now o in Next o os t u (cp.operate_each all now os u) (operates now all o t)
    (operates_each now all os u)

-- The pass
pub operations : (now : Stamp) (t : Turn) → Each (Operated now t.operations) t.operations (Rattle.st_rules.specs.ClientState.with_operations [] t)
    (cp.operations now t)
unfolding cp.operations
operations now t = operates_each now t.operations t.operations (Rattle.st_rules.specs.ClientState.with_operations [] t)
