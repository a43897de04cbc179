-- The pass over operations and the reductions leave the settings and the lease.
use Rattle.std.proofs.Common.{◌≡◌, ℕ, Bool, true, false, not, if◌then◌else◌, List, [], ◌∷◌, Option, Some, None, Ok, Err, refl, sym, ap, ◌∙◌}
use Rattle.std.specs.Prelude.{option_map, Result}
use Rattle.st_base.specs.declared.config.Config.{Config}
use Rattle.st_base.specs.declared.ids.FileId.{FileId}
use Rattle.st_base.specs.declared.ids.GrantNo.{GrantNo}
use Rattle.st_base.specs.declared.ids.PageNo.{PageNo}
use Rattle.st_base.specs.declared.ids.Stamp.{Stamp}
use Rattle.st_base.specs.declared.mode.Mode.{Mode}
use Rattle.st_base.specs.declared.mode.Mode.TheVariants as modes
use Rattle.st_messages.specs.declared.ask.Ask.{Ask}
use Rattle.st_messages.specs.declared.ask.Ask.TheVariants as asks
use Rattle.st_messages.specs.declared.output.Note.{Note}
use Rattle.st_messages.specs.declared.output.Note.TheVariants as notes
use Rattle.st_rules.specs.declared.client.KnownExtent.{KnownExtent}
use Rattle.st_rules.specs.declared.client.MappedBlock.{MappedBlock}
use Rattle.st_rules.specs.declared.client.Operation.{Operation}
use Rattle.st_rules.specs.declared.client.WriteRefusal.{WriteRefusal}
use Rattle.st_rules.specs.FlatLog.{overlay}
use Rattle.st_rules.specs.Client.{lease_of_session}
use Rattle.st_rules.specs.ClientInvariants.{lasts_here, lasts_in}
use Rattle.st_rules.specs.ClientLease.{ClientLease, must_discard, standing_of}
use Rattle.st_rules.specs.ClientLocks as locks
use Rattle.st_rules.specs.ClientPages as pages
use Rattle.st_rules.specs.ClientPages.{Pages}
use Rattle.st_rules.specs.ClientPasses as passes
use Rattle.st_rules.specs.ClientPasses.{submit_command, submit_read, sync, quiesce, change, change_by, change_page, write, fetch_mapped, fetch_at, fetch, patch_bytes, patch_at, patch, read_cached, read_known, read_uncached, read_at, read, serve_open, serve, operate_under, operate_by, operate_on, operate, operate_each, operations, reduce_to, reduce_given, reduce_by, reduce_idle, reduce, reduce_each, reductions}
use Rattle.st_rules.specs.ClientState.{ClientSession, Turn, is_of, is_open_file, is_sent, is_serving, file_of, with_operations}
use Rattle.st_client_passes.specs.PassConditions.{lease_frame}

-- one of two
either : (b : Bool) (x y t : Turn) → lease_frame x ≡ lease_frame t → lease_frame y ≡ lease_frame t → lease_frame (if b then x else y) ≡ lease_frame t
either true x y t p q = p
either false x y t p q = q

-- Operations.

same_sync : (t : Turn) (o : Operation) (f : FileId) → lease_frame (sync t o f) ≡ lease_frame t
unfolding sync
same_sync t o f = either (pages.is_hard t.here.store f.ino) _ _ t refl refl

same_quiesce : (t : Turn) (o : Operation) → lease_frame (quiesce t o) ≡ lease_frame t
unfolding quiesce
same_quiesce t o = either (is_sent o) _ _ t refl refl

same_change : (t : Turn) (o : Operation) (f : FileId) (p : PageNo) (n : Note) (r : Result Pages WriteRefusal) → lease_frame (change_by t o f p n r) ≡ lease_frame t
unfolding change_by change
same_change t o f p n (Ok ps) = refl
same_change t o f p n (Err r) = refl

same_write : (t : Turn) (s : ClientSession) (o : Operation) (f : FileId) (p : PageNo) (bytes : List ℕ) → lease_frame (write t s o f p bytes) ≡ lease_frame t
unfolding write change_page
same_write t s o f p bytes = either (passes.may_write t s f p) _ _ t (same_change t o f p (notes.Accepted f p bytes) (pages.write t.here.store.pages f.ino p bytes)) refl

same_fetch_at : (t : Turn) (f : FileId) (p : PageNo) (m : Option MappedBlock) → lease_frame (fetch_at t f p m) ≡ lease_frame t
unfolding fetch_at fetch_mapped submit_read submit_command
same_fetch_at t f p None = refl
same_fetch_at t f p (Some m) = either (pages.is_being_read t.here.store.commands f.ino p) _ _ t refl refl

same_fetch : (t : Turn) (o : Operation) (f : FileId) (p : PageNo) → lease_frame (fetch t o f p) ≡ lease_frame t
unfolding fetch
same_fetch t o f p = same_fetch_at t f p (pages.mapping_of t.here.store.extents f.ino p)

same_patch_at : (t : Turn) (o : Operation) (f : FileId) (p : PageNo) (at : ℕ) (bytes : List ℕ) (old : Option (List ℕ)) → lease_frame (patch_at t o f p at bytes old) ≡ lease_frame t
unfolding patch_at patch_bytes change_page
same_patch_at t o f p at bytes None = same_fetch t o f p
same_patch_at t o f p at bytes (Some old) = same_change t o f p (notes.Patched f p at bytes) (pages.write t.here.store.pages f.ino p (overlay at bytes old))

same_patch : (t : Turn) (s : ClientSession) (o : Operation) (f : FileId) (p : PageNo) (at : ℕ) (bytes : List ℕ) → lease_frame (patch t s o f p at bytes) ≡ lease_frame t
unfolding patch
same_patch t s o f p at bytes = either (passes.may_write t s f p) _ _ t (same_patch_at t o f p at bytes (pages.cached t.here.store.pages f.ino p)) refl

same_read_known : (t : Turn) (o : Operation) (f : FileId) (p : PageNo) (e : KnownExtent) (m : Option MappedBlock) → lease_frame (read_known t o f p e m) ≡ lease_frame t
unfolding read_known
same_read_known t o f p e None = refl
same_read_known t o f p e (Some m) = same_fetch t o f p

same_read_uncached : (t : Turn) (o : Operation) (f : FileId) (p : PageNo) (e : Option KnownExtent) → lease_frame (read_uncached t o f p e) ≡ lease_frame t
unfolding read_uncached
same_read_uncached t o f p None = refl
same_read_uncached t o f p (Some e) = same_read_known t o f p e e.mapping

same_read_at : (t : Turn) (o : Operation) (f : FileId) (p : PageNo) (bytes : Option (List ℕ)) → lease_frame (read_at t o f p bytes) ≡ lease_frame t
unfolding read_at read_cached
same_read_at t o f p None = same_read_uncached t o f p (pages.known_of t.here.store.extents f.ino p)
same_read_at t o f p (Some bytes) = refl

same_read : (t : Turn) (s : ClientSession) (o : Operation) (f : FileId) (p : PageNo) → lease_frame (read t s o f p) ≡ lease_frame t
unfolding read
same_read t s o f p = either (passes.holds s modes.S f) _ _ t (same_read_at t o f p (pages.cached t.here.store.pages f.ino p)) refl

same_serve_open : (t : Turn) (s : ClientSession) (o : Operation) (ask : Ask) → lease_frame (serve_open t s o ask) ≡ lease_frame t
unfolding serve_open
same_serve_open t s o (asks.Write f p bytes) = same_write t s o f p bytes
same_serve_open t s o (asks.Patch f p at bytes) = same_patch t s o f p at bytes
same_serve_open t s o (asks.Read f p) = same_read t s o f p
same_serve_open t s o (asks.Sync f) = refl
same_serve_open t s o (asks.Cut f p) = refl
same_serve_open t s o (asks.Name server ask) = refl

same_serve : (all : List Operation) (t : Turn) (s : ClientSession) (o : Operation) → lease_frame (serve all t s o) ≡ lease_frame t
unfolding serve
same_serve all t s o = either (is_open_file all t.here.server s (file_of o.ask)) _ _ t (same_serve_open t s o o.ask) refl

same_operate_by : (all : List Operation) (t : Turn) (now : Stamp) (o : Operation) (s : Option ClientSession) → lease_frame (operate_by all t now o s) ≡ lease_frame t
unfolding operate_by operate_under
same_operate_by all t now o None = refl
same_operate_by all t now o (Some s) = either (is_serving t.config s now) _ _ t (same_serve all t s o) (same_quiesce t o)

same_operate_on : (all : List Operation) (t : Turn) (now : Stamp) (o : Operation) (ask : Ask) → lease_frame (operate_on all t now o ask) ≡ lease_frame t
unfolding operate_on
same_operate_on all t now o (asks.Sync f) = same_sync t o f
same_operate_on all t now o (asks.Write f p bytes) = same_operate_by all t now o t.here.session
same_operate_on all t now o (asks.Patch f p at bytes) = same_operate_by all t now o t.here.session
same_operate_on all t now o (asks.Read f p) = same_operate_by all t now o t.here.session
same_operate_on all t now o (asks.Cut f p) = same_operate_by all t now o t.here.session
same_operate_on all t now o (asks.Name server ask) = same_operate_by all t now o t.here.session

same_operate : (all : List Operation) (t : Turn) (now : Stamp) (o : Operation) → lease_frame (operate all t now o) ≡ lease_frame t
unfolding operate
same_operate all t now o = either (is_of t.here.server o) _ _ t (same_operate_on all t now o o.ask) refl

same_operate_each : (all : List Operation) (now : Stamp) (os : List Operation) (t : Turn) → lease_frame (operate_each all now os t) ≡ lease_frame t
unfolding operate_each
same_operate_each all now [] t = refl
same_operate_each all now (o ∷ os) t = same_operate_each all now os (operate all t now o) ∙ same_operate all t now o

pub operations_keep : (now : Stamp) (t : Turn) → lease_frame (operations now t) ≡ lease_frame t
unfolding operations
operations_keep now t = same_operate_each t.operations now t.operations (with_operations [] t)

-- Reductions.

same_given : (t : Turn) (s : ClientSession) (ino : ℕ) (g : Option (GrantNo × Mode)) → option_map lease_of_session t.here.session ≡ Some s.lease → lease_frame (reduce_given t s ino g) ≡ lease_frame t
unfolding reduce_given reduce_to
same_given t s ino None e = refl
same_given t s ino (Some g) e = λ i. (t.config, sym e i)

same_reduce : (t : Turn) (ino : ℕ) (s : Option ClientSession) → t.here.session ≡ s → lease_frame (reduce t ino s) ≡ lease_frame t
unfolding reduce reduce_idle reduce_by
same_reduce t ino None e = refl
same_reduce t ino (Some s) e =
    either (passes.may_reduce t s ino) _ _ t
    (same_given t (record s { locks = (locks.reduce s.locks ino).locks }) ino (locks.reduce s.locks ino).given (ap (option_map lease_of_session) e)) refl

same_reduce_each : (inos : List ℕ) (t : Turn) → lease_frame (reduce_each inos t) ≡ lease_frame t
unfolding reduce_each
same_reduce_each [] t = refl
same_reduce_each (ino ∷ inos) t = same_reduce_each inos (reduce t ino t.here.session) ∙ same_reduce t ino t.here.session refl

pub reductions_keep : (t : Turn) → lease_frame (reductions t) ≡ lease_frame t
unfolding reductions
reductions_keep t = same_reduce_each (passes.files_demanded t.here.session) t

-- Leases that last.

-- a lease is not over
lasts_of : Stamp → Config × Option ClientLease → Bool
lasts_of now (k, None) = true
lasts_of now (k, Some l) = not (must_discard (standing_of k l now))

lasts_frame : (k : Config) (now : Stamp) (s : Option ClientSession) → lasts_in k now s ≡ lasts_of now (k, option_map lease_of_session s)
unfolding lasts_of
lasts_frame k now None = refl
lasts_frame k now (Some s) = refl

-- a lease lasts that is as one that lasts
pub still_lasts : (now : Stamp) (t u : Turn) → lease_frame u ≡ lease_frame t → lasts_here t.config now t.here ≡ true → lasts_here u.config now u.here ≡ true
still_lasts now t u e h = lasts_frame u.config now u.here.session ∙ ap (lasts_of now) e ∙ sym (lasts_frame t.config now t.here.session) ∙ h
