-- Through the passes at a server numbers of commands only rise, and outputs only become more.
use Rattle.st_lemmas.proofs.Words
use Words.{ℕ, Bool, List, [], ◌∷◌, Option, Some, None, Ok, Err, Result, FileId, GrantNo, PageNo, Stamp, Mode, Ask, Body, Note, KnownExtent, MappedBlock}
use Words.{Operation, Release, Request, WriteRefusal, DirtyPage}
use Words.modes
use Words.asks
use Words.bodies
use Words.notes
use Words.FlatLog.{overlay}
use Words.ClientLease as lease
use Words.ClientLocks as locks
use Words.ClientPages as pages
use Words.ClientPages.{Pages}
use Words.ClientPasses as passes
use Words.ClientPasses.{Asking, submit_command, submit_read, submit_write, sync, quiesce, change, change_by, change_page, write, fetch_mapped, fetch_at, fetch}
use Words.ClientPasses.{patch_bytes, patch_at, patch, read_cached, read_known, read_uncached, read_at, read, serve_open, serve, operate_under, operate_by}
use Words.ClientPasses.{operate_on, operate, operate_each, operations, reduce_to, reduce_given, reduce_by, reduce_idle, reduce, reduce_each, reductions}
use Words.ClientPasses.{write_out_at, write_out, write_due, write_page, write_each, writes_by, writes, hello, greet, greeting_by, greeting, ask, ask_again}
use Words.ClientPasses.{repeat, keep_alive, ask_for, ask_for_or, ask_next, ask_release, ask_by, reassert, ask_new, requests_at, requests_under, requests_by}
use Words.ClientPasses.{requests}
use Words.ClientState.{ClientSession, Turn, file_of, is_of, is_open_file, is_sent, is_serving, send, with_operations}
use Rattle.st_client.proofs.Advancing.{either, says, says_both, stays, submitted, then_more}
use Rattle.st_client.specs.Machines.{Advances}

-- Operations.

grow_sync : (t : Turn) (o : Operation) (f : FileId) → Advances t (sync t o f)
unfolding sync
grow_sync t o f = either (pages.is_hard t.here.store f.ino) _ _ t (says t _) (stays t)

grow_quiesce : (t : Turn) (o : Operation) → Advances t (quiesce t o)
unfolding quiesce
grow_quiesce t o = either (is_sent o) _ _ t (stays t) (says t _)

grow_change : (t : Turn) (o : Operation) (f : FileId) (p : PageNo) (n : Note) (r : Result Pages WriteRefusal) → Advances t (change_by t o f p n r)
unfolding change_by change
grow_change t o f p n (Ok ps) = says_both t _ _
grow_change t o f p n (Err r) = says t _

grow_write : (t : Turn) (s : ClientSession) (o : Operation) (f : FileId) (p : PageNo) (bytes : List ℕ) → Advances t (write t s o f p bytes)
unfolding write change_page
grow_write t s o f p bytes = either (passes.may_write t s f p) _ _ t (grow_change t o f p (notes.Accepted f p bytes) (pages.write t.here.store.pages f.ino p bytes)) (stays t)

grow_fetch_at : (t : Turn) (f : FileId) (p : PageNo) (m : Option MappedBlock) → Advances t (fetch_at t f p m)
unfolding fetch_at fetch_mapped submit_read submit_command
grow_fetch_at t f p None = stays t
grow_fetch_at t f p (Some m) = either (pages.is_being_read t.here.store.commands f.ino p) _ _ t (stays t) (submitted t _)

grow_fetch : (t : Turn) (o : Operation) (f : FileId) (p : PageNo) → Advances t (fetch t o f p)
unfolding fetch
grow_fetch t o f p = grow_fetch_at t f p (pages.mapping_of t.here.store.extents f.ino p)

grow_patch_at : (t : Turn) (o : Operation) (f : FileId) (p : PageNo) (at : ℕ) (bytes : List ℕ) (old : Option (List ℕ)) → Advances t (patch_at t o f p at bytes old)
unfolding patch_at patch_bytes change_page
grow_patch_at t o f p at bytes None = grow_fetch t o f p
grow_patch_at t o f p at bytes (Some old) = grow_change t o f p (notes.Patched f p at bytes) (pages.write t.here.store.pages f.ino p (overlay at bytes old))

grow_patch : (t : Turn) (s : ClientSession) (o : Operation) (f : FileId) (p : PageNo) (at : ℕ) (bytes : List ℕ) → Advances t (patch t s o f p at bytes)
unfolding patch
grow_patch t s o f p at bytes = either (passes.may_write t s f p) _ _ t (grow_patch_at t o f p at bytes (pages.cached t.here.store.pages f.ino p)) (stays t)

grow_read_known : (t : Turn) (o : Operation) (f : FileId) (p : PageNo) (e : KnownExtent) (m : Option MappedBlock) → Advances t (read_known t o f p e m)
unfolding read_known
grow_read_known t o f p e None = says t _
grow_read_known t o f p e (Some m) = grow_fetch t o f p

grow_read_uncached : (t : Turn) (o : Operation) (f : FileId) (p : PageNo) (e : Option KnownExtent) → Advances t (read_uncached t o f p e)
unfolding read_uncached
grow_read_uncached t o f p None = stays t
grow_read_uncached t o f p (Some e) = grow_read_known t o f p e e.mapping

grow_read_at : (t : Turn) (o : Operation) (f : FileId) (p : PageNo) (bytes : Option (List ℕ)) → Advances t (read_at t o f p bytes)
unfolding read_at read_cached
grow_read_at t o f p None = grow_read_uncached t o f p (pages.known_of t.here.store.extents f.ino p)
grow_read_at t o f p (Some bytes) = says t _

grow_read : (t : Turn) (s : ClientSession) (o : Operation) (f : FileId) (p : PageNo) → Advances t (read t s o f p)
unfolding read
grow_read t s o f p = either (passes.holds s modes.S f) _ _ t (grow_read_at t o f p (pages.cached t.here.store.pages f.ino p)) (stays t)

grow_serve_open : (t : Turn) (s : ClientSession) (o : Operation) (ask : Ask) → Advances t (serve_open t s o ask)
unfolding serve_open
grow_serve_open t s o (asks.Write f p bytes) = grow_write t s o f p bytes
grow_serve_open t s o (asks.Patch f p at bytes) = grow_patch t s o f p at bytes
grow_serve_open t s o (asks.Read f p) = grow_read t s o f p
grow_serve_open t s o (asks.Sync f) = stays t
grow_serve_open t s o (asks.Cut f p) = stays t
grow_serve_open t s o (asks.Name server ask) = stays t

grow_serve : (all : List Operation) (t : Turn) (s : ClientSession) (o : Operation) → Advances t (serve all t s o)
unfolding serve
grow_serve all t s o = either (is_open_file all t.here.server s (file_of o.ask)) _ _ t (grow_serve_open t s o o.ask) (stays t)

grow_operate_by : (all : List Operation) (t : Turn) (now : Stamp) (o : Operation) (s : Option ClientSession) → Advances t (operate_by all t now o s)
unfolding operate_by operate_under
grow_operate_by all t now o None = stays t
grow_operate_by all t now o (Some s) = either (is_serving t.config s now) _ _ t (grow_serve all t s o) (grow_quiesce t o)

grow_operate_on : (all : List Operation) (t : Turn) (now : Stamp) (o : Operation) (ask : Ask) → Advances t (operate_on all t now o ask)
unfolding operate_on
grow_operate_on all t now o (asks.Sync f) = grow_sync t o f
grow_operate_on all t now o (asks.Write f p bytes) = grow_operate_by all t now o t.here.session
grow_operate_on all t now o (asks.Patch f p at bytes) = grow_operate_by all t now o t.here.session
grow_operate_on all t now o (asks.Read f p) = grow_operate_by all t now o t.here.session
grow_operate_on all t now o (asks.Cut f p) = grow_operate_by all t now o t.here.session
grow_operate_on all t now o (asks.Name server ask) = grow_operate_by all t now o t.here.session

grow_operate : (all : List Operation) (t : Turn) (now : Stamp) (o : Operation) → Advances t (operate all t now o)
unfolding operate
grow_operate all t now o = either (is_of t.here.server o) _ _ t (grow_operate_on all t now o o.ask) (stays t)

grow_operate_each : (all : List Operation) (now : Stamp) (os : List Operation) (t : Turn) → Advances t (operate_each all now os t)
unfolding operate_each
grow_operate_each all now [] t = stays t
grow_operate_each all now (o ∷ os) t = then_more t (operate all t now o) (operate_each all now os (operate all t now o)) (grow_operate all t now o) (grow_operate_each all now os (operate all t now o))

operations_grow : (now : Stamp) (t : Turn) → Advances t (operations now t)
unfolding operations
operations_grow now t = grow_operate_each t.operations now t.operations (with_operations [] t)

-- Reductions.

grow_given : (t : Turn) (s : ClientSession) (ino : ℕ) (g : Option (GrantNo × Mode)) → Advances t (reduce_given t s ino g)
unfolding reduce_given reduce_to
grow_given t s ino None = stays t
grow_given t s ino (Some g) = stays t

grow_reduce : (t : Turn) (ino : ℕ) (s : Option ClientSession) → Advances t (reduce t ino s)
unfolding reduce reduce_idle reduce_by
grow_reduce t ino None = stays t
grow_reduce t ino (Some s) =
    either (passes.may_reduce t s ino) _ _ t
    (grow_given t (record s { locks = (locks.reduce s.locks ino).locks }) ino (locks.reduce s.locks ino).given) (stays t)

grow_reduce_each : (inos : List ℕ) (t : Turn) → Advances t (reduce_each inos t)
unfolding reduce_each
grow_reduce_each [] t = stays t
grow_reduce_each (ino ∷ inos) t = then_more t (reduce t ino t.here.session) (reduce_each inos (reduce t ino t.here.session)) (grow_reduce t ino t.here.session) (grow_reduce_each inos (reduce t ino t.here.session))

reductions_grow : (t : Turn) → Advances t (reductions t)
unfolding reductions
reductions_grow t = grow_reduce_each (passes.files_demanded t.here.session) t

-- Writes.

grow_out_at : (t : Turn) (d : DirtyPage) (m : Option MappedBlock) → Advances t (write_out_at t d m)
unfolding write_out_at submit_write submit_command
grow_out_at t d None = stays t
grow_out_at t d (Some m) = submitted t _

grow_page : (t : Turn) (s : ClientSession) (now : Stamp) (tick : Bool) (d : Option DirtyPage) → Advances t (write_page t s now tick d)
unfolding write_page write_due write_out
grow_page t s now tick None = stays t
grow_page t s now tick (Some d) = either (passes.is_writable t s now tick d) _ _ t (grow_out_at t d (pages.mapping_of t.here.store.extents d.ino d.page)) (stays t)

grow_write_each : (s : ClientSession) (now : Stamp) (tick : Bool) (xs : List (ℕ × PageNo)) (t : Turn) → Advances t (write_each s now tick xs t)
unfolding write_each
grow_write_each s now tick [] t = stays t
grow_write_each s now tick (x ∷ xs) t =
    let u = write_page t s now tick (pages.dirty_of t.here.store.pages x.0 x.1) in
    then_more t u (write_each s now tick xs u) (grow_page t s now tick (pages.dirty_of t.here.store.pages x.0 x.1)) (grow_write_each s now tick xs u)

grow_writes_by : (t : Turn) (now : Stamp) (tick : Bool) (s : Option ClientSession) → Advances t (writes_by t now tick s)
unfolding writes_by
grow_writes_by t now tick None = stays t
grow_writes_by t now tick (Some s) = grow_write_each s now tick (pages.dirty_places t.here.store.pages) t

writes_grow : (now : Stamp) (tick : Bool) (t : Turn) → Advances t (writes now tick t)
unfolding writes
writes_grow now tick t = grow_writes_by t now tick t.here.session

-- Greeting.

grow_greeting_by : (t : Turn) (now : Stamp) (tick : Bool) (s : Option ClientSession) → Advances t (greeting_by t now tick s)
unfolding greeting_by greet hello send
grow_greeting_by t now tick None = either (passes.must_greet t now tick) _ _ t (says t _) (stays t)
grow_greeting_by t now tick (Some s) = stays t

greeting_grow : (now : Stamp) (tick : Bool) (t : Turn) → Advances t (greeting now tick t)
unfolding greeting
greeting_grow now tick t = grow_greeting_by t now tick t.here.session

-- Requests.

grow_ask : (t : Turn) (s : ClientSession) (now : Stamp) (body : Body) (cutting : Option ℕ) → Advances t (ask t s now body cutting)
unfolding ask send
grow_ask t s now body cutting = says t _

grow_repeat : (t : Turn) (s : ClientSession) (now : Stamp) (tick : Bool) (q : Request) → Advances t (repeat t s now tick q)
unfolding repeat ask_again send
grow_repeat t s now tick q = either (passes.is_old t.config now tick q) _ _ t (says t _) (stays t)

grow_keep_alive : (t : Turn) (s : ClientSession) (now : Stamp) → Advances t (keep_alive t s now)
unfolding keep_alive
grow_keep_alive t s now = either (lease.is_renewing (lease.phase_of t.config s.lease now)) _ _ t (grow_ask t s now bodies.KeepAlive None) (stays t)

grow_ask_for : (t : Turn) (s : ClientSession) (now : Stamp) (a : Option Asking) → Advances t (ask_for_or t s now a)
unfolding ask_for_or ask_for ask send
grow_ask_for t s now None = grow_keep_alive t s now
grow_ask_for t s now (Some a) = says t _

grow_ask_next : (t : Turn) (s : ClientSession) (now : Stamp) → Advances t (ask_next t s now)
unfolding ask_next
grow_ask_next t s now = either (is_serving t.config s now) _ _ t (grow_ask_for t s now (passes.first_asking t s now t.operations)) (grow_keep_alive t s now)

grow_ask_by : (t : Turn) (s : ClientSession) (now : Stamp) (rs : List Release) → Advances t (ask_by t s now rs)
unfolding ask_by ask_release
grow_ask_by t s now [] = grow_ask_next t s now
grow_ask_by t s now (r ∷ rs) = grow_ask t (record s { releases = rs }) now (bodies.Released r.ino r.g r.to) None

grow_ask_new : (t : Turn) (s : ClientSession) (now : Stamp) → Advances t (ask_new t s now)
unfolding ask_new reassert
grow_ask_new t s now = either s.due _ _ t (grow_ask t s now (bodies.Reassert (locks.all_locks s.locks)) None) (grow_ask_by t s now s.releases)

grow_requests_at : (t : Turn) (s : ClientSession) (now : Stamp) (tick : Bool) (q : Option Request) → Advances t (requests_at t s now tick q)
unfolding requests_at
grow_requests_at t s now tick None = grow_ask_new t s now
grow_requests_at t s now tick (Some q) = grow_repeat t s now tick q

grow_requests_by : (t : Turn) (now : Stamp) (tick : Bool) (s : Option ClientSession) → Advances t (requests_by t now tick s)
unfolding requests_by requests_under
grow_requests_by t now tick None = stays t
grow_requests_by t now tick (Some s) = either s.lease.condemned _ _ t (stays t) (grow_requests_at t s now tick s.requests.asked)

requests_grow : (now : Stamp) (tick : Bool) (t : Turn) → Advances t (requests now tick t)
unfolding requests
requests_grow now tick t = grow_requests_by t now tick t.here.session

-- all passes at a server
pub passes_grow : (now : Stamp) (tick : Bool) (t : Turn) → Advances t (passes.passes now tick t)
unfolding passes.passes
passes_grow now tick t =
    let a = operations now t in
    let b = reductions a in
    let c = writes now tick b in
    let d = greeting now tick c in
    then_more t a (requests now tick d) (operations_grow now t)
    (then_more a b (requests now tick d) (reductions_grow a)
    (then_more b c (requests now tick d) (writes_grow now tick b)
    (then_more c d (requests now tick d) (greeting_grow now tick c) (requests_grow now tick d))))
