-- The passes at a server leave all that a client keeps and sends in the ranges of messages.
use Rattle.st_lemmas.proofs.Words
use Words.{◌≡◌, ℕ, ◌+◌, ◌-◌, ◌^◌, ◌<◌, Bool, true, ◌&&◌, List, [], ◌∷◌, length, refl, arith, Option, Some, None, Result, Ok, Err, list_all, le-leb, FileId}
use Words.{GrantNo, PageNo, Stamp, Mode, Ask, Note, KnownExtent, MappedBlock, Operation, WriteRefusal, DirtyPage}
use Words.commands
use Words.modes
use Words.Tables.{and_true}
use Words.asks
use Words.bodies
use Words.answers
use Words.notes
use Words.outputs
use Words.Ranges.{has_length, is_ask, is_body, is_file, is_grant, is_ino, is_mode, is_page}
use Words.Kinds.{between}
use Words.FlatLog.{overlay}
use Words.ClientLocks as locks
use Words.ClientPages as pages
use Words.ClientPages.{Pages}
use Words.ClientPasses as passes
use Words.ClientPasses.{submit_command, submit_read, submit_write, sync, quiesce, change, change_by, change_page, write, fetch_mapped, fetch_at, fetch}
use Words.ClientPasses.{patch_bytes, patch_at, patch, read_cached, read_known, read_uncached, read_at, read, serve_open, serve, operate_under, operate_by}
use Words.ClientPasses.{operate_on, operate, operate_each, operations, reduce_to, reduce_given, reduce_by, reduce_idle, reduce, reduce_each, reductions}
use Words.ClientPasses.{write_out_at, write_out, write_due, write_page, write_each, writes_by, writes, hello, greet, greeting_by, greeting}
use Words.ClientState.{ClientSession, Turn, file_of, is_of, is_open_file, is_sent, is_serving, keep, note, with_cache, with_operations}
use Words.Tests.{all_last}
use Words.Truth.{if_either}
use Rattle.st_client.proofs.SoundLocks.{FitGiven, cache_fit, reduce_fit, release_fit}
use Rattle.st_client.proofs.SoundMessages.{Fit, FitIn, FitSession, hello_header, in_between, puts_fit, says_fit, sends_fit}
use Rattle.st_client.specs.Inputs.{is_noted}
use Rattle.st_client.specs.Invariants.{is_sound_operation}

-- a patch lies in its page
patch_lies : (f : FileId) (p : PageNo) (at : ℕ) (bytes : List ℕ) → is_ask (asks.Patch f p at bytes) ≡ true → is_noted (notes.Patched f p at bytes) ≡ true
unfolding is_ask
patch_lies f p at bytes e =
    let a = and_true (is_file 1 f) (is_page 0 p.0 && (between 0 4095 at && has_length 1 (4096 - at) bytes)) e in
    let b = and_true (is_page 0 p.0) (between 0 4095 at && has_length 1 (4096 - at) bytes) a.1 in
    let c = and_true (between 0 4095 at) (has_length 1 (4096 - at) bytes) b.1 in
    let k = (in_between 0 4095 at c.0).1 in
    let l = (in_between 1 (4096 - at) (length bytes) c.1).1 in
    le-leb (at + length bytes) 4096 (omega (arith, k, l))

module _ (most : ℕ) where
  keep_fit : (t : Turn) (o : Operation) → is_sound_operation o ≡ true → Fit most t → Fit most (keep o t)
  keep_fit t o k h = record { id = h.id; here = h.here; operations = all_last is_sound_operation t.operations o h.operations k; out = h.out }

  -- Operations.

  sync_fit : (t : Turn) (o : Operation) (f : FileId) → is_sound_operation o ≡ true → Fit most t → Fit most (sync t o f)
  unfolding sync
  sync_fit t o f k h = if_either (Fit most) (pages.is_hard t.here.store f.ino) _ (keep o t) (says_fit most t _ refl h) (keep_fit t o k h)

  quiesce_fit : (t : Turn) (o : Operation) → is_sound_operation o ≡ true → Fit most t → Fit most (quiesce t o)
  unfolding quiesce
  quiesce_fit t o k h = if_either (Fit most) (is_sent o) (keep o t) _ (keep_fit t o k h) (says_fit most t _ refl h)

  change_fit : (t : Turn) (o : Operation) (f : FileId) (p : PageNo) (n : Note) (r : Result Pages WriteRefusal) → is_noted n ≡ true → Fit most t → Fit most (change_by t o f p n r)
  unfolding change_by change
  change_fit t o f p n (Ok ps) e h = says_fit most (note t n) (outputs.Answer o.op answers.Written) refl (says_fit most t (outputs.Note n) e h)
  change_fit t o f p n (Err r) e h = says_fit most t _ refl h

  write_fit : (t : Turn) (s : ClientSession) (o : Operation) (f : FileId) (p : PageNo) (bytes : List ℕ) → is_sound_operation o ≡ true → Fit most t → Fit most (write t s o f p bytes)
  unfolding write change_page
  write_fit t s o f p bytes k h =
      if_either (Fit most) (passes.may_write t s f p) _ (keep o t)
      (change_fit t o f p (notes.Accepted f p bytes) (pages.write t.here.store.pages f.ino p bytes) refl h) (keep_fit t o k h)

  fetch_at_fit : (t : Turn) (f : FileId) (p : PageNo) (m : Option MappedBlock) → Fit most t → Fit most (fetch_at t f p m)
  unfolding fetch_at fetch_mapped submit_read submit_command
  fetch_at_fit t f p None h = h
  fetch_at_fit t f p (Some m) h = if_either (Fit most) (pages.is_being_read t.here.store.commands f.ino p) t _ h
      (says_fit most t (outputs.Submit t.next_command m.at (commands.Read m.at)) refl h)

  fetch_fit : (t : Turn) (o : Operation) (f : FileId) (p : PageNo) → is_sound_operation o ≡ true → Fit most t → Fit most (fetch t o f p)
  unfolding fetch
  fetch_fit t o f p k h = keep_fit (fetch_at t f p (pages.mapping_of t.here.store.extents f.ino p)) o k (fetch_at_fit t f p (pages.mapping_of t.here.store.extents f.ino p) h)

  patch_at_fit : (t : Turn) (o : Operation) (f : FileId) (p : PageNo) (at : ℕ) (bytes : List ℕ) (old : Option (List ℕ)) → is_noted (notes.Patched f p at bytes) ≡ true → is_sound_operation o ≡ true →
      Fit most t → Fit most (patch_at t o f p at bytes old)
  unfolding patch_at patch_bytes change_page
  patch_at_fit t o f p at bytes None e k h = fetch_fit t o f p k h
  patch_at_fit t o f p at bytes (Some old) e k h = change_fit t o f p (notes.Patched f p at bytes) (pages.write t.here.store.pages f.ino p (overlay at bytes old)) e h

  patch_fit : (t : Turn) (s : ClientSession) (o : Operation) (f : FileId) (p : PageNo) (at : ℕ) (bytes : List ℕ) → is_noted (notes.Patched f p at bytes) ≡ true → is_sound_operation o ≡ true →
      Fit most t → Fit most (patch t s o f p at bytes)
  unfolding patch
  patch_fit t s o f p at bytes e k h =
      if_either (Fit most) (passes.may_write t s f p) _ (keep o t) (patch_at_fit t o f p at bytes (pages.cached t.here.store.pages f.ino p) e k h)
      (keep_fit t o k h)

  read_known_fit : (t : Turn) (o : Operation) (f : FileId) (p : PageNo) (e : KnownExtent) (m : Option MappedBlock) → is_sound_operation o ≡ true → Fit most t → Fit most (read_known t o f p e m)
  unfolding read_known
  read_known_fit t o f p e None k h = says_fit most t _ refl h
  read_known_fit t o f p e (Some m) k h = fetch_fit t o f p k h

  read_uncached_fit : (t : Turn) (o : Operation) (f : FileId) (p : PageNo) (e : Option KnownExtent) → is_sound_operation o ≡ true → Fit most t → Fit most (read_uncached t o f p e)
  unfolding read_uncached
  read_uncached_fit t o f p None k h = keep_fit t o k h
  read_uncached_fit t o f p (Some e) k h = read_known_fit t o f p e e.mapping k h

  read_at_fit : (t : Turn) (o : Operation) (f : FileId) (p : PageNo) (bytes : Option (List ℕ)) → is_sound_operation o ≡ true → Fit most t → Fit most (read_at t o f p bytes)
  unfolding read_at read_cached
  read_at_fit t o f p None k h = read_uncached_fit t o f p (pages.known_of t.here.store.extents f.ino p) k h
  read_at_fit t o f p (Some bytes) k h = says_fit most t (outputs.Answer o.op (answers.Read bytes)) refl h

  read_fit : (t : Turn) (s : ClientSession) (o : Operation) (f : FileId) (p : PageNo) → is_sound_operation o ≡ true → Fit most t → Fit most (read t s o f p)
  unfolding read
  read_fit t s o f p k h = if_either (Fit most) (passes.holds s modes.S f) _ (keep o t) (read_at_fit t o f p (pages.cached t.here.store.pages f.ino p) k h)
      (keep_fit t o k h)

  serve_open_fit : (t : Turn) (s : ClientSession) (o : Operation) (a : Ask) → is_ask a ≡ true → is_sound_operation o ≡ true → Fit most t → Fit most (serve_open t s o a)
  unfolding serve_open
  serve_open_fit t s o (asks.Write f p bytes) e k h = write_fit t s o f p bytes k h
  serve_open_fit t s o (asks.Patch f p at bytes) e k h = patch_fit t s o f p at bytes (patch_lies f p at bytes e) k h
  serve_open_fit t s o (asks.Read f p) e k h = read_fit t s o f p k h
  serve_open_fit t s o a e k h = keep_fit t o k h

  serve_fit : (all : List Operation) (t : Turn) (s : ClientSession) (o : Operation) → is_sound_operation o ≡ true → Fit most t → Fit most (serve all t s o)
  unfolding serve
  serve_fit all t s o k h = if_either (Fit most) (is_open_file all t.here.server s (file_of o.ask)) _ (keep o t) (serve_open_fit t s o o.ask k k h)
      (keep_fit t o k h)

  operate_by_fit : (all : List Operation) (t : Turn) (now : Stamp) (o : Operation) (s : Option ClientSession) → is_sound_operation o ≡ true → Fit most t → Fit most (operate_by all t now o s)
  unfolding operate_by operate_under
  operate_by_fit all t now o None k h = keep_fit t o k h
  operate_by_fit all t now o (Some s) k h = if_either (Fit most) (is_serving t.config s now) _ _ (serve_fit all t s o k h) (quiesce_fit t o k h)

  operate_on_fit : (all : List Operation) (t : Turn) (now : Stamp) (o : Operation) (a : Ask) → is_sound_operation o ≡ true → Fit most t → Fit most (operate_on all t now o a)
  unfolding operate_on
  operate_on_fit all t now o (asks.Sync f) k h = sync_fit t o f k h
  operate_on_fit all t now o a k h = operate_by_fit all t now o t.here.session k h

  operate_fit : (all : List Operation) (t : Turn) (now : Stamp) (o : Operation) → is_sound_operation o ≡ true → Fit most t → Fit most (operate all t now o)
  unfolding operate
  operate_fit all t now o k h = if_either (Fit most) (is_of t.here.server o) _ (keep o t) (operate_on_fit all t now o o.ask k h) (keep_fit t o k h)

  operate_each_fit : (all : List Operation) (now : Stamp) (os : List Operation) (t : Turn) → list_all is_sound_operation os ≡ true → Fit most t → Fit most (operate_each all now os t)
  unfolding operate_each
  operate_each_fit all now [] t k h = h
  operate_each_fit all now (o ∷ os) t k h =
      let s = and_true (is_sound_operation o) (list_all is_sound_operation os) k in
      operate_each_fit all now os (operate all t now o) s.1 (operate_fit all t now o s.0 h)

  pub operations_fit : (now : Stamp) (t : Turn) → Fit most t → Fit most (operations now t)
  unfolding operations
  operations_fit now t h = operate_each_fit t.operations now t.operations (with_operations [] t) h.operations (record { id = h.id; here = h.here; operations = refl; out = h.out })

  -- Reductions.

  reduce_to_fit : (t : Turn) (s : ClientSession) (ino : ℕ) (g : GrantNo) (to : Mode) → is_ino ino ≡ true → is_grant g ≡ true → is_mode 0 1 to ≡ true → FitSession most s → Fit most t →
      Fit most (reduce_to t s ino g to)
  unfolding reduce_to
  reduce_to_fit t s ino g to i e m l h = puts_fit most t (passes.released s ino g to) (release_fit most s ino g to i e m l) h

  reduce_given_fit : (t : Turn) (s : ClientSession) (ino : ℕ) (g : Option (GrantNo × Mode)) → FitGiven ino g → FitSession most s → Fit most t → Fit most (reduce_given t s ino g)
  unfolding reduce_given
  reduce_given_fit t s ino None e l h = h
  reduce_given_fit t s ino (Some g) e l h = reduce_to_fit t s ino g.0 g.1 e.0 e.1 e.2 l h

  reduce_one_fit : (t : Turn) (ino : ℕ) (s : Option ClientSession) → FitIn most s → Fit most t → Fit most (reduce t ino s)
  unfolding reduce reduce_idle reduce_by
  reduce_one_fit t ino None l h = h
  reduce_one_fit t ino (Some s) l h =
      let r = reduce_fit s.locks ino l.sound.locks in
      if_either (Fit most) (passes.may_reduce t s ino) _ t
      (reduce_given_fit t (with_cache (locks.reduce s.locks ino).locks s) ino (locks.reduce s.locks ino).given r.1 (cache_fit most s (locks.reduce s.locks ino).locks r.0 l) h) h

  reduce_each_fit : (inos : List ℕ) (t : Turn) → Fit most t → Fit most (reduce_each inos t)
  unfolding reduce_each
  reduce_each_fit [] t h = h
  reduce_each_fit (ino ∷ inos) t h = reduce_each_fit inos (reduce t ino t.here.session) (reduce_one_fit t ino t.here.session h.here.session h)

  pub reductions_fit : (t : Turn) → Fit most t → Fit most (reductions t)
  unfolding reductions
  reductions_fit t h = reduce_each_fit (passes.files_demanded t.here.session) t h

  -- Writes.

  out_at_fit : (t : Turn) (d : DirtyPage) (m : Option MappedBlock) → Fit most t → Fit most (write_out_at t d m)
  unfolding write_out_at submit_write submit_command
  out_at_fit t d None h = h
  out_at_fit t d (Some m) h =
      says_fit most t (outputs.Submit t.next_command m.at (commands.Write m.at (record { file = passes.file t d.ino; page = d.page; birth = m.birth }) d.bytes)) refl h

  write_page_fit : (t : Turn) (s : ClientSession) (now : Stamp) (tick : Bool) (d : Option DirtyPage) → Fit most t → Fit most (write_page t s now tick d)
  unfolding write_page write_due write_out
  write_page_fit t s now tick None h = h
  write_page_fit t s now tick (Some d) h = if_either (Fit most) (passes.is_writable t s now tick d) _ t
      (out_at_fit t d (pages.mapping_of t.here.store.extents d.ino d.page) h) h

  write_each_fit : (s : ClientSession) (now : Stamp) (tick : Bool) (xs : List (ℕ × PageNo)) (t : Turn) → Fit most t → Fit most (write_each s now tick xs t)
  unfolding write_each
  write_each_fit s now tick [] t h = h
  write_each_fit s now tick (x ∷ xs) t h =
      let d = pages.dirty_of t.here.store.pages x.0 x.1 in
      write_each_fit s now tick xs (write_page t s now tick d) (write_page_fit t s now tick d h)

  writes_by_fit : (t : Turn) (now : Stamp) (tick : Bool) (s : Option ClientSession) → Fit most t → Fit most (writes_by t now tick s)
  unfolding writes_by
  writes_by_fit t now tick None h = h
  writes_by_fit t now tick (Some s) h = write_each_fit s now tick (pages.dirty_places t.here.store.pages) t h

  pub writes_fit : (now : Stamp) (tick : Bool) (t : Turn) → Fit most t → Fit most (writes now tick t)
  unfolding writes
  writes_fit now tick t h = writes_by_fit t now tick t.here.session h

  -- Greeting.

  module _ (high : most < 2 ^ 64) (now : Stamp) (time : now.0 < 2 ^ 64) where
    greeting_by_fit : (t : Turn) (tick : Bool) (s : Option ClientSession) → Fit most t → Fit most (greeting_by t now tick s)
    unfolding greeting_by greet hello is_body
    greeting_by_fit t tick None h =
        let u = passes.with_greeting now t in
        if_either (Fit most) (passes.must_greet t now tick) (hello t now) t
        (sends_fit most u 0 0 now.0 bodies.Hello (hello_header most high u now.0 time h) refl h) h
    greeting_by_fit t tick (Some s) h = h

    pub greeting_fit : (tick : Bool) (t : Turn) → Fit most t → Fit most (greeting now tick t)
    unfolding greeting
    greeting_fit tick t h = greeting_by_fit t tick t.here.session h
