-- The passes of a client at a server are lists of changes: operations, reductions, writes and greeting.
use Rattle.st_lemmas.proofs.Words
use Words.{◌≡◌, ℕ, Bool, true, false, not, List, [], ◌∷◌, ◌==◌, Option, Some, None, Ok, Err, refl, sym, ap, ◌∙◌, subst, inl, inr, arith}
use Words.{if◌then◌else◌, eq-eqb, eqb-true, le-leb, FileId, GrantNo, PageNo, ServerId, Stamp, Mode, Ask, Note, DirtyPage, CleanPage, KnownExtent}
use Words.{MappedBlock, Operation}
use Words.modes
use Words.Page.{filled}
use Words.asks
use Words.answers
use Words.notes
use Words.writing as refusals
use Words.FlatLog.{overlay}
use Words.ClientLocks as locks
use Words.ClientPages as pages
use Words.ClientPasses as cp
use Words.ClientState.{ClientSession, Turn, with_store, with_operations, with_cache, server_of, file_of, is_of, is_busy, is_file, is_serving, is_open_file}
use Words.ClientState.{send}
use Words.Keys.{page_no}
use Words.Lists.{Has}
use Words.Lookups.{or_false, some_is}
use Words.Tables.{and_both, and_true, found_at, has_filter, not_true}
use Words.Members.{has_take}
use Words.Truth.{not_both}
use Rattle.st_laws_steps.proofs.Client.Changes.{goes_keeps}
use Rattle.st_laws_steps.specs.Client.Client as client
use Rattle.st_laws_steps.specs.Client.Client.{ChangesPage}
use Rattle.st_laws_steps.specs.Client.Session.{LocksReduced, NothingKnown}
use Rattle.st_laws_steps.proofs.Client.Passing.{changes, OnlyKeeps, Says, Operates, Greets, Follows, Forgets, Caches, Uncut, Writes, Reads, SendsHello, Submits}
use Rattle.st_laws_steps.proofs.Client.Passing.{Changes, Still, one, both, if_changes, changes_by_keeping, changes_by_answer}

server_is : (a b : ServerId) → (a.0 == b.0) ≡ true → a ≡ b
server_is a b e = ap (λ n. record { 0 = n }) (eqb-true a.0 b.0 e)

-- a page that is not cached is not dirty
pub not_dirty : (c : Option CleanPage) (o : Option DirtyPage) → pages.cached_at o c ≡ None → o ≡ None
not_dirty c None e = refl
not_dirty c (Some d) e = cc e

-- a file that is open is not the one that is cut
open_uncut : (all : List Operation) (server : ServerId) (s : ClientSession) (t : Turn) (ino : ℕ) → t.here.session ≡ Some s →
    is_open_file all server s (Some ino) ≡ true → Uncut t ino
open_uncut all server s t ino e h r f c =
    not_both (is_file ino r.cutting) (ap (is_file ino) c ∙ eq-eqb ino ino refl)
    (ap (λ (z : ClientSession). is_file ino z.cutting) (some_is (sym f ∙ e)) ∙
    (or_false (is_file ino s.cutting) _
    (not_true (is_busy all server s ino) (and_true (not (locks.is_demanded s.locks ino)) (not (is_busy all server s ino)) h).1)).0)

-- what is among those of a list of clean pages with the newest one is that one, or was there
newest_there : (most : ℕ) (c : CleanPage) (xs : List CleanPage) → Has c xs → (y : CleanPage) → Has y (pages.with_newest most c xs) → Has y xs
newest_there most c xs h y i = go (has_take most (c ∷ pages.without_clean c.ino c.page xs) y i)
  where
    go : Has y (c ∷ pages.without_clean c.ino c.page xs) → Has y xs
    go (inl e) = subst (λ z. Has z xs) (sym e) h
    go (inr j) = (has_filter _ xs y j).0

-- nothing is known from the first page on
none_behind : (ino : ℕ) (xs : List KnownExtent) → NothingKnown (pages.known_before ino (page_no 0) xs) ino
none_behind ino xs e i q =
    not_both (pages.is_known_behind ino (page_no 0) e) (and_both _ _ (eq-eqb e.ino ino q) (le-leb 0 e.page.0 (omega arith)))
    (not_true _ (has_filter (λ z. not (pages.is_known_behind ino (page_no 0) z)) xs e i).1)

module _ (syncs : List Operation) (now : Stamp) where
  abbrev C : Turn → Turn → Type 0
  C t u = Changes syncs OnlyKeeps now t u

  -- operations
  pub changes_by_sync : (t : Turn) (o : Operation) (f : FileId) → Has o syncs → o.ask ≡ asks.Sync f → server_of o.ask ≡ t.here.server → C t (cp.sync t o f)
  unfolding cp.sync
  changes_by_sync t o f h a own =
      if_changes (pages.is_hard t.here.store f.ino) t _ _
      (λ e. changes_by_answer t o.op answers.Hard
      (record { operation = o; has = h; op_is = refl; file = f; was_asked = a; own = sym (ap server_of a) ∙ own; hard = e })) (λ e. changes_by_keeping t o)

  pub changes_by_quiesce : (t : Turn) (o : Operation) → C t (cp.quiesce t o)
  unfolding cp.quiesce
  changes_by_quiesce t o = if_changes (Rattle.st_rules.specs.ClientState.is_sent o) t _ _ (λ e. changes_by_keeping t o)
      (λ e. changes_by_answer t o.op answers.Quiesced tt)

  changes_by_change : (t : Turn) (s : ClientSession) (o : Operation) (f : FileId) (p : PageNo) (bytes : List ℕ) (n : Note) → t.here.session ≡ Some s →
      is_serving t.config s now ≡ true → f.server ≡ t.here.server → pages.is_mapped t.here.store.extents f.ino p ≡ true → ChangesPage f p n → Uncut t f.ino →
      C t (cp.change_page t o f p bytes n)
  unfolding cp.change_page cp.change_by cp.change pages.write
  changes_by_change t s o f p bytes n se sv own m h q = go (pages.is_full_for t.here.store.pages f.ino p)
    where
      go : (b : Bool) → C t (cp.change_by t o f p n (if b then Err refusals.DirtyFull else Ok (pages.written t.here.store.pages f.ino p bytes)))
      go true = changes_by_answer t o.op answers.DirtyFull tt
      go false = both (one (Writes t s f p bytes n se sv own m h q)) (changes_by_answer _ o.op answers.Written tt)

  changes_by_write : (t : Turn) (s : ClientSession) (o : Operation) (f : FileId) (p : PageNo) (bytes : List ℕ) → t.here.session ≡ Some s →
      is_serving t.config s now ≡ true → f.server ≡ t.here.server → Uncut t f.ino → C t (cp.write t s o f p bytes)
  unfolding cp.write
  changes_by_write t s o f p bytes se sv own q =
      if_changes (cp.may_write t s f p) t _ _
      (λ e. changes_by_change t s o f p bytes (notes.Accepted f p bytes) se sv own
      (and_true (cp.holds s modes.X f) (pages.is_mapped t.here.store.extents f.ino p) e).1 (refl, refl) q) (λ e. changes_by_keeping t o)

  pub changes_by_fetch : (t : Turn) (o : Operation) (f : FileId) (p : PageNo) → pages.cached t.here.store.pages f.ino p ≡ None → Uncut t f.ino →
      C t (cp.fetch t o f p)
  unfolding cp.fetch cp.fetch_at cp.fetch_mapped
  changes_by_fetch t o f p uncached q = both (go (pages.mapping_of t.here.store.extents f.ino p) refl) (changes_by_keeping _ o)
    where
      go : (m : Option MappedBlock) → pages.mapping_of t.here.store.extents f.ino p ≡ m → C t (cp.fetch_at t f p m)
      go None e = Still t
      go (Some m) e = if_changes (pages.is_being_read t.here.store.commands f.ino p) t _ _ (λ b. Still t)
          (λ b. one (Reads t f.ino p m e (not_dirty (pages.clean_of t.here.store.pages f.ino p) (pages.dirty_of t.here.store.pages f.ino p) uncached) q))

  changes_by_patch : (t : Turn) (s : ClientSession) (o : Operation) (f : FileId) (p : PageNo) (at : ℕ) (bytes : List ℕ) → t.here.session ≡ Some s →
      is_serving t.config s now ≡ true → f.server ≡ t.here.server → Uncut t f.ino → C t (cp.patch t s o f p at bytes)
  unfolding cp.patch cp.patch_at cp.patch_bytes
  changes_by_patch t s o f p at bytes se sv own free =
      if_changes (cp.may_write t s f p) t _ _
      (λ e. go (and_true (cp.holds s modes.X f) (pages.is_mapped t.here.store.extents f.ino p) e).1 (pages.cached t.here.store.pages f.ino p) refl)
      (λ e. changes_by_keeping t o)
    where
      go : pages.is_mapped t.here.store.extents f.ino p ≡ true → (b : Option (List ℕ)) → pages.cached t.here.store.pages f.ino p ≡ b →
          C t (cp.patch_at t o f p at bytes b)
      go m None q = changes_by_fetch t o f p q free
      go m (Some old) q = changes_by_change t s o f p (overlay at bytes old) (notes.Patched f p at bytes) se sv own m (refl, refl) free

  changes_by_use : (t : Turn) (ino : ℕ) (p : PageNo) → C t (with_store (record t.here.store { pages = pages.use_page t.here.store.pages ino p }) t)
  unfolding pages.use_page pages.use_clean pages.use_at
  changes_by_use t ino p = go (pages.dirty_of t.here.store.pages ino p) (pages.clean_of t.here.store.pages ino p)
    where
      go : (d : Option DirtyPage) (c : Option CleanPage) → C t (with_store (record t.here.store { pages = pages.use_clean t.here.store.pages ino p d }) t)
      go (Some d) c = Still t
      go None c = at (pages.clean_of t.here.store.pages ino p) refl
        where
          at : (c : Option CleanPage) → pages.clean_of t.here.store.pages ino p ≡ c →
              C t (with_store (record t.here.store { pages = pages.use_at t.here.store.pages c }) t)
          at None e = Still t
          at (Some c) e =
              one (Caches t (pages.with_newest t.here.store.pages.most_clean c t.here.store.pages.clean)
              (newest_there t.here.store.pages.most_clean c t.here.store.pages.clean (found_at (pages.is_clean_of ino p) t.here.store.pages.clean c e).1))

  pub changes_by_read : (t : Turn) (s : ClientSession) (o : Operation) (f : FileId) (p : PageNo) → Uncut t f.ino → C t (cp.read t s o f p)
  unfolding cp.read cp.read_at cp.read_cached cp.read_uncached cp.read_known
  changes_by_read t s o f p free = if_changes (cp.holds s modes.S f) t _ _ (λ e. go (pages.cached t.here.store.pages f.ino p) refl)
      (λ e. changes_by_keeping t o)
    where
      mapped : pages.cached t.here.store.pages f.ino p ≡ None → (e : KnownExtent) (m : Option MappedBlock) → C t (cp.read_known t o f p e m)
      mapped q e None = changes_by_answer t o.op (answers.Read (filled 0)) tt
      mapped q e (Some m) = changes_by_fetch t o f p q free

      known : pages.cached t.here.store.pages f.ino p ≡ None → (e : Option KnownExtent) → C t (cp.read_uncached t o f p e)
      known q None = changes_by_keeping t o
      known q (Some e) = mapped q e e.mapping

      go : (b : Option (List ℕ)) → pages.cached t.here.store.pages f.ino p ≡ b → C t (cp.read_at t o f p b)
      go None q = known q (pages.known_of t.here.store.extents f.ino p)
      go (Some bytes) q = both (changes_by_use t f.ino p) (changes_by_answer _ o.op (answers.Read bytes) tt)

  changes_by_serve : (t : Turn) (s : ClientSession) (o : Operation) (ask : Ask) → t.here.session ≡ Some s → is_serving t.config s now ≡ true →
      server_of ask ≡ t.here.server → ((ino : ℕ) → file_of ask ≡ Some ino → Uncut t ino) → C t (cp.serve_open t s o ask)
  unfolding cp.serve_open
  changes_by_serve t s o (asks.Write f p bytes) se sv own free = changes_by_write t s o f p bytes se sv own (free f.ino refl)
  changes_by_serve t s o (asks.Patch f p at bytes) se sv own free = changes_by_patch t s o f p at bytes se sv own (free f.ino refl)
  changes_by_serve t s o (asks.Read f p) se sv own free = changes_by_read t s o f p (free f.ino refl)
  changes_by_serve t s o ask se sv own free = changes_by_keeping t o

  changes_by_operate : (all : List Operation) (t : Turn) (o : Operation) → Has o syncs → C t (cp.operate all t now o)
  unfolding cp.operate cp.operate_on cp.operate_by cp.operate_under cp.serve
  changes_by_operate all t o has = if_changes (is_of t.here.server o) t _ _ (λ e. on o.ask refl (server_is _ _ e)) (λ e. changes_by_keeping t o)
    where
      by : server_of o.ask ≡ t.here.server → (x : Option ClientSession) → t.here.session ≡ x → C t (cp.operate_by all t now o x)
      by own None se = changes_by_keeping t o
      by own (Some s) se =
          if_changes (is_serving t.config s now) t _ _
          (λ sv. if_changes (is_open_file all t.here.server s (file_of o.ask)) t _ _
          (λ e. changes_by_serve t s o o.ask se sv own
          (λ ino f. open_uncut all t.here.server s t ino se (ap (is_open_file all t.here.server s) (sym f) ∙ e))) (λ e. changes_by_keeping t o))
          (λ e. changes_by_quiesce t o)

      on : (ask : Ask) → o.ask ≡ ask → server_of o.ask ≡ t.here.server → C t (cp.operate_on all t now o ask)
      on (asks.Sync f) e own = changes_by_sync t o f has e own
      on ask e own = by own t.here.session refl

  changes_by_operate_each : (all os : List Operation) (t : Turn) → ((o : Operation) → Has o os → Has o syncs) → C t (cp.operate_each all now os t)
  unfolding cp.operate_each
  changes_by_operate_each all [] t h = Still t
  changes_by_operate_each all (o ∷ os) t h = both (changes_by_operate all t o (h o (inl refl)))
      (changes_by_operate_each all os (cp.operate all t now o) (λ p i. h p (inr i)))

pub operations_only_keep : (now : Stamp) (t : Turn) → Changes t.operations OnlyKeeps now t (cp.operations now t)
unfolding cp.operations
operations_only_keep now t = both (one (Operates t [])) (changes_by_operate_each t.operations now t.operations t.operations (with_operations [] t) (λ o h. h))

module _ (now : Stamp) where
  -- what is done after the operations answers no sync hard
  abbrev D : Turn → Turn → Type 0
  D t u = Changes [] OnlyKeeps now t u

  -- reductions
  changes_by_forgotten : (t : Turn) (ino : ℕ) (to : Mode) → pages.is_idle t.here.store ino ≡ true → D t (with_store (cp.forgotten_at ino to t.here.store) t)
  changes_by_forgotten t ino modes.None i = one (Forgets t ino (Rattle.st_rules.specs.Keys.page_no 0) i)
  changes_by_forgotten t ino modes.S i = Still t
  changes_by_forgotten t ino modes.X i = Still t

  changes_by_reduce : (t : Turn) (ino : ℕ) → D t (cp.reduce t ino t.here.session)
  unfolding cp.reduce cp.reduce_idle cp.reduce_by cp.reduce_given cp.reduce_to pages.forget_from
  changes_by_reduce t ino = go t.here.session refl
    where
      -- nothing is known of a file whose lock is given up
      unknown : (to : Mode) → to ≡ modes.None → NothingKnown (cp.forgotten_at ino to t.here.store).extents ino
      unknown modes.None q = none_behind ino t.here.store.extents
      unknown modes.S q = cc q
      unknown modes.X q = cc q

      given : (s : ClientSession) (o : Option (GrantNo × Mode)) → (locks.reduce s.locks ino).given ≡ o → t.here.session ≡ Some s →
          pages.is_idle t.here.store ino ≡ true →
          D t (cp.reduce_given t (with_cache (locks.reduce s.locks ino).locks s) ino o)
      given s None q e i = Still t
      given s (Some (g, to)) q e i =
          both (changes_by_forgotten t ino to i)
          (one (Follows (with_store (cp.forgotten_at ino to t.here.store) t) s (cp.released (with_cache (locks.reduce s.locks ino).locks s) ino g to) e
          (goes_keeps (cp.forgotten_at ino to t.here.store) s _
          (record { epoch = refl; requests = refl; cutting = refl; due = refl; date = refl; locks = LocksReduced s.locks ino g to q (unknown to) }))
          (record { may = refl })))

      go : (x : Option ClientSession) → t.here.session ≡ x → D t (cp.reduce t ino x)
      go None e = Still t
      go (Some s) e =
          if_changes (cp.may_reduce t s ino) t _ _
          (λ b. given s (locks.reduce s.locks ino).given refl e
          (and_true (pages.is_idle t.here.store ino) (not (is_busy t.operations t.here.server s ino)) b).0) (λ b. Still t)

  changes_by_reduce_each : (inos : List ℕ) (t : Turn) → D t (cp.reduce_each inos t)
  unfolding cp.reduce_each
  changes_by_reduce_each [] t = Still t
  changes_by_reduce_each (ino ∷ inos) t = both (changes_by_reduce t ino) (changes_by_reduce_each inos (cp.reduce t ino t.here.session))

  pub reductions_only_keep : (t : Turn) → D t (cp.reductions t)
  unfolding cp.reductions
  reductions_only_keep t = changes_by_reduce_each (cp.files_demanded t.here.session) t

  -- writes
  changes_by_write_due : (t : Turn) (s : ClientSession) (tick : Bool) (ino : ℕ) (p : PageNo) (d : DirtyPage) → t.here.session ≡ Some s →
      pages.dirty_of t.here.store.pages ino p ≡ Some d → D t (cp.write_due t s now tick d)
  unfolding cp.write_due cp.write_out cp.write_out_at
  changes_by_write_due t s tick ino p d se e =
      if_changes (cp.is_writable t s now tick d) t _ _
      (λ w. go
      (not_true (pages.is_being_written t.here.store.commands d.ino d.page)
      (and_true (not (pages.is_being_written t.here.store.commands d.ino d.page)) (cp.is_due t s now tick d) w).0)
      (pages.mapping_of t.here.store.extents d.ino d.page) refl) (λ w. Still t)
    where
      go : pages.is_being_written t.here.store.commands d.ino d.page ≡ false → (m : Option MappedBlock) →
          pages.mapping_of t.here.store.extents d.ino d.page ≡ m → D t (cp.write_out_at t d m)
      go w None i = Still t
      go w (Some m) i = one (Submits t s ino p d m se e i w)

  -- what a write leaves of the session
  same_session : (t : Turn) (s : ClientSession) (tick : Bool) (o : Option DirtyPage) → (cp.write_page t s now tick o).here.session ≡ t.here.session
  unfolding cp.write_page cp.write_due cp.write_out cp.write_out_at cp.submit_write cp.submit_command
  same_session t s tick None = refl
  same_session t s tick (Some d) = go (cp.is_writable t s now tick d)
    where
      out : (m : Option MappedBlock) → (cp.write_out_at t d m).here.session ≡ t.here.session
      out None = refl
      out (Some m) = refl

      go : (b : Bool) → (if b then cp.write_out t d else t).here.session ≡ t.here.session
      go true = out (pages.mapping_of t.here.store.extents d.ino d.page)
      go false = refl

  changes_by_write_each : (s : ClientSession) (tick : Bool) (xs : List (ℕ × PageNo)) (t : Turn) → t.here.session ≡ Some s → D t (cp.write_each s now tick xs t)
  unfolding cp.write_each cp.write_page
  changes_by_write_each s tick [] t se = Still t
  changes_by_write_each s tick (x ∷ xs) t se = both (go (pages.dirty_of t.here.store.pages x.0 x.1) refl)
      (changes_by_write_each s tick xs _ (same_session t s tick (pages.dirty_of t.here.store.pages x.0 x.1) ∙ se))
    where
      go : (o : Option DirtyPage) → pages.dirty_of t.here.store.pages x.0 x.1 ≡ o → D t (cp.write_page t s now tick o)
      go None e = Still t
      go (Some d) e = changes_by_write_due t s tick x.0 x.1 d se e

  pub writes_only_keep : (tick : Bool) (t : Turn) → D t (cp.writes now tick t)
  unfolding cp.writes cp.writes_by
  writes_only_keep tick t = go t.here.session refl
    where
      go : (x : Option ClientSession) → t.here.session ≡ x → D t (cp.writes_by t now tick x)
      go None e = Still t
      go (Some s) e = changes_by_write_each s tick (pages.dirty_places t.here.store.pages) t e

  -- greeting
  pub greeting_only_keep : (tick : Bool) (t : Turn) → D t (cp.greeting now tick t)
  unfolding cp.greeting cp.greeting_by cp.greet cp.hello send
  greeting_only_keep tick t = go t.here.session
    where
      go : (x : Option ClientSession) → D t (cp.greeting_by t now tick x)
      go None = if_changes (cp.must_greet t now tick) t _ _ (λ e. both (one (Greets t (Some now))) (one (Says (cp.with_greeting now t) _ tt SendsHello)))
          (λ e. Still t)
      go (Some s) = Still t

pub changes_by_operations : (now : Stamp) (t : Turn) → client.Changes now t (cp.operations now t)
changes_by_operations now t = changes (operations_only_keep now t)

pub changes_by_reductions : (now : Stamp) (t : Turn) → client.Changes now t (cp.reductions t)
changes_by_reductions now t = changes (reductions_only_keep now t)
