-- Operations, writes and the ends of disk commands: what is busy.
use Rattle.st_lemmas.proofs.Words
use Words.{◌≡◌, ℕ, ◌+◌, ◌≤◌, ◌⊎◌, Bool, true, false, not, ◌||◌, List, [], ◌∷◌, ◌++◌, ◌==◌, Option, Some, None, Ok, Err, refl, sym, ◌∙◌, subst, inl, inr}
use Words.{if◌then◌else◌, leb-true, find, filter, list_any, eqb-true, FileId, PageNo, Stamp, Tag, Ask, AppAnswer, Note, DirtyPage, HeldLock}
use Words.{CleanPage, KnownExtent, MappedBlock, LostPage, IoKind, PageCommand, Ended, Operation, ServerId}
use Words.modes
use Words.Page.{filled}
use Words.asks
use Words.answers
use Words.io
use Words.writing as refusals
use Words.ends
use Words.FlatLog.{overlay}
use Words.ClientLocks.{lock_of, mode_at, is_demanded}
use Words.ClientPages as pages
use Words.Keys.{put}
use Words.ClientPages.{Pages, Store}
use Words.ClientState as st
use Words.ClientState.{ClientSession, Turn, with_session, with_store, note, is_of, is_file, is_open_file, file_of, keep}
use Words.ClientPasses as cp
use Words.Client as cl
use Words.Lookups.{some_is, any_filter, any_last, or_false, or_cases, or_left, or_right}
use Words.Tables.{and_true, not_true}
use Words.Tests.{any_map}
use Words.Truth.{eqb_self}
use Rattle.st_base.specs.Mode.{number_of}
use Rattle.st_lemmas.proofs.Puts.{any_put}
use Rattle.st_protocol.specs.Assoc.{Config, Msg, Stays}
use Rattle.st_laws_refine.specs.Views.Halves.{held_at, busy_in}
use Rattle.st_laws_refine.specs.Client.Invariants.{at, Beside, Goes}
use Rattle.st_laws_refine.proofs.Client.Goes.{is_loss, no_loss, frame_more, said_both, goes_same, goes_then, if_goes, aside_goes, ops_goes, each_goes}
use Rattle.st_laws_refine.proofs.Client.Goes.{rests_goes, works_goes}
use Rattle.st_laws_refine.proofs.Client.Reductions.{with_it}

-- what is found passes any test that follows
pub any_found : {A : Type 0} (p q : A → Bool) (v : A) (xs : List A) → find p xs ≡ Some v → q v ≡ true → list_any q xs ≡ true
any_found p q v [] e h = cc
any_found p q v (x ∷ xs) e h = go (p x) e (any_found p q v xs)
  where
    go : (b : Bool) → (if b then Some x else find p xs) ≡ Some v → (find p xs ≡ Some v → q v ≡ true → list_any q xs ≡ true) → (q x || list_any q xs) ≡ true
    go true e f = or_left (q x) _ (subst (λ z. q z ≡ true) (sym (some_is e)) h)
    go false e f = or_right (q x) _ (f e h)

-- what is busy, by its two parts
busy_by : (x y : Store) (i : ℕ) → (pages.has_dirty x.pages i ≡ true → pages.has_dirty y.pages i ≡ true) → (pages.has_write_on x.commands i ≡ true → pages.has_write_on y.commands i ≡ true) → busy_in x i ≡ true → busy_in y i ≡ true
busy_by x y i f g e = go (or_cases _ _ e)
  where
    go : (pages.has_dirty x.pages i ≡ true) ⊎ (pages.has_write_on x.commands i ≡ true) → busy_in y i ≡ true
    go (inl h) = or_left (pages.has_dirty y.pages i) (pages.has_write_on y.commands i) (f h)
    go (inr h) = or_right (pages.has_dirty y.pages i) (pages.has_write_on y.commands i) (g h)

free_of : (all : List Operation) (server : ServerId) (s : ClientSession) (ino : ℕ) → st.is_open all server s ino ≡ true → is_file ino s.cutting ≡ false
free_of all server s ino h = (or_false (is_file ino s.cutting) (list_any (st.is_sent_on server ino) all) (not_true (st.is_busy all server s ino) (and_true (not (is_demanded s.locks ino)) (not (st.is_busy all server s ino)) h).1)).0

pub same_mode : (o : Option HeldLock) → number_of (mode_at o) ≡ (held_at o).mode
same_mode None = refl
same_mode (Some l) = refl

module _ (k : Config) (sv : Beside) (now : ℕ) (hs : List Msg) where
  answer_goes : (t : Turn) (o : Operation) (a : AppAnswer) → Goes k sv now hs t (cp.answer o a t)
  answer_goes t o a = aside_goes k sv now hs t t.operations t.next_command _ (λ x N. record {}) (λ P. record {})

  note_goes : (t : Turn) (n : Note) → is_loss n ≡ false → Goes k sv now hs t (note t n)
  note_goes t n e = aside_goes k sv now hs t t.operations t.next_command _ (λ x N. record {}) (λ P. no_loss P n _ e (record {}))

  keep_goes : (t : Turn) (o : Operation) → Goes k sv now hs t (keep o t)
  keep_goes t o = ops_goes k sv now hs t (t.operations ++ o ∷ [])

  -- a change of a page
  changed : (x : Store) (ino : ℕ) (p : PageNo) (bytes : List ℕ) (i : ℕ) → busy_in (record x { pages = pages.written x.pages ino p bytes; commands = pages.forget_read x.commands ino p }) i ≡ true → (busy_in x i ≡ true) ⊎ (i ≡ ino)
  unfolding pages.written pages.forget_read
  changed x ino p bytes i e = go (or_cases _ _ e)
    where
      last : (pages.has_dirty x.pages i ≡ true) ⊎ ((ino == i) ≡ true) → (busy_in x i ≡ true) ⊎ (i ≡ ino)
      last (inl h) = inl (or_left (pages.has_dirty x.pages i) (pages.has_write_on x.commands i) h)
      last (inr h) = inr (sym (eqb-true _ _ h))

      go : (list_any (pages.is_dirty_on i) (put (pages.is_dirty_of ino p) (pages.new_dirty x.pages ino p bytes) x.pages.dirty) ≡ true) ⊎ (list_any (pages.is_write_on i) (filter (λ c. not (pages.is_read_of ino p c)) x.commands) ≡ true) → (busy_in x i ≡ true) ⊎ (i ≡ ino)
      go (inl h) = last (any_put (pages.is_dirty_on i) (pages.is_dirty_of ino p) (pages.new_dirty x.pages ino p bytes) x.pages.dirty h)
      go (inr h) = inl (or_right (pages.has_dirty x.pages i) (pages.has_write_on x.commands i) (any_filter (pages.is_write_on i) _ x.commands h))

  change_goes : (t : Turn) (s : ClientSession) (o : Operation) (f : FileId) (p : PageNo) (bytes : List ℕ) (n : Note) → is_loss n ≡ false → cp.holds s modes.X f ≡ true → is_file f.ino s.cutting ≡ false → Goes k sv now hs (with_session s t) (cp.change_page (with_session s t) o f p bytes n)
  unfolding cp.change_page cp.change_by cp.change pages.write
  change_goes t s o f p bytes n nl h free =
      go (pages.is_full_for t.here.store.pages f.ino p)
    where
      u : Turn
      u = note t n

      x : Store
      x = record t.here.store { pages = pages.written t.here.store.pages f.ino p bytes; commands = pages.forget_read t.here.store.commands f.ino p }

      go : (b : Bool) → Goes k sv now hs (with_session s t) (cp.change_by (with_session s t) o f p n (if b then Err refusals.DirtyFull else Ok (pages.written t.here.store.pages f.ino p bytes)))
      go true = answer_goes (with_session s t) o answers.DirtyFull
      go false =
          goes_then k sv now hs (with_session s t) (with_session s u) _ (note_goes (with_session s t) n nl)
          (goes_then k sv now hs (with_session s u) (with_store x (with_session s u)) _
          (works_goes k sv now hs u s x f.ino (changed t.here.store f.ino p bytes) (subst (λ m. 2 ≤ m) (same_mode (lock_of s.locks f.ino)) (leb-true _ _ h)) free)
          (answer_goes (with_store x (with_session s u)) o answers.Written))

  -- a read is submitted
  read_goes : (t : Turn) (ino : ℕ) (p : PageNo) (m : MappedBlock) → Goes k sv now hs t (cp.submit_read t ino p m)
  unfolding cp.submit_read cp.submit_command pages.begin_command
  read_goes t ino p m =
      goes_then k sv now hs t (with_store x t) _ (rests_goes k sv now hs t x (λ i. busy_by x t.here.store i (λ e. e) (λ e. go i (any_last (pages.is_write_on i) _ t.here.store.commands e))))
      (aside_goes k sv now hs (with_store x t) t.operations (t.next_command + 1) _ (λ x N. record {}) (λ P. record {}))
    where
      x : Store
      x = record t.here.store { commands = t.here.store.commands ++ pages.page_command t.next_command ino p io.Read ∷ [] }

      go : (i : ℕ) → (list_any (pages.is_write_on i) t.here.store.commands ≡ true) ⊎ (false ≡ true) → list_any (pages.is_write_on i) t.here.store.commands ≡ true
      go i (inl e) = e
      go i (inr e) = cc

  fetch_goes : (t : Turn) (o : Operation) (f : FileId) (p : PageNo) → Goes k sv now hs t (cp.fetch t o f p)
  unfolding cp.fetch cp.fetch_at cp.fetch_mapped
  fetch_goes t o f p = go (pages.mapping_of t.here.store.extents f.ino p)
    where
      go : (m : Option MappedBlock) → Goes k sv now hs t (keep o (cp.fetch_at t f p m))
      go None = keep_goes t o
      go (Some m) =
          let u : Turn = cp.fetch_mapped t f p m in
          goes_then k sv now hs t u _ (if_goes k sv now hs t (pages.is_being_read t.here.store.commands f.ino p) t _ (λ h. goes_same k sv now hs t) (λ h. read_goes t f.ino p m)) (keep_goes u o)

  used : (ps : Pages) (ino : ℕ) (p : PageNo) (i : ℕ) → pages.has_dirty (pages.use_page ps ino p) i ≡ pages.has_dirty ps i
  unfolding pages.use_page pages.use_clean pages.use_at
  used ps ino p i = go (pages.dirty_of ps ino p) (pages.clean_of ps ino p)
    where
      go : (d : Option DirtyPage) (c : Option CleanPage) → pages.has_dirty (pages.use_clean ps ino p d) i ≡ pages.has_dirty ps i
      go (Some d) c = refl
      go None c = go2 (pages.clean_of ps ino p)
        where
          go2 : (c : Option CleanPage) → pages.has_dirty (pages.use_at ps c) i ≡ pages.has_dirty ps i
          go2 None = refl
          go2 (Some c) = refl

  cached_goes : (t : Turn) (o : Operation) (f : FileId) (p : PageNo) (c : Option (List ℕ)) → Goes k sv now hs t (cp.read_at t o f p c)
  unfolding cp.read_at cp.read_cached cp.read_uncached cp.read_known
  cached_goes t o f p (Some bytes) =
      let x : Store = record t.here.store { pages = pages.use_page t.here.store.pages f.ino p } in
      goes_then k sv now hs t (with_store x t) _ (rests_goes k sv now hs t x (λ i. busy_by x t.here.store i (λ e. sym (used t.here.store.pages f.ino p i) ∙ e) (λ e. e))) (answer_goes (with_store x t) o (answers.Read bytes))
  cached_goes t o f p None = known (pages.known_of t.here.store.extents f.ino p)
    where
      mapped : (e : KnownExtent) (m : Option MappedBlock) → Goes k sv now hs t (cp.read_known t o f p e m)
      mapped e None = answer_goes t o (answers.Read (filled 0))
      mapped e (Some m) = fetch_goes t o f p

      known : (e : Option KnownExtent) → Goes k sv now hs t (cp.read_uncached t o f p e)
      known None = keep_goes t o
      known (Some e) = mapped e e.mapping

  open_goes : (t : Turn) (s : ClientSession) (o : Operation) (all : List Operation) (a : Ask) → is_open_file all t.here.server s (file_of a) ≡ true → Goes k sv now hs (with_session s t) (cp.serve_open (with_session s t) s o a)
  unfolding cp.serve_open cp.write cp.patch cp.patch_at cp.patch_bytes cp.read
  open_goes t s o all (asks.Write f p bytes) h =
      if_goes k sv now hs (with_session s t) (cp.may_write (with_session s t) s f p) _ _
      (λ e. change_goes t s o f p bytes _ refl (and_true (cp.holds s modes.X f) _ e).0 (free_of all t.here.server s f.ino h)) (λ e. keep_goes (with_session s t) o)
  open_goes t s o all (asks.Patch f p at bytes) h =
      if_goes k sv now hs (with_session s t) (cp.may_write (with_session s t) s f p) _ _ (λ e. go e (pages.cached t.here.store.pages f.ino p)) (λ e. keep_goes (with_session s t) o)
    where
      go : cp.may_write (with_session s t) s f p ≡ true → (c : Option (List ℕ)) → Goes k sv now hs (with_session s t) (cp.patch_at (with_session s t) o f p at bytes c)
      go e None = fetch_goes (with_session s t) o f p
      go e (Some old) = change_goes t s o f p (overlay at bytes old) _ refl (and_true (cp.holds s modes.X f) _ e).0 (free_of all t.here.server s f.ino h)
  open_goes t s o all (asks.Read f p) h = if_goes k sv now hs (with_session s t) (cp.holds s modes.S f) _ _ (λ e. cached_goes (with_session s t) o f p (pages.cached t.here.store.pages f.ino p)) (λ e. keep_goes (with_session s t) o)
  open_goes t s o all a h = keep_goes (with_session s t) o

  under_goes : (t : Turn) (s : ClientSession) (n : Stamp) (o : Operation) (all : List Operation) → Goes k sv now hs (with_session s t) (cp.operate_under all (with_session s t) s n o)
  unfolding cp.operate_under cp.serve cp.quiesce
  under_goes t s n o all =
      if_goes k sv now hs (with_session s t) (st.is_serving t.config s n) _ _
      (λ h. if_goes k sv now hs (with_session s t) (is_open_file all t.here.server s (file_of o.ask)) _ _ (λ e. open_goes t s o all o.ask e) (λ e. keep_goes (with_session s t) o))
      (λ h. if_goes k sv now hs (with_session s t) (st.is_sent o) _ _ (λ e. keep_goes (with_session s t) o) (λ e. answer_goes (with_session s t) o answers.Quiesced))

  on_goes : (t : Turn) (n : Stamp) (o : Operation) (all : List Operation) (a : Ask) → Goes k sv now hs t (cp.operate_on all t n o a)
  unfolding cp.operate_on cp.sync cp.operate_by
  on_goes t n o all (asks.Sync f) = if_goes k sv now hs t (pages.is_hard t.here.store f.ino) _ _ (λ h. answer_goes t o answers.Hard) (λ h. keep_goes t o)
  on_goes t n o all a = go t.here.session refl
    where
      go : (q : Option ClientSession) → t.here.session ≡ q → Goes k sv now hs t (cp.operate_by all t n o q)
      go None e = keep_goes t o
      go (Some s) e = subst (λ u. Goes k sv now hs u (cp.operate_under all u s n o)) (sym (with_it k sv now hs t (Some s) e)) (under_goes t s n o all)

  operate_goes : (t : Turn) (n : Stamp) (o : Operation) (all : List Operation) → Goes k sv now hs t (cp.operate all t n o)
  unfolding cp.operate
  operate_goes t n o all = if_goes k sv now hs t (is_of t.here.server o) _ _ (λ h. on_goes t n o all o.ask) (λ h. keep_goes t o)

  each_operates : (n : Stamp) (all os : List Operation) (t : Turn) → Goes k sv now hs t (cp.operate_each all n os t)
  unfolding cp.operate_each
  each_operates n all [] t = goes_same k sv now hs t
  each_operates n all (o ∷ os) t = let u : Turn = cp.operate all t n o in goes_then k sv now hs t u _ (operate_goes t n o all) (each_operates n all os u)

  pub operations_goes : (n : Stamp) (t : Turn) → Goes k sv now hs t (cp.operations n t)
  unfolding cp.operations
  operations_goes n t = goes_then k sv now hs t (st.with_operations [] t) _ (ops_goes k sv now hs t []) (each_operates n t.operations t.operations (st.with_operations [] t))

  -- writes
  write_goes : (t : Turn) (d : DirtyPage) (m : MappedBlock) → pages.has_dirty t.here.store.pages d.ino ≡ true → Goes k sv now hs t (cp.submit_write t d m)
  unfolding cp.submit_write cp.submit_command pages.begin_command
  write_goes t d m h =
      goes_then k sv now hs t (with_store x t) _ (rests_goes k sv now hs t x (λ i e. parts i (or_cases _ _ e)))
      (aside_goes k sv now hs (with_store x t) t.operations (t.next_command + 1) _ (λ x N. record {}) (λ P. record {}))
    where
      x : Store
      x = record t.here.store { commands = t.here.store.commands ++ pages.page_command t.next_command d.ino d.page (io.Write d.version) ∷ [] }

      last : (i : ℕ) → (list_any (pages.is_write_on i) t.here.store.commands ≡ true) ⊎ ((d.ino == i) ≡ true) → busy_in t.here.store i ≡ true
      last i (inl e) = or_right (pages.has_dirty t.here.store.pages i) (pages.has_write_on t.here.store.commands i) e
      last i (inr e) = or_left (pages.has_dirty t.here.store.pages i) (pages.has_write_on t.here.store.commands i) (subst (λ n. pages.has_dirty t.here.store.pages n ≡ true) (eqb-true _ _ e) h)

      parts : (i : ℕ) → (pages.has_dirty t.here.store.pages i ≡ true) ⊎ (list_any (pages.is_write_on i) x.commands ≡ true) → busy_in t.here.store i ≡ true
      parts i (inl e) = or_left (pages.has_dirty t.here.store.pages i) (pages.has_write_on t.here.store.commands i) e
      parts i (inr e) = last i (any_last (pages.is_write_on i) _ t.here.store.commands e)

  due_goes : (t : Turn) (s : ClientSession) (n : Stamp) (tick : Bool) (d : DirtyPage) → pages.has_dirty t.here.store.pages d.ino ≡ true → Goes k sv now hs t (cp.write_due t s n tick d)
  unfolding cp.write_due cp.write_out cp.write_out_at
  due_goes t s n tick d h = if_goes k sv now hs t (cp.is_writable t s n tick d) _ t (λ e. go (pages.mapping_of t.here.store.extents d.ino d.page)) (λ e. goes_same k sv now hs t)
    where
      go : (m : Option MappedBlock) → Goes k sv now hs t (cp.write_out_at t d m)
      go None = goes_same k sv now hs t
      go (Some m) = write_goes t d m h

  page_goes : (t : Turn) (s : ClientSession) (n : Stamp) (tick : Bool) (ino : ℕ) (p : PageNo) (o : Option DirtyPage) → pages.dirty_of t.here.store.pages ino p ≡ o → Goes k sv now hs t (cp.write_page t s n tick o)
  unfolding cp.write_page
  page_goes t s n tick ino p None e = goes_same k sv now hs t
  page_goes t s n tick ino p (Some d) e = due_goes t s n tick d
      (any_found (pages.is_dirty_of ino p) (pages.is_dirty_on d.ino) d t.here.store.pages.dirty e (eqb_self d.ino))

  each_writes : (s : ClientSession) (n : Stamp) (tick : Bool) (xs : List (ℕ × PageNo)) (t : Turn) → Goes k sv now hs t (cp.write_each s n tick xs t)
  unfolding cp.write_each
  each_writes s n tick [] t = goes_same k sv now hs t
  each_writes s n tick (x ∷ xs) t = let u : Turn = cp.write_page t s n tick (pages.dirty_of t.here.store.pages x.0 x.1) in goes_then k sv now hs t u _ (page_goes t s n tick x.0 x.1 (pages.dirty_of t.here.store.pages x.0 x.1) refl) (each_writes s n tick xs u)

  pub writes_goes : (n : Stamp) (tick : Bool) (t : Turn) → Goes k sv now hs t (cp.writes n tick t)
  unfolding cp.writes cp.writes_by
  writes_goes n tick t = go t.here.session
    where
      go : (o : Option ClientSession) → Goes k sv now hs t (cp.writes_by t n tick o)
      go None = goes_same k sv now hs t
      go (Some s) = each_writes s n tick (pages.dirty_places t.here.store.pages) t

  -- the ends of commands
  harden_less : (ps : Pages) (o : Option DirtyPage) (i : ℕ) → pages.has_dirty (pages.harden_at ps o) i ≡ true → pages.has_dirty ps i ≡ true
  unfolding pages.harden_at pages.harden_page
  harden_less ps None i e = e
  harden_less ps (Some d) i e = any_filter (pages.is_dirty_on i) _ ps.dirty e

  fail_same : (ps : Pages) (ino : ℕ) (p : PageNo) (c i : ℕ) → pages.has_dirty (pages.fail ps ino p c) i ≡ pages.has_dirty ps i
  unfolding pages.fail pages.failed_by
  fail_same ps ino p c i = any_map (pages.is_dirty_on i) (pages.fail_of ino p c) (λ d. go d (pages.is_dirty_of ino p d)) ps.dirty
    where
      go : (d : DirtyPage) (b : Bool) → pages.is_dirty_on i (if b then pages.failed_by c d else d) ≡ pages.is_dirty_on i d
      go d true = refl
      go d false = refl

  mark_goes : (t : Turn) (c : PageCommand) (version : ℕ) → Goes k sv now hs t (cl.mark_failed t c version)
  unfolding cl.mark_failed
  mark_goes t c version =
      if_goes k sv now hs t (cl.is_present t c version) _ t (λ h. rests_goes k sv now hs t (cl.with_failed c t).here.store (λ i. busy_by (cl.with_failed c t).here.store t.here.store i (λ e. sym (fail_same t.here.store.pages c.ino c.page c.number i) ∙ e) (λ e. e))) (λ h. goes_same k sv now hs t)

  failed_goes : (t : Turn) (c : PageCommand) (kind : IoKind) → Goes k sv now hs t (cl.failed_as t c kind)
  unfolding cl.failed_as
  failed_goes t c io.Read = each_goes k sv now hs (cl.waits_for_read t c) (answers.DiskFault c.number) t
  failed_goes t c (io.Write version) =
      let u : Turn = cl.mark_failed t c version in
      goes_then k sv now hs t u _ (mark_goes t c version) (each_goes k sv now hs (cl.waits_for_write t c) (answers.DiskFault c.number) u)

  ended_goes : (t : Turn) (c : PageCommand) (block : Option (Tag × List ℕ)) (e : Ended) → Goes k sv now hs t (cl.finish_as t c block e)
  unfolding cl.finish_as cl.filled_by cl.hardened pages.fill pages.harden
  ended_goes t c block ends.Unknown = goes_same k sv now hs t
  ended_goes t c None ends.Filled = goes_same k sv now hs t
  ended_goes t c (Some b) ends.Filled = rests_goes k sv now hs t _ (λ i e. e)
  ended_goes t c block ends.Hard = let x : Store = record t.here.store { pages = pages.harden_at t.here.store.pages (pages.dirty_of t.here.store.pages c.ino c.page) } in rests_goes k sv now hs t x (λ i. busy_by x t.here.store i (λ e. harden_less t.here.store.pages (pages.dirty_of t.here.store.pages c.ino c.page) i e) (λ e. e))
  ended_goes t c block ends.Redirty = goes_same k sv now hs t
  ended_goes t c block ends.Failed = failed_goes t c c.kind

  command_goes : (t : Turn) (c : PageCommand) (ok : Bool) (block : Option (Tag × List ℕ)) → Goes k sv now hs t (cl.finish_command t c ok block)
  unfolding cl.finish_command cl.ended_by cl.finish_as pages.end_command pages.end_at
  command_goes t c ok block = go (pages.command_of t.here.store.commands c.number)
    where
      v : ℕ
      v = pages.version_of t.here.store.pages c.ino c.page

      go : (o : Option PageCommand) → Goes k sv now hs t (cl.ended_by t c block (pages.end_at t.here.store.commands c.number ok v o))
      go None = goes_same k sv now hs t
      go (Some x) =
          let u : Turn = cl.with_commands (pages.without_command c.number t.here.store.commands) t in
          goes_then k sv now hs t u _ (rests_goes k sv now hs t u.here.store (λ i. busy_by u.here.store t.here.store i (λ e. e) (any_filter (pages.is_write_on i) _ t.here.store.commands))) (ended_goes u c block (pages.ended_as x ok v))

  pub finish_goes : (number : ℕ) (result : Option (Option (Tag × List ℕ))) (t : Turn) → Goes k sv now hs t (cl.finish number result t)
  unfolding cl.finish cl.finish_at cl.finish_by cl.done_by
  finish_goes number result t = go (pages.command_of t.here.store.commands number) result
    where
      go : (o : Option PageCommand) (r : Option (Option (Tag × List ℕ))) → Goes k sv now hs t (cl.finish_at t o r)
      go None r = goes_same k sv now hs t
      go (Some c) None = command_goes t c false None
      go (Some c) (Some block) = if_goes k sv now hs t (cl.is_result_of c.kind block) _ t (λ h. command_goes t c true block) (λ h. goes_same k sv now hs t)

  -- asks
  lost_goes : (t : Turn) (lost : List LostPage) (op : ℕ) (a : AppAnswer) → Goes k sv now hs t (st.answered (st.with_lost_rows lost t) op a)
  lost_goes t lost op a =
      record { frame = frame_more _ _ _ _ _ (λ x M n. record {}) (λ P. record {}); go = λ N r. record { net = N; moves = Stays (at sv now t N); ready = record { terms = r.terms; born = r.born; lasts = r.lasts; said = said_both t.id.0 t.here.server t.out _ N r.said (record {}); kept = r.kept; received = r.received } } }

  pub take_goes : (op : ℕ) (ask : Ask) (t : Turn) → Goes k sv now hs t (cl.take_ask op ask t)
  unfolding cl.take_ask cl.take_by cl.take_sync cl.tell_lost cl.enqueue
  take_goes op ask t = go ask
    where
      go : (a : Ask) → Goes k sv now hs t (cl.take_by t op ask a)
      go (asks.Sync f) = if_goes k sv now hs t (pages.has_lost t.here.lost f.ino) _ _ (λ h. lost_goes t _ _ _) (λ h. keep_goes t (st.new_operation op ask))
      go a = keep_goes t (st.new_operation op ask)
