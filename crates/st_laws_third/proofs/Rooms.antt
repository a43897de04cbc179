-- Changes of pages, reads and writes of a client of the third form are lists of changes.
use Rattle.st_lemmas.proofs.Words
use Words.{◌≡◌, ◌≤◌, ◌&&◌, ℕ, Bool, true, false, List, [], ◌∷◌, Option, Some, None, not, refl, ap, ◌∙◌, arith, if◌then◌else◌, FileId, PageNo, Ask, CleanPage, DirtyPage}
use Words.{filter, le-leb, leb-true, length, lt-ltb, list_any, map, nat_le, nat_lt}
use Words.{KnownExtent, MappedBlock, Note, Operation, Stamp}
use Words.asks
use Words.answers
use Words.modes
use Words.notes
use Words.outputs
use Words.FlatLog.{overlay}
use Rattle.st_base.specs.Page.{filled}
use Words.ClientPages as pages
use Words.ClientPages.{Pages, Store}
use Words.ClientPasses as passes
use Words.ClientState.{Association, ClientSession, Turn, is_serving, keep, server_of, with_store}
use Words.Lists.{Has}
use Words.Members.{some_member_passes}
use Words.Tables.{and_both, and_true, has_filter_in, has_map_in, not_true}
use Words.Truth.{not_both}
use Rattle.st_lemmas.proofs.Keys.{rising_has_in}
use Rattle.st_lemmas.proofs.Tests.{filtered_no_longer}
use Rattle.st_laws_steps.specs.Client.Client as client
use Rattle.st_laws_steps.specs.Client.Client.{ChangesPage}
use Rattle.st_laws_steps.proofs.Client.Working.{not_dirty}
use Rattle.st_third.specs.Limits.{is_dirty_full}
use Rattle.st_third.specs.Room as room
use Rattle.st_third.specs.State.{ThirdTurn, plainly, session}
use Rattle.st_laws_third.specs.Changes.{ThirdChanges, Bounds, Heard, Still, WaitsForRoom, bounds}
use Rattle.st_laws_third.proofs.Chains.{Old, both, by_rule, either, newest_few, old_answer, old_both, old_either, old_keeps, old_one, old_still, one}

-- what a write leaves of the session
same_session : (now : Stamp) (at : List ℕ) (s : ClientSession) (tick : Bool) (t : ThirdTurn) (d : Option DirtyPage) →
    session (room.write_page at t s now tick d) ≡ session t
unfolding room.write_page room.write_due plainly passes.write_out passes.write_out_at passes.submit_write passes.submit_command
same_session now at s tick t None = refl
same_session now at s tick t (Some d) = go (room.is_writable at t s now tick d)
  where
    out : (m : Option MappedBlock) → (passes.write_out_at t.plain d m).here.session ≡ session t
    out None = refl
    out (Some m) = refl

    go : (b : Bool) → session (if b then plainly (room.written_out d) t else t) ≡ session t
    go true = out (pages.mapping_of t.plain.here.store.extents d.ino d.page)
    go false = refl

-- Without room: as many pages are dirty as may be, and none of them makes room.

full_of : (n : ℕ) (ps : Pages) (ino : ℕ) (p : PageNo) → is_dirty_full n ps ino p ≡ true → n ≤ length ps.dirty
full_of n ps ino p e =
    let x = leb-true n (length (pages.without_dirty ino p ps.dirty)) e in
    let y = filtered_no_longer (λ d. not (pages.is_dirty_of ino p d)) ps.dirty in omega (arith, x, y)

none_hopeful : (st : Store) → room.is_hopeless st ≡ true → list_any (room.is_hopeful st.commands) st.pages.dirty ≡ false
none_hopeful st e = go (list_any (room.is_hopeful st.commands) st.pages.dirty) refl
  where
    some : (xs : List ℕ) (n : ℕ) → Has n xs → not (nat_lt 0 (length xs)) ≡ true → ⊥
    some [] n h q = h
    some (x ∷ xs) n h q = not_both (nat_lt 0 (length (x ∷ xs))) (lt-ltb 0 (length (x ∷ xs)) (omega arith)) (not_true (nat_lt 0 (length (x ∷ xs))) q)

    go : (b : Bool) → list_any (room.is_hopeful st.commands) st.pages.dirty ≡ b → b ≡ false
    go false q = refl
    go true q =
        let d = some_member_passes (room.is_hopeful st.commands) st.pages.dirty q in
        let v : Has (pages.version_of_dirty d.0) (map pages.version_of_dirty (filter (room.is_hopeful st.commands) st.pages.dirty)) =
        has_map_in pages.version_of_dirty (filter (room.is_hopeful st.commands) st.pages.dirty) d.0
        (has_filter_in (room.is_hopeful st.commands) st.pages.dirty d.0 d.1 d.2) in
        absurd (some (room.hopeful st) _ (rising_has_in _ (pages.version_of_dirty d.0) v) e)

hopeless_is : (a : Association) (n : ℕ) → n ≤ length a.store.pages.dirty → room.is_hopeless a.store ≡ true → (nat_le n (length a.store.pages.dirty) && not (list_any (room.is_hopeful a.store.commands) a.store.pages.dirty)) ≡ true
hopeless_is a n l e =
    and_both (nat_le n (length a.store.pages.dirty)) _ (le-leb n (length a.store.pages.dirty) l) (ap not (none_hopeful a.store e))

-- Fetching and reading a page: neither changes one.
module _ {within : Bounds} {now : Stamp} where
  fetches : (t : Turn) (o : Operation) (f : FileId) (p : PageNo) → pages.cached t.here.store.pages f.ino p ≡ None → Old within now t (passes.fetch t o f p)
  unfolding passes.fetch passes.fetch_at passes.fetch_mapped
  fetches t o f p uncached = old_both (go (pages.mapping_of t.here.store.extents f.ino p) refl) (old_keeps _ o)
    where
      go : (m : Option MappedBlock) → pages.mapping_of t.here.store.extents f.ino p ≡ m → Old within now t (passes.fetch_at t f p m)
      go None e = old_still t
      go (Some m) e =
          old_either (pages.is_being_read t.here.store.commands f.ino p) t _ _ (λ b. old_still t)
          (λ b. old_one (client.Reads t f.ino p m e (not_dirty (pages.clean_of t.here.store.pages f.ino p) (pages.dirty_of t.here.store.pages f.ino p) uncached)) tt)

  uses : (t : Turn) (ino : ℕ) (p : PageNo) → Old within now t (with_store (record t.here.store { pages = pages.use_page t.here.store.pages ino p }) t)
  unfolding pages.use_page pages.use_clean pages.use_at
  uses t ino p = go (pages.dirty_of t.here.store.pages ino p)
    where
      at : (c : Option CleanPage) → Old within now t (with_store (record t.here.store { pages = pages.use_at t.here.store.pages c }) t)
      at None = old_still t
      at (Some c) =
          old_one (client.Caches t (pages.with_newest t.here.store.pages.most_clean c t.here.store.pages.clean))
          (newest_few t.here.store.pages.most_clean c t.here.store.pages.clean)

      go : (d : Option DirtyPage) → Old within now t (with_store (record t.here.store { pages = pages.use_clean t.here.store.pages ino p d }) t)
      go (Some d) = old_still t
      go None = at (pages.clean_of t.here.store.pages ino p)

  reads : (t : Turn) (s : ClientSession) (o : Operation) (f : FileId) (p : PageNo) → Old within now t (passes.read t s o f p)
  unfolding passes.read passes.read_at passes.read_cached passes.read_uncached passes.read_known
  reads t s o f p = old_either (passes.holds s modes.S f) t _ _ (λ e. go (pages.cached t.here.store.pages f.ino p) refl) (λ e. old_keeps t o)
    where
      known : pages.cached t.here.store.pages f.ino p ≡ None → (e : KnownExtent) (m : Option MappedBlock) → Old within now t (passes.read_known t o f p e m)
      known q e None = old_answer t o.op (answers.Read (filled 0)) tt
      known q e (Some m) = fetches t o f p q

      uncached : pages.cached t.here.store.pages f.ino p ≡ None → (e : Option KnownExtent) → Old within now t (passes.read_uncached t o f p e)
      uncached q None = old_keeps t o
      uncached q (Some e) = known q e e.mapping

      go : (b : Option (List ℕ)) → pages.cached t.here.store.pages f.ino p ≡ b → Old within now t (passes.read_at t o f p b)
      go None q = uncached q (pages.known_of t.here.store.extents f.ino p)
      go (Some bytes) q = old_both (uses t f.ino p) (old_answer _ o.op (answers.Read bytes) tt)

module _ {got : Heard} {now : Stamp} where
  pub keeps : (t : ThirdTurn) (o : Operation) → ThirdChanges got now t (plainly (keep o) t)
  keeps t o = by_rule t (keep o) (old_one (client.Operates t.plain _) tt)

  -- a page is changed, if there is room
  module _ (t : ThirdTurn) (o : Operation) where
    waits : ThirdChanges got now t (room.waiting_for_room o t)
    waits = both (keeps t o) (one (WaitsForRoom (plainly (keep o) t) _))

    finds_none : t.limits.dirty ≤ length t.plain.here.store.pages.dirty → ThirdChanges got now t (room.without_room t o)
    unfolding room.without_room
    finds_none full =
        either (room.is_hopeless t.plain.here.store) t _ _
        (λ e. by_rule t (passes.answer o answers.DirtyFull) (old_one (client.Says t.plain (outputs.Answer o.op answers.DirtyFull) tt) (hopeless_is t.plain.here t.limits.dirty full e)))
        (λ e. waits)

    module _ (s : ClientSession) (se : session t ≡ Some s) (sv : is_serving t.plain.config s now ≡ true) where
      changes_page : (f : FileId) (p : PageNo) (bytes : List ℕ) (n : Note) → f.server ≡ t.plain.here.server →
          pages.is_mapped t.plain.here.store.extents f.ino p ≡ true → ChangesPage f p n → ThirdChanges got now t (room.change_page t o f p bytes n)
      unfolding room.change_page passes.change
      changes_page f p bytes n own m h =
          either (is_dirty_full t.limits.dirty t.plain.here.store.pages f.ino p) t _ _ (λ e. finds_none (full_of t.limits.dirty t.plain.here.store.pages f.ino p e))
          (λ e. by_rule t (room.changed o f p bytes n)
          (old_both (old_one (client.Writes t.plain s f p bytes n se sv own m h) e) (old_one (client.Says _ (outputs.Answer o.op answers.Written) tt) tt)))

      writes_page : (f : FileId) (p : PageNo) (bytes : List ℕ) → f.server ≡ t.plain.here.server → ThirdChanges got now t (room.write t s o f p bytes)
      unfolding room.write
      writes_page f p bytes own =
          either (passes.may_write t.plain s f p) t _ _
          (λ e. changes_page f p bytes (notes.Accepted f p bytes) own (and_true (passes.holds s modes.X f) _ e).1 (refl, refl)) (λ e. keeps t o)

      patches : (f : FileId) (p : PageNo) (at : ℕ) (bytes : List ℕ) → f.server ≡ t.plain.here.server →
          ThirdChanges got now t (room.patch t s o f p at bytes)
      unfolding room.patch room.patch_at
      patches f p at bytes own =
          either (passes.may_write t.plain s f p) t _ _
          (λ e. go (and_true (passes.holds s modes.X f) (pages.is_mapped t.plain.here.store.extents f.ino p) e).1
          (pages.cached t.plain.here.store.pages f.ino p) refl)
          (λ e. keeps t o)
        where
          go : pages.is_mapped t.plain.here.store.extents f.ino p ≡ true → (b : Option (List ℕ)) → pages.cached t.plain.here.store.pages f.ino p ≡ b →
              ThirdChanges got now t (room.patch_at t o f p at bytes b)
          go m None q = by_rule t (room.fetched o f p) (fetches t.plain o f p q)
          go m (Some old) q = changes_page f p (overlay at bytes old) (notes.Patched f p at bytes) own m (refl, refl)

      -- an operation to which its file is open
      pub serves : (ask : Ask) → server_of ask ≡ t.plain.here.server →
          ThirdChanges got now t (room.serve_open t s o ask)
      unfolding room.serve_open
      serves (asks.Write f p bytes) own = writes_page f p bytes own
      serves (asks.Patch f p at bytes) own = patches f p at bytes own
      serves (asks.Read f p) own = by_rule t (room.read s o f p) (reads t.plain s o f p)
      serves ask own = keeps t o

  -- Writes.

  module _ (at : List ℕ) (s : ClientSession) (tick : Bool) where
    writes_due : (t : ThirdTurn) (ino : ℕ) (p : PageNo) (d : DirtyPage) → session t ≡ Some s → pages.dirty_of t.plain.here.store.pages ino p ≡ Some d →
        ThirdChanges got now t (room.write_due at t s now tick d)
    unfolding room.write_due passes.write_out passes.write_out_at
    writes_due t ino p d se e =
        either (room.is_writable at t s now tick d) t _ _
        (λ w. by_rule t (room.written_out d)
        (go (not_true (pages.is_being_written t.plain.here.store.commands d.ino d.page)
        (and_true (not (pages.is_being_written t.plain.here.store.commands d.ino d.page)) _ w).0)
        (pages.mapping_of t.plain.here.store.extents d.ino d.page) refl)) (λ w. Still t)
      where
        go : pages.is_being_written t.plain.here.store.commands d.ino d.page ≡ false → (m : Option MappedBlock) →
            pages.mapping_of t.plain.here.store.extents d.ino d.page ≡ m → Old (bounds got t) now t.plain (passes.write_out_at t.plain d m)
        go w None i = old_still t.plain
        go w (Some m) i = old_one (client.Submits t.plain s ino p d m se e i w) tt

    writes_page_out : (t : ThirdTurn) (ino : ℕ) (p : PageNo) → session t ≡ Some s → (d : Option DirtyPage) → pages.dirty_of t.plain.here.store.pages ino p ≡ d →
        ThirdChanges got now t (room.write_page at t s now tick d)
    unfolding room.write_page
    writes_page_out t ino p se None e = Still t
    writes_page_out t ino p se (Some d) e = writes_due t ino p d se e

    writes_each : (xs : List (ℕ × PageNo)) (t : ThirdTurn) → session t ≡ Some s → ThirdChanges got now t (room.write_each at s now tick xs t)
    unfolding room.write_each
    writes_each [] t se = Still t
    writes_each (x ∷ xs) t se =
        let d : Option DirtyPage = pages.dirty_of t.plain.here.store.pages x.0 x.1 in
        both (writes_page_out t x.0 x.1 se d refl) (writes_each xs (room.write_page at t s now tick d) (same_session now at s tick t d ∙ se))

  pub writes : (tick : Bool) (t : ThirdTurn) → ThirdChanges got now t (room.writes now tick t)
  unfolding room.writes room.writes_by
  writes tick t = go (session t) refl
    where
      go : (x : Option ClientSession) → session t ≡ x → ThirdChanges got now t (room.writes_by t now tick x)
      go None e = Still t
      go (Some s) e = writes_each (room.oldest t.room t.plain.here.store) s tick (pages.dirty_places t.plain.here.store.pages) t e
