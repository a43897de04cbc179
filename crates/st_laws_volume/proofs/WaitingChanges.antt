-- A client's pass over its operations: a write or a patch that could be served waits after it only while its file has a dirty page or an outstanding command.
use Rattle.st_lemmas.proofs.Words
use Words.{◌≡◌, ◌≢◌, ◌⊎◌, ℕ, Bool, true, false, not, ◌&&◌, ◌==◌, List, [], ◌∷◌, ◌++◌, Option, Some, None, Ok, Err, refl, sym, ap, ◌∙◌, subst, inl, inr, if◌then◌else◌}
use Words.{CleanPage, IoKind, eq-eqb, eqb-true, ne_eqb, AppAnswer, Ask, DirtyPage, FileId, KnownExtent, MappedBlock, Note, Operation, PageCommand, PageNo, Stamp}
use Words.answers
use Words.asks
use Words.modes
use Words.notes
use Words.writing as refusals
use Words.ClientPages as pages
use Words.ClientPages.{Store}
use Words.ClientPasses as cp
use Words.ClientState as cs
use Words.ClientState.{ClientSession, Turn, is_of, is_open_file, is_sent, is_serving, with_operations}
use Words.FlatLog.{overlay}
use Words.Keys.{same_page}
use Words.Lists.{Has}
use Words.Lookups.{some_is}
use Words.Members.{has_left, has_right, some_member_passes}
use Words.Tables.{and_left, and_right, and_true, cond_either, has_append, has_filter_in, not_true, same_or_not, some_passes}
use Words.Truth.{clash, none_not_some}
use Rattle.st_lemmas.proofs.Puts.{has_put_other, has_put_self}

-- a file has a dirty page, or an outstanding command
abbrev pub Busy : Store → ℕ → Type 0
Busy st ino = (pages.has_dirty st.pages ino ≡ true) ⊎ (pages.is_outstanding st.commands ino ≡ true)

pub not_idle : (st : Store) (ino : ℕ) → Busy st ino → pages.is_idle st ino ≡ true → ⊥
not_idle st ino b q = go b
  where
    z : (not (pages.has_dirty st.pages ino) ≡ true) × (not (pages.is_outstanding st.commands ino) ≡ true)
    z = and_true (not (pages.has_dirty st.pages ino)) (not (pages.is_outstanding st.commands ino)) q

    go : Busy st ino → ⊥
    go (inl e) = clash e (not_true (pages.has_dirty st.pages ino) z.0)
    go (inr e) = clash e (not_true (pages.is_outstanding st.commands ino) z.1)

-- a store after a change of a page
abbrev changed_store : Store → ℕ → PageNo → List ℕ → Store
changed_store st i p bytes = record st { pages = pages.written st.pages i p bytes; commands = pages.forget_read st.commands i p }

changed_busy : (st : Store) (i : ℕ) (p : PageNo) (bytes : List ℕ) (ino : ℕ) → Busy st ino → Busy (changed_store st i p bytes) ino
unfolding pages.written pages.forget_read
changed_busy st i p bytes ino b = go (same_or_not ino i)
  where
    new : DirtyPage
    new = pages.new_dirty st.pages i p bytes

    by : (ino ≡ i → ⊥) → Busy st ino → Busy (changed_store st i p bytes) ino
    by n (inl e) =
        let z = some_member_passes (pages.is_dirty_on ino) st.pages.dirty e in
        let k = eqb-true z.0.ino ino z.2 in
        inl
        (some_passes (pages.is_dirty_on ino) _ z.0
        (has_put_other (pages.is_dirty_of i p) new st.pages.dirty z.0 z.1
        (and_left (z.0.ino == i) (same_page z.0.page p) (ne_eqb z.0.ino i (λ q. n (sym k ∙ q))))) z.2)
    by n (inr e) =
        let z = some_member_passes (pages.is_command_on ino) st.commands e in
        let k = eqb-true z.0.ino ino z.2 in
        inr
        (some_passes (pages.is_command_on ino) _ z.0
        (has_filter_in (λ (c : PageCommand). not (pages.is_read_of i p c)) st.commands z.0 z.1
        (ap not
        (and_right (not (pages.is_write z.0.kind)) ((z.0.ino == i) && same_page z.0.page p)
        (and_left (z.0.ino == i) (same_page z.0.page p) (ne_eqb z.0.ino i (λ q. n (sym k ∙ q))))))) z.2)

    go : (ino ≡ i) ⊎ (ino ≢ i) → Busy (changed_store st i p bytes) ino
    go (inl e) = inl (some_passes (pages.is_dirty_on ino) _ new (has_put_self (pages.is_dirty_of i p) new st.pages.dirty) (eq-eqb i ino (sym e)))
    go (inr n) = by n b

-- one more command
pub begun_busy : (cs : List PageCommand) (number i : ℕ) (p : PageNo) (kind : IoKind) (ino : ℕ) → pages.is_outstanding cs ino ≡ true →
    pages.is_outstanding (pages.begin_command cs number i p kind) ino ≡ true
unfolding pages.begin_command
begun_busy cs number i p kind ino e =
    let z = some_member_passes (pages.is_command_on ino) cs e in
    some_passes (pages.is_command_on ino) _ z.0 (has_left cs (pages.page_command number i p kind ∷ []) z.0 z.1) z.2

begun_here : (cs : List PageCommand) (number i : ℕ) (p : PageNo) (kind : IoKind) → pages.is_outstanding (pages.begin_command cs number i p kind) i ≡ true
unfolding pages.begin_command
begun_here cs number i p kind =
    some_passes (pages.is_command_on i) _ (pages.page_command number i p kind)
    (has_right cs (pages.page_command number i p kind ∷ []) (pages.page_command number i p kind) (inl refl)) (eq-eqb i i refl)

-- a page is written or patched
abbrev pub Changes : Ask → FileId → PageNo → Type 0
Changes (asks.Write f p bytes) g q = (f ≡ g) × (p ≡ q)
Changes (asks.Patch f p at bytes) g q = (f ≡ g) × (p ≡ q)
Changes ask g q = ⊥

module _ (now : Stamp) (t0 : Turn) where
  -- an operation could be served, and waits: its file is busy
  abbrev pub Waits : Store → Operation → Type 0
  Waits st o =
      (s : ClientSession) (f : FileId) (p : PageNo) → Changes o.ask f p → is_of t0.here.server o ≡ true → t0.here.session ≡ Some s →
      is_serving t0.config s now ≡ true → is_open_file t0.operations t0.here.server s (Some f.ino) ≡ true → cp.may_write t0 s f p ≡ true → Busy st f.ino

  abbrev Busier : Turn → Turn → Type 0
  Busier t u = (ino : ℕ) → Busy t.here.store ino → Busy u.here.store ino

  pub record Rest (os : List Operation) (t : Turn) : Type 0 where
    pub server : t.here.server ≡ t0.here.server
    pub session : t.here.session ≡ t0.here.session
    pub config : t.config ≡ t0.config
    pub extents : t.here.store.extents ≡ t0.here.store.extents
    pub waits : (o : Operation) → Has o t.operations → Waits t.here.store o
    pub left : (o : Operation) → Has o os → Has o t0.operations
    pub sent : (o : Operation) → Has o t0.operations → is_sent o ≡ true → Has o t.operations ⊎ Has o os

  module _ (kinds : (o : Operation) → Has o t0.operations → is_sent o ≡ true → cs.is_cut_or_name o.ask ≡ true) where
    -- the operation is answered
    answers_it : (o : Operation) (os : List Operation) (t u : Turn) (a : AppAnswer) → u.operations ≡ t.operations → u.here.server ≡ t.here.server →
        u.here.session ≡ t.here.session → u.config ≡ t.config → u.here.store.extents ≡ t.here.store.extents → Busier t u → (is_sent o ≡ true → ⊥) →
        Rest (o ∷ os) t → Rest os (cp.answer o a u)
    answers_it o os t u a e1 e2 e3 e4 e5 b n r =
        record {
          server = e2 ∙ r.server;
          session = e3 ∙ r.session;
          config = e4 ∙ r.config;
          extents = e5 ∙ r.extents;
          waits = λ x i s f p c own at sv free m. b f.ino (r.waits x (subst (Has x) e1 i) s f p c own at sv free m);
          left = λ x i. r.left x (inr i);
          sent = λ x i q. go x q (r.sent x i q);
        }
      where
        go : (x : Operation) → is_sent x ≡ true → Has x t.operations ⊎ Has x (o ∷ os) → Has x u.operations ⊎ Has x os
        go x q (inl i) = inl (subst (Has x) (sym e1) i)
        go x q (inr (inl e)) = absurd (n (ap is_sent (sym e) ∙ q))
        go x q (inr (inr i)) = inr i

    answers_now : (o : Operation) (os : List Operation) (t : Turn) (a : AppAnswer) → (is_sent o ≡ true → ⊥) → Rest (o ∷ os) t → Rest os (cp.answer o a t)
    answers_now o os t a n r = answers_it o os t t a refl refl refl refl refl (λ ino b. b) n r

    -- or waits
    keeps_it : (o : Operation) (os : List Operation) (t u : Turn) → u.operations ≡ t.operations → u.here.server ≡ t.here.server →
        u.here.session ≡ t.here.session → u.config ≡ t.config → u.here.store.extents ≡ t.here.store.extents → Busier t u → Waits u.here.store o →
        Rest (o ∷ os) t → Rest os (cs.keep o u)
    keeps_it o os t u e1 e2 e3 e4 e5 b w r =
        record {
          server = e2 ∙ r.server;
          session = e3 ∙ r.session;
          config = e4 ∙ r.config;
          extents = e5 ∙ r.extents;
          waits = λ x i. waits x (has_append u.operations (o ∷ []) x i);
          left = λ x i. r.left x (inr i);
          sent = λ x i q. go x (r.sent x i q);
        }
      where
        waits : (x : Operation) → Has x u.operations ⊎ Has x (o ∷ []) → Waits u.here.store x
        waits x (inl i) s f p c own at sv free m = b f.ino (r.waits x (subst (Has x) e1 i) s f p c own at sv free m)
        waits x (inr (inl e)) s f p c own at sv free m = subst (Waits u.here.store) (sym e) w s f p c own at sv free m
        waits x (inr (inr i)) s f p c own at sv free m = absurd i

        go : (x : Operation) → Has x t.operations ⊎ Has x (o ∷ os) → Has x (u.operations ++ o ∷ []) ⊎ Has x os
        go x (inl i) = inl (has_left u.operations (o ∷ []) x (subst (Has x) (sym e1) i))
        go x (inr (inl e)) = inl (has_right u.operations (o ∷ []) x (inl e))
        go x (inr (inr i)) = inr i

    keeps : (o : Operation) (os : List Operation) (t : Turn) → Waits t.here.store o → Rest (o ∷ os) t → Rest os (cs.keep o t)
    keeps o os t w r = keeps_it o os t t refl refl refl refl refl (λ ino b. b) w r

    -- an operation that changes no page
    other : (o : Operation) (st : Store) → ((f : FileId) (p : PageNo) → Changes o.ask f p → ⊥) → Waits st o
    other o st n s f p c own at sv free m = absurd (n f p c)

    module _ (o : Operation) (os : List Operation) (t : Turn) (r : Rest (o ∷ os) t) where
      its_kind : is_sent o ≡ true → cs.is_cut_or_name o.ask ≡ true
      its_kind q = kinds o (r.left o (inl refl)) q

      -- the page is changed
      change_done : (f : FileId) (p : PageNo) (bytes : List ℕ) (n : Note) → (is_sent o ≡ true → ⊥) → Rest os (cp.change_page t o f p bytes n)
      unfolding cp.change_page cp.change_by cp.change pages.write
      change_done f p bytes n unsent = go (pages.is_full_for t.here.store.pages f.ino p)
        where
          go : (b : Bool) →
              Rest os (cp.change_by t o f p n (if b then Err refusals.DirtyFull else Ok (pages.written t.here.store.pages f.ino p bytes)))
          go true = answers_now o os t answers.DirtyFull unsent r
          go false =
              answers_it o os t (cp.with_pages_changed (pages.written t.here.store.pages f.ino p bytes) f.ino p (cs.note t n)) answers.Written refl refl refl
              refl refl (λ ino b. changed_busy t.here.store f.ino p bytes ino b) unsent r

      -- a page is fetched, and the operation waits
      fetched : (f : FileId) (p : PageNo) →
          ((st : Store) → ((m : MappedBlock) → pages.mapping_of t.here.store.extents f.ino p ≡ Some m → Busy st f.ino) → Waits st o) →
          Rest os (cp.fetch t o f p)
      unfolding cp.fetch cp.fetch_at cp.fetch_mapped cp.submit_read cp.submit_command
      fetched f p w = go (pages.mapping_of t.here.store.extents f.ino p) refl
        where
          busier : (m : MappedBlock) → Busier t (cp.submit_read t f.ino p m)
          busier m ino (inl e) = inl e
          busier m ino (inr e) = inr (begun_busy t.here.store.commands t.next_command f.ino p _ ino e)

          being : pages.is_being_read t.here.store.commands f.ino p ≡ true → Busy t.here.store f.ino
          being e =
              let z = some_member_passes (pages.is_read_of f.ino p) t.here.store.commands e in
              let k = and_true (not (pages.is_write z.0.kind)) ((z.0.ino == f.ino) && same_page z.0.page p) z.2 in
              inr (some_passes (pages.is_command_on f.ino) t.here.store.commands z.0 z.1 (and_true (z.0.ino == f.ino) (same_page z.0.page p) k.1).0)

          read : (m : MappedBlock) (i : Bool) → pages.is_being_read t.here.store.commands f.ino p ≡ i →
              Rest os (cs.keep o (if i then t else cp.submit_read t f.ino p m))
          read m true e = keeps o os t (w t.here.store (λ x q. being e)) r
          read m false e =
              keeps_it o os t (cp.submit_read t f.ino p m) refl refl refl refl refl (busier m)
              (w (cp.submit_read t f.ino p m).here.store (λ x q. inr (begun_here t.here.store.commands t.next_command f.ino p _))) r

          go : (m : Option MappedBlock) → pages.mapping_of t.here.store.extents f.ino p ≡ m → Rest os (cs.keep o (cp.fetch_at t f p m))
          go None e = keeps o os t (w t.here.store (λ x q. absurd (none_not_some x (sym e ∙ q)))) r
          go (Some m) e = read m (pages.is_being_read t.here.store.commands f.ino p) refl

      -- what may be written before the pass may be so now
      may_now : (s : ClientSession) (f : FileId) (p : PageNo) → cp.may_write t0 s f p ≡ true → cp.may_write t s f p ≡ true
      may_now s f p m = ap (λ xs. cp.holds s modes.X f && pages.is_mapped xs f.ino p) r.extents ∙ m

      writes_it : (s : ClientSession) → t.here.session ≡ Some s → (f : FileId) (p : PageNo) (bytes : List ℕ) → o.ask ≡ asks.Write f p bytes →
          Rest os (cp.write t s o f p bytes)
      unfolding cp.write
      writes_it s at f p bytes e =
          cond_either (Rest os) (cp.may_write t s f p) _ _ (λ m. change_done f p bytes (notes.Accepted f p bytes) unsent) (λ m. keeps o os t (waits m) r)
        where
          no_change : cs.is_cut_or_name (asks.Write f p bytes) ≡ true → ⊥
          no_change q = cc q

          unsent : is_sent o ≡ true → ⊥
          unsent q = no_change (ap cs.is_cut_or_name (sym e) ∙ its_kind q)

          waits : cp.may_write t s f p ≡ false → Waits t.here.store o
          waits m y g q c own there sv free w =
              let k = subst (λ a. Changes a g q) e c in
              let d : s ≡ y = some_is (sym at ∙ (r.session ∙ there)) in
              clash
              (ap (λ (z : FileId). cp.may_write t s z p) k.0 ∙ (ap (λ (z : PageNo). cp.may_write t s g z) k.1
              ∙ (ap (λ (z : ClientSession). cp.may_write t z g q) d ∙ may_now y g q w))) m

      patches : (s : ClientSession) → t.here.session ≡ Some s → (f : FileId) (p : PageNo) (at : ℕ) (bytes : List ℕ) → o.ask ≡ asks.Patch f p at bytes →
          Rest os (cp.patch t s o f p at bytes)
      unfolding cp.patch cp.patch_at cp.patch_bytes
      patches s there f p at bytes e =
          cond_either (Rest os) (cp.may_write t s f p) _ _ (λ m. go m (pages.cached t.here.store.pages f.ino p)) (λ m. keeps o os t (waits m) r)
        where
          no_change : cs.is_cut_or_name (asks.Patch f p at bytes) ≡ true → ⊥
          no_change q = cc q

          unsent : is_sent o ≡ true → ⊥
          unsent q = no_change (ap cs.is_cut_or_name (sym e) ∙ its_kind q)

          waits : cp.may_write t s f p ≡ false → Waits t.here.store o
          waits m y g q c own here sv free w =
              let k = subst (λ a. Changes a g q) e c in
              let d : s ≡ y = some_is (sym there ∙ (r.session ∙ here)) in
              clash
              (ap (λ (z : FileId). cp.may_write t s z p) k.0 ∙ (ap (λ (z : PageNo). cp.may_write t s g z) k.1
              ∙ (ap (λ (z : ClientSession). cp.may_write t z g q) d ∙ may_now y g q w))) m

          mapped : (o : Option MappedBlock) → Words.is_some o ≡ true → (x : MappedBlock) × (o ≡ Some x)
          mapped None q = cc q
          mapped (Some x) q = (x, refl)

          go : cp.may_write t s f p ≡ true → (c : Option (List ℕ)) → Rest os (cp.patch_at t o f p at bytes c)
          go m None =
              let z = mapped (pages.mapping_of t.here.store.extents f.ino p)
              (and_true (cp.holds s modes.X f) (pages.is_mapped t.here.store.extents f.ino p) m).1 in
              fetched f p
              (λ st b y g q c own here sv free w.
              subst (λ (h : FileId). Busy st h.ino) (subst (λ a. Changes a g q) e c).0 (b z.0 z.1))
          go m (Some old) = change_done f p (overlay at bytes old) (notes.Patched f p at bytes) unsent

      reads : (s : ClientSession) (f : FileId) (p : PageNo) → o.ask ≡ asks.Read f p → Rest os (cp.read t s o f p)
      unfolding cp.read cp.read_at cp.read_cached cp.read_uncached cp.read_known pages.use_page pages.use_clean pages.use_at
      reads s f p e =
          cond_either (Rest os) (cp.holds s modes.S f) _ _ (λ h. cached (pages.cached t.here.store.pages f.ino p)) (λ h. keeps o os t (no t.here.store) r)
        where
          no_change : cs.is_cut_or_name (asks.Read f p) ≡ true → ⊥
          no_change q = cc q

          unsent : is_sent o ≡ true → ⊥
          unsent q = no_change (ap cs.is_cut_or_name (sym e) ∙ its_kind q)

          no : (st : Store) → Waits st o
          no st = other o st (λ g q c. subst (λ a. Changes a g q) e c)

          mapped : (x : KnownExtent) (m : Option MappedBlock) → Rest os (cp.read_known t o f p x m)
          mapped x None = answers_now o os t (answers.Read _) unsent r
          mapped x (Some m) = fetched f p (λ st b. no st)

          known : (x : Option KnownExtent) → Rest os (cp.read_uncached t o f p x)
          known None = keeps o os t (no t.here.store) r
          known (Some x) = mapped x x.mapping

          used : (ino : ℕ) → Busy t.here.store ino → Busy (record t.here.store { pages = pages.use_page t.here.store.pages f.ino p }) ino
          used ino (inr q) = inr q
          used ino (inl q) = inl (ap (λ ds. Words.list_any (pages.is_dirty_on ino) ds) (same (pages.dirty_of t.here.store.pages f.ino p)) ∙ q)
            where
              at_clean : (c : Option CleanPage) → (pages.use_at t.here.store.pages c).dirty ≡ t.here.store.pages.dirty
              at_clean None = refl
              at_clean (Some c) = refl

              same : (d : Option DirtyPage) → (pages.use_clean t.here.store.pages f.ino p d).dirty ≡ t.here.store.pages.dirty
              same None = at_clean (pages.clean_of t.here.store.pages f.ino p)
              same (Some d) = refl

          cached : (c : Option (List ℕ)) → Rest os (cp.read_at t o f p c)
          cached None = known (pages.known_of t.here.store.extents f.ino p)
          cached (Some bytes) = answers_it o os t _ (answers.Read bytes) refl refl refl refl refl used unsent r

      served : (s : ClientSession) → t.here.session ≡ Some s → (a : Ask) → o.ask ≡ a → Rest os (cp.serve_open t s o a)
      unfolding cp.serve_open
      served s v (asks.Write f p bytes) e = writes_it s v f p bytes e
      served s v (asks.Patch f p at bytes) e = patches s v f p at bytes e
      served s v (asks.Read f p) e = reads s f p e
      served s v (asks.Sync f) e = keeps o os t (other o t.here.store (λ g q c. subst (λ a. Changes a g q) e c)) r
      served s v (asks.Cut f p) e = keeps o os t (other o t.here.store (λ g q c. subst (λ a. Changes a g q) e c)) r
      served s v (asks.Name z n) e = keeps o os t (other o t.here.store (λ g q c. subst (λ a. Changes a g q) e c)) r

      operated : Rest os (cp.operate t0.operations t now o)
      unfolding cp.operate cp.operate_on cp.operate_by cp.operate_under cp.serve cp.quiesce cp.sync
      operated = cond_either (Rest os) (is_of t.here.server o) _ _ (λ own. on own o.ask refl)
          (λ away. keeps o os t (λ s f p c own at sv free m. clash (ap (λ h. is_of h o) r.server ∙ own) away) r)
        where
          unopened : (s : ClientSession) → t.here.session ≡ Some s → is_open_file t0.operations t.here.server s (cs.file_of o.ask) ≡ false →
              Waits t.here.store o
          unopened s e shut y f p c own at sv free m =
              clash
              (file o.ask c (λ i. is_open_file t0.operations t.here.server s i)
              ∙ (ap (λ h. is_open_file t0.operations h s (Some f.ino)) r.server
              ∙ (ap (λ h. is_open_file t0.operations t0.here.server h (Some f.ino)) (some_is (sym e ∙ (r.session ∙ at))) ∙ free))) shut
            where
              file : (a : Ask) → Changes a f p → (g : Option ℕ → Bool) → g (cs.file_of a) ≡ g (Some f.ino)
              file (asks.Write h q bytes) k g = ap (λ (x : FileId). g (Some x.ino)) k.0
              file (asks.Patch h q at bytes) k g = ap (λ (x : FileId). g (Some x.ino)) k.0
              file a k g = absurd k

          by : is_of t.here.server o ≡ true → (x : Option ClientSession) → t.here.session ≡ x → Rest os (cp.operate_by t0.operations t now o x)
          by own None e = keeps o os t (λ s f p c y at sv free m. absurd (none_not_some s (sym e ∙ (r.session ∙ at)))) r
          by own (Some s) e =
              cond_either (Rest os) (is_serving t.config s now) _ _
              (λ sv. cond_either (Rest os) (is_open_file t0.operations t.here.server s (cs.file_of o.ask)) _ _
              (λ free. served s e o.ask refl)
              (λ shut. keeps o os t (unopened s e shut) r))
              (λ out. cond_either (Rest os) (is_sent o) _ _ (λ sent. keeps o os t (outside out) r)
              (λ unsent. answers_now o os t answers.Quiesced (λ q. clash q unsent) r))
            where
              outside : is_serving t.config s now ≡ false → Waits t.here.store o
              outside out y f p c z at sv free m =
                  clash (ap (λ k. is_serving k s now) r.config ∙ (ap (λ h. is_serving t0.config h now) (some_is (sym e ∙ (r.session ∙ at))) ∙ sv)) out

          on : is_of t.here.server o ≡ true → (a : Ask) → o.ask ≡ a → Rest os (cp.operate_on t0.operations t now o a)
          on own (asks.Sync f) e =
              cond_either (Rest os) (pages.is_hard t.here.store f.ino) _ _ (λ h. answers_now o os t answers.Hard unsent r)
              (λ h. keeps o os t (other o t.here.store (λ g q c. subst (λ a. Changes a g q) e c)) r)
            where
              no_sync : cs.is_cut_or_name (asks.Sync f) ≡ true → ⊥
              no_sync q = cc q

              unsent : is_sent o ≡ true → ⊥
              unsent q = no_sync (ap cs.is_cut_or_name (sym e) ∙ its_kind q)
          on own a e = by own t.here.session refl

    operated_each : (os : List Operation) (t : Turn) → Rest os t → Rest [] (cp.operate_each t0.operations now os t)
    unfolding cp.operate_each
    operated_each [] t r = r
    operated_each (o ∷ os) t r = operated_each os (cp.operate t0.operations t now o) (operated o os t r)

    pub after_operations : Rest [] (cp.operations now t0)
    unfolding cp.operations
    after_operations =
        operated_each t0.operations (with_operations [] t0)
        (record {
          server = refl;
          session = refl;
          config = refl;
          extents = refl;
          waits = λ o i. absurd i;
          left = λ o i. i;
          sent = λ o i q. inr i;
        })
