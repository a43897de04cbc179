-- The other rules of the client keep the pages as the log has them: grants, demands, replies, reductions, requests, fills.
use Rattle.st_lemmas.proofs.Words
use Words.{◌≡◌, ◌≢◌, ℕ, ◌≤◌, ◌⊎◌, Bool, true, false, not, ◌&&◌, List, ◌==◌, Option, Some, None, refl, sym, ap, ◌∙◌, subst, inl, inr, arith}
use Words.{if◌then◌else◌, leb-false, find, filter, nat_le, zero, suc, ClientId, ServerId, Life, GrantNo, PageNo, Mode, Ask, CleanPage}
use Words.{KnownExtent, LogEntry}
use Words.modes
use Words.Page.{filled}
use Words.FlatLog.{content}
use Words.Keys.{page_no}
use Words.ClientLocks as locks
use Words.ClientLocks.{lock_of, is_lock_on, held_lock}
use Words.ClientPages as pages
use Words.ClientPages.{Store, is_clean_of, is_known_of, dirty_of, clean_of, known_of}
use Words.ClientState as st
use Words.ClientState.{ClientSession, Turn, with_session, with_store}
use Words.ClientReplies as cr
use Words.ClientPasses as cp
use Words.Lookups.{some_is}
use Words.Tables.{same_or_not, and_true, not_true, and_both}
use Words.Tests.{none_of_fewer}
use Words.Truth.{nothing_there}
use Rattle.st_base.specs.Mode.{number_of}
use Rattle.st_protocol.specs.Assoc.{Lock, upd}
use Rattle.st_laws_refine.specs.Views.Halves.{held_at, held_in}
use Rattle.st_laws_refine.specs.Client.World.{logged}
use Rattle.st_laws_reads.specs.Copies.Copies.{PageOk, Nothing, file_at, Keeps}
use Rattle.st_lemmas.proofs.Contents.{find_cut, find_stays, Place_is, one_place, other_place}
use Rattle.st_lemmas.proofs.Puts.{find_put_by, find_put_other}
use Rattle.st_laws_reads.proofs.Copies.Logs.{still}
use Rattle.st_protocol.proofs.Lists.{upd_all}
use Rattle.st_laws_refine.proofs.Client.Replies.{lock_set, lock_cut}
use Rattle.st_laws_reads.proofs.Copies.Copies.{none_some, newest_is, copies_kept_by_same, copies_kept_by_sequence, copies_kept_by_store, fates_more, no_dirty}

-- a higher lock
page_up : (held more : ℕ) (now : List ℕ) (x : Store) (ino : ℕ) (p : PageNo) → held ≤ more → PageOk held now x ino p → PageOk more now x ino p
page_up held more now x ino p h r =
    record {
      mode = λ d e. let m = r.mode d e in omega (arith, m, h);
      dirty = r.dirty;
      clean = λ y e l. r.clean y e (r.locked y e);
      unmapped = λ e k n l. r.unmapped e k n (r.known e k);
      locked = λ y e. let m = r.locked y e in omega (arith, m, h);
      known = λ e k. let m = r.known e k in omega (arith, m, h);
      reading = λ e. let m = r.reading e in omega (arith, m, h);
    }

-- a lower lock that still is one, if the page is not dirty
page_down : (held less : ℕ) (now : List ℕ) (x : Store) (ino : ℕ) (p : PageNo) → 1 ≤ held → 1 ≤ less → dirty_of x.pages ino p ≡ None → PageOk held now x ino p →
    PageOk less now x ino p
page_down held less now x ino p h l n r =
    record {
      mode = λ d e. absurd (none_some _ d n e);
      dirty = r.dirty;
      clean = λ y e q. r.clean y e h;
      unmapped = λ e k m q. r.unmapped e k m h;
      locked = λ y e. l;
      known = λ e k. l;
      reading = λ e. l;
    }

-- a lock that becomes shared, if the page is not dirty
page_shared : (held : ℕ) (now : List ℕ) (x : Store) (ino : ℕ) (p : PageNo) → dirty_of x.pages ino p ≡ None → PageOk held now x ino p → PageOk 1 now x ino p
page_shared zero now x ino p n r = page_up 0 1 now x ino p (omega arith) r
page_shared (suc m) now x ino p n r = page_down (suc m) 1 now x ino p (omega arith) (omega arith) n r

pub nothing_ok : (held : ℕ) (now : List ℕ) (x : Store) (ino : ℕ) (p : PageNo) → Nothing x ino p → PageOk held now x ino p
nothing_ok held now x ino p n =
    record {
      mode = λ d e. absurd (none_some _ d n.dirty e);
      dirty = λ d e. absurd (none_some _ d n.dirty e);
      clean = λ y e l. absurd (none_some _ y n.clean e);
      unmapped = λ e k m l. absurd (none_some _ e n.known k);
      locked = λ y e. absurd (none_some _ y n.clean e);
      known = λ e k. absurd (none_some _ e n.known k);
      reading = λ e. let z = sym n.reading ∙ e in cc;
    }

-- forgetting a file from a page on
forget_ok : (x : Store) (ino : ℕ) (from : PageNo) (held : ℕ) (now : List ℕ) (j : ℕ) (q : PageNo) → PageOk held now x j q →
    PageOk held now (pages.forget_from x ino from) j q
unfolding pages.forget_from pages.drop_from
forget_ok x ino from held now j q r =
    record {
      mode = r.mode;
      dirty = r.dirty;
      clean = λ y e l. r.clean y (clean y e) l;
      unmapped = λ e k m l. r.unmapped e (extent e k) m l;
      locked = λ y e. r.locked y (clean y e);
      known = λ e k. r.known e (extent e k);
      reading = r.reading;
    }
  where
    behind : Bool
    behind = (j == ino) && nat_le from.0 q.0

    at : (i : ℕ) (p : PageNo) → Place_is i p j q ≡ true → ((i == ino) && nat_le from.0 p.0) ≡ behind
    at i p e = let w = one_place i p j q e in ap (λ n. (n == ino) && nat_le from.0 p.0) w.0 ∙ ap (λ (n : PageNo). (j == ino) && nat_le from.0 n.0) w.1

    clean_by : (y : CleanPage) (b : Bool) → behind ≡ b → find (is_clean_of j q) (filter (λ c. not (pages.is_clean_behind ino from c)) x.pages.clean) ≡ Some y →
        clean_of x.pages j q ≡ Some y
    clean_by y true b e = absurd (none_some _ y (find_cut (is_clean_of j q) (pages.is_clean_behind ino from) (λ c h. at c.ino c.page h ∙ b) x.pages.clean) e)
    clean_by y false b e = sym (find_stays (is_clean_of j q) (pages.is_clean_behind ino from) (λ c h. at c.ino c.page h ∙ b) x.pages.clean) ∙ e

    clean : (y : CleanPage) → find (is_clean_of j q) (filter (λ c. not (pages.is_clean_behind ino from c)) x.pages.clean) ≡ Some y →
        clean_of x.pages j q ≡ Some y
    clean y e = clean_by y behind refl e

    extent_by : (z : KnownExtent) (b : Bool) → behind ≡ b → find (is_known_of j q) (filter (λ c. not (pages.is_known_behind ino from c)) x.extents) ≡ Some z →
        known_of x.extents j q ≡ Some z
    extent_by z true b e = absurd (none_some _ z (find_cut (is_known_of j q) (pages.is_known_behind ino from) (λ c h. at c.ino c.page h ∙ b) x.extents) e)
    extent_by z false b e = sym (find_stays (is_known_of j q) (pages.is_known_behind ino from) (λ c h. at c.ino c.page h ∙ b) x.extents) ∙ e

    extent : (z : KnownExtent) → find (is_known_of j q) (filter (λ c. not (pages.is_known_behind ino from c)) x.extents) ≡ Some z →
        known_of x.extents j q ≡ Some z
    extent z e = extent_by z behind refl e

from_zero : (n : ℕ) → nat_le 0 n ≡ true
from_zero n = go (nat_le 0 n) refl
  where
    go : (b : Bool) → nat_le 0 n ≡ b → b ≡ true
    go true e = refl
    go false e = let z = leb-false 0 n e in absurd (omega arith)

-- of an idle file nothing is left when it is forgotten from its first page on
idle_nothing : (x : Store) (ino : ℕ) (q : PageNo) → pages.is_idle x ino ≡ true → Nothing (pages.forget_from x ino (page_no 0)) ino q
unfolding pages.forget_from pages.drop_from
idle_nothing x ino q e =
    let h = and_true (not (pages.has_dirty x.pages ino)) (not (pages.is_outstanding x.commands ino)) e in
    record {
      dirty = nothing_there _ (no_dirty x.pages ino q (not_true _ h.0));
      clean = find_cut (is_clean_of ino q) (pages.is_clean_behind ino (page_no 0))
          (λ c g. and_both (c.ino == ino) (nat_le 0 c.page.0) (and_true (c.ino == ino) _ g).0 (from_zero c.page.0)) x.pages.clean;
      known = find_cut (is_known_of ino q) (pages.is_known_behind ino (page_no 0))
          (λ c g. and_both (c.ino == ino) (nat_le 0 c.page.0) (and_true (c.ino == ino) _ g).0 (from_zero c.page.0)) x.extents;
      reading = none_of_fewer (pages.is_read_of ino q) (pages.is_command_on ino) (λ c g. (and_true (c.ino == ino) _ (and_true (not (pages.is_write c.kind)) _ g).1).0)
          x.commands (not_true _ h.1);
    }

module _ (ask_of : ℕ → Option Ask) (c : ClientId) (lives : ServerId → Life) (es : List LogEntry) where
  -- the session changes, and each page stays right under the new locks
  pub copies_kept_by_session : (t : Turn) (s s2 : ClientSession) →
      ((now : List ℕ) (ino : ℕ) (p : PageNo) → PageOk (held_in (Some s) ino).mode now t.here.store ino p →
      PageOk (held_in (Some s2) ino).mode now t.here.store ino p) → Keeps ask_of c lives es (with_session s t) (with_session s2 t)
  copies_kept_by_session t s s2 f =
      record { keep = λ r. record { pages = λ ino p. f _ ino p (r.pages ino p); right = r.right; asked = r.asked; fates = r.fates }; away = still _ _ _ }

  -- a grant that lowers no lock
  pub copies_kept_by_install : (t : Turn) (s : ClientSession) (ino : ℕ) (g : GrantNo) (mode : Mode) → (held_at (lock_of s.locks ino)).mode ≤ number_of mode →
      Keeps ask_of c lives es (with_session s t) (with_session (cr.accept_grant s ino g mode) t)
  unfolding cr.accept_grant locks.installed
  copies_kept_by_install t s ino g mode up =
      copies_kept_by_session t s (cr.accept_grant s ino g mode)
      (λ now j q r. page_up (held_in (Some s) j).mode _ now t.here.store j q
      (subst (λ (m : Lock). (held_at (lock_of s.locks j)).mode ≤ m.mode) (sym (lock_set s.locks.rows (held_lock ino g mode) j)) (raised j)) r)
    where
      raised : (j : ℕ) → (held_at (lock_of s.locks j)).mode ≤ (upd (λ d. held_at (lock_of s.locks d)) ino (record { g = g.0; mode = number_of mode }) j).mode
      raised j = upd_all (λ j (m : Lock). (held_at (lock_of s.locks j)).mode ≤ m.mode) (λ d. held_at (lock_of s.locks d)) ino
          (record { g = g.0; mode = number_of mode }) up (λ d n. omega arith) j

  pub copies_kept_by_granted : (t : Turn) (s : ClientSession) (ino : ℕ) (g : GrantNo) (mode : Mode) →
      (locks.is_above_seen s.locks ino g ≡ true → (held_at (lock_of s.locks ino)).mode ≤ number_of mode) →
      Keeps ask_of c lives es (with_session s t) (cr.granted (with_session s t) s ino g mode)
  unfolding cr.granted cr.grant cr.grant_new cr.decline locks.observe
  copies_kept_by_granted t s ino g mode up =
      let u : ClientSession = st.forget_wait ino s in
      copies_kept_by_sequence ask_of c lives es (with_session s t) (with_session u t) _ (copies_kept_by_session t s u (λ now j q r. r))
      (above (locks.is_above_seen s.locks ino g) refl)
    where
      v : ClientSession
      v = st.forget_wait ino s

      place : locks.is_above_seen s.locks ino g ≡ true → (b : Bool) →
          Keeps ask_of c lives es (with_session v t) (with_session (if b then cr.accept_grant v ino g mode else cr.decline v ino g) t)
      place h true = copies_kept_by_install t v ino g mode (up h)
      place h false = copies_kept_by_session t v (cr.decline v ino g) (λ now j q r. r)

      above : (b : Bool) → locks.is_above_seen s.locks ino g ≡ b →
          Keeps ask_of c lives es (with_session v t) (with_session (if b then cr.grant_new v ino g mode else v) t)
      above true h = place h (locks.has_place v.locks ino)
      above false h = copies_kept_by_same ask_of c lives es (with_session v t)

  -- an idle file is reduced
  pub copies_kept_by_reduced_none : (t : Turn) (s s2 : ClientSession) (ino : ℕ) → pages.is_idle t.here.store ino ≡ true →
      s2.locks.rows ≡ locks.without_lock ino s.locks.rows →
      Keeps ask_of c lives es (with_session s t) (with_store (pages.forget_from t.here.store ino (page_no 0)) (with_session s2 t))
  unfolding pages.forget_from pages.drop_from
  copies_kept_by_reduced_none t s s2 ino idle rows =
      record {
        keep =
            λ r. record {
              pages = λ j q. page _ j q (r.pages j q) (same_or_not j ino);
              right = r.right;
              asked = r.asked;
              fates =
                  fates_more c (lives t.here.server) t.here.server t.here.store x _ (λ j q e. e) r.fates;
            };
        away = still _ _ _;
      }
    where
      x : Store
      x = pages.forget_from t.here.store ino (page_no 0)

      held : (j : ℕ) → j ≢ ino → (held_at (find (is_lock_on j) s2.locks.rows)).mode ≡ (held_at (lock_of s.locks j)).mode
      held j n = ap (λ rows. (held_at (find (is_lock_on j) rows)).mode) rows ∙ ap (λ (m : Lock). m.mode) (lock_cut s.locks.rows ino j) ∙
          upd_all (λ d (m : Lock). d ≢ ino → m.mode ≡ (held_at (lock_of s.locks d)).mode) (λ d. held_at (lock_of s.locks d)) ino _ (λ n. absurd (n refl))
          (λ d n m. refl) j n

      page : (now : List ℕ) (j : ℕ) (q : PageNo) → PageOk (held_in (Some s) j).mode now t.here.store j q → (j ≡ ino) ⊎ (j ≢ ino) →
          PageOk (held_in (Some s2) j).mode now x j q
      page now j q r (inl e) = nothing_ok (held_in (Some s2) j).mode now x j q (subst (λ i. Nothing x i q) (sym e) (idle_nothing t.here.store ino q idle))
      page now j q r (inr n) = subst (λ h. PageOk h now x j q) (sym (held j n)) (forget_ok t.here.store ino (page_no 0) (held_in (Some s) j).mode now j q r)

  pub copies_kept_by_reduced_shared : (t : Turn) (s s2 : ClientSession) (ino : ℕ) (g : GrantNo) → pages.is_idle t.here.store ino ≡ true →
      s2.locks.rows ≡ locks.with_lock (held_lock ino g modes.S) s.locks.rows → Keeps ask_of c lives es (with_session s t) (with_session s2 t)
  copies_kept_by_reduced_shared t s s2 ino g idle rows =
      copies_kept_by_session t s s2 (λ now j q r. subst (λ h. PageOk h now t.here.store j q) (sym (held j)) (page j q r))
    where
      held : (j : ℕ) → (held_at (find (is_lock_on j) s2.locks.rows)).mode ≡ (upd (λ d. held_at (lock_of s.locks d)) ino (record { g = g.0; mode = 1 }) j).mode
      held j = ap (λ rows. (held_at (find (is_lock_on j) rows)).mode) rows ∙ ap (λ (m : Lock). m.mode) (lock_set s.locks.rows (held_lock ino g modes.S) j)

      page : {now : List ℕ} (j : ℕ) (q : PageNo) → PageOk (held_in (Some s) j).mode now t.here.store j q →
          PageOk (upd (λ d. held_at (lock_of s.locks d)) ino (record { g = g.0; mode = 1 }) j).mode now t.here.store j q
      page {now} j q r =
          upd_all (λ j (m : Lock). PageOk (held_in (Some s) j).mode now t.here.store j q → PageOk m.mode now t.here.store j q)
          (λ d. held_at (lock_of s.locks d)) ino (record { g = g.0; mode = 1 })
          (λ r. page_shared _ now t.here.store ino q
          (nothing_there _ (no_dirty t.here.store.pages ino q (not_true _ (and_true (not (pages.has_dirty t.here.store.pages ino)) _ idle).0))) r) (λ d n r. r) j
          r

  -- a cut or a remove asks: the file's clean pages go, from a page on
  pub copies_kept_by_cut : (t : Turn) (o : Option (ℕ × PageNo)) → Keeps ask_of c lives es t (with_store (cp.cut_store o t.here.store) t)
  unfolding pages.forget_from pages.drop_from
  copies_kept_by_cut t None = copies_kept_by_same ask_of c lives es t
  copies_kept_by_cut t (Some cut) = copies_kept_by_store ask_of c lives es t (pages.forget_from t.here.store cut.0 cut.1)
      (λ now j q r. forget_ok t.here.store cut.0 cut.1 _ now j q r) (λ j q e. e)

  -- a page that was read: if it was being read, and what was found is what the log says
  pub copies_kept_by_filled : (t : Turn) (ino : ℕ) (p : PageNo) (bytes : List ℕ) → 1 ≤ (held_in t.here.session ino).mode →
      bytes ≡ content (logged c lives t.out es) (file_at t.here.server ino) p →
      Keeps ask_of c lives es t (with_store (record t.here.store { pages = pages.fill t.here.store.pages ino p bytes }) t)
  unfolding pages.fill
  copies_kept_by_filled t ino p bytes some is =
      record {
        keep =
            λ r. record {
              pages = λ j q. page j q (r.pages j q);
              right = r.right;
              asked = r.asked;
              fates =
                  fates_more c (lives t.here.server) t.here.server t.here.store x (logged c lives t.out es) (λ j q e. e) r.fates;
            };
        away = still _ _ _;
      }
    where
      y : CleanPage
      y = pages.clean_page ino p bytes

      x : Store
      x = record t.here.store { pages = record t.here.store.pages { clean = pages.with_newest t.here.store.pages.most_clean y t.here.store.pages.clean } }

      page : (j : ℕ) (q : PageNo) → PageOk (held_in t.here.session j).mode (content (logged c lives t.out es) (file_at t.here.server j) q) t.here.store j q →
          PageOk (held_in t.here.session j).mode (content (logged c lives t.out es) (file_at t.here.server j) q) x j q
      page j q r =
          record {
            mode = r.mode;
            dirty = r.dirty;
            clean = λ z e l. new z l (newest_is t.here.store.pages.most_clean y t.here.store.pages.clean j q z e);
            unmapped = r.unmapped;
            locked = λ z e. lock z (newest_is t.here.store.pages.most_clean y t.here.store.pages.clean j q z e);
            known = r.known;
            reading = r.reading;
          }
        where
          new : (z : CleanPage) → 1 ≤ (held_in t.here.session j).mode →
              ((Place_is ino p j q ≡ true) × (z ≡ y)) ⊎ ((Place_is ino p j q ≡ false) × (find (is_clean_of j q) t.here.store.pages.clean ≡ Some z)) →
              z.bytes ≡ content (logged c lives t.out es) (file_at t.here.server j) q
          new z l (inl h) = let w = one_place ino p j q h.0 in
              ap (λ (d : CleanPage). d.bytes) h.1 ∙ is ∙ ap (λ i. content (logged c lives t.out es) (file_at t.here.server i) p) w.0 ∙
              ap (λ n. content (logged c lives t.out es) (file_at t.here.server j) n) w.1
          new z l (inr h) = r.clean z h.1 l

          lock : (z : CleanPage) → ((Place_is ino p j q ≡ true) × (z ≡ y)) ⊎
              ((Place_is ino p j q ≡ false) × (find (is_clean_of j q) t.here.store.pages.clean ≡ Some z)) → 1 ≤ (held_in t.here.session j).mode
          lock z (inl h) = subst (λ i. 1 ≤ (held_in t.here.session i).mode) (one_place ino p j q h.0).0 some
          lock z (inr h) = r.locked z h.1

  -- told extents
  pub copies_kept_by_known : (t : Turn) (e : KnownExtent) → 1 ≤ (held_in t.here.session e.ino).mode →
      (e.mapping ≡ None → filled 0 ≡ content (logged c lives t.out es) (file_at t.here.server e.ino) e.page) →
      Keeps ask_of c lives es t (with_store (record t.here.store { extents = pages.with_known e t.here.store.extents }) t)
  copies_kept_by_known t e some zeros =
      record {
        keep = λ r. record { pages = λ j q. page j q (r.pages j q) (Place_is e.ino e.page j q) refl; right = r.right; asked = r.asked; fates = r.fates };
        away = still _ _ _;
      }
    where
      x : Store
      x = record t.here.store { extents = pages.with_known e t.here.store.extents }

      page : (j : ℕ) (q : PageNo) → PageOk (held_in t.here.session j).mode (content (logged c lives t.out es) (file_at t.here.server j) q) t.here.store j q →
          (b : Bool) → Place_is e.ino e.page j q ≡ b →
          PageOk (held_in t.here.session j).mode (content (logged c lives t.out es) (file_at t.here.server j) q) x j q
      page j q r true h =
          let w = one_place e.ino e.page j q h in
          let found : find (is_known_of j q) (pages.with_known e t.here.store.extents) ≡ Some e =
          find_put_by (is_known_of j q) (is_known_of e.ino e.page) e t.here.store.extents h
          (λ y f. subst (λ q. is_known_of e.ino q y ≡ true) (sym w.1) (subst (λ i. is_known_of i q y ≡ true) (sym w.0) f)) in
          record {
            mode = r.mode;
            dirty = r.dirty;
            clean = r.clean;
            unmapped = λ z k n l. zeros (ap (λ (y : KnownExtent). y.mapping) (some_is (sym found ∙ k)) ∙ n) ∙
                ap (λ i. content (logged c lives t.out es) (file_at t.here.server i) e.page) w.0 ∙
                ap (λ n. content (logged c lives t.out es) (file_at t.here.server j) n) w.1;
            locked = r.locked;
            known = λ z k. subst (λ i. 1 ≤ (held_in t.here.session i).mode) w.0 some;
            reading = r.reading;
          }
      page j q r false h =
          let same : find (is_known_of j q) (pages.with_known e t.here.store.extents) ≡ find (is_known_of j q) t.here.store.extents =
          find_put_other (is_known_of j q) (is_known_of e.ino e.page) e t.here.store.extents h (λ y f. other_place e.ino e.page j q h y.ino y.page f) in
          record {
            mode = r.mode;
            dirty = r.dirty;
            clean = r.clean;
            unmapped = λ z k n l. r.unmapped z (sym same ∙ k) n l;
            locked = r.locked;
            known =
                λ z k. r.known z (sym same ∙ k);
            reading = r.reading;
          }
