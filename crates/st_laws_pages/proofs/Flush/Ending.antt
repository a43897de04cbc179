-- What holds of an association's dirty pages and outstanding writes, as one of its disk commands ends.
use Rattle.st_lemmas.proofs.Words
use Words.{◌≡◌, ℕ, ◌<◌, ◌⊎◌, Bool, true, false, not, ◌&&◌, List, [], ◌∷◌, ◌++◌, ◌==◌, Option, Some, None, refl, sym, ap, ◌∙◌, subst, inl, inr, arith}
use Words.{if◌then◌else◌, find, filter, map, option_map, unwrap_or, eqb-true, eq-eqb, ClientId, PageNo, Life, ServerId, DirtyPage, IoKind}
use Words.{PageCommand, LogEntry, LogOwner, IssuedCommand, Stamp}
use Words.io
use Words.Keys.{same_client, same_server, same_file, same_page}
use Words.FlatLog as log
use Words.ClientPages as pages
use Words.ClientPages.{Pages}
use Words.ClientState.{Association, Turn}
use Words.Safety.{Step}
use Words.Lists.{Has}
use Words.Tables.{and_true, and_both, has_filter, has_filter_in, has_append, none_passes, some_passes}
use Words.Lookups.{some_is}
use Words.Client as cl
use Words.Members.{some_member_passes}
use Words.Truth.{not_both}
use Words.Versions.{version_failed, version_hardened}
use Rattle.st_lemmas.proofs.Contents.{Place_is, self_place, one_place, other_place, find_cut, find_stays}
use Rattle.st_laws_steps.specs.Client.Losses.{IsOutdated, Ends, Unknown, Passes, Hardens, Fails}
use Rattle.st_laws_pages.specs.Fates.Fates.{PendingAll}
use Rattle.st_laws_pages.specs.Flush.Flush.{file_at, owner_at_page, DirtyHere, LastFailed, Cared, NumbersApart}
use Rattle.st_laws_steps.proofs.Client.Nexts.{dirty_on}
use Rattle.st_laws_pages.proofs.Fates.Fates.{pending_map}
use Rattle.st_laws_pages.proofs.Flush.Caring.{store_same}
use Rattle.st_laws_steps.specs.Client.Client.{Change, Says, Operates, Answers, Greets, TellsLost, Begins, Follows, Learns, Forgets, Caches, Writes, Reads}
use Rattle.st_laws_steps.specs.Client.Client.{Submits}

-- The numbers of outstanding commands.
pub apart_fewer : (q : PageCommand → Bool) (cs : List PageCommand) → NumbersApart cs → NumbersApart (filter q cs)
apart_fewer q cs h = λ pc qc i j n. h pc qc (has_filter q cs pc i).0 (has_filter q cs qc j).0 n

pub apart_more : (cs : List PageCommand) (new : PageCommand) → ((pc : PageCommand) → Has pc cs → pc.number < new.number) → NumbersApart cs →
    NumbersApart (cs ++ new ∷ [])
apart_more cs new low h = λ pc qc i j n. go pc qc (has_append cs (new ∷ []) pc i) (has_append cs (new ∷ []) qc j) n
  where
    go : (pc qc : PageCommand) → Has pc cs ⊎ Has pc (new ∷ []) → Has qc cs ⊎ Has qc (new ∷ []) → pc.number ≡ qc.number → pc ≡ qc
    go pc qc (inl i) (inl j) n = h pc qc i j n
    go pc qc (inl i) (inr (inl e)) n = let z = low pc i in let u = ap (λ (w : PageCommand). w.number) e in absurd (omega (arith, z, u, n))
    go pc qc (inl i) (inr (inr e)) n = absurd e
    go pc qc (inr (inl e)) (inl j) n = let z = low qc j in let u = ap (λ (w : PageCommand). w.number) e in absurd (omega (arith, z, u, n))
    go pc qc (inr (inl e)) (inr (inl f)) n = e ∙ sym f
    go pc qc (inr (inl e)) (inr (inr f)) n = absurd f
    go pc qc (inr (inr e)) j n = absurd e

-- the version of a write
is_a_write : (k : IoKind) → pages.is_write k ≡ true → (v : ℕ) × (k ≡ io.Write v)
is_a_write io.Read e = cc
is_a_write (io.Write v) e = (v, refl)

-- A command is no longer outstanding: if it was a write of a page with a failed command, this one is the page's last write and was reported failed.
pub without_cared : (past : List Step) (cs : List IssuedCommand) (es : List LogEntry) (c : ClientId) (starts next : ℕ) (a : Association) (number : ℕ) →
    ((pc : PageCommand) → Has pc a.store.commands → pc.number ≡ number → (v : ℕ) → pc.kind ≡ io.Write v → (d : DirtyPage) (n : ℕ) →
    pages.dirty_of a.store.pages pc.ino pc.page ≡ Some d → d.failed ≡ Some n → LastFailed past cs es (owner_at_page c a pc.ino pc.page) n) →
    Cared past cs es c starts next a → Cared past cs es c starts next
    (record a { store = record a.store { commands = pages.without_command number a.store.commands } })
without_cared past cs es c starts next a number told h =
    record {
      entries = h.entries;
      writes = λ pc i v q. let w = h.writes pc (has_filter keeps a.store.commands pc i).0 v q in
          record {
            world = λ k x j s. let o = w.world k x j s in
                record { index = o.index; carries = o.carries; last = o.last; latest_is = o.latest_is };
            low = w.low;
            link = w.link;
          };
      reads = λ pc i. h.reads pc (has_filter keeps a.store.commands pc i).0;
      first = h.first;
      above = λ pc i. h.above pc (has_filter keeps a.store.commands pc i).0;
      below = λ pc i. h.below pc (has_filter keeps a.store.commands pc i).0;
      once = λ pc qc i j. h.once pc qc (has_filter keeps a.store.commands pc i).0 (has_filter keeps a.store.commands qc j).0;
      versions = h.versions;
      failed = λ ino p d n i q. fail ino p d n i q (pages.is_being_written (filter keeps a.store.commands) ino p) refl (h.failed ino p d n i q);
    }
  where
    keeps : PageCommand → Bool
    keeps x = not (pages.is_numbered number x)

    fail : (ino : ℕ) (p : PageNo) (d : DirtyPage) (n : ℕ) → pages.dirty_of a.store.pages ino p ≡ Some d → d.failed ≡ Some n → (b : Bool) →
        pages.is_being_written (filter keeps a.store.commands) ino p ≡ b →
        (pages.is_being_written a.store.commands ino p ≡ true) ⊎ LastFailed past cs es (owner_at_page c a ino p) n →
        (pages.is_being_written (filter keeps a.store.commands) ino p ≡ true) ⊎ LastFailed past cs es (owner_at_page c a ino p) n
    fail ino p d n i q true f x = inl f
    fail ino p d n i q false f (inr r) = inr r
    fail ino p d n i q false f (inl w) = let z = some_member_passes (pages.is_write_of ino p) a.store.commands w in
        inr (gone z.0 z.1 z.2 (pages.is_numbered number z.0) refl)
      where
        gone : (pc : PageCommand) → Has pc a.store.commands → pages.is_write_of ino p pc ≡ true → (b : Bool) → pages.is_numbered number pc ≡ b →
            LastFailed past cs es (owner_at_page c a ino p) n
        gone pc y t false u =
            absurd
            (not_both (pages.is_write_of ino p pc) t
            (none_passes (pages.is_write_of ino p) (filter keeps a.store.commands) f pc (has_filter_in keeps a.store.commands pc y (ap not u))))
        gone pc y t true u =
            let k = and_true (pages.is_write pc.kind) ((pc.ino == ino) && same_page pc.page p) t in
            let v = is_a_write pc.kind k.0 in
            let o = one_place pc.ino pc.page ino p k.1 in
            subst (λ r. LastFailed past cs es (owner_at_page c a ino r) n) o.1
            (subst (λ j. LastFailed past cs es (owner_at_page c a j pc.page) n) o.0
            (told pc y (eqb-true pc.number number u) v.0 v.1 d n
            (subst (λ j. pages.dirty_of a.store.pages j pc.page ≡ Some d) (sym o.0) (subst (λ r. pages.dirty_of a.store.pages ino r ≡ Some d) (sym o.1) i))
            q))

-- what is dirty after a page is no longer dirty
without_is : (ino : ℕ) (p : PageNo) (xs : List DirtyPage) (i : ℕ) (q : PageNo) (b : Bool) → Place_is ino p i q ≡ b →
    find (pages.is_dirty_of i q) (pages.without_dirty ino p xs) ≡ (if b then None else find (pages.is_dirty_of i q) xs)
without_is ino p xs i q true e =
    let o = one_place ino p i q e in
    find_cut (pages.is_dirty_of i q) (pages.is_dirty_of ino p)
    (λ x z. subst (λ j. Place_is x.ino x.page j p ≡ true) (sym o.0) (subst (λ r. Place_is x.ino x.page i r ≡ true) (sym o.1) z)) xs
without_is ino p xs i q false e = find_stays (pages.is_dirty_of i q) (pages.is_dirty_of ino p) (λ x z. other_place ino p i q e x.ino x.page z) xs

hardened_at : (ps : Pages) (ino : ℕ) (p : PageNo) (o : Option DirtyPage) → pages.dirty_of ps ino p ≡ o → (i : ℕ) (q : PageNo) (b : Bool) →
    Place_is ino p i q ≡ b → pages.dirty_of (pages.harden_at ps o) i q ≡ (if b then None else pages.dirty_of ps i q)
unfolding pages.harden_at pages.harden_page
hardened_at ps ino p None e i q true z = let o = one_place ino p i q z in
    subst (λ j. pages.dirty_of ps j q ≡ None) o.0 (subst (λ r. pages.dirty_of ps ino r ≡ None) o.1 e)
hardened_at ps ino p None e i q false z = refl
hardened_at ps ino p (Some x) e i q b z = let o = dirty_on ps ino p x e in
    without_is x.ino x.page ps.dirty i q b (ap (λ j. Place_is j x.page i q) o.0 ∙ ap (λ r. Place_is ino r i q) o.1 ∙ z)

pub hardened_is : (ps : Pages) (ino : ℕ) (p : PageNo) (i : ℕ) (q : PageNo) (b : Bool) → Place_is ino p i q ≡ b →
    pages.dirty_of (pages.harden ps ino p) i q ≡ (if b then None else pages.dirty_of ps i q)
unfolding pages.harden
hardened_is ps ino p = hardened_at ps ino p (pages.dirty_of ps ino p) refl

-- what nothing pending is of
abbrev pub NonePending : LogOwner → List LogEntry → Type 0
NonePending o es = PendingAll (λ x. log.same_owner x o ≡ true → ⊥) es

-- A page is no longer dirty: nothing of it is pending.
pub cleaned_cared : (past : List Step) (cs : List IssuedCommand) (es : List LogEntry) (c : ClientId) (starts next : ℕ) (a : Association) (ino : ℕ) (p : PageNo)
    → NonePending (owner_at_page c a ino p) es → Cared past cs es c starts next a →
    Cared past cs es c starts next (record a { store = record a.store { pages = pages.harden a.store.pages ino p } })
cleaned_cared past cs es c starts next a ino p none h =
    record {
      entries = dirty es none h.entries;
      writes = λ pc i v q.
          let w = h.writes pc i v q in
          record {
            world = λ k x j s. let o = w.world k x j s in
                record {
                  index = o.index;
                  carries = o.carries;
                  last = o.last;
                  latest_is =
                      λ d y z. o.latest_is d (old pc.ino pc.page d (Place_is ino p pc.ino pc.page) refl y) z;
                };
            low = subst (λ n. v < n) (sym (version_hardened a.store.pages ino p)) w.low;
            link = λ d y. w.link d (old pc.ino pc.page d (Place_is ino p pc.ino pc.page) refl y);
          };
      reads = h.reads;
      first = h.first;
      above = h.above;
      below = h.below;
      once = h.once;
      versions = λ i q d y. subst (λ n. d.version < n) (sym (version_hardened a.store.pages ino p)) (h.versions i q d (old i q d (Place_is ino p i q) refl y));
      failed = λ i q d n y. h.failed i q d n (old i q d (Place_is ino p i q) refl y);
    }
  where
    b : Association
    b = record a { store = record a.store { pages = pages.harden a.store.pages ino p } }

    none_some : (d : DirtyPage) → ◌≡◌ {A = Option DirtyPage} None (Some d) → ⊥
    none_some d z = cc

    old : (i : ℕ) (q : PageNo) (d : DirtyPage) (x : Bool) → Place_is ino p i q ≡ x → pages.dirty_of (pages.harden a.store.pages ino p) i q ≡ Some d →
        pages.dirty_of a.store.pages i q ≡ Some d
    old i q d true z y = absurd (none_some d (sym (hardened_is a.store.pages ino p i q true z) ∙ y))
    old i q d false z y = sym (hardened_is a.store.pages ino p i q false z) ∙ y

    one : (o : LogOwner) → (log.same_owner o (owner_at_page c a ino p) ≡ true → ⊥) → DirtyHere c a o → DirtyHere c b o
    one o n f u v w = go (Place_is ino p o.file.ino o.page) refl (f u v w)
      where
        go : (x : Bool) → Place_is ino p o.file.ino o.page ≡ x → (d : DirtyPage) × (pages.dirty_of a.store.pages o.file.ino o.page ≡ Some d) →
            (d : DirtyPage) × (pages.dirty_of b.store.pages o.file.ino o.page ≡ Some d)
        go true z d = let s = one_place ino p o.file.ino o.page z in absurd (n (its u v w (sym s.0) (sym s.1)))
          where
            its : o.client ≡ c → o.file.server ≡ a.server → o.life ≡ a.life → o.file.ino ≡ ino → o.page ≡ p → log.same_owner o (owner_at_page c a ino p) ≡ true
            its x y l i r = and_both _ _ (and_both _ _ (eq-eqb _ _ (ap (λ (m : ClientId). m.0) x)) (eq-eqb _ _ (ap (λ (m : Life). m.0) l)))
                (and_both _ _ (and_both _ _ (eq-eqb _ _ (ap (λ (m : ServerId). m.0) y)) (eq-eqb _ _ i)) (eq-eqb _ _ (ap (λ (m : PageNo). m.0) r)))
        go false z d = (d.0, hardened_is a.store.pages ino p o.file.ino o.page false z ∙ d.1)

    dirty : (xs : List LogEntry) → NonePending (owner_at_page c a ino p) xs → PendingAll (DirtyHere c a) xs → PendingAll (DirtyHere c b) xs
    dirty [] n f = record {}
    dirty (e ∷ xs) n f = record { one = λ t. one e.of (n.one t) (f.one t); rest = dirty xs n.rest f.rest }

-- nothing is pending of a page that is not dirty
undirtied : (past : List Step) (cs : List IssuedCommand) (es : List LogEntry) (c : ClientId) (starts next : ℕ) (a : Association) (ino : ℕ) (p : PageNo) →
    pages.dirty_of a.store.pages ino p ≡ None → Cared past cs es c starts next a → NonePending (owner_at_page c a ino p) es
undirtied past cs es c starts next a ino p n h = pending_map (DirtyHere c a) (λ x. log.same_owner x (owner_at_page c a ino p) ≡ true → ⊥) es one h.entries
  where
    none_some : (d : DirtyPage) → ◌≡◌ {A = Option DirtyPage} None (Some d) → ⊥
    none_some d z = cc

    one : (o : LogOwner) → DirtyHere c a o → log.same_owner o (owner_at_page c a ino p) ≡ true → ⊥
    one o f s =
        let x = and_true (same_client o.client c && (o.life.0 == a.life.0)) (same_file o.file (file_at a ino) && same_page o.page p) s in
        let y = and_true (same_client o.client c) (o.life.0 == a.life.0) x.0 in
        let z = and_true (same_file o.file (file_at a ino)) (same_page o.page p) x.1 in
        let w = and_true (same_server o.file.server a.server) (o.file.ino == ino) z.0 in
        let d = f (ap (λ m. record { 0 = m }) (eqb-true _ _ y.0)) (ap (λ m. record { 0 = m }) (eqb-true _ _ w.0))
        (ap (λ m. record { 0 = m }) (eqb-true _ _ y.1)) in
        none_some d.0
        (sym n ∙ subst (λ q. pages.dirty_of a.store.pages ino q ≡ Some d.0) (ap (λ m. record { 0 = m }) (eqb-true _ _ z.1))
        (subst (λ j. pages.dirty_of a.store.pages j o.page ≡ Some d.0) (eqb-true _ _ w.1) d.1))

-- what is dirty after a page's command failed
failed_rows : (ino : ℕ) (p : PageNo) (n : ℕ) (i : ℕ) (q : PageNo) (xs : List DirtyPage) →
    find (pages.is_dirty_of i q) (map (pages.fail_of ino p n) xs) ≡ option_map (pages.fail_of ino p n) (find (pages.is_dirty_of i q) xs)
unfolding pages.failed_by
failed_rows ino p n i q [] = refl
failed_rows ino p n i q (x ∷ xs) = go (pages.is_dirty_of i q x) refl (failed_rows ino p n i q xs)
  where
    same : (b : Bool) → pages.is_dirty_of i q (if b then pages.failed_by n x else x) ≡ pages.is_dirty_of i q x
    same true = refl
    same false = refl

    go : (b : Bool) → pages.is_dirty_of i q x ≡ b → find (pages.is_dirty_of i q) (map (pages.fail_of ino p n) xs) ≡ option_map (pages.fail_of ino p n)
        (find (pages.is_dirty_of i q) xs) →
        find (pages.is_dirty_of i q) (map (pages.fail_of ino p n) (x ∷ xs)) ≡ option_map (pages.fail_of ino p n) (find (pages.is_dirty_of i q) (x ∷ xs))
    go b e r = head b e r ∙ ap (λ t. option_map (pages.fail_of ino p n) (if t then Some x else find (pages.is_dirty_of i q) xs)) (sym e)
      where
        head : (b : Bool) → pages.is_dirty_of i q x ≡ b →
            find (pages.is_dirty_of i q) (map (pages.fail_of ino p n) xs) ≡ option_map (pages.fail_of ino p n) (find (pages.is_dirty_of i q) xs) →
            find (pages.is_dirty_of i q) (map (pages.fail_of ino p n) (x ∷ xs)) ≡ option_map (pages.fail_of ino p n)
            (if b then Some x else find (pages.is_dirty_of i q) xs)
        head true e r = ap (λ t. if t then Some (pages.fail_of ino p n x) else find (pages.is_dirty_of i q) (map (pages.fail_of ino p n) xs))
            (same (pages.is_dirty_of ino p x) ∙ e)
        head false e r = ap (λ t. if t then Some (pages.fail_of ino p n x) else find (pages.is_dirty_of i q) (map (pages.fail_of ino p n) xs))
            (same (pages.is_dirty_of ino p x) ∙ e) ∙ r

-- a page after a command failed, as it was before
record Was (ps : Pages) (ino : ℕ) (p : PageNo) (n : ℕ) (i : ℕ) (q : PageNo) (d : DirtyPage) : Type 0 where
  pub page : DirtyPage
  pub is : pages.dirty_of ps i q ≡ Some page
  pub version : page.version ≡ d.version
  pub other : Place_is ino p i q ≡ false → page ≡ d
  pub own : Place_is ino p i q ≡ true → d.failed ≡ Some n

failed_was : (ps : Pages) (ino : ℕ) (p : PageNo) (n : ℕ) (i : ℕ) (q : PageNo) (d : DirtyPage) → pages.dirty_of (pages.fail ps ino p n) i q ≡ Some d →
    Was ps ino p n i q d
unfolding pages.fail pages.failed_by
failed_was ps ino p n i q d e = go (pages.dirty_of ps i q) refl (sym (failed_rows ino p n i q ps.dirty) ∙ e)
  where
    go : (o : Option DirtyPage) → pages.dirty_of ps i q ≡ o → option_map (pages.fail_of ino p n) o ≡ Some d → Was ps ino p n i q d
    go None f g = cc
    go (Some x) f g =
        record {
          page = x;
          is = f;
          version = sym (version (pages.is_dirty_of ino p x)) ∙ ap (λ (y : DirtyPage). y.version) (some_is g);
          other = λ z. sym (ap (λ t. if t then pages.failed_by n x else x) (apart z)) ∙ some_is g;
          own = λ z. ap (λ (y : DirtyPage). y.failed) (sym (some_is g)) ∙ ap (λ t. (if t then pages.failed_by n x else x).failed) (here z);
        }
      where
        here : Place_is ino p i q ≡ true → pages.is_dirty_of ino p x ≡ true
        here z =
            let o = dirty_on ps i q x f in
            let s = one_place ino p i q z in
            ap (λ j. Place_is j x.page ino p) (o.0 ∙ sym s.0) ∙ (ap (λ r. Place_is ino r ino p) (o.1 ∙ sym s.1) ∙ self_place ino p)

        version : (b : Bool) → (if b then pages.failed_by n x else x).version ≡ x.version
        version true = refl
        version false = refl

        apart : Place_is ino p i q ≡ false → pages.is_dirty_of ino p x ≡ false
        apart z = let o = dirty_on ps i q x f in ap (λ j. Place_is j x.page ino p) o.0 ∙ ap (λ r. Place_is i r ino p) o.1 ∙ turned (Place_is i q ino p) refl
          where
            turned : (b : Bool) → Place_is i q ino p ≡ b → b ≡ false
            turned false t = refl
            turned true t = let s = one_place i q ino p t in
                absurd (not_both (Place_is ino p i q) (subst (λ j. Place_is j p i q ≡ true) s.0 (subst (λ r. Place_is i r i q ≡ true) s.1 (self_place i q))) z)

failed_still : (ps : Pages) (ino : ℕ) (p : PageNo) (n : ℕ) (i : ℕ) (q : PageNo) (d : DirtyPage) → pages.dirty_of ps i q ≡ Some d →
    pages.dirty_of (pages.fail ps ino p n) i q ≡ Some (pages.fail_of ino p n d)
unfolding pages.fail pages.failed_by
failed_still ps ino p n i q d e = failed_rows ino p n i q ps.dirty ∙ ap (option_map (pages.fail_of ino p n)) e

-- A write of the page as it is is outstanding, and so is no other of the page.
record IsWriting (a : Association) (ino : ℕ) (p : PageNo) : Type 0 where
  pub is : pages.is_being_written a.store.commands ino p ≡ true
  pub present : (pc : PageCommand) → Has pc a.store.commands → (v : ℕ) → pc.kind ≡ io.Write v → Place_is ino p pc.ino pc.page ≡ true → (d : DirtyPage) →
      pages.dirty_of a.store.pages pc.ino pc.page ≡ Some d → d.version ≡ v

-- A page's command failed while a write of the page as it is is outstanding.
failed_cared : (past : List Step) (cs : List IssuedCommand) (es : List LogEntry) (c : ClientId) (starts next : ℕ) (a : Association) (ino : ℕ) (p : PageNo)
    (n : ℕ) →
    IsWriting a ino p → Cared past cs es c starts next a →
    Cared past cs es c starts next (record a { store = record a.store { pages = pages.fail a.store.pages ino p n } })
failed_cared past cs es c starts next a ino p n writing h =
    record {
      entries = pending_map (DirtyHere c a) (DirtyHere c b) es
          (λ o f u v w. let d = f u v w in (pages.fail_of ino p n d.0, failed_still a.store.pages ino p n o.file.ino o.page d.0 d.1)) h.entries;
      writes = λ pc i v q.
          let w = h.writes pc i v q in
          record {
            world = λ k x j s. let o = w.world k x j s in
                record {
                  index = o.index;
                  carries = o.carries;
                  last = o.last;
                  latest_is = λ d y z. let m = failed_was a.store.pages ino p n pc.ino pc.page d y in
                      o.latest_is m.page m.is (m.version ∙ z);
                };
            low = subst (λ x. v < x) (sym (version_failed a.store.pages ino p n)) w.low;
            link = λ d y. linked pc i v q d (Place_is ino p pc.ino pc.page) refl (failed_was a.store.pages ino p n pc.ino pc.page d y);
          };
      reads = h.reads;
      first = h.first;
      above = h.above;
      below = h.below;
      once = h.once;
      versions = λ i q d y. let m = failed_was a.store.pages ino p n i q d y in
          subst (λ x. d.version < x) (sym (version_failed a.store.pages ino p n))
          (subst (λ x. x < a.store.pages.next_version) m.version (h.versions i q m.page m.is));
      failed = λ i q d k y z. fail i q d k (Place_is ino p i q) refl (failed_was a.store.pages ino p n i q d y) z;
    }
  where
    b : Association
    b = record a { store = record a.store { pages = pages.fail a.store.pages ino p n } }

    linked : (pc : PageCommand) → Has pc a.store.commands → (v : ℕ) → pc.kind ≡ io.Write v → (d : DirtyPage) (t : Bool) → Place_is ino p pc.ino pc.page ≡ t →
        Was a.store.pages ino p n pc.ino pc.page d → (d.version ≡ v) ⊎ (d.failed ≡ None)
    linked pc i v q d true z m = inl (sym m.version ∙ writing.present pc i v q z m.page m.is)
    linked pc i v q d false z m = subst (λ (x : DirtyPage). (x.version ≡ v) ⊎ (x.failed ≡ None)) (m.other z) ((h.writes pc i v q).link m.page m.is)

    fail : (i : ℕ) (q : PageNo) (d : DirtyPage) (k : ℕ) (t : Bool) → Place_is ino p i q ≡ t → Was a.store.pages ino p n i q d → d.failed ≡ Some k →
        (pages.is_being_written a.store.commands i q ≡ true) ⊎ LastFailed past cs es (owner_at_page c a i q) k
    fail i q d k true z m e =
        let o = one_place ino p i q z in
        inl (subst (λ r. pages.is_being_written a.store.commands i r ≡ true) o.1
        (subst (λ j. pages.is_being_written a.store.commands j p ≡ true) o.0 writing.is))
    fail i q d k false z m e = h.failed i q m.page k m.is (ap (λ (x : DirtyPage). x.failed) (m.other z) ∙ e)

-- a command that is found
pub command_is : (cs : List PageCommand) (n : ℕ) (c : PageCommand) → pages.command_of cs n ≡ Some c → Has c cs × (c.number ≡ n)
command_is [] n c e = cc
command_is (x ∷ xs) n c e = go (x.number == n) refl e (command_is xs n c)
  where
    go : (b : Bool) → (x.number == n) ≡ b → (if b then Some x else pages.command_of xs n) ≡ Some c →
        (pages.command_of xs n ≡ Some c → Has c xs × (c.number ≡ n)) → Has c (x ∷ xs) × (c.number ≡ n)
    go true f g r = (inl (sym (some_is g)), ap (λ (y : PageCommand). y.number) (sym (some_is g)) ∙ eqb-true x.number n f)
    go false f g r = let z = r g in (inr z.0, z.1)

-- What is owed as a write ends: one of the page as it is that failed is its page's last, carried its latest entry, and was reported so.
abbrev pub FailureOwed : List Step → List IssuedCommand → List LogEntry → ClientId → Association → PageCommand → ℕ → Type 0
FailureOwed past cs es c a pc v =
    (d : DirtyPage) → pages.dirty_of a.store.pages pc.ino pc.page ≡ Some d → d.version ≡ v → LastFailed past cs es (owner_at_page c a pc.ino pc.page) pc.number

-- And one of the page as it is, which is done, leaves nothing of the page pending.
abbrev pub SuccessOwed : List LogEntry → ClientId → Association → PageCommand → ℕ → Type 0
SuccessOwed es c a pc v = (d : DirtyPage) → pages.dirty_of a.store.pages pc.ino pc.page ≡ Some d → d.version ≡ v →
    NonePending (owner_at_page c a pc.ino pc.page) es

-- The end of a command.
pub ends_cared : (past : List Step) (cs : List IssuedCommand) (es : List LogEntry) (c : ClientId) (starts next : ℕ) (number : ℕ) (ok : Bool) (t u : Turn) →
    Ends number ok t u → NumbersApart t.here.store.commands →
    ((pc : PageCommand) → Has pc t.here.store.commands → pc.number ≡ number → (v : ℕ) → pc.kind ≡ io.Write v → ok ≡ false →
    FailureOwed past cs es c t.here pc v) →
    ((pc : PageCommand) → Has pc t.here.store.commands → pc.number ≡ number → (v : ℕ) → pc.kind ≡ io.Write v → ok ≡ true → SuccessOwed es c t.here pc v) →
    Cared past cs es c starts next t.here → Cared past cs es c starts next u.here
unfolding cl.hardened
ends_cared past cs es c starts next number ok t _ Unknown ap_ fo so h = h
ends_cared past cs es c starts next number ok t _ (Passes pc e o) ap_ fo so h =
    without_cared past cs es c starts next t.here number (λ qc i m v k d n y z. absurd (none qc (its qc i m) i v k d n y z)) h
  where
    is : Has pc t.here.store.commands × (pc.number ≡ number)
    is = command_is t.here.store.commands number pc e

    its : (qc : PageCommand) → Has qc t.here.store.commands → qc.number ≡ number → qc ≡ pc
    its qc i m = ap_ qc pc i is.0 (m ∙ sym is.1)

    none_some : (n : ℕ) → ◌≡◌ {A = Option ℕ} None (Some n) → ⊥
    none_some n z = cc

    none : (qc : PageCommand) → qc ≡ pc → Has qc t.here.store.commands → (v : ℕ) → qc.kind ≡ io.Write v → (d : DirtyPage) (n : ℕ) →
        pages.dirty_of t.here.store.pages qc.ino qc.page ≡ Some d → d.failed ≡ Some n → ⊥
    none qc s i v k d n y z = go ((h.writes qc i v k).link d y)
      where
        go : (d.version ≡ v) ⊎ (d.failed ≡ None) → ⊥
        go (inl f) = subst (λ x. IsOutdated t x) (sym s) o v d k y f
        go (inr f) = none_some n (sym f ∙ z)
ends_cared past cs es c starts next number ok t _ (Hardens pc v e o k w) ap_ fo so h =
    without_cared past cs es c starts next a number (λ qc i m v k d n y z. absurd (none qc (its qc i m) d y))
    (clean (pages.dirty_of t.here.store.pages pc.ino pc.page) refl)
  where
    a : Association
    a = record t.here { store = record t.here.store { pages = pages.harden t.here.store.pages pc.ino pc.page } }

    is : Has pc t.here.store.commands × (pc.number ≡ number)
    is = command_is t.here.store.commands number pc e

    its : (qc : PageCommand) → Has qc t.here.store.commands → qc.number ≡ number → qc ≡ pc
    its qc i m = ap_ qc pc i is.0 (m ∙ sym is.1)

    none_some : (d : DirtyPage) → ◌≡◌ {A = Option DirtyPage} None (Some d) → ⊥
    none_some d z = cc

    none : (qc : PageCommand) → qc ≡ pc → (d : DirtyPage) → pages.dirty_of a.store.pages qc.ino qc.page ≡ Some d → ⊥
    none qc s d y =
        none_some d
        (sym (hardened_is t.here.store.pages pc.ino pc.page pc.ino pc.page true (self_place pc.ino pc.page)) ∙
        subst (λ (x : PageCommand). pages.dirty_of a.store.pages x.ino x.page ≡ Some d) s y)

    version : (d : DirtyPage) → pages.dirty_of t.here.store.pages pc.ino pc.page ≡ Some d → d.version ≡ v
    version d q = sym (ap (λ x. unwrap_or (option_map pages.version_of_dirty x) 0) q) ∙ w

    clean : (x : Option DirtyPage) → pages.dirty_of t.here.store.pages pc.ino pc.page ≡ x → Cared past cs es c starts next a
    clean (Some d) q = cleaned_cared past cs es c starts next t.here pc.ino pc.page (so pc is.0 is.1 v k o d q (version d q)) h
    clean None q = cleaned_cared past cs es c starts next t.here pc.ino pc.page (undirtied past cs es c starts next t.here pc.ino pc.page q h) h
ends_cared past cs es c starts next number ok t _ (Fails pc v e o k w) ap_ fo so h =
    without_cared past cs es c starts next a number
    (λ qc i m u f d n y z. told qc (its qc i m) d n (failed_was t.here.store.pages pc.ino pc.page pc.number qc.ino qc.page d y) z)
    (failed_cared past cs es c starts next t.here pc.ino pc.page pc.number (record { is = writing; present = λ qc i u f z. present qc i u f z }) h)
  where
    a : Association
    a = record t.here { store = record t.here.store { pages = pages.fail t.here.store.pages pc.ino pc.page pc.number } }

    is : Has pc t.here.store.commands × (pc.number ≡ number)
    is = command_is t.here.store.commands number pc e

    its : (qc : PageCommand) → Has qc t.here.store.commands → qc.number ≡ number → qc ≡ pc
    its qc i m = ap_ qc pc i is.0 (m ∙ sym is.1)

    version : (d : DirtyPage) → pages.dirty_of t.here.store.pages pc.ino pc.page ≡ Some d → d.version ≡ v
    version d q = sym (ap (λ x. unwrap_or (option_map pages.version_of_dirty x) 0) q) ∙ w

    writing : pages.is_being_written t.here.store.commands pc.ino pc.page ≡ true
    writing =
        some_passes (pages.is_write_of pc.ino pc.page) t.here.store.commands pc is.0
        (and_both (pages.is_write pc.kind) (Place_is pc.ino pc.page pc.ino pc.page) (ap pages.is_write k) (self_place pc.ino pc.page))

    -- another write of the page is this one
    present : (qc : PageCommand) → Has qc t.here.store.commands → (u : ℕ) → qc.kind ≡ io.Write u → Place_is pc.ino pc.page qc.ino qc.page ≡ true →
        (d : DirtyPage) → pages.dirty_of t.here.store.pages qc.ino qc.page ≡ Some d → d.version ≡ u
    present qc i u f z d y =
        let l = one_place pc.ino pc.page qc.ino qc.page z in
        let same : qc ≡ pc = ap_ qc pc i is.0 (h.once qc pc i is.0 u v f k (sym l.0) (sym l.1)) in
        version d (subst (λ (x : PageCommand). pages.dirty_of t.here.store.pages x.ino x.page ≡ Some d) same y)
        ∙ written_is (sym k ∙ (ap (λ (x : PageCommand). x.kind) (sym same) ∙ f))
      where
        written_is : io.Write v ≡ io.Write u → v ≡ u
        written_is x = cc

    told : (qc : PageCommand) → qc ≡ pc → (d : DirtyPage) (n : ℕ) → Was t.here.store.pages pc.ino pc.page pc.number qc.ino qc.page d → d.failed ≡ Some n →
        LastFailed past cs es (owner_at_page c t.here qc.ino qc.page) n
    told qc s d n m z =
        let here : Place_is pc.ino pc.page qc.ino qc.page ≡ true =
        subst (λ (x : PageCommand). Place_is pc.ino pc.page x.ino x.page ≡ true) (sym s) (self_place pc.ino pc.page) in
        let page : pages.dirty_of t.here.store.pages pc.ino pc.page ≡ Some m.page =
        subst (λ (x : PageCommand). pages.dirty_of t.here.store.pages x.ino x.page ≡ Some m.page) s m.is in
        subst (LastFailed past cs es (owner_at_page c t.here qc.ino qc.page)) (some_is (sym (m.own here) ∙ z))
        (subst (λ (x : PageCommand). LastFailed past cs es (owner_at_page c t.here x.ino x.page) pc.number) (sym s)
        (fo pc is.0 is.1 v k o m.page page (version m.page page)))

-- A change that changes no page and submits nothing.
abbrev pub IsQuiet : (now : Stamp) (t u : Turn) → Change now t u → Type 0
IsQuiet now t _ (Writes _ s f p bytes n e sv own m h) = ⊥
IsQuiet now t _ (Reads _ ino p m i clean) = ⊥
IsQuiet now t _ (Submits _ s ino p d m e i k w) = ⊥
IsQuiet now t u c = Unit {0}

-- It leaves what holds of the association.
pub quiet_cared : (past : List Step) (cs : List IssuedCommand) (es : List LogEntry) (c : ClientId) (starts : ℕ) (now : Stamp) (t u : Turn) (ch : Change now t u)
    → IsQuiet now t u ch → Cared past cs es c starts t.next_command t.here → Cared past cs es c starts u.next_command u.here
unfolding pages.forget_from pages.drop_from
quiet_cared past cs es c starts now t _ (Says _ o p) q h = h
quiet_cared past cs es c starts now t _ (Operates _ os) q h = h
quiet_cared past cs es c starts now t _ (Answers _ os ops a) q h = h
quiet_cared past cs es c starts now t _ (Greets _ g) q h =
    store_same past cs es c starts t.next_command t.here (record t.here { greeting = g }) refl refl refl refl refl h
quiet_cared past cs es c starts now t _ (TellsLost _ lost) q h = store_same past cs es c starts t.next_command t.here _ refl refl refl refl refl h
quiet_cared past cs es c starts now t _ (Begins _ s e b n) q h =
    store_same past cs es c starts t.next_command t.here (record t.here { session = Some s }) refl refl refl refl refl h
quiet_cared past cs es c starts now t _ (Follows _ s u e g) q h =
    store_same past cs es c starts t.next_command t.here (record t.here { session = Some u }) refl refl refl refl refl h
quiet_cared past cs es c starts now t _ (Learns _ e u n) q h =
    store_same past cs es c starts t.next_command t.here (record t.here { store = record t.here.store { extents = pages.with_known e t.here.store.extents } })
    refl refl refl refl refl h
quiet_cared past cs es c starts now t _ (Forgets _ ino p i) q h =
    store_same past cs es c starts t.next_command t.here (record t.here { store = pages.forget_from t.here.store ino p }) refl refl refl refl refl h
quiet_cared past cs es c starts now t _ (Caches _ clean) q h =
    store_same past cs es c starts t.next_command t.here (record t.here { store = record t.here.store { pages = record t.here.store.pages { clean = clean } } })
    refl refl refl refl refl h
quiet_cared past cs es c starts now t _ (Writes _ s f p bytes n e sv own m z) q h = absurd q
quiet_cared past cs es c starts now t _ (Reads _ ino p m i clean) q h = absurd q
quiet_cared past cs es c starts now t _ (Submits _ s ino p d m e i k w) q h = absurd q
