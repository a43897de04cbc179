-- What holds of an association's dirty pages and outstanding writes, as the log and the commands grow elsewhere.
use Rattle.st_lemmas.proofs.Words
use Words.{◌≡◌, ℕ, ◌+◌, ◌≤◌, ◌<◌, ◌⊎◌, Bool, true, false, not, ◌&&◌, ◌||◌, List, [], ◌∷◌, ◌++◌, ◌==◌, Option, Some, None, refl, sym, ap, ◌∙◌, subst, inl, inr}
use Words.{arith, if◌then◌else◌, length, suc, find, filter, list_any, eq-eqb, ne_eqb, ClientId, FileId, PageNo, ServerId, Life, DirtyPage, PageCommand}
use Words.{LogEntry, LogOwner, Carried, IssuedCommand, Change}
use Words.io
use Words.Keys.{put, same_client, same_file, same_page, same_server}
use Words.FlatLog as log
use Words.FlatLog.{owner}
use Words.ClientPages as pages
use Words.ClientState.{Association}
use Words.World.{numbered}
use Words.Events as ev
use Words.Events.{latest, last_write}
use Words.Safety.{Step, reports_failure}
use Words.Lists.{Has}
use Words.Numbers.{numbered_more, numbered_old, numbered_has}
use Words.Tables.{and_true, and_both, has_filter, has_append, none_passes}
use Words.Lookups.{some_is, or_left, or_right}
use Words.Truth.{not_both}
use Rattle.st_lemmas.proofs.Contents.{Place_is, self_place, one_place}
use Rattle.st_laws_pages.specs.Fates.Fates.{PendingAll}
use Rattle.st_laws_steps.proofs.Client.Nexts.{dirty_put}
use Rattle.st_laws_pages.proofs.Fates.Fates.{pending_map}
use Rattle.st_laws_pages.specs.Flush.Flush.{file_at, owner_at_page, IsIts, Sent, WriteCared, DirtyHere, LastFailed, Cared, NumbersBelow}
use Rattle.st_laws_pages.proofs.Fates.FateSteps.{pending_more}
use Rattle.st_laws_pages.proofs.Fates.Owing.{last_more}
use Rattle.st_laws_pages.proofs.Disks.Writer.{latest_last}

-- one more entry that is not the client's to this page leaves its latest one
pub latest_stays : (c : ClientId) (f : FileId) (p : PageNo) (es : List LogEntry) (e : LogEntry) → ev.is_entry_of c f p e ≡ false → latest (es ++ e ∷ []) c f p ≡ latest es c f p
unfolding latest ev.latest_at
latest_stays c f p es e q = latest_last 1 0 c f p es e ∙ ap (λ b. if b then 1 + length es else ev.latest_from 1 0 c f p es) q

pub last_stays : (o : LogOwner) (cs : List IssuedCommand) (x : IssuedCommand) → ev.carries_for o x x.carries ≡ false → last_write (cs ++ x ∷ []) o ≡ last_write cs o
unfolding last_write
last_stays o cs x q = last_more o 1 0 cs x q

-- A last write that failed stays so, after more steps and as the log and the commands grow elsewhere.
pub still_failed : (past more : List Step) (cs ds : List IssuedCommand) (es fs : List LogEntry) (o : LogOwner) (number : ℕ) →
    ((k : ℕ) → list_any (reports_failure k) past ≡ true → list_any (reports_failure k) more ≡ true) → last_write ds o ≡ last_write cs o →
    ((x : IssuedCommand) → numbered cs (last_write cs o) ≡ Some x → numbered ds (last_write cs o) ≡ Some x) →
    latest fs o.client o.file o.page ≡ latest es o.client o.file o.page → LastFailed past cs es o number → LastFailed more ds fs o number
still_failed past more cs ds es fs o number up last stays late h =
    record {
      told = ap (λ k. list_any (reports_failure k) more) last ∙ up (last_write cs o) h.told;
      command = h.command;
      is = ap (numbered ds) last ∙ stays h.command h.is;
      number_is = h.number_is;
      first = h.first;
      carries = h.carries ∙ ap (λ i. Some (record { file = o.file; page = o.page; index = i })) (sym late);
    }

-- one more command that carries no entry of the owner
pub command_failed : (past : List Step) (cs : List IssuedCommand) (es : List LogEntry) (o : LogOwner) (number : ℕ) (x : IssuedCommand) →
    ev.carries_for o x x.carries ≡ false → LastFailed past cs es o number → LastFailed past (cs ++ x ∷ []) es o number
command_failed past cs es o number x none h =
    still_failed past past cs (cs ++ x ∷ []) es es o number (λ k t. t) (last_stays o cs x none) (λ y. numbered_old cs x (last_write cs o) y) refl h

-- one more entry that is not the client's to the page
pub entry_failed : (past : List Step) (cs : List IssuedCommand) (es : List LogEntry) (o : LogOwner) (number : ℕ) (e : LogEntry) →
    ev.is_entry_of o.client o.file o.page e ≡ false → LastFailed past cs es o number → LastFailed past cs (es ++ e ∷ []) o number
entry_failed past cs es o number e none h =
    still_failed past past cs cs es (es ++ e ∷ []) o number (λ k t. t) refl (λ y q. q) (latest_stays o.client o.file o.page es e none) h

-- The same after more steps, and in a log of which the latest entries are the same and nothing more is pending.
pub cared_fates : (past more : List Step) (cs : List IssuedCommand) (es fs : List LogEntry) (c : ClientId) (starts next : ℕ) (a : Association) → ((n : ℕ) → list_any (reports_failure n) past ≡ true → list_any (reports_failure n) more ≡ true) →
    ((f : FileId) (p : PageNo) → latest fs c f p ≡ latest es c f p) → (PendingAll (DirtyHere c a) es → PendingAll (DirtyHere c a) fs) → Cared past cs es c starts next a → Cared more cs fs c starts next a
cared_fates past more cs es fs c starts next a up same fewer h =
    record {
      entries = fewer h.entries;
      writes = λ pc i v q. let w = h.writes pc i v q in
          record {
            world = λ k x j s. let o = w.world k x j s in record { index = o.index; carries = o.carries; last = o.last; latest_is = λ y z u. o.latest_is y z u ∙ sym (same (file_at a pc.ino) pc.page) };
            low = w.low;
            link = w.link;
          };
      reads = h.reads;
      first = h.first;
      above = h.above;
      below = h.below;
      once = h.once;
      versions = h.versions;
      failed = λ ino p d n i q. fail ino p n (h.failed ino p d n i q);
    }
  where
    fail : (ino : ℕ) (p : PageNo) (n : ℕ) → (pages.is_being_written a.store.commands ino p ≡ true) ⊎ LastFailed past cs es (owner_at_page c a ino p) n →
        (pages.is_being_written a.store.commands ino p ≡ true) ⊎ LastFailed more cs fs (owner_at_page c a ino p) n
    fail ino p n (inl b) = inl b
    fail ino p n (inr b) = inr (still_failed past more cs cs es fs (owner_at_page c a ino p) n up refl (λ y q. q) (same (file_at a ino) p) b)

-- An entry elsewhere: of another page, or of another server.
pub entry_elsewhere : (past : List Step) (cs : List IssuedCommand) (es : List LogEntry) (c : ClientId) (starts next : ℕ) (a : Association) (e : LogEntry) → (log.is_pending e.fate ≡ true → DirtyHere c a e.of) →
    ((ino : ℕ) (p : PageNo) → ev.is_entry_of c (file_at a ino) p e ≡ false) → Cared past cs es c starts next a → Cared past cs (es ++ e ∷ []) c starts next a
entry_elsewhere past cs es c starts next a e d n h =
    record {
      entries = pending_more (DirtyHere c a) es e d h.entries;
      writes = λ pc i v q. let w = h.writes pc i v q in
          record {
            world = λ k x j s. let o = w.world k x j s in record { index = o.index; carries = o.carries; last = o.last; latest_is = λ y z u. o.latest_is y z u ∙ sym (latest_stays c (file_at a pc.ino) pc.page es e (n pc.ino pc.page)) };
            low = w.low;
            link = w.link;
          };
      reads = h.reads;
      first = h.first;
      above = h.above;
      below = h.below;
      once = h.once;
      versions = h.versions;
      failed = λ ino p d m i q. fail ino p m (h.failed ino p d m i q);
    }
  where
    fail : (ino : ℕ) (p : PageNo) (m : ℕ) → (pages.is_being_written a.store.commands ino p ≡ true) ⊎ LastFailed past cs es (owner_at_page c a ino p) m →
        (pages.is_being_written a.store.commands ino p ≡ true) ⊎ LastFailed past cs (es ++ e ∷ []) (owner_at_page c a ino p) m
    fail ino p m (inl b) = inl b
    fail ino p m (inr b) = inr (entry_failed past cs es (owner_at_page c a ino p) m e (n ino p) b)

-- A command elsewhere: it is none of those that are outstanding, and carries no entry of this association's owners.
pub command_beside : (past : List Step) (cs : List IssuedCommand) (es : List LogEntry) (c : ClientId) (starts next more : ℕ) (a : Association) (x : IssuedCommand) → next ≤ more → ((pc : PageCommand) → Has pc a.store.commands → IsIts c starts pc.number x → ⊥) →
    ((ino : ℕ) (p : PageNo) → ev.carries_for (owner_at_page c a ino p) x x.carries ≡ false) → Cared past cs es c starts next a → Cared past (cs ++ x ∷ []) es c starts more a
command_beside past cs es c starts next more a x up none n h =
    record {
      entries = h.entries;
      writes = λ pc i v q. let w = h.writes pc i v q in record { world = λ k y j s. write pc i v k y s (numbered_more cs x k y j) w; low = w.low; link = w.link };
      reads = λ pc i q k y j s. read pc i q k y s (numbered_more cs x k y j);
      first = let z = h.first in omega (arith, z, up);
      above = h.above;
      below = λ pc i. let z = h.below pc i in omega (arith, z, up);
      once = h.once;
      versions = h.versions;
      failed = λ ino p d m i q. fail ino p m (h.failed ino p d m i q);
    }
  where
    apart : (pc : PageCommand) → Has pc a.store.commands → (y : IssuedCommand) → y ≡ x → IsIts c starts pc.number y → ⊥
    apart pc i y e s = none pc i (subst (IsIts c starts pc.number) e s)

    write : (pc : PageCommand) → Has pc a.store.commands → (v k : ℕ) (y : IssuedCommand) → IsIts c starts pc.number y → (numbered cs k ≡ Some y) ⊎ ((k ≡ suc (length cs)) × (y ≡ x)) → WriteCared cs es c starts a pc v → Sent (cs ++ x ∷ []) es c a pc v k y
    write pc i v k y s (inl j) w = let o = w.world k y j s in record { index = o.index; carries = o.carries; last = last_stays (owner_at_page c a pc.ino pc.page) cs x (n pc.ino pc.page) ∙ o.last; latest_is = o.latest_is }
    write pc i v k y s (inr j) w = absurd (apart pc i y j.1 s)

    read : (pc : PageCommand) → Has pc a.store.commands → pc.kind ≡ io.Read → (k : ℕ) (y : IssuedCommand) → IsIts c starts pc.number y → (numbered cs k ≡ Some y) ⊎ ((k ≡ suc (length cs)) × (y ≡ x)) → y.carries ≡ None
    read pc i q k y s (inl j) = h.reads pc i q k y j s
    read pc i q k y s (inr j) = absurd (apart pc i y j.1 s)

    fail : (ino : ℕ) (p : PageNo) (m : ℕ) → (pages.is_being_written a.store.commands ino p ≡ true) ⊎ LastFailed past cs es (owner_at_page c a ino p) m →
        (pages.is_being_written a.store.commands ino p ≡ true) ⊎ LastFailed past (cs ++ x ∷ []) es (owner_at_page c a ino p) m
    fail ino p m (inl b) = inl b
    fail ino p m (inr b) = inr (command_failed past cs es (owner_at_page c a ino p) m x (n ino p) b)

-- It has the client's next number.
pub command_elsewhere : (past : List Step) (cs : List IssuedCommand) (es : List LogEntry) (c : ClientId) (starts next : ℕ) (a : Association) (x : IssuedCommand) → x.number ≡ next → ((ino : ℕ) (p : PageNo) → ev.carries_for (owner_at_page c a ino p) x x.carries ≡ false) →
    Cared past cs es c starts next a → Cared past (cs ++ x ∷ []) es c starts (next + 1) a
command_elsewhere past cs es c starts next a x num n h = command_beside past cs es c starts next (next + 1) a x (omega arith) (λ pc i s. let z = h.below pc i in let u = s.number_is in omega (arith, z, u, num)) n h

-- It is of another client.
pub command_other : (past : List Step) (cs : List IssuedCommand) (es : List LogEntry) (c : ClientId) (starts next : ℕ) (a : Association) (x : IssuedCommand) → (x.client.0 ≡ c.0 → ⊥) → Cared past cs es c starts next a → Cared past (cs ++ x ∷ []) es c starts next a
command_other past cs es c starts next a x n h = command_beside past cs es c starts next next a x (omega arith) (λ pc i s. n (ap (λ (d : ClientId). d.0) s.client)) (λ ino p. none ino p x.carries) h
  where
    none : (ino : ℕ) (p : PageNo) (o : Option Carried) → ev.carries_for (owner_at_page c a ino p) x o ≡ false
    none ino p None = refl
    none ino p (Some y) =
        ap (λ b. (b && (x.life.0 == a.life.0)) && (same_file y.file (file_at a ino) && same_page y.page p)) (ne_eqb x.client.0 c.0 n)

-- The association's own changes.

-- what is outstanding and dirty stays, by a store of the same dirty pages, commands and versions
pub store_same : (past : List Step) (cs : List IssuedCommand) (es : List LogEntry) (c : ClientId) (starts next : ℕ) (a b : Association) → a.server ≡ b.server → a.life ≡ b.life → a.store.pages.dirty ≡ b.store.pages.dirty → a.store.pages.next_version ≡ b.store.pages.next_version → a.store.commands ≡ b.store.commands →
    Cared past cs es c starts next a → Cared past cs es c starts next b
store_same past cs es c starts next a b s l d v k h =
    subst (λ (z : List PageCommand). Cared past cs es c starts next (at s2 l2 d2 v2 z)) k
    (subst (λ (z : ℕ). Cared past cs es c starts next (at s2 l2 d2 z k2)) v (subst (λ (z : List DirtyPage). Cared past cs es c starts next (at s2 l2 z v1 k2)) d (subst (λ (z : Life). Cared past cs es c starts next (at s2 z d1 v1 k2)) l (subst (λ (z : ServerId). Cared past cs es c starts next (at z l1 d1 v1 k2)) s (own h)))))
  where
    at : ServerId → Life → List DirtyPage → ℕ → List PageCommand → Association
    at s l d v k = record b { server = s; life = l; store = record b.store { pages = record b.store.pages { dirty = d; next_version = v }; commands = k } }

    s2 : ServerId
    s2 = b.server

    l1 : Life
    l1 = a.life

    l2 : Life
    l2 = b.life

    d1 : List DirtyPage
    d1 = a.store.pages.dirty

    d2 : List DirtyPage
    d2 = b.store.pages.dirty

    v1 : ℕ
    v1 = a.store.pages.next_version

    v2 : ℕ
    v2 = b.store.pages.next_version

    k2 : List PageCommand
    k2 = a.store.commands

    own : Cared past cs es c starts next a → Cared past cs es c starts next (at a.server l1 d1 v1 k2)
    own h =
        record {
          entries = h.entries;
          writes = λ pc i v q. let w = h.writes pc i v q in record { world = λ k x j s. let o = w.world k x j s in record { index = o.index; carries = o.carries; last = o.last; latest_is = o.latest_is }; low = w.low; link = w.link };
          reads = h.reads;
          first = h.first;
          above = h.above;
          below = h.below;
          once = h.once;
          versions = h.versions;
          failed = h.failed;
        }

-- what passes a test is left by a filter that keeps all such
pub any_kept : {A : Type 0} (q r : A → Bool) (xs : List A) → ((x : A) → q x ≡ true → r x ≡ true) → list_any q xs ≡ true → list_any q (filter r xs) ≡ true
any_kept q r [] k h = h
any_kept {A} q r (x ∷ xs) k h = go (q x) refl (r x) refl h (any_kept q r xs k)
  where
    go : (b : Bool) → q x ≡ b → (d : Bool) → r x ≡ d → (b || list_any q xs) ≡ true → (list_any q xs ≡ true → list_any q (filter r xs) ≡ true) → list_any q (if d then x ∷ filter r xs else filter r xs) ≡ true
    go true e true f h g = or_left (q x) (list_any q (filter r xs)) e
    go true e false f h g = absurd (not_both (r x) (k x e) f)
    go false e true f h g = or_right (q x) (list_any q (filter r xs)) (g h)
    go false e false f h g = g h

-- a page is changed: it is dirty with the next version, and its entry is the latest
pub written_cared : (past : List Step) (cs : List IssuedCommand) (es : List LogEntry) (c : ClientId) (starts next : ℕ) (a : Association) (f : FileId) (p : PageNo) (bytes : List ℕ) (ch : Change) → f.server ≡ a.server → Cared past cs es c starts next a →
    Cared past cs (es ++ log.pending (owner c a.life f p) ch ∷ []) c starts next
    (record a { store = record a.store { pages = pages.written a.store.pages f.ino p bytes; commands = pages.forget_read a.store.commands f.ino p } })
unfolding pages.written pages.forget_read
written_cared past cs es c starts next a f p bytes ch sv h =
    record {
      entries = pending_more (DirtyHere c b) es e (λ q u v w. (new, dirty_put new a.store.pages.dirty f.ino p true (self_place f.ino p))) (pending_map (DirtyHere c a) (DirtyHere c b) es (λ o d u v w. still o.file.ino o.page (d u v w)) h.entries);
      writes = λ pc i v q. write pc (has_filter keeps a.store.commands pc i).0 v q;
      reads = λ pc i. h.reads pc (has_filter keeps a.store.commands pc i).0;
      first = h.first;
      above = λ pc i. h.above pc (has_filter keeps a.store.commands pc i).0;
      below = λ pc i. h.below pc (has_filter keeps a.store.commands pc i).0;
      once = λ pc qc i j. h.once pc qc (has_filter keeps a.store.commands pc i).0 (has_filter keeps a.store.commands qc j).0;
      versions = λ ino q d i. version ino q d (Place_is f.ino p ino q) refl i;
      failed = λ ino q d n i w. fail ino q d n (Place_is f.ino p ino q) refl i w;
    }
  where
    b : Association
    b = record a { store = record a.store { pages = pages.written a.store.pages f.ino p bytes; commands = pages.forget_read a.store.commands f.ino p } }

    e : LogEntry
    e = log.pending (owner c a.life f p) ch

    new : DirtyPage
    new = pages.new_dirty a.store.pages f.ino p bytes

    keeps : PageCommand → Bool
    keeps x = not (pages.is_read_of f.ino p x)

    now : ℕ → PageNo → Option DirtyPage
    now ino q = find (pages.is_dirty_of ino q) (put (pages.is_dirty_of f.ino p) new a.store.pages.dirty)

    still : (ino : ℕ) (q : PageNo) → (d : DirtyPage) × (pages.dirty_of a.store.pages ino q ≡ Some d) → (d : DirtyPage) × (now ino q ≡ Some d)
    still ino q (d, i) = go (Place_is f.ino p ino q) refl
      where
        go : (x : Bool) → Place_is f.ino p ino q ≡ x → (d : DirtyPage) × (now ino q ≡ Some d)
        go true z = (new, dirty_put new a.store.pages.dirty ino q true z)
        go false z = (d, dirty_put new a.store.pages.dirty ino q false z ∙ i)

    its : (ino : ℕ) (q : PageNo) (d : DirtyPage) → Place_is f.ino p ino q ≡ true → now ino q ≡ Some d → d ≡ new
    its ino q d z i = some_is (sym i ∙ dirty_put new a.store.pages.dirty ino q true z)

    old : (ino : ℕ) (q : PageNo) (d : DirtyPage) → Place_is f.ino p ino q ≡ false → now ino q ≡ Some d → pages.dirty_of a.store.pages ino q ≡ Some d
    old ino q d z i = sym (dirty_put new a.store.pages.dirty ino q false z) ∙ i

    version : (ino : ℕ) (q : PageNo) (d : DirtyPage) (x : Bool) → Place_is f.ino p ino q ≡ x → now ino q ≡ Some d → d.version < a.store.pages.next_version + 1
    version ino q d true z i = let v = ap (λ (y : DirtyPage). y.version) (its ino q d z i) in omega (arith, v)
    version ino q d false z i = let v = h.versions ino q d (old ino q d z i) in omega (arith, v)

    none_some : (n : ℕ) → ◌≡◌ {A = Option ℕ} None (Some n) → ⊥
    none_some n z = cc

    no_entry : (ino : ℕ) (q : PageNo) → Place_is f.ino p ino q ≡ false → ev.is_entry_of c (file_at a ino) q e ≡ false
    no_entry ino q z = three (same_client c c) (same_server f.server a.server) (f.ino == ino) (same_page p q) z
      where
        three : (x y u t : Bool) → (u && t) ≡ false → (x && ((y && u) && t)) ≡ false
        three true true u t z = z
        three true false u t z = refl
        three false y u t z = refl

    fail : (ino : ℕ) (q : PageNo) (d : DirtyPage) (n : ℕ) (x : Bool) → Place_is f.ino p ino q ≡ x → now ino q ≡ Some d → d.failed ≡ Some n →
        (pages.is_being_written (filter keeps a.store.commands) ino q ≡ true) ⊎ LastFailed past cs (es ++ e ∷ []) (owner_at_page c a ino q) n
    fail ino q d n true z i w = absurd (none_some n (sym (ap (λ (y : DirtyPage). y.failed) (its ino q d z i)) ∙ w))
    fail ino q d n false z i w = kept (h.failed ino q d n (old ino q d z i) w)
      where
        writes_stay : (x : PageCommand) → pages.is_write_of ino q x ≡ true → keeps x ≡ true
        writes_stay x u = go (pages.is_write x.kind) (and_true (pages.is_write x.kind) ((x.ino == ino) && same_page x.page q) u).0
          where
            go : (y : Bool) → y ≡ true → not (not y && ((x.ino == f.ino) && same_page x.page p)) ≡ true
            go true v = refl
            go false v = cc

        kept : (pages.is_being_written a.store.commands ino q ≡ true) ⊎ LastFailed past cs es (owner_at_page c a ino q) n →
            (pages.is_being_written (filter keeps a.store.commands) ino q ≡ true) ⊎ LastFailed past cs (es ++ e ∷ []) (owner_at_page c a ino q) n
        kept (inl v) = inl (any_kept (pages.is_write_of ino q) keeps a.store.commands writes_stay v)
        kept (inr v) = inr (entry_failed past cs es (owner_at_page c a ino q) n e (no_entry ino q z) v)

    write : (pc : PageCommand) → Has pc a.store.commands → (v : ℕ) → pc.kind ≡ io.Write v → WriteCared cs (es ++ e ∷ []) c starts b pc v
    write pc i v q =
        let w = h.writes pc i v q in
        record {
          world = λ k x j s. let o = w.world k x j s in record { index = o.index; carries = o.carries; last = o.last; latest_is = λ d y z. late (Place_is f.ino p pc.ino pc.page) refl w.low o.index o.latest_is d y z };
          low = let z = w.low in omega (arith, z);
          link = λ d y. linked (Place_is f.ino p pc.ino pc.page) refl d y w.link;
        }
      where
        late : (x : Bool) → Place_is f.ino p pc.ino pc.page ≡ x → v < a.store.pages.next_version → (index : ℕ) → ((d : DirtyPage) → pages.dirty_of a.store.pages pc.ino pc.page ≡ Some d → d.version ≡ v → index ≡ latest es c (file_at a pc.ino) pc.page) →
            (d : DirtyPage) → now pc.ino pc.page ≡ Some d → d.version ≡ v → index ≡ latest (es ++ e ∷ []) c (file_at a pc.ino) pc.page
        late true z low index g d y u = let n = ap (λ (k : DirtyPage). k.version) (its pc.ino pc.page d z y) in absurd (omega (arith, low, n, u))
        late false z low index g d y u = g d (old pc.ino pc.page d z y) u ∙ sym (latest_stays c (file_at a pc.ino) pc.page es e (no_entry pc.ino pc.page z))

        linked : (x : Bool) → Place_is f.ino p pc.ino pc.page ≡ x → (d : DirtyPage) → now pc.ino pc.page ≡ Some d → ((d : DirtyPage) → pages.dirty_of a.store.pages pc.ino pc.page ≡ Some d → (d.version ≡ v) ⊎ (d.failed ≡ None)) → (d.version ≡ v) ⊎ (d.failed ≡ None)
        linked true z d y g = inr (ap (λ (k : DirtyPage). k.failed) (its pc.ino pc.page d z y))
        linked false z d y g = g d (old pc.ino pc.page d z y)

-- one more command that carries an entry of an owner is its last write
last_new : (o : LogOwner) (n before : ℕ) (cs : List IssuedCommand) (x : IssuedCommand) → ev.carries_for o x x.carries ≡ true → ev.last_write_from n before o (cs ++ x ∷ []) ≡ n + length cs
unfolding ev.last_write_from ev.last_write_at
last_new o n before [] x e = ap (λ b. if b then n else before) e ∙ (let z : n ≡ n + 0 = omega arith in z)
last_new o n before (c ∷ cs) x e = last_new o (n + 1) (ev.last_write_at o n before c) cs x e ∙ (let z : (n + 1) + length cs ≡ n + suc (length cs) = omega arith in z)

pub any_front : (q : PageCommand → Bool) (xs ys : List PageCommand) → list_any q xs ≡ true → list_any q (xs ++ ys) ≡ true
any_front q [] ys h = cc
any_front q (x ∷ xs) ys h = go (q x) h (any_front q xs ys)
  where
    go : (b : Bool) → (b || list_any q xs) ≡ true → (list_any q xs ≡ true → list_any q (xs ++ ys) ≡ true) → (b || list_any q (xs ++ ys)) ≡ true
    go true h f = refl
    go false h f = f h

last_is_new : (o : LogOwner) (cs : List IssuedCommand) (x : IssuedCommand) → ev.carries_for o x x.carries ≡ true → last_write (cs ++ x ∷ []) o ≡ suc (length cs)
unfolding last_write
last_is_new o cs x e = last_new o 1 0 cs x e ∙ (let z : 1 + length cs ≡ suc (length cs) = omega arith in z)

own_owner : (c : ClientId) (l : Life) (f : FileId) (p : PageNo) → log.same_owner (owner c l f p) (owner c l f p) ≡ true
own_owner c l f p = and_both (same_client c c && (l.0 == l.0)) (same_file f f && same_page p p) (and_both (same_client c c) (l.0 == l.0) (eq-eqb c.0 c.0 refl) (eq-eqb l.0 l.0 refl))
    (and_both (same_file f f) (same_page p p) (and_both (same_server f.server f.server) (f.ino == f.ino) (eq-eqb f.server.0 f.server.0 refl) (eq-eqb f.ino f.ino refl)) (eq-eqb p.0 p.0 refl))

pub any_back : (q : PageCommand → Bool) (xs : List PageCommand) (y : PageCommand) → q y ≡ true → list_any q (xs ++ y ∷ []) ≡ true
any_back q [] y h = or_left (q y) false h
any_back q (x ∷ xs) y h = or_right (q x) (list_any q (xs ++ y ∷ [])) (any_back q xs y h)

-- a write of a dirty page is submitted: it is outstanding, and its owner's last write
pub submitted_cared : (past : List Step) (cs : List IssuedCommand) (es : List LogEntry) (c : ClientId) (starts next : ℕ) (a : Association) (ino : ℕ) (p : PageNo) (d : DirtyPage) (x : IssuedCommand) → pages.dirty_of a.store.pages ino p ≡ Some d → d.ino ≡ ino → d.page ≡ p →
    pages.is_being_written a.store.commands d.ino d.page ≡ false → x.number ≡ next → x.client ≡ c → x.life ≡ a.life → x.carries ≡ Some (record { file = file_at a d.ino; page = d.page; index = latest es c (file_at a d.ino) d.page }) → NumbersBelow cs c starts next → Cared past cs es c starts next a →
    Cared past (cs ++ x ∷ []) es c starts (next + 1) (record a { store = record a.store { commands = pages.begin_command a.store.commands next d.ino d.page (io.Write d.version) } })
unfolding pages.begin_command
submitted_cared past cs es c starts next a ino p d x is di dp free num xc xl car nb h =
    record {
      entries = h.entries;
      writes = λ pc i v q. writes pc v q (has_append a.store.commands (new ∷ []) pc i);
      reads = λ pc i q k y j s. reads pc q k y j s (has_append a.store.commands (new ∷ []) pc i);
      first = omega arith;
      above = λ pc i. above pc (has_append a.store.commands (new ∷ []) pc i);
      below = λ pc i. below pc (has_append a.store.commands (new ∷ []) pc i);
      once = λ pc qc i j v u q r m n. once pc qc v u q r m n (has_append a.store.commands (new ∷ []) pc i) (has_append a.store.commands (new ∷ []) qc j);
      versions = h.versions;
      failed = λ j q e n i w. fail j q n (Place_is d.ino d.page j q) refl (λ z. h.failed j q e n i w);
    }
  where
    new : PageCommand
    new = pages.page_command next d.ino d.page (io.Write d.version)

    carries_is : (o : LogOwner) → ev.carries_for o x x.carries ≡ log.same_owner (owner x.client x.life (file_at a d.ino) d.page) o
    carries_is o = ap (ev.carries_for o x) car

    mine : (o : LogOwner) → log.same_owner (owner x.client x.life (file_at a d.ino) d.page) o ≡ log.same_owner (owner c a.life (file_at a d.ino) d.page) o
    mine o = ap (λ z. log.same_owner (owner z x.life (file_at a d.ino) d.page) o) xc ∙ ap (λ z. log.same_owner (owner c z (file_at a d.ino) d.page) o) xl

    -- it carries no entry of another page
    other : (j : ℕ) (q : PageNo) → Place_is d.ino d.page j q ≡ false → ev.carries_for (owner_at_page c a j q) x x.carries ≡ false
    other j q z = carries_is (owner_at_page c a j q) ∙ mine (owner_at_page c a j q) ∙ four (same_client c c && (a.life.0 == a.life.0)) (same_server a.server a.server) (d.ino == j) (same_page d.page q) z
      where
        four : (t u v w : Bool) → (v && w) ≡ false → (t && ((u && v) && w)) ≡ false
        four true true v w z = z
        four true false v w z = refl
        four false u v w z = refl

    -- an outstanding write is of another page
    apart : (pc : PageCommand) → Has pc a.store.commands → (v : ℕ) → pc.kind ≡ io.Write v → Place_is d.ino d.page pc.ino pc.page ≡ false
    apart pc i v q = go (Place_is d.ino d.page pc.ino pc.page) refl
      where
        no : (b : Bool) → b ≡ true → b ≡ false → ⊥
        no true a b = cc
        no false a b = cc

        go : (b : Bool) → Place_is d.ino d.page pc.ino pc.page ≡ b → b ≡ false
        go false z = refl
        go true z =
            let o = one_place d.ino d.page pc.ino pc.page z in
            absurd (no (pages.is_write_of d.ino d.page pc) (ap (λ k. pages.is_write k && Place_is pc.ino pc.page d.ino d.page) q ∙ subst (λ j. Place_is j pc.page d.ino d.page ≡ true) o.0 (subst (λ r. Place_is d.ino r d.ino d.page ≡ true) o.1 (self_place d.ino d.page)))
            (none_passes (pages.is_write_of d.ino d.page) a.store.commands free pc i))

    old_number : (pc : PageCommand) → Has pc a.store.commands → (y : IssuedCommand) → y ≡ x → IsIts c starts pc.number y → ⊥
    old_number pc i y e s = let z = h.below pc i in let u = s.number_is in let v = ap (λ (w : IssuedCommand). w.number) e in omega (arith, z, u, v, num)

    new_number : (k : ℕ) (y : IssuedCommand) → numbered cs k ≡ Some y → IsIts c starts next y → ⊥
    new_number k y j s = let z = nb y (numbered_has cs k y j) s.client s.instance_ in let u = s.number_is in omega (arith, z, u)

    b : Association
    b = record a { store = record a.store { commands = a.store.commands ++ new ∷ [] } }

    own_last : last_write (cs ++ x ∷ []) (owner_at_page c a d.ino d.page) ≡ suc (length cs)
    own_last = last_is_new (owner_at_page c a d.ino d.page) cs x (carries_is (owner_at_page c a d.ino d.page) ∙ mine (owner_at_page c a d.ino d.page) ∙ own_owner c a.life (file_at a d.ino) d.page)

    old_write : (pc : PageCommand) → Has pc a.store.commands → (v : ℕ) → pc.kind ≡ io.Write v → WriteCared cs es c starts a pc v → WriteCared (cs ++ x ∷ []) es c starts b pc v
    old_write pc i v q w = record { world = λ k y j s. at k y s (numbered_more cs x k y j); low = w.low; link = w.link }
      where
        at : (k : ℕ) (y : IssuedCommand) → IsIts c starts pc.number y → (numbered cs k ≡ Some y) ⊎ ((k ≡ suc (length cs)) × (y ≡ x)) → Sent (cs ++ x ∷ []) es c b pc v k y
        at k y s (inl j) = let o = w.world k y j s in record { index = o.index; carries = o.carries; last = last_stays (owner_at_page c a pc.ino pc.page) cs x (other pc.ino pc.page (apart pc i v q)) ∙ o.last; latest_is = o.latest_is }
        at k y s (inr j) = absurd (old_number pc i y j.1 s)

    new_write : (v : ℕ) → io.Write d.version ≡ io.Write v → WriteCared (cs ++ x ∷ []) es c starts b new v
    new_write v q =
        record {
          world = λ k y j s. at k y s (numbered_more cs x k y j);
          low = let z = h.versions ino p d is in let u = kind_is q in omega (arith, z, u);
          link = λ e i. inl (ap (λ (w : DirtyPage). w.version) (some_is (sym i ∙ here)) ∙ kind_is q);
        }
      where
        kind_is : io.Write d.version ≡ io.Write v → d.version ≡ v
        kind_is z = cc

        here : pages.dirty_of a.store.pages d.ino d.page ≡ Some d
        here = ap (λ j. pages.dirty_of a.store.pages j d.page) di ∙ ap (λ r. pages.dirty_of a.store.pages ino r) dp ∙ is

        at : (k : ℕ) (y : IssuedCommand) → IsIts c starts next y → (numbered cs k ≡ Some y) ⊎ ((k ≡ suc (length cs)) × (y ≡ x)) → Sent (cs ++ x ∷ []) es c b new v k y
        at k y s (inl j) = absurd (new_number k y j s)
        at k y s (inr j) = record { index = latest es c (file_at a d.ino) d.page; carries = ap (λ (w : IssuedCommand). w.carries) j.1 ∙ car; last = own_last ∙ sym j.0; latest_is = λ e i u. refl }

    writes : (pc : PageCommand) (v : ℕ) → pc.kind ≡ io.Write v → Has pc a.store.commands ⊎ Has pc (new ∷ []) → WriteCared (cs ++ x ∷ []) es c starts b pc v
    writes pc v q (inl i) = old_write pc i v q (h.writes pc i v q)
    writes pc v q (inr (inl e)) = subst (λ z. WriteCared (cs ++ x ∷ []) es c starts b z v) (sym e) (new_write v (ap (λ (z : PageCommand). z.kind) (sym e) ∙ q))
    writes pc v q (inr (inr e)) = absurd e

    reads : (pc : PageCommand) → pc.kind ≡ io.Read → (k : ℕ) (y : IssuedCommand) → numbered (cs ++ x ∷ []) k ≡ Some y → IsIts c starts pc.number y → Has pc a.store.commands ⊎ Has pc (new ∷ []) → y.carries ≡ None
    reads pc q k y j s (inl i) = at (numbered_more cs x k y j)
      where
        at : (numbered cs k ≡ Some y) ⊎ ((k ≡ suc (length cs)) × (y ≡ x)) → y.carries ≡ None
        at (inl j) = h.reads pc i q k y j s
        at (inr j) = absurd (old_number pc i y j.1 s)
    reads pc q k y j s (inr (inl e)) = absurd (no (sym (ap (λ (z : PageCommand). z.kind) e) ∙ q))
      where
        no : io.Write d.version ≡ io.Read → ⊥
        no z = cc
    reads pc q k y j s (inr (inr e)) = absurd e

    above : (pc : PageCommand) → Has pc a.store.commands ⊎ Has pc (new ∷ []) → 1 ≤ pc.number
    above pc (inl i) = h.above pc i
    above pc (inr (inl e)) = let z = ap (λ (w : PageCommand). w.number) e in let y = h.first in omega (arith, z, y)
    above pc (inr (inr e)) = absurd e

    below : (pc : PageCommand) → Has pc a.store.commands ⊎ Has pc (new ∷ []) → pc.number < next + 1
    below pc (inl i) = let z = h.below pc i in omega (arith, z)
    below pc (inr (inl e)) = let z = ap (λ (w : PageCommand). w.number) e in omega (arith, z)
    below pc (inr (inr e)) = absurd e

    not_both : (pc : PageCommand) → Has pc a.store.commands → (v : ℕ) → pc.kind ≡ io.Write v → pc.ino ≡ d.ino → pc.page ≡ d.page → ⊥
    not_both pc i v q m n = no (Place_is d.ino d.page pc.ino pc.page) (subst (λ j. Place_is d.ino d.page j pc.page ≡ true) (sym m) (subst (λ r. Place_is d.ino d.page d.ino r ≡ true) (sym n) (self_place d.ino d.page))) (apart pc i v q)
      where
        no : (b : Bool) → b ≡ true → b ≡ false → ⊥
        no true a b = cc
        no false a b = cc

    once : (pc qc : PageCommand) (v u : ℕ) → pc.kind ≡ io.Write v → qc.kind ≡ io.Write u → pc.ino ≡ qc.ino → pc.page ≡ qc.page → Has pc a.store.commands ⊎ Has pc (new ∷ []) → Has qc a.store.commands ⊎ Has qc (new ∷ []) → pc.number ≡ qc.number
    once pc qc v u q r m n (inl i) (inl j) = h.once pc qc i j v u q r m n
    once pc qc v u q r m n (inl i) (inr (inl e)) = absurd (not_both pc i v q (m ∙ ap (λ (z : PageCommand). z.ino) e) (n ∙ ap (λ (z : PageCommand). z.page) e))
    once pc qc v u q r m n (inl i) (inr (inr e)) = absurd e
    once pc qc v u q r m n (inr (inl e)) (inl j) = absurd (not_both qc j u r (sym m ∙ ap (λ (z : PageCommand). z.ino) e) (sym n ∙ ap (λ (z : PageCommand). z.page) e))
    once pc qc v u q r m n (inr (inl e)) (inr (inl f)) = ap (λ (z : PageCommand). z.number) (e ∙ sym f)
    once pc qc v u q r m n (inr (inl e)) (inr (inr f)) = absurd f
    once pc qc v u q r m n (inr (inr e)) j = absurd e

    fail : (j : ℕ) (q : PageNo) (n : ℕ) (t : Bool) → Place_is d.ino d.page j q ≡ t → (t ≡ false → (pages.is_being_written a.store.commands j q ≡ true) ⊎ LastFailed past cs es (owner_at_page c a j q) n) →
        (pages.is_being_written (a.store.commands ++ new ∷ []) j q ≡ true) ⊎ LastFailed past (cs ++ x ∷ []) es (owner_at_page c a j q) n
    fail j q n true z g = inl (any_back (pages.is_write_of j q) a.store.commands new z)
    fail j q n false z g = kept (g refl)
      where
        kept : (pages.is_being_written a.store.commands j q ≡ true) ⊎ LastFailed past cs es (owner_at_page c a j q) n →
            (pages.is_being_written (a.store.commands ++ new ∷ []) j q ≡ true) ⊎ LastFailed past (cs ++ x ∷ []) es (owner_at_page c a j q) n
        kept (inl w) = inl (any_front (pages.is_write_of j q) a.store.commands (new ∷ []) w)
        kept (inr w) = inr (command_failed past cs es (owner_at_page c a j q) n x (other j q z) w)

-- a read is submitted: it is outstanding, and carries nothing
pub read_cared : (past : List Step) (cs : List IssuedCommand) (es : List LogEntry) (c : ClientId) (starts next : ℕ) (a : Association) (ino : ℕ) (p : PageNo) (x : IssuedCommand) → x.number ≡ next → x.carries ≡ None → NumbersBelow cs c starts next → Cared past cs es c starts next a →
    Cared past (cs ++ x ∷ []) es c starts (next + 1) (record a { store = record a.store { commands = pages.begin_command a.store.commands next ino p io.Read } })
unfolding pages.begin_command
read_cared past cs es c starts next a ino p x num none nb h =
    record {
      entries = h.entries;
      writes = λ pc i v q. writes pc v q (has_append a.store.commands (new ∷ []) pc i);
      reads = λ pc i q k y j s. reads pc q k y j s (has_append a.store.commands (new ∷ []) pc i);
      first = omega arith;
      above = λ pc i. above pc (has_append a.store.commands (new ∷ []) pc i);
      below = λ pc i. below pc (has_append a.store.commands (new ∷ []) pc i);
      once = λ pc qc i j v u q r m n. once pc qc v u q r m n (has_append a.store.commands (new ∷ []) pc i) (has_append a.store.commands (new ∷ []) qc j);
      versions = h.versions;
      failed = λ j q d n i w. fail j q n (g.failed j q d n i w);
    }
  where
    new : PageCommand
    new = pages.page_command next ino p io.Read

    b : Association
    b = record a { store = record a.store { commands = a.store.commands ++ new ∷ [] } }

    g : Cared past (cs ++ x ∷ []) es c starts (next + 1) a
    g = command_elsewhere past cs es c starts next a x num (λ j q. ap (ev.carries_for (owner_at_page c a j q) x) none) h

    no_write : (pc : PageCommand) (v : ℕ) → pc ≡ new → pc.kind ≡ io.Write v → ⊥
    no_write pc v e q = no (sym (ap (λ (z : PageCommand). z.kind) e) ∙ q)
      where
        no : io.Read ≡ io.Write v → ⊥
        no z = cc

    writes : (pc : PageCommand) (v : ℕ) → pc.kind ≡ io.Write v → Has pc a.store.commands ⊎ Has pc (new ∷ []) → WriteCared (cs ++ x ∷ []) es c starts b pc v
    writes pc v q (inl i) = let w = g.writes pc i v q in record { world = λ k y j s. let o = w.world k y j s in record { index = o.index; carries = o.carries; last = o.last; latest_is = o.latest_is }; low = w.low; link = w.link }
    writes pc v q (inr (inl e)) = absurd (no_write pc v e q)
    writes pc v q (inr (inr e)) = absurd e

    reads : (pc : PageCommand) → pc.kind ≡ io.Read → (k : ℕ) (y : IssuedCommand) → numbered (cs ++ x ∷ []) k ≡ Some y → IsIts c starts pc.number y → Has pc a.store.commands ⊎ Has pc (new ∷ []) → y.carries ≡ None
    reads pc q k y j s (inl i) = g.reads pc i q k y j s
    reads pc q k y j s (inr (inl e)) = at (numbered_more cs x k y j)
      where
        at : (numbered cs k ≡ Some y) ⊎ ((k ≡ suc (length cs)) × (y ≡ x)) → y.carries ≡ None
        at (inl j) = let z = nb y (numbered_has cs k y j) s.client s.instance_ in let u = s.number_is in let w = ap (λ (m : PageCommand). m.number) e in absurd (omega (arith, z, u, w))
        at (inr j) = ap (λ (w : IssuedCommand). w.carries) j.1 ∙ none
    reads pc q k y j s (inr (inr e)) = absurd e

    above : (pc : PageCommand) → Has pc a.store.commands ⊎ Has pc (new ∷ []) → 1 ≤ pc.number
    above pc (inl i) = h.above pc i
    above pc (inr (inl e)) = let z = ap (λ (w : PageCommand). w.number) e in let y = h.first in omega (arith, z, y)
    above pc (inr (inr e)) = absurd e

    below : (pc : PageCommand) → Has pc a.store.commands ⊎ Has pc (new ∷ []) → pc.number < next + 1
    below pc (inl i) = g.below pc i
    below pc (inr (inl e)) = let z = ap (λ (w : PageCommand). w.number) e in omega (arith, z)
    below pc (inr (inr e)) = absurd e

    once : (pc qc : PageCommand) (v u : ℕ) → pc.kind ≡ io.Write v → qc.kind ≡ io.Write u → pc.ino ≡ qc.ino → pc.page ≡ qc.page → Has pc a.store.commands ⊎ Has pc (new ∷ []) → Has qc a.store.commands ⊎ Has qc (new ∷ []) → pc.number ≡ qc.number
    once pc qc v u q r m n (inl i) (inl j) = h.once pc qc i j v u q r m n
    once pc qc v u q r m n (inl i) (inr (inl e)) = absurd (no_write qc u e r)
    once pc qc v u q r m n (inl i) (inr (inr e)) = absurd e
    once pc qc v u q r m n (inr (inl e)) j = absurd (no_write pc v e q)
    once pc qc v u q r m n (inr (inr e)) j = absurd e

    fail : (j : ℕ) (q : PageNo) (n : ℕ) → (pages.is_being_written a.store.commands j q ≡ true) ⊎ LastFailed past (cs ++ x ∷ []) es (owner_at_page c a j q) n →
        (pages.is_being_written (a.store.commands ++ new ∷ []) j q ≡ true) ⊎ LastFailed past (cs ++ x ∷ []) es (owner_at_page c a j q) n
    fail j q n (inl w) = inl (any_front (pages.is_write_of j q) a.store.commands (new ∷ []) w)
    fail j q n (inr w) = inr w
