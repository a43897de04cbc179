-- The operations keep the pages as the log has them, and answer reads by it.
use Rattle.st_lemmas.proofs.Words
use Words.{◌≡◌, ℕ, ◌+◌, ◌≤◌, ◌⊎◌, Bool, true, false, not, ◌&&◌, ◌||◌, List, [], ◌∷◌, ◌++◌, ◌==◌, Option, Some, None, Ok, Err, refl, sym, ap, ◌∙◌, subst, inl}
use Words.{inr, arith, if◌then◌else◌, leb-true, find, filter, map, is_some, eqb-true, eq-eqb, ClientId, ServerId, Life, FileId, PageNo, Stamp, Ask, AppAnswer}
use Words.{Note, Output, DirtyPage, CleanPage, KnownExtent, MappedBlock, Operation, LogEntry, list_all, list_any, PageCommand, IoKind, Ended, Tag}
use Words.modes
use Words.Page.{filled}
use Words.asks
use Words.answers
use Words.notes
use Words.outputs
use Words.io
use Words.writing as refusals
use Words.Keys.{same_file, same_page, same_server, put}
use Words.FlatLog as log
use Words.FlatLog.{content, overlay, is_of_life}
use Words.changes
use Words.Events.{is_hard_fate}
use Words.ClientLocks.{lock_of}
use Words.ClientPages as pages
use Words.ClientPages.{Pages, Store, is_dirty_of, is_clean_of, dirty_of, clean_of, known_of}
use Words.ClientState as st
use Words.ClientState.{ClientSession, Turn, with_session, with_store, note, is_of, is_open_file, file_of, server_of, keep}
use Words.ClientPasses as cp
use Words.Client as cl
use Words.ends
use Words.Safety.{IsLastRead, is_hard_of}
use Words.Lookups.{if_true, if_false, some_is, any_filter, any_last}
use Words.Tables.{and_both, and_true, not_true}
use Words.Tests.{found_passes}
use Words.Truth.{not_both}
use Rattle.st_laws_refine.proofs.Client.Work.{any_found, same_mode}
use Rattle.st_laws_refine.specs.Views.Halves.{held_in}
use Rattle.st_laws_refine.specs.Client.World.{logged, logged_note}
use Rattle.st_laws_reads.specs.Copies.Copies.{RightOne, RightBehind, Noted, last_of, HardRight, FatesOk, HardOn, PageOk, AskedSo, file_at, Copies, Keeps}
use Rattle.st_laws_reads.specs.Copies.Law.{OperationsKeepCopies}
use Rattle.st_lemmas.proofs.Contents.{content_write, content_patch, find_cut, find_stays, find_take, Place_is, one_place, self_place, other_place}
use Rattle.st_lemmas.proofs.Puts.{find_put, find_put_by, find_put_other}
use Rattle.st_laws_reads.proofs.Copies.Logs.{logged_both, right_both, last_end, still, away_then, away_out, away_entry}

pub none_some : {A : Type 0} (o : Option A) (v : A) → o ≡ None → o ≡ Some v → ⊥
none_some o v e f = cc

-- the newest clean page, and those before it
pub newest_is : (most : ℕ) (y : CleanPage) (clean : List CleanPage) (ino : ℕ) (q : PageNo) (z : CleanPage) →
    find (is_clean_of ino q) (pages.with_newest most y clean) ≡ Some z →
    ((Place_is y.ino y.page ino q ≡ true) × (z ≡ y)) ⊎ ((Place_is y.ino y.page ino q ≡ false) × (find (is_clean_of ino q) clean ≡ Some z))
newest_is most y clean ino q z e = go (Place_is y.ino y.page ino q) refl (find_take (is_clean_of ino q) most (y ∷ pages.without_clean y.ino y.page clean) z e)
  where
    go : (b : Bool) → Place_is y.ino y.page ino q ≡ b → (if b then Some y else find (is_clean_of ino q) (pages.without_clean y.ino y.page clean)) ≡ Some z →
        ((Place_is y.ino y.page ino q ≡ true) × (z ≡ y)) ⊎ ((Place_is y.ino y.page ino q ≡ false) × (find (is_clean_of ino q) clean ≡ Some z))
    go true f h = inl (f, sym (some_is h))
    go false f h = inr (f, sym (find_stays (is_clean_of ino q) (is_clean_of y.ino y.page) (λ c g. other_place y.ino y.page ino q f c.ino c.page g) clean) ∙ h)

-- a page that was just changed, and the others
own_ok : (x : Store) (held : ℕ) (ino : ℕ) (p : PageNo) (bytes : List ℕ) → 2 ≤ held → pages.is_mapped x.extents ino p ≡ true →
    PageOk held bytes (record x { pages = pages.written x.pages ino p bytes; commands = pages.forget_read x.commands ino p }) ino p
unfolding pages.written pages.forget_read
own_ok x held ino p bytes h m =
    record {
      mode = λ d e. h;
      dirty = λ d e. ap (λ (d : DirtyPage). d.bytes) (some_is (sym e ∙ found));
      clean = λ y e l. absurd (none_some _ y (find_cut (is_clean_of ino p) (is_clean_of ino p) (λ c f. f) x.pages.clean) e);
      unmapped = λ e k n l. absurd (not_mapped e k n);
      locked = λ y e. absurd (none_some _ y (find_cut (is_clean_of ino p) (is_clean_of ino p) (λ c f. f) x.pages.clean) e);
      known = λ e k. omega (arith, h);
      reading = λ e. omega (arith, h);
    }
  where
    found : find (is_dirty_of ino p) (put (is_dirty_of ino p) (pages.new_dirty x.pages ino p bytes) x.pages.dirty) ≡ Some (pages.new_dirty x.pages ino p bytes)
    found = find_put (is_dirty_of ino p) (pages.new_dirty x.pages ino p bytes) x.pages.dirty (self_place ino p)

    not_mapped : (e : KnownExtent) → known_of x.extents ino p ≡ Some e → e.mapping ≡ None → ⊥
    not_mapped e k n = let z : is_some (pages.mapping_of x.extents ino p) ≡ false = ap (λ o. is_some (pages.mapping_at o)) k ∙ ap (λ o. is_some o) n in
        let w = sym z ∙ m in cc

other_ok : (x : Store) (held : ℕ) (now : List ℕ) (ino : ℕ) (p : PageNo) (bytes : List ℕ) (j : ℕ) (q : PageNo) → Place_is ino p j q ≡ false →
    PageOk held now x j q → PageOk held now (record x { pages = pages.written x.pages ino p bytes; commands = pages.forget_read x.commands ino p }) j q
unfolding pages.written pages.forget_read
other_ok x held now ino p bytes j q n ok =
    record {
      mode = λ d e. ok.mode d (sym same ∙ e);
      dirty = λ d e. ok.dirty d (sym same ∙ e);
      clean = λ y e l. ok.clean y (sym gone ∙ e) l;
      unmapped =
          ok.unmapped;
      locked = λ y e. ok.locked y (sym gone ∙ e);
      known = ok.known;
      reading =
          λ e. ok.reading (any_filter (pages.is_read_of j q) _ x.commands e);
    }
  where
    same : find (is_dirty_of j q) (put (is_dirty_of ino p) (pages.new_dirty x.pages ino p bytes) x.pages.dirty) ≡ find (is_dirty_of j q) x.pages.dirty
    same = find_put_other (is_dirty_of j q) (is_dirty_of ino p) (pages.new_dirty x.pages ino p bytes) x.pages.dirty n
        (λ d e. other_place ino p j q n d.ino d.page e)

    gone : find (is_clean_of j q) (filter (λ c. not (is_clean_of ino p c)) x.pages.clean) ≡ find (is_clean_of j q) x.pages.clean
    gone = find_stays (is_clean_of j q) (is_clean_of ino p) (λ c e. other_place ino p j q n c.ino c.page e) x.pages.clean

pub fates_more : (c : ClientId) (life : Life) (sv : ServerId) (x y : Store) (l : List LogEntry) →
    ((ino : ℕ) (p : PageNo) → is_some (dirty_of x.pages ino p) ≡ true → is_some (dirty_of y.pages ino p) ≡ true) → FatesOk c life sv x l → FatesOk c life sv y l
fates_more c life sv x y [] g r = r
fates_more c life sv x y (e ∷ l) g r = record { one = λ h. go (r.one h); rest = fates_more c life sv x y l g r.rest }
  where
    go : (is_hard_fate e.fate ≡ true) ⊎ (is_some (dirty_of x.pages e.of.file.ino e.of.page) ≡ true) →
        (is_hard_fate e.fate ≡ true) ⊎ (is_some (dirty_of y.pages e.of.file.ino e.of.page) ≡ true)
    go (inl q) = inl q
    go (inr q) = inr (g _ _ q)

fates_last : (c : ClientId) (life : Life) (sv : ServerId) (x : Store) (l : List LogEntry) (e : LogEntry) → FatesOk c life sv x l →
    is_some (dirty_of x.pages e.of.file.ino e.of.page) ≡ true → FatesOk c life sv x (l ++ e ∷ [])
fates_last c life sv x [] e r q = record { one = λ h. inr q; rest = record {} }
fates_last c life sv x (y ∷ l) e r q = record { one = r.one; rest = fates_last c life sv x l e r.rest q }

-- nothing of the file is dirty: all of it is hard
pub no_dirty : (ps : Pages) (ino : ℕ) (p : PageNo) → pages.has_dirty ps ino ≡ false → is_some (dirty_of ps ino p) ≡ false
no_dirty ps ino p h = go (dirty_of ps ino p) refl
  where
    go : (o : Option DirtyPage) → dirty_of ps ino p ≡ o → is_some o ≡ false
    go None e = refl
    go (Some d) e =
        absurd
        (not_both (pages.has_dirty ps ino)
        (any_found (is_dirty_of ino p) (pages.is_dirty_on ino) d ps.dirty e (and_true (d.ino == ino) _ (found_passes (is_dirty_of ino p) ps.dirty d e)).0) h)

all_hard : (c : ClientId) (life : Life) (f : FileId) (x : Store) (l : List LogEntry) → pages.has_dirty x.pages f.ino ≡ false → FatesOk c life f.server x l →
    list_all (is_hard_of c life f) l ≡ true
all_hard c life f x [] h r = refl
all_hard c life f x (e ∷ l) h r = and_both (is_hard_of c life f e) _ (go (is_of_life c f.server life e.of) (same_file e.of.file f) refl refl)
    (all_hard c life f x l h r.rest)
  where
    ino_is : same_file e.of.file f ≡ true → e.of.file.ino ≡ f.ino
    ino_is q = eqb-true _ _ (and_true (same_server e.of.file.server f.server) _ q).1

    hard : same_file e.of.file f ≡ true → (is_hard_fate e.fate ≡ true) ⊎ (is_some (dirty_of x.pages e.of.file.ino e.of.page) ≡ true) →
        is_hard_fate e.fate ≡ true
    hard q (inl z) = z
    hard q (inr z) =
        absurd
        (not_both (is_some (dirty_of x.pages f.ino e.of.page)) (subst (λ i. is_some (dirty_of x.pages i e.of.page) ≡ true) (ino_is q) z)
        (no_dirty x.pages f.ino e.of.page h))

    go : (a b : Bool) → is_of_life c f.server life e.of ≡ a → same_file e.of.file f ≡ b → (not (a && b) || is_hard_fate e.fate) ≡ true
    go true true p q = hard q (r.one p)
    go true false p q = refl
    go false b p q = refl

written_more : (x : Store) (ino : ℕ) (p : PageNo) (bytes : List ℕ) (j : ℕ) (q : PageNo) → is_some (dirty_of x.pages j q) ≡ true →
    is_some (dirty_of (pages.written x.pages ino p bytes) j q) ≡ true
unfolding pages.written
written_more x ino p bytes j q h = go (Place_is ino p j q) refl
  where
    new : DirtyPage
    new = pages.new_dirty x.pages ino p bytes

    go : (b : Bool) → Place_is ino p j q ≡ b → is_some (find (is_dirty_of j q) (put (is_dirty_of ino p) new x.pages.dirty)) ≡ true
    go true e =
        let w = one_place ino p j q e in
        ap (λ o. is_some o)
        (find_put_by (is_dirty_of j q) (is_dirty_of ino p) new x.pages.dirty e
        (λ d f. subst (λ q. is_dirty_of ino q d ≡ true) (sym w.1) (subst (λ i. is_dirty_of i q d ≡ true) (sym w.0) f)))
    go false e = ap (λ o. is_some o) (find_put_other (is_dirty_of j q) (is_dirty_of ino p) new x.pages.dirty e (λ d f. other_place ino p j q e d.ino d.page f))
        ∙ h

written_own : (x : Store) (ino : ℕ) (p : PageNo) (bytes : List ℕ) → is_some (dirty_of (pages.written x.pages ino p bytes) ino p) ≡ true
unfolding pages.written
written_own x ino p bytes = ap (λ o. is_some o) (find_put (is_dirty_of ino p) (pages.new_dirty x.pages ino p bytes) x.pages.dirty (self_place ino p))

module _ (ask_of : ℕ → Option Ask) (c : ClientId) (lives : ServerId → Life) (es : List LogEntry) where
  abbrev LogAt : Turn → List LogEntry
  LogAt t = logged c lives t.out es

  pub copies_kept_by_same : (t : Turn) → Keeps ask_of c lives es t t
  copies_kept_by_same t = record { keep = λ r. r; away = still _ _ _ }

  pub copies_kept_by_sequence : (t u v : Turn) → Keeps ask_of c lives es t u → Keeps ask_of c lives es u v → Keeps ask_of c lives es t v
  copies_kept_by_sequence t u v p q = record { keep = λ r. q.keep (p.keep r); away = away_then _ _ _ _ _ _ _ _ _ p.away q.away }

  pub copies_kept_by_choice : (t : Turn) (b : Bool) (u v : Turn) → (b ≡ true → Keeps ask_of c lives es t u) → (b ≡ false → Keeps ask_of c lives es t v) →
      Keeps ask_of c lives es t (if b then u else v)
  copies_kept_by_choice t true u v p q = p refl
  copies_kept_by_choice t false u v p q = q refl

  -- what is put out leaves the log, and is right
  pub copies_kept_by_aside : (t : Turn) (os : List Operation) (n : ℕ) (ps : List Output) → ((x : List LogEntry) → logged c lives ps x ≡ x) →
      (Copies ask_of c lives es t → RightBehind ask_of c lives (last_of None t.out) (LogAt t) ps) → (AskedSo ask_of t.operations → AskedSo ask_of os) →
      Keeps ask_of c lives es t (record t { operations = os; next_command = n; out = t.out ++ ps })
  copies_kept_by_aside t os n ps quiet right asked =
      record {
        keep = λ r. record {
          pages = λ ino p. subst (λ l. PageOk (held_in t.here.session ino).mode (content l (file_at t.here.server ino) p) t.here.store ino p)
              (sym (logged_both c lives t.out ps es ∙ quiet (LogAt t))) (r.pages ino p);
          right = right_both ask_of c lives t.out ps es r.right (right r);
          asked = asked r.asked;
          fates = subst (λ l. FatesOk c (lives t.here.server) t.here.server t.here.store l) (sym (logged_both c lives t.out ps es ∙ quiet (LogAt t))) r.fates;
        };
        away = away_out c lives es t.here.server t.here.life t.out ps quiet;
      }

  asked_last : (os : List Operation) (o : Operation) → AskedSo ask_of os → ask_of o.op ≡ Some o.ask → AskedSo ask_of (os ++ o ∷ [])
  asked_last [] o r e = record { one = e; rest = record {} }
  asked_last (x ∷ os) o r e = record { one = r.one; rest = asked_last os o r.rest e }

  pub copies_kept_by_keeping : (t : Turn) (o : Operation) → ask_of o.op ≡ Some o.ask → Keeps ask_of c lives es t (keep o t)
  copies_kept_by_keeping t o e =
      record { keep = λ r. record { pages = r.pages; right = r.right; asked = asked_last t.operations o r.asked e; fates = r.fates }; away = still _ _ _ }

  -- pages and commands change, and what they have stays right
  pub copies_kept_by_store : (t : Turn) (x : Store) →
      ((now : List ℕ) (ino : ℕ) (p : PageNo) → PageOk (held_in t.here.session ino).mode now t.here.store ino p →
      PageOk (held_in t.here.session ino).mode now x ino p) →
      ((ino : ℕ) (p : PageNo) → is_some (dirty_of t.here.store.pages ino p) ≡ true → is_some (dirty_of x.pages ino p) ≡ true) →
      Keeps ask_of c lives es t (with_store x t)
  copies_kept_by_store t x f g =
      record {
        keep =
            λ r. record {
              pages = λ ino p. f _ ino p (r.pages ino p);
              right = r.right;
              asked = r.asked;
              fates =
                  fates_more c (lives t.here.server) t.here.server t.here.store x (LogAt t) g r.fates;
            };
        away = still _ _ _;
      }

  -- a change of a page, noted
  copies_kept_by_change : (t : Turn) (s : ClientSession) (o : Operation) (f : FileId) (p : PageNo) (bytes : List ℕ) (n : Note) →
      cp.may_write (with_session s t) s f p ≡ true →
      (Copies ask_of c lives es (with_session s t) → (content (logged_note c lives n (LogAt t)) (file_at t.here.server f.ino) p ≡ bytes) ×
      ((j : ℕ) (q : PageNo) → Place_is f.ino p j q ≡ false →
      content (logged_note c lives n (LogAt t)) (file_at t.here.server j) q ≡ content (LogAt t) (file_at t.here.server j) q)) →
      (e : LogEntry) → logged_note c lives n (LogAt t) ≡ LogAt t ++ e ∷ [] → e.of.file.server ≡ t.here.server → e.of.file.ino ≡ f.ino → e.of.page ≡ p →
      Noted (ask_of o.op) (Some (outputs.Note n)) →
      Keeps ask_of c lives es (with_session s t) (cp.change_page (with_session s t) o f p bytes n)
  unfolding cp.change_page cp.change_by cp.change pages.write
  copies_kept_by_change t s o f p bytes n h news ent joins own ei ep asked = go (pages.is_full_for t.here.store.pages f.ino p)
    where
      x : Store
      x = record t.here.store { pages = pages.written t.here.store.pages f.ino p bytes; commands = pages.forget_read t.here.store.commands f.ino p }

      u : Turn
      u = with_store x (with_session s (note t n))

      mode : 2 ≤ (held_in (Some s) f.ino).mode
      mode = subst (λ m. 2 ≤ m) (same_mode (lock_of s.locks f.ino)) (leb-true _ _ (and_true (cp.holds s modes.X f) _ h).0)

      page : Copies ask_of c lives es (with_session s t) → (j : ℕ) (q : PageNo) (b : Bool) → Place_is f.ino p j q ≡ b →
          PageOk (held_in (Some s) j).mode (content (logged_note c lives n (LogAt t)) (file_at t.here.server j) q) x j q
      page r j q true e =
          let z = one_place f.ino p j q e in
          subst (λ q. PageOk (held_in (Some s) j).mode (content (logged_note c lives n (LogAt t)) (file_at t.here.server j) q) x j q) z.1
          (subst (λ j. PageOk (held_in (Some s) j).mode (content (logged_note c lives n (LogAt t)) (file_at t.here.server j) p) x j p) z.0
          (subst (λ b. PageOk (held_in (Some s) f.ino).mode b x f.ino p) (sym (news r).0)
          (own_ok t.here.store _ f.ino p bytes mode (and_true (cp.holds s modes.X f) _ h).1)))
      page r j q false e =
          subst (λ b. PageOk (held_in (Some s) j).mode b x j q) (sym ((news r).1 j q e)) (other_ok t.here.store _ _ f.ino p bytes j q e (r.pages j q))

      noted : Keeps ask_of c lives es (with_session s t) u
      noted =
          record {
            keep = λ r. record {
              pages = λ j q. subst (λ l. PageOk (held_in (Some s) j).mode (content l (file_at t.here.server j) q) x j q)
                  (sym (logged_both c lives t.out (outputs.Note n ∷ []) es)) (page r j q (Place_is f.ino p j q) refl);
              right = right_both ask_of c lives t.out (outputs.Note n ∷ []) es r.right (record { one = record {}; rest = record {} });
              asked = r.asked;
              fates =
                  subst (λ l. FatesOk c (lives t.here.server) t.here.server x l) (sym (logged_both c lives t.out (outputs.Note n ∷ []) es ∙ joins))
                  (fates_last c (lives t.here.server) t.here.server x (LogAt t) ent
                  (fates_more c (lives t.here.server) t.here.server t.here.store x (LogAt t) (λ j q. written_more t.here.store f.ino p bytes j q) r.fates)
                  (subst (λ q. is_some (dirty_of x.pages ent.of.file.ino q) ≡ true) (sym ep)
                  (subst (λ i. is_some (dirty_of x.pages i p) ≡ true) (sym ei) (written_own t.here.store f.ino p bytes))));
            };
            away = away_entry t.here.server t.here.life (LogAt t) _ ent (logged_both c lives t.out (outputs.Note n ∷ []) es ∙ joins) own;
          }

      go : (b : Bool) → Keeps ask_of c lives es (with_session s t)
          (cp.change_by (with_session s t) o f p n (if b then Err refusals.DirtyFull else Ok (pages.written t.here.store.pages f.ino p bytes)))
      go true = copies_kept_by_aside (with_session s t) t.operations t.next_command _ (λ x. refl) (λ r. record { one = record {}; rest = record {} }) (λ a. a)
      go false = copies_kept_by_sequence (with_session s t) u _ noted
          (copies_kept_by_aside u t.operations t.next_command _ (λ x. refl)
          (λ r. record { one = subst (λ l. Noted (ask_of o.op) l) (sym (last_end None t.out (outputs.Note n))) asked; rest = record {} }) (λ a. a))

  -- an answer that isn't a read
  copies_kept_by_answer : (t : Turn) (o : Operation) (a : AppAnswer) →
      ((x : List LogEntry) (l : Option Output) → RightOne ask_of c lives l x (outputs.Answer o.op a)) → Keeps ask_of c lives es t (cp.answer o a t)
  copies_kept_by_answer t o a f = copies_kept_by_aside t t.operations t.next_command _ (λ x. refl)
      (λ r. record { one = f (LogAt t) (last_of None t.out); rest = record {} }) (λ a. a)

  -- an answer of a read, with what the log says
  copies_kept_by_read : (t : Turn) (o : Operation) (f : FileId) (p : PageNo) (bytes : List ℕ) → ask_of o.op ≡ Some (asks.Read f p) →
      (Copies ask_of c lives es t → bytes ≡ content (LogAt t) f p) → Keeps ask_of c lives es t (cp.answer o (answers.Read bytes) t)
  copies_kept_by_read t o f p bytes e h = copies_kept_by_aside t t.operations t.next_command _ (λ x. refl)
      (λ r. record { one = subst (λ a. IsLastRead a (LogAt t) bytes) (sym e) (h r); rest = record {} }) (λ a. a)

  copies_kept_by_submit : (t : Turn) (ino : ℕ) (p : PageNo) (m : MappedBlock) → 1 ≤ (held_in t.here.session ino).mode →
      Keeps ask_of c lives es t (cp.submit_read t ino p m)
  unfolding cp.submit_read cp.submit_command pages.begin_command
  copies_kept_by_submit t ino p m l =
      let x : Store = (cp.with_command ino p io.Read t).here.store in
      copies_kept_by_sequence t (with_store x t) _
      (copies_kept_by_store t x
      (λ now j q r. record {
        mode = r.mode;
        dirty = r.dirty;
        clean = r.clean;
        unmapped = r.unmapped;
        locked = r.locked;
        known = r.known;
        reading =
            λ e. read j q r.reading (any_last (pages.is_read_of j q) (pages.page_command t.next_command ino p io.Read) t.here.store.commands e);
      }) (λ j q e. e))
      (copies_kept_by_aside (with_store x t) t.operations (t.next_command + 1) _ (λ x. refl) (λ r. record { one = record {}; rest = record {} }) (λ a. a))
    where
      read : (j : ℕ) (q : PageNo) → (pages.is_being_read t.here.store.commands j q ≡ true → 1 ≤ (held_in t.here.session j).mode) →
          (list_any (pages.is_read_of j q) t.here.store.commands ≡ true) ⊎ (Place_is ino p j q ≡ true) → 1 ≤ (held_in t.here.session j).mode
      read j q f (inl e) = f e
      read j q f (inr e) = subst (λ i. 1 ≤ (held_in t.here.session i).mode) (one_place ino p j q e).0 l

  copies_kept_by_fetch : (t : Turn) (o : Operation) (f : FileId) (p : PageNo) → 1 ≤ (held_in t.here.session f.ino).mode → ask_of o.op ≡ Some o.ask →
      Keeps ask_of c lives es t (cp.fetch t o f p)
  unfolding cp.fetch cp.fetch_at cp.fetch_mapped
  copies_kept_by_fetch t o f p l e = go (pages.mapping_of t.here.store.extents f.ino p)
    where
      go : (m : Option MappedBlock) → Keeps ask_of c lives es t (keep o (cp.fetch_at t f p m))
      go None = copies_kept_by_keeping t o e
      go (Some m) =
          let u : Turn = cp.fetch_mapped t f p m in
          copies_kept_by_sequence t u _
          (copies_kept_by_choice t (pages.is_being_read t.here.store.commands f.ino p) t _ (λ h. copies_kept_by_same t)
          (λ h. copies_kept_by_submit t f.ino p m l)) (copies_kept_by_keeping u o e)

  -- using a clean page
  newest_ok : (x : Store) (y : CleanPage) (held : ℕ) (now : List ℕ) (ino : ℕ) (p : PageNo) → clean_of x.pages y.ino y.page ≡ Some y → PageOk held now x ino p →
      PageOk held now (record x { pages = record x.pages { clean = pages.with_newest x.pages.most_clean y x.pages.clean } }) ino p
  newest_ok x y held now ino p is r =
      record {
        mode = r.mode;
        dirty = r.dirty;
        clean = λ z e l. go z l (newest_is x.pages.most_clean y x.pages.clean ino p z e);
        unmapped = r.unmapped;
        locked = λ z e. lock z (newest_is x.pages.most_clean y x.pages.clean ino p z e);
        known = r.known;
        reading = r.reading;
      }
    where
      lock : (z : CleanPage) → ((Place_is y.ino y.page ino p ≡ true) × (z ≡ y)) ⊎
          ((Place_is y.ino y.page ino p ≡ false) × (find (is_clean_of ino p) x.pages.clean ≡ Some z)) → 1 ≤ held
      lock z (inl h) = let w = one_place y.ino y.page ino p h.0 in
          r.locked y (subst (λ q. clean_of x.pages ino q ≡ Some y) w.1 (subst (λ j. clean_of x.pages j y.page ≡ Some y) w.0 is))
      lock z (inr h) = r.locked z h.1

      go : (z : CleanPage) → 1 ≤ held → ((Place_is y.ino y.page ino p ≡ true) × (z ≡ y)) ⊎
          ((Place_is y.ino y.page ino p ≡ false) × (find (is_clean_of ino p) x.pages.clean ≡ Some z)) → z.bytes ≡ now
      go z l (inl h) = let w = one_place y.ino y.page ino p h.0 in
          ap (λ (d : CleanPage). d.bytes) h.1 ∙ r.clean y
          (subst (λ q. clean_of x.pages ino q ≡ Some y) w.1 (subst (λ j. clean_of x.pages j y.page ≡ Some y) w.0 is)) l
      go z l (inr h) = r.clean z h.1 l

  copies_kept_by_use : (t : Turn) (ino : ℕ) (p : PageNo) →
      Keeps ask_of c lives es t (with_store (record t.here.store { pages = pages.use_page t.here.store.pages ino p }) t)
  unfolding pages.use_page pages.use_clean pages.use_at
  copies_kept_by_use t ino p = dirty (dirty_of t.here.store.pages ino p)
    where
      clean : (y : Option CleanPage) → clean_of t.here.store.pages ino p ≡ y →
          Keeps ask_of c lives es t (with_store (record t.here.store { pages = pages.use_at t.here.store.pages y }) t)
      clean None e = copies_kept_by_same t
      clean (Some y) e =
          let w = one_place y.ino y.page ino p (found_passes (is_clean_of ino p) t.here.store.pages.clean y e) in
          let is : clean_of t.here.store.pages y.ino y.page ≡ Some y =
          subst (λ q. clean_of t.here.store.pages y.ino q ≡ Some y) (sym w.1) (subst (λ j. clean_of t.here.store.pages j p ≡ Some y) (sym w.0) e) in
          copies_kept_by_store t
          (record t.here.store { pages = record t.here.store.pages { clean = pages.with_newest t.here.store.pages.most_clean y t.here.store.pages.clean } })
          (λ now j q r. newest_ok t.here.store y _ now j q is r) (λ j q e. e)

      dirty : (d : Option DirtyPage) → Keeps ask_of c lives es t (with_store (record t.here.store { pages = pages.use_clean t.here.store.pages ino p d }) t)
      dirty None = clean (clean_of t.here.store.pages ino p) refl
      dirty (Some d) = copies_kept_by_same t

  -- what is cached is what the log says
  cached_is : (held : ℕ) (now : List ℕ) (x : Store) (ino : ℕ) (p : PageNo) (bytes : List ℕ) → PageOk held now x ino p → 1 ≤ held →
      pages.cached x.pages ino p ≡ Some bytes → bytes ≡ now
  cached_is held now x ino p bytes r l e = go (dirty_of x.pages ino p) (clean_of x.pages ino p) refl refl e
    where
      go : (d : Option DirtyPage) (y : Option CleanPage) → dirty_of x.pages ino p ≡ d → clean_of x.pages ino p ≡ y → pages.cached_at d y ≡ Some bytes →
          bytes ≡ now
      go (Some d) y f g h = sym (some_is h) ∙ r.dirty d f
      go None (Some y) f g h = sym (some_is h) ∙ r.clean y g l
      go None None f g h = cc

  holds_some : (s : ClientSession) (f : FileId) → cp.holds s modes.S f ≡ true → 1 ≤ (held_in (Some s) f.ino).mode
  holds_some s f h = subst (λ m. 1 ≤ m) (same_mode (lock_of s.locks f.ino)) (leb-true _ _ h)

  exclusive_mode_is_some : (s : ClientSession) (f : FileId) → cp.holds s modes.X f ≡ true → 1 ≤ (held_in (Some s) f.ino).mode
  exclusive_mode_is_some s f h = let z = leb-true _ _ h in let w = same_mode (lock_of s.locks f.ino) in omega (arith, z, w)

  at_server : (t : Turn) (f : FileId) → f.server ≡ t.here.server → file_at t.here.server f.ino ≡ f
  at_server t f e = ap (λ v. file_at v f.ino) (sym e)

  copies_kept_by_read_at : (t : Turn) (s : ClientSession) (o : Operation) (f : FileId) (p : PageNo) → o.ask ≡ asks.Read f p → f.server ≡ t.here.server →
      ask_of o.op ≡ Some o.ask → 1 ≤ (held_in (Some s) f.ino).mode → (q : Option (List ℕ)) → pages.cached t.here.store.pages f.ino p ≡ q →
      Keeps ask_of c lives es (with_session s t) (cp.read_at (with_session s t) o f p q)
  unfolding cp.read_at cp.read_cached cp.read_uncached cp.read_known
  copies_kept_by_read_at t s o f p is sv e l (Some bytes) cq =
      let x : Store = record t.here.store { pages = pages.use_page t.here.store.pages f.ino p } in
      record {
        keep = λ r. (copies_kept_by_read (with_store x (with_session s t)) o f p bytes (e ∙ ap (λ a. Some a) is)
            (λ r2. cached_is _ _ t.here.store f.ino p bytes (r.pages f.ino p) l cq ∙ ap (λ g. content (LogAt t) g p) (at_server t f sv))).keep
            ((copies_kept_by_use (with_session s t) f.ino p).keep r);
        away = away_out c lives es t.here.server t.here.life t.out (outputs.Answer o.op (answers.Read bytes) ∷ []) (λ x. refl);
      }
  copies_kept_by_read_at t s o f p is sv e l None cq = known (known_of t.here.store.extents f.ino p) refl
    where
      mapped : (x : KnownExtent) → known_of t.here.store.extents f.ino p ≡ Some x → (m : Option MappedBlock) → x.mapping ≡ m →
          Keeps ask_of c lives es (with_session s t) (cp.read_known (with_session s t) o f p x m)
      mapped x k None m = copies_kept_by_read (with_session s t) o f p (filled 0) (e ∙ ap (λ a. Some a) is)
          (λ r. (r.pages f.ino p).unmapped x k m l ∙ ap (λ g. content (LogAt t) g p) (at_server t f sv))
      mapped x k (Some y) m = copies_kept_by_fetch (with_session s t) o f p l e

      known : (x : Option KnownExtent) → known_of t.here.store.extents f.ino p ≡ x →
          Keeps ask_of c lives es (with_session s t) (cp.read_uncached (with_session s t) o f p x)
      known None k = copies_kept_by_keeping (with_session s t) o e
      known (Some x) k = mapped x k x.mapping refl

  -- a file of this server and a place
  own_file : (t : Turn) (f : FileId) (p : PageNo) → f.server ≡ t.here.server → (same_file f (file_at t.here.server f.ino) && same_page p p) ≡ true
  own_file t f p e = ap (λ b. (b && (f.ino == f.ino)) && (p.0 == p.0)) (eq-eqb f.server.0 t.here.server.0 (ap (λ (v : ServerId). v.0) e)) ∙ self_place f.ino p

  other_file : (t : Turn) (f : FileId) (p : PageNo) (j : ℕ) (q : PageNo) → Place_is f.ino p j q ≡ false →
      (same_file f (file_at t.here.server j) && same_page p q) ≡ false
  other_file t f p j q n = go (f.server.0 == t.here.server.0) (f.ino == j) (p.0 == q.0) n
    where
      go : (a b d : Bool) → (b && d) ≡ false → ((a && b) && d) ≡ false
      go true b d e = e
      go false b d e = refl

  copies_kept_by_write : (t : Turn) (s : ClientSession) (o : Operation) (f : FileId) (p : PageNo) (bytes : List ℕ) → ask_of o.op ≡ Some (asks.Write f p bytes) →
      f.server ≡ t.here.server → cp.may_write (with_session s t) s f p ≡ true →
      Keeps ask_of c lives es (with_session s t) (cp.change_page (with_session s t) o f p bytes (notes.Accepted f p bytes))
  unfolding log.accept
  copies_kept_by_write t s o f p bytes was sv h =
      copies_kept_by_change t s o f p bytes (notes.Accepted f p bytes) h
      (λ r. (
        content_write (LogAt t) c (lives f.server) f p bytes (file_at t.here.server f.ino) p ∙ if_true _ _ _ (own_file t f p sv),
        λ j q n. content_write (LogAt t) c (lives f.server) f p bytes (file_at t.here.server j) q ∙ if_false _ _ _ (other_file t f p j q n),
      ))
      (log.pending (log.owner c (lives f.server) f p) (changes.Write bytes)) refl sv refl refl
      (subst (λ a. Noted a (Some (outputs.Note (notes.Accepted f p bytes)))) (sym was) refl)

  copies_kept_by_patch : (t : Turn) (s : ClientSession) (o : Operation) (f : FileId) (p : PageNo) (at : ℕ) (bytes old : List ℕ) →
      ask_of o.op ≡ Some (asks.Patch f p at bytes) → f.server ≡ t.here.server → cp.may_write (with_session s t) s f p ≡ true →
      pages.cached t.here.store.pages f.ino p ≡ Some old →
      Keeps ask_of c lives es (with_session s t) (cp.change_page (with_session s t) o f p (overlay at bytes old) (notes.Patched f p at bytes))
  unfolding log.patch
  copies_kept_by_patch t s o f p at bytes old was sv h cq =
      copies_kept_by_change t s o f p (overlay at bytes old) (notes.Patched f p at bytes) h
      (λ r. (
        content_patch (LogAt t) c (lives f.server) f p at bytes (file_at t.here.server f.ino) p ∙ if_true _ _ _ (own_file t f p sv) ∙
            ap (λ b. overlay at bytes b) (sym (cached_is _ _ t.here.store f.ino p old (r.pages f.ino p) some cq)),
        λ j q n. content_patch (LogAt t) c (lives f.server) f p at bytes (file_at t.here.server j) q ∙ if_false _ _ _ (other_file t f p j q n),
      ))
      (log.pending (log.owner c (lives f.server) f p) (changes.Patch at bytes)) refl sv refl refl
      (subst (λ a. Noted a (Some (outputs.Note (notes.Patched f p at bytes)))) (sym was) refl)
    where
      some : 1 ≤ (held_in (Some s) f.ino).mode
      some = let z = leb-true _ _ (and_true (cp.holds s modes.X f) _ h).0 in let w = same_mode (lock_of s.locks f.ino) in omega (arith, z, w)

  copies_kept_by_open : (t : Turn) (s : ClientSession) (o : Operation) (a : Ask) → o.ask ≡ a → server_of a ≡ t.here.server → ask_of o.op ≡ Some o.ask →
      Keeps ask_of c lives es (with_session s t) (cp.serve_open (with_session s t) s o a)
  unfolding cp.serve_open cp.write cp.patch cp.patch_at cp.patch_bytes cp.read
  copies_kept_by_open t s o (asks.Write f p bytes) is sv e =
      copies_kept_by_choice (with_session s t) (cp.may_write (with_session s t) s f p) _ _
      (λ h. copies_kept_by_write t s o f p bytes (e ∙ ap (λ a. Some a) is) sv h) (λ h. copies_kept_by_keeping (with_session s t) o e)
  copies_kept_by_open t s o (asks.Patch f p at bytes) is sv e =
      copies_kept_by_choice (with_session s t) (cp.may_write (with_session s t) s f p) _ _ (λ h. go h (pages.cached t.here.store.pages f.ino p) refl)
      (λ h. copies_kept_by_keeping (with_session s t) o e)
    where
      go : cp.may_write (with_session s t) s f p ≡ true → (q : Option (List ℕ)) → pages.cached t.here.store.pages f.ino p ≡ q →
          Keeps ask_of c lives es (with_session s t) (cp.patch_at (with_session s t) o f p at bytes q)
      go h None cq = copies_kept_by_fetch (with_session s t) o f p (exclusive_mode_is_some s f (and_true (cp.holds s modes.X f) _ h).0) e
      go h (Some old) cq = copies_kept_by_patch t s o f p at bytes old (e ∙ ap (λ a. Some a) is) sv h cq
  copies_kept_by_open t s o (asks.Read f p) is sv e = copies_kept_by_choice (with_session s t) (cp.holds s modes.S f) _ _
      (λ h. copies_kept_by_read_at t s o f p is sv e (holds_some s f h) (pages.cached t.here.store.pages f.ino p) refl)
      (λ h. copies_kept_by_keeping (with_session s t) o e)
  copies_kept_by_open t s o a is sv e = copies_kept_by_keeping (with_session s t) o e

  copies_kept_by_under : (t : Turn) (s : ClientSession) (n : Stamp) (o : Operation) (all : List Operation) → server_of o.ask ≡ t.here.server →
      ask_of o.op ≡ Some o.ask → Keeps ask_of c lives es (with_session s t) (cp.operate_under all (with_session s t) s n o)
  unfolding cp.operate_under cp.serve cp.quiesce
  copies_kept_by_under t s n o all sv e =
      copies_kept_by_choice (with_session s t) (st.is_serving t.config s n) _ _
      (λ h. copies_kept_by_choice (with_session s t) (is_open_file all t.here.server s (file_of o.ask)) _ _ (λ g. copies_kept_by_open t s o o.ask refl sv e)
      (λ g. copies_kept_by_keeping (with_session s t) o e))
      (λ h. copies_kept_by_choice (with_session s t) (st.is_sent o) _ _ (λ g. copies_kept_by_keeping (with_session s t) o e)
      (λ g. copies_kept_by_answer (with_session s t) o answers.Quiesced (λ x l. record {})))

  -- a sync is answered hard
  copies_kept_by_hard : (t : Turn) (o : Operation) (f : FileId) → o.ask ≡ asks.Sync f → server_of o.ask ≡ t.here.server → ask_of o.op ≡ Some o.ask →
      pages.is_hard t.here.store f.ino ≡ true → Keeps ask_of c lives es t (cp.answer o answers.Hard t)
  copies_kept_by_hard t o f is sv e h =
      copies_kept_by_aside t t.operations t.next_command _ (λ x. refl)
      (λ r. record {
        one = subst (λ a. HardRight c lives (LogAt t) a) (sym (e ∙ ap (λ a. Some a) is))
            (all_hard c (lives f.server) f t.here.store (LogAt t) (not_true _ (and_true (not (pages.has_dirty t.here.store.pages f.ino)) _ h).0)
            (subst (λ v. FatesOk c (lives v) v t.here.store (LogAt t)) (sym (ap (λ a. server_of a) (sym is) ∙ sv)) r.fates));
        rest = record {};
      }) (λ a. a)

  copies_kept_by_on : (t : Turn) (n : Stamp) (o : Operation) (all : List Operation) (a : Ask) → o.ask ≡ a → server_of o.ask ≡ t.here.server →
      ask_of o.op ≡ Some o.ask → Keeps ask_of c lives es t (cp.operate_on all t n o a)
  unfolding cp.operate_on cp.sync cp.operate_by
  copies_kept_by_on t n o all (asks.Sync f) is sv e = copies_kept_by_choice t (pages.is_hard t.here.store f.ino) _ _ (λ h. copies_kept_by_hard t o f is sv e h)
      (λ h. copies_kept_by_keeping t o e)
  copies_kept_by_on t n o all a is sv e = go t.here.session refl
    where
      with_it : (q : Option ClientSession) → t.here.session ≡ q → t ≡ record t { here = record t.here { session = q } }
      with_it q g = λ j. record t { here = record t.here { session = g j } }

      go : (q : Option ClientSession) → t.here.session ≡ q → Keeps ask_of c lives es t (cp.operate_by all t n o q)
      go None g = copies_kept_by_keeping t o e
      go (Some s) g = subst (λ u. Keeps ask_of c lives es u (cp.operate_under all u s n o)) (sym (with_it (Some s) g)) (copies_kept_by_under t s n o all sv e)

  copies_kept_by_operate : (t : Turn) (n : Stamp) (o : Operation) (all : List Operation) → ask_of o.op ≡ Some o.ask →
      Keeps ask_of c lives es t (cp.operate all t n o)
  unfolding cp.operate
  copies_kept_by_operate t n o all e = copies_kept_by_choice t (is_of t.here.server o) _ _
      (λ h. copies_kept_by_on t n o all o.ask refl (ap (λ m. record { 0 = m }) (eqb-true _ _ h)) e) (λ h. copies_kept_by_keeping t o e)

  copies_kept_by_each : (n : Stamp) (all os : List Operation) (t : Turn) → AskedSo ask_of os → Keeps ask_of c lives es t (cp.operate_each all n os t)
  unfolding cp.operate_each
  copies_kept_by_each n all [] t a = copies_kept_by_same t
  copies_kept_by_each n all (o ∷ os) t a = let u : Turn = cp.operate all t n o in
      copies_kept_by_sequence t u _ (copies_kept_by_operate t n o all a.one) (copies_kept_by_each n all os u a.rest)

  -- the pass of the operations: what is dirty, clean and unmapped stays what the log says, and every read is answered by it
  pub operations_keep : (n : Stamp) (t : Turn) → Copies ask_of c lives es t → Copies ask_of c lives es (cp.operations n t)
  unfolding cp.operations
  operations_keep n t r = (copies_kept_by_each n t.operations t.operations (st.with_operations [] t) r.asked).keep
      (record { pages = r.pages; right = r.right; asked = record {}; fates = r.fates })

-- what is found in a changed list is what was found, changed
pub find_map : {A : Type 0} (p : A → Bool) (f : A → A) → ((x : A) → p (f x) ≡ p x) → (xs : List A) (v : A) → find p (map f xs) ≡ Some v →
    (u : A) × (find p xs ≡ Some u) × (f u ≡ v)
find_map p f h [] v e = cc
find_map {A} p f h (x ∷ xs) v e = go (p x) (p (f x)) (h x) e (find_map p f h xs v)
  where
    go : (a b : Bool) → b ≡ a → (if b then Some (f x) else find p (map f xs)) ≡ Some v →
        (find p (map f xs) ≡ Some v → (u : A) × (find p xs ≡ Some u) × (f u ≡ v)) → (u : A) × ((if a then Some x else find p xs) ≡ Some u) × (f u ≡ v)
    go true true q e g = (x, refl, some_is e)
    go true false q e g = cc
    go false true q e g = cc
    go false false q e g = g e

-- a dirty page becomes the newest clean one
hardened_ok : (x : Store) (d : DirtyPage) (held : ℕ) (now : List ℕ) (j : ℕ) (q : PageNo) → dirty_of x.pages d.ino d.page ≡ Some d → PageOk held now x j q →
    PageOk held now (record x { pages = pages.harden_page x.pages d }) j q
unfolding pages.harden_page
hardened_ok x d held now j q is r =
    record {
      mode = λ e f. r.mode e (still e f);
      dirty = λ e f. r.dirty e (still e f);
      clean = λ z e l. go z l (newest_is x.pages.most_clean (pages.clean_page d.ino d.page d.bytes) x.pages.clean j q z e);
      unmapped = r.unmapped;
      locked = λ z e. lock z (newest_is x.pages.most_clean (pages.clean_page d.ino d.page d.bytes) x.pages.clean j q z e);
      known = r.known;
      reading = r.reading;
    }
  where
    lock : (z : CleanPage) → ((Place_is d.ino d.page j q ≡ true) × (z ≡ pages.clean_page d.ino d.page d.bytes)) ⊎
        ((Place_is d.ino d.page j q ≡ false) × (find (is_clean_of j q) x.pages.clean ≡ Some z)) → 1 ≤ held
    lock z (inl h) = let w = one_place d.ino d.page j q h.0 in
        let m = r.mode d (subst (λ q. dirty_of x.pages j q ≡ Some d) w.1 (subst (λ i. dirty_of x.pages i d.page ≡ Some d) w.0 is)) in omega (arith, m)
    lock z (inr h) = r.locked z h.1

    still_by : (e : DirtyPage) (b : Bool) → Place_is d.ino d.page j q ≡ b → find (is_dirty_of j q) (pages.without_dirty d.ino d.page x.pages.dirty) ≡ Some e →
        dirty_of x.pages j q ≡ Some e
    still_by e true f h = let w = one_place d.ino d.page j q f in
        absurd (none_some _ e
        (find_cut (is_dirty_of j q) (is_dirty_of d.ino d.page)
        (λ y g. subst (λ q. is_dirty_of d.ino q y ≡ true) (sym w.1) (subst (λ i. is_dirty_of i q y ≡ true) (sym w.0) g)) x.pages.dirty) h)
    still_by e false f h = sym (find_stays (is_dirty_of j q) (is_dirty_of d.ino d.page) (λ y g. other_place d.ino d.page j q f y.ino y.page g) x.pages.dirty) ∙
        h

    still : (e : DirtyPage) → find (is_dirty_of j q) (pages.without_dirty d.ino d.page x.pages.dirty) ≡ Some e → dirty_of x.pages j q ≡ Some e
    still e h = still_by e (Place_is d.ino d.page j q) refl h

    go : (z : CleanPage) → 1 ≤ held → ((Place_is d.ino d.page j q ≡ true) × (z ≡ pages.clean_page d.ino d.page d.bytes)) ⊎
        ((Place_is d.ino d.page j q ≡ false) × (find (is_clean_of j q) x.pages.clean ≡ Some z)) → z.bytes ≡ now
    go z l (inl h) = let w = one_place d.ino d.page j q h.0 in
        ap (λ (y : CleanPage). y.bytes) h.1 ∙ r.dirty d
        (subst (λ q. dirty_of x.pages j q ≡ Some d) w.1 (subst (λ i. dirty_of x.pages i d.page ≡ Some d) w.0 is))
    go z l (inr h) = r.clean z h.1 l

failed_ok : (x : Store) (ino : ℕ) (p : PageNo) (n : ℕ) (held : ℕ) (now : List ℕ) (j : ℕ) (q : PageNo) → PageOk held now x j q →
    PageOk held now (record x { pages = pages.fail x.pages ino p n }) j q
unfolding pages.fail pages.failed_by
failed_ok x ino p n held now j q r =
    record {
      mode = λ d e. let u = old d e in r.mode u.0 u.1;
      dirty = λ d e. let u = old d e in ap (λ (y : DirtyPage). y.bytes) (sym u.2) ∙ bytes u.0 (is_dirty_of ino p u.0) ∙ r.dirty u.0 u.1;
      clean = r.clean;
      unmapped = r.unmapped;
      locked = r.locked;
      known = r.known;
      reading = r.reading;
    }
  where
    same : (d : DirtyPage) (b : Bool) → is_dirty_of j q (if b then pages.failed_by n d else d) ≡ is_dirty_of j q d
    same d true = refl
    same d false = refl

    bytes : (d : DirtyPage) (b : Bool) → (if b then pages.failed_by n d else d).bytes ≡ d.bytes
    bytes d true = refl
    bytes d false = refl

    old : (d : DirtyPage) → find (is_dirty_of j q) (map (pages.fail_of ino p n) x.pages.dirty) ≡ Some d →
        (u : DirtyPage) × (find (is_dirty_of j q) x.pages.dirty ≡ Some u) × (pages.fail_of ino p n u ≡ d)
    old d e = find_map (is_dirty_of j q) (pages.fail_of ino p n) (λ y. same y (is_dirty_of ino p y)) x.pages.dirty d e

failed_more : (x : Store) (ino : ℕ) (p : PageNo) (n j : ℕ) (q : PageNo) → is_some (dirty_of x.pages j q) ≡ true →
    is_some (dirty_of (pages.fail x.pages ino p n) j q) ≡ true
unfolding pages.fail pages.failed_by
failed_more x ino p n j q e = go x.pages.dirty e
  where
    same : (d : DirtyPage) (b : Bool) → is_dirty_of j q (if b then pages.failed_by n d else d) ≡ is_dirty_of j q d
    same d true = refl
    same d false = refl

    step : (a b : Bool) (d f : DirtyPage) (u v : Option DirtyPage) → b ≡ a → (is_some u ≡ true → is_some v ≡ true) → is_some (if a then Some d else u) ≡ true →
        is_some (if b then Some f else v) ≡ true
    step true true d f u v q g e = refl
    step true false d f u v q g e = cc
    step false true d f u v q g e = refl
    step false false d f u v q g e = g e

    go : (ds : List DirtyPage) → is_some (find (is_dirty_of j q) ds) ≡ true → is_some (find (is_dirty_of j q) (map (pages.fail_of ino p n) ds)) ≡ true
    go [] e = e
    go (d ∷ ds) e = step (is_dirty_of j q d) (is_dirty_of j q (pages.fail_of ino p n d)) d _ _ _ (same d (is_dirty_of ino p d)) (go ds) e

hardened_fates : (c : ClientId) (life : Life) (sv : ServerId) (x : Store) (d : DirtyPage) (l : List LogEntry) → HardOn c life sv d.ino d.page l →
    FatesOk c life sv x l → FatesOk c life sv (record x { pages = pages.harden_page x.pages d }) l
unfolding pages.harden_page
hardened_fates c life sv x d [] h r = r
hardened_fates c life sv x d (e ∷ l) h r =
    record { one = λ o. go o (r.one o) (Place_is d.ino d.page e.of.file.ino e.of.page) refl; rest = hardened_fates c life sv x d l h.rest r.rest }
  where
    go : is_of_life c sv life e.of ≡ true → (is_hard_fate e.fate ≡ true) ⊎ (is_some (dirty_of x.pages e.of.file.ino e.of.page) ≡ true) → (b : Bool) →
        Place_is d.ino d.page e.of.file.ino e.of.page ≡ b →
        (is_hard_fate e.fate ≡ true) ⊎ (is_some (find (is_dirty_of e.of.file.ino e.of.page) (pages.without_dirty d.ino d.page x.pages.dirty)) ≡ true)
    go o (inl q) b f = inl q
    go o (inr q) true f = let w = one_place d.ino d.page e.of.file.ino e.of.page f in inl (h.one o (sym w.0) (sym w.1))
    go o (inr q) false f =
        inr (ap (λ y. is_some y)
        (find_stays (is_dirty_of e.of.file.ino e.of.page) (is_dirty_of d.ino d.page) (λ y g. other_place d.ino d.page e.of.file.ino e.of.page f y.ino y.page g)
        x.pages.dirty) ∙ q)

module _ (ask_of : ℕ → Option Ask) (c : ClientId) (lives : ServerId → Life) (es : List LogEntry) where
  asked_filter : (t : Operation → Bool) (os : List Operation) → AskedSo ask_of os → AskedSo ask_of (filter t os)
  asked_filter t [] r = r
  asked_filter t (o ∷ os) r = go (t o) (asked_filter t os r.rest)
    where
      go : (b : Bool) → AskedSo ask_of (filter t os) → AskedSo ask_of (if b then o ∷ filter t os else filter t os)
      go true q = record { one = r.one; rest = q }
      go false q = q

  faults_right : (n : ℕ) (os : List Operation) (last : Option Output) (l : List LogEntry) →
      RightBehind ask_of c lives last l (map (st.answer_to (answers.DiskFault n)) os)
  faults_right n [] last l = record {}
  faults_right n (o ∷ os) last l = record { one = record {}; rest = faults_right n os _ l }

  faults_quiet : (n : ℕ) (os : List Operation) (l : List LogEntry) → logged c lives (map (st.answer_to (answers.DiskFault n)) os) l ≡ l
  faults_quiet n [] l = refl
  faults_quiet n (o ∷ os) l = faults_quiet n os l

  copies_kept_by_faults : (picked : Operation → Bool) (n : ℕ) (t : Turn) → Keeps ask_of c lives es t (st.answer_each picked (answers.DiskFault n) t)
  unfolding st.answer_each
  copies_kept_by_faults picked n t = copies_kept_by_aside ask_of c lives es t (filter (λ o. not (picked o)) t.operations) t.next_command _
      (faults_quiet n (filter picked t.operations)) (λ r. faults_right n (filter picked t.operations) _ _) (asked_filter (λ o. not (picked o)) t.operations)

  copies_kept_by_failed : (t : Turn) (x : PageCommand) (kind : IoKind) → Keeps ask_of c lives es t (cl.failed_as t x kind)
  unfolding cl.failed_as cl.mark_failed
  copies_kept_by_failed t x io.Read = copies_kept_by_faults (cl.waits_for_read t x) x.number t
  copies_kept_by_failed t x (io.Write version) =
      let u : Turn = cl.mark_failed t x version in
      copies_kept_by_sequence ask_of c lives es t u _ (copies_kept_by_choice ask_of c lives es t (cl.is_present t x version) _ t
      (λ h. copies_kept_by_store ask_of c lives es t (cl.with_failed x t).here.store (λ now j q r. failed_ok t.here.store x.ino x.page x.number _ now j q r)
      (λ j q e. failed_more t.here.store x.ino x.page x.number j q e)) (λ h. copies_kept_by_same ask_of c lives es t))
      (copies_kept_by_faults (cl.waits_for_write t x) x.number u)

  copies_kept_by_hardened : (t : Turn) (d : DirtyPage) → HardOn c (lives t.here.server) t.here.server d.ino d.page (logged c lives t.out es) →
      ((now : List ℕ) (ino : ℕ) (p : PageNo) → PageOk (held_in t.here.session ino).mode now t.here.store ino p →
      PageOk (held_in t.here.session ino).mode now (record t.here.store { pages = pages.harden_page t.here.store.pages d }) ino p) →
      Keeps ask_of c lives es t (with_store (record t.here.store { pages = pages.harden_page t.here.store.pages d }) t)
  copies_kept_by_hardened t d hard f =
      record {
        keep =
            λ r. record {
              pages = λ ino p. f _ ino p (r.pages ino p);
              right = r.right;
              asked = r.asked;
              fates =
                  hardened_fates c (lives t.here.server) t.here.server t.here.store d (logged c lives t.out es) hard r.fates;
            };
        away = still _ _ _;
      }

  copies_kept_by_harden : (t : Turn) (ino : ℕ) (p : PageNo) (o : Option DirtyPage) → dirty_of t.here.store.pages ino p ≡ o →
      HardOn c (lives t.here.server) t.here.server ino p (logged c lives t.out es) →
      Keeps ask_of c lives es t (with_store (record t.here.store { pages = pages.harden_at t.here.store.pages o }) t)
  unfolding pages.harden_at
  copies_kept_by_harden t ino p None e hard = copies_kept_by_same ask_of c lives es t
  copies_kept_by_harden t ino p (Some d) e hard0 =
      let w = one_place d.ino d.page ino p (found_passes (is_dirty_of ino p) t.here.store.pages.dirty d e) in
      copies_kept_by_hardened t d
      (subst (λ q. HardOn c (lives t.here.server) t.here.server d.ino q (logged c lives t.out es)) (sym w.1)
      (subst (λ i. HardOn c (lives t.here.server) t.here.server i p (logged c lives t.out es)) (sym w.0) hard0))
      (λ now j q r. hardened_ok t.here.store d _ now j q
      (subst (λ q. dirty_of t.here.store.pages d.ino q ≡ Some d) (sym w.1) (subst (λ i. dirty_of t.here.store.pages i p ≡ Some d) (sym w.0) e)) r)

  -- the end of a write, and of a command that failed
  copies_kept_by_ended : (t : Turn) (x : PageCommand) (e : Ended) →
      (e ≡ ends.Hard → HardOn c (lives t.here.server) t.here.server x.ino x.page (logged c lives t.out es)) →
      Keeps ask_of c lives es t (cl.finish_as t x None e)
  unfolding cl.finish_as cl.filled_by cl.hardened pages.harden
  copies_kept_by_ended t x ends.Unknown h = copies_kept_by_same ask_of c lives es t
  copies_kept_by_ended t x ends.Filled h = copies_kept_by_same ask_of c lives es t
  copies_kept_by_ended t x ends.Hard h = copies_kept_by_harden t x.ino x.page (dirty_of t.here.store.pages x.ino x.page) refl (h refl)
  copies_kept_by_ended t x ends.Redirty h = copies_kept_by_same ask_of c lives es t
  copies_kept_by_ended t x ends.Failed h = copies_kept_by_failed t x x.kind

  copies_kept_by_command : (t : Turn) (x : PageCommand) (ok : Bool) →
      ((y : PageCommand) → pages.command_of t.here.store.commands x.number ≡ Some y →
      pages.ended_as y ok (pages.version_of t.here.store.pages x.ino x.page) ≡ ends.Hard →
      HardOn c (lives t.here.server) t.here.server x.ino x.page (logged c lives t.out es)) → Keeps ask_of c lives es t (cl.finish_command t x ok None)
  unfolding cl.finish_command cl.ended_by cl.finish_as pages.end_command pages.end_at
  copies_kept_by_command t x ok hard = go (pages.command_of t.here.store.commands x.number) refl
    where
      v : ℕ
      v = pages.version_of t.here.store.pages x.ino x.page

      go : (o : Option PageCommand) → pages.command_of t.here.store.commands x.number ≡ o →
          Keeps ask_of c lives es t (cl.ended_by t x None (pages.end_at t.here.store.commands x.number ok v o))
      go None e = copies_kept_by_same ask_of c lives es t
      go (Some y) e =
          let u : Turn = cl.with_commands (pages.without_command x.number t.here.store.commands) t in
          copies_kept_by_sequence ask_of c lives es t u _
          (copies_kept_by_store ask_of c lives es t u.here.store
          (λ now j q r. record {
            mode = r.mode;
            dirty = r.dirty;
            clean = r.clean;
            unmapped = r.unmapped;
            locked = r.locked;
            known = r.known;
            reading =
                λ e. r.reading (any_filter (pages.is_read_of j q) _ t.here.store.commands e);
          }) (λ j q e. e))
          (copies_kept_by_ended u x (pages.ended_as y ok v) (hard y e))

  -- a command that failed, or a write that is done: if that makes its page clean, the entries of the page are hard
  pub copies_kept_by_finish : (number : ℕ) (result : Option (Option (Tag × List ℕ))) (t : Turn) → ((b : Tag × List ℕ) → result ≡ Some (Some b) → ⊥) →
      ((x y : PageCommand) → result ≡ Some None → pages.command_of t.here.store.commands number ≡ Some x →
      pages.command_of t.here.store.commands x.number ≡ Some y → pages.done_as y.kind (pages.version_of t.here.store.pages x.ino x.page) ≡ ends.Hard →
      HardOn c (lives t.here.server) t.here.server x.ino x.page (logged c lives t.out es)) →
      Keeps ask_of c lives es t (cl.finish number result t)
  unfolding cl.finish cl.finish_at cl.finish_by cl.done_by
  copies_kept_by_finish number result t f hard = go (pages.command_of t.here.store.commands number) refl result refl
    where
      go : (o : Option PageCommand) → pages.command_of t.here.store.commands number ≡ o → (r : Option (Option (Tag × List ℕ))) → result ≡ r →
          Keeps ask_of c lives es t (cl.finish_at t o r)
      go None e r q = copies_kept_by_same ask_of c lives es t
      go (Some x) e None q = copies_kept_by_command t x false (λ y g h. cc)
      go (Some x) e (Some None) q = copies_kept_by_choice ask_of c lives es t (cl.is_result_of x.kind None) _ t
          (λ h. copies_kept_by_command t x true (λ y g h. hard x y q e g h)) (λ h. copies_kept_by_same ask_of c lives es t)
      go (Some x) e (Some (Some b)) q = absurd (f b q)

  -- writes carry the bytes of the log
  copies_kept_by_write_out : (t : Turn) (d : DirtyPage) (m : MappedBlock) → dirty_of t.here.store.pages d.ino d.page ≡ Some d →
      Keeps ask_of c lives es t (cp.submit_write t d m)
  unfolding cp.submit_write cp.submit_command pages.begin_command
  copies_kept_by_write_out t d m is =
      let x : Store = (cp.with_command d.ino d.page (io.Write d.version) t).here.store in
      copies_kept_by_sequence ask_of c lives es t (with_store x t) _
      (copies_kept_by_store ask_of c lives es t x
      (λ now j q r. record {
        mode = r.mode;
        dirty = r.dirty;
        clean = r.clean;
        unmapped = r.unmapped;
        locked = r.locked;
        known = r.known;
        reading =
            λ e. read j q _ r.reading (any_last (pages.is_read_of j q) _ t.here.store.commands e);
      }) (λ j q e. e))
      (copies_kept_by_aside ask_of c lives es (with_store x t) t.operations (t.next_command + 1) _ (λ x. refl)
      (λ r. record { one = (r.pages d.ino d.page).dirty d is; rest = record {} }) (λ a. a))
    where
      read : (j : ℕ) (q : PageNo) (held : ℕ) → (pages.is_being_read t.here.store.commands j q ≡ true → 1 ≤ held) →
          (list_any (pages.is_read_of j q) t.here.store.commands ≡ true) ⊎ (false ≡ true) → 1 ≤ held
      read j q held f (inl e) = f e
      read j q held f (inr e) = cc

  copies_kept_by_page : (t : Turn) (s : ClientSession) (n : Stamp) (tick : Bool) (ino : ℕ) (p : PageNo) (o : Option DirtyPage) →
      dirty_of t.here.store.pages ino p ≡ o → Keeps ask_of c lives es t (cp.write_page t s n tick o)
  unfolding cp.write_page cp.write_due cp.write_out cp.write_out_at
  copies_kept_by_page t s n tick ino p None e = copies_kept_by_same ask_of c lives es t
  copies_kept_by_page t s n tick ino p (Some d) e = copies_kept_by_choice ask_of c lives es t (cp.is_writable t s n tick d) _ t
      (λ h. go (pages.mapping_of t.here.store.extents d.ino d.page)) (λ h. copies_kept_by_same ask_of c lives es t)
    where
      is : dirty_of t.here.store.pages d.ino d.page ≡ Some d
      is = let w = one_place d.ino d.page ino p (found_passes (is_dirty_of ino p) t.here.store.pages.dirty d e) in
          subst (λ q. dirty_of t.here.store.pages d.ino q ≡ Some d) (sym w.1) (subst (λ i. dirty_of t.here.store.pages i p ≡ Some d) (sym w.0) e)

      go : (m : Option MappedBlock) → Keeps ask_of c lives es t (cp.write_out_at t d m)
      go None = copies_kept_by_same ask_of c lives es t
      go (Some m) = copies_kept_by_write_out t d m is

  copies_kept_by_pages : (s : ClientSession) (n : Stamp) (tick : Bool) (xs : List (ℕ × PageNo)) (t : Turn) →
      Keeps ask_of c lives es t (cp.write_each s n tick xs t)
  unfolding cp.write_each
  copies_kept_by_pages s n tick [] t = copies_kept_by_same ask_of c lives es t
  copies_kept_by_pages s n tick (x ∷ xs) t = let u : Turn = cp.write_page t s n tick (dirty_of t.here.store.pages x.0 x.1) in
      copies_kept_by_sequence ask_of c lives es t u _ (copies_kept_by_page t s n tick x.0 x.1 (dirty_of t.here.store.pages x.0 x.1) refl)
      (copies_kept_by_pages s n tick xs u)

  pub copies_kept_by_writes : (n : Stamp) (tick : Bool) (t : Turn) → Keeps ask_of c lives es t (cp.writes n tick t)
  unfolding cp.writes cp.writes_by
  copies_kept_by_writes n tick t = go t.here.session
    where
      go : (o : Option ClientSession) → Keeps ask_of c lives es t (cp.writes_by t n tick o)
      go None = copies_kept_by_same ask_of c lives es t
      go (Some s) = copies_kept_by_pages s n tick (pages.dirty_places t.here.store.pages) t

pub operations_keep_copies : OperationsKeepCopies
operations_keep_copies ask_of c lives es n t r = operations_keep ask_of c lives es n t r
