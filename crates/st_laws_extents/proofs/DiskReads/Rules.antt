-- What each change by a rule of a client leaves of outstanding reads; so do changes, one after another.
use Rattle.st_lemmas.proofs.Words
use Words.{◌≡◌, ℕ, ◌+◌, ◌≤◌, ◌<◌, ◌⊎◌, Bool, true, false, ◌&&◌, ◌==◌, not, List, [], ◌∷◌, ◌++◌, Option, Some, None, refl, sym, ap, ◌∙◌, subst, inl, inr, arith}
use Words.{is_some, map, nat_le, eq-eqb, eqb-true, FileId, PageNo, ServerId, Stamp, AppAnswer, Note, Output, CleanPage, IoKind, KnownExtent, LostPage}
use Words.{MappedBlock, Operation, PageCommand, DirtyPage, append_assoc}
use Words.notes
use Words.outputs
use Words.io
use Words.ClientLease as lease
use Words.ClientPages as pages
use Words.ClientPages.{Store}
use Words.ClientPasses as passes
use Words.ClientState.{ClientSession, Turn, answer_to, is_serving, note, say, with_lost_rows, with_operations, with_session, with_store}
use Words.Keys.{same_page}
use Words.Lists.{Has}
use Words.Tables.{and_both, and_true, has_append, has_filter, not_true, some_passes}
use Words.Lengths.{nothing_after}
use Words.Truth.{not_both}
use Rattle.st_lemmas.proofs.Contents.{Place_is, find_stays, one_place}
use Rattle.st_laws_steps.specs.Client.Client as client
use Rattle.st_laws_steps.specs.Client.Client.{ChangesPage, GoesOn, IsBegun, Plain, Unasked, with_greeted}
use Rattle.st_laws_steps.proofs.Client.Nexts.{dirty_put, mapped_learn}
use Rattle.st_laws_extents.specs.DiskReads.OutstandingReads.{ReadsClean, ReadsKept, Unchanged}

abbrev Changes : Stamp → Turn → Turn → Type 0
Changes now t u = ReadsKept now t u

abbrev Change : Stamp → Turn → Turn → Type 0
Change now t u = ReadsKept now t u

-- Outputs that note no change of a page.
abbrev NoChanges : List Output → Type 0
NoChanges os = (n : Note) → Has (outputs.Note n) os → (f : FileId) (p : PageNo) → ChangesPage f p n → ⊥

none_changed : NoChanges []
none_changed n i f p h = absurd i

plain_changes : (o : Output) → Plain o → NoChanges (o ∷ [])
plain_changes o p n (inr i) f q h = absurd i
plain_changes o p n (inl e) f q h = go n (subst Plain (sym e) p) h
  where
    go : (n : Note) → Plain (outputs.Note n) → ChangesPage f q n → ⊥
    go (notes.Accepted g r bytes) p h = absurd p
    go (notes.Patched g r at bytes) p h = absurd p
    go n p h = absurd h

answers_changed : (a : AppAnswer) (os : List Operation) → NoChanges (map (answer_to a) os)
answers_changed a [] n i f p h = absurd i
answers_changed a (o ∷ os) n (inl e) f p h = no e
  where
    no : outputs.Note n ≡ answer_to a o → ⊥
    no z = cc
answers_changed a (o ∷ os) n (inr i) f p h = answers_changed a os n i f p h

-- commands that there were
same_reads : (t u : Turn) (more : List Output) → u.here.store.commands ≡ t.here.store.commands → NoChanges more → (pc : PageCommand) → Has pc u.here.store.commands → pc.kind ≡ io.Read → (Has pc t.here.store.commands × Unchanged t.here.server pc more) ⊎ (t.next_command ≤ pc.number)
same_reads t u more e n pc i k = inl (subst (Has pc) e i, λ m j f p h sv a b. n m j f p h)

-- a change that leaves commands, pages that are dirty, and what is known
kept : (now : Stamp) (t u : Turn) (more : List Output) → u.out ≡ t.out ++ more → u.next_command ≡ t.next_command → u.here.server ≡ t.here.server → u.here.store.commands ≡ t.here.store.commands → NoChanges more → (ReadsClean t.here.store → ReadsClean u.here.store) → Changes now t u
kept now t u more o n s c f g = record { low = (let z = n in omega (arith, z)); server = s; more = more; out = o; notes = λ m i a p h. absurd (f m i a p h); reads = same_reads t u more c f; clean = g }

still : {now : Stamp} (t : Turn) → Changes now t t
still {now} t = kept now t t [] (nothing_after t.out) refl refl refl none_changed (λ h. h)

unchanged_both : (sv : ServerId) (pc : PageCommand) (os ps : List Output) → Unchanged sv pc os → Unchanged sv pc ps → Unchanged sv pc (os ++ ps)
unchanged_both sv pc os ps a b n i f p h s x y = go (has_append os ps (outputs.Note n) i)
  where
    go : Has (outputs.Note n) os ⊎ Has (outputs.Note n) ps → ⊥
    go (inl j) = a n j f p h s x y
    go (inr j) = b n j f p h s x y

pub both_of : (now : Stamp) (t u v : Turn) → Changes now t u → Changes now u v → Changes now t v
both_of now t u v a b =
    record {
      low = let x = a.low in let y = b.low in omega (arith, x, y);
      server = b.server ∙ a.server;
      more = a.more ++ b.more;
      out = b.out ∙ ap (λ os. os ++ b.more) a.out ∙ append_assoc t.out a.more b.more;
      notes = λ n i f p h. in_both n f p h (has_append a.more b.more (outputs.Note n) i);
      reads = λ pc i k. later pc (b.reads pc i k) k;
      clean = λ h. b.clean (a.clean h);
    }
  where
    in_both : (n : Note) (f : FileId) (p : PageNo) → ChangesPage f p n → Has (outputs.Note n) a.more ⊎ Has (outputs.Note n) b.more → f.server ≡ t.here.server
    in_both n f p h (inl i) = a.notes n i f p h
    in_both n f p h (inr i) = b.notes n i f p h ∙ a.server

    earlier : (pc : PageCommand) → Unchanged u.here.server pc b.more → (Has pc t.here.store.commands × Unchanged t.here.server pc a.more) ⊎ (t.next_command ≤ pc.number) → (Has pc t.here.store.commands × Unchanged t.here.server pc (a.more ++ b.more)) ⊎ (t.next_command ≤ pc.number)
    earlier pc q (inr l) = inr l
    earlier pc q (inl h) = inl (h.0, unchanged_both t.here.server pc a.more b.more h.1 (subst (λ s. Unchanged s pc b.more) a.server q))

    later : (pc : PageCommand) → (Has pc u.here.store.commands × Unchanged u.here.server pc b.more) ⊎ (u.next_command ≤ pc.number) → pc.kind ≡ io.Read → (Has pc t.here.store.commands × Unchanged t.here.server pc (a.more ++ b.more)) ⊎ (t.next_command ≤ pc.number)
    later pc (inr l) k = inr (let x = a.low in omega (arith, l, x))
    later pc (inl h) k = earlier pc h.1 (a.reads pc h.0 k)

-- The changes.
after_says : {now : Stamp} (t : Turn) (o : Output) → Plain o → Change now t (say t o)
after_says {now} t o p = kept now t (say t o) (o ∷ []) refl refl refl refl (plain_changes o p) (λ h. h)

after_operates : {now : Stamp} (t : Turn) (os : List Operation) → Change now t (with_operations os t)
after_operates {now} t os = kept now t (with_operations os t) [] (nothing_after t.out) refl refl refl none_changed (λ h. h)

after_answers : {now : Stamp} (t : Turn) (os ops : List Operation) (answer : AppAnswer) → Change now t (record t { operations = os; out = t.out ++ map (answer_to answer) ops })
after_answers {now} t os ops a = kept now t (record t { operations = os; out = t.out ++ map (answer_to a) ops }) (map (answer_to a) ops) refl refl refl refl (answers_changed a ops) (λ h. h)

after_greets : {now : Stamp} (t : Turn) (g : Option Stamp) → Change now t (with_greeted g t)
after_greets {now} t g = kept now t (with_greeted g t) [] (nothing_after t.out) refl refl refl none_changed (λ h. h)

after_tells_lost : {now : Stamp} (t : Turn) (lost : List LostPage) → Change now t (with_lost_rows lost t)
after_tells_lost {now} t lost = kept now t (with_lost_rows lost t) [] (nothing_after t.out) refl refl refl none_changed (λ h. h)

after_begins : {now : Stamp} (t : Turn) (s : ClientSession) → t.here.session ≡ None → now.0 < (lease.end_of t.config s.lease).0 → IsBegun s →
    Change now t (with_session s t)
after_begins {now} t s a b c = kept now t (with_session s t) [] (nothing_after t.out) refl refl refl none_changed (λ h. h)

after_follows : {now : Stamp} (t : Turn) (s u : ClientSession) → t.here.session ≡ Some s → GoesOn t.here.store s u → Change now t (with_session u t)
after_follows {now} t s u e g = kept now t (with_session u t) [] (nothing_after t.out) refl refl refl none_changed (λ h. h)

after_learns : {now : Stamp} (t : Turn) (e : KnownExtent) → Unasked t.here.session → (e.mapping ≡ None → pages.known_of t.here.store.extents e.ino e.page ≡ None) → Change now t (with_store (record t.here.store { extents = pages.with_known e t.here.store.extents }) t)
after_learns {now} t e a b =
    kept now t (with_store (record t.here.store { extents = pages.with_known e t.here.store.extents }) t) [] (nothing_after t.out) refl refl refl none_changed
    (λ h pc i k. let z = h pc i k in (z.0, mapped_learn e t.here.store.extents pc.ino pc.page b z.1))

-- a file of an outstanding command is not idle
pub not_idle : (st : Store) (pc : PageCommand) (ino : ℕ) → Has pc st.commands → pc.ino ≡ ino → pages.is_idle st ino ≡ true → ⊥
not_idle st pc ino i e idle =
    not_both (pages.is_outstanding st.commands ino) (some_passes (pages.is_command_on ino) st.commands pc i (eq-eqb pc.ino ino e)) (not_true (pages.is_outstanding st.commands ino) (and_true (not (pages.has_dirty st.pages ino)) (not (pages.is_outstanding st.commands ino)) idle).1)

forget_mapped : (ino : ℕ) (p : PageNo) (j : ℕ) (q : PageNo) (xs : List KnownExtent) → (j ≡ ino → ⊥) → pages.is_mapped xs j q ≡ true → pages.is_mapped (pages.known_before ino p xs) j q ≡ true
forget_mapped ino p j q xs n m = ap (λ o. is_some (pages.mapping_at o)) (find_stays (pages.is_known_of j q) (pages.is_known_behind ino p) apart xs) ∙ m
  where
    apart : (x : KnownExtent) → pages.is_known_of j q x ≡ true → pages.is_known_behind ino p x ≡ false
    apart x z = go (x.ino == ino) refl
      where
        go : (b : Bool) → (x.ino == ino) ≡ b → (b && nat_le p.0 x.page.0) ≡ false
        go true b = absurd (n (sym (one_place x.ino x.page j q z).0 ∙ eqb-true x.ino ino b))
        go false b = refl

after_forgets : {now : Stamp} (t : Turn) (ino : ℕ) (p : PageNo) → pages.is_idle t.here.store ino ≡ true → Change now t (with_store (pages.forget_from t.here.store ino p) t)
unfolding pages.forget_from pages.drop_from
after_forgets {now} t ino p idle =
    kept now t (with_store (pages.forget_from t.here.store ino p) t) [] (nothing_after t.out) refl refl refl none_changed
    (λ h pc i k. let z = h pc i k in (z.0, forget_mapped ino p pc.ino pc.page t.here.store.extents (λ e. not_idle t.here.store pc ino i e idle) z.1))

after_caches : {now : Stamp} (t : Turn) (clean : List CleanPage) → Change now t (with_store (record t.here.store { pages = record t.here.store.pages { clean = clean } }) t)
after_caches {now} t clean = kept now t (with_store (record t.here.store { pages = record t.here.store.pages { clean = clean } }) t) [] (nothing_after t.out) refl refl refl none_changed (λ h. h)

-- a change of a page forgets the read of it
read_apart : (ino : ℕ) (p : PageNo) (pc : PageCommand) → not (pages.is_read_of ino p pc) ≡ true → pc.kind ≡ io.Read → Place_is pc.ino pc.page ino p ≡ false
read_apart ino p pc n k = go (Place_is pc.ino pc.page ino p) refl
  where
    go : (b : Bool) → Place_is pc.ino pc.page ino p ≡ b → b ≡ false
    go false q = refl
    go true q = absurd (not_both (pages.is_read_of ino p pc) (ap (λ z. not (pages.is_write z) && Place_is pc.ino pc.page ino p) k ∙ q) (not_true (pages.is_read_of ino p pc) n))

place_back : (i : ℕ) (p : PageNo) (j : ℕ) (q : PageNo) → Place_is i p j q ≡ false → Place_is j q i p ≡ false
place_back i p j q n = go (Place_is j q i p) refl
  where
    go : (b : Bool) → Place_is j q i p ≡ b → b ≡ false
    go false e = refl
    go true e = let z = one_place j q i p e in absurd (not_both (Place_is i p j q) (and_both (i == j) (same_page p q) (eq-eqb i j (sym z.0)) (eq-eqb p.0 q.0 (ap (λ (r : PageNo). r.0) (sym z.1)))) n)

after_writes : {now : Stamp} (t : Turn) (s : ClientSession) (f : FileId) (p : PageNo) (bytes : List ℕ) (n : Note) → t.here.session ≡ Some s → is_serving t.config s now ≡ true → f.server ≡ t.here.server → pages.is_mapped t.here.store.extents f.ino p ≡ true → ChangesPage f p n →
    Change now t (passes.with_pages_changed (pages.written t.here.store.pages f.ino p bytes) f.ino p (note t n))
unfolding pages.written pages.forget_read
after_writes {now} t s f p bytes n se sv own m h =
    record {
      low = omega arith;
      server = refl;
      more = outputs.Note n ∷ [];
      out = refl;
      notes = λ k i g q c. noted k i g q c;
      reads = λ pc i k. let z = has_filter (λ c. not (pages.is_read_of f.ino p c)) t.here.store.commands pc i in inl (z.0, unchanged pc (read_apart f.ino p pc z.1 k));
      clean = λ c pc i k.
          let z = has_filter (λ c. not (pages.is_read_of f.ino p c)) t.here.store.commands pc i in
          let y = c pc z.0 k in
          (dirty_put (pages.new_dirty t.here.store.pages f.ino p bytes) t.here.store.pages.dirty pc.ino pc.page false (place_back pc.ino pc.page f.ino p (read_apart f.ino p pc z.1 k)) ∙ y.0, y.1);
    }
  where
    its : (k : Note) (g : FileId) (q : PageNo) → ChangesPage g q k → ChangesPage f p k → (g ≡ f) × (q ≡ p)
    its (notes.Accepted a b bytes) g q c d = (c.0 ∙ sym d.0, c.1 ∙ sym d.1)
    its (notes.Patched a b at bytes) g q c d = (c.0 ∙ sym d.0, c.1 ∙ sym d.1)
    its k g q c d = absurd d

    of_note : (k : Note) → outputs.Note k ≡ outputs.Note n → ChangesPage f p k
    of_note k e = subst (ChangesPage f p) (same k e) h
      where
        same : (k : Note) → outputs.Note k ≡ outputs.Note n → n ≡ k
        same k e = cc

    noted : (k : Note) → Has (outputs.Note k) (outputs.Note n ∷ []) → (g : FileId) (q : PageNo) → ChangesPage g q k → g.server ≡ t.here.server
    noted k (inr i) g q c = absurd i
    noted k (inl e) g q c = ap (λ (x : FileId). x.server) (its k g q c (of_note k e)).0 ∙ own

    unchanged : (pc : PageCommand) → Place_is pc.ino pc.page f.ino p ≡ false → Unchanged t.here.server pc (outputs.Note n ∷ [])
    unchanged pc a k (inr i) g q c sv x y = absurd i
    unchanged pc a k (inl e) g q c sv x y =
        let z = its k g q c (of_note k e) in
        not_both (Place_is pc.ino pc.page f.ino p)
        (and_both (pc.ino == f.ino) (same_page pc.page p) (eq-eqb pc.ino f.ino (sym x ∙ ap (λ (v : FileId). v.ino) z.0)) (eq-eqb pc.page.0 p.0 (ap (λ (r : PageNo). r.0) (sym y ∙ z.1)))) a

-- an output that isn't a note
abbrev PlainOrNot : Output → Type 0
PlainOrNot (outputs.Note n) = ⊥
PlainOrNot o = Unit {0}

-- a command that begins
begun : (now : Stamp) (t : Turn) (ino : ℕ) (p : PageNo) (kind : IoKind) (o : Output) (u : Turn) → PlainOrNot o → u.out ≡ t.out ++ o ∷ [] → u.next_command ≡ t.next_command + 1 → u.here.server ≡ t.here.server →
    u.here.store.commands ≡ t.here.store.commands ++ pages.page_command t.next_command ino p kind ∷ [] → (ReadsClean t.here.store → ReadsClean u.here.store) → Change now t u
begun now t ino p kind o u q out next sv cs clean =
    record {
      low = (let z = next in omega (arith, z));
      server = sv;
      more = o ∷ [];
      out = out;
      notes = λ n i f r h. absurd (none n i);
      reads = λ pc i k. go pc (has_append t.here.store.commands (pages.page_command t.next_command ino p kind ∷ []) pc (subst (Has pc) cs i));
      clean = clean;
    }
  where
    none : (n : Note) → Has (outputs.Note n) (o ∷ []) → ⊥
    none n (inr i) = absurd i
    none n (inl e) = subst PlainOrNot (sym e) q

    go : (pc : PageCommand) → Has pc t.here.store.commands ⊎ Has pc (pages.page_command t.next_command ino p kind ∷ []) → (Has pc t.here.store.commands × Unchanged t.here.server pc (o ∷ [])) ⊎ (t.next_command ≤ pc.number)
    go pc (inl i) = inl (i, λ n j f r h s x y. none n j)
    go pc (inr (inl e)) = inr (let z = ap (λ (c : PageCommand). c.number) e in omega (arith, z))
    go pc (inr (inr i)) = absurd i

after_reads : {now : Stamp} (t : Turn) (ino : ℕ) (p : PageNo) (m : MappedBlock) → pages.mapping_of t.here.store.extents ino p ≡ Some m → pages.dirty_of t.here.store.pages ino p ≡ None → Change now t (passes.submit_read t ino p m)
unfolding passes.submit_read passes.submit_command pages.begin_command
after_reads {now} t ino p m e d =
    begun now t ino p io.Read (outputs.Submit t.next_command m.at (Rattle.st_base.specs.declared.disk.Command.TheVariants.Read m.at)) (passes.submit_read t ino p m) tt refl refl refl refl
    (λ h pc i k. go h pc k (has_append t.here.store.commands (pages.page_command t.next_command ino p io.Read ∷ []) pc i))
  where
    go : ReadsClean t.here.store → (pc : PageCommand) → pc.kind ≡ io.Read → Has pc t.here.store.commands ⊎ Has pc (pages.page_command t.next_command ino p io.Read ∷ []) → (pages.dirty_of t.here.store.pages pc.ino pc.page ≡ None) × (pages.is_mapped t.here.store.extents pc.ino pc.page ≡ true)
    go h pc k (inl i) = h pc i k
    go h pc k (inr (inl q)) =
        subst (λ (c : PageCommand). (pages.dirty_of t.here.store.pages c.ino c.page ≡ None) × (pages.is_mapped t.here.store.extents c.ino c.page ≡ true)) (sym q) (d, ap (λ o. is_some o) e)
    go h pc k (inr (inr i)) = absurd i

after_submits : {now : Stamp} (t : Turn) (s : ClientSession) (ino : ℕ) (p : PageNo) (d : DirtyPage) (m : MappedBlock) → t.here.session ≡ Some s → pages.dirty_of t.here.store.pages ino p ≡ Some d → pages.mapping_of t.here.store.extents d.ino d.page ≡ Some m →
    pages.is_being_written t.here.store.commands d.ino d.page ≡ false → Change now t (passes.submit_write t d m)
unfolding passes.submit_write passes.submit_command pages.begin_command
after_submits {now} t s ino p d m se e i w =
    begun now t d.ino d.page (io.Write d.version) (outputs.Submit t.next_command m.at (Rattle.st_base.specs.declared.disk.Command.TheVariants.Write m.at (record { file = passes.file t d.ino; page = d.page; birth = m.birth }) d.bytes)) (passes.submit_write t d m) tt refl refl refl refl
    (λ h pc j k. go h pc k (has_append t.here.store.commands (pages.page_command t.next_command d.ino d.page (io.Write d.version) ∷ []) pc j))
  where
    no : io.Write d.version ≡ io.Read → ⊥
    no z = cc

    go : ReadsClean t.here.store → (pc : PageCommand) → pc.kind ≡ io.Read → Has pc t.here.store.commands ⊎ Has pc (pages.page_command t.next_command d.ino d.page (io.Write d.version) ∷ []) → (pages.dirty_of t.here.store.pages pc.ino pc.page ≡ None) × (pages.is_mapped t.here.store.extents pc.ino pc.page ≡ true)
    go h pc k (inl j) = h pc j k
    go h pc k (inr (inl q)) = absurd (no (sym (ap (λ (c : PageCommand). c.kind) q) ∙ k))
    go h pc k (inr (inr j)) = absurd j

-- Each change, and changes.
change_kept : (now : Stamp) (t u : Turn) → client.Change now t u → ReadsKept now t u
change_kept now t _ (client.Says _ o p) = after_says {now = now} t o p
change_kept now t _ (client.Operates _ os) = after_operates {now = now} t os
change_kept now t _ (client.Answers _ os ops a) = after_answers {now = now} t os ops a
change_kept now t _ (client.Greets _ g) = after_greets {now = now} t g
change_kept now t _ (client.TellsLost _ lost) = after_tells_lost {now = now} t lost
change_kept now t _ (client.Begins _ s a b c) = after_begins {now = now} t s a b c
change_kept now t _ (client.Follows _ s u e g) = after_follows {now = now} t s u e g
change_kept now t _ (client.Learns _ e a b) = after_learns {now = now} t e a b
change_kept now t _ (client.Forgets _ ino p i) = after_forgets {now = now} t ino p i
change_kept now t _ (client.Caches _ clean) = after_caches {now = now} t clean
change_kept now t _ (client.Writes _ s f p bytes n se sv own m h) = after_writes {now = now} t s f p bytes n se sv own m h
change_kept now t _ (client.Reads _ ino p m i clean) = after_reads {now = now} t ino p m i clean
change_kept now t _ (client.Submits _ s ino p d m se e i w) = after_submits {now = now} t s ino p d m se e i w

pub changes_kept : (now : Stamp) (t u : Turn) → client.Changes now t u → ReadsKept now t u
changes_kept now t _ (client.Still _) = still {now = now} t
changes_kept now t v (client.Then _ u _ c r) = both_of now t u v (change_kept now t u c) (changes_kept now u v r)
