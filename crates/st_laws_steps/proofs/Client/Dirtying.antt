-- Changes leave dirty what is dirty; and each page that they note as changed is dirty, under a lease that is not over.
use Rattle.st_lemmas.proofs.Words
use Words.{◌≡◌, ℕ, ◌+◌, ◌<◌, Bool, true, false, List, [], ◌∷◌, ◌++◌, Option, Some, None, refl, sym, ap, ◌∙◌, subst, arith, if◌then◌else◌, find, map, nat_le}
use Words.{leb-false, Config, FileId, PageNo, Stamp, AppAnswer, Note, Output, DirtyPage, Operation, append_assoc}
use Words.notes
use Words.outputs
use Words.phases
use Words.Keys.{put}
use Words.Leases as leases
use Words.ClientLease as lease
use Words.ClientPages as pages
use Words.ClientPasses as cp
use Words.ClientState.{ClientSession, Association, Turn, answer_to, is_serving}
use Words.Lengths.{nothing_after}
use Rattle.st_lemmas.proofs.Contents.{Place_is, self_place}
use Rattle.st_laws_steps.specs.Client.Client.{Plain, PlainNote, ChangesPage, Change, Says, Operates, Answers, Greets, TellsLost, Begins, Follows, Learns}
use Rattle.st_laws_steps.specs.Client.Client.{Forgets, Caches, Writes, Reads, Submits, Changes, Still, Then}
use Rattle.st_laws_steps.specs.Client.Losses.{SessionNext}
use Rattle.st_laws_steps.specs.Client.Notes.{NoteAt, NotesAll, IsChanged, StaysDirty}
use Rattle.st_laws_steps.proofs.Client.Nexts.{Next, next_then, changes_next, change_next, dirty_put}

pub notes_both : (Q : FileId → PageNo → Type 0) (os ps : List Output) → NotesAll Q os → NotesAll Q ps → NotesAll Q (os ++ ps)
notes_both Q [] ps a b = b
notes_both Q (o ∷ os) ps a b = record { one = a.one; rest = notes_both Q os ps a.rest b }

pub note_map : (P Q : FileId → PageNo → Type 0) → ((f : FileId) (p : PageNo) → P f p → Q f p) → (o : Output) → NoteAt P o → NoteAt Q o
note_map P Q g (outputs.Note n) h = go n h
  where
    go : (n : Note) → NoteAt P (outputs.Note n) → NoteAt Q (outputs.Note n)
    go (notes.Accepted f p bytes) h = g f p h
    go (notes.Patched f p at bytes) h = g f p h
    go n h = tt
note_map P Q g o h = tt

pub notes_map : (P Q : FileId → PageNo → Type 0) → ((f : FileId) (p : PageNo) → P f p → Q f p) → (os : List Output) → NotesAll P os → NotesAll Q os
notes_map P Q g [] h = record {}
notes_map P Q g (o ∷ os) h = record { one = note_map P Q g o h.one; rest = notes_map P Q g os h.rest }

pub plain_note : (Q : FileId → PageNo → Type 0) (o : Output) → Plain o → NoteAt Q o
plain_note Q (outputs.Note n) h = go n h
  where
    go : (n : Note) → PlainNote n → NoteAt Q (outputs.Note n)
    go (notes.Accepted f p bytes) h = absurd h
    go (notes.Patched f p at bytes) h = absurd h
    go n h = tt
plain_note Q o h = tt

pub answers_notes : (Q : FileId → PageNo → Type 0) (a : AppAnswer) (os : List Operation) → NotesAll Q (map (answer_to a) os)
answers_notes Q a [] = record {}
answers_notes Q a (o ∷ os) = record { one = tt; rest = answers_notes Q a os }

changed_note : (Q : FileId → PageNo → Type 0) (f : FileId) (p : PageNo) (n : Note) → ChangesPage f p n → Q f p → NoteAt Q (outputs.Note n)
changed_note Q f p (notes.Accepted g q bytes) h z = subst (λ y. Q g y) h.1 (subst (λ x. Q x p) h.0 z)
changed_note Q f p (notes.Patched g q at bytes) h z = subst (λ y. Q g y) h.1 (subst (λ x. Q x p) h.0 z)
changed_note Q f p n h z = absurd h

-- under a lease that serves, its end is still to come
pub serving_before : (k : Config) (s : ClientSession) (now : Stamp) → is_serving k s now ≡ true → now.0 < (lease.end_of k s.lease).0
unfolding leases.phase
serving_before k s now e = go (nat_le (s.lease.date.0 + k.lease) now.0) refl e
  where
    no : ◌≡◌ {A = Bool} false true → ⊥
    no z = cc

    go : (b : Bool) → nat_le (s.lease.date.0 + k.lease) now.0 ≡ b → lease.may_use (lease.standing_by (if b then phases.Expired else leases.phase_living k s.lease.date s.lease.condemned now)) ≡ true → now.0 < (lease.end_of k s.lease).0
    go true q z = absurd (no z)
    go false q z = let w = leb-false (s.lease.date.0 + k.lease) now.0 q in omega (arith, w)

-- What changes leave of dirty pages, and what they note.
pub record Dirtied (now : Stamp) (t u : Turn) : Type 0 where
  pub next : Next now t u
  pub dirty : StaysDirty t.here u.here
  pub more : List Output
  pub out : u.out ≡ t.out ++ more
  pub noted : NotesAll (IsChanged t.config now u.here) more

-- what was noted as changed lasts
pub changed_lasts : (k : Config) (now : Stamp) (a b : Association) → a.server ≡ b.server → SessionNext k now a.session b.session → StaysDirty a b → (f : FileId) (p : PageNo) → IsChanged k now a f p → IsChanged k now b f p
changed_lasts k now a b sv se st f p c = go b.session refl (subst (λ z. SessionNext k now z b.session) c.is se)
  where
    go : (s : Option ClientSession) → b.session ≡ s → SessionNext k now (Some c.session) s → IsChanged k now b f p
    go None q z = absurd z
    go (Some u) q z = let d = st f.ino p c.page c.dirty in let y = c.before in record { server = c.server ∙ sv; session = u; is = q; before = omega (arith, y, z); page = d.0; dirty = d.1 }

dirtied_then : (now : Stamp) (t u v : Turn) → Dirtied now t u → Dirtied now u v → Dirtied now t v
dirtied_then now t u v a b =
    record {
      next = next_then now t u v a.next b.next;
      dirty = λ ino p d e. let z = a.dirty ino p d e in b.dirty ino p z.0 z.1;
      more = a.more ++ b.more;
      out = b.out ∙ ap (λ os. os ++ b.more) a.out ∙ append_assoc t.out a.more b.more;
      noted =
          notes_both (IsChanged t.config now v.here) a.more b.more
          (notes_map (IsChanged t.config now u.here) (IsChanged t.config now v.here) (changed_lasts t.config now u.here v.here b.next.server (subst (λ k. SessionNext k now u.here.session v.here.session) (sym a.next.config) b.next.session) b.dirty) a.more a.noted)
          (subst (λ k. NotesAll (IsChanged k now v.here) b.more) (sym a.next.config) b.noted);
    }

same_dirty : (a : Association) → StaysDirty a a
same_dirty a ino p d e = (d, e)

-- a page that is written is dirty, and all others stay so
written_dirty : (now : Stamp) (t : Turn) (f : FileId) (p : PageNo) (bytes : List ℕ) (n : Note) → (ino : ℕ) (q : PageNo) (d : DirtyPage) → pages.dirty_of t.here.store.pages ino q ≡ Some d → (e : DirtyPage) × (pages.dirty_of (pages.written t.here.store.pages f.ino p bytes) ino q ≡ Some e)
unfolding pages.written
written_dirty now t f p bytes n ino q d e = go (Place_is f.ino p ino q) refl
  where
    new : DirtyPage
    new = pages.new_dirty t.here.store.pages f.ino p bytes

    go : (b : Bool) → Place_is f.ino p ino q ≡ b → (e : DirtyPage) × (find (pages.is_dirty_of ino q) (put (pages.is_dirty_of f.ino p) new t.here.store.pages.dirty) ≡ Some e)
    go true z = (new, dirty_put new t.here.store.pages.dirty ino q true z)
    go false z = (d, dirty_put new t.here.store.pages.dirty ino q false z ∙ e)

written_here : (ps : pages.Pages) (ino : ℕ) (p : PageNo) (bytes : List ℕ) → pages.dirty_of (pages.written ps ino p bytes) ino p ≡ Some (pages.new_dirty ps ino p bytes)
unfolding pages.written
written_here ps ino p bytes = dirty_put (pages.new_dirty ps ino p bytes) ps.dirty ino p true (self_place ino p)

change_dirty : (now : Stamp) (t u : Turn) → Change now t u → Dirtied now t u
unfolding cp.submit_read cp.submit_write cp.submit_command pages.forget_from pages.drop_from
change_dirty now t _ (Says _ o p) = record { next = change_next now t _ (Says t o p); dirty = same_dirty t.here; more = o ∷ []; out = refl; noted = record { one = plain_note _ o p; rest = record {} } }
change_dirty now t _ (Operates _ os) = record { next = change_next now t _ (Operates t os); dirty = same_dirty t.here; more = []; out = nothing_after t.out; noted = record {} }
change_dirty now t _ (Answers _ os ops a) = record { next = change_next now t _ (Answers t os ops a); dirty = same_dirty t.here; more = _; out = refl; noted = answers_notes _ a ops }
change_dirty now t _ (Greets _ g) = record { next = change_next now t _ (Greets t g); dirty = λ ino p d e. (d, e); more = []; out = nothing_after t.out; noted = record {} }
change_dirty now t _ (TellsLost _ lost) = record { next = change_next now t _ (TellsLost t lost); dirty = λ ino p d e. (d, e); more = []; out = nothing_after t.out; noted = record {} }
change_dirty now t _ (Begins _ s e b n) = record { next = change_next now t _ (Begins t s e b n); dirty = λ ino p d e. (d, e); more = []; out = nothing_after t.out; noted = record {} }
change_dirty now t _ (Follows _ s u e g) = record { next = change_next now t _ (Follows t s u e g); dirty = λ ino p d e. (d, e); more = []; out = nothing_after t.out; noted = record {} }
change_dirty now t _ (Learns _ e u h) = record { next = change_next now t _ (Learns t e u h); dirty = λ ino p d e. (d, e); more = []; out = nothing_after t.out; noted = record {} }
change_dirty now t _ (Forgets _ ino p i) = record { next = change_next now t _ (Forgets t ino p i); dirty = λ ino p d e. (d, e); more = []; out = nothing_after t.out; noted = record {} }
change_dirty now t _ (Caches _ clean) = record { next = change_next now t _ (Caches t clean); dirty = λ ino p d e. (d, e); more = []; out = nothing_after t.out; noted = record {} }
change_dirty now t _ (Writes _ s f p bytes n e sv own m h) =
    record {
      next = change_next now t _ (Writes t s f p bytes n e sv own m h);
      dirty = written_dirty now t f p bytes n;
      more = outputs.Note n ∷ [];
      out = refl;
      noted = record { one = changed_note _ f p n h (record { server = own; session = s; is = e; before = serving_before t.config s now sv; page = _; dirty = written_here t.here.store.pages f.ino p bytes }); rest = record {} };
    }
change_dirty now t _ (Reads _ ino p m i clean) = record { next = change_next now t _ (Reads t ino p m i clean); dirty = λ ino p d e. (d, e); more = _; out = refl; noted = record { one = tt; rest = record {} } }
change_dirty now t _ (Submits _ s ino p d m e i k w) = record { next = change_next now t _ (Submits t s ino p d m e i k w); dirty = λ ino p d e. (d, e); more = _; out = refl; noted = record { one = tt; rest = record {} } }

pub changes_dirty : (now : Stamp) (t u : Turn) → Changes now t u → Dirtied now t u
changes_dirty now t _ (Still _) = record { next = changes_next now t t (Still t); dirty = same_dirty t.here; more = []; out = nothing_after t.out; noted = record {} }
changes_dirty now t _ (Then _ u v c cs) = dirtied_then now t u v (change_dirty now t u c) (changes_dirty now u v cs)
