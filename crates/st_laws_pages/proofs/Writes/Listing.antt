-- What the rules of a client leave of its outstanding writes, and what they submit.
use Rattle.st_lemmas.proofs.Words
use Words.{◌≡◌, ℕ, ◌⊎◌, Bool, true, false, not, ◌==◌, List, [], ◌∷◌, ◌++◌, Some, if◌then◌else◌, refl, sym, ap, ◌∙◌, subst, inl, inr, map, find, ◌&&◌, eqb-true}
use Words.{ne_eqb, BlockAt, Tag, PageNo, Stamp, AppAnswer, Output, Operation, PageCommand, DirtyPage}
use Words.commands
use Words.outputs
use Words.io
use Words.ClientPages as pages
use Words.ClientPasses as cp
use Words.Client as cl
use Words.ClientState.{Association, Turn, answer_to, note}
use Words.Keys.{put, same_page}
use Words.Lists.{Has}
use Words.Tables.{found_at, has_append, has_filter_in}
use Words.Lengths.{nothing_after}
use Words.Members.{has_last, has_left}
use Words.Truth.{not_both}
use Words.Versions.{place_failed}
use Rattle.st_laws_steps.specs.Client.Client.{Change, Changes, Plain, Says, Operates, Answers, Greets, TellsLost, Begins, Follows, Learns, Forgets, Caches}
use Rattle.st_laws_steps.specs.Client.Client.{Writes, Reads, Submits, Still, Then}
use Rattle.st_laws_steps.specs.Client.Losses.{Ends, Unknown, Passes, Hardens, Fails, without}
use Rattle.st_laws_steps.proofs.Client.Losing.{Finished, rest_of}
use Rattle.st_lemmas.proofs.Contents.{Place_is, one_place}
use Rattle.st_laws_pages.proofs.Flush.Ending.{hardened_is}
use Rattle.st_laws_pages.specs.Writes.Writes.{IsListed, WritesOnce}

-- a write that is submitted
abbrev pub write_said : ℕ → BlockAt → BlockAt → Tag → List ℕ → Output
write_said n at to tag bytes = outputs.Submit n at (commands.Write to tag bytes)

-- Outstanding writes stay, except for those of these numbers; and each write that is submitted is outstanding.
pub record Keeps (EndsNow : ℕ → Type 0) (t u : Turn) : Type 0 where
  pub stays : (n : ℕ) (tag : Tag) → (EndsNow n → ⊥) → IsListed t.here n tag → IsListed u.here n tag
  pub said : (n : ℕ) (at to : BlockAt) (tag : Tag) (bytes : List ℕ) → Has (write_said n at to tag bytes) u.out → Has (write_said n at to tag bytes) t.out ⊎ IsListed u.here n tag

-- no command ends
abbrev pub NoneEnds : ℕ → Type 0
NoneEnds n = ⊥

keeps_same : (E : ℕ → Type 0) (t : Turn) → Keeps E t t
keeps_same E t = record { stays = λ n tag f h. h; said = λ n at to tag bytes i. inl i }

-- what ends at first is not told again
keeps_then : (E : ℕ → Type 0) (t u v : Turn) → Keeps E t u → Keeps NoneEnds u v → Keeps E t v
keeps_then E t u v a b = record { stays = λ n tag f h. b.stays n tag (λ z. z) (a.stays n tag f h); said = λ n at to tag bytes i. go n at to tag bytes (b.said n at to tag bytes i) }
  where
    go : (n : ℕ) (at to : BlockAt) (tag : Tag) (bytes : List ℕ) → Has (write_said n at to tag bytes) u.out ⊎ IsListed v.here n tag → Has (write_said n at to tag bytes) t.out ⊎ IsListed v.here n tag
    go n at to tag bytes (inr h) = inr h
    go n at to tag bytes (inl i) = by (a.said n at to tag bytes i)
      where
        by : Has (write_said n at to tag bytes) t.out ⊎ IsListed u.here n tag → Has (write_said n at to tag bytes) t.out ⊎ IsListed v.here n tag
        by (inl j) = inl j
        by (inr h) = inr (b.stays n tag (λ z. z) h)

-- the page of a command is dirty
abbrev DirtyStill : Association → PageCommand → Type 0
DirtyStill b c = (d : DirtyPage) × (pages.dirty_of b.store.pages c.ino c.page ≡ Some d)

-- with the same server, and with these commands and dirty pages at least
listed_with : (a b : Association) → a.server ≡ b.server → (n : ℕ) (tag : Tag) (h : IsListed a n tag) → Has h.command b.store.commands → DirtyStill b h.command → IsListed b n tag
listed_with a b s n tag h i d = record { server = h.server ∙ s; command = h.command; here = i; version = h.version; kind = h.kind; number_is = h.number_is; ino = h.ino; page = h.page; dirty = d.0; dirty_is = d.1 }

-- the association's server, commands and dirty pages are as they were
same_listed : (a b : Association) → a.server ≡ b.server → a.store.commands ≡ b.store.commands → a.store.pages.dirty ≡ b.store.pages.dirty → (n : ℕ) (tag : Tag) → IsListed a n tag → IsListed b n tag
same_listed a b s e q n tag h = listed_with a b s n tag h (subst (Has h.command) e h.here) (h.dirty, ap (find (pages.is_dirty_of h.command.ino h.command.page)) (sym q) ∙ h.dirty_is)

-- what is found is found after a page is put, if that has the place of the page that it replaces
found_put : (p q : DirtyPage → Bool) (x : DirtyPage) → ((z : DirtyPage) → q z ≡ true → p z ≡ true → p x ≡ true) → (xs : List DirtyPage) (d : DirtyPage) → find p xs ≡ Some d → (y : DirtyPage) × (find p (put q x xs) ≡ Some y)
unfolding put
found_put p q x f [] d e = cc
found_put p q x f (z ∷ zs) d e = go (q z) refl (p z) refl e (λ i. found_put p q x f zs d i)
  where
    front : (b : Bool) → p x ≡ b → p x ≡ true → (y : DirtyPage) × ((if b then Some x else find p zs) ≡ Some y)
    front true e i = (x, refl)
    front false e i = absurd (not_both (p x) i e)

    behind : (b : Bool) → find p zs ≡ Some d → (y : DirtyPage) × ((if b then Some x else find p zs) ≡ Some y)
    behind true i = (x, refl)
    behind false i = (d, i)

    go : (b : Bool) → q z ≡ b → (k : Bool) → p z ≡ k → (if k then Some z else find p zs) ≡ Some d → (find p zs ≡ Some d → (y : DirtyPage) × (find p (put q x zs) ≡ Some y)) → (y : DirtyPage) × (find p (if b then x ∷ zs else z ∷ put q x zs) ≡ Some y)
    go true i true k e r = front (p x) refl (f z i k)
    go true i false k e r = behind (p x) e
    go false i true k e r = (z, ap (λ b. if b then Some z else find p (put q x zs)) k)
    go false i false k e r = let y = r e in (y.0, ap (λ b. if b then Some z else find p (put q x zs)) k ∙ y.1)

found_map : (p : DirtyPage → Bool) (g : DirtyPage → DirtyPage) → ((z : DirtyPage) → p (g z) ≡ p z) → (xs : List DirtyPage) (d : DirtyPage) → find p xs ≡ Some d → (y : DirtyPage) × (find p (map g xs) ≡ Some y)
found_map p g f [] d e = cc
found_map p g f (z ∷ zs) d e = go (p z) refl e (λ i. found_map p g f zs d i)
  where
    go : (b : Bool) → p z ≡ b → (if b then Some z else find p zs) ≡ Some d → (find p zs ≡ Some d → (y : DirtyPage) × (find p (map g zs) ≡ Some y)) → (y : DirtyPage) × ((if p (g z) then Some (g z) else find p (map g zs)) ≡ Some y)
    go true k e r = (g z, ap (λ b. if b then Some (g z) else find p (map g zs)) (f z ∙ k))
    go false k e r = let y = r e in (y.0, ap (λ b. if b then Some (g z) else find p (map g zs)) (f z ∙ k) ∙ y.1)

-- A rule that says something else.
abbrev Unsubmitted : List Output → Type 0
Unsubmitted os = (n : ℕ) (at to : BlockAt) (tag : Tag) (bytes : List ℕ) → Has (write_said n at to tag bytes) os → ⊥

more_said : (t u : Turn) (os : List Output) → u.out ≡ t.out ++ os → Unsubmitted os → (n : ℕ) (at to : BlockAt) (tag : Tag) (bytes : List ℕ) → Has (write_said n at to tag bytes) u.out → Has (write_said n at to tag bytes) t.out ⊎ IsListed u.here n tag
more_said t u os e f n at to tag bytes i = go (has_append t.out os (write_said n at to tag bytes) (subst (Has (write_said n at to tag bytes)) e i))
  where
    go : Has (write_said n at to tag bytes) t.out ⊎ Has (write_said n at to tag bytes) os → Has (write_said n at to tag bytes) t.out ⊎ IsListed u.here n tag
    go (inl j) = inl j
    go (inr j) = absurd (f n at to tag bytes j)

answers_submit_none : (a : AppAnswer) (ops : List Operation) → Unsubmitted (map (answer_to a) ops)
answers_submit_none a [] n at to tag bytes i = absurd i
answers_submit_none a (o ∷ ops) n at to tag bytes (inl e) = no e
  where
    no : write_said n at to tag bytes ≡ answer_to a o → ⊥
    no z = cc
answers_submit_none a (o ∷ ops) n at to tag bytes (inr i) = answers_submit_none a ops n at to tag bytes i

plain_submits_none : (o : Output) → Plain o → Unsubmitted (o ∷ [])
plain_submits_none o p n at to tag bytes (inr i) = absurd i
plain_submits_none o p n at to tag bytes (inl e) = subst Plain (sym e) p

note_submits_none : (m : Rattle.st_messages.specs.declared.output.Note.Note) → Unsubmitted (outputs.Note m ∷ [])
note_submits_none m n at to tag bytes (inr i) = absurd i
note_submits_none m n at to tag bytes (inl e) = no e
  where
    no : write_said n at to tag bytes ≡ outputs.Note m → ⊥
    no z = cc

read_submits_none : (k : ℕ) (b c : BlockAt) → Unsubmitted (outputs.Submit k b (commands.Read c) ∷ [])
read_submits_none k b c n at to tag bytes (inr i) = absurd i
read_submits_none k b c n at to tag bytes (inl e) = no e
  where
    no : write_said n at to tag bytes ≡ outputs.Submit k b (commands.Read c) → ⊥
    no z = cc

-- a write isn't a read of a page
not_read : (ino : ℕ) (p : PageNo) (c : PageCommand) (v : ℕ) → c.kind ≡ io.Write v → not (pages.is_read_of ino p c) ≡ true
not_read ino p c v e = ap (λ k. not (not (pages.is_write k) && ((c.ino == ino) && same_page c.page p))) e

-- the association's server and commands are as they were, and nothing is submitted
quietly : (t u : Turn) (os : List Output) → t.here.server ≡ u.here.server → t.here.store.commands ≡ u.here.store.commands → t.here.store.pages.dirty ≡ u.here.store.pages.dirty → u.out ≡ t.out ++ os → Unsubmitted os → Keeps NoneEnds t u
quietly t u os s e q o f = record { stays = λ n tag g h. same_listed t.here u.here s e q n tag h; said = more_said t u os o f }

silent : Unsubmitted []
silent n at to tag bytes i = absurd i

-- a page that is put has the place of the one that it replaces
put_place : (ino : ℕ) (p : PageNo) (i : ℕ) (q : PageNo) (z : DirtyPage) → Place_is z.ino z.page ino p ≡ true → Place_is z.ino z.page i q ≡ true → Place_is ino p i q ≡ true
put_place ino p i q z e f =
    let a = one_place z.ino z.page ino p e in
    subst (λ j. Place_is j p i q ≡ true) a.0 (subst (λ r. Place_is z.ino r i q ≡ true) a.1 f)

change_keeps : (now : Stamp) (t u : Turn) → Change now t u → Keeps NoneEnds t u
unfolding cp.submit_read cp.submit_write cp.submit_command pages.begin_command pages.forget_read pages.forget_from pages.drop_from pages.written
change_keeps now t _ (Says _ o p) = quietly t _ (o ∷ []) refl refl refl refl (plain_submits_none o p)
change_keeps now t _ (Operates _ os) = quietly t _ [] refl refl refl (nothing_after t.out) silent
change_keeps now t _ (Answers _ os ops a) = quietly t _ (map (answer_to a) ops) refl refl refl refl (answers_submit_none a ops)
change_keeps now t _ (Greets _ g) = quietly t _ [] refl refl refl (nothing_after t.out) silent
change_keeps now t _ (TellsLost _ lost) = quietly t _ [] refl refl refl (nothing_after t.out) silent
change_keeps now t _ (Begins _ s e b n) = quietly t _ [] refl refl refl (nothing_after t.out) silent
change_keeps now t _ (Follows _ s v e g) = quietly t _ [] refl refl refl (nothing_after t.out) silent
change_keeps now t _ (Learns _ e v n) = quietly t _ [] refl refl refl (nothing_after t.out) silent
change_keeps now t _ (Forgets _ ino p i) = quietly t _ [] refl refl refl (nothing_after t.out) silent
change_keeps now t _ (Caches _ clean) = quietly t _ [] refl refl refl (nothing_after t.out) silent
change_keeps now t _ (Writes _ s f p bytes n e sv own m x) =
    record {
      stays = λ k tag g h. listed_with t.here (cp.with_pages_changed (pages.written t.here.store.pages f.ino p bytes) f.ino p (note t n)).here refl k tag h
          (has_filter_in (λ c. not (pages.is_read_of f.ino p c)) t.here.store.commands h.command h.here (not_read f.ino p h.command h.version h.kind))
          (found_put (pages.is_dirty_of h.command.ino h.command.page) (pages.is_dirty_of f.ino p) (pages.new_dirty t.here.store.pages f.ino p bytes) (put_place f.ino p h.command.ino h.command.page) t.here.store.pages.dirty h.dirty h.dirty_is);
      said = more_said t (cp.with_pages_changed (pages.written t.here.store.pages f.ino p bytes) f.ino p (note t n)) (outputs.Note n ∷ []) refl (note_submits_none n);
    }
change_keeps now t _ (Reads _ ino p m i clean) =
    record {
      stays = λ k tag g h. listed_with t.here (cp.submit_read t ino p m).here refl k tag h (has_left t.here.store.commands (pages.page_command t.next_command ino p io.Read ∷ []) h.command h.here) (h.dirty, h.dirty_is);
      said = more_said t (cp.submit_read t ino p m) (outputs.Submit t.next_command m.at (commands.Read m.at) ∷ []) refl (read_submits_none t.next_command m.at m.at);
    }
change_keeps now t _ (Submits _ s ino p d m e i k w) =
    record {
      stays = λ j tag g h. listed_with t.here u.here refl j tag h (has_left t.here.store.commands (c ∷ []) h.command h.here) (h.dirty, h.dirty_is);
      said = λ n at to tag bytes j. go n at to tag bytes (has_append t.out (o ∷ []) (write_said n at to tag bytes) j);
    }
  where
    u : Turn
    u = cp.submit_write t d m

    c : PageCommand
    c = pages.page_command t.next_command d.ino d.page (io.Write d.version)

    its : Tag
    its = record { file = cp.file t d.ino; page = d.page; birth = m.birth }

    o : Output
    o = write_said t.next_command m.at m.at its d.bytes

    at : (d.ino ≡ ino) × (d.page ≡ p)
    at = one_place d.ino d.page ino p (found_at (pages.is_dirty_of ino p) t.here.store.pages.dirty d i).0

    new : IsListed u.here t.next_command its
    new = record { server = refl; command = c; here = has_last t.here.store.commands c; version = d.version; kind = refl; number_is = refl; ino = refl; page = refl; dirty = d; dirty_is = ap (λ x. find (pages.is_dirty_of x d.page) t.here.store.pages.dirty) at.0 ∙ ap (λ x. find (pages.is_dirty_of ino x) t.here.store.pages.dirty) at.1 ∙ i }

    number_of : (n : ℕ) (at to : BlockAt) (tag : Tag) (bytes : List ℕ) → write_said n at to tag bytes ≡ o → t.next_command ≡ n
    number_of n at to tag bytes q = cc

    tag_of : (n : ℕ) (at to : BlockAt) (tag : Tag) (bytes : List ℕ) → write_said n at to tag bytes ≡ o → its ≡ tag
    tag_of n at to tag bytes q = cc

    go : (n : ℕ) (at to : BlockAt) (tag : Tag) (bytes : List ℕ) → Has (write_said n at to tag bytes) t.out ⊎ Has (write_said n at to tag bytes) (o ∷ []) → Has (write_said n at to tag bytes) t.out ⊎ IsListed u.here n tag
    go n at to tag bytes (inl j) = inl j
    go n at to tag bytes (inr (inr j)) = absurd j
    go n at to tag bytes (inr (inl q)) = inr (subst (λ z. IsListed u.here z tag) (number_of n at to tag bytes q) (subst (λ z. IsListed u.here t.next_command z) (tag_of n at to tag bytes q) new))

pub changes_keep : (now : Stamp) (t u : Turn) → Changes now t u → Keeps NoneEnds t u
changes_keep now t _ (Still _) = keeps_same NoneEnds t
changes_keep now t _ (Then _ u v c rest) = keeps_then NoneEnds t u v (change_keeps now t u c) (changes_keep now u v rest)

-- without a command
keeps_without_command : (number : ℕ) (t u : Turn) → t.here.server ≡ u.here.server → pages.without_command number t.here.store.commands ≡ u.here.store.commands →
    u.out ≡ t.out →
    ((n : ℕ) (tag : Tag) → (n ≡ number → ⊥) → (h : IsListed t.here n tag) → DirtyStill u.here h.command) → Keeps (λ n. n ≡ number) t u
keeps_without_command number t u s e o d =
    record {
      stays = λ n tag f h. listed_with t.here u.here s n tag h
          (subst (Has h.command) e (has_filter_in (λ c. not (pages.is_numbered number c)) t.here.store.commands h.command h.here (ap not (ne_eqb h.command.number number (λ q. f (sym h.number_is ∙ q))))))
          (d n tag f h);
      said = λ n at to tag bytes i. inl (subst (Has (write_said n at to tag bytes)) o i);
    }

-- The end of a command.
ends_keep : (number : ℕ) (ok : Bool) (t u : Turn) → WritesOnce t.here → Ends number ok t u → Keeps (λ n. n ≡ number) t u
unfolding cl.hardened pages.fail
ends_keep number ok t _ once Unknown = keeps_same (λ n. n ≡ number) t
ends_keep number ok t _ once (Passes pc e o) = keeps_without_command number t _ refl refl refl (λ n tag f h. (h.dirty, h.dirty_is))
ends_keep number ok t _ once (Hardens pc v e o k w) = keeps_without_command number t (cl.hardened (without number t) pc) refl refl refl
    (λ n tag f h. (
      h.dirty,
      hardened_is t.here.store.pages pc.ino pc.page h.command.ino h.command.page false
          (apart n tag f h (Place_is pc.ino pc.page h.command.ino h.command.page) refl) ∙ h.dirty_is,
    ))
  where
    apart : (n : ℕ) (tag : Tag) → (n ≡ number → ⊥) → (h : IsListed t.here n tag) → (b : Bool) → Place_is pc.ino pc.page h.command.ino h.command.page ≡ b → Place_is pc.ino pc.page h.command.ino h.command.page ≡ false
    apart n tag f h false q = q
    apart n tag f h true q =
        let a = one_place pc.ino pc.page h.command.ino h.command.page q in
        let z = found_at (pages.is_numbered number) t.here.store.commands pc e in
        absurd (f (sym h.number_is ∙ sym (once pc h.command z.1 h.here v h.version k h.kind a.0 a.1) ∙ eqb-true pc.number number z.0))
ends_keep number ok t _ once (Fails pc v e o k w) =
    keeps_without_command number t _ refl refl refl
    (λ n tag f h. found_map (pages.is_dirty_of h.command.ino h.command.page) (pages.fail_of pc.ino pc.page pc.number)
    (place_failed pc.ino pc.page pc.number h.command.ino h.command.page) t.here.store.pages.dirty h.dirty h.dirty_is)

pub finished_keeps : (now : Stamp) (number : ℕ) (ok : Bool) (t u : Turn) → WritesOnce t.here → Finished now number ok t u → Keeps (λ n. n ≡ number) t u
finished_keeps now number ok t u once f = keeps_then (λ n. n ≡ number) t f.mid u (ends_keep number ok t f.mid once f.ends) (changes_keep now f.mid u (rest_of f))
