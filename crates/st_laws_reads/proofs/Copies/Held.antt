-- A page that was changed in a step is dirty after it, under an exclusive lock.
use Rattle.st_lemmas.proofs.Words
use Words.{◌≡◌, ℕ, ◌⊎◌, true, ◌&&◌, List, [], ◌∷◌, ◌++◌, ◌==◌, Option, Some, refl, sym, ap, ◌∙◌, subst, inl, inr, append_assoc, is_some, eq-eqb, ClientId}
use Words.{FileId, Life, PageNo, ServerId, Note, Ask, Output, Change, LogEntry, DirtyPage, append-nil}
use Words.notes
use Words.outputs
use Words.changes
use Words.FlatLog as log
use Words.FlatLog.{is_of_life}
use Words.Events.{is_hard_fate}
use Words.ClientPages.{dirty_of}
use Words.ClientState.{Association, ClientTurn}
use Words.Truth.{some_there}
use Rattle.st_laws_refine.specs.Client.World.{logged}
use Rattle.st_laws_reads.specs.Copies.Copies.{FatesOk}
use Rattle.st_laws_reads.specs.Copies.World.{OwnEntry, AllOwn}
use Rattle.st_laws_reads.specs.Copies.Law.{StepKeeps, EachStands, LivesAre, Listed, AllListed, HeldPage, AllHeld, ChangesAreHeld}

-- the entry of a note
entries_of : ClientId → (ServerId → Life) → Note → List LogEntry
entries_of c lives (notes.Accepted f p bytes) = log.pending (log.owner c (lives f.server) f p) (changes.Write bytes) ∷ []
entries_of c lives (notes.Patched f p at bytes) = log.pending (log.owner c (lives f.server) f p) (changes.Patch at bytes) ∷ []
entries_of c lives n = []

-- the entries of outputs
entries : ClientId → (ServerId → Life) → List Output → List LogEntry
entries c lives [] = []
entries c lives (outputs.Send m ∷ os) = entries c lives os
entries c lives (outputs.Submit n a w ∷ os) = entries c lives os
entries c lives (outputs.Answer o a ∷ os) = entries c lives os
entries c lives (outputs.Note n ∷ os) = entries_of c lives n ++ entries c lives os

logged_is : (c : ClientId) (lives : ServerId → Life) (os : List Output) (es : List LogEntry) → logged c lives os es ≡ es ++ entries c lives os
unfolding entries entries_of log.accept log.patch
logged_is c lives [] es = sym (append-nil es)
logged_is c lives (outputs.Send m ∷ os) es = logged_is c lives os es
logged_is c lives (outputs.Submit n a w ∷ os) es = logged_is c lives os es
logged_is c lives (outputs.Answer o a ∷ os) es = logged_is c lives os es
logged_is c lives (outputs.Note (notes.Accepted f p bytes) ∷ os) es = logged_is c lives os _ ∙ append_assoc es _ (entries c lives os)
logged_is c lives (outputs.Note (notes.Patched f p at bytes) ∷ os) es = logged_is c lives os _ ∙ append_assoc es _ (entries c lives os)
logged_is c lives (outputs.Note n ∷ os) es = logged_is c lives os es

behind : List LogEntry → List LogEntry
behind [] = []
behind (e ∷ es) = es

same_behind : (es xs ys : List LogEntry) → es ++ xs ≡ es ++ ys → xs ≡ ys
unfolding behind
same_behind [] xs ys h = h
same_behind (e ∷ es) xs ys h = same_behind es xs ys (ap behind h)

fates_behind : (c : ClientId) (life : Life) (a : Association) (es xs : List LogEntry) → FatesOk c life a.server a.store (es ++ xs) → FatesOk c life a.server a.store xs
fates_behind c life a [] xs r = r
fates_behind c life a (e ∷ es) xs r = fates_behind c life a es xs r.rest

own_life : (c : ClientId) (f : FileId) (p : PageNo) (life : Life) (sv : ServerId) → f.server ≡ sv → is_of_life c sv life (log.owner c life f p) ≡ true
own_life c f p life sv e =
    ap (λ b. b && ((f.server.0 == sv.0) && (life.0 == life.0))) (eq-eqb c.0 c.0 refl) ∙ ap (λ b. b && (life.0 == life.0)) (eq-eqb f.server.0 sv.0 (ap (λ (v : ServerId). v.0) e)) ∙ eq-eqb life.0 life.0 refl

module _ (c : ClientId) (lives : ServerId → Life) (es xs : List LogEntry) where
  -- the association of the file's server has the page dirty
  page_held : (f : FileId) (p : PageNo) (change : Change) (list : List Association) → EachStands c (es ++ xs) list → LivesAre lives list → Listed f.server list →
      ((a : Association) → FatesOk c a.life a.server a.store xs → FatesOk c a.life a.server a.store (log.pending (log.owner c (lives f.server) f p) change ∷ [])) → HeldPage f p list
  page_held f p change [] s l i g = elim i [ ]
  page_held f p change (a ∷ list) s l (inr i) g =
      let h = page_held f p change list s.rest l.rest i g in
      record { association = h.association; listed = inr h.listed; there = h.there; exclusive = h.exclusive; dirty = h.dirty }
  page_held f p change (a ∷ list) s l (inl e) g = by (some_there _ (dirty (fate.one (subst (λ life. is_of_life c a.server a.life (log.owner c life f p) ≡ true) (sym same) (own_life c f p a.life a.server (sym e))))))
    where
      same : lives f.server ≡ a.life
      same = ap lives (sym e) ∙ l.one

      fate : FatesOk c a.life a.server a.store (log.pending (log.owner c (lives f.server) f p) change ∷ [])
      fate = g a (fates_behind c a.life a es xs s.one.fates)

      dirty : (is_hard_fate (log.pending (log.owner c (lives f.server) f p) change).fate ≡ true) ⊎ (is_some (dirty_of a.store.pages f.ino p) ≡ true) → is_some (dirty_of a.store.pages f.ino p) ≡ true
      dirty (inl h) = cc
      dirty (inr h) = h

      by : (d : DirtyPage) × (dirty_of a.store.pages f.ino p ≡ Some d) → HeldPage f p (a ∷ list)
      by d = record { association = a; listed = inl refl; there = e; exclusive = (s.one.pages f.ino p).mode d.0 d.1; dirty = ap (λ o. is_some o) d.1 }

-- each change of these outputs
all_held : (c : ClientId) (lives : ServerId → Life) (es xs : List LogEntry) (list : List Association) (os : List Output) → EachStands c (es ++ xs) list → LivesAre lives list → AllListed list (entries c lives os) →
    ((a : Association) → FatesOk c a.life a.server a.store xs → FatesOk c a.life a.server a.store (entries c lives os)) → AllHeld list os
unfolding entries entries_of
all_held c lives es xs list [] s l i g = record {}
all_held c lives es xs list (outputs.Send m ∷ os) s l i g = record { one = record {}; rest = all_held c lives es xs list os s l i g }
all_held c lives es xs list (outputs.Submit n a w ∷ os) s l i g = record { one = record {}; rest = all_held c lives es xs list os s l i g }
all_held c lives es xs list (outputs.Answer o a ∷ os) s l i g = record { one = record {}; rest = all_held c lives es xs list os s l i g }
all_held c lives es xs list (outputs.Note (notes.Accepted f p bytes) ∷ os) s l i g =
    record {
      one = page_held c lives es xs f p (changes.Write bytes) list s l i.one (λ a r. record { one = (g a r).one; rest = record {} });
      rest = all_held c lives es xs list os s l i.rest (λ a r. (g a r).rest);
    }
all_held c lives es xs list (outputs.Note (notes.Patched f p at bytes) ∷ os) s l i g =
    record {
      one = page_held c lives es xs f p (changes.Patch at bytes) list s l i.one (λ a r. record { one = (g a r).one; rest = record {} });
      rest = all_held c lives es xs list os s l i.rest (λ a r. (g a r).rest);
    }
all_held c lives es xs list (outputs.Note n ∷ os) s l i g = record { one = record {}; rest = all_held c lives es xs list os s l i g }

pub changes_are_held : ChangesAreHeld
changes_are_held asks c lives es t k l =
    let xs : List LogEntry = entries c lives t.out in
    let is : logged c lives t.out es ≡ es ++ xs = logged_is c lives t.out es in
    let more : k.joined.more ≡ xs = same_behind es k.joined.more xs (sym k.joined.is ∙ is) in
    all_held c lives es xs t.state.associations t.out (subst (λ m. EachStands c m t.state.associations) is k.stands.copies) l (subst (λ m. AllListed t.state.associations m) more k.joined.listed) (λ a r. r)

-- What joined is pending, of the lives after the step.
own_one : (c : ClientId) (lives : ServerId → Life) (f : FileId) (p : PageNo) (change : Change) (xs : List Association) → LivesAre lives xs → Listed f.server xs → OwnEntry c xs (log.pending (log.owner c (lives f.server) f p) change)
own_one c lives f p change [] l i = elim i [ ]
own_one c lives f p change (a ∷ xs) l (inl e) =
    record {
      association = a;
      listed = inl refl;
      own = subst (λ (n : Life). is_of_life c a.server n (log.owner c (lives f.server) f p) ≡ true) (ap lives (sym e) ∙ l.one) (own_life c f p (lives f.server) a.server (sym e));
      pending = refl;
    }
own_one c lives f p change (a ∷ xs) l (inr i) =
    let r = own_one c lives f p change xs l.rest i in
    record { association = r.association; listed = inr r.listed; own = r.own; pending = r.pending }

all_own : (c : ClientId) (lives : ServerId → Life) (xs : List Association) (os : List Output) → LivesAre lives xs → AllListed xs (entries c lives os) → AllOwn c xs (entries c lives os)
unfolding entries entries_of
all_own c lives xs [] l i = record {}
all_own c lives xs (outputs.Send m ∷ os) l i = all_own c lives xs os l i
all_own c lives xs (outputs.Submit n a w ∷ os) l i = all_own c lives xs os l i
all_own c lives xs (outputs.Answer o a ∷ os) l i = all_own c lives xs os l i
all_own c lives xs (outputs.Note (notes.Accepted f p bytes) ∷ os) l i = record { one = own_one c lives f p (changes.Write bytes) xs l i.one; rest = all_own c lives xs os l i.rest }
all_own c lives xs (outputs.Note (notes.Patched f p at bytes) ∷ os) l i = record { one = own_one c lives f p (changes.Patch at bytes) xs l i.one; rest = all_own c lives xs os l i.rest }
all_own c lives xs (outputs.Note n ∷ os) l i = all_own c lives xs os l i

pub record Owns (c : ClientId) (xs : List Association) (es fs : List LogEntry) : Type 0 where
  pub more : List LogEntry
  pub joined : fs ≡ es ++ more
  pub own : AllOwn c xs more

pub entries_own : (asks : ℕ → Option Ask) (c : ClientId) (lives : ServerId → Life) (es : List LogEntry) (t : ClientTurn) → StepKeeps asks c lives es t → LivesAre lives t.state.associations → Owns c t.state.associations es (logged c lives t.out es)
entries_own asks c lives es t k l =
    let xs : List LogEntry = entries c lives t.out in
    let is : logged c lives t.out es ≡ es ++ xs = logged_is c lives t.out es in
    let more : k.joined.more ≡ xs = same_behind es k.joined.more xs (sym k.joined.is ∙ is) in
    record { more = xs; joined = is; own = all_own c lives t.state.associations t.out l (subst (λ m. AllListed t.state.associations m) more k.joined.listed) }
