-- What a list of changes leaves of an association: its server and life, its session or a later one, what fits, and no note of a loss.
use Rattle.st_lemmas.proofs.Words
use Words.{◌≡◌, ℕ, ◌⊎◌, Bool, true, false, not, ◌&&◌, List, [], ◌∷◌, ◌++◌, ◌==◌, Option, Some, None, refl, sym, ap, ◌∙◌, subst, inl, inr, arith, if◌then◌else◌}
use Words.{find, filter, is_some, nat_le, map, list_any, eqb-true, Config, FileId, PageNo, Stamp, AppAnswer, Note, Output, DirtyPage, KnownExtent, MappedBlock}
use Words.{Operation, append_assoc}
use Words.notes
use Words.outputs
use Words.Keys.{put, same_page}
use Words.ClientPages as pages
use Words.ClientPages.{Pages, Store}
use Words.ClientPasses as cp
use Words.ClientState.{ClientSession, Association, Turn, answer_to}
use Words.Lookups.{or_false, some_is}
use Words.Tables.{and_true, not_true}
use Words.Lengths.{nothing_after}
use Words.Truth.{not_both}
use Rattle.st_lemmas.proofs.Puts.{find_put_by, find_put_other}
use Rattle.st_lemmas.proofs.Contents.{Place_is, one_place, other_place, find_stays}
use Rattle.st_laws_steps.specs.Client.Client.{Plain, PlainNote, ChangesPage, GoesOn, Unasked, Change, Says, Operates, Answers, Greets, TellsLost, Begins}
use Rattle.st_laws_steps.specs.Client.Client.{Follows, Learns, Forgets, Caches, Writes, Reads, Submits, Changes, Still, Then}
use Rattle.st_laws_steps.specs.Client.Losses.{AskedFresh, SessionFresh, SessionNext, Fit}

-- no output notes a loss
abbrev pub Unlost : Output → Type 0
Unlost (outputs.Note (notes.Lost s life)) = ⊥
Unlost o = Unit {0}

abbrev pub AllUnlost : List Output → Type 0
AllUnlost [] = Unit {0}
AllUnlost (o ∷ os) = record { one : Unlost o; rest : AllUnlost os }

pub unlost_both : (os ps : List Output) → AllUnlost os → AllUnlost ps → AllUnlost (os ++ ps)
unlost_both [] ps a b = b
unlost_both (o ∷ os) ps a b = record { one = a.one; rest = unlost_both os ps a.rest b }

plain_unlost : (o : Output) → Plain o → Unlost o
plain_unlost (outputs.Send m) p = tt
plain_unlost (outputs.Submit n at what) p = tt
plain_unlost (outputs.Answer op a) p = tt
plain_unlost (outputs.Note n) p = go n p
  where
    go : (n : Note) → PlainNote n → Unlost (outputs.Note n)
    go (notes.Lost s life) p = p
    go n p = tt

change_unlost : (f : FileId) (p : PageNo) (n : Note) → ChangesPage f p n → Unlost (outputs.Note n)
change_unlost f p (notes.Lost s life) h = h
change_unlost f p n h = tt

answers_unlost : (a : AppAnswer) (os : List Operation) → AllUnlost (map (answer_to a) os)
answers_unlost a [] = record {}
answers_unlost a (o ∷ os) = record { one = tt; rest = answers_unlost a os }

-- What a list of changes leaves.
pub record Next (now : Stamp) (t u : Turn) : Type 0 where
  pub id : t.id ≡ u.id
  pub config : t.config ≡ u.config
  pub server : t.here.server ≡ u.here.server
  pub life : t.here.life ≡ u.here.life
  pub session : SessionNext t.config now t.here.session u.here.session
  pub fit : Fit t.here → Fit u.here
  pub more : List Output
  pub out : u.out ≡ t.out ++ more
  pub unlost : AllUnlost more

pub session_same : (k : Config) (now : Stamp) (s : Option ClientSession) → SessionNext k now s s
session_same k now None = tt
session_same k now (Some s) = omega arith

pub session_then : (k : Config) (now : Stamp) (a b c : Option ClientSession) → SessionNext k now a b → SessionNext k now b c → SessionNext k now a c
session_then k now None None c x y = y
session_then k now None (Some b) None x y = absurd y
session_then k now None (Some b) (Some c) x y = omega (arith, x, y)
session_then k now (Some a) None c x y = absurd x
session_then k now (Some a) (Some b) None x y = absurd y
session_then k now (Some a) (Some b) (Some c) x y = omega (arith, x, y)

pub next_same : (now : Stamp) (t : Turn) → Next now t t
next_same now t = record { id = refl; config = refl; server = refl; life = refl; session = session_same t.config now t.here.session; fit = λ f. f; more = []; out = nothing_after t.out; unlost = record {} }

pub next_then : (now : Stamp) (t u v : Turn) → Next now t u → Next now u v → Next now t v
next_then now t u v a b =
    record {
      id = a.id ∙ b.id;
      config = a.config ∙ b.config;
      server = a.server ∙ b.server;
      life = a.life ∙ b.life;
      session = session_then t.config now t.here.session u.here.session v.here.session a.session (subst (λ k. SessionNext k now u.here.session v.here.session) (sym a.config) b.session);
      fit = λ f. b.fit (a.fit f);
      more = a.more ++ b.more;
      out = b.out ∙ ap (λ os. os ++ b.more) a.out ∙ append_assoc t.out a.more b.more;
      unlost = unlost_both a.more b.more a.unlost b.unlost;
    }

-- What is known after a row was put.
pub known_put : (e : KnownExtent) (xs : List KnownExtent) (ino : ℕ) (p : PageNo) → (b : Bool) → Place_is e.ino e.page ino p ≡ b →
    pages.known_of (pages.with_known e xs) ino p ≡ (if b then Some e else pages.known_of xs ino p)
known_put e xs ino p true q =
    let h = one_place e.ino e.page ino p q in
    find_put_by (pages.is_known_of ino p) (pages.is_known_of e.ino e.page) e xs q (λ y z. subst (λ j. Place_is y.ino y.page j e.page ≡ true) (sym h.0) (subst (λ r. Place_is y.ino y.page ino r ≡ true) (sym h.1) z))
known_put e xs ino p false q = find_put_other (pages.is_known_of ino p) (pages.is_known_of e.ino e.page) e xs q (λ y z. other_place e.ino e.page ino p q y.ino y.page z)

-- what is dirty after a page was written
pub dirty_put : (d : DirtyPage) (xs : List DirtyPage) (ino : ℕ) (p : PageNo) → (b : Bool) → Place_is d.ino d.page ino p ≡ b → find (pages.is_dirty_of ino p) (put (pages.is_dirty_of d.ino d.page) d xs) ≡ (if b then Some d else find (pages.is_dirty_of ino p) xs)
dirty_put e xs ino p true q =
    let h = one_place e.ino e.page ino p q in
    find_put_by (pages.is_dirty_of ino p) (pages.is_dirty_of e.ino e.page) e xs q (λ y z. subst (λ j. Place_is y.ino y.page j e.page ≡ true) (sym h.0) (subst (λ r. Place_is y.ino y.page ino r ≡ true) (sym h.1) z))
dirty_put e xs ino p false q = find_put_other (pages.is_dirty_of ino p) (pages.is_dirty_of e.ino e.page) e xs q (λ y z. other_place e.ino e.page ino p q y.ino y.page z)

known_fewer : (q : KnownExtent → Bool) (xs : List KnownExtent) (ino : ℕ) (p : PageNo) → pages.known_of xs ino p ≡ None → pages.known_of (filter q xs) ino p ≡ None
known_fewer q [] ino p e = e
known_fewer q (x ∷ xs) ino p e = go (pages.is_known_of ino p x) refl e (known_fewer q xs ino p) (q x)
  where
    go : (b : Bool) → pages.is_known_of ino p x ≡ b → (if b then Some x else pages.known_of xs ino p) ≡ None → (pages.known_of xs ino p ≡ None → pages.known_of (filter q xs) ino p ≡ None) → (c : Bool) → pages.known_of (if c then x ∷ filter q xs else filter q xs) ino p ≡ None
    go true f e r c = cc
    go false f e r true = ap (λ b. if b then Some x else pages.known_of (filter q xs) ino p) f ∙ r e
    go false f e r false = r e

-- a page that is dirty makes its file not idle
pub dirty_on : (ps : Pages) (ino : ℕ) (p : PageNo) (d : DirtyPage) → pages.dirty_of ps ino p ≡ Some d → (d.ino ≡ ino) × (d.page ≡ p)
dirty_on ps ino p d e = go ps.dirty e
  where
    go : (xs : List DirtyPage) → find (pages.is_dirty_of ino p) xs ≡ Some d → (d.ino ≡ ino) × (d.page ≡ p)
    go [] e = cc
    go (x ∷ xs) e = at (pages.is_dirty_of ino p x) refl e (go xs)
      where
        at : (b : Bool) → pages.is_dirty_of ino p x ≡ b → (if b then Some x else find (pages.is_dirty_of ino p) xs) ≡ Some d → (find (pages.is_dirty_of ino p) xs ≡ Some d → (d.ino ≡ ino) × (d.page ≡ p)) → (d.ino ≡ ino) × (d.page ≡ p)
        at true q e f = subst (λ (z : DirtyPage). (z.ino ≡ ino) × (z.page ≡ p)) (some_is e) (one_place x.ino x.page ino p q)
        at false q e f = f e

pub not_idle : (st : Store) (ino : ℕ) (p : PageNo) (d : DirtyPage) → pages.dirty_of st.pages ino p ≡ Some d → pages.is_idle st ino ≡ true → ⊥
not_idle st ino p d e i = go st.pages.dirty e (not_true (pages.has_dirty st.pages ino) (and_true (not (pages.has_dirty st.pages ino)) (not (pages.is_outstanding st.commands ino)) i).0)
  where
    go : (xs : List DirtyPage) → find (pages.is_dirty_of ino p) xs ≡ Some d → list_any (pages.is_dirty_on ino) xs ≡ false → ⊥
    go [] e n = cc
    go (x ∷ xs) e n = at (pages.is_dirty_of ino p x) refl e (λ e n. go xs e n)
      where
        at : (b : Bool) → pages.is_dirty_of ino p x ≡ b → (if b then Some x else find (pages.is_dirty_of ino p) xs) ≡ Some d → (find (pages.is_dirty_of ino p) xs ≡ Some d → list_any (pages.is_dirty_on ino) xs ≡ false → ⊥) → ⊥
        at true q e f = not_both (x.ino == ino) (and_true (x.ino == ino) (same_page x.page p) q).0 (or_false (x.ino == ino) (list_any (pages.is_dirty_on ino) xs) n).0
        at false q e f = f e (or_false (x.ino == ino) (list_any (pages.is_dirty_on ino) xs) n).1

-- what is found among fewer rows is found among all, by its place
pub found_fewer : (p q : DirtyPage → Bool) (xs : List DirtyPage) (d : DirtyPage) → find p (filter q xs) ≡ Some d → (x : DirtyPage) × (find p xs ≡ Some x)
found_fewer p q [] d e = cc
found_fewer p q (x ∷ xs) d e = go (p x) refl (q x) refl (found_fewer p q xs d)
  where
    there : (b : Bool) → p x ≡ b → ((y : DirtyPage) × (find p xs ≡ Some y)) → (y : DirtyPage) × (find p (x ∷ xs) ≡ Some y)
    there true f r = (x, ap (λ b. if b then Some x else find p xs) f)
    there false f r = (r.0, ap (λ b. if b then Some x else find p xs) f ∙ r.1)

    go : (b : Bool) → p x ≡ b → (c : Bool) → q x ≡ c → (find p (filter q xs) ≡ Some d → (y : DirtyPage) × (find p xs ≡ Some y)) → (y : DirtyPage) × (find p (x ∷ xs) ≡ Some y)
    go true f c g r = (x, ap (λ b. if b then Some x else find p xs) f)
    go false f true g r = there false f (r (sym (ap (λ b. if b then Some x else find p (filter q xs)) f) ∙ ap (λ c. find p (if c then x ∷ filter q xs else filter q xs)) (sym g) ∙ e))
    go false f false g r = there false f (r (ap (λ c. find p (if c then x ∷ filter q xs else filter q xs)) (sym g) ∙ e))

-- a page that failed is the page that it was except for its failed command
pub failed_found : (i : ℕ) (r : PageNo) (n : ℕ) (ino : ℕ) (p : PageNo) (xs : List DirtyPage) (d : DirtyPage) → find (pages.is_dirty_of ino p) (map (pages.fail_of i r n) xs) ≡ Some d → (x : DirtyPage) × (find (pages.is_dirty_of ino p) xs ≡ Some x)
unfolding pages.failed_by
failed_found i r n ino p [] d e = cc
failed_found i r n ino p (x ∷ xs) d e = go (pages.is_dirty_of ino p x) refl (failed_found i r n ino p xs d)
  where
    same : (b : Bool) → pages.is_dirty_of ino p (if b then pages.failed_by n x else x) ≡ pages.is_dirty_of ino p x
    same true = refl
    same false = refl

    go : (b : Bool) → pages.is_dirty_of ino p x ≡ b → (find (pages.is_dirty_of ino p) (map (pages.fail_of i r n) xs) ≡ Some d → (y : DirtyPage) × (find (pages.is_dirty_of ino p) xs ≡ Some y)) → (y : DirtyPage) × (find (pages.is_dirty_of ino p) (x ∷ xs) ≡ Some y)
    go true f h = (x, ap (λ b. if b then Some x else find (pages.is_dirty_of ino p) xs) f)
    go false f h =
        let z = h (sym (ap (λ b. if b then Some (pages.fail_of i r n x) else find (pages.is_dirty_of ino p) (map (pages.fail_of i r n) xs)) (same (pages.is_dirty_of i r x) ∙ f)) ∙ e) in
        (z.0, ap (λ b. if b then Some x else find (pages.is_dirty_of ino p) xs) f ∙ z.1)

-- What fits stays so.
pub mapped_learn : (e : KnownExtent) (xs : List KnownExtent) (ino : ℕ) (p : PageNo) → (e.mapping ≡ None → pages.known_of xs e.ino e.page ≡ None) →
    pages.is_mapped xs ino p ≡ true → pages.is_mapped (pages.with_known e xs) ino p ≡ true
mapped_learn e xs ino p h m = go (Place_is e.ino e.page ino p) refl
  where
    none : is_some (pages.mapping_at None) ≡ true → ⊥
    none z = cc

    at : (o : Option MappedBlock) → e.mapping ≡ o → (e.ino ≡ ino) × (e.page ≡ p) → is_some o ≡ true
    at (Some m) q w = refl
    at None q w = absurd (none (ap (λ o. is_some (pages.mapping_at o)) (sym (h q)) ∙ ap (λ j. is_some (pages.mapping_at (pages.known_of xs j e.page))) w.0 ∙ ap (λ r. is_some (pages.mapping_at (pages.known_of xs ino r))) w.1 ∙ m))

    go : (b : Bool) → Place_is e.ino e.page ino p ≡ b → pages.is_mapped (pages.with_known e xs) ino p ≡ true
    go true q = ap (λ o. is_some (pages.mapping_at o)) (known_put e xs ino p true q) ∙ at e.mapping refl (one_place e.ino e.page ino p q)
    go false q = ap (λ o. is_some (pages.mapping_at o)) (known_put e xs ino p false q) ∙ m

fresh_forget : (st : Store) (ino : ℕ) (p : PageNo) (s : Option ClientSession) → SessionFresh st s → SessionFresh (pages.forget_from st ino p) s
unfolding pages.forget_from
fresh_forget st ino p None f = f
fresh_forget st ino p (Some s) f = λ x e. known_fewer _ st.extents x.0 x.1 (f x e)

unasked_fresh : (st : Store) (s : Option ClientSession) → Unasked s → SessionFresh st s
unasked_fresh st None u = tt
unasked_fresh st (Some s) u = λ x e. absurd (no x (ap (λ o. Rattle.st_laws_steps.specs.Client.Client.map_asked o) (sym u) ∙ e))
  where
    no : (x : ℕ × PageNo) → ◌≡◌ {A = Option (ℕ × PageNo)} None (Some x) → ⊥
    no x q = cc

forget_fit : (a : Association) (ino : ℕ) (p : PageNo) → pages.is_idle a.store ino ≡ true → Fit a → Fit (record a { store = pages.forget_from a.store ino p })
unfolding pages.forget_from pages.drop_from
forget_fit a ino p i f =
    record {
      mapped = λ j q d e. ap (λ o. is_some (pages.mapping_at o)) (find_stays (pages.is_known_of j q) (pages.is_known_behind ino p) (λ x z. apart j q d e x z) a.store.extents) ∙ f.mapped j q d e;
      fresh = fresh_forget a.store ino p a.session f.fresh;
    }
  where
    apart : (j : ℕ) (q : PageNo) (d : DirtyPage) → pages.dirty_of a.store.pages j q ≡ Some d → (x : KnownExtent) → pages.is_known_of j q x ≡ true → pages.is_known_behind ino p x ≡ false
    apart j q d e x z = go (x.ino == ino) refl
      where
        go : (b : Bool) → (x.ino == ino) ≡ b → (b && nat_le p.0 x.page.0) ≡ false
        go true b = absurd (not_idle a.store ino q d (subst (λ n. pages.dirty_of a.store.pages n q ≡ Some d) (sym (one_place x.ino x.page j q z).0 ∙ eqb-true x.ino ino b) e) i)
        go false b = refl

follow_fresh : (st : Store) (s u : ClientSession) → GoesOn st s u → AskedFresh st s.requests.asked → AskedFresh st u.requests.asked
follow_fresh st s u g f x e = go (g.asks x e)
  where
    go : (Rattle.st_laws_steps.specs.Client.Client.map_asked s.requests.asked ≡ Some x) ⊎ (pages.known_of st.extents x.0 x.1 ≡ None) → pages.known_of st.extents x.0 x.1 ≡ None
    go (inl q) = f x q
    go (inr q) = q

write_fit : (a : Association) (f : FileId) (p : PageNo) (bytes : List ℕ) → pages.is_mapped a.store.extents f.ino p ≡ true → Fit a →
    Fit (record a { store = record a.store { pages = pages.written a.store.pages f.ino p bytes; commands = pages.forget_read a.store.commands f.ino p } })
unfolding pages.written
write_fit a f p bytes m h = record { mapped = λ j q d e. go j q d (Place_is f.ino p j q) refl e; fresh = fresh a.session h.fresh }
  where
    fresh : (s : Option ClientSession) → SessionFresh a.store s → SessionFresh (record a.store { pages = pages.written a.store.pages f.ino p bytes; commands = pages.forget_read a.store.commands f.ino p }) s
    fresh None x = x
    fresh (Some s) x = x

    new : DirtyPage
    new = pages.new_dirty a.store.pages f.ino p bytes

    go : (j : ℕ) (q : PageNo) (d : DirtyPage) (b : Bool) → Place_is f.ino p j q ≡ b → find (pages.is_dirty_of j q) (put (pages.is_dirty_of f.ino p) new a.store.pages.dirty) ≡ Some d → pages.is_mapped a.store.extents j q ≡ true
    go j q d true z e = let w = one_place f.ino p j q z in subst (λ n. pages.is_mapped a.store.extents n q ≡ true) w.0 (subst (λ r. pages.is_mapped a.store.extents f.ino r ≡ true) w.1 m)
    go j q d false z e = h.mapped j q d (sym (dirty_put new a.store.pages.dirty j q false z) ∙ e)

plain_next : (now : Stamp) (t u : Turn) (more : List Output) → t.id ≡ u.id → t.config ≡ u.config → t.here.server ≡ u.here.server → t.here.life ≡ u.here.life → t.here.session ≡ u.here.session → (Fit t.here → Fit u.here) → u.out ≡ t.out ++ more → AllUnlost more → Next now t u
plain_next now t u more i k s l e f o n =
    record { id = i; config = k; server = s; life = l; session = subst (λ z. SessionNext t.config now t.here.session z) e (session_same t.config now t.here.session); fit = f; more = more; out = o; unlost = n }

pub change_next : (now : Stamp) (t u : Turn) → Change now t u → Next now t u
unfolding cp.submit_read cp.submit_write cp.submit_command
change_next now t _ (Says _ o p) = plain_next now t _ (o ∷ []) refl refl refl refl refl (λ f. f) refl (record { one = plain_unlost o p; rest = record {} })
change_next now t _ (Operates _ os) = plain_next now t _ [] refl refl refl refl refl (λ f. f) (nothing_after t.out) (record {})
change_next now t _ (Answers _ os ops a) = plain_next now t _ _ refl refl refl refl refl (λ f. f) refl (answers_unlost a ops)
change_next now t _ (Greets _ g) = plain_next now t _ [] refl refl refl refl refl (λ f. record { mapped = f.mapped; fresh = f.fresh }) (nothing_after t.out) (record {})
change_next now t _ (TellsLost _ lost) = plain_next now t _ [] refl refl refl refl refl (λ f. record { mapped = f.mapped; fresh = f.fresh }) (nothing_after t.out) (record {})
change_next now t _ (Begins _ s e b n) =
    record {
      id = refl;
      config = refl;
      server = refl;
      life = refl;
      session = subst (λ z. SessionNext t.config now z (Some s)) (sym e) b;
      fit = λ f. record { mapped = f.mapped; fresh = unasked_fresh t.here.store (Some s) (ap (λ (z : ClientSession). z.requests.asked) n.2) };
      more = [];
      out = nothing_after t.out;
      unlost = record {};
    }
change_next now t _ (Follows _ s u e g) =
    record {
      id = refl;
      config = refl;
      server = refl;
      life = refl;
      session = subst (λ z. SessionNext t.config now z (Some u)) (sym e) g.date;
      fit = λ f. record { mapped = f.mapped; fresh = follow_fresh t.here.store s u g (subst (SessionFresh t.here.store) e f.fresh) };
      more = [];
      out = nothing_after t.out;
      unlost = record {};
    }
change_next now t _ (Learns _ e u h) =
    plain_next now t _ [] refl refl refl refl refl (λ f. record { mapped = λ j q d i. mapped_learn e t.here.store.extents j q h (f.mapped j q d i); fresh = unasked_fresh (record t.here.store { extents = pages.with_known e t.here.store.extents }) t.here.session u }) (nothing_after t.out) (record {})
change_next now t _ (Forgets _ ino p i) = plain_next now t _ [] refl refl refl refl refl (λ f. forget_fit t.here ino p i f) (nothing_after t.out) (record {})
change_next now t _ (Caches _ clean) = plain_next now t _ [] refl refl refl refl refl (λ f. record { mapped = f.mapped; fresh = fresh t.here.session f.fresh }) (nothing_after t.out) (record {})
  where
    fresh : (s : Option ClientSession) → SessionFresh t.here.store s → SessionFresh (record t.here.store { pages = record t.here.store.pages { clean = clean } }) s
    fresh None x = x
    fresh (Some s) x = x
change_next now t _ (Writes _ s f p bytes n e sv own m h) = plain_next now t _ (outputs.Note n ∷ []) refl refl refl refl refl (λ z. write_fit t.here f p bytes m z) refl (record { one = change_unlost f p n h; rest = record {} })
change_next now t _ (Reads _ ino p m i clean) = plain_next now t _ _ refl refl refl refl refl (λ f. record { mapped = f.mapped; fresh = fresh t.here.session f.fresh }) refl (record { one = tt; rest = record {} })
  where
    fresh : (s : Option ClientSession) → SessionFresh t.here.store s → SessionFresh (cp.submit_read t ino p m).here.store s
    fresh None x = x
    fresh (Some s) x = x
change_next now t _ (Submits _ s ino p d m e i k w) = plain_next now t _ _ refl refl refl refl refl (λ f. record { mapped = f.mapped; fresh = fresh t.here.session f.fresh }) refl (record { one = tt; rest = record {} })
  where
    fresh : (s : Option ClientSession) → SessionFresh t.here.store s → SessionFresh (cp.submit_write t d m).here.store s
    fresh None x = x
    fresh (Some s) x = x

pub changes_next : (now : Stamp) (t u : Turn) → Changes now t u → Next now t u
changes_next now t _ (Still _) = next_same now t
changes_next now t _ (Then _ u v c cs) = next_then now t u v (change_next now t u c) (changes_next now u v cs)
