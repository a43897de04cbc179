-- Each life's lease end is among the dates of the history.
use Rattle.st_lemmas.proofs.Words
use Words.{◌≡◌, Bool, true, false, not, ◌&&◌, ◌||◌, List, [], ◌∷◌, ◌++◌, ◌==◌, Option, Some, None, refl, sym, ap, ◌∙◌, subst, if◌then◌else◌, filter, list_any}
use Words.{eqb-true, eq-eqb, ClientId, Life, ServerId, Stamp, Note, Output, Observation, LeaseLife}
use Words.notes
use Words.outputs
use Words.seen
use Words.ClientState.{ClientState}
use Words.Events as ev
use Words.Events.{WorldTurn, present_life, client_says, client_says_all}
use Words.History.{History, LeaseDate, lease_date, is_date_of, recall, recall_all}
use Words.Keys.{same_client, same_server}
use Words.Safety.{is_date_with}
use Words.World.{World, WorldClient, site_of}
use Words.Tables.{and_both, and_true}
use Words.Tests.{any_with_last}
use Words.Worlds.{recall_more}
use Rattle.st_laws_leases.specs.History.Notes.{noted, noted_one, noted_by}

-- a life of a client at a server, by its names only
abbrev pub row : ClientId → ServerId → Life → LeaseLife
row c s l = record { client = c; server = s; life = l; end = None; crashed = false }

-- a lease end of that life is among these dates; or there is none
abbrev pub Dated : List LeaseDate → ClientId → ServerId → Life → Option Stamp → Type 0
Dated ds c s l None = Unit {0}
Dated ds c s l (Some end) = list_any (is_date_with (row c s l) end) ds ≡ true

-- the dates with one more, in place of the older one of its lease
abbrev pub put_date : LeaseDate → List LeaseDate → List LeaseDate
put_date d ds = filter (λ e. not (is_date_of d e)) ds ++ d ∷ []

any_front : {A : Type 0} (p : A → Bool) (xs ys : List A) → list_any p xs ≡ true → list_any p (xs ++ ys) ≡ true
any_front p [] ys e = cc
any_front p (x ∷ xs) ys e = go (p x) e (any_front p xs ys)
  where
    go : (b : Bool) → (b || list_any p xs) ≡ true → (list_any p xs ≡ true → list_any p (xs ++ ys) ≡ true) → (b || list_any p (xs ++ ys)) ≡ true
    go true e r = refl
    go false e r = r e

any_kept : {A : Type 0} (p q : A → Bool) → ((x : A) → p x ≡ true → q x ≡ true) → (xs : List A) → list_any p xs ≡ true → list_any p (filter q xs) ≡ true
any_kept p q f [] e = cc
any_kept {A} p q f (x ∷ xs) e = go (p x) refl e (any_kept p q f xs)
  where
    here : (b : Bool) → q x ≡ b → p x ≡ true → q x ≡ true → list_any p (if b then x ∷ filter q xs else filter q xs) ≡ true
    here true i e z = ap (λ b. b || list_any p (filter q xs)) e
    here false i e z = absurd (no (sym z ∙ i))
      where
        no : ◌≡◌ {A = Bool} true false → ⊥
        no y = cc

    there : (b : Bool) → list_any p (filter q xs) ≡ true → list_any p (if b then x ∷ filter q xs else filter q xs) ≡ true
    there true r = past (p x) r
      where
        past : (b : Bool) → list_any p (filter q xs) ≡ true → (b || list_any p (filter q xs)) ≡ true
        past true r = refl
        past false r = r
    there false r = r

    go : (b : Bool) → p x ≡ b → (b || list_any p xs) ≡ true → (list_any p xs ≡ true → list_any p (filter q xs) ≡ true) → list_any p (if q x then x ∷ filter q xs else filter q xs) ≡ true
    go true i e r = here (q x) refl i (f x i)
    go false i e r = there (q x) (r e)

-- a date of another lease leaves it
put_other : (d : LeaseDate) (ds : List LeaseDate) (c : ClientId) (s : ServerId) (l : Life) (o : Option Stamp) → (d.client.0 ≡ c.0 → d.server.0 ≡ s.0 → d.life.0 ≡ l.0 → ⊥) → Dated ds c s l o → Dated (put_date d ds) c s l o
put_other d ds c s l None f h = tt
put_other d ds c s l (Some end) f h = any_front (is_date_with (row c s l) end) _ (d ∷ []) (any_kept (is_date_with (row c s l) end) (λ e. not (is_date_of d e)) other ds h)
  where
    other : (e : LeaseDate) → is_date_with (row c s l) end e ≡ true → not (is_date_of d e) ≡ true
    other e q = go (is_date_of d e) refl
      where
        go : (b : Bool) → is_date_of d e ≡ b → not b ≡ true
        go false i = refl
        go true i =
            let a = and_true (same_client e.client c && same_server e.server s) _ q in
            let b = and_true (same_client e.client c) (same_server e.server s) a.0 in
            let k = and_true (e.life.0 == l.0) _ a.1 in
            let x = and_true (same_client e.client d.client) _ i in
            let y = and_true (same_server e.server d.server) (e.life.0 == d.life.0) x.1 in
            absurd (f (sym (eqb-true e.client.0 d.client.0 x.0) ∙ eqb-true e.client.0 c.0 b.0) (sym (eqb-true e.server.0 d.server.0 y.0) ∙ eqb-true e.server.0 s.0 b.1) (sym (eqb-true e.life.0 d.life.0 y.1) ∙ eqb-true e.life.0 l.0 k.0))

-- and its own date is there
put_own : (d : LeaseDate) (ds : List LeaseDate) → Dated (put_date d ds) d.client d.server d.life (Some d.end)
put_own d ds =
    any_with_last (is_date_with (row d.client d.server d.life) d.end) _ d
    (and_both _ _ (and_both _ _ (eq-eqb d.client.0 d.client.0 refl) (eq-eqb d.server.0 d.server.0 refl)) (and_both _ _ (eq-eqb d.life.0 d.life.0 refl) (eq-eqb d.end.0 d.end.0 refl)))

-- What a client's outputs make of the dates.
abbrev pub dates_one : World → ClientId → Output → List LeaseDate → List LeaseDate
dates_one after c (outputs.Note (notes.Leased s end)) ds = put_date (lease_date after c s end) ds
dates_one after c o ds = ds

abbrev pub dates_out : World → ClientId → List Output → List LeaseDate → List LeaseDate
dates_out after c [] ds = ds
dates_out after c (o ∷ os) ds = dates_out after c os (dates_one after c o ds)

dates_said_one : (w v : World) (c : ClientId) (before : ClientState) (h : History) (o : Output) (a : WorldTurn) → (recall_all w v (client_says a c before o).seen h).dates ≡ dates_one v c o (recall_all w v a.seen h).dates
unfolding client_says ev.submits ev.answers_with ev.client_notes ev.accepts ev.patches ev.loses ev.sends recall
dates_said_one w v c before h (outputs.Send m) a = ap (λ (x : History). x.dates) (recall_more w v a.seen _ h)
dates_said_one w v c before h (outputs.Answer op x) a = ap (λ (x : History). x.dates) (recall_more w v a.seen _ h)
dates_said_one w v c before h (outputs.Submit n at what) a = go (site_of a.world c)
  where
    go : (o : Option WorldClient) → (recall_all w v (ev.submits a c o n at what).seen h).dates ≡ (recall_all w v a.seen h).dates
    go None = refl
    go (Some site) = ap (λ (x : History). x.dates) (recall_more w v a.seen _ h)
dates_said_one w v c before h (outputs.Note n) a = note n
  where
    note : (n : Note) → (recall_all w v (ev.client_notes a c before n).seen h).dates ≡ dates_one v c (outputs.Note n) (recall_all w v a.seen h).dates
    note (notes.Leased s end) = ap (λ (x : History). x.dates) (recall_more w v a.seen _ h)
    note (notes.Lost s life) = ap (λ (x : History). x.dates) (recall_more w v a.seen _ h)
    note (notes.Accepted f p bytes) = ap (λ (x : History). x.dates) (recall_more w v a.seen _ h)
    note (notes.Patched f p at bytes) = ap (λ (x : History). x.dates) (recall_more w v a.seen _ h)
    note n = refl

pub dates_said : (w v : World) (c : ClientId) (before : ClientState) (h : History) (os : List Output) (a : WorldTurn) → (recall_all w v (client_says_all c before os a).seen h).dates ≡ dates_out v c os (recall_all w v a.seen h).dates
unfolding client_says_all
dates_said w v c before h [] a = refl
dates_said w v c before h (o ∷ os) a = dates_said w v c before h os (client_says a c before o) ∙ ap (dates_out v c os) (dates_said_one w v c before h o a)

-- a lease of another client, or of a life other than the present one, stays dated
pub dated_other : (v : World) (c d : ClientId) (s : ServerId) (l : Life) (o : Option Stamp) (os : List Output) (ds : List LeaseDate) → (c.0 ≡ d.0 → (present_life v c s).0 ≡ l.0 → ⊥) → Dated ds d s l o → Dated (dates_out v c os ds) d s l o
dated_other v c d s l o [] ds f h = h
dated_other v c d s l o (x ∷ os) ds f h = dated_other v c d s l o os (dates_one v c x ds) f (one x)
  where
    note : (n : Note) → Dated (dates_one v c (outputs.Note n) ds) d s l o
    note (notes.Leased r end) = put_other (lease_date v c r end) ds d s l o (λ p q i. f p (ap (λ k. (present_life v c (record { 0 = k })).0) (sym q) ∙ i)) h
    note n = h

    one : (x : Output) → Dated (dates_one v c x ds) d s l o
    one (outputs.Note n) = note n
    one x = h

-- the end that was noted last for the present life is among the dates
pub dated_own : (v : World) (c : ClientId) (s : ServerId) (os : List Output) (ds : List LeaseDate) (o : Option Stamp) → Dated ds c s (present_life v c s) o → Dated (dates_out v c os ds) c s (present_life v c s) (noted s os o)
unfolding noted
dated_own v c s [] ds o h = h
dated_own v c s (x ∷ os) ds o h = dated_own v c s os (dates_one v c x ds) (noted_one s x o) (one x)
  where
    at : (r : ServerId) (end : Stamp) (b : Bool) → same_server r s ≡ b → Dated (put_date (lease_date v c r end) ds) c s (present_life v c s) (if b then Some end else o)
    at r end true q = subst (λ (k : ServerId). Dated (put_date (lease_date v c r end) ds) c k (present_life v c k) (Some end)) (ap (λ n. record { 0 = n }) (eqb-true r.0 s.0 q)) (put_own (lease_date v c r end) ds)
    at r end false q = put_other (lease_date v c r end) ds c s (present_life v c s) o (λ p i j. no (sym (eq-eqb r.0 s.0 i) ∙ q)) h
      where
        no : ◌≡◌ {A = Bool} true false → ⊥
        no y = cc

    note : (n : Note) → Dated (dates_one v c (outputs.Note n) ds) c s (present_life v c s) (noted_by s n o)
    note (notes.Leased r end) = at r end (same_server r s) refl
    note n = h

    one : (x : Output) → Dated (dates_one v c x ds) c s (present_life v c s) (noted_one s x o)
    one (outputs.Note n) = note n
    one x = h

-- Observations that date no lease.
abbrev pub Undated : Observation → Type 0
Undated (seen.Leased c s end) = ⊥
Undated o = Unit {0}

abbrev pub AllUndated : List Observation → Type 0
AllUndated [] = Unit {0}
AllUndated (o ∷ os) = record { one : Undated o; rest : AllUndated os }

pub undated_same : (w v : World) (os : List Observation) (h : History) → AllUndated os → (recall_all w v os h).dates ≡ h.dates
unfolding recall_all recall
undated_same w v [] h u = refl
undated_same w v (o ∷ os) h u = undated_same w v os (recall w v h o) u.rest ∙ one o u.one
  where
    one : (o : Observation) → Undated o → (recall w v h o).dates ≡ h.dates
    one (seen.Leased c s end) u = absurd u
    one (seen.Suspected s c start) u = refl
    one (seen.Stolen s c life) u = refl
    one (seen.Wrote i c f p bytes) u = refl
    one (seen.Patched i c f p at bytes) u = refl
    one (seen.CutAt i f p) u = refl
    one o u = refl
