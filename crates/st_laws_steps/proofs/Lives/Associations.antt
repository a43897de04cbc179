-- Look-ups among the associations of a client, and among the lives that a step says to be lost.
use Rattle.st_lemmas.proofs.Words
use Words.{◌≡◌, Bool, true, false, ◌&&◌, List, [], ◌∷◌, ◌++◌, ◌==◌, Some, None, refl, sym, ap, ◌∙◌, subst, inl, inr, if◌then◌else◌, find, map, eqb-true, eq-eqb}
use Words.{ClientId, ServerId, Life, Stamp, LeaseLife}
use Words.Keys.{same_client, same_server}
use Words.ClientState.{Association, ClientState, is_at}
use Words.World.{is_life_of}
use Words.Lists.{Has}
use Words.Lookups.{some_is}
use Rattle.st_laws_steps.specs.Client.Losses.{is_ended}
use Rattle.st_laws_steps.specs.Lives.Lives.{lost_row, row_lost, rows_lost, Pairwise, Once, server_number}

pub has_number : (al : List Association) (a : Association) → Has a al → Has (server_number a) (map server_number al)
has_number [] a h = h
has_number (x ∷ al) a (inl e) = inl (ap server_number e)
has_number (x ∷ al) a (inr h) = inr (has_number al a h)

-- each association is the one of its server
pub own_found : (al : List Association) → Once (map server_number al) → (a : Association) → Has a al → find (is_at a.server) al ≡ Some a
own_found [] o a h = absurd h
own_found (x ∷ al) o a (inl e) = ap (λ b. if b then Some x else find (is_at a.server) al) (eq-eqb x.server.0 a.server.0 (ap (λ (z : Association). z.server.0) (sym e))) ∙ ap (λ z. Some z) (sym e)
own_found (x ∷ al) o a (inr h) = go (same_server x.server a.server) refl (own_found al o.rest a h)
  where
    go : (b : Bool) → same_server x.server a.server ≡ b → find (is_at a.server) al ≡ Some a → (if b then Some x else find (is_at a.server) al) ≡ Some a
    go true q r = absurd (o.first (server_number a) (has_number al a h) (eqb-true x.server.0 a.server.0 q))
    go false q r = r

-- an association that is found is there, and of that server
pub found_has : (s : ServerId) (al : List Association) (a : Association) → find (is_at s) al ≡ Some a → Has a al × (a.server ≡ s)
found_has s [] a e = cc
found_has s (x ∷ al) a e = go (same_server x.server s) refl e (found_has s al a)
  where
    go : (b : Bool) → same_server x.server s ≡ b → (if b then Some x else find (is_at s) al) ≡ Some a → (find (is_at s) al ≡ Some a → Has a al × (a.server ≡ s)) → Has a (x ∷ al) × (a.server ≡ s)
    go true q e f = (inl (sym (some_is e)), ap (λ (z : Association). z.server) (sym (some_is e)) ∙ ap (λ n. record { 0 = n }) (eqb-true x.server.0 s.0 q))
    go false q e f = let z = f e in (inr z.0, z.1)

-- Pairs of associations of the same servers.
pub numbers_same : (R : Association → Association → Type 0) → ((a b : Association) → R a b → a.server ≡ b.server) → (al bl : List Association) → Pairwise R al bl → map server_number al ≡ map server_number bl
numbers_same R f [] [] p = refl
numbers_same R f [] (b ∷ bl) p = absurd p
numbers_same R f (a ∷ al) [] p = absurd p
numbers_same R f (a ∷ al) (b ∷ bl) p = ap (λ (z : ServerId). z.0 ∷ map server_number al) (f a b p.one) ∙ ap (λ z. b.server.0 ∷ z) (numbers_same R f al bl p.rest)

-- what is found of one is the pair of what is found of the other
pub record PairFound (R : Association → Association → Type 0) (s : ServerId) (al : List Association) (b : Association) : Type 0 where
  pub a : Association
  pub is : find (is_at s) al ≡ Some a
  pub pair : R a b

pub pair_found : (R : Association → Association → Type 0) → ((a b : Association) → R a b → a.server ≡ b.server) → (s : ServerId) (al bl : List Association) → Pairwise R al bl → (b : Association) → find (is_at s) bl ≡ Some b → PairFound R s al b
pair_found R f s [] [] p b e = cc
pair_found R f s [] (y ∷ bl) p b e = absurd p
pair_found R f s (x ∷ al) [] p b e = absurd p
pair_found R f s (x ∷ al) (y ∷ bl) p b e = go (same_server y.server s) refl e (pair_found R f s al bl p.rest b)
  where
    same : same_server x.server s ≡ same_server y.server s
    same = ap (λ z. same_server z s) (f x y p.one)

    go : (c : Bool) → same_server y.server s ≡ c → (if c then Some y else find (is_at s) bl) ≡ Some b → (find (is_at s) bl ≡ Some b → PairFound R s al b) → PairFound R s (x ∷ al) b
    go true q e g = record { a = x; is = ap (λ c. if c then Some x else find (is_at s) al) (same ∙ q); pair = subst (R x) (some_is e) p.one }
    go false q e g = let z = g e in record { a = z.a; is = ap (λ c. if c then Some x else find (is_at s) al) (same ∙ q) ∙ z.is; pair = z.pair }

pub record PairLeft (R : Association → Association → Type 0) (s : ServerId) (bl : List Association) (a : Association) : Type 0 where
  pub b : Association
  pub is : find (is_at s) bl ≡ Some b
  pub pair : R a b

pub pair_left : (R : Association → Association → Type 0) → ((a b : Association) → R a b → a.server ≡ b.server) → (s : ServerId) (al bl : List Association) → Pairwise R al bl → (a : Association) → find (is_at s) al ≡ Some a → PairLeft R s bl a
pair_left R f s [] [] p a e = cc
pair_left R f s [] (y ∷ bl) p a e = absurd p
pair_left R f s (x ∷ al) [] p a e = absurd p
pair_left R f s (x ∷ al) (y ∷ bl) p a e = go (same_server x.server s) refl e (pair_left R f s al bl p.rest a)
  where
    same : same_server y.server s ≡ same_server x.server s
    same = ap (λ z. same_server z s) (sym (f x y p.one))

    go : (c : Bool) → same_server x.server s ≡ c → (if c then Some x else find (is_at s) al) ≡ Some a → (find (is_at s) al ≡ Some a → PairLeft R s bl a) → PairLeft R s (y ∷ bl) a
    go true q e g = record { b = y; is = ap (λ c. if c then Some y else find (is_at s) bl) (same ∙ q); pair = subst (λ z. R z y) (some_is e) p.one }
    go false q e g = let z = g e in record { b = z.b; is = ap (λ c. if c then Some y else find (is_at s) bl) (same ∙ q) ∙ z.is; pair = z.pair }

pub pair_none : (R : Association → Association → Type 0) → ((a b : Association) → R a b → a.server ≡ b.server) → (s : ServerId) (al bl : List Association) → Pairwise R al bl → find (is_at s) al ≡ None → find (is_at s) bl ≡ None
pair_none R f s [] [] p e = refl
pair_none R f s [] (y ∷ bl) p e = absurd p
pair_none R f s (x ∷ al) [] p e = absurd p
pair_none R f s (x ∷ al) (y ∷ bl) p e = go (same_server x.server s) refl e (pair_none R f s al bl p.rest)
  where
    go : (c : Bool) → same_server x.server s ≡ c → (if c then Some x else find (is_at s) al) ≡ None → (find (is_at s) al ≡ None → find (is_at s) bl ≡ None) → find (is_at s) (y ∷ bl) ≡ None
    go true q e g = cc
    go false q e g = ap (λ c. if c then Some y else find (is_at s) bl) (ap (λ z. same_server z s) (sym (f x y p.one)) ∙ q) ∙ g e

-- The lives that are lost.

-- each belongs to an association whose lease has ended
pub record LostOf (c : ClientId) (before : ClientState) (now : Stamp) (al : List Association) (e : LeaseLife) : Type 0 where
  pub a : Association
  pub has : Has a al
  pub ended : is_ended before.config now a.session ≡ true
  pub is : e ≡ lost_row c before a.server a.life

pub lost_has : (c : ClientId) (before : ClientState) (now : Stamp) (al : List Association) (e : LeaseLife) → Has e (rows_lost c before now al) → LostOf c before now al e
unfolding rows_lost row_lost
lost_has c before now [] e h = absurd h
lost_has c before now (x ∷ al) e h = go (is_ended before.config now x.session) refl h (lost_has c before now al e)
  where
    go : (b : Bool) → is_ended before.config now x.session ≡ b → Has e ((if b then lost_row c before x.server x.life ∷ [] else []) ++ rows_lost c before now al) → (Has e (rows_lost c before now al) → LostOf c before now al e) → LostOf c before now (x ∷ al) e
    go true q (inl i) f = record { a = x; has = inl refl; ended = q; is = i }
    go true q (inr h) f = let z = f h in record { a = z.a; has = inr z.has; ended = z.ended; is = z.is }
    go false q h f = let z = f h in record { a = z.a; has = inr z.has; ended = z.ended; is = z.is }

-- the row of the association of a server is found, by its life
pub lost_found : (c : ClientId) (before : ClientState) (now : Stamp) (s : ServerId) (l : Life) (al : List Association) (a : Association) → find (is_at s) al ≡ Some a → is_ended before.config now a.session ≡ true → a.life.0 ≡ l.0 →
    find (is_life_of c s l) (rows_lost c before now al) ≡ Some (lost_row c before a.server a.life)
unfolding rows_lost row_lost
lost_found c before now s l [] a e i q = cc
lost_found c before now s l (x ∷ al) a e i q = go (same_server x.server s) refl e (lost_found c before now s l al a)
  where
    row : LeaseLife
    row = lost_row c before x.server x.life

    test : is_life_of c s l row ≡ (same_server x.server s && (x.life.0 == l.0))
    test = ap (λ b. b && (same_server x.server s && (x.life.0 == l.0))) (eq-eqb c.0 c.0 refl)

    skip : (d : Bool) → (same_server x.server s ≡ false) → find (is_life_of c s l) ((if d then row ∷ [] else []) ++ rows_lost c before now al) ≡ find (is_life_of c s l) (rows_lost c before now al)
    skip true z = ap (λ b. if b then Some row else find (is_life_of c s l) (rows_lost c before now al)) (test ∙ ap (λ b. b && (x.life.0 == l.0)) z)
    skip false z = refl

    go : (b : Bool) → same_server x.server s ≡ b → (if b then Some x else find (is_at s) al) ≡ Some a →
        (find (is_at s) al ≡ Some a → is_ended before.config now a.session ≡ true → a.life.0 ≡ l.0 → find (is_life_of c s l) (rows_lost c before now al) ≡ Some (lost_row c before a.server a.life)) →
        find (is_life_of c s l) ((if is_ended before.config now x.session then row ∷ [] else []) ++ rows_lost c before now al) ≡ Some (lost_row c before a.server a.life)
    go true z e f =
        let same : x ≡ a = some_is e in
        ap (λ d. find (is_life_of c s l) ((if d then row ∷ [] else []) ++ rows_lost c before now al)) (ap (λ (y : Association). is_ended before.config now y.session) same ∙ i)
        ∙ ap (λ b. if b then Some row else find (is_life_of c s l) (rows_lost c before now al)) (test ∙ ap (λ b. b && (x.life.0 == l.0)) z ∙ eq-eqb x.life.0 l.0 (ap (λ (y : Association). y.life.0) same ∙ q))
        ∙ ap (λ (y : Association). Some (lost_row c before y.server y.life)) same
    go false z e f = skip (is_ended before.config now x.session) z ∙ f e i q

-- none of another client
pub lost_other : (c d : ClientId) (before : ClientState) (now : Stamp) (s : ServerId) (l : Life) (al : List Association) → same_client c d ≡ false → find (is_life_of d s l) (rows_lost c before now al) ≡ None
unfolding rows_lost row_lost
lost_other c d before now s l [] n = refl
lost_other c d before now s l (x ∷ al) n = go (is_ended before.config now x.session) (lost_other c d before now s l al n)
  where
    go : (b : Bool) → find (is_life_of d s l) (rows_lost c before now al) ≡ None → find (is_life_of d s l) ((if b then lost_row c before x.server x.life ∷ [] else []) ++ rows_lost c before now al) ≡ None
    go true r = ap (λ b. if b && (same_server x.server s && (x.life.0 == l.0)) then Some (lost_row c before x.server x.life) else find (is_life_of d s l) (rows_lost c before now al)) n ∙ r
    go false r = r
