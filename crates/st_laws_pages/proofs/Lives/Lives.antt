-- What was late stays late when a client crashes.
use Rattle.st_lemmas.proofs.Words
use Words.{◌≡◌, Bool, true, false, ◌&&◌, List, [], ◌∷◌, ◌++◌, ◌==◌, Option, Some, None, refl, sym, ap, ◌∙◌, if◌then◌else◌, find, map, set, pred, eqb-true}
use Words.{eq-eqb, Config, ClientId, ServerId, Life, Stamp, LeaseLife}
use Words.nodes
use Words.Keys.{same_client, same_server}
use Words.Client as cl
use Words.ClientLease.{end_at}
use Words.ClientState.{Association, is_at}
use Words.World as world
use Words.World.{World, WorldClient, site_of, numbered, clock_of, is_life_of, ended_of, end_or_present, life_of_association, lives_of}
use Words.Admissible as adm
use Words.Events as ev
use Words.Lookups.{some_is}
use Words.Truth.{not_both}
use Rattle.st_laws_pages.specs.Disks.World.{Timely, LateStays}
use Rattle.st_laws_steps.specs.Lives.Lives.{CrashLives}
use Rattle.st_laws_pages.proofs.Disks.Servers.{numbered_other}

pub find_front : {A : Type 0} (p : A → Bool) (xs ys : List A) (v : A) → find p xs ≡ Some v → find p (xs ++ ys) ≡ Some v
find_front p [] ys v e = cc
find_front {A} p (x ∷ xs) ys v e = go (p x) e (find_front p xs ys v)
  where
    go : (b : Bool) → (if b then Some x else find p xs) ≡ Some v → (find p xs ≡ Some v → find p (xs ++ ys) ≡ Some v) → (if b then Some x else find p (xs ++ ys)) ≡ Some v
    go true e f = e
    go false e f = f e

pub find_back : {A : Type 0} (p : A → Bool) (xs ys : List A) → find p xs ≡ None → find p (xs ++ ys) ≡ find p ys
find_back p [] ys e = refl
find_back {A} p (x ∷ xs) ys e = go (p x) e (find_back p xs ys)
  where
    go : (b : Bool) → (if b then Some x else find p xs) ≡ None → (find p xs ≡ None → find p (xs ++ ys) ≡ find p ys) → (if b then Some x else find p (xs ++ ys)) ≡ find p ys
    go true e f = cc
    go false e f = f e

-- the rows of a client that crashed, for its own lives and for others'
pub rows_own : (k : Config) (c : ClientId) (s : ServerId) (l : Life) (xs : List Association) (a : Association) → find (is_at s) xs ≡ Some a → a.life.0 ≡ l.0 →
    find (is_life_of c s l) (map ev.crashed_life (map (life_of_association k c) xs)) ≡ Some (ev.crashed_life (life_of_association k c a))
rows_own k c s l [] a e q = cc
rows_own k c s l (x ∷ xs) a e q = go (same_server x.server s) refl e (λ e. rows_own k c s l xs a e q)
  where
    own : (c.0 == c.0) ≡ true
    own = eq-eqb c.0 c.0 refl

    test : (b : Bool) → same_server x.server s ≡ b → is_life_of c s l (ev.crashed_life (life_of_association k c x)) ≡ (b && (x.life.0 == l.0))
    test b t = ap (λ z. z && (same_server x.server s && (x.life.0 == l.0))) own ∙ ap (λ z. z && (x.life.0 == l.0)) t

    here : (z : Bool) → z ≡ true → (if z then Some (ev.crashed_life (life_of_association k c x)) else find (is_life_of c s l) (map ev.crashed_life (map (life_of_association k c) xs))) ≡ Some (ev.crashed_life (life_of_association k c x))
    here true e = refl
    here false e = cc

    there : (z : Bool) → z ≡ false → (if z then Some (ev.crashed_life (life_of_association k c x)) else find (is_life_of c s l) (map ev.crashed_life (map (life_of_association k c) xs))) ≡ find (is_life_of c s l) (map ev.crashed_life (map (life_of_association k c) xs))
    there true e = cc
    there false e = refl

    go : (b : Bool) → same_server x.server s ≡ b → (if b then Some x else find (is_at s) xs) ≡ Some a →
        (find (is_at s) xs ≡ Some a → find (is_life_of c s l) (map ev.crashed_life (map (life_of_association k c) xs)) ≡ Some (ev.crashed_life (life_of_association k c a))) →
        find (is_life_of c s l) (map ev.crashed_life (map (life_of_association k c) (x ∷ xs))) ≡ Some (ev.crashed_life (life_of_association k c a))
    go true t e f = here _ (test true t ∙ eq-eqb x.life.0 l.0 (ap (λ (z : Association). z.life.0) (some_is e) ∙ q)) ∙ ap (λ z. Some (ev.crashed_life (life_of_association k c z))) (some_is e)
    go false t e f = there _ (test false t) ∙ f e

pub rows_other : (k : Config) (c d : ClientId) (s : ServerId) (l : Life) (xs : List Association) → same_client c d ≡ false → find (is_life_of d s l) (map ev.crashed_life (map (life_of_association k c) xs)) ≡ None
rows_other k c d s l [] n = refl
rows_other k c d s l (x ∷ xs) n = go (same_client c d) n (rows_other k c d s l xs n)
  where
    go : (b : Bool) → b ≡ false → find (is_life_of d s l) (map ev.crashed_life (map (life_of_association k c) xs)) ≡ None →
        (if b && (same_server x.server s && (x.life.0 == l.0)) then Some (ev.crashed_life (life_of_association k c x)) else find (is_life_of d s l) (map ev.crashed_life (map (life_of_association k c) xs))) ≡ None
    go true e f = cc
    go false e f = f

pub flip_client : (c d : ClientId) → same_client d c ≡ false → same_client c d ≡ false
flip_client c d n = go (same_client c d) refl
  where
    go : (b : Bool) → same_client c d ≡ b → b ≡ false
    go true e = absurd (not_both _ (eq-eqb d.0 c.0 (sym (eqb-true c.0 d.0 e))) n)
    go false e = refl

other_site : (w : World) (c d : ClientId) (site new : WorldClient) → site_of w c ≡ Some site → same_client d c ≡ false → numbered (set w.clients (pred c.0) new) d.0 ≡ numbered w.clients d.0
other_site w c d site new e n = numbered_other w.clients c.0 d.0 new site e n

-- Crash: the client's lives end with the ends that they had.
pub crash_late : (w : World) (c : ClientId) (site : WorldClient) → site_of w c ≡ Some site → site.node.state.id ≡ c → CrashLives w c → LateStays w (ev.crashes_client w c (Some site)).world
unfolding ev.crashes_client ev.marks
crash_late w c site there id h k x i t = go (same_client x.client c) refl (ended_of w x.client x.server x.life) refl
  where
    v : World
    v = ev.with_site c (ev.stopped_site site) (ev.with_crashed_lives site w)

    p : LeaseLife → Bool
    p = is_life_of x.client x.server x.life

    rows : List LeaseLife
    rows = map ev.crashed_life (lives_of site.node.state)

    clock : Stamp
    clock = clock_of w (nodes.Client x.client)

    go : (b : Bool) → same_client x.client c ≡ b → (o : Option LeaseLife) → ended_of w x.client x.server x.life ≡ o → Timely w k x
    go b q (Some e) o = ap (λ z. adm.late_at clock (end_or_present w x.client x.server z)) o ∙ ap (λ z. adm.late_at clock (end_or_present v x.client x.server z)) (sym (find_front p w.ended rows e o)) ∙ t
    go false q None o =
        ap (λ z. adm.late_at clock (end_or_present w x.client x.server z)) o
        ∙ ap (λ z. adm.late_at clock (world.present_end w x.server z)) (sym (other_site w c x.client site (ev.stopped_site site) there q))
        ∙ ap (λ z. adm.late_at clock (end_or_present v x.client x.server z)) (sym (find_back p w.ended rows o ∙ rows_other site.node.state.config site.node.state.id x.client x.server x.life site.node.state.associations (ap (λ z. same_client z x.client) id ∙ flip_client c x.client q)))
        ∙ t
    go true q None o = at (cl.association_with site.node.state x.server) refl
      where
        its : x.client ≡ c
        its = ap (λ n. record { 0 = n }) (eqb-true x.client.0 c.0 q)

        now : site_of w x.client ≡ Some site
        now = ap (site_of w) its ∙ there

        at : (a : Option Association) → cl.association_with site.node.state x.server ≡ a → Timely w k x
        at None a =
            ap (λ z. adm.late_at clock (end_or_present w x.client x.server z)) o ∙ ap (λ z. adm.late_at clock (world.present_end w x.server z)) now
            ∙ ap (λ z. adm.late_at clock (end_at site.node.state.config (cl.lease_at z))) a
        at (Some y) a =
            let life : y.life.0 ≡ x.life.0 = ap (λ (z : Option Association). (world.life_at z).0) (sym a) ∙ ap (λ z. (ev.life_of_site x.server z).0) (sym now) ∙ h k x i its o in
            ap (λ z. adm.late_at clock (end_or_present w x.client x.server z)) o ∙ ap (λ z. adm.late_at clock (world.present_end w x.server z)) now
            ∙ ap (λ z. adm.late_at clock (end_at site.node.state.config (cl.lease_at z))) a
            ∙ ap (λ z. adm.late_at clock (end_or_present v x.client x.server z)) (sym (find_back p w.ended rows o
            ∙ ap (λ z. find p (map ev.crashed_life (map (life_of_association site.node.state.config z) site.node.state.associations))) (id ∙ sym its)
            ∙ rows_own site.node.state.config x.client x.server x.life site.node.state.associations y a life))
            ∙ t
