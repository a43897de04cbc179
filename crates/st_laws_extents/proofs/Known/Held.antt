-- Locks of files that are known of have a mode; and what is known of a page is found.
use Rattle.st_lemmas.proofs.Words
use Words.{◌≡◌, ◌⊎◌, ℕ, ◌≤◌, Bool, true, false, ◌==◌, List, [], ◌∷◌, Option, Some, None, refl, sym, ◌∙◌, subst, inl, inr, if◌then◌else◌, find, eq-eqb}
use Words.{KnownExtent}
use Words.ClientLocks as locks
use Words.ClientPages as pages
use Words.ClientState.{Association, ClientSession}
use Words.Keys.{client}
use Words.World.{World, WorldClient, site_of}
use Words.Lists.{Has}
use Words.Tables.{and_both, found_at}
use Rattle.st_protocol.specs.Assoc.{Config}
use Rattle.st_laws_refine.specs.Views.Halves.{held_at, held_in}
use Rattle.st_laws_refine.specs.Client.Invariants.{HaveModes, Kept}
use Rattle.st_laws_leases.specs.Sides.Invariants.{Standing}
use Rattle.st_laws_leases.specs.Sides.World.{AllStand, ServerStands, There}
use Rattle.st_laws_leases.proofs.Sides.Pairs.{only_here}
use Rattle.st_laws_extents.specs.Known.Known.{HasLock, Locked}
use Rattle.st_laws_extents.proofs.ExtentReplies.Held.{lock_mode}

-- what is there is found
pub finds : {A : Type 0} (p : A → Bool) (x : A) (xs : List A) → Has x xs → p x ≡ true → (y : A) × (find p xs ≡ Some y)
finds p x [] i e = absurd i
finds {A} p x (z ∷ xs) i e = go (p z) refl i (λ j. finds p x xs j e)
  where
    go : (b : Bool) → p z ≡ b → (x ≡ z) ⊎ Has x xs → (Has x xs → (y : A) × (find p xs ≡ Some y)) → (y : A) × ((if b then Some z else find p xs) ≡ Some y)
    go true q j r = (z, refl)
    go false q (inl f) r = absurd (clash (subst (λ u. p u ≡ true) f e) q)
      where
        clash : {b : Bool} → b ≡ true → b ≡ false → ⊥
        clash x y = cc
    go false q (inr j) r = r j

locked_mode : (s : ClientSession) (ino : ℕ) → HaveModes s.locks.rows → HasLock s.locks.rows ino → 1 ≤ (held_in (Some s) ino).mode
locked_mode s ino m h =
    let z = finds (locks.is_lock_on ino) h.lock s.locks.rows h.has (eq-eqb h.lock.ino ino h.on) in
    subst (λ o. 1 ≤ (held_at o).mode) (sym z.1) (lock_mode s.locks.rows z.0 m (found_at (locks.is_lock_on ino) s.locks.rows z.0 z.1).1)

-- of an association at a server that is there
pub held_mode : (k : Config) (count : ℕ) (w : World) → AllStand k count w → (d : ℕ) (site : WorldClient) → site_of w (client d) ≡ Some site → (a : Association) → Has a site.node.state.associations → There w a.server → (ino : ℕ) → Locked a.session ino → 1 ≤ (held_in a.session ino).mode
held_mode k count w all d site at a i there ino l = go a.session refl l
  where
    z : ServerStands k w a.server.0 there.node
    z = all.servers a.server.0 there.node there.is

    q : Standing k a.server.0 d site w.ended (z.ghosts d).net
    q = z.both.clients d site at

    go : (o : Option ClientSession) → a.session ≡ o → Locked o ino → 1 ≤ (held_in o ino).mode
    go None e l = absurd l
    go (Some s) e l = locked_mode s ino modes l
      where
        modes : HaveModes s.locks.rows
        modes =
            (subst (λ o. Kept a.life.0 a.store o (z.ghosts d).net) e
            (subst (λ (y : Association). Kept y.life.0 y.store y.session (z.ghosts d).net) (sym (only_here a.server.0 site.node.state.associations q.association q.sim.place a i refl)) q.sim.kept)).modes

-- what is known of a page is found
pub known_found : (xs : List KnownExtent) (e : KnownExtent) → Has e xs → pages.known_of xs e.ino e.page ≡ None → ⊥
known_found xs e i n = let z = finds (pages.is_known_of e.ino e.page) e xs i (and_both (e.ino == e.ino) (e.page.0 == e.page.0) (eq-eqb e.ino e.ino refl) (eq-eqb e.page.0 e.page.0 refl)) in none z.0 (sym n ∙ z.1)
  where
    none : (y : KnownExtent) → ◌≡◌ {A = Option KnownExtent} None (Some y) → ⊥
    none y q = cc
