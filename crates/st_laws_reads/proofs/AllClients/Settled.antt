-- What is pending of a page, at a client that has a lock on its file: only its own entries, and nothing if the page is not dirty.
use Rattle.st_lemmas.proofs.Words
use Words.{◌≡◌, ◌⊎◌, ℕ, ◌≤◌, Bool, true, false, ◌&&◌, ◌==◌, List, [], ◌∷◌, Option, None, refl, sym, ap, ◌∙◌, subst, inl, inr, arith, is_some, eqb-true, eq-eqb}
use Words.{PageNo, Ask, Change, Fate, LogEntry}
use Words.nodes
use Words.changes
use Words.fates
use Words.ClientPages.{dirty_of}
use Words.ClientState.{Association}
use Words.Events.{is_hard_fate}
use Words.FlatLog.{is_of_life, is_pending, owner, reaches, same_owner, touches}
use Words.Keys.{client, same_client, same_file, same_server}
use Words.World.{World, WorldClient, clock_of}
use Words.Lists.{Has}
use Words.Tables.{and_both, and_true}
use Words.Truth.{not_both}
use Rattle.st_protocol.specs.Assoc.{Config}
use Rattle.st_laws_refine.specs.Views.Halves.{held_in}
use Rattle.st_laws_refine.specs.Client.Invariants.{Lasts}
use Rattle.st_laws_pages.specs.Disks.Folds.{CutsHard, OnlyOwn, SettledOn}
use Rattle.st_laws_leases.specs.Sides.World.{AllStand}
use Rattle.st_laws_reads.specs.Copies.Copies.{file_at}
use Rattle.st_laws_reads.specs.Copies.Law.{StandsAt}
use Rattle.st_laws_reads.specs.AllClients.Events.{FrozenStandAlone}
use Rattle.st_laws_reads.specs.AllClients.Law.{Running}
use Rattle.st_laws_reads.specs.AllClients.OwnEntries.{LockedPagesAreOwn, LockedPagesAreSettled}
use Rattle.st_laws_reads.specs.AllClients.World.{CopiesHold}
use Rattle.st_laws_reads.proofs.AllClients.Alone.{fate_at, while_at}
use Rattle.st_laws_reads.proofs.AllClients.Dropping.{own_copies, unheld_for}

pending_hard : (z : Fate) → is_pending z ≡ true → is_hard_fate z ≡ true → ⊥
pending_hard fates.Pending q r = cc r
pending_hard fates.Hard q r = cc q
pending_hard (fates.Gone c) q r = cc q

module _ (asks : ℕ → ℕ → Option Ask) (k : Config) (count : ℕ) (w : World) (d : ℕ) (site : WorldClient) (a : Association) (ino : ℕ) (p : PageNo) (all : AllStand k count w) (copies : CopiesHold asks w) (frozen_lives : FrozenStandAlone w) (run : Running w d site) (here : Has a site.node.state.associations)
    (lasts : Lasts site.node.state.config.lease (clock_of w (nodes.Client (client d))).0 a.session) (held : 1 ≤ (held_in a.session ino).mode) where
  stands : StandsAt (client d) w.log a
  stands = (while_at _ _ (client d) w.log site.node.state.associations a (own_copies asks k count w all copies frozen_lives d site run).copies here).lasting lasts

  -- a pending entry that touches the page
  record OwnPending (e : LogEntry) : Type 0 where
    file : e.of.file.ino ≡ ino
    page : e.of.page ≡ p
    own : is_of_life (client d) a.server a.life e.of ≡ true

  own_pending : (e : LogEntry) → Has e w.log → (e.change ≡ changes.Cut → e.fate ≡ fates.Hard) → touches (file_at a.server ino) p e ≡ true → is_pending e.fate ≡ true → OwnPending e
  own_pending e i cut t r = record { file = file; page = page e.change refl; own = own (is_of_life (client d) a.server a.life e.of) refl }
    where
      x : (same_file e.of.file (file_at a.server ino) ≡ true) × (reaches e.change e.of.page p ≡ true)
      x = and_true (same_file e.of.file (file_at a.server ino)) (reaches e.change e.of.page p) t

      y : (same_server e.of.file.server a.server ≡ true) × ((e.of.file.ino == ino) ≡ true)
      y = and_true (same_server e.of.file.server a.server) (e.of.file.ino == ino) x.0

      there : e.of.file.server ≡ a.server
      there = ap (λ n. record { 0 = n }) (eqb-true e.of.file.server.0 a.server.0 y.0)

      file : e.of.file.ino ≡ ino
      file = eqb-true e.of.file.ino ino y.1

      page : (c : Change) → e.change ≡ c → e.of.page ≡ p
      page (changes.Write bytes) q = ap (λ n. record { 0 = n }) (eqb-true e.of.page.0 p.0 (ap (λ c. reaches c e.of.page p) (sym q) ∙ x.1))
      page (changes.Patch at bytes) q = ap (λ n. record { 0 = n }) (eqb-true e.of.page.0 p.0 (ap (λ c. reaches c e.of.page p) (sym q) ∙ x.1))
      page changes.Cut q = absurd (pending_hard e.fate r (ap is_hard_fate (cut q)))

      own : (b : Bool) → is_of_life (client d) a.server a.life e.of ≡ b → b ≡ true
      own true q = refl
      own false q =
          let m = unheld_for asks k count w all copies frozen_lives d site run e.of (record { entry = e; has = i; pending = r; is = refl }) (inr tt) a here lasts there (λ z. not_both (is_of_life (client d) a.server a.life e.of) z q) in
          let n = ap (λ z. (held_in a.session z).mode) file in
          absurd (omega (arith, m, n, held))

  -- it is of the owner
  own_is : (e : LogEntry) → OwnPending e → same_owner e.of (owner (client d) a.life (file_at a.server ino) p) ≡ true
  own_is e o =
      let x = and_true (same_client e.of.client (client d)) (same_server e.of.file.server a.server && (e.of.life.0 == a.life.0)) o.own in
      let y = and_true (same_server e.of.file.server a.server) (e.of.life.0 == a.life.0) x.1 in
      and_both _ _ (and_both _ _ x.0 y.1) (and_both _ _ (and_both _ _ y.0 (eq-eqb e.of.file.ino ino o.file)) (eq-eqb e.of.page.0 p.0 (ap (λ (q : PageNo). q.0) o.page)))

  only_own : (es : List LogEntry) → ((e : LogEntry) → Has e es → Has e w.log) → CutsHard es → OnlyOwn (owner (client d) a.life (file_at a.server ino) p) (file_at a.server ino) p es
  only_own [] f c = record {}
  only_own (e ∷ es) f c = record { one = λ t q. own_is e (own_pending e (f e (inl refl)) c.one t (ap is_pending q)); rest = only_own es (λ x i. f x (inr i)) c.rest }

  -- if the page is not dirty
  not_pending : dirty_of a.store.pages ino p ≡ None → (e : LogEntry) → Has e w.log → (e.change ≡ changes.Cut → e.fate ≡ fates.Hard) → touches (file_at a.server ino) p e ≡ true → is_pending e.fate ≡ false
  not_pending clean e i cut t = go (is_pending e.fate) refl
    where
      mine : is_pending e.fate ≡ true → OwnPending e → (is_hard_fate e.fate ≡ true) ⊎ (is_some (dirty_of a.store.pages e.of.file.ino e.of.page) ≡ true) → ⊥
      mine r o (inl h) = pending_hard e.fate r h
      mine r o (inr h) = not_both (is_some (dirty_of a.store.pages ino p)) (subst (λ z. is_some (dirty_of a.store.pages ino z) ≡ true) o.page (subst (λ n. is_some (dirty_of a.store.pages n e.of.page) ≡ true) o.file h)) (ap (λ o. is_some o) clean)

      go : (b : Bool) → is_pending e.fate ≡ b → b ≡ false
      go false r = refl
      go true r = let o = own_pending e i cut t r in absurd (mine r o (fate_at (client d) a.life a.server a.store w.log e stands.fates i o.own))

  settled : dirty_of a.store.pages ino p ≡ None → (es : List LogEntry) → ((e : LogEntry) → Has e es → Has e w.log) → CutsHard es → SettledOn (file_at a.server ino) p es
  settled clean [] f c = record {}
  settled clean (e ∷ es) f c = record { one = not_pending clean e (f e (inl refl)) c.one; rest = settled clean es (λ x i. f x (inr i)) c.rest }

pub locked_pages_are_settled : LockedPagesAreSettled
locked_pages_are_settled asks k count w d site a ino p all copies frozen_lives cuts run here lasts held clean = settled asks k count w d site a ino p all copies frozen_lives run here lasts held clean w.log (λ e i. i) cuts

pub own_law : LockedPagesAreOwn
own_law asks k count w d site a ino p all copies frozen_lives cuts run here lasts held = only_own asks k count w d site a ino p all copies frozen_lives run here lasts held w.log (λ e i. i) cuts
