-- If a write is done and its page was not changed since, the entries of the page in this life are hard.
use Rattle.st_lemmas.proofs.Words
use Words.{◌≡◌, ℕ, Bool, true, false, ◌&&◌, List, [], ◌∷◌, ◌++◌, ◌==◌, Option, Some, None, refl, sym, ap, ◌∙◌, subst, option_map, unwrap_or, eqb-true, eq-eqb}
use Words.{Command, ClientId, Life, PageNo, ServerId, Stamp, ClientInput, PageCommand, DiskCommand, Fate, LogEntry, LogOwner, DirtyPage, Carried, IssuedCommand}
use Words.commands
use Words.nodes
use Words.events
use Words.io
use Words.fates
use Words.Client as cl
use Words.ClientPages as pages
use Words.ClientState.{Association, client_turn}
use Words.Disks as disks
use Words.Events as ev
use Words.Events.{WorldTurn, is_hard_fate}
use Words.FlatLog as log
use Words.Keys.{same_client, same_server}
use Words.Safety.{Step}
use Words.World.{World, WorldClient, clock_of, issued_of, life_with, site_of}
use Words.Lists.{Has}
use Words.Numbers.{numbered_own}
use Words.Tables.{and_both, and_true}
use Rattle.st_laws_pages.specs.Fates.Fates.{GoneAll, PendingAll}
use Rattle.st_laws_pages.specs.Flush.Flush.{Cared, DirtyHere, IsIts, NodeCared, owner_at_page}
use Rattle.st_laws_pages.specs.Disks.Obligations.{FatesHold}
use Rattle.st_laws_pages.proofs.Flush.Ending.{NonePending, SuccessOwed, command_is}
use Rattle.st_laws_pages.proofs.Fates.Fates.{pending_map}
use Rattle.st_laws_pages.proofs.Flush.Flushing.{InputTold}
use Rattle.st_laws_pages.proofs.Flush.FlushSteps.{node_fates}
use Rattle.st_laws_pages.proofs.Fates.GoneLaw.{Over, gone_known}
use Rattle.st_laws_pages.proofs.Lives.LifeSteps.{steps_so}
use Rattle.st_laws_pages.proofs.Fates.Owing.{over_apart}
use Rattle.st_laws_pages.specs.Causes.Invariants.{LatestOwn}
use Rattle.st_laws_pages.proofs.Causes.Events.{told_of, up_one}
use Rattle.st_laws_pages.proofs.Causes.FlushSteps.{BothHold}
use Rattle.st_laws_pages.proofs.Causes.Hardly.{Ungone}
use Rattle.st_laws_pages.proofs.Causes.Latest.{success_own}
use Rattle.st_laws_pages.proofs.Causes.Placed.{Placed, PlacesAt, step_placed}
use Rattle.st_laws_pages.proofs.Causes.Stepping as stepping
use Rattle.st_laws_reads.specs.Copies.Copies.{HardOn}

-- Nothing of a page is pending in a life of which nothing is gone: so it is hard.
abbrev NotOf : ClientId → Association → ℕ → PageNo → LogOwner → Type 0
NotOf c a ino p o = o.client ≡ c → o.file.server ≡ a.server → o.life ≡ a.life → o.file.ino ≡ ino → o.page ≡ p → ⊥

entry_hard : (c : ClientId) (lives : ServerId → Life) (a : Association) (ino : ℕ) (p : PageNo) (e : LogEntry) → lives a.server ≡ a.life → (log.is_pending e.fate ≡ true → NotOf c a ino p e.of) → (log.counts e.fate ≡ false → Ungone c lives e.of) →
    log.is_of_life c a.server (lives a.server) e.of ≡ true → e.of.file.ino ≡ ino → e.of.page ≡ p → is_hard_fate e.fate ≡ true
entry_hard c lives a ino p e live pending gone own i q = go e.fate refl
  where
    x : (same_client e.of.client c ≡ true) × ((same_server e.of.file.server a.server && (e.of.life.0 == (lives a.server).0)) ≡ true)
    x = and_true (same_client e.of.client c) (same_server e.of.file.server a.server && (e.of.life.0 == (lives a.server).0)) own

    y : (same_server e.of.file.server a.server ≡ true) × ((e.of.life.0 == (lives a.server).0) ≡ true)
    y = and_true (same_server e.of.file.server a.server) (e.of.life.0 == (lives a.server).0) x.1

    client : e.of.client ≡ c
    client = ap (λ n. record { 0 = n }) (eqb-true e.of.client.0 c.0 x.0)

    server : e.of.file.server ≡ a.server
    server = ap (λ n. record { 0 = n }) (eqb-true e.of.file.server.0 a.server.0 y.0)

    life : e.of.life ≡ lives a.server
    life = ap (λ n. record { 0 = n }) (eqb-true e.of.life.0 (lives a.server).0 y.1)

    go : (z : Fate) → e.fate ≡ z → is_hard_fate z ≡ true
    go fates.Hard z = refl
    go fates.Pending z = absurd (pending (ap log.is_pending z) client server (life ∙ live) i q)
    go (fates.Gone d) z = absurd (gone (ap log.counts z) (ap (λ (m : ClientId). m.0) client) (ap (λ (s : ServerId). (lives s).0) server ∙ ap (λ (l : Life). l.0) (sym life)))

hard_on : (c : ClientId) (lives : ServerId → Life) (a : Association) (ino : ℕ) (p : PageNo) (es : List LogEntry) → lives a.server ≡ a.life → PendingAll (NotOf c a ino p) es → GoneAll (Ungone c lives) es → HardOn c (lives a.server) a.server ino p es
hard_on c lives a ino p [] live h g = record {}
hard_on c lives a ino p (e ∷ es) live h g = record { one = entry_hard c lives a ino p e live h.one g.one; rest = hard_on c lives a ino p es live h.rest g.rest }

not_of : (c : ClientId) (a : Association) (ino : ℕ) (p : PageNo) (es : List LogEntry) → NonePending (owner_at_page c a ino p) es → PendingAll (NotOf c a ino p) es
not_of c a ino p es h = pending_map (λ o. log.same_owner o (owner_at_page c a ino p) ≡ true → ⊥) (NotOf c a ino p) es (λ o f x y l i r. f (its o x y l i r)) h
  where
    its : (o : LogOwner) → o.client ≡ c → o.file.server ≡ a.server → o.life ≡ a.life → o.file.ino ≡ ino → o.page ≡ p → log.same_owner o (owner_at_page c a ino p) ≡ true
    its o x y l i r = and_both _ _ (and_both _ _ (eq-eqb _ _ (ap (λ (m : ClientId). m.0) x)) (eq-eqb _ _ (ap (λ (m : Life). m.0) l))) (and_both _ _ (and_both _ _ (eq-eqb _ _ (ap (λ (m : ServerId). m.0) y)) (eq-eqb _ _ i)) (eq-eqb _ _ (ap (λ (m : PageNo). m.0) r)))

-- nothing is pending of a page that is not dirty
clean_of : (c : ClientId) (a : Association) (ino : ℕ) (p : PageNo) (es : List LogEntry) → pages.dirty_of a.store.pages ino p ≡ None → PendingAll (DirtyHere c a) es → PendingAll (NotOf c a ino p) es
clean_of c a ino p es n h = pending_map (DirtyHere c a) (NotOf c a ino p) es one h
  where
    none_some : (d : DirtyPage) → ◌≡◌ {A = Option DirtyPage} None (Some d) → ⊥
    none_some d z = cc

    one : (o : LogOwner) → DirtyHere c a o → NotOf c a ino p o
    one o f x y l i r =
        let d = f x y l in
        none_some d.0 (sym n ∙ subst (λ q. pages.dirty_of a.store.pages ino q ≡ Some d.0) r (subst (λ j. pages.dirty_of a.store.pages j o.page ≡ Some d.0) i d.1))

-- by what a write that is done leaves
page_hard : (c : ClientId) (lives : ServerId → Life) (a : Association) (pc : PageCommand) (v : ℕ) (es : List LogEntry) → lives a.server ≡ a.life → SuccessOwed es c a pc v → PendingAll (DirtyHere c a) es → GoneAll (Ungone c lives) es → v ≡ pages.version_of a.store.pages pc.ino pc.page →
    HardOn c (lives a.server) a.server pc.ino pc.page es
page_hard c lives a pc v es live done dirty gone same = hard_on c lives a pc.ino pc.page es live (go (pages.dirty_of a.store.pages pc.ino pc.page) refl) gone
  where
    go : (o : Option DirtyPage) → pages.dirty_of a.store.pages pc.ino pc.page ≡ o → PendingAll (NotOf c a pc.ino pc.page) es
    go None q = clean_of c a pc.ino pc.page es q dirty
    go (Some d) q = not_of c a pc.ino pc.page es (done d q (sym (same ∙ ap (λ x. unwrap_or (option_map pages.version_of_dirty x) 0) q)))

-- An instance that runs is told of its command that is done.
module _ (past : List Step) (x : Step) (w : World) (size : ℕ) (f : FatesHold w) (pl : PlacesAt size w) (b : BothHold past w) (k : ℕ) (ok : Bool) (d : DiskCommand) (is : disks.command w.disks k ≡ Some d) (done : ok ≡ true → d.effected ≡ true) (happens : x.event ≡ events.Report k ok)
    (y : IssuedCommand) (issued : issued_of w k ≡ Some y) (site : WorldClient) (there : site_of w y.client ≡ Some site) (same : ev.is_same_instance y site ≡ true) where
  abbrev more : List Step
  more = past ++ x ∷ []

  abbrev c : ClientId
  c = y.client

  abbrev input : ClientInput
  input = ev.end_told w k ok y

  abbrev now : Stamp
  now = clock_of w (nodes.Client c)

  abbrev t : cl.NodeTurn
  t = cl.node_turn site.node (cl.client_step site.node.state now input)

  abbrev after : WorldClient
  after = ev.at_node t.node site

  abbrev sc : WorldTurn
  sc = ev.quiet (ev.with_site c after w)

  abbrev left : List Association
  left = (cl.losses (client_turn site.node.state []) now).state.associations

  parts : (site.node.running ≡ true) × ((site.starts == y.starts) ≡ true)
  parts = and_true site.node.running (site.starts == y.starts) same

  own : site_of sc.world c ≡ Some after
  own = numbered_own w.clients c.0 after site there

  told : InputTold more sc c site.starts input
  told = told_of past x w k ok d is done happens y issued site same sc refl refl

  placed : Placed size t.out
  placed = step_placed size c site.node.state now input tt (f.lives.lives.sites c site there).fit (pl.known c site there)

  gone : GoneAll (Ungone c (life_with after.node.state)) w.log
  gone = gone_known (Over w) (Ungone c (life_with after.node.state)) w.log (λ o i z q e. over_apart w c site t.node.state t.out there parts.0 (steps_so w c site site input there refl f.lives) f.lives o (f.lives.known.owners o i) z q e) f.gone

  cared : NodeCared more w.commands w.log c site
  cared = node_fates past more w.commands w.log w.log c site (up_one past x) (λ g q. refl) (λ P z. z) (b.flush.sites c site there parts.0)

  latest : (a : Association) → Has a site.node.state.associations → LatestOwn c w.log a
  latest = b.writes.latest_own c site there parts.0

  its : (pc : PageCommand) → pc.number ≡ y.number → IsIts c site.starts pc.number y
  its pc n = record { client = refl; instance_ = sym (eqb-true site.starts y.starts parts.1); number_is = sym n }

  module _ (a : Association) (i : Has a left) where
    here : Cared more w.commands w.log c site.starts site.node.state.next_command a
    unfolding cl.client_step
    here = stepping.cared_t more w c site site input now there refl refl f.lives size own pl.count b.writes.commands placed told cared latest a i

    its_latest : LatestOwn c w.log a
    unfolding cl.client_step
    its_latest =
        subst (λ es. LatestOwn c es a) ((stepping.adds more w c site site input now there refl refl f.lives size own pl.count b.writes.commands placed told cared latest).log)
        (stepping.latest_t more w c site site input now there refl refl f.lives size own pl.count b.writes.commands placed told cared latest a i)

    live : life_with after.node.state a.server ≡ a.life
    unfolding cl.client_step
    live = stepping.right_t more w c site site input now there refl refl f.lives size own pl.count b.writes.commands placed told cared latest a i

    success : (pc : PageCommand) → Has pc a.store.commands → pc.number ≡ y.number → (v : ℕ) → pc.kind ≡ io.Write v → ok ≡ true → SuccessOwed w.log c a pc v
    success pc j n v q z = by d.what refl
      where
        carried : (o : Option Carried) → y.carries ≡ o → o ≡ None → ⊥
        carried o p q2 = no (sym ((here.writes pc j v q).world k y issued (its pc n)).carries ∙ p ∙ q2)
          where
            no : {m : Carried} → Some m ≡ None → ⊥
            no e = cc

        by : (what : Command) → d.what ≡ what → SuccessOwed w.log c a pc v
        by (commands.Read at) e = absurd (carried y.carries refl (b.writes.commands.reads k y d at issued is e))
        by (commands.Write at tag bytes) e =
            success_own more w.commands w.log c site.starts site.node.state.next_command a w.disks.commands k y d at tag bytes issued is e (done z) b.writes.commands its_latest here pc j (its pc n) v q

    pub told_hard : (pc : PageCommand) (v : ℕ) → pages.command_of a.store.commands y.number ≡ Some pc → pc.kind ≡ io.Write v → ok ≡ true → v ≡ pages.version_of a.store.pages pc.ino pc.page → HardOn c (life_with after.node.state a.server) a.server pc.ino pc.page w.log
    told_hard pc v e q z s =
        let m = command_is a.store.commands y.number pc e in
        page_hard c (life_with after.node.state) a pc v w.log live (success pc m.0 m.1 v q z) here.entries gone s
