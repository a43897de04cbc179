-- The lives of entries and of the writes that carry them: those of a client at one server never fall along the log.
use Rattle.st_lemmas.proofs.Words
use Words.{◌≡◌, ◌≤◌, ◌⊎◌, ℕ, zero, suc, ◌&&◌, ◌==◌, Bool, true, false, List, [], ◌∷◌, Option, Some, None, refl, sym, ap, ◌∙◌, subst, inl, inr, arith}
use Words.{find, leb-true, length, map, option_map, slice_get, eq-eqb, eqb-true, ClientId, ServerId, Life, Stamp, LogEntry, LogOwner, LeaseLife}
use Words.fates
use Words.nodes
use Words.Client as cl
use Words.ClientLease as lease
use Words.ClientState.{Association, ClientSession, is_at}
use Words.Events as ev
use Words.Events.{is_change, present_life}
use Words.FlatLog as log
use Words.Keys.{same_client, same_server}
use Words.Lists.{Has}
use Words.Lookups.{some_is}
use Words.Numbers.{get_below, get_has}
use Words.Safety as safety
use Words.Tables.{and_both, and_true, found_at, has_map_in, some_passes}
use Words.Truth.{clash, none_not_some}
use Words.World as world
use Words.World.{World, WorldClient, clock_of, ended_of, end_or_present, site_of}
use Rattle.st_rules.specs.ClientLease.{end_at}
use Rattle.st_laws_steps.specs.Client.Losses.{is_ended}
use Rattle.st_laws_steps.specs.Lives.Lives.{IsKnown, LivesHold, owner_of}
use Rattle.st_laws_pages.specs.Disks.Obligations.{FatesHold}
use Rattle.st_laws_pages.specs.Fates.Fates.{BeforeEnd, PendingAll}
use Rattle.st_laws_pages.proofs.Fates.GoneLaw.{pending_crashed}
use Rattle.st_laws_pages.proofs.Lives.NodeTurns.{row_is}
use Rattle.st_laws_volume.specs.FateMarks.{is_crash_of, is_crashed_life}
use Rattle.st_laws_volume.proofs.FateCrashes.{AllFresh, Grown, IsFresh, SameEntry}

-- No entry is of a later life than the present one.
pub life_upto : (w : World) → LivesHold w → (o : LogOwner) → Has o (map owner_of w.log) → (site : WorldClient) → site_of w o.client ≡ Some site →
    (a : Association) → find (is_at o.file.server) site.node.state.associations ≡ Some a → o.life.0 ≤ a.life.0
life_upto w h o i site there a place = go (h.known.owners o i)
  where
    go : IsKnown w.clients w.ended o.client o.file.server o.life → o.life.0 ≤ a.life.0
    go (inl (e, q)) =
        let r = row_is o.client o.file.server o.life w.ended e q in
        let up = ((h.lives.sites o.client site there).below e r.0 r.1 a (ap (λ s. find (is_at s) site.node.state.associations) r.2 ∙ place)).up_to in
        let same = ap (λ (l : Life). l.0) r.3 in omega (arith, up, same)
    go (inr q) =
        let same : a.life.0 ≡ o.life.0 =
        sym (ap (λ y. (ev.life_of_site o.file.server y).0) there ∙ ap (λ y. (world.life_at y).0) place) ∙ q in omega (arith, same)

-- The association of a pending entry whose life no crash ended.
pub record PresentOf (w : World) (o : LogOwner) : Type 0 where
  pub site : WorldClient
  pub there : site_of w o.client ≡ Some site
  pub runs : site.node.running ≡ true
  pub a : Association
  pub has : Has a site.node.state.associations
  pub place : find (is_at o.file.server) site.node.state.associations ≡ Some a
  pub server : a.server ≡ o.file.server
  pub life : a.life ≡ o.life

pub pending_at : (P : LogOwner → Type 0) (es : List LogEntry) (e : LogEntry) → Has e es → PendingAll P es → e.fate ≡ fates.Pending → P e.of
pending_at P [] e i h q = absurd i
pending_at P (x ∷ es) e (inl z) h q =
    subst (λ (y : LogEntry). P y.of) (sym z) (h.one (ap (λ (y : LogEntry). log.is_pending y.fate) (sym z) ∙ ap log.is_pending q))
pending_at P (x ∷ es) e (inr i) h q = pending_at P es e i h.rest q

module _ (w : World) (h : FatesHold w) (e : LogEntry) (i : Has e w.log) (p : e.fate ≡ fates.Pending) (spared : is_crashed_life w.ended e.of ≡ false) where
  abbrev s : ServerId
  s = e.of.file.server

  before : BeforeEnd w e.of
  before = pending_at (BeforeEnd w) w.log e i h.pending p

  ended : (r : LeaseLife) → ended_of w e.of.client s e.of.life ≡ Some r → ⊥
  ended r q =
      let z = row_is e.of.client s e.of.life w.ended r q in
      let c : r.crashed ≡ true = pending_crashed w h.lives e.of r q before in
      let of_life : ev.is_of_life_over r 0 e.of ≡ true =
      and_both (same_client e.of.client r.client) (same_server s r.server && (e.of.life.0 == r.life.0))
      (eq-eqb e.of.client.0 r.client.0 (ap (λ (d : ClientId). d.0) (sym z.1)))
      (and_both (same_server s r.server) (e.of.life.0 == r.life.0) (eq-eqb s.0 r.server.0 (ap (λ (d : ServerId). d.0) (sym z.2)))
      (eq-eqb e.of.life.0 r.life.0 (ap (λ (d : Life). d.0) (sym z.3)))) in
      clash (some_passes (is_crash_of e.of) w.ended r z.0 (and_both r.crashed (ev.is_of_life_over r 0 e.of) c of_life)) spared

  at_place : (site : WorldClient) → site_of w e.of.client ≡ Some site → ended_of w e.of.client s e.of.life ≡ None → (y : Option Association) →
      find (is_at s) site.node.state.associations ≡ y → PresentOf w e.of
  at_place site there none None f =
      absurd (none_not_some before.end
      (sym (ap (end_or_present w e.of.client s) none ∙ (ap (world.present_end w s) there ∙ ap (λ y. end_at site.node.state.config (cl.lease_at y)) f))
      ∙ before.is))
  at_place site there none (Some a) f = go site.node.running refl
    where
      found : (is_at s a ≡ true) × Has a site.node.state.associations
      found = found_at (is_at s) site.node.state.associations a f

      server : a.server ≡ s
      server = ap (λ n. record { 0 = n }) (eqb-true a.server.0 s.0 found.0)

      known : IsKnown w.clients w.ended e.of.client s e.of.life → a.life ≡ e.of.life
      known (inl (r, q)) = absurd (none_not_some r (sym none ∙ q))
      known (inr q) = ap (λ n. record { 0 = n }) (sym (ap (λ y. (ev.life_of_site s y).0) there ∙ ap (λ y. (world.life_at y).0) f) ∙ q)

      life : a.life ≡ e.of.life
      life = known (h.lives.known.owners e.of (has_map_in owner_of w.log e i))

      go : (b : Bool) → site.node.running ≡ b → PresentOf w e.of
      go true r = record { site = site; there = there; runs = r; a = a; has = found.1; place = f; server = server; life = life }
      go false r =
          let z = (h.lives.lives.sites e.of.client site there).stopped r a found.1 in
          absurd (ended z.row (ap (λ t. find (world.is_life_of e.of.client t e.of.life) w.ended) (sym server)
          ∙ (ap (λ l. find (world.is_life_of e.of.client a.server l) w.ended) (sym life) ∙ z.is)))

  at_site : ended_of w e.of.client s e.of.life ≡ None → (y : Option WorldClient) → site_of w e.of.client ≡ y → PresentOf w e.of
  at_site none None there = absurd (none_not_some before.end (sym (ap (end_or_present w e.of.client s) none ∙ ap (world.present_end w s) there) ∙ before.is))
  at_site none (Some site) there = at_place site there none (find (is_at s) site.node.state.associations) refl

  -- the lease of its life is not over
  pub lasts : (site : WorldClient) → site_of w e.of.client ≡ Some site → (a : Association) → find (is_at s) site.node.state.associations ≡ Some a →
      is_ended site.node.state.config (clock_of w (nodes.Client e.of.client)) a.session ≡ true → ⊥
  lasts site there a place over = by (ended_of w e.of.client s e.of.life) refl
    where
      at : (x : Option ClientSession) → a.session ≡ x → ended_of w e.of.client s e.of.life ≡ None → ⊥
      at None q none = no (sym (ap (is_ended site.node.state.config (clock_of w (nodes.Client e.of.client))) q) ∙ over)
        where
          no : false ≡ true → ⊥
          no z = cc
      at (Some x) q none =
          let end : lease.end_of site.node.state.config x.lease ≡ before.end =
          some_is
          (ap (λ o. end_at site.node.state.config (option_map cl.lease_of_session o)) (sym q)
          ∙ (ap (λ y. end_at site.node.state.config (cl.lease_at y)) (sym place)
          ∙ (ap (world.present_end w s) (sym there) ∙ (ap (end_or_present w e.of.client s) (sym none) ∙ before.is)))) in
          let late =
          leb-true (lease.end_of site.node.state.config x.lease).0 (clock_of w (nodes.Client e.of.client)).0
          (sym (ap (is_ended site.node.state.config (clock_of w (nodes.Client e.of.client))) q) ∙ over) in
          let early = before.before in
          let same = ap (λ (k : Stamp). k.0) end in omega (arith, late, early, same)

      by : (o : Option LeaseLife) → ended_of w e.of.client s e.of.life ≡ o → ⊥
      by None none = at a.session refl none
      by (Some r) q = ended r q

  pub present : PresentOf w e.of
  present = go (ended_of w e.of.client s e.of.life) refl
    where
      go : (y : Option LeaseLife) → ended_of w e.of.client s e.of.life ≡ y → PresentOf w e.of
      go (Some r) q = absurd (ended r q)
      go None q = at_site q (site_of w e.of.client) refl

-- Lives never fall along the log.
abbrev pub Ordered : List LogEntry → Type 0
Ordered es =
    (m n : ℕ) (o p : LogEntry) → slice_get es m ≡ Some o → slice_get es n ≡ Some p → m ≤ n → is_change o ≡ true → is_change p ≡ true →
    o.of.client ≡ p.of.client → o.of.file.server ≡ p.of.file.server → o.of.life.0 ≤ p.of.life.0

abbrev OldOrFresh : World → List LogEntry → ℕ → LogEntry → Type 0
OldOrFresh v os n p = ((o : LogEntry) × (slice_get os n ≡ Some o) × SameEntry o p) ⊎ (IsFresh v p × (length os ≤ n))

fresh_at : (v : World) (ps : List LogEntry) → AllFresh v ps → (n : ℕ) (p : LogEntry) → slice_get ps n ≡ Some p → IsFresh v p
fresh_at v [] h n p q = cc q
fresh_at v (x ∷ ps) h zero p q = subst (IsFresh v) (some_is q) h.0
fresh_at v (x ∷ ps) h (suc n) p q = fresh_at v ps h.1 n p q

grown_at : (v : World) (os ps : List LogEntry) → Grown v os ps → (n : ℕ) (p : LogEntry) → slice_get ps n ≡ Some p → OldOrFresh v os n p
grown_at v [] ps h n p q = inr (fresh_at v ps h n p q, omega arith)
grown_at v (o ∷ os) [] h n p q = absurd h
grown_at v (o ∷ os) (x ∷ ps) h zero p q = inl (o, refl, subst (SameEntry o) (some_is q) h.0)
grown_at v (o ∷ os) (x ∷ ps) h (suc n) p q = go (grown_at v os ps h.1 n p q)
  where
    go : OldOrFresh v os n p → OldOrFresh v (o ∷ os) (suc n) p
    go (inl i) = inl i
    go (inr (f, l)) = inr (f, omega (arith, l))

-- an entry that has just joined is of the present life, and no other one of a later life
module _ (v : World) (h : LivesHold v) (o : LogOwner) (i : Has o (map owner_of v.log)) where
  up_to_present : safety.lasts v o.client o.file.server ≡ true → o.life.0 ≤ (present_life v o.client o.file.server).0
  up_to_present lasts = at (site_of v o.client) refl lasts
    where
      in_site : (site : WorldClient) → site_of v o.client ≡ Some site → (y : Option Association) → cl.association_with site.node.state o.file.server ≡ y →
          safety.is_before (clock_of v (nodes.Client o.client)) (end_at site.node.state.config (cl.lease_at y)) ≡ true →
          o.life.0 ≤ (present_life v o.client o.file.server).0
      in_site site there None f b = cc b
      in_site site there (Some a) f b =
          let l = life_upto v h o i site there a f in
          let same : (present_life v o.client o.file.server).0 ≡ a.life.0 =
          ap (λ y. (ev.life_of_site o.file.server y).0) there ∙ ap (λ y. (world.life_at y).0) f in omega (arith, l, same)

      at : (y : Option WorldClient) → site_of v o.client ≡ y → safety.lasts_at (clock_of v (nodes.Client o.client)) o.file.server y ≡ true →
          o.life.0 ≤ (present_life v o.client o.file.server).0
      at None q b = cc b
      at (Some site) q b =
          in_site site q (cl.association_with site.node.state o.file.server) refl
          (and_true site.node.running (safety.is_before (clock_of v (nodes.Client o.client)) (cl.lease_end_with site.node.state o.file.server)) b).1

pub ordered_kept : (v : World) (os : List LogEntry) → LivesHold v → Grown v os v.log → Ordered os → Ordered v.log
ordered_kept v os h g r m n o p qo qp l co cp client server = go (grown_at v os v.log g n p qp)
  where
    old : (o0 p0 : LogEntry) → slice_get os m ≡ Some o0 → SameEntry o0 o → slice_get os n ≡ Some p0 → SameEntry p0 p → o.of.life.0 ≤ p.of.life.0
    old o0 p0 io so ip sp =
        let z : o0.of.life.0 ≤ p0.of.life.0 =
        r m n o0 p0 io ip l (ap ev.changes_page (sym so.1) ∙ co) (ap ev.changes_page (sym sp.1) ∙ cp)
        (ap (λ (k : LogOwner). k.client) (sym so.0) ∙ (client ∙ ap (λ (k : LogOwner). k.client) sp.0))
        (ap (λ (k : LogOwner). k.file.server) (sym so.0) ∙ (server ∙ ap (λ (k : LogOwner). k.file.server) sp.0)) in
        let a = ap (λ (k : LogOwner). k.life.0) so.0 in
        let b = ap (λ (k : LogOwner). k.life.0) sp.0 in omega (arith, z, a, b)

    go : OldOrFresh v os n p → o.of.life.0 ≤ p.of.life.0
    go (inl (p0, ip, sp)) = at (grown_at v os v.log g m o qo)
      where
        at : OldOrFresh v os m o → o.of.life.0 ≤ p.of.life.0
        at (inl (o0, io, so)) = old o0 p0 io so ip sp
        at (inr (f, k)) = absurd (let b = get_below os n p0 ip in omega (arith, k, b, l))
    go (inr (f, k)) =
        let z = f cp in
        let lasts : safety.lasts v o.of.client o.of.file.server ≡ true =
        ap (λ d. safety.lasts v d o.of.file.server) client
        ∙ (ap (λ t. safety.lasts v p.of.client t) server ∙ (and_true (safety.lasts v p.of.client p.of.file.server) _ z.0).0) in
        let up = up_to_present v h o.of (has_map_in owner_of v.log o (get_has v.log m o qo)) lasts in
        let same : p.of.life.0 ≡ (present_life v o.of.client o.of.file.server).0 =
        ap (λ (x : Life). x.0) z.1
        ∙ (ap (λ d. (present_life v d p.of.file.server).0) (sym client) ∙ ap (λ t. (present_life v o.of.client t).0) (sym server)) in
        omega (arith, up, same)
