-- A pending entry of a present life: its page is dirty under an exclusive lock and a lease that lasts, so no other client has a lock.
use Rattle.st_lemmas.proofs.Words
use Words.{◌≡◌, ◌≢◌, ℕ, zero, suc, ◌+◌, ◌<◌, ◌≤◌, ◌⊎◌, Bool, true, false, ◌&&◌, ◌==◌, List, [], ◌∷◌, Option, Some, None, refl, sym, ap, ◌∙◌, subst, inl, inr}
use Words.{arith, find, is_some, eqb-true, ClientId, Life, ServerId, Stamp, Fate, LogEntry, LogOwner, LeaseLife}
use Words.nodes
use Words.fates
use Words.Client as cl
use Words.ClientLease as lease
use Words.ClientPages.{Store, dirty_of}
use Words.ClientState.{Association, ClientSession, is_at}
use Words.Events.{is_hard_fate}
use Words.FlatLog.{is_of_client, is_pending}
use Words.Keys.{client, same_client, same_server, server_node}
use Words.Server.{ServerNode}
use Words.World.{World, WorldClient, clock_of, end_or_present, ended_of, is_life_of, lease_end_of, node_of, present_end, server, site_of}
use Words.Lists.{Has}
use Words.Tables.{and_true, found_at}
use Words.Truth.{some_there}
use Rattle.st_protocol.specs.Assoc as net
use Rattle.st_protocol.specs.Assoc.{Alive, Config}
use Rattle.st_protocol.proofs.World.{exclusive}
use Rattle.st_laws_refine.specs.Views.Halves.{client_of, date_in, held_in, leased_in}
use Rattle.st_laws_refine.specs.Client.Invariants.{Lasts}
use Rattle.st_laws_refine.specs.Server.Pair.{client_in}
use Rattle.st_laws_refine.specs.Server.Invariants.{pairs}
use Rattle.st_laws_pages.specs.Fates.Fates.{BeforeEnd, PendingAll}
use Rattle.st_laws_pages.specs.Disks.Obligations.{FatesHold}
use Rattle.st_laws_leases.specs.Sides.Invariants.{Standing}
use Rattle.st_laws_leases.specs.Sides.World.{AllStand, ServerStands}
use Rattle.st_laws_leases.proofs.Sides.Pairs.{only_here, own_view}
use Rattle.st_laws_reads.specs.Copies.Copies.{FatesOk, FateOk}
use Rattle.st_laws_reads.specs.Copies.Law.{AllWhile, Apart, StandsAt, StandsWhile}
use Rattle.st_laws_reads.specs.Copies.World.{Unheld}
use Rattle.st_laws_reads.proofs.Copies.Locked.{found_there}
use Rattle.st_laws_reads.specs.AllClients.Law.{PendingPagesStandAlone, Running}

-- members
pub while_at : (l now : ℕ) (c : ClientId) (es : List LogEntry) (xs : List Association) (a : Association) → AllWhile l now c es xs → Has a xs → StandsWhile l now c es a
while_at l now c es [] a r h = elim h [ ]
while_at l now c es (x ∷ xs) a r (inl e) = subst (λ (y : Association). StandsWhile l now c es y) (sym e) r.one
while_at l now c es (x ∷ xs) a r (inr h) = while_at l now c es xs a r.rest h

pub fate_at : (c : ClientId) (life : Life) (sv : ServerId) (x : Store) (es : List LogEntry) (e : LogEntry) → FatesOk c life sv x es → Has e es → FateOk c life sv x e
fate_at c life sv x [] e r h = elim h [ ]
fate_at c life sv x (y ∷ es) e r (inl q) = subst (λ (z : LogEntry). FateOk c life sv x z) (sym q) r.one
fate_at c life sv x (y ∷ es) e r (inr h) = fate_at c life sv x es e r.rest h

pub owner_at : (P : LogOwner → Type 0) (es : List LogEntry) (e : LogEntry) → PendingAll P es → Has e es → is_pending e.fate ≡ true → P e.of
owner_at P [] e r h p = elim h [ ]
owner_at P (y ∷ es) e r (inl q) p = subst (λ (z : LogEntry). P z.of) (sym q) (r.one (ap (λ (z : LogEntry). is_pending z.fate) (sym q) ∙ p))
owner_at P (y ∷ es) e r (inr h) p = owner_at P es e r.rest h p

-- a lock is under a lease
pub leased_held : (o : Option ClientSession) (i : ℕ) → 1 ≤ (held_in o i).mode → leased_in o ≡ true
leased_held None i h = absurd (omega (arith, h))
leased_held (Some s) i h = refl

pub lasts_date : (l now : ℕ) (o : Option ClientSession) → leased_in o ≡ true → Lasts l now o → now < date_in o + l
lasts_date l now None e h = cc e
lasts_date l now (Some s) e h = h

-- The lease of a present life lasts while an entry of it is pending.
module _ (w : World) (f : FatesHold w) (c : ClientId) (site : WorldClient) (there : site_of w c ≡ Some site) (runs : site.node.running ≡ true) (a : Association) (apart : Apart site.node.state.associations) (here : Has a site.node.state.associations) where
  pub present_ends : ended_of w c a.server a.life ≡ None
  present_ends = go (ended_of w c a.server a.life) refl
    where
      go : (o : Option LeaseLife) → ended_of w c a.server a.life ≡ o → o ≡ None
      go None q = refl
      go (Some row) q =
          let z = found_at (is_life_of c a.server a.life) w.ended row q in
          let p = and_true (same_client row.client c) _ z.0 in
          let r = and_true (same_server row.server a.server) (row.life.0 == a.life.0) p.1 in
          let sv : row.server ≡ a.server = ap (λ n. record { 0 = n }) (eqb-true row.server.0 a.server.0 r.0) in
          let b = ((f.lives.lives.sites c site there).below row z.1 (ap (λ n. record { 0 = n }) (eqb-true row.client.0 c.0 p.0)) a
          (subst (λ (v : ServerId). find (is_at v) site.node.state.associations ≡ Some a) (sym sv) (found_there site.node.state.associations a apart here))).below runs in
          let l = eqb-true row.life.0 a.life.0 r.1 in
          absurd (omega (arith, b, l))

  pub lease_lasts : BeforeEnd w (record { client = c; life = a.life; file = record { server = a.server; ino = 0 }; page = record { 0 = 0 } }) → Lasts site.node.state.config.lease (clock_of w (nodes.Client c)).0 a.session
  lease_lasts b = by a.session (sym end ∙ b.is)
    where
      end : lease_end_of w c a.server a.life ≡ lease.end_at site.node.state.config (cl.lease_at (Some a))
      end =
          ap (end_or_present w c a.server) present_ends ∙ ap (present_end w a.server) there
          ∙ ap (λ o. lease.end_at site.node.state.config (cl.lease_at o)) (found_there site.node.state.associations a apart here)

      by : (o : Option ClientSession) → lease.end_at site.node.state.config (cl.lease_at (Some (record a { session = o }))) ≡ Some b.end → Lasts site.node.state.config.lease (clock_of w (nodes.Client c)).0 o
      by None q = cc q
      by (Some s) q = let z = b.before in let e : s.lease.date.0 + site.node.state.config.lease ≡ b.end.0 = ap (λ (x : Option Stamp). stamp_or x) q in omega (arith, z, e)
        where
          stamp_or : Option Stamp → ℕ
          stamp_or None = 0
          stamp_or (Some t) = t.0

-- Exclusion, of the associations of two clients with one server.
module _ (k : Config) (count : ℕ) (w : World) (a : AllStand k count w) (s : ℕ) (node : ServerNode) (at : node_of w (server s) ≡ Some node) where
  abbrev pub z : ServerStands k w s node
  z = a.servers s node at

  abbrev pub view : ℕ → net.Client
  view c = client_in w c s (z.ended c)

  -- a client of the machine that is alive, with the locks of an association
  pub record Living (d : ℕ) (b : Association) : Type 0 where
    pub alive : Alive k (view d)
    pub mode : (i : ℕ) → ((view d).held i).mode ≡ (held_in b.session i).mode

  pub living : (d : ℕ) (site : WorldClient) → Running w d site → (b : Association) → Has b site.node.state.associations → b.server ≡ server s →
      Lasts site.node.state.config.lease (clock_of w (nodes.Client (client d))).0 b.session → leased_in b.session ≡ true → Living d b
  living d site run b h e l y =
      record {
        alive =
            subst (Alive k) (sym same)
            (record { leased = y; lasts = let t = q.sim.terms in let x = lasts_date site.node.state.config.lease (clock_of w (nodes.Client (client d))).0 b.session y l in omega (arith, t, x) });
        mode = λ i. ap (λ (x : net.Client). (x.held i).mode) same;
      }
    where
      q : Standing k s d site w.ended (z.ghosts d).net
      q = z.both.clients d site run.there

      is : b ≡ q.association
      is = only_here s site.node.state.associations q.association q.sim.place b h (ap server_node e)

      same : view d ≡ client_of (z.ended d) (clock_of w (nodes.Client (client d))).0 b
      same = own_view w d s (z.ended d) site q.association run.there run.runs q.sim.place ∙ ap (client_of (z.ended d) (clock_of w (nodes.Client (client d))).0) (sym is)

  apart : (c d i : ℕ) (x y : Association) → c ≢ d → Living c x → Living d y → 2 ≤ (held_in x.session i).mode → (held_in y.session i).mode ≡ 0
  apart c d i x y n l m two = go (held_in y.session i).mode refl
    where
      go : (j : ℕ) → (held_in y.session i).mode ≡ j → j ≡ 0
      go zero q = refl
      go (suc j) q =
          let own = l.mode i in
          let its = m.mode i in
          let sum = exclusive k (pairs s z.ended w node z.ghosts) a.sound z.both.stands.reached c d i n l.alive m.alive (omega (arith, own, two)) (omega (arith, its, q)) in
          absurd (omega (arith, sum, own, its, two, q))

  -- no lock of another client that runs
  no_lock : (c d i : ℕ) (site other : WorldClient) (x y : Association) → c ≢ d → Running w c site → Running w d other → Has x site.node.state.associations → x.server ≡ server s →
      Lasts site.node.state.config.lease (clock_of w (nodes.Client (client c))).0 x.session → 2 ≤ (held_in x.session i).mode → Has y other.node.state.associations → y.server ≡ server s →
      Lasts other.node.state.config.lease (clock_of w (nodes.Client (client d))).0 y.session → (held_in y.session i).mode ≡ 0
  no_lock c d i site other x y n rc rd hx ex lx two hy ey ly = go (leased_in y.session) refl
    where
      go : (b : Bool) → leased_in y.session ≡ b → (held_in y.session i).mode ≡ 0
      go true q = apart c d i x y n (living c site rc x hx ex lx (leased_held x.session i (omega (arith, two)))) (living d other rd y hy ey ly q) two
      go false q = none y.session q
        where
          none : (o : Option ClientSession) → leased_in o ≡ false → (held_in o i).mode ≡ 0
          none None e = refl
          none (Some t) e = cc e

pub pending_pages_stand_alone : PendingPagesStandAlone
pending_pages_stand_alone asked_as k count w c d site other a e all n rc rd copies here p = each other.node.state.associations (λ y h. h)
  where
    of : (is_of_client (client c) e.of ≡ true) × ((same_server e.of.file.server a.server && (e.of.life.0 == a.life.0)) ≡ true)
    of = and_true (same_client e.of.client (client c)) _ p.own

    there : (e.of.file.server ≡ a.server) × (e.of.life ≡ a.life)
    there = let q = and_true (same_server e.of.file.server a.server) (e.of.life.0 == a.life.0) of.1 in (ap (λ n. record { 0 = n }) (eqb-true e.of.file.server.0 a.server.0 q.0), ap (λ n. record { 0 = n }) (eqb-true e.of.life.0 a.life.0 q.1))

    -- its lease lasts
    before : BeforeEnd w e.of
    before = owner_at (BeforeEnd w) w.log e all.fates.pending p.logged p.pending

    lasts : Lasts site.node.state.config.lease (clock_of w (nodes.Client (client c))).0 a.session
    lasts =
        lease_lasts w all.fates (client c) site rc.there rc.runs a copies.apart here
        (record {
          end = before.end;
          is = subst (λ (l : Life). lease_end_of w (client c) a.server l ≡ Some before.end) there.1
              (subst (λ (v : ServerId). lease_end_of w (client c) v e.of.life ≡ Some before.end) there.0 (subst (λ (x : ClientId). lease_end_of w x e.of.file.server e.of.life ≡ Some before.end) own before.is));
          before = subst (λ (x : ClientId). (clock_of w (nodes.Client x)).0 < before.end.0) own before.before;
        })
      where
        own : e.of.client ≡ client c
        own = ap (λ n. record { 0 = n }) (eqb-true e.of.client.0 c of.0)

    -- its page is dirty, under an exclusive lock
    stands : StandsAt (client c) w.log a
    stands = (while_at _ _ (client c) w.log site.node.state.associations a copies.copies here).lasting lasts

    two : 2 ≤ (held_in a.session e.of.file.ino).mode
    two = go (fate_at (client c) a.life a.server a.store w.log e stands.fates p.logged p.own)
      where
        not_hard : (f : Fate) → is_pending f ≡ true → is_hard_fate f ≡ true → ⊥
        not_hard fates.Pending x y = cc y
        not_hard fates.Hard x y = cc x
        not_hard (fates.Gone g) x y = cc x

        go : (is_hard_fate e.fate ≡ true) ⊎ (is_some (dirty_of a.store.pages e.of.file.ino e.of.page) ≡ true) → 2 ≤ (held_in a.session e.of.file.ino).mode
        go (inl h) = absurd (not_hard e.fate p.pending h)
        go (inr h) = let q = some_there _ h in (stands.pages e.of.file.ino e.of.page).mode q.0 q.1

    each : (xs : List Association) → ((y : Association) → Has y xs → Has y other.node.state.associations) → Unheld e.of.file other.node.state.config.lease (clock_of w (nodes.Client (client d))).0 xs
    each [] h = record {}
    each (y ∷ xs) h =
        record {
          one = λ l sv. no_lock k count w all a.server.0 p.server.node p.server.is c d e.of.file.ino site other a y n rc rd here refl lasts two (h y (inl refl)) (sym sv ∙ there.0) l;
          rest = each xs (λ x i. h x (inr i));
        }
