-- A write that may still have its effect: its page is dirty under an exclusive lock and a lease that lasts.
use Rattle.st_lemmas.proofs.Words
use Words.{◌≡◌, ◌≢◌, ℕ, zero, suc, ◌<◌, ◌≤◌, Bool, true, false, List, [], ◌∷◌, Option, Some, None, refl, sym, ap, ◌∙◌, subst, inl, inr, arith, leb-false}
use Words.{ClientId, Life, ServerId, Stamp}
use Words.nodes
use Words.Admissible as adm
use Words.ClientLease as lease
use Words.Client as cl
use Words.ClientState.{Association, ClientSession}
use Words.Keys.{client}
use Words.Server.{ServerNode}
use Words.World.{World, WorldClient, clock_of, end_or_present, lease_end_of, node_of, present_end, server}
use Words.Lists.{Has}
use Words.Worlds.{stands_not}
use Rattle.st_protocol.specs.Assoc.{Config}
use Rattle.st_protocol.proofs.World.{exclusive}
use Rattle.st_laws_refine.specs.Views.Halves.{held_in, leased_in}
use Rattle.st_laws_refine.specs.Client.Invariants.{Lasts}
use Rattle.st_laws_refine.specs.Server.Invariants.{pairs}
use Rattle.st_laws_leases.specs.Sides.World.{AllStand}
use Rattle.st_laws_reads.specs.Copies.Law.{StandsAt}
use Rattle.st_laws_reads.specs.Copies.World.{Unheld}
use Rattle.st_laws_reads.proofs.Copies.Locked.{found_there}
use Rattle.st_laws_reads.specs.AllClients.Law.{Running}
use Rattle.st_laws_reads.proofs.AllClients.Alone.{Living, leased_held, living, present_ends, while_at, z}
use Rattle.st_laws_pages.specs.Writes.Writes.{ListedSince}
use Rattle.st_laws_reads.specs.OpenWrites.StandAlone.{OpenWritesStandAlone}

module _ (k : Config) (count : ℕ) (w : World) (a : AllStand k count w) (s : ℕ) (node : ServerNode) (at : node_of w (server s) ≡ Some node) where
  apart : (c d i : ℕ) (x y : Association) → c ≢ d → Living k count w a s node at c x → Living k count w a s node at d y → 2 ≤ (held_in x.session i).mode →
      (held_in y.session i).mode ≡ 0
  apart c d i x y n l m two = go (held_in y.session i).mode refl
    where
      go : (j : ℕ) → (held_in y.session i).mode ≡ j → j ≡ 0
      go zero q = refl
      go (suc j) q =
          let own = l.mode i in
          let its = m.mode i in
          let v = z k count w a s node at in
          let sum = exclusive k (pairs s v.ended w node v.ghosts) a.sound v.both.stands.reached c d i n l.alive m.alive (omega (arith, own, two))
          (omega (arith, its, q)) in
          absurd (omega (arith, sum, own, its, two, q))

  pub no_lock : (c d i : ℕ) (site other : WorldClient) (x y : Association) → c ≢ d → Running w c site → Running w d other → Has x site.node.state.associations →
      x.server ≡ server s →
      Lasts site.node.state.config.lease (clock_of w (nodes.Client (client c))).0 x.session → 2 ≤ (held_in x.session i).mode →
      Has y other.node.state.associations → y.server ≡ server s →
      Lasts other.node.state.config.lease (clock_of w (nodes.Client (client d))).0 y.session → (held_in y.session i).mode ≡ 0
  no_lock c d i site other x y n rc rd hx ex lx two hy ey ly = go (leased_in y.session) refl
    where
      go : (b : Bool) → leased_in y.session ≡ b → (held_in y.session i).mode ≡ 0
      go true q = apart c d i x y n (living k count w a s node at c site rc x hx ex lx (leased_held x.session i (omega (arith, two))))
          (living k count w a s node at d other rd y hy ey ly q) two
      go false q = none y.session q
        where
          none : (o : Option ClientSession) → leased_in o ≡ false → (held_in o i).mode ≡ 0
          none None e = refl
          none (Some t) e = cc e

-- a test that refuses nothing
pub timely_end : (clock : Stamp) (o : Option Stamp) (e : Stamp) → o ≡ Some e → adm.late_at clock o ≡ None → clock.0 < e.0
timely_end clock o e q h = let v = leb-false e.0 clock.0 (stands_not _ _ (subst (λ y. adm.late_at clock y ≡ None) q h)) in omega (arith, v)

pub open_writes_stand_alone : OpenWritesStandAlone
open_writes_stand_alone asked_as k count w c d site other a n x at tag bytes all open_ ne rc rd copies here there of l =
    each other.node.state.associations (λ y h. h)
  where
    own : lease_end_of w x.client x.server x.life ≡ lease.end_at site.node.state.config (cl.lease_at (Some a))
    own =
        ap (λ (y : ClientId). lease_end_of w y x.server x.life) of.client ∙ ap (λ (y : ServerId). lease_end_of w (client c) y x.life) of.server ∙
        ap (λ (y : Life). lease_end_of w (client c) a.server y) of.life
        ∙ ap (end_or_present w (client c) a.server) (present_ends w all.fates (client c) site rc.there rc.runs a copies.apart here) ∙
        ap (present_end w a.server) rc.there
        ∙ ap (λ o. lease.end_at site.node.state.config (cl.lease_at o)) (found_there site.node.state.associations a copies.apart here)

    lasts : Lasts site.node.state.config.lease (clock_of w (nodes.Client (client c))).0 a.session
    lasts = by a.session own
      where
        by : (o : Option ClientSession) → lease_end_of w x.client x.server x.life ≡ lease.end_at site.node.state.config
            (cl.lease_at (Some (record a { session = o }))) → Lasts site.node.state.config.lease (clock_of w (nodes.Client (client c))).0 o
        by None q = tt
        by (Some s) q =
            let v = timely_end (clock_of w (nodes.Client x.client)) (lease_end_of w x.client x.server x.life) (lease.end_of site.node.state.config s.lease) q
            l.timely in
            let e = ap (λ (y : ClientId). (clock_of w (nodes.Client y)).0) of.client in omega (arith, v, e)

    listed : ListedSince site.starts a x tag
    listed = open_ (client c) site rc.there rc.runs a here n x l.command at tag bytes l.issued l.is l.what l.unreported of.client of.server of.life

    stands : StandsAt (client c) w.log a
    stands = (while_at _ _ (client c) w.log site.node.state.associations a copies.copies here).lasting lasts

    two : 2 ≤ (held_in a.session tag.file.ino).mode
    two = subst (λ i. 2 ≤ (held_in a.session i).mode) listed.listed.ino
        ((stands.pages listed.listed.command.ino listed.listed.command.page).mode listed.listed.dirty listed.listed.dirty_is)

    each : (xs : List Association) → ((y : Association) → Has y xs → Has y other.node.state.associations) →
        Unheld tag.file other.node.state.config.lease (clock_of w (nodes.Client (client d))).0 xs
    each [] h = record {}
    each (y ∷ xs) h =
        record {
          one = λ m sv. no_lock k count w all a.server.0 there.node there.is c d tag.file.ino site other a y ne rc rd here refl lasts two (h y (inl refl))
              (sym sv ∙ listed.listed.server) m;
          rest = each xs (λ v i. h v (inr i));
        }
