-- What holds of a session in which a message of its server comes: each lock has a mode, and a grant above the greatest seen lowers none.
use Rattle.st_lemmas.proofs.Words
use Words.{◌≡◌, ℕ, ◌+◌, ◌<◌, ◌≤◌, Bool, true, false, List, [], ◌∷◌, ◌==◌, Option, Some, None, refl, sym, ap, ◌∙◌, subst, arith, if◌then◌else◌, ltb-true}
use Words.{GrantNo, Mode, Body, SentMessage}
use Words.nodes
use Words.bodies
use Words.ClientLocks.{is_above_seen, lock_of, seen_of}
use Words.ClientState.{Association, ClientSession}
use Words.Keys.{client, server_node}
use Words.World.{World, WorldClient, clock_of}
use Words.Lists.{Has}
use Rattle.st_base.specs.Mode.{number_of}
use Rattle.st_protocol.specs.Assoc as net
use Rattle.st_protocol.specs.Assoc.{Alive, Config, Exactly, In, Msg, msg}
use Rattle.st_laws_refine.specs.Views.Halves.{client_of, date_in, held_at, leased_in}
use Rattle.st_laws_refine.specs.Views.Messages.{Shows, shown, with_date}
use Rattle.st_laws_refine.specs.Client.Invariants.{HaveModes, Kept, Lasts}
use Rattle.st_laws_refine.specs.Server.Pair.{client_in}
use Rattle.st_laws_refine.specs.Server.Invariants.{pairs}
use Rattle.st_protocol.proofs.World.{invariant, exactly as exact_law}
use Rattle.st_laws_leases.specs.Sides.Invariants.{Standing}
use Rattle.st_laws_leases.specs.Sides.World.{AllStand, ServerStands, There}
use Rattle.st_laws_leases.proofs.Sides.Pairs.{only_here, own_view}
use Rattle.st_laws_reads.specs.AllClients.Law.{Running}

-- a grant that was shown
granted_shown : (number life epoch stamp ino g mode : ℕ) (N : List Msg) → Shows life epoch stamp (with_date number (net.Granted ino g mode ∷ [])) N → In (msg life epoch stamp (net.Granted ino g mode)) N
unfolding with_date
granted_shown number life epoch stamp ino g mode N h = go (number == 0) h
  where
    go : (b : Bool) → Shows life epoch stamp (if b then net.Granted ino g mode ∷ [] else net.Ack ∷ net.Granted ino g mode ∷ []) N → In (msg life epoch stamp (net.Granted ino g mode)) N
    go true h = h.one
    go false h = h.rest.one

lasts_date : (l now : ℕ) (o : Option ClientSession) (s : ClientSession) → o ≡ Some s → Lasts l now o → now < date_in o + l
lasts_date l now None s e h = cc e
lasts_date l now (Some t) s e h = h

module _ (k : Config) (count : ℕ) (w : World) (all : AllStand k count w) (c : ℕ) (site : WorldClient) (run : Running w c site) (m : SentMessage) (sent : Has m w.net.messages) (to : m.message.header.to ≡ c) (a : Association) (here : Has a site.node.state.associations)
    (s : ClientSession) (session : a.session ≡ Some s) (from : m.message.header.from ≡ server_node a.server) (life : m.message.header.life ≡ a.life.0) (epoch : m.message.header.epoch ≡ s.epoch.0) where
  there : There w a.server
  there = all.senders m sent a.server from

  z : ServerStands k w a.server.0 there.node
  z = all.servers a.server.0 there.node there.is

  q : Standing k a.server.0 c site w.ended (z.ghosts c).net
  q = z.both.clients c site run.there

  association_is_asking : a ≡ q.association
  association_is_asking = only_here a.server.0 site.node.state.associations q.association q.sim.place a here refl

  kept : Kept a.life.0 a.store (Some s) (z.ghosts c).net
  kept = subst (λ o. Kept a.life.0 a.store o (z.ghosts c).net) session
      (subst (λ (x : Association). Kept x.life.0 x.store x.session (z.ghosts c).net) (sym association_is_asking) q.sim.kept)

  pub reply_modes : HaveModes s.locks.rows
  reply_modes = kept.modes

  abbrev view : net.Client
  view = client_in w c a.server.0 (z.ended c)

  same : view ≡ client_of (z.ended c) (clock_of w (nodes.Client (client c))).0 a
  same = own_view w c a.server.0 (z.ended c) site q.association run.there run.runs q.sim.place ∙
      ap (client_of (z.ended c) (clock_of w (nodes.Client (client c))).0) (sym association_is_asking)

  -- the session's part of it
  seen : view ≡ client_of (z.ended c) (clock_of w (nodes.Client (client c))).0 (record a { session = Some s })
  seen = same ∙ ap (λ o. client_of (z.ended c) (clock_of w (nodes.Client (client c))).0 (record a { session = o })) session

  module _ (lasts : Lasts site.node.state.config.lease (clock_of w (nodes.Client (client c))).0 a.session) where
    alive : Alive k view
    alive =
        subst (Alive k) (sym same)
        (record { leased = ap leased_in session; lasts = let t = q.sim.terms in let x = lasts_date site.node.state.config.lease (clock_of w (nodes.Client (client c))).0 a.session s session lasts in omega (arith, t, x) })

    pub reply_up : (ino : ℕ) (g : GrantNo) (mode : Mode) → m.message.body ≡ bodies.Granted ino g mode → is_above_seen s.locks ino g ≡ true → (held_at (lock_of s.locks ino)).mode ≤ number_of mode
    reply_up ino g mode body above = let f = fine in let h = held in omega (arith, f, h)
      where
        exactly : Exactly k ((pairs a.server.0 z.ended w there.node z.ghosts).at c)
        exactly = exact_law k (pairs a.server.0 z.ended w there.node z.ghosts) all.sound z.both.stands.reached c

        shows : Shows m.message.header.life m.message.header.epoch m.message.header.stamp (shown m.message.header.number (bodies.Granted ino g mode)) (z.ghosts c).net
        shows =
            subst (λ (b : Body). Shows m.message.header.life m.message.header.epoch m.message.header.stamp (shown m.message.header.number b) (z.ghosts c).net) body
            (((z.both.stands.served c).wires m sent).to_client from to).all

        arrived : In (msg m.message.header.life m.message.header.epoch m.message.header.stamp (net.Granted ino g.0 (number_of mode))) (z.ghosts c).net
        arrived = granted_shown m.message.header.number m.message.header.life m.message.header.epoch m.message.header.stamp ino g.0 (number_of mode) (z.ghosts c).net shows

        its : In (msg view.life view.epoch m.message.header.stamp (net.Granted ino g.0 (number_of mode))) (z.ghosts c).net
        its =
            subst (λ n. In (msg n view.epoch m.message.header.stamp (net.Granted ino g.0 (number_of mode))) (z.ghosts c).net) (life ∙ sym (ap (λ (x : net.Client). x.life) seen))
            (subst (λ n. In (msg m.message.header.life n m.message.header.stamp (net.Granted ino g.0 (number_of mode))) (z.ghosts c).net) (epoch ∙ sym (ap (λ (x : net.Client). x.epoch) seen)) arrived)

        low : view.seen ino < g.0
        low = let y = ltb-true (seen_of s.locks ino).0 g.0 above in let e = ap (λ (x : net.Client). x.seen ino) seen in omega (arith, y, e)

        held : (held_at (lock_of s.locks ino)).mode < 2
        held = let y = exactly.lands alive m.message.header.stamp ino g.0 (number_of mode) its low in let e = ap (λ (x : net.Client). (x.held ino).mode) seen in omega (arith, y, e)

        fine : 1 ≤ number_of mode
        fine = (invariant k (pairs a.server.0 z.ended w there.node z.ghosts) all.sound z.both.stands.reached c).fits _ its
