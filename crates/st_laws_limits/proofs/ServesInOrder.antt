-- A server takes an input: lives and epochs stay in order between clients and servers.
use Rattle.st_lemmas.proofs.Words
use Words.{◌≡◌, ◌≢◌, ◌≤◌, ◌<◌, ◌+◌, ◌⊎◌, ℕ, Bool, true, false, List, Some, Ok, length, refl, sym, ap, ◌∙◌, inl, inr, arith}
use Words.{ClientId, Epoch, GrantNo, Message, Mode, ServerId, ServerInput, Session, Stamp}
use Words.bodies
use Words.nodes
use Words.outputs
use Words.ClientState.{Association, ClientSession}
use Words.Events as ev
use Words.Grace as grace
use Words.Lists.{Has}
use Words.Server as server
use Words.Server.{ServerNode}
use Words.Sessions.{session_of}
use Words.World.{World, WorldClient, clock_of, node_of, numbered}
use Rattle.st_rules.specs.declared.input.ServerInput.TheVariants as inputs
use Rattle.st_third.specs.declared.event.ThirdEvent.{ThirdEvent}
use Rattle.st_third.specs.Events as every
use Rattle.st_third.specs.Server as hearing
use Rattle.st_third.specs.World.{ThirdWorld}
use Rattle.st_laws_third.proofs.DemandsSeen.{People}
use Rattle.st_laws_third.proofs.EventWalk.{ServerTakes, Server_step}
use Rattle.st_laws_third.proofs.Moves.{took_server}
use Rattle.st_laws_third.proofs.Sound.{Sound}
use Rattle.st_laws_leaving.specs.Quiet.{Between, IsSent, Standing}
use Rattle.st_laws_leaving.specs.Serving.{ServesOn}
use Rattle.st_laws_leaving.proofs.ServedClients.{servers_serve_on}
use Rattle.st_laws_leaving.proofs.ServesStanding as serving
use Rattle.st_laws_limits.proofs.InGrace.{CameBy, HasReasserted, WasThere, grace_same, lives_in_grace, quiet_in_grace}
use Rattle.st_laws_limits.proofs.Welcomed.{AllInOrder, IsAsked, IsOff, IsWelcome, LivesInOrder, in_order_as, off_same}

module _ (e : ThirdEvent) (w : ThirdWorld) (so : Sound w) (pe : People w) (st : Standing w.world) (all : AllInOrder w.world) (s : ServerId) (node : ServerNode)
    (input : ServerInput) (there : node_of w.world s ≡ Some node) (why : ServerTakes w s e input) (up : node.running ≡ true) where
  abbrev now : Stamp
  now = clock_of w.world (nodes.Server s)

  abbrev Step : server.ServerTurn
  Step = hearing.server_step w.world.form node.state now input

  abbrev Left : ServerNode
  Left = record node { state = Step.state }

  abbrev U : World
  U = (every.as_plain w (ev.server_took w.world s (Ok (Server_step w s node input)))).third.world

  on : ServesOn node.state input Step
  on = servers_serve_on w.world.form node.state now input (st.serving s.0 node there)

  epoch_same : Step.state.stable.epoch.0 ≡ node.state.stable.epoch.0
  epoch_same = ap (λ (x : Epoch). x.0) on.epoch

  clocks : U.clocks ≡ w.world.clocks
  clocks = ap (λ x. x.plain.clocks) (took_server w s (Ok (Server_step w s node input)))

  clients : length U.clients ≡ length w.world.clients
  clients = ap (λ x. length x.plain.clients) (took_server w s (Ok (Server_step w s node input)))

  -- One client at this server.
  module _ (n : ℕ) (site : WorldClient) (a : Association) (here : numbered w.world.clients n ≡ Some site) (h : Has a site.node.state.associations)
      (is : a.server.0 ≡ s.0) where
    abbrev C : ClientId
    C = record { 0 = n }

    few : n ≤ 64
    few = pe.few n site here

    at : numbered w.world.servers a.server.0 ≡ Some node
    at = ap (numbered w.world.servers) is ∙ there

    bt : Between w.world C site a node
    bt = st.between n site a node here h at

    l : LivesInOrder w.world C a node
    l = all n site a node here h at

    abbrev Asked : Message → Type 0
    Asked m = IsAsked w.world C a.server m

    -- the same moment
    now_is : now ≡ clock_of w.world (nodes.Server a.server)
    now_is = ap (λ k. clock_of w.world (nodes.Server (record { 0 = k }))) (sym is)

    done : IsOff w.world a node → IsOff U a Left
    done o =
        ap (λ g. grace.is_on g (clock_of U (nodes.Server a.server))) (grace_same w.world.form node.state now input (st.serving s.0 node there))
        ∙ off_same w.world U a node clocks clients o

    asked_back : (m : Message) → IsAsked U C a.server m → Asked m
    asked_back m i =
        record { sent = serving.old_mail e w so pe st s node input there why up n m few i.sent i.to.0; to = i.to; other = i.other }

    -- a welcome is old, or is said in this step
    welcome_of : (p : Message) → IsWelcome U C a.server p → (IsWelcome w.world C a.server p) ⊎ (Has (outputs.Send p) Step.out)
    welcome_of p i = go ((serving.step_post e w so pe st s node input there why up).0.sent p i.sent)
      where
        go : (IsSent w.world p) ⊎ (Has (outputs.Send p) Step.out) → (IsWelcome w.world C a.server p) ⊎ (Has (outputs.Send p) Step.out)
        go (inl j) = inl (record { sent = j; from = i.from; to = i.to; is = i.is })
        go (inr j) = inr j

    of_epoch : (p : Message) → Has (outputs.Send p) Step.out → p.header.epoch ≡ node.state.stable.epoch.0
    of_epoch p j = (on.said p j).epoch

    -- in grace, or after it
    abbrev InIt : Type 0
    InIt = grace.is_on node.state.grace now ≡ true

    off_or : (IsOff w.world a node) ⊎ InIt
    off_or = go (grace.is_on node.state.grace now) refl
      where
        go : (b : Bool) → grace.is_on node.state.grace now ≡ b → (IsOff w.world a node) ⊎ InIt
        go false k = inl (sym (ap (grace.is_on node.state.grace) now_is) ∙ k)
        go true k = inr k

    none_new : {A : Type 0} (p : Message) → InIt → Has (outputs.Send p) Step.out → p.body ≡ bodies.Welcome → A
    none_new p g j q = absurd (quiet_in_grace w.world.form node.state now input (st.serving s.0 node there) g p j q)

    -- the reassertion that a session began by
    reasserted : (m : Message) (rows : List (ℕ × GrantNo × Mode)) → input ≡ inputs.Control m → m.header.from ≡ n →
        m.body ≡ bodies.Reassert rows → Asked m
    reasserted m rows i f b =
        let z = serving.comes e w so pe st s node input there why up m i in
        record { sent = z.0; to = (f, z.1 ∙ ap (λ k. 32768 + k) (sym is)); other = λ q. no (sym b ∙ q) }
      where
        no : bodies.Reassert rows ≡ bodies.Hello → ⊥
        no q = cc q

    came : InIt → (z : Session) → session_of Step.state.sessions C ≡ Some z → CameBy node.state input C z.life.0
    came g z q = lives_in_grace w.world.form node.state now input (st.serving s.0 node there) g C z q

    serves_in_order : LivesInOrder U C a Left
    serves_in_order =
        record {
          later = λ m p i j o. later m p (asked_back m i) (welcome_of p j) o;
          welcomed = λ p i q. done (welcomed p i.is (welcome_of p i) (q ∙ epoch_same) off_or);
          asked = λ m k i j o q. done (l.asked m k (asked_back m i) (asked_back k j) o (q ∙ epoch_same));
          begun = λ u q m i o k. done (l.begun u q m (asked_back m i) o (k ∙ epoch_same));
          served = λ z q m i o. done (served z q m (asked_back m i) o off_or);
          serves = λ z q u k o. done (serves z q u k o off_or);
          known = λ f z q p i o. known (λ k. f (done k)) z q p i.is (welcome_of p i) o off_or;
        }
      where
        later : (m p : Message) → Asked m → (IsWelcome w.world C a.server p) ⊎ (Has (outputs.Send p) Step.out) → m.header.life < p.header.life →
            m.header.epoch ≤ p.header.epoch
        later m p i (inl j) o = l.later m p i j o
        later m p i (inr j) o = let z = bt.epochs m i.sent i.to i.other in let y = of_epoch p j in omega (arith, z, y)

        welcomed : (p : Message) → p.body ≡ bodies.Welcome → (IsWelcome w.world C a.server p) ⊎ (Has (outputs.Send p) Step.out) →
            p.header.epoch ≡ node.state.stable.epoch.0 → (IsOff w.world a node) ⊎ InIt → IsOff w.world a node
        welcomed p b (inl i) q k = l.welcomed p i q
        welcomed p b (inr j) q (inl o) = o
        welcomed p b (inr j) q (inr g) = none_new p g j b

        served : (z : Session) → session_of Step.state.sessions C ≡ Some z → (m : Message) → Asked m → z.life.0 < m.header.life →
            (IsOff w.world a node) ⊎ InIt → IsOff w.world a node
        served z q m i o (inl k) = k
        served z q m i o (inr g) = by (came g z q)
          where
            by : CameBy node.state input C z.life.0 → IsOff w.world a node
            by (WasThere x k y) = l.served x k m i (omega (arith, y, o))
            by (HasReasserted x rows k f y ep b) = l.asked x m (reasserted x rows k f b) i (omega (arith, y, o)) ep

        serves : (z : Session) → session_of Step.state.sessions C ≡ Some z → (u : ClientSession) → a.session ≡ Some u → z.life.0 < a.life.0 →
            (IsOff w.world a node) ⊎ InIt → IsOff w.world a node
        serves z q u k o (inl f) = f
        serves z q u k o (inr g) = by (came g z q)
          where
            by : CameBy node.state input C z.life.0 → IsOff w.world a node
            by (WasThere x t y) = l.serves x t u k (omega (arith, y, o))
            by (HasReasserted x rows t f y ep b) = l.begun u k x (reasserted x rows t f b) (omega (arith, y, o)) ep

        known : (IsOff w.world a node → ⊥) → (z : Session) → session_of Step.state.sessions C ≡ Some z → (p : Message) → p.body ≡ bodies.Welcome →
            (IsWelcome w.world C a.server p) ⊎ (Has (outputs.Send p) Step.out) → z.life.0 < p.header.life → (IsOff w.world a node) ⊎ InIt →
            Step.state.stable.epoch.0 ≤ p.header.epoch
        known f z q p b i o (inl k) = absurd (f k)
        known f z q p b (inr j) o (inr g) = none_new p g j b
        known f z q p b (inl i) o (inr g) = by (came g z q)
          where
            by : CameBy node.state input C z.life.0 → Step.state.stable.epoch.0 ≤ p.header.epoch
            by (WasThere x t y) = let k = l.known f x t p i (omega (arith, y, o)) in let d = epoch_same in omega (arith, k, d)
            by (HasReasserted x rows t k y ep c) =
                let u = l.later x p (reasserted x rows t k c) i (omega (arith, y, o)) in let d = epoch_same in omega (arith, u, d, ep)

  pub serves_all_in_order : AllInOrder U
  serves_all_in_order n site a x q h p =
      serving.by_server e w so pe st s node input there why up (λ k y. a.server.0 ≡ k → LivesInOrder U (record { 0 = n }) a y)
      (λ d. serves_in_order n site a here h d)
      (λ k y ne r d. other y (λ z. ne (sym d ∙ z)) (ap (numbered w.world.servers) d ∙ r)) a.server.0 x p refl
    where
      here : numbered w.world.clients n ≡ Some site
      here = sym (ap (λ xs. numbered xs n) (serving.step_post e w so pe st s node input there why up).1) ∙ q

      other : (y : ServerNode) → a.server.0 ≢ s.0 → numbered w.world.servers a.server.0 ≡ Some y → LivesInOrder U (record { 0 = n }) a y
      other y ne r =
          in_order_as w.world U (record { 0 = n }) a y
          (λ m i t. serving.old_mail e w so pe st s node input there why up n m (pe.few n site here) i t.0)
          (λ m i f. serving.old_post e w so pe st s node input there why up a.server.0 m ne i f)
          (off_same w.world U a y clocks clients) (all n site a y here h r)
