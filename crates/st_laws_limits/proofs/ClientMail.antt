-- A message of a client was sent by one that has the server that it is for; and it reasserts few locks.
use Rattle.st_lemmas.proofs.Words
use Words.{◌≡◌, ◌≤◌, ◌⊎◌, ℕ, Bool, true, Some, Ok, refl, sym, ap, ◌∙◌, subst, inl, inr, arith}
use Words.{ClientId, Message, ServerId, ServerInput}
use Words.nodes
use Words.outputs
use Words.Client as plain
use Words.Client.{ClientNode}
use Words.ClientState.{Association, ClientState}
use Words.Events as ev
use Words.Keys.{server_node}
use Words.Lists.{Has}
use Words.Server.{ServerNode}
use Words.World.{WorldClient, clock_of, node_of, numbered, site_of}
use Rattle.st_third.specs.declared.event.ThirdEvent.{ThirdEvent}
use Rattle.st_third.specs.declared.event.ThirdInput.{ThirdInput}
use Rattle.st_third.specs.declared.output.ThirdOutput.TheVariants as says
use Rattle.st_third.specs.Client.{client_step}
use Rattle.st_third.specs.Events as every
use Rattle.st_third.specs.Events.{ThirdWorldTurn}
use Rattle.st_third.specs.State.{ClientBeside, ThirdClientTurn}
use Rattle.st_third.specs.World.{ThirdWorld, beside_of}
use Rattle.st_laws_third.specs.Living.{heard_in}
use Rattle.st_laws_third.proofs.AllClients.{good_said}
use Rattle.st_laws_third.proofs.DemandsSeen.{People}
use Rattle.st_laws_third.proofs.EventWalk.{Client_step, ClientTakes, EventLawOf, ServerTakes, Server_step, walk_by_event}
use Rattle.st_laws_third.proofs.FewRows.{AllRows, Rows, RowsIn, WordRows, rows_begun, rows_law}
use Rattle.st_laws_third.proofs.Moves.{Moved}
use Rattle.st_laws_third.proofs.Sound.{Sound}
use Rattle.st_laws_leaving.specs.Going.{ClientGoes}
use Rattle.st_laws_leaving.specs.Leavers.{HasHome}
use Rattle.st_laws_leaving.specs.Quiet.{IsSent, IsTo, Standing}
use Rattle.st_laws_leaving.proofs.Betweens.{standing_as}
use Rattle.st_laws_leaving.proofs.Homes.{home_after}
use Rattle.st_laws_leaving.proofs.Posts.{ClientSays, lost_sent, took_post}
use Rattle.st_laws_leaving.proofs.ServedClients.{servers_serve_on}
use Rattle.st_laws_leaving.proofs.ServesStanding as serving
use Rattle.st_laws_leaving.proofs.TakesStanding as took

-- a message that is new: a server's, or a client's that has the server and reasserts few locks
record IsNew (w : ThirdWorld) (m : Message) : Type 0 where
  home : (c : ClientId) (s : ServerId) → IsTo c s m → c.0 ≤ 64 → HasHome w.world c s
  rows : m.header.from ≤ 64 → RowsIn w.limits m.body

-- each message in the world after an event was there, or is new
abbrev Mails : ThirdWorld → ThirdWorldTurn → Type 0
Mails w sc = Sound w → People w → Standing w.world → AllRows w → (m : Message) → IsSent sc.third.world m → (IsSent w.world m) ⊎ (IsNew w m)

-- a client's
module _ (e : ThirdEvent) (w : ThirdWorld) (c : ClientId) (old site : WorldClient) (b : ClientBeside) (input : ThirdInput)
    (there : site_of w.world c ≡ Some old) (same : site.node ≡ old.node) (beside : beside_of w c ≡ Some b) (why : ClientTakes w c old e site input) where
  abbrev Turn : ThirdClientTurn
  Turn = Client_step w c site b input

  client_new : Sound w → People w → Standing w.world → AllRows w → (m : Message) → ClientSays Turn.out m → IsNew w m
  client_new so pe st rows m h =
      record {
        home = λ d s t l. home d s t (goes.sent m h);
        rows = λ l. good_said Rows WordRows rows_law rows_begun w so rows c old b input there beside (says.Plain (outputs.Send m)) said;
      }
    where
      goes : ClientGoes (heard_in input) (every.third_client site b) Turn.client Turn.out
      goes = took.goes e w so pe st c old site b input there same beside why

      state_same : site.node.state ≡ old.node.state
      state_same = ap (λ (x : ClientNode). x.state) same

      said : Has (says.Plain (outputs.Send m)) (client_step w.limits (record { plain = old.node.state; beside = b }) (clock_of w.world (nodes.Client c)) input).out
      said =
          subst (λ (n : ClientNode). Has (says.Plain (outputs.Send m)) (client_step w.limits (record { plain = n.state; beside = b })
          (clock_of w.world (nodes.Client c)) input).out) same h

      home : (d : ClientId) (s : ServerId) → IsTo d s m →
          (m.header.from ≡ site.node.state.id.0) × ((a : Association) × (Has a site.node.state.associations × (m.header.to ≡ server_node a.server))) → HasHome w.world d s
      home d s t z =
          let own : d.0 ≡ c.0 = sym t.0 ∙ z.0 ∙ ap (λ (x : ClientState). x.id.0) state_same ∙ pe.ids c.0 old there in
          record {
            site = old;
            there = ap (λ n. numbered w.world.clients n) own ∙ there;
            association = z.1.0;
            has = subst (λ (x : ClientState). Has z.1.0 x.associations) state_same z.1.1.0;
            is = let x = z.1.1.1 in let y = t.1 in omega (arith, x, y);
          }

  client_mails : Mails w (every.client_took w c site Turn)
  client_mails so pe st rows m h = go ((took_post w c site Turn).sent m h)
    where
      go : (IsSent w.world m) ⊎ (ClientSays Turn.out m) → (IsSent w.world m) ⊎ (IsNew w m)
      go (inl i) = inl i
      go (inr i) = inr (client_new so pe st rows m i)

-- a server's
server_mails : (e : ThirdEvent) (w : ThirdWorld) (s : ServerId) (node : ServerNode) (input : ServerInput) → node_of w.world s ≡ Some node →
    ServerTakes w s e input → node.running ≡ true → Mails w (every.as_plain w (ev.server_took w.world s (Ok (Server_step w s node input))))
server_mails e w s node input there why up so pe st rows m h = go ((serving.step_post e w so pe st s node input there why up).0.sent m h)
  where
    go : (IsSent w.world m) ⊎ (Has (outputs.Send m) (Server_step w s node input).out) → (IsSent w.world m) ⊎ (IsNew w m)
    go (inl i) = inl i
    go (inr i) =
        let f = ((servers_serve_on w.world.form node.state (clock_of w.world (nodes.Server s)) input (st.serving s.0 node there)).said m i).from in
        inr (record { home = λ c r t l. let x = t.0 in absurd (omega (arith, x, l, f)); rows = λ l. absurd (omega (arith, l, f)) })

mails_law : (e : ThirdEvent) → EventLawOf e Mails
unfolding ev.advances ev.effects ev.marks ev.crashes_client ev.crashes_server ev.starts_client ev.starts_server every.client_begins every.server_begins
mails_law e =
    record {
      still = λ w so pe st rows m h. inl h;
      takes = λ w c old site b input there same q why r. client_mails e w c old site b input there same q why;
      serves = λ w s node input there why up. server_mails e w s node input there why up;
      loses = λ w k m q so pe st rows x h. inl (lost_sent w.world k m q x h);
      cuts = λ w from to so pe st rows m h. inl h;
      heals = λ w from to so pe st rows m h. inl h;
      advances = λ w steps so pe st rows m h. inl h;
      effects = λ w k so pe st rows m h. inl h;
      reports =
          λ w k ok sc which h so pe st rows m i. again w k ok m
          (h (record { fits = record { sites = so.fits.sites; there = so.fits.there; pairs = so.fits.pairs }; form = so.form })
          (record { asks = pe.asks; ids = pe.ids; servers = pe.servers; few = pe.few }) (standing_as w.world _ refl refl (λ m i. i) st) rows m i);
      client_crashes = λ w c site q so pe st rows m h. inl h;
      server_crashes = λ w s node q so pe st rows m h. inl h;
      client_starts = λ w c site q which so pe st rows m h. inl h;
      server_starts = λ w s node q which so pe st rows m h. inl h;
    }
  where
    again : (w : ThirdWorld) (k : ℕ) (ok : Bool) (m : Message) → (IsSent (every.with_report k ok w).world m) ⊎ (IsNew (every.with_report k ok w) m) →
        (IsSent w.world m) ⊎ (IsNew w m)
    again w k ok m (inl i) = inl i
    again w k ok m (inr i) =
        inr (record {
          home = λ c s t l. let g = i.home c s t l in record { site = g.site; there = g.there; association = g.association; has = g.has; is = g.is };
          rows = i.rows;
        })

-- What holds of all messages.
pub record MailFits (w : ThirdWorld) : Type 0 where
  pub home : (c : ClientId) (s : ServerId) (m : Message) → IsSent w.world m → IsTo c s m → c.0 ≤ 64 → HasHome w.world c s
  pub rows : (m : Message) → IsSent w.world m → m.header.from ≤ 64 → RowsIn w.limits m.body

pub mail_after : (w : ThirdWorld) (e : ThirdEvent) → Sound w → People w → Standing w.world → AllRows w → Moved w (every.happens w e).third → MailFits w →
    (every.happens w e).third.limits ≡ w.limits → MailFits (every.happens w e).third
mail_after w e so pe st rows mv f l =
    record {
      home = λ c s m h t k. home_after w v so mv c s (home c s m t k (new m h));
      rows = λ m h k. subst (λ n. RowsIn n m.body) (sym l) (few m k (new m h));
    }
  where
    v : ThirdWorld
    v = (every.happens w e).third

    new : (m : Message) → IsSent v.world m → (IsSent w.world m) ⊎ (IsNew w m)
    new m h = walk_by_event e Mails (mails_law e) w so.form so pe st rows m h

    home : (c : ClientId) (s : ServerId) (m : Message) → IsTo c s m → c.0 ≤ 64 → (IsSent w.world m) ⊎ (IsNew w m) → HasHome w.world c s
    home c s m t k (inl i) = f.home c s m i t k
    home c s m t k (inr i) = i.home c s t k

    few : (m : Message) → m.header.from ≤ 64 → (IsSent w.world m) ⊎ (IsNew w m) → RowsIn w.limits m.body
    few m k (inl i) = f.rows m i k
    few m k (inr i) = i.rows k
