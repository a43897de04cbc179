-- Every event keeps the invariant of messages, nodes and history.
use Rattle.st_lemmas.proofs.Words
use Words.{◌==◌, ◌≡◌, ◌≢◌, ℕ, ◌+◌, ◌≤◌, ◌⊎◌, Bool, true, false, not, List, [], ◌∷◌, ◌++◌, Option, Some, None, Ok, Err, refl, sym, ap, ◌∙◌, subst, inl, inr}
use Words.{arith, if◌then◌else◌, map, length, filter, nat_lt, eqb-true, eq-eqb, ltb-true, lt-ltb, ClientId, ServerId, Life, Stamp, NodeId, Ask, Message, Event}
use Words.{Note, Output, Suspect, ClientInput, ServerInput, Observation, WorldRefusal, IssuedCommand, SentMessage}
use Words.nodes
use Words.events
use Words.notes
use Words.outputs
use Words.inputs
use Words.serving
use Words.seen
use Words.Keys.{client, server_node}
use Words.Client as cl
use Words.ClientState.{ClientState}
use Words.Server as server
use Words.Server.{ServerNode}
use Words.World as world
use Words.World.{World, WorldClient, site_of, node_of, numbered, with_numbered, clock_of}
use Words.Admissible as adm
use Words.Events as ev
use Words.Events.{WorldTurn}
use Words.History as history
use Words.History.{Traced, TimerStart, traced_after, history_after, remember, timer_start, client_clock, is_timer_of, recall_all}
use Words.Dating as dating
use Words.Safety.{Step, step}
use Words.Lists.{Has}
use Words.Tables.{same_or_not, and_true, has_append, has_filter, has_filter_in, has_map, has_map_in, not_true}
use Words.Lookups.{some_is}
use Words.Numbers.{numbered_own, numbered_other, numbered_below, numbered_has, set_length}
use Words.Lengths.{length_map}
use Words.Members.{has_left, has_right}
use Words.Truth.{not_both}
use Rattle.std.specs.Option.{option_or}
use Rattle.st_rules.specs.declared.node.StepRefusal.TheVariants.{Crashed}
use Rattle.st_laws_leases.specs.Dates.Dates.{message_in, messages, is_dating, is_from_client, is_stamped_by, Born, Answer, SessionDated, AssociationDated}
use Rattle.st_laws_leases.specs.Dates.Dates.{ClientDated, Runs, ServerKnown, Started, TimerOf, Timed, TimerQuiet, Dated}
use Rattle.st_laws_leases.proofs.Dates.Serving.{timer_noted, timer_said, timers_out, AnswersTo, P, Since, step_good}
use Rattle.st_laws_leases.proofs.Dates.Asking.{AsksNow}
use Rattle.st_laws_leases.proofs.Dates.Receiving.{Ever, Held, Comes, ever_on, step_held}
use Rattle.st_laws_leases.proofs.Dates.Leaving.{Leaves, client_leaves, has_numbered, lost_same, server_not_client, set_cases}
use Rattle.st_laws_leases.proofs.Dates.SentMessages.{Said, server_said, suspicion_seen, timers_said, client_said, AllCalm, client_calm, fates_calm, calm_timers}

dates_more : (ms ns : List Message) → ((m : Message) → Has m ms → Has m ns) → (c : ClientId) (x : ClientState) → ClientDated ms c x → ClientDated ns c x
dates_more ms ns f c x p = record { id = p.id; all = λ a h. go a.server a.life a.session (p.all a h) }
  where
    go : (s : ServerId) (life : Life) (o : Option Rattle.st_rules.specs.ClientState.ClientSession) → SessionDated ms c s life o → SessionDated ns c s life o
    go s life None d = tt
    go s life (Some y) (d, r) =
        (record { by = d.by; among = f d.by d.among; from = d.from; to = d.to; of_life = d.of_life; stamp = d.stamp; dating = d.dating }, r)

pub from_server : (m : Message) (s : ServerId) → m.header.from ≡ server_node s → is_from_client m ≡ true → ⊥
from_server m s e f = let z = ltb-true m.header.from 32768 f in omega (arith, z, e)

below_client : (m : Message) (c : ClientId) → m.header.from ≡ c.0 → c.0 ≤ 16 → is_from_client m ≡ false → ⊥
below_client m c e l f = go (nat_lt m.header.from 32768) refl f
  where
    lt : nat_lt m.header.from 32768 ≡ true
    lt = subst (λ n. nat_lt n 32768 ≡ true) (sym e) (lt-ltb c.0 32768 (omega (arith, l)))

    go : (b : Bool) → nat_lt m.header.from 32768 ≡ b → b ≡ false → ⊥
    go b q z = no (sym lt ∙ q ∙ z)
      where
        no : ◌≡◌ {A = Bool} true false → ⊥
        no y = cc

-- A message that an event sent.
pub record New (t : Traced) (sc : WorldTurn) (m : Message) : Type 0 where
  pub number : ℕ
  pub sent : Has (seen.Sent number m) sc.seen
  pub client : is_from_client m ≡ true → dating.is_request m.body ≡ true → is_stamped_by t.world m ≡ true
  pub server : is_from_client m ≡ false → is_dating m ≡ true → Answer (messages t.world) m

-- A timer of the history that an event leaves: it was there, and so was each timer that its server has of the client.
pub record Stays (t : Traced) (sc : WorldTurn) (x : TimerStart) : Type 0 where
  pub was : Has x t.history.timers
  pub own : (node : ServerNode) → node_of sc.world x.server ≡ Some node → (u : Suspect) → Has u node.state.authority.suspects → u.client ≡ x.client →
      (old : ServerNode) × (node_of t.world x.server ≡ Some old) × Has u old.state.authority.suspects

-- A timer of the history that starts in an event.
pub record Starts (t : Traced) (sc : WorldTurn) (x : TimerStart) : Type 0 where
  pub start : Stamp
  pub noted : Has (seen.Suspected x.server x.client start) sc.seen
  pub clock : x.clock ≡ client_clock t.world x.client
  pub sent : x.sent ≡ length t.world.net.messages
  pub own : (node : ServerNode) → node_of sc.world x.server ≡ Some node → (u : Suspect) → Has u node.state.authority.suspects → u.client ≡ x.client →
      u.start ≡ start

-- What an event did.
pub record Next (t : Traced) (e : Event) (sc : WorldTurn) : Type 0 where
  pub old : (m : Message) → Has m (messages t.world) → Has m (messages sc.world)
  pub new : (m : Message) → Has m (messages sc.world) → Has m (messages t.world) ⊎ New t sc m
  pub clients : (c : ClientId) (site : WorldClient) → site_of sc.world c ≡ Some site → ClientDated (messages sc.world) c site.node.state
  pub servers : (s : ServerId) (node : ServerNode) → node_of sc.world s ≡ Some node → ServerKnown s node.state
  pub timers : (x : TimerStart) → Has x (history_after t.world e sc t.history).timers → TimerQuiet sc.world x
  pub started : (x : TimerStart) → Has x (history_after t.world e sc t.history).timers → Stays t sc x ⊎ Starts t sc x
  pub timed : (s : ServerId) (node : ServerNode) → node_of sc.world s ≡ Some node → node.running ≡ true →
      Timed (history_after t.world e sc t.history).timers s node.state
  pub few : length sc.world.clients ≤ 16

pub next_dated : (past : List Step) (t : Traced) (e : Event) (sc : WorldTurn) → Dated past t → Next t e sc →
    Dated (past ++ step t e sc ∷ []) (traced_after e t sc)
next_dated past t e sc d n =
    record {
      born = λ m h f r. born m (n.new m h) f r;
      answered = λ m h f r. grown m (answered m (n.new m h) f r);
      clients = n.clients;
      servers = n.servers;
      timers = n.timers;
      started = λ x h. started x (n.started x h);
      timed = n.timed;
      few = n.few;
    }
  where
    started : (x : TimerStart) → Stays t sc x ⊎ Starts t sc x → Started (past ++ step t e sc ∷ []) sc.world x
    started x (inl r) =
        let z = d.started x r.was in
        record {
          at = z.at;
          among = has_left past _ z.at z.among;
          start = z.start;
          noted = z.noted;
          clock = z.clock;
          sent = z.sent;
          own = λ node i u h f. let o = r.own node i u h f in z.own o.0 o.1 u o.2 f;
        }
    started x (inr r) =
        record { at = step t e sc; among = has_right past _ _ (inl refl); start = r.start; noted = r.noted; clock = r.clock; sent = r.sent; own = r.own }

    born : (m : Message) → Has m (messages t.world) ⊎ New t sc m → is_from_client m ≡ true → dating.is_request m.body ≡ true → Born (past ++ step t e sc ∷ []) m
    born m (inl h) f r = let z = d.born m h f r in record { at = z.at; among = has_left past _ z.at z.among; number = z.number; sent = z.sent; stamp = z.stamp }
    born m (inr z) f r = record { at = step t e sc; among = has_right past _ _ (inl refl); number = z.number; sent = z.sent; stamp = z.client f r }

    answered : (m : Message) → Has m (messages t.world) ⊎ New t sc m → is_from_client m ≡ false → is_dating m ≡ true → Answer (messages t.world) m
    answered m (inl h) f r = d.answered m h f r
    answered m (inr z) f r = z.server f r

    grown : (m : Message) → Answer (messages t.world) m → Answer (messages sc.world) m
    grown m a = record { asked = a.asked; among = n.old a.asked a.among; client = a.client; request = a.request; reply = a.reply }

-- An event that leaves nodes and messages, and whose observations move no timer.
pub record Still (t : Traced) (e : Event) (sc : WorldTurn) : Type 0 where
  pub clients : sc.world.clients ≡ t.world.clients
  pub servers : sc.world.servers ≡ t.world.servers
  pub same : messages sc.world ≡ messages t.world
  pub timers : (x : TimerStart) → Has x (history_after t.world e sc t.history).timers → Has x t.history.timers
  pub kept : (s : ServerId) (node : ServerNode) → node_of t.world s ≡ Some node → (c : ClientId) → TimerOf t.history.timers s c →
      TimerOf (history_after t.world e sc t.history).timers s c

timer_same : (w v : World) (x : TimerStart) → node_of v x.server ≡ node_of w x.server → messages v ≡ messages w → TimerQuiet w x → TimerQuiet v x
timer_same w v x n m q =
    record { node = q.node; is = n ∙ q.is; running = q.running; on = q.on; quiet = λ k y e. q.quiet k y (ap (λ z. numbered z k) (sym m) ∙ e) }

pub still : (past : List Step) (t : Traced) (e : Event) (sc : WorldTurn) → Dated past t → Still t e sc → Next t e sc
still past t e sc d s =
    record {
      old = λ m h. subst (Has m) (sym s.same) h;
      new = λ m h. inl (subst (Has m) s.same h);
      clients = λ c site q. subst (λ ms. ClientDated ms c site.node.state) (sym s.same) (d.clients c site (ap (λ z. numbered z c.0) (sym s.clients) ∙ q));
      servers = λ v node q. d.servers v node (ap (λ z. numbered z v.0) (sym s.servers) ∙ q);
      timers = λ x h. timer_same t.world sc.world x (ap (λ z. numbered z x.server.0) s.servers) s.same (d.timers x (s.timers x h));
      started = λ x h. inl (record { was = s.timers x h; own = λ node q u i f. (node, ap (λ z. numbered z x.server.0) (sym s.servers) ∙ q, i) });
      timed = λ v node q run c z. let at = ap (λ z. numbered z v.0) (sym s.servers) ∙ q in s.kept v node at c (d.timed v node at run c z);
      few = subst (λ z. length z ≤ 16) (sym s.clients) d.few;
    }

-- timers that stay if an event's observations move none
same_timers : (t : Traced) (e : Event) (sc : WorldTurn) → (remember t.world e t.history).timers ≡ t.history.timers → AllCalm sc.seen →
    (history_after t.world e sc t.history).timers ≡ t.history.timers
same_timers t e sc r k = calm_timers t.world sc.world sc.seen (remember t.world e t.history) k ∙ r

stays : (t : Traced) (e : Event) (sc : WorldTurn) → (history_after t.world e sc t.history).timers ≡ t.history.timers → (x : TimerStart) →
    Has x (history_after t.world e sc t.history).timers → Has x t.history.timers
stays t e sc q x h = subst (Has x) q h

remains : (t : Traced) (e : Event) (sc : WorldTurn) → (history_after t.world e sc t.history).timers ≡ t.history.timers → (s : ServerId) (c : ClientId) →
    TimerOf t.history.timers s c →
    TimerOf (history_after t.world e sc t.history).timers s c
remains t e sc q s c z = subst (λ us. TimerOf us s c) (sym q) z

no_calm : AllCalm []
no_calm o h = elim h [ ]

-- A step of a client.
module _ (past : List Step) (t : Traced) (e : Event) (d : Dated past t) (r : (remember t.world e t.history).timers ≡ t.history.timers) where
  client_ok : (v : World) → v.clients ≡ t.world.clients → v.servers ≡ t.world.servers → v.net ≡ t.world.net → (c : ClientId) →
      clock_of v (nodes.Client c) ≡ clock_of t.world (nodes.Client c) → (i : ClientInput) (site old : WorldClient) → site.node ≡ old.node →
      site_of t.world c ≡ Some old → Comes (messages t.world) c (clock_of v (nodes.Client c)) Ever ever_on i →
      Next t e (ev.client_takes v c i site)
  unfolding ev.client_takes ev.client_took cl.node_step
  client_ok v cs ss net c clock i site old same at k = go site.node.running
    where
      now : Stamp
      now = clock_of v (nodes.Client c)

      few : c.0 ≤ 16
      few = let z = (numbered_below t.world.clients c.0 old at).1 in let y = d.few in omega (arith, z, y)

      held : Held (messages t.world) c now Ever ever_on (cl.client_step site.node.state now i)
      held = step_held (messages t.world) c now Ever ever_on site.node.state i k
          (subst (λ (n : cl.ClientNode). ClientDated (messages t.world) c n.state) (sym same) (d.clients c old at)) (λ a h. tt)

      u : Rattle.st_rules.specs.ClientState.ClientTurn
      u = cl.client_step site.node.state now i

      node : cl.ClientNode
      node = record site.node { state = u.state }

      a : WorldTurn
      a = ev.quiet (ev.with_site c (ev.at_node node site) v)

      b : WorldTurn
      b = ev.client_says_all c site.node.state u.out a

      said : Said a b u.out
      said = client_said c site.node.state u.out a

      last : World
      last = ev.flushes c node.state (world.all_servers b.world) b.world

      before : messages a.world ≡ messages t.world
      before = ap (λ (n : world.Net). map message_in n.messages) net

      l : Leaves (messages t.world) a.world last u.out
      l = client_leaves (messages t.world) c site.node.state node.state u.out a before

      stamped : (m : Message) → AsksNow (messages t.world) c now Ever m → is_from_client m ≡ true → dating.is_request m.body ≡ true →
          is_stamped_by t.world m ≡ true
      stamped m z from req =
          eq-eqb _ _ (ap (λ n. (clock_of t.world (nodes.Client (client n))).0) z.from ∙ ap (λ (y : Stamp). y.0) (sym clock) ∙ sym (z.stamp req))

      new_one : (m : Message) → Has (outputs.Send m) u.out → New t (Rattle.st_rules.specs.Events.world_turn last b.seen) m
      new_one m h = let z = said.told m h in
          record { number = z.0; sent = z.1; client = stamped m (held.outs m h); server = λ g q. absurd (below_client m c (held.outs m h).from few g) }

      site_at : (x : ClientId) (y : WorldClient) → site_of last x ≡ Some y →
          ((x.0 ≡ c.0) × (y ≡ ev.at_node node site)) ⊎ ((x.0 ≢ c.0) × (site_of t.world x ≡ Some y))
      site_at x y q = set_cases t.world.clients c.0 x.0 old (ev.at_node node site) y at
          (ap (λ z. numbered (with_numbered c.0 (ev.at_node node site) z) x.0) (sym cs) ∙ ap (λ z. numbered z x.0) (sym l.clients) ∙ q)

      taken : Next t e (Rattle.st_rules.specs.Events.world_turn last b.seen)
      taken =
          record {
            old = l.old;
            new = λ m h. let z = has_numbered (messages last) m h in pick m z.0 (l.get z.0 m z.1);
            clients = λ x y q. dated x y (site_at x y q);
            servers = λ s n q. d.servers s n (ap (λ z. numbered z s.0) (sym ss) ∙ ap (λ z. numbered z s.0) (sym l.servers) ∙ q);
            timers = λ x h. quiet x (d.timers x (stays t e (Rattle.st_rules.specs.Events.world_turn last b.seen) timers x h));
            started = λ x h. inl (record {
              was = stays t e (Rattle.st_rules.specs.Events.world_turn last b.seen) timers x h;
              own = λ n q k i f. (n, ap (λ z. numbered z x.server.0) (sym ss) ∙ ap (λ z. numbered z x.server.0) (sym l.servers) ∙ q, i);
            });
            timed = λ s n q run k z. remains t e (Rattle.st_rules.specs.Events.world_turn last b.seen) timers s k
                (d.timed s n (ap (λ z. numbered z s.0) (sym ss) ∙ ap (λ z. numbered z s.0) (sym l.servers) ∙ q) run k z);
            few = subst (λ z. length z ≤ 16) (sym l.clients)
                (let z = set_length v.clients (Rattle.std.specs.Prelude.pred c.0) (ev.at_node node site) in let y = d.few in let q = ap length cs in
                omega (arith, z, y, q));
          }
        where
          timers : (history_after t.world e (Rattle.st_rules.specs.Events.world_turn last b.seen) t.history).timers ≡ t.history.timers
          timers = same_timers t e (Rattle.st_rules.specs.Events.world_turn last b.seen) r (client_calm c site.node.state u.out a no_calm)

          pick : (m : Message) (k : ℕ) → (numbered (messages t.world) k ≡ Some m) ⊎ Has (outputs.Send m) u.out →
              Has m (messages t.world) ⊎ New t (Rattle.st_rules.specs.Events.world_turn last b.seen) m
          pick m k (inl z) = inl (numbered_has (messages t.world) k m z)
          pick m k (inr z) = inr (new_one m z)

          dated : (x : ClientId) (y : WorldClient) → ((x.0 ≡ c.0) × (y ≡ ev.at_node node site)) ⊎ ((x.0 ≢ c.0) × (site_of t.world x ≡ Some y)) →
              ClientDated (messages last) x y.node.state
          dated x y (inl z) = subst (λ (k : WorldClient). ClientDated (messages last) x k.node.state) (sym z.1)
              (subst (λ n. ClientDated (messages last) (record { 0 = n }) u.state) (sym z.0)
              (dates_more (messages t.world) (messages last) l.old c u.state (record { id = held.id_; all = λ a h. (held.all a h).0 })))
          dated x y (inr z) = dates_more (messages t.world) (messages last) l.old x y.node.state (d.clients x y z.1)

          quiet : (x : TimerStart) → TimerQuiet t.world x → TimerQuiet last x
          quiet x q =
              record {
                node = q.node;
                is = ap (λ z. numbered z x.server.0) (l.servers ∙ ss) ∙ q.is;
                running = q.running;
                on = q.on;
                quiet =
                    λ k m g from to dates. at_most k m from to dates (l.get k m g);
              }
            where
              at_most : (k : ℕ) (m : Message) → m.header.from ≡ server_node x.server → m.header.to ≡ x.client.0 → is_dating m ≡ true →
                  (numbered (messages t.world) k ≡ Some m) ⊎ Has (outputs.Send m) u.out → k ≤ x.sent
              at_most k m from to dates (inl z) = q.quiet k m z from to dates
              at_most k m from to dates (inr z) = absurd (server_not_client c.0 x.server.0 few (sym (held.outs m z).from ∙ from))

      go : (b : Bool) → Next t e (ev.client_took v c site (if b then Ok (cl.node_turn site.node u) else Err Crashed))
      go true = taken
      go false =
          still past t e (ev.quiet v) d
          (record {
            clients = cs;
            servers = ss;
            same = before;
            timers = stays t e (ev.quiet v) (same_timers t e (ev.quiet v) r no_calm);
            kept =
                λ s n q c z. remains t e (ev.quiet v) (same_timers t e (ev.quiet v) r no_calm) s c z;
          })

-- A step of a server.
module _ (w : World) (s : ServerId) (ts : List TimerStart) where
  abbrev From : TimerStart → Type 0
  From x = Has x ts ⊎ ((x.server ≡ s) × (x.sent ≡ length w.net.messages))

  timer_new : (n : Note) (us : List TimerStart) → ((x : TimerStart) → Has x us → From x) → (x : TimerStart) → Has x (timer_noted w s n us) → From x
  timer_new (notes.Suspected c start) us f x h = go (has_append us _ x h)
    where
      go : Has x us ⊎ Has x (timer_start w s c ∷ []) → From x
      go (inl i) = f x i
      go (inr (inl q)) = inr (ap (λ (y : TimerStart). y.server) q, ap (λ (y : TimerStart). y.sent) q)
      go (inr (inr i)) = elim i [ ]
  timer_new (notes.Stolen c life) us f x h = f x (has_filter _ us x h).0
  timer_new n us f x h = f x h

  timer_of : (o : Output) (us : List TimerStart) → ((x : TimerStart) → Has x us → From x) → (x : TimerStart) → Has x (timer_said w s o us) → From x
  timer_of (outputs.Note n) us f x h = timer_new n us f x h
  timer_of o us f x h = f x h

  timers_from : (os : List Output) (us : List TimerStart) → ((x : TimerStart) → Has x us → From x) → (x : TimerStart) → Has x (timers_out w s os us) → From x
  timers_from [] us f x h = f x h
  timers_from (o ∷ os) us f x h = timers_from os (timer_said w s o us) (timer_of o us f) x h

  -- and the timers at other servers stay
  other_noted : (n : Note) (us : List TimerStart) (x : TimerStart) → (x.server.0 ≡ s.0 → ⊥) → Has x us → Has x (timer_noted w s n us)
  other_noted (notes.Suspected c start) us x o h = has_left us _ x h
  other_noted (notes.Stolen c life) us x o h = has_filter_in (λ t. not (is_timer_of s c t)) us x h (at (is_timer_of s c x) refl)
    where
      at : (b : Bool) → is_timer_of s c x ≡ b → not (is_timer_of s c x) ≡ true
      at true q = absurd (o (eqb-true _ _ (and_true (x.server.0 == s.0) _ q).0))
      at false q = ap not q
  other_noted n us x o h = h

  other_said : (o : Output) (us : List TimerStart) (x : TimerStart) → (x.server.0 ≡ s.0 → ⊥) → Has x us → Has x (timer_said w s o us)
  other_said (outputs.Note n) us x q h = other_noted n us x q h
  other_said o us x q h = h

  other_timer : (os : List Output) (us : List TimerStart) (x : TimerStart) → (x.server.0 ≡ s.0 → ⊥) → Has x us → Has x (timers_out w s os us)
  other_timer [] us x q h = h
  other_timer (o ∷ os) us x q h = other_timer os (timer_said w s o us) x q (other_said o us x q h)

-- a server's message that is an input is one of these
abbrev ComesTo : List Message → ServerInput → Type 0
ComesTo ms serving.Tick = Unit {0}
ComesTo ms (serving.Control q) = Has q ms

module _ (past : List Step) (t : Traced) (e : Event) (d : Dated past t) (r : (remember t.world e t.history).timers ≡ t.history.timers) where
  server_ok : (s : ServerId) (i : ServerInput) (node : ServerNode) → node_of t.world s ≡ Some node → ComesTo (messages t.world) i →
      Next t e (ev.server_takes (ev.counted t.world) s i node)
  unfolding ev.server_takes ev.server_took server.node_step
  server_ok s i node at k = go node.running refl
    where
      now : Stamp
      now = clock_of (ev.counted t.world) (nodes.Server s)

      u : server.ServerTurn
      u = server.server_step node.state now i

      next : ServerNode
      next = record node { state = u.state }

      a : WorldTurn
      a = ev.quiet (ev.with_node s next (ev.counted t.world))

      b : WorldTurn
      b = ev.server_says_all s u.out a

      same_node : (x : ServerId) (n : ServerNode) → x.0 ≡ s.0 → node_of t.world x ≡ Some n → n ≡ node
      same_node x n q h = some_is (sym h ∙ ap (numbered t.world.servers) q ∙ at)

      good : node.running ≡ true → P t.world s t.history.timers node.state.authority now (AnswersTo i) u
      good running = step_good t.world s t.history.timers node.state now i (d.servers s node at)
          (λ x h q. let z = d.timers x h in subst (λ (n : ServerNode). Runs n.state.authority x.client) (same_node x.server z.node q z.is) z.on)
          (d.timed s node at running)

      said : Said a b u.out
      said = server_said s u.out a

      timers : (history_after t.world e b t.history).timers ≡ timers_out t.world s u.out t.history.timers
      timers = timers_said t.world b.world s (remember t.world e t.history) u.out a ∙ ap (timers_out t.world s u.out) (begun ∙ r)
        where
          begun : (recall_all t.world b.world [] (remember t.world e t.history)).timers ≡ (remember t.world e t.history).timers
          begun = calm_timers t.world b.world [] (remember t.world e t.history) no_calm

      answer : (j : ServerInput) (m : Message) → ComesTo (messages t.world) j → AnswersTo j m → Answer (messages t.world) m
      answer serving.Tick m k z = elim z [ ]
      answer (serving.Control q) m k z = record { asked = q; among = k; client = z.client; request = z.request; reply = z.reply }

      new_one : node.running ≡ true → (m : Message) → Has (outputs.Send m) u.out → New t b m
      new_one running m h =
          let z = said.told m h in let o = (good running).outs m h in
          record { number = z.0; sent = z.1; client = λ f q. absurd (from_server m s o.from f); server = λ f q. answer i m k (o.dates q) }

      node_at : (x : ServerId) (n : ServerNode) → node_of b.world x ≡ Some n → ((x.0 ≡ s.0) × (n ≡ next)) ⊎ ((x.0 ≢ s.0) × (node_of t.world x ≡ Some n))
      node_at x n q = set_cases t.world.servers s.0 x.0 node next n at (ap (λ z. numbered z x.0) (sym said.servers) ∙ q)

      known : node.running ≡ true → ServerKnown s u.state
      known running = let g = good running in record { id = g.id_; suspects = g.suspects; one = g.one; locks = g.known }

      taken : node.running ≡ true → Next t e b
      taken running =
          record {
            old = said.old;
            new = λ m h. let z = has_numbered (messages b.world) m h in pick m z.0 (said.get z.0 m z.1);
            clients = λ x y q. dates_more (messages t.world) (messages b.world) said.old x y.node.state
                (d.clients x y (ap (λ z. numbered z x.0) (sym said.clients) ∙ q));
            servers = λ x n q. it x n (node_at x n q);
            timed = λ x n q run c z. again x n c run z (node_at x n q);
            timers = λ x h. let y = subst (Has x) timers h in
                quiet x y (timers_from t.world s t.history.timers u.out t.history.timers (λ z j. inl j) x y) (same_or_not x.server.0 s.0);
            started = λ x h. let y = subst (Has x) timers h in
                begun x y (timers_from t.world s t.history.timers u.out t.history.timers (λ z j. inl j) x y) (same_or_not x.server.0 s.0);
            few = subst (λ z. length z ≤ 16) (sym said.clients) d.few;
          }
        where
          pick : (m : Message) (k : ℕ) → (numbered (messages t.world) k ≡ Some m) ⊎ Has (outputs.Send m) u.out → Has m (messages t.world) ⊎ New t b m
          pick m k (inl z) = inl (numbered_has (messages t.world) k m z)
          pick m k (inr z) = inr (new_one running m z)

          again : (x : ServerId) (n : ServerNode) (c : ClientId) → n.running ≡ true → Runs n.state.authority c →
              ((x.0 ≡ s.0) × (n ≡ next)) ⊎ ((x.0 ≢ s.0) × (node_of t.world x ≡ Some n)) →
              TimerOf (history_after t.world e b t.history).timers x c
          again x n c run z (inl y) =
              subst (λ us. TimerOf us x c) (sym timers)
              (subst (λ v. TimerOf (timers_out t.world s u.out t.history.timers) (record { 0 = v }) c) (sym y.0)
              ((good running).timed c (subst (λ (m : ServerNode). Runs m.state.authority c) y.1 z)))
          again x n c run z (inr y) =
              let x0 = d.timed x n y.1 run c z in
              subst (λ us. TimerOf us x c) (sym timers)
              (record {
                timer = x0.timer;
                among = other_timer t.world s t.history.timers u.out t.history.timers x0.timer
                    (λ q. y.0 (sym (eqb-true _ _ (and_true (x0.timer.server.0 == x.0) _ x0.is).0) ∙ q)) x0.among;
                is = x0.is;
              })

          it : (x : ServerId) (n : ServerNode) → ((x.0 ≡ s.0) × (n ≡ next)) ⊎ ((x.0 ≢ s.0) × (node_of t.world x ≡ Some n)) → ServerKnown x n.state
          it x n (inl z) = subst (λ (y : ServerNode). ServerKnown x y.state) (sym z.1)
              (subst (λ y. ServerKnown (record { 0 = y }) u.state) (sym z.0) (known running))
          it x n (inr z) = d.servers x n z.1

          -- a timer of this server was there, or starts; those of others were there
          begun : (x : TimerStart) → Has x (timers_out t.world s u.out t.history.timers) → From t.world s t.history.timers x →
              (x.server.0 ≡ s.0) ⊎ (x.server.0 ≢ s.0) → Stays t b x ⊎ Starts t b x
          begun x h f (inl q) = since ((good running).since x h q)
            where
              here : (n : ServerNode) → ((x.server.0 ≡ s.0) × (n ≡ next)) ⊎ ((x.server.0 ≢ s.0) × (node_of t.world x.server ≡ Some n)) → n ≡ next
              here n (inl z) = z.1
              here n (inr z) = absurd (z.0 q)

              own : (n : ServerNode) → node_of b.world x.server ≡ Some n → (v : Suspect) → Has v n.state.authority.suspects → Has v u.state.authority.suspects
              own n j v i = subst (λ (m : ServerNode). Has v m.state.authority.suspects) (here n (node_at x.server n j)) i

              since : Since t.world s t.history.timers node.state.authority now (AnswersTo i) u.state.authority u.out x → Stays t b x ⊎ Starts t b x
              since (inl z) = inl (record { was = z.0; own = λ n j v k g. (node, ap (numbered t.world.servers) q ∙ at, z.1 v (own n j v k) g) })
              since (inr z) =
                  inr (record {
                    start = now;
                    noted = subst (λ r. Has (seen.Suspected r x.client now) b.seen) (sym (ap (λ (y : TimerStart). y.server) z.is))
                        (suspicion_seen s x.client now u.out a z.noted);
                    clock = ap (λ (y : TimerStart). y.clock) z.is;
                    sent = ap (λ (y : TimerStart). y.sent) z.is;
                    own = λ n j v k g. z.start v (own n j v k) g;
                  })
          begun x h (inr f) (inr q) = absurd (q (ap (λ (y : ServerId). y.0) f.0))
          begun x h (inl j) (inr q) = inl (record { was = j; own = λ n k v i g. (n, there n (node_at x.server n k), i) })
            where
              there : (n : ServerNode) → ((x.server.0 ≡ s.0) × (n ≡ next)) ⊎ ((x.server.0 ≢ s.0) × (node_of t.world x.server ≡ Some n)) →
                  node_of t.world x.server ≡ Some n
              there n (inl z) = absurd (q z.0)
              there n (inr z) = z.1

          quiet : (x : TimerStart) → Has x (timers_out t.world s u.out t.history.timers) → From t.world s t.history.timers x →
              (x.server.0 ≡ s.0) ⊎ (x.server.0 ≢ s.0) → TimerQuiet b.world x
          quiet x h f (inl q) =
              record {
                node = next;
                is = ap (λ z. numbered z x.server.0) said.servers ∙ ap (numbered (with_numbered s.0 next t.world.servers)) q ∙
                    numbered_own t.world.servers s.0 next node at;
                running = running;
                on = (good running).on x h q;
                quiet = λ k m g from to dates. at_most k m f from to dates (said.get k m g);
              }
            where
              at_most : (k : ℕ) (m : Message) → From t.world s t.history.timers x → m.header.from ≡ server_node x.server → m.header.to ≡ x.client.0 →
                  is_dating m ≡ true → (numbered (messages t.world) k ≡ Some m) ⊎ Has (outputs.Send m) u.out → k ≤ x.sent
              at_most k m (inl j) from to dates (inl z) = (d.timers x j).quiet k m z from to dates
              at_most k m (inr j) from to dates (inl z) = let y = (numbered_below (messages t.world) k m z).1 in
                  let l = length_map message_in t.world.net.messages in let n = j.1 in omega (arith, y, l, n)
              at_most k m j from to dates (inr z) = absurd ((good running).quiet x h q m z to dates)
          quiet x h (inr f) (inr q) = absurd (q (ap (λ (y : ServerId). y.0) f.0))
          quiet x h (inl j) (inr q) =
              let y = d.timers x j in
              record {
                node = y.node;
                is = ap (λ z. numbered z x.server.0) said.servers ∙
                    numbered_other t.world.servers s.0 x.server.0 next (numbered_below t.world.servers s.0 node at).0 q ∙ y.is;
                running = y.running;
                on = y.on;
                quiet = λ k m g from to dates. at_most k m from to dates (said.get k m g);
              }
            where
              other : (m : Message) → Has (outputs.Send m) u.out → m.header.from ≡ server_node x.server → ⊥
              other m z from = q (let y = ((good running).outs m z).from in omega (arith, y, from))

              at_most : (k : ℕ) (m : Message) → m.header.from ≡ server_node x.server → m.header.to ≡ x.client.0 → is_dating m ≡ true →
                  (numbered (messages t.world) k ≡ Some m) ⊎ Has (outputs.Send m) u.out → k ≤ x.sent
              at_most k m from to dates (inl z) = (d.timers x j).quiet k m z from to dates
              at_most k m from to dates (inr z) = absurd (other m z from)

      go : (b : Bool) → node.running ≡ b → Next t e (ev.server_took (ev.counted t.world) s (if b then Ok (server.node_turn node u) else Err Crashed))
      go true q = taken q
      go false q = still past t e (ev.quiet (ev.counted t.world)) d (record {
        clients = refl;
        servers = refl;
        same = refl;
        timers = stays t e (ev.quiet (ev.counted t.world)) (same_timers t e (ev.quiet (ev.counted t.world)) r no_calm);
        kept = λ s n q c z. remains t e (ev.quiet (ev.counted t.world)) (same_timers t e (ev.quiet (ev.counted t.world)) r no_calm) s c z;
      })

-- A client or a server at its place is replaced, and no message is sent.
module _ (past : List Step) (t : Traced) (e : Event) (d : Dated past t) where
  client_placed : (c : ClientId) (old new : WorldClient) (sc : WorldTurn) → site_of t.world c ≡ Some old →
      sc.world.clients ≡ with_numbered c.0 new t.world.clients → sc.world.servers ≡ t.world.servers → messages sc.world ≡ messages t.world →
      ClientDated (messages t.world) c new.node.state →
      (history_after t.world e sc t.history).timers ≡ t.history.timers → Next t e sc
  client_placed c old new sc at cs ss ms k ts =
      record {
        old = λ m h. subst (Has m) (sym ms) h;
        new = λ m h. inl (subst (Has m) ms h);
        clients = λ x y q. subst (λ l. ClientDated l x y.node.state) (sym ms)
            (it x y (set_cases t.world.clients c.0 x.0 old new y at (ap (λ z. numbered z x.0) (sym cs) ∙ q)));
        servers = λ v node q. d.servers v node (ap (λ z. numbered z v.0) (sym ss) ∙ q);
        timers = λ x h. timer_same t.world sc.world x (ap (λ z. numbered z x.server.0) ss) ms (d.timers x (stays t e sc ts x h));
        started = λ x h. inl (record { was = stays t e sc ts x h; own = λ n q u i f. (n, ap (λ z. numbered z x.server.0) (sym ss) ∙ q, i) });
        timed = λ v node q run k z. remains t e sc ts v k (d.timed v node (ap (λ z. numbered z v.0) (sym ss) ∙ q) run k z);
        few = subst (λ z. length z ≤ 16) (sym cs)
            (let z = set_length t.world.clients (Rattle.std.specs.Prelude.pred c.0) new in let y = d.few in omega (arith, z, y));
      }
    where
      it : (x : ClientId) (y : WorldClient) → ((x.0 ≡ c.0) × (y ≡ new)) ⊎ ((x.0 ≢ c.0) × (site_of t.world x ≡ Some y)) →
          ClientDated (messages t.world) x y.node.state
      it x y (inl z) = subst (λ (n : WorldClient). ClientDated (messages t.world) x n.node.state) (sym z.1)
          (subst (λ n. ClientDated (messages t.world) (record { 0 = n }) new.node.state) (sym z.0) k)
      it x y (inr z) = d.clients x y z.1

  server_placed : (s : ServerId) (old new : ServerNode) (sc : WorldTurn) → node_of t.world s ≡ Some old →
      sc.world.servers ≡ with_numbered s.0 new t.world.servers → sc.world.clients ≡ t.world.clients → messages sc.world ≡ messages t.world →
      ServerKnown s new.state →
      ((x : TimerStart) → Has x (history_after t.world e sc t.history).timers → Has x t.history.timers × (x.server.0 ≢ s.0)) →
      ((x : TimerStart) → Has x t.history.timers → x.server.0 ≢ s.0 → Has x (history_after t.world e sc t.history).timers) →
      (new.running ≡ true → (c : ClientId) → Runs new.state.authority c → ⊥) → Next t e sc
  server_placed s old new sc at ss cs ms k ts keeps none =
      record {
        old = λ m h. subst (Has m) (sym ms) h;
        new = λ m h. inl (subst (Has m) ms h);
        clients = λ x y q. subst (λ l. ClientDated l x y.node.state) (sym ms) (d.clients x y (ap (λ z. numbered z x.0) (sym cs) ∙ q));
        servers = λ x n q. it x n (set_cases t.world.servers s.0 x.0 old new n at (ap (λ z. numbered z x.0) (sym ss) ∙ q));
        timers = λ x h. let z = ts x h in timer_same t.world sc.world x
            (ap (λ z. numbered z x.server.0) ss ∙ numbered_other t.world.servers s.0 x.server.0 new (numbered_below t.world.servers s.0 old at).0 z.1) ms
            (d.timers x z.0);
        started = λ x h. let z = ts x h in
            inl (record {
              was = z.0;
              own =
                  λ n q u i f. (n, there x n z.1 (set_cases t.world.servers s.0 x.server.0 old new n at (ap (λ y. numbered y x.server.0) (sym ss) ∙ q)), i);
            });
        timed = λ x n q run c z. again x n c run z (set_cases t.world.servers s.0 x.0 old new n at (ap (λ z. numbered z x.0) (sym ss) ∙ q));
        few = subst (λ z. length z ≤ 16) (sym cs) d.few;
      }
    where
      there : (x : TimerStart) (n : ServerNode) → x.server.0 ≢ s.0 →
          ((x.server.0 ≡ s.0) × (n ≡ new)) ⊎ ((x.server.0 ≢ s.0) × (node_of t.world x.server ≡ Some n)) → node_of t.world x.server ≡ Some n
      there x n o (inl z) = absurd (o z.0)
      there x n o (inr z) = z.1

      again : (x : ServerId) (n : ServerNode) (c : ClientId) → n.running ≡ true → Runs n.state.authority c →
          ((x.0 ≡ s.0) × (n ≡ new)) ⊎ ((x.0 ≢ s.0) × (node_of t.world x ≡ Some n)) →
          TimerOf (history_after t.world e sc t.history).timers x c
      again x n c run z (inl y) =
          absurd (none (ap (λ (m : ServerNode). m.running) (sym y.1) ∙ run) c (subst (λ (m : ServerNode). Runs m.state.authority c) y.1 z))
      again x n c run z (inr y) =
          let x0 = d.timed x n y.1 run c z in
          record {
            timer = x0.timer;
            among = keeps x0.timer x0.among (λ q. y.0 (sym (eqb-true _ _ (and_true (x0.timer.server.0 == x.0) _ x0.is).0) ∙ q));
            is =
                x0.is;
          }

      it : (x : ServerId) (n : ServerNode) → ((x.0 ≡ s.0) × (n ≡ new)) ⊎ ((x.0 ≢ s.0) × (node_of t.world x ≡ Some n)) → ServerKnown x n.state
      it x n (inl z) = subst (λ (y : ServerNode). ServerKnown x y.state) (sym z.1) (subst (λ y. ServerKnown (record { 0 = y }) new.state) (sym z.0) k)
      it x n (inr z) = d.servers x n z.1

-- the sessions of a client that crashed or started are none
crashed_dated : (ms : List Message) (c : ClientId) (x : ClientState) → x.id ≡ c → ClientDated ms c (cl.crash x)
unfolding cl.crash
crashed_dated ms c x e = record { id = e; all = λ a h. let z = has_map cl.crashed_association x.associations a h in subst (AssociationDated ms c) (sym z.2) tt }

started_dated : (ms : List Message) (c : ClientId) (x : ClientState) → x.id ≡ c → ClientDated ms c (cl.start x)
unfolding cl.start
started_dated ms c x e = record { id = e; all = λ a h. let z = has_map cl.started_association x.associations a h in subst (AssociationDated ms c) (sym z.2) tt }

crashed_known : (s : ServerId) (n : server.ServerState) → n.id ≡ s → ServerKnown s (server.crash n)
unfolding server.crash
crashed_known s n e =
    record { id = e; suspects = λ x h. elim h [ ]; one = λ x y h. elim h [ ]; locks = record { rows = λ r h. elim h [ ]; waits = λ x h. elim h [ ] } }

started_known : (s : ServerId) (n : server.ServerState) (now : Stamp) → n.id ≡ s → ServerKnown s (server.start n now)
unfolding server.start server.begin_epoch
started_known s n now e =
    record { id = e; suspects = λ x h. elim h [ ]; one = λ x y h. elim h [ ]; locks = record { rows = λ r h. elim h [ ]; waits = λ x h. elim h [ ] } }

-- a server that starts has no timers
started_quiet : (n : server.ServerState) (now : Stamp) (c : ClientId) → Runs (server.start n now).authority c → ⊥
unfolding server.start server.begin_epoch
started_quiet n now c z = cc

-- a node that starts does not run
not_running : (w : World) (n : NodeId) → adm.refusal w (events.Start n) ≡ None → world.is_running w n ≡ false
unfolding adm.refusal adm.stands
not_running w n h = go (world.is_running w n) (or (adm.no_node w n) h)
  where
    or : (a : Option WorldRefusal) → option_or a (adm.still_running w n) ≡ None → adm.still_running w n ≡ None
    or None e = e
    or (Some x) e = cc

    go : (b : Bool) → (if b then Some (Rattle.st_rules.specs.declared.observation.WorldRefusal.TheVariants.Running n) else None) ≡ None → b ≡ false
    go true e = cc
    go false e = refl

-- Every event.
module _ (past : List Step) (t : Traced) (d : Dated past t) where
  abbrev w : World
  w = ev.counted t.world

  nothing : (e : Event) → (remember t.world e t.history).timers ≡ t.history.timers → (v : World) (os : List Observation) → v.clients ≡ t.world.clients →
      v.servers ≡ t.world.servers → messages v ≡ messages t.world → AllCalm os → Next t e (ev.world_turn v os)
  nothing e r v os cs ss ms k = still past t e (ev.world_turn v os) d (record {
    clients = cs;
    servers = ss;
    same = ms;
    timers = stays t e (ev.world_turn v os) (same_timers t e (ev.world_turn v os) r k);
    kept = λ s n q c z. remains t e (ev.world_turn v os) (same_timers t e (ev.world_turn v os) r k) s c z;
  })

  at_client : (e : Event) → (remember t.world e t.history).timers ≡ t.history.timers → (c : ClientId) (i : ClientInput) →
      Comes (messages t.world) c (clock_of w (nodes.Client c)) Ever ever_on i → Next t e (ev.at_client w c i (site_of w c))
  unfolding ev.at_client
  at_client e r c i k = go (site_of w c) refl
    where
      go : (o : Option WorldClient) → site_of w c ≡ o → Next t e (ev.at_client w c i o)
      go None q = nothing e r w [] refl refl refl no_calm
      go (Some site) q = client_ok past t e d r w refl refl refl c refl i site site refl q k

  at_server : (e : Event) → (remember t.world e t.history).timers ≡ t.history.timers → (s : ServerId) (i : ServerInput) → ComesTo (messages t.world) i →
      Next t e (ev.at_server w s i (node_of w s))
  unfolding ev.at_server
  at_server e r s i k = go (node_of w s) refl
    where
      go : (o : Option ServerNode) → node_of w s ≡ o → Next t e (ev.at_server w s i o)
      go None q = nothing e r w [] refl refl refl no_calm
      go (Some node) q = server_ok past t e d r s i node q k

  asks : (c : ClientId) (ask : Ask) → Next t (events.App c ask) (ev.asks_at w c ask (site_of w c))
  unfolding ev.asks_at remember
  asks c ask = go (site_of w c) refl
    where
      go : (o : Option WorldClient) → site_of w c ≡ o → Next t (events.App c ask) (ev.asks_at w c ask o)
      go None q = nothing (events.App c ask) refl w [] refl refl refl no_calm
      go (Some site) q = client_ok past t (events.App c ask) d refl w refl refl refl c refl (inputs.App (site.asks + 1) ask) (ev.asked_once_more site) site refl
          q tt

  delivers : (k : ℕ) → Next t (events.Deliver k) (ev.delivers w (world.message_of w k))
  unfolding ev.delivers ev.delivers_to remember
  delivers k = go (world.message_of w k) refl
    where
      to : (m : Message) (n : NodeId) → Has m (messages t.world) → Next t (events.Deliver k) (ev.delivers_to w m n)
      to m (nodes.Client c) h = at_client (events.Deliver k) refl c (inputs.Control m) h
      to m (nodes.Server s) h = at_server (events.Deliver k) refl s (serving.Control m) h

      go : (o : Option SentMessage) → world.message_of w k ≡ o → Next t (events.Deliver k) (ev.delivers w o)
      go None q = nothing (events.Deliver k) refl w [] refl refl refl no_calm
      go (Some m) q = to m.message (world.receiver_of m) (has_map_in message_in t.world.net.messages m (numbered_has t.world.net.messages k m q))

  loses : (k : ℕ) → Next t (events.Lose k) (ev.quiet (ev.loses_message w k (world.message_of w k)))
  unfolding ev.loses_message remember
  loses k = go (world.message_of w k) refl
    where
      go : (o : Option SentMessage) → world.message_of w k ≡ o → Next t (events.Lose k) (ev.quiet (ev.loses_message w k o))
      go None q = nothing (events.Lose k) refl w [] refl refl refl no_calm
      go (Some m) q = nothing (events.Lose k) refl (ev.with_lost k m w) [] refl refl (lost_same w k m q) no_calm

  reports : (k : ℕ) (ok : Bool) → Next t (events.Report k ok) (ev.reports_of w k ok)
  unfolding ev.reports_of ev.tells ev.tells_client ev.tells_site remember
  reports k ok = go (world.issued_of w k)
    where
      e : Event
      e = events.Report k ok

      v : World
      v = ev.with_disks (ev.disks_after w.disks (Rattle.st_rules.specs.Disks.done w.disks k ok)) w

      same : (x : IssuedCommand) (site : WorldClient) → site_of w x.client ≡ Some site → (b : Bool) →
          Next t e (if b then ev.client_takes v x.client (ev.end_told v k ok x) site else ev.quiet v)
      same x site q true = client_ok past t e d refl v refl refl refl x.client refl (ev.end_told v k ok x) site site refl q tt
      same x site q false = nothing e refl v [] refl refl refl no_calm

      at : (x : IssuedCommand) (o : Option WorldClient) → site_of w x.client ≡ o → Next t e (ev.tells_client v k ok x o)
      at x None q = nothing e refl v [] refl refl refl no_calm
      at x (Some site) q = same x site q (ev.is_same_instance x site)

      go : (o : Option IssuedCommand) → Next t e (ev.tells v k ok o)
      go None = nothing e refl v [] refl refl refl no_calm
      go (Some x) = at x (site_of w x.client) refl

  crashes_client : (c : ClientId) → Next t (events.Crash (nodes.Client c)) (ev.crashes_client w c (site_of w c))
  unfolding ev.crashes_client ev.marks remember
  crashes_client c = go (site_of w c) refl
    where
      e : Event
      e = events.Crash (nodes.Client c)

      go : (o : Option WorldClient) → site_of w c ≡ o → Next t e (ev.crashes_client w c o)
      go None q = nothing e refl w [] refl refl refl no_calm
      go (Some site) q =
          client_placed past t e d c site (ev.stopped_site site) _ q refl refl refl (crashed_dated (messages t.world) c site.node.state (d.clients c site q).id)
          (same_timers t e _ refl (fates_calm 1 w.log (ev.log_crashed w c)))

  starts_client : (c : ClientId) → Next t (events.Start (nodes.Client c)) (ev.quiet (ev.starts_client w c (site_of w c)))
  unfolding ev.starts_client remember
  starts_client c = go (site_of w c) refl
    where
      e : Event
      e = events.Start (nodes.Client c)

      go : (o : Option WorldClient) → site_of w c ≡ o → Next t e (ev.quiet (ev.starts_client w c o))
      go None q = nothing e refl w [] refl refl refl no_calm
      go (Some site) q = client_placed past t e d c site (ev.started_site site) _ q refl refl refl
          (started_dated (messages t.world) c site.node.state (d.clients c site q).id) (same_timers t e _ refl no_calm)

  crashes_server : (s : ServerId) → Next t (events.Crash (nodes.Server s)) (ev.quiet (ev.crashes_server w s (node_of w s)))
  unfolding ev.crashes_server remember recall_all
  crashes_server s = go (node_of w s) refl
    where
      e : Event
      e = events.Crash (nodes.Server s)

      kept : (x : TimerStart) → Has x (filter (λ y. not (history.is_timer_at s y)) t.history.timers) → Has x t.history.timers × (x.server.0 ≢ s.0)
      kept x h = let z = has_filter _ t.history.timers x h in (z.0, λ q. not_both (history.is_timer_at s x) (eq-eqb x.server.0 s.0 q) (not_true _ z.1))

      keeps : (x : TimerStart) → Has x t.history.timers → x.server.0 ≢ s.0 → Has x (filter (λ y. not (history.is_timer_at s y)) t.history.timers)
      keeps x h n = has_filter_in (λ y. not (history.is_timer_at s y)) t.history.timers x h (at (history.is_timer_at s x) refl)
        where
          at : (b : Bool) → history.is_timer_at s x ≡ b → not (history.is_timer_at s x) ≡ true
          at true q = absurd (n (eqb-true _ _ q))
          at false q = ap not q

      others : (v : ServerId) (n : ServerNode) → node_of t.world v ≡ Some n → (c : ClientId) → TimerOf t.history.timers v c → node_of w s ≡ None →
          TimerOf (filter (λ y. not (history.is_timer_at s y)) t.history.timers) v c
      others v n y c z q =
          record {
            timer = z.timer;
            among = keeps z.timer z.among
                (λ e. none (sym q ∙ ap (numbered t.world.servers) (sym (sym (eqb-true _ _ (and_true (z.timer.server.0 == v.0) _ z.is).0) ∙ e)) ∙ y));
            is = z.is;
          }
        where
          none : None ≡ Some n → ⊥
          none e = cc

      go : (o : Option ServerNode) → node_of w s ≡ o → Next t e (ev.quiet (ev.crashes_server w s o))
      go None q =
          still past t e (ev.quiet w) d
          (record { clients = refl; servers = refl; same = refl; timers = λ x h. (kept x h).0; kept = λ v n y c z. others v n y c z q })
      go (Some node) q = server_placed past t e d s node (server.crash_node node) _ q refl refl refl (crashed_known s node.state (d.servers s node q).id) kept
          keeps (λ run. absurd (stopped run))
        where
          stopped : false ≡ true → ⊥
          stopped e = cc

  starts_server : (s : ServerId) → adm.refusal t.world (events.Start (nodes.Server s)) ≡ None →
      Next t (events.Start (nodes.Server s)) (ev.quiet (ev.starts_server w s (node_of w s)))
  unfolding ev.starts_server remember
  starts_server s f = go (node_of w s) refl
    where
      e : Event
      e = events.Start (nodes.Server s)

      go : (o : Option ServerNode) → node_of w s ≡ o → Next t e (ev.quiet (ev.starts_server w s o))
      go None q = nothing e refl w [] refl refl refl no_calm
      go (Some node) q =
          server_placed past t e d s node (server.start_node node (clock_of w (nodes.Server s))) _ q refl refl refl
          (started_known s node.state (clock_of w (nodes.Server s)) (d.servers s node q).id)
          (λ x h. let z = stays t e (ev.quiet (ev.starts_server w s (Some node))) same x h in (z, λ y. down (d.timers x z) y))
          (λ x h n. subst (Has x) (sym same) h) (λ run c. started_quiet node.state (clock_of w (nodes.Server s)) c)
        where
          same : (history_after t.world e (ev.quiet (ev.starts_server w s (Some node))) t.history).timers ≡ t.history.timers
          same = same_timers t e (ev.quiet (ev.starts_server w s (Some node))) refl no_calm

          off : node.running ≡ false
          off = sym (ap world.node_runs q) ∙ not_running t.world (nodes.Server s) f

          down : {x : TimerStart} → TimerQuiet t.world x → x.server.0 ≡ s.0 → ⊥
          down {x} z y = not_both node.running (ap (λ (n : ServerNode). n.running) (sym (some_is (sym z.is ∙ ap (numbered t.world.servers) y ∙ q))) ∙ z.running)
              off

  pub happens : (e : Event) → adm.refusal t.world e ≡ None → Next t e (ev.happens w e)
  unfolding ev.happens ev.ticks ev.crashes ev.starts ev.advances ev.effects ev.marks remember
  happens (events.Tick (nodes.Client c)) f = at_client (events.Tick (nodes.Client c)) refl c inputs.Tick tt
  happens (events.Tick (nodes.Server s)) f = at_server (events.Tick (nodes.Server s)) refl s serving.Tick tt
  happens (events.App c ask) f = asks c ask
  happens (events.Deliver k) f = delivers k
  happens (events.Lose k) f = loses k
  happens (events.Cut from to) f = nothing (events.Cut from to) refl _ [] refl refl refl no_calm
  happens (events.Heal from to) f = nothing (events.Heal from to) refl _ [] refl refl refl no_calm
  happens (events.Advance steps) f = nothing (events.Advance steps) refl _ _ refl refl refl (fates_calm 1 w.log _)
  happens (events.Effect k) f = nothing (events.Effect k) refl _ _ refl refl refl (fates_calm 1 w.log _)
  happens (events.Report k ok) f = reports k ok
  happens (events.Crash (nodes.Client c)) f = crashes_client c
  happens (events.Crash (nodes.Server s)) f = crashes_server s
  happens (events.Start (nodes.Client c)) f = starts_client c
  happens (events.Start (nodes.Server s)) f = starts_server s f
