-- Operations ask once: after every event, and over whole runs.
use Rattle.st_lemmas.proofs.Words
use Words.{◌≡◌, ◌≢◌, ◌⊎◌, ℕ, ◌+◌, ◌≤◌, true, List, [], ◌∷◌, ◌++◌, Option, Some, None, Ok, refl, sym, ap, ◌∙◌, subst, inl, inr, arith, length, eqb-true, eq-eqb}
use Words.{ClientId, ServerId, AppAnswer, Ask, Event, Body, Message, ClientInput, Operation, Request, Stage}
use Words.nodes
use Words.answers
use Words.asks
use Words.bodies
use Words.outputs
use Words.inputs
use Words.stages
use Words.seen
use Words.Client as cl
use Words.ClientState as cs
use Words.ClientState.{Association, ClientSession, server_of}
use Words.Events.{WorldTurn, world_step}
use Words.Keys.{server_node}
use Words.History.{Traced, traced, traced_after}
use Words.Safety.{IsHead, Step, is_event, step}
use Words.World.{World, WorldClient, clock_of, fresh_world, numbered, site_of, with_numbered}
use Words.Lists.{Has}
use Words.Lookups.{some_is}
use Words.Numbers.{numbered_below, numbered_own}
use Words.Tables.{has_append}
use Words.Members.{has_right}
use Words.Truth.{clash}
use Rattle.st_base.specs.declared.config.Config as base
use Rattle.st_protocol.specs.Assoc.{Config}
use Rattle.st_laws_steps.specs.Lives.Lives.{NodeHolds}
use Rattle.st_laws_refine.specs.Server.Pair.{terms_of}
use Rattle.st_laws_pages.proofs.Disks.Whole.{site_is}
use Rattle.st_laws_leases.specs.Dates.Dates.{messages}
use Rattle.st_laws_leases.specs.Sides.Law.{InEveryRun}
use Rattle.st_laws_leases.proofs.Dates.Leaving.{set_cases}
use Rattle.st_laws_leases.proofs.Sides.Runs.{throughout_events}
use Rattle.st_laws_requests.specs.Cuts.Cuts.{AsksFor, Waits, WaitsAt, asks_of}
use Rattle.st_laws_requests.specs.Cuts.Cuts as cuts
use Rattle.st_laws_requests.proofs.Cuts.Keeping.{Answers, asked_of, only_own}
use Rattle.st_laws_requests.proofs.Cuts.Seen.{AnswerOf}
use Rattle.st_laws_requests.proofs.Cuts.Step.{Onces, onces}
use Rattle.st_laws_requests.proofs.Replies.EachEvent.{ClientTook, SiteAfter}
use Rattle.st_laws_cuts.proofs.Counts.{one_if, pending, pending_has}
use Rattle.st_laws_cuts.proofs.Events.{IsEmptied, NextAsk, event_does}
use Rattle.st_laws_cuts.proofs.Law.{AllHold, begins}
use Rattle.st_laws_cuts.proofs.Law as laws
use Rattle.st_laws_extents.proofs.CutRequests.Law.{followed}
use Rattle.st_laws_cuts.proofs.Words.{asks_longer}
use Rattle.st_laws_names.specs.OutstandingKeys.{OperationsAskOnce, SameKey, WaitsUnder}
use Rattle.st_promises.specs.CutAsks.{is_uncertain}
use Rattle.st_laws_names.proofs.Frames.{IsKeptRefusal, Own, view}
use Rattle.st_laws_names.proofs.Keeping.{AtRequest, AtStage, Under}
use Rattle.st_laws_names.proofs.Step.{At, Held, stepped}
use Rattle.st_laws_names.proofs.Step as steps

-- a world after one of these steps, or this one
abbrev pub Worlds : List Step → World → World → Type 0
Worlds past w v = ((y : Step) × Has y past × (v ≡ y.after.world)) ⊎ (v ≡ w)

-- An operation waited in one of these worlds.
pub record Asked (past : List Step) (w : World) (c : ClientId) (op : ℕ) : Type 0 where
  pub at : World
  pub among : Worlds past w at
  pub server : ServerId
  pub life_ : ℕ
  pub epoch_ : ℕ
  pub number_ : ℕ
  pub waits : WaitsUnder at c server life_ epoch_ number_ op

-- wherever it waited, it was under this key
abbrev pub Key : List Step → World → ClientId → ServerId → ℕ → ℕ → ℕ → ℕ → Type 0
Key past w c s life epoch number op = (k : Asked past w c op) → SameKey k.server s k.life_ k.epoch_ k.number_ life epoch number

-- the outstanding request of a session has it
abbrev pub KeyAt : List Step → World → ClientId → ServerId → ℕ → ℕ → Option Request → ℕ → Type 0
KeyAt past w c s life epoch None op = ⊥
KeyAt past w c s life epoch (Some q) op = Key past w c s life epoch q.number op

abbrev pub KeyOf : List Step → World → ClientId → ServerId → ℕ → Option (ℕ × Option Request) → ℕ → Type 0
KeyOf past w c s life None op = ⊥
KeyOf past w c s life (Some v) op = KeyAt past w c s life v.0 v.1 op

-- a message of a server to a client, under the key of what was asked
pub record RepliesUnder (past : List Step) (w : World) (c : ClientId) (op : ℕ) (k : Asked past w c op) (m : Message) : Type 0 where
  pub from : m.header.from ≡ server_node k.server
  pub to : m.header.to ≡ c.0
  pub of_life : m.header.life ≡ k.life_
  pub of_epoch : m.header.epoch ≡ k.epoch_
  pub under : m.header.number ≡ k.number_

-- such a message was sent, with this body
pub record Received (P : Body → Type 0) (past : List Step) (w : World) (c : ClientId) (op : ℕ) (k : Asked past w c op) : Type 0 where
  pub message : Message
  pub among : Has message (messages w)
  pub replies : RepliesUnder past w c op k message
  pub says : P message.body

-- a reply tells this answer, or refuses what was asked
abbrev pub TellsOrRefuses : AppAnswer → Body → Type 0
TellsOrRefuses a b = Answers b a ⊎ IsKeptRefusal b

-- what asked may be answered so: it is uncertain, or a reply under its key tells the answer, or refuses
abbrev pub Ended : List Step → World → ClientId → ℕ → AppAnswer → Type 0
Ended past w c op a = (k : Asked past w c op) → (is_uncertain a ≡ true) ⊎ Received (TellsOrRefuses a) past w c op k

-- what asked was refused under its key
abbrev pub Refused : List Step → World → ClientId → ℕ → Type 0
Refused past w c op = (k : Asked past w c op) → Received IsKeptRefusal past w c op k

open_ended : (past : List Step) (w : World) (c : ClientId) (op n m : ℕ) → Ended past w c op (answers.Uncertain n m)
open_ended past w c op n m k = inl refl

refused_ended : (past : List Step) (w : World) (c : ClientId) (op : ℕ) (a : AppAnswer) → Refused past w c op → Ended past w c op a
refused_ended past w c op a r k = let z = r k in inr (record { message = z.message; among = z.among; replies = z.replies; says = inr z.says })

-- What holds of a client.
pub record SiteOnce (past : List Step) (w : World) (c : ClientId) (site : WorldClient) : Type 0 where
  pub kind : (o : Operation) → Has o site.node.state.operations → Asked past w c o.op → Own o.ask
  pub sent : (a : Association) → Has a site.node.state.associations → (o : Operation) → Has o site.node.state.operations → Asked past w c o.op → cs.is_of a.server o ≡ true → cs.is_sent o ≡ true
  pub asked : (a : Association) → Has a site.node.state.associations → (o : Operation) → Has o site.node.state.operations → Asked past w c o.op → cs.is_asked a.server o ≡ true → KeyOf past w c a.server a.life.0 (view a.session) o.op
  pub stuck : (a : Association) → Has a site.node.state.associations → (o : Operation) → Has o site.node.state.operations → cs.is_of a.server o ≡ true → o.stage ≡ stages.Stuck → Refused past w c o.op

-- What holds after every event.
pub record OnceHold (past : List Step) (w : World) : Type 0 where
  pub sites : (c : ClientId) (site : WorldClient) → site_of w c ≡ Some site → SiteOnce past w c site
  pub known : (c : ClientId) (op : ℕ) → Asked past w c op → op ≤ length (asks_of past c)

-- At one moment.

-- two operations of one number are the same, if that is pending once at most
one_pending : (os : List Operation) (o p : Operation) → Has o os → Has p os → o.op ≡ p.op → pending o.op os ≤ 1 → o ≡ p
one_pending (x ∷ os) o p (inl e) (inl f) q l = e ∙ sym f
one_pending (x ∷ os) o p (inl e) (inr h) q l =
    let y = subst (λ n. 1 ≤ pending n os) (sym q) (pending_has os p h) in
    let z = ap one_if (eq-eqb x.op o.op (sym (ap (λ (r : Operation). r.op) e))) in
    absurd (omega (arith, y, z, l))
one_pending (x ∷ os) o p (inr h) (inl f) q l =
    let y = pending_has os o h in
    let z = ap one_if (eq-eqb x.op o.op (sym (q ∙ ap (λ (r : Operation). r.op) f))) in
    absurd (omega (arith, y, z, l))
one_pending (x ∷ os) o p (inr h) (inr i) q l = one_pending os o p h i q (omega (arith, l))
one_pending [] o p h i q l = absurd h

-- two associations with one server are the same
one_with : (al : List Association) → Onces al → (a b : Association) → Has a al → Has b al → a.server ≡ b.server → a ≡ b
one_with (x ∷ al) o a b (inl e) (inl f) q = e ∙ sym f
one_with (x ∷ al) o a b (inl e) (inr k) q = absurd (o.first b k (sym (ap (λ (z : Association). z.server.0) e) ∙ ap (λ (z : ServerId). z.0) q))
one_with (x ∷ al) o a b (inr h) (inl f) q = absurd (o.first a h (sym (ap (λ (z : Association). z.server.0) f) ∙ sym (ap (λ (z : ServerId). z.0) q)))
one_with (x ∷ al) o a b (inr h) (inr k) q = one_with al o.rest a b h k q
one_with [] o a b h k q = absurd h

of_server : (s : ServerId) (o : Operation) → cs.is_asked s o ≡ true → server_of o.ask ≡ s
of_server s o e = ap (λ n. record { 0 = n }) (eqb-true (server_of o.ask).0 s.0 (asked_of s o e).0)

-- what a client waits under at one moment
pub record Moment (w : World) : Type 0 where
  pub few : (c : ClientId) (site : WorldClient) → site_of w c ≡ Some site → (k : ℕ) → pending k site.node.state.operations ≤ 1
  pub once : (c : ClientId) (site : WorldClient) → site_of w c ≡ Some site → Onces site.node.state.associations

pub one_key : (w : World) → Moment w → (c : ClientId) (s u : ServerId) (life epoch number life2 epoch2 number2 op : ℕ) → WaitsUnder w c s life epoch number op → WaitsUnder w c u life2 epoch2 number2 op → SameKey s u life epoch number life2 epoch2 number2
one_key w m c s u life epoch number life2 epoch2 number2 op x y =
    record {
      server = servers;
      life_ = sym x.of_life ∙ ap (λ (a : Association). a.life.0) association ∙ y.of_life;
      epoch_ = sym x.of_epoch ∙ ap (λ (a : ClientSession). a.epoch.0) session ∙ y.of_epoch;
      number_ = sym x.under ∙ ap (λ (q : Request). q.number) request ∙ y.under;
    }
  where
    site : x.site ≡ y.site
    site = some_is (sym x.at ∙ y.at)

    operation : x.operation ≡ y.operation
    operation = one_pending x.site.node.state.operations x.operation y.operation x.there (subst (λ (z : WorldClient). Has y.operation z.node.state.operations) (sym site) y.there) (x.is ∙ sym y.is) (m.few c x.site x.at x.operation.op)

    servers : s ≡ u
    servers = sym (of_server s x.operation x.asked) ∙ ap (λ (o : Operation). server_of o.ask) operation ∙ of_server u y.operation y.asked

    association : x.association ≡ y.association
    association = one_with x.site.node.state.associations (m.once c x.site x.at) x.association y.association x.among (subst (λ (z : WorldClient). Has y.association z.node.state.associations) (sym site) y.among) (x.server ∙ servers ∙ sym y.server)

    session : x.session ≡ y.session
    session = some_is (sym x.has ∙ ap (λ (a : Association). a.session) association ∙ y.has)

    request : x.request ≡ y.request
    request = some_is (sym x.outstanding ∙ ap (λ (z : ClientSession). z.requests.asked) session ∙ y.outstanding)

-- an operation whose request is the outstanding one
pub waits_at : (w : World) (c : ClientId) (site : WorldClient) → site_of w c ≡ Some site → (a : Association) → Has a site.node.state.associations → (o : Operation) → Has o site.node.state.operations → cs.is_asked a.server o ≡ true → (x : ClientSession) → a.session ≡ Some x → (q : Request) → x.requests.asked ≡ Some q →
    WaitsUnder w c a.server a.life.0 x.epoch.0 q.number o.op
waits_at w c site at a i o j e x s q r =
    record { site = site; at = at; operation = o; there = j; is = refl; asked = e; association = a; among = i; server = refl; of_life = refl; session = x; has = s; of_epoch = refl; request = q; outstanding = r; under = refl }

-- an operation that waits is a cut or for a name
own_of : (E : ServerId → ℕ → ℕ → ℕ → ℕ → Type 0) (s : ServerId) (life : ℕ) (v : Option (ℕ × cs.Requests)) (o : Operation) → Waits E s life v o → Own o.ask
own_of E s life None o w = absurd w
own_of E s life (Some v) o w = go v.1.asked w
  where
    by : (a : Ask) (b : Body) → AsksFor a b → Own a
    by (asks.Cut f p) (bodies.Cut ino g q) h = refl
    by (asks.Name sv k) (bodies.Name op) h = refl
    by a b h = absurd h

    go : (q : Option Request) → WaitsAt E s life v.0 q o → Own o.ask
    go None w = absurd w
    go (Some q) w = by o.ask q.body w.0

-- The key of an operation that waits, wherever it did.
pub asked_with : (past qs : List Step) (w v : World) (c : ClientId) (op : ℕ) (k : Asked past w c op) → (u : World) × Worlds qs v u × WaitsUnder u c k.server k.life_ k.epoch_ k.number_ op → Asked qs v c op
asked_with past qs w v c op k z = record { at = z.0; among = z.1; server = k.server; life_ = k.life_; epoch_ = k.epoch_; number_ = k.number_; waits = z.2 }

module _ (k : Config) (count : ℕ) (past : List Step) (t : Traced) (e : Event) (sc : WorldTurn) (h : AllHold k count past t) (n : AllHold k count (past ++ step t e sc ∷ []) (traced_after e t sc)) (taken : world_step t.world e ≡ Ok sc) (d : OnceHold past t.world) where
  abbrev past2 : List Step
  past2 = past ++ step t e sc ∷ []

  moment : Moment sc.world
  moment = record { few = n.owners.few; once = λ c site at. onces site.node.state.associations (n.base.cuts.fates.lives.lives.sites c site at).once }

  -- a world after this step, or one before
  which : (v : World) → Worlds past2 sc.world v → Worlds past t.world v ⊎ (v ≡ sc.world)
  which v (inr q) = inr q
  which v (inl z) = go (has_append past _ z.0 z.1)
    where
      go : Has z.0 past ⊎ Has z.0 (step t e sc ∷ []) → Worlds past t.world v ⊎ (v ≡ sc.world)
      go (inl i) = inl (inl (z.0, i, z.2))
      go (inr (inl q)) = inr (z.2 ∙ ap (λ (y : Step). y.after.world) q)
      go (inr (inr i)) = absurd i

  -- if an operation waits after the step, it is pending
  waits_below : (c : ClientId) (op : ℕ) (s : ServerId) (life epoch number : ℕ) → WaitsUnder sc.world c s life epoch number op → op ≤ length (asks_of past2 c)
  waits_below c op s life epoch number w = subst (λ m. m ≤ length (asks_of past2 c)) w.is (numbered_below (asks_of past2 c) w.operation.op w.operation.ask ((n.base.cuts.clients c w.site w.at).asked w.operation w.there)).1

  -- what was sent stays sent
  grown : (m : Message) → Has m (messages t.world) → Has m (messages sc.world)
  grown m i = n.base.cuts.grown (step t e sc) (has_right past (step t e sc ∷ []) (step t e sc) (inl refl)) m i

  known_on : (c : ClientId) (op : ℕ) → Asked past2 sc.world c op → op ≤ length (asks_of past2 c)
  known_on c op a = go (which a.at a.among)
    where
      go : Worlds past t.world a.at ⊎ (a.at ≡ sc.world) → op ≤ length (asks_of past2 c)
      go (inl i) = let z = d.known c op (asked_with past2 past sc.world t.world c op a (a.at, i, a.waits)) in let y = asks_longer past (step t e sc) c in omega (arith, z, y)
      go (inr q) = waits_below c op a.server a.life_ a.epoch_ a.number_ (subst (λ v. WaitsUnder v c a.server a.life_ a.epoch_ a.number_ op) q a.waits)

  -- A client that stays.
  module _ (c : ClientId) (site : WorldClient) (was : site_of t.world c ≡ Some site) (at : site_of sc.world c ≡ Some site) where
    waited : (op : ℕ) (s : ServerId) (life epoch number : ℕ) → WaitsUnder sc.world c s life epoch number op → WaitsUnder t.world c s life epoch number op
    waited op s life epoch number w =
        record {
          site = w.site;
          at = was ∙ sym at ∙ w.at;
          operation = w.operation;
          there = w.there;
          is = w.is;
          asked = w.asked;
          association = w.association;
          among = w.among;
          server = w.server;
          of_life = w.of_life;
          session = w.session;
          has = w.has;
          of_epoch = w.of_epoch;
          request = w.request;
          outstanding = w.outstanding;
          under = w.under;
        }

    back : (op : ℕ) (a : Asked past2 sc.world c op) → (u : World) × Worlds past t.world u × WaitsUnder u c a.server a.life_ a.epoch_ a.number_ op
    back op a = go (which a.at a.among)
      where
        go : Worlds past t.world a.at ⊎ (a.at ≡ sc.world) → (u : World) × Worlds past t.world u × WaitsUnder u c a.server a.life_ a.epoch_ a.number_ op
        go (inl i) = (a.at, i, a.waits)
        go (inr q) = (t.world, inr refl, waited op a.server a.life_ a.epoch_ a.number_ (subst (λ v. WaitsUnder v c a.server a.life_ a.epoch_ a.number_ op) q a.waits))

    earlier : (op : ℕ) → Asked past2 sc.world c op → Asked past t.world c op
    earlier op a = asked_with past2 past sc.world t.world c op a (back op a)

    refused_on : (op : ℕ) → Refused past t.world c op → Refused past2 sc.world c op
    unfolding earlier asked_with
    refused_on op r k = let z = r (earlier op k) in record { message = z.message; among = grown z.message z.among; replies = record { from = z.replies.from; to = z.replies.to; of_life = z.replies.of_life; of_epoch = z.replies.of_epoch; under = z.replies.under }; says = z.says }

    key_on : (s : ServerId) (life epoch number op : ℕ) → Key past t.world c s life epoch number op → Key past2 sc.world c s life epoch number op
    unfolding earlier asked_with
    key_on s life epoch number op f a = f (earlier op a)

    key_of : (s : ServerId) (life op : ℕ) (v : Option (ℕ × Option Request)) → KeyOf past t.world c s life v op → KeyOf past2 sc.world c s life v op
    key_of s life op None f = f
    key_of s life op (Some v) f = go v.1 f
      where
        go : (q : Option Request) → KeyAt past t.world c s life v.0 q op → KeyAt past2 sc.world c s life v.0 q op
        go None f = f
        go (Some q) f = key_on s life v.0 q.number op f

    stays : SiteOnce past2 sc.world c site
    stays =
        let z = d.sites c site was in
        record {
          kind = λ o i a. z.kind o i (earlier o.op a);
          sent = λ b j o i a. z.sent b j o i (earlier o.op a);
          asked = λ b j o i a q. key_of b.server b.life.0 o.op (view b.session) (z.asked b j o i (earlier o.op a) q);
          stuck = λ b j o i q g. refused_on o.op (z.stuck b j o i q g);
        }

  -- A client without operations.
  none_on : (c : ClientId) (site : WorldClient) → site.node.state.operations ≡ [] → SiteOnce past2 sc.world c site
  none_on c site e = record { kind = λ o i a. no o i; sent = λ b j o i a q. no o i; asked = λ b j o i a q. no o i; stuck = λ b j o i q g. no o i }
    where
      empty : {A : Type 0} (os : List Operation) → os ≡ [] → (o : Operation) → Has o os → A
      empty [] q o i = absurd i
      empty (x ∷ os) q o i = cc q

      no : {A : Type 0} (o : Operation) → Has o site.node.state.operations → A
      no o i = empty site.node.state.operations e o i

  -- A client that takes a step.
  module _ (v : World) (same_clients : v.clients ≡ t.world.clients) (c : ClientId) (i : ClientInput) (site old : WorldClient) (same : site.node ≡ old.node) (asks_next : NextAsk t.world i old site) (run : site.node.running ≡ true) (was : site_of t.world c ≡ Some old)
      (at : site_of sc.world c ≡ Some (SiteAfter v c i site)) where
    abbrev S : ℕ → Type 0
    S op = Asked past t.world c op

    abbrev Ops : Type 0
    Ops = Held c S (Key past t.world c) (Ended past t.world c) (Refused past t.world c) (open_ended past t.world c) (refused_ended past t.world c) [] (ClientTook v c i site)

    site_ok : SiteOnce past t.world c old
    site_ok = d.sites c old was

    old_op : (o : Operation) → Has o site.node.state.operations → Has o old.node.state.operations
    old_op o j = subst (λ (m : cl.ClientNode). Has o m.state.operations) same j

    old_at : (a : Association) → Has a site.node.state.associations → Has a old.node.state.associations
    old_at a j = subst (λ (m : cl.ClientNode). Has a m.state.associations) same j

    node : NodeHolds t.world.config t.world.clocks t.world.ended c site.node
    node = subst (NodeHolds t.world.config t.world.clocks t.world.ended c) (sym same) (h.base.cuts.fates.lives.lives.sites c old was)

    stage : (g : Stage) (op : ℕ) → cs.is_sent_at g ≡ true → (g ≡ stages.Stuck → Refused past t.world c op) → AtStage S (Key past t.world c) (Ended past t.world c) (Refused past t.world c) (open_ended past t.world c) (refused_ended past t.world c) g op
    stage stages.Unsent op q f = cc q
    stage stages.Sent op q f = tt
    stage stages.Stuck op q f = f refl

    own_request : (a : Association) → Has a old.node.state.associations → (o : Operation) → Has o old.node.state.operations → cs.is_asked a.server o ≡ true → S o.op → Under S (Key past t.world c) (Ended past t.world c) (Refused past t.world c) (open_ended past t.world c) (refused_ended past t.world c) a.server a.life.0 (view a.session) o.op
    own_request a j o l q z = go a.session (((h.base.cuts.clients c old was).all (ap (λ (m : cl.ClientNode). m.running) (sym same) ∙ run) a j).waits o l q) (site_ok.asked a j o l z q)
      where
        by : (epoch : ℕ) (r : Option Request) → WaitsAt (cuts.Early past c) a.server a.life.0 epoch r o → KeyAt past t.world c a.server a.life.0 epoch r o.op → AtRequest S (Key past t.world c) (Ended past t.world c) (Refused past t.world c) (open_ended past t.world c) (refused_ended past t.world c) a.server a.life.0 epoch r o.op
        by epoch None w f = absurd w
        by epoch (Some r) w f = (only_own o.ask r.body w.0, f)

        go : (x : Option ClientSession) → Waits (cuts.Early past c) a.server a.life.0 (cuts.view x) o → KeyOf past t.world c a.server a.life.0 (view x) o.op → Under S (Key past t.world c) (Ended past t.world c) (Refused past t.world c) (open_ended past t.world c) (refused_ended past t.world c) a.server a.life.0 (view x) o.op
        go None w f = absurd w
        go (Some x) w f = by x.epoch.0 x.requests.asked w f

    held : Held c S (Key past t.world c) (Ended past t.world c) (Refused past t.world c) (open_ended past t.world c) (refused_ended past t.world c) [] (ClientTook v c i site)
    held = stepped c S (Key past t.world c) (Ended past t.world c) (Refused past t.world c) (open_ended past t.world c) (refused_ended past t.world c) site.node.state (clock_of v (nodes.Client c)) i (input i asks_next)
        (record {
          id_ = node.id;
          kind = λ o j z. site_ok.kind o (old_op o j) z;
          said = λ op a j. absurd j;
          done = λ a j. record { state = λ o l z q. stage o.stage o.op (site_ok.sent a (old_at a j) o (old_op o l) z q) (λ g. site_ok.stuck a (old_at a j) o (old_op o l) q g); asked = λ o l z q. own_request a (old_at a j) o (old_op o l) q z };
          todo = λ a j. absurd j;
          once_done = onces site.node.state.associations node.once;
          once_todo = tt;
          apart = λ a b j l. absurd l;
        })
      where
        received : {P : Body → Type 0} (m : Message) → Has m (messages t.world) → (sv : ServerId) (op : ℕ) (k : Asked past t.world c op) → m.header.to ≡ c.0 → m.header.from ≡ server_node sv → SameKey k.server sv k.life_ k.epoch_ k.number_ m.header.life m.header.epoch m.header.number → P m.body → Received P past t.world c op k
        received m i sv op k to f key p =
            record { message = m; among = i; replies = record { from = f ∙ ap server_node (sym key.server); to = to; of_life = sym key.life_; of_epoch = sym key.epoch_; under = sym key.number_ }; says = p }

        input : (j : ClientInput) → NextAsk t.world j old site → steps.InputOk c S (Key past t.world c) (Ended past t.world c) (Refused past t.world c) (open_ended past t.world c) (refused_ended past t.world c) j
        input inputs.Tick g = tt
        input (inputs.Control m) g = λ to. record { told = λ sv op a f key its k. inr (received m g sv op k to f (key k) (inl its)); refuses = λ sv op f key its k. received m g sv op k to f (key k) its }
        input (inputs.Done number result) g = tt
        input (inputs.App op ask) g = λ z. let y = d.known c op z in let q = (h.base.cuts.clients c old was).count in let r = g.0 in omega (arith, y, q, r)

    abbrev after : WorldClient
    after = SiteAfter v c i site

    waits_of : (a : Association) → Has a (SiteAfter v c i site).node.state.associations → (o : Operation) → Has o (SiteAfter v c i site).node.state.operations → cs.is_asked a.server o ≡ true → Waits (cuts.Early past2 c) a.server a.life.0 (cuts.view a.session) o
    waits_of a j o l q = ((n.base.cuts.clients c (SiteAfter v c i site) at).all run a j).waits o l q

    -- if it waits after the step, it is this operation
    this_one : (o : Operation) → Has o (SiteAfter v c i site).node.state.operations → (s : ServerId) (life epoch number : ℕ) → (w : WaitsUnder sc.world c s life epoch number o.op) → (w.operation ≡ o) × (w.site ≡ SiteAfter v c i site)
    this_one o l s life epoch number w = (one_pending w.site.node.state.operations w.operation o w.there (subst (λ (z : WorldClient). Has o z.node.state.operations) (sym site_is) l) w.is (moment.few c w.site w.at w.operation.op), site_is)
      where
        site_is : w.site ≡ SiteAfter v c i site
        site_is = some_is (sym w.at ∙ at)

    -- an operation that waited before, or waits now
    split : (op : ℕ) → (a : Asked past2 sc.world c op) → (Worlds past t.world a.at) ⊎ WaitsUnder sc.world c a.server a.life_ a.epoch_ a.number_ op
    split op a = go (which a.at a.among)
      where
        go : Worlds past t.world a.at ⊎ (a.at ≡ sc.world) → (Worlds past t.world a.at) ⊎ WaitsUnder sc.world c a.server a.life_ a.epoch_ a.number_ op
        go (inl q) = inl q
        go (inr q) = inr (subst (λ v. WaitsUnder v c a.server a.life_ a.epoch_ a.number_ op) q a.waits)

    before : (op : ℕ) → (a : Asked past2 sc.world c op) → Worlds past t.world a.at → S op
    before op a q = asked_with past2 past sc.world t.world c op a (a.at, q, a.waits)

    asked_sent : (g : Stage) → cs.is_asked_at g ≡ true → cs.is_sent_at g ≡ true
    asked_sent stages.Unsent q = cc q
    asked_sent stages.Sent q = refl
    asked_sent stages.Stuck q = refl

    stage_sent : (g : Stage) (op : ℕ) → AtStage S (Key past t.world c) (Ended past t.world c) (Refused past t.world c) (open_ended past t.world c) (refused_ended past t.world c) g op → cs.is_sent_at g ≡ true
    stage_sent stages.Unsent op q = absurd q
    stage_sent stages.Sent op q = refl
    stage_sent stages.Stuck op q = refl

    kind_on : (o : Operation) → Has o (SiteAfter v c i site).node.state.operations → Asked past2 sc.world c o.op → Own o.ask
    kind_on o l a = go (split o.op a)
      where
        go : (Worlds past t.world a.at) ⊎ WaitsUnder sc.world c a.server a.life_ a.epoch_ a.number_ o.op → Own o.ask
        go (inl q) = held.kind o l (before o.op a q)
        go (inr w) =
            let z = this_one o l a.server a.life_ a.epoch_ a.number_ w in
            own_of (cuts.Early past2 c) w.association.server w.association.life.0 (cuts.view w.association.session) o
            (waits_of w.association (subst (λ (r : WorldClient). Has w.association r.node.state.associations) z.1 w.among) o l (subst (λ s. cs.is_asked s o ≡ true) (sym w.server) (subst (λ r. cs.is_asked a.server r ≡ true) z.0 w.asked)))

    sent_on : (b : Association) → Has b (SiteAfter v c i site).node.state.associations → (o : Operation) → Has o (SiteAfter v c i site).node.state.operations → Asked past2 sc.world c o.op → cs.is_of b.server o ≡ true → cs.is_sent o ≡ true
    sent_on b j o l a of = go (split o.op a)
      where
        go : (Worlds past t.world a.at) ⊎ WaitsUnder sc.world c a.server a.life_ a.epoch_ a.number_ o.op → cs.is_sent o ≡ true
        go (inl q) = stage_sent o.stage o.op ((held.done b j).state o l (before o.op a q) of)
        go (inr w) = let z = this_one o l a.server a.life_ a.epoch_ a.number_ w in asked_sent o.stage (asked_of a.server o (subst (λ r. cs.is_asked a.server r ≡ true) z.0 w.asked)).1

    asked_on : (b : Association) → Has b (SiteAfter v c i site).node.state.associations → (o : Operation) → Has o (SiteAfter v c i site).node.state.operations → Asked past2 sc.world c o.op → cs.is_asked b.server o ≡ true → KeyOf past2 sc.world c b.server b.life.0 (view b.session) o.op
    unfolding before asked_with
    asked_on b j o l a q = go b.session refl (waits_of b j o l q) (λ z. (held.done b j).asked o l z q)
      where
        at_request : (x : ClientSession) → b.session ≡ Some x → (r : Option Request) → x.requests.asked ≡ r → WaitsAt (cuts.Early past2 c) b.server b.life.0 x.epoch.0 r o → (S o.op → AtRequest S (Key past t.world c) (Ended past t.world c) (Refused past t.world c) (open_ended past t.world c) (refused_ended past t.world c) b.server b.life.0 x.epoch.0 r o.op) →
            KeyAt past2 sc.world c b.server b.life.0 x.epoch.0 r o.op
        at_request x e None f w g = w
        at_request x e (Some r) f w g = λ k. by k (split o.op k)
          where
            by : (k : Asked past2 sc.world c o.op) → (Worlds past t.world k.at) ⊎ WaitsUnder sc.world c k.server k.life_ k.epoch_ k.number_ o.op → SameKey k.server b.server k.life_ k.epoch_ k.number_ b.life.0 x.epoch.0 r.number
            by k (inl y) = (g (before o.op k y)).1 (before o.op k y)
            by k (inr y) = one_key sc.world moment c k.server b.server k.life_ k.epoch_ k.number_ b.life.0 x.epoch.0 r.number o.op y (waits_at sc.world c (SiteAfter v c i site) at b j o l q x e r f)

        go : (x : Option ClientSession) → b.session ≡ x → Waits (cuts.Early past2 c) b.server b.life.0 (cuts.view x) o → (S o.op → Under S (Key past t.world c) (Ended past t.world c) (Refused past t.world c) (open_ended past t.world c) (refused_ended past t.world c) b.server b.life.0 (view x) o.op) → KeyOf past2 sc.world c b.server b.life.0 (view x) o.op
        go None e w g = w
        go (Some x) e w g = at_request x e x.requests.asked refl w g

    stuck_on : (b : Association) → Has b (SiteAfter v c i site).node.state.associations → (o : Operation) → Has o (SiteAfter v c i site).node.state.operations → cs.is_of b.server o ≡ true → o.stage ≡ stages.Stuck → Refused past2 sc.world c o.op
    unfolding before asked_with
    stuck_on b j o l of g k = go (split o.op k)
      where
        was_refused : (g : Stage) (op : ℕ) → g ≡ stages.Stuck → AtStage S (Key past t.world c) (Ended past t.world c) (Refused past t.world c) (open_ended past t.world c) (refused_ended past t.world c) g op → Refused past t.world c op
        was_refused stages.Unsent op q r = cc q
        was_refused stages.Sent op q r = cc q
        was_refused stages.Stuck op q r = r

        go : (Worlds past t.world k.at) ⊎ WaitsUnder sc.world c k.server k.life_ k.epoch_ k.number_ o.op → Received IsKeptRefusal past2 sc.world c o.op k
        go (inl q) =
            let z = was_refused o.stage o.op g ((held.done b j).state o l (before o.op k q) of) (before o.op k q) in
            record { message = z.message; among = grown z.message z.among; replies = record { from = z.replies.from; to = z.replies.to; of_life = z.replies.of_life; of_epoch = z.replies.of_epoch; under = z.replies.under }; says = z.says }
        go (inr w) =
            let z = this_one o l k.server k.life_ k.epoch_ k.number_ w in
            clash (asked_of k.server o (subst (λ r. cs.is_asked k.server r ≡ true) z.0 w.asked)).1 (ap cs.is_asked_at g)

    takes : SiteOnce past2 sc.world c (SiteAfter v c i site)
    takes = record { kind = kind_on; sent = sent_on; asked = asked_on; stuck = stuck_on }

    -- what it answers
    said : (op : ℕ) (a : AppAnswer) → Has (outputs.Answer op a) (ClientTook v c i site).out → Ended past t.world c op a
    said op a j k = held.said op a j k k

  -- Every event.
  pub once_on : OnceHold past2 sc.world
  once_on = record { sites = sites; known = known_on }
    where
      Result : WorldTurn → Type 0
      Result u = u ≡ sc → (c : ClientId) (site : WorldClient) → site_of sc.world c ≡ Some site → SiteOnce past2 sc.world c site

      sites : (c : ClientId) (site : WorldClient) → site_of sc.world c ≡ Some site → SiteOnce past2 sc.world c site
      sites = event_does t.world (λ s m at. (h.base.cuts.servers s m at).id) Result
          (λ u cs ms silent q c site at. stays c site (ap (λ z. numbered z c.0) (sym cs ∙ ap (λ (w : WorldTurn). w.world.clients) q) ∙ at) at)
          (λ v cs c i site old same asks_next run was u l ans q y r at. took v cs c i site old same asks_next run was (sym (ap (λ (w : WorldTurn). w.world.clients) q) ∙ l.clients ∙ ap (λ w. with_numbered c.0 (SiteAfter v c i site) w) cs) y r at)
          (λ c old new was z u cs ms silent q y r at. left c old new was z (sym (ap (λ (w : WorldTurn). w.world.clients) q) ∙ cs) y r at) e sc taken refl
        where
          took : (v : World) → v.clients ≡ t.world.clients → (c : ClientId) (i : ClientInput) (site old : WorldClient) → site.node ≡ old.node → NextAsk t.world i old site → site.node.running ≡ true → site_of t.world c ≡ Some old → sc.world.clients ≡ with_numbered c.0 (SiteAfter v c i site) t.world.clients →
              (y : ClientId) (r : WorldClient) → site_of sc.world y ≡ Some r → SiteOnce past2 sc.world y r
          took v cs c i site old same asks_next run was clients y r at = go (set_cases t.world.clients c.0 y.0 old (SiteAfter v c i site) r was (ap (λ w. numbered w y.0) (sym clients) ∙ at))
            where
              own : site_of sc.world c ≡ Some (SiteAfter v c i site)
              own = ap (λ w. numbered w c.0) clients ∙ numbered_own t.world.clients c.0 (SiteAfter v c i site) old was

              go : ((y.0 ≡ c.0) × (r ≡ SiteAfter v c i site)) ⊎ ((y.0 ≢ c.0) × (site_of t.world y ≡ Some r)) → SiteOnce past2 sc.world y r
              go (inl q) = subst (λ m. SiteOnce past2 sc.world (record { 0 = m }) r) (sym q.0) (subst (SiteOnce past2 sc.world c) (sym q.1) (takes v cs c i site old same asks_next run was own))
              go (inr q) = stays y r q.1 at

          left : (c : ClientId) (old new : WorldClient) → site_of t.world c ≡ Some old → IsEmptied old new → sc.world.clients ≡ with_numbered c.0 new t.world.clients → (y : ClientId) (r : WorldClient) → site_of sc.world y ≡ Some r → SiteOnce past2 sc.world y r
          left c old new was z clients y r at = go (set_cases t.world.clients c.0 y.0 old new r was (ap (λ w. numbered w y.0) (sym clients) ∙ at))
            where
              go : ((y.0 ≡ c.0) × (r ≡ new)) ⊎ ((y.0 ≢ c.0) × (site_of t.world y ≡ Some r)) → SiteOnce past2 sc.world y r
              go (inl q) = none_on y r (ap (λ (u : WorldClient). u.node.state.operations) q.1 ∙ z.operations)
              go (inr q) = stays y r q.1 at

  -- Each answer to what asked before the event is uncertain, or of a reply under its key.
  pub answered : (c : ClientId) (op : ℕ) (a : AppAnswer) → Has (seen.Answered c op a) sc.seen → Ended past t.world c op a
  answered = event_does t.world (λ s m at. (h.base.cuts.servers s m at).id) Result
      (λ u cs ms silent q c op a j. absurd (silent (seen.Answered c op a) (subst (λ (w : WorldTurn). Has (seen.Answered c op a) w.seen) (sym q) j)))
      (λ v cs c i site old same asks_next run was u l ans q d op a j. took v cs c i site old same asks_next run was (sym (ap (λ (w : WorldTurn). w.world.clients) q) ∙ l.clients ∙ ap (λ w. with_numbered c.0 (SiteAfter v c i site) w) cs) d op a (ans d op a (subst (λ (w : WorldTurn). Has (seen.Answered d op a) w.seen) (sym q) j)))
      (λ c old new was z u cs ms silent q d op a j. absurd (silent (seen.Answered d op a) (subst (λ (w : WorldTurn). Has (seen.Answered d op a) w.seen) (sym q) j))) e sc taken refl
    where
      Result : WorldTurn → Type 0
      Result u = u ≡ sc → (c : ClientId) (op : ℕ) (a : AppAnswer) → Has (seen.Answered c op a) sc.seen → Ended past t.world c op a

      took : (v : World) → v.clients ≡ t.world.clients → (c : ClientId) (i : ClientInput) (site old : WorldClient) → site.node ≡ old.node → NextAsk t.world i old site → site.node.running ≡ true → site_of t.world c ≡ Some old → sc.world.clients ≡ with_numbered c.0 (SiteAfter v c i site) t.world.clients →
          (d : ClientId) (op : ℕ) (a : AppAnswer) → Has (seen.Answered d op a) [] ⊎ AnswerOf c d op a (ClientTook v c i site).out → Ended past t.world d op a
      took v cs c i site old same asks_next run was clients d op a (inl j) = absurd j
      took v cs c i site old same asks_next run was clients d op a (inr z) =
          subst (λ y. Ended past t.world y op a) (sym z.client) (said v cs c i site old same asks_next run was (ap (λ w. numbered w c.0) clients ∙ numbered_own t.world.clients c.0 (SiteAfter v c i site) old was) op a z.answer)

-- The law.

-- the key of an operation that waits now
key_there : (past : List Step) (w : World) (c : ClientId) (s : ServerId) (life op : ℕ) (o : Option ClientSession) (x : ClientSession) (q : Request) → o ≡ Some x → x.requests.asked ≡ Some q → KeyOf past w c s life (view o) op → Key past w c s life x.epoch.0 q.number op
key_there past w c s life op o x q e f k = subst (λ r. KeyAt past w c s life x.epoch.0 r op) f (subst (λ o. KeyOf past w c s life (view o) op) e k)

pub now_key : (past : List Step) (w : World) → OnceHold past w → (c : ClientId) (op : ℕ) (u : ServerId) (life2 epoch2 number2 : ℕ) → WaitsUnder w c u life2 epoch2 number2 op → (k : Asked past w c op) → SameKey k.server u k.life_ k.epoch_ k.number_ life2 epoch2 number2
now_key past w d c op u life2 epoch2 number2 b k = same
  where
    is_here : cs.is_asked b.association.server b.operation ≡ true
    is_here = subst (λ z. cs.is_asked z b.operation ≡ true) (sym b.server) b.asked

    key : Key past w c b.association.server b.association.life.0 b.session.epoch.0 b.request.number op
    key = key_there past w c b.association.server b.association.life.0 op b.association.session b.session b.request b.has b.outstanding
        (subst (KeyOf past w c b.association.server b.association.life.0 (view b.association.session)) b.is
        ((d.sites c b.site b.at).asked b.association b.among b.operation b.there (subst (Asked past w c) (sym b.is) k) is_here))

    found : SameKey k.server b.association.server k.life_ k.epoch_ k.number_ b.association.life.0 b.session.epoch.0 b.request.number
    found = key k

    same : SameKey k.server u k.life_ k.epoch_ k.number_ life2 epoch2 number2
    same = record { server = found.server ∙ b.server; life_ = found.life_ ∙ b.of_life; epoch_ = found.epoch_ ∙ b.of_epoch; number_ = found.number_ ∙ b.under }

ask_once : (past : List Step) (x : Step) → OnceHold (past ++ x ∷ []) x.after.world → OperationsAskOnce past x
ask_once past x d y i c s u life epoch number life2 epoch2 number2 op a b =
    now_key (past ++ x ∷ []) x.after.world d c op u life2 epoch2 number2 b (record { at = y.after.world; among = inl (y, i, refl); server = s; life_ = life; epoch_ = epoch; number_ = number; waits = a })

-- What holds after every event, with what holds of cuts and of names.
pub record NamesHold (k : Config) (count : ℕ) (past : List Step) (t : Traced) : Type 0 where
  pub all : AllHold k count past t
  pub once : OnceHold past t.world

pub one : (k : Config) (count : ℕ) (past : List Step) (t : Traced) (e : Event) (sc : WorldTurn) → is_event count e ≡ true → NamesHold k count past t → world_step t.world e ≡ Ok sc → OperationsAskOnce past (step t e sc) × NamesHold k count (past ++ step t e sc ∷ []) (traced_after e t sc)
one k count past t e sc r h taken = (ask_once past (step t e sc) next, record { all = (laws.holds_on k count past t e sc r h.all taken).0; once = next })
  where
    n : AllHold k count (past ++ step t e sc ∷ []) (traced_after e t sc)
    n = (laws.holds_on k count past t e sc r h.all taken).0

    next : OnceHold (past ++ step t e sc ∷ []) sc.world
    next = once_on k count past t e sc h.all n taken h.once

-- what is known of messages after an event is what followed from what held before it
pub same_ghosts : (k : Config) (count : ℕ) (past : List Step) (t : Traced) (e : Event) (sc : WorldTurn) (r : is_event count e ≡ true) (h : NamesHold k count past t) (taken : world_step t.world e ≡ Ok sc) →
    (one k count past t e sc r h taken).1.all.base.all ≡ (followed k count past t e sc r h.all.base taken).after
unfolding one
same_ghosts k count past t e sc r h taken = (laws.holds_on k count past t e sc r h.all taken).1

-- The start: nobody waits, and nothing was sent.
pub none_waits : (k : base.Config) (clients servers disks blocks form : ℕ) (c : ClientId) (op : ℕ) (s : ServerId) (life epoch number : ℕ) → WaitsUnder (fresh_world k clients servers disks blocks form) c s life epoch number op → ⊥
unfolding fresh_world cl.fresh_client
none_waits k clients servers disks blocks form c op s life epoch number z = empty z.site.node.state.operations (ap (λ (y : WorldClient). y.node.state.operations) (site_is k clients servers c.0 z.site z.at).0) z.operation z.there
  where
    empty : (os : List Operation) → os ≡ [] → (o : Operation) → Has o os → ⊥
    empty [] q o i = absurd i
    empty (x ∷ os) q o i = cc q

pub none_sent : (k : base.Config) (clients servers disks blocks form : ℕ) (m : Message) → Has m (messages (fresh_world k clients servers disks blocks form)) → ⊥
unfolding fresh_world
none_sent k clients servers disks blocks form m i = i

pub names_begin : (k : base.Config) (clients servers disks blocks form : ℕ) → IsHead k clients servers disks blocks form → NamesHold (terms_of k) (clients + servers) [] (traced (fresh_world k clients servers disks blocks form))
unfolding fresh_world cl.fresh_client
names_begin k clients servers disks blocks form head = record { all = begins k clients servers disks blocks form head; once = record { sites = λ c site e. sites c site e; known = λ c op a. absurd (none c op a) } }
  where
    w : World
    w = fresh_world k clients servers disks blocks form

    empty : {A : Type 0} (os : List Operation) → os ≡ [] → (o : Operation) → Has o os → A
    empty [] q o i = absurd i
    empty (x ∷ os) q o i = cc q

    no_operation : (c : ClientId) (site : WorldClient) → site_of w c ≡ Some site → (o : Operation) → Has o site.node.state.operations → ⊥
    no_operation c site e o i = empty site.node.state.operations (ap (λ (y : WorldClient). y.node.state.operations) (site_is k clients servers c.0 site e).0) o i

    sites : (c : ClientId) (site : WorldClient) → site_of w c ≡ Some site → SiteOnce [] w c site
    sites c site e = record { kind = λ o i a. absurd (no_operation c site e o i); sent = λ b j o i a q. absurd (no_operation c site e o i); asked = λ b j o i a q. absurd (no_operation c site e o i); stuck = λ b j o i q g. absurd (no_operation c site e o i) }

    waits_none : (c : ClientId) (op : ℕ) (s : ServerId) (life epoch number : ℕ) → WaitsUnder w c s life epoch number op → ⊥
    waits_none c op s life epoch number z = no_operation c z.site z.at z.operation z.there

    none : (c : ClientId) (op : ℕ) → Asked [] w c op → ⊥
    none c op a = go a.among
      where
        go : Worlds [] w a.at → ⊥
        go (inl z) = absurd z.1
        go (inr q) = waits_none c op a.server a.life_ a.epoch_ a.number_ (subst (λ v. WaitsUnder v c a.server a.life_ a.epoch_ a.number_ op) q a.waits)

pub operations_ask_once : InEveryRun OperationsAskOnce
operations_ask_once k clients servers disks blocks form es head events =
    throughout_events (clients + servers) OperationsAskOnce (NamesHold (terms_of k) (clients + servers)) (one (terms_of k) (clients + servers)) es events [] (traced (fresh_world k clients servers disks blocks form)) (names_begin k clients servers disks blocks form head)
