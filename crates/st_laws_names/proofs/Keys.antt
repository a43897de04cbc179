-- One operation and one body under a key: after every event. The request of each operation that waited was sent, and is what was asked under the operation's
-- number.
use Rattle.st_lemmas.proofs.Words
use Words.{◌≡◌, ◌≢◌, ◌⊎◌, ℕ, ◌≤◌, ◌<◌, Bool, true, List, [], ◌∷◌, ◌++◌, Option, Some, None, Ok, refl, sym, ap, ◌∙◌, subst, inl, inr, arith, ClientId, ServerId}
use Words.{Stamp, AppAnswer, Ask, Event, Body, Message, ClientInput, Operation, Request}
use Words.nodes
use Words.answers
use Words.outputs
use Words.inputs
use Words.seen
use Words.Client as cl
use Words.ClientState as cs
use Words.ClientState.{Association, ClientSession, client_turn}
use Words.Events.{WorldTurn, world_step}
use Words.History.{Traced, traced_after}
use Words.Keys.{server_node}
use Words.Safety.{Step, step}
use Words.World.{WorldClient, World, clock_of, fresh_world, numbered, site_of, with_numbered}
use Words.Lists.{Has}
use Words.Lookups.{some_is}
use Words.Numbers.{numbered_below, numbered_other, numbered_own}
use Words.Tables.{has_append, same_or_not}
use Words.Members.{has_right}
use Rattle.st_base.specs.declared.config.Config as base
use Rattle.st_protocol.specs.Assoc.{Config}
use Rattle.st_laws_steps.specs.Lives.Lives.{LifeNext, NodeHolds}
use Rattle.st_laws_steps.proofs.Client.Stepping.{step_lives}
use Rattle.st_laws_leases.specs.Dates.Dates.{messages}
use Rattle.st_laws_leases.proofs.Dates.Leaving.{set_cases}
use Rattle.st_laws_requests.specs.Cuts.Cuts.{AsksFor, AssociationOk, Between, Keyed, SentIn, Waits, WaitsAt, asks_of}
use Rattle.st_laws_requests.specs.Cuts.Cuts as cuts
use Rattle.st_laws_requests.proofs.Cuts.Keeping.{Answers, SaidOf, Sent, asked_of}
use Rattle.st_laws_requests.proofs.Cuts.Seen.{AnswerOf}
use Rattle.st_laws_requests.proofs.Cuts.Step.{Held, onces, stepped}
use Rattle.st_laws_requests.proofs.Cuts.Step as steps
use Rattle.st_laws_requests.proofs.Cuts.World.{numbers_map}
use Rattle.st_laws_requests.proofs.Replies.EachEvent.{ClientTook, Comes, SiteAfter}
use Rattle.st_laws_cuts.proofs.Events.{IsEmptied, NextAsk, event_does}
use Rattle.st_laws_cuts.proofs.Law.{AllHold}
use Rattle.st_laws_cuts.proofs.Words.{asked_more}
use Rattle.st_promises.specs.NameAnswers.{is_of_names}
use Rattle.st_laws_names.specs.Keys.{RepliesTo}
use Rattle.st_laws_names.specs.OutstandingKeys.{SameKey, WaitsUnder}
use Rattle.st_laws_names.proofs.World.{Asked, Worlds, none_waits, waits_at}
use Rattle.st_laws_steps.proofs.Client.Noting.{pair_has}

-- All operations that waited under one key are the same.
abbrev pub OneOperations : List Step → World → Type 0
OneOperations past w = (c : ClientId) (op n : ℕ) (a : Asked past w c op) (b : Asked past w c n) → SameKey a.server b.server a.life_ a.epoch_ a.number_ b.life_ b.epoch_ b.number_ → op ≡ n

-- the request of an operation that waited was sent, and is what was asked under its number
pub record IsRequested (past : List Step) (w : World) (c : ClientId) (op : ℕ) (s : ServerId) (life epoch number : ℕ) : Type 0 where
  pub message : Message
  pub among : Has message (messages w)
  pub keyed : Keyed c s life epoch number message
  pub first : 1 ≤ number
  pub ask : Ask
  pub asked : numbered (asks_of past c) op ≡ Some ask
  pub of : cs.server_of ask ≡ s
  pub means : AsksFor ask message.body

-- an answer that only a reply tells
abbrev pub is_told : AppAnswer → Bool
is_told answers.Cut = true
is_told a = is_of_names a

-- What waited was answered so by a reply under its key.
pub record IsTold (past : List Step) (w : World) (c : ClientId) (op : ℕ) (a : AppAnswer) : Type 0 where
  pub k : Asked past w c op
  pub message : Message
  pub among : Has message (messages w)
  pub replies : RepliesTo c k.server k.life_ k.epoch_ k.number_ message
  pub says : Answers message.body a

-- a client has an association with a server
pub record Place (w : World) (c : ClientId) (s : ServerId) : Type 0 where
  pub site : WorldClient
  pub at : site_of w c ≡ Some site
  pub association : Association
  pub among : Has association site.node.state.associations
  pub server : association.server ≡ s

-- What holds after every event.
pub record KeysHold (past : List Step) (w : World) : Type 0 where
  pub places : (c : ClientId) (op : ℕ) (k : Asked past w c op) → Place w c k.server
  pub one : OneOperations past w
  pub requested : (c : ClientId) (op : ℕ) (k : Asked past w c op) → IsRequested past w c op k.server k.life_ k.epoch_ k.number_

-- Messages of one key have one body if the client has an association with the server.
pub one_body : (k : Config) (count : ℕ) (past : List Step) (t : Traced) → AllHold k count past t → (c : ClientId) (s : ServerId) → Place t.world c s → (life epoch number : ℕ) → 1 ≤ number → (m p : Message) → Has m (messages t.world) → Has p (messages t.world) →
    Keyed c s life epoch number m → Keyed c s life epoch number p → m.body ≡ p.body
one_body k count past t h c s z life epoch number pos m p i j a b =
    (h.base.cuts.clients c z.site z.at).one z.association z.among m p i j (subst (λ (v : ServerId). Between c v m) (sym z.server) a.between) (subst (λ (v : ServerId). Between c v p) (sym z.server) b.between)
    (a.of_life ∙ sym b.of_life) (a.of_epoch ∙ sym b.of_epoch) (a.under ∙ sym b.under) (let y = a.under in omega (arith, y, pos))

pub key_back : (s u : ServerId) (life epoch number life2 epoch2 number2 : ℕ) → SameKey s u life epoch number life2 epoch2 number2 → SameKey u s life2 epoch2 number2 life epoch number
key_back s u life epoch number life2 epoch2 number2 k = record { server = sym k.server; life_ = sym k.life_; epoch_ = sym k.epoch_; number_ = sym k.number_ }

-- a message of a key is one of the same key
pub keyed_same : (c : ClientId) (s u : ServerId) (life epoch number life2 epoch2 number2 : ℕ) (m : Message) → SameKey s u life epoch number life2 epoch2 number2 → Keyed c s life epoch number m → Keyed c u life2 epoch2 number2 m
keyed_same c s u life epoch number life2 epoch2 number2 m k z =
    record { between = subst (λ (v : ServerId). Between c v m) k.server z.between; of_life = z.of_life ∙ k.life_; of_epoch = z.of_epoch ∙ k.epoch_; under = z.under ∙ k.number_ }

module _ (k : Config) (count : ℕ) (past : List Step) (t : Traced) (e : Event) (sc : WorldTurn) (h : AllHold k count past t) (n : AllHold k count (past ++ step t e sc ∷ []) (traced_after e t sc)) (taken : world_step t.world e ≡ Ok sc) (d : KeysHold past t.world) where
  abbrev past2 : List Step
  past2 = past ++ step t e sc ∷ []

  abbrev M : List Message
  M = messages t.world

  grown : (m : Message) → Has m (messages t.world) → Has m (messages sc.world)
  grown m i = n.base.cuts.grown (step t e sc) (has_right past (step t e sc ∷ []) (step t e sc) (inl refl)) m i

  which : (v : World) → Worlds past2 sc.world v → Worlds past t.world v ⊎ (v ≡ sc.world)
  which v (inr q) = inr q
  which v (inl z) = go (has_append past _ z.0 z.1)
    where
      go : Has z.0 past ⊎ Has z.0 (step t e sc ∷ []) → Worlds past t.world v ⊎ (v ≡ sc.world)
      go (inl i) = inl (inl (z.0, i, z.2))
      go (inr (inl q)) = inr (z.2 ∙ ap (λ (y : Step). y.after.world) q)
      go (inr (inr i)) = absurd i

  -- it waited under this key before
  abbrev Before : ClientId → ℕ → ServerId → ℕ → ℕ → ℕ → Type 0
  Before c op s life epoch number = (k : Asked past t.world c op) × SameKey k.server s k.life_ k.epoch_ k.number_ life epoch number

  -- whoever waited under a key before is this operation, and it did, or nothing was sent under it
  record Only (c : ClientId) (s : ServerId) (life epoch number op : ℕ) : Type 0 where
    pub only : (p : ℕ) (b : Asked past t.world c p) → SameKey b.server s b.life_ b.epoch_ b.number_ life epoch number → p ≡ op
    pub was : ((m : Message) → Has m M → Keyed c s life epoch number m → ⊥) ⊎ Before c op s life epoch number

  -- what became of a client: it stays, takes a step, or has no operation
  record Took (c : ClientId) (site : WorldClient) : Type 0 where
    pub run : site.node.running ≡ true
    pub waits : (a : Association) → Has a site.node.state.associations → (o : Operation) → Has o site.node.state.operations → cs.is_asked a.server o ≡ true → Waits (Only c) a.server a.life.0 (cuts.view a.session) o

  abbrev Fate : ClientId → WorldClient → Type 0
  Fate c site = (site_of t.world c ≡ Some site) ⊎ (Took c site ⊎ (site.node.state.operations ≡ []))

  -- A client that takes a step.
  module _ (c : ClientId) (i : ClientInput) (now : Stamp) (site old : WorldClient) (same : site.node ≡ old.node) (next : Comes t.world i) (run : site.node.running ≡ true) (was : site_of t.world c ≡ Some old) where
    abbrev Any : ℕ → Ask → Type 0
    Any op ask = Unit {0}

    abbrev Done : ℕ → Ask → AppAnswer → Type 0
    Done op ask a = IsTold past t.world c op a

    -- a reply to a request that was sent
    record Told (m : Message) (b : Body) (s : ServerId) : Type 0 where
      pub body : b ≡ m.body
      pub among : Has m M
      pub from : m.header.from ≡ server_node s
      pub to : m.header.to ≡ c.0
      pub by : Message
      pub sent : Has by M
      pub keyed : Keyed c s m.header.life m.header.epoch m.header.number by

    node : NodeHolds t.world.config t.world.clocks t.world.ended c old.node
    node = h.base.cuts.fates.lives.lives.sites c old was

    -- a key under which nothing was sent
    fresh : (s : ServerId) (life epoch number op : ℕ) → ((m : Message) → Has m M → Keyed c s life epoch number m → ⊥) → Only c s life epoch number op
    fresh s life epoch number op none =
        record {
          only = λ p b q. let z = d.requested c p b in absurd (none z.message z.among (keyed_same c b.server s b.life_ b.epoch_ b.number_ life epoch number z.message q z.keyed));
          was = inl none;
        }

    ends : (m : Message) (s : ServerId) (b : Body) (a : AppAnswer) → Told m b s → Answers b a → (q : Request) (o : Operation) → cs.server_of o.ask ≡ s → 1 ≤ q.number → m.header.number ≡ q.number → AsksFor o.ask q.body → cs.fits b q.body ≡ true →
        ((y : Message) → Has y M → Keyed c s m.header.life m.header.epoch q.number y → y.body ≡ q.body) → Only c s m.header.life m.header.epoch q.number o.op → Done o.op o.ask a
    ends m s b a told its q o of l nm asks_it fit same_body mark = go mark.was
      where
        key : Keyed c s m.header.life m.header.epoch q.number told.by
        key = subst (λ n. Keyed c s m.header.life m.header.epoch n told.by) nm told.keyed

        go : ((y : Message) → Has y M → Keyed c s m.header.life m.header.epoch q.number y → ⊥) ⊎ Before c o.op s m.header.life m.header.epoch q.number → Done o.op o.ask a
        go (inl none) = absurd (none told.by told.sent key)
        go (inr z) =
            record {
              k = z.0;
              message = m;
              among = told.among;
              replies = record { from = told.from ∙ ap server_node (sym z.1.server); to = told.to; of_life = sym z.1.life_; of_epoch = sym z.1.epoch_; under = nm ∙ sym z.1.number_ };
              says = subst (λ y. Answers y a) told.body its;
            }

    input : (j : ClientInput) → Comes t.world j → steps.InputOk M c Any (Only c) Done fresh Told ends j
    input inputs.Tick g = tt
    input (inputs.App op ask) g = tt
    input (inputs.Control m) g = λ to f s r.
        let z = h.base.cuts.acks m g f s r in
        record { body = refl; among = g; from = r; to = to; by = z.by; sent = z.among; keyed = subst (λ n. Keyed (record { 0 = n }) s m.header.life m.header.epoch m.header.number z.by) to z.is }
    input (inputs.Done number result) g = tt

    ok : (a : Association) → Has a old.node.state.associations → AssociationOk past M c old.node.state.operations a
    ok a j = (h.base.cuts.clients c old was).all (ap (λ (m : cl.ClientNode). m.running) (sym same) ∙ run) a j

    -- an operation that waits is the one that did so before
    only : (a : Association) → Has a old.node.state.associations → (o : Operation) → Has o old.node.state.operations → cs.is_asked a.server o ≡ true → Waits (Only c) a.server a.life.0 (cuts.view a.session) o
    only a j o l q = go a.session refl ((ok a j).waits o l q)
      where
        by : (x : ClientSession) → a.session ≡ Some x → (r : Option Request) → x.requests.asked ≡ r → WaitsAt (cuts.Early past c) a.server a.life.0 x.epoch.0 r o → WaitsAt (Only c) a.server a.life.0 x.epoch.0 r o
        by x f None g w = w
        by x f (Some r) g w = (
          w.0,
          record {
            only = λ p b key. d.one c p o.op b waited key;
            was = inr (waited, record { server = refl; life_ = refl; epoch_ = refl; number_ = refl });
          },
        )
          where
            waited : Asked past t.world c o.op
            waited = record { at = t.world; among = inr refl; server = a.server; life_ = a.life.0; epoch_ = x.epoch.0; number_ = r.number; waits = waits_at t.world c old was a j o l q x f r g }

        go : (x : Option ClientSession) → a.session ≡ x → Waits (cuts.Early past c) a.server a.life.0 (cuts.view x) o → Waits (Only c) a.server a.life.0 (cuts.view x) o
        go None f w = w
        go (Some x) f w = by x f x.requests.asked refl w

    begins : Held M c Any (Only c) Done [] (client_turn site.node.state [])
    begins = subst (λ (m : cl.ClientNode). Held M c Any (Only c) Done [] (client_turn m.state [])) (sym same)
        (record {
          id_ = node.id;
          asked = λ o j. tt;
          done = λ a j.
              record {
                numbers = numbers_map (λ m. Has m M) (Sent M c Any (Only c) Done []) c a.server a.life.0 (cuts.view a.session) (λ m i b. sent m i) (λ m i. inl i) (ok a j).numbers;
                waits = λ o l q. only a j o l q;
                alone = (ok a j).alone;
              };
          todo = λ a j. absurd j;
          said = λ op a j. absurd j;
          from = λ m j. absurd j;
          once_done = onces old.node.state.associations node.once;
          once_todo = tt;
          apart = λ a b j l q. absurd l;
        })
      where
        sent : (m : Message) → Has m M ⊎ ⊥ → Has m M
        sent m (inl i) = i
        sent m (inr i) = absurd i

    takes : Held M c Any (Only c) Done [] (cl.client_step site.node.state now i)
    takes = stepped M c Any (Only c) Done fresh Told ends site.node.state now i (input i next) begins

  -- a message that comes was sent
  comes : (c : ClientId) (i : ClientInput) (site old : WorldClient) → NextAsk t.world i old site → Comes t.world i
  comes c inputs.Tick site old g = tt
  comes c (inputs.App op ask) site old g = tt
  comes c (inputs.Control m) site old g = g
  comes c (inputs.Done number result) site old g = tt

  -- what a client sends in a step is its own
  pub sends_own : (c : ClientId) (i : ClientInput) (now : Stamp) (site old : WorldClient) → site.node ≡ old.node → Comes t.world i → site.node.running ≡ true → site_of t.world c ≡ Some old → (m : Message) →
      Has (outputs.Send m) (cl.client_step site.node.state now i).out → m.header.from ≡ c.0
  sends_own c i now site old same next run was m j = (takes c i now site old same next run was).from m j

  fate : (c : ClientId) (site : WorldClient) → site_of sc.world c ≡ Some site → Fate c site
  fate =
      event_does t.world (λ s m at. (h.base.cuts.servers s m at).id) Result
      (λ u cs ms silent q c site at. inl (ap (λ z. numbered z c.0) (sym cs ∙ ap (λ (w : WorldTurn). w.world.clients) q) ∙ at))
      (λ v cs c i site old same asks_next run was u l ans q y r at.
      took v c i site old same (comes c i site old asks_next) run was (sym (ap (λ (w : WorldTurn). w.world.clients) q) ∙ l.clients ∙ ap (λ w. with_numbered c.0 (SiteAfter v c i site) w) cs) y r at)
      (λ c old new was z u cs ms silent q y r at. left c old new was z (sym (ap (λ (w : WorldTurn). w.world.clients) q) ∙ cs) y r at) e sc taken refl
    where
      Result : WorldTurn → Type 0
      Result u = u ≡ sc → (c : ClientId) (site : WorldClient) → site_of sc.world c ≡ Some site → Fate c site

      took : (v : World) (c : ClientId) (i : ClientInput) (site old : WorldClient) → site.node ≡ old.node → Comes t.world i → site.node.running ≡ true → site_of t.world c ≡ Some old → sc.world.clients ≡ with_numbered c.0 (SiteAfter v c i site) t.world.clients →
          (y : ClientId) (r : WorldClient) → site_of sc.world y ≡ Some r → Fate y r
      took v c i site old same next run was clients y r at = go (set_cases t.world.clients c.0 y.0 old (SiteAfter v c i site) r was (ap (λ w. numbered w y.0) (sym clients) ∙ at))
        where
          own : Took c (SiteAfter v c i site)
          own = record { run = run; waits = λ a j. ((takes c i (clock_of v (nodes.Client c)) site old same next run was).done a j).waits }

          go : ((y.0 ≡ c.0) × (r ≡ SiteAfter v c i site)) ⊎ ((y.0 ≢ c.0) × (site_of t.world y ≡ Some r)) → Fate y r
          go (inl q) = inr (inl (subst (λ m. Took (record { 0 = m }) r) (sym q.0) (subst (Took c) (sym q.1) own)))
          go (inr q) = inl q.1

      left : (c : ClientId) (old new : WorldClient) → site_of t.world c ≡ Some old → IsEmptied old new → sc.world.clients ≡ with_numbered c.0 new t.world.clients → (y : ClientId) (r : WorldClient) → site_of sc.world y ≡ Some r → Fate y r
      left c old new was z clients y r at = go (set_cases t.world.clients c.0 y.0 old new r was (ap (λ w. numbered w y.0) (sym clients) ∙ at))
        where
          go : ((y.0 ≡ c.0) × (r ≡ new)) ⊎ ((y.0 ≢ c.0) × (site_of t.world y ≡ Some r)) → Fate y r
          go (inl q) = inr (inr (ap (λ (u : WorldClient). u.node.state.operations) q.1 ∙ z.operations))
          go (inr q) = inl q.1

  -- An association that a client had it has after the event.
  place_on : (c : ClientId) (s : ServerId) → Place t.world c s → Place sc.world c s
  place_on =
      event_does t.world (λ s m at. (h.base.cuts.servers s m at).id) Result
      (λ u cs ms silent q c s z. record { site = z.site; at = ap (λ (w : WorldTurn). numbered w.world.clients c.0) (sym q) ∙ ap (λ w. numbered w c.0) cs ∙ z.at; association = z.association; among = z.among; server = z.server })
      (λ v cs c i site old same asks_next run was u l ans q y s z. took v c i site old same was (sym (ap (λ (w : WorldTurn). w.world.clients) q) ∙ l.clients ∙ ap (λ w. with_numbered c.0 (SiteAfter v c i site) w) cs) y s z)
      (λ c old new was g u cs ms silent q y s z. left c old new was g (sym (ap (λ (w : WorldTurn). w.world.clients) q) ∙ cs) y s z) e sc taken refl
    where
      Result : WorldTurn → Type 0
      Result u = u ≡ sc → (c : ClientId) (s : ServerId) → Place t.world c s → Place sc.world c s

      -- another client is put at its place
      placed : (c : ClientId) (old new : WorldClient) → site_of t.world c ≡ Some old → sc.world.clients ≡ with_numbered c.0 new t.world.clients → ((a : Association) → Has a old.node.state.associations → (b : Association) × Has b new.node.state.associations × (b.server ≡ a.server)) →
          (y : ClientId) (s : ServerId) → Place t.world y s → Place sc.world y s
      placed c old new was clients kept y s z = go (same_or_not y.0 c.0)
        where
          own : y.0 ≡ c.0 → Place sc.world y s
          own e =
              let is : z.site ≡ old = some_is (sym z.at ∙ ap (λ m. numbered t.world.clients m) e ∙ was) in
              let b = kept z.association (subst (λ (v : WorldClient). Has z.association v.node.state.associations) is z.among) in
              record { site = new; at = ap (λ m. numbered sc.world.clients m) e ∙ ap (λ w. numbered w c.0) clients ∙ numbered_own t.world.clients c.0 new old was; association = b.0; among = b.1; server = b.2 ∙ z.server }

          go : (y.0 ≡ c.0) ⊎ (y.0 ≢ c.0) → Place sc.world y s
          go (inl e) = own e
          go (inr ne) =
              record {
                site = z.site;
                at = ap (λ w. numbered w y.0) clients ∙ numbered_other t.world.clients c.0 y.0 new (numbered_below t.world.clients c.0 old was).0 ne ∙ z.at;
                association = z.association;
                among = z.among;
                server = z.server;
              }

      took : (v : World) (c : ClientId) (i : ClientInput) (site old : WorldClient) → site.node ≡ old.node → site_of t.world c ≡ Some old → sc.world.clients ≡ with_numbered c.0 (SiteAfter v c i site) t.world.clients → (y : ClientId) (s : ServerId) → Place t.world y s → Place sc.world y s
      took v c i site old same was clients = placed c old (SiteAfter v c i site) was clients kept
        where
          node : NodeHolds t.world.config t.world.clocks t.world.ended c site.node
          node = subst (NodeHolds t.world.config t.world.clocks t.world.ended c) (sym same) (h.base.cuts.fates.lives.lives.sites c old was)

          kept : (a : Association) → Has a old.node.state.associations → (b : Association) × Has b (SiteAfter v c i site).node.state.associations × (b.server ≡ a.server)
          kept a j =
              let b = pair_has (LifeNext (clock_of v (nodes.Client c)) site.node.state) site.node.state.associations (ClientTook v c i site).state.associations (step_lives c site.node.state (clock_of v (nodes.Client c)) i node.fit).pairs a
              (subst (λ (m : cl.ClientNode). Has a m.state.associations) (sym same) j) in
              (b.0, b.1, sym b.2.server)

      left : (c : ClientId) (old new : WorldClient) → site_of t.world c ≡ Some old → IsEmptied old new → sc.world.clients ≡ with_numbered c.0 new t.world.clients → (y : ClientId) (s : ServerId) → Place t.world y s → Place sc.world y s
      left c old new was g clients = placed c old new was clients g.kept

  -- An operation that waits after the event waited before it, or its client took a step.
  module _ (c : ClientId) (s : ServerId) (life epoch number op : ℕ) (w : WaitsUnder sc.world c s life epoch number op) where
    abbrev Now : Type 0
    Now = WaitsUnder t.world c s life epoch number op ⊎ Took c w.site

    now_waits : Now
    now_waits = go (fate c w.site w.at)
      where
        empty : {A : Type 0} (os : List Operation) → os ≡ [] → (o : Operation) → Has o os → A
        empty [] q o i = absurd i
        empty (x ∷ os) q o i = cc q

        go : Fate c w.site → Now
        go (inl was) =
            inl (record {
              site = w.site;
              at = was;
              operation = w.operation;
              there = w.there;
              is = w.is;
              asked = w.asked;
              association = w.association;
              among = w.among;
              server = w.server;
              of_life = w.of_life;
              session = w.session;
              has = w.has;
              of_epoch = w.of_epoch;
              request = w.request;
              outstanding = w.outstanding;
              under = w.under;
            })
        go (inr (inl z)) = inr z
        go (inr (inr q)) = empty w.site.node.state.operations q w.operation w.there

    -- when it took a step
    module _ (z : Took c w.site) where
      good : AssociationOk past2 (messages sc.world) c w.site.node.state.operations w.association
      good = (n.base.cuts.clients c w.site w.at).all z.run w.association w.among

      here : cs.is_asked w.association.server w.operation ≡ true
      here = subst (λ v. cs.is_asked v w.operation ≡ true) (sym w.server) w.asked

      own_key : SameKey w.association.server s w.association.life.0 w.session.epoch.0 w.request.number life epoch number
      own_key = record { server = w.server; life_ = w.of_life; epoch_ = w.of_epoch; number_ = w.under }

      of_session : (P : Option (ℕ × cs.Requests) → Type 0) → P (cuts.view w.association.session) → P (Some (w.session.epoch.0, w.session.requests))
      of_session P x = subst (λ o. P (cuts.view o)) w.has x

      -- whoever waited under its key before is it
      only_it : (p : ℕ) (b : Asked past t.world c p) → SameKey b.server s b.life_ b.epoch_ b.number_ life epoch number → p ≡ op
      only_it p b q = waits.1.only p b (join q) ∙ w.is
        where
          waits : AsksFor w.operation.ask w.request.body × Only c w.association.server w.association.life.0 w.session.epoch.0 w.request.number w.operation.op
          waits = subst (λ o. WaitsAt (Only c) w.association.server w.association.life.0 w.session.epoch.0 o w.operation) w.outstanding
              (of_session (λ o. Waits (Only c) w.association.server w.association.life.0 o w.operation) (z.waits w.association w.among w.operation w.there here))

          join : SameKey b.server s b.life_ b.epoch_ b.number_ life epoch number → SameKey b.server w.association.server b.life_ b.epoch_ b.number_ w.association.life.0 w.session.epoch.0 w.request.number
          join q = record { server = q.server ∙ sym w.server; life_ = q.life_ ∙ sym w.of_life; epoch_ = q.epoch_ ∙ sym w.of_epoch; number_ = q.number_ ∙ sym w.under }

      -- its request was sent
      requests : IsRequested past2 sc.world c op s life epoch number
      requests =
          record {
            message = sent.0;
            among = sent.1;
            keyed = keyed_same c w.association.server s w.association.life.0 w.session.epoch.0 w.request.number life epoch number sent.0 own_key sent.2;
            first = let y = given.0 in let q = w.under in omega (arith, y, q);
            ask = w.operation.ask;
            asked = subst (λ m. numbered (asks_of past2 c) m ≡ Some w.operation.ask) w.is ((n.base.cuts.clients c w.site w.at).asked w.operation w.there);
            of = ap (λ m. record { 0 = m }) (Rattle.std.proofs.lemmas.Bool.eqb-true (cs.server_of w.operation.ask).0 s.0 (asked_of s w.operation w.asked).0);
            means = subst (AsksFor w.operation.ask) (sym body) waits.0;
          }
        where
          sent : (m : Message) × Has m (messages sc.world) × Keyed c w.association.server w.association.life.0 w.session.epoch.0 w.request.number m
          sent = subst (λ o. cuts.IsSent (λ m. Has m (messages sc.world)) c w.association.server w.association.life.0 w.session.epoch.0 o) w.outstanding
              (of_session (λ o. SentIn (λ m. Has m (messages sc.world)) c w.association.server w.association.life.0 o) good.numbers.sent)

          given : (1 ≤ w.request.number) × (w.request.number < w.session.requests.next)
          given = subst (cuts.Given w.session.requests.next) w.outstanding (of_session cuts.Counts good.numbers.counts).1

          waits : AsksFor w.operation.ask w.request.body × cuts.Early past2 c w.association.server w.association.life.0 w.session.epoch.0 w.request.number w.operation.op
          waits = subst (λ o. WaitsAt (cuts.Early past2 c) w.association.server w.association.life.0 w.session.epoch.0 o w.operation) w.outstanding
              (of_session (λ o. Waits (cuts.Early past2 c) w.association.server w.association.life.0 o w.operation) (good.waits w.operation w.there here))

          body : sent.0.body ≡ w.request.body
          body =
              let y = given.0 in
              let q = sent.2.under in
              subst (λ o. cuts.SameBody o sent.0) w.outstanding
              ((of_session (λ o. cuts.Placed w.association.life.0 o sent.0) (good.numbers.placed sent.0 sent.1 sent.2.between) sent.2.of_life (omega (arith, y, q))).same sent.2.of_epoch) sent.2.under

  -- Two operations that wait under one key after the event.
  now_one : (c : ClientId) (s u : ServerId) (life epoch number life2 epoch2 number2 op p : ℕ) (x : WaitsUnder sc.world c s life epoch number op) (y : WaitsUnder sc.world c u life2 epoch2 number2 p) → SameKey s u life epoch number life2 epoch2 number2 → Took c x.site → op ≡ p
  now_one c s u life epoch number life2 epoch2 number2 op p x y key z = sym x.is ∙ good.alone x.operation y.operation x.there there asked1 asked2 ∙ y.is
    where
      site : x.site ≡ y.site
      site = some_is (sym x.at ∙ y.at)

      good : AssociationOk past2 (messages sc.world) c x.site.node.state.operations x.association
      good = (n.base.cuts.clients c x.site x.at).all z.run x.association x.among

      there : Has y.operation x.site.node.state.operations
      there = subst (λ (v : WorldClient). Has y.operation v.node.state.operations) (sym site) y.there

      asked1 : cs.is_asked x.association.server x.operation ≡ true
      asked1 = subst (λ v. cs.is_asked v x.operation ≡ true) (sym x.server) x.asked

      asked2 : cs.is_asked x.association.server y.operation ≡ true
      asked2 = subst (λ v. cs.is_asked v y.operation ≡ true) (sym key.server ∙ sym x.server) y.asked

  at_now : (c : ClientId) (op : ℕ) (a : Asked past2 sc.world c op) → a.at ≡ sc.world → WaitsUnder sc.world c a.server a.life_ a.epoch_ a.number_ op
  at_now c op a q = subst (λ v. WaitsUnder v c a.server a.life_ a.epoch_ a.number_ op) q a.waits

  -- what waited in an earlier world, or waits now, of a client that took a step
  record Newly (c : ClientId) (op : ℕ) (s : ServerId) (life epoch number : ℕ) : Type 0 where
    pub waits : WaitsUnder sc.world c s life epoch number op
    pub took : Took c waits.site

  abbrev Either : ClientId → ℕ → ServerId → ℕ → ℕ → ℕ → Type 0
  Either c op s life epoch number = Before c op s life epoch number ⊎ Newly c op s life epoch number

  either : (c : ClientId) (op : ℕ) (a : Asked past2 sc.world c op) → Either c op a.server a.life_ a.epoch_ a.number_
  either c op a = go (which a.at a.among)
    where
      old : (u : World) → Worlds past t.world u → WaitsUnder u c a.server a.life_ a.epoch_ a.number_ op → Before c op a.server a.life_ a.epoch_ a.number_
      old u i w = (record { at = u; among = i; server = a.server; life_ = a.life_; epoch_ = a.epoch_; number_ = a.number_; waits = w }, record { server = refl; life_ = refl; epoch_ = refl; number_ = refl })

      now : (w : WaitsUnder sc.world c a.server a.life_ a.epoch_ a.number_ op) → WaitsUnder t.world c a.server a.life_ a.epoch_ a.number_ op ⊎ Took c w.site → Either c op a.server a.life_ a.epoch_ a.number_
      now w (inl z) = inl (old t.world (inr refl) z)
      now w (inr z) = inr (record { waits = w; took = z })

      go : Worlds past t.world a.at ⊎ (a.at ≡ sc.world) → Either c op a.server a.life_ a.epoch_ a.number_
      go (inl i) = inl (old a.at i a.waits)
      go (inr q) = now (at_now c op a q) (now_waits c a.server a.life_ a.epoch_ a.number_ op (at_now c op a q))

  key_then : (s u v : ServerId) (l1 e1 n1 l2 e2 n2 l3 e3 n3 : ℕ) → SameKey s u l1 e1 n1 l2 e2 n2 → SameKey u v l2 e2 n2 l3 e3 n3 → SameKey s v l1 e1 n1 l3 e3 n3
  key_then s u v l1 e1 n1 l2 e2 n2 l3 e3 n3 a b = record { server = a.server ∙ b.server; life_ = a.life_ ∙ b.life_; epoch_ = a.epoch_ ∙ b.epoch_; number_ = a.number_ ∙ b.number_ }

  one_on : OneOperations past2 sc.world
  one_on c op p a b key = go (either c op a) (either c p b)
    where
      back : SameKey b.server a.server b.life_ b.epoch_ b.number_ a.life_ a.epoch_ a.number_
      back = key_back a.server b.server a.life_ a.epoch_ a.number_ b.life_ b.epoch_ b.number_ key

      go : Either c op a.server a.life_ a.epoch_ a.number_ → Either c p b.server b.life_ b.epoch_ b.number_ → op ≡ p
      go (inl x) (inl y) =
          d.one c op p x.0 y.0
          (key_then x.0.server b.server y.0.server x.0.life_ x.0.epoch_ x.0.number_ b.life_ b.epoch_ b.number_ y.0.life_ y.0.epoch_ y.0.number_
          (key_then x.0.server a.server b.server x.0.life_ x.0.epoch_ x.0.number_ a.life_ a.epoch_ a.number_ b.life_ b.epoch_ b.number_ x.1 key)
          (key_back y.0.server b.server y.0.life_ y.0.epoch_ y.0.number_ b.life_ b.epoch_ b.number_ y.1))
      go (inl x) (inr y) =
          only_it c b.server b.life_ b.epoch_ b.number_ p y.waits y.took op x.0
          (key_then x.0.server a.server b.server x.0.life_ x.0.epoch_ x.0.number_ a.life_ a.epoch_ a.number_ b.life_ b.epoch_ b.number_ x.1 key)
      go (inr x) (inl y) =
          sym (only_it c a.server a.life_ a.epoch_ a.number_ op x.waits x.took p y.0
          (key_then y.0.server b.server a.server y.0.life_ y.0.epoch_ y.0.number_ b.life_ b.epoch_ b.number_ a.life_ a.epoch_ a.number_ y.1 back))
      go (inr x) (inr y) = now_one c a.server b.server a.life_ a.epoch_ a.number_ b.life_ b.epoch_ b.number_ op p x.waits y.waits key x.took

  places_on : (c : ClientId) (op : ℕ) (a : Asked past2 sc.world c op) → Place sc.world c a.server
  places_on c op a = go (either c op a)
    where
      go : Either c op a.server a.life_ a.epoch_ a.number_ → Place sc.world c a.server
      go (inl x) = subst (Place sc.world c) x.1.server (place_on c x.0.server (d.places c op x.0))
      go (inr x) = record { site = x.waits.site; at = x.waits.at; association = x.waits.association; among = x.waits.among; server = x.waits.server }

  requested_on : (c : ClientId) (op : ℕ) (a : Asked past2 sc.world c op) → IsRequested past2 sc.world c op a.server a.life_ a.epoch_ a.number_
  requested_on c op a = go (either c op a)
    where
      go : Either c op a.server a.life_ a.epoch_ a.number_ → IsRequested past2 sc.world c op a.server a.life_ a.epoch_ a.number_
      go (inr x) = requests c a.server a.life_ a.epoch_ a.number_ op x.waits x.took
      go (inl x) =
          let z = d.requested c op x.0 in
          record {
            message = z.message;
            among = grown z.message z.among;
            keyed = keyed_same c x.0.server a.server x.0.life_ x.0.epoch_ x.0.number_ a.life_ a.epoch_ a.number_ z.message x.1 z.keyed;
            first = let y = z.first in let q = x.1.number_ in omega (arith, y, q);
            ask = z.ask;
            asked = asked_more past (step t e sc) c op z.ask z.asked;
            of = z.of ∙ x.1.server;
            means = z.means;
          }

  -- What is answered so comes from a reply under the key of what waited.
  pub told_on : (c : ClientId) (op : ℕ) (a : AppAnswer) → Has (seen.Answered c op a) sc.seen → is_told a ≡ true → IsTold past t.world c op a
  told_on =
      event_does t.world (λ s m at. (h.base.cuts.servers s m at).id) Result
      (λ u cs ms silent q c op a j f. absurd (silent (seen.Answered c op a) (subst (λ (w : WorldTurn). Has (seen.Answered c op a) w.seen) (sym q) j)))
      (λ v cs c i site old same asks_next run was u l ans q y op a j f. took v c i site old same (comes c i site old asks_next) run was y op a (ans y op a (subst (λ (w : WorldTurn). Has (seen.Answered y op a) w.seen) (sym q) j)) f)
      (λ c old new was z u cs ms silent q y op a j f. absurd (silent (seen.Answered y op a) (subst (λ (w : WorldTurn). Has (seen.Answered y op a) w.seen) (sym q) j))) e sc taken refl
    where
      Result : WorldTurn → Type 0
      Result u = u ≡ sc → (c : ClientId) (op : ℕ) (a : AppAnswer) → Has (seen.Answered c op a) sc.seen → is_told a ≡ true → IsTold past t.world c op a

      took : (v : World) (c : ClientId) (i : ClientInput) (site old : WorldClient) → site.node ≡ old.node → Comes t.world i → site.node.running ≡ true → site_of t.world c ≡ Some old → (y : ClientId) (op : ℕ) (a : AppAnswer) →
          Has (seen.Answered y op a) [] ⊎ AnswerOf c y op a (ClientTook v c i site).out → is_told a ≡ true → IsTold past t.world y op a
      took v c i site old same next run was y op a (inl j) f = absurd j
      took v c i site old same next run was y op a (inr z) f =
          subst (λ v. IsTold past t.world v op a) (sym z.client) (said a f ((takes c i (clock_of v (nodes.Client c)) site old same next run was).said op a z.answer))
        where
          said : (a : AppAnswer) → is_told a ≡ true → SaidOf M c (Any c i (clock_of v (nodes.Client c)) site old same next run was) (Only c) (Done c i (clock_of v (nodes.Client c)) site old same next run was) op a → IsTold past t.world c op a
          said answers.Cut f x = x.2
          said (answers.Named ino) f x = x.2
          said (answers.Listed rows) f x = x.2
          said (answers.Refused code) f x = x.2
          said b f x = cc f

  pub keys_on : KeysHold (past ++ step t e sc ∷ []) sc.world
  keys_on = record { places = places_on; one = one_on; requested = requested_on }

-- At the start nobody waits.
pub keys_begin : (k : base.Config) (clients servers disks blocks form : ℕ) → KeysHold [] (fresh_world k clients servers disks blocks form)
keys_begin k clients servers disks blocks form = record { places = λ c op a. none c op a; one = λ c op n a b key. none c op a; requested = λ c op a. none c op a }
  where
    w : World
    w = fresh_world k clients servers disks blocks form

    none : {A : Type 0} (c : ClientId) (op : ℕ) → Asked [] w c op → A
    none c op a = go a.among
      where
        go : {A : Type 0} → Worlds [] w a.at → A
        go (inl z) = absurd z.1
        go (inr q) = absurd (none_waits k clients servers disks blocks form c op a.server a.life_ a.epoch_ a.number_ (subst (λ v. WaitsUnder v c a.server a.life_ a.epoch_ a.number_ op) q a.waits))
