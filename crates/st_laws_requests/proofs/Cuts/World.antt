-- Every event keeps what holds of requests and their replies.
use Rattle.st_lemmas.proofs.Words
use Words.{◌==◌, ◌≡◌, ◌≢◌, ℕ, ◌+◌, ◌≤◌, ◌⊎◌, Bool, true, false, not, List, [], ◌∷◌, ◌++◌, Option, Some, None, Ok, Err, refl, sym, ap, ◌∙◌, subst, inl, inr}
use Words.{arith, if◌then◌else◌, map, length, suc, nat_le, pred, cons_option, eqb-true, eq-eqb, le-leb, ClientId, ServerId, Stamp, FileId, GrantNo, PageNo}
use Words.{NameAsk, NodeId, Ask, AppAnswer, Body, Message, NameOp, NameReply, Event, ClientInput, Operation, Request, ServerInput, Session, SessionState}
use Words.{IssuedCommand, SentMessage}
use Words.nodes
use Words.asks
use Words.answers
use Words.bodies
use Words.replies
use Words.events
use Words.outputs
use Words.inputs
use Words.serving
use Words.seen
use Words.states
use Words.Keys.{client, server_node}
use Words.Admissible as adm
use Words.Client as cl
use Words.ClientPasses.{name_op}
use Words.ClientReplies.{name_answer}
use Words.ClientState as cs
use Words.ClientState.{Association, ClientTurn, client_turn}
use Words.Events as ev
use Words.Events.{WorldTurn}
use Words.History.{Traced}
use Words.Names.{Names}
use Words.Server as server
use Words.Server.{ServerNode}
use Words.World as world
use Words.World.{World, WorldClient, site_of, node_of, numbered, with_numbered, clock_of}
use Words.Safety as safety
use Words.Safety.{Step, ask_in, ask_of_client, cuts_after, is_after_ask, is_cut_at, step, was_cut}
use Words.Lists.{Has}
use Words.Numbers.{get_last, length_more, numbered_below, numbered_has, numbered_old, numbered_own, set_length}
use Words.Tables.{and_both, has_append, has_map, has_map_in, some_passes}
use Words.Members.{has_left, has_right}
use Words.Worlds.{client_at_node}
use Rattle.st_rules.specs.declared.node.StepRefusal.TheVariants.{Crashed}
use Rattle.st_laws_leases.specs.Dates.Dates.{message_in, messages}
use Rattle.st_laws_leases.proofs.Dates.Leaving.{Leaves, client_leaves, leaves_from, lost_same, server_leaves, server_not_client, set_cases}
use Rattle.st_laws_leases.proofs.Dates.SentMessages.{flushed}
use Rattle.st_laws_pages.proofs.Asks.World.{asks_more}
use Rattle.st_laws_steps.specs.Lives.Lives.{NodeHolds}
use Rattle.st_promises.specs.NameAnswers.{is_of_names, said}
use Rattle.st_laws_requests.specs.Cuts.Cuts.{Acked, AsksFor, Between, ClientOk, IsCutDone, IsDone, IsNameDone, IsNameSaid, CutsHold, Early, Fulfilled}
use Rattle.st_laws_requests.specs.Cuts.Cuts.{KeptState, Keyed, MeansNone, NameSaid, Numbers, OneBody, ServerOk, Waits, WaitsAt, asks_of, does, is_report, view}
use Rattle.st_laws_requests.specs.Cuts.Law.{CutsAreLogged, NameAskSaid, NamesAreSaid}
use Rattle.st_laws_requests.proofs.Cuts.Keeping.{Answers, SaidOf, Sent, sent_more}
use Rattle.st_laws_requests.proofs.Cuts.Step.{Held, onces, stepped}
use Rattle.st_laws_requests.proofs.Cuts.Server.{Acks, Before, Good, New, Noted, O, before_more, good_more, report_kind, served}
use Rattle.st_laws_requests.proofs.Cuts.Seen.{NoAnswers, none_answered, fates_none, server_none, cut_said, AnswerOf, answered_said, client_sends}

-- What stands for fewer steps and messages stands for more.
module _ (past : List Step) (x : Step) (ms ns : List Message) (f : (m : Message) → Has m ms → Has m ns) where
  done_more : (c : ClientId) (s : ServerId) (life epoch number : ℕ) (b r : Body) → Fulfilled past c s life epoch number b r → Fulfilled (past ++ x ∷ []) c s life epoch number b r
  done_more c s life epoch number (bodies.Cut ino g p) bodies.Ack h = record { at = h.at; among = has_left past _ h.at h.among; index = h.index; cut = h.cut; by = h.by; before = h.before; is = h.is }
  done_more c s life epoch number (bodies.Name op) (bodies.Named r) h =
      record { at = h.at; among = has_left past _ h.at h.among; old = h.old; was = h.was; new = h.new; became = h.became; did = h.did; by = h.by; before = h.before; is = h.is }
  done_more c s life epoch number b r h = tt

  pub acked_more : (c : ClientId) (s : ServerId) (life epoch number : ℕ) (r : Body) → Acked past ms c s life epoch number r → Acked (past ++ x ∷ []) ns c s life epoch number r
  acked_more c s life epoch number r a = record { by = a.by; among = f a.by a.among; is = a.is; done = done_more c s life epoch number a.by.body r a.done }

state_map : (A B : ℕ → Body → Type 0) → ((n : ℕ) (b : Body) → A n b → B n b) → (x : SessionState) → KeptState A x → KeptState B x
state_map A B f (states.Live last (Some b)) k = λ q. f last b (k q)
state_map A B f (states.Live last None) k = tt
state_map A B f states.Ended k = tt

waits_map : (E F : ServerId → ℕ → ℕ → ℕ → ℕ → Type 0) (s : ServerId) (life : ℕ) (v : Option (ℕ × cs.Requests)) (o : Operation) → ((epoch number : ℕ) → E s life epoch number o.op → F s life epoch number o.op) → Waits E s life v o → Waits F s life v o
waits_map E F s life None o f w = w
waits_map E F s life (Some v) o f w = go v.1.asked w
  where
    go : (q : Option Request) → WaitsAt E s life v.0 q o → WaitsAt F s life v.0 q o
    go None w = w
    go (Some q) w = (w.0, f v.0 q.number w.1)

pub numbers_map : (S T : Message → Type 0) (c : ClientId) (s : ServerId) (life : ℕ) (v : Option (ℕ × cs.Requests)) → ((m : Message) → T m → Between c s m → S m) → ((m : Message) → S m → T m) → Numbers S c s life v → Numbers T c s life v
numbers_map S T c s life v f g k =
    record { lives = λ m h b. k.lives m (f m h b) b; placed = λ m h b. k.placed m (f m h b) b; one = λ m p h i b d. k.one m p (f m h b) (f p i d) b d; sent = sent_more S T c s life v g k.sent; counts = k.counts }

module _ (past : List Step) (t : Traced) (e : Event) (d : CutsHold past t) where
  -- What an event leaves.
  pub record Next (sc : WorldTurn) : Type 0 where
    pub old : (m : Message) → Has m (messages t.world) → Has m (messages sc.world)
    pub new : (m : Message) → Has m (messages sc.world) → Has m (messages t.world) ⊎ (is_report m.body ≡ true → (s : ServerId) → m.header.from ≡ server_node s →
        Acked (past ++ step t e sc ∷ []) (messages sc.world) (client m.header.to) s m.header.life m.header.epoch m.header.number m.body)
    pub clients : (c : ClientId) (site : WorldClient) → site_of sc.world c ≡ Some site → ClientOk (past ++ step t e sc ∷ []) (messages sc.world) c site
    pub servers : (s : ServerId) (node : ServerNode) → node_of sc.world s ≡ Some node → ServerOk (past ++ step t e sc ∷ []) (messages sc.world) s node
    pub few : length sc.world.clients ≤ 16
    pub cuts : CutsAreLogged past (step t e sc)
    pub names : NamesAreSaid past (step t e sc)

  -- what a client was asked up to this event
  abbrev asked_now : ClientId → List Ask
  asked_now c = asks_of past c ++ cons_option (ask_in c e) []

  asked_all : (sc : WorldTurn) (c : ClientId) → asks_of (past ++ step t e sc ∷ []) c ≡ asked_now c
  asked_all sc c = asks_more past (step t e sc) c

  none_behind : {A : Type 0} (xs : List A) → xs ++ [] ≡ xs
  none_behind [] = refl
  none_behind (y ∷ ys) = ap (λ z. y ∷ z) (none_behind ys)

  asked_same : (c : ClientId) → ask_in c e ≡ None → asked_now c ≡ asks_of past c
  asked_same c q = ap (λ z. asks_of past c ++ cons_option z []) q ∙ none_behind (asks_of past c)

  -- an ask that was made before this event was made before its step
  early_more : (sc : WorldTurn) (c : ClientId) (site : WorldClient) → site_of t.world c ≡ Some site → (s : ServerId) (life epoch number op : ℕ) → op ≤ site.asks → Early past c s life epoch number op → Early (past ++ step t e sc ∷ []) c s life epoch number op
  early_more sc c site at s life epoch number op l k y m h i z = go (has_append past _ y h)
    where
      go : Has y past ⊎ Has y (step t e sc ∷ []) → is_after_ask c op y ≡ true
      go (inl j) = k y m j i z
      go (inr (inl q)) = subst (λ (v : Step). is_after_ask c op v ≡ true) (sym q) (subst (λ o. nat_le op (safety.asks_at o) ≡ true) (sym at) (le-leb op site.asks l))
      go (inr (inr j)) = absurd j

  -- a client of which nothing happens
  client_more : (sc : WorldTurn) (c : ClientId) (site : WorldClient) → ((m : Message) → Has m (messages t.world) → Has m (messages sc.world)) → ((m : Message) → Has m (messages sc.world) → Has m (messages t.world) ⊎ (m.header.from ≢ c.0)) → ask_in c e ≡ None → site_of t.world c ≡ Some site →
      ClientOk past (messages t.world) c site → ClientOk (past ++ step t e sc ∷ []) (messages sc.world) c site
  client_more sc c site old new q at k =
      record {
        count = ap length same ∙ k.count;
        asked = λ o h. ap (λ z. numbered z o.op) same ∙ k.asked o h;
        lives = λ a h m i b. k.lives a h m (was m i b.0) b;
        one = λ a h m p i j b d. k.one a h m p (was m i b.0) (was p j d.0) b d;
        all = λ run a h. let z = k.all run a h in
            record {
              numbers = numbers_map (λ m. Has m (messages t.world)) (λ m. Has m (messages sc.world)) c a.server a.life.0 (view a.session) (λ m i b. was m i b.0) old z.numbers;
              waits = λ o i w. waits_map (Early past c) (Early (past ++ step t e sc ∷ []) c) a.server a.life.0 (view a.session) o (λ epoch number y. early_more sc c site at a.server a.life.0 epoch number o.op (below o i) y) (z.waits o i w);
              alone = z.alone;
            };
      }
    where
      same : asks_of (past ++ step t e sc ∷ []) c ≡ asks_of past c
      same = asked_all sc c ∙ asked_same c q

      was : (m : Message) → Has m (messages sc.world) → m.header.from ≡ c.0 → Has m (messages t.world)
      was m i b = go (new m i)
        where
          go : Has m (messages t.world) ⊎ (m.header.from ≢ c.0) → Has m (messages t.world)
          go (inl j) = j
          go (inr n) = absurd (n b)

      below : (o : Operation) → Has o site.node.state.operations → o.op ≤ site.asks
      below o h = subst (λ n. o.op ≤ n) k.count (numbered_below (asks_of past c) o.op o.ask (k.asked o h)).1

  -- a server of which nothing happens
  server_more : (sc : WorldTurn) (s : ServerId) (node : ServerNode) → ((m : Message) → Has m (messages t.world) → Has m (messages sc.world)) → ServerOk past (messages t.world) s node → ServerOk (past ++ step t e sc ∷ []) (messages sc.world) s node
  server_more sc s node f k =
      record {
        id = k.id;
        kept = λ c x h. state_map _ _ (λ n b a. acked_more past (step t e sc) (messages t.world) (messages sc.world) f c s x.life.0 node.state.stable.epoch.0 n b a) x.state (k.kept c x h);
      }

  no_cuts : (sc : WorldTurn) → NoAnswers sc.seen → CutsAreLogged past (step t e sc)
  no_cuts sc n c op h = absurd (n (seen.Answered c op answers.Cut) h)

  no_names : (sc : WorldTurn) → NoAnswers sc.seen → NamesAreSaid past (step t e sc)
  no_names sc n c op a h of = absurd (n (seen.Answered c op a) h)

  -- An event that leaves nodes and messages.
  still : (sc : WorldTurn) → ((c : ClientId) → ask_in c e ≡ None) → sc.world.clients ≡ t.world.clients → sc.world.servers ≡ t.world.servers → messages sc.world ≡ messages t.world → NoAnswers sc.seen → Next sc
  still sc q cs ss ms n =
      record {
        old = λ m h. subst (Has m) (sym ms) h;
        new = λ m h. inl (subst (Has m) ms h);
        clients = λ c site i. let at = ap (λ z. numbered z c.0) (sym cs) ∙ i in client_more sc c site (λ m h. subst (Has m) (sym ms) h) (λ m h. inl (subst (Has m) ms h)) (q c) at (d.clients c site at);
        servers = λ s node i. server_more sc s node (λ m h. subst (Has m) (sym ms) h) (d.servers s node (ap (λ z. numbered z s.0) (sym ss) ∙ i));
        few = subst (λ z. length z ≤ 16) (sym cs) d.few;
        cuts = no_cuts sc n;
        names = no_names sc n;
      }

  -- A client at its place is replaced, and no message is sent.
  client_placed : (c : ClientId) (old new : WorldClient) (sc : WorldTurn) → ((c : ClientId) → ask_in c e ≡ None) → site_of t.world c ≡ Some old → sc.world.clients ≡ with_numbered c.0 new t.world.clients → sc.world.servers ≡ t.world.servers → messages sc.world ≡ messages t.world →
      ((past2 : List Step) → ClientOk past (messages t.world) c old → asks_of past2 c ≡ asks_of past c → ClientOk past2 (messages t.world) c new) → NoAnswers sc.seen → Next sc
  client_placed c old new sc q at cs ss ms k n =
      record {
        old = λ m h. subst (Has m) (sym ms) h;
        new = λ m h. inl (subst (Has m) ms h);
        clients = λ x y i. it x y (set_cases t.world.clients c.0 x.0 old new y at (ap (λ z. numbered z x.0) (sym cs) ∙ i));
        servers = λ s node i. server_more sc s node (λ m h. subst (Has m) (sym ms) h) (d.servers s node (ap (λ z. numbered z s.0) (sym ss) ∙ i));
        few = subst (λ z. length z ≤ 16) (sym cs) (let z = set_length t.world.clients (pred c.0) new in let y = d.few in omega (arith, z, y));
        cuts = no_cuts sc n;
        names = no_names sc n;
      }
    where
      past2 : List Step
      past2 = past ++ step t e sc ∷ []

      its : ClientOk past2 (messages sc.world) c new
      its = subst (λ l. ClientOk past2 l c new) (sym ms) (k past2 (d.clients c old at) (asked_all sc c ∙ asked_same c (q c)))

      it : (x : ClientId) (y : WorldClient) → ((x.0 ≡ c.0) × (y ≡ new)) ⊎ ((x.0 ≢ c.0) × (site_of t.world x ≡ Some y)) → ClientOk past2 (messages sc.world) x y
      it x y (inl z) = subst (ClientOk past2 (messages sc.world) x) (sym z.1) (subst (λ n. ClientOk past2 (messages sc.world) (record { 0 = n }) new) (sym z.0) its)
      it x y (inr z) = client_more sc x y (λ m h. subst (Has m) (sym ms) h) (λ m h. inl (subst (Has m) ms h)) (q x) z.1 (d.clients x y z.1)

  -- A server at its place is replaced, and no message is sent.
  server_placed : (s : ServerId) (old new : ServerNode) (sc : WorldTurn) → ((c : ClientId) → ask_in c e ≡ None) → node_of t.world s ≡ Some old → sc.world.servers ≡ with_numbered s.0 new t.world.servers → sc.world.clients ≡ t.world.clients → messages sc.world ≡ messages t.world →
      ((past2 : List Step) (ms : List Message) → old.state.id ≡ s → ServerOk past2 ms s new) → NoAnswers sc.seen → Next sc
  server_placed s old new sc q at ss cs ms k n =
      record {
        old = λ m h. subst (Has m) (sym ms) h;
        new = λ m h. inl (subst (Has m) ms h);
        clients = λ c site i. let at = ap (λ z. numbered z c.0) (sym cs) ∙ i in client_more sc c site (λ m h. subst (Has m) (sym ms) h) (λ m h. inl (subst (Has m) ms h)) (q c) at (d.clients c site at);
        servers = λ x y i. it x y (set_cases t.world.servers s.0 x.0 old new y at (ap (λ z. numbered z x.0) (sym ss) ∙ i));
        few = subst (λ z. length z ≤ 16) (sym cs) d.few;
        cuts = no_cuts sc n;
        names = no_names sc n;
      }
    where
      past2 : List Step
      past2 = past ++ step t e sc ∷ []

      it : (x : ServerId) (y : ServerNode) → ((x.0 ≡ s.0) × (y ≡ new)) ⊎ ((x.0 ≢ s.0) × (node_of t.world x ≡ Some y)) → ServerOk past2 (messages sc.world) x y
      it x y (inl z) = subst (ServerOk past2 (messages sc.world) x) (sym z.1) (subst (λ n. ServerOk past2 (messages sc.world) (record { 0 = n }) new) (sym z.0) (k past2 (messages sc.world) (d.servers s old at).id))
      it x y (inr z) = server_more sc x y (λ m h. subst (Has m) (sym ms) h) (d.servers x y z.1)

  -- A step of a client.
  -- what an input tells: a message that was sent to this client, or an ask that is the last one
  abbrev Tells : ClientId → ClientInput → Type 0
  Tells c inputs.Tick = Unit {0}
  Tells c (inputs.App op ask) = numbered (asked_now c) op ≡ Some ask
  Tells c (inputs.Control m) = Has m (messages t.world) × (m.header.to ≡ c.0)
  Tells c (inputs.Done number result) = Unit {0}

  record Takes (c : ClientId) (i : ClientInput) (site old : WorldClient) : Type 0 where
    pub same : site.node ≡ old.node
    pub there : site_of t.world c ≡ Some old
    pub count : length (asked_now c) ≡ site.asks
    pub known : (o : Operation) → Has o old.node.state.operations → numbered (asked_now c) o.op ≡ Some o.ask
    pub input : Tells c i
    pub others : (x : ClientId) → x.0 ≢ c.0 → ask_in x e ≡ None

  client_step : (v : World) → v.clients ≡ t.world.clients → v.servers ≡ t.world.servers → v.net ≡ t.world.net → (c : ClientId) (i : ClientInput) (site old : WorldClient) → Takes c i site old → ((c : ClientId) → site.node.running ≡ false → ask_in c e ≡ None) →
      Next (ev.client_takes v c i site)
  unfolding ev.client_takes ev.client_took cl.node_step
  client_step v ps ss net c i site old z quiet = go site.node.running refl
    where
      now : Stamp
      now = clock_of v (nodes.Client c)

      few : c.0 ≤ 16
      few = let y = (numbered_below t.world.clients c.0 old z.there).1 in let u = d.few in omega (arith, y, u)

      u : ClientTurn
      u = cl.client_step site.node.state now i

      node : cl.ClientNode
      node = record site.node { state = u.state }

      a : WorldTurn
      a = ev.quiet (ev.with_site c (ev.at_node node site) v)

      b : WorldTurn
      b = ev.client_says_all c site.node.state u.out a

      last : World
      last = ev.flushes c node.state (world.all_servers b.world) b.world

      sc : WorldTurn
      sc = ev.world_turn last b.seen

      x : Step
      x = step t e sc

      past2 : List Step
      past2 = past ++ x ∷ []

      M : List Message
      M = messages t.world

      before : messages a.world ≡ M
      before = ap (λ (n : world.Net). map message_in n.messages) net

      l : Leaves M a.world last u.out
      l = client_leaves M c site.node.state node.state u.out a before

      -- what the walk speaks of
      Known : ℕ → Ask → Type 0
      Known op ask = numbered (asked_now c) op ≡ Some ask

      Done : ℕ → Ask → AppAnswer → Type 0
      Done op ask a = IsDone past c op ask a

      Told : Message → Body → ServerId → Type 0
      Told m b s = Acked past M c s m.header.life m.header.epoch m.header.number b

      old_ok : ClientOk past M c old
      old_ok = d.clients c old z.there

      holds : NodeHolds t.world.config t.world.clocks t.world.ended c old.node
      holds = d.fates.lives.lives.sites c old z.there

      fresh : (s : ServerId) (life epoch number op : ℕ) → ((m : Message) → Has m M → Keyed c s life epoch number m → ⊥) → Early past2 c s life epoch number op
      fresh s life epoch number op n y m h j k = absurd (n m (was (has_append past _ y h)) k)
        where
          was : Has y past ⊎ Has y (x ∷ []) → Has m M
          was (inl h) = d.grown y h m j
          was (inr (inl q)) = subst (λ (r : Step). Has m (messages r.before.world)) q j
          was (inr (inr h)) = absurd h

      ends_as : (m : Message) (s : ServerId) (b : Body) (a : AppAnswer) → Told m b s → Answers b a → (q : Request) (o : Operation) → cs.server_of o.ask ≡ s → 1 ≤ q.number → m.header.number ≡ q.number → AsksFor o.ask q.body → cs.fits b q.body ≡ true →
          ((y : Message) → Has y M → Keyed c s m.header.life m.header.epoch q.number y → y.body ≡ q.body) → Early past2 c s m.header.life m.header.epoch q.number o.op → Done o.op o.ask a
      ends_as m s b a told its q o of l nm asks_it fit same early = by b a its o.ask q.body of asks_it fit (subst (λ y. Fulfilled past c s m.header.life m.header.epoch m.header.number y b) (same told.by told.among key) told.done)
        where
          key : Keyed c s m.header.life m.header.epoch q.number told.by
          key = subst (λ n. Keyed c s m.header.life m.header.epoch n told.by) nm told.is

          after : (at : Step) (y : Message) → Has at past → Has y (messages at.before.world) → Keyed c s m.header.life m.header.epoch m.header.number y → is_after_ask c o.op at ≡ true
          after at y among before is = early at y (has_left past _ at among) before (subst (λ n. Keyed c s m.header.life m.header.epoch n y) nm is)

          cut : (g : FileId) (p : PageNo) (ino : ℕ) → g.server ≡ s → g.ino ≡ ino → IsCutDone past c s m.header.life m.header.epoch m.header.number ino p → Done o.op (asks.Cut g p) answers.Cut
          cut g p ino r i k = some_passes (cuts_after c o.op g p) past k.at k.among (and_both _ _ (after k.at k.by k.among k.before k.is) there)
            where
              there : Rattle.std.specs.List.list_any (is_cut_at g p) k.at.seen ≡ true
              there = some_passes (is_cut_at g p) k.at.seen _ k.cut (and_both _ _ (and_both _ _ (eq-eqb _ _ (ap (λ (y : ServerId). y.0) (sym r))) (eq-eqb _ _ (sym i))) (eq-eqb p.0 p.0 refl))

          name : (v : ServerId) (n : NameAsk) (op : NameOp) (a : AppAnswer) → v ≡ s → (g : GrantNo) × (op ≡ name_op n g) × MeansNone n g → IsNameDone past c s m.header.life m.header.epoch m.header.number op a → IsNameSaid past c o.op v n a
          name v n op a r k d =
              record {
                at = d.at;
                among = d.among;
                after = after d.at d.by d.among d.before d.is;
                old = d.old;
                was = subst (λ u. node_of d.at.before.world u ≡ Some d.old) (sym r) d.was;
                new = d.new;
                became = subst (λ u. node_of d.at.after.world u ≡ Some d.new) (sym r) d.became;
                g = k.0;
                none = k.2;
                did = subst (λ y. does d.old.state.stable.names y ≡ said d.new.state.stable.names a) k.1 d.did;
              }

          as_done : (r : NameReply) (ask : Ask) → NameSaid past c o.op (name_answer r) ask → Done o.op ask (name_answer r)
          as_done (replies.Ino ino) ask k = k
          as_done (replies.Listed rows) ask k = k
          as_done (replies.Refused code) ask k = k

          by_ack : (ask : Ask) (body : Body) → cs.server_of ask ≡ s → AsksFor ask body → cs.is_acknowledged body ≡ true → Fulfilled past c s m.header.life m.header.epoch m.header.number body bodies.Ack → Done o.op ask answers.Cut
          by_ack (asks.Cut g p) (bodies.Cut ino h p2) r k f done = cut g p ino r k.0 (subst (λ (y : PageNo). IsCutDone past c s m.header.life m.header.epoch m.header.number ino y) (sym k.1) done)
          by_ack (asks.Name y n) (bodies.Name op) r k f done = cc f
          by_ack ask body r k f done = absurd k

          by_name : (rp : NameReply) (ask : Ask) (body : Body) → cs.server_of ask ≡ s → AsksFor ask body → cs.asks_name body ≡ true → Fulfilled past c s m.header.life m.header.epoch m.header.number body (bodies.Named rp) → NameSaid past c o.op (name_answer rp) ask
          by_name rp (asks.Cut g p) (bodies.Cut ino h p2) r k f done = cc f
          by_name rp (asks.Name y n) (bodies.Name op) r k f done = name y n op (name_answer rp) r k done
          by_name rp ask body r k f done = absurd k

          by : (b : Body) (a : AppAnswer) → Answers b a → (ask : Ask) (body : Body) → cs.server_of ask ≡ s → AsksFor ask body → cs.fits b body ≡ true → Fulfilled past c s m.header.life m.header.epoch m.header.number body b → Done o.op ask a
          by bodies.Ack a its ask body r k f done = subst (λ y. Done o.op ask y) (sym its) (by_ack ask body r k f done)
          by (bodies.Named rp) a its ask body r k f done = subst (λ y. Done o.op ask y) (sym its) (as_done rp ask (by_name rp ask body r k f done))
          by b a its ask body r k f done = absurd its

      input : Rattle.st_laws_requests.proofs.Cuts.Step.InputOk M c Known (Early past2 c) Done fresh Told ends_as i
      input = tells i z.input
        where
          tells : (i : ClientInput) → Tells c i → Rattle.st_laws_requests.proofs.Cuts.Step.InputOk M c Known (Early past2 c) Done fresh Told ends_as i
          tells inputs.Tick k = tt
          tells (inputs.App op ask) k = k
          tells (inputs.Control m) k = λ to f s r. subst (λ n. Acked past M (record { 0 = n }) s m.header.life m.header.epoch m.header.number m.body) k.1 (d.acks m k.0 f s r)
          tells (inputs.Done number result) k = tt

      below : (o : Operation) → Has o old.node.state.operations → o.op ≤ old.asks
      below o h = subst (λ n. o.op ≤ n) old_ok.count (numbered_below (asks_of past c) o.op o.ask (old_ok.asked o h)).1

      -- what holds at the beginning, if it runs
      begins : site.node.running ≡ true → Held M c Known (Early past2 c) Done [] (client_turn site.node.state [])
      begins run = subst (λ (n : cl.ClientNode). Held M c Known (Early past2 c) Done [] (client_turn n.state [])) (sym z.same)
          (record {
            id_ = holds.id;
            asked = z.known;
            done = λ y h. let k = old_ok.all (ap (λ (n : cl.ClientNode). n.running) (sym z.same) ∙ run) y h in
                record {
                  numbers = numbers_map (λ m. Has m M) (Sent M c Known (Early past2 c) Done []) c y.server y.life.0 (view y.session) (λ m h b. sent m h) (λ m h. inl h) k.numbers;
                  waits = λ o i w. waits_map (Early past c) (Early past2 c) y.server y.life.0 (view y.session) o (λ epoch number r. early_more sc c old z.there y.server y.life.0 epoch number o.op (below o i) r) (k.waits o i w);
                  alone = k.alone;
                };
            todo = λ y h. absurd h;
            said = λ op a h. absurd h;
            from = λ m h. absurd h;
            once_done = onces old.node.state.associations holds.once;
            once_todo = tt;
            apart = λ y r h i q. absurd i;
          })
        where
          sent : (m : Message) → Has m M ⊎ ⊥ → Has m M
          sent m (inl h) = h
          sent m (inr h) = absurd h

      ends : site.node.running ≡ true → Held M c Known (Early past2 c) Done [] u
      ends run = stepped M c Known (Early past2 c) Done fresh Told ends_as site.node.state now i input (begins run)

      taken : site.node.running ≡ true → Next sc
      taken run =
          record {
            old = l.old;
            new = λ m h. mine m (leaves_from M a.world last u.out l m h);
            clients = λ y r q. it y r (set_cases t.world.clients c.0 y.0 old (ev.at_node node site) r z.there (ap (λ w. numbered (with_numbered c.0 (ev.at_node node site) w) y.0) (sym ps) ∙ ap (λ w. numbered w y.0) (sym l.clients) ∙ q));
            servers = λ s n q. server_more sc s n l.old (d.servers s n (ap (λ w. numbered w s.0) (sym ss) ∙ ap (λ w. numbered w s.0) (sym l.servers) ∙ q));
            few = subst (λ w. length w ≤ 16) (sym l.clients) (let y = set_length v.clients (pred c.0) (ev.at_node node site) in let w = d.few in let q = ap length ps in omega (arith, w, y, q));
            cuts = λ y op h. cut y op (answered_said c site.node.state u.out a y op answers.Cut h);
            names = λ y op w h of. name y op w of (answered_said c site.node.state u.out a y op w h);
          }
        where
          k : Held M c Known (Early past2 c) Done [] u
          k = ends run

          mine : (m : Message) → Has m M ⊎ Has (outputs.Send m) u.out → Has m M ⊎ (is_report m.body ≡ true → (s : ServerId) → m.header.from ≡ server_node s → Acked past2 (messages last) (client m.header.to) s m.header.life m.header.epoch m.header.number m.body)
          mine m (inl h) = inl h
          mine m (inr h) = inr (λ f s r. absurd (server_not_client c.0 s.0 few (sym (k.from m h) ∙ r)))

          sent : (m : Message) → Has m (messages last) → Sent M c Known (Early past2 c) Done u.out m
          sent m h = leaves_from M a.world last u.out l m h

          back : (m : Message) → Sent M c Known (Early past2 c) Done u.out m → Has m (messages last)
          back m (inl h) = l.old m h
          back m (inr h) = subst (Has m) (sym (ap (λ (n : world.Net). map message_in n.messages) (flushed c node.state (world.all_servers b.world) b.world).net)) (client_sends c site.node.state u.out a m h)

          own : ClientOk past2 (messages last) c (ev.at_node node site)
          own =
              record {
                count = ap length (asked_all sc c) ∙ z.count;
                asked = λ o h. ap (λ w. numbered w o.op) (asked_all sc c) ∙ k.asked o h;
                lives = λ y h m i r. (k.done y h).numbers.lives m (sent m i) r;
                one = λ y h m p i j. (k.done y h).numbers.one m p (sent m i) (sent p j);
                all = λ on y h. let w = k.done y h in
                    record { numbers = numbers_map (Sent M c Known (Early past2 c) Done u.out) (λ m. Has m (messages last)) c y.server y.life.0 (view y.session) (λ m i r. sent m i) back w.numbers; waits = w.waits; alone = w.alone };
              }

          other : (y : ClientId) → y.0 ≢ c.0 → (m : Message) → Has m M ⊎ Has (outputs.Send m) u.out → Has m M ⊎ (m.header.from ≢ y.0)
          other y n m (inl h) = inl h
          other y n m (inr h) = inr (λ q. n (sym q ∙ k.from m h))

          it : (y : ClientId) (r : WorldClient) → ((y.0 ≡ c.0) × (r ≡ ev.at_node node site)) ⊎ ((y.0 ≢ c.0) × (site_of t.world y ≡ Some r)) → ClientOk past2 (messages last) y r
          it y r (inl q) = subst (ClientOk past2 (messages last) y) (sym q.1) (subst (λ n. ClientOk past2 (messages last) (record { 0 = n }) (ev.at_node node site)) (sym q.0) own)
          it y r (inr q) = client_more sc y r l.old (λ m h. other y q.0 m (leaves_from M a.world last u.out l m h)) (z.others y q.0) q.1 (d.clients y r q.1)

          cut : (y : ClientId) (op : ℕ) → Has (seen.Answered y op answers.Cut) [] ⊎ AnswerOf c y op answers.Cut u.out → was_cut past y op (numbered (asks_of past2 y) op) ≡ true
          cut y op (inl h) = absurd h
          cut y op (inr r) = subst (λ (w : ClientId). was_cut past w op (numbered (asks_of past2 w) op) ≡ true) (sym r.client) (done (k.said op answers.Cut r.answer))
            where
              done : (ask : Ask) × Known op ask × Done op ask answers.Cut → was_cut past c op (numbered (asks_of past2 c) op) ≡ true
              done (ask, q, w) = subst (λ o. was_cut past c op o ≡ true) (sym (ap (λ l. numbered l op) (asked_all sc c) ∙ q)) w

          name : (y : ClientId) (op : ℕ) (w : AppAnswer) → is_of_names w ≡ true → Has (seen.Answered y op w) [] ⊎ AnswerOf c y op w u.out → NameAskSaid past y op w (numbered (asks_of past2 y) op)
          name y op w of (inl h) = absurd h
          name y op w of (inr r) = subst (λ (v : ClientId). NameAskSaid past v op w (numbered (asks_of past2 v) op)) (sym r.client) (done w of (k.said op w r.answer))
            where
              by : (w : AppAnswer) → (ask : Ask) × Known op ask × NameSaid past c op w ask → NameAskSaid past c op w (numbered (asks_of past2 c) op)
              by w (ask, q, v) = subst (λ o. NameAskSaid past c op w o) (sym (ap (λ l. numbered l op) (asked_all sc c) ∙ q)) v

              done : (w : AppAnswer) → is_of_names w ≡ true → SaidOf M c Known (Early past2 c) Done op w → NameAskSaid past c op w (numbered (asks_of past2 c) op)
              done (answers.Named ino) f s = by (answers.Named ino) s
              done (answers.Listed rows) f s = by (answers.Listed rows) s
              done (answers.Refused code) f s = by (answers.Refused code) s
              done w f s = cc f

      go : (b : Bool) → site.node.running ≡ b → Next (ev.client_took v c site (if b then Ok (cl.node_turn site.node u) else Err Crashed))
      go true r = taken r
      go false r = still (ev.quiet v) (λ y. quiet y r) ps ss before none_answered

  -- A step of a server.
  abbrev Brings : ServerInput → Type 0
  Brings serving.Tick = Unit {0}
  Brings (serving.Control m) = Has m (messages t.world)

  server_step : (s : ServerId) (i : ServerInput) (node : ServerNode) → ((c : ClientId) → ask_in c e ≡ None) → node_of t.world s ≡ Some node → Brings i → Next (ev.server_takes (ev.counted t.world) s i node)
  unfolding ev.server_takes ev.server_took server.node_step
  server_step s i node q at brings = go node.running
    where
      w : World
      w = ev.counted t.world

      now : Stamp
      now = clock_of w (nodes.Server s)

      u : server.ServerTurn
      u = server.server_step node.state now i

      next : ServerNode
      next = record node { state = u.state }

      a : WorldTurn
      a = ev.quiet (ev.with_node s next w)

      sc : WorldTurn
      sc = ev.server_says_all s u.out a

      l : Leaves (messages t.world) a.world sc.world u.out
      l = server_leaves s u.out a

      x : Step
      x = step t e sc

      past2 : List Step
      past2 = past ++ x ∷ []

      M : List Message
      M = messages t.world

      ok : ServerOk past M s node
      ok = d.servers s node at

      epoch : ℕ
      epoch = node.state.stable.epoch.0

      names : Names
      names = node.state.stable.names

      Old : ClientId → ℕ → ℕ → Body → Type 0
      Old c life number b = Acked past M c s life epoch number b

      begins : O is_report report_kind s node.state.stable.epoch (Before is_report report_kind s node.state.stable.epoch i names Old node.state now) (before_more is_report report_kind s node.state.stable.epoch i names Old node.state now) names (server.turn node.state [])
      begins = record { acks = record { id = ok.id; epoch = refl; kept = λ c y h. ok.kept c y h; sent = λ y h. absurd h }; names = refl }

      left : (m : Names) × O is_report report_kind s node.state.stable.epoch (Good is_report report_kind s node.state.stable.epoch i names Old node.state now m) (good_more is_report report_kind s node.state.stable.epoch i names Old node.state now m) m u
      left = let z = served is_report report_kind s node.state.stable.epoch i names Old node.state now begins in (z.0, z.1.0)

      k : Acks is_report report_kind s node.state.stable.epoch (Good is_report report_kind s node.state.stable.epoch i names Old node.state now left.0) (good_more is_report report_kind s node.state.stable.epoch i names Old node.state now left.0) u
      k = left.1.acks

      done : (c : ClientId) (life number : ℕ) (by : Message) → i ≡ serving.Control by → Keyed c s life epoch number by → (b r : Body) → Noted is_report report_kind s node.state.stable.epoch i names Old node.state now b u.out left.0 r → Fulfilled past2 c s life epoch number b r
      done c life number by is key (bodies.Cut ino g p) bodies.Ack h =
          let z = cut_said s (record { server = s; ino = ino }) p u.out a h in
          record { at = x; among = has_right past _ _ (inl refl); index = z.0; cut = z.1; by = by; before = subst Brings is brings; is = key }
      done c life number by is key (bodies.Name op) (bodies.Named r) h =
          record {
            at = x;
            among = has_right past _ _ (inl refl);
            old = node;
            was = at;
            new = next;
            became = ap (λ w. numbered w s.0) l.servers ∙ numbered_own t.world.servers s.0 next node at;
            did = h ∙ ap (λ m. said m (name_answer r)) (sym left.1.names);
            by = by;
            before = subst Brings is brings;
            is = key;
          }
      done c life number by is key b r h = tt

      good : (c : ClientId) (life number : ℕ) (b : Body) → Good is_report report_kind s node.state.stable.epoch i names Old node.state now left.0 u.out c life number b → Acked past2 (messages sc.world) c s life epoch number b
      good c life number b (inl o) = acked_more past x M (messages sc.world) l.old c s life epoch number b o
      good c life number b (inr n) = record { by = n.by; among = l.old n.by (subst Brings n.is brings); is = key n; done = done c life number n.by n.is (key n) n.by.body b n.noted }
        where
          key : (n : New is_report report_kind s node.state.stable.epoch i names Old node.state now left.0 u.out c life number b) → Keyed c s life epoch number n.by
          key n = record { between = (n.from, n.there); of_life = n.of_life; of_epoch = n.of_epoch; under = n.under }

      mine : (m : Message) → Has m M ⊎ Has (outputs.Send m) u.out → Has m M ⊎ (is_report m.body ≡ true → (v : ServerId) → m.header.from ≡ server_node v → Acked past2 (messages sc.world) (client m.header.to) v m.header.life m.header.epoch m.header.number m.body)
      mine m (inl h) = inl h
      mine m (inr h) = inr (λ f v r. its v r f (k.sent m h))
        where
          its : (v : ServerId) → m.header.from ≡ server_node v → is_report m.body ≡ true →
              (m.header.from ≡ server_node s) × (is_report m.body ≡ true → (m.header.epoch ≡ epoch) × Good is_report report_kind s node.state.stable.epoch i names Old node.state now left.0 u.out (client m.header.to) m.header.life m.header.number m.body) →
              Acked past2 (messages sc.world) (client m.header.to) v m.header.life m.header.epoch m.header.number m.body
          its v r rep (f, g) =
              let z = g rep in
              let same : s.0 ≡ v.0 = omega (arith, f, r) in
              subst (λ n. Acked past2 (messages sc.world) (client m.header.to) (record { 0 = n }) m.header.life m.header.epoch m.header.number m.body) same
              (subst (λ n. Acked past2 (messages sc.world) (client m.header.to) s m.header.life n m.header.number m.body) (sym z.0) (good (client m.header.to) m.header.life m.header.number m.body z.1))

      of_server : (m : Message) (c : ClientId) (site : WorldClient) → site_of t.world c ≡ Some site → Has m M ⊎ Has (outputs.Send m) u.out → Has m M ⊎ (m.header.from ≢ c.0)
      of_server m c site there (inl h) = inl h
      of_server m c site there (inr h) = inr (λ r. server_not_client c.0 s.0 (let y = (numbered_below t.world.clients c.0 site there).1 in let w = d.few in omega (arith, y, w)) (sym r ∙ (k.sent m h).0))

      own : ServerOk past2 (messages sc.world) s next
      own =
          record {
            id = k.id;
            kept = λ c y h. subst (λ (n : Rattle.st_base.specs.declared.ids.Epoch.Epoch). KeptState (Acked past2 (messages sc.world) c s y.life.0 n.0) y.state) (sym k.epoch) (state_map _ _ (λ n b r. good c y.life.0 n b r) y.state (k.kept c y h));
          }

      it : (y : ServerId) (n : ServerNode) → ((y.0 ≡ s.0) × (n ≡ next)) ⊎ ((y.0 ≢ s.0) × (node_of t.world y ≡ Some n)) → ServerOk past2 (messages sc.world) y n
      it y n (inl z) = subst (ServerOk past2 (messages sc.world) y) (sym z.1) (subst (λ n. ServerOk past2 (messages sc.world) (record { 0 = n }) next) (sym z.0) own)
      it y n (inr z) = server_more sc y n l.old (d.servers y n z.1)

      taken : Next sc
      taken =
          record {
            old = l.old;
            new = λ m h. mine m (leaves_from M a.world sc.world u.out l m h);
            clients = λ c site r. let there = ap (λ z. numbered z c.0) (sym l.clients) ∙ r in client_more sc c site l.old (λ m h. of_server m c site there (leaves_from M a.world sc.world u.out l m h)) (q c) there (d.clients c site there);
            servers = λ y n r. it y n (set_cases t.world.servers s.0 y.0 node next n at (ap (λ z. numbered z y.0) (sym l.servers) ∙ r));
            few = subst (λ z. length z ≤ 16) (sym l.clients) d.few;
            cuts = no_cuts sc (server_none s u.out a none_answered);
            names = no_names sc (server_none s u.out a none_answered);
          }

      go : (b : Bool) → Next (ev.server_took w s (if b then Ok (server.node_turn node u) else Err Crashed))
      go true = taken
      go false = still (ev.quiet w) q refl refl refl none_answered

-- a client that crashed or started
crashed_ok : (past past2 : List Step) (ms : List Message) (c : ClientId) (site : WorldClient) → asks_of past2 c ≡ asks_of past c → ClientOk past ms c site → ClientOk past2 ms c (ev.stopped_site site)
unfolding cl.crash
crashed_ok past past2 ms c site q k =
    record {
      count = ap length q ∙ k.count;
      asked = λ o h. absurd h;
      lives = λ a h m i b. let z = has_map cl.crashed_association site.node.state.associations a h in
          let y = k.lives z.0 z.1 m i (subst (λ (v : Association). Between c v.server m) z.2 b) in
          subst (λ (v : Association). m.header.life ≤ v.life.0) (sym z.2) y;
      one = λ a h m p i j b d. let z = has_map cl.crashed_association site.node.state.associations a h in
          k.one z.0 z.1 m p i j (subst (λ (v : Association). Between c v.server m) z.2 b) (subst (λ (v : Association). Between c v.server p) z.2 d);
      all = λ run. absurd (none run);
    }
  where
    none : false ≡ true → ⊥
    none e = cc

started_ok : (past past2 : List Step) (ms : List Message) (c : ClientId) (site : WorldClient) → asks_of past2 c ≡ asks_of past c → ClientOk past ms c site → ClientOk past2 ms c (ev.started_site site)
unfolding cl.start
started_ok past past2 ms c site q k =
    record {
      count = ap length q ∙ k.count;
      asked = λ o h. absurd h;
      lives = λ a h m i b. let y = below a (has_map cl.started_association site.node.state.associations a h) m i b in omega (arith, y);
      one = λ a h. one a (has_map cl.started_association site.node.state.associations a h);
      all = λ run a h.
          record {
            numbers = numbers a (has_map cl.started_association site.node.state.associations a h);
            waits = λ o i. absurd i;
            alone = λ o p i. absurd i;
          };
    }
  where
    below : (a : Association) → (b : Association) × Has b site.node.state.associations × (a ≡ cl.started_association b) → (m : Message) → Has m ms → Between c a.server m → m.header.life + 1 ≤ a.life.0
    below a (p, h, e) m i b =
        let y = k.lives p h m i (subst (λ (v : Association). Between c v.server m) e b) in
        let l : a.life.0 ≡ p.life.0 + 1 = ap (λ (v : Association). v.life.0) e in omega (arith, y, l)

    one : (a : Association) → (b : Association) × Has b site.node.state.associations × (a ≡ cl.started_association b) → OneBody (λ m. Has m ms) c a.server
    one a (p, h, e) m q i j b d = k.one p h m q i j (subst (λ (v : Association). Between c v.server m) e b) (subst (λ (v : Association). Between c v.server q) e d)

    numbers : (a : Association) → (b : Association) × Has b site.node.state.associations × (a ≡ cl.started_association b) → Numbers (λ m. Has m ms) c a.server a.life.0 (view a.session)
    numbers a z = subst (λ o. Numbers (λ m. Has m ms) c a.server a.life.0 (view o)) (sym (ap (λ (v : Association). v.session) z.2))
        (record { lives = λ m i b. let y = below a z m i b in omega (arith, y); placed = λ m i b l. let y = below a z m i b in absurd (omega (arith, y, l)); one = one a z; sent = tt; counts = tt })

-- a server that crashed or started
crashed_server : (past : List Step) (ms : List Message) (s : ServerId) (node : ServerNode) → node.state.id ≡ s → ServerOk past ms s (server.crash_node node)
unfolding server.crash
crashed_server past ms s node e = record { id = e; kept = λ c x h. none h }
  where
    none : {A : Type 0} {x : Session} → ◌≡◌ {A = Option Session} None (Some x) → A
    none h = cc

started_server : (past : List Step) (ms : List Message) (s : ServerId) (node : ServerNode) (now : Stamp) → node.state.id ≡ s → ServerOk past ms s (server.start_node node now)
unfolding server.start server.begin_epoch
started_server past ms s node now e = record { id = e; kept = λ c x h. none h }
  where
    none : {A : Type 0} {x : Session} → ◌≡◌ {A = Option Session} None (Some x) → A
    none h = cc

-- Every event.
module _ (past : List Step) (t : Traced) (d : CutsHold past t) where
  abbrev w : World
  w = ev.counted t.world

  -- an event that isn't an ask
  plain : (e : Event) → ((c : ClientId) → ask_in c e ≡ None) → (c : ClientId) (i : ClientInput) (site : WorldClient) → site_of t.world c ≡ Some site → Tells past t e d c i → Takes past t e d c i site site
  plain e q c i site at k =
      let o = d.clients c site at in
      let same = asked_same past t e d c (q c) in
      record { same = refl; there = at; count = ap length same ∙ o.count; known = λ y h. ap (λ z. numbered z y.op) same ∙ o.asked y h; input = k; others = λ x n. q x }

  at_client : (e : Event) → ((c : ClientId) → ask_in c e ≡ None) → (c : ClientId) (i : ClientInput) → Tells past t e d c i → Next past t e d (ev.at_client w c i (site_of w c))
  unfolding ev.at_client
  at_client e q c i k = go (site_of w c) refl
    where
      go : (o : Option WorldClient) → site_of w c ≡ o → Next past t e d (ev.at_client w c i o)
      go None r = still past t e d (ev.quiet w) q refl refl refl none_answered
      go (Some site) r = client_step past t e d w refl refl refl c i site site (plain e q c i site r k) (λ x f. q x)

  at_server : (e : Event) → ((c : ClientId) → ask_in c e ≡ None) → (s : ServerId) (i : ServerInput) → Brings past t e d i → Next past t e d (ev.at_server w s i (node_of w s))
  unfolding ev.at_server
  at_server e q s i k = go (node_of w s) refl
    where
      go : (o : Option ServerNode) → node_of w s ≡ o → Next past t e d (ev.at_server w s i o)
      go None r = still past t e d (ev.quiet w) q refl refl refl none_answered
      go (Some node) r = server_step past t e d s i node q r k

  asks_take : (c : ClientId) (ask : Ask) (site : WorldClient) → site_of t.world c ≡ Some site → Takes past t (events.App c ask) d c (inputs.App (site.asks + 1) ask) (ev.asked_once_more site) site
  unfolding ask_of_client
  asks_take c ask site at =
      record {
        same = refl;
        there = at;
        count = ap length more ∙ (let y = length_more (asks_of past c) ask in let z = o.count in omega (arith, y, z));
        known = λ y h. ap (λ l. numbered l y.op) more ∙ numbered_old (asks_of past c) ask y.op y.ask (o.asked y h);
        input = ap (λ l. numbered l (site.asks + 1)) more ∙ last;
        others = λ x n. ap (λ b. if b then Some ask else None) (other x n);
      }
    where
      o : ClientOk past (messages t.world) c site
      o = d.clients c site at

      self : safety.ask_in c (events.App c ask) ≡ Some ask
      self = ap (λ b. if b then Some ask else None) (eq-eqb c.0 c.0 refl)

      more : asks_of past c ++ cons_option (ask_in c (events.App c ask)) [] ≡ asks_of past c ++ ask ∷ []
      more = ap (λ z. asks_of past c ++ cons_option z []) self

      last : numbered (asks_of past c ++ ask ∷ []) (site.asks + 1) ≡ Some ask
      last = subst (λ n. numbered (asks_of past c ++ ask ∷ []) n ≡ Some ask) (let z = o.count in let y : suc (length (asks_of past c)) ≡ site.asks + 1 = omega (arith, z) in y) (get_last (asks_of past c) ask)

      other : (x : ClientId) → x.0 ≢ c.0 → Rattle.st_rules.specs.Keys.same_client x c ≡ false
      other x n = go (x.0 == c.0) refl
        where
          go : (b : Bool) → (x.0 == c.0) ≡ b → b ≡ false
          go true q = absurd (n (eqb-true x.0 c.0 q))
          go false q = refl

  asks_happen : (c : ClientId) (ask : Ask) → world.is_running t.world (nodes.Client c) ≡ true → Next past t (events.App c ask) d (ev.asks_at w c ask (site_of w c))
  unfolding ev.asks_at
  asks_happen c ask run = go (site_of w c) refl
    where
      clash : {b : Bool} → b ≡ true → b ≡ false → ⊥
      clash x y = cc

      runs : (o : Option WorldClient) → site_of t.world c ≡ o → world.site_runs o ≡ true
      runs o r = subst (λ v. world.site_runs v ≡ true) r run

      stopped : site_of t.world c ≡ None → ⊥
      stopped r = no (runs None r)
        where
          no : false ≡ true → ⊥
          no e = cc

      go : (o : Option WorldClient) → site_of w c ≡ o → Next past t (events.App c ask) d (ev.asks_at w c ask o)
      go None r = absurd (stopped r)
      go (Some site) r = client_step past t (events.App c ask) d w refl refl refl c (inputs.App (site.asks + 1) ask) (ev.asked_once_more site) site (asks_take c ask site r) (λ x f. absurd (clash (runs (Some site) r) f))

  delivers : (k : ℕ) → Next past t (events.Deliver k) d (ev.delivers w (world.message_of w k))
  unfolding ev.delivers ev.delivers_to
  delivers k = go (world.message_of w k) refl
    where
      e : Event
      e = events.Deliver k

      to : (m : Message) (n : NodeId) → world.node_at m.header.to ≡ n → Has m (messages t.world) → Next past t e d (ev.delivers_to w m n)
      to m (nodes.Client c) r h = at_client e (λ c. refl) c (inputs.Control m) (h, client_at_node m.header.to c r)
      to m (nodes.Server s) r h = at_server e (λ c. refl) s (serving.Control m) h

      go : (o : Option SentMessage) → world.message_of w k ≡ o → Next past t e d (ev.delivers w o)
      go None q = still past t e d (ev.quiet w) (λ c. refl) refl refl refl none_answered
      go (Some m) q = to m.message (world.receiver_of m) refl (has_map_in message_in t.world.net.messages m (numbered_has t.world.net.messages k m q))

  loses : (k : ℕ) → Next past t (events.Lose k) d (ev.quiet (ev.loses_message w k (world.message_of w k)))
  unfolding ev.loses_message
  loses k = go (world.message_of w k) refl
    where
      go : (o : Option SentMessage) → world.message_of w k ≡ o → Next past t (events.Lose k) d (ev.quiet (ev.loses_message w k o))
      go None q = still past t (events.Lose k) d (ev.quiet w) (λ c. refl) refl refl refl none_answered
      go (Some m) q = still past t (events.Lose k) d (ev.quiet (ev.with_lost k m w)) (λ c. refl) refl refl (lost_same w k m q) none_answered

  reports : (k : ℕ) (ok : Bool) → Next past t (events.Report k ok) d (ev.reports_of w k ok)
  unfolding ev.reports_of ev.tells ev.tells_client ev.tells_site
  reports k ok = go (world.issued_of w k)
    where
      e : Event
      e = events.Report k ok

      v : World
      v = ev.with_disks (ev.disks_after w.disks (Rattle.st_rules.specs.Disks.done w.disks k ok)) w

      none : Next past t e d (ev.quiet v)
      none = still past t e d (ev.quiet v) (λ c. refl) refl refl refl none_answered

      same : (x : IssuedCommand) (site : WorldClient) → site_of w x.client ≡ Some site → (b : Bool) → Next past t e d (if b then ev.client_takes v x.client (ev.end_told v k ok x) site else ev.quiet v)
      same x site q true = client_step past t e d v refl refl refl x.client (ev.end_told v k ok x) site site (plain e (λ c. refl) x.client (ev.end_told v k ok x) site q tt) (λ c f. refl)
      same x site q false = none

      at : (x : IssuedCommand) (o : Option WorldClient) → site_of w x.client ≡ o → Next past t e d (ev.tells_client v k ok x o)
      at x None q = none
      at x (Some site) q = same x site q (ev.is_same_instance x site)

      go : (o : Option IssuedCommand) → Next past t e d (ev.tells v k ok o)
      go None = none
      go (Some x) = at x (site_of w x.client) refl

  crashes_client : (c : ClientId) → Next past t (events.Crash (nodes.Client c)) d (ev.crashes_client w c (site_of w c))
  unfolding ev.crashes_client ev.marks
  crashes_client c = go (site_of w c) refl
    where
      e : Event
      e = events.Crash (nodes.Client c)

      go : (o : Option WorldClient) → site_of w c ≡ o → Next past t e d (ev.crashes_client w c o)
      go None q = still past t e d (ev.quiet w) (λ c. refl) refl refl refl none_answered
      go (Some site) q = client_placed past t e d c site (ev.stopped_site site) _ (λ c. refl) q refl refl refl (λ past2 k r. crashed_ok past past2 (messages t.world) c site r k) (fates_none 1 w.log (ev.log_crashed w c))

  starts_client : (c : ClientId) → Next past t (events.Start (nodes.Client c)) d (ev.quiet (ev.starts_client w c (site_of w c)))
  unfolding ev.starts_client
  starts_client c = go (site_of w c) refl
    where
      e : Event
      e = events.Start (nodes.Client c)

      go : (o : Option WorldClient) → site_of w c ≡ o → Next past t e d (ev.quiet (ev.starts_client w c o))
      go None q = still past t e d (ev.quiet w) (λ c. refl) refl refl refl none_answered
      go (Some site) q = client_placed past t e d c site (ev.started_site site) _ (λ c. refl) q refl refl refl (λ past2 k r. started_ok past past2 (messages t.world) c site r k) none_answered

  crashes_server : (s : ServerId) → Next past t (events.Crash (nodes.Server s)) d (ev.quiet (ev.crashes_server w s (node_of w s)))
  unfolding ev.crashes_server
  crashes_server s = go (node_of w s) refl
    where
      e : Event
      e = events.Crash (nodes.Server s)

      go : (o : Option ServerNode) → node_of w s ≡ o → Next past t e d (ev.quiet (ev.crashes_server w s o))
      go None q = still past t e d (ev.quiet w) (λ c. refl) refl refl refl none_answered
      go (Some node) q = server_placed past t e d s node (server.crash_node node) _ (λ c. refl) q refl refl refl (λ past2 ms r. crashed_server past2 ms s node r) none_answered

  starts_server : (s : ServerId) → Next past t (events.Start (nodes.Server s)) d (ev.quiet (ev.starts_server w s (node_of w s)))
  unfolding ev.starts_server
  starts_server s = go (node_of w s) refl
    where
      e : Event
      e = events.Start (nodes.Server s)

      go : (o : Option ServerNode) → node_of w s ≡ o → Next past t e d (ev.quiet (ev.starts_server w s o))
      go None q = still past t e d (ev.quiet w) (λ c. refl) refl refl refl none_answered
      go (Some node) q = server_placed past t e d s node (server.start_node node (clock_of w (nodes.Server s))) _ (λ c. refl) q refl refl refl (λ past2 ms r. started_server past2 ms s node (clock_of w (nodes.Server s)) r) none_answered

  -- an ask that is admitted belongs to a client that runs
  can_step : (k : NodeId) → adm.cannot_step t.world k ≡ None → world.is_running t.world k ≡ true
  unfolding adm.stands
  can_step k e = go (world.is_running t.world k) e
    where
      go : (b : Bool) → Rattle.std.specs.Option.option_or (adm.stands (not b) (Rattle.st_rules.specs.declared.observation.WorldRefusal.TheVariants.NotRunning k)) (adm.net_full t.world) ≡ None → b ≡ true
      go true e = refl
      go false e = cc

  or_second : (a b : Option Rattle.st_rules.specs.declared.observation.WorldRefusal.WorldRefusal) → Rattle.std.specs.Option.option_or a b ≡ None → b ≡ None
  or_second None b e = e
  or_second (Some x) b e = cc

  pub happens : (e : Event) → adm.refusal t.world e ≡ None → Next past t e d (ev.happens w e)
  unfolding ev.happens ev.ticks ev.crashes ev.starts ev.advances ev.effects ev.marks adm.refusal
  happens (events.Tick (nodes.Client c)) f = at_client (events.Tick (nodes.Client c)) (λ c. refl) c inputs.Tick tt
  happens (events.Tick (nodes.Server s)) f = at_server (events.Tick (nodes.Server s)) (λ c. refl) s serving.Tick tt
  happens (events.App c ask) f = asks_happen c ask (can_step (nodes.Client c) (or_second (adm.no_node t.world (nodes.Client c)) _ f))
  happens (events.Deliver k) f = delivers k
  happens (events.Lose k) f = loses k
  happens (events.Cut from to) f = still past t (events.Cut from to) d _ (λ c. refl) refl refl refl none_answered
  happens (events.Heal from to) f = still past t (events.Heal from to) d _ (λ c. refl) refl refl refl none_answered
  happens (events.Advance steps) f = still past t (events.Advance steps) d _ (λ c. refl) refl refl refl (fates_none 1 w.log _)
  happens (events.Effect k) f = still past t (events.Effect k) d _ (λ c. refl) refl refl refl (fates_none 1 w.log _)
  happens (events.Report k ok) f = reports k ok
  happens (events.Crash (nodes.Client c)) f = crashes_client c
  happens (events.Crash (nodes.Server s)) f = crashes_server s
  happens (events.Start (nodes.Client c)) f = starts_client c
  happens (events.Start (nodes.Server s)) f = starts_server s
