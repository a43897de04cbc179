-- A reply that a client receives tells extents as their servers have them.
use Rattle.st_lemmas.proofs.Words
use Words.{◌≡◌, ℕ, ◌+◌, Bool, true, false, ◌==◌, List, [], ◌∷◌, Option, Some, None, refl, sym, ap, ◌∙◌, subst, arith, if◌then◌else◌}
use Words.{filter_map, option_map, eqb-true, ClientId, FileId, NodeId, GrantNo, PageNo, ServerId, ExtentRow, Ask, Event, Message, ClientInput, Request}
use Words.{Extent, IssuedCommand, SentMessage}
use Words.nodes
use Words.events
use Words.bodies
use Words.inputs
use Words.Client.{losses}
use Words.ClientReplies.{is_counting, is_current}
use Words.ClientState.{Association, ClientSession, client_turn, fits}
use Words.Disks as disks
use Words.Events as ev
use Words.Events.{counted, happens}
use Words.Extents as extents
use Words.Extents.{Extents}
use Words.History.{Traced}
use Words.Keys.{server_node}
use Words.Safety.{Step}
use Words.World.{WorldClient, World, issued_of, message_of, node_of, numbered, receiver_of, site_of}
use Words.Lists.{Has}
use Words.Lookups.{some_is}
use Words.Numbers.{numbered_has}
use Words.Tables.{and_true, found_at, has_map_in}
use Words.Members.{filter_map_of}
use Words.Worlds.{client_at_node}
use Rattle.st_protocol.specs.Assoc.{Config}
use Rattle.st_laws_refine.specs.Client.Invariants.{Lasts}
use Rattle.st_laws_steps.specs.Lives.Lives.{clock_in}
use Rattle.st_laws_pages.specs.Disks.World.{mapped_at}
use Rattle.st_laws_leases.specs.Sides.World.{There}
use Rattle.st_laws_reads.specs.Copies.Copies.{file_at}
use Rattle.st_laws_reads.specs.Copies.World.{Taking, asking, receiving, receiving_of, now_at, taken, taking, told_of}
use Rattle.st_laws_leases.specs.Dates.Dates.{message_in, messages}
use Rattle.st_laws_reads.proofs.AllClients.Behind.{Behind, behind}
use Rattle.st_laws_reads.proofs.AllClients.Takings.{Takes, takes_event}
use Rattle.st_laws_extents.specs.Known.Known.{told_at}
use Rattle.st_laws_extents.specs.Known.WritePlaces.{ExtentsTold, InputTold, LiesAs, ToldRight}
use Rattle.st_laws_extents.specs.ExtentReplies.Steps.{TellsRows, file_of}
use Rattle.st_laws_extents.specs.ExtentReplies.ToldExtents.{AskedAt}
use Rattle.st_laws_extents.specs.Known.Law.{IsTold, KnownAfter, SubmitsAt}
use Rattle.st_laws_extents.proofs.Known.Law as extents_law
use Rattle.st_laws_extents.specs.ExtentReplies.Law.{InRunsAsked}
use Rattle.st_laws_extents.specs.ExtentReplies.Maps.{InputMapped, MapsAt, MapsTold, TakenMapped}
use Rattle.st_laws_extents.proofs.ExtentReplies.Law.{Hold, in_runs}

filter_one : {A B : Type 0} (f : A → Option B) (x : A) (y : B) → f x ≡ Some y → filter_map f (x ∷ []) ≡ y ∷ []
filter_one f x y e = grind (arith, e)

-- a told row lies so
row_lies : (x : Extents) (f : FileId) (p : PageNo) (n : ℕ) (r : ExtentRow) → Has r (extents.extent_rows x f p n) → LiesAs (extents.extent_of x f r.page) (told_at r)
unfolding extents.extent_rows
row_lies x f p n r i = go (extents.extent_of x f z.0) refl z.1
  where
    z : (q : PageNo) × (extents.extent_row_at x f q ≡ Some r)
    z = filter_map_of (extents.extent_row_at x f) (extents.pages_from p n) r i

    go : (o : Option Extent) → extents.extent_of x f z.0 ≡ o → option_map extents.extent_row o ≡ Some r → LiesAs (extents.extent_of x f r.page) (told_at r)
    go None e q = cc q
    go (Some y) e q = record { extent = y; is = ap (extents.extent_of x f) (sym page) ∙ e; at = ap (λ (s : ExtentRow). s.at) row; birth = ap (λ (s : ExtentRow). s.birth) row }
      where
        row : extents.extent_row y ≡ r
        row = some_is q

        page : z.0 ≡ r.page
        page =
            ap (λ m. record { 0 = m }) (sym (eqb-true y.page.0 z.0.0 (and_true (Rattle.st_rules.specs.Keys.same_file y.file f) (y.page.0 == z.0.0) (found_at (extents.is_extent_of f z.0) x.rows y e).0).1))
            ∙ ap (λ (s : ExtentRow). s.page) row

-- if no row is reported for one page, it has no block
no_row : (x : Extents) (f : FileId) (p : PageNo) → [] ≡ extents.extent_rows x f p 1 → extents.extent_of x f p ≡ None
unfolding extents.extent_rows extents.numbers
no_row x f p e = go (extents.extent_of x f p) refl
  where
    full : (r : ExtentRow) → [] ≡ r ∷ [] → ⊥
    full r z = cc

    go : (o : Option Extent) → extents.extent_of x f p ≡ o → extents.extent_of x f p ≡ None
    go None z = z
    go (Some y) z = absurd (full (extents.extent_row y) (e ∙ rows))
      where
        row : extents.extent_row_at x f p ≡ Some (extents.extent_row y)
        row = ap (option_map extents.extent_row) z

        rows : filter_map (extents.extent_row_at x f) (p ∷ []) ≡ extents.extent_row y ∷ []
        rows = filter_one (extents.extent_row_at x f) p (extents.extent_row y) row

unmapped : (x : Extents) (s : ServerId) (ino : ℕ) (g : GrantNo) (p : PageNo) → TellsRows s x (bodies.Map ino g p) ino [] → extents.extent_of x (file_of s ino) p ≡ None
unmapped x s ino g p t =
    no_row x (file_of s ino) p
    (t.are ∙ ap (λ q. extents.extent_rows x (file_of s ino) q t.count) (sym t.asks.1) ∙ ap (λ n. extents.extent_rows x (file_of s ino) p n) t.asks.2)

-- a message that is taken was sent, to this client
pub record Comes (w : World) (x : Taking) (m : Message) : Type 0 where
  pub sent : SentMessage
  pub among : Has sent w.net.messages
  pub is : sent.message ≡ m
  pub to : m.header.to ≡ x.client.0

comes : (w : World) (e : Event) (x : Taking) (m : Message) → taken (counted w) e ≡ Some x → x.input ≡ inputs.Control m → Comes w x m
comes w e x m q i = go e q
  where
    site_none : (v : World) (c : ClientId) (j : ClientInput) (o : Option WorldClient) → taking v c j o ≡ Some x → x.input ≡ j
    site_none v c j None q = cc q
    site_none v c j (Some s) q = ap (λ (y : Taking). y.input) (sym (some_is q))

    ask_is : (c : ClientId) (ask : Ask) (o : Option WorldClient) → asking (counted w) c ask o ≡ Some x → inputs.Control m ≡ x.input → ⊥
    ask_is c ask None q = cc q
    ask_is c ask (Some s) q = λ z. absurd (no (s.asks + 1) ask (z ∙ ap (λ (y : Taking). y.input) (sym (some_is q))))
      where
        no : (n : ℕ) (ask : Ask) → inputs.Control m ≡ inputs.App n ask → ⊥
        no n ask e = cc

    ticks : inputs.Control m ≡ inputs.Tick → ⊥
    ticks e = cc

    client_of : (v : World) (c : ClientId) (j : ClientInput) (o : Option WorldClient) → taking v c j o ≡ Some x → c ≡ x.client
    client_of v c j None q = cc q
    client_of v c j (Some s) q = ap (λ (y : Taking). y.client) (some_is q)

    received : (s : SentMessage) (k : ℕ) → message_of (counted w) k ≡ Some s → (n : NodeId) → receiver_of s ≡ n → receiving (counted w) s.message n ≡ Some x → Comes w x m
    received s k f (nodes.Server y) r q = cc q
    received s k f (nodes.Client c) r q =
        record {
          sent = s;
          among = numbered_has w.net.messages k s f;
          is = body;
          to = ap (λ (z : Message). z.header.to) (sym body) ∙ client_at_node s.message.header.to c r ∙ ap (λ (d : ClientId). d.0) (client_of (counted w) c (inputs.Control s.message) (site_of (counted w) c) q);
        }
      where
        input_is : (a b : Message) → inputs.Control a ≡ inputs.Control b → a ≡ b
        input_is a b e = cc

        body : s.message ≡ m
        body = input_is s.message m (sym (site_none (counted w) c (inputs.Control s.message) (site_of (counted w) c) q) ∙ i)

    delivered : (k : ℕ) (o : Option SentMessage) → message_of (counted w) k ≡ o → receiving_of (counted w) o ≡ Some x → Comes w x m
    delivered k None f q = cc q
    delivered k (Some s) f q = received s k f (receiver_of s) refl q

    ended : (v : World) (k : ℕ) (ok : Bool) (o : Option IssuedCommand) → told_of v k ok o ≡ Some x → Comes w x m
    ended v k ok None q = cc q
    ended v k ok (Some y) q = at (site_of v y.client) q
      where
        no : (j : ClientInput) → j ≡ ev.end_told v k ok y → inputs.Control m ≡ j → ⊥
        no j e f = cc (f ∙ e)

        by : (s : WorldClient) (b : Bool) → (if b then taking v y.client (ev.end_told v k ok y) (Some s) else None) ≡ Some x → Comes w x m
        by s true q = absurd (no (ev.end_told v k ok y) refl (sym i ∙ site_none v y.client (ev.end_told v k ok y) (Some s) q))
        by s false q = cc q

        at : (o : Option WorldClient) → Rattle.st_laws_reads.specs.Copies.World.told_at v k ok y o ≡ Some x → Comes w x m
        at None q = cc q
        at (Some s) q = by s (ev.is_same_instance y s) q

    go : (e : Event) → taken (counted w) e ≡ Some x → Comes w x m
    go (events.Tick (nodes.Client c)) q = absurd (ticks (sym i ∙ site_none (counted w) c inputs.Tick (site_of (counted w) c) q))
    go (events.App c ask) q = absurd (ask_is c ask (site_of (counted w) c) q (sym i))
    go (events.Deliver k) q = delivered k (message_of (counted w) k) refl q
    go (events.Report k ok) q = ended (ev.with_disks (ev.disks_after (counted w).disks (disks.done (counted w).disks k ok)) (counted w)) k ok (issued_of (counted w) k) q
    go e q = cc q

-- What a client receives at a step.
module _ (k : Config) (count : ℕ) (past : List Step) (t : Traced) (h : Hold k count past t) (e : Event) (x : Taking) (q : taken (counted t.world) e ≡ Some x) where
  takes : Takes (counted t.world) (happens (counted t.world) e) x
  takes = takes_event (counted t.world) e x q

  -- what a counting reply tells is what its server has
  record Present (a : Association) (r : Request) (ino : ℕ) (rows : List ExtentRow) : Type 0 where
    node : Rattle.st_rules.specs.Server.ServerNode
    there : node_of x.world a.server ≡ Some node
    tells : TellsRows a.server node.state.stable.extents r.body ino rows

  present : (m : Message) → x.input ≡ inputs.Control m → (a : Association) → Has a (losses (client_turn x.site.node.state []) (now_at x)).state.associations → (s : ClientSession) (r : Request) (ino : ℕ) (rows : List ExtentRow) → a.session ≡ Some s → m.header.from ≡ server_node a.server →
      m.header.life ≡ a.life.0 → m.header.epoch ≡ s.epoch.0 → s.requests.asked ≡ Some r → m.body ≡ bodies.Extents ino rows → is_counting m.header.number m.body r ≡ true → is_current s.locks r.body ≡ true → Present a r ino rows
  present m i a among s r ino rows session from life epoch asked body counting current = go node
    where
      c : Comes t.world x m
      c = comes t.world e x m q i

      b : Behind x.site.node.state (now_at x) a
      b = behind x.client x.site.node.state (now_at x) (λ d j. (h.asks.all.fates.lives.lives.sites x.client takes.old takes.there).fit d (subst (λ (n : Rattle.st_rules.specs.Client.ClientNode). Has d n.state.associations) (sym takes.same) j)) a among s session

      was : Has a takes.old.node.state.associations
      was = subst (λ (n : Rattle.st_rules.specs.Client.ClientNode). Has a n.state.associations) (sym takes.same) b.was

      runs : takes.old.node.running ≡ true
      runs = by takes.old.node.running refl
        where
          none : {A : Type 0} → ◌≡◌ {A = Option ClientSession} None (Some s) → A
          none z = cc

          by : (o : Bool) → takes.old.node.running ≡ o → o ≡ true
          by true z = refl
          by false z = none (sym ((h.asks.all.fates.lives.lives.sites x.client takes.old takes.there).stopped z a was).session ∙ session)

      at : AskedAt t.world x.client.0 takes.old a s r
      at =
          record {
            run = record { there = takes.there; runs = runs };
            has = was;
            session = session;
            lasts = subst (λ ts. Lasts takes.old.node.state.config.lease (clock_in ts x.client).0 a.session) takes.clocks
                (subst (λ (n : Rattle.st_rules.specs.Client.ClientNode). Lasts n.state.config.lease (now_at x).0 a.session) (sym takes.same) b.lasts);
            asked = asked;
            current = current;
          }

      node : There t.world a.server
      node = h.asks.all.senders c.sent c.among a.server (ap (λ (z : Message). z.header.from) c.is ∙ from)

      number : m.header.number ≡ r.number
      number = sym (eqb-true r.number m.header.number (and_true (r.number == m.header.number) (fits m.body r.body) counting).0)

      go : There t.world a.server → Present a r ino rows
      go n =
          record {
            node = n.node;
            there = ap (λ ns. numbered ns a.server.0) takes.servers ∙ n.is;
            tells = (h.right x.client.0 takes.old a s r at n.node n.is).sent m ino rows (subst (λ z. Has z (messages t.world)) c.is (has_map_in message_in t.world.net.messages c.sent c.among))
                (record { from = from; to = c.to; of_life = life; of_epoch = epoch; under = number; body = body });
          }

  told : (m : Message) → x.input ≡ inputs.Control m → ToldRight x m.header m.body
  told m i a among s r ino rows session from life epoch asked body counting current row has =
      let n = present m i a among s r ino rows session from life epoch asked body counting current in
      subst (λ o. LiesAs (mapped_at (file_at a.server ino) row.page o) (told_at row)) (sym n.there)
      (row_lies n.node.state.stable.extents (file_of a.server ino) n.tells.page n.tells.count row (subst (λ zs. Has row zs) n.tells.are has))

  maps : (m : Message) → x.input ≡ inputs.Control m → MapsTold x m.header m.body
  maps m i a among s r ino g p session from life epoch asked map body counting current =
      let n = present m i a among s r ino [] session from life epoch asked body counting current in
      subst (λ o. mapped_at (file_at a.server ino) p o ≡ None) (sym n.there)
      (unmapped n.node.state.stable.extents a.server ino g p (subst (λ b. TellsRows a.server n.node.state.stable.extents b ino []) map n.tells))

-- at a step
module _ (k : Config) (count : ℕ) (past : List Step) (t : Traced) (h : Hold k count past t) (e : Event) where
  input_told : (x : Taking) → taken (counted t.world) e ≡ Some x → (i : ClientInput) → x.input ≡ i → InputTold x i
  input_told x q (inputs.Control m) i = told k count past t h e x q m i
  input_told x q inputs.Tick i = tt
  input_told x q (inputs.App op ask) i = tt
  input_told x q (inputs.Done n r) i = tt

  pub extents_told : (o : Option Taking) → taken (counted t.world) e ≡ o → ExtentsTold o
  extents_told None q = tt
  extents_told (Some x) q = input_told x q x.input refl

module _ (k : Config) (count : ℕ) (past : List Step) (t : Traced) (h : Hold k count past t) (e : Event) where
  input_mapped : (x : Taking) → taken (counted t.world) e ≡ Some x → (i : ClientInput) → x.input ≡ i → InputMapped x i
  input_mapped x q (inputs.Control m) i = maps k count past t h e x q m i
  input_mapped x q inputs.Tick i = tt
  input_mapped x q (inputs.App op ask) i = tt
  input_mapped x q (inputs.Done n r) i = tt

  pub taken_mapped : (o : Option Taking) → taken (counted t.world) e ≡ o → TakenMapped o
  taken_mapped None q = tt
  taken_mapped (Some x) q = input_mapped x q x.input refl

-- In every run in which requests go on.
pub maps_at : InRunsAsked MapsAt
maps_at = in_runs MapsAt (λ k count past t e sc before after. taken_mapped k count past t before e (taken (counted t.world) e) refl)

pub is_told : InRunsAsked IsTold
is_told = in_runs IsTold (λ k count past t e sc before after. extents_told k count past t before e (taken (counted t.world) e) refl)

pub known : InRunsAsked KnownAfter
known k clients servers disks blocks form es head events go = extents_law.known k clients servers disks blocks form es head events (is_told k clients servers disks blocks form es head events go)

pub submits : InRunsAsked SubmitsAt
submits k clients servers disks blocks form es head events go = extents_law.submits k clients servers disks blocks form es head events (is_told k clients servers disks blocks form es head events go)
