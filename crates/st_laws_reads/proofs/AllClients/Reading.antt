-- Each step answers its reads by the log at the answer.
use Rattle.st_lemmas.proofs.Words
use Words.{◌≡◌, ℕ, ◌+◌, Bool, true, false, List, [], ◌∷◌, ◌++◌, Option, Some, None, Ok, Err, refl, sym, ap, ◌∙◌, subst, if◌then◌else◌, arith, length, suc}
use Words.{cons_option, eq-eqb, ClientId, Life, NodeId, ServerId, Ask, Event, Message, ClientInput, LogEntry, Observation, Operation, IssuedCommand}
use Words.{SentMessage}
use Words.nodes
use Words.events
use Words.inputs
use Words.seen
use Words.Client as cl
use Words.Disks as disks
use Words.Events as ev
use Words.Events.{WorldTurn, client_says_all, counted, happens, present_life, world_step}
use Words.History.{Traced}
use Words.Keys.{client, same_client}
use Words.Lines.{AtEach, log_behind}
use Words.Safety as safety
use Words.Safety.{IsLast, Step, ask_in, step}
use Words.World.{World, WorldClient, issued_of, life_with, message_of, numbered, receiver_of, site_of}
use Words.Lookups.{some_is}
use Words.Numbers.{get_last, numbered_own}
use Rattle.st_rules.specs.declared.node.StepRefusal.TheVariants.{Crashed}
use Rattle.st_protocol.specs.Assoc.{Config}
use Rattle.st_laws_pages.proofs.Asks.Says.{AllDull, Dull, server_dull}
use Rattle.st_laws_pages.proofs.Asks.World.{asks_more, asks_of}
use Rattle.st_laws_pages.proofs.Causes.HardEvents.{AskedHold, asks_grow}
use Rattle.st_laws_leases.specs.Sides.World.{AllStand}
use Rattle.st_laws_reads.specs.Copies.Copies.{AskedSo, Right}
use Rattle.st_laws_reads.specs.Copies.Law.{SeenRight}
use Rattle.st_laws_reads.specs.Copies.Obligations.{Numbered}
use Rattle.st_laws_reads.specs.Copies.World.{Taking, asking, receiving, receiving_of, taken, taking, told_at, told_of, turn_of}
use Rattle.st_laws_reads.proofs.Copies.Seen as answered
use Rattle.st_laws_reads.specs.AllClients.World.{CopiesHold, TakingOwed}
use Rattle.st_laws_reads.proofs.AllClients.Takings.{Takes, keeps, mine_there}
use Rattle.st_laws_reads.proofs.AllClients.Untaken.{others}
use Rattle.st_laws_pages.proofs.Asks.Law.{dull_fates}

-- what each client was asked in these steps
abbrev pub known : List Step → ℕ → ℕ → Option Ask
known past c op = numbered (asks_of past (client c)) op

-- what is known of asks grows
more_asked : (a b : ℕ → Option Ask) → ((op : ℕ) (y : Ask) → a op ≡ Some y → b op ≡ Some y) → (os : List Operation) → AskedSo a os → AskedSo b os
more_asked a b f [] h = record {}
more_asked a b f (o ∷ os) h = record { one = f o.op o.ask h.one; rest = more_asked a b f os h.rest }

pub more_known : (past : List Step) (x : Step) (w : World) → CopiesHold (known past) w → CopiesHold (known (past ++ x ∷ [])) w
more_known past x w h c site e =
    let z = h c site e in
    record {
      servers = z.servers;
      runs = λ r. let y = z.runs r in
          record { apart = y.apart; copies = y.copies; asked = more_asked (known past c) (known (past ++ x ∷ []) c) (λ op a q. asks_grow past x (client c) op a q) site.node.state.operations y.asked };
      rests = z.rests;
    }

-- An ask has the next number.
module _ (past : List Step) (x : Step) where
  abbrev Numbers : Taking → Type 0
  Numbers y = Numbered (known (past ++ x ∷ []) y.client.0) y.input

  by_client : (w : World) (c : ClientId) (input : ClientInput) (o : Option WorldClient) (y : Taking) → Numbered (known (past ++ x ∷ []) c.0) input → taking w c input o ≡ Some y → Numbers y
  by_client w c input None y n q = cc q
  by_client w c input (Some site) y n q = subst Numbers (some_is q) n

  by_ask : (w : World) (c : ClientId) (ask : Ask) (o : Option WorldClient) (y : Taking) → site_of w c ≡ o → x.event ≡ events.App c ask → AskedHold past w → asking w c ask o ≡ Some y → Numbers y
  unfolding safety.ask_of_client
  by_ask w c ask None y there e a q = cc q
  by_ask w c ask (Some site) y there e a q = subst Numbers (some_is q) new
    where
      its : (b : Bool) → same_client c c ≡ b → ask_in c x.event ≡ (if b then Some ask else None)
      its b z = ap (ask_in c) e ∙ ap (λ v. if v then Some ask else None) z

      own : asks_of (past ++ x ∷ []) c ≡ asks_of past c ++ ask ∷ []
      own = asks_more past x c ∙ ap (λ z. asks_of past c ++ cons_option z []) (its true (eq-eqb c.0 c.0 refl))

      was : length (asks_of past c) ≡ site.asks
      was = (a c site there).count

      new : numbered (asks_of (past ++ x ∷ []) c) (site.asks + 1) ≡ Some ask
      new = ap (λ l. numbered l (site.asks + 1)) own ∙ ap (λ m. numbered (asks_of past c ++ ask ∷ []) m) (let z : site.asks + 1 ≡ suc (length (asks_of past c)) = omega (arith, was) in z) ∙ get_last (asks_of past c) ask

  by_message : (w : World) (m : Message) (n : NodeId) (y : Taking) → receiving w m n ≡ Some y → Numbers y
  by_message w m (nodes.Client c) y q = by_client w c (inputs.Control m) (site_of w c) y tt q
  by_message w m (nodes.Server s) y q = cc q

  by_delivery : (w : World) (o : Option SentMessage) (y : Taking) → receiving_of w o ≡ Some y → Numbers y
  by_delivery w None y q = cc q
  by_delivery w (Some m) y q = by_message w m.message (receiver_of m) y q

  by_end : (v : World) (k : ℕ) (ok : Bool) (i : IssuedCommand) (o : Option WorldClient) (y : Taking) → told_at v k ok i o ≡ Some y → Numbers y
  by_end v k ok i None y q = cc q
  by_end v k ok i (Some site) y q = go (ev.is_same_instance i site) q
    where
      go : (b : Bool) → (if b then taking v i.client (ev.end_told v k ok i) (Some site) else None) ≡ Some y → Numbers y
      go true q = by_client v i.client (ev.end_told v k ok i) (Some site) y tt q
      go false q = cc q

  by_report : (v : World) (k : ℕ) (ok : Bool) (o : Option IssuedCommand) (y : Taking) → told_of v k ok o ≡ Some y → Numbers y
  by_report v k ok None y q = cc q
  by_report v k ok (Some i) y q = by_end v k ok i (site_of v i.client) y q

  pub numbered_there : (w : World) (e : Event) (y : Taking) → x.event ≡ e → AskedHold past w → taken w e ≡ Some y → Numbers y
  numbered_there w (events.Tick (nodes.Client c)) y i a q = by_client w c inputs.Tick (site_of w c) y tt q
  numbered_there w (events.App c ask) y i a q = by_ask w c ask (site_of w c) y refl i a q
  numbered_there w (events.Deliver k) y i a q = by_delivery w (message_of w k) y q
  numbered_there w (events.Report k ok) y i a q = by_report (ev.with_disks (ev.disks_after w.disks (disks.done w.disks k ok)) w) k ok (issued_of w k) y q
  numbered_there w e y i a q = cc q

-- When a client takes an input.
module _ (k : Config) (count : ℕ) (past : List Step) (t : Traced) (e : Event) (sc : WorldTurn) (x : Taking) (all : AllStand k count t.world) (after : AllStand k count sc.world) (is : world_step t.world e ≡ Ok sc) (q : taken (counted t.world) e ≡ Some x) (tk : Takes (counted t.world) sc x) where
  abbrev st : Step
  st = step t e sc

  abbrev asks : ℕ → ℕ → Option Ask
  asks = known (past ++ st ∷ [])

  abbrev mine : WorldClient
  mine = ev.at_node (cl.node_turn x.site.node (turn_of x)).node x.site

  abbrev v : World
  v = ev.with_site x.client mine x.world

  unread : x.site.node.running ≡ false → AtEach (IsLast past st) sc.world t.world.log sc.seen
  unfolding ev.client_takes ev.client_took cl.node_step AtEach
  unread r =
      subst (λ os. AtEach (IsLast past st) sc.world t.world.log os)
      (sym (ap (λ (z : WorldTurn). z.seen) tk.is ∙ ap (λ b. (ev.client_took x.world x.client x.site (if b then Ok (cl.node_turn x.site.node (turn_of x)) else Err Crashed)).seen) r)) tt

  read : x.site.node.running ≡ true → TakingOwed asks x → CopiesHold asks t.world → AtEach (IsLast past st) sc.world t.world.log sc.seen
  unfolding ev.client_takes ev.client_took cl.node_step
  read r owed h =
      subst (λ l. AtEach (IsLast past st) sc.world l sc.seen) tk.log
      (subst (λ os. AtEach (IsLast past st) sc.world x.world.log os) (sym said) right.reads)
    where
      said : sc.seen ≡ (client_says_all x.client x.site.node.state (turn_of x).out (ev.quiet v)).seen
      said = ap (λ (z : WorldTurn). z.seen) tk.is ∙ ap (λ b. (ev.client_took x.world x.client x.site (if b then Ok (cl.node_turn x.site.node (turn_of x)) else Err Crashed)).seen) r

      here : site_of v x.client ≡ Some mine
      here = numbered_own x.world.clients x.client.0 mine tk.old (ap (λ cs. numbered cs x.client.0) tk.clients ∙ tk.there)

      left : site_of sc.world x.client ≡ Some mine
      left = mine_there asks k count t.world e sc x all after is q tk owed h r

      lives : ◌≡◌ {A = ServerId → Life} (present_life sc.world x.client) (present_life v x.client)
      lives = ap {B = ServerId → Life} (λ (o : Option WorldClient). λ (s : ServerId). ev.life_of_site s o) (left ∙ sym here)

      present : ◌≡◌ {A = ServerId → Life} (life_with (turn_of x).state) (present_life v x.client)
      present = ap {B = ServerId → Life} (λ (o : Option WorldClient). λ (s : ServerId). ev.life_of_site s o) (sym here)

      right : SeenRight past st x.world.log (client_says_all x.client x.site.node.state (turn_of x).out (ev.quiet v)).seen
      right =
          answered.steps_answer_right past st x.client x.site.node.state (turn_of x).out v lives
          (subst (λ ls. Right (safety.ask_of past st x.client) x.client ls x.world.log (turn_of x).out) present (keeps asks k count t.world e sc x all after is q tk owed h r).right)

  pub reads_taken : TakingOwed asks x → CopiesHold asks t.world → AtEach (IsLast past st) sc.world t.world.log sc.seen
  reads_taken owed h = go x.site.node.running refl
    where
      go : (b : Bool) → x.site.node.running ≡ b → AtEach (IsLast past st) sc.world t.world.log sc.seen
      go true r = read r owed h
      go false r = unread r

-- Every other event answers nothing.
dull_one : (past : List Step) (x : Step) (es : List LogEntry) (o : Observation) → Dull o → IsLast past x es o
dull_one past x es (seen.Answered c op a) d = absurd d
dull_one past x es o d = tt

pub dull_reads : (past : List Step) (x : Step) (w : World) (es : List LogEntry) (os : List Observation) → AllDull os → AtEach (IsLast past x) w es os
unfolding AtEach
dull_reads past x w es [] d = tt
dull_reads past x w es (o ∷ os) d = (dull_one past x es o d.one, dull_reads past x w (log_behind w es o) os d.rest)

pub others_dull : (w : World) (e : Event) → taken w e ≡ None → AllDull (happens w e).seen
others_dull = others AllDull tt server_dull dull_fates
