-- In the world: an event at which a client takes an input keeps its copies.
use Rattle.st_lemmas.proofs.Words
use Words.{◌≡◌, ℕ, ◌+◌, Bool, true, false, List, [], ◌∷◌, Option, Some, None, Ok, Err, refl, sym, ap, ◌∙◌, subst, inl, inr, if◌then◌else◌, find, ClientId}
use Words.{ServerId, Life, NodeId, Ask, Event, Message, ClientInput, IssuedCommand, SentMessage}
use Words.nodes
use Words.events
use Words.inputs
use Words.Client as cl
use Words.ClientState.{Association, ClientState, is_at}
use Words.Disks as disks
use Words.World as world
use Words.World.{World, WorldClient, site_of, issued_of, life_with, message_of, receiver_of}
use Words.Events as ev
use Words.Events.{WorldTurn, present_life}
use Words.Lists.{Has}
use Words.Lookups.{some_is}
use Words.Numbers.{numbered_own}
use Words.Worlds.{flushes_log}
use Rattle.st_rules.specs.declared.node.StepRefusal.TheVariants.{Crashed}
use Rattle.st_lemmas.proofs.Steps.{step_happens}
use Rattle.st_laws_refine.specs.Client.World.{logged}
use Rattle.st_laws_refine.proofs.Client.World.{told_all}
use Rattle.st_laws_reads.specs.Copies.Obligations.{Numbered}
use Rattle.st_laws_reads.specs.Copies.Law.{Apart, LivesAre, ClientStands, ClientCopies, StepKeeps}
use Rattle.st_laws_reads.specs.Copies.World.{Taking, taking, asking, receiving, receiving_of, told_at, told_of, taken, now_at, turn_of, OwedOf, WorldKeeps}
use Rattle.st_laws_reads.specs.Copies.World.{EventsKeepCopies}
use Rattle.st_laws_reads.proofs.Copies.Held.{Owns, entries_own}
use Rattle.st_laws_reads.proofs.Copies.Locked.{found_there}
use Rattle.st_laws_reads.proofs.Copies.Step.{steps_keep_copies as step_law, step_apart}

-- The lives of associations with servers that differ are what is looked up.
lives_found : (s : ClientState) (xs : List Association) → ((a : Association) → Has a xs → find (is_at a.server) s.associations ≡ Some a) → LivesAre (life_with s) xs
lives_found s [] f = record {}
lives_found s (a ∷ xs) f = record { one = ap world.life_at (f a (inl refl)); rest = lives_found s xs (λ b i. f b (inr i)) }

lives_are : (s : ClientState) → Apart s.associations → LivesAre (life_with s) s.associations
lives_are s d = lives_found s s.associations (λ a i. found_there s.associations a d i)

-- A client takes an input.
takes_keep : (asked_as : ℕ → Option Ask) (x : Taking) (old : WorldClient) → site_of x.world x.client ≡ Some old → x.site.node.running ≡ true → ClientCopies asked_as x.client x.world.log (now_at x) x.site.node.state → Numbered asked_as x.input → OwedOf x →
    WorldKeeps asked_as x.client x.world.log (ev.client_takes x.world x.client x.input x.site).world.log (turn_of x)
unfolding ev.client_takes ev.client_took cl.node_step
takes_keep asked_as x old there r h a o =
    subst (λ b. WorldKeeps asked_as x.client x.world.log (ev.client_took x.world x.client x.site (if b then Ok t else Err Crashed)).world.log (turn_of x)) (sym r)
    (record { stands = subst (λ l. ClientStands asked_as x.client l (turn_of x).state) (sym log) k.stands; right = k.right; log = log; more = owns.more; joined = log ∙ owns.joined; own = owns.own })
  where
    t : cl.NodeTurn
    t = cl.node_turn x.site.node (turn_of x)

    after : WorldClient
    after = ev.at_node t.node x.site

    sc : WorldTurn
    sc = ev.quiet (ev.with_site x.client after x.world)

    u : World
    u = (ev.client_says_all x.client x.site.node.state (turn_of x).out sc).world

    own : LivesAre (life_with (turn_of x).state) (turn_of x).state.associations
    own = lives_are (turn_of x).state (step_apart asked_as x.client (life_with (turn_of x).state) x.world.log x.site.node.state (now_at x) x.input h.apart a o)

    k : StepKeeps asked_as x.client (life_with (turn_of x).state) x.world.log (turn_of x)
    k = step_law asked_as x.client (life_with (turn_of x).state) x.world.log x.site.node.state (now_at x) x.input h a o own

    owns : Owns x.client (turn_of x).state.associations x.world.log (logged x.client (life_with (turn_of x).state) (turn_of x).out x.world.log)
    owns = entries_own asked_as x.client (life_with (turn_of x).state) x.world.log (turn_of x) k own

    lives : ◌≡◌ {A = ServerId → Life} (present_life sc.world x.client) (life_with (turn_of x).state)
    lives = λ j s. ev.life_of_site s (numbered_own x.world.clients x.client.0 after old there j)

    log : (ev.client_took x.world x.client x.site (Ok t)).world.log ≡ logged x.client (life_with (turn_of x).state) (turn_of x).out x.world.log
    log =
        flushes_log x.client t.node.state (world.all_servers u) u ∙ (told_all x.client x.site.node.state (turn_of x).out sc).log
        ∙ ap (λ l. logged x.client l (turn_of x).out x.world.log) lives

-- At each event.
module _ (asked_as : ℕ → Option Ask) where
  abbrev KeepsAt : WorldTurn → Taking → Type 0
  KeepsAt sc x =
      x.site.node.running ≡ true → ClientCopies asked_as x.client x.world.log (now_at x) x.site.node.state → Numbered asked_as x.input → OwedOf x →
      WorldKeeps asked_as x.client x.world.log sc.world.log (turn_of x)

  by_client : (w : World) (c : ClientId) (input : ClientInput) (o : Option WorldClient) (x : Taking) → site_of w c ≡ o → taking w c input o ≡ Some x → KeepsAt (ev.at_client w c input o) x
  unfolding ev.at_client
  by_client w c input None x e q = cc q
  by_client w c input (Some site) x e q = subst (KeepsAt (ev.client_takes w c input site)) (some_is q) (takes_keep asked_as (record { world = w; client = c; input = input; site = site }) site e)

  by_ask : (w : World) (c : ClientId) (ask : Ask) (o : Option WorldClient) (x : Taking) → site_of w c ≡ o → asking w c ask o ≡ Some x → KeepsAt (ev.asks_at w c ask o) x
  unfolding ev.asks_at
  by_ask w c ask None x e q = cc q
  by_ask w c ask (Some site) x e q =
      subst (KeepsAt (ev.client_takes w c (inputs.App (site.asks + 1) ask) (ev.asked_once_more site))) (some_is q)
      (takes_keep asked_as (record { world = w; client = c; input = inputs.App (site.asks + 1) ask; site = ev.asked_once_more site }) site e)

  by_message : (w : World) (m : Message) (n : NodeId) (x : Taking) → receiving w m n ≡ Some x → KeepsAt (ev.delivers_to w m n) x
  unfolding ev.delivers_to
  by_message w m (nodes.Client c) x q = by_client w c (inputs.Control m) (site_of w c) x refl q
  by_message w m (nodes.Server s) x q = cc q

  by_delivery : (w : World) (o : Option SentMessage) (x : Taking) → receiving_of w o ≡ Some x → KeepsAt (ev.delivers w o) x
  unfolding ev.delivers
  by_delivery w None x q = cc q
  by_delivery w (Some m) x q = by_message w m.message (receiver_of m) x q

  by_end : (v : World) (k : ℕ) (ok : Bool) (y : IssuedCommand) (o : Option WorldClient) (x : Taking) → site_of v y.client ≡ o → told_at v k ok y o ≡ Some x → KeepsAt (ev.tells_client v k ok y o) x
  unfolding ev.tells_client ev.tells_site
  by_end v k ok y None x e q = cc q
  by_end v k ok y (Some site) x e q = go (ev.is_same_instance y site) q
    where
      go : (b : Bool) → (if b then taking v y.client (ev.end_told v k ok y) (Some site) else None) ≡ Some x → KeepsAt (if b then ev.client_takes v y.client (ev.end_told v k ok y) site else ev.quiet v) x
      go true q = subst (KeepsAt (ev.client_takes v y.client (ev.end_told v k ok y) site)) (some_is q) (takes_keep asked_as (record { world = v; client = y.client; input = ev.end_told v k ok y; site = site }) site e)
      go false q = cc q

  by_report : (v : World) (k : ℕ) (ok : Bool) (o : Option IssuedCommand) (x : Taking) → told_of v k ok o ≡ Some x → KeepsAt (ev.tells v k ok o) x
  unfolding ev.tells
  by_report v k ok None x q = cc q
  by_report v k ok (Some y) x q = by_end v k ok y (site_of v y.client) x refl q

  by_event : (w : World) (e : Event) (x : Taking) → taken w e ≡ Some x → KeepsAt (ev.happens w e) x
  unfolding ev.happens ev.ticks ev.reports_of
  by_event w (events.Tick (nodes.Client c)) x q = by_client w c inputs.Tick (site_of w c) x refl q
  by_event w (events.App c ask) x q = by_ask w c ask (site_of w c) x refl q
  by_event w (events.Deliver k) x q = by_delivery w (message_of w k) x q
  by_event w (events.Report k ok) x q = by_report (ev.with_disks (ev.disks_after w.disks (disks.done w.disks k ok)) w) k ok (issued_of w k) x q
  by_event w e x q = cc q

pub events_keep_copies : EventsKeepCopies
events_keep_copies asked_as w e sc x is q = let z = step_happens w e sc is in subst (λ (s : WorldTurn). KeepsAt asked_as s x) (sym z.1) (by_event asked_as (ev.counted w) e x q)
