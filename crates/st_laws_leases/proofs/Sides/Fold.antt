-- The client's half of the fold over events: the invariant of a server and all its clients holds again, and the path goes on.
use Rattle.st_lemmas.proofs.Words
use Words.{◌≡◌, ℕ, ◌+◌, arith, Bool, true, false, Option, Some, None, Ok, Err, refl, sym, ap, ◌∙◌, subst, inl, if◌then◌else◌, Ask, ClientInput}
use Words.{IssuedCommand, SentMessage, Event, length, unwrap_or}
use Words.nodes
use Words.inputs
use Words.Client as cl
use Words.Disks as disks
use Words.Keys.{client}
use Words.Server.{ServerNode}
use Words.World.{World, WorldClient, clock_of, issued_of, message_of, is_running, numbered, site_runs, server, site_of, stamp}
use Words.Events as ev
use Words.Events.{WorldTurn, counted, happens, world_step}
use Words.Admissible as admissible
use Words.Tables.{not_false}
use Words.Worlds.{stands_not}
use Rattle.st_rules.specs.declared.node.StepRefusal.TheVariants as refusals
use Rattle.st_protocol.specs.Assoc as net
use Rattle.st_protocol.specs.Assoc.{Config}
use Rattle.st_laws_refine.specs.Views.Halves.{Ghost, half_of}
use Rattle.st_laws_refine.specs.Client.Law.{Comes, ReceivedOf}
use Rattle.st_laws_refine.specs.Client.World.{stepped}
use Rattle.st_lemmas.proofs.Steps.{step_happens}
use Rattle.st_laws_refine.proofs.Server.Delivery.{message_has}
use Rattle.std.specs.Option.{option_or}
use Rattle.st_laws_leases.specs.Sides.Invariants.{Both, GrantsHaveModes, Left, Unseen}
use Rattle.st_laws_refine.specs.Server.Paths.{Path, Leads}
use Rattle.st_laws_leases.specs.Sides.Paths.{ClientPath}
use Rattle.st_laws_refine.specs.Server.Pair.{client_at_site, client_in, pair}
use Rattle.st_laws_leases.specs.Sides.Law.{ClientEvent, ClientEventsKeep}
use Rattle.st_laws_leases.specs.Sides.Law.ClientEvent.{ByTick, ByAsk, ByMessage, ByReport, ByCrash, ByStart, ByLoss, ByCut, ByHeal, ByEffect}
use Rattle.st_laws_leases.proofs.Sides.Left.{left_all, left_with, left_then, one_changed}
use Rattle.st_laws_leases.proofs.Sides.Clients.{brings, steps}
use Rattle.st_laws_leases.proofs.Sides.Crashes.{crashed, started}
use Rattle.st_laws_leases.proofs.Sides.OtherServers.{unseen, message_lost, lost_had, link_cut, link_healed}

-- a client that crashes or starts
stop_left : (w : World) (c : ℕ) (site : WorldClient) → Left w (ev.crashes_client w (client c) (Some site)).world
unfolding ev.crashes_client ev.marks
stop_left w c site = one_changed w (client c) (ev.stopped_site site) _ refl refl refl refl refl refl

start_left : (w : World) (c : ℕ) (site : WorldClient) → Left w (ev.starts_client w (client c) (Some site))
unfolding ev.starts_client
start_left w c site = one_changed w (client c) (ev.started_site site) _ refl refl refl refl refl refl

module _ (k : Config) (s : ℕ) (node : ServerNode) (ended : ℕ → ℕ → ℕ) (G : ℕ → Ghost) where
  found : (w v : World) → Left w v → Both k s v node ended G → ((H : net.World) → Leads k H s ended w node G → Leads k H s ended v node G) →
      ClientPath k s w v node ended G
  found w v l b f = record { ends_of = ended; ghosts = G; both = b; drift = λ c. refl; left = l; keeps = f }

  stays : (w : World) → Both k s w node ended G → ClientPath k s w w node ended G
  stays w b = found w w (left_all w w refl refl refl refl refl refl) b (λ H o. o)

  -- a world of which the associations see no change
  pub same : (w v : World) → Unseen s w v → Both k s w node ended G → Both k s v node ended G
  same w v u b = unseen k s w v node ended G u b

  -- and the order is the same
  pub same_leads : (w v : World) → Unseen s w v → (H : net.World) → Leads k H s ended w node G → Leads k H s ended v node G
  same_leads w v u H o = subst (Path k H) (λ j. record { at = λ c. pair_same c j }) o
    where
      clock_s : clock_of w (nodes.Server (server s)) ≡ clock_of v (nodes.Server (server s))
      clock_s = λ j. unwrap_or (numbered (sym u.clocks j) (length (sym u.clients j) + s)) (stamp 0)

      view : (c : ℕ) → client_in w c s (ended c) ≡ client_in v c s (ended c)
      view c = λ j. client_at_site (record w { clients = sym u.clients j; clocks = sym u.clocks j; config = sym u.config j }) c s (ended c)
          (numbered (sym u.clients j) c)

      pair_same : (c : ℕ) → pair c s (ended c) w node (G c) ≡ pair c s (ended c) v node (G c)
      pair_same c = λ j. record { c = view c j; s = half_of (client c) (clock_s j) node.running node.state (G c); net = (G c).net }

  pub counted_same : (w : World) → Unseen s w (counted w)
  counted_same w = record { clients = refl; clocks = refl; ended = refl; config = refl; found = refl; messages = λ m h. inl (m, h, refl) }

  -- what holds after an earlier change
  after : (u v w : World) → Left u v → Unseen s u v → ClientPath k s v w node ended G → ClientPath k s u w node ended G
  after u v w l x b =
      record {
        ends_of = b.ends_of;
        ghosts = b.ghosts;
        both = b.both;
        drift = b.drift;
        left = left_then u v w l b.left;
        keeps =
            λ H o. b.keeps H (same_leads u v x H o);
      }

  -- a client takes an input
  takes : (w : World) (c : ℕ) (site0 site : WorldClient) (input : ClientInput) → Both k s w node ended G → site_of w (client c) ≡ Some site0 →
      site.node ≡ site0.node → Comes (server s) c input (G c).net → ReceivedOf input →
      ClientPath k s w (ev.client_takes w (client c) input site).world node ended G
  unfolding ev.client_takes ev.client_took cl.node_step
  takes w c site0 site input b there is comes received = go site.node.running refl
    where
      go : (r : Bool) → site.node.running ≡ r → ClientPath k s w
          (ev.client_took w (client c) site (if r then Ok (cl.node_turn site.node (stepped w (client c) site input)) else Err refusals.Crashed)).world node
          ended G
      go true runs = steps k s w node ended G c site0 site input b there is runs comes received
      go false runs = stays w b

  at_client : (w : World) (c : ℕ) (input : ClientInput) → Both k s w node ended G → Comes (server s) c input (G c).net → ReceivedOf input →
      ClientPath k s w (ev.at_client w (client c) input (site_of w (client c))).world node ended G
  unfolding ev.at_client
  at_client w c input b comes received = go (site_of w (client c)) refl
    where
      go : (o : Option WorldClient) → site_of w (client c) ≡ o → ClientPath k s w (ev.at_client w (client c) input o).world node ended G
      go None e = stays w b
      go (Some site) e = takes w c site site input b e refl comes received

  asked : (w : World) (c : ℕ) (ask : Ask) → Both k s w node ended G → ClientPath k s w (ev.asks_at w (client c) ask (site_of w (client c))).world node ended G
  unfolding ev.asks_at
  asked w c ask b = go (site_of w (client c)) refl
    where
      go : (o : Option WorldClient) → site_of w (client c) ≡ o → ClientPath k s w (ev.asks_at w (client c) ask o).world node ended G
      go None e = stays w b
      go (Some site) e = takes w c site (ev.asked_once_more site) (inputs.App _ ask) b e refl (record {}) (record {})

  told : (w : World) (n : ℕ) (ok : Bool) (o : Option IssuedCommand) → Both k s w node ended G → ClientPath k s w (ev.tells w n ok o).world node ended G
  unfolding ev.tells ev.tells_client ev.tells_site
  told w n ok None b = stays w b
  told w n ok (Some x) b = go (site_of w x.client) refl
    where
      by : (site : WorldClient) → site_of w x.client ≡ Some site → (same : Bool) →
          ClientPath k s w (if same then ev.client_takes w x.client (ev.end_told w n ok x) site else ev.quiet w).world node ended G
      by site e true = takes w x.client.0 site site (ev.end_told w n ok x) b e refl (record {}) (record {})
      by site e false = stays w b

      go : (o : Option WorldClient) → site_of w x.client ≡ o → ClientPath k s w (ev.tells_client w n ok x o).world node ended G
      go None e = stays w b
      go (Some site) e = by site e (ev.is_same_instance x site)

  reported : (w : World) (n : ℕ) (ok : Bool) → Both k s w node ended G → ClientPath k s w (ev.reports_of w n ok).world node ended G
  unfolding ev.reports_of
  reported w n ok b =
      let v : World = ev.with_disks (ev.disks_after w.disks (disks.done w.disks n ok)) w in
      after w v _ (left_all w v refl refl refl refl refl refl)
      (record { clients = refl; clocks = refl; ended = refl; config = refl; found = refl; messages = λ m h. inl (m, h, refl) })
      (told v n ok (issued_of w n)
      (same w v (record { clients = refl; clocks = refl; ended = refl; config = refl; found = refl; messages = λ m h. inl (m, h, refl) }) b))

  crash_of : (w : World) (c : ℕ) → Both k s w node ended G → ((site : WorldClient) → site_of w (client c) ≡ Some site → site.node.running ≡ true) →
      ClientPath k s w (ev.crashes_client w (client c) (site_of w (client c))).world node ended G
  unfolding ev.crashes_client
  crash_of w c b runs = go (site_of w (client c)) refl
    where
      go : (o : Option WorldClient) → site_of w (client c) ≡ o → ClientPath k s w (ev.crashes_client w (client c) o).world node ended G
      go None e = stays w b
      go (Some site) e = let x = crashed k s w node ended G c site b e (runs site e) in
          record { ends_of = _; ghosts = G; both = x.both; drift = λ d. refl; left = stop_left w c site; keeps = x.keeps }

  start_of : (w : World) (c : ℕ) → Both k s w node ended G → ((site : WorldClient) → site_of w (client c) ≡ Some site → site.node.running ≡ false) →
      ClientPath k s w (ev.starts_client w (client c) (site_of w (client c))) node ended G
  unfolding ev.starts_client
  start_of w c b stops = go (site_of w (client c)) refl
    where
      go : (o : Option WorldClient) → site_of w (client c) ≡ o → ClientPath k s w (ev.starts_client w (client c) o) node ended G
      go None e = stays w b
      go (Some site) e = let x = started k s w node ended G c site b e (stops site e) in
          record { ends_of = _; ghosts = G; both = x.1; drift = λ d. refl; left = start_left w c site; keeps = x.2 }

  effect_of : (w : World) (n : ℕ) → Unseen s w (ev.effects w n).world
  unfolding ev.effects ev.marks
  effect_of w n = record { clients = refl; clocks = refl; ended = refl; config = refl; found = refl; messages = λ m h. inl (m, h, refl) }

  lost_of : (w : World) (n : ℕ) (o : Option SentMessage) → message_of w n ≡ o → Both k s w node ended G → ClientPath k s w (ev.loses_message w n o) node ended G
  unfolding ev.loses_message
  lost_of w n None e b = stays w b
  lost_of w n (Some m) e b =
      found w (ev.with_lost n m w)
      (record
      { servers = refl; config = refl; clocks = refl; drift = refl; many = refl; bytes = omega arith; messages = λ x h. inl (lost_had k s w n m e x h) })
      (same w (ev.with_lost n m w) (message_lost k s w n m e) b) (same_leads w (ev.with_lost n m w) (message_lost k s w n m e))

-- the second of two refusals
pub second_none : {A : Type 0} (o p : Option A) → option_or o p ≡ None → p ≡ None
second_none None p e = e
second_none (Some x) p e = cc

runs_by : (w : World) (c : ℕ) (site : WorldClient) → site_of w (client c) ≡ Some site → site.node.running ≡ is_running w (nodes.Client (client c))
runs_by w c site e = sym (ap (λ o. site_runs o) e)

-- an effect on a disk
effect_left : (w : World) (n : ℕ) → Left w (ev.effects w n).world
unfolding ev.effects ev.marks
effect_left w n = left_with w _ refl refl refl refl refl refl refl

pub facts_hold_along_a_run : (k : Config) (s : ℕ) (w : World) (node : ServerNode) (ended : ℕ → ℕ → ℕ) (G : ℕ → Ghost) (e : Event) (sc : WorldTurn) →
    Both k s w node ended G → GrantsHaveModes w → ClientEvent w e → world_step w e ≡ Ok sc → ClientPath k s w sc.world node ended G
unfolding happens ev.ticks ev.delivers ev.delivers_to ev.crashes ev.starts admissible.refusal
facts_hold_along_a_run k s w node ended G e sc b modes kind h =
    let p = step_happens w e sc h in
    let c : Both k s (counted w) node ended G = same k s node ended G w (counted w) (counted_same k s node ended G w) b in
    subst (λ (x : WorldTurn). ClientPath k s w x.world node ended G) (sym p.1)
    (after k s node ended G w (counted w) _ (left_all w (counted w) refl refl refl refl refl refl) (counted_same k s node ended G w) (go kind p.0 c))
  where
    go : ClientEvent w e → admissible.refusal w e ≡ None → Both k s (counted w) node ended G →
        ClientPath k s (counted w) (happens (counted w) e).world node ended G
    go (ByTick c is) f b = subst (λ e. ClientPath k s (counted w) (happens (counted w) e).world node ended G) (sym is)
        (at_client k s node ended G (counted w) c inputs.Tick b (record {}) (record {}))
    go (ByAsk c ask is) f b = subst (λ e. ClientPath k s (counted w) (happens (counted w) e).world node ended G) (sym is)
        (asked k s node ended G (counted w) c ask b)
    go (ByMessage c n m is found to) f b =
        subst (λ e. ClientPath k s (counted w) (happens (counted w) e).world node ended G) (sym is)
        (subst (λ o. ClientPath k s (counted w) (ev.delivers (counted w) o).world node ended G) (sym found)
        (subst (λ t. ClientPath k s (counted w) (ev.delivers_to (counted w) m.message t).world node ended G) (sym to)
        (let has = message_has w n m found in
        at_client k s node ended G (counted w) c (inputs.Control m.message) b (brings k s (counted w) node ended G c m b has (modes m has)) (modes m has))))
    go (ByReport n good is) f b = subst (λ e. ClientPath k s (counted w) (happens (counted w) e).world node ended G) (sym is)
        (reported k s node ended G (counted w) n good b)
    go (ByCrash c is) f b =
        let q = subst (λ e. admissible.refusal w e ≡ None) is f in
        subst (λ e. ClientPath k s (counted w) (happens (counted w) e).world node ended G) (sym is)
        (crash_of k s node ended G (counted w) c b (λ site e. runs_by w c site e ∙ not_false _ (stands_not _ _ (second_none _ _ q))))
    go (ByStart c is) f b =
        let q = subst (λ e. admissible.refusal w e ≡ None) is f in
        subst (λ e. ClientPath k s (counted w) (happens (counted w) e).world node ended G) (sym is)
        (start_of k s node ended G (counted w) c b (λ site e. runs_by w c site e ∙ stands_not _ _ (second_none _ _ q)))
    go (ByLoss n is) f b = subst (λ e. ClientPath k s (counted w) (happens (counted w) e).world node ended G) (sym is)
        (lost_of k s node ended G (counted w) n (message_of w n) refl b)
    go (ByCut x y is) f b = subst (λ e. ClientPath k s (counted w) (happens (counted w) e).world node ended G) (sym is)
        (found k s node ended G (counted w) _ (left_with (counted w) _ refl refl refl refl refl refl refl)
        (same k s node ended G (counted w) _ (link_cut k s (counted w) x y) b) (same_leads k s node ended G (counted w) _ (link_cut k s (counted w) x y)))
    go (ByHeal x y is) f b = subst (λ e. ClientPath k s (counted w) (happens (counted w) e).world node ended G) (sym is)
        (found k s node ended G (counted w) _ (left_with (counted w) _ refl refl refl refl refl refl refl)
        (same k s node ended G (counted w) _ (link_healed k s (counted w) x y) b) (same_leads k s node ended G (counted w) _ (link_healed k s (counted w) x y)))
    go (ByEffect n is) f b = subst (λ e. ClientPath k s (counted w) (happens (counted w) e).world node ended G) (sym is)
        (found k s node ended G (counted w) _ (effect_left (counted w) n) (same k s node ended G (counted w) _ (effect_of k s node ended G (counted w) n) b)
        (same_leads k s node ended G (counted w) _ (effect_of k s node ended G (counted w) n)))

pub events_keep : ClientEventsKeep
events_keep k s w node ended G e sc b modes kind h =
    let z = facts_hold_along_a_run k s w node ended G e sc b modes kind h in
    record { ends_of = z.ends_of; ghosts = z.ghosts; both = z.both; drift = z.drift; left = z.left }
