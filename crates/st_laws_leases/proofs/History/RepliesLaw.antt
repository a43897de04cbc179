-- The dates of the history are of clients and of replies: at each event, and over whole runs.
use Rattle.st_lemmas.proofs.Words
use Words.{◌≡◌, ℕ, ◌+◌, ◌≤◌, Bool, true, false, List, [], ◌∷◌, ◌++◌, Option, Some, None, Ok, Err, refl, sym, ap, ◌∙◌, subst, inl, inr, if◌then◌else◌}
use Words.{◌⊎◌, length, pred, set, slice_get, suc, zero, Config, ClientId, NodeId, ServerId, Stamp, Event, Message, Output, ClientInput, ServerInput}
use Words.{IssuedCommand, SentMessage}
use Words.nodes
use Words.events
use Words.inputs
use Words.serving
use Words.Client as cl
use Words.Disks as disks
use Words.Events as ev
use Words.Events.{WorldTurn}
use Words.History.{LeaseDate, Traced, traced, traced_after, history_after, lease_date, recall_all, remember}
use Words.Safety.{Step, step}
use Words.Server as server
use Words.Server.{ServerNode}
use Words.World as world
use Words.World.{World, WorldClient, site_of, node_of, numbered, clock_of, message_of, receiver_of, issued_of, all_servers, fresh_world}
use Words.Lists.{Has}
use Words.Lookups.{some_is}
use Words.Numbers.{numbered_own, numbered_has, numbered_below, set_length}
use Words.Worlds.{site_there}
use Rattle.st_rules.specs.declared.node.StepRefusal.TheVariants.{Crashed}
use Rattle.st_lemmas.proofs.Steps.{throughout, step_happens}
use Rattle.st_laws_steps.specs.Lives.Lives.{LivesHold, NodeHolds, ended_rows}
use Rattle.st_laws_pages.specs.Disks.Obligations.{FatesHold}
use Rattle.st_laws_pages.proofs.Disks.Steps.{fates_law}
use Rattle.st_laws_pages.proofs.Disks.Whole.{fresh_fates}
use Rattle.st_laws_pages.proofs.Lives.Lasting.{Flushed, flush_parts}
use Rattle.st_laws_pages.proofs.Lives.Turning.{Said, says_lives}
use Rattle.st_laws_leases.specs.History.Law.{RunsDateFromReplies}
use Rattle.st_laws_leases.specs.History.Replies.{Replied, DatesReplied, DatesStand, DatesAreOfReplies}
use Rattle.st_laws_leases.proofs.History.Dates.{AllUndated, dates_out, dates_said, undated_same}
use Rattle.st_laws_leases.proofs.History.Lives.{remembered}
use Rattle.st_laws_leases.proofs.History.Law.{ServerQuiet, server_all, undated_fates, says, behind, took_is, stopped_is, beside}
use Rattle.st_laws_pages.proofs.Asks.Says.{server_leaves}
use Rattle.st_laws_leases.proofs.History.Leasing.{leased}
use Rattle.st_laws_leases.proofs.History.Replies.{noted_date, replied_more, stepped_replied}
use Rattle.st_laws_leases.proofs.History.Sent.{Later, client_later, flush_later, server_later}

-- the settings and the messages of a world, with what is promised about dates
pub record Holds (w : World) (ds : List LeaseDate) : Type 0 where
  pub replied : DatesReplied w.config.lease w.net.messages ds
  pub placed : (d : LeaseDate) → Has d ds → (1 ≤ d.client.0) × (d.client.0 ≤ length w.clients)

abbrev After : Traced → Event → WorldTurn → Type 0
After t e sc = Holds sc.world (history_after t.world e sc t.history).dates

-- messages stay, by what they say
abbrev Grown : World → World → Type 0
Grown w v = (v.config ≡ w.config) × (length v.clients ≡ length w.clients) × ((m : SentMessage) → Has m w.net.messages → (n : SentMessage) × Has n v.net.messages × (n.message ≡ m.message))

grown : (w v : World) (ds : List LeaseDate) → Grown w v → Holds w ds → Holds v ds
grown w v ds g h =
    record {
      replied = λ d i. subst (λ (k : Config). Replied k.lease v.net.messages d) (sym g.0) (replied_more w.config.lease w.net.messages v.net.messages g.2 d (h.replied d i));
      placed = λ d i. let z = h.placed d i in (z.0, subst (λ n. d.client.0 ≤ n) (sym g.1) z.1);
    }

undated : (t : Traced) (e : Event) (sc : WorldTurn) → AllUndated sc.seen → Grown t.world sc.world → Holds t.world t.history.dates → After t e sc
undated t e sc n g h = subst (λ ds. Holds sc.world ds) (sym (undated_same t.world sc.world sc.seen (remember t.world e t.history) n ∙ remembered t.world e t.history)) (grown t.world sc.world t.history.dates g h)

-- nothing was said
nothing : (t : Traced) (e : Event) (v : World) → v.config ≡ t.world.config → length v.clients ≡ length t.world.clients → v.net.messages ≡ t.world.net.messages → Holds t.world t.history.dates → After t e (ev.quiet v)
nothing t e v c n m h = undated t e (ev.quiet v) tt (c, n, λ x i. (x, subst (Has x) (sym m) i, refl)) h

-- what comes to a client was sent
abbrev Comes : List SentMessage → ClientInput → Type 0
Comes ms i = (m : Message) → i ≡ inputs.Control m → (n : SentMessage) × Has n ms × (n.message ≡ m)

-- what a client says in a step, and the client after it
abbrev out_of : World → ClientId → WorldClient → ClientInput → List Output
out_of w c site input = (cl.client_step site.node.state (clock_of w (nodes.Client c)) input).out

abbrev site_after : World → ClientId → WorldClient → ClientInput → WorldClient
site_after w c site input = ev.at_node (cl.node_turn site.node (cl.client_step site.node.state (clock_of w (nodes.Client c)) input)).node site

module _ (t : Traced) (e : Event) (a : world.Tally) (d : disks.Disks) (lives : LivesHold t.world) (h : Holds t.world t.history.dates) where
  abbrev W : World
  W = beside a d t.world

  takes_replied : (c : ClientId) (input : ClientInput) (old site : WorldClient) → site_of t.world c ≡ Some old → old.node ≡ site.node → Comes t.world.net.messages input → After t e (ev.client_takes W c input site)
  takes_replied c input old site i same comes = go site.node.running refl
    where
      node : NodeHolds t.world.config t.world.clocks t.world.ended c site.node
      node = subst (NodeHolds t.world.config t.world.clocks t.world.ended c) same (lives.lives.sites c old i)

      said : Said c (ended_rows c site.node.state (out_of W c site input)) (ev.with_site c (site_after W c site input) W) (says W c site input).world
      said = says_lives c site.node.state (out_of W c site input) (ev.quiet (ev.with_site c (site_after W c site input) W))

      fl : Flushed (says W c site input).world (behind W c site input)
      fl = flush_parts c (site_after W c site input).node.state (all_servers (says W c site input).world) (says W c site input).world

      there : site_of (behind W c site input) c ≡ Some (site_after W c site input)
      there = ap (λ z. numbered z c.0) (fl.clients ∙ said.clients) ∙ numbered_own t.world.clients c.0 (site_after W c site input) old i

      first : Later (ev.with_site c (site_after W c site input) W) (says W c site input).world
      first = client_later c site.node.state (out_of W c site input) (ev.quiet (ev.with_site c (site_after W c site input) W))

      last : Later (says W c site input).world (behind W c site input)
      last = flush_later c (site_after W c site input).node.state (all_servers (says W c site input).world) (says W c site input).world

      later : Grown t.world (behind W c site input)
      later = (last.config ∙ first.config, ap (λ (z : List WorldClient). length z) (fl.clients ∙ said.clients) ∙ set_length t.world.clients (pred c.0) (site_after W c site input), λ m q. (m, last.sent m (first.sent m q), refl))

      dates : (recall_all t.world (behind W c site input) (says W c site input).seen (remember t.world e t.history)).dates ≡ dates_out (behind W c site input) c (out_of W c site input) t.history.dates
      dates =
          dates_said t.world (behind W c site input) c site.node.state (remember t.world e t.history) (out_of W c site input) (ev.quiet (ev.with_site c (site_after W c site input) W))
          ∙ ap (dates_out (behind W c site input) c (out_of W c site input)) (undated_same t.world (behind W c site input) [] (remember t.world e t.history) tt ∙ remembered t.world e t.history)

      stepped : DatesReplied site.node.state.config.lease t.world.net.messages (dates_out (behind W c site input) c (out_of W c site input) t.history.dates)
      stepped =
          stepped_replied c site.node.state (clock_of W (nodes.Client c)) input (behind W c site input) (site_after W c site input) t.world.net.messages node.id node.once there refl comes t.history.dates
          (subst (λ (k : Config). DatesReplied k.lease t.world.net.messages t.history.dates) (sym node.config) h.replied)

      placed : (d : LeaseDate) → Has d (dates_out (behind W c site input) c (out_of W c site input) t.history.dates) → (1 ≤ d.client.0) × (d.client.0 ≤ length t.world.clients)
      placed d j = at (noted_date (behind W c site input) c (out_of W c site input) t.history.dates d j)
        where
          at : Has d t.history.dates ⊎ ((r : ServerId) × (end : Stamp) × Has (leased r end) (out_of W c site input) × (d ≡ lease_date (behind W c site input) c r end)) → (1 ≤ d.client.0) × (d.client.0 ≤ length t.world.clients)
          at (inl z) = h.placed d z
          at (inr (r, end, z, q)) = subst (λ (x : LeaseDate). (1 ≤ x.client.0) × (x.client.0 ≤ length t.world.clients)) (sym q) (numbered_below t.world.clients c.0 old i)

      went : After t e (ev.world_turn (behind W c site input) (says W c site input).seen)
      went =
          subst (λ ds. Holds (behind W c site input) ds) (sym dates)
          (grown t.world (behind W c site input) (dates_out (behind W c site input) c (out_of W c site input) t.history.dates) later
          (record { replied = subst (λ (k : Config). DatesReplied k.lease t.world.net.messages (dates_out (behind W c site input) c (out_of W c site input) t.history.dates)) node.config stepped; placed = placed }))

      go : (b : Bool) → site.node.running ≡ b → After t e (ev.client_takes W c input site)
      go true r = subst (λ sc. After t e sc) (sym (took_is W c site input r)) went
      go false r = subst (λ sc. After t e sc) (sym (stopped_is W c site input r)) (nothing t e W refl refl refl h)

  client_replied : (c : ClientId) (input : ClientInput) (o : Option WorldClient) → site_of t.world c ≡ o → Comes t.world.net.messages input → After t e (ev.at_client W c input o)
  unfolding ev.at_client
  client_replied c input None i comes = nothing t e W refl refl refl h
  client_replied c input (Some site) i comes = takes_replied c input site site i refl comes

  server_replied : (s : ServerId) (input : ServerInput) (o : Option ServerNode) → After t e (ev.at_server W s input o)
  unfolding ev.at_server ev.server_takes ev.server_took server.node_step
  server_replied s input None = nothing t e W refl refl refl h
  server_replied s input (Some node) = go node.running
    where
      x : server.ServerTurn
      x = server.server_step node.state (clock_of W (nodes.Server s)) input

      v1 : World
      v1 = ev.with_node s (server.node_turn node x).node W

      sc : WorldTurn
      sc = ev.server_says_all s x.out (ev.quiet v1)

      q : ServerQuiet v1 sc
      q = server_all v1 s x.out (ev.quiet v1) (record { ended = refl; seen = tt })

      l : Later v1 sc.world
      l = server_later s x.out (ev.quiet v1)

      go : (b : Bool) → After t e (ev.server_took W s (if b then Ok (server.node_turn node x) else Err Crashed))
      go true = undated t e sc q.seen (l.config, ap (λ (z : List WorldClient). length z) (server_leaves s x.out (ev.quiet v1)).clients, λ m j. (m, l.sent m j, refl)) h
      go false = nothing t e W refl refl refl h

no_message : (i : ClientInput) (ms : List SentMessage) → ((m : Message) → i ≡ inputs.Control m → ⊥) → Comes ms i
no_message i ms f m e = absurd (f m e)

set_sent : (ms : List SentMessage) (k : ℕ) (x y : SentMessage) → slice_get ms k ≡ Some y → x.message ≡ y.message → (m : SentMessage) → Has m ms → (n : SentMessage) × Has n (set ms k x) × (n.message ≡ m.message)
set_sent [] k x y i e m h = absurd h
set_sent (z ∷ ms) zero x y i e m (inl q) = (x, inl refl, e ∙ ap (λ (n : SentMessage). n.message) (sym (some_is i)) ∙ ap (λ (n : SentMessage). n.message) (sym q))
set_sent (z ∷ ms) zero x y i e m (inr h) = (m, inr h, refl)
set_sent (z ∷ ms) (suc k) x y i e m (inl q) = (m, inl q, refl)
set_sent (z ∷ ms) (suc k) x y i e m (inr h) = let r = set_sent ms k x y i e m h in (r.0, inr r.1, r.2)

happens_replied : (t : Traced) (e : Event) → LivesHold t.world → Holds t.world t.history.dates → After t e (ev.happens (ev.counted t.world) e)
unfolding ev.happens ev.ticks ev.asks_at ev.delivers ev.delivers_to ev.loses_message ev.effects ev.advances ev.marks ev.reports_of ev.tells ev.tells_client ev.tells_site ev.crashes ev.crashes_client ev.crashes_server ev.starts ev.starts_client ev.starts_server
happens_replied t (events.Tick (nodes.Client c)) l h = client_replied t (events.Tick (nodes.Client c)) (ev.counted t.world).tally t.world.disks l h c inputs.Tick (site_of t.world c) refl (no_message inputs.Tick t.world.net.messages (λ m q. cc q))
happens_replied t (events.Tick (nodes.Server s)) l h = server_replied t (events.Tick (nodes.Server s)) (ev.counted t.world).tally t.world.disks l h s serving.Tick (node_of t.world s)
happens_replied t (events.App c ask) l h = go (site_of t.world c) refl
  where
    go : (o : Option WorldClient) → site_of t.world c ≡ o → After t (events.App c ask) (ev.asks_at (ev.counted t.world) c ask o)
    go None i = nothing t (events.App c ask) (ev.counted t.world) refl refl refl h
    go (Some site) i =
        takes_replied t (events.App c ask) (ev.counted t.world).tally t.world.disks l h c (inputs.App (site.asks + 1) ask) site (ev.asked_once_more site) i refl
        (no_message (inputs.App (site.asks + 1) ask) t.world.net.messages (λ m q. cc q))
happens_replied t (events.Deliver k) l h = go (message_of t.world k) refl
  where
    to : (m : SentMessage) (r : NodeId) → Has m t.world.net.messages → After t (events.Deliver k) (ev.delivers_to (ev.counted t.world) m.message r)
    to m (nodes.Client c) j =
        client_replied t (events.Deliver k) (ev.counted t.world).tally t.world.disks l h c (inputs.Control m.message) (site_of t.world c) refl (λ x q. (m, j, control q))
      where
        control : {x : Message} → ◌≡◌ {A = ClientInput} (inputs.Control m.message) (inputs.Control x) → m.message ≡ x
        control q = cc q
    to m (nodes.Server s) j = server_replied t (events.Deliver k) (ev.counted t.world).tally t.world.disks l h s (serving.Control m.message) (node_of t.world s)

    go : (o : Option SentMessage) → message_of t.world k ≡ o → After t (events.Deliver k) (ev.delivers (ev.counted t.world) o)
    go None i = nothing t (events.Deliver k) (ev.counted t.world) refl refl refl h
    go (Some m) i = to m (receiver_of m) (numbered_has t.world.net.messages k m i)
happens_replied t (events.Lose k) l h = go (message_of t.world k) refl
  where
    lost : (j : ℕ) (m : SentMessage) → numbered t.world.net.messages j ≡ Some m → Grown t.world (ev.with_lost j m (ev.counted t.world))
    lost zero m i = cc
    lost (suc j) m i = (refl, refl, set_sent t.world.net.messages j (record m { lost = true }) m i refl)

    go : (o : Option SentMessage) → message_of t.world k ≡ o → After t (events.Lose k) (ev.quiet (ev.loses_message (ev.counted t.world) k o))
    go None i = nothing t (events.Lose k) (ev.counted t.world) refl refl refl h
    go (Some m) i = undated t (events.Lose k) (ev.quiet (ev.with_lost k m (ev.counted t.world))) tt (lost k m i) h
happens_replied t (events.Cut from to) l h = nothing t (events.Cut from to) _ refl refl refl h
happens_replied t (events.Heal from to) l h = nothing t (events.Heal from to) _ refl refl refl h
happens_replied t (events.Advance ds) l h = undated t (events.Advance ds) _ (undated_fates 1 _ _) (refl, refl, λ m i. (m, i, refl)) h
happens_replied t (events.Effect k) l h = undated t (events.Effect k) _ (undated_fates 1 _ _) (refl, refl, λ m i. (m, i, refl)) h
happens_replied t (events.Report k ok) l h = go (issued_of t.world k)
  where
    reported : World
    reported = ev.with_disks (ev.disks_after t.world.disks (disks.done t.world.disks k ok)) (ev.counted t.world)

    go : (o : Option IssuedCommand) → After t (events.Report k ok) (ev.tells reported k ok o)
    go None = nothing t (events.Report k ok) reported refl refl refl h
    go (Some y) = at (site_of t.world y.client) refl
      where
        at : (o : Option WorldClient) → site_of t.world y.client ≡ o → After t (events.Report k ok) (ev.tells_client reported k ok y o)
        at None i = nothing t (events.Report k ok) reported refl refl refl h
        at (Some site) i = pick (ev.is_same_instance y site)
          where
            pick : (b : Bool) → After t (events.Report k ok) (if b then ev.client_takes reported y.client (ev.end_told reported k ok y) site else ev.quiet reported)
            pick true =
                takes_replied t (events.Report k ok) (ev.counted t.world).tally (ev.disks_after t.world.disks (disks.done t.world.disks k ok)) l h y.client (ev.end_told reported k ok y) site site i refl
                (no_message (ev.end_told reported k ok y) t.world.net.messages (λ m q. cc q))
            pick false = nothing t (events.Report k ok) reported refl refl refl h
happens_replied t (events.Crash (nodes.Client c)) l h = go (site_of t.world c)
  where
    go : (o : Option WorldClient) → After t (events.Crash (nodes.Client c)) (ev.crashes_client (ev.counted t.world) c o)
    go None = nothing t (events.Crash (nodes.Client c)) (ev.counted t.world) refl refl refl h
    go (Some site) = undated t (events.Crash (nodes.Client c)) _ (undated_fates 1 _ _) (refl, set_length t.world.clients (pred c.0) (ev.stopped_site site), λ m i. (m, i, refl)) h
happens_replied t (events.Crash (nodes.Server s)) l h = go (node_of t.world s)
  where
    go : (o : Option ServerNode) → After t (events.Crash (nodes.Server s)) (ev.quiet (ev.crashes_server (ev.counted t.world) s o))
    go None = nothing t (events.Crash (nodes.Server s)) (ev.counted t.world) refl refl refl h
    go (Some node) = nothing t (events.Crash (nodes.Server s)) (ev.with_node s (server.crash_node node) (ev.counted t.world)) refl refl refl h
happens_replied t (events.Start (nodes.Client c)) l h = go (site_of t.world c)
  where
    go : (o : Option WorldClient) → After t (events.Start (nodes.Client c)) (ev.quiet (ev.starts_client (ev.counted t.world) c o))
    go None = nothing t (events.Start (nodes.Client c)) (ev.counted t.world) refl refl refl h
    go (Some site) = nothing t (events.Start (nodes.Client c)) (ev.with_site c (ev.started_site site) (ev.counted t.world)) refl (set_length t.world.clients (pred c.0) (ev.started_site site)) refl h
happens_replied t (events.Start (nodes.Server s)) l h = go (node_of t.world s)
  where
    go : (o : Option ServerNode) → After t (events.Start (nodes.Server s)) (ev.quiet (ev.starts_server (ev.counted t.world) s o))
    go None = nothing t (events.Start (nodes.Server s)) (ev.counted t.world) refl refl refl h
    go (Some node) = nothing t (events.Start (nodes.Server s)) (ev.with_node s (server.start_node node (clock_of (ev.counted t.world) (nodes.Server s))) (ev.counted t.world)) refl refl refl h

-- Over whole runs.
pub record Stands (past : List Step) (t : Traced) : Type 0 where
  pub fates : FatesHold t.world
  pub dates : Holds t.world t.history.dates

-- so the dates hold
pub dates_stand : (past : List Step) (t : Traced) → Stands past t → DatesStand t.world t.history.dates
dates_stand past t s = record { placed = λ d i. let z = s.dates.placed d i in site_there t.world d.client z.0 z.1; replied = s.dates.replied }

pub one : (past : List Step) (t : Traced) (e : Event) (sc : WorldTurn) → Stands past t → ev.world_step t.world e ≡ Ok sc → DatesAreOfReplies past (step t e sc) × Stands (past ++ step t e sc ∷ []) (traced_after e t sc)
one past t e sc s q =
    (record { placed = λ d i. let z = dates.placed d i in site_there sc.world d.client z.0 z.1; replied = dates.replied }, record { fates = fates_law t.world e sc q s.fates; dates = dates })
  where
    dates : Holds sc.world (history_after t.world e sc t.history).dates
    dates = let z = step_happens t.world e sc q in subst (λ (y : WorldTurn). Holds y.world (history_after t.world e y t.history).dates) (sym z.1) (happens_replied t e s.fates.lives s.dates)

pub begun : (k : Config) (clients servers d b form : ℕ) → Stands [] (traced (fresh_world k clients servers d b form))
begun k clients servers d b form = record { fates = fresh_fates k clients servers d b form; dates = record { replied = λ x i. absurd i; placed = λ x i. absurd i } }

pub replies_law : RunsDateFromReplies
replies_law k clients servers d b form es =
    throughout DatesAreOfReplies Stands one es [] (traced (fresh_world k clients servers d b form)) (begun k clients servers d b form)
