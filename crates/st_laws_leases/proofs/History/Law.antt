-- The history is the world's: at each event, at the start, and over whole runs.
use Rattle.st_lemmas.proofs.Words
use Words.{◌≡◌, ℕ, ◌+◌, Bool, true, false, List, [], ◌∷◌, ◌++◌, ◌==◌, Option, Some, None, Ok, Err, refl, sym, ap, ◌∙◌, subst, inl, inr, if◌then◌else◌}
use Words.{◌⊎◌, is_some, map, option_map, eqb-true, Config, ClientId, NodeId, ServerId, Stamp, Event, Message, Note, Output, ClientInput, ServerInput}
use Words.{Fate, LogEntry, Observation, IssuedCommand, LeaseLife, SentMessage}
use Words.nodes
use Words.events
use Words.notes
use Words.outputs
use Words.inputs
use Words.serving
use Words.fates
use Words.Authority as authority
use Words.Client as cl
use Words.ClientLease as lease
use Words.ClientState.{Association}
use Words.Disks as disks
use Words.Events as ev
use Words.Events.{WorldTurn, present_lives}
use Words.Extents.{numbers}
use Words.History.{LeaseDate, TimerStart, Traced, traced, traced_after, history_after, is_timer_of, recall_all, remember}
use Words.Keys.{same_client, same_server}
use Words.Safety.{Step, TheHistoryIsTheWorlds, IsWorldsHistory, agree, agree_on_timer, agree_on_timers, all_lives, fit_log, has_date, has_timer, is_dated_life}
use Words.Safety.{step, suspects_at}
use Words.Server as server
use Words.Server.{ServerNode}
use Words.World as world
use Words.World.{World, WorldClient, site_of, node_of, with_numbered, clock_of, lives_of, life_of_association, message_of, receiver_of, issued_of, all_clients}
use Words.World.{all_servers, fresh_world}
use Words.Lists.{Has}
use Words.Tables.{all_pass, and_both, and_true, has_append, has_map, some_passes}
use Words.Members.{has_right, some_member_passes}
use Rattle.st_rules.specs.declared.node.StepRefusal.TheVariants.{Crashed}
use Rattle.st_lemmas.proofs.Steps.{throughout, step_happens}
use Rattle.st_laws_steps.specs.Lives.Lives.{LivesHold}
use Rattle.st_laws_pages.specs.Disks.Obligations.{FatesHold}
use Rattle.st_laws_pages.proofs.Disks.Steps.{fates_law}
use Rattle.st_laws_pages.proofs.Disks.Told.{step_told}
use Rattle.st_laws_pages.proofs.Disks.Whole.{fresh_fates}
use Rattle.st_laws_leases.specs.Dates.Dates as dating
use Rattle.st_laws_leases.proofs.Dates.Law as dates_law
use Rattle.st_laws_pages.proofs.Asks.Says.{server_leaves}
use Rattle.st_laws_pages.proofs.Asks.World.{site_case}
use Rattle.st_laws_leases.specs.History.Law.{HistoriesAreTheWorlds}
use Rattle.st_laws_leases.proofs.History.Clocks.{agreed, graces_agree, graces_begun, timers_started}
use Rattle.st_laws_leases.proofs.History.Dates.{Dated, Undated, AllUndated, dates_out, dates_said, undated_same}
use Rattle.st_laws_leases.proofs.History.Grants.{fit_event}
use Rattle.st_laws_leases.proofs.History.Graces.{Graces, fresh_graces, graces_after}
use Rattle.st_laws_leases.proofs.History.Lives.{AllDated, LifeDated, Present, is_present, present_dated, remembered, stepped_dated}

-- The dates after an event.
abbrev After : Traced → Event → WorldTurn → Type 0
After t e sc = AllDated (history_after t.world e sc t.history).dates sc.world

same_lives : (ds : List LeaseDate) (w v : World) → v.clients ≡ w.clients → v.ended ≡ w.ended → AllDated ds w → AllDated ds v
same_lives ds w v c e h x i = h x (subst (λ cs. Has x (present_lives cs ++ w.ended)) c (subst (λ es. Has x (present_lives v.clients ++ es)) e i))

undated : (t : Traced) (e : Event) (sc : WorldTurn) → AllUndated sc.seen → AllDated t.history.dates sc.world → After t e sc
undated t e sc n h = subst (λ ds. AllDated ds sc.world)
    (sym (undated_same t.world sc.world sc.seen (remember t.world e t.history) n ∙ remembered t.world e t.history)) h

nothing : (t : Traced) (e : Event) (v : World) → v.clients ≡ t.world.clients → v.ended ≡ t.world.ended → AllDated t.history.dates t.world →
    After t e (ev.quiet v)
nothing t e v c n h = undated t e (ev.quiet v) tt (same_lives t.history.dates t.world v c n h)

-- What is observed of servers and of fates dates no lease.
undated_more : (os : List Observation) (o : Observation) → Undated o → AllUndated os → AllUndated (os ++ o ∷ [])
undated_more [] o n h = record { one = n; rest = tt }
undated_more (x ∷ os) o n h = record { one = h.one; rest = undated_more os o n h.rest }

undated_both : (os ps : List Observation) → AllUndated os → AllUndated ps → AllUndated (os ++ ps)
undated_both [] ps a b = b
undated_both (o ∷ os) ps a b = record { one = a.one; rest = undated_both os ps a.rest b }

pub record ServerQuiet (v : World) (sc : WorldTurn) : Type 0 where
  pub ended : sc.world.ended ≡ v.ended
  pub seen : AllUndated sc.seen

server_one : (v : World) (s : ServerId) (o : Output) (sc : WorldTurn) → ServerQuiet v sc → ServerQuiet v (ev.server_says sc s o)
unfolding ev.server_says ev.sends ev.server_notes ev.cuts
server_one v s (outputs.Send m) sc h = record { ended = h.ended; seen = undated_more sc.seen _ tt h.seen }
server_one v s (outputs.Note n) sc h = note n
  where
    note : (n : Note) → ServerQuiet v (ev.server_notes sc s n)
    note (notes.Suspected c t) = record { ended = h.ended; seen = undated_more sc.seen _ tt h.seen }
    note (notes.Stolen c l) = record { ended = h.ended; seen = undated_more sc.seen _ tt h.seen }
    note (notes.CutDone f p) = record { ended = h.ended; seen = undated_more sc.seen _ tt h.seen }
    note n = h
server_one v s o sc h = h

pub server_all : (v : World) (s : ServerId) (os : List Output) (sc : WorldTurn) → ServerQuiet v sc → ServerQuiet v (ev.server_says_all s os sc)
unfolding ev.server_says_all
server_all v s [] sc h = h
server_all v s (o ∷ os) sc h = server_all v s os (ev.server_says sc s o) (server_one v s o sc h)

pub undated_fates : (k : ℕ) (es fs : List LogEntry) → AllUndated (ev.fates_from k es fs)
unfolding ev.fates_from
undated_fates k [] fs = tt
undated_fates k (e ∷ es) [] = tt
undated_fates k (e ∷ es) (f ∷ fs) = undated_both (ev.fate_seen k e.fate f.fate) _ (fate e.fate f.fate) (undated_fates (k + 1) es fs)
  where
    fate : (a b : Fate) → AllUndated (ev.fate_seen k a b)
    fate fates.Pending fates.Pending = tt
    fate fates.Pending fates.Hard = record { one = tt; rest = tt }
    fate fates.Pending (fates.Gone c) = record { one = tt; rest = tt }
    fate fates.Hard b = tt
    fate (fates.Gone c) b = tt

-- A client takes an input: what it says, and the world after it.
abbrev pub says : World → ClientId → WorldClient → ClientInput → WorldTurn
says w c site input =
    ev.client_says_all c site.node.state (cl.client_step site.node.state (clock_of w (nodes.Client c)) input).out
    (ev.quiet (ev.with_site c (ev.at_node (cl.node_turn site.node (cl.client_step site.node.state (clock_of w (nodes.Client c)) input)).node site) w))

abbrev pub behind : World → ClientId → WorldClient → ClientInput → World
behind w c site input =
    ev.flushes c (cl.client_step site.node.state (clock_of w (nodes.Client c)) input).state (all_servers (says w c site input).world)
    (says w c site input).world

pub took_is : (w : World) (c : ClientId) (site : WorldClient) (input : ClientInput) → site.node.running ≡ true →
    ev.client_takes w c input site ≡ ev.world_turn (behind w c site input) (says w c site input).seen
unfolding ev.client_takes ev.client_took cl.node_step
took_is w c site input runs = go site.node.running runs
  where
    go : (b : Bool) → b ≡ true → ev.client_took w c site
        (if b then Ok (cl.node_turn site.node (cl.client_step site.node.state (clock_of w (nodes.Client c)) input)) else Err Crashed) ≡ ev.world_turn
        (behind w c site input) (says w c site input).seen
    go true e = refl
    go false e = cc

pub stopped_is : (w : World) (c : ClientId) (site : WorldClient) (input : ClientInput) → site.node.running ≡ false → ev.client_takes w c input site ≡ ev.quiet w
unfolding ev.client_takes ev.client_took cl.node_step
stopped_is w c site input r = go site.node.running r
  where
    go : (b : Bool) → b ≡ false → ev.client_took w c site
        (if b then Ok (cl.node_turn site.node (cl.client_step site.node.state (clock_of w (nodes.Client c)) input)) else Err Crashed) ≡ ev.quiet w
    go true e = cc
    go false e = refl

-- a world with another tally and other disks
abbrev pub beside : world.Tally → disks.Disks → World → World
beside a d w = record w { tally = a; disks = d }

module _ (t : Traced) (e : Event) (a : world.Tally) (d : disks.Disks) (lives : LivesHold t.world) (h : AllDated t.history.dates t.world) where
  abbrev W : World
  W = beside a d t.world

  takes_dated : (c : ClientId) (input : ClientInput) (old site : WorldClient) → site_of t.world c ≡ Some old → old.node ≡ site.node →
      LivesHold (ev.client_takes W c input site).world → After t e (ev.client_takes W c input site)
  takes_dated c input old site i same after = go site.node.running refl
    where
      in_w : LivesHold W
      in_w = record { lives = lives.lives; known = lives.known }

      went : site.node.running ≡ true → After t e (ev.world_turn (behind W c site input) (says W c site input).seen)
      went r =
          subst (λ ds. AllDated ds (behind W c site input)) (sym dates)
          (stepped_dated W c old site input i same r in_w (subst (λ (sc : WorldTurn). LivesHold sc.world) (took_is W c site input r) after) t.history.dates h)
        where
          dates : (recall_all t.world (behind W c site input) (says W c site input).seen (remember t.world e t.history)).dates ≡ dates_out
              (behind W c site input) c (cl.client_step site.node.state (clock_of W (nodes.Client c)) input).out t.history.dates
          dates =
              dates_said t.world (behind W c site input) c site.node.state (remember t.world e t.history) _ _
              ∙ ap (dates_out (behind W c site input) c (cl.client_step site.node.state (clock_of W (nodes.Client c)) input).out)
              (undated_same t.world (behind W c site input) [] (remember t.world e t.history) tt ∙ remembered t.world e t.history)

      go : (b : Bool) → site.node.running ≡ b → After t e (ev.client_takes W c input site)
      go true r = subst (λ sc. After t e sc) (sym (took_is W c site input r)) (went r)
      go false r = subst (λ sc. After t e sc) (sym (stopped_is W c site input r)) (nothing t e W refl refl h)

  client_dated : (c : ClientId) (input : ClientInput) (o : Option WorldClient) → site_of t.world c ≡ o → LivesHold (ev.at_client W c input o).world →
      After t e (ev.at_client W c input o)
  unfolding ev.at_client
  client_dated c input None i after = nothing t e W refl refl h
  client_dated c input (Some site) i after = takes_dated c input site site i refl after

  server_dated : (s : ServerId) (input : ServerInput) (o : Option ServerNode) → After t e (ev.at_server W s input o)
  unfolding ev.at_server ev.server_takes ev.server_took server.node_step
  server_dated s input None = nothing t e W refl refl h
  server_dated s input (Some node) = go node.running
    where
      x : server.ServerTurn
      x = server.server_step node.state (clock_of W (nodes.Server s)) input

      v1 : World
      v1 = ev.with_node s (server.node_turn node x).node W

      sc : WorldTurn
      sc = ev.server_says_all s x.out (ev.quiet v1)

      q : ServerQuiet v1 sc
      q = server_all v1 s x.out (ev.quiet v1) (record { ended = refl; seen = tt })

      go : (b : Bool) → After t e (ev.server_took W s (if b then Ok (server.node_turn node x) else Err Crashed))
      go true = undated t e sc q.seen (same_lives t.history.dates t.world sc.world (server_leaves s x.out (ev.quiet v1)).clients q.ended h)
      go false = nothing t e W refl refl h

-- A client that crashes or starts: its lives have no lease.
no_end : (ds : List LeaseDate) (k : Config) (id : ClientId) (f : Association → Association) → ((b : Association) → (f b).session ≡ None) →
    (al : List Association) (e : LeaseLife) → Has e (map (life_of_association k id) (map f al)) → LifeDated ds e
no_end ds k id f g al e i = go (has_map (life_of_association k id) (map f al) e i)
  where
    at : (b : Association) → b.session ≡ None → e ≡ life_of_association k id b → LifeDated ds e
    at b n z = subst (LifeDated ds) (sym z) (subst (λ o. Dated ds id b.server b.life (lease.end_at k (option_map cl.lease_of_session o))) (sym n) tt)

    none : (b : Association) → (c : Association) × Has c al × (b ≡ f c) → b.session ≡ None
    none b (c, j, z) = ap (λ (y : Association). y.session) z ∙ g c

    go : (b : Association) × Has b (map f al) × (e ≡ life_of_association k id b) → LifeDated ds e
    go (b, j, z) = at b (none b (has_map f al b j)) z

placed_dated : (ds : List LeaseDate) (w v : World) (c : ClientId) (old site : WorldClient) → site_of w c ≡ Some old →
    v.clients ≡ with_numbered c.0 site w.clients → ((e : LeaseLife) → Has e (lives_of site.node.state) → LifeDated ds e) →
    ((e : LeaseLife) → Has e v.ended → LifeDated ds e) → AllDated ds w → AllDated ds v
placed_dated ds w v c old site there cs f g h e i = go (has_append (present_lives v.clients) v.ended e i)
  where
    at : (p : Present v e) → ((c ≡ p.client) × (p.site ≡ site)) ⊎ (((c.0 == p.client.0) ≡ false) × (site_of w p.client ≡ Some p.site)) → LifeDated ds e
    at p (inl (q, s)) = f e (subst (λ (y : WorldClient). Has e (lives_of y.node.state)) s p.among)
    at p (inr (q, s)) = present_dated ds w p.client p.site h s e p.among

    go : Has e (present_lives v.clients) ⊎ Has e v.ended → LifeDated ds e
    go (inl j) = let p = is_present v e j in at p (site_case w c old site v.clients there cs p.client p.site p.there)
    go (inr j) = g e j

crashed_dated : (ds : List LeaseDate) (site : WorldClient) (e : LeaseLife) → Has e (lives_of (ev.stopped_site site).node.state) → LifeDated ds e
unfolding cl.crash
crashed_dated ds site e i = no_end ds site.node.state.config site.node.state.id cl.crashed_association (λ b. refl) site.node.state.associations e i

started_dated : (ds : List LeaseDate) (site : WorldClient) (e : LeaseLife) → Has e (lives_of (ev.started_site site).node.state) → LifeDated ds e
unfolding cl.start
started_dated ds site e i = no_end ds site.node.state.config site.node.state.id cl.started_association (λ b. refl) site.node.state.associations e i

-- Each event.
happens_dated : (t : Traced) (e : Event) → LivesHold t.world → LivesHold (ev.happens (ev.counted t.world) e).world → AllDated t.history.dates t.world →
    After t e (ev.happens (ev.counted t.world) e)
unfolding ev.happens ev.ticks ev.asks_at ev.delivers ev.delivers_to ev.loses_message ev.effects ev.advances ev.marks ev.reports_of ev.tells ev.tells_client
    ev.tells_site ev.crashes ev.crashes_client ev.crashes_server ev.starts ev.starts_client ev.starts_server
happens_dated t (events.Tick (nodes.Client c)) l after h =
    client_dated t (events.Tick (nodes.Client c)) (ev.counted t.world).tally t.world.disks l h c inputs.Tick (site_of t.world c) refl after
happens_dated t (events.Tick (nodes.Server s)) l after h =
    server_dated t (events.Tick (nodes.Server s)) (ev.counted t.world).tally t.world.disks l h s serving.Tick (node_of t.world s)
happens_dated t (events.App c ask) l after h = go (site_of t.world c) refl after
  where
    go : (o : Option WorldClient) → site_of t.world c ≡ o → LivesHold (ev.asks_at (ev.counted t.world) c ask o).world →
        After t (events.App c ask) (ev.asks_at (ev.counted t.world) c ask o)
    go None i after = nothing t (events.App c ask) _ refl refl h
    go (Some site) i after = takes_dated t (events.App c ask) (ev.counted t.world).tally t.world.disks l h c (inputs.App (site.asks + 1) ask) site
        (ev.asked_once_more site) i refl after
happens_dated t (events.Deliver k) l after h = go (message_of t.world k) after
  where
    to : (m : Message) (r : NodeId) → LivesHold (ev.delivers_to (ev.counted t.world) m r).world →
        After t (events.Deliver k) (ev.delivers_to (ev.counted t.world) m r)
    to m (nodes.Client c) after = client_dated t (events.Deliver k) (ev.counted t.world).tally t.world.disks l h c (inputs.Control m) (site_of t.world c) refl
        after
    to m (nodes.Server s) after = server_dated t (events.Deliver k) (ev.counted t.world).tally t.world.disks l h s (serving.Control m) (node_of t.world s)

    go : (o : Option SentMessage) → LivesHold (ev.delivers (ev.counted t.world) o).world → After t (events.Deliver k) (ev.delivers (ev.counted t.world) o)
    go None after = nothing t (events.Deliver k) _ refl refl h
    go (Some m) after = to m.message (receiver_of m) after
happens_dated t (events.Lose k) l after h = go (message_of t.world k)
  where
    go : (o : Option SentMessage) → After t (events.Lose k) (ev.quiet (ev.loses_message (ev.counted t.world) k o))
    go None = nothing t (events.Lose k) _ refl refl h
    go (Some m) = nothing t (events.Lose k) _ refl refl h
happens_dated t (events.Cut from to) l after h = nothing t (events.Cut from to) _ refl refl h
happens_dated t (events.Heal from to) l after h = nothing t (events.Heal from to) _ refl refl h
happens_dated t (events.Advance ds) l after h = undated t (events.Advance ds) _ (undated_fates 1 _ _) h
happens_dated t (events.Effect k) l after h = undated t (events.Effect k) _ (undated_fates 1 _ _) h
happens_dated t (events.Report k ok) l after h = go (issued_of t.world k) after
  where
    e : Event
    e = events.Report k ok

    reported : World
    reported = ev.with_disks (ev.disks_after t.world.disks (disks.done t.world.disks k ok)) (ev.counted t.world)

    go : (o : Option IssuedCommand) → LivesHold (ev.tells reported k ok o).world → After t (events.Report k ok) (ev.tells reported k ok o)
    go None after = nothing t e reported refl refl h
    go (Some y) after = at (site_of t.world y.client) refl after
      where
        at : (o : Option WorldClient) → site_of t.world y.client ≡ o → LivesHold (ev.tells_client reported k ok y o).world →
            After t (events.Report k ok) (ev.tells_client reported k ok y o)
        at None i after = nothing t e reported refl refl h
        at (Some site) i after = pick (ev.is_same_instance y site) after
          where
            pick : (b : Bool) → LivesHold (if b then ev.client_takes reported y.client (ev.end_told reported k ok y) site else ev.quiet reported).world →
                After t (events.Report k ok) (if b then ev.client_takes reported y.client (ev.end_told reported k ok y) site else ev.quiet reported)
            pick true after = takes_dated t (events.Report k ok) (ev.counted t.world).tally (ev.disks_after t.world.disks (disks.done t.world.disks k ok)) l h
                y.client (ev.end_told reported k ok y) site site i refl after
            pick false after = nothing t (events.Report k ok) reported refl refl h
happens_dated t (events.Crash (nodes.Client c)) l after h = go (site_of t.world c) refl
  where
    go : (o : Option WorldClient) → site_of t.world c ≡ o → After t (events.Crash (nodes.Client c)) (ev.crashes_client (ev.counted t.world) c o)
    go None i = nothing t (events.Crash (nodes.Client c)) _ refl refl h
    go (Some site) i =
        undated t (events.Crash (nodes.Client c)) _ (undated_fates 1 _ _)
        (placed_dated t.history.dates t.world
        (ev.with_log (ev.log_crashed (ev.counted t.world) c) (ev.with_site c (ev.stopped_site site) (ev.with_crashed_lives site (ev.counted t.world)))) c
        site (ev.stopped_site site) i refl (crashed_dated t.history.dates site)
        (λ e j. ends e (has_append t.world.ended (map ev.crashed_life (lives_of site.node.state)) e j)) h)
      where
        life : (e : LeaseLife) → (x : LeaseLife) × Has x (lives_of site.node.state) × (e ≡ ev.crashed_life x) → LifeDated t.history.dates e
        life e (x, j, z) = subst (LifeDated t.history.dates) (sym z) (present_dated t.history.dates t.world c site h i x j)

        ends : (e : LeaseLife) → Has e t.world.ended ⊎ Has e (map ev.crashed_life (lives_of site.node.state)) → LifeDated t.history.dates e
        ends e (inl j) = h e (has_right (present_lives t.world.clients) t.world.ended e j)
        ends e (inr j) = life e (has_map ev.crashed_life (lives_of site.node.state) e j)
happens_dated t (events.Crash (nodes.Server s)) l after h = go (node_of t.world s)
  where
    go : (o : Option ServerNode) → After t (events.Crash (nodes.Server s)) (ev.quiet (ev.crashes_server (ev.counted t.world) s o))
    go None = nothing t (events.Crash (nodes.Server s)) _ refl refl h
    go (Some node) = nothing t (events.Crash (nodes.Server s)) _ refl refl h
happens_dated t (events.Start (nodes.Client c)) l after h = go (site_of t.world c) refl
  where
    go : (o : Option WorldClient) → site_of t.world c ≡ o → After t (events.Start (nodes.Client c)) (ev.quiet (ev.starts_client (ev.counted t.world) c o))
    go None i = nothing t (events.Start (nodes.Client c)) _ refl refl h
    go (Some site) i =
        undated t (events.Start (nodes.Client c)) _ tt
        (placed_dated t.history.dates t.world (ev.with_site c (ev.started_site site) (ev.counted t.world)) c site (ev.started_site site) i refl
        (started_dated t.history.dates site) (λ e j. h e (has_right (present_lives t.world.clients) t.world.ended e j)) h)
happens_dated t (events.Start (nodes.Server s)) l after h = go (node_of t.world s)
  where
    go : (o : Option ServerNode) → After t (events.Start (nodes.Server s)) (ev.quiet (ev.starts_server (ev.counted t.world) s o))
    go None = nothing t (events.Start (nodes.Server s)) _ refl refl h
    go (Some node) = nothing t (events.Start (nodes.Server s)) _ refl refl h

-- The promise.
timers_agree : (past : List Step) (t : Traced) → dating.Dated past t → (s : ServerId) (c : ClientId) → agree_on_timer t s c ≡ true
timers_agree past t d s c = agreed (has_timer t.history s c) (suspects_at c (node_of t.world s)) on off
  where
    id_is : (a b : ℕ) → (a == b) ≡ true → a ≡ b
    id_is a b e = eqb-true a b e

    on : has_timer t.history s c ≡ true → suspects_at c (node_of t.world s) ≡ true
    on e = at (some_member_passes (is_timer_of s c) t.history.timers e)
      where
        at : (x : TimerStart) × Has x t.history.timers × (is_timer_of s c x ≡ true) → suspects_at c (node_of t.world s) ≡ true
        at (x, h, q) =
            let z = and_true (same_server x.server s) (same_client x.client c) q in
            let y = d.timers x h in
            let server : x.server ≡ s = ap (λ n. record { 0 = n }) (id_is x.server.0 s.0 z.0) in
            let client : x.client ≡ c = ap (λ n. record { 0 = n }) (id_is x.client.0 c.0 z.1) in
            ap (suspects_at c) (ap (node_of t.world) (sym server) ∙ y.is) ∙
            and_both y.node.running _ y.running (ap (λ d. is_some (authority.suspect_of y.node.state.authority d)) (sym client) ∙ y.on)

    off : suspects_at c (node_of t.world s) ≡ true → has_timer t.history s c ≡ true
    off e = at (node_of t.world s) refl e
      where
        at : (o : Option ServerNode) → node_of t.world s ≡ o → suspects_at c o ≡ true → has_timer t.history s c ≡ true
        at None i e = cc
        at (Some node) i e =
            let z = and_true node.running _ e in
            let y = d.timed s node i z.0 c z.1 in
            some_passes (is_timer_of s c) t.history.timers y.timer y.among y.is

dates_agree : (t : Traced) → AllDated t.history.dates t.world → (e : LeaseLife) → Has e (all_lives t.world) → is_dated_life t.history e ≡ true
dates_agree t h e i = go e.end (h e i)
  where
    go : (o : Option Stamp) → Dated t.history.dates e.client e.server e.life o → has_date t.history e o ≡ true
    go None d = refl
    go (Some end) d = d

promised : (past : List Step) (t : Traced) → dating.Dated past t → Graces past t.world t.history.graces → AllDated t.history.dates t.world →
    fit_log t.history.grants t.world.log ≡ true →
    IsWorldsHistory past t
promised past t d x h g =
    record {
      timers = all_pass (agree_on_timers t) (all_servers t.world)
          (λ s i. all_pass (agree_on_timer t s) (all_clients t.world) (λ c j. timers_agree past t d s c));
      started = timers_started past t d;
      graces = graces_agree past t x;
      begun = graces_begun past t x;
      dates = all_pass (is_dated_life t.history) (all_lives t.world) (dates_agree t h);
      grants = g;
    }

-- Over whole runs.
pub record Stands (past : List Step) (t : Traced) : Type 0 where
  pub fates : FatesHold t.world
  pub dated : dating.Dated past t
  pub graces : Graces past t.world t.history.graces
  pub dates : AllDated t.history.dates t.world
  pub grants : fit_log t.history.grants t.world.log ≡ true

one : (past : List Step) (t : Traced) (e : Event) (sc : WorldTurn) → Stands past t → ev.world_step t.world e ≡ Ok sc →
    TheHistoryIsTheWorlds past (step t e sc) × Stands (past ++ step t e sc ∷ []) (traced_after e t sc)
one past t e sc s q = (
  promised (past ++ step t e sc ∷ []) (traced_after e t sc) dated graces dates grants,
  record { fates = after; dated = dated; graces = graces; dates = dates; grants = grants },
)
  where
    after : FatesHold sc.world
    after = fates_law t.world e sc q s.fates

    dated : dating.Dated (past ++ step t e sc ∷ []) (traced_after e t sc)
    dated = (dates_law.one past t e sc s.dated q).1

    graces : Graces (past ++ step t e sc ∷ []) sc.world (traced_after e t sc).history.graces
    graces = graces_after past t s.graces e sc q

    dates : AllDated (history_after t.world e sc t.history).dates sc.world
    dates =
        let z = step_happens t.world e sc q in
        subst (λ (y : WorldTurn). AllDated (history_after t.world e y t.history).dates y.world) (sym z.1)
        (happens_dated t e s.fates.lives (subst (λ (y : WorldTurn). LivesHold y.world) z.1 after.lives) s.dates)

    grants : fit_log (history_after t.world e sc t.history).grants sc.world.log ≡ true
    grants = fit_event t.world sc.world e sc.seen t.history t.world.log sc.world.log (step_told past t e sc q).entries s.grants

-- At the start nobody has a lease.
fresh_lives : (k : Config) (servers : ℕ) (ns : List ℕ) (e : LeaseLife) → Has e (present_lives (map (world.fresh_site k servers) ns)) → e.end ≡ None
unfolding present_lives cl.fresh_client
fresh_lives k servers [] e i = absurd i
fresh_lives k servers (n ∷ ns) e i = go (has_append (lives_of (world.fresh_site k servers n).node.state) _ e i) (fresh_lives k servers ns e)
  where
    life : (x : Association) × Has x (map cl.fresh_association (numbers 1 servers)) ×
        (e ≡ life_of_association k (world.fresh_site k servers n).node.state.id x) → e.end ≡ None
    life (x, j, z) = ap (λ (y : LeaseLife). y.end) z ∙ none (has_map cl.fresh_association (numbers 1 servers) x j)
      where
        none : (m : ℕ) × Has m (numbers 1 servers) × (x ≡ cl.fresh_association m) →
            (life_of_association k (world.fresh_site k servers n).node.state.id x).end ≡ None
        none (m, l, w) = ap (λ (y : Association). (life_of_association k (world.fresh_site k servers n).node.state.id y).end) w

    go : Has e (lives_of (world.fresh_site k servers n).node.state) ⊎ Has e (present_lives (map (world.fresh_site k servers) ns)) →
        (Has e (present_lives (map (world.fresh_site k servers) ns)) → e.end ≡ None) → e.end ≡ None
    go (inl j) r = life (has_map (life_of_association k (world.fresh_site k servers n).node.state.id) (map cl.fresh_association (numbers 1 servers)) e j)
    go (inr j) r = r j

fresh_all : (k : Config) (clients servers d b form : ℕ) → AllDated [] (fresh_world k clients servers d b form)
unfolding fresh_world
fresh_all k clients servers d b form e i = go (has_append (present_lives (map (world.fresh_site k servers) (numbers 1 clients))) [] e i)
  where
    none : (o : Option Stamp) → o ≡ None → Dated [] e.client e.server e.life o
    none None q = tt
    none (Some x) q = cc

    go : Has e (present_lives (map (world.fresh_site k servers) (numbers 1 clients))) ⊎ Has e [] → LifeDated [] e
    go (inl j) = none e.end (fresh_lives k servers (numbers 1 clients) e j)
    go (inr j) = absurd j

fresh_log : (k : Config) (clients servers d b form : ℕ) → fit_log [] (fresh_world k clients servers d b form).log ≡ true
unfolding fresh_world fit_log
fresh_log k clients servers d b form = refl

pub histories_are_the_worlds : HistoriesAreTheWorlds
histories_are_the_worlds k clients servers d b form es head =
    throughout TheHistoryIsTheWorlds Stands one es [] (traced (fresh_world k clients servers d b form))
    (record {
      fates = fresh_fates k clients servers d b form;
      dated = dates_law.fresh_dated k clients servers d b form head;
      graces =
          fresh_graces k clients servers d b form;
      dates = fresh_all k clients servers d b form;
      grants = fresh_log k clients servers d b form;
    })
