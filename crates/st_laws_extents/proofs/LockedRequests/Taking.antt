-- An event at which a client takes an input: its outstanding requests go on.
use Rattle.st_lemmas.proofs.Words
use Words.{◌≡◌, ◌≢◌, ◌⊎◌, ℕ, ◌≤◌, Bool, true, false, List, [], Option, Some, None, Ok, Err, refl, sym, ap, ◌∙◌, subst, inl, inr, arith, if◌then◌else◌, ServerId}
use Words.{Body, Message, Request}
use Words.nodes
use Words.Client as cl
use Words.ClientState.{Association, ClientSession, ClientState, client_turn}
use Words.Events as ev
use Words.Events.{WorldTurn, counted}
use Words.History.{Traced}
use Words.Keys.{client, server_node}
use Words.Safety.{Step}
use Words.Sessions as sessions
use Words.World.{World, WorldClient, clock_of, numbered, site_of, with_numbered}
use Words.Lists.{Has}
use Rattle.st_rules.specs.declared.node.StepRefusal.TheVariants.{Crashed}
use Rattle.st_protocol.specs.Assoc.{Config}
use Rattle.st_laws_refine.specs.Client.Invariants.{Lasts}
use Rattle.st_laws_refine.specs.Client.World.{WorldLeft, site_left, world_left}
use Rattle.st_laws_refine.proofs.Client.Sim.{world_is}
use Rattle.st_laws_steps.specs.Lives.Lives.{clock_in}
use Rattle.st_laws_steps.specs.Client.Losses.{Fit, is_ended}
use Rattle.st_laws_pages.proofs.Flush.Flushing.{pair_of}
use Rattle.st_laws_steps.proofs.Client.Stepping.{LostOrNot, losses_left, phased}
use Rattle.st_laws_leases.specs.Sides.World.{AllStand}
use Rattle.st_laws_reads.specs.Copies.World.{Taking, now_at, turn_of}
use Rattle.st_laws_requests.specs.Cuts.Cuts.{Keyed, Numbered, Numbers, view}
use Rattle.st_laws_extents.proofs.CutRequests.Law.{Hold}
use Rattle.st_laws_extents.proofs.CutRequests.Standing.{own_session}
use Rattle.st_laws_leases.specs.Dates.Dates.{messages}
use Rattle.st_laws_reads.proofs.AllClients.Behind.{Behind, behind}
use Rattle.st_laws_reads.proofs.AllClients.Takings.{Takes}
use Rattle.st_laws_leases.proofs.Dates.Leaving.{set_cases}
use Rattle.st_laws_extents.specs.ExtentReplies.Law.{RequestsGo, Untold, WasAsked}
use Rattle.st_laws_extents.specs.ExtentReplies.ToldExtents.{AskedAt}
use Rattle.st_laws_extents.specs.LockedRequests.RequestsGoOn.{Before, Free, Of, Stand}
use Rattle.st_laws_extents.specs.LockedRequests.Keys.{KeysTold}
use Rattle.st_laws_extents.specs.LockedRequests.AllSessions.{AllSeen, any_before, any_free}
use Rattle.st_laws_steps.specs.Client.Inputs.{Each}
use Rattle.st_laws_extents.proofs.LockedRequests.Step.{step_goes}
use Rattle.st_laws_extents.proofs.LockedRequests.World.{back_same, was_at}

-- a request was outstanding before under its lock
record HeldBefore (w : World) (c : ℕ) (server : ServerId) (life epoch number : ℕ) (body : Body) : Type 0 where
  site : WorldClient
  by : Association
  session : ClientSession
  request : Request
  at : AskedAt w c site by session request
  at_server : by.server ≡ server
  of_life : by.life.0 ≡ life
  of_epoch : session.epoch.0 ≡ epoch
  under : request.number ≡ number
  asks : request.body ≡ body

module _ (k : Config) (count : ℕ) (past : List Step) (t : Traced) (hold : Hold k count past t) (keys : KeysTold t.world) (seen : AllSeen t.world) (sc : WorldTurn) (after : AllStand k count sc.world) (x : Taking) (tk : Takes (counted t.world) sc x) where
  w : World
  w = t.world

  abbrev s : ClientState
  s = x.site.node.state

  abbrev c : ℕ
  c = x.client.0

  abbrev left : List Association
  left = (cl.losses (client_turn s []) (now_at x)).state.associations

  abbrev U : Free
  U server life epoch number = (by : Message) → Has by (messages t.world) → Keyed x.client server life epoch number by → ⊥

  abbrev W : Before
  W server life epoch number body = HeldBefore t.world x.client.0 server life epoch number body

  there : site_of t.world x.client ≡ Some tk.old
  there = tk.there

  of_old : (P : Association → Type 0) → Each P tk.old.node.state.associations → Each P s.associations
  of_old P = subst (λ (n : cl.ClientNode). Each P n.state.associations) tk.same

  old_of : (a : Association) → Has a s.associations → Has a tk.old.node.state.associations
  old_of a = subst (λ (n : cl.ClientNode). Has a n.state.associations) (sym tk.same)

  fits : Each Fit s.associations
  fits = of_old Fit ((hold.all.fates.lives.lives.sites x.client tk.old tk.there).fit)

  module _ (runs : x.site.node.running ≡ true) where
    old_runs : tk.old.node.running ≡ true
    old_runs = subst (λ (n : cl.ClientNode). n.running ≡ true) (sym tk.same) runs

    numbers : (a : Association) → Has a s.associations → Numbers (λ m. Has m (messages t.world)) x.client a.server a.life.0 (view a.session)
    numbers a i = ((hold.cuts.clients x.client tk.old tk.there).all old_runs a (old_of a i)).numbers

    -- with a session, after the losses
    some_goes : (a : Association) → Has a left → (u : ClientSession) → a.session ≡ Some u → Of U W a.server a.life.0 (Some u)
    some_goes a i u e =
        record {
          later = λ d n l p by j key. let y = (placed by j key (let z = key.under in omega (arith, z, p))).up_to in let z = key.of_epoch in omega (arith, y, z, l);
          next = λ n l by j key. let p = numbered.counts.0 in let y = (placed by j key (let z = key.under in omega (arith, z, l, p))).below key.of_epoch in let z = key.under in omega (arith, y, z, l);
          seen = stood.seen;
          asked = λ q r. let y = stood.asked q r in
              record {
                under = y.under;
                was = λ cur. inl (record { site = tk.old; by = a; session = u; request = q; at = record { run = record { there = tk.there; runs = old_runs }; has = old_of a b.was; session = e; lasts = lasts; asked = r; current = cur }; at_server = refl; of_life = refl; of_epoch = refl; under = refl; asks = refl });
              };
        }
      where
        b : Behind s (now_at x) a
        b = behind x.client s (now_at x) fits a i u e

        numbered : Numbers (λ m. Has m (messages t.world)) x.client a.server a.life.0 (view (Some u))
        numbered = subst (λ o. Numbers (λ m. Has m (messages t.world)) x.client a.server a.life.0 (view o)) e (numbers a b.was)

        placed : (by : Message) → Has by (messages t.world) → {d n : ℕ} → Keyed x.client a.server a.life.0 d n by → 1 ≤ by.header.number → Numbered u.epoch.0 u.requests by
        placed by j key p = numbered.placed by j key.between key.of_life p

        stood : Stand any_free any_before a.server a.life.0 u.epoch.0 u.requests u.locks
        stood = subst (Of any_free any_before a.server a.life.0) e (seen x.client tk.old tk.there a (old_of a b.was))

        lasts : Lasts tk.old.node.state.config.lease (clock_of t.world (nodes.Client x.client)).0 a.session
        lasts =
            subst (λ (n : cl.ClientNode). Lasts n.state.config.lease (clock_of t.world (nodes.Client x.client)).0 a.session) (sym tk.same)
            (subst (λ ts. Lasts s.config.lease (clock_in ts x.client).0 a.session) tk.clocks b.lasts)

    -- without one
    none_goes : (a : Association) → Has a left → a.session ≡ None → Of U W a.server a.life.0 None
    none_goes a i e = go (pair_of (LostOrNot s.config (now_at x)) s.associations left (losses_left x.client s (now_at x) (client_turn s []) refl fits).pairs a i)
      where
        go : (b : Association) × Has b s.associations × LostOrNot s.config (now_at x) b a → Of U W a.server a.life.0 None
        go (b, j, z) = by (is_ended s.config (now_at x) b.session) refl
          where
            by : (o : Bool) → is_ended s.config (now_at x) b.session ≡ o → Of U W a.server a.life.0 None
            by false q = λ d n l m h key.
                let f = subst (λ o. Numbers (λ m. Has m (messages t.world)) x.client a.server a.life.0 (view o)) e (numbers a (subst (λ (y : Association). Has y s.associations) (z.lasts q) j)) in
                let y = f.placed m h key.between key.of_life in let u = key.under in omega (arith, y, u, l)
            by true q = λ d n l m h key.
                let y = (numbers b j).lives m h (key.between.0, key.between.1 ∙ ap server_node (sym z.server)) in
                let g = ap (λ (y : Rattle.st_base.specs.declared.ids.Life.Life). y.0) (z.lost q) in let u = key.of_life in omega (arith, y, g, u)

    goes : Each (λ a. Of U W a.server a.life.0 a.session) left
    goes a i = go a.session refl
      where
        go : (o : Option ClientSession) → a.session ≡ o → Of U W a.server a.life.0 a.session
        go None e = subst (Of U W a.server a.life.0) (sym e) (none_goes a i e)
        go (Some u) e = subst (Of U W a.server a.life.0) (sym e) (some_goes a i u e)

    stepped : Each (λ a. Of U W a.server a.life.0 a.session) (turn_of x).state.associations
    stepped = step_goes U W s (now_at x) x.input (phased x.client s (now_at x) x.input fits).fit goes

    world_left_is : WorldLeft x.world x.client x.site x.input
    world_left_is = world_is x.world x.client x.site x.input

    leaves : sc.world ≡ world_left x.world x.client x.site x.input
    unfolding ev.client_takes cl.node_step
    leaves =
        ap (λ (z : WorldTurn). z.world) tk.is
        ∙ ap (λ b. (ev.client_took x.world x.client x.site (if b then Ok (cl.node_turn x.site.node (turn_of x)) else Err Crashed)).world) runs

    servers : sc.world.servers ≡ t.world.servers
    servers = ap (λ (z : World). z.servers) leaves ∙ world_left_is.servers ∙ tk.servers

    clocks : sc.world.clocks ≡ t.world.clocks
    clocks = ap (λ (z : World). z.clocks) leaves ∙ world_left_is.clocks ∙ tk.clocks

    clients : sc.world.clients ≡ with_numbered x.client.0 (site_left x.world x.client x.site x.input) t.world.clients
    clients = ap (λ (z : World). z.clients) leaves ∙ world_left_is.clients ∙ ap (λ cs. with_numbered x.client.0 (site_left x.world x.client x.site x.input) cs) tk.clients

    module _ (site : WorldClient) (a : Association) (y : ClientSession) (q : Request) (z : AskedAt sc.world x.client.0 site a y q) where
      untold : U a.server a.life.0 y.epoch.0 q.number → Untold t.world x.client.0 a y q
      untold u =
          record {
            sent = λ m ino rows i r.
                let g = keys.sent m ino rows i a.server r.from r.body in
                u g.by g.among (record { between = (g.is.between.0 ∙ r.to, g.is.between.1); of_life = g.is.of_life ∙ r.of_life; of_epoch = g.is.of_epoch ∙ r.of_epoch; under = g.is.under ∙ r.under });
            kept = λ node at run ino rows r.
                let g = keys.kept a.server node at run (client x.client.0) a.life.0 q.number ino rows r in
                let own = own_session k count sc.world after a.server.0 node (ap (λ ns. numbered ns a.server.0) servers ∙ at) x.client.0 site z.run a z.has refl y z.session z.lasts run r.session r.is (ap sessions.is_live_state r.state) in
                u g.by g.among (record { between = g.is.between; of_life = g.is.of_life; of_epoch = g.is.of_epoch ∙ sym own.1; under = g.is.under });
          }

      was : W a.server a.life.0 y.epoch.0 q.number q.body → WasAsked t.world x.client.0 a y q
      was h = record { site = h.site; by = h.by; session = h.session; request = h.request; at = h.at; server = h.at_server; life = h.of_life; epoch = h.of_epoch; number = h.under; body = h.asks }

      own_goes : Has a (turn_of x).state.associations → WasAsked t.world x.client.0 a y q ⊎ Untold t.world x.client.0 a y q
      own_goes i = go ((stands.asked q z.asked).was z.current)
        where
          stands : Stand U W a.server a.life.0 y.epoch.0 y.requests y.locks
          stands = subst (Of U W a.server a.life.0) z.session (stepped a i)

          go : W a.server a.life.0 y.epoch.0 q.number q.body ⊎ U a.server a.life.0 y.epoch.0 q.number → WasAsked t.world x.client.0 a y q ⊎ Untold t.world x.client.0 a y q
          go (inl h) = inl (was h)
          go (inr u) = inr (untold u)

    pub runs_go : RequestsGo t.world sc.world
    runs_go d site a y q z = go (set_cases t.world.clients x.client.0 d tk.old (site_left x.world x.client x.site x.input) site tk.there (ap (λ xs. numbered xs d) (sym clients) ∙ z.run.there))
      where
        go : ((d ≡ x.client.0) × (site ≡ site_left x.world x.client x.site x.input)) ⊎ ((d ≢ x.client.0) × (numbered t.world.clients d ≡ Some site)) → WasAsked t.world d a y q ⊎ Untold t.world d a y q
        go (inl e) =
            subst (λ n. WasAsked t.world n a y q ⊎ Untold t.world n a y q) (sym e.0)
            (own_goes site a y q (subst (λ n. AskedAt sc.world n site a y q) e.0 z) (subst (λ (s : WorldClient). Has a s.node.state.associations) e.1 z.has))
        go (inr e) = inl (was_at t.world sc.world d site a y q e.1 (let u = ap (λ xs. (clock_in xs (client d)).0) clocks in omega (arith, u)) z)

  -- one that does not run takes nothing
  pub stops_go : x.site.node.running ≡ false → RequestsGo t.world sc.world
  unfolding ev.client_takes cl.node_step ev.client_took
  stops_go stops d site a y q z =
      let is : sc.world ≡ x.world = ap (λ (z : WorldTurn). z.world) tk.is ∙ ap (λ b. (ev.client_took x.world x.client x.site (if b then Ok (cl.node_turn x.site.node (turn_of x)) else Err Crashed)).world) stops in
      inl (back_same t.world sc.world (ap (λ (z : World). z.clients) is ∙ tk.clients) (ap (λ (z : World). z.clocks) is ∙ tk.clocks) d site a y q z)
