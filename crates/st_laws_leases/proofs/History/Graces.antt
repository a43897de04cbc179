-- The graces of the history: each is that of a running server, and has all clients' clocks of the step in which the server started.
use Rattle.st_lemmas.proofs.Words
use Words.{◌≡◌, ◌≢◌, ℕ, ◌+◌, Bool, true, false, not, List, [], ◌∷◌, ◌++◌, ◌==◌, Option, Some, None, Ok, Err, refl, sym, ap, ◌∙◌, subst, inl, inr, if◌then◌else◌}
use Words.{◌&&◌, ◌⊎◌, is_some, filter, length, map, suc, zero, eqb-true, eq-eqb, leb-true, nat_le, Config, ClientId, NodeId, ServerId, Stamp, Event, Header, Message, Body}
use Words.{arith, Ask, Observation, ClientInput, ServerInput, IssuedCommand, SentMessage, WorldRefusal}
use Words.nodes
use Words.events
use Words.inputs
use Words.serving
use Words.seen
use Words.Admissible as adm
use Words.Client as cl
use Words.ClientState.{ClientTurn}
use Words.Disks as disks
use Words.Events as ev
use Words.Events.{WorldTurn}
use Words.Grace as grace
use Words.Grace.{Grace}
use Words.History.{History, GraceStart, Traced, client_clocks, grace_begun, is_grace_at, recall, recall_all, remember, traced_after}
use Words.Safety.{Step, grace_of, step}
use Words.Server as server
use Words.Server.{ServerNode, ServerState, ServerTurn}
use Words.World as world
use Words.World.{World, WorldClient, clock_of, fresh_world, issued_of, message_of, node_at_start, node_of, numbered, receiver_of, site_of, with_numbered}
use Words.Lists.{Has}
use Words.Lookups.{some_is}
use Words.Numbers.{get_there, numbered_below, numbered_other, numbered_own}
use Words.Tables.{and_true, has_append, has_filter, has_filter_in, not_true, same_or_not}
use Rattle.std.specs.Option.{option_or}
use Rattle.st_rules.specs.declared.node.StepRefusal.TheVariants.{Crashed}
use Rattle.st_lemmas.proofs.Steps.{step_happens}
use Rattle.st_trace.specs.Server.Edits.{Phase, Edit, TakesTimers, Steals, Welcomes, Begins, Replaces, PutsOff, Sees, Reasserts, Serves, Repeats, Refuses}
use Rattle.st_trace.specs.Server.Edits.{Suspects, Grants, Demands, Ruled, Tells, Acquires, Releases, Allocates, Cuts, Creates, MakesDir, Renames, RemovesDir, RemovesFile}
use Rattle.st_trace.proofs.Server.Walk.{walk}
use Rattle.st_laws_pages.proofs.Asks.Says.{server_leaves}
use Rattle.st_laws_pages.proofs.Lives.Fresh.{fresh_is}
use Rattle.st_laws_leases.specs.Dates.Dates.{messages}
use Words.Members.{has_left, has_right}
use Words.Truth.{not_both}
use Rattle.st_laws_leases.proofs.Dates.Leaving.{client_leaves}

-- other numbers are other numbers the other way round
other_way : (m n : ℕ) → (m == n) ≡ false → (n == m) ≡ false
other_way m n f = go (n == m) refl
  where
    go : (b : Bool) → (n == m) ≡ b → b ≡ false
    go true q = absurd (not_both (m == n) (eq-eqb _ _ (sym (eqb-true _ _ q))) f)
    go false q = refl

-- A step of a server leaves its grace.
rule_grace : (now : Stamp) (t : ServerTurn) (h : Header) (b : Body) (u : ServerTurn) (r : Body) → Ruled now t h b u r → u.state.grace ≡ t.state.grace
unfolding server.cut_pages server.cut_whole
rule_grace now t h b u r (Tells _ _ x) = refl
rule_grace now t h b u r (Acquires ino mode a f k g) = refl
rule_grace now t h b u r (Releases ino g to x e f) = refl
rule_grace now t h b u r (Allocates ino g p count x f q e) = refl
rule_grace now t h b u r (Cuts ino g p f q) = refl
rule_grace now t h b u r (Creates dir x d e) = refl
rule_grace now t h b u r (MakesDir dir x d e) = refl
rule_grace now t h b u r (Renames dir x dir2 x2 d e) = refl
rule_grace now t h b u r (RemovesDir dir x g ino d l f z e s) = refl
rule_grace now t h b u r (RemovesFile dir x g ino d l f q e s) = refl

grace_edit : (n : ServerState) (now : Stamp) (i : ServerInput) (a : Phase) (t u : ServerTurn) → Edit n now i a t u → t.state.grace ≡ n.grace →
    u.state.grace ≡ n.grace
unfolding server.steal_from server.suspect_client server.keep_and_reply server.reply server.tell
grace_edit n now i a t u (TakesTimers _ e) p = p
grace_edit n now i a t u (Steals _ c s h e) p = p
grace_edit n now i a t u (Welcomes _ m s g e x f) p = p
grace_edit n now i a t u (Begins _ m g f) p = p
grace_edit n now i a t u (Replaces _ m s g e x f r) p = p
grace_edit n now i a t u (PutsOff _ m s g e x f r) p = p
grace_edit n now i a t u (Sees _ m ino g h b e) p = p
grace_edit n now i a t u (Reasserts _ m rows r on f) p = p
grace_edit n now i a t u (Serves _ m v b s e r) p = rule_grace now t m.header m.body v b r ∙ p
grace_edit n now i a t u (Repeats _ m s b x e f g k) p = p
grace_edit n now i a t u (Refuses _ m b r) p = p
grace_edit n now i a t u (Suspects _ c r is q f h e o) p = p
grace_edit n now i a t u (Grants _ w off h e f) p = p
grace_edit n now i a t u (Demands _ w r x e h o f d) p = p

step_grace : (n : ServerState) (now : Stamp) (i : ServerInput) → (server.server_step n now i).state.grace ≡ n.grace
step_grace n now i = walk n now i (λ t. t.state.grace ≡ n.grace) (grace_edit n now i) refl

-- An event leaves the grace of a server that it neither starts nor stops.
abbrev grace_at : World → ServerId → Option Grace
grace_at w s = grace_of (node_of w s)

abbrev moves_grace : ServerId → Event → Bool
moves_grace s (events.Crash (nodes.Server r)) = r.0 == s.0
moves_grace s (events.Start (nodes.Server r)) = r.0 == s.0
moves_grace s e = false

client_servers : (w : World) (c : ClientId) (i : ClientInput) (site : WorldClient) → (ev.client_takes w c i site).world.servers ≡ w.servers
unfolding ev.client_takes ev.client_took cl.node_step
client_servers w c i site = go site.node.running
  where
    u : ClientTurn
    u = cl.client_step site.node.state (clock_of w (nodes.Client c)) i

    a : WorldTurn
    a = ev.quiet (ev.with_site c (ev.at_node (cl.node_turn site.node u).node site) w)

    go : (b : Bool) → (ev.client_took w c site (if b then Ok (cl.node_turn site.node u) else Err Crashed)).world.servers ≡ w.servers
    go true = (client_leaves (messages a.world) c site.node.state u.state u.out a refl).servers
    go false = refl

module _ (w : World) (s : ServerId) where
  abbrev Same : World → Type 0
  Same v = grace_at v s ≡ grace_at w s

  by_servers : (ns : List ServerNode) → ns ≡ w.servers → grace_of (numbered ns s.0) ≡ grace_of (numbered w.servers s.0)
  by_servers ns e = ap (λ xs. grace_of (numbered xs s.0)) e

  at_client : (c : ClientId) (i : ClientInput) (o : Option WorldClient) → Same (ev.at_client (ev.counted w) c i o).world
  unfolding ev.at_client
  at_client c i None = refl
  at_client c i (Some site) = by_servers (ev.client_takes (ev.counted w) c i site).world.servers (client_servers (ev.counted w) c i site)

  -- a node in place of another
  placed : (r : ServerId) (old new : ServerNode) (ns : List ServerNode) → node_of w r ≡ Some old → ns ≡ with_numbered r.0 new w.servers →
      (r.0 ≢ s.0) ⊎ (grace_of (Some new) ≡ grace_of (Some old)) → grace_of (numbered ns s.0) ≡ grace_of (numbered w.servers s.0)
  placed r old new ns at e h = ap (λ xs. grace_of (numbered xs s.0)) e ∙ go (same_or_not s.0 r.0) h
    where
      other : s.0 ≢ r.0 → numbered (with_numbered r.0 new w.servers) s.0 ≡ numbered w.servers s.0
      other q = numbered_other w.servers r.0 s.0 new (numbered_below w.servers r.0 old at).0 q

      own : s.0 ≡ r.0 → numbered (with_numbered r.0 new w.servers) s.0 ≡ Some new
      own q = ap (numbered (with_numbered r.0 new w.servers)) q ∙ numbered_own w.servers r.0 new old at

      go : (s.0 ≡ r.0) ⊎ (s.0 ≢ r.0) → (r.0 ≢ s.0) ⊎ (grace_of (Some new) ≡ grace_of (Some old)) →
          grace_of (numbered (with_numbered r.0 new w.servers) s.0) ≡ grace_of (numbered w.servers s.0)
      go (inr q) k = ap grace_of (other q)
      go (inl q) (inl k) = absurd (k (sym q))
      go (inl q) (inr k) = ap grace_of (own q) ∙ k ∙ ap grace_of (sym (ap (numbered w.servers) q ∙ at))

  at_server : (r : ServerId) (i : ServerInput) (o : Option ServerNode) → node_of w r ≡ o → Same (ev.at_server (ev.counted w) r i o).world
  unfolding ev.at_server ev.server_takes ev.server_took server.node_step
  at_server r i None at = refl
  at_server r i (Some node) at = go node.running
    where
      x : ServerTurn
      x = server.server_step node.state (clock_of (ev.counted w) (nodes.Server r)) i

      next : ServerNode
      next = (server.node_turn node x).node

      v : World
      v = ev.with_node r next (ev.counted w)

      still : (b : Bool) → (if b then next.state.grace else None) ≡ (if b then node.state.grace else None)
      still true = step_grace node.state (clock_of (ev.counted w) (nodes.Server r)) i
      still false = refl

      go : (b : Bool) → Same (ev.server_took (ev.counted w) r (if b then Ok (server.node_turn node x) else Err Crashed)).world
      go true = placed r node next (ev.server_says_all r x.out (ev.quiet v)).world.servers at (server_leaves r x.out (ev.quiet v)).servers (inr (still node.running))
      go false = refl

  tells : (k : ℕ) (ok : Bool) (o : Option IssuedCommand) (v : World) → v.servers ≡ w.servers → Same (ev.tells v k ok o).world
  unfolding ev.tells ev.tells_client ev.tells_site
  tells k ok None v e = by_servers v.servers e
  tells k ok (Some x) v e = at (site_of v x.client)
    where
      pick : (site : WorldClient) (b : Bool) → Same (if b then ev.client_takes v x.client (ev.end_told v k ok x) site else ev.quiet v).world
      pick site true = by_servers (ev.client_takes v x.client (ev.end_told v k ok x) site).world.servers (client_servers v x.client (ev.end_told v k ok x) site ∙ e)
      pick site false = by_servers v.servers e

      at : (o : Option WorldClient) → Same (ev.tells_client v k ok x o).world
      at None = by_servers v.servers e
      at (Some site) = pick site (ev.is_same_instance x site)

  asks : (c : ClientId) (ask : Ask) (o : Option WorldClient) → Same (ev.asks_at (ev.counted w) c ask o).world
  unfolding ev.asks_at
  asks c ask None = refl
  asks c ask (Some site) =
      by_servers (ev.client_takes (ev.counted w) c (inputs.App (site.asks + 1) ask) (ev.asked_once_more site)).world.servers
      (client_servers (ev.counted w) c (inputs.App (site.asks + 1) ask) (ev.asked_once_more site))

  delivers : (o : Option SentMessage) → Same (ev.delivers (ev.counted w) o).world
  unfolding ev.delivers ev.delivers_to
  delivers None = refl
  delivers (Some m) = to (receiver_of m)
    where
      to : (n : NodeId) → Same (ev.delivers_to (ev.counted w) m.message n).world
      to (nodes.Client c) = at_client c (inputs.Control m.message) (site_of w c)
      to (nodes.Server r) = at_server r (serving.Control m.message) (node_of w r) refl

  loses : (k : ℕ) (o : Option SentMessage) → Same (ev.loses_message (ev.counted w) k o)
  unfolding ev.loses_message
  loses k None = refl
  loses k (Some m) = refl

  crashes_client : (c : ClientId) (o : Option WorldClient) → Same (ev.crashes_client (ev.counted w) c o).world
  unfolding ev.crashes_client ev.marks
  crashes_client c None = refl
  crashes_client c (Some site) = refl

  starts_client : (c : ClientId) (o : Option WorldClient) → Same (ev.starts_client (ev.counted w) c o)
  unfolding ev.starts_client
  starts_client c None = refl
  starts_client c (Some site) = refl

  apart : (r : ServerId) → (r.0 == s.0) ≡ false → r.0 ≢ s.0
  apart r e q = not_both (r.0 == s.0) (eq-eqb _ _ q) e

  crashes_server : (r : ServerId) (o : Option ServerNode) → node_of w r ≡ o → (r.0 == s.0) ≡ false → Same (ev.crashes_server (ev.counted w) r o)
  unfolding ev.crashes_server
  crashes_server r None at e = refl
  crashes_server r (Some node) at e =
      placed r node (server.crash_node node) (with_numbered r.0 (server.crash_node node) w.servers) at refl (inl (apart r e))

  starts_server : (r : ServerId) (o : Option ServerNode) → node_of w r ≡ o → (r.0 == s.0) ≡ false → Same (ev.starts_server (ev.counted w) r o)
  unfolding ev.starts_server
  starts_server r None at e = refl
  starts_server r (Some node) at e =
      placed r node (server.start_node node (clock_of w (nodes.Server r)))
      (with_numbered r.0 (server.start_node node (clock_of w (nodes.Server r))) w.servers) at refl (inl (apart r e))

  grace_stays : (e : Event) → moves_grace s e ≡ false → Same (ev.happens (ev.counted w) e).world
  unfolding ev.happens ev.ticks ev.advances ev.effects ev.marks ev.reports_of ev.crashes ev.starts
  grace_stays (events.Tick (nodes.Client c)) q = at_client c inputs.Tick (site_of w c)
  grace_stays (events.Tick (nodes.Server r)) q = at_server r serving.Tick (node_of w r) refl
  grace_stays (events.App c ask) q = asks c ask (site_of w c)
  grace_stays (events.Deliver k) q = delivers (message_of w k)
  grace_stays (events.Lose k) q = loses k (message_of w k)
  grace_stays (events.Cut from to) q = refl
  grace_stays (events.Heal from to) q = refl
  grace_stays (events.Advance ds) q = refl
  grace_stays (events.Effect k) q = refl
  grace_stays (events.Report k ok) q =
      tells k ok (issued_of w k) (ev.with_disks (ev.disks_after w.disks (disks.done w.disks k ok)) (ev.counted w)) refl
  grace_stays (events.Crash (nodes.Client c)) q = crashes_client c (site_of w c)
  grace_stays (events.Crash (nodes.Server r)) q = crashes_server r (node_of w r) refl q
  grace_stays (events.Start (nodes.Client c)) q = starts_client c (site_of w c)
  grace_stays (events.Start (nodes.Server r)) q = starts_server r (node_of w r) refl q

-- A server that crashes has no grace.
crash_ends : (w : World) (s : ServerId) → grace_at (ev.happens (ev.counted w) (events.Crash (nodes.Server s))).world s ≡ None
unfolding ev.happens ev.crashes ev.crashes_server
crash_ends w s = go (node_of w s) refl
  where
    go : (o : Option ServerNode) → node_of w s ≡ o → grace_at (ev.crashes_server (ev.counted w) s o) s ≡ None
    go None at = ap grace_of at
    go (Some node) at = ap grace_of (numbered_own w.servers s.0 (server.crash_node node) node at)

-- A server that may start is there and does not run, and it has a grace from then on.
pub record Starting (w : World) (s : ServerId) : Type 0 where
  pub off : grace_at w s ≡ None
  pub begun : Grace
  pub start : begun.start ≡ clock_of w (nodes.Server s)
  pub on : grace_at (ev.happens (ev.counted w) (events.Start (nodes.Server s))).world s ≡ Some begun

start_begins : (w : World) (s : ServerId) → adm.refusal w (events.Start (nodes.Server s)) ≡ None → Starting w s
unfolding adm.refusal adm.stands ev.happens ev.starts ev.starts_server server.start server.begin_epoch
start_begins w s h = go (node_of w s) refl
  where
    both : (a b : Option WorldRefusal) → option_or a b ≡ None → (a ≡ None) × (b ≡ None)
    both None b e = (refl, e)
    both (Some x) b e = cc

    is_known : (b : Bool) (r : WorldRefusal) → (if not b then Some r else None) ≡ None → b ≡ true
    is_known true r e = refl
    is_known false r e = cc

    stopped : (b : Bool) (r : WorldRefusal) → (if b then Some r else None) ≡ None → b ≡ false
    stopped true r e = cc
    stopped false r e = refl

    parts : (adm.no_node w (nodes.Server s) ≡ None) × (adm.still_running w (nodes.Server s) ≡ None)
    parts = both (adm.no_node w (nodes.Server s)) (adm.still_running w (nodes.Server s)) h

    there : (n : ℕ) → (nat_le 1 n && nat_le n (length w.servers)) ≡ true → numbered w.servers n ≡ None → ⊥
    there zero e i = cc
    there (suc n) e i = let z = leb-true (suc n) (length w.servers) (and_true (nat_le 1 (suc n)) (nat_le (suc n) (length w.servers)) e).1 in
        none (get_there w.servers n (omega (arith, z))) i
      where
        none : {A : Type 0} {o : Option A} → (v : A) × (o ≡ Some v) → o ≡ None → ⊥
        none (v, e) f = no (sym e ∙ f)
          where
            no : Some v ≡ None → ⊥
            no z = cc

    go : (o : Option ServerNode) → node_of w s ≡ o → Starting w s
    go None at = absurd (there s.0 (is_known (world.is_known w (nodes.Server s)) _ parts.0) at)
    go (Some node) at =
        record {
          off = ap grace_of at ∙ ap (λ b. if b then node.state.grace else None) off;
          begun = record { start = clock_of w (nodes.Server s); wait = Rattle.st_rules.specs.Leases.steal_wait node.state.config };
          start = refl;
          on = ap (λ o. grace_at (ev.starts_server (ev.counted w) s o) s) at ∙
              ap grace_of (numbered_own w.servers s.0 (server.start_node node (clock_of w (nodes.Server s))) node at);
        }
      where
        off : node.running ≡ false
        off = sym (ap world.node_runs at) ∙ stopped (world.is_running w (nodes.Server s)) _ parts.1

-- What is observed leaves the graces of the history.
recalled : (before after : World) (os : List Observation) (h : History) → (recall_all before after os h).graces ≡ h.graces
unfolding recall_all recall
recalled before after [] h = refl
recalled before after (o ∷ os) h = recalled before after os (recall before after h o) ∙ one o
  where
    one : (o : Observation) → (recall before after h o).graces ≡ h.graces
    one (seen.Suspected s c start) = refl
    one (seen.Stolen s c life) = refl
    one (seen.Leased c s end) = refl
    one (seen.Wrote index c f p bytes) = refl
    one (seen.Patched index c f p at bytes) = refl
    one (seen.CutAt index f p) = refl
    one o = refl

-- A grace of the history began in one of these steps: its server started then, when the clients' clocks were these, and it has that grace.
pub record Graced (past : List Step) (w : World) (g : GraceStart) : Type 0 where
  pub at : Step
  pub among : Has at past
  pub event : at.event ≡ events.Start (nodes.Server g.server)
  pub clocks : g.clocks ≡ client_clocks at.before.world
  pub grace : Grace
  pub start : grace.start ≡ clock_of at.before.world (nodes.Server g.server)
  pub on : grace_at w g.server ≡ Some grace

-- the history has a grace of the server
pub record GraceOf (gs : List GraceStart) (s : ServerId) : Type 0 where
  pub grace : GraceStart
  pub among : Has grace gs
  pub is : is_grace_at s grace ≡ true

-- After every event each grace of the history began in a step, and each server that has a grace has one there.
pub record Graces (past : List Step) (w : World) (gs : List GraceStart) : Type 0 where
  pub all : (g : GraceStart) → Has g gs → Graced past w g
  pub known : (s : ServerId) → is_some (grace_at w s) ≡ true → GraceOf gs s

module _ (past : List Step) (t : Traced) (b : Graces past t.world t.history.graces) where
  abbrev Then : Event → Type 0
  Then e = Graces (past ++ step t e (ev.happens (ev.counted t.world) e) ∷ []) (ev.happens (ev.counted t.world) e).world (remember t.world e t.history).graces

  later : (e : Event) (g : GraceStart) → moves_grace g.server e ≡ false → Graced past t.world g →
      Graced (past ++ step t e (ev.happens (ev.counted t.world) e) ∷ []) (ev.happens (ev.counted t.world) e).world g
  later e g q z =
      record {
        at = z.at;
        among = has_left past _ z.at z.among;
        event = z.event;
        clocks = z.clocks;
        grace = z.grace;
        start = z.start;
        on = grace_stays t.world g.server e q ∙ z.on;
      }

  here : (e : Event) (s : ServerId) → moves_grace s e ≡ false → is_some (grace_at (ev.happens (ev.counted t.world) e).world s) ≡ true →
      GraceOf t.history.graces s
  here e s q i = b.known s (ap is_some (sym (grace_stays t.world s e q)) ∙ i)

  still : (e : Event) → ((s : ServerId) → moves_grace s e ≡ false) → (remember t.world e t.history).graces ≡ t.history.graces → Then e
  still e q same = subst (Graces (past ++ step t e (ev.happens (ev.counted t.world) e) ∷ []) (ev.happens (ev.counted t.world) e).world) (sym same)
      (record { all = λ g h. later e g (q g.server) (b.all g h); known = λ s i. here e s (q s) i })

  server_crashes : (s : ServerId) → Then (events.Crash (nodes.Server s))
  unfolding remember
  server_crashes s =
      record {
        all = λ g h. let z = has_filter (λ x. not (is_grace_at s x)) t.history.graces g h in
            later e g (other_way g.server.0 s.0 (not_true _ z.1)) (b.all g z.0);
        known = λ r i. go r (s.0 == r.0) refl i;
      }
    where
      e : Event
      e = events.Crash (nodes.Server s)

      go : (r : ServerId) (b : Bool) → (s.0 == r.0) ≡ b → is_some (grace_at (ev.happens (ev.counted t.world) e).world r) ≡ true →
          GraceOf (filter (λ x. not (is_grace_at s x)) t.history.graces) r
      go r true q i =
          absurd
          (none
          (ap is_some (sym (crash_ends t.world s)) ∙ subst (λ n. is_some (grace_at (ev.happens (ev.counted t.world) e).world (record { 0 = n })) ≡ true)
          (sym (eqb-true _ _ q)) i))
        where
          none : false ≡ true → ⊥
          none e = cc
      go r false q i =
          let z = here e r q i in
          record {
            grace = z.grace;
            among = has_filter_in (λ x. not (is_grace_at s x)) t.history.graces z.grace z.among (ap not (kept z.grace.server.0 z.is));
            is = z.is;
          }
        where
          kept : (n : ℕ) → (n == r.0) ≡ true → (n == s.0) ≡ false
          kept n f = other_way s.0 n (subst (λ m. (s.0 == m) ≡ false) (sym (eqb-true _ _ f)) q)

  server_starts : (s : ServerId) → adm.refusal t.world (events.Start (nodes.Server s)) ≡ None → Then (events.Start (nodes.Server s))
  unfolding remember
  server_starts s f =
      record {
        all = λ g h. each g (has_append t.history.graces _ g h);
        known = λ r i. go r (s.0 == r.0) refl i;
      }
    where
      e : Event
      e = events.Start (nodes.Server s)

      z : Starting t.world s
      z = start_begins t.world s f

      each : (g : GraceStart) → Has g t.history.graces ⊎ Has g (grace_begun t.world s ∷ []) →
          Graced (past ++ step t e (ev.happens (ev.counted t.world) e) ∷ []) (ev.happens (ev.counted t.world) e).world g
      each g (inl h) = old (b.all g h) (s.0 == g.server.0) refl
        where
          none : {A : Type 0} (x : A) → None ≡ Some x → ⊥
          none x e = cc

          old : Graced past t.world g → (b : Bool) → (s.0 == g.server.0) ≡ b →
              Graced (past ++ step t e (ev.happens (ev.counted t.world) e) ∷ []) (ev.happens (ev.counted t.world) e).world g
          old y true q = absurd (none y.grace (sym z.off ∙ ap (λ n. grace_at t.world (record { 0 = n })) (eqb-true _ _ q) ∙ y.on))
          old y false q = later e g q y
      each g (inr (inl i)) =
          subst (Graced (past ++ step t e (ev.happens (ev.counted t.world) e) ∷ []) (ev.happens (ev.counted t.world) e).world) (sym i)
          (record {
            at = step t e (ev.happens (ev.counted t.world) e);
            among = has_right past _ _ (inl refl);
            event = refl;
            clocks = refl;
            grace =
                z.begun;
            start = z.start;
            on = z.on;
          })
      each g (inr (inr i)) = elim i [ ]

      go : (r : ServerId) (b : Bool) → (s.0 == r.0) ≡ b → is_some (grace_at (ev.happens (ev.counted t.world) e).world r) ≡ true →
          GraceOf (t.history.graces ++ grace_begun t.world s ∷ []) r
      go r true q i = record { grace = grace_begun t.world s; among = has_right t.history.graces _ _ (inl refl); is = q }
      go r false q i = let y = here e r q i in record { grace = y.grace; among = has_left t.history.graces _ y.grace y.among; is = y.is }

  happens : (e : Event) → adm.refusal t.world e ≡ None → Then e
  unfolding remember
  happens (events.Crash (nodes.Server s)) f = server_crashes s
  happens (events.Start (nodes.Server s)) f = server_starts s f
  happens (events.Crash (nodes.Client c)) f = still (events.Crash (nodes.Client c)) (λ s. refl) refl
  happens (events.Start (nodes.Client c)) f = still (events.Start (nodes.Client c)) (λ s. refl) refl
  happens e f = still e (λ s. refl) refl

  pub graces_after : (e : Event) (sc : WorldTurn) → ev.world_step t.world e ≡ Ok sc →
      Graces (past ++ step t e sc ∷ []) sc.world (traced_after e t sc).history.graces
  graces_after e sc q =
      let z = step_happens t.world e sc q in
      subst (Graces (past ++ step t e sc ∷ []) sc.world) (sym (recalled t.world sc.world sc.seen (remember t.world e t.history)))
      (subst (λ (y : WorldTurn). Graces (past ++ step t e y ∷ []) y.world (remember t.world e t.history).graces) (sym z.1) (happens e z.0))

-- No server has a grace at the start.
pub fresh_graces : (k : Config) (clients servers d b form : ℕ) → Graces [] (fresh_world k clients servers d b form) []
unfolding fresh_world server.fresh_server
fresh_graces k clients servers d b form =
    record { all = λ g h. elim h [ ]; known = λ s i. absurd (go s (node_of (fresh_world k clients servers d b form) s) refl i) }
  where
    go : (s : ServerId) (o : Option ServerNode) → node_of (fresh_world k clients servers d b form) s ≡ o → is_some (grace_of o) ≡ true → ⊥
    go s None at i = cc
    go s (Some node) at i = none (ap (λ (n : ServerNode). is_some (grace_of (Some n))) (sym (fresh_is (node_at_start k servers d b) servers s.0 node at)) ∙ i)
      where
        none : false ≡ true → ⊥
        none e = cc
