-- What an event does to the clients of a world of the third form: it leaves them, or one of them changes.
use Rattle.st_lemmas.proofs.Words
use Words.{◌≡◌, ◌≢◌, ◌≤◌, ℕ, true, List, [], ◌∷◌, Option, Some, None, Result, Ok, Err, refl, sym, ap, ◌∙◌, unwrap_or}
use Words.{ClientId, Config, Note, Output, Phase, ServerId, Stamp, StepRefusal}
use Words.nodes
use Words.notes
use Words.outputs
use Words.phases
use Words.Client as plain
use Words.Client.{ClientNode}
use Words.ClientState.{ClientState}
use Words.Events as ev
use Words.Events.{WorldTurn, quiet}
use Words.Server as server
use Words.World.{World, WorldClient, all_servers, clock_of, numbered, site_of, stamp, with_numbered}
use Words.Numbers.{numbered_below, numbered_other, numbered_own}
use Rattle.st_third.specs.declared.event.ThirdEvent.{ThirdEvent}
use Rattle.st_third.specs.declared.event.ThirdInput.{ThirdInput}
use Rattle.st_third.specs.declared.output.ThirdOutput.{ThirdOutput}
use Rattle.st_third.specs.declared.output.ThirdOutput.TheVariants as says
use Rattle.st_third.specs.Client.{client_step}
use Rattle.st_third.specs.Events as every
use Rattle.st_third.specs.Events.{ThirdWorldTurn, unseen}
use Rattle.st_third.specs.Limits.{is_third, limited_client, limited_site}
use Rattle.st_third.specs.State.{ClientBeside, ThirdClientTurn, fresh_beside_client}
use Rattle.st_third.specs.World.{ThirdWorld, beside_of}
use Rattle.st_laws_third.proofs.EventWalk.{Client_step, EventLaw, Server_step, walk_of_event}

-- what no output changes: the clients, the clocks, the settings and the form
pub record Core : Type 0 where
  pub clients : List WorldClient
  pub clocks : List Stamp
  pub config : Config
  pub form : ℕ

abbrev pub core : World → Core
core w = record { clients = w.clients; clocks = w.clocks; config = w.config; form = w.form }

-- the same, and what clients have beside their state
pub record ThirdCore : Type 0 where
  pub plain : Core
  pub besides : List ClientBeside

abbrev pub third_core : ThirdWorld → ThirdCore
third_core w = record { plain = core w.world; besides = w.besides }

-- Outputs of a client.

notes_keep : (sc : WorldTurn) (c : ClientId) (before : ClientState) (n : Note) → core (ev.client_notes sc c before n).world ≡ core sc.world
unfolding ev.client_notes ev.accepts ev.patches ev.loses
notes_keep sc c before (notes.Leased s end) = refl
notes_keep sc c before (notes.Lost s life) = refl
notes_keep sc c before (notes.Accepted f p bytes) = refl
notes_keep sc c before (notes.Patched f p at bytes) = refl
notes_keep sc c before (notes.Suspected d start) = refl
notes_keep sc c before (notes.Stolen d life) = refl
notes_keep sc c before (notes.CutDone f p) = refl

says_keep : (sc : WorldTurn) (c : ClientId) (before : ClientState) (o : Output) → core (ev.client_says sc c before o).world ≡ core sc.world
unfolding ev.client_says ev.sends ev.submits ev.answers_with
says_keep sc c before (outputs.Send m) = refl
says_keep sc c before (outputs.Submit number at what) = go (site_of sc.world c)
  where
    go : (site : Option WorldClient) → core (ev.submits sc c site number at what).world ≡ core sc.world
    go None = refl
    go (Some site) = refl
says_keep sc c before (outputs.Answer op answer) = refl
says_keep sc c before (outputs.Note n) = notes_keep sc c before n

third_says : (sc : ThirdWorldTurn) (c : ClientId) (before : ClientState) (o : ThirdOutput) →
    third_core (every.client_says sc c before o).third ≡ third_core sc.third
unfolding every.client_says
third_says sc c before (says.Plain o) =
    let h = says_keep (quiet sc.third.world) c before o in
    λ i. record { plain = h i; besides = sc.third.besides }
third_says sc c before (says.Left op) = refl
third_says sc c before (says.Unsynced op ino) = refl
third_says sc c before (says.Ended s life end) = refl

says_all : (c : ClientId) (before : ClientState) (os : List ThirdOutput) (sc : ThirdWorldTurn) →
    third_core (every.client_says_all c before os sc).third ≡ third_core sc.third
unfolding every.client_says_all
says_all c before [] sc = refl
says_all c before (o ∷ os) sc = says_all c before os (every.client_says sc c before o) ∙ third_says sc c before o

flushed_keeps : (w : World) (c : ClientId) (s : ServerId) (end : Option Stamp) (phase : Option Phase) → core (ev.flushed_in w c s end phase) ≡ core w
flushed_keeps w c s None (Some phases.Flush) = refl
flushed_keeps w c s (Some end) (Some phases.Flush) = refl
flushed_keeps w c s end (Some phases.Valid) = refl
flushed_keeps w c s end (Some phases.Renewal) = refl
flushed_keeps w c s end (Some phases.Quiesce) = refl
flushed_keeps w c s end (Some phases.Expired) = refl
flushed_keeps w c s end None = refl

flushes_keep : (c : ClientId) (state : ClientState) (ss : List ServerId) (w : World) → core (ev.flushes c state ss w) ≡ core w
unfolding ev.flushes
flushes_keep c state [] w = refl
flushes_keep c state (s ∷ ss) w =
    flushes_keep c state ss (ev.flushed_at w c s state)
    ∙ flushed_keeps w c s (plain.lease_end_with state s) (plain.phase_with state s (clock_of w (nodes.Client c)))

pub took_core : (w : ThirdWorld) (c : ClientId) (site : WorldClient) (t : ThirdClientTurn) →
    third_core (every.client_took w c site t).third ≡ third_core (every.with_client c site t.client w)
unfolding every.client_took
took_core w c site t =
    let sc : ThirdWorldTurn = every.client_says_all c site.node.state t.out (unseen (every.with_client c site t.client w)) in
    let h = flushes_keep c t.client.plain (all_servers sc.third.world) sc.third.world in
    (λ i. record { plain = h i; besides = sc.third.besides }) ∙ says_all c site.node.state t.out (unseen (every.with_client c site t.client w))

-- the limits of the world stay
says_limits : (c : ClientId) (before : ClientState) (os : List ThirdOutput) (sc : ThirdWorldTurn) →
    (every.client_says_all c before os sc).third.limits ≡ sc.third.limits
unfolding every.client_says_all every.client_says
says_limits c before [] sc = refl
says_limits c before (o ∷ os) sc = says_limits c before os (every.client_says sc c before o) ∙ one o
  where
    one : (o : ThirdOutput) → (every.client_says sc c before o).third.limits ≡ sc.third.limits
    one (says.Plain o) = refl
    one (says.Left op) = refl
    one (says.Unsynced op ino) = refl
    one (says.Ended s life end) = refl

took_limits : (w : ThirdWorld) (c : ClientId) (site : WorldClient) (t : ThirdClientTurn) → (every.client_took w c site t).third.limits ≡ w.limits
unfolding every.client_took
took_limits w c site t = says_limits c site.node.state t.out (unseen (every.with_client c site t.client w))

-- Outputs of a server.

server_notes_keep : (sc : WorldTurn) (s : ServerId) (n : Note) → core (ev.server_notes sc s n).world ≡ core sc.world
unfolding ev.server_notes ev.cuts
server_notes_keep sc s (notes.Suspected c start) = refl
server_notes_keep sc s (notes.Stolen c life) = refl
server_notes_keep sc s (notes.CutDone f p) = refl
server_notes_keep sc s (notes.Leased t end) = refl
server_notes_keep sc s (notes.Lost t life) = refl
server_notes_keep sc s (notes.Accepted f p bytes) = refl
server_notes_keep sc s (notes.Patched f p at bytes) = refl

server_says_keep : (sc : WorldTurn) (s : ServerId) (o : Output) → core (ev.server_says sc s o).world ≡ core sc.world
unfolding ev.server_says ev.sends
server_says_keep sc s (outputs.Send m) = refl
server_says_keep sc s (outputs.Note n) = server_notes_keep sc s n
server_says_keep sc s (outputs.Submit number at what) = refl
server_says_keep sc s (outputs.Answer op answer) = refl

server_says_all : (s : ServerId) (os : List Output) (sc : WorldTurn) → core (ev.server_says_all s os sc).world ≡ core sc.world
unfolding ev.server_says_all
server_says_all s [] sc = refl
server_says_all s (o ∷ os) sc = server_says_all s os (ev.server_says sc s o) ∙ server_says_keep sc s o

pub took_server : (w : ThirdWorld) (s : ServerId) (r : Result server.NodeTurn StepRefusal) →
    third_core (every.as_plain w (ev.server_took w.world s r)).third ≡ third_core w
unfolding ev.server_took
took_server w s (Ok t) =
    let h = server_says_all s t.out (quiet (ev.with_node s t.node w.world)) in
    λ i. record { plain = h i; besides = w.besides }
took_server w s (Err r) = refl

-- How a client changes: it takes a step, or begins anew.
pub data Becomes (w v : ThirdWorld) (c : ClientId) (old new : WorldClient) (d : ClientBeside) : Type 0 where
  Stepped : (b : ClientBeside) (input : ThirdInput) → beside_of w c ≡ Some b → v.world.clocks ≡ w.world.clocks →
      new.node.state ≡ (client_step w.limits (record { plain = old.node.state; beside = b }) (clock_of w.world (nodes.Client c)) input).client.plain →
      d ≡ (client_step w.limits (record { plain = old.node.state; beside = b }) (clock_of w.world (nodes.Client c)) input).client.beside →
      Becomes w v c old new d
  Crashed : new.node.state ≡ limited_client w.limits (plain.crash old.node.state) → d ≡ fresh_beside_client (plain.crash old.node.state) →
      Becomes w v c old new d
  Started : new.node.state ≡ limited_client w.limits (plain.start old.node.state) → d ≡ fresh_beside_client (plain.start old.node.state) →
      Becomes w v c old new d

-- The settings, the form and the limits stay.
pub record Stays (w v : ThirdWorld) : Type 0 where
  pub config : v.world.config ≡ w.world.config
  pub form : v.world.form ≡ w.world.form
  pub limits : v.limits ≡ w.limits

-- What an event does to the clients.
pub data Moved (w v : ThirdWorld) : Type 0 where
  Rests : v.world.clients ≡ w.world.clients → Stays w v → v.besides ≡ w.besides → Moved w v
  Changes : (c : ClientId) (old new : WorldClient) (d : ClientBeside) → site_of w.world c ≡ Some old → Stays w v →
      numbered v.world.clients c.0 ≡ Some new → ((n : ℕ) → n ≢ c.0 → numbered v.world.clients n ≡ numbered w.world.clients n) →
      ((b : ClientBeside) → numbered w.besides c.0 ≡ Some b → numbered v.besides c.0 ≡ Some d) →
      ((n : ℕ) → n ≢ c.0 → numbered v.besides n ≡ numbered w.besides n) →
      Becomes w v c old new d → Moved w v

stays : (w v : ThirdWorld) → v.limits ≡ w.limits → third_core v ≡ third_core w → Stays w v
stays w v l h = record { config = ap (λ x. x.plain.config) h; form = ap (λ x. x.plain.form) h; limits = l }

rests : (w v : ThirdWorld) → v.limits ≡ w.limits → third_core v ≡ third_core w → Moved w v
rests w v l h = Rests (ap (λ x. x.plain.clients) h) (stays w v l h) (ap (λ x. x.besides) h)

module _ (w : ThirdWorld) (c : ClientId) (old : WorldClient) (there : site_of w.world c ≡ Some old) where
  low : 1 ≤ c.0
  low = (numbered_below w.world.clients c.0 old there).0

  changes : (v : ThirdWorld) (new : WorldClient) (d : ClientBeside) → Stays w v →
      v.world.clients ≡ with_numbered c.0 new w.world.clients → v.besides ≡ with_numbered c.0 d w.besides → Becomes w v c old new d → Moved w v
  changes v new d k p q b =
      Changes c old new d there k (ap (λ xs. numbered xs c.0) p ∙ numbered_own w.world.clients c.0 new old there)
      (λ n h. ap (λ xs. numbered xs n) p ∙ numbered_other w.world.clients c.0 n new low h)
      (λ x e. ap (λ xs. numbered xs c.0) q ∙ numbered_own w.besides c.0 d x e)
      (λ n h. ap (λ xs. numbered xs n) q ∙ numbered_other w.besides c.0 n d low h) b

  -- a client takes an input
  takes_moves : (site : WorldClient) (b : ClientBeside) (input : ThirdInput) → site.node ≡ old.node → beside_of w c ≡ Some b →
      Moved w (every.client_took w c site (Client_step w c site b input)).third
  takes_moves site b input e q =
      let t : ThirdClientTurn = Client_step w c site b input in
      let h = took_core w c site t in
      let z : site.node.state ≡ old.node.state = ap (λ (x : ClientNode). x.state) e in
      changes _ (ev.at_node (record site.node { state = t.client.plain }) site) t.client.beside
      (record { config = ap (λ x. x.plain.config) h; form = ap (λ x. x.plain.form) h; limits = took_limits w c site t })
      (ap (λ x. x.plain.clients) h) (ap (λ x. x.besides) h)
      (Stepped b input q (ap (λ x. x.plain.clocks) h)
      (ap (λ s. (client_step w.limits (record { plain = s; beside = b }) (clock_of w.world (nodes.Client c)) input).client.plain) z)
      (ap (λ s. (client_step w.limits (record { plain = s; beside = b }) (clock_of w.world (nodes.Client c)) input).client.beside) z))

-- Crashes and starts.

-- a world of which one client is another one, twice
module _ (w : ThirdWorld) (c : ClientId) (old mid new : WorldClient) (d : ClientBeside) (there : site_of w.world c ≡ Some old) (v : ThirdWorld)
    (k : Stays w v) (p : v.world.clients ≡ with_numbered c.0 new (with_numbered c.0 mid w.world.clients))
    (q : v.besides ≡ with_numbered c.0 d w.besides) where
  twice : Becomes w v c old new d → Moved w v
  twice b =
      let l : 1 ≤ c.0 = (numbered_below w.world.clients c.0 old there).0 in
      Changes c old new d there k
      (ap (λ xs. numbered xs c.0) p ∙ numbered_own (with_numbered c.0 mid w.world.clients) c.0 new mid (numbered_own w.world.clients c.0 mid old there))
      (λ n h. ap (λ xs. numbered xs n) p ∙ numbered_other (with_numbered c.0 mid w.world.clients) c.0 n new l h ∙ numbered_other w.world.clients c.0 n mid l h)
      (λ x e. ap (λ xs. numbered xs c.0) q ∙ numbered_own w.besides c.0 d x e)
      (λ n h. ap (λ xs. numbered xs n) q ∙ numbered_other w.besides c.0 n d l h) b

-- what an event does to the clients of a world that differs elsewhere
pub elsewhere : (w u v : ThirdWorld) → third_core u ≡ third_core w → u.limits ≡ w.limits → Moved u v → Moved w v
elsewhere w u v h l (Rests a k d) =
    Rests (a ∙ ap (λ x. x.plain.clients) h)
    (record { config = k.config ∙ ap (λ x. x.plain.config) h; form = k.form ∙ ap (λ x. x.plain.form) h; limits = k.limits ∙ l })
    (d ∙ ap (λ x. x.besides) h)
elsewhere w u v h l (Changes c old new d there k own others x y b) =
    Changes c old new d (sym (ap (λ x. numbered x.plain.clients c.0) h) ∙ there)
    (record { config = k.config ∙ ap (λ x. x.plain.config) h; form = k.form ∙ ap (λ x. x.plain.form) h; limits = k.limits ∙ l })
    own (λ n q. others n q ∙ ap (λ x. numbered x.plain.clients n) h) (λ z e. x z (ap (λ y. numbered y.besides c.0) h ∙ e))
    (λ n q. y n q ∙ ap (λ x. numbered x.besides n) h) (go b)
  where
    clock_same : clock_of u.world (nodes.Client c) ≡ clock_of w.world (nodes.Client c)
    clock_same = ap (λ x. unwrap_or (numbered x.plain.clocks c.0) (stamp 0)) h

    go : Becomes u v c old new d → Becomes w v c old new d
    go (Stepped b input q t z e) =
        Stepped b input (sym (ap (λ x. numbered x.besides c.0) h) ∙ q) (t ∙ ap (λ x. x.plain.clocks) h)
        (z ∙ (λ i. (client_step (l i) (record { plain = old.node.state; beside = b }) (clock_same i) input).client.plain))
        (e ∙ (λ i. (client_step (l i) (record { plain = old.node.state; beside = b }) (clock_same i) input).client.beside))
    go (Crashed z e) = Crashed (z ∙ ap (λ m. limited_client m (plain.crash old.node.state)) l) e
    go (Started z e) = Started (z ∙ ap (λ m. limited_client m (plain.start old.node.state)) l) e

-- What an event does to the clients.

abbrev MovesTo : ThirdWorld → ThirdWorldTurn → Type 0
MovesTo w sc = Moved w sc.third

moves_law : EventLaw MovesTo
unfolding ev.advances ev.effects ev.marks ev.crashes_client ev.crashes_server ev.starts_client ev.starts_server every.client_begins every.server_begins plain.crash
    plain.start
moves_law =
    record {
      still = λ w. rests w w refl refl;
      takes = λ w c old site b input there e q. takes_moves w c old there site b input e q;
      serves = λ w s node input there. rests w _ refl (took_server w s (Ok (Server_step w s node input)));
      loses = λ w k m e. rests w _ refl refl;
      cuts = λ w from to. rests w _ refl refl;
      heals = λ w from to. rests w _ refl refl;
      advances = λ w steps. Rests refl (record { config = refl; form = refl; limits = refl }) refl;
      effects = λ w k. rests w _ refl refl;
      reports = λ w k ok sc h. elsewhere w (every.with_report k ok w) sc.third refl refl h;
      client_crashes =
          λ w c site e. let mid : WorldClient = ev.stopped_site site in
          twice w c site mid (limited_site w.limits mid) (fresh_beside_client mid.node.state) e _ (record { config = refl; form = refl; limits = refl }) refl
          refl (Crashed refl refl);
      server_crashes = λ w s node e. rests w _ refl refl;
      client_starts =
          λ w c site e. let mid : WorldClient = ev.started_site site in
          twice w c site mid (limited_site w.limits mid) (fresh_beside_client mid.node.state) e _ (record { config = refl; form = refl; limits = refl }) refl
          refl (Started refl refl);
      server_starts = λ w s node e. rests w _ refl refl;
    }

pub moves : (w : ThirdWorld) (e : ThirdEvent) → is_third w.world.form ≡ true → Moved w (every.happens w e).third
moves = walk_of_event MovesTo moves_law
