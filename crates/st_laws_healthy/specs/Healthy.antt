-- Healthy clients: a client that ticks in time at a server that runs and does not suspect it, if each message between the two comes in time. Its lease
-- at that server lasts and serves, and if few of its releases wait, the server does not come to suspect it.
use Rattle.std.specs.Prelude.{◌≡◌, ◌≢◌, ◌≤◌, ◌<◌, ◌+◌, ◌*◌, ◌&&◌, ◌||◌, ◌==◌, ℕ, Bool, true, false, length, max, List, [], ◌∷◌, ◌++◌, Some}
use Rattle.std.specs.List.{list_all}
use Rattle.st_base.specs.declared.config.Config.{Config}
use Rattle.st_base.specs.declared.ids.ClientId.{ClientId}
use Rattle.st_base.specs.declared.ids.Life.{Life}
use Rattle.st_base.specs.declared.ids.NodeId.TheVariants as nodes
use Rattle.st_base.specs.declared.ids.ServerId.{ServerId}
use Rattle.st_messages.specs.declared.answer.AppAnswer.TheVariants as answers
use Rattle.st_messages.specs.declared.ask.Ask.{Ask}
use Rattle.st_messages.specs.declared.event.Event.{Event}
use Rattle.st_messages.specs.declared.event.Event.TheVariants as events
use Rattle.st_messages.specs.declared.message.Header.{Header}
use Rattle.st_messages.specs.declared.message.Message.{Message}
use Rattle.st_rules.specs.declared.observation.Observation.TheVariants as seen
use Rattle.st_rules.specs.Authority.{may_ack}
use Rattle.st_rules.specs.ClientState.{Association, ClientSession, server_of}
use Rattle.st_rules.specs.Grace.{is_on}
use Rattle.st_rules.specs.History.{traced}
use Rattle.st_rules.specs.Keys.{server_node}
use Rattle.st_rules.specs.Safety.{IsHead, Promise, Step, Throughout, ask_of, is_event, left_by, steps}
use Rattle.st_rules.specs.Server.{ServerNode}
use Rattle.st_rules.specs.World.{World, WorldClient, clock_of, fresh_world, node_of, site_of}
use Rattle.st_lemmas.specs.Lists.{Has}
use Rattle.st_laws_lasting.specs.Lasting.{client_clock, client_last_tick}
use Rattle.st_laws_waits.specs.Waits.{server_clock}

-- a message from one of the two to the other
abbrev pub is_between : ClientId → ServerId → Header → Bool
is_between c s h = ((h.from == c.0) && (h.to == server_node s)) || ((h.from == server_node s) && (h.to == c.0))

-- Messages between the two come in time, by a clock: a message that was sent more than this many of its ticks ago was delivered since.
abbrev pub ComeInTime : (World → ℕ) → ClientId → ServerId → ℕ → Promise
ComeInTime clock c s d past x =
    (before : List Step) (i : Step) (during : List Step) (n : ℕ) (m : Message) → past ++ x ∷ [] ≡ before ++ i ∷ during → Has (seen.Sent n m) i.seen →
    is_between c s m.header ≡ true → ((y : Step) → Has y during → y.event ≢ events.Deliver n) → clock x.after.world ≤ clock i.after.world + d

-- After a step the client runs, the server runs and does not suspect it, the client ticked in time, and the messages between them came in time.
pub record IsHealthy (c : ClientId) (s : ServerId) (gap d : ℕ) (past : List Step) (x : Step) : Type 0 where
  pub site : WorldClient
  pub there : site_of x.after.world c ≡ Some site
  pub runs : site.node.running ≡ true
  pub node : ServerNode
  pub is : node_of x.after.world s ≡ Some node
  pub up : node.running ≡ true
  pub free : may_ack node.state.authority c ≡ true
  pub ticks : client_clock c x.after.world ≤ client_last_tick c 0 (past ++ x ∷ []) + gap
  pub come : ComeInTime (client_clock c) c s d past x

-- The age that a lease never reaches: a request is asked at an age below the renewal age and a gap, or right after the reply to the one before it; and it
-- takes one trip to the server and one back.
abbrev pub longest : Config → ℕ → ℕ → ℕ
longest k gap d = max (k.renew + gap) (2 * d + 1) + 2 * d

-- Leases last: a healthy client's lease is younger than that, and is not condemned.
abbrev pub LeasesLast : Config → ClientId → ServerId → ℕ → ℕ → Promise
LeasesLast k c s gap d past x =
    (site : WorldClient) (a : Association) (z : ClientSession) → site_of x.after.world c ≡ Some site → Has a site.node.state.associations → a.server ≡ s →
    a.session ≡ Some z →
    (client_clock c x.after.world < z.lease.date.0 + longest k gap d) × (z.lease.condemned ≡ false)

-- No loss of the server is noted, if a lease that is younger than that is not over.
abbrev pub NoneIsLost : Config → ClientId → ServerId → ℕ → ℕ → Promise
NoneIsLost k c s gap d past x = longest k gap d ≤ k.lease → (life : Life) → Has (seen.Lost c s life) x.seen → ⊥

-- No ask of the server is answered `quiesced`, if a lease that is younger than that serves.
abbrev pub NoneIsQuiesced : Config → ClientId → ServerId → ℕ → ℕ → Promise
NoneIsQuiesced k c s gap d past x =
    longest k gap d ≤ k.quiesce → (op : ℕ) (ask : Ask) → ask_of past x c op ≡ Some ask → Has (seen.Answered c op answers.Quiesced) x.seen → server_of ask ≢ s

-- What holds in every run in which a client is healthy at a server after each step.
abbrev pub InHealthyRuns : (Config → ClientId → ServerId → ℕ → ℕ → Promise) → Type 0
InHealthyRuns promise =
    (k : Config) (clients servers disks blocks form : ℕ) (es : List Event) (c : ClientId) (s : ServerId) (gap d : ℕ) →
    IsHead k clients servers disks blocks form → list_all (is_event (clients + servers)) es ≡ true →
    Throughout (IsHealthy c s gap d) [] (steps es (traced (fresh_world k clients servers disks blocks form))) →
    Throughout (promise k c s gap d) [] (steps es (traced (fresh_world k clients servers disks blocks form)))

-- The server is out of grace: none is on.
abbrev pub IsOutOfGrace : ServerId → World → Type 0
IsOutOfGrace s w = (node : ServerNode) → node_of w s ≡ Some node → is_on node.state.grace (clock_of w (nodes.Server s)) ≡ false

-- What holds in every run from a start of a client on, if the server is out of grace then, and the client is healthy at it after each step from the start
-- on. Messages that were sent before the start may come at any time, or never.
abbrev pub InRunsFromStarts : (Config → ClientId → ServerId → ℕ → ℕ → Promise) → Type 0
InRunsFromStarts promise =
    (k : Config) (clients servers disks blocks form : ℕ) (earlier es : List Event) (c : ClientId) (s : ServerId) (gap d : ℕ) →
    IsHead k clients servers disks blocks form → list_all (is_event (clients + servers)) earlier ≡ true → list_all (is_event (clients + servers)) es ≡ true →
    IsOutOfGrace s (left_by (traced (fresh_world k clients servers disks blocks form))
    (steps earlier (traced (fresh_world k clients servers disks blocks form)))).world →
    Throughout (IsHealthy c s gap d) [] (steps (events.Start (nodes.Client c) ∷ es)
    (left_by (traced (fresh_world k clients servers disks blocks form)) (steps earlier (traced (fresh_world k clients servers disks blocks form))))) →
    Throughout (promise k c s gap d) (steps earlier (traced (fresh_world k clients servers disks blocks form))) (steps (events.Start (nodes.Client c) ∷ es)
    (left_by (traced (fresh_world k clients servers disks blocks form)) (steps earlier (traced (fresh_world k clients servers disks blocks form)))))

-- At most this many releases of the client wait to be sent to the server.
abbrev pub FewWait : ClientId → ServerId → ℕ → World → Type 0
FewWait c s most w =
    (site : WorldClient) (a : Association) (z : ClientSession) → site_of w c ≡ Some site → Has a site.node.state.associations → a.server ≡ s →
    a.session ≡ Some z → length z.releases ≤ most

-- After a step the client runs, and ticked in time. The server runs. The messages between them came in time by both clocks, and few releases wait. That
-- the server doesn't suspect the client isn't among these.
pub record IsPrompt (c : ClientId) (s : ServerId) (gap d delay most : ℕ) (past : List Step) (x : Step) : Type 0 where
  pub site : WorldClient
  pub there : site_of x.after.world c ≡ Some site
  pub runs : site.node.running ≡ true
  pub node : ServerNode
  pub is : node_of x.after.world s ≡ Some node
  pub up : node.running ≡ true
  pub ticks : client_clock c x.after.world ≤ client_last_tick c 0 (past ++ x ∷ []) + gap
  pub come : ComeInTime (client_clock c) c s d past x
  pub come_by_server : ComeInTime (server_clock s) c s delay past x
  pub few : FewWait c s most x.after.world

-- Healthy clients aren't suspected.
abbrev pub HealthyClientsAreNotSuspected : ClientId → ServerId → Promise
HealthyClientsAreNotSuspected c s past x = (node : ServerNode) → node_of x.after.world s ≡ Some node → may_ack node.state.authority c ≡ true

-- What holds in every run in which a client is prompt at a server after each step. A lease that is younger than the bound must not be over. The releases
-- that wait and one request before them must take less than the demand time, by the server's clock.
abbrev pub InPromptRuns : (ClientId → ServerId → Promise) → Type 0
InPromptRuns promise =
    (k : Config) (clients servers disks blocks form : ℕ) (es : List Event) (c : ClientId) (s : ServerId) (gap d delay most : ℕ) →
    IsHead k clients servers disks blocks form → list_all (is_event (clients + servers)) es ≡ true → longest k gap d ≤ k.lease →
    2 * delay * (most + 1) < k.demand →
    Throughout (IsPrompt c s gap d delay most) [] (steps es (traced (fresh_world k clients servers disks blocks form))) →
    Throughout (promise c s) [] (steps es (traced (fresh_world k clients servers disks blocks form)))
