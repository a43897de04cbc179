-- The witness: the steps of the volume that an event of the world is, and whether the volume takes
-- them. It is a means of proof: nobody needs to trust it.
use Rattle.std.specs.Prelude.{◌≡◌, ℕ, ◌+◌, Bool, true, false, ◌&&◌, not, ◌==◌, if◌then◌else◌, List}
use Rattle.std.specs.Prelude.{[], ◌∷◌, ◌++◌, length, filter, find, Option, Some, None, is_some}
use Rattle.std.specs.Prelude.{bytes_eq, option_and_then, ⊤}
use Rattle.std.specs.List.{flat_map, list_all, list_any}
use Rattle.st_base.specs.declared.ids.ClientId.{ClientId}
use Rattle.st_base.specs.declared.ids.ServerId.{ServerId}
use Rattle.st_base.specs.declared.ids.FileId.{FileId}
use Rattle.st_base.specs.declared.ids.PageNo.{PageNo}
use Rattle.st_base.specs.declared.ids.Stamp.{Stamp}
use Rattle.st_base.specs.declared.ids.NodeId.{NodeId}
use Rattle.st_base.specs.declared.ids.NodeId.TheVariants as nodes
use Rattle.st_base.specs.declared.names.NameAsk.{NameAsk}
use Rattle.st_base.specs.declared.names.NameAsk.TheVariants as names
use Rattle.st_messages.specs.declared.ask.Ask.{Ask}
use Rattle.st_messages.specs.declared.ask.Ask.TheVariants as asks
use Rattle.st_messages.specs.declared.event.Event.{Event}
use Rattle.st_messages.specs.declared.event.Event.TheVariants as events
use Rattle.st_messages.specs.declared.message.Body.{Body}
use Rattle.st_messages.specs.declared.message.Body.TheVariants as bodies
use Rattle.st_messages.specs.declared.message.Header.{Header}
use Rattle.st_messages.specs.declared.message.Message.{Message}
use Rattle.st_messages.specs.declared.message.NameOp.{NameOp}
use Rattle.st_messages.specs.declared.message.NameOp.TheVariants as ops
use Rattle.st_rules.specs.declared.client.Operation.{Operation}
use Rattle.st_rules.specs.declared.client.Request.{Request}
use Rattle.st_rules.specs.declared.extents.Extent.{Extent}
use Rattle.st_rules.specs.declared.log.Fate.{Fate}
use Rattle.st_rules.specs.declared.log.Fate.TheVariants as old_fates
use Rattle.st_rules.specs.declared.log.LogEntry.{LogEntry}
use Rattle.st_rules.specs.declared.names.NameEntry.{NameEntry}
use Rattle.st_rules.specs.declared.observation.Observation.{Observation}
use Rattle.st_rules.specs.declared.observation.Observation.TheVariants as seen
use Rattle.st_rules.specs.declared.sessions.Taken.{Taken}
use Rattle.st_rules.specs.declared.sessions.Taken.TheVariants as takes
use Rattle.st_rules.specs.declared.world.SentMessage.{SentMessage}
use Rattle.st_rules.specs.Authority.{started}
use Rattle.st_rules.specs.ClientState.{Association, ClientSession, ClientState, is_asked}
use Rattle.st_rules.specs.Events.{counted}
use Rattle.st_rules.specs.Server as server_rules
use Rattle.st_rules.specs.Server.{ServerNode, ServerTurn, sender}
use Rattle.st_rules.specs.World.{World, WorldClient, clock_of, message_of, node_of}
use Rattle.st_rules.specs.World.{receiver_of}
use Rattle.st_rules.specs.Safety.{Promise, Step}
use Rattle.st_laws_volume.specs.Seen.{of_event, of_line, seen_of, is_seen}
use Rattle.st_laws_volume.specs.VolumeRuns.{volume_of}
use Rattle.st_volume.specs.declared.step.VolumeStep.{VolumeStep}
use Rattle.st_volume.specs.declared.step.VolumeStep.TheVariants as steps
use Rattle.st_volume.specs.declared.step.Fate as volume_fate
use Rattle.st_volume.specs.declared.step.Fate.TheVariants as fates
use Rattle.st_volume.specs.Pages.{Entry, is_any, same_place}
use Rattle.st_volume.specs.Trees.{Tree, DirEntry}
use Rattle.st_volume.specs.Volume.{Volume, Pending, is_ask, run}

-- Requests: which ask a client's request for a cut or a name is of, by the key of the request. A key
-- is a client, a server, a life, an epoch and a number.
pub record Behind : Type 0 where
  pub client : ClientId
  pub server : ServerId
  pub life : ℕ
  pub epoch : ℕ
  pub number : ℕ
  pub op : ℕ

pub record Witness : Type 0 where
  pub volume : Option Volume
  pub behind : List Behind

-- The witness at the start: the volume of the world, and no request
unfoldable pub begun : World → World → Witness
begun w again =
    record { volume = Some (volume_of w); behind = [] }

-- the world before the first of these steps
abbrev pub first_world : List Step → Step → World
first_world [] x = x.before.world
first_world (y ∷ past) x = y.before.world

-- the operation that waits for the reply to the outstanding request of a client at a server
abbrev pub key_of : ClientState → Association → ClientSession → Request → Operation → Behind
key_of c a x q o =
    record {
      client = c.id;
      server = a.server;
      life = a.life.0;
      epoch = x.epoch.0;
      number = q.number;
      op = o.op;
    }

abbrev pub asked_in :
    ClientState → Association → ClientSession → Option Request → Option Operation → List Behind
asked_in c a x (Some q) (Some o) = key_of c a x q o ∷ []
asked_in c a x (Some q) None = []
asked_in c a x None o = []

abbrev pub waiting_in : ClientState → Association → Option ClientSession → List Behind
waiting_in c a None = []
waiting_in c a (Some x) = asked_in c a x x.requests.asked (find (is_asked a.server) c.operations)

abbrev pub waiting_at : ClientState → Association → List Behind
waiting_at c a = waiting_in c a a.session

abbrev pub waiting_of : WorldClient → List Behind
waiting_of site = flat_map (waiting_at site.node.state) site.node.state.associations

-- all operations that wait so
unfoldable pub waiting : World → List Behind
waiting w = flat_map waiting_of w.clients

-- The steps of an event.

-- a server serves a request: it belongs to its client's session, is next, and has the server's epoch
abbrev pub is_fresh : Taken Body → Bool
is_fresh takes.Fresh = true
is_fresh taken = false

abbrev pub is_in_turn : ServerTurn → Header → Bool
is_in_turn t h =
    (h.epoch == t.state.stable.epoch.0) && is_fresh (server_rules.take t h)

abbrev pub serves : ServerTurn → Header → Bool
serves t h =
    (server_rules.is_for t.state h && not (is_some (started t.state.authority (sender h))))
    && is_in_turn t h

-- and does what is requested: so its reply says
abbrev pub is_done_as : Body → Option Body → Bool
is_done_as (bodies.Cut ino g from) (Some bodies.Ack) = true
is_done_as (bodies.Name op) (Some (bodies.Named reply)) = true
is_done_as body reply = false

abbrev pub does : ServerTurn → Stamp → Message → Bool
does t now m =
    serves t m.header
    && is_done_as m.body (server_rules.rule t now m.header m.body).reply

-- the server as it takes the message, after its thefts
abbrev pub now_at : World → ServerId → Stamp
now_at w s = clock_of (counted w) (nodes.Server s)

abbrev pub turn_of : ServerNode → Stamp → ServerTurn
turn_of node now = server_rules.thefts (server_rules.turn node.state []) now

abbrev pub does_at : World → ServerId → Option ServerNode → Message → Bool
does_at w s None m = false
does_at w s (Some node) m =
    node.running && does (turn_of node (now_at w s)) (now_at w s) m

-- the request of an ask: a remove of a file names a grant, and that of a directory none
abbrev pub same_text : ℕ → List ℕ → ℕ → List ℕ → Bool
same_text dir name dir2 name2 = (dir == dir2) && bytes_eq name name2

abbrev pub is_name_for : NameAsk → NameOp → Bool
is_name_for (names.Lookup dir name) (ops.Lookup d n) = same_text dir name d n
is_name_for (names.Create dir name) (ops.Create d n) = same_text dir name d n
is_name_for (names.Mkdir dir name) (ops.Mkdir d n) = same_text dir name d n
is_name_for (names.Remove dir name ino) (ops.Remove d n g) =
    same_text dir name d n && (if ino == 0 then g.0 == 0 else not (g.0 == 0))
is_name_for (names.Rename dir name dir2 name2) (ops.Rename d n d2 n2) =
    same_text dir name d n && same_text dir2 name2 d2 n2
is_name_for (names.List dir after) (ops.List d a) = same_text dir after d a
is_name_for ask op = false

abbrev pub is_request_for : ServerId → Body → Ask → Bool
is_request_for s (bodies.Cut ino g from) (asks.Cut f p) =
    (f.server.0 == s.0) && ((f.ino == ino) && (p.0 == from.0))
is_request_for s (bodies.Name op) (asks.Name r ask) = (r.0 == s.0) && is_name_for ask op
is_request_for s body ask = false

-- the ask that led to a request takes effect; if there is none, a number that no ask has
abbrev pub is_behind : ServerId → Header → Behind → Bool
is_behind s h b =
    ((b.client.0 == h.from) && (b.server.0 == s.0))
    && ((b.life == h.life) && ((b.epoch == h.epoch) && (b.number == h.number)))

unfoldable pub above_all : List Pending → ℕ
above_all [] = 0
above_all (a ∷ rest) = a.op + 1 + above_all rest

abbrev pub is_there : Volume → ServerId → Message → ℕ → Bool
is_there v s m op =
    is_any (λ a. is_request_for s m.body a.ask)
    (find (is_ask (sender m.header) op) (v.pending ++ v.orphans))

abbrev pub op_of : Volume → ServerId → Message → Option Behind → ℕ
op_of v s m None = above_all (v.pending ++ v.orphans)
op_of v s m (Some b) = if is_there v s m b.op then b.op else above_all (v.pending ++ v.orphans)

abbrev pub takes_op : List Behind → Volume → ServerId → Message → VolumeStep
takes_op bs v s m =
    steps.TakesEffect (sender m.header) (op_of v s m (find (is_behind s m.header) bs))

abbrev pub of_request : List Behind → Volume → World → ServerId → Message → List VolumeStep
of_request bs v w s m = if does_at w s (node_of w s) m then takes_op bs v s m ∷ [] else []

abbrev pub to_node : List Behind → Volume → World → Message → NodeId → List VolumeStep
to_node bs v w m (nodes.Server s) = of_request bs v w s m
to_node bs v w m (nodes.Client c) = []

abbrev pub of_message : List Behind → Volume → World → Option SentMessage → List VolumeStep
of_message bs v w None = []
of_message bs v w (Some m) = to_node bs v w m.message (receiver_of m)

abbrev pub of_delivery : List Behind → Volume → World → Event → List VolumeStep
of_delivery bs v w (events.Deliver k) = of_message bs v w (message_of w k)
of_delivery bs v w e = []

-- a write or a patch takes effect before its line, and its answer is the next line
abbrev pub next_op : List Observation → ℕ
next_op (seen.Answered c op answer ∷ os) = op
next_op os = 0

unfoldable pub before_line : Observation → List Observation → List VolumeStep
before_line (seen.Wrote i c f p bytes) os = steps.TakesEffect c (next_op os) ∷ []
before_line (seen.Patched i c f p at bytes) os = steps.TakesEffect c (next_op os) ∷ []
before_line o os = []

unfoldable pub of_lines : World → List Observation → List VolumeStep
of_lines w [] = []
of_lines w (o ∷ os) = before_line o os ++ (of_line w o ++ of_lines w os)

-- all of an event: what the event is; what a server does with the request that it delivers; and its
-- lines
abbrev pub steps_of : Witness → Volume → Step → List VolumeStep
steps_of t v x =
    of_event x.before.world x.event
    ++ (of_delivery t.behind v x.before.world x.event ++ of_lines x.before.world x.seen)

-- each entry that has joined the log has had its line
abbrev pub if_told : Volume → Option Volume
if_told v = if v.lines == length v.log then Some v else None

abbrev pub volume_after : Witness → Step → Option Volume → Option Volume
volume_after t x None = None
volume_after t x (Some v) = option_and_then if_told (run (steps_of t v x) v)

-- the witness after a step
unfoldable pub led_by : Witness → Step → Witness
led_by t x =
    record {
      volume = volume_after t x t.volume;
      behind = waiting x.after.world ++ t.behind;
    }

unfoldable pub led_from : Witness → List Step → Witness
led_from t [] = t
led_from t (x ∷ xs) = led_from (led_by t x) xs

-- the witness before a step
abbrev pub led_to : List Step → Step → Witness
led_to past x = led_from (begun (first_world past x) (first_world past x)) past

-- Accepted: the volume takes the steps of each event, and each entry that joins its log has its line
-- in that event; and what is seen of these steps is what is seen of the event.
abbrev pub shows : Witness → Step → Option Volume → Type 0
shows t x None = ⊥
shows t x (Some v) = filter is_seen (steps_of t v x) ≡ seen_of x

abbrev pub IsAccepted : Witness → Step → Type 0
IsAccepted t x = shows t x t.volume × (is_some (volume_after t x t.volume) ≡ true)

abbrev pub Accepted : Promise
Accepted past x = IsAccepted (led_to past x) x

-- Agreed: the volume is the view of the world.
abbrev pub is_fate : Fate → volume_fate.Fate → Bool
is_fate old_fates.Pending fates.Open = true
is_fate old_fates.Hard fates.Hard = true
is_fate (old_fates.Gone cause) fates.Dropped = true
is_fate old new = false

unfoldable pub is_log : List LogEntry → List Entry → Bool
is_log [] [] = true
is_log [] (e ∷ es) = false
is_log (o ∷ os) [] = false
is_log (o ∷ os) (e ∷ es) = is_fate o.fate e.fate && is_log os es

abbrev pub is_entry : NameEntry → DirEntry → Bool
is_entry a b =
    ((a.dir == b.dir) && (a.ino == b.ino))
    && (bytes_eq a.name b.name && (if a.directory then b.directory else not b.directory))

unfoldable pub are_entries : List NameEntry → List DirEntry → Bool
are_entries [] [] = true
are_entries [] (e ∷ es) = false
are_entries (o ∷ os) [] = false
are_entries (o ∷ os) (e ∷ es) = is_entry o e && are_entries os es

abbrev pub is_tree : ServerNode → Tree → Bool
is_tree n t =
    are_entries n.state.stable.names.entries t.entries
    && ((n.state.stable.names.next == t.next) && (n.state.stable.names.limit == t.limit))

unfoldable pub are_trees : List ServerNode → List Tree → Bool
are_trees [] [] = true
are_trees [] (t ∷ ts) = false
are_trees (n ∷ ns) [] = false
are_trees (n ∷ ns) (t ∷ ts) = is_tree n t && are_trees ns ts

-- the open asks are the pending operations, in their order
abbrev pub is_pending_of : WorldClient → Pending → Bool
is_pending_of site a = a.client.0 == site.node.state.id.0

unfoldable pub are_operations : List Operation → List Pending → Bool
are_operations [] [] = true
are_operations [] (a ∷ rest) = false
are_operations (o ∷ os) [] = false
are_operations (o ∷ os) (a ∷ rest) = (o.op == a.op) && are_operations os rest

abbrev pub is_pending : Volume → WorldClient → Bool
is_pending v site =
    are_operations site.node.state.operations (filter (is_pending_of site) v.pending)

abbrev pub is_view : World → Option Volume → Bool
is_view w None = false
is_view w (Some v) =
    is_log w.log v.log && (are_trees w.servers v.trees && list_all (is_pending v) w.clients)

abbrev pub Agreed : Promise
Agreed past x = is_view x.after.world (led_by (led_to past x) x).volume ≡ true

-- Roomy: what servers have mapped is what room was wanted for.
abbrev pub is_claimed : List (FileId × PageNo) → Extent → Bool
is_claimed claims e = list_any (same_place (e.file, e.page)) claims

abbrev pub are_claimed : List (FileId × PageNo) → ServerNode → Bool
are_claimed claims node = list_all (is_claimed claims) node.state.stable.extents.rows

abbrev pub has_claims : World → Option Volume → Bool
has_claims w None = false
has_claims w (Some v) = list_all (are_claimed v.claims) w.servers

abbrev pub Roomy : Promise
Roomy past x = has_claims x.after.world (led_by (led_to past x) x).volume ≡ true

-- opens all of this file
unfoldable pub witness_open : ⊤
unfolding begun waiting above_all before_line of_lines led_by led_from is_log are_entries are_trees
    are_operations
witness_open = tt
