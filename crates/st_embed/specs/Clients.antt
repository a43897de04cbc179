-- A client inside another program: what it holds, and what its calls make of it.
use Rattle.std.specs.Prelude.{◌≡◌, ◌≢◌, ◌<◌, ◌≤◌, ◌-◌, ◌^◌, ℕ, Bool, true, false, ◌==◌, ◌&&◌, ◌||◌, not, nat_le, nat_lt, if◌then◌else◌, List, [], length, map, Ok, Err, IsOk}
use Rattle.std.specs.List.{list_all}
use Rattle.st_base.specs.declared.config.Config.{Config}
use Rattle.st_base.specs.Config.{check}
use Rattle.st_base.specs.declared.ids.ClientId.{ClientId}
use Rattle.st_base.specs.declared.ids.Life.{Life}
use Rattle.st_base.specs.declared.ids.Stamp.{Stamp}
use Rattle.st_client.specs.Nodes.{crashed_node, is_begun}
use Rattle.st_client.specs.Room.{HasRoom}
use Rattle.st_messages.specs.declared.message.Message.{Message}
use Rattle.st_messages.specs.declared.output.Output.{Output}
use Rattle.st_node.specs.Runs.{handle}
use Rattle.st_node.specs.declared.node.Node.TheVariants.{Client}
use Rattle.st_rules.specs.Client.{ClientNode, crash_node, fresh_node, start_node}
use Rattle.st_rules.specs.ClientState.{ClientState}
use Rattle.st_embed.specs.Checks.{is_in_time}
use Rattle.st_host_frames.specs.Frame.{received}
use Rattle.st_embed.specs.Lives.{four_lives, same_lives}
use Rattle.st_embed.specs.StepOutputs.{client_outputs}
use Rattle.st_embed.specs.declared.fault.OpenFault.{OpenFault}
use Rattle.st_embed.specs.declared.fault.OpenFault.TheVariants as opening
use Rattle.st_embed.specs.declared.fault.StepRefusal.{StepRefusal}
use Rattle.st_embed.specs.declared.fault.StepRefusal.TheVariants as refusals

-- a client, the bytes of its frames that must still be taken out, the outputs of its last step, and the moment of that
pub record EmbeddedClient : Type 0 where
  pub node : ClientNode
  pub left : List ℕ
  pub outputs : List Output
  pub last : Stamp

-- Opening.

-- a life of a client that was never started
abbrev pub is_none : ℕ → Bool
is_none life = life == 0

abbrev pub life : ℕ → Life
life n = record { 0 = n }

-- A client that runs: in life 1 at each server if it was never started, and otherwise in the lives after these.
abbrev pub begun : ClientId → Config → List ℕ → ClientNode
begun id k lives = if list_all is_none lives then fresh_node id k (length lives) else start_node (crashed_node id k (map life lives))

-- it holds no bytes
abbrev pub opened : ClientId → Config → List ℕ → EmbeddedClient
opened id k lives = record { node = begun id k lives; left = []; outputs = []; last = record { 0 = 0 } }

-- a life that may be kept: one that began, and after which another may begin in which steps are taken
abbrev pub is_kept : ℕ → Bool
is_kept n = is_begun (life n) && nat_lt n (2 ^ 62 - 1)

-- the number of a client
abbrev pub is_client : ClientId → Bool
is_client id = nat_le 1 id.0 && nat_le id.0 16

-- the lives of a client: it was never started, or each one may be kept
abbrev pub are_lives : List ℕ → Bool
are_lives lives = list_all is_none lives || list_all is_kept lives

-- a client that may be opened
pub record MayOpen (id : ClientId) (k : Config) (lives : List ℕ) : Type 0 where
  pub checked : IsOk (check k)
  pub number : is_client id ≡ true
  pub servers : length lives ≤ 4
  pub lives_so : are_lives lives ≡ true

-- why it is not opened, in the order of the checks; memory may run out for any client that may be opened
abbrev pub NotOpened : ClientId → Config → List ℕ → OpenFault → Type 0
NotOpened id k lives (opening.Settings r) = check k ≡ Err r
NotOpened id k lives opening.Number = IsOk (check k) × (is_client id ≡ false)
NotOpened id k lives opening.Servers = IsOk (check k) × (is_client id ≡ true) × (4 < length lives)
NotOpened id k lives opening.Lives = IsOk (check k) × (is_client id ≡ true) × (length lives ≤ 4) × (are_lives lives ≡ false)
NotOpened id k lives opening.Memory = MayOpen id k lives

-- Steps.

-- a step with this message may be taken
pub record MayStep (old : EmbeddedClient) (now : Stamp) (frame : List ℕ) (message : Message) : Type 0 where
  pub received_so : received frame ≡ Ok message
  pub runs : old.node.running ≡ true
  pub taken : old.left ≡ []
  pub in_time : is_in_time old.last now ≡ true
  pub room : HasRoom old.node.state

-- A step: the node that runs handles the message of the frame as a node over a stream does, and the bytes that it writes then must be taken out. None were left
-- before.
pub record Steps (old new : EmbeddedClient) (now : Stamp) (frame : List ℕ) : Type 0 where
  pub message : Message
  pub received_so : received frame ≡ Ok message
  pub runs : old.node.running ≡ true
  pub taken : old.left ≡ []
  pub in_time : is_in_time old.last now ≡ true
  pub node : Client new.node ≡ (handle (Client old.node) now message).node
  pub left : new.left ≡ (handle (Client old.node) now message).out
  pub outputs : new.outputs ≡ client_outputs old.node now message
  pub last : new.last ≡ now

-- Why there is no step, in the order of the checks. Memory may run out for a client that runs; then, if the step may be taken, the node crashes.
abbrev pub Refuses : EmbeddedClient → EmbeddedClient → Stamp → List ℕ → StepRefusal → Type 0
Refuses old new now frame refusals.Crashed = (old.node.running ≡ false) × (new ≡ old)
Refuses old new now frame refusals.Untaken = (old.node.running ≡ true) × (old.left ≢ []) × (new ≡ old)
Refuses old new now frame refusals.Time = (old.node.running ≡ true) × (old.left ≡ []) × (is_in_time old.last now ≡ false) × (new ≡ old)
Refuses old new now frame (refusals.Frame f) = (old.node.running ≡ true) × (old.left ≡ []) × (is_in_time old.last now ≡ true) × (received frame ≡ Err f) × (new ≡ old)
Refuses old new now frame refusals.Full = (old.node.running ≡ true) × (old.left ≡ []) × (is_in_time old.last now ≡ true) × IsOk (received frame) × (HasRoom old.node.state → ⊥) × (new ≡ old)
Refuses old new now frame refusals.Memory = (old.node.running ≡ true) × (new ≡ old)
Refuses old new now frame refusals.Starved = ((m : Message) × MayStep old now frame m) × (new ≡ record { node = crash_node old.node; left = []; outputs = []; last = now })

-- A life at one of the servers has changed.
abbrev pub has_new_life : ClientState → ClientState → Bool
has_new_life old new = not (same_lives (four_lives old) (four_lives new))
