-- Frames that are taken out in pieces.
use Rattle.std.specs.Prelude.{◌≡◌, ℕ, Bool, if◌then◌else◌, List, [], length, take, drop, min, Option, Some, None}
use Rattle.std.specs.List.{list_all, flat_map}
use Rattle.st_client.specs.Inputs as client
use Rattle.st_messages.specs.declared.output.Output.{Output}
use Rattle.st_node.specs.Runs.{client_frame, server_frame}
use Rattle.st_server.specs.Invariants as server
use Rattle.st_embed.specs.declared.outbox.Sender.{Sender}
use Rattle.st_embed.specs.declared.outbox.Sender.TheVariants.{Client, Server}
use Rattle.st_embed.specs.declared.pending_frames.StepOutputs.{StepOutputs}

-- The first bytes of those that were left, as many as there is room for, come first if they were put, and the others are left.
pub record Takes (old new before now : List ℕ) (count : ℕ) : Type 0 where
  pub all : count ≡ min (length before) (length old)
  pub first : take count now ≡ take count old
  pub behind : drop count now ≡ drop count before
  pub left : new ≡ drop count old

-- the frames of a node's outputs, in order
abbrev pub frames_of : Sender → List Output → List ℕ
frames_of (Client id) out = flat_map (client_frame id) out
frames_of Server out = flat_map server_frame out

-- these outputs can be spelled
abbrev pub are_sent : Sender → List Output → Bool
are_sent (Client id) out = list_all client.is_sent out
are_sent Server out = list_all server.is_sent out

-- what is left of a step: bytes of its frames, and its outputs
pub record StepGives : Type 0 where
  pub left : List ℕ
  pub outputs : List Output

-- the bytes that are left: of outputs that are not spelled yet, or of those that are ready
abbrev pub left_of : List ℕ → Option StepOutputs → List ℕ
left_of ready None = ready
left_of ready (Some u) = if u.spelled then ready else frames_of u.sender u.outputs

-- the frames are spelled: what is left are the bytes that are ready
abbrev pub AreReady : Option StepOutputs → Type 0
AreReady given = (ready : List ℕ) → left_of ready given ≡ ready

-- the outputs of the last step
abbrev pub outputs_of : Option StepOutputs → List Output
outputs_of None = []
outputs_of (Some u) = u.outputs
