-- What the rule for a message adds to the outputs of a server.
use Rattle.std.specs.Prelude.{◌≡◌, ◌≤◌, ℕ, ◌+◌, Bool, true, ◌&&◌, ◌==◌, List, [], ◌∷◌, ◌++◌}
use Rattle.std.specs.List.{list_all}
use Rattle.st_base.specs.declared.ids.Stamp.{Stamp}
use Rattle.st_messages.specs.declared.message.Body.{Body}
use Rattle.st_messages.specs.declared.message.Body.TheVariants as bodies
use Rattle.st_messages.specs.declared.message.Message.{Message}
use Rattle.st_messages.specs.declared.output.Output.{Output}
use Rattle.st_messages.specs.declared.output.Output.TheVariants as outputs
use Rattle.st_rules.specs.declared.input.ServerInput.TheVariants.{Control}
use Rattle.st_rules.specs.Server.{ServerState, turn, thefts, take_input}
use Rattle.st_server.specs.Invariants.{may_keep}

-- how many messages are among the outputs
abbrev pub sends : List Output → ℕ
sends [] = 0
sends (outputs.Send m ∷ os) = sends os + 1
sends (o ∷ os) = sends os

-- the body is an answer to a client: a welcome, or a reply of a kind that may be kept; a demand is none
abbrev pub is_answer : Body → Bool
is_answer bodies.Welcome = true
is_answer b = may_keep b

-- a message is an answer to this node; other outputs may be any
abbrev pub is_answer_to : ℕ → Output → Bool
is_answer_to node (outputs.Send m) = (m.header.to == node) && is_answer m.body
is_answer_to node o = true

-- After the outputs so far come others, among them at most that many messages, each an answer to this node.
pub record Adds (node most : ℕ) (before after : List Output) : Type 0 where
  pub added : List Output
  pub is : after ≡ before ++ added
  pub few : sends added ≤ most
  pub named : list_all (is_answer_to node) added ≡ true

-- what the rule for this message adds after the thefts: at most one message, which is an answer to its sender
abbrev pub AnswersAreNamed : ServerState → Stamp → Message → Type 0
AnswersAreNamed s now m = Adds m.header.from 1 (thefts (turn s []) now).out (take_input (thefts (turn s []) now) now (Control m)).out
