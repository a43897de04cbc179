-- A node's step: all that goes out is in the ranges of messages, and what it discards of a server whose lease is over.
use Rattle.st_lemmas.proofs.Words
use Words.{◌≡◌, ◌^◌, ◌≤◌, Bool, true, false, List, Result, Ok, Err, ap, subst, ◌∙◌, if◌then◌else◌, IfOk, list_all, ServerId, Stamp, Output, StepFault}
use Words.{ClientInput}
use Words.Tables.{cond_true}
use Words.faults
use Words.Client.{ClientNode, NodeTurn, client_step, node_step, node_turn}
use Rattle.st_client.proofs.Discards.{step_discards}
use Rattle.st_client.proofs.Sends.{step_sends}
use Rattle.st_client.specs.Losses.{Discards, IsOver}
use Rattle.st_client.specs.Inputs.{Runs, Steps, comes_fit, is_sent}
use Rattle.st_client.specs.Room.{HasRoom}
use Rattle.st_client.specs.Invariants.{IsSound}
use Rattle.st_rules.specs.declared.node.StepRefusal.TheVariants.{Crashed}

-- if a step returns outputs, it is the step of the machine
steps_ok : (P : NodeTurn → Type 0) (old new : ClientNode) (r : Result (List Output) StepFault) (now : Stamp) (input : ClientInput) → Steps old new r (node_step old now input) →
    P (node_turn old (client_step old.state now input)) → IfOk r (λ out. P (record { node = new; out = out }))
unfolding node_step
steps_ok P old new (Err e) now input s p = tt
steps_ok P old new (Ok out) now input s p = subst P (by old.running s) p
  where
    by : (b : Bool) → (if b then Ok (node_turn old (client_step old.state now input)) else Err Crashed) ≡ Ok (record { node = new; out = out }) →
        node_turn old (client_step old.state now input) ≡ record { node = new; out = out }
    by true e = cc
    by false e = cc

-- All that goes out is in the ranges of messages.
pub node_sends : (old new : ClientNode) (r : Result (List Output) StepFault) (now : Stamp) (input : ClientInput) → Steps old new r (node_step old now input) → IsSound old.state → HasRoom old.state →
    now.0 ≤ 2 ^ 62 → comes_fit input ≡ true → IfOk r (λ out. list_all is_sent out ≡ true)
node_sends old new r now input s i h time e = steps_ok (λ t. list_all is_sent t.out ≡ true) old new r now input s (step_sends old.state now input i h time e)

-- What the step discards, if it begins with the lease of a server over.
pub node_discards : (server : ServerId) (old new : ClientNode) (r : Result (List Output) StepFault) (now : Stamp) (input : ClientInput) → Steps old new r (node_step old now input) →
    IsOver server old.state now → IfOk r (λ out. Discards server old.state input new.state out)
node_discards server old new r now input s over = steps_ok (λ t. Discards server old.state input t.node.state t.out) old new r now input s (step_discards server old.state now input over)

-- a step of a node that runs is a step of a node
pub runs_steps : (old new : ClientNode) (r : Result (List Output) StepFault) (now : Stamp) (input : ClientInput) → old.running ≡ true →
    Runs old new r (node_turn old (client_step old.state now input)) → Steps old new r (node_step old now input)
unfolding node_step
runs_steps old new (Ok out) now input e h = cond_true old.running (Ok (node_turn old (client_step old.state now input))) (Err Crashed) e ∙ ap Ok h
runs_steps old new (Err faults.Crashed) now input e h = absurd h
runs_steps old new (Err faults.Memory) now input e h = h
