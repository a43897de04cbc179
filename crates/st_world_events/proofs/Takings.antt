-- Steps of the node at a place.
use Rattle.st_lemmas.proofs.Lengths.{set_same}
use Rattle.std.proofs.Common.{◌≡◌, ℕ, zero, suc, ◌<◌, List, [], ◌∷◌, length, set, refl, ap, subst, ◌∙◌, arith}
use Rattle.std.specs.Prelude.{slice_get, Some, Result, Ok, Err}
use Rattle.st_base.specs.declared.ids.Stamp.{Stamp}
use Rattle.st_messages.specs.declared.output.Output.{Output}
use Rattle.st_messages.specs.declared.output.StepFault.{StepFault}
use Rattle.st_messages.specs.declared.output.StepFault.TheVariants.{Memory, Crashed}
use Rattle.st_rules.specs.declared.client.ClientInput.{ClientInput}
use Rattle.st_rules.specs.declared.input.ServerInput.{ServerInput}
use Rattle.st_rules.specs.declared.node.StepRefusal.{StepRefusal}
use Rattle.st_rules.specs.Client as client
use Rattle.st_rules.specs.Server as server
use Rattle.st_rules.specs.Server.{ServerNode}
use Rattle.st_rules.specs.World.{WorldClient}
use Rattle.st_server.specs.Steps.{Steps}
use Rattle.st_world_events.specs.NodeSteps.{SiteSteps, SitesStep, ServersStep}

-- what was written at a place
pub get_set : {A : Type 0} (xs : List A) (i : ℕ) (x : A) → i < length xs → slice_get (set xs i x) i ≡ Some x
get_set [] i x h = absurd (omega arith)
get_set (y ∷ ys) zero x h = refl
get_set (y ∷ ys) (suc i) x h = get_set ys i x (omega (arith, h))

site_steps : (i : ℕ) (site new : WorldClient) (xs : List WorldClient) (result : Result (List Output) StepFault) (rule : Result client.NodeTurn StepRefusal) →
    slice_get xs i ≡ Some site → SiteSteps site new result rule → SitesStep i site xs (set xs i new) result rule
site_steps i site new xs (Ok out) rule e h = record { node = new.node; turn = h.0; clients = ap (set xs i) h.1 }
site_steps i site new xs (Err Crashed) rule e h = (h.0, ap (set xs i) h.1 ∙ set_same xs i site e)
site_steps i site new xs (Err Memory) rule e h = tt

-- a step of the client that is found at a place
pub site_steps_at : (i : ℕ) (site found new : WorldClient) (xs : List WorldClient) (result : Result (List Output) StepFault) (now : Stamp) (input : ClientInput) →
    found ≡ site → slice_get xs i ≡ Some site → SiteSteps found new result (client.node_step found.node now input) → SitesStep i site xs (set xs i new) result (client.node_step site.node now input)
site_steps_at i site found new xs result now input q e h =
    site_steps i site new xs result (client.node_step site.node now input) e (subst (λ (f : WorldClient). SiteSteps f new result (client.node_step f.node now input)) q h)

node_steps : (i : ℕ) (node new : ServerNode) (xs : List ServerNode) (result : Result (List Output) StepFault) (rule : Result server.NodeTurn StepRefusal) →
    slice_get xs i ≡ Some node → Steps node new result rule → ServersStep i xs (set xs i new) result rule
node_steps i node new xs (Ok out) rule e h = record { node = new; turn = h; servers = refl }
node_steps i node new xs (Err Crashed) rule e h = (h.0, ap (set xs i) h.1 ∙ set_same xs i node e)
node_steps i node new xs (Err Memory) rule e h = tt

-- a step of the server that is found at a place
pub node_steps_at : (i : ℕ) (node found new : ServerNode) (xs : List ServerNode) (result : Result (List Output) StepFault) (now : Stamp) (input : ServerInput) →
    found ≡ node → slice_get xs i ≡ Some node → Steps found new result (server.node_step found now input) → ServersStep i xs (set xs i new) result (server.node_step node now input)
node_steps_at i node found new xs result now input q e h =
    node_steps i node new xs result (server.node_step node now input) e (subst (λ (f : ServerNode). Steps f new result (server.node_step f now input)) q h)
