-- Inputs of nodes, by their places.
use Rattle.std.proofs.Common.{◌≡◌, ℕ, zero, suc, ◌+◌, ◌<◌, Bool, true, false, List, [], ◌∷◌, length, refl, sym, ap, ◌∙◌, arith}
use Rattle.std.specs.Prelude.{slice_get, Option, Some, None, Result, OnOk}
use Rattle.st_base.specs.declared.ids.ClientId.{ClientId}
use Rattle.st_base.specs.declared.ids.ServerId.{ServerId}
use Rattle.st_messages.specs.declared.ask.Ask.{Ask}
use Rattle.st_rules.specs.declared.client.ClientInput.{ClientInput}
use Rattle.st_rules.specs.declared.client.ClientInput.TheVariants as inputs
use Rattle.st_rules.specs.declared.input.ServerInput.{ServerInput}
use Rattle.st_rules.specs.declared.world.IssuedCommand.{IssuedCommand}
use Rattle.st_rules.specs.Server.{ServerNode}
use Rattle.st_rules.specs.Events.{WorldTurn, asked_once_more, asks_at, at_client, at_server, client_takes, quiet, server_takes, tells_client, tells_site}
use Rattle.st_rules.specs.World.{WorldClient, World, node_runs, site_runs}

within : {A : Type 0} (xs : List A) (i : ℕ) → i < length xs → slice_get xs i ≡ None → ⊥
within [] i h e = absurd (omega arith)
within (x ∷ xs) zero h e = absurd (cc)
within (x ∷ xs) (suc i) h e = within xs i (omega (arith, h)) e

-- nothing takes an input if there is no client
pub client_none : (w : World) (c : ClientId) (input : ClientInput) (o : Option WorldClient) → o ≡ None → quiet w ≡ at_client w c input o
unfolding at_client
client_none w c input None h = refl
client_none w c input (Some site) h = absurd (cc)

-- nothing takes an input if there is no server
pub server_none : (w : World) (s : ServerId) (input : ServerInput) (o : Option ServerNode) → o ≡ None → quiet w ≡ at_server w s input o
unfolding at_server
server_none w s input None h = refl
server_none w s input (Some node) h = absurd (cc)

-- the server at a place takes an input
pub server_some : {E : Type 0} (w : World) (s : ServerId) (i : ℕ) (input : ServerInput) (o : Option ServerNode) (r : Result Unit E) (new : WorldTurn) → i < length w.servers → slice_get w.servers i ≡ o →
    ((node : ServerNode) → slice_get w.servers i ≡ Some node → OnOk r (new ≡ server_takes w s input node)) → OnOk r (new ≡ at_server w s input o)
unfolding at_server
server_some w s i input None r new low e h = absurd (within w.servers i low e)
server_some w s i input (Some node) r new low e h = h node e

-- no client is told
pub tells_none : (w : World) (k : ℕ) (ok : Bool) (c : IssuedCommand) (o : Option WorldClient) → o ≡ None → quiet w ≡ tells_client w k ok c o
unfolding tells_client
tells_none w k ok c None h = refl
tells_none w k ok c (Some site) h = absurd (cc)

-- the client at a place is told
pub tells_some : {E : Type 0} (w : World) (k : ℕ) (ok : Bool) (c : IssuedCommand) (i : ℕ) (o : Option WorldClient) (r : Result Unit E) (new : WorldTurn) → i < length w.clients → slice_get w.clients i ≡ o →
    ((site : WorldClient) → slice_get w.clients i ≡ Some site → OnOk r (new ≡ tells_site w k ok c site)) → OnOk r (new ≡ tells_client w k ok c o)
unfolding tells_client
tells_some w k ok c i None r new low e h = absurd (within w.clients i low e)
tells_some w k ok c i (Some site) r new low e h = h site e

-- no client is asked
pub asks_none : (w : World) (c : ClientId) (ask : Ask) (o : Option WorldClient) → o ≡ None → quiet w ≡ asks_at w c ask o
unfolding asks_at
asks_none w c ask None h = refl
asks_none w c ask (Some site) h = absurd (cc)

-- the client at a place, which runs, is asked
pub asks_some : {E : Type 0} (w : World) (c : ClientId) (ask : Ask) (i : ℕ) (o : Option WorldClient) (r : Result Unit E) (new : WorldTurn) → i < length w.clients → slice_get w.clients i ≡ o → site_runs o ≡ true →
    ((site : WorldClient) → slice_get w.clients i ≡ Some site → site.node.running ≡ true → OnOk r (new ≡ client_takes w c (inputs.App (site.asks + 1) ask) (asked_once_more site))) → OnOk r (new ≡ asks_at w c ask o)
unfolding asks_at
asks_some w c ask i None r new low e runs h = absurd (within w.clients i low e)
asks_some w c ask i (Some site) r new low e runs h = h site e runs

-- a client that does not run, where it is
pub site_stopped : (o : Option WorldClient) (site : WorldClient) → site_runs o ≡ false → o ≡ Some site → site.node.running ≡ false
site_stopped None site h e = absurd (cc)
site_stopped (Some x) site h e = sym (ap site_runs e) ∙ h

-- a server that does not run, where it is
pub node_stopped : (o : Option ServerNode) (node : ServerNode) → node_runs o ≡ false → o ≡ Some node → node.running ≡ false
node_stopped None node h e = absurd (cc)
node_stopped (Some x) node h e = sym (ap node_runs e) ∙ h
