-- What the calls do to a node that may be absent: what the library's calls do to the one that is there.
use Rattle.std.specs.Prelude.{◌≡◌, ℕ, List, Option, Some, None}
use Rattle.st_base.specs.declared.config.Config.{Config}
use Rattle.st_base.specs.declared.ids.ClientId.{ClientId}
use Rattle.st_base.specs.declared.ids.ServerId.{ServerId}
use Rattle.st_base.specs.declared.ids.Stamp.{Stamp}
use Rattle.st_rules.specs.Client.{has_dirty_with, lease_end_with, phase_with}
use Rattle.st_rules.specs.World.{life_with}
use Rattle.st_embed.specs.Clients.{EmbeddedClient, MayOpen, NotOpened, Refuses, Steps, has_new_life, opened}
use Rattle.st_embed.specs.FramePieces.{Takes}
use Rattle.st_embed.specs.declared.fault.OpenFault.{OpenFault}
use Rattle.st_embed.specs.declared.fault.StepRefusal.{StepRefusal}
use Rattle.tank_c.specs.Codes as codes
use Rattle.tank_c.specs.declared.client_calls.TankAssociation.{TankAssociation}
use Rattle.tank_c.specs.declared.client_calls.TankClientStepped.{TankClientStepped}
use Rattle.tank_c.specs.declared.client_calls.TankSettings.{TankSettings}

abbrev pub settings_of : TankSettings → Config
settings_of s = record { lease = s.lease; renew = s.renew; quiesce = s.quiesce; flush = s.flush; demand = s.demand; retry = s.retry; num = s.num; den = s.den; grain = s.grain }

abbrev pub client_id : ℕ → ClientId
client_id n = record { 0 = n }

abbrev pub server_id : ℕ → ServerId
server_id n = record { 0 = n }

abbrev pub stamp : ℕ → Stamp
stamp n = record { 0 = n }

-- why a client is not opened: the handle is open, and stays as it is; or as the library says
pub record NotOpenedFor (id : ℕ) (s : TankSettings) (lives : List ℕ) (code : ℕ) : Type 0 where
  pub fault : OpenFault
  pub told : code ≡ codes.of_open fault
  pub why : NotOpened (client_id id) (settings_of s) lives fault

abbrev pub NoClientOpened : Option EmbeddedClient → Option EmbeddedClient → ℕ → TankSettings → List ℕ → ℕ → Type 0
NoClientOpened None new id s lives code = (new ≡ None) × NotOpenedFor id s lives code
NoClientOpened (Some c) new id s lives code = (new ≡ Some c) × (code ≡ codes.BUSY)

-- a client that may be opened is opened
abbrev pub ClientOpens : Option EmbeddedClient → Option EmbeddedClient → ℕ → TankSettings → List ℕ → Type 0
ClientOpens None new id s lives = MayOpen (client_id id) (settings_of s) lives × (new ≡ Some (opened (client_id id) (settings_of s) lives))
ClientOpens (Some c) new id s lives = ⊥

-- what a step tells: a place, and whether there are new lives
abbrev pub client_told : ℕ → ℕ → TankClientStepped
client_told at new_lives = record { at = at; new_lives = new_lives }

-- a step is taken
abbrev pub ClientSteps : Option EmbeddedClient → Option EmbeddedClient → ℕ → List ℕ → TankClientStepped → Type 0
ClientSteps (Some c) (Some d) now frame o = Steps c d (stamp now) frame × (o ≡ client_told 0 (codes.flag (has_new_life c.node.state d.node.state)))
ClientSteps c d now frame o = ⊥

-- no step is taken, for a reason that the library tells
pub record RefusesFor (old new : EmbeddedClient) (now : ℕ) (frame : List ℕ) (code : ℕ) (o : TankClientStepped) : Type 0 where
  pub refusal : StepRefusal
  pub told : code ≡ codes.of_step refusal
  pub place : o ≡ client_told (codes.place_of_step refusal) 0
  pub why : Refuses old new (stamp now) frame refusal

abbrev pub NoClientStep : Option EmbeddedClient → Option EmbeddedClient → ℕ → List ℕ → ℕ → TankClientStepped → Type 0
NoClientStep (Some c) (Some d) now frame code o = RefusesFor c d now frame code o
NoClientStep None None now frame code o = (code ≡ codes.ABSENT) × (o ≡ client_told 0 0)
NoClientStep c d now frame code o = ⊥

-- bytes are taken out, and nothing else changes
pub record TakesFrom (old new : EmbeddedClient) (before after : List ℕ) (count : ℕ) : Type 0 where
  pub takes : Takes old.left new.left before after count
  pub node : new.node ≡ old.node
  pub last : new.last ≡ old.last

abbrev pub ClientTakes : Option EmbeddedClient → Option EmbeddedClient → List ℕ → List ℕ → ℕ → Type 0
ClientTakes (Some c) (Some d) before after count = TakesFrom c d before after count
ClientTakes c d before after count = ⊥

-- the number of why no bytes are taken out of a client
abbrev pub client_not_taken : Option EmbeddedClient → ℕ
client_not_taken None = codes.ABSENT
client_not_taken (Some c) = codes.NO_MEMORY

-- what a client has at a server
abbrev pub association_of : EmbeddedClient → ℕ → ℕ → TankAssociation
association_of c server now = record {
  life = (life_with c.node.state (server_id server)).0;
  lease_end = codes.end_held (lease_end_with c.node.state (server_id server));
  phase = codes.of_phase_held (phase_with c.node.state (server_id server) (stamp now));
  dirty = codes.flag (has_dirty_with c.node.state (server_id server));
}

-- it is returned about a client that is there
abbrev pub TellsOf : Option EmbeddedClient → ℕ → ℕ → TankAssociation → Type 0
TellsOf None server now a = ⊥
TellsOf (Some c) server now a = a ≡ association_of c server now
