-- Operations ask once: the key under which the request of an operation is outstanding.
use Rattle.std.specs.Prelude.{◌≡◌, ℕ, true, [], ◌∷◌, ◌++◌, Some}
use Rattle.st_base.specs.declared.ids.ClientId.{ClientId}
use Rattle.st_base.specs.declared.ids.ServerId.{ServerId}
use Rattle.st_rules.specs.declared.client.Operation.{Operation}
use Rattle.st_rules.specs.declared.client.Request.{Request}
use Rattle.st_rules.specs.ClientState.{Association, ClientSession, is_asked}
use Rattle.st_rules.specs.Safety.{Promise, Step}
use Rattle.st_rules.specs.World.{WorldClient, World, site_of}
use Rattle.st_lemmas.specs.Lists.{Has}

-- A client waits at a server for the reply to the request of an operation of this number, which is under this key: a life, an epoch and a number.
pub record WaitsUnder (w : World) (c : ClientId) (s : ServerId) (life epoch number op : ℕ) : Type 0 where
  pub site : WorldClient
  pub at : site_of w c ≡ Some site
  pub operation : Operation
  pub there : Has operation site.node.state.operations
  pub is : operation.op ≡ op
  pub asked : is_asked s operation ≡ true
  pub association : Association
  pub among : Has association site.node.state.associations
  pub server : association.server ≡ s
  pub of_life : association.life.0 ≡ life
  pub session : ClientSession
  pub has : association.session ≡ Some session
  pub of_epoch : session.epoch.0 ≡ epoch
  pub request : Request
  pub outstanding : session.requests.asked ≡ Some request
  pub under : request.number ≡ number

-- two keys are the same
pub record SameKey (s t : ServerId) (life epoch number life2 epoch2 number2 : ℕ) : Type 0 where
  pub server : s ≡ t
  pub life_ : life ≡ life2
  pub epoch_ : epoch ≡ epoch2
  pub number_ : number ≡ number2

-- Operations ask once: if an operation waits after an event, it never waited under another key, after this event or an earlier one.
abbrev pub OperationsAskOnce : Promise
OperationsAskOnce past x =
    (y : Step) → Has y (past ++ x ∷ []) → (c : ClientId) (s t : ServerId) (life epoch number life2 epoch2 number2 op : ℕ) →
    WaitsUnder y.after.world c s life epoch number op → WaitsUnder x.after.world c t life2 epoch2 number2 op → SameKey s t life epoch number life2 epoch2 number2

-- Keys have one operation: two operations that waited under one key, after these events, are the same one.
abbrev pub KeysHaveOneOperation : Promise
KeysHaveOneOperation past x =
    (y z : Step) → Has y (past ++ x ∷ []) → Has z (past ++ x ∷ []) → (c : ClientId) (s : ServerId) (life epoch number op n : ℕ) →
    WaitsUnder y.after.world c s life epoch number op → WaitsUnder z.after.world c s life epoch number n → op ≡ n
