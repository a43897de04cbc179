-- Asks own changes: which ask of which client each change of the names of a server is of, and what was answered to it.
use Rattle.std.specs.Prelude.{◌≡◌, ℕ, true, false, ◌||◌, List, [], ◌∷◌, ◌++◌, Some}
use Rattle.std.specs.List.{list_any}
use Rattle.st_base.specs.declared.ids.ClientId.{ClientId}
use Rattle.st_base.specs.declared.ids.ServerId.{ServerId}
use Rattle.st_base.specs.declared.names.NameAsk.{NameAsk}
use Rattle.st_messages.specs.declared.answer.AppAnswer.{AppAnswer}
use Rattle.st_messages.specs.declared.answer.AppAnswer.TheVariants as answers
use Rattle.st_messages.specs.declared.ask.Ask.{Ask}
use Rattle.st_messages.specs.declared.ask.Ask.TheVariants as asks
use Rattle.st_messages.specs.declared.message.Body.{Body}
use Rattle.st_rules.specs.declared.observation.Observation.TheVariants as seen
use Rattle.st_rules.specs.Safety.{Step, is_after_ask}
use Rattle.st_rules.specs.World.{all_clients, node_of, numbered}
use Rattle.st_lemmas.specs.Lists.{Has}
use Rattle.st_promises.specs.CutAsks.{is_uncertain, settles_in}
use Rattle.st_promises.specs.NameAnswers.{becomes_at, changes_in, says_in}
use Rattle.st_promises.specs.NamesOnce.{is_change_of}
use Rattle.st_laws_requests.specs.Cuts.Cuts.{asks_of}
use Rattle.st_laws_names.specs.Keys.{ServedAt}
use Rattle.st_laws_names.specs.OutstandingKeys.{WaitsUnder}

-- In the event of a step a server served a request of a client, and an operation waited under its key after one of these steps.
pub record Owns (past : List Step) (y : Step) (s : ServerId) (c : ClientId) (op : ℕ) : Type 0 where
  pub life_ : ℕ
  pub epoch_ : ℕ
  pub number_ : ℕ
  pub reply : Body
  pub served : ServedAt y c s life_ epoch_ number_ reply
  pub at : Step
  pub among : Has at past
  pub waits : WaitsUnder at.after.world c s life_ epoch_ number_ op

-- An ask that owns a change: it was asked before and not settled, and the names became what it makes of them.
pub record Owner (past : List Step) (x : Step) (s : ServerId) : Type 0 where
  pub c : ClientId
  pub op : ℕ
  pub ask : NameAsk
  pub asked : numbered (asks_of past c) op ≡ Some (asks.Name s ask)
  pub becomes : becomes_at ask (node_of x.before.world s) (node_of x.after.world s) ≡ true
  pub after : is_after_ask c op x ≡ true
  pub unsettled : list_any (settles_in c op) past ≡ false
  pub owns : Owns past x s c op

-- Asks own changes, at each step. each: a change has only one owner: no event has two once: no two changes have one owner told: an answer to the owner of a
-- change is `uncertain` or what names said at that event did: an ask to change names that is answered with an inode owns a change made: such an answer is to an
-- ask that was made there: who owns an event is a client of the world
pub record AsksOwnChanges (past : List Step) (x : Step) : Type 0 where
  pub each : (s : ServerId) → changes_in s x ≡ true → Owner past x s
  pub alone : (y : Step) → Has y (past ++ x ∷ []) → (s : ServerId) (c d : ClientId) (op n : ℕ) → Owns (past ++ x ∷ []) y s c op → Owns (past ++ x ∷ []) y s d n → (c ≡ d) × (op ≡ n)
  pub once : (y : Step) → Has y past → (s : ServerId) (c : ClientId) (op : ℕ) → changes_in s y ≡ true → changes_in s x ≡ true → Owns past y s c op → Owns past x s c op → ⊥
  pub told : (y : Step) → Has y (past ++ x ∷ []) → (s : ServerId) (c : ClientId) (op : ℕ) (ask : NameAsk) (a : AppAnswer) → changes_in s y ≡ true → Owns (past ++ x ∷ []) y s c op →
      numbered (asks_of (past ++ x ∷ []) c) op ≡ Some (asks.Name s ask) → Has (seen.Answered c op a) x.seen → (is_uncertain a || says_in s ask a y) ≡ true
  pub did : (s : ServerId) (c : ClientId) (op : ℕ) (ask : NameAsk) (ino : ℕ) → is_change_of s (asks.Name s ask) ≡ true → numbered (asks_of (past ++ x ∷ []) c) op ≡ Some (asks.Name s ask) →
      Has (seen.Answered c op (answers.Named ino)) x.seen → (y : Step) × Has y (past ++ x ∷ []) × (changes_in s y ≡ true) × Owns (past ++ x ∷ []) y s c op
  pub made : (c : ClientId) (op ino : ℕ) → Has (seen.Answered c op (answers.Named ino)) x.seen → (ask : Ask) × (numbered (asks_of (past ++ x ∷ []) c) op ≡ Some ask)
  pub there : (y : Step) (s : ServerId) (c : ClientId) (op : ℕ) → Owns (past ++ x ∷ []) y s c op → Has c (all_clients x.after.world)
