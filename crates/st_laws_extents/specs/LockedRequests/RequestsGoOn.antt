-- What holds of the requests of a client's session within a step: how they go on under the locks of their files.
use Rattle.std.specs.Prelude.{◌≡◌, ℕ, ◌≤◌, ◌<◌, true, Option, Some, None}
use Rattle.std.proofs.Common.{◌⊎◌}
use Rattle.st_base.specs.declared.ids.ServerId.{ServerId}
use Rattle.st_messages.specs.declared.message.Body.{Body}
use Rattle.st_messages.specs.declared.message.Body.TheVariants as bodies
use Rattle.st_rules.specs.declared.client.Request.{Request}
use Rattle.st_rules.specs.ClientLocks.{LockCache, seen_of}
use Rattle.st_rules.specs.ClientReplies.{is_current}
use Rattle.st_rules.specs.ClientState.{ClientSession, Requests}
use Rattle.st_laws_extents.specs.Known.Current.{LockSeen}

-- nothing was reported under this number, in a life and an epoch
abbrev pub Free : Type 1
Free = ServerId → ℕ → ℕ → ℕ → Type 0

-- a request of this number and body was outstanding before, in a life and an epoch, under its lock
abbrev pub Before : Type 1
Before = ServerId → ℕ → ℕ → ℕ → Body → Type 0

-- the grant under which extents are asked is at most the greatest that was seen of the file
abbrev pub Under : LockCache → Body → Type 0
Under c (bodies.Map ino g page) = g.0 ≤ (seen_of c ino).0
Under c (bodies.Allocate ino g page count) = g.0 ≤ (seen_of c ino).0
Under c body = Unit {0}

-- a request goes on: its grant was seen, and if its lock is held, it was outstanding so, or nothing was reported under its number
pub record RequestGoes (U : Free) (W : Before) (server : ServerId) (life epoch : ℕ) (c : LockCache) (number : ℕ) (body : Body) : Type 0 where
  pub under : Under c body
  pub was : is_current c body ≡ true → W server life epoch number body ⊎ U server life epoch number

-- of a session: nothing was reported in later epochs, nor under future numbers; and the outstanding request goes on
pub record Stand (U : Free) (W : Before) (server : ServerId) (life epoch : ℕ) (r : Requests) (c : LockCache) : Type 0 where
  pub later : (e n : ℕ) → epoch < e → 1 ≤ n → U server life e n
  pub next : (n : ℕ) → r.next ≤ n → U server life epoch n
  pub seen : LockSeen c
  pub asked : (q : Request) → r.asked ≡ Some q → RequestGoes U W server life epoch c q.number q.body

-- of an association: without a session nothing was reported in its life
abbrev pub Of : Free → Before → ServerId → ℕ → Option ClientSession → Type 0
Of U W server life None = (e n : ℕ) → 1 ≤ n → U server life e n
Of U W server life (Some s) = Stand U W server life s.epoch.0 s.requests s.locks
