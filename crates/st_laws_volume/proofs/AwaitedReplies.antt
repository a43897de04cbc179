-- What waits for the reply to a request.
use Rattle.st_lemmas.proofs.Words
use Words.{◌≡◌, ◌⊎◌, ℕ, Bool, true, false, List}
use Words.{Body, KnownExtent, Operation, ServerId}
use Words.bodies
use Words.ClientPages as pages
use Words.ClientState.{ClientSession}
use Words.Lists.{Has}
use Rattle.st_laws_volume.proofs.AwaitedKinds.{works, writes}

-- An operation waits that was asked before.
pub record IsWaiting (Before : ServerId → ℕ → ℕ → ℕ → ℕ → Type 0) (test : Operation → Bool) (s : ServerId) (life epoch number : ℕ) (os : List Operation) : Type 0 where
  pub o : Operation
  pub there : Has o os
  pub picked : test o ≡ true
  pub before : Before s life epoch number o.op

-- What waits for the reply to a request: for a block, an operation that changes its page, which isn't
-- known as mapped; and for a lock, an operation of its file, or a fact of the file is known. If none
-- waits, the session is idle. The fact is known of the file of a request that names a grant.
abbrev pub WaitsFor : (ServerId → ℕ → ℕ → ℕ → ℕ → Type 0) → (ServerId → ℕ → Type 0) → (ClientSession → Type 0) → ServerId → ℕ → ClientSession →
    List KnownExtent → List Operation → ℕ → Body → Type 0
WaitsFor Before Known Idle s life x xs os n (bodies.Allocate ino g p count) =
    (pages.is_mapped xs ino p ≡ false) × ((IsWaiting Before (writes s ino p) s life x.epoch.0 n os ⊎ Idle x) × Known s ino)
WaitsFor Before Known Idle s life x xs os n (bodies.Acquire ino mode) =
    (IsWaiting Before (works s ino) s life x.epoch.0 n os ⊎ Idle x) ⊎ Known s ino
WaitsFor Before Known Idle s life x xs os n (bodies.Map ino g p) = Known s ino
WaitsFor Before Known Idle s life x xs os n (bodies.Cut ino g p) = Known s ino
WaitsFor Before Known Idle s life x xs os n b = Unit {0}
