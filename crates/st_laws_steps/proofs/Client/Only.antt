-- Only changes of some kinds, one after another: a walk that makes no other kind says so by its type.
use Rattle.st_lemmas.proofs.Words
use Words.{if◌then◌else◌, ◌≡◌, Stamp}
use Words.ClientState.{Turn}
use Rattle.st_laws_steps.specs.Client.Client.{Change, Changes, Still, Then}

-- changes that a fact lets pass
pub data Only (P : (now : Stamp) (t u : Turn) → Change now t u → Type 0) (now : Stamp) : Turn → Turn → Type 0 where
  Ends : (t : Turn) → Only P now t t
  Goes : (t u v : Turn) (c : Change now t u) → P now t u c → Only P now u v → Only P now t v

module _ (P : (now : Stamp) (t u : Turn) → Change now t u → Type 0) (now : Stamp) where
  pub single : (t u : Turn) (c : Change now t u) → P now t u c → Only P now t u
  single t u c p = Goes t u u c p (Ends u)

  pub joined : (t u v : Turn) → Only P now t u → Only P now u v → Only P now t v
  joined _ _ v (Ends x) b = b
  joined _ _ v (Goes t x u c p a) b = Goes t x v c p (joined x u v a b)

  -- they are changes
  pub all : (t u : Turn) → Only P now t u → Changes now t u
  all _ _ (Ends x) = Still x
  all _ _ (Goes t x u c p a) = Then t x u c (all x u a)

-- changes that a weaker fact lets pass too
pub lifted : (P Q : (now : Stamp) (t u : Turn) → Change now t u → Type 0) (now : Stamp) → ((t u : Turn) (c : Change now t u) → P now t u c → Q now t u c) → (t u : Turn) → Only P now t u → Only Q now t u
lifted P Q now f _ _ (Ends x) = Ends x
lifted P Q now f _ v (Goes t x u c p a) = Goes t x v c (f t x c p) (lifted P Q now f x v a)
