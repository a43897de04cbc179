-- Small facts of a client's rules: the outstanding request of a session, and what some rules leave as it was.
use Rattle.st_lemmas.proofs.Words
use Words.{◌≡◌, ℕ, Bool, true, false, List, [], ◌∷◌, ◌++◌, Option, Some, None, inl, inr, FileId, PageNo, ServerId, Ask, Body, Request, NameAsk}
use Words.asks
use Words.bodies
use Words.ClientState as cs
use Words.ClientState.{ClientSession}
use Words.Lists.{Has}
use Words.Truth.{clash}
use Rattle.st_laws_requests.specs.Replies.ServedRequests.{KeptWhy}

-- the epoch and the outstanding request of a session
abbrev pub view : Option ClientSession → Option (ℕ × Option Request)
view None = None
view (Some x) = Some (x.epoch.0, x.requests.asked)

-- a refusal that is kept
abbrev pub IsKeptRefusal : Body → Type 0
IsKeptRefusal (bodies.Nack w a b) = KeptWhy w
IsKeptRefusal b = ⊥

-- only a cut or a name
abbrev pub Own : Ask → Type 0
Own a = cs.is_cut_or_name a ≡ true

-- a test that no cut and no name passes
pub other : (p : Ask → Bool) → ((f : FileId) (q : PageNo) → p (asks.Cut f q) ≡ false) → ((sv : ServerId) (n : NameAsk) → p (asks.Name sv n) ≡ false) →
    {A : Type 0} → (a : Ask) → Own a → p a ≡ true → A
other p f g (asks.Cut x q) k e = clash e (f x q)
other p f g (asks.Name sv n) k e = clash e (g sv n)
other p f g (asks.Read x q) k e = cc k
other p f g (asks.Write x q bytes) k e = cc k
other p f g (asks.Patch x q at bytes) k e = cc k
other p f g (asks.Sync x) k e = cc k

pub has_none : {A : Type 0} (xs : List A) (x : A) → Has x xs → Has x (xs ++ [])
has_none (y ∷ ys) x (inl e) = inl e
has_none (y ∷ ys) x (inr h) = inr (has_none ys x h)
has_none [] x h = h
