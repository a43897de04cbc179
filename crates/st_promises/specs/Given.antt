-- Giving asks to events: to each event of a kind one ask of a client, and each ask to one event at most.
use Rattle.std.specs.Prelude.{ℕ, Bool, ◌&&◌, not, ◌==◌, if◌then◌else◌, List, [], ◌∷◌, ◌++◌, ⊤}
use Rattle.std.specs.List.{list_any}
use Rattle.st_base.specs.declared.ids.ClientId.{ClientId}
use Rattle.st_messages.specs.declared.ask.Ask.{Ask}
use Rattle.st_rules.specs.Keys.{same_client}
use Rattle.st_rules.specs.Safety.{Step}
use Rattle.st_promises.specs.CutAsks.{numbered_asks}

-- an ask was given before
abbrev pub is_given : ClientId → ℕ → ClientId × ℕ → Bool
is_given c op d = same_client d.0 c && (d.1 == op)

-- the rest can be done if this ask is given to the event
abbrev pub given_by : (List Step → Step → ClientId → ℕ × Ask → Bool) → List Step → List (ClientId × ℕ) → (List (ClientId × ℕ) → Bool) → Step → ClientId → ℕ × Ask → Bool
given_by fits past given rest y c k = not (list_any (is_given c k.0) given) && (fits past y c k && rest ((c, k.0) ∷ given))

-- one of a client's asks is given
abbrev pub given_for : (List Step → Step → ClientId → ℕ × Ask → Bool) → List Step → List (ClientId × ℕ) → (List (ClientId × ℕ) → Bool) → Step → ClientId → Bool
given_for fits past given rest y c = list_any (given_by fits past given rest y c) (numbered_asks past c)

-- an event of the kind is given an ask; another one is given none
abbrev pub given_at : (Step → Bool) → (List Step → Step → ClientId → ℕ × Ask → Bool) → List ClientId → List Step → List (ClientId × ℕ) → (List (ClientId × ℕ) → Bool) → Step → Bool
given_at did fits cs past given rest y = if did y then list_any (given_for fits past given rest y) cs else rest given

-- to each of these steps of the kind an ask that fits can be given that is not given yet, and what is claimed about all given asks holds then
unfoldable pub are_given : (Step → Bool) → (List Step → Step → ClientId → ℕ × Ask → Bool) → (List (ClientId × ℕ) → Bool) → List ClientId → List Step → List Step → List (ClientId × ℕ) → Bool
are_given did fits last cs past [] given = last given
are_given did fits last cs past (y ∷ ys) given = given_at did fits cs past given (are_given did fits last cs (past ++ y ∷ []) ys) y

-- opens all of this file
unfoldable pub given_open : ⊤
unfolding are_given
given_open = tt
