-- Names change once: whose each change of the names of a server is.
use Rattle.std.specs.Prelude.{◌≡◌, ℕ, Bool, true, false, ◌&&◌, ◌||◌, not, ◌==◌, if◌then◌else◌, List, [], ◌∷◌, ◌++◌, ⊤}
use Rattle.std.specs.List.{list_all, list_any}
use Rattle.st_base.specs.declared.ids.ClientId.{ClientId}
use Rattle.st_base.specs.declared.ids.ServerId.{ServerId}
use Rattle.st_base.specs.declared.names.NameAsk.{NameAsk}
use Rattle.st_base.specs.declared.names.NameAsk.TheVariants.{Create, Mkdir, Remove, Rename}
use Rattle.st_messages.specs.declared.answer.AppAnswer.TheVariants as answers
use Rattle.st_messages.specs.declared.ask.Ask.{Ask}
use Rattle.st_messages.specs.declared.ask.Ask.TheVariants as asks
use Rattle.st_rules.specs.declared.observation.Observation.{Observation}
use Rattle.st_rules.specs.declared.observation.Observation.TheVariants as seen
use Rattle.st_rules.specs.Keys.{same_client, same_server}
use Rattle.st_rules.specs.World.{all_clients, all_servers, node_of}
use Rattle.st_rules.specs.Safety.{Promise, Step, is_after_ask}
use Rattle.st_promises.specs.CutAsks.{is_uncertain, numbered_asks, settles_in}
use Rattle.st_promises.specs.NameAnswers.{becomes_at, changes_in, says_in}

-- To each event that changed the names of a server an ask can be given, each ask once.

-- an ask was given before
abbrev pub is_given : ClientId → ℕ → ClientId × ℕ → Bool
is_given c op d = same_client d.0 c && (d.1 == op)

-- if it was answered, the answer is what names said at this event, or `uncertain`
abbrev pub answered_so : ServerId → NameAsk → Step → ClientId → ℕ → Observation → Bool
answered_so s ask y c op (seen.Answered d n answer) = not (same_client d c && (n == op)) || (is_uncertain answer || says_in s ask answer y)
answered_so s ask y c op o = true

-- in a step
abbrev pub answered_so_in : ServerId → NameAsk → Step → ClientId → ℕ → Step → Bool
answered_so_in s ask y c op z = list_all (answered_so s ask y c op) z.seen

-- an event did what an ask to the server asks, after it was asked, and before it was settled
abbrev pub is_of_ask : List Step → List Step → ServerId → Step → ClientId → ℕ → Ask → Bool
is_of_ask all past s y c op (asks.Name t ask) =
    same_server t s
    && (becomes_at ask (node_of y.before.world s) (node_of y.after.world s)
    && (is_after_ask c op y && (not (list_any (settles_in c op) past) && list_all (answered_so_in s ask y c op) all)))
is_of_ask all past s y c op ask = false

-- an ask that changes names if it is not refused
abbrev pub is_change_of : ServerId → Ask → Bool
is_change_of s (asks.Name t (Create dir name)) = same_server t s
is_change_of s (asks.Name t (Mkdir dir name)) = same_server t s
is_change_of s (asks.Name t (Remove dir name ino)) = same_server t s
is_change_of s (asks.Name t (Rename dir name dir2 name2)) = same_server t s
is_change_of s ask = false

-- the ask was answered with an inode
abbrev pub names_it : ClientId → ℕ → Observation → Bool
names_it c op (seen.Answered d n (answers.Named ino)) = same_client d c && (n == op)
names_it c op o = false

-- in a step
abbrev pub names_it_in : ClientId → ℕ → Step → Bool
names_it_in c op z = list_any (names_it c op) z.seen

-- a change that was answered with an inode was given an event
abbrev pub has_event : List Step → ServerId → List (ClientId × ℕ) → ClientId → ℕ × Ask → Bool
has_event all s given c k = not (is_change_of s k.1 && list_any (names_it_in c k.0) all) || list_any (is_given c k.0) given

-- of a client
abbrev pub all_have_events : List Step → ServerId → List (ClientId × ℕ) → ClientId → Bool
all_have_events all s given c = list_all (has_event all s given c) (numbered_asks all c)

-- the rest can be done if this ask is given to the event
abbrev pub is_done_by : List Step → List Step → ServerId → List (ClientId × ℕ) → (List (ClientId × ℕ) → Bool) → Step → ClientId → ℕ × Ask → Bool
is_done_by all past s given rest y c k = not (list_any (is_given c k.0) given) && (is_of_ask all past s y c k.0 k.1 && rest ((c, k.0) ∷ given))

-- one of a client's asks is given
abbrev pub is_done_for : List Step → List Step → ServerId → List (ClientId × ℕ) → (List (ClientId × ℕ) → Bool) → Step → ClientId → Bool
is_done_for all past s given rest y c = list_any (is_done_by all past s given rest y c) (numbered_asks past c)

-- an event that changed the names of the server is given an ask; another one is given none
abbrev pub is_done_at : List ClientId → List Step → List Step → ServerId → List (ClientId × ℕ) → (List (ClientId × ℕ) → Bool) → Step → Bool
is_done_at cs all past s given rest y = if changes_in s y then list_any (is_done_for all past s given rest y) cs else rest given

-- to each of these steps that changed the names of the server an ask that is not given yet can be given
unfoldable pub are_done : List ClientId → List Step → ServerId → List Step → List Step → List (ClientId × ℕ) → Bool
are_done cs all s past [] given = list_all (all_have_events all s given) cs
are_done cs all s past (y ∷ ys) given = is_done_at cs all past s given (are_done cs all s (past ++ y ∷ []) ys) y

-- from the first step on
abbrev pub is_changed_once : List ClientId → List Step → ServerId → Bool
is_changed_once cs all s = are_done cs all s [] all []

-- Names change once: to each event that changed the names of a server one ask can be given that did it, each ask to one event at most: it was
-- asked before and not settled, the names became what it makes of them, and if it was answered, it was with what they said then, or with
-- `uncertain`. And each create, remove or rename that was answered with an inode is given its event.
abbrev pub NamesChangeOnce : Promise
NamesChangeOnce past x = list_all (is_changed_once (all_clients x.after.world) (past ++ x ∷ [])) (all_servers x.after.world) ≡ true

-- opens all of this file
unfoldable pub names_once_open : ⊤
unfolding are_done
names_once_open = tt
