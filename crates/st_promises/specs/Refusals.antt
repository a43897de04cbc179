-- Refusals change nothing: whose each cut of a file is.
use Rattle.std.specs.Prelude.{◌≡◌, ℕ, Bool, true, false, ◌&&◌, ◌||◌, not, ◌==◌, List, [], ◌∷◌, ◌++◌}
use Rattle.std.specs.List.{list_all, list_any}
use Rattle.st_base.specs.declared.ids.ClientId.{ClientId}
use Rattle.st_base.specs.declared.names.NameAsk.{NameAsk}
use Rattle.st_base.specs.declared.names.NameAsk.TheVariants as names
use Rattle.st_messages.specs.declared.answer.AppAnswer.{AppAnswer}
use Rattle.st_messages.specs.declared.answer.AppAnswer.TheVariants as answers
use Rattle.st_messages.specs.declared.ask.Ask.{Ask}
use Rattle.st_messages.specs.declared.ask.Ask.TheVariants as asks
use Rattle.st_rules.specs.declared.observation.Observation.{Observation}
use Rattle.st_rules.specs.declared.observation.Observation.TheVariants as seen
use Rattle.st_rules.specs.Keys.{same_client}
use Rattle.st_rules.specs.World.{World, all_clients, node_of}
use Rattle.st_rules.specs.Safety.{Promise, Step}
use Rattle.st_promises.specs.Acknowledgements.{is_cut_line}
use Rattle.st_promises.specs.CutAsks.{asks_cut, has_alone_at, is_uncertain, settles_in}
use Rattle.st_promises.specs.Given.{are_given}

-- an event that cut a file
abbrev pub cuts_in : Step → Bool
cuts_in y = list_any is_cut_line y.seen

-- what a removal of this inode is answered if it was done
abbrev pub is_removed_answer : NameAsk → AppAnswer → Bool
is_removed_answer (names.Remove dir name ino) (answers.Named n) = n == ino
is_removed_answer ask answer = false

-- what an ask is answered whose cut was done
abbrev pub is_done_answer : Ask → AppAnswer → Bool
is_done_answer (asks.Cut f p) answers.Cut = true
is_done_answer (asks.Name s ask) answer = is_removed_answer ask answer
is_done_answer ask answer = false

-- if the ask is answered, it is that its cut was done, or `uncertain`
abbrev pub is_not_refused : Ask → ClientId → ℕ → Observation → Bool
is_not_refused ask c op (seen.Answered d n answer) = not (same_client d c && (n == op)) || (is_uncertain answer || is_done_answer ask answer)
is_not_refused ask c op o = true

-- in a step
abbrev pub is_not_refused_in : Ask → ClientId → ℕ → Step → Bool
is_not_refused_in ask c op z = list_all (is_not_refused ask c op) z.seen

-- the line of a cut is what an ask asks, of a client that may cut the file
abbrev pub is_own_line : World → ClientId → Ask → Observation → Bool
is_own_line w c ask (seen.CutAt index f p) = asks_cut f p ask && has_alone_at c f.ino (node_of w f.server)
is_own_line w c ask o = true

-- An event that cut a file can be given this ask: it asks for what was cut, of a client that had an exclusive row on the file; it was asked
-- before, and not settled; and no refusal answers it in the run.
abbrev pub is_of_cut : List Step → List Step → Step → ClientId → ℕ × Ask → Bool
is_of_cut all past y c k =
    list_all (is_own_line y.before.world c k.1) y.seen && (not (list_any (settles_in c k.0) past) && list_all (is_not_refused_in k.1 c k.0) all)

-- nothing more is promised about what was given
abbrev pub is_all : List (ClientId × ℕ) → Bool
is_all given = true

-- to each event of these steps that cut a file an ask can be given
abbrev pub are_own_cuts : List ClientId → List Step → Bool
are_own_cuts cs all = are_given cuts_in (is_of_cut all) is_all cs [] all []

-- Refusals change nothing: to each event that cut a file one ask can be given that asked for it, each ask to one event at most: it was asked
-- before and not settled, of a client that had an exclusive row on the file; and if it is answered, it is that the cut was done, or
-- `uncertain`, and no refusal. (The line of a write or of a patch is followed directly by the only answer to its ask, which is `written`: asks
-- are answered once, and answers are logged.)
abbrev pub RefusalsChangeNothing : Promise
RefusalsChangeNothing past x = are_own_cuts (all_clients x.after.world) (past ++ x ∷ []) ≡ true
