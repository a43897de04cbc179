-- Cuts are asked: which ask of which client led to the line of a cut.
use Rattle.std.specs.Prelude.{◌≡◌, ℕ, Bool, true, false, ◌&&◌, not, ◌==◌, List, filter_map, map, Option, Some, None}
use Rattle.std.specs.List.{list_all, list_any}
use Rattle.st_base.specs.declared.ids.ClientId.{ClientId}
use Rattle.st_base.specs.declared.ids.FileId.{FileId}
use Rattle.st_base.specs.declared.ids.PageNo.{PageNo}
use Rattle.st_base.specs.declared.names.NameAsk.{NameAsk}
use Rattle.st_base.specs.declared.names.NameAsk.TheVariants as names
use Rattle.st_base.specs.Mode.{covers}
use Rattle.st_base.specs.declared.mode.Mode.TheVariants as modes
use Rattle.st_messages.specs.declared.answer.AppAnswer.{AppAnswer}
use Rattle.st_messages.specs.declared.answer.AppAnswer.TheVariants as answers
use Rattle.st_messages.specs.declared.ask.Ask.{Ask}
use Rattle.st_messages.specs.declared.ask.Ask.TheVariants as asks
use Rattle.st_rules.specs.declared.locks.LockRow.{LockRow}
use Rattle.st_rules.specs.declared.observation.Observation.{Observation}
use Rattle.st_rules.specs.declared.observation.Observation.TheVariants as seen
use Rattle.st_rules.specs.Keys.{same_client, same_file, same_page, same_server}
use Rattle.st_rules.specs.Locks.{row_of}
use Rattle.st_rules.specs.Server.{ServerNode}
use Rattle.st_rules.specs.World.{World, all_clients, node_of}
use Rattle.st_rules.specs.Safety.{Promise, Step, ask_in, event_of}
use Rattle.st_promises.specs.Counts.{under_numbers}

-- an answer that leaves open whether what was asked was done
abbrev pub is_uncertain : AppAnswer → Bool
is_uncertain (answers.Uncertain old new) = true
is_uncertain answer = false

-- the ask of this number was answered, and not with `uncertain`
abbrev pub settles : ClientId → ℕ → Observation → Bool
settles c op (seen.Answered d n answer) = same_client d c && ((n == op) && not (is_uncertain answer))
settles c op o = false

-- in a step
abbrev pub settles_in : ClientId → ℕ → Step → Bool
settles_in c op x = list_any (settles c op) x.seen

-- a removal that means this file cuts all of it
abbrev pub removes_file : FileId → PageNo → NameAsk → Bool
removes_file f p (names.Remove dir name ino) = (ino == f.ino) && (p.0 == 0)
removes_file f p ask = false

-- an ask to cut this file from this page on
abbrev pub asks_cut : FileId → PageNo → Ask → Bool
asks_cut f p (asks.Cut g q) = same_file g f && same_page q p
asks_cut f p (asks.Name s ask) = same_server s f.server && removes_file f p ask
asks_cut f p ask = false

-- under this number, not settled before
abbrev pub is_open_cut : List Step → ClientId → FileId → PageNo → ℕ × Ask → Bool
is_open_cut past c f p k = asks_cut f p k.1 && not (list_any (settles_in c k.0) past)

-- what a client was asked in these steps, under its numbers
abbrev pub numbered_asks : List Step → ClientId → List (ℕ × Ask)
numbered_asks past c = under_numbers 1 (filter_map (ask_in c) (map event_of past))

-- an exclusive row
abbrev pub is_exclusive : Option LockRow → Bool
is_exclusive None = false
is_exclusive (Some r) = covers r.mode modes.X

-- a running server has an exclusive row of the client on a file
abbrev pub has_alone_at : ClientId → ℕ → Option ServerNode → Bool
has_alone_at c ino None = false
has_alone_at c ino (Some node) = node.running && is_exclusive (row_of node.state.locks c ino)

-- a client may cut a file, and was asked to
abbrev pub cuts_by : List Step → World → FileId → PageNo → ClientId → Bool
cuts_by past w f p c = has_alone_at c f.ino (node_of w f.server) && list_any (is_open_cut past c f p) (numbered_asks past c)

-- an observation that isn't a cut owes nothing
abbrev pub is_cut_asked : List Step → World → Observation → Bool
is_cut_asked past w (seen.CutAt index f p) = list_any (cuts_by past w f p) (all_clients w)
is_cut_asked past w o = true

-- Cuts are asked: the line of a cut of a file from a page on has an ask before it, of a client that had an exclusive row on the file at the
-- file's server before the event. It asks to cut this file from this page on, or to remove the file, which cuts it from page 0 on; and it
-- was not answered before, or with `uncertain`.
abbrev pub CutsAreAsked : Promise
CutsAreAsked past x = list_all (is_cut_asked past x.before.world) x.seen ≡ true
