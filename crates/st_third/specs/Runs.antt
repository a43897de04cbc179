-- Allocate runs: a change whose page isn't known as mapped asks for its page and the consecutive
-- pages after it that aren't either and have an active pending change.
use Rattle.std.specs.Prelude.{ℕ, zero, suc, pred, ◌+◌, Bool, true, false, ◌&&◌, not, nat_lt, if◌then◌else◌, Option, Some, None, ⊤}
use Rattle.std.specs.List.{list_any}
use Rattle.st_base.specs.declared.ids.PageNo.{PageNo}
use Rattle.st_messages.specs.declared.message.Body.{Body}
use Rattle.st_messages.specs.declared.message.Body.TheVariants as bodies
use Rattle.st_rules.specs.declared.client.Operation.{Operation}
use Rattle.st_rules.specs.Keys.{page_no}
use Rattle.st_rules.specs.ClientPages as pages
use Rattle.st_rules.specs.ClientPasses.{Wanted}
use Rattle.st_rules.specs.ClientReplies as replies
use Rattle.st_rules.specs.ClientState.{ClientSession, changes_page}
use Rattle.st_third.specs.State.{RUN, ThirdTurn, here, is_active, with_beside}

-- an active change of a page
abbrev pub is_change_of : ThirdTurn → ℕ → PageNo → Operation → Bool
is_change_of t ino p o = changes_page (here t) ino p o.ask && is_active t.leaves (here t) o

-- the page isn't known as mapped, and a change of it is pending
abbrev pub is_run_page : ThirdTurn → ℕ → PageNo → Bool
is_run_page t ino p = not (pages.is_mapped t.plain.here.store.extents ino p) && list_any (is_change_of t ino p) t.plain.operations

-- how many of at most this number of pages go on, from a page on
unfoldable pub run_from : ThirdTurn → ℕ → ℕ → ℕ → ℕ
run_from t ino zero p = 0
run_from t ino (suc n) p = if is_run_page t ino (page_no p) then run_from t ino n (p + 1) + 1 else 0

-- The run of a page, with the page itself
abbrev pub run : ThirdTurn → ℕ → PageNo → ℕ
run t ino p = run_from t ino (pred t.beside.run) (p.0 + 1) + 1

-- a request for a block is one for a run
abbrev pub run_asked : ThirdTurn → Body → Body
run_asked t (bodies.Allocate ino g p count) = bodies.Allocate ino g p (run t ino p)
run_asked t body = body

-- what an operation asks, with its run
unfoldable pub with_run : ThirdTurn → Option Wanted → Option Wanted
with_run t None = None
with_run t (Some w) = Some (record w { body = run_asked t w.body })

-- Too few blocks: the next run has at most as many pages as blocks are free.
abbrev pub with_run_limit : ℕ → ThirdTurn → ThirdTurn
with_run_limit n t = with_beside (record t.beside { run = n }) t

-- an allocation
abbrev pub is_allocation : Body → Bool
is_allocation (bodies.Allocate ino g p count) = true
is_allocation body = false

-- the extents of an allocation under the present grant
abbrev pub is_allocated : ClientSession → Body → Bool
is_allocated s asked = is_allocation asked && replies.is_current s.locks asked

-- Extents of an allocation restore the run's limit.
unfoldable pub run_restored : ClientSession → Body → ThirdTurn → ThirdTurn
run_restored s asked t = if is_allocated s asked then with_run_limit RUN t else t

-- fewer free blocks than requested, but more than none
abbrev pub is_partly_free : ℕ → ℕ → Bool
is_partly_free free count = nat_lt 0 free && nat_lt free count

-- opens all of this file and of those below it
unfoldable pub runs_open : ⊤
unfolding run_from with_run run_restored
runs_open = tt
