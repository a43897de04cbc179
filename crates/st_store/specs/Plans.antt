-- Which calls of a store in memory fail, and in which one it stops.
use Rattle.std.specs.Prelude.{◌≡◌, ℕ, ◌-◌, true, false, ◌==◌, if◌then◌else◌, List, Option, Some, None, Vec}
use Rattle.std.specs.List.{list_any}
use Rattle.std.specs.declared.alloc.Global.{Global}
use Rattle.st_link.specs.InMemory.{raised}
use Rattle.st_store.specs.declared.plan.Stop.{Stop}
use Rattle.st_store.specs.declared.plan.Outcome.{Outcome}
use Rattle.st_store.specs.declared.plan.Outcome.TheVariants.{Works, Fails, Stops}
use Rattle.st_store.specs.declared.plan.Plan.{Plan}

-- no call was made, and no stop is set
abbrev pub fresh : Vec ℕ Global → Plan
fresh failing = record { calls = 0; failing = failing; faults = 0; stop = None; stopped = false }

-- no stop is set, and none came
pub record IsQuiet (p : Plan) : Type 0 where
  pub unset : p.stop ≡ None
  pub runs : p.stopped ≡ false

-- a call with one of these numbers fails
abbrev pub planned : List ℕ → ℕ → Outcome
planned failing call = if list_any (λ n. n == call) failing then Fails else Works

-- the stop comes in this call, or it does not
abbrev pub at_stop : Stop → Outcome → Outcome
at_stop s other = if s.left == 1 then Stops s.byte else other

-- if a stop is set, it may come
abbrev pub by_stop : Option Stop → Outcome → Outcome
by_stop None other = other
by_stop (Some s) other = at_stop s other

-- what becomes of the next call: after a stop each one fails
abbrev pub outcome : Plan → Outcome
outcome p = if p.stopped then Fails else by_stop p.stop (planned p.failing.items (raised p.calls))

-- the stop with one call less to come
abbrev pub counted_down : Option Stop → Option Stop
counted_down None = None
counted_down (Some s) = Some (record { left = s.left - 1; byte = s.byte })

-- a call was made
abbrev pub counted : Plan → Plan
counted p = record p { calls = raised p.calls; stop = counted_down p.stop }

-- a call failed
abbrev pub failed : Plan → Plan
failed p = record p { faults = raised p.faults }

-- the store stopped
abbrev pub halted : Plan → Plan
halted p = record p { stopped = true }

-- a stop is set, in place of an earlier one
abbrev pub with_stop : Plan → ℕ → ℕ → Plan
with_stop p call byte = record p { stop = Some (record { left = call; byte = byte }) }

-- the stop is taken out
abbrev pub restarted : Plan → Plan
restarted p = record p { stop = None; stopped = false }
