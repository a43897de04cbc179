-- The flush steps of a world.
use Rattle.std.proofs.Common.{◌≡◌, ℕ, suc, ◌+◌, ◌-◌, ◌<◌, ◌≤◌, List, [], ◌∷◌, refl, ap, ◌∙◌, arith}
use Rattle.std.specs.Prelude.{Option, Some, None}
use Rattle.st_base.specs.declared.ids.ClientId.{ClientId}
use Rattle.st_base.specs.declared.ids.NodeId.TheVariants as nodes
use Rattle.st_base.specs.declared.ids.ServerId.{ServerId}
use Rattle.st_base.specs.declared.ids.Stamp.{Stamp}
use Rattle.st_rules.specs.declared.lease.Phase.{Phase}
use Rattle.st_rules.specs.declared.lease.Phase.TheVariants as phases
use Rattle.st_rules.specs.Client.{lease_end_with, phase_with}
use Rattle.st_rules.specs.ClientState.{ClientState}
use Rattle.st_rules.specs.Events.{flushed_at, flushed_in, flushed_under, flushes}
use Rattle.st_rules.specs.Extents.{numbers}
use Rattle.st_rules.specs.World.{World, clock_of}
use Rattle.st_world_events.specs.FlushSteps.{flush_each, flush_end, in_flush, with_end}

under_is : (w : World) (c : ClientId) (s : ServerId) (o : Option Stamp) → record w { flushed = with_end c s o w.flushed } ≡ flushed_under w c s o
under_is w c s None = refl
under_is w c s (Some end) = refl

in_is : (w : World) (c : ClientId) (s : ServerId) (o : Option Stamp) (p : Option Phase) → record w { flushed = with_end c s (in_flush o p) w.flushed } ≡ flushed_in w c s o p
in_is w c s o None = refl
in_is w c s o (Some phases.Valid) = refl
in_is w c s o (Some phases.Renewal) = refl
in_is w c s o (Some phases.Quiesce) = refl
in_is w c s o (Some phases.Flush) = under_is w c s o
in_is w c s o (Some phases.Expired) = refl

at_is : (w : World) (c : ClientId) (s : ServerId) (state : ClientState) → record w { flushed = with_end c s (flush_end state s (clock_of w (nodes.Client c))) w.flushed } ≡ flushed_at w c s state
at_is w c s state = in_is w c s (lease_end_with state s) (phase_with state s (clock_of w (nodes.Client c)))

-- the flush steps after a step of a client
pub flushes_is : (c : ClientId) (state : ClientState) (ss : List ServerId) (w : World) → record w { flushed = flush_each c state (clock_of w (nodes.Client c)) ss w.flushed } ≡ flushes c state ss w
unfolding flushes
flushes_is c state [] w = refl
flushes_is c state (s ∷ ss) w =
    flushes_is c state ss (record w { flushed = with_end c s (flush_end state s (clock_of w (nodes.Client c))) w.flushed })
    ∙ ap (flushes c state ss) (at_is w c s state)

-- numbers, the first one apart
pub numbers_on : (k n : ℕ) → k < n → numbers (k + 1) (n - k) ≡ (k + 1) ∷ numbers (k + 1 + 1) (n - (k + 1))
unfolding numbers
numbers_on k n h = let e : n - k ≡ suc (n - (k + 1)) = omega arith in rw e refl

-- no numbers are left
pub numbers_end : (k n : ℕ) → n ≤ k → numbers (k + 1) (n - k) ≡ []
unfolding numbers
numbers_end k n h = let e : n - k ≡ 0 = omega arith in rw e refl
