-- Flush steps, one after another.
use Rattle.std.specs.Prelude.{List, [], ◌∷◌, Option, Some, None}
use Rattle.st_base.specs.declared.ids.ClientId.{ClientId}
use Rattle.st_base.specs.declared.ids.ServerId.{ServerId}
use Rattle.st_base.specs.declared.ids.Stamp.{Stamp}
use Rattle.st_rules.specs.declared.lease.Phase.{Phase}
use Rattle.st_rules.specs.declared.lease.Phase.TheVariants as phases
use Rattle.st_rules.specs.declared.world.FlushStep.{FlushStep}
use Rattle.st_rules.specs.Client.{lease_end_with, phase_with}
use Rattle.st_rules.specs.ClientState.{ClientState}
use Rattle.st_rules.specs.Events.{flush_step}
use Rattle.st_rules.specs.Keys.{put}
use Rattle.st_rules.specs.World.{is_flush_of}

-- a lease end, in the flush phase
abbrev pub in_flush : Option Stamp → Option Phase → Option Stamp
in_flush end (Some phases.Flush) = end
in_flush end phase = None

-- the lease end of a client at a server, if it is in the flush phase there
abbrev pub flush_end : ClientState → ServerId → Stamp → Option Stamp
flush_end c s clock = in_flush (lease_end_with c s) (phase_with c s clock)

-- with a step under this lease end, if there is one
abbrev pub with_end : ClientId → ServerId → Option Stamp → List FlushStep → List FlushStep
with_end c s None xs = xs
with_end c s (Some end) xs = put (is_flush_of c s) (flush_step c s end) xs

-- a client's steps at these servers
abbrev pub flush_each : ClientId → ClientState → Stamp → List ServerId → List FlushStep → List FlushStep
flush_each c state clock [] xs = xs
flush_each c state clock (s ∷ ss) xs = flush_each c state clock ss (with_end c s (flush_end state s clock) xs)
