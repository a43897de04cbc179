-- Admissible events: for each event the refusals of a world, in their order.
use Rattle.std.specs.Prelude.{ℕ, ◌+◌, Bool, true, false, ◌&&◌, ◌||◌, not, ◌==◌, nat_le, nat_lt, if◌then◌else◌, List, [], ◌∷◌, zip, Option, Some, None, is_some, unwrap_or, ⊤}
use Rattle.std.specs.List.{list_any}
use Rattle.std.specs.Option.{option_or}
use Rattle.st_base.specs.declared.ids.ClientId.{ClientId}
use Rattle.st_base.specs.declared.ids.ServerId.{ServerId}
use Rattle.st_base.specs.declared.ids.Life.{Life}
use Rattle.st_base.specs.declared.ids.NodeId.{NodeId}
use Rattle.st_base.specs.declared.ids.NodeId.TheVariants as nodes
use Rattle.st_base.specs.declared.ids.Stamp.{Stamp}
use Rattle.st_messages.specs.declared.event.Event.{Event}
use Rattle.st_messages.specs.declared.event.Event.TheVariants as events
use Rattle.st_rules.specs.declared.disks.DiskCommand.{DiskCommand}
use Rattle.st_rules.specs.declared.disks.Report.{Report}
use Rattle.st_rules.specs.declared.disks.Report.TheVariants as reports
use Rattle.st_rules.specs.declared.lease.Excess.{Excess}
use Rattle.st_rules.specs.declared.observation.WorldRefusal.{WorldRefusal}
use Rattle.st_rules.specs.declared.observation.WorldRefusal.TheVariants as refusals
use Rattle.st_rules.specs.declared.world.SentMessage.{SentMessage}
use Rattle.st_rules.specs.declared.world.CutLink.{CutLink}
use Rattle.st_rules.specs.declared.world.IssuedCommand.{IssuedCommand}
use Rattle.st_rules.specs.declared.world.FlushStep.{FlushStep}
use Rattle.st_rules.specs.Leases.{rate_ok, greatest_of, least_of, drift_after, first_excess}
use Rattle.st_rules.specs.Disks.{command}
use Rattle.st_rules.specs.Client.{has_dirty_with}
use Rattle.st_rules.specs.Keys.{same_client, same_server}
use Rattle.st_rules.specs.World.{World, WorldClient, numbered, site_of, is_running, is_known, same_node, node_of_place, all_clients, all_servers, clock_of, message_of, receiver_of, sender_of, issued_of, life_with, lease_end_of, present_end, is_flush_of}

-- The first refusal that applies: a refusal applies if its test holds.
unfoldable pub stands : Bool → WorldRefusal → Option WorldRefusal
stands test refusal = if test then Some refusal else None

-- Nodes: there is no such node; it does not run; it runs.
abbrev pub no_node : World → NodeId → Option WorldRefusal
no_node w n = stands (not (is_known w n)) (refusals.NoNode n)

-- a node that does not run
abbrev pub not_running : World → NodeId → Option WorldRefusal
not_running w n = stands (not (is_running w n)) (refusals.NotRunning n)

-- a node that runs
abbrev pub still_running : World → NodeId → Option WorldRefusal
still_running w n = stands (is_running w n) (refusals.Running n)

-- A full network: the messages so far have 536,870,912 bytes or more.
abbrev pub net_full : World → Option WorldRefusal
net_full w = stands (nat_le 536870912 w.net.bytes) (refusals.NetFull w.net.bytes)

-- a node that is about to take a step
abbrev pub cannot_step : World → NodeId → Option WorldRefusal
cannot_step w n = option_or (not_running w n) (net_full w)

-- Delivery: there is no such message; it is lost; its direction is cut; its receiver does not run; the network is full.
abbrev pub is_lost : ℕ → SentMessage → Option WorldRefusal
is_lost k m = stands m.lost (refusals.LostMessage k)

-- this direction
abbrev pub is_link : NodeId → NodeId → CutLink → Bool
is_link from to x = same_node x.from from && same_node x.to to

-- the direction is cut
abbrev pub is_cut : World → NodeId → NodeId → Bool
is_cut w from to = list_any (is_link from to) w.net.cuts

-- a message whose direction is cut
abbrev pub link_cut : World → SentMessage → Option WorldRefusal
link_cut w m = stands (is_cut w (sender_of m) (receiver_of m)) (refusals.LinkCut (sender_of m) (receiver_of m))

-- delivering the message of a number
unfoldable pub refused_delivery : World → ℕ → Option SentMessage → Option WorldRefusal
refused_delivery w k None = Some (refusals.NoMessage k)
refused_delivery w k (Some m) = option_or (is_lost k m) (option_or (link_cut w m) (cannot_step w (receiver_of m)))

-- losing the message of a number
unfoldable pub refused_loss : ℕ → Option SentMessage → Option WorldRefusal
refused_loss k None = Some (refusals.NoMessage k)
refused_loss k (Some m) = is_lost k m

-- Advances, under the first form: the increments of this advance are not in bound.
abbrev pub rate_refused : World → List ℕ → Option WorldRefusal
rate_refused w steps = stands (not (rate_ok steps w.config.num w.config.den)) (refusals.ClockRate (greatest_of steps) (least_of steps))

-- and under the second: the advances with this one are not in bound, by the first pair that ran apart too far.
abbrev pub drift_refused : World → Option Excess → Option WorldRefusal
drift_refused w None = None
drift_refused w (Some x) = Some (refusals.ClockDrift (node_of_place w x.m) (node_of_place w x.n) x.excess)

-- the first pair of clocks that this advance takes apart too far
abbrev pub excess_with : World → List ℕ → Option Excess
excess_with w steps = first_excess (drift_after w.drift steps w.config.num w.config.den) w.config.den w.config.grain

-- clocks that would run apart
unfoldable pub clocks_refused : World → List ℕ → Option WorldRefusal
clocks_refused w steps = if w.form == 1 then rate_refused w steps else drift_refused w (excess_with w steps)

-- A command that is not reported yet.
abbrev pub is_open : Report → Bool
is_open reports.Open = true
is_open report = false

-- A write is out: a command of this instance of the client, in this life at the server,
abbrev pub is_command_of : ClientId → ServerId → ℕ → Life → IssuedCommand → Bool
is_command_of c s starts life x = (same_client x.client c && (x.starts == starts)) && (same_server x.server s && (x.life.0 == life.0))

-- that carries an entry and is not reported
abbrev pub is_open_write : IssuedCommand → DiskCommand → Bool
is_open_write x d = is_some x.carries && is_open d.report

-- both
abbrev pub is_write_out : ClientId → ServerId → ℕ → Life → IssuedCommand × DiskCommand → Bool
is_write_out c s starts life x = is_command_of c s starts life x.0 && is_open_write x.0 x.1

-- one of the client since its last start, in its present life at the server
abbrev pub has_write_out : World → ClientId → ServerId → WorldClient → Bool
has_write_out w c s site = list_any (is_write_out c s site.starts (life_with site.node.state s)) (zip w.commands w.disks.commands)

-- Missed flush: the advance takes a running client with dirty pages of a server to its lease end, and no step of it ended in
-- the flush phase under this end, or a write of it at that server is out.
abbrev pub reaches : Stamp → ℕ → Option Stamp → Bool
reaches clock step None = false
reaches clock step (Some end) = nat_lt clock.0 end.0 && nat_le end.0 (clock.0 + step)

-- a flush step under this lease end
abbrev pub is_flush_under : ClientId → ServerId → Option Stamp → FlushStep → Bool
is_flush_under c s None x = false
is_flush_under c s (Some end) x = is_flush_of c s x && (x.end.0 == end.0)

-- a step of the client ended in the flush phase under this end
abbrev pub has_flushed : World → ClientId → ServerId → Option Stamp → Bool
has_flushed w c s end = list_any (is_flush_under c s end) w.flushed

-- it should be flushed, and isn't, or isn't yet
abbrev pub is_unflushed : World → ClientId → ServerId → WorldClient → Option Stamp → Bool
is_unflushed w c s site end = has_dirty_with site.node.state s && (not (has_flushed w c s end) || has_write_out w c s site)

-- a running client that comes to its lease end unflushed
abbrev pub misses : World → ClientId → ServerId → ℕ → WorldClient → Option Stamp → Bool
misses w c s step site end = site.node.running && (reaches (clock_of w (nodes.Client c)) step end && is_unflushed w c s site end)

-- a client's increment
abbrev pub step_of : ClientId → List ℕ → ℕ
step_of c steps = unwrap_or (numbered steps c.0) 0

-- a client, at a server
abbrev pub missed_at : World → List ℕ → ClientId → ServerId → Option WorldClient → Option WorldRefusal
missed_at w steps c s None = None
missed_at w steps c s (Some site) = stands (misses w c s (step_of c steps) site (present_end w s (Some site))) (refusals.FlushMissed c s)

-- a client, at these servers in order
unfoldable pub missed_by : World → List ℕ → ClientId → List ServerId → Option WorldRefusal
missed_by w steps c [] = None
missed_by w steps c (s ∷ ss) = option_or (missed_at w steps c s (site_of w c)) (missed_by w steps c ss)

-- these clients in order
unfoldable pub flush_missed : World → List ℕ → List ClientId → Option WorldRefusal
flush_missed w steps [] = None
flush_missed w steps (c ∷ cs) = option_or (missed_by w steps c (all_servers w)) (flush_missed w steps cs)

-- Effects: there is no such command; it had its effect or was reported; its lease is over. The lease end that a clock reached
abbrev pub late_at : Stamp → Option Stamp → Option WorldRefusal
late_at clock None = None
late_at clock (Some end) = stands (nat_le end.0 clock.0) (refusals.LateDisk clock end)

-- a command whose client's clock reached the lease end of its life
abbrev pub late_disk : World → Option IssuedCommand → Option WorldRefusal
late_disk w None = None
late_disk w (Some c) = late_at (clock_of w (nodes.Client c.client)) (lease_end_of w c.client c.server c.life)

-- a command that can no longer have an effect
abbrev pub is_done : DiskCommand → Bool
is_done d = d.effected || not (is_open d.report)

-- the effect of the command of a number
unfoldable pub refused_effect : World → ℕ → Option DiskCommand → Option WorldRefusal
refused_effect w k None = Some (refusals.NoCommand k)
refused_effect w k (Some d) = option_or (stands (is_done d) (refusals.DiskState k)) (late_disk w (issued_of w k))

-- Reports: there is no such command; it was reported, or would succeed without its effect; the network is full.
abbrev pub is_told : Bool → DiskCommand → Bool
is_told ok d = not (is_open d.report) || (ok && not d.effected)

-- the report of the command of a number
unfoldable pub refused_report : World → ℕ → Bool → Option DiskCommand → Option WorldRefusal
refused_report w k ok None = Some (refusals.NoCommand k)
refused_report w k ok (Some d) = option_or (stands (is_told ok d) (refusals.DiskState k)) (net_full w)

-- Refusal: the first one of an event that applies, in this order.
unfoldable pub refusal : World → Event → Option WorldRefusal
refusal w (events.Tick n) = option_or (no_node w n) (cannot_step w n)
refusal w (events.App c ask) = option_or (no_node w (nodes.Client c)) (cannot_step w (nodes.Client c))
refusal w (events.Deliver k) = refused_delivery w k (message_of w k)
refusal w (events.Lose k) = refused_loss k (message_of w k)
refusal w (events.Cut from to) = option_or (no_node w from) (no_node w to)
refusal w (events.Heal from to) = option_or (no_node w from) (no_node w to)
refusal w (events.Advance steps) = option_or (clocks_refused w steps) (flush_missed w steps (all_clients w))
refusal w (events.Effect k) = refused_effect w k (command w.disks k)
refusal w (events.Report k ok) = refused_report w k ok (command w.disks k)
refusal w (events.Crash n) = option_or (no_node w n) (not_running w n)
refusal w (events.Start n) = option_or (no_node w n) (still_running w n)

-- opens all of this file
unfoldable pub admissible_open : ⊤
unfolding stands refused_delivery refused_loss clocks_refused missed_by flush_missed refused_effect refused_report refusal
admissible_open = tt
