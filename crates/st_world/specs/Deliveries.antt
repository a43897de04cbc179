-- Whether a message may be delivered, by its nodes, and whether a command may have its effect or its report, by its state.
use Rattle.std.specs.Prelude.{ℕ, Bool, ◌&&◌, ◌||◌, not, Option}
use Rattle.std.specs.Option.{option_or}
use Rattle.st_disk.specs.declared.commands.CommandState.{CommandState}
use Rattle.st_world_parts.specs.declared.places.MessageEnds.{MessageEnds}
use Rattle.st_rules.specs.declared.observation.WorldRefusal.{WorldRefusal}
use Rattle.st_rules.specs.declared.observation.WorldRefusal.TheVariants as refusals
use Rattle.st_rules.specs.Admissible.{cannot_step, is_cut, is_open, late_disk, net_full, stands}
use Rattle.st_rules.specs.World.{World, issued_of, node_at}

-- it is lost, its direction is cut, or its receiver can take no step
abbrev pub delivery_refused : World → ℕ → MessageEnds → Option WorldRefusal
delivery_refused w k h =
    option_or (stands h.lost (refusals.LostMessage k))
    (option_or (stands (is_cut w (node_at h.from) (node_at h.to)) (refusals.LinkCut (node_at h.from) (node_at h.to))) (cannot_step w (node_at h.to)))

-- the command had its effect or was reported, or its lease is over
abbrev pub effect_refused : World → ℕ → CommandState → Option WorldRefusal
effect_refused w k d = option_or (stands (d.effected || not (is_open d.report)) (refusals.DiskState k)) (late_disk w (issued_of w k))

-- the command was reported, or would succeed without its effect, or the network is full
abbrev pub report_refused : World → ℕ → Bool → CommandState → Option WorldRefusal
report_refused w k ok d = option_or (stands (not (is_open d.report) || (ok && not d.effected)) (refusals.DiskState k)) (net_full w)
