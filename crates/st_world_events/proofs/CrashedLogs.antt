-- The log of a client that crashed, by what is spared.
use Rattle.std.proofs.Common.{◌≡◌, ℕ, List, ap, ◌∙◌, Result, Ok, Err}
use Rattle.std.specs.Prelude.{◌&&◌, not, OnOk}
use Rattle.st_base.specs.declared.ids.ClientId.{ClientId}
use Rattle.st_world_parts.specs.Commands.{Spares}
use Rattle.st_model.specs.declared.marking.Spare.{Spare}
use Rattle.st_model.specs.Walks.{without_crashed}
use Rattle.st_rules.specs.declared.log.Cause.TheVariants as causes
use Rattle.st_rules.specs.FlatLog.{always, drop_picked, is_of_client}
use Rattle.st_rules.specs.Events.{fates_from, log_crashed, marks, world_turn, stopped_site, with_crashed_lives, with_log}
use Rattle.st_rules.specs.World.{WorldClient, World}
use Rattle.st_world_events.specs.Crashes.{crashed_at, with_site_at}

-- the log after a crash
pub crash_is : (w : World) (c : ClientId) (spared : List Spare) → Spares spared (record { disks = w.disks; commands = w.commands }) → without_crashed c spared w.log ≡ log_crashed w c
unfolding log_crashed
crash_is w c spared h = λ i. drop_picked w.log (λ number o. is_of_client c o && not (h number o i)) (always causes.Crash)

-- the scene after a crash
pub crashed_is : (w : World) (c : ClientId) (k : ℕ) (site : WorldClient) (spared : List Spare) → Spares spared (record { disks = w.disks; commands = w.commands }) →
    world_turn (with_log (without_crashed c spared w.log) (with_site_at k (stopped_site site) (with_crashed_lives site w))) (fates_from 1 w.log (without_crashed c spared w.log)) ≡ crashed_at c k site w
unfolding marks
crashed_is w c k site spared h =
    ap (λ l. world_turn (with_log l (with_site_at k (stopped_site site) (with_crashed_lives site w))) (fates_from 1 w.log l)) (crash_is w c spared h)

-- an outcome, and what it is
pub on_ok : {E : Type 0} {A : Type 0} (r : Result Unit E) (x y z : A) → OnOk r (x ≡ y) → y ≡ z → OnOk r (x ≡ z)
on_ok (Ok u) x y z h q = h ∙ q
on_ok (Err e) x y z h q = tt
