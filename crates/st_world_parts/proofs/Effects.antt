-- What effects and reports do to the commands that were not reported.
use Rattle.std.proofs.Common.{◌≡◌, ℕ, zero, suc, ◌+◌, ◌-◌, ◌<◌, Bool, true, false, if◌then◌else◌, length, refl, sym, ap, subst, ◌∙◌, arith}
use Rattle.std.specs.Prelude.{◌==◌, not, filter, Option, Some, None, Result, Ok, Err}
use Rattle.std.proofs.lemmas.Option.{slice_get_within}
use Rattle.std.proofs.Math.ListN.{length-set}
use Rattle.st_base.specs.declared.disk.Command.{Command}
use Rattle.st_base.specs.declared.disk.Command.TheVariants as commands
use Rattle.st_disk.specs.declared.refusal.DiskRefusal.{DiskRefusal}
use Rattle.st_disk.specs.Calls.{told}
use Rattle.st_rules.specs.declared.disks.CommandRefusal.{CommandRefusal}
use Rattle.st_rules.specs.declared.disks.CommandRefusal.TheVariants as refusals
use Rattle.st_rules.specs.declared.disks.DiskCommand.{DiskCommand}
use Rattle.st_rules.specs.declared.disks.Report.{Report}
use Rattle.st_rules.specs.declared.disks.Report.TheVariants as reports
use Rattle.st_rules.specs.Admissible.{is_open}
use Rattle.st_rules.specs.Disks.{Disks, command, with_command, effect, effect_at, effect_reported, effect_once, effect_of, done, done_at, done_unreported, done_once, lacks_effect, reported, report_of, effected, sampled, block}
use Rattle.st_rules.specs.Events.{disks_after}
use Rattle.st_world_parts.specs.OutstandingCommands.{open_from}
use Rattle.st_world_parts.specs.Commands.{SameOpen, IsClosed}
use Rattle.st_world_parts.proofs.Opens.{open_stays, open_closed}

-- a call that was made leaves what the rule says
pub told_ok : (new : Disks) (rule : Result Disks CommandRefusal) → Ok new ≡ told rule → rule ≡ Ok new
told_ok new (Ok d) h = let e : new ≡ d = cc in ap (λ x. Ok x) (sym e)
told_ok new (Err r) h = absurd (cc)

-- a command under its number, whose report stays
same_report : (d : Disks) (k : ℕ) (c x : DiskCommand) → command d k ≡ Some c → is_open x.report ≡ is_open c.report → SameOpen d (with_command k x d)
same_report d zero c x h q = absurd (cc)
same_report d (suc i) c x h q = record { each = length-set d.commands i x; unreported = open_stays 0 i d.commands c x h q }

effect_opens_by : (d : Disks) (k : ℕ) (c : DiskCommand) (what : Command) → command d k ≡ Some c → SameOpen d (effect_of d k c what)
unfolding effect_of
effect_opens_by d k c (commands.Read at) h = same_report d k c (sampled (block d at) c) h refl
effect_opens_by d k c (commands.Write at tag bytes) h = let s = same_report d k c (effected c) h refl in record { each = s.each; unreported = s.unreported }

effect_once_opens : (d : Disks) (k : ℕ) (c : DiskCommand) (b : Bool) (new : Disks) → command d k ≡ Some c → (if b then Err (refusals.Twice k) else Ok (effect_of d k c c.what)) ≡ Ok new → SameOpen d new
effect_once_opens d k c true new h q = absurd (cc)
effect_once_opens d k c false new h q = let e : effect_of d k c c.what ≡ new = cc in subst (SameOpen d) e (effect_opens_by d k c c.what h)

effect_reported_opens : (d : Disks) (k : ℕ) (c : DiskCommand) (r : Report) (new : Disks) → command d k ≡ Some c → effect_reported d k c r ≡ Ok new → SameOpen d new
unfolding effect_reported effect_once
effect_reported_opens d k c reports.Open new h q = effect_once_opens d k c c.effected new h q
effect_reported_opens d k c reports.Succeeded new h q = absurd (cc)
effect_reported_opens d k c reports.Failed new h q = absurd (cc)

effect_at_opens : (d : Disks) (k : ℕ) (o : Option DiskCommand) (new : Disks) → command d k ≡ o → effect_at d k o ≡ Ok new → SameOpen d new
unfolding effect_at
effect_at_opens d k None new h q = absurd (cc)
effect_at_opens d k (Some c) new h q = effect_reported_opens d k c c.report new h q

-- an effect reports nothing
pub effect_opens : (d : Disks) (k : ℕ) (new : Disks) → effect d k ≡ Ok new → SameOpen d new
unfolding effect
effect_opens d k new q = effect_at_opens d k (command d k) new refl q

closed : (d : Disks) (k : ℕ) (ok : Bool) (c : DiskCommand) → command d k ≡ Some c → IsClosed d k (with_command k (reported ok c) d)
closed d zero ok c h = absurd (cc)
closed d (suc i) ok c h =
    let low : i < length d.commands = slice_get_within d.commands i c h in
    let at : 0 + i ≡ suc i - 1 = omega arith in
    record {
      some = omega arith;
      each = length-set d.commands i (reported ok c);
      unreported = open_closed 0 i d.commands (reported ok c) low (shut ok) ∙ ap (λ n. filter (λ x. not (x == n)) (open_from 0 d.commands)) at;
    }
  where
    shut : (b : Bool) → is_open (report_of b) ≡ false
    shut true = refl
    shut false = refl

done_once_closes : (d : Disks) (k : ℕ) (ok : Bool) (c : DiskCommand) (b : Bool) (new : Disks) → command d k ≡ Some c → (if b then Err (refusals.NotEffected k) else Ok (with_command k (reported ok c) d)) ≡ Ok new → IsClosed d k new
done_once_closes d k ok c true new h q = absurd (cc)
done_once_closes d k ok c false new h q = let e : with_command k (reported ok c) d ≡ new = cc in subst (IsClosed d k) e (closed d k ok c h)

done_unreported_closes : (d : Disks) (k : ℕ) (ok : Bool) (c : DiskCommand) (r : Report) (new : Disks) → command d k ≡ Some c → done_unreported d k ok c r ≡ Ok new → IsClosed d k new
unfolding done_unreported done_once
done_unreported_closes d k ok c reports.Open new h q = done_once_closes d k ok c (lacks_effect ok c) new h q
done_unreported_closes d k ok c reports.Succeeded new h q = absurd (cc)
done_unreported_closes d k ok c reports.Failed new h q = absurd (cc)

done_at_closes : (d : Disks) (k : ℕ) (ok : Bool) (o : Option DiskCommand) (new : Disks) → command d k ≡ o → done_at d k ok o ≡ Ok new → IsClosed d k new
unfolding done_at
done_at_closes d k ok None new h q = absurd (cc)
done_at_closes d k ok (Some c) new h q = done_unreported_closes d k ok c c.report new h q

-- a report closes its command
pub done_closes : (d : Disks) (k : ℕ) (ok : Bool) (new : Disks) → done d k ok ≡ Ok new → IsClosed d k new
unfolding done
done_closes d k ok new q = done_at_closes d k ok (command d k) new refl q
