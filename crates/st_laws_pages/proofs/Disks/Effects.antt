-- What an effect and a report find, and what they do to the disks, the commands, the log and the client.
use Rattle.st_lemmas.proofs.Words
use Words.{◌≡◌, ℕ, Bool, true, false, not, ◌||◌, List, Option, Some, None, Ok, Err, refl, ap, ◌∙◌, subst, if◌then◌else◌, unwrap_or, BlockAt, Tag, Block}
use Words.{DiskCommand, Report}
use Words.commands
use Words.events
use Words.reports
use Words.Keys.{same_block}
use Words.Disks as disks
use Words.Disks.{Disks, block, is_block_at}
use Words.World as world
use Words.World.{World, issued_of}
use Words.Admissible as adm
use Words.Events as ev
use Words.Worlds.{stands_not}
use Rattle.std.specs.Option.{option_or}
use Rattle.st_rules.specs.declared.disks.CommandRefusal.TheVariants as refusals
use Rattle.st_lemmas.proofs.Puts.{find_put_by, find_put_other}

-- Effect: what an admissible one does
pub or_none : {A : Type 0} (o p : Option A) → option_or o p ≡ None → (o ≡ None) × (p ≡ None)
or_none None p e = (refl, e)
or_none (Some x) p e = cc

-- what an admissible effect finds: the command was neither reported nor had its effect, and its lease is not over
pub record EffectFinds (w : World) (k : ℕ) (d : DiskCommand) : Type 0 where
  pub is : disks.command w.disks k ≡ Some d
  pub unreported : d.report ≡ reports.Open
  pub fresh : d.effected ≡ false
  pub timely : adm.late_disk w (world.issued_of w k) ≡ None

pub effect_finds : (w : World) (k : ℕ) (d : DiskCommand) → disks.command w.disks k ≡ Some d → adm.refusal w (events.Effect k) ≡ None → EffectFinds w k d
unfolding adm.refusal adm.refused_effect
effect_finds w k d is e =
    let h = or_none _ _ (subst (λ o. adm.refused_effect w k o ≡ None) is e) in
    let b = stands_not (adm.is_done d) _ h.0 in
    record { is = is; unreported = opened d.report (right d.effected _ b); fresh = left d.effected _ b; timely = h.1 }
  where
    left : (a b : Bool) → (a || b) ≡ false → a ≡ false
    left true b e = cc
    left false b e = refl

    right : (a b : Bool) → (a || b) ≡ false → b ≡ false
    right true b e = cc
    right false b e = e

    opened : (r : Report) → not (adm.is_open r) ≡ false → r ≡ reports.Open
    opened reports.Open e = refl
    opened reports.Succeeded e = cc
    opened reports.Failed e = cc

-- the world after it: the disks have the command's effect, and the log is hard up to the entry that it carries
pub effect_is : (w : World) (k : ℕ) (d : DiskCommand) → EffectFinds w k d → (ev.effects w k).world ≡ ev.with_log (ev.log_hard w.log (ev.carried_by (world.issued_of w k))) (ev.with_disks (disks.effect_of w.disks k d d.what) w)
unfolding ev.effects ev.marks disks.effect disks.effect_at disks.effect_reported disks.effect_once
effect_is w k d f =
    ap (λ x. ev.with_log (ev.log_hard w.log (ev.carried_by (world.issued_of w k))) (ev.with_disks (ev.disks_after w.disks x) w))
    (ap (λ o. disks.effect_at w.disks k o) f.is ∙ ap (λ r. disks.effect_reported w.disks k d r) f.unreported ∙ ap (λ b. if b then Err (refusals.Twice k) else Ok (disks.effect_of w.disks k d d.what)) f.fresh)

pub wrote_own : (d : Disks) (n : ℕ) (c : DiskCommand) (at : BlockAt) (tag : Tag) (bytes : List ℕ) → same_block at at ≡ true → block (disks.effect_of d n c (commands.Write at tag bytes)) at ≡ record { at = at; tag = tag; bytes = bytes }
unfolding disks.effect_of
wrote_own d n c at tag bytes e =
    ap (λ o. unwrap_or o (disks.fresh_block at)) (find_put_by (is_block_at at) (is_block_at at) (record { at = at; tag = tag; bytes = bytes }) d.written e (λ x h. h))

pub wrote_other : (d : Disks) (n : ℕ) (c : DiskCommand) (at : BlockAt) (tag : Tag) (bytes : List ℕ) (to : BlockAt) → same_block at to ≡ false → ((x : Block) → is_block_at to x ≡ true → is_block_at at x ≡ false) → block (disks.effect_of d n c (commands.Write at tag bytes)) to ≡ block d to
unfolding disks.effect_of
wrote_other d n c at tag bytes to e h =
    ap (λ o. unwrap_or o (disks.fresh_block to)) (find_put_other (is_block_at to) (is_block_at at) (record { at = at; tag = tag; bytes = bytes }) d.written e h)

-- Report: what an admissible one finds
pub record ReportFinds (w : World) (k : ℕ) (ok : Bool) (d : DiskCommand) : Type 0 where
  pub is : disks.command w.disks k ≡ Some d
  pub unreported : d.report ≡ reports.Open
  pub done : disks.lacks_effect ok d ≡ false

pub report_finds : (w : World) (k : ℕ) (ok : Bool) (d : DiskCommand) → disks.command w.disks k ≡ Some d → adm.refusal w (events.Report k ok) ≡ None → ReportFinds w k ok d
unfolding adm.refusal adm.refused_report
report_finds w k ok d is e =
    let h = or_none _ _ (subst (λ o. adm.refused_report w k ok o ≡ None) is e) in
    let b = stands_not (adm.is_told ok d) _ h.0 in
    record { is = is; unreported = opened d.report (left (not (adm.is_open d.report)) _ b); done = right (not (adm.is_open d.report)) _ b }
  where
    left : (a b : Bool) → (a || b) ≡ false → a ≡ false
    left true b e = cc
    left false b e = refl

    right : (a b : Bool) → (a || b) ≡ false → b ≡ false
    right true b e = cc
    right false b e = e

    opened : (r : Report) → not (adm.is_open r) ≡ false → r ≡ reports.Open
    opened reports.Open e = refl
    opened reports.Succeeded e = cc
    opened reports.Failed e = cc

-- the world in which the client is informed: nothing but the command's report changed
abbrev pub reported_world : World → ℕ → Bool → DiskCommand → World
reported_world w k ok d = ev.with_disks (disks.with_command k (disks.reported ok d) w.disks) w

pub report_is : (w : World) (k : ℕ) (ok : Bool) (d : DiskCommand) → ReportFinds w k ok d → ev.reports_of w k ok ≡ ev.tells (reported_world w k ok d) k ok (issued_of w k)
unfolding ev.reports_of disks.done disks.done_at disks.done_unreported disks.done_once
report_is w k ok d f =
    ap (λ x. ev.tells (ev.with_disks (ev.disks_after w.disks x) w) k ok (issued_of w k))
    (ap (λ o. disks.done_at w.disks k ok o) f.is ∙ ap (λ r. disks.done_unreported w.disks k ok d r) f.unreported ∙ ap (λ b. if b then Err (refusals.NotEffected k) else Ok (disks.with_command k (disks.reported ok d) w.disks)) f.done)

pub reported_is : (w : World) (k : ℕ) (ok : Bool) (d : DiskCommand) → ReportFinds w k ok d → ev.with_disks (ev.disks_after w.disks (disks.done w.disks k ok)) w ≡ reported_world w k ok d
unfolding disks.done disks.done_at disks.done_unreported disks.done_once
reported_is w k ok d f =
    ap (λ x. ev.with_disks (ev.disks_after w.disks x) w)
    (ap (λ o. disks.done_at w.disks k ok o) f.is ∙ ap (λ r. disks.done_unreported w.disks k ok d r) f.unreported ∙ ap (λ b. if b then Err (refusals.NotEffected k) else Ok (disks.with_command k (disks.reported ok d) w.disks)) f.done)
