-- A command of the disks that is not reported was not reported before an effect or a report, and was the same. A write that is not reported stays so.
use Rattle.st_lemmas.proofs.Words
use Words.{◌≡◌, ◌≢◌, ℕ, zero, suc, ◌⊎◌, Bool, true, false, List, Option, Some, None, Ok, Err, refl, sym, ap, ◌∙◌, inl, inr, if◌then◌else◌, length, set, Command}
use Words.{BlockAt, Tag, DiskCommand, Report}
use Words.commands
use Words.reports
use Words.Disks as disks
use Words.Disks.{Disks}
use Words.Events as ev
use Words.Lookups.{some_is}
use Words.Numbers.{set_length, set_other, set_own}
use Words.Tables.{same_or_not}
use Rattle.st_rules.specs.declared.disks.CommandRefusal.TheVariants as refusals
use Rattle.st_laws_pages.proofs.Disks.World.{at_set}

-- Each command that is open was open before, and the same.
abbrev pub OpensFrom : List DiskCommand → List DiskCommand → Type 0
OpensFrom ds es = (k : ℕ) (d : DiskCommand) → disks.command_at es k ≡ Some d → d.report ≡ reports.Open →
    (e : DiskCommand) × (disks.command_at ds k ≡ Some e) × (e.report ≡ reports.Open) × (d.what ≡ e.what)

pub opens_same : (ds : List DiskCommand) → OpensFrom ds ds
opens_same ds k d e r = (d, e, r, refl)

pub opens_set : (ds : List DiskCommand) (n : ℕ) (c d : DiskCommand) → disks.command_at ds (suc n) ≡ Some c →
    (d.report ≡ reports.Open → c.report ≡ reports.Open) → d.what ≡ c.what → OpensFrom ds (set ds n d)
opens_set ds n c d is r w k y e o = go (at_set ds n k d y e)
  where
    go : ((k ≡ suc n) × (y ≡ d)) ⊎ ((k ≢ suc n) × (disks.command_at ds k ≡ Some y)) →
        (x : DiskCommand) × (disks.command_at ds k ≡ Some x) × (x.report ≡ reports.Open) × (y.what ≡ x.what)
    go (inl q) = (c, ap (disks.command_at ds) q.0 ∙ is, r (ap (λ (z : DiskCommand). z.report) (sym q.1) ∙ o), ap (λ (z : DiskCommand). z.what) q.1 ∙ w)
    go (inr q) = (y, q.1, o, refl)

-- Commands go on: each that is open was open before, and there are as many.
pub record GoesOn (ds es : List DiskCommand) : Type 0 where
  pub opens : OpensFrom ds es
  pub count : length es ≡ length ds

pub goes_same : (ds : List DiskCommand) → GoesOn ds ds
goes_same ds = record { opens = opens_same ds; count = refl }

goes_set : (ds : List DiskCommand) (n : ℕ) (c d : DiskCommand) → disks.command_at ds (suc n) ≡ Some c → (d.report ≡ reports.Open → c.report ≡ reports.Open) →
    d.what ≡ c.what → GoesOn ds (set ds n d)
goes_set ds n c d is r w = record { opens = opens_set ds n c d is r w; count = set_length ds n d }

-- an effect
pub goes_effect : (d : Disks) (n : ℕ) → GoesOn d.commands (ev.disks_after d (disks.effect d n)).commands
unfolding disks.effect disks.effect_at disks.effect_reported disks.effect_once disks.effect_of
goes_effect d zero = goes_same d.commands
goes_effect d (suc n) = at (disks.command d (suc n)) refl
  where
    what : (c : DiskCommand) (w : Command) → disks.command d (suc n) ≡ Some c → GoesOn d.commands (disks.effect_of d (suc n) c w).commands
    what c (commands.Read b) e = goes_set d.commands n c (disks.sampled (disks.block d b) c) e (λ z. z) refl
    what c (commands.Write b tag bytes) e = goes_set d.commands n c (disks.effected c) e (λ z. z) refl

    once : (c : DiskCommand) (b : Bool) → disks.command d (suc n) ≡ Some c →
        GoesOn d.commands (ev.disks_after d (if b then Err (refusals.Twice (suc n)) else Ok (disks.effect_of d (suc n) c c.what))).commands
    once c true e = goes_same d.commands
    once c false e = what c c.what e

    reported : (c : DiskCommand) (r : Report) → disks.command d (suc n) ≡ Some c →
        GoesOn d.commands (ev.disks_after d (disks.effect_reported d (suc n) c r)).commands
    reported c reports.Open e = once c c.effected e
    reported c reports.Succeeded e = goes_same d.commands
    reported c reports.Failed e = goes_same d.commands

    at : (o : Option DiskCommand) → disks.command d (suc n) ≡ o → GoesOn d.commands (ev.disks_after d (disks.effect_at d (suc n) o)).commands
    at None e = goes_same d.commands
    at (Some c) e = reported c c.report e

pub shut : (ok : Bool) → disks.report_of ok ≡ reports.Open → ⊥
shut true e = cc
shut false e = cc

-- a report
pub goes_report : (d : Disks) (n : ℕ) (ok : Bool) → GoesOn d.commands (ev.disks_after d (disks.done d n ok)).commands
unfolding disks.done disks.done_at disks.done_unreported disks.done_once
goes_report d zero ok = goes_same d.commands
goes_report d (suc n) ok = at (disks.command d (suc n)) refl
  where
    once : (c : DiskCommand) (b : Bool) → disks.command d (suc n) ≡ Some c →
        GoesOn d.commands
        (ev.disks_after d (if b then Err (refusals.NotEffected (suc n)) else Ok (disks.with_command (suc n) (disks.reported ok c) d))).commands
    once c true e = goes_same d.commands
    once c false e = goes_set d.commands n c (disks.reported ok c) e (λ z. absurd (shut ok z)) refl

    reported : (c : DiskCommand) (r : Report) → disks.command d (suc n) ≡ Some c →
        GoesOn d.commands (ev.disks_after d (disks.done_unreported d (suc n) ok c r)).commands
    reported c reports.Open e = once c (disks.lacks_effect ok c) e
    reported c reports.Succeeded e = goes_same d.commands
    reported c reports.Failed e = goes_same d.commands

    at : (o : Option DiskCommand) → disks.command d (suc n) ≡ o → GoesOn d.commands (ev.disks_after d (disks.done_at d (suc n) ok o)).commands
    at None e = goes_same d.commands
    at (Some c) e = reported c c.report e

-- A command stays if another one is replaced.
pub set_leaves : (ds : List DiskCommand) (n k : ℕ) (x d : DiskCommand) → k ≢ suc n → disks.command_at ds k ≡ Some d → disks.command_at (set ds n x) k ≡ Some d
set_leaves ds n zero x d q e = cc
set_leaves ds n (suc k) x d q e = set_other ds n k x (λ z. q (ap suc z)) ∙ e

-- A write that is open stays open, and samples what it did.
pub record StaysOpen (es : List DiskCommand) (k : ℕ) (d : DiskCommand) : Type 0 where
  pub after : DiskCommand
  pub is : disks.command_at es k ≡ Some after
  pub unreported : after.report ≡ reports.Open
  pub what_is : after.what ≡ d.what
  pub sample_is : after.sample ≡ d.sample

abbrev pub WritesStay : List DiskCommand → List DiskCommand → Type 0
WritesStay ds es =
    (k : ℕ) (d : DiskCommand) (at : BlockAt) (tag : Tag) (bytes : List ℕ) → disks.command_at ds k ≡ Some d → d.what ≡ commands.Write at tag bytes →
    d.report ≡ reports.Open → StaysOpen es k d

pub writes_same : (ds : List DiskCommand) → WritesStay ds ds
writes_same ds k d at tag bytes e w r = record { after = d; is = e; unreported = r; what_is = refl; sample_is = refl }

writes_set : (ds : List DiskCommand) (n : ℕ) (c d : DiskCommand) → disks.command_at ds (suc n) ≡ Some c → d.report ≡ c.report → d.what ≡ c.what →
    ((at : BlockAt) (tag : Tag) (bytes : List ℕ) → c.what ≡ commands.Write at tag bytes → d.sample ≡ c.sample) → WritesStay ds (set ds n d)
writes_set ds n c d is r w s k y at tag bytes e f o = go (same_or_not k (suc n))
  where
    go : (k ≡ suc n) ⊎ (k ≢ suc n) → StaysOpen (set ds n d) k y
    go (inl q) =
        let same : c ≡ y = some_is (sym is ∙ ap (disks.command_at ds) (sym q) ∙ e) in
        record {
          after = d;
          is = ap (disks.command_at (set ds n d)) q ∙ set_own ds n d c is;
          unreported = r ∙ ap (λ (z : DiskCommand). z.report) same ∙ o;
          what_is = w ∙ ap (λ (z : DiskCommand). z.what) same;
          sample_is = s at tag bytes (ap (λ (z : DiskCommand). z.what) same ∙ f) ∙ ap (λ (z : DiskCommand). z.sample) same;
        }
    go (inr q) = record { after = y; is = set_leaves ds n k d y q e; unreported = o; what_is = refl; sample_is = refl }

-- an effect
pub writes_effect : (d : Disks) (n : ℕ) → WritesStay d.commands (ev.disks_after d (disks.effect d n)).commands
unfolding disks.effect disks.effect_at disks.effect_reported disks.effect_once disks.effect_of
writes_effect d zero = writes_same d.commands
writes_effect d (suc n) = at (disks.command d (suc n)) refl
  where
    no : (b : BlockAt) (at : BlockAt) (tag : Tag) (bytes : List ℕ) → commands.Read b ≡ commands.Write at tag bytes → ⊥
    no b at tag bytes z = cc

    what : (c : DiskCommand) (w : Command) → c.what ≡ w → disks.command d (suc n) ≡ Some c → WritesStay d.commands (disks.effect_of d (suc n) c w).commands
    what c (commands.Read b) q e = writes_set d.commands n c (disks.sampled (disks.block d b) c) e refl refl
        (λ at tag bytes z. absurd (no b at tag bytes (sym q ∙ z)))
    what c (commands.Write b tag bytes) q e = writes_set d.commands n c (disks.effected c) e refl refl (λ at tag bytes z. refl)

    once : (c : DiskCommand) (b : Bool) → disks.command d (suc n) ≡ Some c →
        WritesStay d.commands (ev.disks_after d (if b then Err (refusals.Twice (suc n)) else Ok (disks.effect_of d (suc n) c c.what))).commands
    once c true e = writes_same d.commands
    once c false e = what c c.what refl e

    reported : (c : DiskCommand) (r : Report) → disks.command d (suc n) ≡ Some c →
        WritesStay d.commands (ev.disks_after d (disks.effect_reported d (suc n) c r)).commands
    reported c reports.Open e = once c c.effected e
    reported c reports.Succeeded e = writes_same d.commands
    reported c reports.Failed e = writes_same d.commands

    at : (o : Option DiskCommand) → disks.command d (suc n) ≡ o → WritesStay d.commands (ev.disks_after d (disks.effect_at d (suc n) o)).commands
    at None e = writes_same d.commands
    at (Some c) e = reported c c.report e
