-- In every run the pages of the volume are the world's.
use Rattle.std.proofs.Common.{◌≡◌, ℕ, ◌+◌, true, List, [], ◌∷◌, ◌++◌, None, Ok, Err, refl, subst}
use Rattle.std.specs.Prelude.{Result}
use Rattle.std.specs.List.{list_all}
use Rattle.st_messages.specs.declared.event.Event.{Event}
use Rattle.st_rules.specs.declared.observation.WorldRefusal.{WorldRefusal}
use Rattle.st_rules.specs.Events.{WorldTurn, world_step}
use Rattle.st_rules.specs.History.{Traced, traced, traced_after}
use Rattle.st_rules.specs.Safety.{AnswersAreLogged, AsksAreAnsweredOnce, Promise, Step, TheReportTellsTheLog, Throughout, all_answered_once, all_followed, is_event, step, steps, steps_on}
use Rattle.st_rules.specs.World.{fresh_world}
use Rattle.st_lemmas.proofs.Tables.{and_true}
use Rattle.st_lemmas.proofs.Tests.{all_last}
use Rattle.st_promises.specs.Safe.{EveryRunIsSafe, IsSafeRun}
use Rattle.st_laws_volume.specs.Logs.{InEveryRun, IsLogOf}
use Rattle.st_laws_volume.specs.Reads.{HasPagesOf, PagesAgree}
use Rattle.st_laws_volume.specs.Witness.{Witness}
use Rattle.st_laws_volume.proofs.Carried.{IsKept, Led, carried}
use Rattle.st_laws_volume.proofs.Logs.{LogHolds, log_begins, log_kept}
use Rattle.st_laws_volume.proofs.Options.{on_more}
use Rattle.st_laws_volume.proofs.ReadContents.{fits_page, pages_same}
use Rattle.st_laws_volume.proofs.ReadRanges.{is_in_range, told_fits}

-- Promises that hold throughout.
pub throughout_both : (P Q : Promise) (past xs : List Step) → Throughout P past xs → Throughout Q past xs → Throughout (λ past x. P past x × Q past x) past xs
unfolding Throughout
throughout_both P Q past [] p q = tt
throughout_both P Q past (x ∷ xs) p q = ((p.0, q.0), throughout_both P Q (past ++ x ∷ []) xs p.1 q.1)

pub throughout_more : (P Q : Promise) → ((past : List Step) (x : Step) → P past x → Q past x) → (past xs : List Step) → Throughout P past xs →
    Throughout Q past xs
unfolding Throughout
throughout_more P Q h past [] p = tt
throughout_more P Q h past (x ∷ xs) p = (h past x p.0, throughout_more P Q h (past ++ x ∷ []) xs p.1)

-- The events of a run are in their ranges.
abbrev pub InRange : ℕ → Promise
InRange n past x = is_in_range n x ≡ true

pub all_in_range : (n : ℕ) (es : List Event) (past : List Step) (t : Traced) → list_all (is_event n) es ≡ true → Throughout (InRange n) past (steps es t)
unfolding steps steps_on Throughout
all_in_range n [] past t r = tt
all_in_range n (e ∷ es) past t r =
    let b = and_true (is_event n e) (list_all (is_event n) es) r in go (world_step t.world e) b.0 (λ past t. all_in_range n es past t b.1)
  where
    go : (o : Result WorldTurn WorldRefusal) → is_event n e ≡ true → ((past : List Step) (t : Traced) → Throughout (InRange n) past (steps es t)) →
        Throughout (InRange n) past (steps_on (steps es) t e o)
    go (Err o) p h = tt
    go (Ok sc) p h = (p, h (past ++ step t e sc ∷ []) (traced_after e t sc))

-- What is carried: all events were in their ranges, each entry fits its page, and the logs agree.
abbrev pub Given : ℕ → Promise
Given n past x = TheReportTellsTheLog past x × (InRange n past x × (AsksAreAnsweredOnce past x × AnswersAreLogged past x))

pub record PagesHold (n : ℕ) (past : List Step) (t : Traced) (it : Witness) : Type 0 where
  pub ranged : list_all (is_in_range n) past ≡ true
  pub fit : list_all fits_page t.world.log ≡ true
  pub agree : LogHolds past t it

pub pages_kept : (n : ℕ) → IsKept (Given n) (PagesHold n)
pages_kept n past t e sc it f g h =
    let x : Step = step t e sc in
    let ranged : list_all (is_in_range n) (past ++ x ∷ []) ≡ true = all_last (is_in_range n) past x h.ranged g.1.0 in
    record {
      ranged = ranged;
      fit =
          subst (λ es. list_all fits_page es ≡ true) g.0.entries
          (told_fits n past x ranged x.after.world x.before.world.log None x.seen
          (and_true (all_answered_once past x [] x.seen) (all_followed x.seen) g.1.1.0).1 g.1.1.1 h.fit);
      agree = log_kept past t e sc it f g.0 h.agree;
    }

pages_agreed : (n : ℕ) (past : List Step) (x : Step) → Led (PagesHold n) past x → PagesAgree past x
pages_agreed n past x h = on_more (IsLogOf x.after.world.log) (HasPagesOf x.after.world.log) (λ v k. pages_same x.after.world.log v k.entries h.fit) _ h.agree

pub pages_agree : EveryRunIsSafe → InEveryRun PagesAgree
unfolding fresh_world
pages_agree safe k clients servers disks blocks form es head events =
    let n = clients + servers in
    let t : Traced = traced (fresh_world k clients servers disks blocks form) in
    let kept : IsSafeRun (fresh_world k clients servers disks blocks form) es = safe k clients servers disks blocks form es head events in
    throughout_more (Led (PagesHold n)) PagesAgree (pages_agreed n) [] (steps es t)
    (carried (Given n) (PagesHold n) (pages_kept n) es t (record { ranged = refl; fit = refl; agree = log_begins k clients servers disks blocks form })
    (throughout_both TheReportTellsTheLog (λ past x. InRange n past x × (AsksAreAnsweredOnce past x × AnswersAreLogged past x)) [] (steps es t) kept.told
    (throughout_both (InRange n) (λ past x. AsksAreAnsweredOnce past x × AnswersAreLogged past x) [] (steps es t) (all_in_range n es [] t events)
    (throughout_both AsksAreAnsweredOnce AnswersAreLogged [] (steps es t) kept.once kept.logged))))
