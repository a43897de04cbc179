-- In every run the volume takes answers that tell a read's bytes, `nospace` and `nofile`.
use Rattle.st_lemmas.proofs.Words
use Words.{◌≡◌, ◌⊎◌, ℕ, Bool, true, false, not, ◌&&◌, ◌||◌, ◌==◌, List, [], ◌∷◌, Option, Some, None, refl, ap, ◌∙◌, subst, inl, inr}
use Words.{bytes_eq, eq-eqb, find, is_some, length, AppAnswer, Ask, ClientId, FileId, PageNo}
use Words.answers
use Words.asks
use Words.History.{Traced, traced}
use Words.Lookups.{if_true, or_left, or_right}
use Words.Safety.{Promise, Step, steps}
use Words.Tables.{and_both}
use Words.World.{World, fresh_world}
use Rattle.std.specs.Prelude.{option_and_then}
use Rattle.std.proofs.lemmas.Slice.Eq.{bytes_eq-Decides}
use Rattle.st_promises.specs.Safe.{EveryRunIsSafe}
use Rattle.st_laws_pages.specs.Disks.Runs.{PagesAfter}
use Rattle.st_laws_volume.specs.AnswerKinds.{AnswersFollowLines, IsAfterLines, IsOfUndone, ResultsAreAnswered, is_no_file, is_no_space, is_read_answer}
use Rattle.st_laws_volume.specs.FullServers.{FullServersAreNoticed, FullServersHaveNoRoom, IsFullNoticed, IsOfFull}
use Rattle.st_laws_volume.specs.LateFiles.{IsOfLateFile, LateFilesAreMissed}
use Rattle.st_laws_volume.specs.Logs.{InEveryRun}
use Rattle.st_laws_volume.specs.NoFileAnswers.{CameLater, FilesAreMissing, IsNoFile}
use Rattle.st_laws_volume.specs.Options.{OnSome}
use Rattle.st_laws_volume.specs.ReadFiles.{IsOfFree, ReadsFindTheirFiles}
use Rattle.st_laws_volume.specs.Reads.{HasBytes, IsRightRead, ReadsGiveThePages}
use Rattle.st_laws_volume.specs.StepKinds.{AnswersAreToOpenAsks, AreTaken, AtEachStep, AtEachStepOf, IsOpenAt, StepsAreTaken}
use Rattle.st_laws_volume.specs.Witness.{led_to, steps_of}
use Rattle.st_laws_volume.proofs.AnswerLines.{Takes, at_two, taken_at}
use Rattle.st_laws_volume.proofs.AnswersTold.{answers_follow_lines}
use Rattle.st_laws_volume.proofs.ChangeLines.{on_both}
use Rattle.st_laws_volume.proofs.FreeReads.{reads_find_their_files}
use Rattle.st_laws_volume.proofs.FullRoom.{full_servers_have_no_room}
use Rattle.st_laws_volume.proofs.LateAsks.{full_servers_are_noticed}
use Rattle.st_laws_volume.proofs.LateFiles.{late_files_are_missed}
use Rattle.st_laws_volume.proofs.NoFileAnswers.{files_are_missing}
use Rattle.st_laws_volume.proofs.OpenAnswers.{answers_are_to_open_asks}
use Rattle.st_laws_volume.proofs.Options.{on_more}
use Rattle.st_laws_volume.proofs.ReadAnswers.{reads_give_the_pages}
use Rattle.st_laws_volume.proofs.ReadPages.{throughout_both, throughout_more}
use Rattle.st_laws_volume.proofs.UnresultedAnswers.{results_are_answered}
use Rattle.st_volume.specs.declared.step.VolumeStep.{VolumeStep}
use Rattle.st_volume.specs.declared.step.VolumeStep.TheVariants as kinds
use Rattle.st_volume.specs.Pages.{content, place_of}
use Rattle.st_volume.specs.Volume as volume
use Rattle.st_volume.specs.Volume.{Pending, Volume, answered, answers_so, is_ask, is_free, is_read, is_sync, server_of, tree_of}

-- What is known of an answer: each entry has had its line, and the ask is open; and a fact of its kind.
abbrev pub Known : (VolumeStep → Volume → Type 0) → VolumeStep → Volume → Type 0
Known fact it u = IsAfterLines it u × (IsOpenAt it u × fact it u)

-- It is taken if it fits its ask.
pub takes : (u : Volume) (c : ClientId) (op : ℕ) (answer : AppAnswer) → u.lines ≡ length u.log → is_some (find (is_ask c op) u.pending) ≡ true →
    ((a : Pending) → find (is_ask c op) u.pending ≡ Some a → answers_so u a answer a.result ≡ true) →
    is_some (volume.step u (kinds.Answered c op answer)) ≡ true
takes u c op answer told there fits =
    ap is_some (if_true (u.lines == length u.log) (volume.acts u (kinds.Answered c op answer)) None (eq-eqb u.lines (length u.log) told))
    ∙ go (find (is_ask c op) u.pending) there fits
  where
    go : (o : Option Pending) → is_some o ≡ true → ((a : Pending) → o ≡ Some a → answers_so u a answer a.result ≡ true) →
        is_some (option_and_then (answered u answer) o) ≡ true
    go None q h = cc q
    go (Some a) q h =
        ap is_some (if_true (answers_so u a answer a.result) (Some (volume.closed a (volume.after_answer u a answer))) None (h a refl))

-- An answer that tells the bytes of a page
abbrev ReadFact : VolumeStep → Volume → Type 0
ReadFact it u = IsOfUndone it u × (IsRightRead it u × IsOfFree it u)

read_so : (u : Volume) (a : Pending) (bytes : List ℕ) → ((f : FileId) (p : PageNo) → a.ask ≡ asks.Read f p → is_free u a.client f ≡ true) →
    HasBytes bytes u a.ask → is_read u a.client bytes a.ask ≡ true
read_so u a bytes free has = by a.ask refl has
  where
    by : (ask : Ask) → a.ask ≡ ask → HasBytes bytes u ask → is_read u a.client bytes ask ≡ true
    by (asks.Read f p) e q =
        and_both (is_free u a.client f) (bytes_eq bytes (content u.log (f, p))) (free f p e) ((bytes_eq-Decides bytes (content u.log (f, p))).1 q)
    by (asks.Write f p b) e q = absurd q
    by (asks.Patch f p at b) e q = absurd q
    by (asks.Sync f) e q = absurd q
    by (asks.Cut f p) e q = absurd q
    by (asks.Name s ask) e q = absurd q

read_taken : (it : VolumeStep) (u : Volume) → Known ReadFact it u → Takes is_read_answer it u
read_taken (kinds.Answered c op answer) u h = by answer h
  where
    by : (answer : AppAnswer) → Known ReadFact (kinds.Answered c op answer) u → Takes is_read_answer (kinds.Answered c op answer) u
    by (answers.Read bytes) h = λ w. takes u c op (answers.Read bytes) h.0 h.1.0 one
      where
        one : (a : Pending) → find (is_ask c op) u.pending ≡ Some a → answers_so u a (answers.Read bytes) a.result ≡ true
        one a q =
            ap (answers_so u a (answers.Read bytes)) (h.1.1.0 refl a q)
            ∙ read_so u a bytes (λ f p e. h.1.1.1.1 a q f p e) (subst (OnSome (λ b. HasBytes bytes u b.ask)) q (h.1.1.1.0 h.0))
    by answer h = λ w. cc w
read_taken it u h = λ w. cc w

-- An answer `nospace`
abbrev SpaceFact : List Step → VolumeStep → Volume → Type 0
SpaceFact past it u = IsFullNoticed past it u

space_taken : (past : List Step) (it : VolumeStep) (u : Volume) → Known (SpaceFact past) it u → Takes is_no_space it u
space_taken past (kinds.Answered c op answer) u h = by answer h
  where
    by : (answer : AppAnswer) → Known (SpaceFact past) (kinds.Answered c op answer) u → Takes is_no_space (kinds.Answered c op answer) u
    by (answers.NoSpace left wanted) h = λ w. takes u c op (answers.NoSpace left wanted) h.0 h.1.0 one
      where
        one : (a : Pending) → find (is_ask c op) u.pending ≡ Some a → answers_so u a (answers.NoSpace left wanted) a.result ≡ true
        one a q = go (h.1.1 a q)
          where
            go : IsOfFull past a left wanted → answers_so u a (answers.NoSpace left wanted) a.result ≡ true
            go z =
                ap (answers_so u a (answers.NoSpace left wanted)) z.refused.undone
                ∙ and_both (a.full && is_some (place_of a.ask)) ((left == 0) && (wanted == 1))
                (and_both a.full (is_some (place_of a.ask)) z.noticed (ap is_some z.refused.place))
                (and_both (left == 0) (wanted == 1) (eq-eqb left 0 z.refused.none) (eq-eqb wanted 1 z.refused.one))
    by answer h = λ w. cc w
space_taken past it u h = λ w. cc w

-- An answer `nofile`
abbrev FileFact : List Step → World → VolumeStep → Volume → Type 0
FileFact past w it u = IsNoFile past w it u × IsOfLateFile past w it u

file_taken : (past : List Step) (w : World) (it : VolumeStep) (u : Volume) → Known (FileFact past w) it u → Takes is_no_file it u
file_taken past w (kinds.Answered c op answer) u h = by answer h
  where
    by : (answer : AppAnswer) → Known (FileFact past w) (kinds.Answered c op answer) u → Takes is_no_file (kinds.Answered c op answer) u
    by answers.NoFile h = λ y. takes u c op answers.NoFile h.0 h.1.0 one
      where
        one : (a : Pending) → find (is_ask c op) u.pending ≡ Some a → answers_so u a answers.NoFile a.result ≡ true
        one a q = ap (answers_so u a answers.NoFile) (h.1.1.0 a q).undone ∙ go (h.1.1.0 a q).missing
          where
            missed : (a.missed ≡ true) ⊎ CameLater past w (volume.file_of a.ask) a.client a.op → a.missed ≡ true
            missed (inl e) = e
            missed (inr l) = h.1.1.1 a q l

            go : (tree_of u (server_of a.ask) ≡ None)
                ⊎ ((is_sync a.ask ≡ false) × ((a.missed ≡ true) ⊎ CameLater past w (volume.file_of a.ask) a.client a.op)) →
                (not (is_some (tree_of u (server_of a.ask))) || (a.missed && not (is_sync a.ask))) ≡ true
            go (inl e) = or_left (not (is_some (tree_of u (server_of a.ask)))) (a.missed && not (is_sync a.ask)) (ap (λ o. not (is_some o)) e)
            go (inr z) =
                or_right (not (is_some (tree_of u (server_of a.ask)))) (a.missed && not (is_sync a.ask))
                (and_both a.missed (not (is_sync a.ask)) (missed z.1) (ap not z.0))
    by answer h = λ y. cc y
file_taken past w it u h = λ y. cc y

-- At each step of a run.
pub both_of : (P Q : VolumeStep → Volume → Type 0) (past : List Step) (x : Step) → AtEachStepOf P past x → AtEachStepOf Q past x →
    AtEachStepOf (λ it v. P it v × Q it v) past x
both_of P Q past x h k =
    on_more (λ v. AtEachStep P (steps_of (led_to past x) v x) v × AtEachStep Q (steps_of (led_to past x) v x) v)
    (λ v. AtEachStep (λ it z. P it z × Q it z) (steps_of (led_to past x) v x) v) (λ v z. at_two P Q (steps_of (led_to past x) v x) v z.0 z.1)
    (led_to past x).volume
    (on_both (λ v. AtEachStep P (steps_of (led_to past x) v x) v) (λ v. AtEachStep Q (steps_of (led_to past x) v x) v) (led_to past x).volume h k)

pub each_more : (P Q : VolumeStep → Volume → Type 0) → ((it : VolumeStep) (u : Volume) → P it u → Q it u) → (its : List VolumeStep) (u : Volume) →
    AtEachStep P its u → AtEachStep Q its u
unfolding AtEachStep
each_more P Q f [] u h = tt
each_more P Q f (it ∷ its) u h = (f it u h.0, on_more (AtEachStep P its) (AtEachStep Q its) (λ v k. each_more P Q f its v k) (volume.step u it) h.1)

pub taken_of : (which : VolumeStep → Bool) (fact : VolumeStep → Volume → Type 0) → ((it : VolumeStep) (u : Volume) → Known fact it u → Takes which it u) →
    (past : List Step) (x : Step) → AnswersFollowLines past x → AnswersAreToOpenAsks past x → AtEachStepOf fact past x → StepsAreTaken which past x
taken_of which fact f past x lines open_ h =
    on_more (λ v. AtEachStep (Known fact) (steps_of (led_to past x) v x) v) (λ v. AreTaken which (steps_of (led_to past x) v x) v)
    (λ v k. taken_at which (steps_of (led_to past x) v x) v (each_more (Known fact) (Takes which) f (steps_of (led_to past x) v x) v k))
    (led_to past x).volume
    (both_of IsAfterLines (λ it v. IsOpenAt it v × fact it v) past x lines (both_of IsOpenAt fact past x open_ h))

-- a kind of answers, by facts of every run
pub in_runs : (A B : Promise) (which : VolumeStep → Bool) → EveryRunIsSafe →
    ((past : List Step) (x : Step) → AnswersFollowLines past x → AnswersAreToOpenAsks past x → A past x → B past x → StepsAreTaken which past x) →
    InEveryRun A → InEveryRun B → InEveryRun (StepsAreTaken which)
in_runs A B which safe f h g k clients servers disks blocks form es head events =
    let t : Traced = traced (fresh_world k clients servers disks blocks form) in
    throughout_more (λ past x. (AnswersFollowLines past x × AnswersAreToOpenAsks past x) × (A past x × B past x)) (StepsAreTaken which)
    (λ past x z. f past x z.0.0 z.0.1 z.1.0 z.1.1) [] (steps es t)
    (throughout_both (λ past x. AnswersFollowLines past x × AnswersAreToOpenAsks past x) (λ past x. A past x × B past x) [] (steps es t)
    (throughout_both AnswersFollowLines AnswersAreToOpenAsks [] (steps es t) (answers_follow_lines safe k clients servers disks blocks form es head events)
    (answers_are_to_open_asks k clients servers disks blocks form es head events))
    (throughout_both A B [] (steps es t) (h k clients servers disks blocks form es head events) (g k clients servers disks blocks form es head events)))

-- In every run.
pub reads_are_taken : EveryRunIsSafe → InEveryRun (StepsAreTaken is_read_answer)
reads_are_taken safe k clients servers disks blocks form es head events =
    in_runs ResultsAreAnswered (λ past x. ReadsGiveThePages past x × ReadsFindTheirFiles past x) is_read_answer safe
    (λ past x l o a b.
    taken_of is_read_answer ReadFact read_taken past x l o
    (both_of IsOfUndone (λ it v. IsRightRead it v × IsOfFree it v) past x a (both_of IsRightRead IsOfFree past x b.0 b.1)))
    (results_are_answered safe)
    (λ k clients servers disks blocks form es head events.
    throughout_both ReadsGiveThePages ReadsFindTheirFiles [] (steps es (traced (fresh_world k clients servers disks blocks form)))
    (reads_give_the_pages safe k clients servers disks blocks form es head events) (reads_find_their_files safe k clients servers disks blocks form es head events))
    k clients servers disks blocks form es head events

pub no_space_is_taken : EveryRunIsSafe → InEveryRun PagesAfter →
    InEveryRun (StepsAreTaken is_no_space)
no_space_is_taken safe pages k clients servers disks blocks form es head events =
    in_runs FullServersAreNoticed FullServersHaveNoRoom is_no_space safe
    (λ past x l o a b. taken_of is_no_space (SpaceFact past) (space_taken past) past x l o a)
    (full_servers_are_noticed safe pages) (full_servers_have_no_room safe pages) k clients servers
    disks blocks form es head events

pub no_file_is_taken : EveryRunIsSafe → InEveryRun (StepsAreTaken is_no_file)
no_file_is_taken safe =
    in_runs FilesAreMissing LateFilesAreMissed is_no_file safe
    (λ past x l o a b.
    taken_of is_no_file (FileFact past x.before.world) (file_taken past x.before.world) past x l o
    (both_of (IsNoFile past x.before.world) (IsOfLateFile past x.before.world) past x a b))
    (files_are_missing safe) (late_files_are_missed safe)
