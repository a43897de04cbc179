-- A keeper, and how many changes are made and kept, beside the file of its journal.
use Rattle.st_lemmas.proofs.Words
use Words.{◌≡◌, ℕ, ◌+◌, ◌-◌, ◌<◌, ◌≤◌, Bool, true, false, not, List, [], ◌∷◌, ◌++◌, length, Option, Some, None, refl, sym, ap, subst, ◌∙◌, arith, append_assoc, append-nil, length-append}
use Rattle.st_journal_bytes.specs.Plain.{HasSum}
use Rattle.st_journal_file.specs.Histories.{Gate, GoesOn, IsReached, Keeper, Phase, group_of}
use Rattle.st_journal_file.specs.Histories as phases
use Rattle.st_journal_file.specs.Layout.{OPEN, Format, all_opened, opened, part}
use Rattle.st_kept_journal.specs.Driven.{GoesTo, IsAt, IsGroupOf, IsSnapshotOf}
use Rattle.st_kept_journal.specs.Keeping.{Keeping, added}
use Rattle.st_kept_journal.specs.declared.task.Task.{Task}
use Rattle.st_kept_journal.specs.declared.task.Task.TheVariants as tasks
use Rattle.st_kept_journal.proofs.Driven.{adds}
use Rattle.st_kept_histories.specs.Histories.{Covers, IsAtStage, IsBeside, IsCovered}
use Rattle.st_kept_histories.specs.declared.stage.Stage.{Stage}
use Rattle.st_kept_histories.specs.declared.stage.Stage.TheVariants.{Ending, Rest, Writing, Written}

-- Stages and phases.

rest_by : {S C : Type 0} (t : Task) (p : Phase S C) → IsAtStage Rest t p → (t ≡ tasks.Rest) × (p ≡ phases.Idle)
rest_by tasks.Rest phases.Idle h = (refl, refl)
rest_by t p h = absurd h

pub at_rest : {S C : Type 0} (stage : Stage) (t : Task) (p : Phase S C) → stage ≡ Rest → IsAtStage stage t p → (t ≡ tasks.Rest) × (p ≡ phases.Idle)
at_rest stage t p e h = rest_by t p (subst (λ (x : Stage). IsAtStage x t p) e h)

module _ {S C : Type 0} (count : ℕ) where
  writing_by : (p : Phase S C) → IsAtStage Writing (tasks.Group count) p → (g : Gate S C) × (p ≡ phases.Writing g)
  writing_by (phases.Writing g) h = (g, refl)
  writing_by p h = absurd h

  written_by : (p : Phase S C) → IsAtStage Written (tasks.Group count) p → (g : Gate S C) × (p ≡ phases.Written g)
  written_by (phases.Written g) h = (g, refl)
  written_by p h = absurd h

  opening_by : (p : Phase S C) → IsAtStage Ending (tasks.Group count) p → (g : Gate S C) × (p ≡ phases.Opening g)
  opening_by (phases.Opening g) h = (g, refl)
  opening_by p h = absurd h

  module _ (gate : ℕ) where
    idle_by : (p : Phase S C) → IsAtStage Writing (tasks.Switch count gate) p → p ≡ phases.Idle
    idle_by phases.Idle h = refl
    idle_by p h = absurd h

    prepared_by : (p : Phase S C) → IsAtStage Written (tasks.Switch count gate) p → (group : List C) × (p ≡ phases.Prepared group)
    prepared_by (phases.Prepared group) h = (group, refl)
    prepared_by p h = absurd h

    switching_by : (p : Phase S C) → IsAtStage Ending (tasks.Switch count gate) p → (group : List C) × (p ≡ phases.Switching group)
    switching_by (phases.Switching group) h = (group, refl)
    switching_by p h = absurd h

at_both : {S C : Type 0} (stage stage2 : Stage) (t t2 : Task) (p : Phase S C) → stage ≡ stage2 → t ≡ t2 → IsAtStage stage t p → IsAtStage stage2 t2 p
at_both stage stage2 t t2 p e f h = subst (λ (x : Task). IsAtStage stage2 x p) f (subst (λ (x : Stage). IsAtStage x t p) e h)

pub at_writing : {S C : Type 0} (count : ℕ) (stage : Stage) (t : Task) (p : Phase S C) → stage ≡ Writing → t ≡ tasks.Group count → IsAtStage stage t p →
    (g : Gate S C) × (p ≡ phases.Writing g)
at_writing count stage t p e f h = writing_by count p (at_both stage Writing t (tasks.Group count) p e f h)

pub at_written : {S C : Type 0} (count : ℕ) (stage : Stage) (t : Task) (p : Phase S C) → stage ≡ Written → t ≡ tasks.Group count → IsAtStage stage t p →
    (g : Gate S C) × (p ≡ phases.Written g)
at_written count stage t p e f h = written_by count p (at_both stage Written t (tasks.Group count) p e f h)

pub at_opening : {S C : Type 0} (count : ℕ) (stage : Stage) (t : Task) (p : Phase S C) → stage ≡ Ending → t ≡ tasks.Group count → IsAtStage stage t p →
    (g : Gate S C) × (p ≡ phases.Opening g)
at_opening count stage t p e f h = opening_by count p (at_both stage Ending t (tasks.Group count) p e f h)

pub at_idle : {S C : Type 0} (count gate : ℕ) (stage : Stage) (t : Task) (p : Phase S C) → stage ≡ Writing → t ≡ tasks.Switch count gate → IsAtStage stage t p →
    p ≡ phases.Idle
at_idle count gate stage t p e f h = idle_by count gate p (at_both stage Writing t (tasks.Switch count gate) p e f h)

pub at_prepared : {S C : Type 0} (count gate : ℕ) (stage : Stage) (t : Task) (p : Phase S C) → stage ≡ Written → t ≡ tasks.Switch count gate →
    IsAtStage stage t p →
    (group : List C) × (p ≡ phases.Prepared group)
at_prepared count gate stage t p e f h = prepared_by count gate p (at_both stage Written t (tasks.Switch count gate) p e f h)

pub at_switching : {S C : Type 0} (count gate : ℕ) (stage : Stage) (t : Task) (p : Phase S C) → stage ≡ Ending → t ≡ tasks.Switch count gate →
    IsAtStage stage t p →
    (group : List C) × (p ≡ phases.Switching group)
at_switching count gate stage t p e f h = switching_by count gate p (at_both stage Ending t (tasks.Switch count gate) p e f h)

module _ {S C : Type 0} (f : Format S C) where
  -- One list has one beginning with so many bytes.

  opened_some : (x : C) (xs : List C) → 1 ≤ length (all_opened f (x ∷ xs))
  opened_some x xs = omega (arith, length-append (opened f x) (all_opened f xs))

  opened_tail : (x : C) (xs ys : List C) → length (all_opened f (x ∷ xs)) ≡ length (all_opened f (x ∷ ys)) → length (all_opened f xs) ≡ length (all_opened f ys)
  opened_tail x xs ys e = omega (arith, e, length-append (opened f x) (all_opened f xs), length-append (opened f x) (all_opened f ys))

  head_is : (x y : C) (xs ys : List C) → x ∷ xs ≡ y ∷ ys → x ≡ y
  head_is x y xs ys e = cc

  tail_is : (x y : C) (xs ys : List C) → x ∷ xs ≡ y ∷ ys → xs ≡ ys
  tail_is x y xs ys e = cc

  pub first_once : (xs ys r q : List C) → xs ++ r ≡ ys ++ q → length (all_opened f xs) ≡ length (all_opened f ys) → length xs ≡ length ys
  first_once [] [] r q e n = refl
  first_once [] (y ∷ ys) r q e n = let some = opened_some y ys in absurd (omega (arith, some, n))
  first_once (x ∷ xs) [] r q e n = let some = opened_some x xs in absurd (omega (arith, some, n))
  first_once (x ∷ xs) (y ∷ ys) r q e n =
      let same : x ≡ y = head_is x y (xs ++ r) (ys ++ q) e in
      let long : length (all_opened f (x ∷ xs)) ≡ length (all_opened f (x ∷ ys)) = n ∙ ap (λ (z : C). length (all_opened f (z ∷ ys))) (sym same) in
      let rest = first_once xs ys r q (tail_is x y (xs ++ r) (ys ++ q) e) (opened_tail x xs ys long) in omega (arith, rest)

  -- a group with so many bytes has at least so many changes
  pub covered_few : (count covered made kept : ℕ) (waiting group later : List C) → IsCovered f count covered made kept waiting → waiting ≡ group ++ later →
      count ≡ length (all_opened f group) → (covered ≤ length group) × (made ≤ kept + covered + length later)
  covered_few count covered made kept waiting group later c parts size =
      let same = first_once c.group group c.later later (sym c.parts ∙ parts) (sym c.size ∙ size) in
      let most = c.most in
      let few = c.few in
      let all = ap length (sym c.parts ∙ parts) in
      (omega (arith, same, most), omega (arith, few, same, all, length-append c.group c.later, length-append group later))

  -- what is under way, with one more change that waits

  covered_more : (count covered made made2 kept : ℕ) (waiting : List C) (x : C) → made2 ≤ made + 1 → IsCovered f count covered made kept waiting →
      IsCovered f count covered made2 kept (waiting ++ x ∷ [])
  covered_more count covered made made2 kept waiting x m h =
      let few = h.few in
      record {
        group = h.group;
        later = h.later ++ x ∷ [];
        parts = ap (λ (ys : List C). ys ++ x ∷ []) h.parts ∙ append_assoc h.group h.later (x ∷ []);
        size = h.size;
        most = h.most;
        few = omega (arith, few, m, length-append h.later (x ∷ []));
      }

  covers_more : (t : Task) (covered made made2 kept : ℕ) (waiting : List C) (x : C) → made2 ≤ made + 1 → Covers f t covered made kept waiting →
      Covers f t covered made2 kept (waiting ++ x ∷ [])
  covers_more tasks.Rest covered made made2 kept waiting x m h = tt
  covers_more (tasks.Group count) covered made made2 kept waiting x m h = covered_more count covered made made2 kept waiting x m h
  covers_more (tasks.Switch count gate) covered made made2 kept waiting x m h = covered_more count covered made made2 kept waiting x m h

  -- all that waits is covered
  pub covers_all : (j : Keeping) (made kept : ℕ) (waiting : List C) → j.waiting ≡ all_opened f waiting → made ≤ kept + length waiting →
      IsCovered f (length j.waiting) (made - kept) made kept waiting
  covers_all j made kept waiting e m = record {
    group = waiting;
    later = [];
    parts = sym (append-nil waiting);
    size = ap length e;
    most = omega (arith, m);
    few = omega (arith, m);
  }

  module _ (start : S) (header : List ℕ) (first : ℕ) where
    -- One more change waits.
    pub beside_more : (sum : HasSum f) (j : Keeping) (stage : Stage) (covered made made2 kept : ℕ) (p : Keeper S C) (x : C) → made2 ≤ made + 1 →
        IsBeside f start header first j stage covered made kept p →
        IsBeside f start header first (added j (f.spelled x)) stage covered made2 kept (record p { waiting = p.waiting ++ x ∷ [] })
    beside_more sum j stage covered made made2 kept p x m b =
        let goes : GoesTo f start header (added j (f.spelled x)) p (record p { waiting = p.waiting ++ x ∷ [] }) = adds f start header sum j p x b.driven in
        let waits = b.waits in
        record {
          reached = GoesOn p (record p { waiting = p.waiting ++ x ∷ [] }) b.reached goes.moves;
          driven = goes.driven;
          at = b.at;
          kept_so = b.kept_so;
          waits = omega (arith, m, waits, length-append p.waiting (x ∷ []));
          covers = covers_more j.task covered made made2 kept p.waiting x m b.covers;
        }

    -- of the same numbers
    pub beside_same : (j j2 : Keeping) (stage stage2 : Stage) (covered covered2 made made2 kept kept2 : ℕ) (p : Keeper S C) → j2 ≡ j → stage2 ≡ stage →
        covered2 ≡ covered → made2 ≡ made → kept2 ≡ kept → IsBeside f start header first j stage covered made kept p →
        IsBeside f start header first j2 stage2 covered2 made2 kept2 p
    beside_same j j2 stage stage2 covered covered2 made made2 kept kept2 p a b c d e h =
        subst (λ (x : Keeping). IsBeside f start header first x stage2 covered2 made2 kept2 p) (sym a)
        (subst (λ (x : Stage). IsBeside f start header first j x covered2 made2 kept2 p) (sym b)
        (subst (λ (x : ℕ). IsBeside f start header first j stage x made2 kept2 p) (sym c)
        (subst (λ (x : ℕ). IsBeside f start header first j stage covered x kept2 p) (sym d)
        (subst (λ (x : ℕ). IsBeside f start header first j stage covered made x p) (sym e) h))))

    -- What was moved to in the histories.
    module _ (j j2 : Keeping) (stage2 : Stage) (covered made kept : ℕ) (p q : Keeper S C) (reached : IsReached f start header p)
        (goes : GoesTo f start header j2 p q) where
      -- nothing more is kept, and something is under way
      pub beside_on : IsAtStage stage2 j2.task q.phase → first + kept ≤ length q.kept → made ≤ kept + length q.waiting →
          Covers f j2.task covered made kept q.waiting →
          IsBeside f start header first j2 stage2 covered made kept q
      beside_on at few waits covers = record {
        reached = GoesOn p q reached goes.moves;
        driven = goes.driven;
        at = at;
        kept_so = few;
        waits = waits;
        covers = covers;
      }

    -- The group that is under way, by what the keeper says.

    pub group_size : (j : Keeping) (p : Keeper S C) (g : Gate S C) (count : ℕ) → IsAt f start j p j.task p.phase → j.task ≡ tasks.Group count →
        p.phase ≡ phases.Opening g → count ≡ length (all_opened f (group_of g))
    group_size j p g count h e q = is.size
      where
        is : IsGroupOf f j.gate count g
        is = subst (λ (o : Phase S C). IsAt f start j p (tasks.Group count) o) q (subst (λ (t : Task). IsAt f start j p t p.phase) e h)

    pub switch_size : (j : Keeping) (p : Keeper S C) (count gate : ℕ) (group : List C) → IsAt f start j p j.task p.phase → j.task ≡ tasks.Switch count gate →
        p.phase ≡ phases.Switching group → count ≡ length (all_opened f group)
    switch_size j p count gate group h e q = is.size
      where
        is : IsSnapshotOf f start j p count gate group
        is = subst (λ (o : Phase S C). IsAt f start j p (tasks.Switch count gate) o) q (subst (λ (t : Task). IsAt f start j p t p.phase) e h)
