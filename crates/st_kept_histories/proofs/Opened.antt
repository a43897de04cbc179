-- A server that is opened, beside its file in the file's histories.
use Rattle.st_lemmas.proofs.Words
use Words.{◌≡◌, ℕ, ◌+◌, ◌^◌, ◌<◌, ◌≤◌, Bool, true, false, List, [], ◌∷◌, ◌++◌, length, map, Option, Some, None, Result, Ok, refl, sym, ap, subst, ◌∙◌, arith, append-nil, length-append}
use Words.{Output, Stamp}
use Words.Server.{Stable}
use Rattle.st_durable.specs.Durable.{IsMade}
use Rattle.st_extents.specs.Layout.{Shape}
use Rattle.st_held_steps.specs.Held.{Held}
use Rattle.st_journal.specs.declared.change.Change.{Change}
use Rattle.st_journal.specs.declared.change.Change.TheVariants.{Epoch}
use Rattle.st_journal_bytes.specs.Areas.{IsRead}
use Rattle.st_journal_bytes.specs.Plain.{plain}
use Rattle.st_journal_bytes.specs.declared.area.AreaEnd.{AreaEnd}
use Rattle.st_journal_bytes.specs.declared.file.Current.{Current}
use Rattle.st_journal_bytes.specs.Moments.{Dated, apply_dated, dated}
use Rattle.st_journal_bytes.specs.declared.header.Identity.{Identity}
use Rattle.st_journal_file.specs.Histories.{IsReached, Keeper, Phase}
use Rattle.st_journal_file.specs.Histories as phases
use Rattle.st_journal_file.specs.Layout.{CLOSED, File, StandsFor, after_changes, all_opened, area_of, front, opened, part}
use Rattle.st_journal_file.proofs.Held.{HoldsIn, IsResting, reached}
use Rattle.st_kept_journal.specs.Driven.{IsDriven}
use Rattle.st_kept_journal.specs.Keeping.{Keeping}
use Rattle.st_kept_journal.specs.declared.task.Task.TheVariants as tasks
use Rattle.st_kept_journal.proofs.Driven as driven
use Rattle.st_server_states.specs.States.{Keeps, RangedChange, State, states}
use Rattle.st_server_states.proofs.Formats.{is_of_stables}
use Rattle.st_stable_file.specs.Formats.{state_of}
use Rattle.st_stable_file.specs.Opened as areas
use Rattle.st_stable_file.specs.Opened.{CanBeOpened}
use Rattle.st_stable_file.specs.declared.area.OpenedArea.{OpenedArea}
use Rattle.st_stable_file.specs.declared.fault.StableFault.{StableFault}
use Rattle.st_stable_file.specs.declared.file.OpenedFile.{OpenedFile}
use Rattle.st_stable_file.proofs.Applied.{opened_same, part_same}
use Rattle.st_stable_file.proofs.Once.{opened_exactly}
use Rattle.st_stable_file.specs.OpenedFile.{shape_of}
use Rattle.st_stable_file.specs.Stables.{changed, stables}
use Rattle.st_stable_file.proofs.Formats.{can_be_opened}
use Rattle.st_kept_histories.specs.Histories.{IsAtStage, IsBeside, IsFileOf, IsKeptIn, Makes, Past}
use Rattle.st_kept_histories.specs.Kept.{KeptServer, stable_now, with_change}
use Rattle.st_kept_histories.specs.Opened.{Opens, keeper_of, stable_in}
use Rattle.st_kept_histories.specs.declared.stage.Stage.TheVariants as stages
use Rattle.st_kept_histories.proofs.Beside as beside
use Rattle.st_kept_histories.proofs.Changed.{F, made_is_changed, one_more, state_after, sum}
use Rattle.st_journal_bytes.proofs.MadeFiles as files
use Rattle.st_kept_histories.proofs.Files.{same_file, size_by}

-- An area of stable parts and changes, as bytes.

all_plain : (xs : List (Dated Change)) → all_opened plain (map (dated stables).spelled xs) ≡ all_opened (dated stables) xs
all_plain [] = refl
all_plain (x ∷ xs) =
    ap (λ (l : List ℕ). l ++ all_opened plain (map (dated stables).spelled xs)) (sym (opened_same x)) ∙
    ap (λ (l : List ℕ). opened (dated stables) x ++ l) (all_plain xs)

front_plain : (d : Dated Stable) (xs : List (Dated Change)) →
    front plain ((dated stables).snapshot d) (map (dated stables).spelled xs) ≡ front (dated stables) d xs
front_plain d xs =
    ap (λ (l : List ℕ). l ++ all_opened plain (map (dated stables).spelled xs)) (sym (part_same ((dated stables).snapshot d))) ∙
    ap (λ (l : List ℕ). part (dated stables) ((dated stables).snapshot d) ++ l) (all_plain xs)

abbrev end_of : (s : Shape) (bytes : List ℕ) (a : OpenedArea) → areas.Opens s bytes a → AreaEnd
end_of s bytes a h = record { gate = a.end.gate; records = length (map (dated stables).spelled h.stands.changes) }

is_read : (s : Shape) (bytes : List ℕ) (a : OpenedArea) (h : areas.Opens s bytes a) → IsRead bytes (end_of s bytes a h)
is_read s bytes a h =
    let same = front_plain h.stands.first h.stands.changes in
    record {
      snapshot = (dated stables).snapshot h.stands.first;
      records = map (dated stables).spelled h.stands.changes;
      area = record {
        rest = h.stands.area.rest;
        parts = h.stands.area.parts ∙ ap (λ (l : List ℕ). l ++ CLOSED ∷ h.stands.area.rest) (sym same);
      };
      gate = h.gate ∙ ap length (sym same);
      count = refl;
    }

module _ (i : Identity) (k : Keeps (shape_of i)) (start : Dated (State (shape_of i))) (header : List ℕ) (p : Past (shape_of i)) (bytes : List ℕ) (now : Stamp)
    (limit : ℕ)
    (e : KeptServer) (r : IsReached (F (shape_of i) k) start header p) (h : IsFileOf (shape_of i) i bytes p) (state : Dated (State (shape_of i)))
    (leads : after_changes (F (shape_of i) k) (Some start) p.kept ≡ Some state) (o : Opens bytes i now limit e) where
  abbrev s : Shape
  s = shape_of i

  abbrev file : OpenedFile
  file = o.opens.file

  abbrev area : List ℕ
  area = area_of p.current p.seen

  resting : IsResting (F s k) start header p
  resting = subst (λ (q : Phase (Dated (State s)) (Dated RangedChange)). HoldsIn (F s k) start header q p) h.idle (reached (F s k) start header p r)

  second : file.current.second ≡ p.current
  second = ap (λ (c : Current). c.second) (files.one_file bytes i file.current h.current o.opens.opens.made h.made) ∙ h.second

  same_area : area_of file.current.second o.opens.opens.made.file ≡ area
  same_area =
      ap (λ (b : Bool). area_of b o.opens.opens.made.file) second ∙
      ap (λ (b : File). area_of p.current b) (same_file bytes i file.current h.current o.opens.opens.made h.made ∙ h.seen)

  area_opened : areas.Opens s area file.area
  area_opened = subst (λ (l : List ℕ). areas.Opens s l file.area) same_area o.opens.opens.area

  few : length area < 2 ^ 32
  few =
      let found = o.opens.opens.made.found in
      let small = found.small in
      let size = size_by file.current.second o.opens.opens.made.file file.current.header.area found.first found.second in
      omega (arith, small, size, ap length same_area)

  can : CanBeOpened s area (state_of s (states s k) (is_of_stables s k) state)
  can = can_be_opened s (states s k) (is_of_stables s k) area start state p.kept resting.stands leads

  abbrev opened_as : Result OpenedArea StableFault
  opened_as = Ok file.area

  -- what was opened is the state that the file stands for
  is : (stable_in file ≡ state.made.stable) × (file.area.end.moment ≡ state.moment)
  is = opened_exactly s area opened_as few area_opened tt (state_of s (states s k) (is_of_stables s k) state) can

  at_gate : IsDriven (F s k) start (keeper_of file) p
  at_gate =
      subst (λ (b : Bool). IsDriven (F s k) start
      (record { area = file.current.header.area; second = b; gate = file.area.end.gate; waiting = []; task = tasks.Rest }) p) (sym second)
      (driven.opens (F s k) start header (sum s k) p file.current.header.area
      (record { gate = file.area.end.gate; records = length (map (dated stables).spelled area_opened.stands.changes) })
      h.idle h.waiting resting.stands few (is_end))
    where
      is_end : IsRead area (record { gate = file.area.end.gate; records = length (map (dated stables).spelled area_opened.stands.changes) })
      is_end = is_read s area file.area area_opened

  begun : IsBeside (F s k) start header (length p.kept) (keeper_of file) stages.Rest e.covered 0 0 p
  begun = record {
    reached = r;
    driven = at_gate;
    at = subst (λ (q : Phase (Dated (State s)) (Dated RangedChange)). IsAtStage stages.Rest tasks.Rest q) (sym h.idle) tt;
    kept_so = omega arith;
    waits = omega arith;
    covers = tt;
  }

  abbrev made : IsMade (stable_in file) (stable_now e) Epoch
  made = o.opens.told

  abbrev x : Dated RangedChange
  x = record { moment = now.0; fits = small; made = record { change = Epoch; ranges = made.ranges } }
    where
      small : now.0 < 2 ^ 64
      small = let l = o.in_time in omega (arith, l)

  not_before : state.moment ≤ now.0
  not_before = let early = o.opens.opens.early in omega (arith, is.1, early)

  follows : (v : Dated (State s)) × ((apply_dated (states s k) state x ≡ Some v) × ((v.made.stable ≡ stable_now e) × (v.moment ≡ now.0)))
  follows =
      state_after s k state x (stable_now e) not_before
      (ap (λ (u : Stable). changed u Epoch) (sym is.0) ∙ made_is_changed (stable_in file) (stable_now e) Epoch made)

  waits_on : after_changes (F s k) (Some start) (p.kept ++ p.waiting) ≡ Some state
  waits_on = ap (λ ws. after_changes (F s k) (Some start) (p.kept ++ ws)) h.waiting ∙
      (ap (λ xs. after_changes (F s k) (Some start) xs) (append-nil p.kept) ∙ leads)

  pub opened_in : (q : Past s) × (Makes s p q now.0 Epoch × IsKeptIn s k start header (length p.kept) e q)
  opened_in = (
    record p { waiting = p.waiting ++ x ∷ [] },
    (
      record { made = x; change_so = refl; moment = refl; waits = refl },
      record {
        beside = beside.beside_same (F s k) start header (length p.kept) (with_change (keeper_of file) now.0 (Some Epoch)) e.journal stages.Rest e.stage
            e.covered e.covered 1 e.steps.made
            0 e.steps.kept (record p { waiting = p.waiting ++ x ∷ [] })
            (o.journal ∙ ap (λ (j : Keeping). with_change j now.0 (Some Epoch)) o.opens.journal) o.stage refl
            (ap (λ (m : Held (List Output)). m.made) o.steps) (ap (λ (m : Held (List Output)). m.kept) o.steps)
            (beside.beside_more (F s k) start header (length p.kept) (sum s k) (keeper_of file) stages.Rest e.covered 0 1 0 p x (omega arith) begun);
        state = record {
          state = follows.0;
          leads = one_more s k start state follows.0 p.kept p.waiting x waits_on follows.1.0;
          same = λ q. follows.1.1.0;
          moment = λ q. follows.1.1.1 ∙ sym o.moment;
          early = let a = o.moment in let b = o.last in omega (arith, a, b);
        };
        counted = λ q. let one = ap (λ (m : Held (List Output)). m.made) o.steps in let none = ap length h.waiting in
            omega (arith, one, none, length-append p.waiting (x ∷ []));
      },
    ),
  )
