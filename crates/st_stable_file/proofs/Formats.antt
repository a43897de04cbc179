-- A file whose states are stable parts is opened as the state that it says.
use Rattle.std.proofs.Common.{◌≡◌, ◌⊎◌, ℕ, ◌<◌, ◌^◌, Bool, true, false, cond, ltb, List, [], ◌∷◌, ◌++◌, length, Option, Some, None, refl, sym, ap, ◌∙◌, subst, inl, inr}
use Rattle.std.specs.Prelude.{map, option_map}
use Rattle.std.specs.List.{AllByRecursion}
use Rattle.st_crc32c.specs.Crc.{crc32c}
use Rattle.st_extents.specs.Layout.{Shape}
use Rattle.st_journal.specs.Changes.{bytes_of}
use Rattle.st_journal.specs.declared.change.Change.{Change}
use Rattle.st_journal_bytes.specs.Moments.{Dated, after_dated, apply_dated, dated, dated_bytes}
use Rattle.st_journal_file.specs.Histories.{IsBegunBy, IsFound, IsLeft, IsReached, Keeper}
use Rattle.st_journal_file.specs.Layout.{CLOSED, OPEN, File, Format, IsArea, IsBlank, IsMade, StandsFor, after_change, after_changes, all_opened, area_of, front, opened, part, switch_of, word32}
use Rattle.st_journal_file.proofs.Crashes.{found}
use Rattle.st_journal_file.proofs.Groups.{after_changes-append}
use Rattle.st_rules.specs.Server.{Stable}
use Rattle.st_snapshot.specs.Snapshots.{CanBe, snapshot}
use Rattle.st_stable_file.specs.Formats.{IsOfStables, IsOpened, state_of}
use Rattle.st_stable_file.specs.Opened.{CanBeOpened, DatedFits}
use Rattle.st_stable_file.specs.Stables.{changed, stables}

module _ {S C : Type 0} (s : Shape) (f : Format S C) (i : IsOfStables s f) where
  abbrev change_of : Dated C → Dated Change
  change_of x = record { moment = x.moment; fits = x.fits; made = i.change x.made }

  part_of : (a b : List ℕ) → a ≡ b → part (dated f) a ≡ part (dated stables) b
  unfolding part
  part_of a b e = rw (i.sum (word32 (length a)), i.sum a, e) refl

  all_of : (xs : List (Dated C)) → all_opened (dated f) xs ≡ all_opened (dated stables) (map change_of xs)
  unfolding bytes_of
  all_of [] = refl
  all_of (x ∷ xs) =
      ap (λ (l : List ℕ). (OPEN ∷ l) ++ all_opened (dated f) xs)
      (part_of (dated_bytes x.moment (f.spelled x.made)) (dated_bytes x.moment (bytes_of (i.change x.made)))
      (ap (λ (l : List ℕ). dated_bytes x.moment l) (i.spelled x.made)))
      ∙ ap (λ (l : List ℕ). opened (dated stables) (change_of x) ++ l) (all_of xs)

  area_made : (bytes : List ℕ) (d : Dated S) (xs : List (Dated C)) → IsArea (dated f) bytes d xs →
      IsArea (dated stables) bytes (state_of s f i d) (map change_of xs)
  area_made bytes d xs a = record {
    rest = a.rest;
    parts = a.parts ∙ ap (λ (l : List ℕ). l ++ CLOSED ∷ a.rest)
        (ap (λ (l : List ℕ). l ++ all_opened (dated f) xs)
        (part_of (dated_bytes d.moment (f.snapshot d.made)) (dated_bytes d.moment (snapshot (i.stable d.made)))
        (ap (λ (l : List ℕ). dated_bytes d.moment l) (i.snapshots d.made)))
        ∙ ap (λ (l : List ℕ). part (dated stables) ((dated stables).snapshot (state_of s f i d)) ++ l) (all_of xs));
  }

  each_fits : (xs : List (Dated C)) → AllByRecursion DatedFits (map change_of xs)
  each_fits [] = tt
  each_fits (x ∷ xs) = (i.ranges x.made, each_fits xs)

  step_cases : (x : Dated C) (b : Bool) (o : Option S) → option_map (state_of s f i) (cond b None (option_map (after_dated x) o)) ≡
      cond b None (option_map (after_dated (change_of x)) (option_map i.stable o))
  step_cases x true o = refl
  step_cases x false None = refl
  step_cases x false (Some t) = refl

  step_made : (o : Option (Dated S)) (x : Dated C) → option_map (state_of s f i) (after_change (dated f) o x) ≡ after_change (dated stables)
      (option_map (state_of s f i) o) (change_of x)
  step_made None x = refl
  step_made (Some d) x = step_cases x (ltb x.moment d.moment) (f.apply d.made x.made) ∙
      ap (λ (o : Option Stable). cond (ltb x.moment d.moment) None (option_map (after_dated (change_of x)) o)) (i.applied d.made x.made)

  steps_made : (o : Option (Dated S)) (xs : List (Dated C)) →
      option_map (state_of s f i) (after_changes (dated f) o xs) ≡ after_changes (dated stables) (option_map (state_of s f i) o) (map change_of xs)
  steps_made o [] = refl
  steps_made o (x ∷ xs) = steps_made (after_change (dated f) o x) xs ∙ ap (λ p. after_changes (dated stables) p (map change_of xs)) (step_made o x)

  pub can_be_opened : (bytes : List ℕ) (start u : Dated S) (changes : List (Dated C)) → StandsFor (dated f) start bytes changes →
      after_changes (dated f) (Some start) changes ≡ Some u →
      CanBeOpened s bytes (state_of s f i u)
  can_be_opened bytes start u changes stands leads = record {
    stands = record {
      first = state_of s f i stands.snapshot;
      changes = map change_of stands.records;
      area = area_made bytes stands.snapshot stands.records stands.area;
      fits = i.fit stands.snapshot.made;
      shape = i.shape stands.snapshot.made;
      each = each_fits stands.records;
      leads = sym (steps_made (Some stands.snapshot) stands.records) ∙ ap (option_map (state_of s f i)) (stands.leads ∙ leads);
    };
    can = i.can stands.snapshot.made;
  }

  none_stays : (xs : List (Dated C)) (u : Dated S) → after_changes (dated f) None xs ≡ Some u → ⊥
  none_stays [] u e = absurd cc
  none_stays (x ∷ xs) u e = none_stays xs u e

  record Reaches (start : Dated S) (xs : List (Dated C)) : Type 0 where
    pub state : Dated S
    pub leads : after_changes (dated f) (Some start) xs ≡ Some state

  -- if no change was refused, neither was one of the first ones
  begun_reaches : (start u : Dated S) (xs ys : List (Dated C)) (o : Option (Dated S)) → after_changes (dated f) (Some start) xs ≡ o →
      after_changes (dated f) o ys ≡ Some u → Reaches start xs
  begun_reaches start u xs ys None e g = absurd (none_stays ys u g)
  begun_reaches start u xs ys (Some d) e g = record { state = d; leads = e }

  reaches : (start u : Dated S) (xs whole : List (Dated C)) → IsBegunBy xs whole → after_changes (dated f) (Some start) whole ≡ Some u → Reaches start xs
  reaches start u xs whole b e =
      begun_reaches start u xs b.others (after_changes (dated f) (Some start) xs) refl
      (sym (after_changes-append (dated f) (Some start) xs b.others) ∙ (ap (λ ys. after_changes (dated f) (Some start) ys) (sym b.parts) ∙ e))

  opened_so : (start : Dated S) (header : List ℕ) (left : File) (changes : List (Dated C)) (state : Dated S) →
      after_changes (dated f) (Some start) changes ≡ Some state →
      ((current : Bool) × IsMade (dated f) start header left current changes) ⊎ IsBlank left changes →
      ((left.made ≡ CLOSED) × (changes ≡ [])) ⊎
      ((left.made ≡ OPEN) × ((current : Bool) × ((left.switch ≡ switch_of current) × CanBeOpened s (area_of current left) (state_of s f i state))))
  opened_so start header left changes state leads (inl m) =
      inr (m.1.made, (m.0, (m.1.switch, can_be_opened (area_of m.0 left) start state changes m.1.area leads)))
  opened_so start header left changes state leads (inr b) = inl (b.blank, b.none)

  pub opened_after : (start : Dated S) (header : List ℕ) (k : Keeper (Dated S) (Dated C)) (left : File) (u : Dated S) → IsReached (dated f) start header k →
      IsLeft k.synced k.seen left →
      after_changes (dated f) (Some start) (k.kept ++ k.waiting) ≡ Some u → IsOpened s f i start k left
  opened_after start header k left u r l e =
      let h = found (dated f) start header k left r l in
      let reach = reaches start u h.changes (k.kept ++ k.waiting) h.made e in
      record {
        changes = h.changes;
        kept = h.kept;
        made = h.made;
        state = reach.state;
        leads = reach.leads;
        opened = opened_so start header left h.changes reach.state reach.leads h.stands;
      }
