-- A change that a step made, as a change of the file's histories.
use Rattle.st_lemmas.proofs.Words
use Words.{◌≡◌, ℕ, ◌-◌, ◌^◌, ◌<◌, ◌≤◌, Bool, true, false, cond, List, [], ◌∷◌, ◌++◌, Option, Some, None, refl, sym, ap, ◌∙◌, arith, append_assoc, lt-ltb, option_map}
use Words.Server.{Stable}
use Words.Tables.{cond_false, cond_true}
use Rattle.std.proofs.Common.{le-ltb, ltb}
use Rattle.st_durable.specs.Durable.{IsMade}
use Rattle.st_extents.specs.Layout.{Shape}
use Rattle.st_journal.specs.Stable.{HasRoom, apply, kept}
use Rattle.st_journal.specs.declared.change.Change.{Change}
use Rattle.st_journal.specs.declared.change.Change.TheVariants as kinds
use Rattle.st_journal_bytes.specs.Moments.{Dated, after_dated, apply_dated, dated}
use Rattle.st_journal_bytes.specs.Plain.{HasSum}
use Rattle.st_journal_file.specs.Layout.{Format, after_changes}
use Rattle.st_journal_file.proofs.Groups.{after_changes-append}
use Rattle.st_server_states.specs.States.{Keeps, RangedChange, State, state_by, states}
use Rattle.st_stable_file.specs.Stables.{changed, has_room}

room_so : (t : Stable) (x : Change) → HasRoom t x → has_room t x ≡ true
room_so t kinds.Epoch h = lt-ltb t.epoch.0 (2 ^ 64 - 1) h
room_so t (kinds.Allocate ino page count) h = lt-ltb t.extents.births (2 ^ 62) h
room_so t (kinds.Cut ino from) h = refl
room_so t (kinds.Create dir n) h = lt-ltb t.names.next (2 ^ 32 - 1) h
room_so t (kinds.Mkdir dir n) h = lt-ltb t.names.next (2 ^ 32 - 1) h
room_so t (kinds.Remove dir n) h = refl
room_so t (kinds.Rename dir n dir2 n2) h = refl

pub made_is_changed : (t u : Stable) (x : Change) → IsMade t u x → changed t x ≡ Some u
made_is_changed t u x m = cond_true (has_room t x) (kept (apply t x)) None (room_so t x m.room) ∙ ap kept m.applied

module _ (s : Shape) (k : Keeps s) where
  abbrev pub F : Format (Dated (State s)) (Dated RangedChange)
  F = dated (states s k)

  pub sum : HasSum F
  sum bytes = refl

  follows_by : (t : State s) (x : RangedChange) (u : Stable) (o : Option Stable) (e : changed t.stable x.change ≡ o) → o ≡ Some u →
      (v : State s) × ((state_by s k t x o e ≡ Some v) × (v.stable ≡ u))
  follows_by t x u None e q = absurd cc
  follows_by t x u (Some w) e q = let same : w ≡ u = cc in (record { stable = w; may = k t.stable w x.change t.may x.ranges e }, (refl, same))

  -- the state after one more change
  pub state_after : (d : Dated (State s)) (x : Dated RangedChange) (u : Stable) → d.moment ≤ x.moment → changed d.made.stable x.made.change ≡ Some u →
      (v : Dated (State s)) × ((apply_dated (states s k) d x ≡ Some v) × ((v.made.stable ≡ u) × (v.moment ≡ x.moment)))
  state_after d x u early e =
      let f = follows_by d.made x.made u (changed d.made.stable x.made.change) refl e in (
        after_dated x f.0,
        (
          cond_false (ltb x.moment d.moment) None (option_map (after_dated x) ((states s k).apply d.made x.made)) (le-ltb _ _ early) ∙
              ap (λ (o : Option (State s)). option_map (after_dated x) o) f.1.0,
          (f.1.1, refl),
        ),
      )

  pub one_more : (start state v : Dated (State s)) (kept waiting : List (Dated RangedChange)) (x : Dated RangedChange) →
      after_changes F (Some start) (kept ++ waiting) ≡ Some state → apply_dated (states s k) state x ≡ Some v →
      after_changes F (Some start) (kept ++ (waiting ++ x ∷ [])) ≡ Some v
  one_more start state v kept waiting x leads e =
      ap (λ xs. after_changes F (Some start) xs) (sym (append_assoc kept waiting (x ∷ []))) ∙
      (after_changes-append F (Some start) (kept ++ waiting) (x ∷ []) ∙ (ap (λ o. after_changes F o (x ∷ [])) leads ∙ e))
