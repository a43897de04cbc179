-- The events that a reader reads after a head are in their ranges.
use Rattle.std.proofs.Common.{◌≡◌, ℕ, ◌+◌, ◌≤◌, true, List, [], ◌∷◌, ◌⊎◌, inl, inr, refl, sym, subst}
use Rattle.std.proofs.lemmas.Bool.{and_from}
use Rattle.std.specs.Prelude.{Option, Some, None, Result, Ok, Err, nat_lt}
use Rattle.std.specs.List.{list_all}
use Rattle.st_messages.specs.declared.event.Counts.{Counts}
use Rattle.st_messages.specs.declared.event.Event.{Event}
use Rattle.st_rules.specs.Safety.{is_event}
use Rattle.st_schedule.specs.declared.fault.Fault.{Fault}
use Rattle.st_schedule.specs.declared.reader.Line.{Line}
use Rattle.st_schedule.specs.declared.reader.Line.TheVariants as said
use Rattle.st_schedule.specs.declared.reader.Progress.{Progress}
use Rattle.st_schedule.specs.declared.reader.Progress.TheVariants as progress
use Rattle.st_schedule_words.specs.Words.{split}
use Rattle.st_schedule.specs.Parser.{line_event}
use Rattle.st_schedule.specs.Reader.{Told, MOST_EVENTS, counted, later_line, nodes_of, read_line, with_line}
use Rattle.st_schedule.proofs.LinesAsSpelled.{line_is_spelled}
use Rattle.st_schedule.proofs.ValuesWereWritten.{chosen}
use Rattle.st_runs.specs.Schedule.{before, schedule_of, with_told}
use Rattle.st_runs.proofs.Ranges.{event_within}
use Rattle.st_runs.proofs.Short.{read_short}

-- what is read after a head: the end, or an event and then more
abbrev Next : ℕ → Counts → ℕ → Line × Progress → Type 0
Next form counts done y = (y ≡ (said.End, progress.Ended)) ⊎ ((e : Event) × (y ≡ (said.Event e, progress.Reading form counts (done + 1))))

next_counted : (form : ℕ) (counts : Counts) (done : ℕ) (e : Event) (y : Line × Progress) → counted form counts done e ≡ Ok y → Next form counts done y
next_counted form counts done e y h =
    elim (chosen (nat_lt done MOST_EVENTS) _ _ _ h) as (λ q. Next form counts done y) [
      | inl q ↦ inr (e, let k = q.1 in cc)
      | inr q ↦ absurd (let k = q.1 in cc)
    ]

next_line : (form : ℕ) (counts : Counts) (done : ℕ) (l : List ℕ) (r : Result (Option Event) Fault) (y : Line × Progress) → with_line form counts done l r ≡ Ok y →
    Next form counts done y
next_line form counts done l (Err f) y h = absurd (cc)
next_line form counts done l (Ok None) y h = inl (cc)
next_line form counts done l (Ok (Some e)) y h = next_counted form counts done e y h

next_later : (form : ℕ) (counts : Counts) (done : ℕ) (l : List ℕ) (y : Line × Progress) → later_line form counts done l ≡ Ok y → Next form counts done y
unfolding later_line
next_later form counts done l y h = next_line form counts done l (line_event form (nodes_of counts) (split l)) y h

-- after the end nothing is read
ended : (nodes : ℕ) (ls : List (List ℕ)) (line : ℕ) → list_all (is_event nodes) (schedule_of ls line progress.Ended).events ≡ true
ended nodes [] line = refl
ended nodes (l ∷ ls) line = go (read_line progress.Ended l) refl
  where
    go : (r : Told) → read_line progress.Ended l ≡ r → list_all (is_event nodes) (with_told line (schedule_of ls (line + 1)) r).events ≡ true
    go (Err f) h = refl
    go (Ok y) h = absurd (let k = (read_short progress.Ended l y h).1 in cc)

-- the events are in their ranges after an event, if they are in what follows it
abbrev Fit : Counts → List (List ℕ) → ℕ → Progress → Type 0
Fit counts ls line q = list_all (is_event (nodes_of counts)) (schedule_of ls line q).events ≡ true

in_range : (form : ℕ) (counts : Counts) (done : ℕ) (l : List ℕ) (e : Event) (q : Progress) → 1 ≤ nodes_of counts →
    read_line (progress.Reading form counts done) l ≡ Ok (said.Event e, q) → is_event (nodes_of counts) e ≡ true
in_range form counts done l e q some h =
    event_within form (nodes_of counts) e (line_is_spelled (progress.Reading form counts done) l (said.Event e, q) some h).0

fit_before : (form : ℕ) (counts : Counts) (done : ℕ) (l : List ℕ) (ls : List (List ℕ)) (line : ℕ) (y : Line × Progress) → 1 ≤ nodes_of counts →
    Fit counts ls line (progress.Reading form counts (done + 1)) → read_line (progress.Reading form counts done) l ≡ Ok y → Next form counts done y →
    list_all (is_event (nodes_of counts)) (before y.0 (schedule_of ls line y.1)).events ≡ true
fit_before form counts done l ls line y some rest h (inl e) =
    subst (λ (z : Line × Progress). list_all (is_event (nodes_of counts)) (before z.0 (schedule_of ls line z.1)).events ≡ true) (sym e)
    (ended (nodes_of counts) ls line)
fit_before form counts done l ls line y some rest h (inr (e, q)) =
    let k = subst (λ (z : Line × Progress). read_line (progress.Reading form counts done) l ≡ Ok z) q h in
    let one = in_range form counts done l e (progress.Reading form counts (done + 1)) some k in
    subst (λ (z : Line × Progress). list_all (is_event (nodes_of counts)) (before z.0 (schedule_of ls line z.1)).events ≡ true) (sym q)
    (and_from _ _ one rest)

fit_told : (form : ℕ) (counts : Counts) (done : ℕ) (l : List ℕ) (ls : List (List ℕ)) (line : ℕ) (r : Told) → 1 ≤ nodes_of counts →
    Fit counts ls (line + 1) (progress.Reading form counts (done + 1)) → read_line (progress.Reading form counts done) l ≡ r →
    list_all (is_event (nodes_of counts)) (with_told line (schedule_of ls (line + 1)) r).events ≡ true
fit_told form counts done l ls line (Err f) some rest h = refl
fit_told form counts done l ls line (Ok y) some rest h =
    fit_before form counts done l ls (line + 1) y some rest h
    (next_later form counts done l y (read_short (progress.Reading form counts done) l y h).1)

-- all events are in their ranges
pub events_within : (form : ℕ) (counts : Counts) → 1 ≤ nodes_of counts → (ls : List (List ℕ)) (line done : ℕ) →
    list_all (is_event (nodes_of counts)) (schedule_of ls line (progress.Reading form counts done)).events ≡ true
events_within form counts some [] line done = refl
events_within form counts some (l ∷ ls) line done =
    fit_told form counts done l ls line (read_line (progress.Reading form counts done) l) some
    (events_within form counts some ls (line + 1) (done + 1)) refl
