-- One line more: its event is run, or it is refused.
use Rattle.std.proofs.Common.{◌≡◌, ℕ, suc, ◌+◌, ◌≤◌, ◌<◌, true, List, [], ◌∷◌, ◌++◌, length, refl, sym, ◌∙◌, ap, subst, arith, append-nil, inl, inr}
use Rattle.std.specs.Prelude.{Option, Some, None, Result, Ok, Err, OnOk, nat_lt}
use Rattle.std.proofs.lemmas.List.{append_assoc}
use Rattle.std.proofs.lemmas.Bool.Decides.{nat_tests}
use Rattle.st_messages.specs.declared.event.Counts.{Counts}
use Rattle.st_messages.specs.declared.event.Event.{Event}
use Rattle.st_rules.specs.declared.observation.Observation.{Observation}
use Rattle.st_rules.specs.declared.observation.WorldRefusal.{WorldRefusal}
use Rattle.st_rules.specs.World.{World}
use Rattle.st_rules.specs.Admissible.{refusal}
use Rattle.st_rules.specs.Events.{world_by, world_turn, world_step}
use Rattle.st_rules.specs.Run.{Run, run, go_on, behind as run_behind}
use Rattle.st_rules.specs.Report.{lines, lines_from}
use Rattle.st_rules.specs.Safety.{is_event}
use Rattle.st_schedule.specs.declared.fault.Fault.{Fault}
use Rattle.st_schedule.specs.declared.fault.ScheduleRefusal.{ScheduleRefusal}
use Rattle.st_schedule.specs.declared.reader.Line.{Line}
use Rattle.st_schedule.specs.declared.reader.Line.TheVariants as said
use Rattle.st_schedule.specs.declared.reader.Progress.{Progress}
use Rattle.st_schedule.specs.declared.reader.Progress.TheVariants as progress
use Rattle.st_schedule_words.specs.Words.{split}
use Rattle.st_schedule.specs.Parser.{line_event}
use Rattle.st_schedule.specs.Reader.{nodes_of, counted, with_line, later_line, read_line, read_end, HasNodes, HasRoom, after_line, MOST_EVENTS, SpellsLine}
use Rattle.st_schedule.proofs.LinesAsSpelled.{line_is_read, line_is_spelled}
use Rattle.st_replay.specs.declared.fault.Stop.{Stop}
use Rattle.st_replay.specs.declared.fault.Stop.TheVariants as stops
use Rattle.st_schedule.proofs.ValuesWereWritten.{chosen}
use Rattle.st_runs.specs.declared.fault.LineRefusal.TheVariants as why
use Rattle.st_runs.specs.declared.fault.LineRefusal.{LineRefusal}
use Rattle.st_runs.specs.Schedule.{Schedule, Ending, begin, stop, end_at, schedule_of, with_told}
use Rattle.st_runs.specs.Schedule as schedule
use Rattle.st_runs.specs.Replay.{Replay, Whole, Stopped, behind, ended_by, run_from, replay_from}
use Rattle.st_replay.specs.States.{AtStop, EndsAt, IsPlaying, IsUnread, from_line, from_world}
use Rattle.st_runs.proofs.Short.{read_short}
use Rattle.st_runs.proofs.Ranges.{event_within}

-- An event.

-- a run after the observations of one event
run_one : (n : ℕ) (ending : Ending) (os : List Observation) (r : Run) →
    run_from n ending (run_behind (os ∷ []) r) ≡ behind (lines n os) (run_from (n + 1) ending r)
unfolding lines_from
run_one n ending os r =
    let more : n + suc (length r.seen) ≡ n + 1 + length r.seen = omega arith in
    ap (λ k. record { front = lines n os ++ lines_from (n + 1) r.seen; last = ended_by k r.world ending r.refused }) more

one_event : (n : ℕ) (w v : World) (os : List Observation) (e : Event) (rest : Schedule) → world_step w e ≡ Ok (world_turn v os) →
    replay_from n w (begin e rest) ≡ behind (lines n os) (replay_from (n + 1) v rest)
unfolding replay_from run go_on
one_event n w v os e rest h = ap (λ r. run_from n rest.ending (go_on (run rest.events) w r)) h ∙ run_one n rest.ending os (run rest.events v)

pub behind_both : (a b : List ℕ) (r : Replay) → behind (a ++ b) r ≡ behind a (behind b r)
behind_both a b r = ap (λ t. record { front = t; last = r.last }) (append_assoc a b r.front)

pub event_goes : (old new : List ℕ) (n : ℕ) (w v : World) (os : List Observation) (e : Event) (rest : Schedule) → world_step w e ≡ Ok (world_turn v os) →
    v.tally.events ≡ w.tally.events + 1 → n ≡ w.tally.events + 1 → new ≡ old ++ lines n os →
    behind new (from_world v rest) ≡ behind old (from_world w (begin e rest))
event_goes old new n w v os e rest h counted number appended =
    ap (λ t. behind t (from_world v rest)) appended ∙ behind_both old (lines n os) (from_world v rest)
    ∙ ap (λ k. behind old (behind (lines n os) (replay_from (k + 1) v rest))) (counted ∙ sym number)
    ∙ ap (behind old) (sym (one_event n w v os e rest h)) ∙ ap (λ k. behind old (replay_from k w (begin e rest))) number

-- a step of an event that is refused, and of one that is admissible
pub refused_step : (w : World) (e : Event) (f : WorldRefusal) → refusal w e ≡ Some f → world_step w e ≡ Err f
unfolding world_step world_by
refused_step w e f h = ap (world_by w e) h

pub not_refused : (w : World) (e : Event) (f : WorldRefusal) → refusal w e ≡ None → world_step w e ≡ Err f → ⊥
unfolding world_step world_by
not_refused w e f a h = let z = ap (world_by w e) a in cc

refused_event : (n : ℕ) (w : World) (f : WorldRefusal) (e : Event) (rest : Schedule) → world_step w e ≡ Err f →
    replay_from n w (begin e rest) ≡ record { front = []; last = ended_by (n + 0) w rest.ending (Some f) }
unfolding replay_from run go_on lines_from
refused_event n w f e rest h = ap (λ r. run_from n rest.ending (go_on (run rest.events) w r)) h

pub stopped_at : (old : List ℕ) (a b : ℕ) (g : LineRefusal) → a ≡ b → EndsAt old b g (record { front = old ++ []; last = Stopped a g })
stopped_at old a b g e =
    sym (ap (λ t. record { front = t; last = Stopped a g }) (append-nil old) ∙ ap (λ k. record { front = old; last = Stopped k g }) e)

pub event_stops : (old : List ℕ) (line : ℕ) (w : World) (f : WorldRefusal) (e : Event) (rest : Schedule) → world_step w e ≡ Err f →
    line ≡ w.tally.events + 2 → EndsAt old line (why.World f) (behind old (from_world w (begin e rest)))
event_stops old line w f e rest h number =
    let place : w.tally.events + 1 + 0 + 1 ≡ line = omega (arith, number) in
    stopped_at old (w.tally.events + 1 + 0 + 1) line (why.World f) place ∙ sym (ap (behind old) (refused_event (w.tally.events + 1) w f e rest h))

-- A line.

-- what follows a line that is not read
unread_run : (n : ℕ) (w : World) (line : ℕ) (f : ScheduleRefusal) →
    replay_from n w (stop (schedule.Stopped line f)) ≡ record { front = []; last = Stopped line (why.Schedule f) }
unfolding replay_from run lines_from
unread_run n w line f = refl

pub line_stops : (old : List ℕ) (line : ℕ) (w : World) (p : Progress) (l : List ℕ) (f : ScheduleRefusal) (ls : List (List ℕ)) → read_line p l ≡ Err f →
    EndsAt old line (why.Schedule f) (behind old (from_line w p line (l ∷ ls)))
line_stops old line w p l f ls h =
    stopped_at old line line (why.Schedule f) refl
    ∙ sym (ap (behind old) (ap (λ r. from_world w (with_told line (schedule_of ls (line + 1)) r)) h ∙ unread_run (w.tally.events + 1) w line f))

-- the end of the lines
pub end_stops : (old : List ℕ) (line : ℕ) (w : World) (p : Progress) (f : ScheduleRefusal) → read_end p ≡ Err f →
    EndsAt old line (why.Schedule f) (behind old (from_line w p line []))
end_stops old line w p f h =
    stopped_at old line line (why.Schedule f) refl
    ∙ sym (ap (behind old) (ap (λ r. from_world w (stop (end_at line r))) h ∙ unread_run (w.tally.events + 1) w line f))

whole_run : (n : ℕ) (w : World) → replay_from n w (stop schedule.Whole) ≡ record { front = []; last = Whole w }
unfolding replay_from run lines_from
whole_run n w = refl

pub end_goes : (old : List ℕ) (line : ℕ) (w : World) (p : Progress) → read_end p ≡ Ok tt →
    record { front = old; last = Whole w } ≡ behind old (from_line w p line [])
end_goes old line w p h =
    sym (ap (behind old) (ap (λ r. from_world w (stop (end_at line r))) h ∙ whole_run (w.tally.events + 1) w)
    ∙ ap (λ t. record { front = t; last = Whole w }) (append-nil old))

-- What a reader that has read the head reads.

-- after an event it has read one event more, of at most 100,000
record ReadsEvent (form : ℕ) (counts : Counts) (done : ℕ) (y : Line × Progress) (e : Event) : Type 0 where
  few : done < 100000
  next : y ≡ (said.Event e, progress.Reading form counts (done + 1))

counted_event : (form : ℕ) (counts : Counts) (done : ℕ) (e : Event) (y : Line × Progress) → counted form counts done e ≡ Ok y → ReadsEvent form counts done y e
counted_event form counts done e y h =
    elim (chosen (nat_lt done MOST_EVENTS) _ _ _ h) as (λ q. ReadsEvent form counts done y e) [
      | inl q ↦ (let t = q.0 in record { few = grind (arith, nat_tests); next = let k = q.1 in cc })
      | inr q ↦ absurd (let k = q.1 in cc)
    ]

same_event : (form : ℕ) (counts : Counts) (done : ℕ) (e v : Event) (q : Progress) → ReadsEvent form counts done (said.Event e, q) v →
    (done < 100000) × (q ≡ progress.Reading form counts (done + 1))
same_event form counts done e v q h = (h.few, ap (λ (y : Line × Progress). y.1) h.next)

line_event_read : (form : ℕ) (counts : Counts) (done : ℕ) (l : List ℕ) (r : Result (Option Event) Fault) (e : Event) (q : Progress) →
    with_line form counts done l r ≡ Ok (said.Event e, q) → (done < 100000) × (q ≡ progress.Reading form counts (done + 1))
line_event_read form counts done l (Err f) e q h = absurd (cc)
line_event_read form counts done l (Ok None) e q h =
    absurd (let same : (said.End, progress.Ended) ≡ (said.Event e, q) = cc in let k = ap (λ (y : Line × Progress). y.0) same in cc)
line_event_read form counts done l (Ok (Some v)) e q h = same_event form counts done e v q (counted_event form counts done v (said.Event e, q) h)

later_event : (form : ℕ) (counts : Counts) (done : ℕ) (l : List ℕ) (e : Event) (q : Progress) →
    later_line form counts done l ≡ Ok (said.Event e, q) → (done < 100000) × (q ≡ progress.Reading form counts (done + 1))
unfolding later_line
later_event form counts done l e q h = line_event_read form counts done l (line_event form (nodes_of counts) (split l)) e q h

pub event_read : (w v : World) (p q : Progress) (line : ℕ) (l : List ℕ) (e : Event) → IsPlaying w p line → read_line p l ≡ Ok (said.Event e, q) →
    v.tally.events ≡ w.tally.events + 1 → length v.clocks ≡ length w.clocks → IsPlaying v q (line + 1)
event_read w v progress.Nothing q line l e s h counted clocks = absurd s
event_read w v (progress.Reading form counts done) q line l e s h counted clocks =
    let k = later_event form counts done l e q (read_short (progress.Reading form counts done) l (said.Event e, q) h).1 in
    let few : done < 100000 = k.0 in
    let was : w.tally.events ≡ done = s.2 in
    let place : line ≡ done + 2 = s.4 in
    subst (λ p. IsPlaying v p (line + 1)) (sym k.1)
    (s.0, clocks ∙ s.1, omega (arith, counted, was), omega (arith, few), omega (arith, place))
event_read w v progress.Ended q line l e s h counted clocks = absurd (let k = (read_short progress.Ended l (said.Event e, q) h).1 in cc)

-- the event is in its ranges
pub event_fits : (w : World) (p : Progress) (line : ℕ) (l : List ℕ) (e : Event) → IsPlaying w p line → SpellsLine p l (said.Event e) →
    is_event (length w.clocks) e ≡ true
event_fits w progress.Nothing line l e s h = absurd s
event_fits w (progress.Reading form counts done) line l e s h =
    rw (s.1) (event_within form (nodes_of counts) e h.0)
event_fits w progress.Ended line l e s h = absurd h

pub has_nodes : (w : World) (p : Progress) (line : ℕ) → IsPlaying w p line → HasNodes p
has_nodes w progress.Nothing line s = absurd s
has_nodes w (progress.Reading form counts done) line s = s.0
has_nodes w progress.Ended line s = tt

end_next : (p q : Progress) (l : List ℕ) → HasNodes p → HasRoom p said.End → read_line p l ≡ Ok (said.End, q) → q ≡ after_line p said.End
end_next p q l some has h =
    let s = line_is_spelled p l (said.End, q) some h in
    let read = sym h ∙ line_is_read p l said.End s (read_short p l (said.End, q) h).0 has in
    let same : (said.End, q) ≡ (said.End, after_line p said.End) = cc in
    ap (λ (y : Line × Progress). y.1) same

pub end_read : (w : World) (p q : Progress) (line : ℕ) (l : List ℕ) → IsPlaying w p line → read_line p l ≡ Ok (said.End, q) → IsPlaying w q (line + 1)
end_read w progress.Nothing q line l s h = absurd s
end_read w (progress.Reading form counts done) q line l s h =
    let was : w.tally.events ≡ done = s.2 in
    let few : done ≤ 100000 = s.3 in
    let place : line ≡ done + 2 = s.4 in
    subst (λ p. IsPlaying w p (line + 1)) (sym (end_next (progress.Reading form counts done) q l s.0 tt h)) (omega (arith, was, few), omega (arith, was, place))
end_read w progress.Ended q line l s h = absurd (let k = (read_short progress.Ended l (said.End, q) h).1 in cc)

-- The same of a call that ran the event, or was stopped.

pub on_ok : {T E : Type 0} (r : Result T E) (fact : Type 0) → fact → OnOk r fact
on_ok (Ok x) fact h = h
on_ok (Err e) fact h = tt

pub ran : {T E : Type 0} (r : Result T E) (w v : World) (p q : Progress) (line : ℕ) (l : List ℕ) (e : Event) → IsPlaying w p line →
    read_line p l ≡ Ok (said.Event e, q) →
    OnOk r (v.tally.events ≡ w.tally.events + 1) → OnOk r (length v.clocks ≡ length w.clocks) → OnOk r (IsPlaying v q (line + 1))
ran (Ok x) w v p q line l e s h counted clocks = event_read w v p q line l e s h counted clocks
ran (Err x) w v p q line l e s h counted clocks = tt

unread_stops : (old : List ℕ) (n line : ℕ) (w : World) (p : Progress) (l : List ℕ) (f : LineRefusal) (ls : List (List ℕ)) → n ≡ line →
    IsUnread (read_line p l) f →
    EndsAt old n f (behind old (from_line w p line (l ∷ ls)))
unread_stops old n line w p l (why.Schedule f) ls number h =
    subst (λ k. EndsAt old k (why.Schedule f) (behind old (from_line w p line (l ∷ ls)))) (sym number) (line_stops old line w p l f ls h)
unread_stops old n line w p l (why.World f) ls number h = absurd h

pub stop_line : (s : Stop) (old : List ℕ) (line : ℕ) (w : World) (p : Progress) (l : List ℕ) → AtStop s (λ n f. (n ≡ line) × IsUnread (read_line p l) f) →
    AtStop s (λ n f. (ls : List (List ℕ)) → EndsAt old n f (behind old (from_line w p line (l ∷ ls))))
stop_line (stops.Line n f) old line w p l h = λ ls. unread_stops old n line w p l f ls h.0 h.1
stop_line stops.Memory old line w p l h = tt
