-- A piece on its way: the lines that were played of it, and the bytes that are left.
use Rattle.std.proofs.Common.{◌≡◌, ℕ, suc, ◌+◌, ◌<◌, ◌≤◌, List, [], ◌∷◌, ◌++◌, length, refl, sym, ◌∙◌, ap, subst, arith}
use Rattle.std.specs.Prelude.{Option, Some, None, Result, Ok, Err}
use Rattle.std.proofs.lemmas.List.{append_assoc, length-append}
use Rattle.st_rules.specs.World.{World}
use Rattle.st_schedule.specs.declared.fault.ScheduleRefusal.{ScheduleRefusal}
use Rattle.st_schedule.specs.declared.fault.ScheduleRefusal.TheVariants.{LineTooLong}
use Rattle.st_schedule.specs.declared.reader.Progress.{Progress}
use Rattle.st_schedule.specs.declared.reader.Progress.TheVariants as progress
use Rattle.st_schedule.specs.Reader.{read_line}
use Rattle.st_runs.specs.declared.fault.LineRefusal.{LineRefusal}
use Rattle.st_runs.specs.declared.fault.LineRefusal.TheVariants as why
use Rattle.st_replay.specs.declared.fault.Stop.{Stop}
use Rattle.st_replay.specs.declared.fault.Stop.TheVariants as stops
use Rattle.st_runs.specs.Schedule.{lines_of}
use Rattle.st_runs.specs.Replay.{behind}
use Rattle.st_replay.specs.States.{AtStop, OnStop, EndsAt, Feeds, Goes, HasNone, Handled, IsHere, from_here, needs}
use Rattle.st_replay.proofs.Room.{long_refused}
use Rattle.st_replay.proofs.Steps.{line_stops}
use Rattle.st_replay.proofs.First.{first_stops}
use Rattle.st_replay.proofs.Newlines.{line_begins, none_both, none_handled, one_handled}

pub record Going (old : List ℕ) (w : Option World) (p : Progress) (line : ℕ) (held piece : List ℕ)
    (new : List ℕ) (v : Option World) (q : Progress) (next : ℕ) (holds rest : List ℕ) : Type 0 where
  pub handled : List (List ℕ)
  pub are : Handled (held ++ piece) (holds ++ rest) handled
  pub goes : Goes old w p line new v q next handled
  pub number : next ≡ line + length handled
  pub here : IsHere v q next
  pub none : HasNone holds
  pub few : length holds ≤ 256
  pub room : needs q + length held + length piece ≤ needs p + length holds + length rest

pub begun : (old : List ℕ) (w : Option World) (p : Progress) (line : ℕ) (held piece : List ℕ) → IsHere w p line → HasNone held → length held ≤ 256 →
    Going old w p line held piece old w p line held piece
begun old w p line held piece here none few = record {
  handled = [];
  are = none_handled (held ++ piece);
  goes = λ ls. refl;
  number = omega arith;
  here = here;
  none = none;
  few = few;
  room = omega arith;
}

pub on_and_on : (old mid new : List ℕ) (w u v : Option World) (p r q : Progress) (line n next : ℕ) (handled more : List (List ℕ)) →
    Goes old w p line mid u r n handled → Goes mid u r n new v q next more → Goes old w p line new v q next (handled ++ more)
on_and_on old mid new w u v p r q line n next handled more a b = λ ls.
    b ls ∙ a (more ++ ls) ∙ ap (λ x. behind old (from_here w p line x)) (sym (append_assoc handled more ls))

-- one line more
pub one_played : (old : List ℕ) (w : Option World) (p : Progress) (line : ℕ) (held piece : List ℕ) (mid : List ℕ) (u : Option World) (r : Progress)
    (n : ℕ) (holds rest : List ℕ)
    (new : List ℕ) (v : Option World) (q : Progress) (next : ℕ) (part after empty : List ℕ) → Going old w p line held piece mid u r n holds rest →
    rest ≡ part ++ 10 ∷ after → HasNone part → Goes mid u r n new v q next ((holds ++ part) ∷ []) → next ≡ n + 1 → IsHere v q next →
    length (holds ++ part) + 1 + needs q ≤ needs r → empty ≡ [] → Going old w p line held piece new v q next empty after
one_played old w p line held piece mid u r n holds rest new v q next part after empty g e none goes number here room nothing =
    let whole : length rest ≡ length part + suc (length after) = ap length e ∙ length-append part (10 ∷ after) in
    let line_length : length (holds ++ part) ≡ length holds + length part = length-append holds part in
    let one : length (g.handled ++ (holds ++ part) ∷ []) ≡ length g.handled + 1 = length-append g.handled ((holds ++ part) ∷ []) in
    let was = g.number in
    let has = g.room in
    subst (λ z. Going old w p line held piece new v q next z after) (sym nothing)
    (record {
      handled = g.handled ++ (holds ++ part) ∷ [];
      are = one_handled (held ++ piece) holds rest part after g.handled e g.none none g.are;
      goes = on_and_on old mid new w u v p r q line n next g.handled ((holds ++ part) ∷ []) g.goes goes;
      number = omega (arith, one, was, number);
      here = here;
      none = refl;
      few = omega arith;
      room = omega (arith, whole, line_length, has, room);
    })

-- a refusal of what follows is one of the whole
pub whole_stops : (old : List ℕ) (w : Option World) (p : Progress) (line : ℕ) (held piece : List ℕ) (mid : List ℕ) (u : Option World) (r : Progress)
    (m : ℕ) (holds rest : List ℕ)
    (new : List ℕ) (n : ℕ) (f : LineRefusal) (more : List ℕ) → Going old w p line held piece mid u r m holds rest →
    EndsAt new n f (behind mid (from_here u r m (lines_of ((holds ++ rest) ++ more)))) →
    EndsAt new n f (behind old (from_here w p line (lines_of ((held ++ piece) ++ more))))
whole_stops old w p line held piece mid u r m holds rest new n f more g h =
    h ∙ g.goes (lines_of ((holds ++ rest) ++ more)) ∙ ap (λ x. behind old (from_here w p line x)) (sym (g.are.lines more))

here_stops : (old : List ℕ) (v : Option World) (q : Progress) (line : ℕ) (l : List ℕ) (f : ScheduleRefusal) (ls : List (List ℕ)) → IsHere v q line →
    read_line q l ≡ Err f →
    EndsAt old line (why.Schedule f) (behind old (from_here v q line (l ∷ ls)))
here_stops old None progress.Nothing line l f ls here h = first_stops old line l (why.Schedule f) ls here h
here_stops old None (progress.Reading form counts done) line l f ls here h = absurd here
here_stops old None progress.Ended line l f ls here h = absurd here
here_stops old (Some w) q line l f ls here h = line_stops old line w q l f ls h

-- more bytes than a line may have, without a newline
pub long_stops : (old : List ℕ) (v : Option World) (q : Progress) (line : ℕ) (h more : List ℕ) → IsHere v q line → HasNone h → 256 < length h →
    EndsAt old line (why.Schedule LineTooLong) (behind old (from_here v q line (lines_of (h ++ more))))
long_stops old v q line [] more here none long = absurd (omega arith)
long_stops old v q line (b ∷ h) more here none long =
    let y = line_begins b h more none in
    let long_line : 256 < length ((b ∷ h) ++ y.end) = (let both = length-append (b ∷ h) y.end in omega (arith, both)) in
    here_stops old v q line ((b ∷ h) ++ y.end) LineTooLong y.others here (long_refused q ((b ∷ h) ++ y.end) long_line)
    ∙ ap (λ x. behind old (from_here v q line x)) (sym y.are)

-- The same of a call that was stopped.

-- at a line
pub stop_played : (s : Stop) (old : List ℕ) (w : Option World) (p : Progress) (line : ℕ) (held piece : List ℕ) (mid : List ℕ) (u : Option World)
    (r : Progress) (m : ℕ) (holds rest : List ℕ)
    (new : List ℕ) (part after : List ℕ) → Going old w p line held piece mid u r m holds rest → rest ≡ part ++ 10 ∷ after → HasNone part →
    AtStop s (λ n f. (ls : List (List ℕ)) → EndsAt new n f (behind mid (from_here u r m ((holds ++ part) ∷ ls)))) →
    AtStop s (λ n f. (more : List ℕ) → EndsAt new n f (behind old (from_here w p line (lines_of ((held ++ piece) ++ more)))))
stop_played (stops.Line n f) old w p line held piece mid u r m holds rest new part after g e none h = λ more.
    whole_stops old w p line held piece mid u r m holds rest new n f more g
    (h (lines_of (after ++ more))
    ∙ ap (λ x. behind mid (from_here u r m x)) (sym ((one_handled (holds ++ rest) holds rest part after [] e g.none none (none_handled
    (holds ++ rest))).lines more)))
stop_played stops.Memory old w p line held piece mid u r m holds rest new part after g e none h = tt

-- at a line that is too long
pub stop_held : (s : Stop) (old : List ℕ) (w : Option World) (p : Progress) (line : ℕ) (held piece : List ℕ) (new : List ℕ) (v : Option World)
    (q : Progress) (next : ℕ) (holds rest : List ℕ) →
    Going old w p line held piece new v q next holds rest → HasNone rest →
    AtStop s (λ n f. (n ≡ next) × (f ≡ why.Schedule LineTooLong) × (256 < length (holds ++ rest))) →
    AtStop s (λ n f. (more : List ℕ) → EndsAt new n f (behind old (from_here w p line (lines_of ((held ++ piece) ++ more)))))
stop_held (stops.Line n f) old w p line held piece new v q next holds rest g none h = λ more.
    whole_stops old w p line held piece new v q next holds rest new n f more g
    (subst (λ k. EndsAt new k f (behind new (from_here v q next (lines_of ((holds ++ rest) ++ more))))) (sym h.0)
    (subst (λ y. EndsAt new next y (behind new (from_here v q next (lines_of ((holds ++ rest) ++ more))))) (sym h.1)
    (long_stops new v q next (holds ++ rest) more g.here (none_both holds rest g.none none) h.2)))
stop_held stops.Memory old w p line held piece new v q next holds rest g none h = tt

pub held_stops : {T : Type 0} (result : Result T Stop) (old : List ℕ) (w : Option World) (p : Progress) (line : ℕ) (held piece : List ℕ) (new : List ℕ)
    (v : Option World) (q : Progress) (next : ℕ) (holds rest : List ℕ) →
    Going old w p line held piece new v q next holds rest → HasNone rest →
    OnStop result (λ n f. (n ≡ next) × (f ≡ why.Schedule LineTooLong) × (256 < length (holds ++ rest))) →
    OnStop result (λ n f. (more : List ℕ) → EndsAt new n f (behind old (from_here w p line (lines_of ((held ++ piece) ++ more)))))
held_stops (Ok x) old w p line held piece new v q next holds rest g none h = tt
held_stops (Err s) old w p line held piece new v q next holds rest g none h = stop_held s old w p line held piece new v q next holds rest g none h
