-- What holds while a source is taken piece by piece, and what is known when that stops.
use Rattle.std.proofs.Common.{◌≡◌, ℕ, ◌+◌, ◌<◌, List, [], ◌++◌, length, take, drop, refl, sym, ◌∙◌, ap, subst, arith, append-nil, take-append-drop}
use Rattle.std.specs.Prelude.{Option, Some, None, IfSome}
use Rattle.std.specs.Io.KnownBytes.{Appends, Consumes, Keeps}
use Rattle.std.proofs.KnownBytes.{Consumes-nil, Consumes-trans, Consumes-kept, Appends-nil, Appends-trans}
use Rattle.std.proofs.Math.Seq.{take-append_seam}
use Rattle.std.proofs.lemmas.List.{append_assoc, length-append}
use Rattle.st_link.specs.Prefixes.{AppendsPrefix}
use Rattle.st_rules.specs.World.{World}
use Rattle.st_schedule.specs.declared.fault.ScheduleRefusal.TheVariants.{NoHead, NoEnd}
use Rattle.st_schedule.specs.declared.reader.Progress.{Progress}
use Rattle.st_schedule.specs.declared.reader.Progress.TheVariants as progress
use Rattle.st_runs.specs.declared.fault.LineRefusal.{LineRefusal}
use Rattle.st_runs.specs.declared.fault.LineRefusal.TheVariants as why
use Rattle.st_replay.specs.declared.fault.Stop.{Stop}
use Rattle.st_replay.specs.declared.fault.Stop.TheVariants as stops
use Rattle.st_runs.specs.Schedule.{lines_of}
use Rattle.st_runs.specs.Replay.{Replay, Whole, behind, last_line, text, replay_lines, replay_of, report_of}
use Rattle.st_replay.proofs.Law.{every_schedule_runs_safely}
use Rattle.st_replay.proofs.VolumeRuns.{every_schedule_runs_in_the_volume}
use Rattle.st_replay.specs.Pieces.{Passes, whole_lines}
use Rattle.st_replay.specs.Ends.{IsCutOff}
use Rattle.st_replay.specs.States.{AtStop, EndsAt, Feeds, Handled, HasNone, IsHere, from_here}
use Rattle.st_replay.specs.Streams.{Streams, Halts}
use Rattle.st_replay.proofs.Newlines.{none_handled, no_wholes, more_handled}
use Rattle.st_replay.proofs.Steps.{behind_both, end_goes}
use Rattle.st_replay.proofs.LastLines.{here_ends}

-- all that was held is known
known_replay : (taken t pending : List ℕ) (handled : List (List ℕ)) (v : Option World) (q : Progress) (next : ℕ) (holds more : List ℕ) →
    Handled taken holds handled →
    ((ls : List (List ℕ)) → behind (t ++ pending) (from_here v q next ls) ≡ replay_lines (handled ++ ls)) →
    behind (t ++ pending) (from_here v q next (lines_of (holds ++ more))) ≡ replay_of (taken ++ more)
known_replay taken t pending handled v q next holds more are goes = goes (lines_of (holds ++ more)) ∙ ap replay_lines (sym (are.lines more))

-- the text of a replay after a text begins with it
front_first : (t : List ℕ) (r p : Replay) → behind t r ≡ p → text p ≡ t ++ (r.front ++ last_line r.last)
front_first t r p e = sym (ap (λ (x : Replay). text x) e) ∙ append_assoc t r.front (last_line r.last)

pub written_first : (left now before written : Option (List ℕ)) (pending : List ℕ) (v : Option World) (q : Progress) (next : ℕ) (holds : List ℕ) →
    (s : Streams left now before written pending v q next holds) →
    IfSome left (λ bytes. (rest : List ℕ) × (report_of bytes ≡ (s.written ++ pending) ++ rest))
written_first None now before written pending v q next holds s = tt
written_first (Some bytes) None before written pending v q next holds s = absurd s.took
written_first (Some bytes) (Some more) before written pending v q next holds s =
    let r = from_here v q next (lines_of (holds ++ more)) in (
      r.front ++ last_line r.last,
      front_first (s.written ++ pending) r (replay_of bytes) (known_replay s.taken s.written pending s.handled v q next holds more s.are s.goes
          ∙ ap replay_of (sym s.took)),
    )

-- a prefix of a text was written
pub prefix_of : (before now : Option (List ℕ)) (whole t rest : List ℕ) → Appends before now t → whole ≡ t ++ rest → AppendsPrefix before now whole
prefix_of before now whole t rest h e = (length t, subst (Appends before now) (sym (ap (take (length t)) e ∙ take-append_seam t rest)) h)

pub if_prefix : (left before now : Option (List ℕ)) (t : List ℕ) → Appends before now t →
    IfSome left (λ bytes. (rest : List ℕ) × (report_of bytes ≡ t ++ rest)) →
    IfSome left (λ bytes. AppendsPrefix before now (report_of bytes))
if_prefix None before now t h f = tt
if_prefix (Some bytes) before now t h f = prefix_of before now (report_of bytes) t f.0 h f.1

-- the text that was written is a front, whatever part of the rest is written
shorter : (left : Option (List ℕ)) (t u : List ℕ) → IfSome left (λ bytes. (rest : List ℕ) × (report_of bytes ≡ (t ++ u) ++ rest)) → (n : ℕ) →
    IfSome left (λ bytes. (rest : List ℕ) × (report_of bytes ≡ (t ++ take n u) ++ rest))
shorter None t u f n = tt
shorter (Some bytes) t u f n = (
  drop n u ++ f.0,
  f.1 ∙ ap (λ x. (t ++ x) ++ f.0) (sym (take-append-drop n u)) ∙ ap (λ x. x ++ f.0) (sym (append_assoc t (take n u) (drop n u)))
      ∙ append_assoc (t ++ take n u) (drop n u) f.0,
)

pub cut_short : (left now before written after : Option (List ℕ)) (pending : List ℕ) (v : Option World) (q : Progress) (next : ℕ) (holds : List ℕ) →
    Streams left now before written pending v q next holds →
    AppendsPrefix written after pending → IfSome left (λ bytes. AppendsPrefix before after (report_of bytes))
cut_short left now before written after pending v q next holds s h =
    if_prefix left before after (s.written ++ take h.0 pending) (Appends-trans before written after s.written (take h.0 pending) s.wrote h.1)
    (shorter left s.written pending (written_first left now before written pending v q next holds s) h.0)

nothing_more : (written : Option (List ℕ)) (pending : List ℕ) → AppendsPrefix written written pending
nothing_more written pending = (0, Appends-nil written)

pub so_far : (left now before written : Option (List ℕ)) (pending : List ℕ) (v : Option World) (q : Progress) (next : ℕ) (holds : List ℕ) →
    Streams left now before written pending v q next holds →
    IfSome left (λ bytes. AppendsPrefix before written (report_of bytes))
so_far left now before written pending v q next holds s = cut_short left now before written written pending v q next holds s (nothing_more written pending)

-- A failed read.

record Quiet (n : ℕ) (r : Replay) : Type 0 where
  nothing : r.front ≡ []
  passes : Passes n r.last

quiet_stop : (n line : ℕ) (f : LineRefusal) (r : Replay) → EndsAt [] line f (behind [] r) → n < line → Quiet n r
quiet_stop n line f r e h =
    record { nothing = sym (ap (λ (x : Replay). x.front) e); passes = subst (Passes n) (ap (λ (x : Replay). x.last) e) h }

quiet_whole : (n : ℕ) (w : World) (r : Replay) → record { front = []; last = Whole w } ≡ behind [] r → Quiet n r
quiet_whole n w r e = record { nothing = sym (ap (λ (x : Replay). x.front) e); passes = subst (Passes n) (ap (λ (x : Replay). x.last) e) tt }

quiet_here : (n : ℕ) (v : Option World) (q : Progress) (next : ℕ) → IsHere v q next → next ≡ n + 1 → Quiet n (from_here v q next [])
quiet_here n None progress.Nothing next here number = quiet_stop n next (why.Schedule NoHead) _ (here_ends [] None progress.Nothing next NoHead here refl)
    (omega (arith, number))
quiet_here n None (progress.Reading form counts done) next here number = absurd here
quiet_here n None progress.Ended next here number = absurd here
quiet_here n (Some w) progress.Nothing next here number = absurd here
quiet_here n (Some w) (progress.Reading form counts done) next here number =
    quiet_stop n next (why.Schedule NoEnd) _ (here_ends [] (Some w) (progress.Reading form counts done) next NoEnd here refl) (omega (arith, number))
quiet_here n (Some w) progress.Ended next here number = quiet_whole n w _ (end_goes [] next w progress.Ended refl)

-- what was taken and not handled has no whole line
wholes_taken : (taken holds : List ℕ) (handled : List (List ℕ)) → Handled taken holds handled → HasNone holds → whole_lines taken ≡ handled
wholes_taken taken holds handled are none =
    ap whole_lines (sym (append-nil taken)) ∙ are.wholes [] ∙ ap (λ x. handled ++ x) (ap whole_lines (append-nil holds) ∙ no_wholes holds none)
    ∙ append-nil handled

pub cut_off : (left now later before written : Option (List ℕ)) (pending : List ℕ) (v : Option World) (q : Progress) (next : ℕ) (holds : List ℕ) →
    Streams left now before written pending v q next holds →
    pending ≡ [] → Keeps now later → IsCutOff left later before written
cut_off left now later before written pending v q next holds s empty kept =
    let z = quiet_here (length s.handled) v q next s.here s.number in
    let are : whole_lines s.taken ≡ s.handled = wholes_taken s.taken holds s.handled s.are s.none in
    let all : behind (s.written ++ pending) (from_here v q next []) ≡ replay_lines (whole_lines s.taken) =
    s.goes [] ∙ ap replay_lines (append-nil s.handled ∙ sym are) in
    let front : (replay_lines (whole_lines s.taken)).front ≡ s.written =
    sym (ap (λ (x : Replay). x.front) all) ∙ ap (λ t. (s.written ++ pending) ++ t) z.nothing ∙ append-nil (s.written ++ pending)
    ∙ ap (λ t. s.written ++ t) empty ∙ append-nil s.written in
    record {
      taken = s.taken;
      took = Consumes-kept left now later s.taken s.took kept;
      wrote = subst (Appends before written) (sym front) s.wrote;
      passes = subst (λ ls. Passes (length ls) (replay_lines (whole_lines s.taken)).last) (sym are) (subst (Passes (length s.handled)) (ap (λ
          (x : Replay). x.last) all) z.passes);
      safe = every_schedule_runs_safely (whole_lines s.taken);
      volume = every_schedule_runs_in_the_volume (whole_lines s.taken);
    }

-- Before the first piece.

nothing_read : (left before : Option (List ℕ)) → Streams left left before before [] None progress.Nothing 1 []
nothing_read left before = record {
  taken = [];
  written = [];
  handled = [];
  took = Consumes-nil left;
  wrote = Appends-nil before;
  are = none_handled [];
  goes = λ ls. refl;
  number = omega arith;
  here = refl;
  none = refl;
  few = omega arith;
}

pub nothing_begun : (left before : Option (List ℕ)) (pending : List ℕ) (v : Option World) (q : Progress) (next : ℕ) (holds : List ℕ) →
    pending ≡ [] → v ≡ None → q ≡ progress.Nothing → next ≡ 1 → holds ≡ [] → Streams left left before before pending v q next holds
nothing_begun left before pending v q next holds no_text no_world unread first none =
    subst (λ t. Streams left left before before t v q next holds) (sym no_text)
    (subst (λ w. Streams left left before before [] w q next holds) (sym no_world)
    (subst (λ p. Streams left left before before [] None p next holds) (sym unread)
    (subst (λ n. Streams left left before before [] None progress.Nothing n holds) (sym first)
    (subst (λ h. Streams left left before before [] None progress.Nothing 1 h) (sym none) (nothing_read left before)))))

-- No byte more.

pub nothing_taken : (left now later before written : Option (List ℕ)) (pending : List ℕ) (v : Option World) (q : Progress) (next : ℕ)
    (holds : List ℕ) → Streams left now before written pending v q next holds → Consumes now later [] →
    Streams left later before written pending v q next holds
nothing_taken left now later before written pending v q next holds s none = record {
  taken = s.taken;
  written = s.written;
  handled = s.handled;
  took = subst (Consumes left later) (append-nil s.taken) (Consumes-trans left now later s.taken [] s.took none);
  wrote = s.wrote;
  are = s.are;
  goes = s.goes;
  number = s.number;
  here = s.here;
  none = s.none;
  few = s.few;
}

-- A piece more.

pub piece_more : (left now later before written : Option (List ℕ)) (pending : List ℕ) (v : Option World) (q : Progress) (next : ℕ) (holds piece : List ℕ)
    (text_now : List ℕ) (u : Option World) (r : Progress) (n : ℕ) (held : List ℕ) → Streams left now before written pending v q next holds →
    Consumes now later piece →
    Feeds pending v q next holds text_now u r n held piece → Streams left later before written text_now u r n held
piece_more left now later before written pending v q next holds piece text_now u r n held s took f =
    let both : length (s.handled ++ f.handled) ≡ length s.handled + length f.handled = length-append s.handled f.handled in
    let was = s.number in
    let more = f.number in
    record {
      taken = s.taken ++ piece;
      written = s.written;
      handled = s.handled ++ f.handled;
      took = Consumes-trans left now later s.taken piece s.took took;
      wrote = s.wrote;
      are = more_handled s.taken holds piece held s.handled f.handled s.are f.are;
      goes = λ ls. behind_both s.written text_now (from_here u r n ls) ∙ ap (behind s.written) (f.goes ls)
          ∙ sym (behind_both s.written pending (from_here v q next (f.handled ++ ls)))
          ∙ s.goes (f.handled ++ ls) ∙ ap replay_lines (sym (append_assoc s.handled f.handled ls));
      number = omega (arith, both, was, more);
      here = f.here;
      none = f.none;
      few = f.few;
    }

-- the text was written
pub text_written : (left now before written after : Option (List ℕ)) (pending text_now : List ℕ) (v : Option World) (q : Progress) (next : ℕ)
    (holds : List ℕ) → Streams left now before written pending v q next holds →
    Appends written after pending → text_now ≡ [] → Streams left now before after text_now v q next holds
text_written left now before written after pending text_now v q next holds s wrote empty =
    record {
      taken = s.taken;
      written = s.written ++ pending;
      handled = s.handled;
      took = s.took;
      wrote = Appends-trans before written after s.written pending s.wrote wrote;
      are = s.are;
      goes = λ ls. ap (λ t. behind t (from_here v q next ls)) (ap (λ t. (s.written ++ pending) ++ t) empty ∙ append-nil (s.written ++ pending)) ∙ s.goes ls;
      number = s.number;
      here = s.here;
      none = s.none;
      few = s.few;
    }

-- A refused line.

line_known : (left now later before written : Option (List ℕ)) (pending : List ℕ) (v : Option World) (q : Progress) (next : ℕ)
    (holds piece text_now : List ℕ) (n : ℕ) (f : LineRefusal) →
    (s : Streams left now before written pending v q next holds) → Consumes now later piece →
    ((more : List ℕ) → EndsAt text_now n f (behind pending (from_here v q next (lines_of ((holds ++ piece) ++ more))))) →
    IfSome left (λ bytes. EndsAt (s.written ++ text_now) n f (replay_of bytes))
line_known None now later before written pending v q next holds piece text_now n f s took h = tt
line_known (Some bytes) None later before written pending v q next holds piece text_now n f s took h = absurd s.took
line_known (Some bytes) (Some xs) None before written pending v q next holds piece text_now n f s took h = absurd took
line_known (Some bytes) (Some xs) (Some ys) before written pending v q next holds piece text_now n f s took h =
    ap (behind s.written) (h ys) ∙ sym (behind_both s.written pending _)
    ∙ ap (λ t. behind (s.written ++ pending) (from_here v q next (lines_of t))) (append_assoc holds piece ys)
    ∙ known_replay s.taken s.written pending s.handled v q next holds (piece ++ ys) s.are s.goes
    ∙ ap (λ t. replay_of (s.taken ++ t)) (sym took) ∙ ap replay_of (sym s.took)

at_line : (s : Stop) (left now later before written : Option (List ℕ)) (pending : List ℕ) (v : Option World) (q : Progress) (next : ℕ)
    (holds piece text_now : List ℕ) →
    (g : Streams left now before written pending v q next holds) → Consumes now later piece →
    AtStop s (λ n f. (more : List ℕ) → EndsAt text_now n f (behind pending (from_here v q next (lines_of ((holds ++ piece) ++ more))))) →
    AtStop s (λ n f. IfSome left (λ bytes. EndsAt (g.written ++ text_now) n f (replay_of bytes)))
at_line (stops.Line n f) left now later before written pending v q next holds piece text_now g took h = line_known left now later before written pending v
    q next holds piece text_now n f g took h
at_line stops.Memory left now later before written pending v q next holds piece text_now g took h = tt

only_written : (left : Option (List ℕ)) (t u : List ℕ) → IfSome left (λ bytes. (rest : List ℕ) × (report_of bytes ≡ (t ++ u) ++ rest)) →
    IfSome left (λ bytes. (rest : List ℕ) × (report_of bytes ≡ t ++ rest))
only_written None t u f = tt
only_written (Some bytes) t u f = (u ++ f.0, f.1 ∙ append_assoc t u f.0)

pub halted : (s : Stop) (left now later before written : Option (List ℕ)) (pending : List ℕ) (v : Option World) (q : Progress) (next : ℕ)
    (holds piece text_now : List ℕ) →
    Streams left now before written pending v q next holds → Consumes now later piece →
    AtStop s (λ n f. (more : List ℕ) → EndsAt text_now n f (behind pending (from_here v q next (lines_of ((holds ++ piece) ++ more))))) →
    Halts left before written text_now s
halted s left now later before written pending v q next holds piece text_now g took h = record {
  written = g.written;
  wrote = g.wrote;
  front = only_written left g.written pending (written_first left now before written pending v q next holds g);
  stops = at_line s left now later before written pending v q next holds piece text_now g took h;
}
