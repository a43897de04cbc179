-- The lines of a generated text, and what a reader makes of them.
use Rattle.st_lemmas.proofs.Words
use Words.{◌≡◌, ℕ, ◌+◌, ◌≤◌, true, cond, List, [], ◌∷◌, ◌++◌, length, refl, ap, ◌∙◌, arith, leb-true, ◌==◌, not, Ok, map, flat_map, AllByRecursion, Event}
use Words.Tables.{and_true, not_true}
use Words.Generator as g
use Words.Run.{run}
use Words.World.{World, fresh_world}
use Rattle.std.specs.Prelude.{codes}
use Rattle.std.specs.Fmt.{digits}
use Rattle.st_schedule.specs.declared.reader.Line.TheVariants as said
use Rattle.st_schedule.specs.declared.reader.Progress.TheVariants as progress
use Rattle.st_schedule_words.specs.Words.{line_of, split}
use Rattle.st_schedule.specs.Grammar.{Fits, head_words, words}
use Rattle.st_schedule.specs.Reader.{MOST_EVENTS, read_line, later_line}
use Rattle.st_schedule.specs.Parser.{line_event, end_of, ends}
use Rattle.st_schedule.proofs.LinesAsSpelled.{line_is_read}
use Rattle.st_schedule.proofs.PrintedLines.{read_as}
use Rattle.st_runs.specs.Schedule.{begin, lines_of, onto, schedule_of, with_told, Whole}
use Rattle.st_rules.specs.Report.{opening, report}
use Rattle.st_runs.specs.Replay.{Replay, behind, ended_by, replay_from, replay_lines, replay_of, with_head, text as replay_text}
use Rattle.st_generate.specs.GeneratedText as text
use Rattle.st_generate.specs.Law.{Has_length, Head_has_a_line, Runs_to_the_end, run_of}
use Rattle.st_laws_bounds.specs.FewMessages.Few.{EventsHaveLines}
use Rattle.st_laws_bounds.specs.Generated.ReadBack.{HeadIsRead, TextIsRead, TextIsReplayed, TextIsReported, whole}
use Rattle.st_laws_bounds.proofs.Generated.OneLine.{event_unbroken, is_unbroken}

-- A line and a newline before other text.
lines_behind : (l rest : List ℕ) → is_unbroken l ≡ true → lines_of (l ++ 10 ∷ rest) ≡ l ∷ lines_of rest
lines_behind [] rest h = refl
lines_behind (b ∷ bs) rest h =
    let z = and_true (not (b == 10)) _ h in
    ap (λ c. cond c ([] ∷ lines_of (bs ++ 10 ∷ rest)) (onto b (lines_of (bs ++ 10 ∷ rest)))) (not_true (b == 10) z.0)
    ∙ ap (onto b) (lines_behind bs rest z.1)

append_again : (xs ys zs : List ℕ) → (xs ++ ys) ++ zs ≡ xs ++ (ys ++ zs)
append_again [] ys zs = refl
append_again (x ∷ xs) ys zs = ap (λ l. x ∷ l) (append_again xs ys zs)

line_first : (l rest : List ℕ) → is_unbroken l ≡ true → lines_of ((l ++ codes "\n") ++ rest) ≡ l ∷ lines_of rest
line_first l rest h = ap lines_of (append_again l (codes "\n") rest) ∙ lines_behind l rest h

-- events and the end
tail_lines : (es : List Event) → AllByRecursion (Fits 1 5) es → lines_of (flat_map text.event_line es ++ codes "end\n") ≡ map (λ e. line_of (words e)) es ++ codes "end" ∷ []
tail_lines [] f = refl
tail_lines (e ∷ es) f =
    ap lines_of (append_again (text.event_line e) (flat_map text.event_line es) (codes "end\n"))
    ∙ line_first (line_of (words e)) (flat_map text.event_line es ++ codes "end\n") (event_unbroken 1 5 e f.0)
    ∙ ap (λ ls. line_of (words e) ∷ ls) (tail_lines es f.1)

-- The reader.
end_is_read : (done : ℕ) → read_line (progress.Reading 1 text.counts done) (codes "end") ≡ Ok (said.End, progress.Ended)
unfolding later_line line_event end_of ends
end_is_read done = refl

tail_read : (es : List Event) (line done : ℕ) → AllByRecursion (Fits 1 5) es → done + length es ≤ MOST_EVENTS →
    schedule_of (map (λ e. line_of (words e)) es ++ codes "end" ∷ []) line (progress.Reading 1 text.counts done) ≡ whole es
tail_read [] line done f few = ap (with_told line (schedule_of [] (line + 1))) (end_is_read done)
tail_read (e ∷ es) line done f few =
    ap (with_told line (schedule_of (map (λ e. line_of (words e)) es ++ codes "end" ∷ []) (line + 1)))
    (read_as e 1 text.counts (omega arith) f.0 done (omega (arith, few)))
    ∙ ap (begin e) (tail_read es (line + 1) (done + 1) f.1 (omega (arith, few)))

-- The head.
head_words_again : split (line_of (head_words g.settings text.counts 1)) ≡ head_words g.settings text.counts 1
unfolding digits
head_words_again = refl

head_short : length (line_of (head_words g.settings text.counts 1)) ≤ 256
unfolding digits
head_short = leb-true _ 256 refl

head_unbroken : is_unbroken (line_of (head_words g.settings text.counts 1)) ≡ true
unfolding digits
head_unbroken = refl

pub head_is_read : Head_has_a_line → HeadIsRead
head_is_read fits = line_is_read progress.Nothing (line_of (head_words g.settings text.counts 1)) (said.Head g.settings text.counts 1) ((fits, head_words_again), refl) head_short tt

-- The whole text.
abbrev first_line : List ℕ
first_line = line_of (head_words g.settings text.counts 1)

abbrev later_lines : List Event → List (List ℕ)
later_lines es = map (λ e. line_of (words e)) es ++ codes "end" ∷ []

text_lines : EventsHaveLines → (n seed : ℕ) → n ≤ MOST_EVENTS → lines_of (text.generate_text n seed) ≡ first_line ∷ later_lines (g.generate n seed)
unfolding text.generate_text text.schedule_text
text_lines each n seed small =
    ap lines_of (append_again text.head_line (flat_map text.event_line (g.generate n seed)) (codes "end\n"))
    ∙ line_first first_line _ head_unbroken
    ∙ ap (λ ls. first_line ∷ ls) (tail_lines (g.generate n seed) (each n seed small))

events_read : EventsHaveLines → Has_length → (n seed : ℕ) → n ≤ MOST_EVENTS → schedule_of (later_lines (g.generate n seed)) 2 (progress.Reading 1 text.counts 0) ≡ whole (g.generate n seed)
events_read each long n seed small = tail_read (g.generate n seed) 2 0 (each n seed small) (let z = long n seed in omega (arith, z, small))

pub text_is_read : Head_has_a_line → EventsHaveLines → Has_length → TextIsRead
text_is_read fits each long n seed small =
    ap (λ ls. schedule_of ls 1 progress.Nothing) (text_lines each n seed small)
    ∙ ap (with_told 1 (schedule_of (later_lines (g.generate n seed)) 2)) (head_is_read fits)
    ∙ events_read each long n seed small

-- Its replay.
replayed : Head_has_a_line → EventsHaveLines → Has_length → (n seed : ℕ) → n ≤ MOST_EVENTS →
    replay_of (text.generate_text n seed) ≡ behind opening (replay_from 1 g.generator_world (whole (g.generate n seed)))
unfolding replay_lines g.generator_world
replayed fits each long n seed small =
    ap replay_lines (text_lines each n seed small)
    ∙ ap (with_head (later_lines (g.generate n seed))) (head_is_read fits)
    ∙ ap (λ s. behind opening (replay_from 1 (fresh_world g.settings 3 2 2 64 1) s)) (events_read each long n seed small)

pub text_is_replayed : Head_has_a_line → EventsHaveLines → Has_length → Runs_to_the_end → TextIsReplayed
unfolding replay_from
text_is_replayed fits each long end n seed small =
    ap (λ (r : Replay). r.last) (replayed fits each long n seed small)
    ∙ ap (ended_by (1 + length (run_of n seed).seen) (run_of n seed).world Whole) (end n seed)

pub text_is_reported : Head_has_a_line → EventsHaveLines → Has_length →
    ((es : List Event) (w : World) → replay_text (behind opening (replay_from 1 w (whole es))) ≡ report (run es w)) → TextIsReported
text_is_reported fits each long same n seed small =
    ap replay_text (replayed fits each long n seed small) ∙ same (g.generate n seed) g.generator_world
