-- A printed line is read back.
use Rattle.std.proofs.Common.{◌≡◌, ℕ, ◌+◌, ◌<◌, ◌≤◌, true, false, List, length, refl, ◌∙◌, ap, arith}
use Rattle.std.specs.Prelude.{nat_lt, Some, Ok}
use Rattle.std.proofs.lemmas.Bool.Decides.{nat_tests}
use Rattle.st_messages.specs.declared.event.Counts.{Counts}
use Rattle.st_messages.specs.declared.event.Event.{Event}
use Rattle.st_schedule.specs.declared.reader.Line.TheVariants as lines
use Rattle.st_schedule.specs.declared.reader.Progress.TheVariants as progress
use Rattle.st_schedule_words.specs.Words.{split, line_of, is_long}
use Rattle.st_schedule.specs.Grammar.{words, words_after, verb}
use Rattle.st_schedule.specs.Parser.{line_event}
use Rattle.st_schedule.specs.Reader.{later_line, nodes_of, MOST_EVENTS, IsReadAs}
use Rattle.st_schedule.proofs.EventsAreRead.{event_is_read}
use Rattle.st_schedule.proofs.LineRoom.{line_has_words, length-line, words_take, Take}

short : (e : Event) → Take 253 (words e) → is_long (line_of (words e)) ≡ false
short e h =
    let s = h.short in
    let l = length-line (verb e) (words_after e) in
    let n : length (line_of (words e)) ≤ 256 = omega arith in
    grind (arith, nat_tests)

later : (form : ℕ) (counts : Counts) (done : ℕ) (line : List ℕ) (e : Event) → line_event form (nodes_of counts) (split line) ≡ Ok (Some e) → done < MOST_EVENTS →
    later_line form counts done line ≡ Ok (lines.Event e, progress.Reading form counts (done + 1))
unfolding later_line
later form counts done line e h few = let t : nat_lt done MOST_EVENTS ≡ true = grind (arith, nat_tests) in rw (h, t) refl

pub read_as : (e : Event) → IsReadAs (line_of (words e)) e
read_as e form counts few fits done more =
    let taken = words_take form (nodes_of counts) e fits few in
    let same : split (line_of (words e)) ≡ words e = line_has_words (verb e) (words_after e) taken.unspaced in
    let read : line_event form (nodes_of counts) (split (line_of (words e))) ≡ Ok (Some e) = ap (line_event form (nodes_of counts)) same ∙ event_is_read form (nodes_of counts) e fits in
    rw (short e taken) (later form counts done (line_of (words e)) e read more)
