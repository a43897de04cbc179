-- A reader's lines: what it reads is what they spell in their place.
use Rattle.std.proofs.Common.{◌≡◌, ℕ, ◌+◌, ◌<◌, ◌≤◌, inl, inr, true, false, List, [], ◌∷◌, length, map, refl, sym, ◌∙◌, ap, subst, arith}
use Rattle.std.specs.Prelude.{nat_lt, IfOk, Option, Some, None, Result, Ok, Err, codes}
use Rattle.std.specs.Fmt.{decimal}
use Rattle.std.specs.Str.{bytes_eq}
use Rattle.std.proofs.lemmas.Bool.Decides.{nat_tests}
use Rattle.st_base.specs.Config.{check}
use Rattle.st_base.specs.declared.config.Config.{Config}
use Rattle.st_base.specs.declared.config.ConfigRefusal.{ConfigRefusal}
use Rattle.st_messages.specs.declared.event.Counts.{Counts}
use Rattle.st_messages.specs.declared.event.Event.{Event}
use Rattle.st_schedule.specs.declared.fault.Fault.{Fault}
use Rattle.st_schedule.specs.declared.fault.ScheduleRefusal.{ScheduleRefusal}
use Rattle.st_schedule.specs.declared.reader.Line.{Line}
use Rattle.st_schedule.specs.declared.reader.Line.TheVariants as lines
use Rattle.st_schedule.specs.declared.reader.Progress.{Progress}
use Rattle.st_schedule.specs.declared.reader.Progress.TheVariants as progress
use Rattle.st_schedule_words.specs.Words.{split, is_long}
use Rattle.st_schedule.specs.Grammar.{Spells, SpellsHead, head_numbers}
use Rattle.st_schedule.specs.Parser.{line_event, head_at, end_of, ends}
use Rattle.st_schedule.specs.Reader.{Told, started, checked, with_head, head_of_words, first_line, counted, with_line, nodes_of, later_line, short_line, read_line, MOST_EVENTS, SpellsLine, HasNodes, HasRoom, after_line, Answers}
use Rattle.st_schedule.proofs.ValuesWereWritten.{chosen, text_is}
use Rattle.st_schedule.proofs.EventsWereWritten.{read_is_spelled, end_is_spelled}
use Rattle.st_schedule.proofs.EventsAreRead.{spelled_is_read}
use Rattle.st_schedule.proofs.Heads.{head_is_spelled, head_is_read}

-- What is read is spelled so.

checked_ok : (h : Config × Counts × ℕ) (r : Result Unit ConfigRefusal) (y : Line × Progress) → checked h r ≡ Ok y → (r ≡ Ok tt) × (started h ≡ y)
checked_ok h (Ok u) y k = (refl, cc)
checked_ok h (Err f) y k = absurd (cc)

head_of_told : (line : List ℕ) (ws : List (List ℕ)) (r : Result (Config × Counts × ℕ) Fault) (y : Line × Progress) → split line ≡ codes "tank" ∷ ws → head_at ws ≡ r → with_head line r ≡ Ok y → SpellsLine progress.Nothing line y.0
head_of_told line ws (Err f) y text e k = absurd (cc)
head_of_told line ws (Ok h) y text e k =
    let p = checked_ok h (check h.0) y k in
    subst (λ (y : Line × Progress). SpellsLine progress.Nothing line y.0) p.1
    (subst (λ (vs : List (List ℕ)). SpellsHead vs h.0 h.1 h.2) (sym text) (head_is_spelled ws h e), p.0)

head_line : (line : List ℕ) (ws : List (List ℕ)) (y : Line × Progress) → split line ≡ ws → head_of_words line ws ≡ Ok y → SpellsLine progress.Nothing line y.0
unfolding head_of_words
head_line line [] y text k = absurd (cc)
head_line line (w ∷ ws) y text k =
    elim (chosen (bytes_eq w (codes "tank")) _ _ _ k) as (λ q. SpellsLine progress.Nothing line y.0) [
      | inl p ↦ head_of_told line ws (head_at ws) y (text ∙ ap (λ (t : List ℕ). t ∷ ws) (text_is w (codes "tank") p.0)) refl p.1
      | inr p ↦ absurd (let e = p.1 in cc)
    ]

first_spelled : (line : List ℕ) (y : Line × Progress) → first_line line ≡ Ok y → SpellsLine progress.Nothing line y.0
unfolding first_line
first_spelled line y k = head_line line (split line) y refl k

event_told : (form : ℕ) (counts : Counts) (done : ℕ) (line : List ℕ) (e : Event) (y : Line × Progress) → Spells form (nodes_of counts) (split line) e → counted form counts done e ≡ Ok y → SpellsLine (progress.Reading form counts done) line y.0
event_told form counts done line e y s k =
    elim (chosen (nat_lt done MOST_EVENTS) _ _ _ k) as (λ q. SpellsLine (progress.Reading form counts done) line y.0) [
      | inl p ↦ (let same : (lines.Event e, progress.Reading form counts (done + 1)) ≡ y = let j = p.1 in cc in
          subst (λ (y : Line × Progress). SpellsLine (progress.Reading form counts done) line y.0) same s)
      | inr p ↦ absurd (let j = p.1 in cc)
    ]

line_told : (form : ℕ) (counts : Counts) (done : ℕ) (line : List ℕ) (r : Result (Option Event) Fault) (y : Line × Progress) → 1 ≤ nodes_of counts → line_event form (nodes_of counts) (split line) ≡ r → with_line form counts done line r ≡ Ok y → SpellsLine (progress.Reading form counts done) line y.0
line_told form counts done line (Err f) y some e k = absurd (cc)
line_told form counts done line (Ok None) y some e k =
    let same : (lines.End, progress.Ended) ≡ y = cc in
    subst (λ (y : Line × Progress). SpellsLine (progress.Reading form counts done) line y.0) same (end_is_spelled form (nodes_of counts) (split line) e)
line_told form counts done line (Ok (Some v)) y some e k = event_told form counts done line v y (read_is_spelled form (nodes_of counts) (split line) v some e) k

later_spelled : (form : ℕ) (counts : Counts) (done : ℕ) (line : List ℕ) (y : Line × Progress) → 1 ≤ nodes_of counts → later_line form counts done line ≡ Ok y → SpellsLine (progress.Reading form counts done) line y.0
unfolding later_line
later_spelled form counts done line y some k = line_told form counts done line (line_event form (nodes_of counts) (split line)) y some refl k

short_spelled : (p : Progress) (line : List ℕ) (y : Line × Progress) → HasNodes p → short_line p line ≡ Ok y → SpellsLine p line y.0
short_spelled progress.Nothing line y some k = first_spelled line y k
short_spelled (progress.Reading form counts done) line y some k = later_spelled form counts done line y some k
short_spelled progress.Ended line y some k = absurd (cc)

pub line_is_spelled : (p : Progress) (line : List ℕ) (y : Line × Progress) → HasNodes p → read_line p line ≡ Ok y → SpellsLine p line y.0
line_is_spelled p line y some k =
    elim (chosen (is_long line) _ _ _ k) as (λ q. SpellsLine p line y.0) [
      | inl q ↦ absurd (let j = q.1 in cc)
      | inr q ↦ short_spelled p line y some q.1
    ]

-- What is spelled is read so.

not_long : (line : List ℕ) → length line ≤ 256 → is_long line ≡ false
not_long line h = grind (arith, nat_tests)

head_words_told : (line : List ℕ) (ws : List (List ℕ)) (h : Config × Counts × ℕ) → head_at ws ≡ Ok h → check h.0 ≡ Ok tt → head_of_words line (codes "tank" ∷ ws) ≡ Ok (started h)
unfolding head_of_words
head_words_told line ws h e k = rw (e, k) refl

first_reads : (line : List ℕ) (c : Config) (n : Counts) (form : ℕ) → SpellsHead (split line) c n form → check c ≡ Ok tt → first_line line ≡ Ok (lines.Head c n form, progress.Reading form n 0)
unfolding first_line
first_reads line c n form s k =
    ap (head_of_words line) s.1 ∙ head_words_told line (decimal form ∷ map decimal (head_numbers c n form)) (c, n, form) (head_is_read c n form s.0.0 s.0.1 s.0.2) k

event_reads : (form : ℕ) (counts : Counts) (done : ℕ) (line : List ℕ) (e : Event) → Spells form (nodes_of counts) (split line) e → done < MOST_EVENTS →
    later_line form counts done line ≡ Ok (lines.Event e, progress.Reading form counts (done + 1))
unfolding later_line
event_reads form counts done line e s few = let t : nat_lt done MOST_EVENTS ≡ true = grind (arith, nat_tests) in rw (spelled_is_read form (nodes_of counts) (split line) e s, t) refl

end_alone : (form nodes : ℕ) → line_event form nodes (codes "end" ∷ []) ≡ Ok None
unfolding line_event end_of ends
end_alone form nodes = refl

end_reads : (form : ℕ) (counts : Counts) (done : ℕ) (line : List ℕ) → split line ≡ codes "end" ∷ [] → later_line form counts done line ≡ Ok (lines.End, progress.Ended)
unfolding later_line
end_reads form counts done line e = ap (λ (ws : List (List ℕ)). with_line form counts done line (line_event form (nodes_of counts) ws)) e ∙ rw (end_alone form (nodes_of counts)) refl

short_reads : (p : Progress) (line : List ℕ) (l : Line) → SpellsLine p line l → HasRoom p l → short_line p line ≡ Ok (l, after_line p l)
short_reads progress.Nothing line (lines.Head c n form) s few = first_reads line c n form s.0 s.1
short_reads progress.Nothing line (lines.Event e) s few = absurd s
short_reads progress.Nothing line lines.End s few = absurd s
short_reads (progress.Reading form counts done) line (lines.Event e) s few = event_reads form counts done line e s few
short_reads (progress.Reading form counts done) line lines.End s few = end_reads form counts done line s
short_reads (progress.Reading form counts done) line (lines.Head c n f) s few = absurd s
short_reads progress.Ended line (lines.Head c n form) s few = absurd s
short_reads progress.Ended line (lines.Event e) s few = absurd s
short_reads progress.Ended line lines.End s few = absurd s

pub line_is_read : (p : Progress) (line : List ℕ) (l : Line) → SpellsLine p line l → length line ≤ 256 → HasRoom p l → read_line p line ≡ Ok (l, after_line p l)
line_is_read p line l s short few = rw (not_long line short) (short_reads p line l s few)

-- A call's answer.

pub answer_is_spelled : (old new : Progress) (line : List ℕ) (r : Result Line ScheduleRefusal) → Answers old new r (read_line old line) → HasNodes old → IfOk r (λ said. SpellsLine old line said)
answer_is_spelled old new line (Ok said) h some = line_is_spelled old line (said, new) some h
answer_is_spelled old new line (Err f) h some = tt

pub answer_is_read : (old new : Progress) (line : List ℕ) (r : Result Line ScheduleRefusal) → Answers old new r (read_line old line) → (said : Line) → SpellsLine old line said → length line ≤ 256 → HasRoom old said → Answers old new r (Ok (said, after_line old said))
answer_is_read old new line r h said s short few = subst (λ (t : Told). Answers old new r t) (line_is_read old line said s short few) h
