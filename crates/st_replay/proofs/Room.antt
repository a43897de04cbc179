-- What may follow a line that is read is bounded.
use Rattle.std.proofs.Common.{◌≡◌, ℕ, ◌+◌, ◌^◌, ◌<◌, ◌≤◌, inl, inr, List, [], ◌∷◌, ◌++◌, length, map, refl, ap, subst, arith}
use Rattle.std.specs.Prelude.{nat_lt, Option, Some, None, Result, Ok, Err, codes}
use Rattle.std.specs.Fmt.{decimal}
use Rattle.std.specs.Str.{bytes_eq}
use Rattle.std.proofs.lemmas.Bool.{cond-true, lt-ltb}
use Rattle.std.proofs.lemmas.Bool.Decides.{nat_tests}
use Rattle.std.proofs.lemmas.Fmt.{length-decimal-le}
use Rattle.st_base.specs.Config.{check}
use Rattle.st_base.specs.declared.config.Config.{Config}
use Rattle.st_base.specs.declared.config.ConfigRefusal.{ConfigRefusal}
use Rattle.st_messages.specs.declared.event.Counts.{Counts}
use Rattle.st_messages.specs.declared.event.Event.{Event}
use Rattle.st_schedule.specs.declared.fault.Fault.{Fault}
use Rattle.st_schedule.specs.declared.fault.ScheduleRefusal.TheVariants.{LineTooLong}
use Rattle.st_schedule.specs.declared.reader.Line.{Line}
use Rattle.st_schedule.specs.declared.reader.Line.TheVariants as said
use Rattle.st_schedule.specs.declared.reader.Progress.{Progress}
use Rattle.st_schedule.specs.declared.reader.Progress.TheVariants as progress
use Rattle.st_schedule_words.specs.Words.{split, room, is_long}
use Rattle.st_schedule.specs.Grammar.{MOST_SETTING, grains, counts_of, head_numbers, head_words, AreCounts, IsForm, FitsHead}
use Rattle.st_schedule.specs.Parser.{line_event, head_at}
use Rattle.st_schedule.specs.Reader as head
use Rattle.st_schedule.specs.Reader.{
  Told,
  started,
  checked,
  head_of_words,
  first_line,
  counted,
  with_line,
  nodes_of,
  later_line,
  short_line,
  read_line,
  MOST_EVENTS,
  SpellsLine,
}
use Rattle.st_schedule_words.proofs.Words.{room-split}
use Rattle.st_schedule.proofs.ValuesWereWritten.{chosen}
use Rattle.st_schedule.proofs.EventsWereWritten.{end_is_spelled}
use Rattle.st_schedule.proofs.LinesAsSpelled.{line_is_spelled}
use Rattle.st_runs.proofs.Short.{read_short}
use Rattle.st_replay.specs.States.{needs}

pub long_refused : (p : Progress) (l : List ℕ) → 256 < length l → read_line p l ≡ Err LineTooLong
long_refused p l h = cond-true (is_long l) (Err LineTooLong) (short_line p l) (lt-ltb 256 (length l) h)

event_takes : (form : ℕ) (counts : Counts) (done n : ℕ) (e : Event) (y : Line × Progress) → n ≤ 256 → counted form counts done e ≡ Ok y →
    n + 1 + needs y.1 ≤ needs (progress.Reading form counts done)
event_takes form counts done n e y short h =
    elim (chosen (nat_lt done MOST_EVENTS) _ _ _ h) as (λ q. n + 1 + needs y.1 ≤ needs (progress.Reading form counts done)) [
      | inl q ↦
          let few : done < 100000 = (let t = q.0 in grind (arith, nat_tests)) in
          let same : (said.Event e, progress.Reading form counts (done + 1)) ≡ y = (let k = q.1 in cc) in
          subst (λ (y : Line × Progress). n + 1 + needs y.1 ≤ needs (progress.Reading form counts done)) same (omega arith)
      | inr q ↦ absurd (let k = q.1 in cc)
    ]

end_length : (l : List ℕ) → split l ≡ codes "end" ∷ [] → length l ≡ 3
end_length l h = let r : room (split l) ≡ 4 = ap room h in omega (arith, room-split l)

line_takes : (form : ℕ) (counts : Counts) (done : ℕ) (l : List ℕ) (r : Result (Option Event) Fault) (y : Line × Progress) → length l ≤ 256 →
    line_event form (nodes_of counts) (split l) ≡ r → with_line form counts done l r ≡ Ok y →
    length l + 1 + needs y.1 ≤ needs (progress.Reading form counts done)
line_takes form counts done l (Err f) y short e h = absurd (cc)
line_takes form counts done l (Ok None) y short e h =
    let same : (said.End, progress.Ended) ≡ y = cc in
    subst (λ (y : Line × Progress). length l + 1 + needs y.1 ≤ needs (progress.Reading form counts done)) same
    (omega (arith, end_length l (end_is_spelled form (nodes_of counts) (split l) e)))
line_takes form counts done l (Ok (Some v)) y short e h = event_takes form counts done (length l) v y short h

later_takes : (form : ℕ) (counts : Counts) (done : ℕ) (l : List ℕ) (y : Line × Progress) → length l ≤ 256 → later_line form counts done l ≡ Ok y →
    length l + 1 + needs y.1 ≤ needs (progress.Reading form counts done)
unfolding later_line
later_takes form counts done l y short h = line_takes form counts done l (line_event form (nodes_of counts) (split l)) y short refl h

-- a head is short: the digits of its numbers are bounded
setting_length : (n : ℕ) → n ≤ MOST_SETTING → length (decimal n) ≤ 19
setting_length n h = length-decimal-le 19 n (omega arith) (omega arith) (omega arith)

few_digits : (k n : ℕ) → 0 < k → n < 10 ^ k → n ≤ 4096 → length (decimal n) ≤ k
few_digits k n some h small = length-decimal-le k n some h (omega arith)

settings_room : (c : Config) (n : Counts) (form : ℕ) → FitsHead c n form →
    room (map decimal (head_numbers c n form)) ≤ room (map decimal (grains form c.grain ++ counts_of n)) + 160
settings_room c n form fits =
    let a = setting_length c.lease fits.0.times.0 in
    let b = setting_length c.renew fits.0.times.1 in
    let d = setting_length c.quiesce fits.0.times.2 in
    let e = setting_length c.flush fits.0.others.0 in
    let f = setting_length c.demand fits.0.others.1 in
    let g = setting_length c.retry fits.0.others.2 in
    let h = setting_length c.num fits.0.rate.0 in
    let i = setting_length c.den fits.0.rate.1 in
    omega (arith, a, b, d, e, f, g, h, i)

counts_room : (n : Counts) → AreCounts n → room (map decimal (counts_of n)) ≤ 12
counts_room n fits =
    let a = few_digits 2 n.clients (omega arith) (omega (arith, fits.0.1)) (omega (arith, fits.0.1)) in
    let b = few_digits 1 n.servers (omega arith) (omega (arith, fits.1.1)) (omega (arith, fits.1.1)) in
    let c = few_digits 1 n.disks (omega arith) (omega (arith, fits.2.1)) (omega (arith, fits.2.1)) in
    let d = few_digits 4 n.blocks (omega arith) (omega (arith, fits.3.1)) (omega (arith, fits.3.1)) in
    omega (arith, a, b, c, d)

grain_room : (form grain : ℕ) (n : Counts) → AreCounts n → grain ≤ MOST_SETTING → IsForm form grain → room (map decimal (grains form grain ++ counts_of n)) ≤ 32
grain_room form grain n fits small (inl f) =
    let same : room (map decimal (grains form grain ++ counts_of n)) ≡ room (map decimal (counts_of n)) = rw f.0 refl in
    omega (arith, same, counts_room n fits)
grain_room form grain n fits small (inr f) =
    let same : room (map decimal (grains form grain ++ counts_of n)) ≡ length (decimal grain) + room (map decimal (counts_of n)) + 1 = rw f refl in
    omega (arith, same, counts_room n fits, setting_length grain small)

form_length : (form grain : ℕ) → IsForm form grain → length (decimal form) ≤ 1
form_length form grain (inl f) = few_digits 1 form (omega arith) (omega (arith, f.0)) (omega (arith, f.0))
form_length form grain (inr f) = few_digits 1 form (omega arith) (omega (arith, f)) (omega (arith, f))

head_room : (c : Config) (n : Counts) (form : ℕ) → FitsHead c n form → room (head_words c n form) ≤ 200
head_room c n form fits =
    omega (arith, form_length form c.grain fits.2, settings_room c n form fits, grain_room form c.grain n fits.1 fits.0.rate.2 fits.2)

spelled_takes : (l : List ℕ) (y : Line) → SpellsLine progress.Nothing l y → length l + 1 ≤ 200
spelled_takes l (said.Head c n form) s =
    let r : room (split l) ≡ room (head_words c n form) = ap room s.0.1 in
    omega (arith, room-split l, head_room c n form s.0.0)
spelled_takes l (said.Event e) s = absurd s
spelled_takes l said.End s = absurd s

head_checked : (h : Config × Counts × ℕ) (r : Result Unit ConfigRefusal) (y : Line × Progress) → checked h r ≡ Ok y → needs y.1 ≡ 25700261
head_checked h (Ok u) y k = let same : started h ≡ y = cc in subst (λ (y : Line × Progress). needs y.1 ≡ 25700261) same refl
head_checked h (Err f) y k = absurd (cc)

head_told : (l : List ℕ) (r : Result (Config × Counts × ℕ) Fault) (y : Line × Progress) → head.with_head l r ≡ Ok y → needs y.1 ≡ 25700261
head_told l (Ok h) y k = head_checked h (check h.0) y k
head_told l (Err f) y k = absurd (cc)

head_read : (l : List ℕ) (ws : List (List ℕ)) (y : Line × Progress) → head_of_words l ws ≡ Ok y → needs y.1 ≡ 25700261
unfolding head_of_words
head_read l [] y k = absurd (cc)
head_read l (w ∷ ws) y k =
    elim (chosen (bytes_eq w (codes "tank")) _ _ _ k) as (λ q. needs y.1 ≡ 25700261) [
      | inl q ↦ head_told l (head_at ws) y q.1
      | inr q ↦ absurd (let e = q.1 in cc)
    ]

first_needs : (l : List ℕ) (y : Line × Progress) → first_line l ≡ Ok y → needs y.1 ≡ 25700261
unfolding first_line
first_needs l y k = head_read l (split l) y k

first_takes : (l : List ℕ) (y : Line × Progress) → read_line progress.Nothing l ≡ Ok y → length l + 1 + needs y.1 ≤ 25700515
first_takes l y h =
    omega (arith, first_needs l y (read_short progress.Nothing l y h).1, spelled_takes l y.0 (line_is_spelled progress.Nothing l y tt h))

pub takes : (p : Progress) (l : List ℕ) (y : Line × Progress) → read_line p l ≡ Ok y → length l + 1 + needs y.1 ≤ needs p
takes progress.Nothing l y h = first_takes l y h
takes (progress.Reading form counts done) l y h = let k = read_short (progress.Reading form counts done) l y h in later_takes form counts done l y k.0 k.1
takes progress.Ended l y h = let k = (read_short progress.Ended l y h).1 in absurd (cc)
