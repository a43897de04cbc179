-- A line that is read is short.
use Rattle.std.proofs.Common.{◌≡◌, ℕ, ◌≤◌, inl, inr, List, length, arith}
use Rattle.std.specs.Prelude.{Ok}
use Rattle.std.proofs.lemmas.Bool.Decides.{nat_tests}
use Rattle.st_schedule.specs.declared.reader.Line.{Line}
use Rattle.st_schedule.specs.declared.reader.Progress.{Progress}
use Rattle.st_schedule_words.specs.Words.{is_long}
use Rattle.st_schedule.specs.Reader.{short_line, read_line}
use Rattle.st_schedule.proofs.ValuesWereWritten.{chosen}

pub read_short : (p : Progress) (l : List ℕ) (y : Line × Progress) → read_line p l ≡ Ok y → (length l ≤ 256) × (short_line p l ≡ Ok y)
read_short p l y h =
    elim (chosen (is_long l) _ _ _ h) as (λ q. (length l ≤ 256) × (short_line p l ≡ Ok y)) [
      | inl q ↦ absurd (let e = q.1 in cc)
      | inr q ↦ (let e = q.0 in grind (arith, nat_tests), q.1)
    ]
