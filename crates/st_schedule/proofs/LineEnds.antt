-- The end of a line's words.
use Rattle.std.proofs.Common.{◌≡◌, ℕ, ◌<◌, List, [], ◌∷◌, length, refl, arith}
use Rattle.st_schedule_words.specs.Words.{words_behind}
use Rattle.st_schedule.specs.Parser.{ends, syntax_at}
use Rattle.st_schedule_words.proofs.Words.{split-some}

ends-some : (ws : List (List ℕ)) → 0 < length ws → ends ws ≡ syntax_at ws
unfolding ends
ends-some [] h = absurd (omega arith)
ends-some (w ∷ ws) h = refl

-- if bytes follow, a word is too much
pub too_much : (rest : List ℕ) → 0 < length rest → ends (words_behind rest) ≡ syntax_at (words_behind rest)
too_much [] h = absurd (omega arith)
too_much (b ∷ bs) h = ends-some _ (split-some bs)
