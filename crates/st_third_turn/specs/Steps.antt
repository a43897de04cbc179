-- A step of the third form as it is kept: a step of the first two forms with all their outputs in one
-- list, and beside it the words of the third form, each with the number of outputs before it.
use Rattle.std.specs.Prelude.{ℕ, ◌≤◌, List, [], ◌∷◌, ◌++◌, drop, length, map, take, ⊤}
use Rattle.st_messages.specs.declared.output.Output.{Output}
use Rattle.st_rules.specs.ClientState.{Turn}
use Rattle.st_third.specs.declared.beside.Leave.{Leave}
use Rattle.st_third.specs.declared.limits.Limits.{Limits}
use Rattle.st_third.specs.declared.output.ThirdOutput.{ThirdOutput}
use Rattle.st_third.specs.State.{Beside, ThirdTurn, plain_output}
use Rattle.st_third_turn.specs.declared.words.Word.{Word}

-- What is beside a step of the first two forms: the words of the third form, the last one first, and
-- how many outputs came before what the present rules say.
pub record Aside : Type 0 where
  pub limits : Limits
  pub leaves : List Leave
  pub beside : Beside
  pub room : ℕ
  pub words : List Word
  pub start : ℕ

-- these outputs, with the words at their places
unfoldable pub woven : List Word → List Output → List ThirdOutput
woven [] out = map plain_output out
woven (w ∷ ws) out = woven ws (take w.place out) ++ w.word ∷ map plain_output (drop w.place out)

-- a step with its outputs from this one on
abbrev pub since : ℕ → Turn → Turn
since n t = record t { out = drop n t.out }

-- the step of the third form
abbrev pub shown : Turn → Aside → ThirdTurn
shown t a =
    record {
      plain = since a.start t;
      limits = a.limits;
      leaves = a.leaves;
      beside = a.beside;
      room = a.room;
      said = woven a.words (take a.start t.out);
    }

-- the last word has at most so many outputs before it
abbrev pub IsUpTo : ℕ → List Word → Type 0
IsUpTo n [] = ⊤
IsUpTo n (w ∷ ws) = w.place ≤ n

-- The present rules say something after the words, and after outputs that there are.
pub record IsPlaced (words : List Word) (start : ℕ) (out : List Output) : Type 0 where
  pub within : start ≤ length out
  pub last : IsUpTo start words
