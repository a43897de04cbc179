-- What a client's rule at a server reads of the outputs: nothing.
use Rattle.std.specs.Prelude.{◌≡◌, List, ◌++◌}
use Rattle.st_messages.specs.declared.output.Output.{Output}
use Rattle.st_rules.specs.ClientState.{Turn}

-- a step in which these outputs came before its own
abbrev pub after : List Output → Turn → Turn
after xs t = record t { out = xs ++ t.out }

-- The rule doesn't read what was said before, and only says more.
abbrev pub IsFramed : (Turn → Turn) → Type 0
IsFramed rule = (xs : List Output) (t : Turn) → rule (after xs t) ≡ after xs (rule t)
