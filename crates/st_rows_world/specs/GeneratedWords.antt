-- The line of a candidate, and one name that opens all that the rows compute.
use Rattle.std.specs.Prelude.{ℕ, List, Option, option_map, ⊤}
use Rattle.std.specs.Fmt.{digits}
use Rattle.st_messages.specs.Sizes.{size_of}
use Rattle.st_messages.specs.declared.event.Event.{Event}
use Rattle.st_rules.specs.Rules.{rules_open}
use Rattle.st_generate.specs.GeneratedText.{event_line, generated_text_open}

-- the line of a candidate
abbrev pub line_of : Option Event → Option (List ℕ)
line_of e = option_map event_line e

-- opens the rules, the generator and its text
unfoldable pub rows_open : ⊤
unfolding digits rules_open size_of generated_text_open
rows_open = tt
