use Rattle.std.proofs.Common.{◌∙◌, sym}
use Rattle.st_base.proofs.Filled.{filled_of_repeated}
use Rattle.st_base.proofs.page.PageBytes.from_slice.Goals as goal

pub returns-in-Some : goal.returns-in-Some
returns-in-Some c = c.filled.ensures ∙ sym (filled_of_repeated _ _ c.requires (sym c.repeated_byte.ensures ∙ c.in-Some.is))
