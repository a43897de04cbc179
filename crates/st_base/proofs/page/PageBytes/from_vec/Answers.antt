use Rattle.std.proofs.Common.{◌∙◌, ap, sym}
use Rattle.st_base.specs.Page.{repeated_of}
use Rattle.st_base.proofs.Filled.{filled_of_repeated}
use Rattle.st_base.proofs.page.PageBytes.from_vec.Goals as goal

pub returns-in-Some : goal.returns-in-Some
returns-in-Some c =
    c.filled.ensures
    ∙ sym (filled_of_repeated _ _ c.requires (ap repeated_of (sym c.as_slice.ensures.value) ∙ sym c.repeated_byte.ensures ∙ c.in-Some.is))
