use Rattle.st_journal_file.proofs.Flips.{same_opened}
use Rattle.st_journal_file.proofs.law.a_flipped_bit_changes_nothing.Goals as goal

pub returns : goal.returns
returns g c = λ f bytes others s t xs ys proper was flip is. same_opened f proper bytes others s t xs ys was flip is
