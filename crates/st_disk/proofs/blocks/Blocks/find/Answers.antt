use Rattle.std.proofs.Common.{sym, ap, ◌∙◌}
use Rattle.std.specs.Prelude.{slice_get}
use Rattle.st_rules.specs.Disks.{is_block_at}
use Rattle.st_disk.proofs.Places.{find_none, find_some}
use Rattle.st_disk.proofs.blocks.Blocks.find.Goals as goal

pub returns-in-None : goal.returns-in-None
returns-in-None c = find_none (is_block_at c.args.at) c.args.self.now (sym c.index_of.ensures ∙ c.in-None.is)

pub returns-in-Some : goal.returns-in-Some
returns-in-Some c =
    c.block_at.ensures
    ∙ ap (λ l. slice_get l c.in-Some.index) (c.deref.ensures.value ∙ c.self.view_is)
    ∙ find_some (is_block_at c.args.at) c.args.self.now c.in-Some.index (sym c.index_of.ensures ∙ c.in-Some.is)
