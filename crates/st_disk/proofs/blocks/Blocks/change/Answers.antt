use Rattle.std.proofs.Common.{sym, ap, ◌∙◌, set}
use Rattle.std.specs.List.{position}
use Rattle.st_rules.specs.Disks.{is_block_at}
use Rattle.st_lemmas.proofs.PutPlaces.{put_at}
use Rattle.st_disk.proofs.Places.{index_kept}
use Rattle.st_disk.proofs.blocks.Blocks.change.Goals as goal

pub invariant_of-self : goal.invariant_of-self
invariant_of-self c = λ at.
    c.self.invariant at
    ∙ sym (index_kept c.self.inside.written.items c.args.block c.args.index at (ap (position (is_block_at c.args.block.at)) c.self.view_is ∙ c.requires))

pub returns : goal.returns
returns c = ap (λ l. set l c.args.index c.args.block) c.self.view_is ∙ sym (put_at (is_block_at c.args.block.at) c.args.block c.args.self.now c.args.index (sym c.requires))
