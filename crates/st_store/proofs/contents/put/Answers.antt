use Rattle.std.proofs.Common.{◌+◌, length, ap, ◌∙◌, refl, List, ℕ, ◌-◌}
use borrow.Rule.Slice.PartMut.{put_mid}
use Rattle.st_store.proofs.Parts.{put_written}
use Rattle.st_store.proofs.contents.put.Goals as goal

pub returns : goal.returns
returns c =
    ap (λ (b : List ℕ). put_mid c.args.at (c.args.at + length c.args.new.now - c.args.at) c.args.bytes.now b) c.copy_from_slice.ensures.after
    ∙ put_written c.args.at (c.args.at + length c.args.new.now) c.args.bytes.now c.args.new.now refl c.requires
