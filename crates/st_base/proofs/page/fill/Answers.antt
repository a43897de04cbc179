use Rattle.std.proofs.Common.{replicate, ◌∙◌, ap}
use Rattle.st_base.specs.Page.{filled}
use Rattle.st_base.proofs.page.fill.Goals as goal

pub returns : goal.returns
unfolding filled
returns c = c.fill.ensures.after (λ y same. same) ∙ ap (λ n. replicate n c.args.byte) c.requires
