use Rattle.st_lemmas.proofs.Words
use Words.{◌∙◌, ap, length}
use Rattle.st_shared.proofs.EveryHistory.{each_issued}
use Rattle.st_shared.proofs.file.SharedFile.commands.Goals as goal

pub returns : goal.returns
returns c = c.issued.ensures ∙ each_issued c.self.inside.machine c.self.invariant ∙ ap (λ s. length s.disk.commands) c.self.view_is
