use Rattle.std.proofs.Common.{sym, ap, ◌∙◌}
use Rattle.std.specs.Prelude.{slice_get}
use Rattle.st_base.specs.declared.disk.Command.TheVariants.{Read}
use Rattle.st_disk.proofs.Places.{block_is_there}
use Rattle.st_disk.proofs.disks.Disks.read.Goals as goal

pub sample_command-requires-clause-reads : goal.sample_command-requires-clause-reads
sample_command-requires-clause-reads c = λ c' h.
    c.requires.reads c' (sym (ap (λ d. slice_get d.commands c.args.index) c.self.view_is) ∙ h)
    ∙ ap Read (sym (ap (λ b. b.at) c.in_ok-found.ensures ∙ block_is_there c.args.self.now c.args.at))
