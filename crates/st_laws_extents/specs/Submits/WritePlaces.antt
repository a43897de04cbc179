-- Where writes that are submitted go.
use Rattle.std.specs.Prelude.{◌≡◌, ℕ, List, Option, Some}
use Rattle.st_base.specs.declared.disk.BlockAt.{BlockAt}
use Rattle.st_base.specs.declared.disk.Command.TheVariants as commands
use Rattle.st_base.specs.declared.disk.Tag.{Tag}
use Rattle.st_messages.specs.declared.output.Output.TheVariants as outputs
use Rattle.st_rules.specs.declared.client.MappedBlock.{MappedBlock}
use Rattle.st_rules.specs.declared.extents.Extent.{Extent}
use Rattle.st_lemmas.specs.Lists.{Has}
use Rattle.st_laws_pages.specs.Disks.World.{mapped_in}
use Rattle.st_laws_reads.specs.Copies.World.{Taking, turn_of}

-- a page lies as it is known
pub record LiesAs (o : Option Extent) (m : MappedBlock) : Type 0 where
  pub extent : Extent
  pub is : o ≡ Some extent
  pub at : extent.at ≡ m.at
  pub birth : extent.birth ≡ m.birth

-- Each write that a step submits goes to where the server has its page.
abbrev pub SubmitsLie : Taking → Type 0
SubmitsLie x =
    (number : ℕ) (at to : BlockAt) (tag : Tag) (bytes : List ℕ) → Has (outputs.Submit number at (commands.Write to tag bytes)) (turn_of x).out →
    LiesAs (mapped_in x.world tag.file tag.page) (record { at = at; birth = tag.birth })
