-- Where asks take effect: at the lines of writes and patches, and as servers serve requests.
use Rattle.std.specs.Prelude.{◌≡◌, true, List, ◌++◌, Some, ⊤}
use Rattle.st_base.specs.declared.ids.ClientId.{ClientId}
use Rattle.st_base.specs.declared.ids.FileId.{FileId}
use Rattle.st_base.specs.declared.ids.ServerId.{ServerId}
use Rattle.st_rules.specs.declared.extents.Extent.{Extent}
use Rattle.st_rules.specs.declared.log.LogEntry.{LogEntry}
use Rattle.st_rules.specs.declared.observation.Observation.{Observation}
use Rattle.st_rules.specs.declared.observation.Observation.TheVariants as seen
use Rattle.st_rules.specs.FlatLog.{is_pending}
use Rattle.st_rules.specs.Names.{is_file}
use Rattle.st_rules.specs.Safety.{Promise, Step}
use Rattle.st_rules.specs.Server.{ServerNode, Stable}
use Rattle.st_rules.specs.World.{World, node_of}
use Rattle.st_lemmas.specs.Lists.{Has}
use Rattle.st_laws_volume.specs.Options.{OnSome}
use Rattle.st_laws_volume.specs.Seen.{of_event}
use Rattle.st_laws_volume.specs.StepKinds.{AreTaken, is_effect}
use Rattle.st_laws_volume.specs.Witness.{Witness, led_to, of_delivery, of_lines}
use Rattle.st_volume.specs.declared.step.VolumeStep.{VolumeStep}
use Rattle.st_volume.specs.Volume.{Volume, run}

-- Mapped files: each page that a server has mapped belongs to a file that it has.
abbrev pub HasFiles : ServerId → Stable → Type 0
HasFiles s y = (e : Extent) → Has e y.extents.rows → e.file.server ≡ s → is_file y.names e.file.ino ≡ true

abbrev pub AllHaveFiles : World → Type 0
AllHaveFiles w = (node : ServerNode) → Has node w.servers → HasFiles node.state.id node.state.stable

-- Mapped files exist: after every event.
abbrev pub MappedFilesExist : Promise
MappedFilesExist past x = AllHaveFiles x.after.world

-- What a change of a page finds: its file exists, and what is pending of the file is its client's.
pub record FindsFile (w : World) (c : ClientId) (f : FileId) : Type 0 where
  pub node : ServerNode
  pub there : node_of w f.server ≡ Some node
  pub file : is_file node.state.stable.names f.ino ≡ true
  pub own : (e : LogEntry) → Has e w.log → is_pending e.fate ≡ true → e.of.file ≡ f → e.of.client ≡ c

abbrev pub LineFinds : World → Observation → Type 0
LineFinds w (seen.Wrote i c f p bytes) = FindsFile w c f
LineFinds w (seen.Patched i c f p at bytes) = FindsFile w c f
LineFinds w o = ⊤

-- Changes find their files: each write and patch of an event, in the world after the event.
abbrev pub ChangesFindTheirFiles : Promise
ChangesFindTheirFiles past x = (o : Observation) → Has o x.seen → LineFinds x.after.world o

-- The steps before the lines of an event: what the event is, and what a server does with the request that it delivers.
abbrev pub steps_before : Witness → Volume → Step → List VolumeStep
steps_before t v x = of_event x.before.world x.event ++ of_delivery t.behind v x.before.world x.event

-- Changes take effect: at each event the volume takes the effects at its lines, which are those of writes and patches, if it has taken all steps before them.
abbrev pub ChangesTakeEffect : Promise
ChangesTakeEffect past x =
    OnSome (λ v. OnSome (AreTaken is_effect (of_lines x.before.world x.seen)) (run (steps_before (led_to past x) v x) v)) (led_to past x).volume
