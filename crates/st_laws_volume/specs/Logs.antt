-- The log of the volume is the world's: entry by entry the same change of the same client, with the
-- same fate.
use Rattle.std.specs.Prelude.{◌≡◌, ℕ, ◌+◌, true, List, [], ◌∷◌, length, ⊤}
use Rattle.std.specs.List.{list_all}
use Rattle.st_base.specs.declared.config.Config.{Config}
use Rattle.st_base.specs.declared.ids.FileId.{FileId}
use Rattle.st_base.specs.declared.ids.PageNo.{PageNo}
use Rattle.st_messages.specs.declared.ask.Ask.{Ask}
use Rattle.st_messages.specs.declared.ask.Ask.TheVariants as asks
use Rattle.st_messages.specs.declared.event.Event.{Event}
use Rattle.st_rules.specs.declared.log.Change.{Change}
use Rattle.st_rules.specs.declared.log.Change.TheVariants as changes
use Rattle.st_rules.specs.declared.log.Fate as world_fate
use Rattle.st_rules.specs.declared.log.Fate.TheVariants as old_fates
use Rattle.st_rules.specs.declared.log.LogEntry.{LogEntry}
use Rattle.st_rules.specs.Events.{is_change}
use Rattle.st_rules.specs.FlatLog.{is_pending}
use Rattle.st_rules.specs.History.{traced}
use Rattle.st_rules.specs.Safety.{IsHead, Promise, Throughout, is_event, steps}
use Rattle.st_rules.specs.World.{fresh_world}
use Rattle.st_laws_volume.specs.Options.{OnSome}
use Rattle.st_laws_volume.specs.Witness.{led_by, led_to}
use Rattle.st_volume.specs.declared.step.Fate.{Fate}
use Rattle.st_volume.specs.declared.step.Fate.TheVariants as fates
use Rattle.st_volume.specs.Pages.{Entry}
use Rattle.st_volume.specs.Volume.{Volume}

-- what an entry of the world is, as an ask
abbrev pub ask_of : FileId → PageNo → Change → Ask
ask_of f p (changes.Write bytes) = asks.Write f p bytes
ask_of f p (changes.Patch at bytes) = asks.Patch f p at bytes
ask_of f p changes.Cut = asks.Cut f p

abbrev pub fate_of : world_fate.Fate → Fate
fate_of old_fates.Pending = fates.Open
fate_of old_fates.Hard = fates.Hard
fate_of (old_fates.Gone cause) = fates.Dropped

-- One entry in both. The world tells no client of a cut; and a cut is never open.
pub record IsSame (o : LogEntry) (e : Entry) : Type 0 where
  pub what : e.what ≡ ask_of o.of.file o.of.page o.change
  pub client : is_change o ≡ true → e.client ≡ o.of.client
  pub fate : e.fate ≡ fate_of o.fate
  pub change : is_pending o.fate ≡ true → is_change o ≡ true

-- all entries, in their order
abbrev pub AreSame : List LogEntry → List Entry → Type 0
AreSame [] [] = ⊤
AreSame [] (e ∷ es) = ⊥
AreSame (o ∷ os) [] = ⊥
AreSame (o ∷ os) (e ∷ es) = IsSame o e × AreSame os es

-- The logs agree: each entry has had its line, and is the world's.
pub record IsLogOf (os : List LogEntry) (v : Volume) : Type 0 where
  pub lines : v.lines ≡ length v.log
  pub entries : AreSame os v.log

-- Agreed: after every event, if the volume has taken the steps of all events so far
abbrev pub LogsAgree : Promise
LogsAgree past x = OnSome (IsLogOf x.after.world.log) (led_by (led_to past x) x).volume

-- In every run: what is promised holds at every step, from the world of every head and over every
-- list of events in their ranges.
abbrev pub InEveryRun : Promise → Type 0
InEveryRun promise =
    (k : Config) (clients servers disks blocks form : ℕ) (es : List Event)
    → IsHead k clients servers disks blocks form
    → list_all (is_event (clients + servers)) es ≡ true
    → Throughout promise [] (steps es (traced (fresh_world k clients servers disks blocks form)))
