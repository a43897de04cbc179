-- The grant numbers under which entries join the log are those of grants that were sent.
use Rattle.std.specs.Prelude.{◌≡◌}
use Rattle.st_base.specs.declared.ids.ClientId.{ClientId}
use Rattle.st_base.specs.declared.ids.FileId.{FileId}
use Rattle.st_base.specs.declared.ids.GrantNo.{GrantNo}
use Rattle.st_base.specs.declared.mode.Mode.{Mode}
use Rattle.st_messages.specs.declared.message.Body.TheVariants as bodies
use Rattle.st_messages.specs.declared.message.Message.{Message}
use Rattle.st_rules.specs.declared.observation.Observation.{Observation}
use Rattle.st_rules.specs.declared.observation.Observation.TheVariants as seen
use Rattle.st_rules.specs.History.{lock_grant, row_grant}
use Rattle.st_rules.specs.Keys.{server_node}
use Rattle.st_rules.specs.Safety.{Promise}
use Rattle.st_rules.specs.World.{World}
use Rattle.st_lemmas.specs.Lists.{Has}
use Rattle.st_laws_leases.specs.Dates.Dates.{messages}

-- the file's server sent this client a grant of the file under this number
pub record WasGranted (w : World) (c : ClientId) (f : FileId) (g : GrantNo) : Type 0 where
  pub message : Message
  pub among : Has message (messages w)
  pub from : message.header.from ≡ server_node f.server
  pub to : message.header.to ≡ c.0
  pub mode : Mode
  pub body : message.body ≡ bodies.Granted f.ino g mode

-- the number under which the history has the entry of this line (`History.recall`) was granted
abbrev pub EntryIsGranted : World → Observation → Type 0
EntryIsGranted w (seen.Wrote index c f p bytes) = WasGranted w c f (lock_grant w c f)
EntryIsGranted w (seen.Patched index c f p at bytes) = WasGranted w c f (lock_grant w c f)
EntryIsGranted w (seen.CutAt index f p) = (c : ClientId) × WasGranted w c f (row_grant w f)
EntryIsGranted w o = Unit {0}

-- Entries are granted: so it is of each entry that joined the log in an event.
abbrev pub EntriesAreGranted : Promise
EntriesAreGranted past x = (o : Observation) → Has o x.seen → EntryIsGranted x.after.world o
