-- Rows that are owed name failed commands and entries that they carried.
use Rattle.std.specs.Prelude.{◌≡◌, true, List, [], ◌∷◌, ◌++◌}
use Rattle.st_base.specs.declared.ids.ClientId.{ClientId}
use Rattle.st_base.specs.declared.ids.ServerId.{ServerId}
use Rattle.st_promises.specs.Losses.{as_told, owed}
use Rattle.st_rules.specs.declared.client.LostPage.{LostPage}
use Rattle.st_rules.specs.Safety.{Promise}
use Rattle.st_lemmas.specs.Lists.{Has}
use Rattle.st_laws_volume.specs.Options.{OnSome}
use Rattle.st_laws_volume.specs.Witness.{led_by, led_to}
use Rattle.st_volume.specs.Volume.{Volume, is_lost_row}

-- Each row names a page and a command that carried an entry of the client there and failed. The client was not told of that entry, and hasn't crashed since it
-- joined the log.
abbrev pub NameEntries : (ClientId → ServerId → List LostPage) → Volume → Type 0
NameEntries rows v =
    (c : ClientId) (s : ServerId) (r : LostPage) → Has r (rows c s) → is_lost_row v c (record { server = s; ino = r.ino }) (as_told r) ≡ true

-- Owed rows name entries: after every event, if the volume has taken the steps of all events so far.
abbrev pub OwedRowsNameEntries : Promise
OwedRowsNameEntries past x = OnSome (NameEntries (owed (past ++ x ∷ []))) (led_by (led_to past x) x).volume
