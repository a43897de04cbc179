-- The last write command of each owner, by a key.
use Rattle.std.specs.Prelude.{◌≡◌, ℕ, Bool, ◌&&◌, ◌==◌, List, unwrap_or}
use Rattle.indexmap.specs.IndexMap.{IndexMap, get}
use Rattle.st_world_parts.specs.declared.owners.OwnerKey.{OwnerKey}
use Rattle.st_rules.specs.declared.log.LogOwner.{LogOwner}
use Rattle.st_rules.specs.declared.world.IssuedCommand.{IssuedCommand}
use Rattle.st_rules.specs.Events.{last_write}

-- one key
abbrev pub same_key : OwnerKey → OwnerKey → Bool
same_key a b = (a.client == b.client) && ((a.life == b.life) && ((a.server == b.server) && ((a.ino == b.ino) && (a.page == b.page))))

-- the key of an owner
abbrev pub owner_key : LogOwner → OwnerKey
owner_key o = record { client = o.client.0; life = o.life.0; server = o.file.server.0; ino = o.file.ino; page = o.page.0 }

-- each owner's number is that of its last write command
abbrev pub AreLast : {S : Type 0} → List IssuedCommand → IndexMap OwnerKey ℕ S → Type 0
AreLast cs m = (o : LogOwner) → unwrap_or (get same_key m (owner_key o)) 0 ≡ last_write cs o
