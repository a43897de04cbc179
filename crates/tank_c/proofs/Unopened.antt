-- A client and a server that are not opened.
use Rattle.std.proofs.Common.{◌≡◌, ℕ, false, List, Option, Some, None, refl, subst}
use Rattle.std.specs.Prelude.{is_some, length}
use Rattle.st_embed.specs.Clients as clients
use Rattle.st_embed.specs.Clients.{EmbeddedClient}
use Rattle.st_base.specs.declared.config.Config.{Config}
use Rattle.st_embed.specs.Servers.{EmbeddedServer, MayOpen, NotOpened}
use Rattle.st_embed.specs.declared.fault.ServerFault.{ServerFault}
use Rattle.st_embed.specs.declared.fault.OpenFault.TheVariants.{Memory}
use Rattle.st_embed.specs.declared.fault.ServerFault.TheVariants as servers
use Rattle.tank_c.specs.Calls.{NoClientOpened, client_id, server_id, settings_of, stamp}
use Rattle.tank_c.specs.Codes as codes
use Rattle.tank_c.specs.ServerCalls.{NoServerOpened, shape_of}
use Rattle.tank_c.specs.declared.client_calls.TankSettings.{TankSettings}
use Rattle.tank_c.specs.declared.server_calls.TankShape.{TankShape}

pub no_memory : (o : Option EmbeddedClient) (id : ℕ) (s : TankSettings) (lives : List ℕ) → is_some o ≡ false → clients.MayOpen (client_id id) (settings_of s) lives → NoClientOpened o o id s lives 3
no_memory None id s lives e may = (refl, record { fault = Memory; told = refl; why = may })
no_memory (Some c) id s lives e may = absurd cc

pub no_server_memory : (o : Option EmbeddedServer) (s : TankSettings) (w : TankShape) (now : ℕ) (bytes : List ℕ) → is_some o ≡ false →
    MayOpen (server_id w.id) (settings_of s) (shape_of w) (stamp now) (length bytes) → NoServerOpened o o s w now bytes 3 0
no_server_memory None s w now bytes e may = (refl, record { fault = servers.Memory; told = refl; place = refl; why = may })
no_server_memory (Some c) s w now bytes e may = absurd cc

pub no_server_opened : (o : Option EmbeddedServer) (s : TankSettings) (w : TankShape) (now : ℕ) (bytes : List ℕ) (k : Config) (f : ServerFault) (code at : ℕ) →
    NotOpened (server_id w.id) k (shape_of w) (stamp now) bytes f → k ≡ settings_of s → code ≡ codes.of_server_open f → at ≡ codes.place_of_server_open f → is_some o ≡ false → NoServerOpened o o s w now bytes code at
no_server_opened None s w now bytes k f code at why same told place e =
    (refl, record { fault = f; told = told; place = place; why = subst (λ (l : Config). NotOpened (server_id w.id) l (shape_of w) (stamp now) bytes f) same why })
no_server_opened (Some c) s w now bytes k f code at why same told place e = absurd cc
