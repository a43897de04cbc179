-- What the passes at a server need of its session and its operations.
use Rattle.std.specs.List.{list_any}
use Rattle.std.specs.Prelude.{◌≡◌, [], Bool, false, ◌&&◌, ◌||◌, not, if◌then◌else◌, Option, option_map}
use Rattle.st_base.specs.declared.config.Config.{Config}
use Rattle.st_base.specs.declared.ids.ServerId.{ServerId}
use Rattle.st_base.specs.declared.ids.Stamp.{Stamp}
use Rattle.st_rules.specs.declared.client.Operation.{Operation}
use Rattle.st_rules.specs.Client.{lease_of_session}
use Rattle.st_rules.specs.ClientLease.{ClientLease, may_drain, standing_of}
use Rattle.st_rules.specs.ClientLocks.{demanded_files}
use Rattle.st_rules.specs.ClientState.{ClientSession, Turn, is_cut_or_name, is_of, is_sent, is_serving, is_sync, keep}
use Rattle.st_client_association.specs.Turns.{session_of}

-- the operation stays pending, or it was answered
abbrev pub put_back : Operation → Bool → Turn → Turn
put_back o stays t = if stays then keep o t else t

-- the settings, and the lease at the server
abbrev pub lease_frame : Turn → Config × Option ClientLease
lease_frame t = (t.config, option_map lease_of_session t.here.session)

-- a sync of this server, or an unsent cut or name
abbrev pub wants_writes : ServerId → Operation → Bool
wants_writes s o = is_of s o && (is_sync o.ask || (is_cut_or_name o.ask && not (is_sent o)))

-- all dirty pages are submitted
abbrev pub drains_at : Turn → Stamp → Bool
drains_at t now = may_drain (standing_of t.config (session_of t).lease now)

-- pages are used under the lease
abbrev pub is_serving_at : Turn → Stamp → Bool
is_serving_at t now = is_serving t.config (session_of t) now

-- no file is demanded, and no operation waits for pages
pub record MayRest (t : Turn) (s : ClientSession) : Type 0 where
  pub demanded : demanded_files s.locks ≡ []
  pub waiting : list_any (wants_writes t.here.server) t.operations ≡ false

-- the settings and the session are the same
pub record SameSession (old new : Turn) : Type 0 where
  pub config : new.config ≡ old.config
  pub session : new.here.session ≡ old.here.session
