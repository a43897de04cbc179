-- Whether anything waits or is due at a server, pending operations apart.
use Rattle.std.specs.Prelude.{Bool, false, ◌||◌, if◌then◌else◌, Option, Some, None, is_some}
use Rattle.st_base.specs.declared.config.Config.{Config}
use Rattle.st_base.specs.declared.ids.Stamp.{Stamp}
use Rattle.st_rules.specs.Client.{is_any}
use Rattle.st_rules.specs.ClientLease.{is_renewing, phase_of}
use Rattle.st_rules.specs.ClientLocks.{demanded_files}
use Rattle.st_rules.specs.ClientPages.{Store}
use Rattle.st_rules.specs.ClientPasses.{is_greeting_due}
use Rattle.st_rules.specs.ClientState.{Association, ClientSession}

-- A session may have a request to send: the outstanding one again, on a tick, or a reassertion, a release or a keep-alive.
abbrev pub may_send : Config → Stamp → Bool → ClientSession → Bool
may_send k now tick s = if is_some s.requests.asked then tick else (s.due || (is_any s.releases || is_renewing (phase_of k s.lease now)))

-- a session with a demanded file, with a dirty page, or with a request to send
abbrev pub is_awake_by : Config → Stamp → Bool → Store → Option ClientSession → Bool
is_awake_by k now tick st None = false
is_awake_by k now tick st (Some s) = is_any (demanded_files s.locks) || (is_any st.pages.dirty || may_send k now tick s)

-- anything waits or is due
abbrev pub is_awake : Config → Stamp → Bool → Association → Bool
is_awake k now tick a = is_awake_by k now tick a.store a.session

-- with a session, or if a greeting is due, each pending operation may do something
abbrev pub takes_all : Config → Stamp → Bool → Association → Bool
takes_all k now tick a = is_some a.session || is_greeting_due k now tick a.greeting
