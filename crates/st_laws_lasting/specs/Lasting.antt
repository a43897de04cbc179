-- Leases that last: a client that ticks in time asks for a new lease before the old one is old.
use Rattle.std.specs.Prelude.{◌≡◌, ◌≤◌, ◌<◌, ◌+◌, ℕ, Bool, true, false, if◌then◌else◌, List, [], ◌∷◌, ◌++◌, Some, None}
use Rattle.std.specs.List.{list_all}
use Rattle.st_base.specs.declared.config.Config.{Config}
use Rattle.st_base.specs.declared.ids.ClientId.{ClientId}
use Rattle.st_base.specs.declared.ids.NodeId.TheVariants as nodes
use Rattle.st_messages.specs.declared.event.Event.{Event}
use Rattle.st_messages.specs.declared.event.Event.TheVariants as events
use Rattle.st_rules.specs.ClientState.{Association, ClientSession}
use Rattle.st_rules.specs.History.{traced}
use Rattle.st_rules.specs.Keys.{same_client}
use Rattle.st_rules.specs.Safety.{IsHead, Promise, Step, Throughout, is_event, steps}
use Rattle.st_rules.specs.World.{World, WorldClient, clock_of, fresh_world, site_of}
use Rattle.st_lemmas.specs.Lists.{Has}

-- The client's ticks.

-- an event at which the client counts as ticked: a tick of it, or its start
abbrev pub client_ticks_at : ClientId → Event → Bool
client_ticks_at c (events.Tick (nodes.Client d)) = same_client d c
client_ticks_at c (events.Start (nodes.Client d)) = same_client d c
client_ticks_at c e = false

-- a client's clock
abbrev pub client_clock : ClientId → World → ℕ
client_clock c w = (clock_of w (nodes.Client c)).0

-- when the client ticked last, after this step
abbrev pub client_ticked : ClientId → ℕ → Step → ℕ
client_ticked c last x = if client_ticks_at c x.event then client_clock c x.before.world else last

-- when it ticked last, after these steps
unfoldable pub client_last_tick : ClientId → ℕ → List Step → ℕ
client_last_tick c last [] = last
client_last_tick c last (x ∷ xs) = client_last_tick c (client_ticked c last x) xs

-- The client ticks in time: while it runs its clock is at most this gap past its last tick, or past its start; clients' clocks begin at 0.
abbrev pub ClientTicksInTime : ClientId → ℕ → Promise
ClientTicksInTime c gap past x =
    (site : WorldClient) → site_of x.after.world c ≡ Some site → site.node.running ≡ true →
    client_clock c x.after.world ≤ client_last_tick c 0 (past ++ x ∷ []) + gap

-- Sessions that rest have young leases: a session that is not condemned and has no request outstanding has a lease that is younger than the renewal age and
-- a gap.
abbrev pub RestingLeasesAreYoung : Config → ClientId → ℕ → Promise
RestingLeasesAreYoung k c gap past x =
    (site : WorldClient) (a : Association) (z : ClientSession) → site_of x.after.world c ≡ Some site → site.node.running ≡ true →
    Has a site.node.state.associations → a.session ≡ Some z → z.lease.condemned ≡ false → z.requests.asked ≡ None →
    client_clock c x.after.world < z.lease.date.0 + k.renew + gap

-- What holds in every run in which a client ticks in time.
abbrev pub InTickingClientRuns : (Config → ClientId → ℕ → Promise) → Type 0
InTickingClientRuns promise =
    (k : Config) (clients servers disks blocks form : ℕ) (es : List Event) (c : ClientId) (gap : ℕ) →
    IsHead k clients servers disks blocks form → list_all (is_event (clients + servers)) es ≡ true →
    Throughout (ClientTicksInTime c gap) [] (steps es (traced (fresh_world k clients servers disks blocks form))) →
    Throughout (promise k c gap) [] (steps es (traced (fresh_world k clients servers disks blocks form)))
