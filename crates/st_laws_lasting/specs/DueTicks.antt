-- A client that gets its ticks when they are due: the steps that it takes, and what holds of its leases.
use Rattle.std.specs.Prelude.{◌≡◌, ◌≤◌, ◌+◌, ◌&&◌, ℕ, Bool, true, false, if◌then◌else◌, List, [], ◌∷◌, ◌++◌, Option, Some, None}
use Rattle.std.specs.List.{list_all}
use Rattle.st_base.specs.declared.config.Config.{Config}
use Rattle.st_base.specs.declared.ids.ClientId.{ClientId}
use Rattle.st_base.specs.declared.ids.NodeId.TheVariants as nodes
use Rattle.st_messages.specs.declared.event.Event.{Event}
use Rattle.st_messages.specs.declared.event.Event.TheVariants as events
use Rattle.st_rules.specs.declared.world.IssuedCommand.{IssuedCommand}
use Rattle.st_rules.specs.declared.world.SentMessage.{SentMessage}
use Rattle.st_rules.specs.ClientState.{Association, ClientSession}
use Rattle.st_rules.specs.Events.{is_same_instance}
use Rattle.st_rules.specs.History.{traced}
use Rattle.st_rules.specs.Keys.{same_client}
use Rattle.st_rules.specs.Safety.{IsHead, Promise, Step, Throughout, is_event, steps}
use Rattle.st_rules.specs.World.{World, WorldClient, fresh_world, issued_of, message_of, receiver_of, same_node, site_of}
use Rattle.st_lemmas.specs.Lists.{Has}
use Rattle.st_client_due.specs.ClientDue.{client_due, reading}
use Rattle.st_laws_lasting.specs.Lasting.{client_clock}

-- The client's steps.

-- a message for the client
abbrev pub is_for : ClientId → Option SentMessage → Bool
is_for c None = false
is_for c (Some m) = same_node (receiver_of m) (nodes.Client c)

-- the client that submitted a command still runs
abbrev pub runs_still : IssuedCommand → Option WorldClient → Bool
runs_still q None = false
runs_still q (Some site) = is_same_instance q site

-- a command of the client
abbrev pub is_told : ClientId → World → Option IssuedCommand → Bool
is_told c w None = false
is_told c w (Some q) = same_client q.client c && runs_still q (site_of w q.client)

-- an event at which the client takes a step: a tick of it, an ask, a message for it, the end of a command, or its start
abbrev pub client_steps_at : ClientId → World → Event → Bool
client_steps_at c w (events.Tick (nodes.Client d)) = same_client d c
client_steps_at c w (events.Start (nodes.Client d)) = same_client d c
client_steps_at c w (events.App d ask) = same_client d c
client_steps_at c w (events.Deliver n) = is_for c (message_of w n)
client_steps_at c w (events.Report n ok) = is_told c w (issued_of w n)
client_steps_at c w e = false

-- when the client took its last step, after this event
abbrev pub client_stepped : ClientId → ℕ → Step → ℕ
client_stepped c last x = if client_steps_at c x.before.world x.event then client_clock c x.before.world else last

-- when it took its last step, after these events
unfoldable pub client_last_step : ClientId → ℕ → List Step → ℕ
client_last_step c last [] = last
client_last_step c last (x ∷ xs) = client_last_step c (client_stepped c last x) xs

-- The client gets its ticks when they are due: while it runs, its clock is at most this gap past the first moment since its last step at which a tick does
-- something.
abbrev pub TicksWhenDue : ClientId → ℕ → Promise
TicksWhenDue c gap past x =
    (site : WorldClient) (m : ℕ) → site_of x.after.world c ≡ Some site → site.node.running ≡ true →
    client_due site.node.state (reading (client_last_step c 0 (past ++ x ∷ []))) ≡ Some m → client_clock c x.after.world ≤ m + gap

-- Sessions that rest are renewed when due: a session that is not condemned and has no request outstanding has a lease that isn't older than the renewal age
-- and a gap.
abbrev pub RestingLeasesAreRenewed : Config → ClientId → ℕ → Promise
RestingLeasesAreRenewed k c gap past x =
    (site : WorldClient) (a : Association) (z : ClientSession) → site_of x.after.world c ≡ Some site → site.node.running ≡ true →
    Has a site.node.state.associations → a.session ≡ Some z → z.lease.condemned ≡ false → z.requests.asked ≡ None →
    client_clock c x.after.world ≤ z.lease.date.0 + k.renew + gap

-- What holds in every run in which a client gets its ticks when they are due.
abbrev pub InDueClientRuns : (Config → ClientId → ℕ → Promise) → Type 0
InDueClientRuns promise =
    (k : Config) (clients servers disks blocks form : ℕ) (es : List Event) (c : ClientId) (gap : ℕ) →
    IsHead k clients servers disks blocks form → list_all (is_event (clients + servers)) es ≡ true →
    Throughout (TicksWhenDue c gap) [] (steps es (traced (fresh_world k clients servers disks blocks form))) →
    Throughout (promise k c gap) [] (steps es (traced (fresh_world k clients servers disks blocks form)))
