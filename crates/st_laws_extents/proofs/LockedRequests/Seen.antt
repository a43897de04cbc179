-- Every event: locks have the greatest grants that were seen, and extents are asked under grants that were seen. Each rule of a client keeps it.
use Rattle.st_lemmas.proofs.Words
use Words.{◌≡◌, ℕ, Some, None, Ok, sym, subst, Config, ClientId, Event}
use Words.ClientPages.{empty_store}
use Words.ClientState.{Association}
use Words.Events.{WorldTurn, world_step}
use Words.World.{World, WorldClient, fresh_world, site_of}
use Words.Lists.{Has}
use Rattle.st_laws_steps.specs.Client.Losses.{Fit}
use Rattle.st_laws_steps.proofs.Client.Sessions.{sessions_kept_by_lose}
use Rattle.st_laws_pages.proofs.Lives.Associated as associated
use Rattle.st_laws_extents.specs.LockedRequests.RequestsGoOn.{Of}
use Rattle.st_laws_extents.specs.LockedRequests.AllSessions.{AllSeen, Seen, any_before, any_free}
use Rattle.st_laws_extents.proofs.LockedRequests.Walking as walk

empty_seen : (a : Association) → a.session ≡ None → a.store ≡ empty_store → Seen a
empty_seen a e st = subst (Of any_free any_before a.server a.life.0) (sym e) (λ e n l. tt)

pub seen_step : (w : World) (e : Event) (sc : WorldTurn) → world_step w e ≡ Ok sc →
    ((c : ClientId) (site : WorldClient) → site_of w c ≡ Some site → (a : Association) → Has a site.node.state.associations → Fit a) → AllSeen w →
    AllSeen sc.world
seen_step =
    associated.event_keeps Seen empty_seen (walk.kept_by_take any_free any_before) (walk.kept_by_receive any_free any_before)
    (walk.kept_by_finish any_free any_before)
    (sessions_kept_by_lose (λ s l o. Of any_free any_before s l o) (λ server life e n l. tt)) (walk.kept_by_passes any_free any_before)

pub fresh_seen : (k : Config) (clients servers d b form : ℕ) → AllSeen (fresh_world k clients servers d b form)
fresh_seen =
    associated.fresh_all Seen empty_seen (walk.kept_by_take any_free any_before) (walk.kept_by_receive any_free any_before)
    (walk.kept_by_finish any_free any_before)
    (sessions_kept_by_lose (λ s l o. Of any_free any_before s l o) (λ server life e n l. tt)) (walk.kept_by_passes any_free any_before)
