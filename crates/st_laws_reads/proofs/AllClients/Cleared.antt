-- What is cut or removed is clear at the client that asks: after each event, and in every run.
use Rattle.st_lemmas.proofs.Words
use Words.{◌≡◌, ℕ, Some, None, Ok, sym, ◌∙◌, Config, ClientId, Event}
use Words.ClientPages.{empty_store}
use Words.ClientState.{Association}
use Words.Events.{WorldTurn, world_step}
use Words.World.{World, WorldClient, fresh_world, site_of}
use Words.Lists.{Has}
use Words.Truth.{none_not_some}
use Rattle.st_laws_steps.specs.Client.Losses.{Fit}
use Rattle.st_laws_pages.proofs.Lives.Associated as associated
use Rattle.st_laws_reads.specs.AllClients.CutFiles.{AllCleared, Cleared, RunsClear}
use Rattle.st_laws_reads.proofs.AllClients.Clearing.{clearing_kept_by_finish, clearing_kept_by_receive, clearing_kept_by_lose, clearing_kept_by_passes, clearing_kept_by_take}

-- an association without a session asks nothing
empty_clear : (a : Association) → a.session ≡ None → a.store ≡ empty_store → Cleared a
empty_clear a e st ino p c = absurd (none_not_some c.session (sym e ∙ c.is))

-- of each client
abbrev AllFit : World → Type 0
AllFit w = (c : ClientId) (site : WorldClient) → site_of w c ≡ Some site → (a : Association) → Has a site.node.state.associations → Fit a

pub clear_step : (w : World) (e : Event) (sc : WorldTurn) → world_step w e ≡ Ok sc → AllFit w → AllCleared w → AllCleared sc.world
clear_step = associated.event_keeps Cleared empty_clear clearing_kept_by_take clearing_kept_by_receive clearing_kept_by_finish clearing_kept_by_lose
    clearing_kept_by_passes

pub fresh_clear : (k : Config) (clients servers d b form : ℕ) → AllCleared (fresh_world k clients servers d b form)
fresh_clear = associated.fresh_all Cleared empty_clear clearing_kept_by_take clearing_kept_by_receive clearing_kept_by_finish clearing_kept_by_lose
    clearing_kept_by_passes

pub runs_clear : RunsClear
runs_clear = associated.have_after_in_every_run Cleared empty_clear clearing_kept_by_take clearing_kept_by_receive clearing_kept_by_finish clearing_kept_by_lose
    clearing_kept_by_passes
