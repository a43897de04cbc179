-- The lives of pending entries that a crash ended are frozen from the start of a run on, and through every event.
use Rattle.st_lemmas.proofs.Words
use Words.{List, ◌≡◌, ℕ, true, Option, Some, None, Ok, refl, sym, ap, ◌∙◌, subst, ClientId, Event}
use Words.nodes
use Words.events
use Words.Events as ev
use Words.Events.{WorldTurn, counted, happens, world_step}
use Words.World.{World, WorldClient, fresh_world, site_of, site_runs}
use Words.Keys.{client}
use Words.Safety.{Step}
use Rattle.st_protocol.specs.Assoc.{Config}
use Rattle.st_lemmas.proofs.Steps.{step_happens}
use Rattle.st_laws_leases.specs.Sides.World.{AllStand, IsFull}
use Rattle.st_laws_leases.proofs.Sides.FirstWorld.{begun}
use Rattle.st_laws_leases.proofs.Sides.AllAssociations.{stays}
use Rattle.st_laws_pages.specs.Flush.Flush.{FlushHold}
use Rattle.st_laws_reads.specs.FrozenLives.PendingEntries.{FrozenBegin, FrozenHold, FrozenLivesStandAlone, EventsKeepFrozen}
use Rattle.st_laws_reads.proofs.FrozenLives.Aloneness.{frozen_alone}
use Rattle.st_laws_reads.proofs.FrozenLives.Falling.{frozen_fall}
use Rattle.st_laws_reads.proofs.FrozenLives.Stepping.{frozen_go_on}
use Rattle.st_laws_reads.proofs.AllClients.Others.{crash_runs}

pub first : FrozenBegin
unfolding fresh_world
first k clients servers disks blocks form head = record { all = begun k clients servers disks blocks form head; frozen_lives = record {} }

module _ (past : List Step) (k : Config) (count : ℕ) (w : World) (h : FrozenHold k count w) (flush : FlushHold past w) where
  crash : (c : ClientId) (sc : WorldTurn) → IsFull w (events.Crash (nodes.Client c)) → world_step w (events.Crash (nodes.Client c)) ≡ Ok sc → FrozenHold k count sc.world
  unfolding ev.happens ev.crashes
  crash c sc full taken = go (site_of w c) refl
    where
      happened : sc.world ≡ (ev.crashes_client (counted w) c (site_of w c)).world
      happened = ap (λ (x : WorldTurn). x.world) (step_happens w (events.Crash (nodes.Client c)) sc taken).1

      runs : site_runs (site_of w c) ≡ true
      runs = crash_runs w c (step_happens w (events.Crash (nodes.Client c)) sc taken).0

      nobody : site_runs None ≡ true → ⊥
      nobody e = cc e

      go : (s : Option WorldClient) → site_of w c ≡ s → FrozenHold k count sc.world
      go None f = absurd (nobody (ap site_runs (sym f) ∙ runs))
      go (Some site) f =
          let r : site.node.running ≡ true = ap site_runs (sym f) ∙ runs in
          let here : sc.world ≡ (ev.crashes_client (counted w) c (Some site)).world = happened ∙ ap (λ s. (ev.crashes_client (counted w) c s).world) f in
          subst (FrozenHold k count) (sym here)
          (frozen_fall k count w c.0 site f r h.all (subst (AllStand k count) here (stays k count w (events.Crash (nodes.Client c)) sc h.all full taken)) h.frozen_lives (λ a i. ((flush.sites c site f r).cared a i).entries))

  pub step : (e : Event) (sc : WorldTurn) → IsFull w e → world_step w e ≡ Ok sc → FrozenHold k count sc.world
  step (events.Crash (nodes.Client c)) sc full taken = crash c sc full taken
  step (events.Crash (nodes.Server s)) sc full taken = frozen_go_on k count w h _ sc full taken (λ c q. cc q)
  step (events.Tick n) sc full taken = frozen_go_on k count w h _ sc full taken (λ c q. cc q)
  step (events.App c ask) sc full taken = frozen_go_on k count w h _ sc full taken (λ d q. cc q)
  step (events.Deliver n) sc full taken = frozen_go_on k count w h _ sc full taken (λ c q. cc q)
  step (events.Lose n) sc full taken = frozen_go_on k count w h _ sc full taken (λ c q. cc q)
  step (events.Cut x y) sc full taken = frozen_go_on k count w h _ sc full taken (λ c q. cc q)
  step (events.Heal x y) sc full taken = frozen_go_on k count w h _ sc full taken (λ c q. cc q)
  step (events.Advance steps) sc full taken = frozen_go_on k count w h _ sc full taken (λ c q. cc q)
  step (events.Effect n) sc full taken = frozen_go_on k count w h _ sc full taken (λ c q. cc q)
  step (events.Report n ok) sc full taken = frozen_go_on k count w h _ sc full taken (λ c q. cc q)
  step (events.Start n) sc full taken = frozen_go_on k count w h _ sc full taken (λ c q. cc q)

pub events_keep : EventsKeepFrozen
events_keep past k count w e sc h flush full taken = step past k count w h flush e sc full taken

pub alone : FrozenLivesStandAlone
alone past k count w h flush = frozen_alone k count w h (λ d site f. flush.servers (client d) site f)
