-- A fact of associations holds in every run if each rule of a client keeps it of associations that fit, and an empty association has it.
use Rattle.st_lemmas.proofs.Words
use Words.{◌≡◌, ◌≢◌, ◌⊎◌, ℕ, Bool, List, [], ◌∷◌, ◌++◌, Option, Some, None, Result, Ok, Err, refl, sym, ap, ◌∙◌, subst, inl, inr, map, Config, ClientId, Stamp}
use Words.{Event, ClientInput, WorldRefusal, DirtyPage, Ask, Body, Header, Tag, ServerId}
use Words.nodes
use Words.Admissible as adm
use Words.Client as cl
use Words.ClientPages as pages
use Words.ClientPasses as cp
use Words.ClientReplies as cr
use Words.ClientState.{Association, ClientState, Turn, client_turn, only_at}
use Words.Events as ev
use Words.Events.{WorldTurn, counted, world_step}
use Words.Extents.{numbers}
use Words.History.{Traced, traced, traced_after}
use Words.Safety as safety
use Words.Safety.{Promise, Step, Throughout, step, steps}
use Words.World as world
use Words.World.{World, WorldClient, clock_of, fresh_world, numbered, site_of, with_numbered}
use Words.Lists.{Has}
use Words.Lookups.{some_is}
use Words.Numbers.{numbered_below, numbered_other, numbered_own}
use Words.Tables.{has_map, same_or_not}
use Rattle.st_lemmas.proofs.Steps.{step_happens}
use Rattle.st_laws_steps.specs.Client.Losses.{Fit, SessionFresh}
use Rattle.st_laws_steps.specs.Client.Inputs.{Each}
use Rattle.st_laws_steps.proofs.Client.Asking.{changes_by_passes}
use Rattle.st_laws_steps.proofs.Client.Losing.{changes_by_only, lose_is}
use Rattle.st_laws_steps.proofs.Client.Nexts.{changes_next}
use Rattle.st_laws_steps.proofs.Client.Replying.{changes_by_receive}
use Rattle.st_laws_steps.proofs.Client.Stepping.{finish_next, lost_fit}
use Rattle.st_laws_steps.proofs.Client.Taking.{each, each_taken, taken}
use Rattle.st_laws_pages.proofs.Flush.Adding.{after_clients}
use Rattle.st_laws_pages.proofs.Lives.Each.{Cases, SteppedNode, each_event}
use Rattle.st_laws_pages.proofs.Lives.Lasting.{flush_parts}
use Rattle.st_laws_pages.proofs.Disks.Whole.{site_is}

-- an association without pages and without a session fits
pub none_fit : (a : Association) → a.store ≡ pages.empty_store → a.session ≡ None → Fit a
none_fit a e n = record { mapped = λ ino p d i. absurd (none d (subst (λ (st : pages.Store). pages.dirty_of st.pages ino p ≡ Some d) e i)); fresh = subst (SessionFresh a.store) (sym n) tt }
  where
    none : (d : DirtyPage) → ◌≡◌ {A = Option DirtyPage} None (Some d) → ⊥
    none d q = cc

pub crashed_fit : (a : Association) → Fit (cl.crashed_association a)
crashed_fit a = none_fit (cl.crashed_association a) refl refl

pub started_fit : (a : Association) → Fit (cl.started_association a)
started_fit a = none_fit (cl.started_association a) refl refl

pub fresh_fit : (n : ℕ) → Fit (cl.fresh_association n)
fresh_fit n = none_fit (cl.fresh_association n) refl refl

module _ (F : Association → Type 0) (empty : (a : Association) → a.session ≡ None → a.store ≡ pages.empty_store → F a)
    (k_take : (s : ServerId) (op : ℕ) (ask : Ask) (t : Turn) → F t.here → F (only_at s (cl.take_ask op ask) t).here)
    (k_receive : (now : Stamp) (h : Header) (b : Body) (t : Turn) → Fit t.here → F t.here → F (cr.receive_at now h b t).here)
    (k_finish : (number : ℕ) (r : Option (Option (Tag × List ℕ))) (t : Turn) → F t.here → F (cl.finish number r t).here)
    (k_lose : (now : Stamp) (t : Turn) → F t.here → F (cl.lose now t).here)
    (k_passes : (now : Stamp) (tick : Bool) (t : Turn) → F t.here → F (cp.passes now tick t).here) where
  -- an association that fits, with the fact
  abbrev pub H : Association → Type 0
  H a = Fit a × F a

  -- of each association of a client
  abbrev pub EachHas : List Association → Type 0
  EachHas = Each H

  -- of each client of a world
  abbrev pub AllHave : World → Type 0
  AllHave w = (c : ClientId) (site : WorldClient) → site_of w c ≡ Some site → EachHas site.node.state.associations

  -- after a step
  abbrev pub HaveAfter : Promise
  HaveAfter past x = (c : ClientId) (site : WorldClient) → site_of x.after.world c ≡ Some site → (a : Association) → Has a site.node.state.associations → F a

  abbrev K : Turn → Turn → Type 0
  K t u = H t.here → H u.here

  kept_by_take : (s : ServerId) (op : ℕ) (ask : Ask) (t : Turn) → K t (only_at s (cl.take_ask op ask) t)
  kept_by_take s op ask t (f, h) = let now : Stamp = record { 0 = 0 } in ((changes_next now t (only_at s (cl.take_ask op ask) t) (changes_by_only now s op ask t)).fit f, k_take s op ask t h)

  kept_by_receive : (now : Stamp) (m : Header) (b : Body) (t : Turn) → K t (cr.receive_at now m b t)
  kept_by_receive now m b t (f, h) = ((changes_next now t (cr.receive_at now m b t) (changes_by_receive now m b t f.fresh)).fit f, k_receive now m b t f h)

  kept_by_finish : (number : ℕ) (r : Option (Option (Tag × List ℕ))) (t : Turn) → K t (cl.finish number r t)
  kept_by_finish number r t (f, h) = ((finish_next (record { 0 = 0 }) number r t).fit f, k_finish number r t h)

  kept_by_lose : (now : Stamp) (t : Turn) → K t (cl.lose now t)
  kept_by_lose now t (f, h) = (lost_fit now t (cl.lose now t) (lose_is now t) f, k_lose now t h)

  kept_by_passes : (now : Stamp) (tick : Bool) (t : Turn) → K t (cp.passes now tick t)
  kept_by_passes now tick t (f, h) = ((changes_next now t (cp.passes now tick t) (changes_by_passes now tick t)).fit f, k_passes now tick t h)

  step_keeps : (s : ClientState) (now : Stamp) (input : ClientInput) → EachHas s.associations → EachHas (cl.client_step s now input).state.associations
  unfolding cl.client_step cl.work cl.losses
  step_keeps s now input h =
      let t = cl.losses (client_turn s []) now in
      each H H (cp.passes now (cl.is_tick input)) (kept_by_passes now (cl.is_tick input)) (cl.take_input t now input)
      (each_taken H (λ m a. Unit {0}) now kept_by_take (λ m u p q. kept_by_receive now m.header m.body u p) kept_by_finish t (cl.take_input t now input) input (taken t now input) (λ m e b a i. tt) (each H H (cl.lose now) (kept_by_lose now) (client_turn s []) h))

  all_empty : {A : Type 0} (f : A → Association) → ((x : A) → Fit (f x) × ((f x).session ≡ None) × ((f x).store ≡ pages.empty_store)) → (xs : List A) → EachHas (map f xs)
  all_empty f n xs a i = let z = has_map f xs a i in let y = n z.0 in subst H (sym z.2) (y.0, empty (f z.0) y.1 y.2)

  -- One client is replaced.
  replaced : (w v : World) (c : ClientId) (old new : WorldClient) → site_of w c ≡ Some old → v.clients ≡ with_numbered c.0 new w.clients → EachHas new.node.state.associations → AllHave w → AllHave v
  replaced w v c old new there cs n h d site e = go (same_or_not d.0 c.0)
    where
      go : (d.0 ≡ c.0) ⊎ (d.0 ≢ c.0) → EachHas site.node.state.associations
      go (inl i) =
          let s : new ≡ site = some_is (sym (numbered_own w.clients c.0 new old there) ∙ ap (numbered (with_numbered c.0 new w.clients)) (sym i) ∙ ap (λ zs. numbered zs d.0) (sym cs) ∙ e) in
          subst (λ (z : WorldClient). EachHas z.node.state.associations) s n
      go (inr m) = h d site (sym (numbered_other w.clients c.0 d.0 new (numbered_below w.clients c.0 old there).0 m) ∙ ap (λ zs. numbered zs d.0) (sym cs) ∙ e)

  took : (w : World) (c : ClientId) (input : ClientInput) (old site : WorldClient) → site_of w c ≡ Some old → old.node ≡ site.node → AllHave w → AllHave (ev.client_took w c site (Ok (SteppedNode w c site input))).world
  unfolding ev.client_took
  took w c input old site there same h =
      replaced w (ev.flushes c t.node.state (world.all_servers u) u) c old after there ((flush_parts c t.node.state (world.all_servers u) u).clients ∙ after_clients c site.node.state t.out (ev.quiet (ev.with_site c after w)))
      (step_keeps site.node.state (clock_of w (nodes.Client c)) input (subst (λ (n : cl.ClientNode). EachHas n.state.associations) same (h c old there))) h
    where
      t : cl.NodeTurn
      t = SteppedNode w c site input

      after : WorldClient
      after = ev.at_node t.node site

      u : World
      u = (ev.client_says_all c site.node.state t.out (ev.quiet (ev.with_site c after w))).world

  crashed : (w : World) (c : ClientId) (site : WorldClient) → site_of w c ≡ Some site → AllHave w → AllHave (ev.crashes_client w c (Some site)).world
  unfolding ev.crashes_client ev.marks cl.crash
  crashed w c site there h = replaced w (ev.crashes_client w c (Some site)).world c site (ev.stopped_site site) there refl (all_empty cl.crashed_association (λ a. (crashed_fit a, refl, refl)) site.node.state.associations) h

  started : (w : World) (c : ClientId) (site : WorldClient) → site_of w c ≡ Some site → AllHave w → AllHave (ev.starts_client w c (Some site))
  unfolding ev.starts_client cl.start
  started w c site there h = replaced w (ev.starts_client w c (Some site)) c site (ev.started_site site) there refl (all_empty cl.started_association (λ a. (started_fit a, refl, refl)) site.node.state.associations) h

  advanced : (w : World) (steps : List ℕ) → AllHave w → AllHave (ev.advances w steps).world
  unfolding ev.advances ev.marks
  advanced w steps h = h

  cases : Cases (λ c. Unit {0}) AllHave
  cases =
      record {
        besides = λ w n s d t g h. h;
        cut = λ w f p h. h;
        hard = λ w x h. h;
        client = λ w c input old site there same r h. took w c input old site there same h;
        advance = advanced;
        crash = λ w c site x there r h. crashed w c site there h;
        start = λ w c site there r h. started w c site there h;
      }

  -- Every event.
  event_have : (w : World) (e : Event) (sc : WorldTurn) → world_step w e ≡ Ok sc → AllHave w → AllHave sc.world
  unfolding adm.refusal adm.refused_delivery adm.clocks_refused adm.flush_missed adm.refused_effect adm.refused_report adm.missed_by world.node_of_place
  event_have w e sc is h = let z = step_happens w e sc is in subst (λ (s : WorldTurn). AllHave s.world) (sym z.1) (all w e z.0 h)
    where
      all : (w : World) (e : Event) → adm.refusal w e ≡ None → AllHave w → AllHave (ev.happens (counted w) e).world
      all w e r h = each_event (λ c. Unit {0}) AllHave cases (counted w) e (λ c q. tt) r h

  pub event_keeps : (w : World) (e : Event) (sc : WorldTurn) → world_step w e ≡ Ok sc → ((c : ClientId) (site : WorldClient) → site_of w c ≡ Some site → (a : Association) → Has a site.node.state.associations → Fit a) →
      ((c : ClientId) (site : WorldClient) → site_of w c ≡ Some site → (a : Association) → Has a site.node.state.associations → F a) →
      (c : ClientId) (site : WorldClient) → site_of sc.world c ≡ Some site → (a : Association) → Has a site.node.state.associations → F a
  event_keeps w e sc is f h c site q a i = (event_have w e sc is (λ c site q a i. (f c site q a i, h c site q a i)) c site q a i).1

  -- Every run.
  run : (es : List Event) (past : List Step) (t : Traced) → AllHave t.world → Throughout HaveAfter past (steps es t)
  unfolding steps safety.steps_on Throughout
  run [] past t h = tt
  run (e ∷ es) past t h = go (world_step t.world e) refl (run es)
    where
      go : (r : Result WorldTurn WorldRefusal) → world_step t.world e ≡ r → ((past : List Step) (t : Traced) → AllHave t.world → Throughout HaveAfter past (steps es t)) → Throughout HaveAfter past (safety.steps_on (steps es) t e r)
      go (Err r) q f = tt
      go (Ok sc) q f = let z = event_have t.world e sc q h in (λ c site q a i. (z c site q a i).1, f (past ++ step t e sc ∷ []) (traced_after e t sc) z)

  fresh_have : (k : Config) (clients servers d b form : ℕ) → AllHave (fresh_world k clients servers d b form)
  unfolding fresh_world cl.fresh_client
  fresh_have k clients servers d b form c site e =
      subst (λ (s : WorldClient). EachHas s.node.state.associations) (sym (site_is k clients servers c.0 site e).0) (all_empty cl.fresh_association (λ a. (fresh_fit a, refl, refl)) (numbers 1 servers))

  pub fresh_all : (k : Config) (clients servers d b form : ℕ) (c : ClientId) (site : WorldClient) → site_of (fresh_world k clients servers d b form) c ≡ Some site → (a : Association) → Has a site.node.state.associations → F a
  fresh_all k clients servers d b form c site e a i = (fresh_have k clients servers d b form c site e a i).1

  pub have_after_in_every_run : (k : Config) (clients servers disks blocks form : ℕ) (es : List Event) →
      Throughout HaveAfter [] (steps es (traced (fresh_world k clients servers disks blocks form)))
  have_after_in_every_run k clients servers d b form es = run es [] (traced (fresh_world k clients servers d b form)) (fresh_have k clients servers d b form)
