-- A message of a life to which its client doesn't come back, or of a client that doesn't run, was
-- there before the event.
use Rattle.st_lemmas.proofs.Words
use Words.{◌≡◌, ◌⊎◌, ℕ, ◌<◌, arith, true, false, List, [], Some, Ok, refl, sym, ap, ◌∙◌, subst, inl, inr, ClientId, ClientInput, Event, Message, ServerId}
use Words.outputs
use Words.ClientState.{Association}
use Words.Events as ev
use Words.Events.{WorldTurn, world_step}
use Words.History.{Traced}
use Words.Keys.{server_node}
use Words.Lists.{Has}
use Words.Numbers.{numbered_below}
use Words.Safety.{Step}
use Words.Truth.{clash}
use Words.World.{World, WorldClient, numbered, site_of}
use Rattle.st_protocol.specs.Assoc.{Config}
use Rattle.st_laws_leases.specs.Dates.Dates.{messages}
use Rattle.st_laws_leases.proofs.Dates.Leaving.{Leaves, server_not_client}
use Rattle.st_laws_requests.specs.Cuts.Cuts.{Between}
use Rattle.st_laws_requests.proofs.Cuts.Seen.{AnswersOf}
use Rattle.st_laws_requests.proofs.Replies.EachEvent.{ClientTook, SiteAfter}
use Rattle.st_laws_extents.proofs.CutRequests.Law.{Hold}
use Rattle.st_laws_cuts.specs.Owners.{AllOwned}
use Rattle.st_laws_cuts.proofs.Events.{OldOrServers, event_does}
use Rattle.st_laws_cuts.proofs.OverAfter.{AllFew, ThisOrOther, Took, took_step}

module _ (k : Config) (count : ℕ) (past : List Step) (t : Traced) (e : Event) (sc : WorldTurn)
    (h : Hold k count past t) (owned : AllOwned t.world)
    (few : AllFew t.world) (taken : world_step t.world e ≡ Ok sc) where
  abbrev WasSent : World → Type 0
  WasSent v =
      (c : ClientId) (site : WorldClient) → site_of v c ≡ Some site → (a : Association) →
      Has a site.node.state.associations → (m : Message) →
      Has m (messages v) → Between c a.server m →
      (m.header.life < a.life.0) ⊎ (site.node.running ≡ false) → Has m (messages t.world)

  abbrev Result : WorldTurn → Type 0
  Result v = v ≡ sc → WasSent v.world

  not_server : (c : ClientId) (site : WorldClient) → site_of t.world c ≡ Some site → (m : Message) →
      m.header.from ≡ c.0 → (s : ServerId) →
      m.header.from ≡ server_node s → ⊥
  not_server c site at m from s q =
      server_not_client c.0 s.0
      (let y = (numbered_below t.world.clients c.0 site at).1 in let z = h.cuts.few in
      omega (arith, y, z)) (sym from ∙ q)

  quiet : (v : WorldTurn) → v.world.clients ≡ t.world.clients → OldOrServers t.world v.world →
      WasSent v.world
  quiet v cs ms c site at a i m among between life = go (ms m among)
    where
      go : Has m (messages t.world) ⊎ ((s : ServerId) × (m.header.from ≡ server_node s)) →
          Has m (messages t.world)
      go (inl j) = j
      go (inr z) =
          absurd (not_server c site (ap (λ y. numbered y c.0) (sym cs) ∙ at) m between.0 z.0 z.1)

  -- a client takes a step
  module _ (v : World) (c : ClientId) (i : ClientInput) (site old : WorldClient)
      (run : site.node.running ≡ true) (z : Took past t.world sc v c i site old) where
    took : WasSent sc.world
    took d r at a j m among between life = go (z.cases d r at) (z.mine m among)
      where
        own : (d.0 ≡ c.0) → r ≡ SiteAfter v c i site →
            Has (outputs.Send m) (ClientTook v c i site).out → Has m (messages t.world)
        own q e sent = by life
          where
            here : m.header.life ≡ a.life.0
            here =
                (z.ends.done a
                (subst (λ (y : WorldClient). Has a y.node.state.associations) e j)).sent m sent
                (subst (λ n. Between (record { 0 = n }) a.server m) q between)

            by : (m.header.life < a.life.0) ⊎ (r.node.running ≡ false) → Has m (messages t.world)
            by (inl l) = absurd (omega (arith, l, here))
            by (inr f) = clash run (subst (λ (y : WorldClient). y.node.running ≡ false) e f)

        go : ThisOrOther t.world c (SiteAfter v c i site) d r →
            Has m (messages t.world) ⊎ Has (outputs.Send m) (ClientTook v c i site).out →
            Has m (messages t.world)
        go y (inl k) = k
        go (inl y) (inr k) = own y.0 y.1 k
        go (inr y) (inr k) = absurd (y.0 (sym between.0 ∙ z.ends.from m k))

  pub was_sent : WasSent sc.world
  was_sent =
      event_does t.world (λ s n at. (h.cuts.servers s n at).id) Result
      (λ v cs ms silent q. quiet v cs ms)
      (λ v cs c i site old same next run at u l ans q.
      subst (λ (y : WorldTurn). WasSent y.world) (sym q)
      (took v c i site old run
      (took_step k count past t h owned few sc v cs c i site old same next at
      (subst (λ (r : WorldTurn). Leaves (messages t.world) (ev.with_site c (SiteAfter v c i site) v)
      r.world (ClientTook v c i site).out) q l)
      (subst (λ (r : WorldTurn). AnswersOf c (ClientTook v c i site).out [] r.seen) q ans))))
      (λ c old new at z v cs ms silent q d site r a i m among between life. subst (Has m) ms among)
      e sc taken refl
