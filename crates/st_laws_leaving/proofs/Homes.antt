-- A client that left has been there, and stays, with its server.
use Rattle.st_lemmas.proofs.Words
use Words.{◌≡◌, ◌≢◌, ◌+◌, ◌⊎◌, ℕ, true, List, map, Some, refl, sym, ap, ◌∙◌, subst, inl, inr, [], ◌∷◌}
use Words.{ClientId, Observation, ServerId}
use Words.Client as plain
use Words.ClientState.{Association, ClientState}
use Words.Events as ev
use Words.Events.{asked_once_more}
use Words.Lists.{Has}
use Words.Lookups.{some_is}
use Words.Tables.{has_map_in, same_or_not}
use Words.World.{World, WorldClient, numbered, site_of}
use Rattle.st_laws_steps.specs.Lives.Lives.{Pairwise}
use Rattle.st_rules.specs.declared.client.ClientInput.TheVariants as inputs
use Words.events
use Rattle.st_third.specs.declared.beside.Leave.{Leave}
use Rattle.st_third.specs.declared.event.ThirdEvent.{ThirdEvent}
use Rattle.st_third.specs.declared.event.ThirdEvent.TheVariants as third
use Rattle.st_third.specs.declared.event.ThirdInput.{ThirdInput}
use Rattle.st_third.specs.declared.event.ThirdInput.TheVariants as takes
use Rattle.st_third.specs.Events as every
use Rattle.st_third.specs.Events.{ThirdWorldTurn, third_counted}
use Rattle.st_third.specs.Limits.{limited_association}
use Rattle.st_third.specs.Promises.{Leaver, left_along}
use Rattle.st_third.specs.State.{ClientBeside}
use Rattle.st_third.specs.Steps.{ThirdStep}
use Rattle.st_third.specs.World as worlds
use Rattle.st_third.specs.World.{ThirdWorld, beside_of}
use Rattle.st_laws_third.specs.Changes.{HeardLeave}
use Rattle.st_laws_third.specs.Living.{heard_in}
use Rattle.st_laws_third.specs.Sessions.{StepsOn}
use Rattle.st_laws_third.proofs.DemandsSeen.{People}
use Rattle.st_laws_third.proofs.EventWalk.{Client_step, ClientTakes, EventLawOf, IsAsked, IsAskedToLeave, walk_by_event}
use Rattle.st_laws_third.proofs.Moves.{Becomes, Changes, Crashed, Moved, Rests, Started, Stepped}
use Rattle.st_laws_third.proofs.Sound.{Sound}
use Rattle.st_laws_third.proofs.Stepping.{clients_step_on}
use Rattle.st_laws_leaving.specs.Leavers.{AllGone, AllHome, AsksKnown, HasHome}
use Rattle.st_laws_leaving.specs.Quiet.{Standing}
use Rattle.st_laws_leaving.proofs.Along.{along_fewer}
use Rattle.st_laws_leaving.proofs.Asked.{IsNew, leave_server, new_leave}
use Rattle.st_laws_leaving.proofs.LeaverRuns.{asked_runs}
use Rattle.st_laws_leaving.proofs.Leavers.{NoAsk, asks_it, gone_as, not_left}
use Rattle.st_laws_leaving.proofs.TakesGone.{takes_home}

-- An event leaves the servers of each client.

pairs_front : (R : Association → Association → Type 0) (as_ bs : List Association) → Pairwise R as_ bs → (a : Association) → Has a as_ →
    (b : Association) × (Has b bs) × (R a b)
pairs_front R [] [] p a h = absurd h
pairs_front R [] (y ∷ ys) p a h = absurd h
pairs_front R (x ∷ xs) [] p a h = absurd p
pairs_front R (x ∷ xs) (y ∷ ys) p a (inl e) = (y, inl refl, subst (λ z. R z y) (sym e) p.one)
pairs_front R (x ∷ xs) (y ∷ ys) p a (inr h) = let z = pairs_front R xs ys p.rest a h in (z.0, inr z.1, z.2)

module _ (w v : ThirdWorld) (so : Sound w) (c : ClientId) (old new : WorldClient) (d : ClientBeside) (there : site_of w.world c ≡ Some old) where
  becomes_home : Becomes w v c old new d → (a : Association) → Has a old.node.state.associations →
      (b : Association) × (Has b new.node.state.associations) × (b.server.0 ≡ a.server.0)
  unfolding plain.crash plain.start
  becomes_home (Stepped b input q t u z) a h =
      let o = so.fits.sites c.0 old there in
      let x = clients_step_on w.limits (record { plain = old.node.state; beside = b }) (Words.World.clock_of w.world (Words.nodes.Client c)) input
      (so.fits.pairs c.0 old b there q) o.fit in
      let y = pairs_front (StepsOn old.node.state.config (Words.World.clock_of w.world (Words.nodes.Client c))) _ _ x.associations a h in
      (y.0, subst (λ (s : ClientState). Has y.0 s.associations) (sym u) y.1, ap (λ (s : ServerId). s.0) (sym y.2.server))
  becomes_home (Crashed u z) a h = (
    limited_association w.limits (plain.crashed_association a),
    subst (λ (s : ClientState). Has (limited_association w.limits (plain.crashed_association a)) s.associations) (sym u)
        (has_map_in (limited_association w.limits) _ _ (has_map_in plain.crashed_association _ a h)),
    refl,
  )
  becomes_home (Started u z) a h = (
    limited_association w.limits (plain.started_association a),
    subst (λ (s : ClientState). Has (limited_association w.limits (plain.started_association a)) s.associations) (sym u)
        (has_map_in (limited_association w.limits) _ _ (has_map_in plain.started_association _ a h)),
    refl,
  )

pub home_after : (w v : ThirdWorld) → Sound w → Moved w v → (c : ClientId) (s : ServerId) → HasHome w.world c s → HasHome v.world c s
home_after w v so (Rests p k q) c s h =
    record { site = h.site; there = ap (λ xs. numbered xs c.0) p ∙ h.there; association = h.association; has = h.has; is = h.is }
home_after w v so (Changes e old new d there k own others x y b) c s h = go (same_or_not c.0 e.0)
  where
    go : (c.0 ≡ e.0) ⊎ (c.0 ≢ e.0) → HasHome v.world c s
    go (inl i) =
        let z : h.site ≡ old = some_is (sym h.there ∙ ap (numbered w.world.clients) i ∙ there) in
        let r = becomes_home w v so e old new d there b h.association
        (subst (λ (j : WorldClient). Has h.association j.node.state.associations) z h.has) in
        record { site = new; there = ap (numbered v.world.clients) i ∙ own; association = r.0; has = r.1; is = r.2 ∙ h.is }
    go (inr ne) = record { site = h.site; there = others c.0 ne ∙ h.there; association = h.association; has = h.has; is = h.is }

-- Whoever left by this event was there before it.

abbrev HomesBefore : List ThirdStep → ThirdStep → List Leaver → ThirdWorld → ThirdWorldTurn → Type 0
HomesBefore past x ls w sc = AllHome w.world (left_along past x ls sc.seen)

abbrev HomesWithoutAsk : ThirdEvent → List ThirdStep → ThirdStep → ThirdWorld → ThirdWorldTurn → Type 0
HomesWithoutAsk e past x w sc =
    NoAsk e → Sound w → People w → Standing w.world → AsksKnown past w → (ls : List Leaver) → AllGone w.world ls → AllHome w.world ls →
    HomesBefore past x ls w sc

plain_homes : (past : List ThirdStep) (x : ThirdStep) (ls : List Leaver) (w : World) (os : List Observation) → AllHome w ls →
    AllHome w (left_along past x ls (map every.plain_seen os))
plain_homes past x ls w os f l h = f l (along_fewer past x ls (map every.plain_seen os) (not_left os) l h)

took_homes : (e : ThirdEvent) (past : List ThirdStep) (x : ThirdStep) → x.event ≡ e → (w : ThirdWorld) → Sound w → People w → Standing w.world →
    AsksKnown past w → (c : ClientId) (old site : WorldClient) (b : ClientBeside) (input : ThirdInput) → site_of w.world c ≡ Some old →
    site.node ≡ old.node → beside_of w c ≡ Some b → ClientTakes w c old e site input → site.node.running ≡ true → (ls : List Leaver) → AllGone w.world ls →
    AllHome w.world ls → HomesBefore past x ls w (every.client_took w c site (Client_step w c site b input))
took_homes e past x is w so pe st k c old site b input there same beside why up ls all =
    takes_home e w so pe st c old site b input there same beside why up past x (λ l h. leave_server past x w c b k beside l (asked l h)) ls all
  where
    asked : (l : Leave) → (Has l b.leaves) ⊎ (heard_in input ≡ Some (HeardLeave l)) → (Has l b.leaves) ⊎ (IsNew w c.0 x.event l)
    asked l (inl h) = inl h
    asked l (inr q) = inr (subst (λ y. IsNew w c.0 y l) (sym is) (new_leave e w so pe st c old site b input there same beside why l q))

homes_law : (e : ThirdEvent) (past : List ThirdStep) (x : ThirdStep) → x.event ≡ e → EventLawOf e (HomesWithoutAsk e past x)
unfolding ev.advances ev.effects ev.marks ev.crashes_client ev.crashes_server ev.starts_client ev.starts_server every.client_begins every.server_begins
homes_law e past x is =
    record {
      still = λ w n so pe st k ls all homes. plain_homes past x ls w.world [] homes;
      takes =
          λ w c old site b input there same q why r n so pe st k ls all homes. took_homes e past x is w so pe st k c old site b input there same q why r ls
          all homes;
      serves = λ w s node input there why up n so pe st k ls all homes. plain_homes past x ls w.world _ homes;
      loses = λ w j m q n so pe st k ls all homes. plain_homes past x ls w.world [] homes;
      cuts = λ w from to n so pe st k ls all homes. plain_homes past x ls w.world [] homes;
      heals = λ w from to n so pe st k ls all homes. plain_homes past x ls w.world [] homes;
      advances = λ w steps n so pe st k ls all homes. plain_homes past x ls w.world _ homes;
      effects = λ w j n so pe st k ls all homes. plain_homes past x ls w.world _ homes;
      reports = λ w k ok sc which. reported w k ok sc;
      client_crashes = λ w c site q n so pe st k ls all homes. plain_homes past x ls w.world _ homes;
      server_crashes = λ w s node q n so pe st k ls all homes. plain_homes past x ls w.world [] homes;
      client_starts = λ w c site q which n so pe st k ls all homes. plain_homes past x ls w.world [] homes;
      server_starts = λ w s node q which n so pe st k ls all homes. plain_homes past x ls w.world [] homes;
    }
  where
    reported : (w : ThirdWorld) (j : ℕ) (ok : Words.Bool) (sc : ThirdWorldTurn) → HomesWithoutAsk e past x (every.with_report j ok w) sc →
        HomesWithoutAsk e past x w sc
    reported w j ok sc f n so pe st k ls all homes =
        λ l h. let z =
        f n (record { fits = record { sites = so.fits.sites; there = so.fits.there; pairs = so.fits.pairs }; form = so.form })
        (record { asks = pe.asks; ids = pe.ids; servers = pe.servers; few = pe.few })
        (Rattle.st_laws_leaving.proofs.Betweens.standing_as w.world (every.with_report j ok w).world refl refl (λ m i. i) st)
        (record { count = k.count; leaves = k.leaves }) ls
        (gone_as w.world (every.with_report j ok w).world ls refl (λ m i. i) all)
        (λ y i. let g = homes y i in record { site = g.site; there = g.there; association = g.association; has = g.has; is = g.is }) l h in
        record { site = z.site; there = z.there; association = z.association; has = z.has; is = z.is }

-- Each event.
module _ (past : List ThirdStep) (x : ThirdStep) (v : ThirdWorld) (so : Sound (third_counted v)) (pe : People (third_counted v))
    (st : Standing (third_counted v).world) (k : AsksKnown past (third_counted v)) (ls : List Leaver) (all : AllGone (third_counted v).world ls)
    (homes : AllHome (third_counted v).world ls) where
  abbrev Now : ThirdWorld
  Now = third_counted v

  pub homes_each : (e : ThirdEvent) → x.event ≡ e → worlds.refusal v e ≡ Words.None → HomesBefore past x ls Now (every.happens Now e)
  unfolding every.happens every.plain_happens worlds.refusal worlds.plain_refusal
  homes_each (third.Leave c s) i q =
      let a = asked_runs v.world c q in
      asks_it Now so c a.0 a.1 a.2 (λ op. takes.Leave op s) (HomesBefore past x ls Now)
      (λ b there. took_homes (third.Leave c s) past x i Now so pe st k c a.0 (asked_once_more a.0) b (takes.Leave (a.0.asks + 1) s) a.1 refl there
      (IsAskedToLeave s) a.2 ls all homes)
  homes_each (third.Plain (events.App c ask)) i q =
      let a = asked_runs v.world c q in
      asks_it Now so c a.0 a.1 a.2 (λ op. takes.Plain (inputs.App op ask)) (HomesBefore past x ls Now)
      (λ b there. took_homes (third.Plain (events.App c ask)) past x i Now so pe st k c a.0 (asked_once_more a.0) b
      (takes.Plain (inputs.App (a.0.asks + 1) ask)) a.1 refl there (IsAsked ask) a.2 ls all homes)
  homes_each (third.Plain p) i q =
      walk_by_event (third.Plain p) (HomesWithoutAsk (third.Plain p) past x) (homes_law (third.Plain p) past x i) Now so.form tt so pe st k ls all homes
