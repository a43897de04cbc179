-- In every run of the third form, a client that left has neither row nor wait at its server, until it asks again.
use Rattle.st_lemmas.proofs.Words
use Words.{◌≡◌, ◌+◌, ℕ, Bool, true, false, not, List, [], ◌∷◌, ◌++◌, map, Option, Some, None, refl, sym, ap, ◌∙◌, subst, ne_eqb}
use Words.{ClientId, Config, WorldRefusal}
use Words.events
use Words.nodes
use Words.refusals
use Words.Admissible as admissible
use Words.Events.{asked_once_more}
use Words.Lists.{Has}
use Words.Numbers.{numbered_has}
use Words.Server.{ServerNode}
use Words.Tables.{all_pass, and_both, has_map}
use Words.World.{World, WorldClient, fresh_world, is_running, node_of, numbered, site_of, site_runs}
use Rattle.std.specs.Option.{option_or}
use Rattle.st_lemmas.proofs.Once.{none_any}
use Rattle.st_rules.specs.declared.client.ClientInput.TheVariants as inputs
use Rattle.st_rules.specs.Locks as rows
use Rattle.st_third.specs.declared.beside.Leave.{Leave}
use Rattle.st_third.specs.declared.event.ThirdEvent.{ThirdEvent}
use Rattle.st_third.specs.declared.event.ThirdEvent.TheVariants as third
use Rattle.st_third.specs.declared.event.ThirdInput.TheVariants as takes
use Rattle.st_third.specs.declared.limits.Limits.{Limits}
use Rattle.st_third.specs.Events as every
use Rattle.st_third.specs.Events.{ThirdWorldTurn, third_counted}
use Rattle.st_third.specs.Promises.{Leaver, has_nothing, has_nothing_at, left_along, left_from}
use Rattle.st_third.specs.State.{ClientBeside, fresh_beside_client}
use Rattle.st_third.specs.Steps as steps
use Rattle.st_third.specs.Steps.{ThirdStep, ThirdTraced}
use Rattle.st_third.specs.World as worlds
use Rattle.st_third.specs.World.{ThirdWorld, beside_site, third_world}
use Rattle.st_laws_third.proofs.DemandsSeen.{People, people_first, within_most}
use Rattle.st_laws_third.proofs.EventWalk.{IsAsked, IsAskedToLeave, walk_by_event}
use Rattle.st_laws_third.proofs.Sound.{Sound, sound_first}
use Rattle.st_laws_leaving.specs.Leavers.{AllGone, AsksKnown, EveryLeaverHasNothing, IsGone, LeaversHaveNothing, asks_of}
use Rattle.st_laws_leaving.specs.Quiet.{Standing}
use Rattle.st_laws_leaving.proofs.Along.{from_last}
use Rattle.st_laws_leaving.proofs.Asked.{known_on}
use Rattle.st_laws_leaving.proofs.Betweens.{standing_as}
use Rattle.st_laws_leaving.proofs.Leavers.{Kept, KeptWithoutAsk, asks_it, gone_as, kept_law, took_kept}
use Rattle.st_laws_leaving.proofs.StandingRuns.{Stand, client_is, stands_throughout, standing_first}

-- who is gone has nothing
pub is_nothing : (w : World) (l : Leaver) → IsGone w l → has_nothing w l ≡ true
is_nothing w l g = go (node_of w l.server) refl
  where
    go : (o : Option ServerNode) → node_of w l.server ≡ o → has_nothing_at l.client o ≡ true
    go None e = refl
    go (Some node) e =
        let z = (g.quiet node e).nothing in
        and_both _ _ (ap not (none_any (rows.is_row_by l.client) node.state.locks.rows (λ r h. ne_eqb r.client.0 l.client.0 (z.rows r h))))
        (ap not (none_any (rows.is_wait_by l.client) node.state.locks.waiters (λ r h. ne_eqb r.client.0 l.client.0 (z.waits r h))))

-- A client that is asked, and not refused, runs.

first_is : (a b : Option WorldRefusal) → option_or a b ≡ None → (a ≡ None) × (b ≡ None)
first_is None b e = (refl, e)
first_is (Some x) b e = absurd (no e)
  where
    no : Some x ≡ None → ⊥
    no q = cc

pub asked_runs : (w : World) (c : ClientId) → worlds.refused_ask w c ≡ None → (site : WorldClient) × (site_of w c ≡ Some site) × (site.node.running ≡ true)
unfolding admissible.stands
asked_runs w c e = there (site_of w c) refl (runs (is_running w (nodes.Client c)) (first_is _ _ (first_is _ _ e).1).0)
  where
    runs : (b : Bool) → admissible.stands (not b) (refusals.NotRunning (nodes.Client c)) ≡ None → b ≡ true
    runs true q = refl
    runs false q = absurd (no q)
      where
        no : Some (refusals.NotRunning (nodes.Client c)) ≡ None → ⊥
        no q = cc

    there : (o : Option WorldClient) → site_of w c ≡ o → site_runs o ≡ true →
        (site : WorldClient) × (site_of w c ≡ Some site) × (site.node.running ≡ true)
    there None q r = absurd (Words.Truth.false_not_true r)
    there (Some site) q r = (site, q, r)

-- Each event.
module _ (past : List ThirdStep) (x : ThirdStep) (v : ThirdWorld) (so : Sound (third_counted v)) (pe : People (third_counted v))
    (st : Standing (third_counted v).world) (k : AsksKnown past (third_counted v)) (ls : List Leaver) (all : AllGone (third_counted v).world ls) where
  abbrev Now : ThirdWorld
  Now = third_counted v

  kept_each : (e : ThirdEvent) → x.event ≡ e → worlds.refusal v e ≡ None → Kept e past x ls Now (every.happens Now e)
  unfolding every.happens every.plain_happens worlds.refusal worlds.plain_refusal
  kept_each (third.Leave c s) i q =
      let a = asked_runs v.world c q in
      asks_it Now so c a.0 a.1 a.2 (λ op. takes.Leave op s) (Kept (third.Leave c s) past x ls Now)
      (λ b there. took_kept (third.Leave c s) past x i Now so pe st k c a.0 (asked_once_more a.0) b (takes.Leave (a.0.asks + 1) s) a.1 refl there
      (IsAskedToLeave s) a.2 ls all)
  kept_each (third.Plain (events.App c ask)) i q =
      let a = asked_runs v.world c q in
      asks_it Now so c a.0 a.1 a.2 (λ op. takes.Plain (inputs.App op ask)) (Kept (third.Plain (events.App c ask)) past x ls Now)
      (λ b there. took_kept (third.Plain (events.App c ask)) past x i Now so pe st k c a.0 (asked_once_more a.0) b
      (takes.Plain (inputs.App (a.0.asks + 1) ask)) a.1 refl there (IsAsked ask) a.2 ls all)
  kept_each (third.Plain p) i q =
      walk_by_event (third.Plain p) (KeptWithoutAsk (third.Plain p) past x) (kept_law (third.Plain p) past x i) Now so.form tt so pe st k ls all

-- what holds of who has left, and of the asks
abbrev pub Also : List ThirdStep → ThirdTraced → Type 0
Also past t = (AllGone t.third.world (left_from [] [] past)) × AsksKnown past t.third

pub one_event : (past : List ThirdStep) (t : ThirdTraced) (e : ThirdEvent) → Stand Also past t → worlds.refusal t.third e ≡ None →
    (LeaversHaveNothing past (steps.third_step t e (every.happens (third_counted t.third) e)))
    × (Also (past ++ steps.third_step t e (every.happens (third_counted t.third) e) ∷ []) (steps.traced_after e t (every.happens (third_counted t.third) e)))
one_event past t e s q =
    let w : ThirdWorld = third_counted t.third in
    let sc : ThirdWorldTurn = every.happens w e in
    let x : ThirdStep = steps.third_step t e sc in
    let k : AsksKnown past w = record { count = s.also.1.count; leaves = s.also.1.leaves } in
    let z : Kept e past x (left_from [] [] past) w sc =
    kept_each past x t.third
    (record { fits = record { sites = s.sound.fits.sites; there = s.sound.fits.there; pairs = s.sound.fits.pairs }; form = s.sound.form })
    (record { asks = s.people.asks; ids = s.people.ids; servers = s.people.servers; few = s.people.few })
    (standing_as t.third.world w.world refl refl (λ m h. h) s.standing) k (left_from [] [] past)
    (gone_as t.third.world w.world (left_from [] [] past) refl (λ m h. h) s.also.0) e refl q in (
      all_pass (has_nothing sc.third.world) (left_along past x (left_from [] [] past) x.seen) (λ l h. is_nothing sc.third.world l (z.0 l h)),
      (subst (AllGone sc.third.world) (sym (from_last [] [] past x)) z.0, known_on past x e w sc.third refl z.1 k),
    )

-- At the start nobody left, and nothing was asked.

besides_first : (k : Config) (m : Limits) (clients servers disks blocks : ℕ) →
    (third_world k m clients servers disks blocks 3).besides ≡ map beside_site (fresh_world k clients servers disks blocks 3).clients
unfolding third_world
besides_first k m clients servers disks blocks = refl

no_leaves : (x : WorldClient) → (beside_site x).leaves ≡ []
unfolding fresh_beside_client
no_leaves x = refl

pub also_first : (k : Config) (m : Limits) (clients servers disks blocks : ℕ) → Also [] (steps.third_traced (third_world k m clients servers disks blocks 3))
unfolding left_from
also_first k m clients servers disks blocks = (λ l h. absurd h, record { count = count; leaves = leaves })
  where
    count : (n : ℕ) (site : WorldClient) → numbered (third_world k m clients servers disks blocks 3).world.clients n ≡ Some site → 0 ≡ site.asks
    count n site e = let z = client_is k m clients servers disks blocks n site e in ap (λ (y : WorldClient). y.asks) (sym z.1)

    leaves : (n : ℕ) (b : ClientBeside) → numbered (third_world k m clients servers disks blocks 3).besides n ≡ Some b → (l : Leave) → Has l b.leaves →
        numbered (asks_of n []) l.op ≡ Some (Words.asks.Sync (steps.no_file l.server))
    leaves n b e l h =
        let xs = (third_world k m clients servers disks blocks 3).besides in
        let z = has_map beside_site (fresh_world k clients servers disks blocks 3).clients b
        (subst (Has b) (besides_first k m clients servers disks blocks) (numbered_has xs n b e)) in
        absurd (subst (Has l) (ap (λ (y : ClientBeside). y.leaves) z.2 ∙ no_leaves z.0) h)

pub every_leaver_has_nothing : EveryLeaverHasNothing
unfolding Rattle.st_third.specs.Limits.most_clients
every_leaver_has_nothing k m clients servers disks blocks es head =
    stands_throughout Also LeaversHaveNothing one_event es [] (steps.third_traced (third_world k m clients servers disks blocks 3))
    (record {
      sound = sound_first k m clients servers disks blocks;
      people = people_first k m clients servers disks blocks (within_most 1 64 clients head.some_clients);
      standing = standing_first k m clients servers disks blocks;
      also = also_first k m clients servers disks blocks;
    })
