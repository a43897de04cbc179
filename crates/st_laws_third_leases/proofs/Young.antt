-- A session that rests has a young lease, over whole runs of the third form: each step of a client asks for what there is to ask.
use Rattle.st_lemmas.proofs.Words
use Words.{◌≡◌, ◌≢◌, ℕ, ◌+◌, ◌≤◌, ◌<◌, ◌⊎◌, ◌||◌, Bool, true, false, List, [], ◌∷◌, ◌++◌, map, map-append, Option, Some, None, Ok, refl, sym, ap, ◌∙◌}
use Words.{subst, inl, inr, arith}
use Words.{if◌then◌else◌, is_some, unwrap_or, nat_le, leb-true, leb-false, ltb-true, Event, ClientId, Config, Phase}
use Words.{Stamp, WorldRefusal}
use Words.nodes
use Words.phases
use Words.ClientLease as lease
use Words.ClientState.{Association, ClientSession}
use Words.Events as ev
use Words.Leases.{phase, phase_living, phase_serving, phase_young}
use Words.Lists.{Has}
use Words.Lookups.{some_is}
use Words.Numbers.{numbered_below, numbered_other, numbered_own}
use Words.Tables.{and_true, cond_either, same_or_not}
use Words.Truth.{not_both}
use Words.World.{WorldClient, clock_of, fresh_world, numbered, site_of, stamp, with_numbered}
use Rattle.st_laws_lasting.specs.Lasting.{ClientTicksInTime, RestingLeasesAreYoung, client_clock, client_last_tick, client_ticked, client_ticks_at}
use Rattle.st_laws_lasting.specs.Resting.{IsBusy}
use Rattle.st_laws_lasting.proofs.Young.{WasYoung, last_more}
use Rattle.st_laws_healthy.proofs.Happening.{Brings}
use Rattle.st_laws_healthy.proofs.Keeping.{ages_of}
use Rattle.st_laws_healthy.proofs.Passing.{After}
use Rattle.st_laws_steps.specs.Client.Losses.{is_ended}
use Rattle.st_laws_steps.proofs.Client.Stepping.{pairs_has}
use Rattle.st_laws_third.specs.FirstPromises.{Plainly}
use Rattle.st_laws_third.specs.Sessions.{Dates}
use Rattle.st_laws_third.proofs.EventWalk.{Client_step}
use Rattle.st_third.specs.declared.event.ThirdEvent.{ThirdEvent}
use Rattle.st_third.specs.declared.event.ThirdInput.{ThirdInput}
use Rattle.st_third.specs.declared.limits.Limits.{Limits}
use Rattle.st_third.specs.Events as every
use Rattle.st_third.specs.Events.{ThirdWorldTurn}
use Rattle.st_third.specs.Limits.{with_limits}
use Rattle.st_third.specs.Promises.{Throughout}
use Rattle.st_third.specs.State.{ClientBeside}
use Rattle.st_third.specs.Steps as steps
use Rattle.st_third.specs.Steps.{ThirdStep, ThirdTraced, plain_event, plain_step}
use Rattle.st_third.specs.World as worlds
use Rattle.st_third.specs.World.{ThirdWorld, third_world}
use Rattle.st_laws_third_leases.specs.Young.{InThirdTickingRuns}
use Rattle.st_laws_third_leases.proofs.Idle.{Sent}
use Rattle.st_laws_third_leases.proofs.Requesting.{Rests}
use Rattle.st_laws_requests.specs.Cuts.Cuts.{Counts, view}
use Rattle.st_laws_third_leases.proofs.Placing.{Resting, ViewPlain, rests_on}
use Rattle.st_laws_third_leases.proofs.Stepping.{LeavesAt, Stepped, ThirdWalk, WorksAt, plain_input, steps as step_walks}
use Rattle.st_laws_third_leases.proofs.Nodes.{Known, config_at, counted_world, first_none, fits_at, known_counted, known_first, known_then, its_story}
use Rattle.st_laws_third_leases.proofs.Nodes.{left, paired_at, told_at}
use Rattle.st_laws_third_leases.proofs.Stories.{ByClient, ByServer, IsOff, IsQuiet, NoNode, OffClient, OffServer, Restarts, Story, Took}

pub young_before : (k : Config) (last now : ℕ) (o : Option ClientSession) → last ≤ now → WasYoung k now o → WasYoung k last o
young_before k last now None l y = tt
young_before k last now (Some z) l (inl b) = inl b
young_before k last now (Some z) l (inr y) = inr (omega (arith, l, y))

pub no_ticks : (c : ClientId) → client_last_tick c 0 [] ≡ 0
unfolding client_last_tick
no_ticks c = refl

-- the age at which leases are over is above the renewal age
pub record Renews (k : Config) : Type 0 where
  pub early : k.renew < k.lease

pub renews_of : (k : Config) → Rattle.st_base.specs.Config.check k ≡ Ok tt → Renews k
renews_of k e = record { early = let a = ages_of k e in let f = a.flush in let l = a.lease in let q = quiet in omega (arith, f, l, q) }
  where
    rises : (b : Bool) → (if b then Rattle.st_base.specs.Config.check_rate k else Words.Err Words.config_refusals.Order) ≡ Ok tt → b ≡ true
    rises true f = refl
    rises false f = cc

    quiet : k.renew < k.quiesce
    quiet =
        let z = and_true (Words.nat_lt 0 k.renew) _ (rises (Rattle.st_base.specs.Config.phases_rise k) e) in
        ltb-true k.renew k.quiesce (and_true (Words.nat_lt k.renew k.quiesce) _ z.1).0

-- a lease that is neither condemned nor renewed is young, or over
not_renewing : (k : Config) (date now : Stamp) (b : Bool) → b ≡ false → lease.is_renewing (phase k date b now) ≡ false →
    (now.0 < date.0 + k.renew) ⊎ (date.0 + k.lease ≤ now.0)
unfolding phase phase_living phase_serving phase_young
not_renewing k date now true n = cc
not_renewing k date now false n =
    cond_either P (nat_le (date.0 + k.lease) now.0) phases.Expired (phase_living k date false now) (λ e f. inr (leb-true (date.0 + k.lease) now.0 e))
    (λ a. cond_either P (nat_le (date.0 + k.flush) now.0) phases.Flush (phase_serving k date false now) (λ e f. cc)
    (λ b. cond_either P (nat_le (date.0 + k.quiesce) now.0 || false) phases.Quiesce (phase_young k date now) (λ e f. cc)
    (λ c. cond_either P (nat_le (date.0 + k.renew) now.0) phases.Renewal phases.Valid (λ e f. cc) (λ e f. inl (leb-false (date.0 + k.renew) now.0 e)))))
  where
    P : Phase → Type 0
    P p = lease.is_renewing p ≡ false → (now.0 < date.0 + k.renew) ⊎ (date.0 + k.lease ≤ now.0)

young_of : (k : Config) (now : Stamp) (o : Option ClientSession) → Rests k now o → is_ended k now o ≡ false → WasYoung k now.0 o
young_of k now None r e = tt
young_of k now (Some z) (inl b) e = inl b
young_of k now (Some z) (inr n) e = by z.lease.condemned refl
  where
    over : (now.0 < z.lease.date.0 + k.renew) ⊎ (z.lease.date.0 + k.lease ≤ now.0) → IsBusy z ⊎ (now.0 < z.lease.date.0 + k.renew)
    over (inl y) = inr y
    over (inr l) = let w = leb-false (z.lease.date.0 + k.lease) now.0 e in absurd (omega (arith, l, w))

    by : (b : Bool) → z.lease.condemned ≡ b → IsBusy z ⊎ (now.0 < z.lease.date.0 + k.renew)
    by true q = inl (inl q)
    by false q = over (not_renewing k z.lease.date now z.lease.condemned q n)

-- a lease that isn't over stays so
open_dates : (k : Config) → Renews k → (now : Stamp) (o p : Option ClientSession) → Dates k now o p → is_ended k now o ≡ false → is_ended k now p ≡ false
open_dates k a now o None d e = refl
open_dates k a now None (Some u) d e = Words.lt-leb (u.lease.date.0 + k.lease) now.0 (let l = a.early in omega (arith, d, l))
open_dates k a now (Some s) (Some u) (inl d) e =
    let w = leb-false (s.lease.date.0 + k.lease) now.0 e in Words.lt-leb (u.lease.date.0 + k.lease) now.0 (omega (arith, d, w))
open_dates k a now (Some s) (Some u) (inr d) e = Words.lt-leb (u.lease.date.0 + k.lease) now.0 (let l = a.early in omega (arith, d, l))

open_after : (k : Config) (now : Stamp) (o p : Option ClientSession) → After now o p → is_ended k now o ≡ false → is_ended k now p ≡ false
open_after k now None p e o = ap (is_ended k now) e
open_after k now (Some s) p f o =
    ap (is_ended k now) f.is ∙ ap (λ (l : lease.ClientLease). nat_le (l.date.0 + k.lease) now.0) f.lease ∙ o

module _ (k : Config) (ages : Renews k) (id : ClientId) (now : Stamp) (i : Words.ClientInput) (Said : Words.Message → Type 0) where
  pub walk_young : (a b : Association) → ThirdWalk k id now i Said a b → WasYoung k now.0 b.session
  walk_young a b w = young_of k now b.session w.passes.rests (by w.passes.goes)
    where
      second : is_ended k now w.second.session ≡ false
      second = open_dates k ages now w.first.session w.second.session w.dates w.loses.going

      by : WorksAt now w.second b ⊎ LeavesAt w.second b → is_ended k now b.session ≡ false
      by (inl y) = open_after k now w.second.session b.session y.session second
      by (inr y) = ap (is_ended k now) y.none

-- What a client is after an event.
module _ (k : Config) (c : ClientId) where
  pub record Stands (last : ℕ) (w : ThirdWorld) : Type 0 where
    pub past : last ≤ client_clock c w.world
    pub young : (site : WorldClient) → site_of w.world c ≡ Some site → site.node.running ≡ true → (a : Association) → Has a site.node.state.associations →
        WasYoung k last a.session
    pub resting : (site : WorldClient) → site_of w.world c ≡ Some site → (a : Association) → Has a site.node.state.associations → Resting a

module _ (k : Config) (ages : Renews k) (c : ClientId) (w : ThirdWorld) (kn : Known k w) (e : Event) (sc : ThirdWorldTurn) (last : ℕ)
    (o : Stands k c last w) where
  abbrev last2 : ℕ
  last2 = if client_ticks_at c e then client_clock c w.world else last

  low : last2 ≤ client_clock c w.world
  low = go (client_ticks_at c e)
    where
      go : (b : Bool) → (if b then client_clock c w.world else last) ≤ client_clock c w.world
      go true = omega arith
      go false = o.past

  quiet : client_ticks_at c e ≡ false → last2 ≡ last
  quiet q = ap (λ b. if b then client_clock c w.world else last) q

  -- as before
  same : client_ticks_at c e ≡ false → site_of sc.third.world c ≡ site_of w.world c → client_clock c w.world ≤ client_clock c sc.third.world →
      Stands k c last2 sc.third
  same q s l =
      subst (λ n. Stands k c n sc.third) (sym (quiet q))
      (record {
        past = let p = o.past in omega (arith, p, l);
        young = λ site f r a h. o.young site (sym s ∙ f) r a h;
        resting = λ site f a h. o.resting site (sym s ∙ f) a h;
      })

  -- whatever it was, it has no session, or doesn't run
  none : client_clock c w.world ≤ client_clock c sc.third.world →
      ((site : WorldClient) → site_of sc.third.world c ≡ Some site → site.node.running ≡ true → (a : Association) → Has a site.node.state.associations →
      a.session ≡ None) →
      ((site : WorldClient) → site_of sc.third.world c ≡ Some site → (a : Association) → Has a site.node.state.associations → Resting a) →
      Stands k c last2 sc.third
  none l f g = record {
    past = let p = low in omega (arith, p, l);
    young = λ site q r a h. subst (WasYoung k last2) (sym (f site q r a h)) tt;
    resting = g;
  }

  clock_at : sc.third.world.clocks ≡ w.world.clocks → client_clock c w.world ≤ client_clock c sc.third.world
  clock_at q = let z = ap (λ ts. (unwrap_or (numbered ts c.0) (stamp 0)).0) q in omega (arith, z)

  -- the client takes a step
  stepped : (d : ClientId) (old site : WorldClient) (b : ClientBeside) (input : ThirdInput) → site_of w.world d ≡ Some old → site.node ≡ old.node →
      worlds.beside_of w d ≡ Some b → Brings w.world e d.0 (plain_input input) → Took w d site (Client_step w d site b input) sc → c.0 ≡ d.0 →
      Stands k c last2 sc.third
  stepped d old site b input there same_node q brings took z =
      record {
        past = let p = low in let l = clock_at took.clocks in omega (arith, p, l);
        young = λ x f r a h. young_before k last2 now.0 a.session (let p = low in omega (arith, p, at_clock))
            (all a (subst (λ (y : WorldClient). Has a y.node.state.associations) (some_is (sym f ∙ here)) h));
        resting = λ x f a h. rests a (subst (λ (y : WorldClient). Has a y.node.state.associations) (some_is (sym f ∙ here)) h);
      }
    where
      was : (a : Association) → Has a site.node.state.associations → Resting a
      was = subst (λ (n : Words.Client.ClientNode). (a : Association) → Has a n.state.associations → Resting a) (sym same_node)
          (o.resting old (ap (numbered w.world.clients) z ∙ there))

      now : Stamp
      now = clock_of w.world (nodes.Client d)

      at_clock : client_clock c w.world ≡ now.0
      at_clock = ap (λ n. (unwrap_or (numbered w.world.clocks n) (stamp 0)).0) z

      here : site_of sc.third.world c ≡ Some (ev.at_node (record site.node { state = (Client_step w d site b input).client.plain }) site)
      here =
          ap (λ xs. numbered xs c.0) took.clients
          ∙ ap (numbered (with_numbered d.0 (ev.at_node (record site.node { state = (Client_step w d site b input).client.plain }) site) w.world.clients)) z
          ∙ numbered_own w.world.clients d.0 _ old there

      s : Stepped w.limits (every.third_client site b) now input (paired_at w kn d old site b there same_node q) (fits_at w kn d old site there same_node)
          (λ a h. (was a h).1) (Client_step w d site b input)
      s =
          step_walks w.limits (every.third_client site b) now input (paired_at w kn d old site b there same_node q) (fits_at w kn d old site there same_node)
          (λ a h. (was a h).1) (told_at w kn e d old site there same_node input brings)

      all : (a : Association) → Has a (Client_step w d site b input).client.plain.associations → WasYoung k now.0 a.session
      all =
          pairs_has (ThirdWalk site.node.state.config site.node.state.id now (plain_input input) (Sent (Client_step w d site b input).out)) (λ a. Unit {0})
          (λ b. WasYoung k now.0 b.session)
          (λ a v y x. walk_young k ages site.node.state.id now (plain_input input) (Sent (Client_step w d site b input).out) a v
          (subst (λ kb. ThirdWalk kb site.node.state.id now (plain_input input) (Sent (Client_step w d site b input).out) a v)
          (config_at w kn d old site there same_node) y))
          site.node.state.associations (Client_step w d site b input).client.plain.associations s.pairs (λ a h. tt)

      rests : (a : Association) → Has a (Client_step w d site b input).client.plain.associations → Resting a
      rests =
          pairs_has (ThirdWalk site.node.state.config site.node.state.id now (plain_input input) (Sent (Client_step w d site b input).out)) Resting Resting
          (λ a v y x. rests_on a v y.places x) site.node.state.associations (Client_step w d site b input).client.plain.associations s.pairs was

  pub stands_after : Story w e sc → Stands k c last2 sc.third
  stands_after (ByClient d old site b input there same_node up q brings told ticks took) = go (same_or_not c.0 d.0)
    where
      go : (c.0 ≡ d.0) ⊎ (c.0 ≢ d.0) → Stands k c last2 sc.third
      go (inl z) = stepped d old site b input there same_node q brings took z
      go (inr ne) =
          same (ticks c ne)
          (ap (λ xs. numbered xs c.0) took.clients ∙ numbered_other w.world.clients d.0 c.0 _ (numbered_below w.world.clients d.0 old there).0 ne)
          (clock_at took.clocks)
  stands_after (ByServer r node i there arrives brings told ticks cs ss clocks new said) = same (ticks c) (ap (λ xs. numbered xs c.0) cs) (clock_at clocks)
  stands_after (Restarts d old there broken begun others told ticks many ss clocks ms) = go (same_or_not c.0 d.0)
    where
      go : (c.0 ≡ d.0) ⊎ (c.0 ≢ d.0) → Stands k c last2 sc.third
      go (inl z) = none (clock_at clocks) (λ site f r a h. (begun site a (ap (numbered sc.third.world.clients) (sym z) ∙ f) h).session)
          (λ site f a h. subst (λ v. Counts (view v) × ViewPlain (view v)) (sym (begun site a (ap (numbered sc.third.world.clients)
          (sym z) ∙ f) h).session) (tt, tt))
      go (inr ne) = same (ticks c ne) (others c ne) (clock_at clocks)
  stands_after (IsQuiet x off told ticks cs ss later ms) = go (same_or_not c.0 x)
    where
      sites : site_of sc.third.world c ≡ site_of w.world c
      sites = ap (λ xs. numbered xs c.0) cs

      below : (site : WorldClient) → site_of w.world c ≡ Some site → (1 ≤ c.0) × (c.0 ≤ 64)
      below site f = let z = numbered_below w.world.clients c.0 site f in let y = z.1 in let l = kn.few in (z.0, omega (arith, y, l))

      -- it isn't there, or doesn't run
      away : ((site : WorldClient) → site_of w.world c ≡ Some site → site.node.running ≡ true → ⊥) → Stands k c last2 sc.third
      away never = none (later c.0) (λ site f r a h. absurd (never site (sym sites ∙ f) r)) (λ site f a h. o.resting site (sym sites ∙ f) a h)

      by : c.0 ≡ x → IsOff w e x → Stands k c last2 sc.third
      by z (NoNode y) = away (λ site f r. let l = (below site f).0 in absurd (omega (arith, l, z, y)))
      by z (OffClient d y g near) =
          away (λ site f r. not_both site.node.running r (g site (ap (numbered w.world.clients) (sym y ∙ sym z) ∙ f)))
      by z (OffServer far g) = away (λ site f r. let l = (below site f).1 in absurd (omega (arith, l, far, z)))

      go : (c.0 ≡ x) ⊎ (c.0 ≢ x) → Stands k c last2 sc.third
      go (inl z) = by z off
      go (inr ne) = same (ticks c ne) sites (later c.0)

-- Over a run.
module _ (k : Config) (ages : Renews k) (c : ClientId) (gap : ℕ) where
  pub record Stand (past : List ThirdStep) (t : ThirdTraced) : Type 0 where
    pub known : Known k t.third
    pub stands : Stands k c (client_last_tick c 0 (map plain_step past)) t.third

  module _ (past : List ThirdStep) (t : ThirdTraced) (e : ThirdEvent) (o : Stand past t) (free : worlds.refusal t.third e ≡ None) where
    abbrev sc : ThirdWorldTurn
    sc = left k t.third o.known e free

    abbrev x : ThirdStep
    x = steps.third_step t e sc

    pub last_is : client_last_tick c 0 (map plain_step (past ++ x ∷ [])) ≡ client_ticked c (client_last_tick c 0 (map plain_step past)) (plain_step x)
    last_is = ap (client_last_tick c 0) (map-append plain_step past (x ∷ [])) ∙ last_more c 0 (map plain_step past) (plain_step x)

    pub stand2 : Stand (past ++ x ∷ []) (steps.traced_after e t sc)
    stand2 =
        record {
          known = known_then k t.third o.known e free;
          stands = subst (λ l. Stands k c l sc.third) (sym last_is)
              (stands_after k ages c (counted_world k t.third o.known e free) (known_counted k t.third o.known e free) (plain_event e) sc
              (client_last_tick c 0 (map plain_step past)) (record { past = o.stands.past; young = o.stands.young; resting = o.stands.resting })
              (its_story k t.third o.known e free));
        }

    young2 : ClientTicksInTime c gap (map plain_step past) (plain_step x) → RestingLeasesAreYoung k c gap (map plain_step past) (plain_step x)
    young2 g site a z f r h q n asked =
        by (subst (WasYoung k (client_last_tick c 0 (map plain_step (past ++ x ∷ [])))) q (stand2.stands.young site f r a h))
      where
        never : ◌≡◌ {A = Bool} false true → ⊥
        never w = cc

        by : WasYoung k (client_last_tick c 0 (map plain_step (past ++ x ∷ []))) (Some z) → client_clock c sc.third.world < z.lease.date.0 + k.renew + gap
        by (inl (inl b)) = absurd (not_both z.lease.condemned b n)
        by (inl (inr b)) = absurd (never (sym (ap is_some asked) ∙ b))
        by (inr y) =
            let l = g site f r in
            let m = ap (client_last_tick c 0) (map-append plain_step past (x ∷ [])) in
            omega (arith, y, l, m)

  abbrev Goes_on : List ThirdEvent → Type 0
  Goes_on es =
      (past : List ThirdStep) (t : ThirdTraced) → Stand past t → Throughout (Plainly (ClientTicksInTime c gap)) past (steps.steps es t) →
      Throughout (Plainly (RestingLeasesAreYoung k c gap)) past (steps.steps es t)

  throughout : (es : List ThirdEvent) → Goes_on es
  unfolding Throughout steps.steps steps.steps_on every.world_step every.world_by
  throughout [] past t o h = tt
  throughout (e ∷ es) past t o h = go (throughout es) (worlds.refusal t.third e) refl h
    where
      go : Goes_on es → (r : Option WorldRefusal) → worlds.refusal t.third e ≡ r →
          Throughout (Plainly (ClientTicksInTime c gap)) past (steps.steps_on (steps.steps es) t e (every.world_by t.third e r)) →
          Throughout (Plainly (RestingLeasesAreYoung k c gap)) past (steps.steps_on (steps.steps es) t e (every.world_by t.third e r))
      go rest (Some r) q h = tt
      go rest None q h = (young2 past t e o q h.0, rest _ _ (stand2 past t e o q) h.1)

-- The start of a run.
pub stands_first : (k : Config) (m : Limits) (clients servers disks blocks : ℕ) (c : ClientId) →
    Stands k c (client_last_tick c 0 []) (third_world k m clients servers disks blocks 3)
unfolding third_world fresh_world with_limits Words.Client.fresh_client
stands_first k m clients servers disks blocks c =
    subst (λ l. Stands k c l (third_world k m clients servers disks blocks 3)) (sym (no_ticks c))
    (record {
      past = omega arith;
      young = λ site f r a h. subst (WasYoung k 0) (sym (first_none k m clients servers disks blocks c.0 site f a h)) tt;
      resting = λ site f a h. subst (λ v. Counts (view v) × ViewPlain (view v)) (sym (first_none k m clients servers disks blocks c.0 site f a h)) (tt, tt);
    })

pub young_law : InThirdTickingRuns RestingLeasesAreYoung
young_law k m clients servers disks blocks es c gap head ticks =
    throughout k (renews_of k head.sound) c gap es [] (steps.third_traced (third_world k m clients servers disks blocks 3))
    (record { known = known_first k m clients servers disks blocks head; stands = stands_first k m clients servers disks blocks c }) ticks
