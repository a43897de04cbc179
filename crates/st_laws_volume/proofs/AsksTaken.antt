-- In every run the volume takes each ask that comes: at most sixteen asks of its client are open.
use Rattle.std.proofs.Common.{◌≡◌, ◌≢◌, ◌≤◌, ◌⊎◌, ℕ, suc, ◌+◌, arith, Bool, true, false, not, ◌==◌, List, [], ◌∷◌, ◌++◌, length, Option, Some, None, Ok, Err, refl, sym, ap, ◌∙◌, subst, inl, inr, if◌then◌else◌}
use Rattle.std.specs.Prelude.{filter, is_some, nat_le}
use Rattle.std.specs.List.{flat_map, list_all}
use Rattle.std.proofs.lemmas.Bool.{eq-eqb, le-leb}
use Rattle.st_base.specs.declared.config.Config.{Config}
use Rattle.st_base.specs.declared.ids.ClientId.{ClientId}
use Rattle.st_base.specs.declared.ids.NodeId.{NodeId}
use Rattle.st_base.specs.declared.ids.NodeId.TheVariants as nodes
use Rattle.st_messages.specs.declared.ask.Ask.{Ask}
use Rattle.st_messages.specs.declared.event.Event.{Event}
use Rattle.st_messages.specs.declared.event.Event.TheVariants as events
use Rattle.st_rules.specs.declared.client.ClientInput.TheVariants as inputs
use Rattle.st_rules.specs.declared.node.StepRefusal.TheVariants.{Crashed}
use Rattle.st_rules.specs.declared.observation.Observation.{Observation}
use Rattle.st_rules.specs.declared.observation.Observation.TheVariants as seen
use Rattle.st_rules.specs.declared.world.Carried.{Carried}
use Rattle.st_rules.specs.declared.world.IssuedCommand.{IssuedCommand}
use Rattle.st_rules.specs.Client as cl
use Rattle.st_rules.specs.ClientState.{Association, ClientTurn}
use Rattle.st_rules.specs.Events as ev
use Rattle.st_rules.specs.Events.{WorldTurn, is_same_instance, world_step}
use Rattle.st_rules.specs.History.{Traced, traced}
use Rattle.st_rules.specs.Safety.{Promise, Step, TheReportTellsTheLog, step, steps}
use Rattle.st_rules.specs.World as world
use Rattle.st_rules.specs.World.{World, WorldClient, clock_of, fresh_world, issued_of, numbered, site_of, with_numbered}
use Rattle.st_lemmas.specs.Lists.{Has}
use Rattle.st_lemmas.proofs.Lookups.{if_true, some_is}
use Rattle.st_lemmas.proofs.Numbers.{numbered_below, numbered_other, numbered_own}
use Rattle.st_lemmas.proofs.Steps.{step_happens}
use Rattle.st_lemmas.proofs.Tables.{and_both, and_true, same_or_not}
use Rattle.st_lemmas.proofs.Lengths.{length_map}
use Rattle.st_promises.specs.Safe.{EveryRunIsSafe}
use Rattle.st_laws_steps.specs.Lives.Lives.{NodeHolds}
use Rattle.st_laws_pages.specs.Asks.Law.{PlacesHold}
use Rattle.st_laws_pages.specs.Disks.Obligations.{FatesHold}
use Rattle.st_laws_pages.proofs.Asks.Law.{places_law}
use Rattle.st_laws_pages.proofs.Asks.Places.{Knows}
use Rattle.st_laws_pages.proofs.Asks.Says.{client_leaves}
use Rattle.st_laws_pages.proofs.Causes.Placed.{PlacesAt, places_at}
use Rattle.st_laws_pages.proofs.Disks.Whole.{fates_law}
use Rattle.st_laws_pages.proofs.Lives.Lasting.{flush_parts}
use Rattle.st_laws_volume.specs.Asks.{AsksOf, HasAsksOf, at_site, operation_key, ask_key}
use Rattle.st_laws_volume.specs.StepKinds.{AreTaken, StepsAreTaken, is_ask}
use Rattle.st_laws_volume.specs.Logs.{InEveryRun, IsLogOf}
use Rattle.st_laws_volume.specs.Options.{OnSome}
use Rattle.st_laws_volume.specs.Seen.{failure, failure_of, failure_told, of_event, of_line}
use Rattle.st_laws_volume.specs.Witness.{Witness, of_delivery, of_lines, steps_of}
use Rattle.st_laws_volume.proofs.AskEvents.{AsksLeft, event_leaves}
use Rattle.st_laws_volume.proofs.AskSteps.{told_all, told_by, without_ask}
use Rattle.st_laws_volume.proofs.Asks.{AsksHold, asks_begin, asks_kept, fresh_asks}
use Rattle.st_laws_volume.proofs.Carried.{IsGiven, given_in}
use Rattle.st_laws_volume.proofs.FewAsks.{step_few}
use Rattle.st_laws_volume.proofs.StepKinds.{IsApart, both_inside, delivery_inside, is_inside, lines_inside, none_inside, one_before}
use Rattle.st_laws_volume.proofs.Logs.{LogHolds, log_begins, log_kept}
use Rattle.st_laws_volume.proofs.ReadPages.{throughout_both}
use Rattle.st_volume.specs.declared.step.VolumeStep.{VolumeStep}
use Rattle.st_volume.specs.declared.step.VolumeStep.TheVariants as kinds
use Rattle.st_volume.specs.Volume as volume
use Rattle.st_volume.specs.Volume.{Volume, open_of}

-- Steps other than asks leave no more open asks.
abbrev pub is_other : VolumeStep → Bool
is_other it = not (is_ask it)

kept_few : {A : Type 0} (test : A → Bool) (xs : List A) (most : ℕ) → length xs ≤ most → length (filter test xs) ≤ most
kept_few {A} test xs most l = let e = less xs in omega (arith, l, e)
  where
    less : (xs : List A) → length (filter test xs) ≤ length xs
    less [] = omega arith
    less (x ∷ xs) = go (test x) (less xs)
      where
        go : (b : Bool) → length (filter test xs) ≤ length xs → length (if b then x ∷ filter test xs else filter test xs) ≤ suc (length xs)
        go true l = omega (arith, l)
        go false l = omega (arith, l)

if_few : (b : Bool) (x y : AsksOf) (most : ℕ) → length x.pending ≤ most → length y.pending ≤ most → length (if b then x else y).pending ≤ most
if_few true x y most p q = p
if_few false x y most p q = q

told_few : (c : ClientId) (it : VolumeStep) (a : AsksOf) (most : ℕ) → is_other it ≡ true → length a.pending ≤ most → length (told_by c it a).pending ≤ most
told_few c (kinds.Asked d ask) a most q l = cc
told_few c (kinds.Answered d op answer) a most q l =
    if_few (d.0 == c.0) (record a { pending = without_ask op a.pending }) a most (kept_few (λ (j : ℕ × Ask). not (j.0 == op)) a.pending most l) l
told_few c (kinds.Crashed d) a most q l = if_few (d.0 == c.0) (record a { pending = [] }) a most (omega arith) l
told_few c (kinds.TakesEffect d op) a most q l = l
told_few c (kinds.Joined i d what) a most q l = l
told_few c (kinds.Hardened i) a most q l = l
told_few c (kinds.Dropped i cause) a most q l = l
told_few c (kinds.Restarted s) a most q l = l
told_few c (kinds.WriteFailed d number i) a most q l = l
told_few c (kinds.ReadFailed d s number) a most q l = l

all_few : (c : ClientId) (its : List VolumeStep) (a : AsksOf) (most : ℕ) → list_all is_other its ≡ true → length a.pending ≤ most →
    length (told_all c its a).pending ≤ most
all_few c [] a most q l = l
all_few c (it ∷ its) a most q l =
    let b = and_true (is_other it) (list_all is_other its) q in all_few c its (told_by c it a) most b.1 (told_few c it a most b.0 l)

-- What is seen of an event other than an ask holds none.
inside_other : (it : VolumeStep) → is_inside it ≡ true → is_other it ≡ true
inside_other (kinds.TakesEffect c op) q = refl
inside_other (kinds.Joined i c what) q = refl
inside_other (kinds.Answered c op answer) q = refl
inside_other (kinds.Hardened i) q = refl
inside_other (kinds.Dropped i cause) q = refl
inside_other it q = cc

pub all_other : (its : List VolumeStep) → list_all is_inside its ≡ true → list_all is_other its ≡ true
all_other [] q = refl
all_other (it ∷ its) q =
    let b = and_true (is_inside it) (list_all is_inside its) q in and_both (is_other it) (list_all is_other its) (inside_other it b.0) (all_other its b.1)

line_is : (w : World) (o : Observation) (xs : List VolumeStep) → list_all is_inside xs ≡ true → list_all is_inside (of_line w o ++ xs) ≡ true
unfolding of_line
line_is w (seen.Wrote i c f p bytes) xs q = q
line_is w (seen.Patched i c f p at bytes) xs q = q
line_is w (seen.CutAt i f p) xs q = q
line_is w (seen.Hardened i) xs q = q
line_is w (seen.Dropped i cause) xs q = q
line_is w (seen.Answered c op answer) xs q = q
line_is w (seen.Sent k m) xs q = q
line_is w (seen.Submitted k c number what) xs q = q
line_is w (seen.Leased c s end) xs q = q
line_is w (seen.Lost c s life) xs q = q
line_is w (seen.Suspected s c start) xs q = q
line_is w (seen.Stolen s c life) xs q = q

lines_are : (w : World) (os : List Observation) → list_all is_inside (flat_map (of_line w) os) ≡ true
lines_are w [] = refl
lines_are w (o ∷ os) = line_is w o (flat_map (of_line w) os) (lines_are w os)

failure_other : (k : IssuedCommand) (carries : Option Carried) → list_all is_other (failure k carries ∷ []) ≡ true
failure_other k None = refl
failure_other k (Some x) = refl

told_other : (k : IssuedCommand) (site : Option WorldClient) → list_all is_other (failure_told k site) ≡ true
told_other k None = refl
told_other k (Some site) = go (is_same_instance k site)
  where
    go : (b : Bool) → list_all is_other (if b then failure k k.carries ∷ [] else []) ≡ true
    go true = failure_other k k.carries
    go false = refl

failed_other : (w : World) (k : Option IssuedCommand) → list_all is_other (failure_of w k) ≡ true
failed_other w None = refl
failed_other w (Some k) = told_other k (site_of w k.client)

abbrev pub is_app : Event → Bool
is_app (events.App c ask) = true
is_app e = false

pub event_other : (w : World) (e : Event) → is_app e ≡ false → list_all is_other (of_event w e) ≡ true
unfolding of_event
event_other w (events.App c ask) q = cc
event_other w (events.Tick n) q = refl
event_other w (events.Deliver k) q = refl
event_other w (events.Lose k) q = refl
event_other w (events.Cut from to) q = refl
event_other w (events.Heal from to) q = refl
event_other w (events.Advance increments) q = refl
event_other w (events.Effect k) q = refl
event_other w (events.Report k true) q = refl
event_other w (events.Report k false) q = failed_other w (issued_of w k)
event_other w (events.Crash (nodes.Client c)) q = refl
event_other w (events.Crash (nodes.Server s)) q = refl
event_other w (events.Start (nodes.Client c)) q = refl
event_other w (events.Start (nodes.Server s)) q = refl

-- At most sixteen.
abbrev pub AllFew : World → Type 0
AllFew w = (c : ClientId) (site : WorldClient) → site_of w c ≡ Some site → length site.node.state.operations ≤ 16

few_at : (w : World) → AllFew w → (c : ClientId) → length (at_site (site_of w c)).pending ≤ 16
few_at w h c = go (site_of w c) refl
  where
    go : (o : Option WorldClient) → site_of w c ≡ o → length (at_site o).pending ≤ 16
    go None q = omega arith
    go (Some site) q = subst (λ l. l ≤ 16) (sym (length_map operation_key site.node.state.operations)) (h c site q)

at_few : (w : World) → ((c : ClientId) → length (at_site (site_of w c)).pending ≤ 16) → AllFew w
at_few w h c site at =
    subst (λ l. l ≤ 16) (length_map operation_key site.node.state.operations) (subst (λ o. length (at_site o).pending ≤ 16) at (h c))

plain_few : (t : World) (e : Event) (sc : WorldTurn) → is_app e ≡ false → AsksLeft t e sc → AllFew t → AllFew sc.world
plain_few t e sc q l h =
    at_few sc.world
    (λ c. subst (λ a. length a.pending ≤ 16) (l.told c)
    (all_few c (flat_map (of_line t) sc.seen) (told_all c (of_event t e) (at_site (site_of t c))) 16
    (all_other (flat_map (of_line t) sc.seen) (lines_are t sc.seen))
    (all_few c (of_event t e) (at_site (site_of t c)) 16 (event_other t e q) (few_at t h c))))

-- One client is replaced.
put_few : (t v : World) (c : ClientId) (old new : WorldClient) → site_of t c ≡ Some old → v.clients ≡ with_numbered c.0 new t.clients →
    length new.node.state.operations ≤ 16 → AllFew t → AllFew v
put_few t v c old new at cs few h d site there = go (same_or_not d.0 c.0)
  where
    go : (d.0 ≡ c.0) ⊎ (d.0 ≢ c.0) → length site.node.state.operations ≤ 16
    go (inl e) =
        subst (λ (x : WorldClient). length x.node.state.operations ≤ 16)
        (some_is (sym (ap (λ xs. numbered xs c.0) cs ∙ numbered_own t.clients c.0 new old at) ∙ (ap (numbered v.clients) (sym e) ∙ there))) few
    go (inr n) =
        h d site (sym (ap (λ xs. numbered xs d.0) cs ∙ numbered_other t.clients c.0 d.0 new (numbered_below t.clients c.0 old at).0 n) ∙ there)

module _ (t : World) (c : ClientId) (ask : Ask) (h : AllFew t) where
  app_takes : (n : ℕ) (site : WorldClient) → site_of t c ≡ Some site → NodeHolds t.config t.clocks t.ended c site.node →
      ((a : Association) → Has a site.node.state.associations → Knows n a.server a.store.extents) →
      AllFew (ev.client_takes (ev.counted t) c (inputs.App (site.asks + 1) ask) (ev.asked_once_more site)).world
  unfolding ev.client_takes ev.client_took cl.node_step
  app_takes n site at holds knows = go site.node.running
    where
      u : ClientTurn
      u = cl.client_step site.node.state (clock_of (ev.counted t) (nodes.Client c)) (inputs.App (site.asks + 1) ask)

      new : WorldClient
      new = ev.at_node (record site.node { state = u.state }) (ev.asked_once_more site)

      said : WorldTurn
      said = ev.client_says_all c site.node.state u.out (ev.quiet (ev.with_site c new (ev.counted t)))

      go : (b : Bool) → AllFew (ev.client_took (ev.counted t) c (ev.asked_once_more site) (if b then Ok (cl.node_turn site.node u) else Err Crashed)).world
      go false = h
      go true =
          put_few t (ev.with_flushes c u.state said).world c site new at
          ((flush_parts c u.state (world.all_servers said.world) said.world).clients
          ∙ (client_leaves c site.node.state u.out (ev.quiet (ev.with_site c new (ev.counted t)))).clients)
          (step_few n c site.node.state (clock_of (ev.counted t) (nodes.Client c)) (site.asks + 1) ask holds.id holds.once holds.fit knows (h c site at))
          h

  app_few : ((c : ClientId) (site : WorldClient) → site_of t c ≡ Some site → NodeHolds t.config t.clocks t.ended c site.node) → PlacesAt (length t.servers) t →
      (o : Option WorldClient) → site_of t c ≡ o → AllFew (ev.asks_at (ev.counted t) c ask o).world
  unfolding ev.asks_at
  app_few holds places None at = h
  app_few holds places (Some site) at = app_takes (length t.servers) site at (holds c site at) (places.known c site at)

pub event_few : (t : World) (e : Event) (sc : WorldTurn) → world_step t e ≡ Ok sc → AsksLeft t e sc →
    ((c : ClientId) (site : WorldClient) → site_of t c ≡ Some site → NodeHolds t.config t.clocks t.ended c site.node) → PlacesAt (length t.servers) t →
    AllFew t → AllFew sc.world
unfolding ev.happens
event_few t (events.App c ask) sc f l holds places h =
    subst (λ (z : WorldTurn). AllFew z.world) (sym (step_happens t (events.App c ask) sc f).1) (app_few t c ask h holds places (site_of t c) refl)
event_few t (events.Tick n) sc f l holds places h = plain_few t (events.Tick n) sc refl l h
event_few t (events.Deliver k) sc f l holds places h = plain_few t (events.Deliver k) sc refl l h
event_few t (events.Lose k) sc f l holds places h = plain_few t (events.Lose k) sc refl l h
event_few t (events.Cut from to) sc f l holds places h = plain_few t (events.Cut from to) sc refl l h
event_few t (events.Heal from to) sc f l holds places h = plain_few t (events.Heal from to) sc refl l h
event_few t (events.Advance increments) sc f l holds places h = plain_few t (events.Advance increments) sc refl l h
event_few t (events.Effect k) sc f l holds places h = plain_few t (events.Effect k) sc refl l h
event_few t (events.Report k ok) sc f l holds places h = plain_few t (events.Report k ok) sc refl l h
event_few t (events.Crash n) sc f l holds places h = plain_few t (events.Crash n) sc refl l h
event_few t (events.Start n) sc f l holds places h = plain_few t (events.Start n) sc refl l h

-- The step of an ask.
ask_apart : IsApart is_ask
ask_apart (kinds.TakesEffect c op) q = refl
ask_apart (kinds.Joined i c what) q = refl
ask_apart (kinds.Answered c op answer) q = refl
ask_apart (kinds.Hardened i) q = refl
ask_apart (kinds.Dropped i cause) q = refl
ask_apart it q = cc

-- what is open of a client is what it has pending
open_few : (w : World) (v : Volume) → HasAsksOf w v → AllFew w → (c : ClientId) → nat_le (length (open_of v c)) 16 ≡ true
open_few w v a h c =
    le-leb (length (open_of v c)) 16
    (subst (λ l. l ≤ 16) (sym (sym (length_map ask_key (open_of v c)) ∙ ap (λ (x : AsksOf). length x.pending) (a c))) (few_at w h c))

asked_now : (w : World) (v : Volume) → IsLogOf w.log v → HasAsksOf w v → AllFew w → (c : ClientId) (ask : Ask) →
    is_some (volume.step v (kinds.Asked c ask)) ≡ true
asked_now w v l a h c ask =
    ap is_some
    (if_true (v.lines == length v.log) (volume.acts v (kinds.Asked c ask)) None (eq-eqb v.lines (length v.log) l.lines)
    ∙ if_true (nat_le (length (open_of v c)) 16) (Some (volume.notice (volume.arrived v c ask))) None (open_few w v a h c))

event_asks : (w : World) (e : Event) (v : Volume) → IsLogOf w.log v → HasAsksOf w v → AllFew w → (rest : List VolumeStep) → list_all is_inside rest ≡ true →
    AreTaken is_ask (of_event w e ++ rest) v
unfolding of_event
event_asks w (events.App c ask) v l a h rest q = one_before is_ask ask_apart (kinds.Asked c ask) rest v (λ p. asked_now w v l a h c ask) q
event_asks w (events.Tick n) v l a h rest q = none_inside is_ask ask_apart rest v q
event_asks w (events.Deliver k) v l a h rest q = none_inside is_ask ask_apart rest v q
event_asks w (events.Lose k) v l a h rest q = none_inside is_ask ask_apart rest v q
event_asks w (events.Cut from to) v l a h rest q = none_inside is_ask ask_apart rest v q
event_asks w (events.Heal from to) v l a h rest q = none_inside is_ask ask_apart rest v q
event_asks w (events.Advance increments) v l a h rest q = none_inside is_ask ask_apart rest v q
event_asks w (events.Effect k) v l a h rest q = none_inside is_ask ask_apart rest v q
event_asks w (events.Report k true) v l a h rest q = none_inside is_ask ask_apart rest v q
event_asks w (events.Report k false) v l a h rest q = failed_asks (issued_of w k)
  where
    told : (x : IssuedCommand) (o : Option Carried) → AreTaken is_ask (failure x o ∷ rest) v
    told x None = one_before is_ask ask_apart (failure x None) rest v (λ p. cc p) q
    told x (Some y) = one_before is_ask ask_apart (failure x (Some y)) rest v (λ p. cc p) q

    same : (x : IssuedCommand) (b : Bool) → AreTaken is_ask ((if b then failure x x.carries ∷ [] else []) ++ rest) v
    same x true = told x x.carries
    same x false = none_inside is_ask ask_apart rest v q

    at : (x : IssuedCommand) (o : Option WorldClient) → AreTaken is_ask (failure_told x o ++ rest) v
    at x None = none_inside is_ask ask_apart rest v q
    at x (Some site) = same x (is_same_instance x site)

    failed_asks : (o : Option IssuedCommand) → AreTaken is_ask (failure_of w o ++ rest) v
    failed_asks None = none_inside is_ask ask_apart rest v q
    failed_asks (Some x) = at x (site_of w x.client)
event_asks w (events.Crash (nodes.Client c)) v l a h rest q = one_before is_ask ask_apart (kinds.Crashed c) rest v (λ p. cc p) q
event_asks w (events.Crash (nodes.Server s)) v l a h rest q = none_inside is_ask ask_apart rest v q
event_asks w (events.Start (nodes.Client c)) v l a h rest q = none_inside is_ask ask_apart rest v q
event_asks w (events.Start (nodes.Server s)) v l a h rest q = one_before is_ask ask_apart (kinds.Restarted s) rest v (λ p. cc p) q

record AskHolds (past : List Step) (t : Traced) (it : Witness) : Type 0 where
  asks : AsksHold past t it
  log : LogHolds past t it
  few : AllFew t.world

abbrev Known : Promise
Known past x = TheReportTellsTheLog past x × (FatesHold x.after.world × PlacesHold x.after.world)

-- In every run.
AskToo : List Step → Step → Witness → Type 0
AskToo past x it = OnSome (λ v. AreTaken is_ask (steps_of it v x) v) it.volume

ask_on : IsGiven Known AskHolds AskToo
unfolding AskToo
ask_on past t e sc it f g h = (
  both it.volume h.log h.asks.agree,
  record {
    asks = asks_kept past t e sc it f g.1 h.asks;
    log = log_kept past t e sc it f g.0 h.log;
    few =
        event_few t.world e sc f
        (event_leaves t.world e h.asks.rests h.asks.fates.lives.lives.sites (places_at t.world h.asks.places) h.asks.counted sc f)
        h.asks.fates.lives.lives.sites (places_at t.world h.asks.places) h.few;
  },
)
  where
    both : (o : Option Volume) → OnSome (IsLogOf t.world.log) o → OnSome (HasAsksOf t.world) o → OnSome (λ v. AreTaken is_ask (steps_of it v (step t e sc)) v) o
    both None l a = tt
    both (Some v) l a =
        event_asks t.world e v l a h.few (of_delivery it.behind v t.world e ++ of_lines t.world sc.seen)
        (both_inside (of_delivery it.behind v t.world e) (of_lines t.world sc.seen) (delivery_inside it.behind v t.world e) (lines_inside t.world sc.seen))

pub fresh_few : (k : Config) (clients servers disks blocks form : ℕ) → AllFew (fresh_world k clients servers disks blocks form)
fresh_few k clients servers disks blocks form =
    at_few (fresh_world k clients servers disks blocks form)
    (λ c. subst (λ a. length a.pending ≤ 16) (sym (fresh_asks k clients servers disks blocks form c)) (omega arith))

pub asks_are_taken : EveryRunIsSafe → InEveryRun (StepsAreTaken is_ask)
unfolding AskToo
asks_are_taken safe k clients servers disks blocks form es head events =
    let t : Traced = traced (fresh_world k clients servers disks blocks form) in
    given_in Known AskHolds AskToo ask_on es t
    (record {
      asks = asks_begin k clients servers disks blocks form;
      log = log_begins k clients servers disks blocks form;
      few = fresh_few k clients servers disks blocks form;
    })
    (throughout_both TheReportTellsTheLog (λ past x. FatesHold x.after.world × PlacesHold x.after.world) [] (steps es t)
    (safe k clients servers disks blocks form es head events).told
    (throughout_both (λ past x. FatesHold x.after.world) (λ past x. PlacesHold x.after.world) [] (steps es t)
    (fates_law k clients servers disks blocks form es) (places_law k clients servers disks blocks form es head)))
