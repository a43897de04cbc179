-- A session that rests is renewed when due, over whole runs: after its last step its lease was young, and from the renewal age on a keep-alive is due.
use Rattle.st_lemmas.proofs.Words
use Words.{◌≡◌, ℕ, ◌+◌, ◌≤◌, ◌<◌, ◌⊎◌, ◌&&◌, ◌||◌, Bool, true, false, List, [], ◌∷◌, ◌++◌, Option, Some, None, Ok, Err, refl, sym, ap, ◌∙◌, subst, inl, inr, cond, list_any}
use Words.{arith, if◌then◌else◌, is_some, eqb-true, flat_map, le-leb, leb-true, nat_le, Config, ClientId, Stamp, Event, SentMessage, IssuedCommand, NodeId, ClientInput, Message}
use Words.nodes
use Words.events
use Words.inputs
use Words.Client as cl
use Words.ClientState.{Association, ClientSession, ClientState, Turn, client_turn, enter}
use Words.Events as ev
use Words.Events.{WorldTurn, counted, world_step}
use Words.Safety.{Step, step}
use Words.History.{Traced, traced, traced_after}
use Words.World as world
use Words.World.{World, WorldClient, clock_of, fresh_world, issued_of, message_of, receiver_of, site_of}
use Words.Lists.{Has}
use Words.Lookups.{some_is}
use Words.Tables.{some_passes}
use Words.Truth.{not_both}
use Rattle.st_due.specs.Moments.{is_due}
use Rattle.st_client_due.specs.Spans.{Span, from_on, if_so, is_within}
use Rattle.st_client_due.specs.ClientDue.{asked_during, busy_during, client_due, during_here, flush_at, has_release, kept_alive, lease_end_at, operations_during, reading, reductions_during, request_during}
use Rattle.st_client_due.specs.ClientDue.{requests_during, session_during, writes_during}
use Rattle.st_laws_due.proofs.SpanMoments.{none_before, or_true, within_both, within_each, within_on}
use Rattle.st_rules.specs.declared.node.StepRefusal.TheVariants.{Crashed}
use Rattle.st_lemmas.proofs.Steps.{step_happens, throughout_under}
use Rattle.st_laws_pages.proofs.Lives.Each.{SteppedNode}
use Rattle.st_laws_lasting.specs.Lasting.{client_clock}
use Rattle.st_laws_lasting.specs.DueTicks.{InDueClientRuns, RestingLeasesAreRenewed, TicksWhenDue, client_last_step, client_stepped, client_steps_at, is_for, is_told, runs_still}
use Rattle.st_laws_lasting.proofs.Young.{Ok_in, SiteOk, WasYoung, event_ok, first_ok, start_ok, took}

no_site : (x : WorldClient) → ◌≡◌ {A = Option WorldClient} None (Some x) → ⊥
no_site x e = cc

both : (a b : Bool) → (a && b) ≡ true → (a ≡ true) × (b ≡ true)
both true b e = (refl, e)
both false b e = cc

module _ (k : Config) (c : ClientId) where
  -- A step of the client makes it so now.

  takes_ok : (last : ℕ) (w : World) (i : ClientInput) (old site : WorldClient) → site_of w c ≡ Some old → old.node ≡ site.node → Ok_in k c last w →
      Ok_in k c (client_clock c w) (ev.client_takes w c i site).world
  unfolding ev.client_takes ev.client_took cl.node_step
  takes_ok last w i old site there same o = run site.node.running refl
    where
      run : (b : Bool) → site.node.running ≡ b →
          Ok_in k c (client_clock c w) (ev.client_took w c site (if b then Ok (SteppedNode w c site i) else Err Crashed)).world
      run true r = took k c w c i site (client_clock c w) old there same (omega arith) (λ x f. ((o.stands x f).config, (o.stands x f).fits))
          (λ x ne f. absurd (ne refl))
      run false r =
          record {
            past = omega arith;
            stands = λ x f. record {
              config = (o.stands x f).config;
              fits = (o.stands x f).fits;
              young = λ q. absurd (not_both x.node.running q
                  (ap (λ (y : WorldClient). y.node.running) (some_is (sym f ∙ there)) ∙ ap (λ (n : cl.ClientNode). n.running) same ∙ r));
            };
          }

  at_ok : (last : ℕ) (w : World) (i : ClientInput) → Ok_in k c last w → Ok_in k c (client_clock c w) (ev.at_client w c i (site_of w c)).world
  unfolding ev.at_client
  at_ok last w i o = go (site_of w c) refl
    where
      go : (y : Option WorldClient) → site_of w c ≡ y → Ok_in k c (client_clock c w) (ev.at_client w c i y).world
      go None e = record { past = omega arith; stands = λ x f. absurd (no_site x (sym e ∙ f)) }
      go (Some site) e = takes_ok last w i site site e refl o

  app_ok : (last : ℕ) (w : World) (ask : Words.Ask) → Ok_in k c last w → Ok_in k c (client_clock c w) (ev.asks_at w c ask (site_of w c)).world
  unfolding ev.asks_at
  app_ok last w ask o = go (site_of w c) refl
    where
      go : (y : Option WorldClient) → site_of w c ≡ y → Ok_in k c (client_clock c w) (ev.asks_at w c ask y).world
      go None e = record { past = omega arith; stands = λ x f. absurd (no_site x (sym e ∙ f)) }
      go (Some site) e = takes_ok last w (inputs.App (site.asks + 1) ask) site (ev.asked_once_more site) e refl o

  deliver_ok : (last : ℕ) (w : World) (m : Option SentMessage) → is_for c m ≡ true → Ok_in k c last w → Ok_in k c (client_clock c w) (ev.delivers w m).world
  unfolding ev.delivers ev.delivers_to
  deliver_ok last w None q o = cc
  deliver_ok last w (Some m) q o = go (receiver_of m) q
    where
      go : (n : NodeId) → world.same_node n (nodes.Client c) ≡ true → Ok_in k c (client_clock c w) (ev.delivers_to w m.message n).world
      go (nodes.Client d) f = subst (λ n. Ok_in k c (client_clock c w) (ev.delivers_to w m.message (nodes.Client (record { 0 = n }))).world)
          (sym (eqb-true d.0 c.0 f)) (at_ok last w (inputs.Control m.message) o)
      go (nodes.Server s) f = cc

  tells_ok : (last : ℕ) (w : World) (n : ℕ) (b : Bool) (q : IssuedCommand) (y : Option WorldClient) → q.client ≡ c → site_of w c ≡ y → runs_still q y ≡ true →
      Ok_in k c last w → Ok_in k c (client_clock c w) (ev.tells_client w n b q y).world
  unfolding ev.tells_client ev.tells_site
  tells_ok last w n b q None s e r o = cc
  tells_ok last w n b q (Some site) s e r o =
      subst (λ v. Ok_in k c (client_clock c w) (if v then ev.client_takes w q.client (ev.end_told w n b q) site else ev.quiet w).world) (sym r)
      (subst (λ d. Ok_in k c (client_clock c w) (ev.client_takes w d (ev.end_told w n b q) site).world) (sym s)
      (takes_ok last w (ev.end_told w n b q) site site e refl o))

  report_ok : (last : ℕ) (w : World) (n : ℕ) (b : Bool) → is_told c w (issued_of w n) ≡ true → Ok_in k c last w →
      Ok_in k c (client_clock c w) (ev.reports_of w n b).world
  unfolding ev.reports_of ev.tells
  report_ok last w n b q o = go (issued_of w n) q
    where
      v : World
      v = ev.with_disks (ev.disks_after w.disks (Words.Disks.done w.disks n b)) w

      here : Ok_in k c last v
      here = record { past = o.past; stands = λ x e. o.stands x e }

      go : (y : Option IssuedCommand) → is_told c w y ≡ true → Ok_in k c (client_clock c w) (ev.tells v n b y).world
      go None f = cc
      go (Some x) f =
          let p = both (Words.Keys.same_client x.client c) (runs_still x (site_of w x.client)) f in
          let s : x.client ≡ c = ap (λ (m : ℕ). record { 0 = m }) (eqb-true x.client.0 c.0 p.0) in
          tells_ok last v n b x (site_of v x.client) s (ap (site_of v) (sym s)) p.1 here

  -- an event at which the client takes a step
  steps_ok : (last : ℕ) (w : World) (e : Event) (sc : WorldTurn) → world_step w e ≡ Ok sc → client_steps_at c w e ≡ true → Ok_in k c last w →
      Ok_in k c (client_clock c w) sc.world
  unfolding ev.happens ev.starts ev.ticks
  steps_ok last w e sc is q o = let z = step_happens w e sc is in subst (λ (x : WorldTurn). Ok_in k c (client_clock c w) x.world) (sym z.1) (by e q)
    where
      here : Ok_in k c last (counted w)
      here = record { past = o.past; stands = o.stands }

      by : (e : Event) → client_steps_at c w e ≡ true → Ok_in k c (client_clock c w) (ev.happens (counted w) e).world
      by (events.Tick (nodes.Client d)) q =
          subst (λ n. Ok_in k c (client_clock c w) (ev.at_client (counted w) (record { 0 = n }) inputs.Tick (site_of (counted w) (record { 0 = n }))).world)
          (sym (eqb-true d.0 c.0 q)) (at_ok last (counted w) inputs.Tick here)
      by (events.Start (nodes.Client d)) q =
          subst (λ n. Ok_in k c (client_clock c w) (ev.starts_client (counted w) (record { 0 = n }) (site_of (counted w) (record { 0 = n }))))
          (sym (eqb-true d.0 c.0 q)) (start_ok k c last (counted w) here)
      by (events.App d ask) q =
          subst (λ n. Ok_in k c (client_clock c w) (ev.asks_at (counted w) (record { 0 = n }) ask (site_of (counted w) (record { 0 = n }))).world)
          (sym (eqb-true d.0 c.0 q)) (app_ok last (counted w) ask here)
      by (events.Deliver n) q = deliver_ok last (counted w) (message_of w n) q here
      by (events.Report n b) q = report_ok last (counted w) n b q here
      by (events.Tick (nodes.Server d)) q = cc
      by (events.Start (nodes.Server d)) q = cc
      by (events.Lose n) q = cc
      by (events.Cut a b) q = cc
      by (events.Heal a b) q = cc
      by (events.Advance ds) q = cc
      by (events.Effect n) q = cc
      by (events.Crash n) q = cc

-- the last step after one more event
last_more : (c : ClientId) (t : ℕ) (past : List Step) (x : Step) → client_last_step c t (past ++ x ∷ []) ≡ client_stepped c (client_last_step c t past) x
unfolding client_last_step
last_more c t [] x = refl
last_more c t (y ∷ ys) x = last_more c (client_stepped c t y) ys x

-- A session that rests is due at its renewal age.

module _ (now : ℕ) where
  first_part : (xs ys : List Span) → list_any (is_within now) xs ≡ true → list_any (is_within now) (xs ++ ys) ≡ true
  first_part xs ys e = within_both now xs ys ∙ ap (λ b. b || list_any (is_within now) ys) e

  last_part : (xs ys : List Span) → list_any (is_within now) ys ≡ true → list_any (is_within now) (xs ++ ys) ≡ true
  last_part xs ys e = within_both now xs ys ∙ ap (λ b. list_any (is_within now) xs || b) e ∙ or_true (list_any (is_within now) xs)

module _ (s : ClientState) (a : Association) (z : ClientSession) (free : z.lease.condemned ≡ false) (rests : z.requests.asked ≡ None) where
  -- the moment from which on a keep-alive is due
  abbrev pub renewal : ℕ
  renewal = z.lease.date.0 + s.config.renew

  abbrev pub at : Turn
  at = enter (client_turn s []) a

  alive_within : list_any (is_within renewal) (kept_alive s.config z.lease) ≡ true
  alive_within =
      ap (λ b. b || list_any (is_within renewal) (from_on (z.lease.date.0 + s.config.quiesce) ∷ (from_on (flush_at s.config z.lease) ∷ [])))
      (within_on renewal renewal ∙ le-leb renewal renewal (omega arith))

  requests_within : list_any (is_within renewal) (requests_during at z) ≡ true
  requests_within =
      ap (λ c. list_any (is_within renewal) (cond c [] (request_during at z z.requests.asked))) free
      ∙ ap (λ o. list_any (is_within renewal) (request_during at z o)) rests
      ∙ last_part renewal (if_so (z.due || has_release z.releases) (from_on 0)) (flat_map (asked_during at z) at.operations ++ kept_alive s.config z.lease)
      (last_part renewal (flat_map (asked_during at z) at.operations) (kept_alive s.config z.lease) alive_within)

  session_within : list_any (is_within renewal) (session_during at (Some z)) ≡ true
  session_within =
      last_part renewal (from_on (lease_end_at s.config z.lease) ∷ []) (reductions_during at z ++ (writes_during at z ++ requests_during at z))
      (last_part renewal (reductions_during at z) (writes_during at z ++ requests_during at z)
      (last_part renewal (writes_during at z) (requests_during at z) requests_within))

  here_within : a.session ≡ Some z → list_any (is_within renewal) (during_here s a) ≡ true
  here_within e =
      last_part renewal (operations_during at) (session_during at a.session)
      (ap (λ o. list_any (is_within renewal) (session_during at o)) e ∙ session_within)

  busy_within : Has a s.associations → a.session ≡ Some z → list_any (is_within renewal) (busy_during s) ≡ true
  busy_within h e =
      within_each renewal (during_here s) s.associations
      ∙ some_passes (λ x. list_any (is_within renewal) (during_here s x)) s.associations a h (here_within e)

  -- so something is due by then
  due_by : (from : Stamp) → from.0 ≤ renewal → Has a s.associations → a.session ≡ Some z → (m : ℕ) × ((client_due s from ≡ Some m) × (m ≤ renewal))
  due_by from l h e = by (client_due s from) refl
    where
      clash : {b : Bool} → b ≡ true → b ≡ false → ⊥
      clash x y = cc

      not_late : is_due (client_due s from) (reading renewal) ≡ false → ⊥
      not_late f = clash (busy_within h e) (none_before from.0 (reading renewal) (busy_during s) l f)

      come : (m : ℕ) → client_due s from ≡ Some m → (b : Bool) → nat_le m renewal ≡ b → (n : ℕ) × ((client_due s from ≡ Some n) × (n ≤ renewal))
      come m f true g = (m, (f, leb-true m renewal g))
      come m f false g = absurd (not_late (ap (λ o. is_due o (reading renewal)) f ∙ g))

      by : (o : Option ℕ) → client_due s from ≡ o → (m : ℕ) × ((client_due s from ≡ Some m) × (m ≤ renewal))
      by None f = absurd (not_late (ap (λ o. is_due o (reading renewal)) f))
      by (Some m) f = come m f (nat_le m renewal) refl

-- Over runs.

module _ (k : Config) (c : ClientId) (gap : ℕ) where
  abbrev pub Stand : List Step → Traced → Type 0
  Stand past t = Ok_in k c (client_last_step c 0 past) t.world

  module _ (past : List Step) (t : Traced) (e : Event) (sc : WorldTurn) (o : Stand past t) (is : world_step t.world e ≡ Ok sc) where
    abbrev x : Step
    x = step t e sc

    stand3 : Stand (past ++ x ∷ []) (traced_after e t sc)
    stand3 = subst (λ l. Ok_in k c l sc.world) (sym (last_more c 0 past x)) (go (client_steps_at c t.world e) refl)
      where
        last : ℕ
        last = client_last_step c 0 past

        go : (b : Bool) → client_steps_at c t.world e ≡ b → Ok_in k c (if b then client_clock c t.world else last) sc.world
        go true q = steps_ok k c last t.world e sc is q o
        go false q = event_ok k c last t.world e sc is o

    renewed3 : TicksWhenDue c gap past x → RestingLeasesAreRenewed k c gap past x
    renewed3 g site a z e r h f n q = by (subst (WasYoung k last) f (ok.young r a h))
      where
        last : ℕ
        last = client_last_step c 0 (past ++ x ∷ [])

        ok : SiteOk k c last site
        ok = stand3.stands site e

        no : ◌≡◌ {A = Bool} false true → ⊥
        no w = cc

        by : WasYoung k last (Some z) → client_clock c sc.world ≤ z.lease.date.0 + k.renew + gap
        by (inl (inl b)) = absurd (not_both z.lease.condemned b n)
        by (inl (inr b)) = absurd (no (sym (ap is_some q) ∙ b))
        by (inr y) =
            let w = ap (λ (kb : Config). kb.renew) ok.config in
            let d = due_by site.node.state a z n q (reading last) (omega (arith, y, w)) h f in
            let l = g site d.0 e r d.1.0 in
            let m = d.1.1 in
            omega (arith, l, m, w)

no_steps : (c : ClientId) → client_last_step c 0 [] ≡ 0
unfolding client_last_step
no_steps c = refl

-- the start of a run
begins : (k : Config) (clients servers disks blocks form : ℕ) (c : ClientId) →
    Ok_in k c (client_last_step c 0 []) (fresh_world k clients servers disks blocks form)
begins k clients servers disks blocks form c =
    subst (λ l. Ok_in k c l (fresh_world k clients servers disks blocks form)) (sym (no_steps c))
    (record { past = omega arith; stands = λ site e. first_ok k clients servers disks blocks form c site e })

-- In every run in which a client gets its ticks when they are due.
pub renewed_law : InDueClientRuns RestingLeasesAreRenewed
renewed_law k clients servers disks blocks form es c gap head all =
    throughout_under (clients + servers) (TicksWhenDue c gap) (RestingLeasesAreRenewed k c gap) (Stand k c gap)
    (λ past t e sc ok o is g. (renewed3 k c gap past t e sc o is g, stand3 k c gap past t e sc o is)) es all []
    (traced (fresh_world k clients servers disks blocks form))
    (begins k clients servers disks blocks form c)
