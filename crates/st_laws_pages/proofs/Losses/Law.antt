-- An expired lease empties its client's association, in each event and over whole runs.
use Rattle.st_lemmas.proofs.Words
use Words.{◌≡◌, ℕ, ◌+◌, Bool, true, false, not, ◌&&◌, ◌||◌, [], ◌==◌, Option, Some, None, Ok, Err, refl, sym, ap, ◌∙◌, subst, if◌then◌else◌, is_some}
use Words.{option_map, list_all, eq-eqb, Config, ClientId, Life, NodeId, ServerId, Stamp, Ask, Event, ClientInput, IssuedCommand}
use Words.{SentMessage}
use Words.nodes
use Words.events
use Words.inputs
use Words.Admissible as adm
use Words.Client as cl
use Words.ClientLease as lease
use Words.ClientState.{ClientSession, Association, ClientState}
use Words.Disks as disks
use Words.Events as ev
use Words.Events.{WorldTurn, present_life}
use Words.History.{Traced, traced, association_of, association_at}
use Words.World as world
use Words.World.{World, WorldClient, site_of, site_runs, is_running, numbered, clock_of, same_node, message_of, receiver_of, issued_of, all_clients}
use Words.World.{all_servers, fresh_world}
use Words.Safety.{step, takes_step, is_expired, has_reached, is_emptied, is_empty_store, is_told_at}
use Words.Lists.{Has}
use Words.Numbers.{numbered_own}
use Words.Tables.{all_pass, and_both, and_true}
use Words.Truth.{client_is, or_second}
use Words.Worlds.{can_step}
use Rattle.st_rules.specs.declared.node.StepRefusal.TheVariants.{Crashed}
use Rattle.st_lemmas.proofs.Steps.{throughout, step_happens}
use Rattle.st_laws_steps.specs.Client.Losses.{Fit, is_ended}
use Rattle.st_laws_steps.specs.Lives.Lives.{ended_rows, LivesHold}
use Rattle.st_laws_pages.specs.Disks.Obligations.{FatesHold}
use Rattle.st_laws_pages.proofs.Lives.Lasting.{Flushed, flush_parts}
use Rattle.st_laws_pages.proofs.Disks.Steps.{counted_fates, fates_law}
use Rattle.st_laws_pages.proofs.Lives.Turning.{Said, says_lives}
use Rattle.st_laws_pages.proofs.Disks.Whole.{fresh_fates}
use Rattle.st_laws_pages.specs.Losses.Losses.{is_left_empty, all_left_empty, ExpiredLeasesEmptyAssociations, RunsEmptyAssociations}
use Rattle.st_laws_pages.proofs.Losses.Emptied.{Empty, Emptied, step_empties}

-- an association that is emptied, by its parts
is_it : (l : Life) (b : Association) → cl.next_life l ≡ b.life → Empty b → is_emptied l (Some b) ≡ true
is_it l b e m =
    and_both (b.life.0 == l.0 + 1) _ (eq-eqb b.life.0 (l.0 + 1) (ap (λ (x : Life). x.0) (sym e)))
    (and_both (not (is_some b.session)) (is_empty_store b.store) (ap (λ z. not (is_some z)) m.session) (ap is_empty_store m.store))

-- a lease end that is reached belongs to a session whose lease is over
record Reached (k : Config) (now : Stamp) (o : Option Association) : Type 0 where
  pub association : Association
  pub is : o ≡ Some association
  pub over : is_ended k now association.session ≡ true

reached : (k : Config) (now : Stamp) (o : Option Association) → has_reached now (lease.end_at k (cl.lease_at o)) ≡ true → Reached k now o
reached k now None e = cc
reached k now (Some a) e = record { association = a; is = refl; over = by a.session e }
  where
    by : (x : Option ClientSession) → has_reached now (lease.end_at k (option_map cl.lease_of_session x)) ≡ true → is_ended k now x ≡ true
    by None e = cc
    by (Some x) e = e

-- What is claimed about a world after an event.
abbrev LeftEmpty : World → World → ClientId → ServerId → Type 0
LeftEmpty w v c s = is_emptied (present_life w c s) (association_of v c s) ≡ true

-- A client takes an input.
client_empties : (w : World) (c : ClientId) (s : ServerId) (input : ClientInput) (old site : WorldClient) → site_of w c ≡ Some old → old.node ≡ site.node → site.node.running ≡ true → LivesHold w → is_expired w c s ≡ true →
    LeftEmpty w (ev.client_takes w c input site).world c s
unfolding cl.node_step ev.client_takes ev.client_took
client_empties w c s input old site there same runs h x = go site.node.running runs
  where
    now : Stamp
    now = clock_of w (nodes.Client c)

    t : cl.NodeTurn
    t = cl.node_turn site.node (cl.client_step site.node.state now input)

    v0 : World
    v0 = ev.with_site c (ev.at_node t.node site) w

    u : World
    u = (ev.client_says_all c site.node.state t.out (ev.quiet v0)).world

    v : World
    v = ev.flushes c t.node.state (all_servers u) u

    said : Said c (ended_rows c site.node.state t.out) v0 u
    said = says_lives c site.node.state t.out (ev.quiet v0)

    fl : Flushed u v
    fl = flush_parts c t.node.state (all_servers u) u

    own : site_of v c ≡ Some (ev.at_node t.node site)
    own = ap (λ z. numbered z c.0) (fl.clients ∙ said.clients) ∙ numbered_own w.clients c.0 (ev.at_node t.node site) old there

    at : ClientState
    at = site.node.state

    expired : has_reached now (lease.end_at at.config (cl.lease_at (cl.association_with at s))) ≡ true
    expired = subst (λ (n : cl.ClientNode). has_reached now (cl.lease_end_with n.state s) ≡ true) same (subst (λ z. has_reached now (world.present_end w s z) ≡ true) there x)

    r : Reached at.config now (cl.association_with at s)
    r = reached at.config now (cl.association_with at s) expired

    fit : (a : Association) → Has a at.associations → Fit a
    fit = subst (λ (n : cl.ClientNode). (a : Association) → Has a n.state.associations → Fit a) same (h.lives.sites c old there).fit

    em : Emptied s r.association (cl.client_step at now input).state.associations
    em = step_empties c at now input fit s r.association r.is r.over

    left : LeftEmpty w v c s
    left =
        ap (λ z. is_emptied (present_life w c s) (association_at s z)) own
        ∙ ap (λ z. is_emptied (present_life w c s) z) em.found
        ∙ ap (λ z. is_emptied (ev.life_of_site s z) (Some em.last)) there
        ∙ ap (λ (n : cl.ClientNode). is_emptied (world.life_with n.state s) (Some em.last)) same
        ∙ ap (λ z. is_emptied (world.life_at z) (Some em.last)) r.is
        ∙ is_it r.association.life em.last em.life em.empty

    go : (b : Bool) → b ≡ true → LeftEmpty w (ev.client_took w c site (if b then Ok t else Err Crashed)).world c s
    go true e = left
    go false e = cc

-- a client that is there and runs
at_empties : (w : World) (c : ClientId) (s : ServerId) (input : ClientInput) → site_runs (site_of w c) ≡ true → LivesHold w → is_expired w c s ≡ true → LeftEmpty w (ev.at_client w c input (site_of w c)).world c s
unfolding ev.at_client
at_empties w c s input runs h x = go (site_of w c) refl runs
  where
    go : (o : Option WorldClient) → site_of w c ≡ o → site_runs o ≡ true → LeftEmpty w (ev.at_client w c input o).world c s
    go None e r = cc
    go (Some site) e r = client_empties w c s input site site e refl r h x

asks_empties : (w : World) (c : ClientId) (s : ServerId) (ask : Ask) → site_runs (site_of w c) ≡ true → LivesHold w → is_expired w c s ≡ true → LeftEmpty w (ev.asks_at w c ask (site_of w c)).world c s
unfolding ev.asks_at
asks_empties w c s ask runs h x = go (site_of w c) refl runs
  where
    go : (o : Option WorldClient) → site_of w c ≡ o → site_runs o ≡ true → LeftEmpty w (ev.asks_at w c ask o).world c s
    go None e r = cc
    go (Some site) e r = client_empties w c s _ site (ev.asked_once_more site) e refl r h x

told_empties : (w : World) (s : ServerId) (k : ℕ) (ok : Bool) (y : IssuedCommand) → is_told_at y (site_of w y.client) ≡ true → LivesHold w → is_expired w y.client s ≡ true →
    LeftEmpty w (ev.tells_client w k ok y (site_of w y.client)).world y.client s
unfolding ev.tells_client ev.tells_site
told_empties w s k ok y told h x = go (site_of w y.client) refl told
  where
    at : (site : WorldClient) → site_of w y.client ≡ Some site → site.node.running ≡ true → (b : Bool) → b ≡ true →
        LeftEmpty w (if b then ev.client_takes w y.client (ev.end_told w k ok y) site else ev.quiet w).world y.client s
    at site e r true q = client_empties w y.client s _ site site e refl r h x
    at site e r false q = cc

    go : (o : Option WorldClient) → site_of w y.client ≡ o → is_told_at y o ≡ true → LeftEmpty w (ev.tells_client w k ok y o).world y.client s
    go None e r = cc
    go (Some site) e r = at site e (and_true site.node.running (site.starts == y.starts) r).0 (ev.is_same_instance y site) r

node_is : (n : NodeId) (c : ClientId) → same_node n (nodes.Client c) ≡ true → n ≡ nodes.Client c
node_is (nodes.Client d) c e = ap (λ z. nodes.Client z) (client_is d c e)
node_is (nodes.Server d) c e = cc

-- Each event.
happens_empties : (w : World) (e : Event) → adm.refusal w e ≡ None → LivesHold (ev.counted w) → (c : ClientId) (s : ServerId) → takes_step w c e ≡ true → is_expired w c s ≡ true → LeftEmpty w (ev.happens (ev.counted w) e).world c s
unfolding ev.happens ev.ticks ev.delivers ev.delivers_to ev.reports_of ev.tells adm.refusal adm.refused_delivery
happens_empties w (events.Tick n) q h c s y x =
    subst (λ z. LeftEmpty w (ev.ticks (ev.counted w) z).world c s) (sym (node_is n c y))
    (at_empties (ev.counted w) c s inputs.Tick (subst (λ z. is_running w z ≡ true) (node_is n c y) (can_step w n (or_second (adm.no_node w n) _ q))) h x)
happens_empties w (events.App d ask) q h c s y x =
    subst (λ z. LeftEmpty w (ev.asks_at (ev.counted w) z ask (site_of w z)).world c s) (sym (client_is d c y))
    (asks_empties (ev.counted w) c s ask (subst (λ z. is_running w (nodes.Client z) ≡ true) (client_is d c y) (can_step w (nodes.Client d) (or_second (adm.no_node w (nodes.Client d)) _ q))) h x)
happens_empties w (events.Deliver k) q h c s y x = go (message_of w k) q y
  where
    go : (o : Option SentMessage) → adm.refused_delivery w k o ≡ None → Rattle.st_rules.specs.Safety.is_receiver c o ≡ true → LeftEmpty w (ev.delivers (ev.counted w) o).world c s
    go None q y = cc
    go (Some m) q y =
        subst (λ z. LeftEmpty w (ev.delivers_to (ev.counted w) m.message z).world c s) (sym (node_is (receiver_of m) c y))
        (at_empties (ev.counted w) c s (inputs.Control m.message)
        (subst (λ z. is_running w z ≡ true) (node_is (receiver_of m) c y) (can_step w (receiver_of m) (or_second (adm.link_cut w m) _ (or_second (adm.is_lost k m) _ q)))) h x)
happens_empties w (events.Report k ok) q h c s y x = go (issued_of w k) y
  where
    v : World
    v = ev.with_disks (ev.disks_after w.disks (disks.done w.disks k ok)) (ev.counted w)

    lives : LivesHold v
    lives = record { lives = h.lives; known = h.known }

    told : (z : IssuedCommand) → z.client ≡ c → is_told_at z (site_of w c) ≡ true → LeftEmpty w (ev.tells_client v k ok z (site_of v z.client)).world c s
    told z e t =
        subst (λ d. LeftEmpty w (ev.tells_client v k ok z (site_of v z.client)).world d s) e
        (told_empties v s k ok z (subst (λ d. is_told_at z (site_of w d) ≡ true) (sym e) t) lives (subst (λ d. is_expired w d s ≡ true) (sym e) x))

    go : (o : Option IssuedCommand) → Rattle.st_rules.specs.Safety.is_told w c o ≡ true → LeftEmpty w (ev.tells v k ok o).world c s
    go None y = cc
    go (Some z) y = let b = and_true (z.client.0 == c.0) (is_told_at z (site_of w c)) y in told z (client_is z.client c b.0) b.1
happens_empties w e q h c s y x = cc

-- The promise at a step.
unless : (a b c : Bool) → (a ≡ true → b ≡ true → c ≡ true) → (not (a && b) || c) ≡ true
unless true true c f = f refl refl
unless true false c f = refl
unless false b c f = refl

step_empty : (t : Traced) (e : Event) (sc : WorldTurn) → FatesHold t.world → ev.world_step t.world e ≡ Ok sc → list_all (all_left_empty (step t e sc)) (all_clients t.world) ≡ true
step_empty t e sc h q = all_pass (all_left_empty (step t e sc)) (all_clients t.world) (λ c i. all_pass (is_left_empty (step t e sc) c) (all_servers t.world) (λ s j. one c s))
  where
    one : (c : ClientId) (s : ServerId) → is_left_empty (step t e sc) c s ≡ true
    one c s =
        unless (takes_step t.world c e) (is_expired t.world c s) (is_emptied (present_life t.world c s) (association_of sc.world c s))
        (λ y x. let z = step_happens t.world e sc q in
        subst (λ (u : WorldTurn). is_emptied (present_life t.world c s) (association_of u.world c s) ≡ true) (sym z.1) (happens_empties t.world e z.0 (counted_fates t.world h).lives c s y x))

-- over whole runs
pub runs_empty_associations : RunsEmptyAssociations
runs_empty_associations k clients servers d b form es =
    throughout ExpiredLeasesEmptyAssociations (λ past t. FatesHold t.world) (λ past t e sc h q. (step_empty t e sc h q, fates_law t.world e sc q h)) es []
    (traced (fresh_world k clients servers d b form)) (fresh_fates k clients servers d b form)
