-- What a step of the world says, and whom its numbers name.
use Rattle.std.proofs.Common.{Bool, List, None, Option, Some, [], ap, arith, false, if◌then◌else◌, inl, inr, leb-true, length, not, refl, slice_get, subst, suc}
use Rattle.std.proofs.Common.{sym, true, zero, ℕ, ◌++◌, ◌-◌, ◌∙◌, ◌∷◌, ◌≡◌, ◌≤◌, ◌⊎◌}
use Rattle.std.specs.Option.{option_or}
use Rattle.std.specs.Prelude.{nat_le, unwrap_or}
use Rattle.st_base.specs.declared.ids.ClientId.{ClientId}
use Rattle.st_base.specs.declared.ids.NodeId.{NodeId}
use Rattle.st_base.specs.declared.ids.ServerId.{ServerId}
use Rattle.st_base.specs.declared.ids.Stamp.{Stamp}
use Rattle.st_lemmas.proofs.Lookups.{some_is}
use Rattle.st_lemmas.proofs.Numbers.{get_there}
use Rattle.st_lemmas.proofs.Tables.{has_append}
use Rattle.st_lemmas.specs.Lists.{Has}
use Rattle.st_messages.specs.declared.event.Event.{Event}
use Rattle.st_messages.specs.declared.output.Output.{Output}
use Rattle.st_rules.specs.Admissible.{drift_refused, stands}
use Rattle.st_rules.specs.ClientState.{ClientState}
use Rattle.st_rules.specs.Events.{WorldTurn, advanced, client_says, client_says_all, counted, present_lives}
use Rattle.st_rules.specs.History.{History, recall, recall_all, remember}
use Rattle.st_rules.specs.Keys.{client, server_node}
use Rattle.st_rules.specs.World.{World, WorldClient, clock_of, is_running, lives_of, node_at, numbered, site_of, stamp}
use Rattle.st_rules.specs.declared.lease.Excess.{Excess}
use Rattle.st_rules.specs.declared.lease.Phase.{Phase}
use Rattle.st_rules.specs.declared.observation.Observation.{Observation}
use Rattle.st_rules.specs.declared.observation.WorldRefusal.{WorldRefusal}
use Rattle.st_rules.specs.declared.world.LeaseLife.{LeaseLife}
use Rattle.st_rules.specs.Admissible as adm
use Rattle.st_rules.specs.Client as cl
use Rattle.st_rules.specs.Events as ev
use Rattle.st_messages.specs.declared.event.Event.TheVariants as events
use Rattle.st_base.specs.declared.ids.NodeId.TheVariants as nodes
use Rattle.st_rules.specs.declared.lease.Phase.TheVariants as phases
use Rattle.st_rules.specs.declared.observation.WorldRefusal.TheVariants as refusals
use Rattle.st_rules.specs.World as world

-- a node that is a client has its number
pub client_at_node : (n : ℕ) (c : ClientId) → node_at n ≡ nodes.Client c → n ≡ c.0
unfolding node_at
client_at_node n c e = go (nat_le n 16) e
  where
    number : NodeId → ℕ
    number (nodes.Client d) = d.0
    number (nodes.Server s) = 0

    go : (b : Bool) → (if b then nodes.Client (client n) else nodes.Server (record { 0 = n - 32768 })) ≡ nodes.Client c → n ≡ c.0
    go true q = ap number q
    go false q = cc q

pub server_at_node : (from : ℕ) (s : ServerId) → from ≡ server_node s → world.node_at from ≡ nodes.Server s
unfolding world.node_at
server_at_node from s e = go (nat_le from 16) refl
  where
    go : (b : Bool) → nat_le from 16 ≡ b → (if b then nodes.Client (client from) else nodes.Server (world.server (from - 32768))) ≡ nodes.Server s
    go true q = let z = leb-true from 16 q in absurd (omega (arith, z, e))
    go false q = ap (λ m. nodes.Server (record { 0 = m })) (let z : from - 32768 ≡ s.0 = omega (arith, e) in z)

pub present_in : (cs : List WorldClient) (n : ℕ) (site : WorldClient) (e : LeaseLife) → slice_get cs n ≡ Some site → Has e (lives_of site.node.state) →
    Has e (present_lives cs)
unfolding present_lives
present_in [] n site e i h = cc
present_in (x ∷ cs) zero site e i h = left (lives_of x.node.state) (subst (λ (y : WorldClient). Has e (lives_of y.node.state)) (sym (some_is i)) h)
  where
    left : (xs : List LeaseLife) → Has e xs → Has e (xs ++ present_lives cs)
    left [] h = absurd h
    left (y ∷ xs) (inl q) = inl q
    left (y ∷ xs) (inr q) = inr (left xs q)
present_in (x ∷ cs) (suc n) site e i h = right (lives_of x.node.state) (present_in cs n site e i h)
  where
    right : (xs : List LeaseLife) → Has e (present_lives cs) → Has e (xs ++ present_lives cs)
    right [] h = h
    right (y ∷ xs) h = inr (right xs h)

pub present_at : (cs : List WorldClient) (e : LeaseLife) → Has e (present_lives cs) →
    (n : ℕ) × (site : WorldClient) × (slice_get cs n ≡ Some site) × Has e (lives_of site.node.state)
unfolding present_lives
present_at [] e h = absurd h
present_at (x ∷ cs) e h = go (has_append (lives_of x.node.state) (present_lives cs) e h) (present_at cs e)
  where
    go : Has e (lives_of x.node.state) ⊎ Has e (present_lives cs) →
        (Has e (present_lives cs) → (n : ℕ) × (site : WorldClient) × (slice_get cs n ≡ Some site) × Has e (lives_of site.node.state)) →
        (n : ℕ) × (site : WorldClient) × (slice_get (x ∷ cs) n ≡ Some site) × Has e (lives_of site.node.state)
    go (inl i) f = (zero, x, refl, i)
    go (inr i) f = let z = f i in (suc z.0, z.1, z.2, z.3)

-- flush steps leave the log
pub flushes_log : (c : ClientId) (s : ClientState) (ss : List ServerId) (w : World) → (ev.flushes c s ss w).log ≡ w.log
unfolding ev.flushes
flushes_log c s [] w = refl
flushes_log c s (y ∷ ss) w = flushes_log c s ss (ev.flushed_at w c y s) ∙ in_phase (cl.lease_end_with s y) (cl.phase_with s y (clock_of w (nodes.Client c)))
  where
    under : (o : Option Stamp) → (ev.flushed_under w c y o).log ≡ w.log
    under None = refl
    under (Some e) = refl

    in_phase : (o : Option Stamp) (p : Option Phase) → (ev.flushed_in w c y o p).log ≡ w.log
    in_phase o (Some phases.Flush) = under o
    in_phase o (Some phases.Valid) = refl
    in_phase o (Some phases.Renewal) = refl
    in_phase o (Some phases.Quiesce) = refl
    in_phase o (Some phases.Expired) = refl
    in_phase o None = refl

pub counted_admits : (w : World) (e : Event) → adm.refusal w e ≡ None → adm.refusal (counted w) e ≡ None
unfolding adm.refusal adm.refused_delivery adm.clocks_refused adm.flush_missed adm.refused_effect adm.refused_report world.node_of_place adm.missed_by
counted_admits w e z = z

pub says_both : (c : ClientId) (before : ClientState) (xs ys : List Output) (sc : WorldTurn) →
    client_says_all c before (xs ++ ys) sc ≡ client_says_all c before ys (client_says_all c before xs sc)
unfolding client_says_all
says_both c before [] ys sc = refl
says_both c before (x ∷ xs) ys sc = says_both c before xs ys (client_says sc c before x)

pub stands_not : (b : Bool) (r : WorldRefusal) → stands b r ≡ None → b ≡ false
unfolding stands
stands_not true r e = cc
stands_not false r e = refl

pub site_there : (w : World) (c : ClientId) → 1 ≤ c.0 → c.0 ≤ length w.clients → (site : WorldClient) × (site_of w c ≡ Some site)
site_there w c a b = go c.0 a b
  where
    go : (n : ℕ) → 1 ≤ n → n ≤ length w.clients → (site : WorldClient) × (numbered w.clients n ≡ Some site)
    go zero a b = absurd (omega (arith, a))
    go (suc n) a b = get_there w.clients n (omega (arith, b))

pub can_step : (w : World) (k : NodeId) → adm.cannot_step w k ≡ None → is_running w k ≡ true
unfolding adm.stands
can_step w k e = go (is_running w k) e
  where
    go : (b : Bool) → option_or (adm.stands (not b) (refusals.NotRunning k)) (adm.net_full w) ≡ None → b ≡ true
    go true e = refl
    go false e = cc

pub no_excess : (w : World) (o : Option Excess) → drift_refused w o ≡ None → o ≡ None
no_excess w None e = refl
no_excess w (Some x) e = cc

-- the timers of the history move as the outputs say
pub recall_more : (w v : World) (xs : List Observation) (o : Observation) (h : History) → recall_all w v (xs ++ o ∷ []) h ≡ recall w v (recall_all w v xs h) o
unfolding recall_all
recall_more w v [] o h = refl
recall_more w v (x ∷ xs) o h = recall_more w v xs o (recall w v h x)

-- the event itself leaves the grants
pub remembered_grants : (w : World) (e : Event) (h : History) → (remember w e h).grants ≡ h.grants
unfolding remember
remembered_grants w (events.Crash (nodes.Server s)) h = refl
remembered_grants w (events.Crash (nodes.Client c)) h = refl
remembered_grants w (events.Start (nodes.Server s)) h = refl
remembered_grants w (events.Start (nodes.Client c)) h = refl
remembered_grants w e h = refl

-- clocks go on
listed_clocks_go_on : (ds : List ℕ) (ts : List Stamp) (n : ℕ) → (unwrap_or (slice_get ts n) (stamp 0)).0 ≤ (unwrap_or (slice_get (advanced ds ts) n) (stamp 0)).0
unfolding advanced
listed_clocks_go_on [] ts n = omega arith
listed_clocks_go_on (d ∷ ds) [] n = omega arith
listed_clocks_go_on (d ∷ ds) (t ∷ ts) zero = omega arith
listed_clocks_go_on (d ∷ ds) (t ∷ ts) (suc n) = listed_clocks_go_on ds ts n

pub clocks_go_on : (ds : List ℕ) (ts : List Stamp) (n : ℕ) → (unwrap_or (numbered ts n) (stamp 0)).0 ≤ (unwrap_or (numbered (advanced ds ts) n) (stamp 0)).0
clocks_go_on ds ts zero = omega arith
clocks_go_on ds ts (suc n) = listed_clocks_go_on ds ts n
