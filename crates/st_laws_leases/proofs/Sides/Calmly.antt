-- Thefts and conflicts are observed only at steps of servers.
use Rattle.st_lemmas.proofs.Words
use Words.{◌≡◌, ℕ, ◌+◌, Bool, true, false, List, [], ◌∷◌, Option, Some, None, Ok, Err, refl, sym, subst, inl, inr, if◌then◌else◌, list_all, ClientId, NodeId}
use Words.{ServerId, Ask, Message, ClientInput, Observation, IssuedCommand, SentMessage}
use Words.nodes
use Words.events
use Words.inputs
use Words.seen
use Words.Client as cl
use Words.Disks as disks
use Words.Events as ev
use Words.History.{Traced}
use Words.Safety.{is_late}
use Words.World as world
use Words.World.{World, WorldClient, clock_of, site_of}
use Words.Tables.{and_both}
use Rattle.st_rules.specs.declared.node.StepRefusal.TheVariants as refusals
use Rattle.st_laws_leases.proofs.Dates.SentMessages.{AllCalm, Calm, client_calm, fates_calm}

nothing : AllCalm []
nothing o h = elim h [ ]

-- no theft, so each theft is late
late_of : (t : Traced) (o : Observation) → Calm o → is_late t o ≡ true
late_of t (seen.Stolen s c life) k = elim k [ ]
late_of t o k = refl

pub late_all : (t : Traced) (os : List Observation) → AllCalm os → list_all (is_late t) os ≡ true
late_all t [] k = refl
late_all t (o ∷ os) k = and_both _ _ (late_of t o (k o (inl refl))) (late_all t os (λ x h. k x (inr h)))

-- a step of a client
takes_calm : (w : World) (c : ClientId) (input : ClientInput) (site : WorldClient) → AllCalm (ev.client_takes w c input site).seen
unfolding ev.client_takes ev.client_took cl.node_step
takes_calm w c input site = go site.node.running
  where
    t : cl.NodeTurn
    t = cl.node_turn site.node (cl.client_step site.node.state (clock_of w (nodes.Client c)) input)

    go : (b : Bool) → AllCalm (ev.client_took w c site (if b then Ok t else Err refusals.Crashed)).seen
    go true = client_calm c site.node.state t.out (ev.quiet (ev.with_site c (ev.at_node t.node site) w)) nothing
    go false = nothing

at_calm : (w : World) (c : ClientId) (input : ClientInput) (o : Option WorldClient) → AllCalm (ev.at_client w c input o).seen
unfolding ev.at_client
at_calm w c input None = nothing
at_calm w c input (Some site) = takes_calm w c input site

asks_calm : (w : World) (c : ClientId) (ask : Ask) (o : Option WorldClient) → AllCalm (ev.asks_at w c ask o).seen
unfolding ev.asks_at
asks_calm w c ask None = nothing
asks_calm w c ask (Some site) = takes_calm w c (inputs.App (site.asks + 1) ask) (ev.asked_once_more site)

report_calm : (w : World) (n : ℕ) (ok : Bool) → AllCalm (ev.reports_of w n ok).seen
unfolding ev.reports_of ev.tells ev.tells_client ev.tells_site
report_calm w n ok = go (world.issued_of w n)
  where
    v : World
    v = ev.with_disks (ev.disks_after w.disks (disks.done w.disks n ok)) w

    same : (x : IssuedCommand) (site : WorldClient) (b : Bool) → AllCalm (if b then ev.client_takes v x.client (ev.end_told v n ok x) site else ev.quiet v).seen
    same x site true = takes_calm v x.client (ev.end_told v n ok x) site
    same x site false = nothing

    at : (x : IssuedCommand) (o : Option WorldClient) → AllCalm (ev.tells_client v n ok x o).seen
    at x None = nothing
    at x (Some site) = same x site (ev.is_same_instance x site)

    go : (o : Option IssuedCommand) → AllCalm (ev.tells v n ok o).seen
    go None = nothing
    go (Some x) = at x (site_of w x.client)

crash_calm : (w : World) (c : ClientId) (o : Option WorldClient) → AllCalm (ev.crashes_client w c o).seen
unfolding ev.crashes_client ev.marks
crash_calm w c None = nothing
crash_calm w c (Some site) = fates_calm 1 w.log (ev.log_crashed w c)

-- a message that is delivered to a client
pub delivered_calm : (w : World) (m : Message) (c : ClientId) → AllCalm (ev.delivers_to w m (nodes.Client c)).seen
unfolding ev.delivers_to
delivered_calm w m c = at_calm w c (inputs.Control m) (site_of w c)

-- each other event that no server takes a step in
pub calm_tick : (w : World) (c : ClientId) → AllCalm (ev.happens w (events.Tick (nodes.Client c))).seen
unfolding ev.happens ev.ticks
calm_tick w c = at_calm w c inputs.Tick (site_of w c)

pub calm_ask : (w : World) (c : ClientId) (ask : Ask) → AllCalm (ev.happens w (events.App c ask)).seen
unfolding ev.happens
calm_ask w c ask = asks_calm w c ask (site_of w c)

pub calm_loss : (w : World) (n : ℕ) → AllCalm (ev.happens w (events.Lose n)).seen
unfolding ev.happens
calm_loss w n = nothing

pub calm_advance : (w : World) (steps : List ℕ) → AllCalm (ev.happens w (events.Advance steps)).seen
unfolding ev.happens ev.advances ev.marks
calm_advance w steps = fates_calm 1 w.log (ev.log_ended_all w.commands (ev.lives_reached w steps) w.log)

pub calm_effect : (w : World) (n : ℕ) → AllCalm (ev.happens w (events.Effect n)).seen
unfolding ev.happens ev.effects ev.marks
calm_effect w n = fates_calm 1 w.log (ev.log_hard w.log (ev.carried_by (world.issued_of w n)))

pub calm_report : (w : World) (n : ℕ) (ok : Bool) → AllCalm (ev.happens w (events.Report n ok)).seen
unfolding ev.happens
calm_report w n ok = report_calm w n ok

pub calm_link : (w : World) (a b : NodeId) → AllCalm (ev.happens w (events.Cut a b)).seen × AllCalm (ev.happens w (events.Heal a b)).seen
unfolding ev.happens
calm_link w a b = (nothing, nothing)

pub calm_crash : (w : World) (c : ClientId) → AllCalm (ev.happens w (events.Crash (nodes.Client c))).seen
unfolding ev.happens ev.crashes
calm_crash w c = crash_calm w c (site_of w c)

pub calm_stop : (w : World) (s : ServerId) → AllCalm (ev.happens w (events.Crash (nodes.Server s))).seen
unfolding ev.happens ev.crashes
calm_stop w s = nothing

pub calm_start : (w : World) (n : NodeId) → AllCalm (ev.happens w (events.Start n)).seen
unfolding ev.happens
calm_start w n = nothing

-- the delivery of a message to a client
pub client_receives : (w : World) (n : ℕ) (m : SentMessage) (c : ClientId) → world.message_of w n ≡ Some m → world.receiver_of m ≡ nodes.Client c → AllCalm (ev.happens (ev.counted w) (events.Deliver n)).seen
unfolding ev.happens ev.delivers
client_receives w n m c e f =
    subst (λ o. AllCalm (ev.delivers (ev.counted w) o).seen) (sym e)
    (subst (λ (x : NodeId). AllCalm (ev.delivers_to (ev.counted w) m.message x).seen) (sym f) (delivered_calm (ev.counted w) m.message c))
