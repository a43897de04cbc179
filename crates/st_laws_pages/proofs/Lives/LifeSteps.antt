-- Lives through an advance, and a crash and a start of a client.
use Rattle.st_lemmas.proofs.Words
use Words.{◌≡◌, ℕ, ◌≤◌, Bool, true, false, not, List, [], ◌∷◌, ◌++◌, Option, Some, None, Ok, Err, refl, sym, ap, ◌∙◌, subst, arith, if◌then◌else◌, Result, map}
use Words.{zero, suc, ClientId, Stamp, ClientInput, LogEntry, StepRefusal, Carried, IssuedCommand, LeaseLife}
use Words.nodes
use Words.events
use Words.refusals
use Words.FlatLog as log
use Words.Client as cl
use Words.ClientState.{Association}
use Words.World as world
use Words.World.{World, WorldClient, numbered, site_of, clock_of}
use Words.Admissible as adm
use Words.Events as ev
use Words.Lists.{Has}
use Words.Lengths.{nothing_after}
use Words.Worlds.{stands_not}
use Rattle.st_rules.specs.declared.node.StepRefusal.TheVariants.{Crashed}
use Rattle.st_lemmas.proofs.Marks.{owners_harden, owners_drop}
use Rattle.st_laws_pages.specs.Disks.World.{LateStays}
use Rattle.st_laws_steps.specs.Client.Losses.{Fit}
use Rattle.st_laws_steps.specs.Lives.Lives.{Stepped, clock_in, NodeHolds, EndedHolds, AllKnown, owner_of, LivesHold}
use Rattle.st_laws_pages.proofs.Disks.Effects.{or_none}
use Rattle.st_laws_pages.proofs.Disks.Moves.{advanced_get, clock_up}
use Rattle.st_laws_steps.proofs.Client.Stepping.{step_lives}
use Rattle.st_laws_pages.proofs.Lives.NodeTurns.{turned_lives, turned_all}
use Rattle.st_laws_pages.proofs.Lives.Turning.{crash_turned, start_turned, lives_by}
use Rattle.st_laws_pages.proofs.Lives.Lasting.{client_stays}

-- A client's node that runs takes an input.
pub steps_so : (w : World) (c : ClientId) (old site : WorldClient) (input : ClientInput) → site_of w c ≡ Some old → old.node ≡ site.node → LivesHold w →
    Stepped (clock_of w (nodes.Client c)) c old.node.state (cl.node_turn site.node (cl.client_step site.node.state (clock_of w (nodes.Client c)) input)).node.state (cl.client_step site.node.state (clock_of w (nodes.Client c)) input).out
steps_so w c old site input there same h =
    subst (λ (n : cl.ClientNode). Stepped now c n.state (cl.client_step site.node.state now input).state (cl.client_step site.node.state now input).out) (sym same)
    (step_lives c site.node.state now input (subst (λ (n : cl.ClientNode). (a : Association) → Has a n.state.associations → Fit a) same (h.lives.sites c old there).fit))
  where
    now : Stamp
    now = clock_of w (nodes.Client c)

-- what was late stays late, however the node's step ends
abbrev pub StaysLate : World → ClientId → WorldClient → Result cl.NodeTurn StepRefusal → Type 0
StaysLate w c site r = LateStays w (ev.client_took w c site r).world

pub takes_stays : (w : World) (c : ClientId) (input : ClientInput) (old site : WorldClient) → site_of w c ≡ Some old → old.node ≡ site.node → LivesHold w → StaysLate w c site (cl.node_step site.node (clock_of w (nodes.Client c)) input)
unfolding cl.node_step ev.client_took
takes_stays w c input old site there same h = go site.node.running
  where
    t : cl.NodeTurn
    t = cl.node_turn site.node (cl.client_step site.node.state (clock_of w (nodes.Client c)) input)

    go : (b : Bool) → StaysLate w c site (if b then Ok t else Err Crashed)
    go true = client_stays w c old site t there same (steps_so w c old site input there same h) h
    go false = λ k x i z. z

-- Fates.
pub same_owners : (w : World) (es : List LogEntry) → map owner_of es ≡ map owner_of w.log → AllKnown w.clients w.ended w.commands (map owner_of w.log) → AllKnown w.clients w.ended w.commands (map owner_of es)
same_owners w es q k = subst (AllKnown w.clients w.ended w.commands) (sym q) k

pub owners_hard : (es : List LogEntry) (x : Option Carried) → map owner_of (ev.log_hard es x) ≡ map owner_of es
unfolding log.harden log.harden_at
owners_hard es None = refl
owners_hard es (Some x) = go (log.entry_at es x.index)
  where
    go : (o : Option LogEntry) → map owner_of (log.harden_at es x.index o) ≡ map owner_of es
    go None = refl
    go (Some e) = owners_harden 1 x.index e.of es

pub owners_ended : (cs : List IssuedCommand) (ls : List LeaseLife) (es : List LogEntry) → map owner_of (ev.log_ended_all cs ls es) ≡ map owner_of es
unfolding ev.log_ended_all ev.log_ended log.drop_picked
owners_ended cs [] es = refl
owners_ended cs (l ∷ ls) es = owners_ended cs ls (ev.log_ended cs l es) ∙ owners_drop 1 (ev.is_of_life_over l) (ev.cause_at_end cs l) es

-- Advance: clocks go on.
pub advance_lives : (w : World) (steps : List ℕ) → LivesHold w → LivesHold (ev.advances w steps).world
unfolding ev.advances ev.marks
advance_lives w steps h =
    record { lives = record { sites = λ c site e. node c site (h.lives.sites c site e); ends = λ e i. ended e (h.lives.ends e i) }; known = same_owners w (ev.log_ended_all w.commands (ev.lives_reached w steps) w.log) (owners_ended w.commands (ev.lives_reached w steps) w.log) h.known }
  where
    ticks : (n : ℕ) (t : Stamp) → numbered w.clocks n ≡ Some t → (u : Stamp) × (numbered (ev.advanced steps w.clocks) n ≡ Some u)
    ticks zero t e = cc
    ticks (suc n) t e = (_, advanced_get steps w.clocks n t e)

    node : (c : ClientId) (site : WorldClient) → NodeHolds w.config w.clocks w.ended c site.node → NodeHolds w.config (ev.advanced steps w.clocks) w.ended c site.node
    node c site o = let z = ticks c.0 o.clock o.ticks in record { id = o.id; config = o.config; once = o.once; fit = o.fit; stopped = o.stopped; born = o.born; clock = z.0; ticks = z.1; below = o.below }

    ended : (e : LeaseLife) → EndedHolds w.clocks w.clients w.ended e → EndedHolds (ev.advanced steps w.clocks) w.clients w.ended e
    ended e o = record { site = o.site; there = o.there; born = o.born; self = o.self; over = λ q. let z = o.over q in (z.0, z.1, up z.0 z.2) }
      where
        up : (t : Stamp) → t.0 ≤ (clock_in w.clocks e.client).0 → t.0 ≤ (clock_in (ev.advanced steps w.clocks) e.client).0
        up t z = let y = clock_up w steps e.client in omega (arith, z, y)

-- Crash and start of a client.
pub runs_is : (w : World) (c : ClientId) (site : WorldClient) → site_of w c ≡ Some site → adm.refusal w (events.Crash (nodes.Client c)) ≡ None → site.node.running ≡ true
unfolding adm.refusal
runs_is w c site e r = go site.node.running refl
  where
    go : (b : Bool) → site.node.running ≡ b → b ≡ true
    go true q = refl
    go false q =
        let z = or_none (adm.no_node w (nodes.Client c)) (adm.not_running w (nodes.Client c)) r in
        absurd (bad (world.is_running w (nodes.Client c)) (ap world.site_runs e ∙ q) (stands_not (not (world.is_running w (nodes.Client c))) (refusals.NotRunning (nodes.Client c)) z.1))
      where
        bad : (b : Bool) → b ≡ false → not b ≡ false → ⊥
        bad true u v = cc
        bad false u v = cc

pub stopped_is : (w : World) (c : ClientId) (site : WorldClient) → site_of w c ≡ Some site → adm.refusal w (events.Start (nodes.Client c)) ≡ None → site.node.running ≡ false
unfolding adm.refusal
stopped_is w c site e r =
    let z = or_none (adm.no_node w (nodes.Client c)) (adm.still_running w (nodes.Client c)) r in
    ap world.site_runs (sym e) ∙ stands_not (world.is_running w (nodes.Client c)) (refusals.Running (nodes.Client c)) z.1

pub crash_lives : (w : World) (c : ClientId) (site : WorldClient) → site_of w c ≡ Some site → site.node.running ≡ true → LivesHold w → LivesHold (ev.crashes_client w c (Some site)).world
unfolding ev.crashes_client ev.marks ev.log_crashed log.drop_picked
crash_lives w c site there r h =
    lives_by (ev.with_log (log.drop_from 1 (ev.is_of_crashed w c) (log.always Rattle.st_rules.specs.declared.log.Cause.TheVariants.Crash) w.log) (ev.with_site c (ev.stopped_site site) (ev.with_crashed_lives site w))) w.config w.clocks
    (world.with_numbered c.0 (ev.stopped_site site) w.clients) (w.ended ++ rows) refl refl refl refl
    (turned_lives Kind w.config w.clocks w.clients w.ended c site (ev.stopped_site site) (cl.crash_node site.node) rows there refl turned h.lives)
    (subst (AllKnown (world.with_numbered c.0 (ev.stopped_site site) w.clients) (w.ended ++ rows) w.commands) (sym (owners_drop 1 (ev.is_of_crashed w c) (log.always Rattle.st_rules.specs.declared.log.Cause.TheVariants.Crash) w.log))
    (turned_all Kind w.config w.clocks w.clients w.ended c site (ev.stopped_site site) (cl.crash_node site.node) rows there refl turned h.lives w.commands (map owner_of w.log) h.known))
  where
    node : NodeHolds w.config w.clocks w.ended c site.node
    node = h.lives.sites c site there

    rows : List LeaseLife
    rows = map ev.crashed_life (world.lives_of site.node.state)

    Kind : Association → Association → Type 0
    Kind a b = cl.crashed_association a ≡ b

    turned : Rattle.st_laws_pages.proofs.Lives.NodeTurns.Turned Kind w.clocks w.ended c site.node (cl.crash_node site.node) rows
    turned = crash_turned w.clocks w.ended c site.node w.config node r

pub start_lives : (w : World) (c : ClientId) (site : WorldClient) → site_of w c ≡ Some site → site.node.running ≡ false → LivesHold w → LivesHold (ev.starts_client w c (Some site))
unfolding ev.starts_client
start_lives w c site there r h =
    lives_by (ev.with_site c (ev.started_site site) w) w.config w.clocks (world.with_numbered c.0 (ev.started_site site) w.clients) (w.ended ++ []) refl refl refl (nothing_after w.ended)
    (turned_lives Kind w.config w.clocks w.clients w.ended c site (ev.started_site site) (cl.start_node site.node) [] there refl turned h.lives)
    (turned_all Kind w.config w.clocks w.clients w.ended c site (ev.started_site site) (cl.start_node site.node) [] there refl turned h.lives w.commands (map owner_of w.log) h.known)
  where
    node : NodeHolds w.config w.clocks w.ended c site.node
    node = h.lives.sites c site there

    Kind : Association → Association → Type 0
    Kind a b = cl.started_association a ≡ b

    turned : Rattle.st_laws_pages.proofs.Lives.NodeTurns.Turned Kind w.clocks w.ended c site.node (cl.start_node site.node) []
    turned = start_turned w.clocks w.ended c site.node w.config node r
