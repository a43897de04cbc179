-- Hard stays hard, over every run; and what an effect and a report do.
use Rattle.st_lemmas.proofs.Words
use Words.{Bool, true, false, List, [], ◌∷◌, Option, Some, None, Ok, Err, sym, ◌∙◌, subst, if◌then◌else◌, Result, Life, ClientId, ServerId}
use Words.{NodeId, Event, Message, Note, Output, ServerInput, ClientInput, LogEntry, Carried, IssuedCommand, LeaseLife, SentMessage, StepRefusal}
use Words.Client as cl
use Words.causes
use Words.nodes
use Words.events
use Words.notes
use Words.outputs
use Words.FlatLog as log
use Words.Disks as disks
use Words.World as world
use Words.World.{World, WorldClient, site_of}
use Words.Server.{ServerNode}
use Words.Events as ev
use Words.Events.{WorldTurn, happens}
use Words.Server as server
use Words.Safety.{HardStaysHard, steps}
use Words.Worlds.{flushes_log}
use Rattle.st_laws_refine.specs.Client.World.{logged, logged_one}
use Rattle.st_laws_refine.specs.Client.Law.{RunsKeepHard}
use Rattle.st_lemmas.proofs.Marks.{Kept_hard, hard_more, hard_same, hard_then, hard_harden, hard_drop}
use Rattle.st_lemmas.proofs.Steps.{step_happens, throughout_all}
use Rattle.st_laws_refine.proofs.Client.World.{told_all}

hard_carried : (es : List LogEntry) (x : Option Carried) → Kept_hard es (ev.log_hard es x)
unfolding log.harden log.harden_at
hard_carried es None = hard_same es
hard_carried es (Some x) = go (log.entry_at es x.index)
  where
    go : (o : Option LogEntry) → Kept_hard es (log.harden_at es x.index o)
    go None = hard_same es
    go (Some e) = hard_harden 1 x.index e.of es

hard_ended : (cs : List IssuedCommand) (ls : List LeaseLife) (es : List LogEntry) → Kept_hard es (ev.log_ended_all cs ls es)
unfolding ev.log_ended_all ev.log_ended log.drop_picked
hard_ended cs [] es = hard_same es
hard_ended cs (l ∷ ls) es = hard_then es (ev.log_ended cs l es) _ (hard_drop 1 (ev.is_of_life_over l) (ev.cause_at_end cs l) es) (hard_ended cs ls (ev.log_ended cs l es))

hard_logged_one : (c : ClientId) (lives : ServerId → Life) (o : Output) (es : List LogEntry) → Kept_hard es (logged_one c lives o es)
unfolding log.accept log.patch
hard_logged_one c lives (outputs.Note (notes.Accepted f p bytes)) es = hard_more es _
hard_logged_one c lives (outputs.Note (notes.Patched f p at bytes)) es = hard_more es _
hard_logged_one c lives (outputs.Note n) es = hard_same es
hard_logged_one c lives o es = hard_same es

hard_logged : (c : ClientId) (lives : ServerId → Life) (os : List Output) (es : List LogEntry) → Kept_hard es (logged c lives os es)
hard_logged c lives [] es = hard_same es
hard_logged c lives (o ∷ os) es = hard_then es (logged_one c lives o es) _ (hard_logged_one c lives o es) (hard_logged c lives os (logged_one c lives o es))

hard_client : (w : World) (c : ClientId) (input : ClientInput) (site : WorldClient) → Kept_hard w.log (ev.client_takes w c input site).world.log
unfolding ev.client_takes ev.client_took
hard_client w c input site = go (cl.node_step site.node (world.clock_of w (nodes.Client c)) input)
  where
    go : (r : Result cl.NodeTurn StepRefusal) → Kept_hard w.log (ev.client_took w c site r).world.log
    go (Err r) = hard_same w.log
    go (Ok t) =
        let v : World = ev.with_site c (ev.at_node t.node site) w in
        let sc : WorldTurn = ev.client_says_all c site.node.state t.out (ev.world_turn v []) in
        let d = told_all c site.node.state t.out (ev.world_turn v []) in
        subst (λ l. Kept_hard w.log l) (sym (flushes_log c t.node.state (world.all_servers sc.world) sc.world ∙ d.log)) (hard_logged c (ev.present_life v c) t.out w.log)

hard_at_client : (w : World) (c : ClientId) (input : ClientInput) (o : Option WorldClient) → Kept_hard w.log (ev.at_client w c input o).world.log
unfolding ev.at_client
hard_at_client w c input None = hard_same w.log
hard_at_client w c input (Some site) = hard_client w c input site

hard_server_says : (s : ServerId) (os : List Output) (sc : WorldTurn) → Kept_hard sc.world.log (ev.server_says_all s os sc).world.log
unfolding ev.server_says_all ev.server_says ev.server_notes ev.cuts ev.sends log.cut
hard_server_says s [] sc = hard_same sc.world.log
hard_server_says s (o ∷ os) sc = hard_then sc.world.log (ev.server_says sc s o).world.log _ (one o) (hard_server_says s os (ev.server_says sc s o))
  where
    noted : (n : Note) → Kept_hard sc.world.log (ev.server_notes sc s n).world.log
    noted (notes.CutDone f p) = hard_more sc.world.log _
    noted n = hard_same sc.world.log

    one : (o : Output) → Kept_hard sc.world.log (ev.server_says sc s o).world.log
    one (outputs.Note n) = noted n
    one o = hard_same sc.world.log

hard_at_server : (w : World) (s : ServerId) (input : ServerInput) (o : Option ServerNode) → Kept_hard w.log (ev.at_server w s input o).world.log
unfolding ev.at_server ev.server_takes ev.server_took
hard_at_server w s input None = hard_same w.log
hard_at_server w s input (Some node) = go (server.node_step node (world.clock_of w (nodes.Server s)) input)
  where
    go : (r : Result server.NodeTurn StepRefusal) → Kept_hard w.log (ev.server_took w s r).world.log
    go (Err r) = hard_same w.log
    go (Ok t) = hard_server_says s t.out (ev.quiet (ev.with_node s t.node w))

hard_happens : (w : World) (e : Event) → Kept_hard w.log (happens w e).world.log
unfolding happens ev.ticks ev.asks_at ev.delivers ev.delivers_to ev.loses_message ev.advances ev.marks ev.effects ev.reports_of ev.tells ev.tells_client ev.tells_site ev.crashes ev.crashes_client ev.crashes_server ev.log_crashed ev.starts ev.starts_client ev.starts_server log.drop_picked
hard_happens w (events.Tick (nodes.Client c)) = hard_at_client w c _ (site_of w c)
hard_happens w (events.Tick (nodes.Server s)) = hard_at_server w s _ (world.node_of w s)
hard_happens w (events.App c ask) = go (site_of w c)
  where
    go : (o : Option WorldClient) → Kept_hard w.log (ev.asks_at w c ask o).world.log
    go None = hard_same w.log
    go (Some site) = hard_client w c _ (ev.asked_once_more site)
hard_happens w (events.Deliver k) = go (world.message_of w k)
  where
    to : (m : Message) (n : NodeId) → Kept_hard w.log (ev.delivers_to w m n).world.log
    to m (nodes.Client c) = hard_at_client w c _ (site_of w c)
    to m (nodes.Server s) = hard_at_server w s _ (world.node_of w s)

    go : (o : Option SentMessage) → Kept_hard w.log (ev.delivers w o).world.log
    go None = hard_same w.log
    go (Some m) = to m.message (world.receiver_of m)
hard_happens w (events.Lose k) = go (world.message_of w k)
  where
    go : (o : Option SentMessage) → Kept_hard w.log (ev.loses_message w k o).log
    go None = hard_same w.log
    go (Some m) = hard_same w.log
hard_happens w (events.Cut from to) = hard_same w.log
hard_happens w (events.Heal from to) = hard_same w.log
hard_happens w (events.Advance steps) = hard_ended w.commands (ev.lives_reached w steps) w.log
hard_happens w (events.Effect k) = hard_carried w.log (ev.carried_by (world.issued_of w k))
hard_happens w (events.Report k ok) = go (world.issued_of w k)
  where
    v : World
    v = ev.with_disks (ev.disks_after w.disks (disks.done w.disks k ok)) w

    same : (x : IssuedCommand) (site : WorldClient) (b : Bool) → Kept_hard w.log (if b then ev.client_takes v x.client (ev.end_told v k ok x) site else ev.quiet v).world.log
    same x site true = hard_client v x.client (ev.end_told v k ok x) site
    same x site false = hard_same w.log

    told : (x : IssuedCommand) (o : Option WorldClient) → Kept_hard w.log (ev.tells_client v k ok x o).world.log
    told x None = hard_same w.log
    told x (Some site) = same x site (ev.is_same_instance x site)

    go : (o : Option IssuedCommand) → Kept_hard w.log (ev.tells v k ok o).world.log
    go None = hard_same w.log
    go (Some x) = told x (site_of v x.client)
hard_happens w (events.Crash (nodes.Client c)) = go (site_of w c)
  where
    go : (o : Option WorldClient) → Kept_hard w.log (ev.crashes_client w c o).world.log
    go None = hard_same w.log
    go (Some site) = hard_drop 1 (ev.is_of_crashed w c) (log.always causes.Crash) w.log
hard_happens w (events.Crash (nodes.Server s)) = go (world.node_of w s)
  where
    go : (o : Option ServerNode) → Kept_hard w.log (ev.crashes_server w s o).log
    go None = hard_same w.log
    go (Some node) = hard_same w.log
hard_happens w (events.Start (nodes.Client c)) = go (site_of w c)
  where
    go : (o : Option WorldClient) → Kept_hard w.log (ev.starts_client w c o).log
    go None = hard_same w.log
    go (Some site) = hard_same w.log
hard_happens w (events.Start (nodes.Server s)) = go (world.node_of w s)
  where
    go : (o : Option ServerNode) → Kept_hard w.log (ev.starts_server w s o).log
    go None = hard_same w.log
    go (Some node) = hard_same w.log

-- Hard stays hard, from every world and over every list of events
pub runs_keep_hard : RunsKeepHard
runs_keep_hard es t = throughout_all HardStaysHard (λ past t e sc f. subst (λ sc. Kept_hard t.world.log sc.world.log) (sym (step_happens t.world e sc f).1) (hard_happens (ev.counted t.world) e)) es [] t
