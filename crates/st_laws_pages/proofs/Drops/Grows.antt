-- Drops have a cause, through every event.
use Rattle.st_lemmas.proofs.Words
use Words.{◌≡◌, ℕ, Bool, true, false, List, [], ◌∷◌, ◌++◌, Option, Some, None, Ok, Err, refl, sym, subst, if◌then◌else◌, Result, list_all, ClientId, ServerId}
use Words.{Stamp, NodeId, Message, Event, Note, Output, Phase, ClientInput, ServerInput, LogEntry, Carried, StepRefusal, IssuedCommand, SentMessage}
use Words.nodes
use Words.events
use Words.notes
use Words.outputs
use Words.phases
use Words.FlatLog as log
use Words.Disks as disks
use Words.Client as cl
use Words.Server as server
use Words.ClientState.{ClientState}
use Words.World as world
use Words.Server.{ServerNode}
use Words.World.{World, WorldClient, site_of}
use Words.Events as ev
use Words.Events.{WorldTurn, client_says, client_says_all, client_notes}
use Words.Safety.{Step, has_cause}
use Rattle.st_laws_pages.specs.Drops.Causes.{CrashesKnown, CausesHold, FailedStay, CausesOwed, CrashSiteOwes}
use Rattle.st_laws_pages.proofs.Drops.Causes.{same_failed, caused_more, caused_last, caused_harden, crash_caused, crash_known, known_more, known_both}
use Rattle.st_laws_pages.proofs.Drops.Causes.{advance_causes}

-- the log gets entries that are not gone, or harder ones; the lives that ended get some that no crash ended
pub record Grows (w v : World) : Type 0 where
  pub logs : (past : List Step) (u : World) → list_all (has_cause past u) w.log ≡ true → list_all (has_cause past u) v.log ≡ true
  pub ends : (past : List Step) → CrashesKnown past w.ended → CrashesKnown past v.ended

stays : (w v : World) → v.log ≡ w.log → v.ended ≡ w.ended → Grows w v
stays w v a b = record { logs = λ past u h. subst (λ l. list_all (has_cause past u) l ≡ true) (sym a) h; ends = λ past k. subst (CrashesKnown past) (sym b) k }

behind : (u v w : World) → Grows u v → Grows v w → Grows u w
behind u v w a b = record { logs = λ past x h. b.logs past x (a.logs past x h); ends = λ past k. b.ends past (a.ends past k) }

says_one : (c : ClientId) (before : ClientState) (o : Output) (sc : WorldTurn) → Grows sc.world (client_says sc c before o).world
unfolding client_says ev.sends ev.submits ev.answers_with client_notes ev.accepts ev.patches ev.loses log.accept log.patch
says_one c before (outputs.Send m) sc = stays sc.world _ refl refl
says_one c before (outputs.Answer op a) sc = stays sc.world _ refl refl
says_one c before (outputs.Submit n at what) sc = go (site_of sc.world c)
  where
    go : (o : Option WorldClient) → Grows sc.world (ev.submits sc c o n at what).world
    go None = stays sc.world _ refl refl
    go (Some site) = stays sc.world _ refl refl
says_one c before (outputs.Note n) sc = note n
  where
    note : (n : Note) → Grows sc.world (client_notes sc c before n).world
    note (notes.Accepted f p bytes) = record { logs = λ past u h. caused_last past u sc.world.log _ refl h; ends = λ past k. k }
    note (notes.Patched f p at bytes) = record { logs = λ past u h. caused_last past u sc.world.log _ refl h; ends = λ past k. k }
    note (notes.Lost s life) = record { logs = λ past u h. h; ends = λ past k. known_both past sc.world.ended _ k (record { one = λ q. absurd (no q); rest = record {} }) }
      where
        no : ◌≡◌ {A = Bool} false true → ⊥
        no q = cc
    note n = stays sc.world _ refl refl

says_all : (c : ClientId) (before : ClientState) (os : List Output) (sc : WorldTurn) → Grows sc.world (client_says_all c before os sc).world
unfolding client_says_all
says_all c before [] sc = stays sc.world _ refl refl
says_all c before (o ∷ os) sc = behind sc.world (client_says sc c before o).world _ (says_one c before o sc) (says_all c before os (client_says sc c before o))

flushes : (c : ClientId) (s : ClientState) (ss : List ServerId) (w : World) → Grows w (ev.flushes c s ss w)
unfolding ev.flushes
flushes c s [] w = stays w _ refl refl
flushes c s (x ∷ ss) w = behind w (ev.flushed_at w c x s) _ (in_phase (cl.lease_end_with s x) (cl.phase_with s x (world.clock_of w (nodes.Client c)))) (flushes c s ss (ev.flushed_at w c x s))
  where
    under : (o : Option Stamp) → Grows w (ev.flushed_under w c x o)
    under None = stays w _ refl refl
    under (Some e) = stays w _ refl refl

    in_phase : (o : Option Stamp) (p : Option Phase) → Grows w (ev.flushed_in w c x o p)
    in_phase o (Some phases.Flush) = under o
    in_phase o (Some phases.Valid) = stays w _ refl refl
    in_phase o (Some phases.Renewal) = stays w _ refl refl
    in_phase o (Some phases.Quiesce) = stays w _ refl refl
    in_phase o (Some phases.Expired) = stays w _ refl refl
    in_phase o None = stays w _ refl refl

client_grows : (w : World) (c : ClientId) (input : ClientInput) (site : WorldClient) → Grows w (ev.client_takes w c input site).world
unfolding ev.client_takes ev.client_took
client_grows w c input site = go (cl.node_step site.node (world.clock_of w (nodes.Client c)) input)
  where
    go : (r : Result cl.NodeTurn StepRefusal) → Grows w (ev.client_took w c site r).world
    go (Err e) = stays w _ refl refl
    go (Ok t) =
        let v : World = ev.with_site c (ev.at_node t.node site) w in
        let sc : WorldTurn = client_says_all c site.node.state t.out (ev.quiet v) in
        let a : Grows w v = stays w v refl refl in
        behind w v _ a (behind v sc.world _ (says_all c site.node.state t.out (ev.quiet v)) (flushes c t.node.state (world.all_servers sc.world) sc.world))

at_client : (w : World) (c : ClientId) (input : ClientInput) (o : Option WorldClient) → Grows w (ev.at_client w c input o).world
unfolding ev.at_client
at_client w c input None = stays w _ refl refl
at_client w c input (Some site) = client_grows w c input site

server_one : (s : ServerId) (o : Output) (sc : WorldTurn) → Grows sc.world (ev.server_says sc s o).world
unfolding ev.server_says ev.server_notes ev.cuts ev.sends log.cut
server_one s (outputs.Note n) sc = noted n
  where
    noted : (n : Note) → Grows sc.world (ev.server_notes sc s n).world
    noted (notes.CutDone f p) = record { logs = λ past u h. caused_last past u sc.world.log _ refl h; ends = λ past k. k }
    noted n = stays sc.world _ refl refl
server_one s o sc = stays sc.world _ refl refl

server_says : (s : ServerId) (os : List Output) (sc : WorldTurn) → Grows sc.world (ev.server_says_all s os sc).world
unfolding ev.server_says_all
server_says s [] sc = stays sc.world _ refl refl
server_says s (o ∷ os) sc = behind sc.world (ev.server_says sc s o).world _ (server_one s o sc) (server_says s os (ev.server_says sc s o))

at_server : (w : World) (s : ServerId) (input : ServerInput) (o : Option ServerNode) → Grows w (ev.at_server w s input o).world
unfolding ev.at_server ev.server_takes ev.server_took
at_server w s input None = stays w _ refl refl
at_server w s input (Some node) = go (server.node_step node (world.clock_of w (nodes.Server s)) input)
  where
    go : (r : Result server.NodeTurn StepRefusal) → Grows w (ev.server_took w s r).world
    go (Err e) = stays w _ refl refl
    go (Ok t) =
        let v : World = ev.with_node s t.node w in
        let a : Grows w v = stays w v refl refl in
        behind w v _ a (server_says s t.out (ev.quiet v))

hardened : (es : List LogEntry) (x : Option Carried) (past : List Step) (u : World) → list_all (has_cause past u) es ≡ true → list_all (has_cause past u) (ev.log_hard es x) ≡ true
unfolding log.harden log.harden_at
hardened es None past u h = h
hardened es (Some x) past u h = go (log.entry_at es x.index)
  where
    go : (o : Option LogEntry) → list_all (has_cause past u) (log.harden_at es x.index o) ≡ true
    go None = h
    go (Some e) = caused_harden past u 1 x.index e.of es h

-- all events but a client's crash and an advance
pub happens_grows : (w : World) (e : Event) → ((c : ClientId) → e ≡ events.Crash (nodes.Client c) → ⊥) → ((steps : List ℕ) → e ≡ events.Advance steps → ⊥) → Grows w (ev.happens w e).world
unfolding ev.happens ev.ticks ev.asks_at ev.delivers ev.delivers_to ev.loses_message ev.marks ev.effects ev.reports_of ev.tells ev.tells_client ev.tells_site ev.crashes ev.crashes_server ev.starts ev.starts_client ev.starts_server
happens_grows w (events.Tick (nodes.Client c)) nc na = at_client w c _ (site_of w c)
happens_grows w (events.Tick (nodes.Server s)) nc na = at_server w s _ (world.node_of w s)
happens_grows w (events.App c ask) nc na = go (site_of w c)
  where
    go : (o : Option WorldClient) → Grows w (ev.asks_at w c ask o).world
    go None = stays w _ refl refl
    go (Some site) = client_grows w c _ (ev.asked_once_more site)
happens_grows w (events.Deliver k) nc na = go (world.message_of w k)
  where
    to : (m : Message) (n : NodeId) → Grows w (ev.delivers_to w m n).world
    to m (nodes.Client c) = at_client w c _ (site_of w c)
    to m (nodes.Server s) = at_server w s _ (world.node_of w s)

    go : (o : Option SentMessage) → Grows w (ev.delivers w o).world
    go None = stays w _ refl refl
    go (Some m) = to m.message (world.receiver_of m)
happens_grows w (events.Lose k) nc na = go (world.message_of w k)
  where
    go : (o : Option SentMessage) → Grows w (ev.loses_message w k o)
    go None = stays w _ refl refl
    go (Some m) = stays w _ refl refl
happens_grows w (events.Cut from to) nc na = stays w _ refl refl
happens_grows w (events.Heal from to) nc na = stays w _ refl refl
happens_grows w (events.Advance steps) nc na = absurd (na steps refl)
happens_grows w (events.Effect k) nc na = record { logs = λ past u h. hardened w.log (ev.carried_by (world.issued_of w k)) past u h; ends = λ past h. h }
happens_grows w (events.Report k ok) nc na = go (world.issued_of w k)
  where
    v : World
    v = ev.with_disks (ev.disks_after w.disks (disks.done w.disks k ok)) w

    first : Grows w v
    first = stays w v refl refl

    same : (x : IssuedCommand) (site : WorldClient) (b : Bool) → Grows w (if b then ev.client_takes v x.client (ev.end_told v k ok x) site else ev.quiet v).world
    same x site true = behind w v _ first (client_grows v x.client (ev.end_told v k ok x) site)
    same x site false = first

    told : (x : IssuedCommand) (o : Option WorldClient) → Grows w (ev.tells_client v k ok x o).world
    told x None = first
    told x (Some site) = same x site (ev.is_same_instance x site)

    go : (o : Option IssuedCommand) → Grows w (ev.tells v k ok o).world
    go None = first
    go (Some x) = told x (site_of v x.client)
happens_grows w (events.Crash (nodes.Client c)) nc na = absurd (nc c refl)
happens_grows w (events.Crash (nodes.Server s)) nc na = go (world.node_of w s)
  where
    go : (o : Option ServerNode) → Grows w (ev.crashes_server w s o)
    go None = stays w _ refl refl
    go (Some node) = stays w _ refl refl
happens_grows w (events.Start (nodes.Client c)) nc na = go (site_of w c)
  where
    go : (o : Option WorldClient) → Grows w (ev.starts_client w c o)
    go None = stays w _ refl refl
    go (Some site) = stays w _ refl refl
happens_grows w (events.Start (nodes.Server s)) nc na = go (world.node_of w s)
  where
    go : (o : Option ServerNode) → Grows w (ev.starts_server w s o)
    go None = stays w _ refl refl
    go (Some node) = stays w _ refl refl

grown : (past : List Step) (x : Step) (w v : World) → Grows w v → FailedStay w.commands v.commands w.log → CausesHold past w → CausesHold (past ++ x ∷ []) v
grown past x w v g f h = record { caused = g.logs (past ++ x ∷ []) v (caused_more past x w v w.log f h.caused); crashes = g.ends (past ++ x ∷ []) (known_more past x w.ended h.crashes) }

pub happens_causes : (past : List Step) (x : Step) (w : World) (e : Event) → x.event ≡ e → ((k : ClientId) (s : ServerId) → ev.present_life x.before.world k s ≡ ev.present_life w k s) → CausesOwed past w e (ev.happens w e).world → CausesHold past w → CausesHold (past ++ x ∷ []) (ev.happens w e).world
unfolding ev.happens ev.crashes ev.crashes_client
happens_causes past x w (events.Advance steps) q b o h = advance_causes past x w steps o h
happens_causes past x w (events.Crash (nodes.Client c)) q b o h = go (site_of w c) o
  where
    none : CausesHold (past ++ x ∷ []) (ev.crashes_client w c None).world
    none = grown past x w w (stays w w refl refl) (same_failed w.commands w.log) h

    go : (s : Option WorldClient) → CrashSiteOwes w c s → CausesHold (past ++ x ∷ []) (ev.crashes_client w c s).world
    go None o = none
    go (Some site) o = record { caused = crash_caused past x w c site q b o.pending h; crashes = crash_known past x w c site q b o.lives h.crashes }
happens_causes past x w (events.Crash (nodes.Server s)) q b o h = grown past x w _ (happens_grows w (events.Crash (nodes.Server s)) (λ c e. cc) (λ c e. cc)) o h
happens_causes past x w (events.Tick n) q b o h = grown past x w _ (happens_grows w (events.Tick n) (λ c e. cc) (λ c e. cc)) o h
happens_causes past x w (events.App c ask) q b o h = grown past x w _ (happens_grows w (events.App c ask) (λ c e. cc) (λ c e. cc)) o h
happens_causes past x w (events.Deliver k) q b o h = grown past x w _ (happens_grows w (events.Deliver k) (λ c e. cc) (λ c e. cc)) o h
happens_causes past x w (events.Lose k) q b o h = grown past x w _ (happens_grows w (events.Lose k) (λ c e. cc) (λ c e. cc)) o h
happens_causes past x w (events.Cut from to) q b o h = grown past x w _ (happens_grows w (events.Cut from to) (λ c e. cc) (λ c e. cc)) o h
happens_causes past x w (events.Heal from to) q b o h = grown past x w _ (happens_grows w (events.Heal from to) (λ c e. cc) (λ c e. cc)) o h
happens_causes past x w (events.Effect k) q b o h = grown past x w _ (happens_grows w (events.Effect k) (λ c e. cc) (λ c e. cc)) o h
happens_causes past x w (events.Report k ok) q b o h = grown past x w _ (happens_grows w (events.Report k ok) (λ c e. cc) (λ c e. cc)) o h
happens_causes past x w (events.Start n) q b o h = grown past x w _ (happens_grows w (events.Start n) (λ c e. cc) (λ c e. cc)) o h
