-- Who cuts: each cut that an event logs is of a server that runs, because of a message of the world.
use Rattle.st_lemmas.proofs.Words
use Words.{◌≡◌, ℕ, ◌+◌, ◌⊎◌, Bool, true, false, List, [], ◌∷◌, ◌++◌, Option, Some, None, Ok, Err, refl, sym, ap, ◌∙◌, subst, inl, inr, if◌then◌else◌, Result}
use Words.{length, ClientId, ServerId, NodeId, Message, Event, Note, Output, ServerInput, ClientInput, Fate, LogEntry, StepRefusal, Observation, IssuedCommand}
use Words.{SentMessage, FileId, PageNo}
use Words.nodes
use Words.events
use Words.notes
use Words.outputs
use Words.serving
use Words.fates
use Words.Disks as disks
use Words.Client as cl
use Words.ClientState.{ClientState}
use Words.Server as server
use Words.Server.{ServerNode, server_step}
use Words.World as world
use Words.World.{World, WorldClient, site_of, node_of, issued_of, clock_of, numbered}
use Words.Events as ev
use Words.Events.{WorldTurn, world_step}
use Words.Lists.{Has}
use Words.seen
use Words.Numbers.{numbered_has, numbered_own}
use Words.Tables.{has_append, has_map_in}
use Rattle.st_rules.specs.declared.node.StepRefusal.TheVariants.{Crashed}
use Rattle.st_lemmas.proofs.Steps.{step_happens}
use Rattle.st_laws_leases.specs.Dates.Dates.{message_in, messages}
use Rattle.st_laws_refine.proofs.Server.Delivery.{all_parts}
use Rattle.st_laws_extents.specs.CutRequests.Cut.{CutIn, Unmoved}
use Rattle.st_laws_extents.proofs.CutRequests.Cutting.{step_cuts, tick_cuts}

-- what is observed of cuts
abbrev Known : (FileId → PageNo → Type 0) → List Observation → Type 0
Known P os = (index : ℕ) (f : FileId) (p : PageNo) → Has (seen.CutAt index f p) os → P f p

pub none : (P : FileId → PageNo → Type 0) → Known P []
none P index f p h = absurd h

one_more : (P : FileId → PageNo → Type 0) (os : List Observation) (o : Observation) → ((index : ℕ) (f : FileId) (p : PageNo) → seen.CutAt index f p ≡ o → P f p) → Known P os → Known P (os ++ o ∷ [])
one_more P os o k h index f p i = go (has_append os (o ∷ []) (seen.CutAt index f p) i)
  where
    go : Has (seen.CutAt index f p) os ⊎ Has (seen.CutAt index f p) (o ∷ []) → P f p
    go (inl j) = h index f p j
    go (inr (inl e)) = k index f p e
    go (inr (inr j)) = absurd j

module _ (P : FileId → PageNo → Type 0) where
  abbrev pub K : WorldTurn → Type 0
  K sc = Known P sc.seen

  -- Nothing that a client does is a cut.
  client_one : (c : ClientId) (before : ClientState) (o : Output) (sc : WorldTurn) → K sc → K (ev.client_says sc c before o)
  unfolding ev.client_says ev.sends ev.submits ev.answers_with ev.client_notes ev.accepts ev.patches ev.loses
  client_one c before (outputs.Send m) sc h = one_more P sc.seen _ (λ i f p e. cc e) h
  client_one c before (outputs.Answer op a) sc h = one_more P sc.seen _ (λ i f p e. cc e) h
  client_one c before (outputs.Submit number at what) sc h = go (site_of sc.world c)
    where
      go : (o : Option WorldClient) → K (ev.submits sc c o number at what)
      go None = h
      go (Some site) = one_more P sc.seen _ (λ i f p e. cc e) h
  client_one c before (outputs.Note n) sc h = note n
    where
      note : (n : Note) → K (ev.client_notes sc c before n)
      note (notes.Leased s end) = one_more P sc.seen _ (λ i f p e. cc e) h
      note (notes.Lost s life) = one_more P sc.seen _ (λ i f p e. cc e) h
      note (notes.Accepted f p bytes) = one_more P sc.seen _ (λ i f p e. cc e) h
      note (notes.Patched f p at bytes) = one_more P sc.seen _ (λ i f p e. cc e) h
      note n = h

  client_all : (c : ClientId) (before : ClientState) (os : List Output) (sc : WorldTurn) → K sc → K (ev.client_says_all c before os sc)
  unfolding ev.client_says_all
  client_all c before [] sc h = h
  client_all c before (o ∷ os) sc h = client_all c before os (ev.client_says sc c before o) (client_one c before o sc h)

  -- marks of the log
  marks : (n : ℕ) (es fs : List LogEntry) → Known P (ev.fates_from n es fs)
  unfolding ev.fates_from
  marks n [] fs = none P
  marks n (e ∷ es) [] = none P
  marks n (e ∷ es) (f ∷ fs) = go e.fate f.fate (marks (n + 1) es fs)
    where
      cons : (o : Observation) → ((index : ℕ) (f : FileId) (p : PageNo) → seen.CutAt index f p ≡ o → P f p) → Known P (ev.fates_from (n + 1) es fs) → Known P (o ∷ ev.fates_from (n + 1) es fs)
      cons o k r index f p (inl e) = k index f p e
      cons o k r index f p (inr i) = r index f p i

      go : (x y : Fate) → Known P (ev.fates_from (n + 1) es fs) → Known P (ev.fate_seen n x y ++ ev.fates_from (n + 1) es fs)
      go fates.Pending fates.Hard r = cons _ (λ i f p e. cc e) r
      go fates.Pending (fates.Gone cause) r = cons _ (λ i f p e. cc e) r
      go fates.Pending fates.Pending r = r
      go fates.Hard y r = r
      go (fates.Gone cause) y r = r

  quiet : (v : World) → K (ev.quiet v)
  quiet v = none P

  client_takes : (w : World) (c : ClientId) (input : ClientInput) (site : WorldClient) → K (ev.client_takes w c input site)
  unfolding ev.client_takes ev.client_took
  client_takes w c input site = go (cl.node_step site.node (clock_of w (nodes.Client c)) input)
    where
      go : (r : Result cl.NodeTurn StepRefusal) → K (ev.client_took w c site r)
      go (Err r) = quiet w
      go (Ok t) = client_all c site.node.state t.out (ev.quiet (ev.with_site c (ev.at_node t.node site) w)) (none P)

  at_client : (w : World) (c : ClientId) (input : ClientInput) (o : Option WorldClient) → K (ev.at_client w c input o)
  unfolding ev.at_client
  at_client w c input None = quiet w
  at_client w c input (Some site) = client_takes w c input site

  -- A server's step.
  server_one : (s : ServerId) (o : Output) (sc : WorldTurn) → ((f : FileId) (p : PageNo) → outputs.Note (notes.CutDone f p) ≡ o → P f p) → K sc → K (ev.server_says sc s o)
  unfolding ev.server_says ev.server_notes ev.cuts ev.sends
  server_one s (outputs.Send m) sc c h = one_more P sc.seen _ (λ i f p e. cc e) h
  server_one s (outputs.Note x) sc c h = note x c
    where
      note : (x : Note) → ((f : FileId) (p : PageNo) → outputs.Note (notes.CutDone f p) ≡ outputs.Note x → P f p) → K (ev.server_notes sc s x)
      note (notes.Suspected d start) c = one_more P sc.seen _ (λ i f p e. cc e) h
      note (notes.Stolen d life) c = one_more P sc.seen _ (λ i f p e. cc e) h
      note (notes.CutDone g q) c = one_more P sc.seen _ (λ i f p e. c f p (same i (length sc.world.log + 1) f g p q e)) h
        where
          same : (i j : ℕ) (f g : FileId) (p q : PageNo) → seen.CutAt i f p ≡ seen.CutAt j g q → ◌≡◌ {A = Output} (outputs.Note (notes.CutDone f p)) (outputs.Note (notes.CutDone g q))
          same i j f g p q e = cc
      note x c = h
  server_one s o sc c h = h

  pub server_all : (s : ServerId) (os : List Output) (sc : WorldTurn) → ((f : FileId) (p : PageNo) → Has (outputs.Note (notes.CutDone f p)) os → P f p) → K sc → K (ev.server_says_all s os sc)
  unfolding ev.server_says_all
  server_all s [] sc c h = h
  server_all s (o ∷ os) sc c h = server_all s os (ev.server_says sc s o) (λ f p i. c f p (inr i)) (server_one s o sc (λ f p e. c f p (inl e)) h)

-- an event that delivers a message to a server, with this input
pub record Delivery (w : World) (e : Event) (s : ServerId) (input : ServerInput) : Type 0 where
  pub index : ℕ
  pub delivers : e ≡ events.Deliver index
  pub sent : SentMessage
  pub is_sent : world.message_of w index ≡ Some sent
  pub receiver : world.receiver_of sent ≡ nodes.Server s
  pub comes : input ≡ serving.Control sent.message

-- an event that is the step of a server, in which it notes this cut
pub record ServedStep (w : World) (e : Event) (sc : WorldTurn) (f : FileId) (p : PageNo) : Type 0 where
  pub who : ServerId
  pub node : ServerNode
  pub there : node_of w who ≡ Some node
  pub running : node.running ≡ true
  pub input : ServerInput
  pub delivery : Delivery w e who input
  pub start : WorldTurn
  pub empty : start.seen ≡ []
  pub is : sc ≡ ev.server_says_all who (server_step node.state (clock_of w (nodes.Server who)) input).out start
  pub noted : Has (outputs.Note (notes.CutDone f p)) (server_step node.state (clock_of w (nodes.Server who)) input).out
  pub left : node_of sc.world who ≡ Some (server.node_turn node (server_step node.state (clock_of w (nodes.Server who)) input)).node

-- each cut that is observed is of a server, in a step that leaves the clients and the clocks
abbrev CutThere : World → Event → WorldTurn → Type 0
CutThere w e sc = Known (λ f p. CutIn w f p × Unmoved w sc.world × ServedStep w e sc f p) sc.seen

-- Every event.
module _ (w : World) where
  at_server : (e : Event) (s : ServerId) (input : ServerInput) (o : Option ServerNode) → node_of w s ≡ o →
      ((n : ServerNode) → o ≡ Some n → n.running ≡ true → (f : FileId) (p : PageNo) → Has (outputs.Note (notes.CutDone f p)) (server_step n.state (clock_of w (nodes.Server s)) input).out → CutIn w f p × Delivery w e s input) → CutThere w e (ev.at_server w s input o)
  unfolding ev.at_server ev.server_takes ev.server_took server.node_step
  at_server e s input None q k = quiet _ w
  at_server e s input (Some node) q k = go node.running refl
    where
      t : server.ServerTurn
      t = server.server_step node.state (clock_of w (nodes.Server s)) input

      last : WorldTurn
      last = ev.server_says_all s t.out (ev.quiet (ev.with_node s (server.node_turn node t).node w))

      go : (x : Bool) → node.running ≡ x → CutThere w e (ev.server_took w s (if x then Ok (server.node_turn node t) else Err Crashed))
      go false r = quiet _ w
      go true r = server_all (λ f p. CutIn w f p × Unmoved w last.world × ServedStep w e last f p) s t.out (ev.quiet (ev.with_node s (server.node_turn node t).node w)) one (none _)
        where
          one : (f : FileId) (p : PageNo) → Has (outputs.Note (notes.CutDone f p)) t.out → CutIn w f p × Unmoved w last.world × ServedStep w e last f p
          one f p h =
              let z = k node refl r f p h in
              let y = all_parts s t.out (ev.quiet (ev.with_node s (server.node_turn node t).node w)) in
              (z.0, record { clients = y.clients; clocks = y.clocks }, record { who = s; node = node; there = q; running = r; input = input; delivery = z.1; start = ev.quiet (ev.with_node s (server.node_turn node t).node w); empty = refl; is = refl; noted = h; left = ap (λ z. numbered z s.0) y.servers ∙ numbered_own w.servers s.0 (server.node_turn node t).node node q })

  module _ (ids : (s : ServerId) (n : ServerNode) → node_of w s ≡ Some n → n.state.id ≡ s) where
    by_message : (s : ServerId) (m : Message) → Has m (messages w) → (n : ServerNode) → node_of w s ≡ Some n → n.running ≡ true → (f : FileId) (p : PageNo) →
        Has (outputs.Note (notes.CutDone f p)) (server_step n.state (clock_of w (nodes.Server s)) (serving.Control m)).out → CutIn w f p
    by_message s m among n at run f p h =
        let c = step_cuts n.state (clock_of w (nodes.Server s)) m f p h in
        record { node = n; there = ap (node_of w) (c.server ∙ ids s n at) ∙ at; running = run; message = m; among = among; by = c }

    happens : (e : Event) → CutThere w e (ev.happens w e)
    unfolding ev.happens ev.ticks ev.asks_at ev.delivers ev.delivers_to ev.loses_message ev.advances ev.marks ev.effects ev.reports_of ev.tells ev.tells_client ev.tells_site ev.crashes ev.crashes_client ev.crashes_server ev.starts ev.starts_client ev.starts_server
    happens (events.Tick (nodes.Client c)) = at_client _ w c _ (site_of w c)
    happens (events.Tick (nodes.Server s)) = at_server (events.Tick (nodes.Server s)) s serving.Tick (node_of w s) refl (λ n e run f p h. absurd (tick_cuts n.state (clock_of w (nodes.Server s)) f p h))
    happens (events.App c ask) = go (site_of w c)
      where
        go : (x : Option WorldClient) → CutThere w (events.App c ask) (ev.asks_at w c ask x)
        go None = quiet _ w
        go (Some site) = client_takes _ w c _ (ev.asked_once_more site)
    happens (events.Deliver k) = go (world.message_of w k) refl
      where
        to : (m : SentMessage) → world.message_of w k ≡ Some m → (n : NodeId) → world.receiver_of m ≡ n → CutThere w (events.Deliver k) (ev.delivers_to w m.message n)
        to m q (nodes.Client c) r = at_client _ w c _ (site_of w c)
        to m q (nodes.Server s) r =
            at_server (events.Deliver k) s (serving.Control m.message) (node_of w s) refl (λ n e run f p h. (by_message s m.message (has_map_in message_in w.net.messages m (numbered_has w.net.messages k m q)) n e run f p h, record { index = k; delivers = refl; sent = m; is_sent = q; receiver = r; comes = refl }))

        go : (m : Option SentMessage) → world.message_of w k ≡ m → CutThere w (events.Deliver k) (ev.delivers w m)
        go None q = quiet _ w
        go (Some m) q = to m q (world.receiver_of m) refl
    happens (events.Lose k) = quiet _ (ev.loses_message w k (world.message_of w k))
    happens (events.Cut from to) = quiet _ (ev.with_cut from to w)
    happens (events.Heal from to) = quiet _ (ev.without_cut from to w)
    happens (events.Advance steps) = marks _ 1 w.log _
    happens (events.Effect k) = marks _ 1 w.log _
    happens (events.Report k ok) = go (issued_of w k)
      where
        v : World
        v = ev.with_disks (ev.disks_after w.disks (disks.done w.disks k ok)) w

        same : (x : IssuedCommand) (site : WorldClient) (b : Bool) → CutThere w (events.Report k ok) (if b then ev.client_takes v x.client (ev.end_told v k ok x) site else ev.quiet v)
        same x site true = client_takes _ v x.client (ev.end_told v k ok x) site
        same x site false = quiet _ v

        told : (x : IssuedCommand) (s : Option WorldClient) → CutThere w (events.Report k ok) (ev.tells_client v k ok x s)
        told x None = quiet _ v
        told x (Some site) = same x site (ev.is_same_instance x site)

        go : (x : Option IssuedCommand) → CutThere w (events.Report k ok) (ev.tells v k ok x)
        go None = quiet _ v
        go (Some x) = told x (site_of v x.client)
    happens (events.Crash (nodes.Client c)) = go (site_of w c)
      where
        go : (x : Option WorldClient) → CutThere w (events.Crash (nodes.Client c)) (ev.crashes_client w c x)
        go None = quiet _ w
        go (Some site) = marks _ 1 w.log (ev.log_crashed w c)
    happens (events.Crash (nodes.Server s)) = quiet _ (ev.crashes_server w s (node_of w s))
    happens (events.Start (nodes.Client c)) = quiet _ (ev.starts_client w c (site_of w c))
    happens (events.Start (nodes.Server s)) = quiet _ (ev.starts_server w s (node_of w s))

-- Each cut that a step logs is of a server because of a message.
pub cuts_known : (w : World) (e : Event) (sc : WorldTurn) → ((s : ServerId) (n : ServerNode) → node_of w s ≡ Some n → n.state.id ≡ s) → world_step w e ≡ Ok sc → (index : ℕ) (f : FileId) (p : PageNo) → Has (seen.CutAt index f p) sc.seen → CutIn (ev.counted w) f p × Unmoved (ev.counted w) sc.world
cuts_known w e sc ids h index f p i =
    let z = step_happens w e sc h in let y = subst (λ (x : WorldTurn). CutThere (ev.counted w) e x) (sym z.1) (happens (ev.counted w) ids e) index f p i in (y.0, y.1)

-- and it is the step of that server
pub cuts_served : (w : World) (e : Event) (sc : WorldTurn) → ((s : ServerId) (n : ServerNode) → node_of w s ≡ Some n → n.state.id ≡ s) → world_step w e ≡ Ok sc → (index : ℕ) (f : FileId) (p : PageNo) → Has (seen.CutAt index f p) sc.seen → ServedStep (ev.counted w) e sc f p
cuts_served w e sc ids h index f p i = let z = step_happens w e sc h in (subst (λ (x : WorldTurn). CutThere (ev.counted w) e x) (sym z.1) (happens (ev.counted w) ids e) index f p i).2
