-- What an event does to the names of servers, and to the trees of the volume.
use Rattle.std.proofs.Common.{◌≡◌, ◌⊎◌, ℕ, zero, suc, ◌+◌, arith, Bool, true, false, ◌&&◌, ◌==◌, List, [], ◌∷◌, ◌++◌, map, Option, Some, None, Ok, Err, refl, sym, ap, ◌∙◌, subst, inl, inr, if◌then◌else◌}
use Rattle.std.specs.Prelude.{find, option_map, pred, set, slice_get, Result}
use Rattle.std.proofs.lemmas.Bool.{eqb-true}
use Rattle.st_base.specs.declared.ids.ClientId.{ClientId}
use Rattle.st_base.specs.declared.ids.GrantNo.{GrantNo}
use Rattle.st_base.specs.declared.ids.PageNo.{PageNo}
use Rattle.st_base.specs.declared.ids.ServerId.{ServerId}
use Rattle.st_base.specs.declared.ids.Stamp.{Stamp}
use Rattle.st_base.specs.declared.ids.NodeId.{NodeId}
use Rattle.st_base.specs.declared.ids.NodeId.TheVariants as nodes
use Rattle.st_base.specs.declared.names.NameAsk.{NameAsk}
use Rattle.st_messages.specs.declared.ask.Ask.{Ask}
use Rattle.st_messages.specs.declared.ask.Ask.TheVariants as asks
use Rattle.st_messages.specs.declared.event.Event.{Event}
use Rattle.st_messages.specs.declared.event.Event.TheVariants as events
use Rattle.st_messages.specs.declared.message.Body.{Body}
use Rattle.st_messages.specs.declared.message.Body.TheVariants as bodies
use Rattle.st_messages.specs.declared.message.Message.{Message}
use Rattle.st_messages.specs.declared.message.NameOp.{NameOp}
use Rattle.st_messages.specs.declared.message.NameReply.{NameReply}
use Rattle.st_rules.specs.declared.client.ClientInput.{ClientInput}
use Rattle.st_rules.specs.declared.client.ClientInput.TheVariants as inputs
use Rattle.st_rules.specs.declared.input.ServerInput.{ServerInput}
use Rattle.st_rules.specs.declared.input.ServerInput.TheVariants as serving
use Rattle.st_rules.specs.declared.names.EntryRefusal.{EntryRefusal}
use Rattle.st_rules.specs.declared.node.StepRefusal.TheVariants.{Crashed}
use Rattle.st_rules.specs.declared.world.IssuedCommand.{IssuedCommand}
use Rattle.st_rules.specs.declared.world.SentMessage.{SentMessage}
use Rattle.st_base.specs.declared.names.NameRow.{NameRow}
use Rattle.st_rules.specs.Client as cl
use Rattle.st_rules.specs.ClientReplies.{name_answer}
use Rattle.st_rules.specs.ClientState.{ClientTurn}
use Rattle.st_rules.specs.Disks as disks
use Rattle.st_rules.specs.Events as ev
use Rattle.st_rules.specs.Events.{WorldTurn}
use Rattle.st_rules.specs.Names as names
use Rattle.st_rules.specs.Names.{Names}
use Rattle.st_rules.specs.Server as sv
use Rattle.st_rules.specs.Server.{Replied, ServerNode, ServerState, ServerTurn, Stable}
use Rattle.st_rules.specs.World as world
use Rattle.st_rules.specs.World.{World, WorldClient, clock_of, issued_of, message_of, node_of, receiver_of, site_of, with_numbered}
use Rattle.st_lemmas.specs.Lists.{Has}
use Rattle.st_lemmas.proofs.Numbers.{get_map, numbered_has}
use Rattle.st_lemmas.proofs.Tables.{and_right, and_true}
use Rattle.st_lemmas.proofs.Lengths.{set_same}
use Rattle.st_lemmas.proofs.Members.{has_set}
use Rattle.st_laws_pages.proofs.Asks.Says.{client_leaves, server_leaves}
use Rattle.st_laws_pages.proofs.Lives.Lasting.{flush_parts}
use Rattle.st_laws_cuts.specs.ServedRequests.{NamesBy}
use Rattle.st_laws_cuts.proofs.Naming.{step_names}
use Rattle.st_laws_volume.specs.Options.{OnSome}
use Rattle.st_laws_volume.specs.TreeNames.{IsSound, tree_of}
use Rattle.st_laws_volume.specs.Trees.{HasTreesOf, tree_at, trees_of}
use Rattle.st_laws_volume.specs.Witness.{Behind, does, does_at, is_behind, is_done_as, is_name_for, is_request_for, is_there, above_all, now_at, of_delivery, of_message, op_of, serves, takes_op, to_node, turn_of}
use Rattle.st_laws_volume.proofs.LogLines.{numbered_suc}
use Rattle.st_laws_volume.proofs.TreeServers.{ByReply, CutOf, IsOther, MadeOr, body_kind, name_sound, name_stays, named_by, named_for, stays_by}
use Rattle.st_laws_volume.proofs.TreeTurns.{control_stable, serves_name, serves_none, thefts_stable}
use Rattle.st_laws_volume.proofs.TreeSteps.{EffectOf, SameTrees, effect_taken, none_above}
use Rattle.st_volume.specs.declared.step.VolumeStep.{VolumeStep}
use Rattle.st_volume.specs.declared.step.VolumeStep.TheVariants as steps
use Rattle.st_volume.specs.Pages.{is_any}
use Rattle.st_volume.specs.Trees as trees
use Rattle.st_volume.specs.Trees.{Made, Tree}
use Rattle.st_volume.specs.Volume as volume
use Rattle.st_volume.specs.Volume.{Pending, Volume, run}

map_set : {A B : Type 0} (f : A → B) (xs : List A) (n : ℕ) (x : A) → map f (set xs n x) ≡ set (map f xs) n (f x)
map_set f [] n x = refl
map_set f (y ∷ xs) zero x = refl
map_set f (y ∷ xs) (suc n) x = ap (λ ys. f y ∷ ys) (map_set f xs n x)

-- one that counts the same
pub put_same : {A B : Type 0} (f : A → B) (xs : List A) (n : ℕ) (x y : A) → world.numbered xs n ≡ Some x → f y ≡ f x → map f (with_numbered n y xs) ≡ map f xs
put_same f xs zero x y q e = cc
put_same f xs (suc n) x y q e =
    map_set f xs n y
    ∙ (ap (set (map f xs) n) e ∙ set_same (map f xs) n (f x) (get_map f xs n ∙ ap (option_map f) q))

-- Names of a server after a step.
pub names_node : (x y : ServerNode) → y.state.stable.names ≡ x.state.stable.names → tree_at y ≡ tree_at x
names_node x y e = ap tree_of e

abbrev pub node_after : ServerNode → Stamp → ServerInput → ServerNode
node_after node now i = record node { state = (sv.server_step node.state now i).state }

-- no message is for a name: they stay
other_names : (x : ServerState) (now : Stamp) (i : ServerInput) → ((m : Message) (op : NameOp) → i ≡ serving.Control m → m.body ≡ bodies.Name op → ⊥) →
    (sv.server_step x now i).state.stable.names ≡ x.stable.names
other_names x now i none = go (step_names x now i)
  where
    go : ((sv.server_step x now i).state.stable.names ≡ x.stable.names) ⊎
        ((m : Message) × (i ≡ serving.Control m) × NamesBy x m (sv.server_step x now i).state.stable.names) →
        (sv.server_step x now i).state.stable.names ≡ x.stable.names
    go (inl q) = q
    go (inr (m, e, b)) = absurd (none m b.op e b.body)

-- A step of a client leaves the servers.
client_servers : (v : World) (c : ClientId) (i : ClientInput) (site : WorldClient) → (ev.client_takes v c i site).world.servers ≡ v.servers
unfolding ev.client_takes ev.client_took cl.node_step
client_servers v c i site = go site.node.running
  where
    u : ClientTurn
    u = cl.client_step site.node.state (clock_of v (nodes.Client c)) i

    said : WorldTurn
    said = ev.client_says_all c site.node.state u.out (ev.quiet (ev.with_site c (ev.at_node (record site.node { state = u.state }) site) v))

    go : (b : Bool) → (ev.client_took v c site (if b then Ok (cl.node_turn site.node u) else Err Crashed)).world.servers ≡ v.servers
    go true =
        (flush_parts c u.state (world.all_servers said.world) said.world).servers
        ∙ (client_leaves c site.node.state u.out (ev.quiet (ev.with_site c (ev.at_node (record site.node { state = u.state }) site) v))).servers
    go false = refl

pub at_client_servers : (v : World) (c : ClientId) (i : ClientInput) (o : Option WorldClient) → (ev.at_client v c i o).world.servers ≡ v.servers
unfolding ev.at_client
at_client_servers v c i None = refl
at_client_servers v c i (Some site) = client_servers v c i site

-- A step of a server.
module _ (t : World) where
  -- the servers after a step of one that runs
  pub took_servers : (s : ServerId) (i : ServerInput) (node : ServerNode) → node.running ≡ true →
      (ev.server_takes (ev.counted t) s i node).world.servers ≡ with_numbered s.0 (node_after node (now_at t s) i) t.servers
  unfolding ev.server_takes ev.server_took sv.node_step
  took_servers s i node r =
      ap (λ b. (ev.server_took (ev.counted t) s (if b then Ok (sv.node_turn node (sv.server_step node.state (now_at t s) i)) else Err Crashed)).world.servers) r
      ∙ (server_leaves s (sv.server_step node.state (now_at t s) i).out (ev.quiet (ev.with_node s (node_after node (now_at t s) i) (ev.counted t)))).servers

  pub stopped_servers : (s : ServerId) (i : ServerInput) (node : ServerNode) → node.running ≡ false →
      (ev.server_takes (ev.counted t) s i node).world.servers ≡ t.servers
  unfolding ev.server_takes ev.server_took sv.node_step
  stopped_servers s i node r =
      ap (λ b. (ev.server_took (ev.counted t) s (if b then Ok (sv.node_turn node (sv.server_step node.state (now_at t s) i)) else Err Crashed)).world.servers) r

  pub report_servers : (k : ℕ) (ok : Bool) → (ev.reports_of (ev.counted t) k ok).world.servers ≡ t.servers
  unfolding ev.reports_of ev.tells ev.tells_client ev.tells_site
  report_servers k ok = go (issued_of t k)
    where
      v : World
      v = ev.with_disks (ev.disks_after t.disks (disks.done t.disks k ok)) (ev.counted t)

      same : (x : IssuedCommand) (site : WorldClient) (b : Bool) →
          (if b then ev.client_takes v x.client (ev.end_told v k ok x) site else ev.quiet v).world.servers ≡ t.servers
      same x site true = client_servers v x.client (ev.end_told v k ok x) site
      same x site false = refl

      at : (x : IssuedCommand) (o : Option WorldClient) → (ev.tells_client v k ok x o).world.servers ≡ t.servers
      at x None = refl
      at x (Some site) = same x site (ev.is_same_instance x site)

      go : (o : Option IssuedCommand) → (ev.tells v k ok o).world.servers ≡ t.servers
      go None = refl
      go (Some x) = at x (site_of t x.client)

  pub asks_servers : (c : ClientId) (ask : Ask) (o : Option WorldClient) → (ev.asks_at (ev.counted t) c ask o).world.servers ≡ t.servers
  unfolding ev.asks_at
  asks_servers c ask None = refl
  asks_servers c ask (Some site) = client_servers (ev.counted t) c (inputs.App (site.asks + 1) ask) (ev.asked_once_more site)

  pub crashes_client_servers : (c : ClientId) (o : Option WorldClient) → (ev.crashes_client (ev.counted t) c o).world.servers ≡ t.servers
  unfolding ev.crashes_client ev.marks
  crashes_client_servers c None = refl
  crashes_client_servers c (Some site) = refl

  pub starts_client_servers : (c : ClientId) (o : Option WorldClient) → (ev.starts_client (ev.counted t) c o).servers ≡ t.servers
  unfolding ev.starts_client
  starts_client_servers c None = refl
  starts_client_servers c (Some site) = refl

  pub loses_servers : (k : ℕ) (o : Option SentMessage) → (ev.loses_message (ev.counted t) k o).servers ≡ t.servers
  unfolding ev.loses_message
  loses_servers k None = refl
  loses_servers k (Some m) = refl

-- Events other than deliveries leave what is seen of the names.
abbrev pub is_delivery : Event → Bool
is_delivery (events.Deliver k) = true
is_delivery e = false

module _ (A : Type 0) (f : ServerNode → A) (kept : (x y : ServerNode) → y.state.stable.names ≡ x.state.stable.names → f y ≡ f x) (t : World) where
  abbrev Same : World → Type 0
  Same u = map f u.servers ≡ map f t.servers

  pub steps_same : (s : ServerId) (i : ServerInput) (node : ServerNode) → node_of t s ≡ Some node →
      (sv.server_step node.state (now_at t s) i).state.stable.names ≡ node.state.stable.names → Same (ev.server_takes (ev.counted t) s i node).world
  steps_same s i node at e = go node.running refl
    where
      go : (b : Bool) → node.running ≡ b → Same (ev.server_takes (ev.counted t) s i node).world
      go true r =
          ap (map f) (took_servers t s i node r)
          ∙ put_same f t.servers s.0 node (node_after node (now_at t s) i) at (kept node (node_after node (now_at t s) i) e)
      go false r = ap (map f) (stopped_servers t s i node r)

  tick_same : (s : ServerId) (o : Option ServerNode) → node_of t s ≡ o → Same (ev.at_server (ev.counted t) s serving.Tick o).world
  unfolding ev.at_server
  tick_same s None at = refl
  tick_same s (Some node) at = steps_same s serving.Tick node at (other_names node.state (now_at t s) serving.Tick (λ m op e b. none m e))
    where
      none : (m : Message) → serving.Tick ≡ serving.Control m → ⊥
      none m e = cc

  put_server : (s : ServerId) (node after : ServerNode) → node_of t s ≡ Some node → after.state.stable.names ≡ node.state.stable.names →
      Same (ev.with_node s after (ev.counted t))
  put_server s node after at e = put_same f t.servers s.0 node after at (kept node after e)

  crash_same : (s : ServerId) (o : Option ServerNode) → node_of t s ≡ o → Same (ev.crashes_server (ev.counted t) s o)
  unfolding ev.crashes_server sv.crash
  crash_same s None at = refl
  crash_same s (Some node) at = put_server s node (sv.crash_node node) at refl

  start_same : (s : ServerId) (o : Option ServerNode) → node_of t s ≡ o → Same (ev.starts_server (ev.counted t) s o)
  unfolding ev.starts_server sv.start sv.begin_epoch
  start_same s None at = refl
  start_same s (Some node) at = put_server s node (sv.start_node node (clock_of (ev.counted t) (nodes.Server s))) at refl

  pub event_same : (e : Event) → is_delivery e ≡ false → Same (ev.happens (ev.counted t) e).world
  unfolding ev.happens ev.ticks ev.crashes ev.starts ev.advances ev.effects ev.marks
  event_same (events.Tick (nodes.Client c)) q = ap (map f) (at_client_servers (ev.counted t) c inputs.Tick (site_of t c))
  event_same (events.Tick (nodes.Server s)) q = tick_same s (node_of t s) refl
  event_same (events.App c ask) q = ap (map f) (asks_servers t c ask (site_of t c))
  event_same (events.Deliver k) q = cc
  event_same (events.Lose k) q = ap (map f) (loses_servers t k (message_of t k))
  event_same (events.Cut from to) q = refl
  event_same (events.Heal from to) q = refl
  event_same (events.Advance increments) q = refl
  event_same (events.Effect k) q = refl
  event_same (events.Report k ok) q = ap (map f) (report_servers t k ok)
  event_same (events.Crash (nodes.Client c)) q = ap (map f) (crashes_client_servers t c (site_of t c))
  event_same (events.Crash (nodes.Server s)) q = crash_same s (node_of t s) refl
  event_same (events.Start (nodes.Client c)) q = ap (map f) (starts_client_servers t c (site_of t c))
  event_same (events.Start (nodes.Server s)) q = start_same s (node_of t s) refl

abbrev pub AllSound : World → Type 0
AllSound w = (node : ServerNode) → Has node w.servers → IsSound node.state.stable.names

-- A message that comes to a server that is there.
module _ (t : World) (sound : AllSound t) (s : ServerId) (m : Message) (node : ServerNode) (at : node_of t s ≡ Some node) where
  abbrev Now : Stamp
  Now = now_at t s

  abbrev Turn : ServerTurn
  Turn = turn_of node Now

  abbrev Next : ServerNode
  Next = node_after node Now (serving.Control m)

  its_names : Turn.state.stable.names ≡ node.state.stable.names
  its_names = ap (λ (y : Stable). y.names) (thefts_stable node.state Now)

  old_sound : IsSound node.state.stable.names
  old_sound = sound node (numbered_has t.servers s.0 node at)

  its_sound : IsSound Turn.state.stable.names
  its_sound = subst IsSound (sym its_names) old_sound

  -- it isn't a request for a name
  other_same : ((op : NameOp) → m.body ≡ bodies.Name op → ⊥) → Next.state.stable.names ≡ node.state.stable.names
  other_same none = other_names node.state Now (serving.Control m) (λ x op e b. none op (ap (λ (y : Message). y.body) (same e) ∙ b))
    where
      same : {x : Message} → serving.Control m ≡ serving.Control x → m ≡ x
      same e = cc

  -- it is one
  module _ (op : NameOp) (is : m.body ≡ bodies.Name op) where
    abbrev Reply : Replied
    Reply = sv.name Turn m.header op

    body_is : (sv.receive Turn Now m.header m.body).state.stable ≡ (sv.receive Turn Now m.header (bodies.Name op)).state.stable
    body_is = ap (λ b. (sv.receive Turn Now m.header b).state.stable) is

    unserved : serves Turn m.header ≡ false → Next.state.stable.names ≡ node.state.stable.names
    unserved z = ap (λ (y : Stable). y.names) (control_stable node.state Now m ∙ (body_is ∙ serves_none Turn Now m.header op z)) ∙ its_names

    served : serves Turn m.header ≡ true → Next.state.stable.names ≡ Reply.turn.state.stable.names
    served z = ap (λ (y : Stable). y.names) (control_stable node.state Now m ∙ (body_is ∙ serves_name Turn Now m.header op z))

    done_is : does Turn Now m ≡ (serves Turn m.header && is_done_as (bodies.Name op) Reply.reply)
    unfolding sv.rule
    done_is = ap (λ b. serves Turn m.header && is_done_as b (sv.rule Turn Now m.header b).reply) is

    named_sound : IsSound Next.state.stable.names
    named_sound = go (serves Turn m.header) refl
      where
        go : (b : Bool) → serves Turn m.header ≡ b → IsSound Next.state.stable.names
        go true z = subst IsSound (sym (served z)) (name_sound Turn its_sound m.header op)
        go false z = subst IsSound (sym (unserved z)) old_sound

  next_sound : IsSound Next.state.stable.names
  next_sound = go (body_kind m.body)
    where
      other : ((op : NameOp) → m.body ≡ bodies.Name op → ⊥) → IsSound Next.state.stable.names
      other none = subst IsSound (sym (other_same none)) old_sound

      go : ((op : NameOp) × (m.body ≡ bodies.Name op)) ⊎ (CutOf m.body ⊎ IsOther m.body) → IsSound Next.state.stable.names
      go (inl (op, is)) = named_sound op is
      go (inr (inl c)) = other (λ op e. none (sym c.is ∙ e))
        where
          none : {ino : ℕ} {g : GrantNo} {from : PageNo} {op : NameOp} → bodies.Cut ino g from ≡ bodies.Name op → ⊥
          none q = cc
      go (inr (inr o)) = other o.name

  taken_sound : AllSound (ev.server_takes (ev.counted t) s (serving.Control m) node).world
  taken_sound x h = go node.running refl
    where
      put : (x ≡ Next) ⊎ Has x t.servers → IsSound x.state.stable.names
      put (inl e) = subst (λ (y : ServerNode). IsSound y.state.stable.names) (sym e) next_sound
      put (inr i) = sound x i

      go : (b : Bool) → node.running ≡ b → IsSound x.state.stable.names
      go true r = put (has_set t.servers (pred s.0) Next x (subst (Has x) (took_servers t s (serving.Control m) node r) h))
      go false r = sound x (subst (Has x) (stopped_servers t s (serving.Control m) node r) h)

pub delivered_sound : (t : World) → AllSound t → (k : ℕ) → AllSound (ev.happens (ev.counted t) (events.Deliver k)).world
unfolding ev.happens ev.delivers ev.delivers_to ev.at_server
delivered_sound t sound k = go (message_of t k)
  where
    there : (s : ServerId) (m : Message) (o : Option ServerNode) → node_of t s ≡ o → AllSound (ev.at_server (ev.counted t) s (serving.Control m) o).world
    there s m None at = sound
    there s m (Some node) at = taken_sound t sound s m node at

    to : (m : SentMessage) (n : NodeId) → AllSound (ev.delivers_to (ev.counted t) m.message n).world
    to m (nodes.Client c) = λ x h. sound x (subst (Has x) (at_client_servers (ev.counted t) c (inputs.Control m.message) (site_of t c)) h)
    to m (nodes.Server s) = there s m.message (node_of t s) refl

    go : (o : Option SentMessage) → AllSound (ev.delivers (ev.counted t) o).world
    go None = sound
    go (Some m) = to m (receiver_of m)

-- The volume at a delivery.
module _ (t : World) (sound : AllSound t) (bs : List Behind) (v : Volume) (agree : HasTreesOf t v) where
  abbrev SameTreesOf : WorldTurn → Type 0
  SameTreesOf sc = trees_of sc.world ≡ trees_of t

  abbrev Agrees : List VolumeStep → WorldTurn → Type 0
  Agrees its sc = OnSome (HasTreesOf sc.world) (run its v)

  nothing : (sc : WorldTurn) → SameTreesOf sc → Agrees [] sc
  unfolding run
  nothing sc e = agree ∙ sym e

  -- the tree of a server in the volume
  pub tree_there : (s : ServerId) (node : ServerNode) → node_of t s ≡ Some node → volume.tree_of v s ≡ Some (tree_at node)
  tree_there s node at = go s.0 at
    where
      go : (n : ℕ) → world.numbered t.servers n ≡ Some node → volume.numbered v.trees n ≡ Some (tree_at node)
      go zero q = cc
      go (suc n) q = numbered_suc v.trees n ∙ (ap (λ ts. slice_get ts n) agree ∙ (get_map tree_at t.servers n ∙ ap (option_map tree_at) q))

  -- no ask of the number that is named
  unknown : (P : Volume → Type 0) (c : ClientId) → OnSome P (run (steps.TakesEffect c (above_all (v.pending ++ v.orphans)) ∷ []) v)
  unknown P c =
      effect_taken P v c (above_all (v.pending ++ v.orphans))
      (λ a q u e. absurd (none (sym (none_above c (above_all (v.pending ++ v.orphans)) (v.pending ++ v.orphans) (omega arith)) ∙ q)))
    where
      none : {a : Pending} → None ≡ Some a → ⊥
      none q = cc

  -- an effect of the ask that led to the request, or of none
  behind_or_none : (P : Volume → Type 0) (s : ServerId) (m : Message) → ((a : Ask) (u : Volume) → is_request_for s m.body a ≡ true → EffectOf v a u → P u) →
      OnSome P (run (takes_op bs v s m ∷ []) v)
  behind_or_none P s m h = found (find (is_behind s m.header) bs)
    where
      matched : (op : ℕ) (b : Bool) → is_there v s m op ≡ b →
          OnSome P (run (steps.TakesEffect (sv.sender m.header) (if b then op else above_all (v.pending ++ v.orphans)) ∷ []) v)
      matched op false q = unknown P (sv.sender m.header)
      matched op true q =
          effect_taken P v (sv.sender m.header) op
          (λ a f u e. h a.ask u (sym (ap (is_any (λ x. is_request_for s m.body x.ask)) f) ∙ q) e)

      found : (o : Option Behind) → OnSome P (run (steps.TakesEffect (sv.sender m.header) (op_of v s m o) ∷ []) v)
      found None = unknown P (sv.sender m.header)
      found (Some b) = matched b.op (is_there v s m b.op) refl

  module _ (s : ServerId) (m : Message) (node : ServerNode) (at : node_of t s ≡ Some node) where
    abbrev After : WorldTurn
    After = ev.server_takes (ev.counted t) s (serving.Control m) node

    abbrev emitted : Bool → List VolumeStep
    emitted b = if b then takes_op bs v s m ∷ [] else []

    stays : (node_after node (now_at t s) (serving.Control m)).state.stable.names ≡ node.state.stable.names → SameTreesOf After
    stays e = steps_same Tree tree_at names_node t s (serving.Control m) node at e

    -- an effect that leaves the trees
    leaves_trees : SameTreesOf After → ((a : Ask) (u : Volume) → is_request_for s m.body a ≡ true → EffectOf v a u → SameTrees v u) → (b : Bool) →
        Agrees (emitted b) After
    leaves_trees e h false = nothing After e
    leaves_trees e h true = behind_or_none (HasTreesOf After.world) s m (λ a u q k. h a u q k ∙ (agree ∙ sym e))

    cut_leaves : (a : Ask) (ino : ℕ) (g : GrantNo) (from : PageNo) (u : Volume) → is_request_for s (bodies.Cut ino g from) a ≡ true → EffectOf v a u →
        SameTrees v u
    cut_leaves (asks.Cut f p) ino g from u q e = e.0
    cut_leaves (asks.Write f p bytes) ino g from u q e = cc
    cut_leaves (asks.Patch f p x bytes) ino g from u q e = cc
    cut_leaves (asks.Read f p) ino g from u q e = cc
    cut_leaves (asks.Sync f) ino g from u q e = cc
    cut_leaves (asks.Name r ask) ino g from u q e = cc

    -- what the names became is what the ask makes of the tree
    module _ (op : NameOp) (is : m.body ≡ bodies.Name op) (run_ : node.running ≡ true) where
      abbrev T : ServerTurn
      T = turn_of node (now_at t s)

      abbrev R : Replied
      R = sv.name T m.header op

      named : serves T m.header ≡ true → is_done_as (bodies.Name op) R.reply ≡ true → (a : Ask) (u : Volume) → is_request_for s (bodies.Name op) a ≡ true →
          EffectOf v a u → HasTreesOf After.world u
      named z d (asks.Name x ask) u q k = by (and_true (x.0 == s.0) (is_name_for ask op) q)
        where
          made_is : is_name_for ask op ≡ true → k.0.tree ≡ tree_at node → (reply : NameReply) × (R.reply ≡ Some (bodies.Named reply)) →
              k.0.made.0 ≡ tree_of R.turn.state.stable.names
          made_is f g (reply, j) =
              (subst (λ o. MadeOr o (tree_of R.turn.state.stable.names) (name_answer reply))
              (ap (λ n. trees.does (tree_of n) ask) (its_names t sound s m node at) ∙ (ap (λ y. trees.does y ask) (sym g) ∙ k.0.did))
              (subst (λ y. ByReply T.state.stable.names ask R.turn.state.stable.names y) j (named_for T (its_sound t sound s m node at) m.header ask op f))).0

          one : {y z : Tree} → Some y ≡ Some z → y ≡ z
          one q = cc

          by : ((x.0 == s.0) ≡ true) × (is_name_for ask op ≡ true) → HasTreesOf After.world u
          by b =
              let e = eqb-true x.0 s.0 b.0 in
              let g = one (sym k.0.there ∙ (ap (volume.numbered v.trees) e ∙ tree_there s node at)) in
              k.0.trees
              ∙ (ap (λ n. set v.trees (pred n) k.0.made.0) e
              ∙ (ap (set v.trees (pred s.0)) (made_is b.1 g (named_by op R.reply d) ∙ ap tree_of (sym (served t sound s m node at op is z)))
              ∙ (ap (λ ts. set ts (pred s.0) (tree_at (node_after node (now_at t s) (serving.Control m)))) agree
              ∙ (sym (map_set tree_at t.servers (pred s.0) (node_after node (now_at t s) (serving.Control m)))
              ∙ ap (map tree_at) (sym (took_servers t s (serving.Control m) node run_))))))
      named z d (asks.Write f p bytes) u q k = cc
      named z d (asks.Patch f p x bytes) u q k = cc
      named z d (asks.Read f p) u q k = cc
      named z d (asks.Sync f) u q k = cc
      named z d (asks.Cut f p) u q k = cc

      by_name : Agrees (emitted (does T (now_at t s) m)) After
      by_name = subst (λ b. Agrees (emitted b) After) (sym (done_is t sound s m node at op is)) (go (serves T m.header) refl)
        where
          replied : serves T m.header ≡ true → (d : Bool) → is_done_as (bodies.Name op) R.reply ≡ d → Agrees (emitted d) After
          replied z true d = behind_or_none (HasTreesOf After.world) s m (λ a u q k. named z d a u (sym (ap (λ b. is_request_for s b a) is) ∙ q) k)
          replied z false d =
              nothing After
              (stays (served t sound s m node at op is z
              ∙ (stays_by op T.state.stable.names R.turn.state.stable.names R.reply (name_stays T m.header op) d ∙ its_names t sound s m node at)))

          go : (b : Bool) → serves T m.header ≡ b → Agrees (emitted (b && is_done_as (bodies.Name op) R.reply)) After
          go true z = replied z (is_done_as (bodies.Name op) R.reply) refl
          go false z = nothing After (stays (unserved t sound s m node at op is z))

    -- any message
    by_cut : CutOf m.body → Agrees (emitted (does (turn_of node (now_at t s)) (now_at t s) m)) After
    by_cut c =
        leaves_trees (stays (other_same t sound s m node at (λ op e. none (sym c.is ∙ e))))
        (λ a u q k. cut_leaves a c.ino c.g c.from u (sym (ap (λ b. is_request_for s b a) c.is) ∙ q) k) (does (turn_of node (now_at t s)) (now_at t s) m)
      where
        none : {op : NameOp} → bodies.Cut c.ino c.g c.from ≡ bodies.Name op → ⊥
        none q = cc

    by_body : node.running ≡ true → ((op : NameOp) × (m.body ≡ bodies.Name op)) ⊎ (CutOf m.body ⊎ IsOther m.body) →
        Agrees (emitted (does (turn_of node (now_at t s)) (now_at t s) m)) After
    by_body run_ (inl (op, is)) = by_name op is run_
    by_body run_ (inr (inl c)) = by_cut c
    by_body run_ (inr (inr o)) =
        let r = (sv.rule (turn_of node (now_at t s)) (now_at t s) m.header m.body).reply in
        subst (λ y. Agrees (emitted y) After) (sym (and_right (serves (turn_of node (now_at t s)) m.header) (is_done_as m.body r) (o.done r)))
        (nothing After (stays (other_same t sound s m node at o.name)))

    at_node : Agrees (emitted (node.running && does (turn_of node (now_at t s)) (now_at t s) m)) After
    at_node = go node.running refl
      where
        go : (b : Bool) → node.running ≡ b → Agrees (emitted (b && does (turn_of node (now_at t s)) (now_at t s) m)) After
        go true r = by_body r (body_kind m.body)
        go false r = nothing After (ap (map tree_at) (stopped_servers t s (serving.Control m) node r))

  delivered_to : (s : ServerId) (m : Message) (o : Option ServerNode) → node_of t s ≡ o →
      OnSome (HasTreesOf (ev.at_server (ev.counted t) s (serving.Control m) o).world) (run (if does_at t s o m then takes_op bs v s m ∷ [] else []) v)
  unfolding ev.at_server
  delivered_to s m None at = nothing (ev.quiet (ev.counted t)) refl
  delivered_to s m (Some node) at = at_node s m node at

  pub delivered : (k : ℕ) → Agrees (of_delivery bs v t (events.Deliver k)) (ev.happens (ev.counted t) (events.Deliver k))
  unfolding ev.happens ev.delivers ev.delivers_to
  delivered k = go (message_of t k)
    where
      to : (m : SentMessage) (n : NodeId) → Agrees (to_node bs v t m.message n) (ev.delivers_to (ev.counted t) m.message n)
      to m (nodes.Client c) =
          nothing (ev.at_client (ev.counted t) c (inputs.Control m.message) (site_of t c))
          (ap (map tree_at) (at_client_servers (ev.counted t) c (inputs.Control m.message) (site_of t c)))
      to m (nodes.Server s) = delivered_to s m.message (node_of t s) refl

      go : (o : Option SentMessage) → Agrees (of_message bs v t o) (ev.delivers (ev.counted t) o)
      go None = nothing (ev.quiet (ev.counted t)) refl
      go (Some m) = to m (receiver_of m)
