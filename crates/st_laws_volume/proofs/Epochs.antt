-- In every run the epochs of the volume are those of the servers.
use Rattle.std.proofs.Common.{◌≡◌, ◌≢◌, arith, ◌⊎◌, ℕ, zero, suc, ◌+◌, Bool, true, false, ◌==◌, List, [], ◌∷◌, ◌++◌, length, map, Option, Some, None, Ok, refl, sym, ap, ◌∙◌, subst, inl, inr, if◌then◌else◌}
use Rattle.std.specs.Prelude.{filter, option_map, pred, slice_get}
use Rattle.std.specs.List.{list_all}
use Rattle.std.proofs.lemmas.Bool.{eq-eqb, ne_eqb}
use Rattle.st_base.specs.declared.config.Config.{Config}
use Rattle.st_base.specs.declared.ids.ServerId.{ServerId}
use Rattle.st_base.specs.declared.ids.Epoch.{Epoch}
use Rattle.st_base.specs.declared.ids.NodeId.{NodeId}
use Rattle.st_base.specs.declared.ids.NodeId.TheVariants as nodes
use Rattle.st_base.specs.declared.ids.Stamp.{Stamp}
use Rattle.st_messages.specs.declared.event.Event.{Event}
use Rattle.st_messages.specs.declared.event.Event.TheVariants as events
use Rattle.st_messages.specs.declared.message.Body.{Body}
use Rattle.st_messages.specs.declared.message.Header.{Header}
use Rattle.st_messages.specs.declared.message.Message.{Message}
use Rattle.st_rules.specs.declared.client.ClientInput.TheVariants as inputs
use Rattle.st_rules.specs.declared.input.ServerInput.{ServerInput}
use Rattle.st_rules.specs.declared.input.ServerInput.TheVariants as serving
use Rattle.st_rules.specs.declared.world.Carried.{Carried}
use Rattle.st_rules.specs.declared.world.IssuedCommand.{IssuedCommand}
use Rattle.st_rules.specs.declared.world.SentMessage.{SentMessage}
use Rattle.st_rules.specs.Events as ev
use Rattle.st_rules.specs.Events.{WorldTurn, is_same_instance, world_step}
use Rattle.st_rules.specs.Extents.{numbers}
use Rattle.st_rules.specs.History.{Traced, traced}
use Rattle.st_rules.specs.Safety.{Promise, Step, step, steps}
use Rattle.st_rules.specs.Server as sv
use Rattle.st_rules.specs.Server.{ServerNode, ServerState, ServerTurn, Stable, fresh_server}
use Rattle.st_rules.specs.World as world
use Rattle.st_rules.specs.World.{World, WorldClient, clock_of, fresh_world, issued_of, message_of, node_at_start, node_of, numbered, receiver_of, site_of, with_numbered}
use Rattle.st_trace.specs.Server.Changing.{StableChange, Stays, Changes}
use Rattle.st_trace.specs.Server.Edits.{Served, Ruled, Tells, Acquires, Releases, Allocates, Cuts, Creates, MakesDir, Renames, RemovesDir, RemovesFile}
use Rattle.st_trace.proofs.Server.StableParts.{step_stable}
use Rattle.st_lemmas.proofs.Lookups.{if_false, if_true, some_is}
use Rattle.st_lemmas.proofs.Numbers.{get_map, numbered_below, numbered_other, numbered_own}
use Rattle.st_lemmas.proofs.Steps.{step_happens, throughout_all}
use Rattle.st_lemmas.proofs.Tables.{same_or_not}
use Rattle.st_laws_volume.specs.Epochs.{EpochsAgree, HasEpochsOf}
use Rattle.st_laws_volume.specs.Logs.{InEveryRun}
use Rattle.st_laws_volume.specs.Options.{OnSome}
use Rattle.st_laws_volume.specs.Seen.{failure, failure_of, failure_told, of_event}
use Rattle.st_laws_volume.specs.Witness.{Witness, begun, if_told, led_by, now_at, of_delivery, of_lines, steps_of, volume_after}
use Rattle.st_laws_volume.proofs.Carried.{IsKept, Led, carried}
use Rattle.st_laws_volume.proofs.EpochSteps.{inside_starts, run_starts, started_all, started_by}
use Rattle.st_laws_volume.proofs.StepKinds.{both_inside, delivery_inside, lines_inside}
use Rattle.st_laws_volume.proofs.Options.{on_if, on_more, on_then}
use Rattle.st_laws_volume.proofs.ReadPages.{throughout_more}
use Rattle.st_laws_volume.proofs.TreeWorld.{asks_servers, at_client_servers, crashes_client_servers, loses_servers, node_after, put_same, report_servers, starts_client_servers, stopped_servers, took_servers}
use Rattle.st_laws_volume.proofs.Trees.{Nothing}
use Rattle.st_volume.specs.declared.step.VolumeStep.{VolumeStep}
use Rattle.st_volume.specs.declared.step.VolumeStep.TheVariants as kinds
use Rattle.st_volume.specs.Volume.{Volume, epoch, run}

-- A step of a server leaves its epoch.
rule_epoch : (now : Stamp) (t : ServerTurn) (h : Header) (b : Body) (u : ServerTurn) (r : Body) → Ruled now t h b u r →
    u.state.stable.epoch ≡ t.state.stable.epoch
unfolding sv.cut_pages sv.cut_whole
rule_epoch now t h b u r (Tells _ _ x) = refl
rule_epoch now t h b u r (Acquires ino mode a f k g) = refl
rule_epoch now t h b u r (Releases ino g to x e f) = refl
rule_epoch now t h b u r (Allocates ino g p count x f q e) = refl
rule_epoch now t h b u r (Cuts ino g p f q) = refl
rule_epoch now t h b u r (Creates dir x d e) = refl
rule_epoch now t h b u r (MakesDir dir x d e) = refl
rule_epoch now t h b u r (Renames dir x dir2 x2 d e) = refl
rule_epoch now t h b u r (RemovesDir dir x g ino d l f z e s) = refl
rule_epoch now t h b u r (RemovesFile dir x g ino d l f q e s) = refl

step_epoch : (x : ServerState) (now : Stamp) (i : ServerInput) → (sv.server_step x now i).state.stable.epoch ≡ x.stable.epoch
step_epoch x now i = go _ (step_stable x now i)
  where
    go : (y : Stable) → StableChange x now i y → y.epoch ≡ x.stable.epoch
    go y Stays = refl
    go y (Changes m t u b s r) = rule_epoch now t m.header m.body u b r ∙ ap (λ (z : Stable). z.epoch) s.asked.heard.came.begun.stable

-- An event leaves the epochs, unless it starts a server.
abbrev epoch_at : ServerNode → Epoch
epoch_at node = node.state.stable.epoch

abbrev is_start : Event → Bool
is_start (events.Start (nodes.Server s)) = true
is_start e = false

module _ (t : World) where
  abbrev Same : World → Type 0
  Same u = map epoch_at u.servers ≡ map epoch_at t.servers

  taken_same : (s : ServerId) (i : ServerInput) (o : Option ServerNode) → node_of t s ≡ o → Same (ev.at_server (ev.counted t) s i o).world
  unfolding ev.at_server
  taken_same s i None at = refl
  taken_same s i (Some node) at = go node.running refl
    where
      go : (b : Bool) → node.running ≡ b → Same (ev.server_takes (ev.counted t) s i node).world
      go true r =
          ap (map epoch_at) (took_servers t s i node r)
          ∙ put_same epoch_at t.servers s.0 node (node_after node (now_at t s) i) at (step_epoch node.state (now_at t s) i)
      go false r = ap (map epoch_at) (stopped_servers t s i node r)

  crash_same : (s : ServerId) (o : Option ServerNode) → node_of t s ≡ o → Same (ev.crashes_server (ev.counted t) s o)
  unfolding ev.crashes_server sv.crash
  crash_same s None at = refl
  crash_same s (Some node) at = put_same epoch_at t.servers s.0 node (sv.crash_node node) at refl

  delivered_same : (k : ℕ) → Same (ev.delivers (ev.counted t) (message_of t k)).world
  unfolding ev.delivers ev.delivers_to
  delivered_same k = go (message_of t k)
    where
      to : (m : SentMessage) (n : NodeId) → Same (ev.delivers_to (ev.counted t) m.message n).world
      to m (nodes.Client c) = ap (map epoch_at) (at_client_servers (ev.counted t) c (inputs.Control m.message) (site_of t c))
      to m (nodes.Server s) = taken_same s (serving.Control m.message) (node_of t s) refl

      go : (o : Option SentMessage) → Same (ev.delivers (ev.counted t) o).world
      go None = refl
      go (Some m) = to m (receiver_of m)

  event_same : (e : Event) → is_start e ≡ false → Same (ev.happens (ev.counted t) e).world
  unfolding ev.happens ev.ticks ev.crashes ev.starts ev.advances ev.effects ev.marks
  event_same (events.Tick (nodes.Client c)) q = ap (map epoch_at) (at_client_servers (ev.counted t) c inputs.Tick (site_of t c))
  event_same (events.Tick (nodes.Server s)) q = taken_same s serving.Tick (node_of t s) refl
  event_same (events.App c ask) q = ap (map epoch_at) (asks_servers t c ask (site_of t c))
  event_same (events.Deliver k) q = delivered_same k
  event_same (events.Lose k) q = ap (map epoch_at) (loses_servers t k (message_of t k))
  event_same (events.Cut from to) q = refl
  event_same (events.Heal from to) q = refl
  event_same (events.Advance increments) q = refl
  event_same (events.Effect k) q = refl
  event_same (events.Report k ok) q = ap (map epoch_at) (report_servers t k ok)
  event_same (events.Crash (nodes.Client c)) q = ap (map epoch_at) (crashes_client_servers t c (site_of t c))
  event_same (events.Crash (nodes.Server s)) q = crash_same s (node_of t s) refl
  event_same (events.Start (nodes.Client c)) q = ap (map epoch_at) (starts_client_servers t c (site_of t c))
  event_same (events.Start (nodes.Server s)) q = cc

-- the same epochs, look-up by look-up
epochs_same : (t u : World) → map epoch_at u.servers ≡ map epoch_at t.servers → (v : Volume) → HasEpochsOf t v → HasEpochsOf u v
epochs_same t u e v h s node at = go s.0 refl at
  where
    old : (n : ℕ) → numbered u.servers n ≡ Some node → option_map epoch_at (numbered t.servers n) ≡ Some (epoch_at node)
    old zero q = cc
    old (suc n) q =
        sym (get_map epoch_at t.servers n) ∙ (ap (λ xs. slice_get xs n) (sym e) ∙ (get_map epoch_at u.servers n ∙ ap (option_map epoch_at) q))

    found : (o : Option ServerNode) → node_of t s ≡ o → option_map epoch_at o ≡ Some (epoch_at node) → epoch v s ≡ node.state.stable.epoch.0
    found None q r = cc
    found (Some x) q r = h s x q ∙ ap (λ (y : Epoch). y.0) (some_is r)

    go : (n : ℕ) → s.0 ≡ n → numbered u.servers n ≡ Some node → epoch v s ≡ node.state.stable.epoch.0
    go n q r = found (node_of t s) refl (ap (λ m. option_map epoch_at (numbered t.servers m)) q ∙ old n r)

-- What the steps of an event start.
unfoldable pub started : Event → List ServerId → List ServerId
started (events.Start (nodes.Server s)) xs = s ∷ xs
started e xs = xs

failure_starts : (k : IssuedCommand) (carries : Option Carried) (xs : List ServerId) → started_all (failure k carries ∷ []) xs ≡ xs
failure_starts k None xs = refl
failure_starts k (Some x) xs = refl

told_starts : (k : IssuedCommand) (site : Option WorldClient) (xs : List ServerId) → started_all (failure_told k site) xs ≡ xs
told_starts k None xs = refl
told_starts k (Some site) xs = go (is_same_instance k site)
  where
    go : (b : Bool) → started_all (if b then failure k k.carries ∷ [] else []) xs ≡ xs
    go true = failure_starts k k.carries xs
    go false = refl

failed_starts : (w : World) (k : Option IssuedCommand) (xs : List ServerId) → started_all (failure_of w k) xs ≡ xs
failed_starts w None xs = refl
failed_starts w (Some k) xs = told_starts k (site_of w k.client) xs

pub event_starts : (w : World) (e : Event) (xs : List ServerId) → started_all (of_event w e) xs ≡ started e xs
unfolding of_event started
event_starts w (events.Tick n) xs = refl
event_starts w (events.App c ask) xs = refl
event_starts w (events.Deliver k) xs = refl
event_starts w (events.Lose k) xs = refl
event_starts w (events.Cut from to) xs = refl
event_starts w (events.Heal from to) xs = refl
event_starts w (events.Advance increments) xs = refl
event_starts w (events.Effect k) xs = refl
event_starts w (events.Report k true) xs = refl
event_starts w (events.Report k false) xs = failed_starts w (issued_of w k) xs
event_starts w (events.Crash (nodes.Client c)) xs = refl
event_starts w (events.Crash (nodes.Server s)) xs = refl
event_starts w (events.Start (nodes.Client c)) xs = refl
event_starts w (events.Start (nodes.Server s)) xs = refl

both_starts : (xs ys : List VolumeStep) (zs : List ServerId) → started_all (xs ++ ys) zs ≡ started_all ys (started_all xs zs)
both_starts [] ys zs = refl
both_starts (x ∷ xs) ys zs = both_starts xs ys (started_by x zs)

steps_start : (it : Witness) (v : Volume) (x : Step) (xs : List ServerId) → started_all (steps_of it v x) xs ≡ started x.event xs
steps_start it v x xs =
    let w = x.before.world in
    both_starts (of_event w x.event) (of_delivery it.behind v w x.event ++ of_lines w x.seen) xs
    ∙ (inside_starts (of_delivery it.behind v w x.event ++ of_lines w x.seen) (started_all (of_event w x.event) xs)
    (both_inside (of_delivery it.behind v w x.event) (of_lines w x.seen) (delivery_inside it.behind v w x.event) (lines_inside w x.seen))
    ∙ event_starts w x.event xs)

-- A start is one more epoch of that server.
count_of : List ServerId → ServerId → ℕ
count_of xs s = length (filter (λ (r : ServerId). r.0 == s.0) xs)

own_count : (s r : ServerId) (xs : List ServerId) → s.0 ≡ r.0 → count_of (r ∷ xs) s ≡ suc (count_of xs s)
unfolding count_of
own_count s r xs q = ap (λ b. length (if b then r ∷ filter (λ (z : ServerId). z.0 == s.0) xs else filter (λ (z : ServerId). z.0 == s.0) xs))
    (eq-eqb r.0 s.0 (sym q))

other_count : (s r : ServerId) (xs : List ServerId) → s.0 ≢ r.0 → count_of (r ∷ xs) s ≡ count_of xs s
unfolding count_of
other_count s r xs q =
    ap (λ b. length (if b then r ∷ filter (λ (z : ServerId). z.0 == s.0) xs else filter (λ (z : ServerId). z.0 == s.0) xs)) (ne_eqb r.0 s.0 (λ e. q (sym e)))

start_epochs : (t : World) (r : ServerId) (v u : Volume) → u.starts ≡ r ∷ v.starts → HasEpochsOf t v → (o : Option ServerNode) → node_of t r ≡ o →
    HasEpochsOf (ev.starts_server (ev.counted t) r o) u
unfolding ev.starts_server sv.start sv.begin_epoch count_of
start_epochs t r v u q h None at s node there = go (same_or_not s.0 r.0)
  where
    go : (s.0 ≡ r.0) ⊎ (s.0 ≢ r.0) → epoch u s ≡ node.state.stable.epoch.0
    go (inl e) = none (sym there ∙ (ap (numbered t.servers) e ∙ at))
      where
        none : Some node ≡ None → epoch u s ≡ node.state.stable.epoch.0
        none q = cc
    go (inr n) = ap (λ xs. count_of xs s + 1) q ∙ (ap (λ k. k + 1) (other_count s r v.starts n) ∙ h s node there)
start_epochs t r v u q h (Some old) at s node there = go (same_or_not s.0 r.0)
  where
    after : ServerNode
    after = sv.start_node old (clock_of (ev.counted t) (nodes.Server r))

    up : (a b : ℕ) → a + 1 ≡ b → suc a + 1 ≡ b + 1
    up a b e = omega (arith, e)

    go : (s.0 ≡ r.0) ⊎ (s.0 ≢ r.0) → epoch u s ≡ node.state.stable.epoch.0
    go (inl e) =
        let own : after ≡ node = some_is (sym (numbered_own t.servers r.0 after old at) ∙ (ap (numbered (with_numbered r.0 after t.servers)) (sym e) ∙ there))
        in
        let was : epoch v s ≡ old.state.stable.epoch.0 = h s old (ap (numbered t.servers) e ∙ at) in
        ap (λ xs. count_of xs s + 1) q
        ∙ (ap (λ k. k + 1) (own_count s r v.starts e)
        ∙ (up (count_of v.starts s) old.state.stable.epoch.0 was ∙ ap (λ (y : ServerNode). y.state.stable.epoch.0) own))
    go (inr n) =
        ap (λ xs. count_of xs s + 1) q
        ∙ (ap (λ k. k + 1) (other_count s r v.starts n)
        ∙ h s node (sym (numbered_other t.servers r.0 s.0 after (numbered_below t.servers r.0 old at).0 n) ∙ there))

-- the same starts, and the same epochs of servers
plain : (t : World) (e : Event) (v u : Volume) → is_start e ≡ false → u.starts ≡ v.starts → HasEpochsOf t v → HasEpochsOf (ev.happens (ev.counted t) e).world u
plain t e v u i q h =
    epochs_same t (ev.happens (ev.counted t) e).world (event_same t e i) u
    (λ s node at. ap (λ xs. length (filter (λ (r : ServerId). r.0 == s.0) xs) + 1) q ∙ h s node at)

-- the volume's epochs after an event
after_epochs : (t : World) (e : Event) (v u : Volume) → u.starts ≡ started e v.starts → HasEpochsOf t v → HasEpochsOf (ev.happens (ev.counted t) e).world u
unfolding started ev.happens ev.starts
after_epochs t (events.Start (nodes.Server r)) v u q h = start_epochs t r v u q h (node_of t r) refl
after_epochs t (events.Start (nodes.Client c)) v u q h = plain t (events.Start (nodes.Client c)) v u refl q h
after_epochs t (events.Tick n) v u q h = plain t (events.Tick n) v u refl q h
after_epochs t (events.App c ask) v u q h = plain t (events.App c ask) v u refl q h
after_epochs t (events.Deliver k) v u q h = plain t (events.Deliver k) v u refl q h
after_epochs t (events.Lose k) v u q h = plain t (events.Lose k) v u refl q h
after_epochs t (events.Cut from to) v u q h = plain t (events.Cut from to) v u refl q h
after_epochs t (events.Heal from to) v u q h = plain t (events.Heal from to) v u refl q h
after_epochs t (events.Advance increments) v u q h = plain t (events.Advance increments) v u refl q h
after_epochs t (events.Effect k) v u q h = plain t (events.Effect k) v u refl q h
after_epochs t (events.Report k ok) v u q h = plain t (events.Report k ok) v u refl q h
after_epochs t (events.Crash n) v u q h = plain t (events.Crash n) v u refl q h

after_volume : (it : Witness) (t : Traced) (e : Event) (sc : WorldTurn) → world_step t.world e ≡ Ok sc → (o : Option Volume) → OnSome (HasEpochsOf t.world) o →
    OnSome (HasEpochsOf sc.world) (volume_after it (step t e sc) o)
after_volume it t e sc f None h = tt
after_volume it t e sc f (Some v) h =
    on_then (HasEpochsOf sc.world) if_told (run (steps_of it v (step t e sc)) v)
    (on_more (λ u. u.starts ≡ started_all (steps_of it v (step t e sc)) v.starts) (λ u. OnSome (HasEpochsOf sc.world) (if_told u))
    (λ u k. on_if (HasEpochsOf sc.world) (u.lines == length u.log) (Some u)
    (subst (λ (z : WorldTurn). HasEpochsOf z.world u) (sym (step_happens t.world e sc f).1)
    (after_epochs t.world e v u (k ∙ steps_start it v (step t e sc) v.starts) h)))
    (run (steps_of it v (step t e sc)) v) (run_starts (steps_of it v (step t e sc)) v))

-- What is carried.
abbrev pub EpochsHold : List Step → Traced → Witness → Type 0
EpochsHold past t it = OnSome (HasEpochsOf t.world) it.volume

pub epochs_kept : IsKept Nothing EpochsHold
unfolding led_by
epochs_kept past t e sc it f g h = after_volume it t e sc f it.volume h

fresh_epochs : (k : Config) (servers disks blocks from count n : ℕ) (node : ServerNode) →
    slice_get (map (node_at_start k servers disks blocks) (numbers from count)) n ≡ Some node → 1 ≡ node.state.stable.epoch.0
unfolding numbers fresh_server
fresh_epochs k servers disks blocks from zero n node q = cc
fresh_epochs k servers disks blocks from (suc count) zero node q = ap (λ (y : ServerNode). y.state.stable.epoch.0) (some_is q)
fresh_epochs k servers disks blocks from (suc count) (suc n) node q = fresh_epochs k servers disks blocks (from + 1) count n node q

pub epochs_begin : (k : Config) (clients servers disks blocks form : ℕ) →
    EpochsHold [] (traced (fresh_world k clients servers disks blocks form))
    (begun (fresh_world k clients servers disks blocks form) (fresh_world k clients servers disks blocks form))
unfolding fresh_world begun
epochs_begin k clients servers disks blocks form s node at = go s.0 at
  where
    go : (n : ℕ) → numbered (map (node_at_start k servers disks blocks) (numbers 1 servers)) n ≡ Some node → 1 ≡ node.state.stable.epoch.0
    go zero q = cc
    go (suc n) q = fresh_epochs k servers disks blocks 1 servers n node q

pub epochs_agree : InEveryRun EpochsAgree
epochs_agree k clients servers disks blocks form es head events =
    throughout_more (Led EpochsHold) EpochsAgree (λ past x h. h) [] (steps es (traced (fresh_world k clients servers disks blocks form)))
    (carried Nothing EpochsHold epochs_kept es (traced (fresh_world k clients servers disks blocks form)) (epochs_begin k clients servers disks blocks form)
    (throughout_all Nothing (λ past t e sc f. tt) es [] (traced (fresh_world k clients servers disks blocks form))))
