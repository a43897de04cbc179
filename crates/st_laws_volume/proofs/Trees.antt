-- In every run the trees of the volume are the names of the servers.
use Rattle.std.proofs.Common.{◌≡◌, ℕ, zero, suc, ◌+◌, ◌==◌, length, Bool, true, false, List, [], ◌∷◌, ◌++◌, map, Option, Some, None, Ok, refl, sym, ap, ◌∙◌, subst, if◌then◌else◌}
use Rattle.std.specs.List.{list_all}
use Rattle.st_base.specs.declared.config.Config.{Config}
use Rattle.st_base.specs.declared.ids.ServerId.{ServerId}
use Rattle.st_base.specs.declared.ids.NodeId.TheVariants as nodes
use Rattle.st_messages.specs.declared.event.Event.{Event}
use Rattle.st_messages.specs.declared.event.Event.TheVariants as events
use Rattle.st_rules.specs.declared.world.Carried.{Carried}
use Rattle.st_rules.specs.declared.world.IssuedCommand.{IssuedCommand}
use Rattle.st_rules.specs.Events as ev
use Rattle.st_rules.specs.Events.{WorldTurn, is_same_instance, world_step}
use Rattle.st_rules.specs.Extents.{numbers}
use Rattle.st_rules.specs.History.{Traced, traced}
use Rattle.st_rules.specs.Names as names
use Rattle.st_rules.specs.Names.{Names}
use Rattle.st_rules.specs.Safety.{Promise, Step, step, steps}
use Rattle.st_rules.specs.Server.{ServerNode, fresh_server}
use Rattle.st_rules.specs.World.{World, WorldClient, fresh_world, issued_of, node_at_start, server, site_of}
use Rattle.st_lemmas.specs.Lists.{Has}
use Rattle.st_lemmas.proofs.Steps.{step_happens, throughout_all}
use Rattle.st_lemmas.proofs.Tables.{has_map, has_map_in}
use Rattle.st_laws_volume.specs.Logs.{InEveryRun}
use Rattle.st_laws_volume.specs.Options.{OnSome}
use Rattle.st_laws_volume.specs.Seen.{failure, failure_of, failure_told, of_event}
use Rattle.st_laws_volume.specs.TreeNames.{IsSound}
use Rattle.st_laws_volume.specs.Trees.{HasTreesOf, TreesAgree, tree_at, trees_of}
use Rattle.st_laws_volume.specs.VolumeRuns.{size_of}
use Rattle.st_laws_volume.specs.Witness.{Behind, Witness, begun, if_told, led_by, of_delivery, of_lines, steps_of, volume_after}
use Rattle.st_laws_volume.proofs.Carried.{IsKept, Led, carried}
use Rattle.st_laws_volume.proofs.LogLines.{run_then}
use Rattle.st_laws_volume.proofs.Options.{on_if, on_more, on_then}
use Rattle.st_laws_volume.proofs.ReadPages.{throughout_more}
use Rattle.st_laws_volume.proofs.Start.{counted}
use Rattle.st_laws_volume.proofs.TreeSound.{stay_sound}
use Rattle.st_laws_volume.proofs.TreeSteps.{SameTrees, all_same, is_no_effect, lines_same}
use Rattle.st_laws_volume.proofs.TreeWorld.{AllSound, delivered, delivered_sound, event_same, is_delivery, names_node}
use Rattle.st_volume.specs.declared.step.VolumeStep.{VolumeStep}
use Rattle.st_volume.specs.declared.step.VolumeStep.TheVariants as volume_steps
use Rattle.st_volume.specs.Trees.{Tree, fresh_tree}
use Rattle.st_volume.specs.Volume.{Volume, run}

-- The event itself isn't an effect.
failure_is : (k : IssuedCommand) (carries : Option Carried) → list_all is_no_effect (failure k carries ∷ []) ≡ true
failure_is k None = refl
failure_is k (Some x) = refl

told_is : (k : IssuedCommand) (site : Option WorldClient) → list_all is_no_effect (failure_told k site) ≡ true
told_is k None = refl
told_is k (Some site) = go (is_same_instance k site)
  where
    go : (b : Bool) → list_all is_no_effect (if b then failure k k.carries ∷ [] else []) ≡ true
    go true = failure_is k k.carries
    go false = refl

failed_is : (w : World) (k : Option IssuedCommand) → list_all is_no_effect (failure_of w k) ≡ true
failed_is w None = refl
failed_is w (Some k) = told_is k (site_of w k.client)

pub event_is : (w : World) (e : Event) → list_all is_no_effect (of_event w e) ≡ true
unfolding of_event
event_is w (events.Tick n) = refl
event_is w (events.App c ask) = refl
event_is w (events.Deliver k) = refl
event_is w (events.Lose k) = refl
event_is w (events.Cut from to) = refl
event_is w (events.Heal from to) = refl
event_is w (events.Advance increments) = refl
event_is w (events.Effect k) = refl
event_is w (events.Report k true) = refl
event_is w (events.Report k false) = failed_is w (issued_of w k)
event_is w (events.Crash (nodes.Client c)) = refl
event_is w (events.Crash (nodes.Server s)) = refl
event_is w (events.Start (nodes.Client c)) = refl
event_is w (events.Start (nodes.Server s)) = refl

-- All steps of an event, if nothing is delivered.
pub no_delivery : (bs : List Behind) (v : Volume) (w : World) (e : Event) → is_delivery e ≡ false → of_delivery bs v w e ≡ []
no_delivery bs v w (events.Tick n) q = refl
no_delivery bs v w (events.App c ask) q = refl
no_delivery bs v w (events.Deliver k) q = cc
no_delivery bs v w (events.Lose k) q = refl
no_delivery bs v w (events.Cut from to) q = refl
no_delivery bs v w (events.Heal from to) q = refl
no_delivery bs v w (events.Advance increments) q = refl
no_delivery bs v w (events.Effect k) q = refl
no_delivery bs v w (events.Report k ok) q = refl
no_delivery bs v w (events.Crash n) q = refl
no_delivery bs v w (events.Start n) q = refl

module _ (it : Witness) (t : Traced) (e : Event) (sc : WorldTurn) (f : world_step t.world e ≡ Ok sc) where
  abbrev Happened : WorldTurn
  Happened = ev.happens (ev.counted t.world) e

  -- lines leave the trees
  lines_leave : (w : World) (z : Volume) → HasTreesOf w z → OnSome (HasTreesOf w) (run (of_lines t.world sc.seen) z)
  lines_leave w z h = on_more (SameTrees z) (HasTreesOf w) (λ u k. k ∙ h) (run (of_lines t.world sc.seen) z) (lines_same t.world sc.seen z)

  plain_event : is_delivery e ≡ false → (v : Volume) → HasTreesOf t.world v → OnSome (HasTreesOf Happened.world) (run (steps_of it v (step t e sc)) v)
  plain_event q v h =
      subst (λ xs. OnSome (HasTreesOf Happened.world) (run (of_event t.world e ++ (xs ++ of_lines t.world sc.seen)) v))
      (sym (no_delivery it.behind v t.world e q))
      (run_then (HasTreesOf Happened.world) (of_event t.world e) (of_lines t.world sc.seen) v
      (on_more (SameTrees v) (λ z. OnSome (HasTreesOf Happened.world) (run (of_lines t.world sc.seen) z))
      (λ z k. lines_leave Happened.world z (k ∙ (h ∙ sym (event_same Tree tree_at names_node t.world e q))))
      (run (of_event t.world e) v) (all_same (of_event t.world e) v (event_is t.world e))))

after_trees : (it : Witness) (t : Traced) (e : Event) (sc : WorldTurn) (f : world_step t.world e ≡ Ok sc) → AllSound t.world → (v : Volume) →
    HasTreesOf t.world v →
    OnSome (HasTreesOf (ev.happens (ev.counted t.world) e).world) (run (steps_of it v (step t e sc)) v)
unfolding of_event
after_trees it t (events.Deliver k) sc f sound v h =
    run_then (HasTreesOf (ev.happens (ev.counted t.world) (events.Deliver k)).world) (of_delivery it.behind v t.world (events.Deliver k))
    (of_lines t.world sc.seen) v
    (on_more (HasTreesOf (ev.happens (ev.counted t.world) (events.Deliver k)).world)
    (λ z. OnSome (HasTreesOf (ev.happens (ev.counted t.world) (events.Deliver k)).world) (run (of_lines t.world sc.seen) z))
    (λ z j. lines_leave it t (events.Deliver k) sc f (ev.happens (ev.counted t.world) (events.Deliver k)).world z j)
    (run (of_delivery it.behind v t.world (events.Deliver k)) v) (delivered t.world sound it.behind v h k))
after_trees it t (events.Tick n) sc f sound v h = plain_event it t (events.Tick n) sc f refl v h
after_trees it t (events.App c ask) sc f sound v h = plain_event it t (events.App c ask) sc f refl v h
after_trees it t (events.Lose k) sc f sound v h = plain_event it t (events.Lose k) sc f refl v h
after_trees it t (events.Cut from to) sc f sound v h = plain_event it t (events.Cut from to) sc f refl v h
after_trees it t (events.Heal from to) sc f sound v h = plain_event it t (events.Heal from to) sc f refl v h
after_trees it t (events.Advance increments) sc f sound v h = plain_event it t (events.Advance increments) sc f refl v h
after_trees it t (events.Effect k) sc f sound v h = plain_event it t (events.Effect k) sc f refl v h
after_trees it t (events.Report k ok) sc f sound v h = plain_event it t (events.Report k ok) sc f refl v h
after_trees it t (events.Crash n) sc f sound v h = plain_event it t (events.Crash n) sc f refl v h
after_trees it t (events.Start n) sc f sound v h = plain_event it t (events.Start n) sc f refl v h

after_volume : (it : Witness) (t : Traced) (e : Event) (sc : WorldTurn) → world_step t.world e ≡ Ok sc → AllSound t.world → (o : Option Volume) →
    OnSome (HasTreesOf t.world) o → OnSome (HasTreesOf sc.world) (volume_after it (step t e sc) o)
after_volume it t e sc f sound None h = tt
after_volume it t e sc f sound (Some v) h =
    on_then (HasTreesOf sc.world) if_told (run (steps_of it v (step t e sc)) v)
    (on_more (HasTreesOf (ev.happens (ev.counted t.world) e).world) (λ u. OnSome (HasTreesOf sc.world) (if_told u))
    (λ u k. on_if (HasTreesOf sc.world) (u.lines == length u.log) (Some u)
    (subst (λ (z : WorldTurn). HasTreesOf z.world u) (sym (step_happens t.world e sc f).1) k))
    (run (steps_of it v (step t e sc)) v) (after_trees it t e sc f sound v h))

-- The names stay sound.
abbrev names_at : ServerNode → Names
names_at node = node.state.stable.names

same_names : (x y : ServerNode) → names_at y ≡ names_at x → names_at y ≡ names_at x
same_names x y e = e

plain_sound : (t : World) (e : Event) → is_delivery e ≡ false → AllSound t → AllSound (ev.happens (ev.counted t) e).world
plain_sound t e q sound node h =
    let i = subst (Has (names_at node)) (event_same Names names_at same_names t e q) (has_map_in names_at (ev.happens (ev.counted t) e).world.servers node h) in
    let z = has_map names_at t.servers (names_at node) i in
    subst IsSound (sym z.2) (sound z.0 z.1)

event_sound : (t : World) (e : Event) → AllSound t → AllSound (ev.happens (ev.counted t) e).world
event_sound t (events.Deliver k) sound = delivered_sound t sound k
event_sound t (events.Tick n) sound = plain_sound t (events.Tick n) refl sound
event_sound t (events.App c ask) sound = plain_sound t (events.App c ask) refl sound
event_sound t (events.Lose k) sound = plain_sound t (events.Lose k) refl sound
event_sound t (events.Cut from to) sound = plain_sound t (events.Cut from to) refl sound
event_sound t (events.Heal from to) sound = plain_sound t (events.Heal from to) refl sound
event_sound t (events.Advance increments) sound = plain_sound t (events.Advance increments) refl sound
event_sound t (events.Effect k) sound = plain_sound t (events.Effect k) refl sound
event_sound t (events.Report k ok) sound = plain_sound t (events.Report k ok) refl sound
event_sound t (events.Crash n) sound = plain_sound t (events.Crash n) refl sound
event_sound t (events.Start n) sound = plain_sound t (events.Start n) refl sound

-- What is carried.
pub record TreesHold (past : List Step) (t : Traced) (it : Witness) : Type 0 where
  pub agree : OnSome (HasTreesOf t.world) it.volume
  pub sound : AllSound t.world

abbrev pub Nothing : Promise
Nothing past x = Unit {0}

pub trees_kept : IsKept Nothing TreesHold
unfolding led_by
trees_kept past t e sc it f g h =
    record {
      agree = after_volume it t e sc f h.sound it.volume h.agree;
      sound = subst (λ (z : WorldTurn). AllSound z.world) (sym (step_happens t.world e sc f).1) (event_sound t.world e h.sound);
    }

-- At the start.
start_trees : (k : Config) (servers disks blocks : ℕ) (size : ServerId → ℕ) (from other count : ℕ) →
    map (λ it. fresh_tree) (map size (map server (numbers other count))) ≡ map tree_at (map (node_at_start k servers disks blocks) (numbers from count))
unfolding numbers fresh_server names.fresh_names
start_trees k servers disks blocks size from other zero = refl
start_trees k servers disks blocks size from other (suc n) = ap (λ ts. fresh_tree ∷ ts) (start_trees k servers disks blocks size (from + 1) (other + 1) n)

start_sound : (k : Config) (servers disks blocks : ℕ) (ns : List ℕ) (node : ServerNode) → Has node (map (node_at_start k servers disks blocks) ns) →
    IsSound (names_at node)
unfolding fresh_server
start_sound k servers disks blocks ns node h =
    let z = has_map (node_at_start k servers disks blocks) ns node h in
    subst (λ (y : ServerNode). IsSound (names_at y)) (sym z.2) stay_sound.fresh

pub trees_begin : (k : Config) (clients servers disks blocks form : ℕ) →
    TreesHold [] (traced (fresh_world k clients servers disks blocks form))
    (begun (fresh_world k clients servers disks blocks form) (fresh_world k clients servers disks blocks form))
unfolding fresh_world begun
trees_begin k clients servers disks blocks form =
    record {
      agree =
          ap
          (λ n. map (λ it. fresh_tree) (map (size_of (fresh_world k clients servers disks blocks form)) (map server (numbers 1 n))))
          (counted (node_at_start k servers disks blocks) 1 servers)
          ∙ start_trees k servers disks blocks (size_of (fresh_world k clients servers disks blocks form)) 1 1 servers;
      sound = start_sound k servers disks blocks (numbers 1 servers);
    }

pub trees_agree : InEveryRun TreesAgree
trees_agree k clients servers disks blocks form es head events =
    throughout_more (Led TreesHold) TreesAgree (λ past x h. h.agree) [] (steps es (traced (fresh_world k clients servers disks blocks form)))
    (carried Nothing TreesHold trees_kept es (traced (fresh_world k clients servers disks blocks form)) (trees_begin k clients servers disks blocks form)
    (throughout_all Nothing (λ past t e sc f. tt) es [] (traced (fresh_world k clients servers disks blocks form))))
