-- In every run each entry that joins the log of the volume has its line in that event.
use Rattle.st_lemmas.proofs.Words
use Words.{◌≡◌, ℕ, Bool, true, false, ◌&&◌, ◌==◌, List, [], ◌∷◌, ◌++◌, Option, Some, None, Ok, Err, refl, sym, ap, ◌∙◌, subst, inl, if◌then◌else◌}
use Words.{eqb-true, length, list_any, NodeId, ServerId, Stamp, Ask, Body, Event, Message, NameAsk, SentMessage}
use Words.asks
use Words.bodies
use Words.events
use Words.nodes
use Words.Events as ev
use Words.Events.{WorldTurn, world_step}
use Words.Lookups.{some_is}
use Words.Numbers.{numbered_has}
use Words.Server as sv
use Words.Server.{ServerNode}
use Words.Tables.{and_true}
use Words.World.{World, fresh_world, message_of, node_of, receiver_of}
use Rattle.st_rules.specs.History.{Traced, traced}
use Rattle.st_rules.specs.Safety.{Step, TheReportTellsTheLog, step}
use Rattle.st_rules.specs.declared.input.ServerInput.TheVariants.{Control}
use Rattle.st_rules.specs.declared.node.StepRefusal.TheVariants.{Crashed}
use Rattle.st_lemmas.proofs.Steps.{step_happens}
use Rattle.st_promises.specs.Acknowledgements.{is_cut_line}
use Rattle.st_promises.specs.Safe.{EveryRunIsSafe, IsSafeRun}
use Rattle.st_laws_volume.specs.StepKinds.{EntriesAreTold}
use Rattle.st_laws_volume.specs.Logs.{InEveryRun, IsLogOf}
use Rattle.st_laws_volume.specs.Options.{OnSome}
use Rattle.st_laws_volume.specs.Seen.{of_event}
use Rattle.st_laws_volume.specs.TreeNames.{tree_of}
use Rattle.st_laws_volume.specs.Trees.{HasTreesOf}
use Rattle.st_laws_volume.specs.Witness.{Behind, Witness, does, does_at, is_request_for, now_at, of_delivery, of_lines, of_message, steps_of, takes_op, to_node, turn_of}
use Rattle.st_laws_volume.proofs.Carried.{IsGiven, given_in}
use Rattle.st_laws_volume.proofs.ChangeLines.{on_both}
use Rattle.st_laws_volume.proofs.CutEffects.{LogOf, request_log}
use Rattle.st_laws_volume.proofs.CutsTold.{Notes, Seen, all_seen, cut_by, cut_notes, name_notes}
use Rattle.st_laws_volume.proofs.LogLines.{run_then}
use Rattle.st_laws_volume.proofs.Logs.{LogHolds, log_begins, log_kept}
use Rattle.st_laws_volume.proofs.Options.{on_more}
use Rattle.st_laws_volume.proofs.ToldSteps.{Near, Told, event_kept, kept_told, lines_end, lines_told, one_near}
use Rattle.st_laws_volume.proofs.TreeWorld.{AllSound, node_after, tree_there}
use Rattle.st_laws_volume.proofs.Trees.{TreesHold, trees_begin, trees_kept}
use Rattle.st_volume.specs.declared.step.VolumeStep.{VolumeStep}
use Rattle.st_volume.specs.Trees as trees
use Rattle.st_volume.specs.Volume as volume
use Rattle.st_volume.specs.Volume.{Volume, is_cut_or_name, run}

-- A request is for a cut or a name.
asked_by : (s : ServerId) (b : Body) (a : Ask) → is_request_for s b a ≡ true → is_cut_or_name a ≡ true
asked_by s (bodies.Cut ino g from) (asks.Cut f p) q = refl
asked_by s (bodies.Name op) (asks.Name r ask) q = refl
asked_by s b a q = cc

named_at : (s r : ServerId) (ask : NameAsk) (b : Body) → is_request_for s b (asks.Name r ask) ≡ true → r.0 ≡ s.0
named_at s r ask (bodies.Name op) q = eqb-true r.0 s.0 (and_true (r.0 == s.0) _ q).0
named_at s r ask b q = cc

no : false ≡ true → ⊥
no q = cc

clash : {b : Bool} → b ≡ true → b ≡ false → ⊥
clash p q = cc

-- A request that is served without a cut adds no entry.
module _ (w : World) (sound : AllSound w) (bs : List Behind) (v : Volume) (agree : HasTreesOf w v) (told : Told v) where
  module _ (s : ServerId) (m : Message) (node : ServerNode) (at : node_of w s ≡ Some node) where
    abbrev Now : Stamp
    Now = now_at w s

    module _ (d : does (turn_of node Now) Now m ≡ true) (silent : Notes node Now m d → ⊥) where
      name_told : (r : ServerId) (ask : NameAsk) (u : Volume) → is_request_for s m.body (asks.Name r ask) ≡ true → LogOf v (asks.Name r ask) u → Told u
      name_told r ask u q l = go l.result.1.1 refl
        where
          tree_is : l.tree ≡ tree_of node.state.stable.names
          tree_is =
              some_is (sym l.there ∙ (ap (volume.numbered v.trees) (named_at s r ask m.body q) ∙ tree_there w sound bs v agree s node at))

          go : (o : Option ℕ) → l.result.1.1 ≡ o → Told u
          go None e = let z = l.left e in z.0 ∙ (told ∙ ap (λ es. length es) (sym z.1))
          go (Some i) e =
              absurd (silent (name_notes node Now m d (sound node (numbered_has w.servers s.0 node at)) s r ask i q
              (ap cut_by (ap (λ t. trees.does t ask) (sym tree_is) ∙ l.did) ∙ e)))

      asked : (a : Ask) (u : Volume) → is_request_for s m.body a ≡ true → LogOf v a u → Told u
      asked (asks.Cut f p) u q l = absurd (silent (cut_notes node Now m d s f p q))
      asked (asks.Name r ask) u q l = name_told r ask u q l
      asked (asks.Write f p bytes) u q l = absurd (no (asked_by s m.body (asks.Write f p bytes) q))
      asked (asks.Patch f p at bytes) u q l = absurd (no (asked_by s m.body (asks.Patch f p at bytes) q))
      asked (asks.Read f p) u q l = absurd (no (asked_by s m.body (asks.Read f p) q))
      asked (asks.Sync f) u q l = absurd (no (asked_by s m.body (asks.Sync f) q))

      effect_told : OnSome Told (run (takes_op bs v s m ∷ []) v)
      effect_told = request_log bs v Told s m asked

    server_told : ((d : does (turn_of node Now) Now m ≡ true) → node.running ≡ true → Notes node Now m d → ⊥) →
        OnSome Told (run (if node.running && does (turn_of node Now) Now m then takes_op bs v s m ∷ [] else []) v)
    unfolding run
    server_told silent = go (node.running && does (turn_of node Now) Now m) refl
      where
        go : (x : Bool) → (node.running && does (turn_of node Now) Now m) ≡ x → OnSome Told (run (if x then takes_op bs v s m ∷ [] else []) v)
        go false e = told
        go true e = let b = and_true node.running (does (turn_of node Now) Now m) e in effect_told b.1 (silent b.1 b.0)

  -- all steps of an event
  module _ (sc : WorldTurn) where
    abbrev all : List VolumeStep
    all = of_lines w sc.seen

    module _ (k : ℕ) (happened : world_step w (events.Deliver k) ≡ Ok sc) where
      abbrev served : List VolumeStep
      served = of_delivery bs v w (events.Deliver k)

      served_near : OnSome Near (run served v)
      unfolding run
      served_near = go (message_of w k)
        where
          emitted : (s : ServerId) (m : Message) (b : Bool) → OnSome Near (run (if b then takes_op bs v s m ∷ [] else []) v)
          emitted s m false = inl told
          emitted s m true = one_near v _ _

          to : (x : SentMessage) (n : NodeId) → OnSome Near (run (to_node bs v w x.message n) v)
          to x (nodes.Client c) = inl told
          to x (nodes.Server s) = emitted s x.message (does_at w s (node_of w s) x.message)

          go : (o : Option SentMessage) → OnSome Near (run (of_message bs v w o) v)
          go None = inl told
          go (Some x) = to x (receiver_of x)

      -- what the server notes is observed
      observed : (x : SentMessage) (s : ServerId) (node : ServerNode) → message_of w k ≡ Some x → receiver_of x ≡ nodes.Server s → node_of w s ≡ Some node →
          node.running ≡ true → sc ≡
          ev.server_says_all s (sv.server_step node.state (now_at w s) (Control x.message)).out
          (ev.quiet (ev.with_node s (node_after node (now_at w s) (Control x.message)) (ev.counted w)))
      unfolding ev.happens ev.delivers ev.delivers_to ev.at_server ev.server_takes ev.server_took sv.node_step
      observed x s node q r z runs =
          (step_happens w (events.Deliver k) sc happened).1
          ∙ (ap (λ o. ev.delivers (ev.counted w) o) q
          ∙ (ap (λ n. ev.delivers_to (ev.counted w) x.message n) r
          ∙ (ap (λ o. ev.at_server (ev.counted w) s (Control x.message) o) z
          ∙ ap (λ b. ev.server_took (ev.counted w) s
          (if b then Ok (sv.node_turn node (sv.server_step node.state (now_at w s) (Control x.message))) else Err Crashed)) runs)))

      served_told : list_any is_cut_line sc.seen ≡ false → OnSome Told (run served v)
      unfolding run
      served_told none = go (message_of w k) refl
        where
          there : (x : SentMessage) (s : ServerId) → message_of w k ≡ Some x → receiver_of x ≡ nodes.Server s → (o : Option ServerNode) → node_of w s ≡ o →
              OnSome Told (run (if does_at w s o x.message then takes_op bs v s x.message ∷ [] else []) v)
          there x s q r None z = told
          there x s q r (Some node) z =
              server_told s x.message node z
              (λ d runs notes. clash
              (subst (λ (y : WorldTurn). Seen y.seen) (sym (observed x s node q r z runs))
              (all_seen s (sv.server_step node.state (now_at w s) (Control x.message)).out
              (ev.quiet (ev.with_node s (node_after node (now_at w s) (Control x.message)) (ev.counted w))) notes)) none)

          to : (x : SentMessage) → message_of w k ≡ Some x → (n : NodeId) → receiver_of x ≡ n → OnSome Told (run (to_node bs v w x.message n) v)
          to x q (nodes.Client c) r = told
          to x q (nodes.Server s) r = there x s q r (node_of w s) refl

          go : (o : Option SentMessage) → message_of w k ≡ o → OnSome Told (run (of_message bs v w o) v)
          go None q = told
          go (Some x) q = to x q (receiver_of x) refl

      delivered : OnSome Told (run (served ++ all) v)
      delivered = run_then Told served all v (go (list_any is_cut_line sc.seen) refl)
        where
          go : (b : Bool) → list_any is_cut_line sc.seen ≡ b → OnSome (λ u. OnSome Told (run all u)) (run served v)
          go true q = on_more Near (λ u. OnSome Told (run all u)) (λ u k. lines_end w sc.seen u q k) (run served v) served_near
          go false q = on_more Told (λ u. OnSome Told (run all u)) (λ u k. lines_told w sc.seen u k) (run served v) (served_told q)

    plain : (e : Event) → OnSome Told (run (of_event w e ++ all) v)
    plain e =
        run_then Told (of_event w e) all v
        (on_more Told (λ u. OnSome Told (run all u)) (λ u k. lines_told w sc.seen u k) (run (of_event w e) v)
        (kept_told (of_event w e) v (event_kept w e) told))

    event_told : (e : Event) → world_step w e ≡ Ok sc → OnSome Told (run (of_event w e ++ (of_delivery bs v w e ++ all)) v)
    unfolding of_event
    event_told (events.Deliver k) f = delivered k f
    event_told (events.App c ask) f = plain (events.App c ask)
    event_told (events.Tick n) f = plain (events.Tick n)
    event_told (events.Lose k) f = plain (events.Lose k)
    event_told (events.Cut from to) f = plain (events.Cut from to)
    event_told (events.Heal from to) f = plain (events.Heal from to)
    event_told (events.Advance increments) f = plain (events.Advance increments)
    event_told (events.Effect k) f = plain (events.Effect k)
    event_told (events.Report k ok) f = plain (events.Report k ok)
    event_told (events.Crash n) f = plain (events.Crash n)
    event_told (events.Start n) f = plain (events.Start n)

-- In every run.
ToldToo : List Step → Step → Witness → Type 0
ToldToo past x it = OnSome (λ v. OnSome (λ u. u.lines ≡ length u.log) (run (steps_of it v x) v)) it.volume

record ToldHold (past : List Step) (t : Traced) (it : Witness) : Type 0 where
  log : LogHolds past t it
  trees : TreesHold past t it

told_on : IsGiven TheReportTellsTheLog ToldHold ToldToo
unfolding ToldToo
told_on past t e sc it f g h = (
  on_more (λ v. IsLogOf t.world.log v × HasTreesOf t.world v) (λ v. OnSome Told (run (steps_of it v (step t e sc)) v))
      (λ v k. event_told t.world h.trees.sound it.behind v k.1 k.0.lines sc e f) it.volume
      (on_both (IsLogOf t.world.log) (HasTreesOf t.world) it.volume h.log h.trees.agree),
  record { log = log_kept past t e sc it f g h.log; trees = trees_kept past t e sc it f tt h.trees },
)

pub entries_are_told : EveryRunIsSafe → InEveryRun EntriesAreTold
unfolding ToldToo
entries_are_told safe k clients servers disks blocks form es head events =
    let t : Traced = traced (fresh_world k clients servers disks blocks form) in
    let kept : IsSafeRun (fresh_world k clients servers disks blocks form) es = safe k clients servers disks blocks form es head events in
    given_in TheReportTellsTheLog ToldHold ToldToo told_on es t
    (record { log = log_begins k clients servers disks blocks form; trees = trees_begin k clients servers disks blocks form }) kept.told
