-- In every run a request that a server serves finds no result: the ask that it belongs to has not taken effect yet.
use Rattle.st_lemmas.proofs.Words
use Words.{◌≡◌, ◌⊎◌, ℕ, ◌+◌, arith, Bool, true, false, ◌&&◌, ◌==◌, List, [], ◌∷◌, ◌++◌, length, Option, Some, None, Ok, refl, sym, ap, ◌∙◌, subst, inl, inr, if◌then◌else◌}
use Words.{eqb-true, find, is_some, list_all, option_and_then, option_map, AppAnswer, Body, ClientId, Event, Message, NodeId, SentMessage, ServerId}
use Words.bodies
use Words.events
use Words.nodes
use Words.ClientState.{asks_cut_or_name, is_refusal}
use Words.Events.{WorldTurn, world_step}
use Words.History.{Traced, traced, traced_after}
use Words.Keys.{client, server_node}
use Words.Lists.{Has}
use Words.Lookups.{some_is}
use Words.Members.{has_left}
use Words.Numbers.{numbered_has}
use Words.Safety.{AsksAreAnsweredOnce, IsHead, Promise, Step, Throughout, all_answered_once, all_followed, is_event, step, steps}
use Words.Server as sv
use Words.Server.{ServerNode}
use Words.Tables.{and_true, has_append, has_map_in}
use Words.Truth.{client_is}
use Words.World.{World, fresh_world, message_of, node_of, receiver_of}
use Rattle.st_base.specs.declared.config.Config.{Config}
use Rattle.st_protocol.specs.Assoc as net
use Rattle.st_promises.specs.Safe.{EveryRunIsSafe, IsSafeRun}
use Rattle.st_laws_pages.specs.Disks.Obligations.{FatesHold}
use Rattle.st_laws_pages.proofs.Disks.Whole.{fates_law}
use Rattle.st_laws_refine.specs.Server.Pair.{terms_of}
use Rattle.st_laws_leases.specs.Dates.Dates.{message_in, messages}
use Rattle.st_laws_requests.specs.Cuts.Cuts.{Keyed}
use Rattle.st_laws_cuts.specs.EndedRequests.{AllPast}
use Rattle.st_laws_cuts.specs.ServedRequests.{IsServedBy}
use Rattle.st_laws_cuts.proofs.OverAfter.{past_on}
use Rattle.st_laws_names.specs.Keys.{ServedAt}
use Rattle.st_laws_names.specs.OutstandingKeys.{KeysHaveOneOperation, SameKey, WaitsUnder}
use Rattle.st_laws_names.proofs.Behind.{not_past}
use Rattle.st_laws_names.proofs.Changes.{past_same}
use Rattle.st_laws_names.proofs.Facts.{FactsHold, facts_begin, facts_on, operations_law}
use Rattle.st_laws_names.proofs.Keys.{key_back, keyed_same}
use Rattle.st_laws_names.proofs.Rows.{worlds_on}
use Rattle.st_laws_names.proofs.World.{Asked}
use Rattle.st_laws_volume.specs.Logs.{InEveryRun}
use Rattle.st_laws_volume.specs.Options.{OnSome}
use Rattle.st_laws_volume.specs.Requests.{AtNode, FindsNone, OfDelivery, OfMessage, RequestsFindNone}
use Rattle.st_laws_volume.specs.Seen.{of_event}
use Rattle.st_laws_volume.specs.Witness.{Behind, Witness, above_all, begun, does_at, if_told, is_behind, is_done_as, is_there, led_by, now_at, of_delivery, of_lines, of_message, op_of, serves, steps_of, takes_op, to_node, turn_of, volume_after}
use Rattle.st_laws_volume.proofs.Carried.{IsGiven, given_in}
use Rattle.st_laws_volume.proofs.LogLines.{run_then}
use Rattle.st_laws_volume.proofs.OpenResults.{AllFine, effect_fine, lines_fine, run_fine}
use Rattle.st_laws_volume.proofs.Options.{on_if, on_more, on_then}
use Rattle.st_laws_volume.proofs.ReadPages.{InRange, all_in_range, throughout_both}
use Rattle.st_laws_volume.proofs.RequestAsks.{GhostHolds, Grants, HasKey, cut_or_name, ghost_begins, ghost_kept, has_key, is_served}
use Rattle.st_laws_volume.proofs.ServedEnds.{ends_there}
use Rattle.st_laws_volume.proofs.ToldSteps.{event_kept}
use Rattle.st_laws_volume.proofs.TreeSteps.{none_above}
use Rattle.st_volume.specs.declared.step.VolumeStep.TheVariants as kinds
use Rattle.st_volume.specs.Volume as volume
use Rattle.st_volume.specs.Volume.{Pending, Volume, is_ask, run}

-- The request of an operation was served, and not refused: no server serves its key again.
pub record WasServed (past : List Step) (w : World) (c : ClientId) (op : ℕ) : Type 0 where
  pub k : Asked past w c op
  pub over : (m : Message) → Keyed c k.server k.life_ k.epoch_ k.number_ m → AllPast w c k.server m
  pub done : (y : Step) → Has y past → (reply : Body) → ServedAt y c k.server k.life_ k.epoch_ k.number_ reply → is_refusal reply ≡ false

-- what is done isn't refused
done_kept : (b reply : Body) → is_done_as b (Some reply) ≡ true → is_refusal reply ≡ false
done_kept (bodies.Cut ino g from) bodies.Ack q = refl
done_kept (bodies.Name op) (bodies.Named reply) q = refl
done_kept b reply q = cc q

pub record NoneHold (k : net.Config) (count : ℕ) (past : List Step) (t : Traced) (it : Witness) : Type 0 where
  pub facts : FactsHold k count past t
  pub ghost_ : GhostHolds past t it
  pub fine : OnSome (AllFine (WasServed past t.world) None) it.volume

none_seen : (w : World) (j : ℕ) → of_event w (events.Deliver j) ≡ []
unfolding of_event
none_seen w j = refl

-- One step.
module _ (k : net.Config) (count : ℕ) (past : List Step) (t : Traced) (e : Event) (sc : WorldTurn) (it : Witness) (ranges : is_event count e ≡ true)
    (taken : world_step t.world e ≡ Ok sc) (h : NoneHold k count past t it) (n : FactsHold k count (past ++ step t e sc ∷ []) (traced_after e t sc))
    (one : KeysHaveOneOperation past (step t e sc)) where
  abbrev past2 : List Step
  past2 = past ++ step t e sc ∷ []

  abbrev w : World
  w = t.world

  one_past : (y z : Step) → Has y past → Has z past → (c : ClientId) (s : ServerId) (life epoch number op p : ℕ) →
      WaitsUnder y.after.world c s life epoch number op →
      WaitsUnder z.after.world c s life epoch number p → op ≡ p
  one_past y z i j c s life epoch number op p a b =
      one y z (has_left past (step t e sc ∷ []) y i) (has_left past (step t e sc ∷ []) z j) c s life epoch number op p a b

  more : (c : ClientId) (op : ℕ) → WasServed past w c op → WasServed past2 sc.world c op
  more c op z =
      record {
        k =
            record {
              at = z.k.at;
              among =
                  worlds_on k count past t e sc ranges h.facts.changes_.names_.all n.changes_.names_.all taken h.facts.changes_.rows z.k.at c z.k.server
                  z.k.life_
                  z.k.epoch_ z.k.number_ op z.k.waits z.k.among;
              server = z.k.server;
              life_ = z.k.life_;
              epoch_ = z.k.epoch_;
              number_ = z.k.number_;
              waits = z.k.waits;
            };
        over = λ m y. past_on k count past t e sc ranges h.facts.changes_.names_.all.base taken c z.k.server m (z.over m y);
        done = λ y i. go y (has_append past (step t e sc ∷ []) y i);
      }
    where
      Kept : Step → Type 0
      Kept y = (reply : Body) → ServedAt y c z.k.server z.k.life_ z.k.epoch_ z.k.number_ reply → is_refusal reply ≡ false

      now : Kept (step t e sc)
      now reply a =
          absurd
          (not_past c a.serves.old a.sent.message a.serves.served a.serves.running a.serves.keyed.between.0
          (z.over a.sent.message a.serves.keyed a.serves.old a.serves.was))

      go : (y : Step) → Has y past ⊎ Has y (step t e sc ∷ []) → Kept y
      go y (inl i) = z.done y i
      go y (inr (inl q)) = subst Kept (sym q) now
      go y (inr (inr i)) = absurd i

  -- A request that a server serves.
  module _ (s : ServerId) (node : ServerNode) (at : node_of w s ≡ Some node) (m : Message) (among : Has m (messages w))
      (done : does_at w s (Some node) m ≡ true) where
    key : HasKey it past w (Grants k count past t it h.facts.changes_ h.ghost_ one_past s m) s m
    key = has_key k count past t it h.facts.changes_ h.ghost_ one_past s node at m among done

    id : node.state.id ≡ s
    id = (h.facts.changes_.names_.all.base.cuts.servers s node at).id

    runs : (node.running ≡ true) × ((serves (turn_of node (now_at w s)) m.header
        && is_done_as m.body (sv.rule (turn_of node (now_at w s)) (now_at w s) m.header m.body).reply) ≡ true)
    runs = and_true node.running _ done

    does_it : (serves (turn_of node (now_at w s)) m.header ≡ true)
        × (is_done_as m.body (sv.rule (turn_of node (now_at w s)) (now_at w s) m.header m.body).reply ≡ true)
    does_it = and_true (serves (turn_of node (now_at w s)) m.header) _ runs.1

    served : IsServedBy node.state m
    served = is_served s node (now_at w s) m does_it.0

    own : asks_cut_or_name m.body ≡ true
    own = cut_or_name m.body _ does_it.1

    its_key : Keyed (client m.header.from) s m.header.life m.header.epoch m.header.number m
    its_key = record { between = (refl, served.to ∙ ap server_node id); of_life = refl; of_epoch = refl; under = refl }

    asked : (past3 : List Step) (v : World) → Has key.at past3 → Asked past3 v (client m.header.from) key.behind.op
    asked past3 v i =
        record {
          at = key.at.after.world;
          among = inl (key.at, i, refl);
          server = s;
          life_ = m.header.life;
          epoch_ = m.header.epoch;
          number_ = m.header.number;
          waits = key.waits;
        }

    -- it wasn't served before
    not_before : WasServed past w (client m.header.from) key.behind.op → ⊥
    unfolding asked
    not_before z =
        not_past (client m.header.from) node m served runs.0 refl
        (subst (λ (r : ServerId). AllPast w (client m.header.from) r m) same.server
        (z.over m
        (keyed_same (client m.header.from) s z.k.server m.header.life m.header.epoch m.header.number z.k.life_ z.k.epoch_ z.k.number_ m
        (key_back z.k.server s z.k.life_ z.k.epoch_ z.k.number_ m.header.life m.header.epoch m.header.number same) its_key)) node at)
      where
        same : SameKey z.k.server s z.k.life_ z.k.epoch_ z.k.number_ m.header.life m.header.epoch m.header.number
        same = h.facts.changes_.pairs.pairs (client m.header.from) key.behind.op z.k (asked past w key.among)

    none_of : (v : Volume) → AllFine (WasServed past w) None v → FindsNone it v s m
    none_of v f = record { none = λ b g a i q. go b g a (f a i) q a.result refl }
      where
        go : (b : Behind) → find (is_behind s m.header) it.behind ≡ Some b → (a : Pending) →
            (is_some a.result ≡ true → WasServed past w a.client a.op ⊎ (false ≡ true)) → is_ask (client m.header.from) b.op a ≡ true → (o : Option AppAnswer) →
            a.result ≡ o → a.result ≡ None
        go b g a fine_ q None e = e
        go b g a fine_ q (Some r) e = by (fine_ (ap is_some e))
          where
            mine : b ≡ key.behind
            mine = some_is (sym g ∙ key.found)

            by : WasServed past w a.client a.op ⊎ (false ≡ true) → a.result ≡ None
            by (inr x) = cc x
            by (inl z) =
                let y = and_true (a.client.0 == m.header.from) (a.op == b.op) q in
                absurd
                (not_before
                (subst (λ (j : ℕ). WasServed past w (client m.header.from) j) (eqb-true a.op b.op y.1 ∙ ap (λ (x : Behind). x.op) mine)
                (subst (λ (d : ClientId). WasServed past w d a.op) (client_is a.client (client m.header.from) y.0) z)))

    -- and is served now
    now_served : (j : ℕ) (sent : SentMessage) → e ≡ events.Deliver j → message_of w j ≡ Some sent → sent.message ≡ m → receiver_of sent ≡ nodes.Server s →
        WasServed past2 sc.world (client m.header.from) key.behind.op
    unfolding asked
    now_served j sent d is same to =
        record {
          k = asked past2 sc.world (has_left past (step t e sc ∷ []) key.at key.among);
          over =
              λ p y v there. past_same (client m.header.from) v m p (sym y.of_life) (sym y.of_epoch) (sym y.under)
              (subst (λ (x : Message). AllPast sc.world (client x.header.from) s x) same
              (ends_there w e sc taken s j sent d is to node at id (subst (λ (x : Message). does_at w s (Some node) x ≡ true) (sym same) done)
              (subst (λ (x : Message). asks_cut_or_name x.body ≡ true) (sym same) own)) v there);
          done = λ y i. go y (has_append past (step t e sc ∷ []) y i);
        }
      where
        Kept : Step → Type 0
        Kept y =
            (reply : Body) → ServedAt y (client m.header.from) s m.header.life m.header.epoch m.header.number reply → is_refusal reply ≡ false

        earlier : (y : Step) → Has y past → Kept y
        earlier y i reply a =
            absurd
            (not_past (client m.header.from) node m served runs.0 refl
            (past_same (client m.header.from) node a.sent.message m a.serves.keyed.of_life a.serves.keyed.of_epoch a.serves.keyed.under
            (h.facts.changes_.pairs.pasts y i (client m.header.from) s a.sent.message a.serves.gone node at)))

        replies : ServerNode → Message → Option Body
        replies n p = (sv.rule (turn_of n (now_at w s)) (now_at w s) p.header p.body).reply

        now : Kept (step t e sc)
        now reply a =
            done_kept m.body reply (subst (λ o. is_done_as m.body o ≡ true) (sym there) does_it.1)
          where
            index : a.index ≡ j
            index = of_deliver (sym a.delivers ∙ d)
              where
                of_deliver : {i k : ℕ} → events.Deliver i ≡ events.Deliver k → i ≡ k
                of_deliver q = cc q

            message : a.sent.message ≡ m
            message = ap (λ (x : SentMessage). x.message) (some_is (sym a.is ∙ (ap (message_of w) index ∙ is))) ∙ same

            there : Some reply ≡ replies node m
            there =
                sym a.serves.replied
                ∙ (ap (λ n. replies n a.sent.message) (some_is (sym a.serves.was ∙ at)) ∙ ap (replies node) message)

        go : (y : Step) → Has y past ⊎ Has y (step t e sc ∷ []) → Kept y
        go y (inl i) = earlier y i
        go y (inr (inl q)) = subst Kept (sym q) now
        go y (inr (inr i)) = absurd i

    -- what its effect leaves
    served_fine : WasServed past2 sc.world (client m.header.from) key.behind.op → (v : Volume) → AllFine (WasServed past2 sc.world) None v →
        OnSome (AllFine (WasServed past2 sc.world) None) (run (takes_op it.behind v s m ∷ []) v)
    unfolding run
    served_fine z v f =
        subst (λ o. OnSome (AllFine (WasServed past2 sc.world) None) (run (kinds.TakesEffect (client m.header.from) (op_of v s m o) ∷ []) v)) (sym key.found)
        (go (is_there v s m key.behind.op))
      where
        S : ClientId → ℕ → Type 0
        S = WasServed past2 sc.world

        at_op : (op : ℕ) → ((b : Pending) → is_ask (client m.header.from) op b ≡ true → S b.client b.op ⊎ (false ≡ true)) →
            OnSome (AllFine S None) (run (kinds.TakesEffect (client m.header.from) op ∷ []) v)
        at_op op own_ =
            on_then (AllFine S None) (run []) (volume.step v (kinds.TakesEffect (client m.header.from) op))
            (effect_fine S None v (client m.header.from) op own_ f)

        go : (b : Bool) → OnSome (AllFine S None)
            (run (kinds.TakesEffect (client m.header.from) (if b then key.behind.op else above_all (v.pending ++ v.orphans)) ∷ []) v)
        go true =
            at_op key.behind.op
            (λ b q. let y = and_true (b.client.0 == m.header.from) (b.op == key.behind.op) q in
            inl (subst (λ (d : ClientId). S d b.op) (sym (client_is b.client (client m.header.from) y.0))
            (subst (λ (j : ℕ). S (client m.header.from) j) (sym (eqb-true b.op key.behind.op y.1)) z)))
        go false =
            on_then (AllFine S None) (run []) (volume.step v (kinds.TakesEffect (client m.header.from) (above_all (v.pending ++ v.orphans))))
            (on_if (AllFine S None) (v.lines == length v.log) (volume.acts v (kinds.TakesEffect (client m.header.from) (above_all (v.pending ++ v.orphans))))
            (subst (λ o. OnSome (AllFine S None) (option_map volume.notice (option_and_then (volume.takes v) o)))
            (sym (none_above (client m.header.from) (above_all (v.pending ++ v.orphans)) (v.pending ++ v.orphans)
            (omega arith))) tt))

  -- The delivery of an event.
  finds : (v : Volume) → AllFine (WasServed past w) None v → OfDelivery (FindsNone it v) w e
  finds v f = by e refl
    where
      at_node : (s : ServerId) (m : Message) → Has m (messages w) → (o : Option ServerNode) → node_of w s ≡ o → does_at w s o m ≡ true → FindsNone it v s m
      at_node s m among None at q = cc q
      at_node s m among (Some node) at q = none_of s node at m among q v f

      to : (m : SentMessage) → Has m.message (messages w) → (d : NodeId) → AtNode (FindsNone it v) w m.message d
      to m among (nodes.Client c) = tt
      to m among (nodes.Server s) = λ q. at_node s m.message among (node_of w s) refl q

      go : (o : Option SentMessage) → ((m : SentMessage) → o ≡ Some m → Has m w.net.messages) → OfMessage (FindsNone it v) w o
      go None g = tt
      go (Some m) g = to m (has_map_in message_in w.net.messages m (g m refl)) (receiver_of m)

      by : (x : Event) → e ≡ x → OfDelivery (FindsNone it v) w x
      by (events.Deliver j) q = go (message_of w j) (λ m i. numbered_has w.net.messages j m i)
      by x q = tt

  delivery_fine : (v : Volume) → AllFine (WasServed past2 sc.world) None v →
      OnSome (AllFine (WasServed past2 sc.world) None) (run (of_delivery it.behind v w e) v)
  unfolding run
  delivery_fine v f = by e refl
    where
      at_node : (j : ℕ) (m : SentMessage) → e ≡ events.Deliver j → message_of w j ≡ Some m → (s : ServerId) → receiver_of m ≡ nodes.Server s →
          (o : Option ServerNode) → node_of w s ≡ o → (b : Bool) → does_at w s o m.message ≡ b →
          OnSome (AllFine (WasServed past2 sc.world) None) (run (if b then takes_op it.behind v s m.message ∷ [] else []) v)
      at_node j m d is s to o at false q = f
      at_node j m d is s to None at true q = cc q
      at_node j m d is s to (Some node) at true q =
          let among : Has m.message (messages w) = has_map_in message_in w.net.messages m (numbered_has w.net.messages j m is) in
          served_fine s node at m.message among q (now_served s node at m.message among q j m d is refl to) v f

      to : (j : ℕ) (m : SentMessage) → e ≡ events.Deliver j → message_of w j ≡ Some m → (d : NodeId) → receiver_of m ≡ d →
          OnSome (AllFine (WasServed past2 sc.world) None) (run (to_node it.behind v w m.message d) v)
      to j m d is (nodes.Client c) q = f
      to j m d is (nodes.Server s) q = at_node j m d is s q (node_of w s) refl (does_at w s (node_of w s) m.message) refl

      go : (j : ℕ) → e ≡ events.Deliver j → (o : Option SentMessage) → message_of w j ≡ o →
          OnSome (AllFine (WasServed past2 sc.world) None) (run (of_message it.behind v w o) v)
      go j d None is = f
      go j d (Some m) is = to j m d is (receiver_of m) refl

      by : (x : Event) → e ≡ x → OnSome (AllFine (WasServed past2 sc.world) None) (run (of_delivery it.behind v w x) v)
      by (events.Deliver j) q = go j q (message_of w j) refl
      by (events.Tick d) q = f
      by (events.App c ask) q = f
      by (events.Lose j) q = f
      by (events.Cut other to) q = f
      by (events.Heal other to) q = f
      by (events.Advance increments) q = f
      by (events.Effect j) q = f
      by (events.Report j fine_) q = f
      by (events.Crash d) q = f
      by (events.Start d) q = f

  -- All steps: what is seen of the event itself comes first, and at a delivery there is none.
  after_fine : all_followed sc.seen ≡ true → (o : Option Volume) → OnSome (AllFine (WasServed past w) None) o →
      OnSome (AllFine (WasServed past2 sc.world) None) (volume_after it (step t e sc) o)
  after_fine b None f = tt
  after_fine b (Some v) f =
      on_then P if_told (run (steps_of it v (step t e sc)) v)
      (on_more P (λ u. OnSome P (if_told u)) (λ u q. on_if P (u.lines == length u.log) (Some u) q) (run (steps_of it v (step t e sc)) v) (all e refl))
    where
      P : Volume → Type 0
      P = AllFine (WasServed past2 sc.world) None

      now : AllFine (WasServed past2 sc.world) None v
      now a i q = go (f a i q)
        where
          go : WasServed past w a.client a.op ⊎ (false ≡ true) → WasServed past2 sc.world a.client a.op ⊎ (false ≡ true)
          go (inl z) = inl (more a.client a.op z)
          go (inr z) = inr z

      plain : of_delivery it.behind v w e ≡ [] → OnSome P (run (of_event w e ++ (of_delivery it.behind v w e ++ of_lines w sc.seen)) v)
      plain q =
          subst (λ xs. OnSome P (run (of_event w e ++ (xs ++ of_lines w sc.seen)) v)) (sym q)
          (run_then P (of_event w e) (of_lines w sc.seen) v
          (on_more P (λ u. OnSome P (run (of_lines w sc.seen) u)) (λ u r. lines_fine (WasServed past2 sc.world) w sc.seen u b r) (run (of_event w e) v)
          (run_fine (WasServed past2 sc.world) None (of_event w e) v (event_kept w e) now)))

      served_ : of_event w e ≡ [] → OnSome P (run (of_event w e ++ (of_delivery it.behind v w e ++ of_lines w sc.seen)) v)
      served_ q =
          subst (λ xs. OnSome P (run (xs ++ (of_delivery it.behind v w e ++ of_lines w sc.seen)) v)) (sym q)
          (run_then P (of_delivery it.behind v w e) (of_lines w sc.seen) v
          (on_more P (λ u. OnSome P (run (of_lines w sc.seen) u)) (λ u r. lines_fine (WasServed past2 sc.world) w sc.seen u b r)
          (run (of_delivery it.behind v w e) v) (delivery_fine v now)))

      all : (x : Event) → e ≡ x → OnSome P (run (of_event w e ++ (of_delivery it.behind v w e ++ of_lines w sc.seen)) v)
      all (events.Deliver j) q = served_ (ap (of_event w) q ∙ none_seen w j)
      all (events.Tick d) q = plain (ap (of_delivery it.behind v w) q)
      all (events.App c ask) q = plain (ap (of_delivery it.behind v w) q)
      all (events.Lose j) q = plain (ap (of_delivery it.behind v w) q)
      all (events.Cut other to) q = plain (ap (of_delivery it.behind v w) q)
      all (events.Heal other to) q = plain (ap (of_delivery it.behind v w) q)
      all (events.Advance increments) q = plain (ap (of_delivery it.behind v w) q)
      all (events.Effect j) q = plain (ap (of_delivery it.behind v w) q)
      all (events.Report j fine_) q = plain (ap (of_delivery it.behind v w) q)
      all (events.Crash d) q = plain (ap (of_delivery it.behind v w) q)
      all (events.Start d) q = plain (ap (of_delivery it.behind v w) q)

-- In every run.
abbrev pub Known : ℕ → Promise
Known count past x = InRange count past x × (AsksAreAnsweredOnce past x × (FatesHold x.after.world × KeysHaveOneOperation past x))

pub NoneToo : List Step → Step → Witness → Type 0
NoneToo past x it = OnSome (λ v. OfDelivery (FindsNone it v) x.before.world x.event) it.volume

pub none_on : (k : net.Config) (count : ℕ) → IsGiven (Known count) (NoneHold k count) NoneToo
unfolding NoneToo led_by
none_on k count past t e sc it f g h = (
  on_more (AllFine (WasServed past t.world) None) (λ v. OfDelivery (FindsNone it v) t.world e)
      (λ v j. finds k count past t e sc it g.0 f h n g.1.1.1 v j) it.volume h.fine,
  record {
    facts = n;
    ghost_ = ghost_kept past t e sc it g.1.1.0 g.1.1.1 h.ghost_;
    fine =
        after_fine k count past t e sc it g.0 f h n g.1.1.1 (and_true (all_answered_once past (step t e sc) [] sc.seen) (all_followed sc.seen) g.1.0).1
        it.volume h.fine;
  },
)
  where
    n : FactsHold k count (past ++ step t e sc ∷ []) (traced_after e t sc)
    n = facts_on k count past t e sc g.0 h.facts f

pub none_begins : (k : Config) (clients servers disks blocks form : ℕ) → IsHead k clients servers disks blocks form →
    NoneHold (terms_of k) (clients + servers) [] (traced (fresh_world k clients servers disks blocks form))
    (begun (fresh_world k clients servers disks blocks form) (fresh_world k clients servers disks blocks form))
unfolding begun
none_begins k clients servers disks blocks form head =
    record {
      facts = facts_begin k clients servers disks blocks form head;
      ghost_ = ghost_begins k clients servers disks blocks form;
      fine = λ a i. absurd i;
    }

pub known_in : (k : Config) (clients servers disks blocks form : ℕ) (es : List Event) → IsHead k clients servers disks blocks form →
    list_all (is_event (clients + servers)) es ≡ true → IsSafeRun (fresh_world k clients servers disks blocks form) es →
    Throughout (Known (clients + servers)) [] (steps es (traced (fresh_world k clients servers disks blocks form)))
known_in k clients servers disks blocks form es head events kept =
    let t : Traced = traced (fresh_world k clients servers disks blocks form) in
    let count : ℕ = clients + servers in
    throughout_both (InRange count) (λ past x. AsksAreAnsweredOnce past x × (FatesHold x.after.world × KeysHaveOneOperation past x)) [] (steps es t)
    (all_in_range count es [] t events)
    (throughout_both AsksAreAnsweredOnce (λ past x. FatesHold x.after.world × KeysHaveOneOperation past x) [] (steps es t) kept.once
    (throughout_both (λ past x. FatesHold x.after.world) KeysHaveOneOperation [] (steps es t) (fates_law k clients servers disks blocks form es)
    (operations_law k clients servers disks blocks form es head events)))

pub requests_find_none : EveryRunIsSafe → InEveryRun RequestsFindNone
unfolding NoneToo begun
requests_find_none safe k clients servers disks blocks form es head events =
    let t : Traced = traced (fresh_world k clients servers disks blocks form) in
    let count : ℕ = clients + servers in
    let kept : IsSafeRun (fresh_world k clients servers disks blocks form) es = safe k clients servers disks blocks form es head events in
    given_in (Known count) (NoneHold (terms_of k) count) NoneToo (none_on (terms_of k) count) es t (none_begins k clients servers disks blocks form head)
    (known_in k clients servers disks blocks form es head events kept)
