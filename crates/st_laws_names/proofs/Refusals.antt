-- Refusals change nothing: after every event, and over whole runs.
use Rattle.st_lemmas.proofs.Words
use Words.{◌≡◌, ◌⊎◌, ℕ, ◌+◌, ◌≤◌, zero, suc, Bool, true, false, not, List, [], ◌∷◌, ◌++◌, Some, Ok, refl, sym, ap, ◌∙◌, subst, inl, inr, arith, length}
use Words.{nat_le, ◌<◌, list_any, eq-eqb, eqb-true, leb-true, ClientId, Epoch, FileId, GrantNo, PageNo, ServerId, NameAsk, AppAnswer, Ask, Event, Body, Message}
use Words.{SentMessage}
use Words.nodes
use Words.names
use Words.asks
use Words.events
use Words.bodies
use Words.ops
use Words.replies
use Words.notes
use Words.outputs
use Words.serving
use Words.seen
use Words.ClientState.{asks_cut_or_name, reasserts}
use Words.Events as ev
use Words.Events.{WorldTurn, world_step}
use Words.Extents.{numbers}
use Words.History.{Traced, traced, traced_after}
use Words.Keys.{client, server_node}
use Words.Safety.{Step, answers_in, is_answer_to, is_event, step}
use Words.Server as sv
use Words.Server.{ServerNode, server_step}
use Words.World as world
use Words.World.{World, all_clients, clock_of, fresh_world, node_of, numbered}
use Words.Lists.{Has}
use Words.Lookups.{some_is}
use Words.Numbers.{numbered_below, numbered_has}
use Words.Tables.{and_both, and_true, has_append, has_map_in, some_passes}
use Words.Members.{between_in_numbers, has_right}
use Rattle.st_base.specs.declared.config.Config as base
use Rattle.st_protocol.specs.Assoc.{Config}
use Rattle.st_laws_refine.specs.Server.Pair.{terms_of}
use Rattle.st_laws_leases.specs.Dates.Dates.{message_in, messages}
use Rattle.st_laws_leases.specs.Sides.Law.{InEveryRun}
use Rattle.st_laws_leases.proofs.Sides.Runs.{throughout_events}
use Rattle.st_laws_requests.specs.Cuts.Cuts.{KeptBy, Keyed, asks_of}
use Rattle.st_laws_extents.specs.CutRequests.Cut.{AsksCut, CutBy, CutIn}
use Rattle.st_laws_extents.specs.CutRequests.Law.{gifts}
use Rattle.st_laws_extents.proofs.CutRequests.Cutting.{step_cuts}
use Rattle.st_laws_extents.proofs.CutRequests.Seen.{ServedStep, cuts_served}
use Rattle.st_promises.specs.CutAsks.{asks_cut, has_alone_at, is_uncertain, numbered_asks, removes_file, settles_in}
use Rattle.st_laws_cuts.specs.EndedRequests.{MeansTo}
use Rattle.st_laws_cuts.specs.ServedRequests.{IsServedBy}
use Rattle.st_laws_cuts.proofs.Events.{same_epoch}
use Rattle.st_laws_cuts.proofs.Law.{alone, asks_it}
use Rattle.st_laws_cuts.proofs.Words.{under_has}
use Rattle.st_laws_names.specs.Keys.{HasEvent, ServedAt, is_final}
use Rattle.st_laws_names.specs.OutstandingKeys.{SameKey, WaitsUnder}
use Rattle.st_promises.specs.Refusals.{RefusalsChangeNothing, cuts_in, is_all, is_of_cut}
use Rattle.st_laws_names.proofs.Behind.{Behind, behind, not_past}
use Rattle.st_laws_names.proofs.Changes.{past_same}
use Rattle.st_laws_names.proofs.CutReplies.{CutKept, CutsBy, cut_kept}
use Rattle.st_laws_names.proofs.Giving as giving
use Rattle.st_laws_names.proofs.Facts.{FactsHold, facts_begin, facts_on}
use Rattle.st_laws_names.proofs.Keys.{keyed_same, one_body, key_back}
use Rattle.st_laws_names.proofs.OwnCuts.{AllOwned, CutOwner, DoneBy, Grows, Known, Owns, all_grow, all_more, key_then, never_refused, no_reassertion}
use Rattle.st_laws_names.proofs.OwnCuts.{own_lines, same_event}
use Rattle.st_laws_names.proofs.Rows.{worlds_on}
use Rattle.st_laws_names.proofs.World.{Asked, Received, TellsOrRefuses, Worlds}
use Rattle.st_laws_names.proofs.World as once
use Rattle.st_laws_cuts.proofs.Acknowledged.{there}

-- each answer to what asked, at one of these steps, is uncertain, or of a reply under its key
abbrev Answered : List Step → World → Type 0
Answered past w = (c : ClientId) (op : ℕ) (q : Asked past w c op) (z : Step) → Has z past → (a : AppAnswer) → Has (seen.Answered c op a) z.seen → (is_uncertain a ≡ true) ⊎ Received (TellsOrRefuses a) past w c op q

module _ (k : Config) (count : ℕ) (past : List Step) (t : Traced) (e : Event) (sc : WorldTurn) (ranges : is_event count e ≡ true) (h : FactsHold k count past t) (n : FactsHold k count (past ++ step t e sc ∷ []) (traced_after e t sc)) (taken : world_step t.world e ≡ Ok sc)
    (d : Answered past t.world) (owned : AllOwned past t.world [] past) where
  abbrev x : Step
  x = step t e sc

  abbrev past2 : List Step
  past2 = past ++ step t e sc ∷ []

  which : (v : World) → Worlds past2 sc.world v → Worlds past t.world v ⊎ (v ≡ sc.world)
  which v (inr q) = inr q
  which v (inl z) = go (has_append past _ z.0 z.1)
    where
      go : Has z.0 past ⊎ Has z.0 (step t e sc ∷ []) → Worlds past t.world v ⊎ (v ≡ sc.world)
      go (inl i) = inl (inl (z.0, i, z.2))
      go (inr (inl q)) = inr (z.2 ∙ ap (λ (y : Step). y.after.world) q)
      go (inr (inr i)) = absurd i

  grown : (y : Step) → Has y past2 → (m : Message) → Has m (messages y.before.world) → Has m (messages sc.world)
  grown y i m j = n.changes_.names_.all.base.cuts.grown y i m j

  grown_now : (m : Message) → Has m (messages t.world) → Has m (messages sc.world)
  grown_now m j = grown (step t e sc) (has_right past (step t e sc ∷ []) (step t e sc) (inl refl)) m j

  -- What waited so far.
  waited_on : (c : ClientId) (op : ℕ) → Asked past t.world c op → Asked past2 sc.world c op
  waited_on c op a =
      record {
        at = a.at;
        among = worlds_on k count past t e sc ranges h.changes_.names_.all n.changes_.names_.all taken h.changes_.rows a.at c a.server a.life_ a.epoch_ a.number_ op a.waits a.among;
        server = a.server;
        life_ = a.life_;
        epoch_ = a.epoch_;
        number_ = a.number_;
        waits = a.waits;
      }

  grows : Grows past t.world (past ++ step t e sc ∷ []) sc.world
  unfolding waited_on
  grows = record { asked = waited_on; same = λ c op a. record { server = refl; life_ = refl; epoch_ = refl; number_ = refl } }

  -- Answers.
  abbrev older : (c : ClientId) (op : ℕ) (q : Asked past2 sc.world c op) → Worlds past t.world q.at → Asked past t.world c op
  older c op q w = record { at = q.at; among = w; server = q.server; life_ = q.life_; epoch_ = q.epoch_; number_ = q.number_; waits = q.waits }

  before : (c : ClientId) (op : ℕ) (q : Asked past2 sc.world c op) (w : Worlds past t.world q.at) (z : Step) → Has z past ⊎ Has z (step t e sc ∷ []) → (a : AppAnswer) → Has (seen.Answered c op a) z.seen → (is_uncertain a ≡ true) ⊎ Received (TellsOrRefuses a) past t.world c op (older c op q w)
  before c op q w z (inl m) a j = d c op (older c op q w) z m a j
  before c op q w z (inr (inl f)) a j = once.answered k count past t e sc h.changes_.names_.all n.changes_.names_.all taken h.changes_.names_.once c op a (subst (λ (y : Step). Has (seen.Answered c op a) y.seen) f j) (older c op q w)
  before c op q w z (inr (inr m)) a j = absurd m

  lift : (c : ClientId) (op : ℕ) (q : Asked past2 sc.world c op) (w : Worlds past t.world q.at) (a : AppAnswer) → (is_uncertain a ≡ true) ⊎ Received (TellsOrRefuses a) past t.world c op (older c op q w) → (is_uncertain a ≡ true) ⊎ Received (TellsOrRefuses a) past2 sc.world c op q
  lift c op q w a (inl f) = inl f
  lift c op q w a (inr y) = inr (record { message = y.message; among = grown_now y.message y.among; replies = record { from = y.replies.from; to = y.replies.to; of_life = y.replies.of_life; of_epoch = y.replies.of_epoch; under = y.replies.under }; says = y.says })

  pub answered_on : (c : ClientId) (op : ℕ) (q : Asked past2 sc.world c op) (z : Step) → Has z past2 → (a : AppAnswer) → Has (seen.Answered c op a) z.seen → (is_uncertain a ≡ true) ⊎ Received (TellsOrRefuses a) past2 sc.world c op q
  answered_on c op q z i a j = go (which q.at q.among)
    where
      clash : {b : Bool} → b ≡ false → b ≡ true → ⊥
      clash u v = cc

      -- what waits now was not answered
      open_ : WaitsUnder sc.world c q.server q.life_ q.epoch_ q.number_ op → ⊥
      open_ w =
          clash (subst (λ m. list_any (answers_in c m) past2 ≡ false) w.is (n.changes_.names_.all.owners.unsaid c w.site w.at w.operation w.there))
          (some_passes (answers_in c op) past2 z i (some_passes (is_answer_to c op) z.seen (seen.Answered c op a) j (and_both _ _ (eq-eqb c.0 c.0 refl) (eq-eqb op op refl))))

      go : Worlds past t.world q.at ⊎ (q.at ≡ sc.world) → (is_uncertain a ≡ true) ⊎ Received (TellsOrRefuses a) past2 sc.world c op q
      go (inl w) = lift c op q w a (before c op q w z (has_append past (step t e sc ∷ []) z i) a j)
      go (inr f) = absurd (open_ (subst (λ v. WaitsUnder v c q.server q.life_ q.epoch_ q.number_ op) f q.waits))

  same_bodies : (c : ClientId) (op : ℕ) (a : Asked past2 sc.world c op) (m p : Message) → Has m (messages sc.world) → Has p (messages sc.world) → Keyed c a.server a.life_ a.epoch_ a.number_ m → Keyed c a.server a.life_ a.epoch_ a.number_ p → m.body ≡ p.body
  same_bodies c op a m p i j = one_body k count past2 (traced_after e t sc) n.changes_.names_.all c a.server (n.keys.places c op a) a.life_ a.epoch_ a.number_ (n.keys.requested c op a).first m p i j

  known_on : Known (past ++ step t e sc ∷ []) sc.world
  known_on = record { bodies_ = same_bodies; events_ = n.replies.replies; once = n.replies.once; answered = answered_on }

  -- No key is served at two events.
  first_on : (z : Step) → Has z past → (c : ClientId) (s : ServerId) (life epoch number : ℕ) (r q : Body) → ServedAt z c s life epoch number r → ServedAt (step t e sc) c s life epoch number q → ⊥
  first_on z i c s life epoch number r q a b =
      not_past c b.serves.old b.sent.message b.serves.served b.serves.running b.serves.keyed.between.0
      (past_same c b.serves.old a.sent.message b.sent.message (a.serves.keyed.of_life ∙ sym b.serves.keyed.of_life) (a.serves.keyed.of_epoch ∙ sym b.serves.keyed.of_epoch) (a.serves.keyed.under ∙ sym b.serves.keyed.under)
      (h.changes_.pairs.pasts z i c s a.sent.message a.serves.gone b.serves.old b.serves.was))

  -- The line of a cut, and the operation whose request was served.
  record LineOwner (f : FileId) (p : PageNo) : Type 0 where
    pub c : ClientId
    pub op : ℕ
    pub ask : Ask
    pub owns : Owns (past ++ step t e sc ∷ []) sc.world (step t e sc) c op
    pub own : asks_cut_or_name owns.served.sent.message.body ≡ true
    pub asked : numbered (asks_of past c) op ≡ Some ask
    pub cuts : asks_cut f p ask ≡ true
    pub alone_ : has_alone_at c f.ino (node_of t.world f.server) ≡ true
    pub unsettled : list_any (settles_in c op) past ≡ false
    pub done : DoneBy ask owns.reply

  done_of : (G : ℕ → GrantNo → Type 0) (s : ServerId) (f : FileId) (p : PageNo) (ask : Ask) (b r : Body) → MeansTo G s ask b → asks_cut f p ask ≡ true → CutsBy b f r → DoneBy ask r
  done_of G s f p (asks.Cut g q) b r z a c = on_cut b r z c
    where
      on_reply : (r : Body) (ino : ℕ) (y : GrantNo) (from : PageNo) → CutsBy (bodies.Cut ino y from) f r → DoneBy (asks.Cut g q) r
      on_reply bodies.Ack ino y from c = tt
      on_reply r ino y from c = absurd c

      on_cut : (b r : Body) → MeansTo G s (asks.Cut g q) b → CutsBy b f r → DoneBy (asks.Cut g q) r
      on_cut (bodies.Cut ino y from) r z c = on_reply r ino y from c
      on_cut b r z c = absurd z
  done_of G s f p (asks.Name sv ask) b r z a c = on_name ask b z (and_true _ _ a).1 c
    where
      on_reply : (dir : ℕ) (y : List ℕ) (ino : ℕ) (op : Rattle.st_messages.specs.declared.message.NameOp.NameOp) (r : Body) → ino ≡ f.ino → CutsBy (bodies.Name op) f r → DoneBy (asks.Name sv (names.Remove dir y ino)) r
      on_reply dir y ino op (bodies.Named (replies.Ino m)) q c = c ∙ sym q
      on_reply dir y ino op r q c = absurd c

      on_name : (ask : NameAsk) (b : Body) → MeansTo G s (asks.Name sv ask) b → removes_file f p ask ≡ true → CutsBy b f r → DoneBy (asks.Name sv ask) r
      on_name (names.Remove dir y ino) (bodies.Name op) z q c = on_reply dir y ino op r (eqb-true ino f.ino (and_true _ _ q).0) c
      on_name (names.Remove dir y ino) b z q c = absurd z
      on_name ask b z q c = cc q
  done_of G s f p ask b r z a c = cc a

  module _ (f : FileId) (p : PageNo) (z : ServedStep (ev.counted t.world) e sc f p) where
    abbrev m : Message
    m = z.delivery.sent.message

    noted : Has (outputs.Note (notes.CutDone f p)) (server_step z.node.state (clock_of (ev.counted t.world) (nodes.Server z.who)) (serving.Control z.delivery.sent.message)).out
    noted = subst (λ j. Has (outputs.Note (notes.CutDone f p)) (server_step z.node.state (clock_of (ev.counted t.world) (nodes.Server z.who)) j).out) z.delivery.comes z.noted

    by : CutBy z.node.state z.delivery.sent.message f p
    by = step_cuts z.node.state (clock_of (ev.counted t.world) (nodes.Server z.who)) z.delivery.sent.message f p noted

    kept : CutKept z.delivery.sent.message.header z.delivery.sent.message.body (server_step z.node.state (clock_of (ev.counted t.world) (nodes.Server z.who)) (serving.Control z.delivery.sent.message))
    kept = cut_kept z.node.state (clock_of (ev.counted t.world) (nodes.Server z.who)) z.delivery.sent.message f p noted

    at : node_of t.world z.who ≡ Some z.node
    at = z.there

    among : Has z.delivery.sent.message (messages t.world)
    among = has_map_in message_in t.world.net.messages z.delivery.sent (numbered_has t.world.net.messages z.delivery.index z.delivery.sent z.delivery.is_sent)

    file : f.server ≡ z.who
    file = by.server ∙ (h.changes_.names_.all.base.cuts.servers z.who z.node at).id

    served : IsServedBy z.node.state z.delivery.sent.message
    served = record { client = by.client; to = by.to; of_epoch = by.of_epoch; session = by.session; is = by.is; of_life = by.of_life; last = by.last; reply = by.reply; state = by.state; next = by.next }

    own : asks_cut_or_name z.delivery.sent.message.body ≡ true
    own = go z.delivery.sent.message.body by.asks
      where
        go : (b : Body) → AsksCut b f.ino p by.row.g → asks_cut_or_name b ≡ true
        go (bodies.Cut ino g from) a = refl
        go (bodies.Name (ops.Remove dir name g)) a = refl
        go b a = absurd a

    found : Behind past (gifts k count t.world h.changes_.names_.all.base.all (client z.delivery.sent.message.header.from) z.who) t.world z.who z.delivery.sent.message
    found = behind k count past t h.changes_.names_.all h.changes_.rows z.who z.node at z.running z.delivery.sent.message among served own

    cut_in : CutIn t.world f p
    cut_in = record { node = z.node; there = ap (node_of t.world) file ∙ at; running = z.running; message = z.delivery.sent.message; among = among; by = by }

    to : MeansTo (gifts k count t.world h.changes_.names_.all.base.all (client z.delivery.sent.message.header.from) f.server) f.server found.ask z.delivery.sent.message.body
    to = subst (λ (s : ServerId). MeansTo (gifts k count t.world h.changes_.names_.all.base.all (client z.delivery.sent.message.header.from) s) s found.ask z.delivery.sent.message.body) (sym file) found.to

    its_cut : asks_cut f p found.ask ≡ true
    unfolding cut_in
    its_cut = asks_it k count past t h.changes_.names_.all.base h.changes_.names_.all.owners f p cut_in found.ask z.delivery.sent.message.body to by.asks

    its_alone : has_alone_at (client z.delivery.sent.message.header.from) f.ino (node_of t.world f.server) ≡ true
    unfolding cut_in
    its_alone = alone k count past t h.changes_.names_.all.base h.changes_.names_.all.owners f p cut_in

    -- the key of the message, and that under which the operation waits
    key : SameKey z.who found.row.asked.server z.delivery.sent.message.header.life z.delivery.sent.message.header.epoch z.delivery.sent.message.header.number found.row.asked.life_ found.row.asked.epoch_ found.row.asked.number_
    key = key_back found.row.asked.server z.who found.row.asked.life_ found.row.asked.epoch_ found.row.asked.number_ z.delivery.sent.message.header.life z.delivery.sent.message.header.epoch z.delivery.sent.message.header.number found.row.same

    to_key : (q : Message) → Keyed (client z.delivery.sent.message.header.from) z.who z.delivery.sent.message.header.life z.delivery.sent.message.header.epoch z.delivery.sent.message.header.number q → Keyed (client z.delivery.sent.message.header.from) found.row.asked.server found.row.asked.life_ found.row.asked.epoch_ found.row.asked.number_ q
    to_key q y = keyed_same (client z.delivery.sent.message.header.from) z.who found.row.asked.server z.delivery.sent.message.header.life z.delivery.sent.message.header.epoch z.delivery.sent.message.header.number found.row.asked.life_ found.row.asked.epoch_ found.row.asked.number_ q key y

    -- a message of this key has its body
    one_body_here : (p : Message) → Has p (messages sc.world) → Keyed (client z.delivery.sent.message.header.from) z.who z.delivery.sent.message.header.life z.delivery.sent.message.header.epoch z.delivery.sent.message.header.number p → z.delivery.sent.message.body ≡ p.body
    unfolding waited_on
    one_body_here p j y = same_bodies (client z.delivery.sent.message.header.from) found.op (waited_on (client z.delivery.sent.message.header.from) found.op found.row.asked) z.delivery.sent.message p (grown_now z.delivery.sent.message among) j
        (to_key z.delivery.sent.message (record { between = (refl, by.to ∙ ap server_node (h.changes_.names_.all.base.cuts.servers z.who z.node at).id); of_life = refl; of_epoch = refl; under = refl })) (to_key p y)

    -- it was served in this event
    its_event : ServedAt (step t e sc) (client z.delivery.sent.message.header.from) z.who z.delivery.sent.message.header.life z.delivery.sent.message.header.epoch z.delivery.sent.message.header.number kept.reply
    its_event = go event
      where
        c : ClientId
        c = client z.delivery.sent.message.header.from

        id : z.node.state.id ≡ z.who
        id = (h.changes_.names_.all.base.cuts.servers z.who z.node at).id

        next : ServerNode
        next = (sv.node_turn z.node (server_step z.node.state (clock_of (ev.counted t.world) (nodes.Server z.who)) (serving.Control z.delivery.sent.message))).node

        left : node_of sc.world z.who ≡ Some next
        left = subst (λ j. node_of sc.world z.who ≡ Some (sv.node_turn z.node (server_step z.node.state (clock_of (ev.counted t.world) (nodes.Server z.who)) j)).node) z.delivery.comes z.left

        epoch : next.state.stable.epoch.0 ≡ z.delivery.sent.message.header.epoch
        epoch = ap (λ (y : Epoch). y.0) (same_epoch z.who z.node (serving.Control z.delivery.sent.message) t.world id) ∙ sym by.of_epoch

        final : (b r : Body) → CutsBy b f r → is_final r ≡ true
        final (bodies.Cut ino y from) bodies.Ack q = refl
        final (bodies.Name op) (bodies.Named (replies.Ino m)) q = refl
        final b r q = absurd q

        held : HasEvent past2 sc.world c z.who kept.keeps.session.life.0 next.state.stable.epoch.0 z.delivery.sent.message.header.number kept.reply
        held = subst (KeptBy is_final (λ number b. HasEvent past2 sc.world c z.who kept.keeps.session.life.0 next.state.stable.epoch.0 number b)) kept.keeps.kept
            (n.replies.kept z.who next left c kept.keeps.session kept.keeps.is) (final z.delivery.sent.message.body kept.reply (kept.cuts f p noted))

        event : HasEvent past2 sc.world c z.who z.delivery.sent.message.header.life z.delivery.sent.message.header.epoch z.delivery.sent.message.header.number kept.reply
        event = subst (λ l. HasEvent past2 sc.world c z.who l z.delivery.sent.message.header.epoch z.delivery.sent.message.header.number kept.reply) kept.keeps.of_life
            (subst (λ l. HasEvent past2 sc.world c z.who kept.keeps.session.life.0 l z.delivery.sent.message.header.number kept.reply) epoch held)

        go : HasEvent past2 sc.world c z.who z.delivery.sent.message.header.life z.delivery.sent.message.header.epoch z.delivery.sent.message.header.number kept.reply →
            ServedAt (step t e sc) c z.who z.delivery.sent.message.header.life z.delivery.sent.message.header.epoch z.delivery.sent.message.header.number kept.reply
        go (inl (y, i, a)) = old (has_append past (step t e sc ∷ []) y i)
          where
            old : Has y past ⊎ Has y (step t e sc ∷ []) → ServedAt (step t e sc) c z.who z.delivery.sent.message.header.life z.delivery.sent.message.header.epoch z.delivery.sent.message.header.number kept.reply
            old (inl j) =
                absurd (not_past c z.node z.delivery.sent.message served z.running refl
                (past_same c z.node a.sent.message z.delivery.sent.message a.serves.keyed.of_life a.serves.keyed.of_epoch a.serves.keyed.under (h.changes_.pairs.pasts y j c z.who a.sent.message a.serves.gone z.node at)))
            old (inr (inl f)) = subst (λ (v : Step). ServedAt v c z.who z.delivery.sent.message.header.life z.delivery.sent.message.header.epoch z.delivery.sent.message.header.number kept.reply) f a
            old (inr (inr j)) = absurd j
        go (inr r) = absurd (no_reassertion z.delivery.sent.message.body own (subst (λ b. reasserts b ≡ true) (sym (one_body_here r.by r.among r.keyed)) r.asks))

    same_key : SameKey (waited_on (client z.delivery.sent.message.header.from) found.op found.row.asked).server z.who (waited_on (client z.delivery.sent.message.header.from) found.op found.row.asked).life_ (waited_on (client z.delivery.sent.message.header.from) found.op found.row.asked).epoch_ (waited_on (client z.delivery.sent.message.header.from) found.op found.row.asked).number_
        z.delivery.sent.message.header.life z.delivery.sent.message.header.epoch z.delivery.sent.message.header.number
    unfolding waited_on
    same_key = found.row.same

    line_owner : LineOwner f p
    line_owner =
        record {
          c = client z.delivery.sent.message.header.from;
          op = found.op;
          ask = found.ask;
          owns = record {
            server = z.who;
            life_ = z.delivery.sent.message.header.life;
            epoch_ = z.delivery.sent.message.header.epoch;
            number_ = z.delivery.sent.message.header.number;
            reply = kept.reply;
            served = its_event;
            waited = waited_on (client z.delivery.sent.message.header.from) found.op found.row.asked;
            same = same_key;
          };
          own = its_own;
          asked = found.asked;
          cuts = its_cut;
          alone_ = its_alone;
          unsettled = found.unsettled;
          done = done_of (gifts k count t.world h.changes_.names_.all.base.all (client z.delivery.sent.message.header.from) z.who) z.who f p found.ask z.delivery.sent.message.body kept.reply found.to its_cut (kept.cuts f p noted);
        }
      where
        -- the message of the event
        its_message : its_event.sent ≡ z.delivery.sent
        its_message = some_is (sym its_event.is ∙ ap (λ i. world.message_of t.world i) (its its_event.index z.delivery.index (sym its_event.delivers ∙ z.delivery.delivers)) ∙ z.delivery.is_sent)
          where
            its : (i j : ℕ) → events.Deliver i ≡ events.Deliver j → i ≡ j
            its i j e = cc e

        its_own : asks_cut_or_name its_event.sent.message.body ≡ true
        its_own = subst (λ (y : SentMessage). asks_cut_or_name y.message.body ≡ true) (sym its_message) own

  line : (index : ℕ) (f : FileId) (p : PageNo) → Has (seen.CutAt index f p) sc.seen → LineOwner f p
  line index f p i = line_owner f p (cuts_served t.world e sc (λ s m at. (h.changes_.names_.all.base.cuts.servers s m at).id) taken index f p i)

  -- operations of one key
  same_operation : (c d : ClientId) (op m : ℕ) (a : Asked past2 sc.world c op) (b : Asked past2 sc.world d m) → c ≡ d → SameKey a.server b.server a.life_ a.epoch_ a.number_ b.life_ b.epoch_ b.number_ → op ≡ m
  same_operation c d op m a b q key =
      subst (λ d. (b : Asked past2 sc.world d m) → SameKey a.server b.server a.life_ a.epoch_ a.number_ b.life_ b.epoch_ b.number_ → op ≡ m) q (λ b key. n.keys.one c op m a b key) b key

  owner : cuts_in (step t e sc) ≡ true → CutOwner (past ++ step t e sc ∷ []) sc.world past (step t e sc)
  owner q = from (line w.0 w.1 w.2 w.3)
    where
      w : (index : ℕ) × (f : FileId) × (p : PageNo) × Has (seen.CutAt index f p) sc.seen
      w = there sc.seen q

      from : LineOwner w.1 w.2 → CutOwner (past ++ step t e sc ∷ []) sc.world past (step t e sc)
      from o = record { c = o.c; op = o.op; ask = o.ask; owns = o.owns; own = o.own; asked = o.asked; lines = λ index f p i. lined f p (line index f p i); unsettled = o.unsettled; done = o.done; first = λ z i c s life epoch number r q a b. first_on z i c s life epoch number r q a b }
        where
          lined : (f : FileId) (p : PageNo) → LineOwner f p → (asks_cut f p o.ask ≡ true) × (has_alone_at o.c f.ino (node_of t.world f.server) ≡ true)
          lined f p l = (subst (λ a. asks_cut f p a ≡ true) ask l.cuts, subst (λ c. has_alone_at c f.ino (node_of t.world f.server) ≡ true) event.0 l.alone_)
            where
              event : (l.c ≡ o.c) × SameKey l.owns.server o.owns.server l.owns.life_ l.owns.epoch_ l.owns.number_ o.owns.life_ o.owns.epoch_ o.owns.number_
              event = same_event (step t e sc) l.c o.c l.owns.server o.owns.server l.owns.life_ l.owns.epoch_ l.owns.number_ o.owns.life_ o.owns.epoch_ o.owns.number_ l.owns.reply o.owns.reply l.owns.served o.owns.served

              key : SameKey l.owns.waited.server o.owns.waited.server l.owns.waited.life_ l.owns.waited.epoch_ l.owns.waited.number_ o.owns.waited.life_ o.owns.waited.epoch_ o.owns.waited.number_
              key = let a = l.owns in let b = o.owns in
                  key_then a.waited.server a.server b.waited.server a.waited.life_ a.waited.epoch_ a.waited.number_ a.life_ a.epoch_ a.number_ b.waited.life_ b.waited.epoch_ b.waited.number_ a.same
                  (key_then a.server b.server b.waited.server a.life_ a.epoch_ a.number_ b.life_ b.epoch_ b.number_ b.waited.life_ b.waited.epoch_ b.waited.number_ event.1
                  (key_back b.waited.server b.server b.waited.life_ b.waited.epoch_ b.waited.number_ b.life_ b.epoch_ b.number_ b.same))

              op : l.op ≡ o.op
              op = same_operation l.c o.c l.op o.op l.owns.waited o.owns.waited event.0 key

              ask : l.ask ≡ o.ask
              ask = some_is (sym l.asked ∙ ap (λ m. numbered (asks_of past l.c) m) op ∙ ap (λ c. numbered (asks_of past c) o.op) event.0 ∙ o.asked)

  pub owned_on : AllOwned (past ++ step t e sc ∷ []) sc.world [] (past ++ step t e sc ∷ [])
  owned_on = all_more (past ++ step t e sc ∷ []) sc.world (step t e sc) [] past (all_grow past t.world (past ++ step t e sc ∷ []) sc.world grows [] past owned) owner

  -- Asks can be given to the events.
  abbrev OwnsHere : Step → ClientId → ℕ → Type 0
  OwnsHere y c op = Owns (past ++ step t e sc ∷ []) sc.world y c op

  under : (past : List Step) (c : ClientId) (op : ℕ) (a : Ask) → numbered (asks_of past c) op ≡ Some a → Has (op, a) (numbered_asks past c)
  under past c zero a q = let y = (numbered_below (asks_of past c) 0 a q).0 in absurd (omega (arith, y))
  under past c (suc m) a q = subst (λ j. Has (j, a) (numbered_asks past c)) (omega arith) (under_has 1 (asks_of past c) m a q)

  chosen : (before : List Step) (y : Step) → Has y past2 → ((z : Step) → Has z before → Has z past2) → CutOwner past2 sc.world before y →
      giving.Chosen cuts_in (is_of_cut (past ++ step t e sc ∷ [])) is_all (all_clients sc.world) (λ y c op. Owns (past ++ step t e sc ∷ []) sc.world y c op) before y
  chosen before y i up o =
      record {
        c = o.c;
        among = among;
        op = o.op;
        ask = o.ask;
        under = under before o.c o.op o.ask o.asked;
        good = and_both _ _ (own_lines past2 sc.world known_on before y i o sent) (and_both _ _ (ap not o.unsettled) (never_refused past2 sc.world known_on before y i o sent));
        owns = o.owns;
        new = new;
      }
    where
      s : ServedAt y o.c o.owns.server o.owns.life_ o.owns.epoch_ o.owns.number_ o.owns.reply
      s = o.owns.served

      sent_before : Has s.sent.message (messages y.before.world)
      sent_before = has_map_in message_in y.before.world.net.messages s.sent (numbered_has y.before.world.net.messages s.index s.sent s.is)

      sent : Has o.owns.served.sent.message (messages sc.world)
      sent = grown y i s.sent.message sent_before

      from_ : s.sent.message.header.from ≡ o.c.0
      from_ = s.serves.keyed.between.0

      among : Has o.c (all_clients sc.world)
      among = has_map_in client (numbers 1 (length sc.world.clients)) o.c.0 (between_in_numbers 1 (length sc.world.clients) o.c.0 low high)
        where
          low : 1 ≤ o.c.0
          low = let q = leb-true 1 s.sent.message.header.from (and_true (nat_le 1 s.sent.message.header.from) (nat_le s.sent.message.header.from 16) s.serves.served.client).0 in let z = from_ in omega (arith, q, z)

          high : o.c.0 < 1 + length sc.world.clients
          high = let q = n.changes_.names_.all.owners.senders s.sent.message sent s.serves.served.client in let z = from_ in omega (arith, q, z)

      new : (z : Step) → Has z before → cuts_in z ≡ true → Owns past2 sc.world z o.c o.op → ⊥
      new z j f a = o.first z j o.c a.server a.life_ a.epoch_ a.number_ a.reply o.owns.reply a.served same
        where
          b : Owns past2 sc.world y o.c o.op
          b = o.owns

          key : SameKey b.server a.server b.life_ b.epoch_ b.number_ a.life_ a.epoch_ a.number_
          key =
              key_then b.server b.waited.server a.server b.life_ b.epoch_ b.number_ b.waited.life_ b.waited.epoch_ b.waited.number_ a.life_ a.epoch_ a.number_ (key_back b.waited.server b.server b.waited.life_ b.waited.epoch_ b.waited.number_ b.life_ b.epoch_ b.number_ b.same)
              (key_then b.waited.server a.waited.server a.server b.waited.life_ b.waited.epoch_ b.waited.number_ a.waited.life_ a.waited.epoch_ a.waited.number_ a.life_ a.epoch_ a.number_ (n.changes_.pairs.pairs o.c o.op b.waited a.waited) a.same)

          same : ServedAt y o.c a.server a.life_ a.epoch_ a.number_ o.owns.reply
          same =
              subst (λ (s : ServerId). ServedAt y o.c s a.life_ a.epoch_ a.number_ o.owns.reply) key.server
              (subst (λ l. ServedAt y o.c b.server l a.epoch_ a.number_ o.owns.reply) key.life_
              (subst (λ l. ServedAt y o.c b.server b.life_ l a.number_ o.owns.reply) key.epoch_
              (subst (λ l. ServedAt y o.c b.server b.life_ b.epoch_ l o.owns.reply) key.number_ b.served)))

  all_chosen : (before ys : List Step) → ((z : Step) → Has z before → Has z past2) → ((z : Step) → Has z ys → Has z past2) → AllOwned past2 sc.world before ys →
      giving.AllChosen cuts_in (is_of_cut (past ++ step t e sc ∷ [])) is_all (all_clients sc.world) (λ y c op. Owns (past ++ step t e sc ∷ []) sc.world y c op) before ys
  all_chosen before [] up of a = tt
  all_chosen before (y ∷ ys) up of a = (λ q. chosen before y (of y (inl refl)) up (a.0 q), all_chosen (before ++ y ∷ []) ys (λ z i. by z (has_append before (y ∷ []) z i)) (λ z i. of z (inr i)) a.1)
    where
      by : (z : Step) → Has z before ⊎ Has z (y ∷ []) → Has z past2
      by z (inl i) = up z i
      by z (inr (inl q)) = subst (λ z. Has z past2) (sym q) (of y (inl refl))
      by z (inr (inr i)) = absurd i

  pub refused_nothing : RefusalsChangeNothing past (step t e sc)
  refused_nothing =
      giving.all_given cuts_in (is_of_cut (past ++ step t e sc ∷ [])) is_all (all_clients sc.world) (λ y c op. Owns (past ++ step t e sc ∷ []) sc.world y c op) (past ++ step t e sc ∷ []) [] [] (λ given g. refl)
      (all_chosen [] (past ++ step t e sc ∷ []) (λ z i. absurd i) (λ z i. i) owned_on) (record { each = λ g i. absurd i; every = λ z i q. absurd i })

-- Over whole runs.
record RefusalsHold (k : Config) (count : ℕ) (past : List Step) (t : Traced) : Type 0 where
  pub facts : FactsHold k count past t
  pub answered : Answered past t.world
  pub owned : AllOwned past t.world [] past

one : (k : Config) (count : ℕ) (past : List Step) (t : Traced) (e : Event) (sc : WorldTurn) → is_event count e ≡ true → RefusalsHold k count past t → world_step t.world e ≡ Ok sc → RefusalsChangeNothing past (step t e sc) × RefusalsHold k count (past ++ step t e sc ∷ []) (traced_after e t sc)
one k count past t e sc r h taken = (refused_nothing k count past t e sc r h.facts n taken h.answered h.owned, record { facts = n; answered = answered_on k count past t e sc r h.facts n taken h.answered h.owned; owned = owned_on k count past t e sc r h.facts n taken h.answered h.owned })
  where
    n : FactsHold k count (past ++ step t e sc ∷ []) (traced_after e t sc)
    n = facts_on k count past t e sc r h.facts taken

pub refusals_change_nothing : InEveryRun RefusalsChangeNothing
refusals_change_nothing k clients servers disks blocks form es head events =
    throughout_events (clients + servers) RefusalsChangeNothing (RefusalsHold (terms_of k) (clients + servers)) (one (terms_of k) (clients + servers)) es events [] (traced (fresh_world k clients servers disks blocks form))
    (record { facts = facts_begin k clients servers disks blocks form head; answered = λ c op q z i. absurd i; owned = tt })
