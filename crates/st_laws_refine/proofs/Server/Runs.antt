-- All clients at one server: a step of the server is one step of the law, and thefts in it are late.
use Rattle.st_lemmas.proofs.Words
use Words.{◌≡◌, ◌≢◌, leb-false, if◌then◌else◌, ℕ, ◌+◌, ◌<◌, ◌≤◌, ◌&&◌, not, Bool, true, false, List, [], ◌∷◌, refl, sym, ap, ◌∙◌, subst, arith, nat_le, Option}
use Words.{Some, None, Ok, list_all, ClientId, Mode, Body, ServerInput, LockRow, SentMessage, Output, ServerId}
use Words.nodes
use Words.modes
use Words.bodies as bd
use Words.events
use Words.serving.{Tick, Control}
use Words.Keys.{client}
use Words.Locks.{Locks, row_of}
use Words.Server.{ServerNode, is_client_node, server_step}
use Words.World.{World, clock_of, message_of, receiver_of, server}
use Words.Events.{WorldTurn, counted, server_takes, world_step, sends, cuts, server_notes, server_says, server_says_all, quiet as quiet_scene, with_node}
use Words.Safety.{is_late, is_no_conflict}
use Words.notes
use Words.outputs
use Words.Tables.{and_both}
use Words.refusals
use Words.Admissible.{stands, net_full, not_running, link_cut, is_lost, refused_delivery, refusal}
use Words.History.{Traced}
use Words.Truth.{or_second}
use Rattle.st_base.specs.Mode.{number_of, conflicts}
use Rattle.std.proofs.lemmas.List.Folds.{list_all-append}
use Rattle.st_laws_refine.specs.Server.Paths.{Leads, WorkedOn}
use Rattle.st_laws_refine.proofs.Server.Calm.{Reassertions, AllCalm, calm_step}
use Rattle.st_laws_refine.proofs.Server.Counts.{taken_step, all_bytes}
use Rattle.st_lemmas.proofs.Steps.{step_happens}
use Rattle.st_laws_refine.proofs.Server.Conflicts.{reassertions, no_reassertions}
use Rattle.st_protocol.proofs.Timing.{Timing}
use Rattle.st_protocol.specs.Assoc as net
use Rattle.st_protocol.specs.Assoc.{Config, ConfigOk, Works}
use Rattle.st_protocol.proofs.World.{invariant}
use Rattle.st_laws_refine.specs.Views.Messages.{Wishes, Received}
use Rattle.st_laws_refine.specs.Views.Halves.{Ghost, row_or, row_view}
use Rattle.st_laws_refine.specs.Server.Pair.{client_in, pair, EndedBy, Served, DatesShown, DatesKnown}
use Rattle.st_laws_refine.proofs.Server.Step.{ReceivedInput}
use Rattle.st_laws_refine.specs.Server.Edits.{Wish, WishInput}
use Rattle.st_laws_refine.proofs.Server.Compat.{compat_step}
use Rattle.st_laws_refine.proofs.Server.Delivery.{ClientsSame, stepped, Steps, takes, taken, delivery_is, tick_is, message_has, to_server, takes_is}
use Rattle.st_laws_refine.specs.Server.Invariants.{Compat, pairs, Stands, Settings, Calm, Few}
use Rattle.st_laws_refine.proofs.Server.Late.{thefts_come_late}
use Rattle.st_laws_refine.proofs.Views.Moves.{drift_same, Grows, moves_grow}

-- compatible modes, as numbers
fits : (m n : Mode) → conflicts m n ≡ false → 1 ≤ number_of m → 1 ≤ number_of n → number_of m + number_of n ≤ 2
fits modes.None n e a b = absurd (omega arith)
fits modes.S modes.None e a b = absurd (omega arith)
fits modes.S modes.S e a b = omega arith
fits modes.S modes.X e a b = cc
fits modes.X modes.None e a b = absurd (omega arith)
fits modes.X modes.S e a b = cc
fits modes.X modes.X e a b = cc

pub rows_fit : (l : Locks) (c d : ClientId) (i : ℕ) → Compat l → c.0 ≢ d.0 → 1 ≤ (row_or (row_view (row_of l c i))).mode → 1 ≤ (row_or (row_view (row_of l d i))).mode → (row_or (row_view (row_of l c i))).mode + (row_or (row_view (row_of l d i))).mode ≤ 2
rows_fit l c d i k ne = go (row_of l c i) (row_of l d i) refl refl
  where
    go : (o p : Option LockRow) → row_of l c i ≡ o → row_of l d i ≡ p → 1 ≤ (row_or (row_view o)).mode → 1 ≤ (row_or (row_view p)).mode → (row_or (row_view o)).mode + (row_or (row_view p)).mode ≤ 2
    go None p e f a b = absurd (omega arith)
    go (Some r) None e f a b = absurd (omega arith)
    go (Some r) (Some q) e f a b = fits r.mode q.mode (k.fits c d i r q ne e f) a b

below_full : (w : World) → net_full w ≡ None → w.net.bytes < 536870912
unfolding stands
below_full w e = go (nat_le 536870912 w.net.bytes) refl e
  where
    go : (b : Bool) → nat_le 536870912 w.net.bytes ≡ b → (if b then Some (refusals.NetFull w.net.bytes) else None) ≡ None → w.net.bytes < 536870912
    go true f e = cc
    go false f e = leb-false 536870912 w.net.bytes f

tick_below : (w : World) (s : ServerId) → refusal w (events.Tick (nodes.Server s)) ≡ None → w.net.bytes < 536870912
unfolding refusal
tick_below w s e = below_full w (or_second _ _ (or_second _ _ e))

delivery_below : (w : World) (n : ℕ) (m : SentMessage) → refusal w (events.Deliver n) ≡ None → message_of w n ≡ Some m → w.net.bytes < 536870912
unfolding refusal refused_delivery
delivery_below w n m e there = let z = subst (λ o. refused_delivery w n o ≡ None) there e in below_full w (or_second (not_running w (receiver_of m)) _ (or_second (link_cut w m) _ (or_second (is_lost n m) _ z)))

pub wish_of : (b : Body) → Wishes b → Wish b
wish_of (bd.Acquire i m) w = w
wish_of (bd.Reassert rs) w = w.some
wish_of b w = tt

module _ (k : Config) (s : ℕ) (ended : ℕ → ℕ → ℕ) where
  -- a step of the server
  pub record Stepped (w v : World) (node node2 : ServerNode) (G : ℕ → Ghost) : Type 0 where
    pub ghosts : ℕ → Ghost
    pub stands : Stands k s ended v node2 ghosts
    pub grows : (c : ℕ) → Grows (G c).net (ghosts c).net
    pub drift : (c : ℕ) → (ghosts c).drift ≡ (G c).drift
    pub parts : ClientsSame w v
    pub keeps : (H : net.World) → Leads k H s ended w node G → Leads k H s ended v node2 ghosts

  pub works : (w : World) (node : ServerNode) (G : ℕ → Ghost) (i : ServerInput) → ConfigOk k → node.running ≡ true → Stands k s ended w node G →
      ((c : ℕ) → ReceivedInput k (client_in w c s (ended c)) (clock_of w (nodes.Server (server s))) c i (G c).net) → WishInput i →
      Stepped w (server_takes w (server s) i node).world node (stepped k 0 s (ended 0) w node i) G
  works w node G i ok runs st received wish =
      let t : (c : ℕ) → Steps k c s (ended c) w (server_takes w (server s) i node).world node (stepped k 0 s (ended 0) w node i) (G c) =
      λ c. takes k c s (ended c) w node (G c) i ok runs wish (st.served c) (received c) (invariant k (pairs s ended w node G) ok st.reached c) in
      let compat2 : Compat (stepped k 0 s (ended 0) w node i).state.locks = compat_step node.state (clock_of w (nodes.Server (server s))) i wish st.compat in
      record {
        ghosts = λ c. (t c).ghost;
        stands = record {
          reached = Works st.reached (record { each = λ c. (t c).moves; table = λ a b z c d i ne x y. rows_fit (stepped k 0 s (ended 0) w node _).state.locks (client c) (client d) i compat2 ne x y });
          served = λ c. (t c).served;
          compat = compat2;
        };
        grows = λ c. moves_grow (t c).moves;
        drift = λ c. drift_same (t c).moves;
        parts = (t 0).parts;
        keeps = λ H o. WorkedOn o (record { each = λ c. (t c).moves; table = λ a b z c d i ne x y. rows_fit (stepped k 0 s (ended 0) w node _).state.locks (client c) (client d) i compat2 ne x y });
      }

  -- one more event was counted, and nothing else
  pub counted_stands : (w : World) (node : ServerNode) (G : ℕ → Ghost) → Stands k s ended w node G → Stands k s ended (counted w) node G
  counted_stands w node G st =
      record { reached = st.reached; served = λ c. let d = st.served c in record { found = d.found; id = d.id; terms = d.terms; stands = d.stands; wires = d.wires }; compat = st.compat }

  counted_parts : {v : World} {w : World} → ClientsSame (counted w) v → ClientsSame w v
  counted_parts p = record { clients = p.clients; clocks = p.clocks; ended = p.ended; config = p.config; drift = p.drift; form = p.form }

  -- a step of the server in the world: everything holds after it, and its thefts are late
  pub record SteppedLate (w : World) (sc : WorldTurn) (node : ServerNode) (G : ℕ → Ghost) : Type 0 where
    pub node2 : ServerNode
    pub runs : node2.running ≡ true
    pub step : Stepped w sc.world node node2 G
    pub calm : Calm node.state → Calm node2.state
    pub few : Few w.net.bytes node.state → Few sc.world.net.bytes node2.state
    pub quiet : Calm node.state → list_all is_no_conflict sc.seen ≡ true
    pub late : (t : Traced) → t.world ≡ w → DatesKnown w t.history.dates → ((c : ℕ) → DatesShown k.lease c s t.history.dates (G c).net) → list_all (is_late t) sc.seen ≡ true

  -- no conflict is observed if none is put out
  says_calm : (o : Output) (sc : WorldTurn) → AllCalm (o ∷ []) → list_all is_no_conflict sc.seen ≡ true → list_all is_no_conflict (server_says sc (server s) o).seen ≡ true
  unfolding server_says server_notes sends cuts
  says_calm (outputs.Send m) sc a h = list_all-append is_no_conflict sc.seen _ ∙ and_both _ _ h (and_both _ true (ap not a.one) refl)
  says_calm (outputs.Note (notes.Suspected c start)) sc a h = list_all-append is_no_conflict sc.seen _ ∙ ap (λ b. b && true) h
  says_calm (outputs.Note (notes.Stolen c life)) sc a h = list_all-append is_no_conflict sc.seen _ ∙ ap (λ b. b && true) h
  says_calm (outputs.Note (notes.CutDone f p)) sc a h = list_all-append is_no_conflict sc.seen _ ∙ ap (λ b. b && true) h
  says_calm (outputs.Note n) sc a h = h
  says_calm (outputs.Answer x y) sc a h = h
  says_calm (outputs.Submit x y z) sc a h = h

  all_calm : (os : List Output) (sc : WorldTurn) → AllCalm os → list_all is_no_conflict sc.seen ≡ true → list_all is_no_conflict (server_says_all (server s) os sc).seen ≡ true
  unfolding server_says_all
  all_calm [] sc a h = h
  all_calm (outputs.Send m ∷ os) sc a h = all_calm os _ a.rest (says_calm (outputs.Send m) sc (record { one = a.one; rest = tt }) h)
  all_calm (outputs.Note n ∷ os) sc a h = all_calm os _ a (says_calm (outputs.Note n) sc tt h)
  all_calm (outputs.Answer x y ∷ os) sc a h = all_calm os _ a (says_calm (outputs.Answer x y) sc tt h)
  all_calm (outputs.Submit x y z ∷ os) sc a h = all_calm os _ a (says_calm (outputs.Submit x y z) sc tt h)

  stepped_late : (w : World) (node : ServerNode) (G : ℕ → Ghost) (i : ServerInput) → ConfigOk k → node.running ≡ true → Settings k w → ((c : ℕ) → EndedBy c s (ended c) w.ended) → Stands k s ended w node G →
      ((c : ℕ) → ReceivedInput k (client_in w c s (ended c)) (clock_of w (nodes.Server (server s))) c i (G c).net) → WishInput i → Reassertions node.state (clock_of w (nodes.Server (server s))) i → w.net.bytes < 536870912 → SteppedLate w (server_takes (counted w) (server s) i node) node G
  stepped_late w node G i ok runs settings ends st received wish owed below =
      let step = works (counted w) node G i ok runs (counted_stands w node G st) received wish in
      record {
        node2 = stepped k 0 s (ended 0) (counted w) node i;
        runs = runs;
        calm = λ c. let z = calm_step node.state (clock_of w (nodes.Server (server s))) i owed wish c in record { once = z.once; kept = z.kept };
        few = λ f. let z = taken_step node.state (clock_of w (nodes.Server (server s))) i wish in
            subst (λ (sc : WorldTurn). Few sc.world.net.bytes (stepped k 0 s (ended 0) (counted w) node i).state) (sym (takes_is (counted w) (server s) i node runs))
            (let b = all_bytes (server s) (server_step node.state (clock_of w (nodes.Server (server s))) i).out (quiet_scene (with_node (server s) (stepped k 0 s (ended 0) (counted w) node i) (counted w))) in
            record { paid = let p = f.paid in let q = z.paid in omega arith; few = let p = f.paid in let q = z.one in omega arith });
        quiet = λ c. let z = calm_step node.state (clock_of w (nodes.Server (server s))) i owed wish c in
            subst (λ (sc : WorldTurn). list_all is_no_conflict sc.seen ≡ true) (sym (takes_is (counted w) (server s) i node runs)) (all_calm (server_step node.state (clock_of w (nodes.Server (server s))) i).out _ z.calm refl);
        step = record { ghosts = step.ghosts; stands = step.stands; grows = step.grows; drift = step.drift; parts = counted_parts step.parts; keeps = step.keeps };
        late = λ t e known shown. by_world t e settings ends known (λ c. (G c, (counted_stands w node G st).served c, (invariant k (pairs s ended w node G) ok st.reached c).timing_, shown c));
      }
    where
      by_world : (t : Traced) → t.world ≡ w → Settings k w → ((c : ℕ) → EndedBy c s (ended c) w.ended) → DatesKnown w t.history.dates →
          ((c : ℕ) → (x : Ghost) × Served k.wait c s (counted w) node x × Timing k (pair c s (ended c) w node x) × DatesShown k.lease c s t.history.dates x.net) → list_all (is_late t) (server_takes (counted w) (server s) i node).seen ≡ true
      by_world t e settings ends known inv =
          subst (λ w. Settings k w → ((c : ℕ) → EndedBy c s (ended c) w.ended) → DatesKnown w t.history.dates → ((c : ℕ) → (x : Ghost) × Served k.wait c s (counted w) node x × Timing k (pair c s (ended c) w node x) × DatesShown k.lease c s t.history.dates x.net) →
          list_all (is_late t) (server_takes (counted w) (server s) i node).seen ≡ true) e
          (λ settings ends known inv. thefts_come_late k t s node i ok settings runs wish ended ends known inv) settings ends known inv

  -- a message that is delivered to the server
  pub delivered : (w : World) (n : ℕ) (m : SentMessage) (sc : WorldTurn) (node : ServerNode) (G : ℕ → Ghost) → ConfigOk k → 1 ≤ s → node.running ≡ true → Settings k w → ((c : ℕ) → EndedBy c s (ended c) w.ended) →
      world_step w (events.Deliver n) ≡ Ok sc → message_of w n ≡ Some m → receiver_of m ≡ nodes.Server (server s) → Stands k s ended w node G → SteppedLate w sc node G
  delivered w n m sc node G ok pos runs settings ends e em er st =
      subst (λ sc. SteppedLate w sc node G) (sym (delivery_is k 0 s (ended 0) w n m node em er (st.served 0).found) ∙ taken w (events.Deliver n) sc e)
      (stepped_late w node G (Control m.message) ok runs settings ends st received (λ f. wish_of m.message.body (received m.message.header.from f refl).wishes)
      (reassertions k s ended w node G ok runs st m.message (λ f. received m.message.header.from f refl)) (delivery_below w n m (step_happens w (events.Deliver n) sc e).0 em))
    where
      received : (c : ℕ) → is_client_node m.message.header.from ≡ true → m.message.header.from ≡ c → Received m.message.header m.message.body (G c).net
      received c f g = ((st.served c).wires m (message_has w n m em)).to_server (to_server m.message.header.to s pos er) f g

  -- a tick of the server
  pub ticked : (w : World) (sc : WorldTurn) (node : ServerNode) (G : ℕ → Ghost) → ConfigOk k → node.running ≡ true → Settings k w → ((c : ℕ) → EndedBy c s (ended c) w.ended) →
      world_step w (events.Tick (nodes.Server (server s))) ≡ Ok sc → Stands k s ended w node G → SteppedLate w sc node G
  ticked w sc node G ok runs settings ends e st =
      subst (λ sc. SteppedLate w sc node G) (sym (tick_is k 0 s (ended 0) w node (st.served 0).found) ∙ taken w (events.Tick (nodes.Server (server s))) sc e)
      (stepped_late w node G Tick ok runs settings ends st (λ c. tt) tt (no_reassertions node.state (clock_of w (nodes.Server (server s)))) (tick_below w (server s) (step_happens w (events.Tick (nodes.Server (server s))) sc e).0))
