-- A server's step in the world, for one client: by a tick, or by a message that comes.
use Rattle.st_lemmas.proofs.Words
use Words.{◌≡◌, if◌then◌else◌, ℕ, zero, suc, ◌+◌, ◌≤◌, ◌⊎◌, Bool, true, false, List, [], ◌∷◌, refl, sym, ap, ◌∙◌, subst, inl, inr, arith, leb-true, ◌-◌, nat_le}
use Words.{pred, set, slice_get, cond, length, unwrap_or, Option, Some, None, Result as Res, Ok, Err, ServerId, Stamp, NodeId, Message, Output, Event}
use Words.{ServerInput, WorldRefusal, SentMessage}
use Words.nodes
use Words.notes
use Words.outputs
use Words.events
use Words.serving.{Tick, Control}
use Words.Keys.{client}
use Words.Leases.{steal_wait}
use Words.Server.{ServerState, ServerNode, ServerTurn, server_step, node_turn, node_step, is_client_node}
use Words.World.{World, numbered, node_of, clock_of, message_of, receiver_of, server, stamp, node_at}
use Words.Admissible.{refusal}
use Words.Events.{WorldTurn, quiet, counted, with_node, sends, cuts, server_notes, server_says, server_says_all, server_took, server_takes, ticks, at_server}
use Words.Events.{delivers_to, delivers, happens, world_by, world_step}
use Words.Lists.{Has}
use Words.Tables.{has_append, and_true}
use Words.Numbers.{get_has}
use Rattle.st_rules.specs.declared.node.StepRefusal.TheVariants.{Crashed}
use Rattle.st_protocol.proofs.Invariant.{Invariant}
use Rattle.st_protocol.specs.Assoc.{Config, ConfigOk, Msg, Moves}
use Rattle.st_laws_refine.specs.Views.Halves.{Ghost, half_of}
use Rattle.st_laws_refine.specs.Server.View.{at, SaidOne, Said, Sound, StandsAt}
use Rattle.st_laws_refine.specs.Server.Pair.{client_at_site, client_in, pair, Wire, Wires, Served}
use Rattle.st_laws_refine.specs.Server.Edits.{WishInput}
use Rattle.st_laws_refine.proofs.Views.Moves.{received_more, moved, Grows, moves_grow, shown_more}
use Rattle.st_laws_refine.proofs.Server.Outputs.{all_has, step_outs}
use Rattle.st_laws_refine.proofs.Server.Step.{ReceivedInput, step_goes}

-- what a server's outputs leave as it is
pub record SameParts (w v : World) : Type 0 where
  pub clients : v.clients ≡ w.clients
  pub servers : v.servers ≡ w.servers
  pub clocks : v.clocks ≡ w.clocks
  pub ended : v.ended ≡ w.ended
  pub config : v.config ≡ w.config
  pub drift : v.drift ≡ w.drift
  pub form : v.form ≡ w.form

same_parts : (w : World) → SameParts w w
same_parts w = record { clients = refl; servers = refl; clocks = refl; ended = refl; config = refl; drift = refl; form = refl }

then_parts : (u v w : World) → SameParts u v → SameParts v w → SameParts u w
then_parts u v w p q = record { clients = q.clients ∙ p.clients; servers = q.servers ∙ p.servers; clocks = q.clocks ∙ p.clocks; ended = q.ended ∙ p.ended; config = q.config ∙ p.config; drift = q.drift ∙ p.drift; form = q.form ∙ p.form }

says_parts : (s : ServerId) (o : Output) (sc : WorldTurn) → SameParts sc.world (server_says sc s o).world
unfolding server_says server_notes sends cuts
says_parts s (outputs.Send m) sc = record { clients = refl; servers = refl; clocks = refl; ended = refl; config = refl; drift = refl; form = refl }
says_parts s (outputs.Note (notes.Suspected c start)) sc = same_parts sc.world
says_parts s (outputs.Note (notes.Stolen c life)) sc = record { clients = refl; servers = refl; clocks = refl; ended = refl; config = refl; drift = refl; form = refl }
says_parts s (outputs.Note (notes.CutDone f p)) sc = record { clients = refl; servers = refl; clocks = refl; ended = refl; config = refl; drift = refl; form = refl }
says_parts s (outputs.Note n) sc = same_parts sc.world
says_parts s o sc = same_parts sc.world

pub all_parts : (s : ServerId) (os : List Output) (sc : WorldTurn) → SameParts sc.world (server_says_all s os sc).world
unfolding server_says_all
all_parts s [] sc = same_parts sc.world
all_parts s (o ∷ os) sc = then_parts sc.world (server_says sc s o).world _ (says_parts s o sc) (all_parts s os (server_says sc s o))

-- the messages after them
says_messages : (s : ServerId) (o : Output) (sc : WorldTurn) (m : SentMessage) → Has m (server_says sc s o).world.net.messages → Has m sc.world.net.messages ⊎ (o ≡ outputs.Send m.message)
unfolding server_says server_notes sends cuts
says_messages s (outputs.Send q) sc m h = go (has_append sc.world.net.messages (record { message = q; lost = false } ∷ []) m h)
  where
    go : Has m sc.world.net.messages ⊎ Has m (record { message = q; lost = false } ∷ []) → Has m sc.world.net.messages ⊎ (◌≡◌ {A = Output} (outputs.Send q) (outputs.Send m.message))
    go (inl i) = inl i
    go (inr (inl e)) = inr (ap (λ (x : SentMessage). outputs.Send x.message) (sym e))
    go (inr (inr f)) = elim f [ ]
says_messages s (outputs.Note (notes.Suspected c start)) sc m h = inl h
says_messages s (outputs.Note (notes.Stolen c life)) sc m h = inl h
says_messages s (outputs.Note (notes.CutDone f p)) sc m h = inl h
says_messages s (outputs.Note n) sc m h = inl h
says_messages s o sc m h = inl h

pub all_messages : (s : ServerId) (os : List Output) (sc : WorldTurn) (m : SentMessage) → Has m (server_says_all s os sc).world.net.messages → Has m sc.world.net.messages ⊎ Has (outputs.Send m.message) os
unfolding server_says_all
all_messages s [] sc m h = inl h
all_messages s (o ∷ os) sc m h = go (all_messages s os (server_says sc s o) m h)
  where
    go2 : Has m sc.world.net.messages ⊎ (o ≡ outputs.Send m.message) → Has m sc.world.net.messages ⊎ Has (outputs.Send m.message) (o ∷ os)
    go2 (inl i) = inl i
    go2 (inr e) = inr (inl (sym e))

    go : Has m (server_says sc s o).world.net.messages ⊎ Has (outputs.Send m.message) os → Has m sc.world.net.messages ⊎ Has (outputs.Send m.message) (o ∷ os)
    go (inl i) = go2 (says_messages s o sc m i)
    go (inr i) = inr (inr i)

said_has : (d : ℕ) (os : List Output) (N : List Msg) (o : Output) → Said d os N → Has o os → SaidOne d o N
said_has d [] N o s h = elim h [ ]
said_has d (x ∷ os) N o s (inl e) = subst (λ o. SaidOne d o N) (sym e) s.one
said_has d (x ∷ os) N o s (inr i) = said_has d os N o s.rest i

-- every message that is sent is the server's
abbrev pub From : ℕ → List Output → Type 0
From s os = (m : Message) → Has (outputs.Send m) os → m.header.from ≡ 32768 + s

pub not_client : (n s : ℕ) → n ≡ 32768 + s → is_client_node n ≡ true → ⊥
not_client n s e f = let z = leb-true n 16 (and_true (nat_le 1 n) _ f).1 in absurd (omega arith)

pub wire_more : (c s : ℕ) (m : Message) (N M : List Msg) → Grows N M → Wire c s m N → Wire c s m M
wire_more c s m N M g q = record { to_client = λ e f. shown_more m N M g (q.to_client e f); to_server = λ e f h. received_more m.header m.body N M g (q.to_server e f h) }

pub wires_said : (c s : ℕ) (id : ServerId) (os : List Output) (sc : WorldTurn) (N M : List Msg) → Grows N M → From s os → Said c os M → Wires c s sc.world.net.messages N → Wires c s (server_says_all id os sc).world.net.messages M
wires_said c s id os sc N M g from said ws m h = go (all_messages id os sc m h)
  where
    go : Has m sc.world.net.messages ⊎ Has (outputs.Send m.message) os → Wire c s m.message M
    go (inl i) = wire_more c s m.message N M g (ws m i)
    go (inr i) = record { to_client = λ e f. said_has c os M (outputs.Send m.message) said i f; to_server = λ e f h. let z = from m.message i in absurd (not_client m.message.header.from s z f) }

get_set : {A : Type 0} (xs : List A) (i : ℕ) (x y : A) → slice_get xs i ≡ Some x → slice_get (set xs i y) i ≡ Some y
get_set [] i x y e = cc
get_set (z ∷ zs) zero x y e = refl
get_set (z ∷ zs) (suc i) x y e = get_set zs i x y e

set_numbered : {A : Type 0} (xs : List A) (n : ℕ) (x y : A) → numbered xs n ≡ Some x → numbered (set xs (pred n) y) n ≡ Some y
set_numbered xs zero x y e = cc
set_numbered xs (suc n) x y e = get_set xs n x y e

-- an event that the world takes
ok_is : {A B : Type 0} (x y : A) → ◌≡◌ {A = Res A B} (Ok x) (Ok y) → x ≡ y
ok_is {A} {B} x y e = ap value e
  where
    value : Res A B → A
    value (Ok z) = z
    value (Err r) = x

pub taken : (w : World) (e : Event) (sc : WorldTurn) → world_step w e ≡ Ok sc → happens (counted w) e ≡ sc
unfolding world_step world_by
taken w e sc h = go (refusal w e) h
  where
    go : (o : Option WorldRefusal) → world_by w e o ≡ Ok sc → happens (counted w) e ≡ sc
    go None h = ok_is (happens (counted w) e) sc h
    go (Some r) h = cc

pub message_has : (w : World) (n : ℕ) (m : SentMessage) → message_of w n ≡ Some m → Has m w.net.messages
message_has w zero m e = cc
message_has w (suc n) m e = get_has w.net.messages n m e

-- who a message is for
pub to_server : (n s : ℕ) → 1 ≤ s → node_at n ≡ nodes.Server (server s) → n ≡ 32768 + s
unfolding node_at
to_server n s pos e = go (nat_le n 16) refl e
  where
    number : NodeId → ℕ
    number (nodes.Client c) = 0
    number (nodes.Server s) = s.0

    go : (b : Bool) → nat_le n 16 ≡ b → ◌≡◌ {A = NodeId} (cond b (nodes.Client (client n)) (nodes.Server (server (n - 32768)))) (nodes.Server (server s)) → n ≡ 32768 + s
    go true f e = let z = ap number e in absurd (omega arith)
    go false f e = let z = ap number e in omega arith

-- what a step of a server leaves as it is
pub record ClientsSame (w v : World) : Type 0 where
  pub clients : v.clients ≡ w.clients
  pub clocks : v.clocks ≡ w.clocks
  pub ended : v.ended ≡ w.ended
  pub config : v.config ≡ w.config
  pub drift : v.drift ≡ w.drift
  pub form : v.form ≡ w.form

-- a step of a server that runs, in the world
pub takes_is : (w : World) (s : ServerId) (i : ServerInput) (node : ServerNode) → node.running ≡ true →
    server_takes w s i node ≡ server_says_all s (server_step node.state (clock_of w (nodes.Server s)) i).out (quiet (with_node s (record node { state = (server_step node.state (clock_of w (nodes.Server s)) i).state }) w))
unfolding server_takes server_took node_step
takes_is w s i node runs = ap (λ b. server_took w s (if b then Ok (node_turn node (server_step node.state (clock_of w (nodes.Server s)) i)) else Err Crashed)) runs

-- what holds at a server that runs
pub sound_of : (d wait : ℕ) (now : Stamp) (b : Bool) (n : ServerState) (x : Ghost) → b ≡ true → StandsAt d wait now b n x → Sound d wait now n x
sound_of d wait now true n x e s = s
sound_of d wait now false n x e s = cc

pub sound_at : (d wait : ℕ) (now : Stamp) (b : Bool) (n : ServerState) (x : Ghost) → b ≡ true → Sound d wait now n x → StandsAt d wait now b n x
sound_at d wait now true n x e s = s
sound_at d wait now false n x e s = cc

module _ (k : Config) (c s : ℕ) (ended : ℕ → ℕ) where
  clock_server : (u v : World) → SameParts u v → (s : ℕ) → clock_of v (nodes.Server (server s)) ≡ clock_of u (nodes.Server (server s))
  clock_server u v p s = λ j. unwrap_or (numbered (p.clocks j) (length (p.clients j) + s)) (stamp 0)

  client_same : (u v : World) → SameParts u v → client_in u c s ended ≡ client_in v c s ended
  client_same u v p = λ j. client_at_site (record u { clients = sym p.clients j; clocks = sym p.clocks j; config = sym p.config j }) c s ended (numbered (sym p.clients j) c)

  -- if the server runs, the pair is the association that its rules speak of
  pub pair_runs : (w : World) (node : ServerNode) (x : Ghost) → node.running ≡ true → pair c s ended w node x ≡ at (client_in w c s ended) (client c) (clock_of w (nodes.Server (server s))) node.state x
  pair_runs w node x runs = λ j. record { c = client_in w c s ended; s = half_of (client c) (clock_of w (nodes.Server (server s))) (runs j) node.state x; net = x.net }

  -- what a step of the server is for this client
  pub record Steps (w v : World) (node node2 : ServerNode) (x : Ghost) : Type 0 where
    pub ghost : Ghost
    pub moves : Moves k (pair c s ended w node x) (pair c s ended v node2 ghost)
    pub served : Served k.wait c s v node2 ghost
    pub parts : ClientsSame w v

  abbrev pub stepped : World → ServerNode → ServerInput → ServerNode
  stepped w node i = record node { state = (server_step node.state (clock_of w (nodes.Server (server s))) i).state }

  pub takes : (w : World) (node : ServerNode) (x : Ghost) (i : ServerInput) → ConfigOk k → node.running ≡ true → WishInput i → Served k.wait c s w node x → ReceivedInput k (client_in w c s ended) (clock_of w (nodes.Server (server s))) c i x.net →
      Invariant k (pair c s ended w node x) → Steps w (server_takes w (server s) i node).world node (stepped w node i) x
  takes w node x i ok runs wish sd received a =
      let now : Stamp = clock_of w (nodes.Server (server s)) in
      let t : ServerTurn = server_step node.state now i in
      let w1 : World = with_node (server s) (record node { state = t.state }) w in
      let v : World = (server_says_all (server s) t.out (quiet w1)).world in
      let so = sound_of c k.wait now node.running node.state x runs sd.stands in
      let r = step_goes k (client_in w c s ended) now c node.state x i ok received (subst (Invariant k) (pair_runs w node x runs) a) (record { said = tt; sound = so }) in
      let os = step_outs s node.state.config (λ c l. Unit {0}) node.state now i wish sd.id refl (λ c h l. tt) in
      let from : From s t.out = λ m h. all_has s (λ c l. Unit {0}) t.out (outputs.Send m) os.all h in
      let p = all_parts (server s) t.out (quiet w1) in
      let clock : clock_of v (nodes.Server (server s)) ≡ now = clock_server w1 v p s in
      subst (λ (sc : WorldTurn). Steps w sc.world node (stepped w node i) x) (sym (takes_is w (server s) i node runs))
      (record {
        ghost = r.ghost;
        moves = subst (λ b. Moves k b (pair c s ended v (stepped w node i) r.ghost)) (sym (pair_runs w node x runs))
            (moved k _ _ _ r.moves (λ j. record { c = client_same w1 v p j; s = half_of (client c) (sym clock j) (sym runs j) t.state r.ghost; net = r.ghost.net }));
        served = record {
          id = os.id;
          terms = ap steal_wait os.config ∙ sd.terms;
          found = ap (λ xs. numbered xs s) p.servers ∙ set_numbered w.servers s node (record node { state = t.state }) sd.found;
          stands = sound_at c k.wait (clock_of v (nodes.Server (server s))) node.running t.state r.ghost runs (subst (λ now. Sound c k.wait now t.state r.ghost) (sym clock) r.ready.sound);
          wires = wires_said c s (server s) t.out (quiet w1) x.net r.ghost.net (moves_grow r.moves) from r.ready.said sd.wires;
        };
        parts = record { clients = p.clients; clocks = p.clocks; ended = p.ended; config = p.config; drift = p.drift; form = p.form };
      })

  -- what a delivery to the server does
  pub delivery_is : (w : World) (n : ℕ) (m : SentMessage) (node : ServerNode) → message_of w n ≡ Some m → receiver_of m ≡ nodes.Server (server s) → node_of w (server s) ≡ Some node → happens (counted w) (events.Deliver n) ≡ server_takes (counted w) (server s) (Control m.message) node
  unfolding happens delivers delivers_to at_server
  delivery_is w n m node em er found = ap (delivers (counted w)) em ∙ ap (delivers_to (counted w) m.message) er ∙ ap (at_server (counted w) (server s) (Control m.message)) found

  -- and a tick
  pub tick_is : (w : World) (node : ServerNode) → node_of w (server s) ≡ Some node → happens (counted w) (events.Tick (nodes.Server (server s))) ≡ server_takes (counted w) (server s) Tick node
  unfolding happens ticks at_server
  tick_is w node found = ap (at_server (counted w) (server s) Tick) found
