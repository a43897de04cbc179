-- A server that crashes and starts: one step of the machine for all clients at once.
use Rattle.st_lemmas.proofs.Words
use Words.{◌≡◌, ℕ, ◌^◌, ◌<◌, Bool, true, false, refl, sym, ap, ◌∙◌, subst, inl, Some, Ok, ClientId, Stamp}
use Words.nodes
use Words.events
use Words.Keys.{client}
use Words.Leases.{steal_wait}
use Words.Server.{ServerState, ServerNode, crash, crash_node, start, start_node, begin_epoch}
use Words.World.{World, node_of, clock_of, server}
use Words.Events.{WorldTurn, quiet, counted, with_node, crashes, crashes_server, starts, starts_server, happens, world_step}
use Words.Numbers.{numbered_own}
use Words.Truth.{not_both}
use Rattle.st_protocol.specs.Assoc as net
use Rattle.st_protocol.specs.Assoc.{Config, ConfigOk, Then, Stops, Starts, Move}
use Rattle.st_laws_refine.specs.Views.Halves.{Ghost, half_of}
use Rattle.st_laws_refine.specs.Server.View.{Stopped, StandsAt}
use Rattle.st_laws_refine.specs.Server.Pair.{client_in, pair}
use Rattle.st_laws_refine.specs.Server.Paths.{Leads, SteppedOn}
use Rattle.st_laws_refine.proofs.Server.Delivery.{taken, sound_of}
use Rattle.st_laws_refine.proofs.Server.Epochs as epochs
use Rattle.st_laws_refine.specs.Server.Invariants.{Compat, Stands}

-- no rows fit
no_rows_fit : (n : ServerState) → Compat (crash n).locks
unfolding crash
no_rows_fit n = record { rows = λ c i r e. cc; waits = λ w h. elim h [ ]; fits = λ c d i r q ne e f. cc }

started_rows_fit : (n : ServerState) (now : Stamp) → Compat (start n now).locks
unfolding start begin_epoch
started_rows_fit n now = record { rows = λ c i r e. cc; waits = λ w h. elim h [ ]; fits = λ c d i r q ne e f. cc }

-- what a server's crash and start leave of the world
pub crash_is : (w : World) (s : ℕ) (node : ServerNode) → node_of w (server s) ≡ Some node → happens (counted w) (events.Crash (nodes.Server (server s))) ≡ quiet (with_node (server s) (crash_node node) (counted w))
unfolding happens crashes crashes_server
crash_is w s node e = ap (λ o. quiet (crashes_server (counted w) (server s) o)) e

pub start_is : (w : World) (s : ℕ) (node : ServerNode) → node_of w (server s) ≡ Some node → happens (counted w) (events.Start (nodes.Server (server s))) ≡ quiet (with_node (server s) (start_node node (clock_of w (nodes.Server (server s)))) (counted w))
unfolding happens starts starts_server
start_is w s node e = ap (λ o. quiet (starts_server (counted w) (server s) o)) e

crashed_id : (n : ServerState) → (crash n).id.0 ≡ n.id.0
unfolding crash
crashed_id n = refl

crashed_terms : (n : ServerState) → steal_wait (crash n).config ≡ steal_wait n.config
unfolding crash
crashed_terms n = refl

started_id : (n : ServerState) (now : Stamp) → (start n now).id.0 ≡ n.id.0
unfolding start begin_epoch
started_id n now = refl

started_terms : (n : ServerState) (now : Stamp) → steal_wait (start n now).config ≡ steal_wait n.config
unfolding start begin_epoch
started_terms n now = refl

-- the machine's start, from an emptied state
start_from : (k : Config) (cl : net.Client) (d : ClientId) (now : Stamp) (n : ServerState) (x : Ghost) → 0 < k.wait → steal_wait n.config ≡ k.wait →
    Move k (record { c = cl; s = half_of d now false (crash n) x; net = x.net }) (record { c = cl; s = half_of d now true (start n now) (record x { gstart = now.0; gbase = cl.clock; glife = cl.life }); net = x.net })
unfolding crash start begin_epoch
start_from k cl d now n x pos terms =
    subst (λ a. Move k (record { c = cl; s = half_of d now false (crash n) x; net = x.net }) a)
    (λ j. record { c = cl; s = record (half_of d now true (start n now) (record x { gstart = now.0; gbase = cl.clock; glife = cl.life })) { grace = sym (epochs.grace_on k.wait n now pos terms) j }; net = x.net })
    (Starts (record { c = cl; s = half_of d now false (crash n) x; net = x.net }) refl)

module _ (k : Config) (s : ℕ) (ended : ℕ → ℕ → ℕ) (w : World) (node : ServerNode) (G : ℕ → Ghost) where
  abbrev Now : Stamp
  Now = clock_of w (nodes.Server (server s))

  -- the server stops
  stop_move : (c : ℕ) → node.running ≡ true → Move k (pair c s (ended c) w node (G c)) (pair c s (ended c) (with_node (server s) (crash_node node) (counted w)) (crash_node node) (G c))
  unfolding crash
  stop_move c runs = Stops (pair c s (ended c) w node (G c)) runs

  -- the world after the crash
  pub crash_stands : node.running ≡ true → node.state.locks.grants < 2 ^ 32 → Stands k s ended w node G → Stands k s ended (with_node (server s) (crash_node node) (counted w)) (crash_node node) G
  crash_stands runs few st =
      record {
        reached = Then st.reached (record { each = λ c. inl (stop_move c runs); shared = λ c d. record { up = refl; grace = refl }; table = λ a b. absurd (not_up b.up) });
        served = λ c. let d = st.served c in
            record {
              found = numbered_own w.servers s (crash_node node) node d.found;
              id = crash_id node.state ∙ d.id;
              terms = crash_terms node.state ∙ d.terms;
              stands = epochs.stops c k.wait node.state (G c) Now (sound_of c k.wait Now node.running node.state (G c) runs d.stands) few;
              wires = d.wires;
            };
        compat = no_rows_fit node.state;
      }
    where
      not_up : false ≡ true → ⊥
      not_up e = cc

      crash_id : (n : ServerState) → (crash n).id.0 ≡ n.id.0
      crash_id n = crashed_id n

      crash_terms : (n : ServerState) → steal_wait (crash n).config ≡ steal_wait n.config
      crash_terms n = crashed_terms n

  -- and so the path goes on
  pub crash_leads : ConfigOk k → node.running ≡ true → Stands k s ended w node G → (H : net.World) → Leads k H s ended w node G → Leads k H s ended (with_node (server s) (crash_node node) (counted w)) (crash_node node) G
  crash_leads ok runs st H o = SteppedOn o (record { each = λ c. inl (stop_move c runs); shared = λ c d. record { up = refl; grace = refl }; table = λ a b. absurd (not_up b.up) })
    where
      not_up : false ≡ true → ⊥
      not_up e = cc

  pub crashed : (sc : WorldTurn) → node.running ≡ true → node.state.locks.grants < 2 ^ 32 → world_step w (events.Crash (nodes.Server (server s))) ≡ Ok sc → Stands k s ended w node G → Stands k s ended sc.world (crash_node node) G
  crashed sc runs few e st = subst (λ (sc : WorldTurn). Stands k s ended sc.world (crash_node node) G) (sym (crash_is w s node (st.served 0).found) ∙ taken w (events.Crash (nodes.Server (server s))) sc e) (crash_stands runs few st)

  -- the server starts: the ghosts remember both clocks and the client's life
  abbrev pub started_ghost : ℕ → Ghost
  started_ghost c = record (G c) { gstart = Now.0; gbase = (client_in w c s (ended c)).clock; glife = (client_in w c s (ended c)).life }

  stopped_of : (c : ℕ) (b : Bool) → node.running ≡ b → b ≡ false → StandsAt c k.wait Now b node.state (G c) → Stopped k.wait node.state (G c)
  stopped_of c true r e st = cc
  stopped_of c false r e st = st

  start_move : (c : ℕ) → 0 < k.wait → node.running ≡ false → steal_wait node.state.config ≡ k.wait → Stopped k.wait node.state (G c) →
      Move k (pair c s (ended c) w node (G c)) (pair c s (ended c) (with_node (server s) (start_node node Now) (counted w)) (start_node node Now) (started_ghost c))
  start_move c pos down terms st = subst (λ a. Move k a (pair c s (ended c) (with_node (server s) (start_node node Now) (counted w)) (start_node node Now) (started_ghost c))) (sym before) from_crashed
    where
      crashed_half : ServerState → net.Assoc
      crashed_half n = record { c = client_in w c s (ended c); s = half_of (client c) Now false (crash n) (G c); net = (G c).net }

      before : pair c s (ended c) w node (G c) ≡ crashed_half node.state
      before = λ j. record { c = client_in w c s (ended c); s = half_of (client c) Now (down j) (sym st.emptied j) (G c); net = (G c).net }

      from_crashed : Move k (crashed_half node.state) (pair c s (ended c) (with_node (server s) (start_node node Now) (counted w)) (start_node node Now) (started_ghost c))
      from_crashed = start_from k (client_in w c s (ended c)) (client c) Now node.state (G c) pos terms

  pub start_stands : 0 < k.wait → node.running ≡ false → Stands k s ended w node G → Stands k s ended (with_node (server s) (start_node node Now) (counted w)) (start_node node Now) started_ghost
  start_stands pos down st =
      record {
        reached =
            Then st.reached
            (record {
              each = λ c. inl (start_move c pos down (st.served c).terms (stopped_of c node.running refl down (st.served c).stands));
              shared = λ c d. record { up = refl; grace = refl };
              table = λ a b. absurd (not_both node.running a.up down);
            });
        served = λ c. let d = st.served c in
            record {
              found = numbered_own w.servers s (start_node node Now) node d.found;
              id = started_id node.state Now ∙ d.id;
              terms = started_terms node.state Now ∙ d.terms;
              stands = epochs.starts c k.wait node.state (G c) Now (client_in w c s (ended c)).clock (client_in w c s (ended c)).life pos d.terms (stopped_of c node.running refl down d.stands);
              wires = d.wires;
            };
        compat = started_rows_fit node.state Now;
      }

  -- and so the path goes on
  pub start_leads : ConfigOk k → 0 < k.wait → node.running ≡ false → Stands k s ended w node G → (H : net.World) → Leads k H s ended w node G → Leads k H s ended (with_node (server s) (start_node node Now) (counted w)) (start_node node Now) started_ghost
  start_leads ok pos down st H o =
      SteppedOn o (record {
        each = λ c. inl (start_move c pos down (st.served c).terms (stopped_of c node.running refl down (st.served c).stands));
        shared = λ c d. record { up = refl; grace = refl };
        table = λ a b. absurd (not_both node.running a.up down);
      })

  pub started : (sc : WorldTurn) → 0 < k.wait → node.running ≡ false → world_step w (events.Start (nodes.Server (server s))) ≡ Ok sc → Stands k s ended w node G → Stands k s ended sc.world (start_node node Now) started_ghost
  started sc pos down e st =
      subst (λ (sc : WorldTurn). Stands k s ended sc.world (start_node node Now) started_ghost) (sym (start_is w s node (st.served 0).found) ∙ taken w (events.Start (nodes.Server (server s))) sc e) (start_stands pos down st)
