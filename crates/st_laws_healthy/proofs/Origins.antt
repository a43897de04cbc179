-- Each reply of a server to a client, and each session of the client there, is of a life in which the client sent it a message.
use Rattle.st_lemmas.proofs.Words
use Words.{◌≡◌, ◌≢◌, ℕ, ◌≤◌, ◌⊎◌, Bool, true, false, List, [], ◌∷◌, Option, Some, None, Ok, refl, sym, ap, ◌∙◌, subst, inl, inr, arith}
use Words.{if◌then◌else◌, find, map, ClientId, ServerId, Stamp, Event, Message, ServerInput, Session}
use Words.outputs
use Words.nodes
use Words.serving
use Words.Events.{WorldTurn, world_step}
use Words.History.{Traced}
use Words.Keys.{same_client, server_node}
use Words.Safety.{Step}
use Words.Server as sv
use Words.Server.{ServerNode, ServerState, ServerTurn, server_step, steal_at, steal_each, thefts, turn, with_authority}
use Words.Sessions as sessions
use Words.Sessions.{Sessions, end_of, is_session_of, session_of}
use Words.World.{World, clock_of, node_of}
use Words.Lists.{Has}
use Words.Lookups.{some_is}
use Words.Tables.{cond_either, has_map_in}
use Words.Numbers.{numbered_has}
use Rattle.st_lemmas.proofs.Steps.{step_happens}
use Rattle.st_laws_leases.specs.Dates.Dates.{Dated, message_in, messages}
use Rattle.st_laws_leases.proofs.Dates.Steps as dating_steps
use Rattle.st_laws_healthy.proofs.Happening.{BringsServer, ClientSteps, Delivers, Happened, IsBroken, NeitherSteps, ServerSteps, happened}
use Rattle.st_laws_healthy.proofs.Lives.{ComesFrom, IsOf, IsOlder, comes_from}
use Rattle.st_laws_healthy.proofs.Served.{From, To}
use Rattle.st_laws_healthy.proofs.Serving.{Answers, does}
use Rattle.st_laws_healthy.proofs.Telling.{IsUnasked, step_sends, step_sessions, tick_sends, tick_sessions}

-- Thefts leave the lives of sessions.
module _ (c : ClientId) where
  -- a session of the client with the life of this one
  abbrev Was : Sessions → Session → Type 0
  Was v y = (z : Session) × (session_of v c ≡ Some z) × (y.life ≡ z.life)

  row_client : (x : ClientId) (r : Session) → (end_of x r).client ≡ r.client
  unfolding sessions.ended
  row_client x r = cond_either (λ (y : Session). y.client ≡ r.client) (is_session_of x r) (sessions.ended r) r (λ e. refl) (λ e. refl)

  row_life : (x : ClientId) (r : Session) → (end_of x r).life ≡ r.life
  unfolding sessions.ended
  row_life x r = cond_either (λ (y : Session). y.life ≡ r.life) (is_session_of x r) (sessions.ended r) r (λ e. refl) (λ e. refl)

  found_row : (x : ClientId) (rows : List Session) (y : Session) → find (is_session_of c) (map (end_of x) rows) ≡ Some y →
      (z : Session) × (find (is_session_of c) rows ≡ Some z) × (y.life ≡ z.life)
  found_row x [] y e = cc
  found_row x (r ∷ rs) y e =
      by (λ f. found_row x rs y f) (is_session_of c r) refl
      (ap (λ (i : ClientId). if same_client i c then Some (end_of x r) else find (is_session_of c) (map (end_of x) rs)) (sym (row_client x r)) ∙ e)
    where
      by : (find (is_session_of c) (map (end_of x) rs) ≡ Some y → (z : Session) × (find (is_session_of c) rs ≡ Some z) × (y.life ≡ z.life)) →
          (b : Bool) → is_session_of c r ≡ b → (if b then Some (end_of x r) else find (is_session_of c) (map (end_of x) rs)) ≡ Some y →
          (z : Session) × (find (is_session_of c) (r ∷ rs) ≡ Some z) × (y.life ≡ z.life)
      by rest true q f = (
        r,
        ap (λ b. if b then Some r else find (is_session_of c) rs) q,
        ap (λ (z : Session). z.life) (sym (some_is f)) ∙ row_life x r,
      )
      by rest false q f = let z = rest f in (z.0, ap (λ b. if b then Some r else find (is_session_of c) rs) q ∙ z.1, z.2)

  stolen : (t : ServerTurn) (x : ClientId) (o : Option Session) (y : Session) → session_of (steal_at t x o).state.sessions c ≡ Some y → Was t.state.sessions y
  unfolding steal_at sv.steal_from sessions.end
  stolen t x None y e = (y, e, refl)
  stolen t x (Some z) y e = found_row x t.state.sessions.rows y e

  stolen_each : (xs : List ClientId) (t : ServerTurn) (y : Session) → session_of (steal_each xs t).state.sessions c ≡ Some y → Was t.state.sessions y
  unfolding steal_each sv.steal
  stolen_each [] t y e = (y, e, refl)
  stolen_each (x ∷ xs) t y e =
      let z = stolen_each xs (sv.steal t x) y e in
      let w = stolen t x (session_of t.state.sessions x) z.0 z.1 in
      (w.0, w.1, z.2 ∙ w.2)

  pub before_thefts : (n : ServerState) (now : Stamp) (y : Session) → session_of (thefts (turn n []) now).state.sessions c ≡ Some y → Was n.sessions y
  unfolding thefts
  before_thefts n now y e = stolen_each _ (with_authority (Rattle.st_rules.specs.Authority.still_running n.authority now) (turn n [])) y e

module _ (c : ClientId) (s : ServerId) where
  -- a message of the client to the server in this life
  pub record SaidIn (life : ℕ) (ms : List Message) : Type 0 where
    pub by : Message
    pub among : Has by ms
    pub way : To c s by
    pub of_life : by.header.life ≡ life

  -- What holds of a world.
  pub record Origins (w : World) : Type 0 where
    pub replies : (m : Message) → Has m (messages w) → From c s m → IsUnasked m ⊎ SaidIn m.header.life (messages w)
    pub lives : (node : ServerNode) → node_of w s ≡ Some node → (y : Session) → session_of node.state.sessions c ≡ Some y → SaidIn y.life.0 (messages w)

  module _ (past : List Step) (t : Traced) (e : Event) (sc : WorldTurn) (d : Dated past t) (few : c.0 ≤ 16) (h : world_step t.world e ≡ Ok sc)
      (o : Origins t.world) where
    abbrev M1 : List Message
    M1 = messages t.world

    abbrev M2 : List Message
    M2 = messages sc.world

    stays_sent : (m : Message) → Has m M1 → Has m M2
    stays_sent m i =
        let z = step_happens t.world e sc h in
        (subst (λ (y : WorldTurn). dating_steps.Next t e y) (sym z.1) (dating_steps.happens past t d e z.0)).old m i

    more : (life : ℕ) → SaidIn life M1 → SaidIn life M2
    more life z = record { by = z.by; among = stays_sent z.by z.among; way = z.way; of_life = z.of_life }

    old_reply : (m : Message) → Has m M1 → From c s m → IsUnasked m ⊎ SaidIn m.header.life M2
    old_reply m i f = by (o.replies m i f)
      where
        by : IsUnasked m ⊎ SaidIn m.header.life M1 → IsUnasked m ⊎ SaidIn m.header.life M2
        by (inl u) = inl u
        by (inr z) = inr (more m.header.life z)

    old_life : (node : ServerNode) → node_of t.world s ≡ Some node → (y z : Session) → session_of node.state.sessions c ≡ Some z → y.life ≡ z.life →
        SaidIn y.life.0 M2
    old_life node f y z q l = subst (λ (v : Rattle.st_base.specs.declared.ids.Life.Life). SaidIn v.0 M2) (sym l) (more z.life.0 (o.lives node f z q))

    -- A step of the server.
    module _ (old : ServerNode) (at : node_of t.world s ≡ Some old) (now : Stamp) where
      -- the message that it takes
      brought : (m : Message) → Delivers t.world e m → Has m M1
      brought m v = subst (λ (y : Message). Has y M1) (sym v.is)
          (has_map_in message_in t.world.net.messages v.sent (numbered_has t.world.net.messages v.number v.sent v.there))

      said_by : (m : Message) → Delivers t.world e m × (m.header.to ≡ server_node s) → m.header.from ≡ c.0 → SaidIn m.header.life M2
      said_by m b f = record { by = m; among = stays_sent m (brought m b.0); way = record { from = f; to = b.1 }; of_life = refl }

      reply : (i : ServerInput) → BringsServer t.world e (server_node s) i → (r : Message) → Has (outputs.Send r) (server_step old.state now i).out →
          From c s r → IsUnasked r ⊎ SaidIn r.header.life M2
      reply serving.Tick b r k f = inl (tick_sends old.state now r k)
      reply (serving.Control m) b r k f = by (step_sends old.state now m r k)
        where
          by : IsUnasked r ⊎ Answers now m.header (thefts (turn old.state []) now) m.body r → IsUnasked r ⊎ SaidIn r.header.life M2
          by (inl u) = inl u
          by (inr a) =
              let to = ap (λ (x : Message). x.header.to) a.is in
              let life = ap (λ (x : Message). x.header.life) a.is in
              inr (subst (λ n. SaidIn n M2) (sym life) (said_by m b (sym to ∙ f.to)))

      life_of : (i : ServerInput) → BringsServer t.world e (server_node s) i → (y : Session) →
          session_of (server_step old.state now i).state.sessions c ≡ Some y → SaidIn y.life.0 M2
      life_of serving.Tick b y q =
          let z = before_thefts c old.state now y (ap (λ v. session_of v c) (sym (tick_sessions old.state now)) ∙ q) in
          old_life old at y z.0 z.1 z.2
      life_of (serving.Control m) b y q =
          by (comes_from now m.header u (sv.receive u now m.header m.body) m.body c (does now m.header u m.body) y
          (ap (λ v. session_of v c) (sym (step_sessions old.state now m)) ∙ q))
        where
          u : ServerTurn
          u = thefts (turn old.state []) now

          by : ComesFrom now m.header u (sv.receive u now m.header m.body) m.body c y → SaidIn y.life.0 M2
          by (IsOlder x f l) = let z = before_thefts c old.state now x f in old_life old at y z.0 z.1 (l ∙ z.2)
          by (IsOf f l) = subst (λ n. SaidIn n M2) (sym l) (said_by m b f)

    pub origins : Origins sc.world
    origins = go (happened past t d c s few e sc h)
      where
        go : Happened past t d c s few e sc → Origins sc.world
        go (ClientSteps site old i now is_now same at brings deaf there nodes_same clocks many new from said) =
            record { replies = λ m k f. by m f (new m k); lives = λ node f y q. old_life node (sym nodes_same ∙ f) y y q refl }
          where
            by : (m : Message) → From c s m → Has m M1 ⊎ Has (outputs.Send m) (Rattle.st_rules.specs.Client.client_step site.node.state now i).out →
                IsUnasked m ⊎ SaidIn m.header.life M2
            by m f (inl k) = old_reply m k f
            by m f (inr k) = let x = from m k in let y = f.from in absurd (omega (arith, x, y, few))
        go (ServerSteps old i at brings deaf there sites clocks many new from told) =
            record {
              replies = λ m k f. by m f (new m k);
              lives = λ node f y q. life_of old at (clock_of t.world (nodes.Server s)) i brings y
                  (ap (λ (v : ServerNode). session_of v.state.sessions c) (some_is (sym there ∙ f)) ∙ q);
            }
          where
            by : (m : Message) → From c s m → Has m M1 ⊎ Has (outputs.Send m) (server_step old.state (clock_of t.world (nodes.Server s)) i).out →
                IsUnasked m ⊎ SaidIn m.header.life M2
            by m f (inl k) = old_reply m k f
            by m f (inr k) = reply old at (clock_of t.world (nodes.Server s)) i brings m k f
        go (NeitherSteps same nodes_same later deaf deaf_server new) =
            record { replies = λ m k f. by m f (new m k); lives = λ node f y q. old_life node (sym nodes_same ∙ f) y y q refl }
          where
            by : (m : Message) → From c s m → Has m M1 ⊎ ((m.header.from ≢ c.0) × (m.header.from ≢ server_node s)) → IsUnasked m ⊎ SaidIn m.header.life M2
            by m f (inl k) = old_reply m k f
            by m f (inr ne) = absurd (ne.1 f.from)
        go (IsBroken b same fewer) =
            record {
              replies = λ m k f. old_reply m (subst (Has m) same k) f;
              lives = λ node f y q. let z = fewer node f y q in old_life z.0 z.1 y y z.2 refl;
            }

-- at the start of a run nothing was said
pub none_said : (c : ClientId) (s : ServerId) (w : World) → messages w ≡ [] →
    ((node : ServerNode) → node_of w s ≡ Some node → session_of node.state.sessions c ≡ None) → Origins c s w
none_said c s w e none = record {
  replies = λ m h f. absurd (subst (Has m) e h);
  lives = λ node f y q. absurd (no y (sym (none node f) ∙ q));
}
  where
    no : (y : Session) → ◌≡◌ {A = Option Session} None (Some y) → ⊥
    no y q = cc
