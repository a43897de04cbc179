-- A request for a cut or a name that ends at a server in an event was served in it: the client wasn't a suspect.
use Rattle.st_lemmas.proofs.Words
use Words.{◌≡◌, ◌⊎◌, ℕ, ◌+◌, ◌<◌, arith, Bool, true, false, not, ◌&&◌, List, [], ◌∷◌, ◌++◌, Option, Some, None, Ok, refl, sym, ap, ◌∙◌, subst, inl, inr}
use Words.{ClientId, Epoch, ServerId, Stamp, Event, Body, Message, SentMessage, Session}
use Words.bodies
use Words.events
use Words.nodes
use Words.takes
use Words.serving.{Control}
use Words.ClientState.{asks_cut_or_name}
use Words.Events as ev
use Words.Events.{WorldTurn, world_step}
use Words.History.{Traced}
use Words.Keys.{client, server_node}
use Words.Lists.{Has}
use Words.Lookups.{some_is}
use Words.Numbers.{numbered_own}
use Words.Safety.{Step, step}
use Words.Server as sv
use Words.Server.{ServerNode, ServerState, ServerTurn, sender, server_step, suspect_client, tell, reply}
use Words.Sessions as sessions
use Words.Tables.{and_both}
use Words.Truth.{clash}
use Words.World as world
use Words.World.{World, message_of, node_of, numbered, receiver_of}
use Words.Worlds.{server_at_node}
use Rattle.st_lemmas.proofs.Steps.{step_happens}
use Rattle.st_trace.specs.Server.Edits.{AtInput, AtSuspicion, AtGrants, AtDemands, Edit, Welcomes, Begins}
use Rattle.st_trace.specs.Server.Edits.{Replaces, PutsOff, Sees, Reasserts, Serves, Repeats, Refuses, Suspects, Grants, Demands}
use Rattle.st_trace.proofs.Server.Taking.{FreshState, Found, found_for, fresh_state}
use Rattle.st_trace.proofs.Server.Walk.{walk_after_thefts}
use Rattle.st_laws_requests.specs.Replies.ServedRequests.{IsBehind, Reached}
use Rattle.st_laws_extents.specs.CutRequests.EndedLives.{IsPast}
use Rattle.st_laws_cuts.proofs.Events.{same_epoch}
use Rattle.st_laws_names.specs.Keys.{ServedAt}
use Rattle.st_laws_volume.specs.Witness.{does_at, is_done_as, now_at, serves, turn_of}
use Rattle.st_laws_volume.proofs.CutNotes.{served_so}
use Rattle.st_laws_volume.proofs.TreeWorld.{node_after, took_servers}

-- A step of a server leaves the session of the client whose request comes, or serves it.
module _ (x : ServerState) (now : Stamp) (m : Message) (own : asks_cut_or_name m.body ≡ true) where
  abbrev T : ServerTurn
  T = sv.thefts (sv.turn x []) now

  abbrev its : ServerTurn → Option Session
  its t = sessions.session_of t.state.sessions (sender m.header)

  abbrev Either : ServerTurn → Type 0
  Either t = (its t ≡ its T) ⊎ (serves T m.header ≡ true)

  came : (k : Message) → Control m ≡ Control k → m ≡ k
  came k e = cc e

  other : (k : Message) (b : Body) → Control m ≡ Control k → k.body ≡ b → asks_cut_or_name b ≡ false → ⊥
  other k b e q n = clash own (ap (λ (y : Message). asks_cut_or_name y.body) (came k e) ∙ (ap asks_cut_or_name q ∙ n))

  comes : (t u : ServerTurn) → Edit x now (Control m) AtInput t u → Either t → Either u
  unfolding reply suspect_client
  comes t u (Welcomes _ k y g e a f) p = p
  comes t u (Begins _ k g f) p = absurd (other k bodies.Hello g.heard.came.is g.asks refl)
  comes t u (Replaces _ k y g e a f r) p = absurd (other k bodies.Hello g.heard.came.is g.asks refl)
  comes t u (PutsOff _ k y g e a f r) p = p
  comes t u (Sees _ k ino g h b e) p = p
  comes t u (Reasserts _ k rows r on f) p = absurd (other k (bodies.Reassert rows) r.asked.heard.came.is r.asks refl)
  comes t u (Serves _ k v b s e r) p =
      inr (subst (λ (j : Message). serves T j.header ≡ true) (sym (came k s.asked.heard.came.is))
      (subst (λ (j : ServerTurn). serves j k.header ≡ true) s.asked.heard.came.first (served_so x now (Control m) t k s)))
  comes t u (Repeats _ k y b a e f g z) p = p
  comes t u (Refuses _ k b r) p = p

  suspects : (t u : ServerTurn) → Edit x now (Control m) AtSuspicion t u → Either t → Either u
  unfolding suspect_client
  suspects t u (Suspects _ c r is q f h e o) p = p

  grants : (t u : ServerTurn) → Edit x now (Control m) AtGrants t u → Either t → Either u
  unfolding tell
  grants t u (Grants _ w off h e f) p = p

  demands : (t u : ServerTurn) → Edit x now (Control m) AtDemands t u → Either t → Either u
  unfolding tell
  demands t u (Demands _ w r y e h f o d) p = p

  stays_or_serves : Either (server_step x now (Control m))
  stays_or_serves = walk_after_thefts x now (Control m) Either comes suspects grants demands (inl refl)

  -- it is the next one of its session
  not_yet : sv.take T m.header ≡ takes.Fresh → IsBehind (its T) m.header.life m.header.number → ⊥
  not_yet fresh b = go (subst (λ o. IsBehind o m.header.life m.header.number) z.is b)
    where
      z : Found T.state.sessions (sender m.header) (sv.life_in m.header) (FreshState m.header.number)
      z = found_for T.state.sessions (sender m.header) (sv.life_in m.header) (sv.epoch_in m.header) m.header.number takes.Fresh (FreshState m.header.number)
          fresh
          (λ r. cc r) (λ r. cc r) (λ r. cc r) (λ y r. fresh_state m.header.number y r)

      go : IsBehind (Some z.session) m.header.life m.header.number → ⊥
      go (inl l) = let y = z.of_life in omega (arith, l, y)
      go (inr l) = let y = subst (Reached m.header.number) z.state.is l.1 in let q = z.state.next in omega (arith, y, q)

  pub was_served : sv.take T m.header ≡ takes.Fresh → IsBehind (its (server_step x now (Control m))) m.header.life m.header.number → serves T m.header ≡ true
  was_served fresh b = go stays_or_serves
    where
      go : Either (server_step x now (Control m)) → serves T m.header ≡ true
      go (inr q) = q
      go (inl q) = absurd (not_yet fresh (subst (λ o. IsBehind o m.header.life m.header.number) q b))

-- A request that was served in an event comes to the server, which serves it and does what it asks.
module _ (t : Traced) (e : Event) (sc : WorldTurn) (taken : world_step t.world e ≡ Ok sc) (c : ClientId) (s : ServerId) (life epoch number : ℕ) (answer : Body)
    (z : ServedAt (step t e sc) c s life epoch number answer) (id : z.serves.old.state.id ≡ s) (own : asks_cut_or_name z.sent.message.body ≡ true)
    (finished : is_done_as z.sent.message.body (Some answer) ≡ true) where
  abbrev m : Message
  m = z.sent.message

  abbrev node : ServerNode
  node = z.serves.old

  abbrev after : ServerNode
  after = node_after node (now_at t.world s) (Control m)

  pub receiver : receiver_of z.sent ≡ nodes.Server s
  receiver = server_at_node m.header.to s z.serves.keyed.between.1

  servers : sc.world.servers ≡ world.with_numbered s.0 after t.world.servers
  unfolding ev.happens ev.delivers ev.delivers_to ev.at_server
  servers =
      ap (λ (y : WorldTurn). y.world.servers) (step_happens t.world e sc taken).1
      ∙ (ap (λ x. (ev.happens (ev.counted t.world) x).world.servers) z.delivers
      ∙ (ap (λ o. (ev.delivers (ev.counted t.world) o).world.servers) z.is
      ∙ (ap (λ n. (ev.delivers_to (ev.counted t.world) m n).world.servers) receiver
      ∙ (ap (λ o. (ev.at_server (ev.counted t.world) s (Control m) o).world.servers) z.serves.was
      ∙ took_servers t.world s (Control m) node z.serves.running))))

  became : z.serves.new ≡ after
  became =
      some_is
      (sym z.serves.became ∙ (ap (λ xs. numbered xs s.0) servers ∙ numbered_own t.world.servers s.0 after node z.serves.was))

  ends : IsPast c after m
  ends = subst (λ n. IsPast c n m) became (z.serves.gone z.serves.new z.serves.became)

  behind : IsBehind (sessions.session_of after.state.sessions c) m.header.life m.header.number
  behind = go ends
    where
      go : IsPast c after m → IsBehind (sessions.session_of after.state.sessions c) m.header.life m.header.number
      go (inr q) = q.1 z.serves.running
      go (inl l) =
          let y = z.serves.served.of_epoch in
          let q = ap (λ (n : Epoch). n.0) (same_epoch s node (Control m) t.world id) in
          absurd (no l y q)
        where
          no : m.header.epoch < after.state.stable.epoch.0 → m.header.epoch ≡ node.state.stable.epoch.0 →
              after.state.stable.epoch.0 ≡ node.state.stable.epoch.0 → ⊥
          no l y q = omega (arith, l, y, q)

  from : client m.header.from ≡ c
  from = ap (λ n. record { 0 = n }) z.serves.keyed.between.0

  served : serves (turn_of node (now_at t.world s)) m.header ≡ true
  served =
      was_served node.state (now_at t.world s) m own z.serves.fresh
      (subst (λ d. IsBehind (sessions.session_of after.state.sessions d) m.header.life m.header.number) (sym from) behind)

  pub done_there : does_at t.world s (node_of t.world s) m ≡ true
  done_there =
      ap (λ o. does_at t.world s o m) z.serves.was
      ∙ and_both node.running _ z.serves.running
      (and_both (serves (turn_of node (now_at t.world s)) m.header) _ served
      (ap (is_done_as m.body) z.serves.replied ∙ finished))
