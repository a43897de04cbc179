-- A request that a server serves ends: the session of its client reaches its number, so it isn't served again.
use Rattle.st_lemmas.proofs.Words
use Words.{◌≡◌, ◌⊎◌, ℕ, ◌+◌, arith, Bool, true, false, not, ◌&&◌, ◌==◌, List, [], ◌∷◌, ◌++◌, Option, Some, None, Ok, refl, sym, ap, ◌∙◌, subst, inl, inr, cond, if◌then◌else◌}
use Words.{eqb-true, is_some, Body, ClientId, Epoch, Event, GrantNo, Header, Message, NameOp, PageNo, SentMessage, ServerId, Session, Stamp}
use Words.bodies
use Words.events
use Words.modes
use Words.nodes
use Words.takes
use Words.serving.{Control}
use Words.Authority as authority
use Words.ClientState.{asks_cut_or_name}
use Words.Events as ev
use Words.Events.{WorldTurn, world_step}
use Words.History.{Traced}
use Words.Keys.{client}
use Words.Lists.{Has}
use Words.Lookups.{some_is}
use Words.Numbers.{numbered_own}
use Words.Server as sv
use Words.Server.{Replied, ServerNode, ServerState, ServerTurn, Stable, sender, server_step}
use Words.Sessions as sessions
use Words.Tables.{and_true}
use Words.World as world
use Words.World.{World, message_of, node_of, numbered, receiver_of}
use Rattle.st_lemmas.proofs.Steps.{step_happens}
use Rattle.st_trace.proofs.Server.Taking.{FreshState, Found, found_for, fresh_state}
use Rattle.st_laws_requests.specs.Replies.ServedRequests.{IsBehind}
use Rattle.st_laws_requests.proofs.Replies.Served.{stored_reached}
use Rattle.st_laws_extents.specs.CutRequests.EndedLives.{IsPast}
use Rattle.st_laws_cuts.specs.EndedRequests.{AllPast}
use Rattle.st_laws_cuts.proofs.Events.{same_epoch}
use Rattle.st_laws_names.proofs.Serving.{name_replies}
use Rattle.st_laws_volume.specs.Witness.{does_at, is_done_as, is_fresh, is_in_turn, now_at, serves, turn_of}
use Rattle.st_laws_volume.proofs.TreeTurns.{demanded_state, free_is, fresh_is, granted_state, thefts_stable}
use Rattle.st_laws_volume.proofs.TreeWorld.{node_after, took_servers}

-- What a server does with a request that it serves.
module _ (t : ServerTurn) (now : Stamp) (h : Header) (q : serves t h ≡ true) where
  its_parts : ((sv.is_for t.state h ≡ true) × (not (is_some (authority.started t.state.authority (sender h))) ≡ true))
      × (((h.epoch == t.state.stable.epoch.0) ≡ true) × (is_fresh (sv.take t h) ≡ true))
  its_parts =
      let a = and_true (sv.is_for t.state h && not (is_some (authority.started t.state.authority (sender h)))) (is_in_turn t h) q in (
        and_true (sv.is_for t.state h) (not (is_some (authority.started t.state.authority (sender h)))) a.0,
        and_true (h.epoch == t.state.stable.epoch.0) (is_fresh (sv.take t h)) a.1,
      )

  serves_name_so : (op : NameOp) → sv.receive t now h (bodies.Name op) ≡ sv.serve h (sv.rule t now h (bodies.Name op))
  unfolding sv.receive sv.receive_from sv.by_suspicion sv.by_body sv.of_epoch sv.request sv.request_by
  serves_name_so op =
      ap (λ x. cond x (sv.receive_from t now h (bodies.Name op)) t) its_parts.0.0
      ∙ (ap (sv.by_suspicion t now h (bodies.Name op)) (free_is (authority.started t.state.authority (sender h)) its_parts.0.1)
      ∙ (ap (λ x. cond x (sv.request t now h (bodies.Name op)) (sv.refuse_epoch t h)) its_parts.1.0
      ∙ ap (sv.request_by t now h (bodies.Name op)) (fresh_is (sv.take t h) its_parts.1.1)))

  serves_cut_so : (ino : ℕ) (g : GrantNo) (p : PageNo) → sv.receive t now h (bodies.Cut ino g p) ≡ sv.serve h (sv.rule t now h (bodies.Cut ino g p))
  unfolding sv.receive sv.receive_from sv.by_suspicion sv.by_body sv.of_epoch sv.request sv.request_by
  serves_cut_so ino g p =
      ap (λ x. cond x (sv.receive_from t now h (bodies.Cut ino g p)) t) its_parts.0.0
      ∙ (ap (sv.by_suspicion t now h (bodies.Cut ino g p)) (free_is (authority.started t.state.authority (sender h)) its_parts.0.1)
      ∙ (ap (λ x. cond x (sv.request t now h (bodies.Cut ino g p)) (sv.refuse_epoch t h)) its_parts.1.0
      ∙ ap (sv.request_by t now h (bodies.Cut ino g p)) (fresh_is (sv.take t h) its_parts.1.1)))

  abbrev Ruled : Body → Type 0
  Ruled b = (sv.receive t now h b ≡ sv.serve h (sv.rule t now h b)) × ((sv.rule t now h b).turn.state.sessions ≡ t.state.sessions)

  cut_kept : (ino : ℕ) (g : GrantNo) (p : PageNo) → (sv.rule t now h (bodies.Cut ino g p)).turn.state.sessions ≡ t.state.sessions
  unfolding sv.rule sv.cut sv.cut_held sv.cut_from sv.not_holder sv.no_file sv.cut_pages
  cut_kept ino g p = file (sv.is_file t ino)
    where
      held : (b : Bool) → (if b then sv.cut_from t ino p else sv.not_holder t ino g).turn.state.sessions ≡ t.state.sessions
      held true = refl
      held false = refl

      file : (b : Bool) → (if b then sv.cut_held t h ino g p else sv.no_file t ino).turn.state.sessions ≡ t.state.sessions
      file true = held (sv.holds t h ino g modes.X)
      file false = refl

  ruled_so : (b : Body) → asks_cut_or_name b ≡ true → Ruled b
  ruled_so (bodies.Cut ino g p) own = (serves_cut_so ino g p, cut_kept ino g p)
  ruled_so (bodies.Name op) own = (serves_name_so op, (name_replies t now h op).kept)
  ruled_so b own = cc own

  its_session : Found t.state.sessions (sender h) (sv.life_in h) (FreshState h.number)
  its_session =
      found_for t.state.sessions (sender h) (sv.life_in h) (sv.epoch_in h) h.number takes.Fresh (FreshState h.number)
      (fresh_is (sv.take t h) its_parts.1.1) (λ r. cc r) (λ r. cc r) (λ r. cc r) (λ y r. fresh_state h.number y r)

  reached : (b answer : Body) → asks_cut_or_name b ≡ true → (sv.rule t now h b).reply ≡ Some answer →
      IsBehind (sessions.session_of (sv.receive t now h b).state.sessions (sender h)) h.life h.number
  unfolding sv.serve sv.keep sv.keep_and_reply sv.reply
  reached b answer own replied =
      subst (λ (u : ServerTurn). IsBehind (sessions.session_of u.state.sessions (sender h)) h.life h.number) (sym (ruled_so b own).0)
      (subst (λ o. IsBehind (sessions.session_of (sv.keep h (sv.rule t now h b).turn o).state.sessions (sender h)) h.life h.number) (sym replied)
      (subst (λ l. IsBehind (sessions.session_of (sessions.store (sv.rule t now h b).turn.state.sessions (sender h) h.number answer) (sender h)) l h.number)
      its_session.of_life
      (stored_reached (sv.rule t now h b).turn.state.sessions (sender h) h.number answer its_session.session
      (ap (λ (v : sessions.Sessions). sessions.session_of v (sender h)) (ruled_so b own).1 ∙ its_session.is) its_session.state)))

-- What follows in the step leaves the sessions.
control_sessions : (x : ServerState) (now : Stamp) (m : Message) →
    (server_step x now (Control m)).state.sessions ≡ (sv.receive (sv.thefts (sv.turn x []) now) now m.header m.body).state.sessions
unfolding server_step sv.take_input sv.suspecting_on sv.demanding sv.demand_by sv.granting sv.grant_waiting sv.grant_by
control_sessions x now m =
    ap (λ (y : ServerState). y.sessions) (demanded_state _ _) ∙ granting (sv.receive (sv.thefts (sv.turn x []) now) now m.header m.body)
  where
    granting : (u : ServerTurn) → (sv.granting u now).state.sessions ≡ u.state.sessions
    granting u = go (sv.in_grace u now)
      where
        go : (b : Bool) → (if b then u else sv.grant_waiting u).state.sessions ≡ u.state.sessions
        go true = refl
        go false = ap (λ (y : ServerState). y.sessions) (granted_state _ _)

done_reply : (b : Body) (o : Option Body) → is_done_as b o ≡ true → (answer : Body) × (o ≡ Some answer)
done_reply b (Some answer) q = (answer, refl)
done_reply (bodies.Cut ino g p) None q = cc q
done_reply (bodies.Name op) None q = cc q
done_reply b None q = cc q

-- A request that comes to a server, which serves it and does what it asks, isn't served again.
module _ (t : World) (e : Event) (sc : WorldTurn) (taken : world_step t e ≡ Ok sc) (s : ServerId) (n : ℕ) (sent : SentMessage) (delivers : e ≡ events.Deliver n)
    (is : message_of t n ≡ Some sent) (receiver : receiver_of sent ≡ nodes.Server s) (node : ServerNode) (at : node_of t s ≡ Some node) (id : node.state.id ≡ s)
    (done : does_at t s (Some node) sent.message ≡ true) (own : asks_cut_or_name sent.message.body ≡ true) where
  abbrev m : Message
  m = sent.message

  abbrev T : ServerTurn
  T = turn_of node (now_at t s)

  abbrev after : ServerNode
  after = node_after node (now_at t s) (Control m)

  runs : (node.running ≡ true) × ((serves T m.header && is_done_as m.body (sv.rule T (now_at t s) m.header m.body).reply) ≡ true)
  runs = and_true node.running _ done

  does_it : (serves T m.header ≡ true) × (is_done_as m.body (sv.rule T (now_at t s) m.header m.body).reply ≡ true)
  does_it = and_true (serves T m.header) (is_done_as m.body (sv.rule T (now_at t s) m.header m.body).reply) runs.1

  behind : IsBehind (sessions.session_of after.state.sessions (sender m.header)) m.header.life m.header.number
  behind =
      let r = done_reply m.body (sv.rule T (now_at t s) m.header m.body).reply does_it.1 in
      subst (λ (v : sessions.Sessions). IsBehind (sessions.session_of v (sender m.header)) m.header.life m.header.number)
      (sym (control_sessions node.state (now_at t s) m)) (reached T (now_at t s) m.header does_it.0 m.body r.0 own r.1)

  epoch : m.header.epoch ≡ after.state.stable.epoch.0
  epoch =
      eqb-true m.header.epoch T.state.stable.epoch.0 (its_parts T (now_at t s) m.header does_it.0).1.0
      ∙ (ap (λ (y : Stable). y.epoch.0) (thefts_stable node.state (now_at t s)) ∙ ap (λ (y : Epoch). y.0) (sym (same_epoch s node (Control m) t id)))

  servers : sc.world.servers ≡ world.with_numbered s.0 after t.servers
  unfolding ev.happens ev.delivers ev.delivers_to ev.at_server
  servers =
      ap (λ (y : WorldTurn). y.world.servers) (step_happens t e sc taken).1
      ∙ (ap (λ x. (ev.happens (ev.counted t) x).world.servers) delivers
      ∙ (ap (λ o. (ev.delivers (ev.counted t) o).world.servers) is
      ∙ (ap (λ d. (ev.delivers_to (ev.counted t) m d).world.servers) receiver
      ∙ (ap (λ o. (ev.at_server (ev.counted t) s (Control m) o).world.servers) at ∙ took_servers t s (Control m) node runs.0))))

  pub ends_there : AllPast sc.world (sender m.header) s m
  ends_there p there =
      subst (λ q. IsPast (sender m.header) q m)
      (some_is (sym (ap (λ xs. numbered xs s.0) servers ∙ numbered_own t.servers s.0 after node at) ∙ there)) (inr (epoch, λ r. behind))
