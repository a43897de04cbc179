-- A client that left is welcomed at once, if its greeting is delivered outside grace.
use Rattle.st_lemmas.proofs.Words
use Words.{◌≡◌, ◌≤◌, ◌+◌, ◌-◌, ◌==◌, ◌&&◌, ◌||◌, ℕ, Bool, true, false, not, List, [], ◌∷◌, find, Option, Some, None, Ok, length, refl, sym, ap, ◌∙◌, subst, inl, inr, arith, if◌then◌else◌, eq-eqb, eqb-true, le-leb, leb-true, nat_le}
use Words.{Body, Message, Observation, Output, SentMessage, ServerId, Session}
use Words.bodies
use Words.events
use Words.nodes
use Words.outputs
use Words.serving.{Control}
use Words.ClientState.{Association, is_at}
use Words.Events as ev
use Words.Events.{WorldTurn, quiet}
use Words.Grace as grace
use Words.Keys.{client, server_node}
use Words.Lists.{Has}
use Words.Server.{ServerNode}
use Words.Sessions.{session_of}
use Words.Tables.{and_both, and_true, found_at, has_map_in, none_has, not_true}
use Words.Truth.{clash, false_not_true}
use Words.World as world
use Words.World.{World, WorldClient, clock_of, is_running, message_of, node_of, node_runs, numbered}
use Rattle.st_rules.specs.declared.observation.Observation.TheVariants as plain_seen
use Rattle.st_third.specs.declared.event.ThirdEvent.{ThirdEvent}
use Rattle.st_third.specs.declared.event.ThirdEvent.TheVariants as third
use Rattle.st_third.specs.declared.observation.ThirdObservation.TheVariants as seen
use Rattle.st_third.specs.Events as every
use Rattle.st_third.specs.Events.{ThirdWorldTurn, third_counted}
use Rattle.st_third.specs.Limits.{is_client_node, is_third, most_clients, node_at}
use Rattle.st_third.specs.Promises.{Leaver, greets, is_greeting, is_in_grace, is_its_greeting, is_welcomed, life_of, message_at, welcomes}
use Rattle.st_third.specs.Server as hearing
use Rattle.st_third.specs.Steps as steps
use Rattle.st_third.specs.Steps.{ThirdStep, ThirdTraced}
use Rattle.st_third.specs.World as worlds
use Rattle.st_third.specs.World.{ThirdWorld, receiver_of}
use Rattle.st_laws_third.proofs.Chains.{left_has, right_has}
use Rattle.st_laws_third.proofs.DemandRuns.{runs_there}
use Rattle.st_laws_third.proofs.EventWalk.{Server_step}
use Rattle.st_laws_third.proofs.Sound.{Sound}
use Rattle.st_laws_leaving.specs.Leavers.{HasHome, IsGone}
use Rattle.st_laws_leaving.specs.Quiet.{Standing}
use Rattle.st_laws_leaving.specs.Serving.{HasNothing}
use Rattle.st_laws_leaving.proofs.Betweens.{node_is}
use Rattle.st_laws_leaving.proofs.Greeted.{WelcomedBy, server_welcomes}

-- What a server says is observed.

notes_grow : (sc : WorldTurn) (s : ServerId) (n : Words.Note) (y : Observation) → Has y sc.seen → Has y (ev.server_notes sc s n).seen
unfolding ev.server_notes ev.cuts
notes_grow sc s (Words.notes.Suspected c start) y h = left_has sc.seen _ y h
notes_grow sc s (Words.notes.Stolen c life) y h = left_has sc.seen _ y h
notes_grow sc s (Words.notes.CutDone f p) y h = left_has sc.seen _ y h
notes_grow sc s (Words.notes.Leased t end) y h = h
notes_grow sc s (Words.notes.Lost t life) y h = h
notes_grow sc s (Words.notes.Accepted f p bytes) y h = h
notes_grow sc s (Words.notes.Patched f p at bytes) y h = h

seen_grows : (s : ServerId) (y : Observation) (os : List Output) (sc : WorldTurn) → Has y sc.seen → Has y (ev.server_says_all s os sc).seen
unfolding ev.server_says_all ev.server_says ev.sends
seen_grows s y [] sc h = h
seen_grows s y (o ∷ os) sc h = seen_grows s y os (ev.server_says sc s o) (one o)
  where
    one : (o : Output) → Has y (ev.server_says sc s o).seen
    one (outputs.Send m) = left_has sc.seen _ y h
    one (outputs.Note n) = notes_grow sc s n y h
    one (outputs.Submit number at what) = h
    one (outputs.Answer op answer) = h

says_seen : (s : ServerId) (m : Message) (os : List Output) (sc : WorldTurn) → Has (outputs.Send m) os →
    (n : ℕ) × Has (plain_seen.Sent n m) (ev.server_says_all s os sc).seen
unfolding ev.server_says_all ev.server_says ev.sends
says_seen s m [] sc h = absurd h
says_seen s m (o ∷ os) sc (inr h) = says_seen s m os (ev.server_says sc s o) h
says_seen s m (o ∷ os) sc (inl e) =
    let n : ℕ = length sc.world.net.messages + 1 in (
      n,
      seen_grows s (plain_seen.Sent n m) os (ev.server_says sc s o)
          (subst (λ z. Has (plain_seen.Sent n m) (ev.server_says sc s z).seen) e (right_has sc.seen _ _ (inl refl))),
    )

-- one that passes
any_true : {A : Type 0} (p : A → Bool) (xs : List A) (x : A) → Has x xs → p x ≡ true → Words.list_any p xs ≡ true
any_true p [] x h e = absurd h
any_true p (y ∷ ys) x (inl q) e = ap (λ b. b || Words.list_any p ys) (ap p (sym q) ∙ e)
any_true p (y ∷ ys) x (inr h) e = ap (λ b. p y || b) (any_true p ys x h e) ∙ or_true (p y)
  where
    or_true : (b : Bool) → (b || true) ≡ true
    or_true true = refl
    or_true false = refl

-- the node of a server's number
server_at : (form : ℕ) (s : ServerId) → is_third form ≡ true → node_at form (server_node s) ≡ nodes.Server s
server_at form s f = node_is form (server_node s) f ∙ go (nat_le (32768 + s.0) 64) refl
  where
    go : (b : Bool) → nat_le (32768 + s.0) 64 ≡ b →
        (if b then nodes.Client (client (32768 + s.0)) else nodes.Server (world.server ((32768 + s.0) - 32768))) ≡ nodes.Server s
    go true e = let l = leb-true (32768 + s.0) 64 e in absurd (omega (arith, l))
    go false e = ap (λ n. nodes.Server (world.server n)) (let z : (32768 + s.0) - 32768 ≡ s.0 = omega arith in z)

client_at : (form n : ℕ) → is_third form ≡ true → 1 ≤ n → n ≤ 64 → is_client_node form n ≡ true
unfolding most_clients
client_at form n f low few =
    and_both _ _ (le-leb 1 n low) (ap (λ b. nat_le n (if b then 64 else 16)) f ∙ le-leb n 64 few)

greeting_is : (b : Body) → is_greeting b ≡ true → b ≡ bodies.Hello
greeting_is bodies.Hello e = refl
greeting_is b e = absurd (false_not_true e)

module _ (t : ThirdTraced) (so : Sound t.third) (st : Standing t.third.world) (l : Leaver) (g : IsGone t.third.world l)
    (home : HasHome t.third.world l.client l.server) where
  abbrev V : World
  V = t.third.world

  abbrev W : ThirdWorld
  W = third_counted t.third

  abbrev X : ThirdEvent → ThirdStep
  X e = steps.third_step t e (every.happens W e)

  abbrev Welcomes : ThirdWorldTurn → Type 0
  Welcomes sc = Words.list_any (welcomes l) sc.seen ≡ true

  -- a session is of no later life than the client's
  later : (node : ServerNode) → node_of V l.server ≡ Some node → (x : Session) → session_of node.state.sessions l.client ≡ Some x →
      x.life.0 ≤ (life_of V l.client l.server).0
  later node at x q =
      subst (λ (o : Option WorldClient). x.life.0 ≤ (Rattle.st_third.specs.Promises.life_at l.server o).0) (sym home.there)
      (go (find (is_at l.server) home.site.node.state.associations) refl)
    where
      go : (o : Option Association) → find (is_at l.server) home.site.node.state.associations ≡ o → x.life.0 ≤ (world.life_at o).0
      go None e =
          absurd (clash (eq-eqb home.association.server.0 l.server.0 home.is)
          (none_has (is_at l.server) home.site.node.state.associations e home.association home.has))
      go (Some a) e =
          let f = found_at (is_at l.server) home.site.node.state.associations a e in
          let i : a.server.0 ≡ l.server.0 = eqb-true a.server.0 l.server.0 f.0 in
          (st.between l.client.0 home.site a node home.there f.1 (ap (numbered V.servers) i ∙ at)).served x q

  -- its greeting comes
  module _ (k : ℕ) (m : SentMessage) (found : message_of V k ≡ Some m) (q : worlds.refusal t.third (third.Plain (events.Deliver k)) ≡ None)
      (hello : m.message.body ≡ bodies.Hello) (from : m.message.header.from ≡ l.client.0) (to : m.message.header.to ≡ server_node l.server)
      (life : m.message.header.life ≡ (life_of V l.client l.server).0) where
    receiver : receiver_of V m ≡ nodes.Server l.server
    receiver = ap (node_at V.form) to ∙ server_at V.form l.server so.form

    up : node_runs (node_of V l.server) ≡ true
    up = sym (ap (is_running V) receiver) ∙ runs_there t.third k m found q

    module _ (node : ServerNode) (at : node_of V l.server ≡ Some node) (off : grace.is_on node.state.grace (clock_of V (nodes.Server l.server)) ≡ false) where
      runs : node.running ≡ true
      runs = sym (ap (λ o. node_runs o) at) ∙ up

      same : client m.message.header.from ≡ l.client
      same = ap (λ n. client n) from

      says : WelcomedBy node.state m.message (hearing.server_step V.form node.state (clock_of V (nodes.Server l.server)) (Control m.message))
      says =
          server_welcomes V.form node.state (clock_of V (nodes.Server l.server)) m.message hello
          (to ∙ let z = st.ids l.server.0 node at in omega (arith, z))
          (client_at V.form m.message.header.from so.form (let z = g.low in omega (arith, z, from)) (let z = g.few in omega (arith, z, from))) off
          (subst (HasNothing node.state) (sym same) (g.quiet node at).nothing)
          (λ x e. let z = later node at x (ap (λ c. session_of node.state.sessions c) (sym same) ∙ e) in omega (arith, z, life))

      observed : Welcomes (every.as_plain W (ev.server_took W.world l.server (Ok (Server_step W l.server node (Control m.message)))))
      unfolding ev.server_took
      observed =
          let y = says_seen l.server says.message (Server_step W l.server node (Control m.message)).out
          (quiet (ev.with_node l.server (Server_step W l.server node (Control m.message)).node W.world)) says.said in
          any_true (welcomes l) _ (seen.Plain (plain_seen.Sent y.0 says.message)) (has_map_in every.plain_seen _ _ y.1)
          (and_both _ _ (ap (λ b. Rattle.st_third.specs.Promises.is_welcome b) says.body)
          (and_both _ _
          (eq-eqb says.message.header.from (server_node l.server) (says.from ∙ let z = st.ids l.server.0 node at in omega (arith, z)))
          (eq-eqb says.message.header.to l.client.0 (says.to ∙ from))))

      pub is_back : Welcomes (every.happens W (third.Plain (events.Deliver k)))
      unfolding every.happens every.plain_happens every.delivers every.delivers_to every.at_server every.server_takes hearing.node_step
      is_back =
          subst (λ o. Welcomes (every.delivers W o)) (sym found)
          (subst (λ o. Welcomes (every.delivers_to W m.message o)) (sym receiver)
          (subst (λ o. Welcomes (every.at_server W l.server (Control m.message) o)) (sym at)
          (subst (λ b. Welcomes (every.as_plain W (ev.server_took W.world l.server
          (if b then Ok (Server_step W l.server node (Control m.message)) else Words.Err Rattle.st_rules.specs.declared.node.StepRefusal.TheVariants.Crashed))))
          (sym runs) observed)))

  -- whatever happens
  pub welcomed_back : (e : ThirdEvent) → worlds.refusal t.third e ≡ None → is_welcomed (X e) l ≡ true
  welcomed_back (third.Leave c s) q = refl
  welcomed_back (third.Plain (events.Deliver k)) q = go (message_of V k) refl
    where
      at_node : (m : SentMessage) → message_of V k ≡ Some m → is_its_greeting V l m.message ≡ true → (o : Option ServerNode) → node_of V l.server ≡ o →
          not (is_in_grace (clock_of V (nodes.Server l.server)) o) ≡ true → Welcomes (every.happens W (third.Plain (events.Deliver k)))
      at_node m found i None at off = absurd (false_not_true off)
      at_node m found i (Some node) at off =
          let f : Bool = m.message.header.from == l.client.0 in
          let r : Bool = m.message.header.to == server_node l.server in
          let v : Bool = m.message.header.life == (life_of V l.client l.server).0 in
          let a = and_true (is_greeting m.message.body) ((f && r) && v) i in
          let b = and_true (f && r) v a.1 in
          let d = and_true f r b.0 in
          is_back k m found q (greeting_is m.message.body a.0) (eqb-true m.message.header.from l.client.0 d.0)
          (eqb-true m.message.header.to (server_node l.server) d.1) (eqb-true m.message.header.life (life_of V l.client l.server).0 b.1) node at
          (not_true (grace.is_on node.state.grace (clock_of V (nodes.Server l.server))) off)

      by_greeting : (m : SentMessage) → message_of V k ≡ Some m → (b : Bool) →
          (is_its_greeting V l m.message && not (is_in_grace (clock_of V (nodes.Server l.server)) (node_of V l.server))) ≡ b →
          (not b || Words.list_any (welcomes l) (every.happens W (third.Plain (events.Deliver k))).seen) ≡ true
      by_greeting m found false i = refl
      by_greeting m found true i =
          let a = and_true (is_its_greeting V l m.message) (not (is_in_grace (clock_of V (nodes.Server l.server)) (node_of V l.server))) i in
          at_node m found a.0 (node_of V l.server) refl a.1

      go : (o : Option SentMessage) → message_of V k ≡ o →
          (not (greets (X (third.Plain (events.Deliver k))) l (message_at o))
          || Words.list_any (welcomes l) (every.happens W (third.Plain (events.Deliver k))).seen) ≡ true
      go None found = refl
      go (Some m) found =
          by_greeting m found (is_its_greeting V l m.message && not (is_in_grace (clock_of V (nodes.Server l.server)) (node_of V l.server))) refl
  welcomed_back (third.Plain p) q = refl
