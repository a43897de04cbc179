-- What a client's step leaves of its asks. The requests of lives to which a client does not come back stay past, or left, after every event.
use Rattle.st_lemmas.proofs.Words
use Words.{◌≡◌, ◌≢◌, ◌⊎◌, ℕ, ◌≤◌, ◌<◌, Bool, true, false, List, [], ◌∷◌, Option, Some, None, Ok, refl, sym, ap, ◌∙◌, subst, inl, inr, arith, length}
use Words.{ClientId, ServerId, Stamp, AppAnswer, Ask, Event, Message, ClientInput, Operation}
use Words.nodes
use Words.answers
use Words.outputs
use Words.inputs
use Words.stages
use Words.seen
use Words.Client as cl
use Words.ClientState as cs
use Words.ClientState.{Association, ClientSession, ClientState, ClientTurn, asks_cut_or_name, client_turn, is_asked}
use Words.Events as ev
use Words.Events.{WorldTurn, world_step}
use Words.History.{Traced}
use Words.Keys.{server_node}
use Words.Safety.{Step, is_event}
use Words.World.{World, WorldClient, clock_of, numbered, site_of, with_numbered}
use Words.Lists.{Has}
use Words.Numbers.{numbered_below}
use Words.Tables.{and_true, same_or_not}
use Words.Truth.{clash}
use Rattle.st_protocol.specs.Assoc.{Config}
use Rattle.st_laws_steps.specs.Client.Losses.{is_ended}
use Rattle.st_laws_steps.specs.Lives.Lives.{LifeNext, NodeHolds}
use Rattle.st_laws_steps.proofs.Client.Losing.{over_is}
use Rattle.st_laws_steps.proofs.Client.Stepping.{step_lives}
use Rattle.st_laws_pages.proofs.Flush.Flushing.{pair_of}
use Rattle.st_laws_leases.specs.Dates.Dates.{messages}
use Rattle.st_laws_leases.proofs.Dates.Leaving.{Leaves, leaves_from, server_not_client, set_cases}
use Rattle.st_laws_requests.specs.Cuts.Cuts.{Between, asks_of}
use Rattle.st_laws_requests.proofs.Cuts.Seen.{AnswerOf, AnswersOf, NoAnswers}
use Rattle.st_laws_requests.proofs.Cuts.Step.{onces}
use Rattle.st_laws_requests.proofs.Replies.EachEvent.{ClientTook, SiteAfter}
use Rattle.st_laws_extents.specs.CutRequests.EndedLives.{Goes}
use Rattle.st_laws_extents.proofs.CutRequests.EndedLives.{past_stays}
use Rattle.st_laws_extents.proofs.CutRequests.Law.{Hold, owed}
use Rattle.st_laws_extents.proofs.CutRequests.ServersGoOn.{event_goes}
use Rattle.st_promises.specs.CutAsks.{is_uncertain}
use Rattle.st_laws_cuts.specs.Owners.{AllOwned, Owned, view}
use Rattle.st_laws_cuts.specs.EndedRequests.{AllPast}
use Rattle.st_laws_cuts.proofs.Counts.{pending, pending_has, pending_none, told_has, told_none, told_once}
use Rattle.st_laws_cuts.proofs.Events.{IsEmptied, NextAsk, OldOrServers, event_does}
use Rattle.st_laws_cuts.proofs.Step.{Held, InputOk, Losses, after_losses, stepped, uncertain}

-- each ask of a client is pending once at most
abbrev pub AllFew : World → Type 0
AllFew w = (c : ClientId) (site : WorldClient) → site_of w c ≡ Some site → (k : ℕ) → pending k site.node.state.operations ≤ 1

-- an ask that is pending
abbrev pub Was : WorldClient → ℕ → Type 0
Was site op = (o : Operation) × Has o site.node.state.operations × (o.op ≡ op)

-- an ask that was pending, or that came now
abbrev pub Came : WorldClient → WorldClient → ℕ → Type 0
Came old site op = Was site op ⊎ ((old.asks < op) × (op ≤ site.asks))

-- a client after the event: this one after its step, or another, as it was
abbrev pub ThisOrOther : World → ClientId → WorldClient → ClientId → WorldClient → Type 0
ThisOrOther t c new y s = ((y.0 ≡ c.0) × (s ≡ new)) ⊎ ((y.0 ≢ c.0) × (site_of t y ≡ Some s))

-- What is left of a client's asks by its step.
pub record Took (past : List Step) (t : World) (sc : WorldTurn) (v : World) (c : ClientId) (i : ClientInput) (site old : WorldClient) : Type 0 where
  pub node : NodeHolds t.config t.clocks t.ended c site.node
  pub old_op : (o : Operation) → Has o site.node.state.operations → Has o old.node.state.operations
  pub asks_count : length (asks_of past c) ≡ old.asks
  pub was_below : (op : ℕ) → Was site op → op ≤ old.asks
  pub ends : Held c (λ op. Came old site op) (Losses site.node.state (clock_of v (nodes.Client c))).out [] (ClientTook v c i site)
  pub clients : sc.world.clients ≡ with_numbered c.0 (SiteAfter v c i site) t.clients
  pub cases : (y : ClientId) (s : WorldClient) → site_of sc.world y ≡ Some s → ThisOrOther t c (SiteAfter v c i site) y s
  pub answered : (y : ClientId) (op : ℕ) (a : AppAnswer) → Has (seen.Answered y op a) sc.seen → (y ≡ c) × Has (outputs.Answer op a) (ClientTook v c i site).out
  pub mine : (m : Message) → Has m (messages sc.world) → Has m (messages t) ⊎ Has (outputs.Send m) (ClientTook v c i site).out

-- others are not answered
pub not_others : (past : List Step) (t : World) (sc : WorldTurn) (v : World) (c : ClientId) (i : ClientInput) (site old : WorldClient) →
    Took past t sc v c i site old → (y : ClientId) → y.0 ≢ c.0 →
    (op : ℕ) (a : AppAnswer) → Has (seen.Answered y op a) sc.seen → ⊥
not_others past t sc v c i site old s y n op a j = n (ap (λ (w : ClientId). w.0) (s.answered y op a j).0)

module _ (k : Config) (count : ℕ) (past : List Step) (t : Traced) (h : Hold k count past t) (owned : AllOwned t.world) (few : AllFew t.world) (sc : WorldTurn)
    (v : World) (same_clients : v.clients ≡ t.world.clients) (c : ClientId) (i : ClientInput) (site old : WorldClient) (same : site.node ≡ old.node)
    (asks_next : NextAsk t.world i old site) (at : site_of t.world c ≡ Some old)
    (l : Leaves (messages t.world) (ev.with_site c (SiteAfter v c i site) v) sc.world (ClientTook v c i site).out)
    (ans : AnswersOf c (ClientTook v c i site).out [] sc.seen) where
  node : NodeHolds t.world.config t.world.clocks t.world.ended c site.node
  node = subst (NodeHolds t.world.config t.world.clocks t.world.ended c) (sym same) (h.all.fates.lives.lives.sites c old at)

  old_op : (o : Operation) → Has o site.node.state.operations → Has o old.node.state.operations
  old_op o j = subst (λ (n : cl.ClientNode). Has o n.state.operations) same j

  asks_count : length (asks_of past c) ≡ old.asks
  asks_count = (h.cuts.clients c old at).count

  was_below : (op : ℕ) → Was site op → op ≤ old.asks
  was_below op w = let z = (numbered_below (asks_of past c) w.0.op w.0.ask ((h.cuts.clients c old at).asked w.0 (old_op w.0 w.1))).1 in let y = asks_count in
      let q = w.2 in omega (arith, z, y, q)

  begins : Held c (λ op. Was site op) [] [] (client_turn site.node.state [])
  begins =
      record {
        id_ = node.id;
        known = λ o j. (o, j, refl);
        said = λ op a j. absurd j;
        from = λ m j. absurd j;
        kept = λ y j. absurd j;
        few = λ n. let z = few c old at n in let y = ap (λ (w : cl.ClientNode). pending n w.state.operations) same in omega (arith, z, y);
        done = λ a j.
            record {
              owned = subst (λ (n : cl.ClientNode). Owned a.server (view a.session) n.state.operations) (sym same)
                  (owned c old at a (subst (λ (n : cl.ClientNode). Has a n.state.associations) same j));
              sent = λ m q. absurd q;
            };
        todo = λ a j. absurd j;
        once_done = onces site.node.state.associations node.once;
        once_todo = tt;
        apart = λ a b j q. absurd q;
      }

  lost : Held c (λ op. Was site op) [] [] (Losses site.node.state (clock_of v (nodes.Client c)))
  lost = after_losses c (λ op. Was site op) site.node.state (clock_of v (nodes.Client c)) begins

  ends : Held c (λ op. Came old site op) (Losses site.node.state (clock_of v (nodes.Client c))).out [] (ClientTook v c i site)
  ends = stepped c (λ op. Was site op) (λ op. Came old site op) (λ op w. inl w) site.node.state (clock_of v (nodes.Client c)) i lost (input i asks_next)
    where
      input : (j : ClientInput) → NextAsk t.world j old site →
          InputOk c (λ op. Came old site op) (Losses site.node.state (clock_of v (nodes.Client c))).out (Losses site.node.state (clock_of v (nodes.Client c))) j
      input inputs.Tick g = tt
      input (inputs.Control m) g = tt
      input (inputs.Done number result) g = tt
      input (inputs.App op ask) g = (
        inr (let z = g.0 in omega (arith, z), let z = g.1 in omega (arith, z)),
        (let y = pending_none op (Losses site.node.state (clock_of v (nodes.Client c))).state.operations (λ o j q. high (subst (Was site) q (lost.known o j)))
            in
            let z = told_none op (Losses site.node.state (clock_of v (nodes.Client c))).out (λ a j. high (lost.said op a j)) in
            omega (arith, y, z)),
      )
        where
          high : Was site op → ⊥
          high w = let y = was_below op w in let z = g.0 in omega (arith, y, z)

  pub took_step : Took past t.world sc v c i site old
  took_step =
      record {
        node = node;
        old_op = old_op;
        asks_count = asks_count;
        was_below = was_below;
        ends = ends;
        clients = clients;
        cases = λ y s r. set_cases t.world.clients c.0 y.0 old (SiteAfter v c i site) s at (ap (λ w. numbered w y.0) (sym clients) ∙ r);
        answered = λ y op a j. go y op a (ans y op a j);
        mine = λ m j. leaves_from (messages t.world) (ev.with_site c (SiteAfter v c i site) v) sc.world (ClientTook v c i site).out l m j;
      }
    where
      clients : sc.world.clients ≡ with_numbered c.0 (SiteAfter v c i site) t.world.clients
      clients = l.clients ∙ ap (λ w. with_numbered c.0 (SiteAfter v c i site) w) same_clients

      go : (y : ClientId) (op : ℕ) (a : AppAnswer) → Has (seen.Answered y op a) [] ⊎ AnswerOf c y op a (ClientTook v c i site).out →
          (y ≡ c) × Has (outputs.Answer op a) (ClientTook v c i site).out
      go y op a (inl q) = absurd q
      go y op a (inr q) = (q.client, q.answer)

-- what is left of the ask of a message, by client, server, the client's operations and the message
abbrev pub LeftOver : Type 1
LeftOver = ClientId → ServerId → List Operation → Message → Type 0

-- a message is past, or its ask is left
abbrev pub Over : World → LeftOver → ClientId → ServerId → List Operation → Message → Type 0
Over w Left c s os m = AllPast w c s m ⊎ Left c s os m

-- each message of a client to a server, to cut a file or for a name, in a life to which the client does not come back
abbrev pub AllOver : World → LeftOver → Type 0
AllOver w Left =
    (c : ClientId) (site : WorldClient) → site_of w c ≡ Some site → (a : Association) → Has a site.node.state.associations →
    (m : Message) → Has m (messages w) → Between c a.server m → 1 ≤ m.header.number → asks_cut_or_name m.body ≡ true →
    (m.header.life < a.life.0) ⊎ (site.node.running ≡ false) → Over w Left c a.server site.node.state.operations m

-- an operation waits for the reply to a message; when it is no longer pending, and was answered only with `uncertain`, it is left
abbrev pub Waits : WorldTurn → LeftOver → LeftOver
Waits sc Now c s os m =
    (o : Operation) × Has o os × (is_asked s o ≡ true) ×
    ((qs : List Operation) → ((p : Operation) → Has p qs → p.op ≡ o.op → ⊥) → ((a : AppAnswer) → Has (seen.Answered c o.op a) sc.seen → is_uncertain a ≡ true) →
    Now c s qs m)

-- What an event leaves of what is left: Left before it, and Now after it.
pub record Leftover (past : List Step) (t : World) (sc : WorldTurn) (Left Now : LeftOver) : Type 0 where
  pub over : AllOver t Left
  pub stays : (c : ClientId) (s : ServerId) (os qs : List Operation) (m : Message) →
      ((op : ℕ) (ask : Ask) → numbered (asks_of past c) op ≡ Some ask → ((o : Operation) → Has o os → o.op ≡ op → ⊥) →
      ((o : Operation) → Has o qs → o.op ≡ op → ⊥) × ((a : AppAnswer) → Has (seen.Answered c op a) sc.seen → ⊥)) →
      Left c s os m → Now c s qs m
  pub waits : (c : ClientId) (site : WorldClient) → site_of t c ≡ Some site → site.node.running ≡ true → (a : Association) →
      Has a site.node.state.associations → (m : Message) → Has m (messages t) → Between c a.server m →
      m.header.life ≡ a.life.0 → 1 ≤ m.header.number → asks_cut_or_name m.body ≡ true →
      AllPast t c a.server m ⊎ Waits sc Now c a.server site.node.state.operations m

-- what is past stays past
pub past_on : (k : Config) (count : ℕ) (past : List Step) (t : Traced) (e : Event) (sc : WorldTurn) → is_event count e ≡ true → Hold k count past t →
    world_step t.world e ≡ Ok sc →
    (c : ClientId) (s : ServerId) (m : Message) → AllPast t.world c s m → AllPast sc.world c s m
past_on k count past t e sc ranges h taken c s m p = λ n at. let z = goes.nodes s n at in past_stays c z.0 n m z.2 (p z.0 z.1)
  where
    goes : Goes t.world sc.world
    goes = event_goes past t h.replies e sc (owed k count past t e sc ranges h taken) taken

module _ (k : Config) (count : ℕ) (past : List Step) (t : Traced) (e : Event) (sc : WorldTurn) (ranges : is_event count e ≡ true) (h : Hold k count past t)
    (taken : world_step t.world e ≡ Ok sc)
    (owned : AllOwned t.world) (few : AllFew t.world) (Left Now : LeftOver) (d : Leftover past t.world sc Left Now) where
  -- what held of an old message
  abbrev Stood : ClientId → WorldClient → Association → Message → Type 0
  Stood c site a m = Over t.world Left c a.server site.node.state.operations m ⊎
      ((m.header.life ≡ a.life.0) × Waits sc Now c a.server site.node.state.operations m)

  stood : (c : ClientId) (site : WorldClient) → site_of t.world c ≡ Some site → (a : Association) → Has a site.node.state.associations → (m : Message) →
      Has m (messages t.world) → Between c a.server m → 1 ≤ m.header.number →
      asks_cut_or_name m.body ≡ true → Stood c site a m
  stood c site at a i m among between pos own = go site.node.running refl (same_or_not m.header.life a.life.0)
    where
      up : m.header.life ≤ a.life.0
      up = (h.cuts.clients c site at).lives a i m among between

      run_in : m.header.life ≡ a.life.0 → AllPast t.world c a.server m ⊎ Waits sc Now c a.server site.node.state.operations m → Stood c site a m
      run_in l (inl p) = inl (inl p)
      run_in l (inr z) = inr (l, z)

      go : (b : Bool) → site.node.running ≡ b → (m.header.life ≡ a.life.0) ⊎ (m.header.life ≢ a.life.0) → Stood c site a m
      go false r l = inl (d.over c site at a i m among between pos own (inr r))
      go true r (inr n) = inl (d.over c site at a i m among between pos own (inl (omega (arith, n, up))))
      go true r (inl l) = run_in l (d.waits c site at r a i m among between l pos own)

  -- Nothing is answered.
  over_on : NoAnswers sc.seen → (c : ClientId) (s : ServerId) (os : List Operation) (m : Message) → Over t.world Left c s os m → Over sc.world Now c s os m
  over_on silent c s os m (inl p) = inl (past_on k count past t e sc ranges h taken c s m p)
  over_on silent c s os m (inr z) = inr (d.stays c s os os m (λ op ask q gone. (gone, λ a i. silent (seen.Answered c op a) i)) z)

  -- An event that leaves the clients.
  quiet : sc.world.clients ≡ t.world.clients → OldOrServers t.world sc.world → NoAnswers sc.seen → AllOver sc.world Now
  quiet cs ms silent c site at a i m among between pos own life =
      over_on silent c a.server site.node.state.operations m (d.over c site was a i m (old (ms m among)) between pos own life)
    where
      was : site_of t.world c ≡ Some site
      was = ap (λ z. numbered z c.0) (sym cs) ∙ at

      old : Has m (messages t.world) ⊎ ((y : ServerId) × (m.header.from ≡ server_node y)) → Has m (messages t.world)
      old (inl i) = i
      old (inr z) =
          absurd
          (server_not_client c.0 z.0.0 (let y = (numbered_below t.world.clients c.0 site was).1 in let q = h.cuts.few in omega (arith, y, q))
          (sym between.0 ∙ z.1))

  -- A client is emptied.
  emptied : (c : ClientId) (old new : WorldClient) → site_of t.world c ≡ Some old → IsEmptied old new →
      sc.world.clients ≡ with_numbered c.0 new t.world.clients → messages sc.world ≡ messages t.world → NoAnswers sc.seen → AllOver sc.world Now
  emptied c old new at z cs ms silent y site r a i m among between pos own life =
      over (set_cases t.world.clients c.0 y.0 old new site at (ap (λ w. numbered w y.0) (sym cs) ∙ r)) (subst (Has m) ms among)
    where
      none_here : site ≡ new → (o : Operation) → Has o site.node.state.operations → {A : Type 0} → A
      none_here q o j = go site.node.state.operations (ap (λ (u : WorldClient). u.node.state.operations) q ∙ z.operations) j
        where
          go : {A : Type 0} (os : List Operation) → os ≡ [] → Has o os → A
          go [] q i = absurd i
          go (p ∷ os) q i = cc q

      over : ThisOrOther t.world c new y site → Has m (messages t.world) → Over sc.world Now y a.server site.node.state.operations m
      over (inr q) among = over_on silent y a.server site.node.state.operations m (d.over y site q.1 a i m among between pos own life)
      over (inl q) among =
          subst (λ (v : ServerId). Over sc.world Now y v site.node.state.operations m) (sym b.2)
          (by (stood y old there b.0 b.1 m among (subst (λ (v : ServerId). Between y v m) b.2 between) pos own))
        where
          there : site_of t.world y ≡ Some old
          there = ap (λ n. numbered t.world.clients n) q.0 ∙ at

          b : (v : Association) × Has v old.node.state.associations × (a.server ≡ v.server) × (a.session ≡ None)
          b = z.associations a (subst (λ (u : WorldClient). Has a u.node.state.associations) q.1 i)

          by : Stood y old b.0 m → Over sc.world Now y b.0.server site.node.state.operations m
          by (inl (inl p)) = inl (past_on k count past t e sc ranges h taken y b.0.server m p)
          by (inl (inr w)) =
              inr (d.stays y b.0.server old.node.state.operations site.node.state.operations m
              (λ op ask u gone. (λ o j. none_here q.1 o j, λ a v. silent (seen.Answered y op a) v)) w)
          by (inr w) = inr (w.1.3 site.node.state.operations (λ o j. none_here q.1 o j) (λ a v. absurd (silent (seen.Answered y w.1.0.op a) v)))

  -- A client takes a step.
  module _ (v : World) (c : ClientId) (i : ClientInput) (site old : WorldClient) (same : site.node ≡ old.node) (run : site.node.running ≡ true)
      (at : site_of t.world c ≡ Some old) (s : Took past t.world sc v c i site old) where
    abbrev u : ClientTurn
    u = ClientTook v c i site

    abbrev now : Stamp
    now = clock_of v (nodes.Client c)

    abbrev st : ClientState
    st = site.node.state

    over_own : (b : Association) → Has b u.state.associations → (m : Message) → Has m (messages t.world) ⊎ Has (outputs.Send m) u.out → Between c b.server m →
        1 ≤ m.header.number → asks_cut_or_name m.body ≡ true →
        m.header.life < b.life.0 → Over sc.world Now c b.server u.state.operations m
    over_own b j m (inr p) between pos own life = let z = (s.ends.done b j).sent m p between in absurd (omega (arith, z, life))
    over_own b j m (inl p) between pos own life =
        subst (λ (w : ServerId). Over sc.world Now c w u.state.operations m) q.2.server
        (by (stood c old at q.0 (subst (λ (n : cl.ClientNode). Has q.0 n.state.associations) same q.1) m p
        (subst (λ (w : ServerId). Between c w m) (sym q.2.server) between) pos own))
      where
        -- the life before the step
        q : (a : Association) × Has a st.associations × LifeNext now st a b
        q = pair_of (LifeNext now st) st.associations u.state.associations (step_lives c st now i s.node.fit).pairs b j

        -- an ask that is left, and was not pending
        still : (op : ℕ) (ask : Ask) → numbered (asks_of past c) op ≡ Some ask → ((o : Operation) → Has o old.node.state.operations → o.op ≡ op → ⊥) →
            ((o : Operation) → Has o u.state.operations → o.op ≡ op → ⊥) × ((a : AppAnswer) → Has (seen.Answered c op a) sc.seen → ⊥)
        still op ask asked gone = (λ o w z. no (subst (Came old site) z (s.ends.known o w)), λ a w. no (s.ends.said op a (s.answered c op a w).1))
          where
            no : Came old site op → ⊥
            no (inl w) = gone w.0 (s.old_op w.0 w.1) w.2
            no (inr w) = let z = (numbered_below (asks_of past c) op ask asked).1 in let y = s.asks_count in let r = w.0 in omega (arith, z, y, r)

        -- a lease that is over
        ended : (o : Option ClientSession) → q.0.session ≡ o → is_ended st.config now o ≡ true → (z : Operation) → Has z old.node.state.operations →
            is_asked q.0.server z ≡ true →
            Has (outputs.Answer z.op (answers.Uncertain 0 0)) [] ⊎ ((n : ℕ) × Has (outputs.Answer z.op (answers.Uncertain n 0)) u.out)
        ended None r f z there asked = cc f
        ended (Some w) r f z there asked =
            inr (
              w.epoch.0,
              uncertain c (λ op. Came old site op) st now u s.ends (onces st.associations s.node.once) q.0 q.1 w r (over_is st.config w.lease now ∙ f) z
                  (subst (λ (n : cl.ClientNode). Has z n.state.operations) (sym same) there)
                  (and_true (cs.is_of q.0.server z) _ asked).0 (sent z.stage (and_true (cs.is_of q.0.server z) _ asked).1),
            )
          where
            sent : (g : Rattle.st_rules.specs.declared.client.Stage.Stage) → cs.is_asked_at g ≡ true → cs.is_sent_at g ≡ true
            sent stages.Sent w = refl
            sent stages.Unsent w = cc w
            sent stages.Stuck w = refl

        is_lost : m.header.life ≡ q.0.life.0 → is_ended st.config now q.0.session ≡ true
        is_lost same_life = go (is_ended st.config now q.0.session) refl
          where
            go : (y : Bool) → is_ended st.config now q.0.session ≡ y → y ≡ true
            go true w = refl
            go false w = let z = ap (λ (n : Rattle.st_base.specs.declared.ids.Life.Life). n.0) (q.2.lasts w).0 in absurd (omega (arith, z, same_life, life))

        by : Stood c old q.0 m → Over sc.world Now c q.0.server u.state.operations m
        by (inl (inl w)) = inl (past_on k count past t e sc ranges h taken c q.0.server m w)
        by (inl (inr w)) = inr (d.stays c q.0.server old.node.state.operations u.state.operations m still w)
        by (inr w) = inr (w.1.3 u.state.operations gone open_)
          where
            said : (n : ℕ) × Has (outputs.Answer w.1.0.op (answers.Uncertain n 0)) u.out
            said = pick (ended q.0.session refl (is_lost w.0) w.1.0 w.1.1 w.1.2)
              where
                pick : Has (outputs.Answer w.1.0.op (answers.Uncertain 0 0)) [] ⊎ ((n : ℕ) × Has (outputs.Answer w.1.0.op (answers.Uncertain n 0)) u.out) →
                    (n : ℕ) × Has (outputs.Answer w.1.0.op (answers.Uncertain n 0)) u.out
                pick (inl z) = absurd z
                pick (inr z) = z

            gone : (o : Operation) → Has o u.state.operations → o.op ≡ w.1.0.op → ⊥
            gone o z y =
                let p = pending_has u.state.operations o z in
                let r = told_has u.out w.1.0.op _ said.1 in
                let g = s.ends.few w.1.0.op in
                omega (arith, subst (λ n. 1 ≤ pending n u.state.operations) y p, r, g)

            open_ : (a : AppAnswer) → Has (seen.Answered c w.1.0.op a) sc.seen → is_uncertain a ≡ true
            open_ a z =
                ap is_uncertain
                (told_once u.out w.1.0.op a (answers.Uncertain said.0 0) (let g = s.ends.few w.1.0.op in omega (arith, g)) (s.answered c w.1.0.op a z).1 said.1)

    took : AllOver sc.world Now
    took y r at2 a j m among between pos own life = over_of (s.cases y r at2)
      where
        over_of : ThisOrOther t.world c (SiteAfter v c i site) y r → Over sc.world Now y a.server r.node.state.operations m
        over_of (inl q) =
            subst (λ n. Over sc.world Now (record { 0 = n }) a.server r.node.state.operations m) (sym q.0)
            (subst (λ (w : WorldClient). Over sc.world Now c a.server w.node.state.operations m) (sym q.1)
            (over_own a (subst (λ (w : WorldClient). Has a w.node.state.associations) q.1 j) m (s.mine m among)
            (subst (λ n. Between (record { 0 = n }) a.server m) q.0 between) pos own (by life)))
          where
            by : (m.header.life < a.life.0) ⊎ (r.node.running ≡ false) → m.header.life < a.life.0
            by (inl w) = w
            by (inr w) = clash run (subst (λ (z : WorldClient). z.node.running ≡ false) q.1 w)
        over_of (inr q) = go (s.mine m among)
          where
            by : Over t.world Left y a.server r.node.state.operations m → Over sc.world Now y a.server r.node.state.operations m
            by (inl p) = inl (past_on k count past t e sc ranges h taken y a.server m p)
            by (inr z) =
                inr (d.stays y a.server r.node.state.operations r.node.state.operations m
                (λ op ask w gone. (gone, λ b x. not_others past t.world sc v c i site old s y q.0 op b x)) z)

            go : Has m (messages t.world) ⊎ Has (outputs.Send m) u.out → Over sc.world Now y a.server r.node.state.operations m
            go (inl p) = by (d.over y r q.1 a j m p between pos own life)
            go (inr p) = absurd (q.0 (sym between.0 ∙ s.ends.from m p))

  -- Every event.
  pub over_after : AllOver sc.world Now
  over_after = event_does t.world (λ s n at. (h.cuts.servers s n at).id) Result
      (λ v cs ms silent q. quiet (ap (λ (w : WorldTurn). w.world.clients) (sym q) ∙ cs) (subst (λ (w : WorldTurn). OldOrServers t.world w.world) q ms)
      (subst (λ (w : WorldTurn). NoAnswers w.seen) q silent))
      (λ v cs c i site old same asks_next run at w l ans q.
      took v c i site old same run at
      (took_step k count past t h owned few sc v cs c i site old same asks_next at
      (subst (λ (r : WorldTurn). Leaves (messages t.world) (ev.with_site c (SiteAfter v c i site) v) r.world (ClientTook v c i site).out) q l)
      (subst (λ (r : WorldTurn). AnswersOf c (ClientTook v c i site).out [] r.seen) q ans)))
      (λ c old new at z w cs ms silent q.
      emptied c old new at z (ap (λ (r : WorldTurn). r.world.clients) (sym q) ∙ cs) (ap (λ (r : WorldTurn). messages r.world) (sym q) ∙ ms)
      (subst (λ (r : WorldTurn). NoAnswers r.seen) q silent))
      e sc taken refl
    where
      Result : WorldTurn → Type 0
      Result v = v ≡ sc → AllOver sc.world Now
