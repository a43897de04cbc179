-- Where the answer to a demand is, while its row waits for it: the demand is on its way to the client, or what the client said of it is on its way back.
use Rattle.st_lemmas.proofs.Words
use Words.{◌≡◌, ◌≢◌, ℕ, ◌+◌, ◌*◌, ◌≤◌, ◌<◌, ◌⊎◌, Bool, true, false, ◌||◌, ◌&&◌, ◌==◌, List, [], ◌∷◌, ◌++◌, option_map, Option, Some, None, refl, sym, ap, ◌∙◌, subst, inl, inr, arith}
use Words.{eq-eqb, ne_eqb, Config, ClientId, Epoch, Event, GrantNo, Life, LockRow, Message, Mode, SentMessage, ServerId, ServerInput, Stamp}
use Words.bodies as bd
use Words.events
use Words.nodes
use Words.seen
use Words.serving.{Tick, Control}
use Words.Authority.{may_ack}
use Words.Keys.{server_node}
use Words.Lists.{Has}
use Words.Lookups.{if_false, if_true, some_is}
use Words.Safety.{Step}
use Words.Server as sv
use Words.Server.{ServerNode, ServerState, own_header}
use Words.ServerInvariants.{are_once, same_row}
use Words.Sessions as sessions
use Words.Tables.{and_both, same_or_not}
use Words.Truth.{not_both}
use Words.World.{World, clock_of, message_of, node_of, numbered}
use Rattle.st_trace.specs.Server.Steps.{step_of}
use Rattle.st_laws_healthy.proofs.Trips.{Flying, InTime, flies_on, goes_out, takes_off}
use Rattle.st_laws_leases.specs.Dates.Dates.{message_in, messages}
use Rattle.st_laws_third.proofs.Sound.{numbered_map}
use Rattle.st_laws_waits.specs.Causes.{Greeted, IsSuspectedBy, Silent, asked_since, demand_on, heeds_of}
use Rattle.st_laws_waits.specs.Waits.{received, received_in, server_clock}
use Rattle.st_laws_waits.proofs.Causes.{Arrives, Empties, IsKnown, Moves, Rests, Steps, stepped_of}
use Rattle.st_laws_waits.proofs.Keeping.{SameLock, same_self}
use Rattle.st_laws_waits.proofs.Sending.{Heeds, SentNow, WaitedBefore, keeps_message, keeps_tick, step_keeps}
use Rattle.st_laws_suspicions.specs.Prompt.{AnswersAtOnce, GreetsLate, seen_on}
use Rattle.st_laws_suspicions.proofs.Served.{IsServed}

-- a message that speaks of a lock is the same for the same lock
same_by : (f : ClientId → Life → ℕ → GrantNo → Message) (r q : LockRow) → SameLock r q → f q.client q.life q.ino q.g ≡ f r.client r.life r.ino r.g
same_by f r q z =
    ap (λ x. f x q.life q.ino q.g) z.client
    ∙ ap (λ x. f r.client x q.ino q.g) z.life
    ∙ ap (λ x. f r.client r.life x q.g) z.ino
    ∙ ap (λ x. f r.client r.life r.ino x) z.g

same_demand : (s : ServerId) (e : Epoch) (to : Mode) (r q : LockRow) → SameLock r q → demand_on s e q to ≡ demand_on s e r to
same_demand s e to r q z =
    same_by (λ c life ino g. record {
      header = record { from = server_node s; to = c.0; life = life.0; epoch = e.0; number = 0; stamp = 0 };
      body = bd.Demand ino g to;
    }) r q z

same_seen : (s : ServerId) (e : Epoch) (r q : LockRow) → SameLock r q → seen_on s e q ≡ seen_on s e r
same_seen s e r q z =
    same_by (λ c life ino g. record {
      header = record { from = c.0; to = server_node s; life = life.0; epoch = e.0; number = 0; stamp = 0 };
      body = bd.DemandSeen ino g;
    }) r q z

-- whether an event delivers the message of a number
delivers_or_not : (e : Event) (n : ℕ) → (e ≡ events.Deliver n) ⊎ (e ≢ events.Deliver n)
delivers_or_not (events.Deliver k) n = go (same_or_not k n)
  where
    go : (k ≡ n) ⊎ (k ≢ n) → (events.Deliver k ≡ events.Deliver n) ⊎ (events.Deliver k ≢ events.Deliver n)
    go (inl e) = inl (ap events.Deliver e)
    go (inr ne) = inr (λ q. ne (same q))
      where
        same : events.Deliver k ≡ events.Deliver n → k ≡ n
        same q = cc
delivers_or_not e n = inr (λ q. cc)

right_true : (a b : Bool) → b ≡ true → (a || b) ≡ true
right_true true b e = refl
right_true false b e = e

-- the message of a number
found : (w : World) (n : ℕ) (m : Message) → numbered (messages w) n ≡ Some m → (x : SentMessage) × (message_of w n ≡ Some x) × (x.message ≡ m)
found w n m q = go (message_of w n) refl (sym (numbered_map message_in w.net.messages n) ∙ q)
  where
    go : (o : Option SentMessage) → message_of w n ≡ o → option_map message_in o ≡ Some m → (x : SentMessage) × (message_of w n ≡ Some x) × (x.message ≡ m)
    go None e f = cc f
    go (Some x) e f = (x, e, some_is f)

-- The server hears these nodes as clients, up to 64.
module _ (clients : ℕ → Bool) (near : (n : ℕ) → clients n ≡ true → n ≤ 64) (k : Config) (c : ClientId) (s : ServerId) (delay : ℕ) where
  abbrev IsDemand : Epoch → LockRow → Message → Type 0
  IsDemand e r m = (to : Mode) × (m ≡ demand_on s e r to)

  abbrev IsSeen : Epoch → LockRow → Message → Type 0
  IsSeen e r m = m ≡ seen_on s e r

  -- where the answer to a demand is that was sent at this moment
  pub data Where (past : List Step) (ms : List Message) (e : Epoch) (r : LockRow) (at : Stamp) : Type 0 where
    IsComing : Flying (server_clock s) c s delay past ms (IsDemand e r) at.0 → Where past ms e r at
    IsBack : (sent : ℕ) → sent ≤ at.0 + delay → Flying (server_clock s) c s delay past ms (IsSeen e r) sent → Where past ms e r at

  -- of each demand on a row of the client that waits for its answer
  abbrev pub AllWhere : List Step → World → Type 0
  AllWhere past w =
      (node : ServerNode) → node_of w s ≡ Some node → (r : LockRow) (at : Stamp) → Has r node.state.locks.rows → r.client ≡ c → asked_since r ≡ Some at →
      may_ack node.state.authority c ≡ true → Where past (messages w) node.state.stable.epoch r at

  -- the server heeds what the client says
  heeded : (n : ServerState) (q : LockRow) → n.id ≡ s → IsServed clients n.sessions q.client q.life →
      heeds_of clients n q.client q.ino q.g (seen_on s n.stable.epoch q) ≡ true
  heeded n q id z =
      and_both (q.client.0 == q.client.0) _ (eq-eqb q.client.0 q.client.0 refl)
      (and_both ((q.ino == q.ino) && (q.g.0 == q.g.0)) _ (and_both (q.ino == q.ino) (q.g.0 == q.g.0) (eq-eqb q.ino q.ino refl) (eq-eqb q.g.0 q.g.0 refl))
      (and_both ((server_node s == server_node n.id) && clients q.client.0) _
      (and_both (server_node s == server_node n.id) (clients q.client.0)
      (eq-eqb (server_node s) (server_node n.id) (ap (λ (v : ServerId). server_node v) (sym id))) z.heard)
      (and_both (n.stable.epoch.0 == n.stable.epoch.0) _ (eq-eqb n.stable.epoch.0 n.stable.epoch.0 refl)
      (ap (sv.serves_at q.life) z.is
      ∙ and_both (sessions.is_live z.session) (z.session.life.0 == q.life.0) z.live (eq-eqb z.session.life.0 q.life.0 (ap (λ (l : Life). l.0) z.of_life))))))

  -- One step.
  module _ (past : List Step) (x : Step) (answers : AnswersAtOnce c s past x)
      (keeps : (n : ℕ) (m : Message) → numbered (messages x.before.world) n ≡ Some m → numbered (messages x.after.world) n ≡ Some m)
      (tells : (n : ℕ) (m : Message) → Has (seen.Sent n m) x.seen → numbered (messages x.after.world) n ≡ Some m)
      (still : (n : ℕ) → x.event ≡ events.Deliver n → server_clock s x.after.world ≡ server_clock s x.before.world)
      (timely : InTime (server_clock s) c s delay past (messages x.before.world) (server_clock s x.before.world)) (b : AllWhere past x.before.world)
      (served : (node : ServerNode) → node_of x.before.world s ≡ Some node → (r : LockRow) → Has r node.state.locks.rows →
      IsServed clients node.state.sessions r.client r.life) where
    abbrev now : Stamp
    now = clock_of x.before.world (nodes.Server s)

    abbrev ms : List Message
    ms = messages x.before.world

    abbrev ns : List Message
    ns = messages x.after.world

    -- the demand isn't for the server
    unheard : (e : Epoch) (r : LockRow) (at : ℕ) (f : Flying (server_clock s) c s delay past ms (IsDemand e r) at) → r.client ≡ c → clients c.0 ≡ true →
        x.event ≡ events.Deliver f.number → received s x.before.world x.event ≡ None
    unheard e r at f own heard is =
        let z = found x.before.world f.number f.message f.there in
        let to : z.0.message.header.to ≡ c.0 = ap (λ (m : Message). m.header.to) (z.2 ∙ f.like.1) ∙ ap (λ (v : ClientId). v.0) own in
        let l = near c.0 heard in
        ap (received s x.before.world) is
        ∙ ap (received_in s) z.1
        ∙ if_false (z.0.message.header.to == server_node s) (Some z.0.message) None
        (ne_eqb z.0.message.header.to (server_node s) (λ q. absurd (omega (arith, q, to, l))))

    -- what the client said is
    comes : (e : Epoch) (r : LockRow) (at : ℕ) (f : Flying (server_clock s) c s delay past ms (IsSeen e r) at) → x.event ≡ events.Deliver f.number →
        received s x.before.world x.event ≡ Some (seen_on s e r)
    comes e r at f is =
        let z = found x.before.world f.number f.message f.there in
        let same : z.0.message ≡ seen_on s e r = z.2 ∙ f.like in
        ap (received s x.before.world) is
        ∙ ap (received_in s) z.1
        ∙ if_true (z.0.message.header.to == server_node s) (Some z.0.message) None
        (eq-eqb z.0.message.header.to (server_node s) (ap (λ (m : Message). m.header.to) same))
        ∙ ap Some same

    comes_on : (e : Epoch) (r q : LockRow) (at : ℕ) → SameLock r q → (f : Flying (server_clock s) c s delay past ms (IsDemand e q) at) →
        x.event ≢ events.Deliver f.number → Flying (server_clock s) c s delay (past ++ x ∷ []) ns (IsDemand e r) at
    comes_on e r q at same f ne =
        flies_on (server_clock s) c s delay past x ms ns keeps (IsDemand e q) (IsDemand e r) at f (λ z. (z.0, z.1 ∙ same_demand s e z.0 r q same)) ne

    goes_back : (e : Epoch) (r q : LockRow) (at : ℕ) → SameLock r q → (f : Flying (server_clock s) c s delay past ms (IsSeen e q) at) →
        x.event ≢ events.Deliver f.number → Flying (server_clock s) c s delay (past ++ x ∷ []) ns (IsSeen e r) at
    goes_back e r q at same f ne =
        flies_on (server_clock s) c s delay past x ms ns keeps (IsSeen e q) (IsSeen e r) at f (λ z. z ∙ same_seen s e r q same) ne

    not_tick : (n : ℕ) → x.event ≡ events.Tick (nodes.Server s) → x.event ≡ events.Deliver n → ⊥
    not_tick n p q = no (sym p ∙ q)
      where
        no : events.Tick (nodes.Server s) ≡ events.Deliver n → ⊥
        no e = cc

    no_message : (m : Message) → ◌≡◌ {A = Option Message} None (Some m) → ⊥
    no_message m e = cc

    -- A step of the server: of a row whose demand waited before.
    module _ (old : ServerNode) (there : node_of x.before.world s ≡ Some old) (id : old.state.id ≡ s) (i : ServerInput)
        (arrives : Arrives s x.before.world x.event i) where
      went : (r q : LockRow) (at : Stamp) → Has q old.state.locks.rows → q.client ≡ c → SameLock r q → Heeds clients old.state r i ≡ false →
          Where past ms old.state.stable.epoch q at → Where (past ++ x ∷ []) ns old.state.stable.epoch r at
      went r q at h own same deaf (IsComing f) = go (delivers_or_not x.event f.number)
        where
          by : (i : ServerInput) → Arrives s x.before.world x.event i → x.event ≡ events.Deliver f.number → ⊥
          by Tick a e = not_tick f.number a e
          by (Control m) a e =
              no_message m
              (sym (unheard old.state.stable.epoch q at.0 f own (subst (λ (v : ClientId). clients v.0 ≡ true) own (served old there q h).heard) e) ∙ a)

          go : (x.event ≡ events.Deliver f.number) ⊎ (x.event ≢ events.Deliver f.number) → Where (past ++ x ∷ []) ns old.state.stable.epoch r at
          go (inl e) = absurd (by i arrives e)
          go (inr ne) = IsComing (comes_on old.state.stable.epoch r q at.0 same f ne)
      went r q at h own same deaf (IsBack sent l f) = go (delivers_or_not x.event f.number)
        where
          by : (i : ServerInput) → Arrives s x.before.world x.event i → Heeds clients old.state r i ≡ false → x.event ≡ events.Deliver f.number → ⊥
          by Tick a d e = not_tick f.number a e
          by (Control m) a d e =
              let is : m ≡ seen_on s old.state.stable.epoch q = some_is (sym a ∙ comes old.state.stable.epoch q sent f e) in
              not_both (heeds_of clients old.state r.client r.ino r.g m)
              (ap (heeds_of clients old.state r.client r.ino r.g) is
              ∙ ap (λ (v : ClientId). heeds_of clients old.state v r.ino r.g (seen_on s old.state.stable.epoch q)) (sym same.client)
              ∙ ap (λ v. heeds_of clients old.state q.client v r.g (seen_on s old.state.stable.epoch q)) (sym same.ino)
              ∙ ap (λ (v : GrantNo). heeds_of clients old.state q.client q.ino v (seen_on s old.state.stable.epoch q)) (sym same.g)
              ∙ heeded old.state q id (served old there q h)) d

          go : (x.event ≡ events.Deliver f.number) ⊎ (x.event ≢ events.Deliver f.number) → Where (past ++ x ∷ []) ns old.state.stable.epoch r at
          go (inl e) = absurd (by i arrives deaf e)
          go (inr ne) = IsBack sent l (goes_back old.state.stable.epoch r q sent same f ne)

    -- a demand that waits was sent now, or waited before
    waits_or_sent : (old : ServerNode) (z : IsKnown k s old.state) (i : ServerInput) →
        are_once same_row (step_of clients old.state now i).state.locks.rows ≡ true →
        (r : LockRow) (at : Stamp) → Has r (step_of clients old.state now i).state.locks.rows → asked_since r ≡ Some at →
        may_ack (step_of clients old.state now i).state.authority r.client ≡ true →
        SentNow old.state now (step_of clients old.state now i).out r at ⊎ WaitedBefore clients now old.state z.there z.once z.lives i r at
    waits_or_sent old z Tick o r at h e f = keeps_tick clients now old.state z.there z.once z.lives o r at h e f
    waits_or_sent old z (Control m) o r at h e f = keeps_message clients now old.state z.there z.once z.lives m o r at h e f

    pub where2 : Moves clients k s x → AllWhere (past ++ x ∷ []) x.after.world
    where2 (Steps old i there up arrives next clock says z o) node f r at h own e free =
        subst (λ (v : ServerNode). Where (past ++ x ∷ []) ns v.state.stable.epoch r at) same
        (subst (λ v. Where (past ++ x ∷ []) ns v r at) (sym (step_keeps clients old.state now i).epoch)
        (by (waits_or_sent old z i o r at (subst (λ (v : ServerNode). Has r v.state.locks.rows) (sym same) h) e
        (subst (λ (v : ServerNode). may_ack v.state.authority r.client ≡ true) (sym same)
        (subst (λ (v : ClientId). may_ack node.state.authority v ≡ true) (sym own) free)))))
      where
        same : stepped_of clients old now i ≡ node
        same = some_is (sym next ∙ f)

        by : SentNow old.state now (step_of clients old.state now i).out r at ⊎ WaitedBefore clients now old.state z.there z.once z.lives i r at →
            Where (past ++ x ∷ []) ns old.state.stable.epoch r at
        by (inl d) = IsComing (subst (Flying (server_clock s) c s delay (past ++ x ∷ []) ns (IsDemand old.state.stable.epoch r)) read off)
          where
            m : Message
            m = record { header = own_header old.state r.client r.life; body = bd.Demand r.ino r.g d.to }

            said : (n : ℕ) × Has (seen.Sent n m) x.seen
            said = says m d.has

            is : m ≡ demand_on s old.state.stable.epoch r d.to
            is = ap (λ (v : ServerId). record {
              header = record { from = server_node v; to = r.client.0; life = r.life.0; epoch = old.state.stable.epoch.0; number = 0; stamp = 0 };
              body = bd.Demand r.ino r.g d.to;
            }) z.id

            read : server_clock s x.after.world ≡ at.0
            read = ap (λ (v : Stamp). v.0) (clock ∙ sym d.since)

            off : Flying (server_clock s) c s delay (past ++ x ∷ []) ns (IsDemand old.state.stable.epoch r) (server_clock s x.after.world)
            off =
                takes_off (server_clock s) c s delay past x ns (IsDemand old.state.stable.epoch r) said.0 m said.1 (tells said.0 m said.1)
                (right_true _ _ (and_both (m.header.from == server_node s) (m.header.to == c.0)
                (eq-eqb m.header.from (server_node s) (ap (λ (v : ServerId). server_node v) z.id)) (eq-eqb m.header.to c.0 (ap (λ (v : ClientId). v.0) own))))
                (d.to, is)
        by (inr w) =
            let q = w.asked.row in
            let mine : q.client ≡ c = w.asked.same.client ∙ own in
            went old there z.id i arrives r q at w.asked.has mine w.asked.same w.unheeded
            (b old there q at w.asked.has mine w.asked.since (subst (λ (v : ClientId). may_ack old.state.authority v ≡ true) own w.free))
    where2 (Rests same deaf) node f r at h own e free = by (b node was r at h own e free)
      where
        was : node_of x.before.world s ≡ Some node
        was = sym same ∙ f

        by : Where past ms node.state.stable.epoch r at → Where (past ++ x ∷ []) ns node.state.stable.epoch r at
        by (IsComing g) = go (delivers_or_not x.event g.number)
          where
            go : (x.event ≡ events.Deliver g.number) ⊎ (x.event ≢ events.Deliver g.number) → Where (past ++ x ∷ []) ns node.state.stable.epoch r at
            go (inl is) =
                let y = found x.before.world g.number g.message g.there in
                let a = answers g.number y.0 node r at g.like.0 is y.1 was h own e (y.2 ∙ g.like.1) in
                let t = goes_out (server_clock s) c s delay past ms (server_clock s x.before.world) (IsDemand node.state.stable.epoch r) at.0 timely g in
                let c1 = still g.number is in
                let m : Message = seen_on s node.state.stable.epoch r in
                IsBack (server_clock s x.after.world) (omega (arith, t, c1))
                (takes_off (server_clock s) c s delay past x ns (IsSeen node.state.stable.epoch r) a.0 m a.1 (tells a.0 m a.1)
                (ap (λ v. v || ((m.header.from == server_node s) && (m.header.to == c.0)))
                (and_both (m.header.from == c.0) (m.header.to == server_node s) (eq-eqb m.header.from c.0 (ap (λ (v : ClientId). v.0) own))
                (eq-eqb m.header.to (server_node s) refl))) refl)
            go (inr ne) = IsComing (comes_on node.state.stable.epoch r r at.0 (same_self r) g ne)
        by (IsBack sent l g) = go (delivers_or_not x.event g.number)
          where
            go : (x.event ≡ events.Deliver g.number) ⊎ (x.event ≢ events.Deliver g.number) → Where (past ++ x ∷ []) ns node.state.stable.epoch r at
            go (inl is) = absurd (no_message (seen_on s node.state.stable.epoch r) (sym deaf ∙ comes node.state.stable.epoch r sent g is))
            go (inr ne) = IsBack sent l (goes_back node.state.stable.epoch r r sent (same_self r) g ne)
    where2 (Empties new next none rows) node f r at h own e free =
        absurd (rows r (subst (λ (v : ServerNode). Has r v.state.locks.rows) (sym (some_is (sym next ∙ f))) h))

    -- a demand that waits was sent no more than a trip there and back ago
    in_time : (e : Epoch) (r : LockRow) (at : Stamp) → Where past ms e r at → server_clock s x.before.world ≤ at.0 + 2 * delay
    in_time e r at (IsComing f) =
        let z = goes_out (server_clock s) c s delay past ms (server_clock s x.before.world) (IsDemand e r) at.0 timely f in omega (arith, z)
    in_time e r at (IsBack sent l f) =
        let z = goes_out (server_clock s) c s delay past ms (server_clock s x.before.world) (IsSeen e r) sent timely f in omega (arith, z, l)

    -- so the client is suspected only for a greeting
    pub greets : 2 * delay < k.demand → (old : ServerNode) → node_of x.before.world s ≡ Some old → may_ack old.state.authority c ≡ true →
        IsSuspectedBy clients k s c past x old → GreetsLate c s x old
    greets patient old there free (Greeted m r is from body j own lower) =
        record { message = m; row = r; is = is; from = from; hello = body; has = j; own = own; lower = lower }
    greets patient old there free (Silent is r at j own e unanswered late) =
        let z = in_time old.state.stable.epoch r at (b old there r at j (ap (λ n. record { 0 = n }) own) e free) in
        absurd (omega (arith, z, late, patient))
