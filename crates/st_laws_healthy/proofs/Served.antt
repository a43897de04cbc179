-- What a step of a server does for one life of a client that it does not suspect: how far the session of that life is served after it.
-- Each message to the client is one that nobody asked for, or of an earlier life, or a welcome, or a reply that counts, or tells of another epoch.
use Rattle.st_lemmas.proofs.Words
use Words.{◌≡◌, ◌≢◌, ℕ, ◌+◌, ◌≤◌, ◌<◌, ◌⊎◌, Bool, true, false, ◌==◌, List, [], ◌∷◌, refl, sym, ap, ◌∙◌, subst, inl, inr, arith, nat_lt, Option, Some, None}
use Words.{option_map, eq-eqb, eqb-true, ltb-true, ClientId, Epoch, ServerId, Stamp, Header, Body, Message, Why, Output, ServerInput, Session, SessionState}
use Words.{Taken}
use Words.bodies as bd
use Words.why
use Words.outputs
use Words.serving.{Tick, Control}
use Words.states.{Live}
use Words.takes
use Words.Authority as authority
use Words.Authority.{may_ack}
use Words.Keys.{client, server_node}
use Words.Server as sv
use Words.Server.{ServerState, ServerTurn, thefts, turn}
use Words.Sessions as sessions
use Words.Sessions.{Sessions}
use Words.Lists.{Has}
use Words.Lookups.{some_is}
use Words.Members.{has_right}
use Words.Tables.{cond_either, found_at}
use Words.Truth.{not_both}
use Rattle.st_laws_refine.proofs.Server.Reasserting.{TakeOk, taken_ok}
use Rattle.st_laws_healthy.proofs.Greeting.{IsQuiet, IsWelcome, no_timer, seen_quiet, welcomed}
use Rattle.st_laws_healthy.proofs.Lives.{ComesFrom, IsOf, IsOlder, comes_from}
use Rattle.st_laws_healthy.proofs.Replies.{counts_for, is_served}
use Rattle.st_laws_healthy.proofs.Requests.{IsRequest, in_epoch, not_unknown}
use Rattle.st_laws_healthy.proofs.Serving.{Accepts, Alone, Answers, Does, Ground, OfEpoch, OfGrace, OfGreeting, OfLocks, OfSession, OfSuspect, Passes, Refuses}
use Rattle.st_laws_healthy.proofs.Serving.{Repeats, Serves, Welcomes, does_of, reply_in, said_is}
use Rattle.st_laws_healthy.proofs.Sessions.{Is_later, LivesOn, Serves_next, Stays, kept_of, kept_own, lives_on}
use Rattle.st_laws_healthy.proofs.Sparing.{IsSpared, spared}
use Rattle.st_laws_healthy.proofs.Taking.{IsSeen, SawDemand}
use Rattle.st_laws_healthy.proofs.Telling.{IsUnasked, quiet, step_answers_of, step_free_of, step_grows_of, step_says_of, step_sends_of, step_sessions_of}
use Rattle.st_laws_healthy.proofs.Telling.{tick_sends_of, tick_sessions_of}
use Rattle.st_trace.specs.Server.Steps.{hears, step_of, take_of}

module _ (c : ClientId) (s : ServerId) where
  -- a message from the client to the server, and one back
  pub record To (m : Message) : Type 0 where
    pub from : m.header.from ≡ c.0
    pub to : m.header.to ≡ server_node s

  pub record From (m : Message) : Type 0 where
    pub from : m.header.from ≡ server_node s
    pub to : m.header.to ≡ c.0

  -- a message to the server among these
  pub record Comes (ms : List Message) (m : Message) : Type 0 where
    pub among : Has m ms
    pub to : m.header.to ≡ server_node s

  -- The client's session belongs to this life and lives; it served up to this number, and the reply that it keeps counts for that request.
  pub record IsServed (ms : List Message) (v : Sessions) (life epoch last : ℕ) : Type 0 where
    pub session : Session
    pub is : sessions.session_of v c ≡ Some session
    pub own : session.client.0 ≡ c.0
    pub of_life : session.life.0 ≡ life
    pub kept : Option Body
    pub state : session.state ≡ Live last kept
    pub first : kept ≡ None → last ≡ 0
    pub counts : (x : Body) → kept ≡ Some x → (m : Message) × IsRequest (Comes ms) c life epoch last m × (counts_for m.body x ≡ true)

  -- How far a life is served: its session lives, or none of it began.
  pub data IsKnown (ms : List Message) (v : Sessions) (life epoch last : ℕ) : Type 0 where
    IsBefore : ((y : Session) → sessions.session_of v c ≡ Some y → y.life.0 < life) → last ≡ 0 → IsKnown ms v life epoch last
    IsLiving : IsServed ms v life epoch last → IsKnown ms v life epoch last

  -- A reply in this life and epoch.
  pub data IsGood (ms : List Message) (v : Sessions) (life epoch last : ℕ) (m : Message) : Type 0 where
    IsAWelcome : m.body ≡ bd.Welcome → IsServed ms v life epoch last → (r : Message) → Has r ms → To r → r.header.life ≡ life → r.body ≡ bd.Hello →
        r.header.stamp ≡ m.header.stamp → IsGood ms v life epoch last m
    TellsEpoch : (a b : ℕ) → m.body ≡ bd.Nack why.OtherEpoch a b → IsGood ms v life epoch last m
    IsCounted : 1 ≤ m.header.number → m.header.number ≤ last → (r : Message) → IsRequest (Comes ms) c life epoch m.header.number r →
        r.header.stamp ≡ m.header.stamp →
        counts_for r.body m.body ≡ true → IsGood ms v life epoch last m

  -- A message of the server to the client, in this life of the client and this epoch of the server.
  pub data IsTold (ms : List Message) (v : Sessions) (life epoch last : ℕ) (m : Message) : Type 0 where
    IsOwn : IsUnasked m → IsTold ms v life epoch last m
    IsEarlier : m.header.life < life → IsTold ms v life epoch last m
    IsReplied : m.header.life ≡ life → m.header.epoch ≡ epoch → IsGood ms v life epoch last m → IsTold ms v life epoch last m

  -- What a client sends in its present life: a greeting, that it saw a demand, or a request that sessions serve; at its stamp, which is past.
  pub data IsAsked (now : ℕ) (m : Message) : Type 0 where
    Greets : m.body ≡ bd.Hello → m.header.stamp ≤ now → IsAsked now m
    Sees : IsSeen m.body → IsAsked now m
    Requests : 1 ≤ m.header.number → is_served m.body ≡ true → m.header.stamp ≤ now → IsAsked now m

  -- among more messages
  module _ (ms ns : List Message) (more : (m : Message) → Has m ms → Has m ns) where
    pub comes_more : (life epoch number : ℕ) (m : Message) → IsRequest (Comes ms) c life epoch number m → IsRequest (Comes ns) c life epoch number m
    comes_more life epoch number m r =
        record { among = record { among = more m r.among.among; to = r.among.to }; from = r.from; of_life = r.of_life; of_epoch = r.of_epoch; under = r.under }

    pub served_more : (v : Sessions) (life epoch last : ℕ) → IsServed ms v life epoch last → IsServed ns v life epoch last
    served_more v life epoch last z =
        record {
          session = z.session;
          is = z.is;
          own = z.own;
          of_life = z.of_life;
          kept = z.kept;
          state = z.state;
          first = z.first;
          counts = λ x e. let y = z.counts x e in (y.0, comes_more life epoch last y.0 y.1, y.2);
        }

    pub known_more : (v : Sessions) (life epoch last : ℕ) → IsKnown ms v life epoch last → IsKnown ns v life epoch last
    known_more v life epoch last (IsBefore f e) = IsBefore f e
    known_more v life epoch last (IsLiving z) = IsLiving (served_more v life epoch last z)

    -- and with a session that served further
    module _ (v w : Sessions) (life epoch last next : ℕ) (grows : last ≤ next) (served : IsServed ms v life epoch last → IsServed ns w life epoch next) where
      good_more : (m : Message) → IsGood ms v life epoch last m → IsGood ns w life epoch next m
      good_more m (IsAWelcome e z r h t l b q) = IsAWelcome e (served z) r (more r h) t l b q
      good_more m (TellsEpoch a b e) = TellsEpoch a b e
      good_more m (IsCounted p n r z q k) = IsCounted p (omega (arith, n, grows)) r (comes_more life epoch m.header.number r z) q k

      pub told_more : (m : Message) → IsTold ms v life epoch last m → IsTold ns w life epoch next m
      told_more m (IsOwn u) = IsOwn u
      told_more m (IsEarlier l) = IsEarlier l
      told_more m (IsReplied l e g) = IsReplied l e (good_more m g)

  pub asked_later : (before now : ℕ) → before ≤ now → (m : Message) → IsAsked before m → IsAsked now m
  asked_later before now l m (Greets e q) = Greets e (omega (arith, q, l))
  asked_later before now l m (Sees z) = Sees z
  asked_later before now l m (Requests p z q) = Requests p z (omega (arith, q, l))

  -- a living session of the life has the place
  pub no_before : (v : Sessions) (life : ℕ) (ms : List Message) (epoch last : ℕ) → ((y : Session) → sessions.session_of v c ≡ Some y → y.life.0 < life) →
      IsServed ms v life epoch last → ⊥
  no_before v life ms epoch last f z = let l = f z.session z.is in let e = z.of_life in omega (arith, l, e)

  -- What a step does for a life.
  pub record Goes (ms ns : List Message) (v w : Sessions) (life epoch last : ℕ) (i : ServerInput) (out : List Output) : Type 0 where
    pub next : ℕ
    pub grows : last ≤ next
    pub known : IsKnown ns w life epoch next
    pub served : IsServed ms v life epoch last → IsServed ns w life epoch next
    pub given : (next ≡ last) ⊎ ((r : Message) × (i ≡ Control r) × (next ≡ last + 1) × IsRequest (Comes ns) c life epoch next r)
    pub told : (r : Message) → Has (outputs.Send r) out → From r → IsTold ns w life epoch next r

  -- at a server that hears these nodes as clients
  module _ (clients : ℕ → Bool) (ms ns : List Message) (more : (m : Message) → Has m ms → Has m ns) (n : ServerState) (now : Stamp) (life last : ℕ)
      (free : may_ack n.authority c ≡ true)
      (sepoch : n.sessions.epoch ≡ n.stable.epoch) (known : IsKnown ms n.sessions life n.stable.epoch.0 last) where
    abbrev epoch : ℕ
    epoch = n.stable.epoch.0

    abbrev u : ServerTurn
    u = thefts (turn n []) now

    z : IsSpared c n u
    z = spared c n now free

    -- the same session is in its place
    served_as : (w : Sessions) → sessions.session_of w c ≡ sessions.session_of n.sessions c → IsServed ms n.sessions life epoch last →
        IsServed ns w life epoch last
    served_as w e k =
        record {
          session = k.session;
          is = e ∙ k.is;
          own = k.own;
          of_life = k.of_life;
          kept = k.kept;
          state = k.state;
          first = k.first;
          counts = λ x f. let y = k.counts x f in (y.0, comes_more ms ns more life epoch last y.0 y.1, y.2);
        }

    known_as : (w : Sessions) → sessions.session_of w c ≡ sessions.session_of n.sessions c → IsKnown ms n.sessions life epoch last →
        IsKnown ns w life epoch last
    known_as w e (IsBefore f q) = IsBefore (λ y h. f y (sym e ∙ h)) q
    known_as w e (IsLiving k) = IsLiving (served_as w e k)

    same : (w : Sessions) (i : ServerInput) (out : List Output) → sessions.session_of w c ≡ sessions.session_of n.sessions c →
        ((r : Message) → Has (outputs.Send r) out → From r → IsTold ns w life epoch last r) → Goes ms ns n.sessions w life epoch last i out
    same w i out e f = record { next = last; grows = omega arith; known = known_as w e known; served = served_as w e; given = inl refl; told = f }

    -- A tick.
    pub tick_goes : Goes ms ns n.sessions (step_of clients n now Tick).state.sessions life epoch last Tick (step_of clients n now Tick).out
    tick_goes =
        same (step_of clients n now Tick).state.sessions Tick (step_of clients n now Tick).out (ap (λ v. sessions.session_of v c) (tick_sessions_of clients n now) ∙ z.session)
        (λ r h f. IsOwn (tick_sends_of clients n now r h))

    -- A message to the server.
    module _ (m : Message) (among : Has m ms) (to : m.header.to ≡ server_node s) (heard : clients c.0 ≡ true) (id : n.id ≡ s) where
      abbrev h : Header
      h = m.header

      abbrev v : ServerTurn
      v = take_of clients u now (Control m)

      abbrev w : Sessions
      w = (step_of clients n now (Control m)).state.sessions

      sessions_stay : w ≡ v.state.sessions
      sessions_stay = step_sessions_of clients n now m

      session_stays : sessions.session_of w c ≡ sessions.session_of v.state.sessions c
      session_stays = ap (λ x. sessions.session_of x c) sessions_stay

      -- what a reply is from and to
      its_life : (r : Message) → Answers now h u m.body r → (r.header.life ≡ h.life) × (r.header.to ≡ h.from)
      its_life r a = (ap (λ (x : Message). x.header.life) a.is, ap (λ (x : Message). x.header.to) a.is)

      -- A message of another client, or of an earlier life, leaves the session as it is, if it lives.
      module _ (other : (h.from ≢ c.0) ⊎ (h.life < life)) where
        not_its : h.from ≡ c.0 → h.life < life
        not_its e = go other
          where
            go : (h.from ≢ c.0) ⊎ (h.life < life) → h.life < life
            go (inl ne) = absurd (ne e)
            go (inr l) = l

        other_served : IsServed ms n.sessions life epoch last → sessions.session_of w c ≡ sessions.session_of n.sessions c
        other_served k = session_stays ∙ subst (λ (x : ClientId). sessions.session_of v.state.sessions x ≡ Some k.session) own
            (by (lives_on now h u v m.body k.session last k.kept there k.state (does_of now h clients u m.body))) ∙ sym k.is
          where
            own : k.session.client ≡ c
            own = ap (λ i. client i) k.own

            there : sessions.session_of u.state.sessions k.session.client ≡ Some k.session
            there = ap (λ i. sessions.session_of u.state.sessions i) own ∙ z.session ∙ k.is

            by : LivesOn h m.body k.session last (sessions.session_of v.state.sessions k.session.client) →
                sessions.session_of v.state.sessions k.session.client ≡ Some k.session
            by (Stays q) = q
            by (Serves_next x from l number e f q) = let y = not_its (from ∙ k.own) in let o = k.of_life in absurd (omega (arith, y, l, o))
            by (Is_later from l) = let y = not_its (from ∙ k.own) in let o = k.of_life in absurd (omega (arith, y, l, o))

        other_before : ((y : Session) → sessions.session_of n.sessions c ≡ Some y → y.life.0 < life) → (y : Session) → sessions.session_of w c ≡ Some y →
            y.life.0 < life
        other_before f y q = by (comes_from now h u v m.body c (does_of now h clients u m.body) y (sym session_stays ∙ q))
          where
            by : ComesFrom now h u v m.body c y → y.life.0 < life
            by (IsOlder x e l) = let o = f x (sym z.session ∙ e) in let k = ap (λ (i : Rattle.st_base.specs.declared.ids.Life.Life). i.0) l in omega
                (arith, o, k)
            by (IsOf e l) = let o = not_its e in omega (arith, o, l)

        other_told : (r : Message) → Has (outputs.Send r) (step_of clients n now (Control m)).out → From r → IsTold ns w life epoch last r
        other_told r i f = by (step_sends_of clients n now m r i)
          where
            by : IsUnasked r ⊎ Answers now h u m.body r → IsTold ns w life epoch last r
            by (inl q) = IsOwn q
            by (inr a) = let y = its_life r a in let l = not_its (sym y.1 ∙ f.to) in let e = y.0 in IsEarlier (omega (arith, l, e))

        pub other_goes : Goes ms ns n.sessions w life epoch last (Control m) (step_of clients n now (Control m)).out
        other_goes = go known
          where
            go : IsKnown ms n.sessions life epoch last → Goes ms ns n.sessions w life epoch last (Control m) (step_of clients n now (Control m)).out
            go (IsBefore f q) =
                record {
                  next = last;
                  grows = omega arith;
                  known = IsBefore (other_before f) q;
                  served = λ k. absurd (no_before n.sessions life ms epoch last f k);
                  given = inl refl;
                  told = other_told;
                }
            go (IsLiving k) = same w (Control m) (step_of clients n now (Control m)).out (other_served k) other_told

      -- A message of the client, in this life.
      module _ (mine : h.from ≡ c.0) (present : h.life ≡ life) where
        sender_is : sv.sender h ≡ c
        sender_is = ap (λ i. client i) mine

        free_sender : may_ack u.state.authority (sv.sender h) ≡ true
        free_sender = subst (λ x. may_ack u.state.authority x ≡ true) (sym sender_is) z.free

        pub is_heard : hears clients u.state h ≡ true
        is_heard =
            Rattle.st_lemmas.proofs.Tables.and_both (h.to == server_node u.state.id) (clients h.from)
            (eq-eqb h.to (server_node u.state.id) (to ∙ ap (λ i. server_node i) (sym (z.id ∙ id)))) (ap clients mine ∙ heard)

        to_client : To m
        to_client = record { from = mine; to = to }

        -- the epoch of a reply
        its_epoch : (r : Message) (x : Body) → r ≡ record { header = sv.reply_header u.state h; body = x } → (r.header.life ≡ life) × (r.header.epoch ≡ epoch)
        its_epoch r x e = (ap (λ (y : Message). y.header.life) e ∙ present, ap (λ (y : Message). y.header.epoch) e ∙ ap (λ (y : sv.Stable). y.epoch.0) z.stable)

        -- what is said in answer
        answered : (top : ℕ) (x : Body) (r : Message) → (Has (outputs.Send r) u.out ⊎ (r ≡ record { header = sv.reply_header u.state h; body = x })) →
            IsGood ns w life epoch top (record { header = sv.reply_header u.state h; body = x }) → IsTold ns w life epoch top r
        answered top x r (inl i) g = absurd (quiet n now r i)
        answered top x r (inr e) g = let y = its_epoch r x e in IsReplied y.0 y.1 (subst (IsGood ns w life epoch top) (sym e) g)

        -- what the step says, if its rule says only this
        told_by : (top : ℕ) → ((r : Message) → Has (outputs.Send r) v.out → IsTold ns w life epoch top r) → (r : Message) →
            Has (outputs.Send r) (step_of clients n now (Control m)).out → From r →
            IsTold ns w life epoch top r
        told_by top f r i fr = go (step_says_of clients n now m r i)
          where
            go : Has (outputs.Send r) v.out ⊎ IsUnasked r → IsTold ns w life epoch top r
            go (inl j) = f r j
            go (inr q) = IsOwn q

        -- a message that says nothing and leaves the sessions
        passed : v.state.sessions ≡ u.state.sessions → v.out ≡ u.out → Goes ms ns n.sessions w life epoch last (Control m) (step_of clients n now (Control m)).out
        passed e o =
            same w (Control m) (step_of clients n now (Control m)).out (session_stays ∙ ap (λ x. sessions.session_of x c) e ∙ z.session)
            (told_by last (λ r j. absurd (quiet n now r (subst (Has (outputs.Send r)) o j))))

        -- That a demand was seen.
        pub seen_goes : IsSeen m.body → Goes ms ns n.sessions w life epoch last (Control m) (step_of clients n now (Control m)).out
        seen_goes q = let k = by m.body q in passed k.sessions k.out
          where
            by : (b : Body) → IsSeen b → IsQuiet now h u (take_of clients u now (Control (record { header = h; body = b })))
            by _ (SawDemand ino g) = seen_quiet now h u clients ino g free_sender

        -- A greeting.
        module _ (e : m.body ≡ bd.Hello) (off : Rattle.st_rules.specs.Grace.is_on n.grace now ≡ false) (still : may_ack (step_of clients n now (Control m)).state.authority c ≡ true) where
          no_later : (y : Session) → sessions.session_of u.state.sessions (sv.sender h) ≡ Some y →
              (y.life.0 < h.life) ⊎ ((y.life.0 ≡ h.life) × (sessions.is_live y ≡ true))
          no_later y q = go known
            where
              there : sessions.session_of n.sessions c ≡ Some y
              there = sym z.session ∙ ap (λ x. sessions.session_of u.state.sessions x) (sym sender_is) ∙ q

              go : IsKnown ms n.sessions life epoch last → (y.life.0 < h.life) ⊎ ((y.life.0 ≡ h.life) × (sessions.is_live y ≡ true))
              go (IsBefore f g) = let l = f y there in inl (omega (arith, l, present))
              go (IsLiving k) =
                  let same_one : k.session ≡ y = some_is (sym k.is ∙ there) in
                  inr (
                    ap (λ (x : Session). x.life.0) (sym same_one) ∙ k.of_life ∙ sym present,
                    ap sessions.is_live (sym same_one) ∙ ap sessions.is_live_state
                        k.state,
                  )

          free_behind : may_ack (take_of clients u now (Control (record { header = h; body = bd.Hello }))).state.authority (sv.sender h) ≡ true
          free_behind = subst (λ b. may_ack (take_of clients u now (Control (record { header = h; body = b }))).state.authority (sv.sender h) ≡ true) e
              (subst (λ x. may_ack v.state.authority x ≡ true) (sym sender_is) (step_free_of clients n now m c still))

          welcome : IsWelcome now h u v
          welcome =
              subst (λ b. IsWelcome now h u (take_of clients u now (Control (record { header = h; body = b })))) (sym e)
              (welcomed now h u clients is_heard free_sender (ap (λ g. Rattle.st_rules.specs.Grace.is_on g now) z.grace ∙ off) no_later free_behind)

          lives : IsServed ns w life epoch last
          lives = go known welcome.begins
            where
              its : sessions.session_of w c ≡ Some welcome.session
              its = session_stays ∙ ap (λ x. sessions.session_of v.state.sessions x) (sym sender_is) ∙ welcome.is

              no_reply : (x : Body) → ◌≡◌ {A = Option Body} None (Some x) → ⊥
              no_reply x f = cc

              go : IsKnown ms n.sessions life epoch last → (welcome.session.state ≡ Live 0 None) ⊎
                  (sessions.session_of u.state.sessions (sv.sender h) ≡ Some welcome.session) → IsServed ns w life epoch last
              go (IsBefore f q) (inl st) =
                  record {
                    session = welcome.session;
                    is = its;
                    own = eqb-true welcome.session.client.0 c.0 (found_at (sessions.is_session_of c) w.rows welcome.session its).0;
                    of_life = welcome.life ∙ present;
                    kept = None;
                    state = st ∙ ap (λ i. Live i None) (sym q);
                    first = λ g. q;
                    counts = λ x g. absurd (no_reply x g);
                  }
              go (IsBefore f q) (inr there) =
                  let l = f welcome.session (sym z.session ∙ ap (λ x. sessions.session_of u.state.sessions x) (sym sender_is) ∙ there) in
                  let k = welcome.life in
                  absurd (omega (arith, l, k, present))
              go (IsLiving k) b = served_as w (session_stays ∙ subst (λ (x : ClientId). sessions.session_of v.state.sessions x ≡ Some k.session) own
                  (by (lives_on now h u v m.body k.session last k.kept there k.state (does_of now h clients u m.body))) ∙ sym k.is) k
                where
                  own : k.session.client ≡ c
                  own = ap (λ i. client i) k.own

                  there : sessions.session_of u.state.sessions k.session.client ≡ Some k.session
                  there = ap (λ i. sessions.session_of u.state.sessions i) own ∙ z.session ∙ k.is

                  by : LivesOn h m.body k.session last (sessions.session_of v.state.sessions k.session.client) →
                      sessions.session_of v.state.sessions k.session.client ≡ Some k.session
                  by (Stays q) = q
                  by (Serves_next x from l number f g q) = absurd (not_both (is_served m.body) f (ap is_served e))
                  by (Is_later from l) = let o = k.of_life in absurd (omega (arith, l, o, present))

          pub hello_goes : Goes ms ns n.sessions w life epoch last (Control m) (step_of clients n now (Control m)).out
          hello_goes =
              record {
                next = last;
                grows = omega arith;
                known = IsLiving lives;
                served = λ k. lives;
                given = inl refl;
                told = told_by last (λ r j. answered last bd.Welcome r (said_is now h u v bd.Welcome (Alone welcome.out) r j)
                    (IsAWelcome refl lives m (more m among) to_client present e refl));
              }

          -- and it is answered
          pub hello_answered : (r : Message) × Has (outputs.Send r) (step_of clients n now (Control m)).out × From r × (r.header.life ≡ life) ×
              (r.body ≡ bd.Welcome) × (r.header.stamp ≡ h.stamp)
          hello_answered = (
            record { header = sv.reply_header u.state h; body = bd.Welcome },
            step_grows_of clients n now m (reply_in now h u bd.Welcome) (subst (Has (reply_in now h u bd.Welcome)) (sym welcome.out)
                (has_right u.out (reply_in now h u bd.Welcome ∷ []) (reply_in now h u bd.Welcome) (inl refl))),
            record { from = ap (λ i. server_node i) (z.id ∙ id); to = mine },
            present,
            refl,
            refl,
          )

        -- A request that sessions serve, if the session lives.
        module _ (pos : 1 ≤ h.number) (serves : is_served m.body ≡ true) (k : IsServed ms n.sessions life epoch last)
            (one : (a b : Message) (number : ℕ) → 1 ≤ number → IsRequest (Comes ms) c life epoch number a → IsRequest (Comes ms) c life epoch number b →
            a.body ≡ b.body) where
          there : sessions.session_of u.state.sessions (sv.sender h) ≡ Some k.session
          there = ap (λ x. sessions.session_of u.state.sessions x) sender_is ∙ z.session ∙ k.is

          epoch_u : u.state.sessions.epoch.0 ≡ epoch
          epoch_u = ap (λ (x : Epoch). x.0) (z.epoch ∙ sepoch)

          -- the message is a request of this epoch, if it is taken
          request : (t : Taken Body) → sv.take u h ≡ t → (t ≡ takes.OtherEpoch → ⊥) → IsRequest (Comes ms) c life epoch h.number m
          request t q ne = record {
            among = record { among = among; to = to };
            from = mine;
            of_life = present;
            of_epoch = in_epoch u.state.sessions h
                (λ f. ne (sym q ∙ f)) ∙ epoch_u;
            under = refl;
          }

          again_not : (x : Body) → ◌≡◌ {A = Taken Body} (takes.Again x) takes.OtherEpoch → ⊥
          again_not x f = cc

          fresh_not : ◌≡◌ {A = Taken Body} takes.Fresh takes.OtherEpoch → ⊥
          fresh_not f = cc

          last_is : {a b : ℕ} {x y : Option Body} → ◌≡◌ {A = SessionState} (Live a x) (Live b y) → a ≡ b
          last_is f = cc

          kept_is : {a b : ℕ} {x y : Option Body} → ◌≡◌ {A = SessionState} (Live a x) (Live b y) → x ≡ y
          kept_is f = cc

          no_timer_runs : (start : Stamp) → authority.started u.state.authority (sv.sender h) ≡ Some start → ⊥
          no_timer_runs start f = no (sym (no_timer u.state.authority (sv.sender h) free_sender) ∙ f)
            where
              no : ◌≡◌ {A = Option Stamp} None (Some start) → ⊥
              no g = cc

          refused : (top : ℕ) (y : Why) (a b : ℕ) → Ground now h u m.body y → IsGood ns w life epoch top
              (record { header = sv.reply_header u.state h; body = bd.Nack y a b })
          refused top y a b (OfEpoch q) = TellsEpoch a b (ap (λ x. bd.Nack x a b) q)
          refused top y a b (OfGrace q f) = absurd (not_both (is_served m.body) serves (ap is_served q))
          refused top y a b (OfSession q) = absurd (not_unknown u.state.sessions h k.session there (k.of_life ∙ sym present) q)
          refused top y a b (OfLocks rows q) = absurd (not_both (is_served m.body) serves (ap is_served q))
          refused top y a b (OfSuspect start q) = absurd (no_timer_runs start q)
          refused top y a b (OfGreeting q) = absurd (not_both (is_served m.body) serves (ap is_served q))

          by_rule : Does now h u m.body v → Goes ms ns n.sessions w life epoch last (Control m) (step_of clients n now (Control m)).out
          by_rule (Passes e o) = passed e o
          by_rule (Refuses y a b g e says) =
              same w (Control m) (step_of clients n now (Control m)).out (session_stays ∙ ap (λ x. sessions.session_of x c) e ∙ z.session)
              (told_by last (λ r j. answered last (bd.Nack y a b) r (said_is now h u v (bd.Nack y a b) says r j) (refused last y a b g)))
          by_rule (Repeats x e t says) =
              same w (Control m) (step_of clients n now (Control m)).out (session_stays ∙ ap (λ x. sessions.session_of x c) e ∙ z.session)
              (told_by last (λ r j. answered last x r (said_is now h u v x says r j) good))
            where
              ok : TakeOk (sessions.session_of u.state.sessions (sv.sender h)) h.life h.number (takes.Again x)
              ok = subst (TakeOk (sessions.session_of u.state.sessions (sv.sender h)) h.life h.number) t
                  (taken_ok u.state.sessions (sv.sender h) (sv.life_in h) (sv.epoch_in h) h.number)

              state_is : Live h.number (Some x) ≡ Live last k.kept
              state_is = sym ok.3 ∙ ap (λ (y : Session). y.state) (some_is (sym ok.1 ∙ there)) ∙ k.state

              its : IsRequest (Comes ms) c life epoch h.number m
              its = request (takes.Again x) t (again_not x)

              old : (q : Message) × IsRequest (Comes ms) c life epoch last q × (counts_for q.body x ≡ true)
              old = k.counts x (sym (kept_is state_is))

              good : IsGood ns w life epoch last (record { header = sv.reply_header u.state h; body = x })
              good =
                  IsCounted pos (let l = last_is state_is in omega (arith, l)) m (comes_more ms ns more life epoch h.number m its) refl
                  (subst (λ b. counts_for b x ≡ true) (one old.0 m h.number pos (subst (λ i. IsRequest (Comes ms) c life epoch i old.0)
                  (sym (last_is state_is)) old.1) its) old.2)
          by_rule (Serves x f t cnt e says) =
              record {
                next = h.number;
                grows = let l = number_is in omega (arith, l);
                known = IsLiving served;
                served = λ y. served;
                given = inr (m, refl, number_is, comes_more ms ns more life epoch h.number m its);
                told = told_by h.number (λ r j. answered h.number x r (said_is now h u v x says r j)
                    (IsCounted pos (omega arith) m (comes_more ms ns more life epoch h.number m its) refl cnt));
              }
            where
              ok : TakeOk (sessions.session_of u.state.sessions (sv.sender h)) h.life h.number takes.Fresh
              ok = subst (TakeOk (sessions.session_of u.state.sessions (sv.sender h)) h.life h.number) t
                  (taken_ok u.state.sessions (sv.sender h) (sv.life_in h) (sv.epoch_in h) h.number)

              number_is : h.number ≡ last + 1
              number_is = ok.6 ∙ ap (λ i. i + 1) (last_is (sym ok.5 ∙ ap (λ (y : Session). y.state) (some_is (sym ok.1 ∙ there)) ∙ k.state))

              its : IsRequest (Comes ms) c life epoch h.number m
              its = request takes.Fresh t fresh_not

              kept_some : (y : Body) → ◌≡◌ {A = Option Body} (Some x) (Some y) → x ≡ y
              kept_some y q = cc

              never : ◌≡◌ {A = Option Body} (Some x) None → h.number ≡ 0
              never q = cc

              served : IsServed ns w life epoch h.number
              served =
                  record {
                    session = record k.session { state = Live h.number (Some x) };
                    is =
                        session_stays ∙ ap (λ y. sessions.session_of y c) e ∙ kept_of u.state.sessions (sv.sender h) c h.number x ∙ ap
                        (option_map (sessions.keep_of (sv.sender h) h.number x)) (z.session ∙ k.is)
                        ∙ ap (λ (y : Session). Some y) (kept_own (sv.sender h) h.number x k.session last k.kept (k.own ∙ sym mine) k.state);
                    own = k.own;
                    of_life = k.of_life;
                    kept = Some x;
                    state = refl;
                    first = never;
                    counts = λ y q. (m, comes_more ms ns more life epoch h.number m its, subst (λ b. counts_for m.body b ≡ true) (kept_some y q) cnt);
                  }
          by_rule (Welcomes q e says) = absurd (not_both (is_served m.body) serves (ap is_served q))
          by_rule (Accepts rows q l e says) = absurd (not_both (is_served m.body) serves (ap is_served q))

          pub request_goes : Goes ms ns n.sessions w life epoch last (Control m) (step_of clients n now (Control m)).out
          request_goes = by_rule (does_of now h clients u m.body)

          -- The next request, and the last one, are answered.
          taken : h.epoch ≡ epoch → (h.number ≡ last + 1) ⊎ (h.number ≡ last) → (sv.take u h ≡ takes.Fresh) ⊎
              ((x : Body) × (sv.take u h ≡ takes.Again x) × (counts_for m.body x ≡ true))
          unfolding sessions.take sessions.take_at sessions.take_life sessions.take_past sessions.take_state sessions.take_number sessions.take_from
              sessions.take_next sessions.again
          taken e q =
              cond_either T ((sv.epoch_in h).0 == u.state.sessions.epoch.0) (sessions.take_at (sessions.session_of u.state.sessions (sv.sender h))
              (sv.life_in h) h.number) takes.OtherEpoch
              (λ a. subst (λ o. T (sessions.take_at o (sv.life_in h) h.number)) (sym there)
              (cond_either T (nat_lt k.session.life.0 h.life) takes.NoSession (sessions.take_past k.session (sv.life_in h) h.number)
              (λ b. let l = ltb-true k.session.life.0 h.life b in let o = k.of_life in absurd (omega (arith, l, o, present)))
              (λ b. cond_either T (nat_lt h.life k.session.life.0) takes.Stale (sessions.take_state k.session.state h.number)
              (λ d. let l = ltb-true h.life k.session.life.0 d in let o = k.of_life in absurd (omega (arith, l, o, present)))
              (λ d. subst (λ st. T (sessions.take_state st h.number)) (sym k.state) numbered))))
              (λ a. absurd (not_both (h.epoch == u.state.sessions.epoch.0) (eq-eqb h.epoch u.state.sessions.epoch.0 (e ∙ sym epoch_u)) a))
            where
              T : Taken Body → Type 0
              T t = (t ≡ takes.Fresh) ⊎ ((x : Body) × (t ≡ takes.Again x) × (counts_for m.body x ≡ true))

              again : (o : Option Body) → k.kept ≡ o → h.number ≡ last → T (sessions.again o)
              again None f l = let o = k.first f in absurd (omega (arith, o, l, pos))
              again (Some x) f l =
                  let y = k.counts x f in
                  let its : IsRequest (Comes ms) c life epoch h.number m = record {
                    among = record { among = among; to = to };
                    from = mine;
                    of_life = present;
                    of_epoch = e;
                    under = refl;
                  } in
                  inr (
                    x,
                    refl,
                    subst (λ b. counts_for b x ≡ true) (one y.0 m h.number pos (subst (λ i. IsRequest (Comes ms) c life epoch i y.0) (sym l) y.1)
                        its) y.2,
                  )

              next_or : (h.number ≡ last + 1) ⊎ (h.number ≡ last) → (h.number == last) ≡ false → h.number ≡ last + 1
              next_or (inl f) g = f
              next_or (inr f) g = absurd (not_both (h.number == last) (eq-eqb h.number last f) g)

              at_least : (h.number ≡ last + 1) ⊎ (h.number ≡ last) → last ≤ h.number
              at_least (inl f) = omega (arith, f)
              at_least (inr f) = omega (arith, f)

              numbered : T (sessions.take_number last k.kept h.number)
              numbered =
                  cond_either T (nat_lt h.number last) takes.Stale (sessions.take_from last k.kept h.number)
                  (λ a. let l = ltb-true h.number last a in let o = at_least q in absurd (omega (arith, l, o)))
                  (λ a. cond_either T (h.number == last) (sessions.again k.kept) (sessions.take_next last h.number)
                  (λ b. again k.kept refl (eqb-true h.number last b))
                  (λ b. cond_either T (h.number == last + 1) takes.Fresh takes.OutOfOrder (λ d. inl refl)
                  (λ d. absurd (not_both (h.number == last + 1) (eq-eqb h.number (last + 1) (next_or q b)) d))))

          pub request_answered : h.epoch ≡ epoch → (h.number ≡ last + 1) ⊎ (h.number ≡ last) →
              (r : Message) × Has (outputs.Send r) (step_of clients n now (Control m)).out × From r × (r.header.life ≡ life) × (r.header.epoch ≡ epoch) ×
              (r.header.number ≡ h.number) × (counts_for m.body r.body ≡ true)
          request_answered e q =
              let a = step_answers_of clients n now m is_heard (no_timer u.state.authority (sv.sender h) free_sender)
              (eq-eqb h.epoch u.state.stable.epoch.0 (e ∙ ap (λ (y : sv.Stable). y.epoch.0) (sym z.stable))) serves (taken e q) in (
                record { header = sv.reply_header u.state h; body = a.reply },
                a.sent,
                record { from = ap (λ i. server_node i) (z.id ∙ id); to = mine },
                present,
                ap (λ (y : sv.Stable). y.epoch.0) z.stable,
                refl,
                a.counts,
              )
