-- A step of the server keeps what is known of its healthy client's association.
use Rattle.st_lemmas.proofs.Words
use Words.{◌≡◌, ◌≢◌, ℕ, ◌+◌, ◌≤◌, ◌<◌, ◌⊎◌, Bool, true, false, ◌==◌, List, [], ◌∷◌, ◌++◌, Option, Some, None, refl, sym, ap, ◌∙◌, subst, inl, inr, arith, suc}
use Words.{zero, eq-eqb, le-leb, nat_le, Config, ClientId, Epoch, ServerId, Stamp, Message, Output, Request, ServerInput}
use Words.events
use Words.bodies as bd
use Words.outputs
use Words.serving
use Words.seen
use Words.Authority.{may_ack}
use Words.ClientState.{Association, ClientSession}
use Words.Keys.{server_node}
use Words.Safety.{Step}
use Words.Server.{ServerState, ServerTurn, is_client_node, server_step}
use Words.World.{World, numbered}
use Words.Lists.{Has}
use Words.Lookups.{or_right}
use Words.Members.{has_left}
use Words.Tables.{and_both, same_or_not}
use Rattle.st_laws_lasting.specs.Lasting.{client_clock}
use Rattle.st_laws_leases.specs.Dates.Dates.{messages}
use Rattle.st_laws_requests.specs.Cuts.Cuts.{Counts, Given, Numbers, Placed, view}
use Rattle.st_laws_healthy.proofs.Happening.{BringsServer, Deaf}
use Rattle.st_laws_healthy.proofs.Replies.{counts_for, is_served}
use Rattle.st_laws_healthy.proofs.Requests.{IsRequest}
use Rattle.st_laws_healthy.proofs.Served.{Comes, From, Goes, Greets, IsAsked, IsKnown, IsServed, IsTold, Requests, Sees, To, hello_answered, hello_goes}
use Rattle.st_laws_healthy.proofs.Served.{other_goes, request_answered, request_goes, seen_goes, tick_goes, told_more}
use Rattle.st_laws_healthy.proofs.Talking.{Greeted, GreetsAt, Hailed, HasSession, IsAsking, IsAsking2, IsCounting, IsOnTrip, IsTooOld, Phase, WelcomesAt}
use Rattle.st_laws_healthy.proofs.Talking.{Requested, Talks, delivered_among, delivered_is, fly, not_delivered}
use Rattle.st_laws_healthy.proofs.Telling.{first_step}
use Rattle.st_trace.specs.Server.Steps.{step_of}
use Rattle.st_laws_healthy.proofs.Trips.{Back, Begun, Flying, InTime, Out, Trip, flies_on, goes_out, takes_off, trip_began}

-- A message that the server's step sent.
pub record IsSaid (s : ServerId) (x : Step) (ns : List Message) (out : List Output) (m : Message) : Type 0 where
  pub among : Has (outputs.Send m) out
  pub number : ℕ
  pub sent : Has (seen.Sent number m) x.seen
  pub there : numbered ns number ≡ Some m
  pub from : m.header.from ≡ server_node s

-- What is known of an association after a step of the server with this input: its requests are served as far as before, or the input was the next of them.
pub record TalksNext (k : Config) (c : ClientId) (s : ServerId) (gap d : ℕ) (read : World → ℕ) (delay since : ℕ) (past : List Step) (ms : List Message)
    (i : ServerInput) (n : ServerState) (now : ℕ) (a : Association) (last : ℕ) : Type 0 where
  pub known : Talks k c s gap d read delay since past ms n now a
  pub moves : (known.last ≡ last) ⊎ ((r : Message) × (i ≡ serving.Control r) × (known.last ≡ last + 1) ×
      IsRequest (Comes c s ms) c a.life.0 n.stable.epoch.0 known.last r)

module _ (k : Config) (c : ClientId) (s : ServerId) (gap d : ℕ) (read : World → ℕ) (delay : ℕ) (few : c.0 ≤ 64) (clients : ℕ → Bool) (heard : clients c.0 ≡ true) where
  module _ (past : List Step) (x : Step) (w : World) (ns : List Message) (more : (m : Message) → Has m (messages w) → Has m ns)
      (keeps : (i : ℕ) (m : Message) → numbered (messages w) i ≡ Some m → numbered ns i ≡ Some m) (now : ℕ) (clock : client_clock c x.after.world ≡ now)
      (in_time : InTime (client_clock c) c s d past (messages w) now) (begun : Begun (client_clock c) c s d past now)
      (now2 : ℕ) (clock2 : read x.after.world ≡ now2) (in_time2 : InTime read c s delay past (messages w) now2) (begun2 : Begun read c s delay past now2)
      (n : ServerState) (at : Stamp) (i : ServerInput) (free : may_ack n.authority c ≡ true) (still : may_ack (step_of clients n at i).state.authority c ≡ true)
      (sepoch : n.sessions.epoch ≡ n.stable.epoch) (off : Rattle.st_rules.specs.Grace.is_on n.grace at ≡ false) (id : n.id ≡ s) (epoch_same : (step_of clients n at i).state.stable.epoch ≡
      n.stable.epoch)
      (brings : BringsServer w x.event (server_node s) i) (deaf : Deaf w x.event c.0)
      (new : (m : Message) → Has m ns → Has m (messages w) ⊎ IsSaid s x ns (step_of clients n at i).out m)
      (says : (m : Message) → Has (outputs.Send m) (step_of clients n at i).out → IsSaid s x ns (step_of clients n at i).out m) where
    abbrev ms : List Message
    ms = messages w

    abbrev past2 : List Step
    past2 = past ++ x ∷ []

    abbrev n2 : ServerState
    n2 = (step_of clients n at i).state

    abbrev epoch : ℕ
    epoch = n.stable.epoch.0

    -- what the client sent is old
    old_to : (m : Message) → Has m ns → To c s m → Has m ms
    old_to m h f = go (new m h)
      where
        go : Has m ms ⊎ IsSaid s x ns (step_of clients n at i).out m → Has m ms
        go (inl j) = j
        go (inr z) = let y = z.from in let q = f.from in absurd (omega (arith, y, q, few))

    -- what flies back to the client flies on
    flies_back : (f : World → ℕ) (g : ℕ) (P : Message → Type 0) (from : ℕ) → Flying f c s g past ms P from → ((m : Message) → P m → From c s m) →
        Flying f c s g past2 ns P from
    flies_back f g P from y way = fly k c s gap d past x w ns more keeps f g P P from c.0 y (λ h. h) (way y.message y.like).to deaf

    -- a message of the server to the client that the step sent takes off
    back : (f : World → ℕ) (g shown : ℕ) → f x.after.world ≡ shown → (P : Message → Type 0) (m : Message) → Has (outputs.Send m) (step_of clients n at i).out →
        From c s m → P m → Flying f c s g past2 ns P shown
    back f g shown shows P m h y p =
        let z = says m h in
        subst (Flying f c s g past2 ns P) shows
        (takes_off f c s g past x ns P z.number m z.sent z.there
        (or_right _ _ (and_both (m.header.from == server_node s) (m.header.to == c.0) (eq-eqb m.header.from (server_node s) y.from)
        (eq-eqb m.header.to c.0 y.to))) p)

    -- a message that is delivered is the input
    brought : (j : ServerInput) → BringsServer w x.event (server_node s) j → (f : ℕ) (y : Message) → numbered ms f ≡ Some y → y.header.to ≡ server_node s →
        (j ≡ serving.Control y) ⊎ (x.event ≢ events.Deliver f)
    brought serving.Tick b f y q to = inr (not_delivered k c s gap d past x w ns more keeps (server_node s) b f y q to)
    brought (serving.Control m) b f y q to = go (same_or_not b.0.number f)
      where
        number_is : {a e : ℕ} → events.Deliver a ≡ events.Deliver e → a ≡ e
        number_is z = cc

        go : (b.0.number ≡ f) ⊎ (b.0.number ≢ f) → (serving.Control m ≡ serving.Control y) ⊎ (x.event ≢ events.Deliver f)
        go (inl e) = inl (ap (λ z. serving.Control z) (delivered_is k c s gap d past x w ns more keeps m b.0 y (ap (λ z. numbered ms z) e ∙ q)))
        go (inr ne) = inr (λ e. ne (number_is (sym b.0.event ∙ e)))

    module _ (since : ℕ) (a : Association) (t : Talks k c s gap d read delay since past ms n now a) (numbers : Numbers (λ m. Has m ms) c s a.life.0 (view a.session)) where
      abbrev life : ℕ
      life = a.life.0

      abbrev G : Type 0
      G = Goes c s ms ns n.sessions n2.sessions life epoch t.last i (step_of clients n at i).out

      -- two requests under one number are the same
      one : (y z : Message) (number : ℕ) → 1 ≤ number → IsRequest (Comes c s ms) c life epoch number y → IsRequest (Comes c s ms) c life epoch number z →
          y.body ≡ z.body
      one y z number l p q =
          numbers.one y z p.among.among q.among.among (p.from, p.among.to) (q.from, q.among.to) (p.of_life ∙ sym q.of_life) (p.of_epoch ∙ sym q.of_epoch)
          (p.under ∙ sym q.under)
          (let u = p.under in omega (arith, u, l))

      -- a request that sessions serve has a session that lives
      has_served : (m : Message) → Has m ms → To c s m → m.header.life ≡ life → 1 ≤ m.header.number → IsServed c s ms n.sessions life epoch t.last
      has_served m h y l pos = go a.session refl t.phase
        where
          go : (o : Option ClientSession) → a.session ≡ o → Phase k c s gap d read delay since past ms n.sessions life epoch t.last o →
              IsServed c s ms n.sessions life epoch t.last
          go None e p = let z = subst (λ o. Placed life (view o) m) e (numbers.placed m h (y.from, y.to)) l in absurd (omega (arith, z, pos))
          go (Some z) e p = p.served

      -- what the step does for the life
      goes_by : (j : ServerInput) → i ≡ j → BringsServer w x.event (server_node s) j → G
      goes_by serving.Tick is b = subst (λ j. Goes c s ms ns n.sessions (step_of clients n at j).state.sessions life epoch t.last j (step_of clients n at j).out)
          (sym is) (tick_goes c s clients ms ns more n at life t.last free sepoch t.known)
      goes_by (serving.Control m) is b =
          subst (λ j. Goes c s ms ns n.sessions (step_of clients n at j).state.sessions life epoch t.last j (step_of clients n at j).out) (sym is)
          (go (same_or_not m.header.from c.0))
        where
          GM : Type 0
          GM = Goes c s ms ns n.sessions (step_of clients n at (serving.Control m)).state.sessions life epoch t.last (serving.Control m) (step_of clients n at (serving.Control m)).out

          among : Has m ms
          among = delivered_among k c s gap d past x w ns more keeps m b.0

          still_m : may_ack (step_of clients n at (serving.Control m)).state.authority c ≡ true
          still_m = subst (λ j. may_ack (step_of clients n at j).state.authority c ≡ true) is still

          present : m.header.from ≡ c.0 → m.header.life ≡ life → IsAsked c s now m → GM
          present f l (Greets e q) = hello_goes c s clients ms ns more n at life t.last free sepoch t.known m among b.1 heard id f l e off still_m
          present f l (Sees q) = seen_goes c s clients ms ns more n at life t.last free sepoch t.known m among b.1 heard id f l q
          present f l (Requests p q r) =
              request_goes c s clients ms ns more n at life t.last free sepoch t.known m among b.1 heard id f l p q
              (has_served m among (record { from = f; to = b.1 }) l p) one

          of_life : m.header.from ≡ c.0 → (m.header.life ≡ life) ⊎ (m.header.life ≢ life) → GM
          of_life f (inl l) = present f l (t.asked m among (record { from = f; to = b.1 }) l)
          of_life f (inr ne) =
              other_goes c s clients ms ns more n at life t.last free sepoch t.known m among b.1 heard id
              (inr (let l = numbers.lives m among (f, b.1) in not_same l ne))
            where
              not_same : m.header.life ≤ life → m.header.life ≢ life → m.header.life < life
              not_same l ne = go (same_or_not (m.header.life + 1) 0)
                where
                  go : ((m.header.life + 1) ≡ 0) ⊎ ((m.header.life + 1) ≢ 0) → m.header.life < life
                  go z = by (Rattle.std.specs.Prelude.nat_lt m.header.life life) refl
                    where
                      by : (b : Bool) → Rattle.std.specs.Prelude.nat_lt m.header.life life ≡ b → m.header.life < life
                      by true e = Rattle.std.proofs.lemmas.Bool.ltb-true m.header.life life e
                      by false e = let q = Rattle.std.proofs.lemmas.Bool.ltb-false m.header.life life e in absurd (ne (omega (arith, q, l)))

          go : (m.header.from ≡ c.0) ⊎ (m.header.from ≢ c.0) → GM
          go (inl f) = of_life f (same_or_not m.header.life life)
          go (inr ne) = other_goes c s clients ms ns more n at life t.last free sepoch t.known m among b.1 heard id (inl ne)

      goes : G
      goes = goes_by i refl brings

      -- A trip goes on, or turns back.
      module _ (f : World → ℕ) (g shown : ℕ) (shows : f x.after.world ≡ shown) (timely : InTime f c s g past ms shown) (past_it : Begun f c s g past shown)
          (A B : Message → Type 0) (from : ℕ) (to : (m : Message) → A m → To c s m) (way : (m : Message) → B m → From c s m)
          (turns : (m : Message) → Has m ms → A m → i ≡ serving.Control m → (r : Message) × Has (outputs.Send r) (step_of clients n at i).out × B r) where
        goes_on : Trip f c s g past ms A B from → Trip f c s g past2 ns A B from
        goes_on (Back y l r p) = Back y l r (flies_back f g B y p way)
        goes_on (Out p) = go (brought i brings p.number p.message p.there (to p.message p.like).to)
          where
            go : (i ≡ serving.Control p.message) ⊎ (x.event ≢ events.Deliver p.number) → Trip f c s g past2 ns A B from
            go (inr ne) = Out (flies_on f c s g past x ms ns keeps A A from p (λ y. y) ne)
            go (inl is) =
                let z = turns p.message (Rattle.st_lemmas.proofs.Numbers.numbered_has ms p.number p.message p.there) p.like is in
                Back shown (trip_began f c s g past ms shown A B from past_it (Out p)) (goes_out f c s g past ms shown A from timely p)
                (back f g shown shows B z.0 z.1 (way z.0 z.2) z.2)

      -- a greeting is answered with a welcome
      welcomes : (stamp : ℕ) (m : Message) → Has m ms → GreetsAt k c s gap d life stamp m → i ≡ serving.Control m →
          (r : Message) × Has (outputs.Send r) (step_of clients n at i).out × WelcomesAt k c s gap d life stamp r
      welcomes stamp m h g is = subst (λ j. (r : Message) × Has (outputs.Send r) (step_of clients n at j).out × WelcomesAt k c s gap d life stamp r) (sym is)
          (z.0, z.1, record { is = record { way = z.2; of_life = z.3; body = z.4 }; at = z.5 ∙ g.at })
        where
          still_m : may_ack (step_of clients n at (serving.Control m)).state.authority c ≡ true
          still_m = subst (λ j. may_ack (step_of clients n at j).state.authority c ≡ true) is still

          z : (r : Message) × Has (outputs.Send r) (step_of clients n at (serving.Control m)).out × From c s r × (r.header.life ≡ life) ×
              (r.body ≡ bd.Welcome) × (r.header.stamp ≡ m.header.stamp)
          z = hello_answered c s clients ms ns more n at life t.last free sepoch t.known m h g.is.way.to heard id g.is.way.from g.is.of_life g.is.body off still_m

      hailed : (stamp : ℕ) → Hailed k c s gap d past ms life stamp → Hailed k c s gap d past2 ns life stamp
      hailed stamp (IsOnTrip trip) =
          IsOnTrip (goes_on (client_clock c) d now clock in_time begun (GreetsAt k c s gap d life stamp) (WelcomesAt k c s gap d life stamp) stamp
          (λ m y. y.is.way) (λ m y. y.is.way) (welcomes stamp) trip)
      hailed stamp (IsTooOld y h l) = IsTooOld y (has_left past (x ∷ []) y h) l

      greeted : Greeted k c s gap d past ms life → Greeted k c s gap d past2 ns life
      greeted f m h g = hailed m.header.stamp (f m (old_to m h g.way) g)

      -- With a session.
      module _ (z : ClientSession) (there : a.session ≡ Some z) (p : HasSession k c s gap d read delay since past ms n.sessions life epoch t.last z) where
        given : (q : Request) → z.requests.asked ≡ Some q → 1 ≤ q.number
        given q f = (subst (Given z.requests.next) f (subst (λ o. Counts (view o)) there numbers.counts).1).0

        answers : (q : Request) → z.requests.asked ≡ Some q → IsAsking2 k c s gap d read delay since past ms life epoch t.last z.lease.date.0 z.requests.next q →
            (m : Message) → Has m ms →
            IsAsking k c s gap d life epoch q.number q.body m → i ≡ serving.Control m → (r : Message) × Has (outputs.Send r) (step_of clients n at i).out ×
            IsCounting k c s gap d life epoch q.number q.body r
        answers q f r m h g is =
            subst (λ j. (r : Message) × Has (outputs.Send r) (step_of clients n at j).out × IsCounting k c s gap d life epoch q.number q.body r) (sym is) (
              y.0,
              y.1,
              record {
                way = y.2;
                of_life = y.3;
                of_epoch = y.4;
                under = y.5 ∙ g.under;
                counts = subst (λ b. counts_for b y.0.body ≡ true) g.says y.6;
              },
            )
          where
            pos : 1 ≤ m.header.number
            pos = let u = given q f in let v = g.under in omega (arith, u, v)

            place : (m.header.number ≡ t.last + 1) ⊎ (m.header.number ≡ t.last)
            place = go (same_or_not m.header.number t.last)
              where
                go : (m.header.number ≡ t.last) ⊎ (m.header.number ≢ t.last) → (m.header.number ≡ t.last + 1) ⊎ (m.header.number ≡ t.last)
                go (inl u) = inr u
                go (inr ne) = by (same_or_not m.header.number (t.last + 1))
                  where
                    by : (m.header.number ≡ t.last + 1) ⊎ (m.header.number ≢ t.last + 1) → (m.header.number ≡ t.last + 1) ⊎ (m.header.number ≡ t.last)
                    by (inl u) = inl u
                    by (inr none) =
                        let v = g.under in
                        let u = r.number in
                        let b = p.below in
                        let o = r.follows in
                        absurd (between (omega (arith, v, u, b)) (omega (arith, v, u, o)))
                      where
                        between : t.last ≤ m.header.number → m.header.number ≤ t.last + 1 → ⊥
                        between a b = only (Rattle.std.specs.Prelude.nat_lt t.last m.header.number) refl
                          where
                            only : (l : Bool) → Rattle.std.specs.Prelude.nat_lt t.last m.header.number ≡ l → ⊥
                            only true q = let y = Rattle.std.proofs.lemmas.Bool.ltb-true t.last m.header.number q in none (omega (arith, y, b))
                            only false q = let y = Rattle.std.proofs.lemmas.Bool.ltb-false t.last m.header.number q in ne (omega (arith, y, a))

            y : (r : Message) × Has (outputs.Send r) (step_of clients n at (serving.Control m)).out × From c s r × (r.header.life ≡ life) ×
                (r.header.epoch ≡ epoch) × (r.header.number ≡ m.header.number) × (counts_for m.body r.body ≡ true)
            y =
                request_answered c s clients ms ns more n at life t.last free sepoch t.known m h g.way.to heard id g.way.from g.of_life pos
                (ap is_served g.says ∙ r.served) p.served one g.of_epoch place

        -- the server serves no number that was not given
        below : goes.next < z.requests.next
        below = go goes.given
          where
            go : (goes.next ≡ t.last) ⊎ ((r : Message) × (i ≡ serving.Control r) × (goes.next ≡ t.last + 1) × IsRequest (Comes c s ns) c life epoch goes.next r) →
                goes.next < z.requests.next
            go (inl q) = let l = p.below in omega (arith, l, q)
            go (inr (r, is, up, q)) = by (same_or_not goes.next 0)
              where
                way : To c s r
                way = record { from = q.from; to = q.among.to }

                by : (goes.next ≡ 0) ⊎ (goes.next ≢ 0) → goes.next < z.requests.next
                by (inl u) = let l = p.below in omega (arith, l, u)
                by (inr ne) =
                    let placed = subst (λ o. Placed life (view o) r) there (numbers.placed r (old_to r q.among.among way) (q.from, q.among.to)) q.of_life
                    (let u = q.under in some_number r u ne) in
                    let l = placed.below (q.of_epoch ∙ sym p.epoch_is) in
                    let u = q.under in
                    omega (arith, l, u)
                  where
                    some_number : (r : Message) → r.header.number ≡ goes.next → goes.next ≢ 0 → 1 ≤ r.header.number
                    some_number r u ne = only r.header.number u
                      where
                        only : (v : ℕ) → v ≡ goes.next → 1 ≤ v
                        only zero g = absurd (ne (sym g))
                        only (suc v) g = omega arith

        requested : (o : Option Request) → z.requests.asked ≡ o → Requested k c s gap d read delay since past ms life epoch t.last z.lease.date.0 z.requests.next o →
            Requested k c s gap d read delay since past2 ns life epoch goes.next z.lease.date.0 z.requests.next o
        requested None f r = let l = goes.grows in omega (arith, l, r)
        requested (Some q) f r =
            record {
              served = r.served;
              number = r.number;
              follows = let l = goes.grows in let v = r.follows in omega (arith, l, v);
              first = record {
                from = r.first.from;
                young = r.first.young;
                stamps = λ m h g. r.first.stamps m (old_to m h g.way) g;
                trip = goes_on (client_clock c) d now clock in_time begun (IsAsking k c s gap d life epoch q.number q.body)
                    (IsCounting k c s gap d life epoch q.number q.body) r.first.from (λ m y. y.way) (λ m y. y.way) (answers q f r) r.first.trip;
                also = goes_on read delay now2 clock2 in_time2 begun2 (IsAsking k c s gap d life epoch q.number q.body)
                    (IsCounting k c s gap d life epoch q.number q.body) since (λ m y. y.way) (λ m y. y.way) (answers q f r) r.first.also;
              };
            }

        has_session : HasSession k c s gap d read delay since past2 ns n2.sessions life epoch goes.next z
        has_session = record {
          epoch_is = p.epoch_is;
          settled = p.settled;
          sound = p.sound;
          served = goes.served p.served;
          below = below;
          requests = requested
              z.requests.asked refl p.requests;
        }

      -- without one nothing is served
      none_served : a.session ≡ None → t.last ≡ 0 → goes.next ≡ 0
      none_served e l = go goes.given
        where
          go : (goes.next ≡ t.last) ⊎ ((r : Message) × (i ≡ serving.Control r) × (goes.next ≡ t.last + 1) × IsRequest (Comes c s ns) c life epoch goes.next r) →
              goes.next ≡ 0
          go (inl q) = q ∙ l
          go (inr (r, is, up, q)) =
              let way : To c s r = record { from = q.from; to = q.among.to } in
              sym q.under ∙ subst (λ o. Placed life (view o) r) e (numbers.placed r (old_to r q.among.among way) (q.from, q.among.to)) q.of_life

      phase : (o : Option ClientSession) → a.session ≡ o → Phase k c s gap d read delay since past ms n.sessions life epoch t.last o →
          Phase k c s gap d read delay since past2 ns n2.sessions life epoch goes.next o
      phase None e p = (greeted p.0, none_served e p.1)
      phase (Some z) e p = has_session z e p

      -- what is known after the step
      pub serves_on_of : TalksNext k c s gap d read delay since past2 ns i n2 now a t.last
      serves_on_of =
          record {
            known = record {
              last = goes.next;
              known = subst (λ (y : Epoch). IsKnown c s ns n2.sessions life y.0 goes.next) (sym epoch_same) goes.known;
              told = λ m h f. subst (λ (y : Epoch). IsTold c s ns n2.sessions life y.0 goes.next m) (sym epoch_same) (told m f (new m h));
              asked = λ m h f l. t.asked m (old_to m h f) f l;
              greets = λ e m h g. t.greets e m (old_to m h g.way) g;
              phase = subst (λ (y : Epoch). Phase k c s gap d read delay since past2 ns n2.sessions life y.0 goes.next a.session) (sym epoch_same)
                  (phase a.session refl t.phase);
            };
            moves = subst (λ (y : Epoch). (goes.next ≡ t.last) ⊎ ((r : Message) × (i ≡ serving.Control r) × (goes.next ≡ t.last + 1) ×
                IsRequest (Comes c s ns) c life y.0 goes.next r)) (sym epoch_same) goes.given;
          }
        where
          told : (m : Message) → From c s m → Has m ms ⊎ IsSaid s x ns (step_of clients n at i).out m → IsTold c s ns n2.sessions life epoch goes.next m
          told m f (inl h) = told_more c s ms ns more n.sessions n2.sessions life epoch t.last goes.next goes.grows goes.served m (t.told m h f)
          told m f (inr z) = goes.told m z.among f

-- A server of the first two forms.
module _ (k : Config) (c : ClientId) (s : ServerId) (gap d : ℕ) (read : World → ℕ) (delay : ℕ) (few : c.0 ≤ 16) (some : 1 ≤ c.0) where
  heard : is_client_node c.0 ≡ true
  heard = and_both (nat_le 1 c.0) (nat_le c.0 16) (le-leb 1 c.0 some) (le-leb c.0 16 few)

  module _ (past : List Step) (x : Step) (w : World) (ns : List Message) (more : (m : Message) → Has m (messages w) → Has m ns)
      (keeps : (i : ℕ) (m : Message) → numbered (messages w) i ≡ Some m → numbered ns i ≡ Some m) (now : ℕ) (clock : client_clock c x.after.world ≡ now)
      (in_time : InTime (client_clock c) c s d past (messages w) now) (begun : Begun (client_clock c) c s d past now)
      (now2 : ℕ) (clock2 : read x.after.world ≡ now2) (in_time2 : InTime read c s delay past (messages w) now2) (begun2 : Begun read c s delay past now2)
      (n : ServerState) (at : Stamp) (i : ServerInput) (free : may_ack n.authority c ≡ true) where
    -- what holds of this turn after its step
    abbrev Serves : ServerTurn → Type 0
    Serves u =
        may_ack u.state.authority c ≡ true → n.sessions.epoch ≡ n.stable.epoch → Rattle.st_rules.specs.Grace.is_on n.grace at ≡ false → n.id ≡ s →
        u.state.stable.epoch ≡ n.stable.epoch → BringsServer w x.event (server_node s) i → Deaf w x.event c.0 →
        ((m : Message) → Has m ns → Has m (messages w) ⊎ IsSaid s x ns u.out m) → ((m : Message) → Has (outputs.Send m) u.out → IsSaid s x ns u.out m) →
        (since : ℕ) (a : Association) (t : Talks k c s gap d read delay since past (messages w) n now a) →
        Numbers (λ m. Has m (messages w)) c s a.life.0 (view a.session) →
        TalksNext k c s gap d read delay since (past ++ x ∷ []) ns i u.state now a t.last

    pub serves_on : Serves (server_step n at i)
    serves_on =
        subst Serves (first_step n at i)
        (λ still sepoch off id epoch_same brings deaf new says since a t numbers.
        serves_on_of k c s gap d read delay (omega (arith, few)) is_client_node heard past x w ns more keeps now clock in_time begun now2 clock2 in_time2 begun2
        n at i free still sepoch off id epoch_same brings deaf new says since a t numbers)
