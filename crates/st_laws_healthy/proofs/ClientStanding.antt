-- A step of the client keeps what is known of its association with the server.
use Rattle.st_lemmas.proofs.Words
use Words.{◌≡◌, ◌≢◌, ℕ, ◌+◌, ◌*◌, ◌≤◌, ◌<◌, ◌⊎◌, Bool, true, false, ◌==◌, List, [], ◌∷◌, ◌++◌, Option, Some, None, refl, sym, ap, ◌∙◌, subst, inl, inr, arith}
use Words.{is_some, max, nat_lt, eq-eqb, ltb-false, ltb-true, Config, ClientId, Epoch, Life, ServerId, Stamp, Body, Message}
use Words.{ClientInput, Request, Session}
use Words.events
use Words.bodies as bd
use Words.inputs
use Words.seen
use Words.ClientLease.{ClientLease}
use Words.ClientState as cs
use Words.ClientState.{Association, ClientSession}
use Words.Dating as dating
use Words.Keys.{server_node}
use Words.Safety.{Step}
use Words.Server.{ServerState}
use Words.World.{World, numbered}
use Words.Lists.{Has}
use Words.Lookups.{or_left, some_is}
use Words.Numbers.{numbered_has}
use Words.Tables.{and_both, same_or_not}
use Words.Members.{has_left, has_right}
use Words.Sessions.{session_of}
use Words.Truth.{not_both}
use Rattle.std.proofs.Math.Nat.{le-max_left, le-max_right}
use Rattle.st_laws_lasting.specs.Lasting.{client_clock}
use Rattle.st_laws_leases.specs.Dates.Dates.{messages}
use Rattle.st_laws_requests.specs.Cuts.Cuts.{Counts, Given, Numbers, Placed, SameBody, view}
use Rattle.st_laws_steps.specs.Client.Losses.{is_ended}
use Rattle.st_laws_healthy.specs.Healthy.{is_between}
use Rattle.st_laws_healthy.proofs.Counting.{IsEnded}
use Rattle.st_laws_healthy.proofs.Happening.{Brings, Deaf, Delivers}
use Rattle.st_laws_healthy.proofs.Hearing.{counting_calm}
use Rattle.st_laws_healthy.proofs.Passing.{After, Again, Alike, Anew, IsPassed, ByGreeting, ByRequest, IsSentBy, Requested as Asked, SentBy, Still}
use Rattle.st_laws_healthy.proofs.Queues.{Longer}
use Rattle.st_laws_healthy.proofs.Receiving.{Ended, Follows, Kept, Received, follows_self, is_calm, tells_epoch}
use Rattle.st_laws_healthy.proofs.Replies.{counts_for, is_served}
use Rattle.st_laws_healthy.proofs.Served.{From, Greets, IsAWelcome, IsAsked, IsBefore, IsCounted, IsEarlier, IsGood, IsKnown, IsLiving, IsOwn}
use Rattle.st_laws_healthy.proofs.Served.{IsReplied, IsServed, IsTold, Requests, Sees, TellsEpoch, To, known_more, served_more, told_more}
use Rattle.st_laws_healthy.proofs.Taking.{IsSeen, SawDemand}
use Rattle.st_laws_healthy.proofs.Talking.{Greeted, GreetsAt, Hailed, HasSession, IsAsking, IsAsking2, IsCounting, IsGreeting, IsOnTrip, IsOutstanding}
use Rattle.st_laws_healthy.proofs.Talking.{IsTooOld, Phase, Requested, Talks, WelcomesAt, delivered_among, delivered_is, fly, not_delivered}
use Rattle.st_laws_healthy.proofs.Telling.{IsUnasked, is_unasked}
use Rattle.st_laws_healthy.proofs.Trips.{Back, Begun, InTime, Out, Trip, flies_on, takes_off, trip_began, trip_ends}
use Rattle.st_laws_healthy.proofs.Walking.{Hears, IsHeard, IsLeft, IsReceived, Meets, Met, Takes, Unmet, Walk, received_or_not}

-- what nobody asked for condemns nothing, and tells of no epoch
unasked_calm : (b : Body) → is_unasked b ≡ true → (is_calm b ≡ true) × (tells_epoch b ≡ false)
unasked_calm (bd.Granted ino g mode) e = (refl, refl)
unasked_calm (bd.Demand ino g to) e = (refl, refl)
unasked_calm b e = cc

served_plain : (b : Body) → is_served b ≡ true → cs.reasserts b ≡ false
served_plain bd.KeepAlive e = refl
served_plain (bd.Acquire ino mode) e = refl
served_plain (bd.Released ino g to) e = refl
served_plain (bd.Map ino g p) e = refl
served_plain (bd.Allocate ino g p n) e = refl
served_plain (bd.Cut ino g p) e = refl
served_plain (bd.Name op) e = refl
served_plain b e = cc

served_request : (b : Body) → is_served b ≡ true → dating.is_request b ≡ true
served_request bd.KeepAlive e = refl
served_request (bd.Acquire ino mode) e = refl
served_request (bd.Released ino g to) e = refl
served_request (bd.Map ino g p) e = refl
served_request (bd.Allocate ino g p n) e = refl
served_request (bd.Cut ino g p) e = refl
served_request (bd.Name op) e = refl
served_request b e = cc

-- A message that the step sent.
pub record IsNew (c : ClientId) (x : Step) (ns : List Message) (now : ℕ) (Says : Message → Type 0) (m : Message) : Type 0 where
  pub among : Says m
  pub number : ℕ
  pub sent : Has (seen.Sent number m) x.seen
  pub there : numbered ns number ≡ Some m
  pub from : m.header.from ≡ c.0
  pub stamp : dating.is_request m.body ≡ true → m.header.stamp ≡ now

-- What the input leaves of a session: its next number, and its requests; or the outstanding one ended, which the server had served.
pub record Middle (z : ClientSession) (last : ℕ) (o : Option ClientSession) : Type 0 where
  pub session : ClientSession
  pub is : o ≡ Some session
  pub settled : session.due ≡ false
  pub next : session.requests.next ≡ z.requests.next
  pub releases : Longer z.releases session.releases
  pub requests : (session.requests ≡ z.requests) ⊎ ((session.requests.asked ≡ None) × ((q : Request) × (z.requests.asked ≡ Some q) × (q.number ≤ last)))

module _ (k : Config) (c : ClientId) (s : ServerId) (gap d : ℕ) (read : World → ℕ) (delay : ℕ) (few : c.0 ≤ 64) where
  abbrev cap : ℕ
  cap = max (k.renew + gap) (2 * d + 1)

  module _ (past : List Step) (x : Step) (w : World) (ns : List Message) (more : (m : Message) → Has m (messages w) → Has m ns)
      (keeps : (i : ℕ) (m : Message) → numbered (messages w) i ≡ Some m → numbered ns i ≡ Some m) (now : Stamp) (clock : client_clock c x.after.world ≡ now.0)
      (in_time : InTime (client_clock c) c s d past (messages w) now.0) (begun : Begun (client_clock c) c s d past now.0)
      (now2 : ℕ) (clock2 : read x.after.world ≡ now2) (kb : Config) (i : ClientInput) (Says : Message → Type 0)
      (new : (m : Message) → Has m ns → Has m (messages w) ⊎ IsNew c x ns now.0 Says m) (brings : Brings w x.event c.0 i)
      (deaf_server : Deaf w x.event (server_node s)) (n : ServerState) where
    -- what becomes of an association
    abbrev pub W : Association → Association → Type 0
    W a b = Walk kb k.lease now i a b

    abbrev ms : List Message
    ms = messages w

    abbrev past2 : List Step
    past2 = past ++ x ∷ []

    abbrev epoch : ℕ
    epoch = n.stable.epoch.0

    -- what the server sent is old
    old_from : (m : Message) → Has m ns → From c s m → Has m ms
    old_from m h f = go (new m h)
      where
        go : Has m ms ⊎ IsNew c x ns now.0 Says m → Has m ms
        go (inl j) = j
        go (inr z) = let y = z.from in let q = f.from in absurd (omega (arith, y, q, few))

    -- a message that is delivered is the input
    brought : (j : ClientInput) → Brings w x.event c.0 j → (f : ℕ) (y : Message) → numbered ms f ≡ Some y → y.header.to ≡ c.0 →
        (j ≡ inputs.Control y) ⊎ (x.event ≢ events.Deliver f)
    brought inputs.Tick b f y q to = inr (not_delivered k c s gap d past x w ns more keeps c.0 b f y q to)
    brought (inputs.App op ask) b f y q to = inr (not_delivered k c s gap d past x w ns more keeps c.0 b f y q to)
    brought (inputs.Done number r) b f y q to = inr (not_delivered k c s gap d past x w ns more keeps c.0 b f y q to)
    brought (inputs.Control m) b f y q to = go (same_or_not b.0.number f)
      where
        number_is : {a e : ℕ} → events.Deliver a ≡ events.Deliver e → a ≡ e
        number_is z = cc

        is_it : b.0.number ≡ f → m ≡ y
        is_it e = delivered_is k c s gap d past x w ns more keeps m b.0 y (ap (λ z. numbered ms z) e ∙ q)

        go : (b.0.number ≡ f) ⊎ (b.0.number ≢ f) → (inputs.Control m ≡ inputs.Control y) ⊎ (x.event ≢ events.Deliver f)
        go (inl e) = inl (ap (λ z. inputs.Control z) (is_it e))
        go (inr ne) = inr (λ e. ne (number_is (sym b.0.event ∙ e)))

    -- A lease that lasts isn't lost.
    lasts_at : (a b : Association) (walk : W a b) → is_ended kb now a.session ≡ false → walk.first ≡ a
    lasts_at a b walk ongoing = walk.lasts ongoing

    module _ (since : ℕ) (a b : Association) (walk : W a b) (ongoing : is_ended kb now a.session ≡ false) (at : a.server ≡ s)
        (t : Talks k c s gap d read delay since past ms n now.0 a)
        (young : (z : ClientSession) → a.session ≡ Some z → z.lease.condemned ≡ false → z.requests.asked ≡ None → now.0 < z.lease.date.0 + k.renew + gap)
        (numbers : Numbers (λ m. Has m ms) c s a.life.0 (view a.session)) (numbers2 : Numbers (λ m. Has m ns) c s a.life.0 (view b.session)) where
      abbrev life : ℕ
      life = a.life.0

      abbrev S : ClientSession → Type 0
      S z = HasSession k c s gap d read delay since past ms n.sessions life epoch t.last z

      abbrev HeldAfter : ClientSession → Type 0
      HeldAfter z = HasSession k c s gap d read delay since past2 ns n.sessions life epoch t.last z

      -- a session, and its lease, is young if nothing is asked
      abbrev Ready : ClientSession → Type 0
      Ready z = z.requests.asked ≡ None → now.0 < z.lease.date.0 + cap

      lasts : walk.first ≡ a
      lasts = lasts_at a b walk ongoing

      -- a session with the same requests and lease
      carries : (P : List Step) (M : List Message) (z u : ClientSession) → HasSession k c s gap d read delay since P M n.sessions life epoch t.last z → u.epoch ≡ z.epoch →
          u.due ≡ z.due → u.lease ≡ z.lease → u.requests ≡ z.requests →
          HasSession k c s gap d read delay since P M n.sessions life epoch t.last u
      carries P M z u p e f l r =
          record {
            epoch_is = ap (λ (y : Epoch). y.0) e ∙ p.epoch_is;
            settled = f ∙ p.settled;
            sound = ap (λ (y : ClientLease). y.condemned) l ∙ p.sound;
            served = p.served;
            below = subst (λ (y : cs.Requests). t.last < y.next) (sym r) p.below;
            requests = subst (λ (y : cs.Requests). Requested k c s gap d read delay since P M life epoch t.last u.lease.date.0 y.next y.asked) (sym r)
                (subst (λ (y : ClientLease). Requested k c s gap d read delay since P M life epoch t.last y.date.0 z.requests.next z.requests.asked) (sym l) p.requests);
          }

      -- What the message that is heard may be: one that the server sent.
      module _ (m : Message) (is : i ≡ inputs.Control m) (received : IsReceived a now m.header) where
        its : Delivers w x.event m × (m.header.to ≡ c.0)
        its = subst (Brings w x.event c.0) is brings

        among : Has m ms
        among = delivered_among k c s gap d past x w ns more keeps m its.0

        way : From c s m
        way = record { from = received.from ∙ ap (λ (y : ServerId). server_node y) at; to = its.1 }

        present : m.header.life ≡ life
        present = received.life

        told : IsTold c s ms n.sessions life epoch t.last m
        told = t.told m among way

      -- With a session.
      module _ (z : ClientSession) (with_it : a.session ≡ Some z) (p : S z) where
        -- the message condemns nothing, and tells of no later epoch
        calm : (m : Message) → IsTold c s ms n.sessions life epoch t.last m → m.header.life ≡ life →
            (is_calm m.body ≡ true) × (tells_epoch m.body ≡ true → m.header.epoch ≤ z.epoch.0)
        calm m (IsOwn u) l = let y = unasked_calm m.body u.body in (y.0, λ f. absurd (not_both (tells_epoch m.body) f y.1))
        calm m (IsEarlier q) l = absurd (omega (arith, q, l))
        calm m (IsReplied q e g) l = (by g, λ f. let y = p.epoch_is in omega (arith, y, e))
          where
            by : IsGood c s ms n.sessions life epoch t.last m → is_calm m.body ≡ true
            by (IsAWelcome f sv r h w o q j) = ap is_calm f
            by (TellsEpoch y v f) = ap is_calm f
            by (IsCounted f o r q j v) = counting_calm r.body m.body v

        -- the number of the outstanding request
        given : (q : Request) → z.requests.asked ≡ Some q → 1 ≤ q.number
        given q e = (subst (Given z.requests.next) e (subst (λ o. Counts (view o)) with_it numbers.counts).1).0

        asking : (q : Request) → z.requests.asked ≡ Some q → IsAsking2 k c s gap d read delay since past ms life epoch t.last z.lease.date.0 z.requests.next q
        asking q e = subst (Requested k c s gap d read delay since past ms life epoch t.last z.lease.date.0 z.requests.next) e p.requests

        -- A reply to the outstanding request was sent for a message that asked it.
        record Origin (q : Request) (m : Message) : Type 0 where
          asked : Message
          among : Has asked ms
          is : IsAsking k c s gap d life epoch q.number q.body asked
          stamp : asked.header.stamp ≡ m.header.stamp
          served : m.header.number ≤ t.last

        origin : (m : Message) → IsTold c s ms n.sessions life epoch t.last m → m.header.life ≡ life → (q : Request) → z.requests.asked ≡ Some q →
            m.header.number ≡ q.number → counts_for q.body m.body ≡ true → Origin q m
        origin m told present q e number counts = by told
          where
            good : IsGood c s ms n.sessions life epoch t.last m → Origin q m
            good (IsAWelcome f sv r h w o j g) = absurd (not_both (counts_for q.body m.body) counts (ap (counts_for q.body) f))
            good (TellsEpoch y v f) = absurd (not_both (counts_for q.body m.body) counts (ap (counts_for q.body) f))
            good (IsCounted f l r g j v) =
                let placed = subst (λ o. Placed life (view o) r) with_it (numbers.placed r g.among.among (g.from, g.among.to)) g.of_life
                (let u = g.under in omega (arith, u, f)) in
                record {
                  asked = r;
                  among = g.among.among;
                  is = record {
                    way = record { from = g.from; to = g.among.to };
                    of_life = g.of_life;
                    of_epoch = g.of_epoch;
                    under = g.under ∙ number;
                    says = subst (λ (o : Option Request). SameBody o r) e (placed.same (g.of_epoch ∙ sym p.epoch_is)) (g.under ∙ number);
                  };
                  stamp = j;
                  served = l;
                }

            by : IsTold c s ms n.sessions life epoch t.last m → Origin q m
            by (IsOwn u) = absurd (let y = u.number in let g = given q e in omega (arith, y, number, g))
            by (IsEarlier l) = absurd (omega (arith, l, present))
            by (IsReplied l y g) = good g

        -- so its stamp is past
        stamp_past : (m : Message) → IsTold c s ms n.sessions life epoch t.last m → m.header.life ≡ life → (q : Request) → z.requests.asked ≡ Some q →
            m.header.number ≡ q.number → counts_for q.body m.body ≡ true →
            m.header.stamp ≤ now.0
        stamp_past m told present q e number counts = by (t.asked o.asked o.among o.is.way o.is.of_life)
          where
            o : Origin q m
            o = origin m told present q e number counts

            seen_not : (b : Body) → IsSeen b → is_served b ≡ false
            seen_not _ (SawDemand ino g) = refl

            by : IsAsked c s now.0 o.asked → m.header.stamp ≤ now.0
            by (Greets f l) = let j = o.stamp in omega (arith, l, j)
            by (Sees f) = absurd (not_both (is_served o.asked.body) (ap is_served o.is.says ∙ (asking q e).served) (seen_not o.asked.body f))
            by (Requests f g l) = let j = o.stamp in omega (arith, l, j)

        -- requests under the number are old, or sent now
        stamps : (q : Request) (o : IsOutstanding k c s gap d read delay since past ms life epoch z.lease.date.0 q.number q.body) → is_served q.body ≡ true → (m : Message) →
            Has m ns →
            IsAsking k c s gap d life epoch q.number q.body m → o.from ≤ m.header.stamp
        stamps q o served m h y = go (new m h)
          where
            go : Has m ms ⊎ IsNew c x ns now.0 Says m → o.from ≤ m.header.stamp
            go (inl j) = o.stamps m j y
            go (inr j) =
                let v = j.stamp (subst (λ b. dating.is_request b ≡ true) (sym y.says) (served_request q.body served)) in
                let l = trip_began (client_clock c) c s d past ms now.0 (IsAsking k c s gap d life epoch q.number q.body) (IsCounting k c s gap d life epoch q.number q.body)
                o.from begun o.trip in
                omega (arith, v, l)

        -- after the input: the session holds, and if nothing is asked, its lease is young
        record Held (o : Option ClientSession) : Type 0 where
          session : ClientSession
          is : o ≡ Some session
          holds : HeldAfter session
          ready : Ready session
          next : session.requests.next ≡ z.requests.next
          releases : Longer z.releases session.releases
          requests : (session.requests ≡ z.requests) ⊎ ((session.requests.asked ≡ None) × ((q : Request) × (z.requests.asked ≡ Some q) × (q.number ≤ t.last)))

        -- it is as it was, and no reply to its request was delivered
        module _ (o : Option ClientSession) (follows : Follows z o)
            (unanswered : (q : Request) → z.requests.asked ≡ Some q → (f : ℕ) (y : Message) → numbered ms f ≡ Some y →
            IsCounting k c s gap d life epoch q.number q.body y → x.event ≢ events.Deliver f) where
          trip_on : (f : World → ℕ) (g : ℕ) (q : Request) → z.requests.asked ≡ Some q → (from : ℕ) →
              Trip f c s g past ms (IsAsking k c s gap d life epoch q.number q.body) (IsCounting k c s gap d life epoch q.number q.body) from →
              Trip f c s g past2 ns (IsAsking k c s gap d life epoch q.number q.body) (IsCounting k c s gap d life epoch q.number q.body) from
          trip_on f g q e from (Out p) =
              Out (fly k c s gap d past x w ns more keeps f g (IsAsking k c s gap d life epoch q.number q.body) (IsAsking k c s gap d life epoch q.number q.body)
              from (server_node s) p (λ y. y) p.like.way.to deaf_server)
          trip_on f g q e from (Back y l r p) =
              Back y l r (flies_on f c s g past x ms ns keeps (IsCounting k c s gap d life epoch q.number q.body)
              (IsCounting k c s gap d life epoch q.number q.body) y p (λ y. y)
              (unanswered q e p.number p.message p.there p.like))

          went_on : (r : Option Request) → z.requests.asked ≡ r → Requested k c s gap d read delay since past ms life epoch t.last z.lease.date.0 z.requests.next r →
              Requested k c s gap d read delay since past2 ns life epoch t.last z.lease.date.0 z.requests.next r
          went_on None e r = r
          went_on (Some q) e r =
              record {
                served = r.served;
                number = r.number;
                follows = r.follows;
                first =
                    record {
                      from = r.first.from;
                      young = r.first.young;
                      stamps = stamps q r.first r.served;
                      trip = trip_on (client_clock c) d q e r.first.from r.first.trip;
                      also = trip_on read delay q e since r.first.also;
                    };
              }

          same_held : Held o
          same_held = record {
            session = follows.session;
            is = follows.is;
            holds = carries past2 ns z follows.session
                (record {
                  epoch_is = p.epoch_is;
                  settled = p.settled;
                  sound = p.sound;
                  served = served_more c s ms ns more n.sessions life epoch t.last p.served;
                  below = p.below;
                  requests = went_on z.requests.asked refl p.requests;
                }) follows.epoch follows.due follows.lease follows.requests;
            ready = λ e. let y = young z with_it p.sound (ap (λ (v : cs.Requests). v.asked) (sym follows.requests) ∙ e) in
                let g = ap (λ (v : ClientLease). v.date.0) follows.lease in
                let l = le-max_left (k.renew + gap) (2 * d + 1) in omega (arith, y, g, l);
            next = ap (λ (v : cs.Requests). v.next) follows.requests;
            releases = follows.releases;
            requests = inl follows.requests;
          }

        -- its request was answered
        ended_held : (m : Message) → IsTold c s ms n.sessions life epoch t.last m → m.header.life ≡ life → (q : Request) → z.requests.asked ≡ Some q →
            q.number ≡ m.header.number → counts_for q.body m.body ≡ true →
            (o : Option ClientSession) → IsEnded z m.header.stamp o → Held o
        ended_held m told present q asked number counts o e = record {
          session = e.session;
          is = e.is;
          holds = record {
            epoch_is = ap (λ (y : Epoch). y.0) e.epoch ∙ p.epoch_is;
            settled = not_due;
            sound = e.sound;
            served = served_more c s ms ns more n.sessions life epoch t.last p.served;
            below = subst (λ y. t.last < y) (sym e.next) p.below;
            requests = subst (Requested k c s gap d read delay since past2 ns life epoch t.last e.session.lease.date.0 e.session.requests.next) (sym e.rests)
                (let y = from.served in let r = (asking q asked).number in let v = e.next in omega (arith, y, r, v, number));
          };
          ready = λ f. let y = dated in let l = le-max_right (k.renew + gap) (2 * d + 1) in let v = e.date in omega (arith, y, l, v);
          next = e.next;
          releases = e.releases;
          requests = inr (e.rests, (q, asked, let y = from.served in omega (arith, y, number)));
        }
          where
            from : Origin q m
            from = origin m told present q asked (sym number) counts

            not_due : e.session.due ≡ false
            not_due = go e.session.due refl
              where
                go : (b : Bool) → e.session.due ≡ b → e.session.due ≡ false
                go false f = f
                go true f = absurd (not_both z.due (e.due f) p.settled)

            dated : now.0 < m.header.stamp + (2 * d + 1)
            dated =
                let first = (asking q asked).first.stamps from.asked from.among from.is in
                let over = trip_ends (client_clock c) c s d past ms now.0 (IsAsking k c s gap d life epoch q.number q.body) (IsCounting k c s gap d life epoch q.number q.body)
                (asking q asked).first.from in_time (asking q asked).first.trip in
                let j = from.stamp in
                omega (arith, first, over, j)

        -- The input.
        heard : (m : Message) → i ≡ inputs.Control m → Hears k.lease now m a walk.second → Held walk.second.session
        heard m is hears = go (received_or_not a now m.header)
          where
            plain : (q : Request) → z.requests.asked ≡ Some q → cs.reasserts q.body ≡ false
            plain q e = served_plain q.body (asking q e).served

            -- no other message is delivered
            only : (f : ℕ) (y : Message) → numbered ms f ≡ Some y → y.header.to ≡ c.0 → (m ≡ y) ⊎ (x.event ≢ events.Deliver f)
            only f y q to = go (brought i brings f y q to)
              where
                same : inputs.Control m ≡ inputs.Control y → m ≡ y
                same e = cc

                go : (i ≡ inputs.Control y) ⊎ (x.event ≢ events.Deliver f) → (m ≡ y) ⊎ (x.event ≢ events.Deliver f)
                go (inl e) = inl (same (sym is ∙ e))
                go (inr ne) = inr ne

            go : IsReceived a now m.header ⊎ (IsReceived a now m.header → ⊥) → Held walk.second.session
            go (inr unheard) =
                same_held walk.second.session (subst (Follows z) (sym (hears.passes unheard ∙ with_it)) (follows_self z))
                (λ q e f y g v. undelivered q e f y g v (only f y g v.way.to))
              where
                undelivered : (q : Request) → z.requests.asked ≡ Some q → (f : ℕ) (y : Message) → numbered ms f ≡ Some y →
                    IsCounting k c s gap d life epoch q.number q.body y → (m ≡ y) ⊎ (x.event ≢ events.Deliver f) →
                    x.event ≢ events.Deliver f
                undelivered q e f y g v (inr ne) = ne
                undelivered q e f y g v (inl same) = absurd (unheard (in_place q e v same))
                  where
                    past_stamp : (q : Request) → z.requests.asked ≡ Some q → IsCounting k c s gap d life epoch q.number q.body y → m ≡ y →
                        m.header.stamp ≤ now.0
                    past_stamp q e v same = let l = stamp_past y (t.told y (numbered_has ms f y g) v.way) v.of_life q e v.under v.counts in let j = ap
                        (λ (u : Message). u.header.stamp) same in omega (arith, l, j)

                    in_place : (q : Request) → z.requests.asked ≡ Some q → IsCounting k c s gap d life epoch q.number q.body y → m ≡ y →
                        IsReceived a now m.header
                    in_place q e v same =
                        record {
                          from = ap (λ (u : Message). u.header.from) same ∙ v.way.from ∙ ap (λ (u : ServerId). server_node u) (sym at);
                          life = ap (λ (u : Message). u.header.life) same ∙ v.of_life;
                          stamp = past_stamp q e v same;
                        }
            go (inl got) = by (hears.received z with_it p.sound plain quiet.1 quiet.0)
              where
                quiet : (is_calm m.body ≡ true) × (tells_epoch m.body ≡ true → m.header.epoch ≤ z.epoch.0)
                quiet = calm m (told m is got) (present m is got)

                by : Received z m.header m.body walk.second.session → Held walk.second.session
                by (Ended q e number counts ended) = ended_held m (told m is got) (present m is got) q e number counts
                    walk.second.session ended
                by (Kept f) = kept z.requests.asked refl
                  where
                    unasked : z.requests.asked ≡ None → Held walk.second.session
                    unasked e = same_held walk.second.session f (λ q g. absurd (no (sym e ∙ g)))
                      where
                        no : {q : Request} → ◌≡◌ {A = Option Request} None (Some q) → ⊥
                        no v = cc

                    -- if the reply is this message, it ends the request
                    kept : (o : Option Request) → z.requests.asked ≡ o → Held walk.second.session
                    kept None e = unasked e
                    kept (Some q) e = decide (counts_for q.body m.body) refl (same_or_not m.header.number q.number)
                      where
                        others : ((y : Message) → IsCounting k c s gap d life epoch q.number q.body y → m ≡ y → ⊥) →
                            Held walk.second.session
                        others never =
                            same_held walk.second.session f
                            (λ q2 e2 g y h v. either y g (subst (λ (o : Request). IsCounting k c s gap d life epoch o.number o.body y) (some_is (sym e2 ∙ e))
                            v) (only g y h v.way.to))
                          where
                            either : (y : Message) (g : ℕ) → IsCounting k c s gap d life epoch q.number q.body y → (m ≡ y) ⊎ (x.event ≢ events.Deliver g) →
                                x.event ≢ events.Deliver g
                            either y g v (inl same) = absurd (never y v same)
                            either y g v (inr ne) = ne

                        decide : (b : Bool) → counts_for q.body m.body ≡ b → (m.header.number ≡ q.number) ⊎ (m.header.number ≢ q.number) →
                            Held walk.second.session
                        decide false g number = others (λ y v same. not_both (counts_for q.body m.body)
                            (ap (λ (u : Message). counts_for q.body u.body) same ∙ v.counts) g)
                        decide true g (inr ne) = others (λ y v same. ne (ap (λ (u : Message). u.header.number) same ∙ v.under))
                        decide true g (inl number) = in_epoch (same_or_not m.header.epoch epoch)
                          where
                            pos2 : 1 ≤ m.header.number
                            pos2 = let y = given q e in omega (arith, y, number)

                            in_epoch : (m.header.epoch ≡ epoch) ⊎ (m.header.epoch ≢ epoch) → Held walk.second.session
                            in_epoch (inr ne) = others (λ y v same. ne (ap (λ (u : Message). u.header.epoch) same ∙ v.of_epoch))
                            in_epoch (inl same) =
                                ended_held m (told m is got) (present m is got) q e (sym number) g
                                walk.second.session
                                (hears.counted z q with_it p.sound e (sym number) (plain q e) got (same ∙ sym p.epoch_is) pos2 g)

        -- After the input.
        second_held : Takes k.lease now i walk.first walk.second → Held walk.second.session
        second_held (IsLeft quiet server l g alike) =
            same_held walk.second.session (subst (λ o. Alike o walk.second.session) (ap (λ (y : Association). y.session) lasts ∙ with_it) alike)
            (λ q e f y h v. by q e f y h v (brought i brings f y h v.way.to))
          where
            by : (q : Request) → z.requests.asked ≡ Some q → (f : ℕ) (y : Message) → numbered ms f ≡ Some y →
                IsCounting k c s gap d life epoch q.number q.body y → (i ≡ inputs.Control y) ⊎ (x.event ≢ events.Deliver f) → x.event ≢ events.Deliver f
            by q e f y h v (inl is) =
                let u = quiet y is (v.of_life ∙ ap (λ (r : Association). r.life.0) (sym lasts)) in
                absurd (let o = u.number in let g = given q e in let j = v.under in omega (arith, o, g, j))
            by q e f y h v (inr ne) = ne
        second_held (IsHeard m is hears sv lf) = heard m is (subst (λ (y : Association). Hears k.lease now m y walk.second) lasts hears)

      -- The passes.
      -- a request that was not there before is new
      new_request : (q : ℕ) → ((m : Message) → Has m ms → To c s m → m.header.life ≡ life → m.header.epoch ≡ epoch → m.header.number ≡ q → ⊥) →
          (m : Message) → Has m ns → To c s m → m.header.life ≡ life →
          m.header.epoch ≡ epoch → m.header.number ≡ q → IsNew c x ns now.0 Says m
      new_request q none m h y l e u = go (new m h)
        where
          go : Has m ms ⊎ IsNew c x ns now.0 Says m → IsNew c x ns now.0 Says m
          go (inl j) = absurd (none m j y l e u)
          go (inr j) = j

      -- What is known after the passes, and that the outstanding request was sent first at the same reading if no request was asked anew.
      record Passed (next : ℕ) : Type 0 where
        since2 : ℕ
        phase : Phase k c s gap d read delay since2 past2 ns n.sessions life epoch t.last b.session
        same : (v : ClientSession) → b.session ≡ Some v → v.requests.next ≡ next → since2 ≡ since

      -- no request was sent under the next number
      module _ (u : ClientSession) (held : HeldAfter u) (next : ℕ) (none : (m : Message) → Has m ms → To c s m → m.header.life ≡ life → m.header.epoch ≡ epoch →
          m.header.number ≡ u.requests.next → ⊥) where
        passed : Ready u → IsPassed now u b.session → Passed u.requests.next
        passed ready y = record {
          since2 = z.0;
          phase = subst (Phase k c s gap d read delay z.0 past2 ns n.sessions life epoch t.last) (sym y.is) z.1;
          same = λ w at e. z.2 (ap (λ (x : ClientSession). x.requests.next) (some_is (sym y.is ∙ at)) ∙ e);
        }
          where
            v : ClientSession
            v = y.session

            at_v : b.session ≡ Some v
            at_v = y.is

            -- with requests that were sent first at this reading
            At : ℕ → Type 0
            At since2 = HasSession k c s gap d read delay since2 past2 ns n.sessions life epoch t.last v

            -- with these requests
            with_requests : (since2 : ℕ) → Requested k c s gap d read delay since2 past2 ns life epoch t.last u.lease.date.0 v.requests.next v.requests.asked →
                t.last < v.requests.next → At since2
            with_requests since2 r below =
                record {
                  epoch_is = ap (λ (y : Epoch). y.0) y.epoch ∙ held.epoch_is;
                  settled = y.due ∙ held.settled;
                  sound = ap (λ (y : ClientLease). y.condemned) y.lease ∙ held.sound;
                  served = held.served;
                  below = below;
                  requests = subst (λ (l : ClientLease). Requested k c s gap d read delay since2 past2 ns life epoch t.last l.date.0 v.requests.next v.requests.asked)
                      (sym y.lease) r;
                }

            go : Asked now u v.requests → (since2 : ℕ) × At since2 × (v.requests.next ≡ u.requests.next → since2 ≡ since)
            go (Still r) = (
              since,
              with_requests since (subst (λ (w : cs.Requests). Requested k c s gap d read delay since past2 ns life epoch t.last u.lease.date.0 w.next w.asked) (sym r)
                  held.requests)
                  (subst (λ (w : cs.Requests). t.last < w.next) (sym r) held.below),
              λ e. refl,
            )
            go (Again q e r) = (
              since,
              with_requests since (subst (λ (w : cs.Requests). Requested k c s gap d read delay since past2 ns life epoch t.last u.lease.date.0 w.next w.asked) (sym r) again)
                  (subst (λ (w : cs.Requests). t.last < w.next) (sym r) held.below),
              λ e. refl,
            )
              where
                f : IsAsking2 k c s gap d read delay since past2 ns life epoch t.last u.lease.date.0 u.requests.next q
                f = subst (Requested k c s gap d read delay since past2 ns life epoch t.last u.lease.date.0 u.requests.next) e held.requests

                again : IsAsking2 k c s gap d read delay since past2 ns life epoch t.last u.lease.date.0 u.requests.next (record q { sent = now })
                again = record { served = f.served; number = f.number; follows = f.follows; first = f.first }
            go (Anew body e served r) = (
              now2,
              with_requests now2 (subst (λ (w : cs.Requests). Requested k c s gap d read delay now2 past2 ns life epoch t.last u.lease.date.0 w.next w.asked) (sym r) anew)
                  (subst (λ (w : cs.Requests). t.last < w.next) (sym r) (let l = held.below in omega (arith, l))),
              λ g. absurd (let f = ap (λ (w : cs.Requests). w.next) r in omega (arith, f, g)),
            )
              where
                q : Request
                q = record { number = u.requests.next; body = body; sent = now }

                is_served_body : is_served body ≡ true
                is_served_body = served held.settled

                at_requests : view b.session ≡ Some (epoch, record { next = u.requests.next + 1; asked = Some q })
                at_requests = ap view at_v ∙ ap (λ (i : ℕ). Some (i, v.requests)) (ap (λ (y : Epoch). y.0) y.epoch ∙ held.epoch_is) ∙ ap
                    (λ (w : cs.Requests). Some (epoch, w)) r

                sent : (m : Message) × Has m ns × Rattle.st_laws_requests.specs.Cuts.Cuts.Keyed c s life epoch u.requests.next m
                sent = subst (λ o. Rattle.st_laws_requests.specs.Cuts.Cuts.SentIn (λ m. Has m ns) c s life o) at_requests numbers2.sent

                m0 : Message
                m0 = sent.0

                pos : 1 ≤ u.requests.next
                pos = (subst Counts at_requests numbers2.counts).1.0

                -- a request under this number has this body
                body_is : (m : Message) → Has m ns → To c s m → m.header.life ≡ life → m.header.epoch ≡ epoch → m.header.number ≡ u.requests.next →
                    m.body ≡ body
                body_is m h w l ep nu =
                    (subst (λ o. Placed life o m) at_requests (numbers2.placed m h (w.from, w.to)) l (omega (arith, nu, pos))).same ep nu

                way0 : To c s m0
                way0 = record { from = sent.2.between.0; to = sent.2.between.1 }

                is_new : IsNew c x ns now.0 Says m0
                is_new = new_request u.requests.next none m0 sent.1 way0 sent.2.of_life sent.2.of_epoch sent.2.under

                asks0 : IsAsking k c s gap d life epoch u.requests.next body m0
                asks0 = record {
                  way = way0;
                  of_life = sent.2.of_life;
                  of_epoch = sent.2.of_epoch;
                  under = sent.2.under;
                  says = body_is m0 sent.1 way0
                      sent.2.of_life sent.2.of_epoch sent.2.under;
                }

                between0 : is_between c s m0.header ≡ true
                between0 = or_left _ _ (and_both (m0.header.from == c.0) (m0.header.to == server_node s) (eq-eqb m0.header.from c.0 way0.from)
                    (eq-eqb m0.header.to (server_node s) way0.to))

                sets_out : (f : World → ℕ) (g shown : ℕ) → f x.after.world ≡ shown →
                    Trip f c s g past2 ns (IsAsking k c s gap d life epoch u.requests.next body) (IsCounting k c s gap d life epoch u.requests.next body) shown
                sets_out f g shown shows =
                    subst (Trip f c s g past2 ns (IsAsking k c s gap d life epoch u.requests.next body) (IsCounting k c s gap d life epoch u.requests.next body))
                    shows
                    (Out (takes_off f c s g past x ns (IsAsking k c s gap d life epoch u.requests.next body) is_new.number m0 is_new.sent is_new.there
                    between0 asks0))

                first : IsOutstanding k c s gap d read delay now2 past2 ns life epoch u.lease.date.0 u.requests.next body
                first =
                    record {
                      from = now.0;
                      young = ready e;
                      stamps = λ m h g. let z = new_request u.requests.next none m h g.way g.of_life g.of_epoch g.under in
                          let l = z.stamp (subst (λ b. dating.is_request b ≡ true) (sym g.says) (served_request body is_served_body)) in omega (arith, l);
                      trip = sets_out (client_clock c) d now.0 clock;
                      also = sets_out read delay now2 clock2;
                    }

                anew : IsAsking2 k c s gap d read delay now2 past2 ns life epoch t.last u.lease.date.0 (u.requests.next + 1) q
                anew = record {
                  served = is_served_body;
                  number = refl;
                  follows = let l : u.requests.next ≤ t.last + 1 = subst
                      (Requested k c s gap d read delay since past2 ns life epoch t.last u.lease.date.0 u.requests.next) e held.requests in omega (arith, l);
                  first = first;
                }

            z : (since2 : ℕ) × At since2 × (v.requests.next ≡ u.requests.next → since2 ≡ since)
            z = go y.requests

      -- With a session before.
      with_session : (z : ClientSession) → a.session ≡ Some z → Passed z.requests.next
      with_session z e = go (second_held z e p walk.takes)
        where
          p : S z
          p = subst (Phase k c s gap d read delay since past ms n.sessions life epoch t.last) e t.phase

          none : (u : ClientSession) → u.requests.next ≡ z.requests.next → (m : Message) → Has m ms → To c s m → m.header.life ≡ life →
              m.header.epoch ≡ epoch → m.header.number ≡ u.requests.next → ⊥
          none u q m h y l ep nu =
              let some = (subst (λ o. Counts (view o)) e numbers.counts).0 in
              let below = (subst (λ o. Placed life (view o) m) e (numbers.placed m h (y.from, y.to)) l (omega (arith, nu, q, some))).below
              (ep ∙ sym p.epoch_is) in
              omega (arith, below, nu, q)

          go : Held z e p walk.second.session → Passed z.requests.next
          go y =
              subst Passed y.next
              (passed y.session y.holds y.session.requests.next (none y.session y.next) y.ready (subst (λ o. After now o b.session) y.is walk.session))

      -- what the input leaves of it
      middle : (z : ClientSession) → a.session ≡ Some z → Middle z t.last walk.second.session
      middle z e = go (second_held z e (subst (Phase k c s gap d read delay since past ms n.sessions life epoch t.last) e t.phase) walk.takes)
        where
          go : Held z e (subst (Phase k c s gap d read delay since past ms n.sessions life epoch t.last) e t.phase) walk.second.session →
              Middle z t.last walk.second.session
          go y = record { session = y.session; is = y.is; settled = y.holds.settled; next = y.next; releases = y.releases; requests = y.requests }

      -- and it stays
      stays_session : (z : ClientSession) → a.session ≡ Some z → (y : ClientSession) × (b.session ≡ Some y)
      stays_session z e = go (second_held z e (subst (Phase k c s gap d read delay since past ms n.sessions life epoch t.last) e t.phase) walk.takes)
        where
          go : Held z e (subst (Phase k c s gap d read delay since past ms n.sessions life epoch t.last) e t.phase) walk.second.session →
              (y : ClientSession) × (b.session ≡ Some y)
          go y = let p = subst (λ o. After now o b.session) y.is walk.session in (p.session, p.is)

      -- Without a session before.
      module _ (without : a.session ≡ None) where
        before : Greeted k c s gap d past ms life × (t.last ≡ 0)
        before = subst (Phase k c s gap d read delay since past ms n.sessions life epoch t.last) without t.phase

        no_requests : (m : Message) → Has m ms → To c s m → m.header.life ≡ life → m.header.number ≡ 0
        no_requests m h y l = subst (λ o. Placed life (view o) m) without (numbers.placed m h (y.from, y.to)) l

        -- a welcome answers a greeting
        record Answers (m : Message) : Type 0 where
          greeting : Message
          among : Has greeting ms
          is : IsGreeting k c s gap d life greeting
          stamp : greeting.header.stamp ≡ m.header.stamp
          not_later : m.header.stamp ≤ now.0
          epoch_is : m.header.epoch ≡ epoch
          served : IsServed c s ms n.sessions life epoch t.last

        answers : (m : Message) → IsTold c s ms n.sessions life epoch t.last m → m.header.life ≡ life → m.body ≡ bd.Welcome → Answers m
        answers m told present e = by told
          where
            hello_seen : (b : Body) → b ≡ bd.Hello → IsSeen b → ⊥
            hello_seen _ q (SawDemand ino g) = no q
              where
                no : bd.DemandSeen ino g ≡ bd.Hello → ⊥
                no v = cc

            stamp_past2 : (r : Message) → IsAsked c s now.0 r → r.body ≡ bd.Hello → r.header.stamp ≡ m.header.stamp → m.header.stamp ≤ now.0
            stamp_past2 r (Greets f l) q j = omega (arith, l, j)
            stamp_past2 r (Sees f) q j = absurd (hello_seen r.body q f)
            stamp_past2 r (Requests f g l) q j = omega (arith, l, j)

            good : m.header.epoch ≡ epoch → IsGood c s ms n.sessions life epoch t.last m → Answers m
            good ep (IsAWelcome f sv r h y l q j) =
                record {
                  greeting = r;
                  among = h;
                  is = record { way = y; of_life = l; body = q };
                  stamp = j;
                  not_later = stamp_past2 r (t.asked r h y l) q j;
                  epoch_is = ep;
                  served = sv;
                }
            good ep (TellsEpoch y v f) = absurd (no (sym e ∙ f))
              where
                no : bd.Welcome ≡ bd.Nack Rattle.st_messages.specs.declared.message.Why.TheVariants.OtherEpoch y v → ⊥
                no g = cc
            good ep (IsCounted f l r g j v) = absurd (no (sym (ap (counts_for r.body) e) ∙ v))
              where
                no : ◌≡◌ {A = Bool} false true → ⊥
                no g = cc

            by : IsTold c s ms n.sessions life epoch t.last m → Answers m
            by (IsOwn u) = absurd (not_both (is_unasked m.body) u.body (ap is_unasked e))
            by (IsEarlier l) = absurd (omega (arith, l, present))
            by (IsReplied l y g) = good y g

        -- after the input: no session yet, while what became of greetings is known, or one that begins
        data Second (o : Option ClientSession) : Type 0 where
          IsNone : o ≡ None → (is_some a.greeting ≡ true → is_some walk.second.greeting ≡ true) →
              ((stamp : ℕ) → Hailed k c s gap d past ms life stamp → Hailed k c s gap d past2 ns life stamp) → Second o
          IsBegun : (u : ClientSession) → o ≡ Some u → HeldAfter u → Ready u → u.requests.next ≡ 1 → Second o

        -- a greeting's trip goes on, if its welcome wasn't delivered, or came too late
        hailed_on : (stamp : ℕ) → ((f : ℕ) (y : Message) → numbered ms f ≡ Some y → WelcomesAt k c s gap d life stamp y →
            (x.event ≢ events.Deliver f) ⊎ (stamp + k.lease ≤ client_clock c x.after.world)) →
            Hailed k c s gap d past ms life stamp → Hailed k c s gap d past2 ns life stamp
        hailed_on stamp delivered (IsTooOld y h l) = IsTooOld y (has_left past (x ∷ []) y h) l
        hailed_on stamp delivered (IsOnTrip (Out f)) =
            IsOnTrip (Out (fly k c s gap d past x w ns more keeps (client_clock c) d (GreetsAt k c s gap d life stamp) (GreetsAt k c s gap d life stamp)
            stamp (server_node s) f (λ y. y) f.like.is.way.to deaf_server))
        hailed_on stamp delivered (IsOnTrip (Back y l r f)) = go (delivered f.number f.message f.there f.like)
          where
            go : (x.event ≢ events.Deliver f.number) ⊎ (stamp + k.lease ≤ client_clock c x.after.world) → Hailed k c s gap d past2 ns life stamp
            go (inl ne) =
                IsOnTrip (Back y l r (flies_on (client_clock c) c s d past x ms ns keeps (WelcomesAt k c s gap d life stamp)
                (WelcomesAt k c s gap d life stamp) y f (λ y. y) ne))
            go (inr old) = IsTooOld x (has_right past (x ∷ []) x (inl refl)) old

        heard_none : (m : Message) → i ≡ inputs.Control m → Meets k.lease now m a walk.second → Second walk.second.session
        heard_none m is meets = by meets
          where
            by : Meets k.lease now m a walk.second → Second walk.second.session
            by (Unmet none same untimely) =
                IsNone none (λ e. ap is_some same ∙ e) (λ stamp. hailed_on stamp (λ f y h v. unheard stamp f y h v (brought i brings f y h v.is.way.to)))
              where
                same_message : (y : Message) → i ≡ inputs.Control y → m ≡ y
                same_message y e = same2 (sym is ∙ e)
                  where
                    same2 : inputs.Control m ≡ inputs.Control y → m ≡ y
                    same2 q = cc

                unheard : (stamp f : ℕ) (y : Message) → numbered ms f ≡ Some y → WelcomesAt k c s gap d life stamp y →
                    (i ≡ inputs.Control y) ⊎ (x.event ≢ events.Deliver f) → (x.event ≢ events.Deliver f) ⊎ (stamp + k.lease ≤ client_clock c x.after.world)
                unheard stamp f y h v (inr ne) = inl ne
                unheard stamp f y h v (inl e) = inr (late (nat_lt now.0 (m.header.stamp + k.lease)) refl)
                  where
                    it : m ≡ y
                    it = same_message y e

                    z : Answers y
                    z = answers y (t.told y (numbered_has ms f y h) v.is.way) v.is.of_life v.is.body

                    got : IsReceived a now m.header
                    got =
                        record {
                          from = ap (λ (u : Message). u.header.from) it ∙ v.is.way.from ∙ ap (λ (u : ServerId). server_node u) (sym at);
                          life = ap (λ (u : Message). u.header.life) it ∙ v.is.of_life;
                          stamp = let l = z.not_later in let j = ap (λ (u : Message). u.header.stamp) it in omega (arith, l, j);
                        }

                    late : (b : Bool) → nat_lt now.0 (m.header.stamp + k.lease) ≡ b → stamp + k.lease ≤ client_clock c x.after.world
                    late true q =
                        absurd (untimely got (ap (λ (u : Message). u.body) it ∙ v.is.body) (t.greets without z.greeting z.among z.is)
                        (ltb-true now.0 (m.header.stamp + k.lease) q))
                    late false q =
                        let l = ltb-false now.0 (m.header.stamp + k.lease) q in
                        let j = ap (λ (u : Message). u.header.stamp) it in
                        let g = v.at in
                        omega (arith, l, j, g, clock)
            by (Met u got e timely session begins) =
                IsBegun u session
                (record {
                  epoch_is = begins.epoch ∙ z.epoch_is;
                  settled = begins.settled;
                  sound = begins.sound;
                  served = served_more c s ms ns more n.sessions life epoch t.last z.served;
                  below = let q = before.1 in let o = begins.next in omega (arith, q, o);
                  requests = subst (Requested k c s gap d read delay since past2 ns life epoch t.last u.lease.date.0 u.requests.next) (sym begins.rests)
                      (let o = begins.next in omega (arith, o));
                }) (λ f. let y = young_from (before.0 z.greeting z.among z.is) in let o = begins.date in omega (arith, y, o)) begins.next
              where
                z : Answers m
                z = answers m (told m is got) (present m is got) e

                young_from : Hailed k c s gap d past ms life z.greeting.header.stamp → now.0 < m.header.stamp + cap
                young_from (IsOnTrip trip) =
                    let over = trip_ends (client_clock c) c s d past ms now.0 (GreetsAt k c s gap d life z.greeting.header.stamp)
                    (WelcomesAt k c s gap d life z.greeting.header.stamp) z.greeting.header.stamp in_time trip in
                    let j = z.stamp in
                    let q = le-max_right (k.renew + gap) (2 * d + 1) in
                    omega (arith, over, j, q)
                young_from (IsTooOld y h old) =
                    let b = begun y h in
                    let j = z.stamp in
                    absurd (omega (arith, old, b, timely, j))

        second : Takes k.lease now i walk.first walk.second → Second walk.second.session
        second (IsLeft quiet server l g alike) =
            IsNone (subst (λ o. Alike o walk.second.session) (ap (λ (y : Association). y.session) lasts ∙ without) alike)
            (λ e. ap is_some (g ∙ ap (λ (y : Association). y.greeting) lasts) ∙ e)
            (λ stamp. hailed_on stamp (λ f y h v. inl (by stamp f y v (brought i brings f y h v.is.way.to))))
          where
            by : (stamp f : ℕ) (y : Message) → WelcomesAt k c s gap d life stamp y → (i ≡ inputs.Control y) ⊎ (x.event ≢ events.Deliver f) →
                x.event ≢ events.Deliver f
            by stamp f y v (inl is) =
                let u = quiet y is (v.is.of_life ∙ ap (λ (r : Association). r.life.0) (sym lasts)) in
                absurd (not_both (is_unasked y.body) u.body (ap is_unasked v.is.body))
            by stamp f y v (inr ne) = ne
        second (IsHeard m is hears sv lf) = heard_none m is ((subst (λ (y : Association). Hears k.lease now m y walk.second) lasts hears).meets without)

        -- a new greeting has the present stamp
        greets_now : (m : Message) → IsNew c x ns now.0 Says m → IsGreeting k c s gap d life m → m.header.stamp ≡ now.0
        greets_now m z g = z.stamp (ap dating.is_request g.body)

        greeted2 : Greeted k c s gap d past ms life → ((stamp : ℕ) → Hailed k c s gap d past ms life stamp → Hailed k c s gap d past2 ns life stamp) →
            Greeted k c s gap d past2 ns life
        greeted2 f on m h g = by (new m h)
          where
            by : Has m ms ⊎ IsNew c x ns now.0 Says m → Hailed k c s gap d past2 ns life m.header.stamp
            by (inl j) = on m.header.stamp (f m j g)
            by (inr z) =
                IsOnTrip (subst (Trip (client_clock c) c s d past2 ns (GreetsAt k c s gap d life m.header.stamp)
                (WelcomesAt k c s gap d life m.header.stamp)) (clock ∙ sym (greets_now m z g))
                (Out (takes_off (client_clock c) c s d past x ns (GreetsAt k c s gap d life m.header.stamp) z.number m z.sent z.there
                (or_left _ _ (and_both (m.header.from == c.0) (m.header.to == server_node s) (eq-eqb m.header.from c.0 g.way.from)
                (eq-eqb m.header.to (server_node s) g.way.to))) (record { is = g; at = refl }))))

        without_session : (since2 : ℕ) × Phase k c s gap d read delay since2 past2 ns n.sessions life epoch t.last b.session
        without_session = go (second walk.takes)
          where
            go : Second walk.second.session → (since2 : ℕ) × Phase k c s gap d read delay since2 past2 ns n.sessions life epoch t.last b.session
            go (IsNone e g on) = (
              since,
              subst (Phase k c s gap d read delay since past2 ns n.sessions life epoch t.last) (sym (subst (λ o. After now o b.session) e walk.session))
                  (greeted2 before.0 on, before.1),
            )
            go (IsBegun u e held ready q) =
                let z = passed u held u.requests.next (λ m h y l ep nu. let z = no_requests m h y l in omega (arith, z, nu, q)) ready
                (subst (λ o. After now o b.session) e walk.session) in
                (z.since2, z.phase)

        -- whoever greeted remembers it, until its session begins
        greets_on : b.session ≡ None → is_some a.greeting ≡ true → is_some b.greeting ≡ true
        greets_on e g = go (second walk.takes)
          where
            go : Second walk.second.session → is_some b.greeting ≡ true
            go (IsNone f on trip) = walk.greeting (on g)
            go (IsBegun u f held ready q) = absurd (no ((subst (λ o. After now o b.session) f walk.session).is) e)
              where
                no : {y : ClientSession} → b.session ≡ Some y → b.session ≡ None → ⊥
                no p q = no2 (sym q ∙ p)
                  where
                    no2 : {y : ClientSession} → ◌≡◌ {A = Option ClientSession} None (Some y) → ⊥
                    no2 r = cc

    -- Where an association with the server comes from: one whose lease lasts, as it was before the step; or one whose lease is over, emptied.
    pub record Source (b : Association) : Type 0 where
      pub from : Association
      pub walk : W from b
      pub ongoing : is_ended kb now from.session ≡ false
      pub at : from.server ≡ s
      pub since : ℕ
      pub talk : Talks k c s gap d read delay since past ms n now.0 from
      pub young : (z : ClientSession) → from.session ≡ Some z → z.lease.condemned ≡ false → z.requests.asked ≡ None → now.0 < z.lease.date.0 + k.renew + gap
      pub numbers : Numbers (λ m. Has m ms) c s from.life.0 (view from.session)

    taken : (f v : Association) → Takes k.lease now i f v → (v.server ≡ f.server) × (v.life ≡ f.life)
    taken f v (IsLeft quiet sv l g alike) = (sv, l)
    taken f v (IsHeard m is hears sv lf) = (sv, lf)

    pub before_at : (a b : Association) → W a b → b.server ≡ s → a.server ≡ s
    before_at a b walk at_b = sym (walk.server ∙ (taken walk.first walk.second walk.takes).0 ∙ walk.stays) ∙ at_b

    -- All associations with the server: those after the step, and why it sent its messages.
    module _ (after : List Association)
        (sends : (m : Message) → Says m → IsSeen m.body ⊎ ((r : Association) × Has r after × IsSentBy r m))
        (sources : (b : Association) → Has b after → b.server ≡ s → Source b)
        (numbers2 : (b : Association) → Has b after → b.server ≡ s → Numbers (λ m. Has m ns) c s b.life.0 (view b.session))
        (once : (a b : Association) → Has a after → Has b after → a.server.0 ≡ b.server.0 → a ≡ b) where
      -- what is known of one
      record Phased (b : Association) (o : Source b) : Type 0 where
        life : b.life ≡ o.from.life
        middle : (z : ClientSession) → o.from.session ≡ Some z → Middle z o.talk.last o.walk.second.session
        since : ℕ
        same : (z v : ClientSession) → o.from.session ≡ Some z → b.session ≡ Some v → v.requests.next ≡ z.requests.next → since ≡ o.since
        known : IsKnown c s ns n.sessions b.life.0 epoch o.talk.last
        told_of : (m : Message) → Has m ns → From c s m → IsTold c s ns n.sessions b.life.0 epoch o.talk.last m
        asked : (m : Message) → Has m ms → To c s m → m.header.life ≡ b.life.0 → IsAsked c s now.0 m
        greets : b.session ≡ None → (m : Message) → Has m ms → IsGreeting k c s gap d b.life.0 m → is_some b.greeting ≡ true
        phase : Phase k c s gap d read delay since past2 ns n.sessions b.life.0 epoch o.talk.last b.session

      phased : (b : Association) (h : Has b after) (at_b : b.server ≡ s) → Phased b (sources b h at_b)
      phased b h at_b =
          record {
            life = life_same;
            middle = middle since a b walk ongoing at_a t young_a numbers_a numbers_b;
            since = (phase a.session refl).0;
            same = (phase a.session refl).2;
            known = subst (λ (l : Life). IsKnown c s ns n.sessions l.0 epoch t.last) (sym life_same)
                (known_more c s ms ns more n.sessions a.life.0 epoch t.last t.known);
            told_of = λ m h f. subst (λ (l : Life). IsTold c s ns n.sessions l.0 epoch t.last m) (sym life_same)
                (told_more c s ms ns more n.sessions n.sessions a.life.0 epoch t.last t.last (omega arith)
                (λ y. served_more c s ms ns more n.sessions a.life.0 epoch t.last y) m (t.told m (old_from m h f) f));
            asked = λ m h f l. t.asked m h f (l ∙ ap (λ (y : Life). y.0) life_same);
            greets = λ e m h g. greets e m h (subst (λ (l : Life). IsGreeting k c s gap d l.0 m) life_same g);
            phase = subst (λ (l : Life). Phase k c s gap d read delay (phase a.session refl).0 past2 ns n.sessions l.0 epoch t.last b.session) (sym life_same)
                (phase a.session refl).1;
          }
        where
          o : Source b
          o = sources b h at_b

          a : Association
          a = o.from

          walk : W a b
          walk = o.walk

          ongoing : is_ended kb now a.session ≡ false
          ongoing = o.ongoing

          at_a : a.server ≡ s
          at_a = o.at

          since : ℕ
          since = o.since

          t : Talks k c s gap d read delay since past ms n now.0 a
          t = o.talk

          young_a : (z : ClientSession) → a.session ≡ Some z → z.lease.condemned ≡ false → z.requests.asked ≡ None →
              now.0 < z.lease.date.0 + k.renew + gap
          young_a = o.young

          numbers_a : Numbers (λ m. Has m ms) c s a.life.0 (view a.session)
          numbers_a = o.numbers

          -- nothing is lost, so the life stays
          kept : walk.first ≡ a
          kept = lasts_at a b walk ongoing

          life_same : b.life ≡ a.life
          life_same = walk.life ∙ (taken walk.first walk.second walk.takes).1 ∙ ap (λ (y : Association). y.life) kept

          numbers_b : Numbers (λ m. Has m ns) c s a.life.0 (view b.session)
          numbers_b = subst (λ (l : Life). Numbers (λ m. Has m ns) c s l.0 (view b.session)) life_same (numbers2 b h at_b)

          phase : (v : Option ClientSession) → a.session ≡ v → (since2 : ℕ) ×
              Phase k c s gap d read delay since2 past2 ns n.sessions a.life.0 epoch t.last b.session ×
              ((z v : ClientSession) → a.session ≡ Some z → b.session ≡ Some v → v.requests.next ≡ z.requests.next → since2 ≡ since)
          phase None e =
              let y = without_session since a b walk ongoing at_a t young_a numbers_a numbers_b e in (y.0, y.1, λ z v f. absurd (no (sym e ∙ f)))
            where
              no : {z : ClientSession} → ◌≡◌ {A = Option ClientSession} None (Some z) → ⊥
              no r = cc
          phase (Some z) e =
              let y = with_session since a b walk ongoing at_a t young_a numbers_a numbers_b z e in (
                y.since2,
                y.phase,
                λ w v f g h. y.same v g (h ∙ ap (λ (x : ClientSession). x.requests.next) (some_is (sym f ∙ e))),
              )

          greets : b.session ≡ None → (m : Message) → Has m ms → IsGreeting k c s gap d a.life.0 m → is_some b.greeting ≡ true
          greets e m h g = by a.session refl
            where
              none_of : {y : ClientSession} → b.session ≡ None → b.session ≡ Some y → ⊥
              none_of p q = no (sym p ∙ q)
                where
                  no : {y : ClientSession} → ◌≡◌ {A = Option ClientSession} None (Some y) → ⊥
                  no r = cc

              by : (v : Option ClientSession) → a.session ≡ v → is_some b.greeting ≡ true
              by None f = greets_on since a b walk ongoing at_a t young_a numbers_a numbers_b f e (t.greets f m h g)
              by (Some z) f = absurd (none_of e (stays_session since a b walk ongoing at_a t young_a numbers_a numbers_b z f).1)

      -- why the step sent a message to the server
      asked_new : (b : Association) → Has b after → b.server ≡ s → (m : Message) →
          IsNew c x ns now.0 Says m → To c s m → IsAsked c s now.0 m
      asked_new b h at_b m z y = go (sends m z.among)
        where
          by : (r : Association) → Has r after → IsSentBy r m → IsAsked c s now.0 m
          by r j q = cause q.cause
            where
              at_r : r.server ≡ s
              at_r = ap (λ i. record { 0 = i }) (let u = q.to in let v = y.to in let g : r.server.0 ≡ s.0 = omega (arith, u, v) in g)

              was : Source r
              was = sources r j at_r

              ph : Phased r was
              ph = phased r j at_r

              cause : SentBy r m → IsAsked c s now.0 m
              cause (ByGreeting e none g) = Greets e (let u = z.stamp (ap dating.is_request e) in omega (arith, u))
              cause (ByRequest u o e f number body) =
                  let p = subst (Phase k c s gap d read delay ph.since past2 ns n.sessions r.life.0 epoch was.talk.last) e ph.phase in
                  let a = subst (Requested k c s gap d read delay ph.since past2 ns r.life.0 epoch was.talk.last u.lease.date.0 u.requests.next) f p.requests in
                  let served : is_served m.body ≡ true = ap is_served body ∙ a.served in
                  let pos = (subst (Given u.requests.next) f (subst (λ o. Counts (view o)) e (numbers2 r j at_r).counts).1).0 in
                  Requests (omega (arith, number, pos)) served (let v = z.stamp (served_request m.body served) in omega (arith, v))

          go : IsSeen m.body ⊎ ((r : Association) × Has r after × IsSentBy r m) → IsAsked c s now.0 m
          go (inl f) = Sees f
          go (inr (r, j, q)) = by r j q

      -- What is known after the step.
      pub record GoesOn (b : Association) (o : Source b) : Type 0 where
        pub life : b.life ≡ o.from.life
        pub middle : (z : ClientSession) → o.from.session ≡ Some z → Middle z o.talk.last o.walk.second.session
        pub since : ℕ
        pub same : (z v : ClientSession) → o.from.session ≡ Some z → b.session ≡ Some v → v.requests.next ≡ z.requests.next → since ≡ o.since
        pub known : Talks k c s gap d read delay since past2 ns n now.0 b
        pub last_is : known.last ≡ o.talk.last

      pub goes_on : (b : Association) (h : Has b after) (at_b : b.server ≡ s) → GoesOn b (sources b h at_b)
      goes_on b h at_b =
          record {
            life = p.life;
            middle = p.middle;
            since = p.since;
            same = p.same;
            known = record {
              last = (sources b h at_b).talk.last;
              known = p.known;
              told = p.told_of;
              asked = λ m j f l. asked m f l (new m j);
              greets = λ e m j g. greets e m g (new m j);
              phase = p.phase;
            };
            last_is = refl;
          }
        where
          p : Phased b (sources b h at_b)
          p = phased b h at_b

          asked : (m : Message) → To c s m → m.header.life ≡ b.life.0 → Has m ms ⊎ IsNew c x ns now.0 Says m → IsAsked c s now.0 m
          asked m f l (inl j) = p.asked m j f l
          asked m f l (inr z) = asked_new b h at_b m z f

          greets : b.session ≡ None → (m : Message) → IsGreeting k c s gap d b.life.0 m → Has m ms ⊎ IsNew c x ns now.0 Says m →
              is_some b.greeting ≡ true
          greets e m g (inl j) = p.greets e m j g
          greets e m g (inr z) = go (sends m z.among)
            where
              hello_seen : (y : Body) → y ≡ bd.Hello → IsSeen y → ⊥
              hello_seen _ q (SawDemand ino g) = no q
                where
                  no : bd.DemandSeen ino g ≡ bd.Hello → ⊥
                  no v = cc

              cause : (r : Association) → Has r after → IsSentBy r m → SentBy r m → is_some b.greeting ≡ true
              cause r j q (ByGreeting f none v) =
                  subst (λ (y : Association). is_some y.greeting ≡ true)
                  (once r b j h (let u = q.to in let w = g.way.to in let y : r.server.0 ≡ b.server.0 =
                  (let e1 = ap (λ (i : ServerId). i.0) at_b in omega (arith, u, w, e1)) in y)) v
              cause r j q (ByRequest u o f e2 number body) =
                  let at_r : r.server ≡ s = ap (λ i. record { 0 = i }) (let u1 = q.to in let w = g.way.to in let y : r.server.0 ≡ s.0 = omega (arith, u1, w)
                  in y) in
                  let was = sources r j at_r in
                  let ph = phased r j at_r in
                  let p2 = subst (Phase k c s gap d read delay ph.since past2 ns n.sessions r.life.0 epoch was.talk.last) f ph.phase in
                  let a = subst (Requested k c s gap d read delay ph.since past2 ns r.life.0 epoch was.talk.last u.lease.date.0 u.requests.next) e2 p2.requests in
                  absurd (not_both (is_served o.body) a.served (ap is_served (sym body ∙ g.body)))

              go : IsSeen m.body ⊎ ((r : Association) × Has r after × IsSentBy r m) → is_some b.greeting ≡ true
              go (inl f) = absurd (hello_seen m.body g.body f)
              go (inr (r, j, q)) = cause r j q q.cause

    -- An association whose lease was over, or whose life ended: nothing was said in its next life.
    module _ (a e : Association) (since : ℕ) (at : a.server ≡ s) (t : Talks k c s gap d read delay since past ms n now.0 a)
        (numbers : Numbers (λ m. Has m ms) c s a.life.0 (view a.session)) (next_up : e.life.0 ≡ a.life.0 + 1) (none : e.session ≡ None) where
      -- no message is of that life
      unsaid : (m : Message) → Has m ms → To c s m → m.header.life ≡ e.life.0 → ⊥
      unsaid m h y l = let z = numbers.lives m h (y.from, y.to) in omega (arith, z, l, next_up)

      born_before : IsKnown c s ms n.sessions a.life.0 epoch t.last → (y : Session) → session_of n.sessions c ≡ Some y → y.life.0 < e.life.0
      born_before (IsBefore g q) y f = let l = g y f in omega (arith, l, next_up)
      born_before (IsLiving z) y f = let l = z.of_life in let q = ap (λ (v : Session). v.life.0) (some_is (sym f ∙ z.is)) in omega (arith, l, q, next_up)

      told_earlier : (m : Message) → IsTold c s ms n.sessions a.life.0 epoch t.last m → IsTold c s ms n.sessions e.life.0 epoch 0 m
      told_earlier m (IsOwn u) = IsOwn u
      told_earlier m (IsEarlier l) = IsEarlier (omega (arith, l, next_up))
      told_earlier m (IsReplied l f g) = IsEarlier (omega (arith, l, next_up))

      -- what the server said to it was said in an earlier life, or nobody asked for it
      pub unheard : (j : ClientInput) → i ≡ j → Brings w x.event c.0 j → (m : Message) → j ≡ inputs.Control m → m.header.from ≡ server_node s →
          m.header.life ≡ e.life.0 → IsUnasked m
      unheard inputs.Tick is b m q f l = absurd (no q)
        where
          no : inputs.Tick ≡ inputs.Control m → ⊥
          no r = cc
      unheard (inputs.App op ask) is b m q f l = absurd (no q)
        where
          no : inputs.App op ask ≡ inputs.Control m → ⊥
          no r = cc
      unheard (inputs.Done number r) is b m q f l = absurd (no q)
        where
          no : inputs.Done number r ≡ inputs.Control m → ⊥
          no v = cc
      unheard (inputs.Control y) is b m q f l = by (t.told m among (record { from = f; to = ap (λ (u : Message). u.header.to) (sym same) ∙ b.1 }))
        where
          same : y ≡ m
          same = it q
            where
              it : inputs.Control y ≡ inputs.Control m → y ≡ m
              it r = cc

          among : Has m ms
          among = subst (λ u. Has u ms) same (delivered_among k c s gap d past x w ns more keeps y b.0)

          by : IsTold c s ms n.sessions a.life.0 epoch t.last m → IsUnasked m
          by (IsOwn u) = u
          by (IsEarlier r) = absurd (omega (arith, r, l, next_up))
          by (IsReplied r v g) = absurd (omega (arith, r, l, next_up))

      pub next_talks : Talks k c s gap d read delay 0 past ms n now.0 e
      next_talks = record {
        last = 0;
        known = IsBefore (born_before t.known) refl;
        told = λ m h y. told_earlier m (t.told m h y);
        asked = λ m h y l. absurd (unsaid m h y l);
        greets = λ f m h g. absurd (unsaid m h g.way g.of_life);
        phase = subst (Phase k c s gap d read delay 0 past ms n.sessions e.life.0 epoch 0) (sym none) ((λ m h g. absurd (unsaid m h g.way g.of_life)), refl);
      }

      next_numbers : Numbers (λ m. Has m ms) c s e.life.0 (view e.session)
      next_numbers = subst (λ o. Numbers (λ m. Has m ms) c s e.life.0 (view o)) (sym none)
          (record {
            lives = λ m h y. let z = numbers.lives m h y in omega (arith, z, next_up);
            placed = λ m h y l. absurd (unsaid m h (record { from = y.0; to = y.1 }) l);
            one = numbers.one;
            sent = tt;
            counts = tt;
          })

      no_session : {P : Type 0} (z : ClientSession) → ◌≡◌ {A = Option ClientSession} None (Some z) → P
      no_session z f = cc

      pub next_source : (b : Association) → e.server ≡ s → W e b → Source b
      next_source b at_e walk = record {
        from = e;
        walk = walk;
        ongoing = ap (is_ended kb now) none;
        at = at_e;
        since = 0;
        talk = next_talks;
        young = λ z f. no_session z (sym none ∙ f);
        numbers = next_numbers;
      }

    -- what was there before
    module _ (before after : List Association) (walks : (b : Association) → Has b after → (a : Association) × Has a before × W a b)
        (sends : (m : Message) → Says m → IsSeen m.body ⊎ ((r : Association) × Has r after × IsSentBy r m))
        (talks : (a : Association) → Has a before → a.server ≡ s → (since : ℕ) × Talks k c s gap d read delay since past ms n now.0 a)
        (young : (a : Association) → Has a before → (z : ClientSession) → a.session ≡ Some z → z.lease.condemned ≡ false → z.requests.asked ≡ None →
        now.0 < z.lease.date.0 + k.renew + gap)
        (numbers : (a : Association) → Has a before → a.server ≡ s → Numbers (λ m. Has m ms) c s a.life.0 (view a.session))
        (numbers2 : (b : Association) → Has b after → b.server ≡ s → Numbers (λ m. Has m ns) c s b.life.0 (view b.session))
        (once : (a b : Association) → Has a after → Has b after → a.server.0 ≡ b.server.0 → a ≡ b) where
      -- an association whose lease lasts is its own source
      abbrev pub own_source : (b a : Association) → Has a before → (walk : W a b) → (at : a.server ≡ s) → is_ended kb now a.session ≡ false → Source b
      own_source b a j walk at ongoing = record {
        from = a;
        walk = walk;
        ongoing = ongoing;
        at = at;
        since = (talks a j at).0;
        talk = (talks a j at).1;
        young = young a j;
        numbers = numbers a j at;
      }

      -- if the leases with the server last
      module _ (ongoing : (a : Association) → Has a before → a.server ≡ s → is_ended kb now a.session ≡ false) where
        abbrev pub open_source : (b : Association) → Has b after → b.server ≡ s → Source b
        open_source b h at_b =
            let v = walks b h in
            own_source b v.0 v.1 v.2 (before_at v.0 b v.2 at_b) (ongoing v.0 v.1 (before_at v.0 b v.2 at_b))

        pub open_goes : (b : Association) (h : Has b after) (at_b : b.server ≡ s) → GoesOn after sends open_source numbers2 once b (open_source b h at_b)
        open_goes b h at_b = goes_on after sends open_source numbers2 once b h at_b

      -- an association whose lease is over
      over_source : (b a : Association) (j : Has a before) (walk : W a b) (at : a.server ≡ s) → is_ended kb now a.session ≡ true → Source b
      over_source b a j walk at over =
          let z = walk.lost over in
          next_source a walk.first (talks a j at).0 at (talks a j at).1 (numbers a j at) z.0 z.1 b (walk.stays ∙ at) (record {
            first = walk.first;
            second = walk.second;
            stays = refl;
            lasts = λ e. refl;
            lost = λ e. absurd (not_both (is_ended kb now walk.first.session) e walk.going);
            going = walk.going;
            takes = walk.takes;
            server = walk.server;
            life = walk.life;
            session = walk.session;
            greeting = walk.greeting;
          })

      any_source : (b : Association) → Has b after → b.server ≡ s → Source b
      any_source b h at_b = go (walks b h)
        where
          go : (a : Association) × Has a before × W a b → Source b
          go (a, j, walk) = by (is_ended kb now a.session) refl
            where
              at : a.server ≡ s
              at = before_at a b walk at_b

              by : (e : Bool) → is_ended kb now a.session ≡ e → Source b
              by false e = own_source b a j walk at e
              by true e = over_source b a j walk at e

      -- what is known after the step, whether a lease was over or not
      pub any_talks : (b : Association) → Has b after → b.server ≡ s → (since : ℕ) × Talks k c s gap d read delay since past2 ns n now.0 b
      any_talks b h at_b = let g = goes_on after sends any_source numbers2 once b h at_b in (g.since, g.known)
