-- What is known of a healthy client's association with its server, between events: how far the server served it, what each message between the two says, and
-- when the request that is outstanding, or the greeting, was sent first.
use Rattle.st_lemmas.proofs.Words
use Words.{◌≡◌, ◌≢◌, ℕ, ◌+◌, ◌*◌, ◌≤◌, ◌<◌, ◌⊎◌, true, false, List, [], ◌∷◌, ◌++◌, Option, Some, None, refl, sym, ap, ◌∙◌, subst, inl, inr, arith, is_some, max}
use Words.{option_map, suc, zero, Config, ClientId, ServerId, Body, Message, Request, SentMessage}
use Words.events
use Words.bodies as bd
use Words.ClientState.{Association, ClientSession}
use Words.Keys.{server_node}
use Words.Safety.{Step}
use Words.Server.{ServerState}
use Words.Sessions.{Sessions}
use Words.World.{World, message_of, numbered}
use Words.Lists.{Has}
use Words.Lookups.{some_is}
use Words.Members.{has_left}
use Words.Numbers.{get_map, numbered_has}
use Rattle.st_laws_lasting.specs.Lasting.{client_clock}
use Rattle.st_laws_leases.specs.Dates.Dates.{messages}
use Rattle.st_laws_healthy.proofs.Happening.{Deaf, Delivers}
use Rattle.st_laws_healthy.proofs.Replies.{counts_for, is_served}
use Rattle.st_laws_healthy.proofs.Served.{From, IsAsked, IsKnown, IsServed, IsTold, To, asked_later, known_more, served_more, told_more}
use Rattle.st_laws_healthy.proofs.Trips.{Back, Flying, Out, Trip, flies_on}

module _ (k : Config) (c : ClientId) (s : ServerId) (gap d : ℕ) where
  -- greetings of a life, and the welcomes that answer them
  pub record IsGreeting (life : ℕ) (m : Message) : Type 0 where
    pub way : To c s m
    pub of_life : m.header.life ≡ life
    pub body : m.body ≡ bd.Hello

  pub record IsWelcoming (life : ℕ) (m : Message) : Type 0 where
    pub way : From c s m
    pub of_life : m.header.life ≡ life
    pub body : m.body ≡ bd.Welcome

  -- a request under a number, and the replies that count for it
  pub record IsAsking (life epoch number : ℕ) (body : Body) (m : Message) : Type 0 where
    pub way : To c s m
    pub of_life : m.header.life ≡ life
    pub of_epoch : m.header.epoch ≡ epoch
    pub under : m.header.number ≡ number
    pub says : m.body ≡ body

  pub record IsCounting (life epoch number : ℕ) (body : Body) (m : Message) : Type 0 where
    pub way : From c s m
    pub of_life : m.header.life ≡ life
    pub of_epoch : m.header.epoch ≡ epoch
    pub under : m.header.number ≡ number
    pub counts : counts_for body m.body ≡ true

  -- the same with this stamp
  pub record GreetsAt (life stamp : ℕ) (m : Message) : Type 0 where
    pub is : IsGreeting life m
    pub at : m.header.stamp ≡ stamp

  pub record WelcomesAt (life stamp : ℕ) (m : Message) : Type 0 where
    pub is : IsWelcoming life m
    pub at : m.header.stamp ≡ stamp

  -- What became of a greeting of this stamp while there is no session: it or its welcome is on its way, or after one of these steps it was too old.
  pub data Hailed (past : List Step) (ms : List Message) (life stamp : ℕ) : Type 0 where
    IsOnTrip : Trip (client_clock c) c s d past ms (GreetsAt life stamp) (WelcomesAt life stamp) stamp → Hailed past ms life stamp
    IsTooOld : (y : Step) → Has y past → stamp + k.lease ≤ client_clock c y.after.world → Hailed past ms life stamp

  -- Without a session: what became of each greeting.
  abbrev pub Greeted : List Step → List Message → ℕ → Type 0
  Greeted past ms life = (m : Message) → Has m ms → IsGreeting life m → Hailed past ms life m.header.stamp

  -- With another clock, and what messages take by it; and the reading of it at which the outstanding request was sent first.
  module _ (read : World → ℕ) (delay since : ℕ) where
    -- The outstanding request was asked first at this reading, at an age below this; it or a reply that counts for it is on its way.
    pub record IsOutstanding (past : List Step) (ms : List Message) (life epoch date number : ℕ) (body : Body) : Type 0 where
      pub from : ℕ
      pub young : from < date + max (k.renew + gap) (2 * d + 1)
      pub stamps : (m : Message) → Has m ms → IsAsking life epoch number body m → from ≤ m.header.stamp
      pub trip : Trip (client_clock c) c s d past ms (IsAsking life epoch number body) (IsCounting life epoch number body) from
      pub also : Trip read c s delay past ms (IsAsking life epoch number body) (IsCounting life epoch number body) since

    -- with a request outstanding, or none
    pub record IsAsking2 (past : List Step) (ms : List Message) (life epoch last date next : ℕ) (q : Request) : Type 0 where
      pub served : is_served q.body ≡ true
      pub number : q.number + 1 ≡ next
      pub follows : next ≤ last + 2
      pub first : IsOutstanding past ms life epoch date q.number q.body

    abbrev pub Requested : List Step → List Message → ℕ → ℕ → ℕ → ℕ → ℕ → Option Request → Type 0
    Requested past ms life epoch last date next None = next ≤ last + 1
    Requested past ms life epoch last date next (Some q) = IsAsking2 past ms life epoch last date next q

    -- With a session.
    pub record HasSession (past : List Step) (ms : List Message) (v : Sessions) (life epoch last : ℕ) (z : ClientSession) : Type 0 where
      pub epoch_is : z.epoch.0 ≡ epoch
      pub settled : z.due ≡ false
      pub sound : z.lease.condemned ≡ false
      pub served : IsServed c s ms v life epoch last
      pub below : last < z.requests.next
      pub requests : Requested past ms life epoch last z.lease.date.0 z.requests.next z.requests.asked

    abbrev pub Phase : List Step → List Message → Sessions → ℕ → ℕ → ℕ → Option ClientSession → Type 0
    Phase past ms v life epoch last None = Greeted past ms life × (last ≡ 0)
    Phase past ms v life epoch last (Some z) = HasSession past ms v life epoch last z

    -- What is known of an association if the client's clock shows this.
    pub record Talks (past : List Step) (ms : List Message) (n : ServerState) (now : ℕ) (a : Association) : Type 0 where
      pub last : ℕ
      pub known : IsKnown c s ms n.sessions a.life.0 n.stable.epoch.0 last
      pub told : (m : Message) → Has m ms → From c s m → IsTold c s ms n.sessions a.life.0 n.stable.epoch.0 last m
      pub asked : (m : Message) → Has m ms → To c s m → m.header.life ≡ a.life.0 → IsAsked c s now m
      pub greets : a.session ≡ None → (m : Message) → Has m ms → IsGreeting a.life.0 m → is_some a.greeting ≡ true
      pub phase : Phase past ms n.sessions a.life.0 n.stable.epoch.0 last a.session

  -- A step with these messages after it.
  module _ (past : List Step) (x : Step) (w : World) (ns : List Message) (more : (m : Message) → Has m (messages w) → Has m ns)
      (keeps : (i : ℕ) (m : Message) → numbered (messages w) i ≡ Some m → numbered ns i ≡ Some m) where
    abbrev ms : List Message
    ms = messages w

    -- the message of a number
    message_there : (n : ℕ) → numbered ms n ≡ option_map (λ (y : SentMessage). y.message) (message_of w n)
    message_there zero = refl
    message_there (suc i) = get_map (λ (y : SentMessage). y.message) w.net.messages i

    pub delivered_is : (m : Message) (b : Delivers w x.event m) (y : Message) → numbered ms b.number ≡ Some y → m ≡ y
    delivered_is m b y q = b.is ∙ some_is (sym (ap (option_map (λ (y : SentMessage). y.message)) b.there) ∙ sym (message_there b.number) ∙ q)

    pub delivered_among : (m : Message) → Delivers w x.event m → Has m ms
    delivered_among m b =
        subst (λ y. Has y ms) (sym b.is) (numbered_has ms b.number b.sent.message (message_there b.number ∙ ap (option_map (λ (y : SentMessage). y.message))
        b.there))

    -- a message that is not delivered flies on
    pub not_delivered : (to : ℕ) → Deaf w x.event to → (n : ℕ) (m : Message) → numbered ms n ≡ Some m → m.header.to ≡ to → x.event ≢ events.Deliver n
    not_delivered to deaf n m q e f = go (message_of w n) refl (sym (message_there n) ∙ q)
      where
        go : (o : Option SentMessage) → message_of w n ≡ o → option_map (λ (y : SentMessage). y.message) (message_of w n) ≡ Some m → ⊥
        go None g h = no (ap (option_map (λ (y : SentMessage). y.message)) (sym g) ∙ h)
          where
            no : ◌≡◌ {A = Option Message} None (Some m) → ⊥
            no z = cc
        go (Some y) g h = deaf n y f g (ap (λ (z : Message). z.header.to) (some_is (ap (option_map (λ (y : SentMessage). y.message)) (sym g) ∙ h)) ∙ e)

    pub fly : (read : World → ℕ) (delay : ℕ) (P Q : Message → Type 0) (at to : ℕ) (f : Flying read c s delay past ms P at) → (P f.message → Q f.message) →
        f.message.header.to ≡ to → Deaf w x.event to → Flying read c s delay (past ++ x ∷ []) ns Q at
    fly read delay P Q at to f g t deaf = flies_on read c s delay past x ms ns keeps P Q at f g (not_delivered to deaf f.number f.message f.there t)

    -- a trip goes on if neither end hears
    pub travels : (read : World → ℕ) (delay : ℕ) (A B : Message → Type 0) (from : ℕ) → ((m : Message) → A m → To c s m) → ((m : Message) → B m → From c s m) →
        Deaf w x.event (server_node s) → Deaf w x.event c.0 → Trip read c s delay past ms A B from → Trip read c s delay (past ++ x ∷ []) ns A B from
    travels read delay A B from to back deaf_server deaf (Out y) =
        Out (fly read delay A A from (server_node s) y (λ h. h) (to y.message y.like).to deaf_server)
    travels read delay A B from to back deaf_server deaf (Back at b l y) = Back at b l (fly read delay B B at c.0 y (λ h. h) (back y.message y.like).to deaf)

    -- Neither of the two steps.
    module _ (read : World → ℕ) (delay since : ℕ) (n : ServerState) (before now : ℕ) (later : before ≤ now) (deaf_server : Deaf w x.event (server_node s)) (deaf : Deaf w x.event c.0)
        (new : (m : Message) → Has m ns → Has m ms ⊎ ((m.header.from ≢ c.0) × (m.header.from ≢ server_node s))) where
      old_to : (m : Message) → Has m ns → To c s m → Has m ms
      old_to m h t = go (new m h)
        where
          go : Has m ms ⊎ ((m.header.from ≢ c.0) × (m.header.from ≢ server_node s)) → Has m ms
          go (inl i) = i
          go (inr ne) = absurd (ne.0 t.from)

      old_from : (m : Message) → Has m ns → From c s m → Has m ms
      old_from m h t = go (new m h)
        where
          go : Has m ms ⊎ ((m.header.from ≢ c.0) × (m.header.from ≢ server_node s)) → Has m ms
          go (inl i) = i
          go (inr ne) = absurd (ne.1 t.from)

      requested : (life epoch last date next : ℕ) (o : Option Request) → Requested read delay since past ms life epoch last date next o →
          Requested read delay since (past ++ x ∷ []) ns life epoch last date next o
      requested life epoch last date next None r = r
      requested life epoch last date next (Some q) r =
          record {
            served = r.served;
            number = r.number;
            follows = r.follows;
            first = record {
              from = r.first.from;
              young = r.first.young;
              stamps = λ m h a. r.first.stamps m (old_to m h a.way) a;
              trip = travels (client_clock c) d (IsAsking life epoch q.number q.body) (IsCounting life epoch q.number q.body) r.first.from
                  (λ m y. y.way) (λ m y. y.way) deaf_server deaf r.first.trip;
              also = travels read delay (IsAsking life epoch q.number q.body) (IsCounting life epoch q.number q.body) since
                  (λ m y. y.way) (λ m y. y.way) deaf_server deaf r.first.also;
            };
          }

      hailed : (life stamp : ℕ) → Hailed past ms life stamp → Hailed (past ++ x ∷ []) ns life stamp
      hailed life stamp (IsOnTrip t) =
          IsOnTrip (travels (client_clock c) d (GreetsAt life stamp) (WelcomesAt life stamp) stamp (λ m y. y.is.way) (λ m y. y.is.way) deaf_server deaf t)
      hailed life stamp (IsTooOld y h l) = IsTooOld y (has_left past (x ∷ []) y h) l

      greeted : (life : ℕ) → Greeted past ms life → Greeted (past ++ x ∷ []) ns life
      greeted life f m h g = hailed life m.header.stamp (f m (old_to m h g.way) g)

      phase : (v : Sessions) (life epoch last : ℕ) (o : Option ClientSession) → Phase read delay since past ms v life epoch last o →
          Phase read delay since (past ++ x ∷ []) ns v life epoch last o
      phase v life epoch last None (g, q) = (greeted life g, q)
      phase v life epoch last (Some z) p =
          record {
            epoch_is = p.epoch_is;
            settled = p.settled;
            sound = p.sound;
            served = served_more c s ms ns more v life epoch last p.served;
            below = p.below;
            requests = requested life epoch last z.lease.date.0 z.requests.next z.requests.asked p.requests;
          }

      pub talks_on : (a : Association) (t : Talks read delay since past ms n before a) → (u : Talks read delay since (past ++ x ∷ []) ns n now a) ×
          (u.last ≡ t.last)
      talks_on a t = (
        record {
          last = t.last;
          known = known_more c s ms ns more n.sessions a.life.0 n.stable.epoch.0 t.last t.known;
          told = λ m h f. told_more c s ms ns more n.sessions n.sessions a.life.0 n.stable.epoch.0 t.last t.last (omega arith)
              (λ y. served_more c s ms ns more n.sessions a.life.0 n.stable.epoch.0 t.last y) m (t.told m (old_from m h f) f);
          asked = λ m h f l. asked_later c s before now later m (t.asked m (old_to m h f) f l);
          greets = λ q m h g. t.greets q m (old_to m h g.way) g;
          phase = phase n.sessions a.life.0 n.stable.epoch.0 t.last a.session t.phase;
        },
        refl,
      )
