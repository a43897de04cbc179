-- A step of the client keeps where the answers to demands are: a demand that it hears is answered at once, or its release waits; and releases move up.
use Rattle.st_lemmas.proofs.Words
use Words.{◌≡◌, ◌≢◌, ℕ, ◌+◌, ◌*◌, ◌≤◌, ◌<◌, ◌⊎◌, true, ◌==◌, List, [], ◌∷◌, ◌++◌, Option, Some, None, refl, sym, ap, ◌∙◌, subst, inl, inr, arith}
use Words.{is_some, length, slice_get, suc, zero, eq-eqb, Config, ClientId, GrantNo, Life, ServerId, Stamp, Message, HeldLock, Release}
use Words.{LockRow, ClientInput, Request, Session}
use Words.events
use Words.modes
use Words.bodies as bd
use Words.outputs
use Words.inputs
use Words.seen
use Words.Client as cl
use Words.ClientLocks.{lock_of}
use Words.ClientReplies as cr
use Words.ClientState as cs
use Words.ClientState.{Association, ClientSession, ClientState, Turn}
use Words.Keys.{server_node}
use Words.Locks.{row_of}
use Words.Safety.{Step}
use Words.Server.{ServerState}
use Words.ServerInvariants.{are_once, same_row}
use Words.Sessions as sessions
use Words.World.{World, numbered}
use Words.Lists.{Has}
use Words.Lookups.{or_left, some_is}
use Words.Tables.{and_both, same_or_not}
use Words.Truth.{not_both}
use Rattle.st_laws_refine.proofs.Server.OneRow.{row_found}
use Rattle.st_laws_leases.specs.Dates.Dates.{messages}
use Rattle.st_laws_steps.specs.Client.Losses.{Fit}
use Rattle.st_laws_waits.specs.Bounds.{RowsHaveSessions}
use Rattle.st_laws_healthy.proofs.Answering.{Answered, Answering, IsComing, IsDemandOn, IsQueued, IsReleased, IsSeen, IsSeenOn, asked_known, has_served, rounds}
use Rattle.st_laws_healthy.proofs.Answering.{rounds_up, session_known}
use Rattle.st_laws_healthy.proofs.ClientStanding.{Middle}
use Rattle.st_laws_healthy.proofs.ClientTalks.{TalksOn}
use Rattle.st_laws_healthy.proofs.Demanded.{HasAsked, HasQueued, Waits, held_says, release_of, unheld_waits}
use Rattle.st_laws_healthy.proofs.Emptying.{NoneWaits}
use Rattle.st_laws_healthy.proofs.Happening.{Brings, Deaf}
use Rattle.st_laws_healthy.proofs.Hearing.{is_received}
use Rattle.st_laws_healthy.proofs.Passing.{After, Again, Anew, Empties, IsPassed, Queued, Reasserts, Requested as Asked, Sends, Stays, Still}
use Rattle.st_laws_healthy.proofs.Queues.{keeps_place, place_below}
use Rattle.st_laws_healthy.proofs.Saying.{demand_said}
use Rattle.st_laws_healthy.proofs.Stepping.{IsHeard, IsLeft, IsNoMessage, TakesIn}
use Rattle.st_laws_healthy.proofs.Talking.{IsAsking, IsCounting, Talks, delivered_is, fly, not_delivered}
use Rattle.st_laws_healthy.proofs.Trips.{Begun, Flying, InTime, flies_on, goes_out, takes_off, trip_began, trip_ends}

-- A message that the client's step said.
pub record IsUttered (x : Step) (ns : List Message) (m : Message) : Type 0 where
  pub number : ℕ
  pub sent : Has (seen.Sent number m) x.seen
  pub there : numbered ns number ≡ Some m

module _ (k : Config) (c : ClientId) (s : ServerId) (gap d : ℕ) (read : World → ℕ) (delay most : ℕ) (past : List Step) (x : Step) (w : World)
    (ns : List Message) (more : (m : Message) → Has m (messages w) → Has m ns)
    (keeps : (i : ℕ) (m : Message) → numbered (messages w) i ≡ Some m → numbered ns i ≡ Some m) (n : ServerState) (now : Stamp) (st : ClientState)
    (i : ClientInput) (fit : (a : Association) → Has a st.associations → Fit a)
    (talks : (a : Association) → Has a st.associations → a.server ≡ s → (since : ℕ) × Talks k c s gap d read delay since past (messages w) n now.0 a)
    (brings : Brings w x.event c.0 i) (deaf_server : Deaf w x.event (server_node s)) (id : st.id ≡ c)
    (utters : (m : Message) → Has (outputs.Send m) (cl.client_step st now i).out → IsUttered x ns m)
    (before : ℕ) (shows : read x.after.world ≡ before) (timely : InTime read c s delay past (messages w) before)
    (begun : Begun read c s delay (past ++ x ∷ []) before)
    (known : RowsHaveSessions n) (once : are_once same_row n.locks.rows ≡ true)
    (lives : (r : LockRow) → Has r n.locks.rows → (y : Session) → sessions.session_of n.sessions r.client ≡ Some y → y.life.0 ≡ r.life.0)
    (b : Association) (o : TalksOn k c s gap d read delay past (past ++ x ∷ []) (messages w) ns n now st i fit talks b)
    (z0 : Answered c s read delay most past (messages w) n o.was.life.0 (talks o.was o.among o.at_was).1.last o.was.session (talks o.was o.among o.at_was).0)
    (few : (v : ClientSession) → b.session ≡ Some v → length v.releases ≤ most)
    (covered : (z : ClientSession) → o.was.session ≡ Some z → (ino : ℕ) (l : HeldLock) → lock_of z.locks ino ≡ Some l → (r : LockRow) →
    row_of n.locks c ino ≡ Some r → l.g.0 ≤ r.g.0)
    (met : (r : LockRow) → Has r n.locks.rows → r.client ≡ c → r.life.0 ≡ o.was.life.0 → is_some o.was.session ≡ true) where
  abbrev ms : List Message
  ms = messages w

  abbrev past2 : List Step
  past2 = past ++ x ∷ []

  abbrev life : ℕ
  life = o.was.life.0

  abbrev epoch : ℕ
  epoch = n.stable.epoch.0

  abbrev since0 : ℕ
  since0 = (talks o.was o.among o.at_was).0

  abbrev t0 : Talks k c s gap d read delay since0 past ms n now.0 o.was
  t0 = (talks o.was o.among o.at_was).1

  abbrev A : ℕ → GrantNo → ℕ → Type 0
  A ino g at = Answering c s read delay most past2 ns life epoch b.session o.since ino g at

  -- a message that is delivered is the input
  brought : (j : ClientInput) → Brings w x.event c.0 j → (f : ℕ) (y : Message) → numbered ms f ≡ Some y → y.header.to ≡ c.0 →
      (j ≡ inputs.Control y) ⊎ (x.event ≢ events.Deliver f)
  brought inputs.Tick v f y q to = inr (not_delivered k c s gap d past x w ns more keeps c.0 v f y q to)
  brought (inputs.App op ask) v f y q to = inr (not_delivered k c s gap d past x w ns more keeps c.0 v f y q to)
  brought (inputs.Done number r) v f y q to = inr (not_delivered k c s gap d past x w ns more keeps c.0 v f y q to)
  brought (inputs.Control m) v f y q to = go (same_or_not v.0.number f)
    where
      number_is : {a e : ℕ} → events.Deliver a ≡ events.Deliver e → a ≡ e
      number_is z = cc

      go : (v.0.number ≡ f) ⊎ (v.0.number ≢ f) → (inputs.Control m ≡ inputs.Control y) ⊎ (x.event ≢ events.Deliver f)
      go (inl e) = inl (ap (λ z. inputs.Control z) (delivered_is k c s gap d past x w ns more keeps m v.0 y (ap (λ z. numbered ms z) e ∙ q)))
      go (inr ne) = inr (λ e. ne (number_is (sym v.0.event ∙ e)))

  -- whoever has a row has a session
  session_of_row : (r : LockRow) → Has r n.locks.rows → r.client ≡ c → (z : ClientSession) × (o.was.session ≡ Some z)
  session_of_row r h own =
      some o.was.session refl (met r h own (has_served c s ms n life t0.last t0.known z0.first z0.born known lives r h own).1)
    where
      some : (p : Option ClientSession) → o.was.session ≡ p → is_some p ≡ true → (z : ClientSession) × (o.was.session ≡ Some z)
      some None e f = cc
      some (Some z) e f = (z, e)

  -- a release waits only while a request is outstanding
  rests2 : (v : ClientSession) → b.session ≡ Some v → v.requests.asked ≡ None → v.releases ≡ []
  rests2 v e f =
      let p = session_known k c s gap d read delay most past2 ns n now.0 b o.since o.known v e in
      subst NoneWaits e o.walk.works.none_waits p.sound p.settled f

  -- an outstanding request was sent by now
  since_now : (v : ClientSession) → b.session ≡ Some v → (q : Request) → v.requests.asked ≡ Some q → o.since ≤ before
  since_now v e q f =
      trip_began read c s delay past2 ns before (IsAsking k c s gap d b.life.0 epoch q.number q.body) (IsCounting k c s gap d b.life.0 epoch q.number q.body)
      o.since begun (asked_known k c s gap d read delay most past2 ns n now.0 b o.since o.known v e q f).first.also

  -- With a session before the step.
  module _ (z : ClientSession) (e : o.was.session ≡ Some z) where
    m : Middle z t0.last o.walk.second.session
    m = o.middle z e

    abbrev u : ClientSession
    u = m.session

    p : IsPassed now u b.session
    p = subst (λ y. After now y b.session) m.is o.walk.works.session

    abbrev v : ClientSession
    v = p.session

    at_v : b.session ≡ Some v
    at_v = p.is

    none_some : {A : Type 0} {y : A} → ◌≡◌ {A = Option A} None (Some y) → ⊥
    none_some f = cc

    -- a request that was outstanding still is, and was sent first when it was, if none is asked anew
    record StillAsked (q : Request) : Type 0 where
      now_asked : Request
      asked : v.requests.asked ≡ Some now_asked
      body : now_asked.body ≡ q.body
      since : o.since ≡ since0

    still_asked : (q : Request) → z.requests.asked ≡ Some q → (q.number ≤ t0.last → ⊥) → StillAsked q
    still_asked q f above = by m.requests p.requests
      where
        by : (u.requests ≡ z.requests) ⊎ ((u.requests.asked ≡ None) × ((r : Request) × (z.requests.asked ≡ Some r) × (r.number ≤ t0.last))) →
            Asked now u v.requests → StillAsked q
        by (inr (none, (r, g, l))) y = absurd (above (let h = ap (λ (w : Request). w.number) (some_is (sym f ∙ g)) in omega (arith, h, l)))
        by (inl same) (Still r) =
            record {
              now_asked = q;
              asked = ap (λ (w : cs.Requests). w.asked) (r ∙ same) ∙ f;
              body = refl;
              since = o.same z v e at_v (ap (λ (w : cs.Requests). w.next) (r ∙ same));
            }
        by (inl same) (Again r g h) =
            record {
              now_asked = record r { sent = now };
              asked = ap (λ (w : cs.Requests). w.asked) h;
              body = ap (λ (w : Request). w.body) (some_is (sym g ∙ ap (λ (w : cs.Requests). w.asked) same ∙ f));
              since = o.same z v e at_v (ap (λ (w : cs.Requests). w.next) h ∙ ap (λ (w : cs.Requests). w.next) same);
            }
        by (inl same) (Anew body none served r) = absurd (none_some (sym none ∙ ap (λ (w : cs.Requests). w.asked) same ∙ f))

    -- what becomes of a release that waited before the last pass
    waits_on : (ino : ℕ) (g : GrantNo) (at place : ℕ) → slice_get u.releases place ≡ Some (release_of ino g) →
        ((q : ℕ) → ((v.requests.next ≡ u.requests.next) × (q ≡ place)) ⊎ (place ≡ suc q) → slice_get v.releases q ≡ Some (release_of ino g) →
        o.since ≤ before → o.since + rounds delay (suc q) ≤ at + delay + rounds delay most) →
        (place ≡ 0 → o.since ≤ before → o.since ≤ at + delay + rounds delay most) → A ino g at
    waits_on ino g at place i0 fits sent = by p.queue
      where
        in_queue : (q : ℕ) → ((v.requests.next ≡ u.requests.next) × (q ≡ place)) ⊎ (place ≡ suc q) → slice_get v.releases q ≡ Some (release_of ino g) →
            (y : Option Request) → v.requests.asked ≡ y → A ino g at
        in_queue q w j None f =
            absurd (none_some (sym (ap (λ (xs : List Release). slice_get xs q) (rests2 v at_v f)) ∙ j))
        in_queue q w j (Some y) f = IsQueued v q at_v j (fits q w j (since_now v at_v y f))

        asked_or : (r : Release) (q : Request) → v.requests.asked ≡ Some q → q.body ≡ bd.Released r.ino r.g r.to → (y : ℕ) → place ≡ y →
            slice_get (r ∷ v.releases) y ≡ Some (release_of ino g) → A ino g at
        asked_or r q f body zero w j =
            let same : r ≡ release_of ino g = some_is j in
            IsReleased v q at_v f (body ∙ ap (λ (x : Release). bd.Released x.ino x.g x.to) same) (sent w (since_now v at_v q f))
        asked_or r q f body (suc y) w j = in_queue y (inr w) j v.requests.asked refl

        by : Queued u v → A ino g at
        by (Stays f l) = in_queue place (inl (f, refl)) (keeps_place u.releases v.releases l place (release_of ino g) i0) v.requests.asked refl
        by (Sends r q l f body) =
            asked_or r q f body place refl (keeps_place u.releases (r ∷ v.releases) l place (release_of ino g) i0)
        by (Empties l f) =
            absurd (none_some (sym (ap (λ (xs : List Release). slice_get xs place) f) ∙ keeps_place u.releases v.releases l place (release_of ino g) i0))
        by (Reasserts f) = absurd (not_both u.due f m.settled)

    -- of a row that waits for an answer
    module _ (r : LockRow) (at : Stamp) (h : Has r n.locks.rows) (own : r.client ≡ c) where
      -- its release is asked, and not served
      asked_before : (q : Request) → z.requests.asked ≡ Some q → q.body ≡ bd.Released r.ino r.g modes.None → q.number ≤ t0.last → ⊥
      asked_before q f body l = let y = z0.unserved z q e f r h own body in omega (arith, l, y)

      -- The demand is heard.
      module _ (f : Flying read c s delay past ms (IsDemandOn c s life epoch r.ino r.g) at.0) (is : i ≡ inputs.Control f.message) where
        hears_by : before ≤ at.0 + delay
        hears_by = goes_out read c s delay past ms before (IsDemandOn c s life epoch r.ino r.g) at.0 timely f

        first_is : o.walk.first ≡ o.was
        first_is = sym (o.walk.loses.lasts o.lasts)

        -- at the association
        module _ (tn : Turn) (here : tn.here ≡ o.was) (there : o.walk.second ≡ (cr.receive_at now f.message.header f.message.body tn).here) where
          with_it : tn.here.session ≡ Some z
          with_it = ap (λ (y : Association). y.session) here ∙ e

          received : cr.is_received tn now f.message.header ≡ true
          received =
              is_received tn now f.message.header
              (record {
                from = f.like.way.from ∙ ap (λ (y : ServerId). server_node y) (sym o.at_was) ∙ ap (λ (y : Association). server_node y.server) (sym here);
                life = f.like.of_life ∙ ap (λ (y : Association). y.life.0) (sym here);
                stamp = let y = f.like.stamp in omega (arith, y);
              })

          present : f.message.header.epoch ≡ z.epoch.0
          present = f.like.of_epoch ∙ sym (session_known k c s gap d read delay most past ms n now.0 o.was since0 t0 z e).epoch_is

          second_is : o.walk.second ≡ (cr.receive_at now f.message.header (bd.Demand r.ino r.g f.like.to) tn).here
          second_is = there ∙ ap (λ y. (cr.receive_at now f.message.header y tn).here) f.like.says

          waits : Waits tn z now f.message.header r.ino r.g f.like.to with_it received present
              (cr.receive_at now f.message.header (bd.Demand r.ino r.g f.like.to) tn) → A r.ino r.g at.0
          waits (HasAsked q g body) =
              let y = still_asked q g (asked_before q g body) in
              IsReleased v y.now_asked at_v y.asked (y.body ∙ body)
              (let l = since_now v at_v y.now_asked y.asked in let b = hears_by in omega (arith, l, b))
          waits (HasQueued w place g j) =
              waits_on r.ino r.g at.0 place (subst (λ (y : ClientSession). slice_get y.releases place ≡ Some (release_of r.ino r.g)) same j)
              (λ q w j l.
              let a = place_below v.releases q (release_of r.ino r.g) j in
              let b = few v at_v in
              let e = rounds_up delay (suc q) most (omega (arith, a, b)) in
              let g = hears_by in
              omega (arith, e, l, g))
              (λ w l. let g = hears_by in omega (arith, l, g))
            where
              same : w ≡ u
              same = some_is (sym g ∙ ap (λ (y : Association). y.session) (sym second_is) ∙ m.is)

          by_lock : (y : Option HeldLock) → lock_of z.locks r.ino ≡ y → A r.ino r.g at.0
          by_lock None q = waits (unheld_waits tn z now f.message.header r.ino r.g f.like.to with_it received present q)
          by_lock (Some l) q = says (utters said_message (subst (λ j. Has (outputs.Send said_message) (cl.client_step st now j).out) (sym is) said))
            where
              -- what it says, from this client at this association
              says_of : ClientId → Association → Message
              says_of id a =
                  record {
                    header = record { from = id.0; to = server_node a.server; life = a.life.0; epoch = z.epoch.0; number = 0; stamp = 0 };
                    body = bd.DemandSeen r.ino r.g;
                  }

              said_message : Message
              said_message = says_of st.id o.was

              le : l.g.0 ≤ r.g.0
              le = covered z e r.ino l q r (subst (λ y. row_of n.locks y r.ino ≡ Some r) own (row_found n.locks once r h))

              its : (y : Turn) → y.here ≡ o.was → y.id ≡ st.id →
                  Has (outputs.Send said_message) (cr.receive_at now f.message.header (bd.Demand r.ino r.g f.like.to) y).out
              its y a b =
                  subst (λ (j : Message). Has (outputs.Send j) (cr.receive_at now f.message.header (bd.Demand r.ino r.g f.like.to) y).out)
                  (ap (λ (j : ClientId). says_of j y.here) b ∙ ap (λ (j : Association). says_of st.id j) a)
                  (held_says y z now f.message.header r.ino r.g f.like.to (ap (λ (j : Association). j.session) a ∙ e)
                  (is_received y now f.message.header
                  (record {
                    from = f.like.way.from ∙ ap (λ (j : ServerId). server_node j) (sym o.at_was) ∙ ap (λ (j : Association). server_node j.server) (sym a);
                    life = f.like.of_life ∙ ap (λ (j : Association). j.life.0) (sym a);
                    stamp = let j = f.like.stamp in omega (arith, j);
                  })) present l q le)

              said : Has (outputs.Send said_message) (cl.client_step st now (inputs.Control f.message)).out
              said =
                  demand_said st now f.message fit (f.like.way.to ∙ ap (λ (j : ClientId). j.0) (sym id)) r.ino r.g f.like.to f.like.says o.was o.among
                  o.lasts (outputs.Send said_message) its

              says : IsUttered x ns said_message → A r.ino r.g at.0
              says y =
                  let from : said_message.header.from ≡ c.0 = ap (λ (j : ClientId). j.0) id in
                  let to : said_message.header.to ≡ server_node s = ap (λ (j : ServerId). server_node j) o.at_was in
                  let like : IsSeenOn c s life epoch r.ino r.g said_message = record {
                    way = record { from = from; to = to };
                    of_life = refl;
                    of_epoch = (session_known k c s gap d read delay most past ms n now.0 o.was since0 t0 z e).epoch_is;
                    says = refl;
                  } in
                  IsSeen before hears_by
                  (subst (Flying read c s delay past2 ns (IsSeenOn c s life epoch r.ino r.g)) shows
                  (takes_off read c s delay past x ns (IsSeenOn c s life epoch r.ino r.g) y.number said_message y.sent y.there
                  (or_left _ _ (and_both (said_message.header.from == c.0) (said_message.header.to == server_node s)
                  (eq-eqb said_message.header.from c.0 from) (eq-eqb said_message.header.to (server_node s) to))) like))

        hears : TakesIn st.config now i o.walk.first o.walk.second → A r.ino r.g at.0
        hears (IsLeft quiet sv l g alike) = absurd (subst IsNoMessage is quiet)
        hears (IsHeard tn j is2 kb here there sv lf) =
            by_lock tn (here ∙ first_is) (there ∙ ap (λ (y : Message). (cr.receive_at now y.header y.body tn).here) (message_is (sym is2 ∙ is)))
            (lock_of z.locks r.ino) refl
          where
            message_is : {a b : Message} → inputs.Control a ≡ inputs.Control b → a ≡ b
            message_is q = cc

      -- Where the answer was.
      goes_on : Answering c s read delay most past ms life epoch o.was.session since0 r.ino r.g at.0 → A r.ino r.g at.0
      goes_on (IsComing f) = by (brought i brings f.number f.message f.there f.like.way.to)
        where
          by : (i ≡ inputs.Control f.message) ⊎ (x.event ≢ events.Deliver f.number) → A r.ino r.g at.0
          by (inl is) = hears f is o.walk.takes
          by (inr ne) =
              IsComing (flies_on read c s delay past x ms ns keeps (IsDemandOn c s life epoch r.ino r.g) (IsDemandOn c s life epoch r.ino r.g) at.0 f (λ y. y) ne)
      goes_on (IsSeen sent l f) =
          IsSeen sent l (fly k c s gap d past x w ns more keeps read delay (IsSeenOn c s life epoch r.ino r.g) (IsSeenOn c s life epoch r.ino r.g) sent
          (server_node s) f (λ y. y) f.like.way.to deaf_server)
      goes_on (IsQueued y place g j l) =
          waits_on r.ino r.g at.0 place (keeps_place z.releases u.releases m.releases place (release_of r.ino r.g) there)
          (λ q w i0 b. moves q w b) (λ w b. let a = ends in let f = ap (λ n. rounds delay (suc n)) w in omega (arith, a, b, l, f))
        where
          there : slice_get z.releases place ≡ Some (release_of r.ino r.g)
          there = subst (λ (w : ClientSession). slice_get w.releases place ≡ Some (release_of r.ino r.g)) (some_is (sym g ∙ e)) j

          -- the request that is outstanding before the step ends within a trip there and back
          ends : before ≤ since0 + 2 * delay
          ends = by z.requests.asked refl
            where
              by : (y : Option Request) → z.requests.asked ≡ y → before ≤ since0 + 2 * delay
              by None f = absurd (none_some (sym (ap (λ (xs : List Release). slice_get xs place) (z0.rests z e f)) ∙ there))
              by (Some q) f =
                  trip_ends read c s delay past ms before (IsAsking k c s gap d life epoch q.number q.body) (IsCounting k c s gap d life epoch q.number q.body)
                  since0 timely (asked_known k c s gap d read delay most past ms n now.0 o.was since0 t0 z e q f).first.also

          moves : (q : ℕ) → ((v.requests.next ≡ u.requests.next) × (q ≡ place)) ⊎ (place ≡ suc q) → o.since ≤ before →
              o.since + rounds delay (suc q) ≤ at.0 + delay + rounds delay most
          moves q (inl (f, w)) b =
              let a = o.same z v e at_v (f ∙ m.next) in let n = ap (λ n. rounds delay (suc n)) w in omega (arith, a, n, l)
          moves q (inr w) b = let a = ends in let n = ap (λ n. rounds delay (suc n)) w in omega (arith, a, b, n, l)
      goes_on (IsReleased y q g f body l) =
          let asked = subst (λ (w : ClientSession). w.requests.asked ≡ Some q) (some_is (sym g ∙ e)) f in
          let z = still_asked q asked (asked_before q asked body) in
          IsReleased v z.now_asked at_v z.asked (z.body ∙ body) (let a = z.since in omega (arith, a, l))

      -- A lock whose release is outstanding is there until it is served.
      unserved_by : (y : ClientSession) (q : Request) → b.session ≡ Some y → y.requests.asked ≡ Some q → q.body ≡ bd.Released r.ino r.g modes.None →
          t0.last < q.number
      unserved_by y q g f body = by m.requests p.requests
        where
          its : v.requests.asked ≡ Some q
          its = subst (λ (w : ClientSession). w.requests.asked ≡ Some q) (some_is (sym g ∙ at_v)) f

          by : (u.requests ≡ z.requests) ⊎ ((u.requests.asked ≡ None) × ((r : Request) × (z.requests.asked ≡ Some r) × (r.number ≤ t0.last))) →
              Asked now u v.requests → t0.last < q.number
          by (inl same) (Still a) = z0.unserved z q e (ap (λ (w : cs.Requests). w.asked) (sym (a ∙ same)) ∙ its) r h own body
          by (inl same) (Again j i2 a) =
              let w : record j { sent = now } ≡ q = some_is (ap (λ (w : cs.Requests). w.asked) (sym a) ∙ its) in
              let l = z0.unserved z j e (ap (λ (w : cs.Requests). w.asked) (sym same) ∙ i2) r h own (ap (λ (x : Request). x.body) w ∙ body) in
              let number = ap (λ (x : Request). x.number) w in
              omega (arith, l, number)
          by (inr (none, j)) (Still a) = absurd (none_some (sym none ∙ ap (λ (w : cs.Requests). w.asked) (sym a) ∙ its))
          by (inr (none, j)) (Again j2 i2 a) = absurd (none_some (sym none ∙ i2))
          by j (Anew body2 none served a) =
              let w = some_is (ap (λ (w : cs.Requests). w.asked) (sym a) ∙ its) in
              let number = ap (λ (x : Request). x.number) w in
              let below = (session_known k c s gap d read delay most past ms n now.0 o.was since0 t0 z e).below in
              let next = m.next in
              omega (arith, number, below, next)

  pub client_answers : Answered c s read delay most past2 ns n b.life.0 o.known.last b.session o.since
  client_answers =
      record {
        first = ap (λ (y : Life). y.0) o.life ∙ z0.first;
        born = z0.born;
        rests = rests2;
        unserved = λ y q g f r h own body.
            let z = session_of_row r h own in
            let l = unserved_by z.0 z.1 r (record { 0 = 0 }) h own y q g f body in
            let a = o.last_is in
            omega (arith, l, a);
        answers = λ r at h own f.
            let z = session_of_row r h own in
            subst (λ (y : Life). Answering c s read delay most past2 ns y.0 epoch b.session o.since r.ino r.g at.0) (sym o.life)
            (goes_on z.0 z.1 r at h own (z0.answers r at h own f));
      }
