-- Where the answer to a demand is, while its row waits for it. The demand is on its way to the client; or what the client said of it is on its way to the
-- server; or the release of the lock waits after others, or is outstanding. So the server hears the answer in time.
use Rattle.st_lemmas.proofs.Words
use Words.{◌≡◌, ℕ, ◌+◌, ◌*◌, ◌≤◌, ◌<◌, true, ◌==◌, ◌&&◌, List, [], ◌∷◌, ◌++◌, Option, Some, None, refl, sym, ap, ◌∙◌, subst, arith}
use Words.{is_some, slice_get, suc, zero, eq-eqb, Config, ClientId, GrantNo, ServerId, Stamp, Mode, Message, Release, LockRow, Request, Session}
use Words.modes
use Words.bodies as bd
use Words.ClientState.{Association, ClientSession}
use Words.Keys.{client, server_node}
use Words.Safety.{Step}
use Words.Server as sv
use Words.Server.{ServerState}
use Words.Sessions as sessions
use Words.World.{World, numbered}
use Words.Lists.{Has}
use Words.Numbers.{numbered_has}
use Words.Tables.{and_both}
use Rattle.st_laws_leases.specs.Dates.Dates.{messages}
use Rattle.st_laws_waits.specs.Bounds.{RowsHaveSessions}
use Rattle.st_laws_waits.specs.Causes.{asked_since, heeds, is_current, is_heeded}
use Rattle.st_laws_waits.specs.Chase.{answers_for}
use Words.Truth.{not_both}
use Rattle.st_laws_healthy.proofs.Demanded.{release_of}
use Rattle.st_laws_healthy.proofs.Happening.{Deaf}
use Rattle.st_laws_healthy.proofs.Replies.{counts_for}
use Rattle.st_laws_healthy.proofs.Served.{From, IsAWelcome, IsBefore, IsCounted, IsEarlier, IsGood, IsKnown, IsLiving, IsOwn, IsReplied, IsServed, IsTold}
use Rattle.st_laws_healthy.proofs.Served.{TellsEpoch, To}
use Rattle.st_laws_healthy.proofs.Talking.{HasSession, IsAsking, IsAsking2, IsCounting, Phase, Requested, Talks, fly}
use Rattle.st_laws_healthy.proofs.Trips.{Back, Flying, InTime, Out, Trip, goes_out, trip_ends}

-- what this many trips to the server and back take
abbrev pub rounds : ℕ → ℕ → ℕ
rounds delay zero = 0
rounds delay (suc n) = 2 * delay + rounds delay n

pub rounds_up : (delay a b : ℕ) → a ≤ b → rounds delay a ≤ rounds delay b
rounds_up delay zero b l = omega arith
rounds_up delay (suc a) zero l = absurd (omega (arith, l))
rounds_up delay (suc a) (suc b) l = let z = rounds_up delay a b (omega (arith, l)) in omega (arith, z)

module _ (c : ClientId) (s : ServerId) where
  -- a demand on a lock of the client, in a life and an epoch
  pub record IsDemandOn (life epoch ino : ℕ) (g : GrantNo) (m : Message) : Type 0 where
    pub way : From c s m
    pub of_life : m.header.life ≡ life
    pub of_epoch : m.header.epoch ≡ epoch
    pub stamp : m.header.stamp ≡ 0
    pub to : Mode
    pub says : m.body ≡ bd.Demand ino g to

  -- what the client says of it
  pub record IsSeenOn (life epoch ino : ℕ) (g : GrantNo) (m : Message) : Type 0 where
    pub way : To c s m
    pub of_life : m.header.life ≡ life
    pub of_epoch : m.header.epoch ≡ epoch
    pub says : m.body ≡ bd.DemandSeen ino g

  -- when a clock is read, with the longest time that a message takes by it, and how many releases wait at most
  module _ (read : World → ℕ) (delay most : ℕ) where
    -- Where the answer is, to a demand that was sent at this reading.
    pub data Answering (past : List Step) (ms : List Message) (life epoch : ℕ) (o : Option ClientSession) (since ino : ℕ) (g : GrantNo) (at : ℕ) : Type 0 where
      IsComing : Flying read c s delay past ms (IsDemandOn life epoch ino g) at → Answering past ms life epoch o since ino g at
      IsSeen : (sent : ℕ) → sent ≤ at + delay → Flying read c s delay past ms (IsSeenOn life epoch ino g) sent →
          Answering past ms life epoch o since ino g at
      IsQueued : (z : ClientSession) (place : ℕ) → o ≡ Some z → slice_get z.releases place ≡ Some (release_of ino g) →
          since + rounds delay (suc place) ≤ at + delay + rounds delay most → Answering past ms life epoch o since ino g at
      IsReleased : (z : ClientSession) (q : Request) → o ≡ Some z → z.requests.asked ≡ Some q → q.body ≡ bd.Released ino g modes.None →
          since ≤ at + delay + rounds delay most → Answering past ms life epoch o since ino g at

    -- What is known of an association's rows and releases.
    pub record Answered (past : List Step) (ms : List Message) (n : ServerState) (life last : ℕ) (o : Option ClientSession) (since : ℕ) : Type 0 where
      -- no life of the client was before, in its session neither
      pub first : life ≡ 1
      pub born : (y : Session) → sessions.session_of n.sessions c ≡ Some y → 1 ≤ y.life.0
      -- a release waits only while a request is outstanding
      pub rests : (z : ClientSession) → o ≡ Some z → z.requests.asked ≡ None → z.releases ≡ []
      -- a lock whose release is outstanding is there until it is served
      pub unserved : (z : ClientSession) (q : Request) → o ≡ Some z → z.requests.asked ≡ Some q → (r : LockRow) → Has r n.locks.rows → r.client ≡ c →
          q.body ≡ bd.Released r.ino r.g modes.None → last < q.number
      -- each demand that waits is answered
      pub answers : (r : LockRow) (at : Stamp) → Has r n.locks.rows → r.client ≡ c → asked_since r ≡ Some at →
          Answering past ms life n.stable.epoch.0 o since r.ino r.g at.0

-- whoever has a row is served, in the row's life
pub has_served : (c : ClientId) (s : ServerId) (ms : List Message) (n : ServerState) (life last : ℕ) → IsKnown c s ms n.sessions life n.stable.epoch.0 last →
    life ≡ 1 → ((y : Session) → sessions.session_of n.sessions c ≡ Some y → 1 ≤ y.life.0) → RowsHaveSessions n →
    ((r : LockRow) → Has r n.locks.rows → (y : Session) → sessions.session_of n.sessions r.client ≡ Some y → y.life.0 ≡ r.life.0) →
    (r : LockRow) → Has r n.locks.rows → r.client ≡ c → IsServed c s ms n.sessions life n.stable.epoch.0 last × (r.life.0 ≡ life)
has_served c s ms n life last known first born there lives r h own = by known
  where
    at : {o : Option Session} → is_some o ≡ true → (y : Session) × (o ≡ Some y)
    at {o = None} e = cc
    at {o = Some y} e = (y, refl)

    some : (y : Session) × (sessions.session_of n.sessions c ≡ Some y)
    some = at (ap (λ (x : ClientId). is_some (sessions.session_of n.sessions x)) (sym own) ∙ there r h)

    by : IsKnown c s ms n.sessions life n.stable.epoch.0 last → IsServed c s ms n.sessions life n.stable.epoch.0 last × (r.life.0 ≡ life)
    by (IsBefore f e) = absurd (let a = f some.0 some.1 in let b = born some.0 some.1 in omega (arith, a, b, first))
    by (IsLiving k) = (k, sym (lives r h k.session (ap (λ (x : ClientId). sessions.session_of n.sessions x) own ∙ k.is)) ∙ k.of_life)

-- a server heeds what a served client says of a demand
pub seen_heeded : (c : ClientId) (s : ServerId) (ms : List Message) (n : ServerState) (life last ino : ℕ) (g : GrantNo) → 1 ≤ c.0 → c.0 ≤ 16 → n.id ≡ s →
    IsServed c s ms n.sessions life n.stable.epoch.0 last → (m : Message) → IsSeenOn c s life n.stable.epoch.0 ino g m → heeds n c ino g m ≡ true
seen_heeded c s ms n life last ino g some few id k m z =
    and_both (m.header.from == c.0) (answers_for ino g m.body && is_heeded n m) (eq-eqb m.header.from c.0 z.way.from)
    (and_both (answers_for ino g m.body) (is_heeded n m)
    (subst (λ b. answers_for ino g b ≡ true) (sym z.says) (and_both (ino == ino) (g.0 == g.0) (eq-eqb ino ino refl) (eq-eqb g.0 g.0 refl)))
    (and_both (sv.is_for n m.header) ((m.header.epoch == n.stable.epoch.0) && is_current n m.header m.body) is_for
    (and_both (m.header.epoch == n.stable.epoch.0) (is_current n m.header m.body) (eq-eqb m.header.epoch n.stable.epoch.0 z.of_epoch)
    (subst (λ b. is_current n m.header b ≡ true) (sym z.says) current))))
  where
    is_for : sv.is_for n m.header ≡ true
    is_for =
        and_both (m.header.to == server_node n.id) (sv.is_client_node m.header.from)
        (eq-eqb m.header.to (server_node n.id) (z.way.to ∙ ap (λ (x : ServerId). server_node x) (sym id)))
        (and_both (Rattle.std.specs.Prelude.nat_le 1 m.header.from) (Rattle.std.specs.Prelude.nat_le m.header.from 16)
        (Rattle.std.proofs.lemmas.Bool.le-leb 1 m.header.from (let f = z.way.from in omega (arith, f, some)))
        (Rattle.std.proofs.lemmas.Bool.le-leb m.header.from 16 (let f = z.way.from in omega (arith, f, few))))

    there : sessions.session_of n.sessions (sv.sender m.header) ≡ Some k.session
    there = ap (λ i. sessions.session_of n.sessions (client i)) z.way.from ∙ k.is

    current : is_current n m.header (bd.DemandSeen ino g) ≡ true
    current =
        subst (λ o. sv.serves_at (sv.life_in m.header) o ≡ true) (sym there)
        (and_both (sessions.is_live k.session) (k.session.life.0 == m.header.life) (ap sessions.is_live_state k.state)
        (eq-eqb k.session.life.0 m.header.life (k.of_life ∙ sym z.of_life)))

module _ (k : Config) (c : ClientId) (s : ServerId) (gap d : ℕ) (read : World → ℕ) (delay most : ℕ) (past : List Step) (ms : List Message) (n : ServerState)
    (now : ℕ) (a : Association) (since : ℕ) (t : Talks k c s gap d read delay since past ms n now a) where
  -- of a session
  pub session_known : (z : ClientSession) → a.session ≡ Some z →
      HasSession k c s gap d read delay since past ms n.sessions a.life.0 n.stable.epoch.0 t.last z
  session_known z e = subst (Phase k c s gap d read delay since past ms n.sessions a.life.0 n.stable.epoch.0 t.last) e t.phase

  -- the request that is outstanding
  pub asked_known : (z : ClientSession) → a.session ≡ Some z → (q : Request) → z.requests.asked ≡ Some q →
      IsAsking2 k c s gap d read delay since past ms a.life.0 n.stable.epoch.0 t.last z.lease.date.0 z.requests.next q
  asked_known z e q f = subst (Requested k c s gap d read delay since past ms a.life.0 n.stable.epoch.0 t.last z.lease.date.0 z.requests.next) f
      (session_known z e).requests

  -- until it is served, no reply to it is on its way
  unanswered : (z : ClientSession) → a.session ≡ Some z → (q : Request) → z.requests.asked ≡ Some q → t.last < q.number → (m : Message) → Has m ms →
      IsCounting k c s gap d a.life.0 n.stable.epoch.0 q.number q.body m → ⊥
  unanswered z e q f l m h x = by (t.told m h x.way)
    where
      good : IsGood c s ms n.sessions a.life.0 n.stable.epoch.0 t.last m → ⊥
      good (IsAWelcome b sv r j w o g p) = not_both (counts_for q.body m.body) x.counts (ap (counts_for q.body) b)
      good (TellsEpoch y v b) = not_both (counts_for q.body m.body) x.counts (ap (counts_for q.body) b)
      good (IsCounted p o r g j v) = let u = x.under in omega (arith, u, o, l)

      by : IsTold c s ms n.sessions a.life.0 n.stable.epoch.0 t.last m → ⊥
      by (IsOwn u) = let y = u.number in let v = x.under in omega (arith, y, v, l)
      by (IsEarlier y) = let v = x.of_life in omega (arith, y, v)
      by (IsReplied y v g) = good g

  -- So the answer comes in time.
  pub answers_in_time : Answered c s read delay most past ms n a.life.0 t.last a.session since → (now2 : ℕ) → InTime read c s delay past ms now2 →
      (r : LockRow) (at : Stamp) → Has r n.locks.rows → r.client ≡ c → asked_since r ≡ Some at → now2 ≤ at.0 + 2 * delay + rounds delay most
  answers_in_time w now2 timely r at h own e = go (w.answers r at h own e)
    where
      queued : (z : ClientSession) (place : ℕ) → a.session ≡ Some z → slice_get z.releases place ≡ Some (release_of r.ino r.g) →
          since + rounds delay (suc place) ≤ at.0 + delay + rounds delay most → (o : Option Request) → z.requests.asked ≡ o →
          now2 ≤ at.0 + 2 * delay + rounds delay most
      queued z place f i l None g = absurd (no (sym (ap (λ (xs : List Release). slice_get xs place) (w.rests z f g)) ∙ i))
        where
          no : ◌≡◌ {A = Option Release} None (Some (release_of r.ino r.g)) → ⊥
          no x = cc
      queued z place f i l (Some q) g =
          let y = trip_ends read c s delay past ms now2 (IsAsking k c s gap d a.life.0 n.stable.epoch.0 q.number q.body)
          (IsCounting k c s gap d a.life.0 n.stable.epoch.0 q.number q.body) since timely (asked_known z f q g).first.also in
          omega (arith, y, l)

      go : Answering c s read delay most past ms a.life.0 n.stable.epoch.0 a.session since r.ino r.g at.0 → now2 ≤ at.0 + 2 * delay + rounds delay most
      go (IsComing f) =
          let y = goes_out read c s delay past ms now2 (IsDemandOn c s a.life.0 n.stable.epoch.0 r.ino r.g) at.0 timely f in omega (arith, y)
      go (IsSeen sent l f) =
          let y = goes_out read c s delay past ms now2 (IsSeenOn c s a.life.0 n.stable.epoch.0 r.ino r.g) sent timely f in omega (arith, y, l)
      go (IsQueued z place f i l) = queued z place f i l z.requests.asked refl
      go (IsReleased z q f g b l) = by (asked_known z f q g).first.also
        where
          by : Trip read c s delay past ms (IsAsking k c s gap d a.life.0 n.stable.epoch.0 q.number q.body)
              (IsCounting k c s gap d a.life.0 n.stable.epoch.0 q.number q.body) since → now2 ≤ at.0 + 2 * delay + rounds delay most
          by (Out p) =
              let y = goes_out read c s delay past ms now2 (IsAsking k c s gap d a.life.0 n.stable.epoch.0 q.number q.body) since timely p in
              omega (arith, y, l)
          by (Back back x y p) =
              absurd (unanswered z f q g (w.unserved z q f g r h own b) p.message (numbered_has ms p.number p.message p.there) p.like)

-- Neither the client nor the server takes a step.
pub neither_answers : (k : Config) (c : ClientId) (s : ServerId) (gap d : ℕ) (read : World → ℕ) (delay most : ℕ) (past : List Step) (x : Step) (w : World)
    (ns : List Message) (more : (m : Message) → Has m (messages w) → Has m ns)
    (keeps : (i : ℕ) (m : Message) → numbered (messages w) i ≡ Some m → numbered ns i ≡ Some m) → Deaf w x.event (server_node s) → Deaf w x.event c.0 →
    (n : ServerState) (life last : ℕ) (o : Option ClientSession) (since : ℕ) → Answered c s read delay most past (messages w) n life last o since →
    Answered c s read delay most (past ++ x ∷ []) ns n life last o since
neither_answers k c s gap d read delay most past x w ns more keeps deaf_server deaf n life last o since z =
    record {
      first = z.first;
      born = z.born;
      rests = z.rests;
      unserved = z.unserved;
      answers = λ r at h own e. go r.ino r.g at.0 (z.answers r at h own e);
    }
  where
    go : (ino : ℕ) (g : GrantNo) (at : ℕ) → Answering c s read delay most past (messages w) life n.stable.epoch.0 o since ino g at →
        Answering c s read delay most (past ++ x ∷ []) ns life n.stable.epoch.0 o since ino g at
    go ino g at (IsComing f) =
        IsComing (fly k c s gap d past x w ns more keeps read delay (IsDemandOn c s life n.stable.epoch.0 ino g) (IsDemandOn c s life n.stable.epoch.0 ino g) at
        c.0 f (λ y. y) f.like.way.to deaf)
    go ino g at (IsSeen sent l f) =
        IsSeen sent l (fly k c s gap d past x w ns more keeps read delay (IsSeenOn c s life n.stable.epoch.0 ino g)
        (IsSeenOn c s life n.stable.epoch.0 ino g) sent (server_node s) f (λ y. y) f.like.way.to deaf_server)
    go ino g at (IsQueued y place e i l) = IsQueued y place e i l
    go ino g at (IsReleased y q e f b l) = IsReleased y q e f b l
