-- A step of the server keeps where the answers to its demands are. What it demands now is on its way, and a demand that still waits wasn't answered in
-- the step.
use Rattle.st_lemmas.proofs.Words
use Words.{◌≡◌, ◌≢◌, ℕ, ◌+◌, ◌≤◌, ◌<◌, ◌⊎◌, Bool, true, false, ◌==◌, List, [], ◌∷◌, ◌++◌, Option, Some, None, refl, sym, ap, ◌∙◌, subst, inl, inr, arith, nat_lt}
use Words.{eq-eqb, eqb-true, ltb-true, ltb-false, Config, ClientId, Epoch, GrantNo, Life, ServerId, Stamp, Mode, Header, Body, Message, LockRow, Request}
use Words.{ServerInput, Session, Taken}
use Words.events
use Words.modes
use Words.bodies as bd
use Words.outputs
use Words.serving
use Words.states.{Live}
use Words.takes
use Words.Authority.{may_ack}
use Words.ClientState.{Association, ClientSession}
use Words.Keys.{client, server_node}
use Words.Safety.{Step}
use Words.Server as sv
use Words.Server.{ServerState, ServerTurn, server_step, thefts, turn}
use Words.ServerInvariants.{are_once, same_row}
use Words.Sessions as sessions
use Words.World.{World, numbered}
use Words.Lists.{Has}
use Words.Lookups.{or_right}
use Words.Tables.{and_both, cond_either, same_or_not}
use Words.Truth.{not_both}
use Rattle.st_laws_refine.specs.Server.Edits.{WishInput}
use Rattle.st_laws_leases.specs.Dates.Dates.{messages}
use Rattle.st_laws_requests.specs.Cuts.Cuts.{Numbers, Placed, SameBody, view}
use Rattle.st_laws_waits.specs.Bounds.{RowsHaveSessions}
use Rattle.st_laws_waits.specs.Causes.{asked_since}
use Rattle.st_laws_waits.proofs.Keeping.{SameLock}
use Rattle.st_laws_waits.proofs.Sending.{Heeds, SentNow, WaitedBefore, keeps_message, keeps_tick}
use Rattle.st_laws_healthy.proofs.Answering.{Answered, Answering, IsComing, IsDemandOn, IsQueued, IsReleased, IsSeen, IsSeenOn, has_served, seen_heeded}
use Rattle.st_laws_healthy.proofs.Answering.{session_known}
use Rattle.st_laws_healthy.proofs.Given.{given}
use Rattle.st_laws_healthy.proofs.Happening.{BringsServer, Deaf}
use Rattle.st_laws_healthy.proofs.Lives.{ComesFrom, IsOf, IsOlder, comes_from}
use Rattle.st_laws_healthy.proofs.Requests.{IsRequest}
use Rattle.st_laws_healthy.proofs.Rows.{FromRow, IsNew, IsOld, released_gone, rows_after}
use Rattle.st_laws_healthy.proofs.Served.{Comes, IsServed, To}
use Rattle.st_laws_healthy.proofs.ServerStanding.{IsSaid, TalksNext}
use Rattle.st_laws_healthy.proofs.Serving.{does}
use Rattle.st_laws_healthy.proofs.Sparing.{spared}
use Rattle.st_laws_healthy.proofs.Talking.{Talks, delivered_among, delivered_is, fly, not_delivered}
use Rattle.st_laws_healthy.proofs.Telling.{step_sessions, tick_sessions}
use Rattle.st_laws_healthy.proofs.Trips.{Flying, flies_on, takes_off}

-- the next request of a living session is taken
fresh_taken : (v : sessions.Sessions) (h : Header) (y : Session) (last : ℕ) (kept : Option Body) → sessions.session_of v (sv.sender h) ≡ Some y →
    y.state ≡ Live last kept → y.life.0 ≡ h.life → h.epoch ≡ v.epoch.0 → h.number ≡ last + 1 →
    sessions.take v (sv.sender h) (sv.life_in h) (sv.epoch_in h) h.number ≡ takes.Fresh
unfolding sessions.take sessions.take_at sessions.take_life sessions.take_past sessions.take_state sessions.take_number sessions.take_from sessions.take_next
fresh_taken v h y last kept there state life epoch number =
    cond_either F ((sv.epoch_in h).0 == v.epoch.0) (sessions.take_at (sessions.session_of v (sv.sender h)) (sv.life_in h) h.number) takes.OtherEpoch
    (λ a. subst (λ o. F (sessions.take_at o (sv.life_in h) h.number)) (sym there)
    (cond_either F (nat_lt y.life.0 h.life) takes.NoSession (sessions.take_past y (sv.life_in h) h.number)
    (λ b. let l = ltb-true y.life.0 h.life b in absurd (omega (arith, l, life)))
    (λ b. cond_either F (nat_lt h.life y.life.0) takes.Stale (sessions.take_state y.state h.number)
    (λ d. let l = ltb-true h.life y.life.0 d in absurd (omega (arith, l, life)))
    (λ d. subst (λ st. F (sessions.take_state st h.number)) (sym state)
    (cond_either F (nat_lt h.number last) takes.Stale (sessions.take_from last kept h.number)
    (λ e. let l = ltb-true h.number last e in absurd (omega (arith, l, number)))
    (λ e. cond_either F (h.number == last) (sessions.again kept) (sessions.take_next last h.number)
    (λ f. let l = eqb-true h.number last f in absurd (omega (arith, l, number)))
    (λ f. cond_either F (h.number == last + 1) takes.Fresh takes.OutOfOrder (λ g. refl)
    (λ g. absurd (not_both (h.number == last + 1) (eq-eqb h.number (last + 1) number) g)))))))))
    (λ a. absurd (not_both (h.epoch == v.epoch.0) (eq-eqb h.epoch v.epoch.0 epoch) a))
  where
    F : Taken Body → Type 0
    F k = k ≡ takes.Fresh

-- a demand that waits after a step is sent in it, or waited before it and wasn't answered in it
waits_or_sent : (now : Stamp) (n : ServerState) (known : RowsHaveSessions n) (once : are_once same_row n.locks.rows ≡ true)
    (lives : (r : LockRow) → Has r n.locks.rows → (y : Session) → sessions.session_of n.sessions r.client ≡ Some y → y.life.0 ≡ r.life.0) (i : ServerInput) →
    are_once same_row (server_step n now i).state.locks.rows ≡ true → (r : LockRow) (at : Stamp) → Has r (server_step n now i).state.locks.rows →
    asked_since r ≡ Some at → may_ack (server_step n now i).state.authority r.client ≡ true →
    SentNow n now (server_step n now i).out r at ⊎ WaitedBefore sv.is_client_node now n known once lives i r at
unfolding server_step sv.take_input sv.receive
waits_or_sent now n known once lives serving.Tick o r at h e f = keeps_tick sv.is_client_node now n known once lives o r at h e f
waits_or_sent now n known once lives (serving.Control m) o r at h e f = keeps_message sv.is_client_node now n known once lives m o r at h e f

module _ (k : Config) (c : ClientId) (s : ServerId) (gap d : ℕ) (read : World → ℕ) (delay most : ℕ) (few : c.0 ≤ 16) (some : 1 ≤ c.0) (past : List Step)
    (x : Step) (w : World) (ns : List Message) (more : (m : Message) → Has m (messages w) → Has m ns)
    (keeps : (i : ℕ) (m : Message) → numbered (messages w) i ≡ Some m → numbered ns i ≡ Some m) (n : ServerState) (when : Stamp) (i : ServerInput)
    (wish : WishInput i) (shows : read x.after.world ≡ when.0) (free : may_ack n.authority c ≡ true)
    (still : may_ack (server_step n when i).state.authority c ≡ true) (sepoch : n.sessions.epoch ≡ n.stable.epoch) (off : n.grace ≡ None) (id : n.id ≡ s)
    (epoch_same : (server_step n when i).state.stable.epoch ≡ n.stable.epoch) (brings : BringsServer w x.event (server_node s) i)
    (deaf : Deaf w x.event c.0) (says : (m : Message) → Has (outputs.Send m) (server_step n when i).out → IsSaid s x ns (server_step n when i).out m)
    (known : RowsHaveSessions n) (once : are_once same_row n.locks.rows ≡ true)
    (lives : (r : LockRow) → Has r n.locks.rows → (y : Session) → sessions.session_of n.sessions r.client ≡ Some y → y.life.0 ≡ r.life.0)
    (known2 : RowsHaveSessions (server_step n when i).state) (once2 : are_once same_row (server_step n when i).state.locks.rows ≡ true)
    (lives2 : (r : LockRow) → Has r (server_step n when i).state.locks.rows → (y : Session) →
    sessions.session_of (server_step n when i).state.sessions r.client ≡ Some y → y.life.0 ≡ r.life.0)
    (born_in : (m : Message) → Has m (messages w) → To c s m → 1 ≤ m.header.life) where
  abbrev ms : List Message
  ms = messages w

  abbrev past2 : List Step
  past2 = past ++ x ∷ []

  abbrev n2 : ServerState
  n2 = (server_step n when i).state

  -- a message that is delivered is the input
  brought : (j : ServerInput) → BringsServer w x.event (server_node s) j → (f : ℕ) (y : Message) → numbered ms f ≡ Some y → y.header.to ≡ server_node s →
      (j ≡ serving.Control y) ⊎ (x.event ≢ events.Deliver f)
  brought serving.Tick b f y q to = inr (not_delivered k c s gap d past x w ns more keeps (server_node s) b f y q to)
  brought (serving.Control m) b f y q to = go (same_or_not b.0.number f)
    where
      number_is : {a e : ℕ} → events.Deliver a ≡ events.Deliver e → a ≡ e
      number_is z = cc

      go : (b.0.number ≡ f) ⊎ (b.0.number ≢ f) → (serving.Control m ≡ serving.Control y) ⊎ (x.event ≢ events.Deliver f)
      go (inl e) = inl (ap (λ z. serving.Control z) (delivered_is k c s gap d past x w ns more keeps m b.0 y (ap (λ z. numbered ms z) e ∙ q)))
      go (inr ne) = inr (λ e. ne (number_is (sym b.0.event ∙ e)))

  -- the client's session belongs to a life that was born
  born_after : (j : ServerInput) → BringsServer w x.event (server_node s) j →
      ((y : Session) → sessions.session_of n.sessions c ≡ Some y → 1 ≤ y.life.0) →
      (y : Session) → sessions.session_of (server_step n when j).state.sessions c ≡ Some y → 1 ≤ y.life.0
  born_after serving.Tick b born y e =
      born y (sym (ap (λ v. sessions.session_of v c) (tick_sessions n when) ∙ (spared c n when free).session) ∙ e)
  born_after (serving.Control m) b born y e = by (comes_from when m.header u v m.body c (does when m.header u m.body) y there)
    where
      u : ServerTurn
      u = thefts (turn n []) when

      v : ServerTurn
      v = sv.receive u when m.header m.body

      there : sessions.session_of v.state.sessions c ≡ Some y
      there = sym (ap (λ z. sessions.session_of z c) (step_sessions n when m)) ∙ e

      by : ComesFrom when m.header u v m.body c y → 1 ≤ y.life.0
      by (IsOlder z q l) =
          let a = born z (sym (spared c n when free).session ∙ q) in let f = ap (λ (i : Life). i.0) l in omega (arith, a, f)
      by (IsOf f l) =
          let a = born_in m (delivered_among k c s gap d past x w ns more keeps m b.0) (record { from = f; to = b.1 }) in omega (arith, a, l)

  module _ (a : Association) (since now : ℕ) (t : Talks k c s gap d read delay since past ms n now a)
      (numbers : Numbers (λ m. Has m ms) c s a.life.0 (view a.session))
      (asked_given : (z : ClientSession) (q : Request) → a.session ≡ Some z → z.requests.asked ≡ Some q → (ino : ℕ) (g : GrantNo) (to : Mode) →
      q.body ≡ bd.Released ino g to → g.0 ≤ given n)
      (after : ℕ) (next : TalksNext k c s gap d read delay since past2 ns i n2 after a t.last)
      (o : Answered c s read delay most past ms n a.life.0 t.last a.session since) where
    abbrev life : ℕ
    life = a.life.0

    abbrev epoch : ℕ
    epoch = n.stable.epoch.0

    born2 : (y : Session) → sessions.session_of n2.sessions c ≡ Some y → 1 ≤ y.life.0
    born2 = born_after i brings o.born

    served : (r : LockRow) → Has r n.locks.rows → r.client ≡ c → IsServed c s ms n.sessions life epoch t.last × (r.life.0 ≡ life)
    served = has_served c s ms n life t.last t.known o.first o.born known lives

    served2 : (r : LockRow) → Has r n2.locks.rows → r.client ≡ c → IsServed c s ns n2.sessions life n2.stable.epoch.0 next.known.last × (r.life.0 ≡ life)
    served2 = has_served c s ns n2 life next.known.last next.known.known o.first born2 known2 lives2

    -- A lock whose release is outstanding is there until it is served.
    module _ (z : ClientSession) (q : Request) (e : a.session ≡ Some z) (f : z.requests.asked ≡ Some q) (r : LockRow) (h : Has r n2.locks.rows)
        (own : r.client ≡ c) (body : q.body ≡ bd.Released r.ino r.g modes.None) where
      -- it isn't the message that the step served
      not_now : (p : LockRow) → Has p n.locks.rows → SameLock r p → (m : Message) → i ≡ serving.Control m →
          IsRequest (Comes c s ns) c life n2.stable.epoch.0 next.known.last m → next.known.last ≡ t.last + 1 → q.number ≡ t.last + 1 → ⊥
      not_now p j same m is req up number =
          released_gone when n known once lives off m (subst WishInput is wish) (subst (λ y. may_ack n.authority y ≡ true) (sym sender_is) free) is_for
          of_epoch fresh k0.session there (k0.of_life ∙ sym req.of_life) r.ino r.g says_it (asked_given z q e f r.ino r.g modes.None body) r
          (ap (λ (y : ClientId). y.0) own ∙ sym req.from) refl refl (subst (λ y. Has r (server_step n when y).state.locks.rows) is h)
        where
          k0 : IsServed c s ms n.sessions life epoch t.last
          k0 = (served p j (same.client ∙ own)).0

          delivers : BringsServer w x.event (server_node s) (serving.Control m)
          delivers = subst (BringsServer w x.event (server_node s)) is brings

          among : Has m ms
          among = delivered_among k c s gap d past x w ns more keeps m delivers.0

          sender_is : sv.sender m.header ≡ c
          sender_is = ap (λ y. client y) req.from

          of_epoch : m.header.epoch ≡ n.stable.epoch.0
          of_epoch = req.of_epoch ∙ ap (λ (y : Epoch). y.0) epoch_same

          there : sessions.session_of n.sessions (sv.sender m.header) ≡ Some k0.session
          there = ap (λ y. sessions.session_of n.sessions y) sender_is ∙ k0.is

          fresh : sessions.take n.sessions (sv.sender m.header) (sv.life_in m.header) (sv.epoch_in m.header) m.header.number ≡ takes.Fresh
          fresh =
              fresh_taken n.sessions m.header k0.session t.last k0.kept there k0.state (k0.of_life ∙ sym req.of_life)
              (of_epoch ∙ ap (λ (y : Epoch). y.0) (sym sepoch)) (req.under ∙ up)

          is_for : sv.is_for n m.header ≡ true
          is_for =
              and_both (m.header.to == server_node n.id) (sv.is_client_node m.header.from)
              (eq-eqb m.header.to (server_node n.id) (delivers.1 ∙ ap (λ (y : ServerId). server_node y) (sym id)))
              (and_both (Rattle.std.specs.Prelude.nat_le 1 m.header.from) (Rattle.std.specs.Prelude.nat_le m.header.from 16)
              (Rattle.std.proofs.lemmas.Bool.le-leb 1 m.header.from (let y = req.from in omega (arith, y, some)))
              (Rattle.std.proofs.lemmas.Bool.le-leb m.header.from 16 (let y = req.from in omega (arith, y, few))))

          says_it : m.body ≡ bd.Released r.ino r.g modes.None
          says_it =
              subst (λ (y : Option Request). SameBody y m) f
              ((subst (λ y. Placed life (view y) m) e (numbers.placed m among (req.from, delivers.1)) req.of_life (let y = req.under in omega (arith, y, up))).same
              (of_epoch ∙ sym (session_known k c s gap d read delay most past ms n now a since t z e).epoch_is)) (req.under ∙ up ∙ sym number) ∙ body

      unserved2 : next.known.last < q.number
      unserved2 = by (rows_after when n known once lives off i wish r h)
        where
          old : (p : LockRow) → Has p n.locks.rows → SameLock r p → t.last < q.number → (next.known.last ≡ t.last) ⊎
              ((m : Message) × (i ≡ serving.Control m) × (next.known.last ≡ t.last + 1) ×
              IsRequest (Comes c s ns) c life n2.stable.epoch.0 next.known.last m) → next.known.last < q.number
          old p j same l (inl y) = omega (arith, l, y)
          old p j same l (inr (m, is, up, req)) = go (nat_lt next.known.last q.number) refl
            where
              go : (b : Bool) → nat_lt next.known.last q.number ≡ b → next.known.last < q.number
              go true y = ltb-true next.known.last q.number y
              go false y = let v = ltb-false next.known.last q.number y in absurd (not_now p j same m is req up (omega (arith, v, up, l)))

          by : FromRow n.locks (given n) r → next.known.last < q.number
          by (IsNew l) = let g = asked_given z q e f r.ino r.g modes.None body in absurd (omega (arith, l, g))
          by (IsOld p j same) =
              old p j same
              (o.unserved z q e f p j (same.client ∙ own)
              (body ∙ ap (λ y. bd.Released y r.g modes.None) (sym same.ino) ∙ ap (λ (y : GrantNo). bd.Released p.ino y modes.None) (sym same.g))) next.moves

    -- Where an answer was, it is still, or it goes on.
    moved : (ino : ℕ) (g : GrantNo) (at : ℕ) → ((m : Message) → i ≡ serving.Control m → IsSeenOn c s life epoch ino g m → ⊥) →
        Answering c s read delay most past ms life epoch a.session since ino g at → Answering c s read delay most past2 ns life epoch a.session since ino g at
    moved ino g at none (IsComing f) =
        IsComing (fly k c s gap d past x w ns more keeps read delay (IsDemandOn c s life epoch ino g) (IsDemandOn c s life epoch ino g) at c.0 f (λ y. y)
        f.like.way.to deaf)
    moved ino g at none (IsSeen sent l f) = go (brought i brings f.number f.message f.there f.like.way.to)
      where
        go : (i ≡ serving.Control f.message) ⊎ (x.event ≢ events.Deliver f.number) →
            Answering c s read delay most past2 ns life epoch a.session since ino g at
        go (inl is) = absurd (none f.message is f.like)
        go (inr ne) =
            IsSeen sent l (flies_on read c s delay past x ms ns keeps (IsSeenOn c s life epoch ino g) (IsSeenOn c s life epoch ino g) sent f (λ y. y) ne)
    moved ino g at none (IsQueued z place e j l) = IsQueued z place e j l
    moved ino g at none (IsReleased z q e f b l) = IsReleased z q e f b l

    answers2 : (r : LockRow) (at : Stamp) → Has r n2.locks.rows → r.client ≡ c → asked_since r ≡ Some at →
        Answering c s read delay most past2 ns life epoch a.session since r.ino r.g at.0
    answers2 r at h own e =
        by (waits_or_sent when n known once lives i once2 r at h e (subst (λ y. may_ack n2.authority y ≡ true) (sym own) still))
      where
        by : SentNow n when (server_step n when i).out r at ⊎ WaitedBefore sv.is_client_node when n known once lives i r at →
            Answering c s read delay most past2 ns life epoch a.session since r.ino r.g at.0
        by (inl y) =
            let m : Message = record { header = sv.own_header n r.client r.life; body = bd.Demand r.ino r.g y.to } in
            let z = says m y.has in
            let from : m.header.from ≡ server_node s = ap (λ (v : ServerId). server_node v) id in
            let to : m.header.to ≡ c.0 = ap (λ (v : ClientId). v.0) own in
            let like : IsDemandOn c s life epoch r.ino r.g m = record {
              way = record { from = from; to = to };
              of_life = (served2 r h own).1;
              of_epoch = refl;
              stamp = refl;
              to = y.to;
              says = refl;
            } in
            IsComing
            (subst (Flying read c s delay past2 ns (IsDemandOn c s life epoch r.ino r.g)) (shows ∙ ap (λ (v : Stamp). v.0) (sym y.since))
            (takes_off read c s delay past x ns (IsDemandOn c s life epoch r.ino r.g) z.number m z.sent z.there
            (or_right _ _ (and_both (m.header.from == server_node s) (m.header.to == c.0) (eq-eqb m.header.from (server_node s) from)
            (eq-eqb m.header.to c.0 to))) like))
        by (inr y) =
            let p = y.asked.row in
            let mine : p.client ≡ c = y.asked.same.client ∙ own in
            subst (λ g. Answering c s read delay most past2 ns life epoch a.session since r.ino g at.0) y.asked.same.g
            (subst (λ ino. Answering c s read delay most past2 ns life epoch a.session since ino p.g at.0) y.asked.same.ino
            (moved p.ino p.g at.0 (λ m is q. heeded p y.asked.has mine y.asked.same m is q) (o.answers p at y.asked.has mine y.asked.since)))
          where
            heeded : (p : LockRow) → Has p n.locks.rows → p.client ≡ c → SameLock r p → (m : Message) → i ≡ serving.Control m →
                IsSeenOn c s life epoch p.ino p.g m → ⊥
            heeded p j mine same m is q =
                not_both (Heeds sv.is_client_node n r i)
                (ap (Heeds sv.is_client_node n r) is
                ∙ ap (λ (v : ClientId). Rattle.st_laws_waits.specs.Causes.heeds n v r.ino r.g m) own
                ∙ ap (λ v. Rattle.st_laws_waits.specs.Causes.heeds n c v r.g m) (sym same.ino)
                ∙ ap (λ (v : GrantNo). Rattle.st_laws_waits.specs.Causes.heeds n c p.ino v m) (sym same.g)
                ∙ seen_heeded c s ms n life t.last p.ino p.g some few id (served p j mine).0 m q) y.unheeded

    pub server_answers : Answered c s read delay most past2 ns n2 life next.known.last a.session since
    server_answers =
        record {
          first = o.first;
          born = born2;
          rests = o.rests;
          unserved = unserved2;
          answers = λ r at h own e. subst (λ (y : Epoch). Answering c s read delay most past2 ns life y.0 a.session since r.ino r.g at.0) (sym epoch_same)
              (answers2 r at h own e);
        }
