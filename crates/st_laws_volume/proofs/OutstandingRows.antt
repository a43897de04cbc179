-- A request of the present life of a client that runs is outstanding, or its server no longer
-- serves it. If it is outstanding, the requests before it were served; and while the client has an
-- exclusive lock under a lease that lasts, it has an exclusive row under the same grant.
use Rattle.st_lemmas.proofs.Words
use Words.{◌≡◌, ◌≢◌, ◌⊎◌, ℕ, zero, suc, ◌+◌, ◌-◌, ◌<◌, ◌≤◌, arith, Bool, true, false, List, Option, Some, None, refl, sym, ap, ◌∙◌, subst, inl, inr, ClientId, GrantNo, HeldLock, LockRow, Message, Mode, Request, ServerId, Session, SessionState}
use Words.modes
use Words.nodes
use Words.states
use Words.ClientLocks.{lock_of}
use Words.ClientState.{Association, ClientSession, reasserts}
use Words.History.{Traced}
use Words.Lists.{Has}
use Words.Locks.{row_of}
use Words.Safety.{Step}
use Words.Server.{ServerNode}
use Words.Sessions as sessions
use Words.Tables.{same_or_not}
use Words.Truth.{below_or_not, clash, exclusive_covers}
use Words.World.{World, WorldClient, clock_of, node_of}
use Rattle.st_base.specs.Mode.{covers, number_of}
use Rattle.st_protocol.specs.Assoc as net
use Rattle.st_protocol.proofs.Claims.{not_lost}
use Rattle.st_protocol.proofs.Exact.{held_exact}
use Rattle.st_protocol.proofs.Invariant.{Invariant}
use Rattle.st_protocol.proofs.Locks.{Covered, Lost}
use Rattle.st_protocol.proofs.World.{invariant}
use Rattle.st_laws_pages.specs.LockedCuts.CutLocks.{WaitsHold}
use Rattle.st_laws_refine.specs.Client.Invariants.{Lasts}
use Rattle.st_laws_refine.specs.Server.Invariants.{pairs}
use Rattle.st_laws_refine.specs.Server.Pair.{client_in}
use Rattle.st_laws_refine.specs.Views.Halves.{client_of, due_in, epoch_in, held_at, held_in, leased_in, life_view, row_or, row_view}
use Rattle.st_laws_leases.specs.Dates.Dates.{messages}
use Rattle.st_laws_reads.specs.AllClients.Law.{Running}
use Rattle.st_laws_reads.proofs.AllClients.Alone.{living}
use Rattle.st_laws_requests.specs.Cuts.Cuts.{Between, Numbered, Numbers, SameBody}
use Rattle.st_laws_requests.specs.Cuts.Cuts as cuts
use Rattle.st_laws_requests.specs.Replies.ServedRequests.{IsBehind, Reached}
use Rattle.st_laws_extents.specs.CutRequests.Asks.{AsksStand, Of, first_open, open_from}
use Rattle.st_laws_extents.specs.CutRequests.EndedLives.{IsPast}
use Rattle.st_laws_extents.specs.CutRequests.Law.{gifts}
use Rattle.st_laws_extents.specs.CutRequests.World.{IsServed}
use Rattle.st_laws_extents.proofs.CutRequests.EndedLives.{behind_less}
use Rattle.st_laws_extents.proofs.CutRequests.Law.{Hold}
use Rattle.st_laws_extents.proofs.CutRequests.Standing.{whole}
use Rattle.st_laws_cuts.specs.EndedRequests.{AllPast}
use Rattle.st_laws_volume.proofs.EarlierRequests.{earlier}
use Rattle.st_laws_volume.proofs.RowsOn.{HasRowUnder}
use Rattle.st_laws_volume.proofs.RowsStay.{RowStands}

-- a message is the outstanding request of an association's session
pub record IsOutstanding (a : Association) (m : Message) : Type 0 where
  pub session : ClientSession
  pub has : a.session ≡ Some session
  pub request : Request
  pub asked : session.requests.asked ≡ Some request
  pub epoch : m.header.epoch ≡ session.epoch.0
  pub number : m.header.number ≡ request.number
  pub body : m.body ≡ request.body

reached_none : (x : SessionState) → Reached 0 x
reached_none (states.Live last reply) = omega arith
reached_none states.Ended = tt

-- a mode of an exclusive row
exclusive_is : (mode : Mode) → 2 ≤ number_of mode → mode ≡ modes.X
exclusive_is modes.None l = absurd (omega (arith, l))
exclusive_is modes.S l = absurd (omega (arith, l))
exclusive_is modes.X l = refl

module _ (k : net.Config) (count : ℕ) (past : List Step) (t : Traced) (h : Hold k count past t)
    (c : ClientId) (site : WorldClient)
    (run : Running t.world c.0 site) (a : Association) (i : Has a site.node.state.associations)
  where
    abbrev w : World
    w = t.world

    -- its session
    module _ (x : ClientSession) (sess : a.session ≡ Some x) where
      stands : AsksStand (IsServed w c) (gifts k count w h.all c) a.server a.life.0 x.epoch.0
          x.requests x.cutting x.due
      stands = subst (Of (AsksStand (IsServed w c) (gifts k count w h.all c)) a.server a.life.0)
          sess
          (h.asks c site run.there a i)

      module _ (node : ServerNode) (at : node_of w a.server ≡ Some node) where
        abbrev u : net.World
        u = pairs a.server.0 (h.all.servers a.server.0 node at).ended w node
            (h.all.servers a.server.0 node at).ghosts

        inv : Invariant k (u.at c.0)
        inv = invariant k u h.all.sound (h.all.servers a.server.0 node at).both.stands.reached c.0

        own : client_in w c.0 a.server.0 ((h.all.servers a.server.0 node at).ended c.0) ≡
            client_of ((h.all.servers a.server.0 node at).ended c.0) (clock_of w (nodes.Client c)).0
            a
        own = whole k count w h.all a.server.0 node at c.0 site run a i refl

        same_epoch :
            (client_in w c.0 a.server.0 ((h.all.servers a.server.0 node at).ended c.0)).epoch
            ≡ x.epoch.0
        same_epoch = ap (λ (d : net.Client). d.epoch) own ∙ ap epoch_in sess

        same_life : (client_in w c.0 a.server.0 ((h.all.servers a.server.0 node at).ended c.0)).life
            ≡
            a.life.0
        same_life = ap (λ (d : net.Client). d.life) own

        ahead : x.epoch.0 ≤ node.state.stable.epoch.0
        ahead = let l = inv.timing_.ahead in let y = same_epoch in omega (arith, l, y)

        joined : x.due ≡ false → node.running ≡ true → x.epoch.0 ≡ node.state.stable.epoch.0 →
            a.life.0 ≤ life_view (sessions.session_of node.state.sessions c)
        joined due r g =
            let l =
            inv.locks_.joined r (same_epoch ∙ g)
            (ap (λ (d : net.Client). d.leased) own ∙ ap leased_in sess)
            (ap (λ (d : net.Client). d.due) own ∙ (ap due_in sess ∙ due)) in
            let y = same_life in omega (arith, l, y)

        born : 1 ≤ a.life.0
        born = let l = inv.locks_.born in let y = same_life in omega (arith, l, y)

      -- a request of an earlier epoch, or under a number that was ended
      module _ (m : Message) (n : Numbered x.epoch.0 x.requests m) (life : m.header.life ≡ a.life.0)
          (pos : 1 ≤ m.header.number) where
        of_epoch : m.header.epoch ≢ x.epoch.0 → AllPast w c a.server m
        of_epoch ne node at =
            inl (let y = n.up_to in let z = ahead node at in omega (arith, y, z, ne))

        under : m.header.epoch ≡ x.epoch.0 → m.header.number < first_open x.requests →
            AllPast w c a.server m
        under e l node at = go (same_or_not x.epoch.0 node.state.stable.epoch.0)
          where
            go : (x.epoch.0 ≡ node.state.stable.epoch.0) ⊎ (x.epoch.0 ≢ node.state.stable.epoch.0) →
                IsPast c node m
            go (inr ne) = inl (let z = ahead node at in omega (arith, z, ne, e))
            go (inl q) =
                inr (
                  e ∙ q,
                  λ r. subst
                      (λ l. IsBehind (sessions.session_of node.state.sessions c) l m.header.number)
                      (sym life) (by (first_open x.requests) refl r),
                )
              where
                by : (f : ℕ) → first_open x.requests ≡ f → node.running ≡ true →
                    IsBehind (sessions.session_of node.state.sessions c) a.life.0 m.header.number
                by zero f r = absurd (omega (arith, f, l))
                by (suc j) f r =
                    behind_less (sessions.session_of node.state.sessions c) a.life.0 j
                    m.header.number
                    (omega (arith, f, l))
                    ((stands.served node at j (omega (arith, f, l, pos)) (omega (arith, f))).behind
                    r
                    q)

        last : m.header.epoch ≡ x.epoch.0 → first_open x.requests ≤ m.header.number →
            (o : Option Request) → x.requests.asked ≡ o → IsOutstanding a m
        last e l None asked =
            absurd (let y = n.below e in
            let z = subst (λ o. open_from x.requests.next o ≤ m.header.number) asked l in
            omega (arith, y, z))
        last e l (Some q) asked =
            record {
              session = x;
              has = sess;
              request = q;
              asked = asked;
              epoch = e;
              number = number;
              body = subst (λ o. SameBody o m) asked (n.same e) number;
            }
          where
            number : m.header.number ≡ q.number
            number =
                let y = n.below e in
                let z = subst (λ o. open_from x.requests.next o ≤ m.header.number) asked l in
                let s = stands.last q asked in omega (arith, y, z, s)

        in_session : AllPast w c a.server m ⊎ IsOutstanding a m
        in_session = go (same_or_not m.header.epoch x.epoch.0)
          where
            by : m.header.epoch ≡ x.epoch.0 →
                (m.header.number < first_open x.requests) ⊎
                (first_open x.requests ≤ m.header.number) →
                AllPast w c a.server m ⊎ IsOutstanding a m
            by e (inl l) = inl (under e l)
            by e (inr l) = inr (last e l x.requests.asked refl)

            go : (m.header.epoch ≡ x.epoch.0) ⊎ (m.header.epoch ≢ x.epoch.0) →
                AllPast w c a.server m ⊎ IsOutstanding a m
            go (inl e) = by e (below_or_not m.header.number (first_open x.requests))
            go (inr ne) = inl (of_epoch ne)

    pub outstanding : (m : Message) → Has m (messages w) → Between c a.server m →
        m.header.life ≡ a.life.0 → 1 ≤ m.header.number →
        AllPast w c a.server m ⊎ IsOutstanding a m
    outstanding m among between life pos = by a.session refl
      where
        numbers : Numbers (λ m. Has m (messages w)) c a.server a.life.0 (cuts.view a.session)
        numbers = ((h.cuts.clients c site run.there).all run.runs a i).numbers

        by : (o : Option ClientSession) → a.session ≡ o → AllPast w c a.server m ⊎ IsOutstanding a m
        by None e =
            let z = (subst
            (λ o. Numbers (λ m. Has m (messages w)) c a.server a.life.0 (cuts.view o))
            e numbers).placed m among between life in
            absurd (omega (arith, z, pos))
        by (Some x) e =
            in_session x e m
            ((subst (λ o. Numbers (λ m. Has m (messages w)) c a.server a.life.0 (cuts.view o)) e
            numbers).placed m among between life pos) life pos

    -- An outstanding request that reasserts nothing.
    module _ (m : Message) (life : m.header.life ≡ a.life.0) (pos : 1 ≤ m.header.number)
        (o : IsOutstanding a m) (plain : reasserts m.body ≡ false) where
      abbrev x : ClientSession
      x = o.session

      due : x.due ≡ false
      due = go x.due refl
        where
          go : (b : Bool) → x.due ≡ b → b ≡ false
          go false d = refl
          go true d = clash ((stands o.session o.has).first.only o.request o.asked d)
              (ap reasserts (sym o.body) ∙ plain)

      pub served_before : AllPast w c a.server (earlier m)
      served_before node at = go (same_or_not x.epoch.0 node.state.stable.epoch.0)
        where
          begun : node.running ≡ true → x.epoch.0 ≡ node.state.stable.epoch.0 →
              (s : Option Session) →
              sessions.session_of node.state.sessions c ≡ s →
              IsBehind s a.life.0 0
          begun r g s is = by s is (joined o.session o.has node at due r g)
              (born o.session o.has node at)
            where
              by : (s : Option Session) → sessions.session_of node.state.sessions c ≡ s →
                  a.life.0 ≤ life_view (sessions.session_of node.state.sessions c) →
                  1 ≤ a.life.0 → IsBehind s a.life.0 0
              by None is l b = let y = ap life_view is in absurd (omega (arith, l, b, y))
              by (Some z) is l b = which (below_or_not a.life.0 z.life.0)
                where
                  which : (a.life.0 < z.life.0) ⊎ (z.life.0 ≤ a.life.0) →
                      (a.life.0 < z.life.0) ⊎ ((a.life.0 ≡ z.life.0) × Reached 0 z.state)
                  which (inl u) = inl u
                  which (inr u) = inr
                      ((let y = ap life_view is in omega (arith, u, l, y)), reached_none z.state)

          behind : node.running ≡ true → x.epoch.0 ≡ node.state.stable.epoch.0 → (n : ℕ) →
              m.header.number - 1 ≡ n →
              IsBehind (sessions.session_of node.state.sessions c) a.life.0 n
          behind r g zero d = begun r g (sessions.session_of node.state.sessions c) refl
          behind r g (suc j) d =
              ((stands o.session o.has).served node at (suc j) (omega arith)
              (subst (λ q. suc j + 1 ≡ open_from x.requests.next q) (sym o.asked)
              (let e = o.number in omega (arith, d, pos, e)))).behind r g

          go : (x.epoch.0 ≡ node.state.stable.epoch.0) ⊎ (x.epoch.0 ≢ node.state.stable.epoch.0) →
              IsPast c node (earlier m)
          go (inr n) =
              inl (let l = ahead o.session o.has node at in let e = o.epoch in
              omega (arith, l, n, e))
          go (inl g) =
              inr (
                o.epoch ∙ g,
                λ r. subst
                    (λ l. IsBehind (sessions.session_of node.state.sessions c) l
                    (m.header.number - 1)) (sym life)
                    (behind r g (m.header.number - 1) refl),
              )

      -- Under an exclusive lock and a lease that lasts.
      module _ (waits : WaitsHold w) (ino : ℕ) (l : HeldLock) (held : lock_of x.locks ino ≡ Some l)
          (exclusive : covers l.mode modes.X ≡ true)
          (lasts : Lasts site.node.state.config.lease (clock_of w (nodes.Client c)).0 a.session)
        where
          -- the grant of the lock
          abbrev pub Under : GrantNo → Type 0
          Under g = g.0 ≡ l.g.0

          module _ (node : ServerNode) (at : node_of w a.server ≡ Some node)
              (r : node.running ≡ true)
              (g : x.epoch.0 ≡ node.state.stable.epoch.0) where
            two : 2 ≤ (held_in a.session ino).mode
            two =
                let q : (held_in a.session ino).mode ≡ 2 =
                ap (λ s. (held_in s ino).mode) o.has ∙
                (ap (λ y. (held_at y).mode) held ∙ ap number_of (exclusive_covers l.mode exclusive))
                in
                omega (arith, q)

            alive : net.Alive k
                (client_in w c.0 a.server.0 ((h.all.servers a.server.0 node at).ended c.0))
            alive = (living k count w h.all a.server.0 node at c.0 site run a i refl lasts
                (ap leased_in o.has)).alive

            high : 2 ≤
                ((client_in w c.0 a.server.0 ((h.all.servers a.server.0 node at).ended c.0)).held
                ino).mode
            high =
                let q = (living k count w h.all a.server.0 node at c.0 site run a i refl lasts
                (ap leased_in o.has)).mode ino in
                let z = two in omega (arith, q, z)

            -- the session of this life
            its : life_view (sessions.session_of node.state.sessions c) ≡ a.life.0 →
                2 ≤ (row_or (row_view (row_of node.state.locks c ino))).mode
            its e =
                let v : Invariant k ((u o.session o.has node at).at c.0) =
                inv o.session o.has node at in
                by v
                (v.locks_.held r (same_epoch o.session o.has node at ∙ g)
                (e ∙ sym (same_life o.session o.has node at)) ino
                (let z = high in omega (arith, z)))
              where
                by : Invariant k ((u o.session o.has node at).at c.0) →
                    Covered ((u o.session o.has node at).at c.0).c.life
                    (((u o.session o.has node at).at c.0).s.row ino)
                    (((u o.session o.has node at).at c.0).c.held ino).g
                    (((u o.session o.has node at).at c.0).c.held ino).mode
                    ⊎ Lost k ((u o.session o.has node at).at c.0) →
                    2 ≤ (row_or (row_view (row_of node.state.locks c ino))).mode
                by v (inl z) = let y = z.high in let q = high in omega (arith, y, q)
                by v (inr z) =
                    absurd (not_lost k ((u o.session o.has node at).at c.0) v.timing_ alive z)

            -- the grant of its row is that of the lock
            its_grant : life_view (sessions.session_of node.state.sessions c) ≡ a.life.0 →
                (row_or (row_view (row_of node.state.locks c ino))).g ≡ l.g.0
            its_grant e =
                let v : Invariant k ((u o.session o.has node at).at c.0) =
                inv o.session o.has node at in
                let p : (held_in a.session ino).g ≡ l.g.0 =
                ap (λ s. (held_in s ino).g) o.has ∙ ap (λ y. (held_at y).g) held in
                sym
                (held_exact k ((u o.session o.has node at).at c.0) v.timing_ v.locks_ v.exact_
                (record {
                  up = r;
                  epoch = same_epoch o.session o.has node at ∙ g;
                  session = e ∙ sym (same_life o.session o.has node at);
                })
                alive ino high)
                ∙ (ap (λ (d : net.Client). (d.held ino).g) (own o.session o.has node at) ∙ p)

            row : 2 ≤ (row_or (row_view (row_of node.state.locks c ino))).mode →
                (row_or (row_view (row_of node.state.locks c ino))).g ≡ l.g.0 →
                RowStands Under c ino node.state.locks
            row z f = go (row_of node.state.locks c ino) refl z f
              where
                go : (y : Option LockRow) → row_of node.state.locks c ino ≡ y →
                    2 ≤ (row_or (row_view y)).mode → (row_or (row_view y)).g ≡ l.g.0 →
                    RowStands Under c ino node.state.locks
                go None q n f = absurd (omega (arith, n))
                go (Some y) q n f =
                    record {
                      row = y;
                      is = q;
                      exclusive = exclusive_is y.mode n;
                      under = f;
                      unwaited =
                          λ v j d f. (waits a.server node at).waits v j y
                          (subst (λ (e : ClientId). row_of node.state.locks e v.ino ≡ Some y)
                          (sym d)
                          (subst (λ e. row_of node.state.locks c e ≡ Some y) (sym f) q))
                          (exclusive_is y.mode n);
                    }

          pub its_row : AllPast w c a.server m ⊎ HasRowUnder Under w c a.server ino
          its_row = which (node_of w a.server) refl
            where
              none_some : (node : ServerNode) → ◌≡◌ {A = Option ServerNode} None (Some node) → ⊥
              none_some node e = cc

              -- the server runs, in this epoch
              present : (node : ServerNode) → node_of w a.server ≡ Some node → node.running ≡ true →
                  x.epoch.0 ≡ node.state.stable.epoch.0 →
                  IsPast c node m ⊎ RowStands Under c ino node.state.locks
              present node at r g = go
                  (below_or_not a.life.0 (life_view (sessions.session_of node.state.sessions c)))
                where
                  later : (s : Option Session) → a.life.0 < life_view s →
                      IsBehind s a.life.0 m.header.number
                  later None l = absurd (omega (arith, l))
                  later (Some s) l = inl l

                  go : (a.life.0 < life_view (sessions.session_of node.state.sessions c)) ⊎
                      (life_view (sessions.session_of node.state.sessions c) ≤ a.life.0) →
                      IsPast c node m ⊎ RowStands Under c ino node.state.locks
                  go (inl l) =
                      inl (inr (
                        o.epoch ∙ g,
                        λ y. subst
                            (λ n. IsBehind (sessions.session_of node.state.sessions c) n
                            m.header.number) (sym life)
                            (later (sessions.session_of node.state.sessions c) l),
                      ))
                  go (inr l) =
                      inr (row node at r g (its node at r g same) (its_grant node at r g same))
                    where
                      same : life_view (sessions.session_of node.state.sessions c) ≡ a.life.0
                      same = let j = joined o.session o.has node at due r g in omega (arith, l, j)

              off : {A : Type 0} → false ≡ true → A
              off e = cc

              one : (node : ServerNode) → node_of w a.server ≡ Some node →
                  IsPast c node m ⊎ RowStands Under c ino node.state.locks
              one node at = go node.running refl (same_or_not x.epoch.0 node.state.stable.epoch.0)
                where
                  go : (b : Bool) → node.running ≡ b →
                      (x.epoch.0 ≡ node.state.stable.epoch.0) ⊎
                      (x.epoch.0 ≢ node.state.stable.epoch.0) →
                      IsPast c node m ⊎ RowStands Under c ino node.state.locks
                  go b r (inr n) = inl
                      (inl (let l = ahead o.session o.has node at in let e = o.epoch in
                      omega (arith, l, n, e)))
                  go true r (inl g) = present node at r g
                  go false r (inl g) = inl (inr (o.epoch ∙ g, λ y. off (sym r ∙ y)))

              which : (n : Option ServerNode) → node_of w a.server ≡ n →
                  AllPast w c a.server m ⊎ HasRowUnder Under w c a.server ino
              which None q = inl (λ node at. absurd (none_some node (sym q ∙ at)))
              which (Some node) q = by (one node q)
                where
                  by : IsPast c node m ⊎ RowStands Under c ino node.state.locks →
                      AllPast w c a.server m ⊎ HasRowUnder Under w c a.server ino
                  by (inl p) =
                      inl (λ y at. subst (λ (z : ServerNode). IsPast c z m)
                      (Words.Lookups.some_is (sym q ∙ at)) p)
                  by (inr p) =
                      inr (λ y at. subst (λ (z : ServerNode). RowStands Under c ino z.state.locks)
                      (Words.Lookups.some_is (sym q ∙ at)) p)
