-- No conflict is sent: at a step of a server, from what holds of all its clients.
use Rattle.st_lemmas.proofs.Words
use Words.{◌≡◌, ℕ, ◌+◌, ◌<◌, ◌≤◌, Bool, true, false, not, List, [], ◌∷◌, ◌==◌, refl, sym, ap, ◌∙◌, subst, inl, inr, arith, find, filter, map, cond, Option}
use Words.{Some, None, option_map, Result as Res, Err, eqb-true, eq-eqb, ltb-true, ClientId, GrantNo, Stamp, Mode, Message, AcceptRefusal, ServerInput, LockRow}
use Words.{Waiter, Session}
use Words.nodes
use Words.modes
use Words.bodies as bd
use Words.serving.{Tick, Control}
use Words.Keys.{client, least}
use Words.Locks.{Locks, is_row_by, is_row_of, row_of, stands_against, client_of_row, ino_of_row, holder_against, conflict_or, first_conflict, install}
use Words.Locks.{install_at}
use Words.Sessions as sessions
use Words.Sessions.{session_of}
use Words.Authority as authority
use Words.Grace as grace
use Words.Grace.{accept, accept_rows, accept_earlier, accept_own, accept_installed, is_row_below, own_older}
use Words.Server.{ServerState, ServerNode, ServerTurn, turn, with_authority, sender, life_in, is_client_node, steal_at, steal_from, steal, steal_each, thefts}
use Words.Server.{refused_reassertion}
use Words.World.{World, clock_of, server}
use Words.Safety.{is_conflict}
use Words.Lists.{Has}
use Words.Tables.{and_true, and_both, has_filter, has_map, none_has, not_true}
use Rattle.st_base.specs.Mode.{number_of, conflicts}
use Rattle.st_rules.specs.declared.authority.AcceptRefusal.TheVariants as refusals
use Rattle.st_protocol.specs.Assoc as net
use Rattle.st_protocol.specs.Assoc.{Config, ConfigOk, In, msg}
use Rattle.st_protocol.proofs.Invariant.{Invariant}
use Rattle.st_protocol.proofs.Lives.{first_in_grace}
use Rattle.st_protocol.proofs.World.{invariant, no_conflict}
use Rattle.st_laws_refine.specs.Views.Messages.{lock_in_row, lock_in, shown, Shows, epoch_shown, Wishes, Received}
use Rattle.st_laws_refine.specs.Views.Halves.{Ghost, life_view, live_view, row_view, row_or}
use Rattle.st_lemmas.proofs.Keys.{least_some}
use Rattle.st_laws_refine.specs.Server.View.{at, RowOk, NotEnded, ServesLife, Sound}
use Rattle.st_laws_refine.specs.Server.Pair.{client_in}
use Rattle.st_laws_refine.specs.Server.Invariants.{pairs, Stands}
use Rattle.st_laws_refine.specs.Server.Edits.{InGrace}
use Rattle.st_laws_refine.proofs.Server.Delivery.{sound_of, pair_runs}
use Rattle.st_laws_refine.proofs.Server.Late.{timer_over}
use Rattle.st_laws_refine.proofs.Server.Reasserting.{lower}
use Rattle.st_laws_refine.proofs.Server.OneRow.{OnceEach, row_found, alone}
use Rattle.st_laws_refine.proofs.Server.Calm.{Reassertions}
use Rattle.st_laws_refine.proofs.Server.Thefts.{within}

-- thefts leave grace as it was
steal_grace : (t : ServerTurn) (c : ClientId) (o : Option Session) → (steal_at t c o).state.grace ≡ t.state.grace
unfolding steal_at steal_from
steal_grace t c None = refl
steal_grace t c (Some s) = refl

steals_grace : (cs : List ClientId) (t : ServerTurn) → (steal_each cs t).state.grace ≡ t.state.grace
unfolding steal_each steal
steals_grace [] t = refl
steals_grace (c ∷ cs) t = steals_grace cs (steal t c) ∙ steal_grace t c (session_of t.state.sessions c)

thefts_grace : (n : ServerState) (now : Stamp) → (thefts (turn n []) now).state.grace ≡ n.grace
unfolding thefts
thefts_grace n now = steals_grace (authority.over n.authority now) _

-- if no timer is over, nothing is stolen
no_thefts : (n : ServerState) (now : Stamp) → authority.over n.authority now ≡ [] → thefts (turn n []) now ≡ with_authority (authority.still_running n.authority now) (turn n [])
unfolding thefts steal_each
no_thefts n now e = ap (λ cs. steal_each cs (with_authority (authority.still_running n.authority now) (turn n []))) e

-- rows that conflict
sum_of : (m n : Mode) → conflicts m n ≡ true → 3 ≤ number_of m + number_of n
sum_of modes.None modes.None e = cc
sum_of modes.None modes.S e = cc
sum_of modes.None modes.X e = cc
sum_of modes.S modes.None e = cc
sum_of modes.S modes.S e = cc
sum_of modes.S modes.X e = omega arith
sum_of modes.X modes.None e = cc
sum_of modes.X modes.S e = omega arith
sum_of modes.X modes.X e = omega arith

-- the first conflict is of a row that was reasserted and of another client's row
pub record Against (l : Locks) (c : ClientId) (rows : List (ℕ × GrantNo × Mode)) : Type 0 where
  pub row : ℕ × GrantNo × Mode
  pub here : Has row rows
  pub other : LockRow
  pub there : Has other l.rows
  pub stands : stands_against c row.0 row.2 other ≡ true

holder_is : (l : Locks) (c : ClientId) (ino : ℕ) (mode : Mode) (d : ClientId) → holder_against l c ino mode ≡ Some d → (r : LockRow) × Has r l.rows × (stands_against c ino mode r ≡ true)
holder_is l c ino mode d e = go (least (map client_of_row (filter (stands_against c ino mode) l.rows))) refl e
  where
    go : (o : Option ℕ) → least (map client_of_row (filter (stands_against c ino mode) l.rows)) ≡ o → option_map client o ≡ Some d → (r : LockRow) × Has r l.rows × (stands_against c ino mode r ≡ true)
    go None f e = cc
    go (Some x) f e =
        let m = has_map client_of_row (filter (stands_against c ino mode) l.rows) x (least_some _ x f) in
        let h = has_filter (stands_against c ino mode) l.rows m.0 m.1 in (m.0, h.0, h.1)

against : (l : Locks) (c : ClientId) (rows : List (ℕ × GrantNo × Mode)) (x : ℕ × ClientId) → first_conflict l c rows ≡ Some x → Against l c rows
unfolding first_conflict conflict_or
against l c [] x e = cc
against l c (r ∷ rows) x e = go (holder_against l c r.0 r.2) refl e (λ f. against l c rows x f)
  where
    more : Against l c rows → Against l c (r ∷ rows)
    more a = record { row = a.row; here = inr a.here; other = a.other; there = a.there; stands = a.stands }

    go : (o : Option ClientId) → holder_against l c r.0 r.2 ≡ o → conflict_or (first_conflict l c rows) r.0 o ≡ Some x → (first_conflict l c rows ≡ Some x → Against l c rows) → Against l c (r ∷ rows)
    go None f e k = more (k e)
    go (Some d) f e k = let h = holder_is l c r.0 r.2 d f in record { row = r; here = inl refl; other = h.0; there = h.1; stands = h.2 }

-- why a reassertion is refused in grace
pub data WhyRefused (l : Locks) (c : ClientId) (life : ℕ) (rows : List (ℕ × GrantNo × Mode)) (r : AcceptRefusal) : Type 0 where
  Calmly : is_conflict (refused_reassertion r) ≡ false → WhyRefused l c life rows r
  ByOwn : (x : LockRow) → Has x l.rows → x.client.0 ≡ c.0 → x.life.0 < life → WhyRefused l c life rows r
  ByOther : Against l c rows → WhyRefused l c life rows r

why : (g : Option grace.Grace) (now : Stamp) (l : Locks) (t : sessions.Sessions) (c : ClientId) (life : ℕ) (rows : List (ℕ × GrantNo × Mode)) (r : AcceptRefusal) → grace.is_on g now ≡ true →
    accept g now c (record { 0 = life }) rows l t ≡ Err r → WhyRefused l c life rows r
unfolding accept accept_rows accept_earlier accept_own accept_installed install install_at
why g now l t c life rows r on e = earlier (find (grace.is_new_grant l) rows) (sym (on_is (grace.is_on g now) on) ∙ e)
  where
    on_is : (b : Bool) → b ≡ true → cond b (accept_rows l t c (record { 0 = life }) rows) (Err (refusals.GraceOver (grace.grace_start g) now)) ≡ accept_rows l t c (record { 0 = life }) rows
    on_is true e = refl
    on_is false e = cc

    free : (o : Option (ℕ × ClientId)) → first_conflict l c rows ≡ o → accept_installed t c (record { 0 = life }) (install_at l c (record { 0 = life }) rows o) ≡ Err r → WhyRefused l c life rows r
    free None f e = cc
    free (Some x) f e = ByOther (against l c rows x f)

    own : (o : Option ℕ) → own_older l c (record { 0 = life }) ≡ o → accept_own l t c (record { 0 = life }) rows o ≡ Err r → WhyRefused l c life rows r
    own None f e = free (first_conflict l c rows) refl e
    own (Some x) f e =
        let m = has_map ino_of_row (filter (is_row_below c (record { 0 = life })) l.rows) x (least_some _ x f) in
        let h = has_filter (is_row_below c (record { 0 = life })) l.rows m.0 m.1 in
        let z = and_true (is_row_by c m.0) _ h.1 in ByOwn m.0 h.0 (eqb-true _ _ z.0) (ltb-true _ _ z.1)

    earlier : (o : Option (ℕ × GrantNo × Mode)) → accept_earlier l t c (record { 0 = life }) rows o ≡ Err r → WhyRefused l c life rows r
    earlier None e = own (own_older l c (record { 0 = life })) refl e
    earlier (Some x) e = Calmly (ap (λ (r : AcceptRefusal). is_conflict (refused_reassertion r)) (refusal_is r e))
      where
        refusal_is : (r : AcceptRefusal) → ◌≡◌ {A = Res grace.Accepted AcceptRefusal} (Err (refusals.NotHolder x.0 x.1)) (Err r) → r ≡ refusals.NotHolder x.0 x.1
        refusal_is r e = cc

module _ (k : Config) (s : ℕ) (ended : ℕ → ℕ → ℕ) (w : World) (node : ServerNode) (G : ℕ → Ghost) (ok : ConfigOk k) (runs : node.running ≡ true) (st : Stands k s ended w node G)
    (m : Message) (received : is_client_node m.header.from ≡ true → Received m.header m.body (G m.header.from).net) where
  abbrev N : ServerState
  N = node.state

  abbrev Now : Stamp
  Now = clock_of w (nodes.Server (server s))

  sound : (c : ℕ) → Sound c k.wait Now N (G c)
  sound c = sound_of c k.wait Now node.running N (G c) runs (st.served c).stands

  inv : (c : ℕ) → Invariant k (at (client_in w c s (ended c)) (client c) Now N (G c))
  inv c = subst (Invariant k) (pair_runs k c s (ended c) w node (G c) runs) (invariant k (pairs s ended w node G) ok st.reached c)

  on_before : (t : ServerTurn) (rows : List (ℕ × GrantNo × Mode)) → InGrace N Now t m rows → grace.is_on N.grace Now ≡ true
  on_before t rows g = ap (λ g. grace.is_on g Now) (sym (thefts_grace N Now) ∙ ap (λ (t : ServerTurn). t.state.grace) (sym g.first)) ∙ g.on

  empty : (cs : List ClientId) → ((c : ClientId) → Has c cs → ⊥) → cs ≡ []
  empty [] h = refl
  empty (c ∷ cs) h = absurd (h c (inl refl))

  nothing_over : grace.is_on N.grace Now ≡ true → authority.over N.authority Now ≡ []
  nothing_over on = empty _ (λ c h. let so = sound c.0 in let o = timer_over k (client_in w c.0 s (ended c.0)) c.0 Now N (G c.0) so c h refl in
      let a = so.timer o.0 in let b = within k.wait Now N.grace (G c.0).gstart so.gstart on in let d = o.1 in absurd (omega arith))

  -- the state in which the reassertion is met
  met : (t : ServerTurn) (rows : List (ℕ × GrantNo × Mode)) → InGrace N Now t m rows → t ≡ with_authority (authority.still_running N.authority Now) (turn N [])
  met t rows g = g.first ∙ no_thefts N Now (nothing_over (on_before t rows g))

  locks_met : (t : ServerTurn) (rows : List (ℕ × GrantNo × Mode)) → InGrace N Now t m rows → t.state.locks ≡ N.locks
  locks_met t rows g = ap (λ (t : ServerTurn). t.state.locks) (met t rows g)

  wishes : (t : ServerTurn) (rows : List (ℕ × GrantNo × Mode)) → InGrace N Now t m rows → Wishes (bd.Reassert rows)
  wishes t rows g = subst Wishes g.body (received g.from).wishes

  in_net : (t : ServerTurn) (rows : List (ℕ × GrantNo × Mode)) → InGrace N Now t m rows → In (msg m.header.life N.stable.epoch.0 m.header.stamp (net.Reassert (λ i. lock_in rows i))) (G m.header.from).net
  in_net t rows g =
      let sh = subst (λ b. Shows m.header.life (epoch_shown b m.header.epoch) m.header.stamp (shown m.header.number b) (G m.header.from).net) g.body (received g.from).shows in
      subst (λ e. In (msg m.header.life e m.header.stamp (net.Reassert (λ i. lock_in rows i))) (G m.header.from).net) (g.epoch ∙ ap (λ (t : ServerTurn). t.state.stable.epoch.0) (met t rows g)) sh.rest.one

  -- in grace a client that reasserts anew has no session
  no_session : (t : ServerTurn) (rows : List (ℕ × GrantNo × Mode)) → InGrace N Now t m rows → session_of N.sessions (client m.header.from) ≡ None
  no_session t rows g = go (session_of N.sessions (client m.header.from)) refl (so.graced on)
    where
      so : Sound m.header.from k.wait Now N (G m.header.from)
      so = sound m.header.from

      on : grace.is_on N.grace Now ≡ true
      on = on_before t rows g

      new : sessions.knows N.sessions (sender m.header) (life_in m.header) ≡ false
      new = ap (λ (t : ServerTurn). sessions.knows t.state.sessions (sender m.header) (life_in m.header)) (sym (met t rows g)) ∙ g.new

      lt : life_view (session_of N.sessions (client m.header.from)) < m.header.life
      lt = lower k (client_in w m.header.from s (ended m.header.from)) Now (session_of N.sessions (client m.header.from)) (life_in m.header) new (so.graced on) (received g.from).born

      zero : life_view (session_of N.sessions (client m.header.from)) ≡ 0
      zero = first_in_grace k (at (client_in w m.header.from s (ended m.header.from)) (client m.header.from) Now N (G m.header.from)) (inv m.header.from).lives_ refl on m.header.life m.header.stamp (λ i. lock_in rows i) (in_net t rows g) lt

      go : (o : Option Session) → session_of N.sessions (client m.header.from) ≡ o → NotEnded o → o ≡ None
      go None e l = refl
      go (Some x) e l =
          let b = (inv m.header.from).born_.session (ap live_view e ∙ l) in
          let z = sym (ap life_view e) ∙ zero in let y = ap life_view e in absurd (omega arith)

  -- so it waits for nothing
  pub no_waits : (t : ServerTurn) (rows : List (ℕ × GrantNo × Mode)) → InGrace N Now t m rows → (x : Waiter) → Has x t.state.locks.waiters → x.client ≡ sender m.header → ⊥
  no_waits t rows g x h e =
      subst (ServesLife x.life.0) (no_session t rows g) ((sound m.header.from).waits x (subst (λ (l : Locks). Has x l.waiters) (locks_met t rows g) h) (ap (λ (c : ClientId). c.0) e)).served

  -- and it has no row
  no_row_before : (t : ServerTurn) (rows : List (ℕ × GrantNo × Mode)) → InGrace N Now t m rows → (ino : ℕ) → row_of N.locks (client m.header.from) ino ≡ None
  no_row_before t rows g ino = go (row_of N.locks (client m.header.from) ino) (subst (λ o. RowOk o (row_view (row_of N.locks (client m.header.from) ino))) (no_session t rows g) ((sound m.header.from).rows ino))
    where
      go : (o : Option LockRow) → RowOk None (row_view o) → o ≡ None
      go None r = refl
      go (Some x) r = elim (r.served) [ ]

  no_row_met : (t : ServerTurn) (rows : List (ℕ × GrantNo × Mode)) → InGrace N Now t m rows → (ino : ℕ) → row_of t.state.locks (sender m.header) ino ≡ None
  no_row_met t rows g ino = ap (λ l. row_of l (sender m.header) ino) (locks_met t rows g) ∙ no_row_before t rows g ino

  not_both : (b : Bool) → b ≡ true → b ≡ false → ⊥
  not_both true e f = cc
  not_both false e f = cc

  -- and no other client's row conflicts
  no_other : (t : ServerTurn) (rows : List (ℕ × GrantNo × Mode)) → InGrace N Now t m rows → OnceEach t.state.locks → Against t.state.locks (sender m.header) rows → ⊥
  no_other t rows g once a =
      let z = and_true (a.other.ino == a.row.0) _ a.stands in let y = and_true (not (a.other.client.0 == m.header.from)) _ z.1 in
      let at_ino : a.other.ino ≡ a.row.0 = eqb-true _ _ z.0 in
      let there : row_of N.locks a.other.client a.row.0 ≡ Some a.other = subst (λ l. row_of l a.other.client a.row.0 ≡ Some a.other) (locks_met t rows g) (subst (λ i. row_of t.state.locks a.other.client i ≡ Some a.other) at_ino (row_found t.state.locks once a.other a.there)) in
      let is = ap (λ o. (row_or (row_view o)).mode) there in
      let wish = wishes t rows g in
      let lock = ap (λ o. (lock_in_row o).mode) (alone rows wish.once a.row a.here) in
      let some = st.compat.rows a.other.client a.row.0 a.other there in
      let most = no_conflict k (pairs s ended w node G) ok st.reached m.header.from a.other.client.0 a.row.0 m.header.life m.header.stamp (λ i. lock_in rows i)
      (λ e. not_both (a.other.client.0 == m.header.from) (eq-eqb a.other.client.0 m.header.from (sym e)) (not_true _ y.0)) runs (on_before t rows g) (in_net t rows g) (let v = wish.some a.row a.here in omega arith) (omega arith) in
      let sum = sum_of a.other.mode a.row.2 y.1 in
      absurd (omega arith)

  pub reassertions : Reassertions N Now (Control m)
  reassertions = record {
    differ = λ t m2 rows e g. (wishes t rows (mine t m2 rows e g)).once;
    none = λ t m2 rows e g ino. subst (λ (x : Message). row_of t.state.locks (sender x.header) ino ≡ None) (same m2 e) (no_row_met t rows (mine t m2 rows e g) ino);
    calm = λ t m2 rows r e g once acc. calmly t rows r (mine t m2 rows e g) once (subst (λ (x : Message). accept t.state.grace Now (sender x.header) (life_in x.header) rows t.state.locks t.state.sessions ≡ Err r) (sym (same m2 e)) acc);
  }
    where
      same : (m2 : Message) → ◌≡◌ {A = ServerInput} (Control m) (Control m2) → m ≡ m2
      same m2 e = cc

      mine : (t : ServerTurn) (m2 : Message) (rows : List (ℕ × GrantNo × Mode)) → ◌≡◌ {A = ServerInput} (Control m) (Control m2) → InGrace N Now t m2 rows → InGrace N Now t m rows
      mine t m2 rows e g = subst (λ x. InGrace N Now t x rows) (sym (same m2 e)) g

      calmly : (t : ServerTurn) (rows : List (ℕ × GrantNo × Mode)) (r : AcceptRefusal) → InGrace N Now t m rows → OnceEach t.state.locks → accept t.state.grace Now (sender m.header) (life_in m.header) rows t.state.locks t.state.sessions ≡ Err r →
          is_conflict (refused_reassertion r) ≡ false
      calmly t rows r g once acc = go (why t.state.grace Now t.state.locks t.state.sessions (sender m.header) m.header.life rows r g.on acc)
        where
          go : WhyRefused t.state.locks (sender m.header) m.header.life rows r → is_conflict (refused_reassertion r) ≡ false
          go (Calmly z) = z
          go (ByOwn x h c l) =
              absurd (not_both (is_row_of (sender m.header) x.ino x) (and_both _ _ (eq-eqb _ _ c) (eq-eqb x.ino x.ino refl)) (none_has (is_row_of (sender m.header) x.ino) t.state.locks.rows (no_row_met t rows g x.ino) x h))
          go (ByOther a) = absurd (no_other t rows g once a)

-- on a tick nothing is reasserted
pub no_reassertions : (n : ServerState) (now : Stamp) → Reassertions n now Tick
no_reassertions n now = record { differ = λ t m rows e. absurd (never m e); none = λ t m rows e. absurd (never m e); calm = λ t m rows r e. absurd (never m e) }
  where
    never : (m : Message) → ◌≡◌ {A = ServerInput} Tick (Control m) → ⊥
    never m e = cc
