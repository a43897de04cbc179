-- The rows of a server after a step: each was there before under the same lock, or has a number above all that were given; and a lock that was released in the
-- step is gone.
use Rattle.st_lemmas.proofs.Words
use Words.{◌≡◌, ℕ, ◌+◌, ◌≤◌, ◌<◌, ◌⊎◌, Bool, true, false, not, ◌&&◌, List, [], ◌∷◌, ◌==◌, refl, sym, ap, ◌∙◌, subst, inl, inr, arith, map, Option, Some, None}
use Words.{cond, eq-eqb, ClientId, Epoch, GrantNo, ServerId, Life, Stamp, Mode, Body, Message, LockRow, RowDemand, ServerInput, Session}
use Words.modes
use Words.bodies as bd
use Words.takes
use Words.Authority as authority
use Words.Keys.{client, server_node}
use Words.Locks as locks
use Words.Locks.{Locks, answered_row, demanded, first_after, grant, is_row_of, is_under, lowered, new_row, release_to, row_of}
use Words.Server as sv
use Words.Server.{ServerState, ServerTurn, demanding, granting, keep_and_reply, life_in, reply, sender, serve, server_step, steal_from, suspect_client, suspecting_on}
use Words.Server.{take_input, tell, thefts, turn}
use Words.serving.{Control}
use Words.ServerInvariants.{are_once, same_row}
use Words.Sessions as sessions
use Words.Lists.{Has}
use Words.Lookups.{some_is}
use Words.Tables.{and_both, cond_either, has_filter, has_map, not_true}
use Words.Truth.{not_both}
use Rattle.st_lemmas.proofs.Puts.{has_put}
use Rattle.st_laws_refine.specs.Server.Edits.{Acquired, AtOnce, Edit, InTurn, WishInput}
use Rattle.st_laws_refine.specs.Server.Edits.{Acquires, Begins, Cuts, Demands, DropsFile, DropsWaits, ExtentsChange, Grants, Keeps, NamesChange, Reasserts}
use Rattle.st_laws_refine.specs.Server.Edits.{Refuses, Releases, Repeats, Replies, Sees, Steals, Suspects, TakesTimers, TellsDemand, TellsGrant}
use Rattle.st_laws_refine.proofs.Server.OneRow.{row_found}
use Rattle.st_laws_refine.proofs.Server.Walk.{kept_by_demands, kept_by_grants, kept_by_message, walk}
use Rattle.st_laws_waits.specs.Bounds.{RowsHaveSessions}
use Rattle.st_laws_waits.proofs.Keeping.{SameLock, same_self, same_then}
use Rattle.st_laws_waits.proofs.Robbing.{Robbed, left}
use Rattle.st_laws_healthy.proofs.Given.{given}
use Rattle.st_laws_healthy.proofs.Greeting.{no_timer}
use Rattle.st_laws_healthy.proofs.Sparing.{IsSpared, spared}

-- the last number that a table gave
abbrev top : Locks → ℕ
top l = first_after l.epoch + l.grants

-- where a row comes from
pub data FromRow (l : Locks) (last : ℕ) (r : LockRow) : Type 0 where
  IsOld : (q : LockRow) → Has q l.rows → SameLock r q → FromRow l last r
  IsNew : last < r.g.0 → FromRow l last r

-- each row of a table is of another one, or new; and numbers rise
record Rises (l v : Locks) : Type 0 where
  rows : (r : LockRow) → Has r v.rows → FromRow l (top l) r
  above : top l ≤ top v

rises_self : (l : Locks) → Rises l l
rises_self l = record { rows = λ r h. IsOld r h (same_self r); above = omega arith }

from_then : (l v u : Locks) → Rises l v → (r : LockRow) → FromRow v (top v) r → FromRow l (top l) r
from_then l v u z r (IsNew n) = let a = z.above in IsNew (omega (arith, a, n))
from_then l v u z r (IsOld q h e) = go (z.rows q h)
  where
    go : FromRow l (top l) q → FromRow l (top l) r
    go (IsOld p i f) = IsOld p i (same_then r q p e f)
    go (IsNew n) = let f = ap (λ (x : GrantNo). x.0) e.g in IsNew (omega (arith, n, f))

rises_then : (l v u : Locks) → Rises l v → Rises v u → Rises l u
rises_then l v u a b = record { rows = λ r h. from_then l v u a r (b.rows r h); above = let x = a.above in let y = b.above in omega (arith, x, y) }

-- some of the rows, with as many grants
rows_with_fewer_rise : (l v : Locks) → ((r : LockRow) → Has r v.rows → Has r l.rows) → v.epoch ≡ l.epoch → v.grants ≡ l.grants → Rises l v
rows_with_fewer_rise l v f e g =
    record {
      rows = λ r h. IsOld r (f r h) (same_self r);
      above = let x = ap first_after e in omega (arith, x, g);
    }

-- each row as it was, or with another mode or demand
changed : (f : LockRow → LockRow) (l v : Locks) → ((r : LockRow) → SameLock (f r) r) → v.rows ≡ map f l.rows → v.epoch ≡ l.epoch → v.grants ≡ l.grants → Rises l v
changed f l v same q e g =
    record {
      rows = λ r h. by r (has_map f l.rows r (subst (Has r) q h));
      above = let x = ap first_after e in omega (arith, x, g);
    }
  where
    by : (r : LockRow) → (m : LockRow) × Has m l.rows × (r ≡ f m) → FromRow l (top l) r
    by r (m, h, w) = IsOld m h (subst (λ (x : LockRow). SameLock x m) (sym w) (same m))

granted : (l : Locks) (c : ClientId) (life : Life) (ino : ℕ) (mode : Mode) → Rises l (grant l c life ino mode)
unfolding grant
granted l c life ino mode = record { rows = λ r h. go r (has_put (is_row_of c ino) (new_row l c life ino mode) l.rows r h); above = omega arith }
  where
    go : (r : LockRow) → (r ≡ new_row l c life ino mode) ⊎ Has r l.rows → FromRow l (top l) r
    go r (inl e) = IsNew (let x = ap (λ (y : LockRow). y.g.0) e in omega (arith, x))
    go r (inr h) = IsOld r h (same_self r)

lower_same : (c : ClientId) (ino : ℕ) (r : LockRow) → SameLock (locks.lower c ino r) r
unfolding lowered
lower_same c ino r = cond_either (λ (x : LockRow). SameLock x r) (is_row_of c ino r) (lowered r) r
    (λ e. record { client = refl; ino = refl; life = refl; g = refl }) (λ e. same_self r)

observe_same : (c : ClientId) (ino : ℕ) (g : GrantNo) (r : LockRow) → SameLock (locks.observe c ino g r) r
unfolding answered_row
observe_same c ino g r = cond_either (λ (x : LockRow). SameLock x r) (is_row_of c ino r && (r.g.0 == g.0)) (answered_row r) r
    (λ e. record { client = refl; ino = refl; life = refl; g = refl }) (λ e. same_self r)

demand_same : (c : ClientId) (ino : ℕ) (d : RowDemand) (r : LockRow) → SameLock (locks.demand_of c ino d r) r
unfolding demanded
demand_same c ino d r = cond_either (λ (x : LockRow). SameLock x r) (is_row_of c ino r) (demanded d r) r
    (λ e. record { client = refl; ino = refl; life = refl; g = refl }) (λ e. same_self r)

released : (l : Locks) (c : ClientId) (ino : ℕ) (to : Mode) → Rises l (release_to l c ino to)
unfolding release_to
released l c ino modes.None = rows_with_fewer_rise l _ (λ r h. (has_filter (λ r. not (is_row_of c ino r)) l.rows r h).0) refl refl
released l c ino modes.S = changed (locks.lower c ino) l _ (lower_same c ino) refl refl refl
released l c ino modes.X = changed (locks.lower c ino) l _ (lower_same c ino) refl refl refl

queued : (l : Locks) (c : ClientId) (life : Life) (ino : ℕ) (mode : Mode) → Rises l (locks.queue l c life ino mode)
unfolding locks.queue locks.queue_at
queued l c life ino mode = go (locks.wait_of l c ino)
  where
    go : (o : Option _) → Rises l (locks.queue_at l c life ino mode o)
    go None = rows_with_fewer_rise l _ (λ r h. h) refl refl
    go (Some w) = rows_with_fewer_rise l _ (λ r h. h) refl refl

acquired : (b : Bool) (l : Locks) (c : ClientId) (life : Life) (ino : ℕ) (mode : Mode) (v : Locks) → Acquired b l c life ino mode v → Rises l v
acquired b l c life ino mode _ (AtOnce x y z w) = granted l c life ino mode
acquired b l c life ino mode _ (InTurn x) = queued l c life ino mode

-- Out of grace, no change of a step does anything else.
module _ (n : ServerState) (now : Stamp) (i : ServerInput) (l : Locks) where
  record Keeps2 (t : ServerTurn) : Type 0 where
    locks : Rises l t.state.locks
    off : t.state.grace ≡ None

  by : (t u : ServerTurn) → u.state.grace ≡ t.state.grace → Rises t.state.locks u.state.locks → Keeps2 t → Keeps2 u
  by t u g r z = record { locks = rises_then l t.state.locks u.state.locks z.locks r; off = g ∙ z.off }

  edit : (t u : ServerTurn) → Edit n now i t u → Keeps2 t → Keeps2 u
  unfolding steal_from suspect_client keep_and_reply reply tell locks.forget locks.drop_waits locks.drop_file_waits locks.demand_seen
  edit t _ (TakesTimers _ e) z = by t _ refl (rises_self t.state.locks) z
  edit t _ (Steals _ c s h e) z =
      by t _ refl (rows_with_fewer_rise t.state.locks _ (λ r h. (has_filter (λ r. not (locks.is_row_by c r)) t.state.locks.rows r h).0) refl refl) z
  edit t _ (Suspects _ c q f y) z = by t _ refl (rows_with_fewer_rise t.state.locks _ (λ r h. h) refl refl) z
  edit t _ (Begins _ c life) z = by t _ refl (rises_self t.state.locks) z
  edit t _ (DropsWaits _ m s is b e f) z = by t _ refl (rows_with_fewer_rise t.state.locks _ (λ r h. h) refl refl) z
  edit t _ (Keeps _ c number b e) z = by t _ refl (rises_self t.state.locks) z
  edit t _ (Reasserts _ m rows is all g f) z = absurd (no (sym (ap (λ o. Rattle.st_rules.specs.Grace.is_on o now) z.off) ∙ g.on))
    where
      no : ◌≡◌ {A = Bool} false true → ⊥
      no e = cc
  edit t _ (Sees _ m ino g is fi b) z = by t _ refl (changed (locks.observe (sender m.header) ino g) t.state.locks _ (observe_same (sender m.header) ino g) refl refl refl) z
  edit t _ (Acquires _ m ino mode v b y is fi body hs hl ok kb a) z =
      by t _ refl (acquired (Rattle.st_rules.specs.Grace.is_on t.state.grace now) t.state.locks (sender m.header) (life_in m.header) ino mode v a) z
  edit t _ (Releases _ m ino g to r is fi b e f) z = by t _ refl (released t.state.locks (sender m.header) ino to) z
  edit t _ (DropsFile _ m dir nm g ino is b e) z = by t _ refl (rows_with_fewer_rise t.state.locks _ (λ r h. h) refl refl) z
  edit t _ (Grants _ w off h e f) z = by t _ refl (granted t.state.locks w.client w.life w.ino w.mode) z
  edit t _ (Demands _ r x to e d) z = by t _ refl (changed (locks.demand_of r.client r.ino x) t.state.locks _ (demand_same r.client r.ino x) refl refl refl) z
  edit t _ (NamesChange _ v) z = by t _ refl (rises_self t.state.locks) z
  edit t _ (ExtentsChange _ v) z = by t _ refl (rises_self t.state.locks) z
  edit t _ (Cuts _ f p) z = by t _ refl (rises_self t.state.locks) z
  edit t _ (Replies _ m b is ok) z = by t _ refl (rises_self t.state.locks) z
  edit t _ (Repeats _ m s last b is r f e y) z = by t _ refl (rises_self t.state.locks) z
  edit t _ (Refuses _ m rows r is f y e) z = by t _ refl (rises_self t.state.locks) z
  edit t _ (TellsGrant _ c life ino g mode) z = by t _ refl (rises_self t.state.locks) z
  edit t _ (TellsDemand _ c life ino g mode) z = by t _ refl (rises_self t.state.locks) z

-- A release of a lock leaves no row under its number.
module _ (l : Locks) (found : (r : LockRow) → Has r l.rows → row_of l r.client r.ino ≡ Some r) (c : ClientId) (life : Life) (ino : ℕ) (g : GrantNo) (r : LockRow)
    (lives : Has r l.rows → r.life.0 ≡ life.0) (own : r.client.0 ≡ c.0) (file : r.ino ≡ ino) (under : r.g.0 ≡ g.0) where
  its : is_row_of c ino r ≡ true
  its = and_both (r.client.0 == c.0) (r.ino == ino) (eq-eqb r.client.0 c.0 own) (eq-eqb r.ino ino file)

  found_it : Has r l.rows → row_of l c ino ≡ Some r
  found_it h = subst (λ n. row_of l (client n) ino ≡ Some r) own (subst (λ i. row_of l r.client i ≡ Some r) file (found r h))

  row_gone : Has r (locks.released l c life ino g modes.None).locks.rows → ⊥
  unfolding locks.released locks.released_at locks.release locks.not_released release_to
  row_gone h = go (row_of l c ino) refl h
    where
      no : ◌≡◌ {A = Option LockRow} None (Some r) → ⊥
      no e = cc

      go : (o : Option LockRow) → row_of l c ino ≡ o → Has r (locks.released_at l c life ino g modes.None o).locks.rows → ⊥
      go None q = λ j. no (sym q ∙ found_it j)
      go (Some x) q =
          cond_either (λ (y : locks.Released). Has r y.locks.rows → ⊥) (is_under life g x) (locks.release l c ino modes.None) (locks.not_released l)
          (λ f j. not_both (is_row_of c ino r) its (not_true _ (has_filter (λ r. not (is_row_of c ino r)) l.rows r j).1))
          (λ f j. not_both (is_under life g x)
          (subst (λ (y : LockRow). is_under life g y ≡ true) (some_is (sym (found_it j) ∙ q))
          (and_both (r.life.0 == life.0) (r.g.0 == g.0) (eq-eqb r.life.0 life.0 (lives j)) (eq-eqb r.g.0 g.0 under))) f)

-- thefts give nothing
tables_one : (t : ServerTurn) (c : ClientId) (o : Option Session) → ((sv.steal_at t c o).state.locks.epoch ≡ t.state.locks.epoch) ×
    ((sv.steal_at t c o).state.locks.grants ≡ t.state.locks.grants)
unfolding sv.steal_at steal_from locks.forget
tables_one t c None = (refl, refl)
tables_one t c (Some s) = (refl, refl)

tables_each : (cs : List ClientId) (t : ServerTurn) → ((sv.steal_each cs t).state.locks.epoch ≡ t.state.locks.epoch) ×
    ((sv.steal_each cs t).state.locks.grants ≡ t.state.locks.grants)
unfolding sv.steal_each sv.steal
tables_each [] t = (refl, refl)
tables_each (c ∷ cs) t =
    let a = tables_one t c (sessions.session_of t.state.sessions c) in
    let b = tables_each cs (sv.steal t c) in
    (b.0 ∙ a.0, b.1 ∙ a.1)

thefts_tables : (n : ServerState) (now : Stamp) → ((thefts (turn n []) now).state.locks.epoch ≡ n.locks.epoch) ×
    ((thefts (turn n []) now).state.locks.grants ≡ n.locks.grants)
unfolding thefts
thefts_tables n now = tables_each (authority.over n.authority now) (sv.with_authority (authority.still_running n.authority now) (turn n []))

module _ (now : Stamp) (n : ServerState) (known : RowsHaveSessions n) (once : are_once same_row n.locks.rows ≡ true)
    (lives : (r : LockRow) → Has r n.locks.rows → (y : Session) → sessions.session_of n.sessions r.client ≡ Some y → y.life.0 ≡ r.life.0) (off : n.grace ≡ None) where
  -- a whole step
  risen : (i : ServerInput) → WishInput i → Keeps2 n now i n.locks (server_step n now i)
  risen i wish = walk n now i (Keeps2 n now i n.locks) (edit n now i n.locks) wish (record { locks = rises_self n.locks; off = off })

  pub rows_after : (i : ServerInput) → WishInput i → (r : LockRow) → Has r (server_step n now i).state.locks.rows → FromRow n.locks (given n) r
  rows_after i wish r h = (risen i wish).locks.rows r h

  pub given_after : (i : ServerInput) → WishInput i → given n ≤ given (server_step n now i).state
  given_after i wish = (risen i wish).locks.above

  abbrev u0 : ServerTurn
  u0 = thefts (turn n []) now

  robbed0 : Robbed (authority.over n.authority now) (sv.with_authority (authority.still_running n.authority now) (turn n [])) u0
  robbed0 = left n.config 0 0 now n known

  -- A release to none, which is its client's next request.
  module _ (m : Message) (wish : WishInput (Control m)) (free : authority.may_ack n.authority (sender m.header) ≡ true)
      (is_for : sv.is_for n m.header ≡ true) (epoch : m.header.epoch ≡ n.stable.epoch.0)
      (fresh : sessions.take n.sessions (sender m.header) (life_in m.header) (sv.epoch_in m.header) m.header.number ≡ takes.Fresh)
      (y : Session) (session : sessions.session_of n.sessions (sender m.header) ≡ Some y) (life : y.life.0 ≡ m.header.life)
      (ino : ℕ) (g : GrantNo) (body : m.body ≡ bd.Released ino g modes.None) where
    z : IsSpared (sender m.header) n u0
    z = spared (sender m.header) n now free

    abbrev u1 : ServerTurn
    u1 = take_input u0 now (Control m)

    fresh0 : sv.take u0 m.header ≡ takes.Fresh
    unfolding sessions.take
    fresh0 =
        ap (λ (e : Epoch). cond ((sv.epoch_in m.header).0 == e.0)
        (sessions.take_at (sessions.session_of u0.state.sessions (sender m.header)) (life_in m.header) m.header.number) takes.OtherEpoch) z.epoch
        ∙ ap (λ o. cond ((sv.epoch_in m.header).0 == n.sessions.epoch.0) (sessions.take_at o (life_in m.header) m.header.number) takes.OtherEpoch) z.session
        ∙ fresh

    is_for0 : sv.is_for u0.state m.header ≡ true
    is_for0 = ap (λ (x : ServerId). (m.header.to == server_node x) && sv.is_client_node m.header.from) z.id ∙ is_for

    epoch0 : (m.header.epoch == u0.state.stable.epoch.0) ≡ true
    epoch0 = eq-eqb m.header.epoch u0.state.stable.epoch.0 (epoch ∙ ap (λ (x : sv.Stable). x.epoch.0) (sym z.stable))

    served : (P : Locks → Type 0) (t : ServerTurn) (o : Option Body) → P t.state.locks → P (serve m.header (record { turn = t; reply = o })).state.locks
    unfolding serve sv.keep keep_and_reply reply
    served P t None k = k
    served P t (Some b) k = k

    module _ (r : LockRow) (own : r.client.0 ≡ m.header.from) (file : r.ino ≡ ino) (under : r.g.0 ≡ g.0) where
      abbrev Gone : ServerTurn → Type 0
      Gone t = Has r t.state.locks.rows → ⊥

      lives0 : Has r u0.state.locks.rows → r.life.0 ≡ (life_in m.header).0
      lives0 h =
          let q = (robbed0.rows r h).0 in
          sym (lives r q y (ap (λ x. sessions.session_of n.sessions (client x)) own ∙ session)) ∙ life

      locks_gone : Has r (locks.released u0.state.locks (sender m.header) (life_in m.header) ino g modes.None).locks.rows → ⊥
      locks_gone = row_gone u0.state.locks (λ q h. row_found u0.state.locks (robbed0.once once) q h) (sender m.header) (life_in m.header) ino g r lives0 own file under

      by_request : Gone (sv.request_by u0 now m.header (bd.Released ino g modes.None) takes.Fresh)
      unfolding sv.request_by sv.rule sv.released sv.released_by
      by_request =
          served (λ (l : Locks). Has r l.rows → ⊥)
          (sv.with_locks (locks.released u0.state.locks (sender m.header) (life_in m.header) ino g modes.None).locks u0) (Some bd.Ack) locks_gone

      by_body : Gone (sv.by_body u0 now m.header (bd.Released ino g modes.None))
      unfolding sv.by_body sv.of_epoch sv.request
      by_body =
          cond_either Gone (m.header.epoch == u0.state.stable.epoch.0) (sv.request u0 now m.header (bd.Released ino g modes.None)) (sv.refuse_epoch u0 m.header)
          (λ e. subst (λ x. Gone (sv.request_by u0 now m.header (bd.Released ino g modes.None) x)) (sym fresh0) by_request)
          (λ e. absurd (not_both (m.header.epoch == u0.state.stable.epoch.0) epoch0 e))

      gone1 : Gone u1
      unfolding take_input sv.receive sv.receive_from sv.by_suspicion
      gone1 =
          cond_either Gone (sv.is_for u0.state m.header) (sv.receive_from u0 now m.header m.body) u0
          (λ e. subst (λ o. Gone (sv.by_suspicion u0 now m.header m.body o)) (sym (no_timer u0.state.authority (sender m.header) z.free))
          (subst (λ b. Gone (sv.by_body u0 now m.header b)) (sym body) by_body))
          (λ e. absurd (not_both (sv.is_for u0.state m.header) is_for0 e))

    kept1 : Keeps2 n now (Control m) n.locks u1
    kept1 =
        kept_by_message n now m (Keeps2 n now (Control m) n.locks) (edit n now (Control m) n.locks) wish
        (record {
          locks = rows_with_fewer_rise n.locks u0.state.locks (λ q h. (robbed0.rows q h).0) (thefts_tables n now).0 (thefts_tables n now).1;
          off = z.grace ∙ off;
        })

    -- no row is under its number after the step
    pub released_gone : g.0 ≤ given n → (r : LockRow) → r.client.0 ≡ m.header.from → r.ino ≡ ino → r.g.0 ≡ g.0 →
        Has r (server_step n now (Control m)).state.locks.rows → ⊥
    unfolding server_step suspecting_on
    released_gone le r own file under h = go (after.locks.rows r h)
      where
        after : Keeps2 n now (Control m) u1.state.locks (demanding (granting u1 now) now (Control m))
        after =
            kept_by_demands n now (Control m) (Keeps2 n now (Control m) u1.state.locks) (edit n now (Control m) u1.state.locks) (granting u1 now)
            (kept_by_grants n now (Control m) (Keeps2 n now (Control m) u1.state.locks) (edit n now (Control m) u1.state.locks) u1
            (record { locks = rises_self u1.state.locks; off = kept1.off }))

        go : FromRow u1.state.locks (top u1.state.locks) r → ⊥
        go (IsNew l) = let a = kept1.locks.above in omega (arith, l, a, le, under)
        go (IsOld q i e) =
            gone1 q (ap (λ (x : ClientId). x.0) e.client ∙ own) (e.ino ∙ file) (ap (λ (x : GrantNo). x.0) e.g ∙ under) i
