-- While one wait is the first of its file, every fact of the rows of other clients on the file that five kinds of change keep is kept by a whole step
-- out of grace: no change puts another client's row on the file, since nobody is granted before the first waiter.
use Rattle.st_lemmas.proofs.Words
use Words.{◌≡◌, ◌≢◌, ℕ, ◌+◌, ◌≤◌, ◌⊎◌, Bool, true, false, not, ◌&&◌, List, [], ◌∷◌, ◌==◌, refl, sym, ap, ◌∙◌, subst, inl, inr, arith, find, filter, map, Option}
use Words.{Some, None, option_map, list_any, eqb-true, eq-eqb, ne_eqb, le-leb, Config, ClientId, GrantNo, Life, Stamp, Mode, Message, ServerInput, LockRow}
use Words.{RowDemand, Waiter}
use Words.modes
use Words.bodies
use Words.serving.{Control}
use Words.Authority as authority
use Words.Authority.{Authority, may_ack, suspect_of}
use Words.Grace as grace
use Words.Grace.{Grace}
use Words.Keys.{client}
use Words.Locks as locks
use Words.Locks.{Locks, answered_row, demand_now, demand_of, demanded, grant, is_row_of, is_under, is_wait_by, is_wait_of, is_wait_on, lower, lowered, new_row}
use Words.Locks.{new_wait, queue, queue_at, raise, release_to, row_of, observe, wait_for, wait_of, waits_besides, with_demand}
use Words.Server.{ServerState, ServerTurn, is_tick, keep_and_reply, life_in, reply, sender, steal_from, suspect_client, tell, thefts, turn}
use Words.ServerInvariants.{are_once, same_row}
use Words.Lists.{Has}
use Words.Lookups.{some_is}
use Words.Tables.{and_both, and_true, cond_either, cond_false, cond_true, find_map, found_at, has_filter, has_map, not_true, same_or_not, some_passes}
use Words.Tests.{find_filtered, find_longer}
use Words.Truth.{not_both}
use Rattle.st_base.specs.Mode.{covers, number_of}
use Rattle.st_lemmas.proofs.Puts.{has_put}
use Rattle.st_laws_refine.specs.Server.Edits.{Acquired, AtOnce, InTurn, Edit, TakesTimers, Steals, Suspects, Begins, DropsWaits, Keeps, Reasserts, Sees}
use Rattle.st_laws_refine.specs.Server.Edits.{Acquires, Releases, DropsFile, Grants, Demands, NamesChange, ExtentsChange, Cuts, Replies, Repeats, Refuses}
use Rattle.st_laws_refine.specs.Server.Edits.{TellsGrant, TellsDemand}
use Rattle.st_laws_refine.proofs.Server.OneRow.{demanded_once, forget_once, granted_once, released_once, row_found, seen_once}
use Rattle.st_laws_waits.specs.Bounds.{DemandInTime}
use Rattle.st_laws_waits.specs.Chase.{IsFirst}
use Rattle.st_laws_waits.specs.WithinStep.{WithinStep}
use Rattle.st_laws_waits.proofs.Demanding.{demand_keys}
use Rattle.st_laws_waits.proofs.Edits.{edit, taken_out}

-- a row of this client and file is the one that is found
found_is : (l : Locks) → are_once same_row l.rows ≡ true → (c : ClientId) (ino : ℕ) (q r : LockRow) → Has q l.rows → is_row_of c ino q ≡ true →
    row_of l c ino ≡ Some r → q ≡ r
found_is l once c ino q r h b e =
    let z = and_true (q.client.0 == c.0) (q.ino == ino) b in
    some_is (sym (row_found l once q h) ∙ ap (λ n. row_of l (client n) q.ino) (eqb-true q.client.0 c.0 z.0) ∙ ap (λ f. row_of l c f) (eqb-true q.ino ino z.1) ∙ e)

-- A wait of one file, when a client asks for that file.
module _ (w : Waiter) where
  -- a wait that is raised is replaced, or covers the mode already
  pub raised_other : (c : ClientId) (ino : ℕ) (mode : Mode) → covers w.mode mode ≡ false → is_wait_of c ino w ≡ true → (v : Waiter) → w ≡ raise c ino mode v → ⊥
  unfolding wait_for
  raised_other c ino mode lacks own v = cond_either (λ (y : Waiter). w ≡ y → ⊥) (is_wait_of c ino v) (wait_for mode v) v (λ e z. in_place z) (λ e z. not_both (is_wait_of c ino v) (subst (λ y. is_wait_of c ino y ≡ true) z own) e)
    where
      covers_self : (m : Mode) → covers m m ≡ true
      covers_self m = le-leb (number_of m) (number_of m) (omega arith)

      in_place : w ≡ wait_for mode v → ⊥
      in_place z = cond_either (λ m. w.mode ≡ m → ⊥) (covers v.mode mode) v.mode mode (λ e y. not_both (covers w.mode mode) (ap (λ m. covers m mode) y ∙ e) lacks) (λ e y. not_both (covers w.mode mode) (ap (λ m. covers m mode) y ∙ covers_self mode) lacks) (ap (λ (y : Waiter). y.mode) z)

  -- or the same one
  pub raised_same : (c : ClientId) (ino : ℕ) (mode : Mode) → covers w.mode mode ≡ true → raise c ino mode w ≡ w
  unfolding wait_for
  raised_same c ino mode e = cond_either (λ (y : Waiter). y ≡ w) (is_wait_of c ino w) (wait_for mode w) w (λ f. ap (λ m. record w { mode = m }) (cond_true (covers w.mode mode) w.mode mode e)) (λ f. refl)

  pub raised_alone : (c : ClientId) (ino : ℕ) (mode : Mode) → is_wait_of c ino w ≡ false → raise c ino mode w ≡ w
  raised_alone c ino mode e = cond_false (is_wait_of c ino w) (wait_for mode w) w e

  pub on_file : (c : ClientId) (ino : ℕ) (mode : Mode) (v : Waiter) → is_wait_on w.ino (raise c ino mode v) ≡ is_wait_on w.ino v
  unfolding wait_for
  on_file c ino mode v = cond_either (λ (y : Waiter). is_wait_on w.ino y ≡ is_wait_on w.ino v) (is_wait_of c ino v) (wait_for mode v) v (λ e. refl) (λ e. refl)

module _ (w : Waiter) (R : Authority → LockRow → Type 0) where
  -- What holds of a table and the timers while the wait is the first of its file: of each row of another client on the file.
  pub record Waits (a : Authority) (l : Locks) : Type 0 where
    pub once : are_once same_row l.rows ≡ true
    pub first : IsFirst w l
    pub rows : (r : LockRow) → Has r l.rows → r.ino ≡ w.ino → r.client.0 ≢ w.client.0 → R a r

  -- the wait is gone
  abbrev pub Gone : Locks → Type 0
  Gone l = Has w l.waiters → ⊥

  abbrev pub Either : Authority → Locks → Type 0
  Either a l = Gone l ⊎ Waits a l

  -- the wait is gone, or everything holds
  pub not_gone : (a : Authority) (l : Locks) → Either a l → IsFirst w l → Waits a l
  not_gone a l (inl g) f = absurd (g (found_at (is_wait_on w.ino) l.waiters w f).1)
  not_gone a l (inr x) f = x

  -- waits that are left out: those that pass the test stay
  left_out : (a : Authority) (l : Locks) (q : Waiter → Bool) → Either a l → Either a (record l { waiters = filter q l.waiters })
  left_out a l q (inl g) = inl (λ h. g (has_filter q l.waiters w h).0)
  left_out a l q (inr x) = go (q w) refl
    where
      go : (b : Bool) → q w ≡ b → Either a (record l { waiters = filter q l.waiters })
      go true e = inr (record { once = x.once; first = find_filtered (is_wait_on w.ino) q w l.waiters x.first e; rows = x.rows })
      go false e = inl (λ h. not_both (q w) (has_filter q l.waiters w h).1 e)

  -- fewer rows
  waits_with_fewer_rows : (a : Authority) (l : Locks) (rows : List LockRow) → are_once same_row rows ≡ true → ((r : LockRow) → Has r rows → Has r l.rows) → Waits a l →
      Waits a (record l { rows = rows })
  waits_with_fewer_rows a l rows o h x = record { once = o; first = x.first; rows = λ r j. x.rows r (h r j) }

  -- other timers
  timed : (a b : Authority) (l : Locks) → ((r : LockRow) → Has r l.rows → R a r → R b r) → Either a l → Either b l
  timed a b l h (inl g) = inl g
  timed a b l h (inr x) = inr (record { once = x.once; first = x.first; rows = λ r j f o. h r j (x.rows r j f o) })

  -- one row more, which isn't a row of another client on the file
  put_row : (a : Authority) (l : Locks) (c : ClientId) (life : Life) (ino : ℕ) (mode : Mode) → (ino ≡ w.ino → c.0 ≢ w.client.0 → ⊥) → Waits a l →
      Either a (grant l c life ino mode)
  unfolding grant
  put_row a l c life ino mode not_other x =
      left_out a (record l { grants = l.grants + 1; rows = locks.with_row (new_row l c life ino mode) l.rows }) (λ v. not (is_wait_of c ino v))
      (inr (record { once = granted_once l c life ino mode x.once; first = x.first; rows = λ r j f o. row r (has_put (is_row_of c ino) (new_row l c life ino mode) l.rows r j) f o }))
    where
      row : (r : LockRow) → (r ≡ new_row l c life ino mode) ⊎ Has r l.rows → r.ino ≡ w.ino → r.client.0 ≢ w.client.0 → R a r
      row r (inl e) f o = absurd (not_other (sym (ap (λ (y : LockRow). y.ino) e) ∙ f) (λ z. o (ap (λ (y : LockRow). y.client.0) e ∙ z)))
      row r (inr j) f o = x.rows r j f o

  -- a change of rows in place
  changed : (a : Authority) (l v : Locks) (f : LockRow → LockRow) → v.rows ≡ map f l.rows → v.waiters ≡ l.waiters → are_once same_row v.rows ≡ true →
      ((r : LockRow) → ((f r).client ≡ r.client) × ((f r).ino ≡ r.ino)) →
      ((r : LockRow) → Has r l.rows → r.ino ≡ w.ino → r.client.0 ≢ w.client.0 → R a r → R a (f r)) → Waits a l → Waits a v
  changed a l v f er ew o keys same x =
      record { once = o; first = ap (find (is_wait_on w.ino)) ew ∙ x.first; rows = λ r j e n. let m = has_map f l.rows r (subst (Has r) er j) in row m.0 r m.1 m.2 e n }
    where
      row : (q r : LockRow) → Has q l.rows → r ≡ f q → r.ino ≡ w.ino → r.client.0 ≢ w.client.0 → R a r
      row q r h e f1 n =
          let b : q.ino ≡ w.ino = sym (keys q).1 ∙ sym (ap (λ (y : LockRow). y.ino) e) ∙ f1 in
          let c : q.client.0 ≢ w.client.0 = λ z. n (ap (λ (y : LockRow). y.client.0) e ∙ ap (λ (c : ClientId). c.0) (keys q).0 ∙ z) in
          subst (R a) (sym e) (same q h b c (x.rows q h b c))

  -- the wait is taken out of its queue
  taken : (l : Locks) (rows : List LockRow) (grants : ℕ) →
      Gone (record l { grants = grants; rows = rows; waiters = locks.without_wait w.client w.ino l.waiters })
  taken l rows grants h = not_both (is_wait_of w.client w.ino w) (and_both _ _ (eq-eqb w.client.0 w.client.0 refl) (eq-eqb w.ino w.ino refl)) (not_true _ (has_filter (λ v. not (is_wait_of w.client w.ino v)) l.waiters w h).1)

  -- whoever else is granted the file at once had nobody waiting
  at_once : (a : Authority) (l : Locks) (c : ClientId) (life : Life) (ino : ℕ) (mode : Mode) → list_any (waits_besides c ino) l.waiters ≡ false → Waits a l →
      Either a (grant l c life ino mode)
  at_once a l c life ino mode none x = put_row a l c life ino mode (λ f o. not_both (list_any (waits_besides c ino) l.waiters) (some_passes (waits_besides c ino) l.waiters w (found_at (is_wait_on w.ino) l.waiters w x.first).1 (and_both (w.ino == ino) (not (w.client.0 == c.0)) (eq-eqb w.ino ino (sym f)) (ap not (ne_eqb w.client.0 c.0 (λ z. o (sym z)))))) none) x

  queued : (a : Authority) (l : Locks) (c : ClientId) (life : Life) (ino : ℕ) (mode : Mode) → Waits a l → Either a (queue l c life ino mode)
  unfolding queue queue_at
  queued a l c life ino mode x = at (wait_of l c ino)
    where
      first_raised : raise c ino mode w ≡ w → find (is_wait_on w.ino) (map (raise c ino mode) l.waiters) ≡ Some w
      first_raised e = find_map (is_wait_on w.ino) (raise c ino mode) (on_file w c ino mode) l.waiters ∙ ap (option_map (raise c ino mode)) x.first ∙ ap (λ v. Some v) e

      kept : raise c ino mode w ≡ w → Either a (record l { waiters = map (raise c ino mode) l.waiters })
      kept e = inr (record { once = x.once; first = first_raised e; rows = x.rows })

      at : (o : Option Waiter) → Either a (queue_at l c life ino mode o)
      at None = inr (record { once = x.once; first = find_longer (is_wait_on w.ino) w l.waiters (new_wait c life ino mode ∷ []) x.first; rows = x.rows })
      at (Some v) = by (is_wait_of c ino w) refl (covers w.mode mode) refl
        where
          by : (b : Bool) → is_wait_of c ino w ≡ b → (d : Bool) → covers w.mode mode ≡ d → Either a (record l { waiters = map (raise c ino mode) l.waiters })
          by false e d f = kept (raised_alone w c ino mode e)
          by true e true f = kept (raised_same w c ino mode f)
          by true e false f = inl (λ h. let m = has_map (raise c ino mode) l.waiters w h in raised_other w c ino mode f e m.0 m.2)

  acquired : (a : Authority) (g : Bool) (l : Locks) (c : ClientId) (life : Life) (ino : ℕ) (mode : Mode) (v : Locks) → Acquired g l c life ino mode v →
      Waits a l → Either a v
  acquired a g l c life ino mode v (AtOnce off y f none) x = at_once a l c life ino mode none x
  acquired a g l c life ino mode v (InTurn y) x = queued a l c life ino mode x

  -- a grant of this wait takes it out; one of any other leaves it out
  own_grant : (l : Locks) → Gone (grant l w.client w.life w.ino w.mode)
  unfolding grant
  own_grant l = taken l (locks.with_row (new_row l w.client w.life w.ino w.mode) l.rows) (l.grants + 1)

  gone_more : (l : Locks) (v : Waiter) → Gone l → Gone (grant l v.client v.life v.ino v.mode)
  unfolding grant
  gone_more l v y h = y (has_filter (λ z. not (is_wait_of v.client v.ino z)) l.waiters w h).0

  gone_seen : (l : Locks) (c : ClientId) (ino : ℕ) (g : GrantNo) → Gone l → Gone (locks.demand_seen l c ino g)
  unfolding locks.demand_seen
  gone_seen l c ino g x = x

  gone_released : (l : Locks) (c : ClientId) (ino : ℕ) (to : Mode) → Gone l → Gone (release_to l c ino to)
  unfolding release_to
  gone_released l c ino modes.None g = g
  gone_released l c ino modes.S g = g
  gone_released l c ino modes.X g = g

  -- a grant in turn: of this wait, or on another file
  grants : (a : Authority) (l : Locks) (v : Waiter) → find (is_wait_on v.ino) l.waiters ≡ Some v → Waits a l → Either a (grant l v.client v.life v.ino v.mode)
  grants a l v e x = go (same_or_not v.ino w.ino)
    where
      itself : (u : Waiter) → u ≡ w → Either a (grant l u.client u.life u.ino u.mode)
      itself u q = subst (λ (u : Waiter). Either a (grant l u.client u.life u.ino u.mode)) (sym q) (inl (own_grant l))

      go : (v.ino ≡ w.ino) ⊎ (v.ino ≢ w.ino) → Either a (grant l v.client v.life v.ino v.mode)
      go (inl q) = itself v (some_is (sym e ∙ ap (λ f. find (is_wait_on f) l.waiters) q ∙ x.first))
      go (inr ne) = put_row a l v.client v.life v.ino v.mode (λ f o. ne f) x

  -- What a step's changes must keep of such a row: an answer that is seen, a release, a demand, a suspicion, and timers that are the same.
  pub record Kept (k : Config) (last : ℕ) (now : Stamp) (i : ServerInput) : Type 0 where
    pub seen : (a : Authority) (r : LockRow) (m : Message) (g : GrantNo) → i ≡ Control m → m.body ≡ bodies.DemandSeen w.ino g → m.header.from ≡ r.client.0 →
        g.0 ≡ r.g.0 → R a r → R a (answered_row r)
    pub lowers : (a : Authority) (r : LockRow) (m : Message) (g : GrantNo) (to : Mode) → i ≡ Control m → m.body ≡ bodies.Released w.ino g to →
        m.header.from ≡ r.client.0 → g.0 ≡ r.g.0 → R a r → R a (lowered r)
    pub demands : (a : Authority) (r : LockRow) (to : Mode) (y : RowDemand) → demand_now k now (is_tick i) to r.demand ≡ Some y → R a r → R a (demanded y r)
    pub suspects : (a : Authority) (c : ClientId) (r : LockRow) → may_ack a c ≡ true → DemandInTime last now.0 k.demand (may_ack a r.client) r.demand → R a r →
        R (authority.suspect a c now) r
    pub timers : (a b : Authority) (r : LockRow) → suspect_of b r.client ≡ suspect_of a r.client → R a r → R b r

  module _ (k : Config) (last : ℕ) (now : Stamp) (i : ServerInput) (kept : Kept k last now i) where
    answered_keys : (r : LockRow) →
        (((answered_row r).client ≡ r.client) × ((answered_row r).ino ≡ r.ino)) × (((lowered r).client ≡ r.client) × ((lowered r).ino ≡ r.ino))
    unfolding answered_row lowered
    answered_keys r = ((refl, refl), (refl, refl))

    sees : (a : Authority) (l : Locks) (m : Message) (ino : ℕ) (g : GrantNo) → i ≡ Control m → m.body ≡ bodies.DemandSeen ino g → Waits a l →
        Waits a (locks.demand_seen l (sender m.header) ino g)
    unfolding locks.demand_seen
    sees a l m ino g is b x =
        changed a l (locks.demand_seen l (sender m.header) ino g) (observe (sender m.header) ino g) refl refl (seen_once l (sender m.header) ino g x.once) (observe_keys (sender m.header) ino g)
        (λ r h f n y. cond_either (R a) (is_row_of (sender m.header) ino r && (r.g.0 == g.0)) (answered_row r) r
        (λ e. let z = and_true (r.client.0 == (sender m.header).0) (r.ino == ino) (and_true (is_row_of (sender m.header) ino r) (r.g.0 == g.0) e).0 in
        kept.seen a r m g is (b ∙ ap (λ f. bodies.DemandSeen f g) (sym (eqb-true r.ino ino z.1) ∙ f)) (sym (eqb-true r.client.0 (sender m.header).0 z.0)) (sym (eqb-true r.g.0 g.0 (and_true (is_row_of (sender m.header) ino r) (r.g.0 == g.0) e).1)) y) (λ e. y)) x
      where
        observe_keys : (c : ClientId) (ino : ℕ) (g : GrantNo) (r : LockRow) → ((observe c ino g r).client ≡ r.client) × ((observe c ino g r).ino ≡ r.ino)
        observe_keys c ino g r = cond_either (λ (q : LockRow). (q.client ≡ r.client) × (q.ino ≡ r.ino)) (is_row_of c ino r && (r.g.0 == g.0)) (answered_row r) r (λ e. (answered_keys r).0) (λ e. (refl, refl))

    lower_rows : (a : Authority) (l v : Locks) (m : Message) (ino : ℕ) (g : GrantNo) (to : Mode) (found : LockRow) → i ≡ Control m →
        m.body ≡ bodies.Released ino g to →
        row_of l (sender m.header) ino ≡ Some found → is_under (life_in m.header) g found ≡ true → v.rows ≡ map (lower (sender m.header) ino) l.rows → v.waiters ≡ l.waiters → are_once same_row v.rows ≡ true → Waits a l → Waits a v
    lower_rows a l v m ino g to found is b fo un er ew o x =
        changed a l v (lower (sender m.header) ino) er ew o (λ r. cond_either (λ (q : LockRow). (q.client ≡ r.client) × (q.ino ≡ r.ino)) (is_row_of (sender m.header) ino r) (lowered r) r (λ e. (answered_keys r).1) (λ e. (refl, refl)))
        (λ r h f n y. cond_either (R a) (is_row_of (sender m.header) ino r) (lowered r) r
        (λ e. let z = and_true (r.client.0 == (sender m.header).0) (r.ino == ino) e in
        kept.lowers a r m g to is (b ∙ ap (λ f. bodies.Released f g to) (sym (eqb-true r.ino ino z.1) ∙ f)) (sym (eqb-true r.client.0 (sender m.header).0 z.0))
        (sym (eqb-true found.g.0 g.0 (and_true (found.life.0 == m.header.life) (found.g.0 == g.0) un).1) ∙ ap (λ (p : LockRow). p.g.0) (sym (found_is l x.once (sender m.header) ino r found h e fo))) y) (λ e. y)) x

    releases : (a : Authority) (l : Locks) (m : Message) (ino : ℕ) (g : GrantNo) (to : Mode) (found : LockRow) → i ≡ Control m →
        m.body ≡ bodies.Released ino g to →
        row_of l (sender m.header) ino ≡ Some found → is_under (life_in m.header) g found ≡ true → Waits a l → Waits a (release_to l (sender m.header) ino to)
    unfolding release_to
    releases a l m ino g modes.None found is b fo un x = waits_with_fewer_rows a l (locks.without_row (sender m.header) ino l.rows) (released_once l (sender m.header) ino modes.None x.once) (λ r j. (has_filter (λ r. not (is_row_of (sender m.header) ino r)) l.rows r j).0) x
    releases a l m ino g modes.S found is b fo un x = lower_rows a l (release_to l (sender m.header) ino modes.S) m ino g modes.S found is b fo un refl refl (released_once l (sender m.header) ino modes.S x.once) x
    releases a l m ino g modes.X found is b fo un x = lower_rows a l (release_to l (sender m.header) ino modes.X) m ino g modes.X found is b fo un refl refl (released_once l (sender m.header) ino modes.X x.once) x

    -- the row that is demanded is the one that was found
    demand_row : (a : Authority) (l : Locks) (r : LockRow) (y : RowDemand) (to : Mode) → row_of l r.client r.ino ≡ Some r →
        demand_now k now (is_tick i) to r.demand ≡ Some y → Waits a l → Waits a (with_demand r y l)
    demand_row a l r y to e d x =
        changed a l (with_demand r y l) (demand_of r.client r.ino y) refl refl (demanded_once l r y x.once) (λ q. let z = demand_keys r.client r.ino y q in (z.client, z.ino))
        (λ q h f n v. cond_either (R a) (is_row_of r.client r.ino q) (demanded y q) q (λ b. kept.demands a q to y (ap (λ (p : LockRow). demand_now k now (is_tick i) to p.demand) (found_is l x.once r.client r.ino q r h b e) ∙ d) v) (λ b. v)) x

    -- every change, outside grace
    module _ (wait : ℕ) (g : Option Grace) (n : ServerState) (off : grace.is_on g now ≡ false) (p : 1 ≤ k.demand) (q : 1 ≤ wait) (late : last ≤ now.0)
        (first : Waits (thefts (turn n []) now).state.authority (thefts (turn n []) now).state.locks) where
      pub record Chasing (t : ServerTurn) : Type 0 where
        pub going : WithinStep k wait last now g t
        pub either : Either t.state.authority t.state.locks

      behind_thefts : (t : ServerTurn) → t ≡ thefts (turn n []) now → Waits t.state.authority t.state.locks
      behind_thefts t e = subst (λ (u : ServerTurn). Waits u.state.authority u.state.locks) (sym e) first

      either_edit : (t u : ServerTurn) → Edit n now i t u → WithinStep k wait last now g t → Either t.state.authority t.state.locks →
          Either u.state.authority u.state.locks
      unfolding steal_from suspect_client keep_and_reply reply tell locks.forget locks.drop_waits locks.drop_file_waits
      either_edit t u (TakesTimers _ z) o x = timed t.state.authority (authority.still_running t.state.authority now) t.state.locks (λ r h y. kept.timers t.state.authority (authority.still_running t.state.authority now) r (taken_out wait now t.state.authority o.wait_is o.timers r.client) y) x
      either_edit t u (Steals _ c s h e) o x = robs x
        where
          rows : List LockRow
          rows = filter (λ r. not (locks.is_row_by c r)) t.state.locks.rows

          robs : Either t.state.authority t.state.locks →
              Either t.state.authority (record t.state.locks { rows = rows; waiters = filter (λ v. not (is_wait_by c v)) t.state.locks.waiters })
          robs (inl y) = left_out t.state.authority (record t.state.locks { rows = rows }) (λ v. not (is_wait_by c v)) (inl y)
          robs (inr y) =
              left_out t.state.authority (record t.state.locks { rows = rows }) (λ v. not (is_wait_by c v))
              (inr (waits_with_fewer_rows t.state.authority t.state.locks rows (forget_once t.state.locks c y.once) (λ r j. (has_filter (λ r. not (locks.is_row_by c r)) t.state.locks.rows r j).0) y))
      either_edit t u (Suspects _ c z f y) o x =
          left_out (authority.suspect t.state.authority c now) t.state.locks (λ v. not (is_wait_by c v))
          (timed t.state.authority (authority.suspect t.state.authority c now) t.state.locks (λ r h v. kept.suspects t.state.authority c r f (o.rows r h) v) x)
      either_edit t u (Begins _ c life) o x = x
      either_edit t u (DropsWaits _ m s is b e f) o x = left_out t.state.authority t.state.locks (λ v. not (is_wait_by (sender m.header) v)) x
      either_edit t u (Keeps _ c number b e) o x = x
      either_edit t u (Reasserts _ m rows is y gr f) o x = absurd (not_both (grace.is_on t.state.grace now) gr.on (ap (λ z. grace.is_on z now) o.grace ∙ off))
      either_edit t u (Sees _ m ino gr is fi b) o (inl x) = inl (gone_seen t.state.locks (sender m.header) ino gr x)
      either_edit t u (Sees _ m ino gr is fi b) o (inr x) = inr (sees t.state.authority t.state.locks m ino gr is b x)
      either_edit t u (Acquires _ m ino mode v b y is fi by hs hl ok kb a) o x = acquired t.state.authority _ t.state.locks (sender m.header) (life_in m.header) ino mode v a (behind_thefts t fi)
      either_edit t u (Releases _ m ino gr to r is fi b e f) o (inl x) = inl (gone_released t.state.locks (sender m.header) ino to x)
      either_edit t u (Releases _ m ino gr to r is fi b e f) o (inr x) = inr (releases t.state.authority t.state.locks m ino gr to r is b e f x)
      either_edit t u (DropsFile _ m dir nm gr ino is b e) o x = left_out t.state.authority t.state.locks (λ v. not (is_wait_on ino v)) x
      either_edit t u (Grants _ v of h e f) o (inl x) = inl (gone_more t.state.locks v x)
      either_edit t u (Grants _ v of h e f) o (inr x) = grants t.state.authority t.state.locks v e x
      either_edit t u (Demands _ r y to e d) o (inl x) = inl x
      either_edit t u (Demands _ r y to e d) o (inr x) = inr (demand_row t.state.authority t.state.locks r y to e (ap (λ kb. demand_now kb now (is_tick i) to r.demand) (sym o.config) ∙ d) x)
      either_edit t u (NamesChange _ v) o x = x
      either_edit t u (ExtentsChange _ v) o x = x
      either_edit t u (Cuts _ f y) o x = x
      either_edit t u (Replies _ m b is ok) o x = x
      either_edit t u (Repeats _ m s z b is r f e y) o x = x
      either_edit t u (Refuses _ m rows r is f y e) o x = x
      either_edit t u (TellsGrant _ c life ino gr mode) o x = x
      either_edit t u (TellsDemand _ c life ino gr mode) o x = x

      pub chase_edit : (t u : ServerTurn) → Edit n now i t u → Chasing t → Chasing u
      chase_edit t u e o = record { going = edit k wait last now g n i t u p q late e o.going; either = either_edit t u e o.going o.either }
