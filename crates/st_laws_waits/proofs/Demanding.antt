-- After a demanding pass each row in the way of a first waiter, of a client that isn't a suspect, is demanded, and on a tick none of these demands is old: the
-- pass comes to each such row, and what it sends changes no client, file or mode.
use Rattle.st_lemmas.proofs.Words
use Words.{◌≡◌, ℕ, ◌+◌, ◌≤◌, ◌<◌, ◌⊎◌, Bool, true, false, not, ◌&&◌, List, [], ◌∷◌, ◌==◌, refl, sym, ap, ◌∙◌, subst, inl, inr, arith, cond, find, filter}
use Words.{map, nat_le, Option, Some, None, is_some, option_map, list_any, eqb-true, eq-eqb, leb-false, Config, ClientId, GrantNo, Life, Stamp, Mode}
use Words.{ServerInput, LockRow, RowDemand, Waiter}
use Words.bodies
use Words.Authority as authority
use Words.Authority.{Authority, is_suspect, may_ack, suspect_of, suspects_of}
use Words.Keys.{client, rising, same_client}
use Words.Locks as locks
use Words.Locks.{Demanding, Locks, demand_again, demand_clients, demand_files, demand_for, demand_lower, demand_now, demand_of, demand_row, demand_with}
use Words.Locks.{demanded, demands_due, is_among, is_row_of, is_wait_on, row_of, stands_against, to_demand, waited_files, wish, with_demand}
use Words.Server.{ServerState, ServerTurn, demand_by, demanding, is_tick, tell, tell_demanded, with_locks}
use Words.Lists.{Has}
use Words.Lookups.{some_is}
use Words.Tables.{and_both, and_true, cond_either, find_map, found_at, has_filter_in, has_map, has_map_in, none_has}
use Words.Members.{some_member_passes}
use Words.Tests.{any_map}
use Words.Truth.{none_there, not_both}
use Rattle.st_base.specs.Mode.{conflicts}
use Rattle.st_lemmas.proofs.Keys.{rising_has_in}
use Rattle.st_laws_waits.specs.Bounds.{AllBlocked, AllDemanded}

-- a demand that was sent now
abbrev pub SentNow : Stamp → Option RowDemand → Type 0
SentNow now None = ⊥
SentNow now (Some d) = d.sent ≡ now

-- a row that was demanded once more is the same except for its demand
pub record SameRow (now : Stamp) (r q : LockRow) : Type 0 where
  pub client : q.client ≡ r.client
  pub ino : q.ino ≡ r.ino
  pub mode : q.mode ≡ r.mode
  pub demand : (q.demand ≡ r.demand) ⊎ SentNow now q.demand

-- what a look-up finds
abbrev pub FoundSame : Stamp → Option LockRow → Option LockRow → Type 0
FoundSame now None o = o ≡ None
FoundSame now (Some r) None = ⊥
FoundSame now (Some r) (Some q) = SameRow now r q

-- the table except for demands
pub record SameTable (now : Stamp) (l v : Locks) : Type 0 where
  pub waits : v.waiters ≡ l.waiters
  pub found : (c : ClientId) (ino : ℕ) → FoundSame now (row_of l c ino) (row_of v c ino)
  pub against : (c : ClientId) (ino : ℕ) (m : Mode) → list_any (stands_against c ino m) v.rows ≡ list_any (stands_against c ino m) l.rows

-- a row that is demanded keeps client, file and mode, whatever the demand
pub record SameKeys (r q : LockRow) : Type 0 where
  pub client : q.client ≡ r.client
  pub ino : q.ino ≡ r.ino
  pub mode : q.mode ≡ r.mode

pub demand_keys : (c : ClientId) (ino : ℕ) (d : RowDemand) (r : LockRow) → SameKeys r (demand_of c ino d r)
unfolding demanded
demand_keys c ino d r = cond_either (SameKeys r) (is_row_of c ino r) (demanded d r) r (λ e. record { client = refl; ino = refl; mode = refl }) (λ e. record { client = refl; ino = refl; mode = refl })

-- a test of client, file and mode
against_keys : (c : ClientId) (ino : ℕ) (m : Mode) (r q : LockRow) → SameKeys r q → stands_against c ino m q ≡ stands_against c ino m r
against_keys c ino m r q s =
    ap (λ i. (i == ino) && (not (same_client q.client c) && conflicts q.mode m)) s.ino
    ∙ ap (λ d. (r.ino == ino) && (not (same_client d c) && conflicts q.mode m)) s.client
    ∙ ap (λ x. (r.ino == ino) && (not (same_client r.client c) && conflicts x m)) s.mode

row_same : (c : ClientId) (ino : ℕ) (r q : LockRow) → SameKeys r q → is_row_of c ino q ≡ is_row_of c ino r
row_same c ino r q s = ap (λ (d : ClientId). (d.0 == c.0) && (q.ino == ino)) s.client ∙ ap (λ i. (r.client.0 == c.0) && (i == ino)) s.ino

pub found_row : (d : RowDemand) (r : LockRow) (l : Locks) (c : ClientId) (ino : ℕ) →
    row_of (with_demand r d l) c ino ≡ option_map (demand_of r.client r.ino d) (row_of l c ino)
found_row d r l c ino = find_map (is_row_of c ino) (demand_of r.client r.ino d) (λ x. row_same c ino x (demand_of r.client r.ino d x) (demand_keys r.client r.ino d x)) l.rows

-- what is sent, if anything is, is sent now
abbrev pub MaybeSent : Stamp → Option RowDemand → Type 0
MaybeSent now None = Unit {0}
MaybeSent now (Some d) = d.sent ≡ now

-- a demand that is due, or on a tick not old
abbrev pub IsDue : Config → Stamp → Bool → Option RowDemand → Type 0
IsDue k now tick None = ⊥
IsDue k now tick (Some d) = tick ≡ true → now.0 < d.sent.0 + k.retry

pub due_some : (k : Config) (now : Stamp) (tick : Bool) (o : Option RowDemand) → IsDue k now tick o → is_some o ≡ true
due_some k now tick None d = elim d [ ]
due_some k now tick (Some x) d = refl

module _ (now : Stamp) where
  same_self : (r : LockRow) → SameRow now r r
  same_self r = record { client = refl; ino = refl; mode = refl; demand = inl refl }

  same_then : (r q p : LockRow) → SameRow now r q → SameRow now q p → SameRow now r p
  same_then r q p a b = record { client = b.client ∙ a.client; ino = b.ino ∙ a.ino; mode = b.mode ∙ a.mode; demand = go a.demand b.demand }
    where
      go : (q.demand ≡ r.demand) ⊎ SentNow now q.demand → (p.demand ≡ q.demand) ⊎ SentNow now p.demand → (p.demand ≡ r.demand) ⊎ SentNow now p.demand
      go (inl e) (inl f) = inl (f ∙ e)
      go (inr e) (inl f) = inr (subst (SentNow now) (sym f) e)
      go x (inr f) = inr f

  same_keys : (r q : LockRow) → SameRow now r q → SameKeys r q
  same_keys r q s = record { client = s.client; ino = s.ino; mode = s.mode }

  demand_same : (c : ClientId) (ino : ℕ) (d : RowDemand) (r : LockRow) → d.sent ≡ now → SameRow now r (demand_of c ino d r)
  unfolding demanded
  demand_same c ino d r s = cond_either (SameRow now r) (is_row_of c ino r) (demanded d r) r (λ e. record { client = refl; ino = refl; mode = refl; demand = inr s }) (λ e. same_self r)

  found_self : (o : Option LockRow) → FoundSame now o o
  found_self None = refl
  found_self (Some r) = same_self r

  found_then : (o p q : Option LockRow) → FoundSame now o p → FoundSame now p q → FoundSame now o q
  found_then None None q e f = f
  found_then None (Some p) q e f = cc
  found_then (Some r) None q e f = elim e [ ]
  found_then (Some r) (Some p) None e f = elim f [ ]
  found_then (Some r) (Some p) (Some q) e f = same_then r p q e f

  table_self : (l : Locks) → SameTable now l l
  table_self l = record { waits = refl; found = λ c i. found_self (row_of l c i); against = λ c i m. refl }

  table_then : (l v u : Locks) → SameTable now l v → SameTable now v u → SameTable now l u
  table_then l v u a b =
      record {
        waits = b.waits ∙ a.waits;
        found = λ c i. found_then (row_of l c i) (row_of v c i) (row_of u c i) (a.found c i) (b.found c i);
        against = λ c i m. b.against c i m ∙ a.against c i m;
      }

  found_demand : (f : LockRow → LockRow) → ((r : LockRow) → SameRow now r (f r)) → (o : Option LockRow) → FoundSame now o (option_map f o)
  found_demand f h None = refl
  found_demand f h (Some r) = h r

  demand_table : (d : RowDemand) (r : LockRow) (l : Locks) → d.sent ≡ now → SameTable now l (with_demand r d l)
  demand_table d r l s =
      record {
        waits = refl;
        found = λ c i. subst (FoundSame now (row_of l c i)) (sym (found_row d r l c i)) (found_demand (demand_of r.client r.ino d) (λ x. demand_same r.client r.ino d x s) (row_of l c i));
        against = λ c i m. any_map (stands_against c i m) (demand_of r.client r.ino d) (λ x. against_keys c i m x (demand_of r.client r.ino d x) (demand_keys r.client r.ino d x)) l.rows;
      }

  against_same : (c : ClientId) (ino : ℕ) (m : Mode) (r q : LockRow) → SameRow now r q → stands_against c ino m q ≡ stands_against c ino m r
  against_same c ino m r q s = against_keys c ino m r q (same_keys r q s)

module _ (k : Config) (now : Stamp) (tick : Bool) (rp : 1 ≤ k.retry) where
  due_more : (r q : LockRow) → SameRow now r q → IsDue k now tick r.demand → IsDue k now tick q.demand
  due_more r q s d = go s.demand
    where
      sent : (o : Option RowDemand) → SentNow now o → IsDue k now tick o
      sent None z = elim z [ ]
      sent (Some d) z = λ t. let y = ap (λ (t : Stamp). t.0) z in omega (arith, y, rp)

      go : (q.demand ≡ r.demand) ⊎ SentNow now q.demand → IsDue k now tick q.demand
      go (inl e) = subst (IsDue k now tick) (sym e) d
      go (inr z) = sent q.demand z

  -- a row that is found has a demand
  abbrev Has_demand : Locks → ClientId → ℕ → Type 0
  Has_demand l c ino = (r : LockRow) → row_of l c ino ≡ Some r → IsDue k now tick r.demand

  has_more : (l v : Locks) (c : ClientId) (ino : ℕ) → SameTable now l v → Has_demand l c ino → Has_demand v c ino
  has_more l v c ino s h q e = go (row_of l c ino) refl (subst (FoundSame now (row_of l c ino)) e (s.found c ino))
    where
      go : (o : Option LockRow) → row_of l c ino ≡ o → FoundSame now o (Some q) → IsDue k now tick q.demand
      go None f z = cc
      go (Some r) f z = due_more r q z (h r f)

  -- what is demanded now is sent now
  sent_some : (to : Mode) (o : Option RowDemand) → MaybeSent now (demand_now k now tick to o)
  unfolding demand_now demand_lower demand_again
  sent_some to None = refl
  sent_some to (Some d) =
      cond_either (MaybeSent now) (locks.is_below to d.to) (Some (locks.sent_again now to d)) (demand_again k now tick d) (λ e. refl)
      (λ e. cond_either (MaybeSent now) (tick && nat_le (d.sent.0 + k.retry) now.0) (Some (locks.sent_again now d.to d)) None (λ f. refl) (λ f. tt))

  pub sent_is : (to : Mode) (o : Option RowDemand) (x : RowDemand) → demand_now k now tick to o ≡ Some x → x.sent ≡ now
  sent_is to o x e = subst (MaybeSent now) e (sent_some to o)

  with_table : (p : Demanding) (r : LockRow) (o : Option RowDemand) → MaybeSent now o → SameTable now p.locks (demand_with p r o).locks
  unfolding demand_with
  with_table p r None s = table_self now p.locks
  with_table p r (Some d) s = demand_table now d r p.locks s

  row_table : (to : Mode) (o : Option LockRow) (p : Demanding) → SameTable now p.locks (demand_row k now tick to o p).locks
  unfolding demand_row
  row_table to None p = table_self now p.locks
  row_table to (Some r) p = with_table p r (demand_now k now tick to r.demand) (sent_some to r.demand)

  clients_table : (ino : ℕ) (to : Mode) (cs : List ClientId) (p : Demanding) → SameTable now p.locks (demand_clients k now tick ino to cs p).locks
  unfolding demand_clients
  clients_table ino to [] p = table_self now p.locks
  clients_table ino to (c ∷ cs) p =
      let q = demand_row k now tick to (row_of p.locks c ino) p in
      table_then now p.locks q.locks (demand_clients k now tick ino to cs q).locks (row_table to (row_of p.locks c ino) p) (clients_table ino to cs q)

  for_table : (ss : List ClientId) (o : Option Waiter) (p : Demanding) → SameTable now p.locks (demand_for k now tick ss o p).locks
  unfolding demand_for
  for_table ss None p = table_self now p.locks
  for_table ss (Some w) p = clients_table w.ino (wish w.mode) (to_demand p.locks ss w) p

  files_table : (ss : List ClientId) (inos : List ℕ) (p : Demanding) → SameTable now p.locks (demand_files k now tick ss inos p).locks
  unfolding demand_files
  files_table ss [] p = table_self now p.locks
  files_table ss (ino ∷ inos) p =
      let q = demand_for k now tick ss (find (is_wait_on ino) p.locks.waiters) p in
      table_then now p.locks q.locks (demand_files k now tick ss inos q).locks (for_table ss (find (is_wait_on ino) p.locks.waiters) p) (files_table ss inos q)

  -- a demand that is not sent now is there, and on a tick it is not old
  due_now : (to : Mode) (o : Option RowDemand) → demand_now k now tick to o ≡ None → IsDue k now tick o
  unfolding demand_now demand_lower demand_again
  due_now to None e = cc
  due_now to (Some d) e = λ t. leb-false (d.sent.0 + k.retry) now.0 (not_old t (nat_le (d.sent.0 + k.retry) now.0) (by (locks.is_below to d.to) e))
    where
      by : (b : Bool) → cond b (Some (locks.sent_again now to d)) (demand_again k now tick d) ≡ None →
          cond (tick && nat_le (d.sent.0 + k.retry) now.0) (Some (locks.sent_again now d.to d)) None ≡ None
      by true z = cc
      by false z = z

      off : (b : Bool) → cond b (Some (locks.sent_again now d.to d)) None ≡ None → b ≡ false
      off true z = cc
      off false z = refl

      not_old : tick ≡ true → (b : Bool) → cond (tick && b) (Some (locks.sent_again now d.to d)) None ≡ None → b ≡ false
      not_old t b z = sym (ap (λ x. x && b) t) ∙ off (tick && b) z

  with_has : (p : Demanding) (c : ClientId) (ino : ℕ) (to : Mode) (r : LockRow) (x : Option RowDemand) → row_of p.locks c ino ≡ Some r →
      demand_now k now tick to r.demand ≡ x → Has_demand (demand_with p r x).locks c ino
  unfolding demand_with demanded
  with_has p c ino to r None e d q f = subst (λ (y : LockRow). IsDue k now tick y.demand) (some_is (sym e ∙ f)) (due_now to r.demand d)
  with_has p c ino to r (Some x) e d q f =
      subst (λ (y : LockRow). IsDue k now tick y.demand) (some_is (sym (ap (option_map (demand_of r.client r.ino x)) e) ∙ sym (found_row x r p.locks c ino) ∙ f))
      (cond_either (λ (y : LockRow). IsDue k now tick y.demand) (is_row_of r.client r.ino r) (demanded x r) r (λ y t. let z = ap (λ (v : Stamp). v.0) (subst (MaybeSent now) d (sent_some to r.demand)) in omega (arith, z, rp))
      (λ y. absurd (not_both (is_row_of r.client r.ino r) (and_both _ _ (eq-eqb r.client.0 r.client.0 refl) (eq-eqb r.ino r.ino refl)) y)))

  none_has_demand : (l : Locks) (c : ClientId) (ino : ℕ) → row_of l c ino ≡ None → Has_demand l c ino
  none_has_demand l c ino e q f = no (sym e ∙ f)
    where
      no : ◌≡◌ {A = Option LockRow} None (Some q) → IsDue k now tick q.demand
      no z = cc

  row_has : (to : Mode) (c : ClientId) (ino : ℕ) (o : Option LockRow) (p : Demanding) → row_of p.locks c ino ≡ o →
      Has_demand (demand_row k now tick to o p).locks c ino
  unfolding demand_row
  row_has to c ino None p e = none_has_demand p.locks c ino e
  row_has to c ino (Some r) p e = with_has p c ino to r (demand_now k now tick to r.demand) e refl

  clients_has : (ino : ℕ) (to : Mode) (cs : List ClientId) (p : Demanding) (c : ClientId) → Has c cs →
      Has_demand (demand_clients k now tick ino to cs p).locks c ino
  unfolding demand_clients
  clients_has ino to [] p c h = elim h [ ]
  clients_has ino to (d ∷ cs) p c h = go h (clients_has ino to cs q c)
    where
      q : Demanding
      q = demand_row k now tick to (row_of p.locks d ino) p

      go : (c ≡ d) ⊎ Has c cs → (Has c cs → Has_demand (demand_clients k now tick ino to cs q).locks c ino) →
          Has_demand (demand_clients k now tick ino to cs q).locks c ino
      go (inl e) r =
          has_more q.locks (demand_clients k now tick ino to cs q).locks c ino (clients_table ino to cs q)
          (subst (λ x. Has_demand q.locks x ino) (sym e) (row_has to d ino (row_of p.locks d ino) p refl))
      go (inr i) r = r i

  -- a client with a row in the way, that isn't a suspect, is among those that are demanded of
  module _ (a : Authority) where
    not_among : (c : ClientId) → may_ack a c ≡ true → not (is_among (suspects_of a) c) ≡ true
    not_among c f = go (is_among (suspects_of a) c) refl
      where
        go : (b : Bool) → is_among (suspects_of a) c ≡ b → not b ≡ true
        go false e = refl
        go true e =
            let x = some_member_passes (same_client c) (suspects_of a) e in
            let m = has_map authority.client_of_suspect a.suspects x.0 x.1 in
            absurd (not_both (is_suspect c m.0) (eq-eqb m.0.client.0 c.0 (sym (ap (λ (z : ClientId). z.0) m.2) ∙ sym (eqb-true c.0 x.0.0 x.2))) (none_has (is_suspect c) a.suspects (none_there (suspect_of a c) f) m.0 m.1))

    asked : (l : Locks) (w : Waiter) (c : ClientId) (r : LockRow) → row_of l c w.ino ≡ Some r → stands_against w.client w.ino w.mode r ≡ true →
        may_ack a c ≡ true → Has c (to_demand l (suspects_of a) w)
    asked l w c r e s f =
        has_filter_in (λ c. not (is_among (suspects_of a) c)) _ c
        (subst (λ n. Has (client n) (map client (rising (map locks.client_of_row (filter (stands_against w.client w.ino w.mode) l.rows))))) (eqb-true r.client.0 c.0 (and_true (r.client.0 == c.0) _ z.0).0)
        (has_map_in client _ r.client.0 (rising_has_in _ r.client.0 (has_map_in locks.client_of_row _ r (has_filter_in (stands_against w.client w.ino w.mode) l.rows r z.1 s))))) (not_among c f)
      where
        z : (is_row_of c w.ino r ≡ true) × Has r l.rows
        z = found_at (is_row_of c w.ino) l.rows r e

    -- the rows in the way of the first waiter of this file are demanded
    abbrev Done : ℕ → Locks → Type 0
    Done ino l =
        (w : Waiter) (c : ClientId) (r : LockRow) → find (is_wait_on ino) l.waiters ≡ Some w → row_of l c ino ≡ Some r →
        stands_against w.client w.ino w.mode r ≡ true →
        may_ack a c ≡ true → IsDue k now tick r.demand

    done_more : (ino : ℕ) (l v : Locks) → SameTable now l v → Done ino l → Done ino v
    done_more ino l v s d w c q e f st free = go (row_of l c ino) refl (subst (FoundSame now (row_of l c ino)) f (s.found c ino))
      where
        go : (o : Option LockRow) → row_of l c ino ≡ o → FoundSame now o (Some q) → IsDue k now tick q.demand
        go None g z = cc
        go (Some r) g z = due_more r q z (d w c r (sym (ap (find (is_wait_on ino)) s.waits) ∙ e) g (sym (against_same now w.client w.ino w.mode r q z) ∙ st) free)

    for_done : (ino : ℕ) (o : Option Waiter) (p : Demanding) → find (is_wait_on ino) p.locks.waiters ≡ o →
        Done ino (demand_for k now tick (suspects_of a) o p).locks
    unfolding demand_for
    for_done ino None p e w c r f g st free = no (sym e ∙ f)
      where
        no : ◌≡◌ {A = Option Waiter} None (Some w) → IsDue k now tick r.demand
        no z = cc
    for_done ino (Some v) p e w c q f g st free = go (row_of p.locks c ino) refl (subst (FoundSame now (row_of p.locks c ino)) g (table.found c ino))
      where
        u : Locks
        u = (demand_clients k now tick v.ino (wish v.mode) (to_demand p.locks (suspects_of a) v) p).locks

        table : SameTable now p.locks u
        table = clients_table v.ino (wish v.mode) (to_demand p.locks (suspects_of a) v) p

        same : v ≡ w
        same = some_is (sym e ∙ sym (ap (find (is_wait_on ino)) table.waits) ∙ f)

        file : v.ino ≡ ino
        file = eqb-true v.ino ino (found_at (is_wait_on ino) p.locks.waiters v e).0

        go : (o : Option LockRow) → row_of p.locks c ino ≡ o → FoundSame now o (Some q) → IsDue k now tick q.demand
        go None h z = cc
        go (Some r) h z =
            clients_has v.ino (wish v.mode) (to_demand p.locks (suspects_of a) v) p c
            (asked p.locks v c r (ap (row_of p.locks c) file ∙ h) (subst (λ (y : Waiter). stands_against y.client y.ino y.mode r ≡ true) (sym same) (sym (against_same now w.client w.ino w.mode r q z) ∙ st)) free)
            q (ap (row_of u c) file ∙ g)

    files_done : (inos : List ℕ) (p : Demanding) (j : ℕ) → Has j inos ⊎ Done j p.locks → Done j (demand_files k now tick (suspects_of a) inos p).locks
    unfolding demand_files
    files_done [] p j (inl h) = elim h [ ]
    files_done [] p j (inr d) = d
    files_done (ino ∷ inos) p j h = files_done inos q j (go h)
      where
        q : Demanding
        q = demand_for k now tick (suspects_of a) (find (is_wait_on ino) p.locks.waiters) p

        go : Has j (ino ∷ inos) ⊎ Done j p.locks → Has j inos ⊎ Done j q.locks
        go (inl (inl e)) = inr (subst (λ i. Done i q.locks) (sym e) (for_done ino (find (is_wait_on ino) p.locks.waiters) p refl))
        go (inl (inr i)) = inl i
        go (inr d) = inr (done_more j p.locks q.locks (for_table (suspects_of a) (find (is_wait_on ino) p.locks.waiters) p) d)

    pub due_all : (l : Locks) (ino : ℕ) → Done ino (demands_due l now tick (suspects_of a) k).locks
    unfolding demands_due
    due_all l ino w c r e f st free = files_done (waited_files l) (locks.nothing_demanded l) ino (inl waited) w c r e f st free
      where
        table : SameTable now l (demand_files k now tick (suspects_of a) (waited_files l) (locks.nothing_demanded l)).locks
        table = files_table (suspects_of a) (waited_files l) (locks.nothing_demanded l)

        z : (is_wait_on ino w ≡ true) × Has w l.waiters
        z = found_at (is_wait_on ino) l.waiters w (sym (ap (find (is_wait_on ino)) table.waits) ∙ e)

        waited : Has ino (waited_files l)
        waited = rising_has_in _ ino (subst (λ f. Has f (map locks.ino_of_wait l.waiters)) (eqb-true w.ino ino z.0) (has_map_in locks.ino_of_wait l.waiters w z.1))

    pub due_demanded : (l : Locks) → AllDemanded a (demands_due l now tick (suspects_of a) k).locks
    due_demanded l ino w c r e f st free = due_some k now tick r.demand (due_all l ino w c r e f st free)

    pub due_table : (l : Locks) → SameTable now l (demands_due l now tick (suspects_of a) k).locks
    unfolding demands_due
    due_table l = files_table (suspects_of a) (waited_files l) (locks.nothing_demanded l)

-- what is reported about demands changes no state
demanded_told : (rs : List (ClientId × Life × ℕ × GrantNo × Mode)) (t : ServerTurn) → (tell_demanded rs t).state ≡ t.state
unfolding tell_demanded tell
demanded_told [] t = refl
demanded_told (r ∷ rs) t = demanded_told rs (tell t r.0 r.1 (bodies.Demand r.2 r.3 r.4))

-- the pass
pub pass_is : (t : ServerTurn) (now : Stamp) (i : ServerInput) →
    (demanding t now i).state ≡ (with_locks (demands_due t.state.locks now (is_tick i) (suspects_of t.state.authority) t.state.config).locks t).state
unfolding demanding demand_by
pass_is t now i = demanded_told (demands_due t.state.locks now (is_tick i) (suspects_of t.state.authority) t.state.config).due _

pub pass_demanded : (t : ServerTurn) (now : Stamp) (i : ServerInput) → 1 ≤ t.state.config.retry →
    AllDemanded (demanding t now i).state.authority (demanding t now i).state.locks
pass_demanded t now i rp = subst (λ (s : ServerState). AllDemanded s.authority s.locks) (sym (pass_is t now i)) (due_demanded t.state.config now (is_tick i) rp t.state.authority t.state.locks)

pub pass_blocked : (t : ServerTurn) (now : Stamp) (i : ServerInput) → 1 ≤ t.state.config.retry → AllBlocked t.state.locks → AllBlocked (demanding t now i).state.locks
pass_blocked t now i rp b =
    subst (λ (s : ServerState). AllBlocked s.locks) (sym (pass_is t now i))
    (λ ino w e. z.against w.client w.ino w.mode ∙ b ino w (sym (ap (find (is_wait_on ino)) z.waits) ∙ e))
  where
    z : SameTable now t.state.locks (demands_due t.state.locks now (is_tick i) (suspects_of t.state.authority) t.state.config).locks
    z = due_table t.state.config now (is_tick i) rp t.state.authority t.state.locks

-- on a tick no demand on a row in the way of a first waiter, of a client that isn't a suspect, is old
pub pass_due : (t : ServerTurn) (now : Stamp) (i : ServerInput) → 1 ≤ t.state.config.retry → (ino : ℕ) (w : Waiter) (c : ClientId) (r : LockRow) →
    find (is_wait_on ino) (demanding t now i).state.locks.waiters ≡ Some w →
    row_of (demanding t now i).state.locks c ino ≡ Some r → stands_against w.client w.ino w.mode r ≡ true → may_ack (demanding t now i).state.authority c ≡ true → IsDue t.state.config now (is_tick i) r.demand
pass_due t now i rp ino w c r = subst (λ (s : ServerState). find (is_wait_on ino) s.locks.waiters ≡ Some w → row_of s.locks c ino ≡ Some r → stands_against w.client w.ino w.mode r ≡ true → may_ack s.authority c ≡ true → IsDue t.state.config now (is_tick i) r.demand)
    (sym (pass_is t now i)) (λ e f st free. due_all t.state.config now (is_tick i) rp t.state.authority t.state.locks ino w c r e f st free)
