-- Whoever has a row, a wait or a timer at a server has a session there: what the rules change of these.
use Rattle.st_lemmas.proofs.Words
use Words.{◌≡◌, ℕ, ◌⊎◌, Bool, true, false, List, [], ◌∷◌, refl, sym, ap, ◌∙◌, subst, inl, inr, cond, find, map, Option, Some, None, is_some}
use Words.{option_map, nat_lt, eqb-true, eq-eqb, ClientId, GrantNo, Life, Stamp, Mode, Body, Suspect, LockRow, RowDemand, Waiter, Session}
use Words.modes
use Words.Keys.{same_client}
use Words.Locks as locks
use Words.Locks.{Locks, grant}
use Words.Sessions as sessions
use Words.Sessions.{Sessions}
use Words.Authority as authority
use Words.Authority.{Authority}
use Words.Lists.{Has}
use Words.Tables.{cond_either, found_at, find_map, has_map, has_filter, has_append, none_has, not_true, not_false}
use Rattle.st_lemmas.proofs.Puts.{has_put, has_put_self, has_put_other}
use Rattle.st_laws_leases.specs.Dates.Dates.{Met, Runs, Clients, OneTimer}
use Rattle.std.proofs.lemmas.Bool.{both_ways}

-- a row that passes is found, and the other way round
pub some_found : {A : Type 0} (p : A → Bool) (xs : List A) (x : A) → Has x xs → p x ≡ true → is_some (find p xs) ≡ true
some_found {A} p xs x h e = go (find p xs) refl
  where
    clash : p x ≡ false → ⊥
    clash f = no (sym f ∙ e)
      where
        no : ◌≡◌ {A = Bool} false true → ⊥
        no z = cc

    go : (o : Option A) → find p xs ≡ o → is_some o ≡ true
    go (Some y) q = refl
    go None q = absurd (clash (none_has p xs q x h))

pub found_some : {A : Type 0} (p : A → Bool) (xs : List A) → is_some (find p xs) ≡ true → (x : A) × Has x xs × (p x ≡ true)
found_some {A} p xs h = go (find p xs) refl h
  where
    go : (o : Option A) → find p xs ≡ o → is_some o ≡ true → (x : A) × Has x xs × (p x ≡ true)
    go (Some y) q h = let z = found_at p xs y q in (y, z.1, z.0)
    go None q h = cc

pub client_is : (a b : ClientId) → same_client a b ≡ true → a ≡ b
client_is a b e = ap (λ n. record { 0 = n }) (eqb-true a.0 b.0 e)

-- Sessions: none goes.
met_map : (f : Session → Session) → ((x : Session) → (f x).client ≡ x.client) → (v : Sessions) (c : ClientId) → Met v c →
    Met (record v { rows = map f v.rows }) c
met_map f k v c h = ap is_some (find_map (sessions.is_session_of c) f (λ x. ap (λ d. same_client d c) (k x)) v.rows) ∙ same (sessions.session_of v c) ∙ h
  where
    same : (o : Option Session) → is_some (option_map f o) ≡ is_some o
    same None = refl
    same (Some x) = refl

pub met_end : (v : Sessions) (d c : ClientId) → Met v c → Met (sessions.end v d) c
unfolding sessions.end sessions.ended
met_end v d c h = met_map (sessions.end_of d) (λ x. go x (sessions.is_session_of d x)) v c h
  where
    go : (x : Session) (b : Bool) → (cond b (sessions.ended x) x).client ≡ x.client
    go x true = refl
    go x false = refl

pub met_store : (v : Sessions) (d : ClientId) (n : ℕ) (b : Body) (c : ClientId) → Met v c → Met (sessions.store v d n b) c
unfolding sessions.store sessions.keep_reply
met_store v d n b c h = met_map (sessions.keep_of d n b) (λ x. go x (sessions.is_session_of d x)) v c h
  where
    go : (x : Session) (y : Bool) → (cond y (sessions.keep_reply n b x) x).client ≡ x.client
    go x true = refl
    go x false = refl

pub met_new : (v : Sessions) (s : Session) → Met (sessions.with_session s v) s.client
met_new v s = some_found (sessions.is_session_of s.client) _ s (has_put_self (sessions.is_session_of s.client) s v.rows) (eq-eqb s.client.0 s.client.0 refl)

pub met_with : (v : Sessions) (s : Session) (c : ClientId) → Met v c → Met (sessions.with_session s v) c
met_with v s c h = go (found_some (sessions.is_session_of c) v.rows h)
  where
    go : (x : Session) × Has x v.rows × (sessions.is_session_of c x ≡ true) → Met (sessions.with_session s v) c
    go (x, i, e) = at (sessions.is_session_of s.client x) refl
      where
        at : (b : Bool) → sessions.is_session_of s.client x ≡ b → Met (sessions.with_session s v) c
        at true q = subst (λ d. Met (sessions.with_session s v) d) (sym (client_is x.client s.client q) ∙ client_is x.client c e) (met_new v s)
        at false q = some_found (sessions.is_session_of c) _ x (has_put_other (sessions.is_session_of s.client) s v.rows x i q) e

-- Timers: none goes by a suspicion.
has_suspect : (s : Suspect) (xs : List Suspect) → Has s (authority.with_suspect s xs)
unfolding authority.with_suspect authority.suspect_placed
has_suspect s [] = inl refl
has_suspect s (x ∷ xs) = cond_either (Has s) (nat_lt s.client.0 x.client.0) (s ∷ (x ∷ xs)) (x ∷ authority.with_suspect s xs) (λ e. inl refl)
    (λ e. inr (has_suspect s xs))

keeps_suspect : (s y : Suspect) (xs : List Suspect) → Has y xs → Has y (authority.with_suspect s xs)
unfolding authority.with_suspect authority.suspect_placed
keeps_suspect s y [] h = elim h [ ]
keeps_suspect s y (x ∷ xs) h = cond_either (Has y) (nat_lt s.client.0 x.client.0) (s ∷ (x ∷ xs)) (x ∷ authority.with_suspect s xs) (λ e. inr h)
    (λ e. go h (keeps_suspect s y xs))
  where
    go : (y ≡ x) ⊎ Has y xs → (Has y xs → Has y (authority.with_suspect s xs)) → Has y (x ∷ authority.with_suspect s xs)
    go (inl e) r = inl e
    go (inr i) r = inr (r i)

new_suspects : (s y : Suspect) (xs : List Suspect) → Has y (authority.with_suspect s xs) → (y ≡ s) ⊎ Has y xs
unfolding authority.with_suspect authority.suspect_placed
new_suspects s y [] (inl e) = inl e
new_suspects s y [] (inr h) = elim h [ ]
new_suspects s y (x ∷ xs) h =
    cond_either (λ zs. Has y zs → (y ≡ s) ⊎ Has y (x ∷ xs)) (nat_lt s.client.0 x.client.0) (s ∷ (x ∷ xs)) (x ∷ authority.with_suspect s xs) (λ e h. h)
    (λ e h. go h (new_suspects s y xs)) h
  where
    more : (y ≡ s) ⊎ Has y xs → (y ≡ s) ⊎ Has y (x ∷ xs)
    more (inl e) = inl e
    more (inr i) = inr (inr i)

    go : (y ≡ x) ⊎ Has y (authority.with_suspect s xs) → (Has y (authority.with_suspect s xs) → (y ≡ s) ⊎ Has y xs) → (y ≡ s) ⊎ Has y (x ∷ xs)
    go (inl e) r = inr (inl e)
    go (inr i) r = more (r i)

-- what a suspicion leaves
pub record Suspected (a b : Authority) (c : ClientId) (now : Stamp) : Type 0 where
  pub own : Runs b c
  pub runs : (d : ClientId) → Runs a d → Runs b d
  pub only : (x : Suspect) → Has x b.suspects → Has x a.suspects ⊎ (x ≡ authority.new_suspect c now)
  pub one : OneTimer a.suspects → OneTimer b.suspects

pub suspected : (a : Authority) (c : ClientId) (now : Stamp) → Suspected a (authority.suspect a c now) c now
unfolding authority.suspect authority.start_timer
suspected a c now = go (authority.may_ack a c) refl
  where
    s : Suspect
    s = authority.new_suspect c now

    old_or : (x : Suspect) → (x ≡ s) ⊎ Has x a.suspects → Has x a.suspects ⊎ (x ≡ s)
    old_or x (inl e) = inr e
    old_or x (inr i) = inl i

    go : (b : Bool) → authority.may_ack a c ≡ b → Suspected a (cond b (record a { suspects = authority.with_suspect s a.suspects }) a) c now
    go true e =
        record {
          own = some_found (authority.is_suspect c) _ s (has_suspect s a.suspects) (eq-eqb c.0 c.0 refl);
          runs = λ d h. let z = found_some (authority.is_suspect d) a.suspects h in
              some_found (authority.is_suspect d) _ z.0 (keeps_suspect s z.0 a.suspects z.1) z.2;
          only = λ x h. old_or x (new_suspects s x a.suspects h);
          one = λ o x y h i q. alike o x y (new_suspects s x a.suspects h) (new_suspects s y a.suspects i) q;
        }
      where
        free : is_some (authority.suspect_of a c) ≡ false
        free = not_true _ e

        none : (x : Suspect) → Has x a.suspects → x.client ≡ c → ⊥
        none x h q = both_ways _ free (some_found (authority.is_suspect c) a.suspects x h (eq-eqb x.client.0 c.0 (ap (λ (z : ClientId). z.0) q)))

        alike : OneTimer a.suspects → (x y : Suspect) → (x ≡ s) ⊎ Has x a.suspects → (y ≡ s) ⊎ Has y a.suspects → x.client ≡ y.client → x ≡ y
        alike o x y (inl e) (inl f) q = e ∙ sym f
        alike o x y (inl e) (inr i) q = absurd (none y i (sym q ∙ ap (λ (z : Suspect). z.client) e))
        alike o x y (inr h) (inl f) q = absurd (none x h (q ∙ ap (λ (z : Suspect). z.client) f))
        alike o x y (inr h) (inr i) q = o x y h i q
    go false e = record { own = not_false _ e; runs = λ d h. h; only = λ x h. inl h; one = λ o. o }

-- The lock table.
module _ (M : ClientId → Type 0) where
  row_map : (f : LockRow → LockRow) → ((x : LockRow) → (f x).client ≡ x.client) → (rows : List LockRow) → ((r : LockRow) → Has r rows → M r.client) →
      (r : LockRow) → Has r (map f rows) → M r.client
  row_map f k rows h r i = let z = has_map f rows r i in subst M (sym (ap (λ (x : LockRow). x.client) z.2 ∙ k z.0)) (h z.0 z.1)

  pub clients_known_after_forget : (l : Locks) (c : ClientId) → Clients M l → Clients M (locks.forget l c)
  unfolding locks.forget
  clients_known_after_forget l c k = record { rows = λ r h. k.rows r (has_filter _ l.rows r h).0; waits = λ r h. k.waits r (has_filter _ l.waiters r h).0 }

  pub clients_known_after_drop : (l : Locks) (c : ClientId) → Clients M l → Clients M (locks.drop_waits l c)
  unfolding locks.drop_waits
  clients_known_after_drop l c k = record { rows = k.rows; waits = λ r h. k.waits r (has_filter _ l.waiters r h).0 }

  pub clients_known_after_file : (l : Locks) (ino : ℕ) → Clients M l → Clients M (locks.drop_file_waits l ino)
  unfolding locks.drop_file_waits
  clients_known_after_file l ino k = record { rows = k.rows; waits = λ r h. k.waits r (has_filter _ l.waiters r h).0 }

  pub clients_known_after_seen : (l : Locks) (c : ClientId) (ino : ℕ) (g : GrantNo) → Clients M l → Clients M (locks.demand_seen l c ino g)
  unfolding locks.demand_seen locks.answered_row
  clients_known_after_seen l c ino g k = record { rows = row_map (locks.observe c ino g) (λ x. go x _) l.rows k.rows; waits = k.waits }
    where
      go : (x : LockRow) (b : Bool) → (cond b (locks.answered_row x) x).client ≡ x.client
      go x true = refl
      go x false = refl

  pub clients_known_after_release : (l : Locks) (c : ClientId) (ino : ℕ) (to : Mode) → Clients M l → Clients M (locks.release_to l c ino to)
  unfolding locks.release_to locks.lowered
  clients_known_after_release l c ino modes.None k = record { rows = λ r h. k.rows r (has_filter _ l.rows r h).0; waits = k.waits }
  clients_known_after_release l c ino modes.S k = record { rows = row_map (locks.lower c ino) (λ x. go x _) l.rows k.rows; waits = k.waits }
    where
      go : (x : LockRow) (b : Bool) → (cond b (locks.lowered x) x).client ≡ x.client
      go x true = refl
      go x false = refl
  clients_known_after_release l c ino modes.X k = record { rows = row_map (locks.lower c ino) (λ x. go x _) l.rows k.rows; waits = k.waits }
    where
      go : (x : LockRow) (b : Bool) → (cond b (locks.lowered x) x).client ≡ x.client
      go x true = refl
      go x false = refl

  pub clients_known_after_grant : (l : Locks) (c : ClientId) (life : Life) (ino : ℕ) (mode : Mode) → M c → Clients M l → Clients M (grant l c life ino mode)
  unfolding grant
  clients_known_after_grant l c life ino mode m k = record
      { rows = λ r h. go r (has_put _ _ l.rows r h); waits = λ r h. k.waits r (has_filter _ l.waiters r h).0 }
    where
      go : (r : LockRow) → (r ≡ locks.new_row l c life ino mode) ⊎ Has r l.rows → M r.client
      go r (inl e) = subst M (sym (ap (λ (x : LockRow). x.client) e)) m
      go r (inr i) = k.rows r i

  pub clients_known_after_queue : (l : Locks) (c : ClientId) (life : Life) (ino : ℕ) (mode : Mode) → M c → Clients M l →
      Clients M (locks.queue l c life ino mode)
  unfolding locks.queue locks.queue_at locks.wait_for
  clients_known_after_queue l c life ino mode m k = go (locks.wait_of l c ino)
    where
      last : (x : Waiter) → Has x l.waiters ⊎ Has x (locks.new_wait c life ino mode ∷ []) → M x.client
      last x (inl i) = k.waits x i
      last x (inr (inl e)) = subst M (sym (ap (λ (z : Waiter). z.client) e)) m
      last x (inr (inr i)) = elim i [ ]

      same : (x : Waiter) (b : Bool) → (cond b (locks.wait_for mode x) x).client ≡ x.client
      same x true = refl
      same x false = refl

      go : (o : Option Waiter) → Clients M (locks.queue_at l c life ino mode o)
      go None = record { rows = k.rows; waits = λ x h. last x (has_append l.waiters _ x h) }
      go (Some w) = record {
        rows = k.rows;
        waits = λ x h. let z = has_map (locks.raise c ino mode) l.waiters x h in
            subst M (sym (ap (λ (z : Waiter). z.client) z.2 ∙ same z.0 (locks.is_wait_of c ino z.0))) (k.waits z.0 z.1);
      }

  pub clients_known_after_install : (l : Locks) (c : ClientId) (life : Life) (rows : List (ℕ × GrantNo × Mode)) → M c → Clients M l →
      Clients M (locks.with_rows l c life rows)
  unfolding locks.with_rows
  clients_known_after_install l c life rows m k = record { rows = λ r h. go r (has_append l.rows _ r h); waits = k.waits }
    where
      go : (r : LockRow) → Has r l.rows ⊎ Has r (map (locks.installed c life) rows) → M r.client
      go r (inl i) = k.rows r i
      go r (inr i) = let z = has_map (locks.installed c life) rows r i in subst M (sym (ap (λ (x : LockRow). x.client) z.2)) m

  pub clients_known_after_demand : (l : Locks) (r : LockRow) (d : RowDemand) → Clients M l → Clients M (locks.with_demand r d l)
  unfolding locks.demanded
  clients_known_after_demand l r d k =
      record { rows = row_map (locks.demand_of r.client r.ino d) (λ x. go x (locks.is_row_of r.client r.ino x)) l.rows k.rows; waits = k.waits }
    where
      go : (x : LockRow) (b : Bool) → (cond b (locks.demanded d x) x).client ≡ x.client
      go x true = refl
      go x false = refl

-- the clients may become more
pub clients_more : (M N : ClientId → Type 0) → ((c : ClientId) → M c → N c) → (l : Locks) → Clients M l → Clients N l
clients_more M N f l k = record { rows = λ r h. f r.client (k.rows r h); waits = λ x h. f x.client (k.waits x h) }
