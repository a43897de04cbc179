-- An accepted reassertion keeps a server sound, and a refused one names numbers that can be told.
use Rattle.st_lemmas.proofs.Words
use Words.{◌≡◌, ℕ, ◌+◌, ◌^◌, ◌≤◌, Bool, true, false, ◌&&◌, List, [], ◌∷◌, Option, Some, None, refl, sym, subst, arith, filter, find, map, option_map, nat_le}
use Words.{Result, Ok, Err, list_all, and_parts, and_from, le-leb, leb-true, lt-ltb, ClientId, Epoch, GrantNo, Life, Stamp, Mode, AcceptRefusal, LockRow}
use Words.Kinds.{allows, between, is_word64}
use Words.Ranges.{are_locks, are_rows, after_lock, is_body, is_grant, is_ino, is_lock_row, is_mode}
use Words.Grace as grace
use Words.Grace.{Grace, Accepted}
use Words.Keys.{client, least}
use Words.Locks as locks
use Words.Locks.{Locks}
use Words.Sessions as sessions
use Words.Sessions.{Sessions}
use Words.Server.{is_client_node}
use Words.Lists.{Has}
use Words.Tables.{cond_either, each_passes, has_filter, has_map}
use Rattle.st_messages.specs.declared.kind.Need.TheVariants.{Positive}
use Rattle.st_rules.specs.declared.authority.AcceptRefusal.TheVariants as refusals
use Rattle.st_lemmas.proofs.Keys.{least_some}
use Rattle.st_server.specs.Invariants.{AreHeld, is_good_row, is_good_session}
use Rattle.st_server.proofs.Every.{every_append, every_found, every_map}
use Rattle.st_server.proofs.Holding.{good_row, told_lock, row_of_good}
use Rattle.st_server.proofs.SessionChanges.{held_on, reasserted_lives, reasserted_here, put_good}

-- a file and a client fit into a word
pub ino_word : (ino : ℕ) → is_ino ino ≡ true → is_word64 ino ≡ true
ino_word ino e =
    let b : ino ≤ 4294967295 = leb-true ino 4294967295 (and_parts (nat_le 1 ino) (nat_le ino 4294967295) e).1 in
    lt-ltb ino (2 ^ 64) (omega (arith, b))

pub client_word : (c : ℕ) → is_client_node c ≡ true → is_word64 c ≡ true
client_word c e =
    let b : c ≤ 16 = leb-true c 16 (and_parts (nat_le 1 c) (nat_le c 16) e).1 in
    lt-ltb c (2 ^ 64) (omega (arith, b))

-- each row of a reassertion fits by itself
row_low : (least : ℕ) (r : ℕ × GrantNo × Mode) → 1 ≤ least → is_lock_row least r ≡ true → is_lock_row 1 r ≡ true
row_low least r b e =
    let p = and_parts (between least 4294967295 r.0) _ e in
    let q = and_parts (nat_le least r.0) (nat_le r.0 4294967295) p.0 in
    let low : least ≤ r.0 = leb-true least r.0 q.0 in
    and_from (between 1 4294967295 r.0) _ (and_from (nat_le 1 r.0) (nat_le r.0 4294967295) (le-leb 1 r.0 (omega (arith, low, b))) q.1) p.1

rows_each : (least : ℕ) (rs : List (ℕ × GrantNo × Mode)) → 1 ≤ least → are_rows is_lock_row after_lock least rs ≡ true → list_all (is_lock_row 1) rs ≡ true
rows_each least [] b e = refl
rows_each least (r ∷ rs) b e =
    let p = and_parts (is_lock_row least r) (are_rows is_lock_row after_lock (r.0 + 1) rs) e in
    and_from (is_lock_row 1 r) _ (row_low least r b p.0) (rows_each (r.0 + 1) rs (omega arith) p.1)

pub lock_rows_each : (rs : List (ℕ × GrantNo × Mode)) → are_locks rs ≡ true → list_all (is_lock_row 1) rs ≡ true
unfolding are_locks
lock_rows_each rs e = rows_each 1 rs (omega arith) (and_parts _ _ e).1

-- What an accepted reassertion leaves, and what a refused one tells.
pub record Accepts (l : Locks) (t : Sessions) (c : ClientId) (life : Life) (rows : List (ℕ × GrantNo × Mode)) (a : Accepted) : Type 0 where
  pub locks_are : a.locks ≡ locks.with_rows l c life rows
  pub sessions_are : a.sessions ≡ sessions.reasserted t c life

abbrev pub is_told_refusal : AcceptRefusal → Bool
is_told_refusal (refusals.GraceOver start now) = is_word64 start.0 && is_word64 now.0
is_told_refusal (refusals.Conflict ino holder) = is_word64 ino && is_word64 holder.0
is_told_refusal (refusals.NotHolder ino g) = is_word64 ino && is_word64 g.0

abbrev pub AcceptsBy : Locks → Sessions → ClientId → Life → List (ℕ × GrantNo × Mode) → Result Accepted AcceptRefusal → Type 0
AcceptsBy l t c life rows (Ok a) = Accepts l t c life rows a
AcceptsBy l t c life rows (Err r) = is_told_refusal r ≡ true

module _ (ep : Epoch) (t : Sessions) (l : Locks) (h : list_all (is_good_row t) l.rows ≡ true) (c : ClientId) (life : Life) (from : is_client_node c.0 ≡ true) where
  good_ino : (r : LockRow) → Has r l.rows → is_ino r.ino ≡ true
  good_ino r k =
      let told = (row_of_good ep t r (each_passes (is_good_row t) l.rows h r k)).0.told in
      (and_parts (allows Positive r.life.0) (is_ino r.ino) (and_parts (is_client_node r.client.0) _ told).1).1

  good_client : (r : LockRow) → Has r l.rows → is_client_node r.client.0 ≡ true
  good_client r k = (and_parts (is_client_node r.client.0) _ (row_of_good ep t r (each_passes (is_good_row t) l.rows h r k)).0.told).0

  -- the client's own least file
  own_told : (ino : ℕ) → grace.own_older l c life ≡ Some ino → is_ino ino ≡ true
  own_told ino e =
      let m = has_map locks.ino_of_row (filter (grace.is_row_below c life) l.rows) ino (least_some (map locks.ino_of_row (filter (grace.is_row_below c life) l.rows)) ino e) in
      let f = has_filter (grace.is_row_below c life) l.rows m.0 m.1 in
      subst (λ (n : ℕ). is_ino n ≡ true) (sym m.2) (good_ino m.0 f.0)

  -- the least client in the way
  against_told : (ino : ℕ) (mode : Mode) (o : Option ℕ) → least (map locks.client_of_row (filter (locks.stands_against c ino mode) l.rows)) ≡ o →
      (d : ClientId) → option_map client o ≡ Some d → is_client_node d.0 ≡ true
  against_told ino mode None e d f = cc
  against_told ino mode (Some k) e d f =
      let m = has_map locks.client_of_row (filter (locks.stands_against c ino mode) l.rows) k (least_some (map locks.client_of_row (filter (locks.stands_against c ino mode) l.rows)) k e) in
      let g = has_filter (locks.stands_against c ino mode) l.rows m.0 m.1 in
      let same : client k ≡ d = cc in
      subst (λ (x : ClientId). is_client_node x.0 ≡ true) same (subst (λ (n : ℕ). is_client_node n ≡ true) (sym m.2) (good_client m.0 g.0))

  -- a conflict that is reported
  abbrev Conflicts : Option (ℕ × ClientId) → Type 0
  Conflicts None = Unit {0}
  Conflicts (Some x) = (is_ino x.0 ≡ true) × (is_client_node x.1.0 ≡ true)

  or_conflicts : (rest : Option (ℕ × ClientId)) (ino : ℕ) (o : Option ClientId) → Conflicts rest → is_ino ino ≡ true → ((d : ClientId) → o ≡ Some d → is_client_node d.0 ≡ true) →
      Conflicts (locks.conflict_or rest ino o)
  unfolding locks.conflict_or
  or_conflicts rest ino None k e g = k
  or_conflicts rest ino (Some d) k e g = (e, g d refl)

  first_told : (rows : List (ℕ × GrantNo × Mode)) → list_all (is_lock_row 1) rows ≡ true → Conflicts (locks.first_conflict l c rows)
  unfolding locks.first_conflict
  first_told [] e = tt
  first_told (r ∷ rows) e =
      let p = and_parts (is_lock_row 1 r) (list_all (is_lock_row 1) rows) e in
      or_conflicts (locks.first_conflict l c rows) r.0 (locks.holder_against l c r.0 r.2) (first_told rows p.1) (and_parts (is_ino r.0) _ p.0).0
      (λ d q. against_told r.0 r.2 (least (map locks.client_of_row (filter (locks.stands_against c r.0 r.2) l.rows))) refl d q)

  install_accepts : (rows : List (ℕ × GrantNo × Mode)) (o : Option (ℕ × ClientId)) → Conflicts o → AcceptsBy l t c life rows (grace.accept_installed t c life (locks.install_at l c life rows o))
  unfolding grace.accept_installed grace.accepted locks.install_at
  install_accepts rows None k = record { locks_are = refl; sessions_are = refl }
  install_accepts rows (Some x) k = and_from (is_word64 x.0) (is_word64 x.1.0) (ino_word x.0 k.0) (client_word x.1.0 k.1)

  own_accepts : (rows : List (ℕ × GrantNo × Mode)) (o : Option ℕ) → list_all (is_lock_row 1) rows ≡ true → ((ino : ℕ) → o ≡ Some ino → is_ino ino ≡ true) →
      AcceptsBy l t c life rows (grace.accept_own l t c life rows o)
  unfolding grace.accept_own locks.install
  own_accepts rows None e g = install_accepts rows (locks.first_conflict l c rows) (first_told rows e)
  own_accepts rows (Some ino) e g = and_from (is_word64 ino) (is_word64 c.0) (ino_word ino (g ino refl)) (client_word c.0 from)

  earlier_accepts : (rows : List (ℕ × GrantNo × Mode)) (o : Option (ℕ × GrantNo × Mode)) → list_all (is_lock_row 1) rows ≡ true → ((r : ℕ × GrantNo × Mode) → o ≡ Some r → is_lock_row 1 r ≡ true) →
      AcceptsBy l t c life rows (grace.accept_earlier l t c life rows o)
  unfolding grace.accept_earlier
  earlier_accepts rows None e g = own_accepts rows (grace.own_older l c life) e (λ ino q. own_told ino q)
  earlier_accepts rows (Some r) e g =
      let p = and_parts (is_ino r.0) (is_grant r.1 && is_mode 1 2 r.2) (g r refl) in
      and_from (is_word64 r.0) (is_word64 r.1.0) (ino_word r.0 p.0) (and_parts (is_grant r.1) (is_mode 1 2 r.2) p.1).0

  pub accepts : (g : Option Grace) (now : Stamp) (rows : List (ℕ × GrantNo × Mode)) → list_all (is_lock_row 1) rows ≡ true → is_word64 (grace.grace_start g).0 ≡ true → is_word64 now.0 ≡ true →
      AcceptsBy l t c life rows (grace.accept g now c life rows l t)
  unfolding grace.accept grace.accept_rows
  accepts g now rows e s w =
      cond_either (AcceptsBy l t c life rows) (grace.is_on g now) (grace.accept_rows l t c life rows) (Err (refusals.GraceOver (grace.grace_start g) now))
      (λ q. earlier_accepts rows (find (grace.is_new_grant l) rows) e (λ r f. every_found (is_lock_row 1) (grace.is_new_grant l) rows r e f))
      (λ q. and_from (is_word64 (grace.grace_start g).0) (is_word64 now.0) s w)

-- The rows that are installed are as they must be.
pub installed_held : (n : ℕ) (ep : Epoch) (t : Sessions) (l : Locks) (c : ClientId) (life : Life) (rows : List (ℕ × GrantNo × Mode)) → is_client_node c.0 ≡ true → allows Positive life.0 ≡ true →
    list_all (is_lock_row 1) rows ≡ true → sessions.knows t c life ≡ false → AreHeld n ep t l → AreHeld n ep (sessions.reasserted t c life) (locks.with_rows l c life rows)
unfolding locks.with_rows
installed_held n ep t l c life rows from positive e k h =
    let u : Sessions = sessions.reasserted t c life in
    let on = held_on n ep t u l (reasserted_lives t c life k) h in
    record {
      rows =
          every_append (is_good_row u) l.rows (map (locks.installed c life) rows) on.rows
          (every_map (is_lock_row 1) (is_good_row u) (locks.installed c life)
          (λ r q. let p = and_parts (is_ino r.0) (is_grant r.1 && is_mode 1 2 r.2) q in
          let s = and_parts (is_grant r.1) (is_mode 1 2 r.2) p.1 in
          good_row ep u (locks.installed c life r)
          (record { lived = reasserted_here t c life; told = and_from (is_client_node c.0) _ from (and_from (allows Positive life.0) (is_ino r.0) positive p.0) })
          (told_lock ep u r.1 r.2 None s.0 s.1 refl)) rows e);
      waits = on.waits;
      few = h.few;
      epoch = h.epoch;
      limit = h.limit;
    }

pub reasserted_good : (t : Sessions) (c : ClientId) (life : Life) → list_all is_good_session t.rows ≡ true → list_all is_good_session (sessions.reasserted t c life).rows ≡ true
unfolding sessions.reasserted is_body
reasserted_good t c life h = put_good t (sessions.reasserted_session c life) refl h
