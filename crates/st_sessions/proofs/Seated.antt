-- The entries at the clients' numbers stay the places of their sessions.
use Rattle.std.proofs.Common.{◌≡◌, ℕ, zero, suc, ◌<◌, ◌≤◌, Bool, true, false, ◌==◌, List, [], ◌∷◌, ◌++◌, length, get_or, set, take, replicate, Option, Some, None, nat_lt, cond, arith, refl, sym, ap, subst, ◌∙◌, length-append, length-set, take_all, get_or-set_same, get_or-set_other}
use Rattle.std.specs.Prelude.{find, slice_get}
use Rattle.std.specs.List.{position, position_or_len}
use Rattle.std.proofs.lemmas.Bool.{eqb-true, eqb-false, ltb-false}
use Rattle.std.proofs.lemmas.Option.{slice_get-get_or, slice_get_past}
use Rattle.std.proofs.lemmas.List.Folds.{find_at, position_or_len-set, position_or_len_push}
use Rattle.std.proofs.lemmas.List.Quantifiers.{position-Some}
use Rattle.std.proofs.lemmas.List.Sums.{prefix_len-le-length}
use Rattle.st_base.specs.declared.ids.ClientId.{ClientId}
use Rattle.st_rules.specs.declared.sessions.Session.{Session}
use Rattle.st_rules.specs.declared.sessions.SessionState.{SessionState}
use Rattle.st_rules.specs.Sessions.{is_session_of}
use Rattle.st_sessions.specs.Seats.{AreSeated, SameSeats, seat_of}
use Rattle.st_sessions.proofs.ChangedSessions.{some_session}
use Rattle.st_tables.proofs.FirstPlaces.{place_some}

-- More entries of the value that is read past the end.

same_at : {A : Type 0} (d : A) (k i : ℕ) → get_or (replicate k d) i d ≡ d
same_at d zero i = refl
same_at d (suc k) zero = refl
same_at d (suc k) (suc i) = same_at d k i

same_behind : {A : Type 0} (d : A) (xs : List A) (k i : ℕ) → get_or (xs ++ replicate k d) i d ≡ get_or xs i d
same_behind d [] k i = same_at d k i
same_behind d (x ∷ xs) k zero = refl
same_behind d (x ∷ xs) k (suc i) = same_behind d xs k i

pub widened : (xs new : List (Option ℕ)) (n k : ℕ) → length xs ≤ n → new ≡ take n xs ++ replicate k None → SameSeats xs new
widened xs new n k h e c =
    ap (λ (l : List (Option ℕ)). get_or l c.0 None) (e ∙ ap (λ (l : List (Option ℕ)). l ++ replicate k None) (take_all n xs h)) ∙ same_behind None xs k c.0

-- A row in place of another that passes the same tests.

place_kept : {A : Type 0} (p : A → Bool) (xs : List A) (i : ℕ) (y d : A) → p y ≡ p (get_or xs i d) → position p (set xs i y) ≡ position p xs
place_kept p xs i y d h =
    let l : length (set xs i y) ≡ length xs = length-set xs i y in
    let q : position_or_len p (set xs i y) ≡ position_or_len p xs = position_or_len-set p xs i y d h in
    cc

pub seated_set : (rows : List Session) (seats : List (Option ℕ)) (i : ℕ) (s d : Session) → AreSeated rows seats →
    s.client.0 ≡ (get_or rows i d).client.0 → AreSeated (set rows i s) seats
seated_set rows seats i s d h e c = h c ∙ sym (place_kept (is_session_of c) rows i s d (ap (λ (n : ℕ). n == c.0) e))

-- One more row.

place_of_others : {A : Type 0} (p : A → Bool) (xs : List A) (x : A) → p x ≡ false → position p (xs ++ x ∷ []) ≡ position p xs
place_of_others p xs x h =
    grind (arith, position_or_len_push p xs x, prefix_len-le-length, length-append, h)

place_of_last : {A : Type 0} (p : A → Bool) (xs : List A) (x : A) → p x ≡ true → position p xs ≡ None → position p (xs ++ x ∷ []) ≡ Some (length xs)
place_of_last p xs x h e =
    grind (arith, position_or_len_push p xs x, prefix_len-le-length, length-append, h, e)

pub seated_last : (rows : List Session) (old seats : List (Option ℕ)) (s : Session) → AreSeated rows old → SameSeats old seats →
    s.client.0 < length seats → position (is_session_of s.client) rows ≡ None → AreSeated (rows ++ s ∷ []) (set seats s.client.0 (Some (length rows)))
seated_last rows old seats s h same room absent c = go (s.client.0 == c.0) refl
  where
    go : (b : Bool) → (s.client.0 == c.0) ≡ b → seat_of (set seats s.client.0 (Some (length rows))) c ≡ position (is_session_of c) (rows ++ s ∷ [])
    go true q =
        let e : s.client.0 ≡ c.0 = eqb-true s.client.0 c.0 q in
        ap (λ (n : ℕ). get_or (set seats s.client.0 (Some (length rows))) n None) (sym e)
        ∙ get_or-set_same seats s.client.0 (Some (length rows)) None room
        ∙ sym (place_of_last (is_session_of c) rows s q (ap (λ (n : ℕ). position (λ t. t.client.0 == n) rows) (sym e) ∙ absent))
    go false q =
        get_or-set_other seats s.client.0 c.0 (Some (length rows)) None (λ e. eqb-false s.client.0 c.0 q (sym e))
        ∙ same c ∙ h c ∙ sym (place_of_others (is_session_of c) rows s q)

-- The client's session, at its place.

pub place_in : (c : ClientId) (rows : List Session) (i : ℕ) → Some i ≡ position (is_session_of c) rows → i < length rows
place_in c rows i e = (position-Some (is_session_of c) rows i (some_session c) (sym e)).0

pub seated_put : (rows new : List Session) (seats : List (Option ℕ)) (i : ℕ) (s : Session) → AreSeated rows seats →
    Some i ≡ position (is_session_of s.client) rows → new ≡ set rows i s → AreSeated new seats
seated_put rows new seats i s h e q =
    subst (λ (l : List Session). AreSeated l seats) (sym q)
    (seated_set rows seats i s s h (sym (eqb-true (get_or rows i s).client.0 s.client.0 (position-Some (is_session_of s.client) rows i s (sym e)).1)))

pub seated_state : (rows new : List Session) (seats : List (Option ℕ)) (i : ℕ) (state : SessionState) → AreSeated rows seats → i < length rows →
    ((s : Session) → slice_get rows i ≡ Some s → new ≡ set rows i (record s { state = state })) → AreSeated new seats
seated_state rows new seats i state h l q =
    let d : Session = some_session (record { 0 = 0 }) in
    subst (λ (l : List Session). AreSeated l seats) (sym (q (get_or rows i d) (slice_get-get_or rows i d l)))
    (seated_set rows seats i (record (get_or rows i d) { state = state }) d h refl)

pub found_at : {A : Type 0} (p : A → Bool) (xs : List A) (i : ℕ) → Some i ≡ position p xs → find p xs ≡ slice_get xs i
found_at p xs i e = find_at p xs ∙ ap (slice_get xs) (sym (place_some p xs i e))

pub found_nowhere : {A : Type 0} (p : A → Bool) (xs : List A) → None ≡ position p xs → find p xs ≡ None
found_nowhere p xs e = find_at p xs ∙ go (nat_lt (position_or_len p xs) (length xs)) refl e
  where
    go : (b : Bool) → nat_lt (position_or_len p xs) (length xs) ≡ b → None ≡ cond b (Some (position_or_len p xs)) None → slice_get xs (position_or_len p xs) ≡ None
    go true t q = cc
    go false t q = slice_get_past xs (position_or_len p xs) (ltb-false _ _ t)
