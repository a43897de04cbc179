-- A client whose session does not know a life has no row of that life or a later one.
use Rattle.st_lemmas.proofs.Words
use Words.{◌≡◌, ℕ, ◌<◌, ◌≤◌, ◌⊎◌, Bool, true, false, ◌&&◌, ◌||◌, ◌==◌, not, List, [], ◌∷◌, Option, Some, None, refl, ap, subst, arith, inl, inr, nat_lt, nat_le}
use Words.{list_all, list_any, eqb-true, eqb-false, leb-true, ltb-false, lt-leb, and_parts, or_from, cases_lt, ClientId, Life, LockRow, Session}
use Words.Locks.{Locks}
use Words.Sessions.{Sessions, session_of, knows, knows_at, is_live}
use Rattle.std.proofs.lemmas.Bool.{or_parts}
use Rattle.st_reassert.specs.Acceptance.{is_row_from, is_older}
use Rattle.st_server.specs.RuleConditions.{is_lived, is_row_lived}

-- a life that a living session does not know is above all that it has seen
above : (a b n : ℕ) → b ≤ n → nat_lt a n ≡ false → (a == n) ≡ false → nat_le a b ≡ false
above a b n below x y = lt-leb a b (go (cases_lt b a))
  where
    go : (b < a) ⊎ (a ≤ b) → b < a
    go (inl h) = h
    go (inr h) = let same : a ≡ n = omega (arith, ltb-false a n x) in elim (eqb-false a n y same) [ ]

unknown : (a b n : ℕ) (live : Bool) → (live && nat_le b n) ≡ true → (nat_lt a n || (live && (a == n))) ≡ false → nat_le a b ≡ false
unknown a b n true past new = let p = or_parts (nat_lt a n) (a == n) new in above a b n (leb-true b n past) p.0 p.1
unknown a b n false past new = cc

pub late : (o : Option Session) (life row : Life) → is_lived row o ≡ true → knows_at o life ≡ false → nat_le life.0 row.0 ≡ false
late None life row l k = cc
late (Some s) life row l k = unknown life.0 row.0 s.life.0 (is_live s) l k

own : (t : Sessions) (c : ClientId) (life : Life) (r : LockRow) (b : Bool) → (r.client.0 == c.0) ≡ b → is_row_lived t r ≡ true → knows t c life ≡ false →
    (b && nat_le life.0 r.life.0) ≡ false
own t c life r false e l k = refl
own t c life r true e l k =
    let same : r.client ≡ c = λ i. record { 0 = eqb-true r.client.0 c.0 e i } in
    late (session_of t c) life r.life (subst (λ (d : ClientId). is_lived r.life (session_of t d) ≡ true) same l) k

none_from : (t : Sessions) (c : ClientId) (life : Life) (rows : List LockRow) → list_all (is_row_lived t) rows ≡ true → knows t c life ≡ false →
    list_any (is_row_from c life) rows ≡ false
none_from t c life [] l k = refl
none_from t c life (r ∷ rows) l k =
    let p = and_parts (is_row_lived t r) (list_all (is_row_lived t) rows) l in
    or_from (is_row_from c life r) (list_any (is_row_from c life) rows) (own t c life r (r.client.0 == c.0) refl p.0 k) (none_from t c life rows p.1 k)

pub older : (t : Sessions) (l : Locks) (c : ClientId) (life : Life) → list_all (is_row_lived t) l.rows ≡ true → knows t c life ≡ false → is_older l c life ≡ true
older t l c life s k = ap not (none_from t c life l.rows s k)
