-- The moments of a server's timers, by its parts.
use Rattle.st_lemmas.proofs.Words
use Words.{◌≡◌, ℕ, ◌==◌, Bool, true, false, not, ◌||◌, List, [], ◌∷◌, ◌++◌, refl, sym, ap, ◌∙◌, arith, cond, filter_map, cons_option, find, map, is_some, Option, Some, None, list_any, Config, ClientId, LockRow, Suspect}
use Words.Authority.{Authority, client_of_suspect, is_suspect, may_ack, suspects_of}
use Words.Grace.{Grace}
use Words.Keys.{same_client}
use Words.Locks.{Locks, is_among, waited_files}
use Rattle.st_due.proofs.EarliestFound.{next_found}
use Rattle.st_due.specs.Moments.{earliest, readable, readable_by, sooner}
use Rattle.st_due.specs.ServerDue.{grace_end, grants_at, may_grant_on, overdue_demand, suspicion_at, suspicions_at}
use Rattle.st_lock_tables.specs.Overdue.{overdue_row}

eq_turn : (a b : ℕ) → (a == b) ≡ (b == a)
eq_turn a b = grind arith

-- a suspect is one of the suspects
among_suspects : (ss : List Suspect) (c : ClientId) → list_any (same_client c) (map client_of_suspect ss) ≡ is_some (find (is_suspect c) ss)
among_suspects [] c = refl
among_suspects (s ∷ ss) c = ap (λ b. b || list_any (same_client c) (map client_of_suspect ss)) (eq_turn c.0 s.client.0) ∙ by (s.client.0 == c.0) (among_suspects ss c)
  where
    by : (b : Bool) → list_any (same_client c) (map client_of_suspect ss) ≡ is_some (find (is_suspect c) ss) →
        (b || list_any (same_client c) (map client_of_suspect ss)) ≡ is_some (cond b (Some s) (find (is_suspect c) ss))
    by true h = refl
    by false h = h

turned : (b : Bool) (o : Option ℕ) → cond b None o ≡ cond (not b) o None
turned true o = refl
turned false o = refl

row_suspicion : (k : Config) (a : Authority) (r : LockRow) → overdue_row k (suspects_of a) r ≡ suspicion_at k a r
row_suspicion k a r =
    ap (λ b. cond b None (overdue_demand k r.demand)) (among_suspects a.suspects r.client) ∙ turned (is_some (find (is_suspect r.client) a.suspects)) (overdue_demand k r.demand)

rows_suspicions : (k : Config) (a : Authority) (rs : List LockRow) → filter_map (overdue_row k (suspects_of a)) rs ≡ filter_map (suspicion_at k a) rs
rows_suspicions k a [] = refl
rows_suspicions k a (r ∷ rs) = λ i. cons_option (row_suspicion k a r i) (rows_suspicions k a rs i)

-- the first suspicion is the first overdue demand on a row of a client that isn't a suspect
pub suspicions_are : (k : Config) (a : Authority) (l : Locks) → readable_by (earliest (filter_map (overdue_row k (suspects_of a)) l.rows)) ≡ readable_by (earliest (suspicions_at k a l))
suspicions_are k a l = ap (λ ms. readable_by (earliest ms)) (rows_suspicions k a l.rows)

-- the first grant is at the end of grace, if there is one to make
pub grants_are : (g : Option Grace) (l : Locks) (b : Bool) → b ≡ list_any (may_grant_on l) (waited_files l) → cond b (readable (grace_end g)) None ≡ readable_by (earliest (grants_at g l))
grants_are g l b e = by b ∙ ap (λ c. readable_by (earliest (cond c (grace_end g ∷ []) []))) e
  where
    by : (c : Bool) → cond c (readable (grace_end g)) None ≡ readable_by (earliest (cond c (grace_end g ∷ []) []))
    by true = refl
    by false = refl

-- the first of four lists of moments
pub first_of_four : (ts bs cs ds : List ℕ) (a b c d : Option ℕ) → a ≡ readable_by (earliest ts) → b ≡ readable_by (earliest bs) → c ≡ readable_by (earliest cs) → d ≡ readable_by (earliest ds)
    → sooner a (sooner b (sooner c d)) ≡ readable_by (earliest (ts ++ (bs ++ (cs ++ ds))))
first_of_four ts bs cs ds a b c d ea eb ec ed =
    next_found ts (bs ++ (cs ++ ds)) a (sooner b (sooner c d)) ea (next_found bs (cs ++ ds) b (sooner c d) eb (next_found cs ds c d ec ed))
