-- Small facts: of answers among lines, of asks that were made, and of what asks mean.
use Rattle.st_lemmas.proofs.Words
use Rattle.st_lemmas.proofs.Once.{none_any}
use Words.{◌≡◌, ℕ, ◌+◌, ◌≤◌, Bool, true, false, not, ◌&&◌, ◌==◌, List, [], ◌∷◌, ◌++◌, Option, Some, None, refl, sym, ap, ◌∙◌, subst, inl, inr, arith}
use Words.{zero, suc, length, slice_get, cons_option, list_any, eqb-true, ClientId, GrantNo, ServerId, NameAsk, AppAnswer, Ask, Body, NameOp, Observation}
use Words.names
use Words.asks
use Words.bodies
use Words.seen
use Words.World.{numbered}
use Words.Safety.{Step, answers_in, ask_in, is_answer_to}
use Words.Lists.{Has}
use Words.Lookups.{some_is}
use Words.Numbers.{numbered_old}
use Words.Tables.{and_true, none_passes}
use Rattle.st_laws_pages.proofs.Asks.World.{asks_more}
use Rattle.st_laws_requests.specs.Cuts.Cuts.{asks_of}
use Rattle.st_promises.specs.Counts.{under_numbers}
use Rattle.st_promises.specs.CutAsks.{is_uncertain, settles, settles_in}
use Rattle.st_laws_cuts.specs.EndedRequests.{MeansGrant, MeansOf, MeansTo}
use Words.{append-nil}

-- Answers among lines.
pub same_as : (d c : ClientId) (n op : ℕ) (a : AppAnswer) → ((d.0 == c.0) && (n == op)) ≡ true → seen.Answered c op a ≡ seen.Answered d n a
same_as d c n op a e =
    let z = and_true (d.0 == c.0) (n == op) e in
    let x = eqb-true d.0 c.0 z.0 in
    let y = eqb-true n op z.1 in
    ap (λ m. seen.Answered (record { 0 = m }) op a) (sym x) ∙ ap (λ m. seen.Answered d m a) (sym y)

pub unanswered : (c : ClientId) (op : ℕ) (os : List Observation) → ((a : AppAnswer) → Has (seen.Answered c op a) os → ⊥) → list_any (is_answer_to c op) os ≡ false
unanswered c op os f = none_any (is_answer_to c op) os one
  where
    one : (o : Observation) → Has o os → is_answer_to c op o ≡ false
    one (seen.Answered d n a) h = go ((d.0 == c.0) && (n == op)) refl
      where
        go : (b : Bool) → ((d.0 == c.0) && (n == op)) ≡ b → b ≡ false
        go true e = absurd (f a (subst (λ o. Has o os) (sym (same_as d c n op a e)) h))
        go false e = refl
    one o h = refl

pub unsettled_in : (c : ClientId) (op : ℕ) (os : List Observation) → ((a : AppAnswer) → Has (seen.Answered c op a) os → is_uncertain a ≡ true) → list_any (settles c op) os ≡ false
unsettled_in c op os f = none_any (settles c op) os one
  where
    three : (x y z : Bool) → ((x && y) ≡ true → z ≡ true) → (x && (y && not z)) ≡ false
    three true true z g = ap not (g refl)
    three true false z g = refl
    three false y z g = refl

    one : (o : Observation) → Has o os → settles c op o ≡ false
    one (seen.Answered d n a) h = three (d.0 == c.0) (n == op) (is_uncertain a) (λ e. f a (subst (λ o. Has o os) (sym (same_as d c n op a e)) h))
    one o h = refl

-- an ask that was not answered was not settled
pub unsettled_past : (c : ClientId) (op : ℕ) (past : List Step) → list_any (answers_in c op) past ≡ false → list_any (settles_in c op) past ≡ false
unsettled_past c op past e = none_any (settles_in c op) past (λ x h. by x (none_passes (answers_in c op) past e x h))
  where
    by : (x : Step) → answers_in c op x ≡ false → settles_in c op x ≡ false
    by x q = none_any (settles c op) x.seen (λ o h. one o (none_passes (is_answer_to c op) x.seen q o h))
      where
        three : (x y z : Bool) → (x && y) ≡ false → (x && (y && z)) ≡ false
        three true true z f = cc f
        three true false z f = refl
        three false y z f = refl

        one : (o : Observation) → is_answer_to c op o ≡ false → settles c op o ≡ false
        one (seen.Answered d n a) f = three (d.0 == c.0) (n == op) _ f
        one o f = refl

pub asked_more : (past : List Step) (x : Step) (c : ClientId) (op : ℕ) (ask : Ask) → numbered (asks_of past c) op ≡ Some ask → numbered (asks_of (past ++ x ∷ []) c) op ≡ Some ask
asked_more past x c op ask e = ap (λ z. numbered z op) (asks_more past x c) ∙ go (ask_in c x.event)
  where
    go : (o : Option Ask) → numbered (asks_of past c ++ cons_option o []) op ≡ Some ask
    go None = ap (λ z. numbered z op) (append-nil (asks_of past c)) ∙ e
    go (Some a) = numbered_old (asks_of past c) a op ask e

pub asks_longer : (past : List Step) (x : Step) (c : ClientId) → length (asks_of past c) ≤ length (asks_of (past ++ x ∷ []) c)
asks_longer past x c = let z = ap length (asks_more past x c) in let y = go (ask_in c x.event) in omega (arith, z, y)
  where
    longer : {A : Type 0} (xs ys : List A) → length xs ≤ length (xs ++ ys)
    longer [] ys = omega arith
    longer (x ∷ xs) ys = let z = longer xs ys in omega (arith, z)

    go : (o : Option Ask) → length (asks_of past c) ≤ length (asks_of past c ++ cons_option o [])
    go o = longer (asks_of past c) (cons_option o [])

-- an ask is under its number
pub under_has : {A : Type 0} (n : ℕ) (xs : List A) (k : ℕ) (v : A) → slice_get xs k ≡ Some v → Has (n + k, v) (under_numbers n xs)
unfolding under_numbers
under_has n [] k v e = cc e
under_has {A} n (x ∷ xs) zero v e = inl (here e)
  where
    zero_more : n + 0 ≡ n
    zero_more = omega arith

    here : ◌≡◌ {A = Option A} (Some x) (Some v) → ◌≡◌ {A = ℕ × A} (n + 0, v) (n, x)
    here q = ap (λ j. (j, v)) zero_more ∙ ap (λ y. (n, y)) (sym (some_is q))
under_has {A} n (x ∷ xs) (suc k) v e = inr (subst (λ m. Has (m, v) (under_numbers (n + 1) xs)) same (under_has (n + 1) xs k v e))
  where
    same : n + 1 + k ≡ n + suc k
    same = omega arith

-- What asks mean.
pub means_more : (G H : ℕ → GrantNo → Type 0) → ((i : ℕ) (g : GrantNo) → G i g → H i g) → (s : ServerId) (a : Ask) (b : Body) → MeansTo G s a b → MeansTo H s a b
means_more G H f s (asks.Cut g p) (bodies.Cut ino h q) m = m
means_more G H f s (asks.Name sv n) (bodies.Name op) m = (m.0, name n op m.1)
  where
    of : (n : NameAsk) (g : GrantNo) → MeansOf G n g → MeansOf H n g
    of (names.Remove dir x ino) g k = λ l. f ino g (k l)
    of n g k = tt

    name : (n : NameAsk) (op : NameOp) → MeansGrant G n op → MeansGrant H n op
    name n op k = record { g = k.g; is = k.is; none = k.none; of = of n k.g k.of }
means_more G H f s a b m = absurd m
