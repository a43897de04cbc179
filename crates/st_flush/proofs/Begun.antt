-- Outstanding commands stay apart, as one more begins and as some end; writes that may begin, one after another.
use Rattle.st_lemmas.proofs.Words
use Words.{◌≡◌, ℕ, zero, suc, ◌+◌, ◌<◌, ◌≤◌, ◌⊎◌, Bool, true, false, ◌&&◌, ◌||◌, ◌==◌, not, cond, List, [], ◌∷◌, ◌++◌, length, get_or, drop, add-one, Some}
use Words.{None, refl, sym, ap, subst, ◌∙◌, inl, inr, arith, find, filter, is_some, nat_le, nat_lt, list_any, and_parts, and_from, not-true, eqb-true, leb-true}
use Words.{ltb-true, le-leb, lt-ltb, PageNo, IoKind, PageCommand}
use Words.Keys.{same_page}
use Words.ServerInvariants.{are_once}
use Words.ClientInvariants.{same_page_command, same_command_number}
use Words.io.{Write}
use Words.ClientPages.{begin_command, begin_writes, command_of, command_on, is_command_of, is_numbered, page_command}
use Words.Lists.{Has}
use Words.Tables.{none_has}
use Words.Truth.{eqb_turned, not_both}
use Words.Lookups.{or_false}
use Rattle.std.proofs.Common.{drop-cons}
use Rattle.st_lemmas.proofs.Once.{once_append, once_both, once_filter, once_none}
use Rattle.st_flush.specs.Calls.{AreApart, is_in_range, is_taken_in, same_page_write}
use Rattle.std.proofs.lemmas.Bool.{lt-leb}

any_last : {A : Type 0} (p : A → Bool) (x : A) (xs : List A) → p x ≡ false → list_any p (xs ++ x ∷ []) ≡ list_any p xs
any_last p x [] e = ap (λ (b : Bool). b || false) e
any_last p x (y ∷ ys) e = ap (λ (b : Bool). p y || b) (any_last p x ys e)

-- one more that is the same as none of them
once_last : {A : Type 0} (same : A → A → Bool) (p : A → Bool) (x : A) (xs : List A) → ((y : A) → p y ≡ false → same y x ≡ false) → find p xs ≡ None →
    are_once same xs ≡ true → are_once same (xs ++ x ∷ []) ≡ true
once_last {A} same p x xs k e h = once_append same xs (x ∷ []) h (once_both same x [] (λ y m. elim m [ ]) (once_none same)) other
  where
    other : (y z : A) → Has y xs → (z ≡ x) ⊎ Has z [] → same y z ≡ false
    other y z m (inl q) = ap (same y) q ∙ k y (none_has p xs e y m)
    other y z m (inr i) = elim i [ ]

page_turn : (ino j : ℕ) (p q : PageNo) → ((ino == j) && same_page p q) ≡ ((j == ino) && same_page q p)
page_turn ino j p q = λ i. eqb_turned ino j i && eqb_turned p.0 q.0 i

-- no command is outstanding
pub none_apart : AreApart []
unfolding are_once
none_apart = record { one_command = refl; numbers_once = refl }

-- one more command
pub more_apart : (cs : List PageCommand) (c : PageCommand) → command_on cs c.ino c.page ≡ None → command_of cs c.number ≡ None → AreApart cs → AreApart (cs ++ c ∷ [])
more_apart cs c a b is = record {
  one_command = once_last same_page_command (is_command_of c.ino c.page) c cs (λ y e. page_turn c.ino y.ino c.page y.page ∙ e) a is.one_command;
  numbers_once = once_last same_command_number (is_numbered c.number) c cs (λ y e. eqb_turned c.number y.number ∙ e) b is.numbers_once;
}

-- some commands end
pub fewer_apart : (cs : List PageCommand) (p : PageCommand → Bool) → AreApart cs → AreApart (filter p cs)
fewer_apart cs p is = record { one_command = once_filter same_page_command p cs is.one_command; numbers_once = once_filter same_command_number p cs is.numbers_once }

-- Writes that may begin.

-- the parts of the condition
pub record MayBegin (cs : List PageCommand) (ws : List (ℕ × PageNo × ℕ)) (first : ℕ) : Type 0 where
  pub differ : are_once same_page_write ws ≡ true
  pub free : list_any (is_taken_in cs) ws ≡ false
  pub numbers : list_any (is_in_range first (length ws)) cs ≡ false

no_number : (first many : ℕ) (cs : List PageCommand) → list_any (is_in_range first (suc many)) cs ≡ false → command_of cs first ≡ None
no_number first many [] h = refl
no_number first many (c ∷ cs) h =
    let q = or_false (is_in_range first (suc many) c) (list_any (is_in_range first (suc many)) cs) h in
    by (c.number == first) refl q.0 (no_number first many cs q.1)
  where
    in_range : c.number ≡ first → is_in_range first (suc many) c ≡ true
    in_range e = and_from _ _ (le-leb first c.number (omega (arith, e))) (lt-ltb c.number (first + suc many) (omega (arith, e)))

    by : (b : Bool) → (c.number == first) ≡ b → is_in_range first (suc many) c ≡ false → command_of cs first ≡ None → cond b (Some c) (find (is_numbered first) cs) ≡ None
    by true e o i = absurd (not_both (is_in_range first (suc many) c) (in_range (eqb-true _ _ e)) o)
    by false e o i = i

-- the first number is that of none
pub first_new : (cs : List PageCommand) (w : ℕ × PageNo × ℕ) (ws : List (ℕ × PageNo × ℕ)) (first : ℕ) → MayBegin cs (w ∷ ws) first → command_of cs first ≡ None
first_new cs w ws first m = no_number first (length ws) cs m.numbers

none_before : (p : PageCommand → Bool) (x : PageCommand) (cs : List PageCommand) → p x ≡ false → find p (cs ++ x ∷ []) ≡ find p cs
none_before p x [] e = ap (λ b. cond b (Some x) None) e
none_before p x (c ∷ cs) e = ap (cond (p c) (Some c)) (none_before p x cs e)

-- the pages after the first are free as before
free_behind : (cs : List PageCommand) (n ino : ℕ) (p : PageNo) (kind : IoKind) (ws : List (ℕ × PageNo × ℕ)) → list_any (λ v. (v.0 == ino) && same_page v.1 p) ws ≡ false →
    list_any (is_taken_in cs) ws ≡ false → list_any (is_taken_in (cs ++ page_command n ino p kind ∷ [])) ws ≡ false
free_behind cs n ino p kind [] d h = refl
free_behind cs n ino p kind (v ∷ vs) d h =
    let a = or_false ((v.0 == ino) && same_page v.1 p) (list_any (λ v. (v.0 == ino) && same_page v.1 p) vs) d in
    let b = or_false (is_taken_in cs v) (list_any (is_taken_in cs) vs) h in
    λ i. (ap is_some (none_before (is_command_of v.0 v.1) (page_command n ino p kind) cs (page_turn ino v.0 p v.1 ∙ a.0)) ∙ b.0) i || free_behind cs n ino p kind vs a.1 b.1 i

outside_more : (first many : ℕ) (cs : List PageCommand) → list_any (is_in_range first (suc many)) cs ≡ false → list_any (is_in_range (first + 1) many) cs ≡ false
outside_more first many [] h = refl
outside_more first many (c ∷ cs) h =
    let q = or_false (is_in_range first (suc many) c) (list_any (is_in_range first (suc many)) cs) h in
    λ i. by (nat_le (first + 1) c.number) (nat_lt c.number (first + 1 + many)) refl refl q.0 i || outside_more first many cs q.1 i
  where
    by : (a b : Bool) → nat_le (first + 1) c.number ≡ a → nat_lt c.number (first + 1 + many) ≡ b → is_in_range first (suc many) c ≡ false → (a && b) ≡ false
    by true true e f o =
        let l : first + 1 ≤ c.number = leb-true _ _ e in
        let m : c.number < first + 1 + many = ltb-true _ _ f in
        absurd (not_both (is_in_range first (suc many) c)
        (and_from _ _ (le-leb first c.number (omega arith)) (lt-ltb c.number (first + suc many) (omega arith))) o)
    by true false e f o = refl
    by false b e f o = refl

outside_last : (first many n ino : ℕ) (p : PageNo) (kind : IoKind) (cs : List PageCommand) → n < first → list_any (is_in_range first many) cs ≡ false →
    list_any (is_in_range first many) (cs ++ page_command n ino p kind ∷ []) ≡ false
outside_last first many n ino p kind cs l h =
    any_last (is_in_range first many) (page_command n ino p kind) cs (ap (λ (b : Bool). b && nat_lt n (first + many)) (lt-leb first n l)) ∙ h

-- the writes after the first may begin after it
pub rest_may : (cs : List PageCommand) (w : ℕ × PageNo × ℕ) (ws : List (ℕ × PageNo × ℕ)) (first : ℕ) → MayBegin cs (w ∷ ws) first →
    MayBegin (begin_command cs first w.0 w.1 (Write w.2)) ws (first + 1)
unfolding begin_command are_once
rest_may cs w ws first m =
    let d = and_parts (not (list_any (same_page_write w) ws)) (are_once same_page_write ws) m.differ in
    record {
      differ = d.1;
      free = free_behind cs first w.0 w.1 (Write w.2) ws (not-true _ d.0) (or_false (is_taken_in cs w) (list_any (is_taken_in cs) ws) m.free).1;
      numbers = outside_last (first + 1) (length ws) first w.0 w.1 (Write w.2) cs (omega arith) (outside_more first (length ws) cs m.numbers);
    }

-- One after another.

pub first_of_rest : (ws : List (ℕ × PageNo × ℕ)) (i : ℕ) (d : ℕ × PageNo × ℕ) → i < length ws → drop i ws ≡ get_or ws i d ∷ drop (i + 1) ws
first_of_rest ws i d l = rw (add-one, drop-cons ws i d)

pub step_begun : (cs new all : List PageCommand) (ws : List (ℕ × PageNo × ℕ)) (first i : ℕ) (d : ℕ × PageNo × ℕ) → i < length ws →
    new ≡ begin_command cs (first + i) (get_or ws i d).0 (get_or ws i d).1 (Write (get_or ws i d).2) →
    begin_writes cs (drop i ws) (first + i) ≡ all → begin_writes new (drop (i + 1) ws) (first + (i + 1)) ≡ all
unfolding begin_writes
step_begun cs new all ws first i d l e h =
    (λ k. begin_writes (e k) (drop (i + 1) ws) ((let n : first + (i + 1) ≡ (first + i) + 1 = omega arith in n) k))
    ∙ sym (ap (λ l. begin_writes cs l (first + i)) (first_of_rest ws i d l)) ∙ h

pub step_may : (cs new : List PageCommand) (ws : List (ℕ × PageNo × ℕ)) (first i : ℕ) (d : ℕ × PageNo × ℕ) → i < length ws →
    new ≡ begin_command cs (first + i) (get_or ws i d).0 (get_or ws i d).1 (Write (get_or ws i d).2) →
    MayBegin cs (drop i ws) (first + i) → MayBegin new (drop (i + 1) ws) (first + (i + 1))
step_may cs new ws first i d l e m =
    let here : MayBegin cs (get_or ws i d ∷ drop (i + 1) ws) (first + i) = subst (λ l. MayBegin cs l (first + i)) (first_of_rest ws i d l) m in
    let n : (first + i) + 1 ≡ first + (i + 1) = omega arith in
    subst (λ c. MayBegin c (drop (i + 1) ws) (first + (i + 1))) (sym e) (subst (λ k. MayBegin (begin_command cs (first + i) (get_or ws i d).0 (get_or ws i d).1 (Write (get_or ws i d).2)) (drop (i + 1) ws) k) n (rest_may cs (get_or ws i d) (drop (i + 1) ws) (first + i) here))

pub here_new : (cs : List PageCommand) (ws : List (ℕ × PageNo × ℕ)) (first i : ℕ) (d : ℕ × PageNo × ℕ) → i < length ws → MayBegin cs (drop i ws) (first + i) → command_of cs (first + i) ≡ None
here_new cs ws first i d l m = first_new cs (get_or ws i d) (drop (i + 1) ws) (first + i) (subst (λ l. MayBegin cs l (first + i)) (first_of_rest ws i d l) m)

-- whether the pages differ, by the first of the rest
pub once_step : (ws : List (ℕ × PageNo × ℕ)) (i : ℕ) (d : ℕ × PageNo × ℕ) → i < length ws →
    are_once same_page_write (drop i ws) ≡ (not (list_any (same_page_write (get_or ws i d)) (drop (i + 1) ws)) && are_once same_page_write (drop (i + 1) ws))
unfolding are_once
once_step ws i d l = ap (are_once same_page_write) (first_of_rest ws i d l)

pub once_end : (ws : List (ℕ × PageNo × ℕ)) (i : ℕ) → length ws ≤ i → are_once same_page_write (drop i ws) ≡ true
unfolding are_once
once_end [] zero l = refl
once_end [] (suc i) l = refl
once_end (w ∷ ws) zero l = absurd (omega arith)
once_end (w ∷ ws) (suc i) l = once_end ws i (omega arith)
