-- An inode found by its number, if the numbers rise.
use Rattle.std.proofs.Common.{◌≡◌, ℕ, zero, suc, ◌+◌, ◌<◌, ◌≤◌, Bool, true, false, List, [], ◌∷◌, length, get_or, set, arith, refl, sym, ap, ◌∙◌, ◌⊎◌, inl, inr, ⊎_elim}
use Rattle.std.specs.Prelude.{filter, find, if◌then◌else◌, map, not, Some, None}
use Rattle.std.specs.List.{AllByRecursion, remove}
use Rattle.std.proofs.lemmas.Bool.{cases_eq, cases_lt, cases_order, eq-eqb, ne_eqb}
use Rattle.st_namespace.specs.declared.entries.Inode.{Inode}
use Rattle.st_namespace.specs.StoredEntries.{AreRising, has_number}

every_at : (P : Inode → Type 0) (es : List Inode) (i : ℕ) (d : Inode) → i < length es → AllByRecursion P es → P (get_or es i d)
every_at P [] i d l a = let no : ⊥ = omega arith in absurd no
every_at P (e ∷ es) zero d l a = a.0
every_at P (e ∷ es) (suc i) d l a = every_at P es i d (omega arith) a.1

-- a later entry has a higher inode
rising_at : (es : List Inode) (i j : ℕ) (d : Inode) → AreRising es → i < j → j < length es → (get_or es i d).ino < (get_or es j d).ino
rising_at [] i j d r l k = let no : ⊥ = omega arith in absurd no
rising_at (e ∷ es) zero zero d r l k = let no : ⊥ = omega arith in absurd no
rising_at (e ∷ es) zero (suc j) d r l k = every_at (λ (x : Inode). e.ino < x.ino) es j d (omega arith) r.0
rising_at (e ∷ es) (suc i) zero d r l k = let no : ⊥ = omega arith in absurd no
rising_at (e ∷ es) (suc i) (suc j) d r l k = rising_at es i j d r.1 (omega arith) (omega arith)

same_at : (es : List Inode) (i : ℕ) (a d : Inode) → i < length es → a ≡ get_or es i a → a ≡ get_or es i d
same_at [] i a d l g = let no : ⊥ = omega arith in absurd no
same_at (e ∷ es) zero a d l g = g
same_at (e ∷ es) (suc i) a d l g = same_at es i a d (omega arith) g

module _ (es : List Inode) (ino : ℕ) (rising : AreRising es) (m : ℕ) (a : Inode) (l : m < length es) (is : a ≡ get_or es m a) where
  number_at : (d : Inode) → a.ino ≡ (get_or es m d).ino
  number_at d = λ i. (same_at es m a d l is i).ino

  -- the middle entry is below the inode: so are all before it
  pub more_below : a.ino < ino → (j : ℕ) (d : Inode) → j < m + 1 → (get_or es j d).ino < ino
  more_below h j d k = ⊎_elim
      (λ (e : j ≡ m). let q : (get_or es j d).ino ≡ a.ino = (λ i. (get_or es (e i) d).ino) ∙ sym (number_at d) in omega (arith, q, h))
      (λ n. omega (arith, rising_at es j m d rising (omega (arith, k, n)) l, number_at d, h))
      (cases_eq j m)

  -- it isn't: neither is any after it
  pub more_above : ino ≤ a.ino → (j : ℕ) (d : Inode) → m ≤ j → j < length es → ino ≤ (get_or es j d).ino
  more_above h j d k s = ⊎_elim
      (λ (e : j ≡ m). let q : (get_or es j d).ino ≡ a.ino = (λ i. (get_or es (e i) d).ino) ∙ sym (number_at d) in omega (arith, q, h))
      (λ n. omega (arith, rising_at es m j d rising (omega (arith, k, n)) s, number_at d, h))
      (cases_eq j m)

none_of : (p : Inode → Bool) (es : List Inode) → ((j : ℕ) (d : Inode) → j < length es → p (get_or es j d) ≡ false) → find p es ≡ None
none_of p [] h = refl
none_of p (e ∷ es) h =
    let q : p e ≡ false = h 0 e (omega arith) in
    rw q (none_of p es (λ j d k. h (suc j) d (omega (arith, k))))

first_of : (p : Inode → Bool) (es : List Inode) (i : ℕ) (d : Inode) → ((j : ℕ) (d : Inode) → j < i → p (get_or es j d) ≡ false) → i < length es → p (get_or es i d) ≡ true → find p es ≡ Some (get_or es i d)
first_of p [] i d h l t = let no : ⊥ = omega arith in absurd no
first_of p (e ∷ es) zero d h l t = rw t refl
first_of p (e ∷ es) (suc i) d h l t =
    let q : p e ≡ false = h 0 e (omega arith) in
    rw q (first_of p es i d (λ j x k. h (suc j) x (omega (arith, k))) (omega arith) t)

module _ (es : List Inode) (ino : ℕ) (place : ℕ) (below : (j : ℕ) (d : Inode) → j < place → (get_or es j d).ino < ino) where
  other : (e : Inode) → e.ino < ino → has_number ino e ≡ false
  other e l = ne_eqb e.ino ino (λ (q : e.ino ≡ ino). omega (arith, q, l))

  higher : (e : Inode) → ino < e.ino → has_number ino e ≡ false
  higher e l = ne_eqb e.ino ino (λ (q : e.ino ≡ ino). omega (arith, q, l))

  -- all entries are below
  pub none_behind : length es ≤ place → None ≡ find (has_number ino) es
  none_behind l = sym (none_of (has_number ino) es (λ j d k. other (get_or es j d) (below j d (omega (arith, k, l)))))

  module _ (a : Inode) (l : place < length es) (is : a ≡ get_or es place a) where
    pub found_there : a.ino ≡ ino → Some a ≡ find (has_number ino) es
    found_there e =
        (λ i. Some (is i)) ∙ sym (first_of (has_number ino) es place a (λ j d k. other (get_or es j d) (below j d k)) l (eq-eqb (get_or es place a).ino ino ((λ i. (sym is i).ino) ∙ e)))

    -- the first that is not below is above
    pub none_there : AreRising es → ((j : ℕ) (d : Inode) → place ≤ j → j < length es → ino ≤ (get_or es j d).ino) → (a.ino ≡ ino → ⊥) → None ≡ find (has_number ino) es
    none_there rising above n = sym (none_of (has_number ino) es (λ j d k. ⊎_elim
        (λ (e : j ≡ place).
        let q : (get_or es j d).ino ≡ a.ino = (λ i. (get_or es (e i) d).ino) ∙ (λ i. (sym (same_at es place a d l is) i).ino) in
        ne_eqb (get_or es j d).ino ino (λ (z : (get_or es j d).ino ≡ ino). n (sym q ∙ z)))
        (λ m. by j d k m)
        (cases_eq j place)))
      where
        order : (j i : ℕ) → (j ≡ i → ⊥) → (j < i) ⊎ (i < j)
        order j i m = ⊎_elim (λ (s : j < i). inl s) (λ (s : i ≤ j). inr (omega (arith, s, m))) (cases_lt j i)

        by : (j : ℕ) (d : Inode) → j < length es → (j ≡ place → ⊥) → has_number ino (get_or es j d) ≡ false
        by j d k m = ⊎_elim
            (λ (s : j < place). other (get_or es j d) (below j d s))
            (λ (s : place < j). higher (get_or es j d) (omega (arith, above place d (omega arith) l, rising_at es place j d rising s k)))
            (order j place m)

-- The only one that passes.

all_left : {K : Type 0} (p : K → Bool) (xs : List K) → ((j : ℕ) (d : K) → j < length xs → p (get_or xs j d) ≡ false) → filter (λ x. not (p x)) xs ≡ xs
all_left p [] n = refl
all_left p (x ∷ xs) n = let h : p x ≡ false = n 0 x (omega arith) in rw h (ap (λ l. x ∷ l) (all_left p xs (λ j d k. n (suc j) d (omega (arith, k)))))

all_stay : {K : Type 0} (p : K → Bool) (f : K → K) (xs : List K) → ((j : ℕ) (d : K) → j < length xs → p (get_or xs j d) ≡ false) → map (λ x. if p x then f x else x) xs ≡ xs
all_stay p f [] n = refl
all_stay p f (x ∷ xs) n = let h : p x ≡ false = n 0 x (omega arith) in rw h (ap (λ l. x ∷ l) (all_stay p f xs (λ j d k. n (suc j) d (omega (arith, k)))))

-- it goes
pub remove_is : {K : Type 0} (p : K → Bool) (xs : List K) (i : ℕ) → i < length xs → ((d : K) → p (get_or xs i d) ≡ true) → ((j : ℕ) (d : K) → (j ≡ i → ⊥) → j < length xs → p (get_or xs j d) ≡ false) → remove xs i ≡ filter (λ x. not (p x)) xs
remove_is p [] i l t n = let no : ⊥ = omega (arith, l) in absurd no
remove_is p (x ∷ xs) zero l t n = let h : p x ≡ true = t x in rw h (sym (all_left p xs (λ j d k. n (suc j) d (λ (e : suc j ≡ 0). omega (arith, e)) (omega (arith, k)))))
remove_is p (x ∷ xs) (suc i) l t n =
    let h : p x ≡ false = n 0 x (λ (e : 0 ≡ suc i). omega (arith, e)) (omega arith) in
    rw h (ap (λ l. x ∷ l) (remove_is p xs i (omega (arith, l)) t (λ j d e k. n (suc j) d (λ (z : suc j ≡ suc i). e (omega (arith, z))) (omega (arith, k)))))

-- it changes
set_is : {K : Type 0} (p : K → Bool) (f : K → K) (xs : List K) (i : ℕ) (y : K) → i < length xs → ((d : K) → p (get_or xs i d) ≡ true) → ((d : K) → y ≡ f (get_or xs i d)) → ((j : ℕ) (d : K) → (j ≡ i → ⊥) → j < length xs → p (get_or xs j d) ≡ false) → set xs i y ≡ map (λ x. if p x then f x else x) xs
set_is p f [] i y l t e n = let no : ⊥ = omega (arith, l) in absurd no
set_is p f (x ∷ xs) zero y l t e n = let h : p x ≡ true = t x in rw h ((λ i. e x i ∷ sym (all_stay p f xs (λ j d k. n (suc j) d (λ (z : suc j ≡ 0). omega (arith, z)) (omega (arith, k)))) i))
set_is p f (x ∷ xs) (suc i) y l t e n =
    let h : p x ≡ false = n 0 x (λ (z : 0 ≡ suc i). omega (arith, z)) (omega arith) in
    rw h (ap (λ l. x ∷ l) (set_is p f xs i y (omega (arith, l)) t e (λ j d a k. n (suc j) d (λ (z : suc j ≡ suc i). a (omega (arith, z))) (omega (arith, k)))))

-- The place that a search found.
module _ (es : List Inode) (ino : ℕ) (rising : AreRising es) (place : ℕ) where
  other_number : place < length es → ((d : Inode) → (get_or es place d).ino ≡ ino) → (j : ℕ) (d : Inode) → (j ≡ place → ⊥) → j < length es → has_number ino (get_or es j d) ≡ false
  other_number l t j d n k =
      let at : (get_or es place d).ino ≡ ino = t d in
      ne_eqb (get_or es j d).ino ino (λ (z : (get_or es j d).ino ≡ ino).
      ⊎_elim n
      (λ c. ⊎_elim
      (λ s. let r = rising_at es j place d rising s l in omega (arith, r, z, at))
      (λ s. let r = rising_at es place j d rising s k in omega (arith, r, z, at)) c)
      (cases_order j place))

  at_number : ((d : Inode) → (get_or es place d).ino ≡ ino) → (d : Inode) → has_number ino (get_or es place d) ≡ true
  at_number t d = eq-eqb (get_or es place d).ino ino (t d)

  pub drops : place < length es → ((d : Inode) → (get_or es place d).ino ≡ ino) → remove es place ≡ filter (λ n. not (has_number ino n)) es
  drops l t = remove_is (has_number ino) es place l (at_number t) (other_number l t)

  pub moves : (f : Inode → Inode) (y : Inode) → place < length es → ((d : Inode) → (get_or es place d).ino ≡ ino) → ((d : Inode) → y ≡ f (get_or es place d)) → set es place y ≡ map (λ n. if has_number ino n then f n else n) es
  moves f y l t e = set_is (has_number ino) f es place y l (at_number t) e (other_number l t)

  -- no inode has the number
  module _ (below : (j : ℕ) (d : Inode) → j < place → (get_or es j d).ino < ino) (above : (j : ℕ) (d : Inode) → place ≤ j → j < length es → ino ≤ (get_or es j d).ino) (missing : place < length es → (d : Inode) → (get_or es place d).ino ≡ ino → ⊥) where
    no_number : (j : ℕ) (d : Inode) → j < length es → has_number ino (get_or es j d) ≡ false
    no_number j d k = ne_eqb (get_or es j d).ino ino (λ (z : (get_or es j d).ino ≡ ino).
        ⊎_elim
        (λ (e : j ≡ place). missing (omega (arith, k, e)) d ((λ i. (get_or es (sym e i) d).ino) ∙ z))
        (λ c. ⊎_elim
        (λ s. let r = below j d s in omega (arith, r, z))
        (λ s. let r = rising_at es place j d rising s k in let a = above place d (omega arith) (omega (arith, s, k)) in omega (arith, r, a, z)) c)
        (cases_order j place))

    pub drops_none : es ≡ filter (λ n. not (has_number ino n)) es
    drops_none = sym (all_left (has_number ino) es no_number)

    pub moves_none : (f : Inode → Inode) → es ≡ map (λ n. if has_number ino n then f n else n) es
    moves_none f = sym (all_stay (has_number ino) f es no_number)
