-- What is stored of entries: what is found, and what holds after a change.
use Rattle.std.proofs.Common.{◌≡◌, ℕ, zero, suc, ◌<◌, ◌≤◌, Bool, true, false, cond, if◌then◌else◌, List, [], ◌∷◌, ◌++◌, length, get_or, map, filter, arith, refl, sym, ap, subst, ◌∙◌, ⊎_elim, true≢false}
use Rattle.std.specs.Prelude.{◌&&◌, ◌||◌, ◌==◌, find, filter_map, insert, is_some, not, Option, Some, None, All}
use Rattle.std.specs.Option.{option_map}
use Rattle.std.specs.List.{AllByRecursion, list_any, remove}
use Rattle.std.specs.Cmp.{both_ways}
use Rattle.std.proofs.lemmas.Bool.{cases_Bool, cases_order, eq-eqb, eqb-true, ne_eqb, or_parts}
use Rattle.std.proofs.lemmas.List.{map_push}
use Rattle.std.proofs.lemmas.List.Folds.{list_any-append, list_any_at}
use Rattle.std.proofs.lemmas.List.Elements.{recursion_from_All}
use Rattle.st_rules.specs.declared.names.NameEntry.{NameEntry}
use Rattle.st_rules.specs.Names as names
use Rattle.st_namespace.specs.declared.entries.Inode.{Inode}
use Rattle.st_namespace.specs.Order.{IsRising}
use Rattle.st_namespace.specs.StoredEntries.{AreByName, AreRising, Stores, dir_in, dir_of, entries_of, has_number, inode_of, key_of, mark_in, moved_to}
use Rattle.st_namespace.proofs.ByName.{behind_at, behind_fresh, key_is}
use Rattle.st_namespace.proofs.NameOrder.{every_filter, found_is_any, move_old, move_other, rising_after, rising_filter, rising_push}
use Rattle.st_namespace.proofs.Ordered.{below_itself}
use Rattle.st_namespace.proofs.Searches.{remove_is}

-- Lists.

every_from : {K : Type 0} (P : K → Type 0) (xs : List K) → ((j : ℕ) (d : K) → j < length xs → P (get_or xs j d)) → AllByRecursion P xs
every_from P [] h = tt
every_from P (x ∷ xs) h = (h 0 x (omega arith), every_from P xs (λ j d k. h (suc j) d (omega (arith, k))))

every_push : {K : Type 0} (P : K → Type 0) (xs : List K) (y : K) → AllByRecursion P xs → P y → AllByRecursion P (xs ++ y ∷ [])
every_push P [] y a b = (b, tt)
every_push P (x ∷ xs) y a b = (a.0, every_push P xs y a.1 b)

every_both : {K : Type 0} (P Q R : K → Type 0) → ((x : K) → P x → Q x → R x) → (xs : List K) → AllByRecursion P xs → AllByRecursion Q xs → AllByRecursion R xs
every_both P Q R f [] a b = tt
every_both P Q R f (x ∷ xs) a b = (f x a.0 b.0, every_both P Q R f xs a.1 b.1)

every_weaker : {K : Type 0} (P Q : K → Type 0) → ((x : K) → P x → Q x) → (xs : List K) → AllByRecursion P xs → AllByRecursion Q xs
every_weaker P Q f [] a = tt
every_weaker P Q f (x ∷ xs) a = (f x a.0, every_weaker P Q f xs a.1)

every_map : {K L : Type 0} (P : L → Type 0) (f : K → L) (xs : List K) → AllByRecursion (λ x. P (f x)) xs → AllByRecursion P (map f xs)
every_map P f [] a = tt
every_map P f (x ∷ xs) a = (a.0, every_map P f xs a.1)

every_insert : {K : Type 0} (P : K → Type 0) (xs : List K) (i : ℕ) (y : K) → AllByRecursion P xs → P y → AllByRecursion P (insert xs i y)
every_insert P [] zero y a b = (b, tt)
every_insert P [] (suc i) y a b = (b, tt)
every_insert P (x ∷ xs) zero y a b = (b, a)
every_insert P (x ∷ xs) (suc i) y a b = (a.0, every_insert P xs i y a.1 b)

-- those that do not pass, of which something holds
every_left : {K : Type 0} (P Q : K → Type 0) (q : K → Bool) → ((x : K) → P x → q x ≡ false → Q x) → (xs : List K) → AllByRecursion P xs → AllByRecursion Q (filter (λ x. not (q x)) xs)
every_left P Q q f [] a = tt
every_left P Q q f (x ∷ xs) a =
    let rest = every_left P Q q f xs a.1 in
    ⊎_elim (λ t. rw t rest) (λ t. rw t (f x a.0 t, rest)) (cases_Bool (q x))

found_by : {K : Type 0} (P : K → Type 0) (r : K → Bool) (x e : K) (xs : List K) (b : Bool) → (find r xs ≡ Some e → P e) → P x → cond b (Some x) (find r xs) ≡ Some e → P e
found_by P r x e xs true ih p h = let z : x ≡ e = cc in subst P z p
found_by P r x e xs false ih p h = ih h

every_found : {K : Type 0} (P : K → Type 0) (r : K → Bool) (e : K) (xs : List K) → AllByRecursion P xs → find r xs ≡ Some e → P e
every_found P r e [] a h = cc
every_found P r e (x ∷ xs) a h = found_by P r x e xs (r x) (every_found P r e xs a.1) a.0 h

passes_by : {K : Type 0} (r : K → Bool) (x e : K) (xs : List K) (b : Bool) → r x ≡ b → (find r xs ≡ Some e → r e ≡ true) → cond b (Some x) (find r xs) ≡ Some e → r e ≡ true
passes_by r x e xs true t ih h = let z : x ≡ e = cc in ap r (sym z) ∙ t
passes_by r x e xs false t ih h = ih h

found_passes : {K : Type 0} (r : K → Bool) (e : K) (xs : List K) → find r xs ≡ Some e → r e ≡ true
found_passes r e [] h = cc
found_passes r e (x ∷ xs) h = passes_by r x e xs (r x) refl (found_passes r e xs) h

none_is_none : {A : Type 0} (o : Option A) → is_some o ≡ false → o ≡ None
none_is_none None h = refl
none_is_none (Some x) h = absurd (true≢false h)

some_is : {A : Type 0} (o : Option A) → is_some o ≡ true → (x : A) × (o ≡ Some x)
some_is None h = absurd (true≢false (sym h))
some_is (Some x) h = (x, refl)

index_by : {K : Type 0} (r : K → Bool) (x e : K) (xs : List K) (b : Bool) → (find r xs ≡ Some e → (i : ℕ) × ((i < length xs) × ((d : K) → get_or xs i d ≡ e))) → cond b (Some x) (find r xs) ≡ Some e → (i : ℕ) × ((i < length (x ∷ xs)) × ((d : K) → get_or (x ∷ xs) i d ≡ e))
index_by r x e xs true ih h = let z : x ≡ e = cc in (0, (omega arith, λ d. z))
index_by r x e xs false ih h = let g = ih h in (suc g.0, (omega (arith, g.1.0), g.1.1))

-- the place of the one found
pub index_of : {K : Type 0} (r : K → Bool) (e : K) (xs : List K) → find r xs ≡ Some e → (i : ℕ) × ((i < length xs) × ((d : K) → get_or xs i d ≡ e))
index_of r e [] h = cc
index_of r e (x ∷ xs) h = index_by r x e xs (r x) (index_of r e xs) h

or_turn : (a b c : Bool) → (a || (b || c)) ≡ (b || (a || c))
or_turn true true c = refl
or_turn true false c = refl
or_turn false true c = refl
or_turn false false c = refl

or_swap : (a b : Bool) → (a || b) ≡ (b || (a || false))
or_swap true true = refl
or_swap true false = refl
or_swap false true = refl
or_swap false false = refl

any_insert : {K : Type 0} (p : K → Bool) (xs : List K) (i : ℕ) (y : K) → list_any p (insert xs i y) ≡ (p y || list_any p xs)
any_insert p [] zero y = refl
any_insert p [] (suc i) y = refl
any_insert p (x ∷ xs) zero y = refl
any_insert p (x ∷ xs) (suc i) y = ap (λ b. p x || b) (any_insert p xs i y) ∙ or_turn (p x) (p y) (list_any p xs)

any_by : {K : Type 0} (p : K → Bool) (x : K) (xs : List K) (k b : Bool) → list_any p xs ≡ b → list_any p (cond (not k) (x ∷ xs) xs) ≡ ((not k && p x) || b)
any_by p x xs true b h = h
any_by p x xs false b h = ap (λ z. p x || z) h

any_left : {K : Type 0} (p q : K → Bool) (xs : List K) → list_any p (filter (λ x. not (q x)) xs) ≡ list_any (λ x. not (q x) && p x) xs
any_left p q [] = refl
any_left p q (x ∷ xs) = any_by p x (filter (λ x. not (q x)) xs) (q x) (list_any (λ x. not (q x) && p x) xs) (any_left p q xs)

any_map : {K L : Type 0} (p : L → Bool) (f : K → L) (xs : List K) → list_any p (map f xs) ≡ list_any (λ x. p (f x)) xs
any_map p f [] = refl
any_map p f (x ∷ xs) = ap (λ b. p (f x) || b) (any_map p f xs)

any_weaker : {K : Type 0} (p q : K → Bool) (xs : List K) → ((x : K) → p x ≡ true → q x ≡ true) → list_any q xs ≡ false → list_any p xs ≡ false
any_weaker p q [] f h = refl
any_weaker p q (x ∷ xs) f h =
    let b = or_parts (q x) (list_any q xs) h in
    let n : p x ≡ false = ⊎_elim (λ t. absurd (true≢false (sym (f x t) ∙ b.0))) (λ t. t) (cases_Bool (p x)) in
    (λ i. n i || any_weaker p q xs f b.1 i)

none_every : {K : Type 0} (p : K → Bool) (xs : List K) → AllByRecursion (λ x. p x ≡ false) xs → list_any p xs ≡ false
none_every p [] a = refl
none_every p (x ∷ xs) a = (λ i. a.0 i || none_every p xs a.1 i)

find_insert_other : {K : Type 0} (r : K → Bool) (xs : List K) (i : ℕ) (y : K) → r y ≡ false → find r (insert xs i y) ≡ find r xs
find_insert_other r [] zero y f = rw f refl
find_insert_other r [] (suc i) y f = rw f refl
find_insert_other r (x ∷ xs) zero y f = rw f refl
find_insert_other r (x ∷ xs) (suc i) y f = ap (cond (r x) (Some x)) (find_insert_other r xs i y f)

find_insert_here : {K : Type 0} (r : K → Bool) (xs : List K) (i : ℕ) (y : K) → r y ≡ true → list_any r xs ≡ false → find r (insert xs i y) ≡ Some y
find_insert_here r [] zero y t h = rw t refl
find_insert_here r [] (suc i) y t h = rw t refl
find_insert_here r (x ∷ xs) zero y t h = rw t refl
find_insert_here r (x ∷ xs) (suc i) y t h =
    let b = or_parts (r x) (list_any r xs) h in
    ap (λ z. cond z (Some x) (find r (insert xs i y))) b.0 ∙ find_insert_here r xs i y t b.1

kept_by : {K : Type 0} (r q : K → Bool) (x e : K) (xs : List K) (a b : Bool) → q x ≡ a → r x ≡ b → q e ≡ false → (find r xs ≡ Some e → find r (filter (λ x. not (q x)) xs) ≡ Some e) → cond b (Some x) (find r xs) ≡ Some e → find r (cond (not a) (x ∷ filter (λ x. not (q x)) xs) (filter (λ x. not (q x)) xs)) ≡ Some e
kept_by r q x e xs true true s t n ih h = let z : x ≡ e = cc in absurd (true≢false (sym s ∙ ap q z ∙ n))
kept_by r q x e xs true false s t n ih h = ih h
kept_by r q x e xs false true s t n ih h = ap (λ z. cond z (Some x) (find r (filter (λ x. not (q x)) xs))) t ∙ h
kept_by r q x e xs false false s t n ih h = ap (λ z. cond z (Some x) (find r (filter (λ x. not (q x)) xs))) t ∙ ih h

-- one that is found and stays
find_kept : {K : Type 0} (r q : K → Bool) (e : K) (xs : List K) → q e ≡ false → find r xs ≡ Some e → find r (filter (λ x. not (q x)) xs) ≡ Some e
find_kept r q e [] n h = cc
find_kept r q e (x ∷ xs) n h = kept_by r q x e xs (q x) (r x) refl refl n (find_kept r q e xs n) h

filter_alike : {K L : Type 0} (f : K → L) (p : L → Bool) (q : K → Bool) (xs : List K) → AllByRecursion (λ x. p (f x) ≡ q x) xs → filter (λ y. not (p y)) (map f xs) ≡ map f (filter (λ x. not (q x)) xs)
filter_alike f p q [] a = refl
filter_alike f p q (x ∷ xs) a =
    let rest = filter_alike f p q xs a.1 in
    ⊎_elim
    (λ t. let s : p (f x) ≡ true = a.0 ∙ t in rw (s, t) rest)
    (λ t. let s : p (f x) ≡ false = a.0 ∙ t in rw (s, t) (ap (λ l. f x ∷ l) rest))
    (cases_Bool (q x))

map_alike : {K L M : Type 0} (f : K → M) (g : L → M) (h : K → L) (xs : List K) → AllByRecursion (λ x. f x ≡ g (h x)) xs → map f xs ≡ map g (map h xs)
map_alike f g h [] a = refl
map_alike f g h (x ∷ xs) a = (λ i. a.0 i ∷ map_alike f g h xs a.1 i)

map_twice : {K L M : Type 0} (g : L → M) (h : K → L) (xs : List K) → map g (map h xs) ≡ map (λ x. g (h x)) xs
map_twice g h [] = refl
map_twice g h (x ∷ xs) = ap (λ l. g (h x) ∷ l) (map_twice g h xs)

-- Entries by name.

by_name_insert : (es : List NameEntry) (i : ℕ) (x : NameEntry) → AreByName es → i ≤ length es → ((j : ℕ) (d : NameEntry) → j < i → names.name_below (key_of (get_or es j d)) (key_of x) ≡ true) → ((j : ℕ) (d : NameEntry) → i ≤ j → j < length es → names.name_below (key_of x) (key_of (get_or es j d)) ≡ true) → AreByName (insert es i x)
by_name_insert [] zero x o l before behind = (tt, tt)
by_name_insert [] (suc i) x o l before behind = let no : ⊥ = omega (arith, l) in absurd no
by_name_insert (e ∷ es) zero x o l before behind = (every_from (λ d. names.name_below (key_of x) (key_of d) ≡ true) (e ∷ es) (λ j d k. behind j d (omega arith) k), o)
by_name_insert (e ∷ es) (suc i) x o l before behind = (
  every_insert (λ d. names.name_below (key_of e) (key_of d) ≡ true) es i x o.0 (before 0 x (omega arith)),
  by_name_insert es i x o.1 (omega (arith, l)) (λ j d k. before (suc j) d (omega (arith, k))) (λ j d k s. behind (suc j) d (omega (arith, k)) (omega (arith, s))),
)

by_name_filter : (p : NameEntry → Bool) (es : List NameEntry) → AreByName es → AreByName (filter p es)
by_name_filter p [] o = tt
by_name_filter p (e ∷ es) o =
    let rest = by_name_filter p es o.1 in
    ⊎_elim
    (λ t. rw t (every_filter (λ d. names.name_below (key_of e) (key_of d) ≡ true) p es o.0, rest))
    (λ f. rw f rest)
    (cases_Bool (p e))

-- entries of one key are at one place
pub one_place : (es : List NameEntry) (i j : ℕ) (d : NameEntry) → AreByName es → i < length es → j < length es → key_of (get_or es i d) ≡ key_of (get_or es j d) → i ≡ j
one_place es i j d o l m e = ⊎_elim (λ z. z)
    (λ c. ⊎_elim
    (λ s. absurd (true≢false (sym (behind_at es i j d o s m) ∙ ap (λ k. names.name_below k (key_of (get_or es j d))) e ∙ below_itself (key_of (get_or es j d)))))
    (λ s. absurd (true≢false (sym (behind_at es j i d o s l) ∙ ap (names.name_below (key_of (get_or es j d))) e ∙ below_itself (key_of (get_or es j d))))) c)
    (cases_order i j)

-- What is shown.

from : (sorted es : List NameEntry) → AllByRecursion (λ e. find (names.is_of_ino e.ino) sorted ≡ Some e) es → filter_map (λ (n : Inode). find (names.is_of_ino n.ino) sorted) (map inode_of es) ≡ es
from sorted [] a = refl
from sorted (e ∷ es) a = rw a.0 (ap (λ l. e ∷ l) (from sorted es a.1))

pub stored_is : (es : List NameEntry) (inodes : List Inode) (sorted : List NameEntry) → Stores es inodes sorted → entries_of inodes sorted ≡ es
stored_is es inodes sorted s = ap (λ n. entries_of n sorted) s.inodes ∙ from sorted es s.found

pub stored : (es : List NameEntry) (inodes : List Inode) (sorted : List NameEntry) → Stores es inodes sorted → Stores (entries_of inodes sorted) inodes sorted
stored es inodes sorted s = subst (λ l. Stores l inodes sorted) (sym (stored_is es inodes sorted s)) s

pub found_inode : (ino : ℕ) (es : List NameEntry) → find (has_number ino) (map inode_of es) ≡ option_map inode_of (find (names.is_of_ino ino) es)
found_inode ino [] = refl
found_inode ino (e ∷ es) = ⊎_elim (λ t. rw t refl) (λ f. rw f (found_inode ino es)) (cases_Bool (names.is_of_ino ino e))

module _ (es : List NameEntry) (inodes : List Inode) (sorted : List NameEntry) (s : Stores es inodes sorted) where
  -- the place of an entry by its name
  place_of_entry : (e : NameEntry) → find (names.is_of_ino e.ino) sorted ≡ Some e → (i : ℕ) × ((i < length sorted) × ((d : NameEntry) → get_or sorted i d ≡ e))
  place_of_entry e h = index_of (names.is_of_ino e.ino) e sorted h

  module _ (dir : ℕ) (name : List ℕ) where
    pub no_name : list_any (names.is_entry_at dir name) sorted ≡ false → find (names.is_entry_at dir name) es ≡ None
    no_name h = none_is_none (find (names.is_entry_at dir name) es) (found_is_any (names.is_entry_at dir name) es ∙ sym (s.same (names.is_entry_at dir name)) ∙ h)

    module _ (k : ℕ) (a : NameEntry) (l : k < length sorted) (is : (d : NameEntry) → get_or sorted k d ≡ a) (t : names.is_entry_at dir name a ≡ true) where
      -- an entry of that name is the one at the place
      only : (e : NameEntry) → find (names.is_of_ino e.ino) sorted ≡ Some e → names.is_entry_at dir name e ≡ true → e ≡ a
      only e h u =
          let p = place_of_entry e h in
          let z : p.0 ≡ k = one_place sorted p.0 k a s.order p.1.0 l (ap key_of (p.1.1 a) ∙ key_is dir name e u ∙ sym (key_is dir name a t) ∙ sym (ap key_of (is a))) in
          sym (p.1.1 a) ∙ ap (λ n. get_or sorted n a) z ∙ is a

      pub found_name : find (names.is_entry_at dir name) es ≡ Some a
      found_name =
          let some : list_any (names.is_entry_at dir name) es ≡ true = sym (s.same (names.is_entry_at dir name)) ∙ list_any_at (names.is_entry_at dir name) sorted k a l (ap (names.is_entry_at dir name) (is a) ∙ t) in
          let x = some_is (find (names.is_entry_at dir name) es) (found_is_any (names.is_entry_at dir name) es ∙ some) in
          x.1 ∙ ap Some (only x.0 (every_found (λ e. find (names.is_of_ino e.ino) sorted ≡ Some e) (names.is_entry_at dir name) x.0 es s.found x.1) (found_passes (names.is_entry_at dir name) x.0 es x.1))

      here : find (names.is_of_ino a.ino) sorted ≡ Some a
      here = every_found (λ e. find (names.is_of_ino e.ino) sorted ≡ Some e) (names.is_entry_at dir name) a es s.found found_name

      -- the inode and the name tell the same entry
      alike : (e : NameEntry) → find (names.is_of_ino e.ino) sorted ≡ Some e → names.is_of_ino a.ino e ≡ names.is_entry_at dir name e
      alike e h = both_ways (names.is_of_ino a.ino e) (names.is_entry_at dir name e)
          (λ u.
          let ino : e.ino ≡ a.ino = eqb-true e.ino a.ino u in
          let z : Some e ≡ Some a = sym h ∙ ap (λ n. find (names.is_of_ino n) sorted) ino ∙ here in
          let w : e ≡ a = cc in
          ap (names.is_entry_at dir name) w ∙ t)
          (λ u. eq-eqb e.ino a.ino (ap (λ (x : NameEntry). x.ino) (only e h u)))

      all_alike : AllByRecursion (λ e. names.is_of_ino a.ino e ≡ names.is_entry_at dir name e) es
      all_alike = every_weaker (λ e. find (names.is_of_ino e.ino) sorted ≡ Some e) (λ e. names.is_of_ino a.ino e ≡ names.is_entry_at dir name e) alike es s.found

      -- the others have other names
      others : (j : ℕ) (d : NameEntry) → (j ≡ k → ⊥) → j < length sorted → names.is_entry_at dir name (get_or sorted j d) ≡ false
      others j d n m = ⊎_elim
          (λ u. absurd (n (one_place sorted j k d s.order m l (key_is dir name (get_or sorted j d) u ∙ sym (key_is dir name a t) ∙ sym (ap key_of (is d))))))
          (λ f. f)
          (cases_Bool (names.is_entry_at dir name (get_or sorted j d)))

      pub left_is : remove sorted k ≡ filter (λ e. not (names.is_entry_at dir name e)) sorted
      left_is = remove_is (names.is_entry_at dir name) sorted k l (λ d. ap (names.is_entry_at dir name) (is d) ∙ t) others

      -- the entry goes
      pub stores_removed : Stores (filter (λ e. not (names.is_entry_at dir name e)) es) (filter (λ n. not (has_number a.ino n)) inodes) (filter (λ e. not (names.is_entry_at dir name e)) sorted)
      stores_removed = record {
        inodes = ap (filter (λ n. not (has_number a.ino n))) s.inodes ∙ filter_alike inode_of (has_number a.ino) (names.is_entry_at dir name) es all_alike;
        found = every_left (λ e. find (names.is_of_ino e.ino) sorted ≡ Some e) (λ e. find (names.is_of_ino e.ino) (filter (λ x. not (names.is_entry_at dir name x)) sorted) ≡ Some e) (names.is_entry_at dir name)
            (λ e h n. find_kept (names.is_of_ino e.ino) (names.is_entry_at dir name) e sorted n h) es s.found;
        same = λ p. any_left p (names.is_entry_at dir name) sorted ∙ s.same (λ x. not (names.is_entry_at dir name x) && p x) ∙ sym (any_left p (names.is_entry_at dir name) es);
        order = by_name_filter (λ e. not (names.is_entry_at dir name e)) sorted s.order;
        rising = rising_filter (λ e. not (names.is_entry_at dir name e)) es s.rising;
      }

      -- The entry moves.
      module _ (dir2 : ℕ) (name2 : List ℕ) (fresh : list_any (names.is_entry_at dir2 name2) es ≡ false) where
        abbrev q : NameEntry → Bool
        q = names.is_entry_at dir name

        abbrev left : List NameEntry
        left = filter (λ e. not (names.is_entry_at dir name e)) sorted

        abbrev pub moved_one : NameEntry
        moved_one = record { dir = dir2; name = name2; ino = a.ino; directory = a.directory }

        pub left_fresh : list_any (names.is_entry_at dir2 name2) left ≡ false
        left_fresh = any_left (names.is_entry_at dir2 name2) q sorted ∙ any_weaker (λ x. not (q x) && names.is_entry_at dir2 name2 x) (names.is_entry_at dir2 name2) sorted (λ x. last (not (q x)) (names.is_entry_at dir2 name2 x)) (s.same (names.is_entry_at dir2 name2) ∙ fresh)
          where
            last : (x y : Bool) → (x && y) ≡ true → y ≡ true
            last true y h = h
            last false y h = absurd (true≢false (sym h))

        pub left_order : AreByName left
        left_order = by_name_filter (λ e. not (names.is_entry_at dir name e)) sorted s.order

        none_left : list_any (names.is_of_ino a.ino) left ≡ false
        none_left = any_left (names.is_of_ino a.ino) q sorted ∙ s.same (λ x. not (q x) && names.is_of_ino a.ino x) ∙ none_every (λ x. not (q x) && names.is_of_ino a.ino x) es
            (every_weaker (λ e. names.is_of_ino a.ino e ≡ q e) (λ e. (not (q e) && names.is_of_ino a.ino e) ≡ false) (λ e h. ap (λ b. not (q e) && b) h ∙ never (q e)) es all_alike)
          where
            never : (b : Bool) → (not b && b) ≡ false
            never true = refl
            never false = refl

        inode_moves : (e : NameEntry) → names.is_of_ino a.ino e ≡ q e → (if has_number a.ino (inode_of e) then moved_to dir2 (inode_of e) else inode_of e) ≡ inode_of (names.move_entry dir name dir2 name2 e)
        unfolding names.moved
        inode_moves e h = ⊎_elim
            (λ u. let w : names.is_of_ino a.ino e ≡ true = h ∙ u in rw (w, u) refl)
            (λ u. let w : names.is_of_ino a.ino e ≡ false = h ∙ u in rw (w, u) refl)
            (cases_Bool (q e))

        moved_is : (e : NameEntry) → e ≡ a → names.moved dir2 name2 e ≡ moved_one
        unfolding names.moved
        moved_is e z = ap (λ (x : NameEntry). names.moved dir2 name2 x) z

        found_moves : (k2 : ℕ) (e : NameEntry) → find (names.is_of_ino e.ino) sorted ≡ Some e → find (names.is_of_ino (names.move_entry dir name dir2 name2 e).ino) (insert left k2 moved_one) ≡ Some (names.move_entry dir name dir2 name2 e)
        found_moves k2 e h = ⊎_elim
            (λ u.
            let z : e ≡ a = only e h u in
            let w : names.move_entry dir name dir2 name2 e ≡ moved_one = move_old dir name dir2 name2 e u ∙ moved_is e z in
            ap (λ (x : NameEntry). find (names.is_of_ino x.ino) (insert left k2 moved_one)) w ∙ find_insert_here (names.is_of_ino a.ino) left k2 moved_one (eq-eqb a.ino a.ino refl) none_left ∙ ap Some (sym w))
            (λ u.
            let w = move_other dir name dir2 name2 e u in
            let n : names.is_of_ino e.ino moved_one ≡ false = turn a.ino e.ino (alike e h ∙ u) in
            ap (λ (x : NameEntry). find (names.is_of_ino x.ino) (insert left k2 moved_one)) w ∙ find_insert_other (names.is_of_ino e.ino) left k2 moved_one n ∙ find_kept (names.is_of_ino e.ino) q e sorted u h ∙ ap Some (sym w))
            (cases_Bool (q e))
          where
            turn : (x y : ℕ) → (y == x) ≡ false → (x == y) ≡ false
            turn x y h = grind arith

        any_moved : (p : NameEntry → Bool) (xs : List NameEntry) → list_any (λ x. p (names.move_entry dir name dir2 name2 x)) xs ≡ (list_any (λ x. q x && p (names.moved dir2 name2 x)) xs || list_any (λ x. not (q x) && p x) xs)
        any_moved p [] = refl
        any_moved p (x ∷ xs) = ⊎_elim
            (λ u. rw u (ap (λ b. p (names.moved dir2 name2 x) || b) (any_moved p xs) ∙ group (p (names.moved dir2 name2 x)) (list_any (λ x. q x && p (names.moved dir2 name2 x)) xs) (list_any (λ x. not (q x) && p x) xs)))
            (λ u. rw u (ap (λ b. p x || b) (any_moved p xs) ∙ or_turn (p x) (list_any (λ x. q x && p (names.moved dir2 name2 x)) xs) (list_any (λ x. not (q x) && p x) xs)))
            (cases_Bool (q x))
          where
            group : (a b c : Bool) → (a || (b || c)) ≡ ((a || b) || c)
            group true b c = refl
            group false b c = refl

        -- only the one entry has the name
        only_passes : (g : NameEntry → Bool) → list_any (λ x. q x && g x) sorted ≡ g a
        only_passes g = both_ways (list_any (λ x. q x && g x) sorted) (g a)
            (λ u.
            let x = some_is (find (λ x. q x && g x) sorted) (found_is_any (λ x. q x && g x) sorted ∙ u) in
            let p = index_of (λ x. q x && g x) x.0 sorted x.1 in
            let both = found_passes (λ x. q x && g x) x.0 sorted x.1 in
            let z : p.0 ≡ k = one_place sorted p.0 k a s.order p.1.0 l (ap key_of (p.1.1 a) ∙ key_is dir name x.0 (first (q x.0) (g x.0) both) ∙ sym (key_is dir name a t) ∙ sym (ap key_of (is a))) in
            let w : x.0 ≡ a = sym (p.1.1 a) ∙ ap (λ n. get_or sorted n a) z ∙ is a in
            ap g (sym w) ∙ last (q x.0) (g x.0) both)
            (λ u. list_any_at (λ x. q x && g x) sorted k a l (ap (λ x. q x && g x) (is a) ∙ (λ i. t i && u i)))
          where
            first : (x y : Bool) → (x && y) ≡ true → x ≡ true
            first true y h = refl
            first false y h = absurd (true≢false (sym h))

            last : (x y : Bool) → (x && y) ≡ true → y ≡ true
            last true y h = h
            last false y h = absurd (true≢false (sym h))

        pub stores_moved : (k2 : ℕ) → k2 ≤ length left → ((j : ℕ) (d : NameEntry) → j < k2 → names.name_below (key_of (get_or left j d)) (dir2 ∷ name2) ≡ true) → ((j : ℕ) (d : NameEntry) → k2 ≤ j → j < length left → names.name_below (dir2 ∷ name2) (key_of (get_or left j d)) ≡ true) → Stores (map (names.move_entry dir name dir2 name2) es) (map (λ n. if has_number a.ino n then moved_to dir2 n else n) inodes) (insert left k2 moved_one)
        stores_moved k2 m before behind = record {
          inodes = ap (map (λ n. if has_number a.ino n then moved_to dir2 n else n)) s.inodes ∙ map_twice (λ n. if has_number a.ino n then moved_to dir2 n else n) inode_of es
              ∙ map_alike (λ e. if has_number a.ino (inode_of e) then moved_to dir2 (inode_of e) else inode_of e) inode_of (names.move_entry dir name dir2 name2) es
              (every_weaker (λ e. names.is_of_ino a.ino e ≡ q e) (λ e. (if has_number a.ino (inode_of e) then moved_to dir2 (inode_of e) else inode_of e) ≡ inode_of (names.move_entry dir name dir2 name2 e)) inode_moves es all_alike);
          found = every_map (λ e. find (names.is_of_ino e.ino) (insert left k2 moved_one) ≡ Some e) (names.move_entry dir name dir2 name2) es
              (every_weaker (λ e. find (names.is_of_ino e.ino) sorted ≡ Some e) (λ e. find (names.is_of_ino (names.move_entry dir name dir2 name2 e).ino) (insert left k2 moved_one) ≡ Some (names.move_entry dir name dir2 name2 e)) (found_moves k2) es s.found);
          same = λ p.
              any_insert p left k2 moved_one
              ∙ (λ i. sym (ap p (moved_is a refl)) i || any_left p q sorted i)
              ∙ (λ i. sym (only_passes (λ x. p (names.moved dir2 name2 x))) i || list_any (λ x. not (q x) && p x) sorted)
              ∙ sym (any_moved p sorted) ∙ s.same (λ x. p (names.move_entry dir name dir2 name2 x)) ∙ sym (any_map p (names.move_entry dir name dir2 name2) es);
          order = by_name_insert left k2 moved_one left_order m before behind;
          rising = rising_after dir name dir2 name2 es s.rising;
        }

  -- An entry is added.
  pub stores_pushed : (x : NameEntry) (k : ℕ) → All (λ (e : NameEntry). e.ino < x.ino) es → k ≤ length sorted → ((j : ℕ) (d : NameEntry) → j < k → names.name_below (key_of (get_or sorted j d)) (key_of x) ≡ true) → ((j : ℕ) (d : NameEntry) → k ≤ j → j < length sorted → names.name_below (key_of x) (key_of (get_or sorted j d)) ≡ true) → Stores (es ++ x ∷ []) (inodes ++ inode_of x ∷ []) (insert sorted k x)
  stores_pushed x k high m before behind =
      let low = recursion_from_All (λ (e : NameEntry). e.ino < x.ino) es high in
      let none : list_any (names.is_of_ino x.ino) sorted ≡ false = s.same (names.is_of_ino x.ino) ∙ none_every (names.is_of_ino x.ino) es (every_weaker (λ (e : NameEntry). e.ino < x.ino) (λ e. names.is_of_ino x.ino e ≡ false) (λ e h. ne_eqb e.ino x.ino (λ (z : e.ino ≡ x.ino). omega (arith, z, h))) es low) in
      record {
        inodes = ap (λ l. l ++ inode_of x ∷ []) s.inodes ∙ sym (map_push inode_of es x);
        found = every_push (λ e. find (names.is_of_ino e.ino) (insert sorted k x) ≡ Some e) es x
            (every_both (λ (e : NameEntry). e.ino < x.ino) (λ e. find (names.is_of_ino e.ino) sorted ≡ Some e) (λ e. find (names.is_of_ino e.ino) (insert sorted k x) ≡ Some e)
            (λ e h g. find_insert_other (names.is_of_ino e.ino) sorted k x (ne_eqb x.ino e.ino (λ (z : x.ino ≡ e.ino). omega (arith, z, h))) ∙ g) es low s.found)
            (find_insert_here (names.is_of_ino x.ino) sorted k x (eq-eqb x.ino x.ino refl) none);
        same = λ p. any_insert p sorted k x ∙ ap (λ b. p x || b) (s.same p) ∙ or_swap (p x) (list_any p es) ∙ sym (list_any-append p es (x ∷ []));
        order = by_name_insert sorted k x s.order m before behind;
        rising = rising_push es x s.rising low;
      }

-- The same, by what is in the code.

stored_with : (es : List NameEntry) (ns ns2 : List Inode) (so so2 : List NameEntry) → Stores es ns so → ns2 ≡ ns → so2 ≡ so → Stores es ns2 so2
stored_with es ns ns2 so so2 s p q = subst (λ n. Stores es n so2) (sym p) (subst (λ l. Stores es ns l) (sym q) s)

pub stored_as : (es : List NameEntry) (ns ns2 : List Inode) (so so2 : List NameEntry) → Stores es ns so → ns2 ≡ ns → so2 ≡ so → Stores (entries_of ns2 so2) ns2 so2
stored_as es ns ns2 so so2 s p q = stored es ns2 so2 (stored_with es ns ns2 so so2 s p q)

pub shows_as : (es : List NameEntry) (ns ns2 : List Inode) (so so2 : List NameEntry) → Stores es ns so → ns2 ≡ ns → so2 ≡ so → entries_of ns2 so2 ≡ es
shows_as es ns ns2 so so2 s p q = stored_is es ns2 so2 (stored_with es ns ns2 so so2 s p q)

rising_inodes : (es : List NameEntry) → IsRising es → AreRising (map inode_of es)
rising_inodes [] r = tt
rising_inodes (e ∷ es) r = (above e es r.0, rising_inodes es r.1)
  where
    above : (e : NameEntry) (es : List NameEntry) → AllByRecursion (λ (d : NameEntry). e.ino < d.ino) es → AllByRecursion (λ (m : Inode). e.ino < m.ino) (map inode_of es)
    above e [] a = tt
    above e (d ∷ es) a = (a.0, above e es a.1)

pub stored_rising : (es : List NameEntry) (ns : List Inode) (so : List NameEntry) → Stores es ns so → AreRising ns
stored_rising es ns so s = subst AreRising (sym s.inodes) (rising_inodes es s.rising)

mark_twice : (o : Option NameEntry) → option_map mark_in (option_map inode_of o) ≡ option_map names.directory_mark o
mark_twice None = refl
mark_twice (Some e) = refl

dir_twice : (o : Option NameEntry) → option_map dir_in (option_map inode_of o) ≡ option_map dir_of o
dir_twice None = refl
dir_twice (Some e) = refl

pub kind_told : (es : List NameEntry) (ns : List Inode) (so : List NameEntry) (ino : ℕ) → Stores es ns so → option_map mark_in (find (has_number ino) ns) ≡ option_map names.directory_mark (find (names.is_of_ino ino) es)
kind_told es ns so ino s = ap (λ l. option_map mark_in (find (has_number ino) l)) s.inodes ∙ ap (option_map mark_in) (found_inode ino es) ∙ mark_twice (find (names.is_of_ino ino) es)

pub dir_told : (es : List NameEntry) (ns : List Inode) (so : List NameEntry) (ino : ℕ) → Stores es ns so → option_map dir_in (find (has_number ino) ns) ≡ option_map dir_of (find (names.is_of_ino ino) es)
dir_told es ns so ino s = ap (λ l. option_map dir_in (find (has_number ino) l)) s.inodes ∙ ap (option_map dir_in) (found_inode ino es) ∙ dir_twice (find (names.is_of_ino ino) es)

nothing_by : (q : NameEntry → Bool) (x : NameEntry) (xs rest : List NameEntry) (b : Bool) → q x ≡ b → (q x || list_any q xs) ≡ false → rest ≡ xs → cond (not b) (x ∷ rest) rest ≡ x ∷ xs
nothing_by q x xs rest true t h e = absurd (true≢false (sym (ap (λ z. z || list_any q xs) t) ∙ h))
nothing_by q x xs rest false t h e = ap (λ l. x ∷ l) e

-- if none passes, none goes
pub none_goes : (q : NameEntry → Bool) (xs : List NameEntry) → list_any q xs ≡ false → filter (λ x. not (q x)) xs ≡ xs
none_goes q [] h = refl
none_goes q (x ∷ xs) h = nothing_by q x xs (filter (λ x. not (q x)) xs) (q x) refl h (none_goes q xs (or_parts (q x) (list_any q xs) h).1)

-- if none has the name, none moves
pub none_moves : (dir : ℕ) (name : List ℕ) (dir2 : ℕ) (name2 : List ℕ) (xs : List NameEntry) → list_any (names.is_entry_at dir name) xs ≡ false → map (names.move_entry dir name dir2 name2) xs ≡ xs
none_moves dir name dir2 name2 [] h = refl
none_moves dir name dir2 name2 (x ∷ xs) h =
    let b = or_parts (names.is_entry_at dir name x) (list_any (names.is_entry_at dir name) xs) h in
    (λ i. move_other dir name dir2 name2 x b.0 i ∷ none_moves dir name dir2 name2 xs b.1 i)

-- an entry is added at the place that a search found
pub push_stores : (es : List NameEntry) (ns : List Inode) (so : List NameEntry) → Stores es ns so → (x : NameEntry) (place : ℕ) (so2 : List NameEntry) (name2 : List ℕ) → so2 ≡ so → name2 ≡ x.name → All (λ (e : NameEntry). e.ino < x.ino) es → is_some (find (names.is_entry_at x.dir x.name) es) ≡ false
    → place ≤ length so2 → ((j : ℕ) (d : NameEntry) → j < place → names.name_below (key_of (get_or so2 j d)) (x.dir ∷ name2) ≡ true) → ((j : ℕ) (d : NameEntry) → place ≤ j → j < length so2 → names.name_below (key_of (get_or so2 j d)) (x.dir ∷ name2) ≡ false)
    → Stores (es ++ x ∷ []) (ns ++ inode_of x ∷ []) (insert so place x)
push_stores es ns so s x place so2 name2 p q high fresh within before behind =
    let b : (j : ℕ) (d : NameEntry) → j < place → names.name_below (key_of (get_or so j d)) (key_of x) ≡ true = λ j d k. (λ i. names.name_below (key_of (get_or (sym p i) j d)) (x.dir ∷ sym q i)) ∙ before j d k in
    let a : (j : ℕ) (d : NameEntry) → place ≤ j → j < length so → names.name_below (key_of (get_or so j d)) (key_of x) ≡ false = λ j d k m. (λ i. names.name_below (key_of (get_or (sym p i) j d)) (x.dir ∷ sym q i)) ∙ behind j d k (subst (λ l. j < length l) (sym p) m) in
    let none : list_any (names.is_entry_at x.dir x.name) so ≡ false = s.same (names.is_entry_at x.dir x.name) ∙ sym (found_is_any (names.is_entry_at x.dir x.name) es) ∙ fresh in
    stores_pushed es ns so s x place high (subst (λ l. place ≤ length l) p within) b (behind_fresh so s.order x.dir x.name place b a none)

-- an entry moves to the place that a search found
pub move_stores : (es : List NameEntry) (ns : List Inode) (so : List NameEntry) (s : Stores es ns so) (dir : ℕ) (name : List ℕ) (k : ℕ) (a : NameEntry) (l : k < length so) (is : (d : NameEntry) → get_or so k d ≡ a) (t : names.is_entry_at dir name a ≡ true) (dir2 : ℕ) (name2 : List ℕ)
    → is_some (find (names.is_entry_at dir2 name2) es) ≡ false → (place : ℕ) (so2 : List NameEntry) (other : List ℕ) → so2 ≡ remove so k → other ≡ name2
    → place ≤ length so2 → ((j : ℕ) (d : NameEntry) → j < place → names.name_below (key_of (get_or so2 j d)) (dir2 ∷ other) ≡ true) → ((j : ℕ) (d : NameEntry) → place ≤ j → j < length so2 → names.name_below (key_of (get_or so2 j d)) (dir2 ∷ other) ≡ false)
    → Stores (map (names.move_entry dir name dir2 name2) es) (map (λ n. if has_number a.ino n then moved_to dir2 n else n) ns) (insert so2 place (record { dir = dir2; name = name2; ino = a.ino; directory = a.directory }))
move_stores es ns so s dir name k a l is t dir2 name2 fresh place so2 other p q within before behind =
    let none : list_any (names.is_entry_at dir2 name2) es ≡ false = sym (found_is_any (names.is_entry_at dir2 name2) es) ∙ fresh in
    let left = filter (λ e. not (names.is_entry_at dir name e)) so in
    let e : so2 ≡ left = p ∙ left_is es ns so s dir name k a l is t in
    let b : (j : ℕ) (d : NameEntry) → j < place → names.name_below (key_of (get_or left j d)) (dir2 ∷ name2) ≡ true = λ j d m. (λ i. names.name_below (key_of (get_or (sym e i) j d)) (dir2 ∷ sym q i)) ∙ before j d m in
    let c : (j : ℕ) (d : NameEntry) → place ≤ j → j < length left → names.name_below (key_of (get_or left j d)) (dir2 ∷ name2) ≡ false = λ j d m r. (λ i. names.name_below (key_of (get_or (sym e i) j d)) (dir2 ∷ sym q i)) ∙ behind j d m (subst (λ l. j < length l) (sym e) r) in
    subst (λ z. Stores (map (names.move_entry dir name dir2 name2) es) (map (λ n. if has_number a.ino n then moved_to dir2 n else n) ns) (insert z place (record { dir = dir2; name = name2; ino = a.ino; directory = a.directory }))) (sym e)
    (stores_moved es ns so s dir name k a l is t dir2 name2 none place (subst (λ l. place ≤ length l) e within) b
    (behind_fresh left (left_order es ns so s dir name k a l is t dir2 name2 none) dir2 name2 place b c (left_fresh es ns so s dir name k a l is t dir2 name2 none)))

pub left_by_name : (es : List NameEntry) (ns : List Inode) (so : List NameEntry) (s : Stores es ns so) (dir : ℕ) (name : List ℕ) (k : ℕ) (a : NameEntry) (l : k < length so) (is : (d : NameEntry) → get_or so k d ≡ a) (t : names.is_entry_at dir name a ≡ true) → AreByName (remove so k)
left_by_name es ns so s dir name k a l is t = subst AreByName (sym (left_is es ns so s dir name k a l is t)) (by_name_filter (λ e. not (names.is_entry_at dir name e)) so s.order)
