-- Runs in the order of their births, and the mapped pages that they are.
use Rattle.std.proofs.Common.{◌≡◌, ℕ, zero, suc, ◌+◌, ◌-◌, ◌<◌, ◌≤◌, Bool, true, false, List, [], ◌∷◌, ◌++◌, length, map, take, get_or, arith, refl, sym, ap, subst, ◌∙◌, ⊎_elim, true≢false, append_assoc}
use Rattle.std.specs.Prelude.{All, slice_get, Option, Some, None}
use Rattle.std.specs.Option.{option_to_list}
use Rattle.std.specs.Map.{keys_of}
use Rattle.std.specs.Cmp.{eq_by_cmp_equiv}
use Rattle.std.specs.List.{AllByRecursion, IsDistinct, flat_map}
use Rattle.std.specs.List.Sorted.{IsNonDecreasingBy, IsPermutation, IsStrictlySortedBy}
use Rattle.std.proofs.lemmas.Bool.{cases_Bool, cases_lt}
use Rattle.std.proofs.lemmas.List.{append-nil}
use Rattle.std.proofs.lemmas.List.Concat.{flat_map-cons}
use Rattle.std.proofs.lemmas.List.Elements.{All-from_recursion, recursion_from_All}
use Rattle.std.proofs.lemmas.List.Sorted.{All-permutation, IsPermutation-map, IsPermutation-sym}
use Rattle.std.proofs.lemmas.Map.Entries.{lookup_from_place, place_from_lookup}
use Rattle.std.proofs.lemmas.Map.Keys.{IsDistinct-from_sorted, IsDistinct-head, IsDistinct-tail, IsDistinct-IsPermutation}
use Rattle.st_rules.specs.declared.extents.Extent.{Extent}
use Rattle.st_rules.specs.Extents.{numbers}
use Rattle.st_tables.specs.Tables.{listed}
use Rattle.st_extents.specs.declared.run_map.Run.{Run}
use Rattle.st_extents.specs.Restored.{AreBorn}
use Rattle.st_extents.specs.Runs.{AreKept, HasWords, RunKey, birth_of, extent_in, extent_under, has_birth, pages_of, rows_of, run_at, run_order, same_start}
use Rattle.st_extents.proofs.RunOrder.{birth_in, in_birth, order_total, same_self, same_true}
use Rattle.st_extents.proofs.RunsFound.{under_is, under_none}

abbrev Entry : Type 0
Entry = RunKey × Run

-- the birth after a run's last one
abbrev end_of : Entry → ℕ
end_of e = e.1.birth + e.1.length

-- the runs have no page under the birth
abbrev AreBare : ℕ → List Entry → Type 0
AreBare b zs = AllByRecursion (λ e. has_birth b e ≡ false) zs

-- the runs are in the order of their births, and none begins before the one before it ends
abbrev pub Rise : ℕ → ℕ → List Entry → Type 0
Rise n next [] = next ≤ n + 1
Rise n next (e ∷ zs) = (next ≤ e.1.birth) × (AllByRecursion (λ d. e.1.birth ≤ d.1.birth) zs × Rise n (end_of e) zs)

-- Lists.

every_weaker : {K : Type 0} (P Q : K → Type 0) → ((x : K) → P x → Q x) → (xs : List K) → AllByRecursion P xs → AllByRecursion Q xs
every_weaker P Q f [] a = tt
every_weaker P Q f (x ∷ xs) a = (f x a.0, every_weaker P Q f xs a.1)

every_placed : {K : Type 0} (P : K → Type 0) (xs : List K) (i : ℕ) (x : K) → AllByRecursion P xs → slice_get xs i ≡ Some x → P x
every_placed P [] i x a h = cc
every_placed P (y ∷ xs) zero x a h = let z : y ≡ x = cc in subst P z a.0
every_placed P (y ∷ xs) (suc i) x a h = every_placed P xs i x a.1 h

numbers_more : (first n : ℕ) → numbers first (suc n) ≡ numbers first n ++ (first + n) ∷ []
unfolding numbers
numbers_more first zero = let e : first ≡ first + 0 = omega arith in ap (λ k. k ∷ []) e
numbers_more first (suc n) = let e : first + 1 + n ≡ first + suc n = omega arith in
    ap (λ l. first ∷ l) (numbers_more (first + 1) n ∙ ap (λ k. numbers (first + 1) n ++ k ∷ []) e)

map_push : {K L : Type 0} (f : K → L) (xs : List K) (y : K) → map f (xs ++ y ∷ []) ≡ map f xs ++ f y ∷ []
map_push f [] y = refl
map_push f (x ∷ xs) y = ap (λ l. f x ∷ l) (map_push f xs y)

-- if nothing is at some places, nothing is listed there
listed_past : (f : ℕ → Option Extent) (from d : ℕ) → ((b : ℕ) → from ≤ b → b < d + from → f b ≡ None) → listed (d + from) f ≡ listed from f
unfolding listed
listed_past f from zero none = let e : 0 + from ≡ from = omega arith in ap (λ k. listed k f) e
listed_past f from (suc d) none =
    let e : suc d + from ≡ suc (d + from) = omega arith in
    ap (λ k. listed k f) e
    ∙ ap (λ o. listed (d + from) f ++ option_to_list o) (none (d + from) (omega arith) (omega arith))
    ∙ append-nil (listed (d + from) f) ∙ listed_past f from d (λ b l m. none b l (omega (arith, m)))

listed_gap : (f : ℕ → Option Extent) (from to : ℕ) → from ≤ to → ((b : ℕ) → from ≤ b → b < to → f b ≡ None) → listed to f ≡ listed from f
listed_gap f from to l none =
    let e : to ≡ to - from + from = omega (arith, l) in
    ap (λ k. listed k f) e ∙ listed_past f from (to - from) (λ b k m. none b k (omega (arith, m, l)))

-- the pages of one run
listed_pages : (f : ℕ → Option Extent) (e : Entry) (j : ℕ) → ((i : ℕ) → i < j → f (e.1.birth + i) ≡ Some (extent_in i e)) →
    listed (e.1.birth + j) f ≡ listed e.1.birth f ++ map (λ i. extent_in i e) (numbers 0 j)
unfolding listed numbers
listed_pages f e zero some = let z : e.1.birth + 0 ≡ e.1.birth = omega arith in ap (λ k. listed k f) z ∙ sym (append-nil (listed e.1.birth f))
listed_pages f e (suc j) some =
    let z : e.1.birth + suc j ≡ suc (e.1.birth + j) = omega arith in
    let zero_j : 0 + j ≡ j = omega arith in
    ap (λ k. listed k f) z
    ∙ (λ i. listed_pages f e j (λ k l. some k (omega (arith, l))) i ++ option_to_list (some j (omega arith) i))
    ∙ append_assoc (listed e.1.birth f) (map (λ i. extent_in i e) (numbers 0 j)) (extent_in j e ∷ [])
    ∙ ap (λ l. listed e.1.birth f ++ l)
    (sym (ap (map (λ i. extent_in i e)) (numbers_more 0 j) ∙ map_push (λ i. extent_in i e) (numbers 0 j) (0 + j) ∙
    ap (λ k. map (λ i. extent_in i e) (numbers 0 j) ++ extent_in k e ∷ []) zero_j))

pub pages_more : (e : Entry) (j : ℕ) → map (λ i. extent_in i e) (numbers 0 (j + 1)) ≡ map (λ i. extent_in i e) (numbers 0 j) ++ extent_in j e ∷ []
pages_more e j =
    let z : j + 1 ≡ suc j = omega arith in
    let zero_j : 0 + j ≡ j = omega arith in
    ap (λ k. map (λ i. extent_in i e) (numbers 0 k)) z ∙ ap (map (λ i. extent_in i e)) (numbers_more 0 j) ∙ map_push (λ i. extent_in i e) (numbers 0 j) (0 + j)
    ∙ ap (λ k. map (λ i. extent_in i e) (numbers 0 j) ++ extent_in k e ∷ []) zero_j

pub no_pages : (xs : List Extent) (e : Entry) → xs ≡ xs ++ map (λ i. extent_in i e) (numbers 0 0)
unfolding numbers
no_pages xs e = sym (append-nil xs)

pub one_run_more : (ys : List Entry) (i : ℕ) (d : Entry) → i < length ys →
    flat_map pages_of (take (i + 1) ys) ≡ flat_map pages_of (take i ys) ++ pages_of (get_or ys i d)
one_run_more [] i d l = absurd (omega (arith, l))
one_run_more (y ∷ ys) zero d l =
    let one : 0 + 1 ≡ suc 0 = omega arith in
    ap (λ k. flat_map pages_of (take k (y ∷ ys))) one ∙ flat_map-cons pages_of y [] ∙ append-nil (pages_of y)
one_run_more (y ∷ ys) (suc i) d l =
    let one : suc i + 1 ≡ suc (i + 1) = omega arith in
    ap (λ k. flat_map pages_of (take k (y ∷ ys))) one
    ∙ flat_map-cons pages_of y (take (i + 1) ys)
    ∙ ap (λ xs. pages_of y ++ xs) (one_run_more ys i d (omega (arith, l)))
    ∙ sym (append_assoc (pages_of y) (flat_map pages_of (take i ys)) (pages_of (get_or ys i d)))
    ∙ ap (λ xs. xs ++ pages_of (get_or ys i d)) (sym (flat_map-cons pages_of y (take i ys)))

-- Birth tests.

bare_before : (b : ℕ) (e : Entry) → b < e.1.birth → has_birth b e ≡ false
bare_before b e l = ⊎_elim (λ t. let a = birth_in b e t in absurd (omega (arith, a.0, l))) (λ f. f) (cases_Bool (has_birth b e))

bare_after : (b : ℕ) (e : Entry) → end_of e ≤ b → has_birth b e ≡ false
bare_after b e l = ⊎_elim (λ t. let a = birth_in b e t in absurd (omega (arith, a.1, l))) (λ f. f) (cases_Bool (has_birth b e))

bare_later : (b from : ℕ) (zs : List Entry) → b < from → AllByRecursion (λ d. from ≤ d.1.birth) zs → AreBare b zs
bare_later b from zs l a = every_weaker (λ d. from ≤ d.1.birth) (λ d. has_birth b d ≡ false) (λ d m. bare_before b d (omega (arith, l, m))) zs a

module _ (es : List Entry) (sorted : IsStrictlySortedBy run_order (keys_of es)) (n : ℕ) (T : AreKept n (run_at es)) where
  abbrev under : ℕ → Option Extent
  under b = extent_under es b

  -- the runs in order give the pages in order
  in_births : (next : ℕ) (zs : List Entry) → Rise n next zs → AllByRecursion (λ e. run_at es e.0 ≡ Some e.1) zs →
      ((b : ℕ) → next ≤ b → AreBare b zs → under b ≡ None) → listed next under ++ flat_map pages_of zs ≡ listed (n + 1) under
  in_births next [] r there bare = append-nil (listed next under) ∙ sym (listed_gap under next (n + 1) r (λ b l m. bare b l tt))
  in_births next (e ∷ zs) r there bare =
      let gap : listed e.1.birth under ≡ listed next under =
      listed_gap under next e.1.birth r.0 (λ b l m. bare b l (bare_before b e m, bare_later b e.1.birth zs m r.1.0)) in
      let pages : listed (end_of e) under ≡ listed e.1.birth under ++ pages_of e =
      listed_pages under e e.1.length (λ i l.
      let z : e.1.birth + i - e.1.birth ≡ i = omega arith in
      under_is es sorted n T e.0 e.1 (e.1.birth + i) there.0 (in_birth (e.1.birth + i) e (omega arith) (omega (arith, l))) ∙ ap (λ k. Some (extent_in k e)) z)
      in
      ap (λ l. listed next under ++ l) (flat_map-cons pages_of e zs)
      ∙ sym (append_assoc (listed next under) (pages_of e) (flat_map pages_of zs))
      ∙ ap (λ l. (l ++ pages_of e) ++ flat_map pages_of zs) (sym gap)
      ∙ ap (λ l. l ++ flat_map pages_of zs) (sym pages)
      ∙ in_births (end_of e) zs r.1.1 there.1
      (λ b l a. bare b (let s = T.some e.0 e.1 there.0 in let first = r.0 in omega (arith, l, s, first)) (bare_after b e l, a))

  -- entries are found
  found_all : (i : ℕ) (d : Entry) → i < length es → run_at es (get_or es i d).0 ≡ Some (get_or es i d).1
  found_all i d l =
      lookup_from_place (eq_by_cmp_equiv order_total) es i (get_or es i d).0 (get_or es i d).1 (IsDistinct-from_sorted run_order (keys_of es) sorted)
      (got es i d l)
    where
      got : (xs : List Entry) (i : ℕ) (d : Entry) → i < length xs → slice_get xs i ≡ Some (get_or xs i d)
      got [] i d l = absurd (omega (arith, l))
      got (x ∷ xs) zero d l = refl
      got (x ∷ xs) (suc i) d l = got xs i d (omega (arith, l))

  -- what holds of all entries holds of the run that is found
  every_found : (P : Entry → Type 0) (k : RunKey) (r : Run) → AllByRecursion P es → run_at es k ≡ Some r → P (k, r)
  every_found P k r a h = let q = place_from_lookup (same_start k) es r h in
      subst P (λ i. (sym (same_true k q.1 q.3) i, r)) (every_placed P es q.0 (q.1, r) a q.2)

  -- what passes no run of the list is under nothing
  bare_all : (ys : List Entry) → IsPermutation es ys → (b : ℕ) → AreBare b ys → under b ≡ None
  bare_all ys p b a =
      under_none es sorted b
      (λ k r h. every_found (λ e. has_birth b e ≡ false) k r
      (recursion_from_All (λ e. has_birth b e ≡ false) es
      (All-permutation (λ e. has_birth b e ≡ false) ys es (IsPermutation-sym es ys p) (All-from_recursion (λ e. has_birth b e ≡ false) ys a))) h)

  -- one after another
  rise : (next : ℕ) (zs : List Entry) → AllByRecursion (λ e. run_at es e.0 ≡ Some e.1) zs → IsDistinct same_start (keys_of zs) → IsNonDecreasingBy birth_of zs →
      ((d : Entry) → 0 < length zs → next ≤ (get_or zs 0 d).1.birth) → next ≤ n + 1 → Rise n next zs
  rise next [] there distinct up first last = last
  rise next (e ∷ zs) there distinct up first last = (
    first e (omega arith),
    (
      later,
      rise (end_of e) zs there.1 (IsDistinct-tail same_start e.0 (keys_of zs) distinct) (λ i j d l m. up (suc i) (suc j) d (omega (arith, l)) (omega (arith, m)))
          (λ d l. behind zs there.1 (IsDistinct-head same_start e.0 (keys_of zs) distinct) later d l)
          (T.given e.0 e.1 there.0).1,
    ),
  )
    where
      later : AllByRecursion (λ d. e.1.birth ≤ d.1.birth) zs
      later = recursion_from_All (λ d. e.1.birth ≤ d.1.birth) zs (λ i d l. up 0 (suc i) d (omega arith) (omega (arith, l)))

      behind : (zs : List Entry) → AllByRecursion (λ e. run_at es e.0 ≡ Some e.1) zs → AllByRecursion (λ k. same_start e.0 k ≡ false) (keys_of zs) →
          AllByRecursion (λ d. e.1.birth ≤ d.1.birth) zs → (d : Entry) → 0 < length zs → end_of e ≤ (get_or zs 0 d).1.birth
      behind [] t a u d l = absurd (omega (arith, l))
      behind (x ∷ zs) t a u d l = ⊎_elim
          (λ m.
          let s = T.some x.0 x.1 t.0 in
          let low = u.0 in
          let z : e.0 ≡ x.0 = T.born e.0 x.0 e.1 x.1 x.1.birth there.0 t.0 (in_birth x.1.birth e low m) (in_birth x.1.birth x (omega arith) (omega (arith, s)))
          in
          absurd (true≢false (sym (same_self e.0) ∙ ap (same_start e.0) z ∙ a.0)))
          (λ m. m)
          (cases_lt x.1.birth (end_of e))

  -- births and pages of one run after another
  born_run : (e : Entry) (j k : ℕ) (more : List Extent) (births before : ℕ) → before < e.1.birth + j →
      ((b : ℕ) → b < e.1.birth + (j + k) → AreBorn b more births) → AreBorn before (map (λ i. extent_in i e) (numbers j k) ++ more) births
  unfolding numbers
  born_run e j zero more births before l a = a before (omega (arith, l))
  born_run e j (suc k) more births before l a = (l, born_run e (j + 1) k more births (e.1.birth + j) (omega arith) (λ b m. a b (omega (arith, m))))

  born_all : (next : ℕ) (zs : List Entry) → Rise n next zs → (before : ℕ) → before < next → AreBorn before (flat_map pages_of zs) n
  born_all next [] r before l = omega (arith, r, l)
  born_all next (e ∷ zs) r before l =
      subst (λ xs. AreBorn before xs n) (sym (flat_map-cons pages_of e zs))
      (born_run e 0 e.1.length (flat_map pages_of zs) n before (let first = r.0 in omega (arith, l, first))
      (λ b m. born_all (end_of e) zs r.1.1 b (omega (arith, m))))

  low_run : (e : Entry) (j k : ℕ) (more : List Extent) → e.0.1.0 + (j + k) ≤ 1048576 → AllByRecursion (λ (x : Extent). x.page.0 < 1048576) more →
      AllByRecursion (λ (x : Extent). x.page.0 < 1048576) (map (λ i. extent_in i e) (numbers j k) ++ more)
  unfolding numbers
  low_run e j zero more l a = a
  low_run e j (suc k) more l a = (omega (arith, l), low_run e (j + 1) k more (omega (arith, l)) a)

  low_all : (zs : List Entry) → AllByRecursion (λ e. run_at es e.0 ≡ Some e.1) zs → AllByRecursion (λ (x : Extent). x.page.0 < 1048576) (flat_map pages_of zs)
  low_all [] a = tt
  low_all (e ∷ zs) a =
      subst (AllByRecursion (λ (x : Extent). x.page.0 < 1048576)) (sym (flat_map-cons pages_of e zs))
      (low_run e 0 e.1.length (flat_map pages_of zs) (let f = (T.fits e.0 e.1 a.0).0 in omega (arith, f)) (low_all zs a.1))

  -- each entry of the list is found
  pub found_in_order : (ys : List Entry) → IsPermutation es ys → (i : ℕ) (d : Entry) → i < length ys → run_at es (get_or ys i d).0 ≡ Some (get_or ys i d).1
  found_in_order ys p = All-permutation (λ e. run_at es e.0 ≡ Some e.1) es ys p (λ i d l. found_all i d l)

  pub words_in_order : n < 9223372036854775808 → (ys : List Entry) → IsPermutation es ys → All HasWords ys
  words_in_order few ys p i d l =
      let h = found_in_order ys p i d l in
      let f = T.fits (get_or ys i d).0 (get_or ys i d).1 h in
      let g = T.given (get_or ys i d).0 (get_or ys i d).1 h in
      let f0 = f.0 in
      let f1 = f.1 in
      let g1 = g.1 in
      record { page = omega (arith, f0); block = omega (arith, f1); birth = omega (arith, g1, few) }

  -- the pages of the runs, once these are in the order of their births
  pub pages_in_order : (ys : List Entry) → IsPermutation es ys → IsNonDecreasingBy birth_of ys → flat_map pages_of ys ≡ rows_of n es
  unfolding listed
  pages_in_order ys p up =
      let there = recursion_from_All (λ e. run_at es e.0 ≡ Some e.1) ys (All-permutation (λ e. run_at es e.0 ≡ Some e.1) es ys p (λ i d l. found_all i d l)) in
      let distinct = IsDistinct-IsPermutation same_start (λ a b. (eq_by_cmp_equiv order_total).symm a b) (keys_of es) (keys_of ys)
      (IsPermutation-map (λ (e : Entry). e.0) es ys p) (IsDistinct-from_sorted run_order (keys_of es) sorted) in
      in_births 0 ys (rise 0 ys there distinct up (λ d l. omega arith) (omega arith)) there (λ b l a. bare_all ys p b a)

  -- the births of the pages rise, and their numbers are those of pages
  module _ (ys : List Entry) (p : IsPermutation es ys) (up : IsNonDecreasingBy birth_of ys) where
    there_all : AllByRecursion (λ e. run_at es e.0 ≡ Some e.1) ys
    there_all = recursion_from_All (λ e. run_at es e.0 ≡ Some e.1) ys (found_in_order ys p)

    distinct_all : IsDistinct same_start (keys_of ys)
    distinct_all = IsDistinct-IsPermutation same_start (λ a b. (eq_by_cmp_equiv order_total).symm a b) (keys_of es) (keys_of ys)
        (IsPermutation-map (λ (e : Entry). e.0) es ys p) (IsDistinct-from_sorted run_order (keys_of es) sorted)

    first_born : (zs : List Entry) → AllByRecursion (λ e. run_at es e.0 ≡ Some e.1) zs → (d : Entry) → 0 < length zs → 1 ≤ (get_or zs 0 d).1.birth
    first_born [] a d l = absurd (omega (arith, l))
    first_born (e ∷ zs) a d l = (T.given e.0 e.1 a.0).0

    pub born_in_order : AreBorn 0 (rows_of n es) n
    born_in_order = subst (λ xs. AreBorn 0 xs n) (pages_in_order ys p up)
        (born_all 1 ys (rise 1 ys there_all distinct_all up (first_born ys there_all) (omega arith)) 0 (omega arith))

    pub low_in_order : All (λ (x : Extent). x.page.0 < 1048576) (rows_of n es)
    low_in_order = subst (All (λ (x : Extent). x.page.0 < 1048576)) (pages_in_order ys p up)
        (All-from_recursion (λ (x : Extent). x.page.0 < 1048576) (flat_map pages_of ys) (low_all ys there_all))
