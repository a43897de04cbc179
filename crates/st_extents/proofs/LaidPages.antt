-- Blocks in order, and the pages that lie on them: what is free, and what holds after a change.
use Rattle.std.proofs.Common.{◌≡◌, ℕ, zero, suc, ◌+◌, ◌<◌, ◌≤◌, Bool, true, false, cond, List, [], ◌∷◌, ◌++◌, filter, length, set, get_or, arith, refl, sym, ap, subst, ◌∙◌, ⊎_elim, true≢false}
use Rattle.std.specs.Prelude.{find, nat_le, not, is_some, Some, ◌&&◌, ◌||◌, ◌==◌, replicate, slice_get}
use Rattle.std.specs.List.{IsDistinct, AllByRecursion, list_any}
use Rattle.std.proofs.lemmas.Bool.{and_from, cases_Bool, cases_eq, cases_lt, cases_order, eq-eqb, eqb-true, and_parts}
use Rattle.std.proofs.lemmas.List.{get_or-set_same, get_or-set_other, get_or-replicate, length-set, length-replicate, get_or_default}
use Rattle.std.proofs.lemmas.List.Folds.{list_any-append, list_any_at}
use Rattle.std.proofs.lemmas.Map.Keys.{IsDistinct-head, IsDistinct-tail, IsDistinct-push}
use Rattle.st_base.specs.declared.ids.FileId.{FileId}
use Rattle.st_base.specs.declared.ids.PageNo.{PageNo}
use Rattle.st_base.specs.declared.disk.BlockAt.{BlockAt}
use Rattle.st_rules.specs.declared.extents.Extent.{Extent}
use Rattle.st_rules.specs.Keys.{same_block, same_file, same_page}
use Rattle.st_rules.specs.Extents.{is_at_or_behind, is_extent_of, lies_at}
use Rattle.st_extents.specs.Layout.{none_at}
use Rattle.st_extents.specs.Ownership.{of_one_page, on_one_block}
use Rattle.st_extents.specs.Places.{AreInOrder, IsLaid, IsMapped, is_among, rank}
use Rattle.st_extents.proofs.TakenPlaces.{one_taken}
use Rattle.st_extents.proofs.Owned.{blocks_equiv, distinct_filter, every_filter, found_is_any, pages_equiv}

-- Lists.

pub every_at : {K : Type 0} (P : K → Type 0) (xs : List K) (i : ℕ) (d : K) → i < length xs → AllByRecursion P xs → P (get_or xs i d)
every_at P [] i d l a = let no : ⊥ = omega arith in absurd no
every_at P (x ∷ xs) zero d l a = a.0
every_at P (x ∷ xs) (suc i) d l a = every_at P xs i d (omega arith) a.1

every_push : {K : Type 0} (P : K → Type 0) (xs : List K) (y : K) → AllByRecursion P xs → P y → AllByRecursion P (xs ++ y ∷ [])
every_push P [] y a b = (b, tt)
every_push P (x ∷ xs) y a b = (a.0, every_push P xs y a.1 b)

-- the first that a filter keeps
first_at : {K : Type 0} (p : K → Bool) (xs : List K) (i : ℕ) (d : K) → i < length xs → ((j : ℕ) → j < i → p (get_or xs j d) ≡ false) → p (get_or xs i d) ≡ true → slice_get (filter p xs) 0 ≡ Some (get_or xs i d)
first_at p [] i d l before h = let no : ⊥ = omega arith in absurd no
first_at p (x ∷ xs) zero d l before h = rw h refl
first_at p (x ∷ xs) (suc i) d l before h =
    let q : p x ≡ false = before 0 (omega arith) in
    rw q (first_at p xs i d (omega arith) (λ j k. before (suc j) (omega (arith, k))) h)

none_kept : {K : Type 0} (p : K → Bool) (xs : List K) (d : K) → ((j : ℕ) → j < length xs → p (get_or xs j d) ≡ false) → filter p xs ≡ []
none_kept p [] d h = refl
none_kept p (x ∷ xs) d h =
    let q : p x ≡ false = h 0 (omega arith) in
    rw q (none_kept p xs d (λ j k. h (suc j) (omega (arith, k))))

-- as many pass as are not taken
same_count : {K : Type 0} (p : K → Bool) (xs : List K) (ts : List Bool) (d : K) → length ts ≡ length xs → ((i : ℕ) → i < length xs → p (get_or xs i d) ≡ not (get_or ts i true)) → length (filter not ts) ≡ length (filter p xs)
same_count p [] [] d e h = refl
same_count p [] (t ∷ ts) d e h = let no : ⊥ = omega (arith, e) in absurd no
same_count p (x ∷ xs) [] d e h = let no : ⊥ = omega (arith, e) in absurd no
same_count p (x ∷ xs) (true ∷ ts) d e h =
    let q : p x ≡ false = h 0 (omega arith) in
    rw q (same_count p xs ts d (omega (arith, e)) (λ i k. h (suc i) (omega (arith, k))))
same_count p (x ∷ xs) (false ∷ ts) d e h =
    let q : p x ≡ true = h 0 (omega arith) in
    rw q (ap suc (same_count p xs ts d (omega (arith, e)) (λ i k. h (suc i) (omega (arith, k)))))

-- what holds of all holds of the one found
found_by : {K : Type 0} (P : K → Type 0) (r : K → Bool) (x e : K) (xs : List K) (b : Bool) → (find r xs ≡ Some e → P e) → P x → cond b (Some x) (find r xs) ≡ Some e → P e
found_by P r x e xs true ih p h = let z : x ≡ e = cc in subst P z p
found_by P r x e xs false ih p h = ih h

every_found : {K : Type 0} (P : K → Type 0) (r : K → Bool) (e : K) (xs : List K) → AllByRecursion P xs → find r xs ≡ Some e → P e
every_found P r e [] a h = cc
every_found P r e (x ∷ xs) a h = found_by P r x e xs (r x) (every_found P r e xs a.1) a.0 h

-- if none passes, the others are all
pub others_all : {K : Type 0} (q : K → Bool) (xs : List K) → list_any q xs ≡ false → filter (λ x. not (q x)) xs ≡ xs
others_all q [] h = refl
others_all q (x ∷ xs) h = ⊎_elim
    (λ t. absurd (true≢false (sym (ap (λ b. b || list_any q xs) t) ∙ h)))
    (λ t. let rest : list_any q xs ≡ false = sym (ap (λ b. b || list_any q xs) t) ∙ h in rw t (ap (λ l. x ∷ l) (others_all q xs rest)))
    (cases_Bool (q x))

-- what goes goes at once
others_by : {K : Type 0} (q : K → Bool) (x : K) (rest keep : List K) (b a : Bool) → (b ≡ true → a ≡ true) → q x ≡ a → filter (λ x. not (q x)) rest ≡ keep → filter (λ x. not (q x)) (cond (not b) (x ∷ rest) rest) ≡ cond (not a) (x ∷ keep) keep
others_by q x rest keep true true h g e = e
others_by q x rest keep true false h g e = absurd (true≢false (sym (h refl)))
others_by q x rest keep false a h g e = (λ i. cond (not (g i)) (x ∷ e i) (e i))

pub others_twice : {K : Type 0} (q r : K → Bool) → ((x : K) → r x ≡ true → q x ≡ true) → (xs : List K) → filter (λ x. not (q x)) (filter (λ x. not (r x)) xs) ≡ filter (λ x. not (q x)) xs
others_twice q r h [] = refl
others_twice q r h (x ∷ xs) = others_by q x (filter (λ x. not (r x)) xs) (filter (λ x. not (q x)) xs) (r x) (q x) (h x) refl (others_twice q r h xs)

none_any : {K : Type 0} (q : K → Bool) (xs : List K) → AllByRecursion (λ x. q x ≡ false) xs → list_any q xs ≡ false
none_any q [] a = refl
none_any q (x ∷ xs) a = rw a.0 (none_any q xs a.1)

none_both : {K : Type 0} (q r : K → Bool) (xs : List K) → AllByRecursion (λ x. q x ≡ false) xs → list_any (λ x. q x && r x) xs ≡ false
none_both q r [] a = refl
none_both q r (x ∷ xs) a = rw a.0 (none_both q r xs a.1)

never : (b : Bool) → (b && false) ≡ false
never true = refl
never false = refl

always : (b : Bool) → (b && true) ≡ b
always true = refl
always false = refl

alone : (b : Bool) → (b || false) ≡ b
alone true = refl
alone false = refl

none_last : {K : Type 0} (q r : K → Bool) (xs : List K) → AllByRecursion (λ x. r x ≡ false) xs → list_any (λ x. q x && r x) xs ≡ false
none_last q r [] a = refl
none_last q r (x ∷ xs) a = rw (a.0, none_last q r xs a.1) (alone (q x && false) ∙ never (q x))

none_filter : {K : Type 0} (q r : K → Bool) (xs : List K) → AllByRecursion (λ x. q x ≡ false) xs → list_any q (filter r xs) ≡ false
none_filter q r xs a = none_any q (filter r xs) (every_filter (λ x. q x ≡ false) r xs a)

every_other : {K : Type 0} (E : K → K → Bool) (q : K → Bool) → ((x y : K) → q x ≡ true → E x y ≡ false → q y ≡ false) → (x : K) (xs : List K) → q x ≡ true → AllByRecursion (λ y. E x y ≡ false) xs → AllByRecursion (λ y. q y ≡ false) xs
every_other E q apart x [] t a = tt
every_other E q apart x (y ∷ ys) t a = (apart x y t a.0, every_other E q apart x ys t a.1)

kept_any : {K : Type 0} (q : K → Bool) (x : K) (rest : List K) (b : Bool) → list_any q (cond (not b) (x ∷ rest) rest) ≡ ((q x && not b) || list_any q rest)
kept_any q x rest true = ap (λ z. z || list_any q rest) (sym (never (q x)))
kept_any q x rest false = ap (λ z. z || list_any q rest) (sym (always (q x)))

joined : (a b l m k : Bool) → (l && not m) ≡ k → (a ≡ true → (l ≡ false) × (m ≡ false) × (k ≡ false)) → ((a || l) && not ((a && b) || m)) ≡ ((a && not b) || k)
joined false b l m k h none = h
joined true true l m k h none = sym (none refl).2
joined true false l m k h none = ap not (none refl).1

-- if one passes at most, it stays exactly when it is not taken out
any_kept : {K : Type 0} (E : K → K → Bool) (q r : K → Bool) → ((x y : K) → q x ≡ true → E x y ≡ false → q y ≡ false) → (xs : List K) → IsDistinct E xs → (list_any q xs && not (list_any (λ x. q x && r x) xs)) ≡ list_any q (filter (λ x. not (r x)) xs)
any_kept E q r apart [] d = refl
any_kept E q r apart (x ∷ xs) d =
    joined (q x) (r x) (list_any q xs) (list_any (λ x. q x && r x) xs) (list_any q (filter (λ x. not (r x)) xs)) (any_kept E q r apart xs (IsDistinct-tail E x xs d))
    (λ t.
    let others = every_other E q apart x xs t (IsDistinct-head E x xs d) in
    (none_any q xs others, none_both q r xs others, none_filter q (λ x. not (r x)) xs others))
    ∙ sym (kept_any q x (filter (λ x. not (r x)) xs) (r x))

-- of those that pass r there is one, and it passes q as well or not
only_by : {K : Type 0} (q r : K → Bool) (x e : K) (xs : List K) (b : Bool) → r x ≡ b → (b ≡ true → AllByRecursion (λ y. r y ≡ false) xs) → (find r xs ≡ Some e → list_any (λ y. q y && r y) xs ≡ q e) → cond b (Some x) (find r xs) ≡ Some e → ((q x && b) || list_any (λ y. q y && r y) xs) ≡ q e
only_by q r x e xs true t none ih h =
    let z : x ≡ e = cc in
    (λ i. always (q x) i || none_last q r xs (none refl) i) ∙ alone (q x) ∙ ap q z
only_by q r x e xs false t none ih h = (λ i. never (q x) i || ih h i)

only_found : {K : Type 0} (E : K → K → Bool) (q r : K → Bool) → ((x y : K) → r x ≡ true → E x y ≡ false → r y ≡ false) → (e : K) (xs : List K) → IsDistinct E xs → find r xs ≡ Some e → list_any (λ x. q x && r x) xs ≡ q e
only_found E q r apart e [] d h = cc
only_found E q r apart e (x ∷ xs) d h =
    only_by q r x e xs (r x) refl (λ t. every_other E r apart x xs t (IsDistinct-head E x xs d)) (only_found E q r apart e xs (IsDistinct-tail E x xs d)) h

-- Blocks.

pub block_is : (a b : BlockAt) → same_block a b ≡ true → a ≡ b
block_is a b h =
    let p = and_parts (a.disk.0 == b.disk.0) (a.block == b.block) h in
    (λ i. record { disk = record { 0 = eqb-true a.disk.0 b.disk.0 p.0 i }; block = eqb-true a.block b.block p.1 i })

pub same_itself : (b : BlockAt) → same_block b b ≡ true
same_itself b = rw (eq-eqb b.disk.0 b.disk.0 refl, eq-eqb b.block b.block refl) refl

pub rising : (own : List BlockAt) (i j : ℕ) (d : BlockAt) → AreInOrder own → i < j → j < length own → rank (get_or own i d) < rank (get_or own j d)
rising [] i j d o l m = let no : ⊥ = omega (arith, m) in absurd no
rising (b ∷ own) zero zero d o l m = let no : ⊥ = omega (arith, l) in absurd no
rising (b ∷ own) zero (suc j) d o l m = every_at (λ c. rank b < rank c) own j d (omega (arith, m)) o.0
rising (b ∷ own) (suc i) zero d o l m = let no : ⊥ = omega (arith, l) in absurd no
rising (b ∷ own) (suc i) (suc j) d o l m = rising own i j d o.1 (omega (arith, l)) (omega (arith, m))

-- blocks at two places differ
differ : (own : List BlockAt) (i j : ℕ) (d : BlockAt) → AreInOrder own → i < length own → j < length own → (i ≡ j → ⊥) → same_block (get_or own i d) (get_or own j d) ≡ false
differ own i j d o l m n = ⊎_elim
    (λ t.
    let e : rank (get_or own i d) ≡ rank (get_or own j d) = ap rank (block_is (get_or own i d) (get_or own j d) t) in
    absurd
    (⊎_elim n
    (λ c. ⊎_elim
    (λ a. let r = rising own i j d o a m in omega (arith, e, r))
    (λ a. let r = rising own j i d o a l in omega (arith, e, r)) c)
    (cases_order i j)))
    (λ t. t)
    (cases_Bool (same_block (get_or own i d) (get_or own j d)))

-- the place of a block among these
among_place : (own : List BlockAt) (at d : BlockAt) → is_among own at ≡ true → (i : ℕ) × ((i < length own) × (get_or own i d ≡ at))
among_place [] at d h = absurd (true≢false (sym h))
among_place (b ∷ own) at d h = ⊎_elim
    (λ t. (0, (omega arith, block_is b at t)))
    (λ t.
    let r = among_place own at d (sym (ap (λ x. x || is_among own at) t) ∙ h) in
    (suc r.0, (omega (arith, r.1.0), r.1.1)))
    (cases_Bool (same_block b at))

-- A search by halves.
module _ (own : List BlockAt) (at : BlockAt) (o : AreInOrder own) where
  pub all_below : (i : ℕ) (e : BlockAt) → i < length own → rank (get_or own i e) < rank at → (j : ℕ) (d : BlockAt) → j < i + 1 → rank (get_or own j d) < rank at
  all_below i e l t j d k =
      let a : rank (get_or own i d) ≡ rank (get_or own i e) = ap rank (get_or_default own i d e l) in
      ⊎_elim
      (λ (s : j ≡ i). let b : rank (get_or own j d) ≡ rank (get_or own i d) = ap rank (ap (λ n. get_or own n d) s) in omega (arith, a, b, t))
      (λ n. let r = rising own j i d o (omega (arith, k, n)) l in omega (arith, a, t, r))
      (cases_eq j i)

  pub none_below : (i : ℕ) (e : BlockAt) → i < length own → rank at ≤ rank (get_or own i e) → (j : ℕ) (d : BlockAt) → i ≤ j → j < length own → rank at ≤ rank (get_or own j d)
  none_below i e l t j d k h =
      let a : rank (get_or own i d) ≡ rank (get_or own i e) = ap rank (get_or_default own i d e l) in
      ⊎_elim
      (λ (s : j ≡ i). let b : rank (get_or own j d) ≡ rank (get_or own i d) = ap rank (ap (λ n. get_or own n d) s) in omega (arith, a, b, t))
      (λ n. let r = rising own i j d o (omega (arith, k, n)) h in omega (arith, a, t, r))
      (cases_eq j i)

  -- the search ends at the block
  pub searched : is_among own at ≡ true → (i : ℕ) → ((j : ℕ) (d : BlockAt) → j < i → rank (get_or own j d) < rank at) → ((j : ℕ) (d : BlockAt) → i ≤ j → j < length own → rank at ≤ rank (get_or own j d)) → (d : BlockAt) → (i < length own) × (get_or own i d ≡ at)
  searched h i low high d =
      let p = among_place own at d h in
      let e : rank (get_or own p.0 d) ≡ rank at = ap rank p.1.1 in
      let same : p.0 ≡ i =
      ⊎_elim (λ e. e)
      (λ c. absurd (⊎_elim
      (λ l. let a = low p.0 d l in omega (arith, a, e))
      (λ l.
      let a = rising own i p.0 d o l p.1.0 in
      let b = high i d (omega arith) (omega (arith, l, p.1.0)) in
      omega (arith, a, b, e)) c))
      (cases_order p.0 i) in
      (omega (arith, same, p.1.0), ap (λ n. get_or own n d) (sym same) ∙ p.1.1)

module _ (own : List BlockAt) (taken : List Bool) (rows : List Extent) (laid : IsLaid own taken rows) where
  -- a block is free exactly when its place is not taken
  free_at : (i : ℕ) (b : BlockAt) (d : Bool) → i < length own → none_at rows (get_or own i b) ≡ not (get_or taken i d)
  free_at i b d l = ap not (sym (laid.told i d b l))

  pub free_counted : length (filter not taken) ≡ length (filter (none_at rows) own)
  free_counted = let b : BlockAt = record { disk = record { 0 = 0 }; block = 0 } in same_count (none_at rows) own taken b laid.as_long (λ i l. free_at i b true l)

  -- if a block is free, a place is not taken
  pub some_open : (i : ℕ) → ((j : ℕ) → j < i → get_or taken j false ≡ true) → 1 ≤ length (filter (none_at rows) own) → i < length own
  some_open i before room = ⊎_elim (λ l. l)
      (λ l.
      let b : BlockAt = record { disk = record { 0 = 0 }; block = 0 } in
      let e : length (filter (none_at rows) own) ≡ 0 = ap length (none_kept (none_at rows) own b (λ j k. free_at j b false k ∙ ap not (before j (omega (arith, k, l))))) in
      absurd (omega (arith, e, room)))
      (cases_lt i (length own))

  mapped_by : (f : FileId) (p : PageNo) (birth : ℕ) (b : BlockAt) (bs : List BlockAt) → slice_get bs 0 ≡ Some b → IsMapped rows f p birth bs (rows ++ record { file = f; page = p; at = b; birth = birth } ∷ [])
  mapped_by f p birth b [] h = absurd (true≢false (sym (ap is_some h)))
  mapped_by f p birth b (c ∷ bs) h = let e : c ≡ b = cc in ap (λ (z : BlockAt). rows ++ record { file = f; page = p; at = z; birth = birth } ∷ []) (sym e)

  -- the first free block is mapped
  pub first_mapped : (f : FileId) (p : PageNo) (birth i : ℕ) (b : BlockAt) → ((j : ℕ) → j < i → get_or taken j false ≡ true) → i < length own → get_or taken i true ≡ false → b ≡ get_or own i b → IsMapped rows f p birth (filter (none_at rows) own) (rows ++ record { file = f; page = p; at = b; birth = birth } ∷ [])
  first_mapped f p birth i b before l h e =
      mapped_by f p birth b (filter (none_at rows) own)
      (first_at (none_at rows) own i b l (λ j k. free_at j b false (omega (arith, k, l)) ∙ ap not (before j k)) (free_at i b true l ∙ ap not h) ∙ ap Some (sym e))

  -- a place is taken by one page more
  pub laid_push : (e : Extent) (i : ℕ) → i < length own → get_or taken i true ≡ false → ((d : BlockAt) → get_or own i d ≡ e.at) → is_some (find (is_extent_of e.file e.page) rows) ≡ false → IsLaid own (set taken i true) (rows ++ e ∷ [])
  laid_push e i l free at fresh = record {
    order = laid.order;
    as_long = length-set taken i true ∙ laid.as_long;
    among = every_push (λ e. is_among own e.at ≡ true) rows e laid.among (list_any_at (λ b. same_block b e.at) own i e.at l (ap (λ b. same_block b e.at) (at e.at) ∙ same_itself e.at));
    pages = IsDistinct-push pages_equiv rows e laid.pages (sym (found_is_any (is_extent_of e.file e.page) rows) ∙ fresh);
    once = IsDistinct-push blocks_equiv rows e laid.once (ap (λ b. list_any (lies_at b) rows) (sym (at e.at)) ∙ sym (laid.told i true e.at l) ∙ free);
    told = λ j d b k.
        let inside : i < length taken = omega (arith, l, laid.as_long) in
        let more : list_any (lies_at (get_or own j b)) (rows ++ e ∷ []) ≡ (list_any (lies_at (get_or own j b)) rows || (lies_at (get_or own j b) e || false)) = list_any-append (lies_at (get_or own j b)) rows (e ∷ []) in
        ⊎_elim
        (λ (s : j ≡ i).
        ap (λ n. get_or (set taken i true) n d) s ∙ get_or-set_same taken i true d inside
        ∙ sym (more ∙ yes (list_any (lies_at (get_or own j b)) rows) (lies_at (get_or own j b) e) (ap (same_block e.at) (ap (λ n. get_or own n b) s ∙ at b) ∙ same_itself e.at)))
        (λ n.
        get_or-set_other taken i j true d n ∙ laid.told j d b k
        ∙ sym (more ∙ no (list_any (lies_at (get_or own j b)) rows) (lies_at (get_or own j b) e) (ap (λ c. same_block c (get_or own j b)) (sym (at b)) ∙ differ own i j b laid.order l k (λ (x : i ≡ j). n (sym x)))))
        (cases_eq j i);
  }
    where
      yes : (a b : Bool) → b ≡ true → (a || (b || false)) ≡ true
      yes true b h = refl
      yes false b h = rw h refl

      no : (a b : Bool) → b ≡ false → (a || (b || false)) ≡ a
      no true b h = refl
      no false b h = rw h refl

  -- a block less is free
  pub room_left : (e : Extent) (i : ℕ) → i < length own → get_or taken i true ≡ false → ((d : BlockAt) → get_or own i d ≡ e.at) → is_some (find (is_extent_of e.file e.page) rows) ≡ false → length (filter (none_at (rows ++ e ∷ [])) own) + 1 ≡ length (filter (none_at rows) own)
  room_left e i l free at fresh =
      ap (λ n. n + 1) (sym (counted (set taken i true) (rows ++ e ∷ []) (laid_push e i l free at fresh))) ∙ one_taken taken i (omega (arith, l, laid.as_long)) free ∙ free_counted
    where
      counted : (ts : List Bool) (es : List Extent) → IsLaid own ts es → length (filter not ts) ≡ length (filter (none_at es) own)
      counted ts es k = let b : BlockAt = record { disk = record { 0 = 0 }; block = 0 } in same_count (none_at es) own ts b k.as_long (λ i l. ap not (sym (k.told i true b l)))

  -- the block of a page that is found is one of these
  pub found_among : (f : FileId) (p : PageNo) (e : Extent) → find (is_extent_of f p) rows ≡ Some e → is_among own e.at ≡ true
  found_among f p e h = every_found (λ e. is_among own e.at ≡ true) (is_extent_of f p) e rows laid.among h

  -- a page that is found goes, and its place is given back
  pub laid_drop : (f : FileId) (p : PageNo) (e : Extent) (i : ℕ) → find (is_extent_of f p) rows ≡ Some e → i < length own → ((d : BlockAt) → get_or own i d ≡ e.at) → IsLaid own (set taken i false) (filter (λ x. not (is_extent_of f p x)) rows)
  laid_drop f p e i h l at = record {
    order = laid.order;
    as_long = length-set taken i false ∙ laid.as_long;
    among = every_filter (λ e. is_among own e.at ≡ true) (λ x. not (is_extent_of f p x)) rows laid.among;
    pages = distinct_filter of_one_page (λ x. not (is_extent_of f p x)) rows laid.pages;
    once = distinct_filter on_one_block (λ x. not (is_extent_of f p x)) rows laid.once;
    told = λ j d b k.
        let inside : i < length taken = omega (arith, l, laid.as_long) in
        let rest : (list_any (lies_at (get_or own j b)) rows && not (lies_at (get_or own j b) e)) ≡ list_any (lies_at (get_or own j b)) (filter (λ x. not (is_extent_of f p x)) rows) =
        ap (λ z. list_any (lies_at (get_or own j b)) rows && not z) (sym (only_found of_one_page (lies_at (get_or own j b)) (is_extent_of f p) page_apart e rows laid.pages h))
        ∙ any_kept on_one_block (lies_at (get_or own j b)) (is_extent_of f p) (block_apart (get_or own j b)) rows laid.once in
        ⊎_elim
        (λ (s : j ≡ i).
        ap (λ n. get_or (set taken i false) n d) s ∙ get_or-set_same taken i false d inside
        ∙ sym (sym rest ∙ ap (λ z. list_any (lies_at (get_or own j b)) rows && not z) (ap (same_block e.at) (ap (λ n. get_or own n b) s ∙ at b) ∙ same_itself e.at) ∙ never (list_any (lies_at (get_or own j b)) rows)))
        (λ n.
        get_or-set_other taken i j false d n ∙ laid.told j d b k
        ∙ sym (sym rest ∙ ap (λ z. list_any (lies_at (get_or own j b)) rows && not z) (ap (λ c. same_block c (get_or own j b)) (sym (at b)) ∙ differ own i j b laid.order l k (λ (x : i ≡ j). n (sym x))) ∙ always (list_any (lies_at (get_or own j b)) rows)))
        (cases_eq j i);
  }
    where
      page_apart : (x y : Extent) → is_extent_of f p x ≡ true → of_one_page x y ≡ false → is_extent_of f p y ≡ false
      page_apart x y t a = pages_equiv.congr (record { file = f; page = p; at = x.at; birth = 0 }) x y t ∙ a

      block_apart : (b : BlockAt) (x y : Extent) → lies_at b x ≡ true → on_one_block x y ≡ false → lies_at b y ≡ false
      block_apart b x y t a = ap (same_block y.at) (sym (block_is x.at b t)) ∙ a

pub laid_new : (own : List BlockAt) → AreInOrder own → IsLaid own (replicate (length own) false) []
unfolding IsDistinct
laid_new own o = record {
  order = o;
  as_long = length-replicate (length own) false;
  among = tt;
  pages = tt;
  once = tt;
  told = λ i d b l. get_or-replicate (length own) i false d l;
}

-- a page that is at or after another one, and so is each of its extents
pub behind_too : (f : FileId) (p q : PageNo) (e x : Extent) → is_at_or_behind f p e ≡ true → e.page ≡ q → is_extent_of f q x ≡ true → is_at_or_behind f p x ≡ true
behind_too f p q e x t at h =
    let a = and_parts (same_file e.file f) (nat_le p.0 e.page.0) t in
    let b = and_parts (same_file x.file f) (same_page x.page q) h in
    let same : e.page.0 ≡ x.page.0 = ap (λ (y : PageNo). y.0) at ∙ sym (eqb-true x.page.0 q.0 b.1) in
    and_from (same_file x.file f) (nat_le p.0 x.page.0) b.0 (ap (nat_le p.0) (sym same) ∙ a.1)
