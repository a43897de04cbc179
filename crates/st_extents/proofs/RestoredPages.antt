-- Mapped pages that are put in one after another.
use Rattle.std.proofs.Common.{◌≡◌, ℕ, ◌+◌, ◌<◌, ◌≤◌, ◌^◌, Bool, true, false, List, [], ◌∷◌, ◌++◌, length, take, drop, get_or, arith, refl, sym, ap, subst, ◌∙◌, true≢false, ⊎_elim}
use Rattle.std.specs.Prelude.{All, is_some, find}
use Rattle.std.specs.List.{IsDistinct, AllByRecursion, list_any}
use Rattle.std.proofs.lemmas.List.{drop_more, get_or_read, take-append-drop, take_more}
use Rattle.std.proofs.lemmas.List.Elements.{All-from_recursion, recursion_from_All, All-push, All-weaker}
use Rattle.std.proofs.lemmas.List.Folds.{list_any_none, list_any_at}
use Rattle.std.proofs.lemmas.Map.Keys.{IsDistinct-head, IsDistinct-tail, IsDistinct-push}
use Rattle.std.proofs.lemmas.Bool.{cases_Bool, ne_eqb}
use Rattle.std.specs.Cmp.{IsEquivalence}
use Rattle.st_base.specs.declared.disk.BlockAt.{BlockAt}
use Rattle.st_rules.specs.declared.extents.Extent.{Extent}
use Rattle.st_rules.specs.Extents as extents
use Rattle.st_rules.specs.Extents.{is_extent_of, lies_at}
use Rattle.st_rules.specs.Keys.{same_block}
use Rattle.st_extents.specs.declared.restored.RestoreRefusal.{RestoreRefusal}
use Rattle.st_extents.specs.declared.restored.RestoreRefusal.TheVariants.{WrongBirth, WrongPage, PageTwice, NotOwn, BlockTwice, Memory}
use Rattle.st_extents.specs.Layout.{Shape, with_shape}
use Rattle.st_extents.specs.Ownership.{IsSound, is_own_block, of_one_birth, of_one_page, on_one_block}
use Rattle.st_extents.specs.Places.{AreInOrder, IsLaid, Mapping, is_among, rank}
use Rattle.st_extents.specs.Restored.{AreBirths, AreBorn, AreLaid, FollowsOn, IsAgainst, IsRefused, IsRefusedAt, last_birth}
use Rattle.st_extents.proofs.LaidPages.{block_is, same_itself, searched}
use Rattle.st_extents.proofs.Owned.{births_equiv, blocks_equiv, found_is_any, pages_equiv}

every_middle : {K : Type 0} (P : K → Type 0) (xs : List K) (e : K) (ys : List K) → AllByRecursion P (xs ++ e ∷ ys) → P e
every_middle P [] e ys a = a.0
every_middle P (x ∷ xs) e ys a = every_middle P xs e ys a.1

-- one that is the same as an earlier one is there twice
twice : {E : Extent → Extent → Bool} → IsEquivalence E → (xs : List Extent) (e : Extent) (ys : List Extent) → IsDistinct E (xs ++ e ∷ ys) →
    list_any (E e) xs ≡ false
twice {E = E} q [] e ys d = refl
twice {E = E} q (x ∷ xs) e ys d =
    let here : E x e ≡ false = every_middle (λ y. E x y ≡ false) xs e ys (IsDistinct-head E x (xs ++ e ∷ ys) d) in
    let there : E e x ≡ false = q.symm e x ∙ here in
    rw there (twice q xs e ys (IsDistinct-tail E x (xs ++ e ∷ ys) d))

-- Births.

born_last : (n : ℕ) (es : List Extent) (births : ℕ) → AreBorn n es births → last_birth n es ≤ births
born_last n [] births a = a
born_last n (e ∷ es) births a = born_last e.birth es births a.1

born_from : (n : ℕ) (es : List Extent) (births : ℕ) → AreBorn n es births → n ≤ births
born_from n [] births a = a
born_from n (e ∷ es) births a = let l = born_from e.birth es births a.1 in omega (arith, l, a.0)

born_at : (n : ℕ) (xs : List Extent) (e : Extent) (ys : List Extent) (births : ℕ) → AreBorn n (xs ++ e ∷ ys) births →
    (last_birth n xs < e.birth) × (e.birth ≤ births)
born_at n [] e ys births a = (a.0, born_from e.birth ys births a.1)
born_at n (x ∷ xs) e ys births a = born_at x.birth xs e ys births a.1

last_push : (n : ℕ) (xs : List Extent) (e : Extent) → last_birth n (xs ++ e ∷ []) ≡ e.birth
last_push n [] e = refl
last_push n (x ∷ xs) e = last_push x.birth xs e

-- One page more.

pub laid_none : (own : List BlockAt) → AreLaid own 0 []
unfolding IsDistinct
laid_none own = record {
  last = refl;
  few = omega arith;
  given = All-from_recursion (λ (e : Extent). e.birth ≤ 0) [] tt;
  among = All-from_recursion (λ (e : Extent). is_among own e.at ≡ true) [] tt;
  pages = tt;
  blocks = tt;
  born = tt;
}

pub laid_more : (g : Mapping) (e : Extent) → AreLaid g.own g.births g.rows → FollowsOn g e → AreLaid g.own e.birth (g.rows ++ e ∷ [])
laid_more g e a f = record {
  last = sym (last_push 0 g.rows e);
  few = f.few;
  given = All-push (λ (x : Extent). x.birth ≤ e.birth) g.rows e
      (All-weaker (λ (x : Extent). x.birth ≤ g.births) (λ (x : Extent). x.birth ≤ e.birth) (λ x l. omega (arith, l, f.born)) g.rows a.given) (omega arith);
  among = All-push (λ (x : Extent). is_among g.own x.at ≡ true) g.rows e a.among f.own;
  pages = IsDistinct-push pages_equiv g.rows e a.pages (sym (found_is_any (is_extent_of e.file e.page) g.rows) ∙ f.page);
  blocks = IsDistinct-push blocks_equiv g.rows e a.blocks f.block;
  born = IsDistinct-push births_equiv g.rows e a.born
      (list_any_none (of_one_birth e) g.rows
      (All-weaker (λ (x : Extent). x.birth ≤ g.births) (λ (x : Extent). of_one_birth e x ≡ false)
      (λ x l. ne_eqb x.birth e.birth (λ (z : x.birth ≡ e.birth). omega (arith, z, l, f.born))) g.rows a.given));
}

-- one more page of a list
pub laid_step : (g : Mapping) (own : List BlockAt) (rows : List Extent) (i births : ℕ) (d : Extent) → i < length rows → g.own ≡ own → g.rows ≡ take i rows →
    AreLaid own g.births (take i rows) → FollowsOn g (get_or rows i d) → births ≡ (get_or rows i d).birth → AreLaid own births (take (i + 1) rows)
laid_step g own rows i births d l o is a f b =
    let e = get_or rows i d in
    let before : AreLaid g.own g.births g.rows = subst (λ es. AreLaid g.own g.births es) (sym is) (subst (λ bs. AreLaid bs g.births (take i rows)) (sym o) a) in
    let after : AreLaid g.own e.birth (g.rows ++ e ∷ []) = laid_more g e before f in
    subst (λ es. AreLaid own births es) (ap (λ es. es ++ e ∷ []) is ∙ sym (take_more rows i d l))
    (subst (λ n. AreLaid own n (g.rows ++ e ∷ [])) (sym b) (subst (λ bs. AreLaid bs e.birth (g.rows ++ e ∷ [])) o after))

-- the pages from a place on
module _ (rows : List Extent) (i : ℕ) (d : Extent) (l : i < length rows) where
  rows_split : rows ≡ take i rows ++ get_or rows i d ∷ drop (i + 1) rows
  rows_split = sym (ap (λ xs. take i rows ++ xs) (sym (drop_more rows i d l)) ∙ take-append-drop i rows)

-- a page that is refused after the first ones
pub refused_at : (f : RestoreRefusal) (g : Mapping) (rows : List Extent) (i : ℕ) (d : Extent) → i < length rows → g.rows ≡ take i rows →
    AreLaid g.own g.births (take i rows) → IsAgainst f g (get_or rows i d) → IsRefusedAt f g.own rows
refused_at f g rows i d l is a h = (get_or rows i d, (take i rows, (drop (i + 1) rows, (g.births, (rows_split rows i d l, (a.last, against f h))))))
  where
    against : (f : RestoreRefusal) → IsAgainst f g (get_or rows i d) →
        IsAgainst f (record { own = g.own; rows = take i rows; births = g.births; runs = [] }) (get_or rows i d)
    against WrongBirth h = h
    against WrongPage h = h
    against PageTwice h = subst (λ es. is_some (find (is_extent_of (get_or rows i d).file (get_or rows i d).page) es) ≡ true) is h
    against NotOwn h = h
    against BlockTwice h = subst (λ es. list_any (lies_at (get_or rows i d).at) es ≡ true) is h
    against Memory h = tt

-- what is against one page is against all
pub refused_all : (f : RestoreRefusal) (s : Shape) (own : List BlockAt) (rows : List Extent) (births : ℕ) →
    own ≡ extents.own_blocks (extents.no_extents s.server s.servers s.disks s.blocks) → IsRefusedAt f own rows → IsRefused f (with_shape s rows births)
unfolding extents.own_blocks
refused_all WrongBirth s own rows births is h = λ b.
    let e = h.0 in
    let done = h.1.0 in
    let rest = h.1.1.0 in
    let a = born_at 0 done e rest births (subst (λ es. AreBorn 0 es births) h.1.1.1.1.0 b.rise) in
    let z = h.1.1.1.1.1.0 in
    let few = b.few in
    h.1.1.1.1.1.1 (omega (arith, a.0, z)) (omega (arith, a.1, few))
refused_all WrongPage s own rows births is h = λ a.
    let e = h.0 in
    let l = every_middle (λ (x : Extent). x.page.0 < 1048576) h.1.0 e h.1.1.0
    (recursion_from_All (λ (x : Extent). x.page.0 < 1048576) (h.1.0 ++ e ∷ h.1.1.0) (subst (All (λ (x : Extent). x.page.0 < 1048576)) h.1.1.1.1.0 a)) in
    let m = h.1.1.1.1.1.1 in
    omega (arith, l, m)
refused_all PageTwice s own rows births is h = λ d.
    let e = h.0 in
    true≢false
    (sym h.1.1.1.1.1.1 ∙ found_is_any (is_extent_of e.file e.page) h.1.0 ∙ twice pages_equiv h.1.0 e h.1.1.0 (subst (IsDistinct of_one_page) h.1.1.1.1.0 d))
refused_all NotOwn s own rows births is h = λ a.
    let e = h.0 in
    let t : is_own_block (with_shape s rows births) e.at ≡ true =
    every_middle (λ (x : Extent). is_own_block (with_shape s rows births) x.at ≡ true) h.1.0 e h.1.1.0
    (recursion_from_All (λ (x : Extent). is_own_block (with_shape s rows births) x.at ≡ true) (h.1.0 ++ e ∷ h.1.1.0)
    (subst (All (λ (x : Extent). is_own_block (with_shape s rows births) x.at ≡ true)) h.1.1.1.1.0 a)) in
    true≢false (sym t ∙ ap (λ bs. is_among bs e.at) (sym is) ∙ h.1.1.1.1.1.1)
refused_all BlockTwice s own rows births is h = λ d.
    let e = h.0 in
    true≢false (sym h.1.1.1.1.1.1 ∙ twice blocks_equiv h.1.0 e h.1.1.0 (subst (IsDistinct on_one_block) h.1.1.1.1.0 d))
refused_all Memory s own rows births is h = tt

-- the number of births cannot be the one that is given
pub births_refused : (s : Shape) (own : List BlockAt) (rows : List Extent) (laid births : ℕ) → AreLaid own laid rows → (laid ≤ births → births < 2 ^ 63 → ⊥) →
    IsRefused WrongBirth (with_shape s rows births)
births_refused s own rows laid births a fails = λ b. let l = born_last 0 rows births b.rise in let z = a.last in fails (omega (arith, l, z)) b.few

-- after all pages, and the other births that were given
pub laid_sound : (s : Shape) (own : List BlockAt) (rows : List Extent) (laid births : ℕ) →
    own ≡ extents.own_blocks (extents.no_extents s.server s.servers s.disks s.blocks) → length own ≤ 32768 → AreLaid own laid rows → laid ≤ births →
    births < 2 ^ 63 → IsSound (with_shape s rows births)
unfolding extents.own_blocks
laid_sound s own rows laid births is few a l m = record {
  owned = record {
    pages = a.pages;
    blocks = a.blocks;
    births = a.born;
    given = All-weaker (λ (x : Extent). x.birth ≤ laid) (λ (x : Extent). x.birth ≤ births) (λ x k. omega (arith, k, l)) rows a.given;
    own = All-weaker (λ (x : Extent). is_among own x.at ≡ true) (λ (x : Extent). is_own_block (with_shape s rows births) x.at ≡ true)
        (λ x k. ap (λ bs. is_among bs x.at) (sym is) ∙ k) rows a.among;
  };
  counted = m;
  few = subst (λ bs. length bs ≤ 32768) is few;
}

-- The search for a block.
module _ (own : List BlockAt) (at : BlockAt) (o : AreInOrder own) (i : ℕ) (low : (j : ℕ) (d : BlockAt) → j < i → rank (get_or own j d) < rank at)
    (high : (j : ℕ) (d : BlockAt) → i ≤ j → j < length own → rank at ≤ rank (get_or own j d)) where
  -- all blocks come before it
  pub none_past : length own ≤ i → is_among own at ≡ false
  none_past l = ⊎_elim
      (λ t. let s = (searched own at o t i low high at).0 in absurd (omega (arith, s, l)))
      (λ f. f)
      (cases_Bool (is_among own at))

  module _ (b : BlockAt) (l : i < length own) (is : b ≡ get_or own i b) where
    pub here : same_block b at ≡ true → (d : BlockAt) → get_or own i d ≡ at
    here t d = sym (get_or_read own i b l is d) ∙ block_is b at t

    -- the first that doesn't come before it differs from it
    pub none_other : same_block b at ≡ false → is_among own at ≡ false
    none_other f = ⊎_elim
        (λ t. absurd (true≢false (sym (same_itself at) ∙ ap (λ c. same_block c at) (sym (is ∙ (searched own at o t i low high b).1)) ∙ f)))
        (λ f. f)
        (cases_Bool (is_among own at))

-- The block that is taken.
module _ (own : List BlockAt) (taken : List Bool) (rows : List Extent) (laid : IsLaid own taken rows) (i : ℕ) (at : BlockAt) (l : i < length own)
    (is : (d : BlockAt) → get_or own i d ≡ at) where
  pub told_at : (d : Bool) → get_or taken i d ≡ list_any (lies_at at) rows
  told_at d = laid.told i d at l ∙ ap (λ b. list_any (lies_at b) rows) (is at)

  pub among_at : is_among own at ≡ true
  among_at = list_any_at (λ b. same_block b at) own i at l (ap (λ b. same_block b at) (is at) ∙ same_itself at)
