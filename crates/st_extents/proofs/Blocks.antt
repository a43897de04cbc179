-- Loops over the numbers of disks and blocks, and the first block that is free.
use Rattle.std.proofs.Common.{◌≡◌, ℕ, suc, ◌+◌, ◌-◌, ◌<◌, ◌≤◌, Bool, true, false, List, [], ◌∷◌, ◌++◌, arith, refl, sym, ap, ◌∙◌, append_assoc, drop, length, get_or, Ok, Err}
use Rattle.std.specs.Prelude.{map, filter, find, flat_map, not, is_some}
use Rattle.std.proofs.lemmas.Bool.{le-leb, lt-leb}
use Rattle.std.proofs.lemmas.List.{drop_all}
use Rattle.std.proofs.lemmas.Grind.{common_steps}
use Rattle.st_base.specs.declared.ids.FileId.{FileId}
use Rattle.st_base.specs.declared.ids.PageNo.{PageNo}
use Rattle.st_base.specs.declared.disk.BlockAt.{BlockAt}
use Rattle.st_rules.specs.declared.extents.AllocateRefusal.TheVariants.{NoSpace}
use Rattle.st_rules.specs.declared.extents.Extent.{Extent}
use Rattle.st_rules.specs.Extents.{numbers, own_blocks, free_blocks, no_extents, is_extent_of, Extents, place_on, place_pages, allocate, allocate_pages, unmapped, free}
use Rattle.st_rules.specs.Keys.{page_no}
use Rattle.st_extents.specs.Layout.{Shape, with_shape, none_at}

-- the numbers from i below n begin with i
numbers_more : (i n : ℕ) → i < n → numbers i (n - i) ≡ i ∷ numbers (i + 1) (n - (i + 1))
unfolding numbers
numbers_more i n l = let e : n - i ≡ suc (n - (i + 1)) = omega arith in rw e refl

numbers_none : (i n : ℕ) → n ≤ i → numbers i (n - i) ≡ []
unfolding numbers
numbers_none i n l = let e : n - i ≡ 0 = omega arith in rw e refl

append_nothing : {A : Type 0} (p : List A) → p ++ [] ≡ p
append_nothing [] = refl
append_nothing (x ∷ p) = ap (λ l. x ∷ l) (append_nothing p)

module _ {A : Type 0} (f : ℕ → A) (base : List A) where
  -- one more item of a row of numbers
  pub row_more : (before after : List A) (i n : ℕ) → i < n → after ≡ before ++ f i ∷ [] → before ++ map f (numbers i (n - i)) ≡ base → after ++ map f (numbers (i + 1) (n - (i + 1))) ≡ base
  row_more before after i n l e h = rw e (append_assoc before (f i ∷ []) (map f (numbers (i + 1) (n - (i + 1)))) ∙ (rw (numbers_more i n l) at h))

  -- the row ends
  pub row_ends : (before : List A) (i n : ℕ) → n ≤ i → before ++ map f (numbers i (n - i)) ≡ base → before ≡ base
  row_ends before i n l h = sym (append_nothing before) ∙ (rw (numbers_none i n l) at h)

-- the rest of the rows
abbrev pub rows_from : {A : Type 0} → (ℕ → List A) → (ℕ → Bool) → ℕ → ℕ → List A
rows_from f p i n = flat_map f (filter p (numbers i (n - i)))

module _ {A : Type 0} (f : ℕ → List A) (p : ℕ → Bool) (base : List A) where
  pub rows_more : (before after : List A) (i n : ℕ) → i < n → p i ≡ true → after ≡ before ++ f i → before ++ rows_from f p i n ≡ base → after ++ rows_from f p (i + 1) n ≡ base
  rows_more before after i n l t e h = rw e (append_assoc before (f i) (rows_from f p (i + 1) n) ∙ (rw (numbers_more i n l, t) at h))

  pub rows_skip : (before : List A) (i n : ℕ) → i < n → p i ≡ false → before ++ rows_from f p i n ≡ base → before ++ rows_from f p (i + 1) n ≡ base
  rows_skip before i n l t h = rw (numbers_more i n l, t) at h

  pub rows_end : (before : List A) (i n : ℕ) → n ≤ i → before ++ rows_from f p i n ≡ base → before ≡ base
  rows_end before i n l h = sym (append_nothing before) ∙ (rw (numbers_none i n l) at h)

-- the free blocks, by a list of this server's blocks
pub free_is : (s : Shape) (rows : List Extent) (births : ℕ) (own : List BlockAt) → own ≡ own_blocks (no_extents s.server s.servers s.disks s.blocks) → filter (none_at rows) own ≡ free_blocks (with_shape s rows births)
unfolding own_blocks free_blocks
free_is s rows births own e = rw e refl

-- the pages without a block, from a page on
abbrev pub pages_left : List Extent → FileId → ℕ → ℕ → List PageNo
pages_left rows f first count = filter (λ q. not (is_some (find (is_extent_of f q) rows))) (map page_no (numbers first count))

numbers_next : (first i n : ℕ) → i < n → numbers (first + i) (n - i) ≡ (first + i) ∷ numbers (first + (i + 1)) (n - (i + 1))
unfolding numbers
numbers_next first i n l = let e : n - i ≡ suc (n - (i + 1)) = omega arith in let g : first + (i + 1) ≡ (first + i) + 1 = omega arith in rw (e, g) refl

module _ (rows : List Extent) (f : FileId) (first : ℕ) (base : List PageNo) where
  pub page_skip : (before : List PageNo) (i n : ℕ) → i < n → is_some (find (is_extent_of f (page_no (first + i))) rows) ≡ true → before ++ pages_left rows f (first + i) (n - i) ≡ base → before ++ pages_left rows f (first + (i + 1)) (n - (i + 1)) ≡ base
  page_skip before i n l t h = rw (numbers_next first i n l, t) at h

  pub page_more : (before after : List PageNo) (i n : ℕ) → i < n → is_some (find (is_extent_of f (page_no (first + i))) rows) ≡ false → after ≡ before ++ page_no (first + i) ∷ [] → before ++ pages_left rows f (first + i) (n - i) ≡ base → after ++ pages_left rows f (first + (i + 1)) (n - (i + 1)) ≡ base
  page_more before after i n l t e h = rw e (append_assoc before (page_no (first + i) ∷ []) (pages_left rows f (first + (i + 1)) (n - (i + 1))) ∙ (rw (numbers_next first i n l, t) at h))

  pub pages_end : (before : List PageNo) (i n : ℕ) → n ≤ i → before ++ pages_left rows f (first + i) (n - i) ≡ base → before ≡ base
  unfolding numbers
  pages_end before i n l h = let e : n - i ≡ 0 = omega arith in sym (append_nothing before) ∙ (rw e at h)

-- one more of the pages is mapped
pub pages_step : (f : FileId) (ps : List PageNo) (i : ℕ) (d : PageNo) (x y base : Extents) → i < length ps → y ≡ place_on x f (get_or ps i d) (free_blocks x) → place_pages f (drop i ps) x ≡ base → place_pages f (drop (i + 1) ps) y ≡ base
unfolding place_pages
pages_step f ps i d x y base l g h = let more : drop i ps ≡ get_or ps i d ∷ drop (i + 1) ps = grind (arith, common_steps) in rw g (rw more at h)

pub pages_done : (f : FileId) (ps : List PageNo) (i : ℕ) (x base : Extents) → length ps ≤ i → place_pages f (drop i ps) x ≡ base → x ≡ base
unfolding place_pages
pages_done f ps i x base l h = rw (drop_all i ps l) at h

-- what the rule of allocation gives
pub allocate_gives : (x y : Extents) (f : FileId) (p : PageNo) (count : ℕ) (ps : List PageNo) (n m : ℕ) → ps ≡ unmapped x f p count → n ≡ free x → m ≡ length ps → m ≤ n → y ≡ place_pages f ps x → allocate x f p count ≡ Ok y
unfolding allocate allocate_pages
allocate_gives x y f p count ps n m e g h l r = rw (← e, r, ← h, ← g, le-leb m n l) refl

pub allocate_refuses : (x : Extents) (f : FileId) (p : PageNo) (count : ℕ) (ps : List PageNo) (n m : ℕ) → ps ≡ unmapped x f p count → n ≡ free x → m ≡ length ps → n < m → allocate x f p count ≡ Err (NoSpace n m)
unfolding allocate allocate_pages
allocate_refuses x f p count ps n m e g h l = rw (← e, ← h, ← g, lt-leb m n l) refl

-- a server has the same blocks whatever is mapped
pub own_few : (s : Shape) (rows : List Extent) (births : ℕ) (own : List BlockAt) → own ≡ own_blocks (no_extents s.server s.servers s.disks s.blocks) → length (own_blocks (with_shape s rows births)) ≤ 32768 → length own ≤ 32768
unfolding own_blocks
own_few s rows births own e l = rw e l
