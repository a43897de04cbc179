-- Slots on the blocks of one disk.
use Rattle.st_lemmas.proofs.Words
use Words.{◌≡◌, ℕ, zero, suc, ◌+◌, ◌<◌, ◌≤◌, ◌%◌, ◌^◌, Bool, true, false, cond, List, [], ◌∷◌, ◌++◌, length, map, filter, Option, Some, None, Ok, Err, Result}
use Words.{arith, refl, sym, ap, subst, ◌∙◌, ⊎_elim, true≢false, OnOk, OnErr, ◌==◌, ◌&&◌, ◌||◌, not, is_some, if◌then◌else◌, find, nat_le, unwrap_or}
use Words.{AllByRecursion, list_any, cases_Bool, eqb-true, eq-eqb, le-leb, ne_eqb, or_cases, and_from, false_from_ne_true, length-map, FileId}
use Words.{PageNo, BlockAt, Block, Extent, AllocateRefusal}
use Words.wants as refusals
use Words.Keys.{page_no, put, same_block, same_file, same_page}
use Words.Extents as extents
use Words.Extents.{Extents, is_at_or_behind, is_extent_of, lies_at, own_blocks}
use Words.Disks.{Disks, block, fresh_block, is_block_at}
use Words.Truth.{block_is, eqb_turned, some_there}
use Rattle.std.specs.Prelude.{is_err, flat_map}
use Rattle.std.specs.List.{IsDistinct}
use Rattle.std.specs.Option.{option_map}
use Rattle.std.proofs.lemmas.List.Elements.{filter_agree, recursion_from_All}
use Rattle.std.proofs.lemmas.Map.Keys.{IsDistinct-head, IsDistinct-tail}
use Rattle.std.proofs.lemmas.Option.{none-some, same_Some}
use Rattle.st_disk.specs.Calls.{HasBlock}
use Rattle.st_extents.specs.Ownership.{IsOwned, is_own_block, of_one_page, on_one_block}
use Rattle.st_lemmas.proofs.Puts.{find_put_by, find_put_other}
use Rattle.st_extents.specs.declared.refusal.ExtentRefusal.{ExtentRefusal}
use Rattle.st_extents.specs.Layout.{Allocates}
use Rattle.st_snap.specs.Slots.{AreSlots, HasOneMore, IsSlot, slot_at, slot_file, slot_of, slots_of}

-- Blocks.

pub is_same : (a b : BlockAt) → a ≡ b → same_block a b ≡ true
is_same a b e = and_from (a.disk.0 == b.disk.0) (a.block == b.block) (eq-eqb a.disk.0 b.disk.0 (ap (λ (x : BlockAt). x.disk.0) e)) (eq-eqb a.block b.block (ap (λ (x : BlockAt). x.block) e))

pub not_same : (a b : BlockAt) → (a ≡ b → ⊥) → same_block a b ≡ false
not_same a b n = false_from_ne_true (same_block a b) (λ t. n (block_is a b t))

-- The blocks of the one disk.

abbrev pub disk_blocks : ℕ → ℕ → List BlockAt
disk_blocks first n = map (extents.block_at 0) (extents.numbers first n)

append_none : {A : Type 0} (xs : List A) → xs ++ [] ≡ xs
append_none [] = refl
append_none (x ∷ xs) = ap (λ l. x ∷ l) (append_none xs)

pub own_is : (x : Extents) → x.server.0 ≡ 1 → x.servers ≡ 1 → x.disks ≡ 1 → own_blocks x ≡ disk_blocks 0 x.blocks
unfolding own_blocks extents.numbers
own_is x a b c =
    (λ i. flat_map (extents.blocks_of x) (filter (λ place. place % b i + 1 == a i) (extents.numbers 0 (c i)))) ∙ append_none (disk_blocks 0 x.blocks)

in_disk : (at : BlockAt) (first n : ℕ) → list_any (λ o. same_block o at) (disk_blocks first n) ≡ true → (at.disk.0 ≡ 1) × (at.block < first + n)
unfolding extents.numbers
in_disk at first zero h = absurd (true≢false (sym h))
in_disk at first (suc n) h = ⊎_elim
    (λ t. let e = block_is (extents.block_at 0 first) at t in
    let d : 1 ≡ at.disk.0 = ap (λ (x : BlockAt). x.disk.0) e in
    let b : first ≡ at.block = ap (λ (x : BlockAt). x.block) e in
    (sym d, omega (arith, b)))
    (λ t. let r = in_disk at (first + 1) n t in (r.0, (let l = r.1 in omega (arith, l))))
    (or_cases (same_block (extents.block_at 0 first) at) (list_any (λ o. same_block o at) (disk_blocks (first + 1) n)) h)

disk_long : (first n : ℕ) → length (disk_blocks first n) ≡ n
unfolding extents.numbers
disk_long first zero = refl
disk_long first (suc n) = ap suc (disk_long (first + 1) n)

disk_apart : (first n : ℕ) → IsDistinct same_block (disk_blocks first n)
unfolding extents.numbers IsDistinct
disk_apart first zero = tt
disk_apart first (suc n) = (above first (first + 1) n (omega arith), disk_apart (first + 1) n)
  where
    above : (low first n : ℕ) → low < first → AllByRecursion (λ y. same_block (extents.block_at 0 low) y ≡ false) (disk_blocks first n)
    above low first zero l = tt
    above low first (suc n) l = (not_same (extents.block_at 0 low) (extents.block_at 0 first) (λ e. let z : low ≡ first = ap (λ (x : BlockAt). x.block) e in omega (arith, z, l)), above low (first + 1) n (omega (arith, l)))

-- How many blocks are free.

filter_all : (p q : BlockAt → Bool) (xs : List BlockAt) → AllByRecursion (λ x. p x ≡ q x) xs → filter p xs ≡ filter q xs
filter_all p q [] a = refl
filter_all p q (x ∷ xs) a = let rest = filter_all p q xs a.1 in (λ i. if a.0 i then x ∷ rest i else rest i)

more_all : {A : Type 0} (P Q : A → Type 0) → ((x : A) → P x → Q x) → (xs : List A) → AllByRecursion P xs → AllByRecursion Q xs
more_all P Q h [] a = tt
more_all P Q h (x ∷ xs) a = (h x a.0, more_all P Q h xs a.1)

one_less : (at : BlockAt) (p : BlockAt → Bool) → p at ≡ true → (own : List BlockAt) → IsDistinct same_block own → list_any (λ o. same_block o at) own ≡ true → length (filter (λ b. not (same_block at b) && p b) own) + 1 ≡ length (filter p own)
one_less at p t [] d h = absurd (true≢false (sym h))
one_less at p t (b ∷ own) d h = by (same_block b at) refl (one_less at p t own (IsDistinct-tail same_block b own d))
  where
    plus_one : (n : ℕ) → n + 1 ≡ suc n
    plus_one n = omega arith

    choose : (z : Bool) → length (filter (λ b. not (same_block at b) && p b) own) + 1 ≡ length (filter p own) → length (if z then b ∷ filter (λ b. not (same_block at b) && p b) own else filter (λ b. not (same_block at b) && p b) own) + 1 ≡ length (if z then b ∷ filter p own else filter p own)
    choose true ih = let n : suc (length (filter (λ b. not (same_block at b) && p b) own)) + 1 ≡ suc (length (filter p own)) = omega (arith, ih) in n
    choose false ih = ih

    by : (c : Bool) → same_block b at ≡ c → (list_any (λ o. same_block o at) own ≡ true → length (filter (λ b. not (same_block at b) && p b) own) + 1 ≡ length (filter p own)) → length (filter (λ b. not (same_block at b) && p b) (b ∷ own)) + 1 ≡ length (filter p (b ∷ own))
    by true c more =
        let e = block_is b at c in
        let here : same_block at b ≡ true = is_same at b (sym e) in
        let passes : p b ≡ true = ap p e ∙ t in
        let rest : filter (λ b. not (same_block at b) && p b) own ≡ filter p own =
        filter_all (λ b. not (same_block at b) && p b) p own (more_all (λ y. same_block b y ≡ false) (λ y. (not (same_block at y) && p y) ≡ p y) (λ y n. ap (λ z. not z && p y) (ap (λ z. same_block z y) (sym e) ∙ n)) own (IsDistinct-head same_block b own d)) in
        (λ i. length (if (not (here i) && p b) then b ∷ rest i else rest i) + 1) ∙ plus_one (length (filter p own)) ∙ ap (λ z. length (if z then b ∷ filter p own else filter p own)) (sym passes)
    by false c more =
        let n : same_block at b ≡ false = not_same at b (λ e. true≢false (sym (is_same b at (sym e)) ∙ c)) in
        let later : list_any (λ o. same_block o at) own ≡ true = sym (ap (λ z. z || list_any (λ o. same_block o at) own) c) ∙ h in
        let ih = more later in
        (λ i. length (if (not (n i) && p b) then b ∷ filter (λ b. not (same_block at b) && p b) own else filter (λ b. not (same_block at b) && p b) own) + 1) ∙ choose (p b) ih

count_free : (own : List BlockAt) → IsDistinct same_block own → (rows : List Extent) → IsDistinct on_one_block rows → AllByRecursion (λ e. list_any (λ o. same_block o e.at) own ≡ true) rows → length (filter (λ b. not (list_any (lies_at b) rows)) own) + length rows ≡ length own
count_free own d [] r a = all_pass own
  where
    all_pass : (xs : List BlockAt) → length (filter (λ b. true) xs) + 0 ≡ length xs
    all_pass [] = refl
    all_pass (x ∷ xs) = let n = all_pass xs in omega (arith, n)
count_free own d (e ∷ rows) r a =
    let ih = count_free own d rows (IsDistinct-tail on_one_block e rows r) a.1 in
    let here : not (list_any (lies_at e.at) rows) ≡ true = ap not (none rows (IsDistinct-head on_one_block e rows r)) in
    let less = one_less e.at (λ b. not (list_any (lies_at b) rows)) here own d a.0 in
    let same : filter (λ b. not (list_any (lies_at b) (e ∷ rows))) own ≡ filter (λ b. not (same_block e.at b) && not (list_any (lies_at b) rows)) own =
    filter_agree (λ b. not (list_any (lies_at b) (e ∷ rows))) (λ b. not (same_block e.at b) && not (list_any (lies_at b) rows))
    (λ b. both (same_block e.at b) (list_any (lies_at b) rows)) own in
    let long = ap length same in
    omega (arith, ih, less, long)
  where
    none : (rows : List Extent) → AllByRecursion (λ y. on_one_block e y ≡ false) rows → list_any (lies_at e.at) rows ≡ false
    none [] a = refl
    none (y ∷ ys) a = (λ i. a.0 i || none ys a.1 i)

    both : (x y : Bool) → not (x || y) ≡ (not x && not y)
    both true y = refl
    both false y = refl

pub free_count : (x : Extents) (d : Disks) (last : ℕ) → AreSlots x d last → extents.free x + length x.rows ≡ x.blocks
unfolding extents.free_blocks
free_count x d last s =
    let own : own_blocks x ≡ disk_blocks 0 x.blocks = own_is x s.server s.servers s.disks in
    let among : AllByRecursion (λ e. is_own_block x e.at ≡ true) x.rows = recursion_from_All (λ (e : Extent). is_own_block x e.at ≡ true) x.rows s.owned.own in
    let n = count_free (own_blocks x) (subst (IsDistinct same_block) (sym own) (disk_apart 0 x.blocks)) x.rows s.owned.blocks among in
    n ∙ ap length own ∙ disk_long 0 x.blocks

-- A slot's extent.

and_true : (b : Bool) → (b && true) ≡ b
and_true true = refl
and_true false = refl

pub test_is : (last slot : ℕ) (e : Extent) → IsSlot last e → is_extent_of (slot_file slot) (page_no 0) e ≡ (slot == e.file.ino)
test_is last slot e s =
    (λ i. ((s.server i == 1) && (e.file.ino == slot)) && (s.page i == 0)) ∙ and_true (e.file.ino == slot) ∙ eqb_turned e.file.ino slot

behind_is : (last slot : ℕ) (e : Extent) → IsSlot last e → is_at_or_behind (slot_file slot) (page_no 0) e ≡ (slot == e.file.ino)
behind_is last slot e s =
    (λ i. ((s.server i == 1) && (e.file.ino == slot)) && nat_le 0 (s.page i)) ∙ and_true (e.file.ino == slot) ∙ eqb_turned e.file.ino slot

abbrev pub bytes_at : Disks → Extent → List ℕ
bytes_at d e = (block d e.at).bytes

abbrev pub extent_found : List Extent → ℕ → Option Extent
extent_found rows slot = find (is_extent_of (slot_file slot) (page_no 0)) rows

pub slot_found : (d : Disks) (last : ℕ) (rows : List Extent) → AllByRecursion (IsSlot last) rows → (slot : ℕ) → slot_at (slots_of d rows) slot ≡ option_map (bytes_at d) (extent_found rows slot)
slot_found d last [] a slot = refl
slot_found d last (e ∷ rows) a slot =
    (λ i. cond (sym (test_is last slot e a.0) i) (Some (bytes_at d e)) (slot_found d last rows a.1 slot i)) ∙ inside (is_extent_of (slot_file slot) (page_no 0) e)
  where
    inside : (b : Bool) → cond b (Some (bytes_at d e)) (option_map (bytes_at d) (extent_found rows slot)) ≡ option_map (bytes_at d) (cond b (Some e) (extent_found rows slot))
    inside true = refl
    inside false = refl

-- what is found is one of the rows and passes
record IsFound (rows : List Extent) (P : Extent → Type 0) (q : Extent → Bool) (e : Extent) : Type 0 where
  pub has : P e
  pub passes : q e ≡ true

found : (P : Extent → Type 0) (q : Extent → Bool) (rows : List Extent) (e : Extent) → AllByRecursion P rows → find q rows ≡ Some e → IsFound rows P q e
found P q [] e a h = absurd (none-some e h)
found P q (x ∷ rows) e a h = by (q x) (found P q rows e a.1) refl h
  where
    by : (b : Bool) → (find q rows ≡ Some e → IsFound rows P q e) → q x ≡ b → cond b (Some x) (find q rows) ≡ Some e → IsFound (x ∷ rows) P q e
    by true ih t h = let z = same_Some x e h in record { has = subst P z a.0; passes = ap q (sym z) ∙ t }
    by false ih t h = let r = ih h in record { has = r.has; passes = r.passes }

module _ (x : Extents) (d : Disks) (last : ℕ) (s : AreSlots x d last) where
  -- the block of a slot is on the disk
  pub has_block : (slot : ℕ) (e : Extent) → extent_found x.rows slot ≡ Some e → HasBlock d e.at
  has_block slot e h =
      let own : own_blocks x ≡ disk_blocks 0 x.blocks = own_is x s.server s.servers s.disks in
      let among : AllByRecursion (λ e. is_own_block x e.at ≡ true) x.rows = recursion_from_All (λ (e : Extent). is_own_block x e.at ≡ true) x.rows s.owned.own in
      let r = found (λ e. is_own_block x e.at ≡ true) (is_extent_of (slot_file slot) (page_no 0)) x.rows e among h in
      let i = in_disk e.at 0 x.blocks (ap (list_any (λ o. same_block o e.at)) (sym own) ∙ r.has) in
      let n = i.0 in let l = i.1 in
      record { some = omega (arith, n); disk = omega (arith, n, s.disk); block = omega (arith, l, s.blocks) }

  -- a slot that is there has an extent
  pub extent_there : (slot : ℕ) → is_some (slot_at (slots_of d x.rows) slot) ≡ true → (e : Extent) × (extent_found x.rows slot ≡ Some e)
  extent_there slot h = some_there (extent_found x.rows slot) (by (extent_found x.rows slot) (ap is_some (sym (slot_found d last x.rows s.slots slot)) ∙ h))
    where
      by : (o : Option Extent) → is_some (option_map (bytes_at d) o) ≡ true → is_some o ≡ true
      by None h = h
      by (Some e) h = refl

-- Bytes are written.

-- two rows of one block are the same row
one_row : (rows : List Extent) → IsDistinct on_one_block rows → (q r : Extent → Bool) (a b : Extent) → find q rows ≡ Some a → find r rows ≡ Some b → a.at ≡ b.at → a ≡ b
one_row [] d q r a b f g e = absurd (none-some a f)
one_row (x ∷ rows) d q r a b f g e = by (λ f g. one_row rows (IsDistinct-tail on_one_block x rows d) q r a b f g e) (q x) (r x) f g
  where
    apart : AllByRecursion (λ y. on_one_block x y ≡ false) rows
    apart = IsDistinct-head on_one_block x rows d

    other : (t : Extent → Bool) (y : Extent) → find t rows ≡ Some y → x.at ≡ y.at → ⊥
    other t y h z = true≢false (sym (is_same y.at x.at (sym z)) ∙ (found (λ y. on_one_block x y ≡ false) t rows y apart h).has)

    by : (find q rows ≡ Some a → find r rows ≡ Some b → a ≡ b) → (i j : Bool) → cond i (Some x) (find q rows) ≡ Some a → cond j (Some x) (find r rows) ≡ Some b → a ≡ b
    by ih true true f g = sym (same_Some x a f) ∙ same_Some x b g
    by ih true false f g = absurd (other r b g (ap (λ (z : Extent). z.at) (same_Some x a f) ∙ e))
    by ih false true f g = absurd (other q a f (ap (λ (z : Extent). z.at) (same_Some x b g) ∙ sym e))
    by ih false false f g = ih f g

-- a block after another one was put in its place
block_here : (old new : Disks) (b : Block) → new.written ≡ put (is_block_at b.at) b old.written → block new b.at ≡ b
block_here old new b e =
    ap (λ w. unwrap_or (find (is_block_at b.at) w) (fresh_block b.at)) e
    ∙ ap (λ o. unwrap_or o (fresh_block b.at)) (find_put_by (is_block_at b.at) (is_block_at b.at) b old.written (is_same b.at b.at refl) (λ y t. t))

block_there : (old new : Disks) (b : Block) (at : BlockAt) → new.written ≡ put (is_block_at b.at) b old.written → (b.at ≡ at → ⊥) → block new at ≡ block old at
block_there old new b at e n =
    ap (λ w. unwrap_or (find (is_block_at at) w) (fresh_block at)) e
    ∙ ap (λ o. unwrap_or o (fresh_block at))
    (find_put_other (is_block_at at) (is_block_at b.at) b old.written (not_same b.at at n)
    (λ y t. not_same y.at b.at (λ z. n (sym z ∙ block_is y.at at t))))

pub put_slots : (rows : List Extent) (last slot : ℕ) (old new : Disks) (e : Extent) (b : Block) → AllByRecursion (IsSlot last) rows → IsDistinct on_one_block rows
    → extent_found rows slot ≡ Some e → b.at ≡ e.at → new.written ≡ put (is_block_at b.at) b old.written
    → (q : ℕ) → slot_at (slots_of new rows) q ≡ cond (slot == q) (Some b.bytes) (slot_at (slots_of old rows) q)
put_slots rows last slot old new e b a d f z w q = slot_found new last rows a q ∙ by (extent_found rows q) refl (slot == q) refl ∙ ap (cond (slot == q) (Some b.bytes)) (sym (slot_found old last rows a q))
  where
    by : (o : Option Extent) → extent_found rows q ≡ o → (c : Bool) → (slot == q) ≡ c → option_map (bytes_at new) o ≡ cond c (Some b.bytes) (option_map (bytes_at old) o)
    by None g true c =
        let i : extent_found rows slot ≡ None = ap (extent_found rows) (eqb-true slot q c) ∙ g in absurd (none-some e (sym i ∙ f))
    by None g false c = refl
    by (Some y) g true c =
        let i : e ≡ y = same_Some e y (sym f ∙ ap (extent_found rows) (eqb-true slot q c) ∙ g) in
        let at : b.at ≡ y.at = z ∙ ap (λ (k : Extent). k.at) i in
        ap (λ (k : BlockAt). Some (block new k).bytes) (sym at) ∙ ap (λ (k : Block). Some k.bytes) (block_here old new b w)
    by (Some y) g false c =
        let apart : b.at ≡ y.at → ⊥ = λ k.
        let same = one_row rows d (is_extent_of (slot_file slot) (page_no 0)) (is_extent_of (slot_file q) (page_no 0)) e y f g (sym z ∙ k) in
        let here = found (IsSlot last) (is_extent_of (slot_file slot) (page_no 0)) rows e a f in
        let there = found (IsSlot last) (is_extent_of (slot_file q) (page_no 0)) rows y a g in
        let m : slot ≡ e.file.ino = eqb-true slot e.file.ino (sym (test_is last slot e here.has) ∙ here.passes) in
        let n : q ≡ y.file.ino = eqb-true q y.file.ino (sym (test_is last q y there.has) ∙ there.passes) in
        let o : e.file.ino ≡ y.file.ino = ap (λ (k : Extent). k.file.ino) same in
        true≢false (sym (eq-eqb slot q (m ∙ o ∙ sym n)) ∙ c) in
        ap (λ (k : Block). Some k.bytes) (block_there old new b y.at w apart)

pub slots_long : (d : Disks) (rows : List Extent) → length (slots_of d rows) ≡ length rows
slots_long d rows = length-map rows (slot_of d)

-- A slot is given up.

pub released : (d : Disks) (last slot : ℕ) (rows : List Extent) → AllByRecursion (IsSlot last) rows
    → slots_of d (filter (λ e. not (is_at_or_behind (slot_file slot) (page_no 0) e)) rows) ≡ filter (λ e. not (slot == e.0)) (slots_of d rows)
released d last slot [] a = refl
released d last slot (e ∷ rows) a =
    choose (not (is_at_or_behind (slot_file slot) (page_no 0) e)) ∙ (λ i. if not (behind_is last slot e a.0 i) then slot_of d e ∷ released d last slot rows a.1 i else released d last slot rows a.1 i)
  where
    choose : (b : Bool) → slots_of d (if b then e ∷ filter (λ e. not (is_at_or_behind (slot_file slot) (page_no 0) e)) rows else filter (λ e. not (is_at_or_behind (slot_file slot) (page_no 0) e)) rows)
        ≡ (if b then slot_of d e ∷ slots_of d (filter (λ e. not (is_at_or_behind (slot_file slot) (page_no 0) e)) rows) else slots_of d (filter (λ e. not (is_at_or_behind (slot_file slot) (page_no 0) e)) rows))
    choose true = refl
    choose false = refl

pub gone : (slot q : ℕ) (pages : List (ℕ × List ℕ)) → slot_at (filter (λ e. not (slot == e.0)) pages) q ≡ cond (slot == q) None (slot_at pages q)
gone slot q [] = either (slot == q) None
  where
    either : (b : Bool) (o : Option (List ℕ)) → o ≡ cond b o o
    either true o = refl
    either false o = refl
gone slot q (e ∷ pages) = by (gone slot q pages) (slot == e.0) refl
  where
    by : slot_at (filter (λ e. not (slot == e.0)) pages) q ≡ cond (slot == q) None (slot_at pages q) → (b : Bool) → (slot == e.0) ≡ b → slot_at (if not b then e ∷ filter (λ e. not (slot == e.0)) pages else filter (λ e. not (slot == e.0)) pages) q ≡ cond (slot == q) None (cond (q == e.0) (Some e.1) (slot_at pages q))
    by ih true t = ih ∙ ⊎_elim
        (λ c. (λ i. cond (c i) None (slot_at pages q)) ∙ ap (λ z. cond z None (cond (q == e.0) (Some e.1) (slot_at pages q))) (sym c))
        (λ c.
        let n : (q == e.0) ≡ false = ne_eqb q e.0 (λ z. true≢false (sym (eq-eqb slot q (eqb-true slot e.0 t ∙ sym z)) ∙ c)) in
        ap (λ z. cond (slot == q) None (cond z (Some e.1) (slot_at pages q))) (sym n))
        (cases_Bool (slot == q))
    by ih false t = ap (cond (q == e.0) (Some e.1)) ih ∙ ⊎_elim
        (λ c.
        let n : (slot == q) ≡ false = ne_eqb slot q (λ z. true≢false (sym (eq-eqb slot e.0 (z ∙ eqb-true q e.0 c)) ∙ t)) in
        (λ i. cond (c i) (Some e.1) (cond (slot == q) None (slot_at pages q))) ∙ (λ i. cond (sym n i) None (cond (sym c i) (Some e.1) (slot_at pages q))))
        (λ c. ap (λ z. cond z (Some e.1) (cond (slot == q) None (slot_at pages q))) c ∙ ap (λ z. cond (slot == q) None (cond z (Some e.1) (slot_at pages q))) (sym c))
        (cases_Bool (q == e.0))

-- one slot is gone
pub one_gone : (d : Disks) (last slot : ℕ) (rows : List Extent) → AllByRecursion (IsSlot last) rows → IsDistinct of_one_page rows → is_some (slot_at (slots_of d rows) slot) ≡ true
    → length (filter (λ e. not (slot == e.0)) (slots_of d rows)) + 1 ≡ length (slots_of d rows)
one_gone d last slot [] a p h = absurd (true≢false (sym h))
one_gone d last slot (e ∷ rows) a p h = by (one_gone d last slot rows a.1 (IsDistinct-tail of_one_page e rows p)) (slot == e.file.ino) refl
  where
    here : IsSlot last e
    here = a.0

    page_same : (y : Extent) → IsSlot last y → e.file.ino ≡ y.file.ino → of_one_page e y ≡ true
    page_same y s w = and_from (same_file y.file e.file) (same_page y.page e.page)
        (and_from (y.file.server.0 == e.file.server.0) (y.file.ino == e.file.ino) (eq-eqb y.file.server.0 e.file.server.0 (s.server ∙ sym here.server)) (eq-eqb y.file.ino e.file.ino (sym w)))
        (eq-eqb y.page.0 e.page.0 (s.page ∙ sym here.page))

    none_more : (rows : List Extent) → AllByRecursion (IsSlot last) rows → AllByRecursion (λ y. of_one_page e y ≡ false) rows → slot ≡ e.file.ino → filter (λ e. not (slot == e.0)) (slots_of d rows) ≡ slots_of d rows
    none_more [] a p z = refl
    none_more (y ∷ rows) a p z =
        let n : (slot == y.file.ino) ≡ false = ne_eqb slot y.file.ino (λ w. true≢false (sym (page_same y a.0 (sym z ∙ w)) ∙ p.0)) in
        (λ i. if not (n i) then slot_of d y ∷ none_more rows a.1 p.1 z i else none_more rows a.1 p.1 z i)

    by : (is_some (slot_at (slots_of d rows) slot) ≡ true → length (filter (λ e. not (slot == e.0)) (slots_of d rows)) + 1 ≡ length (slots_of d rows)) → (b : Bool) → (slot == e.file.ino) ≡ b → length (if not b then slot_of d e ∷ filter (λ e. not (slot == e.0)) (slots_of d rows) else filter (λ e. not (slot == e.0)) (slots_of d rows)) + 1 ≡ suc (length (slots_of d rows))
    by ih true t =
        let n = ap length (none_more rows a.1 (IsDistinct-head of_one_page e rows p) (eqb-true slot e.file.ino t)) in omega (arith, n)
    by ih false t =
        let later : is_some (slot_at (slots_of d rows) slot) ≡ true = sym (ap (λ z. is_some (cond z (Some (bytes_at d e)) (slot_at (slots_of d rows) slot))) t) ∙ h in
        let m = ih later in omega (arith, m)

-- A slot is mapped.

none_found : (last slot : ℕ) (rows : List Extent) → AllByRecursion (IsSlot last) rows → last < slot → extent_found rows slot ≡ None
none_found last slot [] a l = refl
none_found last slot (e ∷ rows) a l =
    let n : is_extent_of (slot_file slot) (page_no 0) e ≡ false = test_is last slot e a.0 ∙ ne_eqb slot e.file.ino (λ z. let g = a.0.given in omega (arith, z, g, l)) in
    ap (λ b. cond b (Some e) (extent_found rows slot)) n ∙ none_found last slot rows a.1 l

pub fresh_slot : (d : Disks) (last slot : ℕ) (rows : List Extent) → AllByRecursion (IsSlot last) rows → last < slot → slot_at (slots_of d rows) slot ≡ None
fresh_slot d last slot rows a l = slot_found d last rows a slot ∙ ap (option_map (bytes_at d)) (none_found last slot rows a l)

-- the extents with one more, of this slot
pub record HasSlot (x new : Extents) (slot : ℕ) : Type 0 where
  pub extent : Extent
  pub rows : new.rows ≡ x.rows ++ extent ∷ []
  pub server : extent.file.server.0 ≡ 1
  pub ino : extent.file.ino ≡ slot
  pub page : extent.page.0 ≡ 0
  pub own : new.server.0 ≡ x.server.0
  pub servers : new.servers ≡ x.servers
  pub disks : new.disks ≡ x.disks
  pub blocks : new.blocks ≡ x.blocks
  pub births : new.births ≡ x.births + 1

from_ok : Extents → Result Extents AllocateRefusal → Extents
from_ok x (Ok y) = y
from_ok x (Err e) = x

placed : (x new : Extents) (slot : ℕ) (bs : List BlockAt) → (if nat_le 1 (length bs) then Ok (extents.place_on x (slot_file slot) (page_no 0) bs) else Err (refusals.NoSpace (length bs) 1)) ≡ Ok new → HasSlot x new slot
unfolding extents.place_on from_ok
placed x new slot [] e = cc
placed x new slot (b ∷ bs) e =
    let t : nat_le 1 (length (b ∷ bs)) ≡ true = le-leb 1 (length (b ∷ bs)) (omega arith) in
    let n : extents.with_extent (extents.new_extent x (slot_file slot) (page_no 0) b) x ≡ new = ap (from_ok x) (sym (ap (λ c. if c then Ok (extents.place_on x (slot_file slot) (page_no 0) (b ∷ bs)) else Err (refusals.NoSpace (length (b ∷ bs)) 1)) t) ∙ e) in
    subst (λ y. HasSlot x y slot) n (record {
      extent = extents.new_extent x (slot_file slot) (page_no 0) b;
      rows = refl;
      server = refl;
      ino = refl;
      page = refl;
      own = refl;
      servers = refl;
      disks = refl;
      blocks = refl;
      births = refl;
    })

pub has_slot : (x new : Extents) (d : Disks) (last slot : ℕ) → AreSlots x d last → last < slot → extents.allocate x (slot_file slot) (page_no 0) 1 ≡ Ok new → HasSlot x new slot
unfolding extents.allocate extents.allocate_pages extents.place_pages extents.numbers
has_slot x new d last slot s l e =
    let n : is_some (extent_found x.rows slot) ≡ false = ap is_some (none_found last slot x.rows s.slots l) in
    placed x new slot (extents.free_blocks x) (sym (ap (λ b. extents.allocate_pages x (slot_file slot) (if not b then page_no 0 ∷ [] else [])) n) ∙ e)

pub slots_push : (d : Disks) (rows : List Extent) (e : Extent) → slots_of d (rows ++ e ∷ []) ≡ slots_of d rows ++ slot_of d e ∷ []
slots_push d [] e = refl
slots_push d (x ∷ rows) e = ap (λ l. slot_of d x ∷ l) (slots_push d rows e)

push_all : (P : Extent → Type 0) (rows : List Extent) (e : Extent) → AllByRecursion P rows → P e → AllByRecursion P (rows ++ e ∷ [])
push_all P [] e a b = (b, tt)
push_all P (x ∷ rows) e a b = (a.0, push_all P rows e a.1 b)

pub more_slots : (x new : Extents) (d : Disks) (last : ℕ) → AreSlots x d last → IsOwned new → last + 1 < 2 ^ 32 → HasSlot x new (last + 1) → AreSlots new d (last + 1)
more_slots x new d last s o f h = record {
  server = h.own ∙ s.server;
  servers = h.servers ∙ s.servers;
  disks = h.disks ∙ s.disks;
  some = omega (arith, h.blocks, s.some);
  few = omega (arith, h.blocks, s.few);
  disk = s.disk;
  blocks = s.blocks ∙ sym h.blocks;
  owned = o;
  slots = subst (AllByRecursion (IsSlot (last + 1))) (sym h.rows) (push_all (IsSlot (last + 1)) x.rows h.extent (more_all (IsSlot last) (IsSlot (last + 1)) (λ e a. record { server = a.server; page = a.page; given = let g = a.given in omega (arith, g) }) x.rows s.slots) (record { server = h.server; page = h.page; given = omega (arith, h.ino) }));
  births = omega (arith, h.births, s.births);
  fits = f;
}

pub new_slots : (x new : Extents) (d : Disks) (slot : ℕ) (h : HasSlot x new slot) → slots_of d new.rows ≡ slots_of d x.rows ++ (slot, bytes_at d h.extent) ∷ []
new_slots x new d slot h = ap (slots_of d) h.rows ∙ slots_push d x.rows h.extent ∙ ap (λ i. slots_of d x.rows ++ (i, bytes_at d h.extent) ∷ []) h.ino

filter_all_slots : (last : ℕ) (q : Extent → Bool) (rows : List Extent) → AllByRecursion (IsSlot last) rows → AllByRecursion (IsSlot last) (filter q rows)
filter_all_slots last q [] a = tt
filter_all_slots last q (e ∷ rows) a = choose (filter_all_slots last q rows a.1) (q e)
  where
    choose : AllByRecursion (IsSlot last) (filter q rows) → (b : Bool) → AllByRecursion (IsSlot last) (if b then e ∷ filter q rows else filter q rows)
    choose r true = (a.0, r)
    choose r false = r

pub fewer_slots : (x : Extents) (d : Disks) (last slot : ℕ) → AreSlots x d last → IsOwned (extents.release_from x (slot_file slot) (page_no 0)) → AreSlots (extents.release_from x (slot_file slot) (page_no 0)) d last
unfolding extents.release_from
fewer_slots x d last slot s o = record {
  server = s.server;
  servers = s.servers;
  disks = s.disks;
  some = s.some;
  few = s.few;
  disk = s.disk;
  blocks = s.blocks;
  owned = o;
  slots = filter_all_slots last (λ e. not (is_at_or_behind (slot_file slot) (page_no 0) e)) x.rows s.slots;
  births = s.births;
  fits = s.fits;
}

pub left_slots : (x : Extents) (d : Disks) (last slot : ℕ) → AreSlots x d last → slots_of d (extents.release_from x (slot_file slot) (page_no 0)).rows ≡ filter (λ e. not (slot == e.0)) (slots_of d x.rows)
unfolding extents.release_from
left_slots x d last slot s = released d last slot x.rows s.slots

-- a slot that was added and is gone again
pub added_and_gone : (slot : ℕ) (bytes : List ℕ) (pages : List (ℕ × List ℕ)) → slot_at pages slot ≡ None → filter (λ e. not (slot == e.0)) (pages ++ (slot, bytes) ∷ []) ≡ pages
added_and_gone slot bytes [] n = ap (λ b. if not b then (slot, bytes) ∷ [] else []) (eq-eqb slot slot refl)
added_and_gone slot bytes (e ∷ pages) n = by (added_and_gone slot bytes pages) (slot == e.0) refl n
  where
    by : (slot_at pages slot ≡ None → filter (λ e. not (slot == e.0)) (pages ++ (slot, bytes) ∷ []) ≡ pages) → (b : Bool) → (slot == e.0) ≡ b → cond b (Some e.1) (slot_at pages slot) ≡ None → (if not (slot == e.0) then e ∷ filter (λ e. not (slot == e.0)) (pages ++ (slot, bytes) ∷ []) else filter (λ e. not (slot == e.0)) (pages ++ (slot, bytes) ∷ [])) ≡ e ∷ pages
    by ih true t m = absurd (none-some e.1 (sym m))
    by ih false t m = (λ i. if not (t i) then e ∷ filter (λ e. not (slot == e.0)) (pages ++ (slot, bytes) ∷ []) else filter (λ e. not (slot == e.0)) (pages ++ (slot, bytes) ∷ [])) ∙ ap (λ l. e ∷ l) (ih m)

-- a slot after the others
pub found_last : (slot q : ℕ) (bytes : List ℕ) (pages : List (ℕ × List ℕ)) → slot_at pages slot ≡ None → slot_at (pages ++ (slot, bytes) ∷ []) q ≡ cond (slot == q) (Some bytes) (slot_at pages q)
found_last slot q bytes [] n = ap (λ b. cond b (Some bytes) None) (eqb_turned q slot)
found_last slot q bytes (e ∷ pages) n = by (found_last slot q bytes pages) (slot == e.0) refl n
  where
    by : (slot_at pages slot ≡ None → slot_at (pages ++ (slot, bytes) ∷ []) q ≡ cond (slot == q) (Some bytes) (slot_at pages q)) → (b : Bool) → (slot == e.0) ≡ b → cond b (Some e.1) (slot_at pages slot) ≡ None → cond (q == e.0) (Some e.1) (slot_at (pages ++ (slot, bytes) ∷ []) q) ≡ cond (slot == q) (Some bytes) (cond (q == e.0) (Some e.1) (slot_at pages q))
    by ih true t m = absurd (none-some e.1 (sym m))
    by ih false t m = ap (cond (q == e.0) (Some e.1)) (ih m) ∙ ⊎_elim
        (λ c.
        let z : (slot == q) ≡ false = ne_eqb slot q (λ w. true≢false (sym (eq-eqb slot e.0 (w ∙ eqb-true q e.0 c)) ∙ t)) in
        (λ i. cond (c i) (Some e.1) (cond (slot == q) (Some bytes) (slot_at pages q))) ∙ (λ i. cond (sym z i) (Some bytes) (cond (sym c i) (Some e.1) (slot_at pages q))))
        (λ c. ap (λ z. cond z (Some e.1) (cond (slot == q) (Some bytes) (slot_at pages q))) c ∙ ap (λ z. cond (slot == q) (Some bytes) (cond z (Some e.1) (slot_at pages q))) (sym c))
        (cases_Bool (q == e.0))

-- What calls answer.

pub ok_of : {T E : Type 0} (r : Result T E) (P : Type 0) → OnOk r P → is_err r ≡ false → P
ok_of (Ok x) P h e = h
ok_of (Err x) P h e = absurd (true≢false e)

pub err_of : {T E : Type 0} (r : Result T E) (P : Type 0) → OnErr r P → is_err r ≡ true → P
err_of (Ok x) P h e = absurd (true≢false (sym e))
err_of (Err x) P h e = h

pub on_ok : {T E : Type 0} (r : Result T E) (P Q : Type 0) → OnOk r P → (P → Q) → OnOk r Q
on_ok (Ok x) P Q h f = f h
on_ok (Err x) P Q h f = h

pub allocated : (x new : Extents) (r : Result Unit ExtentRefusal) (rule : Result Extents AllocateRefusal) → Allocates x new r rule → is_err r ≡ false → rule ≡ Ok new
allocated x new (Ok u) rule h e = h
allocated x new (Err f) rule h e = absurd (true≢false e)

pub left_blocks : (x : Extents) (f : FileId) (p : PageNo) → (extents.release_from x f p).blocks ≡ x.blocks
unfolding extents.release_from
left_blocks x f p = refl

pub map_there : (x : Extents) (slot : ℕ) (e : Extent) → extent_found x.rows slot ≡ Some e → extents.map_page x (slot_file slot) (page_no 0) ≡ Some (e.at, e.birth)
map_there x slot e h = ap (option_map extents.place_and_birth) h

pub added_there : (slot : ℕ) (old new : List (ℕ × List ℕ)) → HasOneMore old slot new → slot_at old slot ≡ None → is_some (slot_at new slot) ≡ true
added_there slot old new h n =
    ap (λ l. is_some (slot_at l slot)) h.1 ∙ ap is_some (found_last slot slot h.0 old n) ∙ ap (λ b. is_some (cond b (Some h.0) (slot_at old slot))) (eq-eqb slot slot refl)

pub cond_twice : {A : Type 0} (b : Bool) (x y z : A) → cond b x (cond b y z) ≡ cond b x z
cond_twice true x y z = refl
cond_twice false x y z = refl

pub next_slot : (x new : Extents) (d : Disks) (last : ℕ) (f : FileId) (r : Result Unit ExtentRefusal) → AreSlots x d last → f ≡ slot_file (last + 1) → Allocates x new r (extents.allocate x f (page_no 0) 1) → is_err r ≡ false → HasSlot x new (last + 1)
next_slot x new d last f r s e a o =
    has_slot x new d last (last + 1) s (omega arith) (ap (λ g. extents.allocate x g (page_no 0) 1) (sym e) ∙ allocated x new r (extents.allocate x f (page_no 0) 1) a o)
