-- A server has mapped as many pages as it has blocks, if none is free; so room was wanted for more pages, if it was for one that isn't mapped.
use Rattle.st_lemmas.proofs.Words
use Words.{◌≡◌, ◌⊎◌, ℕ, zero, suc, ◌+◌, ◌<◌, ◌≤◌, arith, Bool, true, false, not, ◌&&◌, ◌==◌, List, [], ◌∷◌, ◌++◌, length, map, filter, refl, sym, ap, ◌∙◌, subst, inl, inr}
use Words.{eq-eqb, eqb-true, list_all, list_any, if◌then◌else◌, BlockAt, FileId, PageNo, Extent, ServerId}
use Words.Extents as extents
use Words.Extents.{Extents}
use Words.Keys.{same_block}
use Words.Lists.{Has}
use Words.Members.{has_left, has_right, some_member_passes}
use Words.Tables.{and_true, each_passes, has_append, has_filter, has_filter_in, has_map, not_true}
use Rattle.std.specs.Prelude.{flat_map}
use Rattle.st_laws_volume.specs.PageBlocks.{PagesLie}
use Rattle.st_laws_volume.specs.Witness.{is_claimed}
use Rattle.st_laws_volume.proofs.PageBlocks.{no_row}
use Rattle.st_volume.specs.Pages as pages
use Rattle.st_volume.specs.Pages.{same_place}
use Rattle.st_volume.specs.Volume.{places_at}

-- A list without one of its members
without : {B : Type 0} (ys : List B) (b : B) → Has b ys → List B
without [] b h = absurd h
without (y ∷ ys) b (inl e) = ys
without (y ∷ ys) b (inr i) = y ∷ without ys b i

one_less : {B : Type 0} (ys : List B) (b : B) (h : Has b ys) → length ys ≡ suc (length (without ys b h))
unfolding without
one_less [] b h = absurd h
one_less (y ∷ ys) b (inl e) = refl
one_less (y ∷ ys) b (inr i) = ap suc (one_less ys b i)

others : {B : Type 0} (ys : List B) (b : B) (h : Has b ys) (c : B) → Has c ys → (c ≡ b) ⊎ Has c (without ys b h)
unfolding without
others [] b h c i = absurd h
others (y ∷ ys) b (inl e) c (inl q) = inl (q ∙ sym e)
others (y ∷ ys) b (inl e) c (inr j) = inr j
others (y ∷ ys) b (inr i) c (inl q) = inr (inl q)
others (y ∷ ys) b (inr i) c (inr j) = go (others ys b i c j)
  where
    go : (c ≡ b) ⊎ Has c (without ys b i) → (c ≡ b) ⊎ Has c (y ∷ without ys b i)
    go (inl q) = inl q
    go (inr k) = inr (inr k)

-- Members that differ
Distinct : {A : Type 0} → List A → Type 0
Distinct [] = Unit {0}
Distinct {A} (x ∷ xs) = ((y : A) → Has y xs → y ≡ x → ⊥) × Distinct xs

record Met {B : Type 0} (R : B → Type 0) (ys : List B) : Type 0 where
  met : B
  among : Has met ys
  so : R met

-- Of two lists, the second is no shorter, if each member of the first meets one of the second, and no two meet the same.
pigeons : {A B : Type 0} (R : A → B → Type 0) (xs : List A) (ys : List B) → Distinct xs → ((a : A) → Has a xs → Met (R a) ys) →
    ((a c : A) (b : B) → R a b → R c b → a ≡ c) → length xs ≤ length ys
unfolding Distinct
pigeons R [] ys d f g = omega arith
pigeons {A} {B} R (a ∷ xs) ys d f g = count (pigeons R xs (without ys z.met z.among) d.1 other g) (one_less ys z.met z.among)
  where
    z : Met (R a) ys
    z = f a (inl refl)

    other : (c : A) → Has c xs → Met (R c) (without ys z.met z.among)
    other c i = go (f c (inr i))
      where
        go : Met (R c) ys → Met (R c) (without ys z.met z.among)
        go y = by (others ys z.met z.among y.met y.among)
          where
            by : (y.met ≡ z.met) ⊎ Has y.met (without ys z.met z.among) → Met (R c) (without ys z.met z.among)
            by (inl q) = absurd (d.0 c i (g c a z.met (subst (R c) q y.so) z.so))
            by (inr j) = record { met = y.met; among = j; so = y.so }

    count : {n m k : ℕ} → n ≤ m → k ≡ suc m → suc n ≤ k
    count l q = omega (arith, l, q)

-- The blocks of a server differ.
both_distinct : {A : Type 0} (xs ys : List A) → Distinct xs → Distinct ys → ((x y : A) → Has x xs → Has y ys → y ≡ x → ⊥) → Distinct (xs ++ ys)
unfolding Distinct
both_distinct [] ys d e h = e
both_distinct {A} (x ∷ xs) ys d e h = (
  λ y i q. go y q (has_append xs ys y i),
  both_distinct xs ys d.1 e (λ a b i j q. h a b (inr i) j q),
)
  where
    go : (y : A) → y ≡ x → Has y xs ⊎ Has y ys → ⊥
    go y q (inl i) = d.0 y i q
    go y q (inr i) = h x y (inl refl) i q

above : (a n k : ℕ) → Has k (extents.numbers a n) → a ≤ k
unfolding extents.numbers
above a zero k i = absurd i
above a (suc n) k (inl e) = omega (arith, e)
above a (suc n) k (inr i) = let z = above (a + 1) n k i in omega (arith, z)

not_again : {a k : ℕ} → a + 1 ≤ k → k ≡ a → ⊥
not_again l q = omega (arith, l, q)

disk_distinct : (p a n : ℕ) → Distinct (map (extents.block_at p) (extents.numbers a n))
unfolding extents.numbers Distinct
disk_distinct p a zero = tt
disk_distinct p a (suc n) = (
  λ b i q.
      let z = has_map (extents.block_at p) (extents.numbers (a + 1) n) b i in
      not_again (above (a + 1) n z.0 z.1) (ap (λ (x : BlockAt). x.block) (sym z.2 ∙ q)),
  disk_distinct p (a + 1) n,
)

some_distinct : (a n : ℕ) (test : ℕ → Bool) → Distinct (filter test (extents.numbers a n))
unfolding extents.numbers Distinct
some_distinct a zero test = tt
some_distinct a (suc n) test = go (test a) (some_distinct (a + 1) n test)
  where
    rest : List ℕ
    rest = filter test (extents.numbers (a + 1) n)

    go : (b : Bool) → Distinct rest → Distinct (if b then a ∷ rest else rest)
    go true h = (λ k i q. not_again (above (a + 1) n k (has_filter test (extents.numbers (a + 1) n) k i).0) q, h)
    go false h = h

-- the disk of a block
record IsOn (x : Extents) (b : BlockAt) (ps : List ℕ) : Type 0 where
  place : ℕ
  among : Has place ps
  disk : b.disk.0 ≡ place + 1

disk_of : (x : Extents) (p : ℕ) (b : BlockAt) → Has b (extents.blocks_of x p) → b.disk.0 ≡ p + 1
disk_of x p b i = let z = has_map (extents.block_at p) (extents.numbers 0 x.blocks) b i in ap (λ (y : BlockAt). y.disk.0) z.2

on_one : (x : Extents) (ps : List ℕ) (b : BlockAt) → Has b (flat_map (extents.blocks_of x) ps) → IsOn x b ps
on_one x [] b i = absurd i
on_one x (p ∷ ps) b i = go (has_append (extents.blocks_of x p) (flat_map (extents.blocks_of x) ps) b i) (λ j. on_one x ps b j)
  where
    go : Has b (extents.blocks_of x p) ⊎ Has b (flat_map (extents.blocks_of x) ps) → (Has b (flat_map (extents.blocks_of x) ps) → IsOn x b ps) →
        IsOn x b (p ∷ ps)
    go (inl j) h = record { place = p; among = inl refl; disk = disk_of x p b j }
    go (inr j) h = let z = h j in record { place = z.place; among = inr z.among; disk = z.disk }

all_distinct : (x : Extents) (ps : List ℕ) → Distinct ps → Distinct (flat_map (extents.blocks_of x) ps)
unfolding Distinct
all_distinct x [] d = tt
all_distinct x (p ∷ ps) d =
    both_distinct (extents.blocks_of x p) (flat_map (extents.blocks_of x) ps) (disk_distinct p 0 x.blocks) (all_distinct x ps d.1)
    (λ a b i j q.
    let z = on_one x ps b j in d.0 z.place z.among (same (sym z.disk ∙ (ap (λ (y : BlockAt). y.disk.0) q ∙ disk_of x p a i))))
  where
    same : {k : ℕ} → k + 1 ≡ p + 1 → k ≡ p
    same q = omega (arith, q)

own_distinct : (x : Extents) → Distinct (extents.own_blocks x)
unfolding extents.own_blocks
own_distinct x = all_distinct x (filter (extents.is_own_disk x) (extents.numbers 0 x.disks)) (some_distinct 0 x.disks (extents.is_own_disk x))

-- A server without a free block: each of its blocks has a page.
none_in : {A : Type 0} (xs : List A) → length xs ≡ 0 → (x : A) → Has x xs → ⊥
none_in [] e x i = i
none_in (y ∷ xs) e x i = cc e

taken : (x : Extents) → extents.free x ≡ 0 → (b : BlockAt) → Has b (extents.own_blocks x) → list_any (extents.lies_at b) x.rows ≡ true
unfolding extents.free_blocks
taken x f b i = go (list_any (extents.lies_at b) x.rows) refl
  where
    go : (c : Bool) → list_any (extents.lies_at b) x.rows ≡ c → list_any (extents.lies_at b) x.rows ≡ true
    go true q = q
    go false q =
        absurd (none_in (filter (extents.is_free x) (extents.own_blocks x)) f b (has_filter_in (extents.is_free x) (extents.own_blocks x) b i (ap not q)))

-- a block and a page that lies on it
record LiesOn (x : Extents) (b : BlockAt) (c : FileId × PageNo) : Type 0 where
  row : Extent
  among : Has row x.rows
  at : row.at ≡ b
  file : c.0 ≡ row.file
  page : c.1 ≡ row.page

same_is : (a b : BlockAt) → same_block a b ≡ true → a ≡ b
same_is a b e =
    let z = and_true (a.disk.0 == b.disk.0) (a.block == b.block) e in
    ap (λ n. record { disk = record { 0 = n }; block = a.block }) (eqb-true a.disk.0 b.disk.0 z.0)
    ∙ ap (λ n. record { disk = b.disk; block = n }) (eqb-true a.block b.block z.1)

file_same : (f g : FileId) → pages.same_file f g ≡ true → g ≡ f
file_same f g e =
    let z = and_true (f.server.0 == g.server.0) (f.ino == g.ino) e in
    sym
    (ap (λ n. record { server = record { 0 = n }; ino = f.ino }) (eqb-true f.server.0 g.server.0 z.0)
    ∙ ap (λ n. record { server = g.server; ino = n }) (eqb-true f.ino g.ino z.1))

module _ (s : ServerId) (x : Extents) (lie : PagesLie s x) (claims : List (FileId × PageNo)) (claimed : list_all (is_claimed claims) x.rows ≡ true)
    (full : extents.free x ≡ 0) where
  wanted : (b : BlockAt) → Has b (extents.own_blocks x) → Met (LiesOn x b) (places_at s claims)
  wanted b i = of_row (some_member_passes (extents.lies_at b) x.rows (taken x full b i))
    where
      of_row : (e : Extent) × Has e x.rows × (extents.lies_at b e ≡ true) → Met (LiesOn x b) (places_at s claims)
      of_row e = of_claim (some_member_passes (same_place (e.0.file, e.0.page)) claims (each_passes (is_claimed claims) x.rows claimed e.0 e.1))
        where
          of_claim : (c : FileId × PageNo) × Has c claims × (same_place (e.0.file, e.0.page) c ≡ true) → Met (LiesOn x b) (places_at s claims)
          of_claim c =
              let z = and_true (pages.same_file e.0.file c.0.0) (e.0.page.0 == c.0.1.0) c.2 in
              let f : c.0.0 ≡ e.0.file = file_same e.0.file c.0.0 z.0 in
              record {
                met = c.0;
                among =
                    has_filter_in (λ y. y.0.server.0 == s.0) claims c.0 c.1
                    (eq-eqb c.0.0.server.0 s.0 (ap (λ (g : FileId). g.server.0) f ∙ ap (λ (r : ServerId). r.0) (lie.own e.0 e.1)));
                so =
                    record {
                      row = e.0;
                      among = e.1;
                      at = same_is e.0.at b e.2;
                      file = f;
                      page = ap (λ n. record { 0 = n }) (sym (eqb-true e.0.page.0 c.0.1.0 z.1));
                    };
              }

  alone : (a c : BlockAt) (y : FileId × PageNo) → LiesOn x a y → LiesOn x c y → a ≡ c
  alone a c y h k =
      sym h.at ∙ (lie.once h.row k.row h.among k.among (sym h.file ∙ k.file) (sym h.page ∙ k.page) ∙ k.at)

  -- one page more is wanted, which isn't mapped
  module _ (f : FileId) (p : PageNo) (own : f.server ≡ s) (claim : Has (f, p) claims) (unmapped : extents.is_mapped x f p ≡ false) where
    here : Has (f, p) (places_at s claims)
    here = has_filter_in (λ y. y.0.server.0 == s.0) claims (f, p) claim (eq-eqb f.server.0 s.0 (ap (λ (r : ServerId). r.0) own))

    abbrev rest : List (FileId × PageNo)
    rest = without (places_at s claims) (f, p) here

    other : (b : BlockAt) (c : FileId × PageNo) → LiesOn x b c → c ≡ (f, p) → ⊥
    other b c h q =
        no_row x f p unmapped h.row h.among (sym h.file ∙ ap (λ (y : FileId × PageNo). y.0) q) (sym h.page ∙ ap (λ (y : FileId × PageNo). y.1) q)

    wanted_else : (b : BlockAt) → Has b (extents.own_blocks x) → Met (LiesOn x b) rest
    wanted_else b i = go (wanted b i)
      where
        go : Met (LiesOn x b) (places_at s claims) → Met (LiesOn x b) rest
        go z = by (others (places_at s claims) (f, p) here z.met z.among)
          where
            by : (z.met ≡ (f, p)) ⊎ Has z.met rest → Met (LiesOn x b) rest
            by (inl q) = absurd (other b z.met z.so q)
            by (inr j) = record { met = z.met; among = j; so = z.so }

    -- more pages are wanted than there are blocks
    pub blocks_wanted : length (extents.own_blocks x) < length (places_at s claims)
    blocks_wanted =
        count (pigeons (LiesOn x) (extents.own_blocks x) rest (own_distinct x) wanted_else alone) (one_less (places_at s claims) (f, p) here)
      where
        count : {n m k : ℕ} → n ≤ m → k ≡ suc m → n < k
        count l q = omega (arith, l, q)
