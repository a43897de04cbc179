-- The order of the keys of runs, and the tests of runs as facts on numbers.
use Rattle.std.proofs.Common.{◌≡◌, ℕ, ◌+◌, ◌<◌, ◌≤◌, true, false, arith, refl, sym, ap, ◌∙◌, ⊎_elim, inl, inr, true≢false}
use Rattle.std.specs.Prelude.{◌&&◌, ◌==◌, ◌⊎◌, nat_le, nat_lt}
use Rattle.std.specs.declared.cmp.Ordering.{Ordering}
use Rattle.std.specs.declared.cmp.Ordering.TheVariants.{Less, Equal, Greater}
use Rattle.std.specs.Ordering.{nat_cmp, ordering_then, is_eq, is_gt, is_lt}
use Rattle.std.specs.Cmp.{IsTotalOrder, Equal-is, nat_cmp_total, on_total, then_total, tied_itself}
use Rattle.std.proofs.lemmas.Bool.{and_parts, and_from, eqb-true, eq-eqb, ne_eqb, leb-true, le-leb, ltb-true, lt-ltb, le-ltb, cases_order}
use Rattle.std.proofs.lemmas.Map.Lookups.{exact_unsigned}
use Rattle.std.proofs.lemmas.Map.Keys.{le_from_not_gt, ge_from_not_lt}
use Rattle.st_base.specs.declared.ids.FileId.{FileId}
use Rattle.st_base.specs.declared.ids.PageNo.{PageNo}
use Rattle.st_rules.specs.declared.extents.Extent.{Extent}
use Rattle.st_rules.specs.Keys.{same_file, same_page}
use Rattle.st_rules.specs.Extents.{is_extent_of}
use Rattle.st_extents.specs.declared.run_map.Run.{Run}
use Rattle.st_extents.specs.Runs.{RunKey, file_of, goes_on, has_birth, has_page, reaches, run_order, same_start, share_page}

pub order_total : IsTotalOrder run_order
order_total = then_total (then_total (on_total (λ (k : RunKey). k.0.server.0) nat_cmp_total) (on_total (λ (k : RunKey). k.0.ino) nat_cmp_total)) (on_total (λ (k : RunKey). k.1.0) nat_cmp_total)

then_equal : (o p : Ordering) → is_eq (ordering_then o p) ≡ true → (is_eq o ≡ true) × (is_eq p ≡ true)
then_equal Less p h = absurd (true≢false (sym h))
then_equal Equal p h = (refl, h)
then_equal Greater p h = absurd (true≢false (sym h))

number_equal : (a b : ℕ) → is_eq (nat_cmp a b) ≡ true → a ≡ b
number_equal a b h = exact_unsigned a b ((Equal-is (nat_cmp a b)).0 h)

-- one key
pub same_true : (a b : RunKey) → same_start a b ≡ true → a ≡ b
same_true a b h =
    let p = then_equal (ordering_then (nat_cmp a.0.server.0 b.0.server.0) (nat_cmp a.0.ino b.0.ino)) (nat_cmp a.1.0 b.1.0) h in
    let q = then_equal (nat_cmp a.0.server.0 b.0.server.0) (nat_cmp a.0.ino b.0.ino) p.0 in
    (λ i. (record { server = record { 0 = number_equal a.0.server.0 b.0.server.0 q.0 i }; ino = number_equal a.0.ino b.0.ino q.1 i }, record { 0 = number_equal a.1.0 b.1.0 p.1 i }))

pub same_self : (a : RunKey) → same_start a a ≡ true
same_self a = ap is_eq (tied_itself order_total a)

-- Keys between two of one file.

cmp_equal : (a b : ℕ) → a ≡ b → nat_cmp a b ≡ Equal
cmp_equal a b e = rw (le-ltb a b (omega (arith, e)), eq-eqb a b e) refl

cmp_greater : (a b : ℕ) → b < a → nat_cmp a b ≡ Greater
cmp_greater a b l = rw (le-ltb a b (omega (arith, l)), ne_eqb a b (λ (e : a ≡ b). omega (arith, e, l))) refl

cmp_less : (a b : ℕ) → a < b → nat_cmp a b ≡ Less
cmp_less a b l = rw (lt-ltb a b l) refl

not_greater : (a b : ℕ) → a ≤ b → is_gt (nat_cmp a b) ≡ false
not_greater a b l =
    ⊎_elim (λ e. ap is_gt (cmp_equal a b e))
    (λ o. ⊎_elim (λ m. ap is_gt (cmp_less a b m)) (λ m. absurd (omega (arith, l, m))) o)
    (cases_order a b)

then_up_to : (a b : ℕ) (o : Ordering) → is_gt (ordering_then (nat_cmp a b) o) ≡ false → (a < b) ⊎ ((a ≡ b) × (is_gt o ≡ false))
then_up_to a b o h =
    ⊎_elim (λ e. inr (e, sym (ap (λ c. is_gt (ordering_then c o)) (cmp_equal a b e)) ∙ h))
    (λ c. ⊎_elim (λ l. inl l) (λ l. absurd (true≢false (sym (ap (λ c. is_gt (ordering_then c o)) (cmp_greater a b l)) ∙ h))) c)
    (cases_order a b)

both_up_to : (a b : ℕ) (o p : Ordering) → is_gt (ordering_then (nat_cmp a b) o) ≡ false → is_gt (ordering_then (nat_cmp b a) p) ≡ false → (b ≡ a) × ((is_gt o ≡ false) × (is_gt p ≡ false))
both_up_to a b o p h k =
    ⊎_elim
    (λ l. ⊎_elim (λ m. absurd (omega (arith, l, m))) (λ m. absurd (omega (arith, l, m.0))) (then_up_to b a p k))
    (λ e. ⊎_elim (λ m. absurd (omega (arith, e.0, m))) (λ m. (m.0, (e.1, m.1))) (then_up_to b a p k))
    (then_up_to a b o h)

-- three orders one after another
then_then : (o p q : Ordering) → ordering_then (ordering_then o p) q ≡ ordering_then o (ordering_then p q)
then_then Less p q = refl
then_then Equal p q = refl
then_then Greater p q = refl

-- a key between two of one file is of that file
pub in_file : (f : FileId) (p : ℕ) (q : RunKey) → is_gt (run_order (f, record { 0 = 0 }) q) ≡ false → is_gt (run_order q (f, record { 0 = p })) ≡ false → (q.0.server.0 ≡ f.server.0) × ((q.0.ino ≡ f.ino) × (q.1.0 ≤ p))
in_file f p q h k =
    let low = sym (ap is_gt (then_then (nat_cmp f.server.0 q.0.server.0) (nat_cmp f.ino q.0.ino) (nat_cmp 0 q.1.0))) ∙ h in
    let high = sym (ap is_gt (then_then (nat_cmp q.0.server.0 f.server.0) (nat_cmp q.0.ino f.ino) (nat_cmp q.1.0 p))) ∙ k in
    let a = both_up_to f.server.0 q.0.server.0 (ordering_then (nat_cmp f.ino q.0.ino) (nat_cmp 0 q.1.0)) (ordering_then (nat_cmp q.0.ino f.ino) (nat_cmp q.1.0 p)) low high in
    let b = both_up_to f.ino q.0.ino (nat_cmp 0 q.1.0) (nat_cmp q.1.0 p) a.1.0 a.1.1 in
    (a.0, (b.0, le_from_not_gt q.1.0 p b.1.1))

one_file : (a b : RunKey) → file_of a ≡ file_of b → run_order a b ≡ nat_cmp a.1.0 b.1.0
one_file a b e =
    (λ i. ordering_then (ordering_then (cmp_equal a.0.server.0 b.0.server.0 (ap (λ (f : FileId). f.server.0) e) i) (cmp_equal a.0.ino b.0.ino (ap (λ (f : FileId). f.ino) e) i)) (nat_cmp a.1.0 b.1.0))

pub up_to : (a b : RunKey) → file_of a ≡ file_of b → a.1.0 ≤ b.1.0 → is_gt (run_order a b) ≡ false
up_to a b e l = ap is_gt (one_file a b e) ∙ not_greater a.1.0 b.1.0 l

pub not_below : (a b : RunKey) → file_of a ≡ file_of b → is_lt (run_order a b) ≡ false → b.1.0 ≤ a.1.0
not_below a b e h = ge_from_not_lt a.1.0 b.1.0 (sym (ap is_lt (one_file a b e)) ∙ h)

-- Tests as facts.

pub file_is : (f g : FileId) → same_file f g ≡ true → f ≡ g
file_is f g h =
    let p = and_parts (f.server.0 == g.server.0) (f.ino == g.ino) h in
    (λ i. record { server = record { 0 = eqb-true f.server.0 g.server.0 p.0 i }; ino = eqb-true f.ino g.ino p.1 i })

pub is_file : (f g : FileId) → f ≡ g → same_file f g ≡ true
is_file f g e = and_from (f.server.0 == g.server.0) (f.ino == g.ino) (eq-eqb f.server.0 g.server.0 (ap (λ (x : FileId). x.server.0) e)) (eq-eqb f.ino g.ino (ap (λ (x : FileId). x.ino) e))

pub page_of : (f : FileId) (p : PageNo) (e : Extent) → is_extent_of f p e ≡ true → (e.file ≡ f) × (e.page.0 ≡ p.0)
page_of f p e h =
    let q = and_parts (same_file e.file f) (same_page e.page p) h in
    (file_is e.file f q.0, eqb-true e.page.0 p.0 q.1)

pub of_page : (f : FileId) (p : PageNo) (e : Extent) → e.file ≡ f → e.page.0 ≡ p.0 → is_extent_of f p e ≡ true
of_page f p e a b = and_from (same_file e.file f) (same_page e.page p) (is_file e.file f a) (eq-eqb e.page.0 p.0 b)

pub birth_in : (b : ℕ) (e : RunKey × Run) → has_birth b e ≡ true → (e.1.birth ≤ b) × (b < e.1.birth + e.1.length)
birth_in b e h =
    let q = and_parts (nat_le e.1.birth b) (nat_lt b (e.1.birth + e.1.length)) h in
    (leb-true e.1.birth b q.0, ltb-true b (e.1.birth + e.1.length) q.1)

pub in_birth : (b : ℕ) (e : RunKey × Run) → e.1.birth ≤ b → b < e.1.birth + e.1.length → has_birth b e ≡ true
in_birth b e l m = and_from (nat_le e.1.birth b) (nat_lt b (e.1.birth + e.1.length)) (le-leb e.1.birth b l) (lt-ltb b (e.1.birth + e.1.length) m)

pub page_in : (f : FileId) (p : PageNo) (e : RunKey × Run) → has_page f p e ≡ true → (file_of e.0 ≡ f) × ((e.0.1.0 ≤ p.0) × (p.0 < e.0.1.0 + e.1.length))
page_in f p e h =
    let q = and_parts (same_file (file_of e.0) f) (nat_le e.0.1.0 p.0 && nat_lt p.0 (e.0.1.0 + e.1.length)) h in
    let r = and_parts (nat_le e.0.1.0 p.0) (nat_lt p.0 (e.0.1.0 + e.1.length)) q.1 in
    (file_is (file_of e.0) f q.0, (leb-true e.0.1.0 p.0 r.0, ltb-true p.0 (e.0.1.0 + e.1.length) r.1))

pub in_page : (f : FileId) (p : PageNo) (e : RunKey × Run) → file_of e.0 ≡ f → e.0.1.0 ≤ p.0 → p.0 < e.0.1.0 + e.1.length → has_page f p e ≡ true
in_page f p e a l m =
    and_from (same_file (file_of e.0) f) (nat_le e.0.1.0 p.0 && nat_lt p.0 (e.0.1.0 + e.1.length)) (is_file (file_of e.0) f a)
    (and_from (nat_le e.0.1.0 p.0) (nat_lt p.0 (e.0.1.0 + e.1.length)) (le-leb e.0.1.0 p.0 l) (lt-ltb p.0 (e.0.1.0 + e.1.length) m))

pub shared : (a b : RunKey × Run) → share_page a b ≡ true → (file_of a.0 ≡ file_of b.0) × ((a.0.1.0 < b.0.1.0 + b.1.length) × (b.0.1.0 < a.0.1.0 + a.1.length))
shared a b h =
    let q = and_parts (same_file (file_of a.0) (file_of b.0)) (nat_lt a.0.1.0 (b.0.1.0 + b.1.length) && nat_lt b.0.1.0 (a.0.1.0 + a.1.length)) h in
    let r = and_parts (nat_lt a.0.1.0 (b.0.1.0 + b.1.length)) (nat_lt b.0.1.0 (a.0.1.0 + a.1.length)) q.1 in
    (file_is (file_of a.0) (file_of b.0) q.0, (ltb-true a.0.1.0 (b.0.1.0 + b.1.length) r.0, ltb-true b.0.1.0 (a.0.1.0 + a.1.length) r.1))

pub share : (a b : RunKey × Run) → file_of a.0 ≡ file_of b.0 → a.0.1.0 < b.0.1.0 + b.1.length → b.0.1.0 < a.0.1.0 + a.1.length → share_page a b ≡ true
share a b e l m =
    and_from (same_file (file_of a.0) (file_of b.0)) (nat_lt a.0.1.0 (b.0.1.0 + b.1.length) && nat_lt b.0.1.0 (a.0.1.0 + a.1.length)) (is_file (file_of a.0) (file_of b.0) e)
    (and_from (nat_lt a.0.1.0 (b.0.1.0 + b.1.length)) (nat_lt b.0.1.0 (a.0.1.0 + a.1.length)) (lt-ltb a.0.1.0 (b.0.1.0 + b.1.length) l) (lt-ltb b.0.1.0 (a.0.1.0 + a.1.length) m))

-- what it is that a run goes on
pub record GoesOn (a b : RunKey × Run) : Type 0 where
  pub file : file_of a.0 ≡ file_of b.0
  pub page : a.0.1.0 + a.1.length ≡ b.0.1.0
  pub disk : a.1.at.disk.0 ≡ b.1.at.disk.0
  pub block : a.1.at.block + a.1.length ≡ b.1.at.block
  pub birth : a.1.birth + a.1.length ≡ b.1.birth

pub goes : (a b : RunKey × Run) → goes_on a b ≡ true → GoesOn a b
goes a b h =
    let p = and_parts (same_file (file_of a.0) (file_of b.0)) ((a.0.1.0 + a.1.length == b.0.1.0) && (reaches a.1.at a.1.length b.1.at && (a.1.birth + a.1.length == b.1.birth))) h in
    let q = and_parts (a.0.1.0 + a.1.length == b.0.1.0) (reaches a.1.at a.1.length b.1.at && (a.1.birth + a.1.length == b.1.birth)) p.1 in
    let r = and_parts (reaches a.1.at a.1.length b.1.at) (a.1.birth + a.1.length == b.1.birth) q.1 in
    let s = and_parts (a.1.at.disk.0 == b.1.at.disk.0) (a.1.at.block + a.1.length == b.1.at.block) r.0 in
    record {
      file = file_is (file_of a.0) (file_of b.0) p.0;
      page = eqb-true (a.0.1.0 + a.1.length) b.0.1.0 q.0;
      disk = eqb-true a.1.at.disk.0 b.1.at.disk.0 s.0;
      block = eqb-true (a.1.at.block + a.1.length) b.1.at.block s.1;
      birth = eqb-true (a.1.birth + a.1.length) b.1.birth r.1;
    }

pub on : (a b : RunKey × Run) → GoesOn a b → goes_on a b ≡ true
on a b g =
    and_from (same_file (file_of a.0) (file_of b.0)) ((a.0.1.0 + a.1.length == b.0.1.0) && (reaches a.1.at a.1.length b.1.at && (a.1.birth + a.1.length == b.1.birth))) (is_file (file_of a.0) (file_of b.0) g.file)
    (and_from (a.0.1.0 + a.1.length == b.0.1.0) (reaches a.1.at a.1.length b.1.at && (a.1.birth + a.1.length == b.1.birth)) (eq-eqb (a.0.1.0 + a.1.length) b.0.1.0 g.page)
    (and_from (reaches a.1.at a.1.length b.1.at) (a.1.birth + a.1.length == b.1.birth)
    (and_from (a.1.at.disk.0 == b.1.at.disk.0) (a.1.at.block + a.1.length == b.1.at.block) (eq-eqb a.1.at.disk.0 b.1.at.disk.0 g.disk) (eq-eqb (a.1.at.block + a.1.length) b.1.at.block g.block))
    (eq-eqb (a.1.birth + a.1.length) b.1.birth g.birth)))

-- Keys of one file up to a page.
module _ (f : FileId) (p : ℕ) (a b : RunKey) (first : a ≡ (f, record { 0 = 0 })) (last : b ≡ (f, record { 0 = p })) where
  pub between : (k : RunKey) → file_of k ≡ f → k.1.0 ≤ p → (is_gt (run_order a k) ≡ false) × (is_gt (run_order k b) ≡ false)
  between k e l = (
    ap (λ s. is_gt (run_order s k)) first ∙ up_to (f, record { 0 = 0 }) k (sym e) (omega arith),
    ap (λ s. is_gt (run_order k s)) last ∙ up_to k (f, record { 0 = p }) e l,
  )

  pub last_between : (e k : RunKey) → is_gt (run_order a e) ≡ false → is_gt (run_order e b) ≡ false → is_lt (run_order e k) ≡ false → file_of k ≡ f → k.1.0 ≤ e.1.0
  last_between e k g h n s =
      let q = in_file f p e (sym (ap (λ s. is_gt (run_order s e)) first) ∙ g) (sym (ap (λ s. is_gt (run_order e s)) last) ∙ h) in
      let file : file_of e ≡ f = (λ i. record { server = record { 0 = q.0 i }; ino = q.1.0 i }) in
      not_below e k (file ∙ sym s) n
