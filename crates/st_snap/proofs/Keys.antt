-- The order of the keys of versions.
use Rattle.st_lemmas.proofs.Words
use Words.{◌≡◌, ℕ, ◌<◌, true, false, arith, refl, sym, ap, ◌∙◌, ⊎_elim, inl, inr, true≢false, ◌⊎◌, eq-eqb, ne_eqb, lt-ltb, le-ltb, cases_order}
use Words.{false_from_ne_true}
use Rattle.std.specs.declared.cmp.Ordering.{Ordering}
use Rattle.std.specs.declared.cmp.Ordering.TheVariants.{Less, Equal, Greater}
use Rattle.std.specs.Ordering.{nat_cmp, ordering_then, is_eq, is_lt}
use Rattle.std.specs.Cmp.{IsTotalOrder, Equal-is, nat_cmp_total, on_total, then_total, tied_itself}
use Rattle.std.proofs.lemmas.Map.Lookups.{exact_unsigned}
use Rattle.st_snap.specs.declared.versions.VersionKey.{VersionKey}
use Rattle.st_snap.specs.Versions.{key_order, same_key}

pub order_total : IsTotalOrder key_order
order_total = then_total (on_total (λ (k : VersionKey). k.file) nat_cmp_total) (then_total (on_total (λ (k : VersionKey). k.page) nat_cmp_total) (on_total (λ (k : VersionKey). k.takes) nat_cmp_total))

then_equal : (o p : Ordering) → is_eq (ordering_then o p) ≡ true → (is_eq o ≡ true) × (is_eq p ≡ true)
then_equal Less p h = absurd (true≢false (sym h))
then_equal Equal p h = (refl, h)
then_equal Greater p h = absurd (true≢false (sym h))

number_equal : (a b : ℕ) → is_eq (nat_cmp a b) ≡ true → a ≡ b
number_equal a b h = exact_unsigned a b ((Equal-is (nat_cmp a b)).0 h)

-- one key
pub same_true : (a b : VersionKey) → same_key a b ≡ true → a ≡ b
same_true a b h =
    let p = then_equal (nat_cmp a.file b.file) (ordering_then (nat_cmp a.page b.page) (nat_cmp a.takes b.takes)) h in
    let q = then_equal (nat_cmp a.page b.page) (nat_cmp a.takes b.takes) p.1 in
    (λ i. record { file = number_equal a.file b.file p.0 i; page = number_equal a.page b.page q.0 i; takes = number_equal a.takes b.takes q.1 i })

pub same_self : (a : VersionKey) → same_key a a ≡ true
same_self a = ap is_eq (tied_itself order_total a)

pub same_from : (a b : VersionKey) → a ≡ b → same_key a b ≡ true
same_from a b e = ap (same_key a) (sym e) ∙ same_self a

pub same_false : (a b : VersionKey) → (a ≡ b → ⊥) → same_key a b ≡ false
same_false a b h = false_from_ne_true (same_key a b) (λ t. h (same_true a b t))

cmp_equal : (a b : ℕ) → a ≡ b → nat_cmp a b ≡ Equal
cmp_equal a b e = rw (le-ltb a b (omega (arith, e)), eq-eqb a b e) refl

cmp_greater : (a b : ℕ) → b < a → nat_cmp a b ≡ Greater
cmp_greater a b l = rw (le-ltb a b (omega (arith, l)), ne_eqb a b (λ (e : a ≡ b). omega (arith, e, l))) refl

cmp_less : (a b : ℕ) → a < b → nat_cmp a b ≡ Less
cmp_less a b l = rw (lt-ltb a b l) refl

-- a number is less, or the rest decides
then_less : (a b : ℕ) (o : Ordering) → is_lt (ordering_then (nat_cmp a b) o) ≡ true → (a < b) ⊎ ((a ≡ b) × (is_lt o ≡ true))
then_less a b o h =
    ⊎_elim (λ e. inr (e, sym (ap (λ c. is_lt (ordering_then c o)) (cmp_equal a b e)) ∙ h))
    (λ c. ⊎_elim (λ l. inl l) (λ l. absurd (true≢false (sym (sym (ap (λ c. is_lt (ordering_then c o)) (cmp_greater a b l)) ∙ h)))) c)
    (cases_order a b)

less_then : (a b : ℕ) (o : Ordering) → a < b → is_lt (ordering_then (nat_cmp a b) o) ≡ true
less_then a b o l = ap (λ c. is_lt (ordering_then c o)) (cmp_less a b l)

equal_then : (a b : ℕ) (o : Ordering) → a ≡ b → is_lt (ordering_then (nat_cmp a b) o) ≡ is_lt o
equal_then a b o e = ap (λ c. is_lt (ordering_then c o)) (cmp_equal a b e)

-- how one key comes before another
abbrev pub Before : VersionKey → VersionKey → Type 0
Before a b = (a.file < b.file) ⊎ ((a.file ≡ b.file) × ((a.page < b.page) ⊎ ((a.page ≡ b.page) × (a.takes < b.takes))))

last_less : (a b : ℕ) → is_lt (nat_cmp a b) ≡ true → a < b
last_less a b h =
    ⊎_elim (λ e. absurd (true≢false (sym (sym (ap is_lt (cmp_equal a b e)) ∙ h))))
    (λ c. ⊎_elim (λ l. l) (λ l. absurd (true≢false (sym (sym (ap is_lt (cmp_greater a b l)) ∙ h)))) c)
    (cases_order a b)

pub before_is : (a b : VersionKey) → is_lt (key_order a b) ≡ true → Before a b
before_is a b h = ⊎_elim
    (λ l. inl l)
    (λ e. inr (e.0, ⊎_elim (λ l. inl l) (λ d. inr (d.0, last_less a.takes b.takes d.1)) (then_less a.page b.page (nat_cmp a.takes b.takes) e.1)))
    (then_less a.file b.file (ordering_then (nat_cmp a.page b.page) (nat_cmp a.takes b.takes)) h)

pub is_before : (a b : VersionKey) → Before a b → is_lt (key_order a b) ≡ true
is_before a b h = ⊎_elim
    (λ l. less_then a.file b.file (ordering_then (nat_cmp a.page b.page) (nat_cmp a.takes b.takes)) l)
    (λ e. equal_then a.file b.file (ordering_then (nat_cmp a.page b.page) (nat_cmp a.takes b.takes)) e.0 ∙ ⊎_elim
    (λ l. less_then a.page b.page (nat_cmp a.takes b.takes) l)
    (λ d. equal_then a.page b.page (nat_cmp a.takes b.takes) d.0 ∙ ap is_lt (cmp_less a.takes b.takes d.1))
    e.1)
    h

pub not_before : (a b : VersionKey) → is_lt (key_order a b) ≡ false → Before a b → ⊥
not_before a b h l = true≢false (sym (is_before a b l) ∙ h)
