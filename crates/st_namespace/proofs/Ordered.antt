-- The order of names, and rows in the order of their names.
use Rattle.std.proofs.Common.{◌≡◌, ℕ, ◌<◌, Bool, true, false, List, [], ◌∷◌, arith, refl, sym, ap, ◌∙◌, ◌⊎◌, inl, inr, ⊎_elim, true≢false}
use Rattle.std.specs.Prelude.{◌&&◌, ◌||◌, ◌==◌, not, bytes_eq}
use Rattle.std.specs.List.{AllByRecursion, list_any}
use Rattle.std.proofs.lemmas.Slice.Eq.{bytes_eq-Decides}
use Rattle.std.proofs.lemmas.Bool.{cases_Bool, cases_eq, eq-eqb, eqb-true, or_parts, ne_eqb, ltb-true, ltb-false, lt-ltb, le-ltb}
use Rattle.st_base.specs.declared.names.NameRow.{NameRow}
use Rattle.st_rules.specs.Names.{by_name, name_below, byte_below, with_name_row, row_placed}

-- Two bytes and what comes after them.
pub byte_cases : (x y : ℕ) (r : Bool) → byte_below x y r ≡ true → ((x ≡ y) × (r ≡ true)) ⊎ (x < y)
unfolding byte_below
byte_cases x y r h = ⊎_elim
    (λ (e : x ≡ y). inl (e, rw (eq-eqb x y e) at h))
    (λ n. inr (ltb-true x y (rw (ne_eqb x y n) at h)))
    (cases_eq x y)

pub byte_not : (x y : ℕ) (r : Bool) → byte_below x y r ≡ false → ((x ≡ y) × (r ≡ false)) ⊎ (y < x)
unfolding byte_below
byte_not x y r h = ⊎_elim
    (λ (e : x ≡ y). inl (e, rw (eq-eqb x y e) at h))
    (λ n. inr (omega (arith, ltb-false x y (rw (ne_eqb x y n) at h), n)))
    (cases_eq x y)

pub byte_same : (x y : ℕ) (r : Bool) → x ≡ y → byte_below x y r ≡ r
unfolding byte_below
byte_same x y r e = rw (eq-eqb x y e) refl

pub byte_less : (x y : ℕ) (r : Bool) → x < y → byte_below x y r ≡ true
unfolding byte_below
byte_less x y r l = rw (ne_eqb x y (λ (e : x ≡ y). omega (arith, e, l)), lt-ltb x y l) refl

byte_more : (x y : ℕ) (r : Bool) → y < x → byte_below x y r ≡ false
unfolding byte_below
byte_more x y r l = rw (ne_eqb x y (λ (e : x ≡ y). omega (arith, e, l)), le-ltb x y (omega (arith, l))) refl

-- a name below one that is not above a third is below the third
pub below_not : (a b c : List ℕ) → name_below a b ≡ true → name_below c b ≡ false → name_below a c ≡ true
unfolding name_below
below_not [] [] c h k = absurd (true≢false (sym h))
below_not [] (y ∷ b) [] h k = absurd (true≢false k)
below_not [] (y ∷ b) (z ∷ c) h k = refl
below_not (x ∷ a) [] c h k = absurd (true≢false (sym h))
below_not (x ∷ a) (y ∷ b) [] h k = absurd (true≢false k)
below_not (x ∷ a) (y ∷ b) (z ∷ c) h k = ⊎_elim
    (λ (p : (x ≡ y) × (name_below a b ≡ true)). ⊎_elim
    (λ (q : (z ≡ y) × (name_below c b ≡ false)). byte_same x z (name_below a c) (p.0 ∙ sym q.0) ∙ below_not a b c p.1 q.1)
    (λ (q : y < z). byte_less x z (name_below a c) (omega (arith, p.0, q)))
    (byte_not z y (name_below c b) k))
    (λ (p : x < y). ⊎_elim
    (λ (q : (z ≡ y) × (name_below c b ≡ false)). byte_less x z (name_below a c) (omega (arith, p, q.0)))
    (λ (q : y < z). byte_less x z (name_below a c) (omega (arith, p, q)))
    (byte_not z y (name_below c b) k))
    (byte_cases x y (name_below a b) h)

pub below_anti : (a b : List ℕ) → name_below a b ≡ true → name_below b a ≡ false
unfolding name_below
below_anti [] [] h = refl
below_anti [] (y ∷ b) h = refl
below_anti (x ∷ a) [] h = absurd (true≢false (sym h))
below_anti (x ∷ a) (y ∷ b) h = ⊎_elim
    (λ (p : (x ≡ y) × (name_below a b ≡ true)). byte_same y x (name_below b a) (sym p.0) ∙ below_anti a b p.1)
    (λ (p : x < y). byte_more y x (name_below b a) p)
    (byte_cases x y (name_below a b) h)

pub below_itself : (a : List ℕ) → name_below a a ≡ false
unfolding name_below
below_itself [] = refl
below_itself (x ∷ a) = byte_same x x (name_below a a) refl ∙ below_itself a

pub below_trans : (a b c : List ℕ) → name_below a b ≡ true → name_below b c ≡ true → name_below a c ≡ true
below_trans a b c h k = below_not a b c h (below_anti b c k)

-- of two names that differ one is below the other
pub below_same : (a b : List ℕ) → name_below a b ≡ false → name_below b a ≡ false → a ≡ b
unfolding name_below
below_same [] [] h k = refl
below_same [] (y ∷ b) h k = absurd (true≢false h)
below_same (x ∷ a) [] h k = absurd (true≢false k)
below_same (x ∷ a) (y ∷ b) h k = ⊎_elim
    (λ (p : (x ≡ y) × (name_below a b ≡ false)). ⊎_elim
    (λ (q : (y ≡ x) × (name_below b a ≡ false)). (λ i. p.0 i ∷ below_same a b p.1 q.1 i))
    (λ (q : x < y). absurd (omega (arith, p.0, q)))
    (byte_not y x (name_below b a) k))
    (λ (p : y < x). ⊎_elim
    (λ (q : (y ≡ x) × (name_below b a ≡ false)). absurd (omega (arith, p, q.0)))
    (λ (q : x < y). absurd (omega (arith, p, q)))
    (byte_not y x (name_below b a) k))
    (byte_not x y (name_below a b) h)

-- Rows by rising name.

-- each row has a name below those of the later ones
abbrev pub AreRising : List NameRow → Type 0
AreRising [] = Unit {0}
AreRising (r ∷ rows) = AllByRecursion (λ s. name_below r.name s.name ≡ true) rows × AreRising rows

every_placed : (P : NameRow → Type 0) (r : NameRow) (xs : List NameRow) → P r → AllByRecursion P xs → AllByRecursion P (with_name_row r xs)
unfolding with_name_row row_placed
every_placed P r [] p a = (p, tt)
every_placed P r (x ∷ xs) p a = ⊎_elim
    (λ t. rw t (p, a))
    (λ f. rw f (a.0, every_placed P r xs p a.1))
    (cases_Bool (name_below r.name x.name))

below_all : (r x : NameRow) (xs : List NameRow) → name_below r.name x.name ≡ true → AllByRecursion (λ s. name_below x.name s.name ≡ true) xs → AllByRecursion (λ s. name_below r.name s.name ≡ true) xs
below_all r x [] h a = tt
below_all r x (s ∷ xs) h a = (below_trans r.name x.name s.name h a.0, below_all r x xs h a.1)

-- a row with another name is placed
rising_placed : (r : NameRow) (xs : List NameRow) → AreRising xs → AllByRecursion (λ (s : NameRow). s.name ≡ r.name → ⊥) xs → AreRising (with_name_row r xs)
unfolding with_name_row row_placed
rising_placed r [] o n = (tt, tt)
rising_placed r (x ∷ xs) o n = ⊎_elim
    (λ t. rw t ((t, below_all r x xs t o.0), o))
    (λ f.
    let up : name_below x.name r.name ≡ true = ⊎_elim (λ t. t) (λ g. absurd (n.0 (below_same x.name r.name g f))) (cases_Bool (name_below x.name r.name)) in
    rw f (every_placed (λ s. name_below x.name s.name ≡ true) r xs up o.0, rising_placed r xs o.1 n.1))
    (cases_Bool (name_below r.name x.name))

-- rows whose names differ
abbrev pub AreApart : List NameRow → Type 0
AreApart [] = Unit {0}
AreApart (r ∷ rows) = AllByRecursion (λ (s : NameRow). s.name ≡ r.name → ⊥) rows × AreApart rows

every_sorted : (P : NameRow → Type 0) (rows : List NameRow) → AllByRecursion P rows → AllByRecursion P (by_name rows)
unfolding by_name
every_sorted P [] a = tt
every_sorted P (r ∷ rows) a = every_placed P r (by_name rows) a.0 (every_sorted P rows a.1)

pub sorted_rises : (rows : List NameRow) → AreApart rows → AreRising (by_name rows)
unfolding by_name
sorted_rises [] a = tt
sorted_rises (r ∷ rows) a = rising_placed r (by_name rows) (sorted_rises rows a.1) (every_sorted (λ (s : NameRow). s.name ≡ r.name → ⊥) rows a.0)

or_turn : (a b c : Bool) → (a || (b || c)) ≡ (b || (a || c))
or_turn true true c = refl
or_turn true false c = refl
or_turn false true c = refl
or_turn false false c = refl

any_placed : (p : NameRow → Bool) (r : NameRow) (xs : List NameRow) → list_any p (with_name_row r xs) ≡ (p r || list_any p xs)
unfolding with_name_row row_placed
any_placed p r [] = refl
any_placed p r (x ∷ xs) = ⊎_elim
    (λ t. rw t refl)
    (λ f. rw f (ap (λ b. p x || b) (any_placed p r xs) ∙ or_turn (p x) (p r) (list_any p xs)))
    (cases_Bool (name_below r.name x.name))

pub any_sorted : (p : NameRow → Bool) (rows : List NameRow) → list_any p (by_name rows) ≡ list_any p rows
unfolding by_name
any_sorted p [] = refl
any_sorted p (r ∷ rows) = any_placed p r (by_name rows) ∙ ap (λ b. p r || b) (any_sorted p rows)

-- Two rising lists of the same rows are the same.

abbrev named : List ℕ → NameRow → Bool
named name r = bytes_eq r.name name

named_is : (name : List ℕ) (r : NameRow) → r.name ≡ name → named name r ≡ true
named_is name r e = (bytes_eq-Decides r.name name).1 e

none_named : (x : NameRow) (g : NameRow → Bool) (xs : List NameRow) → AllByRecursion (λ s. name_below x.name s.name ≡ true) xs → list_any (λ r. named x.name r && g r) xs ≡ false
none_named x g [] a = refl
none_named x g (s ∷ xs) a =
    let other : named x.name s ≡ false = ⊎_elim (λ t. absurd (true≢false (sym a.0 ∙ ap (name_below x.name) ((bytes_eq-Decides s.name x.name).0 t) ∙ below_itself x.name))) (λ f. f) (cases_Bool (named x.name s)) in
    (λ i. (other i && g s) || none_named x g xs a.1 i)

no_end : (b : Bool) → (b || false) ≡ b
no_end true = refl
no_end false = refl

-- what a row at the head passes, all rows of its name pass
head_passes : (x : NameRow) (g : NameRow → Bool) (xs : List NameRow) → AllByRecursion (λ s. name_below x.name s.name ≡ true) xs → list_any (λ r. named x.name r && g r) (x ∷ xs) ≡ g x
head_passes x g xs a = (λ i. (named_is x.name x refl i && g x) || none_named x g xs a i) ∙ no_end (g x)

others_named : (x : NameRow) (p : NameRow → Bool) (xs : List NameRow) → AllByRecursion (λ s. name_below x.name s.name ≡ true) xs → list_any (λ r. not (named x.name r) && p r) xs ≡ list_any p xs
others_named x p [] a = refl
others_named x p (s ∷ xs) a =
    let other : named x.name s ≡ false = ⊎_elim (λ t. absurd (true≢false (sym a.0 ∙ ap (name_below x.name) ((bytes_eq-Decides s.name x.name).0 t) ∙ below_itself x.name))) (λ f. f) (cases_Bool (named x.name s)) in
    (λ i. (not (other i) && p s) || others_named x p xs a.1 i)

tail_passes : (x : NameRow) (p : NameRow → Bool) (xs : List NameRow) → AllByRecursion (λ s. name_below x.name s.name ≡ true) xs → list_any (λ r. not (named x.name r) && p r) (x ∷ xs) ≡ list_any p xs
tail_passes x p xs a = (λ i. (not (named_is x.name x refl i) && p x) || others_named x p xs a i)

none_below : (x : NameRow) (xs : List NameRow) → AllByRecursion (λ s. name_below x.name s.name ≡ true) xs → list_any (λ r. name_below r.name x.name) (x ∷ xs) ≡ false
none_below x xs a = (λ i. below_itself x.name i || later xs a i)
  where
    later : (ys : List NameRow) → AllByRecursion (λ s. name_below x.name s.name ≡ true) ys → list_any (λ r. name_below r.name x.name) ys ≡ false
    later [] b = refl
    later (y ∷ ys) b = (λ i. below_anti x.name y.name b.0 i || later ys b.1 i)

pub one_rising : (xs ys : List NameRow) → AreRising xs → AreRising ys → ((p : NameRow → Bool) → list_any p xs ≡ list_any p ys) → xs ≡ ys
one_rising [] [] a b h = refl
one_rising [] (y ∷ ys) a b h = absurd (true≢false (sym (h (λ r. true))))
one_rising (x ∷ xs) [] a b h = absurd (true≢false (h (λ r. true)))
one_rising (x ∷ xs) (y ∷ ys) a b h =
    let below_x : name_below y.name x.name ≡ false = (or_parts (name_below y.name x.name) (list_any (λ r. name_below r.name x.name) ys) (sym (h (λ r. name_below r.name x.name)) ∙ none_below x xs a.0)).0 in
    let below_y : name_below x.name y.name ≡ false = (or_parts (name_below x.name y.name) (list_any (λ r. name_below r.name y.name) xs) (h (λ r. name_below r.name y.name) ∙ none_below y ys b.0)).0 in
    let name : x.name ≡ y.name = below_same x.name y.name below_y below_x in
    let both : (g : NameRow → Bool) → g x ≡ g y = λ g. sym (head_passes x g xs a.0) ∙ h (λ r. named x.name r && g r) ∙ (λ i. list_any (λ r. named (name i) r && g r) (y ∷ ys)) ∙ head_passes y g ys b.0 in
    let ino : x.ino ≡ y.ino = sym (eqb-true y.ino x.ino (sym (both (λ r. r.ino == x.ino)) ∙ eq-eqb x.ino x.ino refl)) in
    let mark : x.directory ≡ y.directory = both (λ r. r.directory) in
    let tails : (p : NameRow → Bool) → list_any p xs ≡ list_any p ys = λ p. sym (tail_passes x p xs a.0) ∙ h (λ r. not (named x.name r) && p r) ∙ (λ i. list_any (λ r. not (named (name i) r) && p r) (y ∷ ys)) ∙ tail_passes y p ys b.0 in
    let rest : xs ≡ ys = one_rising xs ys a.1 b.1 tails in
    (λ i. record { ino = ino i; directory = mark i; name = name i } ∷ rest i)
