-- Entries by directory and name: a place is found by halves.
use Rattle.std.proofs.Common.{◌≡◌, ℕ, zero, suc, ◌+◌, ◌<◌, ◌≤◌, Bool, true, false, List, [], ◌∷◌, length, get_or, arith, refl, sym, ap, ◌∙◌, ⊎_elim, true≢false}
use Rattle.std.proofs.lemmas.List.{get_or_default}
use Rattle.std.specs.Prelude.{◌==◌, bytes_eq}
use Rattle.std.specs.List.{AllByRecursion, list_any}
use Rattle.std.proofs.lemmas.Slice.Eq.{bytes_eq-Decides}
use Rattle.std.proofs.lemmas.List.Folds.{list_any_at}
use Rattle.std.proofs.lemmas.Bool.{and_from, and_parts, cases_Bool, cases_eq, cases_order, eq-eqb, eqb-false, eqb-true, ne_eqb}
use Rattle.st_rules.specs.declared.names.NameEntry.{NameEntry}
use Rattle.st_rules.specs.Names.{is_entry_at, is_in, name_below}
use Rattle.st_namespace.specs.StoredEntries.{AreByName, key_of, stands_before}
use Rattle.st_namespace.proofs.Bytes.{nothing_below}
use Rattle.st_namespace.proofs.Ordered.{below_anti, below_itself, below_same, below_trans, byte_cases, byte_not}

every_at : (P : NameEntry → Type 0) (es : List NameEntry) (i : ℕ) (d : NameEntry) → i < length es → AllByRecursion P es → P (get_or es i d)
every_at P [] i d l a = let no : ⊥ = omega arith in absurd no
every_at P (e ∷ es) zero d l a = a.0
every_at P (e ∷ es) (suc i) d l a = every_at P es i d (omega arith) a.1

-- a later entry comes after
pub behind_at : (es : List NameEntry) (i j : ℕ) (d : NameEntry) → AreByName es → i < j → j < length es → name_below (key_of (get_or es i d)) (key_of (get_or es j d)) ≡ true
behind_at [] i j d o l m = let no : ⊥ = omega (arith, m) in absurd no
behind_at (e ∷ es) zero zero d o l m = let no : ⊥ = omega (arith, l) in absurd no
behind_at (e ∷ es) zero (suc j) d o l m = every_at (λ x. name_below (key_of e) (key_of x) ≡ true) es j d (omega (arith, m)) o.0
behind_at (e ∷ es) (suc i) zero d o l m = let no : ⊥ = omega (arith, l) in absurd no
behind_at (e ∷ es) (suc i) (suc j) d o l m = behind_at es i j d o.1 (omega (arith, l)) (omega (arith, m))

-- A name in a directory.
pub key_is : (dir : ℕ) (name : List ℕ) (e : NameEntry) → is_entry_at dir name e ≡ true → key_of e ≡ dir ∷ name
key_is dir name e h =
    let p = and_parts (e.dir == dir) (bytes_eq e.name name) h in
    (λ i. eqb-true e.dir dir p.0 i ∷ (bytes_eq-Decides e.name name).0 p.1 i)

pub is_key : (dir : ℕ) (name : List ℕ) (e : NameEntry) → e.dir ≡ dir → e.name ≡ name → is_entry_at dir name e ≡ true
is_key dir name e a b = and_from (e.dir == dir) (bytes_eq e.name name) (eq-eqb e.dir dir a) ((bytes_eq-Decides e.name name).1 b)

pub not_before : (dir : ℕ) (name : List ℕ) (e : NameEntry) → stands_before dir name e ≡ true → is_entry_at dir name e ≡ false
not_before dir name e h = ⊎_elim
    (λ t. absurd (true≢false (sym h ∙ ap (λ k. name_below k (dir ∷ name)) (key_is dir name e t) ∙ below_itself (dir ∷ name))))
    (λ f. f)
    (cases_Bool (is_entry_at dir name e))

-- A search by halves.
module _ (es : List NameEntry) (o : AreByName es) (dir : ℕ) (name : List ℕ) (m : ℕ) (a : NameEntry) (l : m < length es) (is : a ≡ get_or es m a) where
  same_at : (d : NameEntry) → get_or es m d ≡ a
  same_at d = get_or_default es m d a l ∙ sym is

  pub before_more : stands_before dir name a ≡ true → (j : ℕ) (d : NameEntry) → j < m + 1 → stands_before dir name (get_or es j d) ≡ true
  before_more h j d k = ⊎_elim
      (λ (e : j ≡ m). ap (stands_before dir name) (ap (λ n. get_or es n d) e ∙ same_at d) ∙ h)
      (λ n. below_trans (key_of (get_or es j d)) (key_of (get_or es m d)) (dir ∷ name) (behind_at es j m d o (omega (arith, k, n)) l) (ap (stands_before dir name) (same_at d) ∙ h))
      (cases_eq j m)

  pub behind_more : stands_before dir name a ≡ false → (j : ℕ) (d : NameEntry) → m ≤ j → j < length es → stands_before dir name (get_or es j d) ≡ false
  behind_more h j d k s = ⊎_elim
      (λ (e : j ≡ m). ap (stands_before dir name) (ap (λ n. get_or es n d) e ∙ same_at d) ∙ h)
      (λ n. ⊎_elim
      (λ t. absurd (true≢false (sym (below_trans (key_of (get_or es m d)) (key_of (get_or es j d)) (dir ∷ name) (behind_at es m j d o (omega (arith, k, n)) s) t) ∙ ap (stands_before dir name) (same_at d) ∙ h)))
      (λ f. f)
      (cases_Bool (stands_before dir name (get_or es j d))))
      (cases_eq j m)

pub none_any : {K : Type 0} (p : K → Bool) (xs : List K) → ((j : ℕ) (d : K) → j < length xs → p (get_or xs j d) ≡ false) → list_any p xs ≡ false
none_any p [] h = refl
none_any p (x ∷ xs) h =
    let q : p x ≡ false = h 0 x (omega arith) in
    rw q (none_any p xs (λ j d k. h (suc j) d (omega (arith, k))))

abbrev tail_of : List ℕ → List ℕ
tail_of [] = []
tail_of (x ∷ xs) = xs

-- The place that a search found.
module _ (es : List NameEntry) (o : AreByName es) (dir : ℕ) (name : List ℕ) (place : ℕ) (before : (j : ℕ) (d : NameEntry) → j < place → stands_before dir name (get_or es j d) ≡ true) (behind : (j : ℕ) (d : NameEntry) → place ≤ j → j < length es → stands_before dir name (get_or es j d) ≡ false) where
  -- all entries come before the name
  pub all_before : length es ≤ place → list_any (is_entry_at dir name) es ≡ false
  all_before l = none_any (is_entry_at dir name) es (λ j d k. not_before dir name (get_or es j d) (before j d (omega (arith, k, l))))

  -- if no entry has the name, the others come after it
  pub behind_fresh : list_any (is_entry_at dir name) es ≡ false → (j : ℕ) (d : NameEntry) → place ≤ j → j < length es → name_below (dir ∷ name) (key_of (get_or es j d)) ≡ true
  behind_fresh f j d k s = ⊎_elim
      (λ t. t)
      (λ g.
      let e : key_of (get_or es j d) ≡ dir ∷ name = below_same (key_of (get_or es j d)) (dir ∷ name) (behind j d k s) g in
      let t : is_entry_at dir name (get_or es j d) ≡ true = is_key dir name (get_or es j d) (ap (λ l. get_or l 0 dir) e) (ap tail_of e) in
      absurd (true≢false (sym (list_any_at (is_entry_at dir name) es j d s t) ∙ f)))
      (cases_Bool (name_below (dir ∷ name) (key_of (get_or es j d))))

  module _ (a : NameEntry) (l : place < length es) (is : a ≡ get_or es place a) where
    -- the first that doesn't come before it has another name
    pub no_entry : is_entry_at dir name a ≡ false → list_any (is_entry_at dir name) es ≡ false
    no_entry f = none_any (is_entry_at dir name) es (λ j d k. ⊎_elim
        (λ (e : j ≡ place). ap (is_entry_at dir name) (ap (λ n. get_or es n d) e ∙ get_or_default es place d a l ∙ sym is) ∙ f)
        (λ c. ⊎_elim
        (λ s. not_before dir name (get_or es j d) (before j d s))
        (λ s. ⊎_elim
        (λ t. absurd (true≢false (sym (behind_at es place j d o s k) ∙ ap (name_below (key_of (get_or es place d))) (key_is dir name (get_or es j d) t) ∙ behind place d (omega arith) l)))
        (λ g. g)
        (cases_Bool (is_entry_at dir name (get_or es j d)))) c)
        (cases_order j place))

    -- what comes after the name, if the first that doesn't come before it has it
    pub behind_entry : is_entry_at dir name a ≡ true → (j : ℕ) (d : NameEntry) → place + 1 ≤ j → j < length es → name_below (dir ∷ name) (key_of (get_or es j d)) ≡ true
    behind_entry t j d k s = ap (λ x. name_below x (key_of (get_or es j d)))
        (sym (key_is dir name (get_or es place d) (ap (is_entry_at dir name) (get_or_default es place d a l ∙ sym is) ∙ t))) ∙
        behind_at es place j d o (omega (arith, k)) s

    pub before_entry : is_entry_at dir name a ≡ true → (j : ℕ) (d : NameEntry) → j < place + 1 → name_below (dir ∷ name) (key_of (get_or es j d)) ≡ false
    before_entry t j d k = ⊎_elim
        (λ (e : j ≡ place). ap (name_below (dir ∷ name))
        (key_is dir name (get_or es j d) (ap (is_entry_at dir name) (ap (λ n. get_or es n d) e ∙ get_or_default es place d a l ∙ sym is) ∙ t)) ∙
        below_itself (dir ∷ name))
        (λ n. below_anti (key_of (get_or es j d)) (dir ∷ name) (before j d (omega (arith, k, n))))
        (cases_eq j place)

    -- the same, if it has another name
    pub behind_other : is_entry_at dir name a ≡ false → (j : ℕ) (d : NameEntry) → place ≤ j → j < length es → name_below (dir ∷ name) (key_of (get_or es j d)) ≡ true
    behind_other f = behind_fresh (no_entry f)

  pub before_other : (j : ℕ) (d : NameEntry) → j < place → name_below (dir ∷ name) (key_of (get_or es j d)) ≡ false
  before_other j d k = below_anti (key_of (get_or es j d)) (dir ∷ name) (before j d k)

-- The directories of entries in order do not fall.
pub dir_up : (a b : NameEntry) → name_below (key_of a) (key_of b) ≡ true → a.dir ≤ b.dir
unfolding name_below
dir_up a b h = ⊎_elim (λ p. omega (arith, p.0)) (λ p. omega (arith, p)) (byte_cases a.dir b.dir (name_below a.name b.name) h)

-- an entry before all names of a directory is in a lower one
pub dir_below : (dir : ℕ) (e : NameEntry) → stands_before dir [] e ≡ true → is_in dir e ≡ false
unfolding name_below
dir_below dir e h = ⊎_elim
    (λ p. absurd (true≢false (sym p.1 ∙ nothing_below e.name)))
    (λ (p : e.dir < dir). ne_eqb e.dir dir (λ (z : e.dir ≡ dir). omega (arith, z, p)))
    (byte_cases e.dir dir (name_below e.name []) h)

pub dir_from : (dir : ℕ) (name : List ℕ) (e : NameEntry) → stands_before dir name e ≡ false → dir ≤ e.dir
unfolding name_below
dir_from dir name e h = ⊎_elim (λ p. omega (arith, p.0)) (λ p. omega (arith, p)) (byte_not e.dir dir (name_below e.name name) h)

-- Whether a directory has entries: whether the first that doesn't come before all its names is one.
module _ (es : List NameEntry) (o : AreByName es) (dir : ℕ) (place : ℕ) (before : (j : ℕ) (d : NameEntry) → j < place → stands_before dir [] (get_or es j d) ≡ true) where
  pub none_in : length es ≤ place → list_any (is_in dir) es ≡ false
  none_in l = none_any (is_in dir) es (λ j d k. dir_below dir (get_or es j d) (before j d (omega (arith, k, l))))

  pub first_in : ((j : ℕ) (d : NameEntry) → place ≤ j → j < length es → stands_before dir [] (get_or es j d) ≡ false) → (a : NameEntry) → place < length es → a ≡ get_or es place a → (a.dir == dir) ≡ list_any (is_in dir) es
  first_in behind a l is = ⊎_elim
      (λ t. t ∙ sym (list_any_at (is_in dir) es place a l (ap (is_in dir) (sym is) ∙ t)))
      (λ f. f ∙ sym (none_any (is_in dir) es (λ j d k. ⊎_elim
      (λ (e : j ≡ place). ap (is_in dir) (ap (λ n. get_or es n d) e ∙ get_or_default es place d a l ∙ sym is) ∙ f)
      (λ c. ⊎_elim
      (λ s. dir_below dir (get_or es j d) (before j d s))
      (λ s.
      let first : get_or es place d ≡ a = get_or_default es place d a l ∙ sym is in
      let low = dir_from dir [] (get_or es place d) (behind place d (omega arith) l) in
      let up = dir_up (get_or es place d) (get_or es j d) (behind_at es place j d o s k) in
      let at : (get_or es place d).dir ≡ a.dir = ap (λ (x : NameEntry). x.dir) first in
      let other : a.dir ≡ dir → ⊥ = eqb-false a.dir dir f in
      ne_eqb (get_or es j d).dir dir (λ (z : (get_or es j d).dir ≡ dir). other (omega (arith, z, low, up, at)))) c)
      (cases_order j place))))
      (cases_Bool (a.dir == dir))
