-- The pages that a list of changes gives.
use Rattle.st_lemmas.proofs.Words
use Words.{◌≡◌, ℕ, zero, suc, ◌+◌, ◌<◌, ◌≤◌, Bool, true, false, List, [], ◌∷◌, length, Option, Some, None, arith, refl, sym, ap, subst, ◌∙◌, ⊎_elim, ◌==◌}
use Words.{if◌then◌else◌, nat_lt, cases_Bool, lt-ltb, le-ltb, ne_eqb, eq-eqb, eqb-true, and_parts, and_from, false_from_ne_true}
use Rattle.std.proofs.lemmas.Option.{same_Some, none-some}
use Rattle.st_snap.specs.Changes.{Change, Wrote, Took, Forgot, Write, before, last_write, page_of, same_page, takes}

-- a change after the take of an image
pub before_over : (c : Change) (cs : List Change) (i : ℕ) → i ≤ takes (c ∷ cs) → before i (c ∷ cs) ≡ before i cs
before_over c cs i l = ap (λ b. if b then c ∷ cs else before i cs) (le-ltb (takes (c ∷ cs)) i l)

-- before the next take come all changes
pub before_all : (cs : List Change) (i : ℕ) → takes cs < i → before i cs ≡ cs
before_all [] i l = refl
before_all (c ∷ cs) i l = ap (λ b. if b then c ∷ cs else before i cs) (lt-ltb (takes (c ∷ cs)) i l)

pub page_over : (c : Change) (cs : List Change) (view f p : ℕ) → 1 ≤ view → view ≤ takes (c ∷ cs) → page_of (c ∷ cs) view f p ≡ page_of cs view f p
page_over c cs zero f p s l = let no : ⊥ = omega (arith, s) in absurd no
page_over c cs (suc i) f p s l = ap (λ h. last_write h f p) (before_over c cs (suc i) l)

pub page_taken : (cs : List Change) (i f p : ℕ) → i ≡ takes cs + 1 → page_of (Took ∷ cs) i f p ≡ page_of cs 0 f p
page_taken cs zero f p e = let no : ⊥ = omega (arith, e) in absurd no
page_taken cs (suc i) f p e = ap (λ h. last_write h f p) (before_over Took cs (suc i) (omega (arith, e)) ∙ before_all cs (suc i) (omega (arith, e)))

-- one page
pub page_is : (f p g q : ℕ) → same_page f p g q ≡ true → (f ≡ g) × (p ≡ q)
page_is f p g q h = let r = and_parts (f == g) (p == q) h in (eqb-true f g r.0, eqb-true p q r.1)

pub is_page : (f p g q : ℕ) → f ≡ g → p ≡ q → same_page f p g q ≡ true
is_page f p g q a b = and_from (f == g) (p == q) (eq-eqb f g a) (eq-eqb p q b)

pub not_page : (f p g q : ℕ) → ((f ≡ g) × (p ≡ q) → ⊥) → same_page f p g q ≡ false
not_page f p g q h = false_from_ne_true (same_page f p g q) (λ t. h (page_is f p g q t))

-- a write's number is below the number of changes
pub last_low : (cs : List Change) (f p : ℕ) (w : Write) → last_write cs f p ≡ Some w → w.number < length cs
last_low [] f p w e = absurd (none-some w e)
last_low (Wrote g q b ∷ cs) f p w e = ⊎_elim
    (λ t. let s : record { number = length cs; bytes = b } ≡ w = same_Some (record { number = length cs; bytes = b }) w (sym (ap (λ c. if c then Some (record { number = length cs; bytes = b }) else last_write cs f p) t) ∙ e) in
    let n : length cs ≡ w.number = ap (λ (x : Write). x.number) s in omega (arith, n))
    (λ t. let l = last_low cs f p w (sym (ap (λ c. if c then Some (record { number = length cs; bytes = b }) else last_write cs f p) t) ∙ e) in omega (arith, l))
    (cases_Bool (same_page g q f p))
last_low (Took ∷ cs) f p w e = let l = last_low cs f p w e in omega (arith, l)
last_low (Forgot i ∷ cs) f p w e = let l = last_low cs f p w e in omega (arith, l)

pub before_short : (i : ℕ) (cs : List Change) → length (before i cs) ≤ length cs
before_short i [] = omega arith
before_short i (c ∷ cs) = choose (nat_lt (takes (c ∷ cs)) i) (before_short i cs)
  where
    choose : (b : Bool) → length (before i cs) ≤ length cs → length (if b then c ∷ cs else before i cs) ≤ length (c ∷ cs)
    choose true l = omega arith
    choose false l = omega (arith, l)

pub page_low : (cs : List Change) (view f p : ℕ) (w : Write) → page_of cs view f p ≡ Some w → w.number < length cs
page_low cs zero f p w e = last_low cs f p w e
page_low cs (suc i) f p w e = let l = last_low (before (suc i) cs) f p w e in let s = before_short (suc i) cs in omega (arith, l, s)

-- the page that a change of this number wrote
abbrev pub target : Change → Option (ℕ × ℕ)
target (Wrote f p b) = Some (f, p)
target Took = None
target (Forgot i) = None

abbrev pub wrote_at : List Change → ℕ → Option (ℕ × ℕ)
wrote_at [] n = None
wrote_at (c ∷ cs) n = if n == length cs then target c else wrote_at cs n

pub wrote_below : (c : Change) (cs : List Change) (n : ℕ) → n < length cs → wrote_at (c ∷ cs) n ≡ wrote_at cs n
wrote_below c cs n l = ap (λ b. if b then target c else wrote_at cs n) (ne_eqb n (length cs) (λ (e : n ≡ length cs). omega (arith, e, l)))

pub last_wrote : (cs : List Change) (f p : ℕ) (w : Write) → last_write cs f p ≡ Some w → wrote_at cs w.number ≡ Some (f, p)
last_wrote [] f p w e = absurd (none-some w e)
last_wrote (Wrote g q b ∷ cs) f p w e = ⊎_elim
    (λ t. let s : record { number = length cs; bytes = b } ≡ w = same_Some (record { number = length cs; bytes = b }) w (sym (ap (λ c. if c then Some (record { number = length cs; bytes = b }) else last_write cs f p) t) ∙ e) in
    let n : length cs ≡ w.number = ap (λ (x : Write). x.number) s in
    let r = page_is g q f p t in
    ap (λ b. if b then Some (g, q) else wrote_at cs w.number) (eq-eqb w.number (length cs) (sym n)) ∙ (λ i. Some (r.0 i, r.1 i)))
    (λ t. let e2 = sym (ap (λ c. if c then Some (record { number = length cs; bytes = b }) else last_write cs f p) t) ∙ e in
    wrote_below (Wrote g q b) cs w.number (last_low cs f p w e2) ∙ last_wrote cs f p w e2)
    (cases_Bool (same_page g q f p))
last_wrote (Took ∷ cs) f p w e = wrote_below Took cs w.number (last_low cs f p w e) ∙ last_wrote cs f p w e
last_wrote (Forgot i ∷ cs) f p w e = wrote_below (Forgot i) cs w.number (last_low cs f p w e) ∙ last_wrote cs f p w e

pub before_wrote : (i : ℕ) (cs : List Change) (n : ℕ) → n < length (before i cs) → wrote_at cs n ≡ wrote_at (before i cs) n
before_wrote i [] n l = refl
before_wrote i (c ∷ cs) n l = ⊎_elim
    (λ t. ap (λ b. wrote_at (if b then c ∷ cs else before i cs) n) (sym t))
    (λ t.
    let m : n < length (before i cs) = subst (λ b. n < length (if b then c ∷ cs else before i cs)) t l in
    let s = before_short i cs in
    wrote_below c cs n (omega (arith, m, s)) ∙ before_wrote i cs n m ∙ ap (λ b. wrote_at (if b then c ∷ cs else before i cs) n) (sym t))
    (cases_Bool (nat_lt (takes (c ∷ cs)) i))

pub page_wrote : (cs : List Change) (view f p : ℕ) (w : Write) → page_of cs view f p ≡ Some w → wrote_at cs w.number ≡ Some (f, p)
page_wrote cs zero f p w e = last_wrote cs f p w e
page_wrote cs (suc i) f p w e = before_wrote (suc i) cs w.number (last_low (before (suc i) cs) f p w e) ∙ last_wrote (before (suc i) cs) f p w e
