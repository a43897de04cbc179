-- Nothing of a file that is clear from a page on is cached from there on.
use Rattle.st_lemmas.proofs.Words
use Words.{◌≡◌, ℕ, ◌≤◌, Bool, true, false, not, ◌||◌, List, [], ◌∷◌, Some, None, refl, ap, inl, inr, arith, if◌then◌else◌, find, list_any, PageNo}
use Words.ClientPages as pages
use Words.ClientPages.{Store}
use Words.Lists.{Has}
use Words.Tables.{and_true}
use Rattle.st_lemmas.proofs.Contents.{one_place}
use Rattle.st_laws_reads.specs.Copies.Copies.{Nothing}
use Rattle.st_laws_reads.specs.AllClients.CutFiles.{Clear}

none_found : {A : Type 0} (f : A → Bool) (xs : List A) → ((x : A) → Has x xs → f x ≡ true → ⊥) → find f xs ≡ None
none_found f [] n = refl
none_found {A} f (x ∷ xs) n = go (f x) refl (none_found f xs (λ y i. n y (inr i)))
  where
    go : (b : Bool) → f x ≡ b → find f xs ≡ None → (if b then Some x else find f xs) ≡ None
    go true q r = absurd (n x (inl refl) q)
    go false q r = r

none_any : {A : Type 0} (f : A → Bool) (xs : List A) → ((x : A) → Has x xs → f x ≡ true → ⊥) → list_any f xs ≡ false
none_any f [] n = refl
none_any {A} f (x ∷ xs) n = go (f x) refl (none_any f xs (λ y i. n y (inr i)))
  where
    go : (b : Bool) → f x ≡ b → list_any f xs ≡ false → (b || list_any f xs) ≡ false
    go true q r = absurd (n x (inl refl) q)
    go false q r = r

pub nothing_of : (x : Store) (ino : ℕ) (p : PageNo) → Clear x ino p → (q : PageNo) → p.0 ≤ q.0 → Nothing x ino q
nothing_of x ino p z q l =
    record {
      dirty = none_found (pages.is_dirty_of ino q) x.pages.dirty (λ d i f. z.dirty d i (one_place d.ino d.page ino q f).0);
      clean = none_found (pages.is_clean_of ino q) x.pages.clean (λ y i f. let o = one_place y.ino y.page ino q f in let n = ap (λ (r : PageNo). r.0) o.1 in z.clean y i o.0 (omega (arith, l, n)));
      known = none_found (pages.is_known_of ino q) x.extents (λ y i f. let o = one_place y.ino y.page ino q f in let n = ap (λ (r : PageNo). r.0) o.1 in z.known y i o.0 (omega (arith, l, n)));
      reading = none_any (pages.is_read_of ino q) x.commands (λ y i f. z.commands y i (one_place y.ino y.page ino q (and_true (not (pages.is_write y.kind)) _ f).1).0);
    }
