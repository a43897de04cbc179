-- The files of a fresh server, one after another.
use Rattle.std.proofs.Common.{◌≡◌, ℕ, zero, suc, ◌+◌, ◌-◌, ◌<◌, ◌≤◌, false, List, [], ◌∷◌, ◌++◌, get_or, arith, refl, sym, ap, ◌∙◌, ⊎_elim}
use Rattle.std.specs.Prelude.{All, bytes_eq, find, is_some, ◌||◌}
use Rattle.std.specs.List.{list_any}
use Rattle.std.proofs.lemmas.Bool.{cases_Bool}
use Rattle.std.proofs.lemmas.Slice.Eq.{bytes_eq-Decides}
use Rattle.std.proofs.lemmas.List.Folds.{list_any-append}
use Rattle.std.proofs.lemmas.List.Elements.{All-push}
use Rattle.st_rules.specs.declared.names.NameEntry.{NameEntry}
use Rattle.st_rules.specs.Names.{ROOT, fresh_file, fresh_names, is_entry_at}
use Rattle.st_namespace.proofs.NameOrder.{found_is_any}

-- the first files of a fresh server
abbrev pub files : ℕ → List NameEntry
files zero = []
files (suc n) = files n ++ fresh_file (n + 2) ∷ []

pub files_are : files 8 ≡ fresh_names.entries
unfolding fresh_names
files_are = refl

pub files_high : (n ino : ℕ) → n + 2 ≤ ino → All (λ (e : NameEntry). e.ino < ino) (files n)
files_high zero ino l = λ k d m. absurd (omega (arith, m))
files_high (suc n) ino l = All-push (λ (e : NameEntry). e.ino < ino) (files n) (fresh_file (n + 2)) (files_high n ino (omega (arith, l))) (omega (arith, l))

other_file : (i ino : ℕ) → i < ino → is_entry_at ROOT (102 ∷ (48 + ino) ∷ []) (fresh_file i) ≡ false
other_file i ino l = ⊎_elim
    (λ t. let e : 102 ∷ (48 + i) ∷ [] ≡ 102 ∷ (48 + ino) ∷ [] = (bytes_eq-Decides (102 ∷ (48 + i) ∷ []) (102 ∷ (48 + ino) ∷ [])).0 t in
    let z : 48 + i ≡ 48 + ino = ap (λ l. get_or l 1 0) e in
    absurd (omega (arith, z, l)))
    (λ f. f)
    (cases_Bool (bytes_eq (102 ∷ (48 + i) ∷ []) (102 ∷ (48 + ino) ∷ [])))

none_named : (n ino : ℕ) → n + 2 ≤ ino → list_any (is_entry_at ROOT (102 ∷ (48 + ino) ∷ [])) (files n) ≡ false
none_named zero ino l = refl
none_named (suc n) ino l =
    list_any-append (is_entry_at ROOT (102 ∷ (48 + ino) ∷ [])) (files n) (fresh_file (n + 2) ∷ [])
    ∙ (λ i. none_named n ino (omega (arith, l)) i || (other_file (n + 2) ino (omega (arith, l)) i || false))

pub files_fresh : (n ino : ℕ) → n + 2 ≤ ino → is_some (find (is_entry_at ROOT (102 ∷ (48 + ino) ∷ [])) (files n)) ≡ false
files_fresh n ino l = found_is_any (is_entry_at ROOT (102 ∷ (48 + ino) ∷ [])) (files n) ∙ none_named n ino l

-- one file more
pub files_more : (ino : ℕ) → 2 ≤ ino → files (ino - 2) ++ fresh_file ino ∷ [] ≡ files (ino + 1 - 2)
files_more ino l =
    let e : ino + 1 - 2 ≡ suc (ino - 2) = omega (arith, l) in
    let a : ino - 2 + 2 ≡ ino = omega (arith, l) in
    ap (λ n. files (ino - 2) ++ fresh_file n ∷ []) (sym a) ∙ ap files (sym e)
