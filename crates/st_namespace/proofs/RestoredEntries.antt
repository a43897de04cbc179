-- Entries that are put in one after another.
use Rattle.std.proofs.Common.{◌≡◌, ℕ, ◌+◌, ◌<◌, ◌≤◌, true, false, List, [], ◌∷◌, ◌++◌, length, take, drop, get_or, arith, refl, sym, ap, subst, ◌∙◌, true≢false}
use Rattle.std.specs.Prelude.{All, is_some, find}
use Rattle.std.specs.List.{IsDistinct, AllByRecursion, list_any}
use Rattle.std.proofs.lemmas.List.{take_more, drop_more, take_all, take-append-drop}
use Rattle.std.proofs.lemmas.List.Elements.{All-from_recursion, recursion_from_All, All-push, All-weaker}
use Rattle.std.proofs.lemmas.List.Folds.{list_any-append}
use Rattle.std.proofs.lemmas.Map.Keys.{IsDistinct-head, IsDistinct-tail, IsDistinct-cons, IsDistinct-push}
use Rattle.std.proofs.lemmas.Bool.{cases_Bool, or_parts}
use Rattle.st_rules.specs.declared.names.NameEntry.{NameEntry}
use Rattle.st_rules.specs.Names.{is_entry_at}
use Rattle.st_namespace.specs.declared.restored.RestoreRefusal.{RestoreRefusal}
use Rattle.st_namespace.specs.declared.restored.RestoreRefusal.TheVariants.{NotRising, NotYetGiven, NameTwice, TooMany, Memory}
use Rattle.st_namespace.specs.Order.{IsInOrder, IsRising, of_one_name, of_one_inode}
use Rattle.st_namespace.specs.Restored.{AreRestored, ComesAfter, IsAgainst, IsRefused, low_after, names_of}
use Rattle.st_namespace.proofs.NameOrder.{names_equiv, rising_push}

every_middle : {K : Type 0} (P : K → Type 0) (xs : List K) (e : K) (ys : List K) → AllByRecursion P (xs ++ e ∷ ys) → P e
every_middle P [] e ys a = a.0
every_middle P (x ∷ xs) e ys a = every_middle P xs e ys a.1

every_weaker : {K : Type 0} (P Q : K → Type 0) → ((x : K) → P x → Q x) → (xs : List K) → AllByRecursion P xs → AllByRecursion Q xs
every_weaker P Q f [] a = tt
every_weaker P Q f (x ∷ xs) a = (f x a.0, every_weaker P Q f xs a.1)

every_zero : (xs : List NameEntry) → AllByRecursion (λ (d : NameEntry). 0 ≤ d.ino) xs
every_zero [] = tt
every_zero (x ∷ xs) = (omega arith, every_zero xs)

-- after entries that rise, one of a rising list is at the least number or above it
rises_from : (n : ℕ) (xs : List NameEntry) (e : NameEntry) (ys : List NameEntry) → IsRising (xs ++ e ∷ ys) →
    AllByRecursion (λ (d : NameEntry). n ≤ d.ino) (xs ++ e ∷ ys) → low_after n xs ≤ e.ino
rises_from n [] e ys r a = a.0
rises_from n (x ∷ xs) e ys r a =
    rises_from (x.ino + 1) xs e ys r.1
    (every_weaker (λ (d : NameEntry). x.ino < d.ino) (λ (d : NameEntry). x.ino + 1 ≤ d.ino) (λ d l. omega (arith, l)) (xs ++ e ∷ ys) r.0)

low_push : (n : ℕ) (xs : List NameEntry) (e : NameEntry) → low_after n (xs ++ e ∷ []) ≡ e.ino + 1
low_push n [] e = refl
low_push n (x ∷ xs) e = low_push (x.ino + 1) xs e

-- a name that was there before is there twice
twice : (xs : List NameEntry) (e : NameEntry) (ys : List NameEntry) → IsDistinct of_one_name (xs ++ e ∷ ys) → list_any (of_one_name e) xs ≡ false
twice [] e ys d = refl
twice (x ∷ xs) e ys d =
    let here : of_one_name x e ≡ false = every_middle (λ y. of_one_name x y ≡ false) xs e ys (IsDistinct-head of_one_name x (xs ++ e ∷ ys) d) in
    let there : of_one_name e x ≡ false = names_equiv.symm e x ∙ here in
    rw there (twice xs e ys (IsDistinct-tail of_one_name x (xs ++ e ∷ ys) d))

-- one more entry
pub restored_more : (low next : ℕ) (xs : List NameEntry) (e : NameEntry) → AreRestored low next xs → ComesAfter low next xs e →
    AreRestored (e.ino + 1) next (xs ++ e ∷ [])
restored_more low next xs e r c = record {
  last = sym (low_push 0 xs e);
  below = All-push (λ (d : NameEntry). d.ino < e.ino + 1) xs e
      (All-weaker (λ (d : NameEntry). d.ino < low) (λ (d : NameEntry). d.ino < e.ino + 1) (λ d l. omega (arith, l, c.rising)) xs r.below) (omega arith);
  rising = rising_push xs e r.rising
      (every_weaker (λ (d : NameEntry). d.ino < low) (λ (d : NameEntry). d.ino < e.ino) (λ d l. omega (arith, l, c.rising)) xs
      (recursion_from_All (λ (d : NameEntry). d.ino < low) xs r.below));
  given = All-push (λ (d : NameEntry). d.ino < next) xs e r.given c.given;
  names = IsDistinct-push names_equiv xs e r.names c.fresh;
}

pub restored_none : (next : ℕ) → AreRestored 0 next []
unfolding IsDistinct
restored_none next = record {
  last = refl;
  below = All-from_recursion (λ (d : NameEntry). d.ino < 0) [] tt;
  rising = tt;
  given = All-from_recursion (λ (d : NameEntry). d.ino < next) [] tt;
  names = tt;
}

-- what is against one of the entries is against all
pub against_all : (f : RestoreRefusal) (low next : ℕ) (xs : List NameEntry) (e : NameEntry) (ys : List NameEntry) → low ≡ low_after 0 xs →
    IsAgainst f low next xs e → (limit : ℕ) → IsRefused f (names_of (xs ++ e ∷ ys) next limit)
against_all NotRising low next xs e ys is h limit = λ r. let l = rises_from 0 xs e ys r (every_zero (xs ++ e ∷ ys)) in omega (arith, l, is, h)
against_all NotYetGiven low next xs e ys is h limit = λ a. let l =
    every_middle (λ (d : NameEntry). d.ino < next) xs e ys (recursion_from_All (λ (d : NameEntry). d.ino < next) (xs ++ e ∷ ys) a) in omega (arith, l, h)
against_all NameTwice low next xs e ys is h limit = λ d. true≢false (sym h ∙ twice xs e ys d)
against_all TooMany low next xs e ys is h limit = absurd h
against_all Memory low next xs e ys is h limit = tt

-- entries that rise have inodes that differ
rising_differ : (es : List NameEntry) → IsRising es → IsDistinct of_one_inode es
unfolding IsDistinct
rising_differ [] r = tt
rising_differ (e ∷ es) r = IsDistinct-cons of_one_inode e es
    (every_weaker (λ (d : NameEntry). e.ino < d.ino) (λ (d : NameEntry). of_one_inode e d ≡ false) (λ d l. grind arith) es r.0) (rising_differ es r.1)

pub restored_in_order : (low next limit : ℕ) (es : List NameEntry) → AreRestored low next es → length es < limit → IsInOrder (names_of es next limit)
restored_in_order low next limit es r few = record {
  names = r.names;
  inodes = rising_differ es r.rising;
  rising = r.rising;
  used = r.given;
  few = few;
}

-- The entries from a place on.
module _ (rows : List NameEntry) (i : ℕ) (d : NameEntry) (l : i < length rows) where
  pub rows_split : take i rows ++ get_or rows i d ∷ drop (i + 1) rows ≡ rows
  rows_split = ap (λ xs. take i rows ++ xs) (sym (drop_more rows i d l)) ∙ take-append-drop i rows
