-- The use that a file owes, by the number of the operation that is found, and as a row that goes last.
use Rattle.st_lemmas.proofs.Words
use Words.{◌≡◌, ℕ, Bool, true, false, not, cond, List, [], ◌∷◌, Option, Some, None, filter, find, option_map, refl, ap, ◌∙◌, Operation}
use Words.Keys.{put}
use Rattle.st_tables.proofs.RowLists.{put_last}
use Rattle.st_third.specs.declared.beside.OwedUse.{OwedUse}
use Rattle.st_third.specs.State.{op_of}
use Rattle.st_third.specs.UsedOnce.{is_owed_on, with_owed}
use Rattle.st_third_turn.specs.Owing.{with_op}

pub owed_by : (ino : ℕ) (o : Option Operation) (owed : List OwedUse) → with_op ino (option_map op_of o) owed ≡ with_owed ino o owed
owed_by ino None owed = refl
owed_by ino (Some o) owed = refl

-- none is left that passes
none_left : {A : Type 0} (p : A → Bool) (xs : List A) → find p (filter (λ x. not (p x)) xs) ≡ None
none_left p [] = refl
none_left {A} p (x ∷ xs) = by (p x) refl (none_left p xs)
  where
    by : (b : Bool) → p x ≡ b → find p (filter (λ y. not (p y)) xs) ≡ None → find p (cond (not b) (x ∷ filter (λ y. not (p y)) xs) (filter (λ y. not (p y)) xs)) ≡ None
    by true e h = h
    by false e h = ap (λ b. cond b (Some x) (find p (filter (λ y. not (p y)) xs))) e ∙ h

abbrev owed_use : ℕ → ℕ → OwedUse
owed_use ino op = record { ino = ino; op = op }

-- the file's row is taken out, and the new one goes last
pub put_owed : (ino op : ℕ) (old mid new : List OwedUse) → mid ≡ filter (λ u. not (is_owed_on ino u)) old → new ≡ put (is_owed_on ino) (owed_use ino op) mid → new ≡ with_op ino (Some op) old
put_owed ino op old mid new e h =
    h ∙ (ap (put (is_owed_on ino) (owed_use ino op)) e ∙ put_last (is_owed_on ino) (owed_use ino op) (filter (λ u. not (is_owed_on ino u)) old) (none_left (is_owed_on ino) old))
