-- An entry that is removed is the one that is looked up.
use Rattle.std.proofs.Common.{◌≡◌, ℕ, List, Option, Some, None, Result, Ok, Err, inl, inr, sym, ap, ◌∙◌}
use Rattle.std.proofs.lemmas.Bool.{cases_Bool, cond-true, cond-false}
use Rattle.st_rules.specs.Names as names
use Rattle.st_rules.specs.declared.names.NameEntry.{NameEntry}
use Rattle.st_rules.specs.declared.names.EntryRefusal.{EntryRefusal}
use Rattle.st_rules.specs.declared.names.EntryRefusal.TheVariants as refusals
use Rattle.st_journal.specs.Parts.{is_file_at}

abbrev changed_to : names.Changed → Result names.Changed EntryRefusal
changed_to c = Ok c

ok_is : (x y : names.Changed) → changed_to x ≡ changed_to y → x ≡ y
ok_is x y e = cc

not_empty : (c : names.Changed) → Err refusals.NotEmpty ≡ changed_to c → ⊥
not_empty c e = cc

module _ (n : names.Names) (dir : ℕ) (name : List ℕ) (c : names.Changed) where
  entry : (x : NameEntry) → names.remove_entry n dir name x ≡ changed_to c → x.ino ≡ c.ino
  unfolding names.remove_entry names.without
  entry x e = elim (cases_Bool (names.is_full n x)) [
    | inl full ↦ absurd (not_empty c (sym (cond-true _ _ _ full) ∙ e))
    | inr empty ↦ ap (λ (d : names.Changed). d.ino) (ok_is (names.without n dir name x) c (sym (cond-false _ _ _ empty) ∙ e))
  ]

  found : (o : Option NameEntry) → names.remove_found n dir name o ≡ changed_to c → is_file_at n (names.ino_of o) ≡ names.is_file n c.ino
  unfolding names.remove_found
  found None e = absurd cc
  found (Some x) e = ap (λ (i : ℕ). names.is_file n i) (entry x e)

  at : (o : Option EntryRefusal) → names.remove_at n dir name o ≡ changed_to c → is_file_at n (names.lookup_at n dir name o) ≡ names.is_file n c.ino
  unfolding names.remove_at names.lookup_at
  at None e = found (names.entry_at n dir name) e
  at (Some r) e = absurd cc

  pub removed_file : names.remove n dir name ≡ changed_to c → is_file_at n (names.lookup n dir name) ≡ names.is_file n c.ino
  unfolding names.remove names.lookup
  removed_file e = at (names.place_refusal n dir name) e
