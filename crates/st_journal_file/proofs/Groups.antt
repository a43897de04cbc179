-- A group after an open gate is a part of its area's records.
use Rattle.std.proofs.Common.{◌≡◌, ℕ, List, [], ◌∷◌, ◌++◌, refl, sym, ap, ◌∙◌, append_assoc}
use Rattle.std.specs.Prelude.{Option, Some}
use Rattle.st_journal_file.specs.Histories.{Gate, behind, closed_at, group_of, opened_at}
use Rattle.st_journal_file.specs.Layout.{CLOSED, OPEN, Format, StandsFor, after_change, after_changes, all_opened, front, opened, part}

module _ {S C : Type 0} (f : Format S C) where
  pub all_opened-append : (xs ys : List C) → all_opened f (xs ++ ys) ≡ all_opened f xs ++ all_opened f ys
  all_opened-append [] ys = refl
  all_opened-append (x ∷ xs) ys = ap (λ (r : List ℕ). opened f x ++ r) (all_opened-append xs ys) ∙ sym (append_assoc (opened f x) (all_opened f xs) (all_opened f ys))

  pub after_changes-append : (o : Option S) (xs ys : List C) → after_changes f o (xs ++ ys) ≡ after_changes f (after_changes f o xs) ys
  after_changes-append o [] ys = refl
  after_changes-append o (x ∷ xs) ys = after_changes-append (after_change f o x) xs ys

  -- over plain bytes: a snapshot, records, a record and others, and what follows
  regroup : (p x o a r : List ℕ) → (p ++ x) ++ (o ++ (a ++ r)) ≡ (p ++ (x ++ (o ++ a))) ++ r
  regroup p x o a r = simp append_assoc

  pub opened_parts : (g : Gate S C) → opened_at f g ≡ front f g.snapshot (g.records ++ group_of g) ++ CLOSED ∷ g.more
  opened_parts g =
      regroup (part f (f.snapshot g.snapshot)) (all_opened f g.records) (opened f g.first) (all_opened f g.others) (CLOSED ∷ g.more) ∙
      ap (λ (r : List ℕ). (part f (f.snapshot g.snapshot) ++ r) ++ CLOSED ∷ g.more) (sym (all_opened-append g.records (group_of g)))

  -- what leads to the changes leads with more to more
  pub leads_on : (t start : S) (xs ys zs : List C) → after_changes f (Some t) xs ≡ after_changes f (Some start) ys → after_changes f (Some t) (xs ++ zs) ≡ after_changes f (Some start) (ys ++ zs)
  leads_on t start xs ys zs e =
      after_changes-append (Some t) xs zs ∙ (ap (λ (o : Option S). after_changes f o zs) e ∙ sym (after_changes-append (Some start) ys zs))

  -- with its gate closed an area stands for what is kept, and with its gate open for the group too
  pub closed_stands : (start : S) (kept : List C) (g : Gate S C) (rest bytes : List ℕ) → bytes ≡ front f g.snapshot g.records ++ CLOSED ∷ rest →
      after_changes f (Some g.snapshot) g.records ≡ after_changes f (Some start) kept → StandsFor f start bytes kept
  closed_stands start kept g rest bytes e leads = record { snapshot = g.snapshot; records = g.records; area = record { rest = rest; parts = e }; leads = leads }

  pub opened_stands : (start : S) (kept : List C) (g : Gate S C) (bytes : List ℕ) → bytes ≡ opened_at f g →
      after_changes f (Some g.snapshot) g.records ≡ after_changes f (Some start) kept → StandsFor f start bytes (kept ++ group_of g)
  opened_stands start kept g bytes e leads = record {
    snapshot = g.snapshot;
    records = g.records ++ group_of g;
    area = record { rest = g.more; parts = e ∙ opened_parts g };
    leads = leads_on g.snapshot start g.records kept (group_of g) leads;
  }
