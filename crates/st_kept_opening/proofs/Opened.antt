-- What is opened is of the world that is wanted, and its closed gate lies in its area.
use Rattle.std.proofs.Common.{◌≡◌, ℕ, ◌<◌, Bool, true, false, List, [], ◌∷◌, length, Option, Some, None, refl, ap, subst, arith, length-append, nat_lt}
use Rattle.std.specs.Prelude.{IfSome, if◌then◌else◌, option_map}
use Rattle.st_extents.specs.Layout.{Shape}
use Rattle.st_journal.specs.Parts.{stable_of}
use Rattle.st_journal.specs.declared.change.Change.{Change}
use Rattle.st_journal_bytes.specs.Moments.{Dated, after_dated, dated}
use Rattle.st_journal_bytes.specs.declared.header.Identity.{Identity}
use Rattle.st_journal_file.specs.Layout.{CLOSED, File, after_change, after_changes, area_of, front}
use Rattle.st_rules.specs.Names.{Names}
use Rattle.st_rules.specs.Server.{Stable}
use Rattle.st_snapshot.specs.Snapshots.{HasShape}
use Rattle.st_stable_file.specs.Opened as areas
use Rattle.st_stable_file.specs.OpenedFile.{OpensFile, shape_of}
use Rattle.st_stable_file.specs.Stables.{changed, stables}
use Rattle.st_stable_file.specs.declared.area.OpenedArea.{OpenedArea}
use Rattle.st_stable_file.specs.declared.file.OpenedFile.{OpenedFile}

some_is : {A : Type 0} (x y : A) → Some x ≡ Some y → x ≡ y
some_is x y e = cc

-- what holds of a value that is there
pub of_some : {A : Type 0} (o : Option A) (x : A) (P : A → Type 0) → o ≡ Some x → IfSome o P → P x
of_some None x P e h = absurd cc
of_some (Some y) x P e h = subst P (some_is y x e) h

-- Changes keep the shape.

-- no change makes another shape of any stable part
abbrev pub KeepsShape : Shape → Type 0
KeepsShape s = (t u : Stable) (x : Change) → HasShape s t → changed t x ≡ Some u → HasShape s u

module _ (s : Shape) (keeps : KeepsShape s) where
  one_by : (d e : Dated Stable) (x : Dated Change) (b : Bool) (o : Option Stable) → changed d.made x.made ≡ o →
      (if b then None else option_map (after_dated x) o) ≡ Some e → HasShape s d.made → HasShape s e.made
  one_by d e x true o q r h = absurd cc
  one_by d e x false None q r h = absurd cc
  one_by d e x false (Some u) q r h = subst (λ (z : Dated Stable). HasShape s z.made) (some_is (after_dated x u) e r) (keeps d.made u x.made h q)

  one : (o : Option (Dated Stable)) (e : Dated Stable) (x : Dated Change) → ((d : Dated Stable) → o ≡ Some d → HasShape s d.made) →
      after_change (dated stables) o x ≡ Some e → HasShape s e.made
  one None e x h r = absurd cc
  one (Some d) e x h r = one_by d e x (nat_lt x.moment d.moment) (changed d.made x.made) refl r (h d refl)

  all : (xs : List (Dated Change)) (o : Option (Dated Stable)) (e : Dated Stable) → ((d : Dated Stable) → o ≡ Some d → HasShape s d.made) →
      after_changes (dated stables) o xs ≡ Some e → HasShape s e.made
  all [] o e h r = h e r
  all (x ∷ xs) o e h r = all xs (after_change (dated stables) o x) e (λ d q. one o d x h q) r

  pub opened_shape : (area : List ℕ) (o : OpenedArea) → areas.Opens s area o → HasShape s (stable_of o.stable)
  opened_shape area o h =
      subst (λ (t : Stable). HasShape s t) h.made
      (all h.stands.changes (Some h.stands.first) h.state
      (λ d q. subst (λ (z : Dated Stable). HasShape s z.made) (some_is h.stands.first d q) h.stands.shape) h.stands.leads)

  pub file_shape : (i : Identity) (bytes : List ℕ) (now : ℕ) (o : OpenedFile) → shape_of i ≡ s → OpensFile bytes i now o → HasShape s (stable_of o.area.stable)
  file_shape i bytes now o e h =
      opened_shape (area_of o.current.second h.made.file) o.area
      (subst (λ (z : Shape). areas.Opens z (area_of o.current.second h.made.file) o.area) e h.area)

-- The closed gate lies in the area.

area_size : (second : Bool) (f : File) (n : ℕ) → length f.first ≡ n → length f.second ≡ n → length (area_of second f) ≡ n
area_size false f n a b = a
area_size true f n a b = b

pub gate_within : (i : Identity) (bytes : List ℕ) (now : ℕ) (o : OpenedFile) → OpensFile bytes i now o → o.area.end.gate < o.current.header.area
gate_within i bytes now o h =
    let stands = h.area.stands in
    let gate = h.area.gate in
    let parts = ap length stands.area.parts in
    let size = area_size o.current.second h.made.file o.current.header.area h.made.found.first h.made.found.second in
    let both = length-append (front (dated stables) stands.first stands.changes) (CLOSED ∷ stands.area.rest) in
    omega (arith, gate, parts, size, both)

-- Names with the same parts are the same.

pub names_same : (a b : Names) → a.next ≡ b.next → a.limit ≡ b.limit → a.entries ≡ b.entries → a ≡ b
names_same a b next limit entries = rw (next, limit, entries) refl
