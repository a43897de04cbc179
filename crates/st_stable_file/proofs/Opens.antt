-- A file that stands for a state is opened as that state.
use Rattle.std.proofs.Common.{◌≡◌, ℕ, ◌<◌, ◌≤◌, List, Option, Some, None, refl, sym, ap, ◌∙◌, subst, arith}
use Rattle.std.specs.Prelude.{Result, Ok, Err}
use Rattle.st_journal_bytes.specs.Files.{IsMadeFile}
use Rattle.st_journal_bytes.specs.Moments.{Dated}
use Rattle.st_journal_bytes.specs.declared.file.Current.{Current}
use Rattle.st_journal_bytes.specs.declared.file.FileFault.{FileFault}
use Rattle.st_journal_bytes.specs.declared.header.Identity.{Identity}
use Rattle.st_journal_file.specs.Layout.{area_of}
use Rattle.st_rules.specs.Server.{Stable}
use Rattle.st_stable_file.specs.Opened.{CanBeOpened, Opens}
use Rattle.st_stable_file.specs.OpenedFile.{IsOpenedTo, OpensFile, StandsForStable, shape_of}
use Rattle.st_stable_file.specs.declared.area.OpenedArea.{OpenedArea}
use Rattle.st_stable_file.specs.declared.fault.StableFault.{StableFault}
use Rattle.st_stable_file.specs.declared.file.OpenFault.{OpenFault}
use Rattle.st_stable_file.specs.declared.file.OpenFault.TheVariants as faults
use Rattle.st_stable_file.specs.declared.file.OpenedFile.{OpenedFile}

-- a file whose area that counts is opened
pub opens_file : (bytes : List ℕ) (wanted : Identity) (now : ℕ) (current : Current) (o : OpenedFile) → o.current ≡ current →
    (m : IsMadeFile bytes wanted current) →
    ((n : IsMadeFile bytes wanted current) → Opens (shape_of wanted) (area_of current.second n.file) o.area) → o.area.end.moment ≤ now →
    OpensFile bytes wanted now o
opens_file bytes wanted now current o e m g early =
    let both = subst (λ (c : Current). (n : IsMadeFile bytes wanted c) × Opens (shape_of wanted) (area_of c.second n.file) o.area) (sym e) (m, g m) in
    record { made = both.0; area = both.1; early = early }

abbrev found : Option Current → Result (Option Current) FileFault
found o = Ok o

not_refused : (f : FileFault) (c : Current) → Err f ≡ found (Some c) → ⊥
not_refused f c e = cc

not_unmade : (c : Current) → found None ≡ found (Some c) → ⊥
not_unmade c e = cc

same_found : (b c : Current) → found (Some b) ≡ found (Some c) → b ≡ c
same_found b c e = cc

module _ (bytes : List ℕ) (wanted : Identity) (now : ℕ) (read : Result (Option Current) FileFault)
    (exact : (c : Current) → IsMadeFile bytes wanted c → read ≡ found (Some c)) (state : Dated Stable) (h : StandsForStable bytes wanted now state) where
  pub is_read : (f : FileFault) → read ≡ Err f → ⊥
  is_read f e = not_refused f h.current (sym e ∙ exact h.current h.made)

  pub is_made : read ≡ found None → ⊥
  is_made e = not_unmade h.current (sym e ∙ exact h.current h.made)

  -- what is opened of the area is this state
  pub opened_to : (current : Current) (r : Result OpenedFile OpenFault) → read ≡ found (Some current) →
      ((m : IsMadeFile bytes wanted current) (s : Dated Stable) → CanBeOpened (shape_of wanted) (area_of current.second m.file) s → IsOpenedTo s r) →
      IsOpenedTo state r
  opened_to current r e g =
      let same : current ≡ h.current = same_found current h.current (sym e ∙ exact h.current h.made) in
      subst (λ (c : Current). (m : IsMadeFile bytes wanted c) (s : Dated Stable) → CanBeOpened (shape_of wanted) (area_of c.second m.file) s → IsOpenedTo s r)
      same g h.made state h.area

pub not_earlier : (now last : ℕ) (bytes : List ℕ) (wanted : Identity) (state : Dated Stable) → StandsForStable bytes wanted now state → last ≡ state.moment →
    now < last → ⊥
not_earlier now last bytes wanted state h e l = let early = h.early in omega (arith, e, l, early)
