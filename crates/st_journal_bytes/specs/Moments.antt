-- Moments: a snapshot and each record begin with the moment at which they were made.
use Rattle.std.specs.Prelude.{◌≡◌, ◌<◌, ◌^◌, ℕ, nat_lt, if◌then◌else◌, List, [], ◌∷◌, ◌++◌, length, take, Option, Some, None, option_map}
use Rattle.std.specs.Int.{w64, from_be_bytes}
use Rattle.st_journal_file.specs.Layout.{CLOSED, Format, IsArea, all_opened}
use Rattle.st_journal_bytes.specs.Plain.{plain}
use Rattle.st_journal_bytes.specs.Words.{word64}
use Rattle.st_journal_bytes.specs.declared.moment.MomentFault.{MomentFault}
use Rattle.st_journal_bytes.specs.declared.moment.MomentFault.TheVariants.{Undated, Earlier}

-- what was made, and when; a moment has a width of eight bytes
pub record Dated (A : Type 0) : Type 0 where
  pub moment : ℕ
  pub fits : moment < 2 ^ 64
  pub made : A

abbrev pub dated_bytes : ℕ → List ℕ → List ℕ
dated_bytes moment bytes = word64 moment ++ bytes

-- a state after a dated change
abbrev pub after_dated : {S C : Type 0} → Dated C → S → Dated S
after_dated x t = record { moment = x.moment; fits = x.fits; made = t }

-- Moments never fall: a change that is earlier than the state is refused.
abbrev pub apply_dated : {S C : Type 0} → Format S C → Dated S → Dated C → Option (Dated S)
apply_dated f t x = if nat_lt x.moment t.moment then None else option_map (after_dated x) (f.apply t.made x.made)

-- How a file spells states and changes with their moments.
abbrev pub dated : {S C : Type 0} → Format S C → Format (Dated S) (Dated C)
dated f =
    record {
      snapshot = λ t. dated_bytes t.moment (f.snapshot t.made);
      spelled = λ x. dated_bytes x.moment (f.spelled x.made);
      apply = λ t x. apply_dated f t x;
      sum =
          f.sum;
    }

-- the moment with which bytes begin, if they are long enough
abbrev pub moment_of : List ℕ → Option ℕ
moment_of bytes = if nat_lt (length bytes) 8 then None else Some (from_be_bytes w64 (take 8 bytes))

-- the later of two moments that must not fall
abbrev pub later : ℕ → Option ℕ → Option ℕ
later m None = None
later m (Some n) = if nat_lt n m then None else Some n

-- The moment of the last record; none, if a record has no moment or one that is earlier than the moment before it.

abbrev pub after_record : Option ℕ → List ℕ → Option ℕ
after_record None x = None
after_record (Some m) x = later m (moment_of x)

abbrev pub after_records : Option ℕ → List (List ℕ) → Option ℕ
after_records o [] = o
after_records o (x ∷ xs) = after_records (after_record o x) xs

-- The bytes are records after open gates, and then a closed gate; and this is the moment of the last one after the first moment.
pub record HaveMoment (bytes : List ℕ) (first last : Option ℕ) : Type 0 where
  pub records : List (List ℕ)
  pub rest : List ℕ
  pub parts : bytes ≡ all_opened plain records ++ CLOSED ∷ rest
  pub moment : last ≡ after_records first records

-- the moment of the last record of an area, or of its snapshot if there is no record
pub record HasMoment (bytes : List ℕ) (last : Option ℕ) : Type 0 where
  pub snapshot : List ℕ
  pub records : List (List ℕ)
  pub area : IsArea plain bytes snapshot records
  pub moment : last ≡ after_records (moment_of snapshot) records

-- why a journal with this last moment is not opened now
abbrev pub IsEarly : Option ℕ → ℕ → MomentFault → Type 0
IsEarly last now Undated = last ≡ None
IsEarly last now (Earlier m) = (last ≡ Some m) × (now < m)
