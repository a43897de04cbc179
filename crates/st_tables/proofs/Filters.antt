-- A value that passes, in std's words.
use Rattle.std.proofs.Common.{◌≡◌, Bool, refl}
use Rattle.std.specs.Prelude.{Option, Some, None}
use Rattle.std.proofs.lemmas.Map.Entries.{option_filter}
use Rattle.st_tables.specs.Tables.{kept}

pub filter_kept : {A : Type 0} (p : A → Bool) (o : Option A) → option_filter p o ≡ kept p o
filter_kept p None = refl
filter_kept p (Some x) = refl
