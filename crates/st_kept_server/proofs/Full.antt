-- Room for any record is room for the one that a step makes.
use Rattle.st_lemmas.proofs.Words
use Words.{◌≡◌, ℕ, ◌≤◌, true, length, Option, Some, None, IfSome, is_some, arith, length-append}
use Rattle.st_durable.specs.Durable.{IsAsked, Tells, asked}
use Rattle.st_journal.specs.Changes.{bytes_of, fits}
use Rattle.st_journal.specs.declared.change.Change.{Change}
use Rattle.st_journal.specs.declared.change.Change.TheVariants.{Epoch}
use Rattle.st_journal.proofs.ScannedBytes.{bytes_few}
use Rattle.st_journal_bytes.proofs.Numbers.{length-word64}
use Rattle.st_journal_bytes.specs.Moments.{dated_bytes}
use Rattle.st_journal_bytes.specs.Words.{word64}
use Rattle.st_kept_histories.specs.Kept.{IsFullOf}
use Rattle.st_kept_journal.specs.Keeping.{IsFullFor, Keeping}
use Rattle.st_rules.specs.Server.{Stable}
use Rattle.st_rules.specs.declared.input.ServerInput.{ServerInput}

abbrev pub AllFit : Option Change → Type 0
AllFit o = IfSome o (λ x. fits x ≡ true)

-- the numbers of a change that was made are in their ranges
pub told_fits : (old new : Stable) (o : Option Change) → Tells old new o → AllFit o
told_fits old new None t = tt
told_fits old new (Some x) t = t.ranges

record_few : (moment : ℕ) (x : Change) → fits x ≡ true → length (dated_bytes moment (bytes_of x)) ≤ 529
record_few moment x f = omega (arith, length-append (word64 moment) (bytes_of x), length-word64 moment, bytes_few x f)

pub never_full : (j : Keeping) (moment : ℕ) (i : ServerInput) (o : Option Change) → (is_some (asked i) ≡ true → IsFullFor j 529 → ⊥) → IsAsked i o → AllFit o →
    IsFullOf j moment o → ⊥
never_full j moment i None room a f full = full
never_full j moment i (Some x) room a f full = room (Words.ap is_some a) (omega (arith, record_few moment x f, full))

pub epoch_fits : (o : Option Change) → o ≡ Some Epoch → AllFit o
unfolding fits
epoch_fits None e = tt
epoch_fits (Some x) e = let is : x ≡ Epoch = cc in Words.ap (λ (y : Change). fits y) is

-- the record of a change that begins an epoch has nine bytes
pub epoch_full : (j : Keeping) (moment : ℕ) (o : Option Change) → o ≡ Some Epoch → IsFullOf j moment o → IsFullFor j 9
unfolding bytes_of
epoch_full j moment None e full = absurd full
epoch_full j moment (Some x) e full =
    let is : x ≡ Epoch = cc in
    let few : length (bytes_of x) ≡ 1 = Words.ap (λ (y : Change). length (bytes_of y)) is in
    omega (arith, full, few, length-append (word64 moment) (bytes_of x), length-word64 moment)
