-- What a reassertion needs, and what accepting it leaves.
use Rattle.std.specs.Prelude.{◌≡◌, Bool, not, Result, Ok, Err}
use Rattle.std.specs.List.{list_any}
use Rattle.st_base.specs.declared.ids.ClientId.{ClientId}
use Rattle.st_base.specs.declared.ids.Life.{Life}
use Rattle.st_rules.specs.declared.authority.AcceptRefusal.{AcceptRefusal}
use Rattle.st_rules.specs.declared.authority.AcceptRefusal.TheVariants as grace
use Rattle.st_rules.specs.Grace.{Accepted}
use Rattle.st_rules.specs.Locks.{Locks}
use Rattle.st_rules.specs.Sessions.{Sessions}
pub use Rattle.st_locks.specs.Calls.{is_row_from}
use Rattle.st_reassert.specs.declared.refusal.ReassertRefusal.{ReassertRefusal}
use Rattle.st_reassert.specs.declared.refusal.ReassertRefusal.TheVariants as refusals

-- the client has no row of this life or a higher one
abbrev pub is_older : Locks → ClientId → Life → Bool
is_older l c life = not (list_any (is_row_from c life) l.rows)

-- the rule's refusals, as a call tells them
abbrev pub as_told : AcceptRefusal → ReassertRefusal
as_told (grace.GraceOver start now) = refusals.GraceOver start now
as_told (grace.Conflict ino holder) = refusals.Conflict ino holder
as_told (grace.NotHolder ino g) = refusals.NotHolder ino g

-- what the rule gives, as a call tells it
abbrev pub told : Result Accepted AcceptRefusal → Result Accepted ReassertRefusal
told (Ok a) = Ok a
told (Err r) = Err (as_told r)

-- the locks and the sessions before a call, or after it
pub record Parts : Type 0 where
  pub locks : Locks
  pub sessions : Sessions

-- Accepting leaves what the rule says, or returns its refusal; then nothing changed. If it runs out of memory, nothing is promised about the locks and the
-- sessions.
abbrev pub Accepts : Parts → Parts → Result Unit ReassertRefusal → Result Accepted AcceptRefusal → Type 0
Accepts old new (Ok done) rule = rule ≡ Ok (record { locks = new.locks; sessions = new.sessions })
Accepts old new (Err refusals.Memory) rule = Unit {0}
Accepts old new (Err f) rule = (told rule ≡ Err f) × (new ≡ old)
