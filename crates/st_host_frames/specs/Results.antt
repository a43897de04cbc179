-- A value, or why there is none; and a buffer into which items are written.
use Rattle.std.specs.Prelude.{◌≡◌, ◌⊎◌, ◌<◌, ℕ, List, length, take, drop, Result, Ok, Err}
use Rattle.st_host_frames.specs.declared.fault.HostFault.{HostFault}
use Rattle.st_host_frames.specs.declared.fault.HostFault.TheVariants as faults

-- what is made of a value, or the fault of the value
infixl 10 ◌>>=◌
abbrev pub ◌>>=◌ : {A B : Type 0} → Result A HostFault → (A → Result B HostFault) → Result B HostFault
(Ok x) >>= f = f x
(Err e) >>= f = Err e

-- why a call returned no value: it ran out of memory, or that fault is due
abbrev pub Fails : {Y : Type 0} → HostFault → Result Y HostFault → Type 0
Fails faults.Memory due = Unit {0}
Fails f due = due ≡ Err f

-- What a call returned, seen by view, is what is due, unless memory ran out.
abbrev pub Gives : {X Y : Type 0} → (X → Y) → Result X HostFault → Result Y HostFault → Type 0
Gives view (Ok x) due = due ≡ Ok (view x)
Gives view (Err f) due = Fails f due

-- The items come first in the buffer after the call. What follows them there is as before.
pub record Wrote {T : Type 0} (items before after : List T) (count : ℕ) : Type 0 where
  pub all : count ≡ length items
  pub first : take count after ≡ items
  pub others : drop count after ≡ drop count before

-- the items that are due were written
pub record Puts {T : Type 0} (due : Result (List T) HostFault) (before after : List T) (count : ℕ) : Type 0 where
  pub items : List T
  pub due_so : due ≡ Ok items
  pub wrote : Wrote items before after count

-- a buffer of this room is too short for the items that are due
pub record IsShort {T : Type 0} (due : Result (List T) HostFault) (room needed : ℕ) : Type 0 where
  pub items : List T
  pub due_so : due ≡ Ok items
  pub all : needed ≡ length items
  pub few : room < needed

abbrev pub TooShort : {T : Type 0} → Result (List T) HostFault → ℕ → HostFault → Type 0
TooShort due room (faults.Room n) = IsShort due room n
TooShort due room f = ⊥

-- why nothing was written: no items are due, or the buffer is too short for them
abbrev pub NotPut : {T : Type 0} → Result (List T) HostFault → ℕ → HostFault → Type 0
NotPut due room f = Fails f due ⊎ TooShort due room f
