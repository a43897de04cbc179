-- How a script of a journal ended, with its store.
use Rattle.std.proofs.Common.{◌≡◌, ℕ, List, refl, sym, subst, arith}
use Rattle.std.specs.Prelude.{Option, Some, None, Result, Ok, Err, IsOk, IfErr, IfOk, OnOk, IfSome}
use Rattle.st_store.specs.InMemory.{InMemory}
use Rattle.st_script.specs.declared.fault.ScriptFault.{ScriptFault}
use Rattle.st_script.specs.declared.fault.ScriptFault.TheVariants as faults
use Rattle.st_script.specs.Ends.{HasCauses, IsWhole, Reports}
use Rattle.st_script_journal.specs.JournalRuns.{HasChanges, Leaves, Running, Stands}
use Rattle.st_script_journal.specs.JournalScripts.{JournalState}
use Rattle.st_script.specs.Scripts.{Ending, Outcome, Stopped, Whole}
use Rattle.st_script.proofs.Outcomes.{unwritten, weaker}

-- the state of a script that went through its end
record EndsIn {State : Type 0} (holds : State → Type 0) (e : Ending State) : Type 0 where
  state : State
  is : e ≡ Whole state
  held : holds state

ends_in : {State : Type 0} (holds : State → Type 0) (e : Ending State) → IsWhole holds e → EndsIn holds e
ends_in holds (Whole s) h = record { state = s; is = refl; held = h }
ends_in holds (Stopped line) h = absurd h

-- the script's value stands for a state, after some events
abbrev pub Stood : Option Running → JournalState → Type 0
Stood running s = (n : ℕ) × Stands s running

module _ (running : Option Running) (before now : Option (List ℕ)) where
  one_store : (r : Result InMemory ScriptFault) (o : Outcome JournalState) → ((s : JournalState) → Stands s running → IfOk r (HasChanges s)) → ((s : JournalState) → Stands s running → IsOk r) →
      Reports (Stood running) (Ok tt) before now o → Leaves r before now o
  one_store (Ok store) o has there h =
      let e = ends_in (Stood running) o.ending h.0 in
      (subst (IsWhole (λ s. HasChanges s store)) (sym e.is) (has e.state e.held.1), h.1)
  one_store (Err f) o has there h = let e = ends_in (Stood running) o.ending h.0 in let no = there e.state e.held.1 in absurd cc

  -- the store that is given back
  pub store_leaves : (r : Result InMemory ScriptFault) (left : Option (List ℕ)) (o : List ℕ → Outcome JournalState) → ((s : JournalState) → Stands s running → IfOk r (HasChanges s)) →
      ((s : JournalState) → Stands s running → IsOk r) → IfSome left (λ bytes. Reports (Stood running) (Ok tt) before now (o bytes)) → IfSome left (λ bytes. Leaves r before now (o bytes))
  store_leaves r None o has there h = tt
  store_leaves r (Some bytes) o has there h = one_store r (o bytes) has there h

  -- a script that did not go through its end
  pub fault_leaves : (f : ScriptFault) (left : Option (List ℕ)) (o : List ℕ → Outcome JournalState) → IfSome left (λ bytes. Reports (Stood running) (Err f) before now (o bytes)) →
      IfSome left (λ bytes. Leaves (Err f) before now (o bytes))
  fault_leaves f None o h = tt
  fault_leaves f (Some bytes) o h = weaker (Stood running) (λ s. Unit {0}) (Err f) before now (o bytes) (λ s k. tt) h

-- no count of faults rose
pub store_causes : (r : Result InMemory ScriptFault) (a b c d : ℕ) → IfErr r (λ f. f ≡ faults.Memory) → (b ≡ a) × (d ≡ c) → HasCauses r a b c d
store_causes (Ok store) a b c d f h = h
store_causes (Err f) a b c d is h = subst (λ (k : ScriptFault). HasCauses {T = InMemory} (Err k) a b c d) (sym is) (omega (arith, h.0), omega (arith, h.1))
