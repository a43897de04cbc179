-- What the calls that read a journal answer, by what their own calls answered.
use Rattle.std.proofs.Common.{◌≡◌, ◌≢◌, ℕ, ◌+◌, ◌^◌, ◌≤◌, ◌<◌, Bool, eqb, List, ◌∷◌, ◌++◌, length, get_or, take, drop, Result, Ok, Err, refl, sym, subst, inl, inr, arith}
use Rattle.std.specs.Prelude.{IsOk}
use Rattle.std.proofs.lemmas.Bool.{cases_Bool, eqb-true, eqb-false}
use Rattle.st_link.specs.Causes.{Rose}
use Rattle.st_rules.specs.Server.{Stable}
use Rattle.st_journal.specs.Changes.{Spells, word32}
use Rattle.st_journal.specs.Journal.{framed, IsDamaged}
use Rattle.st_journal.specs.Parts.{Applies}
use Rattle.st_journal.specs.Scan.{IsGateAt, IsFramedAt, IsUnframedAt, IsOpenAt, IsBareAt, IsDeadAt, IsReadTo, NotReached, NotRead, NotApplied, NotTaken, NotAllRead}
use Rattle.st_journal.specs.Stable.{apply}
use Rattle.st_journal.specs.declared.change.Change.{Change}
use Rattle.st_journal.specs.declared.scan.Scanned.{Scanned}
use Rattle.st_journal.specs.declared.stable.ChangeRefusal.{ChangeRefusal}
use Rattle.st_journal.specs.declared.stable.ChangeRefusal.TheVariants as refusals
use Rattle.st_journal.specs.declared.fault.JournalFault.{JournalFault}
use Rattle.st_journal.specs.declared.fault.JournalFault.TheVariants.{Damaged, Full, Store, Broken, Memory}
use Rattle.st_journal.proofs.ScannedBytes.{framed_at, unframed_text, open_at, bare_at, damaged_at}
use Rattle.st_journal.proofs.Unique.{framed_once}

-- A change that is refused is not applied.

abbrev Told : Type 0
Told = Result Stable ChangeRefusal

-- The gate before it is then one that no change follows which applies.
dead_refused : (bytes : List ℕ) (state : Stable) (at : ℕ) (x : Change) (count : ℕ) → IsOpenAt bytes at x count → (IsOk (apply state x) → ⊥) →
    IsDeadAt bytes state at
dead_refused bytes state at x count f refused = record {
  rest = framed x ++ f.gate ∷ f.rest;
  parts = f.parts;
  none = λ y gate more fit e ok.
      let one = framed_once x y (f.gate ∷ f.rest) (gate ∷ more) f.ranges fit e in
      refused (subst (λ (z : Change). IsOk (apply state z)) (sym one.0) ok);
}

pub taken_refused : (bytes : List ℕ) (state : Stable) (at a c : ℕ) (x : Change) (count : ℕ) (f : JournalFault) → IsOpenAt bytes at x count →
    NotApplied at (apply state x) f → NotTaken bytes state at a c f
taken_refused bytes state at a c x count Store found h = absurd h
taken_refused bytes state at a c x count Memory found h = h
taken_refused bytes state at a c x count (Damaged place) found h = (h.0, dead_refused bytes state at x count found h.1)
taken_refused bytes state at a c x count Broken found h = absurd h
taken_refused bytes state at a c x count (Full free asked) found h = absurd h

-- why a journal was not read whole, by why its next change was not taken
pub not_all_read : (bytes : List ℕ) (start state : Stable) (s : Scanned) (a b c : ℕ) (f : JournalFault) → IsReadTo bytes start state s →
    NotTaken bytes state s.gate b c f → a ≤ b → NotAllRead bytes start a c f
not_all_read bytes start state s a b c Store r h le = omega (arith, h, le)
not_all_read bytes start state s a b c Memory r h le = tt
not_all_read bytes start state s a b c (Damaged place) r h le = subst (λ (at : ℕ). IsDamaged start bytes at) (sym h.0) (damaged_at bytes start state s r h.1)
not_all_read bytes start state s a b c Broken r h le = absurd h
not_all_read bytes start state s a b c (Full free asked) r h le = absurd h

-- After a call that reads, the store reads as before.
module _ (bytes mid : List ℕ) (same : mid ≡ bytes) (at : ℕ) where
  module _ (count : ℕ) (number : take 4 (drop at bytes) ≡ word32 count) (small : count < 2 ^ 32) where
    pub framed_in : (x : Change) → at + count + 5 ≤ length bytes → Spells (take count (drop (at + 4) mid)) x → IsFramedAt bytes at x (count + 4)
    framed_in x room s = framed_at bytes at count number small x room (subst (λ (b : List ℕ). Spells (take count (drop (at + 4) b)) x) same s)

    pub unframed_in : ((x : Change) → Spells (take count (drop (at + 4) mid)) x → ⊥) → IsUnframedAt bytes at
    unframed_in none = unframed_text bytes at count number small (λ x s. none x (subst (λ (b : List ℕ). Spells (take count (drop (at + 4) b)) x) (sym same) s))

  pub open_in : (x : Change) (count : ℕ) → drop at bytes ≡ 1 ∷ drop (at + 1) bytes → IsFramedAt mid (at + 1) x count → IsOpenAt bytes at x (count + 1)
  open_in x count gate f = open_at bytes at x count gate (subst (λ (b : List ℕ). IsFramedAt b (at + 1) x count) same f)

  pub bare_in : drop at bytes ≡ 1 ∷ drop (at + 1) bytes → IsUnframedAt mid (at + 1) → IsBareAt bytes at
  bare_in gate none = bare_at bytes at gate (subst (λ (b : List ℕ). IsUnframedAt b (at + 1)) same none)
