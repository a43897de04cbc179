-- What opening a journal gives, by what was read.
use Rattle.std.proofs.Common.{◌≡◌, ◌⊎◌, ℕ, ◌≤◌, ◌<◌, false, List, [], length, Option, Some, None, refl, sym, ap, ◌∙◌, subst, inl, inr, arith}
use Rattle.st_extents.specs.Layout.{Shape}
use Rattle.st_rules.specs.Names as names
use Rattle.st_rules.specs.Server as server
use Rattle.st_journal.specs.Journal.{all_opened, IsJournal}
use Rattle.st_journal.specs.OpenedJournal.{Opened, HasPrefix, NotOpened, Records, all_of, IsAtRest, Opens}
use Rattle.st_journal.specs.Scan.{IsReadTo, ReadsAll, NotAllRead, AreLow}
use Rattle.st_journal.specs.Stable.{after_changes, fresh}
use Rattle.st_store.specs.Store.{Only}
use Rattle.st_journal.specs.declared.change.Change.{Change}
use Rattle.st_journal.specs.declared.fault.JournalFault.{JournalFault}
use Rattle.st_journal.specs.declared.fault.JournalFault.TheVariants.{Damaged, Full, Store, Broken, Memory}
use Rattle.st_journal.specs.declared.scan.Scanned.{Scanned}
use Rattle.st_journal.proofs.ScannedBytes.{known_to}
use Rattle.st_journal.proofs.Unique.{one_journal, prefix_undamaged}

module _ {D : Type 0} (seen : D → List ℕ) (may_leave : D → List ℕ → Type 0) (start : server.Stable) (store : D) where
  -- what was read of a store that is synced
  pub opens : (new : D) (s : Scanned) (state : server.Stable) → ReadsAll (seen store) start state s → seen new ≡ seen store → Only (seen store) (may_leave new)
      → Opens seen may_leave start store (record { store = new; gate = s.gate; changes = s.changes; broken = false }) state
  opens new s state r same only = record {
    changes = r.changes;
    stands = r.stands;
    left = ap (λ (g : ℕ). at g s.changes) r.gate ∙ ap (λ (n : ℕ). at (length (all_opened r.changes)) n) r.count;
    same = same;
    durable = λ c left. only c left ∙ sym same;
  }
    where
      at : ℕ → ℕ → Opened D
      at g n = record { store = new; gate = g; changes = n; broken = false }

  -- it is at rest
  pub opens_at_rest : (new : D) (s : Scanned) (state : server.Stable) → ReadsAll (seen store) start state s → seen new ≡ seen store →
      Only (seen store) (may_leave new) → length (seen store) < 4294967296
      → IsAtRest seen may_leave (record { store = new; gate = s.gate; changes = s.changes; broken = false })
  opens_at_rest new s state r same only small = record {
    changes = r.changes;
    journal = subst (λ (b : List ℕ). IsJournal b r.changes) (sym same) r.stands.journal;
    gate = r.gate;
    count = r.count;
    durable = λ c left. only c left ∙ sym same;
    small = subst (λ (b : List ℕ). length b < 4294967296) (sym same) small;
  }

  -- and records the changes that were read
  pub opens_records : (j : Opened D) (state : server.Stable) → Opens seen may_leave start store j state → (acked : List Change) → IsJournal (seen store) acked →
      Records seen may_leave j acked None
  opens_records j state o acked i =
      let same : acked ≡ o.changes = one_journal (seen store) acked o.changes i o.stands.journal in
      record {
        gate = ap (λ (k : Opened D). k.gate) o.left ∙ ap (λ (xs : List Change). length (all_opened xs)) (sym same);
        count = ap (λ (k : Opened D). k.changes) o.left ∙ ap (λ (xs : List Change). length xs) (sym same);
        broken = ap (λ (k : Opened D). k.broken) o.left;
        reads = subst (λ (b : List ℕ). IsJournal b acked) (sym o.same) i;
        crash = λ c left. subst (λ (b : List ℕ). IsJournal b acked) (sym (o.durable c left ∙ o.same)) i;
      }

-- why a journal is not opened, by why it was not read
pub not_opened : (start : server.Stable) (bytes : List ℕ) (before now : ℕ) (f : JournalFault) → NotAllRead bytes start before now f →
    NotOpened start bytes before now f
not_opened start bytes before now (Damaged at) h = h
not_opened start bytes before now Store h = h
not_opened start bytes before now Memory h = h
not_opened start bytes before now Broken h = h
not_opened start bytes before now (Full free asked) h = h

-- Bytes that hold a prefix are read, unless the store fails or memory runs out.
pub only_faults : (start : server.Stable) (bytes : List ℕ) (before now : ℕ) (f : JournalFault) → NotAllRead bytes start before now f
    → (acked : List Change) (under_way : Option Change) (last : server.Stable) → after_changes (Some start) (all_of acked under_way) ≡ Some last →
    HasPrefix acked under_way bytes → (f ≡ Store) ⊎ (f ≡ Memory)
only_faults start bytes before now (Damaged at) h acked under_way last leads has = absurd (prefix_undamaged start bytes acked under_way at last leads has h)
only_faults start bytes before now Store h acked under_way last leads has = inl refl
only_faults start bytes before now Memory h acked under_way last leads has = inr refl
only_faults start bytes before now Broken h acked under_way last leads has = absurd h
only_faults start bytes before now (Full free asked) h acked under_way last leads has = absurd h

-- A fresh stable part has low counters.
pub fresh_low : (s : Shape) (t : server.Stable) → t ≡ fresh s → AreLow 0 t
unfolding names.fresh_names
fresh_low s t e = subst (λ (u : server.Stable). AreLow 0 u) (sym e) low
  where
    low : AreLow 0 (fresh s)
    low = record { epochs = omega arith; inodes = omega arith; births = omega arith }

-- Nothing is known of the bytes before the first change.
pub fresh_known : (s : Shape) (t : server.Stable) (bytes : List ℕ) → t ≡ fresh s → 1 ≤ length bytes →
    IsReadTo bytes (fresh s) t (record { gate = 0; changes = 0 })
fresh_known s t bytes e some = known_to bytes (fresh s) t [] bytes 0 0 refl some refl refl refl (ap (λ (u : server.Stable). Some u) (sym e)) (fresh_low s t e)
