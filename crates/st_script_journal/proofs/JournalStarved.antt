-- If no stop is set and no call must fail, a call of the store fails only if the store is starved.
use Rattle.std.proofs.Common.{◌≡◌, ℕ, ◌+◌, true, List, [], ◌∷◌, ◌++◌, Option, Result, Ok, Err, sym, ap, ◌∙◌, subst, inl, inr}
use Rattle.std.proofs.lemmas.Bool.{cond-false}
use Rattle.st_link.specs.InMemory.{raised}
use Rattle.st_link.specs.declared.link.Failed.{Failed}
use Rattle.st_store.specs.InMemory.{Contents, InMemory, SyncBy, Syncs, WriteBy, Writes, changed, counted, with_sync, with_write}
use Rattle.st_journal.specs.Journal.{framed}
use Rattle.st_journal.specs.OpenedJournal.{Calls, Opened}
use Rattle.st_store.specs.Plans as plans
use Rattle.st_store.specs.Plans.{IsQuiet, by_stop, planned}
use Rattle.st_store.specs.Store.{Step, Then}
use Rattle.st_journal.specs.Appends.{WritesSynced}
use Rattle.st_journal.specs.declared.change.Change.{Change}
use Rattle.st_journal.specs.declared.fault.JournalFault.TheVariants.{Store}
use Rattle.st_store.specs.declared.plan.Outcome.{Outcome}
use Rattle.st_store.specs.declared.plan.Outcome.TheVariants.{Works}
use Rattle.st_store.specs.declared.plan.Plan.{Plan}
use Rattle.st_store.specs.declared.plan.Stop.{Stop}
use Rattle.st_script_journal.specs.JournalRuns.{IsSound}

abbrev Answered : Type 0
Answered = Result Unit Failed

abbrev went_well : Answered
went_well = Ok tt

abbrev failed_with : Failed → Answered
failed_with f = Err f

-- the calls of the store in memory
abbrev pub wrote : InMemory → ℕ → List ℕ → Answered → InMemory → Type 0
wrote s at bytes r t = Writes s t at bytes r

abbrev pub synced : InMemory → Answered → InMemory → Type 0
synced s r t = Syncs s t r

-- the next call works
works : (p : Plan) → IsSound p → plans.outcome p ≡ Works
works p s =
    let runs : plans.outcome p ≡ by_stop p.stop (planned p.failing.items (raised p.calls)) = cond-false _ _ _ s.quiet.runs in
    let unset : by_stop p.stop (planned p.failing.items (raised p.calls)) ≡ planned p.failing.items (raised p.calls) =
    ap (λ (o : Option Stop). by_stop o (planned p.failing.items (raised p.calls))) s.quiet.unset in
    runs ∙ unset ∙ ap (λ (l : List ℕ). planned l (raised p.calls)) s.none

sound_counted : (s : InMemory) (next : Contents) → IsSound s.plan → IsSound (changed (counted s) next).plan
sound_counted s next h = record { none = h.none; quiet = record { unset = ap plans.counted_down h.quiet.unset; runs = h.quiet.runs } }

-- a step after which the store is sound if it went well, and starved if it failed
record IsTame (step : Step InMemory) : Type 0 where
  sound : (s t : InMemory) → IsSound s.plan → step s went_well t → IsSound t.plan
  starved : (s t : InMemory) (f : Failed) → IsSound s.plan → step s (failed_with f) t → t.starved ≡ true

tame_write : (at : ℕ) (bytes : List ℕ) → IsTame (λ s r t. wrote s at bytes r t)
tame_write at bytes = record {
  sound = λ s t h w.
      let is = subst (λ (o : Outcome). WriteBy o s t (with_write s.contents at bytes) went_well) (works s.plan h) w in
      subst (λ (k : InMemory). IsSound k.plan) (sym is) (sound_counted s (with_write s.contents at bytes) h);
  starved = λ s t f h w.
      let is = subst (λ (o : Outcome). WriteBy o s t (with_write s.contents at bytes) (failed_with f)) (works s.plan h) w in
      ap (λ (k : InMemory). k.starved) is;
}

tame_sync : IsTame synced
tame_sync = record {
  sound = λ s t h w.
      let is = subst (λ (o : Outcome). SyncBy o s t went_well) (works s.plan h) w in
      subst (λ (k : InMemory). IsSound k.plan) (sym is) (sound_counted s (with_sync s.contents) h);
  starved = λ s t f h w.
      let is = subst (λ (o : Outcome). SyncBy o s t (failed_with f)) (works s.plan h) w in
      ap (λ (k : InMemory). k.starved) is;
}

not_failed : (f : Failed) → went_well ≡ failed_with f → ⊥
not_failed f e = cc

tame_then : (a b : Step InMemory) → IsTame a → IsTame b → IsTame (Then a b)
tame_then a b p q = record { sound = sound; starved = starved }
  where
    sound : (s t : InMemory) → IsSound s.plan → Then a b s went_well t → IsSound t.plan
    sound s t h (inl w) = q.sound w.0 t (p.sound s w.0 h w.1) w.2
    sound s t h (inr w) = absurd (not_failed w.0 w.1)

    starved : (s t : InMemory) (f : Failed) → IsSound s.plan → Then a b s (failed_with f) t → t.starved ≡ true
    starved s t f h (inl w) = q.starved w.0 t f (p.sound s w.0 h w.1) w.2
    starved s t f h (inr w) = p.starved s t w.0 h w.2

tame_synced : (at : ℕ) (bytes : List ℕ) → IsTame (WritesSynced wrote synced at bytes)
tame_synced at bytes = tame_then (λ s r t. wrote s at bytes r t) synced (tame_write at bytes) tame_sync

-- an append that fails at the store leaves it starved
pub append_starved : (old new : Opened InMemory) (x : Change) → IsSound old.store.plan → Calls wrote synced old new x (Err Store) → new.store.starved ≡ true
append_starved old new x h calls =
    let bytes = framed x ++ 0 ∷ [] in
    (tame_then (WritesSynced wrote synced (old.gate + 1) bytes) (WritesSynced wrote synced old.gate (1 ∷ [])) (tame_synced (old.gate + 1) bytes) (tame_synced old.gate (1 ∷ []))).starved
    old.store new.store calls.0 h calls.1
