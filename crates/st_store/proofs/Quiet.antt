-- What the calls of a store in memory never change.
use Rattle.std.proofs.Common.{◌≡◌, ℕ, Bool, true, false, Option, Result, Ok, Err, refl, sym, ap, ◌∙◌, subst, inl, inr, cond}
use Rattle.std.proofs.lemmas.Bool.{cond-false}
use Rattle.std.specs.List.{list_any}
use Rattle.st_link.specs.InMemory.{raised}
use Rattle.st_link.specs.declared.link.Failed.{Failed}
use Rattle.st_store.specs.Plans as plans
use Rattle.st_store.specs.Plans.{IsQuiet, planned, by_stop, counted_down}
use Rattle.st_store.specs.InMemory.{Contents, InMemory, Keeps, ReadBy, WriteBy, SyncBy, counted, failed, unrecorded, stopped, stopped_unrecorded, changed, with_sync}
use Rattle.st_store.specs.declared.plan.Plan.{Plan}
use Rattle.st_store.specs.declared.plan.Stop.{Stop}
use Rattle.st_store.specs.declared.plan.Outcome.{Outcome}
use Rattle.st_store.specs.declared.plan.Outcome.TheVariants.{Works, Fails, Stops}

abbrev stops_at : ℕ → Outcome
stops_at byte = Stops byte

planned_not : (b : Bool) (byte : ℕ) → cond b Fails Works ≡ stops_at byte → ⊥
planned_not true byte e = cc
planned_not false byte e = cc

-- if no stop is set, none comes
pub no_stop : (p : Plan) (byte : ℕ) → IsQuiet p → plans.outcome p ≡ stops_at byte → ⊥
no_stop p byte q e =
    let other : Outcome = planned p.failing.items (raised p.calls) in
    let runs : plans.outcome p ≡ by_stop p.stop other = cond-false _ _ _ q.runs in
    let unset : by_stop p.stop other ≡ other = ap (λ (s : Option Stop). by_stop s other) q.unset in
    planned_not (list_any (λ n. Rattle.std.specs.Prelude.eqb n (raised p.calls)) p.failing.items) byte (sym (runs ∙ unset) ∙ e)

module _ (old new : InMemory) where
  moved : (x : InMemory) → new ≡ x → Keeps old x → Keeps old new
  moved x e k = subst (λ (s : InMemory). Keeps old s) (sym e) k

  -- a call that leaves the plan so, with the stop counted down
  by_plan : (x : InMemory) → x.contents.size ≡ old.contents.size → x.plan.failing ≡ old.plan.failing → x.plan.stop ≡ counted_down old.plan.stop → x.plan.stopped ≡ old.plan.stopped → (old.starved ≡ true → x.starved ≡ true) → Keeps old x
  by_plan x n f s r y = record { size = n; failing = f; quiet = λ q. record { unset = s ∙ ap counted_down q.unset; runs = r ∙ q.runs }; starved = y }

  -- a call in which the store stops
  by_stopping : (x : InMemory) (byte : ℕ) → plans.outcome old.plan ≡ stops_at byte → x.contents.size ≡ old.contents.size → x.plan.failing ≡ old.plan.failing → (old.starved ≡ true → x.starved ≡ true) → Keeps old x
  by_stopping x byte is n f y = record { size = n; failing = f; quiet = λ q. absurd (no_stop old.plan byte q is); starved = y }

  pub read_keeps : (o : Outcome) (r : Result Unit Failed) → plans.outcome old.plan ≡ o → ReadBy o old new r → Keeps old new
  read_keeps Works (Ok done) is e = moved (counted old) e (by_plan (counted old) refl refl refl refl (λ y. y))
  read_keeps Works (Err f) is e = absurd e
  read_keeps Fails (Ok done) is e = absurd e
  read_keeps Fails (Err f) is e = moved (failed old) e (by_plan (failed old) refl refl refl refl (λ y. y))
  read_keeps (Stops byte) (Ok done) is e = absurd e
  read_keeps (Stops byte) (Err f) is e = moved (stopped old byte) e (by_stopping (stopped old byte) byte is refl refl (λ y. y))

  pub write_keeps : (next : Contents) → next.size ≡ old.contents.size → (o : Outcome) (r : Result Unit Failed) → plans.outcome old.plan ≡ o → WriteBy o old new next r → Keeps old new
  write_keeps next size Works (Ok done) is e = moved (changed (counted old) next) e (by_plan (changed (counted old) next) size refl refl refl (λ y. y))
  write_keeps next size Works (Err f) is e = moved (unrecorded old) e (by_plan (unrecorded old) refl refl refl refl (λ y. refl))
  write_keeps next size Fails (Ok done) is e = absurd e
  write_keeps next size Fails (Err f) is e = moved (failed old) e (by_plan (failed old) refl refl refl refl (λ y. y))
  write_keeps next size (Stops byte) (Ok done) is e = absurd e
  write_keeps next size (Stops byte) (Err f) is (inl e) = moved (stopped (changed old next) byte) e (by_stopping (stopped (changed old next) byte) byte is size refl (λ y. y))
  write_keeps next size (Stops byte) (Err f) is (inr e) = moved (stopped_unrecorded old) e (by_stopping (stopped_unrecorded old) byte is refl refl (λ y. refl))

  pub sync_keeps : (o : Outcome) (r : Result Unit Failed) → plans.outcome old.plan ≡ o → SyncBy o old new r → Keeps old new
  sync_keeps Works (Ok done) is e = moved (changed (counted old) (with_sync old.contents)) e (by_plan (changed (counted old) (with_sync old.contents)) refl refl refl refl (λ y. y))
  sync_keeps Works (Err f) is e = moved (unrecorded old) e (by_plan (unrecorded old) refl refl refl refl (λ y. refl))
  sync_keeps Fails (Ok done) is e = absurd e
  sync_keeps Fails (Err f) is e = moved (failed old) e (by_plan (failed old) refl refl refl refl (λ y. y))
  sync_keeps (Stops byte) (Ok done) is e = absurd e
  sync_keeps (Stops byte) (Err f) is e = moved (stopped old byte) e (by_stopping (stopped old byte) byte is refl refl (λ y. y))
