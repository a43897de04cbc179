-- A server that was opened, with the change that begins its epoch.
use Rattle.st_lemmas.proofs.Words
use Words.{◌≡◌, ℕ, ◌+◌, ◌^◌, ◌≤◌, true, List, [], Option, Result, Ok, Err, IfOk, refl, sym, ap, subst, ◌∙◌, and_from, lt-ltb, arith, is_some, nat_lt, Stamp}
use Rattle.std.specs.Prelude.{IfErr}
use Rattle.st_durable.specs.Durable.{DurableServer}
use Rattle.st_held_steps.specs.Held as held
use Rattle.st_journal.specs.declared.change.Change.{Change}
use Rattle.st_journal_bytes.specs.declared.header.Identity.{Identity}
use Rattle.st_kept_histories.specs.Kept.{KeptServer, holding, moment_after, with_change}
use Rattle.st_kept_histories.specs.Opened.{NotAdded, NotOpened, Opens, OpensServer}
use Rattle.st_kept_histories.specs.declared.fault.KeptFault.{KeptFault}
use Rattle.st_kept_histories.specs.declared.fault.KeptFault.TheVariants as faults
use Rattle.st_kept_journal.specs.Keeping.{IsFullFor, Keeping}
use Rattle.st_kept_journal.specs.declared.task.Task.TheVariants as tasks
use Rattle.st_kept_server.specs.Begun.{begun_with, no_steps}

-- at least one change may wait, so the change that begins the epoch may
pub may_begin : (d : DurableServer) (j : Keeping) (now : Stamp) (limit : ℕ) (e : KeptServer) → e ≡ begun_with d j now limit → 1 ≤ limit →
    held.may_step e.steps ≡ true
may_begin d j now limit e is some =
    ap (λ (x : KeptServer). held.may_step x.steps) is ∙
    and_from (nat_lt 0 (0 + limit)) (nat_lt 0 (2 ^ 62)) (lt-ltb 0 (0 + limit) (omega (arith, some))) (lt-ltb 0 (2 ^ 62) (omega arith))

module _ (bytes : List ℕ) (i : Identity) (now : Stamp) (d : DurableServer) (j : Keeping) (o : OpensServer bytes i now d j) where
  pub at_rest : j.task ≡ tasks.Rest
  at_rest = ap (λ (k : Keeping). k.task) o.journal

  holds : (limit : ℕ) → now.0 ≤ 2 ^ 62 → Opens bytes i now limit (holding (begun_with d j now limit) now [])
  holds limit time = record {
    in_time = time;
    start = j;
    opens = o;
    journal = ap (λ (x : Option Change). with_change j now.0 x) o.changed;
    steps = ap (λ (x : Option Change). held.stepped (no_steps limit) [] (is_some x)) o.changed;
    stage = refl;
    moment = ap (λ (x : Option Change). moment_after now.0 now.0 (is_some x)) o.changed;
    last = refl;
  }

  pub opens : (limit : ℕ) (new : KeptServer) → now.0 ≤ 2 ^ 62 → new ≡ holding (begun_with d j now limit) now [] → Opens bytes i now limit new
  opens limit new time e = subst (λ (n : KeptServer). Opens bytes i now limit n) (sym e) (holds limit time)

  pub not_added : (f : KeptFault) → NotAdded j f → NotOpened bytes i now f
  not_added faults.Unmade h = absurd h
  not_added (faults.File f) h = absurd h
  not_added faults.NoEpoch h = absurd h
  not_added faults.Epochs h = absurd h
  not_added faults.NotTold h = absurd h
  not_added faults.Full h = record { file = o.file; opens = o.opens; why = subst (λ (k : Keeping). IsFullFor k 9) o.journal h }
  not_added faults.Memory h = tt

  -- the same of a result

  pub first_opens : (limit : ℕ) → now.0 ≤ 2 ^ 62 → (r : Result KeptServer KeptFault) → IfOk r (λ e. e ≡ holding (begun_with d j now limit) now []) →
      IfOk r (Opens bytes i now limit)
  first_opens limit time (Ok e) h = opens limit e time h
  first_opens limit time (Err f) h = tt

  pub first_not_opened : (r : Result KeptServer KeptFault) → IfErr r (NotAdded j) → IfErr r (NotOpened bytes i now)
  first_not_opened (Ok e) h = tt
  first_not_opened (Err f) h = not_added f h
