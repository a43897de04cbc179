-- What a change makes of the state of a script, and what it is answered.
use Rattle.std.proofs.Common.{◌≡◌, ℕ, Bool, true, false, List, [], ◌∷◌, ◌++◌, length, Option, Some, None, Result, Ok, Err, refl, sym, ap, ◌∙◌, subst, arith, length-append}
use Rattle.std.specs.Prelude.{IfOk, if◌then◌else◌, nat_lt}
use Rattle.std.proofs.lemmas.Bool.{le-ltb, lt-ltb}
use Rattle.st_rules.specs.Server.{Stable}
use Rattle.st_journal.specs.OpenedJournal.{Opened}
use Rattle.st_store.specs.InMemory.{InMemory}
use Rattle.st_journal.specs.Parts.{Applies, checked}
use Rattle.st_journal.specs.Stable.{apply}
use Rattle.st_journal.specs.Stops.{after_stop}
use Rattle.st_journal.specs.declared.change.Change.{Change}
use Rattle.st_journal.specs.declared.stable.ChangeRefusal.{ChangeRefusal}
use Rattle.st_journal.specs.declared.stable.ChangeRefusal.TheVariants.{Names, NoFile, NoSpace, Memory}
use Rattle.st_script_journal.specs.JournalRuns.{Comes, Holds, IsOpen, Leads, Running, Starts, answer_text, stable_after}
use Rattle.st_script_journal.specs.JournalScripts.{IsAnswered, JournalState, after_change, appended, appended_text, change_answer, change_text, changed, fresh_journal, keeps, with_change, without_change}
use Rattle.st_script_journal.specs.Stops.{SetStop}
use Rattle.st_script_journal.specs.declared.journal_run.JournalAnswer.{JournalAnswer}
use Rattle.st_script_journal.specs.declared.journal_run.JournalAnswer.TheVariants.{Done, Refused, Stopped}
use Rattle.st_script_journal.proofs.JournalRuns.{leads_on}

abbrev done : Stable → Result Stable ChangeRefusal
done u = Ok u

abbrev none : Option SetStop
none = None

module _ (s : JournalState) (x : Change) where
  module _ (u : Stable) (e : apply s.stable x ≡ done u) where
    -- the state after an append, with the stop that is set
    by_stop : (o : Option SetStop) → s.stop ≡ o → appended s x u o ≡ after_change s x
    by_stop o set = ap (appended s x u) (sym set) ∙ ap (changed s x) (sym e)

    -- and its answer
    text_by_stop : (o : Option SetStop) → s.stop ≡ o → appended_text o ≡ change_answer s x
    text_by_stop o set = ap appended_text (sym set) ∙ ap (change_text s.stop) (sym e)

    done_comes : (y : Running × JournalAnswer) → s.stop ≡ none → Starts (s.changes ++ x ∷ []) u y.0 × (y.1 ≡ Done) → Comes s x y
    done_comes y unset h = (
      subst (λ (t : JournalState). Holds t y.0) (by_stop None unset) (record { opened = h.0.opened; stable = h.0.stable; stop = h.0.unset }),
      ap answer_text h.1 ∙ text_by_stop None unset,
    )

    -- no stop was set
    pub comes_done : {E : Type 0} (r : Result (Running × JournalAnswer) E) → s.stop ≡ none → IfOk r (λ y. Starts (s.changes ++ x ∷ []) u y.0 × (y.1 ≡ Done)) →
        IfOk r (Comes s x)
    comes_done (Ok y) unset h = done_comes y unset h
    comes_done (Err f) unset h = tt

    module _ (p : SetStop) (set : s.stop ≡ Some p) where
      kept_or_lost : (b : Bool) (r : Running) → Starts (if b then s.changes ++ x ∷ [] else s.changes) (if b then u else s.stable) r →
          Holds (if b then with_change s x u else without_change s) r
      kept_or_lost true r h = record { opened = h.opened; stable = h.stable; stop = h.unset }
      kept_or_lost false r h = record { opened = h.opened; stable = h.stable; stop = h.unset }

      stopped_comes : (y : Running × JournalAnswer) → Starts (after_stop p.call p.byte x s.changes) (stable_after p s.stable u) y.0 ×
          (y.1 ≡ Stopped (keeps p)) → Comes s x y
      stopped_comes y h =
          (subst (λ (t : JournalState). Holds t y.0) (by_stop (Some p) set) (kept_or_lost (keeps p) y.0 h.0), ap answer_text h.1 ∙ text_by_stop (Some p) set)

      -- this stop was set
      pub comes_stopped : {E : Type 0} (r : Result (Running × JournalAnswer) E) →
          IfOk r (λ y. Starts (after_stop p.call p.byte x s.changes) (stable_after p s.stable u) y.0 × (y.1 ≡ Stopped (keeps p))) → IfOk r (Comes s x)
      comes_stopped (Ok y) h = stopped_comes y h
      comes_stopped (Err f) h = tt

  -- it was refused
  pub comes_refused : (f : ChangeRefusal) (r : Running) → apply s.stable x ≡ Err f → Holds s r → Comes s x (r, Refused f)
  comes_refused f r e h = (subst (λ (t : JournalState). Holds t r) (ap (changed s x) (sym e)) h, ap (change_text s.stop) (sym e))

-- a refusal that is answered is that of the rule, and changes nothing
pub refused : (old new : Stable) (f : ChangeRefusal) (rule : Result Stable ChangeRefusal) → IsAnswered f → Applies old new (Err f) rule →
    (rule ≡ Err f) × (new ≡ old)
refused old new (Names n) rule a h = h
refused old new (NoFile ino) rule a h = h
refused old new (NoSpace free asked) rule a h = h
refused old new Memory rule a h = absurd a

module _ (f g : ChangeRefusal) (told : (g ≡ f) × IsAnswered g) where
  told_refused : (old new : Stable) (rule : Result Stable ChangeRefusal) → Applies old new (Err f) rule → (rule ≡ Err f) × (new ≡ old)
  told_refused old new rule h = refused old new f rule (subst IsAnswered told.0 told.1) h

  pub refused_open : (j : Opened InMemory) (xs : List Change) (old new : Stable) (rule : Result Stable ChangeRefusal) → IsOpen j xs old →
      Applies old new (Err f) rule → IsOpen j xs new
  refused_open j xs old new rule o h = subst (λ (t : Stable). IsOpen j xs t) (sym (told_refused old new rule h).1) o

  pub refused_comes : (s : JournalState) (x : Change) (j : Opened InMemory) (new : Stable) (stop : Option SetStop) (r : Running) →
      r ≡ record { journal = j; stable = new; stop = stop } →
      stop ≡ s.stop → IsOpen j s.changes s.stable → Applies s.stable new (Err f) (apply s.stable x) → Comes s x (r, Refused g)
  refused_comes s x j new stop r is set o h =
      let both = told_refused s.stable new (apply s.stable x) h in
      let holds = subst (λ (k : Running). Holds s k) (sym is) (record { opened = o; stable = both.1; stop = set }) in
      subst (λ (k : ChangeRefusal). Comes s x (r, Refused k)) (sym told.0) (comes_refused s x f r both.0 holds)

-- A stop.

-- what the changes lead to
pub leads_stopped : (p : SetStop) (xs : List Change) (x : Change) (t u : Stable) → Leads xs t → apply t x ≡ Ok u →
    Leads (after_stop p.call p.byte x xs) (stable_after p t u)
leads_stopped p xs x t u l e = by_kept (keeps p)
  where
    by_kept : (b : Bool) → Leads (if b then xs ++ x ∷ [] else xs) (if b then u else t)
    by_kept true = leads_on xs t u x l e
    by_kept false = l

-- the journal has one change more exactly when the change is kept
pub kept_is : (p : SetStop) (xs : List Change) (x : Change) → nat_lt (length xs) (length (after_stop p.call p.byte x xs)) ≡ keeps p
kept_is p xs x = by_kept (keeps p)
  where
    by_kept : (b : Bool) → nat_lt (length xs) (length (if b then xs ++ x ∷ [] else xs)) ≡ b
    by_kept true = lt-ltb (length xs) (length (xs ++ x ∷ [])) (omega (arith, length-append xs (x ∷ [])))
    by_kept false = le-ltb (length xs) (length xs) (omega arith)

-- the answer of an append in which the store stopped
pub stopped_answer : (j : Opened InMemory) (p : SetStop) (xs : List Change) (x : Change) (t state : Stable) (before : ℕ) (kept : Bool) (r : Running) →
    IsOpen j xs t → before ≡ j.changes →
    kept ≡ nat_lt before r.journal.changes → Starts (after_stop p.call p.byte x xs) state r → Stopped kept ≡ Stopped (keeps p)
stopped_answer j p xs x t state before kept r o at is s =
    let old : before ≡ length xs = at ∙ o.records.count in
    let new : r.journal.changes ≡ length (after_stop p.call p.byte x xs) = s.opened.records.count in
    ap Stopped (is ∙ ap (λ n. nat_lt n r.journal.changes) old ∙ ap (nat_lt (length xs)) new ∙ kept_is p xs x)

-- A check.

-- a change that is not refused applies
pub checked_applies : (r : Result Stable ChangeRefusal) → Ok tt ≡ checked r → (u : Stable) × (r ≡ Ok u)
checked_applies (Ok u) e = (u, refl)
checked_applies (Err f) e = absurd cc

refuses_by : (r : Result Stable ChangeRefusal) (f : ChangeRefusal) → Err f ≡ checked r → r ≡ Err f
refuses_by (Ok u) f e = absurd cc
refuses_by (Err g) f e = let same : f ≡ g = cc in ap (λ (k : ChangeRefusal). Err k) (sym same)

-- one that is refused leaves all as it was
pub checked_refuses : (t : Stable) (r : Result Stable ChangeRefusal) (f : ChangeRefusal) → Err f ≡ checked r → Applies t t (Err f) r
checked_refuses t r (Names n) e = (refuses_by r (Names n) e, refl)
checked_refuses t r (NoFile ino) e = (refuses_by r (NoFile ino) e, refl)
checked_refuses t r (NoSpace free asked) e = (refuses_by r (NoSpace free asked) e, refl)
checked_refuses t r Memory e = tt

-- A store of zeros.

pub holds_fresh : (r : Running) → Starts [] fresh_journal.stable r → Holds fresh_journal r
holds_fresh r h = record { opened = h.opened; stable = h.stable; stop = h.unset }
