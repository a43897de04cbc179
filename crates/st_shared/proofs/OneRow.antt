-- The lock table of the file: no row, or one exclusive row.
use Rattle.st_lemmas.proofs.Words
use Words.{◌≡◌, ℕ, ◌+◌, ◌<◌, ◌≤◌, Bool, true, false, not, ◌||◌, ◌==◌, List, [], ◌∷◌, Some, None, refl, sym, ap, ◌∙◌, subst, arith, if◌then◌else◌, filter}
use Words.{nat_lt, Result, Ok, Err, list_any, and_parts, eq-eqb, leb-true, ClientId, Life, LockRow, Verdict, AcquireRefusal}
use Words.modes
use Words.verdicts
use Words.Keys.{client}
use Words.Locks.{Acquired, Locks, acquire, forget, is_row_by, is_wait_by, locks_open, new_row, next_grant}
use Words.Truth.{not_both}
use Rattle.std.specs.Prelude.{is_ok}
use Rattle.std.specs.Bool.{OnTrue, OnFalse}
use Rattle.st_locks.specs.Calls.{Answers, acquired}
use Rattle.st_rules.specs.declared.locks.AcquireRefusal.TheVariants as refusals
use Rattle.st_locks.specs.DemandStarts.{IsClient}
use Rattle.st_lock_tables.specs.declared.refusal.LockRefusal.{LockRefusal}
use Rattle.st_lock_tables.specs.declared.refusal.LockRefusal.TheVariants.{TooManyLocks, Conflict, Memory}
use Rattle.st_shared.specs.Rows.{IsFileTable, IsOneRow, holder_of}
use Rattle.st_shared.specs.Shared.{is_holder}

no_rows : (rows : List LockRow) → holder_of rows ≡ None → rows ≡ []
no_rows [] e = refl
no_rows (r ∷ rows) e = cc

-- Granting.
abbrev one : Locks → ClientId → Life → Locks
one l c life = record { epoch = l.epoch; grants = l.grants + 1; rows = new_row l c life 2 modes.X ∷ []; waiters = []; limit = l.limit }

first_grant : (l : Locks) (c : ClientId) (life : Life) → l.rows ≡ [] → l.waiters ≡ [] →
    acquire l c life 2 modes.X true ≡
    (if nat_lt 0 l.limit then Ok (acquired (one l c life) (verdicts.Granted (next_grant l) modes.X)) else Err refusals.TooManyLocks)
unfolding locks_open
first_grant l c life r w = λ i. acquire (record l { rows = r i; waiters = w i }) c life 2 modes.X true

table_of : Locks → Result Acquired AcquireRefusal → Locks
table_of l (Ok a) = a.locks
table_of l (Err e) = l

new_is : (old new : Locks) (c : ClientId) (life : Life) (v : Verdict) → IsFileTable old → holder_of old.rows ≡ None → acquire old c life 2 modes.X true ≡ Ok (acquired new v) → new ≡ one old c life
unfolding table_of
new_is old new c life v t free e = go (nat_lt 0 old.limit) (sym (first_grant old c life (no_rows old.rows free) t.waits) ∙ e)
  where
    go : (b : Bool) →
        (if b then Ok (acquired (one old c life) (verdicts.Granted (next_grant old) modes.X)) else Err refusals.TooManyLocks) ≡ Ok (acquired new v) → new ≡ one old c life
    go true q = sym (ap (table_of old) q)
    go false q = cc

one_table : (l : Locks) (c : ClientId) (life : Life) → IsClient c → IsFileTable (one l c life)
one_table l c life h = record { waits = refl; rows = record { client = h; file = refl; exclusive = refl } }

pub granted_table : (old new : Locks) (c : ClientId) (life : Life) (r : Result Verdict LockRefusal) → IsClient c → IsFileTable old → holder_of old.rows ≡ None →
    Answers old new r (acquire old c life 2 modes.X true) → IsFileTable new
granted_table old new c life (Ok v) h t free a = subst IsFileTable (sym (new_is old new c life v t free a)) (one_table old c life h)
granted_table old new c life (Err Memory) h t free a = subst IsFileTable (sym a) t
granted_table old new c life (Err TooManyLocks) h t free a = subst IsFileTable (sym a.1) t
granted_table old new c life (Err (Conflict ino holder)) h t free a = absurd a

pub granted_holder : (old new : Locks) (c : ClientId) (life : Life) (r : Result Verdict LockRefusal) → IsFileTable old → holder_of old.rows ≡ None →
    Answers old new r (acquire old c life 2 modes.X true) → OnTrue (is_ok r) (holder_of new.rows ≡ Some c)
granted_holder old new c life (Ok v) t free a = ap (λ (l : Locks). holder_of l.rows) (new_is old new c life v t free a)
granted_holder old new c life (Err e) t free a = tt

pub refused_holder : (old new : Locks) (c : ClientId) (life : Life) (r : Result Verdict LockRefusal) → holder_of old.rows ≡ None →
    Answers old new r (acquire old c life 2 modes.X true) → OnFalse (is_ok r) (holder_of new.rows ≡ None)
refused_holder old new c life (Ok v) free a = tt
refused_holder old new c life (Err Memory) free a = ap (λ (l : Locks). holder_of l.rows) a ∙ free
refused_holder old new c life (Err TooManyLocks) free a = ap (λ (l : Locks). holder_of l.rows) a.1 ∙ free
refused_holder old new c life (Err (Conflict ino holder)) free a = absurd a

-- Giving back.
forgotten : (rows : List LockRow) (c : ClientId) → IsOneRow rows → is_holder (holder_of rows) c ≡ true → filter (λ r. not (is_row_by c r)) rows ≡ []
forgotten [] c h e = refl
forgotten (r ∷ []) c h e = ap (λ (b : Bool). if not b then r ∷ [] else []) e
forgotten (r ∷ (q ∷ rows)) c h e = absurd h

rows_gone : (old new : Locks) (c : ClientId) → new ≡ forget old c → IsFileTable old → is_holder (holder_of old.rows) c ≡ true → new.rows ≡ []
unfolding forget
rows_gone old new c e t h = ap (λ (l : Locks). l.rows) e ∙ forgotten old.rows c t.rows h

pub forgotten_table : (old new : Locks) (c : ClientId) → new ≡ forget old c → IsFileTable old → is_holder (holder_of old.rows) c ≡ true → IsFileTable new
unfolding forget
forgotten_table old new c e t h = record {
  waits = ap (λ (l : Locks). l.waiters) e ∙ ap (λ ws. filter (λ w. not (is_wait_by c w)) ws) t.waits;
  rows = subst IsOneRow (sym (rows_gone old new c e t h)) tt;
}

pub forgotten_holder : (old new : Locks) (c : ClientId) → new ≡ forget old c → IsFileTable old → is_holder (holder_of old.rows) c ≡ true → holder_of new.rows ≡ None
forgotten_holder old new c e t h = ap holder_of (rows_gone old new c e t h)

-- Looking for the client with the row.
pub nobody_holds : (rows : List LockRow) → IsOneRow rows → ((k : ℕ) → 1 ≤ k → k < 17 → list_any (is_row_by (client k)) rows ≡ false) → None ≡ holder_of rows
nobody_holds [] h none = refl
nobody_holds (r ∷ []) h none =
    let range = and_parts _ _ h.client in
    let low : 1 ≤ r.client.0 = leb-true _ _ range.0 in
    let high : r.client.0 ≤ 16 = leb-true _ _ range.1 in
    let there : ((r.client.0 == r.client.0) || false) ≡ true = ap (λ b. b || false) (eq-eqb r.client.0 r.client.0 refl) in
    let gone : ((r.client.0 == r.client.0) || false) ≡ false = none r.client.0 low (omega arith) in
    absurd (not_both ((r.client.0 == r.client.0) || false) there gone)
nobody_holds (r ∷ (q ∷ rows)) h none = absurd h
