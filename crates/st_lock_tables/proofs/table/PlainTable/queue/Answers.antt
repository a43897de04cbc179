use Rattle.std.proofs.Common.{◌≡◌, ◌∙◌, sym, ap, subst, find, List, true, if◌then◌else◌}
use Rattle.std.specs.Prelude.{Some, None}
use Rattle.st_rules.specs.declared.locks.Waiter.{Waiter}
use Rattle.st_rules.specs.Locks.{Locks, queue, queue_at, wait_of, wait_for, is_wait_of, new_wait}
use Rattle.st_tables.specs.Tables.{has_key, wait_key}
use Rattle.st_tables.proofs.RowLists.{put_last}
use Rattle.st_lock_tables.specs.Calls.{IsSound, is_lock, is_wanted}
use Rattle.st_lock_tables.proofs.FoundRows.{found_is, wait_keys}
use Rattle.st_lock_tables.proofs.Sound.{greater_lock, one_lock, sound_wait, sound_waits}
use Rattle.st_lock_tables.proofs.table.PlainTable.queue.Goals as goal

pub returns-in_ok-put-in-None-clause-ok : goal.returns-in_ok-put-in-None-clause-ok
unfolding queue queue_at
returns-in_ok-put-in-None-clause-ok c =
    let l : Locks =
    record { epoch = c.self.inside.epoch; grants = c.self.inside.grants; rows = c.self.inside.rows; waiters = c.self.inside.waits; limit = 1024 } in
    let none : wait_of l c.args.client c.args.ino ≡ None = sym (c.in-None.ensures ∙ c.get.ensures.found ∙ ap (λ k. find (has_key wait_key k) c.self.inside.waits) c.key.ensures) in
    rw (← c.self.view_is)
    (ap (λ (ws : List Waiter). let m : Locks = record { epoch = c.self.inside.epoch; grants = c.self.inside.grants; rows = c.self.inside.rows; waiters = ws; limit = 1024 } in m)
    (c.in_ok-put-in-None.ensures.ok ∙ put_last (is_wait_of c.args.client c.args.ino) (new_wait c.args.client c.args.life c.args.ino c.args.mode) c.self.inside.waits none)
    ∙ ap (queue_at l c.args.client c.args.life c.args.ino c.args.mode) (sym none))

pub returns-in-Some-clause-ok : goal.returns-in-Some-clause-ok
unfolding queue queue_at wait_for
returns-in-Some-clause-ok c =
    let l : Locks =
    record { epoch = c.self.inside.epoch; grants = c.self.inside.grants; rows = c.self.inside.rows; waiters = c.self.inside.waits; limit = 1024 } in
    let some : wait_of l c.args.client c.args.ino ≡ Some c.in-Some.wait = sym (c.in-Some.ensures ∙ c.get.ensures.found ∙ ap (λ k. find (has_key wait_key k) c.self.inside.waits) c.key.ensures) in
    let keys = wait_keys c.args.client c.args.ino c.self.inside.waits c.in-Some.wait some in
    rw (← c.self.view_is)
    (ap (λ (ws : List Waiter). let m : Locks = record { epoch = c.self.inside.epoch; grants = c.self.inside.grants; rows = c.self.inside.rows; waiters = ws; limit = 1024 } in m)
    (c.change.ensures.changed (wait_for c.args.mode) c.in-Some.wait some (λ i. record { ino = sym keys.1 i; client = sym keys.0 i; life = c.in-Some.wait.life; mode = c.greater.ensures i }))
    ∙ ap (queue_at l c.args.client c.args.life c.args.ino c.args.mode) (sym some))

pub invariant_of-self-in-None : goal.invariant_of-self-in-None
invariant_of-self-in-None c =
    subst (λ ws. IsSound c.self.inside.epoch c.self.inside.grants c.self.inside.rows ws) (sym c.in_ok-put-in-None.ensures.ok)
    (sound_wait c.self.inside.epoch c.self.inside.grants c.self.inside.rows c.self.inside.waits c.self.invariant (is_wait_of c.args.client c.args.ino) (new_wait c.args.client c.args.life c.args.ino c.args.mode) c.requires.lock)

pub invariant_of-self-in-Some : goal.invariant_of-self-in-Some
invariant_of-self-in-Some c =
    let l : Locks =
    record { epoch = c.self.inside.epoch; grants = c.self.inside.grants; rows = c.self.inside.rows; waiters = c.self.inside.waits; limit = 1024 } in
    let some : wait_of l c.args.client c.args.ino ≡ Some c.in-Some.wait = sym (c.in-Some.ensures ∙ c.get.ensures.found ∙ ap (λ k. find (has_key wait_key k) c.self.inside.waits) c.key.ensures) in
    let waited : is_lock c.in-Some.wait.mode ≡ true = found_is (is_wait_of c.args.client c.args.ino) is_wanted c.in-Some.wait c.self.inside.waits c.self.invariant.wanted some in
    let asked : is_lock c.greater.result ≡ true = ap is_lock c.greater.ensures ∙ greater_lock c.in-Some.wait.mode c.args.mode waited c.requires.lock in
    let new : Waiter = record { ino = c.args.ino; client = c.args.client; life = c.in-Some.wait.life; mode = c.greater.result } in
    subst (λ ws. IsSound c.self.inside.epoch c.self.inside.grants c.self.inside.rows ws) (sym c.change.ensures.written)
    (sound_waits c.self.inside.epoch c.self.inside.grants c.self.inside.rows c.self.inside.waits c.self.invariant (λ w. if is_wait_of c.args.client c.args.ino w then new else w)
    (λ w h. one_lock (is_wait_of c.args.client c.args.ino w) new w asked h))
