use Rattle.st_lemmas.proofs.Words
use Words.{◌≡◌, ◌≢◌}
use Rattle.st_lock_tables.specs.declared.refusal.LockRefusal.TheVariants as lock_refusals
use Rattle.st_move.specs.World.{locked}
use Rattle.st_move.proofs.Networks.{acquire_ok, acquire_refused, on_ok}
use Rattle.st_move.proofs.site.acquire.Goals as goal

pub returns-in-Ok : goal.returns-in-Ok
returns-in-Ok c = acquire_ok c.args.locks.now c.acquire.new.self c.args.c c.in-Ok.verdict c.requires c.in-Ok.ensures

pub returns-in-Err : goal.returns-in-Err
returns-in-Err c =
    on_ok (c.in-Err.refusal ≢ lock_refusals.Memory) (c.acquire.new.self ≡ locked c.args.locks.now c.args.c) c.lock_refused.result
    (λ n. acquire_refused c.args.locks.now c.acquire.new.self c.args.c c.in-Err.refusal c.requires n c.in-Err.ensures) c.lock_refused.ensures
