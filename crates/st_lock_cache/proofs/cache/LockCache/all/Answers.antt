use Rattle.st_lemmas.proofs.Words
use Words.{◌≡◌, ◌∙◌, ◌++◌, sym, ap, take, map, filter_map, option_map, take_all}
use Words.Keys.{rising}
use Words.ClientLocks.{all_locks, ino_of_lock, lock_in_list, lock_row_at}
use Rattle.std.specs.Prelude.{option_to_list}
use Rattle.st_tables.proofs.RisingKeys.{filter_map_take}
use Rattle.st_lock_cache.specs.Calls.{ServerLocks}
use Rattle.st_lock_cache.proofs.Tables.{filter_true}
use Rattle.st_lock_cache.proofs.cache.LockCache.all.Goals as goal

pub loop-ino-preserved : goal.loop-ino-preserved
loop-ino-preserved c =
    c.in_ok-push_lock.ensures ∙ (λ j. c.loop-ino.invariant j ++ option_to_list (option_map lock_in_list (c.lock.ensures j)))
    ∙ sym (filter_map_take (lock_row_at c.args.self.now.locks) c.as_slice-ino-items.result.now c.loop-ino.ino-index 0 c.loop-ino-test.true)

pub returns : goal.returns
unfolding all_locks
returns c =
    let all : take c.loop-ino.ino-index c.as_slice-ino-items.result.now ≡ c.as_slice-ino-items.result.now = take_all c.loop-ino.ino-index c.as_slice-ino-items.result.now c.loop-ino-test.false in
    c.loop-ino.invariant
    ∙ ap (filter_map (lock_row_at c.args.self.now.locks))
    (all ∙ c.as_slice-ino-items.ensures.value ∙ c.in_ok-files.ensures ∙ ap (λ rs. rising (map ino_of_lock rs)) (filter_true c.self.inside.rows ∙ ap (λ (v : ServerLocks). v.locks.rows) c.self.view_is))
