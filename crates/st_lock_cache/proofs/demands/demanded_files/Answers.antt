use Rattle.st_lemmas.proofs.Words
use Words.{◌∙◌, ap, arith}
use Words.Keys.{with_key}
use Words.ClientLocks.{ino_of_demand}
use Rattle.st_lock_cache.proofs.Tables.{keys_end, keys_more}
use Rattle.st_lock_cache.proofs.demands.demanded_files.Goals as goal

pub loop-i-init : goal.loop-i-init
loop-i-init c = c.new-found.ensures.items ∙ keys_end ino_of_demand c.args.demands.now

pub loop-i-preserved : goal.loop-i-preserved
loop-i-preserved c =
    c.in_ok-put_key.ensures ∙ ap (with_key _) c.loop-i.invariant
    ∙ keys_more ino_of_demand c.args.demands.now c.loop-i.i _ (omega arith) (omega arith)
