use Rattle.st_lemmas.proofs.Words
use Words.{List, ℕ, subst, Err}
use Rattle.st_move.specs.Calls.{Counts, count_at}
use Rattle.st_move.specs.Containers.{after_put}
use Rattle.st_move.specs.Network.{Refuses}
use Rattle.st_move.proofs.Networks.{each_ok, put_err}
use Rattle.st_move.proofs.site.MoveSite.put.Goals as goal

pub returns-in-Err : goal.returns-in-Err
returns-in-Err c =
    each_ok (Refuses c.in-Err.refusal) _ c.refused.result
    (λ a r. put_err c.args.self.now c.put.new.self c.args.c c.args.update.now c.in-Err.refusal a
    (subst (λ (u : List ℕ). Counts (count_at c.args.c) c.args.self.now.containers c.put.new.self (Err c.in-Err.refusal) (after_put c.args.self.now.containers c.args.c u)) c.as_slice.ensures.bytes c.in-Err.ensures) r)
    c.refused.ensures
