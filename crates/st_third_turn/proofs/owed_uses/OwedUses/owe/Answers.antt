use Rattle.st_lemmas.proofs.Words
use Words.{ap, filter, not, ◌∙◌}
use Rattle.st_third.specs.UsedOnce.{is_owed_on}
use Rattle.std.proofs.lemmas.Result.{on_ok_weaker}
use Rattle.st_third_turn.proofs.Owed.{put_owed}
use Rattle.st_third_turn.proofs.owed_uses.OwedUses.owe.Goals as goal

pub returns-in-Some : goal.returns-in-Some
returns-in-Some c =
    rw (c.in-Some.is)
    (on_ok_weaker c.put.result (put_owed c.args.ino c.in-Some.op c.args.self.now c.remove.new.self c.put.new.self ((rw c.key.ensures at c.remove.ensures) ∙ ap (filter (λ u. not (is_owed_on c.args.ino u))) c.self.view_is)) c.put.ensures.ok)
