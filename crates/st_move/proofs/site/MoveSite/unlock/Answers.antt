use Rattle.st_lemmas.proofs.Words
use Words.{Bool, true, false, ap, sym, ◌∙◌, if◌then◌else◌}
use Rattle.st_move.specs.World.{unlocked}
use Rattle.st_move.proofs.Networks.{unlock_does}
use Rattle.st_move.proofs.site.MoveSite.unlock.Goals as goal

pub returns-then-release : goal.returns-then-release
returns-then-release c =
    unlock_does c.args.self.now c.release.new.locks c.args.c true (sym c.if-release.true ∙ c.release.ensures.had)
    (c.release.ensures.rows ∙ ap (λ (b : Bool). if b then unlocked c.args.self.now.locks c.args.c else c.args.self.now.locks) c.if-release.true)

pub returns-else-release : goal.returns-else-release
returns-else-release c =
    unlock_does c.args.self.now c.release.new.locks c.args.c false (sym c.if-release.false ∙ c.release.ensures.had)
    (c.release.ensures.rows ∙ ap (λ (b : Bool). if b then unlocked c.args.self.now.locks c.args.c else c.args.self.now.locks) c.if-release.false)
