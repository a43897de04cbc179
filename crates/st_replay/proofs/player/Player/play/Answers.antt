use Rattle.std.proofs.Common.{◌≡◌, ◌+◌, ℕ, List, ◌∷◌, refl, sym, ap, ◌∙◌, arith, Fits, w64}
use Rattle.std.specs.Prelude.{Option, Some, None}
use Rattle.st_runs.specs.Replay.{behind}
use Rattle.st_replay.specs.States.{IsHere, from_here}
use Rattle.st_replay.proofs.Begun.{first_here}
use Rattle.st_replay.proofs.player.Player.play.Goals as goal

pub overflow_add-self-in-None : goal.overflow_add-self-in-None
overflow_add-self-in-None c =
    let f = first_here c.args.self.now.world c.args.self.now.reader c.args.self.now.line c.in-None.is c.requires.here in
    let one : c.args.self.now.line ≡ 1 = f.1 in
    omega (arith, one)

pub returns-in_ok-world-in-None-clause-goes : goal.returns-in_ok-world-in-None-clause-goes
returns-in_ok-world-in-None-clause-goes c = λ ls.
    let f = first_here c.args.self.now.world c.args.self.now.reader c.args.self.now.line c.in-None.is c.requires.here in
    (λ i. behind c.play_head.new.text.items (from_here (c.keep.ensures i) c.play_head.new.reader (f.1 i + 1) ls))
    ∙ c.in_ok-world-in-None.ensures.goes ls
    ∙ (λ i. behind c.args.self.now.text.items (from_here (sym c.in-None.is i) c.args.self.now.reader c.args.self.now.line (c.args.bytes.now ∷ ls)))

pub returns-in_ok-world-in-None-clause-here : goal.returns-in_ok-world-in-None-clause-here
returns-in_ok-world-in-None-clause-here c =
    let f = first_here c.args.self.now.world c.args.self.now.reader c.args.self.now.line c.in-None.is c.requires.here in
    rw (c.keep.ensures, f.1) c.in_ok-world-in-None.ensures.playing

pub returns-in_ok-world-in-None-clause-room : goal.returns-in_ok-world-in-None-clause-room
returns-in_ok-world-in-None-clause-room c =
    let f = first_here c.args.self.now.world c.args.self.now.reader c.args.self.now.line c.in-None.is c.requires.here in
    rw f.0 c.in_ok-world-in-None.ensures.room
