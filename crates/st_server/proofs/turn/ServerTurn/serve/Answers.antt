use Rattle.st_lemmas.proofs.Words
use Words.Server.{rule}
use Rattle.st_server.proofs.Crashes.{on_err, serve_fails, serve_fails_after}
use Rattle.st_server.proofs.turn.ServerTurn.serve.Goals as goal

pub returns-in_err-reply-clause-err : goal.returns-in_err-reply-clause-err
returns-in_err-reply-clause-err c =
    on_err c.from_residual.result (serve_fails c.args.self.now c.rule.new.self c.args.h (rule c.args.self.now c.args.now c.args.h c.args.body.now) c.in_err-reply.ensures.err)

pub returns-clause-err : goal.returns-clause-err
returns-clause-err c =
    on_err c.keep.result (serve_fails_after c.args.self.now c.rule.new.self c.keep.new.self c.args.h (rule c.args.self.now c.args.now c.args.h c.args.body.now) (λ i. (c.in_ok-reply.ensures.ok i).turn) c.keep.ensures.kept)
