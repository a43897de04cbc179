use Rattle.st_lemmas.proofs.Words
use Words.{◌∙◌, ap, sym}
use Rattle.st_client_rules.specs.CommandEnds.{is_clean, is_free}
use Rattle.st_client_rules.proofs.Commands.{ended_free, filled_clean}
use Rattle.st_client_rules.proofs.command_ends.finish_command.Goals as goal

pub finish_as-requires-clause-clean : goal.finish_as-requires-clause-clean
finish_as-requires-clause-clean c = λ e.
    ap (λ u. is_clean u c.args.c) c.end_command-ended.ensures.left
    ∙ filled_clean c.args.t.now.here.store.commands c.args.c c.args.ok c.version-version.result c.requires.outstanding c.args.t.now.here.store.pages.dirty c.command-c.ensures.matched (sym c.end_command-ended.ensures.ended ∙ e)

pub finish_as-requires-clause-free : goal.finish_as-requires-clause-free
finish_as-requires-clause-free c = λ e.
    ap (λ u. is_free u c.args.c) c.end_command-ended.ensures.left
    ∙ ended_free c.args.t.now.here.store.commands c.args.c c.args.ok c.version-version.result c.requires.outstanding c.command-c.ensures.apart
