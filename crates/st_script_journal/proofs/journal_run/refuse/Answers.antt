use Rattle.st_journal.specs.Parts.{stable_of}
use Rattle.st_journal.specs.Stable.{apply}
use Rattle.st_script_journal.proofs.JournalChanges.{refused_comes, refused_open}
use Rattle.st_script_journal.proofs.journal_run.refuse.Goals as goal

pub joined-requires : goal.joined-requires
joined-requires c =
    let a = c.requires in
    (a.0, refused_open c.args.refusal c.in-Ok.refusal c.in-Ok.ensures c.args.journal a.0 a.1 (stable_of c.args.stable) (apply a.1 a.2) a.3 a.4)

pub returns-in-Ok : goal.returns-in-Ok
returns-in-Ok c = λ s change set o h.
    refused_comes c.args.refusal c.in-Ok.refusal c.in-Ok.ensures s change c.args.journal (stable_of c.args.stable) c.args.stop c.joined.result c.joined.ensures set o h
