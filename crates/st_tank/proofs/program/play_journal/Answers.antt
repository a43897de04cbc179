use Rattle.st_script.specs.Scripts.{script_from}
use Rattle.st_script_journal.specs.JournalScripts as journals
use Rattle.st_tank.specs.Scripts.{played}
use Rattle.st_tank.specs.Uses.{stream_use}
use Rattle.st_tank.proofs.Played.{journal_is_played}
use Rattle.st_tank.proofs.program.play_journal.Goals as goal

pub returns-in-Ok : goal.returns-in-Ok
unfolding played
returns-in-Ok g c =
    journal_is_played c.journal.result c.status_of_script.result (stream_use g.I.Source.left g.I.Source.faults c.args.input.now c.journal.new.input)
    (stream_use g.O.Sink.written g.O.Sink.faults c.args.out.now c.journal.new.out)
    (λ bytes. script_from journals.journal_rules journals.fresh_journal bytes) c.status_of_script.ensures c.journal.ensures.report
    c.journal.ensures.through c.journal.ensures.causes
