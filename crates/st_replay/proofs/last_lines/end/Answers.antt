use Rattle.st_replay.proofs.LastLines.{here_ends, ended_whole}
use Rattle.st_replay.proofs.last_lines.end.Goals as goal

pub returns-in-Err-clause-stops : goal.returns-in-Err-clause-stops
returns-in-Err-clause-stops c =
    here_ends c.args.player.now.text.items c.args.player.now.world c.args.player.now.reader c.args.player.now.line c.in-Err.refusal c.requires.here
    c.in-Err.ensures

pub returns-in-Some-clause-whole : goal.returns-in-Some-clause-whole
returns-in-Some-clause-whole c =
    ended_whole c.put_whole.result c.args.player.now.text.items c.put_whole.new.text.items c.args.player.now.world c.in-Some.world c.args.player.now.reader
    c.args.player.now.line
    c.in-Some.is c.in-Ok.ensures c.put_whole.ensures.summary c.put_whole.ensures.text
