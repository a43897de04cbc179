use Rattle.st_replay.proofs.LastLines.{concluded}
use Rattle.st_replay.proofs.last_lines.conclude.Goals as goal

pub returns-in-Ok-clause-whole : goal.returns-in-Ok-clause-whole
returns-in-Ok-clause-whole c =
    concluded c.end.result c.args.player.now.text.items c.play_rest.new.player.text.items c.end.new.player.text.items
    c.args.player.now.world c.play_rest.new.player.world c.end.new.player.world c.args.player.now.reader c.play_rest.new.player.reader
    c.args.player.now.line c.play_rest.new.player.line c.args.held.now c.in-Ok.ensures.goes c.end.ensures.whole c.end.ensures.world
