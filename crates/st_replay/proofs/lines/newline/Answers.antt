use Rattle.st_replay.proofs.FirstNewline.{first_newline}
use Rattle.st_replay.proofs.lines.newline.Goals as goal

pub returns : goal.returns
returns c = first_newline c.args.bytes.now c.memchr.result c.memchr.ensures
