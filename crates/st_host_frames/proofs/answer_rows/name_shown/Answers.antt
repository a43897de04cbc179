use Rattle.std.proofs.Common.{arith}
use Rattle.st_host_frames.proofs.Names.{long_name, short_name}
use Rattle.st_host_frames.proofs.answer_rows.name_shown.Goals as goal

pub returns-then-bytes-lt64 : goal.returns-then-bytes-lt64
returns-then-bytes-lt64 c =
    short_name c.args.bytes.now c.filled_up.result (omega (arith, c.if-bytes-lt64.true)) c.filled_up.ensures.first c.filled_up.ensures.others

pub returns : goal.returns
returns c =
    long_name c.args.bytes.now c.front.result.now c.filled_up-2.result (omega (arith, c.if-bytes-lt64.false)) c.front.ensures.first c.front.ensures.long
    c.filled_up-2.ensures.first c.filled_up-2.ensures.others
