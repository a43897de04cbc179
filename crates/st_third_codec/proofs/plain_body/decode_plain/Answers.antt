use Rattle.std.proofs.Common.{Ok, Err, ◌∙◌}
use Rattle.st_third_codec.proofs.PlainBodies.{plain_result}
use Rattle.st_third_codec.proofs.plain_body.decode_plain.Goals as goal

pub returns-in-Ok-decode : goal.returns-in-Ok-decode
returns-in-Ok-decode c = plain_result c.args.kind c.some_header-first.result c.args.header c.args.body.now c.as_slice.result.now (Ok c.in-Ok-decode.message)
    c.some_header-first.ensures (c.as_slice.ensures.value ∙ c.in-Ok.ensures) c.in-Ok-decode.ensures.exact

pub returns : goal.returns
returns c = plain_result c.args.kind c.some_header-first.result c.args.header c.args.body.now c.as_slice.result.now (Err c.in-Err-decode.refusal)
    c.some_header-first.ensures (c.as_slice.ensures.value ∙ c.in-Ok.ensures) c.in-Err-decode.ensures.exact
