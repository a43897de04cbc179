use Rattle.std.proofs.Common.{◌≡◌, ◌∙◌, arith}
use Rattle.std.proofs.lemmas.Grind.{common_steps}
use Rattle.st_messages.specs.declared.message.Message.{Message}
use Rattle.st_codec.specs.Spelling as spells
use Rattle.st_third_codec.proofs.PlainBodies.{copy_fits, long_enough, body_text}
use Rattle.st_third_codec.proofs.plain_body.put_plain.Goals as goal

pub encode-requires : goal.encode-requires
encode-requires c = copy_fits c.some_header.result c.kind.result c.args.body.now c.in_ok-copy.field-0 c.kind.ensures c.in_ok-copy.ensures c.some_header.ensures
    c.requires

pub split_at-requires : goal.split_at-requires
split_at-requires c =
    let message : Message = record { header = c.some_header.result; body = c.in_ok-copy.field-0 } in
    long_enough message c.as_slice.result.now (c.as_slice.ensures.value ∙ c.in_ok-bytes.ensures)

pub returns : goal.returns
returns c =
    let message : Message = record { header = c.some_header.result; body = c.in_ok-copy.field-0 } in
    let text : c.split_at.result.1.now ≡ spells.body c.args.body.now =
    c.split_at.ensures.back ∙ body_text message c.args.body.now c.as_slice.result.now (c.as_slice.ensures.value ∙ c.in_ok-bytes.ensures)
    c.in_ok-copy.ensures in
    grind (arith, common_steps, c.extend_from_slice.ensures.items, text)
