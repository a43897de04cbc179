-- Every message that fits has room in a frame.
use Rattle.std.proofs.Common.{◌≡◌, ℕ, ◌-◌, ◌*◌, ◌≤◌, true, List, [], ◌∷◌, length, arith}
use Rattle.std.specs.Prelude.{◌&&◌}
use Rattle.std.proofs.lemmas.Bool.{and_parts, eqb-true}
use Rattle.st_base.specs.declared.disk.BlockAt.{BlockAt}
use Rattle.st_base.specs.declared.disk.Command.{Command}
use Rattle.st_base.specs.declared.disk.Command.TheVariants as commands
use Rattle.st_base.specs.declared.disk.Tag.{Tag}
use Rattle.st_base.specs.declared.names.NameAsk.{NameAsk}
use Rattle.st_base.specs.declared.names.NameAsk.TheVariants as name_asks
use Rattle.st_base.specs.declared.names.NameRow.{NameRow}
use Rattle.st_messages.specs.declared.answer.AppAnswer.{AppAnswer}
use Rattle.st_messages.specs.declared.answer.AppAnswer.TheVariants as answers
use Rattle.st_messages.specs.declared.ask.Ask.{Ask}
use Rattle.st_messages.specs.declared.ask.Ask.TheVariants as asks
use Rattle.st_messages.specs.declared.message.Body.{Body}
use Rattle.st_messages.specs.declared.message.Body.TheVariants as bodies
use Rattle.st_messages.specs.declared.message.DiskResult.{DiskResult}
use Rattle.st_messages.specs.declared.message.DiskResult.TheVariants as results
use Rattle.st_messages.specs.declared.message.Message.{Message}
use Rattle.st_messages.specs.declared.message.NameOp.{NameOp}
use Rattle.st_messages.specs.declared.message.NameOp.TheVariants as ops
use Rattle.st_messages.specs.declared.message.NameReply.{NameReply}
use Rattle.st_messages.specs.declared.message.NameReply.TheVariants as replies
use Rattle.st_messages.specs.Ranges.{is_ino, is_grant, is_word32, is_page, is_file, is_tag, is_any_block, is_same_block, has_length, is_whole_page, is_dir_name, is_name_row, after_name, are_rows, are_names, are_locks, are_extents, are_lost, is_name_op, is_name_ask, is_name_reply, is_ask, is_answer, is_command, is_disk_result, is_header, is_body, fits}
use Rattle.st_messages.specs.Kinds.{between, is_word64, kind_of_body}
use Rattle.st_messages.specs.Sizes.{name_rows_size, op_size, name_ask_size, reply_size, ask_size, answer_size, command_size, result_size, body_size, size_of}
use Rattle.st_codec_fields.proofs.ExactFields.{at_most}

name_rows_bound : (least : ℕ) (rs : List NameRow) → are_rows is_name_row after_name least rs ≡ true → name_rows_size rs ≤ 70 * length rs
name_rows_bound least [] e = omega arith
name_rows_bound least (r ∷ rs) e =
    let parts = and_parts (is_name_row least r) (are_rows is_name_row after_name 1 rs) e in
    let row = and_parts (between least 4294967295 r.ino) (has_length 1 64 r.name) parts.0 in
    omega (arith, at_most 1 64 (length r.name) row.1, name_rows_bound 1 rs parts.1)

names_bound : (rs : List NameRow) → are_names rs ≡ true → name_rows_size rs ≤ 17920
unfolding are_names
names_bound rs e =
    let parts = and_parts (between 0 256 (length rs)) (are_rows is_name_row after_name 1 rs) e in
    omega (arith, at_most 0 256 (length rs) parts.0, name_rows_bound 1 rs parts.1)

dir_name_bound : (least dir : ℕ) (n : List ℕ) → is_dir_name least dir n ≡ true → length n ≤ 255
dir_name_bound least dir n e = at_most least 255 (length n) (and_parts (is_ino dir) (has_length least 255 n) e).1

op_bound : (o : NameOp) → is_name_op o ≡ true → op_size o ≤ 600
unfolding is_name_op
op_bound (ops.Lookup dir n) e = omega (arith, dir_name_bound 1 dir n e)
op_bound (ops.Create dir n) e = omega (arith, dir_name_bound 1 dir n e)
op_bound (ops.Mkdir dir n) e = omega (arith, dir_name_bound 1 dir n e)
op_bound (ops.Remove dir n g) e = omega (arith, at_most 1 255 (length n) (and_parts (has_length 1 255 n) (is_grant g) (and_parts (is_ino dir) (has_length 1 255 n && is_grant g) e).1).0)
op_bound (ops.Rename dir n dir2 n2) e = let p = and_parts (is_dir_name 1 dir n) (is_dir_name 1 dir2 n2) e in omega (arith, dir_name_bound 1 dir n p.0, dir_name_bound 1 dir2 n2 p.1)
op_bound (ops.List dir n) e = omega (arith, dir_name_bound 0 dir n e)

name_ask_bound : (o : NameAsk) → is_name_ask o ≡ true → name_ask_size o ≤ 600
unfolding is_name_ask
name_ask_bound (name_asks.Lookup dir n) e = omega (arith, dir_name_bound 1 dir n e)
name_ask_bound (name_asks.Create dir n) e = omega (arith, dir_name_bound 1 dir n e)
name_ask_bound (name_asks.Mkdir dir n) e = omega (arith, dir_name_bound 1 dir n e)
name_ask_bound (name_asks.Remove dir n ino) e = omega (arith, at_most 1 255 (length n) (and_parts (has_length 1 255 n) (is_word32 ino) (and_parts (is_ino dir) (has_length 1 255 n && is_word32 ino) e).1).0)
name_ask_bound (name_asks.Rename dir n dir2 n2) e = let p = and_parts (is_dir_name 1 dir n) (is_dir_name 1 dir2 n2) e in omega (arith, dir_name_bound 1 dir n p.0, dir_name_bound 1 dir2 n2 p.1)
name_ask_bound (name_asks.List dir n) e = omega (arith, dir_name_bound 0 dir n e)

reply_bound : (o : NameReply) → is_name_reply o ≡ true → reply_size o ≤ 17923
unfolding is_name_reply
reply_bound (replies.Ino ino) e = omega arith
reply_bound (replies.Listed rs) e = omega (arith, names_bound rs e)
reply_bound (replies.Refused code) e = omega arith

ask_bound : (a : Ask) → is_ask a ≡ true → ask_size a ≤ 4200
unfolding is_ask
ask_bound (asks.Write f page bytes) e = omega (arith, eqb-true (length bytes) 4096 (and_parts (is_page 0 page.0) (is_whole_page bytes) (and_parts (is_file 1 f) (is_page 0 page.0 && is_whole_page bytes) e).1).1)
ask_bound (asks.Read f page) e = omega arith
ask_bound (asks.Sync f) e = omega arith
ask_bound (asks.Cut f page) e = omega arith
ask_bound (asks.Name server n) e = omega (arith, name_ask_bound n (and_parts (between 1 65535 server.0) (is_name_ask n) e).1)
ask_bound (asks.Patch f page at bytes) e =
    let p = and_parts (is_file 1 f) (is_page 0 page.0 && (between 0 4095 at && has_length 1 (4096 - at) bytes)) e in
    let q = and_parts (is_page 0 page.0) (between 0 4095 at && has_length 1 (4096 - at) bytes) p.1 in
    let r = and_parts (between 0 4095 at) (has_length 1 (4096 - at) bytes) q.1 in
    omega (arith, at_most 1 (4096 - at) (length bytes) r.1)

answer_bound : (a : AppAnswer) → is_answer a ≡ true → answer_size a ≤ 17923
unfolding is_answer are_lost
answer_bound (answers.Read bytes) e = omega (arith, eqb-true (length bytes) 4096 e)
answer_bound (answers.Listed rs) e = omega (arith, names_bound rs e)
answer_bound (answers.Lost rs) e = omega (arith, at_most 1 1024 (length rs) (and_parts (between 1 1024 (length rs)) _ e).0)
answer_bound a e = omega arith

tagged_bound : (least : ℕ) (t : Tag) (bytes : List ℕ) → (is_tag least t && is_whole_page bytes) ≡ true → length bytes ≡ 4096
tagged_bound least t bytes e = eqb-true (length bytes) 4096 (and_parts (is_tag least t) (is_whole_page bytes) e).1

command_bound : (at : BlockAt) (o : Command) → is_command at o ≡ true → command_size o ≤ 4200
unfolding is_command
command_bound at (commands.Read there) e = omega arith
command_bound at (commands.Write there t bytes) e = omega (arith, tagged_bound 1 t bytes (and_parts (is_same_block at there) (is_tag 1 t && is_whole_page bytes) e).1)

result_bound : (o : DiskResult) → is_disk_result o ≡ true → result_size o ≤ 4200
unfolding is_disk_result
result_bound results.Failed e = omega arith
result_bound results.WriteDone e = omega arith
result_bound (results.ReadDone t bytes) e = omega (arith, tagged_bound 0 t bytes e)

body_bound : (b : Body) → is_body b ≡ true → body_size b ≤ 17960
unfolding is_body are_locks are_extents
body_bound (bodies.Name op) e = omega (arith, op_bound op e)
body_bound (bodies.Reassert rs) e = omega (arith, at_most 0 1024 (length rs) (and_parts (between 0 1024 (length rs)) _ e).0)
body_bound (bodies.Extents ino rs) e = omega (arith, at_most 0 64 (length rs) (and_parts (between 0 64 (length rs)) _ (and_parts (is_ino ino) _ e).1).0)
body_bound (bodies.Named reply) e = omega (arith, reply_bound reply e)
body_bound (bodies.App op a) e = omega (arith, ask_bound a (and_parts (is_word32 op) (is_ask a) e).1)
body_bound (bodies.AppDone op a) e = omega (arith, answer_bound a (and_parts (is_word32 op) (is_answer a) e).1)
body_bound (bodies.Submit number at what) e = omega (arith, command_bound at what (and_parts (is_any_block at) (is_command at what) (and_parts (is_word64 number) (is_any_block at && is_command at what) e).1).1)
body_bound (bodies.Done number ending) e = omega (arith, result_bound ending (and_parts (is_word64 number) (is_disk_result ending) e).1)
body_bound b e = omega arith

pub size_bound : (m : Message) → fits m ≡ true → size_of m ≤ 65536
unfolding fits size_of
size_bound m e = omega (arith, body_bound m.body (and_parts (is_header (kind_of_body m.body) m.header) (is_body m.body) e).1)
