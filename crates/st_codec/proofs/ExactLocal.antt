-- Asks, answers, commands of disks and their results are read exactly.
use Rattle.std.proofs.Common.{◌≡◌, ℕ, ◌-◌, Bool, true, false, List, ◌∷◌, ◌++◌, length, Ok, refl, ap, ◌∙◌, append_assoc, arith}
use Rattle.std.specs.Prelude.{◌&&◌, ◌==◌}
use Rattle.std.proofs.lemmas.Bool.{and_parts, and_from, eqb-true, eq-eqb}
use Rattle.st_base.specs.declared.disk.BlockAt.{BlockAt}
use Rattle.st_base.specs.declared.disk.Command.{Command}
use Rattle.st_base.specs.declared.disk.Command.TheVariants as commands
use Rattle.st_base.specs.declared.disk.Tag.{Tag}
use Rattle.st_base.specs.declared.ids.FileId.{FileId}
use Rattle.st_base.specs.declared.ids.PageNo.{PageNo}
use Rattle.st_base.specs.declared.names.NameAsk.{NameAsk}
use Rattle.st_messages.specs.declared.answer.AppAnswer.{AppAnswer}
use Rattle.st_messages.specs.declared.answer.AppAnswer.TheVariants as answers
use Rattle.st_messages.specs.declared.ask.Ask.{Ask}
use Rattle.st_messages.specs.declared.ask.Ask.TheVariants as asks
use Rattle.st_codec_fields.specs.declared.fault.Fault.TheVariants as faults
use Rattle.st_messages.specs.declared.message.DiskResult.{DiskResult}
use Rattle.st_messages.specs.declared.message.DiskResult.TheVariants as results
use Rattle.st_messages.specs.Ranges.{is_ino, is_page, is_file, is_tag, is_whole_page, has_length, is_name_ask, is_ask, is_answer, is_same_block, is_command, is_disk_result, are_names, are_lost}
use Rattle.st_messages.specs.Kinds.{between, is_word64}
use Rattle.st_codec_fields.specs.Decoder.{patch_bytes_at, Reader, seq, made, byte_at, word64_at, word16_in, file_at, page_at, whole_page_at, name_ask_at, names_at, lost_at, tag_at, ino_at}
use Rattle.st_codec.specs.Decoder.{file_page_at, write_at, ask_names_at, ask_numbered, ask_at, patch_fields_at, patch_numbered, patch_at, two_words_at, plain_answer, answer_numbered, answer_at, tagged_page_at, command_numbered, command_at, result_numbered, disk_result_at}
use Rattle.st_codec_fields.specs.Spelling.{byte, word16, word32, word64, file, name_ask, rows, name_row, lost_row, tag}
use Rattle.st_codec.specs.Spelling.{ask, answer, command, disk_result}
use Rattle.st_codec_fields.proofs.Exact.{Exact, Sound, After, pair_exact, triple_exact, quad_exact, made_again, made_after, nothing_after, fault_after, choice_after, chosen_sound, byte_exact}
use Rattle.st_codec_fields.proofs.ExactFields.{ino_exact, page_exact, file_exact, whole_page_exact, patch_bytes_exact, word16_in_exact, word64_exact, tag_exact, names_exact, lost_exact}
use Rattle.st_codec_fields.proofs.ExactNames.{name_ask_exact}

-- ---- asks

abbrev file_page : FileId × PageNo → List ℕ
file_page p = file p.0 ++ word32 p.1.0

abbrev fits_file_page : FileId × PageNo → Bool
fits_file_page p = is_file 1 p.0 && is_page 0 p.1.0

file_page_exact : Exact file_page_at file_page fits_file_page
unfolding file_page_at
file_page_exact = pair_exact (file_at 1) (λ f. page_at 0) file (λ p. word32 p.0) (is_file 1) (λ f p. is_page 0 p.0) (file_exact 1) (λ f. page_exact 0)

abbrev written : FileId × (PageNo × List ℕ) → List ℕ
written p = file p.0 ++ word32 p.1.0.0 ++ p.1.1

abbrev fits_written : FileId × (PageNo × List ℕ) → Bool
fits_written p = is_file 1 p.0 && (is_page 0 p.1.0.0 && is_whole_page p.1.1)

abbrev written_at : Reader (FileId × (PageNo × List ℕ))
written_at = seq (file_at 1) (λ f. seq (page_at 0) (λ p. whole_page_at))

written_exact : Exact written_at written fits_written
written_exact = triple_exact (file_at 1) (page_at 0) (λ p. whole_page_at) file (λ p. word32 p.0) (λ t. t) (is_file 1) (λ p. is_page 0 p.0) (λ p. is_whole_page) (file_exact 1) (page_exact 0) (λ p. whole_page_exact)

abbrev named : ℕ × NameAsk → List ℕ
named p = word16 p.0 ++ name_ask p.1

abbrev fits_named : ℕ × NameAsk → Bool
fits_named p = between 1 65535 p.0 && is_name_ask p.1

abbrev named_at : Reader (ℕ × NameAsk)
named_at = seq (word16_in 1 65535) (λ s. name_ask_at)

named_exact : Exact named_at named fits_named
named_exact = pair_exact (word16_in 1 65535) (λ s. name_ask_at) word16 name_ask (between 1 65535) (λ s. is_name_ask) (word16_in_exact 1 65535 (omega arith)) (λ s. name_ask_exact)

abbrev patched : FileId × (PageNo × (ℕ × List ℕ)) → List ℕ
patched p = file p.0 ++ word32 p.1.0.0 ++ word16 p.1.1.0 ++ (word16 (length p.1.1.1) ++ p.1.1.1)

abbrev fits_patched : FileId × (PageNo × (ℕ × List ℕ)) → Bool
fits_patched p = is_file 1 p.0 && (is_page 0 p.1.0.0 && (between 0 4095 p.1.1.0 && has_length 1 (4096 - p.1.1.0) p.1.1.1))

abbrev patched_at : Reader (FileId × (PageNo × (ℕ × List ℕ)))
patched_at = seq (file_at 1) (λ f. seq (page_at 0) (λ p. seq (word16_in 0 4095) patch_bytes_at))

patched_exact : Exact patched_at patched fits_patched
patched_exact = quad_exact (file_at 1) (page_at 0) (word16_in 0 4095) patch_bytes_at file (λ p. word32 p.0) word16 (λ t. word16 (length t) ++ t) (is_file 1) (λ p. is_page 0 p.0) (between 0 4095) (λ at. has_length 1 (4096 - at))
    (file_exact 1) (page_exact 0) (word16_in_exact 0 4095 (omega arith)) patch_bytes_exact

-- an ask of version 1, and that of version 2
abbrev pub is_first : Ask → Bool
is_first (asks.Patch f page at bytes) = false
is_first a = true

abbrev pub is_second : Ask → Bool
is_second (asks.Patch f page at bytes) = true
is_second a = false

abbrev pub is_first_ask : Ask → Bool
is_first_ask a = is_ask a && is_first a

abbrev pub is_second_ask : Ask → Bool
is_second_ask a = is_ask a && is_second a

abbrev IsFirst : Ask → Type 0
IsFirst a = is_first_ask a ≡ true

abbrev IsSecond : Ask → Type 0
IsSecond a = is_second_ask a ≡ true

pub no_false : (P : Type 0) → false ≡ true → P
no_false P e = absurd cc

pub with_true : (b : Bool) → b ≡ true → (b && true) ≡ true
with_true b e = and_from b true e refl

ask_after : (n left : ℕ) → After n (ask_numbered n left) ask IsFirst
unfolding ask_numbered write_at ask_names_at ask is_ask
ask_after n left =
    choice_after n 1 _ _ ask IsFirst (made_after 1 written_at written fits_written (λ t. asks.Write t.0 t.1.0 t.1.1) ask IsFirst written_exact (λ t. refl) (λ t e. with_true _ e))
    (choice_after n 2 _ _ ask IsFirst (made_after 2 file_page_at file_page fits_file_page (λ t. asks.Read t.0 t.1) ask IsFirst file_page_exact (λ t. refl) (λ t e. with_true _ e))
    (choice_after n 3 _ _ ask IsFirst (made_after 3 (file_at 1) file (is_file 1) asks.Sync ask IsFirst (file_exact 1) (λ t. refl) (λ t e. with_true _ e))
    (choice_after n 4 _ _ ask IsFirst (made_after 4 file_page_at file_page fits_file_page (λ t. asks.Cut t.0 t.1) ask IsFirst file_page_exact (λ t. refl) (λ t e. with_true _ e))
    (choice_after n 5 _ _ ask IsFirst (made_after 5 named_at named fits_named (λ t. asks.Name (record { 0 = t.0 }) t.1) ask IsFirst named_exact (λ t. refl) (λ t e. with_true _ e))
    (fault_after n (faults.Value left) ask IsFirst)))))

ask_sound : Sound ask_at ask IsFirst
unfolding ask_at
ask_sound = chosen_sound ask_numbered ask IsFirst ask_after

ask_again : (a : Ask) (rest : List ℕ) → is_first_ask a ≡ true → ask_at (ask a ++ rest) ≡ Ok (a, rest)
unfolding ask_at ask_numbered write_at ask_names_at ask is_ask
ask_again (asks.Write f page bytes) rest e = made_again written_at written fits_written (λ t. asks.Write t.0 t.1.0 t.1.1) written_exact (f, (page, bytes)) rest (and_parts _ true e).0
ask_again (asks.Read f page) rest e = made_again file_page_at file_page fits_file_page (λ t. asks.Read t.0 t.1) file_page_exact (f, page) rest (and_parts _ true e).0
ask_again (asks.Sync f) rest e = made_again (file_at 1) file (is_file 1) asks.Sync (file_exact 1) f rest (and_parts _ true e).0
ask_again (asks.Cut f page) rest e = made_again file_page_at file_page fits_file_page (λ t. asks.Cut t.0 t.1) file_page_exact (f, page) rest (and_parts _ true e).0
ask_again (asks.Name server n) rest e = made_again named_at named fits_named (λ t. asks.Name (record { 0 = t.0 }) t.1) named_exact (server.0, n) rest (and_parts _ true e).0
ask_again (asks.Patch f page at bytes) rest e = no_false _ (and_parts _ false e).1

pub ask_exact : Exact ask_at ask is_first_ask
ask_exact = record { sound = ask_sound; again = ask_again }

patch_after : (n left : ℕ) → After n (patch_numbered n left) ask IsSecond
unfolding patch_numbered patch_fields_at ask is_ask
patch_after n left =
    choice_after n 6 _ _ ask IsSecond (made_after 6 patched_at patched fits_patched (λ t. asks.Patch t.0 t.1.0 t.1.1.0 t.1.1.1) ask IsSecond patched_exact
    (λ t. ap (λ (w : List ℕ). 6 ∷ w) (append_assoc (file t.0 ++ word32 t.1.0.0 ++ word16 t.1.1.0) (word16 (length t.1.1.1)) t.1.1.1)) (λ t e. with_true _ e))
    (fault_after n (faults.Value left) ask IsSecond)

patch_sound : Sound patch_at ask IsSecond
unfolding patch_at
patch_sound = chosen_sound patch_numbered ask IsSecond patch_after

patch_again : (a : Ask) (rest : List ℕ) → is_second_ask a ≡ true → patch_at (ask a ++ rest) ≡ Ok (a, rest)
unfolding patch_at patch_numbered patch_fields_at ask is_ask
patch_again (asks.Patch f page at bytes) rest e =
    let again = made_again patched_at patched fits_patched (λ t. asks.Patch t.0 t.1.0 t.1.1.0 t.1.1.1) patched_exact (f, (page, (at, bytes))) rest (and_parts _ true e).0 in
    ap (λ (w : List ℕ). made (λ t. asks.Patch t.0 t.1.0 t.1.1.0 t.1.1.1) patched_at (w ++ rest)) (append_assoc (file f ++ word32 page.0 ++ word16 at) (word16 (length bytes)) bytes) ∙ again
patch_again (asks.Write f page bytes) rest e = no_false _ (and_parts _ false e).1
patch_again (asks.Read f page) rest e = no_false _ (and_parts _ false e).1
patch_again (asks.Sync f) rest e = no_false _ (and_parts _ false e).1
patch_again (asks.Cut f page) rest e = no_false _ (and_parts _ false e).1
patch_again (asks.Name server n) rest e = no_false _ (and_parts _ false e).1

pub patch_exact : Exact patch_at ask is_second_ask
patch_exact = record { sound = patch_sound; again = patch_again }

-- ---- answers

abbrev two_words : ℕ × ℕ → List ℕ
two_words p = word64 p.0 ++ word64 p.1

abbrev fits_two_words : ℕ × ℕ → Bool
fits_two_words p = is_word64 p.0 && is_word64 p.1

two_words_exact : Exact two_words_at two_words fits_two_words
unfolding two_words_at
two_words_exact = pair_exact word64_at (λ n. word64_at) word64 word64 is_word64 (λ n. is_word64) word64_exact (λ n. word64_exact)

abbrev IsAnswer : AppAnswer → Type 0
IsAnswer a = is_answer a ≡ true

plain_after : (n left : ℕ) → After n (plain_answer n left) answer IsAnswer
unfolding plain_answer answer is_answer
plain_after n left =
    choice_after n 0 _ _ answer IsAnswer (nothing_after 0 answers.Written answer IsAnswer refl refl)
    (choice_after n 2 _ _ answer IsAnswer (nothing_after 2 answers.Hard answer IsAnswer refl refl)
    (choice_after n 3 _ _ answer IsAnswer (nothing_after 3 answers.Cut answer IsAnswer refl refl)
    (choice_after n 17 _ _ answer IsAnswer (nothing_after 17 answers.Quiesced answer IsAnswer refl refl)
    (choice_after n 18 _ _ answer IsAnswer (nothing_after 18 answers.NoFile answer IsAnswer refl refl)
    (choice_after n 21 _ _ answer IsAnswer (nothing_after 21 answers.OpsFull answer IsAnswer refl refl)
    (choice_after n 24 _ _ answer IsAnswer (nothing_after 24 answers.DirtyFull answer IsAnswer refl refl)
    (choice_after n 25 _ _ answer IsAnswer (nothing_after 25 answers.NotHolder answer IsAnswer refl refl)
    (choice_after n 26 _ _ answer IsAnswer (nothing_after 26 answers.TooManyLocks answer IsAnswer refl refl)
    (fault_after n (faults.Value left) answer IsAnswer)))))))))

answer_after : (n left : ℕ) → After n (answer_numbered n left) answer IsAnswer
unfolding answer_numbered answer is_answer
answer_after n left =
    choice_after n 1 _ _ answer IsAnswer (made_after 1 whole_page_at (λ t. t) is_whole_page answers.Read answer IsAnswer whole_page_exact (λ t. refl) (λ t e. e))
    (choice_after n 4 _ _ answer IsAnswer (made_after 4 ino_at word32 is_ino answers.Named answer IsAnswer ino_exact (λ t. refl) (λ t e. e))
    (choice_after n 5 _ _ answer IsAnswer (made_after 5 names_at (rows name_row) are_names answers.Listed answer IsAnswer names_exact (λ t. refl) (λ t e. e))
    (choice_after n 6 _ _ answer IsAnswer (made_after 6 byte_at byte (λ t. true) answers.Refused answer IsAnswer byte_exact (λ t. refl) (λ t e. refl))
    (choice_after n 19 _ _ answer IsAnswer (made_after 19 two_words_at two_words fits_two_words (λ t. answers.NoSpace t.0 t.1) answer IsAnswer two_words_exact (λ t. refl) (λ t e. e))
    (choice_after n 20 _ _ answer IsAnswer (made_after 20 word64_at word64 is_word64 answers.DiskFault answer IsAnswer word64_exact (λ t. refl) (λ t e. e))
    (choice_after n 22 _ _ answer IsAnswer (made_after 22 two_words_at two_words fits_two_words (λ t. answers.Uncertain t.0 t.1) answer IsAnswer two_words_exact (λ t. refl) (λ t e. e))
    (choice_after n 23 _ _ answer IsAnswer (made_after 23 lost_at (rows lost_row) are_lost answers.Lost answer IsAnswer lost_exact (λ t. refl) (λ t e. e))
    (plain_after n left))))))))

answer_sound : Sound answer_at answer IsAnswer
unfolding answer_at
answer_sound = chosen_sound answer_numbered answer IsAnswer answer_after

answer_again : (a : AppAnswer) (rest : List ℕ) → is_answer a ≡ true → answer_at (answer a ++ rest) ≡ Ok (a, rest)
unfolding answer_at answer_numbered plain_answer answer is_answer
answer_again answers.Written rest e = refl
answer_again (answers.Read bytes) rest e = made_again whole_page_at (λ t. t) is_whole_page answers.Read whole_page_exact bytes rest e
answer_again answers.Hard rest e = refl
answer_again answers.Cut rest e = refl
answer_again (answers.Named ino) rest e = made_again ino_at word32 is_ino answers.Named ino_exact ino rest e
answer_again (answers.Listed rs) rest e = made_again names_at (rows name_row) are_names answers.Listed names_exact rs rest e
answer_again (answers.Refused code) rest e = refl
answer_again answers.Quiesced rest e = refl
answer_again answers.NoFile rest e = refl
answer_again (answers.NoSpace free asked) rest e = made_again two_words_at two_words fits_two_words (λ t. answers.NoSpace t.0 t.1) two_words_exact (free, asked) rest e
answer_again (answers.DiskFault number) rest e = made_again word64_at word64 is_word64 answers.DiskFault word64_exact number rest e
answer_again answers.OpsFull rest e = refl
answer_again (answers.Uncertain old new) rest e = made_again two_words_at two_words fits_two_words (λ t. answers.Uncertain t.0 t.1) two_words_exact (old, new) rest e
answer_again (answers.Lost rs) rest e = made_again lost_at (rows lost_row) are_lost answers.Lost lost_exact rs rest e
answer_again answers.DirtyFull rest e = refl
answer_again answers.NotHolder rest e = refl
answer_again answers.TooManyLocks rest e = refl

pub answer_exact : Exact answer_at answer is_answer
answer_exact = record { sound = answer_sound; again = answer_again }

-- ---- disks

abbrev tagged : Tag × List ℕ → List ℕ
tagged p = tag p.0 ++ p.1

abbrev fits_tagged : ℕ → Tag × List ℕ → Bool
fits_tagged least p = is_tag least p.0 && is_whole_page p.1

tagged_exact : (least : ℕ) → Exact (tagged_page_at least) tagged (fits_tagged least)
unfolding tagged_page_at
tagged_exact least = pair_exact (tag_at least) (λ t. whole_page_at) tag (λ t. t) (is_tag least) (λ t. is_whole_page) (tag_exact least) (λ t. whole_page_exact)

abbrev block_of : ℕ → ℕ → BlockAt
block_of d n = record { disk = record { 0 = d }; block = n }

of_parts : (d₁ d₂ n₁ n₂ : ℕ) → d₁ ≡ d₂ → n₁ ≡ n₂ → block_of d₁ n₁ ≡ block_of d₂ n₂
of_parts d₁ d₂ n₁ n₂ p q = cc

same_block : (a b : BlockAt) → is_same_block a b ≡ true → a ≡ b
same_block a b e =
    let parts = and_parts (a.disk.0 == b.disk.0) (a.block == b.block) e in
    let disk : a.disk.0 ≡ b.disk.0 = eqb-true _ _ parts.0 in
    let place : a.block ≡ b.block = eqb-true _ _ parts.1 in
    of_parts a.disk.0 b.disk.0 a.block b.block disk place

own_block : (a : BlockAt) → is_same_block a a ≡ true
own_block a = and_from (a.disk.0 == a.disk.0) (a.block == a.block) (eq-eqb _ _ refl) (eq-eqb _ _ refl)

command_after : (at : BlockAt) (n left : ℕ) → After n (command_numbered at n left) command (λ o. is_command at o ≡ true)
unfolding command_numbered command is_command
command_after at n left =
    choice_after n 0 _ _ command (λ o. is_command at o ≡ true) (nothing_after 0 (commands.Read at) command (λ o. is_command at o ≡ true) refl (own_block at))
    (choice_after n 1 _ _ command (λ o. is_command at o ≡ true) (made_after 1 (tagged_page_at 1) tagged (fits_tagged 1) (λ t. commands.Write at t.0 t.1) command (λ o. is_command at o ≡ true) (tagged_exact 1) (λ t. refl) (λ t e. and_from (is_same_block at at) _ (own_block at) e))
    (fault_after n (faults.Value left) command (λ o. is_command at o ≡ true)))

command_sound : (at : BlockAt) → Sound (command_at at) command (λ o. is_command at o ≡ true)
unfolding command_at
command_sound at = chosen_sound (command_numbered at) command (λ o. is_command at o ≡ true) (command_after at)

command_again : (at : BlockAt) (o : Command) (rest : List ℕ) → is_command at o ≡ true → command_at at (command o ++ rest) ≡ Ok (o, rest)
unfolding command_at command_numbered command is_command
command_again at (commands.Read there) rest e = ap (λ (b : BlockAt). Ok (commands.Read b, rest)) (same_block at there e)
command_again at (commands.Write there t bytes) rest e =
    let parts = and_parts (is_same_block at there) (is_tag 1 t && is_whole_page bytes) e in
    made_again (tagged_page_at 1) tagged (fits_tagged 1) (λ t. commands.Write at t.0 t.1) (tagged_exact 1) (t, bytes) rest parts.1 ∙ ap (λ (b : BlockAt). Ok (commands.Write b t bytes, rest)) (same_block at there parts.0)

pub command_exact : (at : BlockAt) → Exact (command_at at) command (is_command at)
command_exact at = record { sound = command_sound at; again = command_again at }

abbrev IsResult : DiskResult → Type 0
IsResult o = is_disk_result o ≡ true

result_after : (n left : ℕ) → After n (result_numbered n left) disk_result IsResult
unfolding result_numbered disk_result is_disk_result
result_after n left =
    choice_after n 0 _ _ disk_result IsResult (nothing_after 0 results.Failed disk_result IsResult refl refl)
    (choice_after n 1 _ _ disk_result IsResult (nothing_after 1 results.WriteDone disk_result IsResult refl refl)
    (choice_after n 2 _ _ disk_result IsResult (made_after 2 (tagged_page_at 0) tagged (fits_tagged 0) (λ t. results.ReadDone t.0 t.1) disk_result IsResult (tagged_exact 0) (λ t. refl) (λ t e. e))
    (fault_after n (faults.Value left) disk_result IsResult)))

result_sound : Sound disk_result_at disk_result IsResult
unfolding disk_result_at
result_sound = chosen_sound result_numbered disk_result IsResult result_after

result_again : (o : DiskResult) (rest : List ℕ) → is_disk_result o ≡ true → disk_result_at (disk_result o ++ rest) ≡ Ok (o, rest)
unfolding disk_result_at result_numbered disk_result is_disk_result
result_again results.Failed rest e = refl
result_again results.WriteDone rest e = refl
result_again (results.ReadDone t bytes) rest e = made_again (tagged_page_at 0) tagged (fits_tagged 0) (λ t. results.ReadDone t.0 t.1) (tagged_exact 0) (t, bytes) rest e

pub disk_result_exact : Exact disk_result_at disk_result is_disk_result
disk_result_exact = record { sound = result_sound; again = result_again }
