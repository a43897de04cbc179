-- What is asked of a server's names, and its reply, are read exactly.
use Rattle.std.proofs.Common.{◌≡◌, ℕ, Bool, true, List, ◌∷◌, ◌++◌, Ok, refl, ap, ◌∙◌, append_assoc}
use Rattle.std.specs.Prelude.{◌&&◌}
use Rattle.st_base.specs.declared.ids.GrantNo.{GrantNo}
use Rattle.st_base.specs.declared.names.NameAsk.{NameAsk}
use Rattle.st_base.specs.declared.names.NameAsk.TheVariants as name_asks
use Rattle.st_codec_fields.specs.declared.fault.Fault.TheVariants as faults
use Rattle.st_messages.specs.declared.message.NameOp.{NameOp}
use Rattle.st_messages.specs.declared.message.NameOp.TheVariants as ops
use Rattle.st_messages.specs.declared.message.NameReply.{NameReply}
use Rattle.st_messages.specs.declared.message.NameReply.TheVariants as replies
use Rattle.st_messages.specs.Ranges.{is_word32, is_ino, is_grant, has_length, is_dir_name, is_name_op, is_name_ask, is_name_reply, are_names}
use Rattle.st_messages.specs.Kinds.{between}
use Rattle.st_codec_fields.specs.Decoder.{seq, made, ino_at, grant_at, word32_at, byte_in, name_at, dir_name_at, remove_at, rename_at, op_numbered, name_op_at, remove_ask_at, rename_ask_at, name_ask_numbered, name_ask_at, reply_numbered, name_reply_at, names_at}
use Rattle.st_codec_fields.specs.Spelling.{byte, word32, grant, name, name_op, name_ask, name_reply, rows, name_row}
use Rattle.st_codec_fields.proofs.Exact.{Exact, Sound, After, pair_exact, triple_exact, made_again, made_after, fault_after, choice_after, chosen_sound}
use Rattle.st_codec_fields.proofs.ExactFields.{ino_exact, grant_exact, word32_exact, byte_in_exact, name_exact, names_exact}

abbrev dir_name : ℕ × List ℕ → List ℕ
dir_name p = word32 p.0 ++ name p.1

abbrev fits_dir_name : ℕ → ℕ × List ℕ → Bool
fits_dir_name least p = is_dir_name least p.0 p.1

dir_name_exact : (least : ℕ) → Exact (dir_name_at least) dir_name (fits_dir_name least)
unfolding dir_name_at
dir_name_exact least = pair_exact ino_at (λ dir. name_at least 255) word32 name is_ino (λ dir. has_length least 255) ino_exact (λ dir. name_exact least 255)

-- two directories and names
abbrev two_names : (ℕ × List ℕ) × (ℕ × List ℕ) → List ℕ
two_names p = dir_name p.0 ++ dir_name p.1

abbrev fits_two_names : (ℕ × List ℕ) × (ℕ × List ℕ) → Bool
fits_two_names p = fits_dir_name 1 p.0 && fits_dir_name 1 p.1

two_names_exact : Exact (seq (dir_name_at 1) (λ from. dir_name_at 1)) two_names fits_two_names
two_names_exact = pair_exact (dir_name_at 1) (λ from. dir_name_at 1) dir_name dir_name (fits_dir_name 1) (λ from. fits_dir_name 1) (dir_name_exact 1) (λ from. dir_name_exact 1)

abbrev op_remove : ℕ × (List ℕ × GrantNo) → List ℕ
op_remove p = word32 p.0 ++ name p.1.0 ++ grant p.1.1

abbrev fits_op_remove : ℕ × (List ℕ × GrantNo) → Bool
fits_op_remove p = is_ino p.0 && (has_length 1 255 p.1.0 && is_grant p.1.1)

op_remove_exact : Exact (seq ino_at (λ dir. seq (name_at 1 255) (λ name. grant_at))) op_remove fits_op_remove
op_remove_exact = triple_exact ino_at (name_at 1 255) (λ name. grant_at) word32 name grant is_ino (has_length 1 255) (λ name. is_grant) ino_exact (name_exact 1 255) (λ name. grant_exact)

op_after : (n left : ℕ) → After n (op_numbered n left) name_op (λ o. is_name_op o ≡ true)
unfolding op_numbered remove_at rename_at name_op is_name_op
op_after n left =
    choice_after n 1 _ _ name_op (λ o. is_name_op o ≡ true) (made_after 1 (dir_name_at 1) dir_name (fits_dir_name 1) (λ t. ops.Lookup t.0 t.1) name_op (λ o. is_name_op o ≡ true) (dir_name_exact 1) (λ t. refl) (λ t e. e))
    (choice_after n 2 _ _ name_op (λ o. is_name_op o ≡ true) (made_after 2 (dir_name_at 1) dir_name (fits_dir_name 1) (λ t. ops.Create t.0 t.1) name_op (λ o. is_name_op o ≡ true) (dir_name_exact 1) (λ t. refl) (λ t e. e))
    (choice_after n 3 _ _ name_op (λ o. is_name_op o ≡ true) (made_after 3 (dir_name_at 1) dir_name (fits_dir_name 1) (λ t. ops.Mkdir t.0 t.1) name_op (λ o. is_name_op o ≡ true) (dir_name_exact 1) (λ t. refl) (λ t e. e))
    (choice_after n 4 _ _ name_op (λ o. is_name_op o ≡ true) (made_after 4 (seq ino_at (λ dir. seq (name_at 1 255) (λ name. grant_at))) op_remove fits_op_remove (λ t. ops.Remove t.0 t.1.0 t.1.1) name_op (λ o. is_name_op o ≡ true) op_remove_exact (λ t. refl) (λ t e. e))
    (choice_after n 5 _ _ name_op (λ o. is_name_op o ≡ true) (made_after 5 (seq (dir_name_at 1) (λ from. dir_name_at 1)) two_names fits_two_names (λ t. ops.Rename t.0.0 t.0.1 t.1.0 t.1.1) name_op (λ o. is_name_op o ≡ true) two_names_exact (λ t. ap (λ (w : List ℕ). 5 ∷ w) (append_assoc (dir_name t.0) (word32 t.1.0) (name t.1.1))) (λ t e. e))
    (choice_after n 6 _ _ name_op (λ o. is_name_op o ≡ true) (made_after 6 (dir_name_at 0) dir_name (fits_dir_name 0) (λ t. ops.List t.0 t.1) name_op (λ o. is_name_op o ≡ true) (dir_name_exact 0) (λ t. refl) (λ t e. e))
    (fault_after n (faults.Value left) name_op (λ o. is_name_op o ≡ true)))))))

op_again : (o : NameOp) (rest : List ℕ) → is_name_op o ≡ true → name_op_at (name_op o ++ rest) ≡ Ok (o, rest)
unfolding name_op_at op_numbered remove_at rename_at name_op is_name_op
op_again (ops.Lookup dir n) rest e = made_again (dir_name_at 1) dir_name (fits_dir_name 1) (λ t. ops.Lookup t.0 t.1) (dir_name_exact 1) (dir, n) rest e
op_again (ops.Create dir n) rest e = made_again (dir_name_at 1) dir_name (fits_dir_name 1) (λ t. ops.Create t.0 t.1) (dir_name_exact 1) (dir, n) rest e
op_again (ops.Mkdir dir n) rest e = made_again (dir_name_at 1) dir_name (fits_dir_name 1) (λ t. ops.Mkdir t.0 t.1) (dir_name_exact 1) (dir, n) rest e
op_again (ops.Remove dir n g) rest e = made_again (seq ino_at (λ dir. seq (name_at 1 255) (λ name. grant_at))) op_remove fits_op_remove (λ t. ops.Remove t.0 t.1.0 t.1.1) op_remove_exact (dir, (n, g)) rest e
op_again (ops.Rename dir n dir2 n2) rest e =
    let again = made_again (seq (dir_name_at 1) (λ from. dir_name_at 1)) two_names fits_two_names (λ t. ops.Rename t.0.0 t.0.1 t.1.0 t.1.1) two_names_exact ((dir, n), (dir2, n2)) rest e in
    ap (λ (w : List ℕ). made (λ t. ops.Rename t.0.0 t.0.1 t.1.0 t.1.1) (seq (dir_name_at 1) (λ from. dir_name_at 1)) (w ++ rest)) (append_assoc (word32 dir ++ name n) (word32 dir2) (name n2)) ∙ again
op_again (ops.List dir n) rest e = made_again (dir_name_at 0) dir_name (fits_dir_name 0) (λ t. ops.List t.0 t.1) (dir_name_exact 0) (dir, n) rest e

op_sound : Sound name_op_at name_op (λ o. is_name_op o ≡ true)
unfolding name_op_at
op_sound = chosen_sound op_numbered name_op (λ o. is_name_op o ≡ true) op_after

pub name_op_exact : Exact name_op_at name_op is_name_op
name_op_exact = record { sound = op_sound; again = op_again }

abbrev ask_remove : ℕ × (List ℕ × ℕ) → List ℕ
ask_remove p = word32 p.0 ++ name p.1.0 ++ word32 p.1.1

abbrev fits_ask_remove : ℕ × (List ℕ × ℕ) → Bool
fits_ask_remove p = is_ino p.0 && (has_length 1 255 p.1.0 && is_word32 p.1.1)

ask_remove_exact : Exact (seq ino_at (λ dir. seq (name_at 1 255) (λ name. word32_at))) ask_remove fits_ask_remove
ask_remove_exact = triple_exact ino_at (name_at 1 255) (λ name. word32_at) word32 name word32 is_ino (has_length 1 255) (λ name. is_word32) ino_exact (name_exact 1 255) (λ name. word32_exact)

ask_after : (n left : ℕ) → After n (name_ask_numbered n left) name_ask (λ o. is_name_ask o ≡ true)
unfolding name_ask_numbered remove_ask_at rename_ask_at name_ask is_name_ask
ask_after n left =
    choice_after n 1 _ _ name_ask (λ o. is_name_ask o ≡ true) (made_after 1 (dir_name_at 1) dir_name (fits_dir_name 1) (λ t. name_asks.Lookup t.0 t.1) name_ask (λ o. is_name_ask o ≡ true) (dir_name_exact 1) (λ t. refl) (λ t e. e))
    (choice_after n 2 _ _ name_ask (λ o. is_name_ask o ≡ true) (made_after 2 (dir_name_at 1) dir_name (fits_dir_name 1) (λ t. name_asks.Create t.0 t.1) name_ask (λ o. is_name_ask o ≡ true) (dir_name_exact 1) (λ t. refl) (λ t e. e))
    (choice_after n 3 _ _ name_ask (λ o. is_name_ask o ≡ true) (made_after 3 (dir_name_at 1) dir_name (fits_dir_name 1) (λ t. name_asks.Mkdir t.0 t.1) name_ask (λ o. is_name_ask o ≡ true) (dir_name_exact 1) (λ t. refl) (λ t e. e))
    (choice_after n 4 _ _ name_ask (λ o. is_name_ask o ≡ true) (made_after 4 (seq ino_at (λ dir. seq (name_at 1 255) (λ name. word32_at))) ask_remove fits_ask_remove (λ t. name_asks.Remove t.0 t.1.0 t.1.1) name_ask (λ o. is_name_ask o ≡ true) ask_remove_exact (λ t. refl) (λ t e. e))
    (choice_after n 5 _ _ name_ask (λ o. is_name_ask o ≡ true) (made_after 5 (seq (dir_name_at 1) (λ from. dir_name_at 1)) two_names fits_two_names (λ t. name_asks.Rename t.0.0 t.0.1 t.1.0 t.1.1) name_ask (λ o. is_name_ask o ≡ true) two_names_exact (λ t. ap (λ (w : List ℕ). 5 ∷ w) (append_assoc (dir_name t.0) (word32 t.1.0) (name t.1.1))) (λ t e. e))
    (choice_after n 6 _ _ name_ask (λ o. is_name_ask o ≡ true) (made_after 6 (dir_name_at 0) dir_name (fits_dir_name 0) (λ t. name_asks.List t.0 t.1) name_ask (λ o. is_name_ask o ≡ true) (dir_name_exact 0) (λ t. refl) (λ t e. e))
    (fault_after n (faults.Value left) name_ask (λ o. is_name_ask o ≡ true)))))))

ask_again : (o : NameAsk) (rest : List ℕ) → is_name_ask o ≡ true → name_ask_at (name_ask o ++ rest) ≡ Ok (o, rest)
unfolding name_ask_at name_ask_numbered remove_ask_at rename_ask_at name_ask is_name_ask
ask_again (name_asks.Lookup dir n) rest e = made_again (dir_name_at 1) dir_name (fits_dir_name 1) (λ t. name_asks.Lookup t.0 t.1) (dir_name_exact 1) (dir, n) rest e
ask_again (name_asks.Create dir n) rest e = made_again (dir_name_at 1) dir_name (fits_dir_name 1) (λ t. name_asks.Create t.0 t.1) (dir_name_exact 1) (dir, n) rest e
ask_again (name_asks.Mkdir dir n) rest e = made_again (dir_name_at 1) dir_name (fits_dir_name 1) (λ t. name_asks.Mkdir t.0 t.1) (dir_name_exact 1) (dir, n) rest e
ask_again (name_asks.Remove dir n g) rest e = made_again (seq ino_at (λ dir. seq (name_at 1 255) (λ name. word32_at))) ask_remove fits_ask_remove (λ t. name_asks.Remove t.0 t.1.0 t.1.1) ask_remove_exact (dir, (n, g)) rest e
ask_again (name_asks.Rename dir n dir2 n2) rest e =
    let again = made_again (seq (dir_name_at 1) (λ from. dir_name_at 1)) two_names fits_two_names (λ t. name_asks.Rename t.0.0 t.0.1 t.1.0 t.1.1) two_names_exact ((dir, n), (dir2, n2)) rest e in
    ap (λ (w : List ℕ). made (λ t. name_asks.Rename t.0.0 t.0.1 t.1.0 t.1.1) (seq (dir_name_at 1) (λ from. dir_name_at 1)) (w ++ rest)) (append_assoc (word32 dir ++ name n) (word32 dir2) (name n2)) ∙ again
ask_again (name_asks.List dir n) rest e = made_again (dir_name_at 0) dir_name (fits_dir_name 0) (λ t. name_asks.List t.0 t.1) (dir_name_exact 0) (dir, n) rest e

ask_sound : Sound name_ask_at name_ask (λ o. is_name_ask o ≡ true)
unfolding name_ask_at
ask_sound = chosen_sound name_ask_numbered name_ask (λ o. is_name_ask o ≡ true) ask_after

pub name_ask_exact : Exact name_ask_at name_ask is_name_ask
name_ask_exact = record { sound = ask_sound; again = ask_again }

reply_after : (n left : ℕ) → After n (reply_numbered n left) name_reply (λ o. is_name_reply o ≡ true)
unfolding reply_numbered name_reply is_name_reply
reply_after n left =
    choice_after n 0 _ _ name_reply (λ o. is_name_reply o ≡ true) (made_after 0 ino_at word32 is_ino replies.Ino name_reply (λ o. is_name_reply o ≡ true) ino_exact (λ t. refl) (λ t e. e))
    (choice_after n 1 _ _ name_reply (λ o. is_name_reply o ≡ true) (made_after 1 names_at (rows name_row) are_names replies.Listed name_reply (λ o. is_name_reply o ≡ true) names_exact (λ t. refl) (λ t e. e))
    (choice_after n 2 _ _ name_reply (λ o. is_name_reply o ≡ true) (made_after 2 (byte_in 1 8) byte (between 1 8) replies.Refused name_reply (λ o. is_name_reply o ≡ true) (byte_in_exact 1 8) (λ t. refl) (λ t e. e))
    (fault_after n (faults.Value left) name_reply (λ o. is_name_reply o ≡ true))))

reply_again : (o : NameReply) (rest : List ℕ) → is_name_reply o ≡ true → name_reply_at (name_reply o ++ rest) ≡ Ok (o, rest)
unfolding name_reply_at reply_numbered name_reply is_name_reply
reply_again (replies.Ino ino) rest e = made_again ino_at word32 is_ino replies.Ino ino_exact ino rest e
reply_again (replies.Listed rs) rest e = made_again names_at (rows name_row) are_names replies.Listed names_exact rs rest e
reply_again (replies.Refused code) rest e = made_again (byte_in 1 8) byte (between 1 8) replies.Refused (byte_in_exact 1 8) code rest e

reply_sound : Sound name_reply_at name_reply (λ o. is_name_reply o ≡ true)
unfolding name_reply_at
reply_sound = chosen_sound reply_numbered name_reply (λ o. is_name_reply o ≡ true) reply_after

pub name_reply_exact : Exact name_reply_at name_reply is_name_reply
name_reply_exact = record { sound = reply_sound; again = reply_again }
