-- Bodies are read exactly, kind by kind.
use Rattle.std.proofs.Common.{◌≡◌, ℕ, Bool, true, false, List, ◌∷◌, ◌++◌, length, Option, Some, None, Ok, refl, sym, ap, subst, ◌∙◌, ◌-◌, ◌^◌, ◌≤◌, cond, arith, inl, inr}
use Rattle.std.specs.Prelude.{◌&&◌, ◌==◌, min}
use Rattle.std.proofs.lemmas.Bool.{and_parts, and_from, eqb-true, cases_Bool, lt-ltb}
use Rattle.st_base.specs.declared.ids.GrantNo.{GrantNo}
use Rattle.st_base.specs.declared.ids.PageNo.{PageNo}
use Rattle.st_base.specs.declared.disk.BlockAt.{BlockAt}
use Rattle.st_base.specs.declared.disk.Command.{Command}
use Rattle.st_base.specs.declared.mode.Mode.{Mode}
use Rattle.st_base.specs.declared.rows.ExtentRow.{ExtentRow}
use Rattle.st_messages.specs.declared.answer.AppAnswer.{AppAnswer}
use Rattle.st_messages.specs.declared.ask.Ask.{Ask}
use Rattle.st_messages.specs.declared.ask.Ask.TheVariants as asks
use Rattle.st_codec_fields.specs.declared.fault.Fault.{Fault}
use Rattle.st_codec_fields.specs.declared.fault.Fault.TheVariants as faults
use Rattle.st_messages.specs.declared.kind.Kind.{Kind}
use Rattle.st_messages.specs.declared.kind.Kind.TheVariants as kinds
use Rattle.st_messages.specs.declared.message.Body.{Body}
use Rattle.st_messages.specs.declared.message.Body.TheVariants as bodies
use Rattle.st_messages.specs.declared.message.DiskResult.{DiskResult}
use Rattle.st_messages.specs.declared.message.Why.{Why}
use Rattle.st_messages.specs.declared.message.Why.TheVariants as whys
use Rattle.st_messages.specs.Ranges.{is_word16, is_word32, is_grant, is_ino, is_page, is_mode, is_count, is_any_block, is_name_op, is_name_reply, is_ask, is_answer, is_command, is_disk_result, are_locks, are_extents, is_body}
use Rattle.st_messages.specs.Kinds.{is_word64, kind_of_ask, kind_of_body}
use Rattle.st_codec_fields.specs.Decoder.{Reader, seq, byte_at, word16_at, word32_at, word64_at, ino_at, grant_at, page_at, mode_at, locks_at, extents_at, name_op_at, name_reply_at, any_block_at}
use Rattle.st_codec.specs.Decoder.{found, why_numbered, why_at, count_at, ask_at, patch_at, answer_at, command_at, disk_result_at, acquire_at, released_at, map_at, allocate_at, cut_at, name_body_at, reassert_at, demand_seen_at, nack_at, granted_at, queued_at, demand_at, extents_body_at, named_at, app_at, app_patch_at, app_done_at, submit_at, done_at, body_at}
use Rattle.st_codec_fields.specs.Spelling.{byte, word16, word32, word64, mode, grant, block, rows, lock_row, extent_row, name_op, name_reply}
use Rattle.st_codec.specs.Spelling.{why_number, ask, answer, command, disk_result, body}
use Rattle.st_codec_fields.proofs.Exact.{IsBytes, Exact, Sound, bind_ok, ok_is, failed, pair_exact, triple_exact, quad_exact, checked_exact, made_sound, made_again, nothing_sound, byte_exact}
use Rattle.st_codec_fields.proofs.ExactFields.{word16_exact, word32_exact, word64_exact, ino_exact, grant_exact, page_exact, mode_exact, any_block_exact, locks_exact, extents_exact, at_most}
use Rattle.st_codec.proofs.ExactLocal.{is_first_ask, is_second_ask, ask_exact, patch_exact, answer_exact, command_exact, disk_result_exact, with_true, no_false}
use Rattle.st_codec_fields.proofs.ExactNames.{name_op_exact, name_reply_exact}

-- ---- why

abbrev IsNumber : ℕ → Option Why → Type 0
IsNumber n o = (w : Why) → o ≡ Some w → why_number w ≡ n

none_is : (n : ℕ) → IsNumber n None
none_is n w e = absurd cc

one_is : (n k : ℕ) (v : Why) (others : Option Why) → why_number v ≡ k → IsNumber n others → IsNumber n (cond (n == k) (Some v) others)
one_is n k v others own h w e =
    elim (cases_Bool (n == k)) [
      | inl t ↦ let same : n ≡ k = eqb-true n k t in
          let is : Some v ≡ Some w = rw t at e in
          let v-is : v ≡ w = cc in
          ap why_number (sym v-is) ∙ (own ∙ sym same)
      | inr f ↦ h w (rw f at e)
    ]

numbered_is : (n : ℕ) → IsNumber n (why_numbered n)
numbered_is n =
    one_is n 1 whys.Suspect _ refl
    (one_is n 2 whys.NoSession _ refl
    (one_is n 3 whys.OtherEpoch _ refl
    (one_is n 4 whys.Grace _ refl
    (one_is n 5 whys.GraceOver _ refl
    (one_is n 6 whys.Conflict _ refl
    (one_is n 7 whys.NotHolder _ refl
    (one_is n 8 whys.NoFile _ refl
    (one_is n 9 whys.NoSpace _ refl
    (one_is n 10 whys.TooManyLocks _ refl
    (none_is n))))))))))

why_again : (w : Why) → why_numbered (why_number w) ≡ Some w
why_again whys.Suspect = refl
why_again whys.NoSession = refl
why_again whys.OtherEpoch = refl
why_again whys.Grace = refl
why_again whys.GraceOver = refl
why_again whys.Conflict = refl
why_again whys.NotHolder = refl
why_again whys.NoFile = refl
why_again whys.NoSpace = refl
why_again whys.TooManyLocks = refl

pub found_ok : {A : Type 0} (d : Fault) (o : Option A) (bytes : List ℕ) (x : A × List ℕ) → found d o bytes ≡ Ok x → (o ≡ Some x.0) × (bytes ≡ x.1)
found_ok d None bytes x e = failed ((None ≡ Some x.0) × (bytes ≡ x.1)) d x e
found_ok {A} d (Some a) bytes x e = let k = ok_is (a, bytes) x e in (ap (λ (y : A × List ℕ). Some y.0) k, ap (λ (y : A × List ℕ). y.1) k)

pub cells : (a b : ℕ) (x y : List ℕ) → b ≡ a → x ≡ y → a ∷ x ≡ b ∷ y
cells a b x y p q = cc

why_exact : Exact why_at (λ w. byte (why_number w)) (λ w. true)
unfolding why_at
why_exact = record {
  sound = record {
    takes = λ bytes x fits e.
        let n = bind_ok (byte_at bytes) (λ n. found (faults.Value (length bytes)) (why_numbered n.0) n.1) x e in
        let t = byte_exact.sound.takes bytes n.0 fits n.1 in
        let f = found_ok (faults.Value (length bytes)) (why_numbered n.0.0) n.0.1 x n.2 in
        let number : why_number x.0 ≡ n.0.0 = numbered_is n.0.0 x.0 f.0 in
        (record { parts = t.0.parts ∙ cells n.0.0 (why_number x.0) n.0.1 x.1 number f.1; rest_fits = subst IsBytes f.1 t.0.rest_fits }, refl);
  };
  again = λ w rest e. rw (why_again w) refl;
}

-- ---- fields of several kinds

abbrev wished : ℕ × Mode → List ℕ
wished p = word32 p.0 ++ mode p.1

abbrev fits_wished : ℕ × Mode → Bool
fits_wished p = is_ino p.0 && is_mode 1 2 p.1

abbrev wished_at : Reader (ℕ × Mode)
wished_at = seq ino_at (λ i. mode_at 1 2)

wished_exact : Exact wished_at wished fits_wished
wished_exact = pair_exact ino_at (λ i. mode_at 1 2) word32 mode is_ino (λ i. is_mode 1 2) ino_exact (λ i. mode_exact 1 2 (omega arith))

abbrev held : ℕ × (GrantNo × Mode) → List ℕ
held p = word32 p.0 ++ grant p.1.0 ++ mode p.1.1

abbrev fits_held : ℕ → ℕ → ℕ × (GrantNo × Mode) → Bool
fits_held least most p = is_ino p.0 && (is_grant p.1.0 && is_mode least most p.1.1)

abbrev held_at : ℕ → ℕ → Reader (ℕ × (GrantNo × Mode))
held_at least most = seq ino_at (λ i. seq grant_at (λ g. mode_at least most))

held_exact : (least most : ℕ) → most ≤ 2 → Exact (held_at least most) held (fits_held least most)
held_exact least most le = triple_exact ino_at grant_at (λ g. mode_at least most) word32 grant mode is_ino is_grant (λ g. is_mode least most) ino_exact grant_exact (λ g. mode_exact least most le)

abbrev placed : ℕ × (GrantNo × PageNo) → List ℕ
placed p = word32 p.0 ++ grant p.1.0 ++ word32 p.1.1.0

abbrev fits_placed : ℕ × (GrantNo × PageNo) → Bool
fits_placed p = is_ino p.0 && (is_grant p.1.0 && is_page 0 p.1.1.0)

abbrev placed_at : Reader (ℕ × (GrantNo × PageNo))
placed_at = seq ino_at (λ i. seq grant_at (λ g. page_at 0))

placed_exact : Exact placed_at placed fits_placed
placed_exact = triple_exact ino_at grant_at (λ g. page_at 0) word32 grant (λ p. word32 p.0) is_ino is_grant (λ g p. is_page 0 p.0) ino_exact grant_exact (λ g. page_exact 0)

count_exact : (page : PageNo) → Exact (count_at page) word16 (is_count page.0)
unfolding count_at
count_exact page = checked_exact word16_at word16 is_word16 (is_count page.0) word16_exact (λ n e. lt-ltb n (2 ^ 16) (omega (arith, at_most 1 (min 64 (1048576 - page.0)) n e)))

abbrev run : ℕ × (GrantNo × (PageNo × ℕ)) → List ℕ
run p = word32 p.0 ++ grant p.1.0 ++ word32 p.1.1.0.0 ++ word16 p.1.1.1

abbrev fits_run : ℕ × (GrantNo × (PageNo × ℕ)) → Bool
fits_run p = is_ino p.0 && (is_grant p.1.0 && (is_page 0 p.1.1.0.0 && is_count p.1.1.0.0 p.1.1.1))

abbrev run_at : Reader (ℕ × (GrantNo × (PageNo × ℕ)))
run_at = seq ino_at (λ i. seq grant_at (λ g. seq (page_at 0) count_at))

run_exact : Exact run_at run fits_run
run_exact = quad_exact ino_at grant_at (page_at 0) count_at word32 grant (λ p. word32 p.0) word16 is_ino is_grant (λ p. is_page 0 p.0) (λ p. is_count p.0) ino_exact grant_exact (page_exact 0) count_exact

abbrev seen : ℕ × GrantNo → List ℕ
seen p = word32 p.0 ++ grant p.1

abbrev fits_seen : ℕ × GrantNo → Bool
fits_seen p = is_ino p.0 && is_grant p.1

abbrev seen_at : Reader (ℕ × GrantNo)
seen_at = seq ino_at (λ i. grant_at)

seen_exact : Exact seen_at seen fits_seen
seen_exact = pair_exact ino_at (λ i. grant_at) word32 grant is_ino (λ i. is_grant) ino_exact (λ i. grant_exact)

abbrev refused : Why × (ℕ × ℕ) → List ℕ
refused p = byte (why_number p.0) ++ word64 p.1.0 ++ word64 p.1.1

abbrev fits_refused : Why × (ℕ × ℕ) → Bool
fits_refused p = true && (is_word64 p.1.0 && is_word64 p.1.1)

abbrev refused_at : Reader (Why × (ℕ × ℕ))
refused_at = seq why_at (λ w. seq word64_at (λ a. word64_at))

refused_exact : Exact refused_at refused fits_refused
refused_exact = triple_exact why_at word64_at (λ a. word64_at) (λ w. byte (why_number w)) word64 word64 (λ w. true) is_word64 (λ a. is_word64) why_exact word64_exact (λ a. word64_exact)

abbrev mapped : ℕ × List ExtentRow → List ℕ
mapped p = word32 p.0 ++ rows extent_row p.1

abbrev fits_mapped : ℕ × List ExtentRow → Bool
fits_mapped p = is_ino p.0 && are_extents p.1

abbrev mapped_at : Reader (ℕ × List ExtentRow)
mapped_at = seq ino_at (λ i. extents_at)

mapped_exact : Exact mapped_at mapped fits_mapped
mapped_exact = pair_exact ino_at (λ i. extents_at) word32 (rows extent_row) is_ino (λ i. are_extents) ino_exact (λ i. extents_exact)

abbrev asked : ℕ × Ask → List ℕ
asked p = word32 p.0 ++ ask p.1

abbrev fits_asked : (Ask → Bool) → ℕ × Ask → Bool
fits_asked F p = is_word32 p.0 && F p.1

first_exact : Exact (seq word32_at (λ n. ask_at)) asked (fits_asked is_first_ask)
first_exact = pair_exact word32_at (λ n. ask_at) word32 ask is_word32 (λ n. is_first_ask) word32_exact (λ n. ask_exact)

second_exact : Exact (seq word32_at (λ n. patch_at)) asked (fits_asked is_second_ask)
second_exact = pair_exact word32_at (λ n. patch_at) word32 ask is_word32 (λ n. is_second_ask) word32_exact (λ n. patch_exact)

abbrev answered : ℕ × AppAnswer → List ℕ
answered p = word32 p.0 ++ answer p.1

abbrev fits_answered : ℕ × AppAnswer → Bool
fits_answered p = is_word32 p.0 && is_answer p.1

answered_exact : Exact (seq word32_at (λ n. answer_at)) answered fits_answered
answered_exact = pair_exact word32_at (λ n. answer_at) word32 answer is_word32 (λ n. is_answer) word32_exact (λ n. answer_exact)

abbrev submitted : ℕ × (BlockAt × Command) → List ℕ
submitted p = word64 p.0 ++ block p.1.0 ++ command p.1.1

abbrev fits_submitted : ℕ × (BlockAt × Command) → Bool
fits_submitted p = is_word64 p.0 && (is_any_block p.1.0 && is_command p.1.0 p.1.1)

submitted_exact : Exact (seq word64_at (λ n. seq any_block_at command_at)) submitted fits_submitted
submitted_exact = triple_exact word64_at any_block_at command_at word64 block command is_word64 is_any_block is_command word64_exact any_block_exact command_exact

abbrev ended : ℕ × DiskResult → List ℕ
ended p = word64 p.0 ++ disk_result p.1

abbrev fits_ended : ℕ × DiskResult → Bool
fits_ended p = is_word64 p.0 && is_disk_result p.1

ended_exact : Exact (seq word64_at (λ n. disk_result_at)) ended fits_ended
ended_exact = pair_exact word64_at (λ n. disk_result_at) word64 disk_result is_word64 (λ n. is_disk_result) word64_exact (λ n. disk_result_exact)

-- ---- bodies

-- a body of this kind, in its ranges
abbrev pub IsBodyOf : Kind → Body → Type 0
IsBodyOf k b = (is_body b ≡ true) × (kind_of_body b ≡ k)

first_kind : (a : Ask) → is_first_ask a ≡ true → (is_ask a ≡ true) × (kind_of_ask a ≡ kinds.App)
first_kind (asks.Write f page bytes) e = ((and_parts _ true e).0, refl)
first_kind (asks.Read f page) e = ((and_parts _ true e).0, refl)
first_kind (asks.Sync f) e = ((and_parts _ true e).0, refl)
first_kind (asks.Cut f page) e = ((and_parts _ true e).0, refl)
first_kind (asks.Name s n) e = ((and_parts _ true e).0, refl)
first_kind (asks.Patch f page at bytes) e = no_false _ (and_parts _ false e).1

second_kind : (a : Ask) → is_second_ask a ≡ true → (is_ask a ≡ true) × (kind_of_ask a ≡ kinds.Patch)
second_kind (asks.Write f page bytes) e = no_false _ (and_parts _ false e).1
second_kind (asks.Read f page) e = no_false _ (and_parts _ false e).1
second_kind (asks.Sync f) e = no_false _ (and_parts _ false e).1
second_kind (asks.Cut f page) e = no_false _ (and_parts _ false e).1
second_kind (asks.Name s n) e = no_false _ (and_parts _ false e).1
second_kind (asks.Patch f page at bytes) e = ((and_parts _ true e).0, refl)

app_sound : Sound app_at body (IsBodyOf kinds.App)
unfolding app_at body is_body
app_sound = made_sound (seq word32_at (λ n. ask_at)) asked (fits_asked is_first_ask) (λ t. bodies.App t.0 t.1) body (IsBodyOf kinds.App) first_exact (λ t e. refl)
    (λ t e. let parts = and_parts (is_word32 t.0) (is_first_ask t.1) e in let k = first_kind t.1 parts.1 in (and_from (is_word32 t.0) (is_ask t.1) parts.0 k.0, k.1))

app_patch_sound : Sound app_patch_at body (IsBodyOf kinds.Patch)
unfolding app_patch_at body is_body
app_patch_sound = made_sound (seq word32_at (λ n. patch_at)) asked (fits_asked is_second_ask) (λ t. bodies.App t.0 t.1) body (IsBodyOf kinds.Patch) second_exact (λ t e. refl)
    (λ t e. let parts = and_parts (is_word32 t.0) (is_second_ask t.1) e in let k = second_kind t.1 parts.1 in (and_from (is_word32 t.0) (is_ask t.1) parts.0 k.0, k.1))

first_again : (op : ℕ) (a : Ask) (rest : List ℕ) → is_word32 op ≡ true → is_first_ask a ≡ true → app_at ((word32 op ++ ask a) ++ rest) ≡ Ok (bodies.App op a, rest)
unfolding app_at
first_again op a rest e f = made_again (seq word32_at (λ n. ask_at)) asked (fits_asked is_first_ask) (λ t. bodies.App t.0 t.1) first_exact (op, a) rest (and_from (is_word32 op) (is_first_ask a) e f)

second_again : (op : ℕ) (a : Ask) (rest : List ℕ) → is_word32 op ≡ true → is_second_ask a ≡ true → app_patch_at ((word32 op ++ ask a) ++ rest) ≡ Ok (bodies.App op a, rest)
unfolding app_patch_at
second_again op a rest e f = made_again (seq word32_at (λ n. patch_at)) asked (fits_asked is_second_ask) (λ t. bodies.App t.0 t.1) second_exact (op, a) rest (and_from (is_word32 op) (is_second_ask a) e f)

app_again : (op : ℕ) (a : Ask) (rest : List ℕ) → (is_word32 op && is_ask a) ≡ true → body_at (kind_of_ask a) ((word32 op ++ ask a) ++ rest) ≡ Ok (bodies.App op a, rest)
unfolding body_at
app_again op (asks.Write f page bytes) rest e = let p = and_parts (is_word32 op) (is_ask (asks.Write f page bytes)) e in first_again op (asks.Write f page bytes) rest p.0 (with_true _ p.1)
app_again op (asks.Read f page) rest e = let p = and_parts (is_word32 op) (is_ask (asks.Read f page)) e in first_again op (asks.Read f page) rest p.0 (with_true _ p.1)
app_again op (asks.Sync f) rest e = let p = and_parts (is_word32 op) (is_ask (asks.Sync f)) e in first_again op (asks.Sync f) rest p.0 (with_true _ p.1)
app_again op (asks.Cut f page) rest e = let p = and_parts (is_word32 op) (is_ask (asks.Cut f page)) e in first_again op (asks.Cut f page) rest p.0 (with_true _ p.1)
app_again op (asks.Name s n) rest e = let p = and_parts (is_word32 op) (is_ask (asks.Name s n)) e in first_again op (asks.Name s n) rest p.0 (with_true _ p.1)
app_again op (asks.Patch f page at bytes) rest e = let p = and_parts (is_word32 op) (is_ask (asks.Patch f page at bytes)) e in second_again op (asks.Patch f page at bytes) rest p.0 (with_true _ p.1)

pub body_sound : (k : Kind) → Sound (body_at k) body (IsBodyOf k)
unfolding body_at body is_body acquire_at released_at map_at allocate_at cut_at name_body_at reassert_at demand_seen_at nack_at granted_at queued_at demand_at extents_body_at named_at app_done_at submit_at done_at
body_sound kinds.Hello = nothing_sound bodies.Hello body (IsBodyOf kinds.Hello) refl (refl, refl)
body_sound kinds.KeepAlive = nothing_sound bodies.KeepAlive body (IsBodyOf kinds.KeepAlive) refl (refl, refl)
body_sound kinds.Acquire = made_sound wished_at wished fits_wished (λ t. bodies.Acquire t.0 t.1) body (IsBodyOf kinds.Acquire) wished_exact (λ t e. refl) (λ t e. (e, refl))
body_sound kinds.Released = made_sound (held_at 0 1) held (fits_held 0 1) (λ t. bodies.Released t.0 t.1.0 t.1.1) body (IsBodyOf kinds.Released) (held_exact 0 1 (omega arith)) (λ t e. refl) (λ t e. (e, refl))
body_sound kinds.Map = made_sound placed_at placed fits_placed (λ t. bodies.Map t.0 t.1.0 t.1.1) body (IsBodyOf kinds.Map) placed_exact (λ t e. refl) (λ t e. (e, refl))
body_sound kinds.Allocate = made_sound run_at run fits_run (λ t. bodies.Allocate t.0 t.1.0 t.1.1.0 t.1.1.1) body (IsBodyOf kinds.Allocate) run_exact (λ t e. refl) (λ t e. (e, refl))
body_sound kinds.Cut = made_sound placed_at placed fits_placed (λ t. bodies.Cut t.0 t.1.0 t.1.1) body (IsBodyOf kinds.Cut) placed_exact (λ t e. refl) (λ t e. (e, refl))
body_sound kinds.Name = made_sound name_op_at name_op is_name_op bodies.Name body (IsBodyOf kinds.Name) name_op_exact (λ t e. refl) (λ t e. (e, refl))
body_sound kinds.Reassert = made_sound locks_at (rows lock_row) are_locks bodies.Reassert body (IsBodyOf kinds.Reassert) locks_exact (λ t e. refl) (λ t e. (e, refl))
body_sound kinds.DemandSeen = made_sound seen_at seen fits_seen (λ t. bodies.DemandSeen t.0 t.1) body (IsBodyOf kinds.DemandSeen) seen_exact (λ t e. refl) (λ t e. (e, refl))
body_sound kinds.Welcome = nothing_sound bodies.Welcome body (IsBodyOf kinds.Welcome) refl (refl, refl)
body_sound kinds.Ack = nothing_sound bodies.Ack body (IsBodyOf kinds.Ack) refl (refl, refl)
body_sound kinds.Nack = made_sound refused_at refused fits_refused (λ t. bodies.Nack t.0 t.1.0 t.1.1) body (IsBodyOf kinds.Nack) refused_exact (λ t e. refl) (λ t e. (e, refl))
body_sound kinds.Granted = made_sound (held_at 1 2) held (fits_held 1 2) (λ t. bodies.Granted t.0 t.1.0 t.1.1) body (IsBodyOf kinds.Granted) (held_exact 1 2 (omega arith)) (λ t e. refl) (λ t e. (e, refl))
body_sound kinds.Queued = made_sound wished_at wished fits_wished (λ t. bodies.Queued t.0 t.1) body (IsBodyOf kinds.Queued) wished_exact (λ t e. refl) (λ t e. (e, refl))
body_sound kinds.Demand = made_sound (held_at 0 1) held (fits_held 0 1) (λ t. bodies.Demand t.0 t.1.0 t.1.1) body (IsBodyOf kinds.Demand) (held_exact 0 1 (omega arith)) (λ t e. refl) (λ t e. (e, refl))
body_sound kinds.Extents = made_sound mapped_at mapped fits_mapped (λ t. bodies.Extents t.0 t.1) body (IsBodyOf kinds.Extents) mapped_exact (λ t e. refl) (λ t e. (e, refl))
body_sound kinds.Named = made_sound name_reply_at name_reply is_name_reply bodies.Named body (IsBodyOf kinds.Named) name_reply_exact (λ t e. refl) (λ t e. (e, refl))
body_sound kinds.Reasserted = nothing_sound bodies.Reasserted body (IsBodyOf kinds.Reasserted) refl (refl, refl)
body_sound kinds.Tick = nothing_sound bodies.Tick body (IsBodyOf kinds.Tick) refl (refl, refl)
body_sound kinds.App = app_sound
body_sound kinds.Patch = app_patch_sound
body_sound kinds.AppDone = made_sound (seq word32_at (λ n. answer_at)) answered fits_answered (λ t. bodies.AppDone t.0 t.1) body (IsBodyOf kinds.AppDone) answered_exact (λ t e. refl) (λ t e. (e, refl))
body_sound kinds.Submit = made_sound (seq word64_at (λ n. seq any_block_at command_at)) submitted fits_submitted (λ t. bodies.Submit t.0 t.1.0 t.1.1) body (IsBodyOf kinds.Submit) submitted_exact (λ t e. refl) (λ t e. (e, refl))
body_sound kinds.Done = made_sound (seq word64_at (λ n. disk_result_at)) ended fits_ended (λ t. bodies.Done t.0 t.1) body (IsBodyOf kinds.Done) ended_exact (λ t e. refl) (λ t e. (e, refl))

pub body_again : (b : Body) (rest : List ℕ) → is_body b ≡ true → body_at (kind_of_body b) (body b ++ rest) ≡ Ok (b, rest)
unfolding body_at body is_body acquire_at released_at map_at allocate_at cut_at name_body_at reassert_at demand_seen_at nack_at granted_at queued_at demand_at extents_body_at named_at app_done_at submit_at done_at
body_again bodies.Hello rest e = refl
body_again bodies.KeepAlive rest e = refl
body_again (bodies.Acquire ino m) rest e = made_again wished_at wished fits_wished (λ t. bodies.Acquire t.0 t.1) wished_exact (ino, m) rest e
body_again (bodies.Released ino g to) rest e = made_again (held_at 0 1) held (fits_held 0 1) (λ t. bodies.Released t.0 t.1.0 t.1.1) (held_exact 0 1 (omega arith)) (ino, (g, to)) rest e
body_again (bodies.Map ino g page) rest e = made_again placed_at placed fits_placed (λ t. bodies.Map t.0 t.1.0 t.1.1) placed_exact (ino, (g, page)) rest e
body_again (bodies.Allocate ino g page count) rest e = made_again run_at run fits_run (λ t. bodies.Allocate t.0 t.1.0 t.1.1.0 t.1.1.1) run_exact (ino, (g, (page, count))) rest e
body_again (bodies.Cut ino g from) rest e = made_again placed_at placed fits_placed (λ t. bodies.Cut t.0 t.1.0 t.1.1) placed_exact (ino, (g, from)) rest e
body_again (bodies.Name op) rest e = made_again name_op_at name_op is_name_op bodies.Name name_op_exact op rest e
body_again (bodies.Reassert rs) rest e = made_again locks_at (rows lock_row) are_locks bodies.Reassert locks_exact rs rest e
body_again (bodies.DemandSeen ino g) rest e = made_again seen_at seen fits_seen (λ t. bodies.DemandSeen t.0 t.1) seen_exact (ino, g) rest e
body_again bodies.Welcome rest e = refl
body_again bodies.Ack rest e = refl
body_again (bodies.Nack why a b) rest e = made_again refused_at refused fits_refused (λ t. bodies.Nack t.0 t.1.0 t.1.1) refused_exact (why, (a, b)) rest e
body_again (bodies.Granted ino g m) rest e = made_again (held_at 1 2) held (fits_held 1 2) (λ t. bodies.Granted t.0 t.1.0 t.1.1) (held_exact 1 2 (omega arith)) (ino, (g, m)) rest e
body_again (bodies.Queued ino m) rest e = made_again wished_at wished fits_wished (λ t. bodies.Queued t.0 t.1) wished_exact (ino, m) rest e
body_again (bodies.Demand ino g to) rest e = made_again (held_at 0 1) held (fits_held 0 1) (λ t. bodies.Demand t.0 t.1.0 t.1.1) (held_exact 0 1 (omega arith)) (ino, (g, to)) rest e
body_again (bodies.Extents ino rs) rest e = made_again mapped_at mapped fits_mapped (λ t. bodies.Extents t.0 t.1) mapped_exact (ino, rs) rest e
body_again (bodies.Named reply) rest e = made_again name_reply_at name_reply is_name_reply bodies.Named name_reply_exact reply rest e
body_again bodies.Reasserted rest e = refl
body_again bodies.Tick rest e = refl
body_again (bodies.App op a) rest e = app_again op a rest e
body_again (bodies.AppDone op a) rest e = made_again (seq word32_at (λ n. answer_at)) answered fits_answered (λ t. bodies.AppDone t.0 t.1) answered_exact (op, a) rest e
body_again (bodies.Submit number at what) rest e = made_again (seq word64_at (λ n. seq any_block_at command_at)) submitted fits_submitted (λ t. bodies.Submit t.0 t.1.0 t.1.1) submitted_exact (number, (at, what)) rest e
body_again (bodies.Done number result) rest e = made_again (seq word64_at (λ n. disk_result_at)) ended fits_ended (λ t. bodies.Done t.0 t.1) ended_exact (number, result) rest e
