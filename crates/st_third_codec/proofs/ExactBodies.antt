-- Bodies of version 3 are read exactly.
use Rattle.std.proofs.Common.{◌≡◌, ℕ, Bool, true, false, List, [], ◌∷◌, ◌++◌, length, Ok, refl, sym, ap, subst, ◌∙◌, cond, append_assoc, arith, inl, inr}
use Rattle.std.specs.Prelude.{◌&&◌, ◌==◌}
use Rattle.std.specs.List.{flat_map}
use Rattle.std.proofs.lemmas.Bool.{and_parts, and_from, eqb-true, cases_Bool}
use Rattle.st_base.specs.declared.ids.GrantNo.{GrantNo}
use Rattle.st_base.specs.declared.ids.ServerId.{ServerId}
use Rattle.st_base.specs.declared.mode.Mode.{Mode}
use Rattle.st_base.specs.declared.rows.ExtentRow.{ExtentRow}
use Rattle.st_messages.specs.declared.answer.AppAnswer.{AppAnswer}
use Rattle.st_messages.specs.declared.answer.AppAnswer.TheVariants as answers
use Rattle.st_messages.specs.declared.ask.Ask.{Ask}
use Rattle.st_messages.specs.declared.ask.Ask.TheVariants as asks
use Rattle.st_messages.specs.declared.kind.Kind.{Kind}
use Rattle.st_messages.specs.declared.kind.Kind.TheVariants as kinds
use Rattle.st_messages.specs.declared.message.Body.{Body}
use Rattle.st_messages.specs.declared.message.Body.TheVariants as bodies
use Rattle.st_messages.specs.declared.message.Header.{Header}
use Rattle.st_messages.specs.Kinds.{between, is_word64, kind_of_ask, kind_of_body}
use Rattle.st_messages.specs.Ranges as first_ranges
use Rattle.st_messages.specs.Ranges.{are_rows, is_ask, is_answer, is_ino, is_page, is_word32, is_lock_row, after_lock, after_extent}
use Rattle.st_codec.specs.KindBytes.{number_of}
use Rattle.st_codec.specs.Decoder as plain
use Rattle.st_codec.specs.Spelling.{ask, answer, body}
use Rattle.st_codec_fields.specs.Decoder.{◌>>=◌, Read, Reader, seq, byte_at, word32_at, word64_at, word16_in, word32_in, ino_at, page_at, lock_row_at, rows_at}
use Rattle.st_codec_fields.specs.Spelling.{byte, word16, word32, word64, block, lock_row, extent_row, rows}
use Rattle.st_codec_fields.proofs.Exact.{IsBytes, Takes, Exact, Sound, bind_ok, ok_is, pair_exact, triple_exact, renamed, made_sound, made_again, counted_exact, rows_exact, byte_exact}
use Rattle.st_codec_fields.proofs.ExactFields.{word32_exact, word64_exact, word16_in_exact, word32_in_exact, ino_exact, page_exact, lock_row_exact}
use Rattle.st_codec.proofs.ExactBody.{IsBodyOf, body_sound, body_again}
use Rattle.st_third.specs.declared.message.ThirdMessage.{ThirdMessage}
use Rattle.st_third.specs.declared.message.ThirdMessage.TheVariants as third
use Rattle.st_third.specs.Messages.{is_header, is_block, is_extent_row, are_locks, are_extents, is_body, fits}
use Rattle.st_third_codec.specs.Decoder.{locks_at, block_at, extent_row_at, extents_at, with_body, plain_at, reassert_at, extents_body_at, leave_at, left_at, unsynced_at, number_in, ask_numbered, answer_numbered, body_at}
use Rattle.st_third_codec.proofs.ExactFront.{read_as}

-- ---- rows

pub locks_exact : Exact locks_at (rows lock_row) are_locks
unfolding locks_at are_locks
locks_exact = counted_exact (word16_in 0 4096) word16 (between 0 4096) (λ n. rows_at lock_row_at after_lock n 1) length (flat_map lock_row)
    (are_rows is_lock_row after_lock 1) (word16_in_exact 0 4096 (omega arith)) (rows_exact lock_row_at lock_row is_lock_row after_lock lock_row_exact 1)

block_exact : Exact block_at block is_block
unfolding block_at block
block_exact = renamed (seq (word16_in 1 16) (λ d. word32_in 0 268435455)) (λ p. word16 p.0 ++ word32 p.1) (λ p. between 1 16 p.0 && between 0 268435455 p.1)
    (λ t. record { disk = record { 0 = t.0 }; block = t.1 }) (λ b. (b.disk.0, b.block)) block is_block
    (pair_exact (word16_in 1 16) (λ d. word32_in 0 268435455) word16 word32 (between 1 16) (λ d. between 0 268435455) (word16_in_exact 1 16 (omega arith))
    (λ d. word32_in_exact 0 268435455 (omega arith)))
    (λ p e. (refl, e)) (λ b e. (refl, refl, e))

extent_row_exact : (least : ℕ) → Exact (extent_row_at least) extent_row (is_extent_row least)
unfolding extent_row_at extent_row
extent_row_exact least = renamed (seq (page_at least) (λ p. seq block_at (λ b. word64_at))) (λ p. word32 p.0.0 ++ block p.1.0 ++ word64 p.1.1)
    (λ p. is_page least p.0.0 && (is_block p.1.0 && is_word64 p.1.1))
    (λ t. record { page = t.0; at = t.1.0; birth = t.1.1 }) (λ r. (r.page, (r.at, r.birth))) extent_row (is_extent_row least)
    (triple_exact (page_at least) block_at (λ b. word64_at) (λ p. word32 p.0) block word64 (λ p. is_page least p.0) is_block (λ b. is_word64) (page_exact least)
    block_exact (λ b. word64_exact))
    (λ p e. (refl, e)) (λ r e. (refl, refl, e))

pub extents_exact : Exact extents_at (rows extent_row) are_extents
unfolding extents_at are_extents
extents_exact = counted_exact (word16_in 0 64) word16 (between 0 64) (λ n. rows_at extent_row_at after_extent n 0) length (flat_map extent_row)
    (are_rows is_extent_row after_extent 0) (word16_in_exact 0 64 (omega arith))
    (rows_exact extent_row_at extent_row is_extent_row after_extent extent_row_exact 0)

-- ---- a message after its front

-- its bytes there
abbrev pub tail : ThirdMessage → List ℕ
tail (third.Plain m) = body m.body
tail (third.Leave h op s) = word32 op ++ (7 ∷ word16 s.0)
tail (third.Left h op) = word32 op ++ byte 7
tail (third.Unsynced h op ino) = word32 op ++ (27 ∷ word32 ino)

abbrev pub kind_in : ThirdMessage → Kind
kind_in (third.Plain m) = kind_of_body m.body
kind_in (third.Leave h op s) = kinds.App
kind_in (third.Left h op) = kinds.AppDone
kind_in (third.Unsynced h op ino) = kinds.AppDone

abbrev pub header_in : ThirdMessage → Header
header_in (third.Plain m) = m.header
header_in (third.Leave h op s) = h
header_in (third.Left h op) = h
header_in (third.Unsynced h op ino) = h

-- a message that was read after the front of this kind with this header
pub record IsAfter (k : Kind) (h : Header) (m : ThirdMessage) : Type 0 where
  pub number : number_of (kind_in m) ≡ number_of k
  pub header : header_in m ≡ h
  pub ranges : is_header k h ≡ true → fits m ≡ true

-- ---- bodies of the first two forms

abbrev pub is_wide : Kind → Bool
is_wide kinds.Reassert = true
is_wide kinds.Extents = true
is_wide k = false

pub same_body : (b : Body) → is_wide (kind_of_body b) ≡ false → is_body b ≡ first_ranges.is_body b
unfolding is_body
same_body (bodies.Reassert rs) e = absurd cc
same_body (bodies.Extents ino rs) e = absurd cc
same_body b e = refl

fits_after : (k : Kind) (h : Header) (b : Body) → kind_of_body b ≡ k → is_body b ≡ true → is_header k h ≡ true → fits (with_body h b) ≡ true
unfolding fits
fits_after k h b same e f = and_from (is_header (kind_of_body b) h) (is_body b) (subst (λ (q : Kind). is_header q h ≡ true) (sym same) f) e

plain_after : (k : Kind) (h : Header) (b : Body) → is_wide k ≡ false → IsBodyOf k b → IsAfter k h (with_body h b)
plain_after k h b narrow e = record {
  number = ap number_of e.1;
  header = refl;
  ranges = fits_after k h b e.1 (same_body b (subst (λ (q : Kind). is_wide q ≡ false) (sym e.1) narrow) ∙ e.0);
}

pub plain_sound : (k : Kind) (h : Header) → is_wide k ≡ false → Sound (plain_at k h) tail (IsAfter k h)
unfolding plain_at
plain_sound k h narrow = record {
  takes = λ bytes x ok e.
      let b = bind_ok (plain.body_at k bytes) (λ b. Ok (with_body h b.0, b.1)) x e in
      let t = (body_sound k).takes bytes b.0 ok b.1 in
      let got : ThirdMessage × List ℕ = (with_body h b.0.0, b.0.1) in
      subst (λ (y : ThirdMessage × List ℕ). Takes bytes (tail y.0) y.1 × IsAfter k h y.0) (ok_is got x b.2) (t.0, plain_after k h b.0.0 narrow t.1);
}

-- the message of a body that was read
abbrev of_body : Header → Read Body → Read ThirdMessage
of_body h read = read >>= λ b. Ok (with_body h b.0, b.1)

plain_again : (k : Kind) (h : Header) (b : Body) (rest : List ℕ) → kind_of_body b ≡ k → first_ranges.is_body b ≡ true →
    plain_at k h (body b ++ rest) ≡ Ok (with_body h b, rest)
unfolding plain_at
plain_again k h b rest same e =
    subst (λ (q : Kind). of_body h (plain.body_at q (body b ++ rest)) ≡ Ok (with_body h b, rest)) same (ap (of_body h) (body_again b rest e))

-- ---- an operation's number, a byte, and a field

abbrev numbered : {A : Type 0} → (A → List ℕ) → ℕ × (ℕ × A) → List ℕ
numbered s p = word32 p.0 ++ byte p.1.0 ++ s p.1.1

abbrev fits_numbered : {A : Type 0} → (A → Bool) → ℕ × (ℕ × A) → Bool
fits_numbered F p = is_word32 p.0 && (true && F p.1.1)

abbrev numbered_at : {A : Type 0} → Reader A → Reader (ℕ × (ℕ × A))
numbered_at r = seq word32_at (λ op. seq byte_at (λ n. r))

numbered_exact : {A : Type 0} (r : Reader A) (s : A → List ℕ) (F : A → Bool) → Exact r s F → Exact (numbered_at r) (numbered s) (fits_numbered F)
numbered_exact r s F h = triple_exact word32_at byte_at (λ n. r) word32 byte s is_word32 (λ n. true) (λ n. F) word32_exact byte_exact (λ n. h)

op_exact : Exact (seq word32_at (λ op. byte_at)) (λ p. word32 p.0 ++ byte p.1) (λ p. is_word32 p.0 && true)
op_exact = pair_exact word32_at (λ op. byte_at) word32 byte is_word32 (λ op n. true) word32_exact (λ op. byte_exact)

-- the byte after the operation's number
pub number_after : (op n : ℕ) (w : List ℕ) → number_in (word32 op ++ (n ∷ w)) ≡ n
unfolding word32
number_after op n w = refl

number_within : (op n : ℕ) (w rest : List ℕ) → number_in ((word32 op ++ (n ∷ w)) ++ rest) ≡ n
number_within op n w rest = ap number_in (append_assoc (word32 op) (n ∷ w) rest) ∙ number_after op n (w ++ rest)

numbered_text : (op n : ℕ) (w : List ℕ) → word32 op ++ byte n ++ w ≡ word32 op ++ (n ∷ w)
numbered_text op n w = append_assoc (word32 op) (byte n) w

-- the number that was looked at is the one that was read
numbered_takes : {A : Type 0} (r : Reader A) (s : A → List ℕ) (F : A → Bool) → Exact r s F → (k : ℕ) (bytes : List ℕ) (x : (ℕ × (ℕ × A)) × List ℕ) →
    IsBytes bytes → number_in bytes ≡ k → numbered_at r bytes ≡ Ok x
    → Takes bytes (word32 x.0.0 ++ (k ∷ s x.0.1.1)) x.1 × ((is_word32 x.0.0 && F x.0.1.1) ≡ true)
numbered_takes r s F h k bytes x ok is e =
    let t = (numbered_exact r s F h).sound.takes bytes x ok e in
    let text : bytes ≡ (word32 x.0.0 ++ (x.0.1.0 ∷ s x.0.1.1)) ++ x.1 = t.0.parts ∙ ap (λ (w : List ℕ). w ++ x.1) (numbered_text x.0.0 x.0.1.0 (s x.0.1.1)) in
    let n-is : x.0.1.0 ≡ k = sym (number_within x.0.0 x.0.1.0 (s x.0.1.1) x.1) ∙ (sym (ap number_in text) ∙ is) in
    (record { parts = subst (λ (n : ℕ). bytes ≡ (word32 x.0.0 ++ (n ∷ s x.0.1.1)) ++ x.1) n-is text; rest_fits = t.0.rest_fits }, t.1)

numbered_again : {A : Type 0} (r : Reader A) (s : A → List ℕ) (F : A → Bool) → Exact r s F → (op k : ℕ) (a : A) (rest : List ℕ) → (is_word32 op && F a) ≡ true →
    numbered_at r ((word32 op ++ (k ∷ s a)) ++ rest) ≡ Ok ((op, (k, a)), rest)
numbered_again r s F h op k a rest e = ap (λ (w : List ℕ). numbered_at r (w ++ rest)) (sym (numbered_text op k (s a))) ∙
    (numbered_exact r s F h).again (op, (k, a)) rest e

-- ---- the ask and the answers of version 3

leave_takes : (h : Header) (bytes : List ℕ) (x : ThirdMessage × List ℕ) → IsBytes bytes → number_in bytes ≡ 7 → leave_at h bytes ≡ Ok x →
    Takes bytes (tail x.0) x.1 × IsAfter kinds.App h x.0
unfolding leave_at fits
leave_takes h bytes x ok is e =
    let a = bind_ok (numbered_at (word16_in 1 65535) bytes) (λ t. Ok (third.Leave h t.0.0 (record { 0 = t.0.1.1 }), t.1)) x e in
    let t = numbered_takes (word16_in 1 65535) word16 (between 1 65535) (word16_in_exact 1 65535 (omega arith)) 7 bytes a.0 ok is a.1 in
    let got : ThirdMessage × List ℕ = (third.Leave h a.0.0.0 (record { 0 = a.0.0.1.1 }), a.0.1) in
    subst (λ (y : ThirdMessage × List ℕ). Takes bytes (tail y.0) y.1 × IsAfter kinds.App h y.0) (ok_is got x a.2)
    (t.0, record { number = refl; header = refl; ranges = λ f. and_from (is_header kinds.App h) _ f t.1 })

left_takes : (h : Header) (bytes : List ℕ) (x : ThirdMessage × List ℕ) → IsBytes bytes → number_in bytes ≡ 7 → left_at h bytes ≡ Ok x →
    Takes bytes (tail x.0) x.1 × IsAfter kinds.AppDone h x.0
unfolding left_at fits
left_takes h bytes x ok is e =
    let a = bind_ok (seq word32_at (λ op. byte_at) bytes) (λ t. Ok (third.Left h t.0.0, t.1)) x e in
    let t = op_exact.sound.takes bytes a.0 ok a.1 in
    let n-is : a.0.0.1 ≡ 7 = sym (number_within a.0.0.0 a.0.0.1 [] a.0.1) ∙ (sym (ap number_in t.0.parts) ∙ is) in
    let got : ThirdMessage × List ℕ = (third.Left h a.0.0.0, a.0.1) in
    subst (λ (y : ThirdMessage × List ℕ). Takes bytes (tail y.0) y.1 × IsAfter kinds.AppDone h y.0) (ok_is got x a.2) (
      record { parts = subst (λ (n : ℕ). bytes ≡ (word32 a.0.0.0 ++ byte n) ++ a.0.1) n-is t.0.parts; rest_fits = t.0.rest_fits },
      record { number = refl; header = refl; ranges = λ f. and_from (is_header kinds.AppDone h) _ f (and_parts (is_word32 a.0.0.0) true t.1).0 },
    )

unsynced_takes : (h : Header) (bytes : List ℕ) (x : ThirdMessage × List ℕ) → IsBytes bytes → number_in bytes ≡ 27 → unsynced_at h bytes ≡ Ok x →
    Takes bytes (tail x.0) x.1 × IsAfter kinds.AppDone h x.0
unfolding unsynced_at fits
unsynced_takes h bytes x ok is e =
    let a = bind_ok (numbered_at ino_at bytes) (λ t. Ok (third.Unsynced h t.0.0 t.0.1.1, t.1)) x e in
    let t = numbered_takes ino_at word32 is_ino ino_exact 27 bytes a.0 ok is a.1 in
    let got : ThirdMessage × List ℕ = (third.Unsynced h a.0.0.0 a.0.0.1.1, a.0.1) in
    subst (λ (y : ThirdMessage × List ℕ). Takes bytes (tail y.0) y.1 × IsAfter kinds.AppDone h y.0) (ok_is got x a.2)
    (t.0, record { number = refl; header = refl; ranges = λ f. and_from (is_header kinds.AppDone h) _ f t.1 })

-- a choice by a byte
chosen_takes : (n k : ℕ) (r others : Reader ThirdMessage) (P : ThirdMessage × List ℕ → Type 0) (bytes : List ℕ) (x : ThirdMessage × List ℕ) →
    (n ≡ k → r bytes ≡ Ok x → P x) → (others bytes ≡ Ok x → P x) → cond (n == k) (r bytes) (others bytes) ≡ Ok x → P x
chosen_takes n k r others P bytes x one other e =
    elim (cases_Bool (n == k)) [
      | inl t ↦ one (eqb-true n k t) (rw t at e)
      | inr f ↦ other (rw f at e)
    ]

-- an ask to patch is read as an ask
patch_after : (h : Header) (bytes : List ℕ) (x : ThirdMessage × List ℕ) → Takes bytes (tail x.0) x.1 × IsAfter kinds.Patch h x.0 →
    Takes bytes (tail x.0) x.1 × IsAfter kinds.App h x.0
unfolding is_header
patch_after h bytes x t = (t.0, record { number = t.1.number; header = t.1.header; ranges = t.1.ranges })

ask_sound : (h : Header) → Sound (body_at kinds.App h) tail (IsAfter kinds.App h)
unfolding body_at ask_numbered
ask_sound h = record {
  takes = λ bytes x ok e.
      let P = λ (y : ThirdMessage × List ℕ). Takes bytes (tail y.0) y.1 × IsAfter kinds.App h y.0 in
      chosen_takes (number_in bytes) 6 (plain_at kinds.Patch h) (λ b. cond (number_in bytes == 7) (leave_at h b) (plain_at kinds.App h b)) P bytes x
      (λ is f. patch_after h bytes x ((plain_sound kinds.Patch h refl).takes bytes x ok f))
      (λ f. chosen_takes (number_in bytes) 7 (leave_at h) (plain_at kinds.App h) P bytes x (leave_takes h bytes x ok)
      (λ g. (plain_sound kinds.App h refl).takes bytes x ok g) f) e;
}

answer_sound : (h : Header) → Sound (body_at kinds.AppDone h) tail (IsAfter kinds.AppDone h)
unfolding body_at answer_numbered
answer_sound h = record {
  takes = λ bytes x ok e.
      let P = λ (y : ThirdMessage × List ℕ). Takes bytes (tail y.0) y.1 × IsAfter kinds.AppDone h y.0 in
      chosen_takes (number_in bytes) 7 (left_at h) (λ b. cond (number_in bytes == 27) (unsynced_at h b) (plain_at kinds.AppDone h b)) P bytes x
      (left_takes h bytes x ok)
      (λ f. chosen_takes (number_in bytes) 27 (unsynced_at h) (plain_at kinds.AppDone h) P bytes x (unsynced_takes h bytes x ok)
      (λ g. (plain_sound kinds.AppDone h refl).takes bytes x ok g) f) e;
}

-- ---- bodies with wider ranges

reassert_sound : (h : Header) → Sound (reassert_at h) tail (IsAfter kinds.Reassert h)
unfolding reassert_at body is_body
reassert_sound h = made_sound locks_at (rows lock_row) are_locks (λ rs. with_body h (bodies.Reassert rs)) tail (IsAfter kinds.Reassert h) locks_exact
    (λ t e. refl)
    (λ t e. record { number = refl; header = refl; ranges = fits_after kinds.Reassert h (bodies.Reassert t) refl e })

abbrev mapped_at : Reader (ℕ × List ExtentRow)
mapped_at = seq ino_at (λ i. extents_at)

abbrev mapped : ℕ × List ExtentRow → List ℕ
mapped p = word32 p.0 ++ rows extent_row p.1

abbrev fits_mapped : ℕ × List ExtentRow → Bool
fits_mapped p = is_ino p.0 && are_extents p.1

mapped_exact : Exact mapped_at mapped fits_mapped
mapped_exact = pair_exact ino_at (λ i. extents_at) word32 (rows extent_row) is_ino (λ i. are_extents) ino_exact (λ i. extents_exact)

extents_sound : (h : Header) → Sound (extents_body_at h) tail (IsAfter kinds.Extents h)
unfolding extents_body_at body is_body
extents_sound h = made_sound mapped_at mapped fits_mapped (λ t. with_body h (bodies.Extents t.0 t.1)) tail (IsAfter kinds.Extents h) mapped_exact (λ t e. refl)
    (λ t e. record { number = refl; header = refl; ranges = fits_after kinds.Extents h (bodies.Extents t.0 t.1) refl e })

-- ---- every body

pub tail_sound : (k : Kind) (h : Header) → Sound (body_at k h) tail (IsAfter k h)
unfolding body_at
tail_sound kinds.Reassert h = reassert_sound h
tail_sound kinds.Extents h = extents_sound h
tail_sound kinds.App h = ask_sound h
tail_sound kinds.AppDone h = answer_sound h
tail_sound k h = plain_sound k h refl

numbered_ask : (n : ℕ) (h : Header) (bytes : List ℕ) (r : Read ThirdMessage) → number_in bytes ≡ n → ask_numbered n h bytes ≡ r → body_at kinds.App h bytes ≡ r
unfolding body_at
numbered_ask n h bytes r is e = ap (λ (m : ℕ). ask_numbered m h bytes) is ∙ e

numbered_answer : (n : ℕ) (h : Header) (bytes : List ℕ) (r : Read ThirdMessage) → number_in bytes ≡ n → answer_numbered n h bytes ≡ r →
    body_at kinds.AppDone h bytes ≡ r
unfolding body_at
numbered_answer n h bytes r is e = ap (λ (m : ℕ). answer_numbered m h bytes) is ∙ e

ask_again : (h : Header) (op : ℕ) (a : Ask) (rest : List ℕ) → first_ranges.is_body (bodies.App op a) ≡ true →
    body_at kinds.App h (body (bodies.App op a) ++ rest) ≡ Ok (with_body h (bodies.App op a), rest)
unfolding ask_numbered body ask
ask_again h op (asks.Write f page bytes) rest e = numbered_ask 1 h _ _ (number_within op 1 _ rest)
    (plain_again kinds.App h (bodies.App op (asks.Write f page bytes)) rest refl e)
ask_again h op (asks.Read f page) rest e = numbered_ask 2 h _ _ (number_within op 2 _ rest)
    (plain_again kinds.App h (bodies.App op (asks.Read f page)) rest refl e)
ask_again h op (asks.Sync f) rest e = numbered_ask 3 h _ _ (number_within op 3 _ rest) (plain_again kinds.App h (bodies.App op (asks.Sync f)) rest refl e)
ask_again h op (asks.Cut f page) rest e = numbered_ask 4 h _ _ (number_within op 4 _ rest)
    (plain_again kinds.App h (bodies.App op (asks.Cut f page)) rest refl e)
ask_again h op (asks.Name s n) rest e = numbered_ask 5 h _ _ (number_within op 5 _ rest) (plain_again kinds.App h (bodies.App op (asks.Name s n)) rest refl e)
ask_again h op (asks.Patch f page at bytes) rest e = numbered_ask 6 h _ _ (number_within op 6 _ rest)
    (plain_again kinds.Patch h (bodies.App op (asks.Patch f page at bytes)) rest refl e)

-- an answer of the first two forms begins with none of the new bytes
pub record IsOther (a : AppAnswer) : Type 0 where
  pub number : ℕ
  pub fields : List ℕ
  pub text : answer a ≡ number ∷ fields
  pub not_left : (number == 7) ≡ false
  pub not_unsynced : (number == 27) ≡ false

other : (a : AppAnswer) → IsOther a
unfolding answer
other answers.Written = record { number = 0; fields = _; text = refl; not_left = refl; not_unsynced = refl }
other (answers.Read bytes) = record { number = 1; fields = _; text = refl; not_left = refl; not_unsynced = refl }
other answers.Hard = record { number = 2; fields = _; text = refl; not_left = refl; not_unsynced = refl }
other answers.Cut = record { number = 3; fields = _; text = refl; not_left = refl; not_unsynced = refl }
other (answers.Named ino) = record { number = 4; fields = _; text = refl; not_left = refl; not_unsynced = refl }
other (answers.Listed rs) = record { number = 5; fields = _; text = refl; not_left = refl; not_unsynced = refl }
other (answers.Refused code) = record { number = 6; fields = _; text = refl; not_left = refl; not_unsynced = refl }
other answers.Quiesced = record { number = 17; fields = _; text = refl; not_left = refl; not_unsynced = refl }
other answers.NoFile = record { number = 18; fields = _; text = refl; not_left = refl; not_unsynced = refl }
other (answers.NoSpace free asked) = record { number = 19; fields = _; text = refl; not_left = refl; not_unsynced = refl }
other (answers.DiskFault command) = record { number = 20; fields = _; text = refl; not_left = refl; not_unsynced = refl }
other answers.OpsFull = record { number = 21; fields = _; text = refl; not_left = refl; not_unsynced = refl }
other (answers.Uncertain old new) = record { number = 22; fields = _; text = refl; not_left = refl; not_unsynced = refl }
other (answers.Lost rs) = record { number = 23; fields = _; text = refl; not_left = refl; not_unsynced = refl }
other answers.DirtyFull = record { number = 24; fields = _; text = refl; not_left = refl; not_unsynced = refl }
other answers.NotHolder = record { number = 25; fields = _; text = refl; not_left = refl; not_unsynced = refl }
other answers.TooManyLocks = record { number = 26; fields = _; text = refl; not_left = refl; not_unsynced = refl }

answer_again : (h : Header) (op : ℕ) (a : AppAnswer) (rest : List ℕ) → first_ranges.is_body (bodies.AppDone op a) ≡ true →
    body_at kinds.AppDone h (body (bodies.AppDone op a) ++ rest) ≡ Ok (with_body h (bodies.AppDone op a), rest)
unfolding answer_numbered body
answer_again h op a rest e =
    let o = other a in
    let is : number_in ((word32 op ++ answer a) ++ rest) ≡ o.number =
    ap (λ (w : List ℕ). number_in ((word32 op ++ w) ++ rest)) o.text ∙ number_within op o.number o.fields rest in
    numbered_answer o.number h _ _ is (rw (o.not_left, o.not_unsynced) (plain_again kinds.AppDone h (bodies.AppDone op a) rest refl e))

reasserted_again : (h : Header) (rs : List (ℕ × GrantNo × Mode)) (rest : List ℕ) → are_locks rs ≡ true →
    reassert_at h (body (bodies.Reassert rs) ++ rest) ≡ Ok (with_body h (bodies.Reassert rs), rest)
unfolding reassert_at body
reasserted_again h rs rest e = made_again locks_at (rows lock_row) are_locks (λ rs. with_body h (bodies.Reassert rs)) locks_exact rs rest e

mapped_again : (h : Header) (ino : ℕ) (rs : List ExtentRow) (rest : List ℕ) → (is_ino ino && are_extents rs) ≡ true →
    extents_body_at h (body (bodies.Extents ino rs) ++ rest) ≡ Ok (with_body h (bodies.Extents ino rs), rest)
unfolding extents_body_at body
mapped_again h ino rs rest e = made_again mapped_at mapped fits_mapped (λ t. with_body h (bodies.Extents t.0 t.1)) mapped_exact (ino, rs) rest e

one_ask : (a : Ask) → read_as (kind_of_ask a) ≡ kinds.App
one_ask (asks.Patch f page at bytes) = refl
one_ask a = refl

asked_again : (h : Header) (op : ℕ) (a : Ask) (rest : List ℕ) → first_ranges.is_body (bodies.App op a) ≡ true →
    body_at (read_as (kind_of_ask a)) h (body (bodies.App op a) ++ rest) ≡ Ok (with_body h (bodies.App op a), rest)
asked_again h op a rest e = subst (λ (k : Kind). body_at k h (body (bodies.App op a) ++ rest) ≡ Ok (with_body h (bodies.App op a), rest)) (sym (one_ask a))
    (ask_again h op a rest e)

abbrev of_leave : Header → Read (ℕ × (ℕ × ℕ)) → Read ThirdMessage
of_leave h read = read >>= λ t. Ok (third.Leave h t.0.0 (record { 0 = t.0.1.1 }), t.1)

abbrev of_left : Header → Read (ℕ × ℕ) → Read ThirdMessage
of_left h read = read >>= λ t. Ok (third.Left h t.0.0, t.1)

abbrev of_unsynced : Header → Read (ℕ × (ℕ × ℕ)) → Read ThirdMessage
of_unsynced h read = read >>= λ t. Ok (third.Unsynced h t.0.0 t.0.1.1, t.1)

leave_again : (h : Header) (op : ℕ) (s : ServerId) (rest : List ℕ) → (is_word32 op && between 1 65535 s.0) ≡ true →
    body_at kinds.App h ((word32 op ++ (7 ∷ word16 s.0)) ++ rest) ≡ Ok (third.Leave h op s, rest)
unfolding ask_numbered leave_at
leave_again h op s rest e = numbered_ask 7 h _ _ (number_within op 7 (word16 s.0) rest)
    (ap (of_leave h) (numbered_again (word16_in 1 65535) word16 (between 1 65535) (word16_in_exact 1 65535 (omega arith)) op 7 s.0 rest e))

left_again : (h : Header) (op : ℕ) (rest : List ℕ) → is_word32 op ≡ true → body_at kinds.AppDone h ((word32 op ++ byte 7) ++ rest) ≡ Ok (third.Left h op, rest)
unfolding answer_numbered left_at
left_again h op rest e = numbered_answer 7 h _ _ (number_within op 7 [] rest)
    (ap (of_left h) (op_exact.again (op, 7) rest (and_from (is_word32 op) true e refl)))

unsynced_again : (h : Header) (op ino : ℕ) (rest : List ℕ) → (is_word32 op && is_ino ino) ≡ true →
    body_at kinds.AppDone h ((word32 op ++ (27 ∷ word32 ino)) ++ rest) ≡ Ok (third.Unsynced h op ino, rest)
unfolding answer_numbered unsynced_at
unsynced_again h op ino rest e = numbered_answer 27 h _ _ (number_within op 27 (word32 ino) rest)
    (ap (of_unsynced h) (numbered_again ino_at word32 is_ino ino_exact op 27 ino rest e))

body_again_third : (h : Header) (b : Body) (rest : List ℕ) → is_body b ≡ true → body_at (read_as (kind_of_body b)) h (body b ++ rest) ≡ Ok (with_body h b, rest)
unfolding body_at reassert_at extents_body_at is_body
body_again_third h (bodies.Reassert rs) rest e = reasserted_again h rs rest e
body_again_third h (bodies.Extents ino rs) rest e = mapped_again h ino rs rest e
body_again_third h (bodies.App op a) rest e = asked_again h op a rest e
body_again_third h (bodies.AppDone op a) rest e = answer_again h op a rest e
body_again_third h b rest e = plain_again (kind_of_body b) h b rest refl e

pub tail_again : (m : ThirdMessage) (rest : List ℕ) → fits m ≡ true → body_at (read_as (kind_in m)) (header_in m) (tail m ++ rest) ≡ Ok (m, rest)
unfolding fits
tail_again (third.Plain m) rest e = body_again_third m.header m.body rest (and_parts (is_header (kind_of_body m.body) m.header) (is_body m.body) e).1
tail_again (third.Leave h op s) rest e = leave_again h op s rest (and_parts (is_header kinds.App h) _ e).1
tail_again (third.Left h op) rest e = left_again h op rest (and_parts (is_header kinds.AppDone h) _ e).1
tail_again (third.Unsynced h op ino) rest e = unsynced_again h op ino rest (and_parts (is_header kinds.AppDone h) _ e).1
