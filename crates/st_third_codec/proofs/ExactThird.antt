-- Messages of version 3 are read exactly: what is read is spelled so, and what is spelled so is read.
use Rattle.std.proofs.Common.{◌≡◌, ℕ, true, false, List, [], ◌∷◌, ◌++◌, length, Result, Ok, Err, refl, sym, ap, subst, ◌∙◌, ◌<◌, ◌+◌, cond, append_assoc, arith, inl, inr}
use Rattle.std.specs.Prelude.{◌==◌, ◌⊎◌, IfOk}
use Rattle.std.proofs.lemmas.Bool.{and_parts, eqb-true, ne_eqb}
use Rattle.std.proofs.lemmas.List.{append-nil, nil_from_length, length-append}
use Rattle.st_codec_fields.specs.declared.fault.Fault.{Fault}
use Rattle.st_codec_fields.specs.declared.fault.Fault.TheVariants as faults
use Rattle.st_messages.specs.declared.kind.Kind.{Kind}
use Rattle.st_messages.specs.declared.message.Header.{Header}
use Rattle.st_codec.specs.declared.refusal.CodecRefusal.{CodecRefusal}
use Rattle.st_codec.specs.declared.refusal.CodecRefusal.TheVariants as refusals
use Rattle.st_codec.specs.KindBytes.{number_of}
use Rattle.st_codec.specs.Spelling.{header, nodes, ages, marks}
use Rattle.st_codec_fields.specs.Spelling.{word16, word64}
use Rattle.st_codec_fields.proofs.Exact.{IsBytes, Takes-then, bind_ok, guard_ok, ok_is, failed}
use Rattle.st_third.specs.declared.message.ThirdMessage.{ThirdMessage}
use Rattle.st_third.specs.declared.message.ThirdMessage.TheVariants as third
use Rattle.st_third.specs.Messages.{is_header, fits, front, spelling, Spells}
use Rattle.st_third_codec.specs.Decoder.{front_at, body_at, whole, message_at, told, decoded}
use Rattle.st_third_codec.proofs.ExactFront.{two_bytes, front_sound, front_read}
use Rattle.st_third_codec.proofs.ExactBodies.{tail, kind_in, header_in, tail_sound, tail_again}

pub spelled : (m : ThirdMessage) → spelling m ≡ front (kind_in m) (header_in m) ++ tail m
unfolding spelling
spelled (third.Plain m) = refl
spelled (third.Leave h op s) = refl
spelled (third.Left h op) = refl
spelled (third.Unsynced h op ino) = refl

header_fits : (m : ThirdMessage) → fits m ≡ true → is_header (kind_in m) (header_in m) ≡ true
unfolding fits
header_fits (third.Plain m) e = (and_parts (is_header (kind_in (third.Plain m)) m.header) _ e).0
header_fits (third.Leave h op s) e = (and_parts (is_header (kind_in (third.Leave h op s)) h) _ e).0
header_fits (third.Left h op) e = (and_parts (is_header (kind_in (third.Left h op)) h) _ e).0
header_fits (third.Unsynced h op ino) e = (and_parts (is_header (kind_in (third.Unsynced h op ino)) h) _ e).0

front_is : (k q : Kind) (h g : Header) → number_of q ≡ number_of k → g ≡ h → front q g ≡ two_bytes k ++ header h
unfolding front
front_is k q h g e f = ap (λ (n : ℕ). (3 ∷ n ∷ []) ++ header g) e ∙ ap (λ (x : Header). two_bytes k ++ header x) f

message_takes : (bytes : List ℕ) (m : ThirdMessage) → IsBytes bytes → message_at bytes ≡ Ok m → Spells bytes m
unfolding message_at
message_takes bytes m ok e =
    let f = bind_ok (front_at bytes) (λ f. whole (body_at f.0.0 f.0.1 f.1)) m e in
    let b = bind_ok (body_at f.0.0.0 f.0.0.1 f.0.1) (λ a. cond (length a.1 == 0) (Ok a.0) (Err faults.Long)) m f.2 in
    let g = guard_ok (length b.0.1 == 0) faults.Long b.0.0 m b.2 in
    let t₁ = front_sound.takes bytes f.0 ok f.1 in
    let t₂ = (tail_sound f.0.0.0 f.0.0.1).takes f.0.1 b.0 t₁.0.rest_fits b.1 in
    let none : b.0.1 ≡ [] = nil_from_length b.0.1 (eqb-true _ _ g.0) in
    let begin : List ℕ = two_bytes f.0.0.0 ++ header f.0.0.1 in
    let both = Takes-then bytes begin f.0.1 (tail b.0.0) b.0.1 t₁.0 t₂.0 in
    let text : bytes ≡ begin ++ tail b.0.0 = both.parts ∙ ap (λ (r : List ℕ). (begin ++ tail b.0.0) ++ r) none ∙ append-nil (begin ++ tail b.0.0) in
    let same : front (kind_in b.0.0) (header_in b.0.0) ≡ begin = front_is f.0.0.0 (kind_in b.0.0) f.0.0.1 (header_in b.0.0) t₂.1.number t₂.1.header in
    let is : bytes ≡ spelling b.0.0 = text ∙ sym (spelled b.0.0 ∙ ap (λ (w : List ℕ). w ++ tail b.0.0) same) in
    subst (Spells bytes) g.1 (record { text = is; ranges = t₂.1.ranges t₁.1 })

-- what is spelled is read, up to what follows it
read_to : (m : ThirdMessage) (rest : List ℕ) → fits m ≡ true → message_at (spelling m ++ rest) ≡ cond (length rest == 0) (Ok m) (Err faults.Long)
unfolding message_at
read_to m rest e =
    let regrouped : spelling m ++ rest ≡ front (kind_in m) (header_in m) ++ (tail m ++ rest) =
    ap (λ (w : List ℕ). w ++ rest) (spelled m) ∙ append_assoc (front (kind_in m) (header_in m)) (tail m) rest in
    ap message_at regrouped ∙ rw (front_read (kind_in m) (header_in m) (tail m ++ rest) (header_fits m e), tail_again m rest e) refl

message_again : (m : ThirdMessage) → fits m ≡ true → message_at (spelling m) ≡ Ok m
message_again m e = ap message_at (sym (append-nil (spelling m))) ∙ read_to m [] e

pub spelled_once : (bytes : List ℕ) (m n : ThirdMessage) → Spells bytes m → Spells bytes n → m ≡ n
spelled_once bytes m n p q =
    let first : message_at bytes ≡ Ok m = ap message_at p.text ∙ message_again m p.ranges in
    let second : message_at bytes ≡ Ok n = ap message_at q.text ∙ message_again n q.ranges in
    ok_is m n (sym first ∙ second)

decoded_again : (bytes : List ℕ) (m : ThirdMessage) → Spells bytes m → decoded bytes ≡ Ok m
unfolding decoded
decoded_again bytes m p = ap (told (length bytes)) (ap message_at p.text ∙ message_again m p.ranges)

-- what was decoded is spelled so
decoded_takes : (bytes : List ℕ) (m : ThirdMessage) → IsBytes bytes → decoded bytes ≡ Ok m → Spells bytes m
unfolding decoded
decoded_takes bytes m ok e = message_takes bytes m ok (told_ok (message_at bytes) e)
  where
    told_ok : (r : Result ThirdMessage Fault) → told (length bytes) r ≡ Ok m → r ≡ Ok m
    told_ok (Ok n) e = let same : n ≡ m = cc in ap (λ (x : ThirdMessage). Ok x) same
    told_ok (Err f) e = absurd cc

-- bytes that follow a message
pub longer : (m : ThirdMessage) (after : List ℕ) → fits m ≡ true → 0 < length after → decoded (spelling m ++ after) ≡ Err refusals.Long
unfolding decoded
longer m after e more =
    let some : (length after == 0) ≡ false = ne_eqb (length after) 0 (λ h. omega arith) in
    let read : message_at (spelling m ++ after) ≡ Err faults.Long = read_to m after e ∙ rw some refl in
    ap (told (length (spelling m ++ after))) read

-- a front has 38 bytes
front_length : (k : Kind) (h : Header) → length (two_bytes k ++ header h) ≡ 38
unfolding header nodes ages marks word16 word64
front_length k h = refl

after_front : (bytes rest : List ℕ) (k : Kind) (h : Header) → IsBytes bytes → front_at bytes ≡ Ok ((k, h), rest) → length bytes ≡ 38 + length rest
after_front bytes rest k h ok e =
    let t = front_sound.takes bytes ((k, h), rest) ok e in
    ap length t.0.parts ∙ omega (arith, length-append (two_bytes k ++ header h) rest, front_length k h)

-- ---- what `decode` answers

-- a message is what its front and its body give
pub decoded_by : (bytes rest : List ℕ) (k : Kind) (h : Header) → IsBytes bytes → front_at bytes ≡ Ok ((k, h), rest) →
    decoded bytes ≡ told (38 + length rest) (whole (body_at k h rest))
unfolding decoded message_at
decoded_by bytes rest k h ok e =
    ap (λ (n : ℕ). told n (message_at bytes)) (after_front bytes rest k h ok e) ∙ ap (told (38 + length rest)) (rw e refl)

pub found_of : (bytes : List ℕ) (r : Result ThirdMessage CodecRefusal) → IsBytes bytes → (r ≡ decoded bytes) ⊎ (r ≡ Err refusals.Memory) →
    IfOk r (λ m. Spells bytes m)
found_of bytes (Ok m) ok (inl e) = decoded_takes bytes m ok (sym e)
found_of bytes (Ok m) ok (inr e) = absurd cc
found_of bytes (Err f) ok e = tt

pub only_of : (bytes : List ℕ) (r : Result ThirdMessage CodecRefusal) → (r ≡ decoded bytes) ⊎ (r ≡ Err refusals.Memory) → (m : ThirdMessage) → Spells bytes m →
    (r ≡ Ok m) ⊎ (r ≡ Err refusals.Memory)
only_of bytes r (inl e) m s = inl (e ∙ decoded_again bytes m s)
only_of bytes r (inr e) m s = inr e

-- what spells a message has a front
pub no_fault : (bytes : List ℕ) (f : Fault) (m : ThirdMessage) → front_at bytes ≡ Err f → Spells bytes m → ⊥
unfolding message_at
no_fault bytes f m e s =
    let fault : message_at bytes ≡ Err f = rw e refl in
    failed ⊥ f m (sym fault ∙ (ap message_at s.text ∙ message_again m s.ranges))
