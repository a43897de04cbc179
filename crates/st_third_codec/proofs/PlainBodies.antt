-- A body that the first two forms have too is read as after any header of theirs, with faults at the same places.
use Rattle.std.proofs.Common.{◌≡◌, ℕ, Bool, true, false, List, ◌++◌, length, drop, Result, Ok, Err, refl, sym, ap, subst, ◌∙◌, ◌+◌, ◌≤◌, cond, append_assoc, arith, inl, inr}
use Rattle.std.specs.Prelude.{◌==◌, ◌&&◌, ◌⊎◌}
use Rattle.std.proofs.lemmas.Bool.{and_from}
use Rattle.std.proofs.lemmas.List.{length-append, drop_at}
use Rattle.st_codec_fields.specs.declared.fault.Fault.{Fault}
use Rattle.st_codec_fields.specs.declared.fault.Fault.TheVariants as faults
use Rattle.st_messages.specs.declared.kind.Kind.{Kind}
use Rattle.st_messages.specs.declared.kind.Kind.TheVariants as kinds
use Rattle.st_messages.specs.declared.message.Body.{Body}
use Rattle.st_messages.specs.declared.message.Header.{Header}
use Rattle.st_messages.specs.declared.message.Message.{Message}
use Rattle.st_messages.specs.Kinds.{kind_of_body}
use Rattle.st_messages.specs.Ranges.{is_header, is_body, fits}
use Rattle.st_codec.specs.declared.refusal.CodecRefusal.{CodecRefusal}
use Rattle.st_codec.specs.declared.refusal.CodecRefusal.TheVariants as refusals
use Rattle.st_codec.specs.KindBytes.{kind_of}
use Rattle.st_codec.specs.Decoder as plain
use Rattle.st_codec.specs.Decoder.{version_at, kind_at, header_at, message_at, decoded}
use Rattle.st_codec.specs.Spelling.{kind, nodes, ages, marks, header, body, spelling}
use Rattle.st_codec_fields.specs.Decoder.{◌>>=◌, Read}
use Rattle.st_codec_fields.specs.Spelling.{word16, word64}
use Rattle.st_third.specs.declared.message.ThirdMessage.{ThirdMessage}
use Rattle.st_third_codec.specs.Decoder.{with_body, plain_at, whole, told}
use Rattle.st_third_codec.proofs.ExactFront.{first_header_exact}

kind_read : (k : Kind) (rest : List ℕ) → kind_at (kind k ++ rest) ≡ Ok (k, rest)
unfolding kind_at version_at kind kind_of
kind_read kinds.Hello rest = refl
kind_read kinds.KeepAlive rest = refl
kind_read kinds.Acquire rest = refl
kind_read kinds.Released rest = refl
kind_read kinds.Map rest = refl
kind_read kinds.Allocate rest = refl
kind_read kinds.Cut rest = refl
kind_read kinds.Name rest = refl
kind_read kinds.Reassert rest = refl
kind_read kinds.DemandSeen rest = refl
kind_read kinds.Welcome rest = refl
kind_read kinds.Ack rest = refl
kind_read kinds.Nack rest = refl
kind_read kinds.Granted rest = refl
kind_read kinds.Queued rest = refl
kind_read kinds.Demand rest = refl
kind_read kinds.Extents rest = refl
kind_read kinds.Named rest = refl
kind_read kinds.Reasserted rest = refl
kind_read kinds.Tick rest = refl
kind_read kinds.App rest = refl
kind_read kinds.Patch rest = refl
kind_read kinds.AppDone rest = refl
kind_read kinds.Submit rest = refl
kind_read kinds.Done rest = refl

-- the front of a message of the first two forms has 38 bytes too
front_length : (k : Kind) (h : Header) → length (kind k ++ header h) ≡ 38
unfolding kind header nodes ages marks word16 word64
front_length k h = refl

after_kind_and_header : (m : Message) (k : Kind) (text : List ℕ) → text ≡ kind k ++ header m.header ++ body m.body → drop 38 text ≡ body m.body
after_kind_and_header m k text e = ap (drop 38) e ∙ drop_at (kind k ++ header m.header) (body m.body) 38 (front_length k m.header)

-- what a whole message gives, by what its body gives
abbrev pub ended : Header → Read Body → Result Message Fault
ended g read = read >>= λ b. cond (length b.1 == 0) (Ok (record { header = g; body = b.0 })) (Err faults.Long)

message_of : (k : Kind) (g : Header) (bytes : List ℕ) → is_header k g ≡ true → message_at (kind k ++ header g ++ bytes) ≡ ended g (plain.body_at k bytes)
unfolding message_at
message_of k g bytes e = ap message_at (append_assoc (kind k) (header g) bytes) ∙
    rw (kind_read k (header g ++ bytes), (first_header_exact k).again g bytes e) refl

whole_length : (k : Kind) (g : Header) (bytes : List ℕ) → length (kind k ++ header g ++ bytes) ≡ 38 + length bytes
whole_length k g bytes = omega (arith, length-append (kind k ++ header g) bytes, front_length k g)

decoded_of : (k : Kind) (g : Header) (bytes : List ℕ) → is_header k g ≡ true →
    decoded (kind k ++ header g ++ bytes) ≡ plain.told (38 + length bytes) (ended g (plain.body_at k bytes))
unfolding decoded
decoded_of k g bytes e = ap (λ (n : ℕ). plain.told n (message_at (kind k ++ header g ++ bytes))) (whole_length k g bytes) ∙
    ap (plain.told (38 + length bytes)) (message_of k g bytes e)

-- the same message under this header, or the same refusal
abbrev pub under : Header → Result Message CodecRefusal → Result ThirdMessage CodecRefusal
under h (Ok m) = Ok (with_body h m.body)
under h (Err r) = Err r

moved : (n : ℕ) (g h : Header) (read : Read Body) → under h (plain.told n (ended g read)) ≡ told n (whole (read >>= λ b. Ok (with_body h b.0, b.1)))
moved n g h (Ok b) = by_length (length b.1 == 0)
  where
    by_length : (none : Bool) → under h (plain.told n (cond none (Ok (record { header = g; body = b.0 })) (Err faults.Long))) ≡ told n
        (cond none (Ok (with_body h b.0)) (Err faults.Long))
    by_length true = refl
    by_length false = refl
moved n g h (Err f) = refl

plain_decoded : (k : Kind) (g h : Header) (bytes : List ℕ) → is_header k g ≡ true →
    under h (decoded (kind k ++ header g ++ bytes)) ≡ told (38 + length bytes) (whole (plain_at k h bytes))
unfolding plain_at
plain_decoded k g h bytes e = ap (under h) (decoded_of k g bytes e) ∙ moved (38 + length bytes) g h (plain.body_at k bytes)

-- what is answered of a message that was read so, or that memory ran out
pub plain_result : (k : Kind) (g h : Header) (bytes text : List ℕ) (r : Result Message CodecRefusal) → is_header k g ≡ true →
    text ≡ kind k ++ header g ++ bytes → (r ≡ decoded text) ⊎ (r ≡ Err refusals.Memory)
    → (under h r ≡ told (38 + length bytes) (whole (plain_at k h bytes))) ⊎ (under h r ≡ Err refusals.Memory)
plain_result k g h bytes text r e is (inl f) = inl (ap (under h) (f ∙ ap decoded is) ∙ plain_decoded k g h bytes e)
plain_result k g h bytes text r e is (inr f) = inr (ap (under h) f)

-- ---- the bytes of a body, after those of a header

pub copy_fits : (g : Header) (k : Kind) (b copy : Body) → k ≡ kind_of_body b → copy ≡ b → is_header k g ≡ true → is_body b ≡ true →
    fits (record { header = g; body = copy }) ≡ true
unfolding fits
copy_fits g k b copy same equal e f =
    subst (λ (c : Body). (is_header (kind_of_body c) g && is_body c) ≡ true) (sym equal)
    (and_from (is_header (kind_of_body b) g) (is_body b) (subst (λ (q : Kind). is_header q g ≡ true) same e) f)

pub long_enough : (m : Message) (text : List ℕ) → text ≡ spelling m → 38 ≤ length text
unfolding spelling
long_enough m text e = omega (arith, ap length e, whole_length (kind_of_body m.body) m.header (body m.body))

pub body_text : (m : Message) (b : Body) (text : List ℕ) → text ≡ spelling m → m.body ≡ b → drop 38 text ≡ body b
unfolding spelling
body_text m b text e same = after_kind_and_header m (kind_of_body m.body) text e ∙ ap body same
