-- Every message of version 3 that fits has room in a frame.
use Rattle.std.proofs.Common.{◌≡◌, ◌≤◌, true, false, ◌++◌, length, refl, sym, ap, ◌∙◌, arith, inl, inr}
use Rattle.std.proofs.lemmas.Bool.{and_parts, and_from, cases_Bool}
use Rattle.std.proofs.lemmas.List.{length-append}
use Rattle.st_messages.specs.declared.ask.Ask.{Ask}
use Rattle.st_messages.specs.declared.ask.Ask.TheVariants as asks
use Rattle.st_messages.specs.declared.kind.Kind.{Kind}
use Rattle.st_messages.specs.declared.kind.Kind.TheVariants as kinds
use Rattle.st_messages.specs.declared.message.Body.{Body}
use Rattle.st_messages.specs.declared.message.Body.TheVariants as bodies
use Rattle.st_messages.specs.declared.message.Header.{Header}
use Rattle.st_messages.specs.declared.message.Message.{Message}
use Rattle.st_messages.specs.Kinds.{between, kind_of_ask, kind_of_body}
use Rattle.st_messages.specs.Ranges as first_ranges
use Rattle.st_messages.specs.Ranges.{is_ino}
use Rattle.st_messages.specs.Sizes.{body_size, size_of}
use Rattle.st_codec.specs.Spelling.{kind, nodes, ages, marks, header, body, spelling}
use Rattle.st_codec.proofs.Framed.{size_bound}
use Rattle.st_codec.proofs.Sized.{spelling_length}
use Rattle.st_codec_fields.specs.Spelling.{word16, word32, word64}
use Rattle.st_codec_fields.proofs.ExactFields.{at_most}
use Rattle.st_third.specs.declared.message.ThirdMessage.{ThirdMessage}
use Rattle.st_third.specs.declared.message.ThirdMessage.TheVariants as third
use Rattle.st_third.specs.Messages as third_messages
use Rattle.st_third.specs.Messages.{are_locks, are_extents, is_body, is_header, fits, front}
use Rattle.st_third_codec.proofs.ExactBodies.{tail, kind_in, header_in, is_wide, same_body}
use Rattle.st_third_codec.proofs.ExactThird.{spelled}

front_length : (k : Kind) (h : Header) → length (kind k ++ header h) ≡ 38
unfolding kind header nodes ages marks word16 word64
front_length k h = refl

third_front_length : (k : Kind) (h : Header) → length (front k h) ≡ 38
unfolding front header nodes ages marks word16 word64
third_front_length k h = refl

body_length : (h : Header) (b : Body) → length (body b) ≡ body_size b
unfolding spelling size_of
body_length h b =
    let m : Message = record { header = h; body = b } in
    omega (arith, spelling_length m, length-append (kind (kind_of_body b) ++ header h) (body b), front_length (kind_of_body b) h)

-- a header of version 1 for each kind
abbrev header_for : Kind → Header
header_for kinds.Hello = record { from = 1; to = 32769; life = 1; epoch = 0; number = 0; stamp = 0 }
header_for kinds.DemandSeen = record { from = 1; to = 32769; life = 1; epoch = 1; number = 0; stamp = 0 }
header_for kinds.Welcome = record { from = 32769; to = 1; life = 1; epoch = 1; number = 0; stamp = 0 }
header_for kinds.Demand = record { from = 32769; to = 1; life = 1; epoch = 1; number = 0; stamp = 0 }
header_for kinds.Tick = record { from = 0; to = 1; life = 0; epoch = 0; number = 0; stamp = 0 }
header_for kinds.App = record { from = 0; to = 1; life = 0; epoch = 0; number = 0; stamp = 0 }
header_for kinds.Patch = record { from = 0; to = 1; life = 0; epoch = 0; number = 0; stamp = 0 }
header_for kinds.Done = record { from = 0; to = 1; life = 0; epoch = 0; number = 0; stamp = 0 }
header_for kinds.AppDone = record { from = 1; to = 0; life = 0; epoch = 0; number = 0; stamp = 0 }
header_for kinds.Submit = record { from = 1; to = 0; life = 0; epoch = 0; number = 0; stamp = 0 }
header_for kinds.Ack = record { from = 32769; to = 1; life = 1; epoch = 1; number = 1; stamp = 0 }
header_for kinds.Nack = record { from = 32769; to = 1; life = 1; epoch = 1; number = 1; stamp = 0 }
header_for kinds.Granted = record { from = 32769; to = 1; life = 1; epoch = 1; number = 1; stamp = 0 }
header_for kinds.Queued = record { from = 32769; to = 1; life = 1; epoch = 1; number = 1; stamp = 0 }
header_for kinds.Extents = record { from = 32769; to = 1; life = 1; epoch = 1; number = 1; stamp = 0 }
header_for kinds.Named = record { from = 32769; to = 1; life = 1; epoch = 1; number = 1; stamp = 0 }
header_for kinds.Reasserted = record { from = 32769; to = 1; life = 1; epoch = 1; number = 1; stamp = 0 }
header_for k = record { from = 1; to = 32769; life = 1; epoch = 1; number = 1; stamp = 0 }

header_fits : (k : Kind) → first_ranges.is_header k (header_for k) ≡ true
unfolding first_ranges.is_header
header_fits kinds.Hello = refl
header_fits k = refl

narrow_bound : (b : Body) → is_wide (kind_of_body b) ≡ false → is_body b ≡ true → body_size b ≤ 65498
unfolding size_of first_ranges.fits
narrow_bound b narrow e =
    let m : Message = record { header = header_for (kind_of_body b); body = b } in
    let within : first_ranges.fits m ≡ true = and_from (first_ranges.is_header (kind_of_body b) m.header) (first_ranges.is_body b)
    (header_fits (kind_of_body b)) (sym (same_body b narrow) ∙ e) in
    omega (arith, size_bound m within)

no_wide_ask : (a : Ask) (P : Type 0) → is_wide (kind_of_ask a) ≡ true → P
no_wide_ask (asks.Patch f page at bytes) P e = absurd cc
no_wide_ask a P e = absurd cc

wide_bound : (b : Body) → is_wide (kind_of_body b) ≡ true → is_body b ≡ true → body_size b ≤ 65498
unfolding is_body are_locks are_extents
wide_bound (bodies.Reassert rs) wide e = omega (arith, at_most 0 4096 (length rs) (and_parts (between 0 4096 (length rs)) _ e).0)
wide_bound (bodies.Extents ino rs) wide e = omega (arith, at_most 0 64 (length rs) (and_parts (between 0 64 (length rs)) _ (and_parts (is_ino ino) _ e).1).0)
wide_bound (bodies.App op a) wide e = no_wide_ask a (body_size (bodies.App op a) ≤ 65498) wide
wide_bound b wide e = absurd cc

body_bound : (b : Body) → is_body b ≡ true → body_size b ≤ 65498
body_bound b e =
    elim (cases_Bool (is_wide (kind_of_body b))) [
      | inl wide ↦ wide_bound b wide e
      | inr narrow ↦ narrow_bound b narrow e
    ]

tail_bound : (m : ThirdMessage) → fits m ≡ true → length (tail m) ≤ 65498
unfolding fits word16 word32
tail_bound (third.Plain m) e =
    omega (arith, body_length m.header m.body, body_bound m.body (and_parts (is_header (kind_of_body m.body) m.header) (is_body m.body) e).1)
tail_bound (third.Leave h op s) e = omega arith
tail_bound (third.Left h op) e = omega arith
tail_bound (third.Unsynced h op ino) e = omega arith

pub fits_in_frame : (m : ThirdMessage) → fits m ≡ true → length (third_messages.spelling m) ≤ 65536
fits_in_frame m e =
    omega (arith, ap length (spelled m), length-append (front (kind_in m) (header_in m)) (tail m), third_front_length (kind_in m) (header_in m), tail_bound m e)
