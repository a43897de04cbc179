-- A message's frame is received as the message, and its front is that of the message.
use Rattle.std.proofs.Common.{◌≡◌, ℕ, ◌+◌, ◌^◌, ◌<◌, ◌≤◌, true, false, ltb, List, [], ◌∷◌, ◌++◌, length, take, drop, Result, Ok, Err, refl, sym, ap, ◌∙◌}
use Rattle.std.proofs.Common.{append_assoc, arith, inl, inr}
use Rattle.std.specs.Prelude.{◌&&◌}
use Rattle.std.specs.Int.{w32, from_be_bytes}
use Rattle.std.proofs.lemmas.Bool.{and_parts, or_cases, eqb-true, le-ltb, lt-ltb}
use Rattle.std.proofs.lemmas.List.{take_at, drop_at, length-append, append-nil}
use Rattle.st_codec.specs.declared.frames.Front.{Front}
use Rattle.st_codec.specs.declared.frames.Front.TheVariants.{Whole}
use Rattle.st_codec.specs.Frames.{frame, front}
use Rattle.st_codec.specs.Grammar.{Spells}
use Rattle.st_codec.specs.KindBytes.{version_of, number_of}
use Rattle.st_codec.specs.Spelling as spells
use Rattle.st_codec.specs.Spelling.{spelling}
use Rattle.st_codec.specs.Stream.{message_frame}
use Rattle.st_codec.proofs.ExactMessage.{decoded_again}
use Rattle.st_codec.proofs.Framed.{size_bound}
use Rattle.st_codec.proofs.Sized.{spelling_length}
use Rattle.st_codec_fields.proofs.Exact.{wide32}
use Rattle.st_codec_fields.proofs.ExactFields.{at_most, word16_exact}
use Rattle.st_codec_fields.specs.Spelling.{word16, word32}
use Rattle.st_messages.specs.Kinds.{between, includes, kind_of_body, receiver, sender}
use Rattle.st_messages.specs.Ranges.{fits, is_header, is_body, is_word16, are_nodes, are_ages, are_marks}
use Rattle.st_messages.specs.declared.kind.Party.{Party}
use Rattle.st_messages.specs.declared.kind.Party.TheVariants.{Client, Server, Node, Surroundings}
use Rattle.st_messages.specs.declared.message.Message.{Message}
use Rattle.st_host_frames.specs.Frame.{received, received_by, received_whole, whole_by, spelled}
use Rattle.st_host_frames.specs.Fronts.{route_at, routed, front_by, frame_at, front_shown}

short_spelling : (m : Message) → fits m ≡ true → length (spelling m) ≤ 65536
short_spelling m e = omega (arith, size_bound m e, spelling_length m)

number_front : (n : ℕ) (after : List ℕ) → n < 2 ^ 32 → from_be_bytes w32 (take 4 (word32 n ++ after)) ≡ n
unfolding word32
number_front n after lt = ap (from_be_bytes w32) (take_at (word32 n) after 4 refl) ∙ wide32.again n lt

long_front : (n : ℕ) (after : List ℕ) → 4 ≤ length (word32 n ++ after)
unfolding word32
long_front n after = omega (arith, length-append (word32 n) after)

front_again : (bytes after : List ℕ) → length bytes ≤ 65536 → front (frame bytes ++ after) ≡ Whole (length bytes)
unfolding front word32
front_again bytes after short =
    let number = number_front (length bytes) (bytes ++ after) (omega arith) in
    let regrouped : frame bytes ++ after ≡ word32 (length bytes) ++ (bytes ++ after) = append_assoc (word32 (length bytes)) bytes after in
    let first : ltb (length (word32 (length bytes) ++ (bytes ++ after))) 4 ≡ false = le-ltb _ _ (long_front (length bytes) (bytes ++ after)) in
    let second : ltb 65536 (length bytes) ≡ false = le-ltb _ _ short in
    let third : ltb (length (word32 (length bytes) ++ (bytes ++ after))) (4 + length bytes) ≡ false =
    le-ltb _ _ (omega (arith, length-append (word32 (length bytes)) (bytes ++ after), length-append bytes after)) in
    ap front regrouped ∙ rw (first, number, second, third) refl

-- the bytes of a frame in front
frame_bytes : (bytes after : List ℕ) → take (length bytes) (drop 4 (frame bytes ++ after)) ≡ bytes
unfolding word32
frame_bytes bytes after =
    ap (λ (w : List ℕ). take (length bytes) (drop 4 w)) (append_assoc (word32 (length bytes)) bytes after)
    ∙ (ap (take (length bytes)) (drop_at (word32 (length bytes)) (bytes ++ after) 4 refl) ∙ take_at bytes after (length bytes) refl)

whole_again : (bytes : List ℕ) → length bytes ≤ 65536 → front (frame bytes) ≡ Whole (length bytes)
whole_again bytes short = ap front (sym (append-nil (frame bytes))) ∙ front_again bytes [] short

frame_length : (bytes : List ℕ) → length (frame bytes) ≡ 4 + length bytes
unfolding word32
frame_length bytes = length-append (word32 (length bytes)) bytes

behind_length : (bytes : List ℕ) → drop 4 (frame bytes) ≡ bytes
unfolding word32
behind_length bytes = drop_at (word32 (length bytes)) bytes 4 refl

pub received_again : (m : Message) → fits m ≡ true → received (message_frame m) ≡ Ok m
unfolding received
received_again m e =
    let bytes = spelling m in
    let ends : ltb (4 + length bytes) (length (frame bytes)) ≡ false = le-ltb _ _ (omega (arith, frame_length bytes)) in
    let read = decoded_again bytes m (record { text = refl; ranges = e }) in
    rw (whole_again bytes (short_spelling m e), ends, behind_length bytes, read) refl

-- ---- its front

abbrev route : Message → ℕ × (ℕ × (ℕ × ℕ))
route m = (version_of (kind_of_body m.body), (number_of (kind_of_body m.body), (m.header.from, m.header.to)))

-- what follows the nodes
abbrev behind_nodes : Message → List ℕ
behind_nodes m = spells.ages m.header ++ (spells.marks m.header ++ spells.body m.body)

in_order : (m : Message)
    → spelling m ≡ version_of (kind_of_body m.body) ∷ number_of (kind_of_body m.body) ∷ (word16 m.header.from ++ (word16 m.header.to ++ behind_nodes m))
unfolding spelling spells.kind spells.header spells.nodes
in_order m =
    let a = append_assoc (spells.nodes m.header ++ spells.ages m.header) (spells.marks m.header) (spells.body m.body) in
    let b = append_assoc (spells.nodes m.header) (spells.ages m.header) (spells.marks m.header ++ spells.body m.body) in
    let c = append_assoc (word16 m.header.from) (word16 m.header.to) (behind_nodes m) in
    ap (λ (w : List ℕ). version_of (kind_of_body m.body) ∷ number_of (kind_of_body m.body) ∷ w) (a ∙ b ∙ c)

party_word : (p : Party) (n : ℕ) → includes p n ≡ true → is_word16 n ≡ true
party_word Client n e = lt-ltb n (2 ^ 16) (omega (arith, at_most 1 16 n e))
party_word Server n e = lt-ltb n (2 ^ 16) (omega (arith, at_most 32769 32772 n e))
party_word Node n e = elim (or_cases (between 1 16 n) (between 32769 32772 n) e) [
  | inl h ↦ lt-ltb n (2 ^ 16) (omega (arith, at_most 1 16 n h))
  | inr h ↦ lt-ltb n (2 ^ 16) (omega (arith, at_most 32769 32772 n h))
]
party_word Surroundings n e = lt-ltb n (2 ^ 16) (omega (arith, eqb-true n 0 e))

route_again : (m : Message) → fits m ≡ true → route_at (spelling m) ≡ Ok (route m, behind_nodes m)
unfolding route_at fits is_header
route_again m e =
    let k = kind_of_body m.body in
    let parts = and_parts (is_header k m.header) (is_body m.body) e in
    let nodes = (and_parts (are_nodes k m.header) (are_ages k m.header && are_marks k m.header) parts.0).0 in
    let each = and_parts (includes (sender k) m.header.from) (includes (receiver k) m.header.to) nodes in
    let from = word16_exact.again m.header.from (word16 m.header.to ++ behind_nodes m) (party_word (sender k) m.header.from each.0) in
    let to = word16_exact.again m.header.to (behind_nodes m) (party_word (receiver k) m.header.to each.1) in
    ap route_at (in_order m) ∙ rw (from, to) refl

pub front_of_message : (m : Message) (after : List ℕ) → fits m ≡ true → frame_at (message_frame m ++ after) ≡ Ok (front_shown m)
front_of_message m after e =
    let bytes = spelling m in
    ap (λ (f : Front). front_by (frame bytes ++ after) (whole_by f)) (front_again bytes after (short_spelling m e))
    ∙ ap (λ (w : List ℕ). routed (length bytes) (route_at w)) (frame_bytes bytes after)
    ∙ ap (routed (length bytes)) (route_again m e)
