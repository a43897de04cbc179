-- A reader of frames says what the whole stream says.
use Rattle.std.proofs.Common.{◌≡◌, ℕ, ◌+◌, ◌-◌, ◌^◌, ◌<◌, ◌≤◌, false, ltb, List, [], ◌∷◌, ◌++◌, length, take, drop, Option, Some, None, Result, Ok, Err, refl, sym, ap, subst, ◌∙◌, append_assoc, arith, inl, inr}
use Rattle.std.specs.Prelude.{IfSome, min, ◌⊎◌}
use Rattle.std.specs.List.{flat_map, AllByRecursion}
use Rattle.std.specs.Int.{w32, from_be_bytes}
use Rattle.std.proofs.lemmas.Bool.{cases_lt, cases_Bool, ltb-true, ltb-false, le-ltb}
use Rattle.std.proofs.lemmas.List.{take_at, drop_at, take-append-drop, length-append, length-take, length-drop, drop-drop, append-nil, get_or-drop, get_or-take, get_or_past}
use Rattle.std.proofs.lemmas.List.Concat.{flat_map-cons}
use Rattle.st_codec.specs.declared.frames.Front.{Front}
use Rattle.st_codec.specs.declared.frames.Front.TheVariants.{Partial, TooLong, Whole}
use Rattle.st_messages.specs.declared.message.Message.{Message}
use Rattle.st_codec.specs.declared.refusal.CodecRefusal.{CodecRefusal}
use Rattle.st_codec.specs.declared.refusal.CodecRefusal.TheVariants as refusals
use Rattle.st_codec_fields.specs.declared.fault.Fault.{Fault}
use Rattle.st_codec_fields.specs.declared.fault.Fault.TheVariants as faults
use Rattle.st_codec.specs.Frames.{Frames, Answer, frame, front, refused, behind, next_read, next_whole, next_at, next_by, next}
use Rattle.st_codec.specs.Grammar.{Spells}
use Rattle.st_codec.specs.Decoder.{decoded, told, message_at}
use Rattle.st_codec_fields.specs.Spelling.{word32}
use Rattle.st_codec.specs.Spelling.{spelling}
use Rattle.st_codec.specs.Stream.{message_frame, IsFramed, IsStream, IsAtEnd, IsTooLong, IsBad, IsRefused, Move, Feed, Next, Ran, given, moved, ran, piece_of, stream_of, AreBytes, Reads, start}
use Rattle.st_codec_fields.proofs.Exact.{wide32}
use Rattle.st_codec.proofs.ExactMessage.{message_takes, decoded_again}

-- ---- bytes of a stream

drop_bytes : (n : ℕ) (bytes : List ℕ) → AreBytes bytes → AreBytes (drop n bytes)
drop_bytes n bytes h i = rw get_or-drop (h (n + i))

take_bytes : (n : ℕ) (bytes : List ℕ) → AreBytes bytes → AreBytes (take n bytes)
take_bytes n bytes h i =
    elim (cases_lt i n) [
      | inl lt ↦ rw (get_or-take n bytes i 0 lt) (h i)
      | inr le ↦ rw (get_or_past (take n bytes) i 0 (omega (arith, length-take n bytes))) (omega arith)
    ]

-- ---- the front of a frame

-- the number that a length spells
number_front : (n : ℕ) (after : List ℕ) → n < 2 ^ 32 → from_be_bytes w32 (take 4 (word32 n ++ after)) ≡ n
unfolding word32
number_front n after lt = ap (from_be_bytes w32) (take_at (word32 n) after 4 refl) ∙ wide32.again n lt

long_front : (n : ℕ) (after : List ℕ) → 4 ≤ length (word32 n ++ after)
unfolding word32
long_front n after = omega (arith, length-append (word32 n) after)

-- a frame in front is seen
front_again : (bytes after : List ℕ) → length bytes ≤ 65536 → front (frame bytes ++ after) ≡ Whole (length bytes)
unfolding front word32
front_again bytes after short =
    let number = number_front (length bytes) (bytes ++ after) (omega arith) in
    let regrouped : frame bytes ++ after ≡ word32 (length bytes) ++ (bytes ++ after) = append_assoc (word32 (length bytes)) bytes after in
    let first : ltb (length (word32 (length bytes) ++ (bytes ++ after))) 4 ≡ false = le-ltb _ _ (long_front (length bytes) (bytes ++ after)) in
    let second : ltb 65536 (length bytes) ≡ false = le-ltb _ _ short in
    let third : ltb (length (word32 (length bytes) ++ (bytes ++ after))) (4 + length bytes) ≡ false = le-ltb _ _ (omega (arith, length-append (word32 (length bytes)) (bytes ++ after), length-append bytes after)) in
    ap front regrouped ∙ rw (first, number, second, third) refl

-- the bytes of a frame in front, and what follows
frame_bytes : (bytes after : List ℕ) → take (length bytes) (drop 4 (frame bytes ++ after)) ≡ bytes
unfolding word32
frame_bytes bytes after = ap (λ (w : List ℕ). take (length bytes) (drop 4 w)) (append_assoc (word32 (length bytes)) bytes after) ∙ (ap (take (length bytes)) (drop_at (word32 (length bytes)) (bytes ++ after) 4 refl) ∙ take_at bytes after (length bytes) refl)

-- what the tests of a front say
pub front_cases : (rest : List ℕ) (f : Front) → front rest ≡ f → (P : Front → Type 0)
    → ((length rest < 4) ⊎ (length rest < 4 + from_be_bytes w32 (take 4 rest)) → P Partial)
    → (4 ≤ length rest → 65536 < from_be_bytes w32 (take 4 rest) → P (TooLong (from_be_bytes w32 (take 4 rest))))
    → (4 + from_be_bytes w32 (take 4 rest) ≤ length rest → from_be_bytes w32 (take 4 rest) ≤ 65536 → P (Whole (from_be_bytes w32 (take 4 rest)))) → P f
unfolding front
front_cases rest f e P p q r =
    subst P e (elim (cases_Bool (ltb (length rest) 4)) [
      | inl a ↦ rw a (p (inl (ltb-true _ _ a)))
      | inr a ↦ rw a (elim (cases_Bool (ltb 65536 (from_be_bytes w32 (take 4 rest)))) [
        | inl b ↦ rw b (q (ltb-false _ _ a) (ltb-true _ _ b))
        | inr b ↦ rw b (elim (cases_Bool (ltb (length rest) (4 + from_be_bytes w32 (take 4 rest)))) [
          | inl c ↦ rw c (p (inr (ltb-true _ _ c)))
          | inr c ↦ rw c (r (ltb-false _ _ c) (ltb-false _ _ b))
        ])
      ])
    ])

-- the length that comes first, spelled again
length_spelled : (rest : List ℕ) → AreBytes rest → 4 ≤ length rest → word32 (from_be_bytes w32 (take 4 rest)) ++ drop 4 rest ≡ rest
unfolding word32
length_spelled rest ok long = ap (λ (w : List ℕ). w ++ drop 4 rest) (wide32.back (take 4 rest) (omega (arith, length-take 4 rest)) (take_bytes 4 rest ok)) ∙ take-append-drop 4 rest

length_below : (rest : List ℕ) → AreBytes rest → from_be_bytes w32 (take 4 rest) < 2 ^ 32
length_below rest ok = wide32.below (take 4 rest) (take_bytes 4 rest ok)

drop_twice : (a b : ℕ) (bytes : List ℕ) → drop (a + b) bytes ≡ drop b (drop a bytes)
drop_twice a b bytes = sym (drop-drop b a bytes)

-- a frame that is seen is there
whole_front : (rest : List ℕ) (n : ℕ) → AreBytes rest → front rest ≡ Whole n → (rest ≡ frame (take n (drop 4 rest)) ++ drop (4 + n) rest) × (length (take n (drop 4 rest)) ≡ n) × (n ≤ 65536)
whole_front rest n ok e =
    front_cases rest (Whole n) e (λ f. f ≡ Whole n → (rest ≡ frame (take n (drop 4 rest)) ++ drop (4 + n) rest) × (length (take n (drop 4 rest)) ≡ n) × (n ≤ 65536))
    (λ h k. absurd cc) (λ h l k. absurd cc)
    (λ long short k.
    let n-is : from_be_bytes w32 (take 4 rest) ≡ n = cc in
    let room : 4 + n ≤ length rest = omega (arith, n-is, long) in
    let size : length (take n (drop 4 rest)) ≡ n = omega (arith, length-take n (drop 4 rest), length-drop 4 rest) in
    let tail : drop 4 rest ≡ take n (drop 4 rest) ++ drop (4 + n) rest = sym (take-append-drop n (drop 4 rest)) ∙ ap (λ (w : List ℕ). take n (drop 4 rest) ++ w) (sym (drop_twice 4 n rest)) in
    let head : rest ≡ word32 n ++ drop 4 rest = sym (length_spelled rest ok (omega arith)) ∙ ap (λ (k : ℕ). word32 k ++ drop 4 rest) n-is in
    let parts : rest ≡ word32 n ++ (take n (drop 4 rest) ++ drop (4 + n) rest) = head ∙ ap (λ (w : List ℕ). word32 n ++ w) tail in
    let framed : rest ≡ frame (take n (drop 4 rest)) ++ drop (4 + n) rest = parts ∙ (sym (append_assoc (word32 n) (take n (drop 4 rest)) (drop (4 + n) rest)) ∙ ap (λ (k : ℕ). word32 k ++ take n (drop 4 rest) ++ drop (4 + n) rest) (sym size)) in
    (framed, size, omega (arith, n-is, short)))
    refl

-- a length that is too great is there
long_is : (rest : List ℕ) (n : ℕ) → AreBytes rest → front rest ≡ TooLong n → IsTooLong rest n
long_is rest n ok e =
    front_cases rest (TooLong n) e (λ f. f ≡ TooLong n → IsTooLong rest n)
    (λ h k. absurd cc)
    (λ long great k.
    let n-is : from_be_bytes w32 (take 4 rest) ≡ n = cc in
    (drop 4 rest, sym (length_spelled rest ok long) ∙ ap (λ (k : ℕ). word32 k ++ drop 4 rest) n-is, omega (arith, n-is, great), omega (arith, n-is, length_below rest ok)))
    (λ h l k. absurd cc)
    refl

-- ---- messages and refusals of frames

told_ok : (whole : ℕ) (x : Result Message Fault) (m : Message) → told whole x ≡ Ok m → x ≡ Ok m
told_ok whole (Ok y) m e = cc
told_ok whole (Err d) m e = absurd cc

decoded_spells : (bytes : List ℕ) (m : Message) → AreBytes bytes → decoded bytes ≡ Ok m → Spells bytes m
unfolding decoded
decoded_spells bytes m ok e = message_takes bytes m ok (told_ok (length bytes) (message_at bytes) m e)

not_long : (whole : ℕ) (x : Result Message Fault) (n : ℕ) → told whole x ≡ Err (refusals.FrameTooLong n) → ⊥
not_long whole (Ok y) n e = cc
not_long whole (Err faults.Short) n e = cc
not_long whole (Err faults.Long) n e = cc
not_long whole (Err faults.Kind) n e = cc
not_long whole (Err (faults.Value left)) n e = cc
not_long whole (Err faults.Version) n e = cc

decoded_not_long : (bytes : List ℕ) (n : ℕ) → decoded bytes ≡ Err (refusals.FrameTooLong n) → ⊥
unfolding decoded
decoded_not_long bytes n e = not_long (length bytes) (message_at bytes) n e

bad_is : (rest bytes : List ℕ) (r : CodecRefusal) → decoded bytes ≡ Err r → IsBad rest r → IsRefused rest r
bad_is rest bytes refusals.Short e h = h
bad_is rest bytes refusals.Long e h = h
bad_is rest bytes refusals.Kind e h = h
bad_is rest bytes (refusals.Value place) e h = h
bad_is rest bytes refusals.Version e h = h
bad_is rest bytes (refusals.FrameTooLong n) e h = absurd (decoded_not_long bytes n e)
bad_is rest bytes refusals.Memory e h = h

bad_more : (rest piece : List ℕ) (r : CodecRefusal) → IsBad rest r → IsBad (rest ++ piece) r
bad_more rest piece r h = (h.0, h.1 ++ piece, ap (λ (w : List ℕ). w ++ piece) h.2 ∙ append_assoc (frame h.0) h.1 piece, h.3, h.4)

refused_more : (rest piece : List ℕ) (r : CodecRefusal) → IsRefused rest r → IsRefused (rest ++ piece) r
refused_more rest piece refusals.Short h = bad_more rest piece refusals.Short h
refused_more rest piece refusals.Long h = bad_more rest piece refusals.Long h
refused_more rest piece refusals.Kind h = bad_more rest piece refusals.Kind h
refused_more rest piece (refusals.Value place) h = bad_more rest piece (refusals.Value place) h
refused_more rest piece refusals.Version h = bad_more rest piece refusals.Version h
refused_more rest piece (refusals.FrameTooLong n) h = (h.0 ++ piece, ap (λ (w : List ℕ). w ++ piece) h.1 ∙ append_assoc (word32 n) h.0 piece, h.2, h.3)
refused_more rest piece refusals.Memory h = bad_more rest piece refusals.Memory h

maybe_more : (rest piece : List ℕ) (o : Option CodecRefusal) → IfSome o (IsRefused rest) → IfSome o (IsRefused (rest ++ piece))
maybe_more rest piece None h = tt
maybe_more rest piece (Some r) h = refused_more rest piece r h

-- ---- one step

module _ (s : Frames) (P : Frames × Answer → Type 0)
    (again : (r : CodecRefusal) → s.refusal ≡ Some r → P (s, Some (Err r)))
    (partial : s.refusal ≡ None → P (s, None))
    (long : (n : ℕ) → front s.rest ≡ TooLong n → P (refused s (refusals.FrameTooLong n), Some (Err (refusals.FrameTooLong n))))
    (good : (n : ℕ) (m : Message) → front s.rest ≡ Whole n → decoded (take n (drop 4 s.rest)) ≡ Ok m → P (behind s n, Some (Ok m)))
    (bad : (n : ℕ) (r : CodecRefusal) → front s.rest ≡ Whole n → decoded (take n (drop 4 s.rest)) ≡ Err r → P (refused s r, Some (Err r))) where
  read_cases : (n : ℕ) (x : Result Message CodecRefusal) → front s.rest ≡ Whole n → decoded (take n (drop 4 s.rest)) ≡ x → P (next_read s n x)
  read_cases n (Ok m) f e = good n m f e
  read_cases n (Err r) f e = bad n r f e

  at_cases : s.refusal ≡ None → (f : Front) → front s.rest ≡ f → P (next_at s f)
  unfolding next_whole
  at_cases o Partial e = partial o
  at_cases o (TooLong n) e = long n e
  at_cases o (Whole n) e = read_cases n (decoded (take n (drop 4 s.rest))) e refl

  by_cases : (o : Option CodecRefusal) → s.refusal ≡ o → P (next_by s o)
  by_cases None e = at_cases e (front s.rest) refl
  by_cases (Some r) e = again r e

  next_cases : P (next s)
  unfolding next
  next_cases = by_cases s.refusal refl

-- ---- runs

all_more : (ms : List Message) (m : Message) → AllByRecursion IsFramed ms → IsFramed m → AllByRecursion IsFramed (ms ++ m ∷ [])
all_more [] m h k = (k, tt)
all_more (x ∷ ms) m h k = (h.0, all_more ms m h.1 k)

frames_more : (ms : List Message) (m : Message) → flat_map message_frame (ms ++ m ∷ []) ≡ flat_map message_frame ms ++ message_frame m
frames_more [] m = flat_map-cons message_frame m [] ∙ append-nil (message_frame m)
frames_more (x ∷ ms) m = flat_map-cons message_frame x (ms ++ m ∷ []) ∙ (ap (λ (w : List ℕ). message_frame x ++ w) (frames_more ms m) ∙ (sym (append_assoc (message_frame x) (flat_map message_frame ms) (message_frame m)) ∙ ap (λ (w : List ℕ). w ++ message_frame m) (sym (flat_map-cons message_frame x ms))))

offset_more : (a b n limit : ℕ) → a ≡ min b limit → min (a + n) limit ≡ min (b + n) limit
offset_more a b n limit e = omega arith

fed_reads : (stream piece : List ℕ) (s : Ran) → Reads stream s → Reads (stream ++ piece) (moved s (Feed piece))
fed_reads stream piece s h = record {
  stream_is = record { whole = ap (λ (w : List ℕ). w ++ piece) h.stream_is.whole ∙ append_assoc (flat_map message_frame s.messages) s.state.rest piece; each = h.stream_is.each };
  refusal = maybe_more s.state.rest piece s.state.refusal h.refusal;
  offset = h.offset;
}

rest_bytes : (stream front rest : List ℕ) → AreBytes stream → stream ≡ front ++ rest → AreBytes rest
rest_bytes stream front rest ok e = subst AreBytes (ap (drop (length front)) e ∙ drop_at front rest (length front) refl) (drop_bytes (length front) stream ok)

next_reads : (stream : List ℕ) (s : Ran) → AreBytes stream → Reads stream s → Reads stream (moved s Next)
unfolding word32
next_reads stream s ok h =
    let rest = s.state.rest in
    let bytes : AreBytes rest = rest_bytes stream (flat_map message_frame s.messages) rest ok h.stream_is.whole in
    next_cases s.state (λ x. Reads stream (record { state = x.0; messages = given s.messages x.1 }))
    (λ r e. h)
    (λ e. h)
    (λ n f. record { stream_is = h.stream_is; refusal = long_is rest n bytes f; offset = h.offset })
    (λ n m f e.
    let there = whole_front rest n bytes f in
    let spells = decoded_spells (take n (drop 4 rest)) m (take_bytes n (drop 4 rest) (drop_bytes 4 rest bytes)) e in
    let size : length (spelling m) ≡ n = ap length (sym spells.text) ∙ there.1 in
    let split : rest ≡ message_frame m ++ drop (4 + n) rest = there.0 ∙ ap (λ (w : List ℕ). frame w ++ drop (4 + n) rest) spells.text in
    let whole : stream ≡ flat_map message_frame (s.messages ++ m ∷ []) ++ drop (4 + n) rest =
    h.stream_is.whole ∙ (ap (λ (w : List ℕ). flat_map message_frame s.messages ++ w) split ∙ (sym (append_assoc (flat_map message_frame s.messages) (message_frame m) (drop (4 + n) rest)) ∙ ap (λ (w : List ℕ). w ++ drop (4 + n) rest) (sym (frames_more s.messages m)))) in
    let grown : length (flat_map message_frame (s.messages ++ m ∷ [])) ≡ length (flat_map message_frame s.messages) + (4 + n) =
    ap length (frames_more s.messages m) ∙ omega (arith, length-append (flat_map message_frame s.messages) (message_frame m), length-append (word32 (length (spelling m))) (spelling m), size) in
    record {
      stream_is = record { whole = whole; each = all_more s.messages m h.stream_is.each (record { ranges = spells.ranges; short = omega (arith, size, there.2) }) };
      refusal = tt;
      offset = offset_more s.state.offset (length (flat_map message_frame s.messages)) (4 + n) (2 ^ 64 - 1) h.offset ∙ ap (λ (k : ℕ). min k (2 ^ 64 - 1)) (sym grown);
    })
    (λ n r f e.
    let there = whole_front rest n bytes f in
    record { stream_is = h.stream_is; refusal = bad_is rest (take n (drop 4 rest)) r e (take n (drop 4 rest), drop (4 + n) rest, there.0, omega (arith, there.1, there.2), e); offset = h.offset })

front_bytes : (stream more : List ℕ) → AreBytes (stream ++ more) → AreBytes stream
front_bytes stream more ok = subst AreBytes (take_at stream more (length stream) refl) (take_bytes (length stream) (stream ++ more) ok)

ran_reads : (ms : List Move) (stream : List ℕ) (s : Ran) → AreBytes (stream ++ stream_of ms) → Reads stream s → Reads (stream ++ stream_of ms) (ran ms s)
ran_reads [] stream s ok h = subst (λ (w : List ℕ). Reads w s) (sym (append-nil stream)) h
ran_reads (Feed piece ∷ ms) stream s ok h =
    let same : stream ++ stream_of (Feed piece ∷ ms) ≡ (stream ++ piece) ++ stream_of ms = ap (λ (w : List ℕ). stream ++ w) (flat_map-cons piece_of (Feed piece) ms) ∙ sym (append_assoc stream piece (stream_of ms)) in
    subst (λ (w : List ℕ). Reads w (ran ms (moved s (Feed piece)))) (sym same) (ran_reads ms (stream ++ piece) (moved s (Feed piece)) (subst AreBytes same ok) (fed_reads stream piece s h))
ran_reads (Next ∷ ms) stream s ok h =
    let same : stream ++ stream_of (Next ∷ ms) ≡ stream ++ stream_of ms = ap (λ (w : List ℕ). stream ++ w) (flat_map-cons piece_of Next ms) in
    subst (λ (w : List ℕ). Reads w (ran ms (moved s Next))) (sym same) (ran_reads ms stream (moved s Next) (subst AreBytes same ok) (next_reads stream s (front_bytes stream (stream_of (Next ∷ ms)) ok) h))

pub any_pieces : (ms : List Move) → AreBytes (stream_of ms) → Reads (stream_of ms) (ran ms start)
any_pieces ms ok = ran_reads ms [] start ok (record { stream_is = record { whole = refl; each = tt }; refusal = tt; offset = refl })

-- ---- one reading

abbrev answered : Message → Result Message CodecRefusal
answered m = Ok m

ok_same : (m n : Message) → answered m ≡ answered n → m ≡ n
ok_same m n e = cc

none_is_none : (m : Message) → None ≡ Some (answered m) → ⊥
none_is_none m h = cc

frames_same : (m n : Message) (x y : List ℕ) → IsFramed m → IsFramed n → message_frame m ++ x ≡ message_frame n ++ y → (m ≡ n) × (x ≡ y)
frames_same m n x y p q e =
    let sizes : Whole (length (spelling m)) ≡ Whole (length (spelling n)) = sym (front_again (spelling m) x p.short) ∙ (ap front e ∙ front_again (spelling n) y q.short) in
    let size : length (spelling m) ≡ length (spelling n) = cc in
    let text : spelling m ≡ spelling n = sym (frame_bytes (spelling m) x) ∙ (ap (λ (w : List ℕ). take (length (spelling m)) (drop 4 w)) e ∙ (ap (λ (k : ℕ). take k (drop 4 (message_frame n ++ y))) size ∙ frame_bytes (spelling n) y)) in
    let first : decoded (spelling m) ≡ Ok m = decoded_again (spelling m) m (record { text = refl; ranges = p.ranges }) in
    let second : decoded (spelling m) ≡ Ok n = decoded_again (spelling m) n (record { text = text; ranges = q.ranges }) in
    let same : m ≡ n = ok_same m n (sym first ∙ second) in
    let rest : x ≡ y = sym (drop_at (message_frame m) x (length (message_frame m)) refl) ∙ (ap (drop (length (message_frame m))) (e ∙ ap (λ (w : Message). message_frame w ++ y) (sym same)) ∙ drop_at (message_frame m) y (length (message_frame m)) refl) in
    (same, rest)

once_from : (ms ns : List Message) (r q : List ℕ) → flat_map message_frame ms ++ r ≡ flat_map message_frame ns ++ q → AllByRecursion IsFramed ms → AllByRecursion IsFramed ns → IsAtEnd r → IsAtEnd q → (ms ≡ ns) × (r ≡ q)
once_from [] [] r q e a b p t = (refl, e)
once_from [] (n ∷ ns) r q e a b p t = absurd (p n (flat_map message_frame ns ++ q) b.0 (e ∙ (ap (λ (w : List ℕ). w ++ q) (flat_map-cons message_frame n ns) ∙ append_assoc (message_frame n) (flat_map message_frame ns) q)))
once_from (m ∷ ms) [] r q e a b p t = absurd (t m (flat_map message_frame ms ++ r) a.0 (sym e ∙ (ap (λ (w : List ℕ). w ++ r) (flat_map-cons message_frame m ms) ∙ append_assoc (message_frame m) (flat_map message_frame ms) r)))
once_from (m ∷ ms) (n ∷ ns) r q e a b p t =
    let left : flat_map message_frame (m ∷ ms) ++ r ≡ message_frame m ++ (flat_map message_frame ms ++ r) = ap (λ (w : List ℕ). w ++ r) (flat_map-cons message_frame m ms) ∙ append_assoc (message_frame m) (flat_map message_frame ms) r in
    let right : flat_map message_frame (n ∷ ns) ++ q ≡ message_frame n ++ (flat_map message_frame ns ++ q) = ap (λ (w : List ℕ). w ++ q) (flat_map-cons message_frame n ns) ∙ append_assoc (message_frame n) (flat_map message_frame ns) q in
    let one = frames_same m n (flat_map message_frame ms ++ r) (flat_map message_frame ns ++ q) a.0 b.0 (sym left ∙ (e ∙ right)) in
    let others = once_from ms ns r q one.1 a.1 b.1 p t in
    (cons_same m n ms ns one.0 others.0, others.1)
  where
    cons_same : (m n : Message) (ms ns : List Message) → m ≡ n → ms ≡ ns → m ∷ ms ≡ n ∷ ns
    cons_same m n ms ns p q = cc

pub one_reading : (stream : List ℕ) (ms ns : List Message) (r q : List ℕ) → IsStream stream ms r → IsStream stream ns q → IsAtEnd r → IsAtEnd q → (ms ≡ ns) × (r ≡ q)
one_reading stream ms ns r q a b p t = once_from ms ns r q (sym a.whole ∙ b.whole) a.each b.each p t

next_open : (s : Frames) → s.refusal ≡ None → next s ≡ next_at s (front s.rest)
unfolding next
next_open s e = ap (next_by s) e

frame_size : (bytes : List ℕ) → length (frame bytes) ≡ 4 + length bytes
unfolding word32
frame_size bytes = length-append (word32 (length bytes)) bytes

-- a frame is read, and what follows is held
pub gives_frame : (m : Message) (after : List ℕ) (s : Frames) → IsFramed m → s.refusal ≡ None → s.rest ≡ message_frame m ++ after →
    next s ≡ (record { offset = (behind s (length (spelling m))).offset; rest = after; refusal = None }, Some (answered m))
unfolding next_whole
gives_frame m after s framed open_ e =
    let begins : front s.rest ≡ Whole (length (spelling m)) = ap front e ∙ front_again (spelling m) after framed.short in
    let text : take (length (spelling m)) (drop 4 s.rest) ≡ spelling m = ap (λ (w : List ℕ). take (length (spelling m)) (drop 4 w)) e ∙ frame_bytes (spelling m) after in
    let read : decoded (take (length (spelling m)) (drop 4 s.rest)) ≡ Ok m = ap decoded text ∙ decoded_again (spelling m) m (record { text = refl; ranges = framed.ranges }) in
    let step : next s ≡ next_whole s (length (spelling m)) = next_open s open_ ∙ ap (next_at s) begins in
    let rest : drop (4 + length (spelling m)) s.rest ≡ after =
    ap (drop (4 + length (spelling m))) e ∙ drop_at (message_frame m) after (4 + length (spelling m)) (frame_size (spelling m)) in
    step ∙ ap (next_read s (length (spelling m))) read
    ∙ ap (λ (w : List ℕ). (record { offset = (behind s (length (spelling m))).offset; rest = w; refusal = None }, Some (answered m))) rest

pub gives : (m : Message) (after : List ℕ) (s : Frames) → IsFramed m → s.refusal ≡ None → s.rest ≡ message_frame m ++ after → (next s).1 ≡ Some (Ok m)
unfolding next_whole
gives m after s framed open_ e =
    let begins : front s.rest ≡ Whole (length (spelling m)) = ap front e ∙ front_again (spelling m) after framed.short in
    let text : take (length (spelling m)) (drop 4 s.rest) ≡ spelling m = ap (λ (w : List ℕ). take (length (spelling m)) (drop 4 w)) e ∙ frame_bytes (spelling m) after in
    let read : decoded (take (length (spelling m)) (drop 4 s.rest)) ≡ Ok m = ap decoded text ∙ decoded_again (spelling m) m (record { text = refl; ranges = framed.ranges }) in
    let step : next s ≡ next_whole s (length (spelling m)) = next_open s open_ ∙ ap (next_at s) begins in
    ap (λ (x : Frames × Answer). x.1) step ∙ ap (λ (x : Result Message CodecRefusal). (next_read s (length (spelling m)) x).1) read

pub ends : (s : Frames) → AreBytes s.rest → s.refusal ≡ None → (next s).1 ≡ None → IsAtEnd s.rest
ends s ok open_ e = λ m after framed k. none_is_none m (sym e ∙ gives m after s framed open_ k)
