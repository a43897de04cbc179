-- A reader of frames that holds more bytes gives the same.
use Rattle.st_lemmas.proofs.Words
use Words.{◌≡◌, ℕ, ◌+◌, ◌-◌, ◌^◌, ◌<◌, ◌≤◌, false, true, List, [], ◌++◌, length, take, drop, Option, Some, None, Result, Ok, Err, refl, sym, ap, ◌∙◌, arith}
use Words.{inl, inr, min, cases_lt, lt-ltb, le-ltb, Message}
use Rattle.std.proofs.Common.{ltb, append-nil}
use Rattle.std.specs.Int.{w32, from_be_bytes}
use Rattle.std.proofs.lemmas.List.{take-append-le, drop-append-le, length-append, length-drop}
use Rattle.st_codec.specs.declared.frames.Front.{Front}
use Rattle.st_codec.specs.declared.frames.Front.TheVariants.{Partial, TooLong, Whole}
use Rattle.st_codec.specs.declared.refusal.CodecRefusal.{CodecRefusal}
use Rattle.st_codec.specs.declared.refusal.CodecRefusal.TheVariants as refusals
use Rattle.st_codec.specs.Frames.{Frames, Answer, fed, front, refused, behind, next_read, next_whole, next_at, next_by, next}
use Rattle.st_codec.specs.Decoder.{decoded}
use Rattle.st_codec.proofs.Streams.{front_cases}

-- ---- the front

abbrev pair_of : Frames → Answer → Frames × Answer
pair_of f a = (f, a)

abbrev said : Result Message CodecRefusal → Answer
said a = Some a

-- a front that is more than a part of a frame stays, whatever follows
abbrev Stays : List ℕ → List ℕ → Front → Type 0
Stays rest more f = (f ≡ Partial → ⊥) → front (rest ++ more) ≡ f

same_head : (rest more : List ℕ) → 4 ≤ length rest → from_be_bytes w32 (take 4 (rest ++ more)) ≡ from_be_bytes w32 (take 4 rest)
same_head rest more long = ap (from_be_bytes w32) (take-append-le 4 rest more long)

long_stays : (rest more : List ℕ) → 4 ≤ length rest → 65536 < from_be_bytes w32 (take 4 rest) → front (rest ++ more) ≡ TooLong (from_be_bytes w32 (take 4 rest))
unfolding front
long_stays rest more long great =
    let size = length-append rest more in
    let first : ltb (length (rest ++ more)) 4 ≡ false = le-ltb _ _ (omega (arith, size, long)) in
    let second : ltb 65536 (from_be_bytes w32 (take 4 rest)) ≡ true = lt-ltb _ _ great in
    rw (first, same_head rest more long, second) refl

whole_stays : (rest more : List ℕ) → 4 + from_be_bytes w32 (take 4 rest) ≤ length rest → from_be_bytes w32 (take 4 rest) ≤ 65536 →
    front (rest ++ more) ≡ Whole (from_be_bytes w32 (take 4 rest))
unfolding front
whole_stays rest more room short =
    let size = length-append rest more in
    let first : ltb (length (rest ++ more)) 4 ≡ false = le-ltb _ _ (omega (arith, size, room)) in
    let second : ltb 65536 (from_be_bytes w32 (take 4 rest)) ≡ false = le-ltb _ _ short in
    let third : ltb (length (rest ++ more)) (4 + from_be_bytes w32 (take 4 rest)) ≡ false = le-ltb _ _ (omega (arith, size, room)) in
    rw (first, same_head rest more (omega arith), second, third) refl

front_stays : (rest more : List ℕ) (f : Front) → front rest ≡ f → Stays rest more f
front_stays rest more f e =
    front_cases rest f e (Stays rest more)
    (λ h no. absurd (no refl))
    (λ long great no. long_stays rest more long great)
    (λ room short no. whole_stays rest more room short)

-- a part of a frame is short
not_part : (rest : List ℕ) → 65540 ≤ length rest → front rest ≡ Partial → ⊥
not_part rest long e =
    elim (cases_lt 65536 (from_be_bytes w32 (take 4 rest))) [
      | inl great ↦ differs _ (sym e ∙ ap front (sym (append-nil rest)) ∙ long_stays rest [] (omega arith) great)
      | inr short ↦ differs_whole _ (sym e ∙ ap front (sym (append-nil rest)) ∙ whole_stays rest [] (omega arith) short)
    ]
  where
    differs : (n : ℕ) → Partial ≡ TooLong n → ⊥
    differs n h = cc

    differs_whole : (n : ℕ) → Partial ≡ Whole n → ⊥
    differs_whole n h = cc

part_short : (rest : List ℕ) → front rest ≡ Partial → length rest < 65540
part_short rest e =
    elim (cases_lt (length rest) 65540) [
      | inl short ↦ short
      | inr long ↦ absurd (not_part rest long e)
    ]

-- the bytes of a frame that is seen are there, and they are few
front_there : (rest : List ℕ) (n : ℕ) → front rest ≡ Whole n → (4 + n ≤ length rest) × (n ≤ 65536)
front_there rest n e =
    front_cases rest (Whole n) e (λ f. f ≡ Whole n → (4 + n ≤ length rest) × (n ≤ 65536))
    (λ h k. absurd cc)
    (λ long great k. absurd cc)
    (λ room short k. let same : from_be_bytes w32 (take 4 rest) ≡ n = cc in (omega (arith, same, room), omega (arith, same, short)))
    refl

-- ---- the next message

-- what a reader answers, apart from what it is left as
left_same : (x y : Frames) (a b : Answer) → pair_of x a ≡ pair_of y b → y ≡ x
left_same x y a b e = sym (ap (λ (z : Frames × Answer). z.0) e)

said_same : (x y : Frames) (a b : Answer) → pair_of x a ≡ pair_of y b → b ≡ a
said_same x y a b e = sym (ap (λ (z : Frames × Answer). z.1) e)

given_same : (a b : Result Message CodecRefusal) → said a ≡ said b → a ≡ b
given_same a b e = cc

not_none : (a : Result Message CodecRefusal) → said a ≡ None → ⊥
not_none a e = cc

not_some : (a : Result Message CodecRefusal) → None ≡ said a → ⊥
not_some a e = cc

not_refused : (m : Message) (r : CodecRefusal) → said (Ok m) ≡ said (Err r) → ⊥
not_refused m r e = cc

-- what was read of a frame is read of it again
read_more : (f : Frames) (more : List ℕ) (n : ℕ) (g : Frames) (a : Result Message CodecRefusal) (x : Result Message CodecRefusal) → 4 + n ≤ length f.rest →
    next_read f n x ≡ (g, Some a) → next_read (fed f more) n x ≡ (fed g more, Some a)
read_more f more n g a (Ok m) room e =
    let left : g ≡ behind f n = left_same (behind f n) g (said (Ok m)) (said a) e in
    let given : a ≡ Ok m = given_same a (Ok m) (said_same (behind f n) g (said (Ok m)) (said a) e) in
    let same : drop (4 + n) (f.rest ++ more) ≡ drop (4 + n) f.rest ++ more = drop-append-le (4 + n) f.rest more room in
    rw (left, given) (ap (λ (w : List ℕ). (record { offset = min (f.offset + (4 + n)) (2 ^ 64 - 1); rest = w; refusal = None }, Some (Ok m))) same)
read_more f more n g a (Err r) room e =
    let left : g ≡ refused f r = left_same (refused f r) g (said (Err r)) (said a) e in
    let given : a ≡ Err r = given_same a (Err r) (said_same (refused f r) g (said (Err r)) (said a) e) in
    rw (left, given) refl

whole_more : (f : Frames) (more : List ℕ) (n : ℕ) (g : Frames) (a : Result Message CodecRefusal) → 4 + n ≤ length f.rest →
    next_whole f n ≡ (g, Some a) → next_whole (fed f more) n ≡ (fed g more, Some a)
unfolding next_whole
whole_more f more n g a room e =
    let dropped : drop 4 (f.rest ++ more) ≡ drop 4 f.rest ++ more = drop-append-le 4 f.rest more (omega arith) in
    let size = length-drop 4 f.rest in
    let same : take n (drop 4 (f.rest ++ more)) ≡ take n (drop 4 f.rest) =
    ap (take n) dropped ∙ take-append-le n (drop 4 f.rest) more (omega (arith, size, room)) in
    ap (λ (w : List ℕ). next_read (fed f more) n (decoded w)) same ∙ read_more f more n g a (decoded (take n (drop 4 f.rest))) room e

at_more : (f : Frames) (more : List ℕ) (g : Frames) (a : Result Message CodecRefusal) (x : Front) → front f.rest ≡ x →
    next_at f x ≡ (g, Some a) → next_at (fed f more) (front (f.rest ++ more)) ≡ (fed g more, Some a)
at_more f more g a Partial s e = absurd (not_none a (said_same f g None (said a) e))
at_more f more g a (TooLong n) s e =
    let left : g ≡ refused f (refusals.FrameTooLong n) = left_same (refused f (refusals.FrameTooLong n)) g (said (Err (refusals.FrameTooLong n))) (said a) e in
    let given : a ≡ Err (refusals.FrameTooLong n) =
    given_same a (Err (refusals.FrameTooLong n)) (said_same (refused f (refusals.FrameTooLong n)) g (said (Err (refusals.FrameTooLong n))) (said a) e) in
    rw (front_stays f.rest more (TooLong n) s (λ k. cc), left, given) refl
at_more f more g a (Whole n) s e =
    rw (front_stays f.rest more (Whole n) s (λ k. cc)) (whole_more f more n g a (front_there f.rest n s).0 e)

by_more : (f : Frames) (more : List ℕ) (g : Frames) (a : Result Message CodecRefusal) (o : Option CodecRefusal) →
    next_by f o ≡ (g, Some a) → next_by (fed f more) o ≡ (fed g more, Some a)
by_more f more g a None e = at_more f more g a (front f.rest) refl e
by_more f more g a (Some r) e =
    let left : g ≡ f = left_same f g (said (Err r)) (said a) e in
    let given : a ≡ Err r = given_same a (Err r) (said_same f g (said (Err r)) (said a) e) in
    rw (left, given) refl

-- what a reader gives it gives, whatever follows
pub next_more : (f : Frames) (more : List ℕ) (g : Frames) (a : Result Message CodecRefusal) → next f ≡ (g, Some a) → next (fed f more) ≡ (fed g more, Some a)
unfolding next
next_more f more g a e = by_more f more g a f.refusal e

-- ---- how many bytes are held

few_read : (f : Frames) (n : ℕ) (g : Frames) (m : Message) (x : Result Message CodecRefusal) → n ≤ 65536 → next_read f n x ≡ (g, Some (Ok m)) →
    length f.rest ≤ length g.rest + 65540
few_read f n g m (Ok y) short e =
    let left : g ≡ behind f n = left_same (behind f n) g (said (Ok y)) (said (Ok m)) e in
    let size = length-drop (4 + n) f.rest in
    rw left (omega (arith, size, short))
few_read f n g m (Err r) short e = absurd (not_refused m r (said_same (refused f r) g (said (Err r)) (said (Ok m)) e))

few_at : (f : Frames) (g : Frames) (m : Message) (x : Front) → front f.rest ≡ x → next_at f x ≡ (g, Some (Ok m)) → length f.rest ≤ length g.rest + 65540
unfolding next_whole
few_at f g m Partial s e = absurd (not_none (Ok m) (said_same f g None (said (Ok m)) e))
few_at f g m (TooLong n) s e =
    absurd (not_refused m (refusals.FrameTooLong n) (said_same (refused f (refusals.FrameTooLong n)) g (said (Err (refusals.FrameTooLong n))) (said (Ok m)) e))
few_at f g m (Whole n) s e = few_read f n g m _ (front_there f.rest n s).1 e

few_by : (f : Frames) (g : Frames) (m : Message) (o : Option CodecRefusal) → next_by f o ≡ (g, Some (Ok m)) → length f.rest ≤ length g.rest + 65540
few_by f g m None e = few_at f g m (front f.rest) refl e
few_by f g m (Some r) e = absurd (not_refused m r (said_same f g (said (Err r)) (said (Ok m)) e))

-- a frame has at most 65,540 bytes
pub next_few : (f : Frames) (g : Frames) (m : Message) → next f ≡ (g, Some (Ok m)) → length f.rest ≤ length g.rest + 65540
unfolding next
next_few f g m e = few_by f g m f.refusal e

part_at : (f : Frames) (g : Frames) (x : Front) → front f.rest ≡ x → next_at f x ≡ (g, None) → length f.rest < 65540
unfolding next_whole
part_at f g Partial s e = part_short f.rest s
part_at f g (TooLong n) s e =
    absurd (not_some (Err (refusals.FrameTooLong n)) (said_same (refused f (refusals.FrameTooLong n)) g (said (Err (refusals.FrameTooLong n))) None e))
part_at f g (Whole n) s e = part_read f g n _ e
  where
    part_read : (f g : Frames) (n : ℕ) (x : Result Message CodecRefusal) → next_read f n x ≡ (g, None) → length f.rest < 65540
    part_read f g n (Ok m) e = absurd (not_some (Ok m) (said_same (behind f n) g (said (Ok m)) None e))
    part_read f g n (Err r) e = absurd (not_some (Err r) (said_same (refused f r) g (said (Err r)) None e))

part_by : (f : Frames) (g : Frames) (o : Option CodecRefusal) → next_by f o ≡ (g, None) → length f.rest < 65540
part_by f g None e = part_at f g (front f.rest) refl e
part_by f g (Some r) e = absurd (not_some (Err r) (said_same f g (said (Err r)) None e))

-- if no frame is whole, few bytes are held
pub part_few : (f : Frames) (g : Frames) → next f ≡ (g, None) → length f.rest < 65540
unfolding next
part_few f g e = part_by f g f.refusal e

none_at : (f : Frames) (g : Frames) (x : Front) → next_at f x ≡ (g, None) → next_at f x ≡ (f, None)
unfolding next_whole
none_at f g Partial e = refl
none_at f g (TooLong n) e =
    absurd (not_some (Err (refusals.FrameTooLong n)) (said_same (refused f (refusals.FrameTooLong n)) g (said (Err (refusals.FrameTooLong n))) None e))
none_at f g (Whole n) e = none_read f g n _ e
  where
    none_read : (f g : Frames) (n : ℕ) (x : Result Message CodecRefusal) → next_read f n x ≡ (g, None) → next_read f n x ≡ (f, None)
    none_read f g n (Ok m) e = absurd (not_some (Ok m) (said_same (behind f n) g (said (Ok m)) None e))
    none_read f g n (Err r) e = absurd (not_some (Err r) (said_same (refused f r) g (said (Err r)) None e))

none_by : (f : Frames) (g : Frames) (o : Option CodecRefusal) → next_by f o ≡ (g, None) → next_by f o ≡ (f, None)
none_by f g None e = none_at f g (front f.rest) e
none_by f g (Some r) e = absurd (not_some (Err r) (said_same f g (said (Err r)) None e))

-- if no frame is whole, the reader stays
pub none_stays : (f : Frames) (g : Frames) → next f ≡ (g, None) → next f ≡ (f, None)
unfolding next
none_stays f g e = none_by f g f.refusal e
