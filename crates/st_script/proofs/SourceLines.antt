-- The first line of the bytes that are ahead, by the place of the first newline among those that are held.
use Rattle.std.proofs.Common.{◌≡◌, ◌≢◌, ℕ, zero, suc, ◌+◌, ◌<◌, ◌≤◌, true, false, List, [], ◌∷◌, ◌++◌, length, take, drop, get_or, refl, sym, ◌∙◌, ap, subst, arith, append-nil}
use Rattle.std.specs.Prelude.{◌==◌, Option, Some, None, Result, Ok, Err, IfSome, IfNone}
use Rattle.std.specs.Io.KnownBytes.{IsAtEnd, prepend_known}
use Rattle.std.proofs.Math.Seq.{take-length}
use Rattle.std.proofs.lemmas.Bool.{cond-false, eqb-true, false_from_ne_true}
use Rattle.std.proofs.lemmas.List.{append_assoc, length-append, drop_all}
use Rattle.st_schedule_words.specs.Lines.{lines_of}
use Rattle.st_schedule_words.specs.Words.{onto}
use Rattle.st_script.specs.Ahead.{BeginsLong, Finds, HasNone, IsFault, IsLine, TakesPiece}
use Rattle.st_script.specs.declared.fault.Stop.{Stop}
use Rattle.st_script.specs.declared.fault.Stop.TheVariants as stops

not_newline : (b : ℕ) → b ≢ 10 → (b == 10) ≡ false
not_newline b h = false_from_ne_true _ (λ e. h (eqb-true _ _ e))

-- none of the first bytes is a newline, after one that isn't one
behind_first : (b : ℕ) (bs : List ℕ) (n : ℕ) → HasNone (b ∷ bs) (suc n) → HasNone bs n
behind_first b bs n h = λ k few. h (suc k) (omega (arith, few))

line_up_to : (bs more : List ℕ) (n : ℕ) → n < length bs → get_or bs n 0 ≡ 10 → HasNone bs n → lines_of (bs ++ more) ≡ take n bs ∷ lines_of (drop (suc n) bs ++ more)
line_up_to [] more n few e h = absurd (omega (arith, few))
line_up_to (b ∷ bs) more zero few e h = let same : b ≡ 10 = e in rw same refl
line_up_to (b ∷ bs) more (suc n) few e h =
    cond-false (b == 10) ([] ∷ lines_of (bs ++ more)) (onto b (lines_of (bs ++ more))) (not_newline b (h 0 (omega arith)))
    ∙ ap (onto b) (line_up_to bs more n (omega (arith, few)) e (behind_first b bs n h))

-- a newline in place n ends the first line
line_at : (bs more : List ℕ) (n : ℕ) → n < length bs → get_or bs n 0 ≡ 10 → HasNone bs n → lines_of (bs ++ more) ≡ take n bs ∷ lines_of (drop (n + 1) bs ++ more)
line_at bs more n few e h = let next : suc n ≡ n + 1 = omega arith in line_up_to bs more n few e h ∙ ap (λ k. take n bs ∷ lines_of (drop k bs ++ more)) next

-- bytes without a newline are one line
last_line_of : (b : ℕ) (bs : List ℕ) → HasNone (b ∷ bs) (length (b ∷ bs)) → lines_of (b ∷ bs) ≡ (b ∷ bs) ∷ []
last_line_of b [] h = cond-false (b == 10) ([] ∷ []) (onto b []) (not_newline b (h 0 (omega arith)))
last_line_of b (c ∷ bs) h =
    cond-false (b == 10) ([] ∷ lines_of (c ∷ bs)) (onto b (lines_of (c ∷ bs))) (not_newline b (h 0 (omega arith)))
    ∙ ap (onto b) (last_line_of c bs (behind_first b (c ∷ bs) (length (c ∷ bs)) h))

-- and begin the first line of whatever follows them
record Begins (bs : List ℕ) (ls : List (List ℕ)) : Type 0 where
  end : List ℕ
  others : List (List ℕ)
  are : ls ≡ (bs ++ end) ∷ others

onto_any : (b : ℕ) (ls : List (List ℕ)) → Begins (b ∷ []) (onto b ls)
onto_any b [] = record { end = []; others = []; are = refl }
onto_any b (l ∷ ls) = record { end = l; others = ls; are = refl }

begins : (b : ℕ) (bs more : List ℕ) → HasNone (b ∷ bs) (length (b ∷ bs)) → Begins (b ∷ bs) (lines_of ((b ∷ bs) ++ more))
begins b [] more h =
    let y = onto_any b (lines_of more) in record {
      end = y.end;
      others = y.others;
      are = cond-false (b == 10) ([] ∷ lines_of more) (onto b (lines_of more)) (not_newline b (h 0 (omega arith))) ∙ y.are;
    }
begins b (c ∷ bs) more h =
    let y = begins c bs more (behind_first b (c ∷ bs) (length (c ∷ bs)) h) in record {
      end = y.end;
      others = y.others;
      are = cond-false (b == 10) ([] ∷ lines_of ((c ∷ bs) ++ more)) (onto b (lines_of ((c ∷ bs) ++ more))) (not_newline b (h 0 (omega arith))) ∙
          ap (onto b) y.are;
    }

begins_long : (bs more : List ℕ) → HasNone bs (length bs) → 256 < length bs → BeginsLong (bs ++ more)
begins_long [] more h long = absurd (omega (arith, long))
begins_long (b ∷ bs) more h long =
    let y = begins b bs more h in
    let both : length ((b ∷ bs) ++ y.end) ≡ length (b ∷ bs) + length y.end = length-append (b ∷ bs) y.end in
    record { line = (b ∷ bs) ++ y.end; others = y.others; lines = y.are; long = omega (arith, both, long) }

-- What is found ahead.

-- the first newline among the bytes that are held ends a line
pub found_line : (bytes held : List ℕ) (left : Option (List ℕ)) (at : ℕ) → prepend_known held left ≡ Some bytes → at < length held → get_or held at 0 ≡ 10 → HasNone held at →
    IsLine bytes held left at
found_line bytes held None at known few e h = absurd (cc)
found_line bytes held (Some more) at known few e h =
    let same : held ++ more ≡ bytes = cc in
    record { rest = drop (at + 1) held ++ more; known = refl; lines = ap lines_of (sym same) ∙ line_at held more at few e h }

-- more bytes than a line may have, and no newline among them
pub found_long : (bytes held : List ℕ) (left : Option (List ℕ)) → prepend_known held left ≡ Some bytes → HasNone held (length held) → 256 < length held → BeginsLong bytes
found_long bytes held None known h long = absurd (cc)
found_long bytes held (Some more) known h long =
    let same : held ++ more ≡ bytes = cc in subst BeginsLong same (begins_long held more h long)

-- a fault
pub found_fault : (s : Stop) (bytes held : List ℕ) (left : Option (List ℕ)) → IsFault s → Finds bytes held left (Err s)
found_fault stops.Malformed bytes held left h = absurd h
found_fault stops.Read bytes held left h = tt
found_fault stops.Memory bytes held left h = tt

-- the end of the source, after a last line or nothing
last_found : (bytes held : List ℕ) (n : ℕ) → held ++ [] ≡ bytes → HasNone held (length held) → n ≡ length held → 1 ≤ n → IsLine bytes held (Some []) n
last_found bytes [] n same h all some = absurd (omega (arith, all, some))
last_found bytes (b ∷ bs) n same h all some =
    let whole : bytes ≡ b ∷ bs = sym same ∙ append-nil (b ∷ bs) in
    let front : take n (b ∷ bs) ≡ b ∷ bs = ap (λ k. take k (b ∷ bs)) all ∙ take-length (b ∷ bs) in
    let behind : drop (n + 1) (b ∷ bs) ≡ [] = drop_all (n + 1) (b ∷ bs) (omega (arith, all)) in
    record {
      rest = drop (n + 1) (b ∷ bs) ++ [];
      known = refl;
      lines = ap lines_of whole ∙ last_line_of b bs h ∙ ap (λ x. x ∷ []) (sym front) ∙ ap (λ x. take n (b ∷ bs) ∷ lines_of (x ++ [])) (sym behind);
    }

none_left : (held bytes : List ℕ) → length held ≡ 0 → held ++ [] ≡ bytes → bytes ≡ []
none_left [] bytes none same = sym same
none_left (b ∷ bs) bytes none same = absurd (omega (arith, none))

found_end : (r : Option ℕ) (bytes held more : List ℕ) → held ++ more ≡ bytes → more ≡ [] → HasNone held (length held) → IfSome r (λ n. (n ≡ length held) × (1 ≤ n)) →
    IfNone r (length held ≡ 0) → Finds bytes held (Some more) (Ok r)
found_end (Some n) bytes held more same empty h some none =
    subst (λ x. IsLine bytes held (Some x) n) (sym empty) (last_found bytes held n (ap (λ x. held ++ x) (sym empty) ∙ same) h some.0 some.1)
found_end None bytes held more same empty h some none = none_left held bytes none (ap (λ x. held ++ x) (sym empty) ∙ same)

pub found_last : (r : Option ℕ) (bytes held : List ℕ) (left : Option (List ℕ)) → prepend_known held left ≡ Some bytes → IsAtEnd left → HasNone held (length held) →
    IfSome r (λ n. (n ≡ length held) × (1 ≤ n)) → IfNone r (length held ≡ 0) → Finds bytes held left (Ok r)
found_last r bytes held None known end h some none = absurd (cc)
found_last r bytes held (Some more) known end h some none = let same : held ++ more ≡ bytes = cc in found_end r bytes held more same end h some none

-- A piece.

-- the bytes ahead stay the same
pub piece_taken : (before now : Option (List ℕ)) (held new : List ℕ) (n : ℕ) (bytes : List ℕ) → TakesPiece before now held new n → prepend_known held before ≡ Some bytes →
    prepend_known new now ≡ Some bytes
piece_taken None now held new n bytes t known = absurd (cc)
piece_taken (Some xs) None held new n bytes t known = absurd t.took
piece_taken (Some xs) (Some ys) held new n bytes t known =
    ap (λ x. Some (x ++ ys)) t.held ∙ ap Some (append_assoc held t.piece ys ∙ ap (λ x. held ++ x) (sym t.took)) ∙ known

no_piece : (piece : List ℕ) → length piece ≡ 0 → piece ≡ []
no_piece [] h = refl
no_piece (b ∷ bs) h = absurd (omega (arith, h))

-- an empty one leaves what is held
pub none_taken : (before now : Option (List ℕ)) (held new : List ℕ) (n : ℕ) → TakesPiece before now held new n → n ≡ 0 → HasNone held (length held) → HasNone new (length new)
none_taken before now held new n t none h =
    let same : held ≡ new = sym (t.held ∙ ap (λ x. held ++ x) (no_piece t.piece (t.counted ∙ none)) ∙ append-nil held) in
    subst (λ x. HasNone x (length x)) same h
