-- A patch, byte by byte, is the patch laid over its page.
use Rattle.std.proofs.Common.{◌≡◌, ℕ, zero, suc, ◌+◌, ◌-◌, ◌≤◌, ◌<◌, ◌&&◌, List, [], ◌∷◌, ◌++◌, length, refl, sym, ap, ◌∙◌, append_assoc, arith, if◌then◌else◌}
use Rattle.std.specs.Prelude.{take, drop, nat_le, nat_lt, slice_index}
use Rattle.std.proofs.lemmas.Bool.{le-leb, le-ltb, lt-leb, lt-ltb}
use Rattle.st_lemmas.proofs.Lookups.{if_false, if_true}
use Rattle.st_lemmas.proofs.Tables.{and_both, and_left, and_right}
use Rattle.st_rules.specs.FlatLog.{overlay}
use Rattle.st_volume.specs.Pages.{patched, patched_byte}

-- After the patch are the old bytes.
byte_behind : (i at : ℕ) (bytes : List ℕ) (old : ℕ) → at + length bytes ≤ i → patched_byte i at bytes old ≡ old
byte_behind i at bytes old h = if_false _ _ _ (and_right (nat_le at i) (nat_lt i (at + length bytes)) (le-ltb i (at + length bytes) h))

behind : (i at : ℕ) (bytes page : List ℕ) → at + length bytes ≤ i → patched i at bytes page ≡ page
unfolding patched
behind i at bytes [] h = refl
behind i at bytes (old ∷ rest) h =
    ap (λ b. b ∷ patched (i + 1) at bytes rest) (byte_behind i at bytes old h)
    ∙ ap (λ bs. old ∷ bs) (behind (i + 1) at bytes rest (omega (arith, h)))

-- Within the patch are its bytes.
at_mid : (done : List ℕ) (b : ℕ) (bs : List ℕ) → slice_index (done ++ b ∷ bs) (length done) ≡ b
at_mid [] b bs = refl
at_mid (d ∷ done) b bs = at_mid done b bs

length_both : (as_ bs : List ℕ) → length (as_ ++ bs) ≡ length as_ + length bs
length_both [] bs = omega arith
length_both (a ∷ as_) bs = let r = length_both as_ bs in omega (arith, r)

byte_within : (at : ℕ) (done : List ℕ) (b : ℕ) (bs : List ℕ) (old : ℕ) → patched_byte (at + length done) at (done ++ b ∷ bs) old ≡ b
byte_within at done b bs old =
    if_true _ _ _
    (and_both (nat_le at (at + length done)) _ (le-leb at (at + length done) (omega arith))
    (lt-ltb (at + length done) (at + length (done ++ b ∷ bs)) (below (length_both done (b ∷ bs)))))
    ∙ (ap (slice_index (done ++ b ∷ bs)) (minus at (length done)) ∙ at_mid done b bs)
  where
    minus : (a n : ℕ) → a + n - a ≡ n
    minus a n = omega arith

    below : length (done ++ b ∷ bs) ≡ length done + length (b ∷ bs) → at + length done < at + length (done ++ b ∷ bs)
    below e = omega (arith, e)

within : (at : ℕ) (done bs page : List ℕ) → length bs ≤ length page → patched (at + length done) at (done ++ bs) page ≡ bs ++ drop (length bs) page
unfolding patched
within at done [] page h = behind (at + length done) at (done ++ []) page (all (length_both done []))
  where
    all : length (done ++ []) ≡ length done + length {A = ℕ} [] → at + length (done ++ []) ≤ at + length done
    all e = omega (arith, e)
within at done (b ∷ bs) [] h = absurd (omega (arith, h))
within at done (b ∷ bs) (old ∷ rest) h =
    ap (λ z. z ∷ patched (at + length done + 1) at (done ++ b ∷ bs) rest) (byte_within at done b bs old)
    ∙ ap (λ z. b ∷ z) (ap (λ z. patched (at + length done + 1) at z rest) (sym (append_assoc done (b ∷ []) bs))
    ∙ (ap (λ z. patched z at ((done ++ b ∷ []) ++ bs) rest) (next (length_both done (b ∷ [])))
    ∙ within at (done ++ b ∷ []) bs rest (omega (arith, h))))
  where
    next : length (done ++ b ∷ []) ≡ length done + length (b ∷ []) → at + length done + 1 ≡ at + length (done ++ b ∷ [])
    next e = omega (arith, e)

-- Before the patch are the old bytes.
byte_before : (i at : ℕ) (bytes : List ℕ) (old : ℕ) → i < at → patched_byte i at bytes old ≡ old
byte_before i at bytes old h = if_false _ _ _ (and_left (nat_le at i) (nat_lt i (at + length bytes)) (lt-leb at i h))

before : (k i : ℕ) (bytes page : List ℕ) → k + length bytes ≤ length page →
    patched i (i + k) bytes page ≡ take k page ++ (bytes ++ drop (k + length bytes) page)
unfolding patched
before zero i bytes page h =
    ap (λ z. patched z (i + 0) bytes page) (none i)
    ∙ (within (i + 0) [] bytes page (omega (arith, h)) ∙ ap (λ n. bytes ++ drop n page) (zero_more (length bytes)))
  where
    none : (n : ℕ) → n ≡ n + 0 + length {A = ℕ} []
    none n = omega arith

    zero_more : (n : ℕ) → n ≡ 0 + n
    zero_more n = omega arith
before (suc k) i bytes [] h = absurd (omega (arith, h))
before (suc k) i bytes (old ∷ rest) h =
    ap (λ z. z ∷ patched (i + 1) (i + suc k) bytes rest) (byte_before i (i + suc k) bytes old (omega arith))
    ∙ (ap (λ z. old ∷ patched (i + 1) z bytes rest) (shift i k)
    ∙ (ap (λ z. old ∷ z) (before k (i + 1) bytes rest (omega (arith, h)))
    ∙ ap (λ n. old ∷ (take k rest ++ (bytes ++ drop n (old ∷ rest)))) (one_more k (length bytes))))
  where
    shift : (i k : ℕ) → i + suc k ≡ i + 1 + k
    shift i k = omega arith

    one_more : (k n : ℕ) → suc (k + n) ≡ suc k + n
    one_more k n = omega arith

pub patched_is : (at : ℕ) (bytes page : List ℕ) → at + length bytes ≤ length page → patched 0 at bytes page ≡ overlay at bytes page
unfolding overlay
patched_is at bytes page h = ap (λ z. patched 0 z bytes page) (zero_more at) ∙ before at 0 bytes page h
  where
    zero_more : (n : ℕ) → n ≡ 0 + n
    zero_more n = omega arith
