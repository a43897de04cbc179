-- A bit that flips in an area leaves the snapshot and the records that are read, or none can be read.
use Rattle.std.proofs.Common.{◌≡◌, ◌≢◌, ◌<◌, ◌≤◌, ◌+◌, ◌^◌, ◌⊎◌, ℕ, zero, suc, List, [], ◌∷◌, ◌++◌, length, refl, sym, ap, ◌∙◌, subst, inl, inr, arith, append_assoc}
use Rattle.std.proofs.lemmas.Nat.{from_be_bytes-to_be_bytes_4, pow_below, pow_pos}
use Rattle.std.specs.Int.{w32, from_be_bytes, to_be_bytes}
use Rattle.std.specs.Int.Bits.{bit_xor, xor_assoc, xor_comm, xor_lt, xor_self, xor_zero_l, xor_zero_r}
use Rattle.st_crc32c.specs.Crc.{are_bytes, crc32c}
use Rattle.st_crc32c.proofs.OneByte.{another_sum, sum_small}
use Rattle.st_journal_file.specs.Flips.{IsFlipped, Here, Later, IsProper}
use Rattle.st_journal_file.specs.Layout.{CLOSED, OPEN, Format, IsArea, all_opened, front, opened, part, word32}

head_is : (a b : ℕ) (xs ys : List ℕ) → a ∷ xs ≡ b ∷ ys → a ≡ b
head_is a b xs ys e = cc

tail_is : (a b : ℕ) (xs ys : List ℕ) → a ∷ xs ≡ b ∷ ys → xs ≡ ys
tail_is a b xs ys e = cc

-- equal lists whose first parts have one length have equal parts
split_same : (xs ys r q : List ℕ) → length xs ≡ length ys → xs ++ r ≡ ys ++ q → (xs ≡ ys) × (r ≡ q)
split_same [] [] r q n e = (refl, e)
split_same [] (y ∷ ys) r q n e = absurd (omega (arith, n))
split_same (x ∷ xs) [] r q n e = absurd (omega (arith, n))
split_same (x ∷ xs) (y ∷ ys) r q n e =
    let both = split_same xs ys r q (omega (arith, n)) (tail_is x y (xs ++ r) (ys ++ q) e) in
    let head : x ≡ y = head_is x y (xs ++ r) (ys ++ q) e in
    let tail : xs ≡ ys = both.0 in
    (cc, both.1)

-- where a bit flips: in the first part or after it
pub data Splits (xs ys r q : List ℕ) : Type 0 where
  First : IsFlipped xs ys → r ≡ q → Splits xs ys r q
  Second : xs ≡ ys → IsFlipped r q → Splits xs ys r q

pub record FlipsAt (xs r zs : List ℕ) : Type 0 where
  pub first : List ℕ
  pub second : List ℕ
  pub parts : zs ≡ first ++ second
  pub size : length xs ≡ length first
  pub split : Splits xs first r second

flips_later : (x : ℕ) (xs r cs zs : List ℕ) → zs ≡ x ∷ cs → FlipsAt xs r cs → FlipsAt (x ∷ xs) r zs
flips_later x xs r cs zs e i = record { first = x ∷ i.first; second = i.second; parts = e ∙ ap (λ (l : List ℕ). x ∷ l) i.parts; size = ap suc i.size; split = by i.split }
  where
    by : Splits xs i.first r i.second → Splits (x ∷ xs) (x ∷ i.first) r i.second
    by (First f same) = First (Later x xs i.first f) same
    by (Second same f) = Second (ap (λ (l : List ℕ). x ∷ l) same) f

flips_first : (x : ℕ) (xs r : List ℕ) → ((cs : List ℕ) → IsFlipped (xs ++ r) cs → FlipsAt xs r cs) → (ws zs : List ℕ) → IsFlipped ws zs → ws ≡ x ∷ (xs ++ r) → FlipsAt (x ∷ xs) r zs
flips_first x xs r on ws zs (Here b k bs h) e =
    let head : b ≡ x = head_is b x bs (xs ++ r) e in
    let tail : bs ≡ xs ++ r = tail_is b x bs (xs ++ r) e in
    record {
      first = bit_xor b (2 ^ k) ∷ xs;
      second = r;
      parts = ap (λ (l : List ℕ). bit_xor b (2 ^ k) ∷ l) tail;
      size = refl;
      split = First (subst (λ (n : ℕ). IsFlipped (n ∷ xs) (bit_xor b (2 ^ k) ∷ xs)) head (Here b k xs h)) refl;
    }
flips_first x xs r on ws zs (Later b bs cs f) e =
    let head : b ≡ x = head_is b x bs (xs ++ r) e in
    let tail : bs ≡ xs ++ r = tail_is b x bs (xs ++ r) e in
    flips_later x xs r cs (b ∷ cs) (ap (λ (n : ℕ). n ∷ cs) head) (on cs (subst (λ (l : List ℕ). IsFlipped l cs) tail f))

flips_at : (xs r zs : List ℕ) → IsFlipped (xs ++ r) zs → FlipsAt xs r zs
flips_at [] r zs f = record { first = []; second = zs; parts = refl; size = refl; split = Second refl f }
flips_at (x ∷ xs) r zs f = flips_first x xs r (λ cs g. flips_at xs r cs g) (x ∷ (xs ++ r)) zs f refl

-- the same, if it is known what is there
flips_in : (xs ys r q : List ℕ) → length xs ≡ length ys → IsFlipped (xs ++ r) (ys ++ q) → Splits xs ys r q
flips_in xs ys r q n f =
    let i = flips_at xs r (ys ++ q) f in
    let both = split_same i.first ys i.second q (sym i.size ∙ n) (sym i.parts) in
    subst (λ (l : List ℕ). Splits xs ys r l) both.1 (subst (λ (l : List ℕ). Splits xs l r i.second) both.0 i.split)

-- A bit that flips makes another byte.

power_small : (k : ℕ) → k < 8 → 2 ^ k < 2 ^ 8
power_small k h = pow_below k 8 h

xor_nothing : (a b : ℕ) → bit_xor a b ≡ a → b ≡ 0
xor_nothing a b e =
    sym (xor_zero_l b) ∙ (ap (λ (n : ℕ). bit_xor n b) (sym (xor_self a)) ∙ (xor_assoc a a b ∙ (ap (bit_xor a) e ∙ xor_self a)))

other_byte : (a k : ℕ) → a ≢ bit_xor a (2 ^ k)
other_byte a k e = let none : 2 ^ k ≡ 0 = xor_nothing a (2 ^ k) (sym e) in omega (arith, pow_pos k, none)

-- the bytes around the one that differs
pub record Differs (xs ys : List ℕ) : Type 0 where
  pub before : List ℕ
  pub behind : List ℕ
  pub a : ℕ
  pub b : ℕ
  pub was : xs ≡ before ++ a ∷ behind
  pub is : ys ≡ before ++ b ∷ behind
  pub bytes_before : are_bytes before
  pub bytes_behind : are_bytes behind
  pub byte_was : a < 256
  pub byte_is : b < 256
  pub other : a ≢ b

differs : (xs ys : List ℕ) → IsFlipped xs ys → are_bytes xs → Differs xs ys
differs xs ys (Here b k bs h) bytes = record {
  before = [];
  behind = bs;
  a = b;
  b = bit_xor b (2 ^ k);
  was = refl;
  is = refl;
  bytes_before = tt;
  bytes_behind = bytes.1;
  byte_was = bytes.0;
  byte_is = xor_lt 8 b (2 ^ k) bytes.0 (power_small k h);
  other = other_byte b k;
}
differs xs ys (Later b bs cs f) bytes =
    let i = differs bs cs f bytes.1 in
    record {
      before = b ∷ i.before;
      behind = i.behind;
      a = i.a;
      b = i.b;
      was = ap (λ (l : List ℕ). b ∷ l) i.was;
      is = ap (λ (l : List ℕ). b ∷ l) i.is;
      bytes_before = (bytes.0, i.bytes_before);
      bytes_behind = i.bytes_behind;
      byte_was = i.byte_was;
      byte_is = i.byte_is;
      other = i.other;
    }

another : (xs ys : List ℕ) → IsFlipped xs ys → are_bytes xs → crc32c xs ≢ crc32c ys
another xs ys f bytes e =
    let i = differs xs ys f bytes in
    another_sum i.before i.behind i.a i.b i.bytes_before i.bytes_behind i.byte_was i.byte_is i.other (ap crc32c (sym i.was) ∙ (e ∙ ap crc32c i.is))

not_itself : (xs ys : List ℕ) → IsFlipped xs ys → xs ≢ ys
not_itself xs ys (Here b k bs h) e = other_byte b k (head_is b (bit_xor b (2 ^ k)) bs bs e)
not_itself xs ys (Later b bs cs f) e = not_itself bs cs f (tail_is b b bs cs e)

-- Words.

length-word32 : (n : ℕ) → length (word32 n) ≡ 4
unfolding word32
length-word32 n = refl

words_same : (n m : ℕ) → length (word32 n) ≡ length (word32 m)
words_same n m = length-word32 n ∙ sym (length-word32 m)

word_once : (n m : ℕ) → n < 2 ^ 32 → m < 2 ^ 32 → word32 n ≡ word32 m → n ≡ m
unfolding word32
word_once n m s t e = sym (from_be_bytes-to_be_bytes_4 n s) ∙ (ap (from_be_bytes w32) e ∙ from_be_bytes-to_be_bytes_4 m t)

word_bytes : (n : ℕ) → are_bytes (word32 n)
unfolding word32
word_bytes n = (omega arith, (omega arith, (omega arith, (omega arith, tt))))

-- Parts.

module _ {S C : Type 0} (f : Format S C) (proper : IsProper f) where
  sum_of : (xs : List ℕ) → are_bytes xs → f.sum xs < 2 ^ 32
  sum_of xs b = subst (λ (n : ℕ). n < 2 ^ 32) (sym (proper.sum xs)) (sum_small xs b)

  -- bytes with one sum have no bit that flipped
  no_flip : (xs ys : List ℕ) → are_bytes xs → are_bytes ys → IsFlipped xs ys → word32 (f.sum xs) ≢ word32 (f.sum ys)
  no_flip xs ys b c flip e =
      another xs ys flip b (sym (proper.sum xs) ∙ (word_once (f.sum xs) (f.sum ys) (sum_of xs b) (sum_of ys c) e ∙ proper.sum ys))

  part_is : (a r : List ℕ) → part f a ++ r ≡ word32 (length a) ++ (word32 (f.sum (word32 (length a))) ++ (a ++ (word32 (f.sum a) ++ r)))
  unfolding part
  part_is a r = simp append_assoc

  -- if two parts begin bytes of which one bit flipped, they are the same, and the bit is after them
  body_flips : (a b r q : List ℕ) → are_bytes a → are_bytes b → length a ≡ length b → Splits a b (word32 (f.sum a) ++ r) (word32 (f.sum b) ++ q) → (a ≡ b) × IsFlipped r q
  body_flips a b r q bytes others n (First flip same) =
      absurd (no_flip a b bytes others flip (split_same (word32 (f.sum a)) (word32 (f.sum b)) r q (words_same (f.sum a) (f.sum b)) same).0)
  body_flips a b r q bytes others n (Second same flip) = (same, by (flips_in (word32 (f.sum a)) (word32 (f.sum b)) r q (words_same (f.sum a) (f.sum b)) flip))
    where
      by : Splits (word32 (f.sum a)) (word32 (f.sum b)) r q → IsFlipped r q
      by (First g e) = absurd (not_itself (word32 (f.sum a)) (word32 (f.sum b)) g (ap (λ (l : List ℕ). word32 (f.sum l)) same))
      by (Second e g) = g

  part_flips : (a b r q : List ℕ) → are_bytes a → are_bytes b → length a < 2 ^ 32 → length b < 2 ^ 32 → IsFlipped (part f a ++ r) (part f b ++ q) → (a ≡ b) × IsFlipped r q
  part_flips a b r q bytes others short shorter flip =
      in_length (flips_in (word32 (length a)) (word32 (length b)) (left a r) (left b q) (words_same (length a) (length b))
      (subst (λ (l : List ℕ). IsFlipped (word32 (length a) ++ left a r) l) (part_is b q) (subst (λ (l : List ℕ). IsFlipped l (part f b ++ q)) (part_is a r) flip)))
    where
      left : List ℕ → List ℕ → List ℕ
      left x l = word32 (f.sum (word32 (length x))) ++ (x ++ (word32 (f.sum x) ++ l))

      in_sum : length a ≡ length b → Splits (word32 (f.sum (word32 (length a)))) (word32 (f.sum (word32 (length b)))) (a ++ (word32 (f.sum a) ++ r)) (b ++ (word32 (f.sum b) ++ q)) → (a ≡ b) × IsFlipped r q
      in_sum n (First g e) = absurd (not_itself (word32 (f.sum (word32 (length a)))) (word32 (f.sum (word32 (length b)))) g (ap (λ (m : ℕ). word32 (f.sum (word32 m))) n))
      in_sum n (Second e g) = body_flips a b r q bytes others n (flips_in a b (word32 (f.sum a) ++ r) (word32 (f.sum b) ++ q) n g)

      in_length : Splits (word32 (length a)) (word32 (length b)) (left a r) (left b q) → (a ≡ b) × IsFlipped r q
      in_length (First g e) =
          absurd (no_flip (word32 (length a)) (word32 (length b)) (word_bytes (length a)) (word_bytes (length b)) g
          (split_same (word32 (f.sum (word32 (length a)))) (word32 (f.sum (word32 (length b)))) (a ++ (word32 (f.sum a) ++ r)) (b ++ (word32 (f.sum b) ++ q))
          (words_same (f.sum (word32 (length a))) (f.sum (word32 (length b)))) e).0)
      in_length (Second e g) =
          let n : length a ≡ length b = word_once (length a) (length b) short shorter e in
          in_sum n (flips_in (word32 (f.sum (word32 (length a)))) (word32 (f.sum (word32 (length b)))) (a ++ (word32 (f.sum a) ++ r)) (b ++ (word32 (f.sum b) ++ q))
          (words_same (f.sum (word32 (length a))) (f.sum (word32 (length b)))) g)

  -- Gates.

  closed_not : (k : ℕ) → k < 8 → bit_xor CLOSED (2 ^ k) ≢ OPEN
  closed_not zero h e = let g : 1 ≡ 255 = e in absurd (omega (arith, g))
  closed_not (suc zero) h e = let g : 2 ≡ 255 = e in absurd (omega (arith, g))
  closed_not (suc (suc zero)) h e = let g : 4 ≡ 255 = e in absurd (omega (arith, g))
  closed_not (suc (suc (suc zero))) h e = let g : 8 ≡ 255 = e in absurd (omega (arith, g))
  closed_not (suc (suc (suc (suc zero)))) h e = let g : 16 ≡ 255 = e in absurd (omega (arith, g))
  closed_not (suc (suc (suc (suc (suc zero))))) h e = let g : 32 ≡ 255 = e in absurd (omega (arith, g))
  closed_not (suc (suc (suc (suc (suc (suc zero)))))) h e = let g : 64 ≡ 255 = e in absurd (omega (arith, g))
  closed_not (suc (suc (suc (suc (suc (suc (suc zero))))))) h e = let g : 128 ≡ 255 = e in absurd (omega (arith, g))
  closed_not (suc (suc (suc (suc (suc (suc (suc (suc k)))))))) h e = absurd (omega (arith, h))

  open_not : (k : ℕ) → k < 8 → bit_xor OPEN (2 ^ k) ≢ CLOSED
  open_not zero h e = let g : 254 ≡ 0 = e in absurd (omega (arith, g))
  open_not (suc zero) h e = let g : 253 ≡ 0 = e in absurd (omega (arith, g))
  open_not (suc (suc zero)) h e = let g : 251 ≡ 0 = e in absurd (omega (arith, g))
  open_not (suc (suc (suc zero))) h e = let g : 247 ≡ 0 = e in absurd (omega (arith, g))
  open_not (suc (suc (suc (suc zero)))) h e = let g : 239 ≡ 0 = e in absurd (omega (arith, g))
  open_not (suc (suc (suc (suc (suc zero))))) h e = let g : 223 ≡ 0 = e in absurd (omega (arith, g))
  open_not (suc (suc (suc (suc (suc (suc zero)))))) h e = let g : 191 ≡ 0 = e in absurd (omega (arith, g))
  open_not (suc (suc (suc (suc (suc (suc (suc zero))))))) h e = let g : 127 ≡ 0 = e in absurd (omega (arith, g))
  open_not (suc (suc (suc (suc (suc (suc (suc (suc k)))))))) h e = absurd (omega (arith, h))

  -- a gate that is read on both sides is one gate
  gates : (n m : ℕ) (xs ys ws zs : List ℕ) → ((k : ℕ) → k < 8 → bit_xor n (2 ^ k) ≢ m) → IsFlipped ws zs → ws ≡ n ∷ xs → zs ≡ m ∷ ys → (n ≡ m) × IsFlipped xs ys
  gates n m xs ys ws zs never (Here b k bs h) e g =
      absurd (never k h (ap (λ (i : ℕ). bit_xor i (2 ^ k)) (sym (head_is b n bs xs e)) ∙ head_is (bit_xor b (2 ^ k)) m bs ys g))
  gates n m xs ys ws zs never (Later b bs cs f) e g =
      (sym (head_is b n bs xs e) ∙ head_is b m cs ys g, subst (λ (l : List ℕ). IsFlipped l ys) (tail_is b n bs xs e) (subst (λ (l : List ℕ). IsFlipped bs l) (tail_is b m cs ys g) f))

  open_stays : (k : ℕ) → k < 8 → bit_xor OPEN (2 ^ k) ≢ OPEN
  open_stays k h e = other_byte OPEN k (sym e)

  opened_is : (x : C) (xs : List C) (r : List ℕ) → all_opened f (x ∷ xs) ++ r ≡ OPEN ∷ (part f (f.spelled x) ++ (all_opened f xs ++ r))
  opened_is x xs r = append_assoc (opened f x) (all_opened f xs) r

  closed_open : CLOSED ≢ OPEN
  closed_open e = let g : 0 ≡ 255 = e in absurd (omega (arith, g))

  records_same : (xs ys : List C) (r q : List ℕ) → IsFlipped (all_opened f xs ++ CLOSED ∷ r) (all_opened f ys ++ CLOSED ∷ q) → xs ≡ ys
  records_same [] [] r q flip = refl
  records_same [] (y ∷ ys) r q flip =
      absurd (closed_open (gates CLOSED OPEN r (part f (f.spelled y) ++ (all_opened f ys ++ CLOSED ∷ q)) (CLOSED ∷ r) (all_opened f (y ∷ ys) ++ CLOSED ∷ q) closed_not flip refl (opened_is y ys (CLOSED ∷ q))).0)
  records_same (x ∷ xs) [] r q flip =
      absurd (closed_open (sym (gates OPEN CLOSED (part f (f.spelled x) ++ (all_opened f xs ++ CLOSED ∷ r)) q (all_opened f (x ∷ xs) ++ CLOSED ∷ r) (CLOSED ∷ q) open_not flip (opened_is x xs (CLOSED ∷ r)) refl).0))
  records_same (x ∷ xs) (y ∷ ys) r q flip =
      let on = gates OPEN OPEN (part f (f.spelled x) ++ (all_opened f xs ++ CLOSED ∷ r)) (part f (f.spelled y) ++ (all_opened f ys ++ CLOSED ∷ q)) (all_opened f (x ∷ xs) ++ CLOSED ∷ r) (all_opened f (y ∷ ys) ++ CLOSED ∷ q) open_stays flip (opened_is x xs (CLOSED ∷ r)) (opened_is y ys (CLOSED ∷ q)) in
      let one = part_flips (f.spelled x) (f.spelled y) (all_opened f xs ++ CLOSED ∷ r) (all_opened f ys ++ CLOSED ∷ q) (proper.record_bytes x) (proper.record_bytes y) (proper.record_short x) (proper.record_short y) on.1 in
      let head : x ≡ y = proper.records x y one.0 in
      let tail : xs ≡ ys = records_same xs ys r q one.1 in
      cc

  front_is : (t : S) (xs : List C) (r : List ℕ) → front f t xs ++ r ≡ part f (f.snapshot t) ++ (all_opened f xs ++ r)
  front_is t xs r = append_assoc (part f (f.snapshot t)) (all_opened f xs) r

  pub same_opened : (bytes others : List ℕ) (s t : S) (xs ys : List C) → IsArea f bytes s xs → IsFlipped bytes others → IsArea f others t ys → (s ≡ t) × (xs ≡ ys)
  same_opened bytes others s t xs ys was flip is =
      let moved : IsFlipped (part f (f.snapshot s) ++ (all_opened f xs ++ CLOSED ∷ was.rest)) (part f (f.snapshot t) ++ (all_opened f ys ++ CLOSED ∷ is.rest)) =
      subst (λ (l : List ℕ). IsFlipped (part f (f.snapshot s) ++ (all_opened f xs ++ CLOSED ∷ was.rest)) l) (is.parts ∙ front_is t ys (CLOSED ∷ is.rest))
      (subst (λ (l : List ℕ). IsFlipped l others) (was.parts ∙ front_is s xs (CLOSED ∷ was.rest)) flip) in
      let one = part_flips (f.snapshot s) (f.snapshot t) (all_opened f xs ++ CLOSED ∷ was.rest) (all_opened f ys ++ CLOSED ∷ is.rest) (proper.snapshot_bytes s) (proper.snapshot_bytes t) (proper.snapshot_short s) (proper.snapshot_short t) moved in
      (proper.snapshots s t one.0, records_same xs ys was.rest is.rest one.1)
