-- Numbers as bytes are read as they are spelled.
use Rattle.std.proofs.Common.{◌≡◌, ℕ, ◌+◌, ◌^◌, ◌<◌, ◌≤◌, List, ◌++◌, length, get_or, take, drop, refl, sym, ap, ◌∙◌, arith, inl, inr}
use Rattle.std.specs.Int.{w16, w32, w64, from_be_bytes}
use Rattle.std.proofs.lemmas.Bool.{cases_lt}
use Rattle.std.proofs.lemmas.List.{drop_at, take_at, take-append-drop, length-take, get_or-drop, get_or-take, get_or_past}
use Rattle.std.proofs.lemmas.Nat.{be_bytes_2, be_bytes_4, be_bytes_8, from_be_bytes-to_be_bytes_2, from_be_bytes-to_be_bytes_4, from_be_bytes-to_be_bytes_8}
use Rattle.st_journal_bytes.specs.Words.{word16, word64}
use Rattle.st_journal_file.specs.Layout.{word32}

abbrev pub IsBytes : List ℕ → Type 0
IsBytes bytes = (i : ℕ) → get_or bytes i 0 < 256

pub IsBytes-drop : (n : ℕ) (bytes : List ℕ) → IsBytes bytes → IsBytes (drop n bytes)
IsBytes-drop n bytes h i = rw get_or-drop (h (n + i))

pub IsBytes-take : (n : ℕ) (bytes : List ℕ) → IsBytes bytes → IsBytes (take n bytes)
IsBytes-take n bytes h i =
    elim (cases_lt i n) [
      | inl lt ↦ rw (get_or-take n bytes i 0 lt) (h i)
      | inr le ↦ rw (get_or_past (take n bytes) i 0 (omega (arith, length-take n bytes))) (omega arith)
    ]

pub length-word32 : (n : ℕ) → length (word32 n) ≡ 4
unfolding word32
length-word32 n = refl

pub length-word64 : (n : ℕ) → length (word64 n) ≡ 8
unfolding word64
length-word64 n = refl

pub word64_again : (n : ℕ) → n < 2 ^ 64 → from_be_bytes w64 (word64 n) ≡ n
unfolding word64
word64_again n lt = from_be_bytes-to_be_bytes_8 n lt

pub word32_again : (n : ℕ) → n < 2 ^ 32 → from_be_bytes w32 (word32 n) ≡ n
unfolding word32
word32_again n lt = from_be_bytes-to_be_bytes_4 n lt

-- bytes spell the number that is read from them, by width

pub number_16 : (bytes : List ℕ) (n : ℕ) → length bytes ≡ 2 → IsBytes bytes → n ≡ from_be_bytes w16 bytes → word16 n ≡ bytes
unfolding word16
number_16 bytes n len fits e = be_bytes_2 bytes n len fits e

pub number_32 : (bytes : List ℕ) (n : ℕ) → length bytes ≡ 4 → IsBytes bytes → n ≡ from_be_bytes w32 bytes → word32 n ≡ bytes
unfolding word32
number_32 bytes n len fits e = be_bytes_4 bytes n len fits e

pub number_64 : (bytes : List ℕ) (n : ℕ) → length bytes ≡ 8 → IsBytes bytes → n ≡ from_be_bytes w64 bytes → word64 n ≡ bytes
unfolding word64
number_64 bytes n len fits e = be_bytes_8 bytes n len fits e

-- bytes begin with the number that is read from their front, by width

pub front_16 : (bytes : List ℕ) (n : ℕ) → 2 ≤ length bytes → IsBytes bytes → n ≡ from_be_bytes w16 (take 2 bytes) → bytes ≡ word16 n ++ drop 2 bytes
front_16 bytes n long fits e =
    sym (take-append-drop 2 bytes)
    ∙ ap (λ (l : List ℕ). l ++ drop 2 bytes) (sym (number_16 (take 2 bytes) n (omega (arith, length-take 2 bytes)) (IsBytes-take 2 bytes fits) e))

pub front_32 : (bytes : List ℕ) (n : ℕ) → 4 ≤ length bytes → IsBytes bytes → n ≡ from_be_bytes w32 (take 4 bytes) → bytes ≡ word32 n ++ drop 4 bytes
front_32 bytes n long fits e =
    sym (take-append-drop 4 bytes)
    ∙ ap (λ (l : List ℕ). l ++ drop 4 bytes) (sym (number_32 (take 4 bytes) n (omega (arith, length-take 4 bytes)) (IsBytes-take 4 bytes fits) e))

-- a number of four bytes is read from the front
pub split_32 : (bytes : List ℕ) → 4 ≤ length bytes → IsBytes bytes → bytes ≡ word32 (from_be_bytes w32 (take 4 bytes)) ++ drop 4 bytes
split_32 bytes long fits = front_32 bytes (from_be_bytes w32 (take 4 bytes)) long fits refl

pub number_small : (bytes : List ℕ) → IsBytes bytes → from_be_bytes w32 bytes < 2 ^ 32
number_small bytes fits = omega (arith, fits 0, fits 1, fits 2, fits 3)

-- a front and the bytes after it, if the front's length is known
front_once : (a b r q : List ℕ) (n : ℕ) → length a ≡ n → length b ≡ n → a ++ r ≡ b ++ q → (a ≡ b) × (r ≡ q)
front_once a b r q n m l e = (
  sym (take_at a r n m) ∙ (ap (λ (xs : List ℕ). take n xs) e ∙ take_at b q n l),
  sym (drop_at a r n m) ∙
      (ap (λ (xs : List ℕ). drop n xs) e ∙ drop_at b q n l),
)

-- bytes are those of one number, by width

pub once_16 : (m n : ℕ) (r q : List ℕ) → m < 2 ^ 16 → n < 2 ^ 16 → word16 m ++ r ≡ word16 n ++ q → (m ≡ n) × (r ≡ q)
unfolding word16
once_16 m n r q small less e =
    let one = front_once (word16 m) (word16 n) r q 2 refl refl e in
    (sym (from_be_bytes-to_be_bytes_2 m small) ∙ (ap (λ (xs : List ℕ). from_be_bytes w16 xs) one.0 ∙ from_be_bytes-to_be_bytes_2 n less), one.1)

pub once_32 : (m n : ℕ) (r q : List ℕ) → m < 2 ^ 32 → n < 2 ^ 32 → word32 m ++ r ≡ word32 n ++ q → (m ≡ n) × (r ≡ q)
unfolding word32
once_32 m n r q small less e =
    let one = front_once (word32 m) (word32 n) r q 4 refl refl e in
    (sym (from_be_bytes-to_be_bytes_4 m small) ∙ (ap (λ (xs : List ℕ). from_be_bytes w32 xs) one.0 ∙ from_be_bytes-to_be_bytes_4 n less), one.1)

pub once_64 : (m n : ℕ) (r q : List ℕ) → m < 2 ^ 64 → n < 2 ^ 64 → word64 m ++ r ≡ word64 n ++ q → (m ≡ n) × (r ≡ q)
unfolding word64
once_64 m n r q small less e =
    let one = front_once (word64 m) (word64 n) r q 8 refl refl e in
    (sym (from_be_bytes-to_be_bytes_8 m small) ∙ (ap (λ (xs : List ℕ). from_be_bytes w64 xs) one.0 ∙ from_be_bytes-to_be_bytes_8 n less), one.1)
