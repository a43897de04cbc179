-- A part is read exactly.
use Rattle.std.proofs.Common.{◌≡◌, ℕ, ◌^◌, ◌<◌, ◌≤◌, Bool, true, false, cond, ltb, List, ◌++◌, length, take, drop, Option, Some, None, refl, sym, ap, ◌∙◌, subst, append_assoc, arith}
use Rattle.std.specs.Prelude.{IfNone, IfSome, option_map}
use Rattle.std.specs.Int.{w32, from_be_bytes}
use Rattle.std.specs.Str.{bytes_eq}
use Rattle.std.proofs.lemmas.Bool.{ltb-false, le-ltb}
use Rattle.std.proofs.lemmas.List.{take_at, drop_at, take-append-drop, length-append, length-take}
use Rattle.std.proofs.lemmas.Slice.Eq.{bytes_eq-Decides}
use Rattle.st_crc32c.specs.Crc.{crc32c}
use Rattle.st_journal_file.specs.Layout.{part, word32}
use Rattle.st_journal_bytes.specs.Plain.{plain}
use Rattle.st_journal_bytes.specs.Reading.{◌>>=◌, word32_at, text_at, after_front, after_sum, part_at}
use Rattle.st_journal_bytes.proofs.Numbers.{IsBytes, IsBytes-drop, IsBytes-take, length-word32, number_small, split_32, word32_again}

-- the value of a step that found one
bind_some : {A B : Type 0} (r : Option A) (f : A → Option B) (y : B) → (r >>= f) ≡ Some y → (x : A) × (r ≡ Some x) × (f x ≡ Some y)
bind_some (Some x) f y e = (x, refl, e)
bind_some None f y e = absurd cc

-- a test that failed, and one that held
guard_not : {A : Type 0} (b : Bool) (x y : A) → cond b None (Some x) ≡ Some y → (b ≡ false) × (x ≡ y)
guard_not true x y e = absurd cc
guard_not false x y e = (refl, cc)

guard_some : {A : Type 0} (b : Bool) (x y : A) → cond b (Some x) None ≡ Some y → (b ≡ true) × (x ≡ y)
guard_some true x y e = (refl, cc)
guard_some false x y e = absurd cc

pub pair_once : {A B : Type 0} (x y : A × B) → Some x ≡ Some y → (x.0 ≡ y.0) × (x.1 ≡ y.1)
pair_once {A = A} {B = B} x y e = let same : x ≡ y = cc in (ap (λ (p : A × B). p.0) same, ap (λ (p : A × B). p.1) same)

pub word32_takes : (bytes : List ℕ) (x : ℕ × List ℕ) → IsBytes bytes → word32_at bytes ≡ Some x → (bytes ≡ word32 x.0 ++ x.1) × IsBytes x.1
unfolding word32_at
word32_takes bytes x fits e =
    let g = guard_not (ltb (length bytes) 4) (from_be_bytes w32 (take 4 bytes), drop 4 bytes) x e in
    let long : 4 ≤ length bytes = ltb-false (length bytes) 4 g.0 in
    subst (λ (y : ℕ × List ℕ). (bytes ≡ word32 y.0 ++ y.1) × IsBytes y.1) g.1
    (split_32 bytes long fits, IsBytes-drop 4 bytes fits)

pub word32_small : (bytes : List ℕ) (x : ℕ × List ℕ) → IsBytes bytes → word32_at bytes ≡ Some x → x.0 < 2 ^ 32
unfolding word32_at
word32_small bytes x fits e =
    let g = guard_not (ltb (length bytes) 4) (from_be_bytes w32 (take 4 bytes), drop 4 bytes) x e in
    subst (λ (y : ℕ × List ℕ). y.0 < 2 ^ 32) g.1 (number_small (take 4 bytes) (IsBytes-take 4 bytes fits))

pub word32_reads : (n : ℕ) (rest : List ℕ) → n < 2 ^ 32 → word32_at (word32 n ++ rest) ≡ Some (n, rest)
unfolding word32_at
word32_reads n rest lt =
    let len = length-word32 n in
    let long : ltb (length (word32 n ++ rest)) 4 ≡ false = le-ltb _ _ (omega (arith, length-append (word32 n) rest)) in
    rw (long, take_at (word32 n) rest 4 len, drop_at (word32 n) rest 4 len, word32_again n lt) refl

text_takes : (n : ℕ) (bytes : List ℕ) (x : List ℕ × List ℕ) → text_at n bytes ≡ Some x → (bytes ≡ x.0 ++ x.1) × (length x.0 ≡ n)
text_takes n bytes x e =
    let g = guard_not (ltb (length bytes) n) (take n bytes, drop n bytes) x e in
    let long : n ≤ length bytes = ltb-false (length bytes) n g.0 in
    subst (λ (y : List ℕ × List ℕ). (bytes ≡ y.0 ++ y.1) × (length y.0 ≡ n)) g.1 (sym (take-append-drop n bytes), omega (arith, length-take n bytes))

text_reads : (text rest : List ℕ) → text_at (length text) (text ++ rest) ≡ Some (text, rest)
text_reads text rest =
    let long : ltb (length (text ++ rest)) (length text) ≡ false = le-ltb _ _ (omega (arith, length-append text rest)) in
    rw (long, take_at text rest (length text) refl, drop_at text rest (length text) refl) refl

pub front_takes : (front bytes rest : List ℕ) → after_front front bytes ≡ Some rest → bytes ≡ front ++ rest
front_takes front bytes rest e =
    let g = guard_some (bytes_eq (take (length front) bytes) front) (drop (length front) bytes) rest e in
    let same : take (length front) bytes ≡ front = (bytes_eq-Decides (take (length front) bytes) front).0 g.0 in
    sym (take-append-drop (length front) bytes) ∙ (ap (λ (l : List ℕ). l ++ drop (length front) bytes) same ∙ ap (λ (l : List ℕ). front ++ l) g.1)

pub front_rest : (front bytes rest : List ℕ) → after_front front bytes ≡ Some rest → drop (length front) bytes ≡ rest
front_rest front bytes rest e = (guard_some (bytes_eq (take (length front) bytes) front) (drop (length front) bytes) rest e).1

pub front_reads : (front rest : List ℕ) → after_front front (front ++ rest) ≡ Some rest
front_reads front rest =
    let same : bytes_eq (take (length front) (front ++ rest)) front ≡ true =
    (bytes_eq-Decides (take (length front) (front ++ rest)) front).1 (take_at front rest (length front) refl) in
    rw (same, drop_at front rest (length front) refl) refl

sum_takes : (summed bytes rest : List ℕ) → after_sum summed bytes ≡ Some rest → bytes ≡ word32 (crc32c summed) ++ rest
unfolding after_sum
sum_takes summed bytes rest e = front_takes (word32 (crc32c summed)) bytes rest e

sum_reads : (summed rest : List ℕ) → after_sum summed (word32 (crc32c summed) ++ rest) ≡ Some rest
unfolding after_sum
sum_reads summed rest = front_reads (word32 (crc32c summed)) rest

pub part_is : (a r : List ℕ) → part plain a ++ r ≡ word32 (length a) ++ (word32 (crc32c (word32 (length a))) ++ (a ++ (word32 (crc32c a) ++ r)))
unfolding part
part_is a r = simp append_assoc

pub part_takes : (bytes : List ℕ) (x : List ℕ × List ℕ) → IsBytes bytes → part_at bytes ≡ Some x → bytes ≡ part plain x.0 ++ x.1
unfolding part_at
part_takes bytes x fits e =
    let count =
    bind_some (word32_at bytes)
    (λ count. after_sum (word32 count.0) count.1 >>= λ checked. text_at count.0 checked >>= λ body. after_sum body.0 body.1 >>= λ rest. Some (body.0, rest))
    x e in
    let n : ℕ = count.0.0 in
    let checked = bind_some (after_sum (word32 n) count.0.1) (λ checked. text_at n checked >>= λ body. after_sum body.0 body.1 >>= λ rest. Some (body.0, rest))
    x count.2 in
    let body = bind_some (text_at n checked.0) (λ body. after_sum body.0 body.1 >>= λ rest. Some (body.0, rest)) x checked.2 in
    let rest = bind_some (after_sum body.0.0 body.0.1) (λ rest. Some (body.0.0, rest)) x body.2 in
    let first : bytes ≡ word32 n ++ count.0.1 = (word32_takes bytes count.0 fits count.1).0 in
    let second : count.0.1 ≡ word32 (crc32c (word32 n)) ++ checked.0 = sum_takes (word32 n) count.0.1 checked.0 checked.1 in
    let third = text_takes n checked.0 body.0 body.1 in
    let fourth : body.0.1 ≡ word32 (crc32c body.0.0) ++ rest.0 = sum_takes body.0.0 body.0.1 rest.0 rest.1 in
    let long : length body.0.0 ≡ n = third.1 in
    let whole : bytes ≡ word32 n ++ (word32 (crc32c (word32 n)) ++ (body.0.0 ++ (word32 (crc32c body.0.0) ++ rest.0))) =
    first ∙ ap (λ (l : List ℕ). word32 n ++ l)
    (second ∙ ap (λ (l : List ℕ). word32 (crc32c (word32 n)) ++ l) (third.0 ∙ ap (λ (l : List ℕ). body.0.0 ++ l) fourth)) in
    let made : bytes ≡ part plain body.0.0 ++ rest.0 =
    whole ∙ (ap (λ (m : ℕ). word32 m ++ (word32 (crc32c (word32 m)) ++ (body.0.0 ++ (word32 (crc32c body.0.0) ++ rest.0)))) (sym long) ∙
    sym (part_is body.0.0 rest.0)) in
    let got : (body.0.0, rest.0) ≡ x = cc in
    subst (λ (y : List ℕ × List ℕ). bytes ≡ part plain y.0 ++ y.1) got made

-- the number in front of a part is a word
count_small : (bytes : List ℕ) (x : ℕ × List ℕ) → IsBytes bytes → word32_at bytes ≡ Some x → x.0 < 2 ^ 32
unfolding word32_at
count_small bytes x fits e =
    let g = guard_not (ltb (length bytes) 4) (from_be_bytes w32 (take 4 bytes), drop 4 bytes) x e in
    subst (λ (y : ℕ × List ℕ). y.0 < 2 ^ 32) g.1 (number_small (take 4 bytes) (IsBytes-take 4 bytes fits))

pub part_short : (bytes : List ℕ) (x : List ℕ × List ℕ) → IsBytes bytes → part_at bytes ≡ Some x → length x.0 < 2 ^ 32
unfolding part_at
part_short bytes x fits e =
    let count =
    bind_some (word32_at bytes)
    (λ count. after_sum (word32 count.0) count.1 >>= λ checked. text_at count.0 checked >>= λ body. after_sum body.0 body.1 >>= λ rest. Some (body.0, rest))
    x e in
    let n : ℕ = count.0.0 in
    let checked = bind_some (after_sum (word32 n) count.0.1) (λ checked. text_at n checked >>= λ body. after_sum body.0 body.1 >>= λ rest. Some (body.0, rest))
    x count.2 in
    let body = bind_some (text_at n checked.0) (λ body. after_sum body.0 body.1 >>= λ rest. Some (body.0, rest)) x checked.2 in
    let rest = bind_some (after_sum body.0.0 body.0.1) (λ rest. Some (body.0.0, rest)) x body.2 in
    let small : n < 2 ^ 32 = count_small bytes count.0 fits count.1 in
    let long : length body.0.0 ≡ n = (text_takes n checked.0 body.0 body.1).1 in
    let got : (body.0.0, rest.0) ≡ x = cc in
    subst (λ (y : List ℕ × List ℕ). length y.0 < 2 ^ 32) got (omega (arith, small, long))

pub part_reads : (body rest : List ℕ) → length body < 2 ^ 32 → part_at (part plain body ++ rest) ≡ Some (body, rest)
unfolding part_at
part_reads body rest short =
    let r : List ℕ = body ++ (word32 (crc32c body) ++ rest) in
    rw (
      part_is body rest,
      word32_reads (length body) (word32 (crc32c (word32 (length body))) ++ r) short,
      sum_reads (word32 (length body)) r,
      text_reads body (word32 (crc32c body) ++ rest),
      sum_reads body rest,
    ) refl

-- What a call returns, seen as lists.

pub seen_found : {B : Type 0} (view : B → List ℕ) (o : Option (B × B)) (bytes : List ℕ) → IsBytes bytes →
    option_map (λ x. (view x.0, view x.1)) o ≡ part_at bytes → IfSome o (λ x. bytes ≡ part plain (view x.0) ++ view x.1)
seen_found view None bytes fits e = tt
seen_found view (Some x) bytes fits e = part_takes bytes (view x.0, view x.1) fits (sym e)

pub seen_short : {B : Type 0} (view : B → List ℕ) (o : Option (B × B)) (bytes : List ℕ) → IsBytes bytes →
    option_map (λ x. (view x.0, view x.1)) o ≡ part_at bytes → IfSome o (λ x. length (view x.0) < 2 ^ 32)
seen_short view None bytes fits e = tt
seen_short view (Some x) bytes fits e = part_short bytes (view x.0, view x.1) fits (sym e)

pub seen_none : {B : Type 0} (view : B → List ℕ) (o : Option (B × B)) (bytes : List ℕ) → option_map (λ x. (view x.0, view x.1)) o ≡ part_at bytes →
    IfNone o ((body rest : List ℕ) → length body < 2 ^ 32 → bytes ≡ part plain body ++ rest → ⊥)
seen_none view (Some x) bytes e = tt
seen_none view None bytes e = λ body rest short is.
    let read : part_at bytes ≡ Some (body, rest) = ap part_at is ∙ part_reads body rest short in
    absurd cc
