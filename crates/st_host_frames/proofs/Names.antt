-- A name that zeros follow, up to 64 bytes.
use Rattle.std.proofs.Common.{◌≡◌, ℕ, ◌<◌, ◌≤◌, ◌+◌, ◌-◌, List, [], ◌++◌, length, take, drop, sym, ap, ◌∙◌, append_assoc, arith}
use Rattle.std.specs.Prelude.{replicate}
use Rattle.std.proofs.lemmas.List.{append-nil, drop-replicate, drop_all, length-append, length-replicate, replicate-append-replicate, take-append-drop, take-append-le, take_at}
use Rattle.st_host_frames.specs.Answers.{name_shown}

abbrev zeros : ℕ → List ℕ
zeros n = replicate n 0

short_length : (bytes : List ℕ) → length bytes < 64 → length (bytes ++ zeros (64 - length bytes)) ≡ 64
short_length bytes lt = omega (arith, length-append bytes (zeros (64 - length bytes)), length-replicate {A = ℕ} (64 - length bytes) 0)

split_zeros : (n : ℕ) → n < 64 → zeros 64 ≡ zeros (64 - n) ++ zeros n
split_zeros n lt = let sum : 64 ≡ (64 - n) + n = omega arith in ap zeros sum ∙ sym (replicate-append-replicate {A = ℕ} (64 - n) n 0)

pub short_name : (bytes shown : List ℕ) → length bytes < 64 → take (length bytes) shown ≡ bytes → drop (length bytes) shown ≡ drop (length bytes) (zeros 64)
    → shown ≡ name_shown bytes
short_name bytes shown lt first others =
    let n = length bytes in
    let parts : bytes ++ zeros 64 ≡ (bytes ++ zeros (64 - n)) ++ zeros n =
    ap (λ (w : List ℕ). bytes ++ w) (split_zeros n lt) ∙ sym (append_assoc bytes (zeros (64 - n)) (zeros n)) in
    let whole : name_shown bytes ≡ bytes ++ zeros (64 - n) = ap (take 64) parts ∙ take_at (bytes ++ zeros (64 - n)) (zeros n) 64 (short_length bytes lt) in
    let back : drop n shown ≡ zeros (64 - n) = others ∙ drop-replicate n 64 0 in
    sym (take-append-drop n shown) ∙ (ap (λ (w : List ℕ). w ++ drop n shown) first ∙ ap (λ (w : List ℕ). bytes ++ w) back) ∙ sym whole

pub long_name : (bytes part shown : List ℕ) → 64 ≤ length bytes → part ≡ take 64 bytes → length part ≡ 64 → take (length part) shown ≡ part
    → drop (length part) shown ≡ drop (length part) (zeros 64) → shown ≡ name_shown bytes
long_name bytes part shown le is long first others =
    let n = length part in
    let none : drop n shown ≡ [] = others ∙ drop_all n (zeros 64) (omega (arith, long, length-replicate {A = ℕ} 64 0)) in
    sym (take-append-drop n shown) ∙ (ap (λ (w : List ℕ). take n shown ++ w) none ∙ append-nil (take n shown) ∙ first ∙ is)
    ∙ sym (take-append-le 64 bytes (zeros 64) le)
