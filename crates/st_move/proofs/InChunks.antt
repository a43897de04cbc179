-- Where the bytes of an update are in chunks.
use Rattle.st_lemmas.proofs.Words
use Words.{◌≡◌, ℕ, zero, suc, ◌+◌, ◌-◌, ◌*◌, ◌/◌, ◌%◌, ◌<◌, ◌≤◌, true, List, [], ◌∷◌, ◌++◌, length, Some, slice_get, refl, sym, ap, ◌∙◌, subst, arith}
use Words.{append_assoc, length-append, list_all, eqb-true}
use Words.Lookups.{some_is}
use Words.Tables.{and_true}
use Words.Lengths.{get_longer, get_past}
use Rattle.std.proofs.lemmas.Nat.{div-add-mod'}
use Rattle.st_move.specs.Chunks.{in_chunks, is_chunk}

chunk_length : (c : List (List ℕ)) → is_chunk c ≡ true → length c ≡ 32
chunk_length c e = eqb-true (length c) 32 e

-- a chunk among others
pub chunk_at : (cs : List (List (List ℕ))) (q : ℕ) (c : List (List ℕ)) → list_all is_chunk cs ≡ true → slice_get cs q ≡ Some c → length c ≡ 32
chunk_at [] q c all at = cc
chunk_at (x ∷ cs) zero c all at = let g = and_true (is_chunk x) (list_all is_chunk cs) all in ap length (sym (some_is at)) ∙ chunk_length x g.0
chunk_at (x ∷ cs) (suc q) c all at = let g = and_true (is_chunk x) (list_all is_chunk cs) all in chunk_at cs q c g.1 at

-- the chunks end before a place that is in none
pub chunks_end : (n i : ℕ) → n ≤ i / 32 → n * 32 ≤ i
chunks_end n i h = let d = div-add-mod' i 32 in omega (arith, h, d)

-- how many updates chunks have
pub chunks_length : (cs : List (List (List ℕ))) → list_all is_chunk cs ≡ true → length (in_chunks cs) ≡ length cs * 32
chunks_length [] e = refl
chunks_length (c ∷ cs) e =
    let g = and_true (is_chunk c) (list_all is_chunk cs) e in
    let n = chunk_length c g.0 in
    let m = chunks_length cs g.1 in
    let l = length-append c (in_chunks cs) in
    omega (arith, n, m, l)

-- how many updates a list has
pub kept_length : (cs : List (List (List ℕ))) (us : List (List ℕ)) → list_all is_chunk cs ≡ true → length (in_chunks cs ++ us) ≡ length cs * 32 + length us
kept_length cs us e = length-append (in_chunks cs) us ∙ ap (λ n. n + length us) (chunks_length cs e)

-- an update of a chunk
in_chunk : (cs : List (List (List ℕ))) (us : List (List ℕ)) (q r : ℕ) (c : List (List ℕ)) (u : List ℕ) → list_all is_chunk cs ≡ true → slice_get cs q ≡ Some c
    → slice_get c r ≡ Some u → slice_get (in_chunks cs ++ us) (q * 32 + r) ≡ Some u
in_chunk [] us q r c u all at there = cc
in_chunk (x ∷ cs) us zero r c u all at there =
    let place : zero * 32 + r ≡ r = omega arith in
    ap (slice_get ((x ++ in_chunks cs) ++ us)) place ∙ ap (λ zs. slice_get zs r) (append_assoc x (in_chunks cs) us) ∙
    get_longer x (in_chunks cs ++ us) r u (subst (λ z. slice_get z r ≡ Some u) (sym (some_is at)) there)
in_chunk (x ∷ cs) us (suc q) r c u all at there =
    let g = and_true (is_chunk x) (list_all is_chunk cs) all in
    let n = chunk_length x g.0 in
    let place : suc q * 32 + r ≡ length x + (q * 32 + r) = omega (arith, n) in
    ap (slice_get ((x ++ in_chunks cs) ++ us)) place ∙ ap (λ zs. slice_get zs (length x + (q * 32 + r))) (append_assoc x (in_chunks cs) us)
    ∙ get_past x (in_chunks cs ++ us) (q * 32 + r) ∙ in_chunk cs us q r c u g.1 at there

-- the update at a place among the chunks
pub get_in_chunk : (cs : List (List (List ℕ))) (us : List (List ℕ)) (i : ℕ) (c : List (List ℕ)) (u : List ℕ) → list_all is_chunk cs ≡ true → slice_get cs (i / 32) ≡ Some c
    → slice_get c (i % 32) ≡ Some u → slice_get (in_chunks cs ++ us) i ≡ Some u
get_in_chunk cs us i c u all at there =
    ap (slice_get (in_chunks cs ++ us)) (sym (div-add-mod' i 32)) ∙ in_chunk cs us (i / 32) (i % 32) c u all at there

-- a place after them is one of the updates there
pub behind_place : (cs : List (List (List ℕ))) (us vs : List (List ℕ)) (n i : ℕ) → list_all is_chunk cs ≡ true → in_chunks cs ++ us ≡ vs → n ≡ length cs → n * 32 ≤ i → i < length vs
    → i - n * 32 < length us
behind_place cs us vs n i all is e past h =
    let k = kept_length cs us all in
    let v = ap length is in
    omega (arith, k, v, e, past, h)

-- and what is there
pub get_behind : (cs : List (List (List ℕ))) (us : List (List ℕ)) (i : ℕ) (u : List ℕ) → list_all is_chunk cs ≡ true → length cs * 32 ≤ i
    → slice_get us (i - length cs * 32) ≡ Some u → slice_get (in_chunks cs ++ us) i ≡ Some u
get_behind cs us i u all past there =
    let n = chunks_length cs all in
    let place : i ≡ length (in_chunks cs) + (i - length cs * 32) = omega (arith, n, past) in
    ap (slice_get (in_chunks cs ++ us)) place ∙ get_past (in_chunks cs) us (i - length cs * 32) ∙ there
