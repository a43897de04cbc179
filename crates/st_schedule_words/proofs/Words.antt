-- Words, from the front of a line.
use Rattle.std.proofs.Common.{◌≡◌, ℕ, ◌+◌, ◌-◌, ◌*◌, ◌<◌, ◌≤◌, Bool, true, false, cond, List, [], ◌∷◌, ◌++◌, length, take, drop, get_or, refl, sym, ◌∙◌, ap, arith, add-one, drop-cons, append-nil}
use Rattle.std.proofs.lemmas.Bool.{cond-false, cond-true}
use Rattle.std.specs.Prelude.{◌==◌, None}
use Rattle.std.proofs.lemmas.Bool.Decides.{nat_tests}
use Rattle.std.proofs.lemmas.List.{take_more, take_all, drop_all}
use Rattle.st_schedule_words.specs.Words.{onto, split, words_behind, room, left, value_from, at_most}

-- the words, with these bytes before the first
abbrev pub front : List ℕ → List (List ℕ) → List (List ℕ)
front [] ws = ws
front (b ∷ bs) ws = onto b (front bs ws)

pub front-push : (bs : List ℕ) (b : ℕ) (ws : List (List ℕ)) → front (bs ++ b ∷ []) ws ≡ front bs (onto b ws)
front-push [] b ws = refl
front-push (c ∷ bs) b ws = rw (front-push bs b ws) refl

pub front-word : (bs w : List ℕ) (ws : List (List ℕ)) → front bs (w ∷ ws) ≡ (bs ++ w) ∷ ws
front-word [] w ws = refl
front-word (b ∷ bs) w ws = rw (front-word bs w ws) refl

words_at : (bs : List ℕ) (at : ℕ) → at < length bs →
    split (drop at bs) ≡ cond (get_or bs at 0 == 32) ([] ∷ split (drop (at + 1) bs)) (onto (get_or bs at 0) (split (drop (at + 1) bs)))
words_at bs at h = rw (drop-cons bs at 0 h, add-one) refl

behind_at : (bs : List ℕ) (at : ℕ) → at < length bs → words_behind (drop at bs) ≡ split (drop (at + 1) bs)
behind_at bs at h = rw (drop-cons bs at 0 h, add-one) refl

-- a loop over the bytes up to the first space: one byte more, the space, the end
pub one_more : (bs : List ℕ) (at : ℕ) → at < length bs → (get_or bs at 0 == 32) ≡ false →
    front (take at bs) (split (drop at bs)) ≡ split bs → front (take (at + 1) bs) (split (drop (at + 1) bs)) ≡ split bs
one_more bs at h other k =
    rw (take_more bs at 0 h, front-push) (ap (front (take at bs)) (sym (words_at bs at h ∙ cond-false _ _ _ other)) ∙ k)

pub at_space : (bs : List ℕ) (at : ℕ) → at < length bs → (get_or bs at 0 == 32) ≡ true →
    front (take at bs) (split (drop at bs)) ≡ split bs → split bs ≡ take at bs ∷ words_behind (drop at bs)
at_space bs at h space k =
    sym k ∙ ap (front (take at bs)) (words_at bs at h ∙ cond-true _ _ _ space) ∙ front-word (take at bs) [] _ ∙
    ap (λ w. w ∷ split (drop (at + 1) bs)) (append-nil _) ∙ ap (λ ws. take at bs ∷ ws) (sym (behind_at bs at h))

pub at_the_end : (bs : List ℕ) (at : ℕ) → length bs ≤ at →
    front (take at bs) (split (drop at bs)) ≡ split bs → split bs ≡ bs ∷ []
at_the_end bs at few k =
    sym k ∙ rw (take_all at bs few, drop_all at bs few) (front-word bs [] [] ∙ ap (λ w. w ∷ []) (append-nil bs))

-- The bytes that words take.

room-onto : (b : ℕ) (ws : List (List ℕ)) → 0 < length ws → room (onto b ws) ≡ room ws + 1
room-onto b [] h = absurd (omega arith)
room-onto b (w ∷ ws) h = omega arith

onto-some : (b : ℕ) (ws : List (List ℕ)) → 0 < length (onto b ws)
onto-some b [] = omega arith
onto-some b (w ∷ ws) = omega arith

some_of : (c : Bool) (x y : List (List ℕ)) → 0 < length x → 0 < length y → 0 < length (cond c x y)
some_of true x y h k = h
some_of false x y h k = k

pub split-some : (bs : List ℕ) → 0 < length (split bs)
split-some [] = omega arith
split-some (b ∷ bs) = some_of (b == 32) _ _ (omega arith) (onto-some b (split bs))

room-cond : (c : Bool) (x y : List (List ℕ)) (n : ℕ) → room x ≡ n → room y ≡ n → room (cond c x y) ≡ n
room-cond true x y n h k = h
room-cond false x y n h k = k

pub room-split : (bs : List ℕ) → room (split bs) ≡ length bs + 1
room-split [] = refl
room-split (b ∷ bs) =
    let e = room-split bs in
    let o = room-onto b (split bs) (split-some bs) in
    room-cond (b == 32) _ _ _ (omega arith) (omega arith)

pub room-behind : (bs : List ℕ) → room (words_behind bs) ≡ length bs
room-behind [] = refl
room-behind (b ∷ bs) = let e = room-split bs in omega arith

-- The value of digits.

value-grows : (bs : List ℕ) (n : ℕ) → n ≤ value_from n bs
value-grows [] n = omega arith
value-grows (b ∷ bs) n = let h = value-grows bs (n * 10 + (b - 48)) in omega arith

pub too_great : (most n : ℕ) (bs : List ℕ) → most < n → at_most most (value_from n bs) ≡ None
too_great most n bs h = let g = value-grows bs n in grind (arith, nat_tests)

value_at : (bs : List ℕ) (i n : ℕ) → i < length bs → value_from n (drop i bs) ≡ value_from (n * 10 + (get_or bs i 0 - 48)) (drop (i + 1) bs)
value_at bs i n h = rw (drop-cons bs i 0 h, add-one) refl

pub value_more : (bs : List ℕ) (i n total : ℕ) → i < length bs → value_from n (drop i bs) ≡ total → value_from (n * 10 + (get_or bs i 0 - 48)) (drop (i + 1) bs) ≡ total
value_more bs i n total h k = sym (value_at bs i n h) ∙ k

pub value_above : (most : ℕ) (bs : List ℕ) (i n : ℕ) → i < length bs → most < n * 10 + (get_or bs i 0 - 48) → value_from n (drop i bs) ≡ value_from 0 bs → at_most most (value_from 0 bs) ≡ None
value_above most bs i n h above k = rw (sym (value_more bs i n (value_from 0 bs) h k)) (too_great most (n * 10 + (get_or bs i 0 - 48)) (drop (i + 1) bs) above)

pub left_behind : (bs : List ℕ) → left (words_behind bs) ≡ length bs - 1
left_behind bs = ap (λ n. n - 1) (room-behind bs)

pub left_split : (bs : List ℕ) → left (split bs) ≡ length bs
left_split bs = let e = room-split bs in omega arith
