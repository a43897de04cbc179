-- The turns of the loops over records.
use Rattle.st_lemmas.proofs.Words
use Words.{◌≡◌, ℕ, suc, ◌+◌, ◌-◌, ◌≤◌, ◌<◌, Bool, true, List, [], ◌∷◌, ◌++◌, length, take, drop, get_or, set, Option, refl, sym, ap, ◌∙◌, subst, arith}
use Words.{append_assoc, zero, list_all, ServerId}
use Words.Tables.{and_true}
use Words.Locks.{Locks}
use Rattle.std.proofs.Math.Seq.{drop-cons}
use Rattle.std.proofs.lemmas.List.{drop-set-lt, take_more_set}
use Rattle.st_move.specs.declared.record.ContainerRecord.{ContainerRecord}
use Rattle.st_move.specs.Calls.{leaving_from, sent_by}
use Rattle.st_move.specs.Containers.{beginning, beginnings, has_next, image_of, images_from, leaves, sent_from, sent_if}
use Rattle.st_move.specs.World.{fresh_site, sites_behind}

one_more : (p : ℕ) → suc p ≡ p + 1
one_more p = omega arith

past : {A : Type 0} (xs : List A) (p : ℕ) → length xs ≤ p → drop p xs ≡ []
past [] zero h = refl
past [] (suc p) h = refl
past (x ∷ xs) zero h = absurd (omega arith)
past (x ∷ xs) (suc p) h = past xs p (omega arith)

pub leaving_length : (l : Locks) (p : ℕ) (rs : List (Option ContainerRecord)) → length (leaving_from l p rs) ≡ length rs
unfolding leaving_from
leaving_length l p [] = refl
leaving_length l p (r ∷ rs) = ap suc (leaving_length l (p + 1) rs)

pub sent_leaving : (l : Locks) (p : ℕ) (rs : List (Option ContainerRecord)) → sent_by (leaving_from l p rs) rs ≡ sent_from l p rs
unfolding leaving_from sent_by sent_from
sent_leaving l p [] = refl
sent_leaving l p (r ∷ rs) = ap (λ more. sent_if (leaves l (p + 1) r) r ∷ more) (sent_leaving l (p + 1) rs)

-- the records that are sent on
pub sent_next : (p : ℕ) (bs : List Bool) (rs : List (Option ContainerRecord)) (b : Bool) (d : Option ContainerRecord) → p < length bs → p < length rs
    → sent_by (drop p bs) (drop p rs) ≡ sent_if (get_or bs p b) (get_or rs p d) ∷ sent_by (drop (p + 1) bs) (drop (p + 1) rs)
unfolding sent_by
sent_next p bs rs b d h i =
    ap (λ xs. sent_by xs (drop p rs)) (drop-cons bs p b h)
    ∙ ap (sent_by (get_or bs p b ∷ drop (suc p) bs)) (drop-cons rs p d i)
    ∙ ap (λ n. sent_if (get_or bs p b) (get_or rs p d) ∷ sent_by (drop n bs) (drop n rs)) (one_more p)

pub sent_end : (p : ℕ) (bs : List Bool) (rs : List (Option ContainerRecord)) → length bs ≤ p → sent_by (drop p bs) (drop p rs) ≡ []
unfolding sent_by
sent_end p bs rs h = ap (λ xs. sent_by xs (drop p rs)) (past bs p h)

pub sent_turn : (p : ℕ) (bs : List Bool) (rs : List (Option ContainerRecord)) (b : Bool) (d : Option ContainerRecord) → p < length bs → p < length rs
    → take (p + 1) (set rs p (sent_if (get_or bs p b) (get_or rs p d))) ++ sent_by (drop (p + 1) bs) (drop (p + 1) (set rs p (sent_if (get_or bs p b) (get_or rs p d)))) ≡ take p rs ++ sent_by (drop p bs) (drop p rs)
sent_turn p bs rs b d h i =
    ap (λ xs. xs ++ sent_by (drop (p + 1) bs) (drop (p + 1) (set rs p (sent_if (get_or bs p b) (get_or rs p d))))) (take_more_set rs p (sent_if (get_or bs p b) (get_or rs p d)) i)
    ∙ ap (λ xs. (take p rs ++ (sent_if (get_or bs p b) (get_or rs p d)) ∷ []) ++ sent_by (drop (p + 1) bs) xs) (drop-set-lt (p + 1) rs p (sent_if (get_or bs p b) (get_or rs p d)) (omega arith))
    ∙ append_assoc (take p rs) ((sent_if (get_or bs p b) (get_or rs p d)) ∷ []) (sent_by (drop (p + 1) bs) (drop (p + 1) rs))
    ∙ ap (λ xs. take p rs ++ xs) (sym (sent_next p bs rs b d h i))

-- the images
pub images_next : (p : ℕ) (bs : List Bool) (rs : List (Option ContainerRecord)) (b : Bool) (d : Option ContainerRecord) → p < length bs → p < length rs
    → images_from p (sent_by (drop p bs) (drop p rs)) ≡ image_of (p + 1) (sent_if (get_or bs p b) (get_or rs p d)) ++ images_from (p + 1) (sent_by (drop (p + 1) bs) (drop (p + 1) rs))
unfolding images_from
images_next p bs rs b d h i = ap (images_from p) (sent_next p bs rs b d h i)

pub images_end : (p : ℕ) (bs : List Bool) (rs : List (Option ContainerRecord)) → length bs ≤ p → images_from p (sent_by (drop p bs) (drop p rs)) ≡ []
unfolding images_from
images_end p bs rs h = ap (images_from p) (sent_end p bs rs h)

-- every version can be followed
pub next_at : (p : ℕ) (rs : List (Option ContainerRecord)) (d : Option ContainerRecord) → p < length rs → list_all has_next (drop p rs) ≡ true → (has_next (get_or rs p d) ≡ true) × (list_all has_next (drop (p + 1) rs) ≡ true)
next_at p rs d h e =
    let f : list_all has_next (get_or rs p d ∷ drop (suc p) rs) ≡ true = sym (ap (list_all has_next) (drop-cons rs p d h)) ∙ e in
    let g : (has_next (get_or rs p d) ≡ true) × (list_all has_next (drop (suc p) rs) ≡ true) = and_true (has_next (get_or rs p d)) (list_all has_next (drop (suc p) rs)) f in
    (g.0, subst (λ n. list_all has_next (drop n rs) ≡ true) (one_more p) g.1)

-- how containers begin
pub beginnings_next : (s : ServerId) (servers p n : ℕ) → p < n → beginnings s servers p (n - p) ≡ beginning s servers p ∷ beginnings s servers (p + 1) (n - (p + 1))
unfolding beginnings
beginnings_next s servers p n h = let e : n - p ≡ suc (n - (p + 1)) = omega arith in ap (beginnings s servers p) e

pub beginnings_end : (s : ServerId) (servers p n : ℕ) → n ≤ p → beginnings s servers p (n - p) ≡ []
unfolding beginnings
beginnings_end s servers p n h = let e : n - p ≡ 0 = omega arith in ap (beginnings s servers p) e

pub beginnings_length : (s : ServerId) (servers p n : ℕ) → length (beginnings s servers p n) ≡ n
unfolding beginnings
beginnings_length s servers p zero = refl
beginnings_length s servers p (suc n) = ap suc (beginnings_length s servers (p + 1) n)

-- how servers begin
pub sites_next : (servers containers p n : ℕ) → p < n → sites_behind servers containers p (n - p) ≡ fresh_site servers containers (p + 1) ∷ sites_behind servers containers (p + 1) (n - (p + 1))
unfolding sites_behind
sites_next servers containers p n h = let e : n - p ≡ suc (n - (p + 1)) = omega arith in ap (sites_behind servers containers p) e

pub sites_end : (servers containers p n : ℕ) → n ≤ p → sites_behind servers containers p (n - p) ≡ []
unfolding sites_behind
sites_end servers containers p n h = let e : n - p ≡ 0 = omega arith in ap (sites_behind servers containers p) e
