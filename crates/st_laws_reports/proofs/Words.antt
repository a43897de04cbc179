-- What is owed, in the words of the promise, is what the rules of a client keep as lost.
use Rattle.st_lemmas.proofs.Words
use Words.{◌≡◌, ℕ, Bool, ◌&&◌, ◌==◌, List, [], ◌∷◌, ◌++◌, Option, Some, None, refl, ap, ◌∙◌, if◌then◌else◌, drop, filter, filter_map, find, map, nat_lt, not}
use Words.{take, IoKind, LostPage, PageCommand, DirtyPage}
use Words.io
use Words.ClientPages as pages
use Words.Keys as keys
use Rattle.st_promises.specs.Losses as owed

-- Finding by tests that agree.
find_same : {A : Type 0} (p q : A → Bool) → ((x : A) → p x ≡ q x) → (xs : List A) → find p xs ≡ find q xs
find_same p q same [] = refl
find_same {A} p q same (x ∷ xs) = ap (λ b. if b then Some x else find p xs) (same x) ∙ ap (λ (o : Option A). if q x then Some x else o) (find_same p q same xs)

-- Commands that write.
writes_is : (k : IoKind) → owed.is_to_write k ≡ pages.is_write k
writes_is io.Read = refl
writes_is (io.Write version) = refl

write_is : (ks : List PageCommand) (d : DirtyPage) → find (owed.writes_page d) ks ≡ pages.write_on ks d.ino d.page
write_is ks d = find_same (owed.writes_page d) (pages.is_write_of d.ino d.page) (λ k. ap (λ b. b && ((k.ino == d.ino) && (k.page.0 == d.page.0))) (writes_is k.kind)) ks

writer_is : (failed : Option ℕ) (k : Option PageCommand) → owed.writer failed k ≡ pages.lost_command failed k
writer_is None None = refl
writer_is None (Some k) = refl
writer_is (Some failed) k = refl

page_is : (ks : List PageCommand) (d : DirtyPage) → owed.owed_page ks d ≡ pages.lost_page ks d
page_is ks d =
    ap (λ n. record { ino = d.ino; page = d.page; command = n })
    (ap (owed.writer d.failed) (write_is ks d) ∙ writer_is d.failed (pages.write_on ks d.ino d.page))

-- What joins at a loss.
pub owing_all_is : (ks : List PageCommand) (ds : List DirtyPage) (rows : List LostPage) → owed.owing_all ks ds rows ≡ pages.with_lost_pages ks ds rows
unfolding owed.owing_all pages.with_lost_pages
owing_all_is ks [] rows = refl
owing_all_is ks (d ∷ ds) rows = ap (λ r. owed.owing_all ks ds (owed.owing r rows)) (page_is ks d) ∙ owing_all_is ks ds (pages.with_lost (pages.lost_page ks d) rows)

-- Numbers in rising order.
among_is : (k : ℕ) (ns : List ℕ) → owed.among k ns ≡ keys.with_key k ns
unfolding owed.among owed.joined keys.with_key keys.placed keys.past
among_is k [] = refl
among_is k (n ∷ ns) = ap (λ rest. if nat_lt k n then k ∷ (n ∷ ns) else (if k == n then n ∷ ns else n ∷ rest)) (among_is k ns)

in_order_is : (ns : List ℕ) → owed.in_order ns ≡ keys.rising ns
unfolding owed.in_order keys.rising
in_order_is [] = refl
in_order_is (k ∷ ns) = among_is k (owed.in_order ns) ∙ ap (keys.with_key k) (in_order_is ns)

-- The rows of a file, what is reported about them, and what is left.
rows_is : (rows : List LostPage) (ino : ℕ) → owed.rows_of_file rows ino ≡ pages.lost_on rows ino
unfolding owed.rows_of_file pages.lost_on
rows_is rows ino = ap (filter_map (pages.lost_at rows ino)) (in_order_is (map pages.page_of_lost (filter (pages.is_lost_on ino) rows)))

pub owed_of_file_is : (rows : List LostPage) (ino : ℕ) → owed.owed_of_file rows ino ≡ pages.told_rows rows ino
unfolding owed.owed_of_file pages.told_rows
owed_of_file_is rows ino = ap (λ (xs : List LostPage). map pages.lost_row (take 1024 xs)) (rows_is rows ino)

pub still_owed_is : (rows : List LostPage) (ino : ℕ) → owed.still_owed rows ino ≡ pages.untold rows ino
unfolding owed.still_owed pages.untold
still_owed_is rows ino = ap (λ (xs : List LostPage). filter (λ r. not (pages.is_lost_on ino r)) rows ++ drop 1024 xs) (rows_is rows ino)
