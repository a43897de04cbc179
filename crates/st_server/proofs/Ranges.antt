-- The rows of a range of pages, one page after another.
use Rattle.st_lemmas.proofs.Words
use Words.{◌≡◌, ℕ, suc, ◌+◌, ◌-◌, ◌<◌, ◌≤◌, List, [], ◌++◌, Option, Some, None, refl, sym, ap, subst, ◌∙◌, append_assoc, arith, filter_map, map, option_map}
use Words.{cons_option, append-nil, and_parts, eqb-true, FileId, PageNo, ExtentRow, Extent}
use Words.Extents.{Extents, extent_of, extent_row, extent_row_at, extent_rows, is_extent_of, map_page, numbers, place_and_birth}
use Words.Keys.{page_no, same_file, same_page}
use Words.Tables.{found_at}
use Rattle.std.specs.Option.{option_to_list}
use Rattle.st_server.specs.RefusalReplies.{row_told}

cons_front : {A : Type 0} (o : Option A) (xs : List A) → cons_option o xs ≡ option_to_list o ++ xs
cons_front None xs = refl
cons_front (Some x) xs = refl

step : (x : Extents) (f : FileId) (n k : ℕ) → extent_rows x f (page_no n) (suc k) ≡ option_to_list (extent_row_at x f (page_no n)) ++ extent_rows x f (page_no (n + 1)) k
unfolding extent_rows numbers
step x f n k = cons_front (extent_row_at x f (page_no n)) (filter_map (extent_row_at x f) (map page_no (numbers (n + 1) k)))

extent_rows_go_on : (x : Extents) (f : FileId) (n m k : ℕ) (old new all : List ExtentRow) → m ≡ n + 1 →
    new ≡ old ++ option_to_list (extent_row_at x f (page_no n)) → old ++ extent_rows x f (page_no n) (suc k) ≡ all →
    new ++ extent_rows x f (page_no m) k ≡ all
extent_rows_go_on x f n m k old new all e push before =
    (λ i. push i ++ extent_rows x f (page_no (e i)) k)
    ∙ append_assoc old (option_to_list (extent_row_at x f (page_no n))) (extent_rows x f (page_no (n + 1)) k)
    ∙ ap (λ (r : List ExtentRow). old ++ r) (sym (step x f n k))
    ∙ before

-- one page more
pub rows_more : (x : Extents) (f : FileId) (p place count : ℕ) (old new all : List ExtentRow) → place < count →
    new ≡ old ++ option_to_list (extent_row_at x f (page_no (p + place))) → old ++ extent_rows x f (page_no (p + place)) (count - place) ≡ all →
    new ++ extent_rows x f (page_no (p + (place + 1))) (count - (place + 1)) ≡ all
rows_more x f p place count old new all below push before =
    let k : count - place ≡ suc (count - (place + 1)) = omega arith in
    extent_rows_go_on x f (p + place) (p + (place + 1)) (count - (place + 1)) old new all (omega arith) push
    (subst (λ (n : ℕ). old ++ extent_rows x f (page_no (p + place)) n ≡ all) k before)

-- no page is left
pub rows_end : (x : Extents) (f : FileId) (n : ℕ) → extent_rows x f (page_no n) 0 ≡ []
unfolding extent_rows numbers
rows_end x f n = refl

all_of : (x : Extents) (f : FileId) (n k : ℕ) (rows all : List ExtentRow) → k ≡ 0 → rows ++ extent_rows x f (page_no n) k ≡ all → rows ≡ all
all_of x f n k rows all e h =
    sym (append-nil rows) ∙ (λ i. rows ++ sym (rows_end x f n) i) ∙ (λ i. rows ++ extent_rows x f (page_no n) (sym e i)) ∙ h

-- all rows are there
pub rows_all : (x : Extents) (f : FileId) (p place count : ℕ) (rows all : List ExtentRow) → count ≤ place →
    rows ++ extent_rows x f (page_no (p + place)) (count - place) ≡ all → rows ≡ all
rows_all x f p place count rows all b h = all_of x f (p + place) (count - place) rows all (omega (arith, b)) h

told_of : (p : PageNo) (o : Option Extent) → ((e : Extent) → o ≡ Some e → e.page ≡ p) → row_told p (option_map place_and_birth o) ≡ option_map extent_row o
told_of p None h = refl
told_of p (Some e) h = λ i. Some (record { page = sym (h e refl) i; at = e.at; birth = e.birth })

-- what is reported about a page is its block and birth
pub told_row : (x : Extents) (f : FileId) (p : PageNo) → row_told p (map_page x f p) ≡ extent_row_at x f p
told_row x f p =
    told_of p (extent_of x f p)
    (λ e q. let found = found_at (is_extent_of f p) x.rows e q in
    let same = eqb-true e.page.0 p.0 (and_parts (same_file e.file f) (same_page e.page p) found.0).1 in
    λ i. record { 0 = same i })
