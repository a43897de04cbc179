-- What a dirty page's log is at its writer: what a submitted write wants, kept from the acceptance on.
use Rattle.st_lemmas.proofs.Words
use Words.{◌≡◌, ℕ, ◌+◌, ◌&&◌, List, [], ◌∷◌, ◌++◌, refl, ap, ◌∙◌, arith, if◌then◌else◌, length, map, suc, ClientId, FileId, PageNo, LogEntry, LogOwner}
use Words.Keys.{same_file, same_page}
use Words.FlatLog as log
use Words.Events.{is_entry_of, latest_from, latest_at}
use Rattle.st_laws_pages.specs.Disks.Folds.{of_entry}

pub latest_last : (n before : ℕ) (c : ClientId) (f : FileId) (p : PageNo) (es : List LogEntry) (e : LogEntry) → latest_from n before c f p (es ++ e ∷ []) ≡ latest_at c f p (n + length es) (latest_from n before c f p es) e
unfolding latest_from
latest_last n before c f p [] e = ap (λ m. latest_at c f p m before e) (let z : n ≡ n + 0 = omega arith in z)
latest_last n before c f p (x ∷ es) e =
    latest_last (n + 1) (latest_at c f p n before x) c f p es e
    ∙ ap (λ m. latest_at c f p m (latest_from (n + 1) (latest_at c f p n before x) c f p es) e) (let z : (n + 1) + length es ≡ n + suc (length es) = omega arith in z)

pub latest_same : (n before : ℕ) (c : ClientId) (f : FileId) (p : PageNo) (es fs : List LogEntry) → map of_entry fs ≡ map of_entry es → latest_from n before c f p fs ≡ latest_from n before c f p es
unfolding latest_from latest_at
latest_same n before c f p [] [] e = refl
latest_same n before c f p [] (y ∷ ys) e = cc
latest_same n before c f p (x ∷ xs) [] e = cc
latest_same n before c f p (x ∷ xs) (y ∷ ys) e =
    ap (λ (o : LogOwner). latest_from (n + 1) (if log.is_of_client c o && (same_file o.file f && same_page o.page p) then n else before) c f p ys) (head e)
    ∙ latest_same (n + 1) (if is_entry_of c f p x then n else before) c f p xs ys (tail e)
  where
    head : y.of ∷ map of_entry ys ≡ x.of ∷ map of_entry xs → y.of ≡ x.of
    head q = cc

    tail : y.of ∷ map of_entry ys ≡ x.of ∷ map of_entry xs → map of_entry ys ≡ map of_entry xs
    tail q = cc
