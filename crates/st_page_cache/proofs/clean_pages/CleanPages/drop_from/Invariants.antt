use Rattle.st_lemmas.proofs.Words
use Words.{◌≡◌, length, filter, not}
use Words.ClientPages.{is_clean_behind}
use Rattle.st_page_cache.proofs.clean_pages.CleanPages.drop_from.Given as goal

abbrev pub invariant-loop-at : goal.invariant-loop-at
invariant-loop-at l = filter (λ c. not (is_clean_behind l.ino l.page c)) l.self ≡ filter (λ c. not (is_clean_behind l.ino l.page c)) l.initial.self

abbrev pub decreases-loop-at : goal.decreases-loop-at
decreases-loop-at l = length l.self
