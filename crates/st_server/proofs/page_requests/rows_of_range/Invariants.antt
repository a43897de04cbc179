use Rattle.st_lemmas.proofs.Words
use Words.{◌≡◌, ◌+◌, ◌-◌, ◌++◌}
use Words.Extents.{extent_rows}
use Words.Keys.{page_no}
use Rattle.st_server.proofs.page_requests.rows_of_range.Given as goal

-- the rows so far, and those of the pages that are left
abbrev pub invariant-loop-place : goal.invariant-loop-place
invariant-loop-place l = l.rows.items ++ extent_rows l.mapped l.file (page_no (l.page.0 + l.place)) (l.count - l.place) ≡ extent_rows l.mapped l.file l.page l.count
