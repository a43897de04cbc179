-- Outstanding requests are the last ones: after a client's step, after each event, and in every run.
use Rattle.st_lemmas.proofs.Words
use Words.{◌≡◌, None, sym, subst}
use Words.ClientPages.{empty_store}
use Words.ClientState.{Association}
use Rattle.st_laws_pages.proofs.Lives.Associated as associated
use Rattle.st_laws_requests.specs.Replies.LastRequests.{AsksLast, RequestsAreLast}
use Rattle.st_laws_requests.proofs.Replies.Asking.{requests_kept_by_finish, requests_kept_by_receive, requests_kept_by_lose, requests_kept_by_passes, requests_kept_by_take}

-- an association without a session asks nothing
empty_last : (a : Association) → a.session ≡ None → a.store ≡ empty_store → AsksLast a.session
empty_last a e st = subst AsksLast (sym e) tt

pub requests_are_last : RequestsAreLast
requests_are_last = associated.have_after_in_every_run (λ a. AsksLast a.session) empty_last requests_kept_by_take requests_kept_by_receive
    requests_kept_by_finish
    requests_kept_by_lose requests_kept_by_passes
