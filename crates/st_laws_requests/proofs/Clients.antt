-- A session stays its client's when it is ended and when a reply is kept: both change only its state.
use Rattle.st_lemmas.proofs.Words
use Words.{◌≡◌, ℕ, Bool, true, false, refl, if◌then◌else◌, ClientId, Body, Session}
use Words.Sessions as sessions

pub keep_client : (c : ClientId) (number : ℕ) (b : Body) (x : Session) → (sessions.keep_of c number b x).client ≡ x.client
unfolding sessions.keep_reply
keep_client c number b x = go (sessions.is_session_of c x)
  where
    go : (z : Bool) → (if z then sessions.keep_reply number b x else x).client ≡ x.client
    go true = refl
    go false = refl
