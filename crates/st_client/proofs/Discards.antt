-- If a step of a client begins with the lease of a server over, nothing of the server is left but its next life, and nothing of it goes out.
use Rattle.st_lemmas.proofs.Words
use Words.{◌≡◌, Bool, true, false, not, ◌||◌, Some, ServerId, Stamp, ClientInput}
use Words.Tables.{each_passes, found_at}
use Words.Client.{association_with, client_step}
use Words.ClientState.{Association, ClientState, is_at}
use Rattle.st_client.proofs.Emptied.{step_emptied}
use Rattle.st_client.proofs.Unused.{step_unused}
use Rattle.st_client.specs.Losses.{Discards, IsOver, is_ended, is_over_at}

-- the lease of the association that is found is over
found_over : (v : ServerId) (c : ClientState) (now : Stamp) (a : Association) → IsOver v c now → association_with c v ≡ Some a → is_ended c.config now a.session ≡ true
found_over v c now a over e =
    let f = found_at (is_at v) c.associations a e in
    by (is_at v a) f.0 (each_passes (is_over_at v c.config now) c.associations over a f.1)
  where
    by : (b : Bool) → b ≡ true → (not b || is_ended c.config now a.session) ≡ true → is_ended c.config now a.session ≡ true
    by true q h = h
    by false q h = cc

-- What a step discards, if it begins with the lease of a server over.
pub step_discards : (v : ServerId) (c : ClientState) (now : Stamp) (input : ClientInput) → IsOver v c now → Discards v c input (client_step c now input).state (client_step c now input).out
step_discards v c now input over =
    record { emptied = λ a e. step_emptied v c now input a e (found_over v c now a over e); unused = step_unused v c input now over }
