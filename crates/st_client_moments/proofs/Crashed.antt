-- A tick does nothing at a client that is crashed.
use Rattle.st_lemmas.proofs.Words
use Words.{◌≡◌, [], ◌∷◌, List, refl, sym, ap, ◌∙◌, map, flat_map, None}
use Words.Client.{crash, crashed_association}
use Rattle.st_base.specs.declared.ids.Stamp.{Stamp}
use Rattle.st_client_due.specs.Spans.{first_of}
use Rattle.st_client_due.specs.ClientDue.{busy_during, client_due, during_here}
use Rattle.st_due.specs.Moments.{readable_by}
use Rattle.st_rules.specs.ClientState.{Association, ClientState}

-- nothing waits at an association that is crashed
rests_at : (s : ClientState) (xs : List Association) → flat_map (during_here (record s { operations = [] })) (map crashed_association xs) ≡ []
rests_at s [] = refl
rests_at s (a ∷ xs) = rests_at s xs

crashed_rests_at : (s : ClientState) → busy_during (crash s) ≡ []
unfolding crash
crashed_rests_at s = rests_at (record s { associations = map crashed_association s.associations; next_command = 1 }) s.associations

-- nothing waits at a client that is crashed
pub crashed_rests : (s : ClientState) (from : Stamp) → s ≡ crash s → None ≡ readable_by (client_due s from)
crashed_rests s from e = ap (λ xs. readable_by (first_of from.0 xs)) (sym (crashed_rests_at s) ∙ ap busy_during (sym e))
