-- A client that is crashed has nothing of any server.
use Rattle.st_lemmas.proofs.Words
use Words.{◌≡◌, ℕ, false, List, [], ◌∷◌, refl, Option, Some, None}
use Words.{find, Life, ServerId}
use Words.Tables.{cond_either}
use Words.Client.{association_of}
use Words.ClientState.{Association, is_at}
use Rattle.st_client_association.specs.AwaitedGrants.{is_awaited_by}
use Rattle.st_client.specs.Counts.{counts_at, session_at}
use Rattle.st_client.specs.Nodes.{crashed_at}

pub nothing_counted : (server : ServerId) (ss : List ServerId) (ls : List Life) → counts_at None 0 ≡ counts_at (find (is_at server) (crashed_at ss ls)) 0
nothing_counted server [] ls = refl
nothing_counted server (s ∷ ss) [] = refl
nothing_counted server (s ∷ ss) (l ∷ ls) =
    cond_either (λ (o : Option Association). counts_at None 0 ≡ counts_at o 0) (is_at server (association_of l s)) (Some (association_of l s)) (find (is_at server) (crashed_at ss ls)) (λ e. refl) (λ e. nothing_counted server ss ls)

pub nothing_awaited : (server : ServerId) (ino : ℕ) (ss : List ServerId) (ls : List Life) → false ≡ is_awaited_by [] server ino (session_at (find (is_at server) (crashed_at ss ls)))
nothing_awaited server ino [] ls = refl
nothing_awaited server ino (s ∷ ss) [] = refl
nothing_awaited server ino (s ∷ ss) (l ∷ ls) =
    cond_either (λ (o : Option Association). false ≡ is_awaited_by [] server ino (session_at o)) (is_at server (association_of l s)) (Some (association_of l s)) (find (is_at server) (crashed_at ss ls)) (λ e. refl) (λ e. nothing_awaited server ino ss ls)
