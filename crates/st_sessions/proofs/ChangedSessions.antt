-- A client's one session is changed in its place, or there is none to change.
use Rattle.std.proofs.Common.{◌≡◌, ℕ, Bool, true, false, cond, List, Some, None, set, get_or, refl, sym, ◌∙◌}
use Rattle.std.specs.Prelude.{map, slice_get}
use Rattle.std.specs.List.{position}
use Rattle.std.proofs.lemmas.List.Quantifiers.{position-Some}
use Rattle.std.proofs.lemmas.Option.{slice_get-get_or}
use Rattle.st_base.specs.declared.ids.ClientId.{ClientId}
use Rattle.st_messages.specs.declared.message.Body.{Body}
use Rattle.st_rules.specs.declared.sessions.Session.{Session}
use Rattle.st_rules.specs.declared.sessions.SessionState.TheVariants.{Ended}
use Rattle.st_rules.specs.ServerInvariants.{are_once, same_session}
use Rattle.st_rules.specs.Sessions.{is_session_of, end_of, ended, keep_of, keep_reply}
use Rattle.st_sessions.proofs.Once.{once_map}
use Rattle.st_sessions.proofs.Changes.{changed, change_nowhere, change_there}

-- the number of a session's client
abbrev client_of : Session → ℕ
client_of s = s.client.0

-- a session of this client
abbrev pub some_session : ClientId → Session
some_session c = record { client = c; life = record { 0 = 0 }; state = Ended }

-- the one session of the client is changed
in_place : (c : ClientId) (f : Session → Session) (xs new : List Session) (i : ℕ) →
    are_once same_session xs ≡ true → Some i ≡ position (is_session_of c) xs → ((s : Session) → slice_get xs i ≡ Some s → new ≡ set xs i (f s)) → new ≡ map (changed client_of c.0 f) xs
in_place c f xs new i h e p =
    let there : slice_get xs i ≡ Some (get_or xs i (some_session c)) =
    slice_get-get_or xs i (some_session c) (position-Some (is_session_of c) xs i (some_session c) (sym e)).0 in
    p (get_or xs i (some_session c)) there ∙ sym (change_there client_of c.0 f xs i (get_or xs i (some_session c)) h e there)

pub ends : (c : ClientId) (xs new : List Session) (i : ℕ) → are_once same_session xs ≡ true → Some i ≡ position (is_session_of c) xs →
    ((s : Session) → slice_get xs i ≡ Some s → new ≡ set xs i (record s { state = Ended })) → new ≡ map (end_of c) xs
unfolding ended
ends c xs new i h e p = in_place c ended xs new i h e p

pub ends_nothing : (c : ClientId) (xs : List Session) → None ≡ position (is_session_of c) xs → map (end_of c) xs ≡ xs
ends_nothing c xs e = change_nowhere client_of c.0 ended xs e

end_client : (b : Bool) (s : Session) → (cond b (ended s) s).client.0 ≡ s.client.0
unfolding ended
end_client true s = refl
end_client false s = refl

pub end_once : (c : ClientId) (xs : List Session) → are_once same_session (map (end_of c) xs) ≡ are_once same_session xs
end_once c xs = once_map client_of (end_of c) (λ s. end_client (is_session_of c s) s) xs

pub keeps : (c : ClientId) (number : ℕ) (reply : Body) (xs new : List Session) (i : ℕ) → are_once same_session xs ≡ true →
    Some i ≡ position (is_session_of c) xs → ((s : Session) → slice_get xs i ≡ Some s → new ≡ set xs i (keep_reply number reply s)) →
    new ≡ map (keep_of c number reply) xs
keeps c number reply xs new i h e p = in_place c (keep_reply number reply) xs new i h e p

pub keeps_nothing : (c : ClientId) (number : ℕ) (reply : Body) (xs : List Session) →
    None ≡ position (is_session_of c) xs → map (keep_of c number reply) xs ≡ xs
keeps_nothing c number reply xs e = change_nowhere client_of c.0 (keep_reply number reply) xs e

keep_client : (number : ℕ) (reply : Body) (b : Bool) (s : Session) → (cond b (keep_reply number reply s) s).client.0 ≡ s.client.0
unfolding keep_reply
keep_client number reply true s = refl
keep_client number reply false s = refl

pub keep_once : (c : ClientId) (number : ℕ) (reply : Body) (xs : List Session) →
    are_once same_session (map (keep_of c number reply) xs) ≡ are_once same_session xs
keep_once c number reply xs = once_map client_of (keep_of c number reply) (λ s. keep_client number reply (is_session_of c s) s) xs
