-- The invariant of a client holds after each of its steps, and all that it sends has every field in its range.
use Rattle.st_lemmas.proofs.Words
use Words.{◌≡◌, ℕ, suc, zero, ◌+◌, ◌^◌, ◌<◌, ◌≤◌, Bool, true, ◌==◌, List, [], ◌∷◌, ◌++◌, refl, arith, ◌&&◌, map, nat_lt, Option, Some, None, ⊤, list_all}
use Words.{ltb-true, Config, ClientId, Stamp, AppAnswer, ClientInput}
use Words.Tables.{and_true}
use Words.answers
use Words.outputs
use Words.Kinds.{between}
use Words.inputs.{Tick, App, Control, Done}
use Words.Client.{answered_at_once, app, app_known, client_step, crash, crashed_association, done, finish, fresh_association, fresh_client, is_configured}
use Words.Client.{is_full, is_tick, lose, losses, start, started_association, take_ask, take_input, work}
use Words.ClientPasses as passes
use Words.ClientReplies.{receive_at, receive, receive_here}
use Words.ClientState.{Association, ClientSession, ClientState, ClientTurn, Turn, at_each, at_these, client_turn, enter, leave, only_at, server_of}
use Words.ClientState.{with_associations}
use Words.Extents.{numbers}
use Words.Tests.{all_last}
use Words.Truth.{if_either}
use Rattle.st_client_association.specs.Associations.{has_room_at, may_ask}
use Rattle.st_client.proofs.SoundReceives.{receive_fit}
use Rattle.st_client.proofs.SoundInputs.{asked_fit, finish_fit, lose_fit}
use Rattle.st_client.proofs.SoundMessages.{Fit, FitAt, FitIn, between_is, fits_parts}
use Rattle.st_client.proofs.SoundPasses.{greeting_fit, operations_fit, reductions_fit, writes_fit}
use Rattle.st_client.proofs.SoundRequests.{requests_fit}
use Rattle.st_client.specs.Inputs.{comes_fit, is_sent}
use Rattle.st_client.specs.Room.{HasRoom}
use Rattle.st_client.specs.Invariants.{AreSound, IsSound, IsSoundIn, is_sound_operation}

-- A client within a step.

abbrev FitAll : ℕ → List Association → Type 0
FitAll most [] = ⊤
FitAll most (a ∷ more) = FitAt most a × FitAll most more

abbrev FitClient : ℕ → ClientTurn → Type 0
FitClient most t =
    record {
      id : between 1 16 t.state.id.0 ≡ true;
      associations : FitAll most t.state.associations;
      operations : list_all is_sound_operation t.state.operations ≡ true;
      out : list_all is_sent t.out ≡ true;
    }

fit_last : (most : ℕ) (xs : List Association) (a : Association) → FitAll most xs → FitAt most a → FitAll most (xs ++ a ∷ [])
fit_last most [] a h e = (e, tt)
fit_last most (x ∷ xs) a h e = (h.0, fit_last most xs a h.1 e)

module _ (m n : ℕ) (f : Turn → Turn) (one : (t : Turn) → Fit m t → Fit n (f t)) where
  these_fit : (xs : List Association) (t : ClientTurn) → FitAll m xs → FitClient n t → FitClient n (at_these f xs t)
  unfolding at_these
  these_fit [] t a h = h
  these_fit (x ∷ xs) t a h =
      let u = one (enter t x) (record { id = h.id; here = a.0; operations = h.operations; out = h.out }) in
      these_fit xs (leave t (f (enter t x))) a.1
      (record { id = h.id; associations = fit_last n t.state.associations (f (enter t x)).here h.associations u.here; operations = u.operations; out = u.out })

  each_fit : (t : ClientTurn) → FitClient m t → FitClient n (at_each f t)
  unfolding at_each
  each_fit t h = these_fit t.state.associations (with_associations [] t) h.associations (record { id = h.id; associations = tt; operations = h.operations; out = h.out })

-- The rule for the input.

once_fit : (most : ℕ) (t : ClientTurn) (op : ℕ) (a : AppAnswer) → FitClient most t → FitClient most (answered_at_once t op a)
once_fit most t op a h = record { id = h.id; associations = h.associations; operations = h.operations; out = all_last is_sent t.out (outputs.Answer op a) h.out refl }

input_fit : (most : ℕ) → 1 ≤ most → most < 2 ^ 64 → (t : ClientTurn) (now : Stamp) (input : ClientInput) → comes_fit input ≡ true → FitClient most t → FitClient most (take_input t now input)
unfolding take_input app app_known done receive receive_here
input_fit most low high t now Tick e h = h
input_fit most low high t now (App op ask) e h =
    if_either (FitClient most) (is_full t.state) (answered_at_once t op answers.OpsFull) (app_known t op ask) (once_fit most t op answers.OpsFull h)
    (if_either (FitClient most) (is_configured t.state (server_of ask)) (at_each (only_at (server_of ask) (take_ask op ask)) t)
    (answered_at_once t op answers.NoFile)
    (each_fit most most (only_at (server_of ask) (take_ask op ask)) (asked_fit most (server_of ask) op ask e) t h) (once_fit most t op answers.NoFile h))
input_fit most low high t now (Control m) e h =
    let p = fits_parts m.header m.body e in
    if_either (FitClient most) (m.header.to == t.state.id.0) (at_each (receive_at now m.header m.body) t) t
    (each_fit most most (receive_at now m.header m.body) (receive_fit most low high now m.header m.body p.0 p.1) t h) h
input_fit most low high t now (Done number result) e h = each_fit most most (finish number result) (finish_fit most number result) t h

-- The whole step.

passes_fit : (most : ℕ) → most + 1 < 2 ^ 64 → (now : Stamp) → now.0 < 2 ^ 64 → (tick : Bool) (t : Turn) → Fit most t → Fit (most + 1) (passes.passes now tick t)
unfolding passes.passes
passes_fit most high now time tick t h =
    requests_fit most high now time tick _
    (greeting_fit most (omega (arith, high)) now time tick _ (writes_fit most now tick _ (reductions_fit most _ (operations_fit most now t h))))

step_fit : (most : ℕ) → 1 ≤ most → most + 1 + 1 < 2 ^ 64 → (c : ClientState) (now : Stamp) (input : ClientInput) → now.0 < 2 ^ 64 → comes_fit input ≡ true → FitClient most (client_turn c []) →
    FitClient (most + 1 + 1) (client_step c now input)
unfolding client_step work losses
step_fit most low high c now input time e h =
    let t = at_each (lose now) (client_turn c []) in
    let a = each_fit most (most + 1) (lose now) (lose_fit most now) (client_turn c []) h in
    let b = input_fit (most + 1) (omega (arith, low)) (omega (arith, high)) t now input e a in
    each_fit (most + 1) (most + 1 + 1) (passes.passes now (is_tick input)) (passes_fit (most + 1) high now time (is_tick input)) (take_input t now input) b

-- The invariant, with room for a step, and without.

fit_in : (o : Option ClientSession) → IsSoundIn o → may_ask o ≡ true → FitIn (2 ^ 62) o
fit_in None h r = tt
fit_in (Some s) h r = let k = ltb-true s.requests.next (2 ^ 62) r in record { sound = h; room = omega (arith, k) }

fit_all : (xs : List Association) → AreSound xs → list_all has_room_at xs ≡ true → FitAll (2 ^ 62) xs
fit_all [] h r = tt
fit_all (a ∷ xs) h r =
    let s = and_true (has_room_at a) (list_all has_room_at xs) r in
    let p = and_true (nat_lt a.store.pages.next_version (2 ^ 62)) (nat_lt a.life.0 (2 ^ 62) && may_ask a.session) s.0 in
    let q = and_true (nat_lt a.life.0 (2 ^ 62)) (may_ask a.session) p.1 in
    let l = ltb-true a.life.0 (2 ^ 62) q.0 in
    (record { server = h.0.server; first = h.0.life; life = omega (arith, l); session = fit_in a.session h.0.session q.1 }, fit_all xs h.1 s.1)

sound_in : (most : ℕ) (o : Option ClientSession) → FitIn most o → IsSoundIn o
sound_in most None h = tt
sound_in most (Some s) h = h.sound

all_sound : (most : ℕ) (xs : List Association) → FitAll most xs → AreSound xs
all_sound most [] h = tt
all_sound most (a ∷ xs) h = (record { server = h.0.server; life = h.0.first; session = sound_in most a.session h.0.session }, all_sound most xs h.1)

step_from : (c : ClientState) (now : Stamp) (input : ClientInput) → IsSound c → HasRoom c → now.0 ≤ 2 ^ 62 → comes_fit input ≡ true → FitClient (2 ^ 62 + 1 + 1) (client_step c now input)
step_from c now input h r time e =
    let l = time in
    step_fit (2 ^ 62) (omega arith) (omega arith) c now input (omega (arith, l)) e
    (record { id = h.client; associations = fit_all c.associations h.associations r.each; operations = h.operations; out = refl })

-- The invariant of a client holds after a step.
pub step_sound : (c : ClientState) (now : Stamp) (input : ClientInput) → IsSound c → HasRoom c → now.0 ≤ 2 ^ 62 → comes_fit input ≡ true → IsSound (client_step c now input).state
step_sound c now input h r time e =
    let s = step_from c now input h r time e in
    record { client = s.id; associations = all_sound (2 ^ 62 + 1 + 1) (client_step c now input).state.associations s.associations; operations = s.operations }

-- All that a step sends has every field in its range.
pub step_sends : (c : ClientState) (now : Stamp) (input : ClientInput) → IsSound c → HasRoom c → now.0 ≤ 2 ^ 62 → comes_fit input ≡ true → list_all is_sent (client_step c now input).out ≡ true
step_sends c now input h r time e = (step_from c now input h r time e).out

-- It holds of a fresh client, and after a crash and a start.

fresh_all : (n first : ℕ) → 1 ≤ first → first + n ≤ 5 → AreSound (map fresh_association (numbers first n))
unfolding numbers
fresh_all zero first l m = tt
fresh_all (suc n) first l m =
    (record { server = between_is 1 4 first l (omega (arith, m)); life = omega arith; session = tt }, fresh_all n (first + 1) (omega (arith, l)) (omega (arith, m)))

pub fresh_sound : (id : ClientId) (k : Config) (servers : ℕ) → 1 ≤ id.0 → id.0 ≤ 16 → servers ≤ 4 → IsSound (fresh_client id k servers)
unfolding fresh_client
fresh_sound id k servers l m s = record { client = between_is 1 16 id.0 l m; associations = fresh_all servers 1 (omega arith) (omega (arith, s)); operations = refl }

crash_all : (xs : List Association) → AreSound xs → AreSound (map crashed_association xs)
crash_all [] h = tt
crash_all (a ∷ xs) h = (record { server = h.0.server; life = h.0.life; session = tt }, crash_all xs h.1)

pub crash_sound : (c : ClientState) → IsSound c → IsSound (crash c)
unfolding crash
crash_sound c h = record { client = h.client; associations = crash_all c.associations h.associations; operations = refl }

start_all : (xs : List Association) → AreSound xs → AreSound (map started_association xs)
start_all [] h = tt
start_all (a ∷ xs) h = let l = h.0.life in (record { server = h.0.server; life = omega (arith, l); session = tt }, start_all xs h.1)

pub start_sound : (c : ClientState) → IsSound c → IsSound (start c)
unfolding start
start_sound c h = record { client = h.client; associations = start_all c.associations h.associations; operations = refl }
