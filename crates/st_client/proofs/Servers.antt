-- A step keeps the client, its settings and the order of its servers.
use Rattle.st_lemmas.proofs.Words
use Words.{◌≡◌, ℕ, Bool, true, false, List, [], ◌∷◌, ◌++◌, map, refl, sym, ap, ◌∙◌, ◌==◌, if◌then◌else◌, map-append, Stamp, ServerId, Ask, Body, Header}
use Words.{ClientInput}
use Words.inputs.{Tick, App, Control, Done}
use Words.Client as client
use Words.Client.{app, app_known, client_step, done, finish, is_configured, is_full, losses, lose, take_ask, take_input, work}
use Words.ClientPasses as passes
use Words.ClientReplies.{receive_at, receive, receive_here}
use Words.ClientState.{Association, ClientState, ClientTurn, Turn, at_each, at_these, client_turn, enter, is_at, leave, only_at, server_of, with_associations}
use Rattle.std.proofs.Common.{append-nil}
use Rattle.std.proofs.lemmas.List.{append_assoc}
use Rattle.st_client.proofs.Advancing.{either, stays}
use Rattle.st_client.proofs.ReceiveGrows.{receive_grows}
use Rattle.st_client.proofs.InputsGrow.{finish_grows, lose_grows, take_ask_grows}
use Rattle.st_client.proofs.PassesGrow.{passes_grow}
use Rattle.st_client.specs.Machines.{Advances}
use Rattle.st_client.specs.Nodes.{IsKept, server_at}

module _ (rule : Turn → Turn) (grows : (t : Turn) → Advances t (rule t)) where
  these_keep : (xs : List Association) (t : ClientTurn) →
      (map server_at (at_these rule xs t).state.associations ≡ map server_at t.state.associations ++ map server_at xs)
      × ((at_these rule xs t).state.id ≡ t.state.id) × ((at_these rule xs t).state.config ≡ t.state.config)
  unfolding at_these
  these_keep [] t = (sym (append-nil (map server_at t.state.associations)), refl, refl)
  these_keep (a ∷ xs) t =
      let r = rule (enter t a) in
      let i = these_keep xs (leave t r) in
      let same : r.here.server ≡ a.server = (grows (enter t a)).2 in (
        i.0 ∙ ap (λ ys. ys ++ map server_at xs) (map-append server_at t.state.associations (r.here ∷ []) ∙ ap (λ s. map server_at t.state.associations ++ s ∷ []) same)
            ∙ append_assoc (map server_at t.state.associations) (a.server ∷ []) (map server_at xs),
        i.1,
        i.2,
      )

  each_keeps : (t : ClientTurn) → IsKept t.state (at_each rule t).state
  unfolding at_each
  each_keeps t = let i = these_keep t.state.associations (with_associations [] t) in record { id = i.1; config = i.2; servers = i.0 }

same : (c : ClientState) → IsKept c c
same c = record { id = refl; config = refl; servers = refl }

after : (a b c : ClientState) → IsKept a b → IsKept b c → IsKept a c
after a b c i j = record { id = j.id ∙ i.id; config = j.config ∙ i.config; servers = j.servers ∙ i.servers }

one_of : (b : Bool) (x y : ClientTurn) (c : ClientState) → IsKept c x.state → IsKept c y.state → IsKept c (if b then x else y).state
one_of true x y c i j = i
one_of false x y c i j = j

only_grows : (s : ServerId) (op : ℕ) (ask : Ask) (t : Turn) → Advances t (only_at s (take_ask op ask) t)
unfolding only_at
only_grows s op ask t = either (is_at s t.here) _ _ t (take_ask_grows op ask t) (stays t)

app_keeps : (t : ClientTurn) (op : ℕ) (ask : Ask) → IsKept t.state (app t op ask).state
unfolding app app_known
app_keeps t op ask =
    one_of (is_full t.state) _ _ t.state (same t.state)
    (one_of (is_configured t.state (server_of ask)) _ _ t.state (each_keeps (only_at (server_of ask) (take_ask op ask)) (only_grows (server_of ask) op ask) t) (same t.state))

received_keeps : (t : ClientTurn) (now : Stamp) (h : Header) (b : Body) → IsKept t.state (receive t now h b).state
unfolding receive receive_here
received_keeps t now h b = one_of (h.to == t.state.id.0) _ _ t.state (each_keeps (receive_at now h b) (receive_grows now h b) t) (same t.state)

input_keeps : (t : ClientTurn) (now : Stamp) (input : ClientInput) → IsKept t.state (take_input t now input).state
unfolding take_input done
input_keeps t now Tick = same t.state
input_keeps t now (App op ask) = app_keeps t op ask
input_keeps t now (Control m) = received_keeps t now m.header m.body
input_keeps t now (Done number result) = each_keeps (finish number result) (finish_grows number result) t

pub step_keeps : (c : ClientState) (now : Stamp) (input : ClientInput) → IsKept c (client_step c now input).state
unfolding client_step work losses
step_keeps c now input =
    let a = at_each (lose now) (client_turn c []) in
    let b = take_input a now input in
    after c a.state (client_step c now input).state (each_keeps (lose now) (lose_grows now) (client_turn c []))
    (after a.state b.state (client_step c now input).state (input_keeps a now input)
    (each_keeps (passes.passes now (client.is_tick input)) (passes_grow now (client.is_tick input)) b))
