-- A whole step of a client raises a counter only with an output that is counted for it.
use Rattle.st_lemmas.proofs.Words
use Words.{◌⊎◌, ℕ, ◌+◌, ◌≤◌, List, [], ◌∷◌, ◌++◌, refl, sym, subst, inl, inr, arith, Stamp, AppAnswer, Output, ClientInput}
use Words.answers
use Words.outputs
use Words.Client as cl
use Words.ClientPasses as cp
use Words.ClientReplies as cr
use Words.ClientState.{Association, ClientState, ClientTurn, Turn, at_each, at_these, client_turn, enter, leave, only_at, server_of, with_associations}
use Words.Lists.{Has}
use Words.Tables.{has_append}
use Rattle.st_laws_steps.specs.Client.Inputs as taking
use Rattle.st_laws_steps.specs.Client.Inputs.{Taken}
use Rattle.st_laws_steps.proofs.Client.Taking.{taken}
use Rattle.st_laws_bounds.specs.Counters.Counts.{AsksLow}
use Rattle.st_laws_bounds.proofs.Counters.Weights.{Low, Rises, asks_more, of_change, of_command, of_loss, of_message, rises_more, weigh}
use Rattle.st_laws_bounds.proofs.Counters.Passing.{K, counters_in_passes}
use Rattle.st_laws_bounds.proofs.Counters.Receiving.{counters_in_finish, counters_in_receive, counters_in_lose, counters_in_take}

-- an association's counters are no further than what was said, from bounds on
pub record LowAt (b c d : ℕ) (out : List Output) (a : Association) : Type 0 where
  pub versions : a.store.pages.next_version ≤ 1 + b + weigh of_change out
  pub lives : a.life.0 ≤ 1 + c + weigh of_loss out
  pub requests : AsksLow (1 + d + weigh of_message out) a.session

abbrev pub EachLow : ℕ → ℕ → ℕ → List Output → List Association → Type 0
EachLow b c d out xs = (a : Association) → Has a xs → LowAt b c d out a

-- a client's are
pub record AllLow (a b c d : ℕ) (t : ClientTurn) : Type 0 where
  pub commands : t.state.next_command ≤ 1 + a + weigh of_command t.out
  pub each : EachLow b c d t.out t.state.associations

low_at_more : (b c d : ℕ) (os ps : List Output) (a : Association) → Rises os ps → LowAt b c d os a → LowAt b c d ps a
low_at_more b c d os ps a r h =
    let x = h.versions in let y = h.lives in let e = r.changes in let f = r.losses in let m = r.messages in
    record {
      versions = omega (arith, x, e);
      lives = omega (arith, y, f);
      requests =
          asks_more (1 + d + weigh of_message os) (1 + d + weigh of_message ps) a.session (omega (arith, m)) h.requests;
    }

these_low : (rule : Turn → Turn) → ((t : Turn) → K t (rule t)) → (a b c d : ℕ) (al : List Association) (t : ClientTurn) → AllLow a b c d t →
    EachLow b c d t.out al → AllLow a b c d (at_these rule al t)
unfolding at_these
these_low rule k a b c d [] t h g = h
these_low rule k a b c d (x ∷ al) t h g =
    these_low rule k a b c d al (leave t u) (record { commands = low.commands; each = λ y i. one y (has_append t.state.associations (u.here ∷ []) y i) })
    (λ y i. low_at_more b c d t.out u.out y kept.rises (g y (inr i)))
  where
    u : Turn
    u = rule (enter t x)

    kept : K (enter t x) u
    kept = k (enter t x)

    own : LowAt b c d t.out x
    own = g x (inl refl)

    low : Low a b c d u.next_command u.here.store.pages.next_version u.here.life.0 u.here.session u.out
    low = kept.low a b c d (record { commands = h.commands; versions = own.versions; lives = own.lives; requests = own.requests })

    one : (y : Association) → Has y t.state.associations ⊎ Has y (u.here ∷ []) → LowAt b c d u.out y
    one y (inl i) = low_at_more b c d t.out u.out y kept.rises (h.each y i)
    one y (inr (inl e)) = subst (LowAt b c d u.out) (sym e) (record { versions = low.versions; lives = low.lives; requests = low.requests })
    one y (inr (inr i)) = absurd i

each_low : (rule : Turn → Turn) → ((t : Turn) → K t (rule t)) → (a b c d : ℕ) (t : ClientTurn) → AllLow a b c d t → AllLow a b c d (at_each rule t)
unfolding at_each
each_low rule k a b c d t h = these_low rule k a b c d t.state.associations (with_associations [] t) (record { commands = h.commands; each = λ y i. absurd i })
    h.each

said_low : (a b c d : ℕ) (t : ClientTurn) (op : ℕ) (answer : AppAnswer) → AllLow a b c d t → AllLow a b c d (cl.answered_at_once t op answer)
said_low a b c d t op answer h =
    let r = rises_more t.out (outputs.Answer op answer ∷ []) in
    let x = h.commands in let e = r.commands in
    record { commands = omega (arith, x, e); each = λ y i. low_at_more b c d t.out (t.out ++ outputs.Answer op answer ∷ []) y r (h.each y i) }

input_low : (a b c d : ℕ) (now : Stamp) (t u : ClientTurn) (input : ClientInput) → Taken t now input u → AllLow a b c d t → AllLow a b c d u
input_low a b c d now t _ _ (taking.Nothing i) h = h
input_low a b c d now t _ _ (taking.Full op ask e) h = said_low a b c d t op answers.OpsFull h
input_low a b c d now t _ _ (taking.Unknown op ask e f) h = said_low a b c d t op answers.NoFile h
input_low a b c d now t _ _ (taking.Takes op ask e f) h =
    each_low (only_at (server_of ask) (cl.take_ask op ask)) (counters_in_take (server_of ask) op ask) a b c d t h
input_low a b c d now t _ _ (taking.Receives m e) h = each_low (cr.receive_at now m.header m.body) (counters_in_receive now m.header m.body) a b c d t h
input_low a b c d now t _ _ (taking.Finishes number result) h = each_low (cl.finish number result) (counters_in_finish number result) a b c d t h

-- the whole step
pub step_low : (a b c d : ℕ) (s : ClientState) (now : Stamp) (input : ClientInput) → AllLow a b c d (client_turn s []) →
    AllLow a b c d (cl.client_step s now input)
unfolding cl.client_step cl.work cl.losses
step_low a b c d s now input h =
    let t = cl.losses (client_turn s []) now in
    each_low (cp.passes now (cl.is_tick input)) (counters_in_passes now (cl.is_tick input)) a b c d (cl.take_input t now input)
    (input_low a b c d now t (cl.take_input t now input) input (taken t now input) (each_low (cl.lose now) (counters_in_lose now) a b c d (client_turn s []) h))
