-- A client's step, at all its servers: what is known, and where its writes go.
use Rattle.st_lemmas.proofs.Words
use Words.{◌⊎◌, ℕ, Bool, true, false, List, [], ◌∷◌, Option, Some, None, refl, sym, subst, inl, inr, if◌then◌else◌, Stamp, AppAnswer, Output, ClientInput}
use Words.answers
use Words.outputs
use Words.inputs
use Words.Client as cl
use Words.ClientPasses as cp
use Words.ClientReplies as cr
use Words.ClientState.{Association, ClientSession, ClientState, ClientTurn, Turn, at_each, at_these, client_turn, enter, leave, only_at, server_of}
use Words.ClientState.{with_associations}
use Words.Lists.{Has}
use Words.Tables.{has_append}
use Rattle.st_laws_steps.specs.Client.Inputs as taking
use Rattle.st_laws_steps.specs.Client.Inputs.{Each, Taken}
use Rattle.st_laws_steps.proofs.Client.Taking.{each as each_keep, taken}
use Rattle.st_laws_reads.specs.AllClients.CutFiles.{Cleared}
use Rattle.st_laws_reads.proofs.AllClients.Clearing as clearing
use Rattle.st_laws_extents.specs.Known.Known.{Fact, Knows, OutputAs, OutputsAs, Tells}
use Rattle.st_laws_extents.proofs.Known.Receiving.{kept_by_receive}
use Rattle.st_laws_extents.proofs.Known.Knowing as walk

-- what is clear stays clear through losses
pub lost_clear : (s : ClientState) (now : Stamp) → Each Cleared s.associations → Each Cleared (cl.losses (client_turn s []) now).state.associations
unfolding cl.losses
lost_clear s now h = each_keep Cleared Cleared (cl.lose now) (clearing.clearing_kept_by_lose now) (client_turn s []) h

module _ (R : Fact) where
  -- What holds of a step so far.
  pub record Fine (t : ClientTurn) : Type 0 where
    pub knows : Each (Knows R) t.state.associations
    pub said : OutputsAs R t.out

  these : (P : Association → Type 0) (rule : Turn → Turn) → ((t : Turn) → P t.here → walk.At R t → walk.At R (rule t)) →
      (al : List Association) (t : ClientTurn) → Fine t → Each (λ a. Knows R a × P a) al → Fine (at_these rule al t)
  unfolding at_these
  these P rule k [] t h g = h
  these P rule k (a ∷ al) t h g =
      these P rule k al (leave t r) (record { knows = λ b i. one b (has_append t.state.associations (r.here ∷ []) b i); said = z.said }) (λ b i. g b (inr i))
    where
      r : Turn
      r = rule (enter t a)

      z : walk.At R r
      z = let y = g a (inl refl) in k (enter t a) y.1 (record { known = y.0; said = h.said })

      one : (b : Association) → Has b t.state.associations ⊎ Has b (r.here ∷ []) → Knows R b
      one b (inl i) = h.knows b i
      one b (inr (inl e)) = subst (Knows R) (sym e) z.known
      one b (inr (inr i)) = absurd i

  each : (P : Association → Type 0) (rule : Turn → Turn) → ((t : Turn) → P t.here → walk.At R t → walk.At R (rule t)) → (t : ClientTurn) → Fine t →
      Each P t.state.associations → Fine (at_each rule t)
  unfolding at_each
  each P rule k t h g = these P rule k t.state.associations (with_associations [] t) (record { knows = λ a i. absurd i; said = h.said })
      (λ a i. (h.knows a i, g a i))

  -- nothing more
  abbrev Any : Association → Type 0
  Any a = Unit {0}

  -- what a message tells
  abbrev pub Told : List Association → ClientInput → Type 0
  Told xs (inputs.Control m) = Each (λ a. Tells R a m.header m.body) xs
  Told xs input = Unit {0}

  at_once : (t : ClientTurn) (op : ℕ) (a : AppAnswer) → Fine t → Fine (cl.answered_at_once t op a)
  at_once t op a h = record { knows = h.knows; said = λ y i. go y (has_append t.out (outputs.Answer op a ∷ []) y i) }
    where
      go : (y : Output) → Has y t.out ⊎ Has y (outputs.Answer op a ∷ []) → OutputAs R y
      go y (inl i) = h.said y i
      go y (inr (inl e)) = subst (OutputAs R) (sym e) tt
      go y (inr (inr i)) = absurd i

  input_fine : (now : Stamp) (t u : ClientTurn) (input : ClientInput) → Taken t now input u → Each Cleared t.state.associations →
      Told t.state.associations input → Fine t → Fine u
  input_fine now t _ _ (taking.Nothing i) c k h = h
  input_fine now t _ _ (taking.Full op ask e) c k h = at_once t op answers.OpsFull h
  input_fine now t _ _ (taking.Unknown op ask e f) c k h = at_once t op answers.NoFile h
  input_fine now t _ _ (taking.Takes op ask e f) c k h =
      each Any (only_at (server_of ask) (cl.take_ask op ask)) (λ u p. walk.kept_by_take R (server_of ask) op ask u) t h (λ a i. tt)
  input_fine now t _ _ (taking.Receives m e) c k h = each (λ a. Cleared a × Tells R a m.header m.body) (cr.receive_at now m.header m.body)
      (λ u p. kept_by_receive R m.header m.body now u p.0 p.1) t h (λ a i. (c a i, k a i))
  input_fine now t _ _ (taking.Finishes number result) c k h = each Any (cl.finish number result) (λ u p. walk.kept_by_finish R number result u) t h (λ a i. tt)

  -- what is lost says no write
  lose_said : (now : Stamp) (t : Turn) → OutputsAs R t.out → OutputsAs R (cl.lose now t).out
  unfolding cl.lose cl.lose_by cl.lose_over cl.lose_session cl.end_operations
  lose_said now t h = go t.here.session
    where
      over : (s : ClientSession) (b : Bool) → OutputsAs R (if b then cl.lose_session t s else t).out
      over s true = walk.said_each R now s _ _ (walk.say1 R t.here.server None [] t.out _ tt (record { known = λ e i. absurd i; said = h })).said
      over s false = h

      go : (o : Option ClientSession) → OutputsAs R (cl.lose_by t now o).out
      go None = h
      go (Some s) = over s (cl.is_over t s now)

  lost_said_at : (now : Stamp) (al : List Association) (t : ClientTurn) → OutputsAs R t.out → OutputsAs R (at_these (cl.lose now) al t).out
  unfolding at_these
  lost_said_at now [] t h = h
  lost_said_at now (a ∷ al) t h = lost_said_at now al (leave t (cl.lose now (enter t a))) (lose_said now (enter t a) h)

  lost_said : (s : ClientState) (now : Stamp) → OutputsAs R (cl.losses (client_turn s []) now).out
  unfolding cl.losses at_each
  lost_said s now = lost_said_at now s.associations (with_associations [] (client_turn s [])) (λ y i. absurd i)

  -- what is known stays so through losses
  pub lost_knows : (s : ClientState) (now : Stamp) → Each (Knows R) s.associations → Each (Knows R) (cl.losses (client_turn s []) now).state.associations
  unfolding cl.losses
  lost_knows s now h =
      (each Any (cl.lose now) (λ u p. walk.kept_by_lose R now u) (client_turn s []) (record { knows = h; said = λ y i. absurd i }) (λ a i. tt)).knows

  -- The step, from what holds after its losses.
  pub step_fine : (s : ClientState) (now : Stamp) (input : ClientInput) → Each Cleared s.associations →
      Told (cl.losses (client_turn s []) now).state.associations input →
      Each (Knows R) (cl.losses (client_turn s []) now).state.associations → Fine (cl.client_step s now input)
  unfolding cl.client_step cl.work
  step_fine s now input c k h =
      let t = cl.losses (client_turn s []) now in
      each Any (cp.passes now (cl.is_tick input)) (λ u p. walk.kept_by_passes R now (cl.is_tick input) u) (cl.take_input t now input)
      (input_fine now t (cl.take_input t now input) input (taken t now input) (lost_clear s now c) k (record { knows = h; said = lost_said s now })) (λ a i. tt)
