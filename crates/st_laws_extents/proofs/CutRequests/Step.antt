-- A client's step, at all its servers: what holds of the requests of each session.
use Rattle.st_lemmas.proofs.Words
use Words.{◌≡◌, ℕ, true, ◌==◌, List, [], ◌∷◌, refl, ap, ◌∙◌, subst, eqb-true, GrantNo, ServerId, Stamp, Message, ClientInput}
use Words.inputs
use Words.Client as cl
use Words.ClientPasses as cp
use Words.ClientState.{Association, ClientState, ClientTurn, at_each, at_these, client_turn, enter, leave, with_associations}
use Rattle.st_laws_steps.specs.Client.Inputs.{Each}
use Rattle.st_laws_steps.proofs.Client.Taking.{each, each_taken, taken}
use Rattle.st_laws_extents.specs.CutRequests.Asks.{AsksBehind, AsksStand, Fact, Of, Tells}
use Rattle.st_laws_extents.proofs.CutRequests.Walking.{kept_by_finish, kept_by_lose, kept_by_take}
use Rattle.st_laws_extents.proofs.CutRequests.Receiving.{kept_by_receive}
use Rattle.st_laws_extents.proofs.CutRequests.Requesting.{asked_after_passes}

module _ (B : ServerId → ℕ → ℕ → ℕ → Type 0) (G : ServerId → ℕ → GrantNo → Type 0) (start : (server : ServerId) (life epoch : ℕ) → B server life epoch 1) where
  -- a fact of an association
  abbrev pub HasFact : Fact → Association → Type 0
  HasFact F a = Of F a.server a.life.0 a.session

  abbrev pub Stand : Association → Type 0
  Stand a = Of (AsksStand B G) a.server a.life.0 a.session

  -- what a message that comes to a client tells
  abbrev pub TellsEach : ClientState → ClientInput → Type 0
  TellsEach s (inputs.Control m) = m.header.to ≡ s.id.0 → Each (HasFact (Tells B m.header m.body)) s.associations
  TellsEach s input = Unit {0}

  lost : (F : Fact) (t : ClientTurn) (now : Stamp) → Each (HasFact F) t.state.associations → Each (HasFact F) (cl.losses t now).state.associations
  unfolding cl.losses
  lost F t now h = each (HasFact F) (HasFact F) (cl.lose now) (kept_by_lose F now) t h

  lose_id : (t : ClientTurn) (now : Stamp) → (cl.losses t now).state.id ≡ t.state.id
  unfolding cl.losses at_each at_these
  lose_id t now = go t.state.associations (with_associations [] t)
    where
      go : (al : List Association) (t : ClientTurn) → (at_these (cl.lose now) al t).state.id ≡ t.state.id
      go [] t = refl
      go (a ∷ al) t = go al (leave t (cl.lose now (enter t a)))

  pub step_stands : (s : ClientState) (now : Stamp) (input : ClientInput) → TellsEach s input → Each Stand s.associations →
      Each (λ a. AsksBehind B G a.server a.life.0 a.session) (cl.client_step s now input).state.associations
  unfolding cl.client_step cl.work
  step_stands s now input tells h =
      let t = cl.losses (client_turn s []) now in
      each Stand (λ a. AsksBehind B G a.server a.life.0 a.session) (cp.passes now (cl.is_tick input)) (asked_after_passes B G now (cl.is_tick input)) (cl.take_input t now input)
      (each_taken Stand (λ m. HasFact (Tells B m.header m.body)) now (kept_by_take (AsksStand B G)) (λ m u p q. kept_by_receive B G start m.header m.body now u q p) (kept_by_finish (AsksStand B G)) t (cl.take_input t now input) input (taken t now input) told
      (lost (AsksStand B G) (client_turn s []) now h))
    where
      told : (m : Message) → input ≡ inputs.Control m → (m.header.to == (cl.losses (client_turn s []) now).state.id.0) ≡ true →
          Each (HasFact (Tells B m.header m.body)) (cl.losses (client_turn s []) now).state.associations
      told m e q = lost (Tells B m.header m.body) (client_turn s []) now (subst (TellsEach s) e tells (eqb-true _ _ q ∙ ap (λ (c : Rattle.st_base.specs.declared.ids.ClientId.ClientId). c.0) (lose_id (client_turn s []) now)))
