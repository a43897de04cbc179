-- A client's step after its losses, at all its servers: the requests of each session go on.
use Rattle.st_lemmas.proofs.Words
use Words.{[], Stamp, ClientInput}
use Words.Client as cl
use Words.ClientPasses as cp
use Words.ClientState.{Association, ClientState, client_turn}
use Rattle.st_laws_steps.specs.Client.Losses.{Fit}
use Rattle.st_laws_steps.specs.Client.Inputs.{Each}
use Rattle.st_laws_steps.proofs.Client.Taking.{each, each_taken, taken}
use Rattle.st_laws_extents.specs.LockedRequests.RequestsGoOn.{Before, Free, Of}
use Rattle.st_laws_extents.proofs.LockedRequests.Walking.{kept_by_finish, kept_by_receive, kept_by_passes, kept_by_take}

module _ (U : Free) (W : Before) where
  abbrev pub Goes : Association → Type 0
  Goes a = Of U W a.server a.life.0 a.session

  pub step_goes : (s : ClientState) (now : Stamp) (input : ClientInput) → Each Fit (cl.losses (client_turn s []) now).state.associations →
      Each Goes (cl.losses (client_turn s []) now).state.associations →
      Each Goes (cl.client_step s now input).state.associations
  unfolding cl.client_step cl.work
  step_goes s now input f h =
      let t = cl.losses (client_turn s []) now in
      each Goes Goes (cp.passes now (cl.is_tick input)) (kept_by_passes U W now (cl.is_tick input)) (cl.take_input t now input)
      (each_taken Goes (λ m. Fit) now (kept_by_take U W) (λ m u p q. kept_by_receive U W now m.header m.body u q p) (kept_by_finish U W) t (cl.take_input t now input) input (taken t now input) (λ m e b. f) h)
