-- Every rule of a client of the third form, at one server, is a list of small changes.
use Rattle.std.specs.Prelude.{ℕ, Bool, List, Option, Some, None, is_some}
use Rattle.st_base.specs.declared.disk.Tag.{Tag}
use Rattle.st_base.specs.declared.ids.Stamp.{Stamp}
use Rattle.st_messages.specs.declared.ask.Ask.{Ask}
use Rattle.st_messages.specs.declared.message.Body.{Body}
use Rattle.st_messages.specs.declared.message.Header.{Header}
use Rattle.st_laws_steps.specs.Client.Losses.{SessionFresh}
use Rattle.st_third.specs.Client.{finish, take_plainly, third_passes}
use Rattle.st_third.specs.Leave.{lose, take_leave}
use Rattle.st_third.specs.Replies.{receive_at}
use Rattle.st_third.specs.State.{ThirdTurn, here, session}
use Rattle.st_laws_third.specs.Changes.{HeardLeave, HeardMessage, ThirdChanges, ThirdFinishes, ThirdLoses, ThirdPasses}

-- The losses of a step; an ask of an application, and one to leave; a message, if nothing is known of
-- the page that is asked for; the end of a command; and the passes.
pub record RulesAreChanges : Type 0 where
  pub losses : (now : Stamp) (t : ThirdTurn) → ThirdLoses now t (lose now t)
  pub asks : (now : Stamp) (op : ℕ) (ask : Ask) (t : ThirdTurn) → ThirdChanges None now t (take_plainly op ask t)
  pub leaves : (now : Stamp) (op : ℕ) (t : ThirdTurn) → ThirdChanges (Some (HeardLeave (record { op = op; server = here t }))) now t (take_leave op t)
  pub messages : (now : Stamp) (h : Header) (body : Body) (t : ThirdTurn) → SessionFresh t.plain.here.store (session t) →
      ThirdChanges (Some (HeardMessage (record { header = h; body = body }))) now t (receive_at now h body t)
  pub ends : (now : Stamp) (number : ℕ) (result : Option (Option (Tag × List ℕ))) (t : ThirdTurn) →
      ThirdFinishes now number (is_some result) t (finish number result t)
  pub passes : (now : Stamp) (tick : Bool) (t : ThirdTurn) → ThirdPasses now t (third_passes now tick t)
