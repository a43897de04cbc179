-- Each request number is taken once: what lists of calls make of the sessions, and what becomes of a number that was taken.
use Rattle.std.specs.Prelude.{◌≡◌, ◌+◌, ◌<◌, ℕ, Bool, List, [], ◌∷◌, Some}
use Rattle.st_base.specs.declared.ids.ClientId.{ClientId}
use Rattle.st_base.specs.declared.ids.Epoch.{Epoch}
use Rattle.st_base.specs.declared.ids.Life.{Life}
use Rattle.st_messages.specs.declared.message.Body.{Body}
use Rattle.st_rules.specs.declared.sessions.Session.{Session}
use Rattle.st_rules.specs.declared.sessions.Taken.TheVariants.{Again, Fresh}
use Rattle.st_rules.specs.Sessions.{Sessions, end, hello, reasserted, session_of, store, take}

-- a call that may change sessions: a greeting, with whether the client has locks; a reply that is kept; a reassertion that was accepted; an end
pub data SessionCall : Type 0 where
  Greets : ClientId → Life → Bool → SessionCall
  Stores : ClientId → ℕ → Body → SessionCall
  Reasserts : ClientId → Life → SessionCall
  Ends : ClientId → SessionCall

-- what it leaves
abbrev pub called : SessionCall → Sessions → Sessions
called (Greets c life rows) t = (hello t c life rows).sessions
called (Stores c number reply) t = store t c number reply
called (Reasserts c life) t = reasserted t c life
called (Ends c) t = end t c

-- A server keeps a reply to a number that is fresh in some life, and accepts a reassertion of a life above that of the client's session.
abbrev pub MayCall : SessionCall → Sessions → Type 0
MayCall (Greets c life rows) t = Unit {0}
MayCall (Stores c number reply) t = (life : Life) × (take t c life t.epoch number ≡ Fresh)
MayCall (Reasserts c life) t = (s : Session) → session_of t c ≡ Some s → s.life.0 < life.0
MayCall (Ends c) t = Unit {0}

-- the same of a list of calls, one after another
abbrev pub after : List SessionCall → Sessions → Sessions
after [] t = t
after (call ∷ calls) t = after calls (called call t)

abbrev pub MayFollow : List SessionCall → Sessions → Type 0
MayFollow [] t = Unit {0}
MayFollow (call ∷ calls) t = MayCall call t × MayFollow calls (called call t)

-- The number is no longer fresh, in any epoch. While it is the latest, which is while the next one is fresh, it gets this reply.
pub record IsTaken (t : Sessions) (c : ClientId) (life : Life) (number : ℕ) (reply : Body) : Type 0 where
  pub never : (epoch : Epoch) → ¬ (take t c life epoch number ≡ Fresh)
  pub latest : (epoch : Epoch) → take t c life epoch (number + 1) ≡ Fresh → take t c life epoch number ≡ Again reply

-- a fresh number whose reply is kept is taken from then on, whatever is called after that
abbrev pub EachNumberIsTakenOnce : Type 0
EachNumberIsTakenOnce =
    (t : Sessions) (c : ClientId) (life : Life) (number : ℕ) (reply : Body) (calls : List SessionCall) → take t c life t.epoch number ≡ Fresh →
    MayFollow calls (store t c number reply) → IsTaken (after calls (store t c number reply)) c life number reply
