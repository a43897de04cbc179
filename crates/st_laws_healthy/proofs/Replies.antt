-- A reply that counts: what a client with an outstanding request takes for an answer, and that a rule gives it.
use Rattle.st_lemmas.proofs.Words
use Words.{◌≡◌, ◌⊎◌, Bool, true, false, [], ◌∷◌, ◌++◌, inl, Option, Some, None, Stamp, Header, Body, Why, Note}
use Words.bodies as bd
use Words.why
use Words.ClientState.{fits}
use Words.Server.{Replied, ServerTurn}
use Words.outputs

-- the requests that a session serves one after another
abbrev pub is_served : Body → Bool
is_served bd.KeepAlive = true
is_served (bd.Acquire ino mode) = true
is_served (bd.Released ino g to) = true
is_served (bd.Map ino g p) = true
is_served (bd.Allocate ino g p n) = true
is_served (bd.Cut ino g p) = true
is_served (bd.Name op) = true
is_served b = false

-- a refusal of what was asked
abbrev pub is_mild : Why → Bool
is_mild why.Suspect = false
is_mild why.NoSession = false
is_mild why.OtherEpoch = false
is_mild why.Grace = false
is_mild why.GraceOver = false
is_mild why.Conflict = false
is_mild w = true

-- a reply that a client with this request outstanding counts
abbrev pub counts_for : Body → Body → Bool
counts_for asked (bd.Nack w a b) = is_mild w
counts_for asked b = fits b asked

-- of a rule's reply
abbrev pub Counts : Body → Option Body → Type 0
Counts asked None = ⊥
Counts asked (Some b) = counts_for asked b ≡ true

module _ (now : Stamp) (h : Header) where
  -- nothing is said, or a note
  abbrev pub Noted : ServerTurn → ServerTurn → Type 0
  Noted t u = (u.out ≡ t.out) ⊎ ((n : Note) × (u.out ≡ t.out ++ outputs.Note n ∷ []))

  -- a rule's reply counts, and the server has its number and epoch
  pub record GetsReply (t : ServerTurn) (b : Body) (a : Replied) : Type 0 where
    pub counts : Counts b a.reply
    pub id : a.turn.state.id ≡ t.state.id
    pub epoch : a.turn.state.stable.epoch ≡ t.state.stable.epoch
    pub sessions : a.turn.state.sessions ≡ t.state.sessions
    pub out : Noted t a.turn

  -- with this reply
  pub gives : (t u : ServerTurn) (b x : Body) → u.state.id ≡ t.state.id → u.state.stable.epoch ≡ t.state.stable.epoch → u.state.sessions ≡ t.state.sessions →
      u.out ≡ t.out → counts_for b x ≡ true → GetsReply t b (record { turn = u; reply = Some x })
  gives t u b x i e s o c = record { counts = c; id = i; epoch = e; sessions = s; out = inl o }
