-- What a message of the world says to the association of its client and its server.
use Rattle.std.specs.Prelude.{ℕ, ◌≤◌, ◌≡◌, Bool, true, false, ◌==◌, if◌then◌else◌, List, [], ◌∷◌, find, Option, Some, None}
use Rattle.st_base.specs.declared.ids.GrantNo.{GrantNo}
use Rattle.st_base.specs.declared.mode.Mode.{Mode}
use Rattle.st_base.specs.declared.mode.Mode.TheVariants as modes
use Rattle.st_base.specs.Mode.{number_of}
use Rattle.st_messages.specs.declared.message.Header.{Header}
use Rattle.st_messages.specs.declared.message.Message.{Message}
use Rattle.st_messages.specs.declared.message.Body.{Body}
use Rattle.st_messages.specs.declared.message.Body.TheVariants as bd
use Rattle.st_messages.specs.declared.message.Why.{Why}
use Rattle.st_messages.specs.declared.message.Why.TheVariants as why
use Rattle.st_rules.specs.ServerInvariants.{are_once}
use Rattle.st_protocol.specs.Assoc as net
use Rattle.st_protocol.specs.Assoc.{Msg, msg, In}
use Rattle.st_lemmas.specs.Lists.{Has}

-- a row of a reassertion
abbrev pub lock_in_row : Option (ℕ × GrantNo × Mode) → net.Lock
lock_in_row None = net.no_lock
lock_in_row (Some r) = record { g = r.1.0; mode = number_of r.2 }

-- the row is on this file
abbrev pub is_row_on : ℕ → ℕ × GrantNo × Mode → Bool
is_row_on ino r = r.0 == ino

-- the lock on a file in a reassertion
abbrev pub lock_in : List (ℕ × GrantNo × Mode) → ℕ → net.Lock
lock_in rows ino = lock_in_row (find (is_row_on ino) rows)

-- a release to an exclusive lock counts as one to a shared lock
abbrev pub released_to : Mode → ℕ
released_to modes.None = 0
released_to modes.S = 1
released_to modes.X = 1

-- a refusal counts as a reply, or tells of another epoch
abbrev pub refusal : Why → List net.Body
refusal why.OtherEpoch = net.OfOtherEpoch ∷ []
refusal why.NotHolder = net.Ack ∷ []
refusal why.NoFile = net.Ack ∷ []
refusal why.NoSpace = net.Ack ∷ []
refusal why.TooManyLocks = net.Ack ∷ []
refusal w = []

-- a numbered message is a reply, and dates
unfoldable pub with_date : ℕ → List net.Body → List net.Body
with_date number bs = if number == 0 then bs else net.Ack ∷ bs

-- what a message says to the association
abbrev pub shown : ℕ → Body → List net.Body
shown n bd.Hello = net.Hello ∷ []
shown n bd.KeepAlive = net.Plain ∷ []
shown n (bd.Acquire i m) = net.Plain ∷ []
shown n (bd.Released i g to) = net.Plain ∷ net.Released i g.0 (released_to to) ∷ []
shown n (bd.Map i g p) = net.Plain ∷ []
shown n (bd.Allocate i g p count) = net.Plain ∷ []
shown n (bd.Cut i g p) = net.Plain ∷ []
shown n (bd.Name op) = net.Plain ∷ []
shown n (bd.Reassert rows) = net.Plain ∷ net.Reassert (λ i. lock_in rows i) ∷ []
shown n bd.Welcome = net.Welcome ∷ []
shown n bd.Ack = net.Ack ∷ []
shown n (bd.Nack w a b) = refusal w
shown n (bd.Granted i g m) = with_date n (net.Granted i g.0 (number_of m) ∷ [])
shown n (bd.Queued i m) = net.Ack ∷ []
shown n (bd.Demand i g to) = net.Demand i g.0 (number_of to) ∷ []
shown n (bd.Extents i rows) = net.Ack ∷ []
shown n (bd.Named r) = net.Ack ∷ []
shown n bd.Reasserted = net.Ack ∷ net.Reasserted ∷ []
shown n b = []

-- a list of shown in the network, with one header
abbrev pub Shows : ℕ → ℕ → ℕ → List net.Body → List Msg → Type 0
Shows life epoch stamp [] N = Unit {0}
Shows life epoch stamp (b ∷ bs) N = record { one : In (msg life epoch stamp b) N; rest : Shows life epoch stamp bs N }

-- all that a message says is in the network
pub record Shown (m : Message) (N : List Msg) : Type 0 where
  pub all : Shows m.header.life m.header.epoch m.header.stamp (shown m.header.number m.body) N

-- a greeting has epoch 0
abbrev pub epoch_shown : Body → ℕ → ℕ
epoch_shown bd.Hello e = 0
epoch_shown b e = e

-- what a client sends
abbrev pub is_clients : Body → Bool
is_clients bd.Hello = true
is_clients bd.KeepAlive = true
is_clients (bd.Acquire i m) = true
is_clients (bd.Released i g to) = true
is_clients (bd.Map i g p) = true
is_clients (bd.Allocate i g p count) = true
is_clients (bd.Cut i g p) = true
is_clients (bd.Name op) = true
is_clients (bd.Reassert rows) = true
is_clients (bd.DemandSeen i g) = true
is_clients b = false

-- two rows of a reassertion on one file
abbrev pub on_same_file : ℕ × GrantNo × Mode → ℕ × GrantNo × Mode → Bool
on_same_file r q = is_row_on r.0 q

-- What is reasserted: each lock has a mode, and no file has two.
pub record ReassertedLocks (rows : List (ℕ × GrantNo × Mode)) : Type 0 where
  pub some : (r : ℕ × GrantNo × Mode) → Has r rows → 1 ≤ number_of r.2
  pub once : are_once on_same_file rows ≡ true

-- locks are asked for in some mode, and reasserted once
abbrev pub Wishes : Body → Type 0
Wishes (bd.Acquire i m) = 1 ≤ number_of m
Wishes (bd.Reassert rows) = ReassertedLocks rows
Wishes b = Unit {0}

-- what a server may rely on in a message of a client
pub record Received (h : Header) (b : Body) (N : List Msg) : Type 0 where
  pub born : 1 ≤ h.life
  pub clients : is_clients b ≡ true
  pub wishes : Wishes b
  pub shows : Shows h.life (epoch_shown b h.epoch) h.stamp (shown h.number b) N

-- a grant has a mode
abbrev pub Fine : Body → Type 0
Fine (bd.Granted ino g mode) = 1 ≤ number_of mode
Fine body = Unit {0}
