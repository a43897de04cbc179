-- One client at one server that may stop and start again: epochs, grace and reassertion.
use Rattle.std.specs.Prelude.{◌≡◌, ◌≢◌, ℕ, ◌+◌, ◌*◌, ◌<◌, ◌≤◌, ◌⊎◌, Bool, true, false, List, [], ◌∷◌, if◌then◌else◌, ◌==◌}

-- the length of a lease, the rates of two clocks, the wait before a theft, and how far a clock may run ahead beyond the rates
pub record Config : Type 0 where
  pub lease : ℕ
  pub num : ℕ
  pub den : ℕ
  pub wait : ℕ
  pub grain : ℕ

-- the wait is long enough for every lease to end
abbrev pub ConfigOk : Config → Type 0
ConfigOk k = record { num_pos : 0 < k.num; wait_long : k.lease * k.num + k.den * k.grain ≤ k.wait * k.den }

-- a lock that a client holds or reasserts
pub record Lock : Type 0 where
  pub g : ℕ
  pub mode : ℕ

-- what a message says
pub data Body : Type 0 where
  Hello : Body
  Plain : Body
  Released : (ino g to : ℕ) → Body
  Reassert : (locks : ℕ → Lock) → Body
  Welcome : Body
  Ack : Body
  Reasserted : Body
  Granted : (ino g mode : ℕ) → Body
  Demand : (ino g to : ℕ) → Body
  OfOtherEpoch : Body

-- a message, with the life, the epoch and the date that it tells
pub record Msg : Type 0 where
  pub life : ℕ
  pub epoch : ℕ
  pub stamp : ℕ
  pub body : Body

-- a reply that dates a lease
abbrev pub renews : Body → Bool
renews Welcome = true
renews Ack = true
renews Reasserted = true
renews Hello = false
renews Plain = false
renews (Released ino g to) = false
renews (Reassert locks) = false
renews (Granted ino g mode) = false
renews (Demand ino g to) = false
renews OfOtherEpoch = false

-- a request that a client with a lease may send once more
abbrev pub of_request : Body → Bool
of_request Plain = true
of_request (Released ino g to) = true
of_request (Reassert locks) = true
of_request Hello = false
of_request Welcome = false
of_request Ack = false
of_request Reasserted = false
of_request (Granted ino g mode) = false
of_request (Demand ino g to) = false
of_request OfOtherEpoch = false

-- a reply that is kept, and sent once more
abbrev pub of_kept : Body → Bool
of_kept Ack = true
of_kept Reasserted = true
of_kept (Granted ino g mode) = true
of_kept Plain = false
of_kept (Released ino g to) = false
of_kept (Reassert locks) = false
of_kept Hello = false
of_kept Welcome = false
of_kept (Demand ino g to) = false
of_kept OfOtherEpoch = false

-- a message of a session
abbrev pub of_session : Body → Bool
of_session Welcome = true
of_session Ack = true
of_session Reasserted = true
of_session Hello = false
of_session Plain = false
of_session (Released ino g to) = false
of_session (Reassert locks) = false
of_session (Granted ino g mode) = true
of_session (Demand ino g to) = true
of_session OfOtherEpoch = false

-- a row of the server's table
pub record Row : Type 0 where
  pub life : ℕ
  pub g : ℕ
  pub mode : ℕ

-- nothing is held
abbrev pub no_lock : Lock
no_lock = record { g = 0; mode = 0 }

-- there is no row
abbrev pub no_row : Row
no_row = record { life = 0; g = 0; mode = 0 }

-- a function that differs at one place
unfoldable pub upd : {A : Type 0} → (ℕ → A) → ℕ → A → ℕ → A
upd f c v d = if d == c then v else f d

-- the client's half
pub record Client : Type 0 where
  pub clock : ℕ
  pub life : ℕ
  pub epoch : ℕ
  -- a reassertion is due or not answered
  pub due : Bool
  pub leased : Bool
  pub date : ℕ
  pub held : ℕ → Lock
  pub seen : ℕ → ℕ
  -- a page is dirty, or a command is out, or a cut
  pub busy : ℕ → Bool
  -- the lease end of each life that is over, or 0
  pub ended : ℕ → ℕ

-- the server's half, of this client
pub record Server : Type 0 where
  pub clock : ℕ
  -- by how much this clock ran ahead of the client's, over any interval up to now, or 0
  pub drift : ℕ
  pub up : Bool
  pub epoch : ℕ
  pub grace : Bool
  pub gstart : ℕ
  pub gbase : ℕ
  -- the client's life when this epoch began
  pub glife : ℕ
  pub session : ℕ
  pub live : Bool
  pub row : ℕ → Row
  pub timed : Bool
  pub start : ℕ
  pub base : ℕ
  pub top : ℕ

-- a client at a server, and all that was ever sent between them
pub record Assoc : Type 0 where
  pub c : Client
  pub s : Server
  pub net : List Msg

-- a message of the network
abbrev pub In : Msg → List Msg → Type 0
In m [] = ⊥
In m (x ∷ xs) = (m ≡ x) ⊎ In m xs

-- a reassertion
abbrev pub is_reassert : Body → Bool
is_reassert (Reassert locks) = true
is_reassert Plain = false
is_reassert (Released ino g to) = false
is_reassert Hello = false
is_reassert Welcome = false
is_reassert Ack = false
is_reassert Reasserted = false
is_reassert (Granted ino g mode) = false
is_reassert (Demand ino g to) = false
is_reassert OfOtherEpoch = false

-- the lease is held, and lasts
abbrev pub Alive : Config → Client → Type 0
Alive k c = record { leased : c.leased ≡ true; lasts : c.clock < c.date + k.lease }

-- the end of the present lease, if it is held
abbrev pub end_now : Config → Client → ℕ
end_now k c = if c.leased then c.date + k.lease else 0

-- the client in its next life
abbrev pub next_life : Config → Client → Client
next_life k c =
    record {
      clock = c.clock;
      life = c.life + 1;
      epoch = 0;
      due = false;
      leased = false;
      date = 0;
      held = λ i. no_lock;
      seen = λ i. 0;
      busy = λ i. false;
      ended = upd c.ended c.life (end_now k c);
    }

-- with one more message
abbrev pub send : Msg → Assoc → Assoc
send m a = record { c = a.c; s = a.s; net = m ∷ a.net }

-- with another half of the client
abbrev pub client : Client → Assoc → Assoc
client c a = record { c = c; s = a.s; net = a.net }

-- with another half of the server
abbrev pub server : Server → Assoc → Assoc
server s a = record { c = a.c; s = s; net = a.net }

-- a message
abbrev pub msg : ℕ → ℕ → ℕ → Body → Msg
msg life epoch stamp body = record { life = life; epoch = epoch; stamp = stamp; body = body }

-- a grant has a mode
abbrev pub Fits : Body → Type 0
Fits (Granted i g mode) = 1 ≤ mode
Fits (Demand i g to) = Unit {0}
Fits Hello = Unit {0}
Fits Plain = Unit {0}
Fits (Released i g to) = Unit {0}
Fits (Reassert locks) = Unit {0}
Fits Welcome = Unit {0}
Fits Ack = Unit {0}
Fits Reasserted = Unit {0}
Fits OfOtherEpoch = Unit {0}

-- the server answers: it runs, and no timer of this client does
abbrev pub Serves : Server → Type 0
Serves s = record { up : s.up ≡ true; free : s.timed ≡ false }

-- a row of this life is there, or was: the client settled, or a message of the session has come
pub data Joined (c : Client) (net : List Msg) : Type 0 where
  Settled : c.due ≡ false → Joined c net
  Demanded : (stamp i g to : ℕ) → In (msg c.life c.epoch stamp (Demand i g to)) net → Joined c net

-- one move of either half
pub data Move (k : Config) : Assoc → Assoc → Type 0 where
  Advance : (a : Assoc) (dc ds drift : ℕ) → a.s.drift + k.den * ds ≤ drift + k.num * dc → drift ≤ k.den * k.grain →
      Move k a (record { c = record a.c { clock = a.c.clock + dc }; s = record a.s { clock = a.s.clock + ds; drift = drift }; net = a.net })
  -- the client
  Greets : (a : Assoc) → a.c.leased ≡ false → Move k a (send (msg a.c.life 0 a.c.clock Hello) a)
  Asks : (a : Assoc) → Alive k a.c → Move k a (send (msg a.c.life a.c.epoch a.c.clock Plain) a)
  Loses : (a : Assoc) → a.c.leased ≡ true → a.c.date + k.lease ≤ a.c.clock → Move k a (client (next_life k a.c) a)
  Crashes : (a : Assoc) → Move k a (client (next_life k a.c) a)
  Begins : (a : Assoc) (stamp epoch : ℕ) → In (msg a.c.life epoch stamp Welcome) a.net → a.c.leased ≡ false → a.c.clock < stamp + k.lease →
      Move k a (client (record a.c { leased = true; due = false; date = stamp; epoch = epoch; held = λ i. no_lock; seen = λ i. 0 }) a)
  Renews : (a : Assoc) (stamp : ℕ) → In (msg a.c.life a.c.epoch stamp Ack) a.net → Alive k a.c → a.c.date < stamp →
      Move k a (client (record a.c { date = stamp }) a)
  Installs : (a : Assoc) (stamp i g mode : ℕ) → In (msg a.c.life a.c.epoch stamp (Granted i g mode)) a.net → Alive k a.c → a.c.seen i < g →
      Move k a (client (record a.c { held = upd a.c.held i (record { g = g; mode = mode }); seen = upd a.c.seen i g }) a)
  AskedOfNone : (a : Assoc) (stamp i g to : ℕ) → In (msg a.c.life a.c.epoch stamp (Demand i g to)) a.net → Alive k a.c →
      (a.c.held i).mode ≡ 0 → (top : ℕ) → a.c.seen i ≤ top → g ≤ top →
      Move k a (send (msg a.c.life a.c.epoch 0 (Released i g 0)) (client (record a.c { seen = upd a.c.seen i top }) a))
  Asked : (a : Assoc) (stamp i g to : ℕ) → In (msg a.c.life a.c.epoch stamp (Demand i g to)) a.net → Alive k a.c →
      1 ≤ (a.c.held i).mode → (a.c.held i).g ≤ g →
      Move k a (client (record a.c { held = upd a.c.held i (record { g = g; mode = (a.c.held i).mode }); seen = upd a.c.seen i g }) a)
  -- a release that is only queued counts as sent, with stamp 0; each true sending is a repeat
  Declines : (a : Assoc) (stamp i g mode : ℕ) → In (msg a.c.life a.c.epoch stamp (Granted i g mode)) a.net → Alive k a.c → a.c.seen i < g →
      (a.c.held i).mode ≡ 0 →
      Move k a (send (msg a.c.life a.c.epoch 0 (Released i g 0)) (client (record a.c { seen = upd a.c.seen i g }) a))
  Repeats : (a : Assoc) (old : ℕ) (b : Body) → In (msg a.c.life a.c.epoch old b) a.net → of_request b ≡ true → Alive k a.c →
      Move k a (send (msg a.c.life a.c.epoch a.c.clock b) a)
  Works : (a : Assoc) (busy : ℕ → Bool) → Alive k a.c → ((i : ℕ) → busy i ≡ true → (a.c.busy i ≡ true) ⊎ (2 ≤ (a.c.held i).mode)) →
      Move k a (client (record a.c { busy = busy }) a)
  Rests : (a : Assoc) (busy : ℕ → Bool) → ((i : ℕ) → busy i ≡ true → a.c.busy i ≡ true) → Move k a (client (record a.c { busy = busy }) a)
  Reduces : (a : Assoc) (i to : ℕ) → Alive k a.c → Joined a.c a.net → a.c.busy i ≡ false → 1 ≤ (a.c.held i).mode → to ≤ (a.c.held i).mode →
      (g : ℕ) → g ≤ (a.c.held i).g → (1 ≤ to → (a.c.held i).g ≤ g) →
      Move k a (send (msg a.c.life a.c.epoch 0 (Released i (a.c.held i).g to))
      (client (record a.c { held = upd a.c.held i (record { g = g; mode = to }) }) a))
  -- a later epoch is heard of
  Adopts : (a : Assoc) (stamp epoch : ℕ) → In (msg a.c.life epoch stamp OfOtherEpoch) a.net → Alive k a.c → a.c.epoch < epoch →
      Move k a (client (record a.c { epoch = epoch; due = true }) a)
  Reasserts : (a : Assoc) → Alive k a.c → a.c.due ≡ true → Move k a (send (msg a.c.life a.c.epoch a.c.clock (Reassert a.c.held)) a)
  Settles : (a : Assoc) (stamp : ℕ) → In (msg a.c.life a.c.epoch stamp Reasserted) a.net → Alive k a.c →
      Move k a (client (record a.c { due = false }) a)
  -- the server
  Welcomes : (a : Assoc) (life stamp : ℕ) → In (msg life 0 stamp Hello) a.net → Serves a.s → a.s.grace ≡ false →
      a.s.session < life → ((i : ℕ) → (a.s.row i).mode ≡ 0) →
      Move k a (send (msg life a.s.epoch stamp Welcome) (server (record a.s { session = life; live = true }) a))
  WelcomesAgain : (a : Assoc) (stamp : ℕ) → In (msg a.s.session 0 stamp Hello) a.net → Serves a.s → a.s.live ≡ true → a.s.grace ≡ false →
      Move k a (send (msg a.s.session a.s.epoch stamp Welcome) a)
  Acks : (a : Assoc) (stamp : ℕ) → In (msg a.s.session a.s.epoch stamp Plain) a.net → Serves a.s → a.s.live ≡ true →
      Move k a (send (msg a.s.session a.s.epoch stamp Ack) a)
  Again : (a : Assoc) (old stamp : ℕ) (b : Body) → In (msg a.s.session a.s.epoch old b) a.net → of_kept b ≡ true →
      In (msg a.s.session a.s.epoch stamp Plain) a.net → Serves a.s → a.s.live ≡ true →
      Move k a (send (msg a.s.session a.s.epoch stamp b) a)
  Refuses : (a : Assoc) (m : Msg) → In m a.net → Serves a.s → Move k a (send (msg m.life a.s.epoch m.stamp OfOtherEpoch) a)
  Accepts : (a : Assoc) (life stamp : ℕ) (locks : ℕ → Lock) → In (msg life a.s.epoch stamp (Reassert locks)) a.net → Serves a.s → a.s.grace ≡ true →
      a.s.session < life → ((i : ℕ) → (a.s.row i).mode ≡ 0) →
      Move k a (send (msg life a.s.epoch stamp Reasserted)
      (server (record a.s { session = life; live = true; row = λ i. record { life = life; g = (locks i).g; mode = (locks i).mode } }) a))
  Suspects : (a : Assoc) → Serves a.s → Move k a (server (record a.s { timed = true; start = a.s.clock; base = a.c.clock }) a)
  Steals : (a : Assoc) → a.s.up ≡ true → a.s.timed ≡ true → a.s.start + k.wait ≤ a.s.clock → a.s.grace ≡ false →
      Move k a (server (record a.s { live = false; row = λ i. no_row; timed = false }) a)
  GraceEnds : (a : Assoc) → a.s.up ≡ true → a.s.grace ≡ true → a.s.gstart + k.wait ≤ a.s.clock → Move k a (server (record a.s { grace = false }) a)
  Grants : (a : Assoc) (stamp i g mode : ℕ) → In (msg a.s.session a.s.epoch stamp Plain) a.net → a.s.live ≡ true → Serves a.s → a.s.grace ≡ false →
      a.s.top < g → (a.s.row i).mode < mode → mode ≤ 2 →
      Move k a (send (msg a.s.session a.s.epoch 0 (Granted i g mode))
      (server (record a.s { row = upd a.s.row i (record { life = a.s.session; g = g; mode = mode }); top = g }) a))
  GrantsAgain : (a : Assoc) (i : ℕ) → Serves a.s → 1 ≤ (a.s.row i).mode →
      Move k a (send (msg (a.s.row i).life a.s.epoch 0 (Granted i (a.s.row i).g (a.s.row i).mode)) a)
  Demands : (a : Assoc) (i to : ℕ) → Serves a.s → 1 ≤ (a.s.row i).mode →
      Move k a (send (msg (a.s.row i).life a.s.epoch 0 (Demand i (a.s.row i).g to)) a)
  Releases : (a : Assoc) (stamp i g to : ℕ) → In (msg (a.s.row i).life a.s.epoch stamp (Released i g to)) a.net → Serves a.s →
      (a.s.row i).g ≡ g → 1 ≤ (a.s.row i).mode → to ≤ (a.s.row i).mode →
      Move k a (send (msg (a.s.row i).life a.s.epoch stamp Ack)
      (server (record a.s { row = upd a.s.row i (record { life = (a.s.row i).life; g = g; mode = to }) }) a))
  -- rows of mode 0 aren't rows
  Sweeps : (a : Assoc) (row : ℕ → Row) → ((i : ℕ) → (row i ≡ a.s.row i) ⊎ (((a.s.row i).mode ≡ 0) × (row i ≡ no_row))) →
      Move k a (server (record a.s { row = row }) a)
  Rises : (a : Assoc) (g : ℕ) → a.s.top < g → Move k a (server (record a.s { top = g }) a)
  -- it stops, and starts again
  Stops : (a : Assoc) → a.s.up ≡ true →
      Move k a (server (record a.s { up = false; grace = false; session = 0; live = false; row = λ i. no_row; timed = false }) a)
  Starts : (a : Assoc) → a.s.up ≡ false →
      Move k a (server (record a.s { up = true; epoch = a.s.epoch + 1; grace = true; gstart = a.s.clock; gbase = a.c.clock; glife = a.c.life }) a)

-- a move by which no time passes, and the server neither stops nor starts nor ends its grace
abbrev pub steady : {k : Config} {a b : Assoc} → Move k a b → Bool
steady (Advance a dc ds dr h lim) = false
steady (Stops a u) = false
steady (Starts a u) = false
steady (GraceEnds a u g h) = false
steady m = true

-- a list of steady moves
pub data Moves (k : Config) : Assoc → Assoc → Type 0 where
  Stays : (a : Assoc) → Moves k a a
  GoesOn : {a b c : Assoc} → (m : Move k a b) → steady m ≡ true → Moves k b c → Moves k a c

-- the locks that count while nothing may be granted
pub data Claim (k : Config) (a : Assoc) (i mode : ℕ) : Type 0 where
  ByRow : a.s.up ≡ true → (a.s.row i).mode ≡ mode → Claim k a i mode
  ByHeld : Alive k a.c → (a.c.held i).mode ≡ mode → Claim k a i mode
  ByGrant : Alive k a.c → (stamp g : ℕ) → In (msg a.c.life a.c.epoch stamp (Granted i g mode)) a.net → a.c.seen i < g → Claim k a i mode
  ByReassert : a.s.up ≡ true → (life stamp : ℕ) (locks : ℕ → Lock) → In (msg life a.s.epoch stamp (Reassert locks)) a.net → (locks i).mode ≡ mode →
      Claim k a i mode

-- the server is down, or in grace
abbrev pub Frozen : Server → Type 0
Frozen s = (s.up ≡ false) ⊎ (s.grace ≡ true)

-- all clients of one server
pub record World : Type 0 where
  pub at : ℕ → Assoc

-- the server is one and the same
abbrev pub Shared : World → Type 0
Shared w = (c d : ℕ) → record { up : (w.at c).s.up ≡ (w.at d).s.up; grace : (w.at c).s.grace ≡ (w.at d).s.grace }

-- the server runs, and its grace is over
abbrev pub InService : Server → Type 0
InService s = record { up : s.up ≡ true; grace : s.grace ≡ false }

-- rows of two clients on a file are both shared
abbrev pub RowsCompat : World → Type 0
RowsCompat w = (c d i : ℕ) → c ≢ d → 1 ≤ ((w.at c).s.row i).mode → 1 ≤ ((w.at d).s.row i).mode → ((w.at c).s.row i).mode + ((w.at d).s.row i).mode ≤ 2

-- each association moves or stays; in service, the lock table keeps its rows compatible
pub record Step (k : Config) (w v : World) : Type 0 where
  pub each : (c : ℕ) → Move k (w.at c) (v.at c) ⊎ (v.at c ≡ w.at c)
  pub shared : Shared v
  pub table : InService (w.at 0).s → InService (v.at 0).s → RowsCompat w → RowsCompat v

-- a whole step of a node: each association makes any number of moves, and the table is looked at only before and after
pub record Work (k : Config) (w v : World) : Type 0 where
  pub each : (c : ℕ) → Moves k (w.at c) (v.at c)
  pub table : InService (w.at 0).s → InService (v.at 0).s → RowsCompat w → RowsCompat v

-- before the first move
abbrev pub BeginsAt : Assoc → Type 0
BeginsAt a =
    record {
      leased : a.c.leased ≡ false;
      born : 1 ≤ a.c.life;
      epoch : a.c.epoch ≡ 0;
      held : (i : ℕ) → a.c.held i ≡ no_lock;
      seen : (i : ℕ) → a.c.seen i ≡ 0;
      busy : (i : ℕ) → a.c.busy i ≡ false;
      ended : (l : ℕ) → a.c.ended l ≡ 0;
      drift : a.s.drift ≡ 0;
      up : a.s.up ≡ true;
      first : a.s.epoch ≡ 1;
      glife : a.s.glife ≡ 0;
      grace : a.s.grace ≡ false;
      session : a.s.session ≡ 0;
      live : a.s.live ≡ false;
      row : (i : ℕ) → a.s.row i ≡ no_row;
      timed : a.s.timed ≡ false;
      net : a.net ≡ [];
    }

-- the states that can be reached
pub data Reached (k : Config) : World → Type 0 where
  AtFirst : (w : World) → Shared w → ((c : ℕ) → BeginsAt (w.at c)) → Reached k w
  Then : {w v : World} → Reached k w → Step k w v → Reached k v
  Works : {w v : World} → Reached k w → Work k w v → Reached k v

-- two clients whose leases last hold no locks that conflict
abbrev pub Exclusive : Config → World → Type 0
Exclusive k w =
    (c d i : ℕ) → c ≢ d → Alive k (w.at c).c → Alive k (w.at d).c → 1 ≤ ((w.at c).c.held i).mode → 1 ≤ ((w.at d).c.held i).mode →
    ((w.at c).c.held i).mode + ((w.at d).c.held i).mode ≤ 2

-- what is reasserted in grace conflicts with no row of another client
abbrev pub NoConflict : World → Type 0
NoConflict w =
    (c d i life stamp : ℕ) (locks : ℕ → Lock) → c ≢ d → (w.at c).s.up ≡ true → (w.at c).s.grace ≡ true →
    In (msg life (w.at c).s.epoch stamp (Reassert locks)) (w.at c).net →
    1 ≤ (locks i).mode → 1 ≤ ((w.at d).s.row i).mode → (locks i).mode + ((w.at d).s.row i).mode ≤ 2

-- a timer that is over finds the lease at its end
abbrev pub TheftIsLate : Config → Assoc → Type 0
TheftIsLate k a =
    a.s.timed ≡ true → a.s.start + k.wait ≤ a.s.clock →
    record { present : a.c.leased ≡ true → a.c.date + k.lease ≤ a.c.clock; past : (l : ℕ) → a.c.ended l ≤ a.c.clock }

-- if a client holds an exclusive lock, no other client has a row
abbrev pub Alone : Config → World → Type 0
Alone k w = (c d i : ℕ) → c ≢ d → Alive k (w.at c).c → 2 ≤ ((w.at c).c.held i).mode → (w.at d).s.up ≡ true → ((w.at d).s.row i).mode ≡ 0

-- an exclusive lock has exactly its row's number, and no grant that is new to its client lands on it
abbrev pub Exactly : Config → Assoc → Type 0
Exactly k a =
    record {
      row : a.s.up ≡ true → a.c.epoch ≡ a.s.epoch → a.s.session ≡ a.c.life → Alive k a.c → (i : ℕ) → 2 ≤ (a.c.held i).mode → (a.c.held i).g ≡ (a.s.row i).g;
      lands : Alive k a.c → (stamp i g mode : ℕ) → In (msg a.c.life a.c.epoch stamp (Granted i g mode)) a.net → a.c.seen i < g → (a.c.held i).mode < 2;
      busy : (i : ℕ) → a.c.busy i ≡ true → 2 ≤ (a.c.held i).mode;
    }

-- one life of a client reasserts in an epoch: the one that it had when the epoch began
abbrev pub OneLife : Assoc → Type 0
OneLife a = (m : Msg) → a.s.up ≡ true → In m a.net → is_reassert m.body ≡ true → m.epoch ≡ a.s.epoch → m.life ≡ a.s.glife
