-- The order of locks in the association machine: the greatest number under which a file was changed, and who may change it next.
use Rattle.std.specs.Prelude.{◌≡◌, ◌≢◌, ℕ, ◌<◌, ◌≤◌, true, false}
use Rattle.st_protocol.specs.Assoc.{Alive, Assoc, Config, ConfigOk, Granted, In, Lock, Move, Moves, Reached, Reassert, World, msg, upd}

-- Numbers, one for each file, below every exclusive lock that a client has or may come to have without a new grant: below each
-- exclusive row; below each exclusive lock under a lease that lasts; below each exclusive grant on its way that is new to its client;
-- in grace, below each exclusive lock of a reassertion that may still be accepted; and below all that was granted.
pub record Below (k : Config) (H : ℕ → ℕ) (a : Assoc) : Type 0 where
  pub rows : (i : ℕ) → 2 ≤ (a.s.row i).mode → H i ≤ (a.s.row i).g
  pub held : Alive k a.c → (i : ℕ) → 2 ≤ (a.c.held i).mode → H i ≤ (a.c.held i).g
  pub comes : Alive k a.c → (stamp i g mode : ℕ) → In (msg a.c.life a.c.epoch stamp (Granted i g mode)) a.net → 2 ≤ mode → a.c.seen i < g → H i ≤ g
  pub asserts : a.s.up ≡ true → a.s.grace ≡ true → a.s.timed ≡ false → (life stamp : ℕ) (locks : ℕ → Lock) →
      In (msg life a.s.epoch stamp (Reassert locks)) a.net → a.s.session < life → (i : ℕ) → 2 ≤ (locks i).mode → H i ≤ (locks i).g
  pub top : (i : ℕ) → H i ≤ a.s.top

-- Each move leaves them below: a new lock is above all, and every other one was there before.
abbrev pub MovesStayAbove : Type 0
MovesStayAbove = (k : Config) (H : ℕ → ℕ) (w : World) (c : ℕ) (b : Assoc) → ConfigOk k → Reached k w → Below k H (w.at c) → Move k (w.at c) b → Below k H b

-- So does a list of moves.
abbrev pub ListsStayAbove : Type 0
ListsStayAbove = (k : Config) (H : ℕ → ℕ) (w : World) (c : ℕ) (b : Assoc) → ConfigOk k → Reached k w → Below k H (w.at c) → Moves k (w.at c) b → Below k H b

-- A change under a client's exclusive lock, whose number is the file's from now on, leaves them below the locks of all clients: no
-- other client has or may come to have such a lock on the file without a new grant. The number is among those that were granted.
abbrev pub ChangesStayBelow : Type 0
ChangesStayBelow =
    (k : Config) (H : ℕ → ℕ) (w : World) (c i : ℕ) → ConfigOk k → Reached k w → ((d : ℕ) → Below k H (w.at d)) → Alive k (w.at c).c →
    2 ≤ ((w.at c).c.held i).mode → ((d : ℕ) → ((w.at c).c.held i).g ≤ (w.at d).s.top) → (d : ℕ) → Below k (upd H i ((w.at c).c.held i).g) (w.at d)

-- So does a cut under a client's exclusive row, if no other client has such a row on the file.
abbrev pub CutsStayBelow : Type 0
CutsStayBelow =
    (k : Config) (H : ℕ → ℕ) (w : World) (c i : ℕ) → ConfigOk k → Reached k w → ((d : ℕ) → Below k H (w.at d)) → 2 ≤ ((w.at c).s.row i).mode →
    ((d : ℕ) → d ≢ c → ((w.at d).s.row i).mode < 2) → ((d : ℕ) → ((w.at c).s.row i).g ≤ (w.at d).s.top) → (d : ℕ) →
    Below k (upd H i ((w.at c).s.row i).g) (w.at d)
