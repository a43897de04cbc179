-- In the association machine: a grant's number names its file.
use Rattle.std.specs.Prelude.{◌≡◌, ℕ, ◌≤◌, List}
use Rattle.st_protocol.specs.Assoc.{Assoc, Body, Config, ConfigOk, Demand, Granted, In, Msg, Reached, Reassert, World, msg}

-- a grant of this number on this file was sent
pub record Given (net : List Msg) (ino g : ℕ) : Type 0 where
  pub life : ℕ
  pub epoch : ℕ
  pub stamp : ℕ
  pub mode : ℕ
  pub is : In (msg life epoch stamp (Granted ino g mode)) net

-- the numbers that a message tells were given on their files
abbrev pub TellsGiven : List Msg → Body → Type 0
TellsGiven net (Granted i g mode) = Given net i g
TellsGiven net (Demand i g to) = Given net i g
TellsGiven net (Reassert locks) = (i : ℕ) → 1 ≤ (locks i).mode → Given net i (locks i).g
TellsGiven net body = Unit {0}

-- Messages: a number was given on one file, numbers begin with 1, and what is reported was given.
pub record NetNamed (net : List Msg) : Type 0 where
  pub one : (i j g : ℕ) → Given net i g → Given net j g → i ≡ j
  pub positive : (i g : ℕ) → Given net i g → 1 ≤ g
  pub told : (m : Msg) → In m net → TellsGiven net m.body

-- An association: so are its messages, and each row and each lock has a number that was given on its file.
pub record Named (a : Assoc) : Type 0 where
  pub net : NetNamed a.net
  pub rows : (i : ℕ) → 1 ≤ (a.s.row i).mode → Given a.net i (a.s.row i).g
  pub held : (i : ℕ) → 1 ≤ (a.c.held i).mode → Given a.net i (a.c.held i).g

-- In every state that can be reached numbers name their files.
abbrev pub NumbersNameFiles : Type 0
NumbersNameFiles = (k : Config) (w : World) → ConfigOk k → Reached k w → (c : ℕ) → Named (w.at c)
