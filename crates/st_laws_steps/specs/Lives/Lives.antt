-- The lives of leases in the world: those that ended, with the ends that they had, and the present ones.
use Rattle.std.specs.Prelude.{◌≡◌, ℕ, ◌≤◌, ◌<◌, ◌⊎◌, Bool, true, false, if◌then◌else◌, List, [], ◌∷◌, ◌++◌, find, map, unwrap_or, Some, None}
use Rattle.st_base.specs.declared.config.Config.{Config}
use Rattle.st_base.specs.declared.ids.ClientId.{ClientId}
use Rattle.st_base.specs.declared.ids.ServerId.{ServerId}
use Rattle.st_base.specs.declared.ids.Life.{Life}
use Rattle.st_base.specs.declared.ids.Stamp.{Stamp}
use Rattle.st_messages.specs.declared.output.Note.TheVariants as notes
use Rattle.st_messages.specs.declared.output.Output.{Output}
use Rattle.st_messages.specs.declared.output.Output.TheVariants as outputs
use Rattle.st_rules.specs.declared.log.LogEntry.{LogEntry}
use Rattle.st_rules.specs.declared.log.LogOwner.{LogOwner}
use Rattle.st_rules.specs.declared.world.IssuedCommand.{IssuedCommand}
use Rattle.st_rules.specs.declared.world.LeaseLife.{LeaseLife}
use Rattle.st_rules.specs.Client as cl
use Rattle.st_rules.specs.ClientState.{Association, ClientState, is_at}
use Rattle.st_rules.specs.World.{World, WorldClient, numbered, is_life_of, ended_of}
use Rattle.st_rules.specs.Events as ev
use Rattle.st_lemmas.specs.Lists.{Has}
use Rattle.st_laws_steps.specs.Client.Losses.{Fit, SessionNext, is_ended}

-- Losses of a step.

-- the life that a note says to be lost, with the end that its lease had before the step
abbrev pub lost_row : ClientId → ClientState → ServerId → Life → LeaseLife
lost_row c before s life = ev.life_over c s life (cl.lease_end_with before s)

-- the lives that an output says to be lost
abbrev pub rows_said : ClientId → ClientState → Output → List LeaseLife
rows_said c before (outputs.Note (notes.Lost s life)) = lost_row c before s life ∷ []
rows_said c before o = []

-- the lives that the outputs say to be lost, in order
unfoldable pub ended_rows : ClientId → ClientState → List Output → List LeaseLife
ended_rows c before [] = []
ended_rows c before (o ∷ os) = rows_said c before o ++ ended_rows c before os

-- the row of an association whose lease has ended
unfoldable pub row_lost : ClientId → ClientState → Stamp → Association → List LeaseLife
row_lost c before now a = if is_ended before.config now a.session then lost_row c before a.server a.life ∷ [] else []

-- the rows of all whose leases have
unfoldable pub rows_lost : ClientId → ClientState → Stamp → List Association → List LeaseLife
rows_lost c before now [] = []
rows_lost c before now (a ∷ al) = row_lost c before now a ++ rows_lost c before now al

-- An association before and after a step: a lease that has ended leaves the next life; any other one goes on.
pub record LifeNext (now : Stamp) (before : ClientState) (a b : Association) : Type 0 where
  pub server : a.server ≡ b.server
  pub fit : Fit a → Fit b
  pub lasts : is_ended before.config now a.session ≡ false → (a.life ≡ b.life) × SessionNext before.config now a.session b.session
  pub lost : is_ended before.config now a.session ≡ true → cl.next_life a.life ≡ b.life

-- two lists, row by row
abbrev pub Pairwise : {A : Type 0} → (A → A → Type 0) → List A → List A → Type 0
Pairwise R [] [] = Unit {0}
Pairwise R [] (y ∷ ys) = ⊥
Pairwise R (x ∷ xs) [] = ⊥
Pairwise R (x ∷ xs) (y ∷ ys) = record { one : R x y; rest : Pairwise R xs ys }

-- What a step of a client does to its lives.
pub record Stepped (now : Stamp) (c : ClientId) (before after : ClientState) (out : List Output) : Type 0 where
  pub id : before.id ≡ after.id
  pub config : before.config ≡ after.config
  pub pairs : Pairwise (LifeNext now before) before.associations after.associations
  pub rows : ended_rows c before out ≡ rows_lost c before now before.associations

-- Lives in the world, by its parts: the clocks, the clients and the lives that ended.

-- no number occurs twice
abbrev pub Once : List ℕ → Type 0
Once [] = Unit {0}
Once (n ∷ ns) = record { first : (m : ℕ) → Has m ns → n ≡ m → ⊥; rest : Once ns }

-- the number of an association's server
abbrev pub server_number : Association → ℕ
server_number a = a.server.0

-- a client's clock
abbrev pub clock_in : List Stamp → ClientId → Stamp
clock_in ts c = unwrap_or (numbered ts c.0) (record { 0 = 0 })

-- the life of a client at a server has ended, or it is the present one
abbrev pub IsKnown : List WorldClient → List LeaseLife → ClientId → ServerId → Life → Type 0
IsKnown cs es c s l = ((e : LeaseLife) × (find (is_life_of c s l) es ≡ Some e)) ⊎ ((ev.life_of_site s (numbered cs c.0)).0 ≡ l.0)

-- the lives that ended are below the present one, or it is among them if the client does not run
pub record IsBelow (running : Bool) (e : LeaseLife) (a : Association) : Type 0 where
  pub up_to : e.life.0 ≤ a.life.0
  pub below : running ≡ true → e.life.0 < a.life.0

-- if a client does not run it has no session, and its lives are among those that ended
pub record IsStopped (es : List LeaseLife) (c : ClientId) (a : Association) : Type 0 where
  pub session : a.session ≡ None
  pub row : LeaseLife
  pub is : find (is_life_of c a.server a.life) es ≡ Some row

-- What holds of a client's node: its associations are of one server each and fit.
pub record NodeHolds (k : Config) (ts : List Stamp) (es : List LeaseLife) (c : ClientId) (node : cl.ClientNode) : Type 0 where
  pub id : node.state.id ≡ c
  pub config : node.state.config ≡ k
  pub once : Once (map server_number node.state.associations)
  pub fit : (a : Association) → Has a node.state.associations → Fit a
  pub stopped : node.running ≡ false → (a : Association) → Has a node.state.associations → IsStopped es c a
  pub born : (a : Association) → Has a node.state.associations → 1 ≤ a.life.0
  pub clock : Stamp
  pub ticks : numbered ts c.0 ≡ Some clock
  pub below : (e : LeaseLife) → Has e es → e.client ≡ c → (a : Association) → find (is_at e.server) node.state.associations ≡ Some a → IsBelow node.running e a

-- What holds of a life that ended: it belongs to an existing client, it occurs once, and its lease is over or a crash ended it.
pub record EndedHolds (ts : List Stamp) (cs : List WorldClient) (es : List LeaseLife) (e : LeaseLife) : Type 0 where
  pub site : WorldClient
  pub there : numbered cs e.client.0 ≡ Some site
  pub born : 1 ≤ e.life.0
  pub self : find (is_life_of e.client e.server e.life) es ≡ Some e
  pub over : e.crashed ≡ false → (t : Stamp) × (e.end ≡ Some t) × (t.0 ≤ (clock_in ts e.client).0)

-- the owner of an entry
abbrev pub owner_of : LogEntry → LogOwner
owner_of e = e.of

-- What holds of the lives in a world.
pub record LivesAreKept (k : Config) (ts : List Stamp) (cs : List WorldClient) (es : List LeaseLife) : Type 0 where
  pub sites : (c : ClientId) (site : WorldClient) → numbered cs c.0 ≡ Some site → NodeHolds k ts es c site.node
  pub ends : (e : LeaseLife) → Has e es → EndedHolds ts cs es e

-- the lives of all commands and entries are known
pub record AllKnown (cs : List WorldClient) (es : List LeaseLife) (xs : List IssuedCommand) (os : List LogOwner) : Type 0 where
  pub commands : (x : IssuedCommand) → Has x xs → IsKnown cs es x.client x.server x.life
  pub owners : (o : LogOwner) → Has o os → IsKnown cs es o.client o.file.server o.life

-- What holds of the lives in a world, and of those that its commands and entries name.
pub record LivesHold (w : World) : Type 0 where
  pub lives : LivesAreKept w.config w.clocks w.clients w.ended
  pub known : AllKnown w.clients w.ended w.commands (map owner_of w.log)

-- the commands of a client are of lives that ended, or of its present ones
abbrev pub CrashLives : World → ClientId → Type 0
CrashLives w c =
    (k : ℕ) (x : IssuedCommand) → numbered w.commands k ≡ Some x → x.client ≡ c → ended_of w x.client x.server x.life ≡ None →
    (ev.present_life w x.client x.server).0 ≡ x.life.0
