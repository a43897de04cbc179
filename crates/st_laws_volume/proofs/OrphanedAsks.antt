-- What is known of the ask of a message that is orphaned.
use Rattle.st_lemmas.proofs.Words
use Words.{◌≡◌, ℕ, true, List, Some}
use Words.{Ask, ClientId, Message}
use Words.{Operation, ServerId}
use Words.ClientState as cs
use Words.Lists.{Has}
use Words.Safety.{Step}
use Words.World as world
use Words.World.{World}
use Rattle.st_laws_pages.proofs.Asks.World.{asks_of}
use Rattle.st_laws_requests.specs.Cuts.Cuts.{AsksFor, Between}
use Rattle.st_laws_cuts.specs.EndedRequests.{AllPast}
use Rattle.st_laws_names.proofs.Waiting.{Row}
use Rattle.st_laws_volume.proofs.EarlierRequests.{earlier}
use Rattle.st_laws_volume.proofs.SoonerAsks.{NoneSooner}
use Rattle.st_volume.specs.Volume as volume
use Rattle.st_volume.specs.Volume.{Volume, is_ask}

-- the ask of this number of a client is among these
abbrev pub IsIn : ClientId → ℕ → List volume.Pending → Type 0
IsIn c op xs = (a : volume.Pending) × Has a xs × (is_ask c op a ≡ true)

-- The ask of a message is orphaned, and no longer pending; and the requests of its life before it were served.
pub record OrphanOf (past : List Step) (w : World) (v : Volume) (c : ClientId) (s : ServerId) (os : List Operation) (m : Message) : Type 0 where
  pub op : ℕ
  pub ask : Ask
  pub asked : world.numbered (asks_of past c) op ≡ Some ask
  pub of : cs.server_of ask ≡ s
  pub means : AsksFor ask m.body
  pub row : Row past w c s m op
  pub gone : (o : Operation) → Has o os → o.op ≡ op → ⊥
  pub before : AllPast w c s (earlier m)
  pub between : Between c s m
  pub orphan : IsIn c op v.orphans
  pub sooner : NoneSooner v c op ask
