-- What holds of each association of every client, with what is beside it, in a world of the third form: at its start, and after each event.
use Rattle.st_lemmas.proofs.Words
use Words.{◌≡◌, ℕ, None, Some, ClientId, Config, Stamp}
use Words.ClientPages as pages
use Words.ClientState.{Association}
use Words.Lists.{Has}
use Words.World.{WorldClient, site_of}
use Rattle.st_third.specs.declared.event.ThirdInput.{ThirdInput}
use Rattle.st_third.specs.declared.limits.Limits.{Limits}
use Rattle.st_third.specs.declared.output.ThirdOutput.{ThirdOutput}
use Rattle.st_third.specs.Limits.{limited_association}
use Rattle.st_third.specs.State.{Beside, ClientBeside, fresh_beside}
use Rattle.st_third.specs.World as worlds
use Rattle.st_third.specs.World.{ThirdWorld, third_world}
use Rattle.st_laws_third.proofs.AllNumbered as numbered
use Rattle.st_laws_third.proofs.Folds.{Keeps, KeepsBy, anything, keeps_by}
use Rattle.st_laws_third.proofs.Moves.{Moved}
use Rattle.st_laws_third.proofs.Sound.{Sound}
use Rattle.st_laws_third.proofs.Told.{Said_by}

module _ (good : Config → Limits → Association → Beside → Type 0) (fine : Limits → ThirdOutput → Type 0)
    (law : (k : Config) (m : Limits) (now : Stamp) → Keeps k m now (good k m) (fine m))
    (begun : (k : Config) (m : Limits) (a : Association) → a.session ≡ None → a.store ≡ pages.empty_store → good k m (limited_association m a) fresh_beside)
  where
    -- whatever the number of the next command is
    abbrev pub Good : Config → Limits → ℕ → Association → Beside → Type 0
    Good k m n = good k m

    pub owes : (k : Config) (m : Limits) (now : Stamp) → KeepsBy anything k m now (Good k m) (fine m)
    owes k m now = keeps_by k m now (good k m) (fine m) (law k m now)

    pub begins : (k : Config) (m : Limits) (n : ℕ) (a : Association) → a.session ≡ None → a.store ≡ pages.empty_store →
        Good k m n (limited_association m a) fresh_beside
    begins k m n = begun k m

    -- So it is with each client.
    abbrev pub AllGood : ThirdWorld → Type 0
    AllGood = numbered.AllGood Good fine owes begins

    pub good_after : (w v : ThirdWorld) → Sound w → AllGood w → Moved w v → AllGood v
    good_after = numbered.good_after Good fine owes begins

    -- each word of a client
    pub good_said : (w : ThirdWorld) → Sound w → AllGood w → (c : ClientId) (site : WorldClient) (b : ClientBeside) (input : ThirdInput) →
        site_of w.world c ≡ Some site → worlds.beside_of w c ≡ Some b → (o : ThirdOutput) → Has o (Said_by w c site b input) → fine w.limits o
    good_said = numbered.good_said Good fine owes begins

    pub good_first : (k : Config) (m : Limits) (clients servers disks blocks : ℕ) → AllGood (third_world k m clients servers disks blocks 3)
    good_first = numbered.good_first Good fine owes begins
