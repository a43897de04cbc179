-- What holds of a server within a step, after the thefts.
use Rattle.std.specs.Prelude.{◌≡◌, ◌≤◌, ◌<◌, ◌+◌, ℕ, Option}
use Rattle.st_base.specs.declared.config.Config.{Config}
use Rattle.st_base.specs.declared.ids.Stamp.{Stamp}
use Rattle.st_rules.specs.declared.authority.Suspect.{Suspect}
use Rattle.st_rules.specs.Authority.{Authority}
use Rattle.st_rules.specs.Grace.{Grace}
use Rattle.st_rules.specs.Server.{ServerTurn}
use Rattle.st_lemmas.specs.Lists.{Has}
use Rattle.st_laws_waits.specs.Bounds.{RowsInTime}

-- each timer began before now, and is not over
abbrev pub TimersRun : ℕ → Authority → Type 0
TimersRun now a = (x : Suspect) → Has x a.suspects → (x.start.0 ≤ now) × (now < x.start.0 + a.wait)

-- a step so far, after the thefts, if the last tick was before this moment
pub record WithinStep (k : Config) (wait last : ℕ) (now : Stamp) (g : Option Grace) (t : ServerTurn) : Type 0 where
  pub config : t.state.config ≡ k
  pub wait_is : t.state.authority.wait ≡ wait
  pub grace : t.state.grace ≡ g
  pub rows : RowsInTime last now.0 k.demand t.state.authority t.state.locks
  pub timers : TimersRun now.0 t.state.authority
