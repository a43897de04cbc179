-- Where the reads go that a client's step submits, through the rules of a client.
use Rattle.std.specs.Prelude.{◌≡◌, ◌≤◌, ◌<◌, ◌⊎◌, ℕ, List, ◌++◌, Some}
use Rattle.st_base.specs.declared.disk.BlockAt.{BlockAt}
use Rattle.st_base.specs.declared.disk.Command.{Command}
use Rattle.st_base.specs.declared.disk.Command.TheVariants as commands
use Rattle.st_base.specs.declared.ids.Stamp.{Stamp}
use Rattle.st_messages.specs.declared.output.Output.{Output}
use Rattle.st_messages.specs.declared.output.Output.TheVariants as outputs
use Rattle.st_rules.specs.declared.client.IoKind.TheVariants as io
use Rattle.st_rules.specs.declared.client.MappedBlock.{MappedBlock}
use Rattle.st_rules.specs.declared.client.PageCommand.{PageCommand}
use Rattle.st_rules.specs.ClientPages as pages
use Rattle.st_rules.specs.ClientPages.{Store}
use Rattle.st_rules.specs.ClientState.{Association, ClientTurn, Turn}
use Rattle.st_lemmas.specs.Lists.{Has}

-- the page of a command is known to lie there
pub record KnownTo (st : Store) (pc : PageCommand) (to : BlockAt) : Type 0 where
  pub mapping : MappedBlock
  pub is : pages.mapping_of st.extents pc.ino pc.page ≡ Some mapping
  pub at : mapping.at ≡ to

-- if a read of this number goes among these outputs, its page is known to lie
abbrev pub GoesTo : Store → PageCommand → List Output → Type 0
GoesTo st pc os = (at to : BlockAt) → Has (outputs.Submit pc.number at (commands.Read to)) os → KnownTo st pc to

-- what is known of a command's page stays known
abbrev pub StaysKnown : Store → Store → PageCommand → Type 0
StaysKnown st su pc =
    (m : MappedBlock) → pages.mapping_of st.extents pc.ino pc.page ≡ Some m → pages.mapping_of su.extents pc.ino pc.page ≡ Some m

-- a read that rules began
pub record Begun (t u : Turn) (more : List Output) (pc : PageCommand) : Type 0 where
  pub low : t.next_command ≤ pc.number
  pub high : pc.number < u.next_command
  pub to : GoesTo u.here.store pc more

-- What rules of a pass leave of reads: those that were outstanding, their pages known as they were; and new ones, which go to where their
-- pages are known to lie.
pub record ReadsSent (now : Stamp) (t u : Turn) : Type 0 where
  pub low : t.next_command ≤ u.next_command
  pub more : List Output
  pub out : u.out ≡ t.out ++ more
  pub fresh : (n : ℕ) (at to : BlockAt) → Has (outputs.Submit n at (commands.Read to)) more → (t.next_command ≤ n) × (n < u.next_command)
  pub reads : (pc : PageCommand) → Has pc u.here.store.commands → pc.kind ≡ io.Read →
      (Has pc t.here.store.commands × StaysKnown t.here.store u.here.store pc) ⊎ Begun t u more pc

-- no output submits a command
abbrev pub SubmitsNone : List Output → Type 0
SubmitsNone os = (n : ℕ) (at : BlockAt) (what : Command) → Has (outputs.Submit n at what) os → ⊥

-- What rules leave that submit nothing: commands that were outstanding.
pub record Calm (now : Stamp) (t u : Turn) : Type 0 where
  pub more : List Output
  pub out : u.out ≡ t.out ++ more
  pub none : SubmitsNone more
  pub next : u.next_command ≡ t.next_command
  pub fewer : (pc : PageCommand) → Has pc u.here.store.commands → Has pc t.here.store.commands

-- the reads of an association: their numbers are below the next, and they go to where their pages are known to lie
pub record SentRight (next : ℕ) (out : List Output) (a : Association) : Type 0 where
  pub below : (pc : PageCommand) → Has pc a.store.commands → pc.kind ≡ io.Read → pc.number < next
  pub to : (pc : PageCommand) → Has pc a.store.commands → pc.kind ≡ io.Read → GoesTo a.store pc out

-- What holds of reads within a step of a client.
pub record AllSent (t : ClientTurn) : Type 0 where
  pub said : (n : ℕ) (at to : BlockAt) → Has (outputs.Submit n at (commands.Read to)) t.out → n < t.state.next_command
  pub right : (a : Association) → Has a t.state.associations → SentRight t.state.next_command t.out a

-- What holds before the passes of a step: nothing was submitted, and commands have numbers below the next.
pub record NoneSent (start : ℕ) (t : ClientTurn) : Type 0 where
  pub none : SubmitsNone t.out
  pub next : t.state.next_command ≡ start
  pub below : (a : Association) → Has a t.state.associations → (pc : PageCommand) → Has pc a.store.commands → pc.number < start
