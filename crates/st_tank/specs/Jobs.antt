-- What a call of the program does, by what its words ask for. docs/PROTOCOL.md, "The program".
use Rattle.std.specs.Prelude.{◌≡◌, ◌≤◌, ◌⊎◌, ℕ, List, Option, Some, None}
use Rattle.st_generate.specs.GeneratedText.{generate_text, work_text}
use Rattle.st_tank.specs.declared.words.Job.{Job}
use Rattle.st_tank.specs.declared.words.Job.TheVariants.{Replay, Script, Generate, Work, Node}
use Rattle.st_tank.specs.NodeEnds.{IsServed}
use Rattle.st_tank.specs.Scripts.{IsPlayed, played}
use Rattle.st_tank.specs.Status.{IsMade, IsReplayed}
use Rattle.st_tank.specs.Uses.{StreamUse, LinkUse, ClockUse, IsCut, IsWritten, LeavesLink, LeavesStreams}
use Rattle.st_tank.specs.Words.{USAGE, fault_text}

-- The words were wrong: the status is 2 if all of the usage was written and no call of the error sink failed, and 4 if one failed.
abbrev pub IsRefused : {Err : Type 0} → ℕ → StreamUse Err → Type 0
IsRefused status err = ((status ≡ 2) × IsWritten err USAGE) ⊎ ((status ≡ 4) × IsCut err USAGE)

-- A sink got a text: all of it was written and no call failed, or a prefix of it was written and a call failed.
abbrev pub GetsText : {Sink : Type 0} → StreamUse Sink → List ℕ → Type 0
GetsText sink text = IsWritten sink text ⊎ IsCut sink text

-- A status was explained: the error sink got its text; at 0 and 1 the sink was left as it was.
pub record IsExplained {Err : Type 0} (status : ℕ) (err : StreamUse Err) : Type 0 where
  pub quiet : status ≤ 1 → err.now ≡ err.before
  pub text : GetsText err (fault_text status)

-- What a call does, by the job and the name that its words ask for. Words that are wrong get the usage. The other jobs are a replay, a script,
-- the text of a schedule, and a node over the link. A call leaves what its job doesn't use as it was.
abbrev pub Does : {Input Output Err Link Clock : Type 0} → Option Job → List ℕ → ℕ →
    StreamUse Input → StreamUse Output → StreamUse Err → LinkUse Link → ClockUse Clock → Type 0
Does None name status input out err link clock = IsRefused status err × LeavesStreams input out × LeavesLink link clock
Does (Some Replay) name status input out err link clock = IsReplayed status input out × IsExplained status err × LeavesLink link clock
Does (Some (Script command)) name status input out err link clock =
    IsPlayed status input out (played command) × IsExplained status err × LeavesLink link clock
Does (Some (Generate n seed)) name status input out err link clock =
    IsMade status input out (generate_text n seed) × IsExplained status err × LeavesLink link clock
Does (Some (Work n seed)) name status input out err link clock =
    IsMade status input out (work_text n seed) × IsExplained status err × LeavesLink link clock
Does (Some (Node id)) name status input out err link clock = IsServed id name status err link clock × LeavesStreams input out
