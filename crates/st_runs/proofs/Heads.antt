-- What a head that was read says, and what has been read after it.
use Rattle.std.proofs.Common.{◌≡◌, ℕ, ◌+◌, ◌≤◌, List, sym, ◌∙◌, ap, arith}
use Rattle.std.specs.Prelude.{Ok}
use Rattle.st_base.specs.declared.config.Config.{Config}
use Rattle.st_messages.specs.declared.event.Counts.{Counts}
use Rattle.st_rules.specs.Safety.{IsHead}
use Rattle.st_schedule.specs.declared.reader.Line.{Line}
use Rattle.st_schedule.specs.declared.reader.Line.TheVariants as said
use Rattle.st_schedule.specs.declared.reader.Progress.{Progress}
use Rattle.st_schedule.specs.declared.reader.Progress.TheVariants as progress
use Rattle.st_schedule.specs.Reader.{nodes_of, read_line}
use Rattle.st_schedule.proofs.LinesAsSpelled.{line_is_read, line_is_spelled}
use Rattle.st_runs.proofs.Short.{read_short}
use Rattle.st_runs.proofs.Ranges.{head_within}

-- it is in its ranges
pub head_fits : (l : List ℕ) (k : Config) (n : Counts) (form : ℕ) (q : Progress) → read_line progress.Nothing l ≡ Ok (said.Head k n form, q) →
    IsHead k n.clients n.servers n.disks n.blocks form
head_fits l k n form q h = let s = line_is_spelled progress.Nothing l (said.Head k n form, q) tt h in head_within k n form s.0.0 s.1

-- it has a node
pub head_nodes : (l : List ℕ) (k : Config) (n : Counts) (form : ℕ) (q : Progress) → read_line progress.Nothing l ≡ Ok (said.Head k n form, q) →
    1 ≤ nodes_of n
head_nodes l k n form q h =
    let s = line_is_spelled progress.Nothing l (said.Head k n form, q) tt h in
    let some : 1 ≤ n.clients = s.0.0.1.0.0 in
    omega arith

-- no event has been read yet
pub after_head : (l : List ℕ) (k : Config) (n : Counts) (form : ℕ) (q : Progress) → read_line progress.Nothing l ≡ Ok (said.Head k n form, q) →
    q ≡ progress.Reading form n 0
after_head l k n form q h =
    let s = line_is_spelled progress.Nothing l (said.Head k n form, q) tt h in
    let read = sym h ∙ line_is_read progress.Nothing l (said.Head k n form) s (read_short progress.Nothing l (said.Head k n form, q) h).0 tt in
    let same : (said.Head k n form, q) ≡ (said.Head k n form, progress.Reading form n 0) = cc in
    ap (λ (y : Line × Progress). y.1) same
