use Rattle.std.proofs.Common.{ap, ◌∙◌}
use Rattle.std.specs.Prelude.{slice_get}
use Rattle.st_rules.specs.Keys.{client, least}
use Rattle.st_lock_tables.proofs.Installing.{first_map}
use Rattle.st_lock_tables.proofs.table.PlainTable.holder_against.Goals as goal

pub returns : goal.returns
unfolding least
returns c =
    rw (← c.self.view_is)
    (c.first_of.ensures ∙ ap (λ xs. slice_get xs 0) (c.as_slice.ensures.value ∙ c.in_ok-clients.ensures) ∙ first_map client _)
