use Rattle.std.proofs.Common.{◌∙◌, sym, ap, find}
use Rattle.std.specs.Prelude.{slice_get}
use Rattle.st_tables.proofs.Indexes.{first_on, none_on, on}
use Rattle.st_tables.proofs.clients.ClientTable.first_on.Goals as goal

pub returns-in-None : goal.returns-in-None
returns-in-None g c =
    sym (none_on g.V.Row.key_of c.args.second c.self.inside.table (c.in-None.ensures ∙ ap (λ l. slice_get l 0) (c.queue.ensures ∙ c.self.invariant.queued c.args.second))) ∙ ap (find (on g.V.Row.key_of c.args.second)) c.self.view_is

pub returns-in-Some : goal.returns-in-Some
returns-in-Some g c =
    c.copied.ensures ∙ c.get.ensures.found
    ∙ first_on g.V.Row.key_of c.args.second c.in-Some.first c.self.inside.table (c.in-Some.ensures ∙ ap (λ l. slice_get l 0) (c.queue.ensures ∙ c.self.invariant.queued c.args.second)) ∙ ap (find (on g.V.Row.key_of c.args.second)) c.self.view_is
