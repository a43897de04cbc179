use Rattle.std.proofs.Common.{◌∙◌, sym, ap}
use Rattle.st_tables.proofs.Places.{at_found, any_at_key}
use Rattle.st_tables.proofs.table.Table.has.Goals as goal

pub returns-in-Some : goal.returns-in-Some
returns-in-Some g c =
    c.test.ensures ∙ ap (at_found (g.T.Test.passes c.args.test.now)) c.in-Some.ensures.found
    ∙ sym (any_at_key g.V.Row.key_of (g.T.Test.passes c.args.test.now) c.args.key c.args.self.now c.len-len.ensures.distinct)

pub returns-in-None : goal.returns-in-None
returns-in-None g c =
    ap (at_found (g.T.Test.passes c.args.test.now)) c.in-None.ensures.found
    ∙ sym (any_at_key g.V.Row.key_of (g.T.Test.passes c.args.test.now) c.args.key c.args.self.now c.len-len.ensures.distinct)
