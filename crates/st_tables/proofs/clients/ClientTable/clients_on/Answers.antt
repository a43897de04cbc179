use Rattle.std.proofs.Common.{◌≡◌, ◌+◌, ◌++◌, ◌∷◌, [], ◌∙◌, sym, ap, arith, map, filter, if◌then◌else◌}
use Rattle.st_rules.specs.Keys.{client}
use Rattle.st_tables.proofs.RisingKeys.{numbers, probe_more}
use Rattle.st_tables.proofs.ClientRows.{looked, clients_looked}
use Rattle.st_tables.proofs.clients.ClientTable.clients_on.Goals as goal

pub loop-i-preserved : goal.loop-i-preserved
loop-i-preserved g c =
    c.in_ok-push_if.ensures ∙ (λ j. c.loop-i.invariant j ++ (if c.has_in.ensures j then client (c.loop-i.i + 1) ∷ [] else []))
    ∙ sym (probe_more (looked g.V.Row.key_of c.args.second (g.T.Test.passes c.args.test.now) c.args.self.now) c.loop-i.i)

pub returns : goal.returns
returns g c =
    let end : c.loop-i.i ≡ 16 = omega arith in
    c.loop-i.invariant ∙ ap (λ n. map client (filter (looked g.V.Row.key_of c.args.second (g.T.Test.passes c.args.test.now) c.args.self.now) (numbers 1 n))) end
    ∙ ap (map client) (sym (clients_looked g.V.Row.key_of c.args.second (g.T.Test.passes c.args.test.now) c.args.self.now c.len-len.ensures.clients))
