use Rattle.std.proofs.Common.{◌≡◌, ◌+◌, ◌∙◌, ap, arith, filter}
use Rattle.std.specs.Prelude.{not}
use Rattle.st_tables.specs.Tables.{has_key}
use Rattle.st_tables.proofs.Places.{key_on}
use Rattle.st_tables.proofs.ClientRows.{is_dropped, none_dropped, one_dropped, all_dropped}
use Rattle.st_tables.proofs.clients.ClientTable.drop_on.Goals as goal

pub loop-i-init : goal.loop-i-init
loop-i-init g c = none_dropped g.V.Row.key_of c.args.second c.args.self.now c.len-len.ensures.clients

pub loop-i-preserved : goal.loop-i-preserved
loop-i-preserved g c =
    c.remove.ensures ∙ ap (filter (λ v. not (has_key g.V.Row.key_of (key_on (c.loop-i.i + 1) c.args.second) v))) c.loop-i.invariant
    ∙ one_dropped g.V.Row.key_of c.args.second c.loop-i.i c.args.self.now

pub returns : goal.returns
returns g c =
    let end : c.loop-i.i ≡ 16 = omega arith in
    c.loop-i.invariant ∙ ap (λ n. filter (λ v. not (is_dropped g.V.Row.key_of c.args.second n v)) c.args.self.now) end
    ∙ all_dropped g.V.Row.key_of c.args.second c.args.self.now c.len-len.ensures.clients
