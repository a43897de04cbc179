use Rattle.st_tables.proofs.Sets.{gains_there, keeps_there}
use Rattle.st_tables.proofs.owned_numbers.add_there.Goals as goal

pub returns-in-Some-clause-ok : goal.returns-in-Some-clause-ok
returns-in-Some-clause-ok c = gains_there c.args.owned.now.items c.args.under c.in-Some.numbers.now c.add.new.numbers c.requires c.in-Some.ensures.value c.add.result c.args.number c.add.ensures.ok

pub returns-in-Some-clause-err : goal.returns-in-Some-clause-err
returns-in-Some-clause-err c = keeps_there c.args.owned.now.items c.args.under c.in-Some.numbers.now c.add.new.numbers c.requires c.in-Some.ensures.value c.add.result c.add.ensures.err
