use Rattle.std.proofs.Common.{sym, ◌∙◌, refl}
use Rattle.std.proofs.lemmas.Result.{err_from_is_err_and}
use Rattle.st_namespace.proofs.Rules.{told_refusal, remove_gone}
use Rattle.st_namespace.proofs.NameOrder.{gone_in_order}
use Rattle.st_namespace.proofs.names.Names.remove.Goals as goal

pub returns-in_err-ino-clause-exact : goal.returns-in_err-ino-clause-exact
returns-in_err-ino-clause-exact c =
    let p = err_from_is_err_and c.from_residual.result c.from_residual.ensures.1 in
    rw (p.1, p.2) (told_refusal _ _ c.in_err-ino.ensures, refl)

pub returns-clause-exact : goal.returns-clause-exact
returns-clause-exact c = rw (c.remove.ensures, ← c.self.view_is)
    (rw (← c.self.view_is) at (remove_gone c.args.self.now c.args.dir c.args.name.now c.in_ok-ino.ino c.in_ok-ino.ensures))

pub invariant_of-self : goal.invariant_of-self
invariant_of-self c = record {
  order =
      rw c.remove.ensures
      (gone_in_order (record { entries = c.self.inside.entries; next = c.self.inside.next; limit = c.self.inside.limit }) c.args.dir c.args.name.now c.self.invariant.order);
  small = c.self.invariant.small;
}

pub returns-clause-order : goal.returns-clause-order
returns-clause-order c = (invariant_of-self c).order
