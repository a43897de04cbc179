use Rattle.std.proofs.Common.{refl, inl}
use Rattle.std.proofs.lemmas.Result.{err_from_is_err_and}
use Rattle.st_namespace.proofs.Rules.{told_refusal, rename_gives}
use Rattle.st_namespace.proofs.NameOrder.{renamed_in_order}
use Rattle.st_namespace.proofs.names.Names.rename.Goals as goal

pub returns-in_err-ino-clause-exact : goal.returns-in_err-ino-clause-exact
returns-in_err-ino-clause-exact c =
    let p = err_from_is_err_and c.from_residual.result c.from_residual.ensures.1 in
    rw (p.1, p.2) (inl (told_refusal _ _ c.in_err-ino.ensures.told), refl)

pub returns-clause-exact : goal.returns-clause-exact
returns-clause-exact c = rw (c.rename.ensures, c.in-Ok.ensures, ← c.self.view_is)
    (rw (← c.self.view_is) at (rename_gives c.args.self.now c.args.dir c.args.name.now c.args.dir2 c.args.name2.now c.in_ok-ino.ino c.in_ok-ino.ensures.told))

pub invariant_of-self : goal.invariant_of-self
invariant_of-self c = record {
  order = rw (c.rename.ensures, c.in-Ok.ensures)
      (renamed_in_order c.args.dir c.args.name.now c.args.dir2 c.args.name2.now
      (record { entries = c.self.inside.entries; next = c.self.inside.next; limit = c.self.inside.limit })
      c.self.invariant.order (rw (← c.self.view_is) at c.in_ok-ino.ensures.free));
  small = c.self.invariant.small;
}

pub returns-clause-order : goal.returns-clause-order
returns-clause-order c = (invariant_of-self c).order
