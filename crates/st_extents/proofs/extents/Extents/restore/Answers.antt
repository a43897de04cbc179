use Rattle.std.proofs.Common.{◌≡◌, ◌≤◌, arith, subst, sym, ◌∙◌}
use Rattle.std.proofs.lemmas.Result.{err_from_is_err_and}
use Rattle.st_base.specs.declared.disk.BlockAt.{BlockAt}
use Rattle.st_extents.specs.Layout.{Shape}
use Rattle.st_extents.specs.Restored.{AreLaid}
use Rattle.st_extents.proofs.BlockOrder.{own_in_order}
use Rattle.st_extents.proofs.RestoredPages.{births_refused, laid_sound, refused_all}
use Rattle.st_extents.proofs.extents.Extents.restore.Goals as goal
use Rattle.st_extents.proofs.extents.Extents.restore.Goals.{then-births-via-then-births, then-births-via-else-births+then-births-ge9223372036854775808}

pub new-requires-clause-order : goal.new-requires-clause-order
new-requires-clause-order c = rw c.in_ok-own.ensures.blocks (own_in_order _ (omega (arith, c.requires.few_blocks)))

pub returns-in_err-lay_all-clause-err : goal.returns-in_err-lay_all-clause-err
returns-in_err-lay_all-clause-err c =
    let p = err_from_is_err_and c.from_residual-in_err-lay_all.result c.from_residual-in_err-lay_all.ensures.1 in
    let s : Shape = record { server = c.args.server; servers = c.args.servers; disks = c.args.disks; blocks = c.args.blocks } in
    rw (p.1, p.2)
    (refused_all c.in_err-lay_all.field-0.0 s c.in_ok-mapping.mapping.own c.args.rows.now c.args.births
    (c.in_ok-mapping.ensures.own ∙ c.in_ok-own.ensures.blocks) c.in_err-lay_all.ensures.err)

pub returns-then-births-clause-err : goal.returns-then-births-clause-err
returns-then-births-clause-err c =
    let s : Shape = record { server = c.args.server; servers = c.args.servers; disks = c.args.disks; blocks = c.args.blocks } in
    births_refused s c.in_ok-mapping.mapping.own c.args.rows.now c.lay_all.new.mapping.births c.args.births c.in_ok-lay_all.ensures.laid
    (λ l m. elim c.then-births.branch [
      | then-births-via-then-births w ↦ omega (arith, w.if-births.true, l, c.births.ensures)
      | then-births-via-else-births+then-births-ge9223372036854775808 w ↦ omega (arith, w.if-births-ge9223372036854775808.true, m)
    ])

pub invariant_of-result : goal.invariant_of-result
invariant_of-result c =
    let s : Shape = record { server = c.args.server; servers = c.args.servers; disks = c.args.disks; blocks = c.args.blocks } in
    let laid : AreLaid c.in_ok-own.own.items c.lay_all.new.mapping.births c.args.rows.now =
    subst (λ o. AreLaid o c.lay_all.new.mapping.births c.args.rows.now) c.in_ok-mapping.ensures.own c.in_ok-lay_all.ensures.laid in
    record {
      own = c.pass.ensures.own ∙ c.lay_all.ensures.own ∙ c.in_ok-mapping.ensures.own ∙ c.in_ok-own.ensures.blocks;
      sound = rw (c.pass.ensures.rows, c.in_ok-lay_all.ensures.rows, c.pass.ensures.births)
          (laid_sound s c.in_ok-own.own.items c.args.rows.now c.lay_all.new.mapping.births c.args.births c.in_ok-own.ensures.blocks c.in_ok-own.ensures.few laid
          (omega (arith, c.if-births.false, c.births.ensures)) (omega (arith, c.if-births-ge9223372036854775808.false)));
    }

pub returns-clause-owned : goal.returns-clause-owned
returns-clause-owned c = (invariant_of-result c).sound.owned
