use Rattle.std.proofs.Common.{◌≡◌, ◌+◌, ◌-◌, ◌<◌, arith, length, subst, take, ◌∙◌}
use Rattle.st_base.specs.declared.ids.PageNo.{PageNo}
use Rattle.st_extents.specs.Places.{AreAdded, AreLastMapped}
use Rattle.st_extents.proofs.TakenBack.{is_last, last_back, one_back}
use Rattle.st_extents.proofs.extents.take_back.Goals as goal

abbrev first : PageNo
first = record { 0 = 0 }

pub take_back-requires : goal.take_back-requires
take_back-requires c =
    let more : c.loop-left.left ≡ c.loop-left.left - 1 + 1 = omega (arith, c.loop-left-test.true) in
    is_last c.args.file c.args.pages.now (c.loop-left.left - 1) first (omega (arith, c.loop-left-test.true, c.loop-left.invariant.within)) c.loop-left.mapping.births c.loop-left.mapping.rows
    (subst (λ n. AreLastMapped c.args.file (take n c.args.pages.now) c.loop-left.mapping.births c.loop-left.mapping.rows) more c.loop-left.invariant.last)

pub loop-left-preserved : goal.loop-left-preserved
loop-left-preserved c =
    let more : c.loop-left.left ≡ c.loop-left.left - 1 + 1 = omega (arith, c.loop-left-test.true) in
    let inside : c.loop-left.left - 1 < length c.args.pages.now = omega (arith, c.loop-left-test.true, c.loop-left.invariant.within) in
    record {
      own = c.take_back.ensures.own ∙ c.loop-left.invariant.own;
      last = last_back c.args.file c.args.pages.now (c.loop-left.left - 1) first inside c.loop-left.mapping.births c.loop-left.mapping.rows c.take_back.new.self.rows c.take_back.ensures.rows c.take_back.new.self.births c.take_back.ensures.births
          (subst (λ n. AreLastMapped c.args.file (take n c.args.pages.now) c.loop-left.mapping.births c.loop-left.mapping.rows) more c.loop-left.invariant.last);
      within = omega (arith, inside);
      back = λ rows births e h.
          let b = c.loop-left.invariant.back rows births e h in (
            omega (arith, b.0, c.take_back.ensures.births, more),
            one_back c.args.file c.args.pages.now (c.loop-left.left - 1) first inside c.loop-left.mapping.births c.loop-left.mapping.rows c.take_back.new.self.rows c.take_back.ensures.rows rows births
                (subst (λ n. AreAdded rows births c.args.file (take n c.args.pages.now) c.loop-left.mapping.rows) more b.1),
          );
    }
