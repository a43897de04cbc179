use Rattle.std.proofs.Common.{◌≡◌, ◌+◌, ◌<◌, true, false, ap, arith, get_or, length, sym, ◌∙◌}
use Rattle.std.specs.Prelude.{is_some}
use Rattle.st_extents.proofs.LaidPages.{laid_push}
use Rattle.st_extents.proofs.RestoredPages.{among_at, told_at}
use Rattle.st_extents.proofs.mapping.Mapping.lay.Goals as goal

pub invariant_of-self-2 : goal.invariant_of-self-2
invariant_of-self-2 c =
    let own = c.self.inside.own.items in
    rw (c.take_at.ensures, c.in_ok-push.ensures.rows, c.pass.ensures.rows)
    (laid_push own c.self.inside.taken c.self.inside.runs.rows c.self.invariant
    (record { file = c.args.extent.file; page = c.args.extent.page; at = c.args.extent.at; birth = c.pass.new.self.births + 1 }) c.in-Some.place
    (rw c.as_slice.ensures.value at c.in-Some.ensures.within)
    (sym (c.is_taken.ensures true) ∙ c.if-is_taken.false)
    (λ d. rw c.as_slice.ensures.value at (c.in-Some.ensures.there d))
    (rw (← c.self.view_is) at (ap is_some (sym c.get.ensures) ∙ sym c.is_some.ensures ∙ c.if-is_some.false)))

pub returns-clause-fits : goal.returns-clause-fits
returns-clause-fits c =
    let own = c.self.inside.own.items in
    let within : c.in-Some.place < length own = rw c.as_slice.ensures.value at c.in-Some.ensures.within in
    record {
      born = omega (arith, c.if-extent-births.false, c.births.ensures);
      few = omega (arith, c.if-extent-ge9223372036854775808.false);
      low = omega (arith, c.if-extent-ge1048576.false);
      page = ap is_some (sym c.get.ensures) ∙ sym c.is_some.ensures ∙ c.if-is_some.false;
      own = rw (← c.self.view_is)
          (among_at own c.self.inside.taken c.self.inside.runs.rows c.self.invariant c.in-Some.place c.args.extent.at within
          (λ d. rw c.as_slice.ensures.value at (c.in-Some.ensures.there d)));
      block = rw (← c.self.view_is)
          (sym (told_at own c.self.inside.taken c.self.inside.runs.rows c.self.invariant c.in-Some.place c.args.extent.at within
          (λ d. rw c.as_slice.ensures.value at (c.in-Some.ensures.there d)) true)
          ∙ sym (c.is_taken.ensures true) ∙ c.if-is_taken.false);
    }
