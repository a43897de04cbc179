use Rattle.std.proofs.Common.{subst, sym, true≢false}
use Rattle.std.specs.Prelude.{IsSome}
use Rattle.st_extents.proofs.RunOrder.{between, last_between}
use Rattle.st_extents.proofs.run_map.last_up_to.Goals as goal

pub returns-in-Some-clause-last : goal.returns-in-Some-clause-last
returns-in-Some-clause-last c = λ k f l s.
    let r = c.range.ensures.in_range c.new.ensures.exhausted in
    let e = r.3 (c.in-Some.key.now, c.in-Some.run'.now) c.next_back.new.self c.in-Some.ensures.steps in
    last_between c.args.file c.args.page.0 c.new.result.start c.new.result.end c.new.ensures.start c.new.ensures.end c.in-Some.key.now k e.0.0 e.0.1
    (r.4 (c.in-Some.key.now, c.in-Some.run'.now) c.next_back.new.self c.in-Some.ensures.steps k (between c.args.file c.args.page.0 c.new.result.start c.new.result.end c.new.ensures.start c.new.ensures.end k f l) s)
    f

pub returns-in-None-clause-last : goal.returns-in-None-clause-last
returns-in-None-clause-last c = λ k f l s.
    let r = c.range.ensures.in_range c.new.ensures.exhausted in
    true≢false (sym (subst IsSome (r.5 c.in-None.ensures.steps.0 k (between c.args.file c.args.page.0 c.new.result.start c.new.result.end c.new.ensures.start c.new.ensures.end k f l)) s))
