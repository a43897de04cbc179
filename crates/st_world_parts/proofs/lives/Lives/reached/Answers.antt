use Rattle.std.proofs.Common.{◌≡◌, ap, ◌∙◌, ◌++◌, List, Result, Ok, Err}
use Rattle.std.specs.Prelude.{filter, OnOk}
use Rattle.st_rules.specs.declared.world.LeaseLife.{LeaseLife}
use Rattle.st_world_parts.specs.Clocks.{is_ahead, is_reached}
use Rattle.st_world_parts.proofs.Later.{filter_twice, reached_was_ahead}
use Rattle.st_world_parts.proofs.lives.Lives.reached.Goals as goal

on_ok : {E : Type 0} (r : Result Unit E) (xs ys zs : List LeaseLife) → OnOk r (xs ≡ ys) → ys ≡ zs → OnOk r (xs ≡ zs)
on_ok (Ok u) xs ys zs h q = h ∙ q
on_ok (Err e) xs ys zs h q = tt

pub returns : goal.returns
returns c =
    let clocks = c.self.inside.clocks.items in
    let steps = c.args.steps.now in
    rw (← c.self.view_is) (on_ok c.push_reached.result c.push_reached.new.found.items _ (c.args.found.now.items ++ filter (is_reached clocks steps) c.self.inside.ended.items) c.push_reached.ensures
    ((λ i. c.args.found.now.items ++ filter (is_reached (c.deref.ensures.value i) steps) ((c.deref-2.ensures.value ∙ c.self.invariant.later) i))
    ∙ ap (λ l. c.args.found.now.items ++ l) (filter_twice (is_reached clocks steps) (is_ahead clocks) c.self.inside.ended.items (reached_was_ahead clocks steps))))
