use Rattle.std.proofs.Common.{◌≡◌, List, ℕ, ap, sym, ◌∙◌, ◌++◌, length, take, drop}
use Rattle.std.specs.Prelude.{filter}
use Rattle.std.proofs.Math.Seq.{take-append_seam}
use Rattle.st_base.specs.declared.ids.Stamp.{Stamp}
use Rattle.st_rules.specs.declared.world.LeaseLife.{LeaseLife}
use Rattle.st_rules.specs.Events.{advanced}
use Rattle.st_world_parts.specs.Clocks.{is_ahead}
use Rattle.st_world_parts.proofs.Later.{filter_twice, ahead_was_ahead}
use Rattle.st_world_parts.proofs.lives.Lives.advance.Goals as goal

written_back : {X : Type 0} (xs ys : List X) (k : ℕ) → length xs ≡ k → take k (xs ++ ys) ≡ xs
written_back xs ys k h = ap (λ n. take n (xs ++ ys)) (sym h) ∙ take-append_seam xs ys

stays_later : (steps : List ℕ) (clocks new : List Stamp) (ended : List LeaseLife) → length steps ≡ length clocks → new ≡ advanced steps clocks →
    filter (is_ahead new) (filter (is_ahead clocks) ended) ≡ filter (is_ahead new) ended
stays_later steps clocks new ended l h =
    filter_twice (is_ahead new) (is_ahead clocks) ended (λ e k. ahead_was_ahead clocks steps e l (sym (ap (λ ts. is_ahead ts e) h) ∙ k))

pub invariant_of-self : goal.invariant_of-self
invariant_of-self c =
    let new = take c.self.inside.clocks.len (c.advance.new.clocks ++ drop (length c.advance.new.clocks) c.self.inside.clocks.items) in
    let back = written_back c.advance.new.clocks (drop (length c.advance.new.clocks) c.self.inside.clocks.items) c.self.inside.clocks.len (c.advance.ensures.len ∙ c.deref_mut.ensures.len) in
    let all : new ≡ advanced c.args.steps.now c.self.inside.clocks.items = back ∙ c.advance.ensures.exact ∙ ap (advanced c.args.steps.now) c.deref_mut.ensures.value in
    let each : length c.args.steps.now ≡ length c.self.inside.clocks.items = c.requires.each ∙ sym (ap (λ l. length l.clocks) c.self.view_is) in
    record {
      first = c.self.invariant.first;
      later = c.keep_ahead.ensures
          ∙ (λ i. filter (is_ahead (c.deref.ensures.value i)) (c.self.invariant.later i))
          ∙ stays_later c.args.steps.now c.self.inside.clocks.items new c.self.inside.ended.items each all;
    }
