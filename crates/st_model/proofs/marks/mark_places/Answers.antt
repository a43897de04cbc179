use Rattle.std.proofs.Common.{rules, ap, ◌∙◌, refl, []}
use Rattle.st_model.specs.Walks as walks
use Rattle.st_model.proofs.Walks.{walk_all, left_all, place_below_now}
use Rattle.st_model.proofs.marks.mark_places.Goals as goal

pub loop-i-init : goal.loop-i-init
loop-i-init g c =
    let next = g.M.Marking.becomes c.args.marking.now in
    record {
      kept = search rules;
      places = refl;
      entries = refl;
      rest = refl;
      walked = ap (λ ks. walks.walk next ks c.args.entries.now) c.requires ∙ walk_all next [] c.args.entries.now 0 refl;
      left = ap (λ ks. walks.left next ks c.args.entries.now) c.requires ∙ left_all next [] c.args.entries.now 0 refl;
    }

pub next_at-fate-requires : goal.next_at-fate-requires
next_at-fate-requires g c = place_below_now c.args.entries.now _ _ _ _ _ c.requires c.loop-i.invariant.rest c.loop-i.invariant.places c.loop-i.invariant.entries (search rules)

pub put_fate-requires : goal.put_fate-requires
put_fate-requires g c = place_below_now c.args.entries.now _ _ _ _ _ c.requires c.loop-i.invariant.rest c.loop-i.invariant.places c.loop-i.invariant.entries (search rules)
