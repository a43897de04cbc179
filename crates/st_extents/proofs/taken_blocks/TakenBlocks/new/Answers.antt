use Rattle.std.proofs.Common.{ap, filter, length, ◌∙◌, sym}
use Rattle.std.specs.Prelude.{not}
use Rattle.st_extents.proofs.FreeRuns.{all_in_one, one_below, told_new}
use Rattle.st_extents.proofs.TakenPlaces.{all_free}
use Rattle.st_extents.proofs.taken_blocks.TakenBlocks.new.Goals as goal

pub invariant_of-result : goal.invariant_of-result
invariant_of-result c = record {
  below = one_below c.in_ok-all_free.field-0.items c.args.places c.in_ok-all_free.ensures.runs;
  counted = all_free c.args.places ∙ ap (λ ts. length (filter not ts)) (sym (told_new c.in_ok-all_free.field-0.items c.args.places (all_in_one c.in_ok-all_free.field-0.items c.args.places c.in_ok-all_free.ensures.runs)));
  room = c.in_ok-all_free.ensures.room;
  fits = c.requires;
}

pub returns : goal.returns
returns c = told_new c.in_ok-all_free.field-0.items c.args.places (all_in_one c.in_ok-all_free.field-0.items c.args.places c.in_ok-all_free.ensures.runs)
