use Rattle.std.proofs.Common.{◌≡◌, ◌<◌, arith, get_or, length, sym, ◌∙◌}
use Rattle.std.proofs.lemmas.List.{get_or_default}
use Rattle.st_base.specs.declared.disk.BlockAt.{BlockAt}
use Rattle.st_extents.proofs.RestoredPages.{none_other, none_past}
use Rattle.st_extents.proofs.mapping.own_place.Goals as goal

abbrev nowhere : BlockAt
nowhere = record { disk = record { 0 = 0 }; block = 0 }

pub returns-then-place-own-clause-none : goal.returns-then-place-own-clause-none
returns-then-place-own-clause-none c =
    none_past c.args.own.now c.args.at c.requires c.first_from-place.result c.first_from-place.ensures.below c.first_from-place.ensures.above
    (omega (arith, c.if-place-own.true))

pub returns-else-same_block-clause-none : goal.returns-else-same_block-clause-none
returns-else-same_block-clause-none c =
    let own = c.args.own.now in
    let i = c.first_from-place.result in
    let inside : i < length own = omega (arith, c.if-place-own.false) in
    none_other own c.args.at c.requires i c.first_from-place.ensures.below c.first_from-place.ensures.above (get_or own i nowhere) inside
    (get_or_default own i nowhere (get_or own i nowhere) inside) (sym c.same_block.ensures ∙ c.if-same_block.false)
