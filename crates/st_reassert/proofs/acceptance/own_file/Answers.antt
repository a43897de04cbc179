use Rattle.std.proofs.Common.{◌≡◌, ℕ, suc, List, ◌∷◌, Some, length, get_or, arith, sym, ◌∙◌, ap}
use Rattle.st_base.specs.declared.ids.GrantNo.{GrantNo}
use Rattle.st_base.specs.declared.mode.Mode.{Mode}
use Rattle.st_base.specs.declared.mode.Mode.TheVariants as modes
use Rattle.st_reassert.proofs.OwnRows.{FirstOwn, first_own}
use Rattle.st_reassert.proofs.acceptance.own_file.Goals as goal

own : (c : goal.After-as_slice-rows) → FirstOwn c.args.locks.now c.args.client
own c = first_own c.args.locks.now c.args.client c.requires

pub bounds-rows-0 : goal.bounds-rows-0
bounds-rows-0 c =
    let listed : c.as_slice-rows.result.now ≡ (own c).row ∷ (own c).rest = c.as_slice-rows.ensures.value ∙ c.in_ok-found.ensures ∙ (own c).told in
    let e : length c.as_slice-rows.result.now ≡ suc (length (own c).rest) = ap length listed in
    omega (arith, e)

pub returns : goal.returns
returns c life older =
    (first_own c.args.locks.now c.args.client c.requires).refuses life older
    ∙ sym
    (ap (λ (rows : List (ℕ × GrantNo × Mode)). Some ((get_or rows 0 (0, record { 0 = 0 }, modes.None)).0))
    (c.as_slice-rows.ensures.value ∙ c.in_ok-found.ensures ∙ (first_own c.args.locks.now c.args.client c.requires).told))
