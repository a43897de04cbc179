use Rattle.std.proofs.Common.{◌≡◌, Bool, List, ℕ, Option, Some, None, Bor, arith, refl, sym, ap, ◌∙◌}
use Rattle.std.specs.Prelude.{find, is_some}
use Rattle.std.specs.List.{list_any}
use Rattle.std.specs.Option.{option_copied}
use Rattle.st_rules.specs.declared.names.NameEntry.{NameEntry}
use Rattle.st_namespace.proofs.NameOrder.{found_is_any}
use Rattle.st_namespace.proofs.restored.add.Goals as goal

some_seen : (o : Option (Bor NameEntry)) → is_some (option_copied o) ≡ is_some o
some_seen None = refl
some_seen (Some x) = refl

-- what a look-up answers is whether an entry has the name
seen_any : (p : NameEntry → Bool) (es : List NameEntry) (o : Option (Bor NameEntry)) (b r : Bool) → option_copied o ≡ find p es → r ≡ is_some o → r ≡ b →
    list_any p es ≡ b
seen_any p es o b r found some is = sym (found_is_any p es) ∙ ap is_some (sym found) ∙ some_seen o ∙ sym some ∙ is

pub returns-then-is_some-clause-err : goal.returns-then-is_some-clause-err
returns-then-is_some-clause-err c = seen_any _ c.args.entries.now c.get.result _ c.is_some.result (rw c.as_slice.ensures at c.get.ensures) c.is_some.ensures
    c.if-is_some.true

pub returns-clause-fits : goal.returns-clause-fits
returns-clause-fits c = record {
  rising = omega (arith, c.if-row-low.false);
  given = omega (arith, c.if-row-next.false);
  fresh = seen_any _ c.args.entries.now c.get.result _ c.is_some.result (rw c.as_slice.ensures at c.get.ensures) c.is_some.ensures c.if-is_some.false;
}
