use Rattle.st_lemmas.proofs.Words
use Words.{◌≡◌, arith, refl, Result, Ok, Err}
use Rattle.std.specs.Prelude.{IsOk}
use Rattle.st_server.proofs.turn.ServerTurn.fresh.Goals as goal

is_unit : {E : Type 0} (r : Result Unit E) → IsOk r → r ≡ Ok tt
is_unit (Ok done) ok = refl
is_unit (Err e) ok = absurd cc

pub invariant_of-result : goal.invariant_of-result
invariant_of-result c = record {
  some = c.requires.limits.some_server;
  known = omega (arith, c.requires.limits.known_server, c.requires.limits.few_servers);
  checked = is_unit _ c.requires.checked;
  epochs = omega arith;
}
