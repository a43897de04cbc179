-- The calls and answers of every script are right.
use Rattle.std.proofs.Common.{◌≡◌, ℕ, List, [], ◌∷◌, Some, None, refl, ap, subst}
use Rattle.std.specs.Prelude.{Option}
use Rattle.st_base.specs.declared.ids.ClientId.{ClientId}
use Rattle.st_script_shared.specs.declared.shared_event.SharedEvent.{SharedEvent}
use Rattle.st_script_shared.specs.declared.shared_event.SharedHead.{SharedHead}
use Rattle.st_script_shared.specs.SharedScripts.{EveryScriptIsRight, absent, after_events, call_of, client_of, next, traced_on}
use Rattle.st_shared.specs.History.{AreRight, Call, EveryHistoryIsRight, Traced, go_on, trace}

-- calls lead there
record IsTrace (blocks : ℕ) (t : Traced) : Type 0 where
  calls : List Call
  traced : trace blocks calls ≡ t

on_trace : (blocks : ℕ) (t : Traced) (call : Call) (o : Option ClientId) → IsTrace blocks t → IsTrace blocks (traced_on t call o)
unfolding trace
on_trace blocks t call None k = record { calls = call ∷ k.calls; traced = ap (λ u. go_on u call) k.traced }
on_trace blocks t call (Some c) k = k

is_trace : (h : SharedHead) (es : List SharedEvent) → IsTrace h.blocks (after_events h es).traced
unfolding after_events next trace
is_trace h [] = record { calls = []; traced = refl }
is_trace h (e ∷ earlier) =
    on_trace h.blocks (after_events h earlier).traced (call_of e) (absent (after_events h earlier).clients (client_of e)) (is_trace h earlier)

pub every_script : EveryHistoryIsRight → EveryScriptIsRight
every_script law h es = let k = is_trace h es in subst (λ t. AreRight t.past) k.traced (law h.blocks k.calls)
