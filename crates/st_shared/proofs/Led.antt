-- Calls lead on.
use Rattle.st_lemmas.proofs.Words
use Words.{◌≡◌, ℕ, [], ◌∷◌, refl, sym, ap, ◌∙◌, subst, Result, Ok, Err}
use Rattle.st_shared.specs.declared.refusal.SharedRefusal.{SharedRefusal}
use Rattle.st_shared.specs.declared.refusal.SharedRefusal.TheVariants.{Memory}
use Rattle.st_shared.specs.Calls.{Does, DoesOrLacks, Numbers, state_after}
use Rattle.st_shared.specs.History.{Call, EveryHistoryIsRight, IsLedRightly, IsLedTo, rule_of, trace}
use Rattle.st_shared.specs.Shared.{Shared, fresh_shared}

pub fresh_led : (blocks : ℕ) → IsLedTo (fresh_shared blocks)
unfolding trace
fresh_led blocks = record { blocks = blocks; calls = []; state = refl }

pub led_on : (old new : Shared) (call : Call) → rule_of old call ≡ Ok new → IsLedTo old → IsLedTo new
unfolding trace
led_on old new call e k = record {
  blocks = k.blocks;
  calls = call ∷ k.calls;
  state = ap (λ s. state_after s (rule_of s call)) k.state ∙ ap (state_after old) e;
}

stays : (old new : Shared) → new ≡ old → IsLedTo old → IsLedTo new
stays old new e k = subst IsLedTo (sym e) k

pub does_led : (old new : Shared) (call : Call) (r : Result (Unit {0}) SharedRefusal) → Does old new r (rule_of old call) → IsLedTo old → IsLedTo new
does_led old new call (Ok u) d k = led_on old new call d k
does_led old new call (Err r) d k = stays old new d.1 k

pub lacks_led : (old new : Shared) (call : Call) (r : Result (Unit {0}) SharedRefusal) → DoesOrLacks old new r (rule_of old call) → IsLedTo old → IsLedTo new
lacks_led old new call (Ok u) d k = led_on old new call d k
lacks_led old new call (Err Memory) d k = stays old new d.1 k
lacks_led old new call (Err r) d k = stays old new d.1 k

pub numbers_led : (old new : Shared) (call : Call) (r : Result ℕ SharedRefusal) → Numbers old new r (rule_of old call) → IsLedTo old → IsLedTo new
numbers_led old new call (Ok n) d k = led_on old new call d.0 k
numbers_led old new call (Err Memory) d k = stays old new d.1 k
numbers_led old new call (Err r) d k = stays old new d.1 k

-- what the law of every history says of a state and of a call
pub led_rightly : EveryHistoryIsRight → (s : Shared) → IsLedTo s → IsLedRightly s
led_rightly law s k = record { led = k; right = λ blocks calls e. law blocks calls }
