-- Why a run stops follows from its bytes.
use Rattle.st_lemmas.proofs.Words
use Words.{◌≡◌, ℕ, zero, suc, List, Some, None, Ok, Err, refl, Stamp}
use Rattle.st_clock.specs.Readings.{after}
use Rattle.st_codec.specs.Frames.{Frames, Answer, fed, fresh, next}
use Rattle.st_node.specs.declared.node.Node.{Node}
use Rattle.st_node.specs.Runs.{MOST, go_on, handle, reading, run}
use Rattle.st_node.specs.Whole.{StopsByBytes}

-- one turn of two runs that go on to the same stop
turns_stop : (k : ℕ) (n m : Node) (readings others : List Stamp) (given : Frames × Answer) →
    ((n m : Node) (f : Frames) → (run k n (after readings) f).stop ≡ (run k m (after others) f).stop) →
    (go_on (λ n f. run k n (after readings) f) n readings given).stop ≡ (go_on (λ n f. run k n (after others) f) m others given).stop
turns_stop k n m readings others (f, None) later = refl
turns_stop k n m readings others (f, Some (Ok x)) later = later (handle n (reading readings) x).node (handle m (reading others) x).node f
turns_stop k n m readings others (f, Some (Err e)) later = refl

runs_stop : (k : ℕ) (n m : Node) (readings others : List Stamp) (f : Frames) → (run k n readings f).stop ≡ (run k m others f).stop
unfolding run
runs_stop zero n m readings others f = refl
runs_stop (suc k) n m readings others f =
    turns_stop k n m readings others (next f) (λ p q g. runs_stop k p q (after readings) (after others) g)

pub stops_by_bytes : (bytes : List ℕ) → StopsByBytes bytes
stops_by_bytes bytes = λ n m readings others. runs_stop MOST n m readings others (fed fresh bytes)
