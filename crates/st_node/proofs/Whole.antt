-- A stream of whole frames is run through.
use Rattle.st_lemmas.proofs.Words
use Words.{◌≡◌, ℕ, zero, suc, ◌≤◌, List, [], ◌∷◌, length, Some, None, Ok, refl, ap, ◌∙◌, arith, flat_map, AllByRecursion, Stamp, Message}
use Rattle.std.proofs.lemmas.List.Concat.{flat_map-cons}
use Rattle.st_clock.specs.Readings.{after}
use Rattle.st_codec.specs.Frames.{Frames, behind as left_behind, fed, fresh, front, next, next_at, next_by}
use Rattle.st_codec.specs.Spelling.{spelling}
use Rattle.st_codec.specs.Stream.{IsFramed, message_frame}
use Rattle.st_codec.proofs.Streams.{gives_frame}
use Rattle.st_node.specs.declared.node.Node.{Node}
use Rattle.st_node.specs.Runs.{Handled, Run, MOST, behind, ended, go_on, handle, reading, run}
use Rattle.st_node.specs.Whole.{RunsThrough, after_all, handle_all}

-- a run that handled this, left these readings, and went through
abbrev through : List Stamp → Handled → Run
through readings h = record { node = h.node; out = h.out; readings = readings; stop = Ok tt }

empty_stays : (f : Frames) → f.rest ≡ [] → f.refusal ≡ None → next f ≡ (f, None)
unfolding next front
empty_stays f empty open_ = ap (next_by f) open_ ∙ ap (λ (w : List ℕ). next_at f (front w)) empty

nothing_left : (k : ℕ) (n : Node) (readings : List Stamp) (f : Frames) → f.rest ≡ [] → f.refusal ≡ None → run k n readings f ≡ ended n readings (Ok tt)
unfolding run
nothing_left zero n readings f empty open_ = rw empty refl
nothing_left (suc k) n readings f empty open_ =
    ap (go_on (λ n f. run k n (after readings) f) n readings) (empty_stays f empty open_) ∙ rw empty refl

runs_from : (ms : List Message) (k : ℕ) (n : Node) (readings : List Stamp) (f : Frames) → AllByRecursion IsFramed ms → length ms ≤ k →
    f.rest ≡ flat_map message_frame ms → f.refusal ≡ None → run k n readings f ≡ through (after_all ms readings) (handle_all ms n readings)
unfolding run handle_all after_all
runs_from [] k n readings f framed room is open_ = nothing_left k n readings f is open_
runs_from (m ∷ ms) zero n readings f framed room is open_ = absurd (omega (arith, room))
runs_from (m ∷ ms) (suc k) n readings f framed room is open_ =
    let g : Frames = record { offset = (left_behind f (length (spelling m))).offset; rest = flat_map message_frame ms; refusal = None } in
    let given : next f ≡ (g, Some (Ok m)) = gives_frame m (flat_map message_frame ms) f framed.0 open_ (is ∙ flat_map-cons message_frame m ms) in
    let h : Handled = handle n (reading readings) m in
    let others : run k h.node (after readings) g ≡ through (after_all ms (after readings)) (handle_all ms h.node (after readings)) =
    runs_from ms k h.node (after readings) g framed.1 (omega (arith, room)) refl refl in
    ap (go_on (λ n f. run k n (after readings) f) n readings) given ∙ ap (behind h.out) others

pub runs_through : (n : Node) (readings : List Stamp) (ms : List Message) → RunsThrough n readings ms
runs_through n readings ms = λ framed room. runs_from ms MOST n readings (fed fresh (flat_map message_frame ms)) framed room refl refl
