-- The run of a node, frame by frame, whatever bytes follow.
use Rattle.st_lemmas.proofs.Words
use Words.{◌≡◌, ℕ, zero, suc, ◌-◌, ◌<◌, ◌≤◌, List, [], ◌∷◌, ◌++◌, length, Option, Some, None, Ok, Err, refl, sym, ap, subst, ◌∙◌, append_assoc, arith}
use Words.{slice_get, Stamp, Message}
use Rattle.std.proofs.Common.{append-nil}
use Rattle.st_clock.specs.Readings.{after, Tells}
use Rattle.st_codec.specs.declared.refusal.CodecRefusal.{CodecRefusal}
use Rattle.st_codec.specs.Frames.{Frames, fed, next}
use Rattle.st_node.specs.declared.node.Node.{Node}
use Rattle.st_node.specs.declared.fault.NodeFault.TheVariants as faults
use Rattle.st_node.specs.Runs.{Run, handle, run, go_on, then_rest, behind, ended, end_at, full_at, reading}
use Rattle.st_node.specs.Service.{AreReadings, Carries, GoesOn, IsIdle, OfReadings}
use Rattle.st_node.proofs.Reading.{next_more}

-- ---- pieces

pub fed_twice : (f : Frames) (a b : List ℕ) → fed (fed f a) b ≡ fed f (a ++ b)
fed_twice f a b = ap (λ (w : List ℕ). record { offset = f.offset; rest = w; refusal = f.refusal }) (append_assoc f.rest a b)

pub fed_nothing : (f : Frames) → fed f [] ≡ f
fed_nothing f = ap (λ (w : List ℕ). record { offset = f.offset; rest = w; refusal = f.refusal }) (append-nil f.rest)

pub behind_both : (a b : List ℕ) (r : Run) → behind (a ++ b) r ≡ behind a (behind b r)
behind_both a b r = ap (λ (w : List ℕ). record { node = r.node; out = w; readings = r.readings; stop = r.stop }) (append_assoc a b r.out)

-- ---- one frame

-- a frame that gives a message
pub frame_goes : (k : ℕ) (n : Node) (readings : List Stamp) (f g : Frames) (m : Message) (more : List ℕ) → 0 < k → next f ≡ (g, Some (Ok m)) →
    run k n readings (fed f more) ≡ then_rest (handle n (reading readings) m) (λ p. run (k - 1) p (after readings) (fed g more))
unfolding run
frame_goes zero n readings f g m more some e = absurd (omega arith)
frame_goes (suc k) n readings f g m more some e =
    let less : suc k - 1 ≡ k = omega arith in
    ap (go_on (λ n f. run k n (after readings) f) n readings) (next_more f more g (Ok m) e)
    ∙ ap (λ (j : ℕ). then_rest (handle n (reading readings) m) (λ p. run j p (after readings) (fed g more))) (sym less)

-- a frame that is refused
pub frame_stops : (k : ℕ) (n : Node) (readings : List Stamp) (f g : Frames) (r : CodecRefusal) (more : List ℕ) → 0 < k → next f ≡ (g, Some (Err r)) →
    run k n readings (fed f more) ≡ ended n readings (Err (faults.Frame g.offset r))
unfolding run
frame_stops zero n readings f g r more some e = absurd (omega arith)
frame_stops (suc k) n readings f g r more some e = ap (go_on (λ n f. run k n (after readings) f) n readings) (next_more f more g (Err r) e)

full_list : (rest more : List ℕ) → 0 < length rest → full_at (rest ++ more) ≡ Err faults.TooManyFrames
full_list [] more some = absurd (omega arith)
full_list (b ∷ bs) more some = refl

-- a frame begins, and no more may
pub full_stops : (n : Node) (readings : List Stamp) (f : Frames) (more : List ℕ) → 0 < length f.rest →
    run 0 n readings (fed f more) ≡ ended n readings (Err faults.TooManyFrames)
unfolding run
full_stops n readings f more some = ap (ended n readings) (full_list f.rest more some)

empty_ends : (offset : ℕ) (rest : List ℕ) → rest ≡ [] → full_at rest ≡ end_at offset rest
empty_ends offset [] e = refl
empty_ends offset (b ∷ bs) e = absurd cc

-- nothing more comes
pub idle_ends : (k : ℕ) (n : Node) (readings : List Stamp) (f : Frames) → IsIdle k f → run k n readings f ≡ ended n readings (end_at f.offset f.rest)
unfolding run
idle_ends zero n readings f idle = ap (ended n readings) (empty_ends f.offset f.rest idle)
idle_ends (suc k) n readings f idle = ap (go_on (λ n f. run k n (after readings) f) n readings) idle

-- ---- readings

told_reading : (rs : List Stamp) (now : Stamp) → slice_get rs 0 ≡ Some now → reading rs ≡ now
told_reading [] now e = absurd cc
told_reading (x ∷ xs) now e = cc

-- a frame was handled, with this first reading
reading_goes : (k : ℕ) (n p : Node) (f g : Frames) (m : Message) (old new : List ℕ) (now : Stamp) (rs : List Stamp) →
    0 < k → next f ≡ (g, Some (Ok m)) → reading rs ≡ now →
    p ≡ (handle n now m).node → new ≡ old ++ (handle n now m).out → GoesOn k n f old (k - 1) p g new rs (after rs)
reading_goes k n p f g m old new now rs some e is node out = λ more.
    let goes : run k n rs (fed f more) ≡ then_rest (handle n now m) (λ p. run (k - 1) p (after rs) (fed g more)) =
    frame_goes k n rs f g m more some e ∙ ap (λ (x : Stamp). then_rest (handle n x m) (λ p. run (k - 1) p (after rs) (fed g more))) is in
    ap (λ (w : List ℕ). behind w (run (k - 1) p (after rs) (fed g more))) out
    ∙ ap (λ (q : Node). behind (old ++ (handle n now m).out) (run (k - 1) q (after rs) (fed g more))) node
    ∙ behind_both old (handle n now m).out (run (k - 1) (handle n now m).node (after rs) (fed g more))
    ∙ ap (behind old) (sym goes)

-- a reading before those that came later
untold_goes : (k : ℕ) (n p : Node) (f g : Frames) (m : Message) (old new : List ℕ) (now : Stamp) (later : List Stamp) →
    0 < k → next f ≡ (g, Some (Ok m)) → p ≡ (handle n now m).node → new ≡ old ++ (handle n now m).out → 1 ≤ length later →
    OfReadings None (λ rs. GoesOn k n f old (k - 1) p g new rs later)
untold_goes k n p f g m old new now [] some e node out one = absurd (omega (arith, one))
untold_goes k n p f g m old new now (x ∷ xs) some e node out one = record {
  readings = now ∷ (x ∷ xs);
  are = omega arith;
  holds = reading_goes k n p f g m old new now (now ∷ (x ∷ xs)) some e refl node out;
}

-- a frame was handled, with one reading
pub handled_goes : (k : ℕ) (n p : Node) (f g : Frames) (m : Message) (old new : List ℕ) (now : Stamp) (before later : Option (List Stamp)) →
    0 < k → next f ≡ (g, Some (Ok m)) → Tells before later now →
    p ≡ (handle n now m).node → new ≡ old ++ (handle n now m).out → Carries before later (GoesOn k n f old (k - 1) p g new)
handled_goes k n p f g m old new now None later some e told node out = record {
  each = λ last are. untold_goes k n p f g m old new now last some e node out (subst (λ t. AreReadings t last) told are);
}
handled_goes k n p f g m old new now (Some rs) later some e told node out = record {
  each = λ last are. record {
    readings = rs;
    are = refl;
    holds = subst (λ t. GoesOn k n f old (k - 1) p g new rs t) (sym (subst (λ t. AreReadings t last) told.1 are))
        (reading_goes k n p f g m old new now rs some e (told_reading rs now told.0) node out);
  };
}

-- nothing was done
pub carries_nothing : (a : Option (List Stamp)) (k : ℕ) (n : Node) (f : Frames) (old : List ℕ) → Carries a a (GoesOn k n f old k n f old)
carries_nothing a k n f old = record { each = λ last are. record { readings = last; are = are; holds = λ more. refl } }

-- ---- some readings

-- a clock has readings
pub some_readings : (told : Option (List Stamp)) → OfReadings told (λ readings. Unit {0})
some_readings None = record { readings = record { 0 = 0 } ∷ []; are = omega arith; holds = tt }
some_readings (Some rs) = record { readings = rs; are = refl; holds = tt }

-- what holds of all readings
pub each_reading : (told : Option (List Stamp)) (fact : List Stamp → Type 0) → ((rs : List Stamp) → fact rs) → OfReadings told fact
each_reading told fact all = let some = some_readings told in record { readings = some.readings; are = some.are; holds = all some.readings }

-- what follows from what holds of some readings
pub map_readings : (told : Option (List Stamp)) (one two : List Stamp → Type 0) → ((rs : List Stamp) → one rs → two rs) → OfReadings told one → OfReadings told two
map_readings told one two so h = record { readings = h.readings; are = h.are; holds = so h.readings h.holds }

-- what holds of readings whatever comes later
pub from_first : (a b : Option (List Stamp)) (fact : List Stamp → List Stamp → Type 0) (goal : List Stamp → Type 0) →
    Carries a b fact → ((rs later : List Stamp) → AreReadings b later → fact rs later → goal rs) → OfReadings a goal
from_first a b fact goal goes so =
    let some = some_readings b in
    let o = goes.each some.readings some.are in
    record { readings = o.readings; are = o.are; holds = so o.readings some.readings some.are o.holds }

-- the same of two facts, one after another
pub from_both : (a b c : Option (List Stamp)) (fact end : List Stamp → List Stamp → Type 0) (goal : List Stamp → Type 0) →
    Carries a b fact → Carries b c end → ((rs later last : List Stamp) → AreReadings c last → fact rs later → end later last → goal rs) → OfReadings a goal
from_both a b c fact end goal goes ends so =
    let some = some_readings c in
    let t = ends.each some.readings some.are in
    let o = goes.each t.readings t.are in
    record { readings = o.readings; are = o.are; holds = so o.readings t.readings some.readings some.are o.holds t.holds }
