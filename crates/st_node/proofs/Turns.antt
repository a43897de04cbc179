-- One turn: a frame, a stop, or nothing.
use Rattle.st_lemmas.proofs.Words
use Words.{◌≡◌, ℕ, ◌+◌, ◌-◌, ◌<◌, ◌≤◌, List, [], length, refl, sym, ◌∙◌, ap, subst, arith, Option, Some, None, Result, Ok, Err, OnOk, Stamp, Message}
use Rattle.std.proofs.Common.{append-nil}
use Rattle.st_codec.specs.declared.refusal.CodecRefusal.{CodecRefusal}
use Rattle.st_codec.specs.Frames.{Frames, Answer, fed, next}
use Rattle.st_node.specs.declared.node.Node.{Node}
use Rattle.st_node.specs.declared.fault.NodeFault.{NodeFault}
use Rattle.st_node.specs.declared.fault.NodeFault.TheVariants as faults
use Rattle.st_node.specs.Runs.{behind, ended, run}
use Rattle.st_node.specs.Service.{Carries, GoesOn, IsIdle, IsTorn, OnStop, StopsAt, room_for}
use Rattle.st_link.specs.Prefixes.{AppendsPrefix}
use Rattle.std.specs.Io.KnownBytes.{Appends}
use Rattle.st_node.proofs.Reading.{next_few, none_stays}
use Rattle.st_node.proofs.Runs.{carries_nothing, frame_stops, full_stops}
use Rattle.st_node.proofs.Streams.{front_of_going, front_of_stop, idle_from}

pub on_ok : {T E : Type 0} (r : Result T E) (P : Type 0) → P → OnOk r P
on_ok (Ok x) P p = p
on_ok (Err e) P p = tt

-- what a reader gave, by the parts of a pattern
pub given_ok : (g : Frames) (m : Message) (a : Answer) (b : Result Message CodecRefusal) (x : Frames × Answer) → a ≡ Some b → b ≡ Ok m → (g, a) ≡ x → (g, Some (Ok m)) ≡ x
given_ok g m a b x e h is = sym (ap (λ (y : Answer). (g, y)) (e ∙ ap (λ (z : Result Message CodecRefusal). Some z) h)) ∙ is

pub given_err : (g : Frames) (r : CodecRefusal) (a : Answer) (b : Result Message CodecRefusal) (x : Frames × Answer) → a ≡ Some b → b ≡ Err r → (g, a) ≡ x →
    (g, Some (Err r)) ≡ x
given_err g r a b x e h is = sym (ap (λ (y : Answer). (g, y)) (e ∙ ap (λ (z : Result Message CodecRefusal). Some z) h)) ∙ is

pub given_none : (g : Frames) (a : Answer) (x : Frames × Answer) → a ≡ None → (g, a) ≡ x → (g, None) ≡ x
given_none g a x e is = sym (ap (λ (y : Answer). (g, y)) e) ∙ is

-- a run that stops at once, after the bytes so far
stops_here : (k : ℕ) (n : Node) (rs : List Stamp) (f : Frames) (text : List ℕ) (stop : NodeFault) → run k n rs f ≡ ended n rs (Err stop) →
    record { node = n; out = text; readings = rs; stop = Err stop } ≡ behind text (run k n rs f)
stops_here k n rs f text stop e =
    sym (ap (behind text) e ∙ ap (λ (w : List ℕ). record { node = n; out = w; readings = rs; stop = Err stop }) (append-nil text))

-- a stop for which no reading is taken
stops_unread : (a : Option (List Stamp)) (k : ℕ) (n : Node) (f : Frames) (text : List ℕ) (stop : NodeFault) →
    ((rs : List Stamp) → StopsAt k n f text n text stop rs rs) → Carries a a (StopsAt k n f text n text stop)
stops_unread a k n f text stop all = record { each = λ last are. record { readings = last; are = are; holds = all last } }

-- one frame too many begins
pub stop_full : (a : Option (List Stamp)) (k : ℕ) (n : Node) (f : Frames) (text : List ℕ) → k ≡ 0 → 0 < length f.rest →
    Carries a a (StopsAt k n f text n text faults.TooManyFrames)
stop_full a k n f text zero some = stops_unread a k n f text faults.TooManyFrames
    (λ rs more.
    stops_here k n rs (fed f more) text faults.TooManyFrames
    (ap (λ (j : ℕ). run j n rs (fed f more)) zero ∙ full_stops n rs f more some))

-- a frame is refused
pub stop_frame : (a : Option (List Stamp)) (k : ℕ) (n : Node) (f g : Frames) (r : CodecRefusal) (at : ℕ) (text : List ℕ) → 0 < k →
    (g, Some (Err r)) ≡ next f → at ≡ g.offset → Carries a a (StopsAt k n f text n text (faults.Frame at r))
stop_frame a k n f g r at text some e is = stops_unread a k n f text (faults.Frame at r)
    (λ rs more.
    stops_here k n rs (fed f more) text (faults.Frame at r)
    (frame_stops k n rs f g r more some (sym e) ∙ ap (λ (i : ℕ). ended n rs (Err (faults.Frame i r))) (sym is)))

-- no whole frame is held
stays : (f g : Frames) → (g, None) ≡ next f → g ≡ f
stays f g e = ap (λ (x : Frames × Answer). x.0) (e ∙ none_stays f g (sym e))

pub nothing_goes : (a : Option (List Stamp)) (k : ℕ) (n : Node) (f g : Frames) (text : List ℕ) → (g, None) ≡ next f →
    Carries a a (GoesOn k n f text k n g text)
nothing_goes a k n f g text e = subst (λ h. Carries a a (GoesOn k n f text k n h text)) (sym (stays f g e)) (carries_nothing a k n f text)

pub nothing_few : (k : ℕ) (f g : Frames) → (g, None) ≡ next f → length f.rest + room_for k ≤ length g.rest + room_for k
nothing_few k f g e = let same : length g.rest ≡ length f.rest = ap (λ (h : Frames). length h.rest) (stays f g e) in omega (arith, same)

pub nothing_idle : (k : ℕ) (f g : Frames) → 0 < k → (g, None) ≡ next f → IsIdle k g
nothing_idle k f g some e = subst (IsIdle k) (sym (stays f g e)) (idle_from k f some (none_stays f g (sym e)))

pub frame_few : (k : ℕ) (f g : Frames) (m : Message) → 0 < k → (g, Some (Ok m)) ≡ next f → length f.rest + room_for (k - 1) ≤ length g.rest + room_for k
frame_few k f g m some e = let few = next_few f g m (sym e) in omega (arith, few, some)

-- a piece

-- a prefix of what was handled was written
torn_here : (r : Result Unit NodeFault) (k : ℕ) (n : Node) (f : Frames) (before now : Option (List Stamp)) (w wn : Option (List ℕ)) (j : ℕ) (p : Node)
    (g : Frames) (text : List ℕ) →
    OnOk r (Carries before now (GoesOn k n f [] j p g text)) → OnStop r (λ stop. Carries before now (StopsAt k n f [] p text stop)) → OnOk r (IsIdle j g) →
    AppendsPrefix w wn text → (r ≡ Err faults.Memory → ⊥) → IsTorn k n f before now w wn p
torn_here (Ok u) k n f before now w wn j p g text goes stops idle wrote isnt =
    record { out = text; wrote = wrote; front = front_of_going before now k j n p f g text goes idle }
torn_here (Err faults.Memory) k n f before now w wn j p g text goes stops idle wrote isnt = absurd (isnt refl)
torn_here (Err faults.Read) k n f before now w wn j p g text goes stops idle wrote isnt = absurd stops
torn_here (Err faults.Write) k n f before now w wn j p g text goes stops idle wrote isnt = absurd stops
torn_here (Err (faults.Cut at)) k n f before now w wn j p g text goes stops idle wrote isnt = absurd stops
torn_here (Err (faults.Frame at r)) k n f before now w wn j p g text goes stops idle wrote isnt =
    record { out = text; wrote = wrote; front = front_of_stop before now k n p f text (faults.Frame at r) stops }
torn_here (Err faults.TooManyFrames) k n f before now w wn j p g text goes stops idle wrote isnt =
    record { out = text; wrote = wrote; front = front_of_stop before now k n p f text faults.TooManyFrames stops }

-- what a call promised about a reader that was fed, and about no text
abbrev Promised : Result Unit NodeFault → ℕ → Node → Option (List Stamp) → Option (List Stamp) → ℕ → Node → Frames → List ℕ → Frames → List ℕ → Type 0
Promised r k n before now j p g text f old =
    OnOk r (Carries before now (GoesOn k n f old j p g text)) × OnStop r (λ stop. Carries before now (StopsAt k n f old p text stop))

pub piece_torn : (r : Result Unit NodeFault) (k : ℕ) (n : Node) (f h : Frames) (old : List ℕ) (before now : Option (List Stamp)) (w wn : Option (List ℕ)) (j : ℕ)
    (p : Node) (g : Frames) (text : List ℕ) → h ≡ f → old ≡ [] →
    OnOk r (Carries before now (GoesOn k n h old j p g text)) → OnStop r (λ stop. Carries before now (StopsAt k n h old p text stop)) → OnOk r (IsIdle j g) →
    AppendsPrefix w wn text → (r ≡ Err faults.Memory → ⊥) → IsTorn k n f before now w wn p
piece_torn r k n f h old before now w wn j p g text fed empty goes stops idle wrote isnt =
    let was : Promised r k n before now j p g text f [] =
    subst (λ t. Promised r k n before now j p g text f t) empty (subst (λ x. Promised r k n before now j p g text x old) fed (goes, stops)) in
    torn_here r k n f before now w wn j p g text was.0 was.1 idle wrote isnt
