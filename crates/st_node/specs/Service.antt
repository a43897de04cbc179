-- A node that is served over a link: what holds of the link, the clock and the node when a call returns.
use Rattle.std.specs.Prelude.{◌≡◌, ◌≤◌, ℕ, zero, suc, ◌*◌, List, [], ◌++◌, length, Option, Some, None, Result, Ok, Err}
use Rattle.std.specs.Io.KnownBytes.{Appends, Consumes}
use Rattle.st_base.specs.declared.ids.Stamp.{Stamp}
use Rattle.st_codec.specs.Frames.{Frames, fed, next}
use Rattle.st_link.specs.Causes.{Rose}
use Rattle.st_link.specs.Prefixes.{AppendsPrefix}
use Rattle.st_node.specs.declared.node.Node.{Node}
use Rattle.st_node.specs.declared.fault.NodeFault.{NodeFault}
use Rattle.st_node.specs.declared.fault.NodeFault.TheVariants as faults
use Rattle.st_node.specs.Runs.{Run, behind, run, node_run}

-- Readings as a clock has them: those to come if it tells them, and otherwise any, at least one.
abbrev pub AreReadings : Option (List Stamp) → List Stamp → Type 0
AreReadings None readings = 1 ≤ length readings
AreReadings (Some told) readings = readings ≡ told

-- A fact of a clock's readings: of those to come if it tells them, and otherwise of some.
pub record OfReadings (told : Option (List Stamp)) (fact : List Stamp → Type 0) : Type 0 where
  pub readings : List Stamp
  pub are : AreReadings told readings
  pub holds : fact readings

-- What was written, which state the node is in, and which readings the clock has left, next to the run over all bytes: all of it if the stream ended or the run
-- stopped, and otherwise a prefix of what is written in it.
abbrev pub Serves : Result Unit NodeFault → Option (List ℕ) → Option (List ℕ) → Node → Option (List Stamp) → Run → Type 0
Serves (Err faults.Read) before now n told r = AppendsPrefix before now r.out
Serves (Err faults.Write) before now n told r = AppendsPrefix before now r.out
Serves (Err faults.Memory) before now n told r = AppendsPrefix before now r.out
Serves result before now n told r = (r.stop ≡ result) × (r.node ≡ n) × Appends before now r.out × AreReadings told r.readings

-- After a failed read the node and the clock are as after the run over the bytes that were taken, and all of its output was written.
pub record IsCutOff (old new : Node) (readings : List Stamp) (told : Option (List Stamp)) (left_before left_now written_before written_now : Option (List ℕ)) : Type 0 where
  pub taken : List ℕ
  pub took : Consumes left_before left_now taken
  pub stands : (node_run old readings taken).node ≡ new
  pub wrote : Appends written_before written_now (node_run old readings taken).out
  pub read : AreReadings told (node_run old readings taken).readings

-- After a failed write the node and the clock are so, too, and a prefix of its output was written.
pub record IsCutShort (old new : Node) (readings : List Stamp) (told : Option (List Stamp)) (left_before left_now written_before written_now : Option (List ℕ)) : Type 0 where
  pub taken : List ℕ
  pub took : Consumes left_before left_now taken
  pub stands : (node_run old readings taken).node ≡ new
  pub wrote : AppendsPrefix written_before written_now (node_run old readings taken).out
  pub read : AreReadings told (node_run old readings taken).readings

-- what holds after a failed read or write
abbrev pub Breaks : Result Unit NodeFault → Node → Node → List Stamp → Option (List Stamp) → Option (List ℕ) → Option (List ℕ) → Option (List ℕ) → Option (List ℕ) → Type 0
Breaks (Err faults.Read) old new readings told left_before left_now written_before written_now =
    IsCutOff old new readings told left_before left_now written_before written_now
Breaks (Err faults.Write) old new readings told left_before left_now written_before written_now =
    IsCutShort old new readings told left_before left_now written_before written_now
Breaks result old new readings told left_before left_now written_before written_now = Unit {0}

-- The link's count of faults rose at `Read` and at `Write`; it stayed if the stream ended or the run stopped.
abbrev pub HasCauses : Result Unit NodeFault → ℕ → ℕ → Type 0
HasCauses (Err faults.Read) before now = Rose before now
HasCauses (Err faults.Write) before now = Rose before now
HasCauses (Err faults.Memory) before now = before ≤ now
HasCauses result before now = now ≡ before

-- Inside of a call.

-- a fact of a clock's readings before and after a call: whatever they are after it, there were some before it
pub record Carries (before now : Option (List Stamp)) (fact : List Stamp → List Stamp → Type 0) : Type 0 where
  pub each : (later : List Stamp) → AreReadings now later → OfReadings before (λ readings. fact readings later)

-- the fact holds of why a run stopped inside of the stream; nothing is promised if memory ran out
abbrev pub OnStop : {T : Type 0} → Result T NodeFault → (NodeFault → Type 0) → Type 0
OnStop (Ok x) fact = Unit {0}
OnStop (Err faults.Memory) fact = Unit {0}
OnStop (Err faults.Read) fact = ⊥
OnStop (Err faults.Write) fact = ⊥
OnStop (Err (faults.Cut at)) fact = ⊥
OnStop (Err stop) fact = fact stop

-- the bytes so far and what follows here are the bytes before and what followed there, whatever comes
abbrev pub GoesOn : ℕ → Node → Frames → List ℕ → ℕ → Node → Frames → List ℕ → List Stamp → List Stamp → Type 0
GoesOn k n f old j p g new before now = (more : List ℕ) → behind new (run j p now (fed g more)) ≡ behind old (run k n before (fed f more))

-- the bytes so far and this stop are the bytes before and what followed there, whatever comes
abbrev pub StopsAt : ℕ → Node → Frames → List ℕ → Node → List ℕ → NodeFault → List Stamp → List Stamp → Type 0
StopsAt k n f old p new stop before now =
    (more : List ℕ) → record { node = p; out = new; readings = now; stop = Err stop } ≡ behind old (run k n before (fed f more))

-- no whole frame is held, or no frame more may begin and nothing is held
abbrev pub IsIdle : ℕ → Frames → Type 0
IsIdle zero f = f.rest ≡ []
IsIdle (suc k) f = next f ≡ (f, None)

-- a piece was handled, and what came of it was written
pub record IsHandled (k : ℕ) (n : Node) (f : Frames) (before now : Option (List Stamp)) (old new : Option (List ℕ)) (j : ℕ) (p : Node) (g : Frames) : Type 0 where
  pub out : List ℕ
  pub wrote : Appends old new out
  pub goes : Carries before now (GoesOn k n f [] j p g out)
  pub idle : IsIdle j g

-- the run stopped in a piece, and what came of it was written
pub record IsHalted (k : ℕ) (n : Node) (f : Frames) (before now : Option (List Stamp)) (old new : Option (List ℕ)) (p : Node) (stop : NodeFault) : Type 0 where
  pub out : List ℕ
  pub wrote : Appends old new out
  pub stops : Carries before now (StopsAt k n f [] p out stop)

-- the run over what is held leaves this node, these readings and these bytes, and these are the first ones whatever follows
pub record IsFront (k : ℕ) (n : Node) (f : Frames) (p : Node) (out : List ℕ) (before now : List Stamp) : Type 0 where
  pub stands : (run k n before f).node ≡ p
  pub read : (run k n before f).readings ≡ now
  pub is : (run k n before f).out ≡ out
  pub first : (more : List ℕ) → (rest : List ℕ) × ((run k n before (fed f more)).out ≡ out ++ rest)

-- a piece was handled, and a prefix of what came of it was written
pub record IsTorn (k : ℕ) (n : Node) (f : Frames) (before now : Option (List Stamp)) (old new : Option (List ℕ)) (p : Node) : Type 0 where
  pub out : List ℕ
  pub wrote : AppendsPrefix old new out
  pub front : Carries before now (IsFront k n f p out)

-- what a piece left
abbrev pub Pieces : Result Unit NodeFault → ℕ → Node → Frames → Option (List Stamp) → Option (List Stamp) → Option (List ℕ) → Option (List ℕ) → ℕ → Node → Frames → Type 0
Pieces (Ok u) k n f before now old new j p g = IsHandled k n f before now old new j p g
Pieces (Err faults.Write) k n f before now old new j p g = IsTorn k n f before now old new p
Pieces (Err faults.Memory) k n f before now old new j p g = new ≡ old
Pieces (Err faults.Read) k n f before now old new j p g = ⊥
Pieces (Err (faults.Cut at)) k n f before now old new j p g = ⊥
Pieces (Err stop) k n f before now old new j p g = IsHalted k n f before now old new p stop

-- the bytes that may still come before the run stops by itself
abbrev pub room_for : ℕ → ℕ
room_for frames = 65540 * frames
