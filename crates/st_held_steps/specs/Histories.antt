-- What may happen to held steps: steps, which a program takes while fewer changes wait than may wait; changes that are kept; and what is taken.
use Rattle.std.specs.Prelude.{ℕ, nat_le, if◌then◌else◌, Bool, List, [], ◌∷◌, ◌++◌}
use Rattle.st_held_steps.specs.Held.{Held, kept_more, made_after, may_step, stepped}
use Rattle.st_held_steps.specs.declared.held.Marked.{Marked}

pub data Event (T : Type 0) : Type 0 where
  Steps : (what : T) → (changed : Bool) → Event T
  Keeps : (count : ℕ) → Event T
  Takes : Event T

-- what is held, what was taken so far, and what all steps gave
pub record World (T : Type 0) : Type 0 where
  pub held : Held T
  pub given : List (Marked T)
  pub all : List (Marked T)

abbrev pub start : {T : Type 0} → ℕ → World T
start limit = record { held = record { steps = []; made = 0; kept = 0; limit = limit }; given = []; all = [] }

-- a step is taken
abbrev pub steps : {T : Type 0} → World T → T → Bool → World T
steps w what changed = record w { held = stepped w.held what changed; all = w.all ++ record { what = what; changes = made_after w.held.made changed } ∷ [] }

-- the first step's is taken, if it may be
abbrev pub takes : {T : Type 0} → World T → List (Marked T) → World T
takes w [] = w
takes w (m ∷ ms) = if nat_le m.changes w.held.kept then record w { held = record w.held { steps = ms }; given = w.given ++ m ∷ [] } else w

abbrev pub happens : {T : Type 0} → World T → Event T → World T
happens w (Steps what changed) = if may_step w.held then steps w what changed else w
happens w (Keeps count) = record w { held = kept_more w.held count }
happens w Takes = takes w w.held.steps

abbrev pub run : {T : Type 0} → List (Event T) → World T → World T
run [] w = w
run (e ∷ es) w = run es (happens w e)
