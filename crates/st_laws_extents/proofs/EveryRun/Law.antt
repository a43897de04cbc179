-- What replies tell is right in every run: so reads return the last writes.
use Rattle.st_lemmas.proofs.Words
use Words.{List, [], ◌∷◌, ◌++◌, Option, Some, None, ClientInput}
use Words.inputs
use Words.Events.{counted}
use Words.History.{traced}
use Words.Safety.{ReadsReturnLastWrites, Step, Throughout, steps}
use Words.World.{fresh_world}
use Rattle.st_laws_leases.specs.Sides.Law.{InEveryRun}
use Rattle.st_laws_reads.specs.Copies.World.{Taking, taken}
use Rattle.st_laws_extents.specs.Known.Law.{IsTold}
use Rattle.st_laws_extents.specs.DiskReads.Law.{InputMaps, TakenMaps}
use Rattle.st_laws_extents.proofs.LockedRequests.Law as going
use Rattle.st_promises.specs.Held.{DisksHoldWhatIsHard}
use Rattle.st_laws_lines.proofs.Held.{held_throughout}
use Rattle.st_laws_pages.specs.Disks.Runs.{PagesAfter}
use Rattle.st_laws_extents.specs.Samples.Law.{IsToldRight}
use Rattle.st_laws_extents.proofs.Samples.Run as sampled
use Rattle.st_laws_extents.specs.ExtentReplies.Maps.{InputMapped, MapsAt, TakenMapped}
use Rattle.st_laws_extents.specs.EveryRun.Law.{MapsTellRight}

-- the same of an input, and of what is taken
input_maps : (x : Taking) (i : ClientInput) → InputMapped x i → InputMaps x i
input_maps x (inputs.Control m) h = h
input_maps x inputs.Tick h = tt
input_maps x (inputs.App op ask) h = tt
input_maps x (inputs.Done number result) h = tt

taken_maps : (o : Option Taking) → TakenMapped o → TakenMaps o
taken_maps None h = tt
taken_maps (Some x) h = input_maps x x.input h

all_maps : (past xs : List Step) → Throughout MapsAt past xs → Throughout MapsTellRight past xs
unfolding Throughout
all_maps past [] h = tt
all_maps past (x ∷ xs) h = (taken_maps (taken (counted x.before.world) x.event) h.0, all_maps (past ++ x ∷ []) xs h.1)

-- what a map's reply tells is right
pub maps_right : InEveryRun MapsTellRight
maps_right k clients servers disks blocks form es head events =
    all_maps [] (steps es (traced (fresh_world k clients servers disks blocks form))) (going.maps_at k clients servers disks blocks form es head events)

-- both promises at once
all_right : (past xs : List Step) → Throughout IsTold past xs → Throughout MapsTellRight past xs → Throughout IsToldRight past xs
unfolding Throughout
all_right past [] h m = tt
all_right past (x ∷ xs) h m = (record { told = h.0; maps = m.0 }, all_right (past ++ x ∷ []) xs h.1 m.1)

right : InEveryRun IsToldRight
right k clients servers disks blocks form es head events =
    all_right [] (steps es (traced (fresh_world k clients servers disks blocks form))) (going.is_told k clients servers disks blocks form es head events) (maps_right k clients servers disks blocks form es head events)

pub reads : InEveryRun ReadsReturnLastWrites
reads k clients servers disks blocks form es head events = sampled.reads k clients servers disks blocks form es head events (right k clients servers disks blocks form es head events)

pub pages : InEveryRun PagesAfter
pages k clients servers disks blocks form es head events = sampled.pages k clients servers disks blocks form es head events (right k clients servers disks blocks form es head events)

pub held : InEveryRun DisksHoldWhatIsHard
held k clients servers disks blocks form es head events =
    held_throughout [] (steps es (traced (fresh_world k clients servers disks blocks form))) (pages k clients servers disks blocks form es head events)
