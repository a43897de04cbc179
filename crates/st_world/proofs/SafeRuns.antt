-- Runs to a world are safe, and runs of the volume, by the laws of every run.
use Rattle.st_lemmas.proofs.Words
use Words.{◌≡◌, ℕ, ◌+◌, true, List, [], ◌∷◌, ◌++◌, length, list_all, sym, ap, ◌∙◌, Config, Event}
use Words.Safety.{is_event}
use Words.World.{World}
use Rattle.st_laws_volume.specs.VolumeRuns.{EveryRunIsARunOfTheVolume}
use Rattle.st_promises.specs.Safe.{EveryRunIsSafe}
use Rattle.st_world.specs.ReachedWorlds.{IsReached, IsReachedBy}
use Rattle.st_world.specs.Safe.{AreSafe, GoesOnInTheVolume, GoesOnSafely, IsLedSafely}
use Rattle.st_world.proofs.Goes.{all_more}
use Rattle.st_world.proofs.Shaped.{clocks_are}

are_safe : EveryRunIsSafe → (w : World) → AreSafe w
are_safe law w k clients servers disks blocks form es by = law k clients servers disks blocks form es by.head by.events

-- every run that leads to a world is safe
pub led_safely : EveryRunIsSafe → (w : World) → IsReached w → IsLedSafely w
led_safely law w r = record { reached = r; safe = are_safe law w }

-- the events of a run that leads to a world are in their ranges, and so they are with one event more
more_events : (k : Config) (clients servers disks blocks form : ℕ) (es : List Event) (w : World) (e : Event) →
    IsReachedBy k clients servers disks blocks form es w → is_event (length w.clocks) e ≡ true →
    list_all (is_event (clients + servers)) (es ++ e ∷ []) ≡ true
more_events k clients servers disks blocks form es w e by i =
    let r : IsReached w = record { config = k; clients = clients; servers = servers; disks = disks; blocks = blocks; form = form; events = es; by = by } in
    let fit : is_event (clients + servers) e ≡ true = ap (λ n. is_event n e) (sym (clocks_are w r)) ∙ i in
    all_more (is_event (clients + servers)) es e by.events fit

-- each of these runs is safe with one event more
pub goes_on_safely : EveryRunIsSafe → (w : World) (e : Event) → is_event (length w.clocks) e ≡ true → GoesOnSafely w e
goes_on_safely law w e i k clients servers disks blocks form es by =
    law k clients servers disks blocks form (es ++ e ∷ []) by.head (more_events k clients servers disks blocks form es w e by i)

-- and each is a run of the volume
pub goes_on_in_the_volume : EveryRunIsARunOfTheVolume → (w : World) (e : Event) → is_event (length w.clocks) e ≡ true → GoesOnInTheVolume w e
goes_on_in_the_volume law w e i k clients servers disks blocks form es by =
    law k clients servers disks blocks form (es ++ e ∷ []) by.head (more_events k clients servers disks blocks form es w e by i)
