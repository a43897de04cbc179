-- Every schedule runs safely.
use Rattle.std.proofs.Common.{◌≡◌, ℕ, ◌+◌, true, List, ◌∷◌, sym, ap, ◌∙◌, subst}
use Rattle.std.specs.List.{list_all}
use Rattle.st_messages.specs.declared.event.Counts.{Counts}
use Rattle.st_rules.specs.Report.{opening}
use Rattle.st_rules.specs.Safety.{IsHead, is_event}
use Rattle.st_schedule.specs.declared.reader.Progress.{Progress}
use Rattle.st_schedule.specs.declared.reader.Progress.TheVariants as progress
use Rattle.st_schedule.specs.Reader.{nodes_of}
use Rattle.st_runs.specs.Replay.{behind, replay_from, replay_lines, with_head}
use Rattle.st_runs.specs.Schedule.{Schedule, schedule_of}
use Rattle.st_runs.specs.Safe.{EveryScheduleRunsSafely, IsSafeReplay, IsScheduleOf, world_of}
use Rattle.st_runs.proofs.Events.{events_within}
use Rattle.st_runs.proofs.Heads.{after_head, head_fits, head_nodes}
use Rattle.st_laws_safe.proofs.Gathered.{every_run}

-- the events of a schedule after a head are in their ranges
events_fit : (n : Counts) (form : ℕ) (others : List (List ℕ)) (reader : Progress) (s : Schedule) → reader ≡ progress.Reading form n 0 →
    s ≡ schedule_of others 2 reader →
    list_all (is_event (nodes_of n)) (schedule_of others 2 (progress.Reading form n 0)).events ≡ true →
    list_all (is_event (nodes_of n)) s.events ≡ true
events_fit n form others reader s begun is h =
    subst (λ (x : Schedule). list_all (is_event (nodes_of n)) x.events ≡ true) (sym is)
    (subst (λ (q : Progress). list_all (is_event (nodes_of n)) (schedule_of others 2 q).events ≡ true) (sym begun) h)

pub every_schedule_runs_safely : EveryScheduleRunsSafely
unfolding replay_lines
every_schedule_runs_safely ls k n form s is =
    let head = head_fits is.first k n form is.reader is.head in
    let begun = after_head is.first k n form is.reader is.head in
    let within = events_within form n (head_nodes is.first k n form is.reader is.head) is.others 2 0 in
    let events = events_fit n form is.others is.reader s begun is.behind within in
    record {
      head = head;
      events = events;
      replay = ap replay_lines is.lines ∙ ap (with_head is.others) is.head
          ∙ ap (λ (x : Schedule). behind opening (replay_from 1 (world_of k n form) x)) (sym is.behind);
      safe = every_run k n.clients n.servers n.disks n.blocks form s.events head events;
    }
