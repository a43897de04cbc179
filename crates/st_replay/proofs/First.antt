-- Line 1: a head is read, or it is refused.
use Rattle.std.proofs.Common.{◌≡◌, ℕ, ◌+◌, ◌≤◌, List, [], ◌∷◌, ◌++◌, length, refl, sym, ◌∙◌, ap, subst, arith}
use Rattle.std.specs.Prelude.{Result, Ok, Err, IfOk, OnOk}
use Rattle.st_base.specs.declared.config.Config.{Config}
use Rattle.st_messages.specs.declared.event.Counts.{Counts}
use Rattle.st_rules.specs.World.{World, fresh_world}
use Rattle.st_rules.specs.Report.{opening}
use Rattle.st_schedule.specs.declared.fault.ScheduleRefusal.{ScheduleRefusal}
use Rattle.st_schedule.specs.declared.reader.Line.{Line}
use Rattle.st_schedule.specs.declared.reader.Line.TheVariants as said
use Rattle.st_schedule.specs.declared.reader.Progress.{Progress}
use Rattle.st_schedule.specs.declared.reader.Progress.TheVariants as progress
use Rattle.st_schedule.specs.Reader.{read_line}
use Rattle.st_schedule.proofs.LinesAsSpelled.{line_is_spelled}
use Rattle.st_runs.specs.declared.fault.LineRefusal.{LineRefusal}
use Rattle.st_runs.specs.declared.fault.LineRefusal.TheVariants as why
use Rattle.st_replay.specs.declared.fault.Stop.{Stop}
use Rattle.st_replay.specs.declared.fault.Stop.TheVariants as stops
use Rattle.st_runs.specs.Schedule.{schedule_of}
use Rattle.st_runs.specs.Replay.{Stopped, behind, with_head, replay_from, replay_lines}
use Rattle.st_replay.specs.States.{EndsAt, IsPlaying, IsUnread, AtStop, OnStop, from_line, needs}
use Rattle.st_runs.specs.Safe.{world_of}
use Rattle.st_runs.proofs.Heads.{after_head, head_nodes}
use Rattle.st_runs.proofs.Ranges.{fresh_clocks_length}
use Rattle.st_replay.proofs.Room.{takes}
use Rattle.st_replay.proofs.Steps.{behind_both, stopped_at}

fresh_events : (k : Config) (n : Counts) (form : ℕ) → (world_of k n form).tally.events ≡ 0
unfolding fresh_world
fresh_events k n form = refl

lines_of_head : (l : List ℕ) (k : Config) (n : Counts) (form : ℕ) (q : Progress) (ls : List (List ℕ)) →
    read_line progress.Nothing l ≡ Ok (said.Head k n form, q) →
    replay_lines (l ∷ ls) ≡ behind opening (replay_from 1 (world_of k n form) (schedule_of ls 2 q))
unfolding replay_lines
lines_of_head l k n form q ls h = ap (with_head ls) h

first_number : (k : Config) (n : Counts) (form : ℕ) (ls : List (List ℕ)) (q : Progress) →
    from_line (world_of k n form) q 2 ls ≡ replay_from 1 (world_of k n form) (schedule_of ls 2 q)
first_number k n form ls q = ap (λ e. replay_from (e + 1) (world_of k n form) (schedule_of ls 2 q)) (fresh_events k n form)

head_goes : (old new : List ℕ) (l : List ℕ) (k : Config) (n : Counts) (form : ℕ) (q : Progress) (w : World) (ls : List (List ℕ)) →
    read_line progress.Nothing l ≡ Ok (said.Head k n form, q) → w ≡ world_of k n form → new ≡ old ++ opening →
    behind new (from_line w q 2 ls) ≡ behind old (replay_lines (l ∷ ls))
head_goes old new l k n form q w ls h is appended =
    ap (λ v. behind new (from_line v q 2 ls)) is ∙ ap (λ t. behind t (from_line (world_of k n form) q 2 ls)) appended
    ∙ behind_both old opening (from_line (world_of k n form) q 2 ls)
    ∙ ap (λ r. behind old (behind opening r)) (first_number k n form ls q) ∙ ap (behind old) (sym (lines_of_head l k n form q ls h))

head_playing : (l : List ℕ) (k : Config) (n : Counts) (form : ℕ) (q : Progress) (w : World) → read_line progress.Nothing l ≡ Ok (said.Head k n form, q) →
    w ≡ world_of k n form → IsPlaying w q 2
head_playing l k n form q w h is =
    subst (λ p. IsPlaying w p 2) (sym (after_head l k n form q h)) (
      head_nodes l k n form q h,
      ap (λ (v : World). length v.clocks) is ∙ fresh_clocks_length k n.clients n.servers n.disks n.blocks form,
      ap (λ (v : World). v.tally.events) is ∙ fresh_events k n form,
      omega arith,
      refl,
    )

-- The same of a call that made the world, or ran out of memory.

pub made_goes : {E : Type 0} (r : Result World E) (old new : List ℕ) (l : List ℕ) (k : Config) (n : Counts) (form : ℕ) (q : Progress) →
    read_line progress.Nothing l ≡ Ok (said.Head k n form, q) → IfOk r (λ w. w ≡ world_of k n form) → OnOk r (new ≡ old ++ opening) →
    IfOk r (λ w. (ls : List (List ℕ)) → behind new (from_line w q 2 ls) ≡ behind old (replay_lines (l ∷ ls)))
made_goes (Ok w) old new l k n form q h is appended = λ ls. head_goes old new l k n form q w ls h is appended
made_goes (Err e) old new l k n form q h is appended = tt

pub made_playing : {E : Type 0} (r : Result World E) (l : List ℕ) (k : Config) (n : Counts) (form : ℕ) (q : Progress) →
    read_line progress.Nothing l ≡ Ok (said.Head k n form, q) → IfOk r (λ w. w ≡ world_of k n form) → IfOk r (λ w. IsPlaying w q 2)
made_playing (Ok w) l k n form q h is = head_playing l k n form q w h is
made_playing (Err e) l k n form q h is = tt

pub made_room : {T E : Type 0} (r : Result T E) (l : List ℕ) (k : Config) (n : Counts) (form : ℕ) (q : Progress) →
    read_line progress.Nothing l ≡ Ok (said.Head k n form, q) → IfOk r (λ w. length l + 1 + needs q ≤ 25700515)
made_room (Ok w) l k n form q h = takes progress.Nothing l (said.Head k n form, q) h
made_room (Err e) l k n form q h = tt

pub no_stop : {T : Type 0} (r : Result T Stop) (fact : ℕ → LineRefusal → Type 0) → OnStop r (λ n f. ⊥) → OnStop r fact
no_stop (Ok x) fact h = tt
no_stop (Err (stops.Line n f)) fact h = absurd h
no_stop (Err stops.Memory) fact h = tt

unread_lines : (l : List ℕ) (f : ScheduleRefusal) (ls : List (List ℕ)) → read_line progress.Nothing l ≡ Err f →
    replay_lines (l ∷ ls) ≡ record { front = []; last = Stopped 1 (why.Schedule f) }
unfolding replay_lines
unread_lines l f ls h = ap (with_head ls) h

pub first_stops : (old : List ℕ) (n : ℕ) (l : List ℕ) (f : LineRefusal) (ls : List (List ℕ)) → n ≡ 1 → IsUnread (read_line progress.Nothing l) f →
    EndsAt old n f (behind old (replay_lines (l ∷ ls)))
first_stops old n l (why.Schedule f) ls number h =
    stopped_at old 1 n (why.Schedule f) (sym number) ∙ sym (ap (behind old) (unread_lines l f ls h))
first_stops old n l (why.World f) ls number h = absurd h

pub stop_first : (s : Stop) (old : List ℕ) (p : Progress) (l : List ℕ) → p ≡ progress.Nothing → AtStop s (λ n f. (n ≡ 1) × IsUnread (read_line p l) f) →
    AtStop s (λ n f. (ls : List (List ℕ)) → EndsAt old n f (behind old (replay_lines (l ∷ ls))))
stop_first (stops.Line n f) old p l e h = λ ls. first_stops old n l f ls h.0 (subst (λ q. IsUnread (read_line q l) f) e h.1)
stop_first stops.Memory old p l e h = tt

pub read_first : (p : Progress) (l : List ℕ) (y : Line × Progress) → p ≡ progress.Nothing → read_line p l ≡ Ok y → read_line progress.Nothing l ≡ Ok y
read_first p l y e h = subst (λ q. read_line q l ≡ Ok y) e h
