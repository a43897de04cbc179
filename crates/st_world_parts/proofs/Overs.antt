-- Ending the lives that one advance ends is one marking.
use Rattle.std.proofs.Common.{◌≡◌, ℕ, ◌+◌, List, [], ◌∷◌, refl, sym, ap, ◌∙◌}
use Rattle.st_model.specs.Walks.{mark_from, marked_fate, with_fate}
use Rattle.st_model.proofs.Markings.{drop_picked_is, mark_twice}
use Rattle.st_rules.specs.declared.log.Fate.{Fate}
use Rattle.st_rules.specs.declared.log.Fate.TheVariants.{Pending, Hard, Gone}
use Rattle.st_rules.specs.declared.log.LogEntry.{LogEntry}
use Rattle.st_rules.specs.declared.world.IssuedCommand.{IssuedCommand}
use Rattle.st_rules.specs.declared.world.LeaseLife.{LeaseLife}
use Rattle.st_rules.specs.Events.{cause_at_end, is_of_life_over, log_ended, log_ended_all}
use Rattle.st_world_parts.specs.LifeEnds.{becomes_at, ended_by}

stays : (f : Fate) → marked_fate f Pending ≡ f
stays Pending = refl
stays Hard = refl
stays (Gone c) = refl

nothing_ends : (cs : List IssuedCommand) (n : ℕ) (log : List LogEntry) → log ≡ mark_from (becomes_at cs []) n log
nothing_ends cs n [] = refl
nothing_ends cs n (x ∷ log) = λ i. with_fate (sym (stays x.fate) i) x ∷ nothing_ends cs (n + 1) log i

one_ended : (cs : List IssuedCommand) (e : LeaseLife) (log : List LogEntry) → log_ended cs e log ≡ mark_from (λ k o. ended_by cs e o) 1 log
unfolding log_ended
one_ended cs e log = drop_picked_is (is_of_life_over e) (cause_at_end cs e) log

-- ending all of these lives is one marking
pub all_ended : (cs : List IssuedCommand) (es : List LeaseLife) (log : List LogEntry) → log_ended_all cs es log ≡ mark_from (becomes_at cs es) 1 log
unfolding log_ended_all
all_ended cs [] log = nothing_ends cs 1 log
all_ended cs (e ∷ es) log =
    all_ended cs es (log_ended cs e log)
    ∙ ap (mark_from (becomes_at cs es) 1) (one_ended cs e log)
    ∙ mark_twice (λ k o. ended_by cs e o) (becomes_at cs es) 1 log
