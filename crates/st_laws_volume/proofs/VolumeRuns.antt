-- If the volume takes the steps of each event of every run, every run is a run of the volume.
use Rattle.std.proofs.Common.{◌≡◌, ℕ, Bool, true, false, ◌==◌, length, List, [], ◌∷◌, ◌++◌, Option, Some, None, Ok, Err, refl, ap, ◌∙◌, subst}
use Rattle.std.specs.Prelude.{filter, is_some, option_and_then, Result, if◌then◌else◌}
use Rattle.std.proofs.lemmas.Bool.{eqb-true}
use Rattle.st_messages.specs.declared.event.Event.{Event}
use Rattle.st_rules.specs.declared.observation.WorldRefusal.{WorldRefusal}
use Rattle.st_rules.specs.Events.{WorldTurn, world_step}
use Rattle.st_rules.specs.History.{Traced, traced, traced_after}
use Rattle.st_rules.specs.Safety.{Step, Throughout, step, steps, steps_on}
use Rattle.st_rules.specs.World.{World, fresh_world}
use Rattle.st_laws_volume.specs.Logs.{InEveryRun}
use Rattle.st_laws_volume.specs.Seen.{is_seen, seen_of}
use Rattle.st_laws_volume.specs.VolumeRuns.{EveryRunIsARunOfTheVolume, IsRunOf, IsShown}
use Rattle.st_laws_volume.specs.Witness.{Accepted, IsAccepted, Witness, begun, if_told, led_by, led_from, led_to, shows, steps_of, volume_after}
use Rattle.st_laws_volume.proofs.Carried.{IsLed, led_more}
use Rattle.st_volume.specs.declared.step.VolumeStep.{VolumeStep}
use Rattle.st_volume.specs.Volume.{Volume, run}

-- what the volume leaves, if each entry of it has had its line
record Left (r : Option Volume) : Type 0 where
  after : Volume
  is : r ≡ Some after
  told : after.lines ≡ length after.log
  then_ : option_and_then if_told r ≡ Some after

told_left : (u : Volume) (b : Bool) → (u.lines == length u.log) ≡ b → is_some (if b then Some u else None) ≡ true → (if b then Some u else None) ≡ Some u
told_left u true q h = refl
told_left u false q h = cc

is_told : (u : Volume) (b : Bool) → (u.lines == length u.log) ≡ b → is_some (if b then Some u else None) ≡ true → u.lines ≡ length u.log
is_told u true q h = eqb-true u.lines (length u.log) q
is_told u false q h = cc

left : (r : Option Volume) → is_some (option_and_then if_told r) ≡ true → Left r
left None h = cc
left (Some u) h =
    record {
      after = u;
      is = refl;
      told = is_told u (u.lines == length u.log) refl h;
      then_ = told_left u (u.lines == length u.log) refl h;
    }

-- the steps of an event that are accepted
accepted_at : (it : Witness) (x : Step) (v : Volume) → it.volume ≡ Some v → IsAccepted it x →
    (filter is_seen (steps_of it v x) ≡ seen_of x) × (is_some (option_and_then if_told (run (steps_of it v x) v)) ≡ true)
accepted_at it x v q a = subst (λ (o : Option Volume). shows it x o × (is_some (volume_after it x o) ≡ true)) q a

runs_on : (es : List Event) (past : List Step) (t : Traced) (it : Witness) (v : Volume) → it.volume ≡ Some v → IsLed past t it →
    Throughout Accepted past (steps es t) → IsRunOf v (steps es t)
unfolding steps steps_on Throughout IsRunOf led_by
runs_on [] past t it v q l g = tt
runs_on (e ∷ es) past t it v q l g = go (world_step t.world e) (λ past t it v q l g. runs_on es past t it v q l g) g
  where
    go : (r : Result WorldTurn WorldRefusal) →
        ((past : List Step) (t : Traced) (it : Witness) (v : Volume) → it.volume ≡ Some v → IsLed past t it →
        Throughout Accepted past (steps es t) → IsRunOf v (steps es t)) →
        Throughout Accepted past (steps_on (steps es) t e r) → IsRunOf v (steps_on (steps es) t e r)
    go (Err r) k g = tt
    go (Ok sc) k g =
        let x : Step = step t e sc in
        let p : led_to past x ≡ it = l x refl in
        let a = accepted_at it x v q (subst (λ (w : Witness). IsAccepted w x) p g.0) in
        let z : Left (run (steps_of it v x) v) = left (run (steps_of it v x) v) a.1 in (
          steps_of it v x,
          z.after,
          record { seen = a.0; taken = z.is; told = z.told },
          k (past ++ x ∷ []) x.after (led_by it x) z.after (ap (volume_after it x) q ∙ z.then_)
              (λ y i. led_more past x y ∙ ap (λ j. led_by j x) p) g.1,
        )

pub runs_are_of_the_volume : InEveryRun Accepted → EveryRunIsARunOfTheVolume
unfolding begun led_from
runs_are_of_the_volume h k clients servers disks blocks form es head events =
    let w : World = fresh_world k clients servers disks blocks form in
    runs_on es [] (traced w) (begun w w) _ refl
    (λ x i. ap (λ (s : Traced). begun s.world s.world) i)
    (h k clients servers disks blocks form es head events)
