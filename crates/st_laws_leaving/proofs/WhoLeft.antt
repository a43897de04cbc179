-- In every run of the third form, a client that left has neither row nor wait at its server, and is welcomed at once.
use Rattle.st_lemmas.proofs.Words
use Words.{◌≡◌, List, [], ◌∷◌, ◌++◌, None, refl, sym, subst}
use Words.Tables.{all_pass, and_both}
use Rattle.st_third.specs.declared.event.ThirdEvent.{ThirdEvent}
use Rattle.st_third.specs.Events as every
use Rattle.st_third.specs.Events.{ThirdWorldTurn, third_counted}
use Rattle.st_third.specs.Promises.{Leaver, WhoLeftHasNothing, is_welcomed, left_along, left_from}
use Rattle.st_third.specs.Steps as steps
use Rattle.st_third.specs.Steps.{ThirdStep, ThirdTraced}
use Rattle.st_third.specs.World as worlds
use Rattle.st_third.specs.World.{ThirdWorld, third_world}
use Rattle.st_laws_third.proofs.DemandsSeen.{people_first, within_most}
use Rattle.st_laws_third.proofs.Moves.{Moved, elsewhere, moves}
use Rattle.st_laws_third.proofs.Sound.{sound_first}
use Rattle.st_laws_leaving.specs.Leavers.{AllHome, EveryoneWhoLeftHasNothing}
use Rattle.st_laws_leaving.proofs.Along.{from_last}
use Rattle.st_laws_leaving.proofs.Betweens.{standing_as}
use Rattle.st_laws_leaving.proofs.GreetsBack.{welcomed_back}
use Rattle.st_laws_leaving.proofs.Homes.{home_after, homes_each}
use Rattle.st_laws_leaving.proofs.LeaverRuns.{Also, also_first, one_event}
use Rattle.st_laws_leaving.proofs.Leavers.{gone_as}
use Rattle.st_laws_leaving.proofs.StandingRuns.{Stand, stands_throughout, standing_first}

abbrev AlsoHome : List ThirdStep → ThirdTraced → Type 0
AlsoHome past t = (Also past t) × AllHome t.third.world (left_from [] [] past)

one_more : (past : List ThirdStep) (t : ThirdTraced) (e : ThirdEvent) → Stand AlsoHome past t → worlds.refusal t.third e ≡ None →
    (WhoLeftHasNothing past (steps.third_step t e (every.happens (third_counted t.third) e)))
    × (AlsoHome (past ++ steps.third_step t e (every.happens (third_counted t.third) e) ∷ [])
    (steps.traced_after e t (every.happens (third_counted t.third) e)))
one_more past t e s q =
    let w : ThirdWorld = third_counted t.third in
    let sc : ThirdWorldTurn = every.happens w e in
    let x : ThirdStep = steps.third_step t e sc in
    let ls : List Leaver = left_from [] [] past in
    let y = one_event past t e (record { sound = s.sound; people = s.people; standing = s.standing; also = s.also.0 }) q in
    let mv : Moved t.third sc.third = elsewhere t.third w sc.third refl refl (moves w e s.sound.form) in
    let before : AllHome w.world (left_along past x ls x.seen) =
    homes_each past x t.third
    (record { fits = record { sites = s.sound.fits.sites; there = s.sound.fits.there; pairs = s.sound.fits.pairs }; form = s.sound.form })
    (record { asks = s.people.asks; ids = s.people.ids; servers = s.people.servers; few = s.people.few })
    (standing_as t.third.world w.world refl refl (λ m h. h) s.standing) (record { count = s.also.0.1.count; leaves = s.also.0.1.leaves }) ls
    (gone_as t.third.world w.world ls refl (λ m h. h) s.also.0.0)
    (λ l h. let z = s.also.1 l h in record { site = z.site; there = z.there; association = z.association; has = z.has; is = z.is }) e refl q in
    let after : AllHome sc.third.world (left_along past x ls x.seen) =
    λ l h. let z = before l h in
    home_after t.third sc.third s.sound mv l.client l.server
    (record { site = z.site; there = z.there; association = z.association; has = z.has; is = z.is }) in (
      and_both _ _ y.0 (all_pass (is_welcomed x) ls (λ l h. welcomed_back t s.sound s.standing l (s.also.0.0 l h) (s.also.1 l h) e q)),
      (y.1, subst (AllHome sc.third.world) (sym (from_last [] [] past x)) after),
    )

pub everyone_who_left_has_nothing : EveryoneWhoLeftHasNothing
unfolding Rattle.st_third.specs.Limits.most_clients left_from
everyone_who_left_has_nothing k m clients servers disks blocks es head =
    stands_throughout AlsoHome WhoLeftHasNothing one_more es [] (steps.third_traced (third_world k m clients servers disks blocks 3))
    (record {
      sound = sound_first k m clients servers disks blocks;
      people = people_first k m clients servers disks blocks (within_most 1 64 clients head.some_clients);
      standing = standing_first k m clients servers disks blocks;
      also = (also_first k m clients servers disks blocks, λ l h. absurd h);
    })
