-- Clients that stay in time are healthy: as long as the server doesn't suspect one its lease lasts, and as long as its lease lasts the server doesn't suspect
-- it.
use Rattle.st_lemmas.proofs.Words
use Words.{◌≡◌, ℕ, ◌*◌, ◌≤◌, ◌<◌, List, [], ◌∷◌, ◌++◌, append-nil, append_assoc, map, None, Option, Some, refl, sym, ap, ◌∙◌, subst}
use Words.{ClientId, Config, ServerId, WorldRefusal}
use Rattle.st_laws_healthy.specs.Healthy.{IsHealthy, longest}
use Rattle.st_laws_suspicions.specs.Staying.{IsNoSuspect, IsStaying}
use Rattle.st_laws_suspicions.proofs.Staying.{staying_law}
use Rattle.st_laws_third.specs.FirstPromises.{Plainly}
use Rattle.st_third.specs.declared.event.ThirdEvent.{ThirdEvent}
use Rattle.st_third.specs.declared.limits.Limits.{Limits}
use Rattle.st_third.specs.Events as every
use Rattle.st_third.specs.Limits.{IsHead}
use Rattle.st_third.specs.Promises.{ThirdPromise, Throughout}
use Rattle.st_third.specs.Steps as steps
use Rattle.st_third.specs.Steps.{ThirdStep, ThirdTraced, plain_step}
use Rattle.st_third.specs.World as worlds
use Rattle.st_third.specs.World.{third_world}
use Rattle.st_laws_third_leases.specs.Staying.{StayingClientsAreHealthy, StaysInTime}
use Rattle.st_laws_third_leases.proofs.Lasting.{Healthy, healthy2, none_told, starting}
use Rattle.st_laws_third_leases.proofs.Nodes.{left}
use Rattle.st_laws_third_leases.proofs.Young.{Renews, renews_of}

-- a promise over one step more, and of the last step
throughout_more : (P : ThirdPromise) (past xs : List ThirdStep) (x : ThirdStep) → Throughout P past xs → P (past ++ xs) x → Throughout P past (xs ++ x ∷ [])
unfolding Throughout
throughout_more P past [] x h p = (subst (λ q. P q x) (append-nil past) p, tt)
throughout_more P past (y ∷ ys) x h p =
    (h.0, throughout_more P (past ++ y ∷ []) ys x h.1 (subst (λ q. P q x) (sym (append_assoc past (y ∷ []) ys)) p))

throughout_last : (P : ThirdPromise) (past xs : List ThirdStep) (x : ThirdStep) → Throughout P past (xs ++ x ∷ []) → P (past ++ xs) x
unfolding Throughout
throughout_last P past [] x h = subst (λ q. P q x) (sym (append-nil past)) h.0
throughout_last P past (y ∷ ys) x h = subst (λ q. P q x) (append_assoc past (y ∷ []) ys) (throughout_last P (past ++ y ∷ []) ys x h.1)

-- the step of an event that isn't refused, and those after it
first_step : (t : ThirdTraced) (e : ThirdEvent) (es : List ThirdEvent) → worlds.refusal t.third e ≡ None → (x : ThirdStep) →
    x ≡ steps.third_step t e (every.happens (every.third_counted t.third) e) → steps.steps (e ∷ es) t ≡ x ∷ steps.steps es x.after
unfolding steps.steps steps.steps_on every.world_step every.world_by
first_step t e es q x is =
    ap (λ r. steps.steps_on (steps.steps es) t e (every.world_by t.third e r)) q ∙ ap (λ (y : ThirdStep). y ∷ steps.steps es y.after) (sym is)

module _ (k : Config) (m : Limits) (clients servers disks blocks : ℕ) (c : ClientId) (s : ServerId) (gap d delay : ℕ)
    (head : IsHead k m clients servers disks blocks 3) (fits : longest k gap d ≤ k.lease) (patient : 2 * delay < k.demand) where
  abbrev t0 : ThirdTraced
  t0 = steps.third_traced (third_world k m clients servers disks blocks 3)

  abbrev ages : Renews k
  ages = renews_of k head.sound

  -- these events lead to these steps
  abbrev Leads : List ThirdEvent → List ThirdStep → ThirdTraced → Type 0
  Leads done past t = (es : List ThirdEvent) → steps.steps (done ++ es) t0 ≡ past ++ steps.steps es t

  module _ (done : List ThirdEvent) (past : List ThirdStep) (t : ThirdTraced) (leads : Leads done past t) (o : Healthy k ages c s gap d past t)
      (staying : Throughout (IsStaying c s delay) [] past) (e : ThirdEvent) (free : worlds.refusal t.third e ≡ None) where
    abbrev x : ThirdStep
    x = steps.third_step t e (left k t.third o.stand.known e free)

    leads_on : Leads (done ++ e ∷ []) (past ++ x ∷ []) x.after
    leads_on es =
        ap (λ l. steps.steps l t0) (append_assoc done (e ∷ []) es)
        ∙ leads (e ∷ es)
        ∙ ap (λ l. past ++ l) (first_step t e es free x refl)
        ∙ sym (append_assoc past (x ∷ []) (steps.steps es x.after))

    -- the events up to this one lead to this step
    ends : steps.steps ((done ++ e ∷ []) ++ []) t0 ≡ past ++ x ∷ []
    unfolding steps.steps
    ends = leads_on [] ∙ append-nil (past ++ x ∷ [])

    module _ (h : StaysInTime c s gap d delay past x) where
      stays_on : Throughout (IsStaying c s delay) [] (past ++ x ∷ [])
      stays_on =
          throughout_more (IsStaying c s delay) [] past x staying
          (record {
            site = h.site;
            there = h.there;
            up = h.up;
            runs = record { node = h.node; is = h.is; running = h.runs };
            come = h.come_by_server;
            lasts = λ life i.
                none_told k ages c s gap d past t e o free (record { site = h.site; there = h.there; runs = h.up; node = h.node; is = h.is; up = h.runs }) fits
                life i;
            stays = h.stays;
          })

      trusted : IsNoSuspect c s past x
      trusted =
          throughout_last (IsNoSuspect c s) [] past x
          (subst (Throughout (IsNoSuspect c s) []) ends
          (staying_law k m clients servers disks blocks ((done ++ e ∷ []) ++ []) c s delay head patient
          (subst (Throughout (IsStaying c s delay) []) (sym ends) stays_on)))

      well : IsHealthy c s gap d (map plain_step past) (plain_step x)
      well = record {
        site = h.site;
        there = h.there;
        runs = h.up;
        node = h.node;
        is = h.is;
        up = h.runs;
        free = trusted h.node h.is;
        ticks = h.ticks;
        come = h.come;
      }

  abbrev Goes_on : List ThirdEvent → Type 0
  Goes_on es =
      (done : List ThirdEvent) (past : List ThirdStep) (t : ThirdTraced) → Leads done past t → Healthy k ages c s gap d past t →
      Throughout (IsStaying c s delay) [] past → Throughout (StaysInTime c s gap d delay) past (steps.steps es t) →
      Throughout (Plainly (IsHealthy c s gap d)) past (steps.steps es t)

  goes_on : (es : List ThirdEvent) → Goes_on es
  unfolding Throughout steps.steps steps.steps_on every.world_step every.world_by
  goes_on [] done past t leads o staying h = tt
  goes_on (e ∷ es) done past t leads o staying h = go (goes_on es) (worlds.refusal t.third e) refl h
    where
      go : Goes_on es → (r : Option WorldRefusal) → worlds.refusal t.third e ≡ r →
          Throughout (StaysInTime c s gap d delay) past (steps.steps_on (steps.steps es) t e (every.world_by t.third e r)) →
          Throughout (Plainly (IsHealthy c s gap d)) past (steps.steps_on (steps.steps es) t e (every.world_by t.third e r))
      go rest (Some r) q h = tt
      go rest None q h = (
        well done past t leads o staying e q h.0,
        rest (done ++ e ∷ []) _ _ (leads_on done past t leads o staying e q)
            (healthy2 k ages c s gap d past t e o q (well done past t leads o staying e q h.0)) (stays_on done past t leads o staying e q h.0) h.1,
      )

pub joining_law : StayingClientsAreHealthy
unfolding Throughout
joining_law k m clients servers disks blocks es c s gap d delay head fits patient h =
    goes_on k m clients servers disks blocks c s gap d delay head fits patient es [] [] _ (λ es. refl)
    (starting k m clients servers disks blocks c s gap d head) tt h
