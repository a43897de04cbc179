-- A fact of the world and the witness is carried over every step of a run.
use Rattle.std.proofs.Common.{◌≡◌, List, [], ◌∷◌, ◌++◌, Ok, Err, refl, sym, ap, ◌∙◌, subst}
use Rattle.std.specs.Prelude.{Result}
use Rattle.st_messages.specs.declared.event.Event.{Event}
use Rattle.st_rules.specs.declared.observation.WorldRefusal.{WorldRefusal}
use Rattle.st_rules.specs.Events.{WorldTurn, world_step}
use Rattle.st_rules.specs.History.{Traced, traced_after}
use Rattle.st_rules.specs.Safety.{Promise, Step, Throughout, step, steps, steps_on}
use Rattle.st_rules.specs.World.{World}
use Rattle.st_laws_volume.specs.Witness.{Witness, begun, first_world, led_by, led_from, led_to}

first_is : (past : List Step) (x y : Step) → first_world (past ++ x ∷ []) y ≡ first_world past x
first_is [] x y = refl
first_is (z ∷ past) x y = refl

led_on : (t : Witness) (past : List Step) (x : Step) → led_from t (past ++ x ∷ []) ≡ led_by (led_from t past) x
unfolding led_from
led_on t [] x = refl
led_on t (y ∷ past) x = led_on (led_by t y) past x

-- the witness after one more step
pub led_more : (past : List Step) (x y : Step) → led_to (past ++ x ∷ []) y ≡ led_by (led_to past x) x
led_more past x y =
    ap (λ (w : World). led_from (begun w w) (past ++ x ∷ [])) (first_is past x y)
    ∙ led_on (begun (first_world past x) (first_world past x)) past x

-- the witness before a step that begins here
abbrev pub IsLed : List Step → Traced → Witness → Type 0
IsLed past t it = (x : Step) → x.before ≡ t → led_to past x ≡ it

-- what each step gives and keeps, if a promise holds
abbrev pub IsGiven : Promise → (List Step → Traced → Witness → Type 0) → (List Step → Step → Witness → Type 0) → Type 0
IsGiven given Holds Wanted =
    (past : List Step) (t : Traced) (e : Event) (sc : WorldTurn) (it : Witness)
    → world_step t.world e ≡ Ok sc
    → given past (step t e sc)
    → Holds past t it
    → Wanted past (step t e sc) it × Holds (past ++ step t e sc ∷ []) (traced_after e t sc) (led_by it (step t e sc))

-- with the witness before a step
abbrev pub Wants : (List Step → Step → Witness → Type 0) → Promise
Wants Wanted past x = Wanted past x (led_to past x)

given_on : (given : Promise) (Holds : List Step → Traced → Witness → Type 0) (Wanted : List Step → Step → Witness → Type 0) → IsGiven given Holds Wanted →
    (es : List Event) (past : List Step) (t : Traced) (it : Witness) → IsLed past t it → Holds past t it → Throughout given past (steps es t) →
    Throughout (Wants Wanted) past (steps es t)
unfolding steps steps_on Throughout
given_on given Holds Wanted one [] past t it l h g = tt
given_on given Holds Wanted one (e ∷ es) past t it l h g =
    go (world_step t.world e) refl (λ past t it l h g. given_on given Holds Wanted one es past t it l h g) g
  where
    go : (r : Result WorldTurn WorldRefusal) → world_step t.world e ≡ r →
        ((past : List Step) (t : Traced) (it : Witness) → IsLed past t it → Holds past t it → Throughout given past (steps es t) →
        Throughout (Wants Wanted) past (steps es t)) →
        Throughout given past (steps_on (steps es) t e r) → Throughout (Wants Wanted) past (steps_on (steps es) t e r)
    go (Err r) f k g = tt
    go (Ok sc) f k g =
        let x : Step = step t e sc in
        let q : led_to past x ≡ it = l x refl in
        let r : Wanted past x it × Holds (past ++ x ∷ []) x.after (led_by it x) = one past t e sc it f g.0 h in
        (subst (Wanted past x) (sym q) r.0, k (past ++ x ∷ []) x.after (led_by it x) (λ y i. led_more past x y ∙ ap (λ j. led_by j x) q) r.1 g.1)

pub given_in : (given : Promise) (Holds : List Step → Traced → Witness → Type 0) (Wanted : List Step → Step → Witness → Type 0) → IsGiven given Holds Wanted →
    (es : List Event) (t : Traced) → Holds [] t (begun t.world t.world) → Throughout given [] (steps es t) → Throughout (Wants Wanted) [] (steps es t)
unfolding led_from
given_in given Holds Wanted one es t h g =
    given_on given Holds Wanted one es [] t (begun t.world t.world) (λ x i. ap (λ (s : Traced). begun s.world s.world) i) h g

-- what is carried holds after each step
abbrev pub IsKept : Promise → (List Step → Traced → Witness → Type 0) → Type 0
IsKept given Holds =
    (past : List Step) (t : Traced) (e : Event) (sc : WorldTurn) (it : Witness)
    → world_step t.world e ≡ Ok sc
    → given past (step t e sc)
    → Holds past t it
    → Holds (past ++ step t e sc ∷ []) (traced_after e t sc) (led_by it (step t e sc))

abbrev pub Led : (List Step → Traced → Witness → Type 0) → Promise
Led Holds past x = Holds (past ++ x ∷ []) x.after (led_by (led_to past x) x)

pub carried : (given : Promise) (Holds : List Step → Traced → Witness → Type 0) → IsKept given Holds → (es : List Event) (t : Traced) →
    Holds [] t (begun t.world t.world) → Throughout given [] (steps es t) → Throughout (Led Holds) [] (steps es t)
carried given Holds one es t h g =
    given_in given Holds (λ past x it. Holds (past ++ x ∷ []) x.after (led_by it x))
    (λ past t e sc it f g h. let r = one past t e sc it f g h in (r, r)) es t h g
