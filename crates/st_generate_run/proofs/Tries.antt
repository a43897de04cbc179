-- One try after another.
use Rattle.std.proofs.Common.{◌≡◌, ℕ, suc, ◌+◌, ◌-◌, ◌<◌, true, Option, Some, None, subst, refl, sym, ap, ◌∙◌, arith}
use Rattle.std.specs.Prelude.{is_none}
use Rattle.st_messages.specs.declared.event.Event.{Event}
use Rattle.st_rules.specs.declared.observation.WorldRefusal.{WorldRefusal}
use Rattle.st_rules.specs.Admissible.{refusal}
use Rattle.st_rules.specs.World.{World}
use Rattle.st_rules.specs.Generator.{candidate, candidate_in, choice, fallback, try_first, tried, unless_refused}
use Rattle.st_rules.specs.Safety.{is_event}
use Rattle.st_generate.proofs.Drawn.{GoodDrawn, candidate_good}
use Rattle.st_generate_run.specs.Choice.{IsTry, found}

-- a candidate, if there is one and it is admissible
abbrev pub admitted_of : World → Option Event → Option Event
admitted_of w None = None
admitted_of w (Some e) = found (is_none (refusal w e)) e

-- what a candidate gives
given : (w : World) (x : ℕ) (o : Option Event) (y : ℕ) → candidate_in w x ≡ (o, y) → IsTry w x (admitted_of w o) y
unfolding tried unless_refused
given w x None y h = λ later. ap (try_first w later) h
given w x (Some e) y h = go (refusal w e) refl
  where
    at : (later : ℕ → Event × ℕ) (r : Option WorldRefusal) → refusal w e ≡ r → try_first w later (candidate_in w x) ≡ unless_refused later e y r
    at later r q = ap (try_first w later) h ∙ ap (unless_refused later e y) q

    go : (r : Option WorldRefusal) → refusal w e ≡ r → IsTry w x (found (is_none r) e) y
    go None q = λ later. at later None q
    go (Some f) q = λ later. at later (Some f) q

-- of a candidate that was drawn by the numbers of messages and commands
pub tries : (w : World) (x sent submitted : ℕ) (o : Option Event) (y : ℕ) → sent ≡ Rattle.std.specs.Prelude.length w.net.messages → submitted ≡ Rattle.std.specs.Prelude.length w.commands →
    (o, y) ≡ candidate sent submitted x → IsTry w x (admitted_of w o) y
tries w x sent submitted o y s k h = given w x o y (sym (h ∙ ap (λ n. candidate n submitted x) s ∙ ap (λ n. candidate (Rattle.std.specs.Prelude.length w.net.messages) n x) k))

-- the choice goes on with the later tries
pub goes_on : (i : ℕ) (w : World) (x y : ℕ) (c : Event × ℕ) → i < 16 → IsTry w x None y → choice (16 - i) w x ≡ c → choice (16 - (i + 1)) w y ≡ c
unfolding choice
goes_on i w x y c l t h =
    let e : suc (16 - (i + 1)) ≡ 16 - i = omega (arith, l) in
    sym (t (choice (16 - (i + 1)) w)) ∙ ap (λ n. choice n w x) e ∙ h

-- the choice is made
pub is_made : (i : ℕ) (w : World) (x : ℕ) (e : Event) (y : ℕ) (c : Event × ℕ) → i < 16 → IsTry w x (Some e) y → choice (16 - i) w x ≡ c → (e, y) ≡ c
unfolding choice
is_made i w x e y c l t h =
    let q : suc (16 - (i + 1)) ≡ 16 - i = omega (arith, l) in
    sym (t (choice (16 - (i + 1)) w)) ∙ ap (λ n. choice n w x) q ∙ h

-- no try is left
pub falls_back : (w : World) (x : ℕ) (c : Event × ℕ) → choice (16 - 16) w x ≡ c → (fallback, x) ≡ c
unfolding choice
falls_back w x c h = h

-- a candidate has its fields in their ranges, in a world of five nodes
pub candidate_fits : (sent submitted x : ℕ) (e : Event) (y : ℕ) → (Some e, y) ≡ candidate sent submitted x → is_event 5 e ≡ true
candidate_fits sent submitted x e y h =
    (subst (λ (c : Option Event × ℕ). GoodDrawn sent submitted c.0) (sym h) (candidate_good sent submitted x)).range
