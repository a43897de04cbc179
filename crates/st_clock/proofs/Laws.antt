-- What a step answers says whether the accepted advances are in bound.
use Rattle.std.proofs.Common.{◌≡◌, ℕ, ◌*◌, ◌<◌, List, [], ◌∷◌, ◌++◌, length, arith, subst, refl, sym, ap, ◌∙◌}
use Rattle.std.specs.Prelude.{Option, Some, None, Result, Ok, Err, IfOk}
use Rattle.st_base.specs.declared.config.Config.{Config}
use Rattle.st_rules.specs.declared.lease.Excess.{Excess}
use Rattle.st_rules.specs.Leases.{AcceptedIsInBound, AllAccepted, AllFull, InBoundIsAccepted, IsInBound, drift_after, drift_judged, drift_step, first_excess, no_drift}
use Rattle.st_clock.specs.Drifts.{Before, HasAccepted, HasRate, IsFirstExcess, IsVerdict, after_step, drift_over}
use Rattle.st_rules.proofs.Drift.{pair_at}
use Rattle.st_clock.proofs.Pairs.{Stands, one_excess, stands_accepted, stands_after}
use Rattle.st_clock.proofs.Firsts.{FirstOfRows, first_of_rows}

full_more : (nodes : ℕ) (advances : List (List ℕ)) (s : List ℕ) → AllFull nodes advances → length s ≡ nodes → AllFull nodes (advances ++ (s ∷ []))
full_more nodes [] s full e = (e, tt)
full_more nodes (a ∷ advances) s full e = (full.0, full_more nodes advances s full.1 e)

over_more : (k : Config) (d advances : List (List ℕ)) (s : List ℕ) → drift_over k d (advances ++ (s ∷ [])) ≡ drift_after (drift_over k d advances) s k.num k.den
over_more k d [] s = refl
over_more k d (a ∷ advances) s = over_more k (drift_after d a k.num k.den) advances s

-- the numbers accept an advance
abbrev pub Accepts : Config → List (List ℕ) → List ℕ → Type 0
Accepts k d s = drift_step d s k.num k.den k.grain ≡ Ok (drift_after d s k.num k.den)

accepted_more : (k : Config) (d advances : List (List ℕ)) (s : List ℕ) → AllAccepted k d advances → Accepts k (drift_over k d advances) s → AllAccepted k d (advances ++ (s ∷ []))
accepted_more k d [] s acc h = (h, tt)
accepted_more k d (a ∷ advances) s acc h = (acc.0, accepted_more k (drift_after d a k.num k.den) advances s acc.1 h)

accepted_last : (k : Config) (d advances : List (List ℕ)) (s : List ℕ) → AllAccepted k d (advances ++ (s ∷ [])) → Accepts k (drift_over k d advances) s
accepted_last k d [] s acc = acc.0
accepted_last k d (a ∷ advances) s acc = accepted_last k (drift_after d a k.num k.den) advances s acc.1

-- what a judgement says of the pair that is named
judged_ok : (d after : List (List ℕ)) (o : Option Excess) → Ok after ≡ drift_judged d o → drift_judged d o ≡ Ok d
unfolding drift_judged
judged_ok d after None h = refl
judged_ok d after (Some x) h = absurd (cc)

judged_same : (d after : List (List ℕ)) (o : Option Excess) → Ok after ≡ drift_judged d o → after ≡ d
unfolding drift_judged
judged_same d after None h = grind arith
judged_same d after (Some x) h = absurd (cc)

judged_err : (d : List (List ℕ)) (o : Option Excess) (x : Excess) → Err x ≡ drift_judged d o → o ≡ Some x
unfolding drift_judged
judged_err d None x h = absurd (cc)
judged_err d (Some y) x h = grind arith

step_ok : (k : Config) (d after : List (List ℕ)) (s : List ℕ) → Ok after ≡ drift_step d s k.num k.den k.grain → Accepts k d s
unfolding drift_step
step_ok k d after s h = judged_ok _ after _ h

step_same : (k : Config) (d after : List (List ℕ)) (s : List ℕ) → Ok after ≡ drift_step d s k.num k.den k.grain → after ≡ drift_after d s k.num k.den
unfolding drift_step
step_same k d after s h = judged_same _ after _ h

step_first : (k : Config) (d : List (List ℕ)) (s : List ℕ) (x : Excess) → Err x ≡ drift_step d s k.num k.den k.grain → FirstOfRows (k.den * k.grain) 0 (drift_after d s k.num k.den) x
unfolding drift_step first_excess
step_first k d s x h = first_of_rows (k.den * k.grain) 0 _ x (judged_err _ _ x h)

-- the numbers after accepted advances
numbers_accepted : (k : Config) (nodes : ℕ) (advances d : List (List ℕ)) (s : List ℕ) → HasAccepted k nodes advances d → Accepts k d s → Accepts k (drift_over k (no_drift nodes) advances) s
numbers_accepted k nodes advances d s ha h = subst (λ e. Accepts k e s) ha.numbers h

pub accepted_now : (k : Config) (nodes : ℕ) (advances d : List (List ℕ)) (s : List ℕ) → length s ≡ nodes → HasAccepted k nodes advances d → Accepts k d s → HasAccepted k nodes (advances ++ (s ∷ [])) (drift_after d s k.num k.den)
accepted_now k nodes advances d s full ha h = record {
  full = full_more nodes advances s ha.full full;
  accepted = accepted_more k (no_drift nodes) advances s ha.accepted (numbers_accepted k nodes advances d s ha h);
  numbers = ap (λ e. drift_after e s k.num k.den) ha.numbers ∙ sym (over_more k (no_drift nodes) advances s);
}

-- in bound, and so accepted
bound_accepts : InBoundIsAccepted → (k : Config) (nodes : ℕ) (advances d : List (List ℕ)) (s : List ℕ) → length s ≡ nodes → HasAccepted k nodes advances d → IsInBound k nodes (advances ++ (s ∷ [])) → Accepts k d s
bound_accepts law k nodes advances d s full ha b = subst (λ e. Accepts k e s) (sym ha.numbers) (accepted_last k (no_drift nodes) advances s (law k nodes (advances ++ (s ∷ [])) (full_more nodes advances s ha.full full) b))

-- the first pair
stands_now : (k : Config) (nodes : ℕ) (advances d : List (List ℕ)) (s : List ℕ) → length s ≡ nodes → HasAccepted k nodes advances d → Stands k nodes (advances ++ (s ∷ [])) (drift_after d s k.num k.den)
stands_now k nodes advances d s full ha = stands_after k nodes advances d s full (subst (Stands k nodes advances) (sym ha.numbers) (stands_accepted k nodes advances ha.full))

first_named : (k : Config) (nodes : ℕ) (advances d : List (List ℕ)) (x : Excess) → Stands k nodes advances d → FirstOfRows (k.den * k.grain) 0 d x → IsFirstExcess k nodes advances x
first_named k nodes advances d x st f = record {
  ahead = ahead;
  behind = behind;
  exact = rw number (st.pairs x.m x.n ahead behind);
  above = f.above;
  first = λ m n e i j b ex.
      let low = f.before m n (omega (arith, i, st.square.tall)) (omega (arith, j, st.square.wide m i)) (placed m n b) in
      let same = one_excess k advances m n e (pair_at d m n) ex (st.pairs m n i j) in
      omega (arith, low, same);
}
  where
    at : x.m ≡ f.place
    at = omega (arith, f.row)

    ahead : x.m < nodes
    ahead = omega (arith, f.row, f.inside, st.square.tall)

    behind : x.n < nodes
    behind = omega (arith, f.column, st.square.wide f.place (omega (arith, f.inside, st.square.tall)))

    number : x.excess ≡ pair_at d x.m x.n
    number = rw at f.number

    placed : (m n : ℕ) → Before m n x.m x.n → Before m n f.place x.n
    placed m n b = subst (λ p. Before m n p x.n) at b

-- the verdict
verdict_ok : AcceptedIsInBound → (k : Config) (nodes : ℕ) (advances d after : List (List ℕ)) (s : List ℕ) (u : Unit) → length s ≡ nodes → HasAccepted k nodes advances d → Ok after ≡ drift_step d s k.num k.den k.grain → IsVerdict k nodes (advances ++ (s ∷ [])) (Ok u)
verdict_ok law k nodes advances d after s u full ha h =
    let now = accepted_now k nodes advances d s full ha (step_ok k d after s h) in
    record { in_bound = (λ _. law k nodes (advances ++ (s ∷ [])) now.full now.accepted, λ _. refl); named = tt }

refuted : (k : Config) (d : List (List ℕ)) (s : List ℕ) (x : Excess) → Err x ≡ drift_step d s k.num k.den k.grain → Accepts k d s → ⊥
refuted k d s x h a = absurd (cc)

verdict_err : InBoundIsAccepted → (k : Config) (nodes : ℕ) (advances d : List (List ℕ)) (s : List ℕ) (x : Excess) → length s ≡ nodes → HasAccepted k nodes advances d → Err x ≡ drift_step d s k.num k.den k.grain → IsVerdict k nodes (advances ++ (s ∷ [])) (Err x)
verdict_err law k nodes advances d s x full ha h = record {
  in_bound = (λ z. absurd (cc), λ b. absurd (refuted k d s x h (bound_accepts law k nodes advances d s full ha b)));
  named = first_named k nodes (advances ++ (s ∷ [])) _ x (stands_now k nodes advances d s full ha) (step_first k d s x h);
}

pub verdict : AcceptedIsInBound → InBoundIsAccepted → (k : Config) (nodes : ℕ) (advances d after : List (List ℕ)) (s : List ℕ) (result : Result Unit Excess) → length s ≡ nodes → HasAccepted k nodes advances d → after_step result after ≡ drift_step d s k.num k.den k.grain → IsVerdict k nodes (advances ++ (s ∷ [])) result
verdict one two k nodes advances d after s (Ok u) full ha h = verdict_ok one k nodes advances d after s u full ha h
verdict one two k nodes advances d after s (Err x) full ha h = verdict_err two k nodes advances d s x full ha h

-- at the numbers of a call
rated_step : (k : Config) (num den grain : ℕ) (d after : List (List ℕ)) (s : List ℕ) (result : Result Unit Excess) → HasRate k num den grain → after_step result after ≡ drift_step d s num den grain → after_step result after ≡ drift_step d s k.num k.den k.grain
rated_step k num den grain d after s result r h = rw (r.has_num, r.has_den, r.has_grain) h

pub judges : AcceptedIsInBound → InBoundIsAccepted → (num den grain : ℕ) (d after : List (List ℕ)) (s : List ℕ) (result : Result Unit Excess) → length s ≡ length d → after_step result after ≡ drift_step d s num den grain → (k : Config) (advances : List (List ℕ)) → HasRate k num den grain → HasAccepted k (length d) advances d → IsVerdict k (length d) (advances ++ (s ∷ [])) result
judges one two num den grain d after s result full h k advances r ha = verdict one two k (length d) advances d after s result full ha (rated_step k num den grain d after s result r h)

kept_ok : (k : Config) (d after : List (List ℕ)) (s : List ℕ) (advances : List (List ℕ)) → length s ≡ length d → HasAccepted k (length d) advances d → Ok after ≡ drift_step d s k.num k.den k.grain → HasAccepted k (length d) (advances ++ (s ∷ [])) after
kept_ok k d after s advances full ha h = rw (step_same k d after s h) (accepted_now k (length d) advances d s full ha (step_ok k d after s h))

pub keeps : (num den grain : ℕ) (d after : List (List ℕ)) (s : List ℕ) (result : Result Unit Excess) → length s ≡ length d → after_step result after ≡ drift_step d s num den grain → (k : Config) (advances : List (List ℕ)) → HasRate k num den grain → HasAccepted k (length d) advances d → IfOk result (λ _. HasAccepted k (length d) (advances ++ (s ∷ [])) after)
keeps num den grain d after s (Ok u) full h k advances r ha = kept_ok k d after s advances full ha (rated_step k num den grain d after s (Ok u) r h)
keeps num den grain d after s (Err x) full h k advances r ha = tt
