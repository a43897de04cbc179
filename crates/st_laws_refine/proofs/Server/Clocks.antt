-- An advance that is accepted moves the clocks of two nodes as the association wants it, in both forms of the head.
use Rattle.st_lemmas.proofs.Words
use Words.{◌≡◌, ℕ, zero, suc, ◌+◌, ◌*◌, ◌<◌, ◌≤◌, Bool, true, false, List, [], ◌∷◌, ◌==◌, ap, arith, length, slice_index, slice_get, Option, Some}
use Words.{None, if◌then◌else◌, Stamp}
use Words.Leases.{drift_after, first_excess}
use Words.World.{World}
use Words.Admissible.{rate_refused, drift_refused, excess_with, clocks_refused}
use Words.Events.{drift_with, advanced}
use Words.Tables.{not_false}
use Words.Worlds.{no_excess, stands_not}
use Rattle.st_rules.proofs.Drift.{IsSquare, pair_at, square_after, pair_after, none_from, covers_step}
use Rattle.st_rules.proofs.Rates.{rated}

-- what an accepted advance says of two nodes
pub record Rated (w : World) (steps : List ℕ) (nodes m n : ℕ) : Type 0 where
  pub rate : pair_at w.drift m n + w.config.den * slice_index steps m ≤ pair_at (drift_with w steps) m n + w.config.num * slice_index steps n
  pub limit : pair_at (drift_with w steps) m n ≤ w.config.den * w.config.grain
  pub square : IsSquare (drift_with w steps) nodes

pub accepted : (w : World) (steps : List ℕ) (nodes m n : ℕ) → clocks_refused w steps ≡ None → length steps ≡ nodes → IsSquare w.drift nodes → m < nodes → n < nodes → pair_at w.drift m n ≤ w.config.den * w.config.grain → Rated w steps nodes m n
unfolding clocks_refused drift_with first_excess
accepted w steps nodes m n e len sq lm ln low = let z = go (w.form == 1) e in record { rate = z.rate; limit = z.limit; square = z.square }
  where
    D : Bool → List (List ℕ)
    D b = if b then w.drift else drift_after w.drift steps w.config.num w.config.den

    go : (b : Bool) → (if b then rate_refused w steps else drift_refused w (excess_with w steps)) ≡ None →
        record { rate : pair_at w.drift m n + w.config.den * slice_index steps m ≤ pair_at (D b) m n + w.config.num * slice_index steps n; limit : pair_at (D b) m n ≤ w.config.den * w.config.grain; square : IsSquare (D b) nodes }
    go true e = let r = rated w.config steps m n (not_false _ (stands_not _ _ e)) (omega arith) (omega arith) in record { rate = omega arith; limit = low; square = sq }
    go false e =
        let q = square_after w.drift steps w.config.num w.config.den nodes len sq in
        let p = pair_after w.drift steps w.config.num w.config.den nodes m n len sq lm ln in
        let c = covers_step w.config.num w.config.den (pair_at w.drift m n) (slice_index steps m) (slice_index steps n) in
        record {
          rate = omega arith;
          limit = none_from (w.config.den * w.config.grain) 0 (drift_after w.drift steps w.config.num w.config.den) m n (no_excess w _ e) (let t = q.tall in omega arith) (let t = q.wide m lm in omega arith);
          square = q;
        }

-- a clock after an advance
pub clock_after : (steps : List ℕ) (clocks : List Stamp) (p : ℕ) (t : Stamp) → slice_get clocks p ≡ Some t → p < length steps → slice_get (advanced steps clocks) p ≡ Some (record { 0 = t.0 + slice_index steps p })
unfolding advanced
clock_after [] clocks p t e h = absurd (omega arith)
clock_after (d ∷ ds) [] p t e h = cc
clock_after (d ∷ ds) (x ∷ xs) zero t e h = ap (λ (o : Option Stamp). later o) e
  where
    later : Option Stamp → Option Stamp
    later None = None
    later (Some t) = Some (record { 0 = t.0 + d })
clock_after (d ∷ ds) (x ∷ xs) (suc p) t e h = clock_after ds xs p t e (omega arith)
