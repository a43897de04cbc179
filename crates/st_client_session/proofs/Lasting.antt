-- Leases that last: a lease that begins, that is renewed and that is condemned; and what a standing shows.
use Rattle.st_lemmas.proofs.Words
use Words.{◌≡◌, ℕ, ◌+◌, ◌<◌, ◌≤◌, Bool, true, false, refl, sym, ◌∙◌, arith, nat_le, nat_lt, not, ◌&&◌, ◌||◌, if◌then◌else◌, ltb-true, Config, Stamp}
use Words.ClientLease.{ClientLease, condemned, dated, must_discard, new_lease, renewed, standing_by, standing_of}
use Words.Leases.{phase, phase_living, phase_serving, phase_young}
use Words.phases.{Valid, Renewal, Quiesce, Flush, Expired}
use Rattle.st_lease_client.specs.declared.permits.SettledAt.{SettledAt}
use Rattle.st_lease_client.specs.Standings.{kind_of, standing_as}
use Rattle.st_rules.specs.declared.client.StandingKind.{StandingKind}
use Rattle.st_rules.specs.declared.client.StandingKind.TheVariants.{Idle, Serve, Hold, Drain, Lost}

pub kind_settled : (k : StandingKind) (at : SettledAt) → kind_of (standing_as k at) ≡ k
kind_settled Idle at = refl
kind_settled Serve at = refl
kind_settled Hold at = refl
kind_settled Drain at = refl
kind_settled Lost at = refl

-- a lease that is not expired is not lost
living_lives : (k : Config) (date : Stamp) (c : Bool) (now : Stamp) → must_discard (standing_by (phase_living k date c now)) ≡ false
unfolding phase_living phase_serving phase_young
living_lives k date c now = by (nat_le (date.0 + k.flush) now.0) (nat_le (date.0 + k.quiesce) now.0 || c) (nat_le (date.0 + k.renew) now.0)
  where
    by : (f q r : Bool) → must_discard (standing_by (if f then Flush else (if q then Quiesce else (if r then Renewal else Valid)))) ≡ false
    by true q r = refl
    by false true r = refl
    by false false true = refl
    by false false false = refl

-- a lease is over exactly from its end on
pub over_is : (k : Config) (l : ClientLease) (now : Stamp) → must_discard (standing_of k l now) ≡ nat_le (l.date.0 + k.lease) now.0
unfolding phase
over_is k l now = by (nat_le (l.date.0 + k.lease) now.0)
  where
    by : (b : Bool) → must_discard (standing_by (if b then Expired else phase_living k l.date l.condemned now)) ≡ b
    by true = refl
    by false = living_lives k l.date l.condemned now

not_over : (a b : ℕ) → a < b → nat_le b a ≡ false
not_over a b h = grind arith

is_not_over : (a b : ℕ) → nat_le b a ≡ false → a < b
is_not_over a b h = grind arith

pub new_lasts : (k : Config) (stamp now : Stamp) → now.0 < stamp.0 + k.lease → must_discard (standing_of k (new_lease stamp) now) ≡ false
new_lasts k stamp now h = over_is k (new_lease stamp) now ∙ not_over now.0 (stamp.0 + k.lease) h

pub renewed_lasts : (k : Config) (l : ClientLease) (stamp now : Stamp) → must_discard (standing_of k l now) ≡ false → must_discard (standing_of k (renewed stamp l) now) ≡ false
unfolding renewed dated
renewed_lasts k l stamp now h = over_is k (renewed stamp l) now ∙ by l.condemned (nat_lt l.date.0 stamp.0) refl
  where
    lasts : now.0 < l.date.0 + k.lease
    lasts = is_not_over now.0 (l.date.0 + k.lease) (sym (over_is k l now) ∙ h)

    by : (c b : Bool) → nat_lt l.date.0 stamp.0 ≡ b → nat_le ((if (not c && b) then dated stamp l else l).date.0 + k.lease) now.0 ≡ false
    by true b e = not_over now.0 (l.date.0 + k.lease) lasts
    by false true e = let later : l.date.0 < stamp.0 = ltb-true _ _ e in let y = lasts in not_over now.0 (stamp.0 + k.lease) (omega arith)
    by false false e = not_over now.0 (l.date.0 + k.lease) lasts

pub condemned_lasts : (k : Config) (l : ClientLease) (now : Stamp) → must_discard (standing_of k l now) ≡ false → must_discard (standing_of k (condemned l) now) ≡ false
unfolding condemned
condemned_lasts k l now h = over_is k (condemned l) now ∙ sym (over_is k l now) ∙ h
