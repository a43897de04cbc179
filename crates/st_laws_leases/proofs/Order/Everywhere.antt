-- Every event keeps the order of locks at every server: an event is moves of the machine, and each move leaves the numbers below.
use Rattle.st_lemmas.proofs.Words
use Words.{◌≡◌, ℕ, ◌⊎◌, sym, subst, inl, inr}
use Words.World.{World}
use Rattle.st_protocol.specs.Assoc as net
use Rattle.st_protocol.specs.Assoc.{Config, ConfigOk, Assoc, Move, Reached, Then, Works}
use Rattle.st_protocol.proofs.Invariant.{Invariant}
use Rattle.st_protocol.proofs.World.{invariant}
use Rattle.st_laws_refine.specs.Server.Paths.{Path, Here, SteppedOn, WorkedOn}
use Rattle.st_laws_leases.specs.Order.Order.{Below}
use Rattle.st_laws_leases.specs.Order.Paths.{EventsKeepOrder}
use Rattle.st_laws_leases.proofs.Order.Below.{all_moves, one_move}
use Rattle.st_laws_leases.proofs.Sides.AllAssociations.{stays_led}

-- numbers below the locks of all clients, in a world of the machine that can be reached
record Under (k : Config) (H : ℕ → ℕ) (v : net.World) : Type 0 where
  pub reached : Reached k v
  pub below : (c : ℕ) → Below k H (v.at c)

-- They are below them still at the end of a path.
along : (k : Config) (H : ℕ → ℕ) → ConfigOk k → {u v : net.World} → Path k u v → Under k H u → Under k H v
along k H ok (Here a) o = o
along k H ok (SteppedOn p x) o =
    let z = along k H ok p o in record { reached = Then z.reached x; below = λ c. moved (invariant k _ ok z.reached c) (x.each c) (z.below c) }
  where
    moved : {a b : Assoc} → Invariant k a → Move k a b ⊎ (b ≡ a) → Below k H a → Below k H b
    moved v (inl m) o = one_move k H v m o
    moved v (inr e) o = subst (Below k H) (sym e) o
along k H ok (WorkedOn p x) o =
    let z = along k H ok p o in record { reached = Works z.reached x; below = λ c. all_moves k H ok (invariant k _ ok z.reached c) (x.each c) (z.below c) }

pub stays_ordered : EventsKeepOrder
stays_ordered k count H w e sc a full h =
    let l = stays_led k count (λ s v. Under k (H s) v) w e sc
    (record {
      all = a.all;
      servers = λ s node f. let q = a.servers s node f in
          record { stands = q.stands; from = _; is = record { reached = q.stands.both.stands.reached; below = q.below }; path = Here _ };
    }) full h in
    record {
      all = l.all;
      servers = λ s node f. let q = l.servers s node f in record { stands = q.stands; below = (along k (H s) a.all.sound q.path q.is).below };
    }
