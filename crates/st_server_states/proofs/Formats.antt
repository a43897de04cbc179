-- The format of a server's journal, and the stable part of a server that never began an epoch.
use Rattle.std.proofs.Common.{◌≡◌, ℕ, ◌<◌, ◌^◌, [], Option, Some, None, refl, arith}
use Rattle.std.specs.Prelude.{option_map}
use Rattle.std.proofs.lemmas.List.Elements.{All-from_recursion}
use Rattle.st_extents.specs.Layout.{IsWithinLimits, Shape, with_shape}
use Rattle.st_extents.proofs.Owned.{none_owned}
use Rattle.st_journal.specs.Stable as journal
use Rattle.st_namespace.proofs.NameOrder.{fresh_in_order}
use Rattle.st_rules.specs.Names.{fresh_file, fresh_names}
use Rattle.st_rules.specs.Server.{Stable}
use Rattle.st_snapshot.specs.Snapshots.{EntryFits}
use Rattle.st_stable_file.specs.Formats.{IsOfStables}
use Rattle.st_stable_file.specs.Stables.{changed}
use Rattle.st_server_states.specs.States.{Keeps, MayHave, RangedChange, State, state_by, states}
use Rattle.st_server_states.proofs.ExtentsKept.{ExtentsMayBe, IsLow}
use Rattle.st_server_states.proofs.NamesKept.{NamesMayBe}
use Rattle.st_server_states.proofs.StatesKept.{joined}

-- A server that never began an epoch.

fresh_fits : (ino : ℕ) → ino < 2 ^ 32 → EntryFits (fresh_file ino)
fresh_fits ino l = record { dir = omega arith; ino = l; name = omega arith }

fresh_names_may : NamesMayBe fresh_names
unfolding fresh_names
fresh_names_may = record {
  order = record {
    order = fresh_in_order;
    next = omega arith;
    limit = omega arith;
    entries = (
      fresh_fits 2 (omega arith),
      (
        fresh_fits 3 (omega arith),
        (
          fresh_fits 4 (omega arith),
          (
            fresh_fits 5 (omega arith),
            (fresh_fits 6 (omega arith), (fresh_fits 7 (omega arith), (fresh_fits 8 (omega arith), (fresh_fits 9 (omega arith), tt)))),
          ),
        ),
      ),
    );
  };
  named = record { entries = refl; next = omega arith };
}

nothing_mapped : (s : Shape) → IsWithinLimits s.server.0 s.servers s.disks s.blocks → ExtentsMayBe s (with_shape s [] 0)
nothing_mapped s limits = record {
  shape = refl;
  can = record {
    births = record { rise = omega arith; few = omega arith };
    low = All-from_recursion IsLow [] tt;
    owned = none_owned s 0;
  };
  mapped = record { rows = refl; disks = limits.few_disks; blocks = limits.few_blocks };
  files = tt;
}

pub fresh_may : (s : Shape) → IsWithinLimits s.server.0 s.servers s.disks s.blocks → MayHave s (journal.fresh s)
fresh_may s limits = joined s (journal.fresh s) limits (omega arith) fresh_names_may (nothing_mapped s limits)

-- The format.
module _ (s : Shape) (k : Keeps s) where
  pub by_stable : (t : State s) (x : RangedChange) (o : Option Stable) (e : changed t.stable x.change ≡ o) →
      option_map (λ (u : State s). u.stable) (state_by s k t x o e) ≡ o
  by_stable t x None e = refl
  by_stable t x (Some u) e = refl

  abbrev pub is_of_stables : IsOfStables s (states s k)
  is_of_stables = record {
    stable = λ t. t.stable;
    change = λ x. x.change;
    snapshots = λ t. refl;
    spelled = λ x. refl;
    applied = λ t x. by_stable t x (changed t.stable x.change) refl;
    sum = λ bytes. refl;
    fit = λ t. t.may.fits;
    can = λ t. t.may.can;
    shape = λ t. t.may.shape;
    ranges = λ x. x.ranges;
  }
