-- A server is sound when it begins, after a crash, and when it is started.
use Rattle.st_lemmas.proofs.Words
use Words.{◌≡◌, ℕ, ◌+◌, ◌-◌, ◌^◌, ◌<◌, ◌≤◌, true, refl, arith, nat_le, and_from, le-leb, Config, ServerId, Stamp}
use Words.Kinds.{is_word64}
use Words.Names.{fresh_names}
use Words.Server.{ServerState, Stable, fresh_server, crash, start, begin_epoch}
use Rattle.st_extents.specs.Layout.{IsWithinLimits}
use Rattle.st_server.specs.Restart.{IsStable, crashed_server}
use Rattle.st_server.specs.Invariants.{IsSound, IsSoundTo}

pub fresh_sound : (id : ServerId) (k : Config) (servers disks blocks : ℕ) → IsWithinLimits id.0 servers disks blocks → IsSound (fresh_server id k servers disks blocks)
unfolding fresh_server fresh_names
fresh_sound id k servers disks blocks h =
    record {
      id = and_from (nat_le 1 id.0) (nat_le id.0 4) (le-leb 1 id.0 h.some_server) (le-leb id.0 4 (omega (arith, h.known_server, h.few_servers)));
      epoch = refl;
      held = record { rows = refl; waits = refl; few = omega arith; epoch = refl; limit = refl };
      kept = refl;
      timed = refl;
      graced = refl;
      named = record { entries = refl; next = omega arith };
      mapped = record { rows = refl; disks = h.few_disks; blocks = h.few_blocks };
    }

pub restored_sound : (id : ServerId) (k : Config) (stable : Stable) → 1 ≤ id.0 → id.0 ≤ 4 → IsStable stable → IsSound (crashed_server id k stable)
restored_sound id k stable some known h =
    record {
      id = and_from (nat_le 1 id.0) (nat_le id.0 4) (le-leb 1 id.0 some) (le-leb id.0 4 known);
      epoch = and_from (nat_le 1 stable.epoch.0) (nat_le stable.epoch.0 (2 ^ 32 - 1)) (le-leb 1 stable.epoch.0 h.least) (le-leb stable.epoch.0 4294967295 (omega (arith, h.most)));
      held = record { rows = refl; waits = refl; few = omega arith; epoch = refl; limit = refl };
      kept = refl;
      timed = refl;
      graced = refl;
      named = h.named;
      mapped = h.mapped;
    }

pub crash_sound : (n : ℕ) (s : ServerState) → IsSoundTo n s → IsSound (crash s)
unfolding crash
crash_sound n s k =
    record {
      id = k.id;
      epoch = k.epoch;
      held = record { rows = refl; waits = refl; few = omega arith; epoch = refl; limit = refl };
      kept = refl;
      timed = refl;
      graced = refl;
      named = k.named;
      mapped = k.mapped;
    }

pub start_sound : (n : ℕ) (s : ServerState) (now : Stamp) → s.stable.epoch.0 < 2 ^ 32 - 1 → is_word64 now.0 ≡ true → IsSoundTo n s → IsSound (start s now)
unfolding start begin_epoch
start_sound n s now below e k =
    record {
      id = k.id;
      epoch =
          and_from (nat_le 1 (s.stable.epoch.0 + 1)) (nat_le (s.stable.epoch.0 + 1) (2 ^ 32 - 1))
          (le-leb 1 (s.stable.epoch.0 + 1) (omega arith)) (le-leb (s.stable.epoch.0 + 1) 4294967295 (omega (arith, below)));
      held = record { rows = refl; waits = refl; few = omega arith; epoch = refl; limit = refl };
      kept = refl;
      timed = refl;
      graced = e;
      named = k.named;
      mapped = k.mapped;
    }
