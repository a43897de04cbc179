-- What an output leaves as it was.
use Rattle.std.specs.Prelude.{◌≡◌, ◌≤◌, ◌+◌}
use Rattle.st_rules.specs.Events.{WorldTurn}

-- the nodes and the clocks are the same, and there is at most one read and one theft more
pub record Keeps (old new : WorldTurn) : Type 0 where
  pub servers : new.world.servers ≡ old.world.servers
  pub clients : new.world.clients ≡ old.world.clients
  pub clocks : new.world.clocks ≡ old.world.clocks
  pub reads : new.world.tally.reads ≤ old.world.tally.reads + 1
  pub stolen : new.world.tally.stolen ≤ old.world.tally.stolen + 1

-- the nodes, the clocks, the reads and the thefts are the same
pub record Stays (old new : WorldTurn) : Type 0 where
  pub servers : new.world.servers ≡ old.world.servers
  pub clients : new.world.clients ≡ old.world.clients
  pub clocks : new.world.clocks ≡ old.world.clocks
  pub reads : new.world.tally.reads ≡ old.world.tally.reads
  pub stolen : new.world.tally.stolen ≡ old.world.tally.stolen

-- the nodes and the clocks are the same
pub record SameNodes (old new : WorldTurn) : Type 0 where
  pub servers : new.world.servers ≡ old.world.servers
  pub clients : new.world.clients ≡ old.world.clients
  pub clocks : new.world.clocks ≡ old.world.clocks
