-- What the test of an advance needs, and what it finds.
use Rattle.std.specs.Prelude.{◌≡◌, ◌≤◌, ◌<◌, ◌^◌, ◌+◌, ℕ, List, true, Option, Some, None, Result, Ok, Err, length}
use Rattle.std.specs.List.{list_all}
use Rattle.st_world_parts.specs.Clocks.{is_at_most, is_step}
use Rattle.st_rules.specs.declared.lease.Excess.{Excess}
use Rattle.st_rules.specs.World.{World}

-- An advance of a world: there is an increment below 2^32 for each node, of which there are 20 at most; no clock is above 2^62.
pub record IsTimed (w : World) (steps : List ℕ) : Type 0 where
  pub some : 1 ≤ length steps
  pub most : length steps ≤ 20
  pub nodes : length steps ≡ length w.drift
  pub clocks : list_all (is_at_most (2 ^ 62)) w.clocks ≡ true
  pub small : list_all is_step steps ≡ true
  pub rate : w.config.den ≤ 1048576
  pub grain : w.config.grain ≤ 2 ^ 40

-- the pair that a judgement names
abbrev pub excess_in : Result Unit Excess → Option Excess
excess_in (Ok u) = None
excess_in (Err x) = Some x

-- a pair of this many nodes
pub record IsPair (nodes : ℕ) (x : Excess) : Type 0 where
  pub ahead : x.m < nodes
  pub behind : x.n < nodes

-- A world's nodes and their clocks: 1 to 4 servers, at most 16 clients, a clock and a row of drift for each node; the settings are in their ranges.
pub record IsLaid (w : World) : Type 0 where
  pub some : 1 ≤ length w.servers
  pub few : length w.servers ≤ 4
  pub clients : length w.clients ≤ 16
  pub nodes : length w.clocks ≡ length w.clients + length w.servers
  pub drift : length w.drift ≡ length w.clocks
  pub clocks : list_all (is_at_most (2 ^ 62)) w.clocks ≡ true
  pub rate : w.config.den ≤ 1048576
  pub grain : w.config.grain ≤ 2 ^ 40
