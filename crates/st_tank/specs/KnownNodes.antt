-- The known nodes: servers 1 to 4, and clients 1 to 16.
use Rattle.std.specs.Prelude.{◌≤◌}
use Rattle.st_base.specs.declared.ids.NodeId.{NodeId}
use Rattle.st_base.specs.declared.ids.NodeId.TheVariants as nodes

abbrev pub IsKnown : NodeId → Type 0
IsKnown (nodes.Server s) = (1 ≤ s.0) × (s.0 ≤ 4)
IsKnown (nodes.Client c) = (1 ≤ c.0) × (c.0 ≤ 16)
