-- A rule that does nothing at an association.
use Rattle.std.specs.Prelude.{◌≡◌, List}
use Rattle.st_client_association.specs.Associations.{ClientAssociation}
use Rattle.st_rules.specs.declared.client.Operation.{Operation}
use Rattle.st_rules.specs.ClientState.{Turn}

-- with these pending operations the rule leaves each step there as it is
abbrev pub IsIdle : (Turn → Turn) → List Operation → ClientAssociation → Type 0
IsIdle rule operations a = (t : Turn) → t.here ≡ a.here → t.config ≡ a.config → t.operations ≡ operations → rule t ≡ t
