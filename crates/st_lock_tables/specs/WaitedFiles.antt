-- Which files are waited for, and of whom they are demanded.
use Rattle.std.specs.Prelude.{ℕ, Bool, ◌==◌, List, [], find, Option, Some, None}
use Rattle.std.specs.List.{list_any}
use Rattle.st_base.specs.declared.ids.ClientId.{ClientId}
use Rattle.st_rules.specs.declared.locks.Waiter.{Waiter}
use Rattle.st_rules.specs.Locks.{Locks, is_wait_on, to_demand, waits_besides}

-- the file is one of these
abbrev pub is_one_of : List ℕ → ℕ → Bool
is_one_of files j = list_any (λ k. k == j) files

-- somebody waits for the file
abbrev pub is_waited : Locks → ℕ → Bool
is_waited l ino = list_any (is_wait_on ino) l.waiters

-- another client waits for the file
abbrev pub is_waited_besides : Locks → ClientId → ℕ → Bool
is_waited_besides l c ino = list_any (waits_besides c ino) l.waiters

-- the clients whose rows are in the way of a wait, if there is one, except for these clients
abbrev pub to_demand_for : Locks → List ClientId → Option Waiter → List ClientId
to_demand_for l besides None = []
to_demand_for l besides (Some w) = to_demand l besides w

-- the clients whose rows are in the way of the file's first waiter, except for these clients
abbrev pub to_demand_on : Locks → List ClientId → ℕ → List ClientId
to_demand_on l besides ino = to_demand_for l besides (find (is_wait_on ino) l.waiters)
