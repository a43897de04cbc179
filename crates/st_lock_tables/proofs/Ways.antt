-- Who is in the way of a lock, found by a look for each client.
use Rattle.std.proofs.Common.{◌≡◌, ℕ, Bool, true, List, [], ◌∷◌, ◌++◌, map, filter, ◌∙◌}
use Rattle.std.specs.Prelude.{not, ◌==◌, ◌&&◌, ◌||◌}
use Rattle.std.specs.List.{list_all, list_any}
use Rattle.std.proofs.lemmas.List.Folds.{list_any-append}
use Rattle.st_base.specs.declared.ids.ClientId.{ClientId}
use Rattle.st_base.specs.declared.mode.Mode.{Mode}
use Rattle.st_base.specs.Mode.{conflicts}
use Rattle.st_rules.specs.declared.locks.LockRow.{LockRow}
use Rattle.st_rules.specs.declared.locks.Waiter.{Waiter}
use Rattle.st_rules.specs.Keys.{same_client, rising}
use Rattle.st_rules.specs.Locks.{waits_besides, stands_against, client_of_row, client_of_wait}
use Rattle.st_tables.specs.Tables.{is_of_client, lock_key, wait_key}
use Rattle.st_tables.proofs.RisingKeys.{numbers, Within, rising_probed, filter_same_tests, any_map_filter}
use Rattle.st_tables.proofs.ClientRows.{looked, looked_first, within}

within_append : (a b : ℕ) (xs ys : List ℕ) → Within a b xs → Within a b ys → Within a b (xs ++ ys)
within_append a b [] ys p q = q
within_append a b (x ∷ xs) ys p q = (p.0, within_append a b xs ys p.1 q)

-- a wait of another client
abbrev pub besides : ClientId → Waiter → Bool
besides c w = not (same_client w.client c)

-- a row of another client that conflicts
abbrev pub against : ClientId → Mode → LockRow → Bool
against c mode r = not (same_client r.client c) && conflicts r.mode mode

-- a look at one client
abbrev pub in_way : ClientId → ℕ → Mode → List LockRow → List Waiter → ℕ → Bool
in_way c ino mode rows ws d = looked wait_key ino (besides c) ws d || looked lock_key ino (against c mode) rows d

pub way_looked : (c : ClientId) (ino : ℕ) (mode : Mode) (rows : List LockRow) (ws : List Waiter) → list_all (is_of_client lock_key) rows ≡ true → list_all (is_of_client wait_key) ws ≡ true
    → rising (map client_of_wait (filter (waits_besides c ino) ws) ++ map client_of_row (filter (stands_against c ino mode) rows)) ≡ filter (in_way c ino mode rows ws) (numbers 1 16)
way_looked c ino mode rows ws r h =
    let a = map client_of_wait (filter (waits_besides c ino) ws) in
    let b = map client_of_row (filter (stands_against c ino mode) rows) in
    rising_probed 1 16 (a ++ b) (within_append 1 17 a b (within wait_key ino (besides c) (waits_besides c ino) ws h) (within lock_key ino (against c mode) (stands_against c ino mode) rows r))
    ∙ filter_same_tests _ (in_way c ino mode rows ws) (numbers 1 16) (λ d. list_any-append (λ k. k == d) a b ∙ (λ i. looked_first wait_key ino (besides c) ws d i || looked_first lock_key ino (against c mode) rows d i))

-- the clients with a row that passes a test
pub test_looked : (p : LockRow → Bool) (rows : List LockRow) → list_all (is_of_client lock_key) rows ≡ true → rising (map client_of_row (filter p rows)) ≡ filter (λ c. list_any (λ r. p r && (r.client.0 == c)) rows) (numbers 1 16)
test_looked p rows h =
    rising_probed 1 16 (map client_of_row (filter p rows)) (within lock_key 0 p p rows h)
    ∙ filter_same_tests _ (λ c. list_any (λ r. p r && (r.client.0 == c)) rows) (numbers 1 16) (λ c. any_map_filter client_of_row p c rows)
