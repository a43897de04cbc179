use Rattle.std.proofs.Common.{◌≡◌, ◌<◌, ◌∷◌, ◌++◌, ℕ, List, Bool, length, arith, refl, rules}
use Rattle.st_snapshot.specs.Snapshots.{mark}
use Rattle.st_snapshot.proofs.Spelled.{entry_found, entry_long, no_mark, no_name}
use Rattle.st_snapshot.proofs.entry.read_entry.Goals as goal

pub returns-then-bytes-lt16-clause-none : goal.returns-then-bytes-lt16-clause-none
returns-then-bytes-lt16-clause-none c = λ e more fits is. let n = entry_long e c.args.bytes.now more is in omega (arith, n, c.if-bytes-lt16.true)

pub returns-in_default-clause-none : goal.returns-in_default-clause-none
returns-in_default-clause-none c =
    let n = c.split_numbers-dir in
    let none : (b : Bool) (rest : List ℕ) → n.result.3.now ≡ mark b ∷ rest → ⊥ = search rules in
    λ e more fits is. no_mark e n.result.0 n.result.1 n.result.2 c.args.bytes.now n.result.3.now more n.ensures.parts n.ensures.dir n.ensures.ino n.ensures.len none fits is

pub returns-in_default-read_text-clause-none : goal.returns-in_default-read_text-clause-none
returns-in_default-read_text-clause-none c =
    let n = c.split_numbers-dir in
    let found : n.result.3.now ≡ mark c.in-Some.directory ∷ c.in-Some.rest.now = search rules in
    let short : length c.in-Some.rest.now < n.result.2 = search rules in
    λ e more fits is. no_name e n.result.0 n.result.1 n.result.2 c.args.bytes.now n.result.3.now c.in-Some.rest.now more c.in-Some.directory n.ensures.parts n.ensures.dir n.ensures.ino
    n.ensures.len found short fits is

pub returns-clause-found : goal.returns-clause-found
returns-clause-found c =
    let n = c.split_numbers-dir in
    let found : n.result.3.now ≡ mark c.in-Some.directory ∷ c.in-Some.rest.now = search rules in
    let text : c.in-Some.rest.now ≡ c.in-Some-read_text.name.now ++ c.in-Some-read_text.rest.now = search rules in
    let size : length c.in-Some-read_text.name.now ≡ n.result.2 = search rules in
    entry_found (record { dir = n.result.0; name = c.in_ok-copy.copy; ino = n.result.1; directory = c.in-Some.directory }) c.args.bytes.now n.result.3.now c.in-Some.rest.now
    c.in-Some-read_text.name.now c.in-Some-read_text.rest.now n.result.0 n.result.1 n.result.2 c.in-Some.directory n.ensures.parts found text size refl refl refl c.in_ok-copy.ensures
