use Rattle.std.proofs.Common.{◌≡◌, ◌<◌, ◌^◌, ◌++◌, ℕ, List, Some, None, length, arith, rules}
use Rattle.st_journal_bytes.specs.Headers.{MAGIC}
use Rattle.st_journal_bytes.specs.Plain.{plain}
use Rattle.st_journal_bytes.specs.Reading.{after_front, word32_at}
use Rattle.st_journal_file.specs.Layout.{part}
use Rattle.st_journal_bytes.proofs.Headers.{has_version, is_headed, no_body, no_number, no_part}
use Rattle.st_journal_bytes.proofs.header.read_header.Goals as goal

pub returns-in_default-read_word32-clause-none : goal.returns-in_default-read_word32-clause-none
returns-in_default-read_word32-clause-none c =
    let a : after_front MAGIC c.args.bytes.now ≡ Some c.in-Some.rest.now = search rules in
    let b : word32_at c.in-Some.rest.now ≡ None = search rules in
    λ h i. no_number c.args.bytes.now c.in-Some.rest.now h a b i

pub returns-then-version-ne-VERSION-clause-none : goal.returns-then-version-ne-VERSION-clause-none
returns-then-version-ne-VERSION-clause-none c =
    let a : after_front MAGIC c.args.bytes.now ≡ Some c.in-Some.rest.now = search rules in
    let b : word32_at c.in-Some.rest.now ≡ Some (c.in-Some-read_word32.version, c.in-Some-read_word32.rest.now) = search rules in (
      has_version c.args.bytes.now c.in-Some.rest.now c.in-Some-read_word32.rest.now c.in-Some-read_word32.version (λ i. omega (arith, c.type_inv.bytes i)) a b,
      λ e. omega (arith, e, c.if-version-ne-VERSION.true),
    )

pub returns-in_default-read_part-clause-none : goal.returns-in_default-read_part-clause-none
returns-in_default-read_part-clause-none c =
    let a : after_front MAGIC c.args.bytes.now ≡ Some c.in-Some.rest.now = search rules in
    let b : word32_at c.in-Some.rest.now ≡ Some (c.in-Some-read_word32.version, c.in-Some-read_word32.rest.now) = search rules in
    let none : (body rest : List ℕ) → length body < 2 ^ 32 → c.in-Some-read_word32.rest.now ≡ part plain body ++ rest → ⊥ = search rules in
    λ h i. no_part c.args.bytes.now c.in-Some.rest.now c.in-Some-read_word32.rest.now c.in-Some-read_word32.version h a b none i

pub returns-then-body-ne-BODY-clause-none : goal.returns-then-body-ne-BODY-clause-none
returns-then-body-ne-BODY-clause-none c =
    let a : after_front MAGIC c.args.bytes.now ≡ Some c.in-Some.rest.now = search rules in
    let b : word32_at c.in-Some.rest.now ≡ Some (c.in-Some-read_word32.version, c.in-Some-read_word32.rest.now) = search rules in
    let p : c.in-Some-read_word32.rest.now ≡ part plain c.in-Some-read_part.body.now ++ c.in-Some-read_part.field-0-1.now = search rules in
    let short : length c.in-Some-read_part.body.now < 2 ^ 32 = search rules in
    λ h i. no_body c.args.bytes.now c.in-Some.rest.now c.in-Some-read_word32.rest.now c.in-Some-read_part.body.now c.in-Some-read_part.field-0-1.now
    c.in-Some-read_word32.version h a b p short
    (λ e. omega (arith, e, c.if-body-ne-BODY.true)) i

pub returns-clause-found : goal.returns-clause-found
returns-clause-found c =
    let a : after_front MAGIC c.args.bytes.now ≡ Some c.in-Some.rest.now = search rules in
    let b : word32_at c.in-Some.rest.now ≡ Some (c.in-Some-read_word32.version, c.in-Some-read_word32.rest.now) = search rules in
    let p : c.in-Some-read_word32.rest.now ≡ part plain c.in-Some-read_part.body.now ++ c.in-Some-read_part.field-0-1.now = search rules in
    is_headed c.args.bytes.now c.in-Some.rest.now c.in-Some-read_word32.rest.now c.in-Some-read_part.body.now c.in-Some-read_part.field-0-1.now
    c.in-Some-read_word32.version c.of_body.result c.of_body.ensures.fits
    (λ i. omega (arith, c.type_inv.bytes i)) a b (omega (arith, c.if-version-ne-VERSION.false)) p c.of_body.ensures.bytes
