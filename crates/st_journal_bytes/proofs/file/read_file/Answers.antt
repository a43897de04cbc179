use Rattle.std.proofs.Common.{Ok, Some, ap, nat_eq, slice_index_or, rules}
use Rattle.st_journal_bytes.specs.Files.{IsMadeFile, IsRefused}
use Rattle.st_journal_bytes.specs.declared.file.Current.{Current}
use Rattle.st_journal_bytes.specs.declared.file.FileFault.TheVariants.{BadHeader, Short}
use Rattle.st_journal_bytes.proofs.MadeFiles.{not_refused, one_file}
use Rattle.st_journal_bytes.proofs.Marks.{made_file}
use Rattle.st_journal_bytes.proofs.file.read_file.Goals as goal

pub returns-in-Err-clause-opened : goal.returns-in-Err-clause-opened
returns-in-Err-clause-opened c =
    let refused : IsRefused c.args.bytes.now c.args.wanted.now (BadHeader c.in-Err.fault) = search rules in
    λ d m. absurd (not_refused c.args.bytes.now c.args.wanted.now d (BadHeader c.in-Err.fault) m refused)

pub returns-in-Err-check_identity-clause-opened : goal.returns-in-Err-check_identity-clause-opened
returns-in-Err-check_identity-clause-opened c =
    let refused : IsRefused c.args.bytes.now c.args.wanted.now (BadHeader c.in-Err-check_identity.fault) = search rules in
    λ d m. absurd (not_refused c.args.bytes.now c.args.wanted.now d (BadHeader c.in-Err-check_identity.fault) m refused)

pub returns-then-bytes-from-clause-opened : goal.returns-then-bytes-from-clause-opened
returns-then-bytes-from-clause-opened c =
    let refused : IsRefused c.args.bytes.now c.args.wanted.now Short = search rules in
    λ d m. absurd (not_refused c.args.bytes.now c.args.wanted.now d Short m refused)

pub returns-clause-opened : goal.returns-clause-opened
returns-clause-opened c =
    let read : Current = record { second = nat_eq (slice_index_or c.args.bytes.now 111 0) 255; header = c.in-Ok.header } in
    let made : IsMadeFile c.args.bytes.now c.args.wanted.now read = search (rules, made_file) in
    λ d m. ap (λ (x : Current). Ok (Some x)) (one_file c.args.bytes.now c.args.wanted.now read d made m)
