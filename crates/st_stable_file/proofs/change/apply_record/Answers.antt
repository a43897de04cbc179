use Rattle.std.proofs.Common.{◌<◌, length, rules}
use Rattle.st_journal.specs.Parts.{stable_of}
use Rattle.st_stable_file.proofs.Records.{no_short}
use Rattle.st_stable_file.proofs.change.apply_record.Goals as goal

pub returns-in_default-clause-err : goal.returns-in_default-clause-err
returns-in_default-clause-err c =
    let short : length c.args.record_bytes.now < 8 = search rules in
    no_short (stable_of c.args.stable.now) c.args.last c.args.at c.args.record_bytes.now short
