use Rattle.std.proofs.Common.{◌≡◌, ◌++◌, ◌∷◌, [], subst, ◌∙◌}
use Rattle.std.specs.Prelude.{IfOk}
use Rattle.st_journal.specs.Changes.{bytes_of}
use Rattle.st_journal.specs.Journal.{framed}
use Rattle.st_journal_bytes.specs.Moments.{dated_bytes}
use Rattle.st_stable_file.proofs.Spelled.{cut_out, long_enough}
use Rattle.st_stable_file.proofs.written.change_bytes.Goals as goal

pub split_at-requires : goal.split_at-requires
split_at-requires c =
    let e : c.as_slice.result.now ≡ framed c.args.change.now ++ 0 ∷ [] = c.as_slice.ensures.value ∙ c.in_ok-framed.ensures in
    long_enough c.args.change.now c.as_slice.result.now c.size-size.result e c.size-size.ensures.size

pub returns : goal.returns
returns c =
    let e : c.as_slice.result.now ≡ framed c.args.change.now ++ 0 ∷ [] = c.as_slice.ensures.value ∙ c.in_ok-framed.ensures in
    let same : c.split_at-2.result.1.now ≡ bytes_of c.args.change.now =
    cut_out c.args.change.now c.as_slice.result.now c.split_at.result.0.now c.split_at.result.1.now c.split_at-2.result.0.now c.split_at-2.result.1.now c.size-size.result e
    c.size-size.ensures.size c.split_at.ensures.by_index.0 c.split_at.ensures.front_len c.split_at-2.ensures.by_index.0 c.split_at-2.ensures.front_len in
    subst (λ b. IfOk c.dated_of.result (λ v. v.items ≡ dated_bytes c.args.moment b)) same c.dated_of.ensures
