use Rattle.std.proofs.Common.{◌++◌, ◌∷◌, [], refl}
use Rattle.st_journal.specs.Parts.{stable_of}
use Rattle.st_script_journal.proofs.JournalRuns.{starts_with}
use Rattle.st_script_journal.proofs.journal_run.record.Goals as goal

pub joined-requires : goal.joined-requires
joined-requires c = let a = c.requires.applies in (a.0 ++ c.args.change.now ∷ [], c.in-Ok.ensures.opened a.0 a.1 (stable_of c.args.stable) a.2 a.3)

pub returns-in-Ok : goal.returns-in-Ok
returns-in-Ok c = λ changes state o e.
    let now = c.in-Ok.ensures.opened changes state (stable_of c.args.stable) o e in
    (starts_with c.append.new.journal (changes ++ c.args.change.now ∷ []) (stable_of c.args.stable) (stable_of c.args.stable) c.joined.result c.joined.ensures now refl, refl)
