use Rattle.std.proofs.Common.{◌≡◌, Bool, cond, Result, Ok, sym, ap, ◌∙◌}
use Rattle.st_rules.specs.Keys.{page_no}
use Rattle.st_rules.specs.Names as names
use Rattle.st_rules.specs.Server.{Stable}
use Rattle.st_rules.specs.declared.names.EntryRefusal.{EntryRefusal}
use Rattle.st_journal.specs.Parts.{stable_of}
use Rattle.st_journal.specs.Stable.{released, removed, with_names}
use Rattle.st_journal.specs.declared.stable.ChangeRefusal.{ChangeRefusal}
use Rattle.st_journal.proofs.RemovedEntries.{removed_file}
use Rattle.st_journal.proofs.stable.Stable.remove.Goals as goal

abbrev told : Stable → Result Stable ChangeRefusal
told s = Ok s

pub returns-in-Ok : goal.returns-in-Ok
unfolding removed
returns-in-Ok c =
    let t = stable_of c.args.self.now in
    let d : names.Changed = record { names = c.remove.new.self; ino = c.in-Ok.ino } in
    let exact = rw c.as_slice-2.ensures at c.in-Ok.ensures.exact in
    let looked = rw c.as_slice.ensures at c.is_file_at-is_file.ensures in
    let is : c.is_file_at-is_file.result ≡ names.is_file t.names c.in-Ok.ino = looked ∙ removed_file t.names c.args.dir c.args.name.now d exact in
    ap (λ (r : Result names.Changed EntryRefusal). removed t r) exact
    ∙ ap (λ (s : Stable). told s) (ap (λ (b : Bool). cond b (released (with_names t d.names) d.ino (page_no 0)) (with_names t d.names)) (sym is) ∙ sym c.release_all.ensures)
