use Rattle.std.proofs.Common.{◌≡◌, ap, subst, sym}
use Rattle.st_stable_file.specs.Opened.{CanBeOpened, IsNotOpened, Opens}
use Rattle.st_stable_file.specs.OpenedFile.{shape_of}
use Rattle.st_stable_file.specs.declared.fault.StableFault.TheVariants as area_faults
use Rattle.st_stable_file.specs.declared.file.OpenFault.TheVariants as faults
use Rattle.st_stable_file.proofs.file.open_current.Goals as goal

pub returns-in-Ok-clause-ok : goal.returns-in-Ok-clause-ok
returns-in-Ok-clause-ok c = λ m.
    subst (λ b. Opens (shape_of c.args.wanted.now) b c.in-Ok.area) (c.current_area-area.ensures.area c.args.wanted.now m) c.in-Ok.ensures.ok

pub returns-in-Ok-clause-exact : goal.returns-in-Ok-clause-exact
returns-in-Ok-clause-exact c = λ m state h.
    c.in-Ok.ensures.exact state (subst (λ b. CanBeOpened (shape_of c.args.wanted.now) b state) (sym (c.current_area-area.ensures.area c.args.wanted.now m)) h)

pub returns-in-Err-clause-err : goal.returns-in-Err-clause-err
returns-in-Err-clause-err c = record {
  current = c.args.current;
  made = c.requires.made;
  why = subst (λ b. IsNotOpened (shape_of c.args.wanted.now) b c.in-Err.fault) (c.current_area-area.ensures.area c.args.wanted.now c.requires.made) c.in-Err.ensures.err;
}

pub returns-in-Err-clause-exact : goal.returns-in-Err-clause-exact
returns-in-Err-clause-exact c = λ m state h.
    let e : c.in-Err.fault ≡ area_faults.Memory =
    c.in-Err.ensures.exact state (subst (λ b. CanBeOpened (shape_of c.args.wanted.now) b state) (sym (c.current_area-area.ensures.area c.args.wanted.now m)) h) in
    ap (λ f. faults.Area f) e
