use Rattle.std.proofs.Common.{◌≡◌, ◌≤◌, Some, arith, refl, rules}
use Rattle.std.specs.Prelude.{Err, Ok}
use Rattle.std.proofs.lemmas.Result.{err_from_is_err_and}
use Rattle.st_journal_bytes.specs.Files.{IsMadeFile}
use Rattle.st_stable_file.proofs.Opens.{is_read, not_earlier, opened_to, opens_file}
use Rattle.st_stable_file.proofs.file.open_file.Goals as goal

pub returns-in-Err-clause-exact : goal.returns-in-Err-clause-exact
returns-in-Err-clause-exact c = λ state h.
    absurd (is_read c.args.bytes.now c.args.wanted.now c.args.now c.read_file.result c.read_file.ensures.opened state h c.in-Err.fault c.in-Err.is)

pub returns-in_err-opened-clause-exact : goal.returns-in_err-opened-clause-exact
returns-in_err-opened-clause-exact c = λ state h.
    let p = err_from_is_err_and c.from_residual.result c.from_residual.ensures.1 in
    let e : c.read_file.result ≡ Ok (Some c.in-Some.current) = rw (c.in-Ok.is, c.in-Some.is) refl in
    rw (p.1, p.2)
    (opened_to c.args.bytes.now c.args.wanted.now c.args.now c.read_file.result c.read_file.ensures.opened state h c.in-Some.current (Err c.in_err-opened.field-0.0) e
    c.in_err-opened.ensures.exact)

pub returns-then-now-last-clause-err : goal.returns-then-now-last-clause-err
returns-then-now-last-clause-err c =
    let m : IsMadeFile c.args.bytes.now c.args.wanted.now c.in-Some.current = search rules in
    record {
      current = c.in-Some.current;
      made = m;
      opened = c.in_ok-opened.opened.area;
      area = c.in_ok-opened.ensures.ok m;
      when = refl;
      later = c.if-now-last.true;
    }

pub returns-then-now-last-clause-exact : goal.returns-then-now-last-clause-exact
returns-then-now-last-clause-exact c = λ state h.
    let e : c.read_file.result ≡ Ok (Some c.in-Some.current) = rw (c.in-Ok.is, c.in-Some.is) refl in
    let to = opened_to c.args.bytes.now c.args.wanted.now c.args.now c.read_file.result c.read_file.ensures.opened state h c.in-Some.current (Ok c.in_ok-opened.opened) e
    c.in_ok-opened.ensures.exact in
    absurd (not_earlier c.args.now c.in_ok-opened.opened.area.end.moment c.args.bytes.now c.args.wanted.now state h to.1 c.if-now-last.true)

pub returns-clause-made : goal.returns-clause-made
returns-clause-made c =
    let m : IsMadeFile c.args.bytes.now c.args.wanted.now c.in-Some.current = search rules in
    let early : c.in_ok-opened.opened.area.end.moment ≤ c.args.now = omega (arith, c.if-now-last.false) in
    opens_file c.args.bytes.now c.args.wanted.now c.args.now c.in-Some.current c.in_ok-opened.opened c.in_ok-opened.ensures.current m c.in_ok-opened.ensures.ok early

pub returns-clause-exact : goal.returns-clause-exact
returns-clause-exact c = λ state h.
    let e : c.read_file.result ≡ Ok (Some c.in-Some.current) = rw (c.in-Ok.is, c.in-Some.is) refl in
    opened_to c.args.bytes.now c.args.wanted.now c.args.now c.read_file.result c.read_file.ensures.opened state h c.in-Some.current (Ok c.in_ok-opened.opened) e
    c.in_ok-opened.ensures.exact
