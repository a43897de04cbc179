use Rattle.st_lemmas.proofs.Words
use Words.{◌≡◌, arith, subst, sym}
use Rattle.st_snap.specs.Versions.{IsLastBelow, key_of}
use Rattle.st_snap.proofs.Shelved.{latest_here, latest_nothing, latest_other}
use Rattle.st_snap.proofs.versions.Versions.latest.Goals as goal

pub returns-in-Some : goal.returns-in-Some
returns-in-Some c =
    let b = subst (IsLastBelow c.args.self.now (key_of c.args.file c.args.page.0 c.args.take)) c.in-Some.is c.last_below.ensures in
    let x : c.in-Some.key.file ≡ c.args.file = first_of (omega (arith, c.if-key-file.true), grind (arith, c.if-key-file.true)) in
    let y : c.in-Some.key.page ≡ c.args.page.0 = first_of (omega (arith, c.if-key-page.true), grind (arith, c.if-key-page.true)) in
    sym (latest_here c.args.self.now c.args.file c.args.page.0 c.args.take c.in-Some.key b x y)

pub returns-in_default : goal.returns-in_default
returns-in_default c =
    let b = subst (IsLastBelow c.args.self.now (key_of c.args.file c.args.page.0 c.args.take)) c.in-Some.is c.last_below.ensures in
    sym (latest_other c.args.self.now c.args.file c.args.page.0 c.args.take c.in-Some.key b (λ d. first_of (omega (arith, d.1, c.if-key-page.false), grind (arith, d.1, c.if-key-page.false))))

pub returns-in_default-2 : goal.returns-in_default-2
returns-in_default-2 c =
    let b = subst (IsLastBelow c.args.self.now (key_of c.args.file c.args.page.0 c.args.take)) c.in-Some.is c.last_below.ensures in
    sym (latest_other c.args.self.now c.args.file c.args.page.0 c.args.take c.in-Some.key b (λ d. first_of (omega (arith, d.0, c.if-key-file.false), grind (arith, d.0, c.if-key-file.false))))

pub returns-in_default-3 : goal.returns-in_default-3
returns-in_default-3 c =
    let b = subst (IsLastBelow c.args.self.now (key_of c.args.file c.args.page.0 c.args.take)) c.in_default.is c.last_below.ensures in
    sym (latest_nothing c.args.self.now c.args.file c.args.page.0 c.args.take b)
