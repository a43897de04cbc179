use Rattle.st_lemmas.proofs.Words
use Words.{ap, subst, ◌∙◌}
use Rattle.st_snap.specs.Versions.{has_version}
use Rattle.st_snap.specs.Volumes.{IsHeld, IsUnshared, Puts}
use Rattle.st_snap.proofs.Latest.{latest_some}
use Rattle.st_snap.proofs.Rules.{ends_new, ends_over, none_begun}
use Rattle.st_snap.proofs.Slotted.{on_ok}
use Rattle.st_snap.proofs.volume.Volume.write.Goals as goal

pub rewrite-requires : goal.rewrite-requires
rewrite-requires c =
    let u = subst (IsUnshared c.args.self.now c.args.file c.args.page.0) c.in-Some.is c.unshared.ensures in
    ap (has_version c.args.self.now.versions) u.1.0 ∙ (latest_some (has_version c.args.self.now.versions) c.args.file c.args.page.0 c.args.self.now.next u.0 u.1.1.0).there

pub begin-requires : goal.begin-requires
begin-requires c =
    none_begun c.args.self.now (subst IsHeld c.self.view_is c.self.invariant) c.args.file c.args.page.0 (subst (IsUnshared c.args.self.now c.args.file c.args.page.0) c.in-None.is c.unshared.ensures)

pub returns-in-Some : goal.returns-in-Some
returns-in-Some c = λ blocks changes a.
    let u = subst (IsUnshared c.args.self.now c.args.file c.args.page.0) c.in-Some.is c.unshared.ensures in
    ends_over blocks changes c.args.self.now c.rewrite.new.self (subst IsHeld c.self.view_is c.self.invariant) a c.args.file c.args.page.0 u.0 c.args.bytes.now c.rewrite.result u.1.1.0 u.1.1.1
    (on_ok c.rewrite.result _ _ c.rewrite.ensures.ok (λ w. subst (λ k. Puts c.args.self.now c.rewrite.new.self k c.args.bytes.now) u.1.0 w)) c.rewrite.ensures.memory

pub returns-in-None : goal.returns-in-None
returns-in-None c = λ blocks changes a.
    ends_new blocks changes c.args.self.now c.begin.new.self (subst IsHeld c.self.view_is c.self.invariant) a c.begin.ensures.kept c.args.file c.args.page.0 c.args.bytes.now c.begin.result
    (subst (IsUnshared c.args.self.now c.args.file c.args.page.0) c.in-None.is c.unshared.ensures) c.begin.ensures.ok c.begin.ensures.room c.begin.ensures.err
