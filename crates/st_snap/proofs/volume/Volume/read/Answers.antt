use Rattle.st_lemmas.proofs.Words
use Words.{ap, subst, sym, ◌∙◌, Ok}
use Rattle.st_snap.specs.Versions.{has_version, latest, page_at}
use Rattle.st_snap.specs.Volumes.{IsTakeOf}
use Rattle.st_snap.proofs.Rules.{refused_read, told}
use Rattle.st_snap.proofs.volume.Volume.read.Goals as goal

pub returns-in-Some-clause-told : goal.returns-in-Some-clause-told
returns-in-Some-clause-told c = λ blocks changes a.
    let t = subst (IsTakeOf c.args.self.now c.args.image) c.in-Some.is c.take_of.ensures in
    told blocks changes c.args.self.now a c.args.file c.args.page.0 c.args.image t.0
    ∙ ap (λ n. Ok (page_at c.args.self.now.versions c.args.file c.args.page.0 (latest (has_version c.args.self.now.versions) c.args.file c.args.page.0 n))) (sym t.1)
    ∙ ap Ok (sym c.page_before.ensures)

pub returns-in-None-clause-refused : goal.returns-in-None-clause-refused
returns-in-None-clause-refused c = λ blocks changes a.
    refused_read blocks changes c.args.self.now a c.args.file c.args.page.0 c.args.image (subst (IsTakeOf c.args.self.now c.args.image) c.in-None.is c.take_of.ensures)
