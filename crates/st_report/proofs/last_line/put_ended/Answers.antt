use Rattle.std.specs.Prelude.{codes}
use Rattle.st_rules.specs.Report as text
use Rattle.st_report.proofs.Parts.{in_parts}
use Rattle.st_report.proofs.last_line.put_ended.Goals as goal

pub returns : goal.returns
unfolding text.ended
returns c =
    let s = c.args.s in
    in_parts c.put_text.result _ _ _ _ _ _ _ _ _ _ (codes "end events") (text.field s.events) (codes " sent") (text.field s.sent) (codes " commands") (text.field s.commands)
    (codes " writes") (text.field s.writes) (codes " reads") (text.field s.reads) (codes " hard") (text.field s.hard)
    (codes " gone") (text.field s.gone) (codes " stolen") (text.field s.stolen) (codes "\n")
    c.in_ok-put_numbered.ensures c.in_ok-put_numbered-2.ensures c.in_ok-put_numbered-3.ensures c.in_ok-put_numbered-4.ensures c.in_ok-put_numbered-5.ensures
    c.in_ok-put_numbered-6.ensures c.in_ok-put_numbered-7.ensures c.in_ok-put_numbered-8.ensures c.put_text.ensures
