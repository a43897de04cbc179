use Rattle.st_lemmas.proofs.Words
use Words.{get_or, ap, ◌∙◌}
use Words.ClientState.{ClientTurn}
use Rattle.st_client.specs.declared.parts.ClientParts.{ClientParts}
use Rattle.st_client.proofs.Growing.{one_in}
use Rattle.st_client.proofs.Placing.{place_idle, within_items}
use Rattle.st_client.proofs.turn.ClientTurn.is_touched_at.Goals as goal

pub returns : goal.returns
returns g c = λ e.
    let x = c.self.inside.parts.value in
    let h = ap (λ (t : ClientTurn). t.state.associations) c.self.view_is in
    let l = within_items x.associations.items c.args.self.now.state.associations c.args.place h c.requires in
    let a = c.index.ensures ∙ ap (λ (p : ClientParts). get_or p.associations.items c.args.place c.index.result.now) c.deref.ensures in
    let k = (one_in x.id x.config x.next_command x.out.items x.associations.items c.args.place c.index.result.now l a c.self.invariant).config ∙ ap (λ (t : ClientTurn). t.state.config) c.self.view_is in
    place_idle (g.R.Rule.run c.args.rule.now) c.args.self.now x.associations.items c.args.place c.index.result.now l a h k (c.is_touched.ensures e)
