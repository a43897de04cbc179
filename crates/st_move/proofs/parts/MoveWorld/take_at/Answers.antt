use Rattle.st_lemmas.proofs.Words
use Words.{◌≡◌, ◌++◌, ◌<◌, ◌∙◌, length, map, ap, sym, subst, IfOk, Some, set, slice_get}
use Words.World.{numbered}
use Rattle.std.proofs.lemmas.Option.{slice_get-get_or}
use Rattle.st_move.specs.Network.{addressed, turned}
use Rattle.st_move.specs.World.{MoveWorld, sent_move, taken_by}
use Rattle.st_move.proofs.Networks.{both_ok, take_there}
use Rattle.st_move.proofs.parts.MoveWorld.take_at.Goals as goal

pub returns : goal.returns
returns c =
    let h : c.args.at < length c.self.inside.sites.items = subst (λ (v : MoveWorld). c.args.at < length v.sites) (sym c.self.view_is) c.requires.there in
    let g : slice_get c.self.inside.sites.items c.args.at ≡ Some c.index_mut.result.now = slice_get-get_or c.self.inside.sites.items c.args.at c.index_mut.result.now h ∙ ap Some (sym c.index_mut.ensures.value) in
    subst (λ (v : MoveWorld). IfOk c.send_all.result (λ a. taken_by v c.args.message.now (numbered v.sites c.args.message.now.to.0) ≡ turned (record { sites = set c.self.inside.sites.items c.args.at c.take.new.self; sent = c.send_all.new.sent.items }) a.items)) c.self.view_is
    (both_ok (c.send_all.new.sent.items ≡ c.self.inside.sent.items ++ map (sent_move c.args.message.now.to) c.in_ok-messages.messages.items) _ _ c.send_all.result
    (λ a p q. take_there (record { sites = c.self.inside.sites.items; sent = c.self.inside.sent.items }) c.args.message.now c.args.at c.index_mut.result.now c.take.new.self c.in_ok-messages.messages.items c.send_all.new.sent.items a.items
    c.requires.place g c.in_ok-answer.ensures.site (c.in_ok-messages.ensures ∙ ap (addressed c.args.message.now.from) c.in_ok-answer.ensures.answer) p q) c.send_all.ensures.sent c.send_all.ensures.told)
