use Rattle.st_lemmas.proofs.Words
use Words.{◌≡◌, ◌++◌, ◌<◌, ◌∙◌, length, map, ap, sym, subst, IfOk, Some, set, slice_get}
use Words.World.{numbered}
use Rattle.std.proofs.lemmas.Option.{slice_get-get_or}
use Rattle.st_move.specs.Network.{turned}
use Rattle.st_move.specs.World.{MoveWorld, sends_behind, sent_move, tick_at}
use Rattle.st_move.proofs.Networks.{both_ok, numbered_at, tick_there}
use Rattle.st_move.proofs.parts.MoveWorld.tick_at.Goals as goal

pub tick-requires : goal.tick-requires
tick-requires c =
    let h : c.args.at < length c.self.inside.sites.items = subst (λ (v : MoveWorld). c.args.at < length v.sites) (sym c.self.view_is) c.requires.there in
    let g : slice_get c.self.inside.sites.items c.args.at ≡ Some c.index_mut.result.now = slice_get-get_or c.self.inside.sites.items c.args.at c.index_mut.result.now h ∙ ap Some (sym c.index_mut.ensures.value) in
    c.requires.can.ticks c.args.s.0 c.index_mut.result.now (numbered_at c.args.self.now.sites c.args.s.0 c.args.at c.index_mut.result.now c.requires.place (subst (λ (v : MoveWorld). slice_get v.sites c.args.at ≡ Some c.index_mut.result.now) c.self.view_is g))

pub returns : goal.returns
returns c =
    let h : c.args.at < length c.self.inside.sites.items = subst (λ (v : MoveWorld). c.args.at < length v.sites) (sym c.self.view_is) c.requires.there in
    let g : slice_get c.self.inside.sites.items c.args.at ≡ Some c.index_mut.result.now = slice_get-get_or c.self.inside.sites.items c.args.at c.index_mut.result.now h ∙ ap Some (sym c.index_mut.ensures.value) in
    subst (λ (v : MoveWorld). IfOk c.send_all.result (λ a. tick_at v c.args.s (numbered v.sites c.args.s.0) ≡ turned (record { sites = set c.self.inside.sites.items c.args.at c.tick.new.self; sent = c.send_all.new.sent.items }) a.items)) c.self.view_is
    (both_ok (c.send_all.new.sent.items ≡ c.self.inside.sent.items ++ map (sent_move c.args.s) c.in_ok-images.images.items) _ _ c.send_all.result
    (λ a p q. tick_there (record { sites = c.self.inside.sites.items; sent = c.self.inside.sent.items }) c.args.s c.args.at c.index_mut.result.now c.tick.new.self c.send_all.new.sent.items a.items
    c.requires.place g c.in_ok-images.ensures.site (p ∙ ap (λ ms. c.self.inside.sent.items ++ map (sent_move c.args.s) ms) c.in_ok-images.ensures.sent)
    (q ∙ ap (λ ms. sends_behind (length c.self.inside.sent.items) (map (sent_move c.args.s) ms)) c.in_ok-images.ensures.sent)) c.send_all.ensures.sent c.send_all.ensures.told)
