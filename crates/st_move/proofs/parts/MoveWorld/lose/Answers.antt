use Rattle.st_lemmas.proofs.Words
use Words.{◌≡◌, ◌<◌, ◌∙◌, length, ap, sym, subst, false, Some, set, slice_get}
use Words.World.{numbered}
use Words.Lookups.{some_is}
use Rattle.std.proofs.lemmas.Option.{slice_get-get_or}
use Rattle.st_move.specs.declared.world.SentMove.{SentMove}
use Rattle.st_move.specs.Network.{turned}
use Rattle.st_move.specs.World.{MoveWorld, lose_at, lost_move}
use Rattle.st_move.proofs.Networks.{each_ok, lose_lost, lose_none, lose_sent}
use Rattle.st_move.proofs.parts.MoveWorld.lose.Goals as goal

pub returns-in-None : goal.returns-in-None
returns-in-None c = each_ok _ _ c.one.result (λ v e. lose_none c.args.self.now c.args.k c.in-None.ensures ∙ ap (turned c.args.self.now) (sym e)) c.one.ensures

pub returns-then-index : goal.returns-then-index
returns-then-index c =
    let h : c.in-Some.at < length c.self.inside.sent.items = subst (λ (v : MoveWorld). c.in-Some.at < length v.sent) (sym c.self.view_is) c.in-Some.ensures.1 in
    let g : slice_get c.self.inside.sent.items c.in-Some.at ≡ Some c.index.result.now = slice_get-get_or c.self.inside.sent.items c.in-Some.at c.index.result.now h ∙ ap Some (sym c.index.ensures) in
    each_ok _ _ c.one-then-index.result
    (λ v e. lose_lost c.args.self.now c.args.k c.in-Some.at c.index.result.now c.in-Some.ensures.0 (subst (λ (w : MoveWorld). slice_get w.sent c.in-Some.at ≡ Some c.index.result.now) c.self.view_is g) c.if-index.true
    ∙ ap (turned c.args.self.now) (sym e)) c.one-then-index.ensures

pub returns-else-index : goal.returns-else-index
returns-else-index c =
    let h : c.in-Some.at < length c.self.inside.sent.items = subst (λ (v : MoveWorld). c.in-Some.at < length v.sent) (sym c.self.view_is) c.in-Some.ensures.1 in
    let g : slice_get c.self.inside.sent.items c.in-Some.at ≡ Some c.index.result.now = slice_get-get_or c.self.inside.sent.items c.in-Some.at c.index.result.now h ∙ ap Some (sym c.index.ensures) in
    let i : slice_get c.self.inside.sent.items c.in-Some.at ≡ Some c.index_mut.result.now = slice_get-get_or c.self.inside.sent.items c.in-Some.at c.index_mut.result.now h ∙ ap Some (sym c.index_mut.ensures.value) in
    let l : c.index_mut.result.now.lost ≡ false = ap (λ (m : SentMove). m.lost) (some_is (sym i ∙ g)) ∙ c.if-index.false in
    subst (λ (v : MoveWorld). lose_at v c.args.k (numbered v.sent c.args.k) ≡ turned (record { sites = c.self.inside.sites.items; sent = set c.self.inside.sent.items c.in-Some.at (lost_move c.index_mut.result.now) }) c.new.result.items) c.self.view_is
    (lose_sent (record { sites = c.self.inside.sites.items; sent = c.self.inside.sent.items }) c.args.k c.in-Some.at c.index_mut.result.now c.in-Some.ensures.0 i l
    ∙ ap (turned (record { sites = c.self.inside.sites.items; sent = set c.self.inside.sent.items c.in-Some.at (lost_move c.index_mut.result.now) })) (sym c.new.ensures.items))
