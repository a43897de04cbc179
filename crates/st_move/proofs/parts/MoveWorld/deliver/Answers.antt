use Rattle.st_lemmas.proofs.Words
use Words.{◌≡◌, ◌<◌, ◌≤◌, ◌∙◌, length, ap, sym, subst, Some, slice_get}
use Words.World.{numbered}
use Rattle.std.proofs.lemmas.Option.{slice_get-get_or}
use Rattle.st_move.specs.declared.world.SentMove.{SentMove}
use Rattle.st_move.specs.Containers.{container_of}
use Rattle.st_move.specs.Network.{turned}
use Rattle.st_move.specs.World.{MoveWorld, deliver_at}
use Rattle.st_move.proofs.Networks.{deliver_none, each_ok, numbered_at}
use Rattle.st_move.proofs.parts.MoveWorld.deliver.Goals as goal

pub returns-in-None : goal.returns-in-None
returns-in-None c = each_ok _ _ c.one.result (λ v e. deliver_none c.args.self.now c.args.k c.in-None.ensures ∙ ap (turned c.args.self.now) (sym e)) c.one.ensures

pub deliver_message-requires-clause-some : goal.deliver_message-requires-clause-some
deliver_message-requires-clause-some c =
    let h : c.in-Some.at < length c.self.inside.sent.items = subst (λ (v : MoveWorld). c.in-Some.at < length v.sent) (sym c.self.view_is) c.in-Some.ensures.1 in
    let g : slice_get c.self.inside.sent.items c.in-Some.at ≡ Some c.index.result.now = slice_get-get_or c.self.inside.sent.items c.in-Some.at c.index.result.now h ∙ ap Some (sym c.index.ensures) in
    let n : numbered c.args.self.now.sent c.args.k ≡ Some c.index.result.now =
    numbered_at c.args.self.now.sent c.args.k c.in-Some.at c.index.result.now c.in-Some.ensures.0 (subst (λ (w : MoveWorld). slice_get w.sent c.in-Some.at ≡ Some c.index.result.now) c.self.view_is g) in
    subst (λ (m : SentMove). 1 ≤ container_of m.message) (sym c.in_ok-message-in-Some.ensures) (c.requires.some c.args.k c.index.result.now n)

pub deliver_message-requires-clause-known : goal.deliver_message-requires-clause-known
deliver_message-requires-clause-known c =
    let h : c.in-Some.at < length c.self.inside.sent.items = subst (λ (v : MoveWorld). c.in-Some.at < length v.sent) (sym c.self.view_is) c.in-Some.ensures.1 in
    let g : slice_get c.self.inside.sent.items c.in-Some.at ≡ Some c.index.result.now = slice_get-get_or c.self.inside.sent.items c.in-Some.at c.index.result.now h ∙ ap Some (sym c.index.ensures) in
    let n : numbered c.args.self.now.sent c.args.k ≡ Some c.index.result.now =
    numbered_at c.args.self.now.sent c.args.k c.in-Some.at c.index.result.now c.in-Some.ensures.0 (subst (λ (w : MoveWorld). slice_get w.sent c.in-Some.at ≡ Some c.index.result.now) c.self.view_is g) in
    λ s x e. subst (λ (m : SentMove). container_of m.message ≤ length x.containers.records) (sym c.in_ok-message-in-Some.ensures)
    (c.requires.known c.args.k c.index.result.now n s x e)

pub returns-in_ok-message-in-Some : goal.returns-in_ok-message-in-Some
returns-in_ok-message-in-Some c =
    let h : c.in-Some.at < length c.self.inside.sent.items = subst (λ (v : MoveWorld). c.in-Some.at < length v.sent) (sym c.self.view_is) c.in-Some.ensures.1 in
    let g : slice_get c.self.inside.sent.items c.in-Some.at ≡ Some c.index.result.now = slice_get-get_or c.self.inside.sent.items c.in-Some.at c.index.result.now h ∙ ap Some (sym c.index.ensures) in
    let i : slice_get c.args.self.now.sent c.in-Some.at ≡ Some c.in_ok-message-in-Some.message =
    subst (λ (w : MoveWorld). slice_get w.sent c.in-Some.at ≡ Some c.in_ok-message-in-Some.message) c.self.view_is (g ∙ ap Some (sym c.in_ok-message-in-Some.ensures)) in
    each_ok _ _ c.deliver_message.result
    (λ a d. ap (deliver_at c.args.self.now c.args.k) (numbered_at c.args.self.now.sent c.args.k c.in-Some.at c.in_ok-message-in-Some.message c.in-Some.ensures.0 i) ∙ d) c.deliver_message.ensures
