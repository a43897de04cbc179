use Rattle.st_lemmas.proofs.Words
use Words.{◌≡◌, ◌<◌, ◌+◌, ◌∙◌, length, ap, sym, subst, IfOk, Some, set, slice_get, ServerId}
use Words.Lookups.{some_is}
use Words.Numbers.{get_there}
use Words.World.{numbered}
use Rattle.std.proofs.lemmas.Option.{slice_get-get_or}
use Rattle.st_move.specs.declared.site.MoveSite.{MoveSite}
use Rattle.st_move.specs.World.{MoveWorld, order_for, told}
use Rattle.st_move.proofs.Networks.{each_ok, order_there, order_to_nowhere}
use Rattle.st_move.proofs.parts.MoveWorld.order_at.Goals as goal

pub returns-in-None : goal.returns-in-None
returns-in-None c = λ s x e f. order_to_nowhere c.args.self.now s x c.args.c c.args.to c.in-None.ensures

pub returns-in-Some : goal.returns-in-Some
returns-in-Some c =
    let h : c.args.at < length c.self.inside.sites.items = subst (λ (v : MoveWorld). c.args.at < length v.sites) (sym c.self.view_is) c.requires in
    let g : slice_get c.self.inside.sites.items c.args.at ≡ Some c.index_mut.result.now = slice_get-get_or c.self.inside.sites.items c.args.at c.index_mut.result.now h ∙ ap Some (sym c.index_mut.ensures.value) in
    let k : c.in-Some.field-0 < length c.self.inside.sites.items = subst (λ (v : MoveWorld). c.in-Some.field-0 < length v.sites) (sym c.self.view_is) c.in-Some.ensures.1 in
    let y : (v : MoveSite) × (slice_get c.self.inside.sites.items c.in-Some.field-0 ≡ Some v) = get_there c.self.inside.sites.items c.in-Some.field-0 k in
    subst (λ (w : MoveWorld). IfOk c.order.result (λ a. (s : ServerId) (x : MoveSite) → s.0 ≡ c.args.at + 1 → slice_get w.sites c.args.at ≡ Some x
    → order_for w s x c.args.c c.args.to (numbered w.sites c.args.to.0) ≡ told (record { sites = set c.self.inside.sites.items c.args.at c.order.new.self; sent = c.self.inside.sent.items }) a)) c.self.view_is
    (each_ok _ _ c.order.result
    (λ a d s x e f. subst (λ (z : MoveSite). order_for (record { sites = c.self.inside.sites.items; sent = c.self.inside.sent.items }) s z c.args.c c.args.to (numbered c.self.inside.sites.items c.args.to.0)
    ≡ told (record { sites = set c.self.inside.sites.items c.args.at c.order.new.self; sent = c.self.inside.sent.items }) a) (some_is (sym g ∙ f))
    (order_there (record { sites = c.self.inside.sites.items; sent = c.self.inside.sent.items }) s c.args.at c.in-Some.field-0 c.index_mut.result.now c.order.new.self y.0 c.args.c c.args.to a e g c.in-Some.ensures.0 y.1 d)) c.order.ensures)
