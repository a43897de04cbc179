use Rattle.st_lemmas.proofs.Words
use Words.{◌≡◌, ◌<◌, ◌∙◌, length, ap, sym, subst, IfOk, Some, set, slice_get}
use Words.World.{numbered}
use Rattle.std.proofs.lemmas.Option.{slice_get-get_or}
use Rattle.st_move.specs.World.{MoveWorld, lock_at, told}
use Rattle.st_move.proofs.Networks.{at_server, each_ok, lock_nowhere, numbered_at}
use Rattle.st_move.proofs.parts.MoveWorld.lock.Goals as goal

pub returns-in-None : goal.returns-in-None
returns-in-None c = lock_nowhere c.args.self.now c.args.s c.args.c c.in-None.ensures

pub returns-in-Some : goal.returns-in-Some
returns-in-Some c =
    let h : c.in-Some.at < length c.self.inside.sites.items = subst (λ (v : MoveWorld). c.in-Some.at < length v.sites) (sym c.self.view_is) c.in-Some.ensures.1 in
    let g : slice_get c.self.inside.sites.items c.in-Some.at ≡ Some c.index_mut.result.now = slice_get-get_or c.self.inside.sites.items c.in-Some.at c.index_mut.result.now h ∙ ap Some (sym c.index_mut.ensures.value) in
    subst (λ (v : MoveWorld). IfOk c.lock.result (λ a. lock_at v c.args.s c.args.c (numbered v.sites c.args.s.0) ≡ told (record { sites = set c.self.inside.sites.items c.in-Some.at c.lock.new.self; sent = c.self.inside.sent.items }) a)) c.self.view_is
    (each_ok _ _ c.lock.result (λ a d. at_server (λ v t o. lock_at v t c.args.c o) (record { sites = c.self.inside.sites.items; sent = c.self.inside.sent.items }) c.args.s c.in-Some.at c.index_mut.result.now c.lock.new.self a c.in-Some.ensures.0 g d) c.lock.ensures)

pub lock-requires : goal.lock-requires
lock-requires c =
    let h : c.in-Some.at < length c.self.inside.sites.items = subst (λ (v : MoveWorld). c.in-Some.at < length v.sites) (sym c.self.view_is) c.in-Some.ensures.1 in
    let g : slice_get c.self.inside.sites.items c.in-Some.at ≡ Some c.index_mut.result.now = slice_get-get_or c.self.inside.sites.items c.in-Some.at c.index_mut.result.now h ∙ ap Some (sym c.index_mut.ensures.value) in
    c.requires.locks c.args.s.0 c.index_mut.result.now
    (numbered_at c.args.self.now.sites c.args.s.0 c.in-Some.at c.index_mut.result.now c.in-Some.ensures.0 (subst (λ (v : MoveWorld). slice_get v.sites c.in-Some.at ≡ Some c.index_mut.result.now) c.self.view_is g))
