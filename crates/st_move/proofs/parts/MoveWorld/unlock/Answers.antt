use Rattle.st_lemmas.proofs.Words
use Words.{◌≡◌, ◌<◌, ◌∙◌, length, ap, sym, subst, Some, set, slice_get}
use Words.World.{numbered}
use Rattle.std.proofs.lemmas.Option.{slice_get-get_or}
use Rattle.st_move.specs.World.{MoveWorld, unlock_at, told}
use Rattle.st_move.proofs.Networks.{at_server, unlock_nowhere, numbered_at}
use Rattle.st_move.proofs.parts.MoveWorld.unlock.Goals as goal

pub returns-in-None : goal.returns-in-None
returns-in-None c = unlock_nowhere c.args.self.now c.args.s c.args.c c.in-None.ensures

pub returns-in-Some : goal.returns-in-Some
returns-in-Some c =
    let h : c.in-Some.at < length c.self.inside.sites.items = subst (λ (v : MoveWorld). c.in-Some.at < length v.sites) (sym c.self.view_is) c.in-Some.ensures.1 in
    let g : slice_get c.self.inside.sites.items c.in-Some.at ≡ Some c.index_mut.result.now = slice_get-get_or c.self.inside.sites.items c.in-Some.at c.index_mut.result.now h ∙ ap Some (sym c.index_mut.ensures.value) in
    subst (λ (v : MoveWorld). unlock_at v c.args.s c.args.c (numbered v.sites c.args.s.0) ≡ told (record { sites = set c.self.inside.sites.items c.in-Some.at c.unlock.new.self; sent = c.self.inside.sent.items }) c.unlock.result) c.self.view_is
    (at_server (λ v t o. unlock_at v t c.args.c o) (record { sites = c.self.inside.sites.items; sent = c.self.inside.sent.items }) c.args.s c.in-Some.at c.index_mut.result.now c.unlock.new.self c.unlock.result c.in-Some.ensures.0 g c.unlock.ensures)

pub unlock-requires : goal.unlock-requires
unlock-requires c =
    let h : c.in-Some.at < length c.self.inside.sites.items = subst (λ (v : MoveWorld). c.in-Some.at < length v.sites) (sym c.self.view_is) c.in-Some.ensures.1 in
    let g : slice_get c.self.inside.sites.items c.in-Some.at ≡ Some c.index_mut.result.now = slice_get-get_or c.self.inside.sites.items c.in-Some.at c.index_mut.result.now h ∙ ap Some (sym c.index_mut.ensures.value) in
    c.requires.locks c.args.s.0 c.index_mut.result.now
    (numbered_at c.args.self.now.sites c.args.s.0 c.in-Some.at c.index_mut.result.now c.in-Some.ensures.0 (subst (λ (v : MoveWorld). slice_get v.sites c.in-Some.at ≡ Some c.index_mut.result.now) c.self.view_is g))
