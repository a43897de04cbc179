use Rattle.st_lemmas.proofs.Words
use Words.{◌≡◌, ◌<◌, ◌∙◌, length, ap, sym, subst, IfOk, Some, set, slice_get}
use Words.World.{numbered}
use Rattle.std.proofs.lemmas.Option.{slice_get-get_or}
use Rattle.st_move.specs.World.{MoveWorld, put_at, told}
use Rattle.st_move.proofs.Networks.{at_server, each_ok, put_nowhere}
use Rattle.st_move.proofs.parts.MoveWorld.put.Goals as goal

pub returns-in-None : goal.returns-in-None
returns-in-None c = put_nowhere c.args.self.now c.args.s c.args.c c.args.update.now c.in-None.ensures

pub returns-in-Some : goal.returns-in-Some
returns-in-Some c =
    let h : c.in-Some.at < length c.self.inside.sites.items = subst (λ (v : MoveWorld). c.in-Some.at < length v.sites) (sym c.self.view_is) c.in-Some.ensures.1 in
    let g : slice_get c.self.inside.sites.items c.in-Some.at ≡ Some c.index_mut.result.now = slice_get-get_or c.self.inside.sites.items c.in-Some.at c.index_mut.result.now h ∙ ap Some (sym c.index_mut.ensures.value) in
    subst (λ (v : MoveWorld). IfOk c.put.result (λ a. put_at v c.args.s c.args.c c.args.update.now (numbered v.sites c.args.s.0) ≡ told (record { sites = set c.self.inside.sites.items c.in-Some.at c.put.new.self; sent = c.self.inside.sent.items }) a)) c.self.view_is
    (each_ok _ _ c.put.result (λ a d. at_server (λ v t o. put_at v t c.args.c c.args.update.now o) (record { sites = c.self.inside.sites.items; sent = c.self.inside.sent.items }) c.args.s c.in-Some.at c.index_mut.result.now c.put.new.self a c.in-Some.ensures.0 g d) c.put.ensures)
