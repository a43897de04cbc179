use Rattle.st_lemmas.proofs.Words
use Words.{◌≡◌, ◌<◌, ◌∙◌, length, ap, sym, subst, IfOk, Some, slice_get}
use Words.World.{numbered}
use Rattle.std.proofs.lemmas.Option.{slice_get-get_or}
use Rattle.st_move.specs.World.{MoveWorld, list_at, told}
use Rattle.st_move.proofs.Networks.{each_ok, list_nowhere, list_there}
use Rattle.st_move.proofs.parts.MoveWorld.list.Goals as goal

pub returns-in-None : goal.returns-in-None
returns-in-None c = list_nowhere c.args.self.now c.args.s c.args.c c.in-None.ensures

pub returns-in-Some : goal.returns-in-Some
returns-in-Some c =
    let h : c.in-Some.at < length c.self.inside.sites.items = subst (λ (v : MoveWorld). c.in-Some.at < length v.sites) (sym c.self.view_is) c.in-Some.ensures.1 in
    let g : slice_get c.self.inside.sites.items c.in-Some.at ≡ Some c.index.result.now = slice_get-get_or c.self.inside.sites.items c.in-Some.at c.index.result.now h ∙ ap Some (sym c.index.ensures) in
    subst (λ (v : MoveWorld). IfOk c.list.result (λ a. list_at v c.args.s c.args.c (numbered v.sites c.args.s.0) ≡ told v a)) c.self.view_is
    (each_ok _ _ c.list.result (λ a d. list_there (record { sites = c.self.inside.sites.items; sent = c.self.inside.sent.items }) c.args.s c.in-Some.at c.args.c c.index.result.now a c.in-Some.ensures.0 g d) c.list.ensures)
