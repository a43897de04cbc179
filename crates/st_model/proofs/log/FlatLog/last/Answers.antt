use Rattle.std.proofs.Common.{◌∙◌, ap}
use Rattle.std.specs.Prelude.{max}
use Rattle.st_rules.specs.Keys.{page_no}
use Rattle.st_rules.specs.FlatLog.{matters, last}
use Rattle.st_model.specs.PagePlaces as by_page
use Rattle.st_model.proofs.Placed.{places_in, last_by_places}
use Rattle.st_model.proofs.Lasts.{last_tells}
use Rattle.st_model.proofs.log.FlatLog.last.Goals as goal

pub last_among-of_page-requires : goal.last_among-of_page-requires
last_among-of_page-requires c = places_in (by_page.is_change_at (by_page.file_page c.args.file c.args.page)) c.self.inside.entries.items c.deref.result.now c.slice_at-changes.result.now
    (c.slice_at-changes.ensures ∙ ap (by_page.at c.self.inside.pages) c.file_page.ensures ∙ c.self.invariant.pages_of (by_page.file_page c.args.file c.args.page)) c.deref.ensures.value

pub last_among-of_cuts-requires : goal.last_among-of_cuts-requires
last_among-of_cuts-requires c = places_in (by_page.is_cut_at (by_page.file_page c.args.file (page_no 0))) c.self.inside.entries.items c.deref-2.result.now c.slice_at-cuts.result.now
    (c.slice_at-cuts.ensures ∙ ap (by_page.at c.self.inside.cuts) c.file_page-2.ensures ∙ c.self.invariant.cuts_of (by_page.file_page c.args.file (page_no 0))) c.deref-2.ensures.value

last_is : goal.returns-clause-last
last_is c =
    let f = c.args.file in
    let p = c.args.page in
    let es = c.self.inside.entries.items in
    let ks = c.slice_at-changes.result.now in
    let cs = c.slice_at-cuts.result.now in
    c.option_of.ensures ∙ ap by_page.option_of c.max.ensures
    ∙ (λ i. by_page.option_of (max ((c.last_among-of_page.ensures ∙ ap (λ xs. by_page.last_place (matters f p) xs 0 ks) c.deref.ensures.value) i) ((c.last_among-of_cuts.ensures ∙ ap (λ xs. by_page.last_place (matters f p) xs 0 cs) c.deref-2.ensures.value) i)))
    ∙ last_by_places f p es ks cs
    (c.slice_at-changes.ensures ∙ ap (by_page.at c.self.inside.pages) c.file_page.ensures ∙ c.self.invariant.pages_of (by_page.file_page f p))
    (c.slice_at-cuts.ensures ∙ ap (by_page.at c.self.inside.cuts) c.file_page-2.ensures ∙ c.self.invariant.cuts_of (by_page.file_page f (page_no 0)))
    ∙ ap (λ xs. last xs f p) c.self.view_is

pub returns-clause-last : goal.returns-clause-last
returns-clause-last c = last_is c

pub returns-clause-content : goal.returns-clause-content
returns-clause-content c = rw (last_is c) (last_tells _ _ _)
