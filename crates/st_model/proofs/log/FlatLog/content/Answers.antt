use Rattle.std.proofs.Common.{◌∙◌, sym, ap}
use Rattle.st_rules.specs.Keys.{page_no}
use Rattle.st_rules.specs.FlatLog.{matters, content}
use Rattle.st_model.specs.PagePlaces as by_page
use Rattle.st_model.proofs.Contents.{content_by_places}
use Rattle.st_model.proofs.Placed.{places_in}
use Rattle.st_model.proofs.log.FlatLog.content.Goals as goal

pub last_among-from-requires : goal.last_among-from-requires
last_among-from-requires c = places_in (by_page.is_cut_at (by_page.file_page c.args.file (page_no 0))) c.self.inside.entries.items c.deref.result.now c.slice_at-cuts.result.now
    (c.slice_at-cuts.ensures ∙ ap (by_page.at c.self.inside.cuts) c.file_page-2.ensures ∙ c.self.invariant.cuts_of (by_page.file_page c.args.file (page_no 0))) c.deref.ensures.value

pub page_after-requires-clause-places : goal.page_after-requires-clause-places
page_after-requires-clause-places c = places_in (by_page.is_change_at (by_page.file_page c.args.file c.args.page)) c.self.inside.entries.items c.deref-2.result.now c.slice_at-changes.result.now
    (c.slice_at-changes.ensures ∙ ap (by_page.at c.self.inside.pages) c.file_page.ensures ∙ c.self.invariant.pages_of (by_page.file_page c.args.file c.args.page)) c.deref-2.ensures.value

pub returns : goal.returns
returns c =
    let f = c.args.file in
    let p = c.args.page in
    let es = c.self.inside.entries.items in
    let ks = c.slice_at-changes.result.now in
    let cs = c.slice_at-cuts.result.now in
    c.page_after.ensures
    ∙ (λ i. by_page.page_after ((c.last_among-from.ensures ∙ ap (λ xs. by_page.last_place (matters f p) xs 0 cs) c.deref.ensures.value) i) f p (c.deref-2.ensures.value i) (c.clear.ensures i) ks)
    ∙ sym (content_by_places f p es ks cs
    (c.slice_at-changes.ensures ∙ ap (by_page.at c.self.inside.pages) c.file_page.ensures ∙ c.self.invariant.pages_of (by_page.file_page f p))
    (c.slice_at-cuts.ensures ∙ ap (by_page.at c.self.inside.cuts) c.file_page-2.ensures ∙ c.self.invariant.cuts_of (by_page.file_page f (page_no 0))))
    ∙ ap (λ xs. content xs f p) c.self.view_is
