use Rattle.std.proofs.Common.{◌≡◌, ◌-◌, take}
use Rattle.st_rules.specs.FlatLog as flat_log
use Rattle.st_model.specs.PagePlaces as by_page
use Rattle.st_model.proofs.pages.last_among.Given as goal

abbrev pub invariant-loop-i : goal.invariant-loop-i
invariant-loop-i l = by_page.last_place (flat_log.matters l.file l.page) l.entries 0 (take (l.n - l.i) l.places) ≡ by_page.last_place (flat_log.matters l.file l.page) l.entries 0 l.places
