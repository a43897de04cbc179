use Rattle.std.proofs.Common.{subst, refl, ◌≡◌, ◌+◌, ◌-◌, ◌++◌, ◌∷◌, [], ◌∙◌, length, sym, ap, cond, arith, false}
use Rattle.std.specs.Prelude.{Some, ◌&&◌, not}
use Rattle.std.specs.Map.{lookup}
use Rattle.indexmap.specs.IndexMap.{get}
use Rattle.st_rules.specs.Events.{latest}
use Rattle.st_rules.specs.Keys.{page_no}
use Rattle.st_rules.specs.FlatLog as flat_log
use Rattle.st_model.specs.LogParts.{same_client_page, client_page}
use Rattle.st_model.specs.PagePlaces.{at, file_page, same_file_page, is_change_at, is_cut_at, places_from}
use Rattle.st_model.specs.Walks.{pending_from}
use Rattle.st_model.proofs.Latest.{pending_more, index_more}
use Rattle.st_model.specs.LogInvariants.{AreInPages}
use Rattle.st_model.proofs.Ranged.{ranged_more}
use Rattle.st_model.proofs.Placed.{place_push}
use Rattle.st_model.proofs.log.FlatLog.push.Goals as goal

pub invariant_of-self-2 : goal.invariant_of-self-2
invariant_of-self-2 c =
    let es = c.self.inside.entries.items in
    let o = c.args.of in
    let e = flat_log.pending c.args.of c.args.change in
    let place : c.len.result ≡ length es = omega (arith, c.len.ensures, c.in_ok-reserve-3.ensures.len, c.self.inside.entries.ok.0) in
    let number : c.len-number.result ≡ length es + 1 = omega (arith, c.len-number.ensures, (rw c.unwrap.ensures at c.push.ensures.len), c.in_ok-reserve-3.ensures.len, c.self.inside.entries.ok.0) in
    let entries : c.push.new.self.items ≡ es ++ e ∷ [] = (rw c.unwrap.ensures at c.push.ensures.items) ∙ ap (λ l. l ++ e ∷ []) c.in_ok-reserve-3.ensures.items in
    let k : c.len-2.result - 1 ≡ 0 + length es = omega (arith, c.len-2.ensures, (rw c.unwrap.ensures at c.push.ensures.len), c.in_ok-reserve-3.ensures.len, c.self.inside.entries.ok.0) in
    record {
      blank = c.self.invariant.blank;
      pending = (rw c.unwrap-2.ensures at c.push-2.ensures.items)
          ∙ (λ i. (c.in_ok-reserve-2.ensures.items ∙ c.self.invariant.pending) i ++ k i ∷ [])
          ∙ sym (ap (pending_from 0) entries ∙ pending_more 0 es e);
      index = λ cl f p.
          index_more o cl f p e es (get same_client_page c.self.inside.latest (client_page cl f p)) (get same_client_page c.insert.new.self (client_page cl f p)) c.len-number.result refl number
          ((rw (c.unwrap-old.ensures, c.client_page.ensures) at c.insert.ensures.updates).0 (client_page cl f p) ∙ ap (λ xs. cond (same_client_page (client_page o.client o.file o.page) (client_page cl f p)) (Some c.len-number.result) (lookup (same_client_page (client_page cl f p)) xs)) c.in_ok-reserve.ensures.entries)
          (c.self.invariant.index cl f p)
          ∙ ap (λ xs. latest xs cl f p) (sym entries);
      pages_of = λ q.
          place_push (is_change_at q) (at c.self.inside.pages q) (at c.add.new.rows q) es e c.len.result (same_file_page (file_page o.file o.page) q) (ap (λ b. b && same_file_page (file_page o.file o.page) q) c.requires.bytes) place ((rw c.file_page.ensures at c.in_ok-add.ensures) q) (c.self.invariant.pages_of q)
          ∙ ap (places_from (is_change_at q) 0) (sym entries);
      cuts_of = λ q.
          place_push (is_cut_at q) (at c.self.inside.cuts q) (at c.self.inside.cuts q) es e c.len.result (false) (ap (λ b. not b && same_file_page (file_page o.file (page_no 0)) q) c.requires.bytes) place (refl) (c.self.invariant.cuts_of q)
          ∙ ap (places_from (is_cut_at q) 0) (sym entries);
      ranges = subst AreInPages (sym entries) (ranged_more es e c.self.invariant.ranges c.requires.range);
    }
