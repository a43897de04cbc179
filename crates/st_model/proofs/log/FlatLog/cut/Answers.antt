use Rattle.std.proofs.Common.{subst, refl, ◌≡◌, ◌+◌, ◌++◌, ◌∷◌, [], ◌∙◌, length, sym, ap, cond, arith, false}
use Rattle.std.specs.Prelude.{Some}
use Rattle.std.specs.Map.{lookup}
use Rattle.std.proofs.lemmas.List.{append-nil}
use Rattle.indexmap.specs.IndexMap.{get}
use Rattle.st_rules.specs.Events.{latest}
use Rattle.st_rules.specs.Keys.{page_no}
use Rattle.st_rules.specs.FlatLog as flat_log
use Rattle.st_model.specs.LogParts.{same_client_page, client_page}
use Rattle.st_model.specs.PagePlaces.{at, file_page, same_file_page, is_change_at, is_cut_at, places_from}
use Rattle.st_model.specs.Walks.{pending_from}
use Rattle.st_model.proofs.Latest.{pending_more, index_more}
use Rattle.st_model.specs.LogInvariants.{AreInPages}
use Rattle.st_model.proofs.Ranged.{ranged_more}
use Rattle.st_model.proofs.Placed.{place_push}
use Rattle.st_model.proofs.log.FlatLog.cut.Goals as goal

pub invariant_of-self-2 : goal.invariant_of-self-2
invariant_of-self-2 c =
    let es = c.self.inside.entries.items in
    let o = flat_log.nobody c.args.file c.args.from in
    let e = flat_log.hard_cut c.args.file c.args.from in
    let place : c.len.result ≡ length es = omega (arith, c.len.ensures, c.in_ok-reserve-2.ensures.len, c.self.inside.entries.ok.0) in
    let number : c.len-number.result ≡ length es + 1 = omega (arith, c.len-number.ensures, (rw c.unwrap.ensures at c.push.ensures.len), c.in_ok-reserve-2.ensures.len, c.self.inside.entries.ok.0) in
    let entries : c.push.new.self.items ≡ es ++ e ∷ [] = (rw c.unwrap.ensures at c.push.ensures.items) ∙ ap (λ l. l ++ e ∷ []) c.in_ok-reserve-2.ensures.items in
    record {
      blank = c.self.invariant.blank;
      pending = c.self.invariant.pending ∙ sym (ap (pending_from 0) entries ∙ pending_more 0 es e ∙ append-nil (pending_from 0 es));
      index = λ cl f p.
          index_more o cl f p e es (get same_client_page c.self.inside.latest (client_page cl f p)) (get same_client_page c.insert.new.self (client_page cl f p)) c.len-number.result refl number
          ((rw (c.unwrap-old.ensures, c.client_page.ensures) at c.insert.ensures.updates).0 (client_page cl f p) ∙ ap (λ xs. cond (same_client_page (client_page o.client o.file o.page) (client_page cl f p)) (Some c.len-number.result) (lookup (same_client_page (client_page cl f p)) xs)) c.in_ok-reserve.ensures.entries)
          (c.self.invariant.index cl f p)
          ∙ ap (λ xs. latest xs cl f p) (sym entries);
      pages_of = λ q.
          place_push (is_change_at q) (at c.self.inside.pages q) (at c.self.inside.pages q) es e c.len.result (false) (refl) place (refl) (c.self.invariant.pages_of q)
          ∙ ap (places_from (is_change_at q) 0) (sym entries);
      cuts_of = λ q.
          place_push (is_cut_at q) (at c.self.inside.cuts q) (at c.add.new.rows q) es e c.len.result (same_file_page (file_page o.file (page_no 0)) q) (refl) place ((rw c.file_page.ensures at c.in_ok-add.ensures) q) (c.self.invariant.cuts_of q)
          ∙ ap (places_from (is_cut_at q) 0) (sym entries);
      ranges = subst AreInPages (sym entries) (ranged_more es e c.self.invariant.ranges tt);
    }
