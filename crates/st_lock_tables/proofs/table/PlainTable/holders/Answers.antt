use Rattle.std.proofs.Common.{◌≡◌, ◌∙◌, ◌++◌, take, map, filter, sym, ap}
use Rattle.std.specs.Prelude.{filter_map, option_map, option_to_list}
use Rattle.std.proofs.lemmas.List.{take_all}
use Rattle.st_base.specs.declared.ids.ClientId.{ClientId}
use Rattle.st_rules.specs.Keys.{client, rising}
use Rattle.st_rules.specs.Locks.{holders, holder_in_list, row_of, is_row_on, client_of_row}
use Rattle.st_lock_tables.proofs.FoundRows.{filter_map_next, filter_map_map}
use Rattle.st_lock_tables.proofs.table.PlainTable.holders.Goals as goal

pub loop-client-preserved : goal.loop-client-preserved
loop-client-preserved c =
    c.in_ok-push_holder.ensures ∙ (λ j. c.loop-client.invariant j ++ option_to_list (option_map holder_in_list (c.row_at.ensures.row j)))
    ∙ sym (filter_map_next (λ d. option_map holder_in_list (row_of c.args.self.now d c.args.ino)) c.as_slice-client-items.result.now c.loop-client.client-index (client 0) c.loop-client-test.true)

pub returns : goal.returns
unfolding holders
returns c =
    let h = λ (d : ClientId). option_map holder_in_list (row_of c.args.self.now d c.args.ino) in
    let all : take c.loop-client.client-index c.as_slice-client-items.result.now ≡ c.as_slice-client-items.result.now = take_all c.loop-client.client-index c.as_slice-client-items.result.now c.loop-client-test.false in
    c.loop-client.invariant ∙ ap (filter_map h) (all ∙ c.as_slice-client-items.ensures.value ∙ c.in_ok-clients.ensures)
    ∙ filter_map_map client h (rising (map client_of_row (filter (is_row_on c.args.ino) c.self.inside.rows)))
    ∙ ap (λ rs. filter_map (λ k. h (client k)) (rising (map client_of_row (filter (is_row_on c.args.ino) rs)))) (ap (λ l. l.rows) c.self.view_is)
