use Rattle.std.proofs.Common.{◌≡◌, ap, sym, ◌∙◌, ◌++◌, ◌∷◌, [], ◌+◌, ◌-◌, length, refl, arith, if◌then◌else◌}
use Rattle.std.specs.Prelude.{unwrap_or}
use Rattle.std.specs.Map.{lookup}
use Rattle.std.proofs.lemmas.List.{length-append}
use Rattle.indexmap.specs.IndexMap.{get}
use Rattle.st_rules.specs.Disks.{new_command}
use Rattle.st_rules.specs.Events.{last_write}
use Rattle.st_world_parts.specs.OutstandingCommands.{open_from}
use Rattle.st_world_parts.specs.Owners.{owner_key, same_key}
use Rattle.st_world_parts.proofs.Lasts.{at_cond, last_with, last_without}
use Rattle.st_world_parts.proofs.Opens.{open_more}
use Rattle.st_world_parts.proofs.commands.Commands.submit.Goals as goal

pub invariant_of-self-in-Some : goal.invariant_of-self-in-Some
invariant_of-self-in-Some c =
    let issued = c.self.inside.issued.items in
    let ds = c.self.inside.disks.commands in
    let items : c.push.new.self.items ≡ issued ++ c.args.command ∷ [] = c.in_ok-push.ensures.items ∙ (λ i. c.in_ok-reserve.ensures.items i ++ c.new.ensures i ∷ []) in
    let cmds : c.submit.new.self.commands ≡ ds ++ new_command c.args.what ∷ [] = ap (λ d. d.commands) c.in_ok-number.ensures.ok in
    let longer : length c.push.new.self.items ≡ length issued + 1 = ap length items ∙ length-append issued (c.args.command ∷ []) in
    let more : length c.submit.new.self.commands ≡ length ds + 1 = ap length cmds ∙ length-append ds (new_command c.args.what ∷ []) in
    let at : c.len.result - 1 ≡ 0 + length ds = omega (arith, c.len.ensures, c.in_ok-push.ensures.len, c.in_ok-reserve.ensures.len, c.self.inside.issued.ok.0, c.self.invariant.each) in
    let n : c.in_ok-number.number ≡ length issued + 1 = omega (arith, c.in_ok-number.ensures.number, more, c.self.invariant.each) in
    record {
      each = omega (arith, longer, more, c.self.invariant.each);
      unreported = c.in_ok-push-2.ensures.items
          ∙ (λ i. (c.in_ok-reserve-2.ensures.items ∙ c.self.invariant.unreported) i ++ at i ∷ [])
          ∙ sym (ap (open_from 0) cmds ∙ open_more 0 ds (new_command c.args.what) refl);
      last = λ o.
          ap (λ x. unwrap_or x 0) (c.put_number.ensures (owner_key o))
          ∙ at_cond (same_key (owner_key c.owner_of.result) (owner_key o)) c.in_ok-number.number (get same_key c.reserve-3.new.self (owner_key o))
          ∙ ap (λ w. if same_key (owner_key w) (owner_key o) then c.in_ok-number.number else unwrap_or (get same_key c.reserve-3.new.self (owner_key o)) 0) c.owner_of.ensures
          ∙ last_with o c.args.command c.in-Some.carried issued c.in_ok-number.number (unwrap_or (get same_key c.reserve-3.new.self (owner_key o)) 0) c.in-Some.is n
          (ap (λ es. unwrap_or (lookup (same_key (owner_key o)) es) 0) c.in_ok-reserve-3.ensures.entries ∙ c.self.invariant.last o)
          ∙ ap (λ cs. last_write cs o) (sym items);
    }

pub invariant_of-self-in-None : goal.invariant_of-self-in-None
invariant_of-self-in-None c =
    let issued = c.self.inside.issued.items in
    let ds = c.self.inside.disks.commands in
    let items : c.push.new.self.items ≡ issued ++ c.args.command ∷ [] = c.in_ok-push.ensures.items ∙ (λ i. c.in_ok-reserve.ensures.items i ++ c.new.ensures i ∷ []) in
    let cmds : c.submit.new.self.commands ≡ ds ++ new_command c.args.what ∷ [] = ap (λ d. d.commands) c.in_ok-number.ensures.ok in
    let longer : length c.push.new.self.items ≡ length issued + 1 = ap length items ∙ length-append issued (c.args.command ∷ []) in
    let more : length c.submit.new.self.commands ≡ length ds + 1 = ap length cmds ∙ length-append ds (new_command c.args.what ∷ []) in
    let at : c.len.result - 1 ≡ 0 + length ds = omega (arith, c.len.ensures, c.in_ok-push.ensures.len, c.in_ok-reserve.ensures.len, c.self.inside.issued.ok.0, c.self.invariant.each) in
    record {
      each = omega (arith, longer, more, c.self.invariant.each);
      unreported = c.in_ok-push-2.ensures.items
          ∙ (λ i. (c.in_ok-reserve-2.ensures.items ∙ c.self.invariant.unreported) i ++ at i ∷ [])
          ∙ sym (ap (open_from 0) cmds ∙ open_more 0 ds (new_command c.args.what) refl);
      last = λ o.
          ap (λ es. unwrap_or (lookup (same_key (owner_key o)) es) 0) c.in_ok-reserve-3.ensures.entries
          ∙ c.self.invariant.last o
          ∙ sym (last_without o c.args.command issued c.in-None.is)
          ∙ ap (λ cs. last_write cs o) (sym items);
    }
