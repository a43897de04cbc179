use Rattle.std.proofs.Common.{ap, sym, ◌∙◌, ◌++◌, ◌∷◌, [], if◌then◌else◌}
use Rattle.std.specs.Prelude.{find, filter, Some, None}
use Rattle.std.specs.Map.{lookup}
use Rattle.indexmap.specs.IndexMap.{get}
use Rattle.st_world_parts.specs.Clocks.{is_ahead}
use Rattle.st_world_parts.specs.Firsts.{first_of, key_of, life_key, same_key}
use Rattle.st_rules.specs.World.{is_life_of}
use Rattle.st_world_parts.proofs.Keys.{first_more}
use Rattle.st_world_parts.proofs.Later.{later_more}
use Rattle.st_world_parts.proofs.lives.Lives.end.Goals as goal

pub invariant_of-self-2 : goal.invariant_of-self-2
invariant_of-self-2 c =
    let ended = c.in_ok-push.ensures.items ∙ ap (λ l. l ++ c.args.life ∷ []) c.in_ok-reserve.ensures.items in
    record {
      first = λ k s life.
          c.keep_first.ensures (life_key k s life)
          ∙ ap (λ es. first_of (lookup (same_key (life_key k s life)) es) (if same_key (key_of c.args.life) (life_key k s life) then Some c.args.life else None)) c.in_ok-reserve-2.ensures.entries
          ∙ first_more k s life c.self.inside.ended.items c.args.life (get same_key c.self.inside.firsts (life_key k s life)) (c.self.invariant.first k s life)
          ∙ ap (find (is_life_of k s life)) (sym ended);
      later =
          c.in_ok-push_if.ensures.ok
          ∙ (λ i. c.self.invariant.later i ++ (if (c.is_ahead.ensures ∙ ap (λ ts. is_ahead ts c.args.life) c.deref.ensures.value) i then c.args.life ∷ [] else []))
          ∙ sym (later_more c.self.inside.clocks.items c.self.inside.ended.items c.args.life)
          ∙ ap (filter (is_ahead c.self.inside.clocks.items)) (sym ended);
    }
