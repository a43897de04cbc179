use Rattle.st_lemmas.proofs.Words
use Words.{◌≡◌, ◌∙◌, map, subst, sym, true, list_all, Life, List}
use Rattle.st_client.specs.Nodes.{crashed_node, is_begun}
use Rattle.st_client.specs.Room.{HasRoom}
use Rattle.st_embed.specs.Clients.{life}
use Rattle.st_embed.proofs.KeptLives.{kept_begun, kept_room}
use Rattle.st_embed.proofs.client.started.Goals as goal

pub restore-requires-clause-begun : goal.restore-requires-clause-begun
restore-requires-clause-begun c =
    subst (λ (xs : List Life). list_all is_begun xs ≡ true) (sym (c.deref.ensures.value ∙ c.in_ok-lives.ensures)) (kept_begun c.args.lives.now c.requires.kept)

pub start-requires-clause-room : goal.start-requires-clause-room
start-requires-clause-room c =
    let lives : c.deref.result.now ≡ map life c.args.lives.now = c.deref.ensures.value ∙ c.in_ok-lives.ensures in
    subst (λ n. HasRoom n.state) (sym c.in_ok-node.ensures)
    (subst (λ (xs : List Life). HasRoom (crashed_node c.args.id c.args.config.now xs).state) (sym lives) (kept_room c.args.id c.args.config.now c.args.lives.now c.requires.kept))
