use Rattle.st_lemmas.proofs.Words
use Words.{append-nil, ◌≡◌, ◌++◌, ◌∷◌, [], length, map, sym}
use Rattle.st_move.specs.World.{sends_behind}
use Rattle.st_move.specs.World as worlds
use Rattle.st_move.proofs.Networks.{send_turn}
use Rattle.st_move.proofs.parts.send_all.Goals as goal

pub loop-to-init : goal.loop-to-init
unfolding sends_behind
loop-to-init c = record { sent = sym (append-nil c.args.sent.now.items); told = c.new-answers.ensures.items }

pub loop-to-preserved : goal.loop-to-preserved
loop-to-preserved c =
    let h : (c.send_one.new.sent.items ≡ c.args.sent.now.items ++ map (worlds.sent_move c.args.from) (c.loop-to.yielded ++ (c.in-Some.to, c.in-Some.message) ∷ [])) × (c.send_one.new.answers.items ≡ worlds.sends_behind (length c.args.sent.now.items) (map (worlds.sent_move c.args.from) (c.loop-to.yielded ++ (c.in-Some.to, c.in-Some.message) ∷ []))) =
    send_turn c.args.from c.args.sent.now.items c.loop-to.sent.items c.send_one.new.sent.items c.loop-to.yielded (c.in-Some.to, c.in-Some.message) c.loop-to.answers.items c.send_one.new.answers.items
    c.loop-to.invariant.sent c.loop-to.invariant.told c.in_ok-send_one.ensures.sent c.in_ok-send_one.ensures.told in
    record { sent = h.0; told = h.1 }
