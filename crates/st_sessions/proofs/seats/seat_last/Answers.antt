use Rattle.std.proofs.Common.{◌≡◌, ◌++◌, ◌∷◌, [], ℕ, List, Some, length, set, sym, subst, arith}
use Rattle.st_rules.specs.declared.sessions.Session.{Session}
use Rattle.st_sessions.specs.Seats.{AreSeated}
use Rattle.st_sessions.proofs.Seated.{seated_last}
use Rattle.st_sessions.proofs.seats.seat_last.Goals as goal

pub returns-clause-seated : goal.returns-clause-seated
returns-clause-seated c =
    let last : length c.args.rows.now.items ≡ c.len-place.result = omega (arith, c.len-place.ensures) in
    subst (λ (rows : List Session). AreSeated rows (set c.reach.new.seats.items c.args.session.client.0 (Some c.len-place.result))) (sym c.in_ok-push.ensures.items)
    (subst (λ (n : ℕ). AreSeated (c.args.rows.now.items ++ c.args.session ∷ []) (set c.reach.new.seats.items c.args.session.client.0 (Some n))) last
    (seated_last c.args.rows.now.items c.args.seats.now.items c.reach.new.seats.items c.args.session c.requires.seated
    c.in_ok-reach.ensures.same c.in_ok-reach.ensures.ok c.requires.absent))
