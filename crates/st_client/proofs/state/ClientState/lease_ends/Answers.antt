use Rattle.st_lemmas.proofs.Words
use Words.{◌≡◌, ◌-◌, ◌≤◌, [], drop, get_or, sym, ap, subst, ◌∙◌, arith, Config, ServerId}
use Words.ClientState.{ClientState}
use Rattle.st_client.specs.declared.ends.LeaseEnds.{LeaseEnds}
use Rattle.st_client.specs.declared.parts.ClientParts.{ClientParts}
use Rattle.st_client.specs.Nodes.{AreGiven}
use Rattle.st_client.proofs.Ending.{AreEnds, drop_all, ends_next, next_place, no_ends, place_in, server_at_place}
use Rattle.st_client.proofs.state.ClientState.lease_ends.Goals as goal

pub loop-i-init : goal.loop-i-init
loop-i-init c =
    let k = c.args.self.now.config in
    let xs = c.args.self.now.associations in
    let none : drop c.count-i.result xs ≡ [] = ap (λ n. drop n xs) c.count-i.ensures ∙ drop_all xs in
    let most = c.count-i.ensures in
    record {
      ends = subst (λ ys. AreEnds k ys c.none-ends.result) (sym none) (subst (λ (e : LeaseEnds). AreEnds k [] e) (sym c.none-ends.ensures) (no_ends k));
      most = omega (arith, most);
    }

pub put-requires-clause-first : goal.put-requires-clause-first
put-requires-clause-first c =
    let x = c.self.inside.parts.value in
    let v = ap (λ (s : ClientState). s.associations) c.self.view_is in
    let l = place_in x.associations.items c.args.self.now.associations c.loop-i.i v c.loop-i-test.true c.loop-i.invariant.most in
    let e = c.index-a.ensures ∙ ap (λ (p : ClientParts). get_or p.associations.items (c.loop-i.i - 1) c.index-a.result.now) c.deref.ensures in
    subst (λ (s : ServerId). 1 ≤ s.0) (sym c.server.ensures)
    (server_at_place x.id x.config x.next_command x.associations.items c.args.self.now.associations (c.loop-i.i - 1) c.index-a.result.now v l e c.requires).0

pub put-requires-clause-last : goal.put-requires-clause-last
put-requires-clause-last c =
    let x = c.self.inside.parts.value in
    let v = ap (λ (s : ClientState). s.associations) c.self.view_is in
    let l = place_in x.associations.items c.args.self.now.associations c.loop-i.i v c.loop-i-test.true c.loop-i.invariant.most in
    let e = c.index-a.ensures ∙ ap (λ (p : ClientParts). get_or p.associations.items (c.loop-i.i - 1) c.index-a.result.now) c.deref.ensures in
    subst (λ (s : ServerId). s.0 ≤ 4) (sym c.server.ensures)
    (server_at_place x.id x.config x.next_command x.associations.items c.args.self.now.associations (c.loop-i.i - 1) c.index-a.result.now v l e c.requires).1

pub loop-i-preserved : goal.loop-i-preserved
loop-i-preserved c =
    let x = c.self.inside.parts.value in
    let k = c.args.self.now.config in
    let xs = c.args.self.now.associations in
    let v = ap (λ (s : ClientState). s.associations) c.self.view_is in
    let l = place_in x.associations.items xs c.loop-i.i v c.loop-i-test.true c.loop-i.invariant.most in
    let e = c.index-a.ensures ∙ ap (λ (p : ClientParts). get_or p.associations.items (c.loop-i.i - 1) c.index-a.result.now) c.deref.ensures in
    let given = subst (λ (m : Config). AreGiven x.id m x.next_command x.associations.items) (ap (λ (s : ClientState). s.config) c.self.view_is) c.self.invariant.given in
    let most = c.loop-i.invariant.most in
    record {
      ends =
          ends_next x.id k x.next_command x.associations.items xs (c.loop-i.i - 1) c.index-a.result.now v l e c.loop-i.ends c.put.new.self c.server.result c.lease_end.result c.server.ensures c.lease_end.ensures given
          c.put.ensures (subst (λ j. AreEnds k (drop j xs) c.loop-i.ends) (next_place c.loop-i.i c.loop-i-test.true) c.loop-i.invariant.ends);
      most = omega (arith, most);
    }

pub returns : goal.returns
returns c =
    let f = c.loop-i-test.false in
    let z : c.loop-i.i ≡ 0 = omega (arith, f) in
    subst (λ j. AreEnds c.args.self.now.config (drop j c.args.self.now.associations) c.loop-i.ends) z c.loop-i.invariant.ends
