-- The event that is chosen is admissible and in its ranges.
use Rattle.st_lemmas.proofs.Words
use Words.{◌≡◌, ℕ, zero, suc, length, Option, Some, None, refl, ap, ◌∙◌, arith, not, ◌&&◌, nat_le, Event, WorldRefusal}
use Words.nodes
use Words.refusals
use Words.Keys.{client}
use Words.World.{World, server}
use Words.Admissible.{refusal, stands}
use Words.Generator as g
use Rattle.std.specs.Option.{option_or}
use Rattle.st_generate.proofs.Drawn.{Good, GoodDrawn, candidate_good}

-- what the fallback's test is, by the numbers of clients and servers
abbrev heals : ℕ → ℕ → Option WorldRefusal
heals clients servers =
    option_or (stands (not (nat_le 1 1 && nat_le 1 clients)) (refusals.NoNode (nodes.Client (client 1))))
    (stands (not (nat_le 1 1 && nat_le 1 servers)) (refusals.NoNode (nodes.Server (server 1))))

heals_there : heals 3 2 ≡ None
unfolding stands
heals_there = refl

pub fallback_stands : (w : World) → length w.clients ≡ 3 → length w.servers ≡ 2 → refusal w g.fallback ≡ None
unfolding refusal
fallback_stands w c s = ap (λ n. heals n (length w.servers)) c ∙ ap (λ n. heals 3 n) s ∙ heals_there

-- The first admissible candidate.
tried_stands : (w : World) (later : ℕ → Event × ℕ) (o : Option Event) (x : ℕ) → ((y : ℕ) → refusal w (later y).0 ≡ None) → refusal w (g.tried w later o x).0 ≡ None
unfolding g.tried g.unless_refused
tried_stands w later None x h = h x
tried_stands w later (Some e) x h = go (refusal w e) refl
  where
    go : (r : Option WorldRefusal) → refusal w e ≡ r → refusal w (g.unless_refused later e x r).0 ≡ None
    go None q = q
    go (Some f) q = h x

choice_stands : (tries : ℕ) (w : World) → refusal w g.fallback ≡ None → (x : ℕ) → refusal w (g.choice tries w x).0 ≡ None
unfolding g.choice
choice_stands zero w f x = f
choice_stands (suc tries) w f x = tried_stands w (g.choice tries w) (g.candidate_in w x).0 (g.candidate_in w x).1 (choice_stands tries w f)

pub chosen_stands : (w : World) (x : ℕ) → length w.clients ≡ 3 → length w.servers ≡ 2 → refusal w (g.chosen w x).0 ≡ None
chosen_stands w x c s = choice_stands 16 w (fallback_stands w c s) x

-- It is good, as each candidate.
tried_good : (w : World) (later : ℕ → Event × ℕ) (o : Option Event) (x : ℕ) → GoodDrawn (length w.net.messages) (length w.commands) o →
    ((y : ℕ) → Good (length w.net.messages) (length w.commands) (later y).0) → Good (length w.net.messages) (length w.commands) (g.tried w later o x).0
unfolding g.tried g.unless_refused
tried_good w later None x d h = h x
tried_good w later (Some e) x d h = go (refusal w e)
  where
    go : (r : Option WorldRefusal) → Good (length w.net.messages) (length w.commands) (g.unless_refused later e x r).0
    go None = d
    go (Some f) = h x

choice_good : (tries : ℕ) (w : World) (x : ℕ) → Good (length w.net.messages) (length w.commands) (g.choice tries w x).0
unfolding g.choice
choice_good zero w x = record { range = refl; line = λ a b. ((omega arith, omega arith), (omega arith, omega arith)) }
choice_good (suc tries) w x = tried_good w (g.choice tries w) (g.candidate_in w x).0 (g.candidate_in w x).1 (candidate_good (length w.net.messages) (length w.commands) x) (choice_good tries w)

pub chosen_good : (w : World) (x : ℕ) → Good (length w.net.messages) (length w.commands) (g.chosen w x).0
chosen_good w x = choice_good 16 w x
