-- A step at an association of a client that rests, as it would begin; and a node that does not run.
use Rattle.st_lemmas.proofs.Words
use Words.{◌≡◌, ℕ, zero, suc, ◌<◌, false, List, [], ◌∷◌, get_or, length, map, refl, ap, subst, ◌∙◌, arith, Option, Some, None, option_map, slice_get, Config, ClientId, Life, ServerId, Operation}
use Words.Client.{ClientNode, crash}
use Words.ClientState.{ClientState, Turn, client_turn, enter}
use Rattle.st_client_association.specs.Associations.{ClientAssociation, left_as}
use Rattle.st_client.specs.declared.parts.ClientParts.{ClientParts}
use Rattle.st_client.specs.Machines.{client_of, here_of}
use Rattle.st_client.specs.Nodes.{AreGiven, node_of}
use Rattle.st_client.proofs.Crashing.{crashes}
use Rattle.st_client.proofs.Placing.{entered_is}

-- a client of these associations
abbrev resting : ClientId → Config → ℕ → List Operation → List ClientAssociation → ClientState
resting id config next os xs = record { id = id; config = config; associations = map here_of xs; operations = os; next_command = next }

looked : (id : ClientId) (config : Config) (next : ℕ) (os : List Operation) (xs : List ClientAssociation) (i : ℕ) (a : ClientAssociation) → AreGiven id config next xs →
    i < length xs → a ≡ get_or xs i a → Some (left_as a os next []) ≡ option_map (enter (client_turn (resting id config next os xs) [])) (slice_get (map here_of xs) i)
looked id config next os [] i a g l e = absurd (omega (arith, l))
looked id config next os (x ∷ xs) zero a g l e =
    ap (λ b. Some (left_as b os next [])) e
    ∙ ap Some (entered_is (client_turn (resting id config next os (x ∷ xs)) []) x (left_as x os next []) os next [] refl g.0.id g.0.config refl refl refl)
looked id config next os (x ∷ xs) (suc i) a g l e = looked id config next os xs i a g.1 (omega (arith, l)) e

-- a step at the association at a place
pub looked_at : (p : ClientParts) (s : ClientState) (i : ℕ) (a : ClientAssociation) (v : Turn) → AreGiven p.id p.config p.next_command p.associations.items → client_of p ≡ s →
    i < length p.associations.items → a ≡ get_or p.associations.items i a → v ≡ left_as a p.operations p.next_command [] → Some v ≡ option_map (enter (client_turn s [])) (slice_get s.associations i)
looked_at p s i a v g h l e f =
    ap Some f ∙ looked p.id p.config p.next_command p.operations p.associations.items i a g l e ∙ ap (λ (t : ClientState). option_map (enter (client_turn t [])) (slice_get t.associations i)) h

-- a node that does not run has nothing but its lives
pub nothing_else : (id : ClientId) (config : Config) (ss : List ServerId) (ls : List Life) (o : Option ClientState) (n : ClientNode) → node_of id config ss ls o ≡ n → n.running ≡ false → n.state ≡ crash n.state
nothing_else id config ss ls None n e r = subst (λ (m : ClientNode). m.state ≡ crash m.state) e (crashes id config ss ls None tt)
nothing_else id config ss ls (Some c) n e r = cc
