-- The inputs of a client that messages are.
use Rattle.st_lemmas.proofs.Words
use Words.{◌≡◌, ap, sym, ◌∙◌, Some, Kind, Message, ClientInput}
use Words.parties
use Words.Kinds.{kind_of_body, receiver}
use Rattle.st_messages.specs.declared.kind.Party.{Party}
use Rattle.st_node.specs.Runs.{client_input, client_input_by, client_own}

-- a message that goes to a client is the input that its body says
pub to_client : (m : Message) (k : Kind) (p : Party) (i : ClientInput) → k ≡ kind_of_body m.body → p ≡ receiver k → p ≡ parties.Client →
    i ≡ client_own m.body m → Some i ≡ client_input m
to_client m k p i kind party is own =
    let goes : receiver (kind_of_body m.body) ≡ parties.Client = sym (ap receiver kind) ∙ (sym party ∙ is) in
    ap (λ (x : ClientInput). Some x) own ∙ sym (ap (client_input_by m) goes)
