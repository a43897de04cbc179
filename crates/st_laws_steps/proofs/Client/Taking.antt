-- What a client does with an input is one of a few things, so what holds after each of them holds after the input. A fact of each association holds after a
-- rule at each server, if the rule brings it about at one.
use Rattle.st_lemmas.proofs.Words
use Words.{◌≡◌, ◌⊎◌, ℕ, Bool, true, false, ◌==◌, List, [], ◌∷◌, Option, refl, sym, subst, inl, inr, if◌then◌else◌, Tag, ServerId, Stamp, Ask, Message}
use Words.{ClientInput}
use Words.answers
use Words.inputs
use Words.Client as cl
use Words.ClientReplies as cr
use Words.ClientState.{Association, ClientTurn, Turn, at_each, at_these, enter, leave, only_at, server_of, with_associations}
use Words.Lists.{Has}
use Words.Tables.{has_append}
use Rattle.st_laws_steps.specs.Client.Inputs.{Each, Taken, Nothing, Full, Unknown, Takes, Receives, Finishes}

pub taken : (t : ClientTurn) (now : Stamp) (input : ClientInput) → Taken t now input (cl.take_input t now input)
unfolding cl.take_input cl.app cl.app_known cl.done cr.receive cr.receive_here
taken t now inputs.Tick = Nothing inputs.Tick
taken t now (inputs.App op ask) = full (cl.is_full t.state) refl
  where
    known : cl.is_full t.state ≡ false → (b : Bool) → cl.is_configured t.state (server_of ask) ≡ b →
        Taken t now (inputs.App op ask) (if b then at_each (only_at (server_of ask) (cl.take_ask op ask)) t else cl.answered_at_once t op answers.NoFile)
    known f true e = Takes op ask f e
    known f false e = Unknown op ask f e

    full : (b : Bool) → cl.is_full t.state ≡ b → Taken t now (inputs.App op ask) (if b then cl.answered_at_once t op answers.OpsFull else cl.app_known t op ask)
    full true e = Full op ask e
    full false e = known e (cl.is_configured t.state (server_of ask)) refl
taken t now (inputs.Control m) = go (m.header.to == t.state.id.0) refl
  where
    go : (b : Bool) → (m.header.to == t.state.id.0) ≡ b → Taken t now (inputs.Control m) (if b then at_each (cr.receive_at now m.header m.body) t else t)
    go true e = Receives m e
    go false e = Nothing (inputs.Control m)
taken t now (inputs.Done number result) = Finishes number result

these : (P Q : Association → Type 0) (rule : Turn → Turn) → ((t : Turn) → P t.here → Q (rule t).here) → (al : List Association) (t : ClientTurn) →
    Each Q t.state.associations → Each P al → Each Q (at_these rule al t).state.associations
unfolding at_these
these P Q rule k [] t h g = h
these P Q rule k (a ∷ al) t h g = these P Q rule k al (leave t (rule (enter t a))) (λ b i. one b (has_append t.state.associations ((rule (enter t a)).here ∷ []) b i)) (λ b i. g b (inr i))
  where
    one : (b : Association) → Has b t.state.associations ⊎ Has b ((rule (enter t a)).here ∷ []) → Q b
    one b (inl i) = h b i
    one b (inr (inl e)) = subst Q (sym e) (k (enter t a) (g a (inl refl)))
    one b (inr (inr i)) = absurd i

pub each : (P Q : Association → Type 0) (rule : Turn → Turn) → ((t : Turn) → P t.here → Q (rule t).here) → (t : ClientTurn) → Each P t.state.associations →
    Each Q (at_each rule t).state.associations
unfolding at_each
each P Q rule k t h = these P Q rule k t.state.associations (with_associations [] t) (λ a i. absurd i) h

-- a fact of each association after an input, if a message that is received tells what its rule needs
pub each_taken : (P : Association → Type 0) (T : Message → Association → Type 0) (now : Stamp) →
    ((s : ServerId) (op : ℕ) (ask : Ask) (u : Turn) → P u.here → P (only_at s (cl.take_ask op ask) u).here) →
    ((m : Message) (u : Turn) → P u.here → T m u.here → P (cr.receive_at now m.header m.body u).here) →
    ((number : ℕ) (r : Option (Option (Tag × List ℕ))) (u : Turn) → P u.here → P (cl.finish number r u).here) →
    (t u : ClientTurn) (input : ClientInput) → Taken t now input u → ((m : Message) → input ≡ inputs.Control m → (m.header.to == t.state.id.0) ≡ true → Each (T m) t.state.associations) →
    Each P t.state.associations → Each P u.state.associations
each_taken P T now take receive finish t _ _ (Nothing i) k h = h
each_taken P T now take receive finish t _ _ (Full op ask e) k h = h
each_taken P T now take receive finish t _ _ (Unknown op ask e f) k h = h
each_taken P T now take receive finish t _ _ (Takes op ask e f) k h = each P P (only_at (server_of ask) (cl.take_ask op ask)) (take (server_of ask) op ask) t h
each_taken P T now take receive finish t _ _ (Receives m e) k h = each (λ a. P a × T m a) P (cr.receive_at now m.header m.body) (λ u p. receive m u p.0 p.1) t (λ a i. (h a i, k m refl e a i))
each_taken P T now take receive finish t _ _ (Finishes number r) k h = each P P (cl.finish number r) (finish number r) t h
