-- The steps of a rule that doesn't read the outputs: an output is added, operations are answered, one
-- of two steps is done.
use Rattle.st_lemmas.proofs.Words
use Words.{◌≡◌, Bool, true, false, List, [], ◌∷◌, ap, append_assoc, ◌∙◌, if◌then◌else◌, map, filter, not}
use Words.{AppAnswer, Output, Operation}
use Words.ClientState.{Turn, answer_each, answer_to, say}
use Rattle.st_client_frames.specs.Frames.{after}

-- a step with these outputs
abbrev with_out : Turn → List Output → Turn
with_out t out = record t { out = out }

-- one output is added
pub says : (xs : List Output) (t : Turn) (o : Output) → say (after xs t) o ≡ after xs (say t o)
says xs t o = ap (with_out t) (append_assoc xs t.out (o ∷ []))

-- two outputs are added
pub says_both : (xs : List Output) (t : Turn) (o p : Output) → say (say (after xs t) o) p ≡ after xs (say (say t o) p)
says_both xs t o p = ap (λ u. say u p) (says xs t o) ∙ says xs (say t o) p

-- pending operations are answered
pub told : (p : Operation → Bool) (a : AppAnswer) (xs : List Output) (t : Turn) → answer_each p a (after xs t) ≡ after xs (answer_each p a t)
unfolding answer_each
told p a xs t =
    ap (with_out (record t { operations = filter (λ o. not (p o)) t.operations })) (append_assoc xs t.out (map (answer_to a) (filter p t.operations)))

-- one of two
pub either : (b : Bool) (xs : List Output) (x y v w : Turn) → v ≡ after xs x → w ≡ after xs y → (if b then v else w) ≡ after xs (if b then x else y)
either true xs x y v w p q = p
either false xs x y v w p q = q
