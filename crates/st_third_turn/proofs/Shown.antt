-- A rule that doesn't read the outputs before its own does the same to the step of the third form as
-- to the step with all outputs.
use Rattle.st_lemmas.proofs.Words
use Words.{◌≡◌, ℕ, ◌≤◌, List, ◌++◌, length, take, sym, ap, ◌∙◌, subst, arith, length-append, Output}
use Words.ClientState.{Turn}
use Rattle.std.proofs.lemmas.List.{drop_at, length-take-le, take-append-drop, take_at}
use Rattle.st_client_frames.specs.Frames.{IsFramed, after}
use Rattle.st_third.specs.declared.output.ThirdOutput.{ThirdOutput}
use Rattle.st_third.specs.State.{ThirdTurn, plainly}
use Rattle.st_third_turn.specs.Steps.{Aside, IsPlaced, shown, since, woven}
use Rattle.st_third_turn.specs.declared.words.Word.{Word}

-- a step with these outputs
abbrev with_out : Turn → List Output → Turn
with_out t out = record t { out = out }

-- the outputs before the present rules, and those from there on
kept : (n : ℕ) (t : Turn) → after (take n t.out) (since n t) ≡ t
kept n t = ap (with_out t) (take-append-drop n t.out)

-- what a rule leaves, with the outputs before it
left : (rule : Turn → Turn) → IsFramed rule → (n : ℕ) (t u : Turn) → u ≡ rule t → u ≡ after (take n t.out) (rule (since n t))
left rule f n t u e = e ∙ (ap rule (sym (kept n t)) ∙ f (take n t.out) (since n t))

-- a step of the third form, by its parts
abbrev step : Aside → Turn → List ThirdOutput → ThirdTurn
step a p said = record { plain = p; limits = a.limits; leaves = a.leaves; beside = a.beside; room = a.room; said = said }

-- it has the outputs before it, and its own
joined : (a : Aside) (xs : List Output) (q : Turn) → length xs ≡ a.start → shown (after xs q) a ≡ step a q (woven a.words xs)
joined a xs q e =
    ap (λ out. step a (with_out q out) (woven a.words (take a.start (xs ++ q.out)))) (drop_at xs q.out a.start e)
    ∙ ap (λ out. step a q (woven a.words out)) (take_at xs q.out a.start e)

-- the rule is done to the step of the third form
pub shown_plainly : (rule : Turn → Turn) → IsFramed rule → (a : Aside) (t u : Turn) → a.start ≤ length t.out → u ≡ rule t → shown u a ≡ plainly rule (shown t a)
unfolding plainly
shown_plainly rule f a t u l e =
    ap (λ z. shown z a) (left rule f a.start t u e)
    ∙ joined a (take a.start t.out) (rule (since a.start t)) (length-take-le a.start t.out l)

-- and what it says comes after the words
pub still_placed : (rule : Turn → Turn) → IsFramed rule → (ws : List Word) (n : ℕ) (t u : Turn) → IsPlaced ws n t.out → u ≡ rule t → IsPlaced ws n u.out
still_placed rule f ws n t u h e =
    let p = rule (since n t) in
    let k = length-take-le n t.out h.within in
    let more : n ≤ length (take n t.out ++ p.out) = omega (arith, length-append (take n t.out) p.out, k) in
    record {
      within = subst (λ (z : Turn). n ≤ length z.out) (sym (left rule f n t u e)) more;
      last = h.last;
    }
