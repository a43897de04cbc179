-- Messages keep their numbers, and the line of a message tells its number.
use Rattle.st_lemmas.proofs.Words
use Words.{◌≡◌, ℕ, ◌+◌, List, [], ◌∷◌, ◌++◌, Some, Ok, refl, sym, ap, ◌∙◌, subst, arith, inl, inr, append_assoc, length-append}
use Words.{length, slice_get, suc, zero, Event, Message, Observation}
use Words.seen
use Words.Events.{WorldTurn, counted, world_step}
use Words.World.{World, numbered}
use Words.Lists.{Has}
use Words.Numbers.{get_last}
use Words.Lengths.{get_longer}
use Words.Members.{has_filter_map}
use Rattle.st_promises.specs.Counts.{message_told, under_numbers}
use Rattle.st_lemmas.proofs.Steps.{step_happens}
use Rattle.st_laws_leases.specs.Dates.Dates.{messages}
use Rattle.st_laws_lines.proofs.Counting.{tells_event}
use Rattle.st_laws_lines.proofs.Growing.{Grows}

numbered_front : {A : Type 0} (xs ys : List A) (k : ℕ) (v : A) → numbered xs k ≡ Some v → numbered (xs ++ ys) k ≡ Some v
numbered_front xs ys zero v e = cc
numbered_front xs ys (suc n) v e = get_longer xs ys n v e

-- what is given a number is there
is_there : {A : Type 0} (xs ys : List A) (k : ℕ) (v : A) → Has (k, v) (under_numbers (length xs + 1) ys) → numbered (xs ++ ys) k ≡ Some v
unfolding under_numbers
is_there xs [] k v h = absurd h
is_there xs (y ∷ ys) k v (inl e) =
    let n : k ≡ length xs + 1 = ap (λ (p : ℕ × _). p.0) e in
    let z : length xs + 1 ≡ suc (length xs) = omega arith in
    let there : slice_get ((xs ++ y ∷ []) ++ ys) (length xs) ≡ Some y = get_longer (xs ++ y ∷ []) ys (length xs) y (get_last xs y) in
    ap (numbered (xs ++ y ∷ ys)) (n ∙ z) ∙ ap (λ zs. slice_get zs (length xs)) (sym (append_assoc xs (y ∷ []) ys)) ∙ there ∙ ap (λ (p : ℕ × _). Some p.1)
    (sym e)
is_there xs (y ∷ ys) k v (inr h) =
    let z : length xs + 1 + 1 ≡ length (xs ++ y ∷ []) + 1 = ap (λ n. n + 1) (sym (length-append xs (y ∷ []))) in
    ap (λ zs. numbered zs k) (sym (append_assoc xs (y ∷ []) ys)) ∙ is_there (xs ++ y ∷ []) ys k v (subst (λ n. Has (k, v) (under_numbers n ys)) z h)

-- lines that tell the messages by their numbers
module _ (before after : List Message) (os : List Observation) (g : Grows message_told before os after) where
  pub keeps_place : (k : ℕ) (m : Message) → numbered before k ≡ Some m → numbered after k ≡ Some m
  keeps_place k m q = ap (λ zs. numbered zs k) g.is ∙ numbered_front before g.new k m q

  pub tells_place : (k : ℕ) (m : Message) → Has (seen.Sent k m) os → numbered after k ≡ Some m
  tells_place k m i =
      ap (λ zs. numbered zs k) g.is
      ∙ is_there before g.new k m (subst (Has (k, m)) g.lines (has_filter_map message_told os (seen.Sent k m) (k, m) i refl))

module _ (w : World) (e : Event) (sc : WorldTurn) (h : world_step w e ≡ Ok sc) where
  grows : Grows message_told (messages w) sc.seen (messages sc.world)
  grows = subst (λ (x : WorldTurn). Grows message_told (messages w) x.seen (messages x.world)) (sym (step_happens w e sc h).1)
      (tells_event (counted w) e).messages

  pub keeps_number : (k : ℕ) (m : Message) → numbered (messages w) k ≡ Some m → numbered (messages sc.world) k ≡ Some m
  keeps_number = keeps_place (messages w) (messages sc.world) sc.seen grows

  pub tells_number : (k : ℕ) (m : Message) → Has (seen.Sent k m) sc.seen → numbered (messages sc.world) k ≡ Some m
  tells_number = tells_place (messages w) (messages sc.world) sc.seen grows
