-- The steps of a rule: nothing is done, an output is added, one step after another, one of two steps.
use Rattle.st_lemmas.proofs.Words
use Words.{◌≡◌, ℕ, ◌+◌, ◌≤◌, Bool, true, false, List, [], ◌∷◌, ◌++◌, length, refl, ◌∙◌, arith, if◌then◌else◌, map, filter, Result, Ok, Err, IfOk}
use Words.{AppAnswer, Output, Operation}
use Words.ClientState.{Turn, answer_each, answer_to, say}
use Rattle.std.proofs.lemmas.List.{length-append}
use Rattle.st_client.specs.Machines.{Advances}

pub more_out : (out outs : List Output) → length out ≤ length (out ++ outs)
more_out out outs = omega (arith, length-append out outs)

pub same_number : (n : ℕ) → n ≤ n
same_number n = omega arith

pub next_number : (n : ℕ) → n ≤ n + 1
next_number n = omega arith

-- nothing is added
pub stays : (t : Turn) → Advances t t
stays t = ((same_number t.next_command, same_number (length t.out)), (refl, refl), refl)

-- one output is added
pub says : (t : Turn) (o : Output) → Advances t (say t o)
says t o = ((same_number t.next_command, more_out t.out (o ∷ [])), (refl, refl), refl)

-- two outputs are added
pub says_both : (t : Turn) (o p : Output) → Advances t (say (say t o) p)
says_both t o p = ((same_number t.next_command, (let a = more_out t.out (o ∷ []) in let b = more_out (t.out ++ o ∷ []) (p ∷ []) in omega (arith, a, b))), (refl, refl), refl)

-- a command is submitted
pub submitted : (t : Turn) (o : Output) → Advances t (record (say t o) { next_command = t.next_command + 1 })
submitted t o = ((next_number t.next_command, more_out t.out (o ∷ [])), (refl, refl), refl)

-- pending operations are answered
pub told : (p : Operation → Bool) (a : AppAnswer) (t : Turn) → Advances t (answer_each p a t)
unfolding answer_each
told p a t = ((same_number t.next_command, more_out t.out (map (answer_to a) (filter p t.operations))), (refl, refl), refl)

-- first these, and then those
pub then_more : (t u v : Turn) → Advances t u → Advances u v → Advances t v
then_more t u v g h =
    let a = g.0.0 in
    let b = g.0.1 in
    let c = h.0.0 in
    let d = h.0.1 in
    ((omega (arith, a, c), omega (arith, b, d)), (h.1.0 ∙ g.1.0, h.1.1 ∙ g.1.1), h.2 ∙ g.2)

-- one of two
pub either : (b : Bool) (x y t : Turn) → Advances t x → Advances t y → Advances t (if b then x else y)
either true x y t p q = p
either false x y t p q = q

-- what a rule that advances leaves
pub advances_to : (f : Turn → Turn) (g : (t : Turn) → Advances t (f t)) (t u : Turn) → u ≡ f t → Advances t u
advances_to f g t u h = rw h (g t)

-- what holds of a result that is one
pub ok_by : {A B : Type 0} (r : Result A B) (P Q : A → Type 0) → ((a : A) → P a → Q a) → IfOk r P → IfOk r Q
ok_by (Ok x) P Q f h = f x h
ok_by (Err e) P Q f h = h
