-- From the record of a container to the containers of a server.
use Rattle.st_lemmas.proofs.Words
use Words.{◌≡◌, ℕ, suc, ◌+◌, List, [], ◌∷◌, Option, Some, None, refl, sym, ap, ◌∙◌, subst, arith, zero, set, slice_get, Result, Ok, Err, OnOk, true, ServerId}
use Words.World.{numbered, with_numbered}
use Words.Lookups.{some_is}
use Words.Numbers.{set_own}
use Rattle.st_move.specs.declared.record.ContainerRecord.{ContainerRecord}
use Rattle.st_move.specs.declared.refusal.MoveRefusal.{MoveRefusal}
use Rattle.st_move.specs.declared.refusal.MoveRefusal.TheVariants as refusals
use Rattle.st_move.specs.declared.record.ContainerState.{ContainerState}
use Rattle.st_move.specs.declared.record.ContainerState.TheVariants.{Holding, Leaving, Sent, Gone}
use Rattle.st_move.specs.Calls.{Answers, Counts, allowed, count_at, count_found, count_of, there}
use Rattle.st_move.specs.Containers.{Containers, after_order, after_put, changeable, changed, found, found_at, is_holding, ordered, serves_by, unless_leaving}
use Rattle.st_move.specs.Containers.{unless_sent, updated, with_records}

-- the record of a number is at the place below it
pub at_place : (rs : List (Option ContainerRecord)) (c p : ℕ) (old : Option ContainerRecord) → c ≡ p + 1 → slice_get rs p ≡ Some old → numbered rs c ≡ Some old
at_place rs c p old e f = let g : c ≡ suc p = e ∙ omega arith in ap (numbered rs) g ∙ f

pub set_place : (rs : List (Option ContainerRecord)) (c p : ℕ) (new : Option ContainerRecord) → c ≡ p + 1 → with_numbered c new rs ≡ set rs p new
set_place rs c p new e = let g : c ≡ suc p = e ∙ omega arith in ap (λ n. with_numbered n new rs) g

set_same : (rs : List (Option ContainerRecord)) (p : ℕ) (old : Option ContainerRecord) → slice_get rs p ≡ Some old → set rs p old ≡ rs
set_same [] p old e = refl
set_same (r ∷ rs) zero old e = ap (λ x. x ∷ rs) (sym (some_is e))
set_same (r ∷ rs) (suc p) old e = ap (λ xs. r ∷ xs) (set_same rs p old e)

unchanged : (m : Containers) (p : ℕ) (old new : Option ContainerRecord) → slice_get m.records p ≡ Some old → new ≡ old → with_records m (set m.records p new) ≡ m
unchanged m p old new e f = ap (λ x. with_records m (set m.records p x)) f ∙ ap (with_records m) (set_same m.records p old e)

-- a changed record is that of the changed containers
changes_at : (m : Containers) (c p : ℕ) (new : Option ContainerRecord) (x : Result ContainerRecord MoveRefusal) → c ≡ p + 1 → there x ≡ Ok new → changed m c x ≡ Ok (with_records m (set m.records p new))
unfolding there changed
changes_at m c p new (Ok r) e f = let g : Some r ≡ new = cc in ap (λ rs. Ok (with_records m rs)) (set_place m.records c p (Some r) e ∙ ap (set m.records p) g)
changes_at m c p new (Err h) e f = cc

refused_at : (m : Containers) (c : ℕ) (x : Result ContainerRecord MoveRefusal) (h : MoveRefusal) → there x ≡ Err h → changed m c x ≡ Err h
unfolding there changed
refused_at m c (Ok r) h f = cc
refused_at m c (Err g) h f = let k : g ≡ h = cc in ap Err k

count_new : (m : Containers) (c p : ℕ) (old new : Option ContainerRecord) → c ≡ p + 1 → slice_get m.records p ≡ Some old → count_at c (with_records m (set m.records p new)) ≡ count_of new
count_new m c p old new e f = ap count_found (at_place (set m.records p new) c p new e (set_own m.records p new old f))

-- a call that counts
pub counts : (m : Containers) (c p : ℕ) (old new : Option ContainerRecord) (x : Result ContainerRecord MoveRefusal) (result : Result ℕ MoveRefusal) → c ≡ p + 1 → slice_get m.records p ≡ Some old
    → Counts count_of old new result (there x) → Counts (count_at c) m (with_records m (set m.records p new)) result (changed m c x)
counts m c p old new x (Ok n) e f h = (changes_at m c p new x e h.0, h.1 ∙ sym (count_new m c p old new e f))
counts m c p old new x (Err refusals.Memory) e f h = unchanged m p old new f h
counts m c p old new x (Err g) e f h = (refused_at m c x g h.0, unchanged m p old new f h.1)

-- a call that only answers
pub answers : (m : Containers) (c p : ℕ) (old new : Option ContainerRecord) (x : Result ContainerRecord MoveRefusal) (result : Result Unit MoveRefusal) → c ≡ p + 1 → slice_get m.records p ≡ Some old
    → Answers old new result (there x) → Answers m (with_records m (set m.records p new)) result (changed m c x)
answers m c p old new x (Ok u) e f h = changes_at m c p new x e h
answers m c p old new x (Err refusals.Memory) e f h = unchanged m p old new f h
answers m c p old new x (Err g) e f h = (refused_at m c x g h.0, unchanged m p old new f h.1)

-- what is found at a place
found_there : (m : Containers) (c p : ℕ) (old : Option ContainerRecord) → c ≡ p + 1 → slice_get m.records p ≡ Some old → found m.records c ≡ found_at c (Some old)
unfolding found
found_there m c p old e f = ap (found_at c) (at_place m.records c p old e f)

pub put_counts : (m : Containers) (c p : ℕ) (u : List ℕ) (old new : Option ContainerRecord) (result : Result ℕ MoveRefusal) → c ≡ p + 1 → slice_get m.records p ≡ Some old
    → Counts count_of old new result (there (updated u (changeable (found_at c (Some old))))) → Counts (count_at c) m (with_records m (set m.records p new)) result (after_put m c u)
put_counts m c p u old new result e f h =
    subst (λ y. Counts (count_at c) m (with_records m (set m.records p new)) result (changed m c (updated u (changeable y)))) (sym (found_there m c p old e f))
    (counts m c p old new (updated u (changeable (found_at c (Some old)))) result e f h)

pub order_answers : (m : Containers) (c p : ℕ) (to : ServerId) (old new : Option ContainerRecord) (result : Result Unit MoveRefusal) → c ≡ p + 1 → slice_get m.records p ≡ Some old
    → Answers old new result (there (ordered m.server to (changeable (found_at c (Some old))))) → Answers m (with_records m (set m.records p new)) result (after_order m c to)
order_answers m c p to old new result e f h =
    subst (λ y. Answers m (with_records m (set m.records p new)) result (changed m c (ordered m.server to (changeable y)))) (sym (found_there m c p old e f))
    (answers m c p old new (ordered m.server to (changeable (found_at c (Some old)))) result e f h)

-- if there is no such container
pub put_nowhere : (m : Containers) (c : ℕ) (u : List ℕ) → numbered m.records c ≡ None → after_put m c u ≡ Err (refusals.NoContainer c)
unfolding found found_at changeable updated changed
put_nowhere m c u e = ap (λ o. changed m c (updated u (changeable (found_at c o)))) e

pub order_nowhere : (m : Containers) (c : ℕ) (to : ServerId) → numbered m.records c ≡ None → after_order m c to ≡ Err (refusals.NoContainer c)
unfolding found found_at changeable ordered changed
order_nowhere m c to e = ap (λ o. changed m c (ordered m.server to (changeable (found_at c o)))) e

-- if a put or an order may come, the container is served
pub may_serve : (rs : List (Option ContainerRecord)) (c : ℕ) (r : ContainerRecord) (result : Result Unit MoveRefusal) → found rs c ≡ Ok r → allowed r result ≡ unless_leaving r r.state → OnOk result (serves_by (found rs c) ≡ true)
unfolding unless_leaving unless_sent
may_serve rs c r (Err e) f h = tt
may_serve rs c r (Ok u) f h = ap serves_by f ∙ go r.state h
  where
    go : (st : ContainerState) → Ok r ≡ unless_leaving r st → is_holding st ≡ true
    go Holding h = refl
    go (Leaving to) h = cc
    go (Sent to) h = cc
    go (Gone to) h = cc
