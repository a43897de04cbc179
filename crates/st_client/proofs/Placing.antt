-- A rule at each association in turn, each in its place: those before it are done, and those after it are left.
use Rattle.st_lemmas.proofs.Words
use Words.{◌≡◌, ℕ, zero, suc, ◌+◌, ◌<◌, ◌≤◌, Bool, true, List, [], ◌∷◌, ◌++◌, Some, get_or, length, map, refl, sym, ap, ◌∙◌, append_assoc, arith, insert}
use Words.{remove, slice_get, list_all, Config, Output, Operation}
use Words.Tables.{and_true}
use Words.ClientState.{Association, ClientTurn, Turn, at_each, at_these, enter, with_associations}
use Words.Lengths.{length_map}
use Rattle.std.proofs.Common.{append-nil}
use Rattle.std.specs.Option.{option_map_or}
use Rattle.st_client_association.specs.Associations.{ClientAssociation, left_as}
use Rattle.st_client.specs.IdleRules.{IsIdle}
use Rattle.st_client.specs.Machines.{at_place, here_of, is_ready_at, leave_at, without_at}

-- Lists.

length_both : {A : Type 0} (xs ys : List A) → length (xs ++ ys) ≡ length xs + length ys
length_both [] ys = omega arith
length_both (x ∷ xs) ys = let h = length_both xs ys in omega (arith, h)

get_there : {A : Type 0} (done left : List A) (a : A) → slice_get (done ++ a ∷ left) (length done) ≡ Some a
get_there [] left a = refl
get_there (d ∷ done) left a = get_there done left a

put_there : {A : Type 0} (done left : List A) (a b : A) → insert (remove (done ++ a ∷ left) (length done)) (length done) b ≡ done ++ b ∷ left
put_there [] left a b = refl
put_there (d ∷ done) left a b = ap (λ l. d ∷ l) (put_there done left a b)

put_back : {A : Type 0} (xs : List A) (i : ℕ) (a : A) → slice_get xs i ≡ Some a → insert (remove xs i) i a ≡ xs
put_back [] i a e = cc
put_back (x ∷ xs) zero a e = let same : a ≡ x = cc in ap (λ b. b ∷ xs) same
put_back (x ∷ xs) (suc i) a e = ap (λ l. x ∷ l) (put_back xs i a e)

map_insert : {A B : Type 0} (f : A → B) (xs : List A) (i : ℕ) (a : A) → map f (insert xs i a) ≡ insert (map f xs) i (f a)
map_insert f xs zero a = refl
map_insert f [] (suc i) a = refl
map_insert f (x ∷ xs) (suc i) a = ap (λ l. f x ∷ l) (map_insert f xs i a)

map_remove : {A B : Type 0} (f : A → B) (xs : List A) (i : ℕ) → map f (remove xs i) ≡ remove (map f xs) i
map_remove f [] zero = refl
map_remove f [] (suc i) = refl
map_remove f (x ∷ xs) zero = refl
map_remove f (x ∷ xs) (suc i) = ap (λ l. f x ∷ l) (map_remove f xs i)

pub got : (items : List ClientAssociation) (i : ℕ) (a : ClientAssociation) → i < length items → a ≡ get_or items i a → slice_get (map here_of items) i ≡ Some a.here
got [] i a l e = absurd (omega (arith, l))
got (x ∷ items) zero a l e = ap (λ (b : ClientAssociation). Some b.here) (sym e)
got (x ∷ items) (suc i) a l e = got items i a (omega (arith, l)) e

-- all of the parts' associations are the turn's
pub within_items : (items : List ClientAssociation) (xs : List Association) (i : ℕ) → map here_of items ≡ xs → i < length xs → i < length items
within_items items xs i h l = let m = sym (length_map here_of items) ∙ ap length h in omega (arith, l, m)

-- with these associations, after a rule at one of them
abbrev pub with_left : List Association → ClientTurn → Turn → ClientTurn
with_left xs t r = record { state = record t.state { associations = xs; operations = r.operations; next_command = r.next_command }; out = r.out }

-- a rule at an association begins as the definitions' step there
pub entered_is : (s : ClientTurn) (a : ClientAssociation) (v : Turn) (os : List Operation) (n : ℕ) (out : List Output) →
    v ≡ record { id = a.id; config = a.config; here = a.here; operations = os; next_command = n; out = out } → a.id ≡ s.state.id → a.config ≡ s.state.config → os ≡ s.state.operations →
    n ≡ s.state.next_command → out ≡ s.out → v ≡ enter s a.here
entered_is s a v os n out e i k o m p = e ∙ (λ j. record { id = i j; config = k j; here = a.here; operations = o j; next_command = m j; out = p j })

-- what it leaves comes to a place among the others
pub placed_is : (run : Turn → Turn) (t s : ClientTurn) (items now : List ClientAssociation) (i : ℕ) (a b : ClientAssociation) (u v : Turn) (os : List Operation) (n : ℕ) (out : List Output) →
    t ≡ s → map here_of items ≡ t.state.associations → now ≡ insert items i b → left_as b os n out ≡ u → u ≡ run v → v ≡ enter s a.here →
    with_left (map here_of now) t (left_as b os n out) ≡ leave_at i s (run (enter s a.here))
placed_is run t s items now i a b u v os n out e h k l r w =
    ap (λ xs. with_left xs t (left_as b os n out)) (ap (map here_of) k ∙ map_insert here_of items i b ∙ ap (λ xs. insert xs i b.here) h)
    ∙ ap (leave_at i t) (l ∙ r ∙ ap run w)
    ∙ ap (λ z. leave_at i z (run (enter s a.here))) e

pub place_is : (run : Turn → Turn) (t : ClientTurn) (items rest : List ClientAssociation) (i : ℕ) (a : ClientAssociation) → i < length items → a ≡ get_or items i a → rest ≡ remove items i →
    map here_of items ≡ t.state.associations → leave_at i (with_associations (map here_of rest) t) (run (enter t a.here)) ≡ at_place run i t
place_is run t items rest i a l e k h =
    ap (λ xs. leave_at i (with_associations xs t) (run (enter t a.here))) (ap (map here_of) k ∙ map_remove here_of items i ∙ ap (λ xs. remove xs i) h)
    ∙ ap (λ o. option_map_or (λ b. leave_at i (without_at i t) (run (enter t b))) o t) (sym (got items i a l e) ∙ ap (λ xs. slice_get xs i) h)

pub place_fits : (ready : Association → Bool) (items : List ClientAssociation) (xs : List Association) (i : ℕ) (a : ClientAssociation) → i < length items → a ≡ get_or items i a → map here_of items ≡ xs →
    is_ready_at ready i xs ≡ true → ready a.here ≡ true
place_fits ready items xs i a l e h r = ap (λ o. option_map_or ready o true) (sym (got items i a l e) ∙ ap (λ ys. slice_get ys i) h) ∙ r

-- a rule that does nothing at an association leaves it in its place
pub place_idle : (run : Turn → Turn) (t : ClientTurn) (items : List ClientAssociation) (i : ℕ) (a : ClientAssociation) → i < length items → a ≡ get_or items i a → map here_of items ≡ t.state.associations →
    a.config ≡ t.state.config → IsIdle run t.state.operations a → at_place run i t ≡ t
place_idle run t items i a l e h k d =
    let g : slice_get t.state.associations i ≡ Some a.here = ap (λ xs. slice_get xs i) (sym h) ∙ got items i a l e in
    ap (λ o. option_map_or (λ b. leave_at i (without_at i t) (run (enter t b))) o t) g
    ∙ ap (leave_at i (without_at i t)) (d (enter t a.here) refl (sym k) refl)
    ∙ ap (λ xs. with_associations xs t) (put_back t.state.associations i a.here g)

-- This many are done, and the others are left: the rule at each of them leads to the same, and each of them is ready.
pub record IsDone (run : Turn → Turn) (ready : Config → Association → Bool) (n i : ℕ) (t s : ClientTurn) : Type 0 where
  pub done : List Association
  pub left : List Association
  pub split : t.state.associations ≡ done ++ left
  pub count : length done ≡ i
  pub all : i + length left ≡ n
  pub leads : at_these run left (with_associations done t) ≡ s
  pub each : list_all (ready t.state.config) left ≡ true

module _ (run : Turn → Turn) (ready : Config → Association → Bool) where
  -- none is done at first
  pub none_done : (t : ClientTurn) (n : ℕ) → n ≡ length t.state.associations → list_all (ready t.state.config) t.state.associations ≡ true → IsDone run ready n 0 t (at_each run t)
  unfolding at_each
  none_done t n e h = record { done = []; left = t.state.associations; split = refl; count = refl; all = (let f = e in omega (arith, f)); leads = refl; each = h }

  -- the next one is in the list, and ready
  pub next_within : (n i : ℕ) (t s : ClientTurn) → i < n → IsDone run ready n i t s → i < length t.state.associations
  next_within n i t s l d =
      let m = ap length d.split ∙ length_both d.done d.left in
      let c = d.count in
      let a = d.all in
      omega (arith, l, m, c, a)

  next_at : (t : ClientTurn) (i : ℕ) (a : Association) (done left : List Association) → t.state.associations ≡ done ++ a ∷ left → length done ≡ i → slice_get t.state.associations i ≡ Some a
  next_at t i a done left e c = (λ j. slice_get (e j) (sym c j)) ∙ get_there done left a

  ready_by : (n i : ℕ) (t : ClientTurn) (done left : List Association) → i < n → t.state.associations ≡ done ++ left → length done ≡ i → i + length left ≡ n → list_all (ready t.state.config) left ≡ true →
      is_ready_at (ready t.state.config) i t.state.associations ≡ true
  ready_by n i t done [] l e c m h = absurd (omega (arith, l, m))
  ready_by n i t done (a ∷ left) l e c m h =
      ap (λ o. option_map_or (ready t.state.config) o true) (next_at t i a done left e c) ∙ (and_true (ready t.state.config a) (list_all (ready t.state.config) left) h).0

  pub next_ready : (n i : ℕ) (t s : ClientTurn) → i < n → IsDone run ready n i t s → is_ready_at (ready t.state.config) i t.state.associations ≡ true
  next_ready n i t s l d = ready_by n i t d.done d.left l d.split d.count d.all d.each

  -- the rule at the next one, in its place
  place_by : (i : ℕ) (t : ClientTurn) (a : Association) (done left : List Association) → t.state.associations ≡ done ++ a ∷ left → length done ≡ i →
      at_place run i t ≡ with_left (done ++ (run (enter t a)).here ∷ left) t (run (enter t a))
  place_by i t a done left e c =
      ap (λ o. option_map_or (λ b. leave_at i (without_at i t) (run (enter t b))) o t) (next_at t i a done left e c)
      ∙ (λ j. with_left (insert (remove (e j) (sym c j)) (sym c j) (run (enter t a)).here) t (run (enter t a)))
      ∙ ap (λ xs. with_left xs t (run (enter t a))) (put_there done left a (run (enter t a)).here)

  done_by : (n i : ℕ) (t u s : ClientTurn) (done left : List Association) → i < n → u ≡ at_place run i t → t.state.associations ≡ done ++ left → length done ≡ i → i + length left ≡ n →
      at_these run left (with_associations done t) ≡ s → list_all (ready t.state.config) left ≡ true → IsDone run ready n (i + 1) u s
  unfolding at_these
  done_by n i t u s done [] l f e c m r h = absurd (omega (arith, l, m))
  done_by n i t u s done (a ∷ left) l f e c m r h =
      let b = (run (enter t a)).here in
      let k : u ≡ with_left (done ++ b ∷ left) t (run (enter t a)) = f ∙ place_by i t a done left e c in
      let more = length_both done (b ∷ []) in
      record {
        done = done ++ b ∷ [];
        left = left;
        split = ap (λ (v : ClientTurn). v.state.associations) k ∙ sym (append_assoc done (b ∷ []) left);
        count = omega (arith, c, more);
        all = omega (arith, m);
        leads = ap (λ v. at_these run left (with_associations (done ++ b ∷ []) v)) k ∙ r;
        each = ap (λ (v : ClientTurn). list_all (ready v.state.config) left) k ∙ (and_true (ready t.state.config a) (list_all (ready t.state.config) left) h).1;
      }

  pub next_done : (n i : ℕ) (t u s : ClientTurn) → i < n → u ≡ at_place run i t → IsDone run ready n i t s → IsDone run ready n (i + 1) u s
  next_done n i t u s l e d = done_by n i t u s d.done d.left l e d.split d.count d.all d.leads d.each

  -- all are done at last
  all_by : (n i : ℕ) (t s : ClientTurn) (done left : List Association) → n ≤ i → t.state.associations ≡ done ++ left → i + length left ≡ n → at_these run left (with_associations done t) ≡ s → t ≡ s
  unfolding at_these
  all_by n i t s done [] l e m r = ap (λ xs. with_associations xs t) (e ∙ append-nil done) ∙ r
  all_by n i t s done (a ∷ left) l e m r = absurd (omega (arith, l, m))

  pub all_done : (n i : ℕ) (t s : ClientTurn) → n ≤ i → IsDone run ready n i t s → t ≡ s
  all_done n i t s l d = all_by n i t s d.done d.left l d.split d.all d.leads
