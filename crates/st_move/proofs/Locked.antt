-- A file has holders exactly when it has a row.
use Rattle.st_lemmas.proofs.Words
use Words.{◌≡◌, ℕ, ◌<◌, ◌⊎◌, Bool, true, false, List, [], ◌∷◌, length, map, filter, Option, Some, None, refl, sym, ap, ◌∙◌, subst, inl, inr, arith, eqb, lt-ltb}
use Words.{le-ltb, filter_map, option_map, not, ◌==◌, nat_lt, list_any, cons_option, ClientId, GrantNo, Mode, LockRow}
use Words.Keys.{client, rising, same_client}
use Words.Locks.{Locks, client_of_row, holder_at, holder_in_list, holders, is_row_of, is_row_on, row_of}
use Words.Lists.{Has}
use Words.Lookups.{or_false}
use Words.Tables.{and_both, cond_false, has_filter_in, has_map_in, none_has}
use Words.Members.{some_member_passes}
use Rattle.std.proofs.lemmas.Bool.Decides.{eqb_tells}
use Rattle.st_lemmas.proofs.Keys.{rising_has_in}
use Rattle.st_move.specs.Containers.{is_locked}

none_kept : {A : Type 0} (p : A → Bool) (xs : List A) → list_any p xs ≡ false → filter p xs ≡ []
none_kept p [] e = refl
none_kept p (x ∷ xs) e = let h : (p x ≡ false) × (list_any p xs ≡ false) = or_false (p x) (list_any p xs) e in cond_false (p x) _ _ h.0 ∙ none_kept p xs h.1

kept_some : {A B : Type 0} (h : A → Option B) (xs : List A) (x : A) (y : B) → Has x xs → h x ≡ Some y → 0 < length (filter_map h xs)
kept_some h [] x y i e = absurd i
kept_some {B = B} h (z ∷ xs) x y i e = go i (λ j. kept_some h xs x y j e)
  where
    head : h z ≡ Some y → 0 < length (cons_option (h z) (filter_map h xs))
    head f = subst (λ o. 0 < length (cons_option o (filter_map h xs))) (sym f) (omega arith)

    tail : (o : Option B) → 0 < length (filter_map h xs) → 0 < length (cons_option o (filter_map h xs))
    tail None l = l
    tail (Some w) l = omega arith

    go : (x ≡ z) ⊎ Has x xs → (Has x xs → 0 < length (filter_map h xs)) → 0 < length (cons_option (h z) (filter_map h xs))
    go (inl j) f = head (ap h (sym j) ∙ e)
    go (inr j) f = tail (h z) (f j)

row_there : (l : Locks) (c : ℕ) (r : LockRow) → Has r l.rows → is_row_on c r ≡ true → (y : ClientId × GrantNo × Mode) × (holder_at l c (client_of_row r) ≡ Some y)
row_there l c r i e = go (row_of l (client r.client.0) c) refl
  where
    own : eqb r.client.0 r.client.0 ≡ true
    own = by (eqb_tells r.client.0 r.client.0)
      where
        by : ((eqb r.client.0 r.client.0 ≡ true) × (r.client.0 ≡ r.client.0)) ⊎ ((eqb r.client.0 r.client.0 ≡ false) × (r.client.0 ≡ r.client.0 → ⊥)) → eqb r.client.0 r.client.0 ≡ true
        by (inl h) = h.0
        by (inr h) = absurd (h.1 refl)

    passes : is_row_of (client r.client.0) c r ≡ true
    passes = and_both (same_client r.client (client r.client.0)) (r.ino == c) own e

    go : (o : Option LockRow) → row_of l (client r.client.0) c ≡ o → (y : ClientId × GrantNo × Mode) × (holder_at l c (client_of_row r) ≡ Some y)
    go None f = let g : is_row_of (client r.client.0) c r ≡ false = none_has (is_row_of (client r.client.0) c) l.rows f r i in absurd (no (sym passes ∙ g))
      where
        no : true ≡ false → ⊥
        no h = cc
    go (Some q) f = (holder_in_list q, ap (option_map holder_in_list) f)

pub holders_tell : (l : Locks) (c : ℕ) → nat_lt 0 (length (holders l c)) ≡ is_locked l c
unfolding holders rising
holders_tell l c = go (is_locked l c) refl
  where
    go : (b : Bool) → is_locked l c ≡ b → nat_lt 0 (length (holders l c)) ≡ b
    go false e = ap (λ rows. nat_lt 0 (length (filter_map (holder_at l c) (rising (map client_of_row rows))))) (none_kept (is_row_on c) l.rows e)
    go true e =
        let h : (r : LockRow) × Has r l.rows × (is_row_on c r ≡ true) = some_member_passes (is_row_on c) l.rows e in
        let k : (y : ClientId × GrantNo × Mode) × (holder_at l c (client_of_row h.0) ≡ Some y) = row_there l c h.0 h.1 h.2 in
        lt-ltb 0 (length (holders l c))
        (kept_some (holder_at l c) (rising (map client_of_row (filter (is_row_on c) l.rows))) (client_of_row h.0) k.0
        (rising_has_in _ _ (has_map_in client_of_row (filter (is_row_on c) l.rows) h.0 (has_filter_in (is_row_on c) l.rows h.0 h.1 h.2))) k.1)

-- told by whether there are none
pub holders_are : (l : Locks) (c : ℕ) → not (length (holders l c) == 0) ≡ is_locked l c
holders_are l c = go (eqb_tells (length (holders l c)) 0) ∙ holders_tell l c
  where
    go : ((eqb (length (holders l c)) 0 ≡ true) × (length (holders l c) ≡ 0)) ⊎ ((eqb (length (holders l c)) 0 ≡ false) × (length (holders l c) ≡ 0 → ⊥)) → not (length (holders l c) == 0) ≡ nat_lt 0 (length (holders l c))
    go (inl h) = ap not h.0 ∙ sym (le-ltb 0 (length (holders l c)) (omega arith))
    go (inr h) = ap not h.0 ∙ sym (lt-ltb 0 (length (holders l c)) (omega arith))
