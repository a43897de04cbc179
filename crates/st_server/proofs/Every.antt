-- What each row of a list passes, after the changes of tables.
use Rattle.st_lemmas.proofs.Words
use Words.{◌≡◌, Bool, true, false, cond, List, [], ◌∷◌, ◌++◌, Option, Some, refl, subst, filter, find, map, list_all, and_parts, and_from}
use Words.Keys.{put}
use Words.Tables.{cond_either}

module _ {A : Type 0} (p : A → Bool) where
  pub every_filter : (q : A → Bool) (xs : List A) → list_all p xs ≡ true → list_all p (filter q xs) ≡ true
  every_filter q [] e = refl
  every_filter q (x ∷ xs) e =
      let both = and_parts (p x) (list_all p xs) e in
      let rest : list_all p (filter q xs) ≡ true = every_filter q xs both.1 in
      cond_either (λ (ys : List A). list_all p ys ≡ true) (q x) (x ∷ filter q xs) (filter q xs) (λ z. and_from (p x) (list_all p (filter q xs)) both.0 rest) (λ z. rest)

  pub every_append : (xs ys : List A) → list_all p xs ≡ true → list_all p ys ≡ true → list_all p (xs ++ ys) ≡ true
  every_append [] ys e f = f
  every_append (x ∷ xs) ys e f =
      let both = and_parts (p x) (list_all p xs) e in and_from (p x) (list_all p (xs ++ ys)) both.0 (every_append xs ys both.1 f)

  pub every_one : (x : A) → p x ≡ true → list_all p (x ∷ []) ≡ true
  every_one x e = and_from (p x) true e refl

  pub every_last : (xs : List A) (x : A) → list_all p xs ≡ true → p x ≡ true → list_all p (xs ++ x ∷ []) ≡ true
  every_last xs x e f = every_append xs (x ∷ []) e (every_one x f)

  pub every_put : (q : A → Bool) (x : A) (xs : List A) → p x ≡ true → list_all p xs ≡ true → list_all p (put q x xs) ≡ true
  unfolding put
  every_put q x [] e f = and_from (p x) true e refl
  every_put q x (y ∷ ys) e f =
      let both = and_parts (p y) (list_all p ys) f in
      let rest : list_all p (put q x ys) ≡ true = every_put q x ys e both.1 in
      cond_either (λ (zs : List A). list_all p zs ≡ true) (q y) (x ∷ ys) (y ∷ put q x ys)
      (λ z. and_from (p x) (list_all p ys) e both.1) (λ z. and_from (p y) (list_all p (put q x ys)) both.0 rest)

  here_or_later : (x y : A) (b : Bool) (o : Option A) → cond b (Some y) o ≡ Some x → p y ≡ true → (o ≡ Some x → p x ≡ true) → p x ≡ true
  here_or_later x y true o e h k = let same : y ≡ x = cc in subst (λ (z : A). p z ≡ true) same h
  here_or_later x y false o e h k = k e

  pub every_found : (q : A → Bool) (xs : List A) (x : A) → list_all p xs ≡ true → find q xs ≡ Some x → p x ≡ true
  every_found q [] x e f = cc
  every_found q (y ∷ ys) x e f =
      let both = and_parts (p y) (list_all p ys) e in here_or_later x y (q y) (find q ys) f both.0 (λ k. every_found q ys x both.1 k)

pub every_map : {A B : Type 0} (p : A → Bool) (q : B → Bool) (f : A → B) → ((x : A) → p x ≡ true → q (f x) ≡ true) → (xs : List A) → list_all p xs ≡ true → list_all q (map f xs) ≡ true
every_map p q f h [] e = refl
every_map p q f h (x ∷ xs) e =
    let both = and_parts (p x) (list_all p xs) e in and_from (q (f x)) (list_all q (map f xs)) (h x both.0) (every_map p q f h xs both.1)

pub every_too : {A : Type 0} (p q : A → Bool) → ((x : A) → p x ≡ true → q x ≡ true) → (xs : List A) → list_all p xs ≡ true → list_all q xs ≡ true
every_too p q h [] e = refl
every_too p q h (x ∷ xs) e =
    let both = and_parts (p x) (list_all p xs) e in and_from (q x) (list_all q xs) (h x both.0) (every_too p q h xs both.1)
