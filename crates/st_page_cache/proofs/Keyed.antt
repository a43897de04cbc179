-- What the operations of a map do to the list of its values, if each key follows from its value and keys differ.
use Rattle.st_lemmas.proofs.Words
use Words.{◌≡◌, Bool, true, false, cond, if◌then◌else◌, List, [], ◌∷◌, ◌++◌, map, refl, sym, ap, ◌∙◌, ⊎_elim, find, filter, not, ◌&&◌, Some, None}
use Words.{AllByRecursion, list_any, cases_Bool, or_from}
use Words.Keys.{put}
use Words.ServerInvariants.{are_once}
use Rattle.std.specs.List.{IsDistinct}
use Rattle.std.specs.Map.{keys_of, values_of, lookup, remove_entry, set_value}
use Rattle.indexmap.specs.IndexMap.{insert_entry}
use Rattle.st_page_cache.specs.KeyedPages.{IsKeyed}

module _ {K X : Type 0} (key : X → K) where
  pub keyed_head : (e : K × X) (es : List (K × X)) → IsKeyed key (e ∷ es) → e.0 ≡ key e.1
  keyed_head e es h = cc

  pub keyed_tail : (e : K × X) (es : List (K × X)) → IsKeyed key (e ∷ es) → IsKeyed key es
  keyed_tail e es h = cc

  pub keyed_cons : (e : K × X) (es : List (K × X)) → e.0 ≡ key e.1 → IsKeyed key es → IsKeyed key (e ∷ es)
  keyed_cons e es a b = cc

  -- a value goes last, under its key
  pub keyed_push : (es : List (K × X)) (k : K) (x : X) → k ≡ key x → IsKeyed key es → IsKeyed key (es ++ (k, x) ∷ [])
  keyed_push [] k x a h = keyed_cons (k, x) [] a refl
  keyed_push (e ∷ es) k x a h = keyed_cons e (es ++ (k, x) ∷ []) (keyed_head e es h) (keyed_push es k x a (keyed_tail e es h))

  -- a value goes in the place of the one with its key, or last
  pub keyed_insert : (E : K → K → Bool) (k : K) (x : X) → k ≡ key x → ((y : K) → E k y ≡ true → k ≡ y) → (es : List (K × X)) → IsKeyed key es → IsKeyed key (insert_entry E es k x)
  keyed_insert E k x a same [] h = keyed_cons (k, x) [] a refl
  keyed_insert E k x a same (e ∷ es) h =
      ⊎_elim
      (λ q. rw q (keyed_cons (e.0, x) es (sym (same e.0 q) ∙ a) (keyed_tail e es h)))
      (λ q. rw q (keyed_cons e (insert_entry E es k x) (keyed_head e es h) (keyed_insert E k x a same es (keyed_tail e es h))))
      (cases_Bool (E k e.0))

  pub insert_is_put : (E : K → K → Bool) (k : K) (x : X) (p : X → Bool) → ((y : X) → E k (key y) ≡ p y) → (es : List (K × X)) → IsKeyed key es → values_of (insert_entry E es k x) ≡ put p x (values_of es)
  unfolding put
  insert_is_put E k x p agree [] h = refl
  insert_is_put E k x p agree (e ∷ es) h =
      let s : E k e.0 ≡ p e.1 = ap (E k) (keyed_head e es h) ∙ agree e.1 in
      ⊎_elim
      (λ q. let r : p e.1 ≡ true = sym s ∙ q in rw (q, r) refl)
      (λ q. let r : p e.1 ≡ false = sym s ∙ q in rw (q, r) (ap (λ l. e.1 ∷ l) (insert_is_put E k x p agree es (keyed_tail e es h))))
      (cases_Bool (E k e.0))

  -- values whose keys differ are there once
  none_same : (E : K → K → Bool) (same : X → X → Bool) → ((x y : X) → same x y ≡ E (key x) (key y)) → (x : X) (ys : List X) → AllByRecursion (λ k. E (key x) k ≡ false) (map key ys) → list_any (same x) ys ≡ false
  none_same E same tied x [] a = refl
  none_same E same tied x (y ∷ ys) a = or_from (same x y) (list_any (same x) ys) (tied x y ∙ a.0) (none_same E same tied x ys a.1)

  pub once : (E : K → K → Bool) (same : X → X → Bool) → ((x y : X) → same x y ≡ E (key x) (key y)) → (xs : List X) → IsDistinct E (map key xs) → are_once same xs ≡ true
  unfolding IsDistinct are_once
  once E same tied [] d = refl
  once E same tied (x ∷ xs) d = λ i. not (none_same E same tied x xs d.0 i) && once E same tied xs d.1 i

  -- other keys of the values differ, if these say the same
  pub distinct_as : {L : Type 0} (E : K → K → Bool) (F : L → L → Bool) (g : X → L) → ((x y : X) → F (g x) (g y) ≡ E (key x) (key y)) → (xs : List X) → IsDistinct E (map key xs) → IsDistinct F (map g xs)
  unfolding IsDistinct
  distinct_as E F g tied [] d = tt
  distinct_as {L} E F g tied (x ∷ xs) d = (each xs d.0, distinct_as E F g tied xs d.1)
    where
      each : (ys : List X) → AllByRecursion (λ k. E (key x) k ≡ false) (map key ys) → AllByRecursion (λ k. F (g x) k ≡ false) (map g ys)
      each [] a = tt
      each (y ∷ ys) a = (tied x y ∙ a.0, each ys a.1)

  module _ (t : K → Bool) where
    -- an entry goes
    pub keyed_remove : (es : List (K × X)) → IsKeyed key es → IsKeyed key (remove_entry t es)
    keyed_remove [] h = refl
    keyed_remove (e ∷ es) h =
        ⊎_elim
        (λ q. rw q (keyed_tail e es h))
        (λ q. rw q (keyed_cons e (remove_entry t es) (keyed_head e es h) (keyed_remove es (keyed_tail e es h))))
        (cases_Bool (t e.0))

    -- a value is written over
    pub keyed_set : (w : X) → ((k : K) → t k ≡ true → k ≡ key w) → (es : List (K × X)) → IsKeyed key es → IsKeyed key (set_value t es w)
    keyed_set w a [] h = refl
    keyed_set w a (e ∷ es) h =
        ⊎_elim
        (λ q. rw q (keyed_cons (e.0, w) es (a e.0 q) (keyed_tail e es h)))
        (λ q. rw q (keyed_cons e (set_value t es w) (keyed_head e es h) (keyed_set w a es (keyed_tail e es h))))
        (cases_Bool (t e.0))

    module _ (p : X → Bool) (agree : (x : X) → t (key x) ≡ p x) where
      same_test : (e : K × X) (es : List (K × X)) → IsKeyed key (e ∷ es) → t e.0 ≡ p e.1
      same_test e es h = ap t (keyed_head e es h) ∙ agree e.1

      -- a look-up by the key is a search among the values
      pub lookup_is_find : (es : List (K × X)) → IsKeyed key es → lookup t es ≡ find p (values_of es)
      lookup_is_find [] h = refl
      lookup_is_find (e ∷ es) h = rw (same_test e es h) (ap (cond (p e.1) (Some e.1)) (lookup_is_find es (keyed_tail e es h)))

      -- if no key passes, no value does
      pub none_found : (es : List (K × X)) → IsKeyed key es → AllByRecursion (λ k. t k ≡ false) (keys_of es) → filter (λ x. not (p x)) (values_of es) ≡ values_of es
      none_found [] h a = refl
      none_found (e ∷ es) h a =
          let q : p e.1 ≡ false = sym (same_test e es h) ∙ a.0 in
          rw q (ap (λ l. e.1 ∷ l) (none_found es (keyed_tail e es h) a.1))

      none_changed : (f : X → X) (es : List (K × X)) → IsKeyed key es → AllByRecursion (λ k. t k ≡ false) (keys_of es) → values_of es ≡ map (λ x. if p x then f x else x) (values_of es)
      none_changed f [] h a = refl
      none_changed f (e ∷ es) h a =
          let q : p e.1 ≡ false = sym (same_test e es h) ∙ a.0 in
          rw q (ap (λ l. e.1 ∷ l) (none_changed f es (keyed_tail e es h) a.1))

      module _ (E : K → K → Bool) (apart : (x y : K) → t x ≡ true → E x y ≡ false → t y ≡ false) where
        rest_apart : (x : K) (ks : List K) → t x ≡ true → AllByRecursion (λ y. E x y ≡ false) ks → AllByRecursion (λ k. t k ≡ false) ks
        rest_apart x [] q a = a
        rest_apart x (k ∷ ks) q a = (apart x k q a.0, rest_apart x ks q a.1)

        -- a removal by the key leaves out the values that pass
        pub remove_is_filter : (es : List (K × X)) → IsKeyed key es → IsDistinct E (keys_of es) → values_of (remove_entry t es) ≡ filter (λ x. not (p x)) (values_of es)
        unfolding IsDistinct
        remove_is_filter [] h d = refl
        remove_is_filter (e ∷ es) h d =
            ⊎_elim
            (λ q.
            let r : p e.1 ≡ true = sym (same_test e es h) ∙ q in
            rw (q, r) (sym (none_found es (keyed_tail e es h) (rest_apart e.0 (keys_of es) q d.0))))
            (λ q.
            let r : p e.1 ≡ false = sym (same_test e es h) ∙ q in
            rw (q, r) (ap (λ l. e.1 ∷ l) (remove_is_filter es (keyed_tail e es h) d.1)))
            (cases_Bool (t e.0))

        -- a write at the key is a change of the values that pass
        pub set_is_map : (f : X → X) (v w : X) (es : List (K × X)) → w ≡ f v → lookup t es ≡ Some v → IsKeyed key es → IsDistinct E (keys_of es) → values_of (set_value t es w) ≡ map (λ x. if p x then f x else x) (values_of es)
        unfolding IsDistinct
        set_is_map f v w [] s l h d = refl
        set_is_map f v w (e ∷ es) s l h d =
            ⊎_elim
            (λ q.
            let r : p e.1 ≡ true = sym (same_test e es h) ∙ q in
            let l' : Some e.1 ≡ Some v = rw q at l in
            let b : v ≡ e.1 = cc in
            let g : w ≡ f e.1 = s ∙ ap f b in
            rw (q, r) (ap (λ x. x ∷ values_of es) g ∙ ap (λ l. f e.1 ∷ l) (none_changed f es (keyed_tail e es h) (rest_apart e.0 (keys_of es) q d.0))))
            (λ q.
            let r : p e.1 ≡ false = sym (same_test e es h) ∙ q in
            let l' : lookup t es ≡ Some v = rw q at l in
            rw (q, r) (ap (λ l. e.1 ∷ l) (set_is_map f v w es s l' (keyed_tail e es h) d.1)))
            (cases_Bool (t e.0))

        -- if no key passes, nothing changes
        pub absent_is_map : (f : X → X) (es : List (K × X)) → lookup t es ≡ None → IsKeyed key es → values_of es ≡ map (λ x. if p x then f x else x) (values_of es)
        absent_is_map f [] l h = refl
        absent_is_map f (e ∷ es) l h =
            ⊎_elim
            (λ q. let l' : Some e.1 ≡ None = rw q at l in cc)
            (λ q.
            let r : p e.1 ≡ false = sym (same_test e es h) ∙ q in
            let l' : lookup t es ≡ None = rw q at l in
            rw r (ap (λ l. e.1 ∷ l) (absent_is_map f es l' (keyed_tail e es h))))
            (cases_Bool (t e.0))
