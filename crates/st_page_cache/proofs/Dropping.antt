-- Pages that are dropped one after another.
use Rattle.st_lemmas.proofs.Words
use Words.{◌≡◌, ℕ, ◌<◌, ◌≤◌, Bool, true, false, cond, List, [], ◌∷◌, length, refl, sym, ap, ◌∙◌, subst, inl, inr, ⊎_elim, arith, find, filter, not, option_map}
use Words.{Option, Some, None, ◌&&◌, ◌==◌, nat_le, cases_Bool, and_parts, and_from, eqb-true, eq-eqb, PageNo, CleanPage}
use Words.Lists.{Has}
use Words.Tables.{found_at, none_has}
use Words.ClientPages.{is_clean_of, is_clean_behind, without_clean}
use Words.Keys.{page_no}
use Rattle.st_page_cache.specs.KeyedPages.{clean_key}
use Rattle.st_page_cache.specs.declared.key.PageKey.{PageKey}

module _ {A : Type 0} where
  pub filter_at_most : (p : A → Bool) (xs : List A) → length (filter p xs) ≤ length xs
  filter_at_most p [] = omega arith
  filter_at_most p (x ∷ xs) =
      let r = filter_at_most p xs in
      ⊎_elim (λ q. rw q (omega arith)) (λ q. rw q (omega arith)) (cases_Bool (p x))

  one_goes : (e : A → Bool) (c : A) (xs : List A) → Has c xs → e c ≡ true → length (filter (λ x. not (e x)) xs) < length xs
  one_goes e c [] m t = elim m [ ]
  one_goes e c (x ∷ xs) (inl q) t =
      let s : e x ≡ true = ap e (sym q) ∙ t in
      let r = filter_at_most (λ x. not (e x)) xs in
      rw s (omega arith)
  one_goes e c (x ∷ xs) (inr m) t =
      let r = one_goes e c xs m t in
      ⊎_elim (λ q. rw q (omega arith)) (λ q. rw q (omega arith)) (cases_Bool (e x))

  dropped_already : (b e : A → Bool) (xs : List A) → ((x : A) → e x ≡ true → b x ≡ true) → filter (λ x. not (b x)) (filter (λ x. not (e x)) xs) ≡ filter (λ x. not (b x)) xs
  dropped_already b e [] h = refl
  dropped_already b e (x ∷ xs) h =
      ⊎_elim
      (λ q. let s : b x ≡ true = h x q in rw (q, s) (dropped_already b e xs h))
      (λ q. ap (λ v. filter (λ x. not (b x)) (cond (not v) (x ∷ filter (λ x. not (e x)) xs) (filter (λ x. not (e x)) xs))) q ∙ ap (λ l. cond (not (b x)) (x ∷ l) l) (dropped_already b e xs h))
      (cases_Bool (e x))

  pub all_stay : (b : A → Bool) (xs : List A) → ((x : A) → Has x xs → b x ≡ false) → filter (λ x. not (b x)) xs ≡ xs
  all_stay b [] h = refl
  all_stay b (x ∷ xs) h = let q = h x (inl refl) in rw q (ap (λ l. x ∷ l) (all_stay b xs (λ y m. h y (inr m))))

module _ (ino : ℕ) (page : PageNo) where
  behind_itself : (c : CleanPage) → is_clean_behind ino page c ≡ true → (x : CleanPage) → is_clean_of c.ino c.page x ≡ true → is_clean_behind ino page x ≡ true
  behind_itself c b x e =
      let p = and_parts (x.ino == c.ino) (x.page.0 == c.page.0) e in
      let i : x.ino ≡ c.ino = eqb-true x.ino c.ino p.0 in
      let q : x.page.0 ≡ c.page.0 = eqb-true x.page.0 c.page.0 p.1 in
      (λ j. (i j == ino) && nat_le page.0 (q j)) ∙ b

  is_itself : (c : CleanPage) → is_clean_of c.ino c.page c ≡ true
  is_itself c = and_from (c.ino == c.ino) (c.page.0 == c.page.0) (eq-eqb c.ino c.ino refl) (eq-eqb c.page.0 c.page.0 refl)

  pub drop_step : (xs : List CleanPage) (c : CleanPage) → find (is_clean_behind ino page) xs ≡ Some c → filter (λ x. not (is_clean_behind ino page x)) (without_clean c.ino c.page xs) ≡ filter (λ x. not (is_clean_behind ino page x)) xs
  drop_step xs c h = dropped_already (is_clean_behind ino page) (is_clean_of c.ino c.page) xs (behind_itself c (found_at (is_clean_behind ino page) xs c h).0)

  pub drop_fewer : (xs : List CleanPage) (c : CleanPage) → find (is_clean_behind ino page) xs ≡ Some c → length (without_clean c.ino c.page xs) < length xs
  drop_fewer xs c h = one_goes (is_clean_of c.ino c.page) c xs (found_at (is_clean_behind ino page) xs c h).1 (is_itself c)

  pub drop_none : (xs : List CleanPage) → find (is_clean_behind ino page) xs ≡ None → xs ≡ filter (λ x. not (is_clean_behind ino page x)) xs
  drop_none xs h = sym (all_stay (is_clean_behind ino page) xs (none_has (is_clean_behind ino page) xs h))

  -- the same, by the key of the page that is found
  step_by : (xs : List CleanPage) (k : PageKey) (o : Option CleanPage) → find (is_clean_behind ino page) xs ≡ o → Some k ≡ option_map clean_key o → filter (λ x. not (is_clean_behind ino page x)) (without_clean k.ino (page_no k.page) xs) ≡ filter (λ x. not (is_clean_behind ino page x)) xs
  step_by xs k None h e = cc
  step_by xs k (Some c) h e =
      let q : k ≡ clean_key c = cc in
      ap (λ z. filter (λ x. not (is_clean_behind ino page x)) (without_clean z.ino (page_no z.page) xs)) q ∙ drop_step xs c h

  pub key_step : (xs : List CleanPage) (k : PageKey) → Some k ≡ option_map clean_key (find (is_clean_behind ino page) xs) → filter (λ x. not (is_clean_behind ino page x)) (without_clean k.ino (page_no k.page) xs) ≡ filter (λ x. not (is_clean_behind ino page x)) xs
  key_step xs k e = step_by xs k (find (is_clean_behind ino page) xs) refl e

  fewer_by : (xs : List CleanPage) (k : PageKey) (o : Option CleanPage) → find (is_clean_behind ino page) xs ≡ o → Some k ≡ option_map clean_key o → length (without_clean k.ino (page_no k.page) xs) < length xs
  fewer_by xs k None h e = cc
  fewer_by xs k (Some c) h e =
      let q : k ≡ clean_key c = cc in
      let l = drop_fewer xs c h in
      subst (λ z. length (without_clean z.ino (page_no z.page) xs) < length xs) (sym q) l

  pub key_fewer : (xs : List CleanPage) (k : PageKey) → Some k ≡ option_map clean_key (find (is_clean_behind ino page) xs) → length (without_clean k.ino (page_no k.page) xs) < length xs
  key_fewer xs k e = fewer_by xs k (find (is_clean_behind ino page) xs) refl e

  none_by : (xs : List CleanPage) (o : Option CleanPage) → find (is_clean_behind ino page) xs ≡ o → None ≡ option_map clean_key o → xs ≡ filter (λ x. not (is_clean_behind ino page x)) xs
  none_by xs None h e = drop_none xs h
  none_by xs (Some c) h e = cc

  pub key_none : (xs : List CleanPage) → None ≡ option_map clean_key (find (is_clean_behind ino page) xs) → xs ≡ filter (λ x. not (is_clean_behind ino page x)) xs
  key_none xs e = none_by xs (find (is_clean_behind ino page) xs) refl e
