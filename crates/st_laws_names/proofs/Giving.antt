-- Asks can be given to events, if each event has an ask that is its own.
use Rattle.st_lemmas.proofs.Words
use Words.{◌≡◌, ◌⊎◌, ℕ, Bool, true, false, not, ◌==◌, List, [], ◌∷◌, ◌++◌, refl, sym, ap, subst, inl, inr, if◌then◌else◌, eqb-true, list_any, ClientId, Ask}
use Words.Safety.{Step}
use Words.Lists.{Has}
use Words.Tables.{and_both, and_true, has_append, some_passes}
use Words.Members.{has_last, has_left}
use Words.Truth.{clash}
use Rattle.st_lemmas.proofs.Once.{none_any}
use Rattle.st_promises.specs.CutAsks.{numbered_asks}
use Rattle.st_promises.specs.Given.{are_given, given_by, given_for, is_given}

module _ (did : Step → Bool) (fits : List Step → Step → ClientId → ℕ × Ask → Bool) (last : List (ClientId × ℕ) → Bool) (cs : List ClientId) (Owns : Step → ClientId → ℕ → Type 0) where
  -- an ask of its own for an event, which no earlier event has
  pub record Chosen (past : List Step) (y : Step) : Type 0 where
    pub c : ClientId
    pub among : Has c cs
    pub op : ℕ
    pub ask : Ask
    pub under : Has (op, ask) (numbered_asks past c)
    pub good : fits past y c (op, ask) ≡ true
    pub owns : Owns y c op
    pub new : (z : Step) → Has z past → did z ≡ true → Owns z c op → ⊥

  -- for each of these events, after those before it
  abbrev pub AllChosen : List Step → List Step → Type 0
  AllChosen past [] = Unit {0}
  AllChosen past (y ∷ ys) = (did y ≡ true → Chosen past y) × AllChosen (past ++ y ∷ []) ys

  -- the event of an ask
  pub record Event (past : List Step) (c : ClientId) (op : ℕ) : Type 0 where
    pub at : Step
    pub among : Has at past
    pub did_ : did at ≡ true
    pub owns : Owns at c op

  -- what was given: each ask to an event of its own, and to each event one
  pub record Giving (past : List Step) (given : List (ClientId × ℕ)) : Type 0 where
    pub each : (g : ClientId × ℕ) → Has g given → Event past g.0 g.1
    pub every : (z : Step) → Has z past → did z ≡ true → (g : ClientId × ℕ) × Has g given × Owns z g.0 g.1

  event_stays : (past : List Step) (y : Step) (c : ClientId) (op : ℕ) → Event past c op → Event (past ++ y ∷ []) c op
  event_stays past y c op e = record { at = e.at; among = has_left past (y ∷ []) e.at e.among; did_ = e.did_; owns = e.owns }

  -- an event of another kind
  passed : (past : List Step) (y : Step) (given : List (ClientId × ℕ)) → did y ≡ false → Giving past given → Giving (past ++ y ∷ []) given
  passed past y given f g = record { each = λ d i. event_stays past y d.0 d.1 (g.each d i); every = λ z i q. by z q (has_append past (y ∷ []) z i) }
    where
      by : (z : Step) → did z ≡ true → Has z past ⊎ Has z (y ∷ []) → (d : ClientId × ℕ) × Has d given × Owns z d.0 d.1
      by z q (inl i) = g.every z i q
      by z q (inr (inl e)) = clash (subst (λ (z : Step). did z ≡ true) e q) f
      by z q (inr (inr i)) = absurd i

  -- one that is given its ask
  taken : (past : List Step) (y : Step) (given : List (ClientId × ℕ)) → did y ≡ true → (k : Chosen past y) → Giving past given → Giving (past ++ y ∷ []) ((k.c, k.op) ∷ given)
  taken past y given q k g = record { each = each; every = λ z i q. by z q (has_append past (y ∷ []) z i) }
    where
      own : Event (past ++ y ∷ []) k.c k.op
      own = record { at = y; among = has_last past y; did_ = q; owns = k.owns }

      each : (d : ClientId × ℕ) → (d ≡ (k.c, k.op)) ⊎ Has d given → Event (past ++ y ∷ []) d.0 d.1
      each d (inl e) = subst (λ (d : ClientId × ℕ). Event (past ++ y ∷ []) d.0 d.1) (sym e) own
      each d (inr i) = event_stays past y d.0 d.1 (g.each d i)

      by : (z : Step) → did z ≡ true → Has z past ⊎ Has z (y ∷ []) → (d : ClientId × ℕ) × Has d ((k.c, k.op) ∷ given) × Owns z d.0 d.1
      by z q (inl i) = let w = g.every z i q in (w.0, inr w.1, w.2)
      by z q (inr (inl e)) = ((k.c, k.op), inl refl, subst (λ (z : Step). Owns z k.c k.op) (sym e) k.owns)
      by z q (inr (inr i)) = absurd i

  -- the ask of an event was not given
  unused : (past : List Step) (y : Step) (given : List (ClientId × ℕ)) (k : Chosen past y) → Giving past given → list_any (is_given k.c k.op) given ≡ false
  unused past y given k g = none_any (is_given k.c k.op) given (λ d i. by d i (is_given k.c k.op d) refl)
    where
      is : (d : ClientId × ℕ) → is_given k.c k.op d ≡ true → (d.0 ≡ k.c) × (d.1 ≡ k.op)
      is d q = let z = and_true (d.0.0 == k.c.0) (d.1 == k.op) q in (ap (λ n. record { 0 = n }) (eqb-true d.0.0 k.c.0 z.0), eqb-true d.1 k.op z.1)

      by : (d : ClientId × ℕ) → Has d given → (b : Bool) → is_given k.c k.op d ≡ b → is_given k.c k.op d ≡ false
      by d i false q = q
      by d i true q =
          let e = g.each d i in
          let z = is d q in
          absurd (k.new e.at e.among e.did_ (subst (λ n. Owns e.at k.c n) z.1 (subst (λ (c : ClientId). Owns e.at c d.1) z.0 e.owns)))

  -- All can be given, if what is said at the end holds of whatever was given so.
  pub all_given : (ys past : List Step) (given : List (ClientId × ℕ)) → ((given : List (ClientId × ℕ)) → Giving (past ++ ys) given → last given ≡ true) → AllChosen past ys → Giving past given → are_given did fits last cs past ys given ≡ true
  unfolding are_given
  all_given [] past given f a g = f given (subst (λ xs. Giving xs given) (sym (append_none past)) g)
    where
      append_none : (xs : List Step) → xs ++ [] ≡ xs
      append_none [] = refl
      append_none (x ∷ xs) = ap (λ ys. x ∷ ys) (append_none xs)
  all_given (y ∷ ys) past given f a g = go (did y) refl (λ d h. all_given ys (past ++ y ∷ []) d f2 a.1 h)
    where
      assoc : (xs zs : List Step) → (xs ++ y ∷ []) ++ zs ≡ xs ++ y ∷ zs
      assoc [] zs = refl
      assoc (x ∷ xs) zs = ap (λ ys. x ∷ ys) (assoc xs zs)

      f2 : (given : List (ClientId × ℕ)) → Giving ((past ++ y ∷ []) ++ ys) given → last given ≡ true
      f2 d h = f d (subst (λ xs. Giving xs d) (assoc past ys) h)

      one : did y ≡ true → (k : Chosen past y) → ((d : List (ClientId × ℕ)) → Giving (past ++ y ∷ []) d → are_given did fits last cs (past ++ y ∷ []) ys d ≡ true) → list_any (given_for fits past given (are_given did fits last cs (past ++ y ∷ []) ys) y) cs ≡ true
      one q k rest =
          some_passes (given_for fits past given (are_given did fits last cs (past ++ y ∷ []) ys) y) cs k.c k.among
          (some_passes (given_by fits past given (are_given did fits last cs (past ++ y ∷ []) ys) y k.c) (numbered_asks past k.c) (k.op, k.ask) k.under
          (and_both _ _ (ap not (unused past y given k g)) (and_both _ _ k.good (rest ((k.c, k.op) ∷ given) (taken past y given q k g)))))

      go : (b : Bool) → did y ≡ b → ((d : List (ClientId × ℕ)) → Giving (past ++ y ∷ []) d → are_given did fits last cs (past ++ y ∷ []) ys d ≡ true) →
          (if b then list_any (given_for fits past given (are_given did fits last cs (past ++ y ∷ []) ys) y) cs else are_given did fits last cs (past ++ y ∷ []) ys given) ≡ true
      go true q rest = one q (a.0 q) rest
      go false q rest = rest given (passed past y given q g)
