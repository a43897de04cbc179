-- A reader that reads exactly what is spelled, and how readers are put together.
use Rattle.std.proofs.Common.{◌≡◌, ℕ, suc, ◌+◌, ◌^◌, ◌<◌, ◌≤◌, Bool, true, false, cond, ltb, List, [], ◌∷◌, ◌++◌, length, get_or, take, drop, Option, Some, None, refl, sym, ap, subst, ◌∙◌, append_assoc, arith, inl, inr}
use Rattle.std.specs.Prelude.{◌&&◌, ◌==◌, nat_lt}
use Rattle.std.specs.Int.{Width, w16, w32, byte_len, from_be_bytes, to_be_bytes}
use Rattle.std.proofs.lemmas.Bool.{cases_lt, cases_Bool, ltb-false, le-ltb, lt-ltb, ltb-true, eqb-true, eq-eqb, and_parts, and_from}
use Rattle.std.proofs.lemmas.List.{take_at, drop_at, take-append-drop, length-append, length-take, get_or-drop, get_or-take, get_or_past}
use Rattle.std.proofs.lemmas.Nat.{be_bytes_2, be_bytes_4, from_be_bytes-to_be_bytes_2, from_be_bytes-to_be_bytes_4}
use Rattle.st_journal.specs.Decoder.{Reader, ◌>>=◌, seq, made, checked, nothing, no_value, byte_at, text_at, number_at}

abbrev pub IsBytes : List ℕ → Type 0
IsBytes bytes = (i : ℕ) → get_or bytes i 0 < 256

pub IsBytes-drop : (n : ℕ) (bytes : List ℕ) → IsBytes bytes → IsBytes (drop n bytes)
IsBytes-drop n bytes h i = rw get_or-drop (h (n + i))

pub IsBytes-take : (n : ℕ) (bytes : List ℕ) → IsBytes bytes → IsBytes (take n bytes)
IsBytes-take n bytes h i =
    elim (cases_lt i n) [
      | inl lt ↦ rw (get_or-take n bytes i 0 lt) (h i)
      | inr le ↦ rw (get_or_past (take n bytes) i 0 (omega (arith, length-take n bytes))) (omega arith)
    ]

IsBytes-rest : (b : ℕ) (bytes : List ℕ) → IsBytes (b ∷ bytes) → IsBytes bytes
IsBytes-rest b bytes h i = h (suc i)

-- the value of a step that found one
pub bind_some : {A B : Type 0} (r : Option A) (f : A → Option B) (y : B) → (r >>= f) ≡ Some y → (x : A) × (r ≡ Some x) × (f x ≡ Some y)
bind_some (Some x) f y e = (x, refl, e)
bind_some None f y e = absurd cc

-- a test that held
pub guard_some : {A : Type 0} (b : Bool) (x y : A) → cond b (Some x) None ≡ Some y → (b ≡ true) × (x ≡ y)
guard_some true x y e = (refl, cc)
guard_some false x y e = absurd cc

-- a test that failed
pub guard_not : {A : Type 0} (b : Bool) (x y : A) → cond b None (Some x) ≡ Some y → (b ≡ false) × (x ≡ y)
guard_not true x y e = absurd cc
guard_not false x y e = (refl, cc)

pub some_is : {A : Type 0} (x y : A) → Some x ≡ Some y → x ≡ y
some_is x y e = cc

abbrev none_of : {A : Type 0} → A → Option A
none_of x = None

pub not_none : {A : Type 0} (P : Type 0) (x : A) → none_of x ≡ Some x → P
not_none P x e = absurd cc

-- what a reader took from the front
pub record Takes (bytes text rest : List ℕ) : Type 0 where
  pub parts : bytes ≡ text ++ rest
  pub rest_fits : IsBytes rest

pub Takes-then : (a x b y c : List ℕ) → Takes a x b → Takes b y c → Takes a (x ++ y) c
Takes-then a x b y c p q = record { parts = p.parts ∙ ap (λ (t : List ℕ). x ++ t) q.parts ∙ sym (append_assoc x y c); rest_fits = q.rest_fits }

-- what is read is spelled so, and has P
pub record Sound {A : Type 0} (r : Reader A) (s : A → List ℕ) (P : A → Type 0) : Type 0 where
  pub takes : (bytes : List ℕ) (x : A × List ℕ) → IsBytes bytes → r bytes ≡ Some x → Takes bytes (s x.0) x.1 × P x.0

-- moreover, what fits and is spelled so is read
pub record Exact {A : Type 0} (r : Reader A) (s : A → List ℕ) (F : A → Bool) : Type 0 where
  pub sound : Sound r s (λ a. F a ≡ true)
  pub again : (a : A) (rest : List ℕ) → F a ≡ true → r (s a ++ rest) ≡ Some (a, rest)

-- the same, in other words
pub respelled : {A : Type 0} (r : Reader A) (s t : A → List ℕ) (F G : A → Bool) → Exact r s F → ((a : A) → t a ≡ s a) → ((a : A) → G a ≡ F a) → Exact r t G
respelled {A} r s t F G h e f = record {
  sound = record { takes = λ bytes x fits ok. let k = h.sound.takes bytes x fits ok in (record { parts = rw (e x.0) k.0.parts; rest_fits = k.0.rest_fits }, f x.0 ∙ k.1) };
  again = λ a rest g. ap (λ (text : List ℕ). r (text ++ rest)) (e a) ∙ h.again a rest (sym (f a) ∙ g);
}

pub pair_exact : {A B : Type 0} (r₁ : Reader A) (r₂ : A → Reader B) (s₁ : A → List ℕ) (s₂ : B → List ℕ) (F₁ : A → Bool) (F₂ : A → B → Bool) → Exact r₁ s₁ F₁ → ((a : A) → Exact (r₂ a) s₂ (F₂ a))
    → Exact (seq r₁ r₂) (λ p. s₁ p.0 ++ s₂ p.1) (λ p. F₁ p.0 && F₂ p.0 p.1)
pair_exact {A} {B} r₁ r₂ s₁ s₂ F₁ F₂ h₁ h₂ = record {
  sound = record {
    takes = λ bytes x fits e.
        let a = bind_some (r₁ bytes) (λ a. r₂ a.0 a.1 >>= λ b. Some ((a.0, b.0), b.1)) x e in
        let b = bind_some (r₂ a.0.0 a.0.1) (λ b. Some ((a.0.0, b.0), b.1)) x a.2 in
        let t₁ = h₁.sound.takes bytes a.0 fits a.1 in
        let t₂ = (h₂ a.0.0).sound.takes a.0.1 b.0 t₁.0.rest_fits b.1 in
        let both = Takes-then bytes (s₁ a.0.0) a.0.1 (s₂ b.0.0) b.0.1 t₁.0 t₂.0 in
        let made : (A × B) × List ℕ = ((a.0.0, b.0.0), b.0.1) in
        subst (λ (y : (A × B) × List ℕ). Takes bytes (s₁ y.0.0 ++ s₂ y.0.1) y.1 × ((F₁ y.0.0 && F₂ y.0.0 y.0.1) ≡ true)) (some_is made x b.2) (both, and_from (F₁ a.0.0) (F₂ a.0.0 b.0.0) t₁.1 t₂.1);
  };
  again = λ p rest e.
      let parts = and_parts (F₁ p.0) (F₂ p.0 p.1) e in
      ap (seq r₁ r₂) (append_assoc (s₁ p.0) (s₂ p.1) rest) ∙ rw (h₁.again p.0 (s₂ p.1 ++ rest) parts.0, (h₂ p.0).again p.1 rest parts.1) refl;
}

pub made_sound : {A B : Type 0} (r : Reader A) (s : A → List ℕ) (F : A → Bool) (f : A → B) (S : B → List ℕ) (P : B → Type 0) → Exact r s F
    → ((a : A) → F a ≡ true → S (f a) ≡ s a) → ((a : A) → F a ≡ true → P (f a)) → Sound (made f r) S P
made_sound {A} {B} r s F f S P h e p = record {
  takes = λ bytes x fits ok.
      let a = bind_some (r bytes) (λ a. Some (f a.0, a.1)) x ok in
      let t = h.sound.takes bytes a.0 fits a.1 in
      let got : B × List ℕ = (f a.0.0, a.0.1) in
      subst (λ (y : B × List ℕ). Takes bytes (S y.0) y.1 × P y.0) (some_is got x a.2) (record { parts = rw (e a.0.0 t.1) t.0.parts; rest_fits = t.0.rest_fits }, p a.0.0 t.1);
}

pub made_again : {A B : Type 0} (r : Reader A) (s : A → List ℕ) (F : A → Bool) (f : A → B) → Exact r s F → (a : A) (rest : List ℕ) → F a ≡ true → made f r (s a ++ rest) ≡ Some (f a, rest)
made_again r s F f h a rest e = rw (h.again a rest e) refl

-- fields under another name
pub renamed : {A B : Type 0} (r : Reader A) (s : A → List ℕ) (F : A → Bool) (f : A → B) (g : B → A) (S : B → List ℕ) (G : B → Bool) → Exact r s F
    → ((a : A) → F a ≡ true → (S (f a) ≡ s a) × (G (f a) ≡ true)) → ((b : B) → G b ≡ true → (f (g b) ≡ b) × (S b ≡ s (g b)) × (F (g b) ≡ true)) → Exact (made f r) S G
renamed {A} {B} r s F f g S G h there back = record {
  sound = made_sound r s F f S (λ b. G b ≡ true) h (λ a e. (there a e).0) (λ a e. (there a e).1);
  again = λ b rest e. let k = back b e in rw (k.1, h.again (g b) rest k.2) (ap (λ (x : B). Some (x, rest)) k.0);
}

pub checked_exact : {A : Type 0} (r : Reader A) (s : A → List ℕ) (F test : A → Bool) → Exact r s F → ((a : A) → test a ≡ true → F a ≡ true) → Exact (checked test r) s test
checked_exact {A} r s F test h within = record {
  sound = record {
    takes = λ bytes x fits ok.
        let a = bind_some (r bytes) (λ a. cond (test a.0) (Some a) None) x ok in
        let g = guard_some (test a.0.0) a.0 x a.2 in
        let t = h.sound.takes bytes a.0 fits a.1 in
        subst (λ (y : A × List ℕ). Takes bytes (s y.0) y.1 × (test y.0 ≡ true)) g.1 (t.0, g.0);
  };
  again = λ a rest e. rw (h.again a rest (within a e), e) refl;
}

-- ---- bytes and numbers

pub byte_exact : Exact byte_at (λ n. n ∷ []) (λ n. true)
byte_exact = record { sound = record { takes = byte_takes }; again = λ n rest e. refl }
  where
    byte_takes : (bytes : List ℕ) (x : ℕ × List ℕ) → IsBytes bytes → byte_at bytes ≡ Some x → Takes bytes (x.0 ∷ []) x.1 × (true ≡ true)
    byte_takes [] x fits e = not_none (Takes [] (x.0 ∷ []) x.1 × (true ≡ true)) x e
    byte_takes (b ∷ bytes) x fits e =
        let got : ℕ × List ℕ = (b, bytes) in
        subst (λ (y : ℕ × List ℕ). Takes (b ∷ bytes) (y.0 ∷ []) y.1 × (true ≡ true)) (some_is got x e) (record { parts = refl; rest_fits = IsBytes-rest b bytes fits }, refl)

pub record IsWide (w : Width) (limit : ℕ) : Type 0 where
  pub len : (n : ℕ) → length (to_be_bytes w n) ≡ byte_len w
  pub back : (bytes : List ℕ) → length bytes ≡ byte_len w → IsBytes bytes → to_be_bytes w (from_be_bytes w bytes) ≡ bytes
  pub again : (n : ℕ) → n < limit → from_be_bytes w (to_be_bytes w n) ≡ n
  pub below : (bytes : List ℕ) → IsBytes bytes → from_be_bytes w bytes < limit

pub wide16 : IsWide w16 (2 ^ 16)
wide16 = record {
  len = λ n. refl;
  back = λ bytes len fits. be_bytes_2 bytes _ len fits refl;
  again = λ n lt. from_be_bytes-to_be_bytes_2 n lt;
  below = λ bytes fits. omega (arith, fits 0, fits 1);
}

pub wide32 : IsWide w32 (2 ^ 32)
wide32 = record {
  len = λ n. refl;
  back = λ bytes len fits. be_bytes_4 bytes _ len fits refl;
  again = λ n lt. from_be_bytes-to_be_bytes_4 n lt;
  below = λ bytes fits. omega (arith, fits 0, fits 1, fits 2, fits 3);
}

pub number_exact : (w : Width) (limit : ℕ) → IsWide w limit → Exact (number_at w) (λ n. to_be_bytes w n) (λ n. nat_lt n limit)
number_exact w limit wide = record {
  sound = record {
    takes = λ bytes x fits e.
        let g = guard_not (ltb (length bytes) (byte_len w)) (from_be_bytes w (take (byte_len w) bytes), drop (byte_len w) bytes) x e in
        let long : byte_len w ≤ length bytes = ltb-false _ _ g.0 in
        let front : to_be_bytes w (from_be_bytes w (take (byte_len w) bytes)) ≡ take (byte_len w) bytes = wide.back (take (byte_len w) bytes) (omega (arith, length-take (byte_len w) bytes)) (IsBytes-take (byte_len w) bytes fits) in
        subst (λ (y : ℕ × List ℕ). Takes bytes (to_be_bytes w y.0) y.1 × (nat_lt y.0 limit ≡ true)) g.1
        (record { parts = rw front (sym (take-append-drop (byte_len w) bytes)); rest_fits = IsBytes-drop (byte_len w) bytes fits }, lt-ltb _ limit (wide.below (take (byte_len w) bytes) (IsBytes-take (byte_len w) bytes fits)));
  };
  again = λ n rest e.
      let len = wide.len n in
      let lt : n < limit = ltb-true n limit e in
      let long : ltb (length (to_be_bytes w n ++ rest)) (byte_len w) ≡ false = le-ltb _ _ (omega (arith, length-append (to_be_bytes w n) rest)) in
      rw (long, take_at (to_be_bytes w n) rest (byte_len w) len, drop_at (to_be_bytes w n) rest (byte_len w) len, wide.again n lt) refl;
}

pub text_exact : (n : ℕ) → Exact (text_at n) (λ t. t) (λ t. length t == n)
text_exact n = record {
  sound = record {
    takes = λ bytes x fits e.
        let g = guard_not (ltb (length bytes) n) (take n bytes, drop n bytes) x e in
        let long : n ≤ length bytes = ltb-false _ _ g.0 in
        subst (λ (y : List ℕ × List ℕ). Takes bytes y.0 y.1 × ((length y.0 == n) ≡ true)) g.1
        (record { parts = sym (take-append-drop n bytes); rest_fits = IsBytes-drop n bytes fits }, eq-eqb _ n (omega (arith, length-take n bytes)));
  };
  again = λ t rest e.
      let len : length t ≡ n = eqb-true (length t) n e in
      let long : ltb (length (t ++ rest)) n ≡ false = le-ltb _ _ (omega (arith, length-append t rest)) in
      rw (long, take_at t rest n len, drop_at t rest n len) refl;
}

-- ---- a byte that says what comes

-- what is read after the byte k is spelled so, with that byte in front
pub record After {A : Type 0} (k : ℕ) (r : Reader A) (S : A → List ℕ) (P : A → Type 0) : Type 0 where
  pub takes : (bytes : List ℕ) (x : A × List ℕ) → IsBytes bytes → r bytes ≡ Some x → (k ∷ bytes ≡ S x.0 ++ x.1) × IsBytes x.1 × P x.0

pub made_after : {A B : Type 0} (k : ℕ) (r : Reader A) (s : A → List ℕ) (F : A → Bool) (f : A → B) (S : B → List ℕ) (P : B → Type 0) → Exact r s F
    → ((a : A) → S (f a) ≡ k ∷ s a) → ((a : A) → F a ≡ true → P (f a)) → After k (made f r) S P
made_after {A} {B} k r s F f S P h e p = record {
  takes = λ bytes x fits ok.
      let a = bind_some (r bytes) (λ a. Some (f a.0, a.1)) x ok in
      let t = h.sound.takes bytes a.0 fits a.1 in
      let got : B × List ℕ = (f a.0.0, a.0.1) in
      subst (λ (y : B × List ℕ). (k ∷ bytes ≡ S y.0 ++ y.1) × IsBytes y.1 × P y.0) (some_is got x a.2) (rw (e a.0.0) (ap (λ (w : List ℕ). k ∷ w) t.0.parts), t.0.rest_fits, p a.0.0 t.1);
}

pub nothing_after : {A : Type 0} (k : ℕ) (a : A) (S : A → List ℕ) (P : A → Type 0) → S a ≡ k ∷ [] → P a → After k (nothing a) S P
nothing_after {A} k a S P e p = record {
  takes = λ bytes x fits ok.
      let got : A × List ℕ = (a, bytes) in
      subst (λ (y : A × List ℕ). (k ∷ bytes ≡ S y.0 ++ y.1) × IsBytes y.1 × P y.0) (some_is got x ok) (rw e refl, fits, p);
}

pub none_after : {A : Type 0} (k : ℕ) (S : A → List ℕ) (P : A → Type 0) → After k no_value S P
none_after k S P = record { takes = λ bytes x fits e. not_none ((k ∷ bytes ≡ S x.0 ++ x.1) × IsBytes x.1 × P x.0) x e }

pub choice_after : {A : Type 0} (n k : ℕ) (r others : Reader A) (S : A → List ℕ) (P : A → Type 0) → After k r S P → After n others S P → After n (λ bytes. cond (n == k) (r bytes) (others bytes)) S P
choice_after {A} n k r others S P h j =
    elim (cases_Bool (n == k)) [
      | inl e ↦ let same : n ≡ k = eqb-true n k e in
          record { takes = λ bytes x fits ok. subst (λ (m : ℕ). (m ∷ bytes ≡ S x.0 ++ x.1) × IsBytes x.1 × P x.0) (sym same) (h.takes bytes x fits (rw e at ok)) }
      | inr e ↦ record { takes = λ bytes x fits ok. j.takes bytes x fits (rw e at ok) }
    ]
