-- A reader that reads exactly what is spelled, and how readers are put together.
use Rattle.std.proofs.Common.{◌≡◌, ℕ, zero, suc, ◌+◌, ◌^◌, ◌<◌, ◌≤◌, Bool, true, false, cond, ltb, List, [], ◌∷◌, ◌++◌, length, get_or, take, drop, Result, Ok, Err, refl, sym, ap, subst, ◌∙◌, append_assoc, arith, inl, inr}
use Rattle.std.specs.Prelude.{◌&&◌, ◌==◌, nat_lt}
use Rattle.std.specs.List.{flat_map}
use Rattle.std.specs.Int.{Width, w16, w32, w64, byte_len, from_be_bytes, to_be_bytes}
use Rattle.std.proofs.lemmas.Bool.{cases_lt, cases_Bool, ltb-false, le-ltb, lt-ltb, ltb-true, eqb-true, eq-eqb, and_parts, and_from}
use Rattle.std.proofs.lemmas.List.{take_at, drop_at, take-append-drop, length-append, length-take, get_or-drop, get_or-take, get_or_past}
use Rattle.std.proofs.lemmas.List.Concat.{flat_map-cons}
use Rattle.std.proofs.lemmas.Nat.{be_bytes_2, be_bytes_4, be_bytes_8, from_be_bytes-to_be_bytes_2, from_be_bytes-to_be_bytes_4, from_be_bytes-to_be_bytes_8}
use Rattle.st_codec_fields.specs.declared.fault.Fault.{Fault}
use Rattle.st_codec_fields.specs.declared.fault.Fault.TheVariants as faults
use Rattle.st_messages.specs.Ranges.{are_rows}
use Rattle.st_codec_fields.specs.Decoder.{Reader, ◌>>=◌, seq, made, checked, nothing, byte_at, text_at, number_at, rows_at, chosen}

abbrev pub IsBytes : List ℕ → Type 0
IsBytes bytes = (i : ℕ) → get_or bytes i 0 < 256

IsBytes-drop : (n : ℕ) (bytes : List ℕ) → IsBytes bytes → IsBytes (drop n bytes)
IsBytes-drop n bytes h i = rw get_or-drop (h (n + i))

IsBytes-take : (n : ℕ) (bytes : List ℕ) → IsBytes bytes → IsBytes (take n bytes)
IsBytes-take n bytes h i =
    elim (cases_lt i n) [
      | inl lt ↦ rw (get_or-take n bytes i 0 lt) (h i)
      | inr le ↦ rw (get_or_past (take n bytes) i 0 (omega (arith, length-take n bytes))) (omega arith)
    ]

IsBytes-rest : (b : ℕ) (bytes : List ℕ) → IsBytes (b ∷ bytes) → IsBytes bytes
IsBytes-rest b bytes h i = h (suc i)

-- the value of a step that did not fail
pub bind_ok : {A B : Type 0} (r : Result A Fault) (f : A → Result B Fault) (y : B) → (r >>= f) ≡ Ok y → (x : A) × (r ≡ Ok x) × (f x ≡ Ok y)
bind_ok (Ok x) f y e = (x, refl, e)
bind_ok (Err d) f y e = absurd cc

-- a test that held
pub guard_ok : {A : Type 0} (b : Bool) (d : Fault) (x y : A) → cond b (Ok x) (Err d) ≡ Ok y → (b ≡ true) × (x ≡ y)
guard_ok true d x y e = (refl, cc)
guard_ok false d x y e = absurd cc

-- a test that did not fail
pub guard_not : {A : Type 0} (b : Bool) (d : Fault) (x y : A) → cond b (Err d) (Ok x) ≡ Ok y → (b ≡ false) × (x ≡ y)
guard_not true d x y e = absurd cc
guard_not false d x y e = (refl, cc)

abbrev done : {A : Type 0} → A → Result A Fault
done x = Ok x

pub ok_is : {A : Type 0} (x y : A) → done x ≡ done y → x ≡ y
ok_is x y e = cc

pub failed : {A : Type 0} (P : Type 0) (d : Fault) (x : A) → Err d ≡ done x → P
failed P d x e = absurd cc

-- what a reader took from the front
pub record Takes (bytes text rest : List ℕ) : Type 0 where
  pub parts : bytes ≡ text ++ rest
  pub rest_fits : IsBytes rest

pub Takes-then : (a x b y c : List ℕ) → Takes a x b → Takes b y c → Takes a (x ++ y) c
Takes-then a x b y c p q = record { parts = p.parts ∙ ap (λ (t : List ℕ). x ++ t) q.parts ∙ sym (append_assoc x y c); rest_fits = q.rest_fits }

-- what is read is spelled so, and has P
pub record Sound {A : Type 0} (r : Reader A) (s : A → List ℕ) (P : A → Type 0) : Type 0 where
  pub takes : (bytes : List ℕ) (x : A × List ℕ) → IsBytes bytes → r bytes ≡ Ok x → Takes bytes (s x.0) x.1 × P x.0

-- moreover, what fits and is spelled so is read
pub record Exact {A : Type 0} (r : Reader A) (s : A → List ℕ) (F : A → Bool) : Type 0 where
  pub sound : Sound r s (λ a. F a ≡ true)
  pub again : (a : A) (rest : List ℕ) → F a ≡ true → r (s a ++ rest) ≡ Ok (a, rest)

-- the same, in other words
pub respelled : {A : Type 0} (r : Reader A) (s t : A → List ℕ) (F G : A → Bool) → Exact r s F → ((a : A) → t a ≡ s a) → ((a : A) → G a ≡ F a) → Exact r t G
respelled {A} r s t F G h e f = record {
  sound = record { takes = λ bytes x fits ok. let k = h.sound.takes bytes x fits ok in (record { parts = rw (e x.0) k.0.parts; rest_fits = k.0.rest_fits }, f x.0 ∙ k.1) };
  again = λ a rest g. ap (λ (text : List ℕ). r (text ++ rest)) (e a) ∙ h.again a rest (sym (f a) ∙ g);
}

pub pair_exact : {A B : Type 0} (r₁ : Reader A) (r₂ : A → Reader B) (s₁ : A → List ℕ) (s₂ : B → List ℕ) (F₁ : A → Bool) (F₂ : A → B → Bool) → Exact r₁ s₁ F₁ → ((a : A) → Exact (r₂ a) s₂ (F₂ a))
    → Exact (seq r₁ r₂) (λ p. s₁ p.0 ++ s₂ p.1) (λ p. F₁ p.0 && F₂ p.0 p.1)
pair_exact {A} {B} r₁ r₂ s₁ s₂ F₁ F₂ h₁ h₂ = record {
  sound = record {
    takes = λ bytes x fits e.
        let a = bind_ok (r₁ bytes) (λ a. r₂ a.0 a.1 >>= λ b. Ok ((a.0, b.0), b.1)) x e in
        let b = bind_ok (r₂ a.0.0 a.0.1) (λ b. Ok ((a.0.0, b.0), b.1)) x a.2 in
        let t₁ = h₁.sound.takes bytes a.0 fits a.1 in
        let t₂ = (h₂ a.0.0).sound.takes a.0.1 b.0 t₁.0.rest_fits b.1 in
        let both = Takes-then bytes (s₁ a.0.0) a.0.1 (s₂ b.0.0) b.0.1 t₁.0 t₂.0 in
        let made : (A × B) × List ℕ = ((a.0.0, b.0.0), b.0.1) in
        subst (λ (y : (A × B) × List ℕ). Takes bytes (s₁ y.0.0 ++ s₂ y.0.1) y.1 × ((F₁ y.0.0 && F₂ y.0.0 y.0.1) ≡ true)) (ok_is made x b.2) (both, and_from (F₁ a.0.0) (F₂ a.0.0 b.0.0) t₁.1 t₂.1);
  };
  again = λ p rest e.
      let parts = and_parts (F₁ p.0) (F₂ p.0 p.1) e in
      ap (seq r₁ r₂) (append_assoc (s₁ p.0) (s₂ p.1) rest) ∙ rw (h₁.again p.0 (s₂ p.1 ++ rest) parts.0, (h₂ p.0).again p.1 rest parts.1) refl;
}

pub triple_exact : {A B C : Type 0} (r₁ : Reader A) (r₂ : Reader B) (r₃ : B → Reader C) (s₁ : A → List ℕ) (s₂ : B → List ℕ) (s₃ : C → List ℕ) (F₁ : A → Bool) (F₂ : B → Bool) (F₃ : B → C → Bool)
    → Exact r₁ s₁ F₁ → Exact r₂ s₂ F₂ → ((b : B) → Exact (r₃ b) s₃ (F₃ b))
    → Exact (seq r₁ (λ a. seq r₂ r₃)) (λ p. s₁ p.0 ++ s₂ p.1.0 ++ s₃ p.1.1) (λ p. F₁ p.0 && (F₂ p.1.0 && F₃ p.1.0 p.1.1))
triple_exact {A} {B} {C} r₁ r₂ r₃ s₁ s₂ s₃ F₁ F₂ F₃ h₁ h₂ h₃ =
    let later = pair_exact r₂ r₃ s₂ s₃ F₂ F₃ h₂ h₃ in
    let whole = pair_exact r₁ (λ a. seq r₂ r₃) s₁ (λ q. s₂ q.0 ++ s₃ q.1) F₁ (λ a q. F₂ q.0 && F₃ q.0 q.1) h₁ (λ a. later) in
    respelled (seq r₁ (λ a. seq r₂ r₃)) (λ p. s₁ p.0 ++ (s₂ p.1.0 ++ s₃ p.1.1)) (λ p. s₁ p.0 ++ s₂ p.1.0 ++ s₃ p.1.1) (λ p. F₁ p.0 && (F₂ p.1.0 && F₃ p.1.0 p.1.1)) (λ p. F₁ p.0 && (F₂ p.1.0 && F₃ p.1.0 p.1.1)) whole (λ p. append_assoc (s₁ p.0) (s₂ p.1.0) (s₃ p.1.1)) (λ p. refl)

pub quad_exact : {A B C D : Type 0} (r₁ : Reader A) (r₂ : Reader B) (r₃ : Reader C) (r₄ : C → Reader D) (s₁ : A → List ℕ) (s₂ : B → List ℕ) (s₃ : C → List ℕ) (s₄ : D → List ℕ) (F₁ : A → Bool) (F₂ : B → Bool) (F₃ : C → Bool) (F₄ : C → D → Bool)
    → Exact r₁ s₁ F₁ → Exact r₂ s₂ F₂ → Exact r₃ s₃ F₃ → ((c : C) → Exact (r₄ c) s₄ (F₄ c))
    → Exact (seq r₁ (λ a. seq r₂ (λ b. seq r₃ r₄))) (λ p. s₁ p.0 ++ s₂ p.1.0 ++ s₃ p.1.1.0 ++ s₄ p.1.1.1) (λ p. F₁ p.0 && (F₂ p.1.0 && (F₃ p.1.1.0 && F₄ p.1.1.0 p.1.1.1)))
quad_exact {A} {B} {C} {D} r₁ r₂ r₃ r₄ s₁ s₂ s₃ s₄ F₁ F₂ F₃ F₄ h₁ h₂ h₃ h₄ =
    let later = pair_exact r₃ r₄ s₃ s₄ F₃ F₄ h₃ h₄ in
    let whole = triple_exact r₁ r₂ (λ b. seq r₃ r₄) s₁ s₂ (λ q. s₃ q.0 ++ s₄ q.1) F₁ F₂ (λ b q. F₃ q.0 && F₄ q.0 q.1) h₁ h₂ (λ b. later) in
    respelled (seq r₁ (λ a. seq r₂ (λ b. seq r₃ r₄))) (λ p. s₁ p.0 ++ s₂ p.1.0 ++ (s₃ p.1.1.0 ++ s₄ p.1.1.1)) (λ p. s₁ p.0 ++ s₂ p.1.0 ++ s₃ p.1.1.0 ++ s₄ p.1.1.1)
    (λ p. F₁ p.0 && (F₂ p.1.0 && (F₃ p.1.1.0 && F₄ p.1.1.0 p.1.1.1))) (λ p. F₁ p.0 && (F₂ p.1.0 && (F₃ p.1.1.0 && F₄ p.1.1.0 p.1.1.1))) whole (λ p. append_assoc (s₁ p.0 ++ s₂ p.1.0) (s₃ p.1.1.0) (s₄ p.1.1.1)) (λ p. refl)

pub made_sound : {A B : Type 0} (r : Reader A) (s : A → List ℕ) (F : A → Bool) (f : A → B) (S : B → List ℕ) (P : B → Type 0) → Exact r s F
    → ((a : A) → F a ≡ true → S (f a) ≡ s a) → ((a : A) → F a ≡ true → P (f a)) → Sound (made f r) S P
made_sound {A} {B} r s F f S P h e p = record {
  takes = λ bytes x fits ok.
      let a = bind_ok (r bytes) (λ a. Ok (f a.0, a.1)) x ok in
      let t = h.sound.takes bytes a.0 fits a.1 in
      let got : B × List ℕ = (f a.0.0, a.0.1) in
      subst (λ (y : B × List ℕ). Takes bytes (S y.0) y.1 × P y.0) (ok_is got x a.2) (record { parts = rw (e a.0.0 t.1) t.0.parts; rest_fits = t.0.rest_fits }, p a.0.0 t.1);
}

pub made_again : {A B : Type 0} (r : Reader A) (s : A → List ℕ) (F : A → Bool) (f : A → B) → Exact r s F → (a : A) (rest : List ℕ) → F a ≡ true → made f r (s a ++ rest) ≡ Ok (f a, rest)
made_again r s F f h a rest e = rw (h.again a rest e) refl

-- fields under another name
pub renamed : {A B : Type 0} (r : Reader A) (s : A → List ℕ) (F : A → Bool) (f : A → B) (g : B → A) (S : B → List ℕ) (G : B → Bool) → Exact r s F
    → ((a : A) → F a ≡ true → (S (f a) ≡ s a) × (G (f a) ≡ true)) → ((b : B) → G b ≡ true → (f (g b) ≡ b) × (S b ≡ s (g b)) × (F (g b) ≡ true)) → Exact (made f r) S G
renamed {A} {B} r s F f g S G h there back = record {
  sound = made_sound r s F f S (λ b. G b ≡ true) h (λ a e. (there a e).0) (λ a e. (there a e).1);
  again = λ b rest e. let k = back b e in rw (k.1, h.again (g b) rest k.2) (ap (λ (x : B). Ok (x, rest)) k.0);
}

pub checked_exact : {A : Type 0} (r : Reader A) (s : A → List ℕ) (F test : A → Bool) → Exact r s F → ((a : A) → test a ≡ true → F a ≡ true) → Exact (checked test r) s test
checked_exact {A} r s F test h within = record {
  sound = record {
    takes = λ bytes x fits ok.
        let a = bind_ok (r bytes) (λ a. cond (test a.0) (Ok a) (Err (faults.Value (length bytes)))) x ok in
        let g = guard_ok (test a.0.0) (faults.Value (length bytes)) a.0 x a.2 in
        let t = h.sound.takes bytes a.0 fits a.1 in
        subst (λ (y : A × List ℕ). Takes bytes (s y.0) y.1 × (test y.0 ≡ true)) g.1 (t.0, g.0);
  };
  again = λ a rest e. rw (h.again a rest (within a e), e) refl;
}

pub nothing_sound : {A : Type 0} (a : A) (S : A → List ℕ) (P : A → Type 0) → S a ≡ [] → P a → Sound (nothing a) S P
nothing_sound {A} a S P e p = record {
  takes = λ bytes x fits ok.
      let got : A × List ℕ = (a, bytes) in
      subst (λ (y : A × List ℕ). Takes bytes (S y.0) y.1 × P y.0) (ok_is got x ok) (record { parts = rw e refl; rest_fits = fits }, p);
}

-- ---- bytes and numbers

pub byte_exact : Exact byte_at (λ n. n ∷ []) (λ n. true)
byte_exact = record { sound = record { takes = byte_takes }; again = λ n rest e. refl }
  where
    byte_takes : (bytes : List ℕ) (x : ℕ × List ℕ) → IsBytes bytes → byte_at bytes ≡ Ok x → Takes bytes (x.0 ∷ []) x.1 × (true ≡ true)
    byte_takes [] x fits e = failed (Takes [] (x.0 ∷ []) x.1 × (true ≡ true)) faults.Short x e
    byte_takes (b ∷ bytes) x fits e =
        let got : ℕ × List ℕ = (b, bytes) in
        subst (λ (y : ℕ × List ℕ). Takes (b ∷ bytes) (y.0 ∷ []) y.1 × (true ≡ true)) (ok_is got x e) (record { parts = refl; rest_fits = IsBytes-rest b bytes fits }, refl)

pub record IsWide (w : Width) (limit : ℕ) : Type 0 where
  pub len : (n : ℕ) → length (to_be_bytes w n) ≡ byte_len w
  pub back : (bytes : List ℕ) → length bytes ≡ byte_len w → IsBytes bytes → to_be_bytes w (from_be_bytes w bytes) ≡ bytes
  pub again : (n : ℕ) → n < limit → from_be_bytes w (to_be_bytes w n) ≡ n
  pub below : (bytes : List ℕ) → IsBytes bytes → from_be_bytes w bytes < limit

pub wide16 : IsWide w16 (2 ^ 16)
wide16 = record {
  len = λ n. refl;
  back = λ bytes len fits. be_bytes_2 bytes _ len fits refl;
  again = λ n lt. from_be_bytes-to_be_bytes_2 n lt;
  below = λ bytes fits. omega (arith, fits 0, fits 1);
}

pub wide32 : IsWide w32 (2 ^ 32)
wide32 = record {
  len = λ n. refl;
  back = λ bytes len fits. be_bytes_4 bytes _ len fits refl;
  again = λ n lt. from_be_bytes-to_be_bytes_4 n lt;
  below = λ bytes fits. omega (arith, fits 0, fits 1, fits 2, fits 3);
}

pub wide64 : IsWide w64 (2 ^ 64)
wide64 = record {
  len = λ n. refl;
  back = λ bytes len fits. be_bytes_8 bytes _ len fits refl;
  again = λ n lt. from_be_bytes-to_be_bytes_8 n lt;
  below = λ bytes fits. omega (arith, fits 0, fits 1, fits 2, fits 3, fits 4, fits 5, fits 6, fits 7);
}

pub number_exact : (w : Width) (limit : ℕ) → IsWide w limit → Exact (number_at w) (λ n. to_be_bytes w n) (λ n. nat_lt n limit)
number_exact w limit wide = record {
  sound = record {
    takes = λ bytes x fits e.
        let g = guard_not (ltb (length bytes) (byte_len w)) faults.Short (from_be_bytes w (take (byte_len w) bytes), drop (byte_len w) bytes) x e in
        let long : byte_len w ≤ length bytes = ltb-false _ _ g.0 in
        let front : to_be_bytes w (from_be_bytes w (take (byte_len w) bytes)) ≡ take (byte_len w) bytes = wide.back (take (byte_len w) bytes) (omega (arith, length-take (byte_len w) bytes)) (IsBytes-take (byte_len w) bytes fits) in
        subst (λ (y : ℕ × List ℕ). Takes bytes (to_be_bytes w y.0) y.1 × (nat_lt y.0 limit ≡ true)) g.1
        (record { parts = rw front (sym (take-append-drop (byte_len w) bytes)); rest_fits = IsBytes-drop (byte_len w) bytes fits }, lt-ltb _ limit (wide.below (take (byte_len w) bytes) (IsBytes-take (byte_len w) bytes fits)));
  };
  again = λ n rest e.
      let len = wide.len n in
      let lt : n < limit = ltb-true n limit e in
      let long : ltb (length (to_be_bytes w n ++ rest)) (byte_len w) ≡ false = le-ltb _ _ (omega (arith, length-append (to_be_bytes w n) rest)) in
      rw (long, take_at (to_be_bytes w n) rest (byte_len w) len, drop_at (to_be_bytes w n) rest (byte_len w) len, wide.again n lt) refl;
}

pub text_exact : (n : ℕ) → Exact (text_at n) (λ t. t) (λ t. length t == n)
text_exact n = record {
  sound = record {
    takes = λ bytes x fits e.
        let g = guard_not (ltb (length bytes) n) faults.Short (take n bytes, drop n bytes) x e in
        let long : n ≤ length bytes = ltb-false _ _ g.0 in
        subst (λ (y : List ℕ × List ℕ). Takes bytes y.0 y.1 × ((length y.0 == n) ≡ true)) g.1
        (record { parts = sym (take-append-drop n bytes); rest_fits = IsBytes-drop n bytes fits }, eq-eqb _ n (omega (arith, length-take n bytes)));
  };
  again = λ t rest e.
      let len : length t ≡ n = eqb-true (length t) n e in
      let long : ltb (length (t ++ rest)) n ≡ false = le-ltb _ _ (omega (arith, length-append t rest)) in
      rw (long, take_at t rest n len, drop_at t rest n len) refl;
}

-- ---- a count, and as much as it says

pub counted_exact : {A : Type 0} (r : Reader ℕ) (s : ℕ → List ℕ) (F : ℕ → Bool) (k : ℕ → Reader A) (size : A → ℕ) (S : A → List ℕ) (G : A → Bool) → Exact r s F → ((n : ℕ) → Exact (k n) S (λ a. (size a == n) && G a))
    → Exact (λ bytes. r bytes >>= λ n. k n.0 n.1) (λ a. s (size a) ++ S a) (λ a. F (size a) && G a)
counted_exact {A} r s F k size S G h j = record {
  sound = record {
    takes = λ bytes x fits e.
        let a = bind_ok (r bytes) (λ n. k n.0 n.1) x e in
        let t₁ = h.sound.takes bytes a.0 fits a.1 in
        let t₂ = (j a.0.0).sound.takes a.0.1 x t₁.0.rest_fits a.2 in
        let parts = and_parts (size x.0 == a.0.0) (G x.0) t₂.1 in
        let n-is : size x.0 ≡ a.0.0 = eqb-true _ _ parts.0 in
        let both = Takes-then bytes (s a.0.0) a.0.1 (S x.0) x.1 t₁.0 t₂.0 in
        (subst (λ (n : ℕ). Takes bytes (s n ++ S x.0) x.1) (sym n-is) both, and_from (F (size x.0)) (G x.0) (subst (λ (n : ℕ). F n ≡ true) (sym n-is) t₁.1) parts.1);
  };
  again = λ a rest e.
      let parts = and_parts (F (size a)) (G a) e in
      ap (λ (bytes : List ℕ). r bytes >>= λ n. k n.0 n.1) (append_assoc (s (size a)) (S a) rest) ∙ rw (h.again (size a) (S a ++ rest) parts.0) ((j (size a)).again a rest (and_from (size a == size a) (G a) (eq-eqb (size a) (size a) refl) parts.1));
}

-- ---- rows

module _ {R : Type 0} (row : ℕ → Reader R) (s : R → List ℕ) (is_row : ℕ → R → Bool) (next : R → ℕ) (h : (least : ℕ) → Exact (row least) s (is_row least)) where
  rows_sound : (n least : ℕ) (bytes : List ℕ) (x : List R × List ℕ) → IsBytes bytes → rows_at row next n least bytes ≡ Ok x → Takes bytes (flat_map s x.0) x.1 × (((length x.0 == n) && are_rows is_row next least x.0) ≡ true)
  unfolding rows_at
  rows_sound zero least bytes x fits e =
      let got : List R × List ℕ = ([], bytes) in
      subst (λ (y : List R × List ℕ). Takes bytes (flat_map s y.0) y.1 × (((length y.0 == 0) && are_rows is_row next least y.0) ≡ true)) (ok_is got x e) (record { parts = refl; rest_fits = fits }, refl)
  rows_sound (suc n) least bytes x fits e =
      let a = bind_ok (row least bytes) (λ first. rows_at row next n (next first.0) first.1 >>= λ others. Ok (first.0 ∷ others.0, others.1)) x e in
      let b = bind_ok (rows_at row next n (next a.0.0) a.0.1) (λ others. Ok (a.0.0 ∷ others.0, others.1)) x a.2 in
      let first = (h least).sound.takes bytes a.0 fits a.1 in
      let second = rows_sound n (next a.0.0) a.0.1 b.0 first.0.rest_fits b.1 in
      let both = Takes-then bytes (s a.0.0) a.0.1 (flat_map s b.0.0) b.0.1 first.0 second.0 in
      let parts = and_parts (length b.0.0 == n) (are_rows is_row next (next a.0.0) b.0.0) second.1 in
      let got : List R × List ℕ = (a.0.0 ∷ b.0.0, b.0.1) in
      subst (λ (y : List R × List ℕ). Takes bytes (flat_map s y.0) y.1 × (((length y.0 == suc n) && are_rows is_row next least y.0) ≡ true)) (ok_is got x b.2)
      (rw flat_map-cons both, and_from (length (a.0.0 ∷ b.0.0) == suc n) (is_row least a.0.0 && are_rows is_row next (next a.0.0) b.0.0) (eq-eqb _ _ (ap suc (eqb-true _ _ parts.0))) (and_from (is_row least a.0.0) _ first.1 parts.1))

  rows_again : (rs : List R) (least : ℕ) (rest : List ℕ) → are_rows is_row next least rs ≡ true → rows_at row next (length rs) least (flat_map s rs ++ rest) ≡ Ok (rs, rest)
  unfolding rows_at
  rows_again [] least rest e = refl
  rows_again (r ∷ rs) least rest e =
      let parts = and_parts (is_row least r) (are_rows is_row next (next r) rs) e in
      let regrouped : flat_map s (r ∷ rs) ++ rest ≡ s r ++ (flat_map s rs ++ rest) = ap (λ (x : List ℕ). x ++ rest) (flat_map-cons s r rs) ∙ append_assoc (s r) (flat_map s rs) rest in
      ap (rows_at row next (suc (length rs)) least) regrouped ∙ rw ((h least).again r (flat_map s rs ++ rest) parts.0, rows_again rs (next r) rest parts.1) refl

  pub rows_exact : (least n : ℕ) → Exact (rows_at row next n least) (flat_map s) (λ rs. (length rs == n) && are_rows is_row next least rs)
  rows_exact least n = record {
    sound = record { takes = λ bytes x fits e. rows_sound n least bytes x fits e };
    again = λ rs rest e.
        let parts = and_parts (length rs == n) (are_rows is_row next least rs) e in
        subst (λ (k : ℕ). rows_at row next k least (flat_map s rs ++ rest) ≡ Ok (rs, rest)) (eqb-true _ _ parts.0) (rows_again rs least rest parts.1);
  }

-- ---- a byte that says what comes

-- what is read after the byte k is spelled so, with that byte in front
pub record After {A : Type 0} (k : ℕ) (r : Reader A) (S : A → List ℕ) (P : A → Type 0) : Type 0 where
  pub takes : (bytes : List ℕ) (x : A × List ℕ) → IsBytes bytes → r bytes ≡ Ok x → (k ∷ bytes ≡ S x.0 ++ x.1) × IsBytes x.1 × P x.0

pub made_after : {A B : Type 0} (k : ℕ) (r : Reader A) (s : A → List ℕ) (F : A → Bool) (f : A → B) (S : B → List ℕ) (P : B → Type 0) → Exact r s F
    → ((a : A) → S (f a) ≡ k ∷ s a) → ((a : A) → F a ≡ true → P (f a)) → After k (made f r) S P
made_after {A} {B} k r s F f S P h e p = record {
  takes = λ bytes x fits ok.
      let a = bind_ok (r bytes) (λ a. Ok (f a.0, a.1)) x ok in
      let t = h.sound.takes bytes a.0 fits a.1 in
      let got : B × List ℕ = (f a.0.0, a.0.1) in
      subst (λ (y : B × List ℕ). (k ∷ bytes ≡ S y.0 ++ y.1) × IsBytes y.1 × P y.0) (ok_is got x a.2) (rw (e a.0.0) (ap (λ (w : List ℕ). k ∷ w) t.0.parts), t.0.rest_fits, p a.0.0 t.1);
}

pub nothing_after : {A : Type 0} (k : ℕ) (a : A) (S : A → List ℕ) (P : A → Type 0) → S a ≡ k ∷ [] → P a → After k (nothing a) S P
nothing_after {A} k a S P e p = record {
  takes = λ bytes x fits ok.
      let got : A × List ℕ = (a, bytes) in
      subst (λ (y : A × List ℕ). (k ∷ bytes ≡ S y.0 ++ y.1) × IsBytes y.1 × P y.0) (ok_is got x ok) (rw e refl, fits, p);
}

pub fault_after : {A : Type 0} (k : ℕ) (d : Fault) (S : A → List ℕ) (P : A → Type 0) → After k (λ bytes. Err d) S P
fault_after k d S P = record { takes = λ bytes x fits e. failed ((k ∷ bytes ≡ S x.0 ++ x.1) × IsBytes x.1 × P x.0) d x e }

pub choice_after : {A : Type 0} (n k : ℕ) (r others : Reader A) (S : A → List ℕ) (P : A → Type 0) → After k r S P → After n others S P → After n (λ bytes. cond (n == k) (r bytes) (others bytes)) S P
choice_after {A} n k r others S P h j =
    elim (cases_Bool (n == k)) [
      | inl e ↦ let same : n ≡ k = eqb-true n k e in
          record { takes = λ bytes x fits ok. subst (λ (m : ℕ). (m ∷ bytes ≡ S x.0 ++ x.1) × IsBytes x.1 × P x.0) (sym same) (h.takes bytes x fits (rw e at ok)) }
      | inr e ↦ record { takes = λ bytes x fits ok. j.takes bytes x fits (rw e at ok) }
    ]

pub chosen_sound : {A : Type 0} (c : ℕ → ℕ → Reader A) (S : A → List ℕ) (P : A → Type 0) → ((n left : ℕ) → After n (c n left) S P) → Sound (chosen c) S P
chosen_sound {A} c S P h = record {
  takes = λ bytes x fits e.
      let a = bind_ok (byte_at bytes) (λ n. c n.0 (length bytes) n.1) x e in
      let t = byte_exact.sound.takes bytes a.0 fits a.1 in
      let k = (h a.0.0 (length bytes)).takes a.0.1 x t.0.rest_fits a.2 in
      (record { parts = t.0.parts ∙ k.0; rest_fits = k.1 }, k.2);
}
