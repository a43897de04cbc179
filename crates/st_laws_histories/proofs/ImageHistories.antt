-- Every image is of one moment.
use Rattle.st_lemmas.proofs.Words
use Words.{◌≡◌, ◌⊎◌, ◌≤◌, ◌<◌, ℕ, zero, suc, ◌+◌, Bool, true, false, cond, List, [], ◌∷◌, ◌++◌, Some, Result, Ok, Err, refl, sym, ap, ◌∙◌, subst, inl, inr}
use Words.{eq-eqb, eqb-false, ne_eqb, true≢false}
use Words.{arith, not, ◌&&◌, ◌||◌, ◌==◌, filter, length, nat_le, if◌then◌else◌, list_any, eqb-true, lt-ltb}
use Words.Lookups.{or_cases, or_right}
use Rattle.std.proofs.lemmas.Bool.{le-ltb}
use Rattle.std.specs.Option.{option_map}
use Rattle.st_snap.specs.Changes.{Change, Forgot, Took, Wrote, before, images, is_view, last_write, page_of, same_page, takes}
use Rattle.st_snap.specs.Images.{bytes_of, forget, is_full, read, take, write}
use Rattle.st_snap.specs.declared.refusal.SnapRefusal.{SnapRefusal}
use Rattle.st_snap.specs.declared.refusal.SnapRefusal.TheVariants.{NoImage, NoSpace, TooMany}
use Rattle.st_laws_histories.specs.ImageHistories.{Call, EveryImageIsOneMoment, Forget, IsOneMoment, Read, Take, Write}
use Rattle.st_laws_histories.specs.ImageHistories.{after_call, after_calls, drops, left_by, live, live_after}

-- Lists of images.

abbrev is_in : ℕ → List ℕ → Bool
is_in n ns = list_any (λ m. n == m) ns

last_or : (n : ℕ) (ns : List ℕ) (m : ℕ) → is_in n (ns ++ m ∷ []) ≡ true → (is_in n ns ≡ true) ⊎ (n ≡ m)
last_or n [] m h = elim (or_cases (n == m) false h) [ inl e ↦ inr (eqb-true _ _ e) | inr e ↦ absurd (cc) ]
last_or n (k ∷ ns) m h = elim (or_cases (n == k) (is_in n (ns ++ m ∷ [])) h) [
  | inl e ↦ inl (ap (λ b. b || is_in n ns) e)
  | inr e ↦ elim (last_or n ns m e) [ inl f ↦ inl (or_right (n == k) (is_in n ns) f) | inr f ↦ inr f ]
]

any_one : (p : ℕ → Bool) (k : ℕ) (kept ns : List ℕ) (b : Bool) → (list_any p kept ≡ true → list_any p ns ≡ true) → list_any p (if b then k ∷ kept else kept) ≡ true → list_any p (k ∷ ns) ≡ true
any_one p k kept ns true on f = elim (or_cases (p k) (list_any p kept) f) [
  | inl e ↦ ap (λ a. a || list_any p ns) e
  | inr e ↦ or_right (p k) (list_any p ns) (on e)
]
any_one p k kept ns false on f = or_right (p k) (list_any p ns) (on f)

any_of_filter : (p q : ℕ → Bool) (ns : List ℕ) → list_any p (filter q ns) ≡ true → list_any p ns ≡ true
any_of_filter p q [] h = h
any_of_filter p q (k ∷ ns) h = any_one p k (filter q ns) ns (q k) (λ e. any_of_filter p q ns e) h

-- a kept image was taken
taken_before : (xs : List Change) (n : ℕ) → is_in n (images xs) ≡ true → n ≤ takes xs
taken_before [] n h = absurd (cc)
taken_before (Wrote f p bytes ∷ past) n h = taken_before past n h
taken_before (Took ∷ past) n h = elim (last_or n (images past) (takes past + 1) h) [
  | inl e ↦ let low = taken_before past n e in omega (arith, low)
  | inr e ↦ omega (arith, e)
]
taken_before (Forgot image ∷ past) n h = taken_before past n (any_of_filter (λ m. n == m) (λ other. not (image == other)) (images past) h)

-- changes after a take leave what was before it
before_later : (c : Change) (past : List Change) (n : ℕ) → n ≤ takes (c ∷ past) → before n (c ∷ past) ≡ before n past
before_later c past n h = ap (λ b. cond b (c ∷ past) (before n past)) (le-ltb (takes (c ∷ past)) n h)

-- fewer takes: all is before
before_all : (xs : List Change) (n : ℕ) → takes xs < n → before n xs ≡ xs
before_all [] n h = refl
before_all (c ∷ past) n h = ap (λ b. cond b (c ∷ past) (before n past)) (lt-ltb (takes (c ∷ past)) n h)

-- The moment of an image.

record At (blocks : ℕ) (calls : List Call) (n : ℕ) (xs : List Change) : Type 0 where
  later : List Call
  earlier : List Call
  are : calls ≡ later ++ Take ∷ earlier
  taken : take (after_calls blocks earlier) ≡ Ok (n, Took ∷ after_calls blocks earlier)
  front : before n xs ≡ after_calls blocks earlier

one_call_more : (blocks : ℕ) (es : List Call) (n : ℕ) (xs ys : List Change) (call : Call) → At blocks es n xs → before n ys ≡ before n xs → At blocks (call ∷ es) n ys
one_call_more blocks es n xs ys call a same =
    record { later = call ∷ a.later; earlier = a.earlier; are = ap (λ cs. call ∷ cs) a.are; taken = a.taken; front = same ∙ a.front }

abbrev Finds : ℕ → List Call → ℕ → List Change → Type 0
Finds blocks calls n xs = is_in n (images xs) ≡ true → At blocks calls n xs

-- What the calls leave.

abbrev wrote : Bool → List Change → ℕ → ℕ → List ℕ → Result (Unit {0} × List Change) SnapRefusal
wrote b xs f p bytes = if b then Err (NoSpace 0 1) else Ok (tt, Wrote f p bytes ∷ xs)

wrote_told : (blocks : ℕ) (xs : List Change) (f p : ℕ) (bytes : List ℕ) → write blocks xs f p bytes ≡ wrote (is_full blocks xs f p) xs f p bytes
unfolding write
wrote_told blocks xs f p bytes = refl

write_leaves : (P : List Change → Type 0) (blocks : ℕ) (xs : List Change) (f p : ℕ) (bytes : List ℕ) → P xs → P (Wrote f p bytes ∷ xs) → P (left_by xs (write blocks xs f p bytes))
write_leaves P blocks xs f p bytes refused done = subst (λ r. P (left_by xs r)) (sym (wrote_told blocks xs f p bytes)) (go (is_full blocks xs f p))
  where
    go : (b : Bool) → P (left_by xs (wrote b xs f p bytes))
    go true = refused
    go false = done

abbrev told : Bool → List Change → Result (ℕ × List Change) SnapRefusal
told b xs = if b then Err (TooMany 64) else Ok (takes xs + 1, Took ∷ xs)

take_told : (xs : List Change) → take xs ≡ told (nat_le 64 (length (images xs))) xs
unfolding take
take_told xs = refl

take_leaves : (P : List Change → Type 0) (xs : List Change) → P xs → (take xs ≡ Ok (takes xs + 1, Took ∷ xs) → P (Took ∷ xs)) → P (left_by xs (take xs))
take_leaves P xs refused done = go (nat_le 64 (length (images xs))) (take_told xs)
  where
    go : (b : Bool) → take xs ≡ told b xs → P (left_by xs (take xs))
    go true e = subst (λ r. P (left_by xs r)) (sym e) refused
    go false e = subst (λ r. P (left_by xs r)) (sym e) (done e)

abbrev forgot : Bool → List Change → ℕ → Result (Unit {0} × List Change) SnapRefusal
forgot b xs image = if b then Ok (tt, Forgot image ∷ xs) else Err (NoImage image)

forgot_told : (xs : List Change) (image : ℕ) → forget xs image ≡ forgot (list_any (λ other. image == other) (images xs)) xs image
unfolding forget
forgot_told xs image = refl

forget_leaves : (P : List Change → Type 0) (xs : List Change) (image : ℕ) → P xs → P (Forgot image ∷ xs) → P (left_by xs (forget xs image))
forget_leaves P xs image refused done = subst (λ r. P (left_by xs r)) (sym (forgot_told xs image)) (go (list_any (λ other. image == other) (images xs)))
  where
    go : (b : Bool) → P (left_by xs (forgot b xs image))
    go true = done
    go false = refused

-- Each kept image has its moment.

finds : (blocks : ℕ) (calls : List Call) (n : ℕ) → Finds blocks calls n (after_calls blocks calls)
finds blocks [] n = λ h. absurd (cc)
finds blocks (Write f p bytes ∷ es) n =
    let xs = after_calls blocks es in
    write_leaves (Finds blocks (Write f p bytes ∷ es) n) blocks xs f p bytes
    (λ h. one_call_more blocks es n xs xs (Write f p bytes) (finds blocks es n h) refl)
    (λ h. one_call_more blocks es n xs (Wrote f p bytes ∷ xs) (Write f p bytes) (finds blocks es n h) (before_later (Wrote f p bytes) xs n (taken_before xs n h)))
finds blocks (Read image f p ∷ es) n = λ h. one_call_more blocks es n (after_calls blocks es) (after_calls blocks es) (Read image f p) (finds blocks es n h) refl
finds blocks (Take ∷ es) n =
    let xs = after_calls blocks es in
    take_leaves (Finds blocks (Take ∷ es) n) xs
    (λ h. one_call_more blocks es n xs xs Take (finds blocks es n h) refl)
    (λ done h. elim (last_or n (images xs) (takes xs + 1) h) [
      | inl e ↦ one_call_more blocks es n xs (Took ∷ xs) Take (finds blocks es n e) (before_later Took xs n (let low = taken_before xs n e in omega (arith, low)))
      | inr e ↦ record {
        later = [];
        earlier = es;
        are = refl;
        taken = done ∙ ap (λ k. Ok (k, Took ∷ xs)) (sym e);
        front = before_later Took xs n (omega (arith, e)) ∙ before_all xs n (omega (arith, e));
      }
    ])
finds blocks (Forget image ∷ es) n =
    let xs = after_calls blocks es in
    forget_leaves (Finds blocks (Forget image ∷ es) n) xs image
    (λ h. one_call_more blocks es n xs xs (Forget image) (finds blocks es n h) refl)
    (λ h. let was = any_of_filter (λ m. n == m) (λ other. not (image == other)) (images xs) h in
    one_call_more blocks es n xs (Forgot image ∷ xs) (Forget image) (finds blocks es n was) (before_later (Forgot image) xs n (taken_before xs n was)))

reads_so : (xs ys : List Change) (m : ℕ) (f p : ℕ) → is_view xs (suc m) ≡ true → before (suc m) xs ≡ ys → read xs (suc m) f p ≡ live ys f p
unfolding read
reads_so xs ys m f p view front =
    ap (λ b. if b then Ok (option_map bytes_of (page_of xs (suc m) f p)) else Err (NoImage (suc m))) view ∙ ap (λ zs. Ok (option_map bytes_of (last_write zs f p))) front

one_moment : (blocks : ℕ) (calls : List Call) (image : ℕ) → 1 ≤ image → is_view (after_calls blocks calls) image ≡ true → IsOneMoment blocks calls image
one_moment blocks calls zero some view = absurd (omega (arith, some))
one_moment blocks calls (suc m) some view =
    let a = finds blocks calls (suc m)
    (elim (or_cases (suc m == 0) (is_in (suc m) (images (after_calls blocks calls))) view)
    [ inl e ↦ absurd (let zero_is : suc m ≡ 0 = eqb-true _ _ e in omega (arith, zero_is)) | inr e ↦ e ]) in
    record {
      later = a.later;
      earlier = a.earlier;
      are = a.are;
      taken = a.taken;
      same = λ f p. reads_so (after_calls blocks calls) (after_calls blocks a.earlier) m f p view a.front;
    }

-- Live pages.

write_live : (blocks : ℕ) (xs : List Change) (file page : ℕ) (bytes : List ℕ) (f p : ℕ) → live (left_by xs (write blocks xs file page bytes)) f p ≡ live_after blocks xs (Write file page bytes) f p
unfolding read
write_live blocks xs file page bytes f p =
    ap (λ r. live (left_by xs r) f p) (wrote_told blocks xs file page bytes) ∙ go (is_full blocks xs file page) (same_page file page f p) refl
  where
    go : (b s : Bool) → same_page file page f p ≡ s → live (left_by xs (wrote b xs file page bytes)) f p ≡ (if not b && s then Ok (Some bytes) else live xs f p)
    go true s e = refl
    go false true e = ap (λ t. Ok (option_map bytes_of (if t then Some (record { number = length xs; bytes = bytes }) else last_write xs f p))) e
    go false false e = ap (λ t. Ok (option_map bytes_of (if t then Some (record { number = length xs; bytes = bytes }) else last_write xs f p))) e

live_pages : (blocks : ℕ) (earlier : List Call) (call : Call) (f p : ℕ) → live (after_calls blocks (call ∷ earlier)) f p ≡ live_after blocks (after_calls blocks earlier) call f p
unfolding read
live_pages blocks earlier (Write file page bytes) f p = write_live blocks (after_calls blocks earlier) file page bytes f p
live_pages blocks earlier (Read image file page) f p = refl
live_pages blocks earlier Take f p = let xs = after_calls blocks earlier in take_leaves (λ ys. live ys f p ≡ live xs f p) xs refl (λ done. refl)
live_pages blocks earlier (Forget image) f p = let xs = after_calls blocks earlier in forget_leaves (λ ys. live ys f p ≡ live xs f p) xs image refl refl

-- An image is there from its take until it is dropped.

-- the image was taken, and is there unless it was dropped
record Stands (n : ℕ) (dropped : Bool) (xs : List Change) : Type 0 where
  some : 1 ≤ n
  low : n ≤ takes xs
  there : is_in n (images xs) ≡ not dropped

last_in : (n : ℕ) (ns : List ℕ) → is_in n (ns ++ n ∷ []) ≡ true
last_in n [] = ap (λ b. b || false) (eq-eqb n n refl)
last_in n (k ∷ ns) = or_right (n == k) (is_in n (ns ++ n ∷ [])) (last_in n ns)

last_other : (n : ℕ) (ns : List ℕ) (m : ℕ) → (n == m) ≡ false → is_in n (ns ++ m ∷ []) ≡ is_in n ns
last_other n [] m other = ap (λ b. b || false) other
last_other n (k ∷ ns) m other = ap (λ b. (n == k) || b) (last_other n ns m other)

-- one more number is filtered
abbrev kept_or_not : Bool → ℕ → List ℕ → List ℕ
kept_or_not b k rest = if not b then k ∷ rest else rest

dropped_one : (n k : ℕ) (rest : List ℕ) (b : Bool) → (n == k) ≡ b → is_in n rest ≡ false → is_in n (kept_or_not b k rest) ≡ false
dropped_one n k rest true e out = out
dropped_one n k rest false e out = ap (λ b. b || is_in n rest) e ∙ out

-- what is filtered out is not among the rest
dropped_out : (n : ℕ) (ns : List ℕ) → is_in n (filter (λ other. not (n == other)) ns) ≡ false
dropped_out n [] = refl
dropped_out n (k ∷ ns) = dropped_one n k (filter (λ other. not (n == other)) ns) (n == k) refl (dropped_out n ns)

stays_one : (n image k : ℕ) (ns rest : List ℕ) (b : Bool) → (image == k) ≡ b → (image == n) ≡ false → is_in n rest ≡ is_in n ns →
    is_in n (kept_or_not b k rest) ≡ is_in n (k ∷ ns)
stays_one n image k ns rest true e other same =
    same ∙ ap (λ b. b || is_in n ns) (sym (ne_eqb n k (λ is. eqb-false image n other (eqb-true image k e ∙ sym is))))
stays_one n image k ns rest false e other same = ap (λ b. (n == k) || b) same

-- and what isn't is
others_stay : (n image : ℕ) (ns : List ℕ) → (image == n) ≡ false → is_in n (filter (λ other. not (image == other)) ns) ≡ is_in n ns
others_stay n image [] other = refl
others_stay n image (k ∷ ns) other =
    stays_one n image k ns (filter (λ o. not (image == o)) ns) (image == k) refl other (others_stay n image ns other)

abbrev number_of : Result (ℕ × List Change) SnapRefusal → ℕ
number_of (Ok r) = r.0
number_of (Err e) = 0

abbrev is_refused : Result (ℕ × List Change) SnapRefusal → Bool
is_refused (Ok r) = false
is_refused (Err e) = true

taken_number : (xs : List Change) (n : ℕ) (b : Bool) → take xs ≡ told b xs → take xs ≡ Ok (n, Took ∷ xs) → takes xs + 1 ≡ n
taken_number xs n true e done = absurd (true≢false (ap is_refused (sym e ∙ done)))
taken_number xs n false e done = ap number_of (sym e ∙ done)

taken_stands : (xs : List Change) (n : ℕ) → take xs ≡ Ok (n, Took ∷ xs) → Stands n false (left_by xs (take xs))
taken_stands xs n done =
    subst (λ r. Stands n false (left_by xs r)) (sym done)
    (subst (λ m. Stands m false (Took ∷ xs)) (taken_number xs n (nat_le 64 (length (images xs))) (take_told xs) done) (record {
      some = omega arith;
      low = omega arith;
      there = last_in (takes xs + 1) (images xs);
    }))

forget_goes : (n : ℕ) (dropped : Bool) (image : ℕ) (xs : List Change) → Stands n dropped xs → Stands n ((image == n) || dropped) (left_by xs (forget xs image))
forget_goes n dropped image xs s =
    subst (λ r. Stands n ((image == n) || dropped) (left_by xs r)) (sym (forgot_told xs image)) (go (is_in image (images xs)) refl)
  where
    refused : (b : Bool) → (image == n) ≡ b → is_in image (images xs) ≡ false → is_in n (images xs) ≡ not (b || dropped)
    refused true e none = ap (λ m. is_in m (images xs)) (sym (eqb-true image n e)) ∙ none
    refused false e none = s.there

    done : (b : Bool) → (image == n) ≡ b → is_in n (filter (λ other. not (image == other)) (images xs)) ≡ not (b || dropped)
    done true e = subst (λ m. is_in n (filter (λ other. not (m == other)) (images xs)) ≡ false) (sym (eqb-true image n e)) (dropped_out n (images xs))
    done false e = others_stay n image (images xs) e ∙ s.there

    go : (b : Bool) → is_in image (images xs) ≡ b → Stands n ((image == n) || dropped) (left_by xs (forgot b xs image))
    go true e = record { some = s.some; low = s.low; there = done (image == n) refl }
    go false e = record { some = s.some; low = s.low; there = refused (image == n) refl e }

goes_on : (blocks n : ℕ) (dropped : Bool) (call : Call) (xs : List Change) → Stands n dropped xs →
    Stands n (drops n call || dropped) (after_call blocks xs call)
goes_on blocks n dropped (Write f p bytes) xs s =
    write_leaves (Stands n dropped) blocks xs f p bytes s (record { some = s.some; low = s.low; there = s.there })
goes_on blocks n dropped (Read image f p) xs s = s
goes_on blocks n dropped Take xs s =
    let low = s.low in
    take_leaves (Stands n dropped) xs s (λ done. record {
      some = s.some;
      low = omega (arith, low);
      there = last_other n (images xs) (takes xs + 1) (ne_eqb n (takes xs + 1) (λ e. omega (arith, low, e))) ∙ s.there;
    })
goes_on blocks n dropped (Forget image) xs s = forget_goes n dropped image xs s

stands : (blocks : ℕ) (later earlier : List Call) (n : ℕ) → take (after_calls blocks earlier) ≡ Ok (n, Took ∷ after_calls blocks earlier) →
    Stands n (list_any (drops n) later) (after_calls blocks (later ++ Take ∷ earlier))
stands blocks [] earlier n done = taken_stands (after_calls blocks earlier) n done
stands blocks (call ∷ later) earlier n done =
    goes_on blocks n (list_any (drops n) later) call (after_calls blocks (later ++ Take ∷ earlier)) (stands blocks later earlier n done)

view_of : (n : ℕ) (xs : List Change) (b : Bool) → 1 ≤ n → is_in n (images xs) ≡ b → is_view xs n ≡ b
view_of n xs b some e = ap (λ t. t || is_in n (images xs)) (ne_eqb n 0 (λ none. omega (arith, some, none))) ∙ e

until_dropped : (blocks : ℕ) (later earlier : List Call) (image : ℕ) → take (after_calls blocks earlier) ≡ Ok (image, Took ∷ after_calls blocks earlier) →
    is_view (after_calls blocks (later ++ Take ∷ earlier)) image ≡ not (list_any (drops image) later)
until_dropped blocks later earlier image done =
    let s = stands blocks later earlier image done in
    view_of image (after_calls blocks (later ++ Take ∷ earlier)) (not (list_any (drops image) later)) s.some s.there

pub every_image : EveryImageIsOneMoment
every_image = record { images = one_moment; kept = until_dropped; pages = live_pages }
