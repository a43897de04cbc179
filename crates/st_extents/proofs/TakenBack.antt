-- Pages that were mapped one after another, and are taken back.
use Rattle.std.proofs.Common.{◌≡◌, ℕ, zero, suc, ◌+◌, ◌<◌, ◌≤◌, Bool, true, false, List, [], ◌∷◌, ◌++◌, length, take, get_or, arith, refl, sym, ap, subst, ◌∙◌, ⊎_elim, true≢false, length-append}
use Rattle.std.specs.Prelude.{find, Some}
use Rattle.std.specs.List.{IsDistinct, AllByRecursion}
use Rattle.std.proofs.lemmas.Bool.{cases_Bool}
use Rattle.std.proofs.lemmas.List.{take_more}
use Rattle.std.proofs.lemmas.Map.Keys.{IsDistinct-head, IsDistinct-tail}
use Rattle.st_base.specs.declared.ids.FileId.{FileId}
use Rattle.st_base.specs.declared.ids.PageNo.{PageNo}
use Rattle.st_base.specs.declared.disk.BlockAt.{BlockAt}
use Rattle.st_rules.specs.declared.extents.Extent.{Extent}
use Rattle.st_rules.specs.Extents.{is_extent_of}
use Rattle.st_extents.specs.Ownership.{of_one_page}
use Rattle.st_extents.specs.Places.{AreAdded, AreLastMapped, HasOneMore, IsLastMapped}
use Rattle.st_extents.proofs.Owned.{pages_equiv}
use Rattle.st_extents.proofs.RunOrder.{of_page}

-- an extent more, under the next birth
abbrev pub next_one : ℕ → FileId → PageNo → BlockAt → Extent
next_one births f p b = record { file = f; page = p; at = b; birth = births + 1 }

-- one more page
pub added_more : (f : FileId) (p : PageNo) (b : BlockAt) (ps : List PageNo) (rows after : List Extent) (births : ℕ) → AreAdded rows births f ps after → AreAdded rows births f (ps ++ p ∷ []) (after ++ next_one (births + length ps) f p b ∷ [])
added_more f p b [] rows after births h =
    let z : births + 0 ≡ births = omega arith in
    (b, (λ i. h i ++ next_one (z i) f p b ∷ []))
added_more f p b (q ∷ ps) rows after births h =
    let z : births + 1 + length ps ≡ births + length (q ∷ ps) = omega arith in
    (h.0, subst (λ n. AreAdded (rows ++ next_one births f q h.0 ∷ []) (births + 1) f (ps ++ p ∷ []) (after ++ next_one n f p b ∷ [])) z (added_more f p b ps (rows ++ next_one births f q h.0 ∷ []) after (births + 1) h.1))

-- the last page
abbrev pub Last : List Extent → ℕ → FileId → List PageNo → PageNo → List Extent → Type 0
Last rows births f ps p after = (before : List Extent) × ((b : BlockAt) × ((after ≡ before ++ next_one (births + length ps) f p b ∷ []) × AreAdded rows births f ps before))

pub added_last : (f : FileId) (p : PageNo) (ps : List PageNo) (rows after : List Extent) (births : ℕ) → AreAdded rows births f (ps ++ p ∷ []) after → Last rows births f ps p after
added_last f p [] rows after births h =
    let z : births ≡ births + 0 = omega arith in
    (rows, (h.0, (h.1 ∙ (λ i. rows ++ next_one (z i) f p h.0 ∷ []), refl)))
added_last f p (q ∷ ps) rows after births h =
    let r = added_last f p ps (rows ++ next_one births f q h.0 ∷ []) after (births + 1) h.1 in
    let z : births + 1 + length ps ≡ births + length (q ∷ ps) = omega arith in
    (r.0, (r.1.0, (r.1.1.0 ∙ (λ i. r.0 ++ next_one (z i) f p r.1.0 ∷ []), (h.0, r.1.1.1))))

pub taken_last : (f : FileId) (ps : List PageNo) (i : ℕ) (d : PageNo) (rows after : List Extent) (births : ℕ) → i < length ps → AreAdded rows births f (take (i + 1) ps) after → Last rows births f (take i ps) (get_or ps i d) after
taken_last f ps i d rows after births l h = added_last f (get_or ps i d) (take i ps) rows after births (subst (λ qs. AreAdded rows births f qs after) (take_more ps i d l) h)

pub taken_more : (f : FileId) (ps : List PageNo) (i : ℕ) (d : PageNo) (b : BlockAt) (rows after : List Extent) (births : ℕ) → i < length ps → AreAdded rows births f (take i ps) after → AreAdded rows births f (take (i + 1) ps) (after ++ next_one (births + length (take i ps)) f (get_or ps i d) b ∷ [])
taken_more f ps i d b rows after births l h = subst (λ qs. AreAdded rows births f qs (after ++ next_one (births + length (take i ps)) f (get_or ps i d) b ∷ [])) (sym (take_more ps i d l)) (added_more f (get_or ps i d) b (take i ps) rows after births h)

-- all but the last of a list
abbrev front_by : Extent → List Extent → List Extent → List Extent
front_by x [] rest = []
front_by x (y ∷ ys) rest = x ∷ rest

abbrev front : List Extent → List Extent
front [] = []
front (x ∷ xs) = front_by x xs (front xs)

front_is : (xs : List Extent) (e : Extent) → front (xs ++ e ∷ []) ≡ xs
front_is [] e = refl
front_is (x ∷ []) e = refl
front_is (x ∷ y ∷ xs) e = ap (λ l. x ∷ l) (front_is (y ∷ xs) e)

-- two lists with one more item each
pub same_front : (xs ys : List Extent) (a b : Extent) → xs ++ a ∷ [] ≡ ys ++ b ∷ [] → xs ≡ ys
same_front xs ys a b h = sym (front_is xs a) ∙ ap front h ∙ front_is ys b

-- the last is found, if the items differ
pub last_found : (E : Extent → Extent → Bool) (r : Extent → Bool) → ((x y : Extent) → r x ≡ true → E x y ≡ false → r y ≡ false) → (xs : List Extent) (e : Extent) → IsDistinct E (xs ++ e ∷ []) → r e ≡ true → find r (xs ++ e ∷ []) ≡ Some e
last_found E r apart [] e d t = rw t refl
last_found E r apart (x ∷ xs) e d t =
    ⊎_elim
    (λ s. absurd (true≢false (sym t ∙ apart x e s (last_of (λ y. E x y ≡ false) xs e (IsDistinct-head E x (xs ++ e ∷ []) d)))))
    (λ s. rw s (last_found E r apart xs e (IsDistinct-tail E x (xs ++ e ∷ []) d) t))
    (cases_Bool (r x))
  where
    last_of : (P : Extent → Type 0) (xs : List Extent) (e : Extent) → AllByRecursion P (xs ++ e ∷ []) → P e
    last_of P [] e a = a.0
    last_of P (x ∷ xs) e a = last_of P xs e a.1

module _ (f : FileId) (ps : List PageNo) (i : ℕ) (d : PageNo) (l : i < length ps) (given : ℕ) (after : List Extent) where
  length_more : length (take (i + 1) ps) ≡ length (take i ps) + 1
  length_more = ap length (take_more ps i d l) ∙ length-append (take i ps) (get_or ps i d ∷ [])

  -- the last of these pages is last
  pub is_last : AreLastMapped f (take (i + 1) ps) given after → IsLastMapped f (get_or ps i d) given after
  is_last h =
      let t = taken_last f ps i d h.0 after h.1.0 l h.1.1.1 in
      let m = length_more in
      let e = h.1.1.0 in
      let z : h.1.0 + length (take i ps) + 1 ≡ given = omega (arith, m, e) in
      (t.0, (t.1.0, t.1.1.0 ∙ (λ j. t.0 ++ record { file = f; page = get_or ps i d; at = t.1.0; birth = z j } ∷ [])))

  -- it is taken back
  module _ (new : List Extent) (back : (rs : List Extent) (e : Extent) → after ≡ rs ++ e ∷ [] → new ≡ rs) where
    pub one_back : (rows : List Extent) (births : ℕ) → AreAdded rows births f (take (i + 1) ps) after → AreAdded rows births f (take i ps) new
    one_back rows births h =
        let t = taken_last f ps i d rows after births l h in
        subst (AreAdded rows births f (take i ps)) (sym (back t.0 (next_one (births + length (take i ps)) f (get_or ps i d) t.1.0) t.1.1.0)) t.1.1.1

    pub last_back : (less : ℕ) → less + 1 ≡ given → AreLastMapped f (take (i + 1) ps) given after → AreLastMapped f (take i ps) less new
    last_back less e h =
        let m = length_more in
        let g = h.1.1.0 in
        (h.0, (h.1.0, (omega (arith, m, g, e), one_back h.0 h.1.0 h.1.1.1)))

-- the page that is last is found
pub newest_found : (f : FileId) (p : PageNo) (births : ℕ) (rows : List Extent) → IsDistinct of_one_page rows → IsLastMapped f p births rows → (e : Extent) × ((find (is_extent_of f p) rows ≡ Some e) × (e.birth ≡ births))
newest_found f p births rows d h =
    let e : Extent = record { file = f; page = p; at = h.1.0; birth = births } in
    (e, (ap (find (is_extent_of f p)) h.1.1 ∙ last_found of_one_page (is_extent_of f p) apart h.0 e (subst (IsDistinct of_one_page) h.1.1 d) (of_page f p e refl refl), refl))
  where
    apart : (x y : Extent) → is_extent_of f p x ≡ true → of_one_page x y ≡ false → is_extent_of f p y ≡ false
    apart x y t a = pages_equiv.congr (record { file = f; page = p; at = x.at; birth = 0 }) x y t ∙ a

length_taken : {A : Type 0} (xs : List A) (i : ℕ) → i ≤ length xs → length (take i xs) ≡ i
length_taken xs zero l = refl
length_taken [] (suc i) l = let no : ⊥ = omega (arith, l) in absurd no
length_taken (x ∷ xs) (suc i) l = ap suc (length_taken xs i (omega (arith, l)))

-- one more of these pages is mapped
pub added_by : (f : FileId) (ps : List PageNo) (i : ℕ) (d : PageNo) (rows after new : List Extent) (births given : ℕ) → i < length ps → given ≡ births + i → AreAdded rows births f (take i ps) after → HasOneMore after (given + 1) f (get_or ps i d) new → AreAdded rows births f (take (i + 1) ps) new
added_by f ps i d rows after new births given l e h m =
    let n = length_taken ps i (omega (arith, l)) in
    let z : births + length (take i ps) + 1 ≡ given + 1 = omega (arith, n, e) in
    subst (AreAdded rows births f (take (i + 1) ps)) ((λ j. after ++ record { file = f; page = get_or ps i d; at = m.0; birth = z j } ∷ []) ∙ sym m.1) (taken_more f ps i d m.0 rows after births l h)
