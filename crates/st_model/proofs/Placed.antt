-- The places of a page's entries; the last of them that counts is the page's last entry.
use Rattle.std.proofs.Common.{◌≡◌, ℕ, zero, suc, ◌+◌, ◌-◌, ◌<◌, ◌≤◌, Bool, true, false, if◌then◌else◌, List, [], ◌∷◌, ◌++◌, length, take, get_or, refl, sym, ap, subst, ◌∙◌, ⊎_elim, arith, true≢false}
use Rattle.std.specs.Prelude.{◌&&◌, ◌||◌, ◌==◌, nat_le, max, Some}
use Rattle.std.proofs.lemmas.List.{append_assoc, append-nil, length-append}
use Rattle.std.proofs.lemmas.Bool.{cases_Bool}
use Rattle.std.proofs.Math.Seq.{get_or-append_seam}
use Rattle.st_base.specs.declared.ids.FileId.{FileId}
use Rattle.st_base.specs.declared.ids.PageNo.{PageNo}
use Rattle.st_rules.specs.declared.log.Change.{Change}
use Rattle.st_rules.specs.declared.log.Change.TheVariants.{Write, Patch, Cut}
use Rattle.st_rules.specs.declared.log.Fate.{Fate}
use Rattle.st_rules.specs.declared.log.LogOwner.{LogOwner}
use Rattle.st_rules.specs.declared.log.LogEntry.{LogEntry}
use Rattle.st_rules.specs.Keys.{page_no, same_file}
use Rattle.st_rules.specs.FlatLog.{counts, matters, reaches, last, last_from, last_at}
use Rattle.st_model.specs.PagePlaces.{file_page, is_change_at, is_cut_at, places_from, last_place, last_num, option_of}
use Rattle.st_model.specs.Walks.{mark_from, nth}
use Rattle.st_model.proofs.Walks.{below_one}

put_first : (b : Bool) (n : ℕ) (ks ls all : List ℕ) → all ≡ ks ++ ls → (if b then n ∷ all else all) ≡ (if b then n ∷ ks else ks) ++ ls
put_first true n ks ls all h = ap (λ l. n ∷ l) h
put_first false n ks ls all h = h

module _ (r : LogOwner → Change → Bool) where
  places_more : (n : ℕ) (es : List LogEntry) (e : LogEntry) → places_from r n (es ++ e ∷ []) ≡ places_from r n es ++ (if r e.of e.change then (n + length es) ∷ [] else [])
  places_more n [] e = ap (λ k. if r e.of e.change then k ∷ [] else []) (let s : n ≡ n + 0 = omega arith in s)
  places_more n (x ∷ es) e =
      let end : ℕ → List ℕ = λ k. if r e.of e.change then k ∷ [] else [] in
      put_first (r x.of x.change) n (places_from r (n + 1) es) (end (n + suc (length es))) (places_from r (n + 1) (es ++ e ∷ []))
      (places_more (n + 1) es e ∙ ap (λ k. places_from r (n + 1) es ++ end k) (let s : n + 1 + length es ≡ n + suc (length es) = omega arith in s))

  -- marks change neither owner nor change
  pub places_marked : (next : ℕ → LogOwner → Fate) (k n : ℕ) (es : List LogEntry) → places_from r n (mark_from next k es) ≡ places_from r n es
  places_marked next k n [] = refl
  places_marked next k n (e ∷ es) = ap (λ ks. if r e.of e.change then n ∷ ks else ks) (places_marked next (k + 1) (n + 1) es)

  pub places_below : (n : ℕ) (es : List LogEntry) (i d : ℕ) → i < length (places_from r n es) → get_or (places_from r n es) i d < n + length es
  places_below n [] i d l = absurd (omega arith)
  places_below n (e ∷ es) i d l = below_one n 0 (length es) (places_from r (n + 1) es) (r e.of e.change) i d (λ j q. places_below (n + 1) es j d q) l

  one_more : (b : Bool) (ks : List ℕ) (k : ℕ) → (if b then ks ++ k ∷ [] else ks) ≡ ks ++ (if b then k ∷ [] else [])
  one_more true ks k = refl
  one_more false ks k = sym (append-nil ks)

  -- the places with one more entry
  pub place_push : (old new : List ℕ) (es : List LogEntry) (e : LogEntry) (k : ℕ) (b : Bool) → r e.of e.change ≡ b → k ≡ length es → new ≡ (if b then old ++ k ∷ [] else old) →
      old ≡ places_from r 0 es → new ≡ places_from r 0 (es ++ e ∷ [])
  place_push old new es e k b t at h was =
      h ∙ one_more b old k ∙ (λ i. was i ++ (if sym t i then (at ∙ (let s : length es ≡ 0 + length es = omega arith in s)) i ∷ [] else []))
      ∙ sym (places_more 0 es e)

  -- the last of the places is the last number
  pub last_placed : (m : LogEntry → Bool) (pre es : List LogEntry) (n before : ℕ) → length pre ≡ n →
      last_place m (pre ++ es) before (places_from r n es) ≡ last_num (λ e. r e.of e.change && m e) (n + 1) before es
  last_placed m pre [] n before l = refl
  last_placed m pre (e ∷ es) n before l =
      let t = r e.of e.change in
      let P = places_from r (n + 1) es in
      let rest : (b : ℕ) → last_place m (pre ++ e ∷ es) b P ≡ last_num (λ e. r e.of e.change && m e) (n + 1 + 1) b es =
      λ b. ap (λ xs. last_place m xs b P) (sym (append_assoc pre (e ∷ []) es)) ∙ last_placed m (pre ++ e ∷ []) es (n + 1) b (length-append pre (e ∷ []) ∙ ap (λ k. k + 1) l) in
      let seam : nth (pre ++ e ∷ es) n ≡ e = subst (λ k. nth (pre ++ e ∷ es) k ≡ e) l (get_or-append_seam pre e es _) in
      ⊎_elim
      (λ h. ap (λ b. last_place m (pre ++ e ∷ es) before (if b then n ∷ P else P)) h
      ∙ ap (λ x. last_place m (pre ++ e ∷ es) (if m x then n + 1 else before) P) seam
      ∙ rest (if m e then n + 1 else before)
      ∙ ap (λ b. last_num (λ e. r e.of e.change && m e) (n + 1 + 1) (if b && m e then n + 1 else before) es) (sym h))
      (λ h. ap (λ b. last_place m (pre ++ e ∷ es) before (if b then n ∷ P else P)) h
      ∙ rest before
      ∙ ap (λ b. last_num (λ e. r e.of e.change && m e) (n + 1 + 1) (if b && m e then n + 1 else before) es) (sym h))
      (cases_Bool t)

-- one place less
last_step : (m : LogEntry → Bool) (es : List LogEntry) (b : ℕ) (ks : List ℕ) (j : ℕ) → j < length ks →
    last_place m es b (take (suc j) ks) ≡ (if m (nth es (get_or ks j 0)) then get_or ks j 0 + 1 else last_place m es b (take j ks))
last_step m es b [] j l = absurd (omega arith)
last_step m es b (k ∷ ks) zero l = refl
last_step m es b (k ∷ ks) (suc j) l = last_step m es (if m (nth es k) then k + 1 else b) ks j (omega arith)

-- two tests that cover a third
both_at : (n a b : ℕ) (m t u : Bool) → a ≤ n → b ≤ n → (m ≡ true → (t || u) ≡ true) → (if m then n else max a b) ≡ max (if t && m then n else a) (if u && m then n else b)
both_at n a b true true true p q h = omega arith
both_at n a b true true false p q h = omega (arith, q)
both_at n a b true false true p q h = omega (arith, p)
both_at n a b true false false p q h = absurd (true≢false (sym (h refl)))
both_at n a b false true true p q h = refl
both_at n a b false true false p q h = refl
both_at n a b false false true p q h = refl
both_at n a b false false false p q h = refl

at_most : (b : Bool) (n a : ℕ) → a ≤ n → (if b then n else a) ≤ n + 1
at_most true n a p = omega arith
at_most false n a p = omega (arith, p)

last_split : (m : LogEntry → Bool) (r s : LogOwner → Change → Bool) → ((e : LogEntry) → m e ≡ true → (r e.of e.change || s e.of e.change) ≡ true) →
    (n a b : ℕ) (es : List LogEntry) → a ≤ n → b ≤ n →
    last_num m n (max a b) es ≡ max (last_num (λ e. r e.of e.change && m e) n a es) (last_num (λ e. s e.of e.change && m e) n b es)
last_split m r s cover n a b [] p q = refl
last_split m r s cover n a b (e ∷ es) p q =
    ap (λ x. last_num m (n + 1) x es) (both_at n a b (m e) (r e.of e.change) (s e.of e.change) p q (cover e))
    ∙ last_split m r s cover (n + 1) (if r e.of e.change && m e then n else a) (if s e.of e.change && m e then n else b) es (at_most _ n a p) (at_most _ n b q)

option_at : (b : Bool) (n before : ℕ) → 1 ≤ n → (if b then Some n else option_of before) ≡ option_of (if b then n else before)
option_at true zero before h = absurd (omega (arith, h))
option_at true (suc n) before h = refl
option_at false n before h = refl

last_numbered : (f : FileId) (p : PageNo) (n before : ℕ) (es : List LogEntry) → 1 ≤ n → last_from n (option_of before) f p es ≡ option_of (last_num (matters f p) n before es)
unfolding last_from last_at
last_numbered f p n before [] h = refl
last_numbered f p n before (e ∷ es) h =
    ap (λ x. last_from (n + 1) x f p es) (option_at (matters f p e) n before h)
    ∙ last_numbered f p (n + 1) (if matters f p e then n else before) es (omega arith)

write_covers : (a b c d x : Bool) → (((a && b) && c) && d) ≡ true → ((a && (b && c)) || x) ≡ true
write_covers true true true d x h = refl
write_covers true true false d x h = absurd (true≢false (sym h))
write_covers true false c d x h = absurd (true≢false (sym h))
write_covers false b c d x h = absurd (true≢false (sym h))

cut_covers : (a b c d : Bool) → (((a && b) && c) && d) ≡ true → (a && (b && true)) ≡ true
cut_covers true true c d h = refl
cut_covers true false c d h = absurd (true≢false (sym h))
cut_covers false b c d h = absurd (true≢false (sym h))

-- what touches a page is a change of it or a cut of its file
pub covers : (f : FileId) (p : PageNo) (o : LogOwner) (ch : Change) (d : Bool) → ((same_file o.file f && reaches ch o.page p) && d) ≡ true →
    (is_change_at (file_page f p) o ch || is_cut_at (file_page f (page_no 0)) o ch) ≡ true
covers f p o (Write bytes) d h = write_covers (o.file.server.0 == f.server.0) (o.file.ino == f.ino) (o.page.0 == p.0) d false h
covers f p o (Patch at bytes) d h = write_covers (o.file.server.0 == f.server.0) (o.file.ino == f.ino) (o.page.0 == p.0) d false h
covers f p o Cut d h = cut_covers (o.file.server.0 == f.server.0) (o.file.ino == f.ino) (nat_le o.page.0 p.0) d h

-- the last entry of a page, by the places of its own entries and of its file's cuts
pub last_by_places : (f : FileId) (p : PageNo) (es : List LogEntry) (ks cs : List ℕ) → ks ≡ places_from (is_change_at (file_page f p)) 0 es → cs ≡ places_from (is_cut_at (file_page f (page_no 0))) 0 es →
    option_of (max (last_place (matters f p) es 0 ks) (last_place (matters f p) es 0 cs)) ≡ last es f p
unfolding last
last_by_places f p es ks cs h k =
    let m = matters f p in
    let r = is_change_at (file_page f p) in
    let s = is_cut_at (file_page f (page_no 0)) in
    (λ i. option_of (max ((ap (last_place m es 0) h ∙ last_placed r m [] es 0 0 refl) i) ((ap (last_place m es 0) k ∙ last_placed s m [] es 0 0 refl) i)))
    ∙ ap option_of (sym (last_split m r s (λ e. covers f p e.of e.change (counts e.fate)) 1 0 0 es (omega arith) (omega arith)))
    ∙ sym (last_numbered f p 1 0 es (omega arith))

-- all places of a page lie in the log
pub places_in : (r : LogOwner → Change → Bool) (es xs : List LogEntry) (ks : List ℕ) → ks ≡ places_from r 0 es → xs ≡ es → (i : ℕ) → i < length ks → get_or ks i 0 < length xs
places_in r es xs ks h q i l = rw q (let b = places_below r 0 es i 0 (subst (λ x. i < length x) h l) in subst (λ x. get_or x i 0 < length es) (sym h) (omega (arith, b)))

pub same_or : (es : List LogEntry) (k : ℕ) (d e : LogEntry) → k < length es → get_or es k d ≡ get_or es k e
same_or [] k d e l = absurd (omega arith)
same_or (x ∷ es) zero d e l = refl
same_or (x ∷ es) (suc k) d e l = same_or es k d e (omega arith)

back_step : (m : LogEntry → Bool) (es : List LogEntry) (ks : List ℕ) (i : ℕ) (x : LogEntry) → i < length ks → get_or ks (length ks - 1 - i) 0 < length es →
    x ≡ get_or es (get_or ks (length ks - 1 - i) 0) x →
    last_place m es 0 (take (length ks - i) ks) ≡ (if m x then get_or ks (length ks - 1 - i) 0 + 1 else last_place m es 0 (take (length ks - (i + 1)) ks))
back_step m es ks i x l b h =
    let n : length ks - i ≡ suc (length ks - 1 - i) = omega arith in
    let o : length ks - 1 - i ≡ length ks - (i + 1) = omega arith in
    let seam : nth es (get_or ks (length ks - 1 - i) 0) ≡ get_or es (get_or ks (length ks - 1 - i) 0) x = same_or es (get_or ks (length ks - 1 - i) 0) _ x b in
    ap (λ j. last_place m es 0 (take j ks)) n
    ∙ last_step m es 0 ks (length ks - 1 - i) (omega arith)
    ∙ (λ j. if m ((seam ∙ sym h) j) then get_or ks (length ks - 1 - i) 0 + 1 else last_place m es 0 (take (o j) ks))

pub back_found : (m : LogEntry → Bool) (es : List LogEntry) (ks : List ℕ) (i : ℕ) (x : LogEntry) → i < length ks → get_or ks (length ks - 1 - i) 0 < length es →
    x ≡ get_or es (get_or ks (length ks - 1 - i) 0) x → m x ≡ true → last_place m es 0 (take (length ks - i) ks) ≡ last_place m es 0 ks → get_or ks (length ks - 1 - i) 0 + 1 ≡ last_place m es 0 ks
back_found m es ks i x l b h t inv =
    sym (ap (λ c. if c then get_or ks (length ks - 1 - i) 0 + 1 else last_place m es 0 (take (length ks - (i + 1)) ks)) t) ∙ sym (back_step m es ks i x l b h) ∙ inv

pub back_more : (m : LogEntry → Bool) (es : List LogEntry) (ks : List ℕ) (i : ℕ) (x : LogEntry) → i < length ks → get_or ks (length ks - 1 - i) 0 < length es →
    x ≡ get_or es (get_or ks (length ks - 1 - i) 0) x → m x ≡ false → last_place m es 0 (take (length ks - i) ks) ≡ last_place m es 0 ks →
    last_place m es 0 (take (length ks - (i + 1)) ks) ≡ last_place m es 0 ks
back_more m es ks i x l b h t inv =
    sym (ap (λ c. if c then get_or ks (length ks - 1 - i) 0 + 1 else last_place m es 0 (take (length ks - (i + 1)) ks)) t) ∙ sym (back_step m es ks i x l b h) ∙ inv
