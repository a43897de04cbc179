-- The bytes of a page, by the places of its own entries from the last cut on.
use Rattle.std.proofs.Common.{◌≡◌, ℕ, zero, suc, drop, get_or, ◌+◌, ◌<◌, ◌≤◌, Bool, true, false, if◌then◌else◌, List, [], ◌∷◌, ◌++◌, length, refl, sym, ap, subst, ◌∙◌, ◌⊎◌, inl, inr, ⊎_elim, arith, true≢false}
use Rattle.std.specs.Prelude.{◌&&◌, ◌||◌, nat_le, not}
use Rattle.std.proofs.lemmas.List.{append_assoc, length-append}
use Rattle.std.proofs.lemmas.Bool.{cases_Bool, and_parts, le-leb, lt-leb, leb-true}
use Rattle.std.proofs.Math.Seq.{get_or-append_seam}
use Rattle.st_base.specs.Page.{filled}
use Rattle.st_base.specs.declared.ids.FileId.{FileId}
use Rattle.st_base.specs.declared.ids.PageNo.{PageNo}
use Rattle.st_rules.specs.declared.log.Change.{Change}
use Rattle.st_rules.specs.declared.log.Change.TheVariants.{Write, Patch, Cut}
use Rattle.st_rules.specs.declared.log.LogEntry.{LogEntry}
use Rattle.st_rules.specs.Keys.{page_no}
use Rattle.st_rules.specs.FlatLog.{counts, matters, changed, after, content, content_from}
use Rattle.st_model.specs.PagePlaces.{is_write, same_file_page, file_page, is_bytes, is_change_at, is_cut_at, places_from, last_place, last_num, page_after, Skips}
use Rattle.st_model.specs.Walks.{nth}
use Rattle.st_model.proofs.Placed.{covers, last_placed, same_or}

cut_is : (b x : Bool) → (not b && x) ≡ true → b ≡ false
cut_is true x h = absurd (true≢false (sym h))
cut_is false x h = refl

cut_clears : (ch : Change) (page : List ℕ) → is_bytes ch ≡ false → changed ch page ≡ filled 0
cut_clears (Write bytes) page h = absurd (true≢false h)
cut_clears (Patch at bytes) page h = absurd (true≢false h)
cut_clears Cut page h = refl

after_on : (f : FileId) (p : PageNo) (e : LogEntry) (page : List ℕ) → matters f p e ≡ true → after f p e page ≡ changed e.change page
unfolding after
after_on f p e page h = ap (λ b. if b then changed e.change page else page) h

after_off : (f : FileId) (p : PageNo) (e : LogEntry) (page : List ℕ) → matters f p e ≡ false → after f p e page ≡ page
unfolding after
after_off f p e page h = ap (λ b. if b then changed e.change page else page) h

-- the last number is the one before or a later one
later_num : (m : LogEntry → Bool) (n b : ℕ) (es : List LogEntry) → (last_num m n b es ≡ b) ⊎ (n ≤ last_num m n b es)
later_num m n b [] = inl refl
later_num m n b (e ∷ es) =
    ⊎_elim
    (λ q. by_head (m e) q)
    (λ q. inr (omega (arith, q)))
    (later_num m (n + 1) (if m e then n else b) es)
  where
    by_head : (t : Bool) {c : ℕ} → c ≡ (if t then n else b) → (c ≡ b) ⊎ (n ≤ c)
    by_head true q = inr (omega (arith, q))
    by_head false q = inl q

same_arms : (b : Bool) (xs : List ℕ) → (if b then xs else xs) ≡ xs
same_arms true xs = refl
same_arms false xs = refl

nested : (b : Bool) (g : List ℕ → List ℕ) (page zs : List ℕ) → (if b then g page else zs) ≡ (if b then g (if b then page else zs) else (if b then page else zs))
nested true g page zs = refl
nested false g page zs = refl

neither : (m r s : Bool) → (m ≡ true → (r || s) ≡ true) → (s && m) ≡ false → r ≡ false → m ≡ false
neither true true s h q t = absurd (true≢false t)
neither true false true h q t = absurd (true≢false q)
neither true false false h q t = absurd (true≢false (sym (h refl)))
neither false r s h q t = refl

-- a number is at most n, or at most n + 1, alike, if it is not n + 1
alike : (c n : ℕ) → (c ≤ n) ⊎ (n + 2 ≤ c) → nat_le c (n + 1) ≡ nat_le c n
alike c n h = ⊎_elim
    (λ q. le-leb c (n + 1) (omega (arith, q)) ∙ sym (le-leb c n q))
    (λ q. lt-leb c (n + 1) (omega (arith, q)) ∙ sym (lt-leb c n (omega (arith, q))))
    h

module _ (f : FileId) (p : PageNo) where
  abbrev is_changed : LogEntry → Bool
  is_changed e = is_change_at (file_page f p) e.of e.change

  abbrev is_cut : LogEntry → Bool
  is_cut e = is_cut_at (file_page f (page_no 0)) e.of e.change && matters f p e

  -- one entry: the page of all entries from here on, and that of the page's own places
  one : (c n : ℕ) (e : LogEntry) (page : List ℕ) → (is_cut e ≡ true → n + 1 ≤ c) → (is_cut e ≡ false → (c ≤ n) ⊎ (n + 2 ≤ c)) →
      (if nat_le c (n + 1) then after f p e page else filled 0)
      ≡ (if is_changed e then (if nat_le c n then after f p e (if nat_le c n then page else filled 0) else (if nat_le c n then page else filled 0)) else (if nat_le c n then page else filled 0))
  one c n e page up apart =
      let s = is_cut_at (file_page f (page_no 0)) e.of e.change in
      let R = if nat_le c n then page else filled 0 in
      let G = if nat_le c n then after f p e R else R in
      ⊎_elim
      (λ (h : is_cut e ≡ true).
      let q = and_parts s (matters f p e) h in
      let nb = cut_is (is_bytes e.change) (same_file_page (file_page e.of.file (page_no 0)) (file_page f (page_no 0))) q.0 in
      ap (λ xs. if nat_le c (n + 1) then xs else filled 0) (after_on f p e page q.1 ∙ cut_clears e.change page nb)
      ∙ same_arms (nat_le c (n + 1)) (filled 0)
      ∙ sym (ap (λ b. if b then page else filled 0) (lt-leb c n (omega (arith, up h))))
      ∙ sym (ap (λ b. if b && same_file_page (file_page e.of.file e.of.page) (file_page f p) then G else R) nb))
      (λ (h : is_cut e ≡ false).
      ap (λ b. if b then after f p e page else filled 0) (alike c n (apart h))
      ∙ ⊎_elim
      (λ (r : is_changed e ≡ true). nested (nat_le c n) (after f p e) page (filled 0) ∙ sym (ap (λ b. if b then G else R) r))
      (λ (r : is_changed e ≡ false).
      ap (λ xs. if nat_le c n then xs else filled 0) (after_off f p e page (neither (matters f p e) (is_changed e) s (covers f p e.of e.change (counts e.fate)) h r))
      ∙ sym (ap (λ b. if b then G else R) r))
      (cases_Bool (is_changed e)))
      (cases_Bool (is_cut e))

  push_in : (b : Bool) (c n : ℕ) (es : List LogEntry) (page : List ℕ) (e : LogEntry) (ks : List ℕ) → nth es n ≡ e →
      page_after c f p es page (if b then n ∷ ks else ks) ≡ page_after c f p es (if b then (if nat_le c n then after f p e page else page) else page) ks
  push_in true c n es page e ks h = ap (λ x. page_after c f p es (if nat_le c n then after f p x page else page) ks) h
  push_in false c n es page e ks h = refl

  up_to : (b : Bool) (n k : ℕ) → k ≤ n → (if b then n + 1 else k) ≤ n + 1
  up_to true n k h = omega arith
  up_to false n k h = omega (arith, h)

  is_up : (b : Bool) (n k c : ℕ) → (c ≡ (if b then n + 1 else k)) ⊎ (n + 1 + 1 ≤ c) → b ≡ true → n + 1 ≤ c
  is_up true n k c q h = ⊎_elim (λ x. omega (arith, x)) (λ x. omega (arith, x)) q
  is_up false n k c q h = absurd (true≢false (sym h))

  is_apart : (b : Bool) (n k c : ℕ) → k ≤ n → (c ≡ (if b then n + 1 else k)) ⊎ (n + 1 + 1 ≤ c) → b ≡ false → (c ≤ n) ⊎ (n + 2 ≤ c)
  is_apart true n k c l q h = absurd (true≢false h)
  is_apart false n k c l q h = ⊎_elim (λ x. inl (omega (arith, x, l))) (λ x. inr (omega (arith, x))) q

  content_all : (pre es : List LogEntry) (n before : ℕ) (page : List ℕ) → length pre ≡ n → before ≤ n →
      content_from page f p es
      ≡ page_after (last_num is_cut (n + 1) before es) f p (pre ++ es) (if nat_le (last_num is_cut (n + 1) before es) n then page else filled 0) (places_from (is_change_at (file_page f p)) n es)
  unfolding content_from
  content_all pre [] n before page l h = sym (ap (λ b. if b then page else filled 0) (le-leb before n h))
  content_all pre (e ∷ es) n before page l h =
      let prior : ℕ = if is_cut e then n + 1 else before in
      let c : ℕ = last_num is_cut (n + 1 + 1) prior es in
      let P = places_from (is_change_at (file_page f p)) (n + 1) es in
      let q = later_num is_cut (n + 1 + 1) prior es in
      let seam : nth (pre ++ e ∷ es) n ≡ e = subst (λ k. nth (pre ++ e ∷ es) k ≡ e) l (get_or-append_seam pre e es _) in
      content_all (pre ++ e ∷ []) es (n + 1) prior (after f p e page) (length-append pre (e ∷ []) ∙ ap (λ k. k + 1) l) (up_to (is_cut e) n before h)
      ∙ (λ i. page_after c f p (append_assoc pre (e ∷ []) es i) (one c n e page (is_up (is_cut e) n before c q) (is_apart (is_cut e) n before c h q) i) P)
      ∙ sym (push_in (is_changed e) c n (pre ++ e ∷ es) (if nat_le c n then page else filled 0) e P seam)

  -- the bytes of a page, by the places of its own entries that come after the last cut
  pub content_by_places : (es : List LogEntry) (ks cs : List ℕ) → ks ≡ places_from (is_change_at (file_page f p)) 0 es → cs ≡ places_from (is_cut_at (file_page f (page_no 0))) 0 es →
      content es f p ≡ page_after (last_place (matters f p) es 0 cs) f p es (filled 0) ks
  unfolding content
  content_by_places es ks cs h k =
      let at : last_num is_cut 1 0 es ≡ last_place (matters f p) es 0 cs =
      sym (ap (last_place (matters f p) es 0) k ∙ last_placed (is_cut_at (file_page f (page_no 0))) (matters f p) [] es 0 0 refl) in
      content_all [] es 0 0 (filled 0) refl (omega arith)
      ∙ (λ i. page_after (at i) f p es (same_arms (nat_le (last_num is_cut 1 0 es) 0) (filled 0) i) (sym h i))

forgets : (ch : Change) (page zs : List ℕ) → is_write ch ≡ true → changed ch page ≡ changed ch zs
forgets (Write bytes) page zs h = refl
forgets (Patch at bytes) page zs h = absurd (true≢false (sym h))
forgets Cut page zs h = absurd (true≢false (sym h))

-- from a write on that counts, what was before is forgotten
pub skip_to : (f : FileId) (p : PageNo) (c : ℕ) (es : List LogEntry) (page zs : List ℕ) (ks : List ℕ) (j : ℕ) (x : LogEntry) → j < length ks → c ≤ get_or ks j 0 →
    nth es (get_or ks j 0) ≡ x → matters f p x ≡ true → is_write x.change ≡ true → page_after c f p es page ks ≡ page_after c f p es zs (drop j ks)
skip_to f p c es page zs [] j x l b q m w = absurd (omega arith)
skip_to f p c es page zs (k ∷ ks) zero x l b q m w =
    let on : nat_le c k ≡ true = le-leb c k b in
    ap (λ t. page_after c f p es (if t then after f p (nth es k) page else page) ks) on
    ∙ ap (λ y. page_after c f p es (after f p y page) ks) q
    ∙ ap (λ ys. page_after c f p es ys ks) (after_on f p x page m ∙ forgets x.change page zs w ∙ sym (after_on f p x zs m))
    ∙ ap (λ y. page_after c f p es (after f p y zs) ks) (sym q)
    ∙ sym (ap (λ t. page_after c f p es (if t then after f p (nth es k) zs else zs) ks) on)
skip_to f p c es page zs (k ∷ ks) (suc j) x l b q m w =
    skip_to f p c es (if nat_le c k then after f p (nth es k) page else page) zs ks j x (omega arith) b q m w

-- a write that counts, found from the back
pub skips_to : (f : FileId) (p : PageNo) (c : ℕ) (es : List LogEntry) (ks : List ℕ) (j k : ℕ) (x : LogEntry) → j < length ks → k ≡ get_or ks j 0 → k < length es →
    x ≡ get_or es k x → (nat_le c k && (matters f p x && is_write x.change)) ≡ true → Skips c f p es ks j
skips_to f p c es ks j k x l at low q h page =
    let all = and_parts (nat_le c k) (matters f p x && is_write x.change) h in
    let two = and_parts (matters f p x) (is_write x.change) all.1 in
    let below : c ≤ k = leb-true c k all.0 in
    let there : nth es (get_or ks j 0) ≡ x = ap (nth es) (sym at) ∙ same_or es k _ x low ∙ sym q in
    skip_to f p c es page page ks j x l (omega (arith, below, at)) there two.0 two.1
