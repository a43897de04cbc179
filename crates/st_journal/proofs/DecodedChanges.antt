-- A change is read exactly.
use Rattle.std.proofs.Common.{◌≡◌, ℕ, ◌+◌, ◌^◌, ◌≤◌, Bool, true, List, [], ◌∷◌, ◌++◌, length, get_or, Option, Some, None, refl, sym, ap, ◌∙◌, append_assoc, arith}
use Rattle.std.specs.Prelude.{◌&&◌, nat_le, nat_lt, Result, Ok, Err, IfOk, IfSome}
use Rattle.std.specs.Int.{w16, w32}
use Rattle.std.proofs.lemmas.Bool.{lt-ltb, leb-true, le-leb, eq-eqb, eqb-true, and_parts}
use Rattle.std.proofs.lemmas.List.{append-nil}
use Rattle.st_base.specs.declared.ids.PageNo.{PageNo}
use Rattle.st_journal.specs.Changes.{word16, word32, name, bytes_of, between, is_word32, is_ino, is_page, is_count, is_short, fits}
use Rattle.st_journal.specs.Changes.{Spells}
use Rattle.st_journal.specs.Decoder.{◌>>=◌, seq, made, checked, byte_at, text_at, word16_at, word32_at, ino_at, page_at, count_at, name_at, entry_at, allocate_at, cut_at, named_at, rename_at, change_numbered, change_at, ended, change_of}
use Rattle.st_journal.specs.declared.change.Change.{Change}
use Rattle.st_journal.specs.declared.change.Change.TheVariants.{Epoch, Allocate, Cut, Create, Mkdir, Remove, Rename}
use Rattle.st_journal.proofs.Exact.{IsBytes, Exact, After, bind_some, some_is, pair_exact, renamed, made_again, checked_exact, byte_exact, number_exact, text_exact, wide16, wide32, made_after, nothing_after, none_after, choice_after, not_none}

word16_exact : Exact word16_at word16 (λ n. nat_lt n (2 ^ 16))
unfolding word16_at word16
word16_exact = number_exact w16 (2 ^ 16) wide16

pub word32_exact : Exact word32_at word32 is_word32
unfolding word32_at word32
word32_exact = number_exact w32 (2 ^ 32) wide32

at_most : (least most n : ℕ) → between least most n ≡ true → n ≤ most
at_most least most n e = leb-true n most (and_parts (nat_le least n) (nat_le n most) e).1

ino_exact : Exact ino_at word32 is_ino
unfolding ino_at
ino_exact = checked_exact word32_at word32 is_word32 (between 1 4294967295) word32_exact (λ n e. lt-ltb n (2 ^ 32) (omega (arith, at_most 1 4294967295 n e)))

page_exact : Exact page_at (λ p. word32 p.0) (λ p. is_page p.0)
unfolding page_at
page_exact =
    renamed (λ bytes. checked (between 0 1048575) word32_at bytes) word32 (between 0 1048575) (λ n. record { 0 = n }) (λ p. p.0) (λ p. word32 p.0) (λ p. is_page p.0)
    (checked_exact word32_at word32 is_word32 (between 0 1048575) word32_exact (λ n e. lt-ltb n (2 ^ 32) (omega (arith, at_most 0 1048575 n e)))) (λ n e. (refl, e)) (λ p e. (refl, refl, e))

count_exact : (page : PageNo) → Exact (count_at page) word16 (is_count page.0)
unfolding count_at
count_exact page = checked_exact word16_at word16 (λ n. nat_lt n (2 ^ 16)) (is_count page.0) word16_exact
    (λ n e. lt-ltb n (2 ^ 16) (omega (arith, at_most 1 64 n (and_parts (between 1 64 n) (nat_le (page.0 + n) 1048576) e).0)))

name_exact : Exact name_at name is_short
unfolding name_at name
name_exact = record {
  sound = record {
    takes = λ bytes x b e.
        let n = bind_some (byte_at bytes) (λ n. text_at n.0 n.1) x e in
        let t₁ = byte_exact.sound.takes bytes n.0 b n.1 in
        let t₂ = (text_exact n.0.0).sound.takes n.0.1 x t₁.0.rest_fits n.2 in
        let long : length x.0 ≡ n.0.0 = eqb-true (length x.0) n.0.0 t₂.1 in
        let first : get_or bytes 0 0 ≡ n.0.0 = ap (λ (l : List ℕ). get_or l 0 0) t₁.0.parts in
        (record { parts = t₁.0.parts ∙ ap (λ (l : List ℕ). n.0.0 ∷ l) t₂.0.parts ∙ ap (λ (m : ℕ). m ∷ (x.0 ++ x.1)) (sym long); rest_fits = t₂.0.rest_fits }, le-leb (length x.0) 255 (omega (arith, b 0, first, long)));
  };
  again = λ a rest e. (text_exact (length a)).again a rest (eq-eqb (length a) (length a) refl);
}

abbrev spelled_entry : ℕ × List ℕ → List ℕ
spelled_entry p = word32 p.0 ++ name p.1

abbrev fits_entry : ℕ × List ℕ → Bool
fits_entry p = is_word32 p.0 && is_short p.1

entry_exact : Exact entry_at spelled_entry fits_entry
unfolding entry_at
entry_exact = pair_exact word32_at (λ dir. name_at) word32 name is_word32 (λ dir. is_short) word32_exact (λ dir. name_exact)

abbrev spelled_allocate : ℕ × (PageNo × ℕ) → List ℕ
spelled_allocate p = word32 p.0 ++ (word32 p.1.0.0 ++ word16 p.1.1)

abbrev fits_allocate : ℕ × (PageNo × ℕ) → Bool
fits_allocate p = is_ino p.0 && (is_page p.1.0.0 && is_count p.1.0.0 p.1.1)

allocate_exact : Exact (seq ino_at (λ ino. seq page_at count_at)) spelled_allocate fits_allocate
allocate_exact = pair_exact ino_at (λ ino. seq page_at count_at) word32 (λ q. word32 q.0.0 ++ word16 q.1) is_ino (λ ino q. is_page q.0.0 && is_count q.0.0 q.1) ino_exact
    (λ ino. pair_exact page_at count_at (λ p. word32 p.0) word16 (λ p. is_page p.0) (λ p. is_count p.0) page_exact count_exact)

abbrev spelled_cut : ℕ × PageNo → List ℕ
spelled_cut p = word32 p.0 ++ word32 p.1.0

abbrev fits_cut : ℕ × PageNo → Bool
fits_cut p = is_ino p.0 && is_page p.1.0

cut_exact : Exact (seq ino_at (λ ino. page_at)) spelled_cut fits_cut
cut_exact = pair_exact ino_at (λ ino. page_at) word32 (λ p. word32 p.0) is_ino (λ ino p. is_page p.0) ino_exact (λ ino. page_exact)

abbrev spelled_entries : (ℕ × List ℕ) × (ℕ × List ℕ) → List ℕ
spelled_entries p = spelled_entry p.0 ++ spelled_entry p.1

abbrev fits_entries : (ℕ × List ℕ) × (ℕ × List ℕ) → Bool
fits_entries p = fits_entry p.0 && fits_entry p.1

entries_exact : Exact (seq entry_at (λ from. entry_at)) spelled_entries fits_entries
entries_exact = pair_exact entry_at (λ from. entry_at) spelled_entry spelled_entry fits_entry (λ from. fits_entry) entry_exact (λ from. entry_exact)

abbrev Fits : Change → Type 0
Fits x = fits x ≡ true

change_after : (n : ℕ) → After n (change_numbered n) bytes_of Fits
unfolding change_numbered allocate_at cut_at named_at rename_at bytes_of fits
change_after n =
    choice_after n 1 _ _ bytes_of Fits (nothing_after 1 Epoch bytes_of Fits refl refl)
    (choice_after n 2 _ _ bytes_of Fits (made_after 2 (seq ino_at (λ ino. seq page_at count_at)) spelled_allocate fits_allocate (λ t. Allocate t.0 t.1.0 t.1.1) bytes_of Fits allocate_exact (λ t. ap (λ (w : List ℕ). 2 ∷ w) (append_assoc (word32 t.0) (word32 t.1.0.0) (word16 t.1.1))) (λ t e. e))
    (choice_after n 3 _ _ bytes_of Fits (made_after 3 (seq ino_at (λ ino. page_at)) spelled_cut fits_cut (λ t. Cut t.0 t.1) bytes_of Fits cut_exact (λ t. refl) (λ t e. e))
    (choice_after n 4 _ _ bytes_of Fits (made_after 4 entry_at spelled_entry fits_entry (λ t. Create t.0 t.1) bytes_of Fits entry_exact (λ t. refl) (λ t e. e))
    (choice_after n 5 _ _ bytes_of Fits (made_after 5 entry_at spelled_entry fits_entry (λ t. Mkdir t.0 t.1) bytes_of Fits entry_exact (λ t. refl) (λ t e. e))
    (choice_after n 6 _ _ bytes_of Fits (made_after 6 entry_at spelled_entry fits_entry (λ t. Remove t.0 t.1) bytes_of Fits entry_exact (λ t. refl) (λ t e. e))
    (choice_after n 7 _ _ bytes_of Fits (made_after 7 (seq entry_at (λ from. entry_at)) spelled_entries fits_entries (λ t. Rename t.0.0 t.0.1 t.1.0 t.1.1) bytes_of Fits entries_exact (λ t. refl) (λ t e. e))
    (none_after n bytes_of Fits)))))))

-- what fits and is spelled so is read
pub change_again : (x : Change) (rest : List ℕ) → Fits x → change_at (bytes_of x ++ rest) ≡ Some (x, rest)
unfolding change_at change_numbered allocate_at cut_at named_at rename_at bytes_of fits
change_again Epoch rest e = refl
change_again (Allocate ino page count) rest e =
    ap (λ (w : List ℕ). made (λ (t : ℕ × (PageNo × ℕ)). Allocate t.0 t.1.0 t.1.1) (seq ino_at (λ ino. seq page_at count_at)) (w ++ rest)) (append_assoc (word32 ino) (word32 page.0) (word16 count))
    ∙ made_again (seq ino_at (λ ino. seq page_at count_at)) spelled_allocate fits_allocate (λ t. Allocate t.0 t.1.0 t.1.1) allocate_exact (ino, (page, count)) rest e
change_again (Cut ino from) rest e = made_again (seq ino_at (λ ino. page_at)) spelled_cut fits_cut (λ t. Cut t.0 t.1) cut_exact (ino, from) rest e
change_again (Create dir n) rest e = made_again entry_at spelled_entry fits_entry (λ t. Create t.0 t.1) entry_exact (dir, n) rest e
change_again (Mkdir dir n) rest e = made_again entry_at spelled_entry fits_entry (λ t. Mkdir t.0 t.1) entry_exact (dir, n) rest e
change_again (Remove dir n) rest e = made_again entry_at spelled_entry fits_entry (λ t. Remove t.0 t.1) entry_exact (dir, n) rest e
change_again (Rename dir n dir2 n2) rest e = made_again (seq entry_at (λ from. entry_at)) spelled_entries fits_entries (λ t. Rename t.0.0 t.0.1 t.1.0 t.1.1) entries_exact ((dir, n), (dir2, n2)) rest e

-- what is read is spelled so, and fits
pub change_takes : (bytes : List ℕ) (x : Change × List ℕ) → IsBytes bytes → change_at bytes ≡ Some x → (bytes ≡ bytes_of x.0 ++ x.1) × Fits x.0
unfolding change_at
change_takes bytes x b e =
    let k = bind_some (byte_at bytes) (λ k. change_numbered k.0 k.1) x e in
    let t = byte_exact.sound.takes bytes k.0 b k.1 in
    let u = (change_after k.0.0).takes k.0.1 x t.0.rest_fits k.2 in
    (t.0.parts ∙ u.0, u.2)

ended_is : {A : Type 0} (p : A × List ℕ) (a : A) → ended p ≡ Some a → (p.0 ≡ a) × (p.1 ≡ [])
ended_is (b, []) a e = (some_is b a e, refl)
ended_is (b, n ∷ rest) a e = not_none ((b ≡ a) × (n ∷ rest ≡ [])) a e

-- the change whose bytes these are
pub found : (bytes : List ℕ) (x : Change) → IsBytes bytes → change_of bytes ≡ Some x → Spells bytes x
unfolding change_of
found bytes x b e =
    let p = bind_some (change_at bytes) (λ c. ended c) x e in
    let q = ended_is p.0 x p.2 in
    let t = change_takes bytes p.0 b p.1 in
    record {
      text = t.0 ∙ ap (λ (rest : List ℕ). bytes_of p.0.0 ++ rest) q.1 ∙ append-nil (bytes_of p.0.0) ∙ ap (λ (c : Change). bytes_of c) q.0;
      ranges = ap (λ (c : Change). fits c) (sym q.0) ∙ t.1;
    }

pub only : (bytes : List ℕ) (x : Change) → Spells bytes x → change_of bytes ≡ Some x
unfolding change_of
only bytes x s =
    ap (λ (b : List ℕ). change_at b >>= λ c. ended c) (s.text ∙ sym (append-nil (bytes_of x))) ∙ ap (λ (o : Option (Change × List ℕ)). o >>= λ c. ended c) (change_again x [] s.ranges)

-- what a call that read them answers
pub told_found : {E : Type 0} (r : Result (Option Change) E) (bytes : List ℕ) → IsBytes bytes → IfOk r (λ o. o ≡ change_of bytes) → IfOk r (λ o. IfSome o (λ x. Spells bytes x))
told_found (Ok (Some x)) bytes b e = found bytes x b (sym e)
told_found (Ok None) bytes b e = tt
told_found (Err f) bytes b e = tt

pub told_only : {E : Type 0} (r : Result (Option Change) E) (bytes : List ℕ) → IfOk r (λ o. o ≡ change_of bytes) → IfOk r (λ o. (x : Change) → Spells bytes x → o ≡ Some x)
told_only (Ok o) bytes e = λ x s. e ∙ only bytes x s
told_only (Err f) bytes e = tt
