-- Lines, from their front.
use Rattle.std.proofs.Common.{
  ◌≡◌,
  ℕ,
  ◌+◌,
  ◌<◌,
  Bool,
  true,
  false,
  cond,
  List,
  [],
  ◌∷◌,
  ◌++◌,
  length,
  take,
  drop,
  get_or,
  refl,
  sym,
  ◌∙◌,
  ap,
  subst,
  add-one,
  drop-cons,
  take-append-drop,
}
use Rattle.std.specs.Prelude.{◌==◌, ◌&&◌, not, Some}
use Rattle.std.proofs.lemmas.List.{append_assoc}
use Rattle.st_runs.specs.Schedule.{onto, lines_of}
use Rattle.st_replay.specs.Pieces.{onto_first, whole_lines}
use Rattle.st_replay.specs.States.{HasNone, Handled, IsFirst}

both_true : (a b : Bool) → (a && b) ≡ true → (a ≡ true) × (b ≡ true)
both_true true b h = (refl, h)
both_true false b h = absurd (cc)

is_false : (a : Bool) → not a ≡ true → a ≡ false
is_false true h = absurd (cc)
is_false false h = refl

-- the first of bytes without a newline, and the others
first_none : (b : ℕ) (h : List ℕ) → HasNone (b ∷ h) → ((b == 10) ≡ false) × HasNone h
first_none b h k = let z = both_true (not (b == 10)) _ k in (is_false (b == 10) z.0, z.1)

pub none_both : (h g : List ℕ) → HasNone h → HasNone g → HasNone (h ++ g)
none_both [] g k l = l
none_both (b ∷ h) g k l = let z = first_none b h k in rw (z.0) (none_both h g z.1 l)

chosen_false : {X : Type 0} (t : Bool) (x y : X) → t ≡ false → cond t x y ≡ y
chosen_false t x y e = ap (λ c. cond c x y) e

lines_none : (h x : List ℕ) → HasNone h → lines_of (h ++ 10 ∷ x) ≡ h ∷ lines_of x
lines_none [] x k = refl
lines_none (b ∷ h) x k = let z = first_none b h k in
    chosen_false (b == 10) ([] ∷ lines_of (h ++ 10 ∷ x)) (onto b (lines_of (h ++ 10 ∷ x))) z.0 ∙ ap (onto b) (lines_none h x z.1)

wholes_none : (h x : List ℕ) → HasNone h → whole_lines (h ++ 10 ∷ x) ≡ h ∷ whole_lines x
unfolding whole_lines
wholes_none [] x k = refl
wholes_none (b ∷ h) x k = let z = first_none b h k in
    chosen_false (b == 10) ([] ∷ whole_lines (h ++ 10 ∷ x)) (onto_first b (whole_lines (h ++ 10 ∷ x))) z.0 ∙ ap (onto_first b) (wholes_none h x z.1)

-- bytes without a newline have no whole line
pub no_wholes : (h : List ℕ) → HasNone h → whole_lines h ≡ []
unfolding whole_lines
no_wholes [] k = refl
no_wholes (b ∷ h) k = let z = first_none b h k in chosen_false (b == 10) ([] ∷ whole_lines h) (onto_first b (whole_lines h)) z.0
    ∙ ap (onto_first b) (no_wholes h z.1)

-- and they are one line, if there are any
abbrev pub one : List ℕ → List (List ℕ)
one [] = []
one (b ∷ bs) = (b ∷ bs) ∷ []

onto-one : (b : ℕ) (h : List ℕ) → onto b (one h) ≡ (b ∷ h) ∷ []
onto-one b [] = refl
onto-one b (c ∷ h) = refl

pub one_line : (h : List ℕ) → HasNone h → lines_of h ≡ one h
one_line [] k = refl
one_line (b ∷ h) k = let z = first_none b h k in
    chosen_false (b == 10) ([] ∷ lines_of h) (onto b (lines_of h)) z.0 ∙ ap (onto b) (one_line h z.1) ∙ onto-one b h

-- bytes without a newline begin the first line of whatever follows them
pub record Begins (h : List ℕ) (ls : List (List ℕ)) : Type 0 where
  pub end : List ℕ
  pub others : List (List ℕ)
  pub are : ls ≡ (h ++ end) ∷ others

onto_any : (b : ℕ) (ls : List (List ℕ)) → Begins (b ∷ []) (onto b ls)
onto_any b [] = record { end = []; others = []; are = refl }
onto_any b (l ∷ ls) = record { end = l; others = ls; are = refl }

pub line_begins : (b : ℕ) (h more : List ℕ) → HasNone (b ∷ h) → Begins (b ∷ h) (lines_of ((b ∷ h) ++ more))
line_begins b [] more k = let z = first_none b [] k in let y = onto_any b (lines_of more) in
    record { end = y.end; others = y.others; are = chosen_false (b == 10) ([] ∷ lines_of more) (onto b (lines_of more)) z.0 ∙ y.are }
line_begins b (c ∷ h) more k = let z = first_none b (c ∷ h) k in let y = line_begins c h more z.1 in
    record {
      end = y.end;
      others = y.others;
      are = chosen_false (b == 10) ([] ∷ lines_of ((c ∷ h) ++ more)) (onto b (lines_of ((c ∷ h) ++ more))) z.0 ∙ ap (onto b) y.are;
    }

-- Lines that are handled.

pub none_handled : (bytes : List ℕ) → Handled bytes bytes []
none_handled bytes = record { lines = λ more. refl; wholes = λ more. refl }

-- the bytes at the first newline
pub at_newline : (bs : List ℕ) (at : ℕ) → at < length bs → get_or bs at 0 ≡ 10 → bs ≡ take at bs ++ 10 ∷ drop (at + 1) bs
at_newline bs at h e = sym (take-append-drop at bs) ∙ ap (λ t. take at bs ++ t) (drop-cons bs at 0 h ∙ rw (e, add-one) refl)

pub split_there : (bs part after : List ℕ) (at : ℕ) → IsFirst bs (Some at) → part ≡ take at bs → after ≡ drop (at + 1) bs → bs ≡ part ++ 10 ∷ after
split_there bs part after at h e f = at_newline bs at h.0 h.1 ∙ ap (λ t. t ++ 10 ∷ drop (at + 1) bs) (sym e) ∙ ap (λ t. part ++ 10 ∷ t) (sym f)

pub none_there : (bs part : List ℕ) (at : ℕ) → IsFirst bs (Some at) → part ≡ take at bs → HasNone part
none_there bs part at h e = subst HasNone (sym e) h.2

-- held bytes, a line's other bytes and a newline, and what follows
joined : (h part rest after more : List ℕ) → rest ≡ part ++ 10 ∷ after → (h ++ rest) ++ more ≡ (h ++ part) ++ 10 ∷ (after ++ more)
joined h part rest after more e =
    ap (λ t. (h ++ t) ++ more) e ∙ ap (λ t. t ++ more) (sym (append_assoc h part (10 ∷ after))) ∙ append_assoc (h ++ part) (10 ∷ after) more

behind_one : (ls : List (List ℕ)) (l : List ℕ) (more : List (List ℕ)) → ls ++ l ∷ more ≡ (ls ++ l ∷ []) ++ more
behind_one ls l more = sym (append_assoc ls (l ∷ []) more)

pub one_handled : (bytes h rest part after : List ℕ) (ls : List (List ℕ)) → rest ≡ part ++ 10 ∷ after → HasNone h → HasNone part →
    Handled bytes (h ++ rest) ls → Handled bytes after (ls ++ (h ++ part) ∷ [])
one_handled bytes h rest part after ls e k l handled = record {
  lines = λ more. handled.lines more ∙ ap (λ x. ls ++ lines_of x) (joined h part rest after more e)
      ∙ ap (λ x. ls ++ x) (lines_none (h ++ part) (after ++ more) (none_both h part k l)) ∙ behind_one ls (h ++ part) (lines_of (after ++ more));
  wholes = λ more. handled.wholes more ∙ ap (λ x. ls ++ whole_lines x) (joined h part rest after more e)
      ∙ ap (λ x. ls ++ x) (wholes_none (h ++ part) (after ++ more) (none_both h part k l)) ∙ behind_one ls (h ++ part) (whole_lines (after ++ more));
}

-- one piece more
pub more_handled : (bytes held piece holds : List ℕ) (ls new : List (List ℕ)) → Handled bytes held ls → Handled (held ++ piece) holds new →
    Handled (bytes ++ piece) holds (ls ++ new)
more_handled bytes held piece holds ls new a b = record {
  lines = λ more. ap lines_of (append_assoc bytes piece more) ∙ a.lines (piece ++ more) ∙ ap (λ x. ls ++ lines_of x) (sym (append_assoc held piece more))
      ∙ ap (λ x. ls ++ x) (b.lines more) ∙ sym (append_assoc ls new (lines_of (holds ++ more)));
  wholes = λ more. ap whole_lines (append_assoc bytes piece more) ∙ a.wholes (piece ++ more)
      ∙ ap (λ x. ls ++ whole_lines x) (sym (append_assoc held piece more))
      ∙ ap (λ x. ls ++ x) (b.wholes more) ∙ sym (append_assoc ls new (whole_lines (holds ++ more)));
}
