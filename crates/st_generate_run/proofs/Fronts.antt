-- Pieces of a text, one after another.
use Rattle.std.proofs.Common.{◌≡◌, ℕ, List, [], ◌++◌, Option, Result, Ok, Err, OnOk, OnErr, length, take, drop, refl, sym, ap, ◌∙◌, subst, append_assoc, append-nil, take-append-drop}
use Rattle.std.proofs.Math.Seq.{take-append_seam}
use Rattle.std.proofs.KnownBytes.{Appends-nil, Appends-trans}
use Rattle.std.specs.Io.KnownBytes.{Appends}
use Rattle.st_link.specs.Prefixes.{AppendsPrefix}
use Rattle.st_generate_run.specs.Pieces.{Writes}

-- a prefix of a text was written
prefix_of : (a b : Option (List ℕ)) (text front rest : List ℕ) → Appends a b front → text ≡ front ++ rest → AppendsPrefix a b text
prefix_of a b text front rest h e = (length front, subst (Appends a b) (sym (ap (take (length front)) e ∙ take-append_seam front rest)) h)

-- nothing was written
pub nothing : (a : Option (List ℕ)) (text : List ℕ) → AppendsPrefix a a text
nothing a text = (0, Appends-nil a)

-- a prefix of a text is one of a longer text
pub longer : (a b : Option (List ℕ)) (text more : List ℕ) → AppendsPrefix a b text → AppendsPrefix a b (text ++ more)
longer a b text more h =
    prefix_of a b (text ++ more) (take h.0 text) (drop h.0 text ++ more) h.1
    (ap (λ t. t ++ more) (sym (take-append-drop h.0 text)) ∙ append_assoc (take h.0 text) (drop h.0 text) more)

-- a next piece
pub writes_next : (a b c : Option (List ℕ)) (whole text rest more : List ℕ) → Writes a b whole (text ++ more) → Writes b c text rest → Writes a c whole (rest ++ more)
writes_next a b c whole text rest more x y =
    record {
      written = x.written ++ y.written;
      wrote = Appends-trans a b c x.written y.written x.wrote y.wrote;
      whole =
          append_assoc x.written y.written (rest ++ more)
          ∙ ap (λ t. x.written ++ t) (sym (append_assoc y.written rest more) ∙ ap (λ t. t ++ more) y.whole)
          ∙ x.whole;
    }

-- a next piece fails
pub writes_cut : (a b c : Option (List ℕ)) (whole text more : List ℕ) → Writes a b whole (text ++ more) → AppendsPrefix b c text → AppendsPrefix a c whole
writes_cut a b c whole text more x h =
    prefix_of a c whole (x.written ++ take h.0 text) (drop h.0 text ++ more) (Appends-trans a b c x.written (take h.0 text) x.wrote h.1)
    (sym x.whole
    ∙ ap (λ t. x.written ++ (t ++ more)) (sym (take-append-drop h.0 text))
    ∙ ap (λ t. x.written ++ t) (append_assoc (take h.0 text) (drop h.0 text) more)
    ∙ sym (append_assoc x.written (take h.0 text) (drop h.0 text ++ more)))

-- nothing more is written
pub writes_stop : (a b : Option (List ℕ)) (whole rest more : List ℕ) → Writes a b whole rest → AppendsPrefix a b (whole ++ more)
writes_stop a b whole rest more x =
    prefix_of a b (whole ++ more) x.written (rest ++ more) x.wrote (ap (λ t. t ++ more) (sym x.whole) ∙ append_assoc x.written rest more)

-- the end is written
pub writes_end : (a b c : Option (List ℕ)) (whole rest more : List ℕ) → Writes a b whole rest → Appends b c (rest ++ more) → Appends a c (whole ++ more)
writes_end a b c whole rest more x h =
    subst (Appends a c) (sym (append_assoc x.written rest more) ∙ ap (λ t. t ++ more) x.whole) (Appends-trans a b c x.written (rest ++ more) x.wrote h)

-- the end fails
pub writes_end_cut : (a b c : Option (List ℕ)) (whole rest more : List ℕ) → Writes a b whole rest → AppendsPrefix b c (rest ++ more) → AppendsPrefix a c (whole ++ more)
writes_end_cut a b c whole rest more x h =
    writes_cut a b c (whole ++ more) (rest ++ more) []
    (record { written = x.written; wrote = x.wrote; whole = ap (λ t. x.written ++ t) (append-nil (rest ++ more)) ∙ sym (append_assoc x.written rest more) ∙ ap (λ t. t ++ more) x.whole })
    h

-- A line, and what is left after it.
behind_line : (text line more rest : List ℕ) → rest ≡ line ++ more → text ++ rest ≡ (text ++ line) ++ more
behind_line text line more rest e = ap (λ t. text ++ t) e ∙ sym (append_assoc text line more)

pub line_next : (a b c : Option (List ℕ)) (whole text line more rest left : List ℕ) → rest ≡ line ++ more → Writes a b whole (text ++ rest) → Writes b c (text ++ line) left → Writes a c whole (left ++ more)
line_next a b c whole text line more rest left e x y = writes_next a b c whole (text ++ line) left more (subst (Writes a b whole) (behind_line text line more rest e) x) y

pub line_cut : (a b c : Option (List ℕ)) (whole text line more rest : List ℕ) → rest ≡ line ++ more → Writes a b whole (text ++ rest) → AppendsPrefix b c (text ++ line) → AppendsPrefix a c whole
line_cut a b c whole text line more rest e x h = writes_cut a b c whole (text ++ line) more (subst (Writes a b whole) (behind_line text line more rest e) x) h

pub no_line : (a b : Option (List ℕ)) (whole text rest : List ℕ) → rest ≡ [] → Writes a b whole (text ++ rest) → Writes a b whole text
no_line a b whole text rest e x = subst (Writes a b whole) (ap (λ t. text ++ t) e ∙ append-nil text) x

pub on_both : {T E : Type 0} (r : Result T E) (P Q R : Type 0) → (P → Q → R) → OnOk r P → OnOk r Q → OnOk r R
on_both (Ok x) P Q R f h k = f h k
on_both (Err e) P Q R f h k = tt

pub on_err : {T E : Type 0} (r : Result T E) (P : Type 0) → P → OnErr r P
on_err (Ok x) P h = tt
on_err (Err e) P h = h
