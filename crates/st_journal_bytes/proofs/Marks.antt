-- The marks and the areas of a file that was read.
use Rattle.std.proofs.Common.{◌≡◌, ℕ, ◌+◌, ◌*◌, ◌^◌, ◌<◌, ◌≤◌, Bool, true, false, List, [], ◌∷◌, ◌++◌, length, get_or, take, drop, refl, sym, ap, ◌∙◌, subst, append_assoc, arith}
use Rattle.std.proofs.lemmas.List.{drop_at, get_or-append_right, length-append, length-drop, length-take, take-append-drop, take_at}
use Rattle.st_journal_file.specs.Layout.{OPEN, File, area_of, switch_of}
use Rattle.st_journal_bytes.specs.Files.{IsFile, IsMadeFile}
use Rattle.st_journal_bytes.specs.Headers.{HeaderFits, IsHeaded, header}
use Rattle.st_journal_bytes.specs.declared.file.Current.{Current}
use Rattle.st_journal_bytes.specs.declared.header.Header.{Header}
use Rattle.st_journal_bytes.specs.declared.header.Identity.{Identity}
use Rattle.st_journal_bytes.proofs.Headers.{length-header}

-- a file whose header has these bytes, with the marks that are read
record HasParts (bytes front : List ℕ) (area made switch : ℕ) : Type 0 where
  file : File
  found : IsFile bytes area file
  header_so : file.header ≡ front
  made_so : file.made ≡ made
  switch_so : file.switch ≡ switch

-- over plain bytes: a header, two marks, two areas and what follows
regroup : (h a b r : List ℕ) (m s : ℕ) → h ++ (m ∷ (s ∷ (a ++ (b ++ r)))) ≡ (h ++ (m ∷ (s ∷ (a ++ b)))) ++ r
regroup h a b r m s = simp append_assoc

-- two areas in front
two_parts : (area : ℕ) (tail : List ℕ) → tail ≡ take area tail ++ (take area (drop area tail) ++ drop area (drop area tail))
two_parts area tail = sym (take-append-drop area tail) ∙ ap (λ (l : List ℕ). take area tail ++ l) (sym (take-append-drop area (drop area tail)))

parts_in : (bytes front rest : List ℕ) (area : ℕ) → bytes ≡ front ++ rest → length front ≡ 110 → 112 + 2 * area ≤ length bytes → area < 2 ^ 32 →
    HasParts bytes front area (get_or rest 0 0) (get_or rest 1 0)
parts_in bytes front [] area e n long small = absurd (omega (arith, ap length e, n, long, length-append front []))
parts_in bytes front (m ∷ []) area e n long small = absurd (omega (arith, ap length e, n, long, length-append front (m ∷ [])))
parts_in bytes front (m ∷ s ∷ tail) area e n long small =
    let size : 2 * area ≤ length tail = omega (arith, ap length e, n, long, length-append front (m ∷ s ∷ tail)) in
    record {
      file = record { header = front; made = m; switch = s; first = take area tail; second = take area (drop area tail) };
      found = record {
        rest = drop area (drop area tail);
        parts = e ∙
            (ap (λ (l : List ℕ). front ++ (m ∷ (s ∷ l))) (two_parts area tail) ∙
            regroup front (take area tail) (take area (drop area tail)) (drop area (drop area tail)) m s);
        header = n;
        first = omega (arith, size, length-take area tail);
        second = omega (arith, size, length-take area (drop area tail), length-drop area tail);
        small = small;
      };
      header_so = refl;
      made_so = refl;
      switch_so = refl;
    }

-- a file whose marks were read after its header
pub made_file : (bytes : List ℕ) (h : Header) (wanted : Identity) (c : Current) → IsHeaded bytes h → c.header ≡ h → h.identity ≡ wanted →
    get_or bytes 110 0 ≡ OPEN → get_or bytes 111 0 ≡ switch_of c.second
    → 112 + 2 * h.area ≤ length bytes → h.area < 2 ^ 32 → IsMadeFile bytes wanted c
made_file bytes h wanted c i e id made switch long small = record {
  file = p.file;
  found = subst (λ (g : Header). IsFile bytes g.area p.file) (sym e) p.found;
  made = p.made_so ∙
      (sym (ap (λ (l : List ℕ). get_or l 110 0) i.parts ∙ get_or-append_right (header h) i.rest 110 110 0 (length-header h) (omega arith)) ∙ made);
  header = p.header_so ∙ ap header (sym e);
  fits = subst (λ (g : Header). HeaderFits g) (sym e) i.fits;
  identity = ap (λ (g : Header). g.identity) e ∙ id;
  switch = p.switch_so ∙
      (sym (ap (λ (l : List ℕ). get_or l 111 0) i.parts ∙ get_or-append_right (header h) i.rest 110 111 0 (length-header h) (omega arith)) ∙ switch);
}
  where
    p : HasParts bytes (header h) h.area (get_or i.rest 0 0) (get_or i.rest 1 0)
    p = parts_in bytes (header h) i.rest h.area i.parts (length-header h) long small

-- The areas of a file that was made.

spread : (h a b r : List ℕ) (m s : ℕ) → (h ++ (m ∷ (s ∷ (a ++ b)))) ++ r ≡ (h ++ (m ∷ s ∷ [])) ++ (a ++ (b ++ r))
spread h a b r m s = simp append_assoc

areas_are : (bytes : List ℕ) (area : ℕ) (b : File) → (i : IsFile bytes area b) → drop 112 bytes ≡ b.first ++ (b.second ++ i.rest)
areas_are bytes area b i =
    let front : List ℕ = b.header ++ (b.made ∷ b.switch ∷ []) in
    ap (λ (l : List ℕ). drop 112 l) (i.parts ∙ spread b.header b.first b.second i.rest b.made b.switch)
    ∙ drop_at front (b.first ++ (b.second ++ i.rest)) 112 (omega (arith, i.header, length-append b.header (b.made ∷ b.switch ∷ [])))

pub first_area : (bytes : List ℕ) (wanted : Identity) (c : Current) (n : ℕ) → (m : IsMadeFile bytes wanted c) → c.second ≡ false → n ≡ c.header.area →
    take n (drop 112 bytes) ≡ area_of c.second m.file
first_area bytes wanted c n m e size =
    ap (λ (l : List ℕ). take n l) (areas_are bytes c.header.area m.file m.found)
    ∙ (take_at m.file.first (m.file.second ++ m.found.rest) n (omega (arith, m.found.first, size)) ∙ ap (λ (b : Bool). area_of b m.file) (sym e))

pub second_area : (bytes : List ℕ) (wanted : Identity) (c : Current) (n at : ℕ) → (m : IsMadeFile bytes wanted c) → c.second ≡ true → n ≡ c.header.area →
    at ≡ 112 + c.header.area → take n (drop at bytes) ≡ area_of c.second m.file
second_area bytes wanted c n at m e size place =
    ap (λ (l : List ℕ). take n l) behind ∙
    (take_at m.file.second m.found.rest n (omega (arith, m.found.second, size)) ∙ ap (λ (b : Bool). area_of b m.file) (sym e))
  where
    front : List ℕ
    front = (m.file.header ++ (m.file.made ∷ m.file.switch ∷ [])) ++ m.file.first

    behind : drop at bytes ≡ m.file.second ++ m.found.rest
    behind =
        ap (λ (l : List ℕ). drop at l)
        (m.found.parts ∙ (spread m.file.header m.file.first m.file.second m.found.rest m.file.made m.file.switch
        ∙ sym (append_assoc (m.file.header ++ (m.file.made ∷ m.file.switch ∷ [])) m.file.first (m.file.second ++ m.found.rest))))
        ∙ drop_at front (m.file.second ++ m.found.rest) at
        (omega (
          arith,
          place,
          m.found.header,
          m.found.first,
          length-append (m.file.header ++ (m.file.made ∷ m.file.switch ∷ [])) m.file.first,
          length-append m.file.header (m.file.made ∷ m.file.switch ∷ []),
        ))
