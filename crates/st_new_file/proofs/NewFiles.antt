-- What a new file is in the histories of journals' files, and what a file is that is opened.
use Rattle.std.proofs.Common.{◌≡◌, ℕ, ◌+◌, ◌≤◌, Bool, true, false, List, [], ◌∷◌, ◌++◌, length, take, drop, Some, refl, sym, ap, subst, ◌∙◌, arith, append-nil, append_assoc, length-append}
use Rattle.std.proofs.lemmas.List.{drop_at, take-append-drop, take-append-le, take_at}
use Rattle.st_extents.specs.Layout.{Shape}
use Rattle.st_journal_bytes.proofs.Headers.{length-header}
use Rattle.st_journal_bytes.proofs.Scans.{length-part}
use Rattle.st_journal_bytes.specs.Files.{HEADER_LENGTH, IsFile, file_bytes}
use Rattle.st_journal_bytes.specs.Headers.{HeaderFits, header}
use Rattle.st_journal_bytes.specs.Moments.{Dated, dated}
use Rattle.st_journal_bytes.specs.Plain.{plain}
use Rattle.st_journal_bytes.specs.declared.header.Header.{Header}
use Rattle.st_journal_file.proofs.Held.{HoldsIn, IsResting, reached}
use Rattle.st_journal_file.specs.Histories as phases
use Rattle.st_journal_file.specs.Histories.{IsFormed, IsReached, Phase}
use Rattle.st_journal_file.specs.Layout.{CLOSED, File, Format, StandsFor, part}
use Rattle.st_kept_histories.specs.Histories.{IsFileOf, Past}
use Rattle.st_kept_histories.specs.Kept.{snapshot_of}
use Rattle.st_new_file.specs.NewFile.{new_file}
use Rattle.st_server_states.specs.States.{Keeps, RangedChange, State, states}

-- equal lists whose first parts have one length have equal parts

first_same : (xs ys r q : List ℕ) → length xs ≡ length ys → xs ++ r ≡ ys ++ q → xs ≡ ys
first_same xs ys r q n e = sym (take_at xs r (length ys) n) ∙ (ap (λ (l : List ℕ). take (length ys) l) e ∙ take_at ys q (length ys) refl)

second_same : (xs ys r q : List ℕ) → length xs ≡ length ys → xs ++ r ≡ ys ++ q → r ≡ q
second_same xs ys r q n e = sym (drop_at xs r (length ys) n) ∙ (ap (λ (l : List ℕ). drop (length ys) l) e ∙ drop_at ys q (length ys) refl)

head_is : (a b : ℕ) (xs ys : List ℕ) → a ∷ xs ≡ b ∷ ys → a ≡ b
head_is a b xs ys e = cc

tail_is : (a b : ℕ) (xs ys : List ℕ) → a ∷ xs ≡ b ∷ ys → xs ≡ ys
tail_is a b xs ys e = cc

-- a list that begins with another one, if it is as long
longer : (xs first r q : List ℕ) → length xs ≤ length first → xs ++ r ≡ first ++ q → first ≡ xs ++ drop (length xs) first
longer xs first r q few e =
    let front : take (length xs) first ≡ xs =
    sym (take-append-le (length xs) first q few) ∙ (ap (λ (l : List ℕ). take (length xs) l) (sym e) ∙ take_at xs r (length xs) refl) in
    sym (take-append-drop (length xs) first) ∙ ap (λ (l : List ℕ). l ++ drop (length xs) first) front

module _ (s : Shape) (k : Keeps s) (start : Dated (State s)) (h : Header) where
  abbrev F : Format (Dated (State s)) (Dated RangedChange)
  F = dated (states s k)

  abbrev snap : List ℕ
  snap = snapshot_of start.moment start.made.stable

  part_same : part plain snap ≡ part F (F.snapshot start)
  unfolding part
  part_same = refl

  area_of_new : (first r q : List ℕ) → (part plain snap ++ CLOSED ∷ []) ++ r ≡ first ++ q → length snap + 13 ≤ length first → StandsFor F start first []
  area_of_new first r q e few =
      let whole : List ℕ = part plain snap ++ CLOSED ∷ [] in
      let size : length whole ≡ length (part plain snap) + 1 = length-append (part plain snap) (CLOSED ∷ []) in
      let long : length (part plain snap) ≡ length snap + 12 = length-part snap in
      record {
        snapshot = start;
        records = [];
        area = record {
          rest = drop (length whole) first;
          parts = longer whole first r q (omega (arith, size, long, few)) e ∙
              (append_assoc (part plain snap) (CLOSED ∷ []) (drop (length whole) first) ∙
              ap (λ (l : List ℕ). l ++ CLOSED ∷ drop (length whole) first) (part_same ∙ sym (append-nil (part F (F.snapshot start)))));
        };
        leads = refl;
      }

  pub formed : (bytes rest : List ℕ) (b : File) → bytes ≡ new_file h start.moment start.made.stable ++ rest → IsFile bytes h.area b →
      length snap + 13 ≤ h.area → IsFormed F start (header h) b
  formed bytes rest b e f room =
      let more : List ℕ = part plain snap ++ CLOSED ∷ [] in
      let whole : header h ++ (CLOSED ∷ CLOSED ∷ (more ++ rest)) ≡ b.header ++ (b.made ∷ (b.switch ∷ ((b.first ++ b.second) ++ f.rest))) =
      sym (append_assoc (header h) (CLOSED ∷ CLOSED ∷ more) rest) ∙
      (sym e ∙ (f.parts ∙ append_assoc b.header (b.made ∷ (b.switch ∷ (b.first ++ b.second))) f.rest)) in
      let long : length (header h) ≡ length b.header = length-header h ∙ sym f.header in
      let behind = second_same (header h) b.header (CLOSED ∷ CLOSED ∷ (more ++ rest)) (b.made ∷ (b.switch ∷ ((b.first ++ b.second) ++ f.rest))) long whole in
      let marks = tail_is CLOSED b.made (CLOSED ∷ (more ++ rest)) (b.switch ∷ ((b.first ++ b.second) ++ f.rest)) behind in
      let areas = tail_is CLOSED b.switch (more ++ rest) ((b.first ++ b.second) ++ f.rest) marks in
      record {
        blank = sym (head_is CLOSED b.made (CLOSED ∷ (more ++ rest)) (b.switch ∷ ((b.first ++ b.second) ++ f.rest)) behind);
        header_so = sym (first_same (header h) b.header (CLOSED ∷ CLOSED ∷ (more ++ rest)) (b.made ∷ (b.switch ∷ ((b.first ++ b.second) ++ f.rest))) long whole);
        switch = sym (head_is CLOSED b.switch (more ++ rest) ((b.first ++ b.second) ++ f.rest) marks);
        area = area_of_new b.first rest (b.second ++ f.rest) (areas ∙ append_assoc b.first b.second f.rest) (let size = f.first in omega (arith, size, room));
      }

  pub opened : (bytes : List ℕ) (p : Past s) → HeaderFits h → IsReached F start (header h) p → p.phase ≡ phases.Idle → p.waiting ≡ [] →
      IsFile bytes h.area p.seen → IsFileOf s h.identity bytes p
  opened bytes p fits r idle waiting f =
      let resting : IsResting F start (header h) p =
      subst (λ (q : Phase (Dated (State s)) (Dated RangedChange)). HoldsIn F start (header h) q p) idle (reached F start (header h) p r) in
      record {
        current = record { second = p.current; header = h };
        made = record {
          file = p.seen;
          found = f;
          made = resting.new.made;
          header = resting.new.header_so;
          fits = fits;
          identity = refl;
          switch = resting.new.switch;
        };
        seen = refl;
        second = refl;
        idle = idle;
        waiting = waiting;
      }
