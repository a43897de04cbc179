-- What a crash leaves of a journal's file is opened, whatever happened before.
use Rattle.std.proofs.Common.{◌≡◌, ◌⊎◌, ℕ, Bool, true, false, List, [], ◌∷◌, ◌++◌, refl, sym, ap, ◌∙◌, subst, inl, inr, append_assoc, append-nil}
use Rattle.std.specs.Prelude.{Option, Some, not}
use Rattle.st_journal_file.specs.Histories.{Gate, AreEither, IsEither, IsBegunBy, IsFirst, IsFormed, IsFound, IsLeft, IsReached, Keeper, Phase, Blank, Forming, Formed, Marking, Idle, Writing, Written, Opening, Prepared, Switching, behind, closed_at, group_of, opened_at}
use Rattle.st_journal_file.specs.Layout.{CLOSED, OPEN, Format, File, IsBlank, IsMade, StandsFor, after_changes, area_of, front, switch_of}
use Rattle.st_journal_file.proofs.Bytes.{GoesOn, IsOneOf, are_of, are_same, area_left, either_of, either_same, front_stays, mark_left}
use Rattle.st_journal_file.proofs.Groups.{closed_stands, opened_stands}
use Rattle.st_journal_file.proofs.Held.{HoldsIn, IsBlankStill, IsForming, IsFormedStill, IsMarked, IsMarking, IsOpening, IsPrepared, IsResting, IsSwitching, IsWriting, IsWritten, reached}

-- the changes that are kept, and of those that wait none or a group

none_more : {C : Type 0} (kept waiting : List C) → IsBegunBy kept (kept ++ waiting)
none_more kept waiting = record { others = waiting; parts = refl }

begun_by_itself : {C : Type 0} (xs : List C) → IsBegunBy xs xs
begun_by_itself xs = record { others = []; parts = sym (append-nil xs) }

group_more : {C : Type 0} (kept group waiting : List C) → IsFirst group waiting → IsBegunBy (kept ++ group) (kept ++ waiting)
group_more {C = C} kept group waiting i = record { others = i.later; parts = ap (λ (ys : List C). kept ++ ys) i.parts ∙ sym (append_assoc kept group i.later) }

module _ {S C : Type 0} (f : Format S C) (start : S) (header : List ℕ) where
  blank_left : (k : Keeper S C) (left : File) → k.kept ≡ [] → left.made ≡ CLOSED → IsFound f start header k left
  blank_left k left none blank = record {
    changes = [];
    stands = inr (record { blank = blank; none = refl });
    kept = subst (λ (xs : List C). IsBegunBy xs []) (sym none) (begun_by_itself []);
    made = record { others = k.kept ++ k.waiting; parts = refl };
  }

  -- a file stands for what is kept, and for a group too
  kept_left : (k : Keeper S C) (left : File) (current : Bool) → IsMade f start header left current k.kept → IsFound f start header k left
  kept_left k left current m = record { changes = k.kept; stands = inl (current, m); kept = begun_by_itself k.kept; made = none_more k.kept k.waiting }

  group_left : (k : Keeper S C) (left : File) (current : Bool) (group : List C) → IsFirst group k.waiting → IsMade f start header left current (k.kept ++ group) → IsFound f start header k left
  group_left k left current group i m = record {
    changes = k.kept ++ group;
    stands = inl (current, m);
    kept = none_more k.kept group;
    made = group_more k.kept group k.waiting i;
  }

  -- the header and the marks were written so and synced so
  made_left : (synced seen left : File) (current : Bool) (changes : List C) → IsMarked header current synced → IsMarked header current seen → IsLeft synced seen left →
      StandsFor f start (area_of current left) changes → IsMade f start header left current changes
  made_left synced seen left current changes old new l stands = record {
    made = either_of synced.made seen.made OPEN left.made old.made new.made l.made;
    header_so = are_of synced.header seen.header header left.header old.header_so new.header_so l.header;
    switch = either_of synced.switch seen.switch (switch_of current) left.switch old.switch new.switch l.switch;
    area = stands;
  }

  at_area : (xs ys : List ℕ) (changes : List C) → xs ≡ ys → StandsFor f start ys changes → StandsFor f start xs changes
  at_area xs ys changes e s = subst (λ (zs : List ℕ). StandsFor f start zs changes) (sym e) s

  -- what is left of a file that is formed, while its mark is written
  formed_left : (k : Keeper S C) (left : File) → IsFormed f start header k.synced → k.seen ≡ record k.synced { made = OPEN } → k.kept ≡ [] → IsLeft k.synced k.seen left → IsFound f start header k left
  formed_left k left i e none l = by left_so.made
    where
      left_so : IsLeft k.synced (record k.synced { made = OPEN }) left
      left_so = subst (λ (s : File). IsLeft k.synced s left) e l

      by : IsEither k.synced.made OPEN left.made → IsFound f start header k left
      by (inl closed) = blank_left k left none (closed ∙ i.blank)
      by (inr marked) = kept_left k left false (record {
        made = marked;
        header_so = are_same k.synced.header left.header left_so.header ∙ i.header_so;
        switch = either_same k.synced.switch left.switch left_so.switch ∙ i.switch;
        area = subst (λ (xs : List C). StandsFor f start left.first xs) (sym none) (at_area left.first k.synced.first [] (are_same k.synced.first left.first left_so.first) i.area);
      })

  resting_left : (k : Keeper S C) (left : File) → IsResting f start header k → IsLeft k.synced k.seen left → IsFound f start header k left
  resting_left k left h l = kept_left k left k.current (made_left k.synced k.seen left k.current k.kept h.old h.new l
      (at_area (area_of k.current left) (area_of k.current k.seen) k.kept
      (are_of (area_of k.current k.synced) (area_of k.current k.seen) (area_of k.current k.seen) (area_of k.current left) h.same refl (area_left k.current k.synced k.seen left l)) h.stands))

  -- after a closed gate anything may follow
  writing_left : (k : Keeper S C) (left : File) (g : Gate S C) (r q : List ℕ) → IsMarked header k.current k.synced → IsMarked header k.current k.seen →
      after_changes f (Some g.snapshot) g.records ≡ after_changes f (Some start) k.kept →
      area_of k.current k.synced ≡ front f g.snapshot g.records ++ CLOSED ∷ r → area_of k.current k.seen ≡ front f g.snapshot g.records ++ CLOSED ∷ q →
      IsLeft k.synced k.seen left → IsFound f start header k left
  writing_left k left g r q old new leads was is l = kept_left k left k.current (made_left k.synced k.seen left k.current k.kept old new l (stands (front_stays (front f g.snapshot g.records ++ CLOSED ∷ []) r q (area_of k.current left) either)))
    where
      shut_on : (xs : List ℕ) → front f g.snapshot g.records ++ CLOSED ∷ xs ≡ (front f g.snapshot g.records ++ CLOSED ∷ []) ++ xs
      shut_on xs = sym (append_assoc (front f g.snapshot g.records) (CLOSED ∷ []) xs)

      either : AreEither ((front f g.snapshot g.records ++ CLOSED ∷ []) ++ r) ((front f g.snapshot g.records ++ CLOSED ∷ []) ++ q) (area_of k.current left)
      either =
          subst (λ (ys : List ℕ). AreEither ((front f g.snapshot g.records ++ CLOSED ∷ []) ++ r) ys (area_of k.current left)) (is ∙ shut_on q)
          (subst (λ (xs : List ℕ). AreEither xs (area_of k.current k.seen) (area_of k.current left)) (was ∙ shut_on r) (area_left k.current k.synced k.seen left l))

      stands : GoesOn (front f g.snapshot g.records ++ CLOSED ∷ []) r q (area_of k.current left) → StandsFor f start (area_of k.current left) k.kept
      stands on = closed_stands f start k.kept g on.rest (area_of k.current left) (on.parts ∙ sym (shut_on on.rest)) leads

  -- a gate that is being opened is closed or open
  opening_left : (k : Keeper S C) (left : File) (g : Gate S C) → IsOpening f start header g k → IsLeft k.synced k.seen left → IsFound f start header k left
  opening_left k left g h l = gate (front_stays (front f g.snapshot g.records) (CLOSED ∷ behind f g) (OPEN ∷ behind f g) (area_of k.current left) either)
    where
      either : AreEither (closed_at f g) (opened_at f g) (area_of k.current left)
      either =
          subst (λ (ys : List ℕ). AreEither (closed_at f g) ys (area_of k.current left)) h.is
          (subst (λ (xs : List ℕ). AreEither xs (area_of k.current k.seen) (area_of k.current left)) h.was (area_left k.current k.synced k.seen left l))

      whole : (mark n : ℕ) (rest : List ℕ) → area_of k.current left ≡ front f g.snapshot g.records ++ rest → rest ≡ mark ∷ behind f g → mark ≡ n →
          area_of k.current left ≡ front f g.snapshot g.records ++ n ∷ behind f g
      whole mark n rest p q e = p ∙ ap (λ (xs : List ℕ). front f g.snapshot g.records ++ xs) (q ∙ ap (λ (m : ℕ). m ∷ behind f g) e)

      by : (mark : ℕ) (rest : List ℕ) → area_of k.current left ≡ front f g.snapshot g.records ++ rest → rest ≡ mark ∷ behind f g → IsEither CLOSED OPEN mark → IsFound f start header k left
      by mark rest p q (inl e) = kept_left k left k.current (made_left k.synced k.seen left k.current k.kept h.old h.new l
          (closed_stands f start k.kept g (behind f g) (area_of k.current left) (whole mark CLOSED rest p q e) h.leads))
      by mark rest p q (inr e) = group_left k left k.current (group_of g) h.first (made_left k.synced k.seen left k.current (k.kept ++ group_of g) h.old h.new l
          (opened_stands f start k.kept g (area_of k.current left) (whole mark OPEN rest p q e) h.leads))

      gate : GoesOn (front f g.snapshot g.records) (CLOSED ∷ behind f g) (OPEN ∷ behind f g) (area_of k.current left) → IsFound f start header k left
      gate on = let m : IsOneOf CLOSED OPEN (behind f g) on.rest = mark_left CLOSED OPEN (behind f g) on.rest on.either in by m.mark on.rest on.parts m.parts m.either

  -- either area counts while the switch is written, and both stand for what is kept
  switching_left : (k : Keeper S C) (left : File) (group : List C) → IsSwitching f start header group k → IsLeft k.synced k.seen left → IsFound f start header k left
  switching_left k left group h l = by left_so.switch
    where
      left_so : IsLeft k.synced (record k.synced { switch = switch_of (not k.current) }) left
      left_so = subst (λ (s : File). IsLeft k.synced s left) h.seen l

      first : left.first ≡ k.synced.first
      first = are_same k.synced.first left.first left_so.first

      second : left.second ≡ k.synced.second
      second = are_same k.synced.second left.second left_so.second

      same : (at : Bool) → area_of at left ≡ area_of at k.synced
      same false = first
      same true = second

      made : (at : Bool) (changes : List C) → left.switch ≡ switch_of at → StandsFor f start (area_of at k.synced) changes → IsMade f start header left at changes
      made at changes e s = record {
        made = either_same k.synced.made left.made left_so.made ∙ h.old.made;
        header_so = are_same k.synced.header left.header left_so.header ∙ h.old.header_so;
        switch = e;
        area = at_area (area_of at left) (area_of at k.synced) changes (same at) s;
      }

      by : IsEither k.synced.switch (switch_of (not k.current)) left.switch → IsFound f start header k left
      by (inl e) = kept_left k left k.current (made k.current k.kept (e ∙ h.old.switch) h.stands)
      by (inr e) = group_left k left (not k.current) group h.first (made (not k.current) (k.kept ++ group) e h.other)

  found_in : (p : Phase S C) (k : Keeper S C) (left : File) → HoldsIn f start header p k → IsLeft k.synced k.seen left → IsFound f start header k left
  found_in Blank k left h l =
      blank_left k left h.kept (either_of k.synced.made k.seen.made CLOSED left.made h.blank (ap (λ (s : File). s.made) h.same ∙ h.blank) l.made)
  found_in Forming k left h l = blank_left k left h.kept (either_of k.synced.made k.seen.made CLOSED left.made h.blank h.formed.blank l.made)
  found_in Formed k left h l =
      blank_left k left h.kept (either_of k.synced.made k.seen.made CLOSED left.made h.formed.blank (ap (λ (s : File). s.made) h.same ∙ h.formed.blank) l.made)
  found_in Marking k left h l = formed_left k left h.formed h.seen h.kept l
  found_in Idle k left h l = resting_left k left h l
  found_in (Writing g) k left h l =
      writing_left k left g h.rest (behind f g) h.old h.new h.leads h.was h.is l
  found_in (Written g) k left h l =
      writing_left k left g (behind f g) (behind f g) h.old h.new h.leads h.was h.is l
  found_in (Opening g) k left h l = opening_left k left g h l
  found_in (Prepared group) k left h l = resting_left k left h.resting l
  found_in (Switching group) k left h l = switching_left k left group h l

pub found : {S C : Type 0} (f : Format S C) (start : S) (header : List ℕ) (k : Keeper S C) (left : File) → IsReached f start header k → IsLeft k.synced k.seen left → IsFound f start header k left
found f start header k left r l = found_in f start header k.phase k left (reached f start header k r) l
