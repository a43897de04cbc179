-- What holds of a journal's file at each phase, whatever happened.
use Rattle.std.proofs.Common.{◌≡◌, ◌⊎◌, ℕ, Bool, true, false, List, [], ◌∷◌, ◌++◌, refl, sym, ap, ◌∙◌, subst, inl, inr, append_assoc, append-nil}
use Rattle.std.specs.Prelude.{Option, Some, not}
use Rattle.st_journal_file.specs.Histories.{Gate, IsBehindKept, IsFirst, IsFormed, IsLeft, IsNew, IsReached, Begins, GoesOn, Keeper, Moves, Makes, Forms, Marks, Writes, Opens, Scribbles, Prepares, Switches, SyncsForm, SyncsMark, SyncsOther, SyncsGroup, SyncsGate, SyncsSwitch, CrashesMade, CrashesBlank, Phase, Blank, Forming, Formed, Marking, Idle, Writing, Written, Opening, Prepared, Switching, behind, closed_at, group_of, opened_at, with_area}
use Rattle.st_journal_file.specs.Layout.{CLOSED, OPEN, Format, File, IsMade, StandsFor, after_changes, area_of, front, switch_of}
use Rattle.st_journal_file.proofs.Bytes.{are_same}
use Rattle.st_journal_file.proofs.Groups.{closed_stands, opened_stands}

-- the marks and the header of a file that was made
pub record IsMarked (header : List ℕ) (current : Bool) (b : File) : Type 0 where
  pub made : b.made ≡ OPEN
  pub header_so : b.header ≡ header
  pub switch : b.switch ≡ switch_of current

module _ {S C : Type 0} (f : Format S C) (start : S) (header : List ℕ) where
  pub record IsBlankStill (k : Keeper S C) : Type 0 where
    pub blank : k.synced.made ≡ CLOSED
    pub same : k.seen ≡ k.synced
    pub kept : k.kept ≡ []

  pub record IsForming (k : Keeper S C) : Type 0 where
    pub blank : k.synced.made ≡ CLOSED
    pub formed : IsFormed f start header k.seen
    pub kept : k.kept ≡ []

  pub record IsFormedStill (k : Keeper S C) : Type 0 where
    pub formed : IsFormed f start header k.synced
    pub same : k.seen ≡ k.synced
    pub kept : k.kept ≡ []

  pub record IsMarking (k : Keeper S C) : Type 0 where
    pub formed : IsFormed f start header k.synced
    pub seen : k.seen ≡ record k.synced { made = OPEN }
    pub kept : k.kept ≡ []

  -- the area that counts was synced, and stands for what is kept
  pub record IsResting (k : Keeper S C) : Type 0 where
    pub old : IsMarked header k.current k.synced
    pub new : IsMarked header k.current k.seen
    pub same : area_of k.current k.synced ≡ area_of k.current k.seen
    pub stands : StandsFor f start (area_of k.current k.seen) k.kept

  -- a group was written after the gate of what is kept: the area that was synced is the same before it
  pub record IsWriting (g : Gate S C) (k : Keeper S C) : Type 0 where
    pub old : IsMarked header k.current k.synced
    pub new : IsMarked header k.current k.seen
    pub first : IsFirst (group_of g) k.waiting
    pub leads : after_changes f (Some g.snapshot) g.records ≡ after_changes f (Some start) k.kept
    pub rest : List ℕ
    pub was : area_of k.current k.synced ≡ front f g.snapshot g.records ++ CLOSED ∷ rest
    pub is : area_of k.current k.seen ≡ closed_at f g

  pub record IsWritten (g : Gate S C) (k : Keeper S C) : Type 0 where
    pub old : IsMarked header k.current k.synced
    pub new : IsMarked header k.current k.seen
    pub first : IsFirst (group_of g) k.waiting
    pub leads : after_changes f (Some g.snapshot) g.records ≡ after_changes f (Some start) k.kept
    pub was : area_of k.current k.synced ≡ closed_at f g
    pub is : area_of k.current k.seen ≡ closed_at f g

  pub record IsOpening (g : Gate S C) (k : Keeper S C) : Type 0 where
    pub old : IsMarked header k.current k.synced
    pub new : IsMarked header k.current k.seen
    pub first : IsFirst (group_of g) k.waiting
    pub leads : after_changes f (Some g.snapshot) g.records ≡ after_changes f (Some start) k.kept
    pub was : area_of k.current k.synced ≡ closed_at f g
    pub is : area_of k.current k.seen ≡ opened_at f g

  -- the other area stands for what is kept and the group
  pub record IsPrepared (group : List C) (k : Keeper S C) : Type 0 where
    pub resting : IsResting k
    pub same : k.synced ≡ k.seen
    pub first : IsFirst group k.waiting
    pub other : StandsFor f start (area_of (not k.current) k.seen) (k.kept ++ group)

  -- the switch was written
  pub record IsSwitching (group : List C) (k : Keeper S C) : Type 0 where
    pub old : IsMarked header k.current k.synced
    pub seen : k.seen ≡ record k.synced { switch = switch_of (not k.current) }
    pub first : IsFirst group k.waiting
    pub stands : StandsFor f start (area_of k.current k.synced) k.kept
    pub other : StandsFor f start (area_of (not k.current) k.synced) (k.kept ++ group)

  abbrev pub HoldsIn : Phase S C → Keeper S C → Type 0
  HoldsIn Blank k = IsBlankStill k
  HoldsIn Forming k = IsForming k
  HoldsIn Formed k = IsFormedStill k
  HoldsIn Marking k = IsMarking k
  HoldsIn Idle k = IsResting k
  HoldsIn (Writing g) k = IsWriting g k
  HoldsIn (Written g) k = IsWritten g k
  HoldsIn (Opening g) k = IsOpening g k
  HoldsIn (Prepared group) k = IsPrepared group k
  HoldsIn (Switching group) k = IsSwitching group k

  abbrev pub Holds : Keeper S C → Type 0
  Holds k = HoldsIn k.phase k

  at : (p : Phase S C) (k : Keeper S C) → k.phase ≡ p → Holds k → HoldsIn p k
  at p k e h = subst (λ (q : Phase S C). HoldsIn q k) e h

  -- one more change waits
  more_wait : (group waiting : List C) (x : C) → IsFirst group waiting → IsFirst group (waiting ++ x ∷ [])
  more_wait group waiting x i = record { later = i.later ++ x ∷ []; parts = ap (λ (ys : List C). ys ++ x ∷ []) i.parts ∙ append_assoc group i.later (x ∷ []) }

  makes : (x : C) (k : Keeper S C) (p : Phase S C) → HoldsIn p k → HoldsIn p (record k { waiting = k.waiting ++ x ∷ [] })
  makes x k Blank h = record { blank = h.blank; same = h.same; kept = h.kept }
  makes x k Forming h = record { blank = h.blank; formed = h.formed; kept = h.kept }
  makes x k Formed h = record { formed = h.formed; same = h.same; kept = h.kept }
  makes x k Marking h = record { formed = h.formed; seen = h.seen; kept = h.kept }
  makes x k Idle h = record { old = h.old; new = h.new; same = h.same; stands = h.stands }
  makes x k (Writing g) h = record { old = h.old; new = h.new; first = more_wait (group_of g) k.waiting x h.first; leads = h.leads; rest = h.rest; was = h.was; is = h.is }
  makes x k (Written g) h = record { old = h.old; new = h.new; first = more_wait (group_of g) k.waiting x h.first; leads = h.leads; was = h.was; is = h.is }
  makes x k (Opening g) h = record { old = h.old; new = h.new; first = more_wait (group_of g) k.waiting x h.first; leads = h.leads; was = h.was; is = h.is }
  makes x k (Prepared group) h = record {
    resting = record { old = h.resting.old; new = h.resting.new; same = h.resting.same; stands = h.resting.stands };
    same = h.same;
    first = more_wait group k.waiting x h.first;
    other = h.other;
  }
  makes x k (Switching group) h = record { old = h.old; seen = h.seen; first = more_wait group k.waiting x h.first; stands = h.stands; other = h.other }

  -- an area in place of the one that counts, or of the other one

  area_with : (current : Bool) (bytes : List ℕ) (b : File) → area_of current (with_area current bytes b) ≡ bytes
  area_with false bytes b = refl
  area_with true bytes b = refl

  area_beside : (current : Bool) (bytes : List ℕ) (b : File) → area_of current (with_area (not current) bytes b) ≡ area_of current b
  area_beside false bytes b = refl
  area_beside true bytes b = refl

  marked_with : (at current : Bool) (bytes : List ℕ) (b : File) → IsMarked header current b → IsMarked header current (with_area at bytes b)
  marked_with false current bytes b m = record { made = m.made; header_so = m.header_so; switch = m.switch }
  marked_with true current bytes b m = record { made = m.made; header_so = m.header_so; switch = m.switch }

  -- a file that is formed and marked
  marked_formed : (b : File) → IsFormed f start header b → IsMarked header false (record b { made = OPEN })
  marked_formed b i = record { made = refl; header_so = i.header_so; switch = i.switch }

  -- the file with the switch moved
  switched : (current : Bool) (b : File) → IsMarked header current b → IsMarked header (not current) (record b { switch = switch_of (not current) })
  switched current b m = record { made = m.made; header_so = m.header_so; switch = refl }

  area_switched : (at : Bool) (n : ℕ) (b : File) → area_of at (record b { switch = n }) ≡ area_of at b
  area_switched false n b = refl
  area_switched true n b = refl

  stands_at : (xs ys : List ℕ) (kept : List C) → xs ≡ ys → StandsFor f start xs kept → StandsFor f start ys kept
  stands_at xs ys kept e s = subst (λ (zs : List ℕ). StandsFor f start zs kept) e s

  pub keeps : (old new : Keeper S C) → Holds old → Moves f start header old new → Holds new
  keeps old new h (Makes x) = makes x old old.phase h
  keeps old new h (Forms e formed i) = let b : IsBlankStill old = at Blank old e h in record { blank = b.blank; formed = i; kept = b.kept }
  keeps old new h (Marks e) =
      let b : IsFormedStill old = at Formed old e h in
      record { formed = b.formed; seen = ap (λ (s : File). record s { made = OPEN }) b.same; kept = b.kept }
  keeps old new h (Writes g e first gate) =
      let b : IsResting old = at Idle old e h in
      record {
        old = b.old;
        new = marked_with old.current old.current (closed_at f g) old.seen b.new;
        first = first;
        leads = gate.leads;
        rest = gate.rest;
        was = b.same ∙ gate.parts;
        is = area_with old.current (closed_at f g) old.seen;
      }
  keeps old new h (Opens g e) =
      let b : IsWritten g old = at (Written g) old e h in
      record {
        old = b.old;
        new = marked_with old.current old.current (opened_at f g) old.seen b.new;
        first = b.first;
        leads = b.leads;
        was = b.was;
        is = area_with old.current (opened_at f g) old.seen;
      }
  keeps old new h (Scribbles e area) =
      let b : IsResting old = at Idle old e h in
      subst (λ (p : Phase S C). HoldsIn p (record old { seen = with_area (not old.current) area old.seen })) (sym e) (record {
        old = b.old;
        new = marked_with (not old.current) old.current area old.seen b.new;
        same = b.same ∙ sym (area_beside old.current area old.seen);
        stands = stands_at (area_of old.current old.seen) (area_of old.current (with_area (not old.current) area old.seen)) old.kept (sym (area_beside old.current area old.seen)) b.stands;
      })
  keeps old new h (Prepares group e first same other) =
      let b : IsResting old = at Idle old e h in
      record { resting = record { old = b.old; new = b.new; same = b.same; stands = b.stands }; same = same; first = first; other = other }
  keeps old new h (Switches group e) =
      let b : IsPrepared group old = at (Prepared group) old e h in
      record {
        old = b.resting.old;
        seen = ap (λ (s : File). record s { switch = switch_of (not old.current) }) (sym b.same);
        first = b.first;
        stands = stands_at (area_of old.current old.seen) (area_of old.current old.synced) old.kept (sym b.resting.same) b.resting.stands;
        other = stands_at (area_of (not old.current) old.seen) (area_of (not old.current) old.synced) (old.kept ++ group) (ap (area_of (not old.current)) (sym b.same)) b.other;
      }
  keeps old new h (SyncsForm e) = let b : IsForming old = at Forming old e h in record { formed = b.formed; same = refl; kept = b.kept }
  keeps old new h (SyncsMark e) =
      let b : IsMarking old = at Marking old e h in
      let marked : IsMarked header false old.seen = subst (λ (s : File). IsMarked header false s) (sym b.seen) (marked_formed old.synced b.formed) in
      let first : old.synced.first ≡ old.seen.first = ap (λ (s : File). s.first) (sym b.seen) in
      record {
        old = marked;
        new = marked;
        same = refl;
        stands = subst (λ (kept : List C). StandsFor f start old.seen.first kept) (sym b.kept) (stands_at old.synced.first old.seen.first [] first b.formed.area);
      }
  keeps old new h (SyncsOther e) =
      let b : IsResting old = at Idle old e h in
      subst (λ (p : Phase S C). HoldsIn p (record old { synced = old.seen })) (sym e) (record { old = b.new; new = b.new; same = refl; stands = b.stands })
  keeps old new h (SyncsGroup g e) =
      let b : IsWriting g old = at (Writing g) old e h in
      record { old = b.new; new = b.new; first = b.first; leads = b.leads; was = b.is; is = b.is }
  keeps old new h (SyncsGate g waiting e parts) =
      let b : IsOpening g old = at (Opening g) old e h in
      record { old = b.new; new = b.new; same = refl; stands = opened_stands f start old.kept g (area_of old.current old.seen) b.is b.leads }
  keeps old new h (SyncsSwitch group waiting e parts) =
      let b : IsSwitching group old = at (Switching group) old e h in
      let marked : IsMarked header (not old.current) old.seen = subst (λ (s : File). IsMarked header (not old.current) s) (sym b.seen) (switched old.current old.synced b.old) in
      let moved : area_of (not old.current) old.seen ≡ area_of (not old.current) old.synced =
      ap (area_of (not old.current)) b.seen ∙ area_switched (not old.current) (switch_of (not old.current)) old.synced in
      record {
        old = marked;
        new = marked;
        same = refl;
        stands = stands_at (area_of (not old.current) old.synced) (area_of (not old.current) old.seen) (old.kept ++ group) (sym moved) b.other;
      }
  keeps old new h (CrashesMade left current changes l made) =
      let marked : IsMarked header current left = record { made = made.made; header_so = made.header_so; switch = made.switch } in
      record { old = marked; new = marked; same = refl; stands = made.area }
  keeps old new h (CrashesBlank left l blank) = record { blank = blank; same = refl; kept = refl }

  begins : (k : Keeper S C) → IsNew k → Holds k
  begins k n = subst (λ (p : Phase S C). HoldsIn p k) (sym n.phase) (record { blank = n.blank; same = n.same; kept = n.kept })

  pub reached : (k : Keeper S C) → IsReached f start header k → Holds k
  reached k (Begins same n) = begins k n
  reached k (GoesOn old same r m) = keeps old k (reached old r) m
