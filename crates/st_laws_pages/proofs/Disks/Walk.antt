-- What a server's step does to its extents.
use Rattle.st_lemmas.proofs.Words
use Words.{◌≡◌, ℕ, List, [], ◌∷◌, ◌++◌, refl, sym, subst, inl, inr, Ok, FileId, PageNo, ServerId, Stamp, Body, Header, Output, ServerInput}
use Words.notes
use Words.outputs
use Words.Extents as extents
use Words.Extents.{Extents}
use Words.Server as sv
use Words.Server.{ServerState, ServerTurn, reply, tell, steal_from, suspect_client, keep_and_reply, server_step}
use Rattle.st_laws_pages.specs.Disks.World.{NoCut, NoCuts, OneCut, ExtentsMove, Stays, Maps, Cuts}
use Rattle.st_trace.specs.Server.Edits as edits
use Rattle.st_trace.specs.Server.Edits.{AtThefts, AtInput, AtSuspicion, AtGrants, AtDemands, Ruled, Edit, TakesTimers, Steals, Welcomes, Begins, Replaces}
use Rattle.st_trace.specs.Server.Edits.{PutsOff, Sees, Reasserts, Serves, Repeats, Refuses, Suspects, Grants, Demands}
use Rattle.st_trace.proofs.Server.Allocating.{allocated_pages_are_placed}
use Rattle.st_trace.proofs.Server.Walk.{walk_in_two}

pub none_more : (os : List Output) (o : Output) → NoCut o → NoCuts os → NoCuts (os ++ o ∷ [])
none_more [] o n h = record { one = n; rest = record {} }
none_more (x ∷ os) o n h = record { one = h.one; rest = none_more os o n h.rest }

one_more : (f : FileId) (p : PageNo) (os : List Output) (o : Output) → NoCut o → OneCut f p os → OneCut f p (os ++ o ∷ [])
one_more f p [] o n h = absurd h
one_more f p (x ∷ os) o n (inl h) = inl (record { here = h.here; rest = none_more os o n h.rest })
one_more f p (x ∷ os) o n (inr h) = inr (record { one = h.one; rest = one_more f p os o n h.rest })

one_here : (f : FileId) (p : PageNo) (os : List Output) → NoCuts os → OneCut f p (os ++ outputs.Note (notes.CutDone f p) ∷ [])
one_here f p [] h = inl (record { here = refl; rest = record {} })
one_here f p (x ∷ os) h = inr (record { one = h.one; rest = one_here f p os h.rest })

move_more : (s : ServerId) (x y : Extents) (os : List Output) (o : Output) → NoCut o → ExtentsMove s x y os → ExtentsMove s x y (os ++ o ∷ [])
move_more s x _ _ o n (Stays os h) = Stays (os ++ o ∷ []) (none_more os o n h)
move_more s x _ _ o n (Maps os f ps e h) = Maps (os ++ o ∷ []) f ps e (none_more os o n h)
move_more s x _ _ o n (Cuts os f p e h) = Cuts (os ++ o ∷ []) f p e (one_more f p os o n h)

module _ (s : ServerId) (x : Extents) where
  -- before the input
  record Before (t : ServerTurn) : Type 0 where
    id : t.state.id ≡ s
    same : t.state.stable.extents ≡ x
    none : NoCuts t.out

  -- and after it
  record After (t : ServerTurn) : Type 0 where
    id : t.state.id ≡ s
    move : ExtentsMove s x t.state.stable.extents t.out

  unchanged : (t : ServerTurn) → Before t → After t
  unchanged t b = record { id = b.id; move = subst (λ y. ExtentsMove s x y t.out) (sym b.same) (Stays t.out b.none) }

  -- other parts of the state, and one output more that isn't a cut
  says : (t : ServerTurn) (n : ServerState) (o : Output) → n.id ≡ t.state.id → n.stable.extents ≡ t.state.stable.extents → NoCut o → After t →
      After (record { state = n; out = t.out ++ o ∷ [] })
  says t n o i e k a =
      record {
        id = subst (λ j. j ≡ s) (sym i) a.id;
        move = subst (λ y. ExtentsMove s x y (t.out ++ o ∷ [])) (sym e) (move_more s x t.state.stable.extents t.out o k a.move);
      }

  cuts : (t : ServerTurn) (ino : ℕ) (page : PageNo) → Before t → After (sv.cut_pages t ino page)
  unfolding sv.cut_pages
  cuts t ino page b =
      record {
        id = b.id;
        move = subst (λ y. ExtentsMove s x (extents.release_from y (sv.file t ino) page) (t.out ++ outputs.Note (notes.CutDone (sv.file t ino) page) ∷ []))
            (sym b.same) (Cuts _ (sv.file t ino) page b.id (one_here (sv.file t ino) page t.out b.none));
      }

  maps : (t : ServerTurn) (ino : ℕ) (page : PageNo) (count : ℕ) (y : Extents) → extents.allocate t.state.stable.extents (sv.file t ino) page count ≡ Ok y →
      Before t → After (sv.with_extents y t)
  maps t ino page count y e b =
      record {
        id = b.id;
        move = subst (λ z. ExtentsMove s x z t.out) (allocated_pages_are_placed t.state.stable.extents (sv.file t ino) page count y e)
            (subst (λ z. ExtentsMove s x (extents.place_pages (sv.file t ino) ps z) t.out) (sym b.same) (Maps t.out (sv.file t ino) ps b.id b.none));
      }
    where
      ps : List PageNo
      ps = extents.unmapped t.state.stable.extents (sv.file t ino) page count

  rule_moves : (now : Stamp) (t : ServerTurn) (h : Header) (m : Body) (u : ServerTurn) (r : Body) → Ruled now t h m u r → Before t → After u
  unfolding sv.cut_whole
  rule_moves now t h m u r (edits.Tells _ _ k) b = unchanged t b
  rule_moves now t h m u r (edits.Acquires ino mode a f k g) b = let z = unchanged t b in record { id = z.id; move = z.move }
  rule_moves now t h m u r (edits.Releases ino g to l e f) b = let z = unchanged t b in record { id = z.id; move = z.move }
  rule_moves now t h m u r (edits.Allocates ino g p count y f q e) b = maps t ino p count y e b
  rule_moves now t h m u r (edits.Cuts ino g p f q) b = cuts t ino p b
  rule_moves now t h m u r (edits.Creates dir l d e) b = let z = unchanged t b in record { id = z.id; move = z.move }
  rule_moves now t h m u r (edits.MakesDir dir l d e) b = let z = unchanged t b in record { id = z.id; move = z.move }
  rule_moves now t h m u r (edits.Renames dir l dir2 l2 d e) b = let z = unchanged t b in record { id = z.id; move = z.move }
  rule_moves now t h m u r (edits.RemovesDir dir l g ino d k f z e q) b = let y = unchanged t b in record { id = y.id; move = y.move }
  rule_moves now t h m u r (edits.RemovesFile dir l g ino d k f z e q) b = cuts _ d.ino _ (record { id = b.id; same = b.same; none = b.none })

  module _ (n : ServerState) (now : Stamp) (i : ServerInput) where
    steals : (t u : ServerTurn) → Edit n now i AtThefts t u → Before t → Before u
    unfolding steal_from
    steals t u (TakesTimers _ e) b = record { id = b.id; same = b.same; none = b.none }
    steals t u (Steals _ c y h e) b = record { id = b.id; same = b.same; none = none_more t.out _ tt b.none }

    takes : (t u : ServerTurn) → Edit n now i AtInput t u → Before t → After u
    unfolding reply suspect_client keep_and_reply
    takes t u (Welcomes _ m y g e a f) b = says t _ _ refl refl tt (unchanged t b)
    takes t u (Begins _ m g f) b = says t _ _ refl refl tt (unchanged t b)
    takes t u (Replaces _ m y g e a f r) b = says t _ _ refl refl tt (unchanged t b)
    takes t u (PutsOff _ m y g e a f r) b = says (suspect_client t now (sv.sender m.header)) _ _ refl refl tt (says t _ _ refl refl tt (unchanged t b))
    takes t u (Sees _ m ino g h k e) b = let z = unchanged t b in record { id = z.id; move = z.move }
    takes t u (Reasserts _ m rows r on f) b = says t _ _ refl refl tt (unchanged t b)
    takes t u (Serves _ m v k y e r) b = says v _ _ refl refl tt (rule_moves now t m.header m.body v k r b)
    takes t u (Repeats _ m y k a e f g z) b = says t _ _ refl refl tt (unchanged t b)
    takes t u (Refuses _ m k r) b = says t _ _ refl refl tt (unchanged t b)

    suspects : (t u : ServerTurn) → Edit n now i AtSuspicion t u → After t → After u
    unfolding suspect_client
    suspects t u (Suspects _ c r is q f h e o) a = says t _ _ refl refl tt a

    grants : (t u : ServerTurn) → Edit n now i AtGrants t u → After t → After u
    unfolding tell
    grants t u (Grants _ w off h e f) a = says t _ _ refl refl tt a

    demands : (t u : ServerTurn) → Edit n now i AtDemands t u → After t → After u
    unfolding tell
    demands t u (Demands _ w r y e k o f d) a = says t _ _ refl refl tt a

-- The whole step.
step_after : (n : ServerState) (now : Stamp) (i : ServerInput) → After n.id n.stable.extents (server_step n now i)
step_after n now i =
    walk_in_two n now i (Before s x) (After s x) (steals s x n now i) (unchanged s x) (takes s x n now i) (suspects s x n now i) (grants s x n now i)
    (demands s x n now i)
    (record { id = refl; same = refl; none = record {} })
  where
    s : ServerId
    s = n.id

    x : Extents
    x = n.stable.extents

pub step_moves : (n : ServerState) (now : Stamp) (i : ServerInput) →
    ExtentsMove n.id n.stable.extents (server_step n now i).state.stable.extents (server_step n now i).out
step_moves n now i = (step_after n now i).move

pub step_id : (n : ServerState) (now : Stamp) (i : ServerInput) → (server_step n now i).state.id ≡ n.id
step_id n now i = (step_after n now i).id
