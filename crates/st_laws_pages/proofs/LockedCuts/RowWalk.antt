-- What a server's step does to its lock table: nobody waits for a file of which it has an exclusive row, and after a cut somebody has an
-- exclusive row of its file.
use Rattle.st_lemmas.proofs.Words
use Words.{◌≡◌, ℕ, true, List, [], ◌∷◌, ◌++◌, ◌==◌, refl, sym, ap, ◌∙◌, subst, Option, Some, None, eq-eqb, ClientId, ServerId, GrantNo, PageNo, Stamp, Mode}
use Words.{Header, Message, Body, Note, Output, ServerInput, LockRow, Waiter}
use Words.modes
use Words.notes
use Words.outputs
use Words.serving.{Tick, Control}
use Words.Grace as grace
use Words.Keys.{server_node}
use Words.Locks as locks
use Words.Locks.{Locks}
use Words.Server as sv
use Words.Server.{ServerState, ServerTurn, turn, with_locks, sender, life_in, reply, tell, steal_from, thefts, suspect_client, keep_and_reply, is_client_node}
use Words.Server.{server_step}
use Words.Lists.{Has}
use Words.Tables.{and_true, and_both}
use Rattle.st_base.specs.Mode.{covers}
use Rattle.st_laws_pages.specs.Disks.World.{NoCut, NoCuts}
use Rattle.st_laws_pages.specs.LockedCuts.CutLocks.{WaitsApart, IsHeld, CutHeld, CutsHeld, WaitsForNone}
use Rattle.st_laws_pages.proofs.LockedCuts.Rows.{drop_apart, file_apart, forget_apart, seen_apart, release_apart, queue_apart, install_apart, grant_apart}
use Rattle.st_laws_pages.proofs.LockedCuts.Rows.{grant_held, demand_apart, demand_held}
use Rattle.st_trace.specs.Server.Edits as edits
use Rattle.st_trace.specs.Server.Edits.{AtThefts, AtInput, AtSuspicion, AtGrants, AtDemands, Lacks, AtOnce, InTurn, Ruled, Edit, TakesTimers, Steals, Welcomes}
use Rattle.st_trace.specs.Server.Edits.{Begins, Replaces, PutsOff, Sees, Reasserts, Serves, Repeats, Refuses, Suspects, Grants, Demands}
use Rattle.st_trace.proofs.Server.Taking.{clash}
use Rattle.st_trace.proofs.Server.Walk.{walk_in_two}
use Rattle.st_laws_pages.proofs.Disks.Walk.{none_more}

-- Cuts among the outputs.
held_one : (s : ServerId) (l m : Locks) → ((i : ℕ) → IsHeld i l → IsHeld i m) → (o : Output) → CutHeld s l o → CutHeld s m o
held_one s l m f (outputs.Note n) h = note n h
  where
    note : (n : Note) → CutHeld s l (outputs.Note n) → CutHeld s m (outputs.Note n)
    note (notes.CutDone g p) h = (h.0, f g.ino h.1)
    note n h = tt
held_one s l m f o h = tt

held_all : (s : ServerId) (l m : Locks) → ((i : ℕ) → IsHeld i l → IsHeld i m) → (os : List Output) → CutsHeld s l os → CutsHeld s m os
held_all s l m f [] h = record {}
held_all s l m f (o ∷ os) h = record { one = held_one s l m f o h.one; rest = held_all s l m f os h.rest }

held_more : (s : ServerId) (l : Locks) (os : List Output) (o : Output) → CutHeld s l o → CutsHeld s l os → CutsHeld s l (os ++ o ∷ [])
held_more s l [] o n h = record { one = n; rest = record {} }
held_more s l (x ∷ os) o n h = record { one = h.one; rest = held_more s l os o n h.rest }

no_cut_held : (s : ServerId) (l : Locks) (o : Output) → NoCut o → CutHeld s l o
no_cut_held s l (outputs.Note n) h = note n h
  where
    note : (n : Note) → NoCut (outputs.Note n) → CutHeld s l (outputs.Note n)
    note (notes.CutDone f p) h = absurd h
    note n h = tt
no_cut_held s l o h = tt

none_held : (s : ServerId) (l : Locks) (os : List Output) → NoCuts os → CutsHeld s l os
none_held s l [] h = record {}
none_held s l (o ∷ os) h = record { one = no_cut_held s l o h.one; rest = none_held s l os h.rest }

-- Before the input, and after it.
record Before (s : ServerId) (t : ServerTurn) : Type 0 where
  pub id : t.state.id ≡ s
  pub waits : WaitsApart t.state.locks
  pub none : NoCuts t.out

pub record Behind (s : ServerId) (t : ServerTurn) : Type 0 where
  pub id : t.state.id ≡ s
  pub waits : WaitsApart t.state.locks
  pub cuts : CutsHeld s t.state.locks t.out

-- what is owed if the input is a reassertion
abbrev pub InputAlone : ServerTurn → Stamp → ServerInput → Type 0
InputAlone t now Tick = Unit {0}
InputAlone t now (Control m) = WaitsForNone t now m.header m.body

module _ (s : ServerId) where
  unchanged : (t : ServerTurn) → Before s t → Behind s t
  unchanged t b = record { id = b.id; waits = b.waits; cuts = none_held s t.state.locks t.out b.none }

  -- another table, in which who had an exclusive row still has one, and one output more
  says : (t : ServerTurn) (n : ServerState) (o : Output) → n.id ≡ t.state.id → WaitsApart n.locks → ((i : ℕ) → IsHeld i t.state.locks → IsHeld i n.locks) →
      CutHeld s n.locks o → Behind s t → Behind s (record { state = n; out = t.out ++ o ∷ [] })
  says t n o e w f c a =
      record { id = subst (λ j. j ≡ s) (sym e) a.id; waits = w; cuts = held_more s n.locks t.out o c (held_all s t.state.locks n.locks f t.out a.cuts) }

  -- the same table, and one message more
  sends : (t : ServerTurn) (n : ServerState) (m : Message) → n.id ≡ t.state.id → n.locks ≡ t.state.locks → Behind s t →
      Behind s (record { state = n; out = t.out ++ outputs.Send m ∷ [] })
  sends t n m e l a = says t n (outputs.Send m) e (subst WaitsApart (sym l) a.waits) (λ i h. subst (IsHeld i) (sym l) h) tt a

  drop_held : (l : Locks) (c : ClientId) (i : ℕ) → IsHeld i l → IsHeld i (locks.drop_waits l c)
  unfolding locks.drop_waits
  drop_held l c i h = record { client = h.client; row = h.row; is = h.is; exclusive = h.exclusive }

  suspected : (t : ServerTurn) (now : Stamp) (c : ClientId) → Behind s t → Behind s (suspect_client t now c)
  unfolding suspect_client
  suspected t now c a = says t _ _ refl (drop_apart t.state.locks c a.waits) (drop_held t.state.locks c) tt a

  -- a cut, by somebody who holds the file exclusively
  held_is : (t : ServerTurn) (h : Header) (ino : ℕ) (g : GrantNo) → sv.holds t h ino g modes.X ≡ true → IsHeld ino t.state.locks
  held_is t h ino g e = go (locks.row_of t.state.locks (sender h) ino) refl e
    where
      full : (m : Mode) → covers m modes.X ≡ true → m ≡ modes.X
      full modes.None z = cc z
      full modes.S z = cc z
      full modes.X z = refl

      go : (o : Option LockRow) → locks.row_of t.state.locks (sender h) ino ≡ o → sv.is_held g modes.X o ≡ true → IsHeld ino t.state.locks
      go None q z = cc
      go (Some r) q z = record { client = sender h; row = r; is = q; exclusive = full r.mode (and_true (r.g.0 == g.0) (covers r.mode modes.X) z).1 }

  cuts : (t : ServerTurn) (ino : ℕ) (page : PageNo) → IsHeld ino t.state.locks → Before s t → Behind s (sv.cut_pages t ino page)
  unfolding sv.cut_pages
  cuts t ino page i b =
      record {
        id = b.id;
        waits = b.waits;
        cuts = held_more s t.state.locks t.out (outputs.Note (notes.CutDone (sv.file t ino) page)) (b.id, i) (none_held s t.state.locks t.out b.none);
      }

  file_held : (l : Locks) (ino i : ℕ) → IsHeld i l → IsHeld i (locks.drop_file_waits l ino)
  unfolding locks.drop_file_waits
  file_held l ino i h = record { client = h.client; row = h.row; is = h.is; exclusive = h.exclusive }

  -- other locks, before any cut
  with_table : (t : ServerTurn) (l : Locks) → WaitsApart l → Before s t → Behind s (with_locks l t)
  with_table t l w b = record { id = b.id; waits = w; cuts = none_held s l t.out b.none }

  exclusive_covers : (mode : Mode) → covers modes.X mode ≡ true
  exclusive_covers modes.None = refl
  exclusive_covers modes.S = refl
  exclusive_covers modes.X = refl

  -- who asks for more than its lock has no exclusive lock
  no_exclusive : (l : Locks) (c : ClientId) (ino : ℕ) (mode : Mode) → Lacks l c ino mode → (r : LockRow) → locks.row_of l c ino ≡ Some r → r.mode ≡ modes.X → ⊥
  no_exclusive l c ino mode k r e x = clash (ap (λ m. covers m mode) x ∙ exclusive_covers mode) (k.covered r e)

  ruled : (now : Stamp) (t : ServerTurn) (h : Header) (m : Body) (u : ServerTurn) (r : Body) → Ruled now t h m u r → Before s t → Behind s u
  unfolding sv.cut_whole
  ruled now t h m u r (edits.Tells _ _ k) b = unchanged t b
  ruled now t h m u r (edits.Acquires ino mode a f k (AtOnce g x y)) b = with_table t _ (grant_apart t.state.locks (sender h) (life_in h) ino mode b.waits) b
  ruled now t h m u r (edits.Acquires ino mode a f k (InTurn g)) b =
      with_table t _ (queue_apart t.state.locks (sender h) (life_in h) ino mode (no_exclusive t.state.locks (sender h) ino mode k) b.waits) b
  ruled now t h m u r (edits.Releases ino g to l e f) b = with_table t _ (release_apart t.state.locks (sender h) ino to b.waits) b
  ruled now t h m u r (edits.Allocates ino g p count y f q e) b = let z = unchanged t b in record { id = z.id; waits = z.waits; cuts = z.cuts }
  ruled now t h m u r (edits.Cuts ino g p f q) b = cuts t ino p (held_is t h ino g q) b
  ruled now t h m u r (edits.Creates dir l d e) b = let z = unchanged t b in record { id = z.id; waits = z.waits; cuts = z.cuts }
  ruled now t h m u r (edits.MakesDir dir l d e) b = let z = unchanged t b in record { id = z.id; waits = z.waits; cuts = z.cuts }
  ruled now t h m u r (edits.Renames dir l dir2 l2 d e) b = let z = unchanged t b in record { id = z.id; waits = z.waits; cuts = z.cuts }
  ruled now t h m u r (edits.RemovesDir dir l g ino d k f z e q) b = let y = unchanged t b in record { id = y.id; waits = y.waits; cuts = y.cuts }
  ruled now t h m u r (edits.RemovesFile dir l g ino d k f z e q) b =
      cuts (with_locks (locks.drop_file_waits t.state.locks d.ino) (sv.with_names d.names t)) d.ino _
      (file_held t.state.locks d.ino d.ino (subst (λ j. IsHeld j t.state.locks) (sym q) (held_is t h ino g z)))
      (record { id = b.id; waits = file_apart t.state.locks d.ino b.waits; none = b.none })

  module _ (n : ServerState) (now : Stamp) (i : ServerInput) (alone : InputAlone (thefts (turn n []) now) now i) where
    steals : (t u : ServerTurn) → Edit n now i AtThefts t u → Before s t → Before s u
    unfolding steal_from
    steals t u (TakesTimers _ e) b = record { id = b.id; waits = b.waits; none = b.none }
    steals t u (Steals _ c y h e) b = record { id = b.id; waits = forget_apart t.state.locks c b.waits; none = none_more t.out _ tt b.none }

    -- who reasserts waits for nothing
    waits_for_none : (t : ServerTurn) (m : Message) (rows : List (ℕ × GrantNo × Mode)) → edits.Reasserted n now i t m rows →
        grace.is_on t.state.grace now ≡ true →
        (w : Waiter) → Has w t.state.locks.waiters → w.client ≡ sender m.header → ⊥
    waits_for_none t m rows r on =
        let c = r.asked.heard.came in
        subst (λ b. WaitsForNone t now m.header b) r.asks
        (subst (λ (z : ServerTurn). WaitsForNone z now m.header m.body) (sym c.first) (subst (InputAlone (thefts (turn n []) now) now) c.is alone))
        (record {
          here = and_both (m.header.to == server_node t.state.id) (is_client_node m.header.from) (eq-eqb m.header.to (server_node t.state.id) c.there) c.from;
          epoch = eq-eqb m.header.epoch t.state.stable.epoch.0 r.asked.epoch;
          on = on;
          new = r.new;
        })

    takes : (t u : ServerTurn) → Edit n now i AtInput t u → Before s t → Behind s u
    unfolding reply keep_and_reply
    takes t u (Welcomes _ m y g e a f) b = sends t _ _ refl refl (unchanged t b)
    takes t u (Begins _ m g f) b = sends t _ _ refl refl (unchanged t b)
    takes t u (Replaces _ m y g e a f r) b =
        says t _ _ refl (drop_apart t.state.locks (sender m.header) b.waits) (drop_held t.state.locks (sender m.header)) tt (unchanged t b)
    takes t u (PutsOff _ m y g e a f r) b = sends (suspect_client t now (sender m.header)) _ _ refl refl (suspected t now (sender m.header) (unchanged t b))
    takes t u (Sees _ m ino g h k e) b = with_table t _ (seen_apart t.state.locks (sender m.header) ino g b.waits) b
    takes t u (Reasserts _ m rows r on f) b =
        sends (with_locks (locks.with_rows t.state.locks (sender m.header) (life_in m.header) rows) t) _ _ refl refl
        (with_table t _ (install_apart t.state.locks (sender m.header) (life_in m.header) rows (waits_for_none t m rows r on) b.waits) b)
    takes t u (Serves _ m v k y e r) b = sends v _ _ refl refl (ruled now t m.header m.body v k r b)
    takes t u (Repeats _ m y k a e f g z) b = sends t _ _ refl refl (unchanged t b)
    takes t u (Refuses _ m k r) b = sends t _ _ refl refl (unchanged t b)

    suspects : (t u : ServerTurn) → Edit n now i AtSuspicion t u → Behind s t → Behind s u
    suspects t u (Suspects _ c r is q f h e o) a = suspected t now c a

    grants : (t u : ServerTurn) → Edit n now i AtGrants t u → Behind s t → Behind s u
    unfolding tell
    grants t u (Grants _ w off h e f) a =
        says t _ _ refl (grant_apart t.state.locks w.client w.life w.ino w.mode a.waits) (λ j g. grant_held j t.state.locks w h a.waits g) tt a

    demands : (t u : ServerTurn) → Edit n now i AtDemands t u → Behind s t → Behind s u
    unfolding tell
    demands t u (Demands _ w r y e k o f d) a = says t _ _ refl (demand_apart t.state.locks r y a.waits) (λ j g. demand_held j t.state.locks r y g) tt a

  pub step_rows : (n : ServerState) (now : Stamp) (i : ServerInput) → n.id ≡ s → WaitsApart n.locks → InputAlone (thefts (turn n []) now) now i →
      Behind s (server_step n now i)
  step_rows n now i e w o =
      walk_in_two n now i (Before s) (Behind s) (steals n now i o) unchanged (takes n now i o) (suspects n now i o) (grants n now i o) (demands n now i o)
      (record { id = e; waits = w; none = record {} })
