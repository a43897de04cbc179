-- The rule of a request: what it leaves of sessions and extents, and what its reply tells.
use Rattle.st_lemmas.proofs.Words
use Words.{◌≡◌, ◌≢◌, ℕ, ◌⊎◌, Bool, true, false, List, [], ◌∷◌, ◌==◌, refl, sym, ap, ◌∙◌, subst, inl, inr, not, nat_le, Option, Some, None, eqb-true, BlockAt}
use Words.{FileId, GrantNo, PageNo, Stamp, Mode, ExtentRow, Body, Header, Message, Extent, LockRow, Verdict}
use Words.modes
use Words.bodies as bd
use Words.notes
use Words.outputs
use Words.verdicts
use Words.Extents as extents
use Words.Extents.{Extents}
use Words.Keys.{same_file, same_page}
use Words.Locks as locks
use Words.Server as sv
use Words.Server.{ServerTurn, sender}
use Words.Lists.{Has}
use Words.Tables.{and_true, find_before, find_kept, has_append}
use Words.Truth.{clash, exclusive_covers, file_is}
use Rattle.st_base.specs.Mode.{covers}
use Rattle.st_laws_extents.specs.ExtentReplies.Steps.{AsksExtents, ChangesExtents, TellsRows, file_of}
use Rattle.st_trace.specs.Server.Edits as edits
use Rattle.st_trace.proofs.Server.Allocating.{allocated_pages_are_placed}

-- other files keep their extents when pages are placed
others_placed : (f : FileId) (ps : List PageNo) (x : Extents) (g : FileId) (p : PageNo) → g ≢ f →
    extents.extent_of (extents.place_pages f ps x) g p ≡ extents.extent_of x g p
unfolding extents.place_pages extents.place_on
others_placed f [] x g p n = refl
others_placed f (q ∷ ps) x g p n = others_placed f ps (extents.place_on x f q (extents.free_blocks x)) g p n ∙ go (extents.free_blocks x)
  where
    away : (b : BlockAt) (z : Bool) → extents.is_extent_of g p (extents.new_extent x f q b) ≡ z → z ≡ false
    away b true e = absurd (n (sym (file_is f g (and_true (same_file f g) (same_page q p) e).0)))
    away b false e = refl

    go : (bs : List BlockAt) → extents.extent_of (extents.place_on x f q bs) g p ≡ extents.extent_of x g p
    go [] = refl
    go (b ∷ bs) = find_before (extents.is_extent_of g p) (extents.new_extent x f q b) x.rows
        (away b (extents.is_extent_of g p (extents.new_extent x f q b)) refl)

-- and when pages are released
others_released : (f : FileId) (q : PageNo) (x : Extents) (g : FileId) (p : PageNo) → g ≢ f →
    extents.extent_of (extents.release_from x f q) g p ≡ extents.extent_of x g p
unfolding extents.release_from
others_released f q x g p n = find_kept (extents.is_extent_of g p) (λ e. not (extents.is_at_or_behind f q e))
    (λ e i. at e i (extents.is_at_or_behind f q e) refl) x.rows
  where
    at : (e : Extent) → extents.is_extent_of g p e ≡ true → (z : Bool) → extents.is_at_or_behind f q e ≡ z → not z ≡ true
    at e i true h = absurd
        (n (sym (file_is e.file g (and_true (same_file e.file g) (same_page e.page p) i).0) ∙ file_is e.file f
        (and_true (same_file e.file f) (nat_le q.0 e.page.0) h).0))
    at e i false h = refl

-- extents of one file changed, under an exclusive row
pub record Moved (t : ServerTurn) (h : Header) (b : Body) (after : Extents) : Type 0 where
  pub ino : ℕ
  pub row : LockRow
  pub found : locks.row_of t.state.locks (sender h) ino ≡ Some row
  pub exclusive : row.mode ≡ modes.X
  pub asks : ChangesExtents b ino row.g
  pub others : (f : FileId) (p : PageNo) → f ≢ file_of t.state.id ino → extents.extent_of after f p ≡ extents.extent_of t.state.stable.extents f p

-- What a rule leaves, with this reply.
pub record Ruled (t : ServerTurn) (h : Header) (b : Body) (u : ServerTurn) (r : Body) : Type 0 where
  pub sessions : u.state.sessions ≡ t.state.sessions
  pub sent : (m : Message) → Has (outputs.Send m) u.out → Has (outputs.Send m) t.out
  pub tells : (ino : ℕ) (rows : List ExtentRow) → r ≡ bd.Extents ino rows → TellsRows t.state.id u.state.stable.extents b ino rows
  pub moves : (u.state.stable.extents ≡ t.state.stable.extents) ⊎ Moved t h b u.state.stable.extents

-- a reply tells no extents
abbrev TellsNone : Body → Type 0
TellsNone r = (ino : ℕ) (rows : List ExtentRow) → r ≡ bd.Extents ino rows → ⊥

-- a rule that leaves sessions, outputs and extents
plain : (t : ServerTurn) (h : Header) (b : Body) (u : ServerTurn) (r : Body) → u.state.sessions ≡ t.state.sessions → u.out ≡ t.out →
    u.state.stable.extents ≡ t.state.stable.extents → TellsNone r → Ruled t h b u r
plain t h b u r p q x f =
    record { sessions = p; sent = λ m i. subst (λ os. Has (outputs.Send m) os) q i; tells = λ ino rows e. absurd (f ino rows e); moves = inl x }

-- a change under an exclusive row
moved : (t : ServerTurn) (h : Header) (b : Body) (after : Extents) (g : GrantNo) (ino : ℕ) → sv.holds t h ino g modes.X ≡ true →
    ((k : GrantNo) → g.0 ≡ k.0 → ChangesExtents b ino k) →
    ((f : FileId) (p : PageNo) → f ≢ file_of t.state.id ino → extents.extent_of after f p ≡ extents.extent_of t.state.stable.extents f p) → Moved t h b after
moved t h b after g ino holds asks others = go (locks.row_of t.state.locks (sender h) ino) refl holds
  where
    go : (o : Option LockRow) → locks.row_of t.state.locks (sender h) ino ≡ o → sv.is_held g modes.X o ≡ true → Moved t h b after
    go None q e = clash e refl
    go (Some r) q e =
        let y = and_true (r.g.0 == g.0) (covers r.mode modes.X) e in
        record { ino = ino; row = r; found = q; exclusive = exclusive_covers r.mode y.1; asks = asks r.g (sym (eqb-true _ _ y.0)); others = others }

ino_of : (i j : ℕ) (x y : List ExtentRow) → bd.Extents i x ≡ bd.Extents j y → i ≡ j
ino_of i j x y e = cc

rows_of : (i j : ℕ) (x y : List ExtentRow) → bd.Extents i x ≡ bd.Extents j y → x ≡ y
rows_of i j x y e = cc

-- the reply to a request for extents
told : (t : ServerTurn) (b : Body) (x : Extents) (i : ℕ) (p : PageNo) (n : ℕ) → AsksExtents b i p n → (ino : ℕ) (rows : List ExtentRow) →
    bd.Extents i (extents.extent_rows x (file_of t.state.id i) p n) ≡ bd.Extents ino rows → TellsRows t.state.id x b ino rows
told t b x i p n asks ino rows e =
    subst (λ j. TellsRows t.state.id x b j rows) (ino_of i ino _ rows e) (record { page = p; count = n; asks = asks; are = sym (rows_of i ino _ rows e) })

-- an answer that leaves all as it was
answered : (t : ServerTurn) (h : Header) (b r : Body) → edits.Told t h b r → Ruled t h b t r
answered t h b r edits.IsAlive = plain t h b t r refl refl refl (λ i rows e. cc e)
answered t h b r (edits.IsHeld ino mode x f e q) = plain t h b t r refl refl refl (λ i rows e. cc e)
answered t h b r (edits.HasTooMany ino mode f e q) = plain t h b t r refl refl refl (λ i rows e. cc e)
answered t h b r (edits.HasNoRow ino g to e) = plain t h b t r refl refl refl (λ i rows e. cc e)
answered t h b r (edits.IsMapped ino g p f e) =
    record { sessions = refl; sent = λ m j. j; tells = told t b t.state.stable.extents ino p 1 (refl, refl, refl); moves = inl refl }
answered t h b r (edits.IsNoFile _ ino e f) = plain t h b t r refl refl refl (λ i rows e. cc e)
answered t h b r (edits.HoldsNot _ ino g mode e f q) = plain t h b t r refl refl refl (λ i rows e. cc e)
answered t h b r (edits.HasNoSpace ino g p k x y f q e) = plain t h b t r refl refl refl (λ i rows e. cc e)
answered t h b r (edits.IsNamed dir x ino e) = plain t h b t r refl refl refl (λ i rows e. cc e)
answered t h b r (edits.AreListed dir x rows e) = plain t h b t r refl refl refl (λ i rows e. cc e)
answered t h b r (edits.IsRefused op x e) = plain t h b t r refl refl refl (λ i rows e. cc e)
answered t h b r (edits.RemovesNot dir x g ino e f q) = plain t h b t r refl refl refl (λ i rows e. cc e)

-- pages are cut, of a file that the client holds exclusively
cut : (t : ServerTurn) (h : Header) (b : Body) (u : ServerTurn) (i : ℕ) (p : PageNo) (g : GrantNo) (r : Body) → u.state.sessions ≡ t.state.sessions →
    u.out ≡ t.out →
    u.state.stable.extents ≡ t.state.stable.extents → u.state.id ≡ t.state.id → sv.holds t h i g modes.X ≡ true →
    ((k : GrantNo) → g.0 ≡ k.0 → ChangesExtents b i k) →
    TellsNone r → Ruled t h b (sv.cut_pages u i p) r
unfolding sv.cut_pages
cut t h b u i p g r ss os xs id holds changes none =
    record {
      sessions = ss;
      sent = λ m j. go m (has_append u.out (outputs.Note (notes.CutDone (sv.file u i) p) ∷ []) (outputs.Send m) j);
      tells = λ ino rows e. absurd (none ino rows e);
      moves = inr (moved t h b (extents.release_from u.state.stable.extents (sv.file u i) p) g i holds changes
          (λ f q d. others_released (sv.file u i) p u.state.stable.extents f q (λ e. d (e ∙ ap (λ s. file_of s i) id)) ∙ ap (λ x. extents.extent_of x f q) xs));
    }
  where
    go : (m : Message) → Has (outputs.Send m) u.out ⊎ Has (outputs.Send m) (outputs.Note (notes.CutDone (sv.file u i) p) ∷ []) → Has (outputs.Send m) t.out
    go m (inl j) = subst (λ xs. Has (outputs.Send m) xs) os j
    go m (inr (inl e)) = cc e
    go m (inr (inr j)) = absurd j

verdict_tells_none : (ino : ℕ) (mode : Mode) (v : Verdict) → TellsNone (sv.verdict_body ino mode v)
verdict_tells_none ino mode (verdicts.Granted g held) i rows e = cc e
verdict_tells_none ino mode (verdicts.Queued clients) i rows e = cc e

pub ruled : (now : Stamp) (t : ServerTurn) (h : Header) (b : Body) (u : ServerTurn) (r : Body) → edits.Ruled now t h b u r → Ruled t h b u r
unfolding sv.cut_whole
ruled now t h b u r (edits.Tells _ _ x) = answered t h b r x
ruled now t h b u r (edits.Acquires ino mode a f k g) = plain t h b u r refl refl refl (verdict_tells_none ino mode a.verdict)
ruled now t h b u r (edits.Releases ino g to x e f) = plain t h b u r refl refl refl (λ i rows e. cc e)
ruled now t h b u r (edits.Allocates ino g p count x f q e) =
    record {
      sessions = refl;
      sent = λ m j. j;
      tells = told t b x ino p count (refl, refl, refl);
      moves = inr (moved t h b x g ino q (λ k z. (refl, z))
          (λ f w d. ap (λ y. extents.extent_of y f w) (sym (allocated_pages_are_placed t.state.stable.extents (sv.file t ino) p count x e))
          ∙ others_placed (sv.file t ino) (extents.unmapped t.state.stable.extents (sv.file t ino) p count) t.state.stable.extents f w d));
    }
ruled now t h b u r (edits.Cuts ino g p f q) = cut t h b t ino p g r refl refl refl refl q (λ k z. (refl, z)) (λ i rows e. cc e)
ruled now t h b u r (edits.Creates dir x d e) = plain t h b u r refl refl refl (λ i rows e. cc e)
ruled now t h b u r (edits.MakesDir dir x d e) = plain t h b u r refl refl refl (λ i rows e. cc e)
ruled now t h b u r (edits.Renames dir x dir2 x2 d e) = plain t h b u r refl refl refl (λ i rows e. cc e)
ruled now t h b u r (edits.RemovesDir dir x g ino d l f z e q) = plain t h b u r refl refl refl (λ i rows e. cc e)
ruled now t h b u r (edits.RemovesFile dir x g ino d l f z e q) =
    cut t h b _ d.ino _ g r refl refl refl refl (subst (λ i. sv.holds t h i g modes.X ≡ true) (sym q) z) (λ k w. w) (λ i rows e. cc e)
