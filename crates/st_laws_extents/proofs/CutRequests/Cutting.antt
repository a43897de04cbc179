-- Why a server cuts a file: the cuts that a step notes.
use Rattle.st_lemmas.proofs.Words
use Words.{◌≡◌, ℕ, ◌⊎◌, true, List, [], ◌∷◌, ◌++◌, ◌==◌, refl, sym, ap, ◌∙◌, subst, inl, inr, Option, Some, None, eqb-true, FileId, GrantNo}
use Words.{PageNo, Stamp, Body, Message, Output, ServerInput, LockRow}
use Words.modes
use Words.notes
use Words.outputs
use Words.serving.{Tick, Control}
use Words.Keys.{page_no, server_node}
use Words.Locks as locks
use Words.Sessions.{is_live_state}
use Words.Server as sv
use Words.Server.{ServerState, ServerTurn, Stable, sender, reply, tell, steal_from, suspect_client, keep_and_reply, server_step}
use Words.Lists.{Has}
use Words.Tables.{and_true, has_append}
use Words.Truth.{clash, exclusive_covers}
use Rattle.st_base.specs.Mode.{covers}
use Rattle.st_laws_extents.specs.CutRequests.Cut.{AsksCut, CutBy}
use Rattle.st_trace.specs.Server.Edits as edits
use Rattle.st_trace.specs.Server.Edits.{Phase, Served, Ruled, Edit, TakesTimers, Steals, Welcomes, Begins, Replaces, PutsOff, Sees, Reasserts, Serves, Repeats}
use Rattle.st_trace.specs.Server.Edits.{Refuses, Suspects, Grants, Demands}
use Rattle.st_trace.proofs.Server.Walk.{walk}

module _ (x : ServerState) (now : Stamp) (i : ServerInput) where
  -- the message that comes, and the cut that its request asks for
  abbrev Cause : FileId → PageNo → Type 0
  Cause f p = (m : Message) × (i ≡ Control m) × CutBy x m f p

  abbrev Noted : List Output → Type 0
  Noted os = (f : FileId) (p : PageNo) → Has (outputs.Note (notes.CutDone f p)) os → Cause f p

  says : (os : List Output) (o : Output) → ((f : FileId) (p : PageNo) → outputs.Note (notes.CutDone f p) ≡ o → Cause f p) → Noted os → Noted (os ++ o ∷ [])
  says os o k n f p h = go (has_append os (o ∷ []) (outputs.Note (notes.CutDone f p)) h)
    where
      go : Has (outputs.Note (notes.CutDone f p)) os ⊎ Has (outputs.Note (notes.CutDone f p)) (o ∷ []) → Cause f p
      go (inl i) = n f p i
      go (inr (inl e)) = k f p e
      go (inr (inr i)) = absurd i

  -- a request that is served, under an exclusive row
  cause : (t : ServerTurn) (m : Message) → Served x now i t m → (g : GrantNo) (ino : ℕ) (p : PageNo) → sv.holds t m.header ino g modes.X ≡ true →
      ((h : GrantNo) → g.0 ≡ h.0 → AsksCut m.body ino p h) → Cause (sv.file t ino) p
  cause t m s g ino p holds asks = go (locks.row_of t.state.locks (sender m.header) ino) refl holds
    where
      go : (o : Option LockRow) → locks.row_of t.state.locks (sender m.header) ino ≡ o → sv.is_held g modes.X o ≡ true → Cause (sv.file t ino) p
      go None q h = clash h refl
      go (Some r) q h =
          let y = and_true (r.g.0 == g.0) (covers r.mode modes.X) h in
          let c = s.asked.heard.came in
          let z = s.in_life in (
            m,
            c.is,
            record {
              server = c.begun.id;
              client = c.from;
              to = c.there ∙ ap server_node c.begun.id;
              of_epoch = s.asked.epoch ∙ ap (λ (y : Stable). y.epoch.0) c.begun.stable;
              session = z.session;
              is = c.begun.sessions (sender m.header) z.session z.is (ap is_live_state z.state);
              of_life = z.of_life;
              last = z.last;
              reply = z.old;
              state = z.state;
              next = s.next;
              row = r;
              found = c.begun.rows (sender m.header) ino r q;
              exclusive = exclusive_covers r.mode y.1;
              asks = asks r.g (sym (eqb-true _ _ y.0));
            },
          )

  noted_cut : (os : List Output) (g : FileId) (q : PageNo) → Cause g q → Noted os → Noted (os ++ outputs.Note (notes.CutDone g q) ∷ [])
  noted_cut os g q c n = says os (outputs.Note (notes.CutDone g q)) (λ f p e. subst Of (sym e) c) n
    where
      Of : Output → Type 0
      Of (outputs.Note (notes.CutDone f p)) = Cause f p
      Of o = Unit {0}

  ruled : (t : ServerTurn) (m : Message) (b : Body) (u : ServerTurn) (r : Body) → Served x now i t m → m.body ≡ b → Ruled now t m.header b u r →
      Noted t.out → Noted u.out
  unfolding sv.cut_pages sv.cut_whole
  ruled t m b u r s q (edits.Tells _ _ k) n = n
  ruled t m b u r s q (edits.Acquires ino mode a f k g) n = n
  ruled t m b u r s q (edits.Releases ino g to l e f) n = n
  ruled t m b u r s q (edits.Allocates ino g p count y f k e) n = n
  ruled t m b u r s q (edits.Cuts ino g p f k) n =
      noted_cut t.out (sv.file t ino) p (cause t m s g ino p k (λ h e. subst (λ y. AsksCut y ino p h) (sym q) (refl, refl))) n
  ruled t m b u r s q (edits.Creates dir l d e) n = n
  ruled t m b u r s q (edits.MakesDir dir l d e) n = n
  ruled t m b u r s q (edits.Renames dir l dir2 l2 d e) n = n
  ruled t m b u r s q (edits.RemovesDir dir l g ino d k f z e j) n = n
  ruled t m b u r s q (edits.RemovesFile dir l g ino d k f z e j) n =
      noted_cut t.out (sv.file t d.ino) (page_no 0)
      (subst (λ y. Cause (sv.file t y) (page_no 0)) (sym j) (cause t m s g ino (page_no 0) z
      (λ h e. subst (λ y. AsksCut y ino (page_no 0) h) (sym q) (refl, e)))) n

  noted_edit : (a : Phase) (t u : ServerTurn) → Edit x now i a t u → Noted t.out → Noted u.out
  unfolding steal_from suspect_client keep_and_reply reply tell
  noted_edit a t u (TakesTimers _ e) n = n
  noted_edit a t u (Steals _ c y h e) n = says t.out _ (λ f p e. cc e) n
  noted_edit a t u (Welcomes _ m y g e k f) n = says t.out _ (λ f p e. cc e) n
  noted_edit a t u (Begins _ m g f) n = says t.out _ (λ f p e. cc e) n
  noted_edit a t u (Replaces _ m y g e k f r) n = says t.out _ (λ f p e. cc e) n
  noted_edit a t u (PutsOff _ m y g e k f r) n = says _ _ (λ f p e. cc e) (says t.out _ (λ f p e. cc e) n)
  noted_edit a t u (Sees _ m ino g h b e) n = n
  noted_edit a t u (Reasserts _ m rows r on f) n = says t.out _ (λ f p e. cc e) n
  noted_edit a t u (Serves _ m v b s e r) n = says v.out _ (λ f p e. cc e) (ruled t m m.body v b s refl r n)
  noted_edit a t u (Repeats _ m y b k e f g z) n = says t.out _ (λ f p e. cc e) n
  noted_edit a t u (Refuses _ m b r) n = says t.out _ (λ f p e. cc e) n
  noted_edit a t u (Suspects _ c r is q f h e o) n = says t.out _ (λ f p e. cc e) n
  noted_edit a t u (Grants _ w off h e f) n = says t.out _ (λ f p e. cc e) n
  noted_edit a t u (Demands _ w r y e k f o d) n = says t.out _ (λ f p e. cc e) n

  cut_by : Noted (server_step x now i).out
  cut_by = walk x now i (λ t. Noted t.out) noted_edit (λ f p h. absurd h)

-- A server's step: it cuts nothing on a tick, and otherwise because of the message that comes.
pub step_cuts : (x : ServerState) (now : Stamp) (m : Message) (f : FileId) (p : PageNo) →
    Has (outputs.Note (notes.CutDone f p)) (server_step x now (Control m)).out → CutBy x m f p
step_cuts x now m f p h = go (cut_by x now (Control m) f p h)
  where
    same : (k : Message) → Control m ≡ Control k → k ≡ m
    same k e = cc

    go : (k : Message) × (Control m ≡ Control k) × CutBy x k f p → CutBy x m f p
    go (k, e, c) = subst (λ y. CutBy x y f p) (same k e) c

pub tick_cuts : (x : ServerState) (now : Stamp) (f : FileId) (p : PageNo) → Has (outputs.Note (notes.CutDone f p)) (server_step x now Tick).out → ⊥
tick_cuts x now f p h = go (cut_by x now Tick f p h)
  where
    go : (m : Message) × (Tick ≡ Control m) × CutBy x m f p → ⊥
    go (m, e, c) = cc e
