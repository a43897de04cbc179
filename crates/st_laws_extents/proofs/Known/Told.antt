-- Replies of extents tell what the server has after its step, and are sent by it, in its epoch.
use Rattle.st_lemmas.proofs.Words
use Words.{◌≡◌, ℕ, ◌⊎◌, List, [], ◌∷◌, ◌++◌, refl, sym, ap, ◌∙◌, subst, inl, inr, Option, Some, None, filter_map, option_map, cons_option, eqb-true, Epoch}
use Words.{FileId, PageNo, ServerId, Stamp, ExtentRow, Body, Header, Message, Note, Extent, ServerInput}
use Words.outputs
use Words.Extents as extents
use Words.Extents.{Extents}
use Words.Keys.{same_file, same_page, server_node}
use Words.Server as sv
use Words.Server.{ServerState, ServerTurn, reply, tell, steal_from, suspect_client, keep_and_reply, server_step}
use Words.Lists.{Has}
use Words.Tables.{and_true, found_at, has_append}
use Rattle.st_laws_reads.specs.Copies.Copies.{file_at}
use Rattle.st_laws_extents.specs.ExtentReplies.Steps as replies
use Rattle.st_laws_extents.proofs.ExtentReplies.Step.{step_tells}
use Rattle.st_laws_extents.specs.Known.ToldExtents.{RepliesTellExtents, RowsRight, RowRight, ToldBy}
use Rattle.st_trace.specs.Server.Edits as edits
use Rattle.st_trace.specs.Server.Edits.{Phase, Ruled, Edit, TakesTimers, Steals, Welcomes, Begins, Replaces, PutsOff, Sees, Reasserts, Serves, Repeats, Refuses}
use Rattle.st_trace.specs.Server.Edits.{Suspects, Grants, Demands}
use Rattle.st_trace.proofs.Server.Walk.{walk}

-- Rows that are reported.
rows_of : (x : Extents) (f : FileId) (s : ServerId) (ino : ℕ) → f ≡ file_at s ino → (ps : List PageNo) (r : ExtentRow) →
    Has r (filter_map (extents.extent_row_at x f) ps) → RowRight x s ino r
rows_of x f s ino e [] r i = elim i [ ]
rows_of x f s ino e (p ∷ ps) r i = go (extents.extent_of x f p) refl i (rows_of x f s ino e ps r)
  where
    go : (o : Option Extent) → extents.extent_of x f p ≡ o →
        Has r (cons_option (option_map extents.extent_row o) (filter_map (extents.extent_row_at x f) ps)) →
        (Has r (filter_map (extents.extent_row_at x f) ps) → RowRight x s ino r) → RowRight x s ino r
    go None q j k = k j
    go (Some y) q (inr j) k = k j
    go (Some y) q (inl j) k =
        let page : y.page ≡ p =
        ap (λ n. record { 0 = n })
        (eqb-true y.page.0 p.0 (and_true (same_file y.file f) (same_page y.page p) (found_at (extents.is_extent_of f p) x.rows y q).0).1) in
        record {
          extent = y;
          is = ap (λ g. extents.extent_of x g r.page) (sym e) ∙ ap (extents.extent_of x f) (ap (λ (z : ExtentRow). z.page) j ∙ page) ∙ q;
          at = ap (λ (z : ExtentRow). z.at) (sym j);
          birth = ap (λ (z : ExtentRow). z.birth) (sym j);
        }

-- What a server sends is from it, and of its epoch.
module _ (n : ServerState) where
  record FromHere (t : ServerTurn) : Type 0 where
    id : t.state.id ≡ n.id
    epoch : t.state.stable.epoch ≡ n.stable.epoch
    sent : (m : Message) → Has (outputs.Send m) t.out → (m.header.from ≡ server_node n.id) × (m.header.epoch ≡ n.stable.epoch.0)

  -- other parts of the state
  other : (t : ServerTurn) (y : ServerState) → y.id ≡ t.state.id → y.stable.epoch ≡ t.state.stable.epoch → FromHere t → FromHere (record t { state = y })
  other t y a b k = record { id = a ∙ k.id; epoch = b ∙ k.epoch; sent = k.sent }

  notes : (t : ServerTurn) (y : ServerState) (x : Note) → y.id ≡ t.state.id → y.stable.epoch ≡ t.state.stable.epoch → FromHere t →
      FromHere (record { state = y; out = t.out ++ outputs.Note x ∷ [] })
  notes t y x a b k = record { id = a ∙ k.id; epoch = b ∙ k.epoch; sent = λ m h. go m (has_append t.out (outputs.Note x ∷ []) (outputs.Send m) h) }
    where
      go : (m : Message) → Has (outputs.Send m) t.out ⊎ Has (outputs.Send m) (outputs.Note x ∷ []) →
          (m.header.from ≡ server_node n.id) × (m.header.epoch ≡ n.stable.epoch.0)
      go m (inl h) = k.sent m h
      go m (inr (inl e)) = cc e
      go m (inr (inr h)) = absurd h

  sends : (t : ServerTurn) (y : ServerState) (h : Header) (b : Body) → y.id ≡ t.state.id → y.stable.epoch ≡ t.state.stable.epoch → h.from ≡ server_node y.id →
      h.epoch ≡ y.stable.epoch.0 → FromHere t → FromHere (record { state = y; out = t.out ++ outputs.Send (record { header = h; body = b }) ∷ [] })
  sends t y h b a c f g k =
      record {
        id = a ∙ k.id;
        epoch = c ∙ k.epoch;
        sent = λ m i. go m (has_append t.out (outputs.Send (record { header = h; body = b }) ∷ []) (outputs.Send m) i);
      }
    where
      same : (m : Message) → outputs.Send m ≡ outputs.Send (record { header = h; body = b }) → m ≡ record { header = h; body = b }
      same m e = cc

      go : (m : Message) → Has (outputs.Send m) t.out ⊎ Has (outputs.Send m) (outputs.Send (record { header = h; body = b }) ∷ []) →
          (m.header.from ≡ server_node n.id) × (m.header.epoch ≡ n.stable.epoch.0)
      go m (inl i) = k.sent m i
      go m (inr (inl e)) = (
        ap (λ (z : Message). z.header.from) (same m e) ∙ f ∙ ap server_node (a ∙ k.id),
        ap (λ (z : Message). z.header.epoch) (same m e) ∙ g ∙ ap (λ (z : Epoch). z.0) (c ∙ k.epoch),
      )
      go m (inr (inr i)) = absurd i

  ruled : (now : Stamp) (t : ServerTurn) (h : Header) (m : Body) (u : ServerTurn) (b : Body) → Ruled now t h m u b → FromHere t → FromHere u
  unfolding sv.cut_pages sv.cut_whole
  ruled now t h m u b (edits.Tells _ _ r) k = k
  ruled now t h m u b (edits.Acquires ino mode a f l g) k = other t _ refl refl k
  ruled now t h m u b (edits.Releases ino g to r e f) k = other t _ refl refl k
  ruled now t h m u b (edits.Allocates ino g p count x f q e) k = other t _ refl refl k
  ruled now t h m u b (edits.Cuts ino g p f q) k = notes t _ _ refl refl k
  ruled now t h m u b (edits.Creates dir x d e) k = other t _ refl refl k
  ruled now t h m u b (edits.MakesDir dir x d e) k = other t _ refl refl k
  ruled now t h m u b (edits.Renames dir x dir2 x2 d e) k = other t _ refl refl k
  ruled now t h m u b (edits.RemovesDir dir x g ino d l f z e q) k = other t _ refl refl k
  ruled now t h m u b (edits.RemovesFile dir x g ino d l f z e q) k = notes t _ _ refl refl k

  module _ (now : Stamp) (i : ServerInput) where
    from_here : (a : Phase) (t u : ServerTurn) → Edit n now i a t u → FromHere t → FromHere u
    unfolding steal_from suspect_client keep_and_reply reply tell
    from_here a t u (TakesTimers _ e) k = other t _ refl refl k
    from_here a t u (Steals _ c y h e) k = notes t _ _ refl refl k
    from_here a t u (Welcomes _ m y g e x f) k = sends t _ _ _ refl refl refl refl k
    from_here a t u (Begins _ m g f) k = sends t _ _ _ refl refl refl refl k
    from_here a t u (Replaces _ m y g e x f r) k = sends t _ _ _ refl refl refl refl k
    from_here a t u (PutsOff _ m y g e x f r) k = sends (suspect_client t now (sv.sender m.header)) _ _ _ refl refl refl refl (notes t _ _ refl refl k)
    from_here a t u (Sees _ m ino g h b e) k = other t _ refl refl k
    from_here a t u (Reasserts _ m rows r on f) k = sends t _ _ _ refl refl refl refl k
    from_here a t u (Serves _ m v b s e r) k = sends v _ _ _ refl refl refl refl (ruled now t m.header m.body v b r k)
    from_here a t u (Repeats _ m y b x e f g z) k = sends t _ _ _ refl refl refl refl k
    from_here a t u (Refuses _ m b r) k = sends t _ _ _ refl refl refl refl k
    from_here a t u (Suspects _ c r is q f h e o) k = notes t _ _ refl refl k
    from_here a t u (Grants _ w off h e f) k = sends t _ _ _ refl refl refl refl k
    from_here a t u (Demands _ w r y e h f o d) k = sends t _ _ _ refl refl refl refl k

    step_from_here : FromHere (server_step n now i)
    step_from_here = walk n now i FromHere from_here (record { id = refl; epoch = refl; sent = λ m h. absurd h })

-- a reply that tells the pages that were asked for tells what the server has
told_by : (n : ServerState) (i : ServerInput) (x : Extents) (to life number ino : ℕ) (rows : List ExtentRow) → replies.ToldBy n i x to life number ino rows →
    ToldBy n i x to life number ino rows
unfolding extents.extent_rows
told_by n i x to life number ino rows (inl k) = inl (record { session = k.session; is = k.is; of_life = k.of_life; state = k.state })
told_by n i x to life number ino rows (inr a) =
    let t = a.tells in
    inr (record {
      by = a.by;
      input = a.is;
      from = a.from;
      there = a.served.to;
      of_life = a.of_life;
      of_epoch = a.served.of_epoch;
      under = a.under;
      right = subst (RowsRight x n.id ino) (sym t.are) (rows_of x (file_at n.id ino) n.id ino refl (extents.pages_from t.page t.count));
    })

pub replies_tell_extents : RepliesTellExtents
replies_tell_extents n now i =
    let t = step_tells n now i in
    let x = (server_step n now i).state.stable.extents in
    record {
      kept = λ c y q k ino rows f. told_by n i x c.0 y.life.0 k ino rows (t.kept c y.life.0 k ino rows
          (record { session = y; is = q; of_life = refl; state = f }));
      sent = λ m h ino rows e.
          let z = (step_from_here n now i).sent m h in
          (z.0, z.1, told_by n i x m.header.to m.header.life m.header.number ino rows (t.sent m ino rows h e));
    }
