-- Each message that a server sends has its number: from any state, and at any input.
use Rattle.st_lemmas.proofs.Words
use Words.{◌≡◌, ◌⊎◌, ℕ, Bool, List, [], ◌∷◌, ◌++◌, refl, ap, ◌∙◌, inl, inr}
use Words.{Body, Header, Message, Note, Output, ServerId, ServerInput, Stamp}
use Words.notes
use Words.outputs
use Words.Keys.{server_node}
use Words.Lists.{Has}
use Words.Server as sv
use Words.Server.{ServerState, ServerTurn}
use Words.Tables.{has_append}
use Rattle.st_trace.specs.Server.Edits.{Cuts, EditOf, Phase, PutsOff, RemovesFile, Ruled}
use Rattle.st_trace.specs.Server.Edits.{Sees, Serves, Steals, Suspects, TakesTimers}
use Rattle.st_trace.specs.Server.Steps.{step_of}
use Rattle.st_trace.proofs.Server.Walk.{walk_of}

-- a message that is said last
said_last : (os : List Output) (w m : Message) → Has (outputs.Send m) (os ++ outputs.Send w ∷ []) → (Has (outputs.Send m) os) ⊎ (m ≡ w)
said_last os w m h = go (has_append os (outputs.Send w ∷ []) (outputs.Send m) h)
  where
    same : outputs.Send m ≡ outputs.Send w → m ≡ w
    same e = cc

    go : (Has (outputs.Send m) os) ⊎ (Has (outputs.Send m) (outputs.Send w ∷ [])) → (Has (outputs.Send m) os) ⊎ (m ≡ w)
    go (inl i) = inl i
    go (inr (inl e)) = inr (same e)
    go (inr (inr i)) = absurd i

-- a note isn't one
noted_last : (os : List Output) (w : Note) (m : Message) → Has (outputs.Send m) (os ++ outputs.Note w ∷ []) → Has (outputs.Send m) os
noted_last os w m h = go (has_append os (outputs.Note w ∷ []) (outputs.Send m) h)
  where
    no : outputs.Send m ≡ outputs.Note w → ⊥
    no e = cc

    go : (Has (outputs.Send m) os) ⊎ (Has (outputs.Send m) (outputs.Note w ∷ [])) → Has (outputs.Send m) os
    go (inl i) = i
    go (inr (inl e)) = absurd (no e)
    go (inr (inr i)) = absurd i

-- the server has its number, and so have its messages
record Signs (n : ServerState) (t : ServerTurn) : Type 0 where
  id : t.state.id ≡ n.id
  said : (m : Message) → Has (outputs.Send m) t.out → m.header.from ≡ server_node n.id

module _ (clients : ℕ → Bool) (n : ServerState) (now : Stamp) (i : ServerInput) where
  one_more : (t : ServerTurn) → Signs n t → (w : Message) → w.header.from ≡ server_node t.state.id → (os : List Output) →
      ((m : Message) → Has (outputs.Send m) os → Has (outputs.Send m) t.out) → (m : Message) → Has (outputs.Send m) (os ++ outputs.Send w ∷ []) →
      m.header.from ≡ server_node n.id
  one_more t z w e os fewer m h = go (said_last os w m h)
    where
      go : (Has (outputs.Send m) os) ⊎ (m ≡ w) → m.header.from ≡ server_node n.id
      go (inl j) = z.said m (fewer m j)
      go (inr q) = ap (λ (x : Message). x.header.from) q ∙ e ∙ ap (λ (x : ServerId). server_node x) z.id

  ruled : (t : ServerTurn) (h : Header) (b : Body) (v : ServerTurn) (r : Body) → Ruled now t h b v r →
      (v.state.id ≡ t.state.id) × ((m : Message) → Has (outputs.Send m) v.out → Has (outputs.Send m) t.out)
  unfolding sv.cut_pages sv.cut_whole
  ruled t h b v r (Cuts ino g p is_file holds) = (refl, λ m j. noted_last t.out _ m j)
  ruled t h b v r (RemovesFile dir nm g ino d look is_file holds remove e) = (refl, λ m j. noted_last t.out _ m j)
  ruled t h b v r rule = (refl, λ m j. j)

  signs_edit : (a : Phase) (t u : ServerTurn) → EditOf clients n now i a t u → Signs n t → Signs n u
  unfolding sv.reply sv.tell sv.suspect_client sv.keep_and_reply sv.steal_from
  signs_edit a t u (TakesTimers _ e) z = record { id = z.id; said = z.said }
  signs_edit a t u (Steals _ c x f e) z = record { id = z.id; said = λ m h. z.said m (noted_last t.out _ m h) }
  signs_edit a t u (Suspects _ c r is q f j e late) z = record { id = z.id; said = λ m h. z.said m (noted_last t.out _ m h) }
  signs_edit a t u (Sees _ m ino g x b e) z = record { id = z.id; said = z.said }
  signs_edit a t u (PutsOff _ m x g e live life some) z =
      record { id = z.id; said = one_more t z _ refl (t.out ++ outputs.Note (notes.Suspected (sv.sender m.header) now) ∷ []) (λ w h. noted_last t.out _ w h) }
  signs_edit a t u (Serves _ m v b x e r) z =
      let y = ruled t m.header m.body v b r in
      record { id = y.0 ∙ z.id; said = one_more t z _ (ap (λ (q : ServerId). server_node q) y.0) v.out y.1 }
  signs_edit a t u edit z = record { id = z.id; said = one_more t z _ refl t.out (λ m h. h) }

  -- So it is after a step.
  pub server_signs : ((step_of clients n now i).state.id ≡ n.id)
      × ((m : Message) → Has (outputs.Send m) (step_of clients n now i).out → m.header.from ≡ server_node n.id)
  server_signs =
      let z : Signs n (step_of clients n now i) = walk_of clients n now i (Signs n) signs_edit (record { id = refl; said = λ m h. absurd h }) in
      (z.id, z.said)
