-- A step of a client: as it notes a change of a page, no write of that page that was asked before is still open.
use Rattle.st_lemmas.proofs.Words
use Words.{◌≡◌, ◌⊎◌, ℕ, ◌+◌, ◌<◌, ◌≤◌, ◌==◌, arith, Bool, true, false, not, ◌&&◌, ◌||◌, List, [], ◌∷◌, ◌++◌, Option, Some, None, Ok, Err, refl, sym, ap, ◌∙◌, subst, inl, inr, if◌then◌else◌}
use Words.{append-nil, append_assoc, eq-eqb, eqb-true, filter, map, AppAnswer, Ask, Body, FileId, Header, Message, Mode, NameReply, Note, Operation, Output, PageNo, ServerId, Stamp}
use Words.{Tag, KnownExtent, MappedBlock, Why}
use Words.answers
use Words.asks
use Words.modes
use Words.notes
use Words.outputs
use Words.inputs
use Words.replies
use Words.stages
use Words.writing as refusals
use Words.Client as cl
use Words.ClientPages as pages
use Words.ClientPasses as cp
use Words.ClientReplies as cr
use Words.ClientState as cs
use Words.ClientState.{Association, ClientSession, ClientState, ClientTurn, Turn, answer_to, at_each, at_these, client_turn, enter, is_of, is_open_file, is_sent, is_serving, leave, only_at, say, server_of, with_operations, with_session, with_store}
use Words.FlatLog.{overlay}
use Words.Lists.{Has}
use Words.Lookups.{some_is}
use Words.Members.{has_left, has_middle, has_right}
use Words.Tables.{and_true, cond_either, has_append, has_filter, has_map, has_map_in}
use Words.Truth.{clash, none_not_some}
use Rattle.st_rules.specs.declared.client.ClientInput.{ClientInput}
use Rattle.st_trace.specs.Client.Commands as ending
use Rattle.st_trace.specs.Client.Commands.{Finishes, Takes}
use Rattle.st_trace.specs.Client.Each as each_of
use Rattle.st_trace.specs.Client.Losses as losing
use Rattle.st_trace.specs.Client.Losses.{Ended, Loses}
use Rattle.st_trace.specs.Client.Messages as trace
use Rattle.st_trace.specs.Client.Messages.{Effect, Receives, Refusal, Renews}
use Rattle.st_trace.specs.Client.Passes.{Reduced, StaysHeld, IsReduced, WritesOut, StaysDirty, IsWritten, places_of}
use Rattle.st_trace.specs.Client.Requests as asking
use Rattle.st_trace.specs.Client.Requests.{Greets, Requests}
use Rattle.st_trace.proofs.Client.Finishing.{finishes, takes}
use Rattle.st_trace.proofs.Client.Losing.{loses}
use Rattle.st_trace.proofs.Client.Receiving.{receives}
use Rattle.st_trace.proofs.Client.Requesting.{greets, requests}
use Rattle.st_trace.proofs.Client.Walk.{each_lasts, reductions, writes}
use Rattle.st_laws_pages.proofs.Asks.Asks.{Unwritten, map_more}
use Rattle.st_laws_pages.proofs.Asks.Client.{key}
use Rattle.st_laws_steps.specs.Client.Inputs.{Taken}
use Rattle.st_laws_steps.specs.Client.Inputs as taking
use Rattle.st_laws_steps.proofs.Client.Taking.{taken}
use Rattle.st_laws_volume.proofs.AskClient.{closed_all, closed_by, closed_last}
use Rattle.st_laws_volume.proofs.AskSteps.{without_ask}
use Rattle.st_volume.specs.Pages.{place_of, same_file, same_place}
use Rattle.st_volume.specs.Volume.{is_sooner}

-- No open ask must take effect before the one that has this number.
abbrev pub NoSooner : ℕ → List (ℕ × Ask) → Type 0
NoSooner op ks = (k j : ℕ × Ask) → Has k ks → Has j ks → k.0 ≡ op → j.0 < op → is_sooner j.1 k.1 ≡ false

-- an answer `written` comes to such an ask
abbrev pub AnswerInOrder : ℕ → AppAnswer → List (ℕ × Ask) → Type 0
AnswerInOrder op answers.Written ks = NoSooner op ks
AnswerInOrder op a ks = Unit {0}

abbrev pub OneInOrder : Output → List (ℕ × Ask) → Type 0
OneInOrder (outputs.Answer op a) ks = AnswerInOrder op a ks
OneInOrder o ks = Unit {0}

abbrev pub InOrder : List Output → List (ℕ × Ask) → Type 0
InOrder [] ks = Unit {0}
InOrder (o ∷ os) ks = OneInOrder o ks × InOrder os (closed_by o ks)

order_last : (os : List Output) (o : Output) (ks : List (ℕ × Ask)) → InOrder os ks → OneInOrder o (closed_all os ks) → InOrder (os ++ o ∷ []) ks
order_last [] o ks h k = (k, tt)
order_last (x ∷ os) o ks h k = (h.0, order_last os o (closed_by x ks) h.1 k)

unwritten_order : (op : ℕ) (a : AppAnswer) (ks : List (ℕ × Ask)) → Unwritten a → AnswerInOrder op a ks
unwritten_order op answers.Written ks u = absurd u
unwritten_order op a ks u = tt

-- Lists of asks whose numbers don't fall.
abbrev pub Mounts : List (ℕ × Ask) → Type 0
Mounts [] = Unit {0}
Mounts (k ∷ ks) = record { first : (j : ℕ × Ask) → Has j ks → k.0 ≤ j.0; rest : Mounts ks }

mounts_less : (k : ℕ × Ask) (xs ys : List (ℕ × Ask)) → Mounts (xs ++ k ∷ ys) → Mounts (xs ++ ys)
mounts_less k [] ys h = h.rest
mounts_less k (x ∷ xs) ys h = record { first = λ j i. h.first j (has_middle k j xs ys i); rest = mounts_less k xs ys h.rest }

mounts_above : (k j : ℕ × Ask) (xs ys : List (ℕ × Ask)) → Mounts (xs ++ k ∷ ys) → Has j ys → k.0 ≤ j.0
mounts_above k j [] ys h i = h.first j i
mounts_above k j (x ∷ xs) ys h i = mounts_above k j xs ys h.rest i

pub mounts_last : (ks : List (ℕ × Ask)) (k : ℕ × Ask) → ((j : ℕ × Ask) → Has j ks → j.0 ≤ k.0) → Mounts ks → Mounts (ks ++ k ∷ [])
mounts_last [] k h m = record { first = λ j i. absurd i; rest = tt }
mounts_last (x ∷ ks) k h m =
    record { first = λ j i. go j (has_append ks (k ∷ []) j i); rest = mounts_last ks k (λ j i. h j (inr i)) m.rest }
  where
    go : (j : ℕ × Ask) → Has j ks ⊎ Has j (k ∷ []) → x.0 ≤ j.0
    go j (inl i) = m.first j i
    go j (inr (inl e)) = subst (λ (z : ℕ × Ask). x.0 ≤ z.0) (sym e) (h x (inl refl))
    go j (inr (inr i)) = absurd i

-- An output that answers nothing.
abbrev Mute : Output → Type 0
Mute (outputs.Answer op a) = ⊥
Mute o = Unit {0}

-- The ask that comes, if one does, has this number.
pub record Comes (n : ℕ) (coming : List (ℕ × Ask)) : Type 0 where
  pub lone : (k j : ℕ × Ask) → Has k coming → Has j coming → k ≡ j
  pub its : (k : ℕ × Ask) → Has k coming → k.0 ≡ n

module _ (n : ℕ) (coming start : List (ℕ × Ask)) (comes : Comes n coming) where
  -- What holds of the pending asks and the outputs so far.
  record Q (ks : List (ℕ × Ask)) (out : List Output) : Type 0 where
    within : (j : ℕ × Ask) → Has j (closed_all out start) → Has j ks ⊎ Has j coming
    mounts : Mounts ks
    same : (k j : ℕ × Ask) → Has k ks → Has j ks → k.0 ≡ j.0 → k ≡ j
    top : (k : ℕ × Ask) → Has k ks → (k.0 < n) ⊎ Has k coming
    ordered : InOrder out start

  mute_by : (o : Output) (ks : List (ℕ × Ask)) → Mute o → closed_by o ks ≡ ks
  mute_by (outputs.Answer op a) ks m = absurd m
  mute_by o ks m = refl

  mute_order : (o : Output) (ks : List (ℕ × Ask)) → Mute o → OneInOrder o ks
  mute_order (outputs.Answer op a) ks m = absurd m
  mute_order o ks m = tt

  says : (ks : List (ℕ × Ask)) (out : List Output) (o : Output) → Mute o → Q ks out → Q ks (out ++ o ∷ [])
  says ks out o m h =
      record {
        within = λ j i. h.within j (subst (Has j) (closed_last out o start ∙ mute_by o (closed_all out start) m) i);
        mounts = h.mounts;
        same = h.same;
        top = h.top;
        ordered = order_last out o start h.ordered (mute_order o (closed_all out start) m);
      }

  fewer : (out : List Output) (op : ℕ) (a : AppAnswer) (j : ℕ × Ask) → Has j (closed_all (out ++ outputs.Answer op a ∷ []) start) →
      Has j (closed_all out start) × ((j.0 == op) ≡ false)
  fewer out op a j i =
      let z = has_filter (λ (k : ℕ × Ask). not (k.0 == op)) (closed_all out start) j (subst (Has j) (closed_last out (outputs.Answer op a) start) i) in
      (z.0, Words.Tables.not_true (j.0 == op) z.1)

  -- an answer to an ask that isn't pending
  drops : (ks : List (ℕ × Ask)) (out : List Output) (op : ℕ) (a : AppAnswer) → Unwritten a → Q ks out → Q ks (out ++ outputs.Answer op a ∷ [])
  drops ks out op a u h =
      record {
        within = λ j i. h.within j (fewer out op a j i).0;
        mounts = h.mounts;
        same = h.same;
        top = h.top;
        ordered = order_last out (outputs.Answer op a) start h.ordered (unwritten_order op a (closed_all out start) u);
      }

  -- an answer to a pending ask, which no longer is
  removes : (xs ys : List (ℕ × Ask)) (k : ℕ × Ask) (out : List Output) (a : AppAnswer) → AnswerInOrder k.0 a (closed_all out start) → Q (xs ++ k ∷ ys) out →
      Q (xs ++ ys) (out ++ outputs.Answer k.0 a ∷ [])
  removes xs ys k out a u h =
      record {
        within = λ j i. let z = fewer out k.0 a j i in by j z.1 (h.within j z.0);
        mounts = mounts_less k xs ys h.mounts;
        same = λ x y i j. h.same x y (has_middle k x xs ys i) (has_middle k y xs ys j);
        top = λ x i. h.top x (has_middle k x xs ys i);
        ordered = order_last out (outputs.Answer k.0 a) start h.ordered u;
      }
    where
      split : (j : ℕ × Ask) → (j.0 == k.0) ≡ false → Has j xs ⊎ Has j (k ∷ ys) → Has j (xs ++ ys)
      split j d (inl i) = has_left xs ys j i
      split j d (inr (inl e)) = clash (eq-eqb j.0 k.0 (ap (λ (z : ℕ × Ask). z.0) e)) d
      split j d (inr (inr i)) = has_right xs ys j i

      by : (j : ℕ × Ask) → (j.0 == k.0) ≡ false → Has j (xs ++ k ∷ ys) ⊎ Has j coming → Has j (xs ++ ys) ⊎ Has j coming
      by j d (inl i) = inl (split j d (has_append xs (k ∷ ys) j i))
      by j d (inr i) = inr i

  -- the ask that comes is pending
  enqueues : (ks : List (ℕ × Ask)) (out : List Output) (k : ℕ × Ask) → Has k coming → Q ks out → Q (ks ++ k ∷ []) out
  enqueues ks out k c h =
      record {
        within = λ j i. wider j (h.within j i);
        mounts = mounts_last ks k (λ j i. low j (h.top j i)) h.mounts;
        same = λ x y i j. both x y (has_append ks (k ∷ []) x i) (has_append ks (k ∷ []) y j);
        top = λ x i. its x (has_append ks (k ∷ []) x i);
        ordered = h.ordered;
      }
    where
      wider : (j : ℕ × Ask) → Has j ks ⊎ Has j coming → Has j (ks ++ k ∷ []) ⊎ Has j coming
      wider j (inl i) = inl (has_left ks (k ∷ []) j i)
      wider j (inr i) = inr i

      low : (j : ℕ × Ask) → (j.0 < n) ⊎ Has j coming → j.0 ≤ k.0
      low j (inl l) = let q = comes.its k c in omega (arith, l, q)
      low j (inr i) = let q = ap (λ (z : ℕ × Ask). z.0) (comes.lone j k i c) in omega (arith, q)

      is : (x : ℕ × Ask) → Has x ks → x.0 ≡ k.0 → x ≡ k
      is x i q = go (h.top x i)
        where
          go : (x.0 < n) ⊎ Has x coming → x ≡ k
          go (inl l) = let p = comes.its k c in absurd (omega (arith, l, p, q))
          go (inr j) = comes.lone x k j c

      both : (x y : ℕ × Ask) → Has x ks ⊎ Has x (k ∷ []) → Has y ks ⊎ Has y (k ∷ []) → x.0 ≡ y.0 → x ≡ y
      both x y (inl i) (inl j) q = h.same x y i j q
      both x y (inl i) (inr (inl e)) q = is x i (q ∙ ap (λ (z : ℕ × Ask). z.0) e) ∙ sym e
      both x y (inr (inl e)) (inl j) q = e ∙ sym (is y j (sym q ∙ ap (λ (z : ℕ × Ask). z.0) e))
      both x y (inr (inl e)) (inr (inl d)) q = e ∙ sym d
      both x y (inr (inr i)) j q = absurd i
      both x y (inl i) (inr (inr j)) q = absurd j
      both x y (inr (inl e)) (inr (inr j)) q = absurd j

      its : (x : ℕ × Ask) → Has x ks ⊎ Has x (k ∷ []) → (x.0 < n) ⊎ Has x coming
      its x (inl i) = h.top x i
      its x (inr (inl e)) = inr (subst (λ z. Has z coming) (sym e) c)
      its x (inr (inr i)) = absurd i

  -- no open ask is sooner, if none is that comes before it in the list
  none_sooner : (xs ys : List (ℕ × Ask)) (k : ℕ × Ask) (out : List Output) → ((j : ℕ × Ask) → Has j xs → is_sooner j.1 k.1 ≡ false) →
      Q (xs ++ k ∷ ys) out → NoSooner k.0 (closed_all out start)
  none_sooner xs ys k out f h x j hx hj e l =
      subst (λ (z : ℕ × Ask). is_sooner j.1 z.1 ≡ false) (sym (own (h.within x hx))) (by (h.within j hj))
    where
      here : Has k (xs ++ k ∷ ys)
      here = has_right xs (k ∷ ys) k (inl refl)

      own : Has x (xs ++ k ∷ ys) ⊎ Has x coming → x ≡ k
      own (inl i) = h.same x k i here e
      own (inr c) = go (h.top k here)
        where
          go : (k.0 < n) ⊎ Has k coming → x ≡ k
          go (inl b) = let q = comes.its x c in absurd (omega (arith, b, q, e))
          go (inr d) = comes.lone x k c d

      split : Has j xs ⊎ Has j (k ∷ ys) → is_sooner j.1 k.1 ≡ false
      split (inl i) = f j i
      split (inr (inl q)) = let z = ap (λ (y : ℕ × Ask). y.0) q in absurd (omega (arith, l, z))
      split (inr (inr i)) = let z = mounts_above k j xs ys h.mounts i in absurd (omega (arith, l, z))

      by : Has j (xs ++ k ∷ ys) ⊎ Has j coming → is_sooner j.1 k.1 ≡ false
      by (inl i) = split (has_append xs (k ∷ ys) j i)
      by (inr c) = go (h.top k here)
        where
          go : (k.0 < n) ⊎ Has k coming → is_sooner j.1 k.1 ≡ false
          go (inl b) = let q = comes.its j c in absurd (omega (arith, b, q, l))
          go (inr d) = let z = ap (λ (y : ℕ × Ask). y.0) (comes.lone j k c d) in absurd (omega (arith, l, z))

  -- Turns.
  abbrev W : Turn → Type 0
  W t = Q (map key t.operations) t.out

  after_say : (t : Turn) (o : Output) → Mute o → W t → W (say t o)
  after_say t o m w = says (map key t.operations) t.out o m w

  after_send : (t : Turn) (epoch number stamp : ℕ) (b : Body) → W t → W (cs.send t epoch number stamp b)
  unfolding cs.send
  after_send t epoch number stamp b w = after_say t _ tt w

  after_stages : (t : Turn) (os : List Operation) → map key t.operations ≡ map key os → W t → W (with_operations os t)
  after_stages t os e w = subst (λ ks. Q ks t.out) e w

  answered_one : (xs ys : List Operation) (out : List Output) (o : Operation) (a : AppAnswer) → AnswerInOrder o.op a (closed_all out start) →
      Q (map key (xs ++ o ∷ ys)) out → Q (map key (xs ++ ys)) (out ++ outputs.Answer o.op a ∷ [])
  answered_one xs ys out o a u h =
      subst (λ ks. Q ks (out ++ outputs.Answer o.op a ∷ [])) (sym (map_more xs ys))
      (removes (map key xs) (map key ys) (key o) out a u (subst (λ ks. Q ks out) (map_more xs (o ∷ ys)) h))

  answered_other : (xs ys : List Operation) (out : List Output) (o : Operation) (a : AppAnswer) → Unwritten a → Q (map key (xs ++ o ∷ ys)) out →
      Q (map key (xs ++ ys)) (out ++ outputs.Answer o.op a ∷ [])
  answered_other xs ys out o a u h = answered_one xs ys out o a (unwritten_order o.op a (closed_all out start) u) h

  each_answered : (picked : Operation → Bool) (a : AppAnswer) → Unwritten a → (kept os : List Operation) (out : List Output) → Q (map key (kept ++ os)) out →
      Q (map key (kept ++ filter (λ o. not (picked o)) os)) (out ++ map (answer_to a) (filter picked os))
  each_answered picked a p kept [] out z = subst (λ x. Q (map key (kept ++ [])) x) (sym (append-nil out)) z
  each_answered picked a p kept (o ∷ os) out z = go (picked o) (λ kept out z. each_answered picked a p kept os out z)
    where
      go : (b : Bool) → ((kept : List Operation) (out : List Output) → Q (map key (kept ++ os)) out →
          Q (map key (kept ++ filter (λ o. not (picked o)) os)) (out ++ map (answer_to a) (filter picked os))) →
          Q (map key (kept ++ (if not b then o ∷ filter (λ o. not (picked o)) os else filter (λ o. not (picked o)) os)))
          (out ++ map (answer_to a) (if b then o ∷ filter picked os else filter picked os))
      go true f =
          subst (λ x. Q (map key (kept ++ filter (λ o. not (picked o)) os)) x)
          (append_assoc out (answer_to a o ∷ []) (map (answer_to a) (filter picked os)))
          (f kept (out ++ answer_to a o ∷ []) (answered_other kept os out o a p z))
      go false f =
          subst (λ x. Q (map key x) (out ++ map (answer_to a) (filter picked os))) (append_assoc kept (o ∷ []) (filter (λ o. not (picked o)) os))
          (f (kept ++ o ∷ []) out (subst (λ x. Q (map key x) out) (sym (append_assoc kept (o ∷ []) os)) z))

  after_answers : (t : Turn) (picked : Operation → Bool) (a : AppAnswer) → Unwritten a → W t → W (cs.answer_each picked a t)
  unfolding cs.answer_each
  after_answers t picked a p w = each_answered picked a p [] t.operations t.out w

  -- What a message does.
  after_refused : (t : Turn) (file : Option ℕ) (asked : Body) (y : Why) (a b : ℕ) (u : Turn) → Refusal t file asked y a b u → W t → W u
  after_refused t file asked _ a b _ (trace.NoFile _ _ ino e) w = after_answers t _ _ tt w
  after_refused t file asked _ a b _ (trace.TooManyLocks _ _ ino e) w = after_answers t _ _ tt w
  after_refused t file asked _ a b _ (trace.NoSpace _ _ ino p e q) w = after_answers t _ _ tt w
  after_refused t file asked _ a b _ (trace.NotHolder _ _ e) w = after_answers t _ _ tt w
  after_refused t file asked y a b _ (trace.AnswersNone _ _ _) w = w

  keys_stuck : (t : Turn) (os : List Operation) → map key os ≡ map key (map (cr.stuck t) os)
  keys_stuck t [] = refl
  keys_stuck t (o ∷ os) = ap (λ k. k ∷ map key os) (one (cs.is_asked t.here.server o)) ∙ ap (λ ks. key (cr.stuck t o) ∷ ks) (keys_stuck t os)
    where
      one : (b : Bool) → key o ≡ key (if b then cs.at_stage stages.Stuck o else o)
      one true = refl
      one false = refl

  name_unwritten : (r : NameReply) → Unwritten (cr.name_answer r)
  name_unwritten (replies.Ino ino) = tt
  name_unwritten (replies.Listed rows) = tt
  name_unwritten (replies.Refused code) = tt

  after_effect : (now : Stamp) (t : Turn) (s : ClientSession) (file : Option ℕ) (asked b : Body) (u : Turn) → Effect now t s file asked b u → W t → W u
  after_effect now t s file asked _ _ (trace.IsGranted ino g mode v k) w = w
  after_effect now t s file asked _ _ (trace.IsQueued ino mode e) w = w
  after_effect now t s file asked _ _ (trace.HoldsAlready ino mode e) w = w
  after_effect now t s file asked _ _ (trace.IsToldExtents ino rows e) w = w
  after_effect now t s file asked _ _ (trace.IsToldLate ino rows e) w = w
  after_effect now t s file asked _ _ trace.IsAcknowledged w = after_answers t _ _ tt w
  after_effect now t s file asked _ _ (trace.IsNamed r k) w = after_answers t _ (cr.name_answer r) (name_unwritten r) w
  after_effect now t s file asked _ _ (trace.IsRemoved ino removed l e q) w = after_answers t _ (answers.Named ino) tt w
  after_effect now t s file asked _ _ trace.IsReasserted w = w
  after_effect now t s file asked _ _ (trace.Effect.IsRefused y a b u r) w =
      after_stages u _ (keys_stuck u u.operations) (after_refused t file asked y a b u r w)

  after_renewed : (t : Turn) (s : ClientSession) (stamp : Stamp) (u : Turn) → Renews t s stamp u → W t → W u
  after_renewed t s stamp _ (trace.IsLater e) w = after_say t _ tt w
  after_renewed t s stamp _ (trace.IsNoLater e) w = w

  after_heard : (now : Stamp) (h : Header) (t : Turn) (b : Body) (u : Turn) → Receives now h t b u → W t → W u
  after_heard now h t _ _ (trace.PassesOver b) w = w
  after_heard now h t _ _ (trace.Begins r e i) w = after_say (cr.begin_here (cr.new_session (trace.epoch_of h) (trace.stamp_of h)) t) _ tt w
  after_heard now h t _ _ (trace.FollowsEpoch s x y m e) w = after_answers (with_session (cr.in_epoch (trace.epoch_of h) s) t) _ _ tt w
  after_heard now h t _ _ (trace.IsCondemned b s m c) w = w
  after_heard now h t _ _ (trace.IsGrantedLater ino g mode s v m e k) w = w
  after_heard now h t _ _ (trace.SeesDemand ino g to s m e) w = after_send _ _ _ _ _ w
  after_heard now h t _ _ (trace.GivesUp ino g to s m e k) w = w
  after_heard now h t _ _ (trace.HasGivenUp ino g to s m e k) w = w
  after_heard now h t _ u (trace.IsAnswered b s q v _ r x f) w =
      let y = cr.ended_by (trace.stamp_of h) s in
      after_effect now (with_session y v) y (cs.file_asked s.cutting q.body) q.body b u f (after_renewed t s (trace.stamp_of h) v x w)

  after_receive : (now : Stamp) (h : Header) (b : Body) (t : Turn) → W t → W (cr.receive_at now h b t)
  after_receive now h b t w = after_heard now h t b (cr.receive_at now h b t) (receives now h t b) w

  -- Losses.
  abbrev Ending : List Operation → Turn → Type 0
  Ending os t = Q (map key (t.operations ++ os)) t.out

  ended : (s : ClientSession) (o : Operation) (os : List Operation) (t u : Turn) → Ended s o t u → Ending (o ∷ os) t → Ending os u
  ended s o os t _ (losing.IsElsewhere e) w = subst (λ x. Q (map key x) t.out) (sym (append_assoc t.operations (o ∷ []) os)) w
  ended s o os t _ (losing.IsUncertain e q) w = answered_other t.operations os t.out o _ tt w
  ended s o os t _ (losing.IsToldLost f e q a l) w = answered_other t.operations os t.out o _ tt w
  ended s o os t _ (losing.LostNothing f e q a l) w = answered_other t.operations os t.out o _ tt w
  ended s o os t _ (losing.IsQuiesced e q a) w = answered_other t.operations os t.out o _ tt w

  after_lose : (now : Stamp) (t : Turn) → W t → W (cl.lose now t)
  after_lose now t w = go (cl.lose now t) (loses now t)
    where
      go : (u : Turn) → Loses now t u → W u
      go _ (losing.HasNoSession e) = w
      go _ (losing.Lasts s e o) = w
      go _ (losing.IsLost s u e o p) =
          let r = each_lasts (Ended s) (λ os v. Ending os v) (λ o os v x step z. ended s o os v x step z) t.operations
          (with_operations [] (losing.loss_noted t)) u p
          (says (map key t.operations) t.out (outputs.Note (notes.Lost t.here.server t.here.life)) tt w) in
          subst (λ x. Q (map key x) u.out) (append-nil u.operations) r

  -- Ends of commands, and asks.
  after_finish : (number : ℕ) (r : Option (Option (Tag × List ℕ))) (t : Turn) → W t → W (cl.finish number r t)
  after_finish number r t w = go (cl.finish number r t) (finishes number r t)
    where
      go : (u : Turn) → Finishes number r t u → W u
      go _ (ending.IsUnknown e) = w
      go _ (ending.IsOfOtherKind x block o e i) = w
      go _ (ending.Fills x block o i e) = w
      go _ (ending.Hardens x v o i e j) = w
      go _ (ending.WroteOlder x v o i e j) = w
      go _ (ending.FailsToRead x o i e) = after_answers (ending.without x t) _ _ tt w
      go _ (ending.FailsToWrite x v o i e j) =
          after_answers (ending.with_pages (pages.fail t.here.store.pages x.ino x.page x.number) (ending.without x t)) _ _ tt w
      go _ (ending.FailsToWriteOlder x v o i e j) = after_answers (ending.without x t) _ _ tt w

  after_take : (op : ℕ) (ask : Ask) (t : Turn) → Has (op, ask) coming → W t → W (cl.take_ask op ask t)
  after_take op ask t c w = go (cl.take_ask op ask t) (takes op ask t)
    where
      kept : W (cs.keep (cs.new_operation op ask) t)
      kept =
          subst (λ ks. Q ks t.out) (sym (map_more t.operations (cs.new_operation op ask ∷ []))) (enqueues (map key t.operations) t.out (op, ask) c w)

      go : (u : Turn) → Takes op ask t u → W u
      go _ (ending.TellsLost f e l) = drops (map key t.operations) t.out op _ tt w
      go _ (ending.WaitsForSync f e l) = kept
      go _ (ending.Waits e) = kept

  after_only : (s : ServerId) (op : ℕ) (ask : Ask) (t : Turn) → Has (op, ask) coming → W t → W (only_at s (cl.take_ask op ask) t)
  unfolding only_at
  after_only s op ask t c w = cond_either W (cs.is_at s t.here) (cl.take_ask op ask t) t (λ e. after_take op ask t c w) (λ e. w)

  -- The pass over the operations: what a write waits for, it waits for throughout the pass.
  module _ (now : Stamp) (t0 : Turn) where
    abbrev Blocked : Operation → Type 0
    Blocked o =
        (s : ClientSession) (f : FileId) (p : PageNo) (bytes : List ℕ) → o.ask ≡ asks.Write f p bytes → is_of t0.here.server o ≡ true →
        t0.here.session ≡ Some s → is_serving t0.config s now ≡ true → is_open_file t0.operations t0.here.server s (cs.file_of o.ask) ≡ true →
        cp.may_write t0 s f p ≡ true → ⊥

    record Rest (os : List Operation) (t : Turn) : Type 0 where
      done : Q (map key (t.operations ++ os)) t.out
      server : t.here.server ≡ t0.here.server
      session : t.here.session ≡ t0.here.session
      config : t.config ≡ t0.config
      extents : t.here.store.extents ≡ t0.here.store.extents
      blocked : (p : Operation) → Has p t.operations → Blocked p

    keeps : (o : Operation) (os : List Operation) (t : Turn) → Blocked o → Rest (o ∷ os) t → Rest os (cs.keep o t)
    keeps o os t b r =
        record {
          done = subst (λ x. Q (map key x) t.out) (sym (append_assoc t.operations (o ∷ []) os)) r.done;
          server = r.server;
          session = r.session;
          config = r.config;
          extents = r.extents;
          blocked = λ p i. go p (has_append t.operations (o ∷ []) p i);
        }
      where
        go : (p : Operation) → Has p t.operations ⊎ Has p (o ∷ []) → Blocked p
        go p (inl i) = r.blocked p i
        go p (inr (inl e)) = subst Blocked (sym e) b
        go p (inr (inr i)) = absurd i

    other : (o : Operation) → ((f : FileId) (p : PageNo) (bytes : List ℕ) → o.ask ≡ asks.Write f p bytes → ⊥) → Blocked o
    other o n s f p bytes e own at sv free m = n f p bytes e

    answers_it : (o : Operation) (os : List Operation) (t u : Turn) (a : AppAnswer) → Unwritten a → u.operations ≡ t.operations → u.out ≡ t.out →
        u.here.server ≡ t.here.server → u.here.session ≡ t.here.session → u.config ≡ t.config → u.here.store.extents ≡ t.here.store.extents →
        Rest (o ∷ os) t → Rest os (cp.answer o a u)
    answers_it o os t u a p e1 e2 e3 e4 e5 e6 r =
        record {
          done =
              subst (λ z. Q (map key (z ++ os)) (u.out ++ outputs.Answer o.op a ∷ [])) (sym e1)
              (subst (λ z. Q (map key (t.operations ++ os)) (z ++ outputs.Answer o.op a ∷ [])) (sym e2) (answered_other t.operations os t.out o a p r.done));
          server = e3 ∙ r.server;
          session = e4 ∙ r.session;
          config = e5 ∙ r.config;
          extents = e6 ∙ r.extents;
          blocked = λ x i. r.blocked x (subst (Has x) e1 i);
        }

    answers_now : (o : Operation) (os : List Operation) (t : Turn) (a : AppAnswer) → Unwritten a → Rest (o ∷ os) t → Rest os (cp.answer o a t)
    answers_now o os t a p r = answers_it o os t t a p refl refl refl refl refl refl r

    -- a session that serves the operation
    record Served (o : Operation) (t : Turn) (s : ClientSession) : Type 0 where
      own : is_of t.here.server o ≡ true
      at : t.here.session ≡ Some s
      serving : is_serving t.config s now ≡ true
      free : is_open_file t0.operations t.here.server s (cs.file_of o.ask) ≡ true

    -- what waits is sooner than no change that is served
    place_is : (g f : FileId) (q p : PageNo) → same_place (g, q) (f, p) ≡ true → (g ≡ f) × (q ≡ p)
    place_is g f q p e =
        let b = and_true (same_file g f) (q.0 == p.0) e in
        let c = and_true (g.server.0 == f.server.0) (g.ino == f.ino) b.0 in
        let sv : g.server ≡ f.server = ap (λ m. record { 0 = m }) (eqb-true g.server.0 f.server.0 c.0) in (
          ap (λ (s : ServerId). record { server = s; ino = g.ino }) sv ∙ ap (λ (m : ℕ). record { server = f.server; ino = m }) (eqb-true g.ino f.ino c.1),
          ap (λ m. record { 0 = m }) (eqb-true q.0 p.0 b.1),
        )

    -- a change of this page
    abbrev ChangesAt : Ask → FileId → PageNo → Type 0
    ChangesAt (asks.Write f p bytes) g q = (f ≡ g) × (p ≡ q)
    ChangesAt (asks.Patch f p at bytes) g q = (f ≡ g) × (p ≡ q)
    ChangesAt ask g q = ⊥

    module _ (o : Operation) (os : List Operation) (t : Turn) (s : ClientSession) (v : Served o t s) (r : Rest (o ∷ os) t) (f : FileId) (p : PageNo)
        (m : cp.may_write t s f p ≡ true) where
      same_page_no : (x : Operation) → Has x t.operations → (g : FileId) (q : PageNo) (bytes : List ℕ) → x.ask ≡ asks.Write g q bytes →
          cs.file_of o.ask ≡ Some f.ino → (f.server.0 == t.here.server.0) ≡ true → same_place (g, q) (f, p) ≡ true → ⊥
      same_page_no x i g q bytes e fo fs z =
          let y = place_is g f q p z in
          r.blocked x i s g q bytes e
          (ap (λ ask. (server_of ask).0 == t0.here.server.0) e
          ∙ (ap (λ (h : FileId). h.server.0 == t0.here.server.0) y.0 ∙ (ap (λ (h : ServerId). f.server.0 == h.0) (sym r.server) ∙ fs)))
          (sym r.session ∙ v.at) (ap (λ k. is_serving k s now) (sym r.config) ∙ v.serving)
          (ap (λ h. is_open_file t0.operations h s (cs.file_of x.ask)) (sym r.server)
          ∙ (ap (λ ask. is_open_file t0.operations t.here.server s (cs.file_of ask)) e
          ∙ (ap (λ (h : FileId). is_open_file t0.operations t.here.server s (Some h.ino)) y.0
          ∙ (ap (is_open_file t0.operations t.here.server s) (sym fo) ∙ v.free))))
          (ap (λ xs. cp.holds s modes.X g && pages.is_mapped xs g.ino q) (sym r.extents)
          ∙ (ap (λ (h : FileId). cp.holds s modes.X h && pages.is_mapped t.here.store.extents h.ino q) y.0
          ∙ (ap (λ (h : PageNo). cp.holds s modes.X f && pages.is_mapped t.here.store.extents f.ino h) y.1 ∙ m)))

      not_sooner : (ask : Ask) → o.ask ≡ ask → ChangesAt ask f p → (f.server.0 == t.here.server.0) ≡ true → cs.file_of o.ask ≡ Some f.ino →
          (x : Operation) → Has x t.operations → (mine : Ask) → x.ask ≡ mine → is_sooner mine ask ≡ false
      not_sooner (asks.Write g q b) e c fs fo x i (asks.Write h z d) k = go (same_place (h, z) (g, q)) refl
        where
          go : (y : Bool) → same_place (h, z) (g, q) ≡ y → (y || false) ≡ false
          go false w = refl
          go true w =
              absurd (same_page_no x i h z d k fo fs
              (subst (λ (u : FileId). same_place (h, z) (u, p) ≡ true) c.0 (subst (λ (u : PageNo). same_place (h, z) (g, u) ≡ true) c.1 w)))
      not_sooner (asks.Patch g q at b) e c fs fo x i (asks.Write h z d) k = go (same_place (h, z) (g, q)) refl
        where
          go : (y : Bool) → same_place (h, z) (g, q) ≡ y → (y || false) ≡ false
          go false w = refl
          go true w =
              absurd (same_page_no x i h z d k fo fs
              (subst (λ (u : FileId). same_place (h, z) (u, p) ≡ true) c.0 (subst (λ (u : PageNo). same_place (h, z) (g, u) ≡ true) c.1 w)))
      not_sooner (asks.Write g q b) e c fs fo x i mine k = refl
      not_sooner (asks.Patch g q at b) e c fs fo x i mine k = refl
      not_sooner ask e c fs fo x i mine k = absurd c

      -- the page is changed
      changes_it : (n : Note) (ps : pages.Pages) → ((x : Operation) → Has x t.operations → is_sooner x.ask o.ask ≡ false) →
          Rest os (cp.answer o answers.Written (cp.with_pages_changed ps f.ino p (cs.note t n)))
      changes_it n ps none =
          let said : Q (map key (t.operations ++ o ∷ os)) (t.out ++ outputs.Note n ∷ []) =
          says (map key (t.operations ++ o ∷ os)) t.out (outputs.Note n) tt r.done in
          record {
            done =
                answered_one t.operations os (t.out ++ outputs.Note n ∷ []) o answers.Written
                (none_sooner (map key t.operations) (map key os) (key o) (t.out ++ outputs.Note n ∷ [])
                (λ j i. let z = has_map key t.operations j i in ap (λ (y : ℕ × Ask). is_sooner y.1 o.ask) z.2 ∙ none z.0 z.1)
                (subst (λ ks. Q ks (t.out ++ outputs.Note n ∷ [])) (map_more t.operations (o ∷ os)) said))
                said;
            server = r.server;
            session = r.session;
            config = r.config;
            extents = r.extents;
            blocked = r.blocked;
          }

      change_done : (bytes : List ℕ) (n : Note) → ((x : Operation) → Has x t.operations → is_sooner x.ask o.ask ≡ false) →
          Rest os (cp.change_page t o f p bytes n)
      unfolding cp.change_page cp.change_by cp.change pages.write
      change_done bytes n none = go (pages.is_full_for t.here.store.pages f.ino p)
        where
          go : (b : Bool) →
              Rest os (cp.change_by t o f p n (if b then Err refusals.DirtyFull else Ok (pages.written t.here.store.pages f.ino p bytes)))
          go true = answers_now o os t answers.DirtyFull tt r
          go false = changes_it n (pages.written t.here.store.pages f.ino p bytes) none

    -- a page is fetched, and the operation waits
    fetched : (o : Operation) (os : List Operation) (t : Turn) (f : FileId) (p : PageNo) → Blocked o → Rest (o ∷ os) t → Rest os (cp.fetch t o f p)
    unfolding cp.fetch cp.fetch_at cp.fetch_mapped cp.submit_read cp.submit_command
    fetched o os t f p b r = go (pages.mapping_of t.here.store.extents f.ino p)
      where
        read : (m : MappedBlock) (i : Bool) → Rest os (cs.keep o (if i then t else cp.submit_read t f.ino p m))
        read m true = keeps o os t b r
        read m false =
            keeps o os (cp.submit_read t f.ino p m) b
            (record {
              done = says (map key (t.operations ++ o ∷ os)) t.out _ tt r.done;
              server = r.server;
              session = r.session;
              config = r.config;
              extents = r.extents;
              blocked = r.blocked;
            })

        go : (m : Option MappedBlock) → Rest os (cs.keep o (cp.fetch_at t f p m))
        go None = keeps o os t b r
        go (Some m) = read m (pages.is_being_read t.here.store.commands f.ino p)

    module _ (o : Operation) (os : List Operation) (t : Turn) (r : Rest (o ∷ os) t) where
      own_server : is_of t.here.server o ≡ true → (ask : Ask) → o.ask ≡ ask → ((server_of ask).0 == t.here.server.0) ≡ true
      own_server own ask e = ap (λ x. (server_of x).0 == t.here.server.0) (sym e) ∙ own

      writes_it : (s : ClientSession) → Served o t s → (f : FileId) (p : PageNo) (bytes : List ℕ) → o.ask ≡ asks.Write f p bytes →
          Rest os (cp.write t s o f p bytes)
      unfolding cp.write
      writes_it s v f p bytes e =
          cond_either (Rest os) (cp.may_write t s f p) _ _
          (λ m. change_done o os t s v r f p m bytes (notes.Accepted f p bytes)
          (λ x i. subst (λ a. is_sooner x.ask a ≡ false) (sym e)
          (not_sooner o os t s v r f p m (asks.Write f p bytes) e (refl, refl) (own_server v.own (asks.Write f p bytes) e) (ap cs.file_of e) x i x.ask refl)))
          (λ m. keeps o os t (waits m) r)
        where
          file_in : Ask → FileId
          file_in (asks.Write f p bytes) = f
          file_in ask = f

          page_in : Ask → PageNo
          page_in (asks.Write f p bytes) = p
          page_in ask = p

          waits : cp.may_write t s f p ≡ false → Blocked o
          waits m y g q b k own at sv free w =
              let d = some_is (sym v.at ∙ (r.session ∙ at)) in
              let a = sym e ∙ k in
              clash
              (ap (λ (z : ClientSession). cp.holds z modes.X f && pages.is_mapped t.here.store.extents f.ino p) d
              ∙ (ap (λ (z : FileId). cp.holds y modes.X z && pages.is_mapped t.here.store.extents z.ino p) (ap file_in a)
              ∙ (ap (λ (z : PageNo). cp.holds y modes.X g && pages.is_mapped t.here.store.extents g.ino z) (ap page_in a)
              ∙ (ap (λ xs. cp.holds y modes.X g && pages.is_mapped xs g.ino q) r.extents ∙ w)))) m

      patches : (s : ClientSession) → Served o t s → (f : FileId) (p : PageNo) (at : ℕ) (bytes : List ℕ) → o.ask ≡ asks.Patch f p at bytes →
          Rest os (cp.patch t s o f p at bytes)
      unfolding cp.patch cp.patch_at cp.patch_bytes
      patches s v f p at bytes e =
          cond_either (Rest os) (cp.may_write t s f p) _ _ (λ m. go m (pages.cached t.here.store.pages f.ino p)) (λ m. keeps o os t no r)
        where
          clean : {g : FileId} {q : PageNo} {b : List ℕ} → asks.Patch f p at bytes ≡ asks.Write g q b → ⊥
          clean z = cc

          no : Blocked o
          no = other o (λ g q b k. clean (sym e ∙ k))

          go : cp.may_write t s f p ≡ true → (c : Option (List ℕ)) → Rest os (cp.patch_at t o f p at bytes c)
          go m None = fetched o os t f p no r
          go m (Some old) =
              change_done o os t s v r f p m (overlay at bytes old) (notes.Patched f p at bytes)
              (λ x i. subst (λ a. is_sooner x.ask a ≡ false) (sym e)
              (not_sooner o os t s v r f p m (asks.Patch f p at bytes) e (refl, refl) (own_server v.own (asks.Patch f p at bytes) e) (ap cs.file_of e) x i x.ask
              refl))

      reads : (s : ClientSession) (f : FileId) (p : PageNo) → o.ask ≡ asks.Read f p → Rest os (cp.read t s o f p)
      unfolding cp.read cp.read_at cp.read_cached cp.read_uncached cp.read_known
      reads s f p e =
          cond_either (Rest os) (cp.holds s modes.S f) _ _ (λ h. cached (pages.cached t.here.store.pages f.ino p)) (λ h. keeps o os t no r)
        where
          clean : {g : FileId} {q : PageNo} {b : List ℕ} → asks.Read f p ≡ asks.Write g q b → ⊥
          clean z = cc

          no : Blocked o
          no = other o (λ g q b k. clean (sym e ∙ k))

          mapped : (x : KnownExtent) (m : Option MappedBlock) → Rest os (cp.read_known t o f p x m)
          mapped x None = answers_now o os t (answers.Read _) tt r
          mapped x (Some m) = fetched o os t f p no r

          known : (x : Option KnownExtent) → Rest os (cp.read_uncached t o f p x)
          known None = keeps o os t no r
          known (Some x) = mapped x x.mapping

          cached : (c : Option (List ℕ)) → Rest os (cp.read_at t o f p c)
          cached None = known (pages.known_of t.here.store.extents f.ino p)
          cached (Some bytes) = answers_it o os t _ (answers.Read bytes) tt refl refl refl refl refl refl r

      served : (s : ClientSession) → Served o t s → (a : Ask) → o.ask ≡ a → Rest os (cp.serve_open t s o a)
      unfolding cp.serve_open
      served s v (asks.Write f p bytes) e = writes_it s v f p bytes e
      served s v (asks.Patch f p at bytes) e = patches s v f p at bytes e
      served s v (asks.Read f p) e = reads s f p e
      served s v (asks.Sync f) e = keeps o os t (other o (λ g q b k. no (sym e ∙ k))) r
        where
          no : {g : FileId} {q : PageNo} {b : List ℕ} → asks.Sync f ≡ asks.Write g q b → ⊥
          no z = cc
      served s v (asks.Cut f p) e = keeps o os t (other o (λ g q b k. no (sym e ∙ k))) r
        where
          no : {g : FileId} {q : PageNo} {b : List ℕ} → asks.Cut f p ≡ asks.Write g q b → ⊥
          no z = cc
      served s v (asks.Name z n) e = keeps o os t (other o (λ g q b k. no (sym e ∙ k))) r
        where
          no : {g : FileId} {q : PageNo} {b : List ℕ} → asks.Name z n ≡ asks.Write g q b → ⊥
          no z = cc

      operated : Rest os (cp.operate t0.operations t now o)
      unfolding cp.operate cp.operate_on cp.operate_by cp.operate_under cp.serve cp.quiesce cp.sync
      operated = cond_either (Rest os) (is_of t.here.server o) _ _ (λ own. on own o.ask refl)
          (λ away. keeps o os t (λ s f p b e own at sv free m. clash (ap (λ h. is_of h o) r.server ∙ own) away) r)
        where
          by : is_of t.here.server o ≡ true → (x : Option ClientSession) → t.here.session ≡ x → Rest os (cp.operate_by t0.operations t now o x)
          by own None e = keeps o os t (λ s f p b k y at sv free m. none_not_some s (sym e ∙ (r.session ∙ at))) r
          by own (Some s) e =
              cond_either (Rest os) (is_serving t.config s now) _ _
              (λ sv. cond_either (Rest os) (is_open_file t0.operations t.here.server s (cs.file_of o.ask)) _ _
              (λ free. served s (record { own = own; at = e; serving = sv; free = free }) o.ask refl)
              (λ shut. keeps o os t (λ y f p b k z at w free m.
              clash (ap (λ h. is_open_file t0.operations h s (cs.file_of o.ask)) r.server
              ∙ (ap (λ h. is_open_file t0.operations t0.here.server h (cs.file_of o.ask)) (some_is (sym e ∙ (r.session ∙ at))) ∙ free)) shut) r))
              (λ out. cond_either (Rest os) (is_sent o) _ _
              (λ sent. keeps o os t (λ y f p b k z at w free m.
              clash (ap (λ c. is_serving c s now) r.config ∙ (ap (λ h. is_serving t0.config h now) (some_is (sym e ∙ (r.session ∙ at))) ∙ w)) out) r)
              (λ unsent. answers_now o os t answers.Quiesced tt r))

          on : is_of t.here.server o ≡ true → (a : Ask) → o.ask ≡ a → Rest os (cp.operate_on t0.operations t now o a)
          on own (asks.Sync f) e =
              cond_either (Rest os) (pages.is_hard t.here.store f.ino) _ _ (λ h. answers_now o os t answers.Hard tt r)
              (λ h. keeps o os t (other o (λ g q b k. no (sym e ∙ k))) r)
            where
              no : {g : FileId} {q : PageNo} {b : List ℕ} → asks.Sync f ≡ asks.Write g q b → ⊥
              no z = cc
          on own a e = by own t.here.session refl

    operated_each : (os : List Operation) (t : Turn) → Rest os t → Rest [] (cp.operate_each t0.operations now os t)
    unfolding cp.operate_each
    operated_each [] t r = r
    operated_each (o ∷ os) t r = operated_each os (cp.operate t0.operations t now o) (operated o os t r)

    after_operations : W t0 → W (cp.operations now t0)
    unfolding cp.operations
    after_operations w =
        let u = cp.operate_each t0.operations now t0.operations (with_operations [] t0) in
        let r = operated_each t0.operations (with_operations [] t0)
        (record { done = w; server = refl; session = refl; config = refl; extents = refl; blocked = λ p i. absurd i }) in
        subst (λ x. Q (map key x) u.out) (append-nil u.operations) r.done

  -- Reductions, writes, a greeting and a request.
  after_reduced : (ino : ℕ) (t u : Turn) → Reduced ino t u → W t → W u
  after_reduced ino t _ StaysHeld w = w
  after_reduced ino t _ (IsReduced s g to e m i) w = w

  after_written : (now : Stamp) (tick : Bool) (x : ℕ × PageNo) (t u : Turn) → WritesOut now tick x t u → W t → W u
  after_written now tick x t _ StaysDirty w = w
  after_written now tick x t _ (IsWritten s d m e i j l) w = says (map key t.operations) t.out _ tt w

  after_greeted : (now : Stamp) (tick : Bool) (t u : Turn) → Greets now tick t u → W t → W u
  after_greeted now tick t _ asking.IsSilent w = w
  after_greeted now tick t _ (asking.SaysHello e m) w = after_send _ _ _ _ _ w

  keys_sent : (o : Operation) (b : Bool) (xs ys : List Operation) → map key (xs ++ o ∷ ys) ≡ map key (xs ++ cp.sent_if b o ∷ ys)
  keys_sent o true [] ys = refl
  keys_sent o false [] ys = refl
  keys_sent o b (x ∷ xs) ys = ap (λ ks. key x ∷ ks) (keys_sent o b xs ys)

  after_requested : (now : Stamp) (tick : Bool) (t u : Turn) → Requests now tick t u → W t → W u
  after_requested now tick t _ asking.AsksNothing w = w
  after_requested now tick t _ (asking.AsksAgain s x e i j l) w = after_send _ _ _ _ _ w
  after_requested now tick t _ (asking.Reasserts s m d) w = after_send _ _ _ _ _ w
  after_requested now tick t _ (asking.Releases s r rs m d e) w = after_send _ _ _ _ _ w
  after_requested now tick t _ (asking.AsksFor s xs o ys x f e i) w =
      after_send _ _ _ _ _ (after_stages t _ (ap (λ z. map key z) i.there ∙ keys_sent o x.own xs ys) w)
  after_requested now tick t _ (asking.KeepsAlive s f e) w = after_send _ _ _ _ _ w

  after_passes : (now : Stamp) (tick : Bool) (t : Turn) → W t → W (cp.passes now tick t)
  unfolding cp.passes
  after_passes now tick t w =
      let a = cp.operations now t in
      let b = cp.reductions a in
      let c = cp.writes now tick b in
      let d = cp.greeting now tick c in
      after_requested now tick d (cp.requests now tick d) (requests now tick d)
      (after_greeted now tick c d (greets now tick c)
      (each_lasts (WritesOut now tick) (λ xs v. W v) (λ x xs v u step z. after_written now tick x v u step z)
      (places_of b.here.session b.here.store.pages) b c (writes now tick b)
      (each_lasts Reduced (λ inos v. W v) (λ ino inos v u step z. after_reduced ino v u step z)
      (cp.files_demanded a.here.session) a b (reductions a) (after_operations now t w))))

  -- A rule at each server in turn.
  abbrev A : ClientTurn → Type 0
  A t = Q (map key t.state.operations) t.out

  at_all : (rule : Turn → Turn) → ((t : Turn) → W t → W (rule t)) → (al : List Association) (t : ClientTurn) → A t → A (at_these rule al t)
  unfolding at_these
  at_all rule one [] t h = h
  at_all rule one (a ∷ al) t h = at_all rule one al (leave t (rule (enter t a))) (one (enter t a) h)

  everywhere : (rule : Turn → Turn) → ((t : Turn) → W t → W (rule t)) → (t : ClientTurn) → A t → A (at_each rule t)
  unfolding at_each
  everywhere rule one t h = at_all rule one t.state.associations (cs.with_associations [] t) h

  after_input : (now : Stamp) (t u : ClientTurn) (input : ClientInput) → ((op : ℕ) (ask : Ask) → input ≡ inputs.App op ask → Has (op, ask) coming) →
      Taken t now input u → A t → A u
  after_input now t _ _ c (taking.Nothing i) h = h
  after_input now t _ _ c (taking.Full op ask e) h = drops (map key t.state.operations) t.out op answers.OpsFull tt h
  after_input now t _ _ c (taking.Unknown op ask e f) h = drops (map key t.state.operations) t.out op answers.NoFile tt h
  after_input now t _ _ c (taking.Takes op ask e f) h =
      everywhere (only_at (server_of ask) (cl.take_ask op ask)) (λ u w. after_only (server_of ask) op ask u (c op ask refl) w) t h
  after_input now t _ _ c (taking.Receives m e) h = everywhere (cr.receive_at now m.header m.body) (λ u w. after_receive now m.header m.body u w) t h
  after_input now t _ _ c (taking.Finishes number r) h = everywhere (cl.finish number r) (λ u w. after_finish number r u w) t h

  -- The whole step.
  after_step : (s : ClientState) (now : Stamp) (input : ClientInput) → ((op : ℕ) (ask : Ask) → input ≡ inputs.App op ask → Has (op, ask) coming) →
      Q (map key s.operations) [] → InOrder (cl.client_step s now input).out start
  unfolding cl.client_step cl.work cl.losses
  after_step s now input c h =
      let lost : ClientTurn = at_each (cl.lose now) (client_turn s []) in
      let u : ClientTurn = cl.take_input lost now input in
      (everywhere (cp.passes now (cl.is_tick input)) (λ t w. after_passes now (cl.is_tick input) t w) u
      (after_input now lost u input c (taken lost now input) (everywhere (cl.lose now) (λ t w. after_lose now t w) (client_turn s []) h))).ordered

-- What a step of a client says is in order, if the numbers of what is pending rise, and the ask that comes has a greater one.
pub step_in_order : (n : ℕ) (coming : List (ℕ × Ask)) → Comes n coming → (s : ClientState) (now : Stamp) (input : ClientInput) →
    ((op : ℕ) (ask : Ask) → input ≡ inputs.App op ask → Has (op, ask) coming) → Mounts (map key s.operations) →
    ((k j : ℕ × Ask) → Has k (map key s.operations) → Has j (map key s.operations) → k.0 ≡ j.0 → k ≡ j) →
    ((k : ℕ × Ask) → Has k (map key s.operations) → k.0 < n) → InOrder (cl.client_step s now input).out (map key s.operations ++ coming)
step_in_order n coming comes s now input c m e l =
    after_step n coming (map key s.operations ++ coming) comes s now input c
    (record {
      within = λ j i. has_append (map key s.operations) coming j i;
      mounts = m;
      same = e;
      top = λ k i. inl (l k i);
      ordered = tt;
    })
