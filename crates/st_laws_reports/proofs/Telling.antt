-- What a client reports about lost pages: what its rules answer, and what they leave of the lost pages.
use Rattle.st_lemmas.proofs.Words
use Words.{◌≡◌, ℕ, ◌⊎◌, Bool, true, false, List, [], ◌∷◌, ◌++◌, Option, Some, None, refl, sym, ap, ◌∙◌, subst, inl, inr, if◌then◌else◌, cons_option}
use Words.{drop, filter, filter_map, map, not, suc, zero, eqb-true, eq-eqb, Tag, FileId, PageNo, ServerId, Stamp, AppAnswer, Ask, Body, Header, Note}
use Words.{Output, LostPage, Operation, Stage}
use Words.answers
use Words.asks
use Words.notes
use Words.outputs
use Words.stages
use Words.Client as cl
use Words.ClientPages as pages
use Words.ClientPasses as cp
use Words.ClientReplies as cr
use Words.ClientState as cs
use Words.ClientState.{Association, ClientSession, Turn, answer_to, only_at, say, with_operations}
use Words.Lists.{Has}
use Words.Keys.{page_no, rising, same_server}
use Words.Tables.{and_true, found_at, has_append, has_filter, has_filter_in, has_map, none_passes, not_true}
use Words.commands
use Words.Page.{filled}
use Words.io
use Words.Members.{has_left, has_right}
use Words.Truth.{server_is}
use Rattle.st_base.specs.declared.rows.LostRow.{LostRow}
use Rattle.st_lemmas.proofs.Once.{none_any}
use Rattle.st_promises.specs.Losses.{IsToldBy, IsToldTo, owed_of_file, still_owed, told_by, with_dirty}
use Rattle.st_laws_lines.proofs.Walking as walk
use Rattle.st_laws_reports.proofs.Words.{owing_all_is, owed_of_file_is, still_owed_is}
use Rattle.st_trace.specs.Client.Commands as ending
use Rattle.st_trace.specs.Client.Commands.{Finishes, Takes}
use Rattle.st_trace.specs.Client.Losses as losing
use Rattle.st_trace.specs.Client.Losses.{Ended, Loses}
use Rattle.st_trace.specs.Client.Operations as pass
use Rattle.st_trace.specs.Client.Operations.{Changed, Operated}
use Rattle.st_trace.specs.Client.Requests as asking
use Rattle.st_trace.specs.Client.Requests.{AsksFirst, Requests}
use Rattle.st_trace.specs.Client.Each.{Each, Ends, Next}
use Rattle.st_trace.proofs.Client.Finishing.{finishes, takes}
use Rattle.st_trace.proofs.Client.Losing.{loses}
use Rattle.st_trace.proofs.Client.Operating.{operations}
use Rattle.st_trace.proofs.Client.Requesting.{asks_no_sync, requests}
use Rattle.st_trace.proofs.Client.Walk.{each_lasts}

-- What is owed of each server.
abbrev pub Rows : Type 0
Rows = ServerId → List LostPage

-- an answer that tells of no lost pages
abbrev pub NotLost : AppAnswer → Type 0
NotLost (answers.Lost rows) = ⊥
NotLost a = Unit {0}

abbrev pub PlainNote : Note → Type 0
PlainNote (notes.Lost s life) = ⊥
PlainNote n = Unit {0}

-- an output that changes nothing of what is owed
abbrev pub PlainOut : Output → Type 0
PlainOut (outputs.Answer op a) = NotLost a
PlainOut (outputs.Note n) = PlainNote n
PlainOut o = Unit {0}

-- a sync was not sent, and nothing of its file is owed
abbrev pub SyncOk : Rows → Ask → Operation → Type 0
SyncOk R (asks.Sync f) o = record { unsent : cs.is_sent o ≡ false; none : pages.has_lost (R f.server) f.ino ≡ false }
SyncOk R ask o = Unit {0}

-- it was not sent, and is of this server
abbrev pub SyncEnds : ServerId → Ask → Operation → Type 0
SyncEnds s (asks.Sync f) o = record { unsent : cs.is_sent o ≡ false; of : f.server ≡ s }
SyncEnds s ask o = Unit {0}

has_drop : {A : Type 0} (n : ℕ) (xs : List A) (x : A) → Has x (drop n xs) → Has x xs
has_drop zero xs x h = h
has_drop (suc n) [] x h = absurd h
has_drop (suc n) (y ∷ xs) x h = inr (has_drop n xs x h)

has_told : (lost : List LostPage) (ino : ℕ) (ks : List ℕ) (x : LostPage) → Has x (filter_map (pages.lost_at lost ino) ks) → Has x lost
has_told lost ino [] x h = absurd h
has_told lost ino (k ∷ ks) x h = go (pages.lost_at lost ino k) refl h (λ i. has_told lost ino ks x i)
  where
    go : (o : Option LostPage) → pages.lost_at lost ino k ≡ o → Has x (cons_option o (filter_map (pages.lost_at lost ino) ks)) →
        (Has x (filter_map (pages.lost_at lost ino) ks) → Has x lost) → Has x lost
    go None e h rest = rest h
    go (Some y) e (inl q) rest = subst (λ z. Has z lost) (sym q) (found_at (pages.is_lost_of ino (page_no k)) lost y e).1
    go (Some y) e (inr h) rest = rest h

untold_less : (lost : List LostPage) (ino j : ℕ) → pages.has_lost lost j ≡ false → pages.has_lost (pages.untold lost ino) j ≡ false
unfolding pages.untold pages.lost_on
untold_less lost ino j e = none_any (pages.is_lost_on j) _ (λ x h. none_passes (pages.is_lost_on j) lost e x (go x (has_append _ _ x h)))
  where
    go : (x : LostPage) → Has x (filter (λ r. not (pages.is_lost_on ino r)) lost) ⊎ Has x (drop 1024 (pages.lost_on lost ino)) → Has x lost
    go x (inl h) = (has_filter _ lost x h).0
    go x (inr h) = has_told lost ino (rising (map pages.page_of_lost (filter (pages.is_lost_on ino) lost))) x (has_drop 1024 (pages.lost_on lost ino) x h)

pub told_less : (ask : Option Ask) (s : ServerId) (rows : List LostPage) (j : ℕ) → pages.has_lost rows j ≡ false → pages.has_lost (told_by ask s rows) j ≡ false
told_less (Some (asks.Sync f)) s rows j e = go (same_server f.server s)
  where
    go : (b : Bool) → pages.has_lost (if b then still_owed rows f.ino else rows) j ≡ false
    go true = ap (λ (z : List LostPage). pages.has_lost z j) (still_owed_is rows f.ino) ∙ untold_less rows f.ino j e
    go false = e
told_less ask s rows j e = e

-- Answers.
told_false : (rows : List LostRow) (a : AppAnswer) → NotLost a → IsToldBy false rows a
told_false rows (answers.Lost xs) p = absurd p
told_false rows a p = tt

-- an answer that tells of none, to a pending operation
pub answer_told : (R : Rows) (ask : Ask) (o : Operation) (a : AppAnswer) → NotLost a → SyncOk R ask o → IsToldTo (Some ask) R a
answer_told R (asks.Sync f) o a p k = subst (λ b. IsToldBy b (owed_of_file (R f.server) f.ino) a) (sym k.none)
    (told_false (owed_of_file (R f.server) f.ino) a p)
answer_told R ask o (answers.Lost xs) p k = absurd p
answer_told R ask o a p k = tt

-- what an answer owes goes by the rows at it
pub told_same : (ask : Option Ask) (R S : Rows) (a : AppAnswer) → ((r : ServerId) → S r ≡ R r) → IsToldTo ask R a → IsToldTo ask S a
told_same (Some (asks.Sync f)) R S a e h = subst (λ (x : List LostPage). IsToldBy (pages.has_lost x f.ino) (owed_of_file x f.ino) a) (sym (e f.server)) h
told_same ask R S (answers.Lost xs) e h = h
told_same ask R S a e h = h

-- an ask that isn't a sync
abbrev pub IsNoSync : Ask → Type 0
IsNoSync (asks.Sync f) = ⊥
IsNoSync ask = Unit {0}

-- What the outputs of a client make of what is owed: by what it was asked, and what it had of its servers before the step.
module _ (asked : ℕ → Option Ask) (had : ServerId → Option Association) where
  -- after one more output
  abbrev pub behind : ServerId → List LostPage → Output → List LostPage
  behind s rows (outputs.Note (notes.Lost t life)) = if same_server t s then with_dirty (had s) rows else rows
  behind s rows (outputs.Answer op (answers.Lost told)) = told_by (asked op) s rows
  behind s rows o = rows

  -- after these, in order
  abbrev pub along : ServerId → List LostPage → List Output → List LostPage
  along s rows [] = rows
  along s rows (o ∷ os) = along s (behind s rows o) os

  -- an answer is right at these rows
  abbrev pub FineAt : Rows → Output → Type 0
  FineAt R (outputs.Answer op a) = IsToldTo (asked op) R a
  FineAt R o = Unit {0}

  -- each of these is, in order
  abbrev pub Fine : Rows → List Output → Type 0
  Fine R [] = Unit {0}
  Fine R (o ∷ os) = record { one : FineAt R o; rest : Fine (λ s. behind s (R s) o) os }

  -- an operation is known by its number
  abbrev pub OpOk : Rows → Operation → Type 0
  OpOk R o = record { known : asked o.op ≡ Some o.ask; sync : SyncOk R o.ask o }

  pub plain_behind : (o : Output) → PlainOut o → (s : ServerId) (rows : List LostPage) → behind s rows o ≡ rows
  plain_behind (outputs.Note (notes.Lost t life)) p s rows = absurd p
  plain_behind (outputs.Note n) p s rows = refl
  plain_behind (outputs.Answer op (answers.Lost told)) p s rows = absurd p
  plain_behind (outputs.Answer op a) p s rows = refl
  plain_behind o p s rows = refl

  pub along_more : (s : ServerId) (rows : List LostPage) (xs ys : List Output) → along s rows (xs ++ ys) ≡ along s (along s rows xs) ys
  along_more s rows [] ys = refl
  along_more s rows (x ∷ xs) ys = along_more s (behind s rows x) xs ys

  fine_same : (R S : Rows) (o : Output) → ((r : ServerId) → S r ≡ R r) → FineAt R o → FineAt S o
  fine_same R S (outputs.Answer op a) e h = told_same (asked op) R S a e h
  fine_same R S o e h = tt

  pub fine_more : (R : Rows) (xs ys : List Output) → Fine R xs → Fine (λ s. along s (R s) xs) ys → Fine R (xs ++ ys)
  fine_more R [] ys a b = b
  fine_more R (x ∷ xs) ys a b = record { one = a.one; rest = fine_more (λ s. behind s (R s) x) xs ys a.rest b }

  module _ (s : ServerId) (rows0 : Rows) where
    -- what holds in a rule at this server
    pub record Keeps (R : Rows) (server : ServerId) (lost : List LostPage) (out : List Output) (pending : List Operation) : Type 0 where
      pub at : server ≡ s
      pub rows : (r : ServerId) → along r (rows0 r) out ≡ R r
      pub here : R s ≡ lost
      pub fine : Fine rows0 out
      pub ops : (o : Operation) → Has o pending → OpOk R o

    abbrev pub K : Rows → Turn → Type 0
    K R t = Keeps R t.here.server t.here.lost t.out t.operations

    -- a rule may change only what is owed at this server
    pub record Moved (R : Rows) (u : Turn) : Type 0 where
      pub now : Rows
      pub keeps : K now u
      pub away : (r : ServerId) → (r.0 ≡ s.0 → ⊥) → now r ≡ R r

    pub stays : (R : Rows) (u : Turn) → K R u → Moved R u
    stays R u k = record { now = R; keeps = k; away = λ r n. refl }

    -- one more output
    adds : (R : Rows) (server : ServerId) (lost : List LostPage) (out : List Output) (ops : List Operation) (o : Output) → PlainOut o → FineAt R o →
        Keeps R server lost out ops → Keeps R server lost (out ++ o ∷ []) ops
    adds R server lost out ops o p f k =
        record {
          at = k.at;
          rows = λ r. along_more r (rows0 r) out (o ∷ []) ∙ plain_behind o p r _ ∙ k.rows r;
          here = k.here;
          fine = fine_more rows0 out (o ∷ []) k.fine (record { one = fine_same R _ o k.rows f; rest = tt });
          ops = k.ops;
        }

    fine_answer : (R : Rows) (o : Operation) (a : AppAnswer) → NotLost a → OpOk R o → FineAt R (outputs.Answer o.op a)
    fine_answer R o a p k = subst (λ z. IsToldTo z R a) (sym k.known) (answer_told R o.ask o a p k.sync)

    -- the operations are answered
    fine_answers : (R S : Rows) (a : AppAnswer) → NotLost a → (xs : List Operation) → ((o : Operation) → Has o xs → OpOk R o) → ((r : ServerId) → S r ≡ R r) →
        Fine S (map (answer_to a) xs)
    fine_answers R S a p [] k e = tt
    fine_answers R S a p (o ∷ xs) k e =
        record {
          one = fine_same R S (answer_to a o) e (fine_answer R o a p (k o (inl refl)));
          rest = fine_answers R (λ y. behind y (S y) (answer_to a o)) a p xs (λ x h. k x (inr h)) (λ r. plain_behind (answer_to a o) p r (S r) ∙ e r);
        }

    along_answers : (a : AppAnswer) → NotLost a → (xs : List Operation) (r : ServerId) (rows : List LostPage) → along r rows (map (answer_to a) xs) ≡ rows
    along_answers a p [] r rows = refl
    along_answers a p (o ∷ xs) r rows = along_answers a p xs r (behind r rows (answer_to a o)) ∙ plain_behind (answer_to a o) p r rows

    -- an operation that no longer waits, or is sent
    staged : (R : Rows) (o : Operation) (st : Stage) → (cs.is_sent o ≡ true ⊎ IsNoSync o.ask) → OpOk R o → OpOk R (cs.at_stage st o)
    staged R o st w k = record { known = k.known; sync = go o.ask w k.sync }
      where
        go : (a : Ask) → (cs.is_sent o ≡ true ⊎ IsNoSync a) → SyncOk R a o → SyncOk R a (cs.at_stage st o)
        go (asks.Sync f) (inl e) k = absurd (clash e k.unsent)
          where
            clash : {b : Bool} → b ≡ true → b ≡ false → ⊥
            clash x y = cc
        go (asks.Sync f) (inr n) k = absurd n
        go a w k = tt

    calm_plain : (o : Output) → walk.Calm o → PlainOut o
    calm_plain (outputs.Note (notes.Lost t life)) c = absurd c
    calm_plain (outputs.Note n) c = tt
    calm_plain (outputs.Answer op a) c = absurd c
    calm_plain o c = tt

    calm_fine : (R : Rows) (o : Output) → walk.Calm o → FineAt R o
    calm_fine R (outputs.Answer op a) c = absurd c
    calm_fine R o c = tt

    mild_told : (a : AppAnswer) → walk.Mild (Unit {0}) a → NotLost a
    mild_told (answers.Lost rows) m = absurd m
    mild_told a m = tt

    module _ (R : Rows) where
      abbrev F : Turn → Type 0
      F t = K R t

      last : (t : Turn) (o : Output) → PlainOut o → FineAt R o → F t → Keeps R t.here.server t.here.lost (t.out ++ o ∷ []) t.operations
      last t o p f w = adds R t.here.server t.here.lost t.out t.operations o p f w

      each_answered : (t : Turn) (picked : Operation → Bool) (a : AppAnswer) → NotLost a → F t → F (cs.answer_each picked a t)
      unfolding cs.answer_each
      each_answered t picked a p w =
          record {
            at = w.at;
            rows = λ r. along_more r (rows0 r) t.out _ ∙ along_answers a p (filter picked t.operations) r _ ∙ w.rows r;
            here = w.here;
            fine = fine_more rows0 t.out _ w.fine (fine_answers R _ a p (filter picked t.operations)
                (λ o h. w.ops o (has_filter picked t.operations o h).0) w.rows);
            ops = λ o h. w.ops o (has_filter (λ o. not (picked o)) t.operations o h).0;
          }

      stuck : (t : Turn) → F t → F (cr.leave_stuck t)
      unfolding cr.leave_stuck
      stuck t w = record {
        at = w.at;
        rows = w.rows;
        here = w.here;
        fine = w.fine;
        ops = λ o h. let z = has_map (cr.stuck t) t.operations o h in subst (OpOk R)
            (sym z.2) (one z.0 (w.ops z.0 z.1));
      }
        where
          one : (o : Operation) → OpOk R o → OpOk R (cr.stuck t o)
          one o k = go (cs.is_asked t.here.server o) refl
            where
              sent : (st : Stage) → cs.is_asked_at st ≡ true → cs.is_sent_at st ≡ true
              sent stages.Unsent e = cc
              sent stages.Sent e = refl
              sent stages.Stuck e = refl

              go : (b : Bool) → cs.is_asked t.here.server o ≡ b → OpOk R (if b then cs.at_stage stages.Stuck o else o)
              go true e = staged R o stages.Stuck (inl (sent o.stage (and_true _ _ e).1)) k
              go false e = k

      -- A message: its replies tell of no lost pages.
      pub received : (now : Stamp) (h : Header) (b : Body) (t : Turn) → F t → F (cr.receive_at now h b t)
      received now h b = walk.received (Unit {0}) (Keeps R) (λ v lost out ops o c w. adds R v lost out ops o (calm_plain o c) (calm_fine R o c) w)
          (λ t picked a m w. each_answered t picked a (mild_told a m) w) stuck now h b (λ e. tt)

      rested : (now : Stamp) (tick : Bool) (t : Turn) → F t → F (cp.greeting now tick (cp.writes now tick (cp.reductions t)))
      rested = walk.rested (Unit {0}) (Keeps R) (λ v lost out ops o c w. adds R v lost out ops o (calm_plain o c) (calm_fine R o c) w)
          (λ t picked a m w. each_answered t picked a (mild_told a m) w) stuck

      -- Ends of commands.
      pub finished : (number : ℕ) (r : Option (Option (Tag × List ℕ))) (t : Turn) → F t → F (cl.finish number r t)
      finished number r t w = go (cl.finish number r t) (finishes number r t)
        where
          go : (u : Turn) → Finishes number r t u → F u
          go _ (ending.IsUnknown e) = w
          go _ (ending.IsOfOtherKind c block o e k) = w
          go _ (ending.Fills c block o k e) = w
          go _ (ending.Hardens c v o k e i) = w
          go _ (ending.WroteOlder c v o k e i) = w
          go _ (ending.FailsToRead c o k e) = each_answered (ending.without c t) _ _ tt w
          go _ (ending.FailsToWrite c v o k e i) = each_answered (ending.with_pages (pages.fail t.here.store.pages c.ino c.page c.number)
              (ending.without c t)) _ _ tt w
          go _ (ending.FailsToWriteOlder c v o k e i) = each_answered (ending.without c t) _ _ tt w

      -- Operations.
      kept : (t : Turn) (o : Operation) → OpOk R o → F t → F (cs.keep o t)
      kept t o k w = record { at = w.at; rows = w.rows; here = w.here; fine = w.fine; ops = λ x h. go x (has_append t.operations (o ∷ []) x h) }
        where
          go : (x : Operation) → Has x t.operations ⊎ Has x (o ∷ []) → OpOk R x
          go x (inl h) = w.ops x h
          go x (inr (inl e)) = subst (OpOk R) (sym e) k
          go x (inr (inr h)) = absurd h

      replies_to : (t : Turn) (o : Operation) (a : AppAnswer) → NotLost a → OpOk R o → F t → Keeps R t.here.server t.here.lost
          (t.out ++ outputs.Answer o.op a ∷ []) t.operations
      replies_to t o a p k w = last t (outputs.Answer o.op a) p (fine_answer R o a p k) w

      plain_change : (ask : Ask) (t : Turn) (f : FileId) (p : PageNo) (bytes : List ℕ) (n : Note) → Changed ask t f p bytes n → PlainNote n
      plain_change ask t _ _ _ _ (pass.IsWritten f p bytes e) = tt
      plain_change ask t _ _ _ _ (pass.IsPatched f p at bytes old e q) = tt

      operated : (now : Stamp) (all : List Operation) (o : Operation) (t u : Turn) → Operated now all o t u → OpOk R o → F t → F u
      operated now all o t _ pass.Waits k w = kept t o k w
      operated now all o t _ (pass.IsHard f e q h) k w = replies_to t o answers.Hard tt k w
      operated now all o t _ (pass.IsQuiesced s e n a b c) k w = replies_to t o answers.Quiesced tt k w
      operated now all o t _ (pass.ChangesPage s f p bytes n v c m e) k w = let z = plain_change o.ask t f p bytes n c in replies_to
          (cs.note t n) o answers.Written tt k (last t (outputs.Note n) z tt w)
      operated now all o t _ (pass.IsDirtyFull s f p bytes n v c m e) k w = replies_to t o answers.DirtyFull tt k w
      operated now all o t _ (pass.Fetches s f p m v n c e r) k w = kept
          (say (cp.with_command f.ino p io.Read t) (outputs.Submit t.next_command m.at (commands.Read m.at))) o k (last t _ tt tt w)
      operated now all o t _ (pass.ReadsCached s f p bytes v e h q) k w = replies_to t o (answers.Read bytes) tt k w
      operated now all o t _ (pass.ReadsZeros s f p e v a h q i m) k w = replies_to t o (answers.Read (filled 0)) tt k w

      -- Requests. the operations, once the first of them asks, which isn't a sync
      no_sync : (a : Ask) → cs.is_sync a ≡ false → IsNoSync a
      no_sync (asks.Sync f) e = cc
      no_sync a e = tt

      asking_ok : (t : Turn) (x : ClientSession) (now : Stamp) (xs : List Operation) (o : Operation) (ys os : List Operation) (w : cp.Wanted) →
          AsksFirst t x now xs o ys w os → ((y : Operation) → Has y os → OpOk R y) →
          (y : Operation) → Has y (xs ++ cp.sent_if w.own o ∷ ys) → OpOk R y
      asking_ok t x now xs o ys os w f k y h = go (has_append xs (cp.sent_if w.own o ∷ ys) y h)
        where
          there : (z : Operation) → Has z (xs ++ o ∷ ys) → OpOk R z
          there z i = k z (subst (Has z) (sym f.there) i)

          sent : (b : Bool) → OpOk R (cp.sent_if b o)
          sent true = staged R o stages.Sent (inr (no_sync o.ask (asks_no_sync t x now o.ask w f.wants))) (there o (has_right xs (o ∷ ys) o (inl refl)))
          sent false = there o (has_right xs (o ∷ ys) o (inl refl))

          go : Has y xs ⊎ Has y (cp.sent_if w.own o ∷ ys) → OpOk R y
          go (inl i) = there y (has_left xs (o ∷ ys) y i)
          go (inr (inl q)) = subst (OpOk R) (sym q) (sent w.own)
          go (inr (inr i)) = there y (has_right xs (o ∷ ys) y (inr i))

      requested : (now : Stamp) (tick : Bool) (t u : Turn) → Requests now tick t u → F t → F u
      unfolding cs.send
      requested now tick t _ asking.AsksNothing w = w
      requested now tick t _ (asking.AsksAgain s q e c n o) w = last t _ tt tt w
      requested now tick t _ (asking.Reasserts s m d) w = last t _ tt tt w
      requested now tick t _ (asking.Releases s r rs m d e) w = last t _ tt tt w
      requested now tick t _ (asking.AsksFor s xs o ys x f e k) w =
          last (with_operations (xs ++ cp.sent_if x.own o ∷ ys) t) _ tt tt
          (record { at = w.at; rows = w.rows; here = w.here; fine = w.fine; ops = asking_ok t s now xs o ys t.operations x k w.ops })
      requested now tick t _ (asking.KeepsAlive s f e) w = last t _ tt tt w

      pub passed : (now : Stamp) (tick : Bool) (t : Turn) → F t → F (cp.passes now tick t)
      unfolding cp.passes
      passed now tick t w =
          let a = cp.operations now t in
          let b = cp.greeting now tick (cp.writes now tick (cp.reductions a)) in
          let z = each_lasts (Operated now t.operations) (λ os u. ((o : Operation) → Has o os → OpOk R o) × F u)
          (λ o os u v x p. (λ y h. p.0 y (inr h), operated now t.operations o u v x (p.0 o (inl refl)) p.1)) t.operations (with_operations [] t) a
          (operations now t)
          (w.ops, record { at = w.at; rows = w.rows; here = w.here; fine = w.fine; ops = λ o h. absurd h }) in
          requested now tick b (cp.requests now tick b) (requests now tick b) (rested now tick a z.1)

    -- What is reported is no longer owed.
    told_here : (f : FileId) (rows : List LostPage) → f.server ≡ s → told_by (Some (asks.Sync f)) s rows ≡ pages.untold rows f.ino
    told_here f rows e = ap (λ b. if b then still_owed rows f.ino else rows) (eq-eqb f.server.0 s.0 (ap (λ (z : ServerId). z.0) e)) ∙ still_owed_is rows f.ino

    told_away : (f : FileId) (r : ServerId) (rows : List LostPage) → f.server ≡ s → (r.0 ≡ s.0 → ⊥) → told_by (Some (asks.Sync f)) r rows ≡ rows
    told_away f r rows e n = go (same_server f.server r) refl
      where
        go : (b : Bool) → same_server f.server r ≡ b → (if b then still_owed rows f.ino else rows) ≡ rows
        go true q = absurd (n (sym (eqb-true f.server.0 r.0 q) ∙ ap (λ (z : ServerId). z.0) e))
        go false q = refl

    tells : (R : Rows) (t : Turn) (op : ℕ) (f : FileId) → f.server ≡ s → asked op ≡ Some (asks.Sync f) → pages.has_lost t.here.lost f.ino ≡ true → K R t →
        Moved R (losing.tells_lost t op f.ino)
    tells R t op f own known has k =
        record {
          now = λ r. told_by (Some (asks.Sync f)) r (R r);
          keeps = record {
            at = k.at;
            rows = λ r. along_more r (rows0 r) t.out _ ∙ ap (λ z. told_by z r (along r (rows0 r) t.out)) known ∙ ap (told_by (Some (asks.Sync f)) r) (k.rows r);
            here = told_here f (R s) own ∙ ap (λ z. pages.untold z f.ino) k.here;
            fine = fine_more rows0 t.out _ k.fine (record { one = right; rest = tt });
            ops = λ o h. let z = k.ops o h in record { known = z.known; sync = less o.ask o z.sync };
          };
          away = λ r n. told_away f r (R r) own n;
        }
      where
        S : Rows
        S r = along r (rows0 r) t.out

        rows : List LostRow
        rows = pages.told_rows t.here.lost f.ino

        right : IsToldTo (asked op) S (answers.Lost rows)
        right =
            subst (λ z. IsToldTo z S (answers.Lost rows)) (sym known)
            (subst (λ (z : List LostPage). IsToldBy (pages.has_lost z f.ino) (owed_of_file z f.ino) (answers.Lost rows))
            (sym (k.rows f.server ∙ ap R own ∙ k.here))
            (subst (λ b. IsToldBy b (owed_of_file t.here.lost f.ino) (answers.Lost rows)) (sym has) (sym (owed_of_file_is t.here.lost f.ino))))

        less : (a : Ask) (o : Operation) → SyncOk R a o → SyncOk (λ r. told_by (Some (asks.Sync f)) r (R r)) a o
        less (asks.Sync g) o z = record { unsent = z.unsent; none = told_less (Some (asks.Sync f)) g.server (R g.server) g.ino z.none }
        less a o z = tt

    -- Losses.
    abbrev EndOk : Operation → Type 0
    EndOk o = record { known : asked o.op ≡ Some o.ask; sync : SyncEnds s o.ask o }

    one_more : (R : Rows) (t : Turn) (op : ℕ) (a : AppAnswer) → NotLost a → IsToldTo (asked op) R a → K R t → K R (cs.answered t op a)
    one_more R t op a p f k = adds R t.here.server t.here.lost t.out t.operations (outputs.Answer op a) p f k

    -- an operation that is quiesced
    quiet : (others : List Operation) (R : Rows) (t : Turn) (o : Operation) (a : Ask) → asked o.op ≡ Some a → IsToldTo (Some a) R answers.Quiesced → K R
        (with_operations others t) →
        Moved R (with_operations others (cs.answered t o.op answers.Quiesced))
    quiet others R t o a q h k = stays R _ (one_more R (with_operations others t) o.op answers.Quiesced tt
        (subst (λ z. IsToldTo z R answers.Quiesced) (sym q) h) k)

    -- with the operations that stay, whichever of them were looked at
    abbrev MovedWith : List Operation → Rows → Turn → Type 0
    MovedWith others R u = Moved R (with_operations others u)

    ended : (others : List Operation) (R : Rows) (x : ClientSession) (o : Operation) (t u : Turn) → Ended x o t u →
        (cs.is_of t.here.server o ≡ true → EndOk o) → K R (with_operations others t) → MovedWith others R u
    ended others R x o t _ (losing.IsElsewhere e) f k = stays R _ k
    ended others R x o t _ (losing.IsUncertain own e) f k =
        let z = f own in
        stays R _ (one_more R (with_operations others t) o.op (answers.Uncertain x.epoch.0 0) tt
        (subst (λ y. IsToldTo y R (answers.Uncertain x.epoch.0 0)) (sym z.known) (unsure o.ask z.sync)) k)
      where
        unsure : (a : Ask) → SyncEnds s a o → IsToldTo (Some a) R (answers.Uncertain x.epoch.0 0)
        unsure (asks.Sync f) z = absurd (clash e z.unsent)
          where
            clash : {b : Bool} → b ≡ true → b ≡ false → ⊥
            clash x y = cc
        unsure a z = tt
    ended others R x o t _ (losing.IsToldLost f own e q h) g k =
        let z = g own in tells R (with_operations others t) o.op f (of_server z.sync) (z.known ∙ ap Some q) h k
      where
        of_server : SyncEnds s o.ask o → f.server ≡ s
        of_server y = let v : SyncEnds s (asks.Sync f) o = subst (λ a. SyncEnds s a o) q y in v.of
    ended others R x o t _ (losing.LostNothing f own e q h) g k =
        let z = g own in quiet others R t o (asks.Sync f) (z.known ∙ ap Some q) (none (of_server z.sync)) k
      where
        of_server : SyncEnds s o.ask o → f.server ≡ s
        of_server y = let v : SyncEnds s (asks.Sync f) o = subst (λ a. SyncEnds s a o) q y in v.of

        none : f.server ≡ s → IsToldTo (Some (asks.Sync f)) R answers.Quiesced
        none at = subst (λ b. IsToldBy b (owed_of_file (R f.server) f.ino) answers.Quiesced)
            (sym (ap (λ (y : List LostPage). pages.has_lost y f.ino) (ap R at ∙ k.here) ∙ h)) tt
    ended others R x o t _ (losing.IsQuiesced own e n) g k = let z = g own in quiet others R t o o.ask z.known (calm o.ask n) k
      where
        calm : (a : Ask) → cs.is_sync a ≡ false → IsToldTo (Some a) R answers.Quiesced
        calm (asks.Sync f) e = cc
        calm a e = tt

    -- the server stays
    same_server_after : (x : ClientSession) (o : Operation) (t u : Turn) → Ended x o t u → u.here.server ≡ t.here.server
    same_server_after x o t _ (losing.IsElsewhere e) = refl
    same_server_after x o t _ (losing.IsUncertain own e) = refl
    same_server_after x o t _ (losing.IsToldLost f own e q h) = refl
    same_server_after x o t _ (losing.LostNothing f own e q h) = refl
    same_server_after x o t _ (losing.IsQuiesced own e n) = refl

    -- those that are pending after one more are among those that stay
    kept_among : (others : List Operation) (x : ClientSession) (o : Operation) (t u : Turn) → Ended x o t u →
        (cs.is_of t.here.server o ≡ false → Has o others) → ((y : Operation) → Has y t.operations → Has y others) →
        (y : Operation) → Has y u.operations → Has y others
    kept_among others x o t _ (losing.IsElsewhere e) f k y h = go (has_append t.operations (o ∷ []) y h)
      where
        go : Has y t.operations ⊎ Has y (o ∷ []) → Has y others
        go (inl i) = k y i
        go (inr (inl q)) = subst (λ z. Has z others) (sym q) (f e)
        go (inr (inr i)) = absurd i
    kept_among others x o t _ (losing.IsUncertain own e) f k y i = k y i
    kept_among others x o t _ (losing.IsToldLost g own e q h) f k y i = k y i
    kept_among others x o t _ (losing.LostNothing g own e q h) f k y i = k y i
    kept_among others x o t _ (losing.IsQuiesced own e n) f k y i = k y i

    all_ended : (x : ClientSession) (others : List Operation) (v : ServerId) (os : List Operation) →
        ((o : Operation) → Has o os → cs.is_of v o ≡ true → EndOk o) → ((o : Operation) → Has o os → cs.is_of v o ≡ false → Has o others) →
        (t u : Turn) → Each (Ended x) os t u → t.here.server ≡ v → (R : Rows) → K R (with_operations others t) →
        ((y : Operation) → Has y t.operations → Has y others) → (MovedWith others R u) × ((y : Operation) → Has y u.operations → Has y others)
    all_ended x others v _ e f _ _ (Ends t) at R k among = (stays R (with_operations others t) k, among)
    all_ended x others v _ e f t u (Next o os _ w _ step rest) at R k among =
        let own : (b : Bool) → cs.is_of t.here.server o ≡ b → cs.is_of v o ≡ b = λ b q. ap (λ z. cs.is_of z o) (sym at) ∙ q in
        let m = ended others R x o t w step (λ q. e o (inl refl) (own true q)) k in
        let j = all_ended x others v os (λ y h. e y (inr h)) (λ y h. f y (inr h)) w u rest (same_server_after x o t w step ∙ at) m.now m.keeps
        (kept_among others x o t w step (λ q. f o (inl refl) (own false q)) among) in
        (record { now = j.0.now; keeps = j.0.keeps; away = λ r d. j.0.away r d ∙ m.away r d }, j.1)

    pub lost : (now : Stamp) (R : Rows) (t : Turn) → had s ≡ Some t.here → K R t → Moved R (cl.lose now t)
    lost now R t own k = go (cl.lose now t) (loses now t)
      where
        note : Output
        note = outputs.Note (notes.Lost t.here.server t.here.life)

        S : Rows
        S r = behind r (R r) note

        S_here : S s ≡ pages.with_lost_pages t.here.store.commands t.here.store.pages.dirty t.here.lost
        S_here =
            ap (λ b. if b then with_dirty (had s) (R s) else R s) (eq-eqb t.here.server.0 s.0 (ap (λ (z : ServerId). z.0) k.at))
            ∙ ap (λ o. with_dirty o (R s)) own ∙ owing_all_is t.here.store.commands t.here.store.pages.dirty (R s)
            ∙ ap (pages.with_lost_pages t.here.store.commands t.here.store.pages.dirty) k.here

        S_away : (r : ServerId) → (r.0 ≡ s.0 → ⊥) → S r ≡ R r
        S_away r n = at (same_server t.here.server r) refl
          where
            at : (b : Bool) → same_server t.here.server r ≡ b → (if b then with_dirty (had r) (R r) else R r) ≡ R r
            at true q = absurd (n (sym (eqb-true t.here.server.0 r.0 q) ∙ ap (λ (z : ServerId). z.0) k.at))
            at false q = refl

        others : List Operation
        others = filter (λ o. not (cs.is_of t.here.server o)) t.operations

        begun : Turn
        begun = with_operations others (losing.loss_noted t)

        stand : (o : Operation) → OpOk R o → cs.is_of t.here.server o ≡ false → OpOk S o
        stand o z f = record { known = z.known; sync = by o.ask z.sync f }
          where
            by : (a : Ask) → SyncOk R a o → same_server (cs.server_of a) t.here.server ≡ false → SyncOk S a o
            by (asks.Sync g) y q = record { unsent = y.unsent; none = ap (λ (v : List LostPage). pages.has_lost v g.ino) (S_away g.server far) ∙ y.none }
              where
                clash : {b : Bool} → b ≡ true → b ≡ false → ⊥
                clash x y = cc

                far : g.server.0 ≡ s.0 → ⊥
                far i = clash (eq-eqb g.server.0 t.here.server.0 (i ∙ sym (ap (λ (z : ServerId). z.0) k.at))) q
            by a y q = tt

        begins_so : K S begun
        begins_so =
            record {
              at = k.at;
              rows = λ r. along_more r (rows0 r) t.out (note ∷ []) ∙ ap (λ z. behind r z note) (k.rows r);
              here = S_here;
              fine = fine_more rows0 t.out (note ∷ []) k.fine (record { one = tt; rest = tt });
              ops = λ o h. let z = has_filter (λ o. not (cs.is_of t.here.server o)) t.operations o h in stand o (k.ops o z.0) (not_true _ z.1);
            }

        -- an operation of this server may be told what is lost, and one of another is among those that stay
        ends : (o : Operation) → Has o t.operations → cs.is_of t.here.server o ≡ true → EndOk o
        ends o h own = let y = k.ops o h in record { known = y.known; sync = by o.ask y.sync own }
          where
            by : (a : Ask) → SyncOk R a o → same_server (cs.server_of a) t.here.server ≡ true → SyncEnds s a o
            by (asks.Sync g) y q = record {
              unsent = y.unsent;
              of = server_is g.server s
                  (eqb-true g.server.0 t.here.server.0 q ∙ ap (λ (z : ServerId). z.0) k.at);
            }
            by a y q = tt

        stays_so : (o : Operation) → Has o t.operations → cs.is_of t.here.server o ≡ false → Has o others
        stays_so o h e = has_filter_in (λ o. not (cs.is_of t.here.server o)) t.operations o h (ap not e)

        go : (u : Turn) → Loses now t u → Moved R u
        go _ (losing.HasNoSession e) = stays R t k
        go _ (losing.Lasts x e o) = stays R t k
        go _ (losing.IsLost x u e o p) =
            let m = all_ended x others t.here.server t.operations (λ o h own. ends o h own) stays_so
            (with_operations [] (losing.loss_noted t)) u p refl S begins_so (λ o h. absurd h) in
            record {
              now = m.0.now;
              keeps = record {
                at = m.0.keeps.at;
                rows = m.0.keeps.rows;
                here = m.0.keeps.here;
                fine = m.0.keeps.fine;
                ops = λ o h. m.0.keeps.ops o (m.1 o h);
              };
              away = λ r d. m.0.away r d ∙ S_away r d;
            }

    -- Asks.
    entered : (R : Rows) (t : Turn) (op : ℕ) (ask : Ask) → OpOk R (cs.new_operation op ask) → K R t → K R (cs.keep (cs.new_operation op ask) t)
    entered R t op ask z k = kept R t (cs.new_operation op ask) z k

    taken : (op : ℕ) (ask : Ask) → asked op ≡ Some ask → (R : Rows) (t u : Turn) → Takes op ask t u → cs.server_of ask ≡ s → K R t → Moved R u
    taken op ask known R t _ (ending.TellsLost f q h) own k = tells R t op f (sym (ap cs.server_of q) ∙ own) (known ∙ ap Some q) h k
    taken op ask known R t _ (ending.WaitsForSync f q h) own k =
        stays R _ (entered R t op ask
        (record {
          known = known;
          sync = subst (λ a. SyncOk R a (cs.new_operation op ask)) (sym q)
              (record { unsent = refl; none = ap (λ (y : List LostPage). pages.has_lost y f.ino) (ap R (sym (ap cs.server_of q) ∙ own) ∙ k.here) ∙ h });
        }) k)
    taken op ask known R t _ (ending.Waits n) own k = stays R _ (entered R t op ask (record { known = known; sync = calm ask n }) k)
      where
        calm : (a : Ask) → cs.is_sync a ≡ false → SyncOk R a (cs.new_operation op ask)
        calm (asks.Sync f) e = cc
        calm a e = tt

    pub only : (op : ℕ) (ask : Ask) → asked op ≡ Some ask → (R : Rows) (t : Turn) → K R t → Moved R (only_at (cs.server_of ask) (cl.take_ask op ask) t)
    unfolding only_at
    only op ask known R t k = go (cs.is_at (cs.server_of ask) t.here) refl
      where
        go : (b : Bool) → cs.is_at (cs.server_of ask) t.here ≡ b → Moved R (if b then cl.take_ask op ask t else t)
        go true q = taken op ask known R t (cl.take_ask op ask t) (takes op ask t)
            (server_is _ s (sym (eqb-true t.here.server.0 (cs.server_of ask).0 q) ∙ ap (λ (z : ServerId). z.0) k.at)) k
        go false q = stays R t k
