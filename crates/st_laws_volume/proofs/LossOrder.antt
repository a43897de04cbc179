-- The order of a client's step: first its losses, of which each is told before the operations of its server are answered; after them no sync is quiesced.
use Rattle.st_lemmas.proofs.Words
use Words.{◌≡◌, ℕ, ◌⊎◌, Bool, true, false, ◌&&◌, ◌||◌, List, [], ◌∷◌, ◌++◌, Option, Some, None, refl, sym, ap, ◌∙◌, subst, inl, inr}
use Words.{append_assoc, append-nil, eq-eqb, eqb-true, find, list_any, map, BlockAt, ClientId, Command, Event, Life, ServerId, Stamp, AppAnswer, Ask, Body, Note, Output}
use Words.{ClientInput, Observation, LogOwner, Operation, Why}
use Words.answers
use Words.inputs
use Words.nodes
use Words.notes
use Words.outputs
use Words.seen
use Words.Client as cl
use Words.ClientLease.{must_discard, standing_of}
use Words.ClientState as cs
use Words.ClientState.{Association, ClientSession, ClientState, ClientTurn, Turn, at_each, at_these, client_turn, enter, is_at, leave, with_associations, with_operations}
use Words.Events as ev
use Words.Events.{WorldTurn}
use Words.Keys.{same_client, same_server}
use Words.Lists.{Has}
use Words.Lookups.{or_left, or_right, some_is}
use Words.Members.{has_left, has_right}
use Words.Tables.{and_both, found_at, has_append, has_map_in}
use Words.World as world
use Words.World.{World, WorldClient, clock_of, site_of}
use Rattle.st_trace.specs.Client.Losses as losing
use Rattle.st_trace.specs.Client.Losses.{Ended, Loses}
use Rattle.st_trace.proofs.Client.Losing.{loses}
use Rattle.st_trace.proofs.Client.Walk.{each_lasts}
use Rattle.st_laws_steps.specs.Client.Losses.{Fit, is_ended}
use Rattle.st_laws_steps.proofs.Client.Losing.{over_is}
use Rattle.st_laws_pages.proofs.Asks.Client.{key}
use Rattle.st_laws_volume.specs.LossMarks.{IsLate}
use Rattle.st_laws_volume.proofs.AskClient.{coming}
use Rattle.st_laws_volume.proofs.ClientAnswers.{IsPlain, IsSilent, Keeps, KeepsLosses, Refuses, SessionIn, Tells, after_input, lost_all}
use Rattle.st_laws_volume.proofs.ClientAnswers as walk
use Rattle.st_laws_volume.proofs.EventAnswers.{Stepping}
use Rattle.st_laws_volume.proofs.LossLines.{is_loss_of}
use Rattle.st_laws_volume.proofs.LossShapes.{its_loss, losses_told, none_more, says_both}

-- The outputs of the losses.
module _ (s : ClientState) (now : Stamp) where
  -- an operation that the loss of its server's lease ended, after the loss was noted
  pub record EndedBy (before : List Output) (op : ℕ) (answer : AppAnswer) : Type 0 where
    pub operation : Operation
    pub among : Has operation s.operations
    pub is : operation.op ≡ op
    pub a : Association
    pub has : Has a s.associations
    pub own : cs.is_of a.server operation ≡ true
    pub over : is_ended s.config now a.session ≡ true
    pub life : Life
    pub noted : Has (outputs.Note (notes.Lost a.server life)) before
    pub unsent : answer ≡ answers.Quiesced → cs.is_sent operation ≡ false

  abbrev IsLossNote : Note → Type 0
  IsLossNote (notes.Lost server life) = Unit {0}
  IsLossNote n = ⊥

  abbrev One : List Output → Output → Type 0
  One before (outputs.Answer op a) = EndedBy before op a
  One before (outputs.Note n) = IsLossNote n
  One before (outputs.Send m) = ⊥
  One before (outputs.Submit number at what) = ⊥

  abbrev pub Lossy : List Output → List Output → Type 0
  Lossy before [] = Unit {0}
  Lossy before (o ∷ os) = One before o × Lossy (before ++ o ∷ []) os

  lossy_last : (before os : List Output) (o : Output) → Lossy before os → One (before ++ os) o → Lossy before (os ++ o ∷ [])
  lossy_last before [] o h k = (subst (λ xs. One xs o) (append-nil before) k, tt)
  lossy_last before (x ∷ os) o h k =
      (h.0, lossy_last (before ++ x ∷ []) os o h.1 (subst (λ xs. One xs o) (sym (append_assoc before (x ∷ []) os)) k))

  -- One association whose lease is over.
  module _ (a : Association) (has : Has a s.associations) (over : is_ended s.config now a.session ≡ true) (x : ClientSession) where
    record Ending (os : List Operation) (t : Turn) : Type 0 where
      at : t.here.server ≡ a.server
      outs : Lossy [] t.out
      life : Life
      noted : Has (outputs.Note (notes.Lost a.server life)) t.out
      kept : (o : Operation) → Has o t.operations → Has o s.operations
      left : (o : Operation) → Has o os → Has o s.operations

    ends : (o : Operation) (os : List Operation) (t : Turn) (answer : AppAnswer) → cs.is_of t.here.server o ≡ true →
        (answer ≡ answers.Quiesced → cs.is_sent o ≡ false) → Ending (o ∷ os) t → Lossy [] (t.out ++ outputs.Answer o.op answer ∷ [])
    ends o os t answer own quiet h =
        lossy_last [] t.out (outputs.Answer o.op answer) h.outs
        (record {
          operation = o;
          among = h.left o (inl refl);
          is = refl;
          a = a;
          has = has;
          own = subst (λ v. cs.is_of v o ≡ true) h.at own;
          over = over;
          life = h.life;
          noted = h.noted;
          unsent = quiet;
        })

    ended : (o : Operation) (os : List Operation) (t u : Turn) → Ended x o t u → Ending (o ∷ os) t → Ending os u
    ended o os t _ (losing.IsElsewhere e) h =
        record {
          at = h.at;
          outs = h.outs;
          life = h.life;
          noted = h.noted;
          kept = λ y i. more y (has_append t.operations (o ∷ []) y i);
          left = λ y i. h.left y (inr i);
        }
      where
        more : (y : Operation) → Has y t.operations ⊎ Has y (o ∷ []) → Has y s.operations
        more y (inl i) = h.kept y i
        more y (inr (inl q)) = h.left y (inl q)
        more y (inr (inr i)) = absurd i
    ended o os t _ (losing.IsUncertain e f) h =
        record {
          at = h.at;
          outs = ends o os t (answers.Uncertain x.epoch.0 0) e (λ q. cc q) h;
          life = h.life;
          noted = has_left t.out (outputs.Answer o.op (answers.Uncertain x.epoch.0 0) ∷ []) _ h.noted;
          kept = h.kept;
          left = λ y i. h.left y (inr i);
        }
    ended o os t _ (losing.IsToldLost f e q k l) h =
        record {
          at = h.at;
          outs = ends o os t _ e (λ q. cc q) h;
          life = h.life;
          noted = has_left t.out _ _ h.noted;
          kept = h.kept;
          left = λ y i. h.left y (inr i);
        }
    ended o os t _ (losing.LostNothing f e q k l) h =
        record {
          at = h.at;
          outs = ends o os t answers.Quiesced e (λ z. q) h;
          life = h.life;
          noted = has_left t.out (outputs.Answer o.op answers.Quiesced ∷ []) _ h.noted;
          kept = h.kept;
          left = λ y i. h.left y (inr i);
        }
    ended o os t _ (losing.IsQuiesced e q k) h =
        record {
          at = h.at;
          outs = ends o os t answers.Quiesced e (λ z. q) h;
          life = h.life;
          noted = has_left t.out (outputs.Answer o.op answers.Quiesced ∷ []) _ h.noted;
          kept = h.kept;
          left = λ y i. h.left y (inr i);
        }

  -- Each association in turn.
  abbrev AllKept : List Operation → Type 0
  AllKept os = (o : Operation) → Has o os → Has o s.operations

  lose_one : (t : Turn) → Has t.here s.associations → t.config ≡ s.config → Lossy [] t.out → AllKept t.operations →
      Lossy [] (cl.lose now t).out × AllKept (cl.lose now t).operations
  lose_one t has config outs kept = go (cl.lose now t) (loses now t)
    where
      go : (u : Turn) → Loses now t u → Lossy [] u.out × AllKept u.operations
      go _ (losing.HasNoSession e) = (outs, kept)
      go _ (losing.Lasts x e o) = (outs, kept)
      go _ (losing.IsLost x u e o p) =
          let over : is_ended s.config now t.here.session ≡ true =
          ap (is_ended s.config now) e
          ∙ (sym (over_is s.config x.lease now) ∙ (ap (λ k. must_discard (standing_of k x.lease now)) (sym config) ∙ o)) in
          let z : Ending t.here has over x [] u =
          each_lasts (Ended x) (λ os v. Ending t.here has over x os v) (λ o os v y h. ended t.here has over x o os v y h) t.operations
          (with_operations [] (losing.loss_noted t)) u p
          (record {
            at = refl;
            outs = lossy_last [] t.out (outputs.Note (notes.Lost t.here.server t.here.life)) outs tt;
            life = t.here.life;
            noted =
                has_right t.out (outputs.Note (notes.Lost t.here.server t.here.life) ∷ []) (outputs.Note (notes.Lost t.here.server t.here.life)) (inl refl);
            kept = λ o i. absurd i;
            left = kept;
          }) in
          (z.outs, z.kept)

  record Losing (t : ClientTurn) : Type 0 where
    outs : Lossy [] t.out
    kept : AllKept t.state.operations
    config : t.state.config ≡ s.config

  these : (al : List Association) (t : ClientTurn) → ((a : Association) → Has a al → Has a s.associations) → Losing t →
      Losing (at_these (cl.lose now) al t)
  unfolding at_these
  these [] t h l = l
  these (a ∷ al) t h l =
      let z = lose_one (enter t a) (h a (inl refl)) l.config l.outs l.kept in
      these al (leave t (cl.lose now (enter t a))) (λ y i. h y (inr i)) (record { outs = z.0; kept = z.1; config = l.config })

  losses_lossy : Lossy [] (cl.losses (client_turn s []) now).out
  unfolding cl.losses at_each
  losses_lossy = (these s.associations (with_associations [] (client_turn s [])) (λ a i. i) (record { outs = tt; kept = λ o i. i; config = refl })).outs

-- The outputs that follow: no sync is quiesced, and nothing that was sent.
module _ (s : ClientState) (input : ClientInput) (start : List (ℕ × Ask)) where
  -- an operation of this number isn't sent, or it is the ask that comes
  abbrev pub Unsent : ℕ → Type 0
  Unsent op = ((o : Operation) × (Has o s.operations × ((o.op ≡ op) × (cs.is_sent o ≡ false)))) ⊎ ((ask : Ask) × (input ≡ inputs.App op ask))

  pub record IsFree (op : ℕ) : Type 0 where
    pub ask : Ask
    pub known : Has (op, ask) start
    pub other : cs.is_sync ask ≡ false
    pub unsent : Unsent op

  abbrev pub Quietly : ℕ → AppAnswer → Type 0
  Quietly op answers.Quiesced = IsFree op
  Quietly op a = Unit {0}

  abbrev LaterOne : Output → Type 0
  LaterOne (outputs.Answer op a) = Quietly op a
  LaterOne o = Unit {0}

  abbrev LaterAll : List Output → Type 0
  LaterAll [] = Unit {0}
  LaterAll (o ∷ os) = LaterOne o × LaterAll os

  later_last : (os : List Output) (o : Output) → LaterAll os → LaterOne o → LaterAll (os ++ o ∷ [])
  later_last [] o h k = (k, tt)
  later_last (x ∷ os) o h k = (h.0, later_last os o h.1 k)

module _ (s : ClientState) (now : Stamp) (input : ClientInput) (start : List (ℕ × Ask)) (from : start ≡ map key s.operations ++ coming input) where
  abbrev lost : ClientTurn
  lost = cl.losses (client_turn s []) now

  record Then (out : List Output) : Type 0 where
    more : List Output
    is : out ≡ lost.out ++ more
    later : LaterAll s input start more

  one_more : (out : List Output) (o : Output) → LaterOne s input start o → Then out → Then (out ++ o ∷ [])
  one_more out o k h =
      record {
        more = h.more ++ o ∷ [];
        is = ap (λ xs. xs ++ o ∷ []) h.is ∙ append_assoc lost.out h.more (o ∷ []);
        later = later_last s input start h.more o h.later k;
      }

  silent_later : (o : Output) → IsSilent o → LaterOne s input start o
  silent_later (outputs.Answer op a) e = absurd e
  silent_later (outputs.Send m) e = tt
  silent_later (outputs.Submit number at what) e = tt
  silent_later (outputs.Note n) e = tt

  plain_later : (op : ℕ) (a : AppAnswer) → IsPlain a → Quietly s input start op a
  plain_later op answers.Quiesced e = absurd e
  plain_later op a e = tt

  refused_later : (v : Turn) (file : Option ℕ) (asked : Body) (o : Operation) (w : Why) (a b : ℕ) (answer : AppAnswer) → Refuses v file asked o w a b answer →
      Quietly s input start o.op answer
  refused_later v file asked o _ a b _ (walk.HasNoFile _ _ ino e p) = tt
  refused_later v file asked o _ a b _ (walk.HasTooManyLocks _ _ ino e p) = tt
  refused_later v file asked o _ a b _ (walk.HasNoSpace _ _ ino p e q z) = tt
  refused_later v file asked o _ a b _ (walk.IsNoHolder _ _ e p) = tt

  abbrev Known : ℕ → Ask → Type 0
  Known op ask = Has (op, ask) start

  abbrev AnyCut : Ask → Type 0
  AnyCut a = Unit {0}

  abbrev AnyEpoch : ServerId → ℕ → Type 0
  AnyEpoch v n = Unit {0}

  abbrev Any : Association → Type 0
  Any a = Unit {0}

  abbrev Always : List Output → Type 0
  Always out = Unit {0}

  in_losses : KeepsLosses Known (Unsent s input start) AnyCut (λ a e. tt) AnyEpoch Any Always now
  in_losses =
      record {
        silent = λ out o e h. tt;
        plain = λ out op a e h. tt;
        uncertain = λ out v o n k a d f h. tt;
        quiesced = λ out o k u h. tt;
      }

  keeps : Keeps Known (Unsent s input start) AnyCut (λ a e. tt) AnyEpoch Any Then now input lost
  keeps =
      record {
        comes = λ op ask i. inr (ask, i);
        silent = λ out o e h. one_more out o (silent_later o e) h;
        plain = λ out op a e h. one_more out (outputs.Answer op a) (plain_later op a e) h;
        quiesced = λ out o k u n h.
            one_more out (outputs.Answer o.op answers.Quiesced) (record { ask = o.ask; known = k; other = n; unsent = u }) h;
        newer = λ out v o n m k a d f g l h. one_more out (outputs.Answer o.op (answers.Uncertain n m)) tt h;
        full = λ op ask i f h. one_more lost.out (outputs.Answer op answers.OpsFull) tt h;
        unknown = λ op ask i f h. one_more lost.out (outputs.Answer op answers.NoFile) tt h;
        refused = λ out v z q m o w a b answer i y r e k u h. one_more out (outputs.Answer o.op answer) (refused_later v _ _ o w a b answer u) h;
        failed = λ out v number x o i y z k u h. one_more out (outputs.Answer o.op (answers.DiskFault x.number)) tt h;
      }

  known_tells : (i : ClientInput) → start ≡ map key s.operations ++ coming i → Tells Known AnyEpoch i
  known_tells (inputs.App op ask) e = subst (Has (op, ask)) (sym e) (has_right (map key s.operations) ((op, ask) ∷ []) (op, ask) (inl refl))
  known_tells (inputs.Control m) e = λ v f. tt
  known_tells inputs.Tick e = tt
  known_tells (inputs.Done number r) e = tt

  any_session : (a : Association) → SessionIn AnyEpoch a.server a.session
  any_session a = go a.session
    where
      go : (o : Option ClientSession) → SessionIn AnyEpoch a.server o
      go None = tt
      go (Some v) = tt

  stage : (o : Operation) → Has o s.operations → (b : Bool) → cs.is_sent o ≡ b → b ≡ false → Unsent s input start o.op
  stage o i b e q = inl (o, (i, (refl, e ∙ q)))

  step_then : Then (cl.client_step s now input).out
  unfolding cl.client_step
  step_then =
      let z =
      lost_all Known (Unsent s input start) AnyCut (λ a e. tt) AnyEpoch Any Always now in_losses (λ a. tt) s
      (record {
        kept = tt;
        operations = λ o i. (
          subst (Has (key o)) (sym from) (has_left (map key s.operations) (coming input) (key o) (has_map_in key s.operations o i)),
          record { sent = λ e. tt; unsent = λ e. stage o i (cs.is_sent o) refl e },
        );
        each = λ a i. (any_session a, tt);
      }) in
      (after_input Known (Unsent s input start) AnyCut (λ a e. tt) AnyEpoch Any Then now input lost keeps input refl (known_tells input from)
      (record { kept = record { more = []; is = sym (append-nil lost.out); later = tt }; operations = z.operations; each = z.each })).kept

-- Their lines.
module _ (w : World) (c : ClientId) where
  pub record AfterLoss (done : List Observation) (op : ℕ) (answer : AppAnswer) : Type 0 where
    pub site : WorldClient
    pub at : site_of w c ≡ Some site
    pub operation : Operation
    pub among : Has operation site.node.state.operations
    pub is : operation.op ≡ op
    pub a : Association
    pub has : Has a site.node.state.associations
    pub own : cs.is_of a.server operation ≡ true
    pub over : is_ended site.node.state.config (clock_of w (nodes.Client c)) a.session ≡ true
    pub told : list_any (is_loss_of c a.server) done ≡ true
    pub unsent : answer ≡ answers.Quiesced → cs.is_sent operation ≡ false

  abbrev pub OneLine : List Observation → Observation → Type 0
  OneLine done (seen.Answered d op a) = (d ≡ c) × AfterLoss done op a
  OneLine done (seen.Lost d t life) = Unit {0}
  OneLine done o = ⊥

  abbrev pub InOrder : List Observation → List Observation → Type 0
  InOrder done [] = Unit {0}
  InOrder done (o ∷ os) = OneLine done o × InOrder (done ++ o ∷ []) os

  record LossLines (done old : List Observation) (os : List Output) (new : List Observation) : Type 0 where
    more : List Observation
    is : new ≡ old ++ more
    order : InOrder done more
    losses : (v : ServerId) (life : Life) → Has (outputs.Note (notes.Lost v life)) os → list_any (is_loss_of c v) more ≡ true

  abbrev Noted : List Output → List Observation → Type 0
  Noted before done = (v : ServerId) (life : Life) → Has (outputs.Note (notes.Lost v life)) before → list_any (is_loss_of c v) done ≡ true

  any_last : (p : Observation → Bool) (xs : List Observation) (x : Observation) → p x ≡ true → list_any p (xs ++ x ∷ []) ≡ true
  any_last p [] x q = or_left (p x) false q
  any_last p (y ∷ xs) x q = or_right (p y) (list_any p (xs ++ x ∷ [])) (any_last p xs x q)

  any_more : (p : Observation → Bool) (xs : List Observation) (x : Observation) → list_any p xs ≡ true → list_any p (xs ++ x ∷ []) ≡ true
  any_more p [] x q = cc q
  any_more p (y ∷ xs) x q = go (p y) q (any_more p xs x)
    where
      go : (b : Bool) → (b || list_any p xs) ≡ true → (list_any p xs ≡ true → list_any p (xs ++ x ∷ []) ≡ true) → (b || list_any p (xs ++ x ∷ [])) ≡ true
      go true q r = refl
      go false q r = r q

  lost_note : (v u : ServerId) (l k : Life) → outputs.Note (notes.Lost v l) ≡ outputs.Note (notes.Lost u k) → v ≡ u
  lost_note v u l k e = cc e

  answer_noted : (before : List Output) (done : List Observation) (op : ℕ) (a : AppAnswer) → Noted before done →
      Noted (before ++ outputs.Answer op a ∷ []) (done ++ seen.Answered c op a ∷ [])
  answer_noted before done op a h v life i = go (has_append before (outputs.Answer op a ∷ []) (outputs.Note (notes.Lost v life)) i)
    where
      go : Has (outputs.Note (notes.Lost v life)) before ⊎ Has (outputs.Note (notes.Lost v life)) (outputs.Answer op a ∷ []) →
          list_any (is_loss_of c v) (done ++ seen.Answered c op a ∷ []) ≡ true
      go (inl j) = any_more (is_loss_of c v) done (seen.Answered c op a) (h v life j)
      go (inr (inl e)) = cc e
      go (inr (inr j)) = absurd j

  loss_noted : (before : List Output) (done : List Observation) (u : ServerId) (k : Life) → Noted before done →
      Noted (before ++ outputs.Note (notes.Lost u k) ∷ []) (done ++ seen.Lost c u k ∷ [])
  loss_noted before done u k h v life i = go (has_append before (outputs.Note (notes.Lost u k) ∷ []) (outputs.Note (notes.Lost v life)) i)
    where
      loss_is : (v u : ServerId) (k : Life) → v ≡ u → is_loss_of c v (seen.Lost c u k) ≡ true
      loss_is v u k e =
          and_both (same_client c c) (same_server u v) (eq-eqb c.0 c.0 refl) (eq-eqb u.0 v.0 (ap (λ (z : ServerId). z.0) (sym e)))

      go : Has (outputs.Note (notes.Lost v life)) before ⊎ Has (outputs.Note (notes.Lost v life)) (outputs.Note (notes.Lost u k) ∷ []) →
          list_any (is_loss_of c v) (done ++ seen.Lost c u k ∷ []) ≡ true
      go (inl j) = any_more (is_loss_of c v) done (seen.Lost c u k) (h v life j)
      go (inr (inl e)) = any_last (is_loss_of c v) done (seen.Lost c u k) (loss_is v u k (lost_note v u life k e))
      go (inr (inr j)) = absurd j

  module _ (site : WorldClient) (at : site_of w c ≡ Some site) (now : Stamp) (clock : now ≡ clock_of w (nodes.Client c)) where
    abbrev its_state : ClientState
    its_state = site.node.state

    after_loss : (before : List Output) (done : List Observation) (op : ℕ) (a : AppAnswer) → Noted before done → EndedBy its_state now before op a →
        AfterLoss done op a
    after_loss before done op a h e =
        record {
          site = site;
          at = at;
          operation = e.operation;
          among = e.among;
          is = e.is;
          a = e.a;
          has = e.has;
          own = e.own;
          over = ap (λ k. is_ended site.node.state.config k e.a.session) (sym clock) ∙ e.over;
          told = h e.a.server e.life e.noted;
          unsent = e.unsent;
        }

    lossy_lines : (os before : List Output) (done : List Observation) (sc : WorldTurn) → Noted before done → Lossy its_state now before os →
        LossLines done sc.seen os (ev.client_says_all c its_state os sc).seen
    unfolding ev.client_says_all ev.client_says ev.answers_with ev.client_notes ev.loses
    lossy_lines [] before done sc n h = record { more = []; is = none_more sc.seen; order = tt; losses = λ v life i. absurd i }
    lossy_lines (outputs.Send m ∷ os) before done sc n h = absurd h.0
    lossy_lines (outputs.Submit number place what ∷ os) before done sc n h = absurd h.0
    lossy_lines (outputs.Answer op a ∷ os) before done sc n h =
        let line : Observation = seen.Answered c op a in
        let z =
        lossy_lines os (before ++ outputs.Answer op a ∷ []) (done ++ line ∷ []) (ev.client_says sc c its_state (outputs.Answer op a))
        (answer_noted before done op a n) h.1 in
        record {
          more = line ∷ z.more;
          is = z.is ∙ append_assoc sc.seen (line ∷ []) z.more;
          order = ((refl, after_loss before done op a n h.0), z.order);
          losses = λ v life i. tail v life z.more i (z.losses v life);
        }
      where
        tail : (v : ServerId) (life : Life) (more : List Observation) → Has (outputs.Note (notes.Lost v life)) (outputs.Answer op a ∷ os) →
            (Has (outputs.Note (notes.Lost v life)) os → list_any (is_loss_of c v) more ≡ true) → list_any (is_loss_of c v) more ≡ true
        tail v life more (inl e) r = cc e
        tail v life more (inr i) r = r i
    lossy_lines (outputs.Note (notes.Lost u k) ∷ os) before done sc n h =
        let line : Observation = seen.Lost c u k in
        let z =
        lossy_lines os (before ++ outputs.Note (notes.Lost u k) ∷ []) (done ++ line ∷ []) (ev.client_says sc c its_state (outputs.Note (notes.Lost u k)))
        (loss_noted before done u k n) h.1 in
        record {
          more = line ∷ z.more;
          is = z.is ∙ append_assoc sc.seen (line ∷ []) z.more;
          order = (tt, z.order);
          losses = λ v life i. first v life z.more i (z.losses v life);
        }
      where
        first : (v : ServerId) (life : Life) (more : List Observation) → Has (outputs.Note (notes.Lost v life)) (outputs.Note (notes.Lost u k) ∷ os) →
            (Has (outputs.Note (notes.Lost v life)) os → list_any (is_loss_of c v) more ≡ true) →
            list_any (is_loss_of c v) (seen.Lost c u k ∷ more) ≡ true
        first v life more (inl e) r =
            or_left (is_loss_of c v (seen.Lost c u k)) (list_any (is_loss_of c v) more)
            (and_both (same_client c c) (same_server u v) (eq-eqb c.0 c.0 refl) (eq-eqb u.0 v.0 (ap (λ (z : ServerId). z.0) (sym (lost_note v u life k e)))))
        first v life more (inr i) r = or_right (is_loss_of c v (seen.Lost c u k)) (list_any (is_loss_of c v) more) (r i)
    lossy_lines (outputs.Note n0 ∷ os) before done sc n h = absurd h.0

-- Lines of later outputs.
module _ (c : ClientId) (s : ClientState) (input : ClientInput) (start : List (ℕ × Ask)) where
  abbrev pub LaterLine : Observation → Type 0
  LaterLine (seen.Answered d op a) = (d ≡ c) × Quietly s input start op a
  LaterLine o = Unit {0}

  abbrev pub LaterLines : List Observation → Type 0
  LaterLines [] = Unit {0}
  LaterLines (o ∷ os) = LaterLine o × LaterLines os

  lines_both : (xs ys : List Observation) → LaterLines xs → LaterLines ys → LaterLines (xs ++ ys)
  lines_both [] ys h k = k
  lines_both (x ∷ xs) ys h k = (h.0, lines_both xs ys h.1 k)

  record Rest (old new : List Observation) : Type 0 where
    more : List Observation
    is : new ≡ old ++ more
    later : LaterLines more

  note_later : (before : ClientState) (n : Note) (sc : WorldTurn) → Rest sc.seen (ev.client_notes sc c before n).seen
  unfolding ev.client_notes ev.accepts ev.patches ev.loses
  note_later before (notes.Leased v end) sc = record { more = _ ∷ []; is = refl; later = (tt, tt) }
  note_later before (notes.Lost v life) sc = record { more = _ ∷ []; is = refl; later = (tt, tt) }
  note_later before (notes.Accepted f p bytes) sc = record { more = _ ∷ []; is = refl; later = (tt, tt) }
  note_later before (notes.Patched f p at bytes) sc = record { more = _ ∷ []; is = refl; later = (tt, tt) }
  note_later before n sc = record { more = []; is = none_more sc.seen; later = tt }

  submit_later : (o : Option WorldClient) (number : ℕ) (place : BlockAt) (what : Command) (sc : WorldTurn) →
      Rest sc.seen (ev.submits sc c o number place what).seen
  unfolding ev.submits
  submit_later None number place what sc = record { more = []; is = none_more sc.seen; later = tt }
  submit_later (Some site) number place what sc = record { more = _ ∷ []; is = refl; later = (tt, tt) }

  one_later : (before : ClientState) (o : Output) (sc : WorldTurn) → LaterOne s input start o → Rest sc.seen (ev.client_says sc c before o).seen
  unfolding ev.client_says ev.sends ev.answers_with
  one_later before (outputs.Send m) sc h = record { more = _ ∷ []; is = refl; later = (tt, tt) }
  one_later before (outputs.Submit number place what) sc h = submit_later (site_of sc.world c) number place what sc
  one_later before (outputs.Answer op a) sc h = record { more = seen.Answered c op a ∷ []; is = refl; later = ((refl, h), tt) }
  one_later before (outputs.Note n) sc h = note_later before n sc

  all_later : (before : ClientState) (os : List Output) (sc : WorldTurn) → LaterAll s input start os → Rest sc.seen (ev.client_says_all c before os sc).seen
  unfolding ev.client_says_all
  all_later before [] sc h = record { more = []; is = none_more sc.seen; later = tt }
  all_later before (o ∷ os) sc h =
      let a = one_later before o sc h.0 in
      let b = all_later before os (ev.client_says sc c before o) h.1 in
      record {
        more = a.more ++ b.more;
        is = b.is ∙ (ap (λ xs. xs ++ b.more) a.is ∙ append_assoc sc.seen a.more b.more);
        later = lines_both a.more b.more a.later b.later;
      }

-- A step of a client, in this order.
pub record Ordered (w : World) (c : ClientId) (s : ClientState) (input : ClientInput) (start : List (ℕ × Ask)) (os : List Observation) : Type 0 where
  pub first : List Observation
  pub rest : List Observation
  pub is : os ≡ first ++ rest
  pub order : InOrder w c [] first
  pub losses : (o : LogOwner) → o.client ≡ c → IsLate w o → list_any (is_loss_of c o.file.server) first ≡ true
  pub later : LaterLines c s input start rest

module _ (t : World) (e : Event) (sc : WorldTurn) (r : Stepping t e sc) (fit : (a : Association) → Has a r.site.node.state.associations → Fit a)
    (start : List (ℕ × Ask)) (from : start ≡ map key r.site.node.state.operations ++ coming r.input) where
  abbrev state : ClientState
  state = r.site.node.state

  abbrev lost_turn : ClientTurn
  lost_turn = cl.losses (client_turn state []) r.now

  steps_then : Then state r.now r.input start from (cl.client_step state r.now r.input).out
  steps_then = step_then state r.now r.input start from

  front : LossLines t r.client [] r.before.seen lost_turn.out (ev.client_says_all r.client state lost_turn.out r.before).seen
  front = lossy_lines t r.client r.site r.at r.now r.clock lost_turn.out [] [] r.before (λ v life i. absurd i) (losses_lossy state r.now)

  back : Rest r.client state r.input start (ev.client_says_all r.client state lost_turn.out r.before).seen
      (ev.client_says_all r.client state steps_then.more (ev.client_says_all r.client state lost_turn.out r.before)).seen
  back = all_later r.client state r.input start state steps_then.more (ev.client_says_all r.client state lost_turn.out r.before) steps_then.later

  its_late : (o : LogOwner) → o.client ≡ r.client → IsLate t o → list_any (is_loss_of r.client o.file.server) front.more ≡ true
  its_late o same l =
      let site : l.site ≡ r.site = some_is (sym l.there ∙ (ap (site_of t) same ∙ r.at)) in
      let place : find (is_at o.file.server) state.associations ≡ Some l.a =
      ap (λ (x : WorldClient). find (is_at o.file.server) x.node.state.associations) (sym site) ∙ l.place in
      let found = found_at (is_at o.file.server) state.associations l.a place in
      let over : is_ended state.config r.now l.a.session ≡ true =
      ap (λ x. is_ended state.config x l.a.session) (r.clock ∙ ap (λ d. clock_of t (nodes.Client d)) (sym same))
      ∙ (ap (λ (x : WorldClient). is_ended x.node.state.config (clock_of t (nodes.Client o.client)) l.a.session) (sym site) ∙ l.over) in
      let told = losses_told r.client state r.now fit l.a found.1 over in
      subst (λ z. list_any (is_loss_of r.client z) front.more ≡ true) (ap (λ n. record { 0 = n }) (eqb-true l.a.server.0 o.file.server.0 found.0))
      (front.losses l.a.server told.0 told.1)

  pub ordered : Ordered t r.client state r.input start sc.seen
  ordered =
      record {
        first = front.more;
        rest = back.more;
        is =
            r.says
            ∙ (ap (λ os. (ev.client_says_all r.client state os r.before).seen) steps_then.is
            ∙ (ap (λ (z : WorldTurn). z.seen) (says_both r.client state lost_turn.out steps_then.more r.before)
            ∙ (back.is ∙ ap (λ xs. xs ++ back.more) (front.is ∙ ap (λ xs. xs ++ front.more) r.unseen))));
        order = front.order;
        losses = its_late;
        later = back.later;
      }
