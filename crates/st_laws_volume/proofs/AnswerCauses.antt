-- What a client's answers tell: for which ask each is, and why it is given.
use Rattle.std.proofs.Common.{◌≡◌, ◌<◌, ◌⊎◌, ℕ, true, false, not, ◌&&◌, ◌==◌, List, [], ◌∷◌, ◌++◌, map, Option, Some, None, refl, sym, ap, ◌∙◌, subst, inl, inr}
use Rattle.std.proofs.lemmas.Bool.{eqb-true}
use Rattle.std.proofs.lemmas.List.{append-nil}
use Rattle.st_base.specs.declared.ids.ClientId.{ClientId}
use Rattle.st_base.specs.declared.ids.PageNo.{PageNo}
use Rattle.st_base.specs.declared.ids.ServerId.{ServerId}
use Rattle.st_base.specs.declared.ids.Stamp.{Stamp}
use Rattle.st_messages.specs.declared.answer.AppAnswer.{AppAnswer}
use Rattle.st_messages.specs.declared.answer.AppAnswer.TheVariants as answers
use Rattle.st_messages.specs.declared.ask.Ask.{Ask}
use Rattle.st_messages.specs.declared.event.Event.{Event}
use Rattle.st_messages.specs.declared.message.Body.{Body}
use Rattle.st_messages.specs.declared.message.Body.TheVariants as bodies
use Rattle.st_messages.specs.declared.message.Message.{Message}
use Rattle.st_messages.specs.declared.message.Why.{Why}
use Rattle.st_messages.specs.declared.message.Why.TheVariants as why
use Rattle.st_messages.specs.declared.output.Output.{Output}
use Rattle.st_messages.specs.declared.output.Output.TheVariants as outputs
use Rattle.st_rules.specs.declared.client.ClientInput.{ClientInput}
use Rattle.st_rules.specs.declared.client.ClientInput.TheVariants as inputs
use Rattle.st_rules.specs.declared.client.IoKind.TheVariants as io
use Rattle.st_rules.specs.declared.client.Operation.{Operation}
use Rattle.st_rules.specs.declared.client.PageCommand.{PageCommand}
use Rattle.st_rules.specs.declared.client.Request.{Request}
use Rattle.st_rules.specs.Client as cl
use Rattle.st_rules.specs.ClientPages as pages
use Rattle.st_rules.specs.ClientState as cs
use Rattle.st_rules.specs.ClientState.{Association, ClientSession, ClientState, ClientTurn, Turn, client_turn}
use Rattle.st_rules.specs.Keys.{same_server, server_node}
use Rattle.st_rules.specs.World.{World, WorldClient, site_of}
use Rattle.st_lemmas.specs.Lists.{Has}
use Rattle.st_lemmas.proofs.Members.{has_left, has_right}
use Rattle.st_lemmas.proofs.Tables.{and_true, found_at, has_map_in, none_passes}
use Rattle.st_lemmas.proofs.Numbers.{numbered_has}
use Rattle.st_trace.specs.Client.Commands.{IsOutstanding}
use Rattle.st_trace.specs.Client.Losses as losing
use Rattle.st_trace.specs.Client.Losses.{Ended, Loses}
use Rattle.st_trace.specs.Client.Messages.{Replied}
use Rattle.st_trace.proofs.Client.Losing.{loses}
use Rattle.st_trace.proofs.Client.Walk.{each_lasts}
use Rattle.st_laws_leases.specs.Dates.Dates.{message_in}
use Rattle.st_laws_pages.proofs.Asks.Client.{key}
use Rattle.st_laws_volume.proofs.AnswerLines.{AllFit, fit_last}
use Rattle.st_laws_volume.proofs.AskClient.{coming}
use Rattle.st_laws_volume.proofs.ClientAnswers.{IsPlain, IsSilent, Keeps, KeepsLosses, Reads, Refuses, SessionIn, Syncs, Tells, WaitsFor, stepped}
use Rattle.st_laws_volume.proofs.ClientAnswers as walk
use Rattle.st_laws_volume.proofs.EventAnswers.{ByAsk, ByMessage, ByReport, ByTick, Given, TakesAt, given_by, given_last, of_output}
use Rattle.st_laws_volume.proofs.SessionEpochs.{EpochsRight, Within}

-- A loss of a lease leaves the server; so no server gets lost.
ended_server : (x : ServerId) (s : ClientSession) (o : Operation) (t u : Turn) → Ended s o t u → t.here.server ≡ x → u.here.server ≡ x
ended_server x s o t _ (losing.IsElsewhere e) h = h
ended_server x s o t _ (losing.IsUncertain e f) h = h
ended_server x s o t _ (losing.IsToldLost f e q a l) h = h
ended_server x s o t _ (losing.LostNothing f e q a l) h = h
ended_server x s o t _ (losing.IsQuiesced e q a) h = h

lose_server : (now : Stamp) (t : Turn) → (cl.lose now t).here.server ≡ t.here.server
lose_server now t = go (cl.lose now t) (loses now t)
  where
    go : (u : Turn) → Loses now t u → u.here.server ≡ t.here.server
    go _ (losing.HasNoSession e) = refl
    go _ (losing.Lasts s e o) = refl
    go _ (losing.IsLost s u e o p) =
        each_lasts (Ended s) (λ os v. v.here.server ≡ t.here.server) (λ o os v x y z. ended_server t.here.server s o v x y z) t.operations
        (cs.with_operations [] (losing.loss_noted t)) u p refl

abbrev IsOther : ServerId → Association → Type 0
IsOther x a = (a.server.0 == x.0) ≡ false

none_next : (now : Stamp) (x : ServerId) (a : Association) (al : List Association) (t : ClientTurn) →
    ((b : Association) → Has b (cs.leave t (cl.lose now (cs.enter t a))).state.associations → IsOther x b) × ((b : Association) → Has b al → IsOther x b) →
    ((b : Association) → Has b t.state.associations → IsOther x b) × ((b : Association) → Has b (a ∷ al) → IsOther x b)
none_next now x a al t z = (λ b i. z.0 b (has_left t.state.associations (left.here ∷ []) b i), go)
  where
    left : Turn
    left = cl.lose now (cs.enter t a)

    own : IsOther x a
    own = subst (λ (s : ServerId). (s.0 == x.0) ≡ false) (lose_server now (cs.enter t a))
        (z.0 left.here (has_right t.state.associations (left.here ∷ []) left.here (inl refl)))

    go : (b : Association) → Has b (a ∷ al) → IsOther x b
    go b (inl e) = subst (IsOther x) (sym e) own
    go b (inr i) = z.1 b i

none_with : (now : Stamp) (x : ServerId) (al : List Association) (t : ClientTurn) →
    ((a : Association) → Has a (cs.at_these (cl.lose now) al t).state.associations → IsOther x a) →
    ((a : Association) → Has a t.state.associations → IsOther x a) × ((a : Association) → Has a al → IsOther x a)
unfolding cs.at_these
none_with now x [] t h = (h, λ a i. absurd i)
none_with now x (a ∷ al) t h = none_next now x a al t (none_with now x al (cs.leave t (cl.lose now (cs.enter t a))) h)

-- an ask that waits for a command of a server: for a read of the page, or a sync of the file for a write
abbrev pub Waits : ServerId → PageCommand → Ask → Type 0
Waits s x ask =
    ((x.kind ≡ io.Read) × (cs.reads_page s x.ino x.page ask ≡ true))
    ⊎ ((v : ℕ) × ((x.kind ≡ io.Write v) × ((same_server (cs.server_of ask) s && cs.is_file x.ino (cs.file_of ask) ≡ true) × (cs.is_sync ask ≡ true))))

-- which asks a refusal answers: those of its request's file, but no sync; and those that write its page
abbrev pub IsOfFile : ServerId → Option ℕ → Body → Ask → Type 0
IsOfFile s file body ask =
    (ino : ℕ) × (file ≡ Some ino) × (((same_server (cs.server_of ask) s && cs.is_file ino (cs.file_of ask)) && not (cs.is_sync ask)) ≡ true)

abbrev pub IsOfPage : ServerId → Option ℕ → Body → Ask → Type 0
IsOfPage s file body ask =
    (ino : ℕ) × (p : PageNo) × (file ≡ Some ino) × (cs.page_asked body ≡ Some p) × (cs.changes_page s ino p ask ≡ true)

-- Those of its server, if it is a cut or a remove.
abbrev pub IsAskedOf : ServerId → Option ℕ → Body → Ask → Type 0
IsAskedOf s file body ask = (cs.asks_cut_or_remove body ≡ true) × (s ≡ cs.server_of ask)

-- A client's open asks with the one that comes, its input, and what it had of each server.
module _ (t : World) (c : ClientId) (start : List (ℕ × Ask)) (input : ClientInput) (before : List Association) where
  pub record IsUncertain (op n m : ℕ) : Type 0 where
    pub ask : Ask
    pub known : Has (op, ask) start
    pub cut : cs.is_cut_or_name ask ≡ true
    pub old : Within t (cs.server_of ask) n
    pub new : (m ≡ 0) ⊎ ((n < m) × Within t (cs.server_of ask) m)

  pub record IsFault (op n : ℕ) : Type 0 where
    pub ask : Ask
    pub known : Has (op, ask) start
    pub ends : input ≡ inputs.Done n None
    pub association : Association
    pub among : Has association before
    pub command : PageCommand
    pub there : Has command association.store.commands
    pub numbered : command.number ≡ n
    pub waits : Waits association.server command ask

  -- no server is there for the ask that comes
  pub record IsUnknown (op : ℕ) : Type 0 where
    pub ask : Ask
    pub known : Has (op, ask) start
    pub none : (a : Association) → Has a before → (a.server.0 == (cs.server_of ask).0) ≡ false

  -- a server refuses the outstanding request of its association
  pub record IsRefusal (op : ℕ) (w : Why) (x n : ℕ) (Concerns : ServerId → Option ℕ → Body → Ask → Type 0) : Type 0 where
    pub ask : Ask
    pub known : Has (op, ask) start
    pub message : Message
    pub comes : input ≡ inputs.Control message
    pub says : message.body ≡ bodies.Nack w x n
    pub association : Association
    pub among : Has association before
    pub session : ClientSession
    pub has : association.session ≡ Some session
    pub request : Request
    pub outstanding : session.requests.asked ≡ Some request
    pub from : message.header.from ≡ server_node association.server
    pub life : message.header.life ≡ association.life.0
    pub epoch : message.header.epoch ≡ session.epoch.0
    pub number : message.header.number ≡ request.number
    pub first : cs.reasserts request.body ≡ false
    pub concerns : Concerns association.server (cs.file_asked session.cutting request.body) request.body ask

  abbrev pub Says : ℕ → AppAnswer → Type 0
  Says op (answers.Uncertain n m) = IsUncertain op n m
  Says op (answers.DiskFault n) = IsFault op n
  Says op answers.NoFile = IsUnknown op ⊎ ((x n : ℕ) × IsRefusal op why.NoFile x n IsOfFile)
  Says op (answers.NoSpace x n) = IsRefusal op why.NoSpace x n IsOfPage
  Says op answers.NotHolder = (x n : ℕ) × IsRefusal op why.NotHolder x n IsAskedOf
  Says op answers.TooManyLocks = (x n : ℕ) × IsRefusal op why.TooManyLocks x n IsOfFile
  Says op a = Unit {0}

  abbrev pub Fits : Given → Type 0
  Fits g = (g.client ≡ c) × Says g.op g.answer

  plain_says : (op : ℕ) (a : AppAnswer) → IsPlain a → Says op a
  plain_says op (answers.Uncertain n m) p = absurd p
  plain_says op (answers.DiskFault n) p = absurd p
  plain_says op answers.NoFile p = absurd p
  plain_says op (answers.NoSpace x n) p = absurd p
  plain_says op answers.NotHolder p = absurd p
  plain_says op answers.TooManyLocks p = absurd p
  plain_says op a p = tt

  server_is : (s : ServerId) (o : Operation) → cs.is_of s o ≡ true → s ≡ cs.server_of o.ask
  server_is s o e = ap (λ n. record { 0 = n }) (sym (eqb-true (cs.server_of o.ask).0 s.0 e))

  silent_none : (o : Output) → IsSilent o → of_output c o ≡ []
  silent_none (outputs.Answer op a) s = absurd s
  silent_none (outputs.Send m) s = refl
  silent_none (outputs.Submit number at what) s = refl
  silent_none (outputs.Note n) s = refl

  abbrev All : List Output → Type 0
  All out = AllFit Fits (given_by c out)

  one_says : (out : List Output) (op : ℕ) (a : AppAnswer) → Says op a → All out → All (out ++ outputs.Answer op a ∷ [])
  one_says out op a s h =
      subst (AllFit Fits) (sym (given_last c out (outputs.Answer op a)))
      (fit_last Fits (given_by c out) (record { client = c; op = op; answer = a }) (refl, s) h)

  -- the outstanding commands of an association are those of one before
  abbrev There : Association → Type 0
  There a =
      (x : PageCommand) → Has x a.store.commands → (b : Association) × (Has b before × ((b.server ≡ a.server) × Has x b.store.commands))

  -- an association with a session is one of those before
  abbrev Old : Association → Type 0
  Old a = (y : ClientSession) → a.session ≡ Some y → Has a before

  module _ (now : Stamp) (v : Turn) (y : ClientSession) (q : Request) (m : Message) (o : Operation) (w : Why) (a b : ℕ) (i : input ≡ inputs.Control m)
      (old : Old v.here) (r : Replied now m.header m.body v y q) (e : m.body ≡ bodies.Nack w a b) (k : Has (o.op, o.ask) start) where
    refusal_said : (Concerns : ServerId → Option ℕ → Body → Ask → Type 0) → Concerns v.here.server (cs.file_asked y.cutting q.body) q.body o.ask →
        IsRefusal o.op w a b Concerns
    refusal_said Concerns f =
        record {
          ask = o.ask;
          known = k;
          message = m;
          comes = i;
          says = e;
          association = v.here;
          among = old y r.heard.session;
          session = y;
          has = r.heard.session;
          request = q;
          outstanding = r.asked;
          from = r.heard.received.from;
          life = r.heard.received.life;
          epoch = r.heard.epoch;
          number = sym r.number;
          first = ap (λ z. cs.is_refusal z && cs.reasserts q.body) (sym e) ∙ r.kept;
          concerns = f;
        }

  refused_says : (now : Stamp) (v : Turn) (y : ClientSession) (q : Request) (m : Message) (o : Operation) (w : Why) (a b : ℕ) (answer : AppAnswer) →
      input ≡ inputs.Control m → Old v.here → Replied now m.header m.body v y q → m.body ≡ bodies.Nack w a b → Has (o.op, o.ask) start →
      Refuses v (cs.file_asked y.cutting q.body) q.body o w a b answer → Says o.op answer
  refused_says now v y q m o _ a b _ i old r e k (walk.HasNoFile _ _ ino f p) =
      inr (a, b, refusal_said now v y q m o why.NoFile a b i old r e k IsOfFile (ino, f, p))
  refused_says now v y q m o _ a b _ i old r e k (walk.HasTooManyLocks _ _ ino f p) =
      (a, b, refusal_said now v y q m o why.TooManyLocks a b i old r e k IsOfFile (ino, f, p))
  refused_says now v y q m o _ a b _ i old r e k (walk.HasNoSpace _ _ ino p f g z) =
      refusal_said now v y q m o why.NoSpace a b i old r e k IsOfPage (ino, p, f, g, z)
  refused_says now v y q m o _ a b _ i old r e k (walk.IsNoHolder _ _ f p) =
      let z = and_true (cs.is_of v.here.server o) (cs.is_asked_at o.stage) p in
      (a, b, refusal_said now v y q m o why.NotHolder a b i old r e k IsAskedOf (f, server_is v.here.server o z.0))

  waits_so : (v : Turn) (x : PageCommand) (o : Operation) → WaitsFor v x o → Waits v.here.server x o.ask
  waits_so v x o (Reads k e) = inl (k, e)
  waits_so v x o (Syncs n k e) = let z = and_true (cs.is_on v.here.server x.ino o) (cs.is_sync o.ask) e in inr (n, (k, (z.0, z.1)))

  fault_said : (v : Turn) (number : ℕ) (x : PageCommand) (o : Operation) → input ≡ inputs.Done number None → There v.here → IsOutstanding number v x →
      Has (o.op, o.ask) start → WaitsFor v x o → IsFault o.op x.number
  fault_said v number x o i y z k u =
      let f = y x (found_at (pages.is_numbered number) v.here.store.commands x z.there).1 in
      record {
        ask = o.ask;
        known = k;
        ends = i ∙ ap (λ n. inputs.Done n None) (sym z.numbered);
        association = f.0;
        among = f.1.0;
        command = x;
        there = f.1.1.1;
        numbered = refl;
        waits = subst (λ s. Waits s x o.ask) (sym f.1.1.0) (waits_so v x o u);
      }

  module _ (s : ClientState) (now : Stamp) (right : EpochsRight t) (site : WorldClient) (at : site_of t c ≡ Some site) (is : site.node.state ≡ s)
      (had : before ≡ s.associations) (from : start ≡ map key s.operations ++ coming input) (tells : Tells (λ op ask. Unit {0}) (Within t) input) where
    abbrev Known : ℕ → Ask → Type 0
    Known op ask = Has (op, ask) start

    abbrev Cuts : Ask → Type 0
    Cuts a = cs.is_cut_or_name a ≡ true

    abbrev Free : ℕ → Type 0
    Free op = Unit {0}

    silent_says : (out : List Output) (o : Output) → IsSilent o → All out → All (out ++ o ∷ [])
    silent_says out o e h =
        subst (AllFit Fits) (sym (given_last c out o ∙ (ap (λ gs. given_by c out ++ gs) (silent_none o e) ∙ append-nil (given_by c out)))) h

    abbrev Both : Association → Type 0
    Both a = There a × Old a

    -- the server of an ask that isn't configured
    unknown_said : (op : ℕ) (ask : Ask) → input ≡ inputs.App op ask → cl.is_configured (cl.losses (client_turn s []) now).state (cs.server_of ask) ≡ false →
        IsUnknown op
    unfolding cl.losses cs.at_each
    unknown_said op ask i f =
        record {
          ask = ask;
          known =
              subst (Has (op, ask)) (sym (from ∙ ap (λ j. map key s.operations ++ coming j) i))
              (has_right (map key s.operations) ((op, ask) ∷ []) (op, ask) (inl refl));
          none =
              λ a j. (none_with now (cs.server_of ask) s.associations (cs.with_associations [] (client_turn s []))
              (λ b l. none_passes (cs.is_at (cs.server_of ask)) (cl.losses (client_turn s []) now).state.associations f b l)).1 a (subst (Has a) had j);
        }

    losses : KeepsLosses Known Free Cuts (λ a e. e) (Within t) Both All now
    losses =
        record {
          silent = silent_says;
          plain = λ out op a e h. one_says out op a (plain_says op a e) h;
          uncertain = λ out v o n k a d f h.
              one_says out o.op (answers.Uncertain n 0)
              (record { ask = o.ask; known = k; cut = d; old = subst (λ y. Within t y n) (server_is v o a) f; new = inl refl }) h;
          quiesced = λ out o k u h. one_says out o.op answers.Quiesced tt h;
        }

    keeps : Keeps Known Free Cuts (λ a e. e) (Within t) Both All now input (cl.losses (client_turn s []) now)
    keeps =
        record {
          comes = λ op ask i. tt;
          silent = silent_says;
          plain = λ out op a e h. one_says out op a (plain_says op a e) h;
          quiesced = λ out o k u n h. one_says out o.op answers.Quiesced tt h;
          newer = λ out v o n m k a d f g l h.
              one_says out o.op (answers.Uncertain n m)
              (record {
                ask = o.ask;
                known = k;
                cut = d;
                old = subst (λ y. Within t y n) (server_is v o a) f;
                new = inr (l, subst (λ y. Within t y m) (server_is v o a) g);
              }) h;
          full = λ op ask i f h. one_says (cl.losses (client_turn s []) now).out op answers.OpsFull tt h;
          unknown = λ op ask i f h. one_says (cl.losses (client_turn s []) now).out op answers.NoFile (inl (unknown_said op ask i f)) h;
          refused = λ out v z q m o w a b answer i y r e k u h. one_says out o.op answer (refused_says now v z q m o w a b answer i y.1 r e k u) h;
          failed = λ out v number x o i y z k u h. one_says out o.op (answers.DiskFault x.number) (fault_said v number x o i y.0 z k u) h;
        }

    asks_known : (i : ClientInput) → start ≡ map key s.operations ++ coming i → Tells (λ op ask. Unit {0}) (Within t) i → Tells Known (Within t) i
    asks_known (inputs.App op ask) e f = subst (Has (op, ask)) (sym e) (has_right (map key s.operations) ((op, ask) ∷ []) (op, ask) (inl refl))
    asks_known (inputs.Control m) e f = f
    asks_known inputs.Tick e f = tt
    asks_known (inputs.Done number r) e f = tt

    pub all_say : All (cl.client_step s now input).out
    all_say =
        (stepped Known Free Cuts (λ a e. e) (Within t) Both All now s input losses keeps (λ a. (λ x i. absurd i, λ y q. cc q))
        (λ a i. (
          (subst (λ (y : ClientState). (b : Association) → Has b y.associations → SessionIn (Within t) b.server b.session) is
              (right.clients c site at).sessions) a i,
          (λ x j. (a, (subst (Has a) (sym had) i, (refl, j))), λ y q. subst (Has a) (sym had) i),
        ))
        (λ o i. (
          subst (Has (key o)) (sym from) (has_left (map key s.operations) (coming input) (key o) (has_map_in key s.operations o i)),
          record {
            sent = (subst (λ (y : ClientState). (p : Operation) → Has p y.operations → cs.is_sent p ≡ true → cs.is_cut_or_name p.ask ≡ true) is
                (right.clients c site at).sent) o i;
            unsent = λ e. tt;
          },
        ))
        tt (asks_known input from tells)).kept

-- what the input of a client tells at an event
pub input_tells : (t : World) (e : Event) → EpochsRight t → (c : ClientId) (site : WorldClient) (i : ClientInput) → TakesAt t e c site i →
    Tells (λ op ask. Unit {0}) (Within t) i
input_tells t e right c site _ (ByTick f) = tt
input_tells t e right c site _ (ByAsk ask f) = tt
input_tells t e right c site _ (ByMessage k m f q z) =
    λ s from. right.messages m.message (has_map_in message_in t.net.messages m (numbered_has t.net.messages k m q)) s from
input_tells t e right c site _ (ByReport k ok y r f q a s d) = tt
