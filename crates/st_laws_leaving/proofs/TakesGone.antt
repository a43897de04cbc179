-- A client takes an input: who has left has nothing, and who leaves has nothing from then on.
use Rattle.st_lemmas.proofs.Words
use Words.{◌≡◌, ◌≤◌, ◌⊎◌, ℕ, Bool, true, false, not, List, [], ◌∷◌, ◌++◌, map, Some, refl, sym, ap, ◌∙◌, subst, inl, inr, arith, append-nil, append_assoc, eq-eqb}
use Words.{Body, ClientId, Message, Output, ServerId}
use Words.bodies
use Words.outputs
use Words.Client as plain
use Words.ClientState.{Association, ClientSession, ClientState}
use Words.Events as ev
use Words.Events.{quiet}
use Words.Keys.{server_node}
use Words.Lists.{Has}
use Words.Numbers.{numbered_below}
use Words.Server.{ServerNode}
use Words.Tables.{and_both, has_append, has_filter, has_map, not_true}
use Words.Truth.{clash, false_not_true, server_is}
use Words.World.{WorldClient, node_of, numbered, site_of}
use Rattle.st_rules.specs.declared.observation.Observation.TheVariants as plain_seen
use Rattle.st_rules.specs.Safety.{ask_of}
use Rattle.st_third.specs.declared.beside.Leave.{Leave}
use Rattle.st_third.specs.declared.event.ThirdEvent.{ThirdEvent}
use Rattle.st_third.specs.declared.event.ThirdInput.{ThirdInput}
use Rattle.st_third.specs.declared.observation.ThirdObservation.{ThirdObservation}
use Rattle.st_third.specs.declared.observation.ThirdObservation.TheVariants as seen
use Rattle.st_third.specs.declared.output.ThirdOutput.{ThirdOutput}
use Rattle.st_third.specs.declared.output.ThirdOutput.TheVariants as says
use Rattle.st_third.specs.Events as every
use Rattle.st_third.specs.Events.{ThirdWorldTurn, unseen}
use Rattle.st_third.specs.Promises.{Leaver, asks_again, is_greeting, leaver, left_along, server_left}
use Rattle.st_third.specs.State.{ClientBeside, ThirdClientTurn}
use Rattle.st_third.specs.Steps.{ThirdStep, plain_step}
use Rattle.st_third.specs.World.{ThirdWorld, beside_of}
use Rattle.st_laws_third.specs.Changes.{Heard, HeardLeave, HeardMessage}
use Rattle.st_laws_third.specs.Living.{heard_in}
use Rattle.st_laws_third.proofs.DemandsSeen.{People}
use Rattle.st_laws_third.proofs.EventWalk.{Client_step, ClientTakes}
use Rattle.st_laws_third.proofs.Sound.{Sound}
use Rattle.st_laws_third.proofs.Told as told
use Rattle.st_laws_third.proofs.Told.{SeenOf, plain_seen_of}
use Rattle.st_laws_leaving.specs.Going.{AtLeft, IsWelcomed, LeftOf, LeftsOf}
use Rattle.st_laws_leaving.specs.Leavers.{AllGone, AllHome, HasHome, IsGone}
use Rattle.st_laws_leaving.specs.Quiet.{AtClient, Between, HasBegun, IsSent, IsTo, OnItsWay, Standing}
use Rattle.st_laws_leaving.specs.Serving.{IsCalm, IsHarmless}
use Rattle.st_laws_leaving.proofs.Along.{IsOther, along_both, along_neutral, neutral_of}
use Rattle.st_laws_leaving.proofs.Betweens.{calm_or}
use Rattle.st_laws_leaving.proofs.Posts.{ClientSays, Post, took_post}
use Rattle.st_laws_leaving.proofs.TakesStanding.{goes, heard}

-- a greeting is calm
greeting_calm : (b : Body) → is_greeting b ≡ true → IsCalm b
greeting_calm bodies.Hello e = tt
greeting_calm b e = absurd (false_not_true e)

module _ (e : ThirdEvent) (w : ThirdWorld) (so : Sound w) (pe : People w) (st : Standing w.world) (c : ClientId) (old site : WorldClient) (b : ClientBeside)
    (input : ThirdInput) (there : site_of w.world c ≡ Some old) (same : site.node ≡ old.node) (beside : beside_of w c ≡ Some b)
    (why : ClientTakes w c old e site input) (up : site.node.running ≡ true) (past : List ThirdStep) (x : ThirdStep)
    (asked : (l : Leave) → (Has l b.leaves) ⊎ (heard_in input ≡ Some (HeardLeave l)) →
    server_left (ask_of (map plain_step past) (plain_step x) c l.op) ≡ l.server)
    (ls : List Leaver) (all : AllGone w.world ls) where
  abbrev Turn : ThirdClientTurn
  Turn = Client_step w c site b input

  abbrev Took : ThirdWorldTurn
  Took = every.client_took w c site Turn

  abbrev got : Heard
  got = heard_in input

  state_same : site.node.state ≡ old.node.state
  state_same = ap (λ (n : plain.ClientNode). n.state) same

  runs : old.node.running ≡ true
  runs = ap (λ (z : plain.ClientNode). z.running) (sym same) ∙ up

  heard_it : (m : Message) → got ≡ Some (HeardMessage m) → (IsSent w.world m) × (m.header.to ≡ c.0)
  heard_it = heard e w so pe st c old site b input there same beside why

  -- Who has left, and what it said so far.
  record SaidTo (l : Leaver) (before : List ThirdOutput) : Type 0 where
    gone : IsGone w.world l
    home : AllHome w.world ls → HasHome w.world l.client l.server
    calm : (node : ServerNode) → node_of w.world l.server ≡ Some node → (m : Message) → Has (says.Plain (outputs.Send m)) before → IsTo l.client l.server m →
        IsCalm m.body

  -- Who leaves has asked for nothing in its session.
  module _ (a : Association) (h : Has a site.node.state.associations) (before : List ThirdOutput) (op : ℕ) (z : AtLeft got b.leaves a before op) where
    bt : (node : ServerNode) → node_of w.world a.server ≡ Some node → Between w.world c old a node
    bt node at = st.between c.0 old a node there (subst (λ (s : ClientState). Has a s.associations) state_same h) at

    begun : (node : ServerNode) → node_of w.world a.server ≡ Some node → (z.middle.life.0 ≡ a.life.0) × (HasBegun w.world c a node)
    begun node at = go (z.went.begun z.session z.is)
      where
        go : (((s : ClientSession) × (a.session ≡ Some s)) × (z.middle.life.0 ≡ a.life.0)) ⊎ (IsWelcomed got a.server z.middle.life.0) →
            (z.middle.life.0 ≡ a.life.0) × (HasBegun w.world c a node)
        go (inl y) = (y.1, AtClient y.0.0 y.0.1)
        go (inr y) =
            let m = heard_it y.message y.heard.0 in
            let l = (bt node at).welcomes y.message m.0 y.heard.1 m.1 y.welcome in
            let o = y.of_life in
            let k = z.went.life in
            let i : z.middle.life.0 ≡ a.life.0 = omega (arith, l, o, k) in
            (i, OnItsWay y.message m.0 y.heard.1 m.1 y.welcome (o ∙ i))

    left_here : SaidTo (record { client = c; server = a.server }) before
    left_here =
        record {
          gone =
              record {
                low = (numbered_below w.world.clients c.0 old there).0;
                few = pe.few c.0 old there;
                quiet = λ node at. let y = begun node at in (bt node at).quiet runs (z.went.unasked z.unasked y.0) y.1;
                epochs = λ node at m i t. epochs node at m i t (calm_or m.body);
              };
          home =
              λ homes. record {
                site = old;
                there = there;
                association = a;
                has = subst (λ (s : ClientState). Has a s.associations) state_same h;
                is = refl;
              };
          calm = λ node at m i t. calm node at m i t (begun node at).0;
        }
      where
        epochs : (node : ServerNode) → node_of w.world a.server ≡ Some node → (m : Message) → IsSent w.world m → IsTo c a.server m →
            (IsCalm m.body) ⊎ (m.body ≡ bodies.Hello → ⊥) → (IsCalm m.body) ⊎ (m.header.epoch ≤ node.state.stable.epoch.0)
        epochs node at m i t (inl y) = inl y
        epochs node at m i t (inr ne) = inr ((bt node at).epochs m i t ne)

        calm : (node : ServerNode) → node_of w.world a.server ≡ Some node → (m : Message) → Has (says.Plain (outputs.Send m)) before → IsTo c a.server m →
            z.middle.life.0 ≡ a.life.0 → IsCalm m.body
        calm node at m i t l =
            let y = z.went.sent m i t.1 in
            let p = y.since in let q = y.until in z.went.calm z.unasked m i t.1 (omega (arith, p, q, l))

    left_said : SaidTo (leaver past x c op) before
    left_said =
        subst (λ (s : ServerId). SaidTo (record { client = c; server = s }) before)
        (sym (server_is z.leave.server a.server z.of_server)
        ∙ sym (asked z.leave z.pending)
        ∙ ap (λ n. server_left (ask_of (map plain_step past) (plain_step x) c n)) z.number)
        left_here

  -- one more word
  more_said : (l : Leaver) (before : List ThirdOutput) (o : ThirdOutput) →
      ((m : Message) → says.Plain (outputs.Send m) ≡ o → IsTo l.client l.server m → IsCalm m.body) →
      SaidTo l before → SaidTo l (before ++ o ∷ [])
  more_said l before o f y =
      record { gone = y.gone; home = y.home; calm = λ node at m h t. go node at m t (has_append before (o ∷ []) (says.Plain (outputs.Send m)) h) }
    where
      go : (node : ServerNode) → node_of w.world l.server ≡ Some node → (m : Message) → IsTo l.client l.server m →
          (Has (says.Plain (outputs.Send m)) before) ⊎ (Has (says.Plain (outputs.Send m)) (o ∷ [])) → IsCalm m.body
      go node at m t (inl h) = y.calm node at m h t
      go node at m t (inr (inl q)) = f m q t
      go node at m t (inr (inr h)) = absurd h

  abbrev LeftIn : List ThirdObservation → List Leaver
  LeftIn os = left_along past x ls os

  -- a word that is neither a message nor `left`
  other : (before : List ThirdOutput) (o : ThirdOutput) (os new : List ThirdObservation) → IsOther o → ((y : ThirdObservation) → Has y new → SeenOf c o y) →
      ((l : Leaver) → Has l (LeftIn os) → SaidTo l before) → (l : Leaver) → Has l (LeftIn (os ++ new)) → SaidTo l (before ++ o ∷ [])
  other before o os new q seen_of f l h =
      more_said l before o (λ m i t. absurd (no m o i q))
      (f l (subst (Has l) (along_both past x ls os new ∙ along_neutral past x (LeftIn os) new (λ y i. neutral_of c o y (seen_of y i) q)) h))
    where
      no : (m : Message) (o : ThirdOutput) → says.Plain (outputs.Send m) ≡ o → IsOther o → ⊥
      no m o i q = subst IsOther (sym i) q

  message_of_send : (m y : Message) → says.Plain (outputs.Send y) ≡ says.Plain (outputs.Send m) → y ≡ m
  message_of_send m y e = cc e

  -- who doesn't ask again only greets
  greets : (m : Message) (l : Leaver) → not (asks_again m l) ≡ true → IsTo l.client l.server m → IsCalm m.body
  greets m l e t = go (is_greeting m.body) refl
    where
      go : (g : Bool) → is_greeting m.body ≡ g → IsCalm m.body
      go true q = greeting_calm m.body q
      go false q =
          absurd (clash
          (and_both _ _ (eq-eqb m.header.from l.client.0 t.0) (and_both _ _ (eq-eqb m.header.to (server_node l.server) t.1) (ap not q)))
          (not_true (asks_again m l) e))

  word : (before : List ThirdOutput) (o : ThirdOutput) (sc : ThirdWorldTurn) → LeftOf got b.leaves site.node.state.associations before o →
      ((l : Leaver) → Has l (LeftIn sc.seen) → SaidTo l before) → (l : Leaver) → Has l (LeftIn (every.client_says sc c site.node.state o).seen) →
      SaidTo l (before ++ o ∷ [])
  unfolding every.client_says ev.client_says ev.sends left_along
  word before (says.Left op) sc z f l h =
      go (has_append (LeftIn sc.seen) (leaver past x c op ∷ []) l (subst (Has l) (along_both past x ls sc.seen (seen.Left c op ∷ [])) h))
    where
      none : (m : Message) → says.Plain (outputs.Send m) ≡ says.Left op → IsTo l.client l.server m → IsCalm m.body
      none m e t = absurd (no e)
        where
          no : says.Plain (outputs.Send m) ≡ says.Left op → ⊥
          no e = cc

      go : (Has l (LeftIn sc.seen)) ⊎ (Has l (leaver past x c op ∷ [])) → SaidTo l (before ++ says.Left op ∷ [])
      go (inl i) = more_said l before (says.Left op) none (f l i)
      go (inr (inl q)) = more_said l before (says.Left op) none (subst (λ k. SaidTo k before) (sym q) (left_said z.0 z.1.0 before op z.1.1))
      go (inr (inr i)) = absurd i
  word before (says.Plain (outputs.Send m)) sc z f l h =
      let i = has_filter (λ k. not (asks_again m k)) (LeftIn sc.seen) l
      (subst (Has l) (along_both past x ls sc.seen (seen.Plain (plain_seen.Sent _ m) ∷ [])) h) in
      more_said l before (says.Plain (outputs.Send m)) (λ y q t. let k = message_of_send m y q in
      subst (λ (n : Message). IsCalm n.body) (sym k) (greets m l i.1 (subst (IsTo l.client l.server) k t))) (f l i.0)
  word before (says.Plain (outputs.Submit number at what)) sc z f l h =
      other before (says.Plain (outputs.Submit number at what)) sc.seen _ tt (plainly (outputs.Submit number at what) sc) f l h
    where
      plainly : (o : Output) (sc : ThirdWorldTurn) (y : ThirdObservation) →
          Has y (map every.plain_seen (ev.client_says (quiet sc.third.world) c site.node.state o).seen) → SeenOf c (says.Plain o) y
      plainly o sc y i =
          let k = has_map every.plain_seen (ev.client_says (quiet sc.third.world) c site.node.state o).seen y i in
          subst (SeenOf c (says.Plain o)) (sym k.2) (plain_seen_of (quiet sc.third.world) c site.node.state o k.0 refl k.1)
  word before (says.Plain (outputs.Answer op a)) sc z f l h =
      other before (says.Plain (outputs.Answer op a)) sc.seen _ tt (plainly (outputs.Answer op a) sc) f l h
    where
      plainly : (o : Output) (sc : ThirdWorldTurn) (y : ThirdObservation) →
          Has y (map every.plain_seen (ev.client_says (quiet sc.third.world) c site.node.state o).seen) → SeenOf c (says.Plain o) y
      plainly o sc y i =
          let k = has_map every.plain_seen (ev.client_says (quiet sc.third.world) c site.node.state o).seen y i in
          subst (SeenOf c (says.Plain o)) (sym k.2) (plain_seen_of (quiet sc.third.world) c site.node.state o k.0 refl k.1)
  word before (says.Plain (outputs.Note n)) sc z f l h =
      other before (says.Plain (outputs.Note n)) sc.seen _ tt (plainly (outputs.Note n) sc) f l h
    where
      plainly : (o : Output) (sc : ThirdWorldTurn) (y : ThirdObservation) →
          Has y (map every.plain_seen (ev.client_says (quiet sc.third.world) c site.node.state o).seen) → SeenOf c (says.Plain o) y
      plainly o sc y i =
          let k = has_map every.plain_seen (ev.client_says (quiet sc.third.world) c site.node.state o).seen y i in
          subst (SeenOf c (says.Plain o)) (sym k.2) (plain_seen_of (quiet sc.third.world) c site.node.state o k.0 refl k.1)
  word before (says.Unsynced op ino) sc z f l h =
      other before (says.Unsynced op ino) sc.seen (seen.Unsynced c op ino ∷ []) tt (λ y i. one y i) f l h
    where
      one : (y : ThirdObservation) → Has y (seen.Unsynced c op ino ∷ []) → SeenOf c (says.Unsynced op ino) y
      one y (inl q) = subst (SeenOf c (says.Unsynced op ino)) (sym q) (told.IsUnsynced op ino)
      one y (inr i) = absurd i
  word before (says.Ended s life end) sc z f l h =
      other before (says.Ended s life end) sc.seen (seen.Ended c s life ∷ []) tt (λ y i. one y i) f l h
    where
      one : (y : ThirdObservation) → Has y (seen.Ended c s life ∷ []) → SeenOf c (says.Ended s life end) y
      one y (inl q) = subst (SeenOf c (says.Ended s life end)) (sym q) (told.Ends s life end)
      one y (inr i) = absurd i

  words : (before os : List ThirdOutput) (sc : ThirdWorldTurn) → LeftsOf got b.leaves site.node.state.associations before os →
      ((l : Leaver) → Has l (LeftIn sc.seen) → SaidTo l before) → (l : Leaver) → Has l (LeftIn (every.client_says_all c site.node.state os sc).seen) →
      SaidTo l (before ++ os)
  unfolding every.client_says_all
  words before [] sc z f l h = subst (SaidTo l) (sym (append-nil before)) (f l h)
  words before (o ∷ os) sc z f l h =
      subst (SaidTo l) (append_assoc before (o ∷ []) os)
      (words (before ++ o ∷ []) os (every.client_says sc c site.node.state o) z.1 (λ k i. word before o sc z.0 f k i) l h)

  all_said : (l : Leaver) → Has l (LeftIn Took.seen) → SaidTo l Turn.out
  unfolding every.client_took left_along
  all_said l h =
      words [] Turn.out (unseen (every.with_client c site Turn.client w)) (goes e w so pe st c old site b input there same beside why).lefts
      (λ k i. record { gone = all k i; home = λ homes. homes k i; calm = λ node at m j t. absurd j }) l h

  pub takes_home : AllHome w.world ls → AllHome w.world (LeftIn Took.seen)
  takes_home homes l h = (all_said l h).home homes

  pub takes_gone : AllGone Took.third.world (LeftIn Took.seen)
  takes_gone l h =
      let y = all_said l h in
      let p = took_post w c site Turn in
      record {
        low = y.gone.low;
        few = y.gone.few;
        quiet =
            λ node at. let at2 : node_of w.world l.server ≡ Some node = ap (λ xs. numbered xs l.server.0) (sym p.servers) ∙ at in
            let q = y.gone.quiet node at2 in
            record { nothing = q.nothing; harmless = λ run m i t. harmless y p node at2 run m t (p.sent m i) };
        epochs =
            λ node at m i t. epochs y p node (ap (λ xs. numbered xs l.server.0) (sym p.servers) ∙ at) m t (p.sent m i);
      }
    where
      harmless : SaidTo l Turn.out → Post w.world Took.third.world (ClientSays Turn.out) → (node : ServerNode) → node_of w.world l.server ≡ Some node →
          node.running ≡ true → (m : Message) → IsTo l.client l.server m → (IsSent w.world m) ⊎ (ClientSays Turn.out m) →
          IsHarmless node.state l.client m
      harmless y p node at run m t (inl j) = (y.gone.quiet node at).harmless run m j t
      harmless y p node at run m t (inr j) = inl (y.calm node at m j t)

      epochs : SaidTo l Turn.out → Post w.world Took.third.world (ClientSays Turn.out) → (node : ServerNode) → node_of w.world l.server ≡ Some node →
          (m : Message) → IsTo l.client l.server m → (IsSent w.world m) ⊎ (ClientSays Turn.out m) →
          (IsCalm m.body) ⊎ (m.header.epoch ≤ node.state.stable.epoch.0)
      epochs y p node at m t (inl j) = y.gone.epochs node at m j t
      epochs y p node at m t (inr j) = inl (y.calm node at m j t)
