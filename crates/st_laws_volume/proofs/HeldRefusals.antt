-- In every run no server refuses a cut with `notholder`. If it refuses a remove so, the ask of that
-- request means a file other than the one that has the name.
use Rattle.st_lemmas.proofs.Words
use Words.{◌≡◌, ◌≢◌, ◌⊎◌, ℕ, ◌+◌, ◌-◌, ◌≤◌, arith, true, false, not, ◌&&◌, ◌==◌, List, [], ◌∷◌, ◌++◌, Some, Ok, refl, sym, ap, ◌∙◌, subst, inl, inr}
use Words.{bytes_eq, eq-eqb, ne_eqb, Ask, Body, ClientId, Event, GrantNo, Header, Message, NameOp, ServerId, Stamp}
use Words.asks
use Words.bodies
use Words.modes
use Words.ops
use Words.serving.{Control}
use Words.takes
use Words.why
use Words.ClientPasses.{name_op}
use Words.ClientState.{asks_cut_or_name, asks_cut_or_remove}
use Words.Events.{WorldTurn, world_step}
use Words.History.{Traced, traced, traced_after}
use Words.Keys.{client}
use Words.Lists.{Has}
use Words.Locks.{row_of}
use Words.Names as server_names
use Words.Numbers.{numbered_has}
use Words.Safety.{IsHead, Step, step}
use Words.Server as sv
use Words.Server.{ServerNode, ServerTurn, Stable}
use Words.Sessions as sessions
use Words.Tables.{and_both, has_append, has_map_in, same_or_not}
use Words.Truth.{clash}
use Words.World.{World, fresh_world, numbered}
use Rattle.std.proofs.lemmas.Slice.Eq.{bytes_eq-Decides}
use Rattle.st_base.specs.declared.config.Config.{Config}
use Rattle.st_base.specs.declared.names.NameAsk.TheVariants as names
use Rattle.st_base.specs.Mode.{covers, number_of}
use Rattle.st_protocol.specs.Assoc as net
use Rattle.st_promises.specs.Safe.{EveryRunIsSafe}
use Rattle.st_lemmas.proofs.Steps.{step_happens}
use Rattle.st_trace.proofs.Server.Taking.{FreshState, Found, found_for, fresh_state}
use Rattle.st_laws_pages.specs.LockedCuts.CutLocks.{WaitsHold}
use Rattle.st_laws_pages.proofs.Disks.Whole.{fresh_waits}
use Rattle.st_laws_pages.proofs.LockedCuts.CutLaw.{steps_lock_cuts}
use Rattle.st_laws_refine.specs.Server.Pair.{terms_of}
use Rattle.st_laws_leases.specs.Dates.Dates.{message_in, messages}
use Rattle.st_laws_leases.proofs.Sides.Waiting.{waits_owed}
use Rattle.st_laws_requests.specs.Cuts.Cuts.{Keyed, asks_of}
use Rattle.st_laws_requests.specs.Replies.ServedRequests.{FindsNew, IsBehind, Reached}
use Rattle.st_laws_extents.specs.CutRequests.EndedLives.{IsPast}
use Rattle.st_laws_extents.specs.CutRequests.Law.{gifts}
use Rattle.st_laws_extents.specs.CutRequests.NamedGrants.{Given}
use Rattle.st_laws_extents.proofs.CutRequests.Standing.{given_row, named}
use Rattle.st_laws_cuts.specs.EndedRequests.{MeansTo}
use Rattle.st_laws_cuts.proofs.Law.{AllHold}
use Rattle.st_laws_cuts.proofs.Words.{asked_more}
use Rattle.st_laws_names.specs.Keys.{ServedAt, behind_thefts, now_at}
use Rattle.st_laws_names.specs.OutstandingKeys.{SameKey}
use Rattle.st_laws_names.proofs.Behind.{Behind, behind, not_past}
use Rattle.st_laws_names.proofs.Facts.{FactsHold}
use Rattle.st_laws_names.proofs.Keys.{key_back, keyed_same}
use Rattle.st_laws_names.proofs.Rows.{worlds_on}
use Rattle.st_laws_names.proofs.Waiting.{Row}
use Rattle.st_laws_names.proofs.World.{Asked}
use Rattle.st_laws_names.proofs.World as once
use Rattle.st_laws_volume.specs.HeldCuts.{CutFilesAreHeld, is_cut}
use Rattle.st_laws_volume.specs.Logs.{InEveryRun}
use Rattle.st_laws_volume.specs.NotHolderAnswers.{IsUnheld}
use Rattle.st_laws_volume.specs.Refusals.{removes_other}
use Rattle.st_laws_volume.specs.Witness.{Witness, begun, led_by, same_text}
use Rattle.st_laws_volume.proofs.AnswerFacts as facts_of
use Rattle.st_laws_volume.proofs.AnswerFacts.{known_in}
use Rattle.st_laws_volume.proofs.Carried.{IsGiven, given_in}
use Rattle.st_laws_volume.proofs.EarlierRequests.{earlier}
use Rattle.st_laws_volume.proofs.FileReplies.{answers, removes_not}
use Rattle.st_laws_volume.proofs.FileReplies as replied
use Rattle.st_laws_volume.proofs.HeldRequests.{AllHeld, HeldFor, HeldRow, PastOrHeld, Under, held_on}
use Rattle.st_laws_volume.proofs.NotHolderAnswers.{lacks_lock}
use Rattle.st_laws_volume.proofs.RequestGrants.{AllNamed, GrantsHold, NamesGrant, grants_begin, grants_kept}
use Rattle.st_laws_volume.proofs.RowsStay.{RowStands, row_behind}
use Rattle.st_laws_volume.proofs.TreeAnswers.{there}
use Rattle.st_laws_volume.proofs.Trees.{TreesHold, trees_begin, trees_kept}
use Rattle.st_laws_volume.proofs.TreeTurns.{thefts_stable}
use Rattle.st_laws_volume.proofs.TreeWorld.{AllSound}

-- Requests.
own_change : (b : Body) → asks_cut_or_remove b ≡ true → asks_cut_or_name b ≡ true
own_change (bodies.Cut ino g from) q = refl
own_change (bodies.Name op) q = refl
own_change b q = cc q

finds_new : (t : ServerTurn) (now : Stamp) (h : Header) (b : Body) → asks_cut_or_remove b ≡ true → FindsNew t now h b
finds_new t now h (bodies.Cut ino g from) q = tt
finds_new t now h (bodies.Name op) q = tt
finds_new t now h (bodies.Reassert rows) q = cc q
finds_new t now h b q = cc q

-- A refused remove: the operation that waited under its key, whose ask doesn't mean this file.
pub record OtherMeant (past : List Step) (w : World) (c : ClientId) (s : ServerId) (life epoch number ino : ℕ) (body : Body) : Type 0 where
  pub op : ℕ
  pub k : Asked past w c op
  pub same : SameKey k.server s k.life_ k.epoch_ k.number_ life epoch number
  pub ask : Ask
  pub asked : numbered (asks_of past c) op ≡ Some ask
  pub dir : ℕ
  pub name : List ℕ
  pub g : GrantNo
  pub is : body ≡ bodies.Name (ops.Remove dir name g)
  pub other : removes_other s dir name ino ask ≡ true

-- each such refusal of a cut or a remove at a step, and at each of these
abbrev pub AllMeantAt : List Step → World → Step → Type 0
AllMeantAt past w y =
    (c : ClientId) (s : ServerId) (life epoch number ino n : ℕ) (z : ServedAt y c s life epoch number (bodies.Nack why.NotHolder ino n)) →
    asks_cut_or_remove z.sent.message.body ≡ true → OtherMeant past w c s life epoch number ino z.sent.message.body

abbrev pub AllMeant : List Step → World → Type 0
AllMeant past w = (y : Step) → Has y past → AllMeantAt past w y

-- Such a refusal in an event.
module _ (k : net.Config) (count : ℕ) (past : List Step) (t : Traced) (e : Event) (sc : WorldTurn) (facts : FactsHold k count past t)
    (named_ : AllNamed past t.world) (fine : AllHeld t.world) (sound : AllSound t.world) (c : ClientId) (s : ServerId) (life epoch number ino n : ℕ)
    (z : ServedAt (step t e sc) c s life epoch number (bodies.Nack why.NotHolder ino n)) (own : asks_cut_or_remove z.sent.message.body ≡ true) where
  abbrev w : World
  w = t.world

  abbrev all : AllHold k count past t
  all = facts.changes_.names_.all

  abbrev m : Message
  m = z.sent.message

  abbrev node : ServerNode
  node = z.serves.old

  abbrev now : Stamp
  now = now_at w s

  abbrev T : ServerTurn
  T = behind_thefts w s node.state

  abbrev G : ℕ → GrantNo → Type 0
  G = gifts k count w all.base.all c s

  among : Has m (messages w)
  among = has_map_in message_in w.net.messages z.sent (numbered_has w.net.messages z.index z.sent z.is)

  from : client m.header.from ≡ c
  from = ap (λ i. record { 0 = i }) z.serves.keyed.between.0

  by : Behind past (gifts k count w all.base.all (client m.header.from) s) w s m
  by = behind k count past t all facts.changes_.rows s node z.serves.was z.serves.running m among z.serves.served (own_change m.body own)

  own_ask : numbered (asks_of past c) by.op ≡ Some by.ask
  own_ask = subst (λ (d : ClientId). numbered (asks_of past d) by.op ≡ Some by.ask) from by.asked

  own_row : Row past w c s m by.op
  own_row = subst (λ (d : ClientId). Row past w d s m by.op) from by.row

  means : MeansTo G s by.ask m.body
  means = subst (λ (d : ClientId). MeansTo (gifts k count w all.base.all d s) s by.ask m.body) from by.to

  -- the session of the client, after the thefts
  session : Found T.state.sessions (sv.sender m.header) (sv.life_in m.header) (FreshState m.header.number)
  session =
      found_for T.state.sessions (sv.sender m.header) (sv.life_in m.header) (sv.epoch_in m.header) m.header.number takes.Fresh (FreshState m.header.number)
      z.serves.fresh (λ e. cc e) (λ e. cc e) (λ e. cc e) (λ x e. fresh_state m.header.number x e)

  never : IsBehind (sessions.session_of T.state.sessions c) m.header.life m.header.number → ⊥
  never p = go (subst (λ o. IsBehind o m.header.life m.header.number) is p)
    where
      is : sessions.session_of T.state.sessions c ≡ Some session.session
      is = ap (sessions.session_of T.state.sessions) (sym from) ∙ session.is

      go : IsBehind (Some session.session) m.header.life m.header.number → ⊥
      go (inl l) = let y = session.of_life in omega (arith, y, l)
      go (inr l) = let y = subst (Reached m.header.number) session.state.is l.1 in let q = session.state.next in omega (arith, y, q)

  -- the client has the file under the grant that it names
  holds : (i : ℕ) (g : GrantNo) → HeldRow w c s m i g → sv.holds T m.header i g modes.X ≡ true
  holds i g r =
      go (row_behind node.state now (Control m) (Under g) c i m.header.life (m.header.number - 1) m.header.number (before (r.before node z.serves.was))
      (omega arith) (finds_new T now m.header m.body own) (r.row node z.serves.was))
    where
      before : IsPast c node (earlier m) → IsBehind (sessions.session_of node.state.sessions c) m.header.life (m.header.number - 1)
      before (inl l) = let y = z.serves.served.of_epoch in absurd (omega (arith, l, y))
      before (inr y) = y.1 z.serves.running

      there_ : RowStands (Under g) c i T.state.locks → sv.holds T m.header i g modes.X ≡ true
      there_ y =
          ap (λ d. sv.is_held g modes.X (row_of T.state.locks d i)) from
          ∙ (ap (sv.is_held g modes.X) y.is
          ∙ and_both (y.row.g.0 == g.0) (covers y.row.mode modes.X) (eq-eqb y.row.g.0 g.0 y.under) (ap (λ mode. covers mode modes.X) y.exclusive))

      go : IsBehind (sessions.session_of T.state.sessions c) m.header.life m.header.number
          ⊎ ((sessions.session_of T.state.sessions c ≡ sessions.session_of node.state.sessions c) × RowStands (Under g) c i T.state.locks) →
          sv.holds T m.header i g modes.X ≡ true
      go (inl p) = absurd (never p)
      go (inr y) = there_ y.1

  unheld : IsUnheld T m.header m.body
  unheld =
      lacks_lock T m.header ino n m.body own (sv.rule T now m.header m.body).reply (answers T now m.header m.body) z.serves.replied

  -- a remove
  module _ (dir : ℕ) (name : List ℕ) (g : GrantNo) (q : m.body ≡ bodies.Name (ops.Remove dir name g))
      (held : 1 ≤ g.0 → (i : ℕ) × HeldRow w c s m i g) where
    u : replied.IsUnder T m.header dir name g ino
    u = removes_not T now m.header m.body dir name g ino n q z.serves.replied

    same_names : T.state.stable.names ≡ node.state.stable.names
    same_names = ap (λ (y : Stable). y.names) (thefts_stable node.state now)

    -- no file has the inode 0
    above : ino ≡ 0 → ⊥
    above e =
        let x = there node.state.stable.names dir name ino (ap (λ y. server_names.lookup y dir name) (sym same_names) ∙ u.found) in
        let l = ((sound node (numbered_has w.servers s.0 node z.serves.was)).numbers x.entry x.has).0 in
        let y = x.its in
        omega (arith, l, y, e)

    key : Keyed c own_row.asked.server own_row.asked.life_ own_row.asked.epoch_ own_row.asked.number_ m
    key =
        keyed_same c s own_row.asked.server m.header.life m.header.epoch m.header.number own_row.asked.life_ own_row.asked.epoch_ own_row.asked.number_ m
        (key_back own_row.asked.server s own_row.asked.life_ own_row.asked.epoch_ own_row.asked.number_ m.header.life m.header.epoch m.header.number
        own_row.same)
        (record { between = z.serves.keyed.between; of_life = refl; of_epoch = refl; under = refl })

    -- its ask means another file
    differs : (r : ServerId) (d : ℕ) (l : List ℕ) (i : ℕ) (j : GrantNo) → numbered (asks_of past c) by.op ≡ Some (asks.Name r (names.Remove d l i)) →
        j ≡ g → (1 ≤ j.0 → G i j) → ino ≡ i → ⊥
    differs r d l i j a same of is = go (same_or_not i 0)
      where
        go : (i ≡ 0) ⊎ (i ≢ 0) → ⊥
        go (inl e) = above (is ∙ e)
        go (inr not_none) = clash (ap (λ x. sv.holds T m.header x g modes.X) (is ∙ one) ∙ holds h.0 g h.1) u.unheld
          where
            some : 1 ≤ g.0
            some =
                (subst (NamesGrant (asks.Name r (names.Remove d l i))) q
                (named_ c by.op own_row.asked m among key (asks.Name r (names.Remove d l i)) a)) not_none

            h : (i : ℕ) × HeldRow w c s m i g
            h = held some

            row : RowStands (Under g) c h.0 node.state.locks
            row = h.1.row node z.serves.was

            of_row : Given ((all.base.all.servers s.0 node z.serves.was).ghosts c.0).net h.0 g.0
            of_row =
                subst (Given ((all.base.all.servers s.0 node z.serves.was).ghosts c.0).net h.0) row.under
                (given_row k count w all.base.all s.0 node z.serves.was c.0 h.0 row.row row.is (let y = ap number_of row.exclusive in omega (arith, y)))

            of_ask : Given ((all.base.all.servers s.0 node z.serves.was).ghosts c.0).net i g.0
            of_ask = subst (G i) same (of (subst (λ (x : GrantNo). 1 ≤ x.0) (sym same) some)) node z.serves.was

            one : i ≡ h.0
            one = (named k count w all.base.all s.0 node z.serves.was c.0).net.one i h.0 g.0 of_ask of_row

    other : (a : Ask) → numbered (asks_of past c) by.op ≡ Some a → MeansTo G s a (bodies.Name (ops.Remove dir name g)) → removes_other s dir name ino a ≡ true
    other (asks.Name r (names.Remove d l i)) a y =
        and_both (r.0 == s.0) (same_text dir name d l && not (ino == i)) (eq-eqb r.0 s.0 (ap (λ (x : ServerId). x.0) y.0))
        (and_both (same_text dir name d l) (not (ino == i))
        (and_both (dir == d) (bytes_eq name l) (eq-eqb dir d (ap dir_of y.1.is)) ((bytes_eq-Decides name l).1 (ap name_of y.1.is)))
        (ap not (ne_eqb ino i (differs r d l i y.1.g a (sym (ap grant_of y.1.is)) y.1.of))))
      where
        dir_of : NameOp → ℕ
        dir_of (ops.Remove x y z) = x
        dir_of o = 0

        name_of : NameOp → List ℕ
        name_of (ops.Remove x y z) = y
        name_of o = []

        grant_of : NameOp → GrantNo
        grant_of (ops.Remove x y z) = z
        grant_of o = g
    other (asks.Name r (names.Lookup d l)) a y = absurd (none y.1.is)
      where
        none : ops.Remove dir name g ≡ name_op (names.Lookup d l) y.1.g → ⊥
        none q = cc q
    other (asks.Name r (names.Create d l)) a y = absurd (none y.1.is)
      where
        none : ops.Remove dir name g ≡ name_op (names.Create d l) y.1.g → ⊥
        none q = cc q
    other (asks.Name r (names.Mkdir d l)) a y = absurd (none y.1.is)
      where
        none : ops.Remove dir name g ≡ name_op (names.Mkdir d l) y.1.g → ⊥
        none q = cc q
    other (asks.Name r (names.Rename d l d2 l2)) a y = absurd (none y.1.is)
      where
        none : ops.Remove dir name g ≡ name_op (names.Rename d l d2 l2) y.1.g → ⊥
        none q = cc q
    other (asks.Name r (names.List d after)) a y = absurd (none y.1.is)
      where
        none : ops.Remove dir name g ≡ name_op (names.List d after) y.1.g → ⊥
        none q = cc q
    other a b y = absurd y

    removed : OtherMeant past w c s life epoch number ino m.body
    removed =
        record {
          op = by.op;
          k = own_row.asked;
          same =
              record {
                server = own_row.same.server;
                life_ = own_row.same.life_ ∙ z.serves.keyed.of_life;
                epoch_ = own_row.same.epoch_ ∙ z.serves.keyed.of_epoch;
                number_ = own_row.same.number_ ∙ z.serves.keyed.under;
              };
          ask = by.ask;
          asked = own_ask;
          dir = dir;
          name = name;
          g = g;
          is = q;
          other = other by.ask own_ask (subst (MeansTo G s by.ask) q means);
        }

  pub refused_other : OtherMeant past w c s life epoch number ino m.body
  refused_other = held_or (fine c s m among z.serves.keyed.between z.serves.served.client (let q = z.serves.served.next in omega (arith, q)))
    where
      go : (b : Body) → m.body ≡ b → asks_cut_or_remove b ≡ true → HeldFor w c s m b → OtherMeant past w c s life epoch number ino m.body
      go (bodies.Cut i g p) q o held = absurd (clash (holds i g held) (subst (IsUnheld T m.header) q unheld))
      go (bodies.Name (ops.Remove dir name g)) q o held = removed dir name g q held
      go b q o held = cc o

      held_or : PastOrHeld w c s m m.body → OtherMeant past w c s life epoch number ino m.body
      held_or (inl p) = absurd (not_past c node m z.serves.served z.serves.running z.serves.keyed.between.0 (p node z.serves.was))
      held_or (inr held) = go m.body refl own held

-- What is carried.
pub record HeldHold (k : net.Config) (count : ℕ) (past : List Step) (t : Traced) (it : Witness) : Type 0 where
  pub grants : GrantsHold k count past t it
  pub waits : WaitsHold t.world
  pub fine : AllHeld t.world
  pub trees_ : TreesHold past t it
  pub others : AllMeant past t.world

pub held_kept : (k : net.Config) (count : ℕ) (past : List Step) (t : Traced) (e : Event) (sc : WorldTurn) (it : Witness) → world_step t.world e ≡ Ok sc →
    facts_of.Known count past (step t e sc) → HeldHold k count past t it →
    HeldHold k count (past ++ step t e sc ∷ []) (traced_after e t sc) (led_by it (step t e sc))
held_kept k count past t e sc it f g h =
    record {
      grants = grants2;
      waits = waits2;
      fine = held_on k count past t e sc g.0.0 f all all2 waits2 h.fine;
      trees_ = trees_kept past t e sc it f tt h.trees_;
      others = λ y i. others2 y (has_append past (step t e sc ∷ []) y i);
    }
  where
    all : AllHold k count past t
    all = h.grants.facts.changes_.names_.all

    grants2 : GrantsHold k count (past ++ step t e sc ∷ []) (traced_after e t sc) (led_by it (step t e sc))
    grants2 = grants_kept k count past t e sc it f (g.0.0, (g.0.1.1.0, (g.0.1.1.1, (g.1.1.0, g.1.1.1)))) h.grants

    all2 : AllHold k count (past ++ step t e sc ∷ []) (traced_after e t sc)
    all2 = grants2.facts.changes_.names_.all

    waits2 : WaitsHold sc.world
    waits2 = (steps_lock_cuts t.world e sc f (waits_owed k count t.world all.base.all e (step_happens t.world e sc f).0) h.waits).holds

    more : (c : ClientId) (s : ServerId) (life epoch number ino : ℕ) (body : Body) → OtherMeant past t.world c s life epoch number ino body →
        OtherMeant (past ++ step t e sc ∷ []) sc.world c s life epoch number ino body
    more c s life epoch number ino body z =
        record {
          op = z.op;
          k =
              record {
                at = z.k.at;
                among =
                    worlds_on k count past t e sc g.0.0 all all2 f h.grants.facts.changes_.rows z.k.at c z.k.server z.k.life_ z.k.epoch_ z.k.number_ z.op
                    z.k.waits z.k.among;
                server = z.k.server;
                life_ = z.k.life_;
                epoch_ = z.k.epoch_;
                number_ = z.k.number_;
                waits = z.k.waits;
              };
          same = z.same;
          ask = z.ask;
          asked = asked_more past (step t e sc) c z.op z.ask z.asked;
          dir = z.dir;
          name = z.name;
          g = z.g;
          is = z.is;
          other = z.other;
        }

    now_meant : AllMeantAt (past ++ step t e sc ∷ []) sc.world (step t e sc)
    now_meant c s life epoch number ino n z own =
        more c s life epoch number ino z.sent.message.body
        (refused_other k count past t e sc h.grants.facts h.grants.named_ h.fine h.trees_.sound c s life epoch number ino n z own)

    others2 : (y : Step) → Has y past ⊎ Has y (step t e sc ∷ []) → AllMeantAt (past ++ step t e sc ∷ []) sc.world y
    others2 y (inl i) =
        λ c s life epoch number ino n z own. more c s life epoch number ino z.sent.message.body (h.others y i c s life epoch number ino n z own)
    others2 y (inr (inl q)) = subst (AllMeantAt (past ++ step t e sc ∷ []) sc.world) (sym q) now_meant
    others2 y (inr (inr i)) = absurd i

pub held_begins : (k : Config) (clients servers disks blocks form : ℕ) → IsHead k clients servers disks blocks form →
    HeldHold (terms_of k) (clients + servers) [] (traced (fresh_world k clients servers disks blocks form))
    (begun (fresh_world k clients servers disks blocks form) (fresh_world k clients servers disks blocks form))
held_begins k clients servers disks blocks form head =
    record {
      grants = grants_begin k clients servers disks blocks form head;
      waits = fresh_waits k clients servers disks blocks form;
      fine = λ c s m among. absurd (once.none_sent k clients servers disks blocks form m among);
      trees_ = trees_begin k clients servers disks blocks form;
      others = λ y i. absurd i;
    }

-- In every run.
CutsToo : List Step → Step → Witness → Type 0
CutsToo past x it = CutFilesAreHeld past x

cuts_on : (k : net.Config) (count : ℕ) → IsGiven (facts_of.Known count) (HeldHold k count) CutsToo
unfolding CutsToo
cuts_on k count past t e sc it f g h = (no_cut, held_kept k count past t e sc it f g h)
  where
    no_cut : CutFilesAreHeld past (step t e sc)
    no_cut c s life epoch number ino n z = go z.sent.message.body refl
      where
        go : (b : Body) → z.sent.message.body ≡ b → is_cut b ≡ false
        go (bodies.Cut i g p) q =
            let y =
            refused_other k count past t e sc h.grants.facts h.grants.named_ h.fine h.trees_.sound c s life epoch number ino n z
            (ap asks_cut_or_remove q) in
            absurd (none (sym q ∙ y.is))
          where
            none : {op : NameOp} → bodies.Cut i g p ≡ bodies.Name op → ⊥
            none q = cc q
        go b q = refl

pub cut_files_are_held : EveryRunIsSafe → InEveryRun CutFilesAreHeld
unfolding CutsToo
cut_files_are_held safe k clients servers disks blocks form es head events =
    let count : ℕ = clients + servers in
    given_in (facts_of.Known count) (HeldHold (terms_of k) count) CutsToo (cuts_on (terms_of k) count) es
    (traced (fresh_world k clients servers disks blocks form)) (held_begins k clients servers disks blocks form head)
    (known_in k clients servers disks blocks form es head events (safe k clients servers disks blocks form es head events))
