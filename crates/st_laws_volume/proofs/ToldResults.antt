-- In every run the volume takes each answer that tells a result: a server served the request of the ask, and so the ask took effect then, and kept its result.
use Rattle.st_lemmas.proofs.Words
use Words.{◌≡◌, ◌⊎◌, ℕ, ◌+◌, ◌≤◌, Bool, true, false, not, ◌||◌, ◌==◌, List, [], ◌∷◌, ◌++◌, length, Option, Some, None, Ok, refl, sym, ap, ◌∙◌, subst, inl, inr, append_assoc, if◌then◌else◌}
use Words.{eq-eqb, eqb-true, filter, find, is_some, list_all, option_and_then, AppAnswer, Ask, Body, ClientId, Event, Header, Message, NameOp, NodeId, Observation, SentMessage}
use Words.{GrantNo, PageNo, ServerId, ServerInput, Stamp, Err}
use Words.answers
use Words.asks
use Words.bodies
use Words.events
use Words.modes
use Words.nodes
use Words.seen
use Words.serving
use Words.ClientState.{asks_cut_or_name, reasserts}
use Words.Events as ev
use Words.Events.{WorldTurn, world_step}
use Words.History.{Traced, traced, traced_after}
use Words.Keys.{client}
use Words.Lists.{Has}
use Words.Lookups.{if_true}
use Words.Members.{has_left}
use Words.Numbers.{numbered_has}
use Words.Safety.{Promise, Step, is_event, step, steps}
use Words.Server as sv
use Words.Server.{ServerNode, ServerTurn}
use Words.Tables.{each_passes, found_at, has_append, has_map_in}
use Words.Truth.{client_is, eqb_self}
use Words.World as world
use Words.World.{World, fresh_world, message_of, node_of, receiver_of}
use Rattle.st_rules.specs.declared.node.StepRefusal.TheVariants.{Crashed}
use Rattle.st_lemmas.proofs.Steps.{step_happens}
use Rattle.st_protocol.specs.Assoc as net
use Rattle.st_laws_pages.specs.Asks.Law.{PlacesHold}
use Rattle.st_laws_pages.specs.Disks.Obligations.{FatesHold}
use Rattle.st_laws_pages.proofs.Asks.Law.{places_law}
use Rattle.st_laws_pages.proofs.Disks.Whole.{fates_law}
use Rattle.st_laws_refine.specs.Server.Pair.{terms_of}
use Rattle.st_laws_leases.specs.Dates.Dates.{message_in, messages}
use Rattle.st_laws_requests.specs.Cuts.Cuts.{AsksFor, Keyed, asks_of}
use Rattle.st_laws_requests.proofs.Cuts.Keeping.{Answers}
use Rattle.st_laws_requests.proofs.Cuts.Seen.{NoAnswers, none_answered as no_answers, server_none}
use Rattle.st_laws_names.specs.Keys.{HasEvent, ServedAt, is_final}
use Rattle.st_laws_names.specs.OutstandingKeys.{KeysHaveOneOperation, SameKey, WaitsUnder}
use Rattle.st_laws_names.proofs.Facts.{FactsHold, facts_begin, facts_on, operations_law}
use Rattle.st_laws_names.proofs.Keys.{IsRequested, IsTold, is_told, keyed_same, one_body, told_on}
use Rattle.st_laws_names.proofs.Rows.{worlds_on}
use Rattle.st_laws_names.proofs.World.{Asked, Worlds}
use Rattle.st_laws_volume.specs.Asks.{HasAsksOf, in_volume}
use Rattle.st_laws_volume.specs.Logs.{InEveryRun}
use Rattle.st_laws_volume.specs.Options.{OnSome}
use Rattle.st_laws_volume.specs.ResultAnswers.{gives_result, tells_result}
use Rattle.st_laws_volume.specs.Seen.{cause_of, of_event, of_line}
use Rattle.st_laws_volume.specs.StepKinds.{AreTaken, StepsAreTaken}
use Rattle.st_laws_volume.specs.Trees.{HasTreesOf}
use Rattle.st_laws_volume.specs.Witness.{Behind, Witness, before_line, begun, does_at, if_told, is_done_as, led_by, next_op, of_delivery, of_lines, of_message, steps_of, takes_op, to_node, volume_after}
use Rattle.st_laws_volume.proofs.AnswerSteps.{OnlyAnswers, delivery_silent, event_silent, is_silent, none_answered, open_there}
use Rattle.st_laws_volume.proofs.AskedAsks.{AreOf, RightHold, right_begins, right_kept}
use Rattle.st_laws_volume.proofs.AskEvents.{AllOpenFor}
use Rattle.st_laws_volume.proofs.Asks.{AsksHold, asks_begin, asks_kept}
use Rattle.st_laws_volume.proofs.AskSteps.{told_all}
use Rattle.st_laws_volume.proofs.AsksTaken.{all_other}
use Rattle.st_laws_volume.proofs.Carried.{IsGiven, given_in}
use Rattle.st_laws_volume.proofs.ChangeLines.{block_other, on_both, taken_both}
use Rattle.st_laws_volume.proofs.LogLines.{run_then}
use Rattle.st_laws_volume.proofs.NameReplies.{IsNamed, NameReplied, RemovesNot, name_replied}
use Rattle.st_laws_volume.proofs.OpenAnswers.{Open, block, block_open, first_open, open_left}
use Rattle.st_laws_volume.proofs.Options.{on_all, on_if, on_more, on_then, on_true}
use Rattle.st_laws_volume.proofs.ReadPages.{InRange, all_in_range, throughout_both}
use Rattle.st_laws_volume.proofs.RequestAsks.{GhostHolds, Grants, HasKey, cut_or_name, ghost_begins, ghost_kept, has_key}
use Rattle.st_laws_volume.proofs.RequestResults.{request_so, tells, told}
use Rattle.st_laws_volume.proofs.ResultsStay.{AllKeep, event_keep, keeps, run_keep}
use Rattle.st_laws_volume.proofs.ServedRequests.{done_there, receiver}
use Rattle.st_laws_volume.proofs.StepKinds.{both_inside, delivery_inside, lines_inside}
use Rattle.st_laws_volume.proofs.ToldSteps.{Told, event_kept, kept_told, one_then, two_then}
use Rattle.st_laws_volume.proofs.Trees.{TreesHold, trees_begin, trees_kept}
use Rattle.st_volume.specs.declared.step.VolumeStep.{VolumeStep}
use Rattle.st_volume.specs.declared.step.VolumeStep.TheVariants as kinds
use Rattle.st_volume.specs.Pages.{is_any}
use Rattle.st_volume.specs.Volume as volume
use Rattle.st_volume.specs.Volume.{Pending, Volume, after_answer, answered, answers_so, closed, is_ask, is_result, run}

only_results : OnlyAnswers gives_result
only_results (kinds.Answered c op answer) q = cc q
only_results (kinds.Asked c ask) q = refl
only_results (kinds.TakesEffect c op) q = refl
only_results (kinds.Joined i c what) q = refl
only_results (kinds.Hardened i) q = refl
only_results (kinds.Dropped i cause) q = refl
only_results (kinds.Crashed c) q = refl
only_results (kinds.Restarted s) q = refl
only_results (kinds.WriteFailed c number i) q = refl
only_results (kinds.ReadFailed c s number) q = refl

-- Which replies a request for a name and one for a cut have.
abbrev NoAck : Option Body → Type 0
NoAck (Some bodies.Ack) = ⊥
NoAck o = Unit {0}

abbrev NoNames : Option Body → Type 0
NoNames (Some (bodies.Named reply)) = ⊥
NoNames o = Unit {0}

named_no : (t : ServerTurn) (h : Header) (op : NameOp) (r : Option Body) → NameReplied t h op r → NoAck r
named_no t h op _ (IsNamed reply) = tt
named_no t h op _ (RemovesNot dir name g ino is l f k) = tt

name_no : (t : ServerTurn) (now : Stamp) (h : Header) (op : NameOp) → NoAck (sv.rule t now h (bodies.Name op)).reply
unfolding sv.rule
name_no t now h op = named_no t h op (sv.name t h op).reply (name_replied t h op)

cut_no : (t : ServerTurn) (now : Stamp) (h : Header) (ino : ℕ) (g : GrantNo) (from : PageNo) → NoNames (sv.rule t now h (bodies.Cut ino g from)).reply
unfolding sv.rule sv.cut sv.cut_held sv.cut_from sv.no_file sv.not_holder
cut_no t now h ino g from = file (sv.is_file t ino)
  where
    held : (b : Bool) → NoNames (if b then sv.cut_from t ino from else sv.not_holder t ino g).reply
    held true = tt
    held false = tt

    file : (b : Bool) → NoNames (if b then sv.cut_held t h ino g from else sv.no_file t ino).reply
    file true = held (sv.holds t h ino g modes.X)
    file false = tt

own_of : (a : Ask) (b : Body) → AsksFor a b → asks_cut_or_name b ≡ true
own_of (asks.Cut f p) (bodies.Cut ino g q) h = refl
own_of (asks.Name s ask) (bodies.Name op) h = refl
own_of a b h = absurd h

-- a reply that tells an answer says that the request was done
finished_so : (t : ServerTurn) (now : Stamp) (h : Header) (asked b : Body) (a : AppAnswer) → asks_cut_or_name asked ≡ true →
    (sv.rule t now h asked).reply ≡ Some b →
    Answers b a → is_done_as asked (Some b) ≡ true
finished_so t now h (bodies.Cut ino g from) bodies.Ack a own r w = refl
finished_so t now h (bodies.Cut ino g from) (bodies.Named reply) a own r w = absurd (subst NoNames r (cut_no t now h ino g from))
finished_so t now h (bodies.Name op) (bodies.Named reply) a own r w = refl
finished_so t now h (bodies.Name op) bodies.Ack a own r w = absurd (subst NoAck r (name_no t now h op))
finished_so t now h asked bodies.Ack a own r w = cc own
finished_so t now h asked (bodies.Named reply) a own r w = cc own
finished_so t now h asked b a own r w = absurd w

told_is : (b : Body) (a : AppAnswer) → Answers b a → told b ≡ a
told_is bodies.Ack a w = sym w
told_is (bodies.Named reply) a w = sym w
told_is b a w = absurd w

final_is : (b : Body) (a : AppAnswer) → Answers b a → is_final b ≡ true
final_is bodies.Ack a w = refl
final_is (bodies.Named reply) a w = refl
final_is b a w = absurd w

is_told_so : (a : AppAnswer) → tells_result a ≡ true → is_told a ≡ true
is_told_so answers.Cut q = refl
is_told_so (answers.Named ino) q = refl
is_told_so (answers.Listed rows) q = refl
is_told_so (answers.Refused code) q = refl
is_told_so a q = cc q

pub no_reassertion : (a : Ask) (b : Body) → AsksFor a b → reasserts b ≡ true → ⊥
no_reassertion a (bodies.Reassert rows) k e = none a k
  where
    none : (a : Ask) → AsksFor a (bodies.Reassert rows) → ⊥
    none (asks.Name s n) k = k
    none (asks.Cut g p) k = k
    none a k = k
no_reassertion a b k e = cc e

-- What is known of a request that was served and done: the ask whose request it was, and that an open ask of its number has the result that the reply tells.
record Done (past : List Step) (w : World) (o : Option Volume) (c : ClientId) (s : ServerId) (life epoch number : ℕ) (answer : Body) : Type 0 where
  op : ℕ
  k : Asked past w c op
  same : SameKey k.server s k.life_ k.epoch_ k.number_ life epoch number
  kept : OnSome (AllKeep c op (tells answer)) o

abbrev AllDone : List Step → World → Option Volume → Type 0
AllDone past w o =
    (y : Step) → Has y past → (c : ClientId) (s : ServerId) (life epoch number : ℕ) (answer : Body) (z : ServedAt y c s life epoch number answer) →
    is_done_as z.sent.message.body (Some answer) ≡ true → Done past w o c s life epoch number answer

record TellsHold (k : net.Config) (count : ℕ) (past : List Step) (t : Traced) (it : Witness) : Type 0 where
  facts : FactsHold k count past t
  ghost_ : GhostHolds past t it
  trees : TreesHold past t it
  right : RightHold past t it
  asks : AsksHold past t it
  lined : OnSome Told it.volume
  finished : AllDone past t.world it.volume

-- One step.
module _ (k : net.Config) (count : ℕ) (past : List Step) (t : Traced) (e : Event) (sc : WorldTurn) (it : Witness) (ranges : is_event count e ≡ true)
    (taken : world_step t.world e ≡ Ok sc) (h : TellsHold k count past t it) (n : FactsHold k count (past ++ step t e sc ∷ []) (traced_after e t sc))
    (one : KeysHaveOneOperation past (step t e sc)) where
  abbrev x : Step
  x = step t e sc

  abbrev past2 : List Step
  past2 = past ++ step t e sc ∷ []

  abbrev w : World
  w = t.world

  abbrev rest : Volume → List VolumeStep
  rest v = of_delivery it.behind v w e ++ of_lines w sc.seen

  asked_on : (c : ClientId) (op : ℕ) → (q : Asked past t.world c op) → Worlds past2 sc.world q.at
  asked_on c op q =
      worlds_on k count past t e sc ranges h.facts.changes_.names_.all n.changes_.names_.all taken h.facts.changes_.rows q.at c q.server q.life_ q.epoch_
      q.number_ op
      q.waits q.among

  -- results stay
  module _ (c : ClientId) (op : ℕ) (ok : AppAnswer → Bool) where
    abbrev K : Volume → Type 0
    K u = AllKeep c op ok u

    ended : (v : Volume) → OnSome K (run (steps_of it v x) v) → OnSome K (option_and_then if_told (run (steps_of it v x) v))
    ended v r =
        on_then K if_told (run (steps_of it v x) v)
        (on_more K (λ u. OnSome K (if_told u)) (λ u q. on_if K (u.lines == length u.log) (Some u) q) (run (steps_of it v x) v) r)

    all_keep : (q : Asked past t.world c op) → (o : Option Volume) → OnSome (AreOf (asks_of past)) o → OnSome K o → OnSome K (volume_after it x o)
    all_keep q None r a = tt
    all_keep q (Some v) r a =
        ended v
        (run_then K (of_event w e) (rest v) v
        (on_more K (λ u. OnSome K (run (rest v) u))
        (λ u b. run_keep c op ok (rest v) u
        (all_other (rest v) (both_inside (of_delivery it.behind v w e) (of_lines w sc.seen) (delivery_inside it.behind v w e) (lines_inside w sc.seen))) b)
        (run (of_event w e) v) (event_keep c op ok w e v later a)))
      where
        later : (d : ClientId) → (d.0 == c.0) ≡ true → op ≤ length (filter (λ y. y.0.0 == d.0) v.asked)
        later d m =
            subst (λ (y : ClientId). op ≤ length (filter (λ z. z.0.0 == y.0) v.asked)) (sym (client_is d c m))
            (subst (λ (j : ℕ). op ≤ j) (sym (r.count c)) (h.facts.changes_.names_.once.known c op q))

  -- a request that was served in this event
  module _ (c : ClientId) (s : ServerId) (life epoch number : ℕ) (answer : Body) (z : ServedAt (step t e sc) c s life epoch number answer)
      (fin : is_done_as z.sent.message.body (Some answer) ≡ true) where
    abbrev m : Message
    m = z.sent.message

    node : ServerNode
    node = z.serves.old

    its_id : z.serves.old.state.id ≡ s
    its_id = (h.facts.changes_.names_.all.base.cuts.servers s z.serves.old z.serves.was).id

    own : asks_cut_or_name m.body ≡ true
    own = cut_or_name m.body (Some answer) fin

    done_here : does_at w s (node_of w s) m ≡ true
    done_here = done_there t e sc taken c s life epoch number answer z its_id own fin

    among : Has m (messages w)
    among = has_map_in message_in w.net.messages z.sent (numbered_has w.net.messages z.index z.sent z.is)

    one_past : (y v : Step) → Has y past → Has v past → (d : ClientId) (r : ServerId) (l p b o u : ℕ) → WaitsUnder y.after.world d r l p b o →
        WaitsUnder v.after.world d r l p b u → o ≡ u
    one_past y v i j d r l p b o u f g = one y v (has_left past (x ∷ []) y i) (has_left past (x ∷ []) v j) d r l p b o u f g

    key : HasKey it past w (Grants k count past t it h.facts.changes_ h.ghost_ one_past s m) s m
    key =
        has_key k count past t it h.facts.changes_ h.ghost_ one_past s z.serves.old z.serves.was m among
        (subst (λ o. does_at w s o m ≡ true) z.serves.was done_here)

    from : client m.header.from ≡ c
    from = ap (λ i. record { 0 = i }) z.serves.keyed.between.0

    abbrev K2 : Volume → Type 0
    K2 u = AllKeep (client m.header.from) key.behind.op (tells answer) u

    delivery_is : (v : Volume) → of_delivery it.behind v w e ≡ takes_op it.behind v s m ∷ []
    delivery_is v =
        ap (of_delivery it.behind v w) z.delivers
        ∙ (ap (of_message it.behind v w) z.is
        ∙ (ap (to_node it.behind v w m) (receiver t e sc taken c s life epoch number answer z its_id own fin)
        ∙ ap (λ b. if b then takes_op it.behind v s m ∷ [] else []) done_here))

    none_seen : of_event w e ≡ []
    unfolding of_event
    none_seen = ap (of_event w) z.delivers

    served_keep : (o : Option Volume) → OnSome (HasTreesOf w) o → OnSome K2 (volume_after it x o)
    unfolding run
    served_keep None a = tt
    served_keep (Some v) a =
        ended (client m.header.from) key.behind.op (tells answer) v
        (subst (λ xs. OnSome K2 (run (xs ++ rest v) v)) (sym none_seen)
        (subst (λ xs. OnSome K2 (run (xs ++ of_lines w sc.seen) v)) (sym (delivery_is v))
        (run_then K2 (takes_op it.behind v s m ∷ []) (of_lines w sc.seen) v
        (on_more K2 (λ u. OnSome K2 (run (of_lines w sc.seen) u))
        (λ u b. run_keep (client m.header.from) key.behind.op (tells answer) (of_lines w sc.seen) u (all_other (of_lines w sc.seen) (lines_inside w sc.seen)) b)
        (run (takes_op it.behind v s m ∷ []) v)
        (request_so w h.trees.sound it.behind v a s m z.serves.old z.serves.was answer fin z.serves.replied key.behind key.found)))))

    new_done : Done past2 sc.world (volume_after it x it.volume) c s life epoch number answer
    new_done = subst (λ (d : ClientId). Done past2 sc.world (volume_after it x it.volume) d s life epoch number answer) from
        (record {
          op = key.behind.op;
          k =
              record {
                at = key.at.after.world;
                among = inl (key.at, has_left past (x ∷ []) key.at key.among, refl);
                server = s;
                life_ = m.header.life;
                epoch_ = m.header.epoch;
                number_ = m.header.number;
                waits = key.waits;
              };
          same = record { server = refl; life_ = z.serves.keyed.of_life; epoch_ = z.serves.keyed.of_epoch; number_ = z.serves.keyed.under };
          kept = served_keep it.volume h.trees.agree;
        })

  finished_on : AllDone past2 sc.world (volume_after it x it.volume)
  finished_on y i c s life epoch number answer z fin = go (has_append past (x ∷ []) y i)
    where
      go : Has y past ⊎ Has y (x ∷ []) → Done past2 sc.world (volume_after it x it.volume) c s life epoch number answer
      go (inl j) =
          let d = h.finished y j c s life epoch number answer z fin in
          record {
            op = d.op;
            k =
                record {
                  at = d.k.at;
                  among = asked_on c d.op d.k;
                  server = d.k.server;
                  life_ = d.k.life_;
                  epoch_ = d.k.epoch_;
                  number_ = d.k.number_;
                  waits = d.k.waits;
                };
            same = d.same;
            kept = all_keep c d.op (tells answer) d.k it.volume h.right d.kept;
          }
      go (inr (inl q)) =
          subst
          (λ (v : Step). (z : ServedAt v c s life epoch number answer) → is_done_as z.sent.message.body (Some answer) ≡ true →
          Done past2 sc.world (volume_after it x it.volume) c s life epoch number answer) (sym q) (new_done c s life epoch number answer) z fin
      go (inr (inr j)) = absurd j

  lined_on : (o : Option Volume) → OnSome Told (volume_after it x o)
  lined_on None = tt
  lined_on (Some v) =
      on_then Told if_told (run (steps_of it v x) v)
      (on_all (λ u. OnSome Told (if_told u)) (λ u. on_true Told (u.lines == length u.log) (Some u) (λ m. eqb-true u.lines (length u.log) m))
      (run (steps_of it v x) v))

  -- an answer that tells a result: the ask has it
  told_before : (c : ClientId) (op : ℕ) (a : AppAnswer) → Has (seen.Answered c op a) sc.seen → tells_result a ≡ true →
      OnSome (AllKeep c op (λ r. is_result r a)) it.volume
  told_before c op a i q = go (h.facts.replies.replies r.message r.among r.k.server r.replies.from (final_is r.message.body a r.says))
    where
      r : IsTold past w c op a
      r = told_on k count past t e sc h.facts.changes_.names_.all n.changes_.names_.all taken h.facts.keys c op a i (is_told_so a q)

      b : Body
      b = r.message.body

      asked : IsRequested past w c op r.k.server r.k.life_ r.k.epoch_ r.k.number_
      asked = h.facts.keys.requested c op r.k

      here : client r.message.header.to ≡ c
      here = ap (λ j. record { 0 = j }) r.replies.to

      to_key : SameKey r.k.server r.k.server r.message.header.life r.message.header.epoch r.message.header.number r.k.life_ r.k.epoch_ r.k.number_
      to_key = record { server = refl; life_ = r.replies.of_life; epoch_ = r.replies.of_epoch; number_ = r.replies.under }

      means : (m : Message) → Has m (messages w) → Keyed c r.k.server r.message.header.life r.message.header.epoch r.message.header.number m →
          AsksFor asked.ask m.body
      means m j y =
          subst (AsksFor asked.ask)
          (one_body k count past t h.facts.changes_.names_.all c r.k.server (h.facts.keys.places c op r.k) r.k.life_ r.k.epoch_ r.k.number_ asked.first
          asked.message m asked.among j asked.keyed
          (keyed_same c r.k.server r.k.server r.message.header.life r.message.header.epoch r.message.header.number r.k.life_ r.k.epoch_ r.k.number_ m to_key y))
          asked.means

      event : (y : Step) → Has y past → ServedAt y c r.k.server r.message.header.life r.message.header.epoch r.message.header.number r.message.body →
          OnSome (AllKeep c op (λ r. is_result r a)) it.volume
      event y j z =
          let sent : Has z.sent.message (messages w) =
          h.facts.changes_.names_.all.base.cuts.grown y j z.sent.message
          (has_map_in message_in y.before.world.net.messages z.sent (numbered_has y.before.world.net.messages z.index z.sent z.is)) in
          let own = own_of asked.ask z.sent.message.body (means z.sent.message sent z.serves.keyed) in
          let d =
          h.finished y j c r.k.server r.message.header.life r.message.header.epoch r.message.header.number r.message.body z
          (finished_so _ _ z.sent.message.header z.sent.message.body r.message.body a own z.serves.replied r.says) in
          let same : d.op ≡ op =
          h.facts.keys.one c d.op op d.k r.k
          (record {
            server = d.same.server;
            life_ = d.same.life_ ∙ r.replies.of_life;
            epoch_ = d.same.epoch_ ∙ r.replies.of_epoch;
            number_ = d.same.number_ ∙ r.replies.under;
          }) in
          subst (λ (f : AppAnswer). OnSome (AllKeep c op (λ r. is_result r f)) it.volume) (told_is r.message.body a r.says)
          (subst (λ (j : ℕ). OnSome (AllKeep c j (tells r.message.body)) it.volume) same d.kept)

      go : HasEvent past w (client r.message.header.to) r.k.server r.message.header.life r.message.header.epoch r.message.header.number r.message.body →
          OnSome (AllKeep c op (λ r. is_result r a)) it.volume
      go (inl (y, j, z)) =
          event y j
          (subst (λ (d : ClientId). ServedAt y d r.k.server r.message.header.life r.message.header.epoch r.message.header.number r.message.body) here z)
      go (inr z) =
          absurd
          (no_reassertion asked.ask z.by.body
          (means z.by z.among
          (subst (λ (d : ClientId). Keyed d r.k.server r.message.header.life r.message.header.epoch r.message.header.number z.by) here z.keyed)) z.asks)

-- Lines: the results that they tell are there.
abbrev Rights : List Observation → Volume → Type 0
Rights os u = (c : ClientId) (op : ℕ) (a : AppAnswer) → Has (seen.Answered c op a) os → tells_result a ≡ true → AllKeep c op (λ r. is_result r a) u

all_rights : (os : List Observation) (o : Option Volume) →
    ((c : ClientId) (op : ℕ) (a : AppAnswer) → Has (seen.Answered c op a) os → tells_result a ≡ true → OnSome (AllKeep c op (λ r. is_result r a)) o) →
    OnSome (Rights os) o
all_rights os None h = tt
all_rights os (Some u) h = h

answer_so : (u : Volume) (a : Pending) (answer r : AppAnswer) → tells_result answer ≡ true → is_result r answer ≡ true → answers_so u a answer (Some r) ≡ true
answer_so u a answers.Cut r q k = k
answer_so u a (answers.Named ino) r q k = k
answer_so u a (answers.Listed rows) r q k = k
answer_so u a (answers.Refused code) r q k = k
answer_so u a answer r q k = cc

answer_taken : (c : ClientId) (op : ℕ) (answer : AppAnswer) (u : Volume) → tells_result answer ≡ true → Told u → is_some (find (is_ask c op) u.pending) ≡ true →
    AllKeep c op (λ r. is_result r answer) u → is_some (volume.step u (kinds.Answered c op answer)) ≡ true
answer_taken c op answer u q told_ there keep =
    ap is_some (if_true (u.lines == length u.log) (volume.acts u (kinds.Answered c op answer)) None (eq-eqb u.lines (length u.log) told_))
    ∙ at (find (is_ask c op) u.pending) refl there
  where
    so : (a : Pending) (o : Option AppAnswer) → is_any (λ r. is_result r answer) o ≡ true →
        is_some (if answers_so u a answer o then Some (closed a (after_answer u a answer)) else None) ≡ true
    so a None k = cc k
    so a (Some r) k = ap is_some (if_true (answers_so u a answer (Some r)) (Some (closed a (after_answer u a answer))) None (answer_so u a answer r q k))

    has_result : (a : Pending) (b : Bool) → is_ask c op a ≡ b → b ≡ true → (not b || is_any (λ r. is_result r answer) a.result) ≡ true →
        is_any (λ r. is_result r answer) a.result ≡ true
    has_result a true e f k = k
    has_result a false e f k = cc f

    at : (o : Option Pending) → find (is_ask c op) u.pending ≡ o → is_some o ≡ true → is_some (option_and_then (answered u answer) o) ≡ true
    at None e k = cc k
    at (Some a) e k =
        let f = found_at (is_ask c op) u.pending a e in
        so a a.result (has_result a (is_ask c op a) refl f.0 (each_passes (keeps c op (λ r. is_result r answer)) u.pending keep a f.1))

one_taken : (it : VolumeStep) (v : Volume) → (gives_result it ≡ true → is_some (volume.step v it) ≡ true) → AreTaken gives_result (it ∷ []) v
unfolding AreTaken
one_taken it v h = (h, on_all (AreTaken gives_result []) (λ u. tt) (volume.step v it))

module _ (w : World) where
  block_told : (o : Observation) (os : List Observation) (u : Volume) → Told u → OnSome Told (run (block w o os) u)
  unfolding before_line of_line run
  block_told (seen.Wrote i c f p bytes) os u h = two_then c (next_op os) (kinds.Joined i (Some c) (asks.Write f p bytes)) [] u refl (λ z k. k)
  block_told (seen.Patched i c f p at bytes) os u h = two_then c (next_op os) (kinds.Joined i (Some c) (asks.Patch f p at bytes)) [] u refl (λ z k. k)
  block_told (seen.CutAt i f p) os u h = one_then (kinds.Joined i None (asks.Cut f p)) [] u refl (inl h) (λ z k. k)
  block_told (seen.Hardened i) os u h = one_then (kinds.Hardened i) [] u refl (inl h) (λ z k. k)
  block_told (seen.Dropped i cause) os u h = one_then (kinds.Dropped i (cause_of w cause)) [] u refl (inl h) (λ z k. k)
  block_told (seen.Answered c op answer) os u h = one_then (kinds.Answered c op answer) [] u refl (inl h) (λ z k. k)
  block_told (seen.Sent k m) os u h = h
  block_told (seen.Submitted k c number what) os u h = h
  block_told (seen.Leased c s end) os u h = h
  block_told (seen.Lost c s life) os u h = h
  block_told (seen.Suspected s c start) os u h = h
  block_told (seen.Stolen s c life) os u h = h

  block_taken : (o : Observation) (os : List Observation) (u : Volume) → Rights (o ∷ os) u → Told u → Open w (o ∷ os) u → AreTaken gives_result (block w o os) u
  unfolding before_line of_line AreTaken
  block_taken (seen.Answered c op answer) os u r h o =
      one_taken (kinds.Answered c op answer) u
      (λ q. answer_taken c op answer u q h (open_there c op u ((o c).0 (eqb_self c.0))) (r c op answer (inl refl) q))
  block_taken (seen.Wrote i c f p bytes) os u r h o =
      none_answered gives_result only_results (kinds.TakesEffect c (next_op os) ∷ kinds.Joined i (Some c) (asks.Write f p bytes) ∷ []) u refl
  block_taken (seen.Patched i c f p at bytes) os u r h o =
      none_answered gives_result only_results (kinds.TakesEffect c (next_op os) ∷ kinds.Joined i (Some c) (asks.Patch f p at bytes) ∷ []) u refl
  block_taken (seen.CutAt i f p) os u r h o = none_answered gives_result only_results (kinds.Joined i None (asks.Cut f p) ∷ []) u refl
  block_taken (seen.Hardened i) os u r h o = none_answered gives_result only_results (kinds.Hardened i ∷ []) u refl
  block_taken (seen.Dropped i cause) os u r h o = none_answered gives_result only_results (kinds.Dropped i (cause_of w cause) ∷ []) u refl
  block_taken (seen.Sent k m) os u r h o = tt
  block_taken (seen.Submitted k c number what) os u r h o = tt
  block_taken (seen.Leased c s end) os u r h o = tt
  block_taken (seen.Lost c s life) os u r h o = tt
  block_taken (seen.Suspected s c start) os u r h o = tt
  block_taken (seen.Stolen s c life) os u r h o = tt

  abbrev State : List Observation → Volume → Type 0
  State os u = Rights os u × (Told u × Open w os u)

  lines_taken : (os : List Observation) (u : Volume) → State os u → AreTaken gives_result (of_lines w os) u
  unfolding of_lines AreTaken
  lines_taken [] u k = tt
  lines_taken (o ∷ os) u k =
      subst (λ its. AreTaken gives_result its u) (append_assoc (before_line o os) (of_line w o) (of_lines w os))
      (taken_both gives_result (block w o os) (of_lines w os) u (block_taken o os u k.0 k.1.0 k.1.1)
      (on_more (State os) (AreTaken gives_result (of_lines w os)) (λ z j. lines_taken os z j) (run (block w o os) u)
      (on_both (Rights os) (λ z. Told z × Open w os z) (run (block w o os) u)
      (all_rights os (run (block w o os) u)
      (λ c op a i q. run_keep c op (λ r. is_result r a) (block w o os) u (block_other w o os) (k.0 c op a (inr i) q)))
      (on_both Told (Open w os) (run (block w o os) u) (block_told o os u k.1.0) (block_open w o os u k.1.1)))))

  -- lines that answer nothing
  silent_lines : (os : List Observation) → NoAnswers os → list_all is_silent (of_lines w os) ≡ true
  unfolding of_lines before_line of_line
  silent_lines [] h = refl
  silent_lines (seen.Wrote i c f p bytes ∷ os) h = silent_lines os (λ o i. h o (inr i))
  silent_lines (seen.Patched i c f p at bytes ∷ os) h = silent_lines os (λ o i. h o (inr i))
  silent_lines (seen.CutAt i f p ∷ os) h = silent_lines os (λ o i. h o (inr i))
  silent_lines (seen.Hardened i ∷ os) h = silent_lines os (λ o i. h o (inr i))
  silent_lines (seen.Dropped i cause ∷ os) h = silent_lines os (λ o i. h o (inr i))
  silent_lines (seen.Answered c op answer ∷ os) h = absurd (h (seen.Answered c op answer) (inl refl))
  silent_lines (seen.Sent k m ∷ os) h = silent_lines os (λ o i. h o (inr i))
  silent_lines (seen.Submitted k c number what ∷ os) h = silent_lines os (λ o i. h o (inr i))
  silent_lines (seen.Leased c s end ∷ os) h = silent_lines os (λ o i. h o (inr i))
  silent_lines (seen.Lost c s life ∷ os) h = silent_lines os (λ o i. h o (inr i))
  silent_lines (seen.Suspected s c start ∷ os) h = silent_lines os (λ o i. h o (inr i))
  silent_lines (seen.Stolen s c life ∷ os) h = silent_lines os (λ o i. h o (inr i))

  -- a step of a server answers nothing
  server_no : (s : ServerId) (i : ServerInput) (o : Option ServerNode) → NoAnswers (ev.at_server (ev.counted w) s i o).seen
  unfolding ev.at_server ev.server_takes ev.server_took sv.node_step
  server_no s i None = no_answers
  server_no s i (Some node) = go node.running
    where
      u : ServerTurn
      u = sv.server_step node.state (world.clock_of (ev.counted w) (nodes.Server s)) i

      go : (b : Bool) → NoAnswers (ev.server_took (ev.counted w) s (if b then Ok (sv.node_turn node u) else Err Crashed)).seen
      go true = server_none s u.out (ev.quiet (ev.with_node s (record node { state = u.state }) (ev.counted w))) no_answers
      go false = no_answers

  -- nothing takes effect by a request, or nothing is answered
  abbrev Apart : List Behind → Event → WorldTurn → Type 0
  Apart bs e sc = ((v : Volume) → of_delivery bs v w e ≡ []) ⊎ NoAnswers sc.seen

  delivered_apart : (bs : List Behind) (n : ℕ) → Apart bs (events.Deliver n) (ev.happens (ev.counted w) (events.Deliver n))
  unfolding ev.happens ev.delivers ev.delivers_to
  delivered_apart bs n = go (message_of w n)
    where
      to : (m : Message) (d : NodeId) → ((v : Volume) → to_node bs v w m d ≡ []) ⊎ NoAnswers (ev.delivers_to (ev.counted w) m d).seen
      to m (nodes.Client c) = inl (λ v. refl)
      to m (nodes.Server s) = inr (server_no s (serving.Control m) (node_of w s))

      go : (o : Option SentMessage) → ((v : Volume) → of_message bs v w o ≡ []) ⊎ NoAnswers (ev.delivers (ev.counted w) o).seen
      go None = inl (λ v. refl)
      go (Some m) = to m.message (receiver_of m)

  happens_apart : (bs : List Behind) (e : Event) → Apart bs e (ev.happens (ev.counted w) e)
  happens_apart bs (events.Deliver n) = delivered_apart bs n
  happens_apart bs (events.Tick n) = inl (λ v. refl)
  happens_apart bs (events.App c ask) = inl (λ v. refl)
  happens_apart bs (events.Lose n) = inl (λ v. refl)
  happens_apart bs (events.Cut other to) = inl (λ v. refl)
  happens_apart bs (events.Heal other to) = inl (λ v. refl)
  happens_apart bs (events.Advance increments) = inl (λ v. refl)
  happens_apart bs (events.Effect n) = inl (λ v. refl)
  happens_apart bs (events.Report n fine) = inl (λ v. refl)
  happens_apart bs (events.Crash n) = inl (λ v. refl)
  happens_apart bs (events.Start n) = inl (λ v. refl)

-- All steps of an event.
module _ (k : net.Config) (count : ℕ) (past : List Step) (t : Traced) (e : Event) (sc : WorldTurn) (it : Witness) (ranges : is_event count e ≡ true)
    (taken : world_step t.world e ≡ Ok sc) (h : TellsHold k count past t it) (n : FactsHold k count (past ++ step t e sc ∷ []) (traced_after e t sc))
    (one : KeysHaveOneOperation past (step t e sc)) where
  rights : OnSome (Rights sc.seen) it.volume
  rights = all_rights sc.seen it.volume (λ c op a i q. told_before k count past t e sc it ranges taken h n one c op a i q)

  apart : Apart t.world it.behind e sc
  apart = subst (Apart t.world it.behind e) (sym (step_happens t.world e sc taken).1) (happens_apart t.world it.behind e)

  module _ (v : Volume) (r : Rights sc.seen v) (l : Told v)
      (open_ : (c : ClientId) → AllOpenFor t.world c sc.seen (told_all c (of_event t.world e) (in_volume v c)))
      (later : (c : ClientId) (op : ℕ) (a : AppAnswer) → Has (seen.Answered c op a) sc.seen → tells_result a ≡ true → (d : ClientId) → (d.0 == c.0) ≡ true →
      op ≤ length (filter (λ y. y.0.0 == d.0) v.asked)) where
    abbrev first : List VolumeStep
    first = of_event t.world e

    abbrev all : List VolumeStep
    all = of_lines t.world sc.seen

    first_state : OnSome (State t.world sc.seen) (run (of_event t.world e) v)
    first_state =
        on_both (Rights sc.seen) (λ z. Told z × Open t.world sc.seen z) (run (of_event t.world e) v)
        (all_rights sc.seen (run (of_event t.world e) v)
        (λ c op a i q. event_keep c op (λ r. is_result r a) t.world e v (later c op a i q) (r c op a i q)))
        (on_both Told (Open t.world sc.seen) (run (of_event t.world e) v) (kept_told (of_event t.world e) v (event_kept t.world e) l)
        (first_open t.world e sc.seen v open_))

    event_taken : AreTaken gives_result (steps_of it v (step t e sc)) v
    event_taken = go apart
      where
        alone : ((z : Volume) → of_delivery it.behind z t.world e ≡ []) → AreTaken gives_result (first ++ (of_delivery it.behind v t.world e ++ all)) v
        alone q =
            subst (λ xs. AreTaken gives_result (first ++ (xs ++ all)) v) (sym (q v))
            (taken_both gives_result first all v (none_answered gives_result only_results first v (event_silent t.world e))
            (on_more (State t.world sc.seen) (AreTaken gives_result all) (λ y j. lines_taken t.world sc.seen y j) (run first v) first_state))

        silent : NoAnswers sc.seen → AreTaken gives_result (first ++ (of_delivery it.behind v t.world e ++ all)) v
        silent q =
            taken_both gives_result first (of_delivery it.behind v t.world e ++ all) v
            (none_answered gives_result only_results first v (event_silent t.world e))
            (on_all (AreTaken gives_result (of_delivery it.behind v t.world e ++ all))
            (λ y. taken_both gives_result (of_delivery it.behind v t.world e) all y
            (none_answered gives_result only_results (of_delivery it.behind v t.world e) y (delivery_silent it.behind v t.world e))
            (on_all (AreTaken gives_result all) (λ z. none_answered gives_result only_results all z (silent_lines t.world sc.seen q))
            (run (of_delivery it.behind v t.world e) y))) (run first v))

        go : Apart t.world it.behind e sc → AreTaken gives_result (first ++ (of_delivery it.behind v t.world e ++ all)) v
        go (inl q) = alone q
        go (inr q) = silent q

-- In every run.
abbrev Known : ℕ → Promise
Known count past x = InRange count past x × (FatesHold x.after.world × (PlacesHold x.after.world × KeysHaveOneOperation past x))

TellsToo : List Step → Step → Witness → Type 0
TellsToo past x it = OnSome (λ v. AreTaken gives_result (steps_of it v x) v) it.volume

tells_on : (k : net.Config) (count : ℕ) → IsGiven (Known count) (TellsHold k count) TellsToo
unfolding TellsToo led_by
tells_on k count past t e sc it f g h = (
  on_more (λ v. Rights sc.seen v × (Told v × (HasAsksOf t.world v × AreOf (asks_of past) v))) (λ v. AreTaken gives_result (steps_of it v x) v)
      (λ v j. event_taken k count past t e sc it g.0 f h n g.1.1.1 v j.0 j.1.0
      (λ c. subst (λ a. AllOpenFor t.world c sc.seen (told_all c (of_event t.world e) a)) (sym (j.1.1.0 c)) (open_left past t e sc it f h.asks c))
      (λ c op a i q d m. later v j.1.1.1 c op a i q d m))
      it.volume
      (on_both (Rights sc.seen) (λ v. Told v × (HasAsksOf t.world v × AreOf (asks_of past) v)) it.volume (rights k count past t e sc it g.0 f h n g.1.1.1)
      (on_both Told (λ v. HasAsksOf t.world v × AreOf (asks_of past) v) it.volume h.lined
      (on_both (HasAsksOf t.world) (AreOf (asks_of past)) it.volume h.asks.agree h.right))),
  record {
    facts = n;
    ghost_ = ghost_kept past t e sc it g.1.0 g.1.1.1 h.ghost_;
    trees = trees_kept past t e sc it f tt h.trees;
    right = right_kept past t e sc it f tt h.right;
    asks = asks_kept past t e sc it f (g.1.0, g.1.1.0) h.asks;
    lined = lined_on k count past t e sc it g.0 f h n g.1.1.1 it.volume;
    finished = finished_on k count past t e sc it g.0 f h n g.1.1.1;
  },
)
  where
    x : Step
    x = step t e sc

    n : FactsHold k count (past ++ step t e sc ∷ []) (traced_after e t sc)
    n = facts_on k count past t e sc g.0 h.facts f

    later : (v : Volume) → AreOf (asks_of past) v → (c : ClientId) (op : ℕ) (a : AppAnswer) → Has (seen.Answered c op a) sc.seen → tells_result a ≡ true →
        (d : ClientId) → (d.0 == c.0) ≡ true → op ≤ length (filter (λ y. y.0.0 == d.0) v.asked)
    later v r c op a i q d m =
        let z : IsTold past t.world c op a =
        told_on k count past t e sc h.facts.changes_.names_.all n.changes_.names_.all f h.facts.keys c op a i (is_told_so a q) in
        subst (λ (y : ClientId). op ≤ length (filter (λ z. z.0.0 == y.0) v.asked)) (sym (client_is d c m))
        (subst (λ (j : ℕ). op ≤ j) (sym (r.count c)) (h.facts.changes_.names_.once.known c op z.k))

pub results_are_told : InEveryRun (StepsAreTaken gives_result)
unfolding TellsToo begun
results_are_told k clients servers disks blocks form es head events =
    let t : Traced = traced (fresh_world k clients servers disks blocks form) in
    let count : ℕ = clients + servers in
    given_in (Known count) (TellsHold (terms_of k) count) TellsToo (tells_on (terms_of k) count) es t
    (record {
      facts = facts_begin k clients servers disks blocks form head;
      ghost_ = ghost_begins k clients servers disks blocks form;
      trees = trees_begin k clients servers disks blocks form;
      right = right_begins k clients servers disks blocks form;
      asks = asks_begin k clients servers disks blocks form;
      lined = refl;
      finished = λ y i. absurd i;
    })
    (throughout_both (InRange count) (λ past x. FatesHold x.after.world × (PlacesHold x.after.world × KeysHaveOneOperation past x)) [] (steps es t)
    (all_in_range count es [] t events)
    (throughout_both (λ past x. FatesHold x.after.world) (λ past x. PlacesHold x.after.world × KeysHaveOneOperation past x) [] (steps es t)
    (fates_law k clients servers disks blocks form es)
    (throughout_both (λ past x. PlacesHold x.after.world) KeysHaveOneOperation [] (steps es t) (places_law k clients servers disks blocks form es head)
    (operations_law k clients servers disks blocks form es head events))))
