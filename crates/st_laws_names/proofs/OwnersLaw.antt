-- Asks own changes, and names change once: after every event, and over whole runs.
use Rattle.st_lemmas.proofs.Words
use Words.{◌≡◌, ◌⊎◌, ℕ, ◌+◌, true, false, not, List, [], ◌∷◌, ◌++◌, Option, Some, None, Ok, refl, sym, ap, ◌∙◌, subst, inl, inr, arith, length, list_any}
use Words.{le-leb, ClientId, ServerId, NameAsk, AppAnswer, Ask, Event, Body, Message, Why}
use Words.answers
use Words.asks
use Words.bodies
use Words.why
use Words.seen
use Words.ClientState as cs
use Words.ClientState.{asks_cut_or_name}
use Words.Events.{WorldTurn, world_step}
use Words.Extents.{numbers}
use Words.History.{Traced, traced, traced_after}
use Words.Keys.{client}
use Words.Safety.{Step, answers_in, asks_at, is_after_ask, is_event, step, steps}
use Words.Server.{ServerNode}
use Words.World.{World, all_clients, fresh_world, node_of, numbered}
use Words.Lists.{Has}
use Words.Numbers.{numbered_below, numbered_has}
use Words.Tables.{has_append, has_map_in}
use Words.Members.{between_in_numbers}
use Words.Truth.{clash}
use Rattle.st_protocol.specs.Assoc.{Config}
use Rattle.st_laws_refine.specs.Server.Pair.{terms_of}
use Rattle.st_laws_leases.specs.Sides.Law.{InEveryRun}
use Rattle.st_laws_leases.specs.Dates.Dates.{message_in}
use Rattle.st_laws_leases.proofs.Sides.Runs.{throughout_events}
use Rattle.st_laws_requests.proofs.Cuts.Keeping.{Answers}
use Rattle.st_laws_requests.proofs.Cuts.Names.{names_same}
use Rattle.st_laws_requests.specs.Cuts.Cuts.{AsksFor, asks_of}
use Rattle.st_laws_requests.specs.Replies.ServedRequests.{KeptWhy}
use Rattle.st_laws_extents.specs.CutRequests.Law.{gifts}
use Rattle.st_promises.specs.CutAsks.{is_uncertain, settles_in}
use Rattle.st_promises.specs.NameAnswers.{changes_at, changes_in, is_of_names, same_names}
use Rattle.st_promises.specs.NamesOnce.{NamesChangeOnce}
use Rattle.st_laws_names.specs.Keys.{ServedAt, is_kept_why}
use Rattle.st_laws_names.specs.OutstandingKeys.{SameKey, WaitsUnder}
use Rattle.st_laws_names.specs.Owners.{AsksOwnChanges}
use Rattle.st_laws_names.proofs.World.{Asked, Received, TellsOrRefuses}
use Rattle.st_laws_names.proofs.World as once
use Rattle.st_laws_names.proofs.Frames.{IsKeptRefusal}
use Rattle.st_laws_names.proofs.Behind.{Behind, behind}
use Rattle.st_laws_names.proofs.Keys.{is_told, one_body, told_on}
use Rattle.st_laws_names.proofs.Replies.{ServedThere, changed_served, not_again}
use Rattle.st_laws_names.proofs.Facts.{FactsHold, facts_begin, facts_on}
use Rattle.st_laws_names.proofs.Owners.{Changed, Facts, is_kept_refusal, own_changes}
use Rattle.st_laws_names.proofs.Owners as owners
use Rattle.st_laws_names.proofs.OwnersGiven.{names_change_once}

-- A key is served in one event.
abbrev pub OneEvent : List Step → Type 0
OneEvent past = (y z : Step) → Has y past → Has z past → (c : ClientId) (s : ServerId) (life epoch number : ℕ) (r q : Body) → ServedAt y c s life epoch number r → ServedAt z c s life epoch number q → y ≡ z

-- an answer of names is one that only a reply tells
told_names : (a : AppAnswer) → is_of_names a ≡ true → is_told a ≡ true
told_names answers.Cut e = refl
told_names a e = e

-- a refusal that is kept, as a test
kept_why : (w : Why) → KeptWhy w → is_kept_why w ≡ true
kept_why why.Suspect k = absurd k
kept_why why.NoSession k = absurd k
kept_why why.OtherEpoch k = absurd k
kept_why why.Grace k = absurd k
kept_why why.GraceOver k = absurd k
kept_why why.Conflict k = absurd k
kept_why w k = refl

kept_refusal : (b : Body) → IsKeptRefusal b → is_kept_refusal b ≡ true
kept_refusal (bodies.Nack w x y) k = kept_why w k
kept_refusal b k = absurd k

-- the ask of a request for a name that led to a served message
record AskOf (past : List Step) (w : World) (s : ServerId) (m : Message) (c : ClientId) : Type 0 where
  pub op : ℕ
  pub ask : NameAsk
  pub asked : numbered (asks_of past c) op ≡ Some (asks.Name s ask)
  pub means : AsksFor (asks.Name s ask) m.body
  pub k : Asked past w c op
  pub same : SameKey k.server s k.life_ k.epoch_ k.number_ m.header.life m.header.epoch m.header.number
  pub unsettled : list_any (settles_in c op) past ≡ false

module _ (k : Config) (count : ℕ) (past : List Step) (t : Traced) (e : Event) (sc : WorldTurn) (ranges : is_event count e ≡ true) (taken : world_step t.world e ≡ Ok sc)
    (h : FactsHold k count past t) (n : FactsHold k count (past ++ step t e sc ∷ []) (traced_after e t sc)) (one_event : OneEvent past) where
  abbrev past2 : List Step
  past2 = past ++ step t e sc ∷ []

  -- no key is served again
  again : (y : Step) → Has y past → (c : ClientId) (s : ServerId) (life epoch number : ℕ) (r q : Body) → ServedAt y c s life epoch number r → ServedAt (step t e sc) c s life epoch number q → ⊥
  again = not_again k count past t e sc ranges h.changes_.names_.all n.changes_.names_.all taken h.keys h.changes_.pairs.pasts h.replies

  pub one_event_on : OneEvent (past ++ step t e sc ∷ [])
  one_event_on y z i j c s life epoch number r q a b = go (has_append past _ y i) (has_append past _ z j)
    where
      go : Has y past ⊎ Has y (step t e sc ∷ []) → Has z past ⊎ Has z (step t e sc ∷ []) → y ≡ z
      go (inl f) (inl g) = one_event y z f g c s life epoch number r q a b
      go (inl f) (inr (inl g)) = absurd (again y f c s life epoch number r q a (subst (λ (v : Step). ServedAt v c s life epoch number q) g b))
      go (inr (inl f)) (inl g) = absurd (again z g c s life epoch number q r b (subst (λ (v : Step). ServedAt v c s life epoch number r) f a))
      go (inr (inl f)) (inr (inl g)) = f ∙ sym g
      go (inr (inr f)) g = absurd f
      go (inl f) (inr (inr g)) = absurd g
      go (inr (inl f)) (inr (inr g)) = absurd g

  -- A change, and the ask that made it.
  module _ (s : ServerId) (old new : ServerNode) (was : node_of t.world s ≡ Some old) (became : node_of sc.world s ≡ Some new) (differ : new.state.stable.names ≡ old.state.stable.names → ⊥) where
    z : ServedThere k count past t e sc ranges h.changes_.names_.all n.changes_.names_.all taken h.keys h.changes_.pairs.pasts h.replies s
    z = changed_served k count past t e sc ranges h.changes_.names_.all n.changes_.names_.all taken h.keys h.changes_.pairs.pasts h.replies s old new was became differ

    abbrev m : Message
    m = z.at.sent.message

    who : client m.header.from ≡ z.c
    who = ap (λ i. record { 0 = i }) z.at.serves.keyed.between.0

    own : asks_cut_or_name m.body ≡ true
    own = ap asks_cut_or_name z.body

    found : Behind past (gifts k count t.world h.changes_.names_.all.base.all (client m.header.from) s) t.world s m
    found = behind k count past t h.changes_.names_.all h.changes_.rows s z.at.serves.old z.at.serves.was z.at.serves.running m
        (has_map_in message_in t.world.net.messages z.at.sent (numbered_has t.world.net.messages z.at.index z.at.sent z.at.is)) z.at.serves.served own

    ask_of_it : AskOf past t.world s m (client m.header.from)
    ask_of_it = by found.ask found.asked found.of (subst (AsksFor found.ask) z.body found.means)
      where
        by : (a : Ask) → numbered (asks_of past (client m.header.from)) found.op ≡ Some a → cs.server_of a ≡ s → AsksFor a (bodies.Name z.op) → AskOf past t.world s m (client m.header.from)
        by (asks.Name sv ask) q of a =
            record {
              op = found.op;
              ask = ask;
              asked = subst (λ v. numbered (asks_of past (client m.header.from)) found.op ≡ Some (asks.Name v ask)) of q;
              means = subst (AsksFor (asks.Name s ask)) (sym z.body) a;
              k = found.row.asked;
              same = found.row.same;
              unsettled = found.unsettled;
            }
        by a q of w = absurd w

    it : AskOf past t.world s m z.c
    it = subst (AskOf past t.world s m) who ask_of_it

    -- it was asked before
    after : is_after_ask z.c it.op (step t e sc) ≡ true
    after = subst (λ o. Rattle.std.specs.Prelude.nat_le it.op (asks_at o) ≡ true) (sym place.at) (le-leb it.op place.site.asks (omega (arith, below, counted)))
      where
        place : Rattle.st_laws_names.proofs.Keys.Place t.world z.c it.k.server
        place = h.keys.places z.c it.op it.k

        counted : length (asks_of past z.c) ≡ place.site.asks
        counted = (h.changes_.names_.all.base.cuts.clients z.c place.site place.at).count

        below : Rattle.std.proofs.Common.◌≤◌ it.op (length (asks_of past z.c))
        below = (numbered_below (asks_of past z.c) it.op (asks.Name s it.ask) it.asked).1

    changed_by : Changed past (step t e sc) s
    changed_by =
        record {
          c = z.c;
          op = it.op;
          ask = it.ask;
          life_ = z.life;
          epoch_ = z.epoch;
          number_ = z.number;
          reply = z.reply;
          served = z.at;
          asked = it.asked;
          means = it.means;
          k = it.k;
          same = record { server = it.same.server; life_ = it.same.life_ ∙ z.at.serves.keyed.of_life; epoch_ = it.same.epoch_ ∙ z.at.serves.keyed.of_epoch; number_ = it.same.number_ ∙ z.at.serves.keyed.under };
          after = after;
          unsettled = it.unsettled;
        }

  change : (s : ServerId) → changes_in s (step t e sc) ≡ true → Changed past (step t e sc) s
  change s f = go (node_of t.world s) (node_of sc.world s) refl refl f
    where
      go : (o p : Option ServerNode) → node_of t.world s ≡ o → node_of sc.world s ≡ p → changes_at o p ≡ true → Changed past (step t e sc) s
      go None p a b g = cc g
      go (Some old) None a b g = cc g
      go (Some old) (Some new) a b g = changed_by s old new a b (λ q. differ q)
        where
          differ : new.state.stable.names ≡ old.state.stable.names → ⊥
          differ q = clash g (ap not (subst (λ v. same_names old.state.stable.names v ≡ true) (sym q) (names_same old.state.stable.names)))

  -- what waits after the event was not answered
  unsaid : (c : ClientId) (op : ℕ) (s : ServerId) (life epoch number : ℕ) → WaitsUnder sc.world c s life epoch number op → list_any (answers_in c op) past2 ≡ false
  unsaid c op s life epoch number w = subst (λ i. list_any (answers_in c i) past2 ≡ false) w.is (n.changes_.names_.all.owners.unsaid c w.site w.at w.operation w.there)

  -- an answer to what asked before
  received : (c : ClientId) (op : ℕ) (a : AppAnswer) → Has (seen.Answered c op a) sc.seen → (q : Asked past t.world c op) → (is_uncertain a ≡ true) ⊎ owners.Received past t.world c op a q
  received c op a i q = go (once.answered k count past t e sc h.changes_.names_.all n.changes_.names_.all taken h.changes_.names_.once c op a i q)
    where
      go : (is_uncertain a ≡ true) ⊎ Received (TellsOrRefuses a) past t.world c op q → (is_uncertain a ≡ true) ⊎ owners.Received past t.world c op a q
      go (inl f) = inl f
      go (inr w) = inr (record { message = w.message; among = w.among; replies = record { from = w.replies.from; to = w.replies.to; of_life = w.replies.of_life; of_epoch = w.replies.of_epoch; under = w.replies.under }; says = says w.says })
        where
          says : TellsOrRefuses a w.message.body → Answers w.message.body a ⊎ (is_kept_refusal w.message.body ≡ true)
          says (inl f) = inl f
          says (inr f) = inr (kept_refusal w.message.body f)

  -- whoever waited is a client of the world
  there : (c : ClientId) (op : ℕ) → Asked past2 sc.world c op → Has c (all_clients sc.world)
  there c op q = has_map_in client (numbers 1 (length sc.world.clients)) c.0 (between_in_numbers 1 (length sc.world.clients) c.0 low.0 (let y = low.1 in omega (arith, y)))
    where
      place : Rattle.st_laws_names.proofs.Keys.Place sc.world c q.server
      place = n.keys.places c op q

      low : (Rattle.std.proofs.Common.◌≤◌ 1 c.0) × (Rattle.std.proofs.Common.◌≤◌ c.0 (length sc.world.clients))
      low = numbered_below sc.world.clients c.0 place.site place.at

  facts : Facts past (step t e sc)
  facts =
      record {
        change = change;
        one = n.keys.one;
        keys = n.changes_.pairs.pairs;
        requested = n.keys.requested;
        one_body = λ c op q m p i j a b. one_body k count past2 (traced_after e t sc) n.changes_.names_.all c q.server (n.keys.places c op q) q.life_ q.epoch_ q.number_ (n.keys.requested c op q).first m p i j a b;
        told = λ c op a i f. told_on k count past t e sc h.changes_.names_.all n.changes_.names_.all taken h.keys c op a i (told_names a f);
        received = received;
        events_ = h.replies.replies;
        one_event = one_event_on;
        once = again;
        known = h.changes_.rows.now;
        unsaid = unsaid;
        grown = λ y i m j. n.changes_.names_.all.base.cuts.grown y i m j;
        there = there;
      }

  pub owned : AsksOwnChanges past (step t e sc)
  owned = own_changes past (step t e sc) facts

-- What holds after every event.
record OwnersHold (k : Config) (count : ℕ) (past : List Step) (t : Traced) : Type 0 where
  pub facts : FactsHold k count past t
  pub one_event : OneEvent past

one : (k : Config) (count : ℕ) (past : List Step) (t : Traced) (e : Event) (sc : WorldTurn) → is_event count e ≡ true → OwnersHold k count past t → world_step t.world e ≡ Ok sc → AsksOwnChanges past (step t e sc) × OwnersHold k count (past ++ step t e sc ∷ []) (traced_after e t sc)
one k count past t e sc r h taken = (owned k count past t e sc r taken h.facts n h.one_event, record { facts = n; one_event = one_event_on k count past t e sc r taken h.facts n h.one_event })
  where
    n : FactsHold k count (past ++ step t e sc ∷ []) (traced_after e t sc)
    n = facts_on k count past t e sc r h.facts taken

pub owners_law : InEveryRun AsksOwnChanges
owners_law k clients servers disks blocks form es head events =
    throughout_events (clients + servers) AsksOwnChanges (OwnersHold (terms_of k) (clients + servers)) (one (terms_of k) (clients + servers)) es events [] (traced (fresh_world k clients servers disks blocks form))
    (record { facts = facts_begin k clients servers disks blocks form head; one_event = λ y z i. absurd i })

pub names_change_once_in_every_run : InEveryRun NamesChangeOnce
names_change_once_in_every_run k clients servers disks blocks form es head events = names_change_once (steps es (traced (fresh_world k clients servers disks blocks form))) (owners_law k clients servers disks blocks form es head events)
