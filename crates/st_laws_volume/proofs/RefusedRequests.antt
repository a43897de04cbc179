-- A client's outstanding request was refused: the refusal was made in an event in which the server served this request.
use Rattle.st_lemmas.proofs.Words
use Words.{◌≡◌, ℕ, ◌≤◌, arith, true, false, List, Option, Some, None, sym, ap, ◌∙◌, subst, inl, inr}
use Words.{Ask, Body, ClientId, Event, Message, ServerId, Why}
use Words.bodies
use Words.inputs
use Words.why
use Words.ClientState as cs
use Words.ClientState.{reasserts}
use Words.History.{Traced}
use Words.Keys.{client}
use Words.Lists.{Has}
use Words.Names as names
use Words.Numbers.{numbered_has}
use Words.Safety.{Step}
use Words.Server.{ServerTurn, Stable}
use Words.Tables.{has_map_in}
use Words.Truth.{clash}
use Words.World.{WorldClient, site_of}
use Words.Worlds.{client_at_node}
use Rattle.st_rules.specs.declared.client.ClientInput.{ClientInput}
use Rattle.st_protocol.specs.Assoc as net
use Rattle.st_trace.specs.Server.Edits.{file_in}
use Rattle.st_laws_leases.specs.Dates.Dates.{message_in, messages}
use Rattle.st_laws_requests.specs.Cuts.Cuts as cuts
use Rattle.st_laws_requests.specs.Cuts.Cuts.{AssociationOk, Keyed, SameBody}
use Rattle.st_laws_names.specs.Keys.{HasEvent, ServedAt, behind_thefts, is_final, is_kept_why, now_at}
use Rattle.st_laws_names.proofs.Facts.{FactsHold}
use Rattle.st_laws_volume.proofs.AnswerCauses.{IsRefusal}
use Rattle.st_laws_volume.proofs.EventAnswers.{ByAsk, ByMessage, ByReport, ByTick, TakesAt}
use Rattle.st_laws_volume.proofs.FileReplies.{Lacks, lacks}
use Rattle.st_laws_volume.proofs.TreeTurns.{thefts_stable}

-- The event.
pub record RefusedBy (past : List Step) (c : ClientId) (s : ServerId) (body reply : Body) : Type 0 where
  pub y : Step
  pub among : Has y past
  pub life_ : ℕ
  pub epoch_ : ℕ
  pub number_ : ℕ
  pub served : ServedAt y c s life_ epoch_ number_ reply
  pub asks : served.sent.message.body ≡ body

module _ (k : net.Config) (count : ℕ) (past : List Step) (t : Traced) (facts : FactsHold k count past t) (c : ClientId) (site : WorldClient)
    (at : site_of t.world c ≡ Some site) (runs : site.node.running ≡ true) (e : Event) (input : ClientInput) (takes : TakesAt t.world e c site input)
    (start : List (ℕ × Ask)) (op : ℕ) (w : Why) (x n : ℕ) (kept : is_kept_why w ≡ true)
    (Concerns : ServerId → Option ℕ → Body → Ask → Type 0)
    (r : IsRefusal t.world c start input site.node.state.associations op w x n Concerns) where
  abbrev s : ServerId
  s = r.association.server

  -- the reply that comes
  record Comes : Type 0 where
    among : Has r.message (messages t.world)
    to : client r.message.header.to ≡ c

  comes : Comes
  comes = go input takes r.comes
    where
      message_of_input : ClientInput → Option Message
      message_of_input (inputs.Control m) = Some m
      message_of_input i = None

      go : (i : ClientInput) → TakesAt t.world e c site i → i ≡ inputs.Control r.message → Comes
      go _ (ByTick q) i = cc i
      go _ (ByAsk a q) i = cc i
      go _ (ByMessage j m q is z) i =
          let same : m.message ≡ r.message = Words.Lookups.some_is (ap message_of_input i) in
          record {
            among = subst (λ y. Has y (messages t.world)) same (has_map_in message_in t.world.net.messages m (numbered_has t.world.net.messages j m is));
            to = ap (λ (y : Message). client y.header.to) (sym same) ∙ ap (λ d. record { 0 = d }) (client_at_node m.message.header.to c z);
          }
      go _ (ByReport j ok y o q is d f z) i = cc i

  good : AssociationOk past (messages t.world) c site.node.state.operations r.association
  good = (facts.changes_.names_.all.base.cuts.clients c site at).all runs r.association r.among

  -- each message under the key of the request has its body
  body_is : (p : Message) → Has p (messages t.world) → Keyed c s r.message.header.life r.message.header.epoch r.message.header.number p →
      p.body ≡ r.request.body
  body_is p i key =
      subst (λ o. SameBody o p) r.outstanding
      (((subst (λ o. cuts.Placed r.association.life.0 (cuts.view o) p) r.has (good.numbers.placed p i key.between)) (key.of_life ∙ r.life)
      (omega (arith, first, number))).same (key.of_epoch ∙ r.epoch)) number
    where
      number : p.header.number ≡ r.request.number
      number = key.under ∙ r.number

      first : 1 ≤ r.request.number
      first = (subst (cuts.Given r.session.requests.next) r.outstanding (subst (λ o. cuts.Counts (cuts.view o)) r.has good.numbers.counts).1).0

  final : is_final r.message.body ≡ true
  final = ap is_final r.says ∙ kept

  -- the request was served under its key
  abbrev pub IsUnder : RefusedBy past c s r.request.body (bodies.Nack w x n) → Type 0
  IsUnder z = (z.life_ ≡ r.association.life.0) × ((z.epoch_ ≡ r.session.epoch.0) × (z.number_ ≡ r.request.number))

  pub refused_under : (z : RefusedBy past c s r.request.body (bodies.Nack w x n)) × IsUnder z
  refused_under = go (facts.replies.replies r.message comes.among s r.from final)
    where
      go : HasEvent past t.world (client r.message.header.to) s r.message.header.life r.message.header.epoch r.message.header.number r.message.body →
          (z : RefusedBy past c s r.request.body (bodies.Nack w x n)) × IsUnder z
      go (inl (y, i, a)) = (
        record {
          y = y;
          among = i;
          life_ = r.message.header.life;
          epoch_ = r.message.header.epoch;
          number_ = r.message.header.number;
          served = b;
          asks =
              body_is b.sent.message
              (facts.changes_.names_.all.base.cuts.grown y i b.sent.message
              (has_map_in message_in y.before.world.net.messages b.sent (numbered_has y.before.world.net.messages b.index b.sent b.is)))
              b.serves.keyed;
        },
        (r.life, (r.epoch, r.number)),
      )
        where
          b : ServedAt y c s r.message.header.life r.message.header.epoch r.message.header.number (bodies.Nack w x n)
          b =
              subst (ServedAt y c s r.message.header.life r.message.header.epoch r.message.header.number) r.says
              (subst (λ (d : ClientId). ServedAt y d s r.message.header.life r.message.header.epoch r.message.header.number r.message.body) comes.to a)
      go (inr z) =
          absurd
          (clash
          (ap reasserts
          (sym
          (body_is z.by z.among
          (subst (λ (d : ClientId). Keyed d s r.message.header.life r.message.header.epoch r.message.header.number z.by) comes.to z.keyed))) ∙ z.asks) r.first)

  pub refused_by : RefusedBy past c s r.request.body (bodies.Nack w x n)
  refused_by = refused_under.0

-- The file of a request.
file_same : (cutting : Option ℕ) (b : Body) (ino : ℕ) → file_in b ≡ Some ino → cs.file_asked cutting b ≡ Some ino
file_same cutting (bodies.Acquire i mode) ino q = q
file_same cutting (bodies.Map i g p) ino q = q
file_same cutting (bodies.Allocate i g p count) ino q = q
file_same cutting (bodies.Cut i g p) ino q = q
file_same cutting b ino q = cc q

-- What the server of such an event lacked then.
pub record LacksFile (past : List Step) (c : ClientId) (s : ServerId) (file : Option ℕ) (ino n : ℕ) : Type 0 where
  pub y : Step
  pub among : Has y past
  pub life_ : ℕ
  pub epoch_ : ℕ
  pub number_ : ℕ
  pub served : ServedAt y c s life_ epoch_ number_ (bodies.Nack why.NoFile ino n)
  pub absent : names.is_file served.serves.old.state.stable.names ino ≡ false
  pub its_file : file ≡ Some ino

pub lacks_file : (past : List Step) (c : ClientId) (s : ServerId) (cutting : Option ℕ) (body : Body) (ino n : ℕ) →
    RefusedBy past c s body (bodies.Nack why.NoFile ino n) → LacksFile past c s (cs.file_asked cutting body) ino n
lacks_file past c s cutting body ino n z =
    record {
      y = z.y;
      among = z.among;
      life_ = z.life_;
      epoch_ = z.epoch_;
      number_ = z.number_;
      served = z.served;
      absent =
          sym (ap (λ (x : Stable). names.is_file x.names ino) (thefts_stable z.served.serves.old.state (now_at z.y.before.world s))) ∙ l.none;
      its_file = file_same cutting body ino (ap file_in (sym z.asks) ∙ l.file);
    }
  where
    t : ServerTurn
    t = behind_thefts z.y.before.world s z.served.serves.old.state

    l : Lacks t z.served.sent.message.body ino
    l =
        lacks t (now_at z.y.before.world s) z.served.sent.message.header z.served.sent.message.body ino n z.served.serves.replied
