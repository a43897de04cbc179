-- Clients that demands find open are heard: they answer each demand at once.
use Rattle.st_lemmas.proofs.Words
use Words.{◌≡◌, ℕ, ◌≤◌, true, List, [], ◌∷◌, ◌++◌, Some, sym, ap, ◌∙◌, ClientId, LockRow, Message, Mode, SentMessage, ServerId, Stamp}
use Words.bodies as bd
use Words.events
use Words.seen
use Words.Keys.{server_node}
use Words.Lists.{Has}
use Words.Members.{has_filter_map}
use Words.Server.{ServerNode}
use Words.World.{message_of, node_of}
use Rattle.st_laws_third.specs.Demands.{DemandsAreAnswered, demand_answer}
use Rattle.st_laws_waits.specs.Causes.{asked_since, demand_on}
use Rattle.st_third.specs.declared.event.ThirdEvent.{ThirdEvent}
use Rattle.st_third.specs.declared.event.ThirdEvent.TheVariants as third
use Rattle.st_third.specs.declared.observation.ThirdObservation.TheVariants as third_seen
use Rattle.st_third.specs.Limits.{is_third, node_at}
use Rattle.st_third.specs.Promises.{ThirdPromise, Throughout}
use Rattle.st_third.specs.Steps as steps
use Rattle.st_third.specs.Steps.{ThirdStep, plain_event, plain_observation}
use Rattle.st_third.specs.World.{third_world}
use Rattle.st_laws_third.proofs.DemandRuns.{every_run_answers_demands}
use Rattle.st_laws_third.proofs.Sound.{kept_throughout, sound_first}
use Rattle.st_laws_suspicions.specs.Open.{FindsOpen, IsOpen, OpenClientsAreHeard}
use Rattle.st_laws_suspicions.specs.Prompt.{IsPrompt, seen_on}
use Rattle.st_laws_suspicions.proofs.Prompt.{heard_law}
use Rattle.st_laws_suspicions.proofs.ServerEvents.{near_node}

-- an event that is a delivery in other forms is one
pub delivery_is : (e : ThirdEvent) (n : ℕ) → plain_event e ≡ events.Deliver n → e ≡ third.Plain (events.Deliver n)
delivery_is (third.Plain e) n q = ap third.Plain q
delivery_is (third.Leave c s) n q = absurd (no q)
  where
    no : plain_event (third.Leave c s) ≡ events.Deliver n → ⊥
    no q = cc

-- Promises that are kept throughout a run, together.
module _ (P Q R : ThirdPromise) (both : (past : List ThirdStep) (x : ThirdStep) → P past x → Q past x → R past x) where
  pub together : (past xs : List ThirdStep) → Throughout P past xs → Throughout Q past xs → Throughout R past xs
  unfolding Throughout
  together past [] p q = tt
  together past (x ∷ xs) p q = (both past x p.0 q.0, together (past ++ x ∷ []) xs p.1 q.1)

-- the world is of the third form
abbrev IsThird : ThirdPromise
IsThird past x = is_third x.before.third.world.form ≡ true

module _ (c : ClientId) (near : c.0 ≤ 64) (s : ServerId) (delay : ℕ) where
  -- what is answered, in a world of the third form
  abbrev Answers : ThirdPromise
  Answers past x = DemandsAreAnswered past x × IsThird past x

  prompt : (past : List ThirdStep) (x : ThirdStep) → IsOpen c s delay past x → Answers past x → IsPrompt c s delay past x
  prompt past x g a = record { runs = g.runs; come = g.come; answers = answers }
    where
      answers : (n : ℕ) (sent : SentMessage) (node : ServerNode) (r : LockRow) (at : Stamp) (to : Mode) → plain_event x.event ≡ events.Deliver n →
          message_of x.before.third.world n ≡ Some sent → node_of x.before.third.world s ≡ Some node → Has r node.state.locks.rows → r.client ≡ c →
          asked_since r ≡ Some at → sent.message ≡ demand_on s node.state.stable.epoch r to →
          (k : ℕ) × Has (seen.Sent k (seen_on s node.state.stable.epoch r)) (steps.plainly_seen x.seen)
      answers n sent node r at to e q f h own i is =
          let o = g.open_to n sent node r at to e q f h own i is in
          let to_is : sent.message.header.to ≡ c.0 = ap (λ (m : Message). m.header.to) is ∙ ap (λ (d : ClientId). d.0) own in
          let y = a.0 n sent c o.site r.ino r.g to o.association o.session (delivery_is x.event n e) q (ap (λ (m : Message). m.body) is)
          (ap (node_at x.before.third.world.form) to_is ∙ near_node x.before.third.world.form c.0 a.1 near) o.there o.reaches o.in_time in (
            y.0,
            has_filter_map plain_observation x.seen (third_seen.Plain (seen.Sent y.0 (demand_answer o.site.node.state o.association o.session r.ino r.g)))
                (seen.Sent y.0 (seen_on s node.state.stable.epoch r)) y.1 (ap (λ m. Some (seen.Sent y.0 m)) (same o)),
          )
        where
          same : (o : FindsOpen c x.before.third.world sent.message.header r.ino r.g) →
              demand_answer o.site.node.state o.association o.session r.ino r.g ≡ seen_on s node.state.stable.epoch r
          same o =
              ap (λ n. by n (server_node o.association.server) o.association.life.0 o.session.epoch.0)
              (sym o.reaches.here ∙ ap (λ (m : Message). m.header.to) is)
              ∙ ap (λ n. by r.client.0 n o.association.life.0 o.session.epoch.0) (sym o.reaches.from ∙ ap (λ (m : Message). m.header.from) is)
              ∙ ap (λ n. by r.client.0 (server_node s) n o.session.epoch.0) (sym o.reaches.life ∙ ap (λ (m : Message). m.header.life) is)
              ∙ ap (λ n. by r.client.0 (server_node s) r.life.0 n) (sym o.reaches.epoch ∙ ap (λ (m : Message). m.header.epoch) is)
            where
              by : ℕ → ℕ → ℕ → ℕ → Message
              by from to life epoch =
                  record {
                    header = record { from = from; to = to; life = life; epoch = epoch; number = 0; stamp = 0 };
                    body = bd.DemandSeen r.ino r.g;
                  }

pub open_law : OpenClientsAreHeard
open_law k m clients servers disks blocks es c s delay head near patient open_to =
    heard_law k m clients servers disks blocks es c s delay head patient
    (together (IsOpen c s delay) (Answers c near s delay) (IsPrompt c s delay) (prompt c near s delay) [] _ open_to
    (together DemandsAreAnswered IsThird (Answers c near s delay) (λ past x p q. (p, q)) [] _ (every_run_answers_demands k m clients servers disks blocks es)
    (kept_throughout IsThird (λ past t e so q move. so.form) es [] (steps.third_traced (third_world k m clients servers disks blocks 3))
    (sound_first k m clients servers disks blocks))))
