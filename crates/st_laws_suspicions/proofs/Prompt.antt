-- Prompt clients are heard, over whole runs of the third form.
use Rattle.st_lemmas.proofs.Words
use Words.{◌≡◌, ℕ, ◌≤◌, ◌<◌, ◌*◌, true, List, [], ◌∷◌, ◌++◌, map, map-append, nat_le, leb-true, Option, Some, None, refl, sym, subst, ClientId, Config, LockRow, Message, ServerId}
use Words.{WorldRefusal}
use Words.events
use Words.seen
use Words.Lists.{Has}
use Words.Server.{ServerNode}
use Words.Tables.{and_true}
use Words.World.{node_of, numbered}
use Rattle.st_laws_healthy.proofs.Numbers.{keeps_place, tells_place}
use Rattle.st_laws_healthy.proofs.Trips.{InTime, in_time, none_flies}
use Rattle.st_laws_leases.specs.Dates.Dates.{messages}
use Rattle.st_laws_waits.specs.Waits.{server_clock}
use Rattle.st_third.specs.declared.event.ThirdEvent.{ThirdEvent}
use Rattle.st_third.specs.declared.event.ThirdEvent.TheVariants as third
use Rattle.st_third.specs.Events as every
use Rattle.st_third.specs.Events.{ThirdWorldTurn, third_counted}
use Rattle.st_third.specs.Limits.{most_clients}
use Rattle.st_third.specs.Promises.{Throughout}
use Rattle.st_third.specs.Steps as steps
use Rattle.st_third.specs.Steps.{ThirdStep, ThirdTraced, plain_event, plain_step}
use Rattle.st_third.specs.World as worlds
use Rattle.st_third.specs.World.{ThirdWorld, third_world}
use Rattle.st_laws_suspicions.specs.Prompt.{IsPrompt, OnlySuspectedForGreeting, PromptClientsAreHeard}
use Rattle.st_laws_suspicions.proofs.Causes as causes
use Rattle.st_laws_suspicions.proofs.Clocks.{delivery_clock}
use Rattle.st_laws_suspicions.proofs.MessageNumbers.{ThirdTold, third_tells}
use Rattle.st_laws_suspicions.proofs.ServerEvents.{C}
use Rattle.st_laws_suspicions.proofs.Trips.{AllWhere, greets, where2}

-- the clients of the third form
pub near : (n : ℕ) → C n ≡ true → n ≤ 64
unfolding most_clients
near n e = leb-true n 64 (and_true (nat_le 1 n) (nat_le n 64) e).1

module _ (k : Config) (c : ClientId) (s : ServerId) (delay : ℕ) (patient : 2 * delay < k.demand) where
  -- what holds after every event
  pub record Stand (past : List ThirdStep) (t : ThirdTraced) : Type 0 where
    pub stand : causes.Stand k s past t
    pub timely : InTime (server_clock s) c s delay (map plain_step past) (messages t.third.world) (server_clock s t.third.world)
    pub all : AllWhere C near k c s delay (map plain_step past) t.third.world

  module _ (past : List ThirdStep) (t : ThirdTraced) (e : ThirdEvent) (b : Stand past t) (free : worlds.refusal t.third e ≡ None) where
    abbrev w : ThirdWorld
    w = third_counted t.third

    abbrev sc : ThirdWorldTurn
    sc = every.happens w e

    abbrev x : ThirdStep
    x = steps.third_step t e sc

    told : ThirdTold w sc
    told = third_tells w e b.stand.sound.form

    keeps : (n : ℕ) (m : Message) → numbered (messages w.world) n ≡ Some m → numbered (messages sc.third.world) n ≡ Some m
    keeps = keeps_place (messages w.world) (messages sc.third.world) (steps.plainly_seen sc.seen) told

    tells : (n : ℕ) (m : Message) → Has (seen.Sent n m) (steps.plainly_seen sc.seen) → numbered (messages sc.third.world) n ≡ Some m
    tells = tells_place (messages w.world) (messages sc.third.world) (steps.plainly_seen sc.seen) told

    still : (n : ℕ) → plain_event e ≡ events.Deliver n → server_clock s sc.third.world ≡ server_clock s w.world
    still n q = by e q
      where
        by : (e : ThirdEvent) → plain_event e ≡ events.Deliver n → server_clock s (every.happens w e).third.world ≡ server_clock s w.world
        by (third.Plain p) q =
            subst (λ z. server_clock s (every.happens w (third.Plain z)).third.world ≡ server_clock s w.world) (sym q) (delivery_clock s w b.stand.sound.form n)
        by (third.Leave d r) q = absurd (no q)
          where
            no : plain_event (third.Leave d r) ≡ events.Deliver n → ⊥
            no q = cc

    served : (node : ServerNode) → node_of t.third.world s ≡ Some node → (r : LockRow) → Has r node.state.locks.rows →
        Rattle.st_laws_suspicions.proofs.Served.IsServed C node.state.sessions r.client r.life
    served node f r i = (b.stand.holds node f).1.rows r i

    module _ (g : IsPrompt c s delay past x) where
      heard : OnlySuspectedForGreeting c s past x
      heard old new f h e1 e2 =
          greets C near k c s delay (map plain_step past) (plain_step x) g.answers keeps tells still b.timely b.all served patient old f e1
          (causes.cause k s past t e b.stand free g.runs c old new f h e1 e2)

      stand2 : Stand (past ++ x ∷ []) (steps.traced_after e t sc)
      stand2 =
          record {
            stand = causes.stand2 k s past t e b.stand free g.runs;
            timely = subst (λ p. InTime (server_clock s) c s delay p (messages sc.third.world) (server_clock s sc.third.world)) (sym more)
                (in_time (server_clock s) c s delay (map plain_step past) (plain_step x) (messages sc.third.world) g.come);
            all = subst (λ p. AllWhere C near k c s delay p sc.third.world) (sym more)
                (where2 C near k c s delay (map plain_step past) (plain_step x) g.answers keeps tells still b.timely b.all served
                (causes.moved k s past t e b.stand free g.runs (causes.it k s past t e b.stand free)));
          }
        where
          more : map plain_step (past ++ x ∷ []) ≡ map plain_step past ++ plain_step x ∷ []
          more = map-append plain_step past (x ∷ [])

  abbrev Goes_on : List ThirdEvent → Type 0
  Goes_on es =
      (past : List ThirdStep) (t : ThirdTraced) → Stand past t → Throughout (IsPrompt c s delay) past (steps.steps es t) →
      Throughout (OnlySuspectedForGreeting c s) past (steps.steps es t)

  throughout : (es : List ThirdEvent) → Goes_on es
  unfolding Throughout steps.steps steps.steps_on every.world_step every.world_by
  throughout [] past t b h = tt
  throughout (e ∷ es) past t b h = go (throughout es) (worlds.refusal t.third e) refl h
    where
      go : Goes_on es → (r : Option WorldRefusal) → worlds.refusal t.third e ≡ r →
          Throughout (IsPrompt c s delay) past (steps.steps_on (steps.steps es) t e (every.world_by t.third e r)) →
          Throughout (OnlySuspectedForGreeting c s) past (steps.steps_on (steps.steps es) t e (every.world_by t.third e r))
      go rest (Some r) q h = tt
      go rest None q h = (heard past t e b q h.0, rest _ _ (stand2 past t e b q h.0) h.1)

pub heard_law : PromptClientsAreHeard
heard_law k m clients servers disks blocks es c s delay head patient prompt =
    throughout k c s delay patient es [] (steps.third_traced (third_world k m clients servers disks blocks 3))
    (record {
      stand = causes.begins k m clients servers disks blocks s;
      timely = none_flies (server_clock s) c s delay _ _;
      all = λ node f r at i. absurd (causes.no_first_row k m clients servers disks blocks s node f r i);
    }) prompt
