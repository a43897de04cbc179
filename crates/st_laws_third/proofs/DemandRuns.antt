-- In every run of the third form, a demand that is delivered, reaches a session and is in time, is answered in the same step.
use Rattle.st_lemmas.proofs.Words
use Words.{◌≡◌, ℕ, ◌+◌, Bool, true, false, List, [], ◌∷◌, Option, Some, None, length, not, refl, sym, ap, ◌∙◌, subst, inl, inr, if◌then◌else◌}
use Words.{ClientId, GrantNo, Message, Mode, SentMessage, Stamp, WorldRefusal}
use Words.bodies
use Words.events
use Words.nodes
use Words.outputs
use Words.refusals
use Words.Admissible as admissible
use Words.ClientState.{Association, ClientSession, ClientState}
use Words.Events as ev
use Words.Lists.{Has}
use Words.World.{WorldClient, clock_of, is_running, message_of, site_of, site_runs}
use Rattle.std.specs.Option.{option_or}
use Rattle.st_rules.specs.declared.client.ClientInput.TheVariants as inputs
use Rattle.st_rules.specs.declared.observation.Observation.TheVariants as plain_seen
use Rattle.st_third.specs.declared.event.ThirdEvent.{ThirdEvent}
use Rattle.st_third.specs.declared.event.ThirdEvent.TheVariants as third
use Rattle.st_third.specs.declared.event.ThirdInput.TheVariants as takes
use Rattle.st_third.specs.declared.observation.ThirdObservation.{ThirdObservation}
use Rattle.st_third.specs.declared.observation.ThirdObservation.TheVariants as seen
use Rattle.st_third.specs.declared.output.ThirdOutput.{ThirdOutput}
use Rattle.st_third.specs.declared.output.ThirdOutput.TheVariants as says
use Rattle.st_third.specs.Client.{client_step}
use Rattle.st_third.specs.Events as every
use Rattle.st_third.specs.Events.{ThirdWorldTurn, third_counted, unseen}
use Rattle.st_third.specs.State.{ClientBeside, ThirdClientTurn}
use Rattle.st_third.specs.Steps as steps
use Rattle.st_third.specs.Steps.{ThirdStep, ThirdTraced}
use Rattle.st_third.specs.World as worlds
use Rattle.st_third.specs.World.{ThirdWorld, beside_of, receiver_of, third_world}
use Rattle.st_laws_third.specs.Demands.{DemandsAreAnswered, EveryRunAnswersDemands, IsInTime, Reaches, demand_answer, demand_seen}
use Rattle.st_laws_third.proofs.Chains.{left_has, right_has}
use Rattle.st_laws_third.proofs.Demands.{every_demand_is_answered}
use Rattle.st_laws_third.proofs.Moves.{Moved}
use Rattle.st_laws_third.proofs.Sound.{Sound, kept_throughout, sound_first}

-- A message that a client says is observed as sent.

seen_grows : (c : ClientId) (before : ClientState) (y : ThirdObservation) (os : List ThirdOutput) (sc : ThirdWorldTurn) → Has y sc.seen →
    Has y (every.client_says_all c before os sc).seen
unfolding every.client_says_all every.client_says
seen_grows c before y [] sc h = h
seen_grows c before y (o ∷ os) sc h = seen_grows c before y os (every.client_says sc c before o) (one o)
  where
    one : (o : ThirdOutput) → Has y (every.client_says sc c before o).seen
    one (says.Plain o) = left_has sc.seen _ y h
    one (says.Left op) = left_has sc.seen _ y h
    one (says.Unsynced op ino) = left_has sc.seen _ y h
    one (says.Ended s life end) = left_has sc.seen _ y h

says_seen : (c : ClientId) (before : ClientState) (m : Message) (os : List ThirdOutput) (sc : ThirdWorldTurn) → Has (says.Plain (outputs.Send m)) os →
    (n : ℕ) × Has (seen.Plain (plain_seen.Sent n m)) (every.client_says_all c before os sc).seen
unfolding every.client_says_all every.client_says ev.client_says ev.sends
says_seen c before m [] sc h = absurd h
says_seen c before m (o ∷ os) sc (inr h) = says_seen c before m os (every.client_says sc c before o) h
says_seen c before m (o ∷ os) sc (inl e) =
    let n : ℕ = length sc.third.world.net.messages + 1 in (
      n,
      seen_grows c before (seen.Plain (plain_seen.Sent n m)) os (every.client_says sc c before o)
          (subst (λ z. Has (seen.Plain (plain_seen.Sent n m)) (every.client_says sc c before z).seen) e (right_has sc.seen _ _ (inl refl))),
    )

-- An event that isn't refused is delivered to a node that runs.

second_none : (a b : Option WorldRefusal) → option_or a b ≡ None → b ≡ None
second_none None b e = e
second_none (Some x) b e = absurd (no e)
  where
    no : Some x ≡ None → ⊥
    no q = cc

first_none : (a b : Option WorldRefusal) → option_or a b ≡ None → a ≡ None
first_none None b e = refl
first_none (Some x) b e = absurd (no e)
  where
    no : Some x ≡ None → ⊥
    no q = cc

pub runs_there : (w : ThirdWorld) (k : ℕ) (sent : SentMessage) → message_of w.world k ≡ Some sent → worlds.refusal w (third.Plain (events.Deliver k)) ≡ None →
    is_running w.world (receiver_of w.world sent) ≡ true
unfolding worlds.refusal worlds.plain_refusal worlds.refused_delivery admissible.stands
runs_there w k sent e r =
    runs (is_running w.world (receiver_of w.world sent))
    (first_none _ _ (second_none _ _ (second_none _ _ (sym (ap (worlds.refused_delivery w.world k) e) ∙ r))))
  where
    runs : (b : Bool) → admissible.stands (not b) (refusals.NotRunning (receiver_of w.world sent)) ≡ None → b ≡ true
    runs true q = refl
    runs false q = absurd (no q)
      where
        no : Some (refusals.NotRunning (receiver_of w.world sent)) ≡ None → ⊥
        no q = cc

module _ (w : ThirdWorld) (so : Sound w) (c : ClientId) (site : WorldClient) (there : site_of w.world c ≡ Some site) (runs : site.node.running ≡ true)
    (message : Message) (ino : ℕ) (g : GrantNo) (to : Mode) (is : message.body ≡ bodies.Demand ino g to) (a : Association) (s : ClientSession)
    (r : Reaches site.node.state (clock_of w.world (nodes.Client c)) message.header a s) (f : IsInTime s.locks ino g) where
  abbrev Seen : ThirdWorldTurn → Type 0
  Seen sc = (n : ℕ) × Has (seen.Plain (plain_seen.Sent n (demand_answer site.node.state a s ino g))) sc.seen

  says_it : (b : ClientBeside) → beside_of w c ≡ Some b → Seen (every.third_takes w c (takes.Plain (inputs.Control message)) site (Some b))
  unfolding every.third_takes every.client_took
  says_it b q =
      let now : Stamp = clock_of w.world (nodes.Client c) in
      let t : ThirdClientTurn = client_step w.limits (every.third_client site b) now (takes.Plain (inputs.Control message)) in
      let same : message ≡ record { header = message.header; body = bodies.Demand ino g to } = λ j. record { header = message.header; body = is j } in
      let h : Has (demand_seen site.node.state a s ino g) t.out =
      subst (λ m. Has (demand_seen site.node.state a s ino g) (client_step w.limits (every.third_client site b) now (takes.Plain (inputs.Control m))).out) (sym same)
      (every_demand_is_answered w.limits (every.third_client site b) now message.header ino g to a s (so.fits.pairs c.0 site b there q)
      (so.fits.sites c.0 site there).fit r f) in
      says_seen c site.node.state (demand_answer site.node.state a s ino g) t.out (unseen (every.with_client c site t.client w)) h

  answers_it : Seen (every.delivers_to w message (nodes.Client c))
  unfolding every.delivers_to every.at_client every.client_takes every.running_takes
  answers_it =
      let b = so.fits.there c.0 site there in
      subst (λ o. Seen (every.at_client w c (takes.Plain (inputs.Control message)) o)) (sym there)
      (subst (λ x. Seen (if x then every.running_takes w c (takes.Plain (inputs.Control message)) site else unseen w)) (sym runs)
      (subst (λ x. Seen (if x then every.third_takes w c (takes.Plain (inputs.Control message)) site (beside_of w c) else every.plain_takes w c (takes.Plain (inputs.Control message)) site)) (sym so.form)
      (subst (λ o. Seen (every.third_takes w c (takes.Plain (inputs.Control message)) site o)) (sym b.1) (says_it b.0 b.1))))

pub answers_demands : (past : List ThirdStep) (t : ThirdTraced) (e : ThirdEvent) → Sound t.third → worlds.refusal t.third e ≡ None →
    Moved t.third (every.happens (third_counted t.third) e).third → DemandsAreAnswered past (steps.third_step t e (every.happens (third_counted t.third) e))
unfolding every.happens every.plain_happens every.delivers
answers_demands past t e so q m k sent c site ino g to a s p found is receiver there r f =
    let w : ThirdWorld = third_counted t.third in
    let now_so : Sound w = record { fits = record { sites = so.fits.sites; there = so.fits.there; pairs = so.fits.pairs }; form = so.form } in
    let runs : site.node.running ≡ true =
    sym (ap (λ o. site_runs o) there) ∙ (sym (ap (is_running t.third.world) receiver) ∙ runs_there t.third k sent found (subst (λ z. worlds.refusal t.third z ≡ None) p q)) in
    subst (λ z. (n : ℕ) × Has (seen.Plain (plain_seen.Sent n (demand_answer site.node.state a s ino g))) (every.happens w z).seen) (sym p)
    (subst (λ o. (n : ℕ) × Has (seen.Plain (plain_seen.Sent n (demand_answer site.node.state a s ino g))) (every.delivers w o).seen) (sym found)
    (subst (λ o. (n : ℕ) × Has (seen.Plain (plain_seen.Sent n (demand_answer site.node.state a s ino g))) (every.delivers_to w sent.message o).seen) (sym receiver)
    (answers_it w now_so c site there runs sent.message ino g to is a s r f)))

pub every_run_answers_demands : EveryRunAnswersDemands
every_run_answers_demands k m clients servers disks blocks es =
    kept_throughout DemandsAreAnswered answers_demands es [] (steps.third_traced (third_world k m clients servers disks blocks 3))
    (sound_first k m clients servers disks blocks)
