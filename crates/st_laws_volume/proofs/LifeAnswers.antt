-- As a life of a client at a server ends while the client runs, the operation that waits there is answered that it is uncertain, with its session's epoch.
use Rattle.st_lemmas.proofs.Words
use Words.{◌≡◌, ◌≢◌, ◌⊎◌, ℕ, ◌<◌, Bool, true, false, List, [], Some, Ok, refl, sym, ap, ◌∙◌, subst, inl, inr, arith}
use Words.{AppAnswer, ClientId, ClientInput, Event, Life, Operation, ServerId, Stamp}
use Words.answers
use Words.nodes
use Words.outputs
use Words.seen
use Words.stages
use Words.Client as cl
use Words.ClientState as cs
use Words.ClientState.{Association, ClientSession, ClientState, ClientTurn, is_asked}
use Words.Events as ev
use Words.Events.{WorldTurn, world_step}
use Words.History.{Traced}
use Words.Lists.{Has}
use Words.Safety.{Step}
use Words.Tables.{and_true, same_or_not}
use Words.World.{World, WorldClient, clock_of, site_of}
use Rattle.st_rules.specs.declared.client.Stage.{Stage}
use Rattle.st_protocol.specs.Assoc.{Config}
use Rattle.st_laws_steps.specs.Client.Losses.{is_ended}
use Rattle.st_laws_steps.specs.Lives.Lives.{LifeNext}
use Rattle.st_laws_steps.proofs.Client.Losing.{over_is}
use Rattle.st_laws_steps.proofs.Client.Stepping.{step_lives}
use Rattle.st_laws_pages.proofs.Flush.Flushing.{pair_of}
use Rattle.st_laws_leases.specs.Dates.Dates.{messages}
use Rattle.st_laws_leases.proofs.Dates.Leaving.{Leaves}
use Rattle.st_laws_requests.proofs.Cuts.Seen.{AnswersOf, NoAnswers}
use Rattle.st_laws_requests.proofs.Cuts.Step.{onces}
use Rattle.st_laws_requests.proofs.Replies.EachEvent.{ClientTook, SiteAfter}
use Rattle.st_laws_extents.proofs.CutRequests.Law.{Hold}
use Rattle.st_laws_cuts.specs.Owners.{AllOwned}
use Rattle.st_laws_cuts.proofs.Counts.{told_once}
use Rattle.st_laws_cuts.proofs.Events.{event_does}
use Rattle.st_laws_cuts.proofs.OverAfter.{AllFew, Came, ThisOrOther, Took, not_others, took_step}
use Rattle.st_laws_cuts.proofs.Step.{apart_from, uncertain}

-- an operation that waits at a server, where a life ends
pub record Waiting (t v : World) (c : ClientId) (op epoch : ℕ) : Type 0 where
  pub site : WorldClient
  pub at : site_of t c ≡ Some site
  pub operation : Operation
  pub there : Has operation site.node.state.operations
  pub is : operation.op ≡ op
  pub before : Association
  pub among : Has before site.node.state.associations
  pub asked : is_asked before.server operation ≡ true
  pub session : ClientSession
  pub has : before.session ≡ Some session
  pub of_epoch : session.epoch.0 ≡ epoch
  pub next : WorldClient
  pub left : site_of v c ≡ Some next
  pub after : Association
  pub within : Has after next.node.state.associations
  pub server : after.server ≡ before.server
  pub life : before.life.0 < after.life.0

abbrev pub LivesAnswer : World → WorldTurn → Type 0
LivesAnswer t sc =
    (c : ClientId) (op epoch : ℕ) (answer : AppAnswer) → Waiting t sc.world c op epoch → Has (seen.Answered c op answer) sc.seen →
    answer ≡ answers.Uncertain epoch 0

pub sent_of : (s : ServerId) (o : Operation) → is_asked s o ≡ true → cs.is_sent o ≡ true
sent_of s o e = go o.stage (and_true (cs.is_of s o) (cs.is_asked_at o.stage) e).1
  where
    go : (g : Stage) → cs.is_asked_at g ≡ true → cs.is_sent_at g ≡ true
    go stages.Sent w = refl
    go stages.Unsent w = cc w
    go stages.Stuck w = refl

module _ (past : List Step) (t : World) (sc : WorldTurn) (v : World) (c : ClientId) (i : ClientInput) (site old : WorldClient) (same : site.node ≡ old.node)
    (at : site_of t c ≡ Some old) (s : Took past t sc v c i site old) where
  abbrev st : ClientState
  st = site.node.state

  abbrev now : Stamp
  now = clock_of v (nodes.Client c)

  abbrev u : ClientTurn
  u = ClientTook v c i site

  -- its own step
  own : (op epoch : ℕ) (answer : AppAnswer) → Waiting t sc.world c op epoch → Has (seen.Answered c op answer) sc.seen → answer ≡ answers.Uncertain epoch 0
  own op epoch answer z seen_ = by (s.cases c z.next z.left)
    where
      here : z.site ≡ old
      here = some (sym z.at ∙ at)
        where
          some : Some z.site ≡ Some old → z.site ≡ old
          some e = cc

      before_in : Has z.before st.associations
      before_in =
          subst (λ (n : cl.ClientNode). Has z.before n.state.associations) (sym same)
          (subst (λ (w : WorldClient). Has z.before w.node.state.associations) here z.among)

      there_in : Has z.operation st.operations
      there_in =
          subst (λ (n : cl.ClientNode). Has z.operation n.state.operations) (sym same)
          (subst (λ (w : WorldClient). Has z.operation w.node.state.operations) here z.there)

      by : ThisOrOther t c (SiteAfter v c i site) c z.next → answer ≡ answers.Uncertain epoch 0
      by (inr q) = absurd (q.0 refl)
      by (inl q) = go (apart_from st.associations (onces st.associations s.node.once) z.before before_in pair.0 pair.1)
        where
          after_in : Has z.after u.state.associations
          after_in = subst (λ (w : WorldClient). Has z.after w.node.state.associations) q.1 z.within

          pair : (a : Association) × Has a st.associations × LifeNext now st a z.after
          pair = pair_of (LifeNext now st) st.associations u.state.associations (step_lives c st now i s.node.fit).pairs z.after after_in

          go : (pair.0 ≡ z.before) ⊎ (pair.0.server.0 ≡ z.before.server.0 → ⊥) → answer ≡ answers.Uncertain epoch 0
          go (inr n) = absurd (n (ap (λ (y : ServerId). y.0) (pair.2.server ∙ z.server)))
          go (inl e) = answered
            where
              ended : is_ended st.config now (Some z.session) ≡ true
              ended = pick (is_ended st.config now pair.0.session) refl
                where
                  to : is_ended st.config now pair.0.session ≡ is_ended st.config now (Some z.session)
                  to = ap (λ (a : Association). is_ended st.config now a.session) e ∙ ap (is_ended st.config now) z.has

                  pick : (b : Bool) → is_ended st.config now pair.0.session ≡ b → is_ended st.config now (Some z.session) ≡ true
                  pick true w = sym to ∙ w
                  pick false w =
                      let l = ap (λ (n : Life). n.0) (pair.2.lasts w).0 in
                      let d = z.life in
                      let k = ap (λ (a : Association). a.life.0) e in absurd (omega (arith, l, d, k))

              said : Has (outputs.Answer z.operation.op (answers.Uncertain z.session.epoch.0 0)) u.out
              said =
                  uncertain c (λ n. Came old site n) st now u s.ends (onces st.associations s.node.once) z.before before_in z.session z.has
                  (over_is st.config z.session.lease now ∙ ended) z.operation there_in
                  (and_true (cs.is_of z.before.server z.operation) (cs.is_asked_at z.operation.stage) z.asked).0 (sent_of z.before.server z.operation z.asked)

              answered : answer ≡ answers.Uncertain epoch 0
              answered =
                  told_once u.out z.operation.op answer (answers.Uncertain z.session.epoch.0 0)
                  (let g = s.ends.few z.operation.op in omega (arith, g))
                  (s.answered c z.operation.op answer (subst (λ n. Has (seen.Answered c n answer) sc.seen) (sym z.is) seen_)).1 said
                  ∙ ap (λ n. answers.Uncertain n 0) z.of_epoch

  pub step_answers : LivesAnswer t sc
  step_answers d op epoch answer z seen_ = go (same_or_not d.0 c.0)
    where
      go : (d.0 ≡ c.0) ⊎ (d.0 ≢ c.0) → answer ≡ answers.Uncertain epoch 0
      go (inr n) = absurd (not_others past t sc v c i site old s d n op answer seen_)
      go (inl e) =
          own op epoch answer (subst (λ (y : ClientId). Waiting t sc.world y op epoch) (ap (λ n. record { 0 = n }) e) z)
          (subst (λ (y : ClientId). Has (seen.Answered y op answer) sc.seen) (ap (λ n. record { 0 = n }) e) seen_)

module _ (k : Config) (count : ℕ) (past : List Step) (t : Traced) (e : Event) (sc : WorldTurn) (h : Hold k count past t) (owned : AllOwned t.world)
    (few : AllFew t.world) (taken : world_step t.world e ≡ Ok sc) where
  silent : (v : WorldTurn) → NoAnswers v.seen → LivesAnswer t.world v
  silent v none c op epoch answer z i = absurd (none (seen.Answered c op answer) i)

  pub lives_answer : LivesAnswer t.world sc
  lives_answer =
      event_does t.world (λ s n at. (h.cuts.servers s n at).id) Result (λ v cs ms none q. subst (LivesAnswer t.world) q (silent v none))
      (λ v cs c i site old same asks_next run at w l ans q.
      step_answers past t.world sc v c i site old same at
      (took_step k count past t h owned few sc v cs c i site old same asks_next at
      (subst (λ (r : WorldTurn). Leaves (messages t.world) (ev.with_site c (SiteAfter v c i site) v) r.world (ClientTook v c i site).out) q l)
      (subst (λ (r : WorldTurn). AnswersOf c (ClientTook v c i site).out [] r.seen) q ans)))
      (λ c old new at z w cs ms none q. subst (LivesAnswer t.world) q (silent w none))
      e sc taken refl
    where
      Result : WorldTurn → Type 0
      Result v = v ≡ sc → LivesAnswer t.world sc
