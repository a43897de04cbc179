-- A client that answers a read of a server, or notes a change of a page there, has a session at that server after the event, with a lease that lasts.
use Rattle.st_lemmas.proofs.Words
use Words.{◌≡◌, ◌⊎◌, ℕ, ◌+◌, ◌<◌, true, false, List, [], ◌∷◌, Option, Some, None, refl, sym, ap, ◌∙◌, subst, inl, inr}
use Words.{eqb-true, find, leb-false, ltb-true, option_map, AppAnswer, Ask, ClientId, Event, Observation, Operation, Output, ServerId, Stamp, Config}
use Words.answers
use Words.nodes
use Words.outputs
use Words.seen
use Words.Client as cl
use Words.ClientLease as lease
use Words.ClientState as cs
use Words.ClientState.{Association, ClientSession, is_at}
use Words.Events.{WorldTurn}
use Words.Lists.{Has}
use Words.Lookups.{some_is}
use Words.Members.{has_left, has_right}
use Words.Safety as safety
use Words.Safety.{step}
use Words.Tables.{and_true, found_at, has_append}
use Words.Truth.{clash, server_is, some_there}
use Words.World as world
use Words.World.{World, WorldClient, clock_of, site_of}
use Rattle.st_laws_steps.specs.Client.Losses.{is_ended}
use Rattle.st_laws_steps.specs.Lives.Lives.{LivesHold}
use Rattle.st_laws_pages.proofs.Flush.Flushing.{step_flushed}
use Rattle.st_laws_pages.proofs.Lives.LifeSteps.{steps_so}
use Rattle.st_laws_refine.specs.Client.Invariants.{Lasts}
use Rattle.st_laws_volume.proofs.ClientAnswers.{Tells}
use Rattle.st_laws_volume.proofs.EventAnswers.{AnswersOf, Given, GivesNone, Stepping, Steps, given_by, given_in_lines, of_output, of_seen}
use Rattle.st_laws_volume.proofs.ReadSessions.{ReadAt, reads_have_sessions}

-- a client has a session at a server, with a lease that lasts
pub record HasSession (v : World) (c : ClientId) (s : ServerId) : Type 0 where
  pub site : WorldClient
  pub at : site_of v c ≡ Some site
  pub runs : site.node.running ≡ true
  pub association : Association
  pub among : Has association site.node.state.associations
  pub server : association.server ≡ s
  pub session : ClientSession
  pub has : association.session ≡ Some session
  pub lasts : Lasts site.node.state.config.lease (clock_of v (nodes.Client c)).0 association.session

-- Answers of lines and of outputs.
pub in_lines : (os : List Observation) (c : ClientId) (op : ℕ) (a : AppAnswer) → Has (seen.Answered c op a) os →
    Has (record { client = c; op = op; answer = a }) (given_in_lines os)
in_lines [] c op a i = absurd i
in_lines (o ∷ os) c op a (inl e) =
    has_left (of_seen o) (given_in_lines os) (record { client = c; op = op; answer = a })
    (subst (λ (x : Observation). Has (record { client = c; op = op; answer = a }) (of_seen x)) e (inl refl))
in_lines (o ∷ os) c op a (inr i) = has_right (of_seen o) (given_in_lines os) (record { client = c; op = op; answer = a }) (in_lines os c op a i)

pub of_outputs : (c : ClientId) (os : List Output) (g : Given) → Has g (given_by c os) → (g.client ≡ c) × Has (outputs.Answer g.op g.answer) os
of_outputs c [] g i = absurd i
of_outputs c (o ∷ os) g i = go (has_append (of_output c o) (given_by c os) g i) (λ j. of_outputs c os g j)
  where
    one : (o : Output) → Has g (of_output c o) → (g.client ≡ c) × (outputs.Answer g.op g.answer ≡ o)
    one (outputs.Answer op a) (inl e) = (ap (λ (x : Given). x.client) e, ap (λ (x : Given). outputs.Answer x.op x.answer) e)
    one (outputs.Answer op a) (inr j) = absurd j
    one (outputs.Send m) j = absurd j
    one (outputs.Submit n at what) j = absurd j
    one (outputs.Note n) j = absurd j

    go : Has g (of_output c o) ⊎ Has g (given_by c os) → (Has g (given_by c os) → (g.client ≡ c) × Has (outputs.Answer g.op g.answer) os) →
        (g.client ≡ c) × Has (outputs.Answer g.op g.answer) (o ∷ os)
    go (inl j) f = let z = one o j in (z.0, inl z.1)
    go (inr j) f = let z = f j in (z.0, inr z.1)

-- a line that answers is one of the client that takes a step
abbrev pub ItsAnswer : World → Event → WorldTurn → ClientId → ℕ → AppAnswer → Type 0
ItsAnswer t e sc c op a =
    (r : Stepping t e sc) × (c ≡ r.client) × Has (outputs.Answer op a) (cl.client_step r.site.node.state r.now r.input).out

pub its_answer : (t : World) (e : Event) (sc : WorldTurn) → AnswersOf t e sc → (c : ClientId) (op : ℕ) (a : AppAnswer) → Has (seen.Answered c op a) sc.seen →
    ItsAnswer t e sc c op a
its_answer t e sc (GivesNone q) c op a i = absurd (subst (Has (record { client = c; op = op; answer = a })) q (in_lines sc.seen c op a i))
its_answer t e sc (Steps r) c op a i =
    let z =
    of_outputs r.client (cl.client_step r.site.node.state r.now r.input).out (record { client = c; op = op; answer = a })
    (subst (Has (record { client = c; op = op; answer = a })) r.gives (in_lines sc.seen c op a i)) in
    (r, z.0, z.1)

-- a lease that isn't over lasts
lasts_on : (k : _) (now : Stamp) (x : ClientSession) → is_ended k now (Some x) ≡ false → now.0 < x.lease.date.0 + k.lease
lasts_on k now x e = leb-false (lease.end_of k x.lease).0 now.0 e

module _ (t : World) (e : Event) (sc : WorldTurn) (lives : LivesHold t) (r : Stepping t e sc) where
  config : r.after.node.state.config ≡ r.site.node.state.config
  config =
      ap (λ (s : cs.ClientState). s.config) r.state_is
      ∙ (ap (λ n. (cl.client_step r.site.node.state n r.input).state.config) r.clock
      ∙ sym (steps_so t r.client r.site r.site r.input r.at refl lives).config)

  going : (b : Association) → Has b r.after.node.state.associations → (x : ClientSession) → b.session ≡ Some x →
      Lasts r.after.node.state.config.lease (clock_of sc.world (nodes.Client r.client)).0 b.session
  unfolding cl.client_step
  going b i x f =
      subst (Lasts r.after.node.state.config.lease (clock_of sc.world (nodes.Client r.client)).0) (sym f)
      (subst (λ k. (clock_of sc.world (nodes.Client r.client)).0 < x.lease.date.0 + k) (ap (λ k. lease_of k) (sym config))
      (subst (λ (n : Stamp). n.0 < x.lease.date.0 + r.site.node.state.config.lease) (sym r.time)
      (lasts_on r.site.node.state.config r.now x
      (ap (is_ended r.site.node.state.config r.now) (sym f)
      ∙ (step_flushed [] t r.client r.site r.site r.input r.now r.at refl refl lives b
      (subst (λ (s : cs.ClientState). Has b s.associations) r.state_is i)).going))))
    where
      lease_of : Config → ℕ
      lease_of k = k.lease

  -- a read
  pub reads_last : (as_ : List Ask) → ((o : Operation) → Has o r.site.node.state.operations → world.numbered as_ o.op ≡ Some o.ask) →
      Tells (λ op ask. world.numbered as_ op ≡ Some ask) (λ s n. Unit {0}) r.input → (op : ℕ) (bytes : List ℕ) →
      Has (outputs.Answer op (answers.Read bytes)) (cl.client_step r.site.node.state r.now r.input).out → (ask : Ask) → world.numbered as_ op ≡ Some ask →
      HasSession sc.world r.client (cs.server_of ask)
  reads_last as_ known tells op bytes i ask asked =
      go (reads_have_sessions r.now (λ n k. world.numbered as_ n ≡ Some k) r.site.node.state r.input known tells op bytes i)
    where
      go : ReadAt r.now (λ n k. world.numbered as_ n ≡ Some k) (cl.client_step r.site.node.state r.now r.input).state.associations op →
          HasSession sc.world r.client (cs.server_of ask)
      go (b, j, h) =
          let x = some_there b.session h.session in
          let there : Has b r.after.node.state.associations = subst (λ (s : cs.ClientState). Has b s.associations) (sym r.state_is) j in
          record {
            site = r.after;
            at = r.left;
            runs = r.runs_on;
            association = b;
            among = there;
            server =
                sym (server_is (cs.server_of h.operation.ask) b.server (eqb-true (cs.server_of h.operation.ask).0 b.server.0 h.own))
                ∙ ap cs.server_of (some_is (sym h.known ∙ (ap (world.numbered as_) h.is ∙ asked)));
            session = x.0;
            has = x.1;
            lasts = going b there x.0 x.1;
          }

-- a lease that lasts, as the promises have it
pub lasting_has : (v : World) (c : ClientId) (s : ServerId) → safety.lasts v c s ≡ true → HasSession v c s
lasting_has v c s e = at (site_of v c) refl e
  where
    at : (y : Option WorldClient) → site_of v c ≡ y → safety.lasts_at (clock_of v (nodes.Client c)) s y ≡ true → HasSession v c s
    at None q h = cc h
    at (Some site) q h = found (cl.association_with site.node.state s) refl b.1
      where
        b : (site.node.running ≡ true) × (safety.is_before (clock_of v (nodes.Client c)) (cl.lease_end_with site.node.state s) ≡ true)
        b = and_true site.node.running (safety.is_before (clock_of v (nodes.Client c)) (cl.lease_end_with site.node.state s)) h

        has : (a : Association) → find (is_at s) site.node.state.associations ≡ Some a → (o : Option ClientSession) → a.session ≡ o →
            safety.is_before (clock_of v (nodes.Client c)) (lease.end_at site.node.state.config (cl.lease_at (Some a))) ≡ true → HasSession v c s
        has a p None f h = clash h (ap (λ (z : Option ClientSession). safety.is_before (clock_of v (nodes.Client c))
            (lease.end_at site.node.state.config (option_map cl.lease_of_session z))) f)
        has a p (Some x) f h =
            record {
              site = site;
              at = q;
              runs = b.0;
              association = a;
              among = (found_at (is_at s) site.node.state.associations a p).1;
              server = server_is a.server s (eqb-true a.server.0 s.0 (found_at (is_at s) site.node.state.associations a p).0);
              session = x;
              has = f;
              lasts =
                  subst (Lasts site.node.state.config.lease (clock_of v (nodes.Client c)).0) (sym f)
                  (ltb-true (clock_of v (nodes.Client c)).0 (lease.end_of site.node.state.config x.lease).0
                  (sym (ap (λ (z : Option ClientSession). safety.is_before (clock_of v (nodes.Client c))
                  (lease.end_at site.node.state.config (option_map cl.lease_of_session z))) f) ∙ h));
            }

        found : (o : Option Association) → cl.association_with site.node.state s ≡ o →
            safety.is_before (clock_of v (nodes.Client c)) (lease.end_at site.node.state.config (cl.lease_at o)) ≡ true → HasSession v c s
        found None p h = cc h
        found (Some a) p h = has a p a.session refl h
