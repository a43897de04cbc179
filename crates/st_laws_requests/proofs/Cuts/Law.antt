-- Answers are logged: at the start, after every event, and over whole runs.
use Rattle.st_lemmas.proofs.Words
use Words.{◌≡◌, ℕ, ◌⊎◌, List, [], ◌∷◌, ◌++◌, Option, Some, None, Ok, refl, sym, subst, inl, inr, arith, true, nat_le, leb-true, Config, ClientId, ServerId}
use Words.{Event, Message, Observation, Session}
use Words.answers
use Words.seen
use Words.Extents.{numbers}
use Words.Keys.{client, server_node}
use Words.Client as cl
use Words.Server as server
use Words.World.{fresh_site, fresh_world, node_at_start}
use Words.Events.{WorldTurn, world_step}
use Words.History.{Traced, traced, traced_after}
use Words.Safety.{AnswersAreLogged, AreLogged, IsHead, IsLogged, Step, Throughout, step, steps}
use Words.Lists.{Has}
use Words.Tables.{and_true, has_append, has_map}
use Words.Lengths.{length_map, numbers_length}
use Rattle.st_lemmas.proofs.Steps.{step_happens, throughout}
use Rattle.st_laws_leases.specs.Dates.Dates.{messages}
use Rattle.st_laws_pages.proofs.Disks.Steps.{fates_law}
use Rattle.st_laws_pages.proofs.Disks.Whole.{fresh_fates}
use Rattle.st_laws_pages.specs.Asks.Law.{AreWrittenLogged, IsWrittenLogged, WrittenIsLogged}
use Rattle.st_laws_pages.proofs.Asks.Law.{written_law}
use Rattle.st_laws_requests.specs.Cuts.Cuts.{Acked, ClientOk, CutsHold, ServerOk, is_report}
use Rattle.st_laws_requests.specs.Cuts.Law.{RunsLogAnswers, CutsAreLogged, NamesAreSaid}
use Rattle.st_laws_requests.proofs.Cuts.World.{Next, acked_more, happens}
use Rattle.st_laws_pages.proofs.Lives.Fresh.{fresh_is}

-- Both halves of a line.
both : (past : List Step) (x : Step) (line : Option Observation) (o : Observation) → IsWrittenLogged past x line o → ((c : ClientId) (op : ℕ) → o ≡ seen.Answered c op answers.Cut → IsLogged past x line o) → IsLogged past x line o
both past x line (seen.Answered c op answers.Written) w f = w
both past x line (seen.Answered c op answers.Cut) w f = f c op refl
both past x line (seen.Answered c op a) w f = tt
both past x line o w f = tt

all_logged : (past : List Step) (x : Step) (line : Option Observation) (os : List Observation) → AreWrittenLogged past x line os → ((c : ClientId) (op : ℕ) (l : Option Observation) → Has (seen.Answered c op answers.Cut) os → IsLogged past x l (seen.Answered c op answers.Cut)) → AreLogged past x line os
unfolding AreLogged
all_logged past x line [] w f = tt
all_logged past x line (o ∷ os) w f = (both past x line o w.one (λ c op e. subst (IsLogged past x line) (sym e) (f c op line (inl (sym e)))), all_logged past x (Some o) os w.rest (λ c op l h. f c op l (inr h)))

logged : (past : List Step) (x : Step) → WrittenIsLogged past x → CutsAreLogged past x → AnswersAreLogged past x
logged past x w k = all_logged past x None x.seen w (λ c op l h. k c op h)

-- two promises that are kept throughout
throughout_both : (es : List Step) (past : List Step) → Throughout WrittenIsLogged past es → Throughout CutsAreLogged past es → Throughout AnswersAreLogged past es
unfolding Throughout
throughout_both [] past a b = tt
throughout_both (x ∷ rest) past a b = (logged past x a.0 b.0, throughout_both rest (past ++ x ∷ []) a.1 b.1)

-- One step.
next_holds : (past : List Step) (t : Traced) (e : Event) (sc : WorldTurn) (d : CutsHold past t) → world_step t.world e ≡ Ok sc → Next past t e d sc → CutsHold (past ++ step t e sc ∷ []) (traced_after e t sc)
next_holds past t e sc d q n =
    record {
      fates = fates_law t.world e sc q d.fates;
      grown = λ x h m i. grown x (has_append past _ x h) m i;
      acks = λ m h ack s r. acks m (n.new m h) ack s r;
      clients = n.clients;
      servers = n.servers;
      few = n.few;
    }
  where
    grown : (x : Step) → Has x past ⊎ Has x (step t e sc ∷ []) → (m : Message) → Has m (messages x.before.world) → Has m (messages sc.world)
    grown x (inl h) m i = n.old m (d.grown x h m i)
    grown x (inr (inl r)) m i = n.old m (subst (λ (y : Step). Has m (messages y.before.world)) r i)
    grown x (inr (inr h)) m i = absurd h

    acks : (m : Message) → Has m (messages t.world) ⊎ (is_report m.body ≡ true → (s : ServerId) → m.header.from ≡ server_node s → Acked (past ++ step t e sc ∷ []) (messages sc.world) (client m.header.to) s m.header.life m.header.epoch m.header.number m.body) →
        is_report m.body ≡ true → (s : ServerId) → m.header.from ≡ server_node s → Acked (past ++ step t e sc ∷ []) (messages sc.world) (client m.header.to) s m.header.life m.header.epoch m.header.number m.body
    acks m (inl h) ack s r = acked_more past (step t e sc) (messages t.world) (messages sc.world) n.old (client m.header.to) s m.header.life m.header.epoch m.header.number m.body (d.acks m h ack s r)
    acks m (inr f) ack s r = f ack s r

pub one : (past : List Step) (t : Traced) (e : Event) (sc : WorldTurn) → CutsHold past t → world_step t.world e ≡ Ok sc → CutsAreLogged past (step t e sc) × CutsHold (past ++ step t e sc ∷ []) (traced_after e t sc)
one past t e sc d h = let z = step_happens t.world e sc h in go (subst (λ (x : WorldTurn). Next past t e d x) (sym z.1) (happens past t d e z.0))
  where
    go : Next past t e d sc → CutsAreLogged past (step t e sc) × CutsHold (past ++ step t e sc ∷ []) (traced_after e t sc)
    go n = (n.cuts, next_holds past t e sc d h n)

-- what names say of a step
pub said : (past : List Step) (t : Traced) (e : Event) (sc : WorldTurn) → CutsHold past t → world_step t.world e ≡ Ok sc → NamesAreSaid past (step t e sc)
said past t e sc d h = let z = step_happens t.world e sc h in (subst (λ (x : WorldTurn). Next past t e d x) (sym z.1) (happens past t d e z.0)).names

-- The start.
fresh_client : (k : Config) (servers : ℕ) (c : ClientId) → ClientOk [] [] c (fresh_site k servers c.0)
unfolding cl.fresh_client
fresh_client k servers c =
    record {
      count = refl;
      asked = λ o h. absurd h;
      lives = λ a h m i. absurd i;
      one = λ a h m p i. absurd i;
      all = λ run a h. let z = has_map cl.fresh_association (numbers 1 servers) a h in
          subst (Rattle.st_laws_requests.specs.Cuts.Cuts.AssociationOk [] [] c []) (sym z.2) (record { numbers = record { lives = λ m i b. absurd i; placed = λ m i b. absurd i; one = λ m p i. absurd i; sent = tt; counts = tt }; waits = λ o i. absurd i; alone = λ o p i. absurd i });
    }

fresh_server : (k : Config) (servers disks blocks : ℕ) (s : ServerId) → ServerOk [] [] s (node_at_start k servers disks blocks s.0)
unfolding server.fresh_server
fresh_server k servers disks blocks s = record { id = refl; kept = λ c x h. none h }
  where
    none : {A : Type 0} {x : Session} → ◌≡◌ {A = Option Session} None (Some x) → A
    none h = cc

pub fresh_holds : (k : Config) (clients servers disks blocks form : ℕ) → IsHead k clients servers disks blocks form → CutsHold [] (traced (fresh_world k clients servers disks blocks form))
unfolding fresh_world
fresh_holds k clients servers disks blocks form head =
    record {
      fates = fresh_fates k clients servers disks blocks form;
      grown = λ x h. absurd h;
      acks = λ m h. absurd h;
      clients = λ c site e. subst (ClientOk [] [] c) (sym (fresh_is (fresh_site k servers) clients c.0 site e)) (fresh_client k servers c);
      servers = λ s node e. subst (ServerOk [] [] s) (sym (fresh_is (node_at_start k servers disks blocks) servers s.0 node e)) (fresh_server k servers disks blocks s);
      few = let z = length_map (fresh_site k servers) (numbers 1 clients) in let y = numbers_length 1 clients in let q = leb-true clients 16 (and_true (nat_le 1 clients) (nat_le clients 16) head.some_clients).1 in omega (arith, z, y, q);
    }

pub runs_log_answers : RunsLogAnswers
runs_log_answers k clients servers disks blocks form es head events =
    throughout_both (steps es (traced (fresh_world k clients servers disks blocks form))) [] (written_law k clients servers disks blocks form es head)
    (throughout CutsAreLogged CutsHold one es [] (traced (fresh_world k clients servers disks blocks form)) (fresh_holds k clients servers disks blocks form head))
