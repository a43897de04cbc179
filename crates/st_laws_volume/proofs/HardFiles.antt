-- In every run a page that is dirty after an event was changed after each answer of the event that its file is hard.
use Rattle.st_lemmas.proofs.Words
use Words.{◌≡◌, ◌≢◌, ℕ, suc, ◌+◌, ◌⊎◌, Bool, true, false, ◌&&◌, ◌||◌, ◌==◌, List, [], ◌∷◌, ◌++◌, Option, Some, None, Ok, refl, sym, ap, ◌∙◌, subst, inl, inr, arith, if◌then◌else◌}
use Words.{append-nil, cons_option, eq-eqb, eqb-true, length, map, BlockAt, ClientId, Command, DirtyPage, Event, FileId, PageNo, ServerId, AppAnswer, Ask, Note, Output}
use Words.{ClientInput, Observation, Operation}
use Words.answers
use Words.events
use Words.inputs
use Words.notes
use Words.outputs
use Words.seen
use Words.Client as cl
use Words.ClientPages as pages
use Words.ClientState.{Association, ClientState}
use Words.Events as ev
use Words.Events.{WorldTurn, world_step}
use Words.Keys.{same_client}
use Words.Lists.{Has}
use Words.Lookups.{some_is}
use Words.Numbers.{get_last, numbered_old}
use Words.Safety as safety
use Words.Safety.{Promise, Step, ask_in, ask_of, step, steps}
use Words.Tables.{has_map_in, same_or_not}
use Words.Truth.{clash}
use Words.World as world
use Words.World.{World, WorldClient, fresh_world, numbered, site_of}
use Rattle.st_base.specs.declared.config.Config.{Config}
use Rattle.st_rules.specs.History.{Traced, traced}
use Rattle.st_laws_steps.specs.Lives.Lives.{NodeHolds}
use Rattle.st_laws_pages.specs.Asks.Law.{PlacesHold}
use Rattle.st_laws_pages.specs.Disks.Obligations.{FatesHold}
use Rattle.st_laws_pages.proofs.Asks.Client.{key}
use Rattle.st_laws_pages.proofs.Asks.Law.{places_law}
use Rattle.st_laws_pages.proofs.Asks.World.{asks_more, asks_of}
use Rattle.st_laws_pages.proofs.Causes.Law.{Stand, fresh_places, fresh_stand, one_step}
use Rattle.st_laws_volume.specs.HardFiles.{HardFilesAreClean, after_hard, after_line, after_lines, is_page_at, is_sync_at}
use Rattle.st_laws_volume.specs.Logs.{InEveryRun}
use Rattle.st_laws_volume.specs.Witness.{Witness}
use Rattle.st_laws_volume.proofs.Carried.{IsGiven, given_in}
use Rattle.st_laws_volume.proofs.ClientAnswers.{Tells}
use Rattle.st_laws_volume.proofs.DirtyAfterHard.{after_all, after_output, step_clean}
use Rattle.st_laws_volume.proofs.EventAnswers.{AnswersOf, ByAsk, ByMessage, ByReport, ByTick, GivesNone, Given, Stepping, Steps, TakesAt, event_answers, given_by, given_in_lines, of_output}

-- Lines without an answer to a client.
abbrev OfOther : ClientId → Given → Type 0
OfOther c g = g.client.0 ≡ c.0 → ⊥

abbrev AllOther : ClientId → List Given → Type 0
AllOther c [] = Unit {0}
AllOther c (g ∷ gs) = OfOther c g × AllOther c gs

module _ (asked : ℕ → Option Ask) (c : ClientId) (s : ServerId) (ino : ℕ) (p : PageNo) where
  if_quiet : (b : Bool) → (if b then false else false) ≡ false
  if_quiet true = refl
  if_quiet false = refl

  hard_quiet : (d : ClientId) → (d.0 ≡ c.0 → ⊥) → (op : ℕ) (a : AppAnswer) → after_hard (same_client d c) s ino false (asked op) a ≡ false
  hard_quiet d n op answers.Hard = go (same_client d c) refl
    where
      go : (b : Bool) → same_client d c ≡ b → ((b && is_sync_at s ino (asked op)) || false) ≡ false
      go false e = refl
      go true e = absurd (n (eqb-true d.0 c.0 e))
  hard_quiet d n op a = refl

  other_quiet : (os : List Observation) → AllOther c (given_in_lines os) → after_lines asked c s ino p false os ≡ false
  unfolding after_lines
  other_quiet [] h = refl
  other_quiet (seen.Answered d op a ∷ os) h = ap (λ b. after_lines asked c s ino p b os) (hard_quiet d h.0 op a) ∙ other_quiet os h.1
  other_quiet (seen.Wrote i d f q bytes ∷ os) h =
      ap (λ b. after_lines asked c s ino p b os) (if_quiet (same_client d c && is_page_at s ino p f q)) ∙ other_quiet os h
  other_quiet (seen.Patched i d f q at bytes ∷ os) h =
      ap (λ b. after_lines asked c s ino p b os) (if_quiet (same_client d c && is_page_at s ino p f q)) ∙ other_quiet os h
  other_quiet (seen.CutAt i f q ∷ os) h = other_quiet os h
  other_quiet (seen.Hardened i ∷ os) h = other_quiet os h
  other_quiet (seen.Dropped i cause ∷ os) h = other_quiet os h
  other_quiet (seen.Sent k m ∷ os) h = other_quiet os h
  other_quiet (seen.Submitted k d number what ∷ os) h = other_quiet os h
  other_quiet (seen.Leased d r end ∷ os) h = other_quiet os h
  other_quiet (seen.Lost d r life ∷ os) h = other_quiet os h
  other_quiet (seen.Suspected r d start ∷ os) h = other_quiet os h
  other_quiet (seen.Stolen r d life ∷ os) h = other_quiet os h

  -- Lines of the client's outputs.
  lines_last : (b : Bool) (os : List Observation) (o : Observation) →
      after_lines asked c s ino p b (os ++ o ∷ []) ≡ after_line asked c s ino p (after_lines asked c s ino p b os) o
  unfolding after_lines
  lines_last b [] o = refl
  lines_last b (x ∷ os) o = lines_last (after_line asked c s ino p b x) os o

  abbrev So : Output → WorldTurn → WorldTurn → Type 0
  So o sc new = after_lines asked c s ino p false new.seen ≡ after_output asked s ino p (after_lines asked c s ino p false sc.seen) o

  self : same_client c c ≡ true
  self = eq-eqb c.0 c.0 refl

  own_answer : (b : Bool) (op : ℕ) (a : AppAnswer) → after_hard (same_client c c) s ino b (asked op) a ≡ after_output asked s ino p b (outputs.Answer op a)
  own_answer b op answers.Hard = ap (λ m. (m && is_sync_at s ino (asked op)) || b) self
  own_answer b op a = refl

  own_page : (f : FileId) (q : PageNo) (b : Bool) →
      (if same_client c c && is_page_at s ino p f q then false else b) ≡ (if is_page_at s ino p f q then false else b)
  own_page f q b = ap (λ m. if m && is_page_at s ino p f q then false else b) self

  note_so : (before : ClientState) (n : Note) (sc : WorldTurn) → So (outputs.Note n) sc (ev.client_notes sc c before n)
  unfolding ev.client_notes ev.accepts ev.patches ev.loses
  note_so before (notes.Leased v end) sc = lines_last false sc.seen _
  note_so before (notes.Lost v life) sc = lines_last false sc.seen _
  note_so before (notes.Accepted f q bytes) sc = lines_last false sc.seen _ ∙ own_page f q (after_lines asked c s ino p false sc.seen)
  note_so before (notes.Patched f q at bytes) sc = lines_last false sc.seen _ ∙ own_page f q (after_lines asked c s ino p false sc.seen)
  note_so before n sc = refl

  submit_so : (o : Option WorldClient) (number : ℕ) (place : BlockAt) (what : Command) (sc : WorldTurn) →
      So (outputs.Submit number place what) sc (ev.submits sc c o number place what)
  unfolding ev.submits
  submit_so None number place what sc = refl
  submit_so (Some site) number place what sc = lines_last false sc.seen _

  pub one_so : (before : ClientState) (o : Output) (sc : WorldTurn) → So o sc (ev.client_says sc c before o)
  unfolding ev.client_says ev.sends ev.answers_with
  one_so before (outputs.Send m) sc = lines_last false sc.seen _
  one_so before (outputs.Submit number place what) sc = submit_so (site_of sc.world c) number place what sc
  one_so before (outputs.Answer op a) sc =
      lines_last false sc.seen (seen.Answered c op a) ∙ own_answer (after_lines asked c s ino p false sc.seen) op a
  one_so before (outputs.Note n) sc = note_so before n sc

  all_so : (before : ClientState) (os : List Output) (sc : WorldTurn) →
      after_lines asked c s ino p false (ev.client_says_all c before os sc).seen ≡ after_all asked s ino p (after_lines asked c s ino p false sc.seen) os
  unfolding ev.client_says_all
  all_so before [] sc = refl
  all_so before (o ∷ os) sc =
      all_so before os (ev.client_says sc c before o) ∙ ap (λ b. after_all asked s ino p b os) (one_so before o sc)

-- all answers of a step are given to its client
given_other : (c d : ClientId) → (d.0 ≡ c.0 → ⊥) → (os : List Output) → AllOther c (given_by d os)
given_other c d n [] = tt
given_other c d n (outputs.Answer op a ∷ os) = (n, given_other c d n os)
given_other c d n (outputs.Send m ∷ os) = given_other c d n os
given_other c d n (outputs.Submit number at what ∷ os) = given_other c d n os
given_other c d n (outputs.Note m ∷ os) = given_other c d n os

-- An event.
module _ (past : List Step) (t : Traced) (e : Event) (sc : WorldTurn) (stand : Stand past t) where
  abbrev x' : Step
  x' = step t e sc

  module _ (r : Stepping t.world e sc) where
    abbrev asked : ℕ → Option Ask
    asked = ask_of past x' r.client

    abbrev state : ClientState
    state = r.site.node.state

    grown : (op : ℕ) (ask : Ask) → numbered (asks_of past r.client) op ≡ Some ask → asked op ≡ Some ask
    grown op ask q = ap (λ l. numbered l op) (asks_more past x' r.client) ∙ by (ask_in r.client e)
      where
        by : (o : Option Ask) → numbered (asks_of past r.client ++ cons_option o []) op ≡ Some ask
        by None = ap (λ l. numbered l op) (append-nil (asks_of past r.client)) ∙ q
        by (Some y) = numbered_old (asks_of past r.client) y op ask q

    pub known : (o : Operation) → Has o state.operations → asked o.op ≡ Some o.ask
    known o i = grown o.op o.ask ((stand.asks r.client r.site r.at).keys (key o) (has_map_in key state.operations o i))

    comes : (ask : Ask) → e ≡ events.App r.client ask → asked (r.site.asks + 1) ≡ Some ask
    unfolding safety.ask_of_client
    comes ask q =
        ap (λ l. numbered l (r.site.asks + 1)) own
        ∙ (ap (λ m. numbered (asks_of past r.client ++ ask ∷ []) m)
        (let n = (stand.asks r.client r.site r.at).count in let z : r.site.asks + 1 ≡ suc (length (asks_of past r.client)) = omega (arith, n) in z)
        ∙ get_last (asks_of past r.client) ask)
      where
        own : asks_of (past ++ x' ∷ []) r.client ≡ asks_of past r.client ++ ask ∷ []
        own =
            asks_more past x' r.client
            ∙ ap (λ o. asks_of past r.client ++ cons_option o [])
            (ap (ask_in r.client) q ∙ ap (λ b. if b then Some ask else None) (eq-eqb r.client.0 r.client.0 refl))

    pub tells : (i : ClientInput) → TakesAt t.world e r.client r.site i → Tells (λ op ask. asked op ≡ Some ask) (λ v n. Unit {0}) i
    tells _ (ByTick q) = tt
    tells _ (ByAsk ask q) = comes ask q
    tells _ (ByMessage k m q z y) = λ s from. tt
    tells _ (ByReport k ok x result q i y z failed) = tt

    pub holds : NodeHolds t.world.config t.world.clocks t.world.ended r.client r.site.node
    holds = stand.fates.lives.lives.sites r.client r.site r.at

    own_clean : (a : Association) → Has a r.after.node.state.associations → (ino : ℕ) (p : PageNo) (d : DirtyPage) →
        pages.dirty_of a.store.pages ino p ≡ Some d → after_lines asked r.client a.server ino p false sc.seen ≡ false
    unfolding after_lines
    own_clean a i ino p d q =
        ap (after_lines asked r.client a.server ino p false) r.says
        ∙ (all_so asked r.client a.server ino p state (cl.client_step state r.now r.input).out r.before
        ∙ (ap (λ os. after_all asked a.server ino p (after_lines asked r.client a.server ino p false os) (cl.client_step state r.now r.input).out) r.unseen
        ∙ step_clean asked r.now r.client state r.input holds.fit holds.once known (tells r.input r.takes) a
        (subst (λ (z : ClientState). Has a z.associations) r.state_is i) ino p d q))

  clean_by : AnswersOf t.world e sc → (c : ClientId) (site : WorldClient) (a : Association) (ino : ℕ) (p : PageNo) (d : DirtyPage) →
      site_of sc.world c ≡ Some site →
      Has a site.node.state.associations → pages.dirty_of a.store.pages ino p ≡ Some d → after_lines (ask_of past x' c) c a.server ino p false sc.seen ≡ false
  clean_by (GivesNone q) c site a ino p d at i z = other_quiet (ask_of past x' c) c a.server ino p sc.seen (subst (AllOther c) (sym q) tt)
  clean_by (Steps r) c site a ino p d at i z = by (same_or_not r.client.0 c.0)
    where
      by : (r.client.0 ≡ c.0) ⊎ (r.client.0 ≢ c.0) → after_lines (ask_of past x' c) c a.server ino p false sc.seen ≡ false
      by (inr n) =
          other_quiet (ask_of past x' c) c a.server ino p sc.seen
          (subst (AllOther c) (sym r.gives) (given_other c r.client n (cl.client_step r.site.node.state r.now r.input).out))
      by (inl q) =
          let same : r.client ≡ c = ap (λ n. record { 0 = n }) q in
          let its : r.after ≡ site = some_is (sym r.left ∙ (ap (site_of sc.world) same ∙ at)) in
          subst (λ b. after_lines (ask_of past x' b) b a.server ino p false sc.seen ≡ false) same
          (own_clean r a (subst (λ (y : WorldClient). Has a y.node.state.associations) (sym its) i) ino p d z)

-- In every run.
record CleanHolds (past : List Step) (t : Traced) (it : Witness) : Type 0 where
  stand : Stand past t
  places : PlacesHold t.world

CleanToo : List Step → Step → Witness → Type 0
CleanToo past x it = HardFilesAreClean past x

clean_on : IsGiven (λ past x. PlacesHold x.after.world) CleanHolds CleanToo
unfolding CleanToo
clean_on past t e sc it f g h = (
  λ c site a ino p d at i z. clean_by past t e sc h.stand (event_answers t.world e sc f) c site a ino p d at i z,
  record { stand = (one_step past t e sc f h.places h.stand).stand; places = g },
)

pub hard_files_are_clean : InEveryRun HardFilesAreClean
unfolding CleanToo
hard_files_are_clean k clients servers disks blocks form es head events =
    given_in (λ past x. PlacesHold x.after.world) CleanHolds CleanToo clean_on es (traced (fresh_world k clients servers disks blocks form))
    (record { stand = fresh_stand k clients servers disks blocks form; places = fresh_places k clients servers disks blocks form })
    (places_law k clients servers disks blocks form es head)
