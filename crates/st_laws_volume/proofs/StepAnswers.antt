-- At each answer of an event in which a client takes a step: what its cause, a fact that lasts within the event, and the missing result give.
use Rattle.st_lemmas.proofs.Words
use Words.{◌≡◌, ℕ, ◌+◌, true, List, [], ◌∷◌, ◌++◌, Some, None, Ok, refl, sym, ap, ◌∙◌, subst, append_assoc, map}
use Words.{find, Ask, ClientId, Event, Observation}
use Words.seen
use Words.ClientState.{Association}
use Words.Events.{WorldTurn, world_step}
use Words.History.{Traced, traced_after}
use Words.Safety.{Step, all_followed, step}
use Words.World.{World, numbered, site_of}
use Rattle.st_protocol.specs.Assoc as net
use Rattle.st_laws_pages.proofs.Asks.Client.{key}
use Rattle.st_laws_pages.proofs.Asks.World.{asks_of}
use Rattle.st_laws_names.proofs.Facts.{FactsHold}
use Rattle.st_laws_volume.specs.AnswerKinds.{IsOfUndone}
use Rattle.st_laws_volume.specs.Asks.{HasAsksOf, at_site}
use Rattle.st_laws_volume.specs.Options.{OnSome}
use Rattle.st_laws_volume.specs.Seen.{of_event, of_line}
use Rattle.st_laws_volume.specs.StepKinds.{AtEachStep}
use Rattle.st_laws_volume.specs.Witness.{Witness, before_line, of_lines, steps_of}
use Rattle.st_laws_volume.proofs.AnswerCauses.{Fits, all_say, input_tells}
use Rattle.st_laws_volume.proofs.AnswerLines.{AllAsked, AllFit, IsFineBy, LastsInside, at_two, block_by, comes_to, event_each, event_fine, lasting_at, none_served, step_of}
use Rattle.st_laws_volume.proofs.AskClient.{coming}
use Rattle.st_laws_volume.proofs.AskedAsks.{AreOf}
use Rattle.st_laws_volume.proofs.AskEvents.{AllOpenFor}
use Rattle.st_laws_volume.proofs.AskSteps.{told_all}
use Rattle.st_laws_volume.proofs.ChangeLines.{on_both}
use Rattle.st_laws_volume.proofs.EventAnswers.{AnswersOf, GivesNone, Given, Stepping, Steps}
use Rattle.st_laws_volume.proofs.LogLines.{run_then}
use Rattle.st_laws_volume.proofs.OpenAnswers.{OfAnswers, at_both, block}
use Rattle.st_laws_volume.proofs.OpenResults.{AllFine, run_fine}
use Rattle.st_laws_volume.proofs.Options.{on_all, on_more}
use Rattle.st_laws_volume.proofs.SessionEpochs.{EpochsRight}
use Rattle.st_laws_volume.proofs.StepKinds.{lines_inside}
use Rattle.st_laws_volume.proofs.ToldSteps.{Told, event_kept}
use Rattle.st_laws_volume.proofs.TreeSteps.{SameTrees, all_same, line_same}
use Rattle.st_laws_volume.proofs.Trees.{event_is}
use Rattle.st_laws_volume.proofs.UnresultedAnswers.{lines_undone}
use Rattle.st_laws_volume.proofs.UnservedAsks.{WasServed}
use Rattle.st_volume.specs.declared.step.VolumeStep.{VolumeStep}
use Rattle.st_volume.specs.declared.step.VolumeStep.TheVariants as kinds
use Rattle.st_volume.specs.Trees.{Tree}
use Rattle.st_volume.specs.Volume as volume
use Rattle.st_volume.specs.Volume.{Pending, Volume, is_ask, run}

-- The trees at each answer of an event are those before its lines.
abbrev pub TreesAt : List Tree → VolumeStep → Volume → Type 0
TreesAt xs (kinds.Answered c op answer) u = u.trees ≡ xs
TreesAt xs it u = Unit {0}

trees_silent : (xs : List Tree) → OfAnswers (TreesAt xs)
trees_silent xs (kinds.Answered c op answer) u q = cc
trees_silent xs it u q = tt

lines_trees : (xs : List Tree) (w : World) (os : List Observation) (u : Volume) → u.trees ≡ xs → AtEachStep (TreesAt xs) (of_lines w os) u
unfolding of_lines AtEachStep
lines_trees xs w [] u h = tt
lines_trees xs w (o ∷ os) u h =
    subst (λ its. AtEachStep (TreesAt xs) its u) (append_assoc (before_line o os) (of_line w o) (of_lines w os))
    (at_both (TreesAt xs) (block w o os) (of_lines w os) u (block_by (TreesAt xs) (trees_silent xs) w o os u (λ c op a e. h))
    (on_more (SameTrees u) (AtEachStep (TreesAt xs) (of_lines w os)) (λ z k. lines_trees xs w os z (k ∙ h)) (run (block w o os) u)
    (run_then (SameTrees u) (before_line o os) (of_line w o) u (line_same w o os u))))

-- If no such fact is needed.
abbrev pub Any : Volume → Type 0
Any u = Unit {0}

pub any_lasts : LastsInside Any
any_lasts i u q h = on_all Any (λ z. tt) (volume.step u i)

module _ (k : net.Config) (count : ℕ) (past : List Step) (t : Traced) (e : Event) (sc : WorldTurn) (happened : world_step t.world e ≡ Ok sc)
    (facts : FactsHold k count past t) (n : FactsHold k count (past ++ step t e sc ∷ []) (traced_after e t sc)) (right : EpochsRight t.world) (it : Witness)
    (v : Volume) (Lasting : Volume → Type 0) (lasts : LastsInside Lasting) (Goal : VolumeStep → Volume → Type 0) (silent : OfAnswers Goal) where
  abbrev w : World
  w = t.world

  abbrev as_ : ClientId → List Ask
  as_ = asks_of (past ++ step t e sc ∷ [])

  -- the asks of the client that takes the step
  abbrev pub start : Stepping w e sc → List (ℕ × Ask)
  start r = (told_all r.client (of_event w e) (at_site (site_of w r.client))).pending

  abbrev pub before : Stepping w e sc → List Association
  before r = r.site.node.state.associations

  pub start_is : (r : Stepping w e sc) → start r ≡ map key r.site.node.state.operations ++ coming r.input
  start_is r = ap (λ o. (told_all r.client (of_event w e) (at_site o)).pending) r.at ∙ comes_to w e r.client r.site r.input r.takes

  -- An answer, and the ask that it goes to.
  pub record IsGiven (r : Stepping w e sc) (u : Volume) (g : Given) (a : Pending) : Type 0 where
    pub all : AllAsked w e (asks_of (past ++ step t e sc ∷ []))
    pub found : find (is_ask g.client g.op) u.pending ≡ Some a
    pub asked : numbered (asks_of (past ++ step t e sc ∷ []) g.client) g.op ≡ Some a.ask
    pub undone : IsOfUndone (step_of g) u
    pub trees : u.trees ≡ v.trees
    pub lasting : Lasting u
    pub fits : Fits w r.client (start r) r.input (before r) g

  module _ (one : (r : Stepping w e sc) (u : Volume) (g : Given) (a : Pending) → IsGiven r u g a → Goal (step_of g) u) where
    abbrev Fact : VolumeStep → Volume → Type 0
    Fact i u = IsOfUndone i u × (TreesAt v.trees i u × Lasting u)

    takes_one : (r : Stepping w e sc) → AllAsked w e as_ → IsFineBy Goal Fact (Fits w r.client (start r) r.input (before r)) as_
    takes_one r all u g a told fact found asked fits =
        one r u g a
        (record { all = all; found = found; asked = asked; undone = fact.0; trees = fact.1.0; lasting = fact.1.1; fits = fits })

    pub event_answered : Told v → HasAsksOf w v → AreOf (asks_of past) v →
        ((c : ClientId) → AllOpenFor w c sc.seen (told_all c (of_event w e) (at_site (site_of w c)))) → all_followed sc.seen ≡ true →
        AllFine (WasServed past w) None v → OnSome Lasting (run (of_event w e) v) → AnswersOf w e sc → AtEachStep Goal (steps_of it v (step t e sc)) v
    event_answered told asks asked opened followed fine lasting (GivesNone q) =
        event_each Goal silent w it v sc.seen e (subst (AllFit (λ g. (u : Volume) → Goal (step_of g) u)) (sym q) tt)
    event_answered told asks asked opened followed fine lasting (Steps r) =
        event_fine Goal silent Fact (Fits w r.client (start r) r.input (before r)) past (step t e sc) (takes_one r) it v
        (none_served it.behind v w e r.client r.site r.input r.takes) told asked asks opened
        (on_more (λ u. AllFine (WasServed past w) None u × (SameTrees v u × Lasting u)) (AtEachStep Fact (of_lines w sc.seen))
        (λ u h. at_two IsOfUndone (λ i z. TreesAt v.trees i z × Lasting z) (of_lines w sc.seen) u
        (lines_undone k count past t e sc happened facts n u followed h.0)
        (at_two (TreesAt v.trees) (λ i z. Lasting z) (of_lines w sc.seen) u (lines_trees v.trees w sc.seen u h.1.0)
        (lasting_at Lasting lasts (of_lines w sc.seen) u (lines_inside w sc.seen) h.1.1)))
        (run (of_event w e) v)
        (on_both (AllFine (WasServed past w) None) (λ u. SameTrees v u × Lasting u) (run (of_event w e) v)
        (run_fine (WasServed past w) None (of_event w e) v (event_kept w e) fine)
        (on_both (SameTrees v) Lasting (run (of_event w e) v) (all_same (of_event w e) v (event_is w e)) lasting)))
        (subst (AllFit (Fits w r.client (start r) r.input (before r))) (sym r.gives)
        (all_say w r.client (start r) r.input (before r) r.site.node.state r.now right r.site r.at refl refl (start_is r)
        (input_tells w e right r.client r.site r.input r.takes)))
