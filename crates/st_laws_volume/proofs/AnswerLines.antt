-- Lines of an event, taken one after another: each answer is taken if it fits the ask that it answers.
use Rattle.std.proofs.Common.{◌≡◌, ℕ, ◌+◌, Bool, true, false, ◌==◌, List, [], ◌∷◌, ◌++◌, map, Option, Some, None, refl, sym, ap, ◌∙◌, subst, inl, inr, append_assoc}
use Rattle.std.specs.Prelude.{find, is_some, option_and_then}
use Rattle.std.specs.List.{list_all}
use Rattle.std.proofs.lemmas.Bool.{eq-eqb, eqb-true}
use Rattle.std.proofs.lemmas.List.{append-nil}
use Rattle.st_base.specs.declared.ids.ClientId.{ClientId}
use Rattle.st_messages.specs.declared.answer.AppAnswer.{AppAnswer}
use Rattle.st_messages.specs.declared.ask.Ask.{Ask}
use Rattle.st_messages.specs.declared.ask.Ask.TheVariants as asks
use Rattle.st_messages.specs.declared.event.Event.{Event}
use Rattle.st_rules.specs.declared.client.ClientInput.{ClientInput}
use Rattle.st_rules.specs.declared.observation.Observation.{Observation}
use Rattle.st_rules.specs.declared.observation.Observation.TheVariants as seen
use Rattle.st_rules.specs.Safety.{Step, step}
use Rattle.st_rules.specs.World as world
use Rattle.st_rules.specs.World.{World, WorldClient, site_of}
use Rattle.st_lemmas.specs.Lists.{Has}
use Rattle.st_lemmas.proofs.Lookups.{if_true}
use Rattle.st_lemmas.proofs.Tables.{and_true, found_at, has_filter, has_map, not_true}
use Rattle.st_lemmas.proofs.Truth.{client_is, clash, eqb_self}
use Rattle.st_laws_pages.proofs.Asks.Client.{key}
use Rattle.st_laws_pages.proofs.Asks.World.{asks_more, asks_of}
use Rattle.st_laws_volume.specs.Asks.{AsksOf, HasAsksOf, ask_key, at_site, in_volume}
use Rattle.st_laws_volume.specs.StepKinds.{AreTaken, AtEachStep, is_answer}
use Rattle.st_laws_volume.specs.Options.{OnSome}
use Rattle.st_laws_volume.specs.Seen.{cause_of, of_event, of_line}
use Rattle.st_laws_volume.specs.Witness.{Behind, Witness, before_line, next_op, of_delivery, of_lines, of_message, steps_of, to_node}
use Rattle.st_laws_volume.proofs.AnswerSteps.{OnlyAnswers, delivery_silent, event_silent, open_there}
use Rattle.st_laws_volume.proofs.AskClient.{coming}
use Rattle.st_laws_volume.proofs.AskedAsks.{AreOf, Asked, IsOf, all_has, asked_after, event_right, moved, run_right}
use Rattle.st_laws_volume.proofs.AskEvents.{AllOpenFor, report_dull}
use Rattle.st_laws_volume.proofs.Asks.{of_each}
use Rattle.st_laws_volume.proofs.AskSteps.{asked_once, run_tells, told_all}
use Rattle.st_laws_volume.proofs.ChangeLines.{block_other, on_both}
use Rattle.st_laws_volume.proofs.EventAnswers.{ByAsk, ByMessage, ByReport, ByTick, Given, TakesAt, given_in_lines, of_seen}
use Rattle.st_laws_volume.proofs.LogLines.{one_step}
use Rattle.st_laws_volume.proofs.OpenAnswers.{OfAnswers, Open, at_both, at_one, at_silent, block, block_open, first_open}
use Rattle.st_laws_volume.proofs.Options.{on_all, on_more, on_then}
use Rattle.st_laws_volume.proofs.StepKinds.{is_inside}
use Rattle.st_laws_volume.proofs.ToldSteps.{Near, Told, effect_near, event_kept, kept_told, step_told}
use Rattle.st_volume.specs.declared.step.VolumeStep.{VolumeStep}
use Rattle.st_volume.specs.declared.step.VolumeStep.TheVariants as kinds
use Rattle.st_volume.specs.Volume as volume
use Rattle.st_volume.specs.Volume.{Pending, Volume, is_ask, is_of_client, open_of, run}

-- the step of the volume that an answer is
abbrev pub step_of : Given → VolumeStep
step_of g = kinds.Answered g.client g.op g.answer

-- Lines without an answer of a kind.
abbrev pub NoneOf : (VolumeStep → Bool) → List Given → Type 0
NoneOf which [] = Unit {0}
NoneOf which (g ∷ gs) = (which (step_of g) ≡ false) × NoneOf which gs

abbrev pub AllFit : (Given → Type 0) → List Given → Type 0
AllFit Fits [] = Unit {0}
AllFit Fits (g ∷ gs) = Fits g × AllFit Fits gs

pub fit_last : (Fits : Given → Type 0) (gs : List Given) (g : Given) → Fits g → AllFit Fits gs → AllFit Fits (gs ++ g ∷ [])
fit_last Fits [] g f h = (f, tt)
fit_last Fits (x ∷ gs) g f h = (h.0, fit_last Fits gs g f h.1)

fit_parts : (Fits : Given → Type 0) (xs ys : List Given) → AllFit Fits (xs ++ ys) → AllFit Fits xs × AllFit Fits ys
fit_parts Fits [] ys h = (tt, h)
fit_parts Fits (x ∷ xs) ys h = let z = fit_parts Fits xs ys h.1 in ((h.0, z.0), z.1)

-- a fact of each step that is an answer of a kind: it is taken
abbrev pub Takes : (VolumeStep → Bool) → VolumeStep → Volume → Type 0
Takes which it u = which it ≡ true → is_some (volume.step u it) ≡ true

pub takes_silent : (which : VolumeStep → Bool) → OnlyAnswers which → OfAnswers (Takes which)
takes_silent which only it v q = λ w. clash w (only it (not_true (is_answer it) q))

pub taken_at : (which : VolumeStep → Bool) (its : List VolumeStep) (v : Volume) → AtEachStep (Takes which) its v → AreTaken which its v
unfolding AtEachStep AreTaken
taken_at which [] v h = tt
taken_at which (it ∷ its) v h =
    (h.0, on_more (AtEachStep (Takes which) its) (AreTaken which its) (λ u k. taken_at which its u k) (volume.step v it) h.1)

none_fit : (which : VolumeStep → Bool) (gs : List Given) → NoneOf which gs → AllFit (λ g. (u : Volume) → Takes which (step_of g) u) gs
none_fit which [] h = tt
none_fit which (g ∷ gs) h = ((λ u w. clash w h.0), none_fit which gs h.1)

module _ (goal : VolumeStep → Volume → Type 0) (of : OfAnswers goal) where
  -- a line, by its answer
  pub block_by : (w : World) (o : Observation) (os : List Observation) (v : Volume) →
      ((c : ClientId) (op : ℕ) (a : AppAnswer) → o ≡ seen.Answered c op a → goal (kinds.Answered c op a) v) → AtEachStep goal (block w o os) v
  unfolding before_line of_line AtEachStep
  block_by w (seen.Answered c op a) os v h = at_one goal (kinds.Answered c op a) v (h c op a refl)
  block_by w (seen.Wrote i c f p bytes) os v h =
      at_silent goal of (kinds.TakesEffect c (next_op os) ∷ kinds.Joined i (Some c) (asks.Write f p bytes) ∷ []) v refl
  block_by w (seen.Patched i c f p at bytes) os v h =
      at_silent goal of (kinds.TakesEffect c (next_op os) ∷ kinds.Joined i (Some c) (asks.Patch f p at bytes) ∷ []) v refl
  block_by w (seen.CutAt i f p) os v h = at_silent goal of (kinds.Joined i None (asks.Cut f p) ∷ []) v refl
  block_by w (seen.Hardened i) os v h = at_silent goal of (kinds.Hardened i ∷ []) v refl
  block_by w (seen.Dropped i cause) os v h = at_silent goal of (kinds.Dropped i (cause_of w cause) ∷ []) v refl
  block_by w (seen.Sent k m) os v h = tt
  block_by w (seen.Submitted k c number what) os v h = tt
  block_by w (seen.Leased c s end) os v h = tt
  block_by w (seen.Lost c s life) os v h = tt
  block_by w (seen.Suspected s c start) os v h = tt
  block_by w (seen.Stolen s c life) os v h = tt

  -- lines whose answers have it at any time
  lines_each : (w : World) (os : List Observation) (v : Volume) → AllFit (λ g. (u : Volume) → goal (step_of g) u) (given_in_lines os) →
      AtEachStep goal (of_lines w os) v
  unfolding of_lines AtEachStep
  lines_each w [] v h = tt
  lines_each w (o ∷ os) v h =
      let z = fit_parts (λ g. (u : Volume) → goal (step_of g) u) (of_seen o) (given_in_lines os) h in
      subst (λ its. AtEachStep goal its v) (append_assoc (before_line o os) (of_line w o) (of_lines w os))
      (at_both goal (block w o os) (of_lines w os) v
      (block_by w o os v (λ c op a e. (subst (λ y. AllFit (λ g. (u : Volume) → goal (step_of g) u) (of_seen y)) e z.0).0 v))
      (on_all (AtEachStep goal (of_lines w os)) (λ u. lines_each w os u z.1) (run (block w o os) v)))

  pub event_each : (t : World) (it : Witness) (v : Volume) (os : List Observation) (e : Event) →
      AllFit (λ g. (u : Volume) → goal (step_of g) u) (given_in_lines os) → AtEachStep goal (of_event t e ++ (of_delivery it.behind v t e ++ of_lines t os)) v
  event_each t it v os e n =
      let first : List VolumeStep = of_event t e in
      let served : List VolumeStep = of_delivery it.behind v t e in
      let all : List VolumeStep = of_lines t os in
      at_both goal first (served ++ all) v (at_silent goal of first v (event_silent t e))
      (on_all (AtEachStep goal (served ++ all))
      (λ y. at_both goal served all y (at_silent goal of served y (delivery_silent it.behind v t e))
      (on_all (AtEachStep goal all) (λ z. lines_each t os z n) (run served y)))
      (run first v))

-- lines, and events, without an answer of a kind
pub lines_none : (which : VolumeStep → Bool) → OnlyAnswers which → (w : World) (os : List Observation) (v : Volume) → NoneOf which (given_in_lines os) →
    AreTaken which (of_lines w os) v
lines_none which only w os v h =
    taken_at which (of_lines w os) v (lines_each (Takes which) (takes_silent which only) w os v (none_fit which (given_in_lines os) h))

pub event_none : (which : VolumeStep → Bool) → OnlyAnswers which → (t : World) (it : Witness) (v : Volume) (os : List Observation) (e : Event) →
    NoneOf which (given_in_lines os) → AreTaken which (of_event t e ++ (of_delivery it.behind v t e ++ of_lines t os)) v
event_none which only t it v os e h =
    taken_at which (of_event t e ++ (of_delivery it.behind v t e ++ of_lines t os)) v
    (event_each (Takes which) (takes_silent which only) t it v os e (none_fit which (given_in_lines os) h))

-- A client takes a step: no request is served.
pub none_served : (bs : List Behind) (v : Volume) (t : World) (e : Event) (c : ClientId) (site : WorldClient) (i : ClientInput) → TakesAt t e c site i →
    of_delivery bs v t e ≡ []
none_served bs v t e c site _ (ByTick f) = ap (of_delivery bs v t) f
none_served bs v t e c site _ (ByAsk ask f) = ap (of_delivery bs v t) f
none_served bs v t e c site _ (ByMessage k m f q z) =
    ap (of_delivery bs v t) f ∙ (ap (of_message bs v t) q ∙ ap (to_node bs v t m.message) z)
none_served bs v t e c site _ (ByReport k ok x r f q a s d) = ap (of_delivery bs v t) f

-- its asks then are those that were pending, and the one that comes
pub comes_to : (t : World) (e : Event) (c : ClientId) (site : WorldClient) (i : ClientInput) → TakesAt t e c site i →
    (told_all c (of_event t e) (at_site (Some site))).pending ≡ map key site.node.state.operations ++ coming i
unfolding of_event
comes_to t e c site _ (ByTick f) =
    ap (λ x. (told_all c (of_event t x) (at_site (Some site))).pending) f ∙ sym (append-nil (map key site.node.state.operations))
comes_to t e c site _ (ByAsk ask f) =
    ap (λ x. (told_all c (of_event t x) (at_site (Some site))).pending) f
    ∙ ap (λ (a : AsksOf). a.pending) (if_true (c.0 == c.0) (asked_once ask (at_site (Some site))) (at_site (Some site)) (eq-eqb c.0 c.0 refl))
comes_to t e c site _ (ByMessage k m f q z) =
    ap (λ x. (told_all c (of_event t x) (at_site (Some site))).pending) f ∙ sym (append-nil (map key site.node.state.operations))
comes_to t e c site _ (ByReport k ok x r f q a s d) =
    ap (λ x. (told_all c (of_event t x) (at_site (Some site))).pending) f
    ∙ (ap (λ (y : AsksOf). y.pending) (report_dull t k ok c (at_site (Some site))) ∙ sym (append-nil (map key site.node.state.operations)))

-- each entry has had its line after a line
change_told : (v : Volume) (c : ClientId) (op i : ℕ) (d : Option ClientId) (what : Ask) →
    OnSome Told (run (kinds.TakesEffect c op ∷ kinds.Joined i d what ∷ []) v)
unfolding run
change_told v c op i d what =
    on_then Told (run (kinds.Joined i d what ∷ [])) (volume.step v (kinds.TakesEffect c op))
    (on_more Near (λ z. OnSome Told (run (kinds.Joined i d what ∷ []) z))
    (λ z k. one_step Told (kinds.Joined i d what) z (step_told z (kinds.Joined i d what) refl k))
    (volume.step v (kinds.TakesEffect c op)) (effect_near v c op))

block_told : (w : World) (o : Observation) (os : List Observation) (v : Volume) → Told v → OnSome Told (run (block w o os) v)
unfolding before_line of_line
block_told w (seen.Answered c op a) os v h = kept_told (kinds.Answered c op a ∷ []) v refl h
block_told w (seen.Wrote i c f p bytes) os v h = change_told v c (next_op os) i (Some c) (asks.Write f p bytes)
block_told w (seen.Patched i c f p at bytes) os v h = change_told v c (next_op os) i (Some c) (asks.Patch f p at bytes)
block_told w (seen.CutAt i f p) os v h = kept_told (kinds.Joined i None (asks.Cut f p) ∷ []) v refl h
block_told w (seen.Hardened i) os v h = kept_told (kinds.Hardened i ∷ []) v refl h
block_told w (seen.Dropped i cause) os v h = kept_told (kinds.Dropped i (cause_of w cause) ∷ []) v refl h
block_told w (seen.Sent k m) os v h = kept_told [] v refl h
block_told w (seen.Submitted k c number what) os v h = kept_told [] v refl h
block_told w (seen.Leased c s end) os v h = kept_told [] v refl h
block_told w (seen.Lost c s life) os v h = kept_told [] v refl h
block_told w (seen.Suspected s c start) os v h = kept_told [] v refl h
block_told w (seen.Stolen s c life) os v h = kept_told [] v refl h

-- an open ask is as asked
pub asked_there : (as_ : Asked) (u : Volume) (c : ClientId) (k : ℕ × Ask) → AreOf as_ u → Has k (in_volume u c).pending → world.numbered (as_ c) k.0 ≡ Some k.1
asked_there as_ u c k r i =
    let z = has_map ask_key (open_of u c) k i in
    let b : Pending = z.0 in
    let y = has_filter (is_of_client c) u.pending b z.1 in
    let own : IsOf as_ b = all_has as_ u.pending b r.pending y.0 in
    subst (λ (j : ℕ × Ask). world.numbered (as_ c) j.0 ≡ Some j.1) (sym z.2)
    (subst (λ d. world.numbered (as_ d) b.op ≡ Some b.ask) (client_is b.client c y.1) own)

found_asked : (as_ : Asked) (u : Volume) (c : ClientId) (op : ℕ) (a : Pending) → AreOf as_ u → find (is_ask c op) u.pending ≡ Some a →
    world.numbered (as_ c) op ≡ Some a.ask
found_asked as_ u c op a r q =
    let b = found_at (is_ask c op) u.pending a q in
    let k = and_true (is_of_client c a) (a.op == op) b.0 in
    let own : IsOf as_ a = all_has as_ u.pending a r.pending b.1 in
    subst (λ d. world.numbered (as_ d) op ≡ Some a.ask) (client_is a.client c k.0)
    (subst (λ n. world.numbered (as_ a.client) n ≡ Some a.ask) (eqb-true a.op op k.1) own)

-- A fact of the volume that lasts inside an event.
abbrev pub LastsInside : (Volume → Type 0) → Type 0
LastsInside I = (it : VolumeStep) (u : Volume) → is_inside it ≡ true → I u → OnSome I (volume.step u it)

-- so it holds at each step of its lines
pub lasting_at : (I : Volume → Type 0) → LastsInside I → (its : List VolumeStep) (u : Volume) → list_all is_inside its ≡ true → I u →
    AtEachStep (λ it z. I z) its u
unfolding AtEachStep
lasting_at I one [] u q h = tt
lasting_at I one (it ∷ its) u q h =
    let b = and_true (is_inside it) (list_all is_inside its) q in
    (h, on_more I (AtEachStep (λ it z. I z) its) (λ z k. lasting_at I one its z b.1 k) (volume.step u it) (one it u b.0 h))

-- two facts of each step
pub at_two : (P Q : VolumeStep → Volume → Type 0) (its : List VolumeStep) (u : Volume) → AtEachStep P its u → AtEachStep Q its u →
    AtEachStep (λ it z. P it z × Q it z) its u
unfolding AtEachStep
at_two P Q [] u p q = tt
at_two P Q (it ∷ its) u p q = ((p.0, q.0), go (volume.step u it) p.1 q.1 (λ z a b. at_two P Q its z a b))
  where
    go : (o : Option Volume) → OnSome (AtEachStep P its) o → OnSome (AtEachStep Q its) o →
        ((z : Volume) → AtEachStep P its z → AtEachStep Q its z → AtEachStep (λ it y. P it y × Q it y) its z) →
        OnSome (AtEachStep (λ it y. P it y × Q it y) its) o
    go None a b f = tt
    go (Some z) a b f = f z a b

pub at_parts : (fact : VolumeStep → Volume → Type 0) (xs ys : List VolumeStep) (u : Volume) → AtEachStep fact (xs ++ ys) u →
    AtEachStep fact xs u × OnSome (AtEachStep fact ys) (run xs u)
unfolding AtEachStep run
at_parts fact [] ys u h = (tt, h)
at_parts fact (x ∷ xs) ys u h = let z = go (volume.step u x) h.1 (λ y a. at_parts fact xs ys y a) in ((h.0, z.0), z.1)
  where
    go : (o : Option Volume) → OnSome (AtEachStep fact (xs ++ ys)) o →
        ((y : Volume) → AtEachStep fact (xs ++ ys) y → AtEachStep fact xs y × OnSome (AtEachStep fact ys) (run xs y)) →
        OnSome (AtEachStep fact xs) o × OnSome (AtEachStep fact ys) (option_and_then (run xs) o)
    go None a f = (tt, tt)
    go (Some y) a f = f y a

-- A fact of each line's answer, by another one.
module _ (goal : VolumeStep → Volume → Type 0) (of : OfAnswers goal) (fact : VolumeStep → Volume → Type 0) (w : World) (In : Observation → Type 0)
    (one : (c : ClientId) (op : ℕ) (a : AppAnswer) → In (seen.Answered c op a) → (u : Volume) → fact (kinds.Answered c op a) u →
    goal (kinds.Answered c op a) u) where
  its_fact : (c : ClientId) (op : ℕ) (a : AppAnswer) (os : List Observation) (u : Volume) → AtEachStep fact (block w (seen.Answered c op a) os) u →
      fact (kinds.Answered c op a) u
  unfolding before_line of_line AtEachStep
  its_fact c op a os u h = h.0

  pub lines_more : (os : List Observation) → ((o : Observation) → Has o os → In o) → (u : Volume) → AtEachStep fact (of_lines w os) u →
      AtEachStep goal (of_lines w os) u
  unfolding of_lines AtEachStep
  lines_more [] i u m = tt
  lines_more (o ∷ os) i u m =
      let n =
      at_parts fact (block w o os) (of_lines w os) u
      (subst (λ its. AtEachStep fact its u) (sym (append_assoc (before_line o os) (of_line w o) (of_lines w os))) m) in
      subst (λ its. AtEachStep goal its u) (append_assoc (before_line o os) (of_line w o) (of_lines w os))
      (at_both goal (block w o os) (of_lines w os) u
      (block_by goal of w o os u
      (λ c op a e. one c op a (subst In e (i o (inl refl))) u (its_fact c op a os u (subst (λ y. AtEachStep fact (block w y os) u) e n.0))))
      (on_more (AtEachStep fact (of_lines w os)) (AtEachStep goal (of_lines w os)) (λ y k. lines_more os (λ x j. i x (inr j)) y k) (run (block w o os) u)
      n.1))

-- An answer that fits has the wanted fact: it goes to an open ask.
abbrev pub IsFineBy : (VolumeStep → Volume → Type 0) → (VolumeStep → Volume → Type 0) → (Given → Type 0) → Asked → Type 0
IsFineBy goal fact Fits as_ =
    (u : Volume) (g : Given) (a : Pending)
    → Told u
    → fact (step_of g) u
    → find (is_ask g.client g.op) u.pending ≡ Some a
    → world.numbered (as_ g.client) g.op ≡ Some a.ask
    → Fits g
    → goal (step_of g) u

module _ (goal : VolumeStep → Volume → Type 0) (of : OfAnswers goal) (fact : VolumeStep → Volume → Type 0) (Fits : Given → Type 0) (as_ : Asked)
    (fine : IsFineBy goal fact Fits as_) (w : World) where
  abbrev State : List Observation → Volume → Type 0
  State os u = Told u × (AreOf as_ u × Open w os u)

  answer_fine : (c : ClientId) (op : ℕ) (a : AppAnswer) (os : List Observation) (u : Volume) → State (seen.Answered c op a ∷ os) u →
      fact (kinds.Answered c op a) u → Fits (record { client = c; op = op; answer = a }) → goal (kinds.Answered c op a) u
  answer_fine c op a os u h i f = go (find (is_ask c op) u.pending) refl (open_there c op u ((h.1.1 c).0 (eqb_self c.0)))
    where
      go : (o : Option Pending) → find (is_ask c op) u.pending ≡ o → is_some o ≡ true → goal (kinds.Answered c op a) u
      go None e s = cc s
      go (Some b) e s = fine u (record { client = c; op = op; answer = a }) b h.0 i e (found_asked as_ u c op b h.1.0 e) f

  answer_fact : (c : ClientId) (op : ℕ) (a : AppAnswer) (os : List Observation) (u : Volume) → AtEachStep fact (block w (seen.Answered c op a) os) u →
      fact (kinds.Answered c op a) u
  unfolding before_line of_line AtEachStep
  answer_fact c op a os u h = h.0

  lines_fine : (os : List Observation) (u : Volume) → AllFit Fits (given_in_lines os) → State os u → AtEachStep fact (of_lines w os) u →
      AtEachStep goal (of_lines w os) u
  unfolding of_lines AtEachStep
  lines_fine [] u f h m = tt
  lines_fine (o ∷ os) u f h m =
      let z = fit_parts Fits (of_seen o) (given_in_lines os) f in
      let n =
      at_parts fact (block w o os) (of_lines w os) u
      (subst (λ its. AtEachStep fact its u) (sym (append_assoc (before_line o os) (of_line w o) (of_lines w os))) m) in
      subst (λ its. AtEachStep goal its u) (append_assoc (before_line o os) (of_line w o) (of_lines w os))
      (at_both goal (block w o os) (of_lines w os) u
      (block_by goal of w o os u
      (λ c op a e. answer_fine c op a os u (subst (λ y. State (y ∷ os) u) e h)
      (answer_fact c op a os u (subst (λ y. AtEachStep fact (block w y os) u) e n.0)) (subst (λ y. AllFit Fits (of_seen y)) e z.0).0))
      (on_more (λ y. State os y × AtEachStep fact (of_lines w os) y) (AtEachStep goal (of_lines w os)) (λ y k. lines_fine os y z.1 k.0 k.1)
      (run (block w o os) u)
      (on_both (State os) (AtEachStep fact (of_lines w os)) (run (block w o os) u)
      (on_both Told (λ y. AreOf as_ y × Open w os y) (run (block w o os) u) (block_told w o os u h.0)
      (on_both (AreOf as_) (Open w os) (run (block w o os) u) (run_right as_ (block w o os) u (block_other w o os) h.1.0) (block_open w o os u h.1.1)))
      n.1)))

-- Open asks of all clients, and what was asked under their numbers.
abbrev pub AllAsked : World → Event → Asked → Type 0
AllAsked t e as_ =
    (c : ClientId) (k : ℕ × Ask) → Has k (told_all c (of_event t e) (at_site (site_of t c))).pending → world.numbered (as_ c) k.0 ≡ Some k.1

-- All steps of an event in which a client takes a step.
module _ (goal : VolumeStep → Volume → Type 0) (of : OfAnswers goal) (fact : VolumeStep → Volume → Type 0) (Fits : Given → Type 0) (past : List Step) (x : Step)
    (fine : AllAsked x.before.world x.event (asks_of (past ++ x ∷ [])) → IsFineBy goal fact Fits (asks_of (past ++ x ∷ []))) (it : Witness) (v : Volume) where
  abbrev t : World
  t = x.before.world

  abbrev e : Event
  e = x.event

  abbrev bs : Asked
  bs = asks_of (past ++ x ∷ [])

  abbrev AsksOn : Volume → Type 0
  AsksOn y = (c : ClientId) → in_volume y c ≡ told_all c (of_event t e) (in_volume v c)

  -- what holds after what is seen of the event itself
  record Begun (y : Volume) : Type 0 where
    told : Told y
    right : AreOf bs y
    opens : Open t x.seen y
    asks : AsksOn y
    facts : AtEachStep fact (of_lines t x.seen) y

  pub event_fine : of_delivery it.behind v t e ≡ [] → Told v → AreOf (asks_of past) v → HasAsksOf t v →
      ((c : ClientId) → AllOpenFor t c x.seen (told_all c (of_event t e) (at_site (site_of t c)))) →
      OnSome (AtEachStep fact (of_lines t x.seen)) (run (of_event t e) v) → AllFit Fits (given_in_lines x.seen) → AtEachStep goal (steps_of it v x) v
  event_fine none told right agree opened i fits =
      subst (λ served. AtEachStep goal (of_event t e ++ (served ++ of_lines t x.seen)) v) (sym none)
      (at_both goal (of_event t e) (of_lines t x.seen) v (at_silent goal of (of_event t e) v (event_silent t e))
      (on_more Begun (AtEachStep goal (of_lines t x.seen))
      (λ y k. lines_fine goal of fact Fits bs (fine (all_asked y k)) t x.seen y fits (k.told, (k.right, k.opens)) k.facts)
      (run (of_event t e) v) begun))
    where
      all_asked : (y : Volume) → Begun y → AllAsked t e bs
      all_asked y k c j h =
          asked_there bs y c j k.right (subst (Has j) (ap (λ (a : AsksOf). a.pending) (sym (k.asks c ∙ ap (told_all c (of_event t e)) (agree c)))) h)

      first : Option Volume
      first = run (of_event t e) v

      begun : OnSome Begun first
      begun =
          on_more (λ y. Told y × (AreOf bs y × (Open t x.seen y × (AsksOn y × AtEachStep fact (of_lines t x.seen) y)))) Begun
          (λ y k. record { told = k.0; right = k.1.0; opens = k.1.1.0; asks = k.1.1.1.0; facts = k.1.1.1.1 }) first
          (on_both Told (λ y. AreOf bs y × (Open t x.seen y × (AsksOn y × AtEachStep fact (of_lines t x.seen) y))) first
          (kept_told (of_event t e) v (event_kept t e) told)
          (on_both (AreOf bs) (λ y. Open t x.seen y × (AsksOn y × AtEachStep fact (of_lines t x.seen) y)) first
          (on_more (AreOf (asked_after (asks_of past) e)) (AreOf bs) (λ y k. moved (asked_after (asks_of past) e) bs (λ c. asks_more past x c) y k) first
          (event_right (asks_of past) t e v right))
          (on_both (Open t x.seen) (λ y. AsksOn y × AtEachStep fact (of_lines t x.seen) y) first
          (first_open t e x.seen v (λ c. subst (λ a. AllOpenFor t c x.seen (told_all c (of_event t e) a)) (sym (agree c)) (opened c)))
          (on_both AsksOn (AtEachStep fact (of_lines t x.seen)) first
          (of_each (of_event t e) v first (λ c. run_tells c (of_event t e) v)) i))))
