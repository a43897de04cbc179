-- In every run each answer `nofile` goes to an ask without a result. If its server is there, the ask is of a file that didn't exist as the server refused a
-- request for it; so the ask has noticed that, unless it came after that and the inode was given only after that.
use Rattle.st_lemmas.proofs.Words
use Words.{◌≡◌, ◌⊎◌, ℕ, ◌+◌, ◌<◌, ◌≤◌, zero, suc, arith, Bool, true, false, not, ◌&&◌, ◌==◌, List, [], ◌∷◌, ◌++◌, map, Option, Some, None, Ok, refl, sym, ap, ◌∙◌, subst, inl, inr, if◌then◌else◌}
use Words.{eq-eqb, eqb-true, lt-ltb, leb-true, nat_le, nat_lt, list_all, option_map, AppAnswer, Ask, ClientId, Event, FileId, ServerId}
use Words.answers
use Words.asks
use Words.inputs
use Words.names
use Words.seen
use Words.why
use Words.ClientState as cs
use Words.ClientState.{Association}
use Words.Events.{WorldTurn, world_step}
use Words.History.{Traced, traced, traced_after}
use Words.Keys.{same_server}
use Words.Lists.{Has}
use Words.Lookups.{some_is}
use Words.Members.{has_left, has_right}
use Words.Names as server_names
use Words.Numbers.{get_map, numbered_below}
use Words.Kinds.{between}
use Words.Ranges as ranges
use Rattle.st_lemmas.proofs.Tests.{all_last}
use Words.Safety.{Step, all_answered_once, all_followed, step}
use Words.Server.{ServerNode}
use Words.Tables.{and_both, and_true, found_at, has_append, has_map, not_true}
use Words.Truth.{below_or_not, client_is, clash}
use Words.World as world
use Words.World.{World, WorldClient, fresh_world, node_of, numbered, site_of}
use Rattle.st_base.specs.declared.config.Config.{Config}
use Rattle.st_rules.specs.declared.client.ClientInput.{ClientInput}
use Rattle.st_protocol.specs.Assoc as net
use Rattle.st_promises.specs.Safe.{EveryRunIsSafe}
use Rattle.st_laws_pages.proofs.Asks.Client.{key}
use Rattle.st_laws_pages.proofs.Asks.World.{asks_of}
use Rattle.st_laws_refine.specs.Server.Pair.{terms_of}
use Rattle.st_laws_cuts.proofs.Open.{association_there}
use Rattle.st_laws_names.proofs.Facts.{FactsHold}
use Rattle.st_laws_volume.specs.AnswerKinds.{IsOfUndone}
use Rattle.st_laws_volume.specs.Asks.{at_site}
use Rattle.st_laws_volume.specs.Logs.{InEveryRun}
use Rattle.st_laws_volume.specs.NoFileAnswers.{CameLater, FilesAreMissing, IsMissing, IsNoFile}
use Rattle.st_laws_volume.specs.Options.{OnSome}
use Rattle.st_laws_volume.specs.Refusals.{asks_before, removes_other}
use Rattle.st_laws_volume.specs.Seen.{of_event}
use Rattle.st_laws_volume.specs.StepKinds.{AtEachStep}
use Rattle.st_laws_volume.specs.Trees.{HasTreesOf, tree_at}
use Rattle.st_laws_volume.specs.Witness.{Witness, led_by, steps_of}
use Rattle.st_laws_volume.proofs.AnswerCauses.{IsOfFile, IsRefusal, IsUnknown, Says}
use Rattle.st_laws_volume.proofs.AnswerFacts.{AllOf, FactsOf, Known, all_of, facts_begin, facts_on, known_in}
use Rattle.st_laws_volume.proofs.AnswerLines.{LastsInside, step_of}
use Rattle.st_laws_volume.proofs.AskClient.{coming}
use Rattle.st_laws_volume.proofs.AskWords.{file_words, server_words, sync_words}
use Rattle.st_laws_volume.proofs.Carried.{IsGiven, given_in}
use Rattle.st_laws_volume.proofs.EventAnswers.{Given, Stepping, event_answers}
use Rattle.st_laws_volume.proofs.GoneFiles.{GoneHold, gone_kept, names_at, no_file}
use Rattle.st_laws_volume.proofs.LogLines.{numbered_suc}
use Rattle.st_laws_volume.proofs.MarksStay.{run_marked, step_marked}
use Rattle.st_laws_volume.proofs.NoticesStay.{AllOld, MarksHold, its_missed, its_other, marks_begin, marks_kept, missed_lasts, of_file, old_now, other_lasts, own_mark}
use Rattle.st_laws_volume.proofs.OpenAnswers.{OfAnswers, open_left}
use Rattle.st_laws_volume.proofs.Options.{on_more}
use Rattle.st_laws_volume.proofs.ReadRanges.{asks_in_range, is_in_range, numbered_in_range}
use Rattle.st_laws_volume.proofs.RefusedRequests.{LacksFile, lacks_file, refused_by}
use Rattle.st_laws_volume.proofs.SessionEpochs.{EpochsRight}
use Rattle.st_laws_volume.proofs.StepAnswers as stepping
use Rattle.st_laws_volume.proofs.StepAnswers.{before, event_answered, start, start_is}
use Rattle.st_laws_volume.proofs.Trees.{trees_begin}
use Rattle.st_laws_volume.proofs.UnservedAsks as none
use Rattle.st_volume.specs.declared.step.VolumeStep.{VolumeStep}
use Rattle.st_volume.specs.declared.step.VolumeStep.TheVariants as kinds
use Rattle.st_volume.specs.Pages.{same_file}
use Rattle.st_volume.specs.Volume as volume
use Rattle.st_volume.specs.Volume.{Pending, Volume, is_ask, run}

-- What open asks had noticed stays so within an event.
abbrev pub AllOlds : List Step → Volume → Type 0
AllOlds past u = (y : Step) → Has y past → AllOld y (Some u)

old_step : (y : Step) (it : VolumeStep) (u : Volume) → AllOld y (Some u) → AllOld y (volume.step u it)
old_step y it u h =
    record {
      missed = λ s node ino at f above c.
          step_marked c (asks_before y c) (of_file s ino) its_missed missed_lasts u it (h.missed s node ino at f above c);
      other = λ s node dir name ino at q f c.
          step_marked c (asks_before y c) (removes_other s dir name ino) its_other other_lasts u it
          (h.other s node dir name ino at q f c);
    }

all_olds : (past : List Step) (o : Option Volume) → ((y : Step) → Has y past → AllOld y o) → OnSome (AllOlds past) o
all_olds past None h = tt
all_olds past (Some u) h = h

pub olds_last : (past : List Step) → LastsInside (AllOlds past)
olds_last past it u q h = all_olds past (volume.step u it) (λ y i. old_step y it u (h y i))

-- A file that is asked for has an inode.
pub has_inode : (s : ServerId) (ino : ℕ) (ask : Ask) → (same_server (cs.server_of ask) s && cs.is_file ino (cs.file_of ask)) ≡ true →
    ranges.is_ask ask ≡ true → nat_lt 0 ino ≡ true
unfolding ranges.is_ask cs.meant
has_inode s ino ask e r = by ask (and_true (same_server (cs.server_of ask) s) (cs.is_file ino (cs.file_of ask)) e).1 r
  where
    above : (f : FileId) → (f.ino == ino) ≡ true → ranges.is_file 1 f ≡ true → nat_lt 0 ino ≡ true
    above f q h =
        let l = leb-true 1 f.ino (and_true (nat_le 1 f.ino) _ (and_true _ (between 1 4294967295 f.ino) h).1).0 in
        let z = eqb-true f.ino ino q in lt-ltb 0 ino (omega (arith, l, z))

    meant_above : (i : ℕ) (b : Bool) → (i == 0) ≡ b → cs.is_file ino (if b then None else Some i) ≡ true → nat_lt 0 ino ≡ true
    meant_above i true z q = cc q
    meant_above zero false z q = cc z
    meant_above (suc i) false z q = let y = eqb-true (suc i) ino q in lt-ltb 0 ino (omega (arith, y))

    by : (ask : Ask) → cs.is_file ino (cs.file_of ask) ≡ true → ranges.is_ask ask ≡ true → nat_lt 0 ino ≡ true
    by (asks.Write f p bytes) q h = above f q (and_true (ranges.is_file 1 f) _ h).0
    by (asks.Patch f p at bytes) q h = above f q (and_true (ranges.is_file 1 f) _ h).0
    by (asks.Read f p) q h = above f q (and_true (ranges.is_file 1 f) _ h).0
    by (asks.Sync f) q h = above f q h
    by (asks.Cut f p) q h = above f q (and_true (ranges.is_file 1 f) _ h).0
    by (asks.Name r (names.Remove dir name i)) q h = meant_above i (i == 0) refl q
    by (asks.Name r (names.Lookup dir name)) q h = cc q
    by (asks.Name r (names.Create dir name)) q h = cc q
    by (asks.Name r (names.Mkdir dir name)) q h = cc q
    by (asks.Name r (names.Rename dir name dir2 name2)) q h = cc q
    by (asks.Name r (names.List dir after)) q h = cc q

pub olds_run : (past : List Step) (its : List VolumeStep) (u : Volume) → AllOlds past u → OnSome (AllOlds past) (run its u)
olds_run past its u h =
    all_olds past (run its u)
    (λ y i. record {
      missed = λ s node ino at f above c.
          run_marked c (asks_before y c) (of_file s ino) its_missed missed_lasts its u ((h y i).missed s node ino at f above c);
      other = λ s node dir name ino at q f c.
          run_marked c (asks_before y c) (removes_other s dir name ino) its_other other_lasts its u ((h y i).other s node dir name ino at q f c);
    })

-- A server that isn't there has no tree.
tree_none : (xs : List ServerNode) (n : ℕ) → world.numbered xs n ≡ None → volume.numbered (map tree_at xs) n ≡ None
tree_none xs zero q = refl
tree_none xs (suc n) q = numbered_suc (map tree_at xs) n ∙ (get_map tree_at xs n ∙ ap (option_map tree_at) q)

file_self : (f g : FileId) → f ≡ g → same_file f g ≡ true
file_self f g e =
    and_both (f.server.0 == g.server.0) (f.ino == g.ino) (eq-eqb f.server.0 g.server.0 (ap (λ (x : FileId). x.server.0) e))
    (eq-eqb f.ino g.ino (ap (λ (x : FileId). x.ino) e))

-- What holds of an event.
module _ (k : net.Config) (count : ℕ) (past : List Step) (t : Traced) (e : Event) (sc : WorldTurn) (happened : world_step t.world e ≡ Ok sc)
    (facts : FactsHold k count past t) (n : FactsHold k count (past ++ step t e sc ∷ []) (traced_after e t sc)) (right : EpochsRight t.world) (it : Witness)
    (gone : GoneHold past t it) (ranges_ : list_all (is_in_range count) (past ++ step t e sc ∷ []) ≡ true) (v : Volume) (agree : HasTreesOf t.world v) where
  abbrev w : World
  w = t.world

  abbrev x' : Step
  x' = step t e sc

  abbrev past2 : List Step
  past2 = past ++ x' ∷ []

  abbrev as_ : ClientId → List Ask
  as_ = asks_of past2

  abbrev pub Goal : VolumeStep → Volume → Type 0
  Goal = IsNoFile past w

  pub silent : OfAnswers Goal
  silent (kinds.Answered c op answer) u q = cc
  silent i u q = tt

  abbrev pub IsHere : Stepping w e sc → Volume → Given → Pending → Type 0
  IsHere = stepping.IsGiven k count past t e sc happened facts n right it v (AllOlds past2) (olds_last past2) Goal silent

  abbrev pub asks_then : Stepping w e sc → List (ℕ × Ask)
  asks_then = start k count past t e sc happened facts n right it v (AllOlds past2) (olds_last past2) Goal silent

  abbrev pub had : Stepping w e sc → List Association
  had = before k count past t e sc happened facts n right it v (AllOlds past2) (olds_last past2) Goal silent

  -- One answer, and its ask.
  module _ (r : Stepping w e sc) (u : Volume) (g : Given) (a : Pending) (h : IsHere r u g a) (undone : a.result ≡ None) where
    abbrev c : ClientId
    c = r.client

    abbrev site : WorldClient
    site = r.site

    starts : asks_then r ≡ map key site.node.state.operations ++ coming r.input
    starts = start_is k count past t e sc happened facts n right it v (AllOlds past2) (olds_last past2) Goal silent r

    pub words : (ask : Ask) → Has (g.op, ask) (asks_then r) → a.ask ≡ ask
    words ask i = some_is (sym h.asked ∙ (ap (λ d. numbered (as_ d) g.op) h.fits.0 ∙ h.all c (g.op, ask) i))

    pub there : (is_ask g.client g.op a ≡ true) × Has a u.pending
    there = found_at (is_ask g.client g.op) u.pending a h.found

    keys : ((a.client.0 == g.client.0) ≡ true) × ((a.op == g.op) ≡ true)
    keys = and_true (a.client.0 == g.client.0) (a.op == g.op) there.0

    pub mine : a.client ≡ c
    mine = client_is a.client g.client keys.0 ∙ h.fits.0

    no_tree : (s : ServerId) → node_of w s ≡ None → volume.tree_of u s ≡ None
    no_tree s q = ap (λ xs. volume.numbered xs s.0) (h.trees ∙ agree) ∙ tree_none w.servers s.0 q

    -- no server
    pub none_there : (z : IsUnknown w c (asks_then r) r.input (had r) g.op) → (node : ServerNode) → node_of w (cs.server_of z.ask) ≡ Some node → ⊥
    none_there z node q =
        clash (eq-eqb y.0.server.0 (cs.server_of z.ask).0 (ap (λ (s : ServerId). s.0) y.2)) (z.none y.0 y.1)
      where
        y : (b : Association) × Has b (had r) × (b.server ≡ world.server (cs.server_of z.ask).0)
        y =
            association_there k (cs.server_of z.ask).0 c.0 site w.ended
            ((facts.changes_.names_.all.base.all.servers (cs.server_of z.ask).0 node q).ghosts c.0).net
            ((facts.changes_.names_.all.base.all.servers (cs.server_of z.ask).0 node q).both.clients c.0 site r.at)

    unknown : IsUnknown w c (asks_then r) r.input (had r) g.op → IsMissing past w u a
    unknown z = record { undone = undone; missing = inl (go (node_of w (cs.server_of z.ask)) refl) }
      where
        go : (o : Option ServerNode) → node_of w (cs.server_of z.ask) ≡ o → volume.tree_of u (volume.server_of a.ask) ≡ None
        go None q = ap (volume.tree_of u) (ap volume.server_of (words z.ask z.known) ∙ server_words z.ask) ∙ no_tree (cs.server_of z.ask) q
        go (Some node) q = absurd (none_there z node q)

    -- a refusal
    module _ (x m : ℕ) (f : IsRefusal w c (asks_then r) r.input (had r) g.op why.NoFile x m IsOfFile) where
      abbrev s : ServerId
      s = f.association.server

      z : LacksFile past c s (cs.file_asked f.session.cutting f.request.body) x m
      z =
          lacks_file past c s f.session.cutting f.request.body x m
          (refused_by k count past t facts c site r.at r.runs e r.input r.takes (asks_then r) g.op why.NoFile x m refl IsOfFile f)

      x_is : f.concerns.0 ≡ x
      x_is = some_is (sym f.concerns.1 ∙ z.its_file)

      parts : ((same_server (cs.server_of f.ask) s && cs.is_file f.concerns.0 (cs.file_of f.ask)) ≡ true) × (not (cs.is_sync f.ask) ≡ true)
      parts = and_true (same_server (cs.server_of f.ask) s && cs.is_file f.concerns.0 (cs.file_of f.ask)) (not (cs.is_sync f.ask)) f.concerns.2

      ask_is : a.ask ≡ f.ask
      ask_is = words f.ask f.known

      pub file_is : volume.file_of a.ask ≡ record { server = s; ino = x }
      file_is = ap volume.file_of ask_is ∙ (file_words s f.concerns.0 f.ask parts.0 ∙ ap (λ j. record { server = s; ino = j }) x_is)

      pub no_sync : volume.is_sync a.ask ≡ false
      no_sync = ap volume.is_sync ask_is ∙ (sync_words f.ask ∙ not_true (cs.is_sync f.ask) parts.1)

      pub above : nat_lt 0 x ≡ true
      above =
          subst (λ j. nat_lt 0 j ≡ true) x_is
          (has_inode s f.concerns.0 f.ask parts.0
          (numbered_in_range (as_ c) g.op f.ask (asks_in_range count c past2 ranges_) (h.all c (g.op, f.ask) f.known)))

      pub which : of_file s x a.ask ≡ true
      which = file_self (volume.file_of a.ask) (record { server = s; ino = x }) file_is

      -- it came before this event
      pub low : a.op ≤ asks_before x' a.client
      low = go (has_append (map key site.node.state.operations) (coming r.input) (g.op, f.ask) (subst (Has (g.op, f.ask)) starts f.known))
        where
          total : asks_before x' a.client ≡ site.asks
          total = ap (λ d. (at_site (site_of w d)).count) mine ∙ ap (λ o. (at_site o).count) r.at

          none_comes : (i : ClientInput) → i ≡ inputs.Control f.message → Has (g.op, f.ask) (coming i) → ⊥
          none_comes (inputs.App op ask) q j = cc q
          none_comes (inputs.Control m) q j = absurd j
          none_comes inputs.Tick q j = absurd j
          none_comes (inputs.Done number o) q j = absurd j

          go : Has (g.op, f.ask) (map key site.node.state.operations) ⊎ Has (g.op, f.ask) (coming r.input) → a.op ≤ asks_before x' a.client
          go (inr j) = absurd (none_comes r.input f.comes j)
          go (inl j) =
              let o = has_map key site.node.state.operations (g.op, f.ask) j in
              let y = (facts.changes_.names_.all.base.cuts.clients c site r.at).asked o.0 o.1 in
              let l = (numbered_below (asks_of past c) o.0.op o.0.ask y).1 in
              let total_ = (facts.changes_.names_.all.base.cuts.clients c site r.at).count in
              let i = ap (λ (p : ℕ × Ask). p.0) o.2 in
              let b = eqb-true a.op g.op keys.1 in
              let d = total in
              omega (arith, l, total_, i, b, d)

      at_mark : (y : Step) → Has y past2 → (node : ServerNode) → node_of y.before.world s ≡ Some node → server_names.is_file node.state.stable.names x ≡ false →
          a.op ≤ asks_before y a.client → a.missed ≡ true
      at_mark y i node at q l =
          own_mark (asks_before y a.client) (of_file s x) its_missed missed_lasts u a there.1 ((h.lasting y i).missed s node x at q above a.client) l which

      present : (node : ServerNode) → node_of w s ≡ Some node → (b : Bool) → server_names.is_file node.state.stable.names x ≡ b →
          (a.missed ≡ true) ⊎ CameLater past w (volume.file_of a.ask) a.client a.op
      present node at false q = inl (at_mark x' (has_right past (x' ∷ []) x' (inl refl)) node at q low)
      present node at true q = given (below_or_not x z.served.serves.old.state.stable.names.next)
        where
          late : z.served.serves.old.state.stable.names.next ≤ x → (asks_before z.y a.client < a.op) ⊎ (a.op ≤ asks_before z.y a.client) →
              (a.missed ≡ true) ⊎ CameLater past w (volume.file_of a.ask) a.client a.op
          late l (inr i) = inl (at_mark z.y (has_left past (x' ∷ []) z.y z.among) z.served.serves.old z.served.serves.was z.absent i)
          late l (inl i) =
              inr
              (subst (λ (d : ClientId). CameLater past w (volume.file_of a.ask) d a.op) (sym mine)
              (subst (λ (f : FileId). CameLater past w f c a.op) (sym file_is)
              (record {
                refused = z.y;
                among = z.among;
                life_ = z.life_;
                epoch_ = z.epoch_;
                number_ = z.number_;
                n = m;
                served = z.served;
                ungiven = l;
                later = subst (λ (d : ClientId). asks_before z.y d < a.op) mine i;
                node = node;
                at = at;
                there = q;
              })))

          given : (x < z.served.serves.old.state.stable.names.next) ⊎ (z.served.serves.old.state.stable.names.next ≤ x) →
              (a.missed ≡ true) ⊎ CameLater past w (volume.file_of a.ask) a.client a.op
          given (inl l) = absurd (clash q (no_file (names_at node) x (gone.gone z.y z.among s z.served.serves.old node x z.served.serves.was z.absent l at)))
          given (inr l) = late l (below_or_not (asks_before z.y a.client) a.op)

      refused : IsMissing past w u a
      refused = record { undone = undone; missing = go (node_of w s) refl }
        where
          go : (o : Option ServerNode) → node_of w s ≡ o → (volume.tree_of u (volume.server_of a.ask) ≡ None)
              ⊎ ((volume.is_sync a.ask ≡ false) × ((a.missed ≡ true) ⊎ CameLater past w (volume.file_of a.ask) a.client a.op))
          go None at = inl (ap (volume.tree_of u) (ap (λ (g : FileId). g.server) file_is) ∙ no_tree s at)
          go (Some node) at = inr (no_sync, present node at (server_names.is_file node.state.stable.names x) refl)

  one : (r : Stepping w e sc) (u : Volume) (g : Given) (a : Pending) → IsHere r u g a → Goal (step_of g) u
  one r u g a h = by g.answer h.undone h.fits.1
    where
      said : a.result ≡ None → Says w r.client (asks_then r) r.input (had r) g.op answers.NoFile → IsMissing past w u a
      said undone (inl z) = unknown r u g a h undone z
      said undone (inr (x, m, f)) = refused r u g a h undone x m f

      by : (answer : AppAnswer) → IsOfUndone (kinds.Answered g.client g.op answer) u →
          Says w r.client (asks_then r) r.input (had r) g.op answer → Goal (kinds.Answered g.client g.op answer) u
      by answers.NoFile undone says = λ b q. subst (IsMissing past w u) (some_is (sym h.found ∙ q)) (said (undone refl a h.found) says)
      by answer undone says = tt

-- In every run.
pub MissingToo : List Step → Step → Witness → Type 0
MissingToo past x it = OnSome (λ v. AtEachStep (IsNoFile past x.before.world) (steps_of it v x) v) it.volume

pub record MissingHold (k : net.Config) (count : ℕ) (past : List Step) (t : Traced) (it : Witness) : Type 0 where
  pub facts : FactsOf k count past t it
  pub marks : MarksHold past t it
  pub gone : GoneHold past t it
  pub ranges_ : list_all (is_in_range count) past ≡ true

-- of the volume, if there is one
pub record AllToo (past past2 : List Step) (t : Traced) (v : Volume) : Type 0 where
  pub all : AllOf past t v
  pub trees : HasTreesOf t.world v
  pub olds : AllOlds past2 v

pub all_too : (k : net.Config) (count : ℕ) (past : List Step) (t : Traced) (e : Event) (sc : WorldTurn) (it : Witness) → MissingHold k count past t it →
    OnSome (AllToo past (past ++ step t e sc ∷ []) t) it.volume
all_too k count past t e sc it h =
    go it.volume (all_of k count past t it h.facts) h.marks.trees_.agree (all_olds (past ++ step t e sc ∷ []) it.volume olds)
  where
    now : AllOld (step t e sc) it.volume
    now = old_now (step t e sc) h.marks.trees_.sound it.behind it.volume h.marks.trees_.agree h.marks.notices h.marks.asks.agree

    olds : (y : Step) → Has y (past ++ step t e sc ∷ []) → AllOld y it.volume
    olds y i = by (has_append past (step t e sc ∷ []) y i)
      where
        by : Has y past ⊎ Has y (step t e sc ∷ []) → AllOld y it.volume
        by (inl j) = h.marks.olds y j
        by (inr (inl q)) = subst (λ z. AllOld z it.volume) (sym q) now
        by (inr (inr j)) = absurd j

    go : (o : Option Volume) → OnSome (AllOf past t) o → OnSome (HasTreesOf t.world) o → OnSome (AllOlds (past ++ step t e sc ∷ [])) o →
        OnSome (AllToo past (past ++ step t e sc ∷ []) t) o
    go None p q y = tt
    go (Some v) p q y = record { all = p; trees = q; olds = y }

pub missing_on : (k : net.Config) (count : ℕ) → IsGiven (Known count) (MissingHold k count) MissingToo
unfolding MissingToo
missing_on k count past t e sc it f g h = (
  on_more (AllToo past (past ++ step t e sc ∷ []) t) (λ v. AtEachStep (IsNoFile past t.world) (steps_of it v (step t e sc)) v)
      (λ v m. event_answered k count past t e sc f h.facts.unserved.facts after.unserved.facts h.facts.knows.right it v (AllOlds (past ++ step t e sc ∷ []))
      (olds_last (past ++ step t e sc ∷ [])) (IsNoFile past t.world)
      (silent k count past t e sc f h.facts.unserved.facts after.unserved.facts h.facts.knows.right it h.gone ranged v m.trees)
      (one k count past t e sc f h.facts.unserved.facts after.unserved.facts h.facts.knows.right it h.gone ranged v m.trees) m.all.log.lines m.all.agree
      m.all.asked (open_left past t e sc it f h.facts.asks)
      (and_true (all_answered_once past (step t e sc) [] sc.seen) (all_followed sc.seen) g.0.1.0).1 m.all.fine
      (olds_run (past ++ step t e sc ∷ []) (of_event t.world e) v m.olds) (event_answers t.world e sc f)) it.volume (all_too k count past t e sc it h),
  record {
    facts = after;
    marks = marks_kept past t e sc it f (g.0.1.1.0, g.1.1.1) h.marks;
    gone = gone_kept past t e sc it f tt h.gone;
    ranges_ = ranged;
  },
)
  where
    after : FactsOf k count (past ++ step t e sc ∷ []) (traced_after e t sc) (led_by it (step t e sc))
    after = facts_on k count past t e sc it f g h.facts

    ranged : list_all (is_in_range count) (past ++ step t e sc ∷ []) ≡ true
    ranged = all_last (is_in_range count) past (step t e sc) h.ranges_ g.0.0

pub files_are_missing : EveryRunIsSafe → InEveryRun FilesAreMissing
unfolding MissingToo
files_are_missing safe k clients servers disks blocks form es head events =
    let count : ℕ = clients + servers in
    given_in (Known count) (MissingHold (terms_of k) count) MissingToo (missing_on (terms_of k) count) es
    (traced (fresh_world k clients servers disks blocks form))
    (record {
      facts = facts_begin k clients servers disks blocks form head;
      marks = marks_begin k clients servers disks blocks form;
      gone = record { trees_ = trees_begin k clients servers disks blocks form; gone = λ y i. absurd i };
      ranges_ = refl;
    })
    (known_in k clients servers disks blocks form es head events (safe k clients servers disks blocks form es head events))
