-- In every run the volume takes the line of each entry: a cut has just taken effect as the request for it was served.
use Rattle.st_lemmas.proofs.Words
use Words.{◌≡◌, ℕ, ◌+◌, Bool, true, false, not, ◌&&◌, ◌||◌, ◌==◌, List, [], ◌∷◌, ◌++◌, Option, Some, None, Ok, refl, sym, ap, ◌∙◌, subst, inl, inr, if◌then◌else◌}
use Words.{eq-eqb, eqb-true, is_some, length, list_all, list_any, FileId, GrantNo, PageNo, ServerId, Stamp, Ask, Event, Message, NameAsk, NameOp, Note}
use Words.{Output, LogEntry, Observation}
use Words.answers
use Words.asks
use Words.bodies
use Words.events
use Words.nodes
use Words.notes
use Words.ops
use Words.outputs
use Words.replies
use Words.seen
use Words.Events as ev
use Words.Events.{WorldTurn, world_step}
use Words.Extents.{Extents}
use Words.Lines as lines
use Words.Lists.{Has}
use Words.Lookups.{if_true, some_is}
use Words.Names as names
use Words.Names.{Names}
use Words.Numbers.{get_last, numbered_has}
use Words.Server as sv
use Words.Server.{ServerNode, ServerTurn}
use Words.Tables.{and_both, and_true}
use Words.World as world
use Words.World.{World, clock_of, fresh_world, node_of}
use Rattle.st_base.specs.declared.names.NameAsk.TheVariants as asked
use Rattle.st_rules.specs.History.{Traced, traced}
use Rattle.st_rules.specs.Safety.{AnswersAreLogged, AsksAreAnsweredOnce, Promise, Step, TheReportTellsTheLog, step, steps}
use Rattle.st_rules.specs.declared.input.ServerInput.TheVariants.{Control}
use Rattle.st_promises.specs.Acknowledgements.{is_cut_line}
use Rattle.st_promises.specs.Safe.{EveryRunIsSafe, IsSafeRun}
use Rattle.st_laws_pages.specs.Disks.World.{Cuts, ExtentsMove, Maps, NoCut, NoCuts, OneCut, PagesHold, Stays}
use Rattle.st_laws_pages.specs.Disks.Runs.{PagesAfter}
use Rattle.st_laws_pages.proofs.Disks.Walk.{step_moves}
use Rattle.st_laws_pages.proofs.Disks.Whole.{fresh_holds}
use Rattle.st_laws_extents.specs.CutRequests.Cut.{CutBy}
use Rattle.st_laws_extents.proofs.CutRequests.Cutting.{step_cuts}
use Rattle.st_laws_extents.proofs.CutRequests.Seen.{ServedStep, cuts_served}
use Rattle.st_laws_volume.specs.StepKinds.{AreTaken, StepsAreTaken, is_change_line, is_line}
use Rattle.st_laws_volume.specs.Logs.{InEveryRun, IsLogOf}
use Rattle.st_laws_volume.specs.Options.{OnSome}
use Rattle.st_laws_volume.specs.Seen.{of_event, of_line}
use Rattle.st_laws_volume.specs.TreeNames.{IsSound, as_changed, tree_of}
use Rattle.st_laws_volume.specs.Trees.{HasTreesOf}
use Rattle.st_laws_volume.specs.Witness.{Behind, Witness, before_line, does, does_at, is_done_as, is_name_for, is_request_for, now_at, of_delivery, of_lines, of_message, same_text, serves, steps_of, takes_op, to_node, turn_of}
use Rattle.st_laws_volume.proofs.Carried.{IsGiven, given_in}
use Rattle.st_laws_volume.proofs.ChangeLines.{Known as ChangeKnown, LinesHold, lines_begin, lines_on, lines_open, on_both, taken_both}
use Rattle.st_laws_volume.proofs.CutEffects.{Joins, LogOf, MakesCut, answers_removed, does_named, request_log}
use Rattle.st_laws_volume.proofs.CutNotes.{Noted, Notes, ByCut, ByRemoval, Removal, Serving, serving}
use Rattle.st_laws_volume.proofs.LogEntries.{same_length}
use Rattle.st_laws_volume.proofs.LogLines.{delivery_quiet, event_quiet, numbered_next}
use Rattle.st_laws_volume.proofs.LogSteps.{is_quiet}
use Rattle.st_laws_volume.proofs.Options.{on_all, on_more}
use Rattle.st_laws_volume.proofs.ReadPages.{throughout_both}
use Rattle.st_laws_volume.proofs.TreeAnswers.{does_the_same}
use Rattle.st_laws_volume.proofs.TreeServers.{text_is}
use Rattle.st_laws_volume.proofs.TreeTurns.{thefts_stable}
use Rattle.st_laws_volume.proofs.TreeWorld.{AllSound, tree_there}
use Rattle.st_laws_volume.proofs.Trees.{TreesHold, trees_begin, trees_kept}
use Rattle.st_volume.specs.declared.step.VolumeStep.{VolumeStep}
use Rattle.st_volume.specs.declared.step.VolumeStep.TheVariants as kinds
use Rattle.st_volume.specs.Pages as volume_pages
use Rattle.st_volume.specs.Pages.{is_any, same_file}
use Rattle.st_volume.specs.Trees as trees
use Rattle.st_volume.specs.Trees.{Made}
use Rattle.st_volume.specs.Volume as volume
use Rattle.st_volume.specs.Volume.{Volume, run, same_change}

file_same : (f g : FileId) → f.server.0 ≡ g.server.0 → f.ino ≡ g.ino → f ≡ g
file_same f g s i = ap (λ (n : ℕ). record { server = record { 0 = n }; ino = f.ino }) s ∙ ap (λ (n : ℕ). record { server = g.server; ino = n }) i

page_same : (p q : PageNo) → p.0 ≡ q.0 → p ≡ q
page_same p q e = ap (λ (n : ℕ). record { 0 = n }) e

-- an ask for a name that leads to this remove
removes_so : (ask : NameAsk) (dir : ℕ) (name : List ℕ) (g : GrantNo) → is_name_for ask (ops.Remove dir name g) ≡ true →
    (ino : ℕ) × (ask ≡ asked.Remove dir name ino)
removes_so (asked.Remove d x ino) dir name g q =
    let b = and_true (same_text d x dir name) (if ino == 0 then g.0 == 0 else not (g.0 == 0)) q in
    let z = text_is d dir x name b.0 in
    (ino, ap (λ k. asked.Remove k x ino) z.0 ∙ ap (λ k. asked.Remove dir k ino) z.1)
removes_so (asked.Lookup d x) dir name g q = cc
removes_so (asked.Create d x) dir name g q = cc
removes_so (asked.Mkdir d x) dir name g q = cc
removes_so (asked.Rename d x d2 x2) dir name g q = cc
removes_so (asked.List d x) dir name g q = cc

-- A message at a server that runs, in the step in which it notes a cut.
module _ (w : World) (sound : AllSound w) (bs : List Behind) (v : Volume) (agree : HasTreesOf w v) (s : ServerId) (m : Message) (node : ServerNode)
    (at : node_of w s ≡ Some node)
    (id : node.state.id ≡ s) (runs : node.running ≡ true) (f : FileId) (p : PageNo) (noted : Noted (sv.server_step node.state (now_at w s) (Control m)).out f p)
  where
    abbrev Now : Stamp
    Now = now_at w s

    abbrev T : ServerTurn
    T = turn_of node Now

    abbrev n : Names
    n = node.state.stable.names

    abbrev J : Volume → Type 0
    J u = Joins v u (asks.Cut f p)

    by : CutBy node.state m f p
    by = step_cuts node.state Now m f p noted

    its_server : f.server.0 ≡ s.0
    its_server = ap (λ (x : ServerId). x.0) (by.server ∙ id)

    service : Serving Now f p T m
    service = serving node.state Now m f p noted

    abbrev emitted : Bool → List VolumeStep
    emitted b = if b then takes_op bs v s m ∷ [] else []

    done_so : does T Now m ≡ true → ((a : Ask) (u : Volume) → is_request_for s m.body a ≡ true → LogOf v a u → J u) →
        OnSome J (run (emitted (node.running && does T Now m)) v)
    done_so d h = subst (λ b. OnSome J (run (emitted b) v)) (sym (and_both node.running (does T Now m) runs d)) (request_log bs v J s m h)

    does_it : is_done_as m.body (Some service.answer) ≡ true → does T Now m ≡ true
    does_it z =
        and_both (serves T m.header) (is_done_as m.body (sv.rule T Now m.header m.body).reply) service.taken (ap (is_done_as m.body) service.ruled ∙ z)

    -- it is a request for a cut
    module _ (ino : ℕ) (g : GrantNo) (from : PageNo) (is : m.body ≡ bodies.Cut ino g from) where
      cut_is : f.ino ≡ ino → p ≡ from → (a : Ask) (u : Volume) → is_request_for s (bodies.Cut ino g from) a ≡ true → LogOf v a u → J u
      cut_is e z (asks.Cut h q) u k l =
          let b = and_true (h.server.0 == s.0) ((h.ino == ino) && (q.0 == from.0)) k in
          let c = and_true (h.ino == ino) (q.0 == from.0) b.1 in
          let file = file_same h f (eqb-true h.server.0 s.0 b.0 ∙ sym its_server) (eqb-true h.ino ino c.0 ∙ sym e) in
          let page = page_same q p (eqb-true q.0 from.0 c.1 ∙ ap (λ (x : PageNo). x.0) (sym z)) in
          subst (λ x. Joins v u x) (ap (λ x. asks.Cut x q) file ∙ ap (asks.Cut f) page) l
      cut_is e z (asks.Write h q bytes) u k l = cc
      cut_is e z (asks.Patch h q x bytes) u k l = cc
      cut_is e z (asks.Read h q) u k l = cc
      cut_is e z (asks.Sync h) u k l = cc
      cut_is e z (asks.Name r ask) u k l = cc

      by_cut : service.answer ≡ bodies.Ack → f ≡ sv.file T ino → p ≡ from → OnSome J (run (emitted (node.running && does T Now m)) v)
      by_cut done file page =
          done_so (does_it (subst (λ b. is_done_as b (Some service.answer) ≡ true) (sym is) (ap (λ b. is_done_as (bodies.Cut ino g from) (Some b)) done)))
          (λ a u k l. cut_is (ap (λ (x : FileId). x.ino) file) page a u (subst (λ b. is_request_for s b a ≡ true) is k) l)

    -- it is a request to remove a file
    module _ (op : NameOp) (is : m.body ≡ bodies.Name op) where
      same_names : T.state.stable.names ≡ n
      same_names = ap (λ (y : sv.Stable). y.names) (thefts_stable node.state Now)

      its_sound : IsSound n
      its_sound = sound node (numbered_has w.servers s.0 node at)

      -- the file that is cut is the one that the ask names
      module _ (r : Removal T op f p) (ask : NameAsk) (ino : ℕ) (u : Volume) (x : ServerId) (here : x.0 ≡ s.0)
          (its : ask ≡ asked.Remove r.dir r.name ino) (k : MakesCut v x ask u) where
        found : names.lookup n r.dir r.name ≡ Ok r.there
        found = subst (λ y. names.lookup y r.dir r.name ≡ Ok r.there) same_names r.found

        is_file : names.is_file n r.there ≡ true
        is_file = subst (λ y. names.is_file y r.there ≡ true) same_names r.is_file

        removed : names.remove n r.dir r.name ≡ Ok r.changed
        removed = subst (λ y. names.remove y r.dir r.name ≡ Ok r.changed) same_names r.removed

        tree_is : k.tree ≡ tree_of n
        tree_is = some_is (sym k.there ∙ (ap (volume.numbered v.trees) here ∙ tree_there w sound bs v agree s node at))

        did : trees.does (tree_of n) (asked.Remove r.dir r.name ino) ≡ Some k.result
        did = ap (λ t. trees.does t (asked.Remove r.dir r.name ino)) (sym tree_is) ∙ (ap (trees.does k.tree) (sym its) ∙ k.did)

        named : k.result.1.1 ≡ Some ino → k.result.1.0 ≡ answers.Named r.changed.ino → r.changed.ino ≡ ino
        named c a = one (sym a ∙ (subst (λ o. answers_removed o ino) did (does_named (tree_of n) r.dir r.name ino ino)) c)
          where
            one : {i j : ℕ} → answers.Named i ≡ answers.Named j → i ≡ j
            one q = cc

        joined : (b : Bool) → (r.there == ino) ≡ b → J u
        joined true e =
            let same : r.there ≡ ino = eqb-true r.there ino e in
            let made : Some k.result ≡ Some (tree_of r.changed.names, (answers.Named r.changed.ino, Some ino)) =
            sym did
            ∙ ((does_the_same n its_sound).remove_file r.dir r.name ino (found ∙ ap (λ j. Ok j) same) (ap (names.is_file n) (sym same) ∙ is_file)
            ∙ ap (as_changed n (Some ino)) removed) in
            let is_made = some_is made in
            let c : k.result.1.1 ≡ Some ino = ap (λ (y : Made). y.1.1) is_made in
            let i : r.changed.ino ≡ ino = named c (ap (λ (y : Made). y.1.0) is_made) in
            let file = file_same (record { server = x; ino = ino }) f (here ∙ sym its_server) (sym i ∙ ap (λ (y : FileId). y.ino) (sym r.file)) in
            subst (λ y. Joins v u y) (ap (λ y. asks.Cut y (record { 0 = 0 })) file ∙ ap (asks.Cut f) (sym r.page)) (k.cut ino c)
        joined false e = absurd (no (sym did ∙ (does_the_same n its_sound).remove_other r.dir r.name ino r.there found is_file e))
          where
            no : {y : Made} → Some y ≡ None → ⊥
            no q = cc

      name_is : Removal T op f p → (a : Ask) (u : Volume) → is_request_for s (bodies.Name op) a ≡ true → LogOf v a u → J u
      name_is r (asks.Name x ask) u q k =
          let b = and_true (x.0 == s.0) (is_name_for ask op) q in
          let z = removes_so ask r.dir r.name r.g (ap (is_name_for ask) (sym r.is) ∙ b.1) in
          joined r ask z.0 u x (eqb-true x.0 s.0 b.0) z.1 k (r.there == z.0) refl
      name_is r (asks.Write h q bytes) u k l = cc
      name_is r (asks.Patch h q x bytes) u k l = cc
      name_is r (asks.Read h q) u k l = cc
      name_is r (asks.Sync h) u k l = cc
      name_is r (asks.Cut h q) u k l = cc

      by_name : (r : Removal T op f p) → service.answer ≡ bodies.Named (replies.Ino r.changed.ino) → OnSome J (run (emitted (node.running && does T Now m)) v)
      by_name r done =
          done_so (does_it (subst (λ b. is_done_as b (Some service.answer) ≡ true) (sym is) (ap (λ b. is_done_as (bodies.Name op) (Some b)) done)))
          (λ a u k l. name_is r a u (subst (λ b. is_request_for s b a ≡ true) is k) l)

    joins : OnSome J (run (emitted (node.running && does T Now m)) v)
    joins = go service.noted
      where
        go : Notes T f p m.body service.answer → OnSome J (run (emitted (node.running && does T Now m)) v)
        go (ByCut ino g from is done file page) = by_cut ino g from is done file page
        go (ByRemoval op r is done) = by_name op is r done

-- Lines of a server: one cut, and lines that aren't steps of the volume.
abbrev IsPlainLine : Observation → Type 0
IsPlainLine (seen.Sent k m) = Unit {0}
IsPlainLine (seen.Suspected s c start) = Unit {0}
IsPlainLine (seen.Stolen s c life) = Unit {0}
IsPlainLine o = ⊥

abbrev ArePlain : List Observation → Type 0
ArePlain [] = Unit {0}
ArePlain (o ∷ os) = IsPlainLine o × ArePlain os

data HasOne (f : FileId) (p : PageNo) : List Observation → Type 0 where
  Here : (i : ℕ) (os : List Observation) → ArePlain os → HasOne f p (seen.CutAt i f p ∷ os)
  There : (o : Observation) (os : List Observation) → IsPlainLine o → HasOne f p os → HasOne f p (o ∷ os)

plain_last : (os : List Observation) (o : Observation) → IsPlainLine o → ArePlain os → ArePlain (os ++ o ∷ [])
plain_last [] o k h = (k, tt)
plain_last (x ∷ os) o k h = (h.0, plain_last os o k h.1)

one_last : (f : FileId) (p : PageNo) (os : List Observation) (o : Observation) → IsPlainLine o → HasOne f p os → HasOne f p (os ++ o ∷ [])
one_last f p _ o k (Here i os h) = Here i (os ++ o ∷ []) (plain_last os o k h)
one_last f p _ o k (There x os l h) = There x (os ++ o ∷ []) l (one_last f p os o k h)

one_here : (f : FileId) (p : PageNo) (i : ℕ) (os : List Observation) → ArePlain os → HasOne f p (os ++ seen.CutAt i f p ∷ [])
one_here f p i [] h = Here i [] tt
one_here f p i (x ∷ os) h = There x (os ++ seen.CutAt i f p ∷ []) h.0 (one_here f p i os h.1)

module _ (s : ServerId) (P : List Observation → Type 0) (more : (os : List Observation) (o : Observation) → IsPlainLine o → P os → P (os ++ o ∷ [])) where
  output_keeps : (o : Output) (sc : WorldTurn) → NoCut o → P sc.seen → P (ev.server_says sc s o).seen
  unfolding ev.server_says ev.server_notes ev.sends
  output_keeps (outputs.Send m) sc k h = more sc.seen _ tt h
  output_keeps (outputs.Note x) sc k h = note x k
    where
      note : (x : Note) → NoCut (outputs.Note x) → P (ev.server_notes sc s x).seen
      note (notes.Suspected d start) k = more sc.seen _ tt h
      note (notes.Stolen d life) k = more sc.seen _ tt h
      note (notes.CutDone g q) k = absurd k
      note x k = h
  output_keeps o sc k h = h

  outputs_keep : (os : List Output) (sc : WorldTurn) → NoCuts os → P sc.seen → P (ev.server_says_all s os sc).seen
  unfolding ev.server_says_all
  outputs_keep [] sc k h = h
  outputs_keep (o ∷ os) sc k h = outputs_keep os (ev.server_says sc s o) k.rest (output_keeps o sc k.one h)

one_line : (s : ServerId) (f : FileId) (p : PageNo) (os : List Output) (sc : WorldTurn) → OneCut f p os → ArePlain sc.seen →
    HasOne f p (ev.server_says_all s os sc).seen
unfolding ev.server_says_all ev.server_says ev.server_notes ev.cuts
one_line s f p [] sc k h = absurd k
one_line s f p (o ∷ os) sc (inl k) h =
    subst (λ y. HasOne f p (ev.server_says_all s os (ev.server_says sc s y)).seen) (sym k.here)
    (outputs_keep s (HasOne f p) (one_last f p) os (ev.server_says sc s (outputs.Note (notes.CutDone f p))) k.rest
    (one_here f p (length sc.world.log + 1) sc.seen h))
one_line s f p (o ∷ os) sc (inr k) h = one_line s f p os (ev.server_says sc s o) k.rest (output_keeps s ArePlain plain_last o sc k.one h)

-- the cut that is noted is the one
none_noted : (os : List Output) (f : FileId) (p : PageNo) → NoCuts os → Noted os f p → ⊥
none_noted [] f p k h = absurd h
none_noted (o ∷ os) f p k (inl e) = subst NoCut (sym e) k.one
none_noted (o ∷ os) f p k (inr i) = none_noted os f p k.rest i

one_noted : (os : List Output) (g f : FileId) (q p : PageNo) → OneCut g q os → Noted os f p → OneCut f p os
one_noted [] g f q p k h = absurd h
one_noted (o ∷ os) g f q p (inl k) (inl e) = inl (record { here = sym e; rest = k.rest })
one_noted (o ∷ os) g f q p (inl k) (inr i) = absurd (none_noted os f p k.rest i)
one_noted (o ∷ os) g f q p (inr k) (inl e) = absurd (subst NoCut (sym e) k.one)
one_noted (o ∷ os) g f q p (inr k) (inr i) = inr (record { one = k.one; rest = one_noted os g f q p k.rest i })

moved_one : (s : ServerId) (x y : Extents) (os : List Output) (f : FileId) (p : PageNo) → ExtentsMove s x y os → Noted os f p → OneCut f p os
moved_one s x _ _ f p (Stays os k) h = absurd (none_noted os f p k h)
moved_one s x _ _ f p (Maps os g ps e k) h = absurd (none_noted os f p k h)
moved_one s x _ _ f p (Cuts os g q e k) h = one_noted os g f q p k h

-- Steps of the volume other than lines of cuts.
abbrev is_cut_join : VolumeStep → Bool
is_cut_join (kinds.Joined i None what) = true
is_cut_join it = false

abbrev is_none : VolumeStep → Bool
is_none it = not (is_cut_join it)

others_taken : (its : List VolumeStep) (v : Volume) → list_all is_none its ≡ true → AreTaken is_cut_join its v
unfolding AreTaken
others_taken [] v q = tt
others_taken (it ∷ its) v q =
    let b = and_true (is_none it) (list_all is_none its) q in
    (λ p. absurd (clash (is_cut_join it) p b.0), on_all (AreTaken is_cut_join its) (λ u. others_taken its u b.1) (volume.step v it))
  where
    clash : (b : Bool) → b ≡ true → not b ≡ true → ⊥
    clash true p q = cc
    clash false p q = cc

all_none : (xs ys : List VolumeStep) → list_all is_none xs ≡ true → list_all is_none ys ≡ true → list_all is_none (xs ++ ys) ≡ true
all_none [] ys p q = q
all_none (x ∷ xs) ys p q =
    let b = and_true (is_none x) (list_all is_none xs) p in and_both (is_none x) (list_all is_none (xs ++ ys)) b.0 (all_none xs ys b.1 q)

quiet_none : (its : List VolumeStep) → list_all is_quiet its ≡ true → list_all is_none its ≡ true
quiet_none [] q = refl
quiet_none (it ∷ its) q =
    let b = and_true (is_quiet it) (list_all is_quiet its) q in and_both (is_none it) (list_all is_none its) (one it b.0) (quiet_none its b.1)
  where
    one : (it : VolumeStep) → is_quiet it ≡ true → is_none it ≡ true
    one (kinds.Joined i c what) q = cc
    one (kinds.Asked c ask) q = refl
    one (kinds.TakesEffect c op) q = refl
    one (kinds.Answered c op answer) q = refl
    one (kinds.Hardened i) q = refl
    one (kinds.Dropped i cause) q = refl
    one (kinds.Crashed c) q = refl
    one (kinds.Restarted s) q = refl
    one (kinds.WriteFailed c number i) q = refl
    one (kinds.ReadFailed c s number) q = refl

-- lines among which there is no cut
lines_none : (w : World) (os : List Observation) → list_any is_cut_line os ≡ false → list_all is_none (of_lines w os) ≡ true
unfolding of_lines before_line of_line
lines_none w [] q = refl
lines_none w (seen.Wrote i c f p bytes ∷ os) q = lines_none w os q
lines_none w (seen.Patched i c f p at bytes ∷ os) q = lines_none w os q
lines_none w (seen.CutAt i f p ∷ os) q = cc
lines_none w (seen.Hardened i ∷ os) q = lines_none w os q
lines_none w (seen.Dropped i cause ∷ os) q = lines_none w os q
lines_none w (seen.Answered c op answer ∷ os) q = lines_none w os q
lines_none w (seen.Sent k m ∷ os) q = lines_none w os q
lines_none w (seen.Submitted k c number what ∷ os) q = lines_none w os q
lines_none w (seen.Leased c s end ∷ os) q = lines_none w os q
lines_none w (seen.Lost c s life ∷ os) q = lines_none w os q
lines_none w (seen.Suspected s c start ∷ os) q = lines_none w os q
lines_none w (seen.Stolen s c life ∷ os) q = lines_none w os q

plain_taken : (w : World) (os : List Observation) (u : Volume) → ArePlain os → AreTaken is_cut_join (of_lines w os) u
unfolding of_lines before_line of_line AreTaken
plain_taken w [] u h = tt
plain_taken w (o ∷ os) u h = go o h.0 (plain_taken w os u h.1)
  where
    go : (o : Observation) → IsPlainLine o → AreTaken is_cut_join (of_lines w os) u →
        AreTaken is_cut_join (before_line o os ++ (of_line w o ++ of_lines w os)) u
    go (seen.Sent number m) k r = r
    go (seen.Suspected s c start) k r = r
    go (seen.Stolen s c life) k r = r
    go o k r = absurd k

-- The line of a cut that has just taken effect.
cut_self : (f : FileId) (p : PageNo) → same_change (asks.Cut f p) (asks.Cut f p) ≡ true
cut_self f p =
    and_both (same_file f f) (p.0 == p.0)
    (and_both (f.server.0 == f.server.0) (f.ino == f.ino) (eq-eqb f.server.0 f.server.0 refl) (eq-eqb f.ino f.ino refl)) (eq-eqb p.0 p.0 refl)

abbrev tells_cut : Ask → volume_pages.Entry → Bool
tells_cut what e = same_change e.what what && not (is_any (λ d. not (volume_pages.is_by d e)) None)

module _ (f : FileId) (p : PageNo) (v u : Volume) (es : List LogEntry) (j : Joins v u (asks.Cut f p)) (lined : v.lines ≡ length v.log)
    (many : v.lines ≡ length es) where
  cut_line : (i : ℕ) → (i == length es + 1) ≡ true → is_some (volume.step u (kinds.Joined i None (asks.Cut f p))) ≡ true
  cut_line i q =
      let next : i ≡ v.lines + 1 = eqb-true i (length es + 1) q ∙ ap (λ (n : ℕ). n + 1) (sym many) in
      ap is_some
      (if_true ((i == u.lines + 1) && is_any (tells_cut (asks.Cut f p)) (volume.numbered u.log i)) (Some (record u { lines = i })) None
      (and_both (i == u.lines + 1) (is_any (tells_cut (asks.Cut f p)) (volume.numbered u.log i))
      (eq-eqb i (u.lines + 1) (next ∙ ap (λ (n : ℕ). n + 1) (sym j.lines)))
      (ap (is_any (tells_cut (asks.Cut f p)))
      (ap (λ xs. volume.numbered xs i) j.log
      ∙ (numbered_next (v.log ++ j.joined ∷ []) (length v.log) i (next ∙ ap (λ (n : ℕ). n + 1) lined) ∙ get_last v.log j.joined))
      ∙ and_both (same_change j.joined.what (asks.Cut f p)) true (ap (λ x. same_change x (asks.Cut f p)) j.is ∙ cut_self f p) refl)))

  cut_taken : (w g : World) (os : List Observation) → HasOne f p os → lines.all_tell_log g es os ≡ true → AreTaken is_cut_join (of_lines w os) u
  unfolding of_lines before_line of_line AreTaken lines.all_tell_log lines.log_behind
  cut_taken w g _ (Here i os h) n =
      let b = and_true (i == length es + 1) _ n in
      (λ q. cut_line i b.0, on_all (AreTaken is_cut_join (of_lines w os)) (λ z. plain_taken w os z h) (volume.step u (kinds.Joined i None (asks.Cut f p))))
  cut_taken w g _ (There o os k h) n = go o k (cut_taken w g os h) n
    where
      go : (o : Observation) → IsPlainLine o → (lines.all_tell_log g es os ≡ true → AreTaken is_cut_join (of_lines w os) u) →
          (lines.tells_log es o && lines.all_tell_log g (lines.log_behind g es o) os) ≡ true →
          AreTaken is_cut_join (before_line o os ++ (of_line w o ++ of_lines w os)) u
      go (seen.Sent number m) k r n = r n
      go (seen.Suspected s c start) k r n = r n
      go (seen.Stolen s c life) k r n = r n
      go o k r n = absurd k

-- the line of a cut is there
record CutThere (os : List Observation) : Type 0 where
  index : ℕ
  file : FileId
  page : PageNo
  among : Has (seen.CutAt index file page) os

cut_there : (os : List Observation) → list_any is_cut_line os ≡ true → CutThere os
cut_there [] q = cc
cut_there (o ∷ os) q = go o refl (is_cut_line o) refl q (cut_there os)
  where
    cut : (x : Observation) → o ≡ x → is_cut_line x ≡ true → CutThere (o ∷ os)
    cut (seen.CutAt index f p) e r = record { index = index; file = f; page = p; among = inl (sym e) }
    cut x e r = cc r

    go : (x : Observation) → o ≡ x → (b : Bool) → is_cut_line o ≡ b → (b || list_any is_cut_line os) ≡ true → (list_any is_cut_line os ≡ true → CutThere os) →
        CutThere (o ∷ os)
    go x e true r q k = cut x e (ap is_cut_line (sym e) ∙ r)
    go x e false r q k = let z = k q in record { index = z.index; file = z.file; page = z.page; among = inr z.among }

-- All steps of an event.
module _ (w : World) (e : Event) (sc : WorldTurn) (happened : world_step w e ≡ Ok sc)
    (ids : (s : ServerId) (n : ServerNode) → node_of w s ≡ Some n → n.state.id ≡ s)
    (told : lines.IsLogTold sc.world w.log sc.seen) (sound : AllSound w) (bs : List Behind) (v : Volume) (agree : HasTreesOf w v) (logged : IsLogOf w.log v)
    (many : v.lines ≡ length w.log) where
  abbrev first : List VolumeStep
  first = of_event w e

  abbrev served : List VolumeStep
  served = of_delivery bs v w e

  abbrev all : List VolumeStep
  all = of_lines w sc.seen

  without : list_any is_cut_line sc.seen ≡ false → AreTaken is_cut_join (first ++ (served ++ all)) v
  without q =
      others_taken (first ++ (served ++ all)) v
      (all_none first (served ++ all) (quiet_none first (event_quiet w e))
      (all_none served all (quiet_none served (delivery_quiet bs v w e)) (lines_none w sc.seen q)))

  -- a cut is of a server, which has just served the request for it
  module _ (f : FileId) (p : PageNo) (z : ServedStep (ev.counted w) e sc f p) where
    abbrev m : Message
    m = z.delivery.sent.message

    noted : Noted (sv.server_step z.node.state (now_at w z.who) (Control m)).out f p
    noted = subst (λ i. Noted (sv.server_step z.node.state (now_at w z.who) i).out f p) z.delivery.comes z.noted

    served_is : served ≡ (if z.node.running && does (turn_of z.node (now_at w z.who)) (now_at w z.who) m then takes_op bs v z.who m ∷ [] else [])
    served_is =
        ap (of_delivery bs v w) z.delivery.delivers
        ∙ (ap (of_message bs v w) z.delivery.is_sent
        ∙ (ap (to_node bs v w m) z.delivery.receiver
        ∙ ap (λ o. if does_at w z.who o m then takes_op bs v z.who m ∷ [] else []) z.there))

    just_joined : OnSome (λ u. Joins v u (asks.Cut f p)) (run served v)
    just_joined =
        subst (λ its. OnSome (λ u. Joins v u (asks.Cut f p)) (run its v)) (sym served_is)
        (joins w sound bs v agree z.who m z.node z.there (ids z.who z.node z.there) z.running f p noted)

    one : HasOne f p sc.seen
    one =
        subst (λ (y : WorldTurn). HasOne f p y.seen) (sym z.is)
        (one_line z.who f p (sv.server_step z.node.state (clock_of (ev.counted w) (nodes.Server z.who)) z.input).out z.start
        (moved_one z.node.state.id z.node.state.stable.extents
        (sv.server_step z.node.state (clock_of (ev.counted w) (nodes.Server z.who)) z.input).state.stable.extents
        (sv.server_step z.node.state (clock_of (ev.counted w) (nodes.Server z.who)) z.input).out f p
        (step_moves z.node.state (clock_of (ev.counted w) (nodes.Server z.who)) z.input) z.noted)
        (subst ArePlain (sym z.empty) tt))

    here : AreTaken is_cut_join (served ++ all) v
    here =
        taken_both is_cut_join served all v (others_taken served v (quiet_none served (delivery_quiet bs v w e)))
        (on_more (λ u. Joins v u (asks.Cut f p)) (AreTaken is_cut_join all)
        (λ u j. cut_taken f p v u w.log j logged.lines many w sc.world sc.seen one told.numbers)
        (run served v) just_joined)

    with_cut : AreTaken is_cut_join (first ++ (served ++ all)) v
    unfolding of_event run
    with_cut =
        taken_both is_cut_join first (served ++ all) v (others_taken first v (quiet_none first (event_quiet w e)))
        (subst (λ y. OnSome (AreTaken is_cut_join (served ++ all)) (run (of_event w y) v)) (sym z.delivery.delivers) here)

  event_cuts : AreTaken is_cut_join (first ++ (served ++ all)) v
  event_cuts = go (list_any is_cut_line sc.seen) refl
    where
      go : (b : Bool) → list_any is_cut_line sc.seen ≡ b → AreTaken is_cut_join (first ++ (served ++ all)) v
      go false q = without q
      go true q = let z = cut_there sc.seen q in with_cut z.file z.page (cuts_served w e sc ids happened z.index z.file z.page z.among)

-- Lines of changes, and lines of cuts, are all lines of entries.
both_taken : (its : List VolumeStep) (v : Volume) → AreTaken is_change_line its v → AreTaken is_cut_join its v → AreTaken is_line its v
unfolding AreTaken
both_taken [] v a b = tt
both_taken (it ∷ its) v a b = (one it a.0 b.0, go (volume.step v it) a.1 b.1 (λ u. both_taken its u))
  where
    one : (it : VolumeStep) → (is_change_line it ≡ true → is_some (volume.step v it) ≡ true) → (is_cut_join it ≡ true → is_some (volume.step v it) ≡ true) →
        is_line it ≡ true →
        is_some (volume.step v it) ≡ true
    one (kinds.Joined i None what) a b q = b refl
    one (kinds.Joined i (Some c) what) a b q = a refl
    one (kinds.Asked c ask) a b q = cc
    one (kinds.TakesEffect c op) a b q = cc
    one (kinds.Answered c op answer) a b q = cc
    one (kinds.Hardened i) a b q = cc
    one (kinds.Dropped i cause) a b q = cc
    one (kinds.Crashed c) a b q = cc
    one (kinds.Restarted s) a b q = cc
    one (kinds.WriteFailed c number i) a b q = cc
    one (kinds.ReadFailed c s number) a b q = cc

    go : (o : Option Volume) → OnSome (AreTaken is_change_line its) o → OnSome (AreTaken is_cut_join its) o →
        ((u : Volume) → AreTaken is_change_line its u → AreTaken is_cut_join its u → AreTaken is_line its u) → OnSome (AreTaken is_line its) o
    go None a b h = tt
    go (Some u) a b h = h u a b

-- In every run.
AllLinesToo : List Step → Step → Witness → Type 0
AllLinesToo past x it = OnSome (λ v. AreTaken is_line (steps_of it v x) v) it.volume

record AllLinesHold (past : List Step) (t : Traced) (it : Witness) : Type 0 where
  changes : LinesHold past t it
  trees : TreesHold past t it
  pages : PagesHold t.world

abbrev AllKnown : Promise
AllKnown past x = ChangeKnown past x × PagesHold x.after.world

all_lines_on : IsGiven AllKnown AllLinesHold AllLinesToo
unfolding AllLinesToo
all_lines_on past t e sc it f g h =
    let r = lines_on past t e sc it f g.0 h.changes in
    let w : World = t.world in (
      on_more (λ v. (AreTaken is_change_line (steps_of it v (step t e sc)) v) × (IsLogOf w.log v × HasTreesOf w v))
          (λ v. AreTaken is_line (steps_of it v (step t e sc)) v)
          (λ v k. both_taken (steps_of it v (step t e sc)) v k.0
          (event_cuts w e sc f h.pages.extents.ids g.0.0 h.trees.sound it.behind v k.1.1 k.1.0 (k.1.0.lines ∙ same_length w.log v.log k.1.0.entries)))
          it.volume
          (on_both (λ v. AreTaken is_change_line (steps_of it v (step t e sc)) v) (λ v. IsLogOf w.log v × HasTreesOf w v) it.volume
          (lines_open past (step t e sc) it r.0)
          (on_both (IsLogOf w.log) (HasTreesOf w) it.volume h.changes.log h.trees.agree)),
      record { changes = r.1; trees = trees_kept past t e sc it f tt h.trees; pages = g.1 },
    )

pub lines_are_taken : EveryRunIsSafe → InEveryRun PagesAfter → InEveryRun (StepsAreTaken is_line)
unfolding AllLinesToo
lines_are_taken safe pages k clients servers disks blocks form es head events =
    let t : Traced = traced (fresh_world k clients servers disks blocks form) in
    let kept : IsSafeRun (fresh_world k clients servers disks blocks form) es = safe k clients servers disks blocks form es head events in
    given_in AllKnown AllLinesHold AllLinesToo all_lines_on es t
    (record {
      changes = lines_begin k clients servers disks blocks form;
      trees = trees_begin k clients servers disks blocks form;
      pages = fresh_holds k clients servers disks blocks form;
    })
    (throughout_both ChangeKnown PagesAfter [] (steps es t)
    (throughout_both TheReportTellsTheLog (λ past x. AsksAreAnsweredOnce past x × AnswersAreLogged past x) [] (steps es t) kept.told
    (throughout_both AsksAreAnsweredOnce AnswersAreLogged [] (steps es t) kept.once kept.logged))
    (pages k clients servers disks blocks form es head events))
