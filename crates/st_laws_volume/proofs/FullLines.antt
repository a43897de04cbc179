-- In every run, at each line that answers `dirtyfull`, 64 pages of the server are dirty at the
-- client beside the asked one. Each was dirty before the event, or a line before this one changed
-- it; it is dirty after the event; and no sync of its file was answered hard since.
use Rattle.st_lemmas.proofs.Words
use Words.{◌≡◌, ◌⊎◌, ℕ, Bool, true, false, ◌||◌, List, [], ◌∷◌, ◌++◌, Option, Some, None, Ok, refl, sym, ap, ◌∙◌, subst, inl, inr}
use Words.{append-nil, append_assoc, length, list_any, nat_le, AppAnswer, Ask, BlockAt, ClientId, Command, DirtyPage, Event, FileId, Note, Observation, Output, PageNo}
use Words.{ServerId, Stamp}
use Words.answers
use Words.nodes
use Words.notes
use Words.outputs
use Words.seen
use Words.Client as cl
use Words.ClientPages as pages
use Words.ClientState.{Association, ClientState}
use Words.Events as ev
use Words.Events.{WorldTurn, world_step}
use Words.Lists.{Has}
use Words.Lookups.{or_cases, some_is}
use Words.Safety.{Promise, Step, ask_of, step, steps}
use Words.World.{WorldClient, clock_of, fresh_world, site_of}
use Rattle.st_rules.specs.History.{Traced, traced}
use Rattle.st_laws_pages.specs.Asks.Law.{PlacesHold}
use Rattle.st_laws_pages.proofs.Asks.Law.{places_law}
use Rattle.st_laws_pages.proofs.Causes.Law.{Stand, fresh_places, fresh_stand, one_step}
use Rattle.st_laws_volume.specs.DirtyPages.{WasDirty, is_change_of}
use Rattle.st_laws_volume.specs.HardFiles.{after_lines}
use Rattle.st_laws_volume.specs.Logs.{InEveryRun}
use Rattle.st_laws_volume.specs.LossMarks.{AllOnce, IsOnce, PagesAreOnce}
use Rattle.st_laws_volume.specs.Witness.{Witness}
use Rattle.st_laws_volume.proofs.Carried.{IsGiven, given_in}
use Rattle.st_laws_volume.proofs.DirtyAfterHard.{after_all, after_last, after_output}
use Rattle.st_laws_volume.proofs.DirtyBefore.{Begun, begun_was, output_lines, says_change}
use Rattle.st_laws_volume.proofs.DirtyOnce.{once_begins, pages_are_once}
use Rattle.st_laws_volume.proofs.EventAnswers.{Stepping}
use Rattle.st_laws_volume.proofs.EventClients.{SiteStep, event_clients, is_mute}
use Rattle.st_laws_volume.proofs.FullOutputs.{AllFull, AtAnswer, AtOutput, FullOf, IsKept, step_full}
use Rattle.st_laws_volume.proofs.HardFiles as hard
use Rattle.st_laws_volume.proofs.HardFiles.{one_so}
use Rattle.st_laws_volume.proofs.ReadPages.{throughout_both}
use Rattle.st_volume.specs.Pages.{place_of}

-- A fact of each line that answers `dirtyfull`, by the lines before it.
abbrev pub AtLine : (List Observation → ClientId → ℕ → Type 0) → List Observation → Observation →
    Type 0
AtLine G done (seen.Answered c op a) = AtAnswer (G done c op) a
AtLine G done o = Unit {0}

abbrev pub AllLines : (List Observation → ClientId → ℕ → Type 0) → List Observation →
    List Observation → Type 0
AllLines G done [] = Unit {0}
AllLines G done (o ∷ os) = AtLine G done o × AllLines G (done ++ o ∷ []) os

lines_last : (G : List Observation → ClientId → ℕ → Type 0) (done os : List Observation)
    (o : Observation) → AllLines G done os → AtLine G (done ++ os) o →
    AllLines G done (os ++ o ∷ [])
lines_last G done [] o h k = (subst (λ xs. AtLine G xs o) (append-nil done) k, tt)
lines_last G done (x ∷ os) o h k = (
  h.0,
  lines_last G (done ++ x ∷ []) os o h.1
      (subst (λ xs. AtLine G xs o) (sym (append_assoc done (x ∷ []) os)) k),
)

pub line_at : (G : List Observation → ClientId → ℕ → Type 0) (done xs ys : List Observation)
    (o : Observation) → AllLines G done (xs ++ o ∷ ys) →
    AtLine G (done ++ xs) o
line_at G done [] ys o h = subst (λ zs. AtLine G zs o) (sym (append-nil done)) h.0
line_at G done (x ∷ xs) ys o h = subst (λ zs. AtLine G zs o) (append_assoc done (x ∷ []) xs)
    (line_at G (done ++ x ∷ []) xs ys o h.1)

-- lines that tell nothing of clients
mute_lines : (G : List Observation → ClientId → ℕ → Type 0) (done os : List Observation) →
    Words.list_all is_mute os ≡ true → AllLines G done os
mute_lines G done [] q = tt
mute_lines G done (o ∷ os) q =
    let b = Words.Tables.and_true (is_mute o) (Words.list_all is_mute os) q in
    (one o b.0, mute_lines G (done ++ o ∷ []) os b.1)
  where
    one : (o : Observation) → is_mute o ≡ true → AtLine G done o
    one (seen.Answered c op a) z = cc z
    one o z = tt

any_last : {A : Type 0} (p : A → Bool) (xs : List A) (o : A) → list_any p (xs ++ o ∷ []) ≡ true →
    (list_any p xs ≡ true) ⊎ (p o ≡ true)
any_last p [] o q = by (or_cases (p o) false q)
  where
    by : (p o ≡ true) ⊎ (false ≡ true) → (false ≡ true) ⊎ (p o ≡ true)
    by (inl z) = inr z
    by (inr z) = cc z
any_last p (x ∷ xs) o q = go (p x) q (any_last p xs o)
  where
    go : (b : Bool) → (b || list_any p (xs ++ o ∷ [])) ≡ true →
        (list_any p (xs ++ o ∷ []) ≡ true → (list_any p xs ≡ true) ⊎ (p o ≡ true)) →
        ((b || list_any p xs) ≡ true) ⊎ (p o ≡ true)
    go true z r = inl refl
    go false z r = r z

-- Lines of a client's outputs.
module _ (asked : ℕ → Option Ask) (c : ClientId) (before : ClientState)
    (F : List Output → ℕ → Type 0) (G : List Observation → ClientId → ℕ → Type 0) where
  -- outputs and lines say the same of pages
  record Alike (done : List Output) (os : List Observation) : Type 0 where
    flags : (v : ServerId) (ino : ℕ) (p : PageNo) →
        after_lines asked c v ino p false os ≡ after_all asked v ino p false done
    changes : (v : ServerId) (ino : ℕ) (p : PageNo) → list_any (says_change v ino p) done ≡ true →
        list_any (is_change_of c v ino p) os ≡ true

  alike_one : (done : List Output) (o : Output) (sc : WorldTurn) → Alike done sc.seen →
      Alike (done ++ o ∷ []) (ev.client_says sc c before o).seen
  alike_one done o sc h =
      record {
        flags = λ v ino p.
            one_so asked c v ino p before o sc
            ∙ (ap (λ b. after_output asked v ino p b o) (h.flags v ino p) ∙
            sym (after_last asked v ino p false done o));
        changes = λ v ino p q. output_lines c v ino p before o sc
            (by v ino p (any_last (says_change v ino p) done o q));
      }
    where
      by : (v : ServerId) (ino : ℕ) (p : PageNo) →
          (list_any (says_change v ino p) done ≡ true) ⊎ (says_change v ino p o ≡ true) →
          (list_any (is_change_of c v ino p) sc.seen ≡ true) ⊎ (says_change v ino p o ≡ true)
      by v ino p (inl z) = inl (h.changes v ino p z)
      by v ino p (inr z) = inr z

  abbrev All : List Observation → Type 0
  All os = AllLines G [] os

  silent_too : (os : List Observation) (o : Observation) → AtLine G os o → All os →
      All (os ++ o ∷ [])
  silent_too os o k h = lines_last G [] os o h k

  note_all : (n : Note) (sc : WorldTurn) → All sc.seen → All (ev.client_notes sc c before n).seen
  unfolding ev.client_notes ev.accepts ev.patches ev.loses
  note_all (notes.Leased v end) sc h = silent_too sc.seen _ tt h
  note_all (notes.Lost v life) sc h = silent_too sc.seen _ tt h
  note_all (notes.Accepted f q bytes) sc h = silent_too sc.seen _ tt h
  note_all (notes.Patched f q at bytes) sc h = silent_too sc.seen _ tt h
  note_all n sc h = h

  submit_all : (o : Option WorldClient) (number : ℕ) (at : BlockAt) (what : Command)
      (sc : WorldTurn) → All sc.seen →
      All (ev.submits sc c o number at what).seen
  unfolding ev.submits
  submit_all None number at what sc h = h
  submit_all (Some site) number at what sc h = silent_too sc.seen _ tt h

  output_all : (done : List Output) (o : Output) (sc : WorldTurn) →
      ((op : ℕ) → F done op → G sc.seen c op) → AtOutput F done o → All sc.seen →
      All (ev.client_says sc c before o).seen
  unfolding ev.client_says ev.sends ev.answers_with
  output_all done (outputs.Send m) sc f k h = silent_too sc.seen _ tt h
  output_all done (outputs.Submit number at what) sc f k h =
      submit_all (site_of sc.world c) number at what sc h
  output_all done (outputs.Note n) sc f k h = note_all n sc h
  output_all done (outputs.Answer op a) sc f k h =
      silent_too sc.seen (seen.Answered c op a) (by a k) h
    where
      by : (a : AppAnswer) → AtAnswer (F done op) a → AtAnswer (G sc.seen c op) a
      by answers.DirtyFull z = f op z
      by a z = tt

  all_lines :
      ((done : List Output) (os : List Observation) (op : ℕ) → Alike done os → F done op →
      G os c op) → (os : List Output) (done : List Output)
      (sc : WorldTurn) → Alike done sc.seen → AllFull F done os → All sc.seen →
      All (ev.client_says_all c before os sc).seen
  unfolding ev.client_says_all
  all_lines f [] done sc a k h = h
  all_lines f (o ∷ os) done sc a k h =
      all_lines f os (done ++ o ∷ []) (ev.client_says sc c before o) (alike_one done o sc a) k.1
      (output_all done o sc (λ op z. f done sc.seen op a z) k.0 h)

-- An event: the page is dirty after it; it was so before, or these lines changed it; and none of
-- them answers a sync of its file hard since.
pub record IsKeptIn (past : List Step) (x : Step) (done : List Observation) (c : ClientId)
    (b : Association) (ino : ℕ) (p : PageNo) : Type 0 where
  pub page : DirtyPage
  pub dirty : pages.dirty_of b.store.pages ino p ≡ Some page
  pub clean : after_lines (ask_of past x c) c b.server ino p false done ≡ false
  pub was : WasDirty x.before.world c b ino p ⊎
      (list_any (is_change_of c b.server ino p) done ≡ true)

-- An ask that is answered so.
pub record IsFullIn (past : List Step) (x : Step) (done : List Observation) (c : ClientId) (op : ℕ)
    : Type 0 where
  pub site : WorldClient
  pub there : site_of x.after.world c ≡ Some site
  pub b : Association
  pub has : Has b site.node.state.associations
  pub ask : Ask
  pub known : ask_of past x c op ≡ Some ask
  pub f : FileId
  pub p : PageNo
  pub place : place_of ask ≡ Some (f, p)
  pub own : f.server ≡ b.server
  pub ds : List DirtyPage
  pub alone : IsOnce ds
  pub many : nat_le 64 (length (pages.without_dirty f.ino p ds)) ≡ true
  pub each : (d : DirtyPage) → Has d ds → IsKeptIn past x done c b d.ino d.page

-- at each line
abbrev pub FullLines : Promise
FullLines past x = AllLines (IsFullIn past x) [] x.seen

module _ (past : List Step) (t : Traced) (e : Event) (sc : WorldTurn) (stand : Stand past t)
    (once : AllOnce t.world) where
  abbrev x' : Step
  x' = step t e sc

  module _ (r : Stepping t.world e sc) (s : SiteStep t.world sc r.client) where
    abbrev c : ClientId
    c = r.client

    abbrev asked : ℕ → Option Ask
    asked = ask_of past x' c

    abbrev state : ClientState
    state = r.site.node.state

    abbrev F : List Output → ℕ → Type 0
    F = FullOf asked r.now state (cl.client_step state r.now r.input).state.associations

    said : AllFull F [] (cl.client_step state r.now r.input).out
    said =
        let n = hard.holds past t e sc stand r in
        step_full asked r.now state r.input n.fit n.once (once c r.site r.at)
        (hard.known past t e sc stand r)
        (hard.tells past t e sc stand r r.input r.takes)

    -- after the event
    here : (b : Association) → Has b (cl.client_step state r.now r.input).state.associations →
        Has b s.after.node.state.associations
    here b i =
        subst (λ (z : WorldClient). Has b z.node.state.associations) (some_is (sym r.left ∙ s.left))
        (subst (λ (z : ClientState). Has b z.associations) (sym r.state_is) i)

    begun : (v : ServerId) (ino : ℕ) (p : PageNo) → Begun r.now state v ino p →
        Begun (clock_of t.world (nodes.Client c)) s.site.node.state v ino p
    begun v ino p k =
        subst (λ (z : WorldClient). Begun (clock_of t.world (nodes.Client c)) z.node.state v ino p)
        (some_is (sym r.at ∙ s.there))
        (subst (λ n. Begun n state v ino p) r.clock k)

    kept : (done : List Output) (os : List Observation) →
        Alike asked c state F (IsFullIn past x') done os → (b : Association) →
        Has b s.after.node.state.associations → (ino : ℕ) (p : PageNo) →
        IsKept asked r.now state done b ino p → IsKeptIn past x' os c b ino p
    kept done os a b i ino p h =
        record {
          page = h.page;
          dirty = h.dirty;
          clean = a.flags b.server ino p ∙ h.clean;
          was =
              by h.was;
        }
      where
        by : Begun r.now state b.server ino p ⊎
            (list_any (says_change b.server ino p) done ≡ true) →
            WasDirty t.world c b ino p ⊎ (list_any (is_change_of c b.server ino p) os ≡ true)
        by (inl k) =
            inl (begun_was past t e sc stand.fates.lives c s b i ino p (begun b.server ino p k))
        by (inr k) = inr (a.changes b.server ino p k)

    full_in : (done : List Output) (os : List Observation) (op : ℕ) →
        Alike asked c state F (IsFullIn past x') done os → F done op →
        IsFullIn past x' os c op
    full_in done os op a (b, i, h) =
        record {
          site = s.after;
          there = s.left;
          b = b;
          has = here b i;
          ask = h.ask;
          known = h.known;
          f = h.f;
          p = h.p;
          place = h.place;
          own = h.own;
          ds = h.ds;
          alone = h.alone;
          many = h.many;
          each = λ d j. kept done os a b (here b i) d.ino d.page (h.each d j);
        }

    step_lines : FullLines past x'
    unfolding after_lines
    step_lines =
        subst (AllLines (IsFullIn past x') []) (sym r.says)
        (all_lines asked c state F (IsFullIn past x') full_in
        (cl.client_step state r.now r.input).out [] r.before start said
        (subst (AllLines (IsFullIn past x') []) (sym r.unseen) tt))
      where
        start : Alike asked c state F (IsFullIn past x') [] r.before.seen
        start = subst (Alike asked c state F (IsFullIn past x') []) (sym r.unseen)
            (record { flags = λ v ino p. refl; changes = λ v ino p q. cc q })

  event_lines : world_step t.world e ≡ Ok sc → FullLines past x'
  event_lines happened = by (event_clients t.world e sc happened).who
    where
      by : ((r : Stepping t.world e sc) × SiteStep t.world sc r.client) ⊎
          (Words.list_all is_mute sc.seen ≡ true) → FullLines past x'
      by (inl (r, s)) = step_lines r s
      by (inr q) = mute_lines (IsFullIn past x') [] sc.seen q

-- In every run.
record LinesHold (past : List Step) (t : Traced) (it : Witness) : Type 0 where
  stand : Stand past t
  places : PlacesHold t.world
  once : AllOnce t.world

abbrev Known : Promise
Known past x = PlacesHold x.after.world × PagesAreOnce past x

LinesToo : List Step → Step → Witness → Type 0
LinesToo past x it = FullLines past x

lines_hold : IsGiven Known LinesHold LinesToo
unfolding LinesToo
lines_hold past t e sc it f g h = (
  event_lines past t e sc h.stand h.once f,
  record { stand = (one_step past t e sc f h.places h.stand).stand; places = g.0; once = g.1 },
)

pub full_lines : InEveryRun FullLines
unfolding LinesToo
full_lines k clients servers disks blocks form es head events =
    let t : Traced = traced (fresh_world k clients servers disks blocks form) in
    given_in Known LinesHold LinesToo lines_hold es t
    (record {
      stand = fresh_stand k clients servers disks blocks form;
      places = fresh_places k clients servers disks blocks form;
      once = once_begins k clients servers disks blocks form;
    })
    (throughout_both (λ past x. PlacesHold x.after.world) PagesAreOnce [] (steps es t)
    (places_law k clients servers disks blocks form es head)
    (pages_are_once k clients servers disks blocks form es head events))
