-- In every run the volume takes the line of each write and patch: what took effect just before it is what the line tells.
use Rattle.std.proofs.Common.{◌≡◌, ℕ, ◌+◌, Bool, true, false, not, ◌&&◌, ◌==◌, List, [], ◌∷◌, ◌++◌, length, Option, Some, None, refl, sym, ap, ◌∙◌, subst, append_assoc, if◌then◌else◌}
use Rattle.std.specs.Prelude.{bytes_eq, find, is_some, option_and_then}
use Rattle.std.specs.List.{list_all}
use Rattle.std.proofs.lemmas.Bool.{eq-eqb, eqb-true}
use Rattle.std.proofs.lemmas.Slice.Eq.{bytes_eq-Decides}
use Rattle.st_base.specs.declared.config.Config.{Config}
use Rattle.st_base.specs.declared.ids.ClientId.{ClientId}
use Rattle.st_base.specs.declared.ids.FileId.{FileId}
use Rattle.st_base.specs.declared.ids.PageNo.{PageNo}
use Rattle.st_messages.specs.declared.answer.AppAnswer.{AppAnswer}
use Rattle.st_messages.specs.declared.answer.AppAnswer.TheVariants as answers
use Rattle.st_messages.specs.declared.ask.Ask.{Ask}
use Rattle.st_messages.specs.declared.ask.Ask.TheVariants as asks
use Rattle.st_rules.specs.declared.log.LogEntry.{LogEntry}
use Rattle.st_rules.specs.declared.observation.Observation.{Observation}
use Rattle.st_rules.specs.declared.observation.Observation.TheVariants as seen
use Rattle.st_rules.specs.History.{Traced, traced}
use Rattle.st_rules.specs.Lines as lines
use Rattle.st_rules.specs.Safety.{AnswersAreLogged, AreLogged, AsksAreAnsweredOnce, IsLogged, IsLoggedWrite, Promise, Step, TheReportTellsTheLog, all_answered_once, all_followed, ask_of, begins_written, is_followed, step, steps}
use Rattle.st_rules.specs.World as world
use Rattle.st_rules.specs.World.{World, fresh_world}
use Rattle.st_lemmas.proofs.Lookups.{if_true, some_is}
use Rattle.st_lemmas.proofs.Numbers.{get_last}
use Rattle.st_lemmas.proofs.Tables.{and_both, and_true, found_at}
use Rattle.st_lemmas.proofs.Truth.{client_is}
use Rattle.st_promises.specs.Safe.{EveryRunIsSafe, IsSafeRun}
use Rattle.st_laws_pages.proofs.Asks.World.{asks_more, asks_of}
use Rattle.st_laws_volume.specs.StepKinds.{AreTaken, StepsAreTaken, is_change_line}
use Rattle.st_laws_volume.specs.Logs.{InEveryRun, IsLogOf}
use Rattle.st_laws_volume.specs.Options.{OnSome}
use Rattle.st_laws_volume.specs.Seen.{cause_of, of_event, of_line}
use Rattle.st_laws_volume.specs.Witness.{Witness, before_line, begun, next_op, of_delivery, of_lines, steps_of}
use Rattle.st_laws_volume.proofs.AskedAsks.{AreOf, Asked, IsOf, RightHold, all_both, all_has, asked_after, event_right, moved, right_begins, right_kept, run_right}
use Rattle.st_laws_volume.proofs.AsksTaken.{all_other, is_other}
use Rattle.st_laws_volume.proofs.Carried.{IsGiven, given_in}
use Rattle.st_laws_volume.proofs.LogLines.{delivery_quiet, event_quiet, line_told, numbered_next, run_then}
use Rattle.st_laws_volume.proofs.LogSteps.{IsTold, is_quiet, quiet_run}
use Rattle.st_laws_volume.proofs.Logs.{LogHolds, log_begins, log_kept, told_of}
use Rattle.st_laws_volume.proofs.Options.{on_all, on_else, on_if, on_map, on_more, on_then, on_true}
use Rattle.st_laws_volume.proofs.ReadPages.{throughout_both}
use Rattle.st_laws_volume.proofs.ReadRanges.{Written, written_is}
use Rattle.st_laws_volume.proofs.StepKinds.{delivery_inside}
use Rattle.st_volume.specs.declared.step.VolumeStep.{VolumeStep}
use Rattle.st_volume.specs.declared.step.VolumeStep.TheVariants as kinds
use Rattle.st_volume.specs.declared.step.Fate.TheVariants as fates
use Rattle.st_volume.specs.Pages.{Entry, is_any, is_by, place_of, same_file, same_place}
use Rattle.st_volume.specs.Volume as volume
use Rattle.st_volume.specs.Volume.{Volume, Pending, acts, done, effect, entry, notice, run, same_change, takes, with_entry}

-- Steps that are taken, in two parts.
pub on_both : {A : Type 0} (P Q : A → Type 0) (o : Option A) → OnSome P o → OnSome Q o → OnSome (λ x. P x × Q x) o
on_both P Q None p q = tt
on_both P Q (Some x) p q = (p, q)

pub taken_both : (which : VolumeStep → Bool) (xs ys : List VolumeStep) (v : Volume) → AreTaken which xs v → OnSome (AreTaken which ys) (run xs v) →
    AreTaken which (xs ++ ys) v
unfolding AreTaken run
taken_both which [] ys v a b = b
taken_both which (x ∷ xs) ys v a b = (a.0, go (volume.step v x) a.1 b (λ u. taken_both which xs ys u))
  where
    go : (o : Option Volume) → OnSome (AreTaken which xs) o → OnSome (AreTaken which ys) (option_and_then (run xs) o) →
        ((u : Volume) → AreTaken which xs u → OnSome (AreTaken which ys) (run xs u) → AreTaken which (xs ++ ys) u) → OnSome (AreTaken which (xs ++ ys)) o
    go None p q h = tt
    go (Some u) p q h = h u p q

-- steps that aren't lines of the log are none of these
quiet_taken : (its : List VolumeStep) (v : Volume) → list_all is_quiet its ≡ true → AreTaken is_change_line its v
unfolding AreTaken
quiet_taken [] v q = tt
quiet_taken (it ∷ its) v q =
    let b = and_true (is_quiet it) (list_all is_quiet its) q in
    (λ p. absurd (no it b.0 p), on_all (AreTaken is_change_line its) (λ u. quiet_taken its u b.1) (volume.step v it))
  where
    no : (it : VolumeStep) → is_quiet it ≡ true → is_change_line it ≡ true → ⊥
    no (kinds.Joined i c what) q p = cc
    no (kinds.Asked c ask) q p = cc
    no (kinds.TakesEffect c op) q p = cc
    no (kinds.Answered c op answer) q p = cc
    no (kinds.Hardened i) q p = cc
    no (kinds.Dropped i cause) q p = cc
    no (kinds.Crashed c) q p = cc
    no (kinds.Restarted s) q p = cc
    no (kinds.WriteFailed c number i) q p = cc
    no (kinds.ReadFailed c s number) q p = cc

one_taken : (it : VolumeStep) (v : Volume) → (is_change_line it ≡ true → is_some (volume.step v it) ≡ true) → AreTaken is_change_line (it ∷ []) v
unfolding AreTaken
one_taken it v h = (h, on_all (AreTaken is_change_line []) (λ u. tt) (volume.step v it))

two_taken : (x y : VolumeStep) (v : Volume) → is_change_line x ≡ false → OnSome (λ u. is_some (volume.step u y) ≡ true) (volume.step v x) →
    AreTaken is_change_line (x ∷ y ∷ []) v
unfolding AreTaken
two_taken x y v n h = (
  λ p. absurd (clash p n),
  on_more (λ u. is_some (volume.step u y) ≡ true) (AreTaken is_change_line (y ∷ [])) (λ u k. one_taken y u (λ p. k))
      (volume.step v x) h,
)
  where
    clash : {b : Bool} → b ≡ true → b ≡ false → ⊥
    clash p q = cc

-- A write or a patch is what a line tells of it.
file_self : (f : FileId) → same_file f f ≡ true
file_self f = and_both (f.server.0 == f.server.0) (f.ino == f.ino) (eq-eqb f.server.0 f.server.0 refl) (eq-eqb f.ino f.ino refl)

place_self : (f : FileId) (p : PageNo) → same_place (f, p) (f, p) ≡ true
place_self f p = and_both (same_file f f) (p.0 == p.0) (file_self f) (eq-eqb p.0 p.0 refl)

bytes_self : (bs : List ℕ) → bytes_eq bs bs ≡ true
bytes_self bs = (bytes_eq-Decides bs bs).1 refl

not_not : (b : Bool) → b ≡ true → not (not b) ≡ true
not_not true q = refl
not_not false q = cc

abbrev tested : Option ClientId → Ask → Entry → Bool
tested c what e = same_change e.what what && not (is_any (λ d. not (is_by d e)) c)

-- if its entry has just joined the log, its line is taken
abbrev IsNext : Volume → Entry → Volume → Type 0
IsNext v e z = (z.lines ≡ v.lines) × (z.log ≡ v.log ++ e ∷ [])

line_next : (es : List LogEntry) (v : Volume) (e : Entry) (z : Volume) (i : ℕ) (c : ClientId) (what : Ask) → IsTold es v → v.lines ≡ length v.log →
    IsNext v e z → i ≡ length es + 1 →
    e.what ≡ what → same_change what what ≡ true → (c.0 == e.client.0) ≡ true → is_some (volume.step z (kinds.Joined i (Some c) what)) ≡ true
line_next es v e z i c what h m n q w s k =
    ap is_some
    (if_true ((i == z.lines + 1) && is_any (tested (Some c) what) (volume.numbered z.log i)) (Some (record z { lines = i })) None
    (and_both (i == z.lines + 1) (is_any (tested (Some c) what) (volume.numbered z.log i))
    (eq-eqb i (z.lines + 1) (q ∙ ap (λ (j : ℕ). j + 1) (sym h.lines ∙ sym n.0)))
    (ap (is_any (tested (Some c) what))
    (ap (λ es. volume.numbered es i) n.1
    ∙ (numbered_next (v.log ++ e ∷ []) (length v.log) i (q ∙ ap (λ (j : ℕ). j + 1) (sym h.lines ∙ m))
    ∙ get_last v.log e))
    ∙ and_both (same_change e.what what) (not (not (is_by c e))) (ap (λ x. same_change x what) w ∙ s) (not_not (is_by c e) k))))

-- An ask that takes effect as a write or a patch.
module _ (es : List LogEntry) (as_ : Asked) (v : Volume) (h : IsTold es v) (r : AreOf as_ v) (c : ClientId) (op i : ℕ) (what : Ask)
    (asked : world.numbered (as_ c) op ≡ Some what)
    (next : i ≡ length es + 1) (self : same_change what what ≡ true) (kind : is_some (place_of what) ≡ true) where
  none : false ≡ true → ⊥
  none q = cc

  abbrev P : Volume → Type 0
  P z = is_some (volume.step z (kinds.Joined i (Some c) what)) ≡ true

  abbrev Q : Pending → Volume × AppAnswer → Type 0
  Q a y = P (notice (done a y))

  -- its effect is its entry
  effect_next : (a : Pending) → v.lines ≡ length v.log → (a.client.0 == c.0) ≡ true → (f : FileId) (ask : Ask) → ask ≡ what →
      OnSome (λ u. Q a (u, answers.Written)) (with_entry v f (entry a.client ask fates.Open))
  effect_next a m k f ask w =
      on_if (λ u. Q a (u, answers.Written)) _ (Some (record v { log = v.log ++ entry a.client ask fates.Open ∷ [] }))
      (line_next es v (entry a.client ask fates.Open) (notice (done a (record v { log = v.log ++ entry a.client ask fates.Open ∷ [] }, answers.Written))) i c
      what h m (refl, refl) next w self
      (eq-eqb c.0 a.client.0 (sym (eqb-true a.client.0 c.0 k))))

  effect_is : (a : Pending) → v.lines ≡ length v.log → (a.client.0 == c.0) ≡ true → (ask : Ask) → ask ≡ what → OnSome (Q a) (effect v a.client ask)
  effect_is a m k (asks.Write f p bytes) w = on_map (Q a) (λ u. (u, answers.Written)) _ (effect_next a m k f (asks.Write f p bytes) w)
  effect_is a m k (asks.Patch f p at bytes) w = on_map (Q a) (λ u. (u, answers.Written)) _ (effect_next a m k f (asks.Patch f p at bytes) w)
  effect_is a m k (asks.Read f p) w = tt
  effect_is a m k (asks.Sync f) w = tt
  effect_is a m k (asks.Cut f p) w = absurd (none (subst (λ x. is_some (place_of x) ≡ true) (sym w) kind))
  effect_is a m k (asks.Name s ask) w = absurd (none (subst (λ x. is_some (place_of x) ≡ true) (sym w) kind))

  -- the ask that is found is the one that was asked
  found_next : (o : Option Pending) → find (volume.is_ask c op) (v.pending ++ v.orphans) ≡ o → v.lines ≡ length v.log →
      OnSome (λ a. OnSome (λ u. P (notice u)) (takes v a)) o
  found_next None q m = tt
  found_next (Some a) q m =
      let b = found_at (volume.is_ask c op) (v.pending ++ v.orphans) a q in
      let k = and_true (volume.is_of_client c a) (a.op == op) b.0 in
      let own : IsOf as_ a = all_has as_ (v.pending ++ v.orphans) a (all_both as_ v.pending v.orphans r.pending r.orphans) b.1 in
      let w : a.ask ≡ what = some_is
      (sym own ∙ (ap (λ d. world.numbered (as_ d) a.op) (client_is a.client c k.0) ∙ (ap (λ n. world.numbered (as_ c) n) (eqb-true a.op op k.1) ∙ asked))) in
      on_else (λ u. P (notice u)) _ _ (on_map (λ u. P (notice u)) (done a) (effect v a.client a.ask) (effect_is a m k.0 a.ask w))

  pub effect_then : OnSome P (volume.step v (kinds.TakesEffect c op))
  effect_then =
      on_true P (v.lines == length v.log) (acts v (kinds.TakesEffect c op))
      (λ m. on_map P notice (option_and_then (takes v) (find (volume.is_ask c op) (v.pending ++ v.orphans)))
      (on_then (λ u. P (notice u)) (takes v) (find (volume.is_ask c op) (v.pending ++ v.orphans))
      (found_next (find (volume.is_ask c op) (v.pending ++ v.orphans)) refl (eqb-true v.lines (length v.log) m))))

-- What a line tells was asked.
abbrev told_ask : Observation → Option Ask
told_ask (seen.Wrote i c f p bytes) = Some (asks.Write f p bytes)
told_ask (seen.Patched i c f p at bytes) = Some (asks.Patch f p at bytes)
told_ask o = None

pub wrote_is : (d : ClientId) (asked : Option Ask) (i : ℕ) (c : ClientId) (f : FileId) (p : PageNo) (bytes : List ℕ) →
    IsLoggedWrite d asked (seen.Wrote i c f p bytes) →
    asked ≡ Some (asks.Write f p bytes)
wrote_is d (Some (asks.Write g q old)) i c f p bytes l = sym (ap told_ask l)
wrote_is d (Some (asks.Patch g q at old)) i c f p bytes l = absurd l
wrote_is d (Some (asks.Read g q)) i c f p bytes l = absurd l
wrote_is d (Some (asks.Sync g)) i c f p bytes l = absurd l
wrote_is d (Some (asks.Cut g q)) i c f p bytes l = absurd l
wrote_is d (Some (asks.Name s ask)) i c f p bytes l = absurd l
wrote_is d None i c f p bytes l = absurd l

pub patched_is : (d : ClientId) (asked : Option Ask) (i : ℕ) (c : ClientId) (f : FileId) (p : PageNo) (at : ℕ) (bytes : List ℕ) →
    IsLoggedWrite d asked (seen.Patched i c f p at bytes) → asked ≡ Some (asks.Patch f p at bytes)
patched_is d (Some (asks.Patch g q from old)) i c f p at bytes l = sym (ap told_ask l)
patched_is d (Some (asks.Write g q old)) i c f p at bytes l = absurd l
patched_is d (Some (asks.Read g q)) i c f p at bytes l = absurd l
patched_is d (Some (asks.Sync g)) i c f p at bytes l = absurd l
patched_is d (Some (asks.Cut g q)) i c f p at bytes l = absurd l
patched_is d (Some (asks.Name s ask)) i c f p at bytes l = absurd l
patched_is d None i c f p at bytes l = absurd l

-- The steps of a line aren't asks.
pub block_other : (w : World) (o : Observation) (os : List Observation) → list_all is_other (before_line o os ++ of_line w o) ≡ true
unfolding before_line of_line
block_other w (seen.Wrote i c g p bytes) os = refl
block_other w (seen.Patched i c g p at bytes) os = refl
block_other w (seen.CutAt i g p) os = refl
block_other w (seen.Hardened i) os = refl
block_other w (seen.Dropped i cause) os = refl
block_other w (seen.Answered c op answer) os = refl
block_other w (seen.Sent k m) os = refl
block_other w (seen.Submitted k c number what) os = refl
block_other w (seen.Leased c s end) os = refl
block_other w (seen.Lost c s life) os = refl
block_other w (seen.Suspected s c start) os = refl
block_other w (seen.Stolen s c life) os = refl

module _ (past : List Step) (x : Step) where
  abbrev as_ : Asked
  as_ = asks_of (past ++ x ∷ [])

  pub followed_asked : (o : Observation) (c : ClientId) (what : Ask) → ((d : ClientId) (asked : Option Ask) → IsLoggedWrite d asked o → asked ≡ Some what) →
      (os : List Observation) →
      begins_written c os ≡ true → AreLogged past x (Some o) os → world.numbered (as_ c) (next_op os) ≡ Some what
  unfolding AreLogged
  followed_asked o c what is [] b l = cc
  followed_asked o c what is (a ∷ os) b l = go (written_is c a b)
    where
      go : Written a → world.numbered (as_ c) (next_op (a ∷ os)) ≡ Some what
      go (d, op, e) =
          let same : d ≡ c = client_is d c (subst (λ y. begins_written c (y ∷ os) ≡ true) e b) in
          ap (λ n. world.numbered (as_ c) n) (ap (λ y. next_op (y ∷ os)) e)
          ∙ (ap (λ y. world.numbered (as_ y) op) (sym same) ∙ is d (ask_of past x d op) (subst (IsLogged past x (Some o)) e l.0))

  -- One line, with the step before it.
  module _ (w f : World) where
    block_taken : (es : List LogEntry) (o : Observation) (os : List Observation) (u : Volume) → lines.tells_log es o ≡ true → AreLogged past x (Some o) os →
        is_followed o os ≡ true →
        IsTold es u → AreOf as_ u → AreTaken is_change_line (before_line o os ++ of_line w o) u
    unfolding before_line of_line AreTaken
    block_taken es (seen.Wrote i c g p bytes) os u n l b h r =
        two_taken (kinds.TakesEffect c (next_op os)) (kinds.Joined i (Some c) (asks.Write g p bytes)) u refl
        (effect_then es as_ u h r c (next_op os) i (asks.Write g p bytes)
        (followed_asked (seen.Wrote i c g p bytes) c (asks.Write g p bytes) (λ d asked z. wrote_is d asked i c g p bytes z) os b l)
        (eqb-true i (length es + 1) n)
        (and_both (same_place (g, p) (g, p)) (bytes_eq bytes bytes) (place_self g p) (bytes_self bytes)) refl)
    block_taken es (seen.Patched i c g p at bytes) os u n l b h r =
        two_taken (kinds.TakesEffect c (next_op os)) (kinds.Joined i (Some c) (asks.Patch g p at bytes)) u refl
        (effect_then es as_ u h r c (next_op os) i (asks.Patch g p at bytes)
        (followed_asked (seen.Patched i c g p at bytes) c (asks.Patch g p at bytes) (λ d asked z. patched_is d asked i c g p at bytes z) os b l)
        (eqb-true i (length es + 1) n)
        (and_both (same_place (g, p) (g, p)) ((at == at) && bytes_eq bytes bytes) (place_self g p)
        (and_both (at == at) (bytes_eq bytes bytes) (eq-eqb at at refl) (bytes_self bytes))) refl)
    block_taken es (seen.CutAt i g p) os u n l b h r = one_taken (kinds.Joined i None (asks.Cut g p)) u (λ q. cc q)
    block_taken es (seen.Hardened i) os u n l b h r = one_taken (kinds.Hardened i) u (λ q. cc q)
    block_taken es (seen.Dropped i cause) os u n l b h r = one_taken (kinds.Dropped i (cause_of w cause)) u (λ q. cc q)
    block_taken es (seen.Answered c op answer) os u n l b h r = one_taken (kinds.Answered c op answer) u (λ q. cc q)
    block_taken es (seen.Sent k m) os u n l b h r = tt
    block_taken es (seen.Submitted k c number what) os u n l b h r = tt
    block_taken es (seen.Leased c s end) os u n l b h r = tt
    block_taken es (seen.Lost c s life) os u n l b h r = tt
    block_taken es (seen.Suspected s c start) os u n l b h r = tt
    block_taken es (seen.Stolen s c life) os u n l b h r = tt

    abbrev Told : List LogEntry → Volume → Type 0
    Told es u = IsTold es u × AreOf as_ u

    lines_taken : (es : List LogEntry) (line : Option Observation) (os : List Observation) (u : Volume) → lines.all_tell_log f es os ≡ true →
        AreLogged past x line os →
        all_followed os ≡ true → Told es u → AreTaken is_change_line (of_lines w os) u
    unfolding of_lines AreTaken lines.all_tell_log AreLogged all_followed
    lines_taken es line [] u n l b k = tt
    lines_taken es line (o ∷ os) u n l b k =
        let t = and_true (lines.tells_log es o) (lines.all_tell_log f (lines.log_behind f es o) os) n in
        let g = and_true (is_followed o os) (all_followed os) b in
        let block : List VolumeStep = before_line o os ++ of_line w o in
        subst (λ its. AreTaken is_change_line its u) (append_assoc (before_line o os) (of_line w o) (of_lines w os))
        (taken_both is_change_line block (of_lines w os) u (block_taken es o os u t.0 l.1 g.0 k.0 k.1)
        (on_more (Told (lines.log_behind f es o)) (AreTaken is_change_line (of_lines w os))
        (λ z j. lines_taken (lines.log_behind f es o) (Some o) os z t.1 l.1 g.1 j) (run block u)
        (on_both (IsTold (lines.log_behind f es o)) (AreOf as_) (run block u)
        (run_then (IsTold (lines.log_behind f es o)) (before_line o os) (of_line w o) u (line_told w f es o os u k.0))
        (run_right as_ block u (block_other w o os) k.1))))

  -- All steps of the event.
  event_lines : (it : Witness) (v : Volume) → TheReportTellsTheLog past x → all_followed x.seen ≡ true → AnswersAreLogged past x →
      IsLogOf x.before.world.log v → AreOf (asks_of past) v →
      AreTaken is_change_line (steps_of it v x) v
  event_lines it v told b l a r =
      let w : World = x.before.world in
      let f : World = x.after.world in
      let first : List VolumeStep = of_event w x.event in
      let served : List VolumeStep = of_delivery it.behind v w x.event in
      let all : List VolumeStep = of_lines w x.seen in
      taken_both is_change_line first (served ++ all) v (quiet_taken first v (event_quiet w x.event))
      (on_more (Told w f w.log) (AreTaken is_change_line (served ++ all))
      (λ y k. taken_both is_change_line served all y (quiet_taken served y (delivery_quiet it.behind v w x.event))
      (on_more (Told w f w.log) (AreTaken is_change_line all) (λ z j. lines_taken w f w.log None x.seen z told.numbers l b j) (run served y)
      (on_both (IsTold w.log) (AreOf as_) (run served y) (quiet_run w.log served y (delivery_quiet it.behind v w x.event) k.0)
      (run_right as_ served y (all_other served (delivery_inside it.behind v w x.event)) k.1))))
      (run first v)
      (on_both (IsTold w.log) (AreOf as_) (run first v) (quiet_run w.log first v (event_quiet w x.event) (told_of w.log v a))
      (on_more (AreOf (asked_after (asks_of past) x.event)) (AreOf as_) (λ y k. moved (asked_after (asks_of past) x.event) as_ (λ c. asks_more past x c) y k)
      (run first v)
      (event_right (asks_of past) w x.event v r))))

-- In every run.
pub LinesToo : List Step → Step → Witness → Type 0
LinesToo past x it = OnSome (λ v. AreTaken is_change_line (steps_of it v x) v) it.volume

pub lines_open : (past : List Step) (x : Step) (it : Witness) → LinesToo past x it → OnSome (λ v. AreTaken is_change_line (steps_of it v x) v) it.volume
unfolding LinesToo
lines_open past x it h = h

pub record LinesHold (past : List Step) (t : Traced) (it : Witness) : Type 0 where
  pub log : LogHolds past t it
  pub asks : RightHold past t it

abbrev pub Known : Promise
Known past x = TheReportTellsTheLog past x × (AsksAreAnsweredOnce past x × AnswersAreLogged past x)

pub lines_on : IsGiven Known LinesHold LinesToo
unfolding LinesToo
lines_on past t e sc it f g h =
    let x : Step = step t e sc in (
      on_more (λ v. IsLogOf t.world.log v × AreOf (asks_of past) v) (λ v. AreTaken is_change_line (steps_of it v x) v)
          (λ v k. event_lines past x it v g.0 (and_true (all_answered_once past x [] x.seen) (all_followed x.seen) g.1.0).1 g.1.1 k.0 k.1) it.volume
          (on_both (IsLogOf t.world.log) (AreOf (asks_of past)) it.volume h.log h.asks),
      record { log = log_kept past t e sc it f g.0 h.log; asks = right_kept past t e sc it f tt h.asks },
    )

pub lines_begin : (k : Config) (clients servers disks blocks form : ℕ) →
    LinesHold [] (traced (fresh_world k clients servers disks blocks form))
    (begun (fresh_world k clients servers disks blocks form) (fresh_world k clients servers disks blocks form))
lines_begin k clients servers disks blocks form = record
    { log = log_begins k clients servers disks blocks form; asks = right_begins k clients servers disks blocks form }

pub change_lines_are_taken : EveryRunIsSafe → InEveryRun (StepsAreTaken is_change_line)
unfolding LinesToo
change_lines_are_taken safe k clients servers disks blocks form es head events =
    let t : Traced = traced (fresh_world k clients servers disks blocks form) in
    let kept : IsSafeRun (fresh_world k clients servers disks blocks form) es = safe k clients servers disks blocks form es head events in
    given_in Known LinesHold LinesToo lines_on es t
    (lines_begin k clients servers disks blocks form)
    (throughout_both TheReportTellsTheLog (λ past x. AsksAreAnsweredOnce past x × AnswersAreLogged past x) [] (steps es t) kept.told
    (throughout_both AsksAreAnsweredOnce AnswersAreLogged [] (steps es t) kept.once kept.logged))
