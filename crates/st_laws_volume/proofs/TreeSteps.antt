-- What the steps of the volume do to its trees.
use Rattle.std.proofs.Common.{◌≡◌, ◌⊎◌, ℕ, zero, suc, ◌+◌, ◌≤◌, arith, Bool, true, false, not, ◌&&◌, ◌||◌, ◌==◌, List, [], ◌∷◌, ◌++◌, length, map, Option, Some, None, refl, sym, ap, ◌∙◌, subst, inl, inr, if◌then◌else◌}
use Rattle.std.specs.Prelude.{find, option_map, option_and_then, pred, set, slice_get}
use Rattle.std.specs.List.{list_all}
use Rattle.std.proofs.lemmas.Bool.{eqb-true, ne_eqb}
use Rattle.st_base.specs.declared.ids.ClientId.{ClientId}
use Rattle.st_base.specs.declared.ids.FileId.{FileId}
use Rattle.st_base.specs.declared.ids.PageNo.{PageNo}
use Rattle.st_base.specs.declared.ids.ServerId.{ServerId}
use Rattle.st_base.specs.declared.names.NameAsk.{NameAsk}
use Rattle.st_messages.specs.declared.answer.AppAnswer.{AppAnswer}
use Rattle.st_messages.specs.declared.answer.AppAnswer.TheVariants as answers
use Rattle.st_messages.specs.declared.ask.Ask.{Ask}
use Rattle.st_messages.specs.declared.ask.Ask.TheVariants as asks
use Rattle.st_rules.specs.declared.observation.Observation.{Observation}
use Rattle.st_rules.specs.declared.observation.Observation.TheVariants as seen
use Rattle.st_rules.specs.World.{World}
use Rattle.st_lemmas.proofs.Numbers.{get_last}
use Rattle.st_lemmas.proofs.Tables.{and_right, and_true, find_next}
use Rattle.st_laws_volume.specs.Options.{OnSome}
use Rattle.st_laws_volume.specs.Seen.{cause_of, of_line}
use Rattle.st_laws_volume.specs.Witness.{above_all, before_line, next_op, of_lines}
use Rattle.st_laws_volume.proofs.LogEntries.{change_is}
use Rattle.st_laws_volume.proofs.LogLines.{numbered_next, run_then}
use Rattle.st_laws_volume.proofs.Options.{on_all, on_else, on_if, on_map, on_more, on_then, on_true}
use Rattle.st_volume.specs.declared.step.Fate.{Fate}
use Rattle.st_volume.specs.declared.step.Fate.TheVariants as fates
use Rattle.st_volume.specs.declared.step.VolumeStep.{VolumeStep}
use Rattle.st_volume.specs.declared.step.VolumeStep.TheVariants as steps
use Rattle.st_volume.specs.Pages.{Entry, is_any, is_by, is_cause, is_open}
use Rattle.st_volume.specs.Trees.{Made, Tree, does}
use Rattle.st_volume.specs.Volume as volume
use Rattle.st_volume.specs.Volume.{Volume, Pending, acts, after_answer, answered, arrived, closed, cuts, cuts_removed, done, effect, ends, entry, failed, is_ask, made, notice, numbered, run, same_change, step, takes, with_changed, with_entry, with_fate, with_tree}

abbrev pub SameTrees : Volume → Volume → Type 0
SameTrees v u = u.trees ≡ v.trees

-- Steps other than effects.
abbrev pub is_no_effect : VolumeStep → Bool
is_no_effect (steps.TakesEffect c op) = false
is_no_effect it = true

after_same : (v : Volume) (a : Pending) (answer : AppAnswer) → SameTrees v (after_answer v a answer)
after_same v a answers.Hard = refl
after_same v a (answers.Lost rows) = refl
after_same v a (answers.Read bytes) = refl
after_same v a (answers.Uncertain old zero) = refl
after_same v a (answers.Uncertain old (suc new)) = refl
after_same v a answers.Written = refl
after_same v a answers.Cut = refl
after_same v a answers.Quiesced = refl
after_same v a answers.NoFile = refl
after_same v a (answers.NoSpace n m) = refl
after_same v a (answers.DiskFault n) = refl
after_same v a answers.OpsFull = refl
after_same v a answers.DirtyFull = refl
after_same v a answers.NotHolder = refl
after_same v a answers.TooManyLocks = refl
after_same v a (answers.Named ino) = refl
after_same v a (answers.Listed rows) = refl
after_same v a (answers.Refused code) = refl

fate_same : (v : Volume) (i : ℕ) (test : Entry → Bool) (fate : Fate) → OnSome (SameTrees v) (with_fate v i test fate)
fate_same v i test fate =
    on_map (SameTrees v) (with_changed v i) (option_and_then (ends test fate) (numbered v.log i))
    (on_all (λ e. SameTrees v (with_changed v i e)) (λ e. refl) (option_and_then (ends test fate) (numbered v.log i)))

acts_same : (v : Volume) (it : VolumeStep) → is_no_effect it ≡ true → OnSome (SameTrees v) (acts v it)
acts_same v (steps.Asked c ask) q = on_if (SameTrees v) _ (Some (notice (arrived v c ask))) refl
acts_same v (steps.TakesEffect c op) q = cc
acts_same v (steps.Answered c op answer) q =
    on_then (SameTrees v) (answered v answer) (find (is_ask c op) v.pending)
    (on_all (λ a. OnSome (SameTrees v) (answered v answer a)) (λ a. on_if (SameTrees v) _ (Some (closed a (after_answer v a answer))) (after_same v a answer))
    (find (is_ask c op) v.pending))
acts_same v (steps.Hardened i) q = fate_same v i (λ e. true) fates.Hard
acts_same v (steps.Dropped i cause) q = fate_same v i (is_cause cause) fates.Dropped
acts_same v (steps.Crashed c) q = refl
acts_same v (steps.Restarted s) q = refl
acts_same v (steps.WriteFailed c number i) q =
    on_map (SameTrees v) (failed v c number i) _ (on_all (λ x. SameTrees v (failed v c number i x)) (λ x. refl) _)
acts_same v (steps.ReadFailed c s number) q = refl
acts_same v (steps.Joined i c what) q = tt

step_same : (v : Volume) (it : VolumeStep) → is_no_effect it ≡ true → OnSome (SameTrees v) (step v it)
step_same v (steps.Joined i c what) q = on_if (SameTrees v) _ (Some (record v { lines = i })) refl
step_same v (steps.TakesEffect c op) q = cc
step_same v (steps.Asked c ask) q = on_if (SameTrees v) (v.lines == length v.log) (acts v (steps.Asked c ask)) (acts_same v (steps.Asked c ask) refl)
step_same v (steps.Answered c op answer) q =
    on_if (SameTrees v) (v.lines == length v.log) (acts v (steps.Answered c op answer)) (acts_same v (steps.Answered c op answer) refl)
step_same v (steps.Hardened i) q = on_if (SameTrees v) (v.lines == length v.log) (acts v (steps.Hardened i)) (acts_same v (steps.Hardened i) refl)
step_same v (steps.Dropped i cause) q = on_if (SameTrees v) (v.lines == length v.log) (acts v (steps.Dropped i cause))
    (acts_same v (steps.Dropped i cause) refl)
step_same v (steps.Crashed c) q = on_if (SameTrees v) (v.lines == length v.log) (acts v (steps.Crashed c)) (acts_same v (steps.Crashed c) refl)
step_same v (steps.Restarted s) q = on_if (SameTrees v) (v.lines == length v.log) (acts v (steps.Restarted s)) (acts_same v (steps.Restarted s) refl)
step_same v (steps.WriteFailed c number i) q =
    on_if (SameTrees v) (v.lines == length v.log) (acts v (steps.WriteFailed c number i)) (acts_same v (steps.WriteFailed c number i) refl)
step_same v (steps.ReadFailed c s number) q =
    on_if (SameTrees v) (v.lines == length v.log) (acts v (steps.ReadFailed c s number)) (acts_same v (steps.ReadFailed c s number) refl)

pub one_same : (v : Volume) (it : VolumeStep) → is_no_effect it ≡ true → OnSome (SameTrees v) (run (it ∷ []) v)
unfolding run
one_same v it q = on_then (SameTrees v) (run []) (step v it) (step_same v it q)

-- What an effect does: an ask for a name does what trees do; a write, a patch or a cut leaves them.
pub record NamedBy (v : Volume) (s : ServerId) (ask : NameAsk) (u : Volume) : Type 0 where
  pub tree : Tree
  pub there : volume.tree_of v s ≡ Some tree
  pub made : Made
  pub did : does tree ask ≡ Some made
  pub trees : u.trees ≡ set v.trees (pred s.0) made.0

-- the next entry that had no line yet is a cut, or there is none
abbrev IsCut : Ask → Type 0
IsCut (asks.Cut f p) = Unit {0}
IsCut ask = ⊥

abbrev IsCutNext : Volume → Type 0
IsCutNext u = (e : Entry) → numbered u.log (u.lines + 1) ≡ Some e → IsCut e.what

abbrev pub EffectOf : Volume → Ask → Volume → Type 0
EffectOf v (asks.Write f p bytes) u = SameTrees v u
EffectOf v (asks.Patch f p at bytes) u = SameTrees v u
EffectOf v (asks.Cut f p) u = SameTrees v u × IsCutNext u
EffectOf v (asks.Name s ask) u = NamedBy v s ask u × IsCutNext u
EffectOf v ask u = ⊥

get_none : {A : Type 0} (xs : List A) → slice_get xs (length xs) ≡ None
get_none [] = refl
get_none (x ∷ xs) = get_none xs

none_next : (v : Volume) → v.lines ≡ length v.log → IsCutNext v
none_next v l e q =
    go (sym (numbered_next v.log v.lines (v.lines + 1) refl ∙ (ap (slice_get v.log) l ∙ get_none v.log)) ∙ q)
  where
    go : None ≡ Some e → IsCut e.what
    go q = cc

cut_next : (v w : Volume) (e : Entry) → v.lines ≡ length v.log → w.log ≡ v.log ++ e ∷ [] → w.lines ≡ v.lines → IsCut e.what → IsCutNext w
cut_next v w e l a b c f q =
    subst (λ (x : Entry). IsCut x.what)
    (is (sym (numbered_next w.log v.lines (w.lines + 1) (ap (λ n. n + 1) b) ∙ (ap (λ es. slice_get es v.lines) a
    ∙ (ap (slice_get (v.log ++ e ∷ [])) l ∙ get_last v.log e))) ∙ q)) c
  where
    is : Some e ≡ Some f → e ≡ f
    is q = cc

-- a cut, and what a removal cuts
record CutBy (v w : Volume) : Type 0 where
  trees : w.trees ≡ v.trees
  next : IsCutNext w

cut_same : (v : Volume) (c : ClientId) (f : FileId) (p : PageNo) → v.lines ≡ length v.log → OnSome (CutBy v) (cuts v c f p)
cut_same v c f p l =
    on_if (CutBy v) _ (Some (record v { claims = volume.freed v (asks.Cut f p); log = v.log ++ entry c (asks.Cut f p) fates.Hard ∷ [] }))
    (record {
      trees = refl;
      next =
          cut_next v (record v { claims = volume.freed v (asks.Cut f p); log = v.log ++ entry c (asks.Cut f p) fates.Hard ∷ [] })
          (entry c (asks.Cut f p) fates.Hard) l refl refl tt;
    })

removal_same : (v : Volume) (c : ClientId) (s : ServerId) (removed : Option ℕ) → v.lines ≡ length v.log → OnSome (CutBy v) (cuts_removed v c s removed)
removal_same v c s None l = record { trees = refl; next = none_next v l }
removal_same v c s (Some ino) l = cut_same v c (record { server = s; ino = ino }) (record { 0 = 0 }) l

abbrev EffectLeft : Volume → Ask → Volume × AppAnswer → Type 0
EffectLeft v ask r = EffectOf v ask r.0

effect_is : (v : Volume) (c : ClientId) (ask : Ask) → v.lines ≡ length v.log → OnSome (EffectLeft v ask) (effect v c ask)
effect_is v c (asks.Write f p bytes) l =
    on_map (EffectLeft v (asks.Write f p bytes)) (λ w. (w, answers.Written)) (with_entry v f (entry c (asks.Write f p bytes) fates.Open))
    (on_if (SameTrees v) _ (Some (record v { log = v.log ++ entry c (asks.Write f p bytes) fates.Open ∷ [] })) refl)
effect_is v c (asks.Patch f p at bytes) l =
    on_map (EffectLeft v (asks.Patch f p at bytes)) (λ w. (w, answers.Written)) (with_entry v f (entry c (asks.Patch f p at bytes) fates.Open))
    (on_if (SameTrees v) _ (Some (record v { log = v.log ++ entry c (asks.Patch f p at bytes) fates.Open ∷ [] })) refl)
effect_is v c (asks.Read f p) l = tt
effect_is v c (asks.Sync f) l = tt
effect_is v c (asks.Cut f p) l =
    on_map (EffectLeft v (asks.Cut f p)) (λ w. (w, answers.Cut)) (cuts v c f p)
    (on_more (CutBy v) (λ w. SameTrees v w × IsCutNext w) (λ w k. (k.trees, k.next)) (cuts v c f p) (cut_same v c f p l))
effect_is v c (asks.Name s ask) l = tree (volume.tree_of v s) refl
  where
    by : (t : Tree) → volume.tree_of v s ≡ Some t → (m : Made) → does t ask ≡ Some m → OnSome (EffectLeft v (asks.Name s ask)) (made v c s m)
    by t q (t2, (answer, removed)) d =
        on_map (EffectLeft v (asks.Name s ask)) (λ w. (w, answer)) (option_map (with_tree s t2) (cuts_removed v c s removed))
        (on_map (λ w. NamedBy v s ask w × IsCutNext w) (with_tree s t2) (cuts_removed v c s removed)
        (on_more (CutBy v) (λ w. NamedBy v s ask (with_tree s t2 w) × IsCutNext (with_tree s t2 w))
        (λ w k. (record { tree = t; there = q; made = (t2, (answer, removed)); did = d; trees = ap (λ ts. set ts (pred s.0) t2) k.trees }, k.next))
        (cuts_removed v c s removed) (removal_same v c s removed l)))

    asked : (t : Tree) → volume.tree_of v s ≡ Some t → (o : Option Made) → does t ask ≡ o →
        OnSome (EffectLeft v (asks.Name s ask)) (option_and_then (made v c s) o)
    asked t q None d = tt
    asked t q (Some m) d = by t q m d

    tree : (o : Option Tree) → volume.tree_of v s ≡ o →
        OnSome (EffectLeft v (asks.Name s ask)) (option_and_then (made v c s) (option_and_then (λ t. does t ask) o))
    tree None q = tt
    tree (Some t) q = asked t q (does t ask) refl

-- what is left once the ask has its result
left_so : (v : Volume) (a : Pending) (ask : Ask) (r : Volume × AppAnswer) → EffectOf v ask r.0 → EffectOf v ask (notice (done a r))
left_so v a (asks.Write f p bytes) r h = h
left_so v a (asks.Patch f p at bytes) r h = h
left_so v a (asks.Read f p) r h = absurd h
left_so v a (asks.Sync f) r h = absurd h
left_so v a (asks.Cut f p) r h = h
left_so v a (asks.Name s ask) r h =
    (record { tree = h.0.tree; there = h.0.there; made = h.0.made; did = h.0.did; trees = h.0.trees }, h.1)

takes_is : (v : Volume) (a : Pending) → v.lines ≡ length v.log → OnSome (λ u. EffectOf v a.ask (notice u)) (takes v a)
takes_is v a l =
    on_else (λ u. EffectOf v a.ask (notice u)) _ _
    (on_map (λ u. EffectOf v a.ask (notice u)) (done a) (effect v a.client a.ask)
    (on_more (EffectLeft v a.ask) (λ r. EffectOf v a.ask (notice (done a r))) (λ r k. left_so v a a.ask r k) (effect v a.client a.ask)
    (effect_is v a.client a.ask l)))

-- an ask takes effect
pub effect_taken : (P : Volume → Type 0) (v : Volume) (c : ClientId) (op : ℕ) →
    ((a : Pending) → find (is_ask c op) (v.pending ++ v.orphans) ≡ Some a → (u : Volume) → EffectOf v a.ask u → P u) →
    OnSome P (run (steps.TakesEffect c op ∷ []) v)
unfolding run
effect_taken P v c op h =
    on_then P (run []) (step v (steps.TakesEffect c op))
    (on_true P (v.lines == length v.log) (acts v (steps.TakesEffect c op))
    (λ m. on_map P notice (option_and_then (takes v) (find (is_ask c op) (v.pending ++ v.orphans)))
    (on_then (λ u. P (notice u)) (takes v) (find (is_ask c op) (v.pending ++ v.orphans))
    (go (eqb-true v.lines (length v.log) m) (find (is_ask c op) (v.pending ++ v.orphans)) h))))
  where
    go : v.lines ≡ length v.log → (o : Option Pending) → ((a : Pending) → o ≡ Some a → (u : Volume) → EffectOf v a.ask u → P u) →
        OnSome (λ a. OnSome (λ u. P (notice u)) (takes v a)) o
    go l None h = tt
    go l (Some a) h = on_more (λ u. EffectOf v a.ask (notice u)) (λ u. P (notice u)) (λ u k. h a refl (notice u) k) (takes v a) (takes_is v a l)

-- A write or a patch takes effect, and its line follows: the trees stay.
abbrev is_write : Ask → Bool
is_write (asks.Write f p bytes) = true
is_write (asks.Patch f p at bytes) = true
is_write ask = false

not_cut : (e what : Ask) → is_write what ≡ true → same_change e what ≡ true → IsCut e → ⊥
not_cut (asks.Cut f p) (asks.Write g q bytes) w s c = cc
not_cut (asks.Cut f p) (asks.Patch g q at bytes) w s c = cc
not_cut (asks.Cut f p) (asks.Read g q) w s c = cc
not_cut (asks.Cut f p) (asks.Sync g) w s c = cc
not_cut (asks.Cut f p) (asks.Cut g q) w s c = cc
not_cut (asks.Cut f p) (asks.Name s2 ask) w s c = cc
not_cut (asks.Write f p bytes) what w s c = absurd c
not_cut (asks.Patch f p at bytes) what w s c = absurd c
not_cut (asks.Read f p) what w s c = absurd c
not_cut (asks.Sync f) what w s c = absurd c
not_cut (asks.Name s2 ask) what w s c = absurd c

no_line : (v u : Volume) (i : ℕ) (c : Option ClientId) (what : Ask) → is_write what ≡ true → IsCutNext u →
    OnSome (SameTrees v) (run (steps.Joined i c what ∷ []) u)
unfolding run
no_line v u i c what w n =
    on_then (SameTrees v) (run []) (step u (steps.Joined i c what))
    (on_true (SameTrees v) ((i == u.lines + 1) && is_any test (numbered u.log i)) (Some (record u { lines = i }))
    (λ q. let b = and_true (i == u.lines + 1) (is_any test (numbered u.log i)) q in
    absurd (found (numbered u.log i) refl b.1 (eqb-true i (u.lines + 1) b.0))))
  where
    test : Entry → Bool
    test e = same_change e.what what && not (is_any (λ d. not (is_by d e)) c)

    found : (o : Option Entry) → numbered u.log i ≡ o → is_any test o ≡ true → i ≡ u.lines + 1 → ⊥
    found None q t j = cc
    found (Some e) q t j =
        not_cut e.what what w (and_true (same_change e.what what) (not (is_any (λ d. not (is_by d e)) c)) t).0
        (n e (ap (numbered u.log) (sym j) ∙ q))

pair_same : (v : Volume) (c : ClientId) (op i : ℕ) (what : Ask) → is_write what ≡ true →
    OnSome (λ u. OnSome (SameTrees v) (run (steps.Joined i (Some c) what ∷ []) u)) (run (steps.TakesEffect c op ∷ []) v)
pair_same v c op i what w =
    effect_taken (λ u. OnSome (SameTrees v) (run (steps.Joined i (Some c) what ∷ []) u)) v c op (λ a q u e. by a.ask u e)
  where
    lined : (u : Volume) → SameTrees v u → OnSome (SameTrees v) (run (steps.Joined i (Some c) what ∷ []) u)
    lined u e =
        on_more (SameTrees u) (SameTrees v) (λ z k. k ∙ e) (run (steps.Joined i (Some c) what ∷ []) u) (one_same u (steps.Joined i (Some c) what) refl)

    by : (ask : Ask) (u : Volume) → EffectOf v ask u → OnSome (SameTrees v) (run (steps.Joined i (Some c) what ∷ []) u)
    by (asks.Write f p bytes) u e = lined u e
    by (asks.Patch f p at bytes) u e = lined u e
    by (asks.Cut f p) u e = lined u e.0
    by (asks.Name s ask) u e = no_line v u i (Some c) what w e.1
    by (asks.Read f p) u e = absurd e
    by (asks.Sync f) u e = absurd e

-- The lines of an event.
pub line_same : (w : World) (o : Observation) (rest : List Observation) (v : Volume) →
    OnSome (λ u. OnSome (SameTrees v) (run (of_line w o) u)) (run (before_line o rest) v)
unfolding before_line of_line run
line_same w (seen.Wrote i c f p bytes) rest v = pair_same v c (next_op rest) i (asks.Write f p bytes) refl
line_same w (seen.Patched i c f p at bytes) rest v = pair_same v c (next_op rest) i (asks.Patch f p at bytes) refl
line_same w (seen.CutAt i f p) rest v = one_same v (steps.Joined i None (asks.Cut f p)) refl
line_same w (seen.Hardened i) rest v = one_same v (steps.Hardened i) refl
line_same w (seen.Dropped i cause) rest v = one_same v (steps.Dropped i (cause_of w cause)) refl
line_same w (seen.Answered c op answer) rest v = one_same v (steps.Answered c op answer) refl
line_same w (seen.Sent k m) rest v = refl
line_same w (seen.Submitted k c number what) rest v = refl
line_same w (seen.Leased c s end) rest v = refl
line_same w (seen.Lost c s life) rest v = refl
line_same w (seen.Suspected s c start) rest v = refl
line_same w (seen.Stolen s c life) rest v = refl

then_same : (xs : List VolumeStep) (v u : Volume) → SameTrees v u → OnSome (SameTrees u) (run xs u) → OnSome (SameTrees v) (run xs u)
then_same xs v u e h = on_more (SameTrees u) (SameTrees v) (λ z k. k ∙ e) (run xs u) h

pub lines_same : (w : World) (os : List Observation) (v : Volume) → OnSome (SameTrees v) (run (of_lines w os) v)
unfolding of_lines run
lines_same w [] v = refl
lines_same w (o ∷ rest) v =
    run_then (SameTrees v) (before_line o rest) (of_line w o ++ of_lines w rest) v
    (on_more (λ u. OnSome (SameTrees v) (run (of_line w o) u)) (λ u. OnSome (SameTrees v) (run (of_line w o ++ of_lines w rest) u))
    (λ u k. run_then (SameTrees v) (of_line w o) (of_lines w rest) u
    (on_more (SameTrees v) (λ z. OnSome (SameTrees v) (run (of_lines w rest) z)) (λ z j. then_same (of_lines w rest) v z j (lines_same w rest z))
    (run (of_line w o) u) k))
    (run (before_line o rest) v) (line_same w o rest v))

-- Steps other than effects, one after another.
pub all_same : (its : List VolumeStep) (v : Volume) → list_all is_no_effect its ≡ true → OnSome (SameTrees v) (run its v)
unfolding run
all_same [] v q = refl
all_same (it ∷ its) v q =
    let b = and_true (is_no_effect it) (list_all is_no_effect its) q in
    on_then (SameTrees v) (run its) (step v it)
    (on_more (SameTrees v) (λ u. OnSome (SameTrees v) (run its u)) (λ u k. then_same its v u k (all_same its u b.1)) (step v it) (step_same v it b.0))

-- A number above those of all asks is none of theirs.
pub none_above : (c : ClientId) (n : ℕ) (xs : List Pending) → above_all xs ≤ n → find (is_ask c n) xs ≡ None
unfolding above_all
none_above c n [] l = refl
none_above c n (a ∷ xs) l =
    find_next (is_ask c n) a xs (and_right (volume.is_of_client c a) (a.op == n) (ne_eqb a.op n (λ q. absurd (low q))))
    ∙ none_above c n xs (omega (arith, l))
  where
    low : a.op ≡ n → ⊥
    low q = omega (arith, l, q)
