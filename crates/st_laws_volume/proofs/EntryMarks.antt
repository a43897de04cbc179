-- What entries of the volume remember changes only so: a crash marks its client's, a failed write those that it reaches, and `hard` and `lost` what they tell.
use Rattle.std.proofs.Common.{◌≡◌, ℕ, zero, suc, ◌+◌, Bool, true, false, ◌&&◌, not, ◌==◌, List, [], ◌∷◌, ◌++◌, length, map, Option, Some, None, refl, sym, ◌∙◌, subst, if◌then◌else◌}
use Rattle.std.specs.Prelude.{find, option_map, option_and_then, set, slice_get}
use Rattle.std.specs.List.{list_all}
use Rattle.st_base.specs.declared.ids.ClientId.{ClientId}
use Rattle.st_base.specs.declared.ids.ServerId.{ServerId}
use Rattle.st_base.specs.declared.ids.FileId.{FileId}
use Rattle.st_base.specs.declared.ids.PageNo.{PageNo}
use Rattle.st_base.specs.declared.rows.LostRow.{LostRow}
use Rattle.st_messages.specs.declared.answer.AppAnswer.{AppAnswer}
use Rattle.st_messages.specs.declared.answer.AppAnswer.TheVariants as answers
use Rattle.st_messages.specs.declared.ask.Ask.{Ask}
use Rattle.st_messages.specs.declared.ask.Ask.TheVariants as asks
use Rattle.st_lemmas.proofs.Tables.{and_true}
use Rattle.st_lemmas.proofs.Truth.{clash}
use Rattle.st_laws_volume.specs.Options.{OnSome}
use Rattle.st_laws_volume.proofs.LogLines.{numbered_suc}
use Rattle.st_laws_volume.proofs.Options.{on_all, on_else, on_if, on_map, on_more, on_then, on_true}
use Rattle.st_volume.specs.declared.step.VolumeStep.{VolumeStep}
use Rattle.st_volume.specs.declared.step.VolumeStep.TheVariants as steps
use Rattle.st_volume.specs.declared.step.Fate.{Fate}
use Rattle.st_volume.specs.declared.step.Fate.TheVariants as fates
use Rattle.st_volume.specs.Pages.{Entry, is_by_on, is_cause, is_open}
use Rattle.st_volume.specs.Trees.{Made}
use Rattle.st_volume.specs.Volume as volume
use Rattle.st_volume.specs.Volume.{Volume, Pending, acts, after_answer, answered, answers_so, arrived, closed, cuts, cuts_removed, done, effect, ends, entry, file_of, freed, is_ask, is_lost, is_result, is_sync, is_told, made, notice, run, takes, tell, with_changed, with_entry, with_fate, with_tree}

-- An entry that remembers what it did, whatever its fate is; and one that has just joined, which remembers nothing.
pub record Alike (e f : Entry) : Type 0 where
  pub what : f.what ≡ e.what
  pub client : f.client ≡ e.client
  pub crashed : f.crashed ≡ e.crashed
  pub failed : f.failed ≡ e.failed
  pub told : f.told ≡ e.told

pub record IsNew (f : Entry) : Type 0 where
  pub crashed : f.crashed ≡ false
  pub failed : f.failed ≡ 0
  pub told : f.told ≡ false

abbrev pub Stay : List Entry → List Entry → Type 0
Stay [] [] = Unit {0}
Stay [] (f ∷ fs) = IsNew f × Stay [] fs
Stay (e ∷ es) [] = ⊥
Stay (e ∷ es) (f ∷ fs) = Alike e f × Stay es fs

alike_self : (e : Entry) → Alike e e
alike_self e = record { what = refl; client = refl; crashed = refl; failed = refl; told = refl }

stay_self : (es : List Entry) → Stay es es
stay_self [] = tt
stay_self (e ∷ es) = (alike_self e, stay_self es)

pub stay_then : (es fs gs : List Entry) → Stay es fs → Stay fs gs → Stay es gs
stay_then [] [] gs p r = r
stay_then [] (f ∷ fs) [] p r = absurd r
stay_then [] (f ∷ fs) (g ∷ gs) p r = (
  record { crashed = r.0.crashed ∙ p.0.crashed; failed = r.0.failed ∙ p.0.failed; told = r.0.told ∙ p.0.told },
  stay_then [] fs gs p.1 r.1,
)
stay_then (e ∷ es) [] gs p r = absurd p
stay_then (e ∷ es) (f ∷ fs) [] p r = absurd r
stay_then (e ∷ es) (f ∷ fs) (g ∷ gs) p r = (
  record {
    what = r.0.what ∙ p.0.what;
    client = r.0.client ∙ p.0.client;
    crashed = r.0.crashed ∙ p.0.crashed;
    failed = r.0.failed ∙ p.0.failed;
    told = r.0.told ∙ p.0.told;
  },
  stay_then es fs gs p.1 r.1,
)

stay_more : (es : List Entry) (e : Entry) → IsNew e → Stay es (es ++ e ∷ [])
stay_more [] e n = (n, tt)
stay_more (x ∷ es) e n = (alike_self x, stay_more es e n)

stay_set : (es : List Entry) (n : ℕ) (e f : Entry) → slice_get es n ≡ Some e → Alike e f → Stay es (set es n f)
stay_set [] n e f i k = tt
stay_set (x ∷ es) zero e f i k = (subst (λ y. Alike y f) (some_is i) k, stay_self es)
  where
    some_is : Some x ≡ Some e → e ≡ x
    some_is i = cc
stay_set (x ∷ es) (suc n) e f i k = (alike_self x, stay_set es n e f i k)

-- one of the entries: it was there before, or is new
pub stayed_at : (es fs : List Entry) → Stay es fs → (n : ℕ) (e : Entry) → slice_get es n ≡ Some e → (f : Entry) × (slice_get fs n ≡ Some f) × Alike e f
stayed_at [] fs k n e i = cc i
stayed_at (x ∷ es) [] k n e i = absurd k
stayed_at (x ∷ es) (y ∷ fs) k zero e i = (y, refl, subst (λ z. Alike z y) (some_is i) k.0)
  where
    some_is : Some x ≡ Some e → x ≡ e
    some_is i = cc
stayed_at (x ∷ es) (y ∷ fs) k (suc n) e i = stayed_at es fs k.1 n e i

pub new_at : (es fs : List Entry) → Stay es fs → (n : ℕ) (f : Entry) → slice_get fs n ≡ Some f → slice_get es n ≡ None → IsNew f
new_at [] [] k n f i o = cc i
new_at [] (y ∷ fs) k zero f i o = subst IsNew (some_is i) k.0
  where
    some_is : Some y ≡ Some f → y ≡ f
    some_is i = cc
new_at [] (y ∷ fs) k (suc n) f i o = new_at [] fs k.1 n f i refl
new_at (x ∷ es) [] k n f i o = absurd k
new_at (x ∷ es) (y ∷ fs) k zero f i o = cc o
new_at (x ∷ es) (y ∷ fs) k (suc n) f i o = new_at es fs k.1 n f i o

-- Steps that mark nothing.
abbrev tells_more : AppAnswer → Bool
tells_more answers.Hard = true
tells_more (answers.Lost rows) = true
tells_more answer = false

abbrev pub is_plain : VolumeStep → Bool
is_plain (steps.Crashed c) = false
is_plain (steps.WriteFailed c number i) = false
is_plain (steps.Answered c op answer) = not (tells_more answer)
is_plain it = true

abbrev pub LogStays : Volume → Volume → Type 0
LogStays v u = Stay v.log u.log

joins : (v : Volume) (f : FileId) (e : Entry) → IsNew e → OnSome (LogStays v) (with_entry v f e)
joins v f e n = on_if (LogStays v) _ (Some (record v { log = v.log ++ e ∷ [] })) (stay_more v.log e n)

new_entry : (c : ClientId) (what : Ask) (fate : Fate) → IsNew (entry c what fate)
new_entry c what fate = record { crashed = refl; failed = refl; told = refl }

cut_stays : (v : Volume) (c : ClientId) (f : FileId) (p : PageNo) → OnSome (LogStays v) (cuts v c f p)
cut_stays v c f p =
    on_if (LogStays v) _ (Some (record v { claims = freed v (asks.Cut f p); log = v.log ++ entry c (asks.Cut f p) fates.Hard ∷ [] }))
    (stay_more v.log (entry c (asks.Cut f p) fates.Hard) (new_entry c (asks.Cut f p) fates.Hard))

removal_stays : (v : Volume) (c : ClientId) (s : ServerId) (removed : Option ℕ) → OnSome (LogStays v) (cuts_removed v c s removed)
removal_stays v c s None = stay_self v.log
removal_stays v c s (Some ino) = cut_stays v c (record { server = s; ino = ino }) (record { 0 = 0 })

abbrev Leaves : Volume → Volume × AppAnswer → Type 0
Leaves v r = LogStays v r.0

result_stays : (v : Volume) (answer : AppAnswer) (o : Option Volume) → OnSome (LogStays v) o → OnSome (Leaves v) (option_map (λ w. (w, answer)) o)
result_stays v answer o h = on_map (Leaves v) (λ w. (w, answer)) o h

made_stays : (v : Volume) (c : ClientId) (s : ServerId) (m : Made) → OnSome (Leaves v) (made v c s m)
made_stays v c s (t, (answer, removed)) =
    result_stays v answer _ (on_map (LogStays v) (with_tree s t) (cuts_removed v c s removed) (removal_stays v c s removed))

effect_stays : (v : Volume) (c : ClientId) (ask : Ask) → OnSome (Leaves v) (effect v c ask)
effect_stays v c (asks.Write f p bytes) =
    result_stays v answers.Written _
    (joins v f (entry c (asks.Write f p bytes) fates.Open) (new_entry c (asks.Write f p bytes) fates.Open))
effect_stays v c (asks.Patch f p at bytes) =
    result_stays v answers.Written _
    (joins v f (entry c (asks.Patch f p at bytes) fates.Open) (new_entry c (asks.Patch f p at bytes) fates.Open))
effect_stays v c (asks.Read f p) = tt
effect_stays v c (asks.Sync f) = tt
effect_stays v c (asks.Cut f p) = result_stays v answers.Cut _ (cut_stays v c f p)
effect_stays v c (asks.Name s ask) = on_then (Leaves v) (made v c s) _ (on_all _ (λ m. made_stays v c s m) _)

takes_stays : (v : Volume) (a : Pending) → OnSome (LogStays v) (takes v a)
takes_stays v a = on_else (LogStays v) _ _ (on_map (LogStays v) (done a) (effect v a.client a.ask) (effect_stays v a.client a.ask))

after_stays : (v : Volume) (a : Pending) (answer : AppAnswer) → tells_more answer ≡ false → LogStays v (after_answer v a answer)
after_stays v a answers.Hard q = cc q
after_stays v a (answers.Lost rows) q = cc q
after_stays v a (answers.Read bytes) q = stay_self v.log
after_stays v a (answers.Uncertain old zero) q = stay_self v.log
after_stays v a (answers.Uncertain old (suc new)) q = stay_self v.log
after_stays v a answers.Written q = stay_self v.log
after_stays v a answers.Cut q = stay_self v.log
after_stays v a answers.Quiesced q = stay_self v.log
after_stays v a answers.NoFile q = stay_self v.log
after_stays v a (answers.NoSpace n m) q = stay_self v.log
after_stays v a (answers.DiskFault n) q = stay_self v.log
after_stays v a answers.OpsFull q = stay_self v.log
after_stays v a answers.DirtyFull q = stay_self v.log
after_stays v a answers.NotHolder q = stay_self v.log
after_stays v a answers.TooManyLocks q = stay_self v.log
after_stays v a (answers.Named ino) q = stay_self v.log
after_stays v a (answers.Listed rows) q = stay_self v.log
after_stays v a (answers.Refused code) q = stay_self v.log

fate_stays : (v : Volume) (i : ℕ) (test : Entry → Bool) (fate : Fate) → OnSome (LogStays v) (with_fate v i test fate)
fate_stays v zero test fate = tt
fate_stays v (suc n) test fate =
    subst (λ o. OnSome (LogStays v) (option_map (with_changed v (suc n)) (option_and_then (ends test fate) o))) (sym (numbered_suc v.log n))
    (go (slice_get v.log n) refl)
  where
    go : (o : Option Entry) → slice_get v.log n ≡ o → OnSome (LogStays v) (option_map (with_changed v (suc n)) (option_and_then (ends test fate) o))
    go None i = tt
    go (Some e) i =
        on_map (LogStays v) (with_changed v (suc n)) (ends test fate e)
        (on_if (λ f. LogStays v (with_changed v (suc n) f)) (is_open e.fate && test e) (Some (record e { fate = fate }))
        (stay_set v.log n e (record e { fate = fate }) i (record { what = refl; client = refl; crashed = refl; failed = refl; told = refl })))

if_lined : (v : Volume) (it : VolumeStep) → OnSome (LogStays v) (acts v it) → OnSome (LogStays v) (if v.lines == length v.log then acts v it else None)
if_lined v it h = on_if (LogStays v) (v.lines == length v.log) (acts v it) h

plain_answer : (answer : AppAnswer) → not (tells_more answer) ≡ true → tells_more answer ≡ false
plain_answer answer q = go (tells_more answer) q
  where
    go : (b : Bool) → not b ≡ true → b ≡ false
    go true h = cc h
    go false h = refl

step_stays : (v : Volume) (it : VolumeStep) → is_plain it ≡ true → OnSome (LogStays v) (volume.step v it)
step_stays v (steps.Joined i d what) q = on_if (LogStays v) _ (Some (record v { lines = i })) (stay_self v.log)
step_stays v (steps.Asked d ask) q = if_lined v (steps.Asked d ask) (on_if (LogStays v) _ (Some (notice (arrived v d ask))) (stay_self v.log))
step_stays v (steps.TakesEffect d op) q =
    if_lined v (steps.TakesEffect d op)
    (on_map (LogStays v) notice (option_and_then (takes v) (find (is_ask d op) (v.pending ++ v.orphans)))
    (on_then (LogStays v) (takes v) (find (is_ask d op) (v.pending ++ v.orphans))
    (on_all (λ a. OnSome (LogStays v) (takes v a)) (takes_stays v) (find (is_ask d op) (v.pending ++ v.orphans)))))
step_stays v (steps.Answered d op answer) q =
    if_lined v (steps.Answered d op answer)
    (on_then (LogStays v) (answered v answer) (find (is_ask d op) v.pending)
    (on_all (λ a. OnSome (LogStays v) (answered v answer a))
    (λ a. on_if (LogStays v) _ (Some (closed a (after_answer v a answer))) (after_stays v a answer (plain_answer answer q)))
    (find (is_ask d op) v.pending)))
step_stays v (steps.Hardened i) q = if_lined v (steps.Hardened i) (fate_stays v i (λ e. true) fates.Hard)
step_stays v (steps.Dropped i cause) q = if_lined v (steps.Dropped i cause) (fate_stays v i (is_cause cause) fates.Dropped)
step_stays v (steps.Crashed d) q = cc q
step_stays v (steps.Restarted s) q = if_lined v (steps.Restarted s) (stay_self v.log)
step_stays v (steps.WriteFailed d number i) q = cc q
step_stays v (steps.ReadFailed d s number) q = if_lined v (steps.ReadFailed d s number) (stay_self v.log)

pub run_stays : (its : List VolumeStep) (v : Volume) → list_all is_plain its ≡ true → OnSome (LogStays v) (run its v)
unfolding run
run_stays [] v q = stay_self v.log
run_stays (it ∷ its) v q =
    let b = and_true (is_plain it) (list_all is_plain its) q in
    on_then (LogStays v) (run its) (volume.step v it)
    (on_more (LogStays v) _
    (λ u k. on_more (LogStays u) (LogStays v) (λ z r. stay_then v.log u.log z.log k r) (run its u) (run_stays its u b.1))
    (volume.step v it) (step_stays v it b.0))

-- An answer that tells: of each entry that its test finds the client is told, and that is all.
pub record TellsOf (c : ClientId) (op : ℕ) (answer : AppAnswer) (test : Pending → Entry → Bool) (u z : Volume) : Type 0 where
  pub ask : Pending
  pub found : find (is_ask c op) u.pending ≡ Some ask
  pub so : answers_so u ask answer ask.result ≡ true
  pub log : z.log ≡ map (tell (test ask)) u.log

answer_tells : (c : ClientId) (op : ℕ) (answer : AppAnswer) (test : Pending → Entry → Bool) (u : Volume) →
    ((a : Pending) → (after_answer u a answer).log ≡ map (tell (test a)) u.log) →
    OnSome (TellsOf c op answer test u) (run (steps.Answered c op answer ∷ []) u)
unfolding run
answer_tells c op answer test u is =
    on_then (TellsOf c op answer test u) (run []) (volume.step u (steps.Answered c op answer))
    (on_if (TellsOf c op answer test u) (u.lines == length u.log) (acts u (steps.Answered c op answer))
    (on_then (TellsOf c op answer test u) (answered u answer) (find (is_ask c op) u.pending) (go (find (is_ask c op) u.pending) refl)))
  where
    go : (o : Option Pending) → find (is_ask c op) u.pending ≡ o → OnSome (λ a. OnSome (TellsOf c op answer test u) (answered u answer a)) o
    go None q = tt
    go (Some a) q =
        on_true (TellsOf c op answer test u) (answers_so u a answer a.result) (Some (closed a (after_answer u a answer)))
        (λ s. record { ask = a; found = q; so = s; log = is a })

abbrev pub told_hard : Pending → Entry → Bool
told_hard a e = is_by_on a.client (file_of a.ask) e

abbrev pub told_lost : List LostRow → Pending → Entry → Bool
told_lost rows a e = is_told a.client (file_of a.ask) rows e

pub hard_tells : (c : ClientId) (op : ℕ) (u : Volume) → OnSome (TellsOf c op answers.Hard told_hard u) (run (steps.Answered c op answers.Hard ∷ []) u)
hard_tells c op u = answer_tells c op answers.Hard told_hard u (λ a. refl)

pub lost_tells : (c : ClientId) (op : ℕ) (rows : List LostRow) (u : Volume) →
    OnSome (TellsOf c op (answers.Lost rows) (told_lost rows) u) (run (steps.Answered c op (answers.Lost rows) ∷ []) u)
lost_tells c op rows u = answer_tells c op (answers.Lost rows) (told_lost rows) u (λ a. refl)

-- Such an answer goes to a sync.
unlike_hard : (x : AppAnswer) → is_result x answers.Hard ≡ false
unlike_hard answers.Written = refl
unlike_hard answers.Cut = refl
unlike_hard (answers.Named ino) = refl
unlike_hard (answers.Listed rows) = refl
unlike_hard (answers.Refused code) = refl
unlike_hard x = refl

unlike_lost : (rows : List LostRow) (x : AppAnswer) → is_result x (answers.Lost rows) ≡ false
unlike_lost rows answers.Written = refl
unlike_lost rows answers.Cut = refl
unlike_lost rows (answers.Named ino) = refl
unlike_lost rows (answers.Listed others) = refl
unlike_lost rows (answers.Refused code) = refl
unlike_lost rows x = refl

pub hard_sync : (u : Volume) (a : Pending) → answers_so u a answers.Hard a.result ≡ true → is_sync a.ask ≡ true
hard_sync u a q = go a.result q
  where
    go : (o : Option AppAnswer) → answers_so u a answers.Hard o ≡ true → is_sync a.ask ≡ true
    go None h = (and_true (is_sync a.ask) _ h).0
    go (Some x) h = absurd (clash h (unlike_hard x))

pub lost_sync : (rows : List LostRow) (u : Volume) (a : Pending) → answers_so u a (answers.Lost rows) a.result ≡ true → is_sync a.ask ≡ true
lost_sync rows u a q = go a.result q
  where
    go : (o : Option AppAnswer) → answers_so u a (answers.Lost rows) o ≡ true → is_sync a.ask ≡ true
    go None h = (and_true (is_sync a.ask) (is_lost u a.client (file_of a.ask) rows) h).0
    go (Some x) h = absurd (clash h (unlike_lost rows x))

pub map_at : (g : Entry → Entry) (es : List Entry) (n : ℕ) (f : Entry) → slice_get (map g es) n ≡ Some f → (e : Entry) × (slice_get es n ≡ Some e) × (f ≡ g e)
map_at g [] n f q = cc q
map_at g (x ∷ es) zero f q = (x, refl, sym (some_is q))
  where
    some_is : Some (g x) ≡ Some f → g x ≡ f
    some_is i = cc
map_at g (x ∷ es) (suc n) f q = map_at g es n f q
