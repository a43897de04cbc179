-- The volume takes the lines of fates, one entry after the other.
use Rattle.std.proofs.Common.{◌≡◌, ℕ, suc, ◌+◌, Bool, true, false, ◌&&◌, ◌||◌, ◌==◌, List, [], ◌∷◌, ◌++◌, length, Option, Some, None, refl, sym, ap, ◌∙◌, subst, append_assoc, if◌then◌else◌}
use Rattle.std.proofs.lemmas.List.{length_push}
use Rattle.std.specs.Prelude.{is_some, option_and_then, option_map, pred, set, slice_get}
use Rattle.std.proofs.lemmas.Bool.{eq-eqb}
use Rattle.st_rules.specs.declared.log.Fate as world_fate
use Rattle.st_rules.specs.declared.log.Fate.TheVariants as old_fates
use Rattle.st_rules.specs.declared.log.LogEntry.{LogEntry}
use Rattle.st_rules.specs.Events.{fate_seen, fates_from}
use Rattle.st_rules.specs.World.{World}
use Rattle.st_lemmas.proofs.Lookups.{if_true}
use Rattle.st_laws_volume.specs.Seen.{cause_of, of_line}
use Rattle.st_laws_volume.specs.Witness.{before_line, if_told, of_lines}
use Rattle.st_laws_volume.proofs.LogLines.{numbered_next, suc_is}
use Rattle.st_volume.specs.declared.step.VolumeStep.{VolumeStep}
use Rattle.st_volume.specs.declared.step.VolumeStep.TheVariants as steps
use Rattle.st_volume.specs.declared.step.Fate.{Fate}
use Rattle.st_volume.specs.declared.step.Fate.TheVariants as fates
use Rattle.st_volume.specs.Pages.{Entry, is_cause, is_open}
use Rattle.st_volume.specs.Volume.{Volume, ends, run, step, with_changed, with_fate}

-- The steps are taken, and each entry has had its line.
abbrev pub IsTaken : Option Volume → Type 0
IsTaken None = ⊥
IsTaken (Some v) = v.lines ≡ length v.log

pub taken_is : (o : Option Volume) → IsTaken o → is_some (option_and_then if_told o) ≡ true
taken_is None h = absurd h
taken_is (Some v) h = ap is_some (if_true (v.lines == length v.log) (Some v) None (eq-eqb _ _ h))

-- Lists in two parts.
get_mid : {A : Type 0} (done : List A) (x : A) (rest : List A) → slice_get (done ++ x ∷ rest) (length done) ≡ Some x
get_mid [] x rest = refl
get_mid (y ∷ done) x rest = get_mid done x rest

set_mid : {A : Type 0} (done : List A) (x y : A) (rest : List A) → set (done ++ x ∷ rest) (length done) y ≡ done ++ y ∷ rest
set_mid [] x y rest = refl
set_mid (z ∷ done) x y rest = ap (λ xs. z ∷ xs) (set_mid done x y rest)

length_mid : {A : Type 0} (done : List A) (x y : A) (rest : List A) → length (done ++ x ∷ rest) ≡ length (done ++ y ∷ rest)
length_mid [] x y rest = refl
length_mid (z ∷ done) x y rest = ap suc (length_mid done x y rest)

pred_next : (n : ℕ) → pred (n + 1) ≡ n
pred_next n = ap pred (suc_is n)

-- one entry gets its fate
changed_to : Volume → List Entry → Entry → List Entry → Fate → Volume
changed_to v done e rest fate = record v { log = done ++ record e { fate = fate } ∷ rest }

fate_given : (v : Volume) (done : List Entry) (e : Entry) (rest : List Entry) (test : Entry → Bool) (fate : Fate) → v.log ≡ done ++ e ∷ rest →
    (is_open e.fate && test e) ≡ true → with_fate v (length done + 1) test fate ≡ Some (changed_to v done e rest fate)
unfolding changed_to
fate_given v done e rest test fate q t =
    ap (λ o. option_map (with_changed v (length done + 1)) (option_and_then (ends test fate) o))
    (numbered_next v.log (length done) (length done + 1) refl ∙ (ap (λ es. slice_get es (length done)) q ∙ get_mid done e rest))
    ∙ (ap (option_map (with_changed v (length done + 1))) (if_true (is_open e.fate && test e) (Some (record e { fate = fate })) None t)
    ∙ ap (λ es. Some (record v { log = es }))
    (ap (λ n. set v.log n (record e { fate = fate })) (pred_next (length done))
    ∙ (ap (λ es. set es (length done) (record e { fate = fate })) q ∙ set_mid done e (record e { fate = fate }) rest)))

-- An entry may end so.
abbrev pub MayEnd : World → world_fate.Fate → world_fate.Fate → Entry → Type 0
MayEnd w old_fates.Pending old_fates.Hard e = is_open e.fate ≡ true
MayEnd w old_fates.Pending (old_fates.Gone cause) e = (is_open e.fate && is_cause (cause_of w cause) e) ≡ true
MayEnd w old new e = Unit {0}

abbrev pub MayEndAll : World → List LogEntry → List LogEntry → List Entry → Type 0
MayEndAll w [] fs es = Unit {0}
MayEndAll w (o ∷ os) [] es = Unit {0}
MayEndAll w (o ∷ os) (f ∷ fs) [] = ⊥
MayEndAll w (o ∷ os) (f ∷ fs) (e ∷ es) = MayEnd w o.fate f.fate e × MayEndAll w os fs es

and_more : (a : Bool) → a ≡ true → (a && true) ≡ true
and_more true p = refl
and_more false p = cc

pub fates_taken : (w : World) (os fs : List LogEntry) (done rest : List Entry) (v : Volume) → v.log ≡ done ++ rest → v.lines ≡ length v.log →
    MayEndAll w os fs rest → IsTaken (run (of_lines w (fates_from (length done + 1) os fs)) v)
unfolding fates_from of_lines run of_line before_line changed_to
fates_taken w [] fs done rest v q n m = n
fates_taken w (o ∷ os) [] done rest v q n m = n
fates_taken w (o ∷ os) (f ∷ fs) done [] v q n m = absurd m
fates_taken w (o ∷ os) (f ∷ fs) done (e ∷ rest) v q n m = go o.fate f.fate m.0 (λ y u p l. fates_taken w os fs (done ++ y ∷ []) rest u p l m.1)
  where
    next : (y : Entry) (u : Volume) → IsTaken (run (of_lines w (fates_from (length (done ++ y ∷ []) + 1) os fs)) u) →
        IsTaken (run (of_lines w (fates_from (length done + 1 + 1) os fs)) u)
    next y u h = subst (λ k. IsTaken (run (of_lines w (fates_from (k + 1) os fs)) u)) (length_push done y) h

    same : ((y : Entry) (u : Volume) → u.log ≡ (done ++ y ∷ []) ++ rest → u.lines ≡ length u.log →
        IsTaken (run (of_lines w (fates_from (length (done ++ y ∷ []) + 1) os fs)) u)) →
        IsTaken (run (of_lines w (fates_from (length done + 1 + 1) os fs)) v)
    same r = next e v (r e v (q ∙ sym (append_assoc done (e ∷ []) rest)) n)

    ended : (it : VolumeStep) (fate : Fate) → step v it ≡ Some (changed_to v done e rest fate) →
        ((y : Entry) (u : Volume) → u.log ≡ (done ++ y ∷ []) ++ rest → u.lines ≡ length u.log →
        IsTaken (run (of_lines w (fates_from (length (done ++ y ∷ []) + 1) os fs)) u)) →
        IsTaken (option_and_then (run (of_lines w (fates_from (length done + 1 + 1) os fs))) (step v it))
    ended it fate s r =
        let y : Entry = record e { fate = fate } in
        let u : Volume = record v { log = done ++ y ∷ rest } in
        subst (λ o. IsTaken (option_and_then (run (of_lines w (fates_from (length done + 1 + 1) os fs))) o)) (sym s)
        (next y u (r y u (sym (append_assoc done (y ∷ []) rest)) (n ∙ (ap (λ (es : List Entry). length es) q ∙ length_mid done e y rest))))

    lined : {A : Type 0} (x y : A) → (if v.lines == length v.log then x else y) ≡ x
    lined x y = if_true (v.lines == length v.log) x y (eq-eqb _ _ n)

    go : (a b : world_fate.Fate) → MayEnd w a b e →
        ((y : Entry) (u : Volume) → u.log ≡ (done ++ y ∷ []) ++ rest → u.lines ≡ length u.log →
        IsTaken (run (of_lines w (fates_from (length (done ++ y ∷ []) + 1) os fs)) u)) →
        IsTaken (run (of_lines w (fate_seen (length done + 1) a b ++ fates_from (length done + 1 + 1) os fs)) v)
    go old_fates.Pending old_fates.Pending t r = same r
    go old_fates.Pending old_fates.Hard t r =
        ended (steps.Hardened (length done + 1)) fates.Hard (lined _ None ∙ fate_given v done e rest (λ e. true) fates.Hard q (and_more (is_open e.fate) t)) r
    go old_fates.Pending (old_fates.Gone cause) t r =
        ended (steps.Dropped (length done + 1) (cause_of w cause)) fates.Dropped
        (lined _ None ∙ fate_given v done e rest (is_cause (cause_of w cause)) fates.Dropped q t) r
    go old_fates.Hard b t r = same r
    go (old_fates.Gone cause) b t r = same r
