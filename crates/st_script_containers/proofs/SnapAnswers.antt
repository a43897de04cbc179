-- What a volume answers, as the texts of a script.
use Rattle.std.proofs.Common.{◌≡◌, ℕ, List, [], ◌∷◌, ◌++◌, sym, ◌∙◌, ap, subst}
use Rattle.std.specs.Prelude.{Result, Ok, Err, OnOk}
use Rattle.st_snap.specs.Changes.{Change}
use Rattle.st_snap.specs.Volumes.{Ends, Volume, IsAfter}
use Rattle.st_snap.specs.declared.refusal.SnapRefusal.{SnapRefusal}
use Rattle.st_snap.specs.declared.refusal.SnapRefusal.TheVariants.{NoSpace, NoImage, TooMany, Memory}
use Rattle.st_script.specs.Scripts.{answer_lines}
use Rattle.st_script_containers.specs.SnapScripts.{IsAnswered, last_text, left, refusal}

-- the line of one answer is that of an equal one
pub answered : {A E : Type 0} (r : Result A E) (old new : List ℕ) (number : ℕ) (t u : List ℕ) → t ≡ u → OnOk r (new ≡ old ++ answer_lines number (t ∷ [])) →
    OnOk r (new ≡ old ++ answer_lines number (u ∷ []))
answered r old new number t u e h = subst (λ x. OnOk r (new ≡ old ++ answer_lines number (x ∷ []))) e h

-- what was answered is what the definition gives
pub told_done : {T : Type 0} (tell : Result (T × List Change) SnapRefusal → List ℕ) (blocks : ℕ) (old new : Volume) (x : T) (rule : Result (T × List Change) SnapRefusal) →
    (e : Ends blocks old new (Ok x) rule) → tell (Ok (x, e.0)) ≡ tell rule
told_done tell blocks old new x rule e = sym (ap tell e.1.0)

-- and the volume stands for what it leaves
pub stands_done : {T : Type 0} (blocks : ℕ) (changes : List Change) (old new : Volume) (x : T) (rule : Result (T × List Change) SnapRefusal) →
    Ends blocks old new (Ok x) rule → IsAfter blocks (left changes rule) new
stands_done {T} blocks changes old new x rule e = subst (λ (y : Result (T × List Change) SnapRefusal). IsAfter blocks (left changes y) new) (sym e.1.0) e.1.1

-- a refusal that is answered changes nothing, and is that of the definition
pub record IsRefusal {T : Type 0} (old new : Volume) (f : SnapRefusal) (rule : Result (T × List Change) SnapRefusal) : Type 0 where
  pub is : rule ≡ Err f
  pub same : new ≡ old

is_refusal : {T : Type 0} (blocks : ℕ) (old new : Volume) (f : SnapRefusal) (rule : Result (T × List Change) SnapRefusal) → IsAnswered f →
    Ends {T = T} blocks old new (Err f) rule → IsRefusal old new f rule
is_refusal blocks old new (NoSpace free asked) rule a e = record { is = e.0; same = e.1 }
is_refusal blocks old new (NoImage image) rule a e = record { is = e.0; same = e.1 }
is_refusal blocks old new (TooMany kept) rule a e = record { is = e.0; same = e.1 }
is_refusal blocks old new Memory rule a e = absurd a

pub told_refused : {T A E : Type 0} (r : Result A E) (tell : Result (T × List Change) SnapRefusal → List ℕ) (blocks : ℕ) (old new : Volume) (f : SnapRefusal)
    (rule : Result (T × List Change) SnapRefusal) (before now : List ℕ) (number : ℕ) → tell (Err f) ≡ refusal f → Ends {T = T} blocks old new (Err f) rule →
    OnOk r (IsAnswered f × (now ≡ before ++ answer_lines number (refusal f ∷ []))) → OnOk r (now ≡ before ++ answer_lines number (tell rule ∷ []))
told_refused (Err x) tell blocks old new f rule before now number same e h = tt
told_refused (Ok x) tell blocks old new f rule before now number same e h =
    h.1 ∙ ap (λ t. before ++ answer_lines number (t ∷ [])) (sym same ∙ sym (ap tell (is_refusal blocks old new f rule h.0 e).is))

pub stands_refused : {T A E : Type 0} (r : Result A E) (blocks : ℕ) (changes : List Change) (old new : Volume) (f : SnapRefusal) (rule : Result (T × List Change) SnapRefusal)
    (Q : Type 0) → IsAfter blocks changes old → Ends {T = T} blocks old new (Err f) rule → OnOk r (IsAnswered f × Q) → OnOk r (IsAfter blocks (left changes rule) new)
stands_refused (Err x) blocks changes old new f rule Q a e h = tt
stands_refused {T} (Ok x) blocks changes old new f rule Q a e h =
    let k = is_refusal blocks old new f rule h.0 e in
    subst (λ (y : Result (T × List Change) SnapRefusal). IsAfter blocks (left changes y) new) (sym k.is) (subst (IsAfter blocks changes) (sym k.same) a)

-- a refusal of a read
pub read_refused : {A E : Type 0} (r : Result A E) (f : SnapRefusal) (t : List ℕ) (before now : List ℕ) (number : ℕ) → refusal f ≡ t →
    OnOk r (IsAnswered f × (now ≡ before ++ answer_lines number (refusal f ∷ []))) → OnOk r (now ≡ before ++ answer_lines number (t ∷ []))
read_refused (Err x) f t before now number same h = tt
read_refused (Ok x) f t before now number same h = h.1 ∙ ap (λ u. before ++ answer_lines number (u ∷ [])) same

-- the last line, of an equal number of free blocks
pub last_of : {A E : Type 0} (r : Result A E) (old new : List ℕ) (count a b : ℕ) → a ≡ b → OnOk r (new ≡ old ++ last_text count a) → OnOk r (new ≡ old ++ last_text count b)
last_of r old new count a b e h = subst (λ x. OnOk r (new ≡ old ++ last_text count x)) e h
