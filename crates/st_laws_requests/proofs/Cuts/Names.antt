-- Names answer truly: what they said to the request of an ask is what they say to the ask.
use Rattle.st_lemmas.proofs.Words
use Words.{◌≡◌, ℕ, Bool, true, false, ◌||◌, not, ◌==◌, List, [], ◌∷◌, Option, Some, None, refl, sym, ◌∙◌, subst, inl, inr, if◌then◌else◌, Result as Res, Ok}
use Words.{Err, bytes_eq, list_any, eq-eqb, ClientId, GrantNo, NameAsk, NameRow, AppAnswer, Ask, EntryRefusal, NameEntry, Observation}
use Words.names.{Lookup, Create, Mkdir, Remove, Rename, List as ListFrom}
use Words.answers
use Words.asks
use Words.seen
use Words.ClientPasses.{name_op}
use Words.Names as names
use Words.Names.{Names}
use Words.History.{traced}
use Words.Safety.{Step, ask_of, step}
use Words.World.{fresh_world, node_of}
use Words.Lists.{Has}
use Words.Tables.{all_pass, and_both, some_passes}
use Words.Truth.{false_not_true}
use Rattle.std.proofs.lemmas.Slice.Eq.{bytes_eq-Decides}
use Rattle.st_rules.specs.declared.names.EntryRefusal.TheVariants.{IsDir}
use Rattle.st_lemmas.proofs.Steps.{throughout}
use Rattle.st_laws_leases.specs.Sides.Law.{InEveryRun}
use Rattle.st_promises.specs.NameAnswers.{NamesAnswerTruly, Saying, changed, is_moment, is_of_names, is_saying, is_told_truly, refused, removes, said}
use Rattle.st_promises.specs.NameAnswers.{same_answer, same_entries, same_entry, same_mark, same_names, same_row, same_rows, says, says_at, was_said}
use Rattle.st_laws_requests.specs.Cuts.Cuts.{CutsHold, MeansNone, does, does_remove}
use Rattle.st_laws_requests.specs.Cuts.Law.{NameAskSaid, NamesAreSaid}
use Rattle.st_laws_requests.proofs.Cuts.Law as runs

-- What names do to the request of an ask is one of what they may say to the ask.
one_of : (n : Names) (dir : ℕ) (x : List ℕ) (ino : ℕ) (g : GrantNo) → (ino ≡ 0 → g.0 ≡ 0) → (r : Res ℕ EntryRefusal) → Has (does_remove n dir x g r) (removes n dir x ino r)
one_of n dir x ino g f (Err r) = inl refl
one_of n dir x ino g f (Ok there) = go (names.is_file n there) (ino == 0) refl (g.0 == 0) refl
  where
    removed : Saying
    removed = changed n (names.remove n dir x)

    zero_is : (a b : Bool) → (ino == 0) ≡ a → (g.0 == 0) ≡ b → a ≡ true → b ≡ true
    zero_is a b p q e = sym q ∙ eq-eqb g.0 0 (f (Rattle.std.proofs.lemmas.Bool.eqb-true ino 0 (p ∙ e)))

    go : (file : Bool) (a : Bool) → (ino == 0) ≡ a → (b : Bool) → (g.0 == 0) ≡ b →
        Has (if file then changed n (names.remove n dir x) else (if b then changed n (names.remove n dir x) else refused n IsDir))
        (if file || a then changed n (names.remove n dir x) ∷ [] else changed n (names.remove n dir x) ∷ refused n IsDir ∷ [])
    go true a p b q = inl refl
    go false true p true q = inl refl
    go false true p false q = false_not_true (zero_is true false p q refl)
    go false false p true q = inl refl
    go false false p false q = inr (inl refl)

pub says_it : (n : Names) (ask : NameAsk) (g : GrantNo) → MeansNone ask g → Has (does n (name_op ask g)) (says n ask)
says_it n (Lookup dir x) g m = inl refl
says_it n (Create dir x) g m = inl refl
says_it n (Mkdir dir x) g m = inl refl
says_it n (Remove dir x ino) g m = one_of n dir x ino g m (names.lookup n dir x)
says_it n (Rename dir x dir2 x2) g m = inl refl
says_it n (ListFrom dir after) g m = inl refl

-- The same is the same.
pub bytes_same : (xs : List ℕ) → bytes_eq xs xs ≡ true
bytes_same xs = (bytes_eq-Decides xs xs).1 refl

pub mark_same : (b : Bool) → same_mark b b ≡ true
mark_same true = refl
mark_same false = refl

entry_same : (e : NameEntry) → same_entry e e ≡ true
entry_same e = and_both _ _ (eq-eqb e.dir e.dir refl) (and_both _ _ (bytes_same e.name) (and_both _ _ (eq-eqb e.ino e.ino refl) (mark_same e.directory)))

entries_same : (es : List NameEntry) → same_entries es es ≡ true
unfolding same_entries
entries_same [] = refl
entries_same (e ∷ es) = and_both _ _ (entry_same e) (entries_same es)

pub names_same : (n : Names) → same_names n n ≡ true
names_same n = and_both _ _ (entries_same n.entries) (eq-eqb n.next n.next refl)

pub row_same : (r : NameRow) → same_row r r ≡ true
row_same r = and_both _ _ (eq-eqb r.ino r.ino refl) (and_both _ _ (mark_same r.directory) (bytes_same r.name))

pub rows_same : (rs : List NameRow) → same_rows rs rs ≡ true
unfolding same_rows
rows_same [] = refl
rows_same (r ∷ rs) = and_both _ _ (row_same r) (rows_same rs)

answer_same : (a : AppAnswer) → is_of_names a ≡ true → same_answer a a ≡ true
answer_same (answers.Named ino) f = eq-eqb ino ino refl
answer_same (answers.Listed rows) f = rows_same rows
answer_same (answers.Refused code) f = eq-eqb code code refl
answer_same a f = cc f

-- An answer that was said so is a true one.
is_said : (past : List Step) (c : ClientId) (op : ℕ) (a : AppAnswer) → is_of_names a ≡ true → (ask : Option Ask) → NameAskSaid past c op a ask → was_said past c op a ask ≡ true
is_said past c op a f None k = absurd k
is_said past c op a f (Some (asks.Name s ask)) k = some_passes (is_moment c op s ask a) past k.at k.among (and_both _ _ k.after there)
  where
    saying : list_any (is_saying k.new.state.stable.names a) (says k.old.state.stable.names ask) ≡ true
    saying = some_passes (is_saying k.new.state.stable.names a) (says k.old.state.stable.names ask) (said k.new.state.stable.names a)
        (subst (λ z. Has z (says k.old.state.stable.names ask)) k.did (says_it k.old.state.stable.names ask k.g k.none)) (and_both _ _ (names_same k.new.state.stable.names) (answer_same a f))

    there : says_at ask a (node_of k.at.before.world s) (node_of k.at.after.world s) ≡ true
    there = subst (λ o. says_at ask a o (node_of k.at.after.world s) ≡ true) (sym k.was) (subst (λ o. says_at ask a (Some k.old) o ≡ true) (sym k.became) saying)
is_said past c op a f (Some ask) k = absurd k

pub truly : (past : List Step) (x : Step) → NamesAreSaid past x → NamesAnswerTruly past x
truly past x k = all_pass (is_told_truly past x) x.seen one
  where
    one : (o : Observation) → Has o x.seen → is_told_truly past x o ≡ true
    one (seen.Answered c op a) h = go (is_of_names a) refl
      where
        go : (b : Bool) → is_of_names a ≡ b → not b || was_said past c op a (ask_of past x c op) ≡ true
        go true f = is_said past c op a f (ask_of past x c op) (k c op a h f)
        go false f = refl
    one o h = refl

pub names_answer_truly : InEveryRun NamesAnswerTruly
names_answer_truly k clients servers disks blocks form es head events =
    throughout NamesAnswerTruly CutsHold (λ past t e sc d h. (truly past (step t e sc) (runs.said past t e sc d h), (runs.one past t e sc d h).1)) es []
    (traced (fresh_world k clients servers disks blocks form)) (runs.fresh_holds k clients servers disks blocks form head)
