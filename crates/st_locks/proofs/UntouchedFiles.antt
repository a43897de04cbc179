-- What a call leaves of the files that it does not touch: their rows and waits, or nobody who waits.
use Rattle.std.proofs.Common.{◌≡◌, ℕ, ◌+◌, ◌<◌, ◌⊎◌, Bool, true, false, cond, List, [], ◌∷◌, ◌++◌, map, filter, take, get_or, length, refl, sym, ap, subst, ◌∙◌, ⊎_elim, inl, inr, true≢false, arith}
use Rattle.std.specs.Prelude.{find, not, Option, Some, None, Ok, ◌==◌, ◌&&◌, ◌||◌}
use Rattle.std.specs.List.{list_any}
use Rattle.std.proofs.lemmas.Bool.{cases_Bool, eqb-true, ne_eqb, or_parts}
use Rattle.std.proofs.lemmas.List.{take_more}
use Rattle.std.proofs.lemmas.List.Folds.{list_any-append}
use Rattle.st_base.specs.declared.ids.ClientId.{ClientId}
use Rattle.st_base.specs.declared.ids.GrantNo.{GrantNo}
use Rattle.st_base.specs.declared.ids.Life.{Life}
use Rattle.st_base.specs.declared.mode.Mode.{Mode}
use Rattle.st_rules.specs.declared.locks.LockRow.{LockRow}
use Rattle.st_rules.specs.declared.locks.RowDemand.{RowDemand}
use Rattle.st_rules.specs.declared.locks.Waiter.{Waiter}
use Rattle.st_rules.specs.Locks.{Locks, drop_file_waits, drop_waits, first_conflict, forget, grantable, install, install_at, installed, is_row_by, is_row_of, is_row_on, is_wait_by, is_wait_of, is_wait_on, next_waiter, wish, with_rows}
use Rattle.st_tables.proofs.RisingKeys.{any_same, some_in, some_filter, some_map}
use Rattle.st_lock_tables.specs.WaitedFiles.{is_one_of, is_waited, is_waited_besides}
use Rattle.st_locks.specs.SettledFiles.{EachInWay, IsSettled, TouchedFiles, Marks, MarksAll, MarksWaited, Moments, is_file_of, is_held_up, is_low, is_marked, is_shared_wait, is_timed}
use Rattle.st_locks.proofs.Demanded.{none_waits}
use Rattle.st_locks.proofs.SettledFiles.{SameOn, each_same, next_same, none_found, same_dropped}

-- the file has the same rows and waits, or nobody waits for it
abbrev pub Rests : ℕ → Locks → Locks → Type 0
Rests j l m = SameOn j l m ⊎ (find (is_wait_on j) m.waiters ≡ None)

rests_granted : (l m : Locks) (j : ℕ) → Rests j l m → next_waiter l j ≡ None → next_waiter m j ≡ None
rests_granted l m j r h = ⊎_elim (λ s. next_same j l m s ∙ h) (λ e. ap (grantable m) e) r

rests_each : (P : Waiter → Option RowDemand → Bool) (l m : Locks) (cs : List ClientId) (j : ℕ) → Rests j l m → EachInWay l cs j P → EachInWay m cs j P
rests_each P l m cs j r h = ⊎_elim (λ s. each_same P j l m cs s h) (λ e. none_waits m cs j P e) r

-- a call that marks the files which it does not leave alone leaves a table settled
pub kept_rests : (l m : Locks) (g d h k : TouchedFiles) (ms : Moments) (cs : List ClientId) → IsSettled l g d ms cs → ((j : ℕ) → is_marked h j ≡ false → (is_marked g j ≡ false) × Rests j l m)
    → ((j : ℕ) → is_marked k j ≡ false → (is_marked d j ≡ false) × Rests j l m) → IsSettled m h k ms cs
kept_rests l m g d h k ms cs s a b = record {
  granted = λ j e. rests_granted l m j (a j e).1 (s.granted j (a j e).0);
  demanded = λ j e. rests_each (λ w o. is_low (wish w.mode) o) l m cs j (b j e).1 (s.demanded j (b j e).0);
  timed = λ j e. rests_each (λ w o. is_timed ms j o) l m cs j (b j e).1 (s.timed j (b j e).0);
}

pub kept_marked : (t : ℕ → Bool) (l m : Locks) (g d h k : TouchedFiles) (ms : Moments) (cs : List ClientId) → IsSettled l g d ms cs → ((j : ℕ) → t j ≡ false → Rests j l m) → MarksAll t g h → MarksAll t d k → IsSettled m h k ms cs
kept_marked t l m g d h k ms cs s r a b = kept_rests l m g d h k ms cs s (λ j e. ((a j e).0, r j (a j e).1)) (λ j e. ((b j e).0, r j (b j e).1))

-- One file.

left : (b d : Bool) → d ≡ true → b && d ≡ false → b ≡ false
left true d q e = absurd (true≢false (sym q ∙ e))
left false d q e = refl

waited_rests : (l m : Locks) (ino : ℕ) → ((j : ℕ) → (ino == j) ≡ false → SameOn j l m) → (j : ℕ) → is_waited m ino && (ino == j) ≡ false → Rests j l m
waited_rests l m ino f j e =
    ⊎_elim
    (λ q. inr (none_found (is_wait_on j) m.waiters (subst (λ i. is_waited m i ≡ false) (eqb-true ino j q) (left (is_waited m ino) (ino == j) q e))))
    (λ q. inl (f j q))
    (cases_Bool (ino == j))

-- a change of one file, which was marked if somebody waits for it, leaves a table settled
pub kept_waited : (l m : Locks) (ino : ℕ) (g d h k : TouchedFiles) (ms : Moments) (cs : List ClientId) → IsSettled l g d ms cs → ((j : ℕ) → (ino == j) ≡ false → SameOn j l m) → MarksWaited m ino g h → MarksWaited m ino d k → IsSettled m h k ms cs
kept_waited l m ino g d h k ms cs s f a b = kept_marked (λ j. is_waited m ino && (ino == j)) l m g d h k ms cs s (waited_rests l m ino f) a b

-- Lists without what passes a test.

module _ {A : Type 0} where
  none_step : (p : A → Bool) (x : A) (ys : List A) (d b rest : Bool) → p x ≡ d → (rest ≡ false → find p ys ≡ None) → (d && b) || rest ≡ false → find p (cond b (x ∷ ys) ys) ≡ None
  none_step p x ys true true rest q h e = absurd (true≢false e)
  none_step p x ys true false rest q h e = h e
  none_step p x ys false true rest q h e = ap (λ z. cond z (Some x) (find p ys)) q ∙ h e
  none_step p x ys false false rest q h e = h e

  -- if none passes both tests, the second leaves none that passes the first
  none_left : (p t : A → Bool) (xs : List A) → list_any (λ x. p x && t x) xs ≡ false → find p (filter t xs) ≡ None
  none_left p t [] e = refl
  none_left p t (x ∷ xs) e = none_step p x (filter t xs) (p x) (t x) (list_any (λ x. p x && t x) xs) refl (none_left p t xs) e

  not_both : (p : A → Bool) (xs : List A) → list_any (λ x. p x && not (p x)) xs ≡ false
  not_both p [] = refl
  not_both p (x ∷ xs) = λ i. none (p x) i || not_both p xs i
    where
      none : (b : Bool) → b && not b ≡ false
      none true = refl
      none false = refl

  same_step : (o : A → Bool) (x : A) (ys zs : List A) (b d rest : Bool) → o x ≡ d → (rest ≡ false → filter o ys ≡ zs) → (b && d) || rest ≡ false → filter o (cond (not b) (x ∷ ys) ys) ≡ cond (o x) (x ∷ zs) zs
  same_step o x ys zs true true rest u h e = absurd (true≢false e)
  same_step o x ys zs true false rest u h e = h e ∙ sym (ap (λ z. cond z (x ∷ zs) zs) u)
  same_step o x ys zs false d rest u h e = ap (λ l. cond (o x) (x ∷ l) l) (h e)

  -- what goes is none of these
  same_left : (q o : A → Bool) (xs : List A) → list_any (λ x. q x && o x) xs ≡ false → filter o (filter (λ x. not (q x)) xs) ≡ filter o xs
  same_left q o [] e = refl
  same_left q o (x ∷ xs) e = same_step o x (filter (λ x. not (q x)) xs) (filter o xs) (q x) (o x) (list_any (λ x. q x && o x) xs) refl (same_left q o xs) e

-- Waits and rows that go.

dropped_rests : (l : Locks) (ino j : ℕ) → Rests j l (drop_file_waits l ino)
unfolding drop_file_waits
dropped_rests l ino j =
    ⊎_elim
    (λ q. inr (subst (λ i. find (is_wait_on i) (filter (λ w. not (is_wait_on ino w)) l.waiters) ≡ None) (eqb-true ino j q) (none_left (is_wait_on ino) (λ w. not (is_wait_on ino w)) l.waiters (not_both (is_wait_on ino) l.waiters))))
    (λ q. inl (same_dropped l ino j q))
    (cases_Bool (ino == j))

-- if all waits for a file go, no file must be marked
pub kept_dropped : (l : Locks) (ino : ℕ) (g d : TouchedFiles) (ms : Moments) (cs : List ClientId) → IsSettled l g d ms cs → IsSettled (drop_file_waits l ino) g d ms cs
kept_dropped l ino g d ms cs s = kept_rests l (drop_file_waits l ino) g d g d ms cs s (λ j e. (e, dropped_rests l ino j)) (λ j e. (e, dropped_rests l ino j))

forgotten_rests : (l : Locks) (c : ClientId) (j : ℕ) → is_held_up l c j ≡ false → is_shared_wait l c j ≡ false → Rests j l (forget l c)
unfolding forget
forgotten_rests l c j e f =
    ⊎_elim
    (λ q.
    inl
    record {
      rows = same_left (is_row_by c) (is_row_on j) l.rows (left (list_any (is_row_of c j) l.rows) (is_waited_besides l c j) q e);
      waits = same_left (is_wait_by c) (is_wait_on j) l.waiters (left (list_any (is_wait_of c j) l.waiters) (is_waited_besides l c j) q f);
    })
    (λ q. inr (none_left (is_wait_on j) (λ w. not (is_wait_by c w)) l.waiters q))
    (cases_Bool (is_waited_besides l c j))

-- a client's rows and waits go; its files were marked if another client waits for them
pub kept_forgotten : (l : Locks) (c : ClientId) (g gs h d ds k : TouchedFiles) (ms : Moments) (cs : List ClientId) → IsSettled l g d ms cs → MarksAll (is_held_up l c) g gs → MarksAll (is_shared_wait l c) gs h → MarksAll (is_held_up l c) d ds → MarksAll (is_shared_wait l c) ds k
    → IsSettled (forget l c) h k ms cs
kept_forgotten l c g gs h d ds k ms cs s a b e f =
    kept_rests l (forget l c) g d h k ms cs s
    (λ j n. ((a j (b j n).0).0, forgotten_rests l c j (a j (b j n).0).1 (b j n).1))
    (λ j n. ((e j (f j n).0).0, forgotten_rests l c j (e j (f j n).0).1 (f j n).1))

waits_rest : (l : Locks) (c : ClientId) (j : ℕ) → is_shared_wait l c j ≡ false → Rests j l (drop_waits l c)
unfolding drop_waits
waits_rest l c j f =
    ⊎_elim
    (λ q. inl record { rows = refl; waits = same_left (is_wait_by c) (is_wait_on j) l.waiters (left (list_any (is_wait_of c j) l.waiters) (is_waited_besides l c j) q f) })
    (λ q. inr (none_left (is_wait_on j) (λ w. not (is_wait_by c w)) l.waiters q))
    (cases_Bool (is_waited_besides l c j))

-- a client's waits go; their files were marked if another client waits for them
pub kept_waits : (l : Locks) (c : ClientId) (g h d k : TouchedFiles) (ms : Moments) (cs : List ClientId) → IsSettled l g d ms cs → MarksAll (is_shared_wait l c) g h → MarksAll (is_shared_wait l c) d k → IsSettled (drop_waits l c) h k ms cs
kept_waits l c g h d k ms cs s a b = kept_marked (is_shared_wait l c) l (drop_waits l c) g d h k ms cs s (waits_rest l c) a b

-- Rows that are installed.

abbrev pub Row : Type 0
Row = ℕ × GrantNo × Mode

none_added : (c : ClientId) (life : Life) (j : ℕ) (rows : List Row) → is_file_of rows j ≡ false → filter (is_row_on j) (map (installed c life) rows) ≡ []
none_added c life j [] e = refl
none_added c life j (r ∷ rs) e =
    let a = or_parts (r.0 == j) (is_file_of rs j) e in
    ap (λ b. cond b (installed c life r ∷ filter (is_row_on j) (map (installed c life) rs)) (filter (is_row_on j) (map (installed c life) rs))) a.0 ∙ none_added c life j rs a.1

added_apart : (c : ClientId) (life : Life) (j : ℕ) (rows : List Row) (xs : List LockRow) → is_file_of rows j ≡ false → filter (is_row_on j) (xs ++ map (installed c life) rows) ≡ filter (is_row_on j) xs
added_apart c life j rows [] e = none_added c life j rows e
added_apart c life j rows (x ∷ xs) e = ap (λ zs. cond (is_row_on j x) (x ∷ zs) zs) (added_apart c life j rows xs e)

added_rests : (l : Locks) (c : ClientId) (life : Life) (rows : List Row) (j : ℕ) → is_file_of rows j && is_waited (with_rows l c life rows) j ≡ false → Rests j l (with_rows l c life rows)
unfolding with_rows
added_rests l c life rows j e =
    ⊎_elim
    (λ q. inr (none_found (is_wait_on j) l.waiters (right (is_file_of rows j) (is_waited l j) q e)))
    (λ q. inl record { rows = added_apart c life j rows l.rows q; waits = refl })
    (cases_Bool (is_file_of rows j))
  where
    right : (b d : Bool) → b ≡ true → b && d ≡ false → d ≡ false
    right true d q e = e
    right false d q e = absurd (true≢false (sym q))

all_added : (l m : Locks) (c : ClientId) (life : Life) (rows : List Row) (o : Option (ℕ × ClientId)) → install_at l c life rows o ≡ Ok m → with_rows l c life rows ≡ m
unfolding install_at
all_added l m c life rows None e = cc
all_added l m c life rows (Some conflict) e = cc

-- a client's rows are installed; their files were marked if somebody waits for them
pub kept_installed : (l m : Locks) (c : ClientId) (life : Life) (rows : List Row) (g h d k : TouchedFiles) (ms : Moments) (cs : List ClientId) → IsSettled l g d ms cs → install l c life rows ≡ Ok m → MarksAll (λ j. is_file_of rows j && is_waited m j) g h
    → MarksAll (λ j. is_file_of rows j && is_waited m j) d k → IsSettled m h k ms cs
unfolding install
kept_installed l m c life rows g h d k ms cs s z a b =
    kept_marked (λ j. is_file_of rows j && is_waited m j) l m g d h k ms cs s
    (λ j. subst (λ (x : Locks). is_file_of rows j && is_waited x j ≡ false → Rests j l x) (all_added l m c life rows (first_conflict l c rows) z) (added_rests l c life rows j))
    a b

-- if all files are marked, nothing is claimed
pub full_settled : (m : Locks) (h k : TouchedFiles) (ms : Moments) (cs : List ClientId) → ((j : ℕ) → is_marked h j ≡ true) → ((j : ℕ) → is_marked k j ≡ true) → IsSettled m h k ms cs
full_settled m h k ms cs a b = record {
  granted = λ j e. absurd (true≢false (sym (a j) ∙ e));
  demanded = λ j e. absurd (true≢false (sym (b j) ∙ e));
  timed = λ j e. absurd (true≢false (sym (b j) ∙ e));
}

-- Marks of one file after another.

-- the file is marked, if this is true
pub marked_if : (b : Bool) (ino : ℕ) (old new : TouchedFiles) → b ≡ true → Marks ino old new → MarksAll (λ j. b && (ino == j)) old new
marked_if b ino old new q a = subst (λ d. MarksAll (λ j. d && (ino == j)) old new) (sym q) a

pub unmarked_if : (b : Bool) (ino : ℕ) (old : TouchedFiles) → b ≡ false → MarksAll (λ j. b && (ino == j)) old old
unmarked_if b ino old q = subst (λ d. MarksAll (λ j. d && (ino == j)) old old) (sym q) (λ j e. (e, refl))

module _ {A : Type 0} (f : A → ℕ) (w : ℕ → Bool) where
  both : (a e t x : Bool) → (e ≡ true → x ≡ t) → a && t ≡ false → x && e ≡ false → (a || (e || false)) && t ≡ false
  both true e t x h p q = p
  both false true t true h p q = absurd (true≢false q)
  both false true t false h p q = sym (h refl)
  both false false t x h p q = refl

  pub one_marked : (xs : List A) (i : ℕ) (d : A) (a b c : TouchedFiles) → i < length xs → MarksAll (λ j. list_any (λ r. f r == j) (take i xs) && w j) a b → MarksAll (λ j. w (f (get_or xs i d)) && (f (get_or xs i d) == j)) b c
      → MarksAll (λ j. list_any (λ r. f r == j) (take (i + 1) xs) && w j) a c
  one_marked xs i d a b c l p q j e =
      let was = p j (q j e).0 in (
        was.0,
        ap (λ ys. list_any (λ r. f r == j) ys && w j) (take_more xs i d l)
            ∙ ap (λ z. z && w j) (list_any-append (λ r. f r == j) (take i xs) (get_or xs i d ∷ []))
            ∙ both (list_any (λ r. f r == j) (take i xs)) (f (get_or xs i d) == j) (w j) (w (f (get_or xs i d))) (λ s. ap w (eqb-true (f (get_or xs i d)) j s)) was.1 (q j e).1,
      )
